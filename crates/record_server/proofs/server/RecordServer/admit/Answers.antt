use Rattle.std.proofs.Common.{◌≡◌, ◌+◌, ◌∙◌, ℕ, List, [], ◌∷◌, ◌++◌, ap, subst, sym}
use Rattle.record_link.specs.Peers.{PeerState}
use Rattle.record_server.specs.Server.{ServingState, IsOrderly}
use Rattle.record_server.proofs.OrderLemmas.{orderly_push}
use Rattle.record_server.proofs.server.RecordServer.admit.Goals as goal

pub invariant_of-self-2 : goal.invariant_of-self-2
invariant_of-self-2 g c =
    let s = c.self.inside in
    let t = c.self-2.inside in
    let e : PeerState = c.new-peer.result in
    let given : t.given ≡ s.given = ap (λ (x : ServingState). x.given) c.self-2.view_is ∙ ap (λ (x : ServingState). x.given) c.make_room.ensures.rest ∙ sym (ap (λ (x : ServingState). x.given) c.self.view_is) in
    let number : e.number ≡ s.given + 1 = ap (λ (x : PeerState). x.number) c.new-peer.ensures in
    let items : c.push.new.self.items ≡ t.peers.items ++ e ∷ [] = c.in_ok-push.ensures.items in
    let next : e.number ≡ t.given + 1 = number ∙ ap (λ (n : ℕ). n + 1) (sym given) in
    subst (λ (es : List PeerState). IsOrderly es (s.given + 1) t.place) (sym items) (subst (λ (n : ℕ). IsOrderly (t.peers.items ++ e ∷ []) n t.place) number (orderly_push t.peers.items t.given t.place e next c.self-2.invariant))
