use Rattle.std.proofs.Common.{◌≡◌, ◌+◌, ◌∙◌, ℕ, List, ◌++◌, take, drop, ap, subst, sym, add-one}
use Rattle.record_link.specs.Peers.{PeerState}
use Rattle.record_server.specs.Server.{ServingState, IsOrderly}
use Rattle.record_server.proofs.OrderLemmas.{orderly_removed}
use Rattle.record_server.proofs.server.RecordServer.make_room.Goals as goal

pub invariant_of-self : goal.invariant_of-self
invariant_of-self g c =
    let s = c.self.inside in
    let first : s.place ≡ 0 = ap (λ (x : ServingState). x.place) c.self.view_is ∙ c.requires.first in
    let items : c.remove.new.self.items ≡ take c.in-Some.place s.peers.items ++ drop (c.in-Some.place + 1) s.peers.items =
    c.remove.ensures.items ∙ ap (λ (n : ℕ). take c.in-Some.place s.peers.items ++ drop n s.peers.items) (sym (add-one c.in-Some.place)) in
    let orderly : IsOrderly s.peers.items s.given 0 = subst (λ (n : ℕ). IsOrderly s.peers.items s.given n) first c.self.invariant in
    subst (λ (n : ℕ). IsOrderly c.remove.new.self.items s.given n) (sym first) (subst (λ (es : List PeerState). IsOrderly es s.given 0) (sym items) (orderly_removed s.peers.items s.given c.in-Some.place orderly))
