use Rattle.std.proofs.Common.{arith, ◌≡◌, ◌+◌, ◌<◌, ◌^◌, ap, subst, sym, ◌∙◌, List, [], ◌∷◌, ◌++◌, length, refl, Option, Ok}
use Rattle.record_link.specs.Peers.{PeerState, new_peer}
use Rattle.record_server.specs.declared.server.TheConstants.{MOST_OPEN}
use Rattle.record_server.specs.Network.{made_more, MakesOne}
use Rattle.record_server.specs.Server.{ServingState, IsOrderly}
use Rattle.record_server.proofs.OrderLemmas.{orderly_push}
use Rattle.record_server.proofs.server.RecordServer.connect.Goals as goal

pub invariant_of-self-2 : goal.invariant_of-self-2
invariant_of-self-2 g c =
    let s = c.self.inside in
    let conn = c.in-Some.conn in
    let e : PeerState = new_peer (s.given + 1) s.time (g.N.Conn.Stream.coming conn) (g.N.Conn.Stream.gone conn) (g.N.Conn.Stream.faults conn) in
    let items : c.push.new.self.items ≡ s.peers.items ++ e ∷ [] = c.in_ok-push.ensures.items ∙ (λ i. c.in_ok-reserve.ensures.items i ++ c.new-peer.ensures i ∷ []) in
    subst (λ (es : List PeerState). IsOrderly es (s.given + 1) s.place) (sym items) (orderly_push s.peers.items s.given s.place e refl c.self.invariant)

pub returns : goal.returns
returns g c =
    let s = c.self.inside in
    let conn = c.in-Some.conn in
    let coming = g.N.Conn.Stream.coming conn in
    let gone = g.N.Conn.Stream.gone conn in
    let faults = g.N.Conn.Stream.faults conn in
    let e : PeerState = new_peer (s.given + 1) s.time coming gone faults in
    let items : c.push.new.self.items ≡ s.peers.items ++ e ∷ [] = c.in_ok-push.ensures.items ∙ (λ i. c.in_ok-reserve.ensures.items i ++ c.new-peer.ensures i ∷ []) in
    let listed : c.self.inside.peers.items ≡ c.args.self.now.peers = ap (λ (x : ServingState). x.peers) c.self.view_is in
    let long : length s.peers.items ≡ length c.args.self.now.peers = ap length listed in
    let few : length c.args.self.now.peers < MOST_OPEN = omega (arith, long, c.if-len-ge-MOST_OPEN.false, c.len.ensures, s.peers.ok.0) in
    let number : s.given + 1 < 2 ^ 32 = grind arith in
    let all : c.push.new.self.items ≡ c.args.self.now.peers ++ new_peer (s.given + 1) c.args.self.now.time coming gone faults ∷ [] =
    items ∙ ap (λ (x : ServingState). x.peers ++ new_peer (s.given + 1) x.time coming gone faults ∷ []) c.self.view_is in
    let waiting : g.N.Network.waiting c.connect.new.self ≡ c.args.self.now.waiting = c.connect.ensures.waiting ∙ ap (λ (x : ServingState). x.waiting) c.self.view_is in
    let made : g.N.Network.made c.connect.new.self ≡ made_more c.args.self.now.made (s.given + 1) c.args.address =
    subst (λ (r : Option _). MakesOne (g.N.Network.made s.network) (s.given + 1) c.args.address (Ok r) (g.N.Network.made c.connect.new.self)) c.in-Some.is c.in_ok-conn.ensures.made ∙ ap (λ (x : ServingState). made_more x.made (s.given + 1) c.args.address) c.self.view_is in
    let reported : g.N.Network.reported c.connect.new.self ≡ c.args.self.now.reported = c.connect.ensures.reported ∙ ap (λ (x : ServingState). x.reported) c.self.view_is in
    let moment : g.N.Network.moment c.connect.new.self ≡ c.args.self.now.moment = c.connect.ensures.moment ∙ ap (λ (x : ServingState). x.moment) c.self.view_is in
    let met : g.N.Network.faults c.connect.new.self ≡ c.args.self.now.faults = c.connect.ensures.faults ∙ ap (λ (x : ServingState). x.faults) c.self.view_is in (
      coming,
      gone,
      faults,
      (
        few,
        ap (λ (x : ServingState). x.given + 1) c.self.view_is,
        number,
        (λ i. record (c.self.view_is i) { peers = all i; given = s.given + 1; waiting = waiting i; made = made i; reported = reported i; moment = moment i; faults = met i }),
      ),
    )
