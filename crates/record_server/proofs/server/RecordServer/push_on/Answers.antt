use Rattle.std.proofs.Common.{◌≡◌, Bool, false, List, ap, subst, sym, ◌∙◌}
use Rattle.record_link.specs.Peers.{PeerState}
use Rattle.record_server.specs.Server.{ServingState, PassesUnless, has_settled}
use Rattle.record_server.proofs.server.RecordServer.push_on.Goals as goal

pub returns : goal.returns
returns g c =
    let mid : ServingState = c.push_all.new.self in
    let listed : c.deref.result.now ≡ mid.peers = c.deref.ensures.value ∙ ap (λ (s : ServingState). s.peers) c.self.view_is in
    let settled : has_settled mid.peers ≡ false = ap (λ (es : List PeerState). has_settled es) (sym listed) ∙ sym c.has_settled.ensures ∙ c.if-has_settled.false in
    (mid, c.push_all.ensures, subst (λ (b : Bool). PassesUnless b mid c.pass.result c.pass.new.self) (sym settled) c.pass.ensures)
