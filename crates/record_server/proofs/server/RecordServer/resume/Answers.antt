use Rattle.std.proofs.Common.{◌≡◌, ◌∙◌, ap, List, map, subst, sym, length}
use Rattle.std.proofs.lemmas.List.{length-map, with_items_is}
use Rattle.record_link.specs.Peers.{PeerState}
use Rattle.record_server.specs.Server.{IsOrderly, resumed_by}
use Rattle.record_server.proofs.OrderLemmas.{orderly_map}
use Rattle.record_server.proofs.NumberLemmas.{resumed_number}
use Rattle.record_server.proofs.server.RecordServer.resume.Goals as goal

pub invariant_of-self : goal.invariant_of-self
invariant_of-self g c =
    let s = c.self.inside in
    let tries = resumed_by c.reports-2.result.now in
    let news : c.resume_reported.new.peers ≡ map tries s.peers.items = c.resume_reported.ensures ∙ ap (λ (es : List PeerState). map tries es) c.deref_mut.ensures.value in
    let long : length c.resume_reported.new.peers ≡ s.peers.len = ap length news ∙ length-map s.peers.items tries ∙ sym s.peers.ok.0 in
    subst (λ (es : List PeerState). IsOrderly es s.given s.place) (sym (with_items_is s.peers c.resume_reported.new.peers long ∙ news))
    (orderly_map tries (resumed_number c.reports-2.result.now) s.peers.items s.given s.place c.self.invariant)
