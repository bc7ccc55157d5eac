use Rattle.std.proofs.Common.{sym, ap, ◌∙◌}
use Rattle.std.specs.List.{position}
use Rattle.cluster_model.specs.Fences.{waits}
use Rattle.copy_rule.specs.Copies.{CopyState}
use Rattle.resilver.proofs.Steps.{call_here, place_within}
use Rattle.resilver.proofs.copy.Copy.send_next.Goals as goal

pub returns-in-Some : goal.returns-in-Some
returns-in-Some c =
    let k = c.self.inside in
    let s : CopyState = record { copier = k.copier.0; source = k.source; at = k.at; piece = k.piece; ended = k.ended; read = k.read; targets = k.targets.items } in
    let place = c.in-Some.place in
    let found = sym (ap (position (λ t. waits t.stage)) c.as_slice.ensures.value) ∙ sym c.waiting.ensures ∙ c.in-Some.is in
    rw (← c.self.view_is) (call_here s c.args.xid c.deref.result.now c.deref_mut.result.now place _ c.at_stage.result c.next_for-call.result c.caller_for.result
    found (place_within _ k.targets.items place found) c.deref.ensures.0 c.deref_mut.ensures.value c.at_stage.ensures c.next_for-call.ensures c.caller_for.ensures)
