use Rattle.std.proofs.Common.{sym, ap, ◌∙◌}
use Rattle.std.specs.List.{position}
use Rattle.cluster_model.specs.Fences.{waits}
use Rattle.fence.proofs.Steps.{call_here, place_within}
use Rattle.fence.proofs.fence.Fence.send_next.Goals as goal

pub returns : goal.returns
returns c =
    let place = c.in_ok-place.place in
    let items = c.self.inside.mirrors.items in
    let found = sym (ap (position (λ m. waits m.stage)) c.as_slice.ensures.value) ∙ sym c.waiting.ensures ∙ c.in_ok-place.was in
    rw (← c.self.view_is) (call_here c.self.inside.cred.0 c.args.xid items c.deref.result.now c.deref_mut.result.now place _ c.with_stage.result
    found (place_within _ items place found) c.deref.ensures.0 c.deref_mut.ensures.value c.with_stage.ensures)
