use Rattle.std.proofs.Common.{sym, ap, ◌∙◌}
use Rattle.cluster_model.specs.DsCalls.{plain_ds_reply}
use Rattle.cluster_model.specs.Fences.{answered}
use Rattle.std.specs.List.{position}
use Rattle.cluster_model.specs.Fences.{is_out}
use Rattle.fence.proofs.Steps.{step_here, place_within}
use Rattle.fence.proofs.fence.Fence.on_reply.Goals as goal

pub returns : goal.returns
returns c =
    let place = c.in-Some.place in
    let items = c.self.inside.mirrors.items in
    let found = sym (ap (position (λ m. is_out c.args.xid m.stage)) c.as_slice.ensures.value) ∙ sym c.outstanding.ensures ∙ c.in-Some.is in
    rw (← c.self.view_is) (step_here c.self.inside.cred.0 items c.deref.result.now c.deref_mut.result.now _ place _ (λ m. answered c.self.inside.cred.0 m (plain_ds_reply c.args.reply.now)) (record { mirror = c.answered-step.result.0; step = c.answered-step.result.1 })
    found (place_within _ items place found) c.deref.ensures.0 c.deref_mut.ensures.value c.answered-step.ensures)
