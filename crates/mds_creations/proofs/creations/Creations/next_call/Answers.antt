use Rattle.std.proofs.Common.{sym, ap, subst, ◌∙◌}
use Rattle.std.specs.List.{position}
use Rattle.cluster_model.specs.declared.call_stage.CallStage.TheVariants.{Out}
use Rattle.cluster_model.specs.Fences.{waits}
use Rattle.file_rule.specs.MdsFiles.{in_stage}
use Rattle.mds_creations.specs.Makings.{AreCreations}
use Rattle.mds_creations.proofs.MakingLemmas.{sent_ok}
use Rattle.mds_creations.proofs.CreationSteps.{place_within, place_passes, set_here, sent_here}
use Rattle.mds_creations.proofs.creations.Creations.next_call.Goals as goal

pub invariant_of-self : goal.invariant_of-self
invariant_of-self c =
    let items = c.self.inside.items.items in
    let place = c.in_ok-place.place in
    let found = sym (ap (position (λ x. waits x.stage)) c.as_slice.ensures.value) ∙ sym c.waiting.ensures ∙ c.in_ok-place.was in
    let within = place_within (λ x. waits x.stage) items place found in
    subst AreCreations (sym (set_here items c.deref.result.now c.deref_mut.result.now place _ c.in_stage.result (λ x. in_stage x (Out c.args.xid 0)) c.deref.ensures.0 c.deref_mut.ensures.value c.in_stage.ensures))
    (sent_ok items place _ within c.self.invariant c.args.xid (place_passes (λ x. waits x.stage) items place _ found))

pub returns : goal.returns
returns c =
    let items = c.self.inside.items.items in
    let place = c.in_ok-place.place in
    let found = sym (ap (position (λ x. waits x.stage)) c.as_slice.ensures.value) ∙ sym c.waiting.ensures ∙ c.in_ok-place.was in
    rw (← c.self.view_is) (sent_here c.self.inside.owner.0 c.args.xid items c.deref.result.now c.deref_mut.result.now place _ c.in_stage.result found (place_within (λ x. waits x.stage) items place found) c.deref.ensures.0 c.deref_mut.ensures.value c.in_stage.ensures)
