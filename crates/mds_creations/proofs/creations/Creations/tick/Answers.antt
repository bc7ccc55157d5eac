use Rattle.std.proofs.Common.{length, sym, ap, subst, ◌∙◌, map}
use Rattle.std.proofs.lemmas.List.{length-map}
use Rattle.cluster_model.specs.Fences.{stage_at_tick}
use Rattle.file_rule.specs.MdsFiles.{in_stage}
use Rattle.mds_creations.specs.Makings.{AreCreations}
use Rattle.mds_creations.proofs.MakingLemmas.{tick_ok}
use Rattle.mds_creations.proofs.CreationSteps.{refilled}
use Rattle.mds_creations.proofs.creations.Creations.tick.Goals as goal

pub invariant_of-self : goal.invariant_of-self
invariant_of-self c =
    let items = c.self.inside.items.items in
    let new = c.tick_all.ensures ∙ ap (map (λ x. in_stage x (stage_at_tick x.stage))) c.as_mut_slice.ensures.value in
    subst AreCreations (sym (refilled items c.tick_all.new.items (ap length new ∙ length-map items _) ∙ new)) (tick_ok items c.self.invariant)
