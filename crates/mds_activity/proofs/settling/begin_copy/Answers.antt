use Rattle.mds_activity.proofs.PlanFits.{plan_fits_then}
use Rattle.mds_activity.proofs.settling.begin_copy.Goals as goal

pub copy_from-requires-clause-fit : goal.copy_from-requires-clause-fit
copy_from-requires-clause-fit c =
    plan_fits_then c.args.file c.args.copies c.args.layout.now c.settle.new.layout _ c.args.fresh.now c.plan_of-plan.result.items c.as_slice.result.now c.requires.few c.plan_of-plan.ensures.mirrors c.plan_of-plan.ensures.plan c.as_slice.ensures.value c.settle.ensures.file
