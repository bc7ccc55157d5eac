use Rattle.cluster_model.specs.Fences.{stage_at_tick}
use Rattle.file_rule.specs.MdsFiles.{in_stage}
use Rattle.mds_creations.proofs.CreationSteps.{next_done}
use Rattle.mds_creations.proofs.creations.tick_all.Goals as goal

pub loop-item-preserved : goal.loop-item-preserved
loop-item-preserved c =
    next_done (λ x. in_stage x (stage_at_tick x.stage)) c.args.items.now c.loop-item.item-items c.loop-item.item-index _ c.at_tick.result c.loop-item-test.true c.loop-item.auto.item-items c.loop-item.invariant c.at_tick.ensures
