use Rattle.cluster_model.specs.Fences.{at_tick}
use Rattle.fence.proofs.Steps.{next_done}
use Rattle.fence.proofs.fence.tick_all.Goals as goal

pub loop-mirror-preserved : goal.loop-mirror-preserved
loop-mirror-preserved c =
    next_done at_tick c.args.mirrors.now c.loop-mirror.mirror-items c.loop-mirror.mirror-index _ c.at_tick.result c.loop-mirror-test.true c.loop-mirror.auto.mirror-items c.loop-mirror.invariant c.at_tick.ensures
