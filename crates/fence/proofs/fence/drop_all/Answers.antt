use Rattle.cluster_model.specs.Fences.{dropped_if}
use Rattle.fence.proofs.Steps.{next_done}
use Rattle.fence.proofs.fence.drop_all.Goals as goal

pub loop-mirror-preserved : goal.loop-mirror-preserved
loop-mirror-preserved c =
    next_done (dropped_if c.args.id) c.args.mirrors.now c.loop-mirror.mirror-items c.loop-mirror.mirror-index _ c.dropped_if.result c.loop-mirror-test.true c.loop-mirror.auto.mirror-items c.loop-mirror.invariant c.dropped_if.ensures
