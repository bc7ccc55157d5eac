use Rattle.copy_rule.specs.Copies.{to_write}
use Rattle.resilver.proofs.Steps.{next_done}
use Rattle.resilver.proofs.targets.write_all.Goals as goal

pub loop-target-preserved : goal.loop-target-preserved
loop-target-preserved c =
    next_done (to_write c.args.piece.now) c.args.targets.now c.loop-target.target-items c.loop-target.target-index _ c.to_write.result c.loop-target-test.true c.loop-target.auto.target-items c.loop-target.invariant c.to_write.ensures
