use Rattle.recall.specs.Entries.{held_as}
use Rattle.recall.proofs.Loops.{next_done}
use Rattle.recall.proofs.entries.hold.Goals as goal

pub loop-entry-preserved : goal.loop-entry-preserved
loop-entry-preserved c =
    next_done (held_as c.args.client c.args.grant) c.args.entries.now c.loop-entry.entry-items c.loop-entry.entry-index _ c.held_as.result c.loop-entry-test.true c.loop-entry.auto.entry-items c.loop-entry.invariant c.held_as.ensures
