use Rattle.recall.specs.Entries.{ticked}
use Rattle.recall.proofs.Loops.{next_done}
use Rattle.recall.proofs.entries.tick_all.Goals as goal

pub loop-entry-preserved : goal.loop-entry-preserved
loop-entry-preserved c =
    next_done ticked c.args.entries.now c.loop-entry.entry-items c.loop-entry.entry-index _ c.ticked.result c.loop-entry-test.true c.loop-entry.auto.entry-items c.loop-entry.invariant c.ticked.ensures
