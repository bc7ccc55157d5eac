use Rattle.recall.specs.Entries.{released}
use Rattle.recall.proofs.Loops.{next_done}
use Rattle.recall.proofs.entries.release.Goals as goal

pub loop-entry-preserved : goal.loop-entry-preserved
loop-entry-preserved c =
    next_done (released c.args.ended) c.args.entries.now c.loop-entry.entry-items c.loop-entry.entry-index _ c.released.result c.loop-entry-test.true c.loop-entry.auto.entry-items c.loop-entry.invariant c.released.ensures
