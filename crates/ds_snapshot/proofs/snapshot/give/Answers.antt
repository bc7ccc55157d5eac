use Rattle.ds_snapshot.proofs.Written.{boot_short, root_short}
use Rattle.ds_snapshot.proofs.snapshot.give.Goals as goal

pub spelled-requires-clause-short : goal.spelled-requires-clause-short
spelled-requires-clause-short c = boot_short c.clock.result.boot

pub spelled-requires-in-Root-clause-short : goal.spelled-requires-in-Root-clause-short
spelled-requires-in-Root-clause-short c = root_short c.root.result
