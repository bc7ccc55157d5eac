use Rattle.std.proofs.Common.{◌≡◌, ◌++◌, map, take, drop}
use Rattle.mds_rule.specs.ServedFiles.{begins_again}
use Rattle.served_files.proofs.reading.restart.Given as goal

abbrev pub invariant-loop-waiting : goal.invariant-loop-waiting
invariant-loop-waiting l = l.waiting-items ≡ map (begins_again l.live) (take l.waiting-index l.fn.reads) ++ drop l.waiting-index l.fn.reads
