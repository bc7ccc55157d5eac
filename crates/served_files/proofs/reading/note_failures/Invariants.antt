use Rattle.std.proofs.Common.{◌≡◌, ◌++◌, map, take, drop}
use Rattle.mds_rule.specs.Answers.{failed_entry}
use Rattle.served_files.proofs.reading.note_failures.Given as goal

abbrev pub invariant-loop-failure : goal.invariant-loop-failure
invariant-loop-failure l = l.entries.items ≡ l.fn.entries.items ++ map failed_entry (take l.failure-index (drop l.before l.read.failures))
