use Rattle.std.proofs.Common.{◌≡◌, ◌++◌, take}
use Rattle.journal_print.specs.Brief.{brief}
use Rattle.ff_replay.proofs.writing.print_brief.Given as goal

abbrev pub invariant-loop-entry : goal.invariant-loop-entry
invariant-loop-entry l = l.out ≡ l.fn.out ++ brief (take l.entry-index l.entries)
