use Rattle.std.proofs.Common.{◌≡◌, ◌++◌, map, take, drop}
use Rattle.recall.specs.Entries.{ticked}
use Rattle.recall.proofs.entries.tick_all.Given as goal

abbrev pub invariant-loop-entry : goal.invariant-loop-entry
invariant-loop-entry l = l.entry-items ≡ map ticked (take l.entry-index l.fn.entries) ++ drop l.entry-index l.fn.entries
