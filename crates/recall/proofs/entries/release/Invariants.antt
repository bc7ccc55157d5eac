use Rattle.std.proofs.Common.{◌≡◌, ◌++◌, map, take, drop}
use Rattle.recall.specs.Entries.{released}
use Rattle.recall.proofs.entries.release.Given as goal

abbrev pub invariant-loop-entry : goal.invariant-loop-entry
invariant-loop-entry l = l.entry-items ≡ map (released l.ended) (take l.entry-index l.fn.entries) ++ drop l.entry-index l.fn.entries
