use Rattle.std.proofs.Common.{◌≡◌, ◌++◌, map, take, drop}
use Rattle.recall.specs.Entries.{held_as}
use Rattle.recall.proofs.entries.hold.Given as goal

abbrev pub invariant-loop-entry : goal.invariant-loop-entry
invariant-loop-entry l = l.entry-items ≡ map (held_as l.client l.grant) (take l.entry-index l.fn.entries) ++ drop l.entry-index l.fn.entries
