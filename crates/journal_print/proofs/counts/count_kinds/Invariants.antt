use Rattle.std.proofs.Common.{◌≡◌, map, take}
use Rattle.journal_print.specs.Counts.{kinds, count_of_kind}
use Rattle.journal_print.proofs.counts.count_kinds.Given as goal

abbrev pub invariant-loop-entry : goal.invariant-loop-entry
invariant-loop-entry l = l.counts ≡ map (count_of_kind (take l.entry-index l.entries)) kinds
