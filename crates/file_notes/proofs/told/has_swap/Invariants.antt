use Rattle.std.proofs.Common.{◌≡◌, false, take}
use Rattle.std.specs.List.{list_any}
use Rattle.mds_rule.specs.ServedFiles.{is_swap}
use Rattle.file_notes.proofs.told.has_swap.Given as goal

abbrev pub invariant-loop-entry : goal.invariant-loop-entry
invariant-loop-entry l = list_any is_swap (take l.entry-index l.entries) ≡ false
