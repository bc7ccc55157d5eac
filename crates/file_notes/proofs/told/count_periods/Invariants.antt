use Rattle.std.proofs.Common.{◌≡◌, ◌≤◌, take, length, filter}
use Rattle.mds_rule.specs.ServedFiles.{is_of_period}
use Rattle.file_notes.proofs.told.count_periods.Given as goal

abbrev pub invariant-loop-entry : goal.invariant-loop-entry
invariant-loop-entry l = record {
  count : l.count ≡ length (filter is_of_period (take l.entry-index l.entries));
  size : l.count ≤ l.entry-index;
}
