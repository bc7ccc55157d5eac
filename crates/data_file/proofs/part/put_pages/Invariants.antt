use Rattle.std.proofs.Common.{◌≡◌, ◌-◌, ◌≤◌, ◌++◌, max}
use Rattle.data_file.specs.Paged.{part_of, upper_of}
use Rattle.data_file.proofs.part.put_pages.Given as goal

abbrev pub invariant-loop-at : goal.invariant-loop-at
invariant-loop-at l = record {
  low : l.from ≤ l.at;
  high : l.at ≤ max l.from l.end;
  so_far : l.out ≡ l.fn.out ++ part_of l.stable (upper_of l.dirty) l.from l.at;
}

abbrev pub decreases-loop-at : goal.decreases-loop-at
decreases-loop-at l = l.end - l.at
