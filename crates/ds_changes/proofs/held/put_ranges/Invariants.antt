use Rattle.std.proofs.Common.{◌≡◌, ◌++◌, map, take}
use Rattle.ds_changes.specs.HeldRanges.{plain_held, ranges_text}
use Rattle.ds_changes.proofs.held.put_ranges.Given as goal

-- the ranges before this one are written
abbrev pub invariant-loop-range : goal.invariant-loop-range
invariant-loop-range l = l.out ≡ l.fn.out ++ ranges_text (map plain_held (take l.range-index l.ranges))
