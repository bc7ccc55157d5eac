use Rattle.ds_log.specs.PlainBodies.{plain_ranges}
use Rattle.ds_log.proofs.HeldRanges.{Written}
use Rattle.ds_log.proofs.storing.write_ranges.Given as goal

-- some of the ranges are written, and the others are left
abbrev pub invariant-loop-range : goal.invariant-loop-range
invariant-loop-range l =
    (goal.iterator-loop-range).can_next l.range-iterator
    × (goal.iterator-loop-range).is_finite l.range-iterator
    × Written l.fn.file l.fn.tick (plain_ranges l.fn.ranges.place) (plain_ranges l.range-iterator.rest) l.file
