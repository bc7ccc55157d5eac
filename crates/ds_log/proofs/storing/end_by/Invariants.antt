use Rattle.std.proofs.Common.{◌≡◌}
use Rattle.ds_log.specs.PlainBodies.{plain_ranges}
use Rattle.ds_log.specs.Applies.{end_by}
use Rattle.ds_log.proofs.storing.end_by.Given as goal

-- the end by all ranges is that by those that are left
abbrev pub invariant-loop-range : goal.invariant-loop-range
invariant-loop-range l =
    (goal.iterator-loop-range).can_next l.range-iterator
    × (goal.iterator-loop-range).is_finite l.range-iterator
    × (end_by l.end (plain_ranges l.range-iterator.rest) ≡ end_by l.fn.size (plain_ranges l.fn.ranges.place))
