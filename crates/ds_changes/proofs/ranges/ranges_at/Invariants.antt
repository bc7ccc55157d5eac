use Rattle.std.proofs.Common.{◌≡◌, map, take}
use Rattle.cluster_model.specs.File.{shown}
use Rattle.ds_changes.specs.HeldRanges.{plain_held}
use Rattle.ds_changes.specs.Spans.{range_at}
use Rattle.ds_changes.proofs.ranges.ranges_at.Given as goal

abbrev pub invariant-loop-span : goal.invariant-loop-span
invariant-loop-span l = map plain_held l.ranges.items ≡ map (range_at (shown l.file)) (take l.span-index l.spans)
