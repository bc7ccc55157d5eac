use Rattle.std.proofs.Common.{◌≡◌, ◌-◌, length, map, take}
use Rattle.std.specs.List.{AllByRecursion}
use Rattle.ds_changes.specs.Spans.{span_of, IsSpan}
use Rattle.ds_changes.proofs.span.pending_spans.Given as goal

abbrev pub invariant-loop-at : goal.invariant-loop-at
invariant-loop-at l = record {
  taken : l.spans.items ≡ take (length l.spans.items) (map span_of l.file.content.pending);
  sound : AllByRecursion IsSpan l.spans.items;
}

abbrev pub decreases-loop-at : goal.decreases-loop-at
decreases-loop-at l = length l.file.content.pending - length l.spans.items
