use Rattle.std.proofs.Common.{rules}
use Rattle.std.proofs.lemmas.List.Sorted.{IsNonDecreasingBy-from_sort_by_key}
use Rattle.ds_changes.specs.declared.span.Span.{Span}
use Rattle.ds_changes.proofs.span.sort_spans.Goals as goal

pub returns-clause-sorted : goal.returns-clause-sorted
returns-clause-sorted c = IsNonDecreasingBy-from_sort_by_key (λ (s : Span). s.at) _ c.sort_unstable_by_key.ensures.sorted (λ a r q k. search rules)
