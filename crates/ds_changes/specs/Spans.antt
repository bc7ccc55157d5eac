-- Places of a file's bytes, from one up to another.
use Rattle.std.specs.Prelude.{ℕ, ◌+◌, ◌-◌, ◌<◌, ◌≤◌, List, [], ◌∷◌, length, take, drop, ◌⊎◌, ◌↔◌}
use Rattle.std.specs.List.{AllByRecursion}
use Rattle.cluster_model.specs.declared.limits.TheConstants.{MAX_FILE}
use Rattle.cluster_model.specs.Content.{Pending}
use Rattle.ds_changes.specs.declared.span.Span.{Span}

-- where a write stands
abbrev pub span_of : Pending → Span
span_of w = record { at = w.at; end = w.at + length w.bytes }

abbrev pub IsOfSpan : ℕ → Span → Type 0
IsOfSpan place s = (s.at ≤ place) × (place < s.end)

-- a place is in one of the spans
abbrev pub IsInSpans : ℕ → List Span → Type 0
IsInSpans place [] = ⊥
IsInSpans place (s ∷ ss) = IsOfSpan place s ⊎ IsInSpans place ss

-- a span has places, and a file may have bytes there
pub record IsSpan (s : Span) : Type 0 where
  pub some : s.at < s.end
  pub bounded : s.end ≤ MAX_FILE

-- each begins where the one before does, or behind it; and the first not before a place
abbrev pub AreSpansRising : ℕ → List Span → Type 0
AreSpansRising low [] = Unit {0}
AreSpansRising low (s ∷ ss) = (low ≤ s.at) × AreSpansRising s.at ss

-- each ends before the next begins
abbrev pub AreSpansApart : List Span → Type 0
AreSpansApart [] = Unit {0}
AreSpansApart (s ∷ []) = Unit {0}
AreSpansApart (s ∷ (t ∷ ss)) = (s.end < t.at) × AreSpansApart (t ∷ ss)

-- The spans have the places of these spans, and they are apart.
pub record JoinSpans (spans joined : List Span) : Type 0 where
  pub covers : (place : ℕ) → IsInSpans place joined ↔ IsInSpans place spans
  pub sound : AllByRecursion IsSpan joined
  pub apart : AreSpansApart joined

-- what is joined so far with one span more, which begins behind the last's beginning
pub record AddsSpan (old : List Span) (span : Span) (new : List Span) : Type 0 where
  pub covers : (place : ℕ) → IsInSpans place new ↔ (IsInSpans place old ⊎ IsOfSpan place span)
  pub sound : AllByRecursion IsSpan old → IsSpan span → AllByRecursion IsSpan new
  pub apart : AreSpansApart old → AreSpansApart new

-- the bytes that are shown at a span
abbrev pub range_at : List ℕ → Span → Pending
range_at shown s = record { at = s.at; bytes = take (s.end - s.at) (drop s.at shown) }
