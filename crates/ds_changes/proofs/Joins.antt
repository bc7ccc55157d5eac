-- The bytes that are shown at joined spans are the joined ranges.
use Rattle.std.proofs.Common.{◌≡◌, ℕ, ◌-◌, ◌<◌, ◌≤◌, List, [], ◌∷◌, length, take, drop, map, min, refl, sym, ap, subst, arith, inl, inr}
use Rattle.std.specs.List.{AllByRecursion}
use Rattle.std.specs.List.Sorted.{IsPermutation}
use Rattle.std.proofs.lemmas.List.{length-take, length-drop}
use Rattle.std.proofs.lemmas.List.Sorted.{IsPermutation-sym}
use Rattle.cluster_model.specs.Content.{Pending, overlay_all}
use Rattle.ds_changes.specs.declared.span.Span.{Span}
use Rattle.ds_changes.specs.Joined.{IsInRanges, IsShown, AreRangesApart, AreJoined}
use Rattle.ds_changes.specs.Spans.{span_of, IsInSpans, IsSpan, AreSpansApart, JoinSpans, range_at}
use Rattle.ds_changes.proofs.Covering.{reach}
use Rattle.ds_changes.proofs.Spanning.{all_permuted, in_permuted, spans_in, in_spans}

-- a span that ends within the bytes
abbrev EndsBy : ℕ → Span → Type 0
EndsBy n s = s.end ≤ n

range_length : (shown : List ℕ) (s : Span) → s.end ≤ length shown → length (range_at shown s).bytes ≡ s.end - s.at
range_length shown s ends =
    let size : length (take (s.end - s.at) (drop s.at shown)) ≡ min (s.end - s.at) (length shown - s.at) = simp (length-take, length-drop) refl in
    omega (arith, size, ends)

-- ---- each span

module _ (shown : List ℕ) where
  to_span : (place : ℕ) (ss : List Span) → AllByRecursion IsSpan ss → AllByRecursion (EndsBy (length shown)) ss → IsInRanges place (map (range_at shown) ss) → IsInSpans place ss
  to_span place [] sound ends is = is
  to_span place (s ∷ ss) sound ends (inl of) = inl (of.0, omega (arith, of.1, range_length shown s ends.0, sound.0.some))
  to_span place (s ∷ ss) sound ends (inr is) = inr (to_span place ss sound.1 ends.1 is)

  of_span : (place : ℕ) (ss : List Span) → AllByRecursion IsSpan ss → AllByRecursion (EndsBy (length shown)) ss → IsInSpans place ss → IsInRanges place (map (range_at shown) ss)
  of_span place [] sound ends is = is
  of_span place (s ∷ ss) sound ends (inl of) = inl (of.0, omega (arith, of.1, range_length shown s ends.0, sound.0.some))
  of_span place (s ∷ ss) sound ends (inr is) = inr (of_span place ss sound.1 ends.1 is)

  all_shown : (ss : List Span) → AllByRecursion IsSpan ss → AllByRecursion (EndsBy (length shown)) ss → AllByRecursion (IsShown shown) (map (range_at shown) ss)
  all_shown [] sound ends = tt
  all_shown (s ∷ ss) sound ends =
      let long = range_length shown s ends.0 in (
        record { some = omega (arith, long, sound.0.some); same = ap (λ (n : ℕ). take n (drop s.at shown)) long },
        all_shown ss sound.1 ends.1,
      )

  apart_ranges : (ss : List Span) → AllByRecursion IsSpan ss → AllByRecursion (EndsBy (length shown)) ss → AreSpansApart ss → AreRangesApart (map (range_at shown) ss)
  apart_ranges [] sound ends apart = tt
  apart_ranges (s ∷ []) sound ends apart = tt
  apart_ranges (s ∷ (t ∷ ss)) sound ends apart = (omega (arith, range_length shown s ends.0, sound.0.some, apart.0), apart_ranges (t ∷ ss) sound.1 ends.1 apart.1)

  -- spans whose places are within the bytes end there
  ends_by : (ss : List Span) → AllByRecursion IsSpan ss → ((place : ℕ) → IsInSpans place ss → place < length shown) → AllByRecursion (EndsBy (length shown)) ss
  ends_by [] sound within = tt
  ends_by (s ∷ ss) sound within =
      let some = sound.0.some in
      let last : s.end - 1 < length shown = within (s.end - 1) (inl (omega (arith, some), omega (arith, some))) in
      (omega (arith, some, last), ends_by ss sound.1 (λ place is. within place (inr is)))

-- ---- the spans of pending writes

module _ (stable : List ℕ) (pending : List Pending) (spans sorted joined : List Span) (are : spans ≡ map span_of pending) (moved : IsPermutation spans sorted) (j : JoinSpans sorted joined) where
  to_pending : (place : ℕ) → IsInSpans place joined → IsInRanges place pending
  to_pending place is = spans_in place pending (subst (IsInSpans place) are (in_permuted place sorted spans (IsPermutation-sym spans sorted moved) ((j.covers place).0 is)))

  of_pending : (place : ℕ) → IsInRanges place pending → IsInSpans place joined
  of_pending place is = (j.covers place).1 (in_permuted place spans sorted moved (subst (IsInSpans place) (sym are) (in_spans place pending is)))

  pub joined_ranges : AreJoined pending (overlay_all stable pending) (map (range_at (overlay_all stable pending)) joined)
  joined_ranges =
      let shown : List ℕ = overlay_all stable pending in
      let ends = ends_by shown joined j.sound (λ place is. reach pending stable place (to_pending place is)) in
      record {
        covers = λ place. (λ is. to_pending place (to_span shown place joined j.sound ends is), λ is. of_span shown place joined j.sound ends (of_pending place is));
        shows = all_shown shown joined j.sound ends;
        apart = apart_ranges shown joined j.sound ends j.apart;
      }

pub sound_sorted : (spans sorted : List Span) → IsPermutation spans sorted → AllByRecursion IsSpan spans → AllByRecursion IsSpan sorted
sound_sorted spans sorted moved sound = all_permuted IsSpan spans sorted moved (IsPermutation-sym spans sorted moved) sound
