-- Spans: where pending writes stand, in their order, and joined.
use Rattle.std.proofs.Common.{◌≡◌, ℕ, zero, suc, ◌⊎◌, ◌+◌, ◌<◌, ◌≤◌, List, [], ◌∷◌, ◌++◌, length, take, map, max, Option, Some, None, refl, sym, ap, subst, ◌∙◌, arith, inl, inr}
use Rattle.std.specs.Prelude.{slice_get, option_map, ◌↔◌}
use Rattle.std.specs.List.{AllByRecursion, Contains}
use Rattle.std.specs.List.Sorted.{IsPermutation, IsNonDecreasingBy}
use Rattle.std.proofs.lemmas.Bool.{cases_lt}
use Rattle.std.proofs.lemmas.List.{length-append}
use Rattle.std.proofs.lemmas.List.Sorted.{Contains-permutation}
use Rattle.cluster_model.specs.Content.{Pending}
use Rattle.data_file.specs.Paged.{place_of}
use Rattle.ds_changes.specs.declared.span.Span.{Span}
use Rattle.ds_changes.specs.Joined.{IsInRanges}
use Rattle.ds_changes.specs.Spans.{span_of, IsOfSpan, IsInSpans, IsSpan, AreSpansRising, AreSpansApart, JoinSpans, AddsSpan}

-- ---- lists

pub all_push : {X : Type 0} (P : X → Type 0) (xs : List X) (x : X) → AllByRecursion P xs → P x → AllByRecursion P (xs ++ x ∷ [])
all_push P [] x all one = (one, tt)
all_push P (y ∷ xs) x all one = (all.0, all_push P xs x all.1 one)

pub all_last : {X : Type 0} (P : X → Type 0) (xs : List X) (x : X) → AllByRecursion P (xs ++ x ∷ []) → AllByRecursion P xs × P x
all_last P [] x all = (tt, all.0)
all_last P (y ∷ xs) x all = let rest = all_last P xs x all.1 in ((all.0, rest.0), rest.1)

all_contains : {X : Type 0} (P : X → Type 0) (xs : List X) (x : X) → AllByRecursion P xs → Contains xs x → P x
all_contains P [] x all (k, less, is) = absurd (omega (arith, less))
all_contains P (y ∷ xs) x all (zero, less, is) = subst P is all.0
all_contains P (y ∷ xs) x all (suc k, less, is) = all_contains P xs x all.1 (k, omega (arith, less), is)

all_from : {X : Type 0} (P : X → Type 0) (xs : List X) → ((x : X) → Contains xs x → P x) → AllByRecursion P xs
all_from P [] h = tt
all_from P (y ∷ xs) h = (h y (0, omega arith, refl), all_from P xs (λ x is. h x (suc is.0, omega (arith, is.1), is.2)))

-- what holds of each holds of each in another order
pub all_permuted : {X : Type 0} (P : X → Type 0) (xs ys : List X) → IsPermutation xs ys → IsPermutation ys xs → AllByRecursion P xs → AllByRecursion P ys
all_permuted P xs ys p q all = all_from P ys (λ y is. all_contains P xs y all (Contains-permutation ys xs y q is))

-- ---- a place in spans

pub in_left : (place : ℕ) (ss ts : List Span) → IsInSpans place ss → IsInSpans place (ss ++ ts)
in_left place [] ts is = absurd is
in_left place (s ∷ ss) ts (inl of) = inl of
in_left place (s ∷ ss) ts (inr is) = inr (in_left place ss ts is)

pub in_right : (place : ℕ) (ss ts : List Span) → IsInSpans place ts → IsInSpans place (ss ++ ts)
in_right place [] ts is = is
in_right place (s ∷ ss) ts is = inr (in_right place ss ts is)

pub in_either : (place : ℕ) (ss ts : List Span) → IsInSpans place (ss ++ ts) → IsInSpans place ss ⊎ IsInSpans place ts
in_either place [] ts is = inr is
in_either place (s ∷ ss) ts (inl of) = inl (inl of)
in_either place (s ∷ ss) ts (inr is) =
    elim (in_either place ss ts is) [
      | inl here ↦ inl (inr here)
      | inr there ↦ inr there
    ]

contains_of : (place : ℕ) (ss : List Span) → IsInSpans place ss → (s : Span) × Contains ss s × IsOfSpan place s
contains_of place [] is = absurd is
contains_of place (s ∷ ss) (inl of) = (s, (0, omega arith, refl), of)
contains_of place (s ∷ ss) (inr is) = let rest = contains_of place ss is in (rest.0, (suc rest.1.0, omega (arith, rest.1.1), rest.1.2), rest.2)

in_by : (place : ℕ) (ss : List Span) (s : Span) → Contains ss s → IsOfSpan place s → IsInSpans place ss
in_by place [] s (k, less, is) of = absurd (omega (arith, less))
in_by place (t ∷ ss) s (zero, less, is) of = inl (subst (IsOfSpan place) (sym is) of)
in_by place (t ∷ ss) s (suc k, less, is) of = inr (in_by place ss s (k, omega (arith, less), is) of)

-- the places stay in another order
pub in_permuted : (place : ℕ) (ss ts : List Span) → IsPermutation ss ts → IsInSpans place ss → IsInSpans place ts
in_permuted place ss ts p is = let found = contains_of place ss is in in_by place ts found.0 (Contains-permutation ss ts found.0 p found.1) found.2

-- ---- the spans of pending writes

pub spans_in : (place : ℕ) (ws : List Pending) → IsInSpans place (map span_of ws) → IsInRanges place ws
spans_in place [] is = is
spans_in place (w ∷ ws) (inl of) = inl of
spans_in place (w ∷ ws) (inr is) = inr (spans_in place ws is)

pub in_spans : (place : ℕ) (ws : List Pending) → IsInRanges place ws → IsInSpans place (map span_of ws)
in_spans place [] is = is
in_spans place (w ∷ ws) (inl of) = inl of
in_spans place (w ∷ ws) (inr is) = inr (in_spans place ws is)

-- one span more of those that were taken
taken_more : (ws : List Pending) (n at count : ℕ) → option_map place_of (slice_get ws n) ≡ Some (at, count) → take (suc n) (map span_of ws) ≡ take n (map span_of ws) ++ (record { at = at; end = at + count }) ∷ []
taken_more [] n at count e = absurd cc
taken_more (w ∷ ws) zero at count e = ap (λ (p : ℕ × ℕ). let s : Span = record { at = p.0; end = p.0 + p.1 } in s ∷ []) (same_place (place_of w) (at, count) e)
  where
    same_place : (p q : ℕ × ℕ) → Some p ≡ Some q → p ≡ q
    same_place p q same = cc
taken_more (w ∷ ws) (suc n) at count e = ap (λ (ss : List Span). span_of w ∷ ss) (taken_more ws n at count e)

within_taken : (ws : List Pending) (n : ℕ) (p : ℕ × ℕ) → option_map place_of (slice_get ws n) ≡ Some p → n < length ws
within_taken [] n p e = absurd cc
within_taken (w ∷ ws) zero p e = omega arith
within_taken (w ∷ ws) (suc n) p e = omega (arith, within_taken ws n p e)

all_taken : (ws : List Pending) (n : ℕ) → option_map place_of (slice_get ws n) ≡ None → take n (map span_of ws) ≡ map span_of ws
all_taken [] n e = nothing n
  where
    nothing : (m : ℕ) → take m (map span_of []) ≡ map span_of []
    nothing zero = refl
    nothing (suc m) = refl
all_taken (w ∷ ws) zero e = absurd cc
all_taken (w ∷ ws) (suc n) e = ap (λ (ss : List Span). span_of w ∷ ss) (all_taken ws n e)

pub taken_next : (ws : List Pending) (spans new : List Span) (n at count : ℕ) (found : Option (ℕ × ℕ)) → spans ≡ take (length spans) (map span_of ws) → n ≡ length spans → found ≡ option_map place_of (slice_get ws n) → found ≡ Some (at, count)
    → new ≡ spans ++ (record { at = at; end = at + count }) ∷ [] → new ≡ take (length new) (map span_of ws)
taken_next ws spans new n at count found so_far is known some pushed =
    let s : Span = record { at = at; end = at + count } in
    let here : option_map place_of (slice_get ws (length spans)) ≡ Some (at, count) = subst (λ (m : ℕ). option_map place_of (slice_get ws m) ≡ Some (at, count)) is (sym known ∙ some) in
    let long : suc (length spans) ≡ length new = omega (arith, ap length pushed, length-append spans (s ∷ [])) in
    pushed ∙ ap (λ (ss : List Span). ss ++ s ∷ []) so_far ∙ sym (taken_more ws (length spans) at count here) ∙ ap (λ (m : ℕ). take m (map span_of ws)) long

pub taken_all : (ws : List Pending) (spans : List Span) (n : ℕ) (found : Option (ℕ × ℕ)) → spans ≡ take (length spans) (map span_of ws) → n ≡ length spans → found ≡ option_map place_of (slice_get ws n) → found ≡ None → spans ≡ map span_of ws
taken_all ws spans n found so_far is known none =
    so_far ∙ all_taken ws (length spans) (subst (λ (m : ℕ). option_map place_of (slice_get ws m) ≡ None) is (sym known ∙ none))

pub taken_within : (ws : List Pending) (spans : List Span) (n : ℕ) (p : ℕ × ℕ) (found : Option (ℕ × ℕ)) → n ≡ length spans → found ≡ option_map place_of (slice_get ws n) → found ≡ Some p → length spans < length ws
taken_within ws spans n p found is known some = let less = within_taken ws n p (sym known ∙ some) in omega (arith, less, is)

-- ---- spans in order

rising_behind : (s : Span) (ss : List Span) → IsNonDecreasingBy (λ (t : Span). t.at) (s ∷ ss) → AreSpansRising s.at ss
rising_behind s [] h = tt
rising_behind s (t ∷ ss) h = (h 0 1 s (omega arith) (omega arith), rising_behind t ss (λ i j d le less. h (suc i) (suc j) d (omega (arith, le)) (omega (arith, less))))

pub rising : (ss : List Span) → IsNonDecreasingBy (λ (t : Span). t.at) ss → AreSpansRising 0 ss
rising [] h = tt
rising (s ∷ ss) h = (omega arith, rising_behind s ss h)

pub rising_lower : (low lower : ℕ) (ss : List Span) → lower ≤ low → AreSpansRising low ss → AreSpansRising lower ss
rising_lower low lower [] le h = tt
rising_lower low lower (s ∷ ss) le h = (omega (arith, le, h.0), h.1)

-- ---- a span that others join

-- that the spans before the last are apart from it is seen where it begins
apart_same : (done : List Span) (a b : Span) → a.at ≤ b.at → AreSpansApart (done ++ a ∷ []) → AreSpansApart (done ++ b ∷ [])
apart_same [] a b le h = tt
apart_same (s ∷ []) a b le h = (omega (arith, le, h.0), tt)
apart_same (s ∷ (t ∷ done)) a b le h = (h.0, apart_same (t ∷ done) a b le h.1)

apart_push : (done : List Span) (a b : Span) → a.end < b.at → AreSpansApart (done ++ a ∷ []) → AreSpansApart ((done ++ a ∷ []) ++ b ∷ [])
apart_push [] a b less h = (less, tt)
apart_push (s ∷ []) a b less h = (h.0, (less, tt))
apart_push (s ∷ (t ∷ done)) a b less h = (h.0, apart_push (t ∷ done) a b less h.1)

either_end : (place : ℕ) (a b : Span) → a.at ≤ b.at → b.at ≤ a.end → IsOfSpan place (record { at = a.at; end = max a.end b.end }) → IsOfSpan place a ⊎ IsOfSpan place b
either_end place a b le meets of =
    elim (cases_lt place a.end) [
      | inl less ↦ inl (of.0, less)
      | inr past ↦ inr (omega (arith, past, meets), omega (arith, past, of.1))
    ]

pub grows : (done : List Span) (a b : Span) → a.at ≤ b.at → b.at ≤ a.end → AddsSpan (done ++ a ∷ []) b (done ++ (record { at = a.at; end = max a.end b.end }) ∷ [])
grows done a b le meets =
    let next : Span = record { at = a.at; end = max a.end b.end } in
    record {
      covers = λ place. (λ is. forward place (in_either place done (next ∷ []) is), λ either. backward place either);
      sound = λ all one. let parts = all_last IsSpan done a all in all_push IsSpan done next parts.0 (record { some = omega (arith, parts.1.some); bounded = omega (arith, parts.1.bounded, one.bounded) });
      apart = apart_same done a next (omega arith);
    }
  where
    forward : (place : ℕ) → IsInSpans place done ⊎ IsInSpans place ((record { at = a.at; end = max a.end b.end }) ∷ []) → IsInSpans place (done ++ a ∷ []) ⊎ IsOfSpan place b
    forward place (inl is) = inl (in_left place done (a ∷ []) is)
    forward place (inr (inr is)) = absurd is
    forward place (inr (inl of)) =
        elim (either_end place a b le meets of) [
          | inl here ↦ inl (in_right place done (a ∷ []) (inl here))
          | inr there ↦ inr there
        ]

    in_next : (place : ℕ) → IsInSpans place done ⊎ IsInSpans place (a ∷ []) → IsInSpans place (done ++ (record { at = a.at; end = max a.end b.end }) ∷ [])
    in_next place (inl is) = in_left place done _ is
    in_next place (inr (inl of)) = in_right place done _ (inl (of.0, omega (arith, of.1)))
    in_next place (inr (inr is)) = absurd is

    backward : (place : ℕ) → IsInSpans place (done ++ a ∷ []) ⊎ IsOfSpan place b → IsInSpans place (done ++ (record { at = a.at; end = max a.end b.end }) ∷ [])
    backward place (inl is) = in_next place (in_either place done (a ∷ []) is)
    backward place (inr of) = in_right place done _ (inl (omega (arith, le, of.0), omega (arith, of.1)))

pub begins : (done : List Span) (a b : Span) → a.end < b.at → AddsSpan (done ++ a ∷ []) b ((done ++ a ∷ []) ++ b ∷ [])
begins done a b less = record {
  covers = λ place. (λ is. forward place (in_either place (done ++ a ∷ []) (b ∷ []) is), λ either. backward place either);
  sound = λ all one. all_push IsSpan (done ++ a ∷ []) b all one;
  apart = apart_push done a b less;
}
  where
    forward : (place : ℕ) → IsInSpans place (done ++ a ∷ []) ⊎ IsInSpans place (b ∷ []) → IsInSpans place (done ++ a ∷ []) ⊎ IsOfSpan place b
    forward place (inl is) = inl is
    forward place (inr (inl of)) = inr of
    forward place (inr (inr is)) = absurd is

    backward : (place : ℕ) → IsInSpans place (done ++ a ∷ []) ⊎ IsOfSpan place b → IsInSpans place ((done ++ a ∷ []) ++ b ∷ [])
    backward place (inl is) = in_left place (done ++ a ∷ []) (b ∷ []) is
    backward place (inr of) = in_right place (done ++ a ∷ []) (b ∷ []) (inl of)

-- ---- the loop

-- What is joined so far, with what is left, has the places of all spans.
pub record Joining (spans so_far : List Span) (low : ℕ) (rest : List Span) : Type 0 where
  pub covers : (place : ℕ) → IsInSpans place (so_far ++ rest) ↔ IsInSpans place spans
  pub sound : AllByRecursion IsSpan so_far
  pub left : AllByRecursion IsSpan rest
  pub apart : AreSpansApart so_far
  pub rising : AreSpansRising low rest

pub joining_first : (spans : List Span) (s : Span) (rest : List Span) → spans ≡ s ∷ rest → AllByRecursion IsSpan spans → AreSpansRising 0 spans → Joining spans ([] ++ s ∷ []) s.at rest
joining_first spans s rest is all up =
    let parts = subst (AllByRecursion IsSpan) is all in
    record {
      covers = λ place. (subst (IsInSpans place) (sym is), subst (IsInSpans place) is);
      sound = (parts.0, tt);
      left = parts.1;
      apart = tt;
      rising = (subst (AreSpansRising 0) is up).1;
    }

pub joining_next : (spans so_far : List Span) (low : ℕ) (rest : List Span) (s : Span) (others new : List Span) (next : ℕ) → Joining spans so_far low rest → rest ≡ s ∷ others → AddsSpan so_far s new → next ≤ s.at → Joining spans new next others
joining_next spans so_far low rest s others new next k is adds le =
    let parts = subst (AllByRecursion IsSpan) is k.left in
    record {
      covers = λ place. (λ in_new. (k.covers place).0 (subst (λ (ts : List Span). IsInSpans place (so_far ++ ts)) (sym is) (back place (in_either place new others in_new))), λ in_all. forth place (in_either place so_far (s ∷ others) (subst (λ (ts : List Span). IsInSpans place (so_far ++ ts)) is ((k.covers place).1 in_all))));
      sound = adds.sound k.sound parts.0;
      left = parts.1;
      apart = adds.apart k.apart;
      rising = rising_lower s.at next others le (subst (AreSpansRising low) is k.rising).1;
    }
  where
    old_or : (place : ℕ) → IsInSpans place so_far ⊎ IsOfSpan place s → IsInSpans place (so_far ++ s ∷ others)
    old_or place (inl is_old) = in_left place so_far (s ∷ others) is_old
    old_or place (inr of) = in_right place so_far (s ∷ others) (inl of)

    back : (place : ℕ) → IsInSpans place new ⊎ IsInSpans place others → IsInSpans place (so_far ++ s ∷ others)
    back place (inl is_new) = old_or place ((adds.covers place).0 is_new)
    back place (inr is_other) = in_right place so_far (s ∷ others) (inr is_other)

    forth : (place : ℕ) → IsInSpans place so_far ⊎ IsInSpans place (s ∷ others) → IsInSpans place (new ++ others)
    forth place (inl is_old) = in_left place new others ((adds.covers place).1 (inl is_old))
    forth place (inr (inl of)) = in_left place new others ((adds.covers place).1 (inr of))
    forth place (inr (inr is_other)) = in_right place new others is_other

pub joining_done : (spans so_far : List Span) (low : ℕ) (rest : List Span) → Joining spans so_far low rest → length rest ≡ 0 → JoinSpans spans so_far
joining_done spans so_far low rest k is = record {
  covers = λ place. (λ in_joined. (k.covers place).0 (in_left place so_far rest in_joined), λ in_all. not_rest place (in_either place so_far rest ((k.covers place).1 in_all)));
  sound = k.sound;
  apart = k.apart;
}
  where
    not_rest : (place : ℕ) → IsInSpans place so_far ⊎ IsInSpans place rest → IsInSpans place so_far
    not_rest place (inl in_far) = in_far
    not_rest place (inr in_rest) = absurd (none_in place rest is in_rest)
      where
        none_in : (at : ℕ) (ss : List Span) → length ss ≡ 0 → IsInSpans at ss → ⊥
        none_in at [] none in_none = in_none
        none_in at (s ∷ ss) none in_some = absurd (omega (arith, none))

pub joins_none : (spans : List Span) → spans ≡ [] → JoinSpans spans []
joins_none spans is = record { covers = λ place. (λ in_none. absurd in_none, subst (IsInSpans place) is); sound = tt; apart = tt }
