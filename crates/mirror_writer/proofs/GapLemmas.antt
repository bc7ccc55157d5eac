-- Gaps, found from the first place of a window on.
use Rattle.std.proofs.Common.{◌≡◌, ℕ, suc, zero, ◌+◌, ◌-◌, ◌<◌, ◌≤◌, Bool, true, false, List, [], ◌∷◌, ◌++◌, map, refl, sym, ap, subst, ◌∙◌, arith, inl, inr, ◌⊎◌}
use Rattle.std.specs.Prelude.{◌&&◌, ◌||◌, not}
use Rattle.std.specs.List.{All}
use Rattle.std.proofs.lemmas.List.Elements.{All-append}
use Rattle.std.proofs.lemmas.List.Folds.{list_any-append}
use Rattle.std.proofs.lemmas.List.{map-append}
use Rattle.std.proofs.lemmas.Bool.{both_ways, cases_lt}
use Rattle.std.proofs.lemmas.Bool.Decides.{nat_tests}
use Rattle.mirror_writer.specs.Extents.{has_place, is_place, in_window, AreApart, AreGaps, run_of_gap}
use Rattle.mirror_writer.specs.Runs.{RunsOn, PushesGap}
use Rattle.mirror_writer.proofs.PlaceLemmas.{inside}
use Rattle.mirror_writer.proofs.RunLemmas.{is_inside}

-- what is found of a window while `left` of its places, from `from` on, are still to be looked at
pub record GapsSoFar (runs : List (ℕ × ℕ)) (at count : ℕ) (done : List (ℕ × ℕ)) (from left : ℕ) : Type 0 where
  pub within : left ≤ count
  pub from_is : 0 < left → from + left ≡ at + count
  pub ends : All (λ run. run.1 ≤ at + (count - left)) done
  pub apart : AreApart done
  pub places : (p : ℕ) → is_place done p ≡ (in_window at (count - left) p && not (is_place runs p))
  pub next : (done ≡ []) ⊎ (0 < left → is_place runs from ≡ true)

pub none_so_far : (runs : List (ℕ × ℕ)) (at count : ℕ) → GapsSoFar runs at count [] at count
none_so_far runs at count = record {
  within = omega arith;
  from_is = λ some. refl;
  ends = λ k d within. absurd (omega (arith, within));
  apart = tt;
  places = λ p. ap (λ b. b && not (is_place runs p)) (sym (outside_all at (count - count) p (omega arith)));
  next = inl refl;
}
  where
    outside_all : (at n p : ℕ) → n ≡ 0 → in_window at n p ≡ false
    outside_all at n p empty = grind (arith, nat_tests, empty)

below_window : (at n p : ℕ) → p < at → in_window at n p ≡ false
below_window at n p below = grind (arith, nat_tests, below)

past_window : (at n p : ℕ) → at + n ≤ p → in_window at n p ≡ false
past_window at n p past = grind (arith, nat_tests, past)

below_run : (run : ℕ × ℕ) (p : ℕ) → p < run.0 → has_place p run ≡ false
below_run run p below = grind (arith, nat_tests, below)

past_run : (run : ℕ × ℕ) (p : ℕ) → run.1 ≤ p → has_place p run ≡ false
past_run run p past = grind (arith, nat_tests, past)

-- ---- one stretch that is in the set, and one that is not

-- not both are empty
pub goes_on : (runs : List (ℕ × ℕ)) (from left taken free : ℕ) → RunsOn runs true from left taken → RunsOn runs false (from + taken) (left - taken) free → 0 < left → free ≡ 0 → taken ≡ left
goes_on runs from left taken free on off some none = by_order (cases_lt taken left)
  where
    by_order : (taken < left) ⊎ (left ≤ taken) → taken ≡ left
    by_order (inl short) =
        absurd (both_ways (is_place runs (from + taken)) (on.end short)
        (subst (λ (p : ℕ). is_place runs p ≡ true) (omega (arith, none)) (off.end (omega (arith, none, short)))))
    by_order (inr all) = omega (arith, all, on.within)

abbrev Joins : Bool → Bool → Bool → Bool → Type 0
Joins old more new set = ((old && not set) || (more || false)) ≡ (new && not set)

joins : (a b c d old more new set : Bool) → old ≡ a → more ≡ b → new ≡ c → set ≡ d → Joins a b c d → Joins old more new set
joins a b c d old more new set is_a is_b is_c is_d holds =
    subst (λ (x : Bool). Joins x more new set) (sym is_a) (subst (λ (x : Bool). Joins a x new set) (sym is_b) (subst (λ (x : Bool). Joins a b x set) (sym is_c) (subst (λ (x : Bool). Joins a b c x) (sym is_d) holds)))

unchanged : (set : Bool) → Joins true false true set
unchanged true = refl
unchanged false = refl

nowhere : (set : Bool) → Joins false false false set
nowhere set = refl

-- where each place of the window stands
module _ (runs : List (ℕ × ℕ)) (at count from left taken free : ℕ) (start : from + left ≡ at + count) (size : left ≤ count)
    (on : RunsOn runs true from left taken) (off : RunsOn runs false (from + taken) (left - taken) free) where
  joined_at : (p : ℕ) → Joins (in_window at (count - left) p) (has_place p (from + taken, from + taken + free)) (in_window at (count - (left - (taken + free))) p) (is_place runs p)
  joined_at p = by_start (cases_lt p at)
    where
      old : Bool
      old = in_window at (count - left) p

      more : Bool
      more = has_place p (from + taken, from + taken + free)

      new : Bool
      new = in_window at (count - (left - (taken + free))) p

      set : Bool
      set = is_place runs p

      by_end : at ≤ p → from ≤ p → from + taken ≤ p → (p < from + taken + free) ⊎ (from + taken + free ≤ p) → Joins old more new set
      by_end low past behind (inl within) =
          joins _ _ _ _ old more new set (past_window at (count - left) p (omega (arith, start, size, past))) (is_inside (from + taken, from + taken + free) p behind within)
          (inside at (count - (left - (taken + free))) p low (omega (arith, start, size, within, on.within, off.within))) (off.all p behind within) refl
      by_end low past behind (inr after) =
          joins _ _ _ _ old more new set (past_window at (count - left) p (omega (arith, start, size, past))) (past_run (from + taken, from + taken + free) p after)
          (past_window at (count - (left - (taken + free))) p (omega (arith, start, size, after, on.within, off.within))) refl (nowhere set)

      by_taken : at ≤ p → from ≤ p → (p < from + taken) ⊎ (from + taken ≤ p) → Joins old more new set
      by_taken low past (inl within) =
          joins _ _ _ _ old more new set (past_window at (count - left) p (omega (arith, start, size, past))) (below_run (from + taken, from + taken + free) p within)
          (inside at (count - (left - (taken + free))) p low (omega (arith, start, size, within, on.within, off.within))) (on.all p past within) refl
      by_taken low past (inr behind) = by_end low past behind (cases_lt p (from + taken + free))

      by_from : at ≤ p → (p < from) ⊎ (from ≤ p) → Joins old more new set
      by_from low (inl before) =
          joins _ _ _ _ old more new set (inside at (count - left) p low (omega (arith, start, size, before))) (below_run (from + taken, from + taken + free) p (omega (arith, before)))
          (inside at (count - (left - (taken + free))) p low (omega (arith, start, size, before, on.within, off.within))) refl (unchanged set)
      by_from low (inr past) = by_taken low past (cases_lt p (from + taken))

      by_start : (p < at) ⊎ (at ≤ p) → Joins old more new set
      by_start (inl below) =
          joins _ _ _ _ old more new set (below_window at (count - left) p below) (below_run (from + taken, from + taken + free) p (omega (arith, below, start, size)))
          (below_window at (count - (left - (taken + free))) p below) refl (nowhere set)
      by_start (inr low) = by_from low (cases_lt p from)

apart_push : (xs : List (ℕ × ℕ)) (first end : ℕ) → AreApart xs → All (λ run. run.1 < first) xs → first < end → AreApart (xs ++ (first, end) ∷ [])
apart_push [] first end apart below some = some
apart_push (x ∷ []) first end apart below some = (apart, below 0 x (omega arith), some)
apart_push (x ∷ y ∷ xs) first end apart below some =
    (apart.0, apart.1, apart_push (y ∷ xs) first end apart.2 (λ k d within. below (suc k) d (omega (arith, within))) some)

only : (end : ℕ) (run : ℕ × ℕ) → run.1 ≤ end → All (λ r. r.1 ≤ end) (run ∷ [])
only end run by zero d within = by
only end run by (suc k) d within = absurd (omega (arith, within))

-- a gap is found
pub one_more_gap : (runs : List (ℕ × ℕ)) (at count : ℕ) (done : List (ℕ × ℕ)) (from left taken free after : ℕ) → GapsSoFar runs at count done from left
    → RunsOn runs true from left taken → RunsOn runs false (from + taken) (left - taken) free → 0 < left → 0 < free → (0 < left - (taken + free) → after ≡ from + (taken + free))
    → GapsSoFar runs at count (done ++ (from + taken, from + taken + free) ∷ []) after (left - (taken + free))
one_more_gap runs at count done from left taken free after so_far on off some gap goes =
    let start : from + left ≡ at + count = so_far.from_is some in
    let run : ℕ × ℕ = (from + taken, from + taken + free) in
    record {
      within = omega (arith, so_far.within);
      from_is = λ more. omega (arith, goes more, start, more);
      ends = All-append (λ r. r.1 ≤ at + (count - (left - (taken + free)))) done (run ∷ [])
          (λ k d within. omega (arith, so_far.ends k d within, so_far.within))
          (only (at + (count - (left - (taken + free)))) run (omega (arith, start, so_far.within, on.within, off.within)));
      apart = by_next start so_far.next;
      places = λ p. list_any-append (has_place p) done (run ∷ []) ∙ ap (λ b. b || (has_place p run || false)) (so_far.places p) ∙ joined_at runs at count from left taken free start so_far.within on off p;
      next = inr (λ more. subst (λ (q : ℕ). is_place runs q ≡ true) (omega (arith, goes more)) (off.end (omega (arith, more, on.within))));
    }
  where
    behind : from + left ≡ at + count → 0 < taken → All (λ r. r.1 < from + taken) done
    behind start past = λ k d within. omega (arith, so_far.ends k d within, so_far.within, start, past)

    by_taken : from + left ≡ at + count → (0 < left → is_place runs from ≡ true) → (0 < taken) ⊎ (taken ≤ 0) → AreApart (done ++ (from + taken, from + taken + free) ∷ [])
    by_taken start there (inl past) = apart_push done (from + taken) (from + taken + free) so_far.apart (behind start past) (omega (arith, gap))
    by_taken start there (inr none) =
        absurd (both_ways (is_place runs from) (subst (λ (q : ℕ). is_place runs q ≡ false) (omega (arith, none)) (on.end (omega (arith, none, some)))) (there some))

    by_next : from + left ≡ at + count → (done ≡ []) ⊎ (0 < left → is_place runs from ≡ true) → AreApart (done ++ (from + taken, from + taken + free) ∷ [])
    by_next start (inl none) = subst (λ (l : List (ℕ × ℕ)). AreApart (l ++ (from + taken, from + taken + free) ∷ [])) (sym none) (omega (arith, gap))
    by_next start (inr there) = by_taken start there (cases_lt 0 taken)

-- the rest of the window is in the set
pub no_more_gap : (runs : List (ℕ × ℕ)) (at count : ℕ) (done : List (ℕ × ℕ)) (from left taken free after : ℕ) → GapsSoFar runs at count done from left
    → RunsOn runs true from left taken → RunsOn runs false (from + taken) (left - taken) free → 0 < left → free ≡ 0 → GapsSoFar runs at count done after (left - (taken + free))
no_more_gap runs at count done from left taken free after so_far on off some none =
    let start : from + left ≡ at + count = so_far.from_is some in
    let all : taken ≡ left = goes_on runs from left taken free on off some none in
    record {
      within = omega (arith, so_far.within);
      from_is = λ more. absurd (omega (arith, more, all));
      ends = λ k d within. omega (arith, so_far.ends k d within, so_far.within);
      apart = so_far.apart;
      places = λ p. so_far.places p ∙ or_false (in_window at (count - left) p && not (is_place runs p)) ∙ ap (λ b. (in_window at (count - left) p && not (is_place runs p)) || (b || false)) (sym (empty p))
          ∙ joined_at runs at count from left taken free start so_far.within on off p;
      next = inr (λ more. absurd (omega (arith, more, all)));
    }
  where
    empty : (p : ℕ) → has_place p (from + taken, from + taken + free) ≡ false
    empty p = grind (arith, nat_tests, none)

    or_false : (a : Bool) → a ≡ (a || (false || false))
    or_false true = refl
    or_false false = refl

-- what was found goes to the gaps
pub gaps_after : (runs : List (ℕ × ℕ)) (at count : ℕ) (gaps new : List (ℕ × ℕ)) (from left taken free after : ℕ) → GapsSoFar runs at count (map run_of_gap gaps) from left
    → RunsOn runs true from left taken → RunsOn runs false (from + taken) (left - taken) free → 0 < left → PushesGap gaps (from + taken) free new → (0 < left - (taken + free) → after ≡ from + (taken + free))
    → GapsSoFar runs at count (map run_of_gap new) after (left - (taken + free))
gaps_after runs at count gaps new from left taken free after so_far on off some (inl (gap, pushed)) goes =
    subst (λ (l : List (ℕ × ℕ)). GapsSoFar runs at count l after (left - (taken + free))) (sym (map-append run_of_gap gaps ((from + taken, free) ∷ [])) ∙ ap (map run_of_gap) (sym pushed))
    (one_more_gap runs at count (map run_of_gap gaps) from left taken free after so_far on off some gap goes)
gaps_after runs at count gaps new from left taken free after so_far on off some (inr (none, same)) goes =
    subst (λ (l : List (ℕ × ℕ)). GapsSoFar runs at count l after (left - (taken + free))) (ap (map run_of_gap) (sym same))
    (no_more_gap runs at count (map run_of_gap gaps) from left taken free after so_far on off some none)

-- the whole window was looked at
pub all_gaps : (runs : List (ℕ × ℕ)) (at count : ℕ) (gaps : List (ℕ × ℕ)) (from left : ℕ) → GapsSoFar runs at count (map run_of_gap gaps) from left → left ≡ 0 → AreGaps runs at count gaps
all_gaps runs at count gaps from left so_far none = record {
  apart = so_far.apart;
  places = λ p. so_far.places p ∙ ap (λ n. in_window at n p && not (is_place runs p)) (omega (arith, none));
}
