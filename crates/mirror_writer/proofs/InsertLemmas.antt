-- A window of free places joins a set.
use Rattle.std.proofs.Common.{◌≡◌, ◌≢◌, ℕ, ◌+◌, ◌-◌, ◌<◌, ◌≤◌, Bool, true, false, List, cond, Some, None, refl, sym, ap, subst, ◌∙◌, arith, inl, inr, ◌⊎◌}
use Rattle.std.specs.Prelude.{◌||◌}
use Rattle.std.specs.Ordering.{nat_cmp}
use Rattle.std.specs.BTreeMap.{is_at, BTreeMap, IsOrdered}
use Rattle.std.proofs.lemmas.Bool.{both_ways, cases_lt, cases_eq, or_cases}
use Rattle.std.proofs.lemmas.Option.{none-some, same_Some}
use Rattle.mirror_writer.specs.Extents.{is_place, in_window, AreApart, EndBy, AddsPlaces, SharesPlace, max_place}
use Rattle.mirror_writer.specs.Runs.{run_at, BeginsAt, EndsAt}
use Rattle.mirror_writer.proofs.PlaceLemmas.{inside, bounds, or_true}
use Rattle.mirror_writer.proofs.RunLemmas.{IsRun, same_key, other_key, is_key, not_key, full, are_apart, RunWith, run_with, place_in, same_run, ends_by, apart_from, end_from}

same_bool : (a b : Bool) → (a ≡ true → b ≡ true) → (b ≡ true → a ≡ true) → a ≡ b
same_bool true b there back = sym (there refl)
same_bool false true there back = back refl
same_bool false false there back = refl

module _ (old new : List (ℕ × ℕ)) (at end first upto : ℕ) (apart : AreApart old) (by : EndBy max_place old) (some : at < end) (limit : end ≤ max_place)
    (fresh : (p : ℕ) → at ≤ p → p < end → is_place old p ≡ false) (begins : BeginsAt old at first) (ends : EndsAt old end upto)
    (gets : (q : ℕ) → run_at new q ≡ cond (is_at (nat_cmp end) q) None (cond (is_at (nat_cmp first) q) (Some upto) (run_at old q))) where
  first_le : first ≤ at
  first_le = by_run begins
    where
      by_run : BeginsAt old at first → first ≤ at
      by_run (inl run) = omega (arith, full old first at apart run)
      by_run (inr (same, none)) = omega (arith, same)

  upto_ge : end ≤ upto
  upto_ge = by_run ends
    where
      by_run : EndsAt old end upto → end ≤ upto
      by_run (inl run) = omega (arith, full old end upto apart run)
      by_run (inr (none, same)) = omega (arith, same)

  -- no run has a place of the window
  untouched : (k v : ℕ) → IsRun old k v → k < end → at < v → ⊥
  untouched k v run before past = by_order (cases_lt at k)
    where
      by_order : (at < k) ⊎ (k ≤ at) → ⊥
      by_order (inl low) = both_ways (is_place old k) (fresh k (omega (arith, low)) before) (place_in old k v k run (omega arith) (full old k v apart run))
      by_order (inr high) = both_ways (is_place old at) (fresh at (omega arith) some) (place_in old k v at run high past)

  -- ---- where a run comes from

  data Comes (k v : ℕ) : Type 0 where
    New : k ≡ first → v ≡ upto → Comes k v
    Old : k ≢ first → k ≢ end → IsRun old k v → Comes k v

  by_first : (k v : ℕ) (b : Bool) → k ≢ end → is_at (nat_cmp first) k ≡ b → cond b (Some upto) (run_at old k) ≡ Some v → Comes k v
  by_first k v true differs test is = New (sym (same_key first k test)) (sym (same_Some upto v is))
  by_first k v false differs test is = Old (λ same. other_key first k test (sym same)) differs is

  by_end : (k v : ℕ) (b : Bool) → is_at (nat_cmp end) k ≡ b → cond b None (cond (is_at (nat_cmp first) k) (Some upto) (run_at old k)) ≡ Some v → Comes k v
  by_end k v true test is = absurd (none-some v is)
  by_end k v false test is = by_first k v (is_at (nat_cmp first) k) (λ same. other_key end k test (sym same)) refl is

  comes : (k v : ℕ) → IsRun new k v → Comes k v
  comes k v run = by_end k v (is_at (nat_cmp end) k) refl (sym (gets k) ∙ run)

  new_first : IsRun new first upto
  new_first =
      gets first ∙ ap (λ b. cond b None (cond (is_at (nat_cmp first) first) (Some upto) (run_at old first))) (not_key end first (λ same. omega (arith, same, first_le, some)))
      ∙ ap (λ b. cond b (Some upto) (run_at old first)) (is_key first first refl)

  new_old : (k v : ℕ) → k ≢ first → k ≢ end → IsRun old k v → IsRun new k v
  new_old k v not_first not_end run =
      gets k ∙ ap (λ b. cond b None (cond (is_at (nat_cmp first) k) (Some upto) (run_at old k))) (not_key end k (λ same. not_end (sym same)))
      ∙ ap (λ b. cond b (Some upto) (run_at old k)) (not_key first k (λ same. not_first (sym same))) ∙ run

  -- ---- the new runs are apart

  full_new : (k v : ℕ) → Comes k v → k < v
  full_new k v (New is_first is_upto) = omega (arith, is_first, is_upto, first_le, some, upto_ge)
  full_new k v (Old not_first not_end run) = full old k v apart run

  past_first : (l u : ℕ) → l ≢ end → IsRun old l u → first < l → upto < l
  past_first l u not_end run below = by_order (cases_lt l end)
    where
      behind_end : end < l → EndsAt old end upto → upto < l
      behind_end past (inl joined) = are_apart old end upto l u apart joined run past
      behind_end past (inr (none, same)) = omega (arith, same, past)

      before : l < at → BeginsAt old at first → ⊥
      before low (inl joined) = omega (arith, low, are_apart old first at l u apart joined run below)
      before low (inr (same, none)) = omega (arith, low, same, below)

      by_end_of : l < end → (at < u) ⊎ (u ≤ at) → ⊥
      by_end_of low (inl past) = untouched l u run low past
      by_end_of low (inr high) = before (omega (arith, high, full old l u apart run)) begins

      by_order : (l < end) ⊎ (end ≤ l) → upto < l
      by_order (inl low) = absurd (by_end_of low (cases_lt at u))
      by_order (inr high) = by_same (cases_eq l end)
        where
          by_same : (l ≡ end) ⊎ (l ≡ end → ⊥) → upto < l
          by_same (inl same) = absurd (not_end same)
          by_same (inr differs) = behind_end (by_strict (cases_lt end l)) ends
            where
              by_strict : (end < l) ⊎ (l ≤ end) → end < l
              by_strict (inl past) = past
              by_strict (inr low) = absurd (differs (omega (arith, low, high)))

  before_first : (k v : ℕ) → IsRun old k v → k < first → v < first
  before_first k v run below = by_run begins
    where
      by_end_of : first ≡ at → ((l : ℕ) → run_at old l ≢ Some at) → (at < v) ⊎ (v ≤ at) → v < first
      by_end_of same none (inl past) = absurd (untouched k v run (omega (arith, below, first_le, some)) past)
      by_end_of same none (inr low) = by_same (cases_eq v at)
        where
          by_same : (v ≡ at) ⊎ (v ≡ at → ⊥) → v < first
          by_same (inl ends_there) = absurd (none k (run ∙ ap (λ n. Some n) ends_there))
          by_same (inr differs) = by_strict (cases_lt v at)
            where
              by_strict : (v < at) ⊎ (at ≤ v) → v < first
              by_strict (inl strict) = omega (arith, strict, same)
              by_strict (inr high) = absurd (differs (omega (arith, low, high)))

      by_run : BeginsAt old at first → v < first
      by_run (inl joined) = are_apart old k v first at apart run joined below
      by_run (inr (same, none)) = by_end_of same none (cases_lt at v)

  apart_new : (k v l u : ℕ) → Comes k v → Comes l u → k < l → v < l
  apart_new k v l u (New is_first is_upto) (New is_first' is_upto') below = absurd (omega (arith, is_first, is_first', below))
  apart_new k v l u (New is_first is_upto) (Old not_first not_end run) below = let past : upto < l = past_first l u not_end run (omega (arith, is_first, below)) in omega (arith, is_upto, past)
  apart_new k v l u (Old not_first not_end run) (New is_first is_upto) below = let past : v < first = before_first k v run (omega (arith, is_first, below)) in omega (arith, is_first, past)
  apart_new k v l u (Old not_first not_end run) (Old not_first' not_end' run') below = are_apart old k v l u apart run run' below

  end_new : (k v : ℕ) → Comes k v → v ≤ max_place
  end_new k v (New is_first is_upto) = by_run ends
    where
      by_run : EndsAt old end upto → v ≤ max_place
      by_run (inl joined) = omega (arith, is_upto, ends_by old max_place end upto by joined)
      by_run (inr (none, same)) = omega (arith, is_upto, same, limit)
  end_new k v (Old not_first not_end run) = ends_by old max_place k v by run

  -- ---- the places

  joined_place : (p : ℕ) → first ≤ p → p < upto → (is_place old p || in_window at (end - at) p) ≡ true
  joined_place p low high = by_start (cases_lt p at)
    where
      in_old : is_place old p ≡ true → (is_place old p || in_window at (end - at) p) ≡ true
      in_old is = ap (λ b. b || in_window at (end - at) p) is

      before : p < at → BeginsAt old at first → (is_place old p || in_window at (end - at) p) ≡ true
      before below (inl run) = in_old (place_in old first at p run low below)
      before below (inr (same, none)) = absurd (omega (arith, same, low, below))

      behind : end ≤ p → EndsAt old end upto → (is_place old p || in_window at (end - at) p) ≡ true
      behind past (inl run) = in_old (place_in old end upto p run past high)
      behind past (inr (none, same)) = absurd (omega (arith, same, past, high))

      by_stop : at ≤ p → (p < end) ⊎ (end ≤ p) → (is_place old p || in_window at (end - at) p) ≡ true
      by_stop above (inl within) = or_true (is_place old p) (in_window at (end - at) p) (inside at (end - at) p above (omega (arith, within, some)))
      by_stop above (inr past) = behind past ends

      by_start : (p < at) ⊎ (at ≤ p) → (is_place old p || in_window at (end - at) p) ≡ true
      by_start (inl below) = before below begins
      by_start (inr above) = by_stop above (cases_lt p end)

  place_there : (p k v : ℕ) → k ≤ p → p < v → Comes k v → (is_place old p || in_window at (end - at) p) ≡ true
  place_there p k v low high (New is_first is_upto) = joined_place p (omega (arith, is_first, low)) (omega (arith, is_upto, high))
  place_there p k v low high (Old not_first not_end run) = ap (λ b. b || in_window at (end - at) p) (place_in old k v p run low high)

  in_first : (p v : ℕ) → IsRun old first v → first ≤ p → p < v → is_place new p ≡ true
  in_first p v run low high = by_run begins
    where
      by_run : BeginsAt old at first → is_place new p ≡ true
      by_run (inl joined) = place_in new first upto p new_first low (omega (arith, same_run old first first v at run joined refl, high, some, upto_ge))
      by_run (inr (same, none)) = absurd (untouched first v run (omega (arith, same, some)) (omega (arith, same, full old first v apart run)))

  in_last : (p v : ℕ) → IsRun old end v → end ≤ p → p < v → is_place new p ≡ true
  in_last p v run low high = by_run ends
    where
      by_run : EndsAt old end upto → is_place new p ≡ true
      by_run (inl joined) = place_in new first upto p new_first (omega (arith, first_le, some, low)) (omega (arith, same_run old end end v upto run joined refl, high))
      by_run (inr (none, same)) = absurd (none-some v (sym none ∙ run))

  place_stays : (p k v : ℕ) → IsRun old k v → k ≤ p → p < v → is_place new p ≡ true
  place_stays p k v run low high = by_first_of (cases_eq k first) (cases_eq k end)
    where
      by_first_of : (k ≡ first) ⊎ (k ≡ first → ⊥) → (k ≡ end) ⊎ (k ≡ end → ⊥) → is_place new p ≡ true
      by_first_of (inl same) other = in_first p v (subst (λ (q : ℕ). IsRun old q v) same run) (omega (arith, same, low)) high
      by_first_of (inr not_first) (inl same) = in_last p v (subst (λ (q : ℕ). IsRun old q v) same run) (omega (arith, same, low)) high
      by_first_of (inr not_first) (inr not_end) = place_in new k v p (new_old k v not_first not_end run) low high

  pub adds_places : AreApart new → AddsPlaces old at (end - at) new
  adds_places apart' = λ p. same_bool (is_place new p) (is_place old p || in_window at (end - at) p)
      (λ there. let r : RunWith new p = run_with new p apart' there in place_there p r.first r.end r.low r.high (comes r.first r.end r.run))
      (λ there. by_side p (or_cases (is_place old p) (in_window at (end - at) p) there))
    where
      by_side : (p : ℕ) → (is_place old p ≡ true) ⊎ (in_window at (end - at) p ≡ true) → is_place new p ≡ true
      by_side p (inl there) = let r : RunWith old p = run_with old p apart there in place_stays p r.first r.end r.run r.low r.high
      by_side p (inr within) = let b = bounds at (end - at) p within in place_in new first upto p new_first (omega (arith, first_le, b)) (omega (arith, upto_ge, b, some))

  pub apart_run : (k v l u : ℕ) → IsRun new k v → IsRun new l u → k < l → v < l
  apart_run k v l u run also below = apart_new k v l u (comes k v run) (comes l u also) below

  pub full_run : (k v : ℕ) → IsRun new k v → k < v
  full_run k v run = full_new k v (comes k v run)

  pub end_run : (k v : ℕ) → IsRun new k v → v ≤ max_place
  end_run k v run = end_new k v (comes k v run)

pub record Joined (old : List (ℕ × ℕ)) (at count : ℕ) (new : List (ℕ × ℕ)) : Type 0 where
  pub apart : AreApart new
  pub by : EndBy max_place new
  pub adds : AddsPlaces old at count new

pub window_joins : (old : List (ℕ × ℕ)) (n : BTreeMap ℕ ℕ) (at count first upto : ℕ) → AreApart old → EndBy max_place old → 0 < count → at + count ≤ max_place → SharesPlace old at count false
    → BeginsAt old at first → EndsAt old (at + count) upto
    → ((q : ℕ) → run_at n.entries q ≡ cond (is_at (nat_cmp (at + count)) q) None (cond (is_at (nat_cmp first) q) (Some upto) (run_at old q))) → IsOrdered nat_cmp n → Joined old at count n.entries
window_joins old n at count first upto apart by some limit fresh begins ends gets ordered =
    let new : List (ℕ × ℕ) = n.entries in
    let within : at < at + count = omega (arith, some) in
    let free : (p : ℕ) → at ≤ p → p < at + count → is_place old p ≡ false = λ p low high. fresh p (inside at count p low high) in
    let apart' : AreApart new =
    apart_from n ordered (full_run old new at (at + count) first upto apart by within limit free begins ends gets) (apart_run old new at (at + count) first upto apart by within limit free begins ends gets) in
    record {
      apart = apart';
      by = end_from n max_place ordered (end_run old new at (at + count) first upto apart by within limit free begins ends gets);
      adds = subst (λ (k : ℕ). AddsPlaces old at k new) (omega arith) (adds_places old new at (at + count) first upto apart by within limit free begins ends gets apart');
    }
