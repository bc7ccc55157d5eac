-- How long places go on being in a set, or not.
use Rattle.std.proofs.Common.{◌≡◌, ℕ, ◌+◌, ◌-◌, ◌<◌, ◌≤◌, Bool, true, false, List, Option, Some, None, IsSome, refl, sym, ◌∙◌, ap, subst, arith, inl, inr, ◌⊎◌}
use Rattle.std.specs.Prelude.{min, nat_lt, is_some}
use Rattle.std.proofs.lemmas.Bool.{both_ways, cases_lt, ltb-true, ltb-false}
use Rattle.std.proofs.lemmas.Option.{none-some}
use Rattle.mirror_writer.specs.Extents.{is_place, AreApart, SharesPlace, EndBy, max_place}
use Rattle.mirror_writer.specs.Runs.{run_at, IsLastUpTo, IsFirstFrom, RunsOn}
use Rattle.mirror_writer.proofs.PlaceLemmas.{bounds, inside}
use Rattle.mirror_writer.proofs.RunLemmas.{IsRun, full, are_apart, RunWith, place_in, no_place, same_run, ends_by}

pub some_run : (es : List (ℕ × ℕ)) (k v : ℕ) → IsRun es k v → IsSome (run_at es k)
some_run es k v is = ap is_some is

-- what the last run that begins by a place says of places up to it
pub last_ends : (es : List (ℕ × ℕ)) (place : ℕ) (run : ℕ × ℕ) → AreApart es → IsLastUpTo es place run → (p : ℕ) → run.1 ≤ p → p ≤ place → is_place es p ≡ false
last_ends es place run apart last p past up = no_place es p apart (λ r.
    let k : r.first ≤ run.0 = last.last r.first (omega (arith, r.low, up)) (some_run es r.first r.end r.run) in
    by_order r k (cases_lt r.first run.0))
  where
    by_order : (r : RunWith es p) → r.first ≤ run.0 → (r.first < run.0) ⊎ (run.0 ≤ r.first) → ⊥
    by_order r k (inl below) = omega (arith, r.high, past, are_apart es r.first r.end run.0 run.1 apart r.run last.there below, full es run.0 run.1 apart last.there)
    by_order r k (inr above) = omega (arith, r.high, past, same_run es r.first run.0 r.end run.1 r.run last.there (omega (arith, k, above)))

pub none_up_to : (es : List (ℕ × ℕ)) (place : ℕ) → AreApart es → ((k : ℕ) → k ≤ place → run_at es k ≡ None) → (p : ℕ) → p ≤ place → is_place es p ≡ false
none_up_to es place apart none p up = no_place es p apart (λ r. none-some r.end (sym (none r.first (omega (arith, r.low, up))) ∙ r.run))

-- behind a run is no place of the set
pub end_free : (es : List (ℕ × ℕ)) (k v : ℕ) → AreApart es → IsRun es k v → is_place es v ≡ false
end_free es k v apart is = no_place es v apart (λ r. by_order r (cases_lt r.first k) (cases_lt k r.first))
  where
    by_order : (r : RunWith es v) → (r.first < k) ⊎ (k ≤ r.first) → (k < r.first) ⊎ (r.first ≤ k) → ⊥
    by_order r (inl below) other = omega (arith, r.high, are_apart es r.first r.end k v apart r.run is below, full es k v apart is)
    by_order r (inr above) (inl past) = omega (arith, r.low, are_apart es k v r.first r.end apart is r.run past)
    by_order r (inr above) (inr same) = omega (arith, r.high, same_run es r.first k r.end v r.run is (omega (arith, above, same)))

pub taken_on : (es : List (ℕ × ℕ)) (place left : ℕ) (run : ℕ × ℕ) → AreApart es → IsLastUpTo es place run → place < run.1 → RunsOn es true place left (min left (run.1 - place))
taken_on es place left run apart last inside = record {
  within = omega arith;
  all = λ p low high. place_in es run.0 run.1 p last.there (omega (arith, last.first, low)) (omega (arith, high, inside));
  end = λ short. subst (λ (p : ℕ). is_place es p ≡ false) (omega (arith, short, inside)) (end_free es run.0 run.1 apart last.there);
}

pub taken_none : (es : List (ℕ × ℕ)) (place left : ℕ) → is_place es place ≡ false → RunsOn es true place left 0
taken_none es place left free = record {
  within = omega arith;
  all = λ p low high. absurd (omega (arith, low, high));
  end = λ short. subst (λ (p : ℕ). is_place es p ≡ false) (omega arith) free;
}

-- a run that has a place behind one that is free begins behind that
begins_behind : (es : List (ℕ × ℕ)) (place p : ℕ) → is_place es place ≡ false → place ≤ p → (r : RunWith es p) → place ≤ r.first
begins_behind es place p free low r = by_order (cases_lt r.first place)
  where
    by_order : (r.first < place) ⊎ (place ≤ r.first) → place ≤ r.first
    by_order (inl below) = absurd (both_ways (is_place es place) free (place_in es r.first r.end place r.run (omega (arith, below)) (omega (arith, low, r.high))))
    by_order (inr behind) = behind

pub free_on : (es : List (ℕ × ℕ)) (place left first : ℕ) → AreApart es → (0 < left → is_place es place ≡ false) → IsFirstFrom es place first → RunsOn es false place left (min left (first - place))
free_on es place left first apart free from = record {
  within = omega arith;
  all = λ p low high. no_place es p apart (λ r.
      let behind : place ≤ r.first = begins_behind es place p (free (omega (arith, low, high))) low r in
      omega (arith, from.least r.first behind (some_run es r.first r.end r.run), r.low, high, from.behind));
  end = λ short. by_run short (run_at es first) refl from.there;
}
  where
    by_run : min left (first - place) < left → (o : Option ℕ) → run_at es first ≡ o → IsSome o → is_place es (place + min left (first - place)) ≡ true
    by_run short (Some v) is some = place_in es first v (place + min left (first - place)) is (omega (arith, from.behind, short)) (omega (arith, from.behind, short, full es first v apart is))
    by_run short None is some = absurd (cc (some))

pub free_all : (es : List (ℕ × ℕ)) (place left : ℕ) → AreApart es → (0 < left → is_place es place ≡ false) → ((k : ℕ) → place ≤ k → run_at es k ≡ None) → RunsOn es false place left left
free_all es place left apart free none = record {
  within = omega arith;
  all = λ p low high. no_place es p apart (λ r. none-some r.end (sym (none r.first (begins_behind es place p (free (omega (arith, low, high))) low r)) ∙ r.run));
  end = λ short. absurd (omega (arith, short));
}

pub first_bound : (es : List (ℕ × ℕ)) (place first : ℕ) → AreApart es → EndBy max_place es → IsFirstFrom es place first → first < max_place
first_bound es place first apart by from = by_run (run_at es first) refl from.there
  where
    by_run : (o : Option ℕ) → run_at es first ≡ o → IsSome o → first < max_place
    by_run (Some v) is some = omega (arith, full es first v apart is, ends_by es max_place first v by is)
    by_run None is some = absurd (cc (some))

-- ---- overlaps

pub no_share : (es : List (ℕ × ℕ)) (at count : ℕ) → ((p : ℕ) → at ≤ p → p < at + count → is_place es p ≡ false) → SharesPlace es at count false
no_share es at count none = λ p here. let b = bounds at count p here in none p b.0 b.1

pub past_max : (es : List (ℕ × ℕ)) (p : ℕ) → AreApart es → EndBy max_place es → max_place ≤ p → is_place es p ≡ false
past_max es p apart by past = no_place es p apart (λ r. omega (arith, r.high, ends_by es max_place r.first r.end by r.run, past))

pub share_by : (es : List (ℕ × ℕ)) (at count last : ℕ) (run : ℕ × ℕ) (b : Bool) → AreApart es → EndBy max_place es → 0 < count → ((p : ℕ) → p < at + count → p < max_place → p ≤ last) → at ≤ last → last < at + count
    → IsLastUpTo es last run → nat_lt at run.1 ≡ b → SharesPlace es at count b
share_by es at count last run true apart by some reach low high up test = by_order (cases_lt at run.0)
  where
    by_order : (at < run.0) ⊎ (run.0 ≤ at) → SharesPlace es at count true
    by_order (inl below) = (run.0, inside at count run.0 (omega (arith, below)) (omega (arith, up.first, high)), place_in es run.0 run.1 run.0 up.there (omega arith) (full es run.0 run.1 apart up.there))
    by_order (inr above) = (at, inside at count at (omega arith) (omega (arith, some)), place_in es run.0 run.1 at up.there above (ltb-true at run.1 test))
share_by es at count last run false apart by some reach low high up test = no_share es at count (λ p here there. by_limit p here there (cases_lt p max_place))
  where
    by_limit : (p : ℕ) → at ≤ p → p < at + count → (p < max_place) ⊎ (max_place ≤ p) → is_place es p ≡ false
    by_limit p here there (inl below) = last_ends es last run apart up p (omega (arith, ltb-false at run.1 test, here)) (reach p there below)
    by_limit p here there (inr past) = past_max es p apart by past

pub none_share : (es : List (ℕ × ℕ)) (at count last : ℕ) → AreApart es → EndBy max_place es → ((p : ℕ) → p < at + count → p < max_place → p ≤ last) → ((k : ℕ) → k ≤ last → run_at es k ≡ None) → SharesPlace es at count false
none_share es at count last apart by reach none = no_share es at count (λ p here there. by_limit p there (cases_lt p max_place))
  where
    by_limit : (p : ℕ) → p < at + count → (p < max_place) ⊎ (max_place ≤ p) → is_place es p ≡ false
    by_limit p there (inl below) = none_up_to es last apart none p (reach p there below)
    by_limit p there (inr past) = past_max es p apart by past
