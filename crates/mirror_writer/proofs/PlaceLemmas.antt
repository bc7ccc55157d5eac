-- The places of the taken writes.
use Rattle.std.proofs.Common.{◌≡◌, ℕ, suc, zero, ◌+◌, ◌<◌, ◌≤◌, Bool, true, false, List, [], ◌∷◌, ◌++◌, length, get_or, refl, sym, ap, ◌∙◌, arith, inl, inr, ◌⊎◌}
use Rattle.std.specs.Prelude.{◌&&◌, ◌||◌, nat_le, nat_lt}
use Rattle.std.specs.List.{All, list_any}
use Rattle.std.proofs.lemmas.List.Elements.{All-append}
use Rattle.std.proofs.lemmas.List.Folds.{list_any-append}
use Rattle.std.proofs.lemmas.Bool.{and_parts, or_cases, or_parts, both_ways, leb-true, leb-false, ltb-true, le-leb, lt-ltb}
use Rattle.mirror_writer.specs.declared.call.TakenWrite.{TakenWrite}
use Rattle.mirror_writer.specs.Writers.{touches}
use Rattle.mirror_writer.specs.Extents.{in_window, AddsPlaces, SharesPlace}
use Rattle.mirror_writer.specs.Places.{is_place_of, ArePlacesOf}

-- ---- windows

both : (a b : Bool) → a ≡ true → b ≡ true → (a && b) ≡ true
both a b first second = ap (λ x. x && b) first ∙ second

pub inside : (at count p : ℕ) → at ≤ p → p < at + count → in_window at count p ≡ true
inside at count p first last = both (nat_le at p) (nat_lt p (at + count)) (le-leb at p first) (lt-ltb p (at + count) last)

pub bounds : (at count p : ℕ) → in_window at count p ≡ true → (at ≤ p) × (p < at + count)
bounds at count p is = let parts = and_parts (nat_le at p) (nat_lt p (at + count)) is in (leb-true at p parts.0, ltb-true p (at + count) parts.1)

abbrev common : (at count : ℕ) (w : TakenWrite) → Type 0
common at count w = (p : ℕ) × (in_window at count p ≡ true) × (is_place_of p w ≡ true)

touching : (at count : ℕ) (w : TakenWrite) (p : ℕ) → in_window at count p ≡ true → is_place_of p w ≡ true → touches at count w ≡ true
touching at count w p here there =
    let a = bounds at count p here in
    let b = bounds w.at (length w.bytes) p there in
    both (nat_lt at (w.at + length w.bytes)) (nat_lt w.at (at + count)) (lt-ltb at (w.at + length w.bytes) (omega (arith, a, b))) (lt-ltb w.at (at + count) (omega (arith, a, b)))

first_common : (at count : ℕ) (w : TakenWrite) → 0 < count → 0 < length w.bytes → touches at count w ≡ true → common at count w
first_common at count w some full is =
    let parts = and_parts (nat_lt at (w.at + length w.bytes)) (nat_lt w.at (at + count)) is in
    by_order (nat_le at w.at) refl (ltb-true at (w.at + length w.bytes) parts.0) (ltb-true w.at (at + count) parts.1)
  where
    by_order : (b : Bool) → nat_le at w.at ≡ b → at < w.at + length w.bytes → w.at < at + count → common at count w
    by_order true order left right = (w.at, inside at count w.at (leb-true at w.at order) right, inside w.at (length w.bytes) w.at (omega arith) (omega (arith, full)))
    by_order false order left right =
        let below = leb-false at w.at order in
        (at, inside at count at (omega arith) (omega (arith, some)), inside w.at (length w.bytes) at (omega (arith, below)) left)

-- ---- the taken writes

pub or_true : (a b : Bool) → b ≡ true → (a || b) ≡ true
or_true true b is = refl
or_true false b is = is

pub touches_some : (at count p : ℕ) (taken : List TakenWrite) → in_window at count p ≡ true → list_any (is_place_of p) taken ≡ true → list_any (touches at count) taken ≡ true
touches_some at count p [] here there = absurd cc
touches_some at count p (w ∷ taken) here there = by_side (or_cases (is_place_of p w) (list_any (is_place_of p) taken) there) (touches_some at count p taken here)
  where
    by_side : (is_place_of p w ≡ true) ⊎ (list_any (is_place_of p) taken ≡ true) → (list_any (is_place_of p) taken ≡ true → list_any (touches at count) taken ≡ true)
        → list_any (touches at count) (w ∷ taken) ≡ true
    by_side (inl first) rest = ap (λ b. b || list_any (touches at count) taken) (touching at count w p here first)
    by_side (inr later) rest = or_true (touches at count w) (list_any (touches at count) taken) (rest later)

tail : (w : TakenWrite) (taken : List TakenWrite) → All (λ v. 0 < length v.bytes) (w ∷ taken) → All (λ v. 0 < length v.bytes) taken
tail w taken all = λ k d within. all (suc k) d (omega (arith, within))

pub touches_none : (at count : ℕ) (taken : List TakenWrite) → 0 < count → All (λ v. 0 < length v.bytes) taken
    → ((p : ℕ) → in_window at count p ≡ true → list_any (is_place_of p) taken ≡ false) → list_any (touches at count) taken ≡ false
touches_none at count [] some full none = refl
touches_none at count (w ∷ taken) some full none =
    by_answer (touches at count w) refl
    (touches_none at count taken some (tail w taken full) (λ p here. (or_parts (is_place_of p w) (list_any (is_place_of p) taken) (none p here)).1))
  where
    by_answer : (b : Bool) → touches at count w ≡ b → list_any (touches at count) taken ≡ false → (b || list_any (touches at count) taken) ≡ false
    by_answer false is rest = rest
    by_answer true is rest =
        let c = first_common at count w some (full 0 w (omega arith)) is in
        absurd (both_ways (is_place_of c.0 w) ((or_parts (is_place_of c.0 w) (list_any (is_place_of c.0) taken) (none c.0 c.1)).0) c.2)

-- ---- by the runs

pub overlap_found : (taken : List TakenWrite) (runs : List (ℕ × ℕ)) (at count : ℕ) → ArePlacesOf taken runs → SharesPlace runs at count true → list_any (touches at count) taken ≡ true
overlap_found taken runs at count are shares = touches_some at count shares.0 taken shares.1 (sym (are.places shares.0) ∙ shares.2)

pub overlap_none : (taken : List TakenWrite) (runs : List (ℕ × ℕ)) (at count : ℕ) → 0 < count → ArePlacesOf taken runs → SharesPlace runs at count false → list_any (touches at count) taken ≡ false
overlap_none taken runs at count some are shares = touches_none at count taken some are.some (λ p here. sym (are.places p) ∙ shares p here)

pub none_shared : (taken : List TakenWrite) (runs : List (ℕ × ℕ)) (at count : ℕ) → ArePlacesOf taken runs → list_any (touches at count) taken ≡ false → SharesPlace runs at count false
none_shared taken runs at count are apart = λ p here. are.places p ∙ by_answer p here (list_any (is_place_of p) taken) refl
  where
    by_answer : (p : ℕ) → in_window at count p ≡ true → (b : Bool) → list_any (is_place_of p) taken ≡ b → b ≡ false
    by_answer p here false is = refl
    by_answer p here true is = absurd (both_ways (list_any (touches at count) taken) apart (touches_some at count p taken here is))

or_false : (a : Bool) → a ≡ (a || false)
or_false true = refl
or_false false = refl

pub one_more : (taken : List TakenWrite) (runs new : List (ℕ × ℕ)) (w : TakenWrite) → ArePlacesOf taken runs → 0 < length w.bytes → AddsPlaces runs w.at (length w.bytes) new
    → ArePlacesOf (taken ++ w ∷ []) new
one_more taken runs new w are full adds = record {
  some = All-append (λ v. 0 < length v.bytes) taken (w ∷ []) are.some (λ k d within. only k d within);
  places = λ p. adds p ∙ ap (λ b. b || is_place_of p w) (are.places p) ∙ ap (λ b. list_any (is_place_of p) taken || b) (or_false (is_place_of p w)) ∙ sym (list_any-append (is_place_of p) taken (w ∷ []));
}
  where
    only : (k : ℕ) (d : TakenWrite) → k < 1 → 0 < length (get_or (w ∷ []) k d).bytes
    only zero d within = full
    only (suc k) d within = absurd (omega (arith, within))
