-- Sets of places of a file. A run of places is the pair of its first and of the first behind it.
use Rattle.std.specs.Prelude.{◌≡◌, ℕ, ◌+◌, ◌<◌, ◌≤◌, Bool, true, false, ◌&&◌, ◌||◌, not, ⊤, List, [], ◌∷◌, map, nat_le, nat_lt}
use Rattle.std.specs.List.{All, list_any}
use Rattle.cluster_model.specs.declared.limits.TheConstants.{MAX_FILE}

abbrev pub has_place : ℕ → (ℕ × ℕ) → Bool
has_place p run = nat_le run.0 p && nat_lt p run.1

abbrev pub is_place : List (ℕ × ℕ) → ℕ → Bool
is_place runs p = list_any (has_place p) runs

-- A set has one list of runs: they stand in order, none is empty, and between two there is a place that is in neither.
abbrev pub AreApart : List (ℕ × ℕ) → Type 0
AreApart [] = ⊤
AreApart (run ∷ []) = run.0 < run.1
AreApart (run ∷ next ∷ runs) = (run.0 < run.1) × (run.1 < next.0) × AreApart (next ∷ runs)

-- `count` places from `at` on
abbrev pub in_window : ℕ → ℕ → ℕ → Bool
in_window at count p = nat_le at p && nat_lt p (at + count)

-- the places of the window are added, and no others
abbrev pub AddsPlaces : List (ℕ × ℕ) → ℕ → ℕ → List (ℕ × ℕ) → Type 0
AddsPlaces old at count new = (p : ℕ) → is_place new p ≡ (is_place old p || in_window at count p)

-- whether some place of the window is in the set
abbrev pub SharesPlace : List (ℕ × ℕ) → ℕ → ℕ → Bool → Type 0
SharesPlace runs at count true = (p : ℕ) × (in_window at count p ≡ true) × (is_place runs p ≡ true)
SharesPlace runs at count false = (p : ℕ) → in_window at count p ≡ true → is_place runs p ≡ false

-- a gap is the pair of its first place and of how many it has
abbrev pub run_of_gap : (ℕ × ℕ) → ℕ × ℕ
run_of_gap gap = (gap.0, gap.0 + gap.1)

-- the places of the window that are not in the set, as runs apart
pub record AreGaps (runs : List (ℕ × ℕ)) (at count : ℕ) (gaps : List (ℕ × ℕ)) : Type 0 where
  pub apart : AreApart (map run_of_gap gaps)
  pub places : (p : ℕ) → is_place (map run_of_gap gaps) p ≡ (in_window at count p && not (is_place runs p))

-- no place is at or behind this one
abbrev pub EndBy : ℕ → List (ℕ × ℕ) → Type 0
EndBy end runs = All (λ run. run.1 ≤ end) runs

-- the places of a file end here
abbrev pub max_place : ℕ
max_place = MAX_FILE
