-- What is asked of the runs of a set, one at a time.
use Rattle.std.specs.Prelude.{◌≡◌, ◌≢◌, ℕ, ◌+◌, ◌<◌, ◌≤◌, Bool, not, List, [], ◌∷◌, ◌++◌, Option, Some, None, IsSome, ◌⊎◌}
use Rattle.std.specs.Ordering.{nat_cmp}
use Rattle.std.specs.Map.{lookup}
use Rattle.std.specs.BTreeMap.{is_at}
use Rattle.mirror_writer.specs.Extents.{is_place}

-- where the run ends that begins at this place
abbrev pub run_at : List (ℕ × ℕ) → ℕ → Option ℕ
run_at runs k = lookup (is_at (nat_cmp k)) runs

-- the last run that begins at this place or before
pub record IsLastUpTo (runs : List (ℕ × ℕ)) (place : ℕ) (run : ℕ × ℕ) : Type 0 where
  pub first : run.0 ≤ place
  pub there : run_at runs run.0 ≡ Some run.1
  pub last : (k : ℕ) → k ≤ place → IsSome (run_at runs k) → k ≤ run.0

abbrev pub LastUpTo : List (ℕ × ℕ) → ℕ → Option (ℕ × ℕ) → Type 0
LastUpTo runs place None = (k : ℕ) → k ≤ place → run_at runs k ≡ None
LastUpTo runs place (Some run) = IsLastUpTo runs place run

-- the first run that begins at this place or behind it
pub record IsFirstFrom (runs : List (ℕ × ℕ)) (place first : ℕ) : Type 0 where
  pub behind : place ≤ first
  pub there : IsSome (run_at runs first)
  pub least : (k : ℕ) → place ≤ k → IsSome (run_at runs k) → first ≤ k

abbrev pub FirstFrom : List (ℕ × ℕ) → ℕ → Option ℕ → Type 0
FirstFrom runs place None = (k : ℕ) → place ≤ k → run_at runs k ≡ None
FirstFrom runs place (Some first) = IsFirstFrom runs place first

-- a run that ends at this place begins at `first`; where there is none, `first` is the place itself
abbrev pub BeginsAt : List (ℕ × ℕ) → ℕ → ℕ → Type 0
BeginsAt runs place first = (run_at runs first ≡ Some place) ⊎ ((first ≡ place) × ((k : ℕ) → run_at runs k ≢ Some place))

-- of at most `left` places from this one on, the first `count` are in the set, or are not, and then comes another
pub record RunsOn (runs : List (ℕ × ℕ)) (inside : Bool) (from left count : ℕ) : Type 0 where
  pub within : count ≤ left
  pub all : (p : ℕ) → from ≤ p → p < from + count → is_place runs p ≡ inside
  pub end : count < left → is_place runs (from + count) ≡ not inside

-- where the run ends that begins at this place; where there is none, the place itself
abbrev pub EndsAt : List (ℕ × ℕ) → ℕ → ℕ → Type 0
EndsAt runs place end = (run_at runs place ≡ Some end) ⊎ ((run_at runs place ≡ None) × (end ≡ place))

-- a gap of some places is one more
abbrev pub PushesGap : List (ℕ × ℕ) → ℕ → ℕ → List (ℕ × ℕ) → Type 0
PushesGap old first count new = ((0 < count) × (new ≡ old ++ (first, count) ∷ [])) ⊎ ((count ≡ 0) × (new ≡ old))
