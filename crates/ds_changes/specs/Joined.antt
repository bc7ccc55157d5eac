-- Pending writes joined to ranges.
use Rattle.std.specs.Prelude.{◌≡◌, ℕ, ◌+◌, ◌<◌, ◌≤◌, List, [], ◌∷◌, length, take, drop, ◌⊎◌, ◌↔◌}
use Rattle.std.specs.List.{AllByRecursion}
use Rattle.cluster_model.specs.Content.{Pending}

-- a byte's place is one of a write's
abbrev pub IsOfRange : ℕ → Pending → Type 0
IsOfRange place w = (w.at ≤ place) × (place < w.at + length w.bytes)

-- it is one of some write's
abbrev pub IsInRanges : ℕ → List Pending → Type 0
IsInRanges place [] = ⊥
IsInRanges place (w ∷ ws) = IsOfRange place w ⊎ IsInRanges place ws

-- a range has bytes, which are those that are shown there
pub record IsShown (shown : List ℕ) (r : Pending) : Type 0 where
  pub some : 0 < length r.bytes
  pub same : take (length r.bytes) (drop r.at shown) ≡ r.bytes

-- each range ends before the next begins, with at least one place between
abbrev pub AreRangesApart : List Pending → Type 0
AreRangesApart [] = Unit {0}
AreRangesApart (r ∷ []) = Unit {0}
AreRangesApart (r ∷ (q ∷ rs)) = (r.at + length r.bytes < q.at) × AreRangesApart (q ∷ rs)

-- The places of the ranges are those of the pending writes, and their bytes are what is shown there.
pub record AreJoined (pending : List Pending) (shown : List ℕ) (ranges : List Pending) : Type 0 where
  pub covers : (place : ℕ) → IsInRanges place ranges ↔ IsInRanges place pending
  pub shows : AllByRecursion (IsShown shown) ranges
  pub apart : AreRangesApart ranges
