-- The calls that files have kept until a tick, told by the files that have.
use Rattle.std.specs.Prelude.{◌≡◌, ℕ, suc, ◌≤◌, ◌<◌, ◌==◌, if◌then◌else◌, List, [], ◌∷◌, ◌++◌, Option, Some, None, slice_get}
use Rattle.mds_sends.specs.declared.kept.NumberedCall.{NumberedCall}

abbrev pub kept_as : ℕ → Option (ℕ × ℕ) → List NumberedCall
kept_as n None = []
kept_as n (Some call) = record { number = n; server = call.0; xid = call.1 } ∷ []

-- of each file from this number on, what it has kept, if it has
abbrev pub numbered_kept : ℕ → List (Option (ℕ × ℕ)) → List NumberedCall
numbered_kept n [] = []
numbered_kept n (kept ∷ list) = kept_as n kept ++ numbered_kept (suc n) list

-- what the file at this place has kept
abbrev pub kept_call : Option (Option (ℕ × ℕ)) → Option (ℕ × ℕ)
kept_call None = None
kept_call (Some kept) = kept

abbrev pub kept_in : List (Option (ℕ × ℕ)) → ℕ → Option (ℕ × ℕ)
kept_in list place = kept_call (slice_get list place)

-- no file with a number from the first on and below the second has kept one
abbrev pub NoneKept : List (Option (ℕ × ℕ)) → ℕ → ℕ → Type 0
NoneKept list from end = (place : ℕ) → from ≤ suc place → suc place < end → kept_in list place ≡ None

-- the number of the first file from one on that has kept one
abbrev pub FirstKept : List (Option (ℕ × ℕ)) → ℕ → Option ℕ → Type 0
FirstKept list from None = (end : ℕ) → NoneKept list from end
FirstKept list from (Some n) = (from ≤ n) × NoneKept list from n

-- a number that is found is no more than the other, if this is one from the first on
abbrev pub IsAtMost : ℕ → Option ℕ → Option ℕ → Type 0
IsAtMost from found other = (n k : ℕ) → found ≡ Some n → other ≡ Some k → from ≤ k → n ≤ k

-- ---- of calls that are left: the number of the file of the first, the call of one file, if it is the first, and what is left behind it

abbrev pub first_number : List NumberedCall → Option ℕ
first_number [] = None
first_number (call ∷ rest) = Some call.number

abbrev pub kept_for : ℕ → List NumberedCall → Option (ℕ × ℕ)
kept_for n [] = None
kept_for n (call ∷ rest) = if call.number == n then Some (call.server, call.xid) else None

abbrev pub rest_behind : ℕ → List NumberedCall → List NumberedCall
rest_behind n [] = []
rest_behind n (call ∷ rest) = if call.number == n then rest else call ∷ rest
