-- Where the reading of a form ends at a union's arm that is not built.
use Rattle.std.specs.Prelude.{◌≡◌, ℕ, zero, suc, Bool, true, false, ◌&&◌, ◌||◌, List, [], ◌∷◌, Result, Ok, Err, ◌==◌, if◌then◌else◌}
use Rattle.std.specs.Int.{w32}
use Rattle.ff_xdr.specs.declared.error.XdrError.{XdrError}
use Rattle.ff_xdr.specs.declared.error.XdrWhy.TheVariants.{NotEnum}
use Rattle.ff_xdr.specs.Form.{Form, Enum, Optional, Pair, Array, Arm, NoArm, Default}
use Rattle.ff_xdr.specs.Reading.{Read, number_at, flag_at, length_at, reading}

-- what holds at a value that was read
abbrev pub at_value : {A : Type 0} → Result A XdrError → (A → Bool) → Bool
at_value (Ok x) holds = holds x
at_value (Err e) holds = false

-- one of so many values, one after the other
abbrev pub one_unbuilt : {M : Type 0} → (ℕ → Read M) → (ℕ → Bool) → ℕ → ℕ → Bool
one_unbuilt each unbuilt zero at = false
one_unbuilt each unbuilt (suc n) at = unbuilt at || at_value (each at) (λ v. one_unbuilt each unbuilt n v.1)

-- The reading ends at a discriminant that is none of a union's, where the union has no default arm: that arm is not built.
abbrev pub is_unbuilt : Form → List ℕ → ℕ → Bool
is_unbuilt (Optional each) bytes at = at_value (flag_at bytes at) (λ there. there.0 && is_unbuilt each bytes there.1)
is_unbuilt (Pair first second) bytes at = is_unbuilt first bytes at || at_value (reading first bytes at) (λ a. is_unbuilt second bytes a.1)
is_unbuilt (Array max each) bytes at = at_value (length_at max bytes at) (λ n. one_unbuilt (λ place. reading each bytes place) (λ place. is_unbuilt each bytes place) n.0 n.1)
is_unbuilt (Arm number body others) bytes at = at_value (number_at w32 bytes at) (λ n. if n.0 == number then is_unbuilt body bytes n.1 else is_unbuilt others bytes at)
is_unbuilt NoArm bytes at = at_value (number_at w32 bytes at) (λ n. true)
is_unbuilt _ bytes at = false

-- the form has an enum, or a default arm that refuses a number
abbrev pub has_enum : Form → Bool
has_enum (Enum numbers) = true
has_enum (Optional each) = has_enum each
has_enum (Pair first second) = has_enum first || has_enum second
has_enum (Array max each) = has_enum each
has_enum (Arm number body others) = has_enum body || has_enum others
has_enum (Default []) = false
has_enum (Default (n ∷ numbers)) = true
has_enum _ = false

-- it is refused there, for a number that is none of those that are known
abbrev pub IsNotEnumAt : Form → List ℕ → ℕ → Type 0
IsNotEnumAt form bytes at = (place : ℕ) × (reading form bytes at ≡ Err (record { place = place; why = NotEnum }))

-- Where an arm is not built, the number is refused; and a form without enums refuses a number only there.
abbrev pub IsUnbuiltRight : Form → Type 0
IsUnbuiltRight form = (bytes : List ℕ) (at : ℕ)
    → (is_unbuilt form bytes at ≡ true → IsNotEnumAt form bytes at)
    × (has_enum form ≡ false → IsNotEnumAt form bytes at → is_unbuilt form bytes at ≡ true)
