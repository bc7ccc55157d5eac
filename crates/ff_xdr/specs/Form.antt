-- The grammar of XDR (RFC 4506): one type of forms, and for each form its values, their one spelling,
-- and which of them have one.
use Rattle.std.specs.Prelude.{◌≡◌, ℕ, ◌-◌, ◌%◌, ◌^◌, ◌<◌, ◌≤◌, Bool, true, false, ◌&&◌, ◌||◌, not, List, [], ◌++◌, length, replicate, Option, Some, None, ℤ, IsTrue, ◌⊎◌, nat_eq, nat_lt}
use Rattle.std.proofs.Common.{inl, inr}
use Rattle.std.specs.Int.{w32, w64, to_be_bytes, cast_unsigned}
use Rattle.std.specs.Int.RustNames.{FitsSigned}
use Rattle.std.specs.List.{AllByRecursion, list_any, list_all, flat_map}
use Rattle.std.specs.Str.{is_utf8}

-- What a message is made of. A union is a chain of `Arm`s that ends in `NoArm`, or in a form whose
-- own first word is none of their numbers, as that of a default arm.
pub data Form : Type 0 where
  -- no bytes (RFC 4506, section 4.16)
  Void : Form
  -- unsigned integers of four and eight bytes (sections 4.2 and 4.5)
  Number32 : Form
  Number64 : Form
  -- a signed integer of eight bytes, in two's complement (section 4.5)
  Hyper : Form
  -- a bool (section 4.4)
  Boolean : Form
  -- an enum, by its numbers (section 4.3)
  Enum : (numbers : List ℕ) → Form
  -- optional data (section 4.19)
  Optional : (each : Form) → Form
  -- opaque data of fixed length, and of variable length up to a maximum (sections 4.9 and 4.10)
  Fixed : (count : ℕ) → Form
  Opaque : (max : ℕ) → Form
  -- a string, which is UTF-8 here (section 4.11)
  Text : (max : ℕ) → Form
  -- two parts of a structure, one after the other (section 4.14)
  Pair : (first second : Form) → Form
  -- an array of variable length up to a maximum (section 4.13)
  Array : (max : ℕ) (each : Form) → Form
  -- an arm of a discriminated union and those behind it; no arm (section 4.15)
  Arm : (number : ℕ) (body others : Form) → Form
  NoArm : Form
  -- the word of a default arm, which is none of these numbers (section 4.15)
  Default : (numbers : List ℕ) → Form

-- the plain values of a form
abbrev pub Value : Form → Type 0
Value Void = Unit {0}
Value Number32 = ℕ
Value Number64 = ℕ
Value Hyper = ℤ
Value Boolean = Bool
Value (Enum numbers) = ℕ
Value (Optional each) = Option (Value each)
Value (Fixed count) = List ℕ
Value (Opaque max) = List ℕ
Value (Text max) = List ℕ
Value (Pair first second) = Value first × Value second
Value (Array max each) = List (Value each)
Value (Arm number body others) = Value body ⊎ Value others
Value NoArm = ⊥
Value (Default numbers) = ℕ

-- four and eight bytes, the highest first (RFC 4506, sections 4.2 and 4.5)
unfoldable pub word : ℕ → List ℕ
word n = to_be_bytes w32 n

unfoldable pub long : ℕ → List ℕ
long n = to_be_bytes w64 n

-- how many zero bytes make a multiple of four (RFC 4506, section 3)
unfoldable pub pad_len : ℕ → ℕ
pad_len n = (4 - n % 4) % 4

-- bytes, and zeros up to a multiple of four
unfoldable pub padded : List ℕ → List ℕ
padded bytes = bytes ++ replicate (pad_len (length bytes)) 0

-- the one spelling of a value
abbrev pub spelling : (form : Form) → Value form → List ℕ
spelling Void v = []
spelling Number32 n = word n
spelling Number64 n = long n
spelling Hyper z = long (cast_unsigned w64 z)
spelling Boolean false = word 0
spelling Boolean true = word 1
spelling (Enum numbers) n = word n
spelling (Optional each) None = word 0
spelling (Optional each) (Some v) = word 1 ++ spelling each v
spelling (Fixed count) bytes = padded bytes
spelling (Opaque max) bytes = word (length bytes) ++ padded bytes
spelling (Text max) bytes = word (length bytes) ++ padded bytes
spelling (Pair first second) (a, b) = spelling first a ++ spelling second b
spelling (Array max each) vs = word (length vs) ++ flat_map (λ v. spelling each v) vs
spelling (Arm number body others) (inl v) = word number ++ spelling body v
spelling (Arm number body others) (inr v) = spelling others v
spelling NoArm v = absurd v
spelling (Default numbers) n = word n

-- the value has a spelling: each number fits its width, and each length its maximum
abbrev pub Fits : (form : Form) → Value form → Type 0
Fits Void v = Unit {0}
Fits Number32 n = n < 2 ^ 32
Fits Number64 n = n < 2 ^ 64
Fits Hyper z = FitsSigned w64 z
Fits Boolean b = Unit {0}
Fits (Enum numbers) n = IsTrue (list_any (nat_eq n) numbers)
Fits (Optional each) None = Unit {0}
Fits (Optional each) (Some v) = Fits each v
Fits (Fixed count) bytes = length bytes ≡ count
Fits (Opaque max) bytes = length bytes ≤ max
Fits (Text max) bytes = (length bytes ≤ max) × IsTrue (is_utf8 bytes)
Fits (Pair first second) (a, b) = Fits first a × Fits second b
Fits (Array max each) vs = (length vs ≤ max) × AllByRecursion (λ v. Fits each v) vs
Fits (Arm number body others) (inl v) = Fits body v
Fits (Arm number body others) (inr v) = Fits others v
Fits NoArm v = ⊥
Fits (Default numbers) n = (n < 2 ^ 32) × IsTrue (not (list_any (nat_eq n) numbers))

-- no value of the form begins with the word of this number
abbrev pub avoids : ℕ → Form → Bool
avoids n NoArm = true
avoids n (Arm number body others) = not (nat_eq n number) && avoids n others
avoids n (Enum numbers) = not (list_any (nat_eq n) numbers)
avoids n (Default numbers) = list_any (nat_eq n) numbers
avoids n (Pair first second) = avoids n first
avoids n _ = false

-- the form is one that RFC 4506 knows: each number and maximum fits a word, and the arms of a union
-- have different numbers
abbrev pub is_sound : Form → Bool
is_sound (Enum numbers) = list_all (λ n. nat_lt n (2 ^ 32)) numbers
is_sound (Optional each) = is_sound each
is_sound (Opaque max) = nat_lt max (2 ^ 32)
is_sound (Text max) = nat_lt max (2 ^ 32)
is_sound (Pair first second) = is_sound first && is_sound second
is_sound (Array max each) = nat_lt max (2 ^ 32) && is_sound each
is_sound (Arm number body others) = nat_lt number (2 ^ 32) && avoids number others && is_sound body && is_sound others
is_sound _ = true

-- A union whose number is known from outside, as a call's procedure: the arm's body alone.
abbrev pub arm_spelling : (form : Form) → Value form → List ℕ
arm_spelling (Arm number body others) (inl v) = spelling body v
arm_spelling (Arm number body others) (inr v) = arm_spelling others v
arm_spelling form v = spelling form v

-- the number of the arm that a value has
abbrev pub arm_of : (form : Form) → Value form → ℕ
arm_of (Arm number body others) (inl v) = number
arm_of (Arm number body others) (inr v) = arm_of others v
arm_of form v = 0

-- one of the arms has this number
abbrev pub has_arm : ℕ → Form → Bool
has_arm n (Arm number body others) = nat_eq n number || has_arm n others
has_arm n _ = false
