-- Reading XDR from a place on: the value and the place behind it, or the first byte that no value has
-- there, and why. A place counts from the start of the bytes.
use Rattle.std.specs.Prelude.{ℕ, ℤ, zero, suc, ◌+◌, Bool, true, false, ◌&&◌, ◌||◌, List, [], ◌∷◌, length, take, drop, slice_index, Option, Some, None, is_none, Result, Ok, Err, nat_eq, nat_lt, nat_le, ◌==◌, if◌then◌else◌, ◌⊎◌}
use Rattle.std.proofs.Common.{inl, inr}
use Rattle.std.specs.Int.{Width, w32, w64, byte_len, from_be_bytes, cast_signed}
use Rattle.std.specs.List.{list_any}
use Rattle.std.specs.Str.{is_utf8, continuation_len}
use Rattle.std.specs.Str.Lossy.{utf8_valid_len, utf8_error_len}
use Rattle.ff_xdr.specs.declared.error.XdrError.{XdrError}
use Rattle.ff_xdr.specs.declared.error.XdrWhy.{XdrWhy}
use Rattle.ff_xdr.specs.declared.error.XdrWhy.TheVariants.{Short, Pad, NotBool, NotEnum, TooLong, NotUtf8, Rest}
use Rattle.ff_xdr.specs.Form.{Form, Void, Number32, Number64, Hyper, Boolean, Enum, Optional, Fixed, Opaque, Text, Pair, Array, Arm, NoArm, Default, Value, pad_len}

-- a value and the place behind it, or a refusal
abbrev pub Read : Type 0 → Type 0
Read M = Result (M × ℕ) XdrError

infixl 10 ◌>>=◌
abbrev pub ◌>>=◌ : {A B : Type 0} → Result A XdrError → (A → Result B XdrError) → Result B XdrError
(Ok x) >>= f = f x
(Err e) >>= f = Err e

abbrev pub refused : {M : Type 0} → ℕ → XdrWhy → Read M
refused place why = Err (record { place = place; why = why })

-- A number: its bytes, or the slice's end.
unfoldable pub number_at : Width → List ℕ → ℕ → Read ℕ
number_at w bytes at = if nat_lt (length bytes) (at + byte_len w) then refused (length bytes) Short else Ok (from_be_bytes w (take (byte_len w) (drop at bytes)), at + byte_len w)

-- a signed number of eight bytes
unfoldable pub hyper_at : List ℕ → ℕ → Read ℤ
hyper_at bytes at = do
  n ← number_at w64 bytes at
  Ok (cast_signed w64 n.0, n.1)

-- Padding of n bytes: each is zero (RFC 4506, section 3).
abbrev pub padding_at : ℕ → List ℕ → ℕ → Result ℕ XdrError
padding_at zero bytes at = Ok at
padding_at (suc n) bytes at =
    if nat_lt at (length bytes)
    then (if slice_index bytes at == 0 then padding_at n bytes (at + 1) else Err (record { place = at; why = Pad }))
    else Err (record { place = length bytes; why = Short })

-- n bytes and their padding
unfoldable pub fixed_at : ℕ → List ℕ → ℕ → Read (List ℕ)
fixed_at n bytes at =
    if nat_lt (length bytes) (at + n) then refused (length bytes) Short
    else (padding_at (pad_len n) bytes (at + n) >>= λ to. Ok (take n (drop at bytes), to))

-- a length of at most max, which a word spells
unfoldable pub length_at : ℕ → List ℕ → ℕ → Read ℕ
length_at max bytes at = do
  n ← number_at w32 bytes at
  if nat_lt max n.0 then refused at TooLong else Ok n

unfoldable pub opaque_at : ℕ → List ℕ → ℕ → Read (List ℕ)
opaque_at max bytes at = do
  n ← length_at max bytes at
  fixed_at n.0 bytes n.1

unfoldable pub flag_at : List ℕ → ℕ → Read Bool
flag_at bytes at = do
  n ← number_at w32 bytes at
  if n.0 == 0 then Ok (false, n.1) else (if n.0 == 1 then Ok (true, n.1) else refused at NotBool)

-- The bytes that stand of a text of n bytes could be its beginning: they are UTF-8, or the slice ends
-- in a sequence that n bytes still have room for.
unfoldable pub may_begin_text : ℕ → List ℕ → Bool
may_begin_text n front =
    let valid = utf8_valid_len front in
    is_utf8 front || (nat_lt (length front) n && is_none (utf8_error_len (drop valid front)) && nat_le (valid + 1 + continuation_len (slice_index front valid)) n)

unfoldable pub text_at : ℕ → List ℕ → ℕ → Read (List ℕ)
text_at max bytes at = do
  n ← length_at max bytes at
  let front = take n.0 (drop n.1 bytes)
  if may_begin_text n.0 front then fixed_at n.0 bytes n.1 else refused (n.1 + utf8_valid_len front) NotUtf8

-- so many values, one after the other
abbrev pub many_at : {M : Type 0} → (ℕ → Read M) → ℕ → ℕ → Read (List M)
many_at each zero at = Ok ([], at)
many_at each (suc n) at = do
  first ← each at
  others ← many_at each n first.1
  Ok (first.0 ∷ others.0, others.1)

-- a bool, and the value where it is true
abbrev pub optional_at : {M : Type 0} → (ℕ → Read M) → Bool → ℕ → Read (Option M)
optional_at each false at = Ok (None, at)
optional_at each true at = do
  v ← each at
  Ok (Some v.0, v.1)

-- the arm's body where the number is the arm's, else the other arms
abbrev pub arm_at : {A B : Type 0} → Bool → Read A → Read B → Read (A ⊎ B)
arm_at true body others = do
  v ← body
  Ok (inl v.0, v.1)
arm_at false body others = do
  v ← others
  Ok (inr v.0, v.1)

abbrev pub reading : (form : Form) → List ℕ → ℕ → Read (Value form)
reading Void bytes at = Ok (tt, at)
reading Number32 bytes at = number_at w32 bytes at
reading Number64 bytes at = number_at w64 bytes at
reading Hyper bytes at = hyper_at bytes at
reading Boolean bytes at = flag_at bytes at
reading (Enum numbers) bytes at = do
  n ← number_at w32 bytes at
  if list_any (nat_eq n.0) numbers then Ok n else refused at NotEnum
reading (Optional each) bytes at = do
  there ← flag_at bytes at
  optional_at (λ place. reading each bytes place) there.0 there.1
reading (Fixed count) bytes at = fixed_at count bytes at
reading (Opaque max) bytes at = opaque_at max bytes at
reading (Text max) bytes at = text_at max bytes at
reading (Pair first second) bytes at = do
  a ← reading first bytes at
  b ← reading second bytes a.1
  Ok ((a.0, b.0), b.1)
reading (Array max each) bytes at = do
  n ← length_at max bytes at
  many_at (λ place. reading each bytes place) n.0 n.1
reading (Arm number body others) bytes at = do
  n ← number_at w32 bytes at
  arm_at (n.0 == number) (reading body bytes n.1) (reading others bytes at)
reading NoArm bytes at = do
  n ← number_at w32 bytes at
  refused at NotEnum
reading (Default numbers) bytes at = do
  n ← number_at w32 bytes at
  if list_any (nat_eq n.0) numbers then refused at NotEnum else Ok n

-- nothing is left behind the place
abbrev pub rest_of : List ℕ → ℕ → Result (Unit {0}) XdrError
rest_of bytes at = if nat_lt at (length bytes) then Err (record { place = at; why = Rest }) else Ok tt

-- a value and nothing behind it, up to the end of the bytes
abbrev pub whole : {M : Type 0} → List ℕ → Read M → Result M XdrError
whole bytes read = do
  v ← read
  rest_of bytes v.1 >>= λ nothing. Ok v.0

-- the body of the arm with a number that is known from outside
abbrev pub arm_reading : (form : Form) → ℕ → List ℕ → ℕ → Read (Value form)
arm_reading (Arm number body others) n bytes at = arm_at (n == number) (reading body bytes at) (arm_reading others n bytes at)
arm_reading form n bytes at = reading form bytes at
