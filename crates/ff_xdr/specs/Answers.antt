-- What the functions over slices say.
use Rattle.std.specs.Prelude.{◌≡◌, ℕ, ◌<◌, ◌≤◌, true, false, List, length, Option, Some, None, Result, Ok, Err}
use Rattle.std.specs.Borrow.{Bor}
use Rattle.std.specs.Str.Lossy.{utf8_valid_len}
use Rattle.ff_xdr.specs.declared.error.XdrError.{XdrError}
use Rattle.ff_xdr.specs.Reading.{Read, may_begin_text}

-- What was answered is what `read` says: the value, seen by `view`, and the place behind it.
abbrev pub Answers : {X M : Type 0} → (X → M) → Result (X × ℕ) XdrError → Read M → Type 0
Answers view (Ok x) read = read ≡ Ok (view x.0, x.1)
Answers view (Err e) read = read ≡ Err e

-- the place behind the value is no further than this
abbrev pub EndsWithin : {X : Type 0} → ℕ → Result (X × ℕ) XdrError → Type 0
EndsWithin size (Ok x) = x.1 ≤ size
EndsWithin size (Err e) = Unit {0}

-- The text that stands of one of `count` bytes; else, where it goes wrong, or where it is cut off.
abbrev pub IsTextOf : ℕ → List ℕ → Result (Bor (List ℕ)) (Option ℕ) → Type 0
IsTextOf count front (Ok text) = (text.now ≡ front) × (may_begin_text count front ≡ true)
IsTextOf count front (Err None) = (length front < count) × (may_begin_text count front ≡ true)
IsTextOf count front (Err (Some valid)) = (valid ≡ utf8_valid_len front) × (valid ≤ length front) × (may_begin_text count front ≡ false)
