-- Forms that RFC 4506 knows and that have values.
use Rattle.std.specs.Prelude.{ℕ, ◌-◌, ◌^◌, Bool, true, false, ◌&&◌, nat_lt, min, IsTrue, refl}
use Rattle.std.proofs.Common.{arith}
use Rattle.std.proofs.lemmas.Bool.{and_parts, lt-ltb}
use Rattle.ff_xdr.specs.Form.{Form, Opaque, Text, Optional, Pair, Array, is_sound}
use Rattle.ff_xdr.specs.Laws.{is_filled}

-- the form is sound, and each part of it has a value
abbrev pub is_proper : Form → Bool
is_proper form = is_sound form && is_filled form

-- a maximum that the word of a length can hold; where none is said it is the greatest (RFC 4506, section 4.10)
abbrev pub word_max : ℕ → ℕ
word_max max = min max (2 ^ 32 - 1)

-- ---- that the parts of messages have such forms

pub both : (a b : Bool) → IsTrue a → IsTrue b → IsTrue (a && b)
both true b p q = q
both false b p q = p

pub proper_parts : (form : Form) → IsTrue (is_proper form) → IsTrue (is_sound form) × IsTrue (is_filled form)
proper_parts form proper = and_parts (is_sound form) (is_filled form) proper

pub pair_is_proper : (first second : Form) → IsTrue (is_proper first) → IsTrue (is_proper second) → IsTrue (is_proper (Pair first second))
pair_is_proper first second p q =
    let a = proper_parts first p in
    let b = proper_parts second q in
    both (is_sound first && is_sound second) (is_filled first && is_filled second) (both (is_sound first) (is_sound second) a.0 b.0) (both (is_filled first) (is_filled second) a.1 b.1)

pub optional_is_proper : (each : Form) → IsTrue (is_proper each) → IsTrue (is_proper (Optional each))
optional_is_proper each p = p

word_max-fits : (max : ℕ) → IsTrue (nat_lt (word_max max) (2 ^ 32))
word_max-fits max = lt-ltb (word_max max) (2 ^ 32) (omega arith)

pub opaque_is_proper : (max : ℕ) → IsTrue (is_proper (Opaque (word_max max)))
opaque_is_proper max = both (nat_lt (word_max max) (2 ^ 32)) true (word_max-fits max) refl

pub text_is_proper : (max : ℕ) → IsTrue (is_proper (Text (word_max max)))
text_is_proper max = both (nat_lt (word_max max) (2 ^ 32)) true (word_max-fits max) refl

pub array_is_proper : (max : ℕ) (each : Form) → IsTrue (is_proper each) → IsTrue (is_proper (Array (word_max max) each))
array_is_proper max each p =
    let a = proper_parts each p in
    both (nat_lt (word_max max) (2 ^ 32) && is_sound each) (is_filled each) (both (nat_lt (word_max max) (2 ^ 32)) (is_sound each) (word_max-fits max) a.0) a.1
