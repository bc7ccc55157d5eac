-- Text that stands in part.
use Rattle.std.proofs.Common.{◌≡◌, ℕ, ◌+◌, ◌<◌, Bool, true, false, cond, ltb, List, length, take, drop, get_or, Result, Ok, Err, refl, ap, arith}
use Rattle.std.specs.Prelude.{◌&&◌, nat_lt, nat_le, is_none}
use Rattle.std.specs.Str.{is_utf8, IsUtf8, continuation_len}
use Rattle.std.specs.Str.Lossy.{utf8_valid_len, utf8_error_len}
use Rattle.std.proofs.lemmas.Str.{is_utf8-from_IsUtf8, IsUtf8-from_is_utf8}
use Rattle.std.proofs.lemmas.Bool.{lt-ltb, ltb-true, false≢true}
use Rattle.std.proofs.lemmas.List.{length-take, length-drop}
use Rattle.ff_xdr.specs.declared.error.XdrError.{XdrError}
use Rattle.ff_xdr.specs.declared.error.XdrWhy.TheVariants.{Short}
use Rattle.ff_xdr.specs.Form.{pad_len}
use Rattle.ff_xdr.specs.Reading.{◌>>=◌, padding_at, length_at, fixed_at, text_at, may_begin_text, refused}

pub is_utf8_false : (bs : List ℕ) → ¬ (IsUtf8 bs) → is_utf8 bs ≡ false
is_utf8_false bs none = by_case (is_utf8 bs) refl
  where
    by_case : (b : Bool) → is_utf8 bs ≡ b → is_utf8 bs ≡ false
    by_case true e = absurd (none (IsUtf8-from_is_utf8 bs e))
    by_case false e = e

pub may_begin_utf8 : (n : ℕ) (front : List ℕ) → IsUtf8 front → may_begin_text n front ≡ true
unfolding may_begin_text
may_begin_utf8 n front h = rw (is_utf8-from_IsUtf8 front h) refl

cut_by_case : (a b c : Bool) → ((a && b) && c) ≡ true → a ≡ true
cut_by_case true b c e = refl
cut_by_case false b c e = absurd (false≢true e)

-- what may begin a text and is none was cut off
pub may_begin_cut : (n : ℕ) (front : List ℕ) → is_utf8 front ≡ false → may_begin_text n front ≡ true → length front < n
unfolding may_begin_text
may_begin_cut n front none e =
    let valid = utf8_valid_len front in
    let rest : ((nat_lt (length front) n && is_none (utf8_error_len (drop valid front))) && nat_le (valid + 1 + continuation_len (get_or front valid 0)) n) ≡ true = rw none at e in
    ltb-true _ _ (cut_by_case _ _ _ rest)

pub text_at_fixed : (max : ℕ) (bytes : List ℕ) (at n to : ℕ) → length_at max bytes at ≡ Ok (n, to) → may_begin_text n (take n (drop to bytes)) ≡ true → text_at max bytes at ≡ fixed_at n bytes to
unfolding text_at
text_at_fixed max bytes at n to e begins = rw e (rw begins refl)

pub fixed_at_short : (n : ℕ) (bytes : List ℕ) (at : ℕ) → length (take n (drop at bytes)) < n → fixed_at n bytes at ≡ refused (length bytes) Short
unfolding fixed_at
fixed_at_short n bytes at h =
    let cut : ltb (length bytes) (at + n) ≡ true = lt-ltb _ _ (omega (arith, length-take n (drop at bytes), length-drop at bytes)) in
    rw cut refl

abbrev both : List ℕ → ℕ → List ℕ × ℕ
both x to = (x, to)

abbrev with_part : List ℕ → Result ℕ XdrError → Result (List ℕ × ℕ) XdrError
with_part y r = r >>= λ to. Ok (y, to)

part_of_padding : (r : Result ℕ XdrError) (y x : List ℕ) (to : ℕ) → with_part y r ≡ Ok (x, to) → x ≡ y
part_of_padding (Ok t) y x to e = let pair : both x to ≡ both y t = cc in ap (λ (p : List ℕ × ℕ). p.0) pair
part_of_padding (Err d) y x to e = absurd cc

abbrev unless : Bool → XdrError → Result (List ℕ × ℕ) XdrError → Result (List ℕ × ℕ) XdrError
unless b d r = cond b (Err d) r

part_by_case : (b : Bool) (r : Result ℕ XdrError) (d : XdrError) (y x : List ℕ) (to : ℕ) → unless b d (with_part y r) ≡ Ok (x, to) → x ≡ y
part_by_case true r d y x to e = absurd cc
part_by_case false r d y x to e = part_of_padding r y x to e

pub fixed_at_part : (n : ℕ) (bytes : List ℕ) (at : ℕ) (x : List ℕ) (to : ℕ) → fixed_at n bytes at ≡ Ok (x, to) → x ≡ take n (drop at bytes)
unfolding fixed_at
fixed_at_part n bytes at x to e = part_by_case (nat_lt (length bytes) (at + n)) (padding_at (pad_len n) bytes (at + n)) (record { place = length bytes; why = Short }) (take n (drop at bytes)) x to e
