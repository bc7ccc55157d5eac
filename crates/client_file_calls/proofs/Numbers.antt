-- The number that a text is in decimal.
use Rattle.std.proofs.Common.{◌≡◌, ℕ, ◌^◌, ◌<◌, Bool, true, false, cond, List, Option, Some, None, refl, sym, ap, ◌∙◌, arith}
use Rattle.std.specs.Prelude.{decimal, bytes_eq, nat_lt, ◌&&◌}
use Rattle.std.specs.Str.Parse.{digits_value}
use Rattle.std.proofs.lemmas.Bool.{lt-ltb, ltb-true}
use Rattle.std.proofs.lemmas.Fmt.{decimal_is_IsNumeral}
use Rattle.std.proofs.lemmas.Slice.Eq.{bytes_eq-Decides}
use Rattle.ff_layout.specs.User.{IsUserNumber}
use Rattle.client_file_calls.specs.LayoutGrants.{user_number_in}

pub number_is : (text : List ℕ) (r : Option ℕ) → IsUserNumber text r → r ≡ user_number_in text
number_is text (Some n) h =
    let value : digits_value 10 text ≡ n = ap (digits_value 10) h.0 ∙ (decimal_is_IsNumeral n (omega (arith, h.1))).1 in
    let same : bytes_eq text (decimal (digits_value 10 text)) ≡ true = (bytes_eq-Decides text (decimal (digits_value 10 text))).1 (h.0 ∙ ap decimal (sym value)) in
    let below : digits_value 10 text < 2 ^ 32 = omega (arith, h.1, value) in
    rw (same, lt-ltb (digits_value 10 text) (2 ^ 32) below) (ap Some (sym value))
number_is text None h = by (bytes_eq text (decimal (digits_value 10 text))) refl (nat_lt (digits_value 10 text) (2 ^ 32)) refl
  where
    by : (same : Bool) → bytes_eq text (decimal (digits_value 10 text)) ≡ same → (small : Bool) → nat_lt (digits_value 10 text) (2 ^ 32) ≡ small
        → None ≡ cond (same && small) (Some (digits_value 10 text)) None
    by true s true l = absurd (h (digits_value 10 text) (ltb-true (digits_value 10 text) (2 ^ 32) l) ((bytes_eq-Decides text (decimal (digits_value 10 text))).0 s))
    by true s false l = refl
    by false s small l = refl
