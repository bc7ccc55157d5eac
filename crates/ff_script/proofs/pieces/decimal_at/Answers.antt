use Rattle.std.proofs.Common.{◌≡◌, ℕ, Bool, true, false, cond, Some, None, Result, Ok, Err, inl, inr, ◌<◌, ◌≤◌, ◌^◌, refl, sym, ap, ◌∙◌}
use Rattle.std.specs.Bool.{then_some}
use Rattle.std.specs.Result.{OkIff, result_ok}
use Rattle.std.proofs.lemmas.Bool.{cases_lt}
use Rattle.std.specs.Prelude.{decimal}
use Rattle.std.specs.Str.{bytes_eq}
use Rattle.ff_script.specs.Pieces.{decimal_value}
use Rattle.ff_script.proofs.PieceLemmas.{number_long, number_big, number_fits}
use Rattle.ff_script.proofs.pieces.decimal_at.Goals as goal

pub returns-then-text-gt-DIGITS : goal.returns-then-text-gt-DIGITS
returns-then-text-gt-DIGITS c = sym (number_long c.args.text.now c.if-text-gt-DIGITS.true)

-- what the conversion said
too_big : {E : Type 0} (r : Result ℕ E) (n : ℕ) → OkIff r (n < 2 ^ 32) n → None ≡ result_ok r → 2 ^ 32 ≤ n
too_big (Ok k) n said is = absurd (cc)
too_big (Err e) n said is = elim (cases_lt n (2 ^ 32)) [ inl small ↦ absurd (said small) | inr big ↦ big ]

small : {E : Type 0} (r : Result ℕ E) (n k : ℕ) → OkIff r (n < 2 ^ 32) n → Some k ≡ result_ok r → (n < 2 ^ 32) × (k ≡ n)
small (Ok j) n k said is = let same : k ≡ j = cc in (said.0, same ∙ said.1)
small (Err e) n k said is = absurd (cc)

pub returns-in_err-number : goal.returns-in_err-number
returns-in_err-number c =
    let big = too_big c.try_from.result c.decimal_value.result c.try_from.ensures c.in_err-number.ensures.value in
    c.from_residual.ensures ∙ sym (number_big c.args.text.now (rw c.decimal_value.ensures at big))

then_cond : {A : Type 0} (b : Bool) (a : A) → then_some b a ≡ cond b (Some a) None
then_cond true a = refl
then_cond false a = refl

pub returns : goal.returns
returns c =
    let text = c.args.text.now in
    let number = c.in_ok-number.number in
    let value = decimal_value 0 text in
    let fits = small c.try_from.result c.decimal_value.result number c.try_from.ensures c.in_ok-number.ensures.value in
    let same : number ≡ value = fits.1 ∙ c.decimal_value.ensures in
    let test : c.eq.result ≡ bytes_eq (decimal value) text =
    c.eq.ensures ∙ ap (λ bs. bytes_eq bs text) (c.as_bytes.ensures.value ∙ c.format.ensures.text ∙ ap decimal same) in
    c.then_some.ensures ∙ then_cond c.eq.result number ∙ ap (λ b. cond b (Some number) None) test
    ∙ ap (λ n. cond (bytes_eq (decimal value) text) (Some n) None) same
    ∙ sym (number_fits text c.if-text-gt-DIGITS.false (rw c.decimal_value.ensures at fits.0))
