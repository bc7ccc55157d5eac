use Rattle.std.proofs.Common.{◌≡◌, ℕ, Bool, true, false, List, Option, Some, sym, ap, subst, ◌∙◌, ◌<◌, arith, Result}
use Rattle.std.specs.Prelude.{decimal, MatchOption}
use Rattle.std.specs.Bool.{then_some}
use Rattle.std.specs.Str.{bytes_eq}
use Rattle.std.specs.Result.{result_ok}
use Rattle.std.specs.Str.Parse.{ParsesUnsigned}
use Rattle.std.proofs.lemmas.Fmt.{parse-decimal}
use Rattle.std.proofs.lemmas.Slice.Eq.{bytes_eq-Decides}
use Rattle.device_addr.proofs.AddressLemmas.{when_none, ok_none, ok_some}
use Rattle.device_addr.proofs.net_addr.byte_at.Goals as goal

pub returns-in_err-number : goal.returns-in_err-number
returns-in_err-number c =
    when_none _ _ c.from_residual.result c.from_residual.ensures
    (λ n small is. ok_none c.parse.result n (parse-decimal 8 n c.args.text.now c.parse.result (omega arith) (omega arith) is c.parse.ensures.value.0) c.in_err-number.ensures.value)

-- the number that was read, printed again, is the text or not
printed : {E : Type 0} (r : Result ℕ E) (text : List ℕ) (m : ℕ) (b : Bool) → b ≡ bytes_eq (decimal m) text → Some m ≡ result_ok r → ParsesUnsigned 8 10 text r
    → MatchOption (then_some b m) ((n : ℕ) → n < 256 → text ≡ decimal n → ⊥) (λ n. text ≡ decimal n)
printed r text m true is read says = sym ((bytes_eq-Decides (decimal m) text).0 (sym is))
printed r text m false is read says = λ n small same.
    let number = ok_some r m n (parse-decimal 8 n text r (omega arith) (omega arith) same says) read in
    let equal = (bytes_eq-Decides (decimal m) text).1 (ap decimal number ∙ sym same) in
    cc (is, equal)

pub returns : goal.returns
returns c =
    let P = λ (o : Option ℕ). MatchOption o ((n : ℕ) → n < 256 → c.args.text.now ≡ decimal n → ⊥) (λ n. c.args.text.now ≡ decimal n) in
    subst P (sym c.then_some.ensures) (printed c.parse.result c.args.text.now c.in_ok-number.number c.eq.result (c.eq.ensures ∙ ap (λ l. bytes_eq l c.args.text.now) c.format.ensures.text) c.in_ok-number.ensures.value c.parse.ensures.value.0)
