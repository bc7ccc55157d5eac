use Rattle.std.proofs.Common.{◌≡◌, ℕ, ◌<◌, ◌^◌, Bool, true, false, List, Option, Some, None, Result, Ok, Err, sym, ap, subst, ◌∙◌}
use Rattle.std.specs.Prelude.{decimal}
use Rattle.std.specs.Bool.{then_some}
use Rattle.std.specs.Str.{bytes_eq}
use Rattle.std.specs.Result.{result_ok}
use Rattle.std.specs.Str.Parse.{ParsesUnsigned}
use Rattle.std.proofs.lemmas.Fmt.{parse-decimal}
use Rattle.std.proofs.lemmas.Slice.Eq.{bytes_eq-Decides}
use Rattle.command_words.specs.Spelled.{FindsNumber}
use Rattle.command_words.proofs.command.number_of.Goals as goal

ok_none : {E : Type 0} (r : Result ℕ E) (n : ℕ) → r ≡ Ok n → None ≡ result_ok r → ⊥
ok_none (Ok m) n is none = cc
ok_none (Err e) n is none = cc

ok_some : {E : Type 0} (r : Result ℕ E) (m n : ℕ) → r ≡ Ok n → Some m ≡ result_ok r → m ≡ n
ok_some (Ok k) m n is some = cc
ok_some (Err e) m n is some = absurd (cc)

-- a text that is not read as a number is no number's
none : {E : Type 0} (r : Result ℕ E) (text : List ℕ) (given : Option ℕ) → given ≡ None → None ≡ result_ok r → ParsesUnsigned 64 10 text r → FindsNumber text given
none r text None is read says = λ n small same. ok_none r n (parse-decimal 64 n text r small small same says) read
none r text (Some m) is read says = absurd (cc)

-- what is read is below 2^64
below : {E : Type 0} (r : Result ℕ E) (text : List ℕ) (m : ℕ) → Some m ≡ result_ok r → ParsesUnsigned 64 10 text r → m < 2 ^ 64
below (Ok k) text m read says =
    let same : m ≡ k = cc (read) in
    rw (same ∙ says.1) says.0.1
below (Err e) text m read says = absurd (cc (read))

-- the number that was read, printed again, is the text or not
printed : {E : Type 0} (r : Result ℕ E) (text : List ℕ) (m : ℕ) (b : Bool) → b ≡ bytes_eq (decimal m) text → Some m ≡ result_ok r → ParsesUnsigned 64 10 text r
    → FindsNumber text (then_some b m)
printed r text m true is read says = (sym ((bytes_eq-Decides (decimal m) text).0 (sym is)), below r text m read says)
printed r text m false is read says = λ n small same.
    let number = ok_some r m n (parse-decimal 64 n text r small small same says) read in
    let equal = (bytes_eq-Decides (decimal m) text).1 (ap decimal number ∙ sym same) in
    cc (is, equal)

pub returns-in_err-number : goal.returns-in_err-number
returns-in_err-number c =
    none c.parse.result c.args.word.now c.from_residual.result c.from_residual.ensures c.in_err-number.ensures.value c.parse.ensures.value.0

pub returns : goal.returns
returns c =
    let text = c.args.word.now in
    let again = c.eq.ensures ∙ ap (λ l. bytes_eq l text) c.format.ensures.text in
    subst (FindsNumber text) (sym c.then_some.ensures) (printed c.parse.result text c.in_ok-number.number c.eq.result again c.in_ok-number.ensures.value c.parse.ensures.value.0)
