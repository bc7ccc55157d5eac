-- Steps of the small task of the tests.
use Rattle.std.proofs.Common.{◌≡◌, ℕ, zero, suc, ◌+◌, ◌-◌, ◌<◌, ◌≤◌, List, [], ◌∷◌, ◌++◌, refl, sym, ap, subst, ◌∙◌, arith}
use Rattle.std.proofs.lemmas.List.{append-nil}
use Rattle.std.proofs.lemmas.Bool.{lt-ltb, le-ltb, cond-true, cond-false}
use Rattle.line_runs.specs.Runs.{RunEffect, after_text}
use Rattle.line_runs.specs.Tasks.{ahead_of, Goes, EndsRun, IsAtLimit}
use Rattle.run_tests.specs.Repeats.{repeats, at_limit, prints_from, counts_from, repeat_task}

-- one more byte, below the limit
one_more : {A : Type 0} (stop : ℕ → A) (add : A → A) (left printed : ℕ) (rest : ℕ → A) → 0 < left → printed < 5 → repeats stop add left printed rest ≡ add (repeats stop add (left - 1) (printed + 1) rest)
one_more stop add zero printed rest some below = absurd (omega (arith, some))
one_more stop add (suc n) printed rest some below =
    let less : n ≡ suc n - 1 = omega arith in
    cond-true _ _ _ (lt-ltb printed 5 below) ∙ ap (λ k. add (repeats stop add k (printed + 1) rest)) less

-- none, at the limit
no_more : {A : Type 0} (stop : ℕ → A) (add : A → A) (left printed : ℕ) (rest : ℕ → A) → 0 < left → 5 ≤ printed → repeats stop add left printed rest ≡ stop printed
no_more stop add zero printed rest some above = absurd (omega (arith, some))
no_more stop add (suc n) printed rest some above = cond-false _ _ _ (le-ltb printed 5 above)

pub goes_again : (number left byte printed : ℕ) (text text' : List ℕ) → 0 < left → printed < 5 → text' ≡ text ++ byte ∷ []
    → Goes (ahead_of number (repeat_task left byte printed)) text (ahead_of number (repeat_task (left - 1) byte (printed + 1))) text'
goes_again number left byte printed text text' some below now = record {
  more = byte ∷ [];
  now = now;
  same = λ lines. one_more at_limit (after_text (byte ∷ [])) left printed (λ p. prints_from p number lines) some below;
  after = λ lines. one_more (λ n. n) (λ n. n) left printed (λ p. counts_from p lines) some below;
}

pub stops_again : (number left byte printed : ℕ) (text : List ℕ) → 0 < left → 5 ≤ printed
    → EndsRun (IsAtLimit printed) (ahead_of number (repeat_task left byte printed)) text (repeat_task left byte printed) text
stops_again number left byte printed text some above =
    let effect = λ (lines : List (List ℕ)). no_more at_limit (after_text (byte ∷ [])) left printed (λ p. prints_from p number lines) some above in record {
      more = [];
      now = sym (append-nil text);
      why = λ lines. subst (λ e. IsAtLimit printed e) (sym (effect lines)) (refl, refl);
      adds = λ lines. ap (λ (e : RunEffect). e.text) (effect lines);
      closing = λ lines. ap (λ (e : RunEffect). e.closing) (effect lines);
      after = λ lines. no_more (λ n. n) (λ n. n) left printed (λ p. counts_from p lines) some above;
    }
