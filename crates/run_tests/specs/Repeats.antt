-- A small task, for the tests. The line `3 a` asks for the byte `a` three times, each in a step of its own. No more than five
-- bytes are printed in all, and where the lines end their number is printed, as one byte.
use Rattle.std.specs.Prelude.{◌≡◌, ℕ, zero, suc, ◌+◌, ◌-◌, ◌==◌, nat_lt, true, false, List, [], ◌∷◌, Option, Some, None, if◌then◌else◌}
use Rattle.std.proofs.Common.{refl, sym, subst}
use Rattle.line_runs.specs.Runs.{RunEffect, LinesMeaning, at_end, after_text}
use Rattle.line_runs.specs.Tasks.{TaskValue, ahead_of, IsAtEnd}

-- how often a line asks for which byte
abbrev pub repeat_asked : List ℕ → Option (ℕ × ℕ)
repeat_asked [] = None
repeat_asked (digit ∷ []) = None
repeat_asked (digit ∷ blank ∷ []) = None
repeat_asked (digit ∷ blank ∷ byte ∷ []) = if blank == 32 then Some (digit - 48, byte) else None
repeat_asked (digit ∷ blank ∷ byte ∷ more ∷ rest) = None

-- so many bytes are to be printed behind these, and then comes the rest: it stops at the limit, or one is added
abbrev pub repeats : {A : Type 0} → (ℕ → A) → (A → A) → ℕ → ℕ → (ℕ → A) → A
repeats stop add zero printed rest = rest printed
repeats stop add (suc n) printed rest = if nat_lt printed 5 then add (repeats stop add n (printed + 1) rest) else stop printed

-- what a limit comes to, and a line outside the grammar
abbrev pub at_limit : ℕ → RunEffect
at_limit printed = record { text = []; bad = None; past = true; count = printed; closing = printed ∷ [] }

abbrev pub at_bad : ℕ → ℕ → RunEffect
at_bad number printed = record { text = []; bad = Some number; past = false; count = printed; closing = printed ∷ [] }

-- what is left of a line comes to, before the rest
abbrev pub prints : ℕ → ℕ → ℕ → (ℕ → RunEffect) → RunEffect
prints byte left printed rest = repeats at_limit (after_text (byte ∷ [])) left printed rest

-- how many bytes there are behind it
abbrev pub counts : ℕ → ℕ → (ℕ → ℕ) → ℕ
counts left printed rest = repeats (λ n. n) (λ n. n) left printed rest

abbrev pub by_asked : {A : Type 0} → (ℕ → A) → (ℕ → ℕ → A) → ℕ → Option (ℕ × ℕ) → A
by_asked bad good printed None = bad printed
by_asked bad good printed (Some a) = good a.0 a.1

abbrev pub prints_from : ℕ → ℕ → LinesMeaning
prints_from printed number [] = at_end printed (printed ∷ [])
prints_from printed number (line ∷ lines) = by_asked (at_bad number) (λ times byte. prints byte times printed (λ p. prints_from p (number + 1) lines)) printed (repeat_asked line)

abbrev pub counts_from : ℕ → List (List ℕ) → ℕ
counts_from printed [] = printed
counts_from printed (line ∷ lines) = by_asked (λ n. n) (λ times byte. counts times printed (λ p. counts_from p lines)) printed (repeat_asked line)

-- the task, where so many bytes of the line are left
abbrev pub repeat_task : ℕ → ℕ → ℕ → TaskValue ℕ
repeat_task left byte printed = record {
  meaning = λ number lines. prints byte left printed (λ p. prints_from p number lines);
  after = λ lines. counts left printed (λ p. counts_from p lines);
  entries = printed;
  closing = printed ∷ [];
  state = printed;
}

-- no lines come to the number alone, where no byte is left
pub at_end_again : (left byte printed number : ℕ) → left ≡ 0 → IsAtEnd (repeat_task left byte printed) (ahead_of number (repeat_task left byte printed))
at_end_again left byte printed number none = subst (λ n. IsAtEnd (repeat_task n byte printed) (ahead_of number (repeat_task n byte printed))) (sym none) (record { effect = refl; same = refl })
