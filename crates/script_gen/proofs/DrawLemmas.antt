-- What the code draws, and the text of it.
use Rattle.std.proofs.Common.{◌≡◌, ℕ, suc, ◌+◌, ◌*◌, ◌%◌, List, [], ◌++◌, Result, Ok, Err, refl, sym, ap, subst, ◌∙◌}
use Rattle.std.proofs.lemmas.List.{append_assoc}
use Rattle.ff_xdr.specs.declared.error.NoMemory.{NoMemory}
use Rattle.ff_xdr.specs.Calls.{Puts, Grows}
use Rattle.std.proofs.Math.Nat.{mod-add-mod}
use Rattle.script_gen.specs.Generated.{next_state, states_on, DrawnLine, drawn_line, draws_of, line_text, drawn_text, opening_lines, closing_lines, generated}

-- the next state, in steps that wrap
pub next_by_steps : (x : ℕ) → (x * 6364136223846793005 % 18446744073709551616 + 1442695040888963407) % 18446744073709551616 ≡ next_state x
unfolding next_state
next_by_steps x = mod-add-mod (x * 6364136223846793005) 18446744073709551616 1442695040888963407

-- no lines
pub no_text : (x : ℕ) → drawn_text 0 x ≡ []
unfolding drawn_text
no_text x = refl

-- a line, and those behind it
pub text_more : (m x : ℕ) → drawn_text (suc m) x ≡ line_text (drawn_line x) ++ drawn_text m (states_on (draws_of (drawn_line x)) x)
unfolding drawn_text
text_more m x = refl

pub text_on : (n m x y : ℕ) (line : DrawnLine) → n ≡ suc m → line ≡ drawn_line x → y ≡ states_on (draws_of line) x → drawn_text n x ≡ line_text line ++ drawn_text m y
text_on n m x y line is drawn on =
    ap (λ k. drawn_text k x) is ∙ text_more m x
    ∙ subst (λ l. line_text (drawn_line x) ++ drawn_text m (states_on (draws_of (drawn_line x)) x) ≡ line_text l ++ drawn_text m (states_on (draws_of l) x)) (sym drawn) refl
    ∙ ap (λ z. line_text line ++ drawn_text m z) (sym on)

-- the closing lines behind the others, or a part of the script
pub closes : (seed start : ℕ) (old opened drawn new : List ℕ) (r : Result (Unit {0}) NoMemory) → start ≡ seed → opened ≡ old ++ opening_lines → drawn ≡ opened ++ drawn_text 2000 start → Puts drawn r new closing_lines
    → Grows old r new (generated seed)
unfolding generated
closes seed start old opened drawn new (Ok x) from first next last =
    last ∙ ap (λ t. t ++ closing_lines) (next ∙ ap (λ t. t ++ drawn_text 2000 start) first ∙ ap (λ n. old ++ opening_lines ++ drawn_text 2000 n) from ∙ append_assoc old opening_lines (drawn_text 2000 seed))
    ∙ append_assoc old (opening_lines ++ drawn_text 2000 seed) closing_lines
closes seed start old opened drawn new (Err e) from first next last =
    (opening_lines ++ drawn_text 2000 start, last ∙ next ∙ ap (λ t. t ++ drawn_text 2000 start) first ∙ append_assoc old opening_lines (drawn_text 2000 start))
