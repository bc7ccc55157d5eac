-- The words of a line are read again, and a line is cut off a text.
use Rattle.std.proofs.Common.{◌≡◌, ◌≢◌, ℕ, zero, suc, ◌+◌, ◌-◌, ◌<◌, ◌≤◌, ◌==◌, nat_lt, true, false, List, [], ◌∷◌, ◌++◌, length, refl, sym, ap, ◌∙◌, arith}
use Rattle.std.specs.List.{list_all, AllByRecursion}
use Rattle.std.proofs.lemmas.Bool.{and_parts, ltb-true, lt-ltb, ne_eqb}
use Rattle.std.proofs.lemmas.List.{append_assoc, length-append}
use Rattle.cluster_model.specs.Print.{words, joined}
use Rattle.journal_print.proofs.Reading.{Above, Above-append}
use Rattle.line_runs.specs.Lines.{Line, cut_line, onto, script_lines}
use Rattle.line_runs.proofs.LineLemmas.{cut_newline, cut_other, script_line}
use Rattle.ff_script.specs.Pieces.{parts}

-- ---- words

part_last : (w : List ℕ) → Above 32 w → parts 32 w ≡ w ∷ []
unfolding parts
part_last [] above = refl
part_last (b ∷ bs) above =
    let both = and_parts (nat_lt 32 b) (list_all (nat_lt 32) bs) above in
    let other : (b == 32) ≡ false = ne_eqb b 32 (λ same. absurd (omega (arith, ltb-true 32 b both.0, same))) in
    rw (other, part_last bs both.1) refl

part_more : (w rest : List ℕ) → Above 32 w → parts 32 (w ++ 32 ∷ rest) ≡ w ∷ parts 32 rest
unfolding parts
part_more [] rest above = refl
part_more (b ∷ bs) rest above =
    let both = and_parts (nat_lt 32 b) (list_all (nat_lt 32) bs) above in
    let other : (b == 32) ≡ false = ne_eqb b 32 (λ same. absurd (omega (arith, ltb-true 32 b both.0, same))) in
    rw (other, part_more bs rest both.1) refl

-- the words of joined words
pub words_again : (w : List ℕ) (ws : List (List ℕ)) → AllByRecursion (Above 32) (w ∷ ws) → parts 32 (joined 32 (w ∷ ws)) ≡ w ∷ ws
words_again w [] above = part_last w above.0
words_again w (v ∷ vs) above = part_more w (joined 32 (v ∷ vs)) above.0 ∙ ap (λ l. w ∷ l) (words_again v vs above.1)

-- ---- lines

-- a line of words is its words, joined, with a newline (10)
words_ended : (w : List ℕ) (ws : List (List ℕ)) → words (w ∷ ws) ≡ joined 32 (w ∷ ws) ++ 10 ∷ []
words_ended w [] = refl
words_ended w (v ∷ vs) = ap (λ t. w ++ 32 ∷ t) (words_ended v vs) ∙ sym (append_assoc w (32 ∷ joined 32 (v ∷ vs)) (10 ∷ []))

above_less : (w : List ℕ) → Above 32 w → Above 10 w
above_less [] above = refl
above_less (b ∷ bs) above =
    let both = and_parts (nat_lt 32 b) (list_all (nat_lt 32) bs) above in
    let here : nat_lt 10 b ≡ true = lt-ltb 10 b (omega (arith, ltb-true 32 b both.0)) in
    rw (here, above_less bs both.1) refl

above_joined : (w : List ℕ) (ws : List (List ℕ)) → AllByRecursion (Above 32) (w ∷ ws) → Above 10 (joined 32 (w ∷ ws))
above_joined w [] above = above_less w above.0
above_joined w (v ∷ vs) above = Above-append 10 w (32 ∷ joined 32 (v ∷ vs)) (above_less w above.0) (above_joined v vs above.1)

cut_at_newline : (line rest : List ℕ) (n : ℕ) → Above 10 line → length line < n → cut_line n (line ++ 10 ∷ rest) ≡ Line line rest
cut_at_newline line rest zero above room = absurd (omega (arith, room))
cut_at_newline [] rest (suc n) above room = cut_newline n 10 rest refl
cut_at_newline (b ∷ bs) rest (suc n) above room =
    let both = and_parts (nat_lt 10 b) (list_all (nat_lt 10) bs) above in
    let other : b ≢ 10 = λ same. omega (arith, ltb-true 10 b both.0, same) in
    cut_other n b (bs ++ 10 ∷ rest) other ∙ ap (onto b) (cut_at_newline bs rest n both.1 (omega (arith, room)))

-- the first line of a text
pub line_first : (line rest : List ℕ) (n : ℕ) → Above 10 line → length (line ++ 10 ∷ rest) ≤ n
    → (script_lines n (line ++ 10 ∷ rest) ≡ line ∷ script_lines (n - (length line + 1)) rest) × (length rest ≤ n - (length line + 1))
line_first line rest n above room =
    let long : length (line ++ 10 ∷ rest) ≡ length line + (length rest + 1) = omega (arith, length-append line (10 ∷ rest)) in
    (script_line n (line ++ 10 ∷ rest) line rest (cut_at_newline line rest n above (omega (arith, long, room))), omega (arith, long, room))

-- the first line of a text that begins with a line of words
pub words_first : (w : List ℕ) (ws : List (List ℕ)) (rest : List ℕ) (n : ℕ) → AllByRecursion (Above 32) (w ∷ ws) → length (words (w ∷ ws) ++ rest) ≤ n
    → (script_lines n (words (w ∷ ws) ++ rest) ≡ joined 32 (w ∷ ws) ∷ script_lines (n - (length (joined 32 (w ∷ ws)) + 1)) rest) × (length rest ≤ n - (length (joined 32 (w ∷ ws)) + 1))
words_first w ws rest n above room =
    let line : List ℕ = joined 32 (w ∷ ws) in
    let text : words (w ∷ ws) ++ rest ≡ line ++ 10 ∷ rest = ap (λ t. t ++ rest) (words_ended w ws) ∙ append_assoc line (10 ∷ []) rest in
    let first = line_first line rest n (above_joined w ws above) (omega (arith, ap length text, room)) in
    (ap (script_lines n) text ∙ first.0, first.1)
