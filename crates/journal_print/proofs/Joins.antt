-- How the parts of a line join.
use Rattle.std.proofs.Common.{◌≡◌, ℕ, ◌/◌, ◌%◌, List, [], ◌∷◌, ◌++◌, slice_index, map, Result, Ok, Err, refl, sym, ap, ◌∙◌, append_assoc, append-nil}
use Rattle.std.specs.List.{flat_map}
use Rattle.ff_xdr.specs.declared.error.NoMemory.{NoMemory}
use Rattle.ff_xdr.specs.Calls.{Grows}
use Rattle.hex.specs.Hex.{encode_with}
use Rattle.cluster_model.specs.declared.phase.LeftCause.{LeftCause}
use Rattle.cluster_model.specs.declared.phase.LeftCause.TheVariants as leaving
use Rattle.cluster_model.specs.declared.answer.UserAnswer.{UserAnswer}
use Rattle.cluster_model.specs.declared.answer.UserAnswer.TheVariants as answer
use Rattle.cluster_model.specs.Wordings.{left_words}
use Rattle.cluster_model.specs.Print.{words, joined, list_text}
use Rattle.journal_print.specs.Brief.{answer_by}

-- the digits of joined bytes
pub encode_with-append : (t xs ys : List ℕ) → encode_with t (xs ++ ys) ≡ encode_with t xs ++ encode_with t ys
unfolding encode_with
encode_with-append t [] ys = refl
encode_with-append t (x ∷ xs) ys = ap (λ s. slice_index t (x / 16) ∷ slice_index t (x % 16) ∷ s) (encode_with-append t xs ys)

-- a word in front of the words of a cause, and of an answer
pub left_line : (w : List ℕ) (cause : LeftCause) → words (w ∷ left_words cause) ≡ w ++ 32 ∷ words (left_words cause)
left_line w leaving.Reported = refl
left_line w (leaving.Error status) = refl
left_line w leaving.Timeouts = refl
left_line w leaving.Unsynced = refl

pub answer_line : (show : List ℕ → List ℕ) (w : List ℕ) (said : UserAnswer) → words (w ∷ answer_by show said) ≡ w ++ 32 ∷ words (answer_by show said)
answer_line show w (answer.Opened file) = refl
answer_line show w answer.Written = refl
answer_line show w (answer.Committed writes) = refl
answer_line show w (answer.Bytes eof bytes) = refl
answer_line show w answer.Returned = refl
answer_line show w (answer.Failed why) = refl

-- the first text of a list, and the others each behind a comma
joined_more : {T : Type 0} (text : T → List ℕ) (x : T) (xs : List T) → joined 44 (map text (x ∷ xs)) ≡ text x ++ flat_map (λ y. 44 ∷ text y) xs
joined_more text x [] = sym (append-nil (text x))
joined_more text x (y ∷ ys) = ap (λ l. text x ++ 44 ∷ l) (joined_more text y ys)

pub grows_list : {T : Type 0} (text : T → List ℕ) (old mid new : List ℕ) (x : T) (xs items : List T) (r : Result (Unit {0}) NoMemory) → items ≡ x ∷ xs → mid ≡ old ++ text x
    → Grows mid r new (flat_map (λ y. 44 ∷ text y) xs) → Grows old r new (list_text (map text items))
grows_list text old mid new x xs items (Ok done) is one more =
    more ∙ ap (λ l. l ++ flat_map (λ y. 44 ∷ text y) xs) one ∙ append_assoc old (text x) _
    ∙ ap (λ l. old ++ l) (sym (joined_more text x xs)) ∙ ap (λ l. old ++ list_text (map text l)) (sym is)
grows_list text old mid new x xs items (Err e) is one more =
    (text x ++ more.0, more.1 ∙ ap (λ l. l ++ more.0) one ∙ append_assoc old (text x) more.0)

-- a text in front
pub grows_behind : (old mid new w text : List ℕ) (r : Result (Unit {0}) NoMemory) → mid ≡ old ++ w → Grows mid r new text → Grows old r new (w ++ text)
grows_behind old mid new w text (Ok done) one more = more ∙ ap (λ l. l ++ text) one ∙ append_assoc old w text
grows_behind old mid new w text (Err e) one more = (w ++ more.0, more.1 ∙ ap (λ l. l ++ more.0) one ∙ append_assoc old w more.0)
