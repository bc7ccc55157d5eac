-- How many words there are, by the first of them.
use Rattle.std.proofs.Common.{Bor, ◌≡◌, ℕ, Bool, true, false, not, List, [], ◌∷◌, Option, Some, None, is_some, refl, sym, ap, ◌∙◌}
use Rattle.std.specs.Prelude.{option_map, IsTrue, ◌↔◌}
use Rattle.ff_script.specs.Pieces.{parts}
use Rattle.ff_script.proofs.PieceLemmas.{parts_some}
use Rattle.cluster_script.specs.ScriptWords.{words_of, args_in, one_of, two_of, three_of, four_of}

abbrev pub Words : Type 0
Words = List (List ℕ)

-- a text has a word, also an empty text
pub words_some : (text : List ℕ) → words_of text ≡ [] → ⊥
words_some text h = parts_some 32 text h

-- no text is no words, and a text is words
none_or_some : (text : Option (List ℕ)) (words : Words) (r : Bool) → args_in text ≡ words → is_some text ≡ not r → IsTrue r ↔ (words ≡ [])
none_or_some None words true is some = (λ _. sym is, λ _. refl)
none_or_some None words false is some = absurd (cc)
none_or_some (Some text) words true is some = absurd (cc)
none_or_some (Some text) words false is some = (λ h. absurd (cc), λ none. absurd (words_some text (is ∙ none)))

-- ---- with a word in front

more : (word : List ℕ) (words : Words) → (words ≡ [] → ⊥) → one_of (word ∷ words) ≡ None
more word [] some = absurd (some refl)
more word (a ∷ words) some = refl

-- a text with a space is no word alone
pub not_one : (text word rest : List ℕ) → parts 32 text ≡ word ∷ parts 32 rest → one_of (words_of text) ≡ None
not_one text word rest cut = ap one_of cut ∙ more word (words_of rest) (words_some rest)

pub three_by_two : (word : List ℕ) (words : Words) → three_of (word ∷ words) ≡ option_map (λ p. (word, p.0, p.1)) (two_of words)
three_by_two word [] = refl
three_by_two word (a ∷ []) = refl
three_by_two word (a ∷ b ∷ []) = refl
three_by_two word (a ∷ b ∷ c ∷ words) = refl

pub four_by_three : (word : List ℕ) (words : Words) → four_of (word ∷ words) ≡ option_map (λ p. (word, p.0, p.1, p.2)) (three_of words)
four_by_three word [] = refl
four_by_three word (a ∷ []) = refl
four_by_three word (a ∷ b ∷ []) = refl
four_by_three word (a ∷ b ∷ c ∷ []) = refl
four_by_three word (a ∷ b ∷ c ∷ d ∷ words) = refl

-- ---- with the text of a value of the code

pub words_seen : (text : Option (Bor (List ℕ))) (t : Bor (List ℕ)) (words : Words) → args_in (option_map (λ x. x.now) text) ≡ words → text ≡ Some t → words ≡ words_of t.now
words_seen text t words seen was = sym seen ∙ ap (λ o. args_in (option_map (λ x. x.now) o)) was

pub none_seen : (text : Option (Bor (List ℕ))) (words : Words) (r : Bool) → args_in (option_map (λ x. x.now) text) ≡ words → is_some text ≡ not r → IsTrue r ↔ (words ≡ [])
none_seen None words r seen some = none_or_some None words r seen some
none_seen (Some t) words r seen some = none_or_some (Some t.now) words r seen some
