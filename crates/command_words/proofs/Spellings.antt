-- What words that spell a command are made of, and that they spell one alone.
use Rattle.std.proofs.Common.{◌≡◌, ℕ, List, [], ◌∷◌, Option, Some, None, refl, sym, ap, ap₂, ◌∙◌, arith, zero, suc, codes}
use Rattle.std.specs.Prelude.{Contains, if◌then◌else◌, unwrap_or}
use Rattle.std.specs.Str.{bytes_eq}
use Rattle.std.specs.Str.Parse.{digits_value}
use Rattle.std.proofs.lemmas.Fmt.{decimal_is_IsNumeral}
use Rattle.journal_print.specs.declared.mode.Mode.{Mode}
use Rattle.journal_print.specs.declared.mode.Mode.TheVariants.{Full, Brief, Count}
use Rattle.command_words.specs.Commands.{CommandValue, Replay, Gen, Show, Ds, Mds, Put, Get, command_word, operand_word, spellings, IsInGrammar, AsksForCommand}
use Rattle.command_words.specs.Spelled.{HasParts}

-- the first of words, and the operand behind it
abbrev pub first_in : List (List ℕ) → List ℕ
first_in [] = []
first_in (word ∷ rest) = word

abbrev pub operand_in : List (List ℕ) → Option (List ℕ)
operand_in [] = None
operand_in (word ∷ []) = None
operand_in (word ∷ operand ∷ []) = Some operand
operand_in (word ∷ dashes ∷ operand ∷ rest) = Some operand

-- how words spell a first word and an operand
pub data IsSpelling (word : List ℕ) (operand : Option (List ℕ)) (words : List (List ℕ)) : Type 0 where
  Bare : operand ≡ None → words ≡ word ∷ [] → IsSpelling word operand words
  Plain : (o : List ℕ) → operand ≡ Some o → words ≡ word ∷ o ∷ [] → IsSpelling word operand words
  Dashed : (o : List ℕ) → operand ≡ Some o → words ≡ word ∷ codes "--" ∷ o ∷ [] → IsSpelling word operand words

pub spelled_so : (word : List ℕ) (operand : Option (List ℕ)) (words : List (List ℕ)) → Contains (spellings word operand) words → IsSpelling word operand words
spelled_so word None words (zero, few, is) = Bare refl (sym is)
spelled_so word None words (suc k, few, is) = absurd (omega (arith, few))
spelled_so word (Some o) words (zero, few, is) = Plain o refl (sym is)
spelled_so word (Some o) words (suc zero, few, is) = Dashed o refl (sym is)
spelled_so word (Some o) words (suc (suc k), few, is) = absurd (omega (arith, few))

parts_by : (words : List (List ℕ)) (c : CommandValue) → IsInGrammar c → IsSpelling (command_word c) (operand_word c) words → HasParts (first_in words) (operand_in words) c
parts_by words c good (Bare none is) = record { in_grammar = good; first = ap first_in (sym is); second = none ∙ ap operand_in (sym is) }
parts_by words c good (Plain o some is) = record { in_grammar = good; first = ap first_in (sym is); second = some ∙ ap operand_in (sym is) }
parts_by words c good (Dashed o some is) = record { in_grammar = good; first = ap first_in (sym is); second = some ∙ ap operand_in (sym is) }

-- words that ask for a command have its word and its operand
pub parts_are : (words : List (List ℕ)) (c : CommandValue) → AsksForCommand words c → HasParts (first_in words) (operand_in words) c
parts_are words c asks = parts_by words c asks.in_grammar (spelled_so (command_word c) (operand_word c) words asks.spelled)

-- ---- a command is read from its word and its operand

abbrev mode_in : Option (List ℕ) → Mode
mode_in None = Full
mode_in (Some word) = if bytes_eq word (codes "brief") then Brief else Count

abbrev number_in : Option (List ℕ) → ℕ
number_in None = 0
number_in (Some digits) = digits_value 10 digits

abbrev read : List ℕ → Option (List ℕ) → CommandValue
read word operand =
    if bytes_eq word (codes "replay") then Replay (mode_in operand)
    else (if bytes_eq word (codes "gen") then Gen (number_in operand)
    else (if bytes_eq word (codes "show") then Show
    else (if bytes_eq word (codes "ds") then Ds
    else (if bytes_eq word (codes "mds") then Mds
    else (if bytes_eq word (codes "put") then Put (unwrap_or operand [])
    else Get (unwrap_or operand []))))))

again : (c : CommandValue) → IsInGrammar c → read (command_word c) (operand_word c) ≡ c
again (Replay Full) good = refl
again (Replay Brief) good = refl
again (Replay Count) good = refl
again (Gen n) good = ap Gen (decimal_is_IsNumeral n good).1
again Show good = refl
again Ds good = refl
again Mds good = refl
again (Put name) good = refl
again (Get name) good = refl

-- a word and an operand are those of one command
pub one_command : (words : List (List ℕ)) (a b : CommandValue) → AsksForCommand words a → AsksForCommand words b → a ≡ b
one_command words a b first second =
    let p = parts_are words a first in
    let q = parts_are words b second in
    sym (again a p.in_grammar) ∙ ap₂ read (p.first ∙ sym q.first) (p.second ∙ sym q.second) ∙ again b q.in_grammar
