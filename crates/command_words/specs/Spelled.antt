-- What the steps of reading say: a first word with an operand, a number and a name.
use Rattle.std.specs.Prelude.{◌≡◌, ◌<◌, ◌^◌, ◌&&◌, ℕ, Bool, false, List, [], ◌∷◌, Option, Some, None, codes, decimal}
use Rattle.std.specs.Str.{bytes_eq}
use Rattle.command_words.specs.declared.command.Command.{Command}
use Rattle.command_words.specs.Commands.{CommandValue, command_value, command_word, operand_word, IsInGrammar, IsCommandName}

-- the command of the grammar with this first word and this operand
pub record HasParts (word : List ℕ) (operand : Option (List ℕ)) (command : CommandValue) : Type 0 where
  pub in_grammar : IsInGrammar command
  pub first : command_word command ≡ word
  pub second : operand_word command ≡ operand

-- that command was found, or there is none
abbrev pub FindsParts : List ℕ → Option (List ℕ) → Option Command → Type 0
FindsParts word operand (Some command) = HasParts word operand (command_value command)
FindsParts word operand None = (command : CommandValue) → ¬ (HasParts word operand command)

-- the number that the word is in decimal, below 2^64, or there is none
abbrev pub FindsNumber : List ℕ → Option ℕ → Type 0
FindsNumber word (Some number) = (word ≡ decimal number) × (number < 2 ^ 64)
FindsNumber word None = (number : ℕ) → number < 2 ^ 64 → ¬ (word ≡ decimal number)

-- the word is the name of a command's file, or it is none
abbrev pub FindsName : List ℕ → Option (List ℕ) → Type 0
FindsName word (Some name) = (name ≡ word) × IsCommandName word
FindsName word None = ¬ (IsCommandName word)

-- the words are this first word and this operand, with `--` between them or not
abbrev pub are_spelled : List (List ℕ) → List ℕ → Option (List ℕ) → Bool
are_spelled (first ∷ []) word None = bytes_eq first word
are_spelled (first ∷ last ∷ []) word (Some operand) = bytes_eq first word && bytes_eq last operand
are_spelled (first ∷ dashes ∷ last ∷ []) word (Some operand) = (bytes_eq first word && bytes_eq dashes (codes "--")) && bytes_eq last operand
are_spelled words word operand = false
