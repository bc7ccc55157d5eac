-- What the words behind the program's name ask for: which words spell which command.
use Rattle.std.specs.Prelude.{◌≡◌, ◌<◌, ◌^◌, ⊤, ℕ, List, [], ◌∷◌, Option, Some, None, Result, Ok, Err, Contains, codes, decimal, slice_get}
use Rattle.ff_xdr.specs.declared.error.NoMemory.{NoMemory}
use Rattle.journal_print.specs.declared.mode.Mode.{Mode}
use Rattle.journal_print.specs.declared.mode.Mode.TheVariants.{Full, Brief, Count}
use Rattle.cluster_script.specs.ScriptWords.{name_at}
use Rattle.command_words.specs.declared.command.Command.{Command}
use Rattle.command_words.specs.declared.command.Command.TheVariants as code

-- a command, its name as bytes
pub data CommandValue : Type 0 where
  Replay : (mode : Mode) → CommandValue
  Gen : (number : ℕ) → CommandValue
  Show : CommandValue
  Ds : CommandValue
  Mds : CommandValue
  Put : (name : List ℕ) → CommandValue
  Get : (name : List ℕ) → CommandValue

-- the command that the code's stands for
abbrev pub command_value : Command → CommandValue
command_value (code.Replay mode) = Replay mode
command_value (code.Gen number) = Gen number
command_value code.Show = Show
command_value code.Ds = Ds
command_value code.Mds = Mds
command_value (code.Put name) = Put name.now
command_value (code.Get name) = Get name.now

-- the first word of a command
abbrev pub command_word : CommandValue → List ℕ
command_word (Replay mode) = codes "replay"
command_word (Gen number) = codes "gen"
command_word Show = codes "show"
command_word Ds = codes "ds"
command_word Mds = codes "mds"
command_word (Put name) = codes "put"
command_word (Get name) = codes "get"

-- the word for a mode, where there is one
abbrev pub mode_word : Mode → Option (List ℕ)
mode_word Full = None
mode_word Brief = Some (codes "brief")
mode_word Count = Some (codes "count")

-- the word that a command has behind its first one, where it has one
abbrev pub operand_word : CommandValue → Option (List ℕ)
operand_word (Replay mode) = mode_word mode
operand_word (Gen number) = Some (decimal number)
operand_word Show = None
operand_word Ds = None
operand_word Mds = None
operand_word (Put name) = Some name
operand_word (Get name) = Some name

-- The words that spell a first word and an operand. `--` may stand before the operand, and means nothing.
abbrev pub spellings : List ℕ → Option (List ℕ) → List (List (List ℕ))
spellings word None = (word ∷ []) ∷ []
spellings word (Some operand) = (word ∷ operand ∷ []) ∷ (word ∷ codes "--" ∷ operand ∷ []) ∷ []

-- a word that begins with `-` (45) is `-` alone
abbrev pub IsPlainWord : List ℕ → Type 0
IsPlainWord word = slice_get word 0 ≡ Some 45 → word ≡ codes "-"

-- a name as of scripts that is a plain word
abbrev pub IsCommandName : List ℕ → Type 0
IsCommandName name = (name_at name ≡ Some name) × IsPlainWord name

-- the command's number or name is one that the grammar has
abbrev pub IsInGrammar : CommandValue → Type 0
IsInGrammar (Gen number) = number < 2 ^ 64
IsInGrammar (Put name) = IsCommandName name
IsInGrammar (Get name) = IsCommandName name
IsInGrammar command = ⊤

-- the words spell a command of the grammar
pub record AsksForCommand (words : List (List ℕ)) (command : CommandValue) : Type 0 where
  pub in_grammar : IsInGrammar command
  pub spelled : Contains (spellings (command_word command) (operand_word command)) words

-- The command that the words ask for was found; or there is none. Where memory was wanted it says nothing.
abbrev pub FindsCommand : List (List ℕ) → Result (Option Command) NoMemory → Type 0
FindsCommand words (Ok (Some command)) = AsksForCommand words (command_value command)
FindsCommand words (Ok None) = (command : CommandValue) → AsksForCommand words command → ⊥
FindsCommand words (Err e) = ⊤
