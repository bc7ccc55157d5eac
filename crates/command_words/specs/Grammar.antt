-- What clap is told of the commands, and what it is to find.
use Rattle.std.specs.Prelude.{◌≡◌, Bool, true, false, ⊤, List, ℕ, [], ◌∷◌, Option, Some, Result, Ok, Err, codes, option_map, fold}
use Rattle.std.specs.Borrow.{Bor}
use Rattle.clap.specs.Words.{App, Row, first_of, new_app, new_rule, with_rule, with_subcommand}
use Rattle.ff_xdr.specs.declared.error.NoMemory.{NoMemory}
use Rattle.command_words.specs.Commands.{CommandValue, command_word, operand_word, AsksForCommand}

-- a command with one word behind its first one, which it wants or not
abbrev pub operand_app : List ℕ → Bool → App
operand_app word wanted = with_rule (new_app word) (record (new_rule (codes "operand")) { required = wanted })

-- one more command
abbrev pub with_command : App → App → App
with_command all one = with_subcommand all one.top

-- the program with none
abbrev pub no_commands : App
no_commands = record { top = record (new_app (codes "ff_cluster")).top { no_binary_name = true; disable_help_flag = true; disable_help_subcommand = true }; subs = [] }

-- the seven commands
abbrev pub command_apps : List App
command_apps = operand_app (codes "replay") false ∷ operand_app (codes "gen") true ∷ new_app (codes "show") ∷ new_app (codes "ds")
    ∷ new_app (codes "mds") ∷ operand_app (codes "put") true ∷ operand_app (codes "get") true ∷ []

-- the program with them
abbrev pub program_app : App
program_app = fold with_command no_commands command_apps

-- a first word with an operand, as texts
abbrev pub parts_now : Bor (List ℕ) × Option (Bor (List ℕ)) → List ℕ × Option (List ℕ)
parts_now p = (p.0.now, option_map (λ o. o.now) p.1)

-- the first word and the operand that clap found
abbrev pub parts_in : Option (List ℕ × List Row) → Option (List ℕ × Option (List ℕ))
parts_in = option_map (λ p. (p.0, first_of (codes "operand") p.1))

-- The first word and the operand of the command that the words ask for were found. Where they ask for none it says nothing.
abbrev pub MeetsParts : List (List ℕ) → Result (Option (Bor (List ℕ) × Option (Bor (List ℕ)))) NoMemory → Type 0
MeetsParts words (Ok found) = (command : CommandValue) → AsksForCommand words command → option_map parts_now found ≡ Some (command_word command, operand_word command)
MeetsParts words (Err e) = ⊤
