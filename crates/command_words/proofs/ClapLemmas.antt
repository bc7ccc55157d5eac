-- What clap is told, what it takes, and what it finds there.
use Rattle.std.proofs.Common.{Bor, ◌≡◌, ℕ, ◌<◌, true, false, List, [], ◌∷◌, Option, Some, None, refl, sym, ap, ap₂, subst, ◌∙◌, arith, rules, inl, inr, codes, option_map}
use Rattle.std.specs.Prelude.{decimal, ◌==◌, Box}
use Rattle.std.specs.Box.{box_value}
use Rattle.std.specs.Char.{digit_value}
use Rattle.std.specs.Str.Parse.{IsNumeral}
use Rattle.std.proofs.lemmas.Fmt.{decimal_is_IsNumeral}
use Rattle.std.proofs.lemmas.Bool.{cases_eq}
use Rattle.std.specs.Str.{bytes_eq}
use Rattle.clap.specs.Lexer.{long_of, short_of}
use Rattle.clap.specs.Words.{App, AddsSubcommand, Row, new_app, app_of, first_of, first_value, found_of, rows_of, subcommand_name_of, subcommand_of, subcommand_rows_of, takes, is_simple}
use Rattle.clap.specs.declared.builder.command.Command.{Command}
use Rattle.clap.specs.declared.builder.command.Command.TheViews.{out-Command}
use Rattle.clap.specs.declared.parser.matches.ArgMatches.{ArgMatches}
use Rattle.clap.specs.declared.parser.matches.ArgMatches.TheViews.{out-ArgMatches, out-SubCommand}
use Rattle.clap.specs.declared.parser.matches.SubCommand.{SubCommand}
use Rattle.clap.specs.Simple.{app_of_fields, on_top, subcommand_rows}
use Rattle.clap.proofs.OnLiterals.{clap_on_literals}
use Rattle.clap.proofs.WalkLemmas.{first_value-rows}
use Rattle.journal_print.specs.declared.mode.Mode.TheVariants.{Full, Brief, Count}
use Rattle.command_words.specs.Commands.{CommandValue, Replay, Gen, Show, Ds, Mds, Put, Get, command_word, operand_word, IsPlainWord, IsInGrammar, AsksForCommand}
use Rattle.command_words.proofs.Spellings.{IsSpelling, Bare, Plain, Dashed, spelled_so}
use Rattle.command_words.specs.Grammar.{no_commands, with_command, program_app, parts_now, parts_in}

-- one more command in clap's program
pub one_more : {old sub new : Command} {a b : App} → AddsSubcommand old sub new → (out-Command sub).has_globals ≡ false → app_of old ≡ a → app_of sub ≡ b → app_of new ≡ with_command a b
one_more adds local was is = adds.shape local ∙ ap₂ with_command was is

-- the three settings of a program with no command
pub no_commands_are : (a b d e : Command) → out-Command b ≡ record (out-Command a) { no_binary_name = true } → out-Command d ≡ record (out-Command b) { disable_help_flag = true }
    → out-Command e ≡ record (out-Command d) { disable_help_subcommand = true } → app_of a ≡ new_app (codes "ff_cluster") → app_of e ≡ no_commands
no_commands_are a b d e one two three is =
    ap app_of_fields three
    ∙ ap (on_top (λ s. record s { disable_help_subcommand = true })) (ap app_of_fields two
    ∙ ap (on_top (λ s. record s { disable_help_flag = true })) (ap app_of_fields one
    ∙ ap (on_top (λ s. record s { no_binary_name = true })) is))

-- ---- what clap finds

name_of : {Z : Type 0} (s : Option (Box SubCommand Z)) → option_map (λ b. (out-SubCommand (box_value b)).name.now) s ≡ option_map (λ p. p.0) (subcommand_rows s)
name_of None = refl
name_of (Some b) = refl

parts_by : (x : Option (List ℕ × List Row)) (w : List ℕ) (rows : List Row) (o : Option (List ℕ)) → Some w ≡ option_map (λ p. p.0) x → Some rows ≡ option_map (λ p. p.1) x
    → o ≡ first_of (codes "operand") rows → Some (w, o) ≡ parts_in x
parts_by None w rows o name found is = absurd cc
parts_by (Some p) w rows o name found is =
    let w_is : w ≡ p.0 = cc in
    let rows_are : rows ≡ p.1 = cc in
    ap₂ (λ v k. Some (v, k)) w_is (is ∙ ap (first_of (codes "operand")) rows_are)

-- a command of clap's that was met, and its value for the operand
pub parts_so : (m : ArgMatches) (w : Bor (List ℕ)) (rest : Bor ArgMatches) (o : Option (Bor (List ℕ))) → Some w.now ≡ subcommand_name_of m
    → Some (rows_of (found_of rest.now)) ≡ option_map (λ p. p.1) (subcommand_rows_of m) → option_map (λ s. s.now) o ≡ first_value (found_of rest.now) (codes "operand")
    → Some (parts_now (w, o)) ≡ parts_in (subcommand_rows_of m)
parts_so m w rest o name found is =
    parts_by (subcommand_rows_of m) w.now (rows_of (found_of rest.now)) (option_map (λ s. s.now) o)
    (name ∙ name_of (out-ArgMatches m).subcommand) found (is ∙ first_value-rows (found_of rest.now) (codes "operand"))

-- ---- what clap takes

pub simple : is_simple program_app ≡ true
unfolding clap_on_literals
simple = refl

-- a word that clap reads as a value
pub record IsValue (word : List ℕ) : Type 0 where
  pub dashes : bytes_eq word (codes "--") ≡ false
  pub long : long_of word ≡ None
  pub short : short_of word ≡ None

-- clap takes the words, and finds these parts
pub record IsMet (words : List (List ℕ)) (word : List ℕ) (operand : Option (List ℕ)) : Type 0 where
  pub taken : takes program_app words ≡ true
  pub parts : parts_in (subcommand_of program_app words) ≡ Some (word, operand)

met_bare : (c : CommandValue) → operand_word c ≡ None → IsMet (command_word c ∷ []) (command_word c) None
unfolding clap_on_literals
met_bare (Replay mode) none = record { taken = refl; parts = refl }
met_bare Show none = record { taken = refl; parts = refl }
met_bare Ds none = record { taken = refl; parts = refl }
met_bare Mds none = record { taken = refl; parts = refl }
met_bare (Gen n) none = absurd cc
met_bare (Put n) none = absurd cc
met_bare (Get n) none = absurd cc

met_plain : (c : CommandValue) (o : List ℕ) → operand_word c ≡ Some o → IsValue o → IsMet (command_word c ∷ o ∷ []) (command_word c) (Some o)
unfolding clap_on_literals
met_plain (Replay mode) o some is = record { taken = rw (is.dashes, is.long, is.short) refl; parts = rw (is.dashes, is.long, is.short) refl }
met_plain (Gen n) o some is = record { taken = rw (is.dashes, is.long, is.short) refl; parts = rw (is.dashes, is.long, is.short) refl }
met_plain (Put n) o some is = record { taken = rw (is.dashes, is.long, is.short) refl; parts = rw (is.dashes, is.long, is.short) refl }
met_plain (Get n) o some is = record { taken = rw (is.dashes, is.long, is.short) refl; parts = rw (is.dashes, is.long, is.short) refl }
met_plain Show o some is = absurd cc
met_plain Ds o some is = absurd cc
met_plain Mds o some is = absurd cc

met_dashed : (c : CommandValue) (o : List ℕ) → operand_word c ≡ Some o → IsMet (command_word c ∷ codes "--" ∷ o ∷ []) (command_word c) (Some o)
unfolding clap_on_literals
met_dashed (Replay mode) o some = record { taken = refl; parts = refl }
met_dashed (Gen n) o some = record { taken = refl; parts = refl }
met_dashed (Put n) o some = record { taken = refl; parts = refl }
met_dashed (Get n) o some = record { taken = refl; parts = refl }
met_dashed Show o some = absurd cc
met_dashed Ds o some = absurd cc
met_dashed Mds o some = absurd cc

-- ---- a plain word is a value

begins_otherwise : (x : ℕ) (rest : List ℕ) → (x == 45) ≡ false → IsValue (x ∷ rest)
begins_otherwise x rest other = record { dashes = rw other refl; long = rw other refl; short = rw other refl }

plain_value : (word : List ℕ) → IsPlainWord word → IsValue word
plain_value [] plain = record { dashes = refl; long = refl; short = refl }
plain_value (x ∷ rest) plain = elim (cases_eq x 45) [
  | inl same ↦ subst IsValue (sym (plain (ap Some same))) (record { dashes = refl; long = refl; short = refl })
  | inr other ↦ begins_otherwise x rest (search rules)
]

digits_value : (digits : List ℕ) → IsNumeral 10 digits → IsValue digits
digits_value [] numeral = absurd (omega (arith, numeral.0))
digits_value (x ∷ rest) numeral = elim (cases_eq x 45) [
  | inl same ↦ let few : 36 < 10 = subst (λ v. digit_value v < 10) same numeral.1.0 in absurd (omega (arith, few))
  | inr other ↦ begins_otherwise x rest (search rules)
]

brief_value : IsValue (codes "brief")
brief_value = record { dashes = refl; long = refl; short = refl }

count_value : IsValue (codes "count")
count_value = record { dashes = refl; long = refl; short = refl }

value_of : (c : CommandValue) (o : List ℕ) → IsInGrammar c → operand_word c ≡ Some o → IsValue o
value_of (Replay Full) o good is = absurd cc
value_of (Replay Brief) o good is = let same : codes "brief" ≡ o = cc in subst IsValue same brief_value
value_of (Replay Count) o good is = let same : codes "count" ≡ o = cc in subst IsValue same count_value
value_of (Gen n) o good is = let same : decimal n ≡ o = cc in subst IsValue same (digits_value (decimal n) (decimal_is_IsNumeral n good).0)
value_of (Put name) o good is = let same : name ≡ o = cc in subst IsValue same (plain_value name good.1)
value_of (Get name) o good is = let same : name ≡ o = cc in subst IsValue same (plain_value name good.1)
value_of Show o good is = absurd cc
value_of Ds o good is = absurd cc
value_of Mds o good is = absurd cc

met_by : (words : List (List ℕ)) (c : CommandValue) → IsInGrammar c → IsSpelling (command_word c) (operand_word c) words → IsMet words (command_word c) (operand_word c)
met_by words c good (Bare none is) = rw (is, none) (met_bare c none)
met_by words c good (Plain o some is) = rw (is, some) (met_plain c o some (value_of c o good some))
met_by words c good (Dashed o some is) = rw (is, some) (met_dashed c o some)

-- clap takes the words that ask for a command, and finds its word and its operand
pub met : (words : List (List ℕ)) (c : CommandValue) → AsksForCommand words c → IsMet words (command_word c) (operand_word c)
met words c asks = met_by words c asks.in_grammar (spelled_so (command_word c) (operand_word c) words asks.spelled)
