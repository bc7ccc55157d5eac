use Rattle.std.proofs.Common.{ap, ◌∙◌, map}
use Rattle.std.specs.String.{string_bytes}
use Rattle.clap.specs.Words.{is_simple, subcommand_of, takes}
use Rattle.command_words.specs.Grammar.{parts_in}
use Rattle.command_words.proofs.ClapLemmas.{simple, met}
use Rattle.command_words.proofs.grammar.parts_met.Goals as goal

pub returns-in-Ok : goal.returns-in-Ok
returns-in-Ok c = λ command asks.
    let words = map string_bytes c.args.words.now in
    let program = c.in_ok-program.ensures in
    let found = (c.in-Ok.ensures.matches (ap is_simple program ∙ simple)).1 in
    c.parts_of.ensures ∙ ap parts_in (found ∙ ap (λ a. subcommand_of a words) program) ∙ (met words command asks).parts

pub returns : goal.returns
returns c = λ command asks.
    let words = map string_bytes c.args.words.now in
    let wanted = c.in-Err.ensures.passes (ap (λ a. takes a words) c.in_ok-program.ensures ∙ (met words command asks).taken) in
    absurd (c.in_default.not-OutOfMemory (c.kind.ensures ∙ wanted))
