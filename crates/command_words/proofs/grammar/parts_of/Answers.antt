use Rattle.command_words.proofs.ClapLemmas.{parts_so}
use Rattle.command_words.proofs.grammar.parts_of.Goals as goal

pub returns : goal.returns
returns c =
    parts_so c.args.matches.now c.in_ok-word.word c.in_ok-word.rest c.get_str.result c.in_ok-word.ensures.name c.in_ok-word.ensures.rows c.get_str.ensures
