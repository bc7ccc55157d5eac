use Rattle.std.proofs.lemmas.Result.{IfOk-weaker}
use Rattle.command_words.proofs.ClapLemmas.{no_commands_are, one_more}
use Rattle.command_words.proofs.grammar.program.Goals as goal

pub returns : goal.returns
returns c =
    let none = no_commands_are _ _ _ _ c.no_binary_name.ensures c.disable_help_flag.ensures c.disable_help_subcommand.ensures c.new.ensures.app in
    let replay = one_more c.in_ok-subcommand.ensures c.in_ok-with_operand.ensures.local none c.in_ok-with_operand.ensures.app in
    let gen = one_more c.in_ok-subcommand-2.ensures c.in_ok-with_operand-2.ensures.local replay c.in_ok-with_operand-2.ensures.app in
    let show = one_more c.in_ok-subcommand-3.ensures c.new-2.ensures.local gen c.new-2.ensures.app in
    let ds = one_more c.in_ok-subcommand-4.ensures c.new-3.ensures.local show c.new-3.ensures.app in
    let mds = one_more c.in_ok-subcommand-5.ensures c.new-4.ensures.local ds c.new-4.ensures.app in
    let put = one_more c.in_ok-subcommand-6.ensures c.in_ok-with_operand-3.ensures.local mds c.in_ok-with_operand-3.ensures.app in
    IfOk-weaker c.subcommand-7.result _ _ (λ new adds. one_more adds c.in_ok-with_operand-4.ensures.local put c.in_ok-with_operand-4.ensures.app) c.subcommand-7.ensures
