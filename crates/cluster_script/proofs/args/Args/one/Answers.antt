use Rattle.std.proofs.Common.{sym, ap, ◌∙◌}
use Rattle.cluster_script.specs.ScriptWords.{one_of}
use Rattle.cluster_script.proofs.ArgLemmas.{words_seen, not_one}
use Rattle.cluster_script.proofs.args.Args.one.Goals as goal

pub returns-in-Some : goal.returns-in-Some
returns-in-Some c =
    let seen = words_seen c.self.inside.text c.in_ok-text.text c.args.self.now c.self.view_is c.in_ok-text.was in
    sym (ap one_of seen ∙ not_one c.in_ok-text.text.now _ _ c.in-Some.ensures.cut)
