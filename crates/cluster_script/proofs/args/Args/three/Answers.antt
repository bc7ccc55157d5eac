use Rattle.std.proofs.Common.{sym, ap, ◌∙◌, ℕ, List}
use Rattle.std.specs.Prelude.{option_map}
use Rattle.cluster_script.specs.ScriptWords.{three_of, words_of}
use Rattle.cluster_script.proofs.ArgLemmas.{words_seen, three_by_two}
use Rattle.cluster_script.proofs.args.Args.three.Goals as goal

pub returns : goal.returns
returns c =
    let first = c.in_ok-first.first.now in
    let seen = words_seen c.self.inside.text c.in_ok-self.field-0 c.args.self.now c.self.view_is c.in_ok-self.was in
    let by_two = three_by_two first (words_of c.in_ok-first.behind.now) in
    ap (option_map (λ (p : List ℕ × List ℕ). (first, p.0, p.1))) c.in_ok-second.ensures ∙ sym (ap three_of (seen ∙ c.in_ok-first.ensures.cut) ∙ by_two)
