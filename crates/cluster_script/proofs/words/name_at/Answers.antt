use Rattle.std.proofs.Common.{◌≤◌, length, sym, ap, ◌∙◌}
use Rattle.std.specs.Prelude.{option_map}
use Rattle.ff_script.proofs.Spelling.{some_text}
use Rattle.cluster_script.proofs.NameLemmas.{text_of_name, name_is}
use Rattle.cluster_script.proofs.words.name_at.Goals as goal

pub returns : goal.returns
returns c =
    let word = c.args.word.now in
    let some : 1 ≤ length word = some_text word c.if-is_empty.ensures in
    let few = c.if-word-gt255.false in
    let all = sym c.if-not-are_of_name.ensures in
    let text = text_of_name _ word c.from_utf8.result all c.from_utf8.ensures.cases in
    ap (option_map (λ n. n.now)) c.ok.ensures.value ∙ text ∙ sym (name_is word some few all)
