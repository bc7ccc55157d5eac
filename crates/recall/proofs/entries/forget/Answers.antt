use Rattle.std.proofs.Common.{rules, ap, ◌∙◌, map, length}
use Rattle.std.proofs.lemmas.Fn.{filter_same}
use Rattle.std.proofs.lemmas.List.{length-map}
use Rattle.recall.specs.Entries.{goes_on_in, released}
use Rattle.recall.proofs.Loops.{written}
use Rattle.recall.proofs.entries.forget.Goals as goal

pub returns : goal.returns
returns c =
    let kept = filter_same _ (goes_on_in c.args.ended) _ (λ x b f' k. search rules) _ _ c.retain.ensures.filtered in
    written _ _ c.release.new.entries (ap length c.release.ensures ∙ length-map c.as_mut_slice.result.now (released c.args.ended) ∙ c.as_mut_slice.ensures.len)
    ∙ c.release.ensures ∙ ap (map (released c.args.ended)) (c.as_mut_slice.ensures.value ∙ kept)
