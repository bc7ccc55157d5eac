use Rattle.std.proofs.Common.{◌∙◌}
use Rattle.std.proofs.lemmas.Result.{err_from_is_err_and}
use Rattle.journal_print.specs.declared.mode.Mode.TheVariants.{Brief}
use Rattle.ff_replay.proofs.PlayLemmas.{prints_in_part}
use Rattle.ff_replay.proofs.writing.print_brief.Goals as goal

pub returns-in_err-put_brief : goal.returns-in_err-put_brief
returns-in_err-put_brief c =
    let p = err_from_is_err_and c.from_residual.result c.from_residual.ensures.1 in
    prints_in_part Brief c.args.out.now c.put_brief.new.out c.loop-entry.entry-index c.args.entries.now c.from_residual.result p.0 p.1 (c.in_err-put_brief.ensures ∙ c.loop-entry.invariant)
