use Rattle.std.proofs.Common.{◌∷◌, codes, subst, sym}
use Rattle.ff_xdr.specs.Calls.{Grows}
use Rattle.cluster_model.specs.declared.answer.FailCause.{FailCause}
use Rattle.cluster_model.specs.Wordings.{fail_words}
use Rattle.cluster_model.specs.Print.{words}
use Rattle.journal_print.proofs.Joins.{grows_behind}
use Rattle.journal_print.proofs.lines.put_failure.Goals as goal

pub returns-in-AllMirrors : goal.returns-in-AllMirrors
returns-in-AllMirrors c =
    subst (λ (why : FailCause). Grows c.args.out.now c.put_last-in-AllMirrors.result c.put_last-in-AllMirrors.new.out (words (codes "failed" ∷ fail_words why))) (sym c.in-AllMirrors.is)
    (grows_behind c.args.out.now _ c.put_last-in-AllMirrors.new.out (codes "failed") _ c.put_last-in-AllMirrors.result c.in_ok-raw.ensures c.put_last-in-AllMirrors.ensures)
