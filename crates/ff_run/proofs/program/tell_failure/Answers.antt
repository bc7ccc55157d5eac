use Rattle.std.proofs.Common.{sym, subst}
use Rattle.cluster_model.specs.declared.answer.FailCause.{FailCause}
use Rattle.line_runs.specs.Writing.{WritesText}
use Rattle.ff_run.specs.Run.{failure_note}
use Rattle.ff_run.proofs.program.tell_failure.Goals as goal

pub returns-in-Refused-clause-told : goal.returns-in-Refused-clause-told
returns-in-Refused-clause-told g c =
    subst (λ (cause : FailCause). WritesText (g.E.Sink.held c.args.notes.now) (failure_note cause) c.tell_number.result (g.E.Sink.held c.tell_number.new.notes)) (sym c.in-Refused.is) (rw c.from.ensures at c.tell_number.ensures.told)
