use Rattle.std.proofs.Common.{refl, Err}
use Rattle.line_runs.proofs.EndLemmas.{ran, became, unwritten, unstarted}
use Rattle.line_runs.proofs.playback.run_lines.Goals as goal

pub returns-in-Ok-finish-clause-told : goal.returns-in-Ok-finish-clause-told
returns-in-Ok-finish-clause-told g c =
    ran (g.T.LineTask.value c.args.task.now) g.T.LineTask.BUDGET (g.S.Source.left c.args.source.now) (g.K.Sink.held c.args.sink.now) _ _ _ c.in-Ok-finish.end ((rw c.BUDGET.ensures at (rw c.in-Ok.ensures at c.in-Ok-finish.ensures.told)) c.requires)

pub returns-in-Ok-finish-clause-became : goal.returns-in-Ok-finish-clause-became
returns-in-Ok-finish-clause-became g c =
    became (g.T.LineTask.value c.args.task.now) g.T.LineTask.BUDGET (g.S.Source.left c.args.source.now) (g.K.Sink.held c.args.sink.now) _ _ _ c.in-Ok-finish.end ((rw c.BUDGET.ensures at (rw c.in-Ok.ensures at c.in-Ok-finish.ensures.told)) c.requires)

pub returns-in-Err-Fault-clause-told : goal.returns-in-Err-Fault-clause-told
returns-in-Err-Fault-clause-told g c =
    (unwritten (g.T.LineTask.value c.args.task.now) g.T.LineTask.BUDGET (g.S.Source.left c.args.source.now) (g.K.Sink.held c.args.sink.now) _ _ _ (Err c.in-Err-Fault.field-0) c.in-Err-Fault.field-0 refl ((rw c.BUDGET.ensures at (rw c.in-Ok.ensures at c.in-Err-Fault.ensures.told)) c.requires)).0

pub returns-clause-told : goal.returns-clause-told
returns-clause-told g c =
    (unwritten (g.T.LineTask.value c.args.task.now) g.T.LineTask.BUDGET (g.S.Source.left c.args.source.now) (g.K.Sink.held c.args.sink.now) _ _ _ (Err c.in-Err-NoMemory.field-0) c.in-Err-NoMemory.field-0 refl ((rw c.BUDGET.ensures at (rw c.in-Ok.ensures at c.in-Err-NoMemory.ensures.told)) c.requires)).1

pub returns-in_default-clause-told : goal.returns-in_default-clause-told
returns-in_default-clause-told g c =
    unstarted (g.T.LineTask.value c.args.task.now) g.T.LineTask.BUDGET (g.S.Source.left c.args.source.now) (g.K.Sink.held c.args.sink.now)
