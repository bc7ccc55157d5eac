use Rattle.std.proofs.Common.{Result, IfOk, subst}
use Rattle.std.proofs.lemmas.Result.{err_from_is_err_and}
use Rattle.rpc_record.specs.declared.stream.Failed.{Failed}
use Rattle.line_runs.specs.declared.end.RunEnd.{RunEnd}
use Rattle.line_runs.specs.Playback.{stand, HasWrittenAll}
use Rattle.line_runs.specs.Leads.{EndHasLed, task_closing}
use Rattle.line_runs.proofs.LeadLemmas.{all_lost, writes, close_stands}
use Rattle.line_runs.proofs.EndLemmas.{closed, closed_faults, finished, closed_written, finished_err, unfinished, faults_err}
use Rattle.line_runs.proofs.playback.Playback.finish.Goals as goal

pub returns-in_err-ended-clause-told : goal.returns-in_err-ended-clause-told
returns-in_err-ended-clause-told g c =
    let p = err_from_is_err_and c.from_residual.result c.from_residual.ensures.1 in
    λ fresh. unfinished (g.S.Source.left c.args.source.now) (g.K.Sink.held c.args.sink.now) _ _ (stand (g.T.LineTask.value c.args.task.now) c.args.self.now) (g.T.LineTask.value c.play.new.task) _ c.play.result c.from_residual.result _ p.0 c.play.new.self.text _ c.in_err-ended.was p.1 (c.play.ensures.told fresh)

pub returns-in_err-flush-clause-told : goal.returns-in_err-flush-clause-told
returns-in_err-flush-clause-told g c =
    let left = g.S.Source.left in
    let held = g.K.Sink.held in
    let s = stand (g.T.LineTask.value c.args.task.now) c.args.self.now in
    let task = g.T.LineTask.value c.play.new.task in
    let state = (g.T.LineTask.value c.close-end.new.task).state in
    let p = err_from_is_err_and c.from_residual-in_err-flush.result c.from_residual-in_err-flush.ensures.1 in
    λ fresh. finished_err (left c.args.source.now) (held c.args.sink.now) _ _ _ s c.close-end.result state c.flush.result c.from_residual-in_err-flush.result p.0 c.close-end.new.self.text p.1
    (closed (left c.args.source.now) (held c.args.sink.now) _ _ s c.play.result c.in_ok-ended.ended c.close-end.result task state c.play.new.self.text c.close-end.new.self.text c.in_ok-ended.was (c.play.ensures.told fresh) c.close-end.ensures.closes c.close-end.ensures.stays)
    c.flush.ensures.told

pub returns-in_err-flush-clause-reads : goal.returns-in_err-flush-clause-reads
returns-in_err-flush-clause-reads g c =
    let p = err_from_is_err_and c.from_residual-in_err-flush.result c.from_residual-in_err-flush.ensures.1 in
    let written = closed_written c.in_ok-ended.ended c.close-end.result (g.T.LineTask.value c.play.new.task).closing c.play.new.self.text c.close-end.new.self.text (subst (λ (r : Result RunEnd Failed). IfOk r (λ end. HasWrittenAll end c.play.new.self.text)) c.in_ok-ended.was c.play.ensures.written) c.close-end.ensures.closes in
    faults_err c.close-end.result c.from_residual-in_err-flush.result p.0 c.close-end.new.self.text _ _ p.1 written c.in_err-flush.ensures.some
    (closed_faults c.play.result c.in_ok-ended.ended c.close-end.result (g.T.LineTask.value c.play.new.task).closing c.play.new.self.text c.close-end.new.self.text _ _ c.in_ok-ended.was c.close-end.ensures.closes c.play.ensures.reads)

pub returns-clause-told : goal.returns-clause-told
returns-clause-told g c =
    let left = g.S.Source.left in
    let held = g.K.Sink.held in
    let s = stand (g.T.LineTask.value c.args.task.now) c.args.self.now in
    let task = g.T.LineTask.value c.play.new.task in
    let state = (g.T.LineTask.value c.close-end.new.task).state in
    λ fresh. finished (left c.args.source.now) (held c.args.sink.now) _ _ _ s c.close-end.result state c.flush.result c.in_ok-flush.field-0 c.close-end.new.self.text c.in_ok-flush.was
    (closed (left c.args.source.now) (held c.args.sink.now) _ _ s c.play.result c.in_ok-ended.ended c.close-end.result task state c.play.new.self.text c.close-end.new.self.text c.in_ok-ended.was (c.play.ensures.told fresh) c.close-end.ensures.closes c.close-end.ensures.stays)
    c.flush.ensures.told

pub returns-clause-reads : goal.returns-clause-reads
returns-clause-reads g c =
    closed_faults c.play.result c.in_ok-ended.ended c.close-end.result (g.T.LineTask.value c.play.new.task).closing c.play.new.self.text c.close-end.new.self.text _ _ c.in_ok-ended.was c.close-end.ensures.closes c.play.ensures.reads

pub returns-in_err-ended-clause-stands : goal.returns-in_err-ended-clause-stands
returns-in_err-ended-clause-stands g c fresh start base so =
    let new = c.play.new in
    all_lost (g.T.LineTask.leads start) (task_closing g.T.LineTask.value) base (g.K.Sink.held new.sink) new.task new.self.text c.play.result _ c.in_err-ended.was (c.play.ensures.stands fresh start base so)

pub returns-in_err-flush-clause-stands : goal.returns-in_err-flush-clause-stands
returns-in_err-flush-clause-stands g c fresh start base so =
    let held = g.K.Sink.held in
    let leads = g.T.LineTask.leads start in
    let closing = task_closing g.T.LineTask.value in
    let new = c.play.new in
    writes leads closing base (held new.sink) (held c.flush.new.sink) c.close-end.new.self.text c.flush.result
    (close_stands leads closing base (held new.sink) new.task new.self.text c.close-end.new.self.text c.in_ok-ended.ended c.close-end.result c.close-end.ensures.closes
    (subst (λ (r : Result RunEnd Failed). EndHasLed leads closing base r (held new.sink) new.task new.self.text) c.in_ok-ended.was (c.play.ensures.stands fresh start base so)))
    c.flush.ensures.told

pub returns-clause-stands : goal.returns-clause-stands
returns-clause-stands g c fresh start base so =
    let held = g.K.Sink.held in
    let leads = g.T.LineTask.leads start in
    let closing = task_closing g.T.LineTask.value in
    let new = c.play.new in
    writes leads closing base (held new.sink) (held c.flush.new.sink) c.close-end.new.self.text c.flush.result
    (close_stands leads closing base (held new.sink) new.task new.self.text c.close-end.new.self.text c.in_ok-ended.ended c.close-end.result c.close-end.ensures.closes
    (subst (λ (r : Result RunEnd Failed). EndHasLed leads closing base r (held new.sink) new.task new.self.text) c.in_ok-ended.was (c.play.ensures.stands fresh start base so)))
    c.flush.ensures.told
