use Rattle.std.proofs.Common.{◌≡◌, ◌∙◌, Option, None, Result, Ok, ap, subst}
use Rattle.std.proofs.lemmas.Result.{err_from_is_err_and}
use Rattle.rpc_record.specs.Stream.{counted}
use Rattle.rpc_record.specs.declared.stream.Failed.{Failed}
use Rattle.line_runs.specs.declared.end.RunEnd.{RunEnd}
use Rattle.line_runs.specs.Playback.{stand, StepFaults}
use Rattle.line_runs.specs.Leads.{RunHasLed, task_closing}
use Rattle.line_runs.proofs.LeadLemmas.{all_got, run_lost}
use Rattle.line_runs.proofs.EndLemmas.{goes, finishes, finishes_err, written_after}
use Rattle.line_runs.proofs.playback.Playback.play.Goals as goal

pub returns-in_err-end-clause-told : goal.returns-in_err-end-clause-told
returns-in_err-end-clause-told g c =
    let left = g.S.Source.left in
    let held = g.K.Sink.held in
    let value = g.T.LineTask.value in
    let p = err_from_is_err_and c.from_residual.result c.from_residual.ensures.1 in
    λ fresh. finishes_err (left c.args.source.now) (held c.args.sink.now) (stand (value c.args.task.now) c.args.self.now) (left c.loop-line.source) (held c.loop-line.sink) (stand (value c.loop-line.task) c.loop-line.self) _ _
    (value c.next.new.task) (stand (value c.next.new.task) c.next.new.self) c.next.result _ c.from_residual.result p.0 _ c.in_err-end.was p.1 (c.loop-line.invariant.told fresh) (c.next.ensures.told (c.loop-line.invariant.fresh fresh))

pub returns-in-Some-clause-told : goal.returns-in-Some-clause-told
returns-in-Some-clause-told g c =
    let left = g.S.Source.left in
    let held = g.K.Sink.held in
    let value = g.T.LineTask.value in
    λ fresh. finishes (left c.args.source.now) (held c.args.sink.now) (stand (value c.args.task.now) c.args.self.now) (left c.loop-line.source) (held c.loop-line.sink) (stand (value c.loop-line.task) c.loop-line.self) _ _
    (value c.next.new.task) (stand (value c.next.new.task) c.next.new.self) c.next.result c.in-Some.end (c.in_ok-end.was ∙ ap (λ x. Ok x) c.in-Some.is) (c.loop-line.invariant.told fresh) (c.next.ensures.told (c.loop-line.invariant.fresh fresh))

pub loop-line-preserved : goal.loop-line-preserved
loop-line-preserved g c =
    let left = g.S.Source.left in
    let held = g.K.Sink.held in
    let value = g.T.LineTask.value in
    let on : c.next.result ≡ Ok None = c.in_ok-end.was ∙ ap (λ x. Ok x) c.in_default.is in record {
      fresh = λ fresh. c.next.ensures.goes_on (c.loop-line.invariant.fresh fresh) on;
      told = λ fresh. goes (left c.args.source.now) (held c.args.sink.now) (stand (value c.args.task.now) c.args.self.now) (left c.loop-line.source) (held c.loop-line.sink) (stand (value c.loop-line.task) c.loop-line.self) _ _
          (value c.next.new.task) (stand (value c.next.new.task) c.next.new.self) c.next.result on (c.loop-line.invariant.told fresh) (c.next.ensures.told (c.loop-line.invariant.fresh fresh));
      stands = λ fresh start base so.
          subst (λ (r : Result (Option RunEnd) Failed). RunHasLed (g.T.LineTask.leads start) (task_closing value) base r (held c.next.new.sink) c.next.new.task c.next.new.self.text) on
          (c.next.ensures.stands (c.loop-line.invariant.fresh fresh) start base (c.loop-line.invariant.stands fresh start base so));
      reads = subst (λ (r : Result (Option RunEnd) Failed). StepFaults r (g.S.Source.faults c.loop-line.source) (g.S.Source.faults c.next.new.source)) on c.next.ensures.reads ∙ c.loop-line.invariant.reads;
      writes = subst (λ (r : Result (Option RunEnd) Failed). g.K.Sink.faults c.next.new.sink ≡ counted r (g.K.Sink.faults c.loop-line.sink)) on c.next.ensures.writes ∙ c.loop-line.invariant.writes;
    }

pub returns-in-Some-clause-written : goal.returns-in-Some-clause-written
returns-in-Some-clause-written g c = written_after c.in-Some.end c.next.result c.next.new.self.text (c.in_ok-end.was ∙ ap (λ x. Ok x) c.in-Some.is) c.next.ensures.written

pub returns-in_err-end-clause-stands : goal.returns-in_err-end-clause-stands
returns-in_err-end-clause-stands g c fresh start base so =
    let held = g.K.Sink.held in
    let leads = g.T.LineTask.leads start in
    let closing = task_closing g.T.LineTask.value in
    let new = c.next.new in
    let p = err_from_is_err_and c.from_residual.result c.from_residual.ensures.1 in
    all_got leads closing base (held new.sink) new.task new.self.text c.from_residual.result p.0 p.1
    (run_lost leads closing base (held new.sink) new.task new.self.text c.next.result _ c.in_err-end.was (c.next.ensures.stands (c.loop-line.invariant.fresh fresh) start base (c.loop-line.invariant.stands fresh start base so)))

pub returns-in-Some-clause-stands : goal.returns-in-Some-clause-stands
returns-in-Some-clause-stands g c fresh start base so =
    subst (λ (r : Result (Option RunEnd) Failed). RunHasLed (g.T.LineTask.leads start) (task_closing g.T.LineTask.value) base r (g.K.Sink.held c.next.new.sink) c.next.new.task c.next.new.self.text) (c.in_ok-end.was ∙ ap (λ x. Ok x) c.in-Some.is)
    (c.next.ensures.stands (c.loop-line.invariant.fresh fresh) start base (c.loop-line.invariant.stands fresh start base so))
