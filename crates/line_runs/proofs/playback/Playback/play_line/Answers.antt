use Rattle.std.proofs.Common.{◌≡◌, ◌+◌, ◌∙◌, Ok, Result, refl, sym, ap, subst, arith}
use Rattle.std.proofs.lemmas.Result.{err_from_is_err_and}
use Rattle.ff_xdr.specs.declared.error.NoMemory.{NoMemory}
use Rattle.line_runs.specs.declared.end.LineStep.{LineStep}
use Rattle.line_runs.specs.declared.end.LineStep.TheVariants as step
use Rattle.line_runs.specs.Tasks.{Rests}
use Rattle.line_runs.specs.Playback.{RunState, stand, at_line, LineSteps}
use Rattle.line_runs.specs.Leads.{task_closing}
use Rattle.line_runs.proofs.StepLemmas.{begins, steps_again, written_within, unwritten_within}
use Rattle.line_runs.proofs.LeadLemmas.{stepped, step_stands, step_stood, relieved, unrelieved, run_got}
use Rattle.line_runs.proofs.playback.Playback.play_line.Goals as goal

pub loop-step-init : goal.loop-step-init
loop-step-init g c =
    let held = g.K.Sink.held c.args.sink.now in
    let value = g.T.LineTask.value in
    let old = c.args.self.now in
    let new = c.begin-step.new.self in
    let task = c.begin-step.new.task in
    let s = at_line c.args.taken c.args.line.now (stand (value c.args.task.now) old) in record {
      told = λ fresh.
          subst (λ (n : RunState). LineSteps n.begun held s c.begin-step.result held (value task) (stand (value task) n)) (sym c.begin-step.ensures.rest)
          (begins (old.begun + 1) c.args.taken c.args.line.now held (stand (value c.args.task.now) old) new.text c.begin-step.result (value task) (c.begin-step.ensures.does fresh));
      stands = λ fresh start base so. stepped (g.T.LineTask.leads start) (task_closing value) base held c.args.task.now task old.text new.text c.begin-step.result (c.begin-step.ensures.led fresh start) (c.begin-step.ensures.kept fresh) so;
      rests = c.begin-step.ensures.rests;
      room = (let room = ap (λ (s : RunState). s.room) c.begin-step.ensures.rest in omega (arith, room, c.requires.within));
      writes = refl;
    }

pub returns-in_err-relieve-in-Ok-More-clause-told : goal.returns-in_err-relieve-in-Ok-More-clause-told
returns-in_err-relieve-in-Ok-More-clause-told g c =
    let held = g.K.Sink.held in
    let value = g.T.LineTask.value in
    let old = at_line c.args.taken c.args.line.now (stand (value c.args.task.now) c.args.self.now) in
    let task = value c.loop-step.task in
    let mid = c.loop-step.self in
    let on : c.loop-step.step ≡ Ok step.More = c.in-Ok-More.is ∙ ap (λ x. Ok x) (rw c.in-Ok-More.is at c.in-Ok-More.field-0-is) in
    let p = err_from_is_err_and c.from_residual.result c.from_residual.ensures.1 in
    λ fresh. unwritten_within (held c.args.sink.now) (held c.loop-step.sink) (held c.relieve.new.sink) old task task mid c.relieve.new.self (stand task c.relieve.new.self) c.relieve.result c.from_residual.result _ p.0 c.in_err-relieve-in-Ok-More.was p.1
    (subst (λ (r : Result LineStep NoMemory). LineSteps mid.begun (held c.args.sink.now) old r (held c.loop-step.sink) task (stand task mid)) on (c.loop-step.invariant.told fresh))
    c.relieve.ensures.told

pub loop-step-preserved : goal.loop-step-preserved
loop-step-preserved g c =
    let held = g.K.Sink.held in
    let value = g.T.LineTask.value in
    let old = at_line c.args.taken c.args.line.now (stand (value c.args.task.now) c.args.self.now) in
    let task = value c.loop-step.task in
    let mid = c.loop-step.self in
    let next = c.relieve.new.self in
    let new = c.go_on-step.new.self in
    let task' = c.go_on-step.new.task in
    let on : c.loop-step.step ≡ Ok step.More = c.in-Ok-More.is ∙ ap (λ x. Ok x) (rw c.in-Ok-More.is at c.in-Ok-More.field-0-is) in
    let midway : g.T.LineTask.fresh c.args.task.now → g.T.LineTask.midway c.loop-step.task = λ fresh. subst (λ (r : Result LineStep NoMemory). Rests r (g.T.LineTask.fresh c.loop-step.task) (g.T.LineTask.midway c.loop-step.task)) on (c.loop-step.invariant.rests fresh) in
    record {
      told = λ fresh.
          let went = written_within (held c.args.sink.now) (held c.loop-step.sink) (held c.relieve.new.sink) old task mid next c.relieve.result c.in_ok-relieve-in-Ok-More.field-0 c.in_ok-relieve-in-Ok-More.was
          (subst (λ (r : Result LineStep NoMemory). LineSteps mid.begun (held c.args.sink.now) old r (held c.loop-step.sink) task (stand task mid)) on (c.loop-step.invariant.told fresh))
          c.relieve.ensures.told in
          subst (λ (n : RunState). LineSteps n.begun (held c.args.sink.now) old c.go_on-step.result (held c.relieve.new.sink) (value task') (stand (value task') n)) (sym c.go_on-step.ensures.rest)
          (steps_again next.begun (next.begun + 1) (held c.args.sink.now) (held c.relieve.new.sink) old (stand task next) new.text c.go_on-step.result (value task') went (c.go_on-step.ensures.does (midway fresh) (next.begun + 1)));
      stands = λ fresh start base so.
          let leads = g.T.LineTask.leads start in
          let here = step_stands leads (task_closing value) base (held c.loop-step.sink) c.loop-step.task mid.text c.loop-step.step step.More on (c.loop-step.invariant.stands fresh start base so) in
          let written = relieved leads (task_closing value) base (held c.loop-step.sink) (held c.relieve.new.sink) c.loop-step.task mid next c.relieve.result c.in_ok-relieve-in-Ok-More.field-0 c.in_ok-relieve-in-Ok-More.was here c.relieve.ensures.told in
          stepped leads (task_closing value) base (held c.relieve.new.sink) c.loop-step.task task' next.text new.text c.go_on-step.result (c.go_on-step.ensures.led (midway fresh) start) (c.go_on-step.ensures.kept (midway fresh)) written;
      rests = λ fresh. c.go_on-step.ensures.rests (midway fresh);
      room = (let room = ap (λ (s : RunState). s.room) c.go_on-step.ensures.rest in omega (arith, room, c.relieve.ensures.rest.0, c.loop-step.invariant.room));
      writes = c.in_ok-relieve-in-Ok-More.ensures.faults ∙ c.loop-step.invariant.writes;
    }

pub returns-in_err-relieve-in-Ok-Done-clause-told : goal.returns-in_err-relieve-in-Ok-Done-clause-told
returns-in_err-relieve-in-Ok-Done-clause-told g c =
    let held = g.K.Sink.held in
    let value = g.T.LineTask.value in
    let old = at_line c.args.taken c.args.line.now (stand (value c.args.task.now) c.args.self.now) in
    let task = value c.loop-step.task in
    let mid = c.loop-step.self in
    let on : c.loop-step.step ≡ Ok step.Done = c.in-Ok-Done.is ∙ ap (λ x. Ok x) (rw c.in-Ok-Done.is at c.in-Ok-Done.field-0-is) in
    let new = c.relieve-in-Ok-Done.new.self in
    let residual = c.from_residual-in_err-relieve-in-Ok-Done in
    let p = err_from_is_err_and residual.result residual.ensures.1 in
    λ fresh. unwritten_within (held c.args.sink.now) (held c.loop-step.sink) (held c.relieve-in-Ok-Done.new.sink) old task task mid new (stand task new) c.relieve-in-Ok-Done.result residual.result _ p.0 c.in_err-relieve-in-Ok-Done.was p.1
    (subst (λ (r : Result LineStep NoMemory). LineSteps mid.begun (held c.args.sink.now) old r (held c.loop-step.sink) task (stand task mid)) on (c.loop-step.invariant.told fresh))
    c.relieve-in-Ok-Done.ensures.told

pub returns-in-Ok-Done-clause-told : goal.returns-in-Ok-Done-clause-told
returns-in-Ok-Done-clause-told g c =
    let held = g.K.Sink.held in
    let value = g.T.LineTask.value in
    let old = at_line c.args.taken c.args.line.now (stand (value c.args.task.now) c.args.self.now) in
    let task = value c.loop-step.task in
    let mid = c.loop-step.self in
    let on : c.loop-step.step ≡ Ok step.Done = c.in-Ok-Done.is ∙ ap (λ x. Ok x) (rw c.in-Ok-Done.is at c.in-Ok-Done.field-0-is) in
    λ fresh. written_within (held c.args.sink.now) (held c.loop-step.sink) (held c.relieve-in-Ok-Done.new.sink) old task mid c.relieve-in-Ok-Done.new.self c.relieve-in-Ok-Done.result c.in_ok-relieve-in-Ok-Done.field-0 c.in_ok-relieve-in-Ok-Done.was
    (subst (λ (r : Result LineStep NoMemory). LineSteps mid.begun (held c.args.sink.now) old r (held c.loop-step.sink) task (stand task mid)) on (c.loop-step.invariant.told fresh))
    c.relieve-in-Ok-Done.ensures.told

pub returns-in_err-relieve-in-Ok-More-clause-stands : goal.returns-in_err-relieve-in-Ok-More-clause-stands
returns-in_err-relieve-in-Ok-More-clause-stands g c fresh start base so =
    let held = g.K.Sink.held in
    let leads = g.T.LineTask.leads start in
    let closing = task_closing g.T.LineTask.value in
    let mid = c.loop-step.self in
    let new = c.relieve.new.self in
    let on : c.loop-step.step ≡ Ok step.More = c.in-Ok-More.is ∙ ap (λ x. Ok x) (rw c.in-Ok-More.is at c.in-Ok-More.field-0-is) in
    let p = err_from_is_err_and c.from_residual.result c.from_residual.ensures.1 in
    let here = step_stands leads closing base (held c.loop-step.sink) c.loop-step.task mid.text c.loop-step.step step.More on (c.loop-step.invariant.stands fresh start base so) in
    run_got leads closing base (held c.relieve.new.sink) c.loop-step.task new.text c.from_residual.result p.0 p.1
    (unrelieved leads closing base (held c.loop-step.sink) (held c.relieve.new.sink) c.loop-step.task mid new c.relieve.result _ c.in_err-relieve-in-Ok-More.was here c.relieve.ensures.told)

pub returns-in_err-relieve-in-Ok-Done-clause-stands : goal.returns-in_err-relieve-in-Ok-Done-clause-stands
returns-in_err-relieve-in-Ok-Done-clause-stands g c fresh start base so =
    let held = g.K.Sink.held in
    let leads = g.T.LineTask.leads start in
    let closing = task_closing g.T.LineTask.value in
    let mid = c.loop-step.self in
    let new = c.relieve-in-Ok-Done.new in
    let residual = c.from_residual-in_err-relieve-in-Ok-Done in
    let on : c.loop-step.step ≡ Ok step.Done = c.in-Ok-Done.is ∙ ap (λ x. Ok x) (rw c.in-Ok-Done.is at c.in-Ok-Done.field-0-is) in
    let p = err_from_is_err_and residual.result residual.ensures.1 in
    let here = step_stands leads closing base (held c.loop-step.sink) c.loop-step.task mid.text c.loop-step.step step.Done on (c.loop-step.invariant.stands fresh start base so) in
    run_got leads closing base (held new.sink) c.loop-step.task new.self.text residual.result p.0 p.1
    (unrelieved leads closing base (held c.loop-step.sink) (held new.sink) c.loop-step.task mid new.self c.relieve-in-Ok-Done.result _ c.in_err-relieve-in-Ok-Done.was here c.relieve-in-Ok-Done.ensures.told)

pub returns-in-Err-clause-stands : goal.returns-in-Err-clause-stands
returns-in-Err-clause-stands g c fresh start base so =
    step_stood (g.T.LineTask.leads start) (task_closing g.T.LineTask.value) base (g.K.Sink.held c.loop-step.sink) c.loop-step.task c.loop-step.self.text c.loop-step.step c.in-Err.field-0 c.in-Err.is (c.loop-step.invariant.stands fresh start base so)
