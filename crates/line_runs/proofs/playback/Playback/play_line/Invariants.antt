use Rattle.std.proofs.Common.{◌≡◌, ◌+◌, ℕ, List}
use Rattle.line_runs.specs.Tasks.{Rests}
use Rattle.line_runs.specs.Playback.{stand, at_line, LineSteps, steps_after}
use Rattle.line_runs.specs.Leads.{HasLed, StepHasLed, task_closing}
use Rattle.line_runs.proofs.playback.Playback.play_line.Given as goal

abbrev pub invariant-loop-step : goal.invariant-loop-step
invariant-loop-step g l = record {
  told : g.T.LineTask.fresh l.fn.task → LineSteps l.self.begun (g.K.Sink.held l.fn.sink) (at_line l.taken l.line (stand (g.T.LineTask.value l.fn.task) l.fn.self)) l.step (g.K.Sink.held l.sink) (g.T.LineTask.value l.task) (stand (g.T.LineTask.value l.task) l.self);
  stands : g.T.LineTask.fresh l.fn.task → (start : _) (base : List ℕ) → HasLed (g.T.LineTask.leads start) base (g.K.Sink.held l.fn.sink) l.fn.task l.fn.self.text
      → StepHasLed (g.T.LineTask.leads start) (task_closing g.T.LineTask.value) base l.step (g.K.Sink.held l.sink) l.task l.self.text;
  rests : g.T.LineTask.fresh l.fn.task → Rests l.step (g.T.LineTask.fresh l.task) (g.T.LineTask.midway l.task);
  room : l.self.room + l.taken ≡ l.fn.self.room;
  writes : g.K.Sink.faults l.sink ≡ g.K.Sink.faults l.fn.sink;
}

abbrev pub decreases-loop-step : goal.decreases-loop-step
decreases-loop-step g l = steps_after l.step (g.T.LineTask.steps l.task)
