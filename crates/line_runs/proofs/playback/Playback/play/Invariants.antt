use Rattle.std.proofs.Common.{◌≡◌, ℕ, List}
use Rattle.line_runs.specs.Playback.{stand, to_do}
use Rattle.line_runs.specs.Leads.{HasLed}
use Rattle.line_runs.proofs.RunLemmas.{Went}
use Rattle.line_runs.proofs.playback.Playback.play.Given as goal

abbrev pub invariant-loop-line : goal.invariant-loop-line
invariant-loop-line g l = record {
  fresh : g.T.LineTask.fresh l.fn.task → g.T.LineTask.fresh l.task;
  told : g.T.LineTask.fresh l.fn.task → Went (g.S.Source.left l.fn.source) (g.K.Sink.held l.fn.sink) (stand (g.T.LineTask.value l.fn.task) l.fn.self) (g.S.Source.left l.source) (g.K.Sink.held l.sink) (stand (g.T.LineTask.value l.task) l.self);
  stands : g.T.LineTask.fresh l.fn.task → (start : _) (base : List ℕ) → HasLed (g.T.LineTask.leads start) base (g.K.Sink.held l.fn.sink) l.fn.task l.fn.self.text
      → HasLed (g.T.LineTask.leads start) base (g.K.Sink.held l.sink) l.task l.self.text;
  reads : g.S.Source.faults l.source ≡ g.S.Source.faults l.fn.source;
  writes : g.K.Sink.faults l.sink ≡ g.K.Sink.faults l.fn.sink;
}

abbrev pub decreases-loop-line : goal.decreases-loop-line
decreases-loop-line g l = to_do l.self
