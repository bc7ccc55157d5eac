use Rattle.std.proofs.Common.{◌≡◌, ◌≤◌, length}
use Rattle.line_runs.specs.Writing.{HasWritten}
use Rattle.line_runs.proofs.writing.write_all.Given as goal

abbrev pub invariant-loop-rest : goal.invariant-loop-rest
invariant-loop-rest g l =
    (length l.rest ≤ length l.bytes) × (g.K.Sink.faults l.sink ≡ g.K.Sink.faults l.fn.sink) × HasWritten (g.K.Sink.held l.fn.sink) l.bytes l.rest (g.K.Sink.held l.sink)

abbrev pub decreases-loop-rest : goal.decreases-loop-rest
decreases-loop-rest g l = length l.rest
