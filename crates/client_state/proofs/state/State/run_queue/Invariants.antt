use Rattle.std.proofs.Common.{length}
use Rattle.client_state.specs.ClientQueue.{run_queue}
use Rattle.client_state.proofs.QueueLemmas.{GoesOn}
use Rattle.client_state.proofs.state.State.run_queue.Given as goal

abbrev pub invariant-loop-request : goal.invariant-loop-request
invariant-loop-request l = GoesOn (run_queue l.fn.self) l.fn.out l.self l.out

abbrev pub decreases-loop-request : goal.decreases-loop-request
decreases-loop-request l = length l.self.queue
