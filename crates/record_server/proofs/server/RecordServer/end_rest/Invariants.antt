use Rattle.std.proofs.Common.{length, ◌-◌}
use Rattle.record_server.specs.Server.{GoesRound}
use Rattle.record_server.proofs.server.RecordServer.end_rest.Given as goal

abbrev pub invariant-loop-self : goal.invariant-loop-self
invariant-loop-self g l = GoesRound l.fn.self l.self

abbrev pub decreases-loop-self : goal.decreases-loop-self
decreases-loop-self g l = length l.self.peers - l.self.place
