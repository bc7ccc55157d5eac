use Rattle.record_server.specs.Server.{GoesBy, IsOfRound}
use Rattle.record_server.proofs.server.RecordServer.next.Given as goal

abbrev pub invariant-loop-round : goal.invariant-loop-round
invariant-loop-round g l = GoesBy IsOfRound l._round l.fn.self l.self
