use Rattle.std.proofs.Common.{◌≡◌}
use Rattle.record_server.specs.Server.{GoesRound}
use Rattle.record_server.proofs.server.RecordServer.accept_all.Given as goal

abbrev pub invariant-loop-place : goal.invariant-loop-place
invariant-loop-place g l = GoesRound l.fn.self l.self × (l.self.place ≡ 0)
