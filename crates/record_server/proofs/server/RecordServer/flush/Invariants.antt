use Rattle.record_server.proofs.EndLemmas.{HasTurned}
use Rattle.record_server.proofs.server.RecordServer.flush.Given as goal

abbrev pub invariant-loop-turn : goal.invariant-loop-turn
invariant-loop-turn g l = HasTurned l._turn l.fn.self l.self
