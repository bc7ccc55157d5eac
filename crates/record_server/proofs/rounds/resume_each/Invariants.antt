use Rattle.std.proofs.Common.{◌≡◌, ◌++◌, map, take, drop}
use Rattle.record_link.specs.Peers.{resumed}
use Rattle.record_server.proofs.rounds.resume_each.Given as goal

abbrev pub invariant-loop-peer : goal.invariant-loop-peer
invariant-loop-peer g l = l.peer-items ≡ map resumed (take l.peer-index l.fn.peers) ++ drop l.peer-index l.fn.peers
