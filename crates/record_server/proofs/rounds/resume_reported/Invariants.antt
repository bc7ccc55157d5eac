use Rattle.std.proofs.Common.{◌≡◌, suc, map, take}
use Rattle.record_server.specs.Server.{resumed_by}
use Rattle.record_server.proofs.rounds.resume_reported.Given as goal

abbrev pub invariant-loop-number : goal.invariant-loop-number
invariant-loop-number g l = l.peers ≡ map (resumed_by (take (suc l.number-index) l.fn.reports)) l.fn.peers
