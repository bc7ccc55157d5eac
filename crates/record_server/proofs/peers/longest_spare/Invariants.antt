use Rattle.record_server.proofs.FindLemmas.{BestOf}
use Rattle.record_server.proofs.peers.longest_spare.Given as goal

abbrev pub invariant-loop-place : goal.invariant-loop-place
invariant-loop-place g l = BestOf l.time l.peers l.place l.best l.heard
