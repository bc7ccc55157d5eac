use Rattle.std.proofs.Common.{length}
use Rattle.mds_core.proofs.RecallLemmas.{ComesOn}
use Rattle.mds_core.proofs.ticks.expire_recalls.Given as goal

abbrev pub invariant-loop-file : goal.invariant-loop-file
invariant-loop-file l = ComesOn l.now l.state l.out l.fn.state l.fn.out

abbrev pub decreases-loop-file : goal.decreases-loop-file
decreases-loop-file l = length l.state.recalls
