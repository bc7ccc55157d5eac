use Rattle.std.proofs.Common.{◌-◌, length}
use Rattle.rpc_record.proofs.FrameTakes.{Underway}
use Rattle.rpc_record.proofs.frames.gather.Given as goal

abbrev pub invariant-loop-taken : goal.invariant-loop-taken
invariant-loop-taken l = Underway l.fn.gathered.items l.fn.start l.piece l.taken l.gathered.items l.stage

abbrev pub decreases-loop-taken : goal.decreases-loop-taken
decreases-loop-taken l = length l.piece - l.taken
