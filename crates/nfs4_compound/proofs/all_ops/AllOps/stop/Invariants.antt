use Rattle.std.proofs.Common.{◌≡◌, length}
use Rattle.nfs4_compound.proofs.all_ops.AllOps.stop.Given as goal

-- the operations that are left stop where all do
abbrev pub invariant-loop-number : goal.invariant-loop-number
invariant-loop-number l = l.ops.stop ≡ l.fn.self.stop

abbrev pub decreases-loop-number : goal.decreases-loop-number
decreases-loop-number l = length l.ops.values
