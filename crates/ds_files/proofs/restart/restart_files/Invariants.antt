use Rattle.ds_files.proofs.Keeping.{IsHalfDone}
use Rattle.std.proofs.Common.{length}
use Rattle.ds_files.proofs.restart.restart_files.Given as goal

abbrev pub invariant-loop-bytes : goal.invariant-loop-bytes
invariant-loop-bytes l = IsHalfDone l.fn.files l.fn.kept.items l.files l.kept.items

abbrev pub decreases-loop-bytes : goal.decreases-loop-bytes
decreases-loop-bytes l = length l.kept.items
