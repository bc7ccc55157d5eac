use Rattle.std.proofs.Common.{map}
use Rattle.mirror_writer.specs.Extents.{run_of_gap}
use Rattle.mirror_writer.proofs.GapLemmas.{GapsSoFar}
use Rattle.mirror_writer.proofs.extents.Extents.gaps.Given as goal

abbrev pub invariant-loop-left : goal.invariant-loop-left
invariant-loop-left l = GapsSoFar l.self l.at l.count (map run_of_gap l.gaps.items) l.from l.left

abbrev pub decreases-loop-left : goal.decreases-loop-left
decreases-loop-left l = l.left
