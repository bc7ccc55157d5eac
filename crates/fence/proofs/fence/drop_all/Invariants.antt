use Rattle.std.proofs.Common.{◌≡◌, ◌++◌, map, take, drop}
use Rattle.cluster_model.specs.Fences.{dropped_if}
use Rattle.fence.proofs.fence.drop_all.Given as goal

abbrev pub invariant-loop-mirror : goal.invariant-loop-mirror
invariant-loop-mirror l = l.mirror-items ≡ map (dropped_if l.id) (take l.mirror-index l.fn.mirrors) ++ drop l.mirror-index l.fn.mirrors
