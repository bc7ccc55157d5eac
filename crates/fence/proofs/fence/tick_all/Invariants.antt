use Rattle.std.proofs.Common.{◌≡◌, ◌++◌, map, take, drop}
use Rattle.cluster_model.specs.Fences.{at_tick}
use Rattle.fence.proofs.fence.tick_all.Given as goal

abbrev pub invariant-loop-mirror : goal.invariant-loop-mirror
invariant-loop-mirror l = l.mirror-items ≡ map at_tick (take l.mirror-index l.fn.mirrors) ++ drop l.mirror-index l.fn.mirrors
