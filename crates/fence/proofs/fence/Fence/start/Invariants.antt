use Rattle.std.proofs.Common.{◌≡◌, ◌≤◌, map, take, length}
use Rattle.cluster_model.specs.Fences.{to_fence}
use Rattle.arrayvec.specs.ArrayVec.{array_vec_len}
use Rattle.fence.proofs.fence.Fence.start.Given as goal

abbrev pub invariant-loop-place : goal.invariant-loop-place
invariant-loop-place l = record {
  items : l.all.items ≡ map to_fence (take l.place l.mirrors);
  size : array_vec_len l.all ≡ l.place;
}
