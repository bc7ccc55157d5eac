use Rattle.std.proofs.Common.{◌≡◌, ◌≤◌, map, filter, take}
use Rattle.arrayvec.specs.ArrayVec.{array_vec_len}
use Rattle.cluster_model.specs.Fences.{waits}
use Rattle.fence.proofs.fence.servers_of_waiting.Given as goal

abbrev pub invariant-loop-mirror : goal.invariant-loop-mirror
invariant-loop-mirror l = record {
  items : l.servers.items ≡ map (λ m. m.id.server) (filter (λ m. waits m.stage) (take l.mirror-index l.mirrors));
  size : array_vec_len l.servers ≤ l.mirror-index;
}
