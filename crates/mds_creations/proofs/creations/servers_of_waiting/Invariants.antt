use Rattle.std.proofs.Common.{◌≡◌, ◌≤◌, map, filter, take}
use Rattle.arrayvec.specs.ArrayVec.{array_vec_len}
use Rattle.cluster_model.specs.Fences.{waits}
use Rattle.mds_creations.proofs.creations.servers_of_waiting.Given as goal

abbrev pub invariant-loop-item : goal.invariant-loop-item
invariant-loop-item l = record {
  items : l.servers.items ≡ map (λ c. c.server) (filter (λ c. waits c.stage) (take l.item-index l.items));
  size : array_vec_len l.servers ≤ l.item-index;
}
