use Rattle.std.proofs.Common.{◌≡◌, ◌≤◌, map, filter, take}
use Rattle.arrayvec.specs.ArrayVec.{array_vec_len}
use Rattle.cluster_model.specs.Fences.{waits}
use Rattle.resilver.proofs.targets.servers_of_waiting.Given as goal

abbrev pub invariant-loop-target : goal.invariant-loop-target
invariant-loop-target l = record {
  items : l.servers.items ≡ map (λ t. t.server) (filter (λ t. waits t.stage) (take l.target-index l.targets));
  size : array_vec_len l.servers ≤ l.target-index;
}
