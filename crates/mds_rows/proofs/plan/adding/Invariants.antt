use Rattle.std.proofs.Common.{◌≡◌, ◌≤◌, ◌+◌, ◌-◌, ◌++◌, not, filter, take}
use Rattle.std.specs.List.{range_with_len}
use Rattle.arrayvec.specs.ArrayVec.{array_vec_len}
use Rattle.cluster_model.specs.Mirrors.{has_server}
use Rattle.file_rule.specs.MdsFiles.{adding, servers_without}
use Rattle.mds_rows.proofs.plan.adding.Given as goal

abbrev pub invariant-loop-below : goal.invariant-loop-below
invariant-loop-below l = record {
  items : l.plan.items ++ adding (l.fresh.name + array_vec_len l.plan) (take (l.missing - array_vec_len l.plan) (filter (λ n. not (has_server l.live n)) (range_with_len (l.below + 1) (l.fresh.servers - l.below)))) ≡ adding l.fresh.name (take l.missing (servers_without l.fresh.servers l.live));
  size : array_vec_len l.plan ≤ l.missing;
}
