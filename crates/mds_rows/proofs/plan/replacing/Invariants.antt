use Rattle.std.proofs.Common.{◌≡◌, ◌+◌, ◌++◌, drop}
use Rattle.arrayvec.specs.ArrayVec.{array_vec_len}
use Rattle.file_rule.specs.MdsFiles.{replacing}
use Rattle.mds_rows.proofs.plan.replacing.Given as goal

abbrev pub invariant-loop-place : goal.invariant-loop-place
invariant-loop-place l = record {
  items : l.plan.items ++ replacing (l.name + array_vec_len l.plan) (drop l.place l.live) ≡ replacing l.name (drop 1 l.live);
  size : array_vec_len l.plan + 1 ≡ l.place;
}
