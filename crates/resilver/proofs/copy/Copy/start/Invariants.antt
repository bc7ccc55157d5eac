use Rattle.std.proofs.Common.{◌≡◌, map, take}
use Rattle.copy_rule.specs.Copies.{to_make}
use Rattle.arrayvec.specs.ArrayVec.{array_vec_len}
use Rattle.resilver.proofs.copy.Copy.start.Given as goal

abbrev pub invariant-loop-target : goal.invariant-loop-target
invariant-loop-target l = record {
  items : l.targets.items ≡ map to_make (take l.target-index l.plan);
  size : array_vec_len l.targets ≡ l.target-index;
}
