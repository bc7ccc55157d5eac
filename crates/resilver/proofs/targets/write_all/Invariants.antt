use Rattle.std.proofs.Common.{◌≡◌, ◌++◌, map, take, drop}
use Rattle.copy_rule.specs.Copies.{to_write}
use Rattle.resilver.proofs.targets.write_all.Given as goal

abbrev pub invariant-loop-target : goal.invariant-loop-target
invariant-loop-target l = l.target-items ≡ map (to_write l.piece) (take l.target-index l.fn.targets) ++ drop l.target-index l.fn.targets
