use Rattle.std.proofs.Common.{◌≡◌, ◌≤◌, take, length}
use Rattle.std.specs.List.{flat_map}
use Rattle.copy_rule.specs.Copies.{swap_of}
use Rattle.resilver.proofs.targets.swaps.Given as goal

abbrev pub invariant-loop-target : goal.invariant-loop-target
invariant-loop-target l = record {
  list : l.swaps ≡ flat_map (λ t. swap_of t t.made) (take l.target-index l.targets);
  size : length l.swaps ≤ l.target-index;
}
