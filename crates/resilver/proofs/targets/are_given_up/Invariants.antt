use Rattle.std.proofs.Common.{◌≡◌, true, take}
use Rattle.std.specs.List.{list_all}
use Rattle.copy_rule.specs.Copies.{is_given_up}
use Rattle.resilver.proofs.targets.are_given_up.Given as goal

abbrev pub invariant-loop-target : goal.invariant-loop-target
invariant-loop-target l = list_all (λ t. is_given_up t.stage) (take l.target-index l.targets) ≡ true
