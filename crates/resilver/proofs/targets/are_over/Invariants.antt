use Rattle.std.proofs.Common.{◌≡◌, true, take}
use Rattle.std.specs.List.{list_all}
use Rattle.cluster_model.specs.Fences.{is_over}
use Rattle.resilver.proofs.targets.are_over.Given as goal

abbrev pub invariant-loop-target : goal.invariant-loop-target
invariant-loop-target l = list_all (λ t. is_over t.stage) (take l.target-index l.targets) ≡ true
