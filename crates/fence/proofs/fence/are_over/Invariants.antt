use Rattle.std.proofs.Common.{◌≡◌, true, take}
use Rattle.std.specs.List.{list_all}
use Rattle.cluster_model.specs.Fences.{is_over}
use Rattle.fence.proofs.fence.are_over.Given as goal

abbrev pub invariant-loop-mirror : goal.invariant-loop-mirror
invariant-loop-mirror l = list_all (λ m. is_over m.stage) (take l.mirror-index l.mirrors) ≡ true
