use Rattle.std.proofs.Common.{◌≡◌, true, take}
use Rattle.std.specs.List.{list_all}
use Rattle.cluster_model.specs.Fences.{is_over}
use Rattle.mds_creations.proofs.creations.are_over.Given as goal

abbrev pub invariant-loop-item : goal.invariant-loop-item
invariant-loop-item l = list_all (λ c. is_over c.stage) (take l.item-index l.items) ≡ true
