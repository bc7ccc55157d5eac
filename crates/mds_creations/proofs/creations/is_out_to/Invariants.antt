use Rattle.std.proofs.Common.{◌≡◌, false, take, ◌&&◌}
use Rattle.std.specs.Prelude.{◌==◌}
use Rattle.std.specs.List.{list_any}
use Rattle.cluster_model.specs.Fences.{is_out}
use Rattle.mds_creations.proofs.creations.is_out_to.Given as goal

abbrev pub invariant-loop-item : goal.invariant-loop-item
invariant-loop-item l = list_any (λ c. c.server == l.server && is_out l.xid c.stage) (take l.item-index l.items) ≡ false
