use Rattle.std.proofs.Common.{◌≡◌, false, take, ◌&&◌}
use Rattle.std.specs.Prelude.{◌==◌}
use Rattle.std.specs.List.{list_any}
use Rattle.cluster_model.specs.Fences.{is_out}
use Rattle.fence.proofs.fence.is_out_to.Given as goal

abbrev pub invariant-loop-mirror : goal.invariant-loop-mirror
invariant-loop-mirror l = list_any (λ m. m.id.server == l.server && is_out l.xid m.stage) (take l.mirror-index l.mirrors) ≡ false
