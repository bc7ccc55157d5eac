use Rattle.std.proofs.Common.{◌≡◌, false, take, ◌&&◌}
use Rattle.std.specs.Prelude.{◌==◌}
use Rattle.std.specs.List.{list_any}
use Rattle.cluster_model.specs.Fences.{is_out}
use Rattle.resilver.proofs.targets.is_out_to.Given as goal

abbrev pub invariant-loop-target : goal.invariant-loop-target
invariant-loop-target l = list_any (λ t. t.server == l.server && is_out l.xid t.stage) (take l.target-index l.targets) ≡ false
