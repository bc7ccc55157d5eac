use Rattle.std.proofs.Common.{◌≡◌, drop}
use Rattle.std.specs.List.{position, position_from}
use Rattle.cluster_model.specs.Fences.{is_out}
use Rattle.resilver.proofs.targets.outstanding.Given as goal

abbrev pub invariant-loop-place : goal.invariant-loop-place
invariant-loop-place l = position (λ t. is_out l.xid t.stage) l.targets ≡ position_from (λ t. is_out l.xid t.stage) l.place (drop l.place l.targets)
