use Rattle.std.proofs.Common.{◌≡◌, drop}
use Rattle.std.specs.List.{position, position_from}
use Rattle.cluster_model.specs.Fences.{is_out}
use Rattle.mds_creations.proofs.creations.outstanding.Given as goal

abbrev pub invariant-loop-place : goal.invariant-loop-place
invariant-loop-place l = position (λ c. is_out l.xid c.stage) l.items ≡ position_from (λ c. is_out l.xid c.stage) l.place (drop l.place l.items)
