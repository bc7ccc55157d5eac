use Rattle.std.proofs.Common.{◌≡◌, drop}
use Rattle.std.specs.List.{position, position_from}
use Rattle.cluster_model.specs.Fences.{is_out}
use Rattle.fence.proofs.fence.outstanding.Given as goal

abbrev pub invariant-loop-place : goal.invariant-loop-place
invariant-loop-place l = position (λ m. is_out l.xid m.stage) l.mirrors ≡ position_from (λ m. is_out l.xid m.stage) l.place (drop l.place l.mirrors)
