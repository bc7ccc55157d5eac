use Rattle.std.proofs.Common.{◌≡◌, drop}
use Rattle.std.specs.List.{position, position_from}
use Rattle.cluster_model.specs.Fences.{waits}
use Rattle.mds_creations.proofs.creations.waiting.Given as goal

abbrev pub invariant-loop-place : goal.invariant-loop-place
invariant-loop-place l = position (λ c. waits c.stage) l.items ≡ position_from (λ c. waits c.stage) l.place (drop l.place l.items)
