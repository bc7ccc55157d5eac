use Rattle.std.proofs.Common.{◌≡◌, drop}
use Rattle.std.specs.List.{position, position_from}
use Rattle.cluster_model.specs.Fences.{waits}
use Rattle.fence.proofs.fence.waiting.Given as goal

abbrev pub invariant-loop-place : goal.invariant-loop-place
invariant-loop-place l = position (λ m. waits m.stage) l.mirrors ≡ position_from (λ m. waits m.stage) l.place (drop l.place l.mirrors)
