use Rattle.std.proofs.Common.{◌≡◌, drop}
use Rattle.std.specs.List.{position, position_from}
use Rattle.cluster_model.specs.Fences.{waits}
use Rattle.resilver.proofs.targets.waiting.Given as goal

abbrev pub invariant-loop-place : goal.invariant-loop-place
invariant-loop-place l = position (λ t. waits t.stage) l.targets ≡ position_from (λ t. waits t.stage) l.place (drop l.place l.targets)
