use Rattle.std.proofs.Common.{drop}
use Rattle.cluster_model.specs.Phases.{unreported}
use Rattle.cluster_model.proofs.MirrorSteps.{GoesOver}
use Rattle.cluster_model.proofs.mirrors.Mirrors.unreported.Given as goal

abbrev pub invariant-loop-place : goal.invariant-loop-place
invariant-loop-place l = GoesOver l.self l.place l.kept (unreported (drop l.place l.reported.places) (drop l.place l.self)) (unreported l.reported.places l.self)
