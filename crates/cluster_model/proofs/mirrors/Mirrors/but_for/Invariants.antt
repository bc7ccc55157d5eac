use Rattle.std.proofs.Common.{drop}
use Rattle.cluster_model.specs.Phases.{but_for}
use Rattle.cluster_model.proofs.MirrorSteps.{GoesOver}
use Rattle.cluster_model.proofs.mirrors.Mirrors.but_for.Given as goal

abbrev pub invariant-loop-place : goal.invariant-loop-place
invariant-loop-place l = GoesOver l.self l.place l.kept (but_for l.id (drop l.place l.self)) (but_for l.id l.self)
