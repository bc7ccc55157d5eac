use Rattle.std.proofs.Common.{drop}
use Rattle.cluster_model.specs.Phases.{seen_at}
use Rattle.cluster_model.proofs.MirrorSteps.{GoesOver}
use Rattle.cluster_model.proofs.mirrors.Mirrors.seen_at.Given as goal

abbrev pub invariant-loop-place : goal.invariant-loop-place
invariant-loop-place l = GoesOver l.self l.place l.all (seen_at l.id l.fn.seen (drop l.place l.self)) (seen_at l.id l.fn.seen l.self)
