use Rattle.std.proofs.Common.{drop, map}
use Rattle.cluster_model.specs.Phases.{put_if}
use Rattle.cluster_model.proofs.MirrorSteps.{GoesOver}
use Rattle.cluster_model.proofs.mirrors.Mirrors.with.Given as goal

abbrev pub invariant-loop-place : goal.invariant-loop-place
invariant-loop-place l = GoesOver l.self l.place l.all (map (put_if l.old l.fn.new) (drop l.place l.self)) (map (put_if l.old l.fn.new) l.self)
