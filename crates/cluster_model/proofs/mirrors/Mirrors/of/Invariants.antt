use Rattle.cluster_model.proofs.MirrorLists.{IsThereTo}
use Rattle.cluster_model.proofs.mirrors.Mirrors.of.Given as goal

abbrev pub invariant-loop-mirror : goal.invariant-loop-mirror
invariant-loop-mirror l = IsThereTo l.mirrors l.mirror-index l.all
