use Rattle.std.proofs.lemmas.Iterator.Adapters.{position_from-zero}
use Rattle.cluster_model.specs.Fences.{waits}
use Rattle.mds_creations.proofs.creations.waiting.Goals as goal

pub loop-place-init : goal.loop-place-init
loop-place-init c = position_from-zero (λ x. waits x.stage) c.args.items.now
