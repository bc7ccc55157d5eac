use Rattle.std.proofs.lemmas.Iterator.Adapters.{position_from-zero}
use Rattle.cluster_model.specs.Fences.{waits}
use Rattle.resilver.proofs.targets.waiting.Goals as goal

pub loop-place-init : goal.loop-place-init
loop-place-init c = position_from-zero (λ t. waits t.stage) c.args.targets.now
