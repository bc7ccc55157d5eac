use Rattle.std.proofs.lemmas.Iterator.Adapters.{position_from-zero}
use Rattle.cluster_model.specs.Fences.{is_out}
use Rattle.resilver.proofs.targets.outstanding.Goals as goal

pub loop-place-init : goal.loop-place-init
loop-place-init c = position_from-zero (λ t. is_out c.args.xid t.stage) c.args.targets.now
