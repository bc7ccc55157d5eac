use Rattle.std.proofs.lemmas.Iterator.Adapters.{position_from-zero}
use Rattle.cluster_model.specs.Fences.{is_out}
use Rattle.fence.proofs.fence.outstanding.Goals as goal

pub loop-place-init : goal.loop-place-init
loop-place-init c = position_from-zero (λ m. is_out c.args.xid m.stage) c.args.mirrors.now
