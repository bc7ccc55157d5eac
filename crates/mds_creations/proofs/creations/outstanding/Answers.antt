use Rattle.std.proofs.lemmas.Iterator.Adapters.{position_from-zero}
use Rattle.cluster_model.specs.Fences.{is_out}
use Rattle.mds_creations.proofs.creations.outstanding.Goals as goal

pub loop-place-init : goal.loop-place-init
loop-place-init c = position_from-zero (λ x. is_out c.args.xid x.stage) c.args.items.now
