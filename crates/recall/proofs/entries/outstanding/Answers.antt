use Rattle.std.proofs.lemmas.Iterator.Adapters.{position_from-zero}
use Rattle.recall.specs.Recalls.{is_out_as}
use Rattle.recall.proofs.entries.outstanding.Goals as goal

pub loop-place-init : goal.loop-place-init
loop-place-init c = position_from-zero (λ e. is_out_as c.args.xid e.recall.stage) c.args.entries.now
