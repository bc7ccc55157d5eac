use Rattle.std.proofs.lemmas.Iterator.Adapters.{position_from-zero}
use Rattle.mirror_writer.specs.Writers.{is_call}
use Rattle.mirror_writer.proofs.mirrors.outstanding.Goals as goal

pub loop-place-init : goal.loop-place-init
loop-place-init c = position_from-zero (λ r. is_call c.args.xid r.mirror.call) c.args.mirrors.now
