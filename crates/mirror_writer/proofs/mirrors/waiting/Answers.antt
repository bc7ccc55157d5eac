use Rattle.std.proofs.lemmas.Iterator.Adapters.{position_from-zero}
use Rattle.mirror_writer.specs.Writers.{is_some_call, next_at}
use Rattle.mirror_writer.proofs.mirrors.waiting.Goals as goal

pub loop-place-init : goal.loop-place-init
loop-place-init c = position_from-zero (λ r. is_some_call (next_at c.args.wants_commit r.mirror)) c.args.mirrors.now
