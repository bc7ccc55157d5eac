use Rattle.std.proofs.lemmas.Iterator.Adapters.{position_from-zero}
use Rattle.nfs4_session.specs.Seeks.{is_sought}
use Rattle.nfs4_session.proofs.seek.first.Goals as goal

pub loop-place-init : goal.loop-place-init
loop-place-init c = position_from-zero (is_sought c.args.seek) c.args.clients.now
