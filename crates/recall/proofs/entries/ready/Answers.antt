use Rattle.std.proofs.lemmas.Iterator.Adapters.{position_from-zero}
use Rattle.recall.specs.Entries.{is_ready}
use Rattle.recall.proofs.entries.ready.Goals as goal

pub loop-place-init : goal.loop-place-init
loop-place-init c = position_from-zero is_ready c.args.entries.now
