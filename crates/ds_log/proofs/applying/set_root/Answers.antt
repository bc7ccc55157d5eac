use Rattle.std.proofs.Common.{arith}
use Rattle.ds_log.proofs.LastingLemmas.{rooted}
use Rattle.ds_log.proofs.applying.set_root.Goals as goal

pub returns-clause-keeps : goal.returns-clause-keeps
returns-clause-keeps c = λ files k. rooted c.args.head.now files c.args.times (omega (arith, c.if-times-head.false)) k
