use Rattle.std.proofs.Common.{arith}
use Rattle.ds_log.proofs.LastingLemmas.{begins}
use Rattle.ds_log.proofs.applying.begin_boot.Goals as goal

pub returns-clause-keeps : goal.returns-clause-keeps
returns-clause-keeps c = λ files k. begins c.args.head.now files c.args.boot (omega (arith, c.if-boot-head.false)) k
