use Rattle.std.proofs.Common.{arith}
use Rattle.rpc_record.proofs.frames.behind_header.Goals as goal

pub returns-else-headers-eq0-clause-limit : goal.returns-else-headers-eq0-clause-limit
returns-else-headers-eq0-clause-limit c = λ low. c.settled.ensures.limit c.args.gathered (omega arith)
