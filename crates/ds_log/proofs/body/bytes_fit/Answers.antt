use Rattle.std.proofs.Common.{rules}
use Rattle.ds_log.proofs.RangeLemmas.{ranges_again}
use Rattle.ds_log.proofs.body.bytes_fit.Goals as goal

pub returns : goal.returns
returns c = rw ranges_again (search rules)
