use Rattle.std.proofs.Common.{rules}
use Rattle.ds_log.proofs.RangeLemmas.{ranges_again}
use Rattle.ds_log.proofs.body.read_bytes.Goals as goal

pub returns : goal.returns
returns c = rw ranges_again (search rules)
