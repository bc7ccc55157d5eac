use Rattle.std.proofs.Common.{arith, refl}
use Rattle.ds_log.proofs.RangeLemmas.{ranges_again}
use Rattle.ds_log.proofs.body.put_bytes.Goals as goal

pub put-requires : goal.put-requires
put-requires c κs = ((refl, tt), (omega arith, rw ranges_again at c.requires))

pub returns : goal.returns
returns c = rw ranges_again c.put.ensures
