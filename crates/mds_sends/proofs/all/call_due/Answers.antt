use Rattle.std.proofs.Common.{[], refl}
use Rattle.mds_sends.proofs.all.call_due.Goals as goal

pub returns : goal.returns
returns c = c.call_all.ensures [] refl
