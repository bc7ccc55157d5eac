use Rattle.mds_progress.proofs.FirstCalls.{first_goes}
use Rattle.mds_progress.proofs.laws.out_law.Goals as goal

pub returns : goal.returns
returns c = first_goes
