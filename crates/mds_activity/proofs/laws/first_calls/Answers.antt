use Rattle.mds_activity.proofs.FirstCalls.{first_goes}
use Rattle.mds_activity.proofs.laws.first_calls.Goals as goal

pub returns : goal.returns
returns c = first_goes
