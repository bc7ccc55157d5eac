use Rattle.mds_quiet.proofs.Counts.{ticks_leave_few}
use Rattle.mds_quiet.proofs.laws.counts_law.Goals as goal

pub returns : goal.returns
returns c = ticks_leave_few
