use Rattle.mds_laws.proofs.OwnPeriods.{runs_own_periods}
use Rattle.mds_laws.proofs.own_periods_law.Goals as goal

pub returns : goal.returns
returns c = record { periods = runs_own_periods }
