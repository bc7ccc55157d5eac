use Rattle.mds_quiet.proofs.RecallsEnd.{recalls_end}
use Rattle.mds_quiet.proofs.laws.recall_law.Goals as goal

pub returns : goal.returns
returns c = record { recalls = recalls_end }
