use Rattle.mds_histories.proofs.Histories.{is_of_run}
use Rattle.mds_histories.proofs.laws.mds_histories.Goals as goal

pub returns : goal.returns
returns c = record { run = λ m events. is_of_run m events }
