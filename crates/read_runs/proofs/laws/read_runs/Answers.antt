use Rattle.read_runs.proofs.EventSteps.{each_answered}
use Rattle.read_runs.proofs.laws.read_runs.Goals as goal

pub returns : goal.returns
returns c = record { answered = each_answered }
