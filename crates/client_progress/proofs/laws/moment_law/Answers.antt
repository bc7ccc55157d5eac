use Rattle.client_progress.proofs.Ticks.{awaits_none}
use Rattle.client_progress.proofs.laws.moment_law.Goals as goal

pub returns : goal.returns
returns c = awaits_none
