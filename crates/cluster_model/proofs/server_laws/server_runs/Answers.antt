use Rattle.cluster_model.proofs.Runs.{rising, told}
use Rattle.cluster_model.proofs.server_laws.server_runs.Goals as goal

pub returns-clause-ticks : goal.returns-clause-ticks
returns-clause-ticks c = rising

pub returns-clause-told : goal.returns-clause-told
returns-clause-told c = told
