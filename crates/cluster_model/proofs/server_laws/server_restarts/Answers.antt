use Rattle.cluster_model.proofs.ServerRestarts.{restarts}
use Rattle.cluster_model.proofs.server_laws.server_restarts.Goals as goal

pub returns : goal.returns
returns c = restarts
