use Rattle.cluster_model.proofs.ServerRestarts.{restarts}
use Rattle.ds_files.proofs.laws.restarts.Goals as goal

pub returns : goal.returns
returns c = restarts
