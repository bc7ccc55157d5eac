use Rattle.cluster_model.proofs.Moments.{passes}
use Rattle.cluster_model.proofs.laws.guards.Goals as goal

pub returns : goal.returns
returns c = passes
