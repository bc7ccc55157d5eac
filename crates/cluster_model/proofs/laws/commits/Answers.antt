use Rattle.cluster_model.proofs.Files.{committed_law}
use Rattle.cluster_model.proofs.laws.commits.Goals as goal

pub returns : goal.returns
returns c = committed_law
