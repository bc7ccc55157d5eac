use Rattle.cluster_model.proofs.Files.{written_law}
use Rattle.cluster_model.proofs.laws.writes.Goals as goal

pub returns : goal.returns
returns c = written_law
