use Rattle.cluster_laws.proofs.GoingRuns.{going}
use Rattle.cluster_laws.proofs.copies_go_on.Goals as goal

pub returns : goal.returns
returns c = λ boots moves. going boots moves
