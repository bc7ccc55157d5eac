use Rattle.recall.proofs.Promises.{law}
use Rattle.recall.proofs.laws.recall_law.Goals as goal

pub returns : goal.returns
returns c = law
