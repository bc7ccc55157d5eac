use Rattle.cluster_model.proofs.Placing.{order, again}
use Rattle.cluster_model.proofs.laws.overlays.Goals as goal

pub returns-clause-order : goal.returns-clause-order
returns-clause-order c = order

pub returns-clause-again : goal.returns-clause-again
returns-clause-again c = again
