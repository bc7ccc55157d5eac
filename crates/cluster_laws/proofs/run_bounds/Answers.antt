use Rattle.cluster_laws.proofs.FewRuns.{draws_few, uids_end}
use Rattle.cluster_laws.proofs.run_bounds.Goals as goal

pub returns-clause-draws : goal.returns-clause-draws
returns-clause-draws c = λ boots moves. draws_few boots moves

pub returns-clause-uids : goal.returns-clause-uids
returns-clause-uids c = λ boots moves. uids_end boots moves
