use Rattle.cluster_laws.proofs.LawsTold.{says_the_same}
use Rattle.cluster_laws.proofs.Runs.{run_left}
use Rattle.cluster_laws.proofs.telling_entries.Goals as goal

pub returns-clause-same : goal.returns-clause-same
returns-clause-same c = says_the_same

pub returns-clause-runs : goal.returns-clause-runs
returns-clause-runs c = λ boots moves. run_left c.server_guards.ensures.new boots c.server_guards.ensures.calls c.server_guards.ensures.restarts moves
