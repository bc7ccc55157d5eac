use Rattle.cluster_laws.proofs.Runs.{run_whole}
use Rattle.cluster_laws.proofs.RangeCalls.{calls_fit, mirrors_fit}
use Rattle.cluster_laws.proofs.calls_in_range.Goals as goal

pub returns-clause-calls : goal.returns-clause-calls
returns-clause-calls c = λ boots moves. calls_fit boots moves (run_whole c.server_guards.ensures.new boots c.server_guards.ensures.calls c.server_guards.ensures.restarts moves)

pub returns-clause-mirrors : goal.returns-clause-mirrors
returns-clause-mirrors c = λ boots moves. mirrors_fit boots moves (run_whole c.server_guards.ensures.new boots c.server_guards.ensures.calls c.server_guards.ensures.restarts moves)
