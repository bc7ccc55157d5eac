use Rattle.cluster_laws.proofs.Runs.{run_fenced, run_stays, run_tells}
use Rattle.cluster_laws.proofs.run_laws.Goals as goal

pub returns-clause-owners_stay : goal.returns-clause-owners_stay
returns-clause-owners_stay c = λ boots moves. run_stays c.server_guards.ensures.new boots c.server_guards.ensures.calls c.server_guards.ensures.restarts moves

pub returns-clause-tells_the_truth : goal.returns-clause-tells_the_truth
returns-clause-tells_the_truth c = λ boots moves. run_tells c.server_guards.ensures.new boots c.server_guards.ensures.calls c.server_guards.ensures.restarts moves

pub returns-clause-each_period_is_fenced : goal.returns-clause-each_period_is_fenced
returns-clause-each_period_is_fenced c = λ boots moves. run_fenced c.server_guards.ensures.new boots c.server_guards.ensures.calls c.server_guards.ensures.restarts moves
