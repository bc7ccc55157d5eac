use Rattle.cluster_laws.proofs.Runs.{run_obeys}
use Rattle.cluster_laws.proofs.fence_law.Goals as goal

-- src/lib.rt:14:1
pub returns : goal.returns
returns c = λ boots moves. run_obeys c.server_guards.ensures.new boots c.server_guards.ensures.calls c.server_guards.ensures.restarts moves
