use Rattle.cluster_laws.proofs.Runs.{run_whole}
use Rattle.mds_moves.proofs.FileStands.{runs_stand}
use Rattle.mds_moves.proofs.Stands.{new_is, stays_reached}
use Rattle.mds_moves.proofs.Instance.{goes_on}
use Rattle.mds_moves.proofs.mds_moves.Goals as goal

pub returns-clause-begins : goal.returns-clause-begins
returns-clause-begins c = new_is

pub returns-clause-goes_on : goal.returns-clause-goes_on
returns-clause-goes_on c =
    goes_on c.run_bounds.ensures.draws (record { calls = c.calls_in_range.ensures.calls; mirrors = c.calls_in_range.ensures.mirrors }) c.telling_entries.ensures.runs
    (runs_stand (λ boots moves. run_whole c.server_guards.ensures.new boots c.server_guards.ensures.calls c.server_guards.ensures.restarts moves))

pub returns-clause-reached : goal.returns-clause-reached
returns-clause-reached c = stays_reached
