use Rattle.cluster_laws.proofs.Runs.{run_whole}
use Rattle.mds_moves.proofs.FileStands.{runs_stand}
use Rattle.mds_moves.proofs.OwnKept.{new_has, writes_stay}
use Rattle.mds_moves.proofs.Instance.{goes_bound}
use Rattle.mds_moves.proofs.mds_binds.Goals as goal

pub returns-clause-begins : goal.returns-clause-begins
returns-clause-begins c = new_has

pub returns-clause-stays : goal.returns-clause-stays
returns-clause-stays c = writes_stay

pub returns-clause-goes_on : goal.returns-clause-goes_on
returns-clause-goes_on c =
    goes_bound c.run_bounds.ensures.draws (record { calls = c.calls_in_range.ensures.calls; mirrors = c.calls_in_range.ensures.mirrors }) c.telling_entries.ensures.runs
    (runs_stand (λ boots moves. run_whole c.server_guards.ensures.new boots c.server_guards.ensures.calls c.server_guards.ensures.restarts moves))
