use Rattle.mds_pace.proofs.Paces.{paces, repeats_kept}
use Rattle.mds_pace.proofs.RunNumbers.{taken_in_runs}
use Rattle.mds_pace.proofs.laws.repeat_law.Goals as goal
use Rattle.mds_walk.specs.MdsRuns.{mds_run}

pub returns-clause-paces : goal.returns-clause-paces
returns-clause-paces c = paces

pub returns-clause-taken : goal.returns-clause-taken
returns-clause-taken c = taken_in_runs

pub returns-clause-ticks : goal.returns-clause-ticks
returns-clause-ticks c servers mirrors events now = repeats_kept now (mds_run servers mirrors events).mds (taken_in_runs servers mirrors events)
