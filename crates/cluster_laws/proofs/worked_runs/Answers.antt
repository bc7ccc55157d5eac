use Rattle.std.proofs.Common.{refl}
use Rattle.std.specs.Fmt.{digits}
use Rattle.cluster_laws.proofs.worked_runs.Goals as goal

-- src/lib.rt:32:1
pub returns-clause-two_periods : goal.returns-clause-two_periods
returns-clause-two_periods c = refl

-- src/lib.rt:32:1
pub returns-clause-restart_between : goal.returns-clause-restart_between
returns-clause-restart_between c = refl

-- src/lib.rt:32:1
pub returns-clause-late_write : goal.returns-clause-late_write
returns-clause-late_write c = refl

pub returns-clause-repeat : goal.returns-clause-repeat
returns-clause-repeat c = refl

pub returns-clause-timeouts : goal.returns-clause-timeouts
returns-clause-timeouts c = refl

pub returns-clause-out_of_sync : goal.returns-clause-out_of_sync
returns-clause-out_of_sync c = refl

pub returns-clause-own_write : goal.returns-clause-own_write
returns-clause-own_write c = refl

pub returns-clause-resilver : goal.returns-clause-resilver
unfolding digits
returns-clause-resilver c = refl

pub returns-clause-strays : goal.returns-clause-strays
returns-clause-strays c = refl

pub returns-clause-reported : goal.returns-clause-reported
returns-clause-reported c = refl

pub returns-clause-copied : goal.returns-clause-copied
unfolding digits
returns-clause-copied c = refl

pub returns-clause-source_fails : goal.returns-clause-source_fails
unfolding digits
returns-clause-source_fails c = refl

pub returns-clause-target_fails : goal.returns-clause-target_fails
unfolding digits
returns-clause-target_fails c = refl

pub returns-clause-recalled : goal.returns-clause-recalled
returns-clause-recalled c = refl
