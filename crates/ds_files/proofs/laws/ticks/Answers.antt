use Rattle.cluster_model.proofs.Servers.{timed, clocked}
use Rattle.ds_procedures.specs.Objects.{caller_of}
use Rattle.ds_procedures.specs.Steps.{plan_of}
use Rattle.ds_files.proofs.Asked.{permitted}
use Rattle.ds_files.proofs.Runs.{rising}
use Rattle.ds_files.proofs.laws.ticks.Goals as goal

pub returns-clause-one : goal.returns-clause-one
returns-clause-one c = λ s call cred. timed s (caller_of cred) (plan_of s call (caller_of cred)).effect (permitted s call cred)

pub returns-clause-clocked : goal.returns-clause-clocked
returns-clause-clocked c = λ s call cred. clocked s (caller_of cred) (plan_of s call (caller_of cred)).effect (permitted s call cred)

pub returns-clause-rising : goal.returns-clause-rising
returns-clause-rising c = rising
