use Rattle.cluster_model.proofs.Servers.{tells_old, tells_new}
use Rattle.ds_procedures.specs.Objects.{caller_of}
use Rattle.ds_procedures.specs.Steps.{plan_of}
use Rattle.ds_files.proofs.Asked.{permitted}
use Rattle.ds_files.proofs.Runs.{told}
use Rattle.ds_files.proofs.laws.entries.Goals as goal

pub returns-clause-old : goal.returns-clause-old
returns-clause-old c = λ s call cred. tells_old s (caller_of cred) (plan_of s call (caller_of cred)).effect (permitted s call cred)

pub returns-clause-new : goal.returns-clause-new
returns-clause-new c = λ s call cred. tells_new s (caller_of cred) (plan_of s call (caller_of cred)).effect (permitted s call cred)

pub returns-clause-told : goal.returns-clause-told
returns-clause-told c = told
