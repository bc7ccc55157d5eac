use Rattle.cluster_model.proofs.Servers.{safe}
use Rattle.ds_procedures.specs.Objects.{caller_of}
use Rattle.ds_procedures.specs.Steps.{plan_of}
use Rattle.ds_files.proofs.Asked.{permitted}
use Rattle.ds_files.proofs.laws.strangers.Goals as goal

pub returns : goal.returns
returns c = λ s call cred. safe s (caller_of cred) (plan_of s call (caller_of cred)).effect (permitted s call cred)
