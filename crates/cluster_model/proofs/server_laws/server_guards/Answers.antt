use Rattle.std.proofs.Common.{refl, arith, inr}
use Rattle.cluster_model.proofs.GuardLemmas.{restart_laws}
use Rattle.cluster_model.proofs.CallGuards.{call_laws}
use Rattle.cluster_model.proofs.server_laws.server_guards.Goals as goal

pub returns-clause-calls : goal.returns-clause-calls
returns-clause-calls c = call_laws

pub returns-clause-restarts : goal.returns-clause-restarts
returns-clause-restarts c = restart_laws

pub returns-clause-new : goal.returns-clause-new
returns-clause-new c number boot = (record { files = λ i f there. absurd (cc); root = inr (refl, omega arith); names = refl }, record { each = λ i f there. absurd (cc); none = λ i past. refl })
