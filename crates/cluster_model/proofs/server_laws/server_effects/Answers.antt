use Rattle.cluster_model.proofs.Servers.{safe, timed, clocked, tells_old, tells_new}
use Rattle.cluster_model.proofs.Permitted.{permitted}
use Rattle.cluster_model.proofs.server_laws.server_effects.Goals as goal

pub returns-clause-safe : goal.returns-clause-safe
returns-clause-safe c = safe

pub returns-clause-timed : goal.returns-clause-timed
returns-clause-timed c = timed

pub returns-clause-clocked : goal.returns-clause-clocked
returns-clause-clocked c = clocked

pub returns-clause-old : goal.returns-clause-old
returns-clause-old c = tells_old

pub returns-clause-new : goal.returns-clause-new
returns-clause-new c = tells_new

pub returns-clause-permitted : goal.returns-clause-permitted
returns-clause-permitted c = permitted
