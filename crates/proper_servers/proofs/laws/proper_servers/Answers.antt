use Rattle.proper_servers.proofs.ProperSteps.{steps, users, starts, restarts}
use Rattle.proper_servers.proofs.ProperReplies.{replies}
use Rattle.proper_servers.proofs.laws.proper_servers.Goals as goal

pub returns-clause-steps : goal.returns-clause-steps
returns-clause-steps c = steps

pub returns-clause-users : goal.returns-clause-users
returns-clause-users c = users

pub returns-clause-starts : goal.returns-clause-starts
returns-clause-starts c = starts

pub returns-clause-restarts : goal.returns-clause-restarts
returns-clause-restarts c = restarts

pub returns-clause-replies : goal.returns-clause-replies
returns-clause-replies c = replies

pub returns-clause-same : goal.returns-clause-same
returns-clause-same c = λ s m i has. c.same_server.ensures s m has (replies s m i has)
