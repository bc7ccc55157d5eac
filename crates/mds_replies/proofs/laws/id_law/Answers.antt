use Rattle.mds_replies.proofs.OneOwner.{ids_are_own}
use Rattle.mds_replies.proofs.SessionRuns.{sessions_are_own}
use Rattle.mds_replies.proofs.laws.id_law.Goals as goal

pub returns-clause-ids : goal.returns-clause-ids
returns-clause-ids c = ids_are_own

pub returns-clause-sessions : goal.returns-clause-sessions
returns-clause-sessions c = sessions_are_own
