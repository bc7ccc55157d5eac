use Rattle.mds_session_order.proofs.NewSessions.{sessions_are_new}
use Rattle.mds_session_order.proofs.GoneClients.{ids_stay_gone}
use Rattle.mds_session_order.proofs.GoneRequests.{clients_stay_gone}
use Rattle.mds_session_order.proofs.laws.session_order.Goals as goal

pub returns-clause-new : goal.returns-clause-new
returns-clause-new c = sessions_are_new c.table_law.ensures

pub returns-clause-gone : goal.returns-clause-gone
returns-clause-gone c = ids_stay_gone c.table_law.ensures

pub returns-clause-quiet : goal.returns-clause-quiet
returns-clause-quiet c = clients_stay_gone c.table_law.ensures
