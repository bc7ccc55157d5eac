use Rattle.std.proofs.Common.{ap, sym, ◌∙◌}
use Rattle.std.specs.List.{find}
use Rattle.nfs4_session.specs.Clients.{SessionsState, has_id}
use Rattle.nfs4_session.specs.Ends.{destroy_client_fault}
use Rattle.mds_rule.specs.MdsStates.{MdsValue}
use Rattle.mds_state.proofs.OpLemmas.{refused_so, same_sessions}
use Rattle.mds_sessions.proofs.SessionEnds.{refused_by}
use Rattle.mds_sessions.proofs.destroy.destroy_client.Goals as goal

pub returns-in-Err-clause-op : goal.returns-in-Err-clause-op
returns-in-Err-clause-op c =
    let by = refused_by c.state.inside.sessions c.destroy_client.new.self c.args.client (destroy_client_fault (find (has_id c.args.client) c.state.inside.sessions.clients)) c.in-Err.status c.in-Err.ensures in
    rw (← c.state.view_is) (refused_so _ _ c.args.run.now c.refuse.new.self 57 c.in-Err.status _ _ c.refuse.result c.args.out.now by.fault (same_sessions _ _ by.same) c.refuse.ensures.ends c.refuse.ensures.run)
