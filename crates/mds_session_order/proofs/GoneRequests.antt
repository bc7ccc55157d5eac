-- Where a session that was given is gone, no request on a session of its client takes effect again.
use Rattle.std.proofs.Common.{◌≡◌, ℕ, ◌++◌, Option, Some, None, refl, sym, subst, ◌∙◌}
use Rattle.std.specs.List.{find}
use Rattle.std.proofs.lemmas.Bool.{eqb-true}
use Rattle.nfs4_types.specs.declared.ids.SessionId.{SessionId}
use Rattle.nfs4_session.specs.Slots.{TakesEffect}
use Rattle.nfs4_session.specs.Clients.{ClientState, SessionsState, client_in, number_in, has_id, session_of_client}
use Rattle.nfs4_session.specs.Requests.{answer_by_session, request_answer}
use Rattle.nfs4_session.specs.Bindings.{after_binding}
use Rattle.nfs4_session.specs.TableLaw.{Bind, KeepsTable}
use Rattle.client_mds_calls.specs.MdsCalls.{SlotCallValue}
use Rattle.mds_rule.specs.MdsStates.{MdsValue, new_mds}
use Rattle.mds_walk.proofs.Lists.{found_in, found_passes}
use Rattle.mds_replies.specs.ClientCalls.{server_after}
use Rattle.mds_replies.specs.SlotReplies.{request_of}
use Rattle.mds_replies.proofs.Periods.{run_behind}
use Rattle.mds_replies.proofs.TableRuns.{run_keeps}
use Rattle.mds_session_order.specs.SessionOrder.{ClientsStayGone}
use Rattle.mds_session_order.proofs.GoneClients.{Gone, IsGone, gone_keeps, refused_gone, has_later}

-- what takes effect is on a session of a client that has a record
none_takes : (s : SessionsState) (session : SessionId) (number : ℕ) (call : SlotCallValue) (id : ℕ) → IsGone id s → client_in session ≡ id → request_answer s (request_of session number call) ≡ TakesEffect → ⊥
none_takes s session number call id g same effect = by_client (find (has_id (client_in session)) s.clients) refl effect
  where
    by_client : (o : Option ClientState) → find (has_id (client_in session)) s.clients ≡ o → answer_by_session (request_of session number call) (session_of_client (number_in session) o) ≡ TakesEffect → ⊥
    by_client None at is = absurd cc
    by_client (Some c) at is =
        g.none c (found_in (has_id (client_in session)) s.clients c at) (eqb-true c.id (client_in session) (found_passes (has_id (client_in session)) s.clients c at) ∙ same)

pub clients_stay_gone : KeepsTable → ClientsStayGone
clients_stay_gone keeps servers mirrors before more f calls early late d split client session given number refused other k took same =
    let gone : Gone (client_in session) (server_after servers mirrors before).sessions =
    refused_gone (server_after servers mirrors before).sessions session number refused.0 refused.1 (has_later keeps servers mirrors before early late d split calls client session given) refused.2 in
    let now : Gone (client_in session) (server_after servers mirrors (before ++ more)).sessions =
    subst (λ (x : MdsValue). Gone (client_in session) x.sessions) (sym (run_behind (new_mds servers mirrors) before more))
    (run_keeps (Gone (client_in session)) (gone_keeps (client_in session)) (server_after servers mirrors before) more gone) in
    let bound : Gone (client_in session) (after_binding (server_after servers mirrors (before ++ more)).sessions other took.node) =
    gone_keeps (client_in session) (server_after servers mirrors (before ++ more)).sessions (Bind other took.node) now in
    none_takes (after_binding (server_after servers mirrors (before ++ more)).sessions other took.node) other k took.call (client_in session) bound.1 same took.effect
