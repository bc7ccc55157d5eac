-- A session that a CREATE_SESSION is answered with is of the client that asked for it.
use Rattle.std.proofs.Common.{◌≡◌, ◌<◌, ℕ, ◌+◌, true, false, List, [], ◌∷◌, None, refl, sym, ap, ◌∙◌, arith, Ok, Bool}
use Rattle.ff_xdr.specs.Form.{Value, Fits, spelling}
use Rattle.rpc_record.specs.Replies.{RpcReply}
use Rattle.cluster_model.specs.declared.ids.NodeId.{NodeId}
use Rattle.nfs4_types.specs.declared.ids.SessionId.{SessionId}
use Rattle.nfs4_types.specs.declared.status.Stat4.TheVariants as stat
use Rattle.nfs4_types.specs.Channels.{channel_attrs4}
use Rattle.nfs4_compound.specs.declared.stop.Stop.TheVariants as stop
use Rattle.nfs4_compound.specs.Compounds.{compound4_res}
use Rattle.compound_reply.specs.Replied.{success_reply}
use Rattle.nfs4_session.specs.Clients.{client_in, session_id, ClientState}
use Rattle.nfs4_session.specs.CreateSessions.{CreateSessionCase, IsDue, IsReplay, IsMisordered, HasNoRoom, IsStale, create_session_case, create_session_fault, after_creating, is_before_restart}
use Rattle.client_session_calls.specs.SessionOps as asked
use Rattle.client_mds_calls.specs.declared.ask.MdsAsk.TheVariants as ask
use Rattle.client_mds_calls.specs.MdsCalls.{CreateSession}
use Rattle.client_mds_calls.specs.MdsReplies.{MdsAnswerValue, MdsReplyValue, Session, reply_of_ask, compound_reply}
use Rattle.mds_rule.specs.MdsStates.{Replies, MdsValue, MdsStep, and_then}
use Rattle.mds_rule.specs.OpSteps.{refused_as}
use Rattle.mds_rule.specs.SessionOps.{create_result, with_create, confirms}
use Rattle.mds_rule.specs.Compounds.{op_then, runs}
use Rattle.mds_rule.specs.Goes.{calls_out}
use Rattle.mds_walk.specs.MdsRuns.{MdsEvent, after_event}
use Rattle.mds_replies.specs.ClientCalls.{server_after}
use Rattle.device_addr.specs.Universal.{AddressValue}
use Rattle.mds_replies.specs.ClientIds.{GivesSession, SessionsAreOwn}
use Rattle.mds_replies.proofs.SameTables.{gone_same}
use Rattle.mds_replies.proofs.OutCalls.{AreCalled, are_called, gone_called}
use Rattle.mds_replies.proofs.ReplySent.{run_of_call, event_is, reply_is, read_as}
use Rattle.mds_replies.proofs.ClientRecords.{IsTable}
use Rattle.mds_replies.proofs.ExchangeRuns.{no_tag}
use Rattle.mds_replies.proofs.OneOwner.{table_of_run}
use Rattle.mds_replies.proofs.CreateRuns.{session_client, session_length, IsKnown, Says, case_says, fits_long}
use Rattle.std.specs.Option.{option_map}
use Rattle.std.specs.List.{find}
use Rattle.cluster_model.specs.Members.{IsOneOf}

-- ---- what fits

channel_fits : Fits channel_attrs4 asked.fore_channel
channel_fits = (omega arith, (omega arith, (omega arith, (omega arith, (omega arith, (omega arith, (omega arith, tt)))))))

back_fits : Fits channel_attrs4 asked.back_channel
back_fits = (omega arith, (omega arith, (omega arith, (omega arith, (omega arith, (omega arith, (omega arith, tt)))))))

result_fits : (client number sequence : ℕ) → sequence < 4294967296 → Fits compound4_res (0, ([], create_result (session_id client number) sequence asked.fore_channel asked.back_channel ∷ []))
result_fits client number sequence less =
    (refl, ((omega arith, no_tag), (omega arith, ((session_length client number, (less, (omega arith, (channel_fits, back_fits)))), tt))))

stale_fits : Fits compound4_res (10022, ([], refused_as 43 stat.StaleClientId ∷ []))
stale_fits = (refl, ((omega arith, no_tag), (omega arith, (refl, tt))))

misordered_fits : Fits compound4_res (10063, ([], refused_as 43 stat.SeqMisordered ∷ []))
misordered_fits = (refl, ((omega arith, no_tag), (omega arith, (refl, tt))))

full_fits : Fits compound4_res (10006, ([], refused_as 43 stat.ServerFault ∷ []))
full_fits = (refl, ((omega arith, no_tag), (omega arith, (refl, tt))))

-- ---- what an answer says

abbrev session_in : MdsAnswerValue → SessionId
session_in (Session session) = session
session_in other = record { 0 = [] }

abbrev is_session : MdsAnswerValue → Bool
is_session (Session session) = true
is_session other = false

not_so : false ≡ true → ⊥
not_so is = absurd cc

-- The session was made in this event, and the table behind the call is that of the moment when calls go out; or it was made before, by the
-- call of this number.
pub data GaveSession (e : MdsEvent) (m : MdsValue) (node : NodeId) (client sequence : ℕ) (session : SessionId) : Type 0 where
  Makes : (c : ClientState) → create_session_case m.sessions client sequence ≡ IsDue c → IsKnown m.sessions client sequence → session ≡ session_id client (m.sessions.numbers + 1)
      → (behind : MdsValue) → behind.sessions ≡ after_creating m.sessions asked.callback_program node e.now (IsDue c) → (after_event e m).mds ≡ (calls_out [] behind).mds → GaveSession e m node client sequence session
  Replays : (number : ℕ) → create_session_case m.sessions client sequence ≡ IsReplay number → IsKnown m.sessions client sequence → session ≡ session_id client number → GaveSession e m node client sequence session

module _ (e : MdsEvent) (m : MdsValue) (node : NodeId) (xid : ℕ) (name : List ℕ) (client sequence : ℕ) (session : SessionId) (t : IsTable m.sessions) (called : AreCalled m.calls) (reply : RpcReply)
    (sent : IsOneOf (Replies node reply) (after_event e m).sends) (says : (reply_of_ask ask.CreateSession reply).answer ≡ Session session) where
  -- a refusal names no session
  refused : (v : Value compound4_res) → Fits compound4_res v → is_session (compound_reply ask.CreateSession (Ok v)).answer ≡ false → reply ≡ success_reply xid (spelling compound4_res v) → ⊥
  refused v fits off is =
      not_so (sym off ∙ sym (ap (λ (r : RpcReply). is_session (reply_of_ask ask.CreateSession r).answer) is ∙ ap (λ (r : MdsReplyValue). is_session r.answer) (read_as ask.CreateSession xid v fits)) ∙ ap is_session says)

  named : (number : ℕ) → IsKnown m.sessions client sequence → reply ≡ success_reply xid (spelling compound4_res (0, ([], create_result (session_id client number) sequence asked.fore_channel asked.back_channel ∷ [])))
      → session ≡ session_id client number
  named number k is =
      sym (ap session_in says)
      ∙ (ap (λ (r : RpcReply). session_in (reply_of_ask ask.CreateSession r).answer) is
      ∙ ap (λ (r : MdsReplyValue). session_in r.answer) (read_as ask.CreateSession xid (0, ([], create_result (session_id client number) sequence asked.fore_channel asked.back_channel ∷ [])) (result_fits client number sequence k.fits)))

  abbrev stepped : CreateSessionCase → MdsStep
  stepped case =
      op_then (with_create m (record { node = node; xid = xid; tag = []; ops = []; stop = stop.End None; results = []; slot = None; is_kept = false; current = None }) client sequence asked.fore_channel asked.back_channel asked.callback_program e.now case (create_session_fault case))
      (λ n d. runs e.now [] n d)

  by_case : (case : CreateSessionCase) → create_session_case m.sessions client sequence ≡ case → Says m.sessions client sequence case → after_event e m ≡ and_then (stepped case) (calls_out []) → GaveSession e m node client sequence session
  by_case (IsDue c) at k is =
      let gone = option_map (λ (other : ClientState). other.id) (find (is_before_restart c) m.sessions.clients) in
      let made : MdsValue = confirms client node (record m { sessions = after_creating m.sessions asked.callback_program node e.now (IsDue c) }) in
      Makes c at k (named (m.sessions.numbers + 1) k (reply_is e m (stepped (IsDue c)) node node reply _ is refl (gone_called gone made called) sent)) (stepped (IsDue c)).mds (gone_same gone made).sessions (ap (λ (s : MdsStep). s.mds) is)
  by_case (IsReplay number) at k is = Replays number at k (named number k (reply_is e m (stepped (IsReplay number)) node node reply _ is refl called sent))
  by_case IsMisordered at k is = absurd (refused (10063, ([], refused_as 43 stat.SeqMisordered ∷ [])) misordered_fits refl (reply_is e m (stepped IsMisordered) node node reply _ is refl called sent))
  by_case HasNoRoom at k is = absurd (refused (10006, ([], refused_as 43 stat.ServerFault ∷ [])) full_fits refl (reply_is e m (stepped HasNoRoom) node node reply _ is refl called sent))
  by_case IsStale at k is = absurd (refused (10022, ([], refused_as 43 stat.StaleClientId ∷ [])) stale_fits refl (reply_is e m (stepped IsStale) node node reply _ is refl called sent))

  pub session_is : after_event e m ≡ and_then (run_of_call e.now m node xid name (CreateSession client sequence)) (calls_out []) → GaveSession e m node client sequence session
  session_is came = by_case (create_session_case m.sessions client sequence) refl (case_says m.sessions t client sequence) came

pub gave_session : (servers : List AddressValue) (mirrors : ℕ) (before : List MdsEvent) (e : MdsEvent) (client : ℕ) (session : SessionId) (g : GivesSession servers mirrors before e client session)
    → GaveSession e (server_after servers mirrors before) g.node client g.sequence session
gave_session servers mirrors before e client session g =
    let m : MdsValue = server_after servers mirrors before in
    session_is e m g.node g.xid g.name client g.sequence session (table_of_run servers mirrors before) (are_called servers mirrors before) g.reply g.sent g.says (event_is e m g.node g.xid g.name (CreateSession client g.sequence) g.came)

-- ---- whose it is

pub its_client : (e : MdsEvent) (m : MdsValue) (node : NodeId) (client sequence : ℕ) (session : SessionId) → IsTable m.sessions → GaveSession e m node client sequence session → client_in session ≡ client
its_client e m node client sequence session t (Makes c at k is behind made mds) = ap client_in is ∙ session_client client (m.sessions.numbers + 1) (fits_long m.sessions t client sequence k)
its_client e m node client sequence session t (Replays number at k is) = ap client_in is ∙ session_client client number (fits_long m.sessions t client sequence k)

pub sessions_are_own : SessionsAreOwn
sessions_are_own servers mirrors events before after e client session calls at g =
    its_client e (server_after servers mirrors before) g.node client g.sequence session (table_of_run servers mirrors before) (gave_session servers mirrors before e client session g)
