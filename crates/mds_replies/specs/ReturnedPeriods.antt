-- Periods that end as returned, in every run of a metadata server to which clients of this cluster call (RFC 8881, section 18.44; RFC 8435,
-- section 9).
use Rattle.std.specs.Prelude.{◌≡◌, ℕ, false, List, [], ◌∷◌, ◌++◌, Some}
use Rattle.cluster_model.specs.declared.ids.NodeId.{NodeId}
use Rattle.cluster_model.specs.declared.ids.FileId.{FileId}
use Rattle.cluster_model.specs.declared.ids.Cred.{Cred}
use Rattle.cluster_model.specs.declared.ids.Mirror.{Mirror}
use Rattle.cluster_model.specs.declared.phase.EndCause.TheVariants.{Returned}
use Rattle.cluster_model.specs.declared.entry.Entry.TheVariants as entry
use Rattle.cluster_model.specs.Members.{IsOneOf}
use Rattle.nfs4_types.specs.declared.ids.SessionId.{SessionId}
use Rattle.nfs4_types.specs.declared.stateid.Stateid.{Stateid}
use Rattle.nfs4_types.specs.Stateids.{three_words}
use Rattle.nfs4_session.specs.Slots.{TakesEffect}
use Rattle.nfs4_session.specs.Requests.{request_answer}
use Rattle.nfs4_session.specs.Bindings.{after_binding}
use Rattle.nfs4_session.specs.Clients.{client_in}
use Rattle.device_addr.specs.Universal.{AddressValue}
use Rattle.client_file_calls.specs.declared.layout_return.FailedMirror.{FailedMirror}
use Rattle.client_mds_calls.specs.FittingCalls.{reports_server}
use Rattle.client_mds_calls.specs.MdsCalls.{OnSlot}
use Rattle.client_mds_calls.specs.MdsCalls as slot
use Rattle.mds_rule.specs.MdsStates.{ServedFile, served}
use Rattle.mds_walk.specs.MdsRuns.{MdsEvent, after_event}
use Rattle.mds_replies.specs.ClientCalls.{IsCallFrom, server_after, IsEventOf}
use Rattle.mds_replies.specs.SlotReplies.{request_of}
use Rattle.mds_replies.specs.LayoutReplies.{HasPeriod}
use Rattle.mds_replies.specs.AnsweredRequests.{AreFitCalls, StaysRoomy}

-- A LAYOUTRETURN of the client that had the period took effect in this event, and its stateid names the file and the uid; behind the event each
-- live mirror is one that it did not report.
pub record IsReturned (servers : List AddressValue) (mirrors : ℕ) (before : List MdsEvent) (e : MdsEvent) (file : FileId) (cred : Cred) : Type 0 where
  pub node : NodeId
  pub xid : ℕ
  pub name : List ℕ
  pub session : SessionId
  pub number : ℕ
  pub stateid : Stateid
  pub failed : List FailedMirror
  pub came : IsCallFrom e node xid name (OnSlot session number (slot.LayoutReturn file stateid failed))
  pub effect : request_answer (after_binding (server_after servers mirrors before).sessions session node) (request_of session number (slot.LayoutReturn file stateid failed)) ≡ TakesEffect
  pub names : stateid.other ≡ three_words file.0 cred.0 0
  pub had : HasPeriod (server_after servers mirrors before) file (client_in session) cred.0
  pub left : (s : ServedFile) (m : Mirror) → served (server_after servers mirrors (before ++ e ∷ [])) file ≡ Some s → IsOneOf m s.file.layout.live → reports_server failed m.id.server ≡ false

-- no period ends as returned in another way
abbrev pub ReturnsCome : Type 0
ReturnsCome =
    (servers : List AddressValue) (mirrors : ℕ) (events before after : List MdsEvent) (e : MdsEvent) → AreFitCalls events → StaysRoomy servers mirrors events → IsEventOf events before e after
    → (file : FileId) (cred : Cred) → IsOneOf (entry.Ended file cred Returned) (after_event e (server_after servers mirrors before)).entries
    → IsReturned servers mirrors before e file cred
