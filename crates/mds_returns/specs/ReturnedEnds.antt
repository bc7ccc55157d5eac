-- Periods that end as returned, at the place of the end, in every run of a metadata server to which clients of this cluster call (RFC 8881, section
-- 18.44; RFC 8435, section 9).
use Rattle.std.specs.Prelude.{◌≡◌, ℕ, false, List, ◌∷◌, ◌++◌, Some}
use Rattle.cluster_model.specs.declared.ids.NodeId.{NodeId}
use Rattle.cluster_model.specs.declared.ids.FileId.{FileId}
use Rattle.cluster_model.specs.declared.ids.MirrorId.{MirrorId}
use Rattle.cluster_model.specs.declared.phase.EndCause.TheVariants.{Returned}
use Rattle.cluster_model.specs.declared.entry.Entry.{Entry}
use Rattle.cluster_model.specs.declared.entry.Entry.TheVariants as entry
use Rattle.cluster_model.specs.Phases.{ids_of}
use Rattle.cluster_model.specs.Members.{IsOneOf}
use Rattle.cluster_laws.specs.FenceLaw.{live_in}
use Rattle.nfs4_types.specs.declared.ids.SessionId.{SessionId}
use Rattle.nfs4_types.specs.declared.stateid.Stateid.{Stateid}
use Rattle.nfs4_types.specs.Stateids.{three_words}
use Rattle.nfs4_session.specs.Clients.{client_in}
use Rattle.device_addr.specs.Universal.{AddressValue}
use Rattle.client_file_calls.specs.declared.layout_return.FailedMirror.{FailedMirror}
use Rattle.client_mds_calls.specs.FittingCalls.{reports_server, FitsRequest}
use Rattle.client_mds_calls.specs.MdsCalls.{OnSlot}
use Rattle.client_mds_calls.specs.MdsCalls as slot
use Rattle.mds_walk.specs.MdsRuns.{MdsEvent, after_event, mds_run}
use Rattle.mds_replies.specs.ClientCalls.{IsCallFrom, server_after, IsEventOf}
use Rattle.mds_replies.specs.LayoutReplies.{HasPeriod}
use Rattle.mds_replies.specs.AnsweredRequests.{AreFitCalls, StaysRoomy}

-- A LAYOUTRETURN of the client that had the period came in this event. Where it is this call, its stateid names the file and the uid, and each
-- mirror that is live at the end was so in the period, and is not reported.
pub record ReturnsAtEnd (servers : List AddressValue) (mirrors : ℕ) (before : List MdsEvent) (e : MdsEvent) (front : List Entry) (file : FileId) (uid : ℕ) : Type 0 where
  pub node : NodeId
  pub xid : ℕ
  pub name : List ℕ
  pub session : SessionId
  pub number : ℕ
  pub other : FileId
  pub stateid : Stateid
  pub failed : List FailedMirror
  pub came : IsCallFrom e node xid name (OnSlot session number (slot.LayoutReturn other stateid failed))
  pub had : HasPeriod (server_after servers mirrors before) file (client_in session) uid
  pub names : (owner : List ℕ) (own : FileId) (its : Stateid) (reports : List FailedMirror) → IsCallFrom e node xid owner (OnSlot session number (slot.LayoutReturn own its reports)) → FitsRequest (OnSlot session number (slot.LayoutReturn own its reports))
      → its.other ≡ three_words file.0 uid 0
  pub live : (ids : List MirrorId) → live_in ((mds_run servers mirrors before).entries ++ front) file ≡ Some ids → (id : MirrorId) → IsOneOf id ids → IsOneOf id (ids_of had.file_is.file.layout.live)
  pub kept : (owner : List ℕ) (own : FileId) (its : Stateid) (reports : List FailedMirror) → IsCallFrom e node xid owner (OnSlot session number (slot.LayoutReturn own its reports)) → FitsRequest (OnSlot session number (slot.LayoutReturn own its reports))
      → (ids : List MirrorId) → live_in ((mds_run servers mirrors before).entries ++ front) file ≡ Some ids → (id : MirrorId) → IsOneOf id ids → reports_server reports id.server ≡ false

abbrev pub ReturnsComeAtEnds : Type 0
ReturnsComeAtEnds =
    (servers : List AddressValue) (mirrors : ℕ) (events before after : List MdsEvent) (e : MdsEvent) → AreFitCalls events → StaysRoomy servers mirrors events → IsEventOf events before e after
    → (file : FileId) (uid : ℕ) (front back : List Entry) → (after_event e (server_after servers mirrors before)).entries ≡ front ++ entry.Ended file (record { 0 = uid }) Returned ∷ back
    → ReturnsAtEnd servers mirrors before e front file uid
