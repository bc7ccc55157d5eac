-- What a reply to a client's request on a slot stands on, in every run of a metadata server to which clients of this cluster call (RFC 8881,
-- sections 2.10.6, 18.43, 18.44 and 18.46).
use Rattle.std.specs.Prelude.{◌≡◌, ℕ, ◌+◌, ◌<◌, ◌≤◌, ◌^◌, ◌⊎◌, true, false, List, [], ◌∷◌, ◌++◌, length, map, Option, Some, None, slice_get}
use Rattle.std.specs.List.{AllByRecursion}
use Rattle.rpc_record.specs.Replies.{RpcReply}
use Rattle.cluster_model.specs.declared.ids.NodeId.{NodeId}
use Rattle.cluster_model.specs.declared.ids.NodeId.TheVariants as node_of
use Rattle.cluster_model.specs.declared.ids.FileId.{FileId}
use Rattle.cluster_model.specs.declared.ids.Mirror.{Mirror}
use Rattle.cluster_model.specs.declared.phase.EndCause.{EndCause}
use Rattle.cluster_model.specs.declared.phase.EndCause.TheVariants as ends_as
use Rattle.cluster_model.specs.declared.entry.Entry.{Entry}
use Rattle.cluster_model.specs.declared.entry.Entry.TheVariants as entry
use Rattle.cluster_model.specs.Members.{IsOneOf}
use Rattle.nfs4_types.specs.declared.ids.SessionId.{SessionId}
use Rattle.nfs4_types.specs.declared.stateid.Stateid.{Stateid}
use Rattle.nfs4_types.specs.declared.status.Stat4.{Stat4}
use Rattle.nfs4_types.specs.declared.status.Stat4.TheVariants as stat
use Rattle.nfs4_types.specs.Stateids.{layout_stateid_of, three_words}
use Rattle.nfs4_session.specs.Clients.{SessionState, client_in, session_of}
use Rattle.table_slots.specs.TableSlots.{is_of_session}
use Rattle.device_addr.specs.Universal.{AddressValue}
use Rattle.same_layout.specs.SameLayout.{unseen}
use Rattle.compound_reply.specs.Replied.{success_reply}
use Rattle.client_file_calls.specs.declared.grant.LayoutGrant.{LayoutGrant}
use Rattle.client_file_calls.specs.declared.open.OpenFile.{OpenFile}
use Rattle.client_file_calls.specs.declared.layout_return.FailedMirror.{FailedMirror}
use Rattle.client_mds_calls.specs.declared.reply.SlotReport.{SlotReport}
use Rattle.client_mds_calls.specs.declared.reply.SlotReport.TheVariants.{Taken, Uncached, Delayed, Unknown}
use Rattle.client_mds_calls.specs.FittingCalls.{reports_server, FitsRequest}
use Rattle.client_mds_calls.specs.MdsCalls.{SlotCallValue, MdsCallValue, OnSlot, ask_on_slot}
use Rattle.client_mds_calls.specs.MdsCalls as slot
use Rattle.client_mds_calls.specs.MdsReplies.{MdsAnswerValue, Granted, Returned, Refused, MdsReplyValue, reply_of_ask}
use Rattle.mds_receive.specs.MdsReceive.{IsCompound, incoming_of}
use Rattle.nfs4_compound.specs.Compounds.{CompoundValue}
use Rattle.mds_rule.specs.MdsStates.{ServedFile, Replies, MdsValue, served}
use Rattle.mds_rule.specs.ServedFiles.{has_fresh}
use Rattle.mds_walk.specs.MdsRuns.{MdsInput, Hears, MdsEvent, after_event}
use Rattle.mds_replies.specs.ClientCalls.{IsCallIn, IsCallFrom, server_after, IsEventOf}
use Rattle.nfs4_session.specs.Slots.{SlotState, Cached, Refuses, is_in_progress}
use Rattle.nfs4_session.specs.Requests.{request_answer}
use Rattle.nfs4_session.specs.Bindings.{after_binding}
use Rattle.mds_replies.specs.SlotReplies.{request_of, TookEffect, count_taken}
use Rattle.mds_replies.specs.LayoutReplies.{HasPeriod}
use Rattle.mds_replies.specs.ClientIds.{GivesSession}

-- ---- calls that fit their forms

-- each compound that comes is a call of a client whose numbers fit their forms
abbrev pub HearsFitCall : MdsInput → Type 0
HearsFitCall (Hears node bytes) =
    (xid : ℕ) (v : CompoundValue) → incoming_of bytes ≡ IsCompound xid v → (name : List ℕ) × (call : MdsCallValue) × IsCallIn v name call × FitsRequest call
HearsFitCall input = Unit {0}

abbrev pub AreFitCalls : List MdsEvent → Type 0
AreFitCalls events = AllByRecursion (λ (e : MdsEvent). HearsFitCall e.input) events

-- ---- room for numbers

abbrev pub FitsMirrorId : Mirror → Type 0
FitsMirrorId m = (m.id.server < 2 ^ 64) × (m.id.fileid < 2 ^ 64)

-- uids and names are left, and the numbers of files fit their forms
pub record HasSpareNumbers (m : MdsValue) : Type 0 where
  pub fresh : has_fresh m.fresh ≡ true
  pub creds : (file : FileId) (s : ServedFile) → served m file ≡ Some s → s.file.layout.cred.0 < 2 ^ 32
  pub live : (file : FileId) (s : ServedFile) → served m file ≡ Some s → AllByRecursion FitsMirrorId s.file.layout.live
  pub few : (file : FileId) (s : ServedFile) → served m file ≡ Some s → length s.file.layout.live ≤ 4

-- at each moment of a run; and no slot has taken 2^32 - 1 requests
pub record StaysRoomy (servers : List AddressValue) (mirrors : ℕ) (events : List MdsEvent) : Type 0 where
  pub room : (before after : List MdsEvent) → events ≡ before ++ after → HasSpareNumbers (server_after servers mirrors before)
  pub counts : (before after : List MdsEvent) → events ≡ before ++ after → (session : SessionId) → count_taken servers mirrors before session + 1 < 4294967296

-- ---- a session's slot

-- the first slot of a session, where it stands
abbrev pub first_slot : Option SessionState → Option SlotState
first_slot None = None
first_slot (Some session) = slice_get session.slots 0

-- of the session that has this id
abbrev pub slot_of : MdsValue → SessionId → Option SlotState
slot_of m session = first_slot (session_of m.sessions.clients session)

-- The slot keeps the reply to its last request (RFC 8881, section 2.10.6.1.3), which gives this answer to what was asked.
pub record KeepsAnswer (m : MdsValue) (session : SessionId) (call : SlotCallValue) (answer : MdsAnswerValue) : Type 0 where
  pub slot : SlotState
  pub there : slot_of m session ≡ Some slot
  pub bytes : List ℕ
  pub kept : slot.reply ≡ Cached bytes
  pub says : (reply_of_ask (ask_on_slot call) (success_reply 0 bytes)).answer ≡ answer

-- ---- what a request that took effect came to

-- the layout of a file, as its client reads it
abbrev pub layout_read : FileId → ServedFile → LayoutGrant
layout_read file s = record { stateid = layout_stateid_of file.0 s.file.layout.cred.0 s.seqid; uid = s.file.layout.cred; mirrors = map unseen s.file.layout.live }

-- the event enters that the file was granted to a client under this uid
abbrev pub IsGrantedNow : List Entry → FileId → ℕ → Type 0
IsGrantedNow entries file uid = (n : ℕ) × IsOneOf (entry.Granted file (record { 0 = uid }) (node_of.Client n)) entries

-- Behind the event the client has the file's layout, which is what was granted (RFC 8881, section 18.43); and it was granted in this event, or
-- the client had it before.
pub record GrantsSo (servers : List AddressValue) (mirrors : ℕ) (early : List MdsEvent) (f : MdsEvent) (client : ℕ) (file : FileId) (grant : LayoutGrant) : Type 0 where
  pub file_is : ServedFile
  pub there : served (server_after servers mirrors (early ++ f ∷ [])) file ≡ Some file_is
  pub is : grant ≡ layout_read file file_is
  pub has : HasPeriod (server_after servers mirrors (early ++ f ∷ [])) file client grant.uid.0
  pub whence : IsGrantedNow (after_event f (server_after servers mirrors early)).entries file grant.uid.0 ⊎ HasPeriod (server_after servers mirrors early) file client grant.uid.0

-- The client had the file's layout under the uid of the stateid, and the event enters that the period ended (RFC 8881, section 18.44): as
-- returned, where a live mirror is not reported.
pub record ReturnsSo (servers : List AddressValue) (mirrors : ℕ) (early : List MdsEvent) (f : MdsEvent) (client : ℕ) (file : FileId) (stateid : Stateid) (failed : List FailedMirror) : Type 0 where
  pub uid : ℕ
  pub names : stateid.other ≡ three_words file.0 uid 0
  pub had : HasPeriod (server_after servers mirrors early) file client uid
  pub cause : EndCause
  pub ended : IsOneOf (entry.Ended file (record { 0 = uid }) cause) (after_event f (server_after servers mirrors early)).entries
  pub clean : (m : Mirror) → IsOneOf m had.file_is.file.layout.live → reports_server failed m.id.server ≡ false → cause ≡ ends_as.Returned

-- the stateid names no layout that the client has of the file
abbrev pub NamesNone : MdsValue → ℕ → FileId → Stateid → Type 0
NamesNone m client file stateid = (uid : ℕ) → stateid.other ≡ three_words file.0 uid 0 → HasPeriod m file client uid → ⊥

-- BAD_STATEID (RFC 8881, section 15.1.5.2)
abbrev pub bad_stateid : ℕ
bad_stateid = 10025

-- what is granted is so granted
abbrev pub GrantsIfGranted : List AddressValue → ℕ → List MdsEvent → MdsEvent → ℕ → FileId → MdsAnswerValue → Type 0
GrantsIfGranted servers mirrors early f client file (Granted grant) = GrantsSo servers mirrors early f client file grant
GrantsIfGranted servers mirrors early f client file answer = Unit {0}

-- An answer to a request that took effect in an event behind these: to a LAYOUTGET the one that the slot keeps behind the event, so it has no other.
abbrev pub MeansSo : List AddressValue → ℕ → List MdsEvent → MdsEvent → SessionId → SlotCallValue → MdsAnswerValue → Type 0
MeansSo servers mirrors early f session (slot.LayoutGet file) answer =
    KeepsAnswer (server_after servers mirrors (early ++ f ∷ [])) session (slot.LayoutGet file) answer × GrantsIfGranted servers mirrors early f (client_in session) file.file answer
MeansSo servers mirrors early f session (slot.LayoutReturn file stateid failed) Returned = ReturnsSo servers mirrors early f (client_in session) file stateid failed
MeansSo servers mirrors early f session (slot.LayoutReturn file stateid failed) (Refused status) =
    status ≡ bad_stateid → NamesNone (server_after servers mirrors early) (client_in session) file stateid
MeansSo servers mirrors early f session call answer = Unit {0}

-- ---- the request that a reply answers

-- A request of this number of the session took effect among these events. The table of clients reads an id by its client and its number.
pub record TookEffectAmong (servers : List AddressValue) (mirrors : ℕ) (events : List MdsEvent) (session : SessionId) (number : ℕ) : Type 0 where
  pub early : List MdsEvent
  pub f : MdsEvent
  pub late : List MdsEvent
  pub split : IsEventOf events early f late
  pub asked : SessionId
  pub its : is_of_session session asked ≡ true
  pub took : TookEffect servers mirrors early f asked number

-- where that request was this call, the answer means what it says
abbrev pub MeansTaken : (servers : List AddressValue) (mirrors : ℕ) (events : List MdsEvent) (session : SessionId) (number : ℕ) → SlotCallValue → MdsAnswerValue → TookEffectAmong servers mirrors events session number → Type 0
MeansTaken servers mirrors events session number call answer t =
    (name : List ℕ) → IsCallFrom t.f t.took.node t.took.xid name (OnSlot session number call) → MeansSo servers mirrors t.early t.f session call answer

-- a CREATE_SESSION among these events was answered with the session
pub record WasSessionGiven (servers : List AddressValue) (mirrors : ℕ) (events : List MdsEvent) (session : SessionId) : Type 0 where
  pub early : List MdsEvent
  pub f : MdsEvent
  pub late : List MdsEvent
  pub split : IsEventOf events early f late
  pub client : ℕ
  pub gives : GivesSession servers mirrors early f client session

-- the request is refused with this status, where it came
abbrev pub IsRefusedWith : List AddressValue → ℕ → List MdsEvent → SessionId → ℕ → Stat4 → Type 0
IsRefusedWith servers mirrors before session number status =
    (node : NodeId) × (call : SlotCallValue) × (request_answer (after_binding (server_after servers mirrors before).sessions session node) (request_of session number call) ≡ Refuses status)

-- why a request is unknown to its slot: the session is gone (BADSESSION), or the number is out of order (SEQ_MISORDERED)
pub data IsUnknown (servers : List AddressValue) (mirrors : ℕ) (before : List MdsEvent) (session : SessionId) (number : ℕ) (answer : MdsAnswerValue) : Type 0 where
  HasNoSession : answer ≡ Refused 10052 → IsRefusedWith servers mirrors before session number stat.BadSession → IsUnknown servers mirrors before session number answer
  IsOutOfOrder : answer ≡ Refused 10063 → IsRefusedWith servers mirrors before session number stat.SeqMisordered → IsUnknown servers mirrors before session number answer

-- that request was no LAYOUTGET
abbrev pub WasNoGet : (servers : List AddressValue) (mirrors : ℕ) (events : List MdsEvent) (session : SessionId) (number : ℕ) → TookEffectAmong servers mirrors events session number → Type 0
WasNoGet servers mirrors events session number t =
    (name : List ℕ) (file : OpenFile) → IsCallFrom t.f t.took.node t.took.xid name (OnSlot session number (slot.LayoutGet file)) → ⊥

-- ---- a slot that is free

-- The slot has gone on to another number, or its request of this number is not in progress: it is free for the next one (RFC 8881, section
-- 2.10.6.1).
abbrev pub IsFreeAt : MdsValue → SessionId → ℕ → Type 0
IsFreeAt m session number = (slot : SlotState) → slot_of m session ≡ Some slot → slot.last ≡ number → is_in_progress slot.reply ≡ false

-- What the slot is told by the reply, in the last of these events, to a request that came behind `before`: the request of its number took effect;
-- it did, was no LAYOUTGET, and its reply was not kept; it is refused for now; or it is unknown. A request that took effect is not in progress any more behind the
-- events.
abbrev pub StandsByReport : List AddressValue → ℕ → List MdsEvent → List MdsEvent → SessionId → ℕ → SlotCallValue → MdsAnswerValue → SlotReport → Type 0
StandsByReport servers mirrors events before session number call answer Taken =
    (t : TookEffectAmong servers mirrors events session number) × MeansTaken servers mirrors events session number call answer t × IsFreeAt (server_after servers mirrors events) session number
StandsByReport servers mirrors events before session number call answer Uncached =
    (t : TookEffectAmong servers mirrors events session number) × WasNoGet servers mirrors events session number t × IsFreeAt (server_after servers mirrors events) session number
StandsByReport servers mirrors events before session number call answer Delayed = Unit {0}
StandsByReport servers mirrors events before session number call answer Unknown = IsUnknown servers mirrors before session number answer

abbrev pub StandsFor : List AddressValue → ℕ → List MdsEvent → List MdsEvent → SessionId → ℕ → SlotCallValue → MdsReplyValue → Type 0
StandsFor servers mirrors events before session number call says = StandsByReport servers mirrors events before session number call says.answer says.slot

-- the reply answers a call that came from its node under its number among these events, and stands on this
pub record AnswersRequest (servers : List AddressValue) (mirrors : ℕ) (events : List MdsEvent) (node : NodeId) (reply : RpcReply) : Type 0 where
  pub early : List MdsEvent
  pub f : MdsEvent
  pub late : List MdsEvent
  pub split : IsEventOf events early f late
  pub name : List ℕ
  pub call : MdsCallValue
  pub came : IsCallFrom f node reply.xid name call
  pub stands : (other : List ℕ) (session : SessionId) (number : ℕ) (c : SlotCallValue) → IsCallFrom f node reply.xid other (OnSlot session number c) → FitsRequest (OnSlot session number c)
      → StandsFor servers mirrors events early session number c (reply_of_ask (ask_on_slot c) reply)

-- each reply that is sent does so
abbrev pub EachReplyStands : Type 0
EachReplyStands =
    (servers : List AddressValue) (mirrors : ℕ) (events before after : List MdsEvent) (e : MdsEvent) → AreFitCalls events → StaysRoomy servers mirrors events → IsEventOf events before e after
    → (node : NodeId) (reply : RpcReply) → IsOneOf (Replies node reply) (after_event e (server_after servers mirrors before)).sends
    → AnswersRequest servers mirrors (before ++ e ∷ []) node reply
