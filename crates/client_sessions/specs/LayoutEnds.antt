-- How a client's layouts end: it asks for another only where the one before is no more (RFC 8881, sections 12.5.5, 18.43 and 18.44;
-- RFC 8435, sections 2.2 and 5); and what is entered under one.
use Rattle.std.specs.Prelude.{◌≡◌, ℕ, ◌⊎◌, ◌<◌, false, List, [], ◌∷◌, ◌++◌, length, Option, Some, slice_get}
use Rattle.std.specs.List.{AllByRecursion}
use Rattle.nfs4_types.specs.declared.ids.SessionId.{SessionId}
use Rattle.cluster_model.specs.declared.ids.FileId.{FileId}
use Rattle.cluster_model.specs.declared.ids.Mirror.{Mirror}
use Rattle.cluster_model.specs.declared.ids.MirrorId.{MirrorId}
use Rattle.cluster_model.specs.declared.entry.Entry.{Entry}
use Rattle.cluster_model.specs.declared.entry.Entry.TheVariants.{Sent, Rogue, Told}
use Rattle.mirror_writer.specs.declared.mirror.TheConstants.{ACCES, STALE}
use Rattle.cluster_model.specs.declared.ids.NodeId.TheVariants.{Server}
use Rattle.cluster_model.specs.declared.ds_call.Shown.{Shown}
use Rattle.cluster_model.specs.DsCalls.{DsCallValue, Write, Commit, Failed}
use Rattle.client_file_calls.specs.declared.open.OpenFile.{OpenFile}
use Rattle.client_file_calls.specs.declared.grant.LayoutGrant.{LayoutGrant}
use Rattle.client_file_calls.specs.declared.layout_return.FailedMirror.{FailedMirror}
use Rattle.client_mds_calls.specs.declared.reply.SlotReport.TheVariants.{Delayed}
use Rattle.client_mds_calls.specs.FittingCalls.{reports_server}
use Rattle.client_mds_calls.specs.MdsCalls.{MdsCallValue, SlotCallValue, OnSlot}
use Rattle.client_mds_calls.specs.MdsCalls as slot
use Rattle.client_mds_calls.specs.MdsReplies.{MdsReplyValue, Granted, Returned, Refused}
use Rattle.client_state.specs.declared.request.UserRequest.{UserRequest}
use Rattle.client_state.specs.declared.request.UserRequest.TheVariants.{Write as ToWrite}
use Rattle.client_state.specs.ClientStates.{fresh_client}
use Rattle.client_state.specs.ClientSends.{CallsServer, CallsMds}
use Rattle.client_laws.specs.ClientHistory.{ClientInput, Requested, Recorded, LeftProtocol, HistoryItem, Hears, Enters, Sends, InOrder, HasItem, Each, client_history}
use Rattle.client_laws.specs.ClientRunLaws.{WasGranted, IsDsReply, CoveredAtEach, CoveredByReturn, WasTakenUnder}
use Rattle.client_sessions.specs.HeardReplies.{IsHeard, IsNoCompound}
use Rattle.client_sessions.specs.ClientSessions.{bad_session}

-- ---- a layout that has ended

-- BAD_STATEID (RFC 8881, section 15.1.5.2)
abbrev pub bad_stateid : ℕ
bad_stateid = 10025

-- the statuses by which a data server says that a layout is no more: NFS3ERR_ACCES and NFS3ERR_STALE (RFC 1813, section 2.6; RFC 8435, section 2.2)
abbrev pub IsFenceStatus : ℕ → Type 0
IsFenceStatus status = (status ≡ ACCES) ⊎ (status ≡ STALE)

-- a WRITE to the mirror's file, or a COMMIT of it
abbrev pub IsCallTo : MirrorId → DsCallValue → Type 0
IsCallTo id (Write fileid at synced bytes) = fileid ≡ id.fileid
IsCallTo id (Commit fileid) = fileid ≡ id.fileid
IsCallTo id call = ⊥

-- a call to one of the layout's mirrors, under its uid, was refused as one whose layout is no more
pub record WasFenced (behind : List HistoryItem) (grant : LayoutGrant) : Type 0 where
  pub place : ℕ
  pub mirror : Mirror
  pub there : slice_get grant.mirrors place ≡ Some mirror
  pub xid : ℕ
  pub name : List ℕ
  pub call : DsCallValue
  pub to_mirror : IsCallTo mirror.id call
  pub bytes : List ℕ
  pub now : ℕ
  pub status : ℕ
  pub shown : Option Shown
  pub says : IsDsReply bytes xid call (Failed status shown)
  pub fence : IsFenceStatus status
  pub order : InOrder (Sends (CallsServer mirror.id.server xid name grant.uid.0 call) ∷ Hears (Recorded (Server mirror.id.server) bytes now) ∷ []) behind

-- a LAYOUTRETURN of it was answered: accepted, or the stateid is unknown; a request on the session on which it was granted was answered that the
-- session is gone; or a call to one of its mirrors was refused so
pub data HasLayoutEnded (behind : List HistoryItem) (session : SessionId) (file : FileId) (grant : LayoutGrant) : Type 0 where
  ByReturn : (xid : ℕ) (name : List ℕ) (sequence : ℕ) (failed : List FailedMirror) (says : MdsReplyValue) (more : List HistoryItem)
      → IsHeard behind xid name (OnSlot session sequence (slot.LayoutReturn file grant.stateid failed)) says more → (says.answer ≡ Returned) ⊎ (says.answer ≡ Refused bad_stateid) → HasLayoutEnded behind session file grant
  BySession : (xid : ℕ) (name : List ℕ) (sequence : ℕ) (call : SlotCallValue) (says : MdsReplyValue) (more : List HistoryItem)
      → IsHeard behind xid name (OnSlot session sequence call) says more → says.answer ≡ Refused bad_session → HasLayoutEnded behind session file grant
  ByFence : WasFenced behind grant → HasLayoutEnded behind session file grant

-- A reply to this LAYOUTGET was heard that is final, with no compound between: it granted nothing, or what it granted has ended since.
pub record IsAskSettled (past : List HistoryItem) (xid : ℕ) (name : List ℕ) (session : SessionId) (sequence : ℕ) (file : OpenFile) : Type 0 where
  pub says : MdsReplyValue
  pub behind : List HistoryItem
  pub heard : IsHeard past xid name (OnSlot session sequence (slot.LayoutGet file)) says behind
  pub quiet : AllByRecursion IsNoCompound heard.until
  pub final : says.slot ≡ Delayed → ⊥
  pub ended : (grant : LayoutGrant) → says.answer ≡ Granted grant → HasLayoutEnded behind session file.file grant

abbrev pub AsksSettled : List HistoryItem → SlotCallValue → Type 0
AsksSettled past (slot.LayoutGet file) =
    (xid : ℕ) (name : List ℕ) (session : SessionId) (sequence : ℕ) (other : OpenFile) → HasItem past (Sends (CallsMds xid name (OnSlot session sequence (slot.LayoutGet other)))) → IsAskSettled past xid name session sequence other
AsksSettled past call = Unit {0}

abbrev pub AsksOnSlot : List HistoryItem → MdsCallValue → Type 0
AsksOnSlot past (OnSlot session sequence call) = AsksSettled past call
AsksOnSlot past call = Unit {0}

-- a LAYOUTGET goes out only where each one before is settled
abbrev pub AsksForOne : List HistoryItem → HistoryItem → Type 0
AsksForOne past (Sends (CallsMds xid name call)) = AsksOnSlot past call
AsksForOne past item = Unit {0}

-- ---- a layout that is given back

-- it was granted for this file, on this session
pub record IsGrantOf (past : List HistoryItem) (session : SessionId) (file : FileId) (grant : LayoutGrant) : Type 0 where
  pub granted : WasGranted past grant
  pub its_session : granted.session ≡ session
  pub its_file : granted.file.file ≡ file

abbrev pub ReturnsAsGranted : List HistoryItem → SlotCallValue → SessionId → Type 0
ReturnsAsGranted past (slot.LayoutReturn file stateid failed) session = (grant : LayoutGrant) × (grant.stateid ≡ stateid) × IsGrantOf past session file grant
ReturnsAsGranted past call session = Unit {0}

abbrev pub ReturnsGrantOnSlot : List HistoryItem → MdsCallValue → Type 0
ReturnsGrantOnSlot past (OnSlot session sequence call) = ReturnsAsGranted past call session
ReturnsGrantOnSlot past call = Unit {0}

-- a LAYOUTRETURN is of a layout of that file, on the session on which it was granted
abbrev pub ReturnsOwn : List HistoryItem → HistoryItem → Type 0
ReturnsOwn past (Sends (CallsMds xid name call)) = ReturnsGrantOnSlot past call
ReturnsOwn past item = Unit {0}

-- ---- what is entered under a layout

-- a layout was granted under this uid
pub record HasGrant (past : List HistoryItem) (uid : ℕ) : Type 0 where
  pub grant : LayoutGrant
  pub granted : WasGranted past grant
  pub its_uid : grant.uid.0 ≡ uid

-- some mirror of the layout is not reported
pub record HasUnreported (grant : LayoutGrant) (failed : List FailedMirror) : Type 0 where
  pub place : ℕ
  pub mirror : Mirror
  pub there : slice_get grant.mirrors place ≡ Some mirror
  pub kept : reports_server failed mirror.id.server ≡ false

-- what is told is covered at each mirror; or at each that its return does not report, which is some
pub record IsToldOf (past : List HistoryItem) (uid at : ℕ) (data_of : List ℕ) : Type 0 where
  pub grant : LayoutGrant
  pub granted : WasGranted past grant
  pub its_uid : grant.uid.0 ≡ uid
  pub taken : WasTakenUnder past uid at data_of
  pub covered : CoveredAtEach past grant at data_of ⊎ ((r : CoveredByReturn past grant at data_of) × HasUnreported grant r.failed)

-- it did not leave the protocol
abbrev pub HasNotLeft : HistoryItem → Type 0
HasNotLeft (Hears LeftProtocol) = ⊥
HasNotLeft item = Unit {0}

abbrev pub EntersUnder : List HistoryItem → Entry → Type 0
EntersUnder past (Sent file uid at bytes) = HasGrant past uid.0 × AllByRecursion HasNotLeft past
EntersUnder past (Rogue file uid at bytes) = HasGrant past uid.0
EntersUnder past (Told file uid at bytes) = IsToldOf past uid.0 at bytes
EntersUnder past entry = Unit {0}

-- a write is taken, strays and is told under a layout that was granted; none is taken once the client left the protocol
abbrev pub EntersGranted : List HistoryItem → HistoryItem → Type 0
EntersGranted past (Enters entry) = EntersUnder past entry
EntersGranted past item = Unit {0}

-- a call to a data server goes out under the uid of a layout that was granted
abbrev pub CallsGranted : List HistoryItem → HistoryItem → Type 0
CallsGranted past (Sends (CallsServer server xid name uid call)) = HasGrant past uid
CallsGranted past item = Unit {0}

-- ---- a write that strays

-- it goes out at once, under its uid
pub record GoesAtOnce (behind : List HistoryItem) (uid at : ℕ) (bytes : List ℕ) : Type 0 where
  pub id : MirrorId
  pub xid : ℕ
  pub name : List ℕ
  pub more : List HistoryItem
  pub is : behind ≡ Sends (CallsServer id.server xid name uid (Write id.fileid at false bytes)) ∷ more

abbrev pub StraysGoOut : List HistoryItem → Type 0
StraysGoOut history = (past behind : List HistoryItem) (file : FileId) (uid at : ℕ) (bytes : List ℕ) → history ≡ past ++ Enters (Rogue file (record { 0 = uid }) at bytes) ∷ behind → GoesAtOnce behind uid at bytes

-- ---- no write is empty

-- where users ask for no empty one
abbrev pub IsRequestOfBytes : UserRequest → Type 0
IsRequestOfBytes (ToWrite at bytes) = 0 < length bytes
IsRequestOfBytes request = Unit {0}

abbrev pub IsInputOfBytes : ClientInput → Type 0
IsInputOfBytes (Requested request) = IsRequestOfBytes request
IsInputOfBytes input = Unit {0}

abbrev pub TakesBytes : List HistoryItem → HistoryItem → Type 0
TakesBytes past (Enters (Sent file uid at bytes)) = 0 < length bytes
TakesBytes past item = Unit {0}

-- ---- of every run

abbrev pub EachRunStraysAtOnce : Type 0
EachRunStraysAtOnce = (number verifier first_xid : ℕ) (inputs : List ClientInput) → StraysGoOut (client_history (fresh_client number verifier first_xid) inputs)

abbrev pub EachRunTakesBytes : Type 0
EachRunTakesBytes =
    (number verifier first_xid : ℕ) (inputs : List ClientInput) → AllByRecursion IsInputOfBytes inputs → Each TakesBytes [] (client_history (fresh_client number verifier first_xid) inputs)
