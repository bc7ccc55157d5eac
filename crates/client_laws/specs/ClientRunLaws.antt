-- What holds of a client in every run of it, told by what was sent and what was heard (RFC 8881, RFC 8435, RFC 1813).
use Rattle.std.specs.Prelude.{◌≡◌, ℕ, false, List, [], ◌∷◌, ◌++◌, length, Option, Some, Ok, slice_get, ◌⊎◌}
use Rattle.rpc_record.specs.Replies.{RpcReply, reply_at}
use Rattle.nfs4_types.specs.declared.ids.SessionId.{SessionId}
use Rattle.nfs4_types.specs.declared.stateid.Stateid.{Stateid}
use Rattle.cluster_model.specs.declared.ids.NodeId.TheVariants.{Mds, Server}
use Rattle.cluster_model.specs.declared.ids.FileId.{FileId}
use Rattle.cluster_model.specs.declared.ids.Mirror.{Mirror}
use Rattle.cluster_model.specs.declared.ids.MirrorId.{MirrorId}
use Rattle.cluster_model.specs.declared.ds_call.Shown.{Shown}
use Rattle.cluster_model.specs.declared.answer.UserAnswer.TheVariants as answer
use Rattle.cluster_model.specs.declared.answer.FailCause.TheVariants as failing
use Rattle.cluster_model.specs.declared.entry.Entry.{Entry}
use Rattle.cluster_model.specs.declared.entry.Entry.TheVariants.{Sent, Told, Rogue, Answer}
use Rattle.cluster_model.specs.DsCalls.{DsCallValue, Write, Commit, DsReplyValue, Written, Committed}
use Rattle.ds_calls.specs.GivenReplies.{reply_of_call}
use Rattle.client_file_calls.specs.declared.open.OpenFile.{OpenFile}
use Rattle.mirror_writer.specs.Writers.{touches}
use Rattle.client_file_calls.specs.declared.grant.LayoutGrant.{LayoutGrant}
use Rattle.client_file_calls.specs.declared.layout_return.FailedMirror.{FailedMirror}
use Rattle.client_mds_calls.specs.declared.ask.MdsAsk.{MdsAsk}
use Rattle.client_mds_calls.specs.declared.ask.MdsAsk.TheVariants as ask
use Rattle.client_mds_calls.specs.FittingCalls.{reports_server}
use Rattle.client_mds_calls.specs.MdsCalls.{MdsCallValue, OnSlot, SlotCallValue}
use Rattle.client_mds_calls.specs.MdsCalls as slot
use Rattle.client_mds_calls.specs.MdsReplies.{MdsAnswerValue, Granted, Returned, reply_of_ask}
use Rattle.client_state.specs.ClientStates.{fresh_client}
use Rattle.client_state.specs.ClientSends.{CallsServer, CallsMds, RepeatsToServer}
use Rattle.client_laws.specs.ClientHistory.{ClientInput, Recorded, HistoryItem, Hears, Enters, Sends, InOrder, HasItem, Each, client_history}

-- ---- one compound at a time

-- a reply under its number was heard behind this compound (RFC 5531, section 9)
pub record IsReplied (past : List HistoryItem) (xid : ℕ) (name : List ℕ) (call : MdsCallValue) : Type 0 where
  pub bytes : List ℕ
  pub now : ℕ
  pub reply : RpcReply
  pub reply_is : reply_at bytes ≡ Ok reply
  pub number : reply.xid ≡ xid
  pub order : InOrder (Sends (CallsMds xid name call) ∷ Hears (Recorded Mds bytes now) ∷ []) past

abbrev pub AreReplied : List HistoryItem → Type 0
AreReplied past = (xid : ℕ) (name : List ℕ) (call : MdsCallValue) → HasItem past (Sends (CallsMds xid name call)) → IsReplied past xid name call

-- a new compound goes out only where each one before was replied to
abbrev pub SendsAlone : List HistoryItem → HistoryItem → Type 0
SendsAlone past (Sends (CallsMds xid name call)) = AreReplied past
SendsAlone past item = Unit {0}

-- ---- a layout is granted

-- what a reply of the metadata server to a compound of this number, which asked this, comes to
pub record IsMdsReply (bytes : List ℕ) (xid : ℕ) (kind : MdsAsk) (says : MdsAnswerValue) : Type 0 where
  pub reply : RpcReply
  pub reply_is : reply_at bytes ≡ Ok reply
  pub number : reply.xid ≡ xid
  pub says_so : (reply_of_ask kind reply).answer ≡ says

-- A LAYOUTGET was sent, and a reply to it that was heard later grants this layout (RFC 8881, section 18.43); what came since it was sent.
pub record WasGranted (past : List HistoryItem) (grant : LayoutGrant) : Type 0 where
  pub before : List HistoryItem
  pub since : List HistoryItem
  pub xid : ℕ
  pub name : List ℕ
  pub session : SessionId
  pub sequence : ℕ
  pub file : OpenFile
  pub bytes : List ℕ
  pub now : ℕ
  pub split : past ≡ before ++ Sends (CallsMds xid name (OnSlot session sequence (slot.LayoutGet file))) ∷ since
  pub heard : HasItem since (Hears (Recorded Mds bytes now))
  pub says : IsMdsReply bytes xid ask.LayoutGet (Granted grant)

-- ---- a write is covered at a mirror

-- what a reply of a data server to this call under this number comes to
pub record IsDsReply (bytes : List ℕ) (xid : ℕ) (call : DsCallValue) (says : DsReplyValue) : Type 0 where
  pub reply : RpcReply
  pub reply_is : reply_at bytes ≡ Ok reply
  pub number : reply.xid ≡ xid
  pub says_so : reply_of_call call reply ≡ says

-- A WRITE of these bytes at this place was sent there under this uid, and answered OK with this verifier (RFC 1813, section 3.3.7); and
-- then came these.
pub record WasWritten (past : List HistoryItem) (id : MirrorId) (uid at : ℕ) (data_of : List ℕ) (verifier : ℕ) (behind : List HistoryItem) : Type 0 where
  pub xid : ℕ
  pub name : List ℕ
  pub bytes : List ℕ
  pub now : ℕ
  pub shown : Option Shown
  pub says : IsDsReply bytes xid (Write id.fileid at false data_of) (Written shown verifier)
  pub order : InOrder (Sends (CallsServer id.server xid name uid (Write id.fileid at false data_of)) ∷ Hears (Recorded (Server id.server) bytes now) ∷ behind) past

-- Then a COMMIT of the file was sent there, and answered OK with the same verifier (RFC 1813, section 3.3.21); and then came these.
pub record WasCovered (past : List HistoryItem) (id : MirrorId) (uid at : ℕ) (data_of : List ℕ) (behind : List HistoryItem) : Type 0 where
  pub verifier : ℕ
  pub xid : ℕ
  pub name : List ℕ
  pub bytes : List ℕ
  pub now : ℕ
  pub shown : Option Shown
  pub says : IsDsReply bytes xid (Commit id.fileid) (Committed shown verifier)
  pub written : WasWritten past id uid at data_of verifier (Sends (CallsServer id.server xid name uid (Commit id.fileid)) ∷ Hears (Recorded (Server id.server) bytes now) ∷ behind)

-- ---- a write is told

-- at each mirror of a layout
abbrev pub CoveredAtEach : List HistoryItem → LayoutGrant → ℕ → List ℕ → Type 0
CoveredAtEach past grant at data_of = (place : ℕ) (m : Mirror) → slice_get grant.mirrors place ≡ Some m → WasCovered past m.id grant.uid.0 at data_of []

-- at each mirror of a layout that these do not report; and then came these
abbrev pub CoveredUnreported : List HistoryItem → LayoutGrant → List FailedMirror → ℕ → List ℕ → List HistoryItem → Type 0
CoveredUnreported past grant failed at data_of behind =
    (place : ℕ) (m : Mirror) → slice_get grant.mirrors place ≡ Some m → reports_server failed m.id.server ≡ false → WasCovered past m.id grant.uid.0 at data_of behind

-- A LAYOUTRETURN of the layout's stateid was sent, and accepted (RFC 8881, section 18.44); and the write was covered at each mirror that it
-- does not report when it was sent.
pub record CoveredByReturn (past : List HistoryItem) (grant : LayoutGrant) (at : ℕ) (data_of : List ℕ) : Type 0 where
  pub xid : ℕ
  pub name : List ℕ
  pub session : SessionId
  pub sequence : ℕ
  pub file : FileId
  pub failed : List FailedMirror
  pub bytes : List ℕ
  pub now : ℕ
  pub says : IsMdsReply bytes xid ask.LayoutReturn Returned
  pub order : InOrder (Sends (CallsMds xid name (OnSlot session sequence (slot.LayoutReturn file grant.stateid failed))) ∷ Hears (Recorded Mds bytes now) ∷ []) past
  pub covered : CoveredUnreported past grant failed at data_of (Sends (CallsMds xid name (OnSlot session sequence (slot.LayoutReturn file grant.stateid failed))) ∷ Hears (Recorded Mds bytes now) ∷ [])

-- a write was taken under this uid
pub record WasTakenUnder (past : List HistoryItem) (uid at : ℕ) (bytes : List ℕ) : Type 0 where
  pub file : FileId
  pub there : HasItem past (Enters (Sent file (record { 0 = uid }) at bytes))

-- The write was taken under this uid, and a layout under it was granted before; and the write is covered at each of its mirrors, or those
-- where it is not were reported with its return.
pub record MayBeTold (past : List HistoryItem) (uid at : ℕ) (data_of : List ℕ) : Type 0 where
  pub grant : LayoutGrant
  pub granted : WasGranted past grant
  pub its_uid : grant.uid.0 ≡ uid
  pub taken : WasTakenUnder past uid at data_of
  pub covered : CoveredAtEach past grant at data_of ⊎ CoveredByReturn past grant at data_of

abbrev pub TellsEntry : List HistoryItem → Entry → Type 0
TellsEntry past (Told file uid at bytes) = MayBeTold past uid.0 at bytes
TellsEntry past entry = Unit {0}

-- a write is told only where that is so (RFC 8435, section 5)
abbrev pub TellsCommitted : List HistoryItem → HistoryItem → Type 0
TellsCommitted past (Enters entry) = TellsEntry past entry
TellsCommitted past item = Unit {0}

-- ---- a layout is given back

-- The layout of this stateid was granted before, and the user was not answered since that it was taken away; and each write that was taken
-- under its uid since is covered at each of its mirrors that these do not report.
pub record MayReturn (past : List HistoryItem) (stateid : Stateid) (failed : List FailedMirror) : Type 0 where
  pub grant : LayoutGrant
  pub granted : WasGranted past grant
  pub its_stateid : grant.stateid ≡ stateid
  pub held : (client : ℕ) → HasItem granted.since (Enters (Answer client (answer.Failed failing.Revoked))) → ⊥
  pub covered : (file : FileId) (at : ℕ) (bytes : List ℕ) → HasItem granted.since (Enters (Sent file grant.uid at bytes)) → CoveredUnreported past grant failed at bytes []

abbrev pub ReturnsOnSlot : List HistoryItem → SlotCallValue → Type 0
ReturnsOnSlot past (slot.LayoutReturn file stateid failed) = MayReturn past stateid failed
ReturnsOnSlot past call = Unit {0}

abbrev pub ReturnsCall : List HistoryItem → MdsCallValue → Type 0
ReturnsCall past (OnSlot session sequence call) = ReturnsOnSlot past call
ReturnsCall past call = Unit {0}

-- a LAYOUTRETURN goes out only where that is so (RFC 8435, section 6)
abbrev pub ReturnsCommitted : List HistoryItem → HistoryItem → Type 0
ReturnsCommitted past (Sends (CallsMds xid name call)) = ReturnsCall past call
ReturnsCommitted past item = Unit {0}

-- ---- a layout that is no more

-- Two grants that are heard under one uid are one, and to one LAYOUTGET: a layout carries a uid of its own (RFC 8435, section 2.2). A reply
-- that is heard twice counts once.
abbrev pub AreGrantedOnce : List HistoryItem → Type 0
AreGrantedOnce past = (g k : LayoutGrant) (i : WasGranted past g) (j : WasGranted past k) → g.uid.0 ≡ k.uid.0 → (g ≡ k) × (i.since ≡ j.since)

-- since it was asked for a LAYOUTRETURN of its stateid was sent, or the user was answered that the layout was taken away
pub data HasEnded (since : List HistoryItem) (grant : LayoutGrant) : Type 0 where
  WasReturned : (xid : ℕ) (name : List ℕ) (session : SessionId) (sequence : ℕ) (file : FileId) (failed : List FailedMirror)
      → HasItem since (Sends (CallsMds xid name (OnSlot session sequence (slot.LayoutReturn file grant.stateid failed)))) → HasEnded since grant
  WasRevoked : (client : ℕ) → HasItem since (Enters (Answer client (answer.Failed failing.Revoked))) → HasEnded since grant

-- no layout under this uid has ended
abbrev pub IsSilent : List HistoryItem → ℕ → Type 0
IsSilent past uid = AreGrantedOnce past → (grant : LayoutGrant) (i : WasGranted past grant) → grant.uid.0 ≡ uid → HasEnded i.since grant → ⊥

abbrev pub TakesSilent : List HistoryItem → Entry → Type 0
TakesSilent past (Sent file uid at bytes) = IsSilent past uid.0
TakesSilent past entry = Unit {0}

-- Once a layout has ended no call to a data server goes out under its uid, new or repeated, and no write is taken under it (RFC 8881,
-- section 12.5.5; RFC 8435, section 2.2).
abbrev pub KeepsSilent : List HistoryItem → HistoryItem → Type 0
KeepsSilent past (Enters entry) = TakesSilent past entry
KeepsSilent past (Sends (CallsServer server xid name uid call)) = IsSilent past uid
KeepsSilent past (Sends (RepeatsToServer server xid name uid call)) = IsSilent past uid
KeepsSilent past item = Unit {0}

-- ---- no place twice

-- no write that was taken under this uid before has one of its places
abbrev pub IsFree : List HistoryItem → ℕ → ℕ → List ℕ → Type 0
IsFree past uid at bytes =
    AreGrantedOnce past → (file : FileId) (place : ℕ) (taken : List ℕ) → HasItem past (Enters (Sent file (record { 0 = uid }) place taken))
    → touches at (length bytes) (record { at = place; bytes = taken }) ≡ false

abbrev pub TakesFree : List HistoryItem → Entry → Type 0
TakesFree past (Sent file uid at bytes) = IsFree past uid.0 at bytes
TakesFree past entry = Unit {0}

-- it was taken under this uid, or is the stray write of a client that left the protocol
pub data WasEntered (past : List HistoryItem) (uid at : ℕ) (bytes : List ℕ) : Type 0 where
  WasSent : WasTakenUnder past uid at bytes → WasEntered past uid at bytes
  WasStray : (file : FileId) → HasItem past (Enters (Rogue file (record { 0 = uid }) at bytes)) → WasEntered past uid at bytes

abbrev pub WritesEntered : List HistoryItem → ℕ → DsCallValue → Type 0
WritesEntered past uid (Write fileid at synced bytes) = WasEntered past uid at bytes
WritesEntered past uid call = Unit {0}

-- the writes that are taken under one uid have no place in common, and a WRITE that goes out under it is one of them
abbrev pub WritesApart : List HistoryItem → HistoryItem → Type 0
WritesApart past (Enters entry) = TakesFree past entry
WritesApart past (Sends (CallsServer server xid name uid call)) = WritesEntered past uid call
WritesApart past (Sends (RepeatsToServer server xid name uid call)) = WritesEntered past uid call
WritesApart past item = Unit {0}

-- ---- all of it

-- in the histories of all runs, whatever number, verifier and first number of a call the client begins with
abbrev pub InEachRun : (List HistoryItem → HistoryItem → Type 0) → Type 0
InEachRun P = (number verifier first_xid : ℕ) (inputs : List ClientInput) → Each P [] (client_history (fresh_client number verifier first_xid) inputs)
