-- What a client has stands in its history.
use Rattle.rpc_record.specs.Replies.{RpcReply}
use Rattle.client_laws.specs.RecallLaws.{RecalledSince, WasRecalled}
use Rattle.std.proofs.Common.{◌≡◌, ◌≢◌, ℕ, ◌+◌, ◌<◌, ◌≤◌, Bool, true, false, List, [], ◌∷◌, ◌++◌, length, Option, Some, None, ◌⊎◌}
use Rattle.std.specs.Prelude.{slice_get, map, ◌||◌, ◌==◌, if◌then◌else◌}
use Rattle.nfs4_types.specs.declared.ids.SessionId.{SessionId}
use Rattle.client_file_calls.specs.declared.open.OpenFile.{OpenFile}
use Rattle.nfs4_types.specs.declared.stateid.Stateid.{Stateid}
use Rattle.cluster_model.specs.declared.ids.FileId.{FileId}
use Rattle.cluster_model.specs.declared.ids.Mirror.{Mirror}
use Rattle.cluster_model.specs.declared.ids.MirrorId.{MirrorId}
use Rattle.cluster_model.specs.declared.answer.UserAnswer.{UserAnswer}
use Rattle.cluster_model.specs.declared.answer.UserAnswer.TheVariants as answer
use Rattle.cluster_model.specs.declared.answer.FailCause.TheVariants as failing
use Rattle.cluster_model.specs.declared.entry.Entry.{Entry}
use Rattle.cluster_model.specs.declared.entry.Entry.TheVariants.{Sent, Answer}
use Rattle.cluster_model.specs.DsCalls.{Write, Commit}
use Rattle.mirror_writer.specs.declared.call.TakenWrite.{TakenWrite}
use Rattle.mirror_writer.specs.declared.call.WriteAnswer.{WriteAnswer}
use Rattle.mirror_writer.specs.declared.call.WriterCall.{WriterCall}
use Rattle.mirror_writer.specs.declared.call.WriterCall.TheVariants.{NoCall, OutWrite, OutCommit}
use Rattle.mirror_writer.specs.Writers.{WriterMirror, WriterValue, is_committed, covered_flag}
use Rattle.client_file_calls.specs.declared.grant.LayoutGrant.{LayoutGrant}
use Rattle.client_file_calls.specs.declared.layout_return.FailedMirror.{FailedMirror}
use Rattle.client_mds_calls.specs.declared.ask.MdsAsk.{MdsAsk}
use Rattle.client_mds_calls.specs.declared.ask.MdsAsk.TheVariants as ask
use Rattle.client_mds_calls.specs.FittingCalls.{reports_server}
use Rattle.client_mds_calls.specs.MdsCalls.{MdsCallValue, OnSlot, SlotCallValue}
use Rattle.client_mds_calls.specs.MdsCalls as slot
use Rattle.client_state.specs.declared.stage.LayoutStage.TheVariants.{Returning}
use Rattle.client_state.specs.declared.layout.Layout.{Layout}
use Rattle.client_state.specs.declared.asked.Asked.{Asked}
use Rattle.client_state.specs.ClientStates.{ClientValue}
use Rattle.client_state.specs.ClientSends.{ClientSend, CallsServer, CallsMds, RepeatsToServer, RepeatsToMds, RepliesToMds}
use Rattle.client_state.specs.ClientQueue.{is_writing}
use Rattle.client_calls.specs.ClientCalls.{failed_mirrors}
use Rattle.client_calls.specs.ClientLaws.{new_number}
use Rattle.client_laws.specs.ClientHistory.{HistoryItem, Hears, Enters, Sends, HasItem}
use Rattle.client_laws.specs.ClientRunLaws.{IsReplied, WasGranted, WasWritten, WasCovered, WasTakenUnder}

abbrev pub Every : {A : Type 0} → (A → Type 0) → List A → Type 0
Every P [] = Unit {0}
Every P (x ∷ xs) = P x × Every P xs

-- ---- a mirror of the writer

-- a taken write was written there with a verifier, and then came these
pub record TakenWritten (h : List HistoryItem) (cred : ℕ) (taken : List TakenWrite) (id : MirrorId) (behind : List HistoryItem) (a : WriteAnswer) : Type 0 where
  pub write : TakenWrite
  pub there : slice_get taken a.write ≡ Some write
  pub written : WasWritten h id cred write.at write.bytes a.verifier behind

pub record TakenCovered (h : List HistoryItem) (cred : ℕ) (taken : List TakenWrite) (id : MirrorId) (n : ℕ) : Type 0 where
  pub write : TakenWrite
  pub there : slice_get taken n ≡ Some write
  pub covered : WasCovered h id cred write.at write.bytes []

-- the call that is outstanding was sent
pub record WriteOut (h : List HistoryItem) (name : List ℕ) (cred : ℕ) (taken : List TakenWrite) (id : MirrorId) (xid n : ℕ) : Type 0 where
  pub write : TakenWrite
  pub there : slice_get taken n ≡ Some write
  pub sent : HasItem h (Sends (CallsServer id.server xid name cred (Write id.fileid write.at false write.bytes)))

abbrev pub CommitItem : List ℕ → ℕ → MirrorId → ℕ → HistoryItem
CommitItem name cred id xid = Sends (CallsServer id.server xid name cred (Commit id.fileid))

abbrev pub CallStands : List HistoryItem → List ℕ → ℕ → List TakenWrite → MirrorId → List WriteAnswer → WriterCall → Type 0
CallStands h name cred taken id answered NoCall = Unit {0}
CallStands h name cred taken id answered (OutWrite xid n timeouts) = WriteOut h name cred taken id xid n
CallStands h name cred taken id answered (OutCommit xid timeouts) =
    HasItem h (CommitItem name cred id xid) × Every (TakenWritten h cred taken id (CommitItem name cred id xid ∷ [])) answered

-- how often a write stands in a list
abbrev pub times : ℕ → List ℕ → ℕ
times n [] = 0
times n (k ∷ ks) = (if k == n then 1 else 0) + times n ks

abbrev pub times_answered : ℕ → List WriteAnswer → ℕ
times_answered n [] = 0
times_answered n (a ∷ answered) = (if a.write == n then 1 else 0) + times_answered n answered

abbrev pub times_out : ℕ → WriterCall → ℕ
times_out n NoCall = 0
times_out n (OutWrite xid k timeouts) = if k == n then 1 else 0
times_out n (OutCommit xid timeouts) = 0

abbrev pub one_if : Bool → ℕ
one_if b = if b then 1 else 0

abbrev pub is_commit_out : WriterCall → Bool
is_commit_out NoCall = false
is_commit_out (OutWrite xid n timeouts) = false
is_commit_out (OutCommit xid timeouts) = true

abbrev pub is_idle_call : WriterCall → Bool
is_idle_call NoCall = true
is_idle_call (OutWrite xid n timeouts) = false
is_idle_call (OutCommit xid timeouts) = false

abbrev pub times_at : ℕ → WriterMirror → ℕ
times_at n m = (times n m.queue + times_out n m.call) + (times_answered n m.answered + one_if (covered_flag (slice_get m.covered n)))

-- A taken write waits, is out, is answered or is covered, and one of these alone; a COMMIT is out where one is not covered; nothing is out
-- at a mirror that failed.
pub record CountsOnce (m : WriterMirror) : Type 0 where
  pub once : (n : ℕ) → times_at n m ≤ 1
  pub taken : (n : ℕ) → length m.covered ≤ n → times_at n m ≡ 0
  pub wanted : is_commit_out m.call ≡ true → is_committed m ≡ false
  pub idle : m.has_failed ≡ true → is_idle_call m.call ≡ true

pub record MirrorStands (h : List HistoryItem) (name : List ℕ) (cred : ℕ) (taken : List TakenWrite) (reports : ℕ → Bool) (m : WriterMirror) : Type 0 where
  pub size : length m.covered ≡ length taken
  pub call : CallStands h name cred taken m.id m.answered m.call
  pub answered : Every (TakenWritten h cred taken m.id []) m.answered
  pub covered : (n : ℕ) → covered_flag (slice_get m.covered n) ≡ true → TakenCovered h cred taken m.id n
  pub reported : m.has_failed ≡ true → reports m.id.server ≡ true
  pub counts : CountsOnce m

abbrev pub AtEach : List WriterMirror → (WriterMirror → Type 0) → Type 0
AtEach mirrors P = (place : ℕ) (m : WriterMirror) → slice_get mirrors place ≡ Some m → P m

abbrev pub WriterStands : List HistoryItem → List ℕ → (ℕ → Bool) → WriterValue → Type 0
WriterStands h name reports w = AtEach w.mirrors (MirrorStands h name w.cred w.taken reports)

-- it has failed, or each taken write is covered there
abbrev pub is_settled_there : WriterMirror → Bool
is_settled_there m = m.has_failed || is_committed m

abbrev pub IsSettled : List WriterMirror → Type 0
IsSettled mirrors = AtEach mirrors (λ m. is_settled_there m ≡ true)

-- ---- the layout

abbrev pub reported_of : Layout → List FailedMirror
reported_of l = failed_mirrors l.mirrors l.statuses

abbrev pub writer_ids : WriterValue → List MirrorId
writer_ids w = map (λ (m : WriterMirror). m.id) w.mirrors

abbrev pub mirror_ids : List Mirror → List MirrorId
mirror_ids mirrors = map (λ (m : Mirror). m.id) mirrors

-- a write is one of those that were taken
abbrev pub IsTaken : List TakenWrite → ℕ → List ℕ → Type 0
IsTaken taken at bytes = (n : ℕ) × (slice_get taken n ≡ Some (record { at = at; bytes = bytes }))

-- what was taken since the grant is what the writer has
abbrev pub TakenSince : List HistoryItem → Layout → Type 0
TakenSince since l = (file : FileId) (at : ℕ) (bytes : List ℕ) → HasItem since (Enters (Sent file (record { 0 = l.writer.cred }) at bytes)) → IsTaken l.writer.taken at bytes

pub record LayoutStands (h : List HistoryItem) (name : List ℕ) (reports : ℕ → Bool) (l : Layout) : Type 0 where
  pub grant : LayoutGrant
  pub granted : WasGranted h grant
  pub stateid : l.stateid ≡ grant.stateid
  pub mirrors : l.mirrors ≡ grant.mirrors
  pub uid : l.writer.cred ≡ grant.uid.0
  pub taken : TakenSince granted.since l
  pub ids : writer_ids l.writer ≡ mirror_ids l.mirrors
  pub few : length l.mirrors ≤ 4
  pub statuses : length l.statuses ≡ 4
  pub writer : WriterStands h name reports l.writer
  pub entered : (n : ℕ) (t : TakenWrite) → slice_get l.writer.taken n ≡ Some t → WasTakenUnder h l.writer.cred t.at t.bytes
  pub was_taken : (client : ℕ) → HasItem granted.since (Enters (Answer client (answer.Failed failing.Revoked))) → ⊥
  pub was_given : (xid : ℕ) (caller : List ℕ) (session : SessionId) (sequence : ℕ) (file : FileId) (failed : List FailedMirror)
      → HasItem granted.since (Sends (CallsMds xid caller (OnSlot session sequence (slot.LayoutReturn file grant.stateid failed)))) → l.was_sent ≡ true
  pub settled : l.was_sent ≡ true → IsSettled l.writer.mirrors
  pub not_writing : l.was_sent ≡ true → is_writing l.stage ≡ false
  pub returning : l.stage ≡ Returning → l.was_sent ≡ true
  pub recalled : RecalledSince granted → is_writing l.stage ≡ false

-- of what there is
abbrev pub IfThere : {A : Type 0} → Option A → (A → Type 0) → Type 0
IfThere None P = Unit {0}
IfThere (Some a) P = P a

-- ---- the compound that is outstanding

-- A LAYOUTRETURN is out: each taken write was covered at each mirror that it does not report.
pub record ReturnOut (h : List HistoryItem) (item : HistoryItem) (stateid : Stateid) (failed : List FailedMirror) (l : Layout) : Type 0 where
  pub its_stateid : stateid ≡ l.stateid
  pub stage : l.stage ≡ Returning
  pub covered : (n : ℕ) (w : TakenWrite) → slice_get l.writer.taken n ≡ Some w → (place : ℕ) (m : Mirror) → slice_get l.mirrors place ≡ Some m → reports_server failed m.id.server ≡ false
      → WasCovered h m.id l.writer.cred w.at w.bytes (item ∷ [])

-- it takes no write
abbrev pub MildEntry : Entry → Type 0
MildEntry (Sent file cred at bytes) = ⊥
MildEntry entry = Unit {0}

-- nor is the layout taken away by it
abbrev pub IdleAnswer : UserAnswer → Type 0
IdleAnswer (answer.Failed failing.Revoked) = ⊥
IdleAnswer a = Unit {0}

abbrev pub IdleEntry : Entry → Type 0
IdleEntry (Sent file cred at bytes) = ⊥
IdleEntry (Answer client a) = IdleAnswer a
IdleEntry entry = Unit {0}

abbrev pub QuietSlot : SlotCallValue → Type 0
QuietSlot (slot.LayoutReturn file stateid failed) = ⊥
QuietSlot call = Unit {0}

abbrev pub QuietCall : MdsCallValue → Type 0
QuietCall (OnSlot session sequence call) = QuietSlot call
QuietCall call = Unit {0}

-- it gives no layout back
abbrev pub QuietSend : ClientSend → Type 0
QuietSend (CallsMds xid name call) = QuietCall call
QuietSend send = Unit {0}

-- the same of an item
abbrev pub QuietItem : HistoryItem → Type 0
QuietItem (Hears input) = Unit {0}
QuietItem (Enters entry) = IdleEntry entry
QuietItem (Sends send) = QuietSend send

-- it takes no number
abbrev pub NumberlessItem : HistoryItem → Type 0
NumberlessItem (Hears input) = Unit {0}
NumberlessItem (Enters entry) = Unit {0}
NumberlessItem (Sends send) = new_number send ≡ None

-- no write is taken
abbrev pub MildItem : HistoryItem → Type 0
MildItem (Hears input) = Unit {0}
MildItem (Enters entry) = MildEntry entry
MildItem (Sends send) = Unit {0}

-- it answers no callback
abbrev pub MuteSend : ClientSend → Type 0
MuteSend (RepliesToMds reply) = ⊥
MuteSend send = Unit {0}

abbrev pub MuteItem : HistoryItem → Type 0
MuteItem (Hears input) = Unit {0}
MuteItem (Enters entry) = Unit {0}
MuteItem (Sends send) = MuteSend send

-- the same record again
abbrev pub IdleSend : ClientSend → Type 0
IdleSend (RepeatsToServer server xid name uid call) = Unit {0}
IdleSend (RepeatsToMds xid message) = Unit {0}
IdleSend send = ⊥

-- none of these
abbrev pub IdleItem : HistoryItem → Type 0
IdleItem (Hears input) = Unit {0}
IdleItem (Enters entry) = IdleEntry entry
IdleItem (Sends send) = IdleSend send

-- A LAYOUTGET, where there is no layout; no write was taken since.
pub record GetsLayout (h : List HistoryItem) (item : HistoryItem) (layout : Option Layout) (call : MdsCallValue) : Type 0 where
  pub session : SessionId
  pub sequence : ℕ
  pub file : OpenFile
  pub is : call ≡ OnSlot session sequence (slot.LayoutGet file)
  pub no_layout : layout ≡ None
  pub before : List HistoryItem
  pub since : List HistoryItem
  pub split : h ≡ before ++ item ∷ since
  pub quiet : Every QuietItem since
  pub unrecalled : (items behind : List HistoryItem) (reply : RpcReply) (state : List ℕ) → since ≡ items ++ Sends (RepliesToMds reply) ∷ behind → WasRecalled (before ++ item ∷ items) reply state → ⊥

-- a LAYOUTRETURN of the layout
pub record GivesLayout (h : List HistoryItem) (item : HistoryItem) (layout : Option Layout) (call : MdsCallValue) : Type 0 where
  pub session : SessionId
  pub sequence : ℕ
  pub file : FileId
  pub stateid : Stateid
  pub failed : List FailedMirror
  pub is : call ≡ OnSlot session sequence (slot.LayoutReturn file stateid failed)
  pub out : IfThere layout (ReturnOut h item stateid failed)

abbrev pub AskFits : List HistoryItem → HistoryItem → Option Layout → MdsCallValue → MdsAsk → Type 0
AskFits h item layout call ask.LayoutGet = GetsLayout h item layout call
AskFits h item layout call ask.LayoutReturn = GivesLayout h item layout call
AskFits h item layout call kind = Unit {0}

pub record AskOut (h : List HistoryItem) (name : List ℕ) (layout : Option Layout) (a : Asked) : Type 0 where
  pub call : MdsCallValue
  pub sent : HasItem h (Sends (CallsMds a.xid name call))
  pub fits : AskFits h (Sends (CallsMds a.xid name call)) layout call a.ask

-- it is out under this number
abbrev pub IsOut : Option Asked → ℕ → Type 0
IsOut None xid = ⊥
IsOut (Some a) xid = a.xid ≡ xid

-- ---- the client

-- each number was used once, and those used are below the next, where one is left
pub record NumbersStand (h : List HistoryItem) (next : ℕ) : Type 0 where
  pub below : (s : ClientSend) (xid : ℕ) → HasItem h (Sends s) → new_number s ≡ Some xid → next ≢ 0 → xid < next
  pub once : (s t : ClientSend) (xid : ℕ) → HasItem h (Sends s) → HasItem h (Sends t) → new_number s ≡ Some xid → new_number t ≡ Some xid → s ≡ t

-- a write that was taken was so since the grant of a layout under its uid
pub record TakenUnder (h : List HistoryItem) (cred : ℕ) (file : FileId) (at : ℕ) (bytes : List ℕ) : Type 0 where
  pub grant : LayoutGrant
  pub granted : WasGranted h grant
  pub uid : grant.uid.0 ≡ cred
  pub since : HasItem granted.since (Enters (Sent file (record { 0 = cred }) at bytes))

pub record StandsOf (h : List HistoryItem) (name : List ℕ) (next : ℕ) (layout : Option Layout) (asked : Option Asked) (again : Option MdsAsk) : Type 0 where
  pub numbers : NumbersStand h next
  pub replied : (xid : ℕ) (caller : List ℕ) (call : MdsCallValue) → HasItem h (Sends (CallsMds xid caller call)) → IsOut asked xid ⊎ IsReplied h xid caller call
  pub asked_out : IfThere asked (AskOut h name layout)
  pub alone : IfThere asked (λ a. again ≡ None)
  pub layout_stands : IfThere layout (λ l. LayoutStands h name (reports_server (reported_of l)) l)
  pub taken_under : (file : FileId) (cred at : ℕ) (bytes : List ℕ) → HasItem h (Enters (Sent file (record { 0 = cred }) at bytes)) → TakenUnder h cred file at bytes
  pub gets_again : again ≡ Some ask.LayoutGet → layout ≡ None
  pub returns_again : again ≡ Some ask.LayoutReturn → IfThere layout (λ l. l.stage ≡ Returning)

abbrev pub Stands : List HistoryItem → ClientValue → Type 0
Stands h c = StandsOf h c.name c.next_xid c.layout c.asked c.again
