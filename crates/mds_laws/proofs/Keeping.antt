-- What any part of an event can do, and what is kept by all of it: a predicate of a metadata server, of what it has entered and of what it
-- has sent so far is kept by every part of every event where it is in each of these cases.
use Rattle.std.proofs.Common.{◌≡◌, ℕ, Bool, true, false, List, [], ◌∷◌, ◌++◌, Option, Some, None, refl, ◌∙◌, ◌⊎◌, filter, inr}
use Rattle.rpc_record.specs.Replies.{RpcReply, reply_bytes}
use Rattle.cluster_model.specs.declared.ids.NodeId.{NodeId}
use Rattle.cluster_model.specs.declared.ids.FileId.{FileId}
use Rattle.cluster_model.specs.declared.entry.Entry.{Entry}
use Rattle.cluster_model.specs.declared.entry.Entry.TheVariants as entry
use Rattle.cluster_model.specs.DsCalls.{DsCallValue, Create, SetAttr, Write, Commit, Read, DsReplyValue}
use Rattle.file_rule.specs.MdsFiles.{MdsFile}
use Rattle.cluster_model.specs.declared.ds_call.Shown.{Shown}
use Rattle.cluster_model.specs.Members.{IsOneOf}
use Rattle.file_rule.specs.FilePhases.{FileInput, AsksLayout, OwnWrite, Recall as ToRecall, Returns, Revokes, OwnEnds, Resilver, Answers as IsAnswer, TimesOut, Ticks, Sees, phase, CallOut, call_out, is_outstanding}
use Rattle.mirror_writer.specs.Writers.{WriterValue, WriterSends}
use Rattle.mirror_writer.specs.Writers as writer
use Rattle.nfs4_types.specs.declared.stateid.Stateid.{Stateid}
use Rattle.nfs4_session.specs.declared.back.BackCall.{BackCall}
use Rattle.nfs4_session.specs.TableLaw.{TableMove, ExchangeId, CreateSession, BeginRequest, FinishRequest, Bind, CallBack, DestroySession, DestroyClient, Expire}
use Rattle.recall.specs.declared.recall.Recall.{Recall}
use Rattle.open_state.specs.Opens.{OpensValue}
use Rattle.mds_rule.specs.MdsStates.{WaitingWrite, ServedFile, MdsSend, CallsServer, CallsBack, Replies, Answers, AwaitedCall, MdsValue, served, with_served}
use Rattle.mds_rule.specs.declared.waiter.Waiter.TheVariants.{ForFile, ForRead, ForWrite, ForRecall}
use Rattle.mds_rule.specs.FileOps.{with_new_file, may_make}
use Rattle.mds_rule.specs.Answers.{server_number, fileid_of, attributes_shown, own_answer}
use Rattle.mds_rule.specs.Goes.{xid_after, calls_as, calls_server, has_xids}
use Rattle.mds_laws.specs.MdsRunLaws.{IsUidOf}
use Rattle.mds_laws.proofs.OwnWriters.{StaysWriter, IsNewWriter, stays_itself}
use Rattle.mds_walk.proofs.Parts.{HeardOf, Becomes, Enters, Keeps, TakesInput, moved, IsNoTurn, IsPlainMove}

-- an entry that says nothing of how a file stands
abbrev pub is_quiet : Entry → Bool
is_quiet (entry.Free file live) = false
is_quiet (entry.Granted file cred holder) = false
is_quiet (entry.Ended file cred cause) = false
is_quiet e = true

-- an entry that only notes how a call or a request went
abbrev pub is_note : Entry → Bool
is_note (entry.TimedOut node xid) = true
is_note (entry.Failed id xid) = true
is_note (entry.Later file phase) = true
is_note (entry.ReadAnswer file status bytes) = true
is_note e = false

pub note_quiet : (e : Entry) → is_note e ≡ true → is_quiet e ≡ true
note_quiet (entry.Free file live) note = note
note_quiet (entry.Granted file cred holder) note = note
note_quiet (entry.Ended file cred cause) note = note
note_quiet e note = refl

-- an input that neither an answer nor a timeout brings
abbrev pub comes_by_itself : FileInput → Bool
comes_by_itself (AsksLayout client) = true
comes_by_itself (OwnWrite at bytes) = true
comes_by_itself ToRecall = true
comes_by_itself (Returns client claimed places) = true
comes_by_itself (Revokes cause) = true
comes_by_itself (OwnEnds causes at bytes) = true
comes_by_itself Resilver = true
comes_by_itself (IsAnswer xid reply) = false
comes_by_itself (TimesOut xid) = false
comes_by_itself Ticks = true
comes_by_itself (Sees id seen) = false

-- a call that reads, and one that an own write sends
abbrev pub is_read_call : DsCallValue → Bool
is_read_call (Create name owner) = false
is_read_call (SetAttr fileid owner guard) = false
is_read_call (Write fileid at synced bytes) = false
is_read_call (Commit fileid) = false
is_read_call (Read fileid at count) = true

abbrev pub is_write_call : DsCallValue → Bool
is_write_call (Create name owner) = false
is_write_call (SetAttr fileid owner guard) = false
is_write_call (Write fileid at synced bytes) = true
is_write_call (Commit fileid) = true
is_write_call (Read fileid at count) = false

-- a write that waits is a new one of the file, or the one that waited
abbrev pub IsWriterOf : WriterValue → Option WaitingWrite → Type 0
IsWriterOf writer None = ⊥
IsWriterOf writer (Some w) = StaysWriter w.writer writer

abbrev pub IsWriteOf : MdsFile → Option WaitingWrite → Option WaitingWrite → Type 0
IsWriteOf file old None = Unit {0}
IsWriteOf file old (Some w) = IsNewWriter file w.writer ⊎ IsWriterOf w.writer old

-- a write that goes on
pub old_write : (file : MdsFile) (o : Option WaitingWrite) → IsWriteOf file o o
old_write file None = tt
old_write file (Some w) = inr (stays_itself w.writer)

-- ---- the cases

-- a change of the table of clients that is no request
abbrev pub IsNoRequest : TableMove → Type 0
IsNoRequest (BeginRequest request now) = ⊥
IsNoRequest (ExchangeId verifier owner now) = Unit {0}
IsNoRequest (CreateSession client sequence program node now) = Unit {0}
IsNoRequest (FinishRequest pass reply) = Unit {0}
IsNoRequest (Bind session node) = Unit {0}
IsNoRequest (CallBack client) = Unit {0}
IsNoRequest (DestroySession session) = Unit {0}
IsNoRequest (DestroyClient client) = Unit {0}
IsNoRequest (Expire now) = Unit {0}

pub plain_no_request : (move : TableMove) → IsPlainMove move → IsNoRequest move
plain_no_request (BeginRequest request now) is = is
plain_no_request (DestroySession session) is = tt
plain_no_request (ExchangeId verifier owner now) is = tt
plain_no_request (CreateSession client sequence program node now) is = tt
plain_no_request (FinishRequest pass reply) is = tt
plain_no_request (Bind session node) is = tt
plain_no_request (CallBack client) is = tt
plain_no_request (DestroyClient client) is = tt
plain_no_request (Expire now) is = tt

pub no_turn_no_request : (move : TableMove) → IsNoTurn move → IsNoRequest move
no_turn_no_request (BeginRequest request now) none = none
no_turn_no_request (FinishRequest pass reply) none = tt
no_turn_no_request (DestroySession session) none = tt
no_turn_no_request (ExchangeId verifier owner now) none = tt
no_turn_no_request (CreateSession client sequence program node now) none = tt
no_turn_no_request (Bind session node) none = tt
no_turn_no_request (CallBack client) none = tt
no_turn_no_request (DestroyClient client) none = tt
no_turn_no_request (Expire now) none = tt

pub record Cases (I : MdsValue → List Entry → List MdsSend → Type 0) (Heard : HeardOf) : Type 0 where
  -- nothing of sessions, files, calls and numbers changes
  pub quiet : (m : MdsValue) (confirmed : List (ℕ × NodeId)) (opens : OpensValue) (reclaimed : List ℕ) (recalls : List Recall)
      → Becomes I m (record m { confirmed = confirmed; opens = opens; reclaimed = reclaimed; recalls = recalls })
  -- nothing but sessions does, by a call of their table
  pub tables : (m : MdsValue) (move : TableMove) → IsNoRequest move → Becomes I m (moved m move)
  pub replies : (m : MdsValue) (node : NodeId) (reply : RpcReply) (es : List Entry) (ss : List MdsSend) → I m es ss → I m es (ss ++ Replies node reply ∷ [])
  -- what is answered at once is answered by a reply
  pub answers : (m : MdsValue) (node : NodeId) (bytes : List ℕ) (reply : RpcReply) → bytes ≡ reply_bytes reply → (es : List Entry) (ss : List MdsSend) → I m es ss → I m es (ss ++ Answers node bytes ∷ [])
  pub notes : (m : MdsValue) (e : Entry) → is_note e ≡ true → Enters I m m (e ∷ [])
  -- a file is put back as it stands, with other things beside it
  pub puts : (m : MdsValue) (file : FileId) (s t : ServedFile) → served m file ≡ Some s → t.file ≡ s.file → IsWriteOf s.file s.write t.write
      → Becomes I m (with_served m file t)
  -- an input of the table of phases: one that comes by itself, a timeout, an answer to a call of the file that is outstanding, and what an
  -- answer to an own write shows
  pub inputs : (m : MdsValue) (file : FileId) (s : ServedFile) (input : FileInput) → comes_by_itself input ≡ true → TakesInput I m file s input
  pub timeouts : (m : MdsValue) (file : FileId) (s : ServedFile) (xid : ℕ) → TakesInput I m file s (TimesOut xid)
  pub hears : (m : MdsValue) (file : FileId) (s : ServedFile) (call : AwaitedCall) (server own uid : ℕ) (c : DsCallValue) (replies : DsCallValue → DsReplyValue) → Heard call replies
      → call.caller ≡ ForFile file → call.sent ≡ CallsServer server own uid c → is_outstanding s.file (server_number call.node) call.xid ≡ true
      → TakesInput I m file s (IsAnswer call.xid (own_answer c (replies c)))
  pub learns : (m : MdsValue) (file : FileId) (s : ServedFile) (call : AwaitedCall) (server own uid : ℕ) (c : DsCallValue) (replies : DsCallValue → DsReplyValue) (fileid : ℕ) (shown : Shown) → Heard call replies
      → call.caller ≡ ForWrite file → call.sent ≡ CallsServer server own uid c → fileid_of c (replies c) ≡ Some fileid → attributes_shown (replies c) ≡ Some shown
      → TakesInput I m file s (Sees (record { server = server; fileid = fileid }) shown.seen)
  -- a new file
  pub makes : (m : MdsValue) (name : List ℕ) → may_make m ≡ true → Becomes I m (with_new_file m name)
  -- a call goes out
  pub calls_file : (m : MdsValue) (file : FileId) (s : ServedFile) (c : CallOut) → served m file ≡ Some s → has_xids m ≡ true → call_out s.file m.next_xid ≡ Some c
      → Keeps I m (calls_server m file (record s { file = c.file }) (ForFile file) c.server c.uid c.call)
  pub calls_write : (m : MdsValue) (file : FileId) (s : ServedFile) (w : WaitingWrite) (c : WriterSends) → served m file ≡ Some s → has_xids m ≡ true → s.write ≡ Some w
      → writer.next_sent w.writer m.next_xid ≡ Some c → is_write_call c.call ≡ true
      → Keeps I m (calls_server m file (record s { write = Some (record w { writer = c.writer }) }) (ForWrite file) c.id.server w.writer.cred c.call)
  pub calls_read : (m : MdsValue) (file : FileId) (s t : ServedFile) (server : ℕ) (call : DsCallValue) → served m file ≡ Some s → has_xids m ≡ true → t.file ≡ s.file
      → IsWriteOf s.file s.write t.write → IsUidOf call 0 → is_read_call call ≡ true → Keeps I m (calls_server m file t (ForRead file) server 0 call)
  pub calls_back : (m : MdsValue) (node : NodeId) (back : BackCall) (file : FileId) (stateid : Stateid) → has_xids m ≡ true
      → Keeps I m (calls_as m node ForRecall (CallsBack m.next_xid back file stateid))
  -- a number is passed over
  pub skips : (m : MdsValue) → has_xids m ≡ true → Becomes I m (record m { next_xid = xid_after m.next_xid })
  -- calls that fail a test are forgotten; a call goes out again
  pub forgets : (m : MdsValue) (test : AwaitedCall → Bool) → Becomes I m (record m { calls = filter test m.calls })
  pub was : (m : MdsValue) (es : List Entry) (ss : List MdsSend) → I m es ss → (call : AwaitedCall) → IsOneOf call m.calls → IsOneOf call.sent ss
  pub again : (m : MdsValue) (s : MdsSend) (es : List Entry) (ss : List MdsSend) → I m es ss → IsOneOf s ss → I m es (ss ++ s ∷ [])
