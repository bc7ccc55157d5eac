-- What any part of an event can do, told more closely than in `Cases`: an own write by what it begins with, by each of its answers and
-- timeouts, and by its end (RFC 8881, section 18.32), and who holds a file.
use Rattle.std.proofs.Common.{◌≡◌, ℕ, Bool, true, false, List, [], ◌∷◌, ◌++◌, Some, filter}
use Rattle.rpc_record.specs.Replies.{RpcReply, reply_bytes}
use Rattle.cluster_model.specs.declared.ids.NodeId.{NodeId}
use Rattle.cluster_model.specs.declared.ids.FileId.{FileId}
use Rattle.cluster_model.specs.declared.entry.Entry.{Entry}
use Rattle.cluster_model.specs.DsCalls.{DsCallValue, DsReplyValue}
use Rattle.cluster_model.specs.declared.ds_call.Shown.{Shown}
use Rattle.cluster_model.specs.Members.{IsOneOf}
use Rattle.file_rule.specs.FilePhases.{FileInput, AsksLayout, OwnWrite, Recall as ToRecall, Returns, Revokes, OwnEnds, Resilver, Answers as IsAnswer, TimesOut, Ticks, Sees, phase, CallOut, call_out, is_outstanding}
use Rattle.mds_io.specs.OwnWrites.{after_own_reply, ended}
use Rattle.mirror_writer.specs.Writers.{WriterSends}
use Rattle.mirror_writer.specs.Writers as writer
use Rattle.nfs4_types.specs.declared.stateid.Stateid.{Stateid}
use Rattle.nfs4_session.specs.declared.back.BackCall.{BackCall}
use Rattle.nfs4_session.specs.TableLaw.{TableMove}
use Rattle.recall.specs.declared.recall.Recall.{Recall}
use Rattle.open_state.specs.Opens.{OpensValue}
use Rattle.mds_rule.specs.MdsStates.{CompoundRun, WaitingWrite, ServedFile, MdsSend, CallsServer, CallsBack, Replies, Answers, AwaitedCall, MdsValue, served, with_served}
use Rattle.mds_rule.specs.declared.waiter.Waiter.TheVariants.{ForFile, ForRead, ForWrite, ForRecall}
use Rattle.mds_rule.specs.ServedFiles.{has_fresh, file_behind, file_stepped}
use Rattle.mds_rule.specs.FileOps.{with_new_file, may_make, with_write}
use Rattle.mds_rule.specs.LayoutOps.{with_holder}
use Rattle.mds_rule.specs.Answers.{server_number, fileid_of, attributes_shown, own_answer, write_stepped}
use Rattle.mds_rule.specs.Goes.{xid_after, calls_as, calls_server, has_xids}
use Rattle.mds_laws.specs.MdsRunLaws.{IsUidOf}
use Rattle.mds_walk.proofs.Parts.{Becomes, Enters, Keeps, TakesInput, HeardOf, moved, CanBegin, end_input, without_write}
use Rattle.mds_laws.proofs.Keeping.{IsNoRequest, is_note, comes_by_itself, is_read_call, is_write_call}

-- an input of the metadata server's own write
abbrev pub is_own_input : FileInput → Bool
is_own_input (AsksLayout client) = false
is_own_input (OwnWrite at bytes) = true
is_own_input ToRecall = false
is_own_input (Returns client claimed places) = false
is_own_input (Revokes cause) = false
is_own_input (OwnEnds causes at bytes) = true
is_own_input Resilver = false
is_own_input (IsAnswer xid reply) = false
is_own_input (TimesOut xid) = false
is_own_input Ticks = false
is_own_input (Sees id seen) = false

pub record EachCase (I : MdsValue → List Entry → List MdsSend → Type 0) (Heard : HeardOf) : Type 0 where
  -- nothing of sessions, files, calls and numbers changes
  pub quiet : (m : MdsValue) (confirmed : List (ℕ × NodeId)) (opens : OpensValue) (reclaimed : List ℕ) (recalls : List Recall)
      → Becomes I m (record m { confirmed = confirmed; opens = opens; reclaimed = reclaimed; recalls = recalls })
  -- nothing but sessions does, by a call of their table
  pub tables : (m : MdsValue) (move : TableMove) → IsNoRequest move → Becomes I m (moved m move)
  pub replies : (m : MdsValue) (node : NodeId) (reply : RpcReply) (es : List Entry) (ss : List MdsSend) → I m es ss → I m es (ss ++ Replies node reply ∷ [])
  -- what is answered at once is answered by a reply
  pub answers : (m : MdsValue) (node : NodeId) (bytes : List ℕ) (reply : RpcReply) → bytes ≡ reply_bytes reply → (es : List Entry) (ss : List MdsSend) → I m es ss → I m es (ss ++ Answers node bytes ∷ [])
  pub notes : (m : MdsValue) (e : Entry) → is_note e ≡ true → Enters I m m (e ∷ [])
  -- A file is put back as it stands, with who holds it and its write, and other things beside them.
  pub puts : (m : MdsValue) (file : FileId) (s t : ServedFile) → served m file ≡ Some s → t.file ≡ s.file → t.holder ≡ s.holder → t.write ≡ s.write → Becomes I m (with_served m file t)
  -- a client is given the file's layout
  pub holds : (m : MdsValue) (file : FileId) (s : ServedFile) (client : ℕ) (again : Bool) → served m file ≡ Some s → Becomes I m (with_served m file (with_holder client again s))
  -- an input of the table of phases that comes by itself, and is not of an own write
  pub inputs : (m : MdsValue) (file : FileId) (s : ServedFile) (input : FileInput) → comes_by_itself input ≡ true → is_own_input input ≡ false → TakesInput I m file s input
  pub timeouts : (m : MdsValue) (file : FileId) (s : ServedFile) (xid : ℕ) → TakesInput I m file s (TimesOut xid)
  pub hears : (m : MdsValue) (file : FileId) (s : ServedFile) (call : AwaitedCall) (server own uid : ℕ) (c : DsCallValue) (replies : DsCallValue → DsReplyValue) → Heard call replies
      → call.caller ≡ ForFile file → call.sent ≡ CallsServer server own uid c → is_outstanding s.file (server_number call.node) call.xid ≡ true
      → TakesInput I m file s (IsAnswer call.xid (own_answer c (replies c)))
  pub learns : (m : MdsValue) (file : FileId) (s : ServedFile) (call : AwaitedCall) (server own uid : ℕ) (c : DsCallValue) (replies : DsCallValue → DsReplyValue) (fileid : ℕ) (shown : Shown) → Heard call replies
      → call.caller ≡ ForWrite file → call.sent ≡ CallsServer server own uid c → fileid_of c (replies c) ≡ Some fileid → attributes_shown (replies c) ≡ Some shown
      → TakesInput I m file s (Sees (record { server = server; fileid = fileid }) shown.seen)
  -- An own write begins: the file takes it, and the write waits. Where nothing can be drawn it waits alone.
  pub begins_write : (m : MdsValue) (file : FileId) (s : ServedFile) (c : CompoundRun) (at : ℕ) (bytes : List ℕ) → served m file ≡ Some s → CanBegin m s at bytes → has_fresh m.fresh ≡ true
      → Enters I m (with_served (file_stepped m file s (phase file s.file (OwnWrite at bytes) m.fresh)).mds file (with_write c at bytes (file_behind s (phase file s.file (OwnWrite at bytes) m.fresh))))
      (phase file s.file (OwnWrite at bytes) m.fresh).entries
  pub begins_alone : (m : MdsValue) (file : FileId) (s : ServedFile) (c : CompoundRun) (at : ℕ) (bytes : List ℕ) → served m file ≡ Some s → CanBegin m s at bytes → has_fresh m.fresh ≡ false
      → Becomes I m (with_served m file (with_write c at bytes s))
  -- an answer to a call of it comes, and a timeout
  pub answers_write : (m : MdsValue) (file : FileId) (s : ServedFile) (w : WaitingWrite) (call : AwaitedCall) (server own uid : ℕ) (c : DsCallValue) (replies : DsCallValue → DsReplyValue) → Heard call replies
      → call.caller ≡ ForWrite file → call.sent ≡ CallsServer server own uid c → served m file ≡ Some s → s.write ≡ Some w
      → Becomes I m (with_served m file (record s { write = Some (write_stepped w (after_own_reply w.writer call.xid (replies c))) }))
  pub times_write : (m : MdsValue) (file : FileId) (s : ServedFile) (w : WaitingWrite) (xid : ℕ) → served m file ≡ Some s → s.write ≡ Some w
      → Becomes I m (with_served m file (record s { write = Some (write_stepped w (writer.after_timeout w.writer xid)) }))
  -- It is over: it waits no more, and the file takes its end. Where nothing can be drawn it only waits no more.
  pub ends_write : (m : MdsValue) (file : FileId) (s : ServedFile) (w : WaitingWrite) (places : List Bool) → served m file ≡ Some s → s.write ≡ Some w → ended w.writer ≡ Some places → has_fresh m.fresh ≡ true
      → Enters I m (file_stepped (with_served m file (without_write s)) file (without_write s) (phase file s.file (end_input s w) m.fresh)).mds (phase file s.file (end_input s w) m.fresh).entries
  pub drops_write : (m : MdsValue) (file : FileId) (s : ServedFile) (w : WaitingWrite) (places : List Bool) → served m file ≡ Some s → s.write ≡ Some w → ended w.writer ≡ Some places → has_fresh m.fresh ≡ false
      → Becomes I m (with_served m file (without_write s))
  -- a new file
  pub makes : (m : MdsValue) (name : List ℕ) → may_make m ≡ true → Becomes I m (with_new_file m name)
  -- a call goes out
  pub calls_file : (m : MdsValue) (file : FileId) (s : ServedFile) (c : CallOut) → served m file ≡ Some s → has_xids m ≡ true → call_out s.file m.next_xid ≡ Some c
      → Keeps I m (calls_server m file (record s { file = c.file }) (ForFile file) c.server c.uid c.call)
  pub calls_write : (m : MdsValue) (file : FileId) (s : ServedFile) (w : WaitingWrite) (c : WriterSends) → served m file ≡ Some s → has_xids m ≡ true → s.write ≡ Some w
      → writer.next_sent w.writer m.next_xid ≡ Some c → is_write_call c.call ≡ true
      → Keeps I m (calls_server m file (record s { write = Some (record w { writer = c.writer }) }) (ForWrite file) c.id.server w.writer.cred c.call)
  pub calls_read : (m : MdsValue) (file : FileId) (s t : ServedFile) (server : ℕ) (call : DsCallValue) → served m file ≡ Some s → has_xids m ≡ true → t.file ≡ s.file → t.holder ≡ s.holder
      → t.write ≡ s.write → IsUidOf call 0 → is_read_call call ≡ true → Keeps I m (calls_server m file t (ForRead file) server 0 call)
  pub calls_back : (m : MdsValue) (node : NodeId) (back : BackCall) (file : FileId) (stateid : Stateid) → has_xids m ≡ true
      → Keeps I m (calls_as m node ForRecall (CallsBack m.next_xid back file stateid))
  -- a number is passed over
  pub skips : (m : MdsValue) → has_xids m ≡ true → Becomes I m (record m { next_xid = xid_after m.next_xid })
  -- calls that fail a test are forgotten; a call goes out again
  pub forgets : (m : MdsValue) (test : AwaitedCall → Bool) → Becomes I m (record m { calls = filter test m.calls })
  pub was : (m : MdsValue) (es : List Entry) (ss : List MdsSend) → I m es ss → (call : AwaitedCall) → IsOneOf call m.calls → IsOneOf call.sent ss
  pub again : (m : MdsValue) (s : MdsSend) (es : List Entry) (ss : List MdsSend) → I m es ss → IsOneOf s ss → I m es (ss ++ s ∷ [])
