-- What any part of an event can do to a metadata server, as in mds_laws, and to whom a file's layout is given besides: a predicate of it is
-- kept by every part of every event where it is in each of these cases.
use Rattle.std.proofs.Common.{◌≡◌, ℕ, Bool, true, false, List, [], ◌∷◌, ◌++◌, Option, Some, filter}
use Rattle.ff_xdr.specs.Form.{Value}
use Rattle.compound_reply.specs.Replied.{success_reply}
use Rattle.cluster_model.specs.declared.ids.NodeId.{NodeId}
use Rattle.cluster_model.specs.declared.ids.NodeId.TheVariants.{Client}
use Rattle.cluster_model.specs.declared.ids.FileId.{FileId}
use Rattle.cluster_model.specs.declared.ids.Cred.{Cred}
use Rattle.cluster_model.specs.declared.ids.MirrorId.{MirrorId}
use Rattle.cluster_model.specs.declared.phase.LeftCause.{LeftCause}
use Rattle.ff_layout.specs.IoError.{ff_ioerr4}
use Rattle.layout_report.specs.Reports.{report_of}
use Rattle.cluster_model.specs.declared.layout_state.LayoutPhase.TheVariants.{Free}
use Rattle.cluster_model.specs.declared.entry.Entry.{Entry}
use Rattle.cluster_model.specs.DsCalls.{DsCallValue, DsReplyValue}
use Rattle.cluster_model.specs.declared.ds_call.Shown.{Shown}
use Rattle.cluster_model.specs.Members.{IsOneOf}
use Rattle.file_rule.specs.FilePhases.{FileInput, AsksLayout, OwnWrite, Recall as ToRecall, Returns, Revokes, OwnEnds, Resilver, Answers as IsAnswer, TimesOut, Ticks, Sees, CallOut, call_out, is_outstanding, are_spent}
use Rattle.mirror_writer.specs.Writers.{WriterSends}
use Rattle.mirror_writer.specs.Writers as writer
use Rattle.nfs4_types.specs.declared.stateid.Stateid.{Stateid}
use Rattle.nfs4_session.specs.declared.back.BackCall.{BackCall}
use Rattle.nfs4_types.specs.declared.ids.SessionId.{SessionId}
use Rattle.nfs4_types.specs.declared.status.Stat4.TheVariants as stat
use Rattle.nfs4_session.specs.declared.begin.SlotPass.{SlotPass}
use Rattle.mds_rule.specs.OpSteps.{refused_as}
use Rattle.nfs4_session.specs.TableLaw.{TableMove, FinishRequest, CallBack, DestroySession}
use Rattle.recall.specs.declared.recall.Recall.{Recall}
use Rattle.open_state.specs.Opens.{OpensValue}
use Rattle.nfs4_compound.specs.Results.{resop4}
use Rattle.mds_rule.specs.MdsStates.{CompoundRun, WaitingRead, WaitingWrite, ServedFile, MdsSend, CallsServer, CallsBack, Replies, AwaitedCall, MdsValue, confirmed_node, served, with_served}
use Rattle.mds_rule.specs.declared.waiter.Waiter.TheVariants.{ForFile, ForRead, ForWrite, ForRecall}
use Rattle.mds_rule.specs.ServedFiles.{takes_input}
use Rattle.mds_rule.specs.SessionOps.{confirms}
use Rattle.mds_rule.specs.LayoutOps.{with_holder, is_granted}
use Rattle.mds_rule.specs.FileOps.{with_new_file, may_make}
use Rattle.mds_rule.specs.Answers.{server_number, fileid_of, attributes_shown, own_answer, resumes, is_done_as, has_failed_as, failures_by_place}
use Rattle.mds_rule.specs.Goes.{xid_after, calls_as, calls_server, has_xids}
use Rattle.mds_laws.specs.MdsRunLaws.{IsUidOf}
use Rattle.mds_replies.proofs.LegibleResults.{IsLegible}
use Rattle.mds_laws.proofs.Keeping.{is_note, is_write_call, is_read_call, IsWriteOf}
use Rattle.mds_walk.proofs.Parts.{Becomes, Enters, Keeps, moved, TakesInput, HeardOf, AllWait, IsPlainMove}

-- an input that neither an answer nor a timeout brings, and that is no return and no end of an own write
abbrev pub is_plain_input : FileInput → Bool
is_plain_input (AsksLayout client) = true
is_plain_input (OwnWrite at bytes) = true
is_plain_input ToRecall = true
is_plain_input (Returns client claimed places) = false
is_plain_input (Revokes cause) = true
is_plain_input (OwnEnds causes at bytes) = false
is_plain_input Resilver = true
is_plain_input (IsAnswer xid reply) = false
is_plain_input (TimesOut xid) = false
is_plain_input Ticks = true
is_plain_input (Sees id seen) = false

-- ---- the compounds that wait for a file

-- of reads that are so, these are of the same compounds
abbrev pub SameCompounds : List WaitingRead → List WaitingRead → Type 0
SameCompounds old new = (r : WaitingRead) → IsOneOf r new → (was : WaitingRead) × IsOneOf was old × (r.compound ≡ was.compound)

-- no client is confirmed from another node
abbrev pub NoneNew : List (ℕ × NodeId) → List (ℕ × NodeId) → Type 0
NoneNew old new = (p : ℕ × NodeId) → IsOneOf p new → IsOneOf p old

-- ---- the cases

pub record Cases (I : MdsValue → List Entry → List MdsSend → Type 0) (Heard : HeardOf) (W : CompoundRun → Type 0) : Type 0 where
  -- nothing of sessions, files, calls and numbers changes, and no client is confirmed
  pub quiet : (m : MdsValue) (confirmed : List (ℕ × NodeId)) (opens : OpensValue) (reclaimed : List ℕ) (recalls : List Recall) → NoneNew m.confirmed confirmed
      → Becomes I m (record m { confirmed = confirmed; opens = opens; reclaimed = reclaimed; recalls = recalls })
  -- nothing but sessions does, by a call of their table
  pub tables : (m : MdsValue) (move : TableMove) → IsPlainMove move → Becomes I m (moved m move)
  pub notes : (m : MdsValue) (e : Entry) → is_note e ≡ true → Enters I m m (e ∷ [])
  -- a file is put back as it stands, with other things beside it
  pub puts : (m : MdsValue) (file : FileId) (s t : ServedFile) → served m file ≡ Some s → t.file ≡ s.file → t.holder ≡ s.holder → t.seqid ≡ s.seqid
      → IsWriteOf s.file s.write t.write → (AllWait W s.reads s.write → AllWait W t.reads t.write) → Becomes I m (with_served m file t)
  -- the compounds that wait are so
  pub wait : (m : MdsValue) (es : List Entry) (ss : List MdsSend) → I m es ss → (file : FileId) (s : ServedFile) → served m file ≡ Some s → AllWait W s.reads s.write
  -- a layout is given again to the client that has it, or is granted where nobody had it
  pub again_to : (m : MdsValue) (file : FileId) (s : ServedFile) (client : ℕ) → served m file ≡ Some s → s.holder ≡ Some client → Becomes I m (with_served m file (with_holder client true s))
  pub grants : (m : MdsValue) (file : FileId) (n client : ℕ) (t : ServedFile) → confirmed_node m client ≡ Some (Client n) → is_granted (served m file) ≡ false
      → ((s : ServedFile) → served m file ≡ Some s → (s.file.layout.phase ≡ Free) × (are_spent m.fresh ≡ false)) → served (takes_input m file (AsksLayout n)).mds file ≡ Some t
      → Enters I m (with_served (takes_input m file (AsksLayout n)).mds file (with_holder client false t)) (takes_input m file (AsksLayout n)).entries
  -- an input of the table of phases: one that comes by itself, a timeout, an answer to a call of the file that is outstanding, and what an
  -- answer to an own write shows
  pub inputs : (m : MdsValue) (file : FileId) (s : ServedFile) (input : FileInput) → is_plain_input input ≡ true → TakesInput I m file s input
  pub own_ends : (m : MdsValue) (file : FileId) (s : ServedFile) (failures : List (MirrorId × LeftCause)) (at : ℕ) (bytes : List ℕ) → TakesInput I m file s (OwnEnds (failures_by_place failures s.file.layout.live) at bytes)
  pub timeouts : (m : MdsValue) (file : FileId) (s : ServedFile) (xid : ℕ) → TakesInput I m file s (TimesOut xid)
  pub hears : (m : MdsValue) (file : FileId) (s : ServedFile) (call : AwaitedCall) (server own uid : ℕ) (c : DsCallValue) (replies : DsCallValue → DsReplyValue) → Heard call replies
      → call.caller ≡ ForFile file → call.sent ≡ CallsServer server own uid c → is_outstanding s.file (server_number call.node) call.xid ≡ true
      → TakesInput I m file s (IsAnswer call.xid (own_answer c (replies c)))
  pub learns : (m : MdsValue) (file : FileId) (s : ServedFile) (call : AwaitedCall) (server own uid : ℕ) (c : DsCallValue) (replies : DsCallValue → DsReplyValue) (fileid : ℕ) (shown : Shown) → Heard call replies
      → call.caller ≡ ForWrite file → call.sent ≡ CallsServer server own uid c → fileid_of c (replies c) ≡ Some fileid → attributes_shown (replies c) ≡ Some shown
      → TakesInput I m file s (Sees (record { server = server; fileid = fileid }) shown.seen)
  -- a new file
  pub makes : (m : MdsValue) (name : List ℕ) → may_make m ≡ true → Becomes I m (with_new_file m name)
  -- a call goes out
  pub calls_file : (m : MdsValue) (file : FileId) (s : ServedFile) (c : CallOut) → served m file ≡ Some s → has_xids m ≡ true → call_out s.file m.next_xid ≡ Some c
      → Keeps I m (calls_server m file (record s { file = c.file }) (ForFile file) c.server c.uid c.call)
  pub calls_write : (m : MdsValue) (file : FileId) (s : ServedFile) (w : WaitingWrite) (c : WriterSends) → served m file ≡ Some s → has_xids m ≡ true → s.write ≡ Some w
      → writer.next_sent w.writer m.next_xid ≡ Some c → is_write_call c.call ≡ true
      → Keeps I m (calls_server m file (record s { write = Some (record w { writer = c.writer }) }) (ForWrite file) c.id.server w.writer.cred c.call)
  pub calls_read : (m : MdsValue) (file : FileId) (s t : ServedFile) (server : ℕ) (call : DsCallValue) → served m file ≡ Some s → has_xids m ≡ true → t.file ≡ s.file
      → t.holder ≡ s.holder → t.seqid ≡ s.seqid → IsWriteOf s.file s.write t.write → SameCompounds s.reads t.reads → t.write ≡ s.write → IsUidOf call 0 → is_read_call call ≡ true → Keeps I m (calls_server m file t (ForRead file) server 0 call)
  pub calls_back : (m : MdsValue) (node : NodeId) (back : BackCall) (file : FileId) (stateid : Stateid) → has_xids m ≡ true
      → Keeps I m (calls_as m node ForRecall (CallsBack m.next_xid back file stateid))
  -- a number is passed over
  pub skips : (m : MdsValue) → has_xids m ≡ true → Becomes I m (record m { next_xid = xid_after m.next_xid })
  -- calls that fail a test are forgotten; a call goes out again
  pub forgets : (m : MdsValue) (test : AwaitedCall → Bool) → Becomes I m (record m { calls = filter test m.calls })
  pub was : (m : MdsValue) (es : List Entry) (ss : List MdsSend) → I m es ss → (call : AwaitedCall) → IsOneOf call m.calls → IsOneOf call.sent ss
  pub again : (m : MdsValue) (s : MdsSend) (es : List Entry) (ss : List MdsSend) → I m es ss → IsOneOf s ss → I m es (ss ++ s ∷ [])

-- where compounds are run: what they reply, which is of success, what the slot keeps of it, the returns in them, who is confirmed, and the
-- sessions that they destroy
pub record RunCases (I : MdsValue → List Entry → List MdsSend → Type 0) (W : CompoundRun → Type 0) : Type 0 where
  pub replies : (m : MdsValue) (node : NodeId) (xid : ℕ) (results : List ℕ) (es : List Entry) (ss : List MdsSend) → I m es ss → I m es (ss ++ Replies node (success_reply xid results) ∷ [])
  pub finishes : (m : MdsValue) (pass : SlotPass) (bytes : List ℕ) → Becomes I m (moved m (FinishRequest pass bytes))
  pub returns : (m : MdsValue) (file : FileId) (s : ServedFile) (n : ℕ) (cred : Cred) (errors : List (Value ff_ioerr4)) → TakesInput I m file s (Returns n cred (report_of errors s.file.layout.live))
  pub confirms : (m : MdsValue) (client : ℕ) (node : NodeId) → Becomes I m (confirms client node m)
  pub destroys : (m : MdsValue) (session : SessionId) → Becomes I m (moved m (DestroySession session))
  pub any : (c : CompoundRun) → W c

-- how a compound that waited goes on, with a result that is read back
pub record WaitCases (I : MdsValue → List Entry → List MdsSend → Type 0) (W : CompoundRun → Type 0) : Type 0 where
  pub done : (now : ℕ) (m : MdsValue) (c : CompoundRun) (result : Value resop4) → IsLegible result → W c → Keeps I m (resumes now (is_done_as m c result) c.ops)
  pub failed : (now : ℕ) (m : MdsValue) (c : CompoundRun) (number : ℕ) → IsLegible (refused_as number stat.Io) → W c → Keeps I m (resumes now (has_failed_as m c number) c.ops)

-- ---- the calls that go out alone

pub record OutCases (I : MdsValue → List Entry → List MdsSend → Type 0) : Type 0 where
  pub recalled : (m : MdsValue) (recalls : List Recall) → Becomes I m (record m { recalls = recalls })
  pub back : (m : MdsValue) (client : ℕ) → Becomes I m (moved m (CallBack client))
  pub calls_file : (m : MdsValue) (file : FileId) (s : ServedFile) (c : CallOut) → served m file ≡ Some s → has_xids m ≡ true → call_out s.file m.next_xid ≡ Some c
      → Keeps I m (calls_server m file (record s { file = c.file }) (ForFile file) c.server c.uid c.call)
  pub calls_write : (m : MdsValue) (file : FileId) (s : ServedFile) (w : WaitingWrite) (c : WriterSends) → served m file ≡ Some s → has_xids m ≡ true → s.write ≡ Some w
      → writer.next_sent w.writer m.next_xid ≡ Some c → is_write_call c.call ≡ true
      → Keeps I m (calls_server m file (record s { write = Some (record w { writer = c.writer }) }) (ForWrite file) c.id.server w.writer.cred c.call)
  pub calls_read : (m : MdsValue) (file : FileId) (s t : ServedFile) (server : ℕ) (call : DsCallValue) → served m file ≡ Some s → has_xids m ≡ true → t.file ≡ s.file
      → t.holder ≡ s.holder → t.seqid ≡ s.seqid → IsWriteOf s.file s.write t.write → SameCompounds s.reads t.reads → t.write ≡ s.write → IsUidOf call 0 → is_read_call call ≡ true → Keeps I m (calls_server m file t (ForRead file) server 0 call)
  pub calls_back : (m : MdsValue) (node : NodeId) (back : BackCall) (file : FileId) (stateid : Stateid) → has_xids m ≡ true
      → Keeps I m (calls_as m node ForRecall (CallsBack m.next_xid back file stateid))
  pub skips : (m : MdsValue) → has_xids m ≡ true → Becomes I m (record m { next_xid = xid_after m.next_xid })
  pub was : (m : MdsValue) (es : List Entry) (ss : List MdsSend) → I m es ss → (call : AwaitedCall) → IsOneOf call m.calls → IsOneOf call.sent ss
  pub again : (m : MdsValue) (s : MdsSend) (es : List Entry) (ss : List MdsSend) → I m es ss → IsOneOf s ss → I m es (ss ++ s ∷ [])

pub out_of : (I : MdsValue → List Entry → List MdsSend → Type 0) (Heard : HeardOf) (W : CompoundRun → Type 0) → Cases I Heard W → OutCases I
out_of I Heard W k = record {
  recalled = λ m recalls. k.quiet m m.confirmed m.opens m.reclaimed recalls (λ p inside. inside);
  back = λ m client. k.tables m (CallBack client) tt;
  calls_file = k.calls_file;
  calls_write = k.calls_write;
  calls_read = k.calls_read;
  calls_back = k.calls_back;
  skips = k.skips;
  was = k.was;
  again = k.again;
}
