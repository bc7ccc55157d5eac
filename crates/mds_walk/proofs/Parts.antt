-- What any part of an event can do, each told by what it changes, so that all else is as it was: the one list of cases of a metadata
-- server's whole rule (RFC 8881, sections 12.5.5, 18.22, 18.32, 18.43, 18.44 and 20.3; RFC 8435, section 2.2).
use Rattle.std.proofs.Common.{◌≡◌, ◌≤◌, ◌<◌, ℕ, ◌+◌, ◌⊎◌, Bool, true, false, List, [], ◌∷◌, ◌++◌, length, Option, Some, None, filter}
use Rattle.cluster_model.specs.declared.phase.Phase.{Phase}
use Rattle.std.specs.Prelude.{is_some, position, slice_get, slice_set, ◌==◌, ◌||◌}
use Rattle.std.specs.List.{find}
use Rattle.rpc_record.specs.Replies.{RpcReply, reply_bytes}
use Rattle.cluster_model.specs.declared.limits.TheConstants.{MAX_FILE, PIECE_SIZE}
use Rattle.cluster_model.specs.declared.ids.NodeId.{NodeId}
use Rattle.cluster_model.specs.declared.ids.NodeId.TheVariants.{Mds, Server, Client}
use Rattle.cluster_model.specs.declared.ids.FileId.{FileId}
use Rattle.cluster_model.specs.declared.entry.Entry.{Entry}
use Rattle.cluster_model.specs.declared.entry.Entry.TheVariants as entry
use Rattle.cluster_model.specs.declared.layout_state.LayoutPhase.TheVariants.{Free, Held}
use Rattle.cluster_model.specs.DsCalls.{DsCallValue, DsReplyValue}
use Rattle.cluster_model.specs.declared.ds_call.Shown.{Shown}
use Rattle.cluster_model.specs.Members.{IsOneOf}
use Rattle.file_rule.specs.FilePhases.{FileInput, AsksLayout, OwnWrite, Recall as ToRecall, Returns, Revokes, OwnEnds, Resilver, Answers as IsAnswer, TimesOut, Ticks, Sees, phase, CallOut, call_out, is_outstanding, are_spent}
use Rattle.mds_io.specs.declared.read_end.ReadEnd.{ReadEnd}
use Rattle.mds_io.specs.declared.read_end.ReadEnd.TheVariants as end
use Rattle.mds_io.specs.Reads.{ReadState, ReadAfter, ReadSends}
use Rattle.mds_io.specs.Reads as read
use Rattle.mds_io.specs.OwnWrites.{after_own_reply, ended}
use Rattle.mirror_writer.specs.Writers.{WriterSends}
use Rattle.mirror_writer.specs.Writers as writer
use Rattle.nfs4_session.specs.Clients.{SessionState}
use Rattle.nfs4_session.specs.Bindings.{back_call}
use Rattle.nfs4_session.specs.TableLaw.{TableMove, ExchangeId, CreateSession, BeginRequest, FinishRequest, Bind, CallBack, DestroySession, DestroyClient, Expire, table_after}
use Rattle.nfs4_types.specs.declared.ids.SessionId.{SessionId}
use Rattle.nfs4_types.specs.Stateids.{layout_stateid_of}
use Rattle.recall.specs.Recalls.{RecallSends, next_sent, is_under_way, new_recall, with_recall, out_at, after_reply, after_timeout, after_tick}
use Rattle.open_state.specs.Opens.{opened, closed}
use Rattle.mds_rule.specs.MdsStates.{CompoundRun, WaitingRead, WaitingWrite, ServedFile, MdsSend, CallsServer, CallsBack, Replies, Answers, AwaitedCall, MdsValue, is_call_to, without_call, served, with_served, with_size, confirmed_node, MdsStep}
use Rattle.mds_rule.specs.declared.waiter.Waiter.{Waiter}
use Rattle.mds_rule.specs.declared.waiter.Waiter.TheVariants.{ForFile, ForRead, ForWrite, ForRecall}
use Rattle.mds_rule.specs.ServedFiles.{has_fresh, file_behind, file_stepped, forgotten}
use Rattle.mds_rule.specs.SessionOps.{confirms}
use Rattle.mds_rule.specs.FileOps.{with_new_file, may_make, with_read, with_write, write_result}
use Rattle.mds_rule.specs.LayoutOps.{with_holder, client_number}
use Rattle.mds_rule.specs.Answers.{resumes, is_done_as, has_failed_as, read_result, server_number, is_read_out, is_writer_out, is_awaited, fileid_of, attributes_shown, own_answer, failures_by_place, failed_entries, without_read, write_stepped, recall_end}
use Rattle.mds_rule.specs.Goes.{xid_after, calls_as, calls_server, has_xids, stateid_seqid}
use Rattle.nfs4_types.specs.declared.sequence.Sequence.{Sequence}
use Rattle.ds_calls.specs.GivenReplies.{reply_of_call}
use Rattle.mds_receive.specs.MdsReceive.{IsReply, incoming_of}
use Rattle.mds_walk.specs.MdsRuns.{MdsInput, Hears, IsTimedOut, Ticks as IsTick, RecallsFile, Resilvers}
use Rattle.mds_walk.specs.CallTables.{IsSentFor}
use Rattle.cluster_model.specs.Phases.{holder_of}
use Rattle.layout_report.specs.Reports.{report_of}
use Rattle.ff_layout.specs.IoError.{ff_ioerr4}
use Rattle.ff_xdr.specs.Form.{Value, arm_of}
use Rattle.client_compounds.specs.MdsResults.{in_arm}
use Rattle.nfs4_compound.specs.Args.{argop4}
use Rattle.compound_reply.specs.Replied.{success_reply}
use Rattle.nfs4_session.specs.declared.begin.SlotPass.{SlotPass}

-- an input that no operation, answer or timeout brings
abbrev pub comes_unasked : FileInput → Bool
comes_unasked (AsksLayout client) = false
comes_unasked (OwnWrite at bytes) = false
comes_unasked ToRecall = true
comes_unasked (Returns client claimed places) = false
comes_unasked (Revokes cause) = true
comes_unasked (OwnEnds causes at bytes) = false
comes_unasked Resilver = true
comes_unasked (IsAnswer xid reply) = false
comes_unasked (TimesOut xid) = false
comes_unasked Ticks = true
comes_unasked (Sees id seen) = false

-- ---- what is kept

abbrev pub Becomes : (MdsValue → List Entry → List MdsSend → Type 0) → MdsValue → MdsValue → Type 0
Becomes I m n = (es : List Entry) (ss : List MdsSend) → I m es ss → I n es ss

abbrev pub Enters : (MdsValue → List Entry → List MdsSend → Type 0) → MdsValue → MdsValue → List Entry → Type 0
Enters I m n entries = (es : List Entry) (ss : List MdsSend) → I m es ss → I n (es ++ entries) ss

abbrev pub Keeps : (MdsValue → List Entry → List MdsSend → Type 0) → MdsValue → MdsStep → Type 0
Keeps I m s = (es : List Entry) (ss : List MdsSend) → I m es ss → I s.mds (es ++ s.entries) (ss ++ s.sends)

-- a call of the table of clients that begins no request and ends none
abbrev pub IsNoTurn : TableMove → Type 0
IsNoTurn (BeginRequest request now) = ⊥
IsNoTurn (FinishRequest pass reply) = ⊥
IsNoTurn (ExchangeId verifier owner now) = Unit {0}
IsNoTurn (CreateSession client sequence program node now) = Unit {0}
IsNoTurn (Bind session node) = Unit {0}
IsNoTurn (CallBack client) = Unit {0}
IsNoTurn (DestroySession session) = Unit {0}
IsNoTurn (DestroyClient client) = Unit {0}
IsNoTurn (Expire now) = Unit {0}

-- one that destroys no session either
abbrev pub IsPlainMove : TableMove → Type 0
IsPlainMove (BeginRequest request now) = ⊥
IsPlainMove (DestroySession session) = ⊥
IsPlainMove (ExchangeId verifier owner now) = Unit {0}
IsPlainMove (CreateSession client sequence program node now) = Unit {0}
IsPlainMove (FinishRequest pass reply) = ⊥
IsPlainMove (Bind session node) = Unit {0}
IsPlainMove (CallBack client) = Unit {0}
IsPlainMove (DestroyClient client) = Unit {0}
IsPlainMove (Expire now) = Unit {0}

pub plain_no_turn : (move : TableMove) → IsPlainMove move → IsNoTurn move
plain_no_turn (BeginRequest request now) is = is
plain_no_turn (FinishRequest pass reply) is = is
plain_no_turn (DestroySession session) is = tt
plain_no_turn (ExchangeId verifier owner now) is = tt
plain_no_turn (CreateSession client sequence program node now) is = tt
plain_no_turn (Bind session node) is = tt
plain_no_turn (CallBack client) is = tt
plain_no_turn (DestroyClient client) is = tt
plain_no_turn (Expire now) is = tt

abbrev pub moved : MdsValue → TableMove → MdsValue
moved m move = record m { sessions = table_after m.sessions move }

-- a file that is served takes an input of the table of phases
abbrev pub TakesInput : (MdsValue → List Entry → List MdsSend → Type 0) → MdsValue → FileId → ServedFile → FileInput → Type 0
TakesInput I m file s input =
    served m file ≡ Some s → has_fresh m.fresh ≡ true → Enters I m (file_stepped m file s (phase file s.file input m.fresh)).mds (phase file s.file input m.fresh).entries

-- What is known of an answer to an awaited call: what it says to a call of a data server is a function of the call.
abbrev pub HeardOf : Type 1
HeardOf = AwaitedCall → (DsCallValue → DsReplyValue) → Type 0

-- nothing
abbrev pub HeardAny : HeardOf
HeardAny call replies = Unit {0}

-- ---- what is known of the answers that come

-- of one from a node, under a number, to whichever call it answers
abbrev pub Hearing : (MdsValue → List Entry → List MdsSend → Type 0) → HeardOf → NodeId → ℕ → (DsCallValue → DsReplyValue) → Type 0
Hearing I Heard node xid replies = (m : MdsValue) (es : List Entry) (ss : List MdsSend) → I m es ss → (call : AwaitedCall) → IsOneOf call m.calls → is_call_to node xid call ≡ true → Heard call replies

-- of one that an input brings
abbrev pub HearsSo : (MdsValue → List Entry → List MdsSend → Type 0) → HeardOf → MdsInput → Type 0
HearsSo I Heard (Hears from bytes) = (reply : RpcReply) → incoming_of bytes ≡ IsReply reply → Hearing I Heard from reply.xid (λ call. reply_of_call call reply)
HearsSo I Heard (IsTimedOut to which) = Unit {0}
HearsSo I Heard IsTick = Unit {0}
HearsSo I Heard (RecallsFile file) = Unit {0}
HearsSo I Heard (Resilvers file) = Unit {0}

-- An own write begins where the file is free and uids are left, with bytes, and within the limits.
pub record CanBegin (m : MdsValue) (s : ServedFile) (at : ℕ) (bytes : List ℕ) : Type 0 where
  pub free : s.file.layout.phase ≡ Free
  pub unspent : are_spent m.fresh ≡ false
  pub some : 0 < length bytes
  pub few : length bytes ≤ PIECE_SIZE
  pub within : at + length bytes ≤ MAX_FILE

-- what the file takes at its end, and the file without it
abbrev pub end_input : ServedFile → WaitingWrite → FileInput
end_input s w = OwnEnds (failures_by_place w.failures s.file.layout.live) w.at w.bytes

abbrev pub without_write : ServedFile → ServedFile
without_write s = record s { write = None }

-- the file with what a step leaves of the READ at this place
abbrev pub with_read_at : ServedFile → ℕ → WaitingRead → ReadState → ServedFile
with_read_at s place r after = record s { reads = slice_set s.reads place (record { compound = r.compound; read = after }) }

-- what is entered where a READ ends
abbrev pub end_entry : FileId → ReadEnd → Entry
end_entry file (end.Bytes eof bytes) = entry.ReadAnswer file 0 bytes
end_entry file (end.AllFailed failures) = entry.ReadAnswer file 5 []

-- the READ whose call has this number is the one at this place
pub record IsReadAt (m : MdsValue) (file : FileId) (s : ServedFile) (xid place : ℕ) (r : WaitingRead) : Type 0 where
  pub there : served m file ≡ Some s
  pub first : position (is_read_out xid) s.reads ≡ Some place
  pub at : slice_get s.reads place ≡ Some r

-- a call of a data server that is answered: it was found under the answer's node and number
pub record IsHeard (m : MdsValue) (node : NodeId) (xid : ℕ) (call : AwaitedCall) (caller : Waiter) (c : DsCallValue) : Type 0 where
  pub server : ℕ
  pub own : ℕ
  pub uid : ℕ
  pub found : find (is_call_to node xid) m.calls ≡ Some call
  pub waits : call.caller ≡ caller
  pub sent : call.sent ≡ CallsServer server own uid c

-- the table of calls without the one that is answered
abbrev pub heard_by : NodeId → ℕ → MdsValue → MdsValue
heard_by node xid m = record m { calls = without_call node xid m.calls }

-- ---- the compounds that wait for a file

-- each of them is so
pub record AllWait (W : CompoundRun → Type 0) (reads : List WaitingRead) (write : Option WaitingWrite) : Type 0 where
  pub reads_so : (r : WaitingRead) → IsOneOf r reads → W r.compound
  pub write_so : (w : WaitingWrite) → write ≡ Some w → W w.compound

-- any compound
abbrev pub AnyCompound : CompoundRun → Type 0
AnyCompound c = Unit {0}

pub any_wait : (reads : List WaitingRead) (write : Option WaitingWrite) → AllWait AnyCompound reads write
any_wait reads write = record { reads_so = λ r inside. tt; write_so = λ w is. tt }

-- ---- what the taking of an event does: the calls that were sent, and the number of the next one, are as they were

-- `W` is what is known of a compound that waits.
pub record Parts (I : MdsValue → List Entry → List MdsSend → Type 0) (Heard : HeardOf) (W : CompoundRun → Type 0) : Type 0 where
  -- the compounds that wait are so
  pub wait : (m : MdsValue) (es : List Entry) (ss : List MdsSend) → I m es ss → (file : FileId) (s : ServedFile) → served m file ≡ Some s → AllWait W s.reads s.write
  -- Clients: one opens a file, or closes it; one has reclaimed all, or is gone.
  pub opens : (m : MdsValue) (client : ℕ) (file : FileId) → Becomes I m (record m { opens = opened m.opens client file })
  pub closes : (m : MdsValue) (client : ℕ) (file : FileId) → Becomes I m (record m { opens = closed m.opens client file })
  pub reclaims : (m : MdsValue) (client : ℕ) → Becomes I m (record m { reclaimed = m.reclaimed ++ client ∷ [] })
  pub gone : (m : MdsValue) (client : ℕ) → Becomes I m (forgotten client m)
  -- the table of clients changes, by a call of its own
  pub tables : (m : MdsValue) (move : TableMove) → IsPlainMove move → Becomes I m (moved m move)
  -- Recalls: a new one, of a file that a client holds; a timeout of a callback; time passes.
  pub asks_recall : (m : MdsValue) (file : FileId) (s : ServedFile) (n : ℕ) (recalled : Bool) (client now : ℕ) → served m file ≡ Some s → s.file.layout.phase ≡ Held (Client n) recalled → is_under_way file s.file.layout.cred m.recalls ≡ false
      → Becomes I m (record m { recalls = with_recall (new_recall file s.file.layout.cred client now) m.recalls })
  pub times_recall : (m : MdsValue) (xid : ℕ) → is_some (out_at m.recalls xid) ≡ true → Becomes I m (record m { recalls = (after_timeout m.recalls xid).recalls })
  pub ticks_recalls : (m : MdsValue) (now : ℕ) → Becomes I m (record m { recalls = (after_tick m.recalls now).recalls })
  -- a LAYOUTGET is told to come again
  pub later : (m : MdsValue) (file : FileId) (p : Phase) → Enters I m m (entry.Later file p ∷ [])
  -- a size is seen at a mirror
  pub sizes : (m : MdsValue) (file : FileId) (s : ServedFile) (server fileid size : ℕ) → served m file ≡ Some s
      → Becomes I m (with_served m file (record s { sizes = with_size (record { server = server; fileid = fileid }) size s.sizes }))
  -- The client that has the file's layout is given it again. A client is granted it, where the file is free: the file takes its input, and
  -- where nothing can be drawn the client has it alone.
  pub gives_again : (m : MdsValue) (file : FileId) (s : ServedFile) (client : ℕ) → served m file ≡ Some s → s.holder ≡ Some client → Becomes I m (with_served m file (with_holder client true s))
  pub grants : (m : MdsValue) (file : FileId) (s : ServedFile) (client n : ℕ) → confirmed_node m client ≡ Some (Client n) → served m file ≡ Some s → s.file.layout.phase ≡ Free → are_spent m.fresh ≡ false → has_fresh m.fresh ≡ true
      → Enters I m (with_served (file_stepped m file s (phase file s.file (AsksLayout n) m.fresh)).mds file (with_holder client false (file_behind s (phase file s.file (AsksLayout n) m.fresh))))
      (phase file s.file (AsksLayout n) m.fresh).entries
  pub grants_alone : (m : MdsValue) (file : FileId) (s : ServedFile) (client n : ℕ) → confirmed_node m client ≡ Some (Client n) → served m file ≡ Some s → s.file.layout.phase ≡ Free → are_spent m.fresh ≡ false → has_fresh m.fresh ≡ false
      → Becomes I m (with_served m file (with_holder client false s))
  -- other inputs of the table of phases: unasked; a timeout; what an answer to an own write shows
  pub inputs : (m : MdsValue) (file : FileId) (s : ServedFile) (input : FileInput) → comes_unasked input ≡ true → TakesInput I m file s input
  pub timeouts : (m : MdsValue) (file : FileId) (s : ServedFile) (node : NodeId) (xid : ℕ) → is_outstanding s.file (server_number node) xid ≡ true → TakesInput I m file s (TimesOut xid)
  pub learns : (m : MdsValue) (file : FileId) (s : ServedFile) (call : AwaitedCall) (server own uid : ℕ) (c : DsCallValue) (replies : DsCallValue → DsReplyValue) (fileid : ℕ) (shown : Shown) → Heard call replies
      → call.caller ≡ ForWrite file → call.sent ≡ CallsServer server own uid c → fileid_of c (replies c) ≡ Some fileid → attributes_shown (replies c) ≡ Some shown
      → TakesInput I m file s (Sees (record { server = server; fileid = fileid }) shown.seen)
  -- A READ begins. A timeout of its call leaves it waiting, or ends it.
  pub begins_read : (m : MdsValue) (file : FileId) (s : ServedFile) (c : CompoundRun) (at count : ℕ) → W c → served m file ≡ Some s → Becomes I m (with_served m file (with_read c at count s))
  pub times_read : (m : MdsValue) (file : FileId) (s : ServedFile) (xid place : ℕ) (r : WaitingRead) → IsReadAt m file s xid place r → (read.after_timeout r.read xid).end ≡ None
      → Enters I m (with_served m file (with_read_at s place r (read.after_timeout r.read xid).read)) (failed_entries r.read (read.after_timeout r.read xid).read)
  pub loses_read : (m : MdsValue) (file : FileId) (s : ServedFile) (xid place : ℕ) (r : WaitingRead) (e : ReadEnd) → IsReadAt m file s xid place r → (read.after_timeout r.read xid).end ≡ Some e
      → Enters I m (without_read m file s place) (failed_entries r.read (read.after_timeout r.read xid).read ++ end_entry file e ∷ [])
  -- An own write begins: the file takes it, and the write waits. Where nothing can be drawn it waits alone.
  pub begins_write : (m : MdsValue) (file : FileId) (s : ServedFile) (c : CompoundRun) (at : ℕ) (bytes : List ℕ) → W c → served m file ≡ Some s → CanBegin m s at bytes → has_fresh m.fresh ≡ true
      → Enters I m (with_served (file_stepped m file s (phase file s.file (OwnWrite at bytes) m.fresh)).mds file (with_write c at bytes (file_behind s (phase file s.file (OwnWrite at bytes) m.fresh))))
      (phase file s.file (OwnWrite at bytes) m.fresh).entries
  pub begins_alone : (m : MdsValue) (file : FileId) (s : ServedFile) (c : CompoundRun) (at : ℕ) (bytes : List ℕ) → W c → served m file ≡ Some s → CanBegin m s at bytes → has_fresh m.fresh ≡ false
      → Becomes I m (with_served m file (with_write c at bytes s))
  -- a timeout of a call of it comes
  pub times_write : (m : MdsValue) (file : FileId) (s : ServedFile) (w : WaitingWrite) (xid : ℕ) → served m file ≡ Some s → s.write ≡ Some w → is_writer_out xid s.write ≡ true
      → Becomes I m (with_served m file (record s { write = Some (write_stepped w (writer.after_timeout w.writer xid)) }))
  -- It is over: it waits no more, and the file takes its end. Where nothing can be drawn it only waits no more.
  pub ends_write : (m : MdsValue) (file : FileId) (s : ServedFile) (w : WaitingWrite) (places : List Bool) → served m file ≡ Some s → s.write ≡ Some w → ended w.writer ≡ Some places → has_fresh m.fresh ≡ true
      → Enters I m (file_stepped (with_served m file (without_write s)) file (without_write s) (phase file s.file (end_input s w) m.fresh)).mds (phase file s.file (end_input s w) m.fresh).entries
  pub drops_write : (m : MdsValue) (file : FileId) (s : ServedFile) (w : WaitingWrite) (places : List Bool) → served m file ≡ Some s → s.write ≡ Some w → ended w.writer ≡ Some places → has_fresh m.fresh ≡ false
      → Becomes I m (with_served m file (without_write s))
  -- a new file
  pub makes : (m : MdsValue) (name : List ℕ) → may_make m ≡ true → Becomes I m (with_new_file m name)

-- ---- where compounds are run

-- a LAYOUTRETURN is an input of the table of phases
abbrev pub TakesReturns : (MdsValue → List Entry → List MdsSend → Type 0) → Type 0
TakesReturns I =
    (m : MdsValue) (file : FileId) (s : ServedFile) (errors : List (Value ff_ioerr4))
    → TakesInput I m file s (Returns (client_number (holder_of s.file.layout.phase)) s.file.layout.cred (report_of errors s.file.layout.live))

pub record RunParts (I : MdsValue → List Entry → List MdsSend → Type 0) : Type 0 where
  -- a client is confirmed from a node; a session is destroyed
  pub confirmed : (m : MdsValue) (client : ℕ) (node : NodeId) → Becomes I m (confirms client node m)
  pub destroys : (m : MdsValue) (session : SessionId) → Becomes I m (moved m (DestroySession session))
  -- a LAYOUTRETURN comes
  pub returns : TakesReturns I
  -- a compound is replied to, and the request of its slot ends with the reply
  pub replies : (m : MdsValue) (node : NodeId) (xid : ℕ) (bytes : List ℕ) (es : List Entry) (ss : List MdsSend) → I m es ss → I m es (ss ++ Replies node (success_reply xid bytes) ∷ [])
  pub finishes : (m : MdsValue) (pass : SlotPass) (bytes : List ℕ) → Becomes I m (moved m (FinishRequest pass bytes))

-- the operations that wait for data servers: READ and WRITE
abbrev pub is_waiting_op : ℕ → Bool
is_waiting_op number = (number == 25) || (number == 38)

-- the client of a CREATE_SESSION
abbrev pub created_in : Value argop4 → Option ℕ
created_in op = in_arm 43 argop4 (λ args. Some args.0) None op

-- What one operation of a compound needs besides `Parts`: of a READ and a WRITE, that the compound may wait; of a LAYOUTRETURN, a
-- CREATE_SESSION and a DESTROY_SESSION, their own cases.
pub record OpNeeds (I : MdsValue → List Entry → List MdsSend → Type 0) (W : CompoundRun → Type 0) (c : CompoundRun) (op : Value argop4) : Type 0 where
  pub waits : is_waiting_op (arm_of argop4 op) ≡ true → W c
  pub returns : (arm_of argop4 op == 51) ≡ true → TakesReturns I
  pub confirms : (client : ℕ) → created_in op ≡ Some client → (m : MdsValue) → Becomes I m (confirms client c.node m)
  pub destroys : (arm_of argop4 op == 44) ≡ true → (m : MdsValue) (session : SessionId) → Becomes I m (moved m (DestroySession session))

-- what is answered at once is answered by a reply
abbrev pub GivesAnswers : (MdsValue → List Entry → List MdsSend → Type 0) → Type 0
GivesAnswers I = (m : MdsValue) (node : NodeId) (bytes : List ℕ) (reply : RpcReply) → bytes ≡ reply_bytes reply → (es : List Entry) (ss : List MdsSend) → I m es ss → I m es (ss ++ Answers node bytes ∷ [])

-- How a compound that waited goes on, where it is so: a READ has bytes or has failed, and a WRITE is done or has failed.
pub record Resumes (I : MdsValue → List Entry → List MdsSend → Type 0) (W : CompoundRun → Type 0) : Type 0 where
  pub has_read : (now : ℕ) (m : MdsValue) (c : CompoundRun) (eof : Bool) (bytes : List ℕ) → length bytes ≤ 4294967295 → W c → Keeps I m (resumes now (is_done_as m c (read_result eof bytes)) c.ops)
  pub has_written : (now : ℕ) (m : MdsValue) (c : CompoundRun) (count : ℕ) → W c → Keeps I m (resumes now (is_done_as m c (write_result count)) c.ops)
  pub read_failed : (now : ℕ) (m : MdsValue) (c : CompoundRun) → W c → Keeps I m (resumes now (has_failed_as m c 25) c.ops)
  pub write_failed : (now : ℕ) (m : MdsValue) (c : CompoundRun) → W c → Keeps I m (resumes now (has_failed_as m c 38) c.ops)

-- ---- what becomes of the calls

-- A call that is for a waiter of another kind: where it is answered it leaves the table, and an answer to a callback may end a recall.
pub record HearsOdd (I : MdsValue → List Entry → List MdsSend → Type 0) : Type 0 where
  pub leaves : (m : MdsValue) (node : NodeId) (xid : ℕ) → Becomes I m (heard_by node xid m)
  pub recalled : (m : MdsValue) (node : NodeId) (xid status : ℕ) → Becomes I m (record (heard_by node xid m) { recalls = (after_reply m.recalls xid (recall_end status)).recalls })

pub record Calls (I : MdsValue → List Entry → List MdsSend → Type 0) (Heard : HeardOf) : Type 0 where
  -- each of them is for a waiter of its kind, or it is known what becomes of one that is not
  pub fits : (m : MdsValue) (es : List Entry) (ss : List MdsSend) → I m es ss → (call : AwaitedCall) → IsOneOf call m.calls → IsSentFor call.sent call.caller ⊎ HearsOdd I
  -- a file's call is answered, and the file takes the answer; where nothing can be drawn nothing comes of it
  pub hears : (m : MdsValue) (node : NodeId) (xid : ℕ) (file : FileId) (s : ServedFile) (call : AwaitedCall) (c : DsCallValue) (replies : DsCallValue → DsReplyValue) → Heard call replies → IsHeard m node xid call (ForFile file) c
      → served m file ≡ Some s → is_outstanding s.file (server_number call.node) call.xid ≡ true → has_fresh m.fresh ≡ true
      → Enters I m (file_stepped (heard_by node xid m) file s (phase file s.file (IsAnswer xid (own_answer c (replies c))) m.fresh)).mds (phase file s.file (IsAnswer xid (own_answer c (replies c))) m.fresh).entries
  pub unheard : (m : MdsValue) (node : NodeId) (xid : ℕ) (file : FileId) (s : ServedFile) (call : AwaitedCall) (c : DsCallValue) → IsHeard m node xid call (ForFile file) c
      → served m file ≡ Some s → has_fresh m.fresh ≡ false → Becomes I m (heard_by node xid m)
  -- a READ's is: it goes on, or it ends
  pub hears_read : (m : MdsValue) (node : NodeId) (xid : ℕ) (file : FileId) (s : ServedFile) (call : AwaitedCall) (c : DsCallValue) (replies : DsCallValue → DsReplyValue) (place : ℕ) (r : WaitingRead) → Heard call replies
      → IsHeard m node xid call (ForRead file) c → IsReadAt m file s xid place r → (read.after_reply r.read xid (replies c)).end ≡ None
      → Enters I m (with_served (heard_by node xid m) file (with_read_at s place r (read.after_reply r.read xid (replies c)).read)) (failed_entries r.read (read.after_reply r.read xid (replies c)).read)
  pub ends_read : (m : MdsValue) (node : NodeId) (xid : ℕ) (file : FileId) (s : ServedFile) (call : AwaitedCall) (c : DsCallValue) (replies : DsCallValue → DsReplyValue) (place : ℕ) (r : WaitingRead) (e : ReadEnd) → Heard call replies
      → IsHeard m node xid call (ForRead file) c → IsReadAt m file s xid place r → (read.after_reply r.read xid (replies c)).end ≡ Some e
      → Enters I m (without_read (heard_by node xid m) file s place) (failed_entries r.read (read.after_reply r.read xid (replies c)).read ++ end_entry file e ∷ [])
  -- an own write's is
  pub hears_write : (m : MdsValue) (node : NodeId) (xid : ℕ) (file : FileId) (s : ServedFile) (w : WaitingWrite) (call : AwaitedCall) (c : DsCallValue) (replies : DsCallValue → DsReplyValue) → Heard call replies
      → IsHeard m node xid call (ForWrite file) c → served m file ≡ Some s → s.write ≡ Some w → is_writer_out xid s.write ≡ true
      → Becomes I m (with_served (heard_by node xid m) file (record s { write = Some (write_stepped w (after_own_reply w.writer xid (replies c))) }))
  -- a callback is
  pub hears_recall : (m : MdsValue) (node : NodeId) (xid status : ℕ) (call : AwaitedCall) → find (is_call_to node xid) m.calls ≡ Some call → call.caller ≡ ForRecall → is_some (out_at m.recalls xid) ≡ true
      → Becomes I m (record (heard_by node xid m) { recalls = (after_reply m.recalls xid (recall_end status)).recalls })
  -- a call that nobody awaits is answered, or has timed out
  pub leaves : (m : MdsValue) (node : NodeId) (xid : ℕ) (call : AwaitedCall) → IsOneOf call m.calls → is_call_to node xid call ≡ true → is_awaited m call ≡ false → Becomes I m (heard_by node xid m)
  -- those that nobody awaits are forgotten
  pub forgets : (m : MdsValue) → Becomes I m (record m { calls = filter (is_awaited m) m.calls })
  -- A call that is awaited times out. Where it is awaited still its record goes again.
  pub late : (m : MdsValue) (call : AwaitedCall) → IsOneOf call m.calls → is_awaited m call ≡ true → Enters I m m (entry.TimedOut Mds call.xid ∷ [])
  pub again : (m : MdsValue) (call : AwaitedCall) → IsOneOf call m.calls → is_awaited m call ≡ true → (es : List Entry) (ss : List MdsSend) → I m es ss → I m es (ss ++ call.sent ∷ [])

-- ---- what goes out

pub record OutParts (I : MdsValue → List Entry → List MdsSend → Type 0) : Type 0 where
  -- a call goes out; of a callback the table of clients knows
  pub calls_file : (m : MdsValue) (file : FileId) (s : ServedFile) (c : CallOut) → served m file ≡ Some s → has_xids m ≡ true → s.write ≡ None → call_out s.file m.next_xid ≡ Some c
      → Keeps I m (calls_server m file (record s { file = c.file }) (ForFile file) c.server c.uid c.call)
  pub calls_write : (m : MdsValue) (file : FileId) (s : ServedFile) (w : WaitingWrite) (c : WriterSends) → served m file ≡ Some s → has_xids m ≡ true → s.write ≡ Some w → writer.next_sent w.writer m.next_xid ≡ Some c
      → Keeps I m (calls_server m file (record s { write = Some (record w { writer = c.writer }) }) (ForWrite file) c.id.server w.writer.cred c.call)
  pub calls_read : (m : MdsValue) (file : FileId) (s : ServedFile) (place : ℕ) (r : WaitingRead) (c : ReadSends) → served m file ≡ Some s → has_xids m ≡ true → slice_get s.reads place ≡ Some r
      → read.next_sent r.read m.next_xid ≡ Some c → Keeps I m (calls_server m file (with_read_at s place r c.read) (ForRead file) c.id.server 0 c.call)
  pub calls_back : (m : MdsValue) (sent : RecallSends) (session : SessionState) → has_xids m ≡ true → next_sent m.recalls m.next_xid ≡ Some sent
      → Keeps I m
      (calls_as (record m { recalls = sent.recalls }) (back_call sent.call.client session).node ForRecall
      (CallsBack m.next_xid (back_call sent.call.client session) sent.call.file (layout_stateid_of sent.call.file.0 sent.call.cred.0 (stateid_seqid (served m sent.call.file)))))
  -- the number of a recall whose client has no session is passed over
  pub skips : (m : MdsValue) (sent : RecallSends) → has_xids m ≡ true → next_sent m.recalls m.next_xid ≡ Some sent → Becomes I m (record m { recalls = sent.recalls; next_xid = xid_after m.next_xid })
  pub back : (m : MdsValue) (client : ℕ) → Becomes I m (moved m (CallBack client))
  -- the record of a call that was kept until the tick goes again
  pub repeats : (m : MdsValue) (server xid : ℕ) (call : AwaitedCall) → find (is_call_to (Server server) xid) m.calls ≡ Some call → (es : List Entry) (ss : List MdsSend) → I m es ss → I m es (ss ++ call.sent ∷ [])

-- ---- where a request of a slot begins

abbrev pub KeepsBegin : (MdsValue → List Entry → List MdsSend → Type 0) → Type 0
KeepsBegin I = (m : MdsValue) (request : Sequence) (now : ℕ) → Becomes I m (moved m (BeginRequest request now))

-- ---- all of what an event does

pub record EventParts (I : MdsValue → List Entry → List MdsSend → Type 0) (Heard : HeardOf) (W : CompoundRun → Type 0) : Type 0 where
  pub parts : Parts I Heard W
  pub runs : RunParts I
  -- any compound may wait
  pub any : (c : CompoundRun) → W c
  pub answers : GivesAnswers I
  pub calls : Calls I Heard
  pub outs : OutParts I
  pub begins : KeepsBegin I
