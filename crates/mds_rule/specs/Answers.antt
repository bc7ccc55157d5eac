-- What comes of the answers to a metadata server's calls, and of timeouts (RFC 8881, sections 12.5.5, 18.22, 18.32 and 20.3; RFC 1813,
-- section 3.3).
use Rattle.std.specs.Prelude.{ℕ, ◌+◌, Bool, true, false, ◌==◌, List, [], ◌∷◌, ◌++◌, length, map, position, Option, Some, None, is_some, if◌then◌else◌, slice_get, slice_set, remove, drop}
use Rattle.std.specs.Option.{option_map}
use Rattle.std.specs.List.{list_any, list_all, find}
use Rattle.std.proofs.Common.{inl}
use Rattle.ff_xdr.specs.Form.{Value}
use Rattle.ff_xdr.specs.Arms.{arm}
use Rattle.cluster_model.specs.declared.ids.NodeId.{NodeId}
use Rattle.cluster_model.specs.declared.ids.NodeId.TheVariants.{Server}
use Rattle.cluster_model.specs.declared.ids.FileId.{FileId}
use Rattle.cluster_model.specs.declared.ids.Mirror.{Mirror}
use Rattle.cluster_model.specs.declared.ids.MirrorId.{MirrorId}
use Rattle.cluster_model.specs.declared.phase.LeftCause.{LeftCause}
use Rattle.cluster_model.specs.declared.phase.EndCause.TheVariants.{Recalled, NoLayout as NoSuchLayout}
use Rattle.cluster_model.specs.declared.ds_call.Shown.{Shown}
use Rattle.cluster_model.specs.declared.entry.Entry.{Entry}
use Rattle.cluster_model.specs.declared.entry.Entry.TheVariants as entry
use Rattle.cluster_model.specs.DsCalls.{DsCallValue, Create, SetAttr, Write, Commit, Read, DsReplyValue, Created, Set, Written, Committed, Bytes, NotSync, Failed}
use Rattle.cluster_model.specs.Fences.{is_out}
use Rattle.ds_calls.specs.GivenReplies.{odd_answer}
use Rattle.cluster_model.specs.Journal.{is_mirror}
use Rattle.file_rule.specs.FilePhases.{Answers, TimesOut, OwnEnds, Revokes, Sees, is_outstanding}
use Rattle.mds_io.specs.declared.read_end.Failure.{Failure}
use Rattle.mds_io.specs.declared.read_end.ReadEnd.{ReadEnd}
use Rattle.mds_io.specs.declared.read_end.ReadEnd.TheVariants as end
use Rattle.mds_io.specs.Reads.{ReadState, ReadAfter}
use Rattle.mds_io.specs.Reads as read
use Rattle.mds_io.specs.OwnWrites.{after_own_reply, ended}
use Rattle.mirror_writer.specs.declared.step.WriterStep.{WriterStep}
use Rattle.mirror_writer.specs.declared.step.WriterStep.TheVariants as step
use Rattle.mirror_writer.specs.Writers.{WriterValue, WriterAfter, is_call}
use Rattle.mirror_writer.specs.Writers as writer
use Rattle.nfs4_types.specs.declared.status.Stat4.{Stat4}
use Rattle.nfs4_types.specs.declared.status.Stat4.TheVariants as stat
use Rattle.nfs4_compound.specs.Results.{resop4}
use Rattle.recall.specs.declared.recall.Outcome.{Outcome}
use Rattle.recall.specs.declared.recall.Outcome.TheVariants as outcome
use Rattle.recall.specs.Recalls.{RecallsAfter, out_at}
use Rattle.recall.specs.Recalls as recalls
use Rattle.mds_rule.specs.MdsStates as mds
use Rattle.mds_rule.specs.MdsStates.{CompoundRun, WaitingRead, WaitingWrite, ServedFile, MdsSend, CallsServer, CallsBack, Replies, AwaitedCall, MdsValue, MdsStep, sends_none, enters, and_then, is_call_to, without_call, served, with_served, with_size}
use Rattle.mds_rule.specs.declared.waiter.Waiter.{Waiter}
use Rattle.mds_rule.specs.declared.waiter.Waiter.TheVariants.{ForFile, ForRead, ForWrite, ForRecall}
use Rattle.mds_rule.specs.OpSteps.{OpStep, Goes, Ends, with_result, refused_as}
use Rattle.mds_rule.specs.ServedFiles.{takes_input}
use Rattle.mds_rule.specs.FileOps.{write_result}
use Rattle.mds_rule.specs.Compounds.{op_then, runs}

-- ---- the calls that are outstanding

abbrev pub is_read_out : ℕ → WaitingRead → Bool
is_read_out xid r = is_out xid r.read.stage

abbrev pub is_writer_out : ℕ → Option WaitingWrite → Bool
is_writer_out xid None = false
is_writer_out xid (Some w) = list_any (λ m. is_call xid m.call) w.writer.mirrors

abbrev pub server_number : NodeId → ℕ
server_number (Server n) = n
server_number node = 0

abbrev pub is_file_out : NodeId → ℕ → Option ServedFile → Bool
is_file_out node xid None = false
is_file_out node xid (Some s) = is_outstanding s.file (server_number node) xid

abbrev pub has_read_out : ℕ → Option ServedFile → Bool
has_read_out xid None = false
has_read_out xid (Some s) = list_any (is_read_out xid) s.reads

abbrev pub has_write_out : ℕ → Option ServedFile → Bool
has_write_out xid None = false
has_write_out xid (Some s) = is_writer_out xid s.write

-- whoever sent it waits for it still: a call of what has ended is outstanding no more
abbrev pub is_awaited_by : MdsValue → NodeId → ℕ → Waiter → Bool
is_awaited_by m node xid (ForFile file) = is_file_out node xid (served m file)
is_awaited_by m node xid (ForRead file) = has_read_out xid (served m file)
is_awaited_by m node xid (ForWrite file) = has_write_out xid (served m file)
is_awaited_by m node xid ForRecall = is_some (out_at m.recalls xid)

abbrev pub is_awaited : MdsValue → AwaitedCall → Bool
is_awaited m call = is_awaited_by m call.node call.xid call.caller

-- ---- what an answer shows of a mirror's size

abbrev pub attributes_shown : DsReplyValue → Option Shown
attributes_shown (Created fileid shown) = Some shown
attributes_shown (Set shown) = shown
attributes_shown (Written shown verifier) = shown
attributes_shown (Committed shown verifier) = shown
attributes_shown (Bytes shown eof bytes) = shown
attributes_shown (NotSync shown) = Some shown
attributes_shown (Failed status shown) = shown

abbrev pub made_fileid : DsReplyValue → Option ℕ
made_fileid (Created fileid shown) = Some fileid
made_fileid reply = None

abbrev pub fileid_of : DsCallValue → DsReplyValue → Option ℕ
fileid_of (Create name owner) reply = made_fileid reply
fileid_of (SetAttr fileid owner guard) reply = Some fileid
fileid_of (Write fileid at synced bytes) reply = Some fileid
fileid_of (Commit fileid) reply = Some fileid
fileid_of (Read fileid at count) reply = Some fileid

abbrev pub sized : ServedFile → ℕ → Option ℕ → Option Shown → ServedFile
sized s server (Some fileid) (Some shown) = record s { sizes = with_size (record { server = server; fileid = fileid }) shown.size s.sizes }
sized s server None shown = s
sized s server (Some fileid) None = s

abbrev pub sees_in : MdsValue → FileId → ℕ → DsCallValue → DsReplyValue → Option ServedFile → MdsValue
sees_in m file server call reply None = m
sees_in m file server call reply (Some s) = with_served m file (sized s server (fileid_of call reply) (attributes_shown reply))

abbrev pub sees_size : MdsValue → FileId → ℕ → DsCallValue → DsReplyValue → MdsValue
sees_size m file server call reply = sees_in m file server call reply (served m file)

-- ---- what a file's own call is answered with

-- A READ of a file's own is that of a copy. One that gives no bytes and does not say that the file ends there is odd, and nothing in it is
-- relied on: the copy would never end.
abbrev pub gives_nothing : Bool → List ℕ → Bool
gives_nothing true bytes = false
gives_nothing false [] = true
gives_nothing false (b ∷ bytes) = false

abbrev pub copy_read : DsReplyValue → DsReplyValue
copy_read (Bytes shown eof bytes) = if gives_nothing eof bytes then odd_answer else Bytes shown eof bytes
copy_read (Created fileid shown) = Created fileid shown
copy_read (Set shown) = Set shown
copy_read (Written shown verifier) = Written shown verifier
copy_read (Committed shown verifier) = Committed shown verifier
copy_read (NotSync shown) = NotSync shown
copy_read (Failed status shown) = Failed status shown

abbrev pub own_answer : DsCallValue → DsReplyValue → DsReplyValue
own_answer (Create name owner) reply = reply
own_answer (SetAttr fileid owner guard) reply = reply
own_answer (Write fileid at synced bytes) reply = reply
own_answer (Commit fileid) reply = reply
own_answer (Read fileid at count) reply = copy_read reply

-- ---- a compound goes on behind what it waited for

abbrev pub resumes : ℕ → OpStep → List (Value Rattle.nfs4_compound.specs.Args.argop4) → MdsStep
resumes now s ops = op_then s (λ n d. runs now ops n d)

abbrev pub is_done_as : MdsValue → CompoundRun → Value resop4 → OpStep
is_done_as m c result = Goes m [] (with_result c result)

abbrev pub has_failed_as : MdsValue → CompoundRun → ℕ → OpStep
has_failed_as m c number = Ends m [] (with_result c (refused_as number stat.Io)) stat.Io

-- ---- a read

-- the failures that came with this step
abbrev pub failed_entry : Failure → Entry
failed_entry f = entry.Failed f.id f.xid

abbrev pub failed_entries : ReadState → ReadState → List Entry
failed_entries old new = map failed_entry (drop (length old.failures) new.failures)

abbrev pub read_result : Bool → List ℕ → Value resop4
read_result eof bytes = arm 25 resop4 (inl (eof, bytes))

-- the file without the read at this place
abbrev pub without_read : MdsValue → FileId → ServedFile → ℕ → MdsValue
without_read m file s place = with_served m file (record s { reads = remove s.reads place })

-- the read has ended, and its compound goes on
abbrev pub read_resumes : ℕ → MdsValue → FileId → CompoundRun → ReadEnd → MdsStep
read_resumes now m file c (end.Bytes eof bytes) = enters (entry.ReadAnswer file 0 bytes ∷ []) (resumes now (is_done_as m c (read_result eof bytes)) c.ops)
read_resumes now m file c (end.AllFailed failures) = enters (entry.ReadAnswer file 5 [] ∷ []) (resumes now (has_failed_as m c 25) c.ops)

abbrev pub read_ends : ℕ → MdsValue → FileId → ServedFile → ℕ → WaitingRead → ReadState → Option ReadEnd → MdsStep
read_ends now m file s place r after None = sends_none (with_served m file (record s { reads = slice_set s.reads place (record { compound = r.compound; read = after }) }))
read_ends now m file s place r after (Some e) = read_resumes now (without_read m file s place) file r.compound e

abbrev pub read_after : ℕ → MdsValue → FileId → ServedFile → ℕ → WaitingRead → ReadAfter → MdsStep
read_after now m file s place r after = enters (failed_entries r.read after.read) (read_ends now m file s place r after.read after.end)

abbrev pub read_step_at : ℕ → MdsValue → FileId → ServedFile → (ReadState → ReadAfter) → ℕ → Option WaitingRead → MdsStep
read_step_at now m file s step place None = sends_none m
read_step_at now m file s step place (Some r) = read_after now m file s place r (step r.read)

abbrev pub read_from : ℕ → MdsValue → FileId → ServedFile → (ReadState → ReadAfter) → Option ℕ → MdsStep
read_from now m file s step None = sends_none m
read_from now m file s step (Some place) = read_step_at now m file s step place (slice_get s.reads place)

abbrev pub read_of : ℕ → MdsValue → FileId → ℕ → (ReadState → ReadAfter) → Option ServedFile → MdsStep
read_of now m file xid step None = sends_none m
read_of now m file xid step (Some s) = read_from now m file s step (position (is_read_out xid) s.reads)

-- a step of the read whose call has this number
abbrev pub steps_read : ℕ → MdsValue → FileId → ℕ → (ReadState → ReadAfter) → MdsStep
steps_read now m file xid step = read_of now m file xid step (served m file)

-- ---- an own write

abbrev pub with_failed : WriterStep → List (MirrorId × LeftCause) → List (MirrorId × LeftCause)
with_failed (step.Failed id cause) failures = failures ++ (id, cause) ∷ []
with_failed other failures = failures

-- why each live mirror failed it, where it did
abbrev pub is_failure_of : MirrorId → MirrorId × LeftCause → Bool
is_failure_of id failure = is_mirror failure.0 id

abbrev pub cause_at : List (MirrorId × LeftCause) → Mirror → Option LeftCause
cause_at failures m = option_map (λ (failure : MirrorId × LeftCause). failure.1) (find (is_failure_of m.id) failures)

abbrev pub cause_there : List (MirrorId × LeftCause) → Option Mirror → Option LeftCause
cause_there failures None = None
cause_there failures (Some m) = cause_at failures m

-- for each place in the live list; none past its end
abbrev pub failures_by_place : List (MirrorId × LeftCause) → List Mirror → List (Option LeftCause)
failures_by_place failures live =
    cause_there failures (slice_get live 0) ∷ cause_there failures (slice_get live 1) ∷ cause_there failures (slice_get live 2) ∷ cause_there failures (slice_get live 3) ∷ []

abbrev pub has_failed_everywhere : List (MirrorId × LeftCause) → List Mirror → Bool
has_failed_everywhere failures live = list_all (λ m. is_some (cause_at failures m)) live

-- it is over: the period ends, and then the WRITE is answered, as IO where every mirror failed
abbrev pub write_answer : MdsValue → CompoundRun → ℕ → Bool → OpStep
write_answer m c count true = has_failed_as m c 38
write_answer m c count false = is_done_as m c (write_result count)

abbrev pub write_over : ℕ → MdsStep → CompoundRun → ℕ → Bool → MdsStep
write_over now s c count all_failed = and_then s (λ n. resumes now (write_answer n c count all_failed) c.ops)

abbrev pub write_ends : ℕ → MdsValue → FileId → ServedFile → WaitingWrite → Option (List Bool) → MdsStep
write_ends now m file s w None = sends_none (with_served m file (record s { write = Some w }))
write_ends now m file s w (Some places) =
    write_over now
    (takes_input (with_served m file (record s { write = None })) file (OwnEnds (failures_by_place w.failures s.file.layout.live) w.at w.bytes))
    w.compound (length w.bytes) (has_failed_everywhere w.failures s.file.layout.live)

abbrev pub write_stepped : WaitingWrite → WriterAfter → WaitingWrite
write_stepped w a = record w { writer = a.writer; failures = with_failed a.step w.failures }

abbrev pub write_after : ℕ → MdsValue → FileId → ServedFile → WaitingWrite → WriterAfter → MdsStep
write_after now m file s w a = write_ends now m file s (write_stepped w a) (ended a.writer)

abbrev pub write_of : ℕ → MdsValue → FileId → (WriterValue → WriterAfter) → ServedFile → Option WaitingWrite → MdsStep
write_of now m file step s None = sends_none m
write_of now m file step s (Some w) = write_after now m file s w (step w.writer)

abbrev pub write_in : ℕ → MdsValue → FileId → (WriterValue → WriterAfter) → Option ServedFile → MdsStep
write_in now m file step None = sends_none m
write_in now m file step (Some s) = write_of now m file step s s.write

abbrev pub steps_write : ℕ → MdsValue → FileId → (WriterValue → WriterAfter) → MdsStep
steps_write now m file step = write_in now m file step (served m file)

-- the ctime that an answer to it shows is the last seen there
abbrev pub sees_ctime : MdsValue → FileId → ℕ → Option ℕ → Option Shown → MdsStep
sees_ctime m file server (Some fileid) (Some shown) = takes_input m file (Sees (record { server = server; fileid = fileid }) shown.seen)
sees_ctime m file server None shown = sends_none m
sees_ctime m file server (Some fileid) None = sends_none m

-- ---- recalls

-- a status that a callback was answered with: OK, NOMATCHING_LAYOUT, or any other
abbrev pub recall_end : ℕ → Stat4
recall_end number = if number == 0 then stat.Ok else (if number == 10060 then stat.NoMatchingLayout else stat.ServerFault)

abbrev pub recall_outcome : MdsValue → Outcome → MdsStep
recall_outcome m (outcome.NoLayout file cred) = takes_input m file (Revokes NoSuchLayout)
recall_outcome m (outcome.Expired file cred) = takes_input m file (Revokes Recalled)
recall_outcome m other = sends_none m

abbrev pub recalls_after : MdsValue → RecallsAfter → MdsStep
recalls_after m a = recall_outcome (record m { recalls = a.recalls }) a.outcome

-- ---- an answer

abbrev pub server_answered : ℕ → MdsValue → ℕ → ℕ → DsCallValue → DsReplyValue → Waiter → MdsStep
server_answered now m server xid call reply (ForFile file) = takes_input (sees_size m file server call (own_answer call reply)) file (Answers xid (own_answer call reply))
server_answered now m server xid call reply (ForRead file) = steps_read now (sees_size m file server call reply) file xid (λ r. read.after_reply r xid reply)
server_answered now m server xid call reply (ForWrite file) =
    and_then (sees_ctime (sees_size m file server call reply) file server (fileid_of call reply) (attributes_shown reply)) (λ n. steps_write now n file (λ w. after_own_reply w xid reply))
server_answered now m server xid call reply ForRecall = sends_none m

-- what the reply says goes by the call that was sent: to a data server, or a callback by its status
abbrev pub answered_as : ℕ → MdsValue → ℕ → (DsCallValue → DsReplyValue) → ℕ → Waiter → MdsSend → MdsStep
answered_as now m xid reply status caller (CallsServer server own uid call) = server_answered now m server xid call (reply call) caller
answered_as now m xid reply status caller (CallsBack own back file stateid) = recalls_after m (recalls.after_reply m.recalls xid (recall_end status))
answered_as now m xid reply status caller (Replies node other) = sends_none m
answered_as now m xid reply status caller (mds.Answers node bytes) = sends_none m

-- the call is outstanding no more; an answer to one that nobody waits for is passed over
abbrev pub answers_found : ℕ → MdsValue → NodeId → ℕ → (DsCallValue → DsReplyValue) → ℕ → Option AwaitedCall → MdsStep
answers_found now m node xid reply status None = sends_none m
answers_found now m node xid reply status (Some call) =
    if is_awaited m call then answered_as now (record m { calls = without_call node xid m.calls }) xid reply status call.caller call.sent
    else sends_none (record m { calls = without_call node xid m.calls })

abbrev pub takes_answer : ℕ → MdsValue → NodeId → ℕ → (DsCallValue → DsReplyValue) → ℕ → MdsStep
takes_answer now m node xid reply status = answers_found now m node xid reply status (find (is_call_to node xid) m.calls)

-- ---- a timeout

abbrev pub timed_out_for : ℕ → MdsValue → ℕ → Waiter → MdsStep
timed_out_for now m xid (ForFile file) = takes_input m file (TimesOut xid)
timed_out_for now m xid (ForRead file) = steps_read now m file xid (λ r. read.after_timeout r xid)
timed_out_for now m xid (ForWrite file) = steps_write now m file (λ w. writer.after_timeout w xid)
timed_out_for now m xid ForRecall = recalls_after m (recalls.after_timeout m.recalls xid)
