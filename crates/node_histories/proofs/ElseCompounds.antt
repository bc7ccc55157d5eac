-- A compound from another node, and what comes of answers and timeouts, leave a server that knows no node as itself, and send elsewhere.
use Rattle.std.proofs.Common.{◌≡◌, ℕ, suc, Bool, true, false, List, [], ◌∷◌, ◌++◌, length, Option, Some, None, refl, sym, subst}
use Rattle.std.specs.Prelude.{not, ◌==◌, slice_get, slice_set, remove, take, drop, position}
use Rattle.std.specs.List.{find}
use Rattle.std.proofs.lemmas.Bool.{cond_both}
use Rattle.std.proofs.lemmas.List.{take-append-drop}
use Rattle.ff_xdr.specs.Form.{Value, arm_of}
use Rattle.ff_xdr.specs.Arms.{of_each_arm}
use Rattle.cluster_model.specs.declared.ids.NodeId.{NodeId}
use Rattle.cluster_model.specs.declared.ids.FileId.{FileId}
use Rattle.cluster_model.specs.declared.ds_call.Shown.{Shown}
use Rattle.cluster_model.specs.declared.phase.EndCause.TheVariants.{Recalled, NoLayout as NoSuchLayout}
use Rattle.cluster_model.specs.DsCalls.{DsCallValue, DsReplyValue}
use Rattle.file_rule.specs.FilePhases.{Answers, TimesOut, OwnEnds, Revokes, Sees}
use Rattle.mds_io.specs.OwnWrites.{after_own_reply, ended}
use Rattle.mds_io.specs.Reads as read
use Rattle.mds_io.specs.Reads.{ReadState, ReadAfter}
use Rattle.mds_io.specs.declared.read_end.ReadEnd.{ReadEnd}
use Rattle.mds_io.specs.declared.read_end.ReadEnd.TheVariants as end
use Rattle.mirror_writer.specs.Writers as writer
use Rattle.mirror_writer.specs.Writers.{WriterValue, WriterAfter}
use Rattle.nfs4_types.specs.declared.sequence.Sequence.{Sequence}
use Rattle.nfs4_types.specs.Sequences.{sequence4_args}
use Rattle.nfs4_types.specs.declared.status.Stat4.{Stat4}
use Rattle.nfs4_types.specs.declared.status.Stat4.TheVariants as stat
use Rattle.nfs4_compound.specs.Args.{argop4}
use Rattle.nfs4_compound.specs.Compounds.{CompoundValue}
use Rattle.nfs4_compound.specs.declared.stop.Stop.{Stop}
use Rattle.nfs4_compound.specs.declared.stop.Stop.TheVariants as stop
use Rattle.nfs4_session.specs.declared.begin.SlotPass.{SlotPass}
use Rattle.nfs4_session.specs.Clients.{SessionsState}
use Rattle.nfs4_session.specs.Bindings.{after_binding}
use Rattle.nfs4_session.specs.Requests.{request_answer, after_request}
use Rattle.nfs4_session.specs.Slots.{SlotAnswer, TakesEffect, Repeats, Refuses}
use Rattle.recall.specs.Recalls as recalls
use Rattle.recall.specs.Recalls.{RecallsAfter}
use Rattle.recall.specs.declared.recall.Outcome.{Outcome}
use Rattle.recall.specs.declared.recall.Outcome.TheVariants as outcome
use Rattle.mds_rule.specs.declared.waiter.Waiter.{Waiter}
use Rattle.mds_rule.specs.declared.waiter.Waiter.TheVariants.{ForFile, ForRead, ForWrite, ForRecall}
use Rattle.mds_rule.specs.MdsStates as mds
use Rattle.mds_rule.specs.MdsStates.{CompoundRun, WaitingRead, WaitingWrite, ServedFile, MdsSend, CallsServer, CallsBack, Replies, AwaitedCall, MdsValue, MdsStep, sends_none, enters, and_then, served, with_served, is_call_to, without_call}
use Rattle.mds_rule.specs.OpSteps.{OpStep, Goes, Ends, Waits, with_result, refuses, refused_as, unread, stopped, is_operation_number}
use Rattle.mds_rule.specs.ServedFiles.{takes_input}
use Rattle.mds_rule.specs.Compounds.{operate, has_session, operates, compound_bytes, kept_in_slot, finishes, op_then, with_ops, runs, sequence_in, in_slot, sequenced, sequence_of, may_stand_alone, first_alone, first_by, first_operation, new_run, runs_compound}
use Rattle.mds_rule.specs.Answers.{is_awaited, sized, fileid_of, attributes_shown, sees_in, sees_size, resumes, is_done_as, has_failed_as, read_result, without_read, read_ends, read_step_at, read_from, read_of, steps_read, is_read_out, write_answer, write_stepped, write_ends, write_of, write_in, steps_write, failures_by_place, has_failed_everywhere, sees_ctime, recall_end, recall_outcome, recalls_after, own_answer, server_answered, answered_as, answers_found, takes_answer, timed_out_for}
use Rattle.mds_walk.proofs.Lists.{AllOf, all_set, all_got}
use Rattle.node_histories.proofs.Elsewhere.{all_join, IsElse, TableElse, ReadElse, WriteElse, FileElse, Else, StepElse, binding_else, request_else, finish_else, with_table, with_file_else, served_else, without_calls_else, none_goes, then_goes}
use Rattle.node_histories.proofs.ElseInputs.{takes_else}
use Rattle.node_histories.proofs.ElseOperations.{OpElse, puts_fh, gets_fh, looks_up, gets_attr, opens_so, closes_file, commits, reads, writes, layout_gets, layout_returns, layout_commits, device_infos, exchanges, creates, binds, destroys_session, destroys_client, reclaims_all}

-- ---- one operation after the other

slot_else : (s : SessionsState) (slot : Option SlotPass) (bytes : List ℕ) → TableElse s → TableElse (kept_in_slot s slot bytes)
slot_else s None bytes t = t
slot_else s (Some slot) bytes t = finish_else s slot bytes t

finished_else : (m : MdsValue) (c : CompoundRun) (status : Stat4) → Else m → IsElse c.node → StepElse (finishes m c status)
finished_else m c status e its = (with_table m (kept_in_slot m.sessions c.slot (compound_bytes c status)) e (slot_else m.sessions c.slot (compound_bytes c status) e.table), (its, tt))

op_else : (s : OpStep) (next : MdsValue → CompoundRun → MdsStep) → OpElse s → ((n : MdsValue) (d : CompoundRun) → Else n → IsElse d.node → StepElse (next n d)) → StepElse (op_then s next)
op_else (Goes n entries c) next q all = all n c q.0 q.1
op_else (Ends n entries c status) next q all = finished_else n c status q.0 q.1
op_else (Waits n entries) next q all = none_goes n q

number_else : (m : MdsValue) (c : CompoundRun) (number : ℕ) (b : Bool) → Else m → IsElse c.node → OpElse (unread m c number b)
number_else m c number true e its = (e, its)
number_else m c number false e its = (e, its)

stop_else : (m : MdsValue) (c : CompoundRun) (s : Stop) → Else m → IsElse c.node → OpElse (stopped m c s)
stop_else m c (stop.End rest) e its = (e, its)
stop_else m c (stop.Unread number) e its = number_else m c number (is_operation_number number) e its
stop_else m c (stop.Bad error) e its = (e, its)

operate_else : (now : ℕ) (m : MdsValue) (c : CompoundRun) (op : Value argop4) → Else m → IsElse c.node → OpElse (operate now m c op)
operate_else now m c op e its =
    of_each_arm argop4 (λ (v : Value argop4). OpElse (operate now m c v)) (
      (λ close. closes_file m c e its close),
      (
        (λ commit. commits m c e its),
        (
          (λ words. gets_attr m c e its words),
          (
            (λ nothing. gets_fh m c e its),
            (
              (λ name. looks_up m c e its name),
              (
                (λ opening. opens_so m c e its opening),
                (
                  (λ handle. puts_fh m c e its handle),
                  (
                    (λ nothing. (e, its)),
                    (
                      (λ read. reads m c e its read),
                      (
                        (λ write. writes m c e its now write),
                        (
                          (λ bind. binds m c e its bind),
                          (
                            (λ exchange. exchanges m c e its now exchange),
                            (
                              (λ create. creates m c e its now create),
                              (
                                (λ session. destroys_session m c e its session),
                                (
                                  (λ device. device_infos m c e its device),
                                  (
                                    (λ commit. layout_commits m c e its commit),
                                    (
                                      (λ layout. layout_gets m c e its now layout),
                                      (
                                        (λ layout. layout_returns m c e its layout),
                                        (
                                          (λ sequence. (e, its)),
                                          (
                                            (λ client. destroys_client m c e its client),
                                            ((λ one_fs. reclaims_all m c e its c.slot), tt),
                                          ),
                                        ),
                                      ),
                                    ),
                                  ),
                                ),
                              ),
                            ),
                          ),
                        ),
                      ),
                    ),
                  ),
                ),
              ),
            ),
          ),
        ),
      ),
    ) op

operates_else : (now : ℕ) (m : MdsValue) (c : CompoundRun) (op : Value argop4) → Else m → IsElse c.node → OpElse (operates now m c op)
operates_else now m c op e its =
    cond_both (has_session m c.slot) (operate now m c op) (refuses m c (arm_of argop4 op) stat.BadSession) (λ (s : OpStep). OpElse s) (λ is. operate_else now m c op e its) (λ off. (e, its))

run_else : (now : ℕ) (ops : List (Value argop4)) (m : MdsValue) (c : CompoundRun) → Else m → IsElse c.node → StepElse (runs now ops m c)
run_else now [] m c e its = op_else (stopped m (with_ops c []) c.stop) (λ n d. sends_none n) (stop_else m (with_ops c []) c.stop e its) (λ n d k same. none_goes n k)
run_else now (op ∷ ops) m c e its = op_else (operates now m (with_ops c ops) op) (λ n d. runs now ops n d) (operates_else now m (with_ops c ops) op e its) (λ n d k same. run_else now ops n d k same)

-- ---- the first one

sequence_else : (now : ℕ) (m : MdsValue) (c : CompoundRun) (ops : List (Value argop4)) (s : Sequence) (a : SlotAnswer) → Else m → IsElse c.node → StepElse (sequenced now m c ops s a)
sequence_else now m c ops s TakesEffect e its = run_else now ops (record m { sessions = after_request m.sessions s now }) (in_slot c s) (with_table m (after_request m.sessions s now) e (request_else m.sessions s now e.table)) its
sequence_else now m c ops s (Repeats reply) e its = (e, (its, tt))
sequence_else now m c ops s (Refuses status) e its = finished_else m (with_result c (refused_as 53 status)) status e its

first_else : (now : ℕ) (m : MdsValue) (c : CompoundRun) (count : ℕ) (op : Value argop4) (ops : List (Value argop4)) (o : Option (Value sequence4_args)) → Else m → IsElse c.node → StepElse (first_by now m c count op ops o)
first_else now m c count op ops (Some args) e its =
    let s : Sequence = sequence_in args in
    let n : MdsValue = record m { sessions = after_binding m.sessions s.session c.node } in
    sequence_else now n c ops s (request_answer n.sessions s) (with_table m (after_binding m.sessions s.session c.node) e (binding_else m.sessions s.session c.node its e.table)) its
first_else now m c count op ops None e its =
    cond_both (may_stand_alone (arm_of argop4 op)) (first_alone now m c count op ops) (op_then (refuses m c (arm_of argop4 op) stat.OpNotInSession) (λ n d. sends_none n)) (λ (s : MdsStep). StepElse s)
    (λ is.
    cond_both (not (count == 1)) (op_then (refuses m c (arm_of argop4 op) stat.NotOnlyOp) (λ n d. sends_none n)) (op_then (operate now m (with_ops c ops) op) (λ n d. runs now ops n d)) (λ (s : MdsStep). StepElse s)
    (λ more. op_else (refuses m c (arm_of argop4 op) stat.NotOnlyOp) (λ n d. sends_none n) (e, its) (λ n d k same. none_goes n k))
    (λ one. op_else (operate now m (with_ops c ops) op) (λ n d. runs now ops n d) (operate_else now m (with_ops c ops) op e its) (λ n d k same. run_else now ops n d k same)))
    (λ off. op_else (refuses m c (arm_of argop4 op) stat.OpNotInSession) (λ n d. sends_none n) (e, its) (λ n d k same. none_goes n k))

ops_else : (now : ℕ) (m : MdsValue) (c : CompoundRun) (count : ℕ) (ops : List (Value argop4)) → Else m → IsElse c.node → StepElse (first_operation now m c count ops)
ops_else now m c count [] e its = run_else now [] m c e its
ops_else now m c count (op ∷ ops) e its = first_else now m c count op ops (sequence_of op) e its

pub compound_else : (now : ℕ) (m : MdsValue) (node : NodeId) (xid : ℕ) (v : CompoundValue) → Else m → IsElse node → StepElse (runs_compound now m node xid v)
compound_else now m node xid v e its = ops_else now m (new_run node xid v) v.count v.ops.values e its

-- ---- a compound goes on

resumed_else : (now : ℕ) (s : OpStep) (ops : List (Value argop4)) → OpElse s → StepElse (resumes now s ops)
resumed_else now s ops q = op_else s (λ n d. runs now ops n d) q (λ n d k same. run_else now ops n d k same)

-- ---- what an answer shows

sized_else : (s : ServedFile) (server : ℕ) (fileid : Option ℕ) (shown : Option Shown) → FileElse s → FileElse (sized s server fileid shown)
sized_else s server (Some fileid) (Some shown) its = its
sized_else s server None shown its = its
sized_else s server (Some fileid) None its = its

seen_else : (m : MdsValue) (file : FileId) (server : ℕ) (call : DsCallValue) (reply : DsReplyValue) (o : Option ServedFile) → served m file ≡ o → Else m → Else (sees_in m file server call reply o)
seen_else m file server call reply None is e = e
seen_else m file server call reply (Some s) is e =
    with_file_else m file (sized s server (fileid_of call reply) (attributes_shown reply)) e (sized_else s server (fileid_of call reply) (attributes_shown reply) (served_else m file s e is))

sees_else : (m : MdsValue) (file : FileId) (server : ℕ) (call : DsCallValue) (reply : DsReplyValue) → Else m → Else (sees_size m file server call reply)
sees_else m file server call reply e = seen_else m file server call reply (served m file) refl e

-- ---- a read

front_of : {A : Type 0} (P : A → Type 0) (a b : List A) → AllOf P (a ++ b) → AllOf P a
front_of P [] b all = tt
front_of P (x ∷ a) b all = (all.0, front_of P a b all.1)

back_of : {A : Type 0} (P : A → Type 0) (a b : List A) → AllOf P (a ++ b) → AllOf P b
back_of P [] b all = all
back_of P (x ∷ a) b all = back_of P a b all.1

taken_all : {A : Type 0} (P : A → Type 0) (n : ℕ) (xs : List A) → AllOf P xs → AllOf P (take n xs)
taken_all {A = A} P n xs all = front_of P (take n xs) (drop n xs) (subst (λ (l : List A). AllOf P l) (sym (take-append-drop n xs)) all)

dropped_all : {A : Type 0} (P : A → Type 0) (n : ℕ) (xs : List A) → AllOf P xs → AllOf P (drop n xs)
dropped_all {A = A} P n xs all = back_of P (take n xs) (drop n xs) (subst (λ (l : List A). AllOf P l) (sym (take-append-drop n xs)) all)

all_without : {A : Type 0} (P : A → Type 0) (xs : List A) (place : ℕ) → AllOf P xs → AllOf P (remove xs place)
all_without P xs place all = all_join P (take place xs) (drop (suc place) xs) (taken_all P place xs all) (dropped_all P (suc place) xs all)

read_end_else : (now : ℕ) (m : MdsValue) (file : FileId) (s : ServedFile) → served m file ≡ Some s → (place : ℕ) (r : WaitingRead) → IsElse r.compound.node → (after : ReadState) (o : Option ReadEnd) → Else m
    → StepElse (read_ends now m file s place r after o)
read_end_else now m file s is place r its after None e =
    let was : FileElse s = served_else m file s e is in
    none_goes (with_served m file (record s { reads = slice_set s.reads place (record { compound = r.compound; read = after }) }))
    (with_file_else m file (record s { reads = slice_set s.reads place (record { compound = r.compound; read = after }) }) e (was.0, all_set ReadElse s.reads place (record { compound = r.compound; read = after }) was.1 its))
read_end_else now m file s is place r its after (Some (end.Bytes eof bytes)) e =
    let was : FileElse s = served_else m file s e is in
    let k : Else (without_read m file s place) = with_file_else m file (record s { reads = remove s.reads place }) e (was.0, all_without ReadElse s.reads place was.1) in
    resumed_else now (is_done_as (without_read m file s place) r.compound (read_result eof bytes)) r.compound.ops (k, its)
read_end_else now m file s is place r its after (Some (end.AllFailed failures)) e =
    let was : FileElse s = served_else m file s e is in
    let k : Else (without_read m file s place) = with_file_else m file (record s { reads = remove s.reads place }) e (was.0, all_without ReadElse s.reads place was.1) in
    resumed_else now (has_failed_as (without_read m file s place) r.compound 25) r.compound.ops (k, its)

read_at_else : (now : ℕ) (m : MdsValue) (file : FileId) (s : ServedFile) → served m file ≡ Some s → (step : ReadState → ReadAfter) (place : ℕ) (o : Option WaitingRead) → slice_get s.reads place ≡ o → Else m
    → StepElse (read_step_at now m file s step place o)
read_at_else now m file s is step place None there e = none_goes m e
read_at_else now m file s is step place (Some r) there e =
    let after : ReadAfter = step r.read in
    read_end_else now m file s is place r (all_got ReadElse s.reads place r (served_else m file s e is).1 there) after.read after.end e

read_from_else : (now : ℕ) (m : MdsValue) (file : FileId) (s : ServedFile) → served m file ≡ Some s → (step : ReadState → ReadAfter) (o : Option ℕ) → Else m → StepElse (read_from now m file s step o)
read_from_else now m file s is step None e = none_goes m e
read_from_else now m file s is step (Some place) e = read_at_else now m file s is step place (slice_get s.reads place) refl e

read_of_else : (now : ℕ) (m : MdsValue) (file : FileId) (xid : ℕ) (step : ReadState → ReadAfter) (o : Option ServedFile) → served m file ≡ o → Else m → StepElse (read_of now m file xid step o)
read_of_else now m file xid step None is e = none_goes m e
read_of_else now m file xid step (Some s) is e = read_from_else now m file s is step (position (is_read_out xid) s.reads) e

read_steps : (now : ℕ) (m : MdsValue) (file : FileId) (xid : ℕ) (step : ReadState → ReadAfter) → Else m → StepElse (steps_read now m file xid step)
read_steps now m file xid step e = read_of_else now m file xid step (served m file) refl e

-- ---- an own write

write_answered : (m : MdsValue) (c : CompoundRun) (count : ℕ) (failed : Bool) → Else m → IsElse c.node → OpElse (write_answer m c count failed)
write_answered m c count true e its = (e, its)
write_answered m c count false e its = (e, its)

write_end_else : (now : ℕ) (m : MdsValue) (file : FileId) (s : ServedFile) → served m file ≡ Some s → (w : WaitingWrite) → IsElse w.compound.node → (o : Option (List Bool)) → Else m → StepElse (write_ends now m file s w o)
write_end_else now m file s is w its None e = none_goes (with_served m file (record s { write = Some w })) (with_file_else m file (record s { write = Some w }) e (its, (served_else m file s e is).1))
write_end_else now m file s is w its (Some places) e =
    let n : MdsValue = with_served m file (record s { write = None }) in
    let failed : Bool = has_failed_everywhere w.failures s.file.layout.live in
    let x : MdsStep = takes_input n file (OwnEnds (failures_by_place w.failures s.file.layout.live) w.at w.bytes) in
    then_goes x (λ y. resumes now (write_answer y w.compound (length w.bytes) failed) w.compound.ops)
    (takes_else n file (OwnEnds (failures_by_place w.failures s.file.layout.live) w.at w.bytes) (with_file_else m file (record s { write = None }) e (tt, (served_else m file s e is).1)))
    (λ y k. resumed_else now (write_answer y w.compound (length w.bytes) failed) w.compound.ops (write_answered y w.compound (length w.bytes) failed k its))

write_of_else : (now : ℕ) (m : MdsValue) (file : FileId) (step : WriterValue → WriterAfter) (s : ServedFile) → served m file ≡ Some s → (o : Option WaitingWrite) → WriteElse o → Else m → StepElse (write_of now m file step s o)
write_of_else now m file step s is None its e = none_goes m e
write_of_else now m file step s is (Some w) its e = write_end_else now m file s is (write_stepped w (step w.writer)) its (ended (step w.writer).writer) e

write_in_else : (now : ℕ) (m : MdsValue) (file : FileId) (step : WriterValue → WriterAfter) (o : Option ServedFile) → served m file ≡ o → Else m → StepElse (write_in now m file step o)
write_in_else now m file step None is e = none_goes m e
write_in_else now m file step (Some s) is e = write_of_else now m file step s is s.write (served_else m file s e is).0 e

write_steps : (now : ℕ) (m : MdsValue) (file : FileId) (step : WriterValue → WriterAfter) → Else m → StepElse (steps_write now m file step)
write_steps now m file step e = write_in_else now m file step (served m file) refl e

ctime_else : (m : MdsValue) (file : FileId) (server : ℕ) (fileid : Option ℕ) (shown : Option Shown) → Else m → StepElse (sees_ctime m file server fileid shown)
ctime_else m file server (Some fileid) (Some shown) e = takes_else m file (Sees (record { server = server; fileid = fileid }) shown.seen) e
ctime_else m file server None shown e = none_goes m e
ctime_else m file server (Some fileid) None e = none_goes m e

-- ---- recalls

outcome_else : (m : MdsValue) (o : Outcome) → Else m → StepElse (recall_outcome m o)
outcome_else m (outcome.NoLayout file cred) e = takes_else m file (Revokes NoSuchLayout) e
outcome_else m (outcome.Expired file cred) e = takes_else m file (Revokes Recalled) e
outcome_else m other e = none_goes m e

recalls_else : (m : MdsValue) (a : RecallsAfter) → Else m → StepElse (recalls_after m a)
recalls_else m a e = outcome_else (record m { recalls = a.recalls }) a.outcome (record { table = e.table; files_else = e.files_else; calls_else = e.calls_else })

-- ---- an answer, and a timeout

server_else : (now : ℕ) (m : MdsValue) (server xid : ℕ) (c : DsCallValue) (reply : DsReplyValue) (caller : Waiter) → Else m → StepElse (server_answered now m server xid c reply caller)
server_else now m server xid c reply (ForFile file) e = takes_else (sees_size m file server c (own_answer c reply)) file (Answers xid (own_answer c reply)) (sees_else m file server c (own_answer c reply) e)
server_else now m server xid c reply (ForRead file) e = read_steps now (sees_size m file server c reply) file xid (λ r. read.after_reply r xid reply) (sees_else m file server c reply e)
server_else now m server xid c reply (ForWrite file) e =
    let n : MdsValue = sees_size m file server c reply in
    then_goes (sees_ctime n file server (fileid_of c reply) (attributes_shown reply)) (λ x. steps_write now x file (λ w. after_own_reply w xid reply))
    (ctime_else n file server (fileid_of c reply) (attributes_shown reply) (sees_else m file server c reply e)) (λ x k. write_steps now x file (λ w. after_own_reply w xid reply) k)
server_else now m server xid c reply ForRecall e = none_goes m e

answered_else : (now : ℕ) (m : MdsValue) (xid : ℕ) (replies : DsCallValue → DsReplyValue) (status : ℕ) (caller : Waiter) (sent : MdsSend) → Else m → StepElse (answered_as now m xid replies status caller sent)
answered_else now m xid replies status caller (CallsServer server own uid c) e = server_else now m server xid c (replies c) caller e
answered_else now m xid replies status caller (CallsBack own back file stateid) e = recalls_else m (recalls.after_reply m.recalls xid (recall_end status)) e
answered_else now m xid replies status caller (Replies node other) e = none_goes m e
answered_else now m xid replies status caller (mds.Answers node bytes) e = none_goes m e

found_else : (now : ℕ) (m : MdsValue) (node : NodeId) (xid : ℕ) (replies : DsCallValue → DsReplyValue) (status : ℕ) (o : Option AwaitedCall) → Else m → StepElse (answers_found now m node xid replies status o)
found_else now m node xid replies status None e = none_goes m e
found_else now m node xid replies status (Some call) e =
    let n : MdsValue = record m { calls = without_call node xid m.calls } in
    let k : Else (record m { calls = without_call node xid m.calls }) = without_calls_else m (λ x. not (is_call_to node xid x)) e in
    cond_both (is_awaited m call) (answered_as now n xid replies status call.caller call.sent) (sends_none n) (λ (s : MdsStep). StepElse s) (λ is. answered_else now n xid replies status call.caller call.sent k) (λ off. none_goes n k)

pub answer_else : (now : ℕ) (m : MdsValue) (node : NodeId) (xid : ℕ) (replies : DsCallValue → DsReplyValue) (status : ℕ) → Else m → StepElse (takes_answer now m node xid replies status)
answer_else now m node xid replies status e = found_else now m node xid replies status (find (is_call_to node xid) m.calls) e

pub timeout_else : (now : ℕ) (m : MdsValue) (xid : ℕ) (caller : Waiter) → Else m → StepElse (timed_out_for now m xid caller)
timeout_else now m xid (ForFile file) e = takes_else m file (TimesOut xid) e
timeout_else now m xid (ForRead file) e = read_steps now m file xid (λ r. read.after_timeout r xid) e
timeout_else now m xid (ForWrite file) e = write_steps now m file (λ w. writer.after_timeout w xid) e
timeout_else now m xid ForRecall e = recalls_else m (recalls.after_timeout m.recalls xid) e
