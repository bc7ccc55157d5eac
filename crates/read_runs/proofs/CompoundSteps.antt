-- Compounds without a READ, own writes, recalls and timeouts keep what holds by the history.
use Rattle.std.proofs.Common.{◌≡◌, ◌≤◌, ℕ, Bool, true, false, List, [], ◌∷◌, ◌++◌, length, Option, Some, None, refl, sym, subst, ◌∙◌}
use Rattle.std.specs.Prelude.{not, ◌==◌, slice_get, position}
use Rattle.std.proofs.lemmas.Bool.{cond_both}
use Rattle.std.proofs.lemmas.Option.{same_Some}
use Rattle.ff_xdr.specs.Form.{Value, arm_of}
use Rattle.ff_xdr.specs.Arms.{of_each_arm}
use Rattle.compound_reply.specs.Replied.{success_reply}
use Rattle.cluster_model.specs.declared.ids.NodeId.{NodeId}
use Rattle.cluster_model.specs.declared.ids.FileId.{FileId}
use Rattle.cluster_model.specs.declared.phase.EndCause.TheVariants.{Recalled, NoLayout as NoSuchLayout}
use Rattle.cluster_model.specs.declared.ds_call.Shown.{Shown}
use Rattle.cluster_model.specs.DsCalls.{DsCallValue, DsReplyValue}
use Rattle.cluster_laws.proofs.Lists.{all_at}
use Rattle.file_rule.specs.FilePhases.{FileInput, TimesOut, OwnEnds, Revokes, Sees}
use Rattle.mds_io.specs.Reads.{ReadState, ReadAfter, after_timeout}
use Rattle.mds_io.specs.OwnWrites.{ended}
use Rattle.mirror_writer.specs.Writers.{WriterValue, WriterAfter}
use Rattle.mirror_writer.specs.Writers as writer
use Rattle.nfs4_types.specs.declared.sequence.Sequence.{Sequence}
use Rattle.nfs4_types.specs.declared.status.Stat4.{Stat4}
use Rattle.nfs4_types.specs.declared.status.Stat4.TheVariants as stat
use Rattle.nfs4_types.specs.Sequences.{sequence4_args}
use Rattle.nfs4_compound.specs.declared.stop.Stop.{Stop}
use Rattle.nfs4_compound.specs.declared.stop.Stop.TheVariants as stop
use Rattle.nfs4_compound.specs.Args.{argop4}
use Rattle.nfs4_compound.specs.Compounds.{CompoundValue}
use Rattle.nfs4_session.specs.Slots.{SlotAnswer, TakesEffect, Repeats, Refuses}
use Rattle.nfs4_session.specs.Requests.{request_answer, after_request}
use Rattle.nfs4_session.specs.Bindings.{after_binding}
use Rattle.recall.specs.declared.recall.Outcome.{Outcome}
use Rattle.recall.specs.declared.recall.Outcome.TheVariants as outcome
use Rattle.recall.specs.Recalls.{RecallsAfter}
use Rattle.recall.specs.Recalls as recalls
use Rattle.mds_rule.specs.MdsStates.{CompoundRun, WaitingRead, WaitingWrite, ServedFile, Replies, MdsValue, MdsStep, sends_none, and_then, served, with_served}
use Rattle.mds_rule.specs.declared.waiter.Waiter.{Waiter}
use Rattle.mds_rule.specs.declared.waiter.Waiter.TheVariants.{ForFile, ForRead, ForWrite, ForRecall}
use Rattle.mds_rule.specs.OpSteps.{OpStep, Goes, Ends, Waits, with_result, refuses, refused_as, unread, stopped, is_operation_number}
use Rattle.mds_rule.specs.ServedFiles.{takes_input}
use Rattle.mds_rule.specs.Compounds.{operate, has_session, operates, compound_bytes, finishes, op_then, with_ops, runs, sequence_in, in_slot, sequenced, sequence_of, may_stand_alone, first_alone, first_by, first_operation, new_run, runs_compound}
use Rattle.mds_rule.specs.Answers.{sized, fileid_of, attributes_shown, sees_in, sees_size, resumes, write_answer, write_ends, write_of, write_in, steps_write, write_stepped, failures_by_place, has_failed_everywhere, write_over, sees_ctime, recall_outcome, recalls_after, is_read_out, read_step_at, read_from, read_of, steps_read, timed_out_for}
use Rattle.mds_walk.proofs.Served.{served_again}
use Rattle.mds_histories.specs.MdsHistory.{MdsItem}
use Rattle.read_runs.specs.ReadRuns.{HasNoRead}
use Rattle.read_runs.proofs.LeavingMirrors.{failures_leave}
use Rattle.read_runs.proofs.LiveTold.{LeaveSo}
use Rattle.read_runs.proofs.ReadBecomes.{BecomesSo, read_late}
use Rattle.read_runs.proofs.Holding.{AreNoReads, IsWriteSo, IsReadSo, Holds, holds_replied}
use Rattle.read_runs.proofs.Steps.{Becomes, Keeps, KeepsOp, Silent, Mute, none_keeps, same, stays, becomes_keeps, enters_keeps, silent_same, silent_keeps, silent_first, mute_keeps, items_in}
use Rattle.read_runs.proofs.ServedSteps.{takes, takes_by, exchanges, creates, binds, destroys_session, destroys_client, reclaims_all}
use Rattle.read_runs.proofs.OpsSteps.{puts, puts_fh, gets_fh, looks_up, gets_attr, opens, closes_file, commits, writes, layout_gets, layout_returns, layout_commits, device_infos}
use Rattle.read_runs.proofs.ReadEnds.{read_stepped}

-- ---- one operation after the other

pub finishes_so : (m : MdsValue) (c : CompoundRun) (status : Stat4) → Mute m (finishes m c status)
finishes_so m c status = record { sends = λ h i. holds_replied m.mirrors m.files m.calls m.next_xid h i (Replies c.node (success_reply c.xid (compound_bytes c status))) refl; none = refl }

op_step : (m : MdsValue) (s : OpStep) (next : MdsValue → CompoundRun → MdsStep) → KeepsOp m s → ((n : MdsValue) (d : CompoundRun) → Keeps n (next n d)) → Keeps m (op_then s next)
op_step m (Goes n entries c) next q all = enters_keeps m n entries (next n c) q (all n c)
op_step m (Ends n entries c status) next q all = enters_keeps m n entries (finishes n c status) q (mute_keeps n (finishes n c status) (finishes_so n c status))
op_step m (Waits n entries) next q all = enters_keeps m n entries (sends_none n) q (same n)

stop_step : (m : MdsValue) (c : CompoundRun) (s : Stop) → KeepsOp m (stopped m c s)
stop_step m c (stop.End rest) = stays m
stop_step m c (stop.Unread number) = by_number (is_operation_number number)
  where
    by_number : (b : Bool) → KeepsOp m (unread m c number b)
    by_number true = stays m
    by_number false = stays m
stop_step m c (stop.Bad e) = stays m

operate_step : (now : ℕ) (m : MdsValue) (c : CompoundRun) → AreNoReads c.ops → (op : Value argop4) → (arm_of argop4 op == 25) ≡ false → KeepsOp m (operate now m c op)
operate_step now m c none op =
    of_each_arm argop4 (λ (v : Value argop4). (arm_of argop4 v == 25) ≡ false → KeepsOp m (operate now m c v)) (
      (λ close other. closes_file m c close),
      (
        (λ commit other. commits m c),
        (
          (λ words other. gets_attr m c words),
          (
            (λ nothing other. gets_fh m c),
            (
              (λ name other. looks_up m c name),
              (
                (λ opening other. opens m c opening),
                (
                  (λ handle other. puts_fh m c handle),
                  (
                    (λ nothing other. stays m),
                    (
                      (λ read other. absurd cc),
                      (
                        (λ write other. writes m c none now write),
                        (
                          (λ bind other. binds m c bind),
                          (
                            (λ exchange other. exchanges m c now exchange),
                            (
                              (λ create other. creates m c now create),
                              (
                                (λ session other. destroys_session m c session),
                                (
                                  (λ device other. device_infos m c device),
                                  (
                                    (λ commit other. layout_commits m c commit),
                                    (
                                      (λ layout other. layout_gets m c now layout),
                                      (
                                        (λ layout other. layout_returns m c layout),
                                        (
                                          (λ sequence other. stays m),
                                          (
                                            (λ client other. destroys_client m c client),
                                            ((λ one_fs other. reclaims_all m c c.slot), tt),
                                          ),
                                        ),
                                      ),
                                    ),
                                  ),
                                ),
                              ),
                            ),
                          ),
                        ),
                      ),
                    ),
                  ),
                ),
              ),
            ),
          ),
        ),
      ),
    ) op

operates_step : (now : ℕ) (m : MdsValue) (c : CompoundRun) → AreNoReads c.ops → (op : Value argop4) → (arm_of argop4 op == 25) ≡ false → KeepsOp m (operates now m c op)
operates_step now m c none op other =
    cond_both (has_session m c.slot) (operate now m c op) (refuses m c (arm_of argop4 op) stat.BadSession) (λ (s : OpStep). KeepsOp m s) (λ is. operate_step now m c none op other) (λ off. stays m)

run_step : (now : ℕ) (ops : List (Value argop4)) (m : MdsValue) (c : CompoundRun) → AreNoReads ops → Keeps m (runs now ops m c)
run_step now [] m c none = op_step m (stopped m (with_ops c []) c.stop) (λ n d. sends_none n) (stop_step m (with_ops c []) c.stop) (λ n d. same n)
run_step now (op ∷ ops) m c none =
    op_step m (operates now m (with_ops c ops) op) (λ n d. runs now ops n d) (operates_step now m (with_ops c ops) none.1 op none.0) (λ n d. run_step now ops n d none.1)

-- ---- the first one

pub repeats_so : (m : MdsValue) (c : CompoundRun) (reply : List ℕ) → Mute m (record { mds = m; entries = []; sends = Replies c.node (success_reply c.xid reply) ∷ [] })
repeats_so m c reply = record { sends = λ h i. holds_replied m.mirrors m.files m.calls m.next_xid h i (Replies c.node (success_reply c.xid reply)) refl; none = refl }

sequence_step : (now : ℕ) (m : MdsValue) (c : CompoundRun) (ops : List (Value argop4)) → AreNoReads ops → (s : Sequence) (a : SlotAnswer) → Keeps m (sequenced now m c ops s a)
sequence_step now m c ops none s TakesEffect = run_step now ops (record m { sessions = after_request m.sessions s now }) (in_slot c s) none
sequence_step now m c ops none s (Repeats reply) = mute_keeps m _ (repeats_so m c reply)
sequence_step now m c ops none s (Refuses status) = mute_keeps m _ (finishes_so m (with_result c (refused_as 53 status)) status)

first_step : (now : ℕ) (m : MdsValue) (c : CompoundRun) (count : ℕ) (op : Value argop4) → (arm_of argop4 op == 25) ≡ false → (ops : List (Value argop4)) → AreNoReads ops → (o : Option (Value sequence4_args))
    → Keeps m (first_by now m c count op ops o)
first_step now m c count op other ops none (Some args) =
    let s : Sequence = sequence_in args in
    let n : MdsValue = record m { sessions = after_binding m.sessions s.session c.node } in
    sequence_step now n c ops none s (request_answer n.sessions s)
first_step now m c count op other ops none None =
    cond_both (may_stand_alone (arm_of argop4 op)) (first_alone now m c count op ops) (op_then (refuses m c (arm_of argop4 op) stat.OpNotInSession) (λ n d. sends_none n)) (λ (s : MdsStep). Keeps m s)
    (λ is.
    cond_both (not (count == 1)) (op_then (refuses m c (arm_of argop4 op) stat.NotOnlyOp) (λ n d. sends_none n)) (op_then (operate now m (with_ops c ops) op) (λ n d. runs now ops n d)) (λ (s : MdsStep). Keeps m s)
    (λ more. op_step m (refuses m c (arm_of argop4 op) stat.NotOnlyOp) (λ n d. sends_none n) (stays m) (λ n d. same n))
    (λ one. op_step m (operate now m (with_ops c ops) op) (λ n d. runs now ops n d) (operate_step now m (with_ops c ops) none op other) (λ n d. run_step now ops n d none)))
    (λ off. op_step m (refuses m c (arm_of argop4 op) stat.OpNotInSession) (λ n d. sends_none n) (stays m) (λ n d. same n))

ops_step : (now : ℕ) (m : MdsValue) (c : CompoundRun) (count : ℕ) (ops : List (Value argop4)) → AreNoReads ops → Keeps m (first_operation now m c count ops)
ops_step now m c count [] none = run_step now [] m c tt
ops_step now m c count (op ∷ ops) none = first_step now m c count op none.0 ops none.1 (sequence_of op)

pub compound_step : (now : ℕ) (m : MdsValue) (node : NodeId) (xid : ℕ) (v : CompoundValue) → HasNoRead v → Keeps m (runs_compound now m node xid v)
compound_step now m node xid v none = ops_step now m (new_run node xid v) v.count v.ops.values none

-- ---- what an answer shows

size_step : (m : MdsValue) (file : FileId) (server : ℕ) (s : ServedFile) → served m file ≡ Some s → (fileid : Option ℕ) (shown : Option Shown) → Becomes m (with_served m file (sized s server fileid shown))
size_step m file server s is (Some fileid) (Some shown) = puts m file s (sized s server (Some fileid) (Some shown)) is refl refl (λ old. old)
size_step m file server s is None shown = puts m file s s is refl refl (λ old. old)
size_step m file server s is (Some fileid) None = puts m file s s is refl refl (λ old. old)

sees_step : (m : MdsValue) (file : FileId) (server : ℕ) (call : DsCallValue) (reply : DsReplyValue) (o : Option ServedFile) → served m file ≡ o → Becomes m (sees_in m file server call reply o)
sees_step m file server call reply None is = λ h i. i
sees_step m file server call reply (Some s) is = size_step m file server s is (fileid_of call reply) (attributes_shown reply)

pub sees : (m : MdsValue) (file : FileId) (server : ℕ) (call : DsCallValue) (reply : DsReplyValue) → Becomes m (sees_size m file server call reply)
sees m file server call reply = sees_step m file server call reply (served m file) refl

-- ---- an own write

resume_step : (now : ℕ) (m : MdsValue) (s : OpStep) (ops : List (Value argop4)) → KeepsOp m s → AreNoReads ops → Keeps m (resumes now s ops)
resume_step now m s ops q none = op_step m s (λ n d. runs now ops n d) q (λ n d. run_step now ops n d none)

write_answered : (m : MdsValue) (c : CompoundRun) (count : ℕ) (failed : Bool) → KeepsOp m (write_answer m c count failed)
write_answered m c count true = stays m
write_answered m c count false = stays m

write_end_step : (now : ℕ) (m : MdsValue) (file : FileId) (s : ServedFile) → served m file ≡ Some s → (w : WaitingWrite) → AreNoReads w.compound.ops → (o : Option (List Bool)) → Keeps m (write_ends now m file s w o)
write_end_step now m file s at w none None = none_keeps m (with_served m file (record s { write = Some w })) (puts m file s (record s { write = Some w }) at refl refl (λ old. none))
write_end_step now m file s at w none (Some places) =
    let t : ServedFile = record s { write = None } in
    let n : MdsValue = with_served m file t in
    let causes = failures_by_place w.failures s.file.layout.live in
    let input : FileInput = OwnEnds causes w.at w.bytes in
    let x : MdsStep = takes_input n file input in
    let failed : Bool = has_failed_everywhere w.failures s.file.layout.live in
    becomes_keeps m n (write_over now x w.compound (length w.bytes) failed) (puts m file s t at refl refl (λ old. tt))
    (silent_first n x (λ y. resumes now (write_answer y w.compound (length w.bytes) failed) w.compound.ops)
    (takes_by n file input
    (λ u is few.
    let same : t ≡ u = same_Some t u (sym (served_again m file s t at) ∙ is) in
    subst (λ (y : ServedFile). LeaveSo file y.file input) same (failures_leave file w.failures s.file.layout.live (subst (λ (y : ServedFile). length y.file.layout.live ≤ 4) (sym same) few))))
    (λ y. resume_step now y (write_answer y w.compound (length w.bytes) failed) w.compound.ops (write_answered y w.compound (length w.bytes) failed) none))

write_of_step : (now : ℕ) (m : MdsValue) (file : FileId) (step : WriterValue → WriterAfter) (s : ServedFile) → served m file ≡ Some s → (o : Option WaitingWrite) → s.write ≡ o → Keeps m (write_of now m file step s o)
write_of_step now m file step s at None its = same m
write_of_step now m file step s at (Some w) its =
    λ h i. write_end_step now m file s at (write_stepped w (step w.writer)) (subst IsWriteSo its (i.files_so file s at).write) (ended (step w.writer).writer) h i

write_in_step : (now : ℕ) (m : MdsValue) (file : FileId) (step : WriterValue → WriterAfter) (o : Option ServedFile) → served m file ≡ o → Keeps m (write_in now m file step o)
write_in_step now m file step None at = same m
write_in_step now m file step (Some s) at = write_of_step now m file step s at s.write refl

pub write_steps : (now : ℕ) (m : MdsValue) (file : FileId) (step : WriterValue → WriterAfter) → Keeps m (steps_write now m file step)
write_steps now m file step = write_in_step now m file step (served m file) refl

ctime_step : (m : MdsValue) (file : FileId) (server : ℕ) (fileid : Option ℕ) (shown : Option Shown) → Silent m (sees_ctime m file server fileid shown)
ctime_step m file server (Some fileid) (Some shown) = takes m file (Sees (record { server = server; fileid = fileid }) shown.seen) (λ s. tt)
ctime_step m file server None shown = silent_same m
ctime_step m file server (Some fileid) None = silent_same m

-- an answer to a call of it
pub write_heard : (now : ℕ) (m : MdsValue) (file : FileId) (server : ℕ) (fileid : Option ℕ) (shown : Option Shown) (step : WriterValue → WriterAfter)
    → Keeps m (and_then (sees_ctime m file server fileid shown) (λ n. steps_write now n file step))
write_heard now m file server fileid shown step =
    silent_first m (sees_ctime m file server fileid shown) (λ n. steps_write now n file step) (ctime_step m file server fileid shown) (λ n. write_steps now n file step)

-- ---- recalls

outcome_step : (m : MdsValue) (o : Outcome) → Keeps m (recall_outcome m o)
outcome_step m (outcome.NoLayout file cred) = silent_keeps m _ (takes m file (Revokes NoSuchLayout) (λ s. tt))
outcome_step m (outcome.Expired file cred) = silent_keeps m _ (takes m file (Revokes Recalled) (λ s. tt))
outcome_step m other = same m

pub recalls_step : (m : MdsValue) (a : RecallsAfter) → Keeps m (recalls_after m a)
recalls_step m a = outcome_step (record m { recalls = a.recalls }) a.outcome

-- ---- a step of a READ, from what becomes of it

module _ (now : ℕ) (m : MdsValue) (file : FileId) (xid : ℕ) (step : ReadState → ReadAfter) (h : List MdsItem)
    (so : (s : ServedFile) (place : ℕ) (r : WaitingRead) → served m file ≡ Some s → slice_get s.reads place ≡ Some r → BecomesSo h file r.compound r.read (step r.read)) (i : Holds m h) where
  abbrev StepHolds : MdsStep → Type 0
  StepHolds s = Holds s.mds (h ++ items_in s)

  step_at : (s : ServedFile) → served m file ≡ Some s → (place : ℕ) (o : Option WaitingRead) → slice_get s.reads place ≡ o → StepHolds (read_step_at now m file s step place o)
  step_at s at place None there = same m h i
  step_at s at place (Some r) there = read_stepped now m file s at place h r (step r.read) (so s place r at there) i

  step_from : (s : ServedFile) → served m file ≡ Some s → (o : Option ℕ) → StepHolds (read_from now m file s step o)
  step_from s at None = same m h i
  step_from s at (Some place) = step_at s at place (slice_get s.reads place) refl

  step_of : (o : Option ServedFile) → served m file ≡ o → StepHolds (read_of now m file xid step o)
  step_of None at = same m h i
  step_of (Some s) at = step_from s at (position (is_read_out xid) s.reads)

  pub read_steps : StepHolds (steps_read now m file xid step)
  read_steps = step_of (served m file) refl

-- ---- a timeout

pub timeout_step : (now : ℕ) (m : MdsValue) (xid : ℕ) (caller : Waiter) → Keeps m (timed_out_for now m xid caller)
timeout_step now m xid (ForFile file) = silent_keeps m _ (takes m file (TimesOut xid) (λ s. tt))
timeout_step now m xid (ForRead file) =
    λ h i. read_steps now m file xid (λ r. after_timeout r xid) h (λ s place r at there. read_late h file r.compound r.read xid (all_at (IsReadSo h file) s.reads place r (i.files_so file s at).reads there)) i
timeout_step now m xid (ForWrite file) = write_steps now m file (λ w. writer.after_timeout w xid)
timeout_step now m xid ForRecall = recalls_step m (recalls.after_timeout m.recalls xid)
