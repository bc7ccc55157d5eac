-- What comes of an answer, and of a timeout, sends replies alone, and takes no number of a call.
use Rattle.std.proofs.Common.{ℕ, Bool, true, false, List, length, Option, Some, None, refl}
use Rattle.std.specs.Prelude.{position, slice_get}
use Rattle.std.specs.List.{find}
use Rattle.std.proofs.lemmas.Bool.{cond_both}
use Rattle.cluster_model.specs.declared.ids.NodeId.{NodeId}
use Rattle.cluster_model.specs.declared.ids.FileId.{FileId}
use Rattle.cluster_model.specs.declared.phase.EndCause.TheVariants.{Recalled, NoLayout as NoSuchLayout}
use Rattle.cluster_model.specs.declared.ds_call.Shown.{Shown}
use Rattle.cluster_model.specs.DsCalls.{DsCallValue, DsReplyValue}
use Rattle.file_rule.specs.FilePhases.{FileInput, OwnEnds, Answers as IsAnswer, TimesOut, Revokes, Sees}
use Rattle.mds_io.specs.declared.read_end.ReadEnd.{ReadEnd}
use Rattle.mds_io.specs.declared.read_end.ReadEnd.TheVariants as end
use Rattle.mds_io.specs.Reads.{ReadState, ReadAfter}
use Rattle.mds_io.specs.Reads as read
use Rattle.mds_io.specs.OwnWrites.{after_own_reply, ended}
use Rattle.mirror_writer.specs.Writers.{WriterValue, WriterAfter}
use Rattle.mirror_writer.specs.Writers as writer
use Rattle.recall.specs.declared.recall.Outcome.{Outcome}
use Rattle.recall.specs.declared.recall.Outcome.TheVariants as outcome
use Rattle.recall.specs.Recalls.{RecallsAfter}
use Rattle.recall.specs.Recalls as recalls
use Rattle.mds_rule.specs.MdsStates as mds
use Rattle.mds_rule.specs.MdsStates.{CompoundRun, WaitingRead, WaitingWrite, ServedFile, MdsSend, CallsServer, CallsBack, Replies, AwaitedCall, MdsValue, MdsStep, sends_none, and_then, is_call_to, without_call, served, with_served}
use Rattle.mds_rule.specs.declared.waiter.Waiter.{Waiter}
use Rattle.mds_rule.specs.declared.waiter.Waiter.TheVariants.{ForFile, ForRead, ForWrite, ForRecall}
use Rattle.mds_rule.specs.OpSteps.{with_result}
use Rattle.mds_rule.specs.ServedFiles.{takes_input}
use Rattle.mds_rule.specs.Answers.{is_read_out, is_awaited, fileid_of, attributes_shown, sees_in, own_answer, resumes, read_result, without_read, read_resumes, read_ends, read_step_at, read_from, read_of, steps_read, failures_by_place, has_failed_everywhere, write_answer, write_ends, write_stepped, write_of, write_in, steps_write, sees_ctime, recall_end, recall_outcome, recalls_after, server_answered, answered_as, answers_found, takes_answer, timed_out_for}
use Rattle.mds_pace.proofs.Still.{takes_still}
use Rattle.mds_pace.proofs.OpsFrom.{Quiet, quiet_same, quiet_then, quiet_still, run_quiet}

module _ (x : ℕ) where
  input_quiet : (m : MdsValue) (file : FileId) (input : FileInput) → Quiet x m (takes_input m file input)
  input_quiet m file input = quiet_still x m (takes_input m file input) (takes_still m file input)

  -- ---- READs

  resumes_quiet : (now : ℕ) (m : MdsValue) (file : FileId) (c : CompoundRun) (e : ReadEnd) → Quiet x m (read_resumes now m file c e)
  resumes_quiet now m file c (end.Bytes eof bytes) = run_quiet x now c.ops m (with_result c (read_result eof bytes))
  resumes_quiet now m file c (end.AllFailed failures) = λ f. (f, refl)

  ends_quiet : (now : ℕ) (m : MdsValue) (file : FileId) (s : ServedFile) (place : ℕ) (r : WaitingRead) (after : ReadState) (o : Option ReadEnd) → Quiet x m (read_ends now m file s place r after o)
  ends_quiet now m file s place r after None = λ f. (f, refl)
  ends_quiet now m file s place r after (Some e) = resumes_quiet now (without_read m file s place) file r.compound e

  there_quiet : (now : ℕ) (m : MdsValue) (file : FileId) (s : ServedFile) (step : ReadState → ReadAfter) (place : ℕ) (o : Option WaitingRead) → Quiet x m (read_step_at now m file s step place o)
  there_quiet now m file s step place None = quiet_same x m
  there_quiet now m file s step place (Some r) = ends_quiet now m file s place r (step r.read).read (step r.read).end

  from_quiet : (now : ℕ) (m : MdsValue) (file : FileId) (s : ServedFile) (step : ReadState → ReadAfter) (o : Option ℕ) → Quiet x m (read_from now m file s step o)
  from_quiet now m file s step None = quiet_same x m
  from_quiet now m file s step (Some place) = there_quiet now m file s step place (slice_get s.reads place)

  read_quiet : (now : ℕ) (m : MdsValue) (file : FileId) (xid : ℕ) (step : ReadState → ReadAfter) (o : Option ServedFile) → Quiet x m (read_of now m file xid step o)
  read_quiet now m file xid step None = quiet_same x m
  read_quiet now m file xid step (Some s) = from_quiet now m file s step (position (is_read_out xid) s.reads)

  -- ---- an own write

  answer_quiet : (now : ℕ) (m : MdsValue) (c : CompoundRun) (count : ℕ) (failed : Bool) → Quiet x m (resumes now (write_answer m c count failed) c.ops)
  answer_quiet now m c count true = λ f. (f, refl)
  answer_quiet now m c count false = run_quiet x now c.ops m _

  over_quiet : (now : ℕ) (m : MdsValue) (file : FileId) (s : ServedFile) (w : WaitingWrite) (o : Option (List Bool)) → Quiet x m (write_ends now m file s w o)
  over_quiet now m file s w None = λ f. (f, refl)
  over_quiet now m file s w (Some places) =
      let n : MdsValue = with_served m file (record s { write = None }) in
      let input : FileInput = OwnEnds (failures_by_place w.failures s.file.layout.live) w.at w.bytes in
      let failed : Bool = has_failed_everywhere w.failures s.file.layout.live in
      quiet_then x n (takes_input n file input) (λ y. resumes now (write_answer y w.compound (length w.bytes) failed) w.compound.ops) (input_quiet n file input) (λ y. answer_quiet now y w.compound (length w.bytes) failed)

  of_quiet : (now : ℕ) (m : MdsValue) (file : FileId) (step : WriterValue → WriterAfter) (s : ServedFile) (o : Option WaitingWrite) → Quiet x m (write_of now m file step s o)
  of_quiet now m file step s None = quiet_same x m
  of_quiet now m file step s (Some w) = over_quiet now m file s (write_stepped w (step w.writer)) (ended (step w.writer).writer)

  write_quiet : (now : ℕ) (m : MdsValue) (file : FileId) (step : WriterValue → WriterAfter) (o : Option ServedFile) → Quiet x m (write_in now m file step o)
  write_quiet now m file step None = quiet_same x m
  write_quiet now m file step (Some s) = of_quiet now m file step s s.write

  -- ---- recalls

  outcome_quiet : (m : MdsValue) (o : Outcome) → Quiet x m (recall_outcome m o)
  outcome_quiet m (outcome.NoLayout file cred) = input_quiet m file (Revokes NoSuchLayout)
  outcome_quiet m (outcome.Expired file cred) = input_quiet m file (Revokes Recalled)
  outcome_quiet m other = quiet_same x m

  recalls_quiet : (m : MdsValue) (a : RecallsAfter) → Quiet x m (recalls_after m a)
  recalls_quiet m a = outcome_quiet (record m { recalls = a.recalls }) a.outcome

  -- ---- an answer

  size_then : (m : MdsValue) (file : FileId) (server : ℕ) (call : DsCallValue) (reply : DsReplyValue) (next : MdsValue → MdsStep) → ((n : MdsValue) → Quiet x n (next n)) → (o : Option ServedFile) → Quiet x m (next (sees_in m file server call reply o))
  size_then m file server call reply next all None = all m
  size_then m file server call reply next all (Some s) = all (sees_in m file server call reply (Some s))

  ctime_quiet : (m : MdsValue) (file : FileId) (server : ℕ) (fileid : Option ℕ) (shown : Option Shown) → Quiet x m (sees_ctime m file server fileid shown)
  ctime_quiet m file server (Some fileid) (Some shown) = input_quiet m file (Sees (record { server = server; fileid = fileid }) shown.seen)
  ctime_quiet m file server None shown = quiet_same x m
  ctime_quiet m file server (Some fileid) None = quiet_same x m

  server_quiet : (now : ℕ) (m : MdsValue) (server xid : ℕ) (call : DsCallValue) (reply : DsReplyValue) (caller : Waiter) → Quiet x m (server_answered now m server xid call reply caller)
  server_quiet now m server xid call reply (ForFile file) =
      let input : FileInput = IsAnswer xid (own_answer call reply) in size_then m file server call (own_answer call reply) (λ n. takes_input n file input) (λ n. input_quiet n file input) (served m file)
  server_quiet now m server xid call reply (ForRead file) =
      let step : ReadState → ReadAfter = λ r. read.after_reply r xid reply in size_then m file server call reply (λ n. steps_read now n file xid step) (λ n. read_quiet now n file xid step (served n file)) (served m file)
  server_quiet now m server xid call reply (ForWrite file) =
      let step : WriterValue → WriterAfter = λ w. after_own_reply w xid reply in
      let next : MdsValue → MdsStep = λ n. and_then (sees_ctime n file server (fileid_of call reply) (attributes_shown reply)) (λ y. steps_write now y file step) in
      size_then m file server call reply next
      (λ n. quiet_then x n (sees_ctime n file server (fileid_of call reply) (attributes_shown reply)) (λ y. steps_write now y file step) (ctime_quiet n file server (fileid_of call reply) (attributes_shown reply)) (λ y. write_quiet now y file step (served y file))) (served m file)
  server_quiet now m server xid call reply ForRecall = quiet_same x m

  answered_quiet : (now : ℕ) (m : MdsValue) (xid : ℕ) (replies : DsCallValue → DsReplyValue) (status : ℕ) (caller : Waiter) (sent : MdsSend) → Quiet x m (answered_as now m xid replies status caller sent)
  answered_quiet now m xid replies status caller (CallsServer server own uid call) = server_quiet now m server xid call (replies call) caller
  answered_quiet now m xid replies status caller (CallsBack own back file stateid) = recalls_quiet m (recalls.after_reply m.recalls xid (recall_end status))
  answered_quiet now m xid replies status caller (Replies node other) = quiet_same x m
  answered_quiet now m xid replies status caller (mds.Answers node bytes) = quiet_same x m

  found_quiet : (now : ℕ) (m : MdsValue) (node : NodeId) (xid : ℕ) (replies : DsCallValue → DsReplyValue) (status : ℕ) (o : Option AwaitedCall) → Quiet x m (answers_found now m node xid replies status o)
  found_quiet now m node xid replies status None = quiet_same x m
  found_quiet now m node xid replies status (Some call) =
      let n : MdsValue = record m { calls = without_call node xid m.calls } in
      cond_both (is_awaited m call) (answered_as now n xid replies status call.caller call.sent) (sends_none n) (λ (s : MdsStep). Quiet x m s) (λ is. answered_quiet now n xid replies status call.caller call.sent) (λ off. λ f. (f, refl))

  pub answers_quiet : (now : ℕ) (m : MdsValue) (node : NodeId) (xid : ℕ) (replies : DsCallValue → DsReplyValue) (status : ℕ) → Quiet x m (takes_answer now m node xid replies status)
  answers_quiet now m node xid replies status = found_quiet now m node xid replies status (find (is_call_to node xid) m.calls)

  -- ---- a timeout

  pub timeout_quiet : (now : ℕ) (m : MdsValue) (xid : ℕ) (caller : Waiter) → Quiet x m (timed_out_for now m xid caller)
  timeout_quiet now m xid (ForFile file) = input_quiet m file (TimesOut xid)
  timeout_quiet now m xid (ForRead file) = read_quiet now m file xid (λ r. read.after_timeout r xid) (served m file)
  timeout_quiet now m xid (ForWrite file) = write_quiet now m file (λ w. writer.after_timeout w xid) (served m file)
  timeout_quiet now m xid ForRecall = recalls_quiet m (recalls.after_timeout m.recalls xid)
