-- Answers of data servers, and timeouts of calls to them.
use Rattle.std.proofs.Common.{ℕ, Bool, List, [], ◌∷◌, Option, Some, None, refl}
use Rattle.std.specs.Prelude.{◌==◌, slice_get, not}
use Rattle.std.specs.List.{filter}
use Rattle.cluster_model.specs.declared.ids.MirrorId.{MirrorId}
use Rattle.cluster_model.specs.declared.phase.LeftCause.{LeftCause}
use Rattle.cluster_model.specs.DsCalls.{DsCallValue, DsReplyValue}
use Rattle.mirror_writer.specs.declared.call.TakenWrite.{TakenWrite}
use Rattle.mirror_writer.specs.declared.step.WriterStep.{WriterStep}
use Rattle.mirror_writer.specs.declared.step.WriterStep.TheVariants as step
use Rattle.mirror_writer.specs.Writers.{WriterValue, after_reply, after_timeout}
use Rattle.mirror_writer.specs.Outstanding.{OutCall, out_at, is_covered_everywhere, has_no_mirror}
use Rattle.client_file_calls.specs.declared.open.OpenFile.{OpenFile}
use Rattle.client_state.specs.declared.layout.Layout.{Layout}
use Rattle.client_state.specs.ClientStates.{ClientValue, unmoved}
use Rattle.client_state.specs.ClientQueue.{with_layout, ending, revoked_layout, lost_mirrors}
use Rattle.client_state.specs.ClientSends.{ClientSend, RepeatsToServer}
use Rattle.client_answers.specs.ClientMirrors.{told_entry, told_entries, tells, tells_covered, is_commit, with_failed, mirror_failed, after_step, has_writer, answered_out, ds_answered_by, ds_answered, goes_again, late_out, ds_timed_out_by, ds_timed_out}
use Rattle.client_sends.specs.SendsOfUsers.{IsUserSend}
use Rattle.client_sends.proofs.UserSteps.{AreUserEntries, AreUserSends, UserRun, UserStep, entries_append, run_nothing, run_either, step_nothing}
use Rattle.client_sends.proofs.CallSteps.{IsUsedOut, out_used}

-- ---- writes that are told

told_enters : (file : OpenFile) (cred : ℕ) (o : Option TakenWrite) → AreUserEntries (told_entry file cred o)
told_enters file cred None = tt
told_enters file cred (Some t) = (refl, tt)

told_enter : (file : OpenFile) (w : WriterValue) (ns : List ℕ) → AreUserEntries (told_entries file w ns)
told_enter file w [] = tt
told_enter file w (n ∷ ns) = entries_append (told_entry file w.cred (slice_get w.taken n)) (told_entries file w ns) (told_enters file w.cred (slice_get w.taken n)) (told_enter file w ns)

pub tells_enters : (file : OpenFile) (w : WriterValue) (ns : List ℕ) (c : ClientValue) → UserRun (tells file w ns c)
tells_enters file w ns c = record { entries = told_enter file w ns }

covered_enters : (file : OpenFile) (layout : Option Layout) (c : ClientValue) → UserRun (tells_covered file layout c)
covered_enters file None c = run_nothing c
covered_enters file (Some l) c =
    tells_enters file l.writer (filter (is_covered_everywhere l.writer) l.untold)
    (with_layout c (record l { untold = filter (λ n. not (is_covered_everywhere l.writer n)) l.untold }))

-- ---- a mirror failed, the layout is lost

pub revoked_enters : (c : ClientValue) → UserRun (revoked_layout c)
revoked_enters c = record { entries = (refl, tt) }

failed_enters : (id : MirrorId) (cause : LeftCause) (layout : Option Layout) (c : ClientValue) → UserRun (mirror_failed id cause layout c)
failed_enters id cause None c = run_nothing c
failed_enters id cause (Some l) c =
    run_either (has_no_mirror l.writer) (lost_mirrors (with_failed l id cause) c) (unmoved (with_layout c (ending (with_failed l id cause)))) (record { entries = (refl, tt) }) (run_nothing (with_layout c (ending (with_failed l id cause))))

-- ---- what an answer and a timeout come to

after_enters : (commit : Bool) (file : OpenFile) (came : WriterStep) (c : ClientValue) → UserRun (after_step commit file came c)
after_enters commit file step.Stranger c = run_nothing c
after_enters commit file step.Waiting c = run_either commit (tells_covered file c.layout c) (unmoved c) (covered_enters file c.layout c) (run_nothing c)
after_enters commit file step.Committed c = run_either commit (tells_covered file c.layout c) (unmoved c) (covered_enters file c.layout c) (run_nothing c)
after_enters commit file (step.Failed id cause) c = failed_enters id cause c.layout c
after_enters commit file (step.Fenced id status) c = revoked_enters c

answered_enters : (file : OpenFile) (l : Layout) (xid : ℕ) (reply : DsCallValue → DsReplyValue) (o : Option OutCall) (c : ClientValue) → UserRun (answered_out file l xid reply o c)
answered_enters file l xid reply None c = run_nothing c
answered_enters file l xid reply (Some out) c =
    run_either (out.xid == xid)
    (after_step (is_commit out.call) file (after_reply l.writer xid (reply out.call)).step (has_writer c l (after_reply l.writer xid (reply out.call)))) (unmoved c)
    (after_enters (is_commit out.call) file (after_reply l.writer xid (reply out.call)).step (has_writer c l (after_reply l.writer xid (reply out.call)))) (run_nothing c)

by_layout : (file : Option OpenFile) (layout : Option Layout) (server xid : ℕ) (reply : DsCallValue → DsReplyValue) (c : ClientValue) → UserRun (ds_answered_by file layout server xid reply c)
by_layout None layout server xid reply c = run_nothing c
by_layout (Some file) None server xid reply c = run_nothing c
by_layout (Some file) (Some l) server xid reply c = answered_enters file l xid reply (out_at l.writer server) c

pub server_answer : (server xid : ℕ) (reply : DsCallValue → DsReplyValue) (c : ClientValue) → UserRun (ds_answered server xid reply c)
server_answer server xid reply c = by_layout c.file c.layout server xid reply c

again_sends : (send : ClientSend) (came : WriterStep) → IsUserSend send → AreUserSends (goes_again send came)
again_sends send step.Stranger user = tt
again_sends send step.Waiting user = (user, tt)
again_sends send step.Committed user = tt
again_sends send (step.Failed id cause) user = tt
again_sends send (step.Fenced id status) user = tt

late_sends : (file : OpenFile) (l : Layout) (server : ℕ) (o : Option OutCall) (c : ClientValue) → IsUsedOut o → UserStep (late_out file l server o c)
late_sends file l server None c used = step_nothing c
late_sends file l server (Some out) c used = record {
  entries = (refl, (after_enters (is_commit out.call) file (after_timeout l.writer out.xid).step (has_writer c l (after_timeout l.writer out.xid))).entries);
  sends = again_sends (RepeatsToServer server out.xid c.name l.writer.cred out.call) (after_timeout l.writer out.xid).step used;
}

late_by_layout : (file : Option OpenFile) (layout : Option Layout) (server : ℕ) (c : ClientValue) → UserStep (ds_timed_out_by file layout server c)
late_by_layout None layout server c = step_nothing c
late_by_layout (Some file) None server c = step_nothing c
late_by_layout (Some file) (Some l) server c = late_sends file l server (out_at l.writer server) c (out_used l.writer server)

pub server_late : (server : ℕ) (c : ClientValue) → UserStep (ds_timed_out server c)
server_late server c = late_by_layout c.file c.layout server c
