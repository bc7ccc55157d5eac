-- What a data server's answer keeps, and a timeout of a call to it; and what a step keeps that sends something before its calls.
use Rattle.std.proofs.Common.{◌≡◌, ℕ, Bool, true, false, List, [], ◌∷◌, ◌++◌, Option, Some, None, Ok, refl, sym, subst}
use Rattle.std.specs.Prelude.{◌==◌, if◌then◌else◌}
use Rattle.std.proofs.lemmas.Bool.{eqb-true}
use Rattle.std.proofs.lemmas.List.{append_assoc, append-nil}
use Rattle.rpc_record.specs.Replies.{RpcReply, reply_at}
use Rattle.ds_calls.specs.GivenReplies.{reply_of_call}
use Rattle.cluster_model.specs.declared.ids.NodeId.TheVariants.{Server, Client}
use Rattle.cluster_model.specs.declared.ids.MirrorId.{MirrorId}
use Rattle.cluster_model.specs.declared.answer.UserAnswer.TheVariants as answer
use Rattle.cluster_model.specs.declared.answer.FailCause.TheVariants as failing
use Rattle.cluster_model.specs.declared.entry.Entry.{Entry}
use Rattle.cluster_model.specs.declared.entry.Entry.TheVariants.{TimedOut}
use Rattle.cluster_model.specs.declared.phase.LeftCause.{LeftCause}
use Rattle.mirror_writer.specs.declared.step.WriterStep.{WriterStep}
use Rattle.mirror_writer.specs.declared.step.WriterStep.TheVariants as step
use Rattle.mirror_writer.specs.Writers.{WriterAfter, after_reply, after_timeout}
use Rattle.mirror_writer.specs.Outstanding.{OutCall, out_at, has_no_mirror}
use Rattle.client_file_calls.specs.declared.open.OpenFile.{OpenFile}
use Rattle.client_state.specs.declared.layout.Layout.{Layout}
use Rattle.client_state.specs.ClientStates.{ClientValue, ClientRun, unmoved, followed_by}
use Rattle.client_state.specs.ClientQueue.{with_layout, with_writer, ending, without_commit, lost_mirrors, run_queue}
use Rattle.client_state.specs.ClientSends.{ClientSend, RepeatsToServer, and_then, run_then}
use Rattle.client_calls.specs.ClientCalls.{calls_all, ends_event}
use Rattle.client_answers.specs.ClientMirrors.{is_commit, tells_covered, with_failed, mirror_failed, after_step, has_writer, answered_out, ds_answered_by, goes_again, late_out, ds_timed_out_by}
use Rattle.client_laws.specs.ClientHistory.{ClientInput, Recorded, HistoryItem, Enters, entered, sent, Each}
use Rattle.client_records.proofs.Joins.{RunKeeps, StepKeeps, CallsKeep, run_unmoved, run_follows, run_calls, run_either, calls_then}
use Rattle.client_records.proofs.Cases.{IsLate, heard_server, heard_late, ComesTo, ByReply, ByTimeout, IsQuietStep, Cases}
use Rattle.client_records.proofs.QueueKeeps.{Stays, QueueKeeps, queue_keeps, answer_keeps}
use Rattle.client_records.proofs.EventEnds.{all_keep, calls_keep}

-- what goes out before the calls of an event's end is so behind whatever the queue enters, and keeps it
pub record FirstKeep (I : List HistoryItem → ClientValue → Type 0) (P : List HistoryItem → HistoryItem → Type 0) (past : List HistoryItem) (firsts : List ClientSend) : Type 0 where
  pub sends : (entries : List Entry) (d : ClientValue) → I (past ++ entered entries) d → Each P (past ++ entered entries) (sent firsts)
  pub keeps : (entries : List Entry) (d : ClientValue) → I (past ++ entered entries) d → I ((past ++ entered entries) ++ sent firsts) d

module _ (B : List HistoryItem → ClientValue → Type 0) (Q : ClientInput → Type 0) (I : List HistoryItem → ClientValue → Type 0) (P : List HistoryItem → HistoryItem → Type 0) (k : Cases B Q I P) where
  pub first_keep : (past : List HistoryItem) (r : ClientRun) (firsts : List ClientSend) → RunKeeps (Stays I) P past r → FirstKeep (Stays I) P past firsts
      → StepKeeps (Stays I) P past (and_then (record { client = r.client; entries = r.entries; sends = firsts }) ends_event)
  first_keep past r firsts keeps first =
      let q : QueueKeeps I P (past ++ entered r.entries) (run_queue r.client) = queue_keeps B Q I P k (past ++ entered r.entries) r.client keeps.keeps in
      let done : ClientRun = followed_by r (λ d. (run_queue d).run) in
      let run : RunKeeps (Stays I) P past done = run_follows (Stays I) P past r (λ d. (run_queue d).run) keeps q.run in
      let later : List HistoryItem = past ++ entered done.entries in
      let start : CallsKeep (Stays I) P later (record { client = done.client; entries = []; sends = firsts }) = record { none = refl; sends = first.sends done.entries done.client run.keeps; keeps = first.keeps done.entries done.client run.keeps } in
      let calls : CallsKeep (Stays I) P later (and_then (record { client = done.client; entries = []; sends = firsts }) (calls_all (run_queue r.client).wants)) =
      calls_then (Stays I) P later (record { client = done.client; entries = []; sends = firsts }) (calls_all (run_queue r.client).wants) start (all_keep B Q I P k (later ++ sent firsts) done.client (run_queue r.client).wants start.keeps q.wants) in
      let whole : StepKeeps (Stays I) P past (run_then done (λ d. and_then (record { client = d; entries = []; sends = firsts }) (calls_all (run_queue r.client).wants))) =
      run_calls (Stays I) P past done (λ d. and_then (record { client = d; entries = []; sends = firsts }) (calls_all (run_queue r.client).wants)) run calls in
      subst (λ (l : List Entry). StepKeeps (Stays I) P past (record { client = (calls_all (run_queue r.client).wants (run_queue r.client).run.client).client; entries = l; sends = firsts ++ (calls_all (run_queue r.client).wants (run_queue r.client).run.client).sends }))
      (append_assoc r.entries (run_queue r.client).run.entries (calls_all (run_queue r.client).wants (run_queue r.client).run.client).entries) whole

  -- ---- what a call came to

  module _ (past : List HistoryItem) (c : ClientValue) (file : OpenFile) (l : Layout) (after : WriterAfter) (comes : ComesTo B Q I past c file l after) (i : I past c) (stays : c.has_left ≡ false) where
    moved : IsQuietStep after.step → Stays I past (has_writer c l after)
    moved quiet = (k.moves past c file l after comes quiet i, stays)

    covered : (commit : Bool) → IsQuietStep after.step → RunKeeps (Stays I) P past (if commit then tells_covered file (Some (with_writer l after.writer)) (has_writer c l after) else unmoved (has_writer c l after))
    covered true quiet =
        let told : RunKeeps I P past (tells_covered file (Some (with_writer l after.writer)) (has_writer c l after)) = k.covers past c file l after comes quiet (k.moves past c file l after comes quiet i) in
        record { entries = told.entries; keeps = (told.keeps, stays) }
    covered false quiet = run_unmoved (Stays I) P past (has_writer c l after) (moved quiet)

    failed : (id : MirrorId) (cause : LeftCause) → after.step ≡ step.Failed id cause → RunKeeps (Stays I) P past (mirror_failed id cause (Some (with_writer l after.writer)) (has_writer c l after))
    failed id cause is =
        run_either (Stays I) P past (has_no_mirror after.writer) (lost_mirrors (with_failed (with_writer l after.writer) id cause) (has_writer c l after)) (unmoved (with_layout c (ending (with_failed (with_writer l after.writer) id cause))))
        (λ none.
        answer_keeps B Q I P k past (record c { layout = Some (record (ending (with_failed (with_writer l after.writer) id cause)) { untold = [] }); queue = without_commit c.queue }) (answer.Failed failing.AllMirrors) (c.answers ++ answer.Failed failing.AllMirrors ∷ []) c.told
        (k.loses past c file l after id cause comes is i, stays))
        (λ some. run_unmoved (Stays I) P past (with_layout c (ending (with_failed (with_writer l after.writer) id cause))) (k.fails past c file l after id cause comes is some i, stays))

    by_step : (commit : Bool) (came : WriterStep) → after.step ≡ came → RunKeeps (Stays I) P past (after_step commit file came (has_writer c l after))
    by_step commit step.Stranger is = run_unmoved (Stays I) P past (has_writer c l after) (moved (subst IsQuietStep (sym is) tt))
    by_step commit step.Waiting is = covered commit (subst IsQuietStep (sym is) tt)
    by_step commit step.Committed is = covered commit (subst IsQuietStep (sym is) tt)
    by_step commit (step.Failed id cause) is = failed id cause is
    by_step commit (step.Fenced id status) is =
        answer_keeps B Q I P k past (record c { layout = None; queue = without_commit c.queue }) (answer.Failed failing.Revoked) (c.answers ++ answer.Failed failing.Revoked ∷ []) c.told (k.fenced past c file l after id status comes is i, stays)

    pub step_keeps : (commit : Bool) → RunKeeps (Stays I) P past (after_step commit file after.step (has_writer c l after))
    step_keeps commit = by_step commit after.step refl

  -- ---- an answer

  module _ (h : List HistoryItem) (c : ClientValue) (server : ℕ) (bytes : List ℕ) (now : ℕ) (reply : RpcReply) (base : B h c) (input : Q (Recorded (Server server) bytes now)) (stays : c.has_left ≡ false) (i : I h c)
      (reply_is : reply_at bytes ≡ Ok reply) where
    heard_so : Stays I (heard_server h server bytes now) c
    heard_so = (k.hears h c (Recorded (Server server) bytes now) tt input i, stays)

    out_keeps : (file : OpenFile) (l : Layout) → c.file ≡ Some file → c.layout ≡ Some l → (o : Option OutCall) → out_at l.writer server ≡ o
        → RunKeeps (Stays I) P (heard_server h server bytes now) (answered_out file l reply.xid (λ call. reply_of_call call reply) o c)
    out_keeps file l there at None is = run_unmoved (Stays I) P (heard_server h server bytes now) c heard_so
    out_keeps file l there at (Some out) is =
        run_either (Stays I) P (heard_server h server bytes now) (out.xid == reply.xid)
        (after_step (is_commit out.call) file (after_reply l.writer reply.xid (reply_of_call out.call reply)).step (has_writer c l (after_reply l.writer reply.xid (reply_of_call out.call reply)))) (unmoved c)
        (λ same.
        step_keeps (heard_server h server bytes now) c file l (after_reply l.writer reply.xid (reply_of_call out.call reply))
        (ByReply h server bytes now reply out (record { base = base; was = i; input = input; stays = stays; file_is = there; layout = at; out_is = is; reply_is = reply_is; number = eqb-true out.xid reply.xid same }) refl refl) heard_so.0 stays (is_commit out.call))
        (λ other. run_unmoved (Stays I) P (heard_server h server bytes now) c heard_so)

    pub answered_keeps : (file : Option OpenFile) (layout : Option Layout) → c.file ≡ file → c.layout ≡ layout → RunKeeps (Stays I) P (heard_server h server bytes now) (ds_answered_by file layout server reply.xid (λ call. reply_of_call call reply) c)
    answered_keeps (Some file) (Some l) there at = out_keeps file l there at (out_at l.writer server) refl
    answered_keeps (Some file) None there at = run_unmoved (Stays I) P (heard_server h server bytes now) c heard_so
    answered_keeps None layout there at = run_unmoved (Stays I) P (heard_server h server bytes now) c heard_so

  -- ---- a timeout

  -- the record that may go out again
  module _ (h : List HistoryItem) (c : ClientValue) (file : OpenFile) (l : Layout) (server : ℕ) (out : OutCall) (late : IsLate B I h c file l server out) where
    again_keeps : (came : WriterStep) → FirstKeep (Stays I) P (heard_late h server) (goes_again (RepeatsToServer server out.xid c.name l.writer.cred out.call) came)
    again_keeps step.Waiting = record {
      sends = λ entries d s. ((k.repeats_server h c file l server out late entries d s.0).0, tt);
      keeps = λ entries d s. ((k.repeats_server h c file l server out late entries d s.0).1, s.1);
    }
    again_keeps step.Stranger = record { sends = λ entries d s. tt; keeps = λ entries d s. subst (λ x. Stays I x d) (sym (append-nil (heard_late h server ++ entered entries))) s }
    again_keeps step.Committed = record { sends = λ entries d s. tt; keeps = λ entries d s. subst (λ x. Stays I x d) (sym (append-nil (heard_late h server ++ entered entries))) s }
    again_keeps (step.Failed id cause) = record { sends = λ entries d s. tt; keeps = λ entries d s. subst (λ x. Stays I x d) (sym (append-nil (heard_late h server ++ entered entries))) s }
    again_keeps (step.Fenced id status) = record { sends = λ entries d s. tt; keeps = λ entries d s. subst (λ x. Stays I x d) (sym (append-nil (heard_late h server ++ entered entries))) s }

  late_keeps : (h : List HistoryItem) (c : ClientValue) (file : OpenFile) (l : Layout) (server : ℕ) → B h c → c.has_left ≡ false → I h c → I (heard_late h server) c → c.file ≡ Some file → c.layout ≡ Some l
      → (o : Option OutCall) → out_at l.writer server ≡ o → StepKeeps (Stays I) P (heard_late h server) (and_then (late_out file l server o c) ends_event)
  late_keeps h c file l server base stays i heard there at None is = calls_keep B Q I P k (heard_late h server) c (heard, stays)
  late_keeps h c file l server base stays i heard there at (Some out) is =
      let late : IsLate B I h c file l server out = record { base = base; was = i; stays = stays; file_is = there; layout = at; out_is = is } in
      let after : WriterAfter = after_timeout l.writer out.xid in
      let entry = k.timed (heard_late h server) c out.xid heard in
      let item : HistoryItem = Enters (TimedOut (Client c.number) out.xid) in
      let come : ClientRun = after_step (is_commit out.call) file after.step (has_writer c l after) in
      first_keep (heard_late h server) (record { client = come.client; entries = TimedOut (Client c.number) out.xid ∷ come.entries }) (goes_again (RepeatsToServer server out.xid c.name l.writer.cred out.call) after.step)
      (run_follows (Stays I) P (heard_late h server) (record { client = c; entries = TimedOut (Client c.number) out.xid ∷ [] }) (λ d. come) (record { entries = (entry.0, tt); keeps = (entry.1, stays) })
      (step_keeps (heard_late h server ++ item ∷ []) c file l after (ByTimeout h server out late refl refl) entry.1 stays (is_commit out.call)))
      (again_keeps h c file l server out late after.step)

  pub timeout_keeps : (h : List HistoryItem) (c : ClientValue) (server : ℕ) → B h c → c.has_left ≡ false → I h c → I (heard_late h server) c → (file : Option OpenFile) (layout : Option Layout) → c.file ≡ file → c.layout ≡ layout
      → StepKeeps (Stays I) P (heard_late h server) (and_then (ds_timed_out_by file layout server c) ends_event)
  timeout_keeps h c server base stays i heard (Some file) (Some l) there at = late_keeps h c file l server base stays i heard there at (out_at l.writer server) refl
  timeout_keeps h c server base stays i heard (Some file) None there at = calls_keep B Q I P k (heard_late h server) c (heard, stays)
  timeout_keeps h c server base stays i heard None layout there at = calls_keep B Q I P k (heard_late h server) c (heard, stays)
