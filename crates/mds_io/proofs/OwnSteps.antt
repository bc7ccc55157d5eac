-- What a step makes of a write of the metadata server: its one taken write stays, and nothing is told of a layout.
use Rattle.std.proofs.Common.{◌≡◌, ℕ, ◌+◌, Bool, true, false, cond, List, [], ◌∷◌, ◌++◌, Option, Some, None, refl, ◌∙◌}
use Rattle.std.specs.Prelude.{slice_get, ◌==◌, fold}
use Rattle.cluster_model.specs.declared.ids.MirrorId.{MirrorId}
use Rattle.cluster_model.specs.declared.phase.LeftCause.{LeftCause}
use Rattle.cluster_model.specs.declared.phase.LeftCause.TheVariants.{Error, Timeouts}
use Rattle.cluster_model.specs.DsCalls.{DsCallValue, DsReplyValue, Created, Set, Written, Committed, Bytes, NotSync, Failed}
use Rattle.cluster_model.specs.Fences.{odd_status}
use Rattle.mirror_writer.specs.declared.call.TakenWrite.{TakenWrite}
use Rattle.mirror_writer.specs.declared.call.NextCall.{NextCall}
use Rattle.mirror_writer.specs.declared.call.WriterCall.{WriterCall}
use Rattle.mirror_writer.specs.declared.call.WriterCall.TheVariants.{NoCall, OutWrite, OutCommit}
use Rattle.mirror_writer.specs.declared.step.WriterStep.{WriterStep}
use Rattle.mirror_writer.specs.declared.step.WriterStep.TheVariants as step
use Rattle.mirror_writer.specs.Writers.{WriterMirror, WriterValue, WriterAfter, open_committed, with_writer_mirror, with_writer_call, with_commit, fails, after_commit, is_stranger, call_answered, mirror_answered, answered_at, mirror_of_call, after_reply, call_timed_out, mirror_timed_out, timed_out_at, after_timeout, call_for, sends_as, sends_next, sends_to, sends_at, next_at, next_place, next_sent}
use Rattle.mirror_writer.specs.WriterLaws.{sent_from, sent_notes, is_new_call}
use Rattle.mds_io.specs.OwnWrites.{step_by, told_by, after_own_reply}
use Rattle.mds_io.specs.OwnWriteLaws.{OwnMove, SendsOne, TakesReply, TakesTimeout, OwnRun, own_moved}

-- what the writer is handed of an answer
abbrev pub plain_of : DsReplyValue → DsReplyValue
plain_of (Failed status shown) = Failed odd_status shown
plain_of (Created fileid shown) = Created fileid shown
plain_of (Set shown) = Set shown
plain_of (Written shown verifier) = Written shown verifier
plain_of (Committed shown verifier) = Committed shown verifier
plain_of (Bytes shown eof bytes) = Bytes shown eof bytes
plain_of (NotSync shown) = NotSync shown

-- the taken writes are as they were, and no layout is said to be no more
pub record Plain (taken : List TakenWrite) (a : WriterAfter) : Type 0 where
  pub same : a.writer.taken ≡ taken
  pub unfenced : (id : MirrorId) (status : ℕ) → a.step ≡ step.Fenced id status → ⊥

plain_stranger : (s : WriterValue) → Plain s.taken (is_stranger s)
plain_stranger s = record { same = refl; unfenced = λ id status is. absurd (cc (is)) }

plain_fails : (s : WriterValue) (place : ℕ) (m : WriterMirror) (cause : LeftCause) → Plain s.taken (fails s place m cause)
plain_fails s place m cause = record { same = refl; unfenced = λ id status is. absurd (cc (is)) }

plain_commit : (s : WriterValue) → Plain s.taken (after_commit s)
plain_commit s = by_test (open_committed s.mirrors)
  where
    by_test : (b : Bool)
        → Plain s.taken (cond {A = WriterAfter} b (record { writer = record { cred = s.cred; taken = s.taken; mirrors = s.mirrors; wants_commit = false; is_fenced = s.is_fenced }; step = step.Committed }) (record { writer = s; step = step.Waiting }))
    by_test true = record { same = refl; unfenced = λ id status is. absurd (cc (is)) }
    by_test false = record { same = refl; unfenced = λ id status is. absurd (cc (is)) }

plain_call : (s : WriterValue) (place : ℕ) (m : WriterMirror) (reply : DsReplyValue) (call : WriterCall) → Plain s.taken (call_answered s place m (plain_of reply) call)
plain_call s place m reply NoCall = plain_stranger s
plain_call s place m (Written shown verifier) (OutWrite xid write timeouts) = record { same = refl; unfenced = λ id status is. absurd (cc (is)) }
plain_call s place m (Failed status shown) (OutWrite xid write timeouts) = plain_fails s place m (Error odd_status)
plain_call s place m (Created fileid shown) (OutWrite xid write timeouts) = plain_fails s place m (Error odd_status)
plain_call s place m (Set shown) (OutWrite xid write timeouts) = plain_fails s place m (Error odd_status)
plain_call s place m (Committed shown verifier) (OutWrite xid write timeouts) = plain_fails s place m (Error odd_status)
plain_call s place m (Bytes shown eof bytes) (OutWrite xid write timeouts) = plain_fails s place m (Error odd_status)
plain_call s place m (NotSync shown) (OutWrite xid write timeouts) = plain_fails s place m (Error odd_status)
plain_call s place m (Committed shown verifier) (OutCommit xid timeouts) = plain_commit (with_writer_mirror s place (with_commit verifier m))
plain_call s place m (Failed status shown) (OutCommit xid timeouts) = plain_fails s place m (Error odd_status)
plain_call s place m (Created fileid shown) (OutCommit xid timeouts) = plain_fails s place m (Error odd_status)
plain_call s place m (Set shown) (OutCommit xid timeouts) = plain_fails s place m (Error odd_status)
plain_call s place m (Written shown verifier) (OutCommit xid timeouts) = plain_fails s place m (Error odd_status)
plain_call s place m (Bytes shown eof bytes) (OutCommit xid timeouts) = plain_fails s place m (Error odd_status)
plain_call s place m (NotSync shown) (OutCommit xid timeouts) = plain_fails s place m (Error odd_status)

plain_reply : (s : WriterValue) (xid : ℕ) (reply : DsReplyValue) → Plain s.taken (after_reply s xid (plain_of reply))
plain_reply s xid reply = by_call (mirror_of_call s xid)
  where
    by_mirror : (place : ℕ) (o : Option WriterMirror) → Plain s.taken (mirror_answered s (plain_of reply) place o)
    by_mirror place None = plain_stranger s
    by_mirror place (Some m) = plain_call s place m reply m.call

    by_call : (o : Option ℕ) → Plain s.taken (answered_at s (plain_of reply) o)
    by_call None = plain_stranger s
    by_call (Some place) = by_mirror place (slice_get s.mirrors place)

plain_told : (taken : List TakenWrite) (told : ℕ) (a : WriterAfter) → Plain taken a → Plain taken (told_by told a)
plain_told taken told a p = record { same = p.same; unfenced = by_step a.step p.unfenced }
  where
    by_step : (x : WriterStep) → ((id : MirrorId) (status : ℕ) → x ≡ step.Fenced id status → ⊥) → (id : MirrorId) (status : ℕ) → step_by told x ≡ step.Fenced id status → ⊥
    by_step (step.Failed f cause) none id status is = absurd (cc (is))
    by_step step.Stranger none id status is = none id status is
    by_step step.Waiting none id status is = none id status is
    by_step (step.Fenced f s) none id status is = none id status is
    by_step step.Committed none id status is = none id status is

pub own_plain : (s : WriterValue) (xid : ℕ) (reply : DsReplyValue) → Plain s.taken (after_own_reply s xid reply)
own_plain s xid (Failed status shown) = plain_told s.taken status (after_reply s xid (Failed odd_status shown)) (plain_reply s xid (Failed status shown))
own_plain s xid (Created fileid shown) = plain_reply s xid (Created fileid shown)
own_plain s xid (Set shown) = plain_reply s xid (Set shown)
own_plain s xid (Written shown verifier) = plain_reply s xid (Written shown verifier)
own_plain s xid (Committed shown verifier) = plain_reply s xid (Committed shown verifier)
own_plain s xid (Bytes shown eof bytes) = plain_reply s xid (Bytes shown eof bytes)
own_plain s xid (NotSync shown) = plain_reply s xid (NotSync shown)

late_taken : (s : WriterValue) (xid : ℕ) → (after_timeout s xid).writer.taken ≡ s.taken
late_taken s xid = by_call (mirror_of_call s xid)
  where
    by_count : (place : ℕ) (m : WriterMirror) (again : WriterCall) (b : Bool)
        → (cond {A = WriterAfter} b (fails s place m Timeouts) (record { writer = with_writer_mirror s place (with_writer_call again m); step = step.Waiting })).writer.taken ≡ s.taken
    by_count place m again true = refl
    by_count place m again false = refl

    by_out : (place : ℕ) (m : WriterMirror) (call : WriterCall) → (call_timed_out s place m call).writer.taken ≡ s.taken
    by_out place m NoCall = refl
    by_out place m (OutWrite x write timeouts) = by_count place m (OutWrite x write (timeouts + 1)) (timeouts == 2)
    by_out place m (OutCommit x timeouts) = by_count place m (OutCommit x (timeouts + 1)) (timeouts == 2)

    by_mirror : (place : ℕ) (o : Option WriterMirror) → (mirror_timed_out s place o).writer.taken ≡ s.taken
    by_mirror place None = refl
    by_mirror place (Some m) = by_out place m m.call

    by_call : (o : Option ℕ) → (timed_out_at s o).writer.taken ≡ s.taken
    by_call None = refl
    by_call (Some place) = by_mirror place (slice_get s.mirrors place)

sent_taken : (s : WriterValue) (xid : ℕ) → (sent_from s (next_sent s xid)).taken ≡ s.taken
sent_taken s xid = by_place (next_place s)
  where
    by_call : (place : ℕ) (m : WriterMirror) (next : NextCall) (call : Option DsCallValue) → (sent_from s (sends_as s xid place m next call)).taken ≡ s.taken
    by_call place m next None = refl
    by_call place m next (Some call) = refl

    by_next : (place : ℕ) (m : WriterMirror) (next : Option NextCall) → (sent_from s (sends_next s xid place m next)).taken ≡ s.taken
    by_next place m None = refl
    by_next place m (Some next) = by_call place m next (call_for s m.id next)

    by_mirror : (place : ℕ) (o : Option WriterMirror) → (sent_from s (sends_to s xid place o)).taken ≡ s.taken
    by_mirror place None = refl
    by_mirror place (Some m) = by_next place m (next_at s.wants_commit m)

    by_place : (o : Option ℕ) → (sent_from s (sends_at s xid o)).taken ≡ s.taken
    by_place None = refl
    by_place (Some place) = by_mirror place (slice_get s.mirrors place)

move_taken : (run : OwnRun) (move : OwnMove) → (own_moved run move).writer.taken ≡ run.writer.taken
move_taken run (SendsOne xid) = by_test (is_new_call run.writer xid (mirror_of_call run.writer xid))
  where
    by_test : (b : Bool)
        → (cond {A = OwnRun} b (record { writer = sent_from run.writer (next_sent run.writer xid); notes = run.notes ++ sent_notes run.writer (next_place run.writer) }) run).writer.taken ≡ run.writer.taken
    by_test true = sent_taken run.writer xid
    by_test false = refl
move_taken run (TakesReply xid reply) = (own_plain run.writer xid reply).same
move_taken run (TakesTimeout xid) = late_taken run.writer xid

pub run_taken : (moves : List OwnMove) (run : OwnRun) → (fold own_moved run moves).writer.taken ≡ run.writer.taken
run_taken [] run = refl
run_taken (move ∷ moves) run = run_taken moves (own_moved run move) ∙ move_taken run move
