-- A writer keeps its uid, its mirrors and what it has taken, and its calls are WRITEs and COMMITs of it; a read's calls are READs.
use Rattle.std.proofs.Common.{◌≡◌, ◌≤◌, ℕ, ◌+◌, true, false, Option, Some, None, refl, subst}
use Rattle.std.specs.Prelude.{◌==◌, ◌||◌, slice_get}
use Rattle.std.proofs.lemmas.Bool.{cond_both}
use Rattle.cluster_model.specs.declared.ids.Mirror.{Mirror}
use Rattle.cluster_model.specs.declared.phase.LeftCause.TheVariants.{Error, Timeouts}
use Rattle.cluster_model.specs.DsCalls.{DsReplyValue, Created, Set, Written, Committed, Bytes, NotSync, Failed}
use Rattle.cluster_model.specs.Fences.{waits, odd_status}
use Rattle.mds_io.specs.Reads.{ReadState, ReadSends, in_turn}
use Rattle.mds_io.specs.Reads as read
use Rattle.mds_io.specs.OwnWrites.{after_own_reply}
use Rattle.mirror_writer.specs.declared.call.TakenWrite.{TakenWrite}
use Rattle.mirror_writer.specs.declared.call.WriterCall.{WriterCall}
use Rattle.mirror_writer.specs.declared.call.WriterCall.TheVariants.{NoCall, OutWrite, OutCommit}
use Rattle.mirror_writer.specs.declared.call.NextCall.{NextCall}
use Rattle.mirror_writer.specs.declared.call.NextCall.TheVariants.{SendsWrite, SendsCommit}
use Rattle.mirror_writer.specs.declared.mirror.TheConstants.{ACCES, STALE}
use Rattle.mirror_writer.specs.declared.step.WriterStep.TheVariants as step
use Rattle.mirror_writer.specs.Writers.{WriterMirror, WriterValue, WriterAfter, WriterSends, next_place, next_at, call_for, write_of_taken, sends_as, sends_next, sends_to, sends_at, next_sent, mirror_of_call, with_writer_mirror, with_writer_call, with_out, with_failure, without_call, with_write_answer, fails, is_fenced_by, refused_by, write_answered, with_commit, commit_answered, call_answered, mirror_answered, answered_at, after_reply, open_committed, timed_out_as, call_timed_out, mirror_timed_out, timed_out_at, after_timeout}
use Rattle.mds_laws.specs.MdsRunLaws.{IsUidOf}
use Rattle.mds_walk.proofs.Lists.{got_in}
use Rattle.mds_laws.proofs.OwnWriters.{StaysWriter, IsCallOf, stays_itself, put_same, fileid_in}
use Rattle.mds_laws.proofs.Keeping.{is_read_call, is_write_call}

module _ (w : WriterValue) where
  abbrev Same : WriterAfter → Type 0
  Same a = StaysWriter w a.writer

  module _ (place : ℕ) (m : WriterMirror) (there : slice_get w.mirrors place ≡ Some m) where
    put : (n : WriterMirror) → n.id.fileid ≡ m.id.fileid → StaysWriter w (with_writer_mirror w place n)
    put n is = record { cred = refl; taken = refl; fileids = put_same w.mirrors place m n there is }

    fenced_same : (status : ℕ) → Same (is_fenced_by w place m status)
    fenced_same status = record { cred = refl; taken = refl; fileids = put_same w.mirrors place m (without_call m) there refl }

    refused_same : (status : ℕ) → Same (refused_by w place m status)
    refused_same status =
        cond_both ((status == ACCES) || (status == STALE)) (is_fenced_by w place m status) (fails w place m (Error status)) (λ (a : WriterAfter). Same a) (λ is. fenced_same status) (λ off. put (with_failure m) refl)

    write_same : (write : ℕ) (reply : DsReplyValue) → Same (write_answered w place m write reply)
    write_same write (Written shown verifier) = put (with_write_answer write verifier m) refl
    write_same write (Failed status shown) = refused_same status
    write_same write (Created fileid shown) = put (with_failure m) refl
    write_same write (Set shown) = put (with_failure m) refl
    write_same write (Committed shown verifier) = put (with_failure m) refl
    write_same write (Bytes shown eof bytes) = put (with_failure m) refl
    write_same write (NotSync shown) = put (with_failure m) refl

    commit_same : (reply : DsReplyValue) → Same (commit_answered w place m reply)
    commit_same (Committed shown verifier) =
        let n : WriterValue = with_writer_mirror w place (with_commit verifier m) in
        let now : StaysWriter w n = put (with_commit verifier m) refl in
        cond_both (open_committed n.mirrors) (record { writer = record { cred = n.cred; taken = n.taken; mirrors = n.mirrors; wants_commit = false; is_fenced = n.is_fenced }; step = step.Committed })
        (record { writer = n; step = step.Waiting }) (λ (a : WriterAfter). Same a) (λ is. record { cred = refl; taken = refl; fileids = now.fileids }) (λ off. now)
    commit_same (Failed status shown) = refused_same status
    commit_same (Created fileid shown) = put (with_failure m) refl
    commit_same (Set shown) = put (with_failure m) refl
    commit_same (Written shown verifier) = put (with_failure m) refl
    commit_same (Bytes shown eof bytes) = put (with_failure m) refl
    commit_same (NotSync shown) = put (with_failure m) refl

    call_same : (reply : DsReplyValue) (call : WriterCall) → Same (call_answered w place m reply call)
    call_same reply NoCall = stays_itself w
    call_same reply (OutWrite xid write timeouts) = write_same write reply
    call_same reply (OutCommit xid timeouts) = commit_same reply

    late_same : (timeouts : ℕ) (again : WriterCall) → Same (timed_out_as w place m timeouts again)
    late_same timeouts again =
        cond_both (timeouts == 2) (fails w place m Timeouts) (record { writer = with_writer_mirror w place (with_writer_call again m); step = step.Waiting }) (λ (a : WriterAfter). Same a) (λ is. put (with_failure m) refl)
        (λ off. put (with_writer_call again m) refl)

    call_late : (call : WriterCall) → Same (call_timed_out w place m call)
    call_late NoCall = stays_itself w
    call_late (OutWrite xid write timeouts) = late_same timeouts (OutWrite xid write (timeouts + 1))
    call_late (OutCommit xid timeouts) = late_same timeouts (OutCommit xid (timeouts + 1))

  mirror_same : (reply : DsReplyValue) (place : ℕ) (o : Option WriterMirror) → slice_get w.mirrors place ≡ o → Same (mirror_answered w reply place o)
  mirror_same reply place None there = stays_itself w
  mirror_same reply place (Some m) there = call_same place m there reply m.call

  at_same : (reply : DsReplyValue) (o : Option ℕ) → Same (answered_at w reply o)
  at_same reply None = stays_itself w
  at_same reply (Some place) = mirror_same reply place (slice_get w.mirrors place) refl

  reply_same : (xid : ℕ) (reply : DsReplyValue) → Same (after_reply w xid reply)
  reply_same xid reply = at_same reply (mirror_of_call w xid)

  pub answer_kept : (xid : ℕ) (reply : DsReplyValue) → StaysWriter w (after_own_reply w xid reply).writer
  answer_kept xid (Failed status shown) = reply_same xid (Failed odd_status shown)
  answer_kept xid (Created fileid shown) = reply_same xid (Created fileid shown)
  answer_kept xid (Set shown) = reply_same xid (Set shown)
  answer_kept xid (Written shown verifier) = reply_same xid (Written shown verifier)
  answer_kept xid (Committed shown verifier) = reply_same xid (Committed shown verifier)
  answer_kept xid (Bytes shown eof bytes) = reply_same xid (Bytes shown eof bytes)
  answer_kept xid (NotSync shown) = reply_same xid (NotSync shown)

  mirror_late : (place : ℕ) (o : Option WriterMirror) → slice_get w.mirrors place ≡ o → Same (mirror_timed_out w place o)
  mirror_late place None there = stays_itself w
  mirror_late place (Some m) there = call_late place m there m.call

  at_late : (o : Option ℕ) → Same (timed_out_at w o)
  at_late None = stays_itself w
  at_late (Some place) = mirror_late place (slice_get w.mirrors place) refl

  pub timeout_kept : (xid : ℕ) → StaysWriter w (after_timeout w xid).writer
  timeout_kept xid = at_late (mirror_of_call w xid)

  -- ---- what goes out

  abbrev pub OfSends : Option WriterSends → Type 0
  OfSends None = Unit {0}
  OfSends (Some c) = StaysWriter w c.writer × ((uid : ℕ) → 65536 ≤ uid → IsUidOf c.call uid) × (is_write_call c.call ≡ true) × IsCallOf w c.call

  module _ (xid place : ℕ) (m : WriterMirror) (there : slice_get w.mirrors place ≡ Some m) where
    sends_call : (next : NextCall) → OfSends (sends_as w xid place m next (call_for w m.id next))
    sends_call (SendsWrite n) = by_taken (slice_get w.taken n) refl
      where
        by_taken : (o : Option TakenWrite) → slice_get w.taken n ≡ o → OfSends (sends_as w xid place m (SendsWrite n) (write_of_taken m.id o))
        by_taken None taken = tt
        by_taken (Some t) taken = (put place m there (with_out xid (SendsWrite n) m) refl, λ uid is. is, refl, (fileid_in w.mirrors place m there, got_in w.taken n t taken))
    sends_call SendsCommit = (put place m there (with_out xid SendsCommit m) refl, λ uid is. tt, refl, fileid_in w.mirrors place m there)

    sends_next_of : (o : Option NextCall) → OfSends (sends_next w xid place m o)
    sends_next_of None = tt
    sends_next_of (Some next) = sends_call next

  sends_to_of : (xid place : ℕ) (o : Option WriterMirror) → slice_get w.mirrors place ≡ o → OfSends (sends_to w xid place o)
  sends_to_of xid place None there = tt
  sends_to_of xid place (Some m) there = sends_next_of xid place m there (next_at w.wants_commit m)

  sends_at_of : (xid : ℕ) (o : Option ℕ) → OfSends (sends_at w xid o)
  sends_at_of xid None = tt
  sends_at_of xid (Some place) = sends_to_of xid place (slice_get w.mirrors place) refl

  pub sends_of : (xid : ℕ) (c : WriterSends) → next_sent w xid ≡ Some c → OfSends (Some c)
  sends_of xid c is = subst OfSends is (sends_at_of xid (next_place w))

-- ---- a read

abbrev OfRead : Option ReadSends → Type 0
OfRead None = Unit {0}
OfRead (Some c) = IsUidOf c.call 0 × (is_read_call c.call ≡ true)

read_to : (r : ReadState) (xid : ℕ) (o : Option Mirror) → OfRead (read.sends_to r xid o)
read_to r xid None = tt
read_to r xid (Some m) = (refl, refl)

pub read_of : (r : ReadState) (xid : ℕ) (c : ReadSends) → read.next_sent r xid ≡ Some c → IsUidOf c.call 0 × (is_read_call c.call ≡ true)
read_of r xid c is = subst OfRead is (cond_both (waits r.stage) (read.sends_to r xid (in_turn r)) None OfRead (λ w. read_to r xid (in_turn r)) (λ off. tt))
