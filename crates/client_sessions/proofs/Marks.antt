-- Which mirrors a writer has and which of them failed, behind each of its steps.
use Rattle.std.proofs.Common.{◌≡◌, ℕ, zero, suc, ◌+◌, Bool, true, false, List, [], ◌∷◌, length, Option, Some, None, refl, sym, ap, subst, ◌∙◌, inl, inr, ◌⊎◌}
use Rattle.std.specs.Prelude.{slice_get, slice_set, map, ◌||◌, ◌&&◌, ◌==◌, if◌then◌else◌}
use Rattle.std.specs.List.{list_all}
use Rattle.std.proofs.lemmas.Option.{none-some, same_Some}
use Rattle.cluster_model.specs.declared.ids.MirrorId.{MirrorId}
use Rattle.cluster_model.specs.declared.phase.LeftCause.{LeftCause}
use Rattle.cluster_model.specs.declared.phase.LeftCause.TheVariants.{Error, Timeouts}
use Rattle.cluster_model.specs.DsCalls.{DsReplyValue, Created, Set, Written, Committed, Bytes, NotSync, Failed}
use Rattle.cluster_model.specs.Fences.{odd_status}
use Rattle.mirror_writer.specs.declared.call.WriterCall.{WriterCall}
use Rattle.mirror_writer.specs.declared.call.WriterCall.TheVariants.{NoCall, OutWrite, OutCommit}
use Rattle.mirror_writer.specs.declared.call.NextCall.{NextCall}
use Rattle.mirror_writer.specs.declared.call.NextCall.TheVariants.{SendsWrite, SendsCommit}
use Rattle.mirror_writer.specs.declared.mirror.TheConstants.{ACCES, STALE}
use Rattle.mirror_writer.specs.declared.step.WriterStep.{WriterStep}
use Rattle.mirror_writer.specs.declared.step.WriterStep.TheVariants as step
use Rattle.mirror_writer.specs.Writers.{WriterMirror, WriterValue, WriterSends, WriterAfter, with_write, queued, with_out, with_write_answer, with_commit, with_failure, without_call, with_writer_call, with_writer_mirror, open_committed, mirror_of_call, after_reply, answered_at, mirror_answered, call_answered, write_answered, commit_answered, after_commit, fails, refused_by, is_fenced_by, after_timeout, timed_out_at, mirror_timed_out, call_timed_out, timed_out_as, next_sent}
use Rattle.mirror_writer.specs.Outstanding.{has_no_mirror}
use Rattle.client_laws.proofs.NextSent.{Sending, sending}
use Rattle.client_laws.proofs.Places.{map_set}

-- ---- marks

abbrev pub mark : WriterMirror → MirrorId × Bool
mark m = (m.id, m.has_failed)

abbrev pub marks_of : WriterValue → List (MirrorId × Bool)
marks_of w = map mark w.mirrors

abbrev pub is_marked : MirrorId × Bool → Bool
is_marked k = k.1

-- every mirror failed
pub all_marked : (mirrors : List WriterMirror) → list_all (λ (m : WriterMirror). m.has_failed) mirrors ≡ list_all is_marked (map mark mirrors)
all_marked [] = refl
all_marked (m ∷ mirrors) = ap (λ (b : Bool). m.has_failed && b) (all_marked mirrors)

set_marks : {A B : Type 0} (f : A → B) (xs : List A) (i : ℕ) (y : A) → map f (slice_set xs i y) ≡ slice_set (map f xs) i (f y)
set_marks f [] i y = refl
set_marks f (x ∷ xs) zero y = refl
set_marks f (x ∷ xs) (suc i) y = ap (λ l. f x ∷ l) (set_marks f xs i y)

-- ---- a mirror failed, or none

-- the mirror of this name failed, and no other did
pub record FailsAt (old : List (MirrorId × Bool)) (id : MirrorId) (new : List (MirrorId × Bool)) : Type 0 where
  pub place : ℕ
  pub was : Bool
  pub there : slice_get old place ≡ Some (id, was)
  pub marks_are : new ≡ slice_set old place (id, true)

abbrev pub MarksBehind : List (MirrorId × Bool) → WriterStep → List (MirrorId × Bool) → Type 0
MarksBehind old (step.Failed id cause) new = FailsAt old id new
MarksBehind old step.Stranger new = new ≡ old
MarksBehind old step.Waiting new = new ≡ old
MarksBehind old step.Committed new = new ≡ old
MarksBehind old (step.Fenced id status) new = new ≡ old

abbrev pub MarksAfter : WriterValue → WriterAfter → Type 0
MarksAfter w after = MarksBehind (marks_of w) after.step (marks_of after.writer)

mark_there : (mirrors : List WriterMirror) (place : ℕ) (m : WriterMirror) → slice_get mirrors place ≡ Some m → slice_get (map mark mirrors) place ≡ Some (m.id, m.has_failed)
mark_there [] place m there = absurd (none-some m there)
mark_there (x ∷ mirrors) zero m there = ap (λ (k : WriterMirror). Some (mark k)) (same_Some x m there)
mark_there (x ∷ mirrors) (suc place) m there = mark_there mirrors place m there

module _ (w : WriterValue) where
  -- behind a COMMIT's answer
  commit_marks : (new : WriterValue) → marks_of new ≡ marks_of w → MarksAfter w (after_commit new)
  commit_marks new same = by_test (open_committed new.mirrors)
    where
      by_test : (b : Bool)
          → MarksAfter w (if b then record { writer = record { cred = new.cred; taken = new.taken; mirrors = new.mirrors; wants_commit = false; is_fenced = new.is_fenced }; step = step.Committed } else record { writer = new; step = step.Waiting })
      by_test true = same
      by_test false = same

  module _ (place : ℕ) (m : WriterMirror) (there : slice_get w.mirrors place ≡ Some m) where
    fails_marks : (cause : LeftCause) → MarksAfter w (fails w place m cause)
    fails_marks cause = record { place = place; was = m.has_failed; there = mark_there w.mirrors place m there; marks_are = set_marks mark w.mirrors place (with_failure m) }

    refused_marks : (status : ℕ) → MarksAfter w (refused_by w place m status)
    refused_marks status = by_test ((status == ACCES) || (status == STALE))
      where
        by_test : (b : Bool) → MarksAfter w (if b then is_fenced_by w place m status else fails w place m (Error status))
        by_test true = map_set mark w.mirrors place m (without_call m) there refl
        by_test false = fails_marks (Error status)

    write_marks : (n : ℕ) (r : DsReplyValue) → MarksAfter w (write_answered w place m n r)
    write_marks n (Written shown verifier) = map_set mark w.mirrors place m (with_write_answer n verifier m) there refl
    write_marks n (Failed status shown) = refused_marks status
    write_marks n (Created fileid shown) = fails_marks (Error odd_status)
    write_marks n (Set shown) = fails_marks (Error odd_status)
    write_marks n (Committed shown verifier) = fails_marks (Error odd_status)
    write_marks n (Bytes shown eof bytes) = fails_marks (Error odd_status)
    write_marks n (NotSync shown) = fails_marks (Error odd_status)

    committed_marks : (r : DsReplyValue) → MarksAfter w (commit_answered w place m r)
    committed_marks (Committed shown verifier) = commit_marks (with_writer_mirror w place (with_commit verifier m)) (map_set mark w.mirrors place m (with_commit verifier m) there refl)
    committed_marks (Failed status shown) = refused_marks status
    committed_marks (Created fileid shown) = fails_marks (Error odd_status)
    committed_marks (Set shown) = fails_marks (Error odd_status)
    committed_marks (Written shown verifier) = fails_marks (Error odd_status)
    committed_marks (Bytes shown eof bytes) = fails_marks (Error odd_status)
    committed_marks (NotSync shown) = fails_marks (Error odd_status)

    answered_marks : (r : DsReplyValue) (call : WriterCall) → MarksAfter w (call_answered w place m r call)
    answered_marks r NoCall = refl
    answered_marks r (OutWrite xid n timeouts) = write_marks n r
    answered_marks r (OutCommit xid timeouts) = committed_marks r

    late_marks : (timeouts : ℕ) (call : WriterCall) → MarksAfter w (timed_out_as w place m timeouts call)
    late_marks timeouts call = by_test (timeouts == 2)
      where
        by_test : (b : Bool) → MarksAfter w (if b then fails w place m Timeouts else record { writer = with_writer_mirror w place (with_writer_call call m); step = step.Waiting })
        by_test true = fails_marks Timeouts
        by_test false = map_set mark w.mirrors place m (with_writer_call call m) there refl

    timeout_call_marks : (call : WriterCall) → MarksAfter w (call_timed_out w place m call)
    timeout_call_marks NoCall = refl
    timeout_call_marks (OutWrite xid n timeouts) = late_marks timeouts (OutWrite xid n (timeouts + 1))
    timeout_call_marks (OutCommit xid timeouts) = late_marks timeouts (OutCommit xid (timeouts + 1))

  reply_at_place : (r : DsReplyValue) (o : Option ℕ) → MarksAfter w (answered_at w r o)
  reply_at_place r None = refl
  reply_at_place r (Some place) = by_mirror (slice_get w.mirrors place) refl
    where
      by_mirror : (o : Option WriterMirror) → slice_get w.mirrors place ≡ o → MarksAfter w (mirror_answered w r place o)
      by_mirror None at = refl
      by_mirror (Some m) at = answered_marks place m at r m.call

  timeout_at_place : (o : Option ℕ) → MarksAfter w (timed_out_at w o)
  timeout_at_place None = refl
  timeout_at_place (Some place) = by_mirror (slice_get w.mirrors place) refl
    where
      by_mirror : (o : Option WriterMirror) → slice_get w.mirrors place ≡ o → MarksAfter w (mirror_timed_out w place o)
      by_mirror None at = refl
      by_mirror (Some m) at = timeout_call_marks place m at m.call

  pub reply_marks : (xid : ℕ) (r : DsReplyValue) → MarksAfter w (after_reply w xid r)
  reply_marks xid r = reply_at_place r (mirror_of_call w xid)

  pub timeout_marks : (xid : ℕ) → MarksAfter w (after_timeout w xid)
  timeout_marks xid = timeout_at_place (mirror_of_call w xid)

  -- a call goes out
  pub sent_marks : (xid : ℕ) (s : WriterSends) → next_sent w xid ≡ Some s → marks_of s.writer ≡ marks_of w
  sent_marks xid s is =
      let how : Sending w xid s = sending w xid s is in
      ap marks_of how.writer_is ∙ map_set mark w.mirrors how.place how.mirror (with_out xid how.next how.mirror) how.found (same_mark how.next how.mirror)
    where
      same_mark : (next : NextCall) (m : WriterMirror) → mark (with_out xid next m) ≡ mark m
      same_mark (SendsWrite n) m = refl
      same_mark SendsCommit m = refl

  -- a write is taken
  pub taken_marks : (at : ℕ) (bytes : List ℕ) → marks_of (with_write w at bytes) ≡ marks_of w
  taken_marks at bytes = each w.mirrors
    where
      each : (mirrors : List WriterMirror) → map mark (map (queued (length w.taken)) mirrors) ≡ map mark mirrors
      each [] = refl
      each (m ∷ mirrors) = ap (λ (l : List (MirrorId × Bool)). mark m ∷ l) (each mirrors)

  pub none_left : has_no_mirror w ≡ list_all is_marked (marks_of w)
  none_left = all_marked w.mirrors
