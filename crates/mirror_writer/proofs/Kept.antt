-- What no move changes: how many mirrors there are, that a fenced writer is fenced, and that only mirrors that are there are noted.
use Rattle.std.proofs.Common.{◌≡◌, ℕ, ◌<◌, Bool, true, false, List, [], ◌∷◌, ◌++◌, length, cond, Option, Some, None, refl, sym, ap, subst, ◌∙◌, inl, inr, ◌⊎◌, append-nil}
use Rattle.std.specs.Prelude.{slice_get, not}
use Rattle.std.proofs.lemmas.List.{length-map, length-set}
use Rattle.std.proofs.lemmas.Option.{slice_get_within}
use Rattle.cluster_model.specs.DsCalls.{DsReplyValue, Created, Set, Written, Committed, Bytes, NotSync, Failed}
use Rattle.mirror_writer.specs.declared.call.MirrorOutcome.{MirrorOutcome}
use Rattle.mirror_writer.specs.declared.call.MirrorOutcome.TheVariants as outcome
use Rattle.mirror_writer.specs.declared.call.NextCall.{NextCall}
use Rattle.mirror_writer.specs.declared.call.NextCall.TheVariants.{SendsWrite, SendsCommit}
use Rattle.mirror_writer.specs.declared.call.WriterCall.{WriterCall}
use Rattle.mirror_writer.specs.declared.call.WriterCall.TheVariants.{NoCall, OutWrite, OutCommit}
use Rattle.mirror_writer.specs.declared.step.WriterStep.TheVariants as step
use Rattle.mirror_writer.specs.MirrorSteps.{MirrorAfter, answered_there, late_there}
use Rattle.mirror_writer.specs.Writers.{WriterMirror, WriterValue, WriterAfter, WriterSends, queued, with_write, with_writer_mirror, overlaps_taken, next_place, next_at, next_sent, mirror_of_call, after_reply, after_timeout, answered_at, mirror_answered, timed_out_at, mirror_timed_out}
use Rattle.mirror_writer.specs.WriterLaws.{WriterMove, TakesWrite, WantsCommit, SendsOne, TakesReply, TakesTimeout, WriterNote, CommitSent, WriteAnswered, CommitAnswered, WriterRun, writer_moved, sent_from, sent_notes, noted_mirror, noted_next, answer_notes, mirror_notes, call_notes, is_new_call}
use Rattle.mirror_writer.proofs.WriterSteps.{settles, answer_settles, late_settles, stays_set}
use Rattle.mirror_writer.proofs.Moved.{note_place, settled_mirrors, settled_free, free_after}
use Rattle.mirror_writer.proofs.PlainLaws.{Sending, sending}

-- nothing is noted, or something of this place
abbrev pub NotesOf : ℕ → List WriterNote → Type 0
NotesOf at added = (added ≡ []) ⊎ ((note : WriterNote) × (added ≡ note ∷ []) × (note_place note ≡ at))

pub record Kept (run new : WriterRun) : Type 0 where
  pub size : length new.writer.mirrors ≡ length run.writer.mirrors
  pub free : new.writer.is_fenced ≡ false → run.writer.is_fenced ≡ false
  pub added : List WriterNote
  pub notes : new.notes ≡ run.notes ++ added
  pub within : (added ≡ []) ⊎ ((note : WriterNote) × (added ≡ note ∷ []) × (note_place note < length run.writer.mirrors))

stays_kept : (run : WriterRun) → Kept run run
stays_kept run = record { size = refl; free = λ is. is; added = []; notes = sym (append-nil run.notes); within = inl refl }

not_false : (b : Bool) → not b ≡ true → b ≡ false
not_false true is = absurd cc
not_false false is = refl

free_before : (b : Bool) (o : MirrorOutcome) → free_after b o ≡ true → b ≡ true
free_before b outcome.Stranger is = is
free_before b outcome.Waiting is = is
free_before b (outcome.Failed cause) is = is
free_before b (outcome.Fenced status) is = absurd cc
free_before b outcome.CommitOk is = is

-- the mirror at a place settles
settled_kept : (s : WriterValue) (at : ℕ) (m : WriterMirror) (a : MirrorAfter) (x : WriterAfter) → x ≡ settles s at m a → (length x.writer.mirrors ≡ length s.mirrors) × (x.writer.is_fenced ≡ false → s.is_fenced ≡ false)
settled_kept s at m a x is =
    let set : WriterValue = with_writer_mirror s at a.mirror in (
      ap (λ (y : WriterAfter). length y.writer.mirrors) is ∙ ap length (settled_mirrors set m.id a.outcome) ∙ length-set s.mirrors at a.mirror,
      λ free. not_false s.is_fenced (free_before (not s.is_fenced) a.outcome (settled_free set m.id a.outcome ∙ sym (ap (λ (y : WriterAfter). not y.writer.is_fenced) is) ∙ ap not free)),
    )

call_noted : (at : ℕ) (reply : DsReplyValue) (call : WriterCall) → NotesOf at (call_notes at reply call)
call_noted at reply NoCall = inl refl
call_noted at (Written shown verifier) (OutWrite xid write timeouts) = inr (WriteAnswered at write verifier, refl, refl)
call_noted at (Created fileid shown) (OutWrite xid write timeouts) = inl refl
call_noted at (Set shown) (OutWrite xid write timeouts) = inl refl
call_noted at (Committed shown verifier) (OutWrite xid write timeouts) = inl refl
call_noted at (Bytes shown eof bytes) (OutWrite xid write timeouts) = inl refl
call_noted at (NotSync shown) (OutWrite xid write timeouts) = inl refl
call_noted at (Failed status shown) (OutWrite xid write timeouts) = inl refl
call_noted at (Committed shown verifier) (OutCommit xid timeouts) = inr (CommitAnswered at verifier, refl, refl)
call_noted at (Created fileid shown) (OutCommit xid timeouts) = inl refl
call_noted at (Set shown) (OutCommit xid timeouts) = inl refl
call_noted at (Written shown verifier) (OutCommit xid timeouts) = inl refl
call_noted at (Bytes shown eof bytes) (OutCommit xid timeouts) = inl refl
call_noted at (NotSync shown) (OutCommit xid timeouts) = inl refl
call_noted at (Failed status shown) (OutCommit xid timeouts) = inl refl

noted_within : (at size : ℕ) (added : List WriterNote) → at < size → NotesOf at added → (added ≡ []) ⊎ ((note : WriterNote) × (added ≡ note ∷ []) × (note_place note < size))
noted_within at size added below (inl none) = inl none
noted_within at size added below (inr (note, one, there)) = inr (note, one, subst (λ (p : ℕ). p < size) (sym there) below)

reply_kept : (run : WriterRun) (xid : ℕ) (reply : DsReplyValue) → Kept run (writer_moved run (TakesReply xid reply))
reply_kept run xid reply = by_call (mirror_of_call run.writer xid) refl
  where
    unchanged : after_reply run.writer xid reply ≡ record { writer = run.writer; step = step.Stranger } → answer_notes run.writer reply (mirror_of_call run.writer xid) ≡ [] → Kept run (writer_moved run (TakesReply xid reply))
    unchanged same none = record {
      size = ap (λ (x : WriterAfter). length x.writer.mirrors) same;
      free = λ free. sym (ap (λ (x : WriterAfter). x.writer.is_fenced) same) ∙ free;
      added = answer_notes run.writer reply (mirror_of_call run.writer xid);
      notes = refl;
      within = inl none;
    }

    by_mirror : (at : ℕ) → mirror_of_call run.writer xid ≡ Some at → (o : Option WriterMirror) → slice_get run.writer.mirrors at ≡ o → Kept run (writer_moved run (TakesReply xid reply))
    by_mirror at is None found = unchanged (ap (answered_at run.writer reply) is ∙ ap (mirror_answered run.writer reply at) found) (ap (answer_notes run.writer reply) is ∙ ap (mirror_notes at reply) found)
    by_mirror at is (Some m) found =
        let kept : (length (after_reply run.writer xid reply).writer.mirrors ≡ length run.writer.mirrors) × ((after_reply run.writer xid reply).writer.is_fenced ≡ false → run.writer.is_fenced ≡ false)
        = settled_kept run.writer at m (answered_there m reply m.call) (after_reply run.writer xid reply)
        (ap (answered_at run.writer reply) is ∙ ap (mirror_answered run.writer reply at) found ∙ sym (answer_settles run.writer at m reply m.call (stays_set run.writer.mirrors at m found))) in
        record {
          size = kept.0;
          free = kept.1;
          added = call_notes at reply m.call;
          notes = ap (λ l. run.notes ++ l) (ap (answer_notes run.writer reply) is ∙ ap (mirror_notes at reply) found);
          within = noted_within at (length run.writer.mirrors) (call_notes at reply m.call) (slice_get_within run.writer.mirrors at m found) (call_noted at reply m.call);
        }

    by_call : (o : Option ℕ) → mirror_of_call run.writer xid ≡ o → Kept run (writer_moved run (TakesReply xid reply))
    by_call None is = unchanged (ap (answered_at run.writer reply) is) (ap (answer_notes run.writer reply) is)
    by_call (Some at) is = by_mirror at is (slice_get run.writer.mirrors at) refl

timeout_kept : (run : WriterRun) (xid : ℕ) → Kept run (writer_moved run (TakesTimeout xid))
timeout_kept run xid = by_call (mirror_of_call run.writer xid) refl
  where
    unchanged : after_timeout run.writer xid ≡ record { writer = run.writer; step = step.Stranger } → Kept run (writer_moved run (TakesTimeout xid))
    unchanged same = record {
      size = ap (λ (x : WriterAfter). length x.writer.mirrors) same;
      free = λ free. sym (ap (λ (x : WriterAfter). x.writer.is_fenced) same) ∙ free;
      added = [];
      notes = sym (append-nil run.notes);
      within = inl refl;
    }

    by_mirror : (at : ℕ) → mirror_of_call run.writer xid ≡ Some at → (o : Option WriterMirror) → slice_get run.writer.mirrors at ≡ o → Kept run (writer_moved run (TakesTimeout xid))
    by_mirror at is None found = unchanged (ap (timed_out_at run.writer) is ∙ ap (mirror_timed_out run.writer at) found)
    by_mirror at is (Some m) found =
        let kept : (length (after_timeout run.writer xid).writer.mirrors ≡ length run.writer.mirrors) × ((after_timeout run.writer xid).writer.is_fenced ≡ false → run.writer.is_fenced ≡ false)
        = settled_kept run.writer at m (late_there m m.call) (after_timeout run.writer xid)
        (ap (timed_out_at run.writer) is ∙ ap (mirror_timed_out run.writer at) found ∙ sym (late_settles run.writer at m m.call (stays_set run.writer.mirrors at m found))) in
        record { size = kept.0; free = kept.1; added = []; notes = sym (append-nil run.notes); within = inl refl }

    by_call : (o : Option ℕ) → mirror_of_call run.writer xid ≡ o → Kept run (writer_moved run (TakesTimeout xid))
    by_call None is = unchanged (ap (timed_out_at run.writer) is)
    by_call (Some at) is = by_mirror at is (slice_get run.writer.mirrors at) refl

sent_noted : (s : WriterValue) → (sent_notes s (next_place s) ≡ []) ⊎ ((note : WriterNote) × (sent_notes s (next_place s) ≡ note ∷ []) × (note_place note < length s.mirrors))
sent_noted s = by_place (next_place s)
  where
    by_next : (at : ℕ) → at < length s.mirrors → (next : Option NextCall) → (noted_next at next ≡ []) ⊎ ((note : WriterNote) × (noted_next at next ≡ note ∷ []) × (note_place note < length s.mirrors))
    by_next at below None = inl refl
    by_next at below (Some (SendsWrite n)) = inl refl
    by_next at below (Some SendsCommit) = inr (CommitSent at, refl, below)

    by_mirror : (at : ℕ) (o : Option WriterMirror) → slice_get s.mirrors at ≡ o → (noted_mirror s.wants_commit at o ≡ []) ⊎ ((note : WriterNote) × (noted_mirror s.wants_commit at o ≡ note ∷ []) × (note_place note < length s.mirrors))
    by_mirror at None found = inl refl
    by_mirror at (Some m) found = by_next at (slice_get_within s.mirrors at m found) (next_at s.wants_commit m)

    by_place : (o : Option ℕ) → (sent_notes s o ≡ []) ⊎ ((note : WriterNote) × (sent_notes s o ≡ note ∷ []) × (note_place note < length s.mirrors))
    by_place None = inl refl
    by_place (Some at) = by_mirror at (slice_get s.mirrors at) refl

sent_kept : (run : WriterRun) (xid : ℕ) → Kept run (record { writer = sent_from run.writer (next_sent run.writer xid); notes = run.notes ++ sent_notes run.writer (next_place run.writer) })
sent_kept run xid = record {
  size = (by_sends (next_sent run.writer xid) refl).0;
  free = (by_sends (next_sent run.writer xid) refl).1;
  added = sent_notes run.writer (next_place run.writer);
  notes = refl;
  within = sent_noted run.writer;
}
  where
    by_sends : (o : Option WriterSends) → next_sent run.writer xid ≡ o
        → (length (sent_from run.writer o).mirrors ≡ length run.writer.mirrors) × ((sent_from run.writer o).is_fenced ≡ false → run.writer.is_fenced ≡ false)
    by_sends None is = (refl, λ free. free)
    by_sends (Some sends) is =
        let how : Sending run.writer xid sends = sending run.writer xid sends is in
        (ap (λ (x : WriterValue). length x.mirrors) how.writer_is ∙ length-set run.writer.mirrors how.place _, λ free. sym (ap (λ (x : WriterValue). x.is_fenced) how.writer_is) ∙ free)

pub kept : (run : WriterRun) (move : WriterMove) → Kept run (writer_moved run move)
kept run (TakesWrite at bytes) = by_test (overlaps_taken run.writer at (length bytes))
  where
    by_test : (b : Bool) → Kept run (cond b run (record { writer = with_write run.writer at bytes; notes = run.notes }))
    by_test true = stays_kept run
    by_test false = record {
      size = length-map run.writer.mirrors (queued (length run.writer.taken));
      free = λ free. free;
      added = [];
      notes = sym (append-nil run.notes);
      within = inl refl;
    }
kept run WantsCommit = record { size = refl; free = λ free. free; added = []; notes = sym (append-nil run.notes); within = inl refl }
kept run (SendsOne xid) = by_test (is_new_call run.writer xid (mirror_of_call run.writer xid))
  where
    by_test : (b : Bool)
        → Kept run (cond b (record { writer = sent_from run.writer (next_sent run.writer xid); notes = run.notes ++ sent_notes run.writer (next_place run.writer) }) run)
    by_test true = sent_kept run xid
    by_test false = stays_kept run
kept run (TakesReply xid reply) = reply_kept run xid reply
kept run (TakesTimeout xid) = timeout_kept run xid
