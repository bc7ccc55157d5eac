-- What a move does at each mirror, and what is noted of it.
use Rattle.std.proofs.Common.{◌≡◌, ◌≢◌, ℕ, ◌+◌, Bool, true, false, List, [], ◌∷◌, ◌++◌, length, cond, Option, Some, None, refl, sym, ap, subst, ◌∙◌, inl, inr, ◌⊎◌}
use Rattle.std.specs.Prelude.{slice_get, slice_set, option_map, ◌==◌, ◌||◌, ◌&&◌, not}
use Rattle.std.proofs.lemmas.Bool.{cases_eq}
use Rattle.std.proofs.lemmas.List.{append-nil, length-append}
use Rattle.std.proofs.lemmas.Option.{slice_get-map}
use Rattle.cluster_model.proofs.Elements.{slice_get-set_other, slice_get-set_same}
use Rattle.cluster_model.specs.declared.ids.MirrorId.{MirrorId}
use Rattle.cluster_model.specs.declared.phase.LeftCause.TheVariants.{Error, Timeouts}
use Rattle.cluster_model.specs.DsCalls.{DsCallValue, DsReplyValue, Created, Set, Written, Committed, Bytes, NotSync, Failed}
use Rattle.mirror_writer.specs.declared.call.MirrorOutcome.{MirrorOutcome}
use Rattle.mirror_writer.specs.declared.call.MirrorOutcome.TheVariants as outcome
use Rattle.mirror_writer.specs.declared.call.NextCall.{NextCall}
use Rattle.mirror_writer.specs.declared.call.NextCall.TheVariants.{SendsWrite, SendsCommit}
use Rattle.mirror_writer.specs.declared.call.WriterCall.{WriterCall}
use Rattle.mirror_writer.specs.declared.call.WriterCall.TheVariants.{NoCall, OutWrite, OutCommit}
use Rattle.mirror_writer.specs.Writers.{WriterMirror, WriterValue, WriterAfter, queued, with_out, with_write_answer, with_commit, with_failure, without_call, with_writer_call, with_writer_mirrors, with_write, overlaps_taken, open_committed, is_committed, next_place, next_at, next_idle, next_of_call, next_sent, sends_at, sends_to, sends_next, sends_as, call_for, mirror_of_call, after_reply, after_timeout, answered_at, timed_out_at, mirror_answered, mirror_timed_out}
use Rattle.mirror_writer.specs.MirrorSteps.{MirrorAfter, answered_there, late_there, settled_as, failed_there}
use Rattle.mirror_writer.specs.WriterLaws.{WriterMove, TakesWrite, WantsCommit, SendsOne, TakesReply, TakesTimeout, WriterNote, CommitSent, WriteAnswered, CommitAnswered, WriterRun, writer_moved, sent_notes, noted_mirror, noted_next, answer_notes, mirror_notes, call_notes, write_notes, commit_notes, sent_from, is_new_call}
use Rattle.mirror_writer.proofs.WriterSteps.{finished, waiting, none_first, none_next, none_call, settles, answer_settles, late_settles, stays_set}

abbrev pub note_place : WriterNote → ℕ
note_place (CommitSent p) = p
note_place (WriteAnswered p w v) = p
note_place (CommitAnswered p v) = p

-- nothing is noted of this place
pub data IsAway (place : ℕ) (added : List WriterNote) : Type 0 where
  NoNote : added ≡ [] → IsAway place added
  OtherNote : (note : WriterNote) → added ≡ note ∷ [] → note_place note ≢ place → IsAway place added

-- what a mirror becomes where no write is taken; `free` says that the writer is not fenced, before and behind the move
pub data Moved (free free' : Bool) (place : ℕ) (m m' : WriterMirror) (added : List WriterNote) : Type 0 where
  Rests : m' ≡ m → IsAway place added → Moved free free' place m m' added
  SentWrite : (xid k : ℕ) (rest : List ℕ) → m.call ≡ NoCall → m.queue ≡ k ∷ rest → m' ≡ with_out xid (SendsWrite k) m → added ≡ [] → Moved free free' place m m' added
  SentCommit : (xid : ℕ) → free ≡ true → m.has_failed ≡ false → m.call ≡ NoCall → m.queue ≡ [] → m' ≡ with_out xid SendsCommit m → added ≡ CommitSent place ∷ [] → Moved free free' place m m' added
  TookAnswer : (xid k timeouts v : ℕ) → m.call ≡ OutWrite xid k timeouts → m' ≡ with_write_answer k v m → added ≡ WriteAnswered place k v ∷ [] → Moved free free' place m m' added
  TookCommit : (xid timeouts v : ℕ) → m.call ≡ OutCommit xid timeouts → m' ≡ with_commit v m → added ≡ CommitAnswered place v ∷ [] → Moved free free' place m m' added
  Drops : free' ≡ false → m' ≡ without_call m → added ≡ [] → Moved free free' place m m' added
  Fails : m' ≡ with_failure m → added ≡ [] → Moved free free' place m m' added
  LateWrite : (xid k t u : ℕ) → m.call ≡ OutWrite xid k t → m' ≡ with_writer_call (OutWrite xid k u) m → added ≡ [] → Moved free free' place m m' added
  LateCommit : (xid t u : ℕ) → m.call ≡ OutCommit xid t → m' ≡ with_writer_call (OutCommit xid u) m → added ≡ [] → Moved free free' place m m' added

-- a write was taken, or not
pub data Turned (old new : WriterValue) (place : ℕ) (m m' : WriterMirror) (added : List WriterNote) : Type 0 where
  Queues : length new.taken ≡ length old.taken + 1 → m' ≡ queued (length old.taken) m → added ≡ [] → Turned old new place m m' added
  Moves : length new.taken ≡ length old.taken → Moved (not old.is_fenced) (not new.is_fenced) place m m' added → Turned old new place m m' added

pub record MoveAt (run : WriterRun) (new : WriterRun) (place : ℕ) (m : WriterMirror) : Type 0 where
  pub mirror : WriterMirror
  pub there : slice_get new.writer.mirrors place ≡ Some mirror
  pub added : List WriterNote
  pub notes : new.notes ≡ run.notes ++ added
  pub turned : Turned run.writer new.writer place m mirror added

-- nothing changes there
rests : (run new : WriterRun) (place : ℕ) (m : WriterMirror) (added : List WriterNote) → slice_get run.writer.mirrors place ≡ Some m → new.writer.mirrors ≡ run.writer.mirrors → new.writer.taken ≡ run.writer.taken
    → new.notes ≡ run.notes ++ added → IsAway place added → MoveAt run new place m
rests run new place m added here mirrors taken notes away = record {
  mirror = m;
  there = ap (λ l. slice_get l place) mirrors ∙ here;
  added = added;
  notes = notes;
  turned = Moves (ap length taken) (Rests refl away);
}

same_notes : (notes : List WriterNote) → notes ≡ notes ++ []
same_notes notes = sym (append-nil notes)

-- one mirror is set, and what is noted is of it
set_there : (run new : WriterRun) (place at : ℕ) (m mp after : WriterMirror) (added : List WriterNote) → slice_get run.writer.mirrors place ≡ Some m → slice_get run.writer.mirrors at ≡ Some mp
    → new.writer.mirrors ≡ slice_set run.writer.mirrors at after → new.writer.taken ≡ run.writer.taken → new.notes ≡ run.notes ++ added
    → Moved (not run.writer.is_fenced) (not new.writer.is_fenced) at mp after added → (place ≢ at → IsAway place added) → MoveAt run new place m
set_there run new place at m mp after added here found set taken notes moved away = by_place (cases_eq place at)
  where
    by_place : (place ≡ at) ⊎ (place ≡ at → ⊥) → MoveAt run new place m
    by_place (inl same) =
        let one : m ≡ mp = cc (here, found, ap (slice_get run.writer.mirrors) same) in
        record {
          mirror = after;
          there = ap (λ l. slice_get l place) set ∙ ap (slice_get (slice_set run.writer.mirrors at after)) same ∙ slice_get-set_same run.writer.mirrors at mp after found;
          added = added;
          notes = notes;
          turned = Moves (ap length taken)
              (subst (λ (x : WriterMirror). Moved (not run.writer.is_fenced) (not new.writer.is_fenced) place x after added) (sym one)
              (subst (λ (p : ℕ). Moved (not run.writer.is_fenced) (not new.writer.is_fenced) p mp after added) (sym same) moved));
        }
    by_place (inr other) = record {
      mirror = m;
      there = ap (λ l. slice_get l place) set ∙ slice_get-set_other run.writer.mirrors at place after other ∙ here;
      added = added;
      notes = notes;
      turned = Moves (ap length taken) (Rests refl (away other));
    }

-- ---- an answer

-- the mirrors and the writes behind an outcome
pub settled_mirrors : (s : WriterValue) (id : MirrorId) (o : MirrorOutcome) → (settled_as s id o).writer.mirrors ≡ s.mirrors
settled_mirrors s id outcome.Stranger = refl
settled_mirrors s id outcome.Waiting = refl
settled_mirrors s id (outcome.Failed cause) = refl
settled_mirrors s id (outcome.Fenced status) = refl
settled_mirrors s id outcome.CommitOk = by_answer (open_committed s.mirrors)
  where
    by_answer : (b : Bool)
        → (cond {A = WriterAfter} b (finished s) (waiting s)).writer.mirrors ≡ s.mirrors
    by_answer true = refl
    by_answer false = refl

pub settled_taken : (s : WriterValue) (id : MirrorId) (o : MirrorOutcome) → (settled_as s id o).writer.taken ≡ s.taken
settled_taken s id outcome.Stranger = refl
settled_taken s id outcome.Waiting = refl
settled_taken s id (outcome.Failed cause) = refl
settled_taken s id (outcome.Fenced status) = refl
settled_taken s id outcome.CommitOk = by_answer (open_committed s.mirrors)
  where
    by_answer : (b : Bool)
        → (cond {A = WriterAfter} b (finished s) (waiting s)).writer.taken ≡ s.taken
    by_answer true = refl
    by_answer false = refl

abbrev pub free_after : Bool → MirrorOutcome → Bool
free_after free outcome.Stranger = free
free_after free outcome.Waiting = free
free_after free (outcome.Failed cause) = free
free_after free (outcome.Fenced status) = false
free_after free outcome.CommitOk = free

pub settled_free : (s : WriterValue) (id : MirrorId) (o : MirrorOutcome) → free_after (not s.is_fenced) o ≡ not (settled_as s id o).writer.is_fenced
settled_free s id outcome.Stranger = refl
settled_free s id outcome.Waiting = refl
settled_free s id (outcome.Failed cause) = refl
settled_free s id (outcome.Fenced status) = refl
settled_free s id outcome.CommitOk = by_answer (open_committed s.mirrors)
  where
    by_answer : (b : Bool)
        → not s.is_fenced ≡ not ((cond {A = WriterAfter} b (finished s) (waiting s)).writer.is_fenced)
    by_answer true = refl
    by_answer false = refl

refused_moved : (free : Bool) (at : ℕ) (m : WriterMirror) (status : ℕ) (b : Bool)
    → (let a : MirrorAfter = cond b (record { mirror = without_call m; outcome = outcome.Fenced status }) (failed_there m (Error status)) in Moved free (free_after free a.outcome) at m a.mirror [])
refused_moved free at m status true = Drops refl refl refl
refused_moved free at m status false = Fails refl refl

answer_moved : (free : Bool) (at : ℕ) (m : WriterMirror) (reply : DsReplyValue) (call : WriterCall) → m.call ≡ call
    → Moved free (free_after free (answered_there m reply call).outcome) at m (answered_there m reply call).mirror (call_notes at reply call)
answer_moved free at m reply NoCall is = Rests refl (NoNote refl)
answer_moved free at m (Written shown verifier) (OutWrite xid write timeouts) is = TookAnswer xid write timeouts verifier is refl refl
answer_moved free at m (Failed status shown) (OutWrite xid write timeouts) is = refused_moved free at m status ((status == 13) || (status == 70))
answer_moved free at m (Created fileid shown) (OutWrite xid write timeouts) is = Fails refl refl
answer_moved free at m (Set shown) (OutWrite xid write timeouts) is = Fails refl refl
answer_moved free at m (Committed shown verifier) (OutWrite xid write timeouts) is = Fails refl refl
answer_moved free at m (Bytes shown eof bytes) (OutWrite xid write timeouts) is = Fails refl refl
answer_moved free at m (NotSync shown) (OutWrite xid write timeouts) is = Fails refl refl
answer_moved free at m (Committed shown verifier) (OutCommit xid timeouts) is = TookCommit xid timeouts verifier is refl refl
answer_moved free at m (Failed status shown) (OutCommit xid timeouts) is = refused_moved free at m status ((status == 13) || (status == 70))
answer_moved free at m (Created fileid shown) (OutCommit xid timeouts) is = Fails refl refl
answer_moved free at m (Set shown) (OutCommit xid timeouts) is = Fails refl refl
answer_moved free at m (Written shown verifier) (OutCommit xid timeouts) is = Fails refl refl
answer_moved free at m (Bytes shown eof bytes) (OutCommit xid timeouts) is = Fails refl refl
answer_moved free at m (NotSync shown) (OutCommit xid timeouts) is = Fails refl refl

write_away : (place at write : ℕ) (reply : DsReplyValue) → place ≢ at → IsAway place (write_notes at write reply)
write_away place at write (Written shown verifier) other = OtherNote (WriteAnswered at write verifier) refl (λ same. other (sym same))
write_away place at write (Created fileid shown) other = NoNote refl
write_away place at write (Set shown) other = NoNote refl
write_away place at write (Committed shown verifier) other = NoNote refl
write_away place at write (Bytes shown eof bytes) other = NoNote refl
write_away place at write (NotSync shown) other = NoNote refl
write_away place at write (Failed status shown) other = NoNote refl

commit_away : (place at : ℕ) (reply : DsReplyValue) → place ≢ at → IsAway place (commit_notes at reply)
commit_away place at (Committed shown verifier) other = OtherNote (CommitAnswered at verifier) refl (λ same. other (sym same))
commit_away place at (Created fileid shown) other = NoNote refl
commit_away place at (Set shown) other = NoNote refl
commit_away place at (Written shown verifier) other = NoNote refl
commit_away place at (Bytes shown eof bytes) other = NoNote refl
commit_away place at (NotSync shown) other = NoNote refl
commit_away place at (Failed status shown) other = NoNote refl

call_away : (place at : ℕ) (reply : DsReplyValue) (call : WriterCall) → place ≢ at → IsAway place (call_notes at reply call)
call_away place at reply NoCall other = NoNote refl
call_away place at reply (OutWrite xid write timeouts) other = write_away place at write reply other
call_away place at reply (OutCommit xid timeouts) other = commit_away place at reply other

-- the mirror at a place settles
settled_there : (run new : WriterRun) (place at : ℕ) (m mp : WriterMirror) (a : MirrorAfter) (step' : WriterAfter) (added : List WriterNote) → slice_get run.writer.mirrors place ≡ Some m
    → slice_get run.writer.mirrors at ≡ Some mp → settles run.writer at mp a ≡ step' → new.writer ≡ step'.writer → new.notes ≡ run.notes ++ added
    → Moved (not run.writer.is_fenced) (free_after (not run.writer.is_fenced) a.outcome) at mp a.mirror added → (place ≢ at → IsAway place added) → MoveAt run new place m
settled_there run new place at m mp a step' added here found is same notes moved away =
    let set : WriterValue = with_writer_mirrors run.writer (slice_set run.writer.mirrors at a.mirror) in
    let whole : new.writer ≡ (settled_as set mp.id a.outcome).writer = same ∙ sym (ap (λ (x : WriterAfter). x.writer) is) in
    set_there run new place at m mp a.mirror added here found (ap (λ (x : WriterValue). x.mirrors) whole ∙ settled_mirrors set mp.id a.outcome) (ap (λ (x : WriterValue). x.taken) whole ∙ settled_taken set mp.id a.outcome) notes
    (subst (λ (b : Bool). Moved (not run.writer.is_fenced) b at mp a.mirror added) (settled_free set mp.id a.outcome ∙ sym (ap (λ (x : WriterValue). not x.is_fenced) whole)) moved) away

module _ (run : WriterRun) (place : ℕ) (m : WriterMirror) (here : slice_get run.writer.mirrors place ≡ Some m) where
  reply_moves : (xid : ℕ) (reply : DsReplyValue) → MoveAt run (writer_moved run (TakesReply xid reply)) place m
  reply_moves xid reply = by_call (mirror_of_call run.writer xid) refl
    where
      new : WriterRun
      new = writer_moved run (TakesReply xid reply)

      by_mirror : (at : ℕ) → mirror_of_call run.writer xid ≡ Some at → (o : Option WriterMirror) → slice_get run.writer.mirrors at ≡ o → MoveAt run (writer_moved run (TakesReply xid reply)) place m
      by_mirror at is None found =
          let same : after_reply run.writer xid reply ≡ mirror_answered run.writer reply at None = ap (answered_at run.writer reply) is ∙ ap (mirror_answered run.writer reply at) found in
          rests run (writer_moved run (TakesReply xid reply)) place m [] here (ap (λ (x : WriterAfter). x.writer.mirrors) same) (ap (λ (x : WriterAfter). x.writer.taken) same)
          (ap (λ l. run.notes ++ l) (ap (answer_notes run.writer reply) is ∙ ap (mirror_notes at reply) found)) (NoNote refl)
      by_mirror at is (Some mp) found =
          settled_there run (writer_moved run (TakesReply xid reply)) place at m mp (answered_there mp reply mp.call) (after_reply run.writer xid reply) (call_notes at reply mp.call) here found
          (answer_settles run.writer at mp reply mp.call (stays_set run.writer.mirrors at mp found) ∙ sym (ap (answered_at run.writer reply) is ∙ ap (mirror_answered run.writer reply at) found)) refl
          (ap (λ l. run.notes ++ l) (ap (answer_notes run.writer reply) is ∙ ap (mirror_notes at reply) found)) (answer_moved (not run.writer.is_fenced) at mp reply mp.call refl) (call_away place at reply mp.call)

      by_call : (o : Option ℕ) → mirror_of_call run.writer xid ≡ o → MoveAt run (writer_moved run (TakesReply xid reply)) place m
      by_call None is =
          let same : after_reply run.writer xid reply ≡ answered_at run.writer reply None = ap (answered_at run.writer reply) is in
          rests run (writer_moved run (TakesReply xid reply)) place m [] here (ap (λ (x : WriterAfter). x.writer.mirrors) same) (ap (λ (x : WriterAfter). x.writer.taken) same)
          (ap (λ l. run.notes ++ l) (ap (answer_notes run.writer reply) is)) (NoNote refl)
      by_call (Some at) is = by_mirror at is (slice_get run.writer.mirrors at) refl

  late_moved : (free : Bool) (at : ℕ) (mp : WriterMirror) (call : WriterCall) → mp.call ≡ call → Moved free (free_after free (late_there mp call).outcome) at mp (late_there mp call).mirror []
  late_moved free at mp NoCall is = Rests refl (NoNote refl)
  late_moved free at mp (OutWrite xid write timeouts) is = by_test (timeouts == 2)
    where
      by_test : (b : Bool)
          → (let a : MirrorAfter = cond b (failed_there mp Timeouts) (record { mirror = with_writer_call (OutWrite xid write (timeouts + 1)) mp; outcome = outcome.Waiting }) in Moved free (free_after free a.outcome) at mp a.mirror [])
      by_test true = Fails refl refl
      by_test false = LateWrite xid write timeouts (timeouts + 1) is refl refl
  late_moved free at mp (OutCommit xid timeouts) is = by_test (timeouts == 2)
    where
      by_test : (b : Bool)
          → (let a : MirrorAfter = cond b (failed_there mp Timeouts) (record { mirror = with_writer_call (OutCommit xid (timeouts + 1)) mp; outcome = outcome.Waiting }) in Moved free (free_after free a.outcome) at mp a.mirror [])
      by_test true = Fails refl refl
      by_test false = LateCommit xid timeouts (timeouts + 1) is refl refl

  timeout_moves : (xid : ℕ) → MoveAt run (writer_moved run (TakesTimeout xid)) place m
  timeout_moves xid = by_call (mirror_of_call run.writer xid) refl
    where
      by_mirror : (at : ℕ) → mirror_of_call run.writer xid ≡ Some at → (o : Option WriterMirror) → slice_get run.writer.mirrors at ≡ o → MoveAt run (writer_moved run (TakesTimeout xid)) place m
      by_mirror at is None found =
          let same : after_timeout run.writer xid ≡ mirror_timed_out run.writer at None = ap (timed_out_at run.writer) is ∙ ap (mirror_timed_out run.writer at) found in
          rests run (writer_moved run (TakesTimeout xid)) place m [] here (ap (λ (x : WriterAfter). x.writer.mirrors) same) (ap (λ (x : WriterAfter). x.writer.taken) same) (same_notes run.notes) (NoNote refl)
      by_mirror at is (Some mp) found =
          settled_there run (writer_moved run (TakesTimeout xid)) place at m mp (late_there mp mp.call) (after_timeout run.writer xid) [] here found
          (late_settles run.writer at mp mp.call (stays_set run.writer.mirrors at mp found) ∙ sym (ap (timed_out_at run.writer) is ∙ ap (mirror_timed_out run.writer at) found)) refl (same_notes run.notes)
          (late_moved (not run.writer.is_fenced) at mp mp.call refl) (λ other. NoNote refl)

      by_call : (o : Option ℕ) → mirror_of_call run.writer xid ≡ o → MoveAt run (writer_moved run (TakesTimeout xid)) place m
      by_call None is =
          let same : after_timeout run.writer xid ≡ timed_out_at run.writer None = ap (timed_out_at run.writer) is in
          rests run (writer_moved run (TakesTimeout xid)) place m [] here (ap (λ (x : WriterAfter). x.writer.mirrors) same) (ap (λ (x : WriterAfter). x.writer.taken) same) (same_notes run.notes) (NoNote refl)
      by_call (Some at) is = by_mirror at is (slice_get run.writer.mirrors at) refl

  -- ---- the next call

  sent_write : (free : Bool) (at xid k : ℕ) (mp : WriterMirror) (wants : Bool) → next_at wants mp ≡ Some (SendsWrite k) → Moved free free at mp (with_out xid (SendsWrite k) mp) []
  sent_write free at xid k mp wants is = by_failure mp.has_failed is
    where
      by_queue : mp.call ≡ NoCall → (queue : List ℕ) → mp.queue ≡ queue → next_idle wants mp queue ≡ Some (SendsWrite k) → Moved free free at mp (with_out xid (SendsWrite k) mp) []
      by_queue idle (n ∷ queue) is next = let same : n ≡ k = cc (next) in SentWrite xid k queue idle (is ∙ ap (λ x. x ∷ queue) same) refl refl
      by_queue idle [] is next = absurd (by_wish (wants && not (is_committed mp)) next)
        where
          by_wish : (b : Bool) → cond b (Some SendsCommit) None ≡ Some (SendsWrite k) → ⊥
          by_wish true is = absurd cc
          by_wish false is = absurd cc

      by_call : (call : WriterCall) → mp.call ≡ call → next_of_call wants mp call ≡ Some (SendsWrite k) → Moved free free at mp (with_out xid (SendsWrite k) mp) []
      by_call NoCall idle next = by_queue idle mp.queue refl next
      by_call (OutWrite x w t) idle next = absurd cc
      by_call (OutCommit x t) idle next = absurd cc

      by_failure : (b : Bool) → cond b None (next_of_call wants mp mp.call) ≡ Some (SendsWrite k) → Moved free free at mp (with_out xid (SendsWrite k) mp) []
      by_failure true next = absurd cc
      by_failure false next = by_call mp.call refl next

  sent_commit : (at xid : ℕ) (mp : WriterMirror) (wants : Bool) → next_at wants mp ≡ Some SendsCommit → Moved true true at mp (with_out xid SendsCommit mp) (CommitSent at ∷ [])
  sent_commit at xid mp wants is = by_failure mp.has_failed refl is
    where
      by_queue : mp.has_failed ≡ false → mp.call ≡ NoCall → (queue : List ℕ) → mp.queue ≡ queue → next_idle wants mp queue ≡ Some SendsCommit → Moved true true at mp (with_out xid SendsCommit mp) (CommitSent at ∷ [])
      by_queue open' idle (n ∷ queue) is next = absurd cc
      by_queue open' idle [] is next = SentCommit xid refl open' idle is refl refl

      by_call : mp.has_failed ≡ false → (call : WriterCall) → mp.call ≡ call → next_of_call wants mp call ≡ Some SendsCommit → Moved true true at mp (with_out xid SendsCommit mp) (CommitSent at ∷ [])
      by_call open' NoCall idle next = by_queue open' idle mp.queue refl next
      by_call open' (OutWrite x w t) idle next = absurd cc
      by_call open' (OutCommit x t) idle next = absurd cc

      by_failure : (b : Bool) → mp.has_failed ≡ b → cond b None (next_of_call wants mp mp.call) ≡ Some SendsCommit → Moved true true at mp (with_out xid SendsCommit mp) (CommitSent at ∷ [])
      by_failure true open' next = absurd cc
      by_failure false open' next = by_call open' mp.call refl next

  sent_moves : (xid : ℕ) (new : WriterRun) → new.writer ≡ sent_from run.writer (next_sent run.writer xid) → new.notes ≡ run.notes ++ sent_notes run.writer (next_place run.writer) → MoveAt run new place m
  sent_moves xid new writer notes = by_place (next_place run.writer) refl
    where
      s : WriterValue
      s = run.writer

      nothing : next_sent run.writer xid ≡ None → sent_notes run.writer (next_place run.writer) ≡ [] → MoveAt run new place m
      nothing none noted =
          let same : new.writer ≡ run.writer = writer ∙ ap (sent_from run.writer) none in
          rests run new place m [] here (ap (λ (x : WriterValue). x.mirrors) same) (ap (λ (x : WriterValue). x.taken) same) (notes ∙ ap (λ l. run.notes ++ l) noted) (NoNote refl)

      one : (at : ℕ) (mp : WriterMirror) (next : NextCall) (call : DsCallValue) → slice_get run.writer.mirrors at ≡ Some mp
          → next_sent run.writer xid ≡ Some (record { writer = with_writer_mirrors run.writer (slice_set run.writer.mirrors at (with_out xid next mp)); id = mp.id; call = call })
          → sent_notes run.writer (next_place run.writer) ≡ noted_next at (Some next) → Moved (not run.writer.is_fenced) (not run.writer.is_fenced) at mp (with_out xid next mp) (noted_next at (Some next))
          → (place ≢ at → IsAway place (noted_next at (Some next))) → MoveAt run new place m
      one at mp next call found sends noted moved away =
          let same : new.writer ≡ with_writer_mirrors run.writer (slice_set run.writer.mirrors at (with_out xid next mp)) = writer ∙ ap (sent_from run.writer) sends in
          set_there run new place at m mp (with_out xid next mp) (noted_next at (Some next)) here found (ap (λ (x : WriterValue). x.mirrors) same) (ap (λ (x : WriterValue). x.taken) same)
          (notes ∙ ap (λ l. run.notes ++ l) noted)
          (subst (λ (b : Bool). Moved (not run.writer.is_fenced) b at mp (with_out xid next mp) (noted_next at (Some next))) (sym (ap (λ (x : WriterValue). not x.is_fenced) same)) moved) away

      unfenced : (at : ℕ) (b : Bool) → (rest : Option ℕ) → cond b None rest ≡ Some at → b ≡ false
      unfenced at true rest is = absurd cc
      unfenced at false rest is = refl

      by_next : (at : ℕ) (mp : WriterMirror) (next : NextCall) → next_place run.writer ≡ Some at → slice_get run.writer.mirrors at ≡ Some mp → next_at run.writer.wants_commit mp ≡ Some next
          → (call : Option DsCallValue) → call_for run.writer mp.id next ≡ call → sent_notes run.writer (next_place run.writer) ≡ noted_next at (Some next) → MoveAt run new place m
      by_next at mp (SendsWrite k) first found next None is noted = nothing (none_call run.writer xid at mp (SendsWrite k) first found next is) noted
      by_next at mp (SendsWrite k) first found next (Some call) is noted =
          one at mp (SendsWrite k) call found
          (ap (sends_at run.writer xid) first ∙ ap (sends_to run.writer xid at) found ∙ ap (sends_next run.writer xid at mp) next ∙ ap (sends_as run.writer xid at mp (SendsWrite k)) is) noted
          (sent_write (not run.writer.is_fenced) at xid k mp run.writer.wants_commit next) (λ other. NoNote refl)
      by_next at mp SendsCommit first found next None is noted = absurd cc
      by_next at mp SendsCommit first found next (Some call) is noted =
          one at mp SendsCommit call found
          (ap (sends_at run.writer xid) first ∙ ap (sends_to run.writer xid at) found ∙ ap (sends_next run.writer xid at mp) next ∙ ap (sends_as run.writer xid at mp SendsCommit) is) noted
          (subst (λ (b : Bool). Moved b b at mp (with_out xid SendsCommit mp) (CommitSent at ∷ [])) (sym (ap not (unfenced at run.writer.is_fenced _ first))) (sent_commit at xid mp run.writer.wants_commit next))
          (λ other. OtherNote (CommitSent at) refl (λ same. other (sym same)))

      by_call : (at : ℕ) (mp : WriterMirror) → next_place run.writer ≡ Some at → slice_get run.writer.mirrors at ≡ Some mp → (next : Option NextCall) → next_at run.writer.wants_commit mp ≡ next → MoveAt run new place m
      by_call at mp first found None next =
          nothing (none_next run.writer xid at mp None first found next refl) (ap (sent_notes run.writer) first ∙ ap (noted_mirror run.writer.wants_commit at) found ∙ ap (noted_next at) next)
      by_call at mp first found (Some n) next =
          by_next at mp n first found next (call_for run.writer mp.id n) refl (ap (sent_notes run.writer) first ∙ ap (noted_mirror run.writer.wants_commit at) found ∙ ap (noted_next at) next)

      by_mirror : (at : ℕ) → next_place run.writer ≡ Some at → (o : Option WriterMirror) → slice_get run.writer.mirrors at ≡ o → MoveAt run new place m
      by_mirror at first None found =
          nothing (ap (sends_at run.writer xid) first ∙ ap (sends_to run.writer xid at) found) (ap (sent_notes run.writer) first ∙ ap (noted_mirror run.writer.wants_commit at) found)
      by_mirror at first (Some mp) found = by_call at mp first found (next_at run.writer.wants_commit mp) refl

      by_place : (o : Option ℕ) → next_place run.writer ≡ o → MoveAt run new place m
      by_place None first = nothing (none_first run.writer xid first) (ap (sent_notes run.writer) first)
      by_place (Some at) first = by_mirror at first (slice_get run.writer.mirrors at) refl

  stays_so : MoveAt run run place m
  stays_so = rests run run place m [] here refl refl (same_notes run.notes) (NoNote refl)

  taken_there : (at : ℕ) (bytes : List ℕ) → MoveAt run (record { writer = with_write run.writer at bytes; notes = run.notes }) place m
  taken_there at bytes = record {
    mirror = queued (length run.writer.taken) m;
    there = slice_get-map (queued (length run.writer.taken)) run.writer.mirrors place ∙ ap (option_map (queued (length run.writer.taken))) here;
    added = [];
    notes = same_notes run.notes;
    turned = Queues (length-append run.writer.taken (record { at = at; bytes = bytes } ∷ [])) refl refl;
  }

  pub moves : (move : WriterMove) → MoveAt run (writer_moved run move) place m
  moves (TakesWrite at bytes) = by_test (overlaps_taken run.writer at (length bytes))
    where
      by_test : (b : Bool) → MoveAt run (cond b run (record { writer = with_write run.writer at bytes; notes = run.notes })) place m
      by_test true = stays_so
      by_test false = taken_there at bytes
  moves WantsCommit = rests run (writer_moved run WantsCommit) place m [] here refl refl (same_notes run.notes) (NoNote refl)
  moves (SendsOne xid) = by_test (is_new_call run.writer xid (mirror_of_call run.writer xid))
    where
      by_test : (b : Bool)
          → MoveAt run (cond b (record { writer = sent_from run.writer (next_sent run.writer xid); notes = run.notes ++ sent_notes run.writer (next_place run.writer) }) run) place m
      by_test true = sent_moves xid (record { writer = sent_from run.writer (next_sent run.writer xid); notes = run.notes ++ sent_notes run.writer (next_place run.writer) }) refl refl
      by_test false = stays_so
  moves (TakesReply xid reply) = reply_moves xid reply
  moves (TakesTimeout xid) = timeout_moves xid
