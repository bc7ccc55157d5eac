-- What holds of each step of a writer, and of its taken writes.
use Rattle.std.proofs.Common.{◌≡◌, ℕ, suc, zero, ◌+◌, ◌<◌, ◌≤◌, Bool, true, false, List, [], ◌∷◌, ◌++◌, length, cond, get_or, Option, Some, None, refl, sym, ap, subst, ◌∙◌, arith, inl, inr, ◌⊎◌}
use Rattle.std.specs.Prelude.{slice_get, slice_set, nat_lt, ◌==◌, ◌||◌, ◌&&◌, fold}
use Rattle.std.specs.List.{list_any}
use Rattle.std.proofs.lemmas.Bool.{cases_lt, both_ways}
use Rattle.std.proofs.lemmas.List.{length-append}
use Rattle.std.proofs.lemmas.List.Folds.{list_any_at}
use Rattle.std.proofs.lemmas.Option.{slice_get_within, get_or_from_slice_get, none-some, same_Some}
use Rattle.std.proofs.lemmas.Grind.{common_steps}
use Rattle.cluster_model.specs.declared.ids.Mirror.{Mirror}
use Rattle.cluster_model.specs.declared.ids.MirrorId.{MirrorId}
use Rattle.cluster_model.specs.declared.phase.LeftCause.{LeftCause}
use Rattle.cluster_model.specs.declared.phase.LeftCause.TheVariants.{Error}
use Rattle.cluster_model.specs.DsCalls.{DsCallValue, Write, Commit, DsReplyValue, Created, Set, Written, Committed, Bytes, NotSync, Failed}
use Rattle.mirror_writer.specs.declared.call.TakenWrite.{TakenWrite}
use Rattle.mirror_writer.specs.declared.call.WriteAnswer.{WriteAnswer}
use Rattle.mirror_writer.specs.declared.call.NextCall.{NextCall}
use Rattle.mirror_writer.specs.declared.call.NextCall.TheVariants.{SendsWrite, SendsCommit}
use Rattle.mirror_writer.specs.declared.call.WriterCall.{WriterCall}
use Rattle.mirror_writer.specs.declared.call.WriterCall.TheVariants.{NoCall, OutWrite, OutCommit}
use Rattle.mirror_writer.specs.declared.step.WriterStep.TheVariants as step
use Rattle.mirror_writer.specs.Writers.{WriterMirror, WriterValue, WriterAfter, WriterSends, touches, overlaps_taken, with_write, open_committed, covered_flag, covered_by, has_verifier, next_place, next_at, next_sent, sends_at, sends_to, sends_next, sends_as, call_for, write_of_taken, with_out, with_writer_mirrors, with_writer_mirror, with_commit, mirror_of_call, after_reply, answered_at, mirror_answered, call_answered, is_fenced_by, fails, after_commit, after_timeout, timed_out_at, mirror_timed_out}
use Rattle.mirror_writer.specs.WriterLaws.{WriterMove, TakesWrite, WantsCommit, SendsOne, TakesReply, TakesTimeout, WriterNote, WriterRun, writer_run, writer_moved, sent_from, sent_notes, is_new_call, AreDisjointWrites, covered_of, StaysCovered, is_ok_commit, call_at_place, call_of_mirror, CommittedJustWhere, IsOfTaken, SendsTaken}
use Rattle.mirror_writer.proofs.Moved.{MoveAt, moves, Turned, Queues, Moves, Moved, Rests, SentWrite, SentCommit, TookAnswer, TookCommit, Drops, Fails, LateWrite, LateCommit, settled_taken}
use Rattle.mirror_writer.proofs.WriterSteps.{finished, waiting, answer_settles, late_settles, stays_set}
use Rattle.mirror_writer.specs.MirrorSteps.{answered_there, late_there}
use Rattle.std.specs.List.{filter}

-- ---- runs

pub run_keeps : (P : WriterRun → Type 0) → ((run : WriterRun) (move : WriterMove) → P run → P (writer_moved run move)) → (moves' : List WriterMove) (run : WriterRun) → P run → P (fold writer_moved run moves')
run_keeps P keeps [] run holds = holds
run_keeps P keeps (move ∷ moves') run holds = run_keeps P keeps moves' (writer_moved run move) (keeps run move holds)

-- ---- the taken writes are disjoint

-- a write is taken, or none is
pub data Takes (old new : WriterValue) : Type 0 where
  SameTaken : new.taken ≡ old.taken → Takes old new
  OneTaken : (w : TakenWrite) → overlaps_taken old w.at (length w.bytes) ≡ false → new.taken ≡ old.taken ++ w ∷ [] → Takes old new

reply_taken : (s : WriterValue) (xid : ℕ) (reply : DsReplyValue) → (after_reply s xid reply).writer.taken ≡ s.taken
reply_taken s xid reply = by_call (mirror_of_call s xid) refl
  where
    by_mirror : (at : ℕ) → mirror_of_call s xid ≡ Some at → (o : Option WriterMirror) → slice_get s.mirrors at ≡ o → (after_reply s xid reply).writer.taken ≡ s.taken
    by_mirror at is None found = ap (λ (x : WriterAfter). x.writer.taken) (ap (answered_at s reply) is ∙ ap (mirror_answered s reply at) found)
    by_mirror at is (Some mp) found =
        ap (λ (x : WriterAfter). x.writer.taken) (ap (answered_at s reply) is ∙ ap (mirror_answered s reply at) found ∙ sym (answer_settles s at mp reply mp.call (stays_set s.mirrors at mp found)))
        ∙ settled_taken (with_writer_mirror s at (answered_there mp reply mp.call).mirror) mp.id (answered_there mp reply mp.call).outcome

    by_call : (o : Option ℕ) → mirror_of_call s xid ≡ o → (after_reply s xid reply).writer.taken ≡ s.taken
    by_call None is = ap (λ (x : WriterAfter). x.writer.taken) (ap (answered_at s reply) is)
    by_call (Some at) is = by_mirror at is (slice_get s.mirrors at) refl

timeout_taken : (s : WriterValue) (xid : ℕ) → (after_timeout s xid).writer.taken ≡ s.taken
timeout_taken s xid = by_call (mirror_of_call s xid) refl
  where
    by_mirror : (at : ℕ) → mirror_of_call s xid ≡ Some at → (o : Option WriterMirror) → slice_get s.mirrors at ≡ o → (after_timeout s xid).writer.taken ≡ s.taken
    by_mirror at is None found = ap (λ (x : WriterAfter). x.writer.taken) (ap (timed_out_at s) is ∙ ap (mirror_timed_out s at) found)
    by_mirror at is (Some mp) found =
        ap (λ (x : WriterAfter). x.writer.taken) (ap (timed_out_at s) is ∙ ap (mirror_timed_out s at) found ∙ sym (late_settles s at mp mp.call (stays_set s.mirrors at mp found)))
        ∙ settled_taken (with_writer_mirror s at (late_there mp mp.call).mirror) mp.id (late_there mp mp.call).outcome

    by_call : (o : Option ℕ) → mirror_of_call s xid ≡ o → (after_timeout s xid).writer.taken ≡ s.taken
    by_call None is = ap (λ (x : WriterAfter). x.writer.taken) (ap (timed_out_at s) is)
    by_call (Some at) is = by_mirror at is (slice_get s.mirrors at) refl

-- how a call that goes out came to be
pub record Sending (s : WriterValue) (xid : ℕ) (sends : WriterSends) : Type 0 where
  pub place : ℕ
  pub mirror : WriterMirror
  pub found : slice_get s.mirrors place ≡ Some mirror
  pub next : NextCall
  pub call_is : call_for s mirror.id next ≡ Some sends.call
  pub id_is : mirror.id ≡ sends.id
  pub writer_is : sends.writer ≡ with_writer_mirrors s (slice_set s.mirrors place (with_out xid next mirror))

pub sending : (s : WriterValue) (xid : ℕ) (sends : WriterSends) → next_sent s xid ≡ Some sends → Sending s xid sends
sending s xid sends is = by_place (next_place s) is
  where
    by_call : (at : ℕ) (m : WriterMirror) → slice_get s.mirrors at ≡ Some m → (next : NextCall) (call : Option DsCallValue) → call_for s m.id next ≡ call → sends_as s xid at m next call ≡ Some sends → Sending s xid sends
    by_call at m found next None called is = absurd (none-some sends is)
    by_call at m found next (Some call) called is =
        let same : ◌≡◌ {A = WriterSends} (record { writer = with_writer_mirrors s (slice_set s.mirrors at (with_out xid next m)); id = m.id; call = call }) sends = same_Some _ sends is in
        record {
          place = at;
          mirror = m;
          found = found;
          next = next;
          call_is = called ∙ ap (λ (x : WriterSends). Some x.call) same;
          id_is = ap (λ (x : WriterSends). x.id) same;
          writer_is = sym (ap (λ (x : WriterSends). x.writer) same);
        }

    by_next : (at : ℕ) (m : WriterMirror) → slice_get s.mirrors at ≡ Some m → (next : Option NextCall) → sends_next s xid at m next ≡ Some sends → Sending s xid sends
    by_next at m found None is = absurd (none-some sends is)
    by_next at m found (Some next) is = by_call at m found next (call_for s m.id next) refl is

    by_mirror : (at : ℕ) (o : Option WriterMirror) → slice_get s.mirrors at ≡ o → sends_to s xid at o ≡ Some sends → Sending s xid sends
    by_mirror at None found is = absurd (none-some sends is)
    by_mirror at (Some m) found is = by_next at m found (next_at s.wants_commit m) is

    by_place : (o : Option ℕ) → sends_at s xid o ≡ Some sends → Sending s xid sends
    by_place None is = absurd (none-some sends is)
    by_place (Some at) is = by_mirror at (slice_get s.mirrors at) refl is

sent_taken : (s : WriterValue) (xid : ℕ) → (sent_from s (next_sent s xid)).taken ≡ s.taken
sent_taken s xid = by_sends (next_sent s xid) refl
  where
    by_sends : (o : Option WriterSends) → next_sent s xid ≡ o → (sent_from s o).taken ≡ s.taken
    by_sends None is = refl
    by_sends (Some sends) is = ap (λ (x : WriterValue). x.taken) (sending s xid sends is).writer_is

takes : (run : WriterRun) (move : WriterMove) → Takes run.writer (writer_moved run move).writer
takes run (TakesWrite at bytes) = by_test (overlaps_taken run.writer at (length bytes)) refl
  where
    by_test : (b : Bool) → overlaps_taken run.writer at (length bytes) ≡ b → Takes run.writer (cond {A = WriterRun} b run (record { writer = with_write run.writer at bytes; notes = run.notes })).writer
    by_test true is = SameTaken refl
    by_test false is = OneTaken (record { at = at; bytes = bytes }) is refl
takes run WantsCommit = SameTaken refl
takes run (SendsOne xid) = by_test (is_new_call run.writer xid (mirror_of_call run.writer xid))
  where
    by_test : (b : Bool)
        → Takes run.writer (cond {A = WriterRun} b (record { writer = sent_from run.writer (next_sent run.writer xid); notes = run.notes ++ sent_notes run.writer (next_place run.writer) }) run).writer
    by_test true = SameTaken (sent_taken run.writer xid)
    by_test false = SameTaken refl
takes run (TakesReply xid reply) = SameTaken (reply_taken run.writer xid reply)
takes run (TakesTimeout xid) = SameTaken (timeout_taken run.writer xid)

touches_back : (a b : TakenWrite) → touches a.at (length a.bytes) b ≡ touches b.at (length b.bytes) a
touches_back a b = swapped (nat_lt a.at (b.at + length b.bytes)) (nat_lt b.at (a.at + length a.bytes))
  where
    swapped : (x y : Bool) → (x && y) ≡ (y && x)
    swapped true true = refl
    swapped true false = refl
    swapped false true = refl
    swapped false false = refl

untouched_at : (at count : ℕ) (taken : List TakenWrite) (i : ℕ) (d : TakenWrite) → list_any (touches at count) taken ≡ false → i < length taken → touches at count (get_or taken i d) ≡ false
untouched_at at count taken i d none within = by_answer (touches at count (get_or taken i d)) refl
  where
    by_answer : (b : Bool) → touches at count (get_or taken i d) ≡ b → b ≡ false
    by_answer false is = refl
    by_answer true is = absurd (both_ways (list_any (touches at count) taken) none (list_any_at (touches at count) taken i d within is))

disjoint_more : (taken : List TakenWrite) (w : TakenWrite) → AreDisjointWrites taken → list_any (touches w.at (length w.bytes)) taken ≡ false → AreDisjointWrites (taken ++ w ∷ [])
disjoint_more taken w apart free = λ i j d before within. by_last i j d before (cases_lt j (length taken)) within
  where
    by_last : (i j : ℕ) (d : TakenWrite) → i < j → (j < length taken) ⊎ (length taken ≤ j) → j < length (taken ++ w ∷ [])
        → touches (get_or (taken ++ w ∷ []) i d).at (length (get_or (taken ++ w ∷ []) i d).bytes) (get_or (taken ++ w ∷ []) j d) ≡ false
    by_last i j d before (inl inside) within =
        let first : get_or (taken ++ w ∷ []) i d ≡ get_or taken i d = grind (arith, common_steps, before, inside) in
        let second : get_or (taken ++ w ∷ []) j d ≡ get_or taken j d = grind (arith, common_steps, inside) in
        ap (λ (a : TakenWrite). touches a.at (length a.bytes) (get_or (taken ++ w ∷ []) j d)) first ∙ ap (touches (get_or taken i d).at (length (get_or taken i d).bytes)) second ∙ apart i j d before inside
    by_last i j d before (inr past) within =
        let size : length (taken ++ w ∷ []) ≡ length taken + 1 = length-append taken (w ∷ []) in
        let first : get_or (taken ++ w ∷ []) i d ≡ get_or taken i d = grind (arith, common_steps, before, within, size) in
        let second : get_or (taken ++ w ∷ []) j d ≡ w = grind (arith, common_steps, past, within, size) in
        ap (λ (a : TakenWrite). touches a.at (length a.bytes) (get_or (taken ++ w ∷ []) j d)) first ∙ ap (touches (get_or taken i d).at (length (get_or taken i d).bytes)) second
        ∙ touches_back (get_or taken i d) w ∙ untouched_at w.at (length w.bytes) taken i d free (omega (arith, before, within, size))

disjoint_by : (old new : WriterValue) → Takes old new → AreDisjointWrites old.taken → AreDisjointWrites new.taken
disjoint_by old new (SameTaken same) apart = subst (λ (l : List TakenWrite). AreDisjointWrites l) (sym same) apart
disjoint_by old new (OneTaken w free is) apart = subst (λ (l : List TakenWrite). AreDisjointWrites l) (sym is) (disjoint_more old.taken w apart free)

pub disjoint : (mirrors : List Mirror) (cred : ℕ) (moves' : List WriterMove) → AreDisjointWrites (writer_run mirrors cred moves').writer.taken
disjoint mirrors cred moves' =
    run_keeps (λ run. AreDisjointWrites run.writer.taken) (λ run move apart. disjoint_by run.writer (writer_moved run move).writer (takes run move) apart) moves' _ (λ i j d before within. absurd (omega (arith, within)))

-- ---- a covered write stays covered

pub flag_set : (flags : List Bool) (i k : ℕ) → covered_flag (slice_get flags k) ≡ true → covered_flag (slice_get (slice_set flags i true) k) ≡ true
flag_set [] i k is = is
flag_set (b ∷ flags) zero zero is = refl
flag_set (b ∷ flags) zero (suc k) is = is
flag_set (b ∷ flags) (suc i) zero is = is
flag_set (b ∷ flags) (suc i) (suc k) is = flag_set flags i k is

pub flag_stays : (answered : List WriteAnswer) (flags : List Bool) (k : ℕ) → covered_flag (slice_get flags k) ≡ true → covered_flag (slice_get (covered_by answered flags) k) ≡ true
flag_stays [] flags k is = is
flag_stays (a ∷ answered) flags k is = flag_stays answered (slice_set flags a.write true) k (flag_set flags a.write k is)

pub flag_pushed : (flags : List Bool) (k : ℕ) → covered_flag (slice_get flags k) ≡ covered_flag (slice_get (flags ++ false ∷ []) k)
flag_pushed [] zero = refl
flag_pushed [] (suc k) = refl
flag_pushed (b ∷ flags) zero = refl
flag_pushed (b ∷ flags) (suc k) = flag_pushed flags k

flags_moved : (free free' : Bool) (place : ℕ) (m m' : WriterMirror) (added : List WriterNote) (k : ℕ) → Moved free free' place m m' added → covered_flag (slice_get m.covered k) ≡ true → covered_flag (slice_get m'.covered k) ≡ true
flags_moved free free' place m m' added k (Rests is away) so = ap (λ (x : WriterMirror). covered_flag (slice_get x.covered k)) is ∙ so
flags_moved free free' place m m' added k (SentWrite xid n rest idle queue is noted) so = ap (λ (x : WriterMirror). covered_flag (slice_get x.covered k)) is ∙ so
flags_moved free free' place m m' added k (SentCommit xid unfenced open' idle queue is noted) so = ap (λ (x : WriterMirror). covered_flag (slice_get x.covered k)) is ∙ so
flags_moved free free' place m m' added k (TookAnswer xid n t v call is noted) so = ap (λ (x : WriterMirror). covered_flag (slice_get x.covered k)) is ∙ so
flags_moved free free' place m m' added k (TookCommit xid t v call is noted) so = ap (λ (x : WriterMirror). covered_flag (slice_get x.covered k)) is ∙ flag_stays (filter (has_verifier v) m.answered) m.covered k so
flags_moved free free' place m m' added k (Drops ended is noted) so = ap (λ (x : WriterMirror). covered_flag (slice_get x.covered k)) is ∙ so
flags_moved free free' place m m' added k (Fails is noted) so = ap (λ (x : WriterMirror). covered_flag (slice_get x.covered k)) is ∙ so
flags_moved free free' place m m' added k (LateWrite xid n t u call is noted) so = ap (λ (x : WriterMirror). covered_flag (slice_get x.covered k)) is ∙ so
flags_moved free free' place m m' added k (LateCommit xid t u call is noted) so = ap (λ (x : WriterMirror). covered_flag (slice_get x.covered k)) is ∙ so

flags_turned : (old new : WriterValue) (place : ℕ) (m m' : WriterMirror) (added : List WriterNote) (k : ℕ) → Turned old new place m m' added → covered_flag (slice_get m.covered k) ≡ true → covered_flag (slice_get m'.covered k) ≡ true
flags_turned old new place m m' added k (Queues size is noted) so = ap (λ (x : WriterMirror). covered_flag (slice_get x.covered k)) is ∙ sym (flag_pushed m.covered k) ∙ so
flags_turned old new place m m' added k (Moves size moved) so = flags_moved _ _ place m m' added k moved so

stays_one : (run : WriterRun) (move : WriterMove) (place write : ℕ) → covered_of write (slice_get run.writer.mirrors place) ≡ true → covered_of write (slice_get (writer_moved run move).writer.mirrors place) ≡ true
stays_one run move place write so = by_mirror (slice_get run.writer.mirrors place) refl so
  where
    by_mirror : (o : Option WriterMirror) → slice_get run.writer.mirrors place ≡ o → covered_of write o ≡ true → covered_of write (slice_get (writer_moved run move).writer.mirrors place) ≡ true
    by_mirror None here so = absurd cc
    by_mirror (Some m) here so =
        let at : MoveAt run (writer_moved run move) place m = moves run place m here move in
        ap (covered_of write) at.there ∙ flags_turned run.writer (writer_moved run move).writer place m at.mirror at.added write at.turned so

pub stays : (mirrors : List Mirror) (cred : ℕ) (moves' : List WriterMove) (move : WriterMove) → StaysCovered mirrors cred moves' move
stays mirrors cred moves' move = λ place write so. stays_one (writer_run mirrors cred moves') move place write so

-- ---- Committed is told

record Tells (is_ok : Bool) (a : WriterAfter) : Type 0 where
  only : a.step ≡ step.Committed → (is_ok ≡ true) × (open_committed a.writer.mirrors ≡ true)
  where_so : is_ok ≡ true → open_committed a.writer.mirrors ≡ true → a.step ≡ step.Committed

never : (a : WriterAfter) → (a.step ≡ step.Committed → ⊥) → Tells false a
never a other = record { only = λ is. absurd (other is); where_so = λ ok done. absurd (cc (ok)) }

never_fails : (s : WriterValue) (place : ℕ) (m : WriterMirror) (cause : LeftCause) → Tells false (fails s place m cause)
never_fails s place m cause = never (fails s place m cause) (λ is. absurd (cc (is)))

never_refused : (s : WriterValue) (place : ℕ) (m : WriterMirror) (status : ℕ) (b : Bool) → Tells false (cond b (is_fenced_by s place m status) (fails s place m (Error status)))
never_refused s place m status true = never (is_fenced_by s place m status) (λ is. absurd (cc (is)))
never_refused s place m status false = never_fails s place m (Error status)

tells_commit : (s : WriterValue) → Tells true (after_commit s)
tells_commit s = by_answer (open_committed s.mirrors) refl
  where
    by_answer : (b : Bool) → open_committed s.mirrors ≡ b → Tells true (cond b (finished s) (waiting s))
    by_answer true is = record { only = λ told. (refl, is); where_so = λ ok done. refl }
    by_answer false is = record { only = λ told. absurd (cc (told)); where_so = λ ok done. absurd (both_ways (open_committed s.mirrors) is done) }

no_call_ok : (reply : DsReplyValue) → is_ok_commit reply NoCall ≡ false
no_call_ok (Created fileid shown) = refl
no_call_ok (Set shown) = refl
no_call_ok (Written shown verifier) = refl
no_call_ok (Committed shown verifier) = refl
no_call_ok (Bytes shown eof bytes) = refl
no_call_ok (NotSync shown) = refl
no_call_ok (Failed status shown) = refl

never_stranger : (s : WriterValue) (reply : DsReplyValue) → Tells (is_ok_commit reply NoCall) (record { writer = s; step = step.Stranger })
never_stranger s reply = subst (λ (b : Bool). Tells b (record { writer = s; step = step.Stranger })) (sym (no_call_ok reply)) (never (record { writer = s; step = step.Stranger }) (λ is. absurd (cc (is))))

tells : (s : WriterValue) (place : ℕ) (m : WriterMirror) (reply : DsReplyValue) (call : WriterCall) → Tells (is_ok_commit reply call) (call_answered s place m reply call)
tells s place m reply NoCall = never_stranger s reply
tells s place m (Written shown verifier) (OutWrite xid write timeouts) = never _ (λ is. absurd (cc (is)))
tells s place m (Failed status shown) (OutWrite xid write timeouts) = never_refused s place m status ((status == 13) || (status == 70))
tells s place m (Created fileid shown) (OutWrite xid write timeouts) = never_fails s place m _
tells s place m (Set shown) (OutWrite xid write timeouts) = never_fails s place m _
tells s place m (Committed shown verifier) (OutWrite xid write timeouts) = never_fails s place m _
tells s place m (Bytes shown eof bytes) (OutWrite xid write timeouts) = never_fails s place m _
tells s place m (NotSync shown) (OutWrite xid write timeouts) = never_fails s place m _
tells s place m (Committed shown verifier) (OutCommit xid timeouts) = tells_commit (with_writer_mirror s place (with_commit verifier m))
tells s place m (Failed status shown) (OutCommit xid timeouts) = never_refused s place m status ((status == 13) || (status == 70))
tells s place m (Created fileid shown) (OutCommit xid timeouts) = never_fails s place m _
tells s place m (Set shown) (OutCommit xid timeouts) = never_fails s place m _
tells s place m (Written shown verifier) (OutCommit xid timeouts) = never_fails s place m _
tells s place m (Bytes shown eof bytes) (OutCommit xid timeouts) = never_fails s place m _
tells s place m (NotSync shown) (OutCommit xid timeouts) = never_fails s place m _

tells_reply : (s : WriterValue) (xid : ℕ) (reply : DsReplyValue) → Tells (is_ok_commit reply (call_at_place s (mirror_of_call s xid))) (after_reply s xid reply)
tells_reply s xid reply = by_call (mirror_of_call s xid)
  where
    by_mirror : (at : ℕ) (o : Option WriterMirror) → Tells (is_ok_commit reply (call_of_mirror o)) (mirror_answered s reply at o)
    by_mirror at None = never_stranger s reply
    by_mirror at (Some m) = tells s at m reply m.call

    by_call : (o : Option ℕ) → Tells (is_ok_commit reply (call_at_place s o)) (answered_at s reply o)
    by_call None = never_stranger s reply
    by_call (Some at) = by_mirror at (slice_get s.mirrors at)

pub committed : (s : WriterValue) (xid : ℕ) (reply : DsReplyValue) → CommittedJustWhere s xid reply
committed s xid reply = let t : Tells (is_ok_commit reply (call_at_place s (mirror_of_call s xid))) (after_reply s xid reply) = tells_reply s xid reply in record { only = t.only; where_so = t.where_so }

-- ---- what goes out

of_taken : (s : WriterValue) (id id' : MirrorId) (next : NextCall) (call : DsCallValue) → id ≡ id' → call_for s id next ≡ Some call → IsOfTaken s id' call
of_taken s id id' (SendsWrite n) call same is = by_write (slice_get s.taken n) refl is
  where
    by_write : (o : Option TakenWrite) → slice_get s.taken n ≡ o → write_of_taken id o ≡ Some call → IsOfTaken s id' call
    by_write None found is = absurd (none-some call is)
    by_write (Some w) found is =
        subst (λ (c : DsCallValue). IsOfTaken s id' c) (same_Some (Write id.fileid w.at false w.bytes) call is)
        (ap (λ (i : MirrorId). i.fileid) same, refl, (n, slice_get_within s.taken n w found, get_or_from_slice_get s.taken n w w found))
of_taken s id id' SendsCommit call same is = subst (λ (c : DsCallValue). IsOfTaken s id' c) (same_Some (Commit id.fileid) call is) (ap (λ (i : MirrorId). i.fileid) same)

pub sends_taken : (s : WriterValue) (xid : ℕ) (sends : WriterSends) → next_sent s xid ≡ Some sends → SendsTaken s xid sends
sends_taken s xid sends is =
    let how : Sending s xid sends = sending s xid sends is in
    record {
      mirror = (how.place, how.mirror, how.found, how.id_is);
      call = of_taken s how.mirror.id sends.id how.next sends.call how.id_is how.call_is;
    }
