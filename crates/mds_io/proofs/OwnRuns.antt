-- What holds of a write of the metadata server in every run of it: its runs are runs of a writer.
use Rattle.std.proofs.Common.{◌≡◌, ℕ, zero, suc, ◌<◌, Bool, true, false, ◌||◌, ◌&&◌, cond, List, [], ◌∷◌, ◌++◌, length, map, take, replicate, Option, Some, None, refl, ap, sym, subst, ◌∙◌, arith}
use Rattle.std.specs.Prelude.{slice_get, fold}
use Rattle.std.specs.List.{list_all}
use Rattle.std.proofs.lemmas.Bool.{and_parts, both_ways}
use Rattle.std.proofs.lemmas.Option.{same_Some, none-some}
use Rattle.cluster_model.specs.declared.ids.Mirror.{Mirror}
use Rattle.cluster_model.specs.declared.ds_call.Shown.{Shown}
use Rattle.cluster_model.specs.DsCalls.{Created, Set, Written, Committed, Bytes, NotSync, Failed}
use Rattle.cluster_model.specs.Fences.{odd_status}
use Rattle.mirror_writer.specs.declared.call.WriterCall.{WriterCall}
use Rattle.mirror_writer.specs.declared.call.WriterCall.TheVariants.{NoCall, OutWrite, OutCommit}
use Rattle.mirror_writer.specs.Writers.{WriterMirror, WriterValue, is_committed, open_committed, reported_places, covered_flag, mirror_of_call, next_place, next_sent}
use Rattle.mirror_writer.specs.WriterLaws.{WriterMove, TakesWrite, WantsCommit, SendsOne as AsSend, TakesReply as AsReply, TakesTimeout as AsTimeout, WriterNote, WriterRun, call_notes, mirror_notes, answer_notes, sent_from, sent_notes, is_new_call, writer_moved, writer_run, IsCoveredBy, covered_of, CoversJustWhere, IsCommittedJustWhere, WriterLaw}
use Rattle.mds_io.specs.OwnWrites.{own_write}
use Rattle.mds_io.specs.OwnWriteLaws.{OwnMove, SendsOne, TakesReply, TakesTimeout, OwnRun, own_moved, own_run, IsCoveredWhereEnded, GoesOnJustWhile, OwnWriteLaw}
use Rattle.mds_io.proofs.OwnSteps.{plain_of, own_plain, run_taken}

-- ---- a run, as one of a writer

abbrev as_run : OwnRun → WriterRun
as_run run = record { writer = run.writer; notes = run.notes }

abbrev as_move : OwnMove → WriterMove
as_move (SendsOne xid) = AsSend xid
as_move (TakesReply xid reply) = AsReply xid (plain_of reply)
as_move (TakesTimeout xid) = AsTimeout xid

-- no answer by a status is noted
failed_notes : (s : WriterValue) (status : ℕ) (shown : Option Shown) (o : Option ℕ) → answer_notes s (Failed status shown) o ≡ answer_notes s (Failed odd_status shown) o
failed_notes s status shown None = refl
failed_notes s status shown (Some place) = by_mirror (slice_get s.mirrors place)
  where
    by_call : (call : WriterCall) → call_notes place (Failed status shown) call ≡ call_notes place (Failed odd_status shown) call
    by_call NoCall = refl
    by_call (OutWrite xid write timeouts) = refl
    by_call (OutCommit xid timeouts) = refl

    by_mirror : (o : Option WriterMirror) → mirror_notes place (Failed status shown) o ≡ mirror_notes place (Failed odd_status shown) o
    by_mirror None = refl
    by_mirror (Some m) = by_call m.call

move_as : (run : OwnRun) (move : OwnMove) → as_run (own_moved run move) ≡ writer_moved (as_run run) (as_move move)
move_as run (SendsOne xid) = by_test (is_new_call run.writer xid (mirror_of_call run.writer xid))
  where
    by_test : (b : Bool)
        → as_run (cond {A = OwnRun} b (record { writer = sent_from run.writer (next_sent run.writer xid); notes = run.notes ++ sent_notes run.writer (next_place run.writer) }) run)
        ≡ cond {A = WriterRun} b (record { writer = sent_from run.writer (next_sent run.writer xid); notes = run.notes ++ sent_notes run.writer (next_place run.writer) }) (as_run run)
    by_test true = refl
    by_test false = refl
move_as run (TakesReply xid (Failed status shown)) =
    ap (λ l. writer_with (run.notes ++ l)) (failed_notes run.writer status shown (mirror_of_call run.writer xid))
  where
    writer_with : List WriterNote → WriterRun
    writer_with notes = record { writer = (writer_moved (as_run run) (AsReply xid (Failed odd_status shown))).writer; notes = notes }
move_as run (TakesReply xid (Created fileid shown)) = refl
move_as run (TakesReply xid (Set shown)) = refl
move_as run (TakesReply xid (Written shown verifier)) = refl
move_as run (TakesReply xid (Committed shown verifier)) = refl
move_as run (TakesReply xid (Bytes shown eof bytes)) = refl
move_as run (TakesReply xid (NotSync shown)) = refl
move_as run (TakesTimeout xid) = refl

run_as : (moves : List OwnMove) (run : OwnRun) → as_run (fold own_moved run moves) ≡ fold writer_moved (as_run run) (map as_move moves)
run_as [] run = refl
run_as (move ∷ moves) run = run_as moves (own_moved run move) ∙ ap (λ (r : WriterRun). fold writer_moved r (map as_move moves)) (move_as run move)

-- ---- lists

all_at : (test : WriterMirror → Bool) (mirrors : List WriterMirror) (place : ℕ) (m : WriterMirror) → list_all test mirrors ≡ true → slice_get mirrors place ≡ Some m → test m ≡ true
all_at test [] place m all found = absurd (none-some m found)
all_at test (x ∷ mirrors) zero m all found = ap test (sym (same_Some x m found)) ∙ (and_parts (test x) (list_all test mirrors) all).0
all_at test (x ∷ mirrors) (suc place) m all found = all_at test mirrors place m (and_parts (test x) (list_all test mirrors) all).1 found

abbrev OneFails : (WriterMirror → Bool) → List WriterMirror → Type 0
OneFails test mirrors = (place : ℕ) × (m : WriterMirror) × (slice_get mirrors place ≡ Some m) × (test m ≡ false)

one_fails : (test : WriterMirror → Bool) (mirrors : List WriterMirror) → list_all test mirrors ≡ false → OneFails test mirrors
one_fails test [] is = absurd (cc (is))
one_fails test (x ∷ mirrors) is = by_first (test x) refl is (λ others. one_fails test mirrors others)
  where
    behind : OneFails test mirrors → OneFails test (x ∷ mirrors)
    behind (place, m, found, fails) = (suc place, m, found, fails)

    by_first : (b : Bool) → test x ≡ b → (b && list_all test mirrors) ≡ false → (list_all test mirrors ≡ false → OneFails test mirrors) → OneFails test (x ∷ mirrors)
    by_first true passes is go = behind (go is)
    by_first false fails is go = (zero, x, refl, fails)

-- what is reported of a mirror is whether it has failed
reported_at : (n : ℕ) (mirrors : List WriterMirror) (behind : List Bool) (place : ℕ) (m : WriterMirror) (failed : Bool) → slice_get mirrors place ≡ Some m
    → slice_get (take n (map (λ (x : WriterMirror). x.has_failed) mirrors ++ behind)) place ≡ Some failed → m.has_failed ≡ failed
reported_at zero mirrors behind place m failed found is = absurd (none-some failed is)
reported_at (suc n) [] behind place m failed found is = absurd (none-some m found)
reported_at (suc n) (x ∷ mirrors) behind zero m failed found is = ap (λ (y : WriterMirror). y.has_failed) (sym (same_Some x m found)) ∙ same_Some x.has_failed failed is
reported_at (suc n) (x ∷ mirrors) behind (suc place) m failed found is = reported_at n mirrors behind place m failed found is

or_second : (a b : Bool) → a ≡ false → (a || b) ≡ true → b ≡ true
or_second true b none is = absurd (cc (none))
or_second false b none is = is

or_neither : (a b : Bool) → (a || b) ≡ false → (a ≡ false) × (b ≡ false)
or_neither true b is = absurd (cc (is))
or_neither false b is = (refl, is)

-- ---- the law

module _ (law : WriterLaw) (live : List Mirror) (cred at : ℕ) (bytes : List ℕ) (moves : List OwnMove) where
  abbrev run : OwnRun
  run = own_run live cred at bytes moves

  abbrev steps : List WriterMove
  steps = TakesWrite at bytes ∷ WantsCommit ∷ map as_move moves

  whole : as_run run ≡ writer_run live cred steps
  whole = run_as moves (record { writer = own_write live cred at bytes; notes = [] })

  taken_is : run.writer.taken ≡ (record { at = at; bytes = bytes }) ∷ []
  taken_is = run_taken moves (record { writer = own_write live cred at bytes; notes = [] })

  covers_so : (place : ℕ) → CoversJustWhere (as_run run) place 0
  covers_so place = subst (λ (r : WriterRun). CoversJustWhere r place 0) (sym whole) (law.covers live cred steps place 0)

  commits_so : (place : ℕ) (m : WriterMirror) → slice_get run.writer.mirrors place ≡ Some m → IsCommittedJustWhere run.writer.taken m
  commits_so place m = subst (λ (r : WriterRun). slice_get r.writer.mirrors place ≡ Some m → IsCommittedJustWhere r.writer.taken m) (sym whole) (law.commits live cred steps place m)

  -- a mirror is committed just where it has covered the write
  its_cover : (place : ℕ) (m : WriterMirror) → slice_get run.writer.mirrors place ≡ Some m → is_committed m ≡ true → IsCoveredBy place 0 run.notes
  its_cover place m found is = (covers_so place).only (ap (covered_of 0) found ∙ (commits_so place m found).only is 0 (omega (arith, ap length taken_is)))

  its_commit : (place : ℕ) (m : WriterMirror) → slice_get run.writer.mirrors place ≡ Some m → IsCoveredBy place 0 run.notes → is_committed m ≡ true
  its_commit place m found covered = (commits_so place m found).where_so (λ write within. by_write write within)
    where
      by_write : (write : ℕ) → write < length run.writer.taken → covered_flag (slice_get m.covered write) ≡ true
      by_write zero within = sym (ap (covered_of 0) found) ∙ (covers_so place).where_so covered
      by_write (suc write) within = absurd (omega (arith, within, ap length taken_is))

  abbrev is_settled : WriterMirror → Bool
  is_settled m = m.has_failed || is_committed m

  covered_so : IsCoveredWhereEnded run
  covered_so places over place m found told = by_test (open_committed run.writer.mirrors) refl over
    where
      by_test : (b : Bool) → open_committed run.writer.mirrors ≡ b → cond b (Some (reported_places run.writer)) None ≡ Some places → IsCoveredBy place 0 run.notes
      by_test true all is =
          let open' : m.has_failed ≡ false = reported_at 4 run.writer.mirrors (replicate 4 false) place m false found (ap (λ l. slice_get l place) (same_Some (reported_places run.writer) places is) ∙ told) in
          its_cover place m found (or_second m.has_failed (is_committed m) open' (all_at is_settled run.writer.mirrors place m all found))
      by_test false all is = absurd (none-some places is)

  goes_so : GoesOnJustWhile run
  goes_so = record {
    only = by_none (open_committed run.writer.mirrors) refl;
    where_so = λ place m found open' uncovered. by_open place m found open' uncovered (open_committed run.writer.mirrors) refl;
  }
    where
      by_none : (b : Bool) → open_committed run.writer.mirrors ≡ b → cond b (Some (reported_places run.writer)) None ≡ None
          → (place : ℕ) × (m : WriterMirror) × (slice_get run.writer.mirrors place ≡ Some m) × (m.has_failed ≡ false) × (IsCoveredBy place 0 run.notes → ⊥)
      by_none true all is = absurd (none-some (reported_places run.writer) (sym is))
      by_none false some is = by_one (one_fails is_settled run.writer.mirrors some)
        where
          by_one : OneFails is_settled run.writer.mirrors → (place : ℕ) × (m : WriterMirror) × (slice_get run.writer.mirrors place ≡ Some m) × (m.has_failed ≡ false) × (IsCoveredBy place 0 run.notes → ⊥)
          by_one (place, m, found, neither) =
              let both : (m.has_failed ≡ false) × (is_committed m ≡ false) = or_neither m.has_failed (is_committed m) neither in
              (place, m, found, both.0, λ covered. both_ways (is_committed m) both.1 (its_commit place m found covered))

      by_open : (place : ℕ) (m : WriterMirror) → slice_get run.writer.mirrors place ≡ Some m → m.has_failed ≡ false → (IsCoveredBy place 0 run.notes → ⊥) → (b : Bool) → open_committed run.writer.mirrors ≡ b
          → cond b (Some (reported_places run.writer)) None ≡ None
      by_open place m found open' uncovered true all = absurd (uncovered (its_cover place m found (or_second m.has_failed (is_committed m) open' (all_at is_settled run.writer.mirrors place m all found))))
      by_open place m found open' uncovered false some = refl

pub own_write_law : WriterLaw → OwnWriteLaw
own_write_law law = record {
  covered = covered_so law;
  goes_on = goes_so law;
  sends = λ live cred at bytes moves xid s is. law.sends (own_run live cred at bytes moves).writer xid s is;
  taken = taken_is law;
  unfenced = λ live cred at bytes moves xid reply. (own_plain (own_run live cred at bytes moves).writer xid reply).unfenced;
}
