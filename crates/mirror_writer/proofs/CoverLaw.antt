-- In every run a taken write counts as covered just where the notes say so.
use Rattle.std.proofs.Common.{◌≡◌, ℕ, suc, zero, ◌<◌, ◌≤◌, Bool, true, false, List, [], ◌∷◌, ◌++◌, length, get_or, Option, Some, None, refl, sym, ap, subst, ◌∙◌, arith, inl, inr, ◌⊎◌}
use Rattle.std.specs.Prelude.{slice_get, option_map, not}
use Rattle.std.specs.List.{All, list_all}
use Rattle.std.proofs.lemmas.Bool.{and_parts}
use Rattle.std.proofs.lemmas.List.Elements.{All-append}
use Rattle.std.proofs.lemmas.Option.{slice_get_within, slice_get_cases, slice_get-map, same_Some, none-some}
use Rattle.cluster_model.specs.declared.ids.Mirror.{Mirror}
use Rattle.mirror_writer.specs.Writers.{WriterMirror, WriterValue, new_mirror, new_writer, is_covered, covered_flag}
use Rattle.mirror_writer.specs.WriterLaws.{WriterMove, WriterNote, CommitSent, WriterRun, writer_run, writer_moved, covered_of, IsCoveredBy, CoversJustWhere, IsCommittedJustWhere}
use Rattle.mirror_writer.proofs.Moved.{MoveAt, moves, note_place}
use Rattle.mirror_writer.proofs.Noted.{middle, none_some_list}
use Rattle.mirror_writer.proofs.Kept.{Kept, kept}
use Rattle.mirror_writer.proofs.PlainLaws.{run_keeps}
use Rattle.mirror_writer.proofs.Covers.{Holds, CoversSo, turned_holds}

abbrev AllHold : WriterRun → Type 0
AllHold run = (place : ℕ) (m : WriterMirror) → slice_get run.writer.mirrors place ≡ Some m → Holds (length run.writer.taken) (not run.writer.is_fenced) place m run.notes

abbrev AreOfMirrors : WriterRun → Type 0
AreOfMirrors run = All (λ note. note_place note < length run.writer.mirrors) run.notes

-- ---- at the start

new_holds : (place : ℕ) (mirror : Mirror) → Holds 0 true place (new_mirror mirror) []
new_holds place mirror = record {
  size = refl;
  once = λ k. omega arith;
  below = λ k past. omega arith;
  sound = λ k v is. absurd is;
  known = λ free open' k v last. absurd (none-some v last);
  sent = λ out. absurd (cc (out));
  settled = λ out k v last. absurd (cc (out));
  covers = λ k. record {
    only = λ so. absurd (cc (so));
    where_so = λ is. absurd (none_some_list is.before (CommitSent place) _ is.split);
  };
}

start_holds : (mirrors : List Mirror) (cred : ℕ) → AllHold (record { writer = new_writer mirrors cred; notes = [] })
start_holds mirrors cred = λ place m there. by_mirror place m (slice_get mirrors place) (sym (slice_get-map new_mirror mirrors place) ∙ there)
  where
    by_mirror : (place : ℕ) (m : WriterMirror) (o : Option Mirror) → option_map new_mirror o ≡ Some m → Holds 0 true place m []
    by_mirror place m None is = absurd (none-some m is)
    by_mirror place m (Some mirror) is = subst (λ (x : WriterMirror). Holds 0 true place x []) (same_Some (new_mirror mirror) m is) (new_holds place mirror)

-- ---- a move

free_kept : (new old : Bool) → (new ≡ false → old ≡ false) → not new ≡ true → not old ≡ true
free_kept true old keeps is = absurd cc
free_kept false old keeps is = ap not (keeps refl)

move_holds : (run : WriterRun) (move : WriterMove) → AllHold run → AllHold (writer_moved run move)
move_holds run move holds = λ place m' there.
    by_old place m' there (slice_get_cases run.writer.mirrors place).1 (omega (arith, (kept run move).size, slice_get_within (writer_moved run move).writer.mirrors place m' there))
  where
    by_old : (place : ℕ) (m' : WriterMirror) → slice_get (writer_moved run move).writer.mirrors place ≡ Some m'
        → ((x : WriterMirror) × (place < length run.writer.mirrors) × (slice_get run.writer.mirrors place ≡ Some x) × (get_or run.writer.mirrors place x ≡ x)) ⊎ ((length run.writer.mirrors ≤ place) × (slice_get run.writer.mirrors place ≡ None))
        → place < length run.writer.mirrors → Holds (length (writer_moved run move).writer.taken) (not (writer_moved run move).writer.is_fenced) place m' (writer_moved run move).notes
    by_old place m' there (inl (m, within, here, same)) below =
        let at : MoveAt run (writer_moved run move) place m = moves run place m here move in
        let new : WriterValue = (writer_moved run move).writer in
        let one : at.mirror ≡ m' = same_Some at.mirror m' (sym at.there ∙ there) in
        subst (λ l. Holds (length new.taken) (not new.is_fenced) place m' l) (sym at.notes)
        (subst (λ (x : WriterMirror). Holds (length new.taken) (not new.is_fenced) place x (run.notes ++ at.added)) one
        (turned_holds run.writer new place m at.mirror run.notes at.added (free_kept new.is_fenced run.writer.is_fenced (kept run move).free) at.turned (holds place m here)))
    by_old place m' there (inr (past, none)) below = absurd (omega (arith, past, below))

move_of_mirrors : (run : WriterRun) (move : WriterMove) → AreOfMirrors run → AreOfMirrors (writer_moved run move)
move_of_mirrors run move all =
    let k : Kept run (writer_moved run move) = kept run move in
    let new : WriterValue = (writer_moved run move).writer in
    subst (λ l. All (λ note. note_place note < length new.mirrors) l) (sym k.notes)
    (All-append (λ note. note_place note < length new.mirrors) run.notes k.added (λ i d within. omega (arith, k.size, all i d within)) (by_added k.size k.added k.within))
  where
    only : (note : WriterNote) → note_place note < length (writer_moved run move).writer.mirrors → All (λ note. note_place note < length (writer_moved run move).writer.mirrors) (note ∷ [])
    only note below zero d within = below
    only note below (suc i) d within = absurd (omega (arith, within))

    by_added : length (writer_moved run move).writer.mirrors ≡ length run.writer.mirrors → (added : List WriterNote)
        → (added ≡ []) ⊎ ((note : WriterNote) × (added ≡ note ∷ []) × (note_place note < length run.writer.mirrors)) → All (λ note. note_place note < length (writer_moved run move).writer.mirrors) added
    by_added size added (inl none) = subst (λ l. All (λ note. note_place note < length (writer_moved run move).writer.mirrors) l) (sym none) (λ i d within. absurd (omega (arith, within)))
    by_added size added (inr (note, one, below)) = subst (λ l. All (λ note. note_place note < length (writer_moved run move).writer.mirrors) l) (sym one) (only note (omega (arith, size, below)))

-- ---- which mirrors are committed

every_flag : (flags : List Bool) → list_all is_covered flags ≡ true → (k : ℕ) → k < length flags → covered_flag (slice_get flags k) ≡ true
every_flag [] all k within = absurd (omega (arith, within))
every_flag (f ∷ flags) all zero within = (and_parts f (list_all is_covered flags) all).0
every_flag (f ∷ flags) all (suc k) within = every_flag flags (and_parts f (list_all is_covered flags) all).1 k (omega (arith, within))

all_flags : (flags : List Bool) → ((k : ℕ) → k < length flags → covered_flag (slice_get flags k) ≡ true) → list_all is_covered flags ≡ true
all_flags [] each = refl
all_flags (f ∷ flags) each =
    let first : f ≡ true = each zero (omega arith) in
    let others : list_all is_covered flags ≡ true = all_flags flags (λ k within. each (suc k) (omega (arith, within))) in
    rw (first, others) refl

pub commits : (mirrors : List Mirror) (cred : ℕ) (moves' : List WriterMove) (place : ℕ) (m : WriterMirror)
    → slice_get (writer_run mirrors cred moves').writer.mirrors place ≡ Some m → IsCommittedJustWhere (writer_run mirrors cred moves').writer.taken m
commits mirrors cred moves' place m there =
    let all : AllHold (writer_run mirrors cred moves') = run_keeps AllHold move_holds moves' (record { writer = new_writer mirrors cred; notes = [] }) (start_holds mirrors cred) in
    let size : length m.covered ≡ length (writer_run mirrors cred moves').writer.taken = (all place m there).size in record {
      only = λ so write within. every_flag m.covered so write (omega (arith, size, within));
      where_so = λ each. all_flags m.covered (λ k within. each k (omega (arith, size, within)));
    }

-- ---- the law

pub covers : (mirrors : List Mirror) (cred : ℕ) (moves' : List WriterMove) (place write : ℕ) → CoversJustWhere (writer_run mirrors cred moves') place write
covers mirrors cred moves' place write = by_mirror (slice_get (writer_run mirrors cred moves').writer.mirrors place) refl
  where
    all : AllHold (writer_run mirrors cred moves')
    all = run_keeps AllHold move_holds moves' (record { writer = new_writer mirrors cred; notes = [] }) (start_holds mirrors cred)

    of_mirrors : AreOfMirrors (writer_run mirrors cred moves')
    of_mirrors = run_keeps AreOfMirrors move_of_mirrors moves' (record { writer = new_writer mirrors cred; notes = [] }) (λ i d within. absurd (omega (arith, within)))

    no_mirror : slice_get (writer_run mirrors cred moves').writer.mirrors place ≡ None → IsCoveredBy place write (writer_run mirrors cred moves').notes → ⊥
    no_mirror none is =
        by_place none (middle (λ note. note_place note < length (writer_run mirrors cred moves').writer.mirrors) is.before (CommitSent place) _ (subst (λ l. All (λ note. note_place note < length (writer_run mirrors cred moves').writer.mirrors) l) is.split of_mirrors))
        (slice_get_cases (writer_run mirrors cred moves').writer.mirrors place).1
      where
        by_place : slice_get (writer_run mirrors cred moves').writer.mirrors place ≡ None → place < length (writer_run mirrors cred moves').writer.mirrors
            → ((x : WriterMirror) × (place < length (writer_run mirrors cred moves').writer.mirrors) × (slice_get (writer_run mirrors cred moves').writer.mirrors place ≡ Some x) × (get_or (writer_run mirrors cred moves').writer.mirrors place x ≡ x))
            ⊎ ((length (writer_run mirrors cred moves').writer.mirrors ≤ place) × (slice_get (writer_run mirrors cred moves').writer.mirrors place ≡ None)) → ⊥
        by_place none below (inl (x, within, found, same)) = none-some x (sym none ∙ found)
        by_place none below (inr (past, nothing)) = omega (arith, past, below)

    by_mirror : (o : Option WriterMirror) → slice_get (writer_run mirrors cred moves').writer.mirrors place ≡ o → CoversJustWhere (writer_run mirrors cred moves') place write
    by_mirror None none = record {
      only = λ so. absurd (cc (ap (covered_of write) none, so));
      where_so = λ is. absurd (no_mirror none is);
    }
    by_mirror (Some m) there =
        let c : CoversSo m place write (writer_run mirrors cred moves').notes = (all place m there).covers write in
        record {
          only = λ so. c.only (sym (ap (covered_of write) there) ∙ so);
          where_so = λ is. ap (covered_of write) there ∙ c.where_so is;
        }
