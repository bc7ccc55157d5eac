-- Runs of a server: its ticks, and what its journal says.
use Rattle.std.proofs.Common.{◌≡◌, ℕ, ◌+◌, ◌≤◌, eqb, List, [], ◌∷◌, ◌++◌, length, Some, refl, sym, ap, subst, ◌∙◌, append-nil, append_assoc, arith, inl, inr}
use Rattle.std.specs.Prelude.{slice_get}
use Rattle.std.proofs.lemmas.Bool.{cond_both}
use Rattle.std.proofs.lemmas.List.{length-set, length-append}
use Rattle.std.specs.List.{AllByRecursion}
use Rattle.std.proofs.lemmas.Option.{slice_get_cases, slice_get_within, same_Some}
use Rattle.cluster_model.specs.declared.piece.Piece.{Piece}
use Rattle.cluster_model.specs.declared.tick.Tick.{Tick}
use Rattle.cluster_model.specs.declared.ids.MirrorId.{MirrorId}
use Rattle.cluster_model.specs.declared.entry.Entry.{Entry}
use Rattle.cluster_model.specs.declared.entry.Entry.TheVariants.{Restarted}
use Rattle.cluster_model.specs.Content.{Pending, no_content, overlay_all, kept_of, survived, pieces_of}
use Rattle.cluster_model.specs.Ticks.{IsBefore, IsUpTo, IsRising, next_tick, rebooted}
use Rattle.cluster_model.specs.File.{StoredFile, FileOp, Writes, Commits, Sets, Restarts, clock_after, file_after, new_file}
use Rattle.cluster_model.specs.Journal.{Copy, no_copy, copy_by, copy_after}
use Rattle.cluster_model.specs.Server.{ServerState, Caller, new_server, mirror_of, Effect, NoEffect, OnFile, NewFile, server_after, entries_of, server_restarted}
use Rattle.cluster_model.specs.ServerLaws.{MayDo, IsPermitted, copy_of, TellsOld, TellsNew, Turn, Does, StartsAgain, turn_after, turn_entries, IsAllowed, AreAllowed, run_after, run_entries, op_ticks, turn_ticks, run_ticks, HasRisingTicks, IsToldByJournal}
use Rattle.cluster_model.specs.GuardLaws.{IsTold}
use Rattle.cluster_model.proofs.Moments.{up_to_same, up_to_up_to, up_to_before, before_up_to, next_before, reboot_before}
use Rattle.cluster_model.proofs.Servers.{timed, tells_old, tells_new, told_other, other_mirror}
use Rattle.cluster_model.proofs.ServerRestarts.{restarted_law}

-- ---- ticks

all_append : (P : Tick → Type 0) (xs ys : List Tick) → AllByRecursion P xs → AllByRecursion P ys → AllByRecursion P (xs ++ ys)
all_append P [] ys h k = k
all_append P (x ∷ xs) ys h k = (h.0, all_append P xs ys h.1 k)

-- What one turn gives: none, and the last tick does not fall; or the next one, which is the last then.
data Gives (clock new : Tick) (ticks : List Tick) : Type 0 where
  None_ : ticks ≡ [] → IsUpTo clock new → Gives clock new ticks
  Next : ticks ≡ next_tick clock ∷ [] → new ≡ next_tick clock → Gives clock new ticks

op_gives : (clock : Tick) (f : StoredFile) (caller : Caller) (op : FileOp) → MayDo clock f caller op → Gives clock (clock_after clock op) (op_ticks clock op)
op_gives clock f caller (Writes at synced []) may = None_ refl (up_to_same clock)
op_gives clock f caller (Writes at synced (b ∷ bytes)) may = Next refl refl
op_gives clock f caller Commits may = None_ refl (up_to_same clock)
op_gives clock f caller (Sets c) may = Next refl refl
op_gives clock f caller (Restarts pieces) may = absurd may

turn_gives : (s : ServerState) (turn : Turn) → IsAllowed s turn → Gives s.clock (turn_after s turn).clock (turn_ticks s turn)
turn_gives s (Does caller NoEffect) may = None_ refl (up_to_same s.clock)
turn_gives s (Does caller (OnFile index op)) may = rw may.1 (op_gives s.clock may.0 caller op may.2)
turn_gives s (Does caller (NewFile name owner group mode)) may = Next refl refl
turn_gives s (StartsAgain pieces) may = None_ refl (before_up_to s.clock (rebooted s.clock) (reboot_before s.clock))

after_next : (first clock : Tick) → IsUpTo first clock → IsBefore first (next_tick clock)
after_next first clock h = up_to_before first clock (next_tick clock) h (next_before clock)

-- all that are given are after what was before
given_by : (first : Tick) (s : ServerState) (turn : Turn) (turns : List Turn) → IsUpTo first s.clock → Gives s.clock (turn_after s turn).clock (turn_ticks s turn)
    → (IsUpTo first (turn_after s turn).clock → AllByRecursion (λ u. IsBefore first u) (run_ticks (turn_after s turn) turns)) → AllByRecursion (λ u. IsBefore first u) (run_ticks s (turn ∷ turns))
given_by first s turn turns h (None_ none up) rest = rw none (rest (up_to_up_to first s.clock (turn_after s turn).clock h up))
given_by first s turn turns h (Next one is) rest =
    let here = after_next first s.clock h in
    rw one (here, rest (subst (λ (t : Tick). IsUpTo first t) (sym is) (before_up_to first (next_tick s.clock) here)))

given_after : (first : Tick) (s : ServerState) (turns : List Turn) → AreAllowed s turns → IsUpTo first s.clock → AllByRecursion (λ u. IsBefore first u) (run_ticks s turns)
given_after first s [] may h = tt
given_after first s (turn ∷ turns) may h = given_by first s turn turns h (turn_gives s turn may.0) (given_after first (turn_after s turn) turns may.1)

rising_by : (s : ServerState) (turn : Turn) (turns : List Turn) → AreAllowed (turn_after s turn) turns → Gives s.clock (turn_after s turn).clock (turn_ticks s turn) → IsRising (run_ticks (turn_after s turn) turns) → IsRising (run_ticks s (turn ∷ turns))
rising_by s turn turns may (None_ none up) rest = rw none rest
rising_by s turn turns may (Next one is) rest =
    rw one (given_after (next_tick s.clock) (turn_after s turn) turns may (subst (λ (t : Tick). IsUpTo (next_tick s.clock) t) (sym is) (up_to_same (next_tick s.clock))), rest)

pub rising : (s : ServerState) (turns : List Turn) → HasRisingTicks s turns
rising s [] may = tt
rising s (turn ∷ turns) may = rising_by s turn turns may.1 (turn_gives s turn may.0) (rising (turn_after s turn) turns may.1)

-- ---- what the journal says

copy_by-append : (m : MirrorId) (c : Copy) (front rest : List Entry) → copy_by m c (front ++ rest) ≡ copy_by m (copy_by m c front) rest
copy_by-append m c [] rest = refl
copy_by-append m c (entry ∷ front) rest = copy_by-append m (copy_after m c entry) front rest

-- nothing is kept of no pending writes
kept_none : (pieces : List Piece) → kept_of [] pieces ≡ []
kept_none [] = refl
kept_none (p ∷ pieces) = kept_none pieces

restart_blank : (m : MirrorId) (server : ℕ) (pieces : List Piece) → copy_by m no_copy (Restarted server pieces ∷ []) ≡ no_copy
restart_blank m server pieces =
    cond_both (eqb server m.server) (record { content = survived no_content (pieces_of m.fileid pieces); owner = 0 }) no_copy (λ (c : Copy). c ≡ no_copy)
    (λ e. ap (λ (kept : List Pending). let c : Copy = record { content = record { stable = overlay_all [] kept; pending = [] }; owner = 0 } in c) (kept_none (pieces_of m.fileid pieces))) (λ e. refl)

-- One turn tells the files that were there, and those that were not; it says nothing of others, and keeps the number.
pub record TurnTells (s new : ServerState) (entries : List Entry) : Type 0 where
  pub old : TellsOld s new entries
  pub fresh : TellsNew s new entries
  pub blank : (index : ℕ) → length new.files ≤ index → copy_by (mirror_of s index) no_copy entries ≡ no_copy
  pub grows : length s.files ≤ length new.files
  pub number : new.number ≡ s.number

effect_blank : (s : ServerState) (caller : Caller) (effect : Effect) → IsPermitted s caller effect → (index : ℕ) → length (server_after s effect).files ≤ index → copy_by (mirror_of s index) no_copy (entries_of s caller.uid effect) ≡ no_copy
effect_blank s caller NoEffect may index past = refl
effect_blank s caller (OnFile at op) may index past = told_other (mirror_of s at) (mirror_of s index) caller.uid no_copy op (other_mirror s at index (λ same. absurd (omega (arith, same, slice_get_within s.files at may.0 may.1, beyond past))))
  where
    beyond : length (server_after s (OnFile at op)).files ≤ index → length s.files ≤ index
    beyond le = let size = length-set s.files at (file_after may.0 s.clock op) in omega (arith, size, rw may.1 at le)
effect_blank s caller (NewFile name owner group mode) may index past =
    let size = length-append s.files (new_file owner group mode (next_tick s.clock) ∷ []) in
    let away = other_mirror s (length s.files) index (λ same. absurd (omega (arith, same, size, past))) in
    rw away refl

effect_grows : (s : ServerState) (caller : Caller) (effect : Effect) → IsPermitted s caller effect → length s.files ≤ length (server_after s effect).files
effect_grows s caller NoEffect may = omega arith
effect_grows s caller (OnFile at op) may = let size = length-set s.files at (file_after may.0 s.clock op) in rw may.1 (omega (arith, size))
effect_grows s caller (NewFile name owner group mode) may = let size = length-append s.files (new_file owner group mode (next_tick s.clock) ∷ []) in omega (arith, size)

pub turn_tells : (s : ServerState) (turn : Turn) → IsAllowed s turn → TurnTells s (turn_after s turn) (turn_entries s turn)
turn_tells s (Does caller effect) may = record {
  old = tells_old s caller effect may;
  fresh = tells_new s caller effect may;
  blank = effect_blank s caller effect may;
  grows = effect_grows s caller effect may;
  number = (timed s caller effect may).number;
}
turn_tells s (StartsAgain pieces) may =
    let law = restarted_law s pieces in
    let size = law.same_count in
    record {
      old = law.tells;
      fresh = λ index g past there. let less = slice_get_within (server_restarted s pieces).files index g there in absurd (omega (arith, less, size, past));
      blank = λ index past. restart_blank (mirror_of s index) s.number pieces;
      grows = omega (arith, size);
      number = refl;
    }

told_each : (s new : ServerState) (front entries : List Entry) → IsTold s front → TurnTells s new entries → (index : ℕ) (g : StoredFile) → slice_get new.files index ≡ Some g → copy_of g ≡ copy_by (mirror_of s index) no_copy (front ++ entries)
told_each s new front entries k t index g there =
    elim (slice_get_cases s.files index).1 [
      | inl found ↦
          let f = found.0 in
          let o = t.old index f found.2 in
          let same : copy_of o.0 ≡ copy_of g = ap copy_of (same_Some o.0 g (sym o.1 ∙ there)) in
          sym same ∙ o.2 ∙ ap (λ (c : Copy). copy_by (mirror_of s index) c entries) (k.each index f found.2) ∙ sym (copy_by-append (mirror_of s index) no_copy front entries)
      | inr past ↦
          t.fresh index g past.0 there ∙ sym (ap (λ (c : Copy). copy_by (mirror_of s index) c entries) (k.none index past.0)) ∙ sym (copy_by-append (mirror_of s index) no_copy front entries)
    ]

pub told_turn : (s new : ServerState) (front entries : List Entry) → IsTold s front → TurnTells s new entries → IsTold new (front ++ entries)
told_turn s new front entries k t =
    let mirror : (index : ℕ) → mirror_of s index ≡ mirror_of new index = λ index. ap (λ (n : ℕ). let m : MirrorId = record { server = n; fileid = index + 2 } in m) (sym t.number) in
    record {
      each = λ index g there. told_each s new front entries k t index g there ∙ ap (λ (m : MirrorId). copy_by m no_copy (front ++ entries)) (mirror index);
      none = λ index past.
          sym (ap (λ (m : MirrorId). copy_by m no_copy (front ++ entries)) (mirror index))
          ∙ copy_by-append (mirror_of s index) no_copy front entries
          ∙ ap (λ (c : Copy). copy_by (mirror_of s index) c entries) (k.none index (omega (arith, past, t.grows)))
          ∙ t.blank index past;
    }

told_run : (s : ServerState) (turns : List Turn) (front : List Entry) → AreAllowed s turns → IsTold s front → IsTold (run_after s turns) (front ++ run_entries s turns)
told_run s [] front may k = subst (λ (entries : List Entry). IsTold s entries) (sym (append-nil front)) k
told_run s (turn ∷ turns) front may k =
    subst (λ (entries : List Entry). IsTold (run_after (turn_after s turn) turns) entries) (append_assoc front (turn_entries s turn) (run_entries (turn_after s turn) turns))
    (told_run (turn_after s turn) turns (front ++ turn_entries s turn) may.1 (told_turn s (turn_after s turn) front (turn_entries s turn) k (turn_tells s turn may.0)))

number_stays : (s : ServerState) (turns : List Turn) → AreAllowed s turns → (run_after s turns).number ≡ s.number
number_stays s [] may = refl
number_stays s (turn ∷ turns) may = number_stays (turn_after s turn) turns may.1 ∙ (turn_tells s turn may.0).number

pub told : (number boot : ℕ) (turns : List Turn) → IsToldByJournal (new_server number boot) turns
told number boot turns may index f there =
    let s = new_server number boot in
    let k : IsTold (run_after s turns) (run_entries s turns) = told_run s turns [] may (record { each = λ i g e. absurd (cc); none = λ i past. refl }) in
    k.each index f there ∙ ap (λ (n : ℕ). let m : MirrorId = record { server = n; fileid = index + 2 } in copy_by m no_copy (run_entries s turns)) (number_stays s turns may)
