-- A tick at each file, one after the other, and then the calls that go out: nothing is kept behind it.
use Rattle.std.proofs.Common.{arith, ◌≡◌, ℕ, ◌+◌, ◌<◌, zero, suc, Bool, true, false, List, [], ◌∷◌, length, Option, Some, None, refl, sym, ap, subst, ◌∙◌}
use Rattle.std.specs.Prelude.{◌-◌, slice_get, slice_set, if◌then◌else◌}
use Rattle.std.specs.List.{range_with_len}
use Rattle.std.proofs.lemmas.Bool.{cond_both, ne_eqb}
use Rattle.std.proofs.lemmas.Option.{none-some, same_Some}
use Rattle.file_rule.specs.declared.fresh.Fresh.{Fresh}
use Rattle.file_rule.specs.MdsFiles.{FileStep}
use Rattle.file_rule.specs.FilePhases.{Ticks, phase}
use Rattle.mds_rows.specs.Draws.{drawn}
use Rattle.mds_rule.specs.MdsStates.{ServedFile, MdsValue, MdsStep, sends_none, served, numbered}
use Rattle.mds_rule.specs.ServedFiles.{has_fresh, file_behind, file_stepped, input_at, takes_input}
use Rattle.mds_rule.specs.Goes.{each}
use Rattle.mds_rule.specs.Events.{kept_calls, files_tick}
use Rattle.mds_progress.proofs.Kept.{NoneKept, none_out, none_ticked}
use Rattle.mds_progress.proofs.CallsKeep.{AllFree, calls_free}
use Rattle.mds_progress.specs.TickLaw.{TickKeepsNothing, behind_ends}

-- nothing of the files below this place is kept
abbrev FreeBelow : ℕ → List ServedFile → Type 0
FreeBelow h files = (place : ℕ) (s : ServedFile) → place < h → slice_get files place ≡ Some s → NoneKept s.file.activity

set_below : (files : List ServedFile) (h : ℕ) (t : ServedFile) → FreeBelow h files → NoneKept t.file.activity → FreeBelow (suc h) (slice_set files h t)
set_below [] h t below free p s less is = absurd (none-some s is)
set_below (f ∷ files) zero t below free zero s less is = subst (λ (x : ServedFile). NoneKept x.file.activity) (same_Some t s is) free
set_below (f ∷ files) zero t below free (suc p) s less is = absurd (omega (arith, less))
set_below (f ∷ files) (suc h) t below free zero s less is = below zero s (omega arith) is
set_below (f ∷ files) (suc h) t below free (suc p) s less is = set_below files h t (λ q x l its. below (suc q) x (omega (arith, l)) its) free p s (omega (arith, less)) is

-- where there is no file at this place, none is behind it
none_below : (files : List ServedFile) (h : ℕ) → slice_get files h ≡ None → FreeBelow h files → FreeBelow (suc h) files
none_below [] h none below p s less is = absurd (none-some s is)
none_below (f ∷ files) zero none below p s less is = absurd (none-some f (sym none))
none_below (f ∷ files) (suc h) none below zero s less is = below zero s (omega arith) is
none_below (f ∷ files) (suc h) none below (suc p) s less is = none_below files h none (λ q x l its. below (suc q) x (omega (arith, l)) its) p s (omega (arith, less)) is

-- how the files stand within the pass
record Ticking (h : ℕ) (m : MdsValue) : Type 0 where
  fresh : has_fresh m.fresh ≡ true
  below : FreeBelow h m.files

-- nothing is drawn at a tick
drawn_none : (fresh : Fresh) (step : FileStep) → step.uids ≡ 0 → step.names ≡ 0 → has_fresh fresh ≡ true → has_fresh (drawn fresh step) ≡ true
drawn_none fresh step uids names has = subst (λ (f : Fresh). has_fresh f ≡ true) (sym (same fresh step uids names)) has
  where
    same : (fresh : Fresh) (step : FileStep) → step.uids ≡ 0 → step.names ≡ 0 → drawn fresh step ≡ fresh
    same fresh step uids names = by_numbers (fresh.uid + step.uids) (fresh.name + step.names) (omega (arith, uids)) (omega (arith, names))
      where
        by_numbers : (uid name : ℕ) → uid ≡ fresh.uid → name ≡ fresh.name → ◌≡◌ {A = Fresh} (record fresh { uid = uid; name = name }) fresh
        by_numbers uid name first second = λ i. record fresh { uid = first i; name = second i }

pub pred_suc : (n : ℕ) → suc n - 1 ≡ n
pred_suc n = omega arith

file_ticks : (h : ℕ) (m : MdsValue) (o : Option ServedFile) → slice_get m.files h ≡ o → Ticking h m → Ticking (suc h) (input_at m (numbered (suc h)) Ticks o).mds
file_ticks h m None is t = record { fresh = t.fresh; below = none_below m.files h is t.below }
file_ticks h m (Some s) is t =
    let step : FileStep = phase (numbered (suc h)) s.file Ticks m.fresh in
    cond_both (has_fresh m.fresh) (file_stepped m (numbered (suc h)) s step) (sends_none m) (λ (x : MdsStep). Ticking (suc h) x.mds)
    (λ has. record {
      fresh = drawn_none m.fresh step refl refl t.fresh;
      below = subst (λ (k : ℕ). FreeBelow (suc h) (slice_set m.files k (file_behind s step))) (sym (pred_suc h)) (set_below m.files h (file_behind s step) t.below (none_ticked s.file.activity));
    })
    (λ off. absurd (not_both (sym t.fresh ∙ off)))
  where
    not_both : true ≡ false → ⊥
    not_both e = absurd cc

at_place : (h : ℕ) (m : MdsValue) → served m (numbered (suc h)) ≡ slice_get m.files h
at_place h m =
    ap (λ (b : Bool). if b then None else slice_get m.files (suc h - 1)) (ne_eqb (suc h) 0 (λ e. omega (arith, e)))
    ∙ ap (λ (k : ℕ). slice_get m.files k) (pred_suc h)

one_ticks : (h : ℕ) (m : MdsValue) → Ticking h m → Ticking (suc h) (takes_input m (numbered (suc h)) Ticks).mds
one_ticks h m t = subst (λ (o : Option ServedFile). Ticking (suc h) (input_at m (numbered (suc h)) Ticks o).mds) (sym (at_place h m)) (file_ticks h m (slice_get m.files h) refl t)

all_tick : (count h : ℕ) (m : MdsValue) → Ticking h m → Ticking (h + count) (each (λ n k. takes_input k (numbered n) Ticks) (range_with_len (suc h) count) m).mds
all_tick zero h m t = subst (λ (n : ℕ). Ticking n m) (omega arith) t
all_tick (suc count) h m t =
    let first : MdsValue = (takes_input m (numbered (suc h)) Ticks).mds in
    let rest : Ticking (suc h + count) (each (λ n k. takes_input k (numbered n) Ticks) (range_with_len (suc (suc h)) count) first).mds = all_tick count (suc h) first (one_ticks h m t) in
    let from : Ticking (suc h + count) (each (λ n k. takes_input k (numbered n) Ticks) (range_with_len (suc h + 1) count) first).mds =
    subst (λ (k : ℕ). Ticking (suc h + count) (each (λ n k. takes_input k (numbered n) Ticks) (range_with_len k count) first).mds) (one_on h) rest in
    subst (λ (n : ℕ). Ticking n (each (λ n k. takes_input k (numbered n) Ticks) (range_with_len (suc h + 1) count) first).mds) (moved h count) from
  where
    one_on : (n : ℕ) → suc (suc n) ≡ suc n + 1
    one_on n = omega arith

    moved : (n c : ℕ) → suc n + c ≡ n + suc c
    moved n c = omega arith

-- where no file below the number of files is kept, none is
below_all : (files : List ServedFile) → FreeBelow (length files) files → AllFree files
below_all files below p s is = below p s (within files p s is) is
  where
    within : (files : List ServedFile) (p : ℕ) (s : ServedFile) → slice_get files p ≡ Some s → p < length files
    within [] p s is = absurd (none-some s is)
    within (f ∷ files) zero s is = omega arith
    within (f ∷ files) (suc p) s is = let l : p < length files = within files p s is in omega (arith, l)

set_length : (files : List ServedFile) (h : ℕ) (t : ServedFile) → length (slice_set files h t) ≡ length files
set_length [] h t = refl
set_length (f ∷ files) zero t = refl
set_length (f ∷ files) (suc h) t = ap suc (set_length files h t)

-- no file comes or goes in the pass
input_length : (m : MdsValue) (n : ℕ) (o : Option ServedFile) → length (input_at m (numbered n) Ticks o).mds.files ≡ length m.files
input_length m n None = refl
input_length m n (Some s) =
    let step : FileStep = phase (numbered n) s.file Ticks m.fresh in
    cond_both (has_fresh m.fresh) (file_stepped m (numbered n) s step) (sends_none m) (λ (x : MdsStep). length x.mds.files ≡ length m.files) (λ has. set_length m.files (n - 1) (file_behind s step)) (λ off. refl)

pub each_length : (ns : List ℕ) (m : MdsValue) → length (each (λ n k. takes_input k (numbered n) Ticks) ns m).mds.files ≡ length m.files
each_length [] m = refl
each_length (n ∷ ns) m = each_length ns (takes_input m (numbered n) Ticks).mds ∙ input_length m n (served m (numbered n))

pass_frees : (m : MdsValue) → has_fresh m.fresh ≡ true → AllFree (each (λ n k. takes_input k (numbered n) Ticks) (range_with_len 1 (length m.files)) m).mds.files
pass_frees m has =
    let done : Ticking (0 + length m.files) (each (λ n k. takes_input k (numbered n) Ticks) (range_with_len 1 (length m.files)) m).mds =
    all_tick (length m.files) 0 m (record { fresh = has; below = λ p s less is. absurd (omega (arith, less)) }) in
    below_all (each (λ n k. takes_input k (numbered n) Ticks) (range_with_len 1 (length m.files)) m).mds.files
    (subst (λ (n : ℕ). FreeBelow n (each (λ n k. takes_input k (numbered n) Ticks) (range_with_len 1 (length m.files)) m).mds.files)
    (zero_more (length m.files) ∙ sym (each_length (range_with_len 1 (length m.files)) m)) done.below)
  where
    zero_more : (n : ℕ) → 0 + n ≡ n
    zero_more n = omega arith

files_free : (m : MdsValue) → has_fresh m.fresh ≡ true → AllFree (files_tick m).mds.files
files_free m has =
    calls_free (kept_calls m) (each (λ n k. takes_input k (numbered n) Ticks) (range_with_len 1 (length m.files)) m).mds (pass_frees m has)

pub ticks : (now : ℕ) (m : MdsValue) → TickKeepsNothing now m
ticks now m has place s is = none_out s.file.layout.live s.file.activity (files_free (behind_ends now m) has place s is)
