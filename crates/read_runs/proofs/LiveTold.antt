-- What the entries of one input of the table of phases tell of the file's live mirrors: the live list that is told is the file's own, each
-- entry is of this file, and where a mirror was swapped in the last entry says so.
use Rattle.std.proofs.Common.{◌≡◌, Bool, true, false, List, [], ◌∷◌, ◌++◌, Option, Some, None, refl, ap, subst, ◌∙◌}
use Rattle.std.specs.Prelude.{◌||◌, map, is_some}
use Rattle.std.specs.List.{list_any, AllByRecursion}
use Rattle.std.proofs.lemmas.Bool.{cond_both}
use Rattle.cluster_model.specs.declared.ids.FileId.{FileId}
use Rattle.cluster_model.specs.declared.ids.Mirror.{Mirror}
use Rattle.cluster_model.specs.declared.ids.MirrorId.{MirrorId}
use Rattle.cluster_model.specs.declared.phase.LeftCause.{LeftCause}
use Rattle.cluster_model.specs.declared.entry.Entry.{Entry}
use Rattle.cluster_model.specs.declared.entry.Entry.TheVariants as entry
use Rattle.cluster_model.specs.declared.layout_state.LayoutState.{LayoutState}
use Rattle.cluster_model.specs.declared.layout_state.LayoutPhase.{LayoutPhase}
use Rattle.cluster_model.specs.declared.layout_state.LayoutPhase.TheVariants.{Making, Free, Held, Fencing, Settling, Copying}
use Rattle.cluster_model.specs.declared.targets.SwappedIn.{SwappedIn}
use Rattle.cluster_model.specs.Phases.{ids_of, phase_of, unreported, left_entries, reported_cause, recalled, phase_without, swapped_entries}
use Rattle.file_rule.specs.MdsFiles.{Activity, Idle, Makes, Fences, Settles, Copies, MdsFile, FileStep, begun_by}
use Rattle.file_rule.specs.FilePhases.{FileInput, Returns, OwnEnds, ticked}
use Rattle.mds_refusals.specs.Reads.{is_made}
use Rattle.mds_rule.specs.ServedFiles.{is_swap}
use Rattle.cluster_laws.specs.FenceLaw.{changed_live, live_after, live_by}
use Rattle.cluster_laws.proofs.Invariant.{live_of}

-- ---- entries

-- it is of this file, or of none, and answers no READ
abbrev pub IsOf : FileId → Entry → Type 0
IsOf file (entry.Free other live) = other ≡ file
IsOf file (entry.Left other mirror cause) = other ≡ file
IsOf file (entry.Swapped other old new) = other ≡ file
IsOf file (entry.ReadAnswer other status bytes) = ⊥
IsOf file e = Unit {0}

-- it says nothing of live mirrors, and answers no READ
abbrev pub is_still : Entry → Bool
is_still (entry.Free other live) = false
is_still (entry.Left other mirror cause) = false
is_still (entry.Swapped other old new) = false
is_still (entry.ReadAnswer other status bytes) = false
is_still e = true

abbrev pub AreStill : List Entry → Type 0
AreStill entries = AllByRecursion (λ e. is_still e ≡ true) entries

pub still_live : (file : FileId) (e : Entry) → is_still e ≡ true → (was : Option (List MirrorId)) → live_after file was e ≡ was
still_live file (entry.Free other live) is was = absurd cc
still_live file (entry.Left other mirror cause) is was = absurd cc
still_live file (entry.Swapped other old new) is was = absurd cc
still_live file (entry.ReadAnswer other status bytes) is was = absurd cc
still_live file e is was = refl

pub still_of : (file : FileId) (e : Entry) → is_still e ≡ true → IsOf file e × (is_swap e ≡ false)
still_of file (entry.Free other live) is = absurd cc
still_of file (entry.Left other mirror cause) is = absurd cc
still_of file (entry.Swapped other old new) is = absurd cc
still_of file (entry.ReadAnswer other status bytes) is = absurd cc
still_of file e is = (tt, refl)

pub stills_live : (file : FileId) (entries : List Entry) → AreStill entries → (was : Option (List MirrorId)) → live_by file was entries ≡ was
stills_live file [] all was = refl
stills_live file (e ∷ entries) all was = ap (λ w. live_by file w entries) (still_live file e all.0 was) ∙ stills_live file entries all.1 was

pub stills_of : (file : FileId) (entries : List Entry) → AreStill entries → AllByRecursion (IsOf file) entries
stills_of file [] all = tt
stills_of file (e ∷ entries) all = ((still_of file e all.0).0, stills_of file entries all.1)

-- no swap is among them
abbrev NoSwaps : List Entry → Type 0
NoSwaps entries = list_any is_swap entries ≡ false

no_swap_first : (e : Entry) (entries : List Entry) → is_swap e ≡ false → NoSwaps entries → NoSwaps (e ∷ entries)
no_swap_first e entries is none = ap (λ (b : Bool). b || list_any is_swap entries) is ∙ none

pub stills_swap : (entries : List Entry) → AreStill entries → NoSwaps entries
stills_swap [] all = refl
stills_swap (e ∷ entries) all = no_swap_first e entries (still_of (record { 0 = 0 }) e all.0).1 (stills_swap entries all.1)

pub no_swaps_joined : (a b : List Entry) → NoSwaps a → NoSwaps b → NoSwaps (a ++ b)
no_swaps_joined [] b none more = more
no_swaps_joined (e ∷ a) b none more = by_first (is_swap e) none (no_swaps_joined a b)
  where
    by_first : (t : Bool) → (t || list_any is_swap a) ≡ false → (NoSwaps a → NoSwaps b → NoSwaps (a ++ b)) → (t || list_any is_swap (a ++ b)) ≡ false
    by_first true its rest = absurd cc
    by_first false its rest = rest its more

-- those of mirrors that leave
pub left_of : (file : FileId) (causes : List (Option LeftCause)) (live : List Mirror) → AllByRecursion (IsOf file) (left_entries file causes live)
left_of file causes [] = tt
left_of file [] (m ∷ live) = tt
left_of file (None ∷ causes) (m ∷ live) = left_of file causes live
left_of file (Some cause ∷ causes) (m ∷ live) = (refl, left_of file causes live)

pub left_swaps : (file : FileId) (causes : List (Option LeftCause)) (live : List Mirror) → NoSwaps (left_entries file causes live)
left_swaps file causes [] = refl
left_swaps file [] (m ∷ live) = refl
left_swaps file (None ∷ causes) (m ∷ live) = left_swaps file causes live
left_swaps file (Some cause ∷ causes) (m ∷ live) = left_swaps file causes live

pub swapped_of : (file : FileId) (targets : List SwappedIn) → AllByRecursion (IsOf file) (swapped_entries file targets)
swapped_of file [] = tt
swapped_of file (t ∷ targets) = (refl, swapped_of file targets)

-- ---- a step

-- the live list, once the file was free
abbrev pub live_in_layout : LayoutState → Option (List MirrorId)
live_in_layout s = live_of s.phase (ids_of s.live)

-- who makes the files of a new one, and who copies
abbrev pub FitsPhase : LayoutPhase → Activity → Type 0
FitsPhase p Idle = Unit {0}
FitsPhase p (Makes all) = p ≡ Making
FitsPhase p (Fences fence) = Unit {0}
FitsPhase p (Settles stage) = Unit {0}
FitsPhase p (Copies c) = is_made (phase_of p) ≡ true

-- there is no swap, or the last one ends them
pub data SwapsLast (file : FileId) (entries : List Entry) (p : LayoutPhase) : Type 0 where
  HasNone : list_any is_swap entries ≡ false → SwapsLast file entries p
  HasLast : (front : List Entry) (old : Option MirrorId) (new : MirrorId) → entries ≡ front ++ entry.Swapped file old new ∷ [] → is_made (phase_of p) ≡ true → SwapsLast file entries p

pub last_swap : (file : FileId) (t : SwappedIn) (targets : List SwappedIn) (p : LayoutPhase) → is_made (phase_of p) ≡ true → SwapsLast file (swapped_entries file (t ∷ targets)) p
last_swap file t [] p is = HasLast [] t.old t.new.id refl is
last_swap file t (u ∷ targets) p is = behind (last_swap file u targets p is)
  where
    behind : SwapsLast file (swapped_entries file (u ∷ targets)) p → SwapsLast file (swapped_entries file (t ∷ u ∷ targets)) p
    behind (HasNone none) = HasNone none
    behind (HasLast front old new its so) = HasLast (entry.Swapped file t.old t.new.id ∷ front) old new (ap (λ l. entry.Swapped file t.old t.new.id ∷ l) its) so

pub record Says (file : FileId) (was : Option (List MirrorId)) (x : FileStep) : Type 0 where
  pub live : live_by file was x.entries ≡ live_in_layout x.file.layout
  pub own : AllByRecursion (IsOf file) x.entries
  pub swaps : SwapsLast file x.entries x.file.layout.phase
  pub fits : FitsPhase x.file.layout.phase x.file.activity

-- ---- phases

pub made_live : (p : LayoutPhase) (ks : List MirrorId) → is_made (phase_of p) ≡ true → live_of p ks ≡ Some ks
made_live Making ks is = absurd cc
made_live Free ks is = refl
made_live (Held holder recalled) ks is = refl
made_live (Fencing next end) ks is = refl
made_live (Settling copies) ks is = refl
made_live (Copying copier copies) ks is = refl

pub begun_fits : (p q : LayoutPhase) → FitsPhase q (begun_by p)
begun_fits Making q = tt
begun_fits Free q = tt
begun_fits (Held holder recalled) q = tt
begun_fits (Fencing next end) q = tt
begun_fits (Settling copies) q = tt
begun_fits (Copying copier copies) q = tt

-- a file that is free or held fits as well where it is held
pub held_fits : (p q : LayoutPhase) (a : Activity) → is_made (phase_of p) ≡ true → is_made (phase_of q) ≡ true → FitsPhase p a → FitsPhase q a
held_fits p q Idle was is fits = tt
held_fits p q (Makes all) was is fits = absurd (no_making (subst (λ (x : LayoutPhase). is_made (phase_of x) ≡ true) fits was))
  where
    no_making : is_made (phase_of Making) ≡ true → ⊥
    no_making its = absurd cc
held_fits p q (Fences fence) was is fits = tt
held_fits p q (Settles stage) was is fits = tt
held_fits p q (Copies c) was is fits = is

pub ticked_fits : (p : LayoutPhase) (a : Activity) → FitsPhase p a → FitsPhase p (ticked a)
ticked_fits p Idle fits = tt
ticked_fits p (Makes all) fits = fits
ticked_fits p (Fences fence) fits = tt
ticked_fits p (Settles stage) fits = tt
ticked_fits p (Copies c) fits = fits

pub loss_made : (p : LayoutPhase) (source : Bool) → is_made (phase_of p) ≡ true → is_made (phase_of (phase_without p source)) ≡ true
loss_made Making source is = is
loss_made Free source is = is
loss_made (Held holder recalled) source is = is
loss_made (Fencing next end) source is = is
loss_made (Settling copies) source is = is
loss_made (Copying copier copies) source is = cond_both source (Settling copies) (Copying copier copies) (λ (p : LayoutPhase). is_made (phase_of p) ≡ true) (λ on. refl) (λ off. refl)

pub loss_live : (p : LayoutPhase) (source : Bool) (change : List MirrorId → List MirrorId) (ks new : List MirrorId) → change ks ≡ new
    → changed_live change (live_of p ks) ≡ live_of (phase_without p source) new
loss_live Making source change ks new is = refl
loss_live Free source change ks new is = ap Some is
loss_live (Held holder recalled) source change ks new is = ap Some is
loss_live (Fencing next end) source change ks new is = ap Some is
loss_live (Settling copies) source change ks new is = ap Some is
loss_live (Copying copier copies) source change ks new is = cond_both source (Settling copies) (Copying copier copies) (λ (p : LayoutPhase). Some (change ks) ≡ live_of p new) (λ on. ap Some is) (λ off. ap Some is)

-- the mirrors that leave by a return or an own write leave the live list that is told
abbrev pub LeaveSo : FileId → MdsFile → FileInput → Type 0
LeaveSo file f (Returns client claimed places) = live_by file (Some (ids_of f.layout.live)) (left_entries file (map reported_cause places) f.layout.live) ≡ Some (ids_of (unreported places f.layout.live))
LeaveSo file f (OwnEnds causes at bytes) = live_by file (Some (ids_of f.layout.live)) (left_entries file causes f.layout.live) ≡ Some (ids_of (unreported (map is_some causes) f.layout.live))
LeaveSo file f input = Unit {0}
