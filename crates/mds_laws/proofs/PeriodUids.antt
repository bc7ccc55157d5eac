-- The uid that the next grant of a file has, and the one that its next period's end has; and what entries of the file make of them: a
-- grant uses up the one, an end the other.
use Rattle.std.proofs.Common.{◌≡◌, ◌<◌, ℕ, Bool, true, false, List, [], ◌∷◌, ◌++◌, Option, Some, None, refl, sym, subst}
use Rattle.std.specs.Prelude.{is_some}
use Rattle.std.proofs.lemmas.Bool.{cond_both}
use Rattle.cluster_model.specs.declared.ids.FileId.{FileId}
use Rattle.cluster_model.specs.declared.ids.Cred.{Cred}
use Rattle.cluster_model.specs.declared.ids.Mirror.{Mirror}
use Rattle.cluster_model.specs.declared.phase.LeftCause.{LeftCause}
use Rattle.cluster_model.specs.declared.entry.Entry.{Entry}
use Rattle.cluster_model.specs.declared.entry.Entry.TheVariants as entry
use Rattle.cluster_model.specs.declared.layout_state.LayoutState.{LayoutState}
use Rattle.cluster_model.specs.declared.layout_state.LayoutPhase.{LayoutPhase}
use Rattle.cluster_model.specs.declared.layout_state.LayoutPhase.TheVariants.{Making, Free, Held, Fencing, Settling, Copying}
use Rattle.cluster_model.specs.declared.targets.SwappedIn.{SwappedIn}
use Rattle.cluster_model.specs.Phases.{left_entries, made, phase_without, swapped_entries}
use Rattle.file_rule.specs.MdsFiles.{Activity, Idle, Makes, Fences, Settles, Copies, begun_by}
use Rattle.file_rule.specs.FilePhases.{kind_of, ticked}
use Rattle.mds_walk.proofs.Lists.{AllOf}

-- ---- the uid of a file

-- told of grants, or of ends of periods
pub data Side : Type 0 where
  Grants : Side
  Ends : Side

-- a file that is held has none to grant
abbrev pub held_uid : Side → Cred → Option ℕ
held_uid Grants cred = None
held_uid Ends cred = Some cred.0

-- behind a fence it is the one that the fence is to
abbrev pub uid_by : Side → Cred → LayoutPhase → Option ℕ
uid_by side cred Making = Some cred.0
uid_by side cred Free = Some cred.0
uid_by side cred (Held holder recalled) = held_uid side cred
uid_by side cred (Fencing next end) = Some next.0
uid_by side cred (Settling copies) = Some cred.0
uid_by side cred (Copying copier copies) = Some cred.0

abbrev pub uid_of : Side → LayoutState → Option ℕ
uid_of side s = uid_by side s.cred s.phase

abbrev pub is_making : LayoutPhase → Bool
is_making Making = true
is_making Free = false
is_making (Held holder recalled) = false
is_making (Fencing next end) = false
is_making (Settling copies) = false
is_making (Copying copier copies) = false

-- what is under way belongs to the phase: CREATEs to the making of a file, a copy to a file that is settled or copied
abbrev pub Agrees : Activity → LayoutPhase → Type 0
Agrees Idle p = Unit {0}
Agrees (Makes all) p = is_making p ≡ true
Agrees (Fences x) p = Unit {0}
Agrees (Settles stage) p = Unit {0}
Agrees (Copies c) p = is_some (kind_of p) ≡ true

pub making_uid : (side : Side) (cred : Cred) (p : LayoutPhase) → is_making p ≡ true → uid_by side cred p ≡ Some cred.0
making_uid side cred Making is = refl
making_uid side cred Free is = absurd cc
making_uid side cred (Held holder recalled) is = absurd cc
making_uid side cred (Fencing next end) is = absurd cc
making_uid side cred (Settling copies) is = absurd cc
making_uid side cred (Copying copier copies) is = absurd cc

pub kind_uid : (side : Side) (cred : Cred) (p : LayoutPhase) → is_some (kind_of p) ≡ true → uid_by side cred p ≡ Some cred.0
kind_uid side cred Making is = absurd cc
kind_uid side cred Free is = absurd cc
kind_uid side cred (Held holder recalled) is = absurd cc
kind_uid side cred (Fencing next end) is = absurd cc
kind_uid side cred (Settling copies) is = refl
kind_uid side cred (Copying copier copies) is = refl

-- what belongs to no phase in particular belongs to any
pub idle_agrees : (a : Activity) (p q : LayoutPhase) → is_making p ≡ false → is_some (kind_of p) ≡ false → Agrees a p → Agrees a q
idle_agrees Idle p q made copied its = tt
idle_agrees (Makes all) p q made copied its = absurd cc
idle_agrees (Fences x) p q made copied its = tt
idle_agrees (Settles stage) p q made copied its = tt
idle_agrees (Copies c) p q made copied its = absurd cc

pub begun_agrees : (p q : LayoutPhase) → Agrees (begun_by p) q
begun_agrees Making q = tt
begun_agrees Free q = tt
begun_agrees (Held holder recalled) q = tt
begun_agrees (Fencing next end) q = tt
begun_agrees (Settling copies) q = tt
begun_agrees (Copying copier copies) q = tt

pub ticked_agrees : (a : Activity) (p : LayoutPhase) → Agrees a p → Agrees (ticked a) p
ticked_agrees Idle p its = tt
ticked_agrees (Makes all) p its = its
ticked_agrees (Fences x) p its = tt
ticked_agrees (Settles stage) p its = tt
ticked_agrees (Copies c) p its = its

pub loss_uid : (side : Side) (cred : Cred) (p : LayoutPhase) (source : Bool) → uid_by side cred (phase_without p source) ≡ uid_by side cred p
loss_uid side cred Making source = refl
loss_uid side cred Free source = refl
loss_uid side cred (Held holder recalled) source = refl
loss_uid side cred (Fencing next end) source = refl
loss_uid side cred (Settling copies) source = refl
loss_uid side cred (Copying copier copies) source = cond_both source (Settling copies) (Copying copier copies) (λ (p : LayoutPhase). uid_by side cred p ≡ Some cred.0) (λ is. refl) (λ off. refl)

pub loss_kind : (p : LayoutPhase) (source : Bool) → is_some (kind_of (phase_without p source)) ≡ is_some (kind_of p)
loss_kind Making source = refl
loss_kind Free source = refl
loss_kind (Held holder recalled) source = refl
loss_kind (Fencing next end) source = refl
loss_kind (Settling copies) source = refl
loss_kind (Copying copier copies) source = cond_both source (Settling copies) (Copying copier copies) (λ (p : LayoutPhase). is_some (kind_of p) ≡ true) (λ is. refl) (λ off. refl)

-- ---- what the entries of a file make of it

-- behind all of them it is the one from before, or one that was drawn
pub data Leaves (fresh after : ℕ) (old new : Option ℕ) : Type 0 where
  Keeps : new ≡ old → Leaves fresh after old new
  Draws : new ≡ Some fresh → fresh < after → Leaves fresh after old new

-- a grant, or an end, has the uid that the file had, and leaves it with none
abbrev pub IsGrantUse : Side → Option ℕ → ℕ → Type 0
IsGrantUse Grants old uid = old ≡ Some uid
IsGrantUse Ends old uid = Unit {0}

abbrev pub IsEndUse : Side → Option ℕ → ℕ → Type 0
IsEndUse Grants old uid = Unit {0}
IsEndUse Ends old uid = old ≡ Some uid

abbrev pub IsUseOf : Side → Option ℕ → Entry → Type 0
IsUseOf side old (entry.Granted file cred holder) = IsGrantUse side old cred.0
IsUseOf side old (entry.Ended file cred cause) = IsEndUse side old cred.0
IsUseOf side old e = Unit {0}

abbrev pub behind_grant : Side → Option ℕ → Option ℕ
behind_grant Grants old = None
behind_grant Ends old = old

abbrev pub behind_end : Side → Option ℕ → Option ℕ
behind_end Grants old = old
behind_end Ends old = None

abbrev pub uid_behind : Side → Option ℕ → Entry → Option ℕ
uid_behind side old (entry.Granted file cred holder) = behind_grant side old
uid_behind side old (entry.Ended file cred cause) = behind_end side old
uid_behind side old e = old

abbrev pub Uses : Side → ℕ → ℕ → Option ℕ → List Entry → Option ℕ → Type 0
Uses side fresh after old [] new = Leaves fresh after old new
Uses side fresh after old (e ∷ entries) new = IsUseOf side old e × Uses side fresh after (uid_behind side old e) entries new

pub end_use : (side : Side) (cred : Cred) (old : Option ℕ) → old ≡ held_uid side cred → IsEndUse side old cred.0
end_use Grants cred old its = tt
end_use Ends cred old its = its

-- entries that are no grants and no ends
abbrev pub is_use : Entry → Bool
is_use (entry.Granted file cred holder) = true
is_use (entry.Ended file cred cause) = true
is_use e = false

abbrev pub AreSilent : List Entry → Type 0
AreSilent entries = AllOf (λ e. is_use e ≡ false) entries

silent_entry : (side : Side) (old : Option ℕ) (e : Entry) → is_use e ≡ false → IsUseOf side old e × (uid_behind side old e ≡ old)
silent_entry side old (entry.Granted file cred holder) is = absurd cc
silent_entry side old (entry.Ended file cred cause) is = absurd cc
silent_entry side old e is = (tt, refl)

-- such entries in front of others
pub silent_then : (side : Side) (fresh after : ℕ) (old new : Option ℕ) (entries more : List Entry) → AreSilent entries → Uses side fresh after old more new → Uses side fresh after old (entries ++ more) new
silent_then side fresh after old new [] more all uses = uses
silent_then side fresh after old new (e ∷ entries) more all uses =
    let one = silent_entry side old e all.0 in
    (one.0, subst (λ (o : Option ℕ). Uses side fresh after o (entries ++ more) new) (sym one.1) (silent_then side fresh after old new entries more all.1 uses))

pub silent_only : (side : Side) (fresh after : ℕ) (old new : Option ℕ) (entries : List Entry) → AreSilent entries → Leaves fresh after old new → Uses side fresh after old entries new
silent_only side fresh after old new [] all leaves = leaves
silent_only side fresh after old new (e ∷ entries) all leaves =
    let one = silent_entry side old e all.0 in
    (one.0, subst (λ (o : Option ℕ). Uses side fresh after o entries new) (sym one.1) (silent_only side fresh after old new entries all.1 leaves))

pub silent_join : (a b : List Entry) → AreSilent a → AreSilent b → AreSilent (a ++ b)
silent_join [] b all more = more
silent_join (e ∷ a) b all more = (all.0, silent_join a b all.1 more)

pub left_silent : (file : FileId) (causes : List (Option LeftCause)) (live : List Mirror) → AreSilent (left_entries file causes live)
left_silent file causes [] = tt
left_silent file [] (m ∷ live) = tt
left_silent file (None ∷ causes) (m ∷ live) = left_silent file causes live
left_silent file (Some cause ∷ causes) (m ∷ live) = (refl, left_silent file causes live)

pub swapped_silent : (file : FileId) (targets : List SwappedIn) → AreSilent (swapped_entries file targets)
swapped_silent file [] = tt
swapped_silent file (t ∷ targets) = (refl, swapped_silent file targets)
