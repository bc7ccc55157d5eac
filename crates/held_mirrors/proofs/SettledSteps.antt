-- What a step of a file leaves of its mirrors while nobody makes or fences it: they stay under the same uid, or come from a fence or from its making.
use Rattle.std.proofs.Common.{◌≡◌, ℕ, Bool, true, false, List, [], ◌∷◌, ◌++◌, Option, refl, sym, ap, subst, ◌∙◌}
use Rattle.std.specs.Prelude.{map, filter, not}
use Rattle.std.proofs.lemmas.Bool.{cond_both}
use Rattle.std.specs.List.{AllByRecursion}
use Rattle.cluster_model.specs.declared.ids.Cred.{Cred}
use Rattle.cluster_model.specs.declared.ids.MirrorId.{MirrorId}
use Rattle.cluster_model.specs.declared.ids.Mirror.{Mirror}
use Rattle.cluster_model.specs.declared.entry.Entry.{Entry}
use Rattle.cluster_model.specs.declared.entry.Entry.TheVariants as entry
use Rattle.cluster_model.specs.declared.layout_state.LayoutState.{LayoutState}
use Rattle.cluster_model.specs.declared.layout_state.LayoutPhase.{LayoutPhase}
use Rattle.cluster_model.specs.declared.layout_state.LayoutPhase.TheVariants.{Making, Free, Held, Fencing, Settling, Copying}
use Rattle.cluster_model.specs.declared.layout_state.FenceEnd.{FenceEnd}
use Rattle.cluster_model.specs.declared.layout_state.FenceEnd.TheVariants.{Clean, Dirty, Copied}
use Rattle.cluster_model.specs.Journal.{is_mirror}
use Rattle.cluster_model.specs.Phases.{ids_of, but_for, is_source, phase_without, after_loss, phase_fenced, free_entries, copied}
use Rattle.file_rule.specs.declared.fresh.Fresh.{Fresh}
use Rattle.file_rule.specs.MdsFiles.{Creations, Activity, Idle, Makes, Fences, Settles, Copies, FileStep, stays, with_entries}
use Rattle.file_rule.specs.FilePhases.{FileInput}
use Rattle.cluster_laws.specs.Machine.{file_id}
use Rattle.cluster_laws.proofs.Lives.{ids_but_for}
use Rattle.machine_walk.proofs.StepKinds.{copy_turned, IsAlike, IsLeaving, OneLeft, OneTold, IsTakenWith, StepKind, Rests, Learnt, Recalled, Grants, Ends, Resilvers, MakingTurns, MakingDone, FenceTurns, FenceLoses, FenceDone, SettleTurns, SettleLoses, SettleFrees, CopyBegins, CopyTurns, CopyLoses, TargetLost, CopyFrees, CopySwaps}

-- neither made nor fenced
abbrev pub is_settled : LayoutPhase → Bool
is_settled Making = false
is_settled Free = true
is_settled (Held holder is_recalled) = true
is_settled (Fencing next end) = false
is_settled (Settling copies) = true
is_settled (Copying copier copies) = true

-- all of one list that hold are all of another's
abbrev pub Within : List MirrorId → List MirrorId → Type 1
Within ids more = (P : MirrorId → Type 0) → AllByRecursion P more → AllByRecursion P ids

pub data SettledStep (n top : ℕ) (s : LayoutState) (x : FileStep) : Type 1 where
  -- as before, or fewer
  Remains : is_settled s.phase ≡ true → x.file.layout.cred.0 ≡ s.cred.0 → Within (ids_of x.file.layout.live) (ids_of s.live) → SettledStep n top s x
  -- a fence to the highest uid that was drawn for the file is done
  IsFencedNow : (front : List Entry) (old : Cred) (live : List MirrorId) (rest : List Entry) → top ≡ x.file.layout.cred.0 → x.entries ≡ front ++ entry.Fenced (file_id n) old x.file.layout.cred live ∷ rest → x.uids ≡ 0 → SettledStep n top s x
  -- it is made, under the only uid that was drawn for it
  IsMadeNow : s.phase ≡ Making → top ≡ x.file.layout.cred.0 → x.entries ≡ entry.Free (file_id n) (ids_of x.file.layout.live) ∷ [] → x.file.activity ≡ Idle → x.uids ≡ 0 → SettledStep n top s x
  IsUnsettled : is_settled x.file.layout.phase ≡ false → SettledStep n top s x

-- what is known of a file by what it does
pub record MakesTo (top : ℕ) (s : LayoutState) (all : Creations) : Type 0 where
  pub top_is : top ≡ all.owner
  pub owner : all.owner ≡ s.cred.0
  pub phase : s.phase ≡ Making

pub record FencesTo (top : ℕ) (s : LayoutState) (cred : ℕ) : Type 0 where
  pub top_is : top ≡ cred
  pub next : Cred
  pub end : FenceEnd
  pub phase : s.phase ≡ Fencing next end

abbrev pub TopIs : ℕ → LayoutState → Activity → Type 0
TopIs top s Idle = is_settled s.phase ≡ true
TopIs top s (Makes all) = MakesTo top s all
TopIs top s (Fences fence) = FencesTo top s fence.cred
TopIs top s (Settles stage) = is_settled s.phase ≡ true
TopIs top s (Copies c) = is_settled s.phase ≡ true

-- ---- mirrors that leave

all_but : (P : MirrorId → Type 0) (keep : MirrorId → Bool) (ids : List MirrorId) → AllByRecursion P ids → AllByRecursion P (filter keep ids)
all_but P keep [] all = tt
all_but P keep (k ∷ ids) all = cond_both (keep k) (k ∷ filter keep ids) (filter keep ids) (AllByRecursion P) (λ e. (all.0, all_but P keep ids all.1)) (λ e. all_but P keep ids all.1)

loses : (s : LayoutState) (id : MirrorId) → Within (ids_of (after_loss s id).live) (ids_of s.live)
loses s id P all = subst (AllByRecursion P) (sym (ids_but_for id s.live)) (all_but P (λ (k : MirrorId). not (is_mirror k id)) (ids_of s.live) all)

same_settled : (phase : LayoutPhase) (source : Bool) → is_settled (phase_without phase source) ≡ is_settled phase
same_settled Making source = refl
same_settled Free source = refl
same_settled (Held holder is_recalled) source = refl
same_settled (Fencing next end) source = refl
same_settled (Settling copies) source = refl
same_settled (Copying copier copies) true = refl
same_settled (Copying copier copies) false = refl

not_settled_making : (phase : LayoutPhase) → is_settled phase ≡ true → phase ≡ Making → ⊥
not_settled_making phase settled is = let wrong : false ≡ true = sym (ap is_settled is) ∙ settled in absurd cc

not_fencing_making : (phase : LayoutPhase) (next : Cred) (end : FenceEnd) → phase ≡ Fencing next end → phase ≡ Making → ⊥
not_fencing_making phase next end fencing making = let wrong : Making ≡ Fencing next end = sym making ∙ fencing in absurd cc

-- behind a mirror that left first
after_left : (n top : ℕ) (s : LayoutState) (id : MirrorId) (x : FileStep) (first : Entry) → ((after_loss s id).phase ≡ Making → ⊥) → SettledStep n top (after_loss s id) x → SettledStep n top s (with_entries (first ∷ []) x)
after_left n top s id x first none (Remains was cred within) = Remains (sym (same_settled s.phase (is_source id s.live)) ∙ was) cred (λ P all. within P (loses s id P all))
after_left n top s id x first none (IsFencedNow front old live rest at is uids) = IsFencedNow (first ∷ front) old live rest at (ap (λ (l : List Entry). first ∷ l) is) uids
after_left n top s id x first none (IsMadeNow making at is idle uids) = absurd (none making)
after_left n top s id x first none (IsUnsettled is) = IsUnsettled is

same_within : (ids : List MirrorId) → Within ids ids
same_within ids P all = all

left_within : (s : LayoutState) (id : MirrorId) → Within (ids_of (but_for id s.live)) (ids_of s.live)
left_within s id = loses s id

-- ---- every kind of step

module _ (n : ℕ) (fresh : Fresh) (input : FileInput) (top : ℕ) where
  rests : (s : LayoutState) (a : Activity) → TopIs top s a → SettledStep n top s (stays s a)
  rests s Idle h = Remains h refl (same_within (ids_of s.live))
  rests s (Makes all) h = IsUnsettled (ap is_settled h.phase)
  rests s (Fences fence) h = IsUnsettled (ap is_settled h.phase)
  rests s (Settles stage) h = Remains h refl (same_within (ids_of s.live))
  rests s (Copies c) h = Remains h refl (same_within (ids_of s.live))

  top_alike : (s y : LayoutState) (a : Activity) → IsAlike s y → TopIs top s a → TopIs top y a
  top_alike s y Idle e h = ap is_settled e.phase ∙ h
  top_alike s y (Makes all) e h = record { top_is = h.top_is; owner = h.owner ∙ ap (λ (c : Cred). c.0) (sym e.cred); phase = e.phase ∙ h.phase }
  top_alike s y (Fences fence) e h = record { top_is = h.top_is; next = h.next; end = h.end; phase = e.phase ∙ h.phase }
  top_alike s y (Settles stage) e h = ap is_settled e.phase ∙ h
  top_alike s y (Copies c) e h = ap is_settled e.phase ∙ h

  as_alike : (s y : LayoutState) (x : FileStep) → IsAlike s y → SettledStep n top y x → SettledStep n top s x
  as_alike s y x e (Remains was cred within) = Remains (sym (ap is_settled e.phase) ∙ was) (cred ∙ ap (λ (c : Cred). c.0) e.cred) (λ P all. within P (subst (AllByRecursion P) (sym e.ids) all))
  as_alike s y x e (IsFencedNow front old live rest at is uids) = IsFencedNow front old live rest at is uids
  as_alike s y x e (IsMadeNow making at is idle uids) = IsMadeNow (sym e.phase ∙ making) at is idle uids
  as_alike s y x e (IsUnsettled is) = IsUnsettled is

  pub settles : {s : LayoutState} {a : Activity} {x : FileStep} → StepKind n fresh input s a x → TopIs top s a → SettledStep n top s x
  settles (Rests s a) h = rests s a h
  settles (Learnt s y a x e k) h = as_alike s y x e (settles k (top_alike s y a e h))
  settles (Recalled s holder is_recalled is) h = Remains h refl (same_within (ids_of s.live))
  settles (Grants s holder writes is taken) h = Remains h refl (same_within (ids_of s.live))
  settles (Ends s holder is_recalled left cause live end is leaving of kept) h = IsUnsettled refl
  settles (Resilvers s is) h = Remains h refl (same_within (ids_of s.live))
  settles (MakingTurns s all then x same k) h = settles k (record { top_is = h.top_is ∙ sym same; owner = same ∙ h.owner; phase = h.phase })
  settles (MakingDone s all is) h = IsMadeNow is (h.top_is ∙ h.owner) refl refl refl
  settles (FenceTurns s fence then x same k) h = settles k (record { top_is = h.top_is ∙ sym same; next = h.next; end = h.end; phase = h.phase })
  settles (FenceLoses s fence id cause x some k) h =
      let phase : (after_loss s id).phase ≡ Fencing h.next h.end = ap (λ (p : LayoutPhase). phase_without p (is_source id s.live)) h.phase in
      after_left n top s id x (entry.Left (file_id n) id cause) (not_fencing_making (after_loss s id).phase h.next h.end phase) (settles k (record { top_is = h.top_is; next = h.next; end = h.end; phase = phase }))
  settles (FenceDone s fence next Clean is same done) h = IsFencedNow [] s.cred (ids_of s.live) (free_entries (file_id n) Clean s.live) (h.top_is ∙ sym same) refl refl
  settles (FenceDone s fence next Dirty is same done) h = IsFencedNow [] s.cred (ids_of s.live) (free_entries (file_id n) Dirty s.live) (h.top_is ∙ sym same) refl refl
  settles (FenceDone s fence next Copied is same done) h = IsFencedNow [] s.cred (ids_of s.live) (free_entries (file_id n) Copied s.live) (h.top_is ∙ sym same) refl refl
  settles (SettleTurns s stage then x outs k) h = settles k h
  settles (SettleLoses s stage m live cause is some) h = Remains h refl (loses s m.id)
  settles (SettleFrees s stage copies is none by) h = Remains h refl (same_within (ids_of s.live))
  settles (CopyBegins s stage copies is some by) h = Remains h refl (same_within (ids_of s.live))
  settles (CopyTurns s c x k shown) h = settles k h
  settles (CopyLoses s c m live cause is some) h = Remains h refl (loses s m.id)
  settles (TargetLost s c id cause x other k) h =
      let settled : is_settled (after_loss s id).phase ≡ true = same_settled s.phase (is_source id s.live) ∙ h in
      after_left n top s id x (entry.Left (file_id n) id cause) (not_settled_making (after_loss s id).phase settled) (settles k settled)
  settles (CopyFrees s c by copies is over none) h = Remains h refl (same_within (ids_of s.live))
  settles (CopySwaps s c by copies is o targets over some) h = IsUnsettled refl
