-- Which steps of a file grant it.
use Rattle.std.proofs.Common.{◌≡◌, ℕ, Bool, true, false, List, [], ◌∷◌, ◌++◌, None, refl, sym, ap, subst, ◌∙◌, inl, inr, ◌⊎◌}
use Rattle.std.specs.List.{AllByRecursion}
use Rattle.cluster_model.specs.declared.ids.NodeId.{NodeId}
use Rattle.cluster_model.specs.declared.phase.EndCause.{EndCause}
use Rattle.cluster_model.specs.declared.entry.Entry.{Entry}
use Rattle.cluster_model.specs.declared.entry.Entry.TheVariants as entry
use Rattle.cluster_model.specs.declared.layout_state.LayoutState.{LayoutState}
use Rattle.cluster_model.specs.declared.layout_state.LayoutPhase.{LayoutPhase}
use Rattle.cluster_model.specs.declared.layout_state.LayoutPhase.TheVariants.{Free, Held}
use Rattle.cluster_model.specs.Phases.{ids_of}
use Rattle.file_rule.specs.declared.fresh.Fresh.{Fresh}
use Rattle.file_rule.specs.MdsFiles.{Activity, FileStep}
use Rattle.file_rule.specs.FilePhases.{FileInput}
use Rattle.cluster_laws.specs.Machine.{file_id}
use Rattle.cluster_laws.proofs.Lists.{all_append, all_more}
use Rattle.machine_walk.proofs.StepKinds.{copy_turned, IsAlike, IsLeaving, OneLeft, OneTold, IsTakenWith, StepKind, Rests, Learnt, Recalled, Grants, Ends, Resilvers, MakingTurns, MakingDone, FenceTurns, FenceLoses, FenceDone, SettleTurns, SettleLoses, SettleFrees, CopyBegins, CopyTurns, CopyLoses, TargetLost, CopyFrees, CopySwaps}
use Rattle.machine_walk.proofs.Writers.{IsSilent, has_calls, leaving_silent, free_silent, swapped_silent, busy_silent}

-- the step grants the file, which was free, and its mirrors stay
pub record GrantsFile (n : ℕ) (s : LayoutState) (x : FileStep) : Type 0 where
  pub holder : NodeId
  pub writes : List Entry
  pub taken : IsTakenWith n s.cred writes
  pub phase : s.phase ≡ Free
  pub is : x.entries ≡ entry.Granted (file_id n) s.cred holder ∷ writes
  pub live : ids_of x.file.layout.live ≡ ids_of s.live
  pub held : x.file.layout.phase ≡ Held holder false
  pub cred : x.file.layout.cred ≡ s.cred

module _ (n : ℕ) (fresh : Fresh) (input : FileInput) where
  pub grants_or : {s : LayoutState} {a : Activity} {x : FileStep} → StepKind n fresh input s a x → GrantsFile n s x ⊎ AllByRecursion IsSilent x.entries
  grants_or (Rests s a) = inr tt
  grants_or (Learnt s t a x e k) =
      elim (grants_or k) [
        | inl g ↦ inl (record { holder = g.holder; writes = g.writes; taken = subst (λ c. IsTakenWith n c g.writes) e.cred g.taken; phase = sym e.phase ∙ g.phase; is = g.is ∙ ap (λ c. entry.Granted (file_id n) c g.holder ∷ g.writes) e.cred; live = g.live ∙ e.ids; held = g.held; cred = g.cred ∙ e.cred })
        | inr silent ↦ inr silent
      ]
  grants_or (Recalled s holder is_recalled is) = inr tt
  grants_or (Grants s holder writes is taken) = inl (record { holder = holder; writes = writes; taken = taken; phase = is; is = refl; live = refl; held = refl; cred = refl })
  grants_or (Ends s holder is_recalled left cause live end is leaving of kept) =
      inr (all_append IsSilent left (entry.Ended (file_id n) s.cred cause ∷ []) (all_more (IsLeaving n) IsSilent left (leaving_silent n) leaving) (record { grant = refl; writer = refl; applied = refl }, tt))
  grants_or (Resilvers s is) = inr tt
  grants_or (MakingTurns s all then x same k) = inr (busy_silent n fresh input k refl)
  grants_or (MakingDone s all is) = inr (record { grant = refl; writer = refl; applied = refl }, tt)
  grants_or (FenceTurns s fence then x same k) = inr (busy_silent n fresh input k refl)
  grants_or (FenceLoses s fence id cause x some k) = inr (record { grant = refl; writer = refl; applied = refl }, busy_silent n fresh input k refl)
  grants_or (FenceDone s fence next end is same done) = inr (record { grant = refl; writer = refl; applied = refl }, free_silent n end s.live)
  grants_or (SettleTurns s stage then x outs k) = inr (busy_silent n fresh input k refl)
  grants_or (SettleLoses s stage m live cause is some) = inr (record { grant = refl; writer = refl; applied = refl }, tt)
  grants_or (SettleFrees s stage copies is none by) = inr (record { grant = refl; writer = refl; applied = refl }, tt)
  grants_or (CopyBegins s stage copies is some by) = inr tt
  grants_or (CopyTurns s c x k shown) = inr (busy_silent n fresh input k refl)
  grants_or (CopyLoses s c m live cause is some) = inr (record { grant = refl; writer = refl; applied = refl }, tt)
  grants_or (TargetLost s c id cause x other k) = inr (record { grant = refl; writer = refl; applied = refl }, busy_silent n fresh input k refl)
  grants_or (CopyFrees s c by copies is over none) = inr (record { grant = refl; writer = refl; applied = refl }, tt)
  grants_or (CopySwaps s c by copies is o targets over some) = inr (swapped_silent n (o ∷ targets))

-- ---- a file that is held

-- it is held on, as it is, or its period is entered as ended
pub data HeldStep (n : ℕ) (s : LayoutState) (x : FileStep) : Type 0 where
  GoesOnHeld : (node : NodeId) (is_recalled : Bool) → x.file.layout.phase ≡ Held node is_recalled → x.file.layout.cred ≡ s.cred → ids_of x.file.layout.live ≡ ids_of s.live → HeldStep n s x
  EntersItsEnd : (front : List Entry) (cause : EndCause) (rest : List Entry) → x.entries ≡ front ++ entry.Ended (file_id n) s.cred cause ∷ rest → HeldStep n s x

module _ (n : ℕ) (fresh : Fresh) (input : FileInput) where
  held_alike : (s y : LayoutState) (x : FileStep) → IsAlike s y → HeldStep n y x → HeldStep n s x
  held_alike s y x e (GoesOnHeld node is_recalled phase cred ids) = GoesOnHeld node is_recalled phase (cred ∙ e.cred) (ids ∙ e.ids)
  held_alike s y x e (EntersItsEnd front cause rest is) = EntersItsEnd front cause rest (is ∙ ap (λ c. front ++ entry.Ended (file_id n) c cause ∷ rest) e.cred)

  not_free : (node : NodeId) (is_recalled : Bool) (phase : LayoutPhase) → phase ≡ Held node is_recalled → phase ≡ Free → ⊥
  not_free node is_recalled phase held free = let wrong : Free ≡ Held node is_recalled = sym free ∙ held in absurd cc

  pub held_or_ended : {s : LayoutState} {a : Activity} {x : FileStep} → StepKind n fresh input s a x → has_calls a ≡ false → (node : NodeId) (is_recalled : Bool) → s.phase ≡ Held node is_recalled → HeldStep n s x
  held_or_ended (Rests s a) idle node is_recalled held = GoesOnHeld node is_recalled held refl refl
  held_or_ended (Learnt s t a x e k) idle node is_recalled held = held_alike s t x e (held_or_ended k idle node is_recalled (e.phase ∙ held))
  held_or_ended (Recalled s holder was is) idle node is_recalled held = GoesOnHeld holder true refl refl refl
  held_or_ended (Grants s holder writes is taken) idle node is_recalled held = absurd (not_free node is_recalled s.phase held is)
  held_or_ended (Ends s holder was left cause live end is leaving of kept) idle node is_recalled held = EntersItsEnd left cause [] refl
  held_or_ended (Resilvers s is) idle node is_recalled held = absurd (not_free node is_recalled s.phase held is)
  held_or_ended (MakingTurns s all then x same k) idle node is_recalled held = absurd cc
  held_or_ended (MakingDone s all is) idle node is_recalled held = absurd cc
  held_or_ended (FenceTurns s fence then x same k) idle node is_recalled held = absurd cc
  held_or_ended (FenceLoses s fence id cause x some k) idle node is_recalled held = absurd cc
  held_or_ended (FenceDone s fence next end is same done) idle node is_recalled held = absurd cc
  held_or_ended (SettleTurns s stage then x outs k) idle node is_recalled held = absurd cc
  held_or_ended (SettleLoses s stage m live cause is some) idle node is_recalled held = absurd cc
  held_or_ended (SettleFrees s stage copies is none by) idle node is_recalled held = absurd cc
  held_or_ended (CopyBegins s stage copies is some by) idle node is_recalled held = absurd cc
  held_or_ended (CopyTurns s c x k shown) idle node is_recalled held = absurd cc
  held_or_ended (CopyLoses s c m live cause is some) idle node is_recalled held = absurd cc
  held_or_ended (TargetLost s c id cause x other k) idle node is_recalled held = absurd cc
  held_or_ended (CopyFrees s c by copies is over none) idle node is_recalled held = absurd cc
  held_or_ended (CopySwaps s c by copies is o targets over some) idle node is_recalled held = absurd cc
