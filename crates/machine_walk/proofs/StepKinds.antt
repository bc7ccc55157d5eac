-- Every step of the table of phases, as one of a few kinds of small steps: what becomes of the file, and which entries stand for it.
use Rattle.std.proofs.Common.{Some, None, ◌≡◌, ℕ, Bool, true, false, List, [], ◌∷◌, ◌++◌, length, Option, ◌⊎◌}
use Rattle.std.specs.List.{AllByRecursion}
use Rattle.cluster_model.specs.declared.ids.NodeId.{NodeId}
use Rattle.cluster_model.specs.declared.ids.Cred.{Cred}
use Rattle.cluster_model.specs.declared.ids.MirrorId.{MirrorId}
use Rattle.cluster_model.specs.declared.ids.Mirror.{Mirror}
use Rattle.cluster_model.specs.declared.phase.EndCause.{EndCause}
use Rattle.cluster_model.specs.declared.phase.LeftCause.{LeftCause}
use Rattle.cluster_model.specs.declared.entry.Entry.{Entry}
use Rattle.cluster_model.specs.declared.entry.Entry.TheVariants as entry
use Rattle.cluster_model.specs.declared.ds_call.Shown.{Shown}
use Rattle.cluster_model.specs.declared.call_stage.CallStage.{CallStage}
use Rattle.cluster_model.specs.declared.call_stage.CallStage.TheVariants.{Waits}
use Rattle.cluster_model.specs.declared.layout_state.LayoutState.{LayoutState}
use Rattle.cluster_model.specs.declared.layout_state.LayoutPhase.TheVariants.{Making, Free, Held, Fencing, Settling, Copying}
use Rattle.cluster_model.specs.declared.layout_state.FenceEnd.{FenceEnd}
use Rattle.cluster_model.specs.declared.layout_state.FenceEnd.TheVariants.{Clean, Dirty, Copied}
use Rattle.cluster_model.specs.declared.layout_state.CopyKind.{CopyKind}
use Rattle.cluster_model.specs.declared.layout_state.CopyKind.TheVariants.{Adding}
use Rattle.cluster_model.specs.declared.targets.SwappedIn.{SwappedIn}
use Rattle.cluster_model.specs.DsCalls.{Committed}
use Rattle.cluster_model.specs.Fences.{is_out, FenceState, fence_of, is_done}
use Rattle.cluster_model.specs.Phases.{ids_of, unreported, is_last_live, is_source, is_clean, with_phase, after_loss, fencing, phase_fenced, free_entries, freed, made, has_targets, copied}
use Rattle.copy_rule.specs.Copies.{CopyState, CopyAfter, swaps_of, has_outcome, on_reply, on_timeout, after_tick}
use Rattle.copy_rule.specs.declared.copy_target.CopyStep.{CopyStep}
use Rattle.copy_rule.specs.declared.copy_target.CopyStep.TheVariants.{Waiting, TargetFailed}
use Rattle.file_rule.specs.MdsFiles.{Creations, Activity, Idle, Makes, Fences, Settles, Copies, FileStep, stays, a_uid, goes_idle, goes_fencing, goes_on, with_entries, all_made, plan_of, copying}
use Rattle.file_rule.specs.declared.fresh.Fresh.{Fresh}
use Rattle.file_rule.specs.FilePhases.{FileInput, Answers, TimesOut, Ticks}
use Rattle.cluster_laws.specs.Machine.{file_id}

-- the same file but for the ctimes that were seen at its mirrors
pub record IsAlike (s t : LayoutState) : Type 0 where
  pub wanted : t.wanted ≡ s.wanted
  pub cred : t.cred ≡ s.cred
  pub phase : t.phase ≡ s.phase
  pub ids : ids_of t.live ≡ ids_of s.live

-- what stands between a grant and its end
pub data IsLeaving (n : ℕ) : Entry → Type 0 where
  OneLeft : (id : MirrorId) (cause : LeftCause) → IsLeaving n (entry.Left (file_id n) id cause)
  OneTold : (cred : Cred) (at : ℕ) (bytes : List ℕ) → IsLeaving n (entry.Told (file_id n) cred at bytes)

-- a grant to a client, or to the metadata server with the write that it is for
pub data IsTakenWith (n : ℕ) (cred : Cred) : List Entry → Type 0 where
  NoWrite : IsTakenWith n cred []
  OneWrite : (at : ℕ) (bytes : List ℕ) → IsTakenWith n cred (entry.Sent (file_id n) cred at bytes ∷ [])

-- the end of a period
abbrev pub IsEndOf : FenceEnd → EndCause → Type 0
IsEndOf Clean cause = is_clean cause ≡ true
IsEndOf Dirty cause = Unit {0}
IsEndOf Copied cause = ⊥

-- what an input comes to in a copy
abbrev pub copy_turned : FileInput → CopyState → CopyAfter
copy_turned (Answers xid reply) c = on_reply c xid reply
copy_turned (TimesOut xid) c = on_timeout c xid
copy_turned Ticks c = record { copy = after_tick c; step = Waiting }
copy_turned _ c = record { copy = c; step = Waiting }

-- the mirror that a target was to replace, where the target was given up; and that it leaves first
abbrev pub lost_by : CopyStep → Option MirrorId
lost_by (TargetFailed server replaced cause) = replaced
lost_by _ = None

abbrev pub BeginsWithLoss : MirrorId → List Entry → Type 0
BeginsWithLoss id (entry.Left file gone cause ∷ entries) = gone ≡ id
BeginsWithLoss id _ = ⊥

-- the COMMIT of the source was answered
pub record IsSettledBy (input : FileInput) (stage : CallStage) : Type 0 where
  pub xid : ℕ
  pub shown : Option Shown
  pub verifier : ℕ
  pub answers : input ≡ Answers xid (Committed shown verifier)
  pub out : is_out xid stage ≡ true

pub data StepKind (n : ℕ) (fresh : Fresh) (input : FileInput) : LayoutState → Activity → FileStep → Type 0 where
  Rests : (s : LayoutState) (a : Activity) → StepKind n fresh input s a (stays s a)
  Learnt : (s t : LayoutState) (a : Activity) (x : FileStep) → IsAlike s t → StepKind n fresh input t a x → StepKind n fresh input s a x
  -- Free and Held
  Recalled : (s : LayoutState) (holder : NodeId) (is_recalled : Bool) → s.phase ≡ Held holder is_recalled → StepKind n fresh input s Idle (stays (with_phase s (Held holder true)) Idle)
  Grants : (s : LayoutState) (holder : NodeId) (writes : List Entry) → s.phase ≡ Free → IsTakenWith n s.cred writes
      → StepKind n fresh input s Idle (record { file = record { layout = with_phase s (Held holder false); activity = Idle }; entries = entry.Granted (file_id n) s.cred holder ∷ writes; uids = 0; names = 0 })
  Ends : (s : LayoutState) (holder : NodeId) (is_recalled : Bool) (left : List Entry) (cause : EndCause) (live : List Mirror) (end : FenceEnd) → s.phase ≡ Held holder is_recalled → AllByRecursion (IsLeaving n) left
      → IsEndOf end cause → (live ≡ s.live) ⊎ ((places : List Bool) × (live ≡ unreported places s.live))
      → StepKind n fresh input s Idle (record { file = record { layout = fencing s live end (a_uid fresh.uid); activity = Fences (fence_of live fresh.uid) }; entries = left ++ entry.Ended (file_id n) s.cred cause ∷ []; uids = 1; names = 0 })
  Resilvers : (s : LayoutState) → s.phase ≡ Free → StepKind n fresh input s Idle (stays (with_phase s (Settling Adding)) (Settles Waits))
  -- Making
  MakingTurns : (s : LayoutState) (all then : Creations) (x : FileStep) → then.owner ≡ all.owner → StepKind n fresh input s (Makes then) x → StepKind n fresh input s (Makes all) x
  MakingDone : (s : LayoutState) (all : Creations) → s.phase ≡ Making → StepKind n fresh input s (Makes all) (goes_idle (made (file_id n) s (all_made all)) 0)
  -- Fencing
  FenceTurns : (s : LayoutState) (fence then : FenceState) (x : FileStep) → then.cred ≡ fence.cred → StepKind n fresh input s (Fences then) x → StepKind n fresh input s (Fences fence) x
  FenceLoses : (s : LayoutState) (fence : FenceState) (id : MirrorId) (cause : LeftCause) (x : FileStep) → is_last_live s.live ≡ false → StepKind n fresh input (after_loss s id) (Fences fence) x
      → StepKind n fresh input s (Fences fence) (with_entries (entry.Left (file_id n) id cause ∷ []) x)
  FenceDone : (s : LayoutState) (fence : FenceState) (next : Cred) (end : FenceEnd) → s.phase ≡ Fencing next end → next.0 ≡ fence.cred → is_done fence ≡ true
      → StepKind n fresh input s (Fences fence) (goes_on (record { file = record { wanted = s.wanted; cred = next; live = s.live; phase = phase_fenced end }; entries = entry.Fenced (file_id n) s.cred next (ids_of s.live) ∷ free_entries (file_id n) end s.live }))
  -- Settling
  SettleTurns : (s : LayoutState) (stage then : CallStage) (x : FileStep) → ((xid : ℕ) → is_out xid then ≡ true → is_out xid stage ≡ true) → StepKind n fresh input s (Settles then) x → StepKind n fresh input s (Settles stage) x
  SettleLoses : (s : LayoutState) (stage : CallStage) (m : Mirror) (live : List Mirror) (cause : LeftCause) → s.live ≡ m ∷ live → is_last_live s.live ≡ false
      → StepKind n fresh input s (Settles stage) (record { file = record { layout = after_loss s m.id; activity = Settles Waits }; entries = entry.Left (file_id n) m.id cause ∷ []; uids = 0; names = 0 })
  SettleFrees : (s : LayoutState) (stage : CallStage) (copies : CopyKind) → s.phase ≡ Settling copies → has_targets copies (length s.live) s.wanted ≡ false → IsSettledBy input stage
      → StepKind n fresh input s (Settles stage) (goes_idle (freed (file_id n) s) 0)
  CopyBegins : (s : LayoutState) (stage : CallStage) (copies : CopyKind) → s.phase ≡ Settling copies → has_targets copies (length s.live) s.wanted ≡ true → IsSettledBy input stage
      → StepKind n fresh input s (Settles stage) (copying (with_phase s (Copying (a_uid fresh.uid) copies)) fresh (plan_of copies s fresh))
  -- Copying
  CopyTurns : (s : LayoutState) (c : CopyState) (x : FileStep) → StepKind n fresh input s (Copies (copy_turned input c).copy) x → ((id : MirrorId) → lost_by (copy_turned input c).step ≡ Some id → BeginsWithLoss id x.entries) → StepKind n fresh input s (Copies c) x
  CopyLoses : (s : LayoutState) (c : CopyState) (m : Mirror) (live : List Mirror) (cause : LeftCause) → s.live ≡ m ∷ live → is_last_live s.live ≡ false
      → StepKind n fresh input s (Copies c) (record { file = record { layout = after_loss s m.id; activity = Settles Waits }; entries = entry.Left (file_id n) m.id cause ∷ []; uids = 0; names = 0 })
  TargetLost : (s : LayoutState) (c : CopyState) (id : MirrorId) (cause : LeftCause) (x : FileStep) → is_source id s.live ≡ false → StepKind n fresh input (after_loss s id) (Copies c) x
      → StepKind n fresh input s (Copies c) (with_entries (entry.Left (file_id n) id cause ∷ []) x)
  CopyFrees : (s : LayoutState) (c : CopyState) (by : Cred) (copies : CopyKind) → s.phase ≡ Copying by copies → has_outcome c ≡ true → swaps_of c ≡ [] → StepKind n fresh input s (Copies c) (goes_idle (freed (file_id n) s) 0)
  CopySwaps : (s : LayoutState) (c : CopyState) (by : Cred) (copies : CopyKind) → s.phase ≡ Copying by copies → (t : SwappedIn) (targets : List SwappedIn) → has_outcome c ≡ true → swaps_of c ≡ t ∷ targets
      → StepKind n fresh input s (Copies c) (goes_fencing (copied (file_id n) s (a_uid c.copier) (t ∷ targets) (a_uid fresh.uid)) fresh.uid)
