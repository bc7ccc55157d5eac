-- Every step of the table of phases as a turn of one file: what becomes of its layout, and which entries stand for it.
use Rattle.std.proofs.Common.{◌≡◌, ℕ, ◌<◌, ◌≤◌, Bool, true, false, List, [], ◌∷◌, ◌++◌, length, map, Option, Some, None, is_some}
use Rattle.std.specs.List.{AllByRecursion}
use Rattle.cluster_model.specs.declared.ids.NodeId.{NodeId}
use Rattle.cluster_model.specs.declared.ids.Cred.{Cred}
use Rattle.cluster_model.specs.declared.ids.MirrorId.{MirrorId}
use Rattle.cluster_model.specs.declared.ids.Mirror.{Mirror}
use Rattle.cluster_model.specs.declared.phase.EndCause.{EndCause}
use Rattle.cluster_model.specs.declared.phase.LeftCause.{LeftCause}
use Rattle.cluster_model.specs.declared.entry.Entry.{Entry}
use Rattle.cluster_model.specs.declared.entry.Entry.TheVariants as entry
use Rattle.cluster_model.specs.declared.layout_state.LayoutState.{LayoutState}
use Rattle.cluster_model.specs.declared.layout_state.LayoutPhase.{LayoutPhase}
use Rattle.cluster_model.specs.declared.layout_state.LayoutPhase.TheVariants.{Making, Free, Held, Fencing, Settling, Copying}
use Rattle.cluster_model.specs.declared.layout_state.FenceEnd.{FenceEnd}
use Rattle.cluster_model.specs.declared.layout_state.FenceEnd.TheVariants.{Clean, Dirty, Copied}
use Rattle.cluster_model.specs.declared.layout_state.CopyKind.{CopyKind}
use Rattle.cluster_model.specs.declared.layout_state.CopyKind.TheVariants.{Adding}
use Rattle.cluster_model.specs.declared.targets.SwappedIn.{SwappedIn}
use Rattle.cluster_model.specs.Phases.{ids_of, unreported, left_entries, is_last_live, is_source, is_clean, with_phase, after_loss, fencing, free_with, phase_fenced, free_entries, with_targets, swapped_entries}
use Rattle.file_rule.specs.MdsFiles.{a_uid}
use Rattle.cluster_laws.specs.Machine.{file_id}
use Rattle.cluster_laws.specs.Holders.{IsIn}
use Rattle.sound_journals.specs.Views.{FileView, view_after}
use Rattle.cluster_model.specs.Mirrors.{are_on_different_servers}
use Rattle.cluster_laws.proofs.Invariant.{is_idle}

-- the same file but for the ctimes that were seen at its mirrors
pub record IsAlike (s t : LayoutState) : Type 0 where
  pub wanted : t.wanted ≡ s.wanted
  pub cred : t.cred ≡ s.cred
  pub phase : t.phase ≡ s.phase
  pub ids : ids_of t.live ≡ ids_of s.live

-- nothing was noted of a user
pub record IsBlank (v : FileView) (uid : ℕ) : Type 0 where
  pub sent : v.sent uid ≡ []
  pub rogue : v.rogue uid ≡ []
  pub causes : v.causes uid ≡ []

-- a grant to a client, or to the metadata server with the write that it is for
pub data IsGrantWith (n : ℕ) (cred : Cred) : List Entry → Type 0 where
  NoWrite : IsGrantWith n cred []
  OneWrite : (at : ℕ) (bytes : List ℕ) → 0 < length bytes → IsGrantWith n cred (entry.Sent (file_id n) cred at bytes ∷ [])

-- none is told at the end, or one write
pub data IsToldWith (n : ℕ) (cred : Cred) : List Entry → Type 0 where
  NoneTold : IsToldWith n cred []
  OneTold : (at : ℕ) (bytes : List ℕ) → IsToldWith n cred (entry.Told (file_id n) cred at bytes ∷ [])

-- none strayed, and each write is covered at these mirrors
pub record IsCoveredAt (v : FileView) (uid : ℕ) (ids : List MirrorId) : Type 0 where
  pub rogue : v.rogue uid ≡ []
  pub covered : AllByRecursion (λ id. AllByRecursion (λ w. IsIn w (v.marks uid id).covered) (v.sent uid)) ids

-- a target that comes in: on the server of the mirror that it replaces, and out of reach of users below the copy's
abbrev pub IsOnServerOf : Option MirrorId → MirrorId → Type 0
IsOnServerOf None new = Unit {0}
IsOnServerOf (Some old) new = old.server ≡ new.server

pub record IsGoodTarget (v : FileView) (copier : ℕ) (t : SwappedIn) : Type 0 where
  pub on : IsOnServerOf t.old t.new.id
  pub owner : copier ≤ (v.copy t.new.id).owner

-- a copy of this kind, or what precedes it
pub data IsCopyPhase (copies : CopyKind) : LayoutPhase → Type 0 where
  Settles : IsCopyPhase copies (Settling copies)
  Copies : (copier : Cred) → IsCopyPhase copies (Copying copier copies)

abbrev pub is_making : LayoutPhase → Bool
is_making Making = true
is_making Free = false
is_making (Held holder is_recalled) = false
is_making (Fencing next end) = false
is_making (Settling copies) = false
is_making (Copying copier copies) = false

-- no mirror is lost that is the last one
pub data MayLeave (live : List Mirror) (id : MirrorId) : Type 0 where
  NotLast : is_last_live live ≡ false → MayLeave live id
  NotFirst : is_source id live ≡ false → MayLeave live id

pub data FileTurn (n uid : ℕ) : FileView → LayoutState → LayoutState → List Entry → Type 0 where
  Rests : (v : FileView) (s : LayoutState) → FileTurn n uid v s s []
  Learnt : (v : FileView) (s t x : LayoutState) (entries : List Entry) → IsAlike s t → FileTurn n uid v t x entries → FileTurn n uid v s x entries
  Recalled : (v : FileView) (s : LayoutState) (holder : NodeId) (is_recalled : Bool) → s.phase ≡ Held holder is_recalled → FileTurn n uid v s (with_phase s (Held holder true)) []
  Grants : (v : FileView) (s : LayoutState) (holder : NodeId) (writes : List Entry) → s.phase ≡ Free → IsBlank v s.cred.0 → IsGrantWith n s.cred writes
      → FileTurn n uid v s (with_phase s (Held holder false)) (entry.Granted (file_id n) s.cred holder ∷ writes)
  EndsDirty : (v : FileView) (s : LayoutState) (holder : NodeId) (is_recalled : Bool) (cause : EndCause) → s.phase ≡ Held holder is_recalled → is_clean cause ≡ false → s.cred.0 < uid
      → FileTurn n uid v s (fencing s s.live Dirty (a_uid uid)) (entry.Ended (file_id n) s.cred cause ∷ [])
  EndsClean : (v : FileView) (s : LayoutState) (holder : NodeId) (is_recalled : Bool) (causes : List (Option LeftCause)) (m : Mirror) (kept : List Mirror) (told : List Entry) (cause : EndCause) → s.phase ≡ Held holder is_recalled
      → unreported (map is_some causes) s.live ≡ m ∷ kept → IsToldWith n s.cred told → is_clean cause ≡ true → IsCoveredAt v s.cred.0 (ids_of (m ∷ kept)) → are_on_different_servers s.live ≡ true → s.cred.0 < uid
      → FileTurn n uid v s (fencing s (m ∷ kept) Clean (a_uid uid)) (left_entries (file_id n) causes s.live ++ (told ++ entry.Ended (file_id n) s.cred cause ∷ []))
  Resilvers : (v : FileView) (s : LayoutState) → s.phase ≡ Free → FileTurn n uid v s (with_phase s (Settling Adding)) []
  Makes : (v : FileView) (s : LayoutState) (live : List Mirror) → s.phase ≡ Making → are_on_different_servers live ≡ true → 0 < length (ids_of live)
      → FileTurn n uid v s (free_with s live) (entry.Free (file_id n) (ids_of live) ∷ [])
  Loses : (v : FileView) (s : LayoutState) (id : MirrorId) (cause : LeftCause) (x : LayoutState) (entries : List Entry) → MayLeave s.live id → is_idle s.phase ≡ false → is_making s.phase ≡ false
      → FileTurn n uid (view_after (file_id n) v (entry.Left (file_id n) id cause)) (after_loss s id) x entries → FileTurn n uid v s x (entry.Left (file_id n) id cause ∷ entries)
  FenceDone : (v : FileView) (s : LayoutState) (next : Cred) (end : FenceEnd) → s.phase ≡ Fencing next end → AllByRecursion (λ id. (v.copy id).owner ≡ next.0) (ids_of s.live)
      → FileTurn n uid v s (record { wanted = s.wanted; cred = next; live = s.live; phase = phase_fenced end }) (entry.Fenced (file_id n) s.cred next (ids_of s.live) ∷ free_entries (file_id n) end s.live)
  Frees : (v : FileView) (s : LayoutState) (copies : CopyKind) → IsCopyPhase copies s.phase → FileTurn n uid v s (with_phase s Free) (entry.Free (file_id n) (ids_of s.live) ∷ [])
  CopyBegins : (v : FileView) (s : LayoutState) (copies : CopyKind) (copier : Cred) → s.phase ≡ Settling copies → FileTurn n uid v s (with_phase s (Copying copier copies)) []
  CopySwaps : (v : FileView) (s : LayoutState) (copier : Cred) (copies : CopyKind) (by : ℕ) (t : SwappedIn) (targets : List SwappedIn) → s.phase ≡ Copying copier copies → s.cred.0 < by → by < uid
      → AllByRecursion (IsGoodTarget v by) (t ∷ targets) → are_on_different_servers (with_targets (t ∷ targets) s.live) ≡ true
      → FileTurn n uid v s (record { wanted = s.wanted; cred = a_uid by; live = with_targets (t ∷ targets) s.live; phase = Fencing (a_uid uid) Copied }) (swapped_entries (file_id n) (t ∷ targets))
