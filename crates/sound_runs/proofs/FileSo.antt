-- What a file's view says by the file's phase, and what each entry of a turn has to be.
use Rattle.std.proofs.Common.{◌≡◌, ℕ, ◌<◌, ◌≤◌, ◌⊎◌, Bool, true, false, ◌&&◌, ◌||◌, eqb, cond, not, List, [], ◌∷◌, ◌++◌, filter, Option, Some, None, refl, ap, eq-eqb}
use Rattle.std.specs.List.{AllByRecursion}
use Rattle.cluster_model.specs.declared.ids.FileId.{FileId}
use Rattle.cluster_model.specs.declared.ids.NodeId.{NodeId}
use Rattle.cluster_model.specs.declared.ids.Cred.{Cred}
use Rattle.cluster_model.specs.declared.phase.LeftCause.{LeftCause}
use Rattle.cluster_model.specs.declared.ids.MirrorId.{MirrorId}
use Rattle.cluster_model.specs.declared.entry.Entry.{Entry}
use Rattle.cluster_model.specs.declared.entry.Entry.TheVariants as entry
use Rattle.cluster_model.specs.declared.layout_state.LayoutState.{LayoutState}
use Rattle.cluster_model.specs.declared.layout_state.LayoutPhase.{LayoutPhase}
use Rattle.cluster_model.specs.declared.layout_state.LayoutPhase.TheVariants.{Making, Free, Held, Fencing, Settling, Copying}
use Rattle.cluster_model.specs.declared.layout_state.FenceEnd.{FenceEnd}
use Rattle.cluster_model.specs.declared.layout_state.FenceEnd.TheVariants.{Clean, Dirty, Copied}
use Rattle.cluster_model.specs.declared.layout_state.CopyKind.{CopyKind}
use Rattle.cluster_model.specs.declared.layout_state.CopyKind.TheVariants.{Replacing, Adding}
use Rattle.cluster_model.specs.Journal.{is_mirror}
use Rattle.cluster_model.specs.Phases.{ids_of, is_clean}
use Rattle.cluster_laws.specs.Machine.{file_id}
use Rattle.cluster_laws.specs.FenceLaw.{is_file, is_among, swapped_in, first_free, changed_live, live_after}
use Rattle.sound_journals.specs.Views.{FileView, first_shown, view_after, view_by}
use Rattle.sound_journals.specs.Sound.{AllLive, IsFineList, IsFineLive, EndsPeriod, IsNotEndedClean, IsSentSoundly, IsEndedSoundly, IsOutOfReach}
use Rattle.cluster_laws.proofs.Invariant.{live_of}
use Rattle.sound_runs.proofs.FileTurns.{IsBlank, is_making}

-- ---- phases

-- the file is free, or nothing was granted of it since
pub record IsStillFree (v : FileView) : Type 0 where
  pub none : v.periods ≡ []
  pub base : List ℕ
  pub freed : v.base ≡ Some base

-- a period ended dirty, of a user below this one
pub record HasDirtyEnd (v : FileView) (next : ℕ) : Type 0 where
  pub uid : ℕ
  pub ends : EndsPeriod v uid false
  pub less : uid < next

-- and the live mirrors are out of its reach
pub record IsPastDirty (v : FileView) (next : ℕ) : Type 0 where
  pub dirty : HasDirtyEnd v next
  pub reach : AllLive v.live (λ m. dirty.uid < (v.copy m).owner)

abbrev pub IsEndSo : FileView → FenceEnd → ℕ → ℕ → Type 0
IsEndSo v Clean cred next = EndsPeriod v cred true
IsEndSo v Dirty cred next = EndsPeriod v cred false
IsEndSo v Copied cred next = IsStillFree v ⊎ HasDirtyEnd v next

abbrev pub IsCopySo : FileView → CopyKind → ℕ → Type 0
IsCopySo v Replacing cred = IsPastDirty v cred
IsCopySo v Adding cred = IsStillFree v

abbrev pub IsPhaseSo : FileView → LayoutPhase → ℕ → Type 0
IsPhaseSo v Making cred = v.base ≡ None
IsPhaseSo v Free cred = IsStillFree v
IsPhaseSo v (Held holder is_recalled) cred = (v.periods ≡ cred ∷ []) × (v.causes cred ≡ [])
IsPhaseSo v (Fencing next end) cred = (cred < next.0) × IsEndSo v end cred next.0
IsPhaseSo v (Settling copies) cred = IsCopySo v copies cred
IsPhaseSo v (Copying copier copies) cred = IsCopySo v copies cred

-- a user that the file was granted to is that of its period, or cannot reach a live mirror
abbrev pub CannotReach : FileView → ℕ → Type 0
CannotReach v u = AllLive v.live (λ m. u < (v.copy m).owner)

abbrev pub IsReached : FileView → List ℕ → Type 0
IsReached v users = AllByRecursion (λ u. (v.periods ≡ u ∷ []) ⊎ CannotReach v u) users

pub record IsFileSo (v : FileView) (users : List ℕ) (s : LayoutState) : Type 0 where
  pub live : v.live ≡ live_of s.phase (ids_of s.live)
  pub fine : IsFineLive v.live
  pub phase : IsPhaseSo v s.phase s.cred.0
  pub least : AllByRecursion (λ u. u ≤ s.cred.0) users
  pub reach : IsReached v users
  -- a new file was granted to nobody
  pub made : is_making s.phase ≡ true → users ≡ []

-- ---- entries

pub data IsFreedSo (v : FileView) (mirrors : List MirrorId) : Type 0 where
  FirstSo : v.base ≡ None → v.live ≡ None → IsFineList mirrors → IsFreedSo v mirrors
  AgainSo : IsStillFree v → IsFreedSo v mirrors
  CleanSo : (uid : ℕ) → EndsPeriod v uid true → IsFreedSo v mirrors
  DirtySo : (uid : ℕ) → EndsPeriod v uid false → CannotReach v uid → IsFreedSo v mirrors

abbrev pub IsEntrySo : FileView → Entry → Type 0
IsEntrySo v (entry.Free file mirrors) = IsFreedSo v mirrors
IsEntrySo v (entry.Granted file cred holder) = IsStillFree v × IsBlank v cred.0
IsEntrySo v (entry.Sent file cred at bytes) = IsSentSoundly v cred.0 at bytes
IsEntrySo v (entry.Rogue file cred at bytes) = IsNotEndedClean v cred.0
IsEntrySo v (entry.Ended file cred cause) = (v.causes cred.0 ≡ []) × IsEndedSoundly v cred.0 (is_clean cause)
IsEntrySo v (entry.Left file mirror cause) = IsFineLive (live_after file v.live (entry.Left file mirror cause))
IsEntrySo v (entry.Swapped file old new) = IsFineLive (live_after file v.live (entry.Swapped file old new)) × IsOutOfReach v new v.periods v.live
IsEntrySo v (entry.Owner mirror cred) = (v.copy mirror).owner ≤ cred.0
IsEntrySo v _ = Unit {0}

abbrev pub AreEntriesSo : FileId → FileView → List Entry → Type 0
AreEntriesSo f v [] = Unit {0}
AreEntriesSo f v (e ∷ entries) = IsEntrySo v e × AreEntriesSo f (view_after f v e) entries

pub entries_more : (f : FileId) (v : FileView) (a b : List Entry) → AreEntriesSo f v a → ((w : FileView) → w ≡ view_by f v a → AreEntriesSo f w b) → AreEntriesSo f v (a ++ b)
entries_more f v [] b h k = k v refl
entries_more f v (e ∷ a) b h k = (h.0, entries_more f (view_after f v e) a b h.1 k)

-- ---- a view behind an entry of its own file

pub own : (f : FileId) → is_file f f ≡ true
own f = eq-eqb f.0 f.0 refl

abbrev pub with_live : FileView → Option (List MirrorId) → FileView
with_live v live = record { base = v.base; periods = v.periods; live = live; copy = v.copy; marks = v.marks; sent = v.sent; rogue = v.rogue; causes = v.causes; layout = v.layout }

abbrev pub freed_view : FileView → List MirrorId → Bool → FileView
freed_view v mirrors b = record {
  base = cond b (Some (first_shown v.copy (cond b (first_free mirrors v.live) v.live))) v.base;
  periods = cond b [] v.periods;
  live = cond b (first_free mirrors v.live) v.live;
  copy = v.copy;
  marks = v.marks;
  sent = v.sent;
  rogue = v.rogue;
  causes = v.causes;
  layout = v.layout;
}

pub freed_is : (f : FileId) (v : FileView) (mirrors : List MirrorId) → view_after f v (entry.Free f mirrors) ≡ freed_view v mirrors true
freed_is f v mirrors = ap (freed_view v mirrors) (own f)

abbrev pub granted_view : FileView → ℕ → Bool → FileView
granted_view v uid b = record {
  base = v.base;
  periods = cond b (v.periods ++ uid ∷ []) v.periods;
  live = v.live;
  copy = v.copy;
  marks = v.marks;
  sent = v.sent;
  rogue = v.rogue;
  causes = v.causes;
  layout = λ u m. cond (b && eqb uid u) (is_among m v.live || v.layout u m) (v.layout u m);
}

pub granted_is : (f : FileId) (v : FileView) (cred : Cred) (holder : NodeId) → view_after f v (entry.Granted f cred holder) ≡ granted_view v cred.0 true
granted_is f v cred holder = ap (granted_view v cred.0) (own f)

abbrev pub without_mirror : Option (List MirrorId) → MirrorId → Option (List MirrorId)
without_mirror live id = changed_live (filter (λ m. not (is_mirror m id))) live

pub left_is : (f : FileId) (v : FileView) (id : MirrorId) (cause : LeftCause) → view_after f v (entry.Left f id cause) ≡ with_live v (without_mirror v.live id)
left_is f v id cause = ap (λ b. with_live v (cond b (without_mirror v.live id) v.live)) (own f)

pub swapped_is : (f : FileId) (v : FileView) (old : Option MirrorId) (new : MirrorId) → view_after f v (entry.Swapped f old new) ≡ with_live v (changed_live (swapped_in old new) v.live)
swapped_is f v old new = ap (λ b. with_live v (cond b (changed_live (swapped_in old new) v.live) v.live)) (own f)

-- ---- each entry, behind those before it

-- the file that an entry is of
abbrev pub file_in : Entry → FileId
file_in (entry.Free file mirrors) = file
file_in (entry.Granted file cred holder) = file
file_in (entry.Sent file cred at bytes) = file
file_in (entry.Rogue file cred at bytes) = file
file_in (entry.Ended file cred cause) = file
file_in (entry.Left file mirror cause) = file
file_in (entry.Swapped file old new) = file
file_in _ = file_id 0
