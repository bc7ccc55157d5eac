-- Which files have nothing to send, which ones a tick leaves as they are, and which places are marked as others.
use Rattle.std.specs.Prelude.{◌≡◌, ℕ, ◌+◌, ◌<◌, ◌≤◌, ◌%◌, ◌^◌, Bool, false, IsTrue, List, length, Option, Some, None, slice_get}
use Rattle.std.specs.List.{list_any}
use Rattle.std.specs.Ordering.{nat_cmp}
use Rattle.std.specs.BTreeMap.{is_at}
use Rattle.cluster_model.specs.declared.ids.FileId.{FileId}
use Rattle.cluster_model.specs.Phases.{holder_of}
use Rattle.file_rule.specs.FilePhases.{ticked}
use Rattle.mds_activity.specs.FileCalls.{kept_out}
use Rattle.mds_rule.specs.MdsStates.{ServedFile, served_in}
use Rattle.mds_rule.specs.ServedFiles.{sizes_in, kept_holder}
use Rattle.served_files.specs.Sending.{OwnWaits, ReadWaits}

-- neither an own call of it waits to go out nor one of its READs, whatever number the call would have
pub record IsFileQuiet (s : ServedFile) : Type 0 where
  pub own : (file : FileId) (xid : ℕ) → OwnWaits s file xid None
  pub reads : (n xid : ℕ) → ReadWaits s n xid None

-- a tick leaves it as it is, and it keeps no call until one
pub record IsFileStill (s : ServedFile) : Type 0 where
  pub kept : kept_out s.file ≡ None
  pub activity : ticked s.file.activity ≡ s.file.activity
  pub sizes : sizes_in s.file.layout s.file.layout.phase s.sizes ≡ s.sizes
  pub periods : s.periods % (2 ^ 64) ≡ s.periods
  pub holder : kept_holder (holder_of s.file.layout.phase) s.holder ≡ s.holder

-- each file with a number from the first on and below the second is so
abbrev pub AreAll : (ServedFile → Type 0) → List ServedFile → ℕ → ℕ → Type 0
AreAll P files from end = (file : FileId) (s : ServedFile) → from ≤ file.0 → file.0 < end → served_in files file ≡ Some s → P s

abbrev pub AreQuiet : List ServedFile → ℕ → ℕ → Type 0
AreQuiet files from end = AreAll IsFileQuiet files from end

abbrev pub AreStill : List ServedFile → ℕ → ℕ → Type 0
AreStill files from end = AreAll IsFileStill files from end

-- the next file from a number on that may be otherwise: all before it are so, and where there is none, all behind
abbrev pub NextBut : (ServedFile → Type 0) → List ServedFile → ℕ → Option FileId → Type 0
NextBut P files from None = AreAll P files from (length files + 1)
NextBut P files from (Some file) = (from ≤ file.0) × (file.0 ≤ length files) × AreAll P files from file.0

-- that may have a call to send
abbrev pub NextDue : List ServedFile → ℕ → Option FileId → Type 0
NextDue files from next = NextBut IsFileQuiet files from next

-- that a tick may change
abbrev pub NextRestless : List ServedFile → ℕ → Option FileId → Type 0
NextRestless files from next = NextBut IsFileStill files from next

-- ---- the places that are marked

abbrev pub is_marked : List ℕ → ℕ → Bool
is_marked marked place = list_any (is_at (nat_cmp place)) marked

-- each file whose place is not marked is so
abbrev pub AreAllBut : (ServedFile → Type 0) → List ℕ → List ServedFile → Type 0
AreAllBut P marked files = (place : ℕ) (s : ServedFile) → slice_get files place ≡ Some s → is_marked marked place ≡ false → P s

abbrev pub AreQuietBut : List ℕ → List ServedFile → Type 0
AreQuietBut due files = AreAllBut IsFileQuiet due files

abbrev pub AreStillBut : List ℕ → List ServedFile → Type 0
AreStillBut restless files = AreAllBut IsFileStill restless files

-- the first place from one on that is marked
pub record IsFirstMarked (marked : List ℕ) (from place : ℕ) : Type 0 where
  pub behind : from ≤ place
  pub there : IsTrue (is_marked marked place)
  pub least : (p : ℕ) → from ≤ p → IsTrue (is_marked marked p) → place ≤ p

abbrev pub FirstMarked : List ℕ → ℕ → Option ℕ → Type 0
FirstMarked marked from None = (p : ℕ) → from ≤ p → is_marked marked p ≡ false
FirstMarked marked from (Some place) = IsFirstMarked marked from place
