-- A disk: what a read gives, and what a crash may leave.
--
-- Between two syncs each range that was written, and all past the old end, may hold any bytes after a crash. What a sync has taken is what
-- a crash leaves until more is written.
use Rattle.std.specs.Prelude.{⊤, ◌≡◌, ◌⊎◌, ℕ, ◌+◌, ◌-◌, ◌<◌, ◌≤◌, min, max, List, [], ◌∷◌, ◌++◌, length, take, drop, replicate, Option, Some, None, Result, Ok, Err}
use Rattle.std.specs.List.{AllByRecursion}
use Rattle.cluster_model.specs.Content.{overlay}
use Rattle.rpc_record.specs.declared.stream.Failed.{Failed}
use Rattle.rpc_record.specs.declared.stream.Failed.TheVariants.{Fault, NoMemory}

-- ---- what a crash makes of one change

-- of a write of so many bytes at a place: any bytes in that range and past the old end, as far as the write goes; all else as it was
pub record Torn (at count : ℕ) (old new : List ℕ) : Type 0 where
  pub no_shorter : length old ≤ length new
  pub no_longer : length new ≤ max (length old) (at + count)
  pub before : take (min at (length old)) new ≡ take at old
  pub behind : drop (at + count) new ≡ drop (at + count) old

-- of a change of the length: any length from the one to the other, and what stands below both as it was
pub record TornLength (to : ℕ) (old new : List ℕ) : Type 0 where
  pub no_shorter : min (length old) to ≤ length new
  pub no_longer : length new ≤ max (length old) to
  pub below : take (min (length old) to) new ≡ take to old

pub data Change : Type 0 where
  Wrote : (at count : ℕ) → Change
  Resized : (to : ℕ) → Change

abbrev pub Tears : Change → List ℕ → List ℕ → Type 0
Tears (Wrote at count) old new = Torn at count old new
Tears (Resized to) old new = TornLength to old new

-- ---- a disk as it stands

-- what a read gives; what the last sync took; and what was changed since, the latest first
pub record DiskState : Type 0 where
  pub seen : List ℕ
  pub synced : List ℕ
  pub changes : List Change

-- these bytes are left of those that were synced, once a crash has torn each change
abbrev pub IsLeft : List ℕ → List Change → List ℕ → Type 0
IsLeft synced [] bytes = bytes ≡ synced
IsLeft synced (change ∷ earlier) bytes = (before : List ℕ) × IsLeft synced earlier before × Tears change before bytes

-- A crash now may leave these bytes: what a read gives, or what is left of what was synced.
abbrev pub IsImage : DiskState → List ℕ → Type 0
IsImage s bytes = (bytes ≡ s.seen) ⊎ IsLeft s.synced s.changes bytes

abbrev pub AllImages : (List ℕ → Type 0) → DiskState → Type 0
AllImages P s = (bytes : List ℕ) → IsImage s bytes → P bytes

-- all was synced
abbrev pub synced_state : List ℕ → DiskState
synced_state bytes = record { seen = bytes; synced = bytes; changes = [] }

-- ---- a disk over its calls

-- how it stands, and how it stood before each change and each sync, the latest first
pub record DiskLife : Type 0 where
  pub now : DiskState
  pub past : List DiskState

abbrev pub goes_on : DiskLife → DiskState → DiskLife
goes_on life s = record { now = s; past = life.now ∷ life.past }

-- one that holds these bytes, all of them synced, and of which nothing was asked yet
abbrev pub new_life : List ℕ → DiskLife
new_life bytes = record { now = synced_state bytes; past = [] }

-- Whenever a crash came from the one moment to the other, it left bytes with P.
pub record LeavesBetween (P : List ℕ → Type 0) (old new : DiskLife) : Type 0 where
  pub since : List DiskState
  pub goes : new.now ∷ new.past ≡ since ++ old.now ∷ old.past
  pub images : AllByRecursion (AllImages P) (since ++ old.now ∷ [])

-- the same of a disk that may tell nothing
abbrev pub LeavesSince : Option DiskLife → Option DiskLife → (List ℕ → Type 0) → Type 0
LeavesSince None new P = new ≡ None
LeavesSince (Some old) new P = (life : DiskLife) × (new ≡ Some life) × LeavesBetween P old life

-- a crash now leaves bytes with P
abbrev pub LeavesNow : Option DiskLife → (List ℕ → Type 0) → Type 0
LeavesNow None P = ⊤
LeavesNow (Some life) P = AllImages P life.now

-- ---- the calls

-- the length, where the disk tells its bytes
abbrev pub Measures : Option DiskLife → Result ℕ Failed → Type 0
Measures None result = ⊤
Measures (Some life) (Ok n) = n ≡ length life.now.seen
Measures (Some life) (Err e) = ⊤

-- n bytes from a place on stand at the front of the piece; none only where they end at or before it
pub record FindsAt (bytes : List ℕ) (at : ℕ) (piece : List ℕ) (n : ℕ) : Type 0 where
  pub within : n ≤ length (drop at bytes)
  pub same : take n piece ≡ take n (drop at bytes)
  pub at_end : n ≡ 0 → 0 < length piece → drop at bytes ≡ []

abbrev pub ReadsBytesAt : Option DiskLife → ℕ → List ℕ → Result ℕ Failed → Type 0
ReadsBytesAt None at piece result = ⊤
ReadsBytesAt (Some life) at piece (Ok n) = FindsAt life.now.seen at piece n
ReadsBytesAt (Some life) at piece (Err e) = ⊤

-- behind a write of these bytes, of which a read gives this
abbrev pub with_write : DiskState → ℕ → ℕ → List ℕ → DiskState
with_write s at count seen = record { seen = seen; synced = s.synced; changes = Wrote at count ∷ s.changes }

-- A write puts the bytes at the place. One that failed may have torn its range; for want of memory nothing was done.
abbrev pub WritesAt : Option DiskLife → ℕ → List ℕ → Result (Unit {0}) Failed → Option DiskLife → Type 0
WritesAt None at bytes result new = new ≡ None
WritesAt (Some life) at bytes (Ok x) new = new ≡ Some (goes_on life (with_write life.now at (length bytes) (overlay life.now.seen at bytes)))
WritesAt (Some life) at bytes (Err Fault) new =
    (left : List ℕ) × Torn at (length bytes) life.now.seen left × (new ≡ Some (goes_on life (with_write life.now at (length bytes) left)))
WritesAt (Some life) at bytes (Err NoMemory) new = new ≡ Some life

-- the bytes with another length: the first of them, or zeros behind them
abbrev pub resized : List ℕ → ℕ → List ℕ
resized bytes to = take to (bytes ++ replicate (to - length bytes) 0)

abbrev pub with_length : DiskState → ℕ → List ℕ → DiskState
with_length s to seen = record { seen = seen; synced = s.synced; changes = Resized to ∷ s.changes }

abbrev pub CutsTo : Option DiskLife → ℕ → Result (Unit {0}) Failed → Option DiskLife → Type 0
CutsTo None to result new = new ≡ None
CutsTo (Some life) to (Ok x) new = new ≡ Some (goes_on life (with_length life.now to (resized life.now.seen to)))
CutsTo (Some life) to (Err Fault) new = (left : List ℕ) × TornLength to life.now.seen left × (new ≡ Some (goes_on life (with_length life.now to left)))
CutsTo (Some life) to (Err NoMemory) new = new ≡ Some life

-- A sync takes what a read gives. One that failed took nothing that counts.
abbrev pub Syncs : Option DiskLife → Result (Unit {0}) Failed → Option DiskLife → Type 0
Syncs None result new = new ≡ None
Syncs (Some life) (Ok x) new = new ≡ Some (goes_on life (synced_state life.now.seen))
Syncs (Some life) (Err e) new = new ≡ Some life

-- ---- two disks

-- the count of the faults of both, which stands still at the greatest that a count may be
abbrev pub both_faults : ℕ → ℕ → ℕ
both_faults disk spare = min (disk + spare) 18446744073709551615
