-- What the calls on a log do to its disk.
use Rattle.std.specs.Prelude.{⊤, ◌≡◌, ◌⊎◌, ℕ, ◌+◌, ◌<◌, ◌≤◌, true, List, [], ◌∷◌, ◌++◌, length, drop, Option, Some, None, Result, Ok, Err}
use Rattle.rpc_record.specs.declared.stream.Failed.{Failed}
use Rattle.store_disk.specs.Disks.{DiskLife, IsImage, LeavesSince, synced_state}
use Rattle.gate_log.specs.Logs.{Gate, Absent, Closed, Broken, Opens, Log, log_of, log_size, gate_of}
use Rattle.gate_log.specs.declared.reading.Found.{Found}
use Rattle.gate_log.specs.declared.reading.Found.TheVariants as found

abbrev pub whole_log : List (List ℕ) → Log
whole_log bodies = record { bodies = bodies; is_whole = true }

-- All that the disk holds is synced.
abbrev pub IsSynced : DiskLife → Type 0
IsSynced life = life.now ≡ synced_state life.now.seen

-- A disk holds a whole log with these bodies, all of it synced, and the log's last gate byte stands at this place.
pub record KeepsLog (life : DiskLife) (bodies : List (List ℕ)) (end : ℕ) : Type 0 where
  pub synced : IsSynced life
  pub log : log_of life.now.seen ≡ whole_log bodies
  pub end_is : end ≡ log_size bodies
  pub within : end < length life.now.seen
  -- A disk of one byte has a log whatever that byte is, so the log alone does not say it.
  pub closed : gate_of (drop end life.now.seen) ≡ Closed

-- the same of a disk that may tell nothing
abbrev pub HoldsLog : Option DiskLife → List (List ℕ) → ℕ → Type 0
HoldsLog None bodies end = ⊤
HoldsLog (Some life) bodies end = KeepsLog life bodies end

-- ---- a disk is made ready

-- the log of these bytes is the same
abbrev pub SameLog : List ℕ → List ℕ → Type 0
SameLog bytes left = log_of left ≡ log_of bytes

-- What a crash leaves while a disk is made ready: what it would have left before, or the same log.
abbrev pub LeavesReady : DiskLife → List ℕ → Type 0
LeavesReady life left = IsImage life.now left ⊎ SameLog life.now.seen left

-- All is synced then, it has a gate byte, so many bytes, and the same log.
pub record IsMadeReady (old new : DiskLife) (n : ℕ) : Type 0 where
  pub synced : IsSynced new
  pub size : n ≡ length new.now.seen
  pub gated : 0 < n
  pub log : SameLog old.now.seen new.now.seen
  -- a new one has a closed gate
  pub closed : n ≤ 1 → gate_of new.now.seen ≡ Closed

abbrev pub MakesReady : Option DiskLife → Result ℕ Failed → Option DiskLife → Type 0
MakesReady None result new = new ≡ None
MakesReady (Some old) (Ok n) new = (life : DiskLife) × (new ≡ Some life) × IsMadeReady old life n
MakesReady (Some old) (Err e) new = ⊤

abbrev pub LeavesAsReady : Option DiskLife → Option DiskLife → Type 0
LeavesAsReady None new = new ≡ None
LeavesAsReady (Some old) new = LeavesSince (Some old) new (LeavesReady old)

-- ---- a record is looked for

-- what was found where a gate byte is due, with the body in the buffer
abbrev pub gate_found : Found → List ℕ → List ℕ → Gate
gate_found found.Absent body rest = Absent
gate_found found.Closed body rest = Closed
gate_found found.Broken body rest = Broken
gate_found found.Opens body rest = Opens body rest

abbrev pub FindsGate : Option DiskLife → ℕ → ℕ → Result Found Failed → List ℕ → Type 0
FindsGate None size at result body = ⊤
FindsGate (Some life) size at (Ok it) body = size ≡ length life.now.seen → gate_of (drop at life.now.seen) ≡ gate_found it body (drop (5 + length body) (drop at life.now.seen))
FindsGate (Some life) size at (Err e) body = ⊤

-- the record that was found lies within so many bytes
abbrev pub LiesWithin : ℕ → ℕ → Result Found Failed → List ℕ → Type 0
LiesWithin size at (Ok found.Opens) body = at + 5 + length body ≤ size
LiesWithin size at result body = ⊤

-- ---- a record is appended

-- the log has these bodies, or those
abbrev pub HasEither : List (List ℕ) → List (List ℕ) → List ℕ → Type 0
HasEither bodies longer left = (log_of left ≡ whole_log bodies) ⊎ (log_of left ≡ whole_log longer)

-- What appending a body did to a log with these: whenever a crash came it left the log with the body or without it; and once it is appended,
-- with it.
pub record Appends (old : Option DiskLife) (bodies : List (List ℕ)) (body : List ℕ) (result : Result ℕ Failed) (new : Option DiskLife) : Type 0 where
  pub crash : LeavesSince old new (HasEither bodies (bodies ++ body ∷ []))
  pub kept : (end : ℕ) → result ≡ Ok end → HoldsLog new (bodies ++ body ∷ []) end
