-- Records that wait behind the last gate byte of a log, and become part of it together.
--
-- They are written behind the log's closed gate, each with its own gate open, and a closed gate behind the last. Until the log's gate is opened none
-- of them is part of it; once it is, all are.
use Rattle.std.specs.Prelude.{⊤, ◌≡◌, ◌⊎◌, ℕ, ◌+◌, ◌^◌, ◌<◌, ◌≤◌, List, [], ◌∷◌, ◌++◌, length, take, drop, max, Bool, true, false, Option, Some, None, Result, Ok, Err}
use Rattle.std.specs.List.{AllByRecursion}
use Rattle.rpc_record.specs.declared.stream.Failed.{Failed}
use Rattle.store_disk.specs.Disks.{DiskLife, AllImages, LeavesSince}
use Rattle.gate_log.specs.Logs.{Closed, gate_of, gated_all, log_of, log_size}
use Rattle.gate_log.specs.Appends.{HasEither, HoldsLog, IsSynced, whole_log}
use Rattle.gate_log.specs.declared.staging.LogEnd.{LogEnd}
use Rattle.gate_log.specs.declared.staging.LogEnd.TheVariants as log_end

-- the bytes of waiting records from behind the closed gate on
abbrev pub waiting_bytes : List (List ℕ) → List ℕ
waiting_bytes staged = drop 1 (gated_all staged ++ 0 ∷ [])

-- the bytes are the same up to a gate byte, and with it
abbrev pub IsSameToGate : List ℕ → ℕ → List ℕ → Type 0
IsSameToGate bytes end left = take (end + 1) left ≡ take (end + 1) bytes

-- each body has fewer than 4,294,967,296 bytes, so that its length is told by four
abbrev pub AreShort : List (List ℕ) → Type 0
AreShort staged = AllByRecursion (λ body. length body < 2 ^ 32) staged

-- A disk holds a whole log with these bodies, whose last gate byte stands at `end`, and behind it records that wait; the closed gate behind them
-- stands at `at`. Whatever a crash tears, it leaves all up to the log's gate.
pub record StagesLog (life : DiskLife) (bodies staged : List (List ℕ)) (end at : ℕ) : Type 0 where
  pub log : log_of life.now.seen ≡ whole_log bodies
  pub end_is : end ≡ log_size bodies
  pub closed : gate_of (drop end life.now.seen) ≡ Closed
  pub waiting : take (length (waiting_bytes staged)) (drop (end + 1) life.now.seen) ≡ waiting_bytes staged
  pub at_is : at ≡ end + log_size staged
  pub within : at < length life.now.seen
  pub short : AreShort staged
  pub left : AllImages (IsSameToGate life.now.seen end) life.now

-- the same of a disk that may tell nothing
abbrev pub Stages : Option DiskLife → List (List ℕ) → List (List ℕ) → ℕ → ℕ → Type 0
Stages None bodies staged end at = ⊤
Stages (Some life) bodies staged end at = StagesLog life bodies staged end at

-- it has so many bytes, where it tells
abbrev pub HasSize : Option DiskLife → ℕ → Type 0
HasSize None n = ⊤
HasSize (Some life) n = length life.now.seen ≡ n

-- the log of these bytes has these bodies
abbrev pub HasBodies : List (List ℕ) → List ℕ → Type 0
HasBodies bodies left = log_of left ≡ whole_log bodies

-- What writing one more waiting record did: a crash leaves the log as it was; and once it is written, it waits behind the others.
pub record StagesMore (old : Option DiskLife) (bodies staged : List (List ℕ)) (body : List ℕ) (end : ℕ) (result : Result ℕ Failed) (new : Option DiskLife) : Type 0 where
  pub crash : LeavesSince old new (HasBodies bodies)
  pub kept : (at : ℕ) → result ≡ Ok at → Stages new bodies (staged ++ body ∷ []) end at
  pub size : (n at : ℕ) → HasSize old n → result ≡ Ok at → HasSize new (max n (at + 1))

-- What opening the gate before waiting records did: a crash leaves the log without any of them, or with all; and once it is done, with all, and all
-- that the disk holds is synced.
pub record SealsLog (old : Option DiskLife) (bodies staged : List (List ℕ)) (at : ℕ) (result : Result (Unit {0}) Failed) (new : Option DiskLife) : Type 0 where
  pub crash : LeavesSince old new (HasEither bodies (bodies ++ staged))
  pub kept : (x : Unit {0}) → result ≡ Ok x → HoldsLog new (bodies ++ staged) at
  pub size : (n : ℕ) (x : Unit {0}) → HasSize old n → result ≡ Ok x → HasSize new n

-- ---- a disk is cleared for new records

-- the bytes are as they were, or have a log with no record
abbrev pub IsSameOrEmpty : List ℕ → List ℕ → Type 0
IsSameOrEmpty bytes left = (left ≡ bytes) ⊎ HasBodies [] left

-- at most one byte, or an open gate stands first
abbrev pub IsOpenFirst : List ℕ → Type 0
IsOpenFirst bytes = (length bytes ≤ 1) ⊎ ((rest : List ℕ) × (bytes ≡ 1 ∷ rest))

-- whether the first gate is to be closed; it is closed where it is not to be
abbrev pub LooksAtFirst : Option DiskLife → Result Bool Failed → Type 0
LooksAtFirst None result = ⊤
LooksAtFirst (Some life) (Ok true) = IsOpenFirst life.now.seen
LooksAtFirst (Some life) (Ok false) = gate_of life.now.seen ≡ Closed
LooksAtFirst (Some life) (Err e) = ⊤

-- all is synced, and the first gate is closed
abbrev pub KeepsClosedGate : Option DiskLife → Type 0
KeepsClosedGate None = ⊤
KeepsClosedGate (Some life) = IsSynced life × (gate_of life.now.seen ≡ Closed)

pub record ClosesGate (old : DiskLife) (result : Result (Unit {0}) Failed) (new : Option DiskLife) : Type 0 where
  pub crash : LeavesSince (Some old) new (IsSameOrEmpty old.now.seen)
  pub kept : (x : Unit {0}) → result ≡ Ok x → KeepsClosedGate new

-- What closing the first gate did of a disk of which all was synced.
abbrev pub ClosesFirst : Option DiskLife → Result (Unit {0}) Failed → Option DiskLife → Type 0
ClosesFirst None result new = new ≡ None
ClosesFirst (Some old) result new = IsSynced old → ClosesGate old result new

pub record Clears (old : DiskLife) (result : Result (Unit {0}) Failed) (new : Option DiskLife) : Type 0 where
  pub crash : LeavesSince (Some old) new (IsSameOrEmpty old.now.seen)
  pub kept : (x : Unit {0}) → result ≡ Ok x → HoldsLog new [] 0
  pub size : (x : Unit {0}) → result ≡ Ok x → HasSize new 1

-- What clearing a disk did of which all was synced.
abbrev pub ClearsDisk : Option DiskLife → Result (Unit {0}) Failed → Option DiskLife → Type 0
ClearsDisk None result new = new ≡ None
ClearsDisk (Some old) result new = IsSynced old → Clears old result new

-- ---- where a log ends

-- It is whole, and its last gate byte stands there, unless the disk has at most one byte; or it is not, and ends there.
abbrev pub IsEndOf : List ℕ → LogEnd → Type 0
IsEndOf bytes (log_end.Whole at) = ((log_of bytes).is_whole ≡ true) × (at ≡ log_size (log_of bytes).bodies) × (1 < length bytes → gate_of (drop at bytes) ≡ Closed)
IsEndOf bytes (log_end.Cut at) = ((log_of bytes).is_whole ≡ false) × (at ≡ log_size (log_of bytes).bodies)

abbrev pub FindsEnd : Option DiskLife → ℕ → Result LogEnd Failed → Type 0
FindsEnd None size result = ⊤
FindsEnd (Some life) size (Ok end) = size ≡ length life.now.seen → IsEndOf life.now.seen end
FindsEnd (Some life) size (Err e) = ⊤

-- the place lies within so many bytes, unless these are at most one
abbrev pub IsEndWithin : ℕ → Result LogEnd Failed → Type 0
IsEndWithin size (Ok (log_end.Whole at)) = 1 < size → at < size
IsEndWithin size (Ok (log_end.Cut at)) = at < size ⊎ (at ≡ size)
IsEndWithin size (Err e) = ⊤
