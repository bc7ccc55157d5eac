-- Disks in memory: what they note of their calls, how they stand behind them, and which calls fail.
use Rattle.std.specs.Prelude.{⊤, ◌≡◌, ℕ, nat_le, Bool, true, false, ◌||◌, List, length, fold, Option, None, Some, Result, Ok, Err}
use Rattle.cluster_model.specs.Content.{overlay}
use Rattle.rpc_record.specs.Stream.{fails_next, one_more}
use Rattle.rpc_record.specs.declared.stream.Failed.{Failed}
use Rattle.rpc_record.specs.declared.stream.Failed.TheVariants.{Fault, NoMemory}
use Rattle.store_disk.specs.Disks.{DiskLife, DiskState, goes_on, new_life, with_write, with_length, resized, synced_state}
use Rattle.store_disk.specs.declared.recorded.Recorded.{Recorded}
use Rattle.store_disk.specs.declared.recorded.Recorded.TheVariants as call

-- how a disk stands behind a call
abbrev pub after_call : DiskLife → Recorded → DiskLife
after_call life (call.Wrote at bytes) = goes_on life (with_write life.now at (length bytes) (overlay life.now.seen at bytes))
after_call life (call.LostWrite at count) = goes_on life (with_write life.now at count life.now.seen)
after_call life (call.Cut to) = goes_on life (with_length life.now to (resized life.now.seen to))
after_call life (call.LostCut to) = goes_on life (with_length life.now to life.now.seen)
after_call life call.Synced = goes_on life (synced_state life.now.seen)

-- how a disk that held these bytes at first stands behind its calls
abbrev pub life_after : List ℕ → List Recorded → DiskLife
life_after start calls = fold after_call (new_life start) calls

-- Every call behind so many fails.
abbrev pub has_stopped : Option ℕ → ℕ → Bool
has_stopped None calls = false
has_stopped (Some stop) calls = nat_le stop calls

-- the call after so many fails: all have stopped, or its number is on the list
abbrev pub is_to_fail : List ℕ → Option ℕ → ℕ → Bool
is_to_fail failing stop calls = has_stopped stop calls || fails_next failing calls

-- A disk in memory whose calls may fail: its life; the numbers of the calls that fail; behind how many every call fails; and how many calls were
-- made and have failed.
pub record MemoryDiskState : Type 0 where
  pub life : DiskLife
  pub failing : List ℕ
  pub stop : Option ℕ
  pub calls : ℕ
  pub faults : ℕ

-- A call was made, and which calls fail is as it was.
pub record MakesCall (old new : MemoryDiskState) : Type 0 where
  pub calls : new.calls ≡ one_more old.calls
  pub failing : new.failing ≡ old.failing
  pub stop : new.stop ≡ old.stop

-- A change that is to fail is a fault, or wants memory to note it. Any other is no fault.
abbrev pub FailsBy : {T : Type 0} → Bool → Result T Failed → Type 0
FailsBy true (Ok x) = ⊥
FailsBy true (Err e) = ⊤
FailsBy false (Ok x) = ⊤
FailsBy false (Err Fault) = ⊥
FailsBy false (Err NoMemory) = ⊤

-- A call that fails leaves the bytes.
abbrev pub LeavesBytes : DiskLife → Result (Unit {0}) Failed → DiskLife → Type 0
LeavesBytes old (Ok x) new = ⊤
LeavesBytes old (Err e) new = new.now.seen ≡ old.now.seen

-- A change failed, and the disk stands so behind it; or memory was wanted, and it stands as it did.
abbrev pub LosesChange : MemoryDiskState → DiskState → Result (Unit {0}) Failed → MemoryDiskState → Type 0
LosesChange old s (Ok x) new = ⊥
LosesChange old s (Err Fault) new = new ≡ record old { life = goes_on old.life s; faults = one_more old.faults }
LosesChange old s (Err NoMemory) new = new ≡ old
