-- A store: a data server together with the two disks that have its log.
use Rattle.std.specs.Prelude.{ℕ, Option, Result, Ok, Err}
use Rattle.store_disk.specs.Disks.{DiskLife}
use Rattle.twin_log.specs.LogCalls.{CountsTwins}
use Rattle.ds_store.specs.declared.fault.OpenCause.{OpenCause}
use Rattle.ds_store.specs.declared.fault.OpenCause.TheVariants as cause
use Rattle.ds_store.specs.declared.store.OpenFault.{OpenFault}
use Rattle.ds_store.specs.declared.store.OpenFault.TheVariants as back
use Rattle.ds_store.specs.Kept.{KeptState}
use Rattle.ds_store.specs.Opens.{LeavesOpened, LeavesRefused, OpensLog, StandsOpened, plain_open}

-- The server that is kept; how its disks stand and stood, where they tell; and how many calls of each have met a fault.
pub record StoreState : Type 0 where
  pub kept : KeptState
  pub disk : Option DiskLife
  pub spare : Option DiskLife
  pub disk_faults : ℕ
  pub spare_faults : ℕ

-- a disk as it stands and stood, where it tells, and how many of its calls have met a fault
pub record Standing : Type 0 where
  pub told : Option DiskLife
  pub faults : ℕ

abbrev pub standing : {D : Type 0} → (D → Option DiskLife) → (D → ℕ) → D → Standing
standing told faults disk = record { told = told disk; faults = faults disk }

-- A log was opened on two disks, or not, and this is how they stand then.
pub record OpensStoreDisks (number : ℕ) (disk spare : Standing) (result : Result KeptState OpenCause) (disk' spare' : Standing) : Type 0 where
  pub opened : OpensLog number disk.told spare.told result
  pub crash : LeavesOpened number disk.told spare.told disk'.told spare'.told
  pub refused : LeavesRefused disk.told spare.told result disk'.told spare'.told
  pub stands : StandsOpened result disk'.told spare'.told
  pub counted : CountsTwins (plain_open result) disk.faults spare.faults disk'.faults spare'.faults

-- the same of disks that are in the store then, or given back
abbrev pub OpensStore : {D : Type 0} → (D → Standing) → ℕ → Standing → Standing → Result StoreState (OpenFault D) → Type 0
OpensStore stands number disk spare (Ok s) = OpensStoreDisks number disk spare (Ok s.kept) (record { told = s.disk; faults = s.disk_faults }) (record { told = s.spare; faults = s.spare_faults })
OpensStore stands number disk spare (Err (back.Disk disk' spare')) = OpensStoreDisks number disk spare (Err cause.Disk) (stands disk') (stands spare')
OpensStore stands number disk spare (Err (back.BadLog disk' spare' place)) = OpensStoreDisks number disk spare (Err (cause.BadLog place)) (stands disk') (stands spare')
OpensStore stands number disk spare (Err (back.BootsSpent disk' spare')) = OpensStoreDisks number disk spare (Err cause.BootsSpent) (stands disk') (stands spare')
OpensStore stands number disk spare (Err (back.NoMemory disk' spare')) = OpensStoreDisks number disk spare (Err cause.NoMemory) (stands disk') (stands spare')
