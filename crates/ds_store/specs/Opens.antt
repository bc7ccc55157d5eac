-- Opening the log of a data server.
use Rattle.std.specs.Prelude.{⊤, ◌≡◌, ◌⊎◌, ℕ, List, [], Option, Some, None, Result, Ok, Err}
use Rattle.rpc_record.specs.declared.stream.Failed.{Failed}
use Rattle.rpc_record.specs.declared.stream.Failed.TheVariants as failed
use Rattle.cluster_model.specs.Server.{ServerState, max_boot, restart_of}
use Rattle.store_disk.specs.Disks.{DiskLife}
use Rattle.twin_log.specs.declared.fault.LogCause.{LogCause}
use Rattle.twin_log.specs.declared.fault.LogCause.TheVariants as log_cause
use Rattle.twin_log.specs.KeptLogs.{IsSyncedFrom}
use Rattle.twin_log.specs.LogCalls.{LeavesAsBefore}
use Rattle.ds_store.specs.declared.fault.OpenCause.{OpenCause}
use Rattle.ds_store.specs.declared.fault.OpenCause.TheVariants.{Disk, BadLog, BootsSpent, NoMemory}
use Rattle.ds_store.specs.Kept.{AreSameDisks, KeptState, LeavesBoth, SaysServer, StandsOnDisks, log_says}

-- how a failed call of a disk, and a log that cannot be opened, end opening
abbrev pub cause_of : Failed → OpenCause
cause_of failed.Fault = Disk
cause_of failed.NoMemory = NoMemory

abbrev pub cause_of_log : LogCause → OpenCause
cause_of_log log_cause.Disk = Disk
cause_of_log (log_cause.BadLog place) = BadLog place
cause_of_log log_cause.NoMemory = NoMemory

-- The server is the one that the log says, in its next boot.
pub record Starts (says : Result ServerState ℕ) (k : KeptState) : Type 0 where
  pub said : ServerState
  pub log : says ≡ Ok said
  pub started : restart_of said [] ≡ Some k.server
  pub is_new : k.spent ≡ None

-- what a log was opened as, of which this is said
abbrev pub OpensSaid : Result ServerState ℕ → Result KeptState OpenCause → Type 0
OpensSaid says (Ok k) = Starts says k
OpensSaid says (Err (BadLog place)) = says ≡ Err place
OpensSaid says (Err BootsSpent) = (said : ServerState) × (says ≡ Ok said) × (said.clock.boot ≡ max_boot)
OpensSaid says (Err Disk) = ⊤
OpensSaid says (Err NoMemory) = ⊤

abbrev pub OpensLog : ℕ → Option DiskLife → Option DiskLife → Result KeptState OpenCause → Type 0
OpensLog number None spare result = ⊤
OpensLog number (Some disk) None result = ⊤
OpensLog number (Some disk) (Some spare) result = OpensSaid (log_says number disk.now.seen spare.now.seen) result

-- ---- what crashes leave

-- the log says what it said, or that server in its next boot
abbrev pub SaysBooting : ℕ → Result ServerState ℕ → List ℕ → List ℕ → Type 0
SaysBooting number says disk spare = (log_says number disk spare ≡ says) ⊎ ((said next : ServerState) × (says ≡ Ok said) × (restart_of said [] ≡ Some next) × SaysServer next disk spare)

-- What crashes leave while a log is opened: until both disks are synced, of each what they would have left before; and from then on pairs of which
-- the log says what it said, or the server in its next boot.
pub record LeavesOpening (number : ℕ) (disk spare : DiskLife) (disk' spare' : Option DiskLife) : Type 0 where
  pub mid : Option DiskLife
  pub mid_spare : Option DiskLife
  pub before : LeavesAsBefore (Some disk) mid
  pub before_spare : LeavesAsBefore (Some spare) mid_spare
  pub behind : AreSameDisks mid mid_spare disk' spare'
      ⊎ (IsSyncedFrom disk mid × IsSyncedFrom spare mid_spare × LeavesBoth mid mid_spare disk' spare' (SaysBooting number (log_says number disk.now.seen spare.now.seen)))

-- the same of disks that may tell nothing, and tell nothing later
abbrev pub LeavesOpened : ℕ → Option DiskLife → Option DiskLife → Option DiskLife → Option DiskLife → Type 0
LeavesOpened number None spare disk' spare' = disk' ≡ None
LeavesOpened number (Some disk) None disk' spare' = spare' ≡ None
LeavesOpened number (Some disk) (Some spare) disk' spare' = LeavesOpening number disk spare disk' spare'

-- A log that is refused stands as it was: nothing but a sync was done to its disks.
abbrev pub AreRefused : DiskLife → DiskLife → Result KeptState OpenCause → Option DiskLife → Option DiskLife → Type 0
AreRefused disk spare (Err (BadLog place)) disk' spare' = IsSyncedFrom disk disk' × IsSyncedFrom spare spare'
AreRefused disk spare (Err BootsSpent) disk' spare' = IsSyncedFrom disk disk' × IsSyncedFrom spare spare'
AreRefused disk spare (Err Disk) disk' spare' = ⊤
AreRefused disk spare (Err NoMemory) disk' spare' = ⊤
AreRefused disk spare (Ok k) disk' spare' = ⊤

abbrev pub LeavesRefused : Option DiskLife → Option DiskLife → Result KeptState OpenCause → Option DiskLife → Option DiskLife → Type 0
LeavesRefused None spare result disk' spare' = ⊤
LeavesRefused (Some disk) None result disk' spare' = ⊤
LeavesRefused (Some disk) (Some spare) result disk' spare' = AreRefused disk spare result disk' spare'

abbrev pub StandsOpened : Result KeptState OpenCause → Option DiskLife → Option DiskLife → Type 0
StandsOpened (Ok k) disk spare = StandsOnDisks k disk spare
StandsOpened (Err cause) disk spare = ⊤

-- a result by what the calls of the disks answered
abbrev pub plain_open : {T : Type 0} → Result T OpenCause → Result (Unit {0}) Failed
plain_open (Ok x) = Ok tt
plain_open (Err Disk) = Err failed.Fault
plain_open (Err (BadLog place)) = Ok tt
plain_open (Err BootsSpent) = Ok tt
plain_open (Err NoMemory) = Err failed.NoMemory
