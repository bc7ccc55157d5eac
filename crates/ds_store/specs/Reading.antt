-- Reading a log to its end, and the boot that begins behind it.
use Rattle.std.specs.Prelude.{⊤, ◌≡◌, ℕ, ◌==◌, Bool, true, List, [], Option, Some, None, Result, Ok, Err}
use Rattle.cluster_model.specs.Server.{ServerState, max_boot, restart_of}
use Rattle.store_disk.specs.Disks.{DiskLife}
use Rattle.twin_log.specs.Twins.{TwinLog}
use Rattle.twin_log.specs.KeptLogs.{KeptLogState, StandsTwin}
use Rattle.twin_log.specs.LogCalls.{IsAtFirst}
use Rattle.ds_log.specs.Bodies.{Boots, body_in}
use Rattle.ds_log.specs.Durable.{durable}
use Rattle.ds_store.specs.declared.fault.OpenCause.{OpenCause}
use Rattle.ds_store.specs.declared.fault.OpenCause.TheVariants.{Disk, BadLog, BootsSpent, NoMemory}
use Rattle.ds_store.specs.Kept.{KeptState, said_by}

-- ---- the whole log

-- the server that a log says, and that lasts
pub record HasSaid (number : ℕ) (says : TwinLog) (s : ServerState) : Type 0 where
  pub said : said_by number says ≡ Ok s
  pub numbered : s.number ≡ number
  pub lasts : durable s ≡ s

abbrev pub ReadsWhole : ℕ → TwinLog → Option DiskLife → Option DiskLife → Result ServerState OpenCause → KeptLogState → Type 0
ReadsWhole number says disk spare (Ok s) log = HasSaid number says s × StandsTwin log says disk spare
ReadsWhole number says disk spare (Err (BadLog place)) log = said_by number says ≡ Err place
ReadsWhole number says disk spare (Err BootsSpent) log = ⊥
ReadsWhole number says disk spare (Err Disk) log = ⊤
ReadsWhole number says disk spare (Err NoMemory) log = ⊤

-- of a log whose first body is the next, on disks that both tell
abbrev pub ReadsLog : ℕ → KeptLogState → Option DiskLife → Option DiskLife → Result ServerState OpenCause → KeptLogState → Type 0
ReadsLog number old None spare result new = ⊤
ReadsLog number old (Some disk) None result new = ⊤
ReadsLog number old (Some disk) (Some spare) result new =
    (says : TwinLog) → StandsTwin old says (Some disk) (Some spare) → IsAtFirst says old → ReadsWhole number says (Some disk) (Some spare) result new

-- ---- the next boot

-- no file has a generation yet: both are new, or the log is one of a single file
abbrev pub is_of_none : Option ℕ → Bool
is_of_none None = true
is_of_none (Some generation) = generation == 0

-- two disks that tell have a log of the server, or none yet; all of it lasts
pub record HasLasting (said : ServerState) (log : KeptLogState) (disk spare : Option DiskLife) : Type 0 where
  pub says : TwinLog
  pub stands : StandsTwin log says disk spare
  pub is_said : HasSaid said.number says said

-- the bytes are those of the body that says that a boot began
pub record SaysBoot (boot : ℕ) (bytes : List ℕ) : Type 0 where
  pub body : body_in bytes ≡ Some (Boots boot)

abbrev pub BeginsBoot : ServerState → Result KeptState OpenCause → Type 0
BeginsBoot said (Ok k) = (restart_of said [] ≡ Some k.server) × (k.spent ≡ None)
BeginsBoot said (Err BootsSpent) = said.clock.boot ≡ max_boot
BeginsBoot said (Err (BadLog place)) = ⊥
BeginsBoot said (Err Disk) = ⊤
BeginsBoot said (Err NoMemory) = ⊤
