-- The stages of a trial: a server and the disks that hold its log, what a step makes of them, and what the rest of the steps does.
use Rattle.std.specs.Prelude.{⊤, ◌≡◌, ℕ, Bool, true, false, List, [], ◌++◌, Some, Result, Ok, Err}
use Rattle.rpc_record.specs.declared.auth.AuthSys.{AuthSys}
use Rattle.nfs3_wire.specs.declared.call.Call3.{Call3}
use Rattle.cluster_model.specs.Server.{ServerState, max_boot, restart_of}
use Rattle.store_disk.specs.MemoryDisks.{MemoryDiskState}
use Rattle.ds_store.specs.declared.fault.StoreFault.{StoreFault}
use Rattle.ds_store.specs.declared.fault.StoreFault.TheVariants.{Disk, Broken}
use Rattle.ds_store.specs.declared.fault.StoreFault.TheVariants as fault
use Rattle.ds_store.specs.Kept.{SaysEither, SaysServer}
use Rattle.store_trial.specs.declared.steps.StoreStep.{StoreStep}
use Rattle.store_trial.specs.declared.steps.StoreStep.TheVariants.{Stopped}
use Rattle.store_trial.specs.declared.steps.TryFault.{TryFault}
use Rattle.store_trial.specs.declared.steps.TryFault.TheVariants.{BadLog, BootsSpent, NoMemory}
use Rattle.store_trial.specs.Trials.{MeetsLastBoot, SpendsBoots, Tries, TriesStep, server_behind}

pub record TrialState : Type 0 where
  pub number : ℕ
  pub server : ServerState
  pub disk : MemoryDiskState
  pub spare : MemoryDiskState

-- the log was opened as the server that it says, in its next boot
abbrev pub OpensTrial : ℕ → Result ServerState ℕ → Result TrialState TryFault → Type 0
OpensTrial number says (Ok t) = (said : ServerState) × (says ≡ Ok said) × (restart_of said [] ≡ Some t.server) × (t.number ≡ number)
OpensTrial number says (Err (BadLog place)) = says ≡ Err place
OpensTrial number says (Err BootsSpent) = (said : ServerState) × (says ≡ Ok said) × (said.clock.boot ≡ max_boot)
OpensTrial number says (Err NoMemory) = ⊤

-- a step was made, and was answered or not
abbrev pub HasStepped : TrialState → StoreStep → Result (TrialState × Bool) TryFault → Type 0
HasStepped t step (Ok (next, acked)) = TriesStep t.server step acked next.server × (next.number ≡ t.number)
HasStepped t step (Err (BadLog place)) = ⊥
HasStepped t step (Err BootsSpent) = MeetsLastBoot t.server step
HasStepped t step (Err NoMemory) = ⊤

-- what came of a call, where its disks may have stopped, as whether it was answered
abbrev pub AcksBy : {T : Type 0} → Result T StoreFault → Bool → Type 0
AcksBy (Ok x) acked = acked ≡ true
AcksBy (Err Disk) acked = acked ≡ false
AcksBy (Err Broken) acked = acked ≡ false
AcksBy (Err fault.NoMemory) acked = ⊥

-- what the log says behind a call whose disks may stop: the server behind it where it was answered, and else that one or the one before
abbrev pub SaysStopped : Bool → ServerState → ServerState → List ℕ → List ℕ → Type 0
SaysStopped true before after disk spare = SaysServer after disk spare
SaysStopped false before after disk spare = SaysEither before after disk spare

-- whatever the rest of the steps does is done by all of them
pub record GoesOn (first : ServerState) (steps : List StoreStep) (acked : List Bool) (now : ServerState) (rest : List StoreStep) : Type 0 where
  pub tries : (more : List Bool) (last : ServerState) → Tries now rest more last → Tries first steps (acked ++ more) last
  pub spends : SpendsBoots now rest → SpendsBoots first steps

-- the same of one call, and of one that is stopped
abbrev pub StopsCall : TrialState → Call3 → AuthSys → ℕ → ℕ → Result (TrialState × Bool) TryFault → Type 0
StopsCall t call cred after choice result = HasStepped t (Stopped call cred after choice) result

abbrev pub DoesCall : TrialState → Call3 → AuthSys → Result (TrialState × Bool) TryFault → Type 0
DoesCall t call cred (Ok (next, acked)) = (acked ≡ true) × (next.server ≡ server_behind t.server call cred) × (next.number ≡ t.number)
DoesCall t call cred (Err (BadLog place)) = ⊥
DoesCall t call cred (Err BootsSpent) = ⊥
DoesCall t call cred (Err NoMemory) = ⊤
