-- What a data server that keeps its word comes to over calls, crashes and openings: by the rule of what each call does, and of what a restart
-- leaves.
use Rattle.std.specs.Prelude.{⊤, ◌≡◌, ◌⊎◌, ℕ, Bool, true, false, List, [], ◌∷◌, Some, Result, Ok, Err}
use Rattle.rpc_record.specs.Rpc.{plain_credential}
use Rattle.rpc_record.specs.declared.auth.AuthSys.{AuthSys}
use Rattle.nfs3_wire.specs.declared.call.Call3.{Call3}
use Rattle.nfs3_wire.specs.Calls.{plain_call}
use Rattle.cluster_model.specs.Server.{ServerState, max_boot, restart_of}
use Rattle.ds_procedures.specs.Steps.{step_of}
use Rattle.ds_log.specs.Durable.{durable}
use Rattle.ds_store.specs.Kept.{LeavesBothNow, log_says}
use Rattle.store_trial.specs.declared.steps.StoreStep.{StoreStep}
use Rattle.store_trial.specs.declared.steps.StoreStep.TheVariants.{Call, Stopped}
use Rattle.store_trial.specs.declared.steps.TryEnd.{TryEnd}
use Rattle.store_trial.specs.declared.steps.TryFault.{TryFault}
use Rattle.store_trial.specs.declared.steps.TryFault.TheVariants.{BadLog, BootsSpent, NoMemory}

-- the server behind a call
abbrev pub server_behind : ServerState → Call3 → AuthSys → ServerState
server_behind s call cred = (step_of s (plain_call call) (plain_credential cred)).server

-- What lasts of a server is opened again, in its next boot and with nothing pending.
abbrev pub Reopens : ServerState → ServerState → Type 0
Reopens s next = restart_of (durable s) [] ≡ Some next

-- What a step makes of the server. One that was stopped is in its place where it was answered, and else taken or left, whole.
abbrev pub TriesStep : ServerState → StoreStep → Bool → ServerState → Type 0
TriesStep s (Call call cred) acked next = (acked ≡ true) × (next ≡ server_behind s call cred)
TriesStep s (Stopped call cred after choice) true next = Reopens (server_behind s call cred) next
TriesStep s (Stopped call cred after choice) false next = Reopens s next ⊎ Reopens (server_behind s call cred) next

-- what each step makes of it, in order
abbrev pub Tries : ServerState → List StoreStep → List Bool → ServerState → Type 0
Tries s [] [] end = end ≡ s
Tries s [] (flag ∷ acked) end = ⊥
Tries s (step ∷ steps) [] end = ⊥
Tries s (step ∷ steps) (flag ∷ acked) end = (next : ServerState) × TriesStep s step flag next × Tries next steps acked end

-- what is opened again has the last boot number
abbrev pub IsLastBoot : ServerState → Type 0
IsLastBoot s = (durable s).clock.boot ≡ max_boot

-- there is no boot number for the opening behind a step
abbrev pub MeetsLastBoot : ServerState → StoreStep → Type 0
MeetsLastBoot s (Call call cred) = ⊥
MeetsLastBoot s (Stopped call cred after choice) = IsLastBoot s ⊎ IsLastBoot (server_behind s call cred)

-- it is so behind one of the steps
abbrev pub SpendsBoots : ServerState → List StoreStep → Type 0
SpendsBoots s [] = ⊥
SpendsBoots s (step ∷ steps) = MeetsLastBoot s step ⊎ ((acked : Bool) × (next : ServerState) × TriesStep s step acked next × SpendsBoots next steps)

-- Behind the steps a crash leaves nothing but pairs whose log says what lasts of the server that they make of the one that the log said in the
-- beginning. That it was bad is said exactly where it was; memory may be wanted at any time.
abbrev pub TriesStore : ℕ → Result ServerState ℕ → List StoreStep → Result TryEnd TryFault → Type 0
TriesStore number says steps (Ok end) =
    (said first last : ServerState) × (says ≡ Ok said) × (restart_of said [] ≡ Some first) × Tries first steps end.acked.items last
    × LeavesBothNow (Some end.disk.life) (Some end.spare.life) (λ disk spare. log_says number disk spare ≡ Ok (durable last))
TriesStore number says steps (Err (BadLog place)) = says ≡ Err place
TriesStore number says steps (Err BootsSpent) =
    (said : ServerState) × (says ≡ Ok said) × ((said.clock.boot ≡ max_boot) ⊎ ((first : ServerState) × (restart_of said [] ≡ Some first) × SpendsBoots first steps))
TriesStore number says steps (Err NoMemory) = ⊤
