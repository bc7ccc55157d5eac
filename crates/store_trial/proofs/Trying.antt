-- What a log says that is opened again; the number of a server; and steps one behind the other.
use Rattle.std.proofs.Common.{◌≡◌, ◌⊎◌, inl, inr, ℕ, ◌+◌, ◌<◌, ◌≤◌, Bool, true, false, eqb, List, [], ◌∷◌, ◌++◌, length, get_or, drop, Option, Some, None, Result, Ok, Err, refl, sym, ap, subst, ◌∙◌}
use Rattle.std.proofs.lemmas.Bool.{cond_both}
use Rattle.std.specs.Result.{OnOk, is_err}
use Rattle.std.proofs.lemmas.List.{append_assoc, append-nil, drop_all, drop_more}
use Rattle.std.proofs.lemmas.Option.{same_Some}
use Rattle.rpc_record.specs.Rpc.{plain_credential}
use Rattle.rpc_record.specs.declared.auth.AuthSys.{AuthSys}
use Rattle.nfs3_wire.specs.Calls.{plain_call}
use Rattle.nfs3_wire.specs.declared.call.Call3.{Call3}
use Rattle.cluster_model.specs.Server.{ServerState, max_boot, restart_of, server_restarted}
use Rattle.ds_procedures.specs.Objects.{caller_of}
use Rattle.ds_procedures.specs.Steps.{plan_of}
use Rattle.ds_log.specs.Durable.{durable, unbooted}
use Rattle.twin_log.specs.Twins.{TwinLog, New, Has, Bad, twin_log}
use Rattle.ds_store.specs.Kept.{IsCrashSafe, KeptState, LeavesBothNow, SaysEither, SaysServer, StepsSafely, log_says, said_by}
use Rattle.ds_store.specs.declared.fault.StoreFault.{StoreFault}
use Rattle.ds_store.specs.declared.fault.StoreFault.TheVariants.{Disk, Broken}
use Rattle.ds_store.specs.declared.fault.StoreFault.TheVariants as fault
use Rattle.ds_store.proofs.BothDisks.{both_new}
use Rattle.store_disk.specs.Disks.{DiskLife}
use Rattle.ds_store.proofs.Numbers.{number_after, played_number}
use Rattle.store_trial.specs.declared.steps.StoreStep.{StoreStep}
use Rattle.store_trial.specs.declared.steps.StoreStep.TheVariants.{Stopped}
use Rattle.store_trial.specs.declared.steps.TryFault.{TryFault}
use Rattle.store_trial.specs.declared.steps.TryFault.TheVariants.{BadLog, BootsSpent, NoMemory}
use Rattle.store_trial.specs.Trials.{Reopens, Tries, TriesStep, TriesStore, server_behind}
use Rattle.store_trial.specs.Stages.{AcksBy, GoesOn, HasStepped, OpensTrial, SaysStopped, StopsCall, TrialState}

-- ---- numbers

log_number : (number : ℕ) (log : TwinLog) (said : ServerState) → said_by number log ≡ Ok said → said.number ≡ number
log_number number New said e = let same : unbooted number ≡ said = cc (e) in ap (λ (s : ServerState). s.number) (sym same)
log_number number (Has generation start bodies) said e = played_number (unbooted number) said start bodies e
log_number number (Bad place) said e = absurd (cc (e))

restart_number : (said next : ServerState) → restart_of said [] ≡ Some next → next.number ≡ said.number
restart_number said next =
    cond_both (eqb said.clock.boot max_boot) None (Some (server_restarted said [])) (λ (o : Option ServerState). o ≡ Some next → next.number ≡ said.number)
    (λ spent e. absurd (cc (e))) (λ left e. ap (λ (s : ServerState). s.number) (sym (same_Some (server_restarted said []) next e)))

-- a server that a log was opened as has the number that it was asked for
pub opened_number : (number : ℕ) (disk spare : List ℕ) (said next : ServerState) → log_says number disk spare ≡ Ok said → restart_of said [] ≡ Some next → next.number ≡ number
opened_number number disk spare said next says starts = restart_number said next starts ∙ log_number number (twin_log disk spare) said says

pub behind_number : (s : ServerState) (call : Call3) (cred : AuthSys) → (server_behind s call cred).number ≡ s.number
behind_number s call cred = sym (number_after s (plan_of s (plain_call call) (caller_of (plain_credential cred))).effect)

-- ---- a log that is opened again

same_Ok : (says : Result ServerState ℕ) (a b : ServerState) → says ≡ Ok a → says ≡ Ok b → b ≡ a
same_Ok says a b e f = cc (e, f)

module _ (t : TrialState) (call : Call3) (cred : AuthSys) (after choice : ℕ) (disk spare : List ℕ) (same : t.server.number ≡ t.number) where
  abbrev pub before : ServerState
  before = t.server

  abbrev pub behind : ServerState
  behind = server_behind t.server call cred

  says_before : SaysServer before disk spare → log_says t.number disk spare ≡ Ok (durable before)
  says_before says = subst (λ (n : ℕ). log_says n disk spare ≡ Ok (durable before)) same says

  says_behind : SaysServer behind disk spare → log_says t.number disk spare ≡ Ok (durable behind)
  says_behind says = subst (λ (n : ℕ). log_says n disk spare ≡ Ok (durable behind)) (behind_number t.server call cred ∙ same) says

  is_said : (s said : ServerState) → log_says t.number disk spare ≡ Ok s → log_says t.number disk spare ≡ Ok said → said ≡ s
  is_said s said a b = same_Ok (log_says t.number disk spare) s said a b

  reopens : (s said next : ServerState) → log_says t.number disk spare ≡ Ok (durable s) → log_says t.number disk spare ≡ Ok said → restart_of said [] ≡ Some next → Reopens s next
  reopens s said next a b starts = subst (λ (x : ServerState). restart_of x [] ≡ Some next) (is_said (durable s) said a b) starts

  pub stepped : (acked : Bool) (next : TrialState) → SaysStopped acked before behind disk spare → OpensTrial t.number (log_says t.number disk spare) (Ok next)
      → TriesStep t.server (Stopped call cred after choice) acked next.server × (next.number ≡ t.number)
  stepped true next says (said, is, starts, number) = (reopens behind said next.server (says_behind says) is starts, number)
  stepped false next (inl says) (said, is, starts, number) = (inl (reopens before said next.server (says_before says) is starts), number)
  stepped false next (inr says) (said, is, starts, number) = (inr (reopens behind said next.server (says_behind says) is starts), number)

  one_of : (acked : Bool) → SaysStopped acked before behind disk spare → (log_says t.number disk spare ≡ Ok (durable before)) ⊎ (log_says t.number disk spare ≡ Ok (durable behind))
  one_of true says = inr (says_behind says)
  one_of false (inl says) = inl (says_before says)
  one_of false (inr says) = inr (says_behind says)

  refused_as : (log_says t.number disk spare ≡ Ok (durable before)) ⊎ (log_says t.number disk spare ≡ Ok (durable behind)) → (e : TryFault) → OpensTrial t.number (log_says t.number disk spare) (Err e) → StopsCall t call cred after choice (Err e)
  refused_as (inl says) (BadLog place) is = absurd (cc (says, is))
  refused_as (inr says) (BadLog place) is = absurd (cc (says, is))
  refused_as (inl says) BootsSpent (said, is, last) = inl (subst (λ (x : ServerState). x.clock.boot ≡ max_boot) (is_said (durable before) said says is) last)
  refused_as (inr says) BootsSpent (said, is, last) = inr (subst (λ (x : ServerState). x.clock.boot ≡ max_boot) (is_said (durable behind) said says is) last)
  refused_as says NoMemory is = tt

  pub refused : (acked : Bool) (e : TryFault) → SaysStopped acked before behind disk spare → OpensTrial t.number (log_says t.number disk spare) (Err e) → StopsCall t call cred after choice (Err e)
  refused acked e says opens = refused_as (one_of acked says) e opens

-- ---- steps one behind the other

pub none_yet : (first : ServerState) (steps : List StoreStep) → GoesOn first steps [] first steps
none_yet first steps = record { tries = λ more last h. h; spends = λ h. h }

pub one_more : (first here next : ServerState) (steps rest : List StoreStep) (step : StoreStep) (acked : List Bool) (flag : Bool)
    → GoesOn first steps acked here (step ∷ rest) → TriesStep here step flag next → GoesOn first steps (acked ++ flag ∷ []) next rest
one_more first here next steps rest step acked flag goes does = record {
  tries = λ more last h. subst (λ (flags : List Bool). Tries first steps flags last) (sym (append_assoc acked (flag ∷ []) more)) (goes.tries (flag ∷ more) last (next, does, h));
  spends = λ h. goes.spends (inr (flag, next, does, h));
}

-- the next step of those that are left
next_item : (steps : List StoreStep) (i : ℕ) (item : StoreStep) → i < length steps → item ≡ get_or steps i item → drop i steps ≡ item ∷ drop (i + 1) steps
next_item steps i item within is = drop_more steps i item within ∙ ap (λ (x : StoreStep). x ∷ drop (i + 1) steps) (sym is)

module _ (steps : List StoreStep) (i : ℕ) (item : StoreStep) (within : i < length steps) (is : item ≡ get_or steps i item) where
  pub goes_next : (first here next : ServerState) (acked : List Bool) (flag : Bool) → GoesOn first steps acked here (drop i steps) → TriesStep here item flag next
      → GoesOn first steps (acked ++ flag ∷ []) next (drop (i + 1) steps)
  goes_next first here next acked flag goes does =
      one_more first here next steps (drop (i + 1) steps) item acked flag (subst (λ (rest : List StoreStep). GoesOn first steps acked here rest) (next_item steps i item within is) goes) does

  pub tries_err : (number : ℕ) (says : Result ServerState ℕ) (said first : ServerState) (t : TrialState) (acked : List Bool) → says ≡ Ok said → restart_of said [] ≡ Some first
      → GoesOn first steps acked t.server (drop i steps) → (e : TryFault) → HasStepped t item (Err e) → TriesStore number says steps (Err e)
  tries_err number says said first t acked log starts goes (BadLog place) h = absurd h
  tries_err number says said first t acked log starts goes BootsSpent h =
      let here : GoesOn first steps acked t.server (item ∷ drop (i + 1) steps) = subst (λ (rest : List StoreStep). GoesOn first steps acked t.server rest) (next_item steps i item within is) goes in
      (said, log, inr (first, starts, here.spends (inl h)))
  tries_err number says said first t acked log starts goes NoMemory h = tt

-- behind the last step
pub all_tried : (first here : ServerState) (steps : List StoreStep) (i : ℕ) (acked : List Bool) → length steps ≤ i → GoesOn first steps acked here (drop i steps) → Tries first steps acked here
all_tried first here steps i acked past goes =
    let at_end : GoesOn first steps acked here [] = subst (λ (rest : List StoreStep). GoesOn first steps acked here rest) (drop_all i steps past) goes in
    subst (λ (flags : List Bool). Tries first steps flags here) (append-nil acked) (at_end.tries [] here refl)

-- a call that is no error
pub noted : {E : Type 0} → (P : Type 0) (r : Result (Unit {0}) E) → false ≡ is_err r → OnOk r P → P
noted P (Ok x) fine h = h
noted P (Err e) fine h = absurd (cc (fine))

-- ---- what crashes leave behind a call

never : (T : Type 0) (e : StoreFault) → AcksBy {T = T} (Err e) true → ⊥
never T Disk is = cc (is)
never T Broken is = cc (is)
never T fault.NoMemory is = is

pub says_stopped : (T : Type 0) (s after : ServerState) (disk spare disk' spare' : DiskLife) (done : Result T StoreFault) (acked : Bool)
    → IsCrashSafe s after (Some disk) (Some spare) done (Some disk') (Some spare') → AcksBy done acked → LeavesBothNow (Some disk') (Some spare') (SaysStopped acked s after)
says_stopped T s after disk spare disk' spare' (Ok x) true safe is = safe.answered x refl
says_stopped T s after disk spare disk' spare' (Ok x) false safe is = absurd (cc (is))
says_stopped T s after disk spare disk' spare' (Err e) true safe is = absurd (never T e is)
says_stopped T s after disk spare disk' spare' (Err e) false safe is = both_new (SaysEither s after) (Some disk) (Some spare) (Some disk') (Some spare') safe.since

-- ---- a call of a server that is not to be opened again

module _ {T : Type 0} (after : ServerState) (old : KeptState) (disk spare : Option DiskLife) (result : Result T StoreFault) (new : KeptState) (disk' spare' : Option DiskLife) where
  did_fresh : (x : T) (spent : Option StoreFault) (result : Result T StoreFault) → spent ≡ None → result ≡ Ok x → StepsSafely spent after old disk spare result new disk' spare' → (new.server ≡ after) × (new.spent ≡ None)
  did_fresh x None (Ok y) fresh is h = h.0
  did_fresh x None (Err e) fresh is h = absurd (cc (is))
  did_fresh x (Some e) result fresh is h = absurd (cc (fresh))

  pub did : (x : T) → old.spent ≡ None → result ≡ Ok x → StepsSafely old.spent after old disk spare result new disk' spare' → (new.server ≡ after) × (new.spent ≡ None)
  did x fresh is h = did_fresh x old.spent result fresh is h

  pub is_safe : old.spent ≡ None → StepsSafely old.spent after old disk spare result new disk' spare' → IsCrashSafe old.server after disk spare result disk' spare'
  is_safe fresh h =
      let here : StepsSafely None after old disk spare result new disk' spare' = subst (λ (o : Option StoreFault). StepsSafely o after old disk spare result new disk' spare') fresh h in
      here.1
