-- What a call does to a server that is kept.
use Rattle.std.proofs.Common.{◌≡◌, ℕ, ◌<◌, arith, List, length, OnOk, Option, Some, None, Result, Ok, Err, inl, inr, refl, sym, ap, subst, ◌∙◌}
use Rattle.std.specs.Prelude.{slice_get}
use Rattle.cluster_model.specs.File.{StoredFile}
use Rattle.cluster_model.specs.Server.{ServerState, Effect, NoEffect, NewFile, OnFile, on_file, server_after}
use Rattle.store_disk.specs.Disks.{DiskLife}
use Rattle.ds_files.specs.Decisions.{CanDo, effect_of}
use Rattle.ds_files.specs.Receive.{outcome_of}
use Rattle.ds_files.proofs.Deciding.{after_record}
use Rattle.ds_log.specs.Durable.{applied_as, applied_bytes, durable}
use Rattle.ds_log.specs.Steady.{IsSteady}
use Rattle.ds_changes.specs.Logging.{Logs}
use Rattle.ds_changes.proofs.Keeping.{same_boot, steady_after}
use Rattle.ds_changes.proofs.Lasting.{body_logged, nothing_logged}
use Rattle.ds_store.specs.declared.fault.StoreFault.{StoreFault}
use Rattle.ds_store.specs.declared.fault.StoreFault.TheVariants.{Disk, Broken, NoMemory}
use Rattle.ds_store.specs.Kept.{Becomes, IsCrashSafe, IsLogOf, IsRecordOf, KeptState, LogsStep, SaysEither, SaysServer, SpendsBy, StandsOnDisks, StepsSafely, TakesSince, WaitsForOne, WaitsSince}
use Rattle.ds_store.proofs.Numbers.{number_after}
use Rattle.twin_log.specs.KeptLogs.{KeptLogState}
use Rattle.twin_log.specs.LogCalls.{staged_log}
use Rattle.ds_store.proofs.BothDisks.{both_weaker, says_now}
use Rattle.ds_store.proofs.Waiting.{settled_now, waits_as, waits_from}

-- ---- the record of a step

pub record_made : (s : ServerState) (what : Effect) (body : Option (List ℕ)) → IsSteady s → CanDo s what → Logs s what body → IsRecordOf s what body
record_made s what None steady can logs = nothing_logged s what steady can logs
record_made s what (Some bytes) steady can logs = ap (applied_as (durable s)) logs.spelled.again ∙ body_logged s what logs.body steady can logs.of

-- a server goes on being steady
pub steady_on : (server old new : ServerState) (what : Effect) → server ≡ old → IsSteady server → CanDo old what → new ≡ server_after server what → IsSteady new
steady_on server old new what same steady can made = subst IsSteady (sym made) (steady_after server what steady (subst (λ (s : ServerState). CanDo s what) (sym same) can))

-- no effect begins a boot
boot_after : (s : ServerState) (what : Effect) → CanDo s what → (server_after s what).clock.boot ≡ s.clock.boot
boot_after s NoEffect can = refl
boot_after s (NewFile name owner group mode) can = refl
boot_after s (OnFile index op) can = by_file (slice_get s.files index) refl
  where
    by_file : (o : Option StoredFile) → slice_get s.files index ≡ o → (on_file s index op o).clock.boot ≡ s.clock.boot
    by_file None is = refl
    by_file (Some f) is = same_boot s.clock op s f (can.ready.1 f is)

-- so one that has begun goes on in it
pub booted_on : (server old new : ServerState) (what : Effect) → server ≡ old → 0 < server.clock.boot → CanDo old what → new ≡ server_after server what → 0 < new.clock.boot
booted_on server old new what same booted can made =
    let boot : (server_after server what).clock.boot ≡ server.clock.boot = boot_after server what (subst (λ (s : ServerState). CanDo s what) (sym same) can) in
    let new_boot : new.clock.boot ≡ (server_after server what).clock.boot = ap (λ (s : ServerState). s.clock.boot) made in
    omega (arith, booted, boot, new_boot)

-- ---- a call

none_of : (o : Option StoreFault) → ((fault : StoreFault) → o ≡ Some fault → ⊥) → o ≡ None
none_of None other = refl
none_of (Some fault) other = absurd (other fault refl)

-- it goes on, by its fields
pub going : (inside k : KeptState) → inside ≡ k → ((fault : StoreFault) → inside.spent ≡ Some fault → ⊥) → k.spent ≡ None
going inside k same other = ap (λ (s : KeptState). s.spent) (sym same) ∙ none_of inside.spent other

pub steps : {T : Type 0} (after wanted : ServerState) (k : KeptState) (disk spare : Option DiskLife) (result : Result T StoreFault) (new : KeptState) (disk' spare' : Option DiskLife) → after ≡ wanted → k.spent ≡ None
    → Becomes after k disk spare result new disk' spare' → IsCrashSafe k.server after disk spare result disk' spare' → StepsSafely k.spent wanted k disk spare result new disk' spare'
steps after wanted k disk spare result new disk' spare' same none becomes crash =
    subst (λ (s : ServerState). StepsSafely k.spent s k disk spare result new disk' spare') same
    (subst (λ (o : Option StoreFault). StepsSafely o after k disk spare result new disk' spare') (sym none) (becomes, crash))

-- what was decided of a record makes the server of its outcome
pub after_decision : (inside k : KeptState) (what : Effect) (message : List ℕ) → inside ≡ k → what ≡ effect_of inside.server message → server_after k.server what ≡ (outcome_of k.server message).server
after_decision inside k what message same is = ap (server_after k.server) (is ∙ ap (λ (b : KeptState). effect_of b.server message) same) ∙ after_record k.server message

-- ---- what is to be done is done in memory, and then its record is written

module _ (k before : KeptState) (same : k ≡ before) (what : Effect) (server : ServerState) (made : server ≡ server_after k.server what) where
  wanted : server ≡ server_after before.server what
  wanted = made ∙ ap (λ (b : KeptState). server_after b.server what) same

  pub number : before.server.number ≡ server.number
  number = number_after before.server what ∙ ap (λ (s : ServerState). s.number) (sym wanted)

  module _ (last : KeptState) (server_stays : last.server ≡ server) (disk spare disk' spare' : Option DiskLife) where
    by_result : (r : Result (Unit {0}) StoreFault) → SpendsBy r last.spent → Becomes server before disk spare r last disk' spare'
    by_result (Ok x) spent = (server_stays, spent)
    by_result (Err Disk) spent = spent
    by_result (Err Broken) spent = absurd spent
    by_result (Err NoMemory) spent = inl spent

    pub becomes : (result : Result (Unit {0}) StoreFault) → SpendsBy result last.spent → Becomes (server_after before.server what) before disk spare result last disk' spare'
    becomes result spends = subst (λ (s : ServerState). Becomes s before disk spare result last disk' spare') wanted (by_result result spends)

  pub body_made : (body : List ℕ) → IsRecordOf k.server what (Some body) → applied_bytes (durable before.server) body ≡ Some (durable server)
  body_made body is_record = subst (λ (b : KeptState). IsRecordOf b.server what (Some body)) same is_record ∙ ap (λ (s : ServerState). Some (durable s)) (sym wanted)

  pub none_made : IsRecordOf k.server what None → durable server ≡ durable before.server
  none_made is_record = ap durable wanted ∙ subst (λ (b : KeptState). IsRecordOf b.server what None) same is_record

  -- nothing of it is to be logged
  pub takes_none : {T : Type 0} (last : KeptState) → last.server ≡ server → last.log ≡ before.log → (disk spare : Option DiskLife) (result : Result T StoreFault) → IsRecordOf k.server what None
      → (settled : ServerState) (began began_spare : Option DiskLife) → WaitsSince settled before.server before.log began began_spare disk spare → TakesSince settled began began_spare result last disk spare
  takes_none last server_is log_is disk spare result is_record settled began began_spare w = record {
    since = settled_now settled before.server before.log began began_spare disk spare w;
    waits = λ x ok.
        subst (λ (s : ServerState). WaitsSince settled s last.log began began_spare disk spare) (sym server_is)
        (subst (λ (l : KeptLogState). WaitsSince settled server l began began_spare disk spare) (sym log_is)
        (waits_as settled before.server before.log server began began_spare disk spare number (none_made is_record) w));
  }

-- ---- a call is taken, and what waits is settled

module _ (after : ServerState) (old : KeptState) (disk spare : Option DiskLife) (going : old.spent ≡ None) (stands : StandsOnDisks old disk spare) where
  pub waits_before : WaitsSince old.server old.server old.log disk spare disk spare
  waits_before = waits_from old.server old.log disk spare (stands going)

  -- it was not taken
  pub not_taken : {T : Type 0} (result : Result T StoreFault) (e : StoreFault) (new : KeptState) (disk' spare' : Option DiskLife) → result ≡ Err e → TakesSince old.server disk spare result new disk' spare'
      → IsCrashSafe old.server after disk spare result disk' spare'
  not_taken result e new disk' spare' is takes = record {
    since = both_weaker (SaysServer old.server) (SaysEither old.server after) (λ left left_spare says. inl says) disk spare disk' spare' takes.since;
    answered = λ x ok. absurd (cc (is, ok));
  }

  stands_as : {T : Type 0} (r : Result T StoreFault) (new : KeptState) (disk' spare' : Option DiskLife) → Becomes after old disk spare r new disk' spare' → (e : StoreFault) → r ≡ Err e → StandsOnDisks new disk' spare'
  stands_as (Ok x) new disk' spare' its e is = absurd (cc (is))
  stands_as (Err Disk) new disk' spare' its e is = λ none. absurd (cc (its, none))
  stands_as (Err Broken) new disk' spare' its e is = absurd its
  stands_as (Err NoMemory) new disk' spare' (inl spent) e is = λ none. absurd (cc (spent, none))
  stands_as (Err NoMemory) new disk' spare' (inr same) e is =
      subst (λ (k : KeptState). StandsOnDisks k disk' spare') (sym same.0)
      (subst (λ (t : Option DiskLife). StandsOnDisks old t spare') (sym same.1.0) (subst (λ (t : Option DiskLife). StandsOnDisks old disk t) (sym same.1.1) stands))

  pub stands_not_taken : {T : Type 0} (result : Result T StoreFault) (e : StoreFault) (new : KeptState) (disk' spare' : Option DiskLife) → result ≡ Err e → Becomes after old disk spare result new disk' spare' → StandsOnDisks new disk' spare'
  stands_not_taken result e new disk' spare' is its = stands_as result new disk' spare' its e is

  -- it was taken, and this is how what waits was settled
  module _ {T : Type 0} (x : T) (mid : KeptState) (disk1 spare1 : Option DiskLife) (taken : Becomes after old disk spare (Ok x) mid disk1 spare1) (takes : TakesSince {T = T} old.server disk spare (Ok x) mid disk1 spare1)
      (settled : Result (Unit {0}) StoreFault) (new : KeptState) (disk2 spare2 : Option DiskLife) (server : new.server ≡ mid.server) (spends : SpendsBy settled new.spent)
      (settles : (s : ServerState) (began began_spare : Option DiskLife) → WaitsSince s mid.server mid.log began began_spare disk1 spare1 → LogsStep s mid.server began began_spare settled new.log disk2 spare2) where
    step : LogsStep old.server mid.server disk spare settled new.log disk2 spare2
    step = settles old.server disk spare (takes.waits x refl)

    step_after : LogsStep old.server after disk spare settled new.log disk2 spare2
    step_after = subst (λ (s : ServerState). LogsStep old.server s disk spare settled new.log disk2 spare2) taken.0 step

    pub settled_safe : {U : Type 0} (answer : Result U StoreFault) → ((u : U) → answer ≡ Ok u → settled ≡ Ok tt) → IsCrashSafe old.server after disk spare answer disk2 spare2
    settled_safe answer done = record {
      since = step_after.since;
      answered = λ u ok. says_now after new.log disk2 spare2 (step_after.kept tt (done u ok));
    }

    answered_by : {U : Type 0} (r : Result (Unit {0}) StoreFault) → SpendsBy r new.spent → (answer : Result U StoreFault) → ((u : U) → answer ≡ Ok u → r ≡ Ok tt) → ((e : StoreFault) → answer ≡ Err e → r ≡ Err e) → Becomes after old disk spare answer new disk2 spare2
    answered_by (Ok y) spent (Ok u) done failed = (server ∙ taken.0, spent)
    answered_by (Ok y) spent (Err e) done failed = absurd (cc (failed e refl))
    answered_by (Err e) spent (Ok u) done failed = absurd (cc (done u refl))
    answered_by {U = U} (Err e) spent (Err f) done failed = by_fault f (subst (λ (r : Result (Unit {0}) StoreFault). SpendsBy r new.spent) (failed f refl) spent)
      where
        by_fault : (g : StoreFault) → SpendsBy {T = Unit {0}} (Err g) new.spent → Becomes {T = U} after old disk spare (Err g) new disk2 spare2
        by_fault Disk s = s
        by_fault Broken s = absurd s
        by_fault NoMemory s = inl s

    pub settled_becomes : {U : Type 0} (answer : Result U StoreFault) → ((u : U) → answer ≡ Ok u → settled ≡ Ok tt) → ((e : StoreFault) → answer ≡ Err e → settled ≡ Err e) → Becomes after old disk spare answer new disk2 spare2
    settled_becomes answer done failed = answered_by settled spends answer done failed

    stands_by : (r : Result (Unit {0}) StoreFault) → settled ≡ r → SpendsBy r new.spent → StandsOnDisks new disk2 spare2
    stands_by (Ok y) is spent none = subst (λ (s : ServerState). IsLogOf s new.log disk2 spare2) (sym server) (step.kept y is)
    stands_by (Err Disk) is spent none = absurd (cc (spent, none))
    stands_by (Err Broken) is spent none = absurd spent
    stands_by (Err NoMemory) is spent none = absurd (cc (spent, none))

    pub stands_then : StandsOnDisks new disk2 spare2
    stands_then = stands_by settled refl spends

-- one record more waits, where it was written
pub one_on : (before after : ServerState) (old new : KeptLogState) (body : List ℕ) (result : Result (Unit {0}) StoreFault) → applied_bytes (durable before) body ≡ Some (durable after) → OnOk result (new ≡ staged_log old (length body)) → OnOk result (WaitsForOne before old after new)
one_on before after old new body (Ok x) made is = inr (body, made, is)
one_on before after old new body (Err e) made is = tt
