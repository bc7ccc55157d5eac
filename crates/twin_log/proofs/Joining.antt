-- Calls of a log as calls of the log with its disks.
use Rattle.std.proofs.Common.{◌≡◌, ℕ, Bool, true, false, List, [], ◌∷◌, ◌++◌, Option, Some, None, Result, Ok, Err, OnErr, ◌⊎◌, inl, refl, sym, subst, ◌∙◌}
use Rattle.rpc_record.specs.declared.stream.Failed.{Failed}
use Rattle.rpc_record.specs.declared.stream.Failed.TheVariants as failed
use Rattle.store_disk.specs.Disks.{DiskLife, AllImages, LeavesSince}
use Rattle.store_disk.proofs.Leaving.{Told, since_both, since_none, since_weaker}
use Rattle.gate_log.specs.Staging.{Stages}
use Rattle.gate_log.proofs.StageLemmas.{same_bodies, waits_in}
use Rattle.twin_log.specs.declared.side.Side.{Side}
use Rattle.twin_log.specs.declared.fault.LogCause.{LogCause}
use Rattle.twin_log.specs.declared.fault.LogCause.TheVariants as cause
use Rattle.twin_log.specs.declared.fault.LogError.{LogError}
use Rattle.twin_log.specs.Twins.{TwinLog, at_side, generation_body, opposite}
use Rattle.twin_log.specs.KeptLogs.{IsFileOf, IsPassed, KeptLogState, RenewsTwin, next_generation}
use Rattle.twin_log.specs.LogCalls.{AppendsTwin, CountsTwins, EndsRenewal, OnSide, PutsMore, ReadsOn, SealsTwin, WaitsMore, WhereTold, plain_cause, renewed_place}
use Rattle.twin_log.specs.LogErrors.{log_answer, read_answer}
use Rattle.twin_log.specs.GateLogs.{GateLogState, ReadsBodyOn}
use Rattle.twin_log.proofs.Sides.{passed_none}

-- ---- a body waits, and then becomes part of the log

module _ (old : KeptLogState) (generation start : ℕ) (bodies : List (List ℕ)) (body : List ℕ) (disk spare : Option DiskLife) where
  abbrev WithOrWithout : List ℕ → Type 0
  WithOrWithout left = IsFileOf generation start bodies left ⊎ IsFileOf generation start (bodies ++ body ∷ []) left

  module _ (result : Result (Unit {0}) Failed) (staged : KeptLogState) (disk1 spare1 : Option DiskLife) (more : WaitsMore old disk spare generation start bodies [] body result staged disk1 spare1) where
    waits_since : LeavesSince (at_side old.side disk spare) (at_side old.side disk1 spare1) WithOrWithout
    waits_since = since_weaker (IsFileOf generation start bodies) WithOrWithout (at_side old.side disk spare) (at_side old.side disk1 spare1) (λ left h. inl h) more.crash.leaves

    pub append_fails : (answer : Result (Unit {0}) Failed) (e : Failed) → answer ≡ Err e → (new : KeptLogState) → AppendsTwin old disk spare generation start bodies body answer new disk1 spare1
    append_fails answer e is new = record { crash = record { leaves = waits_since; others = more.crash.others }; kept = λ x ok. absurd (cc (is, ok)) }

    pub append_ends : staged.side ≡ old.side → (answer : Result (Unit {0}) Failed) (new : KeptLogState) (disk2 spare2 : Option DiskLife) → SealsTwin staged disk1 spare1 generation start bodies (body ∷ []) answer new disk2 spare2
        → AppendsTwin old disk spare generation start bodies body answer new disk2 spare2
    append_ends same answer new disk2 spare2 seals =
        let crash = subst (λ (side : Side). OnSide side disk1 spare1 disk2 spare2 WithOrWithout) same seals.crash in
        record {
          crash = record {
            leaves = since_both WithOrWithout (at_side old.side disk spare) (at_side old.side disk1 spare1) (at_side old.side disk2 spare2) waits_since crash.leaves;
            others = crash.others ∙ more.crash.others;
          };
          kept = seals.kept;
        }

-- ---- what is answered

answered_ok : (went : Result (Unit {0}) Failed) (answer : Result (Unit {0}) LogError) (x : Unit {0}) → answer ≡ log_answer went → answer ≡ Ok x → went ≡ Ok x
answered_ok (Ok y) answer x is ok = refl
answered_ok (Err failed.Fault) answer x is ok = absurd (cc (is, ok))
answered_ok (Err failed.NoMemory) answer x is ok = absurd (cc (is, ok))

module _ (old new : KeptLogState) (disk spare disk' spare' : Option DiskLife) (went : Result (Unit {0}) Failed) (answer : Result (Unit {0}) LogError) (is : answer ≡ log_answer went) where
  pub appends_by : (generation start : ℕ) (bodies : List (List ℕ)) (record_body body : List ℕ) → record_body ≡ body → AppendsTwin old disk spare generation start bodies record_body went new disk' spare'
      → AppendsTwin old disk spare generation start bodies body answer new disk' spare'
  appends_by generation start bodies record_body body same h =
      let of_body = subst (λ (b : List ℕ). AppendsTwin old disk spare generation start bodies b went new disk' spare') same h in
      record { crash = of_body.crash; kept = λ x ok. of_body.kept x (answered_ok went answer x is ok) }

  pub puts_by : (says : TwinLog) (put : List (List ℕ)) (record_body body : List ℕ) → record_body ≡ body → PutsMore old disk spare says put record_body went new disk' spare' → PutsMore old disk spare says put body answer new disk' spare'
  puts_by says put record_body body same h =
      let of_body = subst (λ (b : List ℕ). PutsMore old disk spare says put b went new disk' spare') same h in
      record { crash = of_body.crash; kept = λ x ok. of_body.kept x (answered_ok went answer x is ok) }

  pub ends_by : (put : List (List ℕ)) → EndsRenewal old disk spare put went new disk' spare' → EndsRenewal old disk spare put answer new disk' spare'
  ends_by put h = record { crash = h.crash; kept = λ x ok. h.kept x (answered_ok went answer x is ok) }

-- ---- nothing was done

renewing_now : (told : Option DiskLife) (generation : Option ℕ) (staged : List (List ℕ)) (at : ℕ) → Stages told [] staged 0 at → Told told (λ life. AllImages (IsPassed generation) life.now)
renewing_now None generation staged at s = tt
renewing_now (Some life) generation staged at s = λ left image. passed_none generation left (same_bodies life.now.seen [] 0 (waits_in life [] staged 0 at s).has left (s.left left image))

module _ (log : KeptLogState) (says : TwinLog) (put : List (List ℕ)) (disk spare : Option DiskLife) (renews : RenewsTwin log says put disk spare) where
  still_passed : LeavesSince (at_side (opposite log.side) disk spare) (at_side (opposite log.side) disk spare) (IsPassed log.generation)
  still_passed =
      since_none (IsPassed log.generation) (at_side (opposite log.side) disk spare)
      (renewing_now (at_side (opposite log.side) disk spare) log.generation (generation_body (next_generation log.generation) ∷ put) renews.renewed renews.target)

  pub puts_none : (body : List ℕ) (e : LogError) → PutsMore {E = LogError} log disk spare says put body (Err e) log disk spare
  puts_none body e = record { crash = record { leaves = still_passed; others = refl }; kept = λ x ok. absurd (cc (ok)) }

  abbrev PassedOrNew : List ℕ → Type 0
  PassedOrNew left = IsPassed log.generation left ⊎ IsFileOf (next_generation log.generation) (renewed_place (next_generation log.generation)) put left

  pub ends_none : (e : LogError) → EndsRenewal {E = LogError} log disk spare put (Err e) log disk spare
  ends_none e = record {
    crash = record {
      leaves = since_weaker (IsPassed log.generation) PassedOrNew (at_side (opposite log.side) disk spare) (at_side (opposite log.side) disk spare) (λ left h. inl h) still_passed;
      others = refl;
    };
    kept = λ x ok. absurd (cc (ok));
  }

-- ---- reading

module _ (start : ℕ) (done rest : List (List ℕ)) (old new : GateLogState) (body : List ℕ) where
  read_by : (went : Result Bool LogCause) → OnErr went (new.log ≡ old.log) → CountsTwins (plain_cause went) old.disk_faults old.spare_faults new.disk_faults new.spare_faults → ReadsOn start done rest old.log went body new.log
      → ReadsBodyOn start done rest old (read_answer went) body new
  read_by (Ok true) same counts reads = reads
  read_by (Ok false) same counts reads = reads
  read_by (Err cause.Disk) same counts reads = (same, counts)
  read_by (Err (cause.BadLog place)) same counts reads = absurd reads
  read_by (Err cause.NoMemory) same counts reads = same

  pub reads_by : (told : Option DiskLife) (went : Result Bool LogCause) (answer : Result Bool LogError) → answer ≡ read_answer went → OnErr went (new.log ≡ old.log)
      → CountsTwins (plain_cause went) old.disk_faults old.spare_faults new.disk_faults new.spare_faults → WhereTold told (ReadsOn start done rest old.log went body new.log) → WhereTold told (ReadsBodyOn start done rest old answer body new)
  reads_by None went answer is same counts reads = tt
  reads_by (Some life) went answer is same counts reads = subst (λ (r : Result Bool LogError). ReadsBodyOn start done rest old r body new) (sym is) (read_by went same counts reads)
