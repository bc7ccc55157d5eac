-- Records that wait become part of the log, and it is renewed behind them.
use Rattle.std.proofs.Common.{◌≡◌, ◌≢◌, ℕ, zero, suc, ◌+◌, true, false, List, [], ◌∷◌, ◌++◌, Option, Some, None, Result, Ok, Err, ◌⊎◌, inl, refl, sym, subst, ◌∙◌, arith, append-nil}
use Rattle.std.proofs.lemmas.Bool.{lt-ltb}
use Rattle.rpc_record.specs.declared.stream.Failed.{Failed}
use Rattle.cluster_model.specs.Server.{ServerState}
use Rattle.store_disk.specs.Disks.{DiskLife, LeavesSince}
use Rattle.store_disk.proofs.Leaving.{since_both, since_new, since_weaker}
use Rattle.gate_log.specs.Logs.{log_size}
use Rattle.gate_log.specs.Staging.{Stages}
use Rattle.twin_log.specs.declared.side.Side.{Side}
use Rattle.twin_log.specs.declared.side.Side.TheVariants as side
use Rattle.twin_log.specs.Twins.{TwinLog, Has, at_side, opposite}
use Rattle.twin_log.specs.KeptLogs.{IsFileOf, IsPassed, KeptLogState, StandsTwin, WaitsTwin, has_waiting, next_generation}
use Rattle.twin_log.specs.LogCalls.{OnSide, SealsTwin, TellAsBefore}
use Rattle.ds_log.specs.Durable.{durable, played, unbooted}
use Rattle.ds_store.specs.Kept.{IsLogOf, LeavesBoth, LogsStep, SaysEither, SaysServer, StandsOrWaits, WaitsServer, WaitsSince}
use Rattle.ds_store.specs.Renewals.{HasRenewedSize, Renews, SaysRenewed}
use Rattle.ds_store.proofs.BothDisks.{both_weaker, log_of}
use Rattle.ds_store.proofs.Appending.{append_since, renew_since}
use Rattle.ds_store.proofs.Waiting.{as_waits, generation_is, passed_then, settled_now, some_waits, still_none}

-- disks of which one tells nothing hold whatever log is asked
no_disk : (s : ServerState) (log : KeptLogState) (disk spare : Option DiskLife) → disk ≡ None → IsLogOf s log disk spare
no_disk s log disk spare none = subst (λ (o : Option DiskLife). IsLogOf s log o spare) (sym none) tt

no_spare : (s : ServerState) (log : KeptLogState) (disk spare : Option DiskLife) → spare ≡ None → IsLogOf s log disk spare
no_spare s log None spare none = tt
no_spare s log (Some d) spare none = subst (λ (o : Option DiskLife). IsLogOf s log (Some d) o) (sym none) tt

module _ (settled s : ServerState) (log : KeptLogState) where
  untold_disk : {E : Type 0} (began_spare : Option DiskLife) (result : Result (Unit {0}) E) (new : KeptLogState) (disk' spare' : Option DiskLife) → disk' ≡ None → LogsStep settled s None began_spare result new disk' spare'
  untold_disk began_spare result new disk' spare' none = record { since = none; kept = λ x ok. no_disk s new disk' spare' none }

  untold_spare : {E : Type 0} (b : DiskLife) (result : Result (Unit {0}) E) (new : KeptLogState) (disk' spare' : Option DiskLife) → spare' ≡ None → LogsStep settled s (Some b) None result new disk' spare'
  untold_spare b result new disk' spare' none = record { since = none; kept = λ x ok. no_spare s new disk' spare' none }

  -- ---- nothing waits

  -- a disk that tells has the records that wait
  none_told : (told : Option DiskLife) (life : DiskLife) (P : List ℕ → Type 0) (began : Option DiskLife) → began ≡ Some life → LeavesSince began told P → (all waiting : List (List ℕ)) → Stages told all waiting log.end log.at → has_waiting log ≡ false
      → log_size waiting ≡ 0
  none_told told life P None is leaves all waiting stages none = absurd (cc (is))
  none_told None life P (Some b) is leaves all waiting stages none = absurd (cc (leaves.1))
  none_told (Some now) life P (Some b) is leaves all waiting stages none = sizes (log_size waiting) stages.at_is
    where
      sizes : (n : ℕ) → log.at ≡ log.end + n → n ≡ 0
      sizes zero at = refl
      sizes (suc n) at = let more = lt-ltb log.end log.at (omega (arith, at)) in absurd (cc (more, none))

  -- one of two disks that tell does
  began_tells : (x : Side) (b bs : DiskLife) → (life : DiskLife) × (at_side x (Some b) (Some bs) ≡ Some life)
  began_tells side.Disk b bs = (b, refl)
  began_tells side.Spare b bs = (bs, refl)

  module _ (b bs : DiskLife) (disk spare : Option DiskLife) (w : WaitsServer settled s log (Some b) (Some bs) disk spare) where
    -- where none waits the disks hold the server's log
    stands_now : (waiting : List (List ℕ)) → StandsOrWaits log w.generation w.start w.bodies waiting disk spare → played (unbooted settled.number) w.start (w.bodies ++ waiting) ≡ Ok (durable s) → has_waiting log ≡ false → IsLogOf s log disk spare
    stands_now [] stands says none =
        log_of s log w.generation w.start w.bodies disk spare stands
        (subst (λ (n : ℕ). played (unbooted n) w.start w.bodies ≡ Ok (durable s)) w.number (subst (λ (l : List (List ℕ)). played (unbooted settled.number) w.start l ≡ Ok (durable s)) (append-nil w.bodies) says))
    stands_now (body ∷ waiting) stands says none =
        let tells = began_tells log.side b bs in
        let size = none_told (at_side log.side disk spare) tells.0 (IsFileOf w.generation w.start w.bodies) (at_side log.side (Some b) (Some bs)) tells.1 w.crash.leaves stands.all (body ∷ waiting) stands.own none in
        absurd (omega (arith, size))

    settles_none : has_waiting log ≡ false → IsLogOf s log disk spare
    settles_none none = stands_now w.waiting w.stands w.says_then none

  pub logs_none : {E : Type 0} (began began_spare disk spare : Option DiskLife) (result : Result (Unit {0}) E) → WaitsSince settled s log began began_spare disk spare → has_waiting log ≡ false → LogsStep settled s began began_spare result log disk spare
  logs_none None began_spare disk spare result w none = untold_disk began_spare result log disk spare w
  logs_none (Some b) None disk spare result w none = untold_spare b result log disk spare w
  logs_none (Some b) (Some bs) disk spare result w none = record {
    since = both_weaker (SaysServer settled) (SaysEither settled s) (λ left left_spare says. inl says) (Some b) (Some bs) disk spare (settled_now settled s log (Some b) (Some bs) disk spare w);
    kept = λ x ok. settles_none b bs disk spare w none;
  }

  -- nothing is settled
  pub logs_not : {E : Type 0} (began began_spare disk spare : Option DiskLife) (e : E) → WaitsSince settled s log began began_spare disk spare → LogsStep settled s began began_spare (Err e) log disk spare
  logs_not began began_spare disk spare e w = record {
    since = both_weaker (SaysServer settled) (SaysEither settled s) (λ left left_spare says. inl says) began began_spare disk spare (settled_now settled s log began began_spare disk spare w);
    kept = λ x ok. absurd (cc (ok));
  }

  -- ---- records that wait become part of the log

  module _ (disk spare : Option DiskLife) (result : Result (Unit {0}) Failed) (log1 : KeptLogState) (disk1 spare1 : Option DiskLife) (waits : has_waiting log ≡ true)
      (seals : (generation start : ℕ) (bodies staged : List (List ℕ)) → WaitsTwin log generation start bodies staged disk spare → staged ≢ [] → SealsTwin log disk spare generation start bodies staged result log1 disk1 spare1)
      (tells : TellAsBefore disk spare disk1 spare1) where
    module _ (began began_spare : Option DiskLife) (w : WaitsServer settled s log began began_spare disk spare) where
      sealed : SealsTwin log disk spare w.generation w.start w.bodies w.waiting result log1 disk1 spare1
      sealed =
          seals w.generation w.start w.bodies w.waiting (as_waits log w.generation w.start w.bodies disk spare w.waiting w.stands) (some_waits log w.generation w.start w.bodies disk spare w.waiting w.stands waits)

      number_is : log.generation ≡ Some w.generation
      number_is = generation_is log w.generation w.start w.bodies disk spare w.waiting w.stands

      says_then : played (unbooted s.number) w.start (w.bodies ++ w.waiting) ≡ Ok (durable s)
      says_then = subst (λ (n : ℕ). played (unbooted n) w.start (w.bodies ++ w.waiting) ≡ Ok (durable s)) w.number w.says_then

      abbrev Either : List ℕ → Type 0
      Either left = IsFileOf w.generation w.start w.bodies left ⊎ IsFileOf w.generation w.start (w.bodies ++ w.waiting) left

      seal_crash : OnSide log.side began began_spare disk1 spare1 Either
      seal_crash = record {
        leaves =
            since_both Either (at_side log.side began began_spare) (at_side log.side disk spare) (at_side log.side disk1 spare1)
            (since_weaker (IsFileOf w.generation w.start w.bodies) Either (at_side log.side began began_spare) (at_side log.side disk spare) (λ left is. inl is) w.crash.leaves) sealed.crash.leaves;
        others = sealed.crash.others ∙ w.crash.others;
      }

      seal_since : LeavesBoth began began_spare disk1 spare1 (SaysEither settled s)
      seal_since =
          append_since settled s log w.generation w.start w.bodies w.waiting number_is w.says says_then began began_spare disk1 spare1 (passed_then settled s log began began_spare disk spare w) seal_crash

      seal_step : {E : Type 0} (answer : Result (Unit {0}) E) → ((x : Unit {0}) → answer ≡ Ok x → result ≡ Ok x) → LogsStep settled s began began_spare answer log1 disk1 spare1
      seal_step answer done = record { since = seal_since; kept = λ x ok. log_of s log1 w.generation w.start (w.bodies ++ w.waiting) disk1 spare1 (sealed.kept x (done x ok)) says_then }

      -- and the log is renewed behind them
      module _ (x : Unit {0}) (ok : result ≡ Ok x) (side : log1.side ≡ log.side) (generation : log1.generation ≡ log.generation) (renewal : Result (Unit {0}) Failed) (log2 : KeptLogState) (disk2 spare2 : Option DiskLife)
          (renews : (says : TwinLog) → StandsTwin log1 says disk1 spare1 → Renews s log1 disk1 spare1 renewal log2 disk2 spare2) where
        pub renewed : Renews s log1 disk1 spare1 renewal log2 disk2 spare2
        renewed = renews (Has w.generation w.start (w.bodies ++ w.waiting)) (sealed.kept x ok)

        abbrev Passed : List ℕ → Type 0
        Passed left = IsPassed log.generation left ⊎ SaysRenewed s (next_generation log.generation) left

        renew_crash : OnSide (opposite log.side) disk1 spare1 disk2 spare2 Passed
        renew_crash =
            subst (λ (x : Side). OnSide (opposite x) disk1 spare1 disk2 spare2 Passed) side
            (subst (λ (g : Option ℕ). OnSide (opposite log1.side) disk1 spare1 disk2 spare2 (λ left. IsPassed g left ⊎ SaysRenewed s (next_generation g) left)) generation renewed.crash)

        renew_step : LogsStep settled s began began_spare renewal log2 disk2 spare2
        renew_step = record {
          since =
              renew_since settled s log w.generation w.start w.bodies w.waiting number_is w.says says_then began began_spare disk1 spare1 (passed_then settled s log began began_spare disk spare w) seal_crash disk2 spare2 renew_crash
              (since_new Either (at_side log.side began began_spare) (at_side log.side disk1 spare1) seal_crash.leaves);
          kept = renewed.kept;
        }

    pub logs_sealed : {E : Type 0} (answer : Result (Unit {0}) E) → ((x : Unit {0}) → answer ≡ Ok x → result ≡ Ok x) → (began began_spare : Option DiskLife) → WaitsSince settled s log began began_spare disk spare
        → LogsStep settled s began began_spare answer log1 disk1 spare1
    logs_sealed answer done None began_spare w = untold_disk began_spare answer log1 disk1 spare1 (still_none disk disk1 w tells.0)
    logs_sealed answer done (Some b) None w = untold_spare b answer log1 disk1 spare1 (still_none spare spare1 w tells.1)
    logs_sealed answer done (Some b) (Some bs) w = seal_step (Some b) (Some bs) w answer done

    module _ (x : Unit {0}) (ok : result ≡ Ok x) (side : log1.side ≡ log.side) (generation : log1.generation ≡ log.generation) (renewal : Result (Unit {0}) Failed) (log2 : KeptLogState) (disk2 spare2 : Option DiskLife)
        (renews : (says : TwinLog) → StandsTwin log1 says disk1 spare1 → Renews s log1 disk1 spare1 renewal log2 disk2 spare2) (tells2 : TellAsBefore disk1 spare1 disk2 spare2) where
      pub logs_renewed : (began began_spare : Option DiskLife) → WaitsSince settled s log began began_spare disk spare → LogsStep settled s began began_spare renewal log2 disk2 spare2
      logs_renewed None began_spare w = untold_disk began_spare renewal log2 disk2 spare2 (still_none disk1 disk2 (still_none disk disk1 w tells.0) tells2.0)
      logs_renewed (Some b) None w = untold_spare b renewal log2 disk2 spare2 (still_none spare1 spare2 (still_none spare spare1 w tells.1) tells2.1)
      logs_renewed (Some b) (Some bs) w = renew_step (Some b) (Some bs) w x ok side generation renewal log2 disk2 spare2 renews

      pub size_renewed : (began began_spare : Option DiskLife) → WaitsSince settled s log began began_spare disk spare → (y : Unit {0}) → renewal ≡ Ok y → HasRenewedSize s log2 disk2 spare2
      size_renewed None began_spare w y done = subst (λ (t : Option DiskLife). HasRenewedSize s log2 t spare2) (sym (still_none disk1 disk2 (still_none disk disk1 w tells.0) tells2.0)) tt
      size_renewed (Some b) None w y done = subst (HasRenewedSize s log2 disk2) (sym (still_none spare1 spare2 (still_none spare spare1 w tells.1) tells2.1)) (no_size disk2)
        where
          no_size : (t : Option DiskLife) → HasRenewedSize s log2 t None
          no_size None = tt
          no_size (Some life) = tt
      size_renewed (Some b) (Some bs) w y done = (renewed (Some b) (Some bs) w x ok side generation renewal log2 disk2 spare2 renews).size y done
