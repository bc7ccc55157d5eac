-- A record is appended, with which the log says another server, and the log is renewed behind it.
use Rattle.std.proofs.Common.{◌≡◌, ℕ, List, [], ◌∷◌, ◌++◌, Option, Some, Result, Ok, Err, ◌⊎◌, inl, inr, ap, subst, ◌∙◌}
use Rattle.cluster_model.specs.Server.{ServerState}
use Rattle.store_disk.specs.Disks.{DiskLife, AllImages, LeavesSince}
use Rattle.store_disk.proofs.Leaving.{Told, since_both, since_same, since_weaker}
use Rattle.twin_log.specs.Twins.{Has, at_side, opposite}
use Rattle.twin_log.specs.KeptLogs.{IsFileOf, IsPassed, KeptLogState, StandsPassed, next_generation}
use Rattle.twin_log.specs.LogCalls.{OnSide}
use Rattle.twin_log.proofs.Sides.{own_same}
use Rattle.ds_log.specs.Durable.{applied_bytes, durable, played, unbooted}
use Rattle.ds_log.proofs.Plays.{played_push}
use Rattle.ds_store.specs.declared.fault.StoreFault.{StoreFault}
use Rattle.ds_store.specs.Kept.{IsCrashSafe, IsLogOf, LeavesBoth, LogsStep, SaysEither, SaysServer, said_by}
use Rattle.ds_store.specs.Renewals.{SaysRenewed}
use Rattle.ds_store.proofs.BothDisks.{both_since, passed_images, says_now, says_renewed, says_together}

-- ---- nothing is appended

-- a call that failed answers nothing
pub in_part : {T : Type 0} (before after : ServerState) (disk spare : Option DiskLife) (e : StoreFault) (disk' spare' : Option DiskLife) → LeavesBoth disk spare disk' spare' (SaysEither before after)
    → IsCrashSafe {T = T} before after disk spare (Err e) disk' spare'
in_part before after disk spare e disk' spare' since = record { since = since; answered = λ x ok. absurd (cc (ok)) }

pub answers : {T : Type 0} (before after : ServerState) (disk spare : Option DiskLife) (result : Result T StoreFault) (disk' spare' : Option DiskLife) (log : KeptLogState)
    → LeavesBoth disk spare disk' spare' (SaysEither before after) → IsLogOf after log disk' spare' → IsCrashSafe before after disk spare result disk' spare'
answers before after disk spare result disk' spare' log since keeps = record { since = since; answered = λ x ok. says_now after log disk' spare' keeps }

-- ---- a record is appended

-- the log with one body more
pub longer : (before after : ServerState) (body : List ℕ) → before.number ≡ after.number → applied_bytes (durable before) body ≡ Some (durable after) → (start : ℕ) (bodies : List (List ℕ))
    → played (unbooted before.number) start bodies ≡ Ok (durable before) → played (unbooted after.number) start (bodies ++ body ∷ []) ≡ Ok (durable after)
longer before after body number made start bodies says =
    subst (λ (n : ℕ). played (unbooted n) start (bodies ++ body ∷ []) ≡ Ok (durable after)) number (played_push (unbooted before.number) (durable before) (durable after) start bodies body says made)

-- The file has the log without some records, or with them; or the other file has the snapshot behind it.
module _ (before after : ServerState) (log : KeptLogState) (generation start : ℕ) (bodies more : List (List ℕ)) (generation_is : log.generation ≡ Some generation) (says : played (unbooted before.number) start bodies ≡ Ok (durable before))
    (says_then : played (unbooted after.number) start (bodies ++ more) ≡ Ok (durable after)) where
  abbrev pub WithOrWithout : List ℕ → Type 0
  WithOrWithout left = IsFileOf generation start bodies left ⊎ IsFileOf generation start (bodies ++ more) left

  abbrev pub PassedOrRenewed : List ℕ → Type 0
  PassedOrRenewed left = IsPassed log.generation left ⊎ SaysRenewed after (next_generation log.generation) left

  either : (left left_spare : List ℕ) → WithOrWithout (at_side log.side left left_spare) → PassedOrRenewed (at_side (opposite log.side) left left_spare) → SaysEither before after left left_spare
  either left left_spare own (inr renewed) = inr (by_own own)
    where
      of_generation : SaysRenewed after (next_generation (Some generation)) (at_side (opposite log.side) left left_spare)
      of_generation = subst (λ (g : Option ℕ). SaysRenewed after (next_generation g) (at_side (opposite log.side) left left_spare)) generation_is renewed

      by_own : WithOrWithout (at_side log.side left left_spare) → SaysServer after left left_spare
      by_own (inl file) = says_renewed after log.side (Has generation start bodies) left left_spare file of_generation
      by_own (inr file) = says_renewed after log.side (Has generation start (bodies ++ more)) left left_spare file of_generation
  either left left_spare (inl file) (inl passed) =
      let here = subst (λ (g : Option ℕ). IsPassed g (at_side (opposite log.side) left left_spare)) generation_is passed in
      inl (ap (said_by before.number) (says_together log.side (Has generation start bodies) left left_spare file here) ∙ says)
  either left left_spare (inr file) (inl passed) =
      let here = subst (λ (g : Option ℕ). IsPassed g (at_side (opposite log.side) left left_spare)) generation_is passed in
      inr (ap (said_by after.number) (says_together log.side (Has generation start (bodies ++ more)) left left_spare file here) ∙ says_then)

  module _ (disk spare disk1 spare1 : Option DiskLife) (passed : StandsPassed log.generation (at_side (opposite log.side) disk spare)) (crash : OnSide log.side disk spare disk1 spare1 WithOrWithout) where
    other_since : LeavesSince (at_side (opposite log.side) disk spare) (at_side (opposite log.side) disk1 spare1) PassedOrRenewed
    other_since =
        since_weaker (IsPassed log.generation) PassedOrRenewed (at_side (opposite log.side) disk spare) (at_side (opposite log.side) disk1 spare1) (λ left h. inl h)
        (since_same (IsPassed log.generation) (at_side (opposite log.side) disk spare) (at_side (opposite log.side) disk1 spare1) crash.others (passed_images log.generation (at_side (opposite log.side) disk spare) passed))

    pub append_since : LeavesBoth disk spare disk1 spare1 (SaysEither before after)
    append_since = both_since log.side WithOrWithout PassedOrRenewed (SaysEither before after) either disk spare disk1 spare1 crash.leaves other_since

    -- and the log behind it is renewed
    module _ (disk2 spare2 : Option DiskLife) (renewal : OnSide (opposite log.side) disk1 spare1 disk2 spare2 PassedOrRenewed) (own1 : Told (at_side log.side disk1 spare1) (λ life. AllImages WithOrWithout life.now)) where
      own_later : LeavesSince (at_side log.side disk1 spare1) (at_side log.side disk2 spare2) WithOrWithout
      own_later = since_same WithOrWithout (at_side log.side disk1 spare1) (at_side log.side disk2 spare2) (own_same log.side disk1 spare1 disk2 spare2 renewal.others) own1

      pub renew_since : LeavesBoth disk spare disk2 spare2 (SaysEither before after)
      renew_since =
          both_since log.side WithOrWithout PassedOrRenewed (SaysEither before after) either disk spare disk2 spare2
          (since_both WithOrWithout (at_side log.side disk spare) (at_side log.side disk1 spare1) (at_side log.side disk2 spare2) crash.leaves own_later)
          (since_both PassedOrRenewed (at_side (opposite log.side) disk spare) (at_side (opposite log.side) disk1 spare1) (at_side (opposite log.side) disk2 spare2) other_since renewal.leaves)

-- the same step, as it is answered
pub logs_as : {E F : Type 0} (before after : ServerState) (disk spare : Option DiskLife) (result : Result (Unit {0}) E) (answer : Result (Unit {0}) F) (log : KeptLogState) (disk' spare' : Option DiskLife)
    → ((x : Unit {0}) → answer ≡ Ok x → result ≡ Ok x) → LogsStep before after disk spare result log disk' spare' → LogsStep before after disk spare answer log disk' spare'
logs_as before after disk spare result answer log disk' spare' done h = record { since = h.since; kept = λ x is. h.kept x (done x is) }
