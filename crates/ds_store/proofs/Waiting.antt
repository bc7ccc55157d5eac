-- Records that wait behind a server's log.
use Rattle.std.proofs.Common.{◌≡◌, ◌≢◌, ℕ, ◌<◌, true, List, [], ◌∷◌, ◌++◌, Option, Some, None, Result, Ok, Err, refl, sym, ap, subst, ◌∙◌, arith, append_assoc, append-nil}
use Rattle.std.proofs.lemmas.Bool.{ltb-true}
use Rattle.rpc_record.specs.declared.stream.Failed.{Failed}
use Rattle.cluster_model.specs.Server.{ServerState}
use Rattle.store_disk.specs.Disks.{DiskLife, LeavesSince}
use Rattle.store_disk.proofs.Leaving.{since_both, since_none, since_same}
use Rattle.gate_log.specs.Logs.{log_size}
use Rattle.twin_log.specs.declared.side.Side.{Side}
use Rattle.twin_log.specs.Twins.{Has, at_side, opposite}
use Rattle.twin_log.specs.KeptLogs.{IsFileOf, IsPassed, KeptLogState, StandsPassed, WaitsTwin, has_waiting}
use Rattle.twin_log.specs.LogCalls.{OnSide, TellAsBefore, TellsAsBefore, WaitsMore}
use Rattle.twin_log.proofs.Sides.{waits_none}
use Rattle.ds_log.specs.Durable.{applied_bytes, durable, played, unbooted}
use Rattle.ds_log.proofs.Plays.{played_push}
use Rattle.ds_store.specs.declared.fault.StoreFault.{StoreFault}
use Rattle.ds_store.specs.Kept.{IsLogOf, KeptState, LeavesBoth, SaysServer, StandsOrWaits, TakesSince, WaitsServer, WaitsSince, said_by}
use Rattle.ds_store.proofs.BothDisks.{both_since, own_now, passed_images, says_together}

-- ---- none waits

-- disks that hold a server's log, from this moment on
pub waits_from : (s : ServerState) (log : KeptLogState) (disk spare : Option DiskLife) → IsLogOf s log disk spare → WaitsSince s s log disk spare disk spare
waits_from s log None spare keeps = refl
waits_from s log (Some d) None keeps = refl
waits_from s log (Some d) (Some sp) keeps = record {
  number = refl;
  generation = keeps.generation;
  start = keeps.start;
  bodies = keeps.bodies;
  waiting = [];
  stands = keeps.stands;
  crash = record {
    leaves = since_none (IsFileOf keeps.generation keeps.start keeps.bodies) (at_side log.side (Some d) (Some sp)) (own_now log (Has keeps.generation keeps.start keeps.bodies) (Some d) (Some sp) keeps.stands);
    others = refl;
  };
  says = keeps.says;
  says_then = subst (λ (l : List (List ℕ)). played (unbooted s.number) keeps.start l ≡ Ok (durable s)) (sym (append-nil keeps.bodies)) keeps.says;
}

-- a disk that told nothing tells nothing
pub still_none : (disk disk' : Option DiskLife) → disk ≡ None → TellsAsBefore disk disk' → disk' ≡ None
still_none disk disk' none tells = subst (λ (t : Option DiskLife). TellsAsBefore t disk') none tells

-- ---- how the log stands

module _ (log : KeptLogState) (generation start : ℕ) (bodies : List (List ℕ)) (disk spare : Option DiskLife) where
  pub generation_is : (waiting : List (List ℕ)) → StandsOrWaits log generation start bodies waiting disk spare → log.generation ≡ Some generation
  generation_is [] stands = stands.generation_is
  generation_is (body ∷ waiting) stands = stands.generation_is

  pub other_passed : (waiting : List (List ℕ)) → StandsOrWaits log generation start bodies waiting disk spare → StandsPassed log.generation (at_side (opposite log.side) disk spare)
  other_passed [] stands = stands.other
  other_passed (body ∷ waiting) stands = stands.other

  pub as_waits : (waiting : List (List ℕ)) → StandsOrWaits log generation start bodies waiting disk spare → WaitsTwin log generation start bodies waiting disk spare
  as_waits [] stands = waits_none log generation start bodies disk spare stands
  as_waits (body ∷ waiting) stands = stands

  -- behind one more, some wait
  pub one_waits : (waiting : List (List ℕ)) (body : List ℕ) → WaitsTwin log generation start bodies (waiting ++ body ∷ []) disk spare → StandsOrWaits log generation start bodies (waiting ++ body ∷ []) disk spare
  one_waits [] body waits = waits
  one_waits (first ∷ waiting) body waits = waits

  -- where some wait, they are not none
  pub some_waits : (waiting : List (List ℕ)) → StandsOrWaits log generation start bodies waiting disk spare → has_waiting log ≡ true → waiting ≢ []
  some_waits [] stands waits = absurd (let below = ltb-true log.end log.at waits in omega (arith, below, stands.none_waits))
  some_waits (body ∷ waiting) stands waits = λ none. absurd (cc (none))

some_size : (waiting : List (List ℕ)) → waiting ≢ [] → 0 < log_size waiting
some_size [] some = absurd (some refl)
some_size (body ∷ waiting) some = omega arith

own_tells : (told : Option DiskLife) (life : DiskLife) (P : List ℕ → Type 0) (began : Option DiskLife) (first : DiskLife) → began ≡ Some first → LeavesSince began told P → (now : DiskLife) × (told ≡ Some now)
own_tells told life P None first is leaves = absurd (cc (is))
own_tells told life P (Some b) first is leaves = (leaves.0, leaves.1)

-- ---- what a crash leaves

module _ (settled s : ServerState) (log : KeptLogState) where
  module _ (began began_spare disk spare : Option DiskLife) (w : WaitsServer settled s log began began_spare disk spare) where
    generation_now : log.generation ≡ Some w.generation
    generation_now = generation_is log w.generation w.start w.bodies disk spare w.waiting w.stands

    pub passed_then : StandsPassed log.generation (at_side (opposite log.side) began began_spare)
    passed_then = subst (StandsPassed log.generation) w.crash.others (other_passed log w.generation w.start w.bodies disk spare w.waiting w.stands)

    joins : (left left_spare : List ℕ) → IsFileOf w.generation w.start w.bodies (at_side log.side left left_spare) → IsPassed log.generation (at_side (opposite log.side) left left_spare) → SaysServer settled left left_spare
    joins left left_spare own other =
        ap (said_by settled.number)
        (says_together log.side (Has w.generation w.start w.bodies) left left_spare own (subst (λ (g : Option ℕ). IsPassed g (at_side (opposite log.side) left left_spare)) generation_now other)) ∙ w.says

    -- whatever is done to the log's file that leaves it as it was
    pub settled_since : (disk' spare' : Option DiskLife) → OnSide log.side began began_spare disk' spare' (IsFileOf w.generation w.start w.bodies) → LeavesBoth began began_spare disk' spare' (SaysServer settled)
    settled_since disk' spare' crash =
        both_since log.side (IsFileOf w.generation w.start w.bodies) (IsPassed log.generation) (SaysServer settled) joins began began_spare disk' spare' crash.leaves
        (since_same (IsPassed log.generation) (at_side (opposite log.side) began began_spare) (at_side (opposite log.side) disk' spare') crash.others
        (passed_images log.generation (at_side (opposite log.side) began began_spare) passed_then))

  -- nothing more was done
  pub settled_now : (began began_spare disk spare : Option DiskLife) → WaitsSince settled s log began began_spare disk spare → LeavesBoth began began_spare disk spare (SaysServer settled)
  settled_now None began_spare disk spare w = w
  settled_now (Some b) None disk spare w = w
  settled_now (Some b) (Some bs) disk spare w = settled_since (Some b) (Some bs) disk spare w disk spare w.crash

  -- the log of a server of which the same lasts
  pub waits_as : (after : ServerState) (began began_spare disk spare : Option DiskLife) → s.number ≡ after.number → durable after ≡ durable s → WaitsSince settled s log began began_spare disk spare → WaitsSince settled after log began began_spare disk spare
  waits_as after None began_spare disk spare number lasts w = w
  waits_as after (Some b) None disk spare number lasts w = w
  waits_as after (Some b) (Some bs) disk spare number lasts w = record {
    number = w.number ∙ number;
    generation = w.generation;
    start = w.start;
    bodies = w.bodies;
    waiting = w.waiting;
    stands = w.stands;
    crash = w.crash;
    says = w.says;
    says_then = w.says_then ∙ ap (λ (x : ServerState). Ok x) (sym lasts);
  }

  -- ---- one more record waits

  module _ (after : ServerState) (body : List ℕ) (number : s.number ≡ after.number) (made : applied_bytes (durable s) body ≡ Some (durable after)) (disk spare : Option DiskLife)
      (result : Result (Unit {0}) Failed) (log' : KeptLogState) (disk' spare' : Option DiskLife) (side : log'.side ≡ log.side)
      (stages : (generation start : ℕ) (bodies staged : List (List ℕ)) → WaitsTwin log generation start bodies staged disk spare → WaitsMore log disk spare generation start bodies staged body result log' disk' spare') (tells : TellAsBefore disk spare disk' spare') where
    module _ (began began_spare : Option DiskLife) (w : WaitsServer settled s log began began_spare disk spare) where
      more : WaitsMore log disk spare w.generation w.start w.bodies w.waiting body result log' disk' spare'
      more = stages w.generation w.start w.bodies w.waiting (as_waits log w.generation w.start w.bodies disk spare w.waiting w.stands)

      crash_on : OnSide log.side began began_spare disk' spare' (IsFileOf w.generation w.start w.bodies)
      crash_on = record {
        leaves = since_both (IsFileOf w.generation w.start w.bodies) (at_side log.side began began_spare) (at_side log.side disk spare) (at_side log.side disk' spare') w.crash.leaves more.crash.leaves;
        others = more.crash.others ∙ w.crash.others;
      }

      waits_on : (x : Unit {0}) → result ≡ Ok x → WaitsServer settled after log' began began_spare disk' spare'
      waits_on x ok = record {
        number = w.number ∙ number;
        generation = w.generation;
        start = w.start;
        bodies = w.bodies;
        waiting = w.waiting ++ body ∷ [];
        stands = one_waits log' w.generation w.start w.bodies disk' spare' w.waiting body (more.kept x ok);
        crash = subst (λ (x : Side). OnSide x began began_spare disk' spare' (IsFileOf w.generation w.start w.bodies)) (sym side) crash_on;
        says = w.says;
        says_then =
            subst (λ (l : List (List ℕ)). played (unbooted settled.number) w.start l ≡ Ok (durable after)) (append_assoc w.bodies w.waiting (body ∷ []))
            (played_push (unbooted settled.number) (durable s) (durable after) w.start (w.bodies ++ w.waiting) body w.says_then made);
      }

    since_more : (began began_spare : Option DiskLife) → WaitsSince settled s log began began_spare disk spare → LeavesBoth began began_spare disk' spare' (SaysServer settled)
    since_more None began_spare w = still_none disk disk' w tells.0
    since_more (Some b) None w = still_none spare spare' w tells.1
    since_more (Some b) (Some bs) w = settled_since (Some b) (Some bs) disk spare w disk' spare' (crash_on (Some b) (Some bs) w)

    waits_more : (began began_spare : Option DiskLife) → WaitsSince settled s log began began_spare disk spare → (x : Unit {0}) → result ≡ Ok x → WaitsSince settled after log' began began_spare disk' spare'
    waits_more None began_spare w x ok = still_none disk disk' w tells.0
    waits_more (Some b) None w x ok = still_none spare spare' w tells.1
    waits_more (Some b) (Some bs) w x ok = waits_on (Some b) (Some bs) w x ok

    -- and this is how the call is answered
    pub takes : (began began_spare : Option DiskLife) → WaitsSince settled s log began began_spare disk spare → (answer : Result (Unit {0}) StoreFault) → ((x : Unit {0}) → answer ≡ Ok x → result ≡ Ok x)
        → (new : KeptState) → new.server ≡ after → new.log ≡ log' → TakesSince settled began began_spare answer new disk' spare'
    takes began began_spare w answer done new server log_is = record {
      since = since_more began began_spare w;
      waits = λ x ok.
          subst (λ (y : ServerState). WaitsSince settled y new.log began began_spare disk' spare') (sym server)
          (subst (λ (l : KeptLogState). WaitsSince settled after l began began_spare disk' spare') (sym log_is) (waits_more began began_spare w x (done x ok)));
    }

-- a call that failed, and did nothing to the disks
pub takes_not : {T : Type 0} (settled : ServerState) (k : KeptState) (began began_spare disk spare : Option DiskLife) (result : Result T StoreFault) (e : StoreFault) (new : KeptState) → result ≡ Err e
    → WaitsSince settled k.server k.log began began_spare disk spare → TakesSince settled began began_spare result new disk spare
takes_not settled k began began_spare disk spare result e new is w = record { since = settled_now settled k.server k.log began began_spare disk spare w; waits = λ x ok. absurd (cc (is, ok)) }

-- the same call, as it is answered
pub takes_as : {T U : Type 0} (settled : ServerState) (began began_spare : Option DiskLife) (result : Result T StoreFault) (answer : Result U StoreFault) (new : KeptState) (disk spare : Option DiskLife)
    → ((y : U) → answer ≡ Ok y → (x : T) × (result ≡ Ok x)) → TakesSince settled began began_spare result new disk spare → TakesSince settled began began_spare answer new disk spare
takes_as settled began began_spare result answer new disk spare done h = record { since = h.since; waits = λ y ok. h.waits (done y ok).0 (done y ok).1 }
