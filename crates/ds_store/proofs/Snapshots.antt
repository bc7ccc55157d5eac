-- The snapshot of a server is put into a log that is being made, and that log takes the other one's place.
use Rattle.std.proofs.Common.{◌≡◌, ℕ, ◌+◌, ◌<◌, List, [], ◌∷◌, ◌++◌, length, Option, Some, None, OnOk, Result, Ok, Err, ◌⊎◌, inl, inr, refl, sym, ap, subst, ◌∙◌, arith}
use Rattle.std.proofs.lemmas.List.{append-nil, append_assoc}
use Rattle.std.proofs.lemmas.Option.{same_Some}
use Rattle.rpc_record.specs.declared.stream.Failed.{Failed}
use Rattle.cluster_model.specs.Server.{ServerState}
use Rattle.store_disk.specs.Disks.{DiskLife}
use Rattle.store_disk.proofs.Leaving.{since_both, since_weaker}
use Rattle.twin_log.specs.declared.side.Side.{Side}
use Rattle.twin_log.specs.Twins.{TwinLog, at_side, opposite}
use Rattle.twin_log.specs.KeptLogs.{IsFileOf, IsPassed, KeptLogState, RenewsTwin, StandsTwin, next_generation}
use Rattle.twin_log.specs.LogCalls.{BeginsRenewal, EndsRenewal, HasRenewed, OnSide, PutsMore, TellAsBefore, TellsAsBefore, renewed_place}
use Rattle.twin_log.proofs.Sides.{renews_now}
use Rattle.ds_log.specs.Bodies.{Logged}
use Rattle.ds_log.specs.Durable.{all_applied, applied, applied_as, durable, played, played_on, then_all, unbooted}
use Rattle.ds_log.specs.Steady.{IsSteady}
use Rattle.ds_snapshot.specs.declared.snapshot.NextBody.{NextBody}
use Rattle.ds_snapshot.specs.Snapshots.{AreBodiesOf, IsBodyOf, snapshot_of}
use Rattle.ds_snapshot.specs.NextBodies.{GivesBody, bodies_from}
use Rattle.ds_snapshot.proofs.Playing.{snapshot_plays}
use Rattle.ds_store.specs.Renewals.{PutsAll, Renews, SaysRenewed}
use Rattle.ds_store.proofs.BothDisks.{log_of}
use Rattle.ds_store.proofs.Bounding.{at_ok, sized}

-- ---- bodies as bytes

bodies_push : (put : List (List ℕ)) (done : List Logged) (bytes : List ℕ) (body : Logged) → AreBodiesOf put done → IsBodyOf bytes body → AreBodiesOf (put ++ bytes ∷ []) (done ++ body ∷ [])
bodies_push [] [] bytes body are is = (is, tt)
bodies_push [] (d ∷ done) bytes body are is = absurd are
bodies_push (p ∷ put) [] bytes body are is = absurd are
bodies_push (p ∷ put) (d ∷ done) bytes body are is = (are.0, bodies_push put done bytes body are.1 is)

-- they play from any place as their bodies are applied
plays_as : (s new : ServerState) (place : ℕ) (put : List (List ℕ)) (bodies : List Logged) → AreBodiesOf put bodies → all_applied s bodies ≡ Some new → played s place put ≡ Ok new
plays_as s new place [] [] are made = ap (λ (x : ServerState). Ok x) (same_Some s new made)
plays_as s new place [] (body ∷ bodies) are made = absurd are
plays_as s new place (p ∷ put) [] are made = absurd are
plays_as s new place (p ∷ put) (body ∷ bodies) are made =
    ap (λ (o : Option Logged). played_on place put (applied_as s o) (λ next. played next (place + 5 + length p) put)) are.0.read
    ∙ by_first (λ next. plays_as next new (place + 5 + length p) put bodies are.1) (applied s body) made
  where
    by_first : ((next : ServerState) → all_applied next bodies ≡ Some new → played next (place + 5 + length p) put ≡ Ok new) → (o : Option ServerState) → then_all o (λ next. all_applied next bodies) ≡ Some new
        → played_on place put o (λ next. played next (place + 5 + length p) put) ≡ Ok new
    by_first rests None f = absurd (cc (f))
    by_first rests (Some next) f = rests next f

-- ---- what is done to the file of a side

both_on : (side : Side) (P : List ℕ → Type 0) (disk spare disk1 spare1 disk2 spare2 : Option DiskLife) → OnSide side disk spare disk1 spare1 P → OnSide side disk1 spare1 disk2 spare2 P → OnSide side disk spare disk2 spare2 P
both_on side P disk spare disk1 spare1 disk2 spare2 h g =
    record { leaves = since_both P (at_side side disk spare) (at_side side disk1 spare1) (at_side side disk2 spare2) h.leaves g.leaves; others = g.others ∙ h.others }

weaker_on : (side : Side) (P Q : List ℕ → Type 0) (disk spare disk' spare' : Option DiskLife) → ((left : List ℕ) → P left → Q left) → OnSide side disk spare disk' spare' P → OnSide side disk spare disk' spare' Q
weaker_on side P Q disk spare disk' spare' w h = record { leaves = since_weaker P Q (at_side side disk spare) (at_side side disk' spare') w h.leaves; others = h.others }

tells_none : (told : Option DiskLife) → TellsAsBefore told told
tells_none None = refl
tells_none (Some life) = tt

-- nothing was done
pub tell_none : (disk spare : Option DiskLife) → TellAsBefore disk spare disk spare
tell_none disk spare = (tells_none disk, tells_none spare)

-- ---- bodies are put one by one

-- Those before the next one were put.
pub record PutsPart (s : ServerState) (old : KeptLogState) (disk spare : Option DiskLife) (says : TwinLog) (next : NextBody) (log : KeptLogState) (disk' spare' : Option DiskLife) : Type 0 where
  pub crash : OnSide (opposite old.side) disk spare disk' spare' (IsPassed old.generation)
  pub put : List (List ℕ)
  pub done : List Logged
  pub left : done ++ bodies_from next (durable s) ≡ snapshot_of (durable s)
  pub bodies : AreBodiesOf put done
  pub renews : RenewsTwin log says put disk' spare'

module _ (s : ServerState) (old : KeptLogState) (disk spare : Option DiskLife) (says : TwinLog) (next : NextBody) where
  pub puts_none : bodies_from next (durable s) ≡ snapshot_of (durable s) → RenewsTwin old says [] disk spare → PutsPart s old disk spare says next old disk spare
  puts_none all renews = record { crash = record { leaves = renews_now old says [] disk spare renews; others = refl }; put = []; done = []; left = all; bodies = tt; renews = renews }

  module _ (log : KeptLogState) (disk1 spare1 : Option DiskLife) (part : PutsPart s old disk spare says next log disk1 spare1) where
    -- it ended there
    pub puts_fails : (result : Result (Unit {0}) Failed) (e : Failed) → result ≡ Err e → (new : KeptLogState) → PutsAll s old disk spare says result new disk1 spare1
    puts_fails result e is new = record { crash = part.crash; put = []; bodies = λ x ok. absurd (cc (is, ok)); kept = λ x ok. absurd (cc (is, ok)) }

    -- none is left
    pub puts_all : bodies_from next (durable s) ≡ [] → (x : Unit {0}) → PutsAll s old disk spare says (Ok x) log disk1 spare1
    puts_all none x = record { crash = part.crash; put = part.put; bodies = λ y ok. subst (AreBodiesOf part.put) whole part.bodies; kept = λ y ok. part.renews }
      where
        whole : part.done ≡ snapshot_of (durable s)
        whole = sym (append-nil part.done) ∙ ap (λ (bodies : List Logged). part.done ++ bodies) (sym none) ∙ part.left

    -- one more
    module _ (same : log ≡ record old { renewed = log.renewed }) (body : List ℕ) (result : Result (Unit {0}) Failed) (new : KeptLogState) (disk2 spare2 : Option DiskLife)
        (puts : (say : TwinLog) (put : List (List ℕ)) → RenewsTwin log say put disk1 spare1 → PutsMore log disk1 spare1 say put body result new disk2 spare2) where
      more : PutsMore log disk1 spare1 says part.put body result new disk2 spare2
      more = puts says part.put part.renews

      crash : OnSide (opposite old.side) disk spare disk2 spare2 (IsPassed old.generation)
      crash =
          both_on (opposite old.side) (IsPassed old.generation) disk spare disk1 spare1 disk2 spare2 part.crash
          (subst (λ (k : KeptLogState). OnSide (opposite k.side) disk1 spare1 disk2 spare2 (IsPassed k.generation)) same more.crash)

      pub put_fails : (answer : Result (Unit {0}) Failed) (e : Failed) → answer ≡ Err e → (last : KeptLogState) → PutsAll s old disk spare says answer last disk2 spare2
      put_fails answer e is last = record { crash = crash; put = []; bodies = λ x ok. absurd (cc (is, ok)); kept = λ x ok. absurd (cc (is, ok)) }

      pub puts_on : (x : Unit {0}) → result ≡ Ok x → (after : NextBody) → GivesBody (bodies_from next (durable s)) (Ok (Some body)) (bodies_from after (durable s)) → PutsPart s old disk spare says after new disk2 spare2
      puts_on x ok after gives = record {
        crash = crash;
        put = part.put ++ body ∷ [];
        done = part.done ++ gives.0 ∷ [];
        left = append_assoc part.done (gives.0 ∷ []) (bodies_from after (durable s)) ∙ ap (λ (bodies : List Logged). part.done ++ bodies) (sym gives.1) ∙ part.left;
        bodies = bodies_push part.put part.done body gives.0 part.bodies gives.2;
        renews = more.kept x ok;
      }

-- none is left where none is given
pub none_left : (old new : List Logged) (given : Option (List ℕ)) → GivesBody old (Ok given) new → ((body : List ℕ) → given ≡ Some body → ⊥) → old ≡ []
none_left old new None gives other = gives
none_left old new (Some body) gives other = absurd (other body refl)

-- one fewer is left
pub fewer_left : (old new : List Logged) (body : List ℕ) → GivesBody old (Ok (Some body)) new → length new < length old
fewer_left old new body gives = rw gives.1 (omega arith)

-- ---- a renewal

module _ (s : ServerState) (steady : IsSteady s) (booted : 0 < s.clock.boot) (old : KeptLogState) (disk spare : Option DiskLife) (says : TwinLog) (stands : StandsTwin old says disk spare)
    (result1 : Result (Unit {0}) Failed) (log1 : KeptLogState) (disk1 spare1 : Option DiskLife)
    (begins : (say : TwinLog) → StandsTwin old say disk spare → BeginsRenewal old disk spare say result1 log1 disk1 spare1) where
  abbrev PassedOrRenewed : List ℕ → Type 0
  PassedOrRenewed left = IsPassed old.generation left ⊎ SaysRenewed s (next_generation old.generation) left

  begun : BeginsRenewal old disk spare says result1 log1 disk1 spare1
  begun = begins says stands

  passed : (disk' spare' : Option DiskLife) → OnSide (opposite old.side) disk spare disk' spare' (IsPassed old.generation) → OnSide (opposite old.side) disk spare disk' spare' PassedOrRenewed
  passed disk' spare' h = weaker_on (opposite old.side) (IsPassed old.generation) PassedOrRenewed disk spare disk' spare' (λ left is. inl is) h

  pub begin_fails : (answer : Result (Unit {0}) Failed) (e : Failed) → answer ≡ Err e → (new : KeptLogState) → Renews s old disk spare answer new disk1 spare1
  begin_fails answer e is new = record { crash = passed disk1 spare1 begun.crash; kept = λ x ok. absurd (cc (is, ok)); size = λ x ok. absurd (cc (is, ok)) }

  module _ (x1 : Unit {0}) (ok1 : result1 ≡ Ok x1) (same1 : log1 ≡ record old { renewed = log1.renewed }) (result2 : Result (Unit {0}) Failed) (log2 : KeptLogState) (disk2 spare2 : Option DiskLife)
      (puts : (say : TwinLog) → RenewsTwin log1 say [] disk1 spare1 → PutsAll s log1 disk1 spare1 say result2 log2 disk2 spare2) where
    all : PutsAll s log1 disk1 spare1 says result2 log2 disk2 spare2
    all = puts says (begun.kept x1 ok1)

    put_crash : OnSide (opposite old.side) disk spare disk2 spare2 (IsPassed old.generation)
    put_crash =
        both_on (opposite old.side) (IsPassed old.generation) disk spare disk1 spare1 disk2 spare2 begun.crash
        (subst (λ (k : KeptLogState). OnSide (opposite k.side) disk1 spare1 disk2 spare2 (IsPassed k.generation)) same1 all.crash)

    pub snapshot_fails : (answer : Result (Unit {0}) Failed) (e : Failed) → answer ≡ Err e → (new : KeptLogState) → Renews s old disk spare answer new disk2 spare2
    snapshot_fails answer e is new = record { crash = passed disk2 spare2 put_crash; kept = λ x ok. absurd (cc (is, ok)); size = λ x ok. absurd (cc (is, ok)) }

    module _ (x2 : Unit {0}) (ok2 : result2 ≡ Ok x2) (same2 : log2 ≡ record log1 { renewed = log2.renewed }) (result3 : Result (Unit {0}) Failed) (new : KeptLogState) (disk3 spare3 : Option DiskLife)
        (ends : (say : TwinLog) (put : List (List ℕ)) → RenewsTwin log2 say put disk2 spare2 → EndsRenewal log2 disk2 spare2 put result3 new disk3 spare3)
        (renewed : OnOk result3 (HasRenewed log2 new)) where
      ended : EndsRenewal log2 disk2 spare2 all.put result3 new disk3 spare3
      ended = ends says all.put (all.kept x2 ok2)

      same : log2 ≡ record old { renewed = log2.renewed }
      same = same2 ∙ ap (λ (k : KeptLogState). let log : KeptLogState = record k { renewed = log2.renewed } in log) same1

      plays : (place : ℕ) → played (unbooted s.number) place all.put ≡ Ok (durable s)
      plays place = plays_as (unbooted s.number) (durable s) place all.put (snapshot_of (durable s)) (all.bodies x2 ok2) (snapshot_plays s steady booted)

      says_it : (left : List ℕ) → IsPassed old.generation left ⊎ IsFileOf (next_generation old.generation) (renewed_place (next_generation old.generation)) all.put left → PassedOrRenewed left
      says_it left (inl is) = inl is
      says_it left (inr file) = inr (record { bodies = all.put; file = file; says = plays (renewed_place (next_generation old.generation)) })

      pub renews : Renews s old disk spare result3 new disk3 spare3
      renews = record {
        crash =
            both_on (opposite old.side) PassedOrRenewed disk spare disk2 spare2 disk3 spare3 (passed disk2 spare2 put_crash)
            (weaker_on (opposite old.side) _ PassedOrRenewed disk2 spare2 disk3 spare3 says_it
            (subst (λ (k : KeptLogState). OnSide (opposite k.side) disk2 spare2 disk3 spare3 (λ left. IsPassed k.generation left ⊎ IsFileOf (next_generation k.generation) (renewed_place (next_generation k.generation)) all.put left)) same ended.crash));
        kept = λ x ok. log_of s new (next_generation log2.generation) (renewed_place (next_generation log2.generation)) all.put disk3 spare3 (ended.kept x ok) (plays (renewed_place (next_generation log2.generation)));
        size = λ x ok. sized s new (next_generation log2.generation) all.put disk3 spare3 (ended.kept x ok) (at_ok result3 x ok renewed).size (all.bodies x2 ok2);
      }
