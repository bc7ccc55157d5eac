-- What is done to the file of a side.
use Rattle.std.proofs.Common.{◌≡◌, ◌≢◌, ℕ, ◌+◌, ◌^◌, ◌<◌, ◌≤◌, true, false, eqb, max, List, [], ◌∷◌, ◌++◌, length, Option, Some, None, Result, Ok, Err, refl, sym, ap, subst, ◌∙◌, arith, inl, inr}
use Rattle.std.specs.Prelude.{◌⊎◌, ◌-◌, IfSome}
use Rattle.std.proofs.lemmas.Bool.{ne_eqb, lt-ltb, le-ltb}
use Rattle.std.proofs.lemmas.Option.{same_Some}
use Rattle.rpc_record.specs.declared.stream.Failed.{Failed}
use Rattle.store_disk.specs.Disks.{DiskLife, IsImage, LeavesSince, Syncs}
use Rattle.store_disk.proofs.Leaving.{since_weaker, since_both, since_none}
use Rattle.store_disk.proofs.Images.{sync_leaves}
use Rattle.gate_log.specs.Logs.{log_of, log_size}
use Rattle.gate_log.specs.Appends.{HasEither, HoldsLog}
use Rattle.gate_log.specs.Staging.{ClearsDisk, HasBodies, HasSize, IsSameOrEmpty, SealsLog, Stages, StagesMore}
use Rattle.gate_log.proofs.AppendLemmas.{begins}
use Rattle.gate_log.proofs.StageLemmas.{same_bodies, waits_in}
use Rattle.twin_log.specs.declared.side.Side.{Side}
use Rattle.twin_log.specs.declared.side.Side.TheVariants.{Disk, Spare}
use Rattle.twin_log.specs.Twins.{LogHolder, On, TwinLog, New, Has, Bad, at_side, file_says, first_place, generation_body, generation_of, log_holder, opposite, says_by, twin_log, without_generation}
use Rattle.twin_log.specs.KeptLogs.{HoldsFile, HoldsSaid, IsGenerationBelow, IsFileOf, IsPassed, KeptLogState, RenewsTwin, SaysLog, StandsPassed, StandsTwin, WaitsTwin, generation_said, next_generation}
use Rattle.twin_log.specs.LogCalls.{BeginsRenewal, ClearsOn, EndsRenewal, LeavesAsBefore, OnSide, PutsMore, SealsOn, SealsTwin, StagesOn, TellAsBefore, TellsAsBefore, renewed_place}
use Rattle.twin_log.proofs.Files.{says_more, generation_again, generation_some}

-- ---- a sync

pub sync_crash : (old : Option DiskLife) (result : Result (Unit {0}) Failed) (new : Option DiskLife) → Syncs old result new → LeavesAsBefore old new
sync_crash None result new is = is
sync_crash (Some life) result new is = sync_leaves (IsImage life.now) (Some life) result new (λ left image. image) is

-- ---- records that wait

some_size : (staged : List (List ℕ)) → staged ≢ [] → 0 < log_size staged
some_size [] some = absurd (some refl)
some_size (body ∷ staged) some = omega arith

-- where some wait they have bytes, so of a disk that tells this cannot be
tells_not : (told : Option DiskLife) (all staged : List (List ℕ)) (end at : ℕ) → Stages told all staged end at → staged ≢ [] → at ≡ end → told ≡ None
tells_not None all staged end at waits some same = refl
tells_not (Some life) all staged end at waits some same = absurd (omega (arith, waits.at_is, some_size staged some, same))

pub seal_none : (log : KeptLogState) (generation start : ℕ) (bodies staged : List (List ℕ)) (disk spare : Option DiskLife) → WaitsTwin log generation start bodies staged disk spare → staged ≢ [] → log.at ≡ log.end
    → SealsTwin log disk spare generation start bodies staged (Ok tt) log disk spare
seal_none log generation start bodies staged disk spare w some same =
    let none = tells_not (at_side log.side disk spare) w.all staged log.end log.at w.own some same in
    record {
      crash = record { leaves = subst (λ (t : Option DiskLife). LeavesSince t t (λ left. IsFileOf generation start bodies left ⊎ IsFileOf generation start (bodies ++ staged) left)) (sym none) refl; others = refl };
      kept = λ x ok. record {
        generation_is = w.generation_is;
        own = record {
          all = w.all ++ staged;
          log = subst (λ (t : Option DiskLife). HoldsLog t (w.all ++ staged) log.end) (sym none) tt;
          says = says_more w.all generation start bodies staged w.says;
          size_is = w.size;
        };
        other = w.other;
        none_waits = same;
        none_renews = w.none_renews;
      };
    }

either_file : (all : List (List ℕ)) (generation start : ℕ) (bodies staged : List (List ℕ)) → SaysLog all generation start bodies → (left : List ℕ) → HasEither all (all ++ staged) left
    → IsFileOf generation start bodies left ⊎ IsFileOf generation start (bodies ++ staged) left
either_file all generation start bodies staged says left (inl is) = inl (record { all = all; log = is; says = says })
either_file all generation start bodies staged says left (inr is) = inr (record { all = all ++ staged; log = is; says = says_more all generation start bodies staged says })

module _ (old : KeptLogState) (generation start : ℕ) (bodies staged : List (List ℕ)) (disk spare : Option DiskLife) (w : WaitsTwin old generation start bodies staged disk spare)
    (result : Result (Unit {0}) Failed) (disk' spare' : Option DiskLife) (on : SealsOn old.side disk spare old.end old.at result disk' spare') where
  sealed : SealsLog (at_side old.side disk spare) w.all staged old.at result (at_side old.side disk' spare')
  sealed = on.0 w.all staged w.own

  seal_crash : OnSide old.side disk spare disk' spare' (λ left. IsFileOf generation start bodies left ⊎ IsFileOf generation start (bodies ++ staged) left)
  seal_crash = record {
    leaves =
        since_weaker (HasEither w.all (w.all ++ staged)) (λ left. IsFileOf generation start bodies left ⊎ IsFileOf generation start (bodies ++ staged) left) (at_side old.side disk spare) (at_side old.side disk' spare')
        (either_file w.all generation start bodies staged w.says) sealed.crash;
    others = on.1;
  }

  pub seal_fails : (answer : Result (Unit {0}) Failed) (e : Failed) → answer ≡ Err e → (new : KeptLogState) → SealsTwin old disk spare generation start bodies staged answer new disk' spare'
  seal_fails answer e is new = record { crash = seal_crash; kept = λ x ok. absurd (cc (is, ok)) }

  pub seal_ends : (x : Unit {0}) → result ≡ Ok x → SealsTwin old disk spare generation start bodies staged result (record old { end = old.at; next = old.at }) disk' spare'
  seal_ends x is = record {
    crash = seal_crash;
    kept = λ y ok. record {
      generation_is = w.generation_is;
      own = record {
        all = w.all ++ staged;
        log = sealed.kept x is;
        says = says_more w.all generation start bodies staged w.says;
        size_is = sealed.size old.size x w.size is;
      };
      other = subst (StandsPassed old.generation) (sym on.1) w.other;
      none_waits = refl;
      none_renews = w.none_renews;
    };
  }

-- ---- a renewal

pub passed_none : (generation : Option ℕ) (left : List ℕ) → HasBodies [] left → IsPassed generation left
passed_none generation left is = let none : generation_of (log_of left) ≡ None = ap generation_of is in rw none tt

passed_or : (generation : Option ℕ) (bytes : List ℕ) → IsPassed generation bytes → (left : List ℕ) → IsSameOrEmpty bytes left → IsPassed generation left
passed_or generation bytes passed left (inl is) = subst (IsPassed generation) (sym is) passed
passed_or generation bytes passed left (inr is) = passed_none generation left is

clear_leaves : (generation : Option ℕ) (old : Option DiskLife) (result : Result (Unit {0}) Failed) (new : Option DiskLife) → StandsPassed generation old → ClearsDisk old result new → LeavesSince old new (IsPassed generation)
clear_leaves generation None result new passed clears = clears
clear_leaves generation (Some life) result new passed clears = since_weaker (IsSameOrEmpty life.now.seen) (IsPassed generation) (Some life) new (passed_or generation life.now.seen passed.1) (clears passed.0).crash

clear_holds : (generation : Option ℕ) (old : Option DiskLife) (x : Unit {0}) (new : Option DiskLife) → StandsPassed generation old → ClearsDisk old (Ok x) new → HoldsLog new [] 0 × HasSize new 1
clear_holds generation None x new passed clears = (subst (λ (t : Option DiskLife). HoldsLog t [] 0) (sym clears) tt, subst (λ (t : Option DiskLife). HasSize t 1) (sym clears) tt)
clear_holds generation (Some life) x new passed clears = ((clears passed.0).kept x refl, (clears passed.0).size x refl)

pub at_twice : {X : Type 0} (side : Side) (x y : X) → at_side (opposite (opposite side)) x y ≡ at_side side x y
at_twice Disk x y = refl
at_twice Spare x y = refl

-- the file of the log's side, where nothing was done but to the other
pub own_same : (side : Side) (disk spare disk' spare' : Option DiskLife) → at_side (opposite (opposite side)) disk' spare' ≡ at_side (opposite (opposite side)) disk spare → at_side side disk' spare' ≡ at_side side disk spare
own_same side disk spare disk' spare' same = sym (at_twice side disk' spare') ∙ same ∙ at_twice side disk spare

holds_with : (says : TwinLog) (log : KeptLogState) (renewed : Option ℕ) (told : Option DiskLife) → HoldsSaid says log told → HoldsSaid says (record log { renewed = renewed }) told
holds_with New log renewed told h = h
holds_with (Has generation start bodies) log renewed told h = h
holds_with (Bad place) log renewed told h = h

empty_passed : (generation : Option ℕ) (told new : Option DiskLife) → LeavesSince told new (HasBodies []) → LeavesSince told new (IsPassed generation)
empty_passed generation told new h = since_weaker (HasBodies []) (IsPassed generation) told new (passed_none generation) h

-- the other file is cleared, and the generation is written
module _ (old : KeptLogState) (says : TwinLog) (disk spare : Option DiskLife) (stands : StandsTwin old says disk spare) (x : Unit {0}) (disk1 spare1 : Option DiskLife) (clears : ClearsOn (opposite old.side) disk spare (Ok x) disk1 spare1)
    (body : List ℕ) (result : Result ℕ Failed) (disk2 spare2 : Option DiskLife) (stages : StagesOn (opposite old.side) disk1 spare1 0 0 body result disk2 spare2) where
  empty : HoldsLog (at_side (opposite old.side) disk1 spare1) [] 0 × HasSize (at_side (opposite old.side) disk1 spare1) 1
  empty = clear_holds old.generation (at_side (opposite old.side) disk spare) x (at_side (opposite old.side) disk1 spare1) stands.other clears.0

  more : StagesMore (at_side (opposite old.side) disk1 spare1) [] [] body 0 result (at_side (opposite old.side) disk2 spare2)
  more = stages.0 [] [] (begins (at_side (opposite old.side) disk1 spare1) [] 0 empty.0)

  others : at_side (opposite (opposite old.side)) disk2 spare2 ≡ at_side (opposite (opposite old.side)) disk spare
  others = stages.1 ∙ clears.1

  begin_crash : OnSide (opposite old.side) disk spare disk2 spare2 (IsPassed old.generation)
  begin_crash = record {
    leaves =
        since_both (IsPassed old.generation) (at_side (opposite old.side) disk spare) (at_side (opposite old.side) disk1 spare1) (at_side (opposite old.side) disk2 spare2)
        (clear_leaves old.generation (at_side (opposite old.side) disk spare) (Ok x) (at_side (opposite old.side) disk1 spare1) stands.other clears.0)
        (empty_passed old.generation (at_side (opposite old.side) disk1 spare1) (at_side (opposite old.side) disk2 spare2) more.crash);
    others = others;
  }

  pub begin_fails : (answer : Result (Unit {0}) Failed) (e : Failed) → answer ≡ Err e → (new : KeptLogState) → BeginsRenewal old disk spare says answer new disk2 spare2
  begin_fails answer e is new = record { crash = begin_crash; kept = λ y ok. absurd (cc (is, ok)) }

  pub begin_done : (at : ℕ) → result ≡ Ok at → body ≡ generation_body (next_generation old.generation) → (y : Unit {0}) → BeginsRenewal {E = Failed} old disk spare says (Ok y) (record old { renewed = Some at }) disk2 spare2
  begin_done at is body_is y = record {
    crash = begin_crash;
    kept = λ z ok. record {
      generation_is = stands.generation_is;
      own = holds_with says old (Some at) (at_side old.side disk2 spare2) (subst (HoldsSaid says old) (sym (own_same old.side disk spare disk2 spare2 others)) stands.own);
      renewed = at;
      renewed_is = refl;
      target = subst (λ (b : List ℕ). Stages (at_side (opposite old.side) disk2 spare2) [] (b ∷ []) 0 at) body_is (more.kept at is);
      target_size = let long : max 1 (at + 1) ≡ at + 1 = omega arith in subst (HasSize (at_side (opposite old.side) disk2 spare2)) long (more.size 1 at empty.1 is);
      none_waits = stands.none_waits;
    };
  }

-- one body more
module _ (old : KeptLogState) (says : TwinLog) (put : List (List ℕ)) (disk spare : Option DiskLife) (renews : RenewsTwin old says put disk spare) (from : ℕ) (from_is : old.renewed ≡ Some from)
    (body : List ℕ) (result : Result ℕ Failed) (disk' spare' : Option DiskLife) (stages : StagesOn (opposite old.side) disk spare 0 from body result disk' spare') where
  same_place : renews.renewed ≡ from
  same_place = same_Some renews.renewed from (sym renews.renewed_is ∙ from_is)

  put_one : StagesMore (at_side (opposite old.side) disk spare) [] (generation_body (next_generation old.generation) ∷ put) body 0 result (at_side (opposite old.side) disk' spare')
  put_one = stages.0 [] (generation_body (next_generation old.generation) ∷ put) (subst (Stages (at_side (opposite old.side) disk spare) [] (generation_body (next_generation old.generation) ∷ put) 0) same_place renews.target)

  put_crash : OnSide (opposite old.side) disk spare disk' spare' (IsPassed old.generation)
  put_crash = record { leaves = empty_passed old.generation (at_side (opposite old.side) disk spare) (at_side (opposite old.side) disk' spare') put_one.crash; others = stages.1 }

  pub put_fails : (answer : Result (Unit {0}) Failed) (e : Failed) → answer ≡ Err e → (new : KeptLogState) → PutsMore old disk spare says put body answer new disk' spare'
  put_fails answer e is new = record { crash = put_crash; kept = λ y ok. absurd (cc (is, ok)) }

  pub put_done : (at : ℕ) → result ≡ Ok at → from ≤ at → (y : Unit {0}) → PutsMore {E = Failed} old disk spare says put body (Ok y) (record old { renewed = Some at }) disk' spare'
  put_done at is higher y = record {
    crash = put_crash;
    kept = λ z ok. record {
      generation_is = renews.generation_is;
      own = holds_with says old (Some at) (at_side old.side disk' spare') (subst (HoldsSaid says old) (sym (own_same old.side disk spare disk' spare' stages.1)) renews.own);
      renewed = at;
      renewed_is = refl;
      target = put_one.kept at is;
      target_size =
          let long : max (renews.renewed + 1) (at + 1) ≡ at + 1 = omega (arith, same_place, higher) in
          subst (HasSize (at_side (opposite old.side) disk' spare')) long (put_one.size (renews.renewed + 1) at renews.target_size is);
      none_waits = renews.none_waits;
    };
  }

-- ---- the new log takes the old one's place

renewed_says : (generation : ℕ) (put : List (List ℕ)) → 0 < generation → generation < 2 ^ 64 → SaysLog (generation_body generation ∷ put) generation (renewed_place generation) put
renewed_says generation put some fits =
    let again = generation_again generation fits in
    let other : eqb generation 0 ≡ false = ne_eqb generation 0 (λ e. absurd (omega (arith, e, some))) in
    record {
      generation_is = ap (λ (g : ℕ). Some g) again;
      start_is = rw (again, other) refl;
      bodies_are = rw (again, other) refl;
    }

either_renewed : (generation : Option ℕ) (put : List (List ℕ)) → next_generation generation < 2 ^ 64 → (left : List ℕ) → HasEither [] (generation_body (next_generation generation) ∷ put) left
    → IsPassed generation left ⊎ IsFileOf (next_generation generation) (renewed_place (next_generation generation)) put left
either_renewed generation put fits left (inl is) = inl (passed_none generation left is)
either_renewed generation put fits left (inr is) = inr (record { all = generation_body (next_generation generation) ∷ put; log = is; says = renewed_says (next_generation generation) put (some_next generation) fits })
  where
    some_next : (g : Option ℕ) → 0 < next_generation g
    some_next None = omega arith
    some_next (Some g) = omega arith

file_below : (told : Option DiskLife) (generation start : ℕ) (bodies : List (List ℕ)) (end size next : ℕ) → HoldsFile told generation start bodies end size → generation < next → StandsPassed (Some next) told
file_below None generation start bodies end size next h less = tt
file_below (Some life) generation start bodies end size next h less =
    let is : generation_of (log_of life.now.seen) ≡ Some generation = ap generation_of h.log.log ∙ h.says.generation_is in
    (h.log.synced, subst (λ (g : Option ℕ). IsGenerationBelow (Some next) g) (sym is) less)

none_below : (told : Option DiskLife) (next : ℕ) → StandsPassed None told → StandsPassed (Some next) told
none_below None next h = tt
none_below (Some life) next h = (h.0, below (generation_of (log_of life.now.seen)) h.1)
  where
    below : (g : Option ℕ) → IsGenerationBelow None g → IsGenerationBelow (Some next) g
    below None b = tt
    below (Some g) b = absurd b

old_below : (says : TwinLog) (log : KeptLogState) (told : Option DiskLife) → log.generation ≡ generation_said says → HoldsSaid says log told → StandsPassed (Some (next_generation log.generation)) told
old_below New log told is h = none_below told (next_generation log.generation) h
old_below (Has generation start bodies) log told is h =
    let less : generation < next_generation log.generation = rw is (omega arith) in
    file_below told generation start bodies log.end log.size (next_generation log.generation) h less
old_below (Bad place) log told is h = absurd h

module _ (old : KeptLogState) (says : TwinLog) (put : List (List ℕ)) (disk spare : Option DiskLife) (renews : RenewsTwin old says put disk spare) (at : ℕ) (at_is : old.renewed ≡ Some at) (fits : next_generation old.generation < 2 ^ 64)
    (result : Result (Unit {0}) Failed) (disk' spare' : Option DiskLife) (seals : SealsOn (opposite old.side) disk spare 0 at result disk' spare') where
  at_same : renews.renewed ≡ at
  at_same = same_Some renews.renewed at (sym renews.renewed_is ∙ at_is)

  target_sealed : SealsLog (at_side (opposite old.side) disk spare) [] (generation_body (next_generation old.generation) ∷ put) at result (at_side (opposite old.side) disk' spare')
  target_sealed = seals.0 [] (generation_body (next_generation old.generation) ∷ put) (subst (Stages (at_side (opposite old.side) disk spare) [] (generation_body (next_generation old.generation) ∷ put) 0) at_same renews.target)

  end_crash : OnSide (opposite old.side) disk spare disk' spare' (λ left. IsPassed old.generation left ⊎ IsFileOf (next_generation old.generation) (renewed_place (next_generation old.generation)) put left)
  end_crash = record {
    leaves =
        since_weaker (HasEither [] (generation_body (next_generation old.generation) ∷ put)) (λ left. IsPassed old.generation left ⊎ IsFileOf (next_generation old.generation) (renewed_place (next_generation old.generation)) put left)
        (at_side (opposite old.side) disk spare) (at_side (opposite old.side) disk' spare') (either_renewed old.generation put fits) target_sealed.crash;
    others = seals.1;
  }

  pub end_fails : (answer : Result (Unit {0}) Failed) (e : Failed) → answer ≡ Err e → (new : KeptLogState) → EndsRenewal old disk spare put answer new disk' spare'
  end_fails answer e is new = record { crash = end_crash; kept = λ y ok. absurd (cc (is, ok)) }

  abbrev renewed_log : KeptLogState
  renewed_log = record { side = opposite old.side; generation = Some (next_generation old.generation); size = at + 1; end = at; at = at; next = at; place = 0; renewed = None }

  pub end_done : (x : Unit {0}) → result ≡ Ok x → (y : Unit {0}) → EndsRenewal {E = Failed} old disk spare put (Ok y) renewed_log disk' spare'
  end_done x is y = record {
    crash = end_crash;
    kept = λ z ok. record {
      generation_is = refl;
      own = record {
        all = generation_body (next_generation old.generation) ∷ put;
        log = target_sealed.kept x is;
        says = renewed_says (next_generation old.generation) put (some_next old.generation) fits;
        size_is = subst (λ (n : ℕ). HasSize (at_side (opposite old.side) disk' spare') (n + 1)) at_same (target_sealed.size (renews.renewed + 1) x renews.target_size is);
      };
      other = old_below says old (at_side (opposite (opposite old.side)) disk' spare') renews.generation_is
          (subst (HoldsSaid says old) (sym (seals.1 ∙ at_twice old.side disk spare)) renews.own);
      none_waits = refl;
      none_renews = refl;
    };
  }
    where
      some_next : (g : Option ℕ) → 0 < next_generation g
      some_next None = omega arith
      some_next (Some g) = omega arith

-- ---- between calls

-- none waits behind a log that stands
pub waits_none : (log : KeptLogState) (generation start : ℕ) (bodies : List (List ℕ)) (disk spare : Option DiskLife) → StandsTwin log (Has generation start bodies) disk spare → WaitsTwin log generation start bodies [] disk spare
waits_none log generation start bodies disk spare stands = record {
  generation_is = stands.generation_is;
  all = stands.own.all;
  own = subst (Stages (at_side log.side disk spare) stands.own.all [] log.end) (sym stands.none_waits) (begins (at_side log.side disk spare) stands.own.all log.end stands.own.log);
  says = stands.own.says;
  other = stands.other;
  size = stands.own.size_is;
  none_renews = stands.none_renews;
}

pub next_fits : (generation : Option ℕ) → IfSome generation (λ g. g < 2 ^ 64 - 1) → next_generation generation < 2 ^ 64
next_fits None room = omega arith
next_fits (Some g) room = omega (arith, room)

pub is_some : (renewed : Option ℕ) (at : ℕ) → renewed ≡ Some at → renewed ≢ None
is_some renewed at is none = absurd (cc (is, none))

-- ---- what two files say together

pub file_passed : (generation start : ℕ) (bodies : List (List ℕ)) (next : ℕ) (left : List ℕ) → IsFileOf generation start bodies left → generation < next → IsPassed (Some next) left
file_passed generation start bodies next left is less =
    let here : generation_of (log_of left) ≡ Some generation = ap generation_of is.log ∙ is.says.generation_is in
    subst (IsGenerationBelow (Some next)) (sym here) less

disk_holds : (g : ℕ) (other : Option ℕ) → IsGenerationBelow (Some g) other → log_holder (Some g) other ≡ On Disk
disk_holds g None below = refl
disk_holds g (Some h) below =
    let ne : eqb g h ≡ false = ne_eqb g h (λ e. absurd (omega (arith, e, below))) in
    let less = lt-ltb h g below in
    rw (ne, less) refl

spare_holds : (g : ℕ) (other : Option ℕ) → IsGenerationBelow (Some g) other → log_holder other (Some g) ≡ On Spare
spare_holds g None below = refl
spare_holds g (Some h) below =
    let ne : eqb h g ≡ false = ne_eqb h g (λ e. absurd (omega (arith, e, below))) in
    let more = le-ltb g h (omega (arith, below)) in
    rw (ne, more) refl

file_has : (generation start : ℕ) (bodies : List (List ℕ)) (left : List ℕ) → IsFileOf generation start bodies left → file_says (log_of left) ≡ Has generation start bodies
file_has generation start bodies left is =
    let first = generation_some is.all true generation is.says.generation_is refl in
    ap file_says is.log ∙ ap (λ (g : ℕ). Has g (first_place is.all) (without_generation is.all)) first.1 ∙ ap (λ (n : ℕ). Has generation n (without_generation is.all)) is.says.start_is ∙ ap (Has generation start) is.says.bodies_are

-- the one with the log says it, where the other one is passed
pub says_own : (side : Side) (generation start : ℕ) (bodies : List (List ℕ)) (disk spare : List ℕ) → IsFileOf generation start bodies (at_side side disk spare) → IsPassed (Some generation) (at_side (opposite side) disk spare) → twin_log disk spare ≡ Has generation start bodies
says_own Disk generation start bodies disk spare own passed =
    let here : generation_of (log_of disk) ≡ Some generation = ap generation_of own.log ∙ own.says.generation_is in
    let held : log_holder (generation_of (log_of disk)) (generation_of (log_of spare)) ≡ On Disk = rw here (disk_holds generation (generation_of (log_of spare)) passed) in
    ap (λ (h : LogHolder). says_by h (log_of disk) (log_of spare)) held ∙ file_has generation start bodies disk own
says_own Spare generation start bodies disk spare own passed =
    let here : generation_of (log_of spare) ≡ Some generation = ap generation_of own.log ∙ own.says.generation_is in
    let held : log_holder (generation_of (log_of disk)) (generation_of (log_of spare)) ≡ On Spare = rw here (spare_holds generation (generation_of (log_of disk)) passed) in
    ap (λ (h : LogHolder). says_by h (log_of disk) (log_of spare)) held ∙ file_has generation start bodies spare own

-- neither has a record
pub says_new : (disk spare : List ℕ) → IsPassed None disk → IsPassed None spare → twin_log disk spare ≡ New
says_new disk spare first second =
    let one = none_of (generation_of (log_of disk)) first in
    let other = none_of (generation_of (log_of spare)) second in
    rw (one, other) refl
  where
    none_of : (g : Option ℕ) → IsGenerationBelow None g → g ≡ None
    none_of None below = refl
    none_of (Some h) below = absurd below

-- ---- disks that tell nothing

tells_same : (old new : Option DiskLife) → new ≡ old → TellsAsBefore old new
tells_same None new same = same
tells_same (Some life) new same = tt

tells_by : (old new : Option DiskLife) → (old ≡ None → new ≡ None) → TellsAsBefore old new
tells_by None new h = h refl
tells_by (Some life) new h = tt

tell_on : (side : Side) (disk spare disk' spare' : Option DiskLife) → (at_side side disk spare ≡ None → at_side side disk' spare' ≡ None) → at_side (opposite side) disk' spare' ≡ at_side (opposite side) disk spare → TellAsBefore disk spare disk' spare'
tell_on Disk disk spare disk' spare' own other = (tells_by disk disk' own, tells_same spare spare' other)
tell_on Spare disk spare disk' spare' own other = (tells_same disk disk' other, tells_by spare spare' own)

pub stages_tell : (side : Side) (disk spare : Option DiskLife) (end at : ℕ) (body : List ℕ) (result : Result ℕ Failed) (disk' spare' : Option DiskLife) → StagesOn side disk spare end at body result disk' spare' → TellAsBefore disk spare disk' spare'
stages_tell side disk spare end at body result disk' spare' on = tell_on side disk spare disk' spare' (λ none. by_none (at_side side disk spare) none (on.0 [] [])) on.1
  where
    by_none : (told : Option DiskLife) → told ≡ None → (Stages told [] [] end at → StagesMore told [] [] body end result (at_side side disk' spare')) → at_side side disk' spare' ≡ None
    by_none None none h = (h tt).crash
    by_none (Some life) none h = absurd (cc (none))

pub seals_tell : (side : Side) (disk spare : Option DiskLife) (end at : ℕ) (result : Result (Unit {0}) Failed) (disk' spare' : Option DiskLife) → SealsOn side disk spare end at result disk' spare' → TellAsBefore disk spare disk' spare'
seals_tell side disk spare end at result disk' spare' on = tell_on side disk spare disk' spare' (λ none. by_none (at_side side disk spare) none (on.0 [] [])) on.1
  where
    by_none : (told : Option DiskLife) → told ≡ None → (Stages told [] [] end at → SealsLog told [] [] at result (at_side side disk' spare')) → at_side side disk' spare' ≡ None
    by_none None none h = (h tt).crash
    by_none (Some life) none h = absurd (cc (none))

pub clears_tell : (side : Side) (disk spare : Option DiskLife) (result : Result (Unit {0}) Failed) (disk' spare' : Option DiskLife) → ClearsOn side disk spare result disk' spare' → TellAsBefore disk spare disk' spare'
clears_tell side disk spare result disk' spare' on = tell_on side disk spare disk' spare' (λ none. by_none (at_side side disk spare) none on.0) on.1
  where
    by_none : (told : Option DiskLife) → told ≡ None → ClearsDisk told result (at_side side disk' spare') → at_side side disk' spare' ≡ None
    by_none None none h = h
    by_none (Some life) none h = absurd (cc (none))

tells_both : (a b c : Option DiskLife) → TellsAsBefore a b → TellsAsBefore b c → TellsAsBefore a c
tells_both None b c first second = subst (λ (t : Option DiskLife). TellsAsBefore t c) first second
tells_both (Some life) b c first second = tt

pub tell_both : (disk spare disk1 spare1 disk2 spare2 : Option DiskLife) → TellAsBefore disk spare disk1 spare1 → TellAsBefore disk1 spare1 disk2 spare2 → TellAsBefore disk spare disk2 spare2
tell_both disk spare disk1 spare1 disk2 spare2 first second = (tells_both disk disk1 disk2 first.0 second.0, tells_both spare spare1 spare2 first.1 second.1)

-- what crashes leave of the other file while a renewal stands
pub renews_now : (log : KeptLogState) (says : TwinLog) (put : List (List ℕ)) (disk spare : Option DiskLife) → RenewsTwin log says put disk spare
    → LeavesSince (at_side (opposite log.side) disk spare) (at_side (opposite log.side) disk spare) (IsPassed log.generation)
renews_now log says put disk spare renews = by_told (at_side (opposite log.side) disk spare) renews.target
  where
    by_told : (told : Option DiskLife) → Stages told [] (generation_body (next_generation log.generation) ∷ put) 0 renews.renewed → LeavesSince told told (IsPassed log.generation)
    by_told None waits = refl
    by_told (Some life) waits =
        let has = (waits_in life [] (generation_body (next_generation log.generation) ∷ put) 0 renews.renewed waits).has in
        since_none (IsPassed log.generation) (Some life) (λ left image. passed_none log.generation left (same_bodies life.now.seen [] 0 has left (waits.left left image)))
