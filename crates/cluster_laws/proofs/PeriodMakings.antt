-- A new file whose mirrors are being made: one of them is, so that it is free with some, and all belong to one user.
use Rattle.std.proofs.Common.{◌≡◌, ℕ, zero, suc, ◌+◌, ◌<◌, ◌≤◌, Bool, true, false, ltb, cond, not, List, [], ◌∷◌, ◌++◌, length, map, filter, set, Option, Some, None, is_some, refl, sym, ap, subst, ◌∙◌, arith}
use Rattle.std.specs.Prelude.{slice_get}
use Rattle.std.specs.List.{AllByRecursion, list_all, flat_map}
use Rattle.std.specs.Option.{option_to_list}
use Rattle.std.proofs.lemmas.Bool.{cond_both, and_parts, ltb-true}
use Rattle.cluster_model.specs.declared.ids.Mirror.{Mirror}
use Rattle.cluster_model.specs.declared.entry.Entry.{Entry}
use Rattle.cluster_model.specs.declared.entry.Entry.TheVariants as entry
use Rattle.cluster_model.specs.declared.call_stage.CallStage.{CallStage}
use Rattle.cluster_model.specs.declared.call_stage.CallStage.TheVariants.{Waits, Out, KeptOut, KeptBack, Done, GivenUp}
use Rattle.cluster_model.specs.declared.layout_state.LayoutState.{LayoutState}
use Rattle.cluster_model.specs.Journal.{content_of}
use Rattle.cluster_model.specs.DsCalls.{DsReplyValue, Created, Set, Written, Committed, Bytes, NotSync, Failed}
use Rattle.cluster_model.specs.Fences.{is_out, is_over, stage_at_tick}
use Rattle.cluster_model.specs.Phases.{ids_of, made, free_with}
use Rattle.copy_rule.specs.Copies.{is_given_up}
use Rattle.file_rule.specs.MdsFiles.{Creations, Idle, Makes, FileStep, stays, goes_idle, in_stage, made_as, with_creation, all_made, standing, creation_failed, creation_answered, stage_behind, creation_timed_out, creation_of, making_on, making_at, making_by}
use Rattle.file_rule.specs.declared.creation.Creation.{Creation}
use Rattle.file_rule.specs.FilePhases.{all_at_tick}
use Rattle.cluster_laws.specs.Machine.{file_id}
use Rattle.cluster_laws.specs.Periods.{first_owner, user_when_free, user_in, AreAlike}
use Rattle.cluster_laws.proofs.Facts.{OwnedFrom}
use Rattle.cluster_laws.proofs.Lists.{all_at, all_set, found_at}
use Rattle.cluster_laws.proofs.Invariant.{Net, IsCreationOf, is_answered, IsFile}
use Rattle.cluster_laws.proofs.Lives.{own_file, all_map}
use Rattle.cluster_laws.proofs.Makings.{made_all}
use Rattle.cluster_laws.proofs.FenceDone.{exact_at}
use Rattle.cluster_laws.proofs.Known.{Known}
use Rattle.cluster_laws.proofs.PeriodFacts.{owed_then, user_then, free_of}
use Rattle.cluster_laws.proofs.PeriodStates.{IsMine, IsMadeSo, IsMakingSo, PeriodRow}
use Rattle.cluster_laws.proofs.PeriodRows.{as_before}
use Rattle.cluster_laws.proofs.PeriodFences.{some_more, length_ids}
use Rattle.cluster_laws.proofs.PeriodFacts.{none_granted, granted_append}

-- ---- those that stand

abbrev up : Creation → Bool
up c = not (is_given_up c.stage)

answered_or : (stage : CallStage) → is_over stage ≡ true → is_given_up stage ≡ false → is_answered stage ≡ true
answered_or Waits over kept = absurd cc
answered_or (Out xid timeouts) over kept = absurd cc
answered_or (KeptOut xid) over kept = absurd cc
answered_or KeptBack over kept = absurd cc
answered_or Done over kept = refl
answered_or GivenUp over kept = absurd cc

longer : (xs ys : List Mirror) → 0 < length ys → 0 < length (xs ++ ys)
longer [] ys some = some
longer (x ∷ xs) ys some = some_more x (xs ++ ys)

-- once all are over, one that stands was made
made_some : (items : List Creation) → list_all (λ c. is_over c.stage) items ≡ true → 0 < length (filter up items) → AllByRecursion IsMadeSo items → 0 < length (flat_map (λ c. option_to_list c.made) items)
made_some [] over some made = absurd (none some)
  where
    none : 0 < 0 → ⊥
    none e = omega (arith, e)
made_some (c ∷ items) over some made =
    let parts = and_parts _ _ over in
    by_stage (is_given_up c.stage) refl some parts.0 (λ more. made_some items parts.1 more made.1)
  where
    by_made : (o : Option Mirror) → is_some o ≡ true → 0 < length (option_to_list o ++ flat_map (λ x. option_to_list x.made) items)
    by_made None e = absurd cc
    by_made (Some m) e = some_more m (flat_map (λ x. option_to_list x.made) items)

    by_stage : (b : Bool) → is_given_up c.stage ≡ b → 0 < length (cond (not b) (c ∷ filter up items) (filter up items)) → is_over c.stage ≡ true → (0 < length (filter up items) → 0 < length (flat_map (λ x. option_to_list x.made) items))
        → 0 < length (option_to_list c.made ++ flat_map (λ x. option_to_list x.made) items)
    by_stage true gone some ends more = longer (option_to_list c.made) (flat_map (λ x. option_to_list x.made) items) (more some)
    by_stage false kept some ends more = by_made c.made (made.0 (answered_or c.stage ends kept))

-- another state of one
set_stands : (items : List Creation) (place : ℕ) (c new : Creation) → slice_get items place ≡ Some c → is_given_up new.stage ≡ false → 0 < length (filter up (set items place new))
set_stands [] place c new there kept = absurd cc
set_stands (x ∷ items) zero c new there kept = subst (λ (b : Bool). 0 < length (cond (not b) (new ∷ filter up items) (filter up items))) (sym kept) (first new (filter up items))
  where
    first : (y : Creation) (ys : List Creation) → 0 < length (y ∷ ys)
    first y ys = omega arith
set_stands (x ∷ items) (suc place) c new there kept = by_first (up x) (set_stands items place c new there kept)
  where
    by_first : (b : Bool) → 0 < length (filter up (set items place new)) → 0 < length (cond b (x ∷ filter up (set items place new)) (filter up (set items place new)))
    by_first true rest = omega arith
    by_first false rest = rest

set_less : (items : List Creation) (place : ℕ) (new : Creation) → length (filter up items) ≤ length (filter up (set items place new)) + 1
set_less [] place new = omega arith
set_less (x ∷ items) zero new = by_both (up x) (up new)
  where
    by_both : (a b : Bool) → length (cond a (x ∷ filter up items) (filter up items)) ≤ length (cond b (new ∷ filter up items) (filter up items)) + 1
    by_both true true = omega arith
    by_both true false = omega arith
    by_both false true = omega arith
    by_both false false = omega arith
set_less (x ∷ items) (suc place) new = by_first (up x) (set_less items place new)
  where
    by_first : (a : Bool) → length (filter up items) ≤ length (filter up (set items place new)) + 1 → length (cond a (x ∷ filter up items) (filter up items)) ≤ length (cond a (x ∷ filter up (set items place new)) (filter up (set items place new))) + 1
    by_first true rest = omega (arith, rest)
    by_first false rest = rest

module _ (all : Creations) (place : ℕ) (c : Creation) (there : slice_get all.items place ≡ Some c) (stands : 0 < standing all) where
  abbrev pub IsGood : Creation → Type 0
  IsGood new = (0 < standing (with_creation all place new)) × IsMadeSo new

  pub kept_good : (stage : CallStage) → is_given_up stage ≡ false → (is_answered stage ≡ true → is_some c.made ≡ true) → IsGood (in_stage c stage)
  kept_good stage kept answered = (set_stands all.items place c (in_stage c stage) there kept, answered)

  failed_good : (stage : CallStage) → is_given_up stage ≡ false → is_answered stage ≡ false → IsGood (in_stage c (creation_failed all stage))
  failed_good stage kept answered =
      cond_both (ltb 1 (standing all)) GivenUp stage (λ (x : CallStage). IsGood (in_stage c x))
      (λ e. let two = ltb-true 1 (standing all) e in let less = set_less all.items place (in_stage c GivenUp) in (omega (arith, two, less), λ wrong. absurd cc))
      (λ e. kept_good stage kept (λ is. let wrong : true ≡ false = sym is ∙ answered in absurd cc))

  pub answer_good : (reply : DsReplyValue) → IsGood (creation_answered all c reply)
  answer_good (Created fileid shown) = (set_stands all.items place c (made_as c fileid shown.seen) there refl, λ is. refl)
  answer_good (Set shown) = failed_good KeptBack refl refl
  answer_good (Written shown verifier) = failed_good KeptBack refl refl
  answer_good (Committed shown verifier) = failed_good KeptBack refl refl
  answer_good (Bytes shown eof bytes) = failed_good KeptBack refl refl
  answer_good (NotSync shown) = failed_good KeptBack refl refl
  answer_good (Failed status shown) = failed_good KeptBack refl refl

  pub late_good : (xid : ℕ) → is_out xid c.stage ≡ true → IsGood (creation_timed_out all c)
  late_good xid out = by_stage c.stage out
    where
      by_stage : (stage : CallStage) → is_out xid stage ≡ true → IsGood (in_stage c (stage_behind stage (λ x. creation_failed all (KeptOut x))))
      by_stage Waits o = absurd cc
      by_stage (Out x timeouts) o =
          cond_both (ltb (timeouts + 1) 3) (Out x (timeouts + 1)) (creation_failed all (KeptOut x)) (λ (y : CallStage). IsGood (in_stage c y))
          (λ e. kept_good (Out x (timeouts + 1)) refl (λ is. absurd cc)) (λ e. failed_good (KeptOut x) refl refl)
      by_stage (KeptOut x) o = kept_good (KeptOut x) refl (λ is. absurd cc)
      by_stage KeptBack o = absurd cc
      by_stage Done o = absurd cc
      by_stage GivenUp o = absurd cc

-- ---- the mirrors that were made

alike : (journal : List Entry) (uid : ℕ) (live : List Mirror) → AllByRecursion (λ (m : Mirror). (content_of journal m.id).owner ≡ uid) live → AreAlike journal (ids_of live)
alike journal uid [] h = tt
alike journal uid (m ∷ live) h = rest live h.1
  where
    rest : (more : List Mirror) → AllByRecursion (λ (x : Mirror). (content_of journal x.id).owner ≡ uid) more → AllByRecursion (λ k. (content_of journal k).owner ≡ (content_of journal m.id).owner) (ids_of more)
    rest [] k = tt
    rest (x ∷ more) k = (k.0 ∙ sym h.0, rest more k.1)

first_is : (journal : List Entry) (uid : ℕ) (live : List Mirror) → 0 < length live → AllByRecursion (λ (m : Mirror). (content_of journal m.id).owner ≡ uid) live → first_owner journal (ids_of live) ≡ Some uid
first_is journal uid [] some h = absurd (omega (arith, some))
first_is journal uid (m ∷ live) some h = ap Some h.0

module _ (net : Net) (whose : ℕ → ℕ) (n next_uid files : ℕ) (journal : List Entry) (known : Known net next_uid files journal) (s : LayoutState) (mine : IsMine whose next_uid n s.cred.0) where
  abbrev Row : FileStep → Type 0
  Row x = PeriodRow whose next_uid journal n x.file x.entries

  module _ (all : Creations) (items : AllByRecursion (IsCreationOf net n all.owner) all.items) (owner : all.owner ≡ s.cred.0) (least : net.drawn.top n ≡ all.owner) (so : IsMakingSo journal n s all) where
    owners : AllByRecursion (λ (m : Mirror). (content_of journal m.id).owner ≡ s.cred.0) (all_made all)
    owners =
        made_all net n all.owner (λ m. (content_of journal m.id).owner ≡ s.cred.0) all.items items
        (λ c m ok is.
        let made = ok.made m is in
        let owned : OwnedFrom net.servers m.id all.owner = subst (λ (uid : ℕ). OwnedFrom net.servers m.id uid) ok.low (known.lowest m.id c.name made.1 ok.drawn) in
        exact_at net journal known.exact m.id c.name all.owner made.1 ok.drawn owned (subst (λ (g : ℕ). net.drawn.top g ≤ all.owner) (sym ok.home) (omega (arith, least))) ∙ owner)

    freed : list_all (λ c. is_over c.stage) all.items ≡ true → PeriodRow whose next_uid journal n (record { layout = free_with s (all_made all); activity = Idle }) (entry.Free (file_id n) (ids_of (all_made all)) ∷ [])
    freed over =
        let live : List Mirror = all_made all in
        let free : Entry = entry.Free (file_id n) (ids_of live) in
        let some : 0 < length live = made_some all.items over so.stands so.made in
        let same = length_ids live in
        record {
          place = (record { fenced = so.owed; some = omega (arith, some, same); alike = λ none. alike journal s.cred.0 live owners }, tt);
          of_file = (free_of n (ids_of live), tt);
          grants = (tt, tt);
          tells = (refl, tt);
          period = record {
            mine = mine;
            active = record {
              fenced = record {
                some = some;
                owed = owed_then (file_id n) journal free ∙ so.owed;
                user = user_then (file_id n) journal free
                    ∙ ap (λ (b : Bool). cond b (user_when_free journal (ids_of live) (user_in journal (file_id n))) (user_in journal (file_id n))) (own_file (file_id n))
                    ∙ ap (user_when_free journal (ids_of live)) so.user ∙ first_is journal s.cred.0 live some owners;
              };
              unused = λ e. granted_append s.cred.0 journal (free ∷ []) so.unused (none_granted s.cred.0 (free ∷ []) (tt, tt));
            };
          };
        }

    on_row : Row (making_on (file_id n) s all)
    on_row =
        cond_both (list_all (λ c. is_over c.stage) all.items) (goes_idle (made (file_id n) s (all_made all)) 0) (stays s (Makes all)) Row
        (λ e. freed e) (λ e. as_before whose next_uid journal n _ (record { mine = mine; active = so }))

  module _ (all : Creations) (h : IsFile net journal n (record { layout = s; activity = Makes all })) (so : IsMakingSo journal n s all) where
    same_making : Row (stays s (Makes all))
    same_making = as_before whose next_uid journal n _ (record { mine = mine; active = so })

    pub making_row : (step : Creation → Creation) (xid : ℕ) → ((c : Creation) → IsCreationOf net n all.owner c → is_out xid c.stage ≡ true → IsCreationOf net n all.owner (step c))
        → ((place : ℕ) (c : Creation) → (there : slice_get all.items place ≡ Some c) → is_out xid c.stage ≡ true → IsGood all place c there so.stands (step c)) → Row (making_by (file_id n) s all step (creation_of all xid))
    making_row step xid ok good = by_found (creation_of all xid) refl
      where
        at : (place : ℕ) (c : Creation) → slice_get all.items place ≡ Some c → is_out xid c.stage ≡ true → Row (making_at (file_id n) s all step place (Some c))
        at place c there out =
            let fine = good place c there out in
            on_row (with_creation all place (step c)) (all_set (IsCreationOf net n all.owner) all.items place (step c) h.busy.items (ok c (all_at (IsCreationOf net n all.owner) all.items place c h.busy.items there) out))
            h.busy.owner h.busy.least (record { owed = so.owed; user = so.user; unused = so.unused; stands = fine.0; made = all_set IsMadeSo all.items place (step c) so.made fine.1 })

        by_found : (found : Option ℕ) → creation_of all xid ≡ found → Row (making_by (file_id n) s all step found)
        by_found None is = same_making
        by_found (Some place) is =
            let c = found_at (λ (x : Creation). is_out xid x.stage) all.items place is in
            subst (λ (got : Option Creation). Row (making_at (file_id n) s all step place got)) (sym c.1) (at place c.0 c.1 c.2)

-- ---- a tick

given_tick : (stage : CallStage) → is_given_up (stage_at_tick stage) ≡ is_given_up stage
given_tick Waits = refl
given_tick (Out xid timeouts) = refl
given_tick (KeptOut xid) = refl
given_tick KeptBack = refl
given_tick Done = refl
given_tick GivenUp = refl

answered_tick : (stage : CallStage) → is_answered (stage_at_tick stage) ≡ true → is_answered stage ≡ true
answered_tick Waits is = is
answered_tick (Out xid timeouts) is = is
answered_tick (KeptOut xid) is = absurd cc
answered_tick KeptBack is = absurd cc
answered_tick Done is = is
answered_tick GivenUp is = is

stands_ticked : (items : List Creation) → length (filter up (map (λ c. in_stage c (stage_at_tick c.stage)) items)) ≡ length (filter up items)
stands_ticked [] = refl
stands_ticked (c ∷ items) = by_up (is_given_up (stage_at_tick c.stage)) (is_given_up c.stage) (given_tick c.stage) (stands_ticked items)
  where
    by_up : (a b : Bool) → a ≡ b → length (filter up (map (λ x. in_stage x (stage_at_tick x.stage)) items)) ≡ length (filter up items)
        → length (cond (not a) (in_stage c (stage_at_tick c.stage) ∷ filter up (map (λ x. in_stage x (stage_at_tick x.stage)) items)) (filter up (map (λ x. in_stage x (stage_at_tick x.stage)) items))) ≡ length (cond (not b) (c ∷ filter up items) (filter up items))
    by_up true true e ih = ih
    by_up true false e ih = absurd cc
    by_up false true e ih = absurd cc
    by_up false false e ih = ap suc ih

pub ticked_making : (journal : List Entry) (n : ℕ) (s : LayoutState) (all : Creations) → IsMakingSo journal n s all → IsMakingSo journal n s (all_at_tick all)
ticked_making journal n s all so = record {
  owed = so.owed;
  user = so.user;
  unused = so.unused;
  stands = subst (λ (k : ℕ). 0 < k) (sym (stands_ticked all.items)) so.stands;
  made = all_map IsMadeSo IsMadeSo (λ c. in_stage c (stage_at_tick c.stage)) all.items (λ c k is. k (answered_tick c.stage is)) so.made;
}
