-- What each call of the code comes to.
use Rattle.std.proofs.Common.{◌≡◌, ℕ, ◌+◌, ◌<◌, ◌≤◌, true, false, not, cond, ltb, List, length, map, set, get_or, Option, Some, None, refl, sym, ap, subst, ◌∙◌, arith}
use Rattle.std.specs.Prelude.{slice_get, option_map}
use Rattle.std.specs.List.{find, filter, position}
use Rattle.std.proofs.lemmas.Option.{same_Some, none-some}
use Rattle.std.proofs.lemmas.Bool.{and_parts, not-true, both_ways, lt-ltb, le-ltb}
use Rattle.cluster_model.specs.declared.ids.FileId.{FileId}
use Rattle.cluster_model.specs.declared.ids.Cred.{Cred}
use Rattle.nfs4_types.specs.declared.status.Stat4.{Stat4}
use Rattle.nfs4_types.specs.declared.status.Stat4.TheVariants as stat
use Rattle.recall.specs.declared.recall.Recall.{Recall}
use Rattle.recall.specs.declared.recall.RecallStage.{RecallStage}
use Rattle.recall.specs.declared.recall.RecallStage.TheVariants.{Waits, Out, Later, Agreed}
use Rattle.recall.specs.declared.recall.RecallCall.{RecallCall}
use Rattle.recall.specs.declared.recall.Outcome.TheVariants as outcome
use Rattle.recall.specs.declared.kept_recall.KeptRecall.{KeptRecall}
use Rattle.recall.specs.declared.kept_recall.Ended.TheVariants.{Grant}
use Rattle.recall.specs.Recalls.{is_out, is_out_as, may_go, has_one_out, waits, at_stage, at_tick, grant_of, has_expired, RecallSends, sent_at, sent_from, next_sent, out_at, RecallsAfter, answered, late, step_at, step_from, after_reply, after_timeout, RecallsTick, without, without_found, told_found, after_tick}
use Rattle.recall.specs.Calls.{SendsRecall, WaitsFor}
use Rattle.recall.specs.Entries.{grant_in, recalls_of, is_out_to, is_ready, held_as, goes_on, IsRecallTable}
use Rattle.recall.proofs.Firsts.{passes, none_found, first_there}
use Rattle.recall.proofs.Standing.{ready_in, position_in, at_place, put_in, sent_stands, found_in}
use Rattle.recall.proofs.Statuses.{StatusKind, Agrees, HasNone, Else, kind_of}

-- ---- the next callback

abbrev pub sent_to : RecallCall → List Recall → Option RecallSends
sent_to call recalls = Some (record { recalls = recalls; call = call })

pub sends_none : (es : List KeptRecall) (recalls : List Recall) (xid : ℕ) → IsRecallTable es → recalls_of es ≡ recalls → position is_ready es ≡ None → next_sent recalls xid ≡ None
sends_none es recalls xid stands seen none = subst (λ (rs : List Recall). next_sent rs xid ≡ None) seen (ap (sent_from (recalls_of es) xid) (sym (ready_in es stands) ∙ none))

pub sends_nothing : (recalls : List Recall) (xid : ℕ) (result : Option RecallCall) → result ≡ None → next_sent recalls xid ≡ None → SendsRecall recalls xid result recalls
sends_nothing recalls xid result is none = subst (λ (o : Option RecallCall). SendsRecall recalls xid o recalls) (sym is) (none, refl)

module _ (es : List KeptRecall) (stands : IsRecallTable es) (place : ℕ) (e : KeptRecall) (xid : ℕ) (found : position is_ready es ≡ Some place) (is : e ≡ get_or es place e) where
  sent_at_place : slice_get (recalls_of es) place ≡ Some e.recall
  sent_at_place = at_place es place e (first_there is_ready es place found).within ∙ ap (λ (x : KeptRecall). Some x.recall) (sym is)

  place_may : position (may_go (recalls_of es)) (recalls_of es) ≡ Some place
  place_may = sym (ready_in es stands) ∙ found

  may : may_go (recalls_of es) e.recall ≡ true
  may =
      let first = first_there (may_go (recalls_of es)) (recalls_of es) place place_may in
      let same : first.item ≡ e.recall = same_Some first.item e.recall (sym first.at ∙ sent_at_place) in
      subst (λ (r : Recall). may_go (recalls_of es) r ≡ true) same (passes (may_go (recalls_of es)) (recalls_of es) first.item first.finds)

  none_out : find (is_out_to e.recall.client) (recalls_of es) ≡ None
  none_out =
      let parts = and_parts (waits e.recall.stage) (not (has_one_out (recalls_of es) e.recall.client)) may in
      none_found (is_out_to e.recall.client) (recalls_of es) (not-true (has_one_out (recalls_of es) e.recall.client) parts.1)

  abbrev new_entries : List KeptRecall
  new_entries = map (held_as e.recall.client (Some (grant_of e.recall))) (set es place (record { recall = at_stage (Out xid 0) e.recall; held_by = Some (grant_of e.recall) }))

  pub sends_stands : (new : List KeptRecall) → new ≡ new_entries → IsRecallTable new
  sends_stands new does = subst (λ (l : List KeptRecall). IsRecallTable l) (sym does) (sent_stands es stands place e.recall sent_at_place (Out xid 0) refl none_out)

  pub sends_it : (recalls : List Recall) (new : List KeptRecall) → recalls_of es ≡ recalls → new ≡ new_entries
      → next_sent recalls xid ≡ Some (record { recalls = recalls_of new; call = record { file = e.recall.file; cred = e.recall.cred; client = e.recall.client; xid = xid } })
  sends_it recalls new seen does =
      let call : RecallCall = record { file = e.recall.file; cred = e.recall.cred; client = e.recall.client; xid = xid } in
      let shown : recalls_of new ≡ set (recalls_of es) place (at_stage (Out xid 0) e.recall) =
      ap recalls_of does ∙ put_in e.recall.client (Some (grant_of e.recall)) es place (record { recall = at_stage (Out xid 0) e.recall; held_by = Some (grant_of e.recall) }) in
      subst (λ (rs : List Recall). next_sent rs xid ≡ Some (record { recalls = recalls_of new; call = call })) seen
      (ap (sent_from (recalls_of es) xid) place_may ∙ ap (sent_at (recalls_of es) xid place) sent_at_place ∙ ap (sent_to call) (sym shown))

  pub waits_it : (recalls : List Recall) → recalls_of es ≡ recalls → WaitsFor recalls xid (Some e.recall.file)
  waits_it recalls seen =
      subst (λ (rs : List Recall). WaitsFor rs xid (Some e.recall.file)) seen (
        record {
          recalls = set (recalls_of es) place (at_stage (Out xid 0) e.recall);
          call = record { file = e.recall.file; cred = e.recall.cred; client = e.recall.client; xid = xid };
        },
        ap (sent_from (recalls_of es) xid) place_may ∙ ap (sent_at (recalls_of es) xid place) sent_at_place,
        refl,
      )

-- ---- an answer or a timeout

-- the callback of this number is that of the recall at this place
pub record IsOutAt (recalls : List Recall) (xid place : ℕ) (r : Recall) : Type 0 where
  pub found : out_at recalls xid ≡ Some place
  pub at : slice_get recalls place ≡ Some r
  pub out : is_out_as xid r.stage ≡ true

pub is_out_by : (xid : ℕ) (s : RecallStage) → is_out_as xid s ≡ true → is_out s ≡ true
is_out_by xid (Out own timeouts) is = refl
is_out_by xid Waits is = absurd (both_ways false refl is)
is_out_by xid Later is = absurd (both_ways false refl is)
is_out_by xid Agreed is = absurd (both_ways false refl is)

pub stranger_at : (es : List KeptRecall) (recalls : List Recall) (xid : ℕ) (step : ℕ → Recall → RecallsAfter) → recalls_of es ≡ recalls → position (λ e. is_out_as xid e.recall.stage) es ≡ None
    → record { recalls = recalls; outcome = outcome.Stranger } ≡ step_from recalls step (out_at recalls xid)
stranger_at es recalls xid step seen none =
    subst (λ (rs : List Recall). record { recalls = rs; outcome = outcome.Stranger } ≡ step_from rs step (out_at rs xid)) seen
    (sym (ap (step_from (recalls_of es) step) (sym (position_in (λ r. is_out_as xid r.stage) es) ∙ none)))

pub within_at : (es : List KeptRecall) (xid place : ℕ) → position (λ e. is_out_as xid e.recall.stage) es ≡ Some place → place < length es
within_at es xid place found = (first_there (λ e. is_out_as xid e.recall.stage) es place found).within

pub out_there : (es : List KeptRecall) (recalls : List Recall) (xid place : ℕ) (e : KeptRecall) → recalls_of es ≡ recalls → position (λ e. is_out_as xid e.recall.stage) es ≡ Some place → e ≡ get_or es place e
    → IsOutAt recalls xid place e.recall
out_there es recalls xid place e seen found is =
    let here : out_at (recalls_of es) xid ≡ Some place = sym (position_in (λ r. is_out_as xid r.stage) es) ∙ found in
    let at : slice_get (recalls_of es) place ≡ Some e.recall = at_place es place e (within_at es xid place found) ∙ ap (λ (x : KeptRecall). Some x.recall) (sym is) in
    let first = first_there (λ (r : Recall). is_out_as xid r.stage) (recalls_of es) place here in
    let same : first.item ≡ e.recall = same_Some first.item e.recall (sym first.at ∙ at) in
    let out : is_out_as xid e.recall.stage ≡ true = subst (λ (r : Recall). is_out_as xid r.stage ≡ true) same (passes (λ (r : Recall). is_out_as xid r.stage) (recalls_of es) first.item first.finds) in
    subst (λ (rs : List Recall). IsOutAt rs xid place e.recall) seen (record { found = here; at = at; out = out })

pub steps : (recalls : List Recall) (xid place : ℕ) (r : Recall) (step : ℕ → Recall → RecallsAfter) → IsOutAt recalls xid place r → step_from recalls step (out_at recalls xid) ≡ step place r
steps recalls xid place r step there = ap (step_from recalls step) there.found ∙ ap (step_at recalls step place) there.at

module _ (recalls : List Recall) (xid place : ℕ) (r : Recall) (there : IsOutAt recalls xid place r) (status : Stat4) where
  replied : after_reply recalls xid status ≡ answered recalls place r status
  replied = steps recalls xid place r (λ k x. answered recalls k x status) there

  pub agrees : (new : List Recall) → status ≡ stat.Ok → new ≡ set recalls place (at_stage Agreed r) → record { recalls = new; outcome = outcome.Agreed } ≡ after_reply recalls xid status
  agrees new is does = ap (λ l. record { recalls = l; outcome = outcome.Agreed }) does ∙ ap (answered recalls place r) (sym is) ∙ sym replied

  pub has_none : (new : List Recall) → status ≡ stat.NoMatchingLayout → new ≡ without r.file r.cred recalls → record { recalls = new; outcome = outcome.NoLayout r.file r.cred } ≡ after_reply recalls xid status
  has_none new is does = ap (λ l. record { recalls = l; outcome = outcome.NoLayout r.file r.cred }) does ∙ ap (answered recalls place r) (sym is) ∙ sym replied

  pub asks_later : (new : List Recall) → (status ≡ stat.Ok → ⊥) → (status ≡ stat.NoMatchingLayout → ⊥) → new ≡ set recalls place (at_stage Later r) → record { recalls = new; outcome = outcome.Waiting } ≡ after_reply recalls xid status
  asks_later new not_ok not_none does = by_kind (kind_of status)
    where
      by_kind : StatusKind status → record { recalls = new; outcome = outcome.Waiting } ≡ after_reply recalls xid status
      by_kind (Agrees is) = absurd (not_ok is)
      by_kind (HasNone is) = absurd (not_none is)
      by_kind (Else other) = ap (λ l. record { recalls = l; outcome = outcome.Waiting }) does ∙ sym (other.answers recalls place r) ∙ sym replied

module _ (recalls : List Recall) (xid place : ℕ) (r : Recall) (there : IsOutAt recalls xid place r) where
  timed_out : (s : RecallStage) → r.stage ≡ s → after_timeout recalls xid ≡ late recalls place r s
  timed_out s is = steps recalls xid place r (λ k x. late recalls k x x.stage) there ∙ ap (late recalls place r) is

  pub goes_again : (new : List Recall) (own timeouts : ℕ) → r.stage ≡ Out own timeouts → timeouts < 2 → new ≡ set recalls place (at_stage (Out own (timeouts + 1)) r) → record { recalls = new; outcome = outcome.Waiting } ≡ after_timeout recalls xid
  goes_again new own timeouts is few does =
      let test : ltb (timeouts + 1) 3 ≡ true = lt-ltb (timeouts + 1) 3 (omega arith) in
      ap (λ l. record { recalls = l; outcome = outcome.Waiting }) does
      ∙ sym (ap (λ b. cond {A = RecallsAfter} b (record { recalls = set recalls place (at_stage (Out own (timeouts + 1)) r); outcome = outcome.Waiting }) (record { recalls = without r.file r.cred recalls; outcome = outcome.Expired r.file r.cred })) test)
      ∙ sym (timed_out (Out own timeouts) is)

  pub expires : (new : List Recall) (own timeouts : ℕ) → r.stage ≡ Out own timeouts → 2 ≤ timeouts → new ≡ without r.file r.cred recalls → record { recalls = new; outcome = outcome.Expired r.file r.cred } ≡ after_timeout recalls xid
  expires new own timeouts is many does =
      let test : ltb (timeouts + 1) 3 ≡ false = le-ltb (timeouts + 1) 3 (omega arith) in
      ap (λ l. record { recalls = l; outcome = outcome.Expired r.file r.cred }) does
      ∙ sym (ap (λ b. cond {A = RecallsAfter} b (record { recalls = set recalls place (at_stage (Out own (timeouts + 1)) r); outcome = outcome.Waiting }) (record { recalls = without r.file r.cred recalls; outcome = outcome.Expired r.file r.cred })) test)
      ∙ sym (timed_out (Out own timeouts) is)

  pub is_some_stage : (A : Type 0) → ((own timeouts : ℕ) → r.stage ≡ Out own timeouts → ⊥) → A
  is_some_stage A none = by_stage r.stage refl there.out
    where
      by_stage : (s : RecallStage) → r.stage ≡ s → is_out_as xid s ≡ true → A
      by_stage (Out own timeouts) is out = absurd (none own timeouts is)
      by_stage Waits is out = absurd (both_ways false refl out)
      by_stage Later is out = absurd (both_ways false refl out)
      by_stage Agreed is out = absurd (both_ways false refl out)

-- ---- a tick

abbrev pub tick_to : List Recall → Option (FileId × Cred) → RecallsTick
tick_to recalls expired = record { recalls = recalls; expired = expired }

pub told_in : (now : ℕ) (es : List KeptRecall) (recalls : List Recall) → recalls_of es ≡ recalls → option_map grant_in (find (λ e. has_expired now e.recall) es) ≡ told_found (find (has_expired now) recalls)
told_in now es recalls seen = found_in (has_expired now) es ∙ ap (λ (rs : List Recall). option_map grant_of (find (has_expired now) rs)) seen ∙ by_found (find (has_expired now) recalls)
  where
    by_found : (o : Option Recall) → option_map grant_of o ≡ told_found o
    by_found None = refl
    by_found (Some r) = refl

pub ticks_none : (now : ℕ) (recalls new : List Recall) → told_found (find (has_expired now) recalls) ≡ None → new ≡ map at_tick recalls → tick_to new None ≡ after_tick recalls now
ticks_none now recalls new told does = by_found (find (has_expired now) recalls) told
  where
    by_found : (o : Option Recall) → told_found o ≡ None → tick_to new None ≡ tick_to (map at_tick (without_found o recalls)) (told_found o)
    by_found None is = ap (λ l. tick_to l None) does
    by_found (Some r) is = absurd (none-some (grant_of r) (sym is))

pub ticks_some : (now : ℕ) (recalls mid new : List Recall) (grant : FileId × Cred) → told_found (find (has_expired now) recalls) ≡ Some grant → mid ≡ filter (goes_on (Grant grant.0 grant.1)) recalls → new ≡ map at_tick mid
    → tick_to new (Some grant) ≡ after_tick recalls now
ticks_some now recalls mid new grant told ends does = by_found (find (has_expired now) recalls) told
  where
    by_found : (o : Option Recall) → told_found o ≡ Some grant → tick_to new (Some grant) ≡ tick_to (map at_tick (without_found o recalls)) (told_found o)
    by_found None is = absurd (none-some grant is)
    by_found (Some r) is =
        let same : grant_of r ≡ grant = same_Some (grant_of r) grant is in
        let left : new ≡ map at_tick (without r.file r.cred recalls) = does ∙ ap (map at_tick) (ends ∙ ap (λ (g : FileId × Cred). filter (goes_on (Grant g.0 g.1)) recalls) (sym same)) in
        ap (λ l. tick_to l (Some grant)) left ∙ ap (λ (g : FileId × Cred). tick_to (map at_tick (without r.file r.cred recalls)) (Some g)) (sym same)
