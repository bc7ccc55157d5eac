-- The callbacks of recalls that are out, as places of one server.
use Rattle.std.proofs.Common.{◌≡◌, ℕ, ◌+◌, Bool, true, false, List, [], ◌∷◌, Option, Some, None, refl, sym, ap, subst, ◌∙◌, inr}
use Rattle.std.specs.Prelude.{◌==◌, ◌&&◌, not, nat_lt, is_some, find, map, position, slice_get, slice_set}
use Rattle.std.specs.List.{list_any}
use Rattle.std.proofs.lemmas.Bool.{cond_both, eq-eqb}
use Rattle.cluster_model.specs.declared.limits.TheConstants.{MAX_TIMEOUTS}
use Rattle.cluster_model.specs.declared.ids.FileId.{FileId}
use Rattle.cluster_model.specs.declared.ids.Cred.{Cred}
use Rattle.nfs4_types.specs.declared.status.Stat4.{Stat4}
use Rattle.nfs4_types.specs.declared.status.Stat4.TheVariants as stat
use Rattle.recall.specs.declared.recall.Recall.{Recall}
use Rattle.recall.specs.declared.recall.RecallStage.{RecallStage}
use Rattle.recall.specs.declared.recall.RecallStage.TheVariants.{Waits, Out, Later, Agreed}
use Rattle.recall.specs.declared.recall.Outcome.TheVariants as outcome
use Rattle.recall.specs.Recalls.{RecallsAfter, RecallSends, is_of, is_before, at_stage, is_out_as, with_recall, sent_at, sent_from, next_sent, may_go, without, answered, late, out_at, step_at, step_from, after_reply, after_timeout, has_expired, stage_at_tick, at_tick, without_found, after_tick, without_file, is_of_file}
use Rattle.mds_walk.proofs.Lists.{none_there, first_there}
use Rattle.standing_calls.proofs.Spots.{Spot, is_number, has_number, is_spot_of, not_both, IsLeft, left_same, left_then, left_none, left_keep, filter_left, filter_gone, Less, thin_left, map_thin, map_set, first_passes, map_any, any_same}
use Rattle.standing_calls.proofs.OwnSpots.{item_left}
use Rattle.standing_calls.proofs.OwnSteps.{Taken, item_gone, never_out}

abbrev pub number_of : RecallStage → Option ℕ
number_of Waits = None
number_of (Out xid timeouts) = Some xid
number_of Later = None
number_of Agreed = None

abbrev pub recall_spot : Recall → Spot
recall_spot r = (0, number_of r.stage)

abbrev pub recall_spots : List Recall → List Spot
recall_spots recalls = map recall_spot recalls

pub out_number : (n : ℕ) (stage : RecallStage) → is_out_as n stage ≡ is_number n (number_of stage)
out_number n Waits = refl
out_number n (Out xid timeouts) = refl
out_number n Later = refl
out_number n Agreed = refl

-- ---- a recall is asked for

pub asked_left : (r : Recall) → number_of r.stage ≡ None → (recalls : List Recall) → IsLeft (recall_spots (with_recall r recalls)) (recall_spots recalls)
asked_left r none [] = left_none [] [] (recall_spot r) none (left_same [])
asked_left r none (x ∷ recalls) =
    cond_both (is_before r x) (r ∷ (x ∷ recalls)) (x ∷ with_recall r recalls) (λ (l : List Recall). IsLeft (recall_spots l) (recall_spots (x ∷ recalls)))
    (λ is. left_none (recall_spots (x ∷ recalls)) (recall_spots (x ∷ recalls)) (recall_spot r) none (left_same (recall_spots (x ∷ recalls))))
    (λ off. left_keep (recall_spots (with_recall r recalls)) (recall_spots recalls) (recall_spot x) (asked_left r none recalls))

-- ---- a timeout, a tick, the end of a file's periods

put_left : (recalls : List Recall) (place : ℕ) (r : Recall) (stage : RecallStage) → slice_get recalls place ≡ Some r → Less (recall_spot r) (0, number_of stage) → IsLeft (recall_spots (slice_set recalls place (at_stage stage r))) (recall_spots recalls)
put_left recalls place r stage at less = thin_left (recall_spots (slice_set recalls place (at_stage stage r))) (recall_spots recalls) (item_left recall_spot recalls place r (at_stage stage r) at less)

without_left : (file : FileId) (cred : Cred) (recalls : List Recall) → IsLeft (recall_spots (without file cred recalls)) (recall_spots recalls)
without_left file cred recalls = filter_left recall_spot (λ (r : Recall). not (is_of file cred r)) recalls

pub ended_left : (file : FileId) (recalls : List Recall) → IsLeft (recall_spots (without_file file recalls)) (recall_spots recalls)
ended_left file recalls = filter_left recall_spot (λ (r : Recall). not (is_of_file file r)) recalls

late_left : (recalls : List Recall) (place : ℕ) (r : Recall) → slice_get recalls place ≡ Some r → (stage : RecallStage) → r.stage ≡ stage → IsLeft (recall_spots (late recalls place r stage).recalls) (recall_spots recalls)
late_left recalls place r at (Out xid timeouts) is =
    cond_both (nat_lt (timeouts + 1) MAX_TIMEOUTS) (record { recalls = slice_set recalls place (at_stage (Out xid (timeouts + 1)) r); outcome = outcome.Waiting })
    (record { recalls = without r.file r.cred recalls; outcome = outcome.Expired r.file r.cred }) (λ (a : RecallsAfter). IsLeft (recall_spots a.recalls) (recall_spots recalls))
    (λ few. put_left recalls place r (Out xid (timeouts + 1)) at (inr (ap (λ (s : RecallStage). (0, number_of s)) (sym is)))) (λ last. without_left r.file r.cred recalls)
late_left recalls place r at Waits is = left_same (recall_spots recalls)
late_left recalls place r at Later is = left_same (recall_spots recalls)
late_left recalls place r at Agreed is = left_same (recall_spots recalls)

late_at : (recalls : List Recall) (place : ℕ) (o : Option Recall) → slice_get recalls place ≡ o → IsLeft (recall_spots (step_at recalls (λ p r. late recalls p r r.stage) place o).recalls) (recall_spots recalls)
late_at recalls place None at = left_same (recall_spots recalls)
late_at recalls place (Some r) at = late_left recalls place r at r.stage refl

late_from : (recalls : List Recall) (o : Option ℕ) → IsLeft (recall_spots (step_from recalls (λ p r. late recalls p r r.stage) o).recalls) (recall_spots recalls)
late_from recalls None = left_same (recall_spots recalls)
late_from recalls (Some place) = late_at recalls place (slice_get recalls place) refl

pub timed_left : (recalls : List Recall) (xid : ℕ) → IsLeft (recall_spots (after_timeout recalls xid).recalls) (recall_spots recalls)
timed_left recalls xid = late_from recalls (out_at recalls xid)

tick_less : (stage : RecallStage) → Less (0, number_of stage) (0, number_of (stage_at_tick stage))
tick_less Waits = inr refl
tick_less (Out xid timeouts) = inr refl
tick_less Later = inr refl
tick_less Agreed = inr refl

found_left : (o : Option Recall) (recalls : List Recall) → IsLeft (recall_spots (without_found o recalls)) (recall_spots recalls)
found_left None recalls = left_same (recall_spots recalls)
found_left (Some r) recalls = without_left r.file r.cred recalls

pub ticked_left : (recalls : List Recall) (now : ℕ) → IsLeft (recall_spots (after_tick recalls now).recalls) (recall_spots recalls)
ticked_left recalls now =
    let rest : List Recall = without_found (find (has_expired now) recalls) recalls in
    left_then (recall_spots (map at_tick rest)) (recall_spots rest) (recall_spots recalls) (thin_left (recall_spots (map at_tick rest)) (recall_spots rest) (map_thin recall_spot at_tick (λ r. tick_less r.stage) rest))
    (found_left (find (has_expired now) recalls) recalls)

-- ---- an answer

module _ (recalls : List Recall) (xid place : ℕ) (r : Recall) (at : slice_get recalls place ≡ Some r) (out : is_out_as xid r.stage ≡ true) where
  numbered : is_number xid (recall_spot r).1 ≡ true
  numbered = sym (out_number xid r.stage) ∙ out

  put_gone : (stage : RecallStage) → number_of stage ≡ None → Taken xid (recall_spots recalls) (recall_spots (slice_set recalls place (at_stage stage r)))
  put_gone stage none = item_gone recall_spot xid recalls place r (at_stage stage r) at numbered none

  is_its : not (is_of r.file r.cred r) ≡ false
  is_its = ap (λ (b : Bool). not (b && (r.cred.0 == r.cred.0))) (eq-eqb r.file.0 r.file.0 refl) ∙ ap not (eq-eqb r.cred.0 r.cred.0 refl)

  over_gone : Taken xid (recall_spots recalls) (recall_spots (without r.file r.cred recalls))
  over_gone = record {
    left = without_left r.file r.cred recalls;
    gone = λ once. filter_gone recall_spot (λ (x : Recall). not (is_of r.file r.cred x)) xid recalls place r at numbered is_its once;
  }

  answer_gone : (status : Stat4) → Taken xid (recall_spots recalls) (recall_spots (answered recalls place r status).recalls)
  answer_gone stat.Ok = put_gone Agreed refl
  answer_gone stat.NoMatchingLayout = over_gone
  answer_gone status = put_gone Later refl

reply_at : (recalls : List Recall) (xid : ℕ) (status : Stat4) (place : ℕ) → out_at recalls xid ≡ Some place → (o : Option Recall) → slice_get recalls place ≡ o
    → Taken xid (recall_spots recalls) (recall_spots (step_at recalls (λ p r. answered recalls p r status) place o).recalls)
reply_at recalls xid status place first None at = absurd (first_there (λ (r : Recall). is_out_as xid r.stage) recalls place first at)
reply_at recalls xid status place first (Some r) at = answer_gone recalls xid place r at (first_passes (λ (r : Recall). is_out_as xid r.stage) recalls place r first at) status

any_out : (n : ℕ) (recalls : List Recall) → list_any (λ (r : Recall). is_out_as n r.stage) recalls ≡ has_number n (recall_spots recalls)
any_out n recalls =
    any_same (λ (r : Recall). is_out_as n r.stage) (λ (r : Recall). is_number n (number_of r.stage)) (λ r. out_number n r.stage) recalls ∙ sym (map_any (is_spot_of n) recall_spot recalls)

reply_from : (recalls : List Recall) (xid : ℕ) (status : Stat4) (o : Option ℕ) → out_at recalls xid ≡ o → Taken xid (recall_spots recalls) (recall_spots (step_from recalls (λ p r. answered recalls p r status) o).recalls)
reply_from recalls xid status None first = never_out xid (recall_spots recalls) (sym (any_out xid recalls) ∙ none_there (λ (r : Recall). is_out_as xid r.stage) recalls first)
reply_from recalls xid status (Some place) first = reply_at recalls xid status place first (slice_get recalls place) refl

pub reply_taken : (recalls : List Recall) (xid : ℕ) (status : Stat4) → Taken xid (recall_spots recalls) (recall_spots (after_reply recalls xid status).recalls)
reply_taken recalls xid status = reply_from recalls xid status (out_at recalls xid) refl

-- what is out is awaited
pub out_awaited : (recalls : List Recall) (n : ℕ) → has_number n (recall_spots recalls) ≡ true → is_some (out_at recalls n) ≡ true
out_awaited recalls n is = by_place (out_at recalls n) refl
  where
    by_place : (o : Option ℕ) → out_at recalls n ≡ o → is_some o ≡ true
    by_place None first = absurd (not_both (sym is ∙ (sym (any_out n recalls) ∙ none_there (λ (r : Recall). is_out_as n r.stage) recalls first)))
    by_place (Some place) first = refl

-- ---- a callback goes out

pub record RecallGoes (recalls : List Recall) (xid : ℕ) (s : RecallSends) : Type 0 where
  pub place : ℕ
  pub set : recall_spots s.recalls ≡ slice_set (recall_spots recalls) place (0, Some xid)

abbrev MayGo : List Recall → ℕ → Option RecallSends → Type 0
MayGo recalls xid None = Unit {0}
MayGo recalls xid (Some s) = RecallGoes recalls xid s

at_goes : (recalls : List Recall) (xid place : ℕ) (o : Option Recall) → MayGo recalls xid (sent_at recalls xid place o)
at_goes recalls xid place None = tt
at_goes recalls xid place (Some r) = record { place = place; set = map_set recall_spot recalls place (at_stage (Out xid 0) r) }

from_goes : (recalls : List Recall) (xid : ℕ) (o : Option ℕ) → MayGo recalls xid (sent_from recalls xid o)
from_goes recalls xid None = tt
from_goes recalls xid (Some place) = at_goes recalls xid place (slice_get recalls place)

pub recall_goes : (recalls : List Recall) (xid : ℕ) (s : RecallSends) → next_sent recalls xid ≡ Some s → RecallGoes recalls xid s
recall_goes recalls xid s is = subst (MayGo recalls xid) is (from_goes recalls xid (position (may_go recalls) recalls))
