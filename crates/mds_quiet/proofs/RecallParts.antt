-- What an answer, a timeout, a callback that goes out and a tick leave of recalls: those that were, some of them, in their order.
use Rattle.std.proofs.Common.{◌≡◌, inl, ℕ, zero, suc, ◌+◌, Bool, true, false, cond, List, [], ◌∷◌, map, filter, Option, Some, None, refl, sym, ap, subst}
use Rattle.std.specs.Prelude.{nat_lt, slice_get, slice_set, position}
use Rattle.std.specs.List.{find}
use Rattle.std.proofs.lemmas.Bool.{cond_both}
use Rattle.std.proofs.lemmas.Option.{none-some, same_Some}
use Rattle.cluster_model.specs.declared.limits.TheConstants.{MAX_TIMEOUTS}
use Rattle.cluster_model.specs.declared.ids.FileId.{FileId}
use Rattle.cluster_model.specs.declared.ids.Cred.{Cred}
use Rattle.nfs4_types.specs.declared.status.Stat4.{Stat4}
use Rattle.nfs4_types.specs.declared.status.Stat4.TheVariants as stat
use Rattle.recall.specs.declared.recall.Recall.{Recall}
use Rattle.recall.specs.declared.recall.RecallStage.{RecallStage}
use Rattle.recall.specs.declared.recall.RecallStage.TheVariants.{Waits, Out, Later, Agreed}
use Rattle.recall.specs.Recalls.{RecallSends, RecallsAfter, at_stage, at_tick, grant_of, without, without_found, has_expired, may_go, sent_at, sent_from, next_sent, answered, late, step_at, step_from, out_at, after_reply, after_timeout, after_tick}
use Rattle.mds_quiet.proofs.Parts.{IsPart, part_itself, part_more, part_map}

abbrev pub grants : List Recall → List (FileId × Cred)
grants all = map grant_of all

abbrev Less : List Recall → List Recall → Type 0
Less all old = IsPart (grants all) (grants old)

some_of : {A : Type 0} (p : A → Bool) (xs : List A) → IsPart (filter p xs) xs
some_of p [] = tt
some_of {A = A} p (x ∷ xs) = by_test (p x) (some_of p xs)
  where
    by_test : (b : Bool) → IsPart (filter p xs) xs → IsPart (cond b (x ∷ filter p xs) (filter p xs)) (x ∷ xs)
    by_test true rest = inl (refl, rest)
    by_test false rest = part_more (filter p xs) x xs rest

pub some_less : (p : Recall → Bool) (all : List Recall) → IsPart (grants (filter p all)) (grants all)
some_less p all = part_map grant_of (filter p all) all (some_of p all)

staged : (all : List Recall) (place : ℕ) (r : Recall) (stage : RecallStage) → slice_get all place ≡ Some r → grants (slice_set all place (at_stage stage r)) ≡ grants all
staged [] place r stage at = refl
staged (x ∷ all) zero r stage at = ap (λ (y : Recall). grant_of y ∷ grants all) (sym (same_Some x r at))
staged (x ∷ all) (suc place) r stage at = ap (λ (l : List (FileId × Cred)). grant_of x ∷ l) (staged all place r stage at)

stage_less : (all : List Recall) (place : ℕ) (r : Recall) (stage : RecallStage) → slice_get all place ≡ Some r → Less (slice_set all place (at_stage stage r)) all
stage_less all place r stage at = subst (λ (l : List (FileId × Cred)). IsPart l (grants all)) (sym (staged all place r stage at)) (part_itself (grants all))

without_less : (file : FileId) (cred : Cred) (all : List Recall) → Less (without file cred all) all
without_less file cred all = some_less _ all

answer_less : (all : List Recall) (place : ℕ) (r : Recall) (status : Stat4) → slice_get all place ≡ Some r → Less (answered all place r status).recalls all
answer_less all place r stat.Ok at = stage_less all place r Agreed at
answer_less all place r stat.NoMatchingLayout at = without_less r.file r.cred all
answer_less all place r status at = stage_less all place r Later at

late_less : (all : List Recall) (place : ℕ) (r : Recall) (stage : RecallStage) → slice_get all place ≡ Some r → Less (late all place r stage).recalls all
late_less all place r (Out xid timeouts) at =
    cond_both (nat_lt (timeouts + 1) MAX_TIMEOUTS) _ _ (λ (a : RecallsAfter). Less a.recalls all) (λ again. stage_less all place r (Out xid (timeouts + 1)) at) (λ over. without_less r.file r.cred all)
late_less all place r Waits at = part_itself (grants all)
late_less all place r Later at = part_itself (grants all)
late_less all place r Agreed at = part_itself (grants all)

step_less : (all : List Recall) (step : ℕ → Recall → RecallsAfter) → ((place : ℕ) (r : Recall) → slice_get all place ≡ Some r → Less (step place r).recalls all) → (o : Option ℕ) → Less (step_from all step o).recalls all
step_less all step less None = part_itself (grants all)
step_less all step less (Some place) = by_recall (slice_get all place) refl
  where
    by_recall : (o : Option Recall) → slice_get all place ≡ o → Less (step_at all step place o).recalls all
    by_recall None at = part_itself (grants all)
    by_recall (Some r) at = less place r at

pub reply_less : (all : List Recall) (xid : ℕ) (status : Stat4) → IsPart (grants (after_reply all xid status).recalls) (grants all)
reply_less all xid status = step_less all (λ place r. answered all place r status) (λ place r at. answer_less all place r status at) (out_at all xid)

pub timeout_less : (all : List Recall) (xid : ℕ) → IsPart (grants (after_timeout all xid).recalls) (grants all)
timeout_less all xid = step_less all (λ place r. late all place r r.stage) (λ place r at. late_less all place r r.stage at) (out_at all xid)

pub sent_less : (all : List Recall) (xid : ℕ) (sent : RecallSends) → next_sent all xid ≡ Some sent → IsPart (grants sent.recalls) (grants all)
sent_less all xid sent is = by_place (position (may_go all) all) is
  where
    by_recall : (place : ℕ) (o : Option Recall) → slice_get all place ≡ o → sent_at all xid place o ≡ Some sent → Less sent.recalls all
    by_recall place None at its = absurd (none-some sent its)
    by_recall place (Some r) at its = subst (λ (s : RecallSends). Less s.recalls all) (same_Some _ sent its) (stage_less all place r (Out xid 0) at)

    by_place : (o : Option ℕ) → sent_from all xid o ≡ Some sent → Less sent.recalls all
    by_place None its = absurd (none-some sent its)
    by_place (Some place) its = by_recall place (slice_get all place) refl its

ticked : (all : List Recall) → grants (map at_tick all) ≡ grants all
ticked [] = refl
ticked (r ∷ all) = ap (λ (l : List (FileId × Cred)). grant_of r ∷ l) (ticked all)

pub tick_less : (all : List Recall) (now : ℕ) → IsPart (grants (after_tick all now).recalls) (grants all)
tick_less all now = by_found (find (has_expired now) all)
  where
    by_found : (o : Option Recall) → Less (map at_tick (without_found o all)) all
    by_found None = subst (λ (l : List (FileId × Cred)). IsPart l (grants all)) (sym (ticked all)) (part_itself (grants all))
    by_found (Some r) = subst (λ (l : List (FileId × Cred)). IsPart l (grants all)) (sym (ticked (without r.file r.cred all))) (without_less r.file r.cred all)
