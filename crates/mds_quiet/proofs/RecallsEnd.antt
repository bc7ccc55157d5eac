-- Why a tick ends each recall that has expired, and leaves none that waits for the next one.
use Rattle.std.proofs.Common.{arith, ◌≡◌, ◌≢◌, ◌≤◌, ◌<◌, ◌⊎◌, inl, inr, ℕ, zero, suc, Bool, true, false, cond, List, [], ◌∷◌, length, map, filter, Option, Some, None, refl, sym, ap, subst, ◌∙◌}
use Rattle.std.specs.Prelude.{◌==◌, ◌&&◌, not, slice_get, slice_set, if◌then◌else◌}
use Rattle.std.specs.List.{find, list_any, range_with_len}
use Rattle.std.proofs.lemmas.Bool.{cond_both, eq-eqb}
use Rattle.std.proofs.lemmas.List.{length-map}
use Rattle.std.proofs.lemmas.Option.{none-some}
use Rattle.cluster_model.specs.Members.{IsOneOf}
use Rattle.cluster_model.specs.declared.ids.FileId.{FileId}
use Rattle.cluster_model.specs.declared.phase.EndCause.TheVariants.{Recalled}
use Rattle.file_rule.specs.MdsFiles.{FileStep}
use Rattle.file_rule.specs.FilePhases.{FileInput, Revokes, Ticks, phase}
use Rattle.mds_rows.specs.Draws.{drawn}
use Rattle.recall.specs.declared.recall.Recall.{Recall}
use Rattle.recall.specs.declared.recall.RecallStage.{RecallStage}
use Rattle.recall.specs.declared.recall.RecallStage.TheVariants.{Waits, Out, Later, Agreed}
use Rattle.recall.specs.Recalls.{RecallSends, at_stage, has_expired, is_of, is_of_file, stage_at_tick, at_tick, without, without_found, told_found, without_file}
use Rattle.mds_rule.specs.MdsStates.{ServedFile, MdsValue, MdsStep, sends_none, served, with_served, numbered}
use Rattle.mds_rule.specs.ServedFiles.{has_fresh, is_period_end, file_behind, file_stepped, input_at, takes_input}
use Rattle.mds_rule.specs.Goes.{each, file_calls, calls_out}
use Rattle.mds_rule.specs.Events.{leases_end, recall_expires, recalls_expire, kept_calls}
use Rattle.cluster_laws.proofs.FewMirrors.{filter_less}
use Rattle.mds_walk.proofs.Lists.{in_filtered, got_in, found_in}
use Rattle.mds_quiet.specs.RecallLaw.{TickEndsRecalls}
use Rattle.mds_quiet.proofs.OutWalk.{OutCases, each_so, file_so}
use Rattle.mds_quiet.proofs.RecallsOut.{IsSent, sent_of}

-- ---- lists

in_set : {A : Type 0} (x : A) (xs : List A) (i : ℕ) (y : A) → IsOneOf x (slice_set xs i y) → IsOneOf x xs ⊎ (x ≡ y)
in_set x [] i y inside = absurd inside
in_set x (z ∷ xs) zero y (inl same) = inr same
in_set x (z ∷ xs) zero y (inr inside) = inl (inr inside)
in_set x (z ∷ xs) (suc i) y (inl same) = inl (inl same)
in_set x (z ∷ xs) (suc i) y (inr inside) = by_case (in_set x xs i y inside)
  where
    by_case : IsOneOf x xs ⊎ (x ≡ y) → IsOneOf x (z ∷ xs) ⊎ (x ≡ y)
    by_case (inl was) = inl (inr was)
    by_case (inr new) = inr new

-- one that fails the test is left out
filter_shorter : {A : Type 0} (test : A → Bool) (xs : List A) (x : A) → IsOneOf x xs → test x ≡ false → length (filter test xs) < length xs
filter_shorter test [] x inside off = absurd inside
filter_shorter test (y ∷ ys) x (inl same) off =
    let less = filter_less test ys in
    let out = ap (λ (b : Bool). length (cond b (y ∷ filter test ys) (filter test ys))) (ap test (sym same) ∙ off) in
    omega (arith, less, out)
filter_shorter test (y ∷ ys) x (inr inside) off =
    let rest = filter_shorter test ys x inside off in
    cond_both (test y) (y ∷ filter test ys) (filter test ys) (λ (l : List _). length l < suc (length ys)) (λ is. omega (arith, rest)) (λ other. omega (arith, rest))

-- ---- an input of a file ends its recalls, or none

input_recalls : (P : List Recall → Type 0) → ((file : FileId) (recalls : List Recall) → P recalls → P (without_file file recalls)) → (m : MdsValue) (file : FileId) (input : FileInput) (o : Option ServedFile) → P m.recalls → P (input_at m file input o).mds.recalls
input_recalls P ends m file input None i = i
input_recalls P ends m file input (Some s) i =
    let step : FileStep = phase file s.file input m.fresh in
    let n : MdsValue = with_served (record m { fresh = drawn m.fresh step }) file (file_behind s step) in
    cond_both (has_fresh m.fresh) (file_stepped m file s step) (sends_none m) (λ (x : MdsStep). P x.mds.recalls)
    (λ fresh. cond_both (list_any is_period_end step.entries) (record n { recalls = without_file file n.recalls }) n (λ (x : MdsValue). P x.recalls) (λ end. ends file m.recalls i) (λ other. i)) (λ off. i)

fewer : (file : FileId) (recalls : List Recall) (n : ℕ) → length recalls ≤ n → length (without_file file recalls) ≤ n
fewer file recalls n few = let less = filter_less (λ (r : Recall). not (is_of_file file r)) recalls in omega (arith, less, few)

out_is_not : (xid timeouts : ℕ) → Out xid timeouts ≢ Later
out_is_not xid timeouts e = absurd cc

tick_is_not : (stage : RecallStage) → stage_at_tick stage ≢ Later
tick_is_not Waits e = absurd cc
tick_is_not (Out xid timeouts) e = absurd cc
tick_is_not Later e = absurd cc
tick_is_not Agreed e = absurd cc

its_own : (r : Recall) → not (is_of r.file r.cred r) ≡ false
its_own r = ap (λ (b : Bool). not (b && (r.cred.0 == r.cred.0))) (eq-eqb r.file.0 r.file.0 refl) ∙ ap not (eq-eqb r.cred.0 r.cred.0 refl)

module _ (now : ℕ) where
  -- it goes on behind the tick
  abbrev GoesOn : Recall → Type 0
  GoesOn r = (has_expired now r ≡ false) × (r.stage ≢ Later)

  abbrev AllGoOn : List Recall → Type 0
  AllGoOn recalls = (r : Recall) → IsOneOf r recalls → GoesOn r

  ended_on : (file : FileId) (recalls : List Recall) → AllGoOn recalls → AllGoOn (without_file file recalls)
  ended_on file recalls all r inside = all r (in_filtered (λ (x : Recall). not (is_of_file file x)) r recalls inside)

  -- where none has expired
  none_expired : (recalls : List Recall) → find (has_expired now) recalls ≡ None → AllGoOn (map at_tick recalls)
  none_expired [] none r inside = absurd inside
  none_expired (x ∷ recalls) none r inside = by_test (has_expired now x) refl none (none_expired recalls) r inside
    where
      by_test : (b : Bool) → has_expired now x ≡ b → (if b then Some x else find (has_expired now) recalls) ≡ None → (find (has_expired now) recalls ≡ None → AllGoOn (map at_tick recalls)) → AllGoOn (map at_tick (x ∷ recalls))
      by_test true is its more y there = absurd (none-some x (sym its))
      by_test false is its more y (inl same) = subst GoesOn (sym same) (is, tick_is_not x.stage)
      by_test false is its more y (inr there) = more its y there

  shorter : (recalls : List Recall) (r : Recall) → find (has_expired now) recalls ≡ Some r → length (map at_tick (without r.file r.cred recalls)) < length recalls
  shorter recalls r found =
      let less = filter_shorter (λ (x : Recall). not (is_of r.file r.cred x)) recalls r (found_in (has_expired now) recalls r found) (its_own r) in
      let same = length-map (without r.file r.cred recalls) at_tick in
      omega (arith, less, same)

  -- each that has expired ends, one after the other
  all_end : (n : ℕ) (m : MdsValue) → length m.recalls ≤ n → AllGoOn (recalls_expire now n m).mds.recalls
  all_end zero m few = by_found (find (has_expired now) m.recalls) refl
    where
      by_found : (o : Option Recall) → find (has_expired now) m.recalls ≡ o → AllGoOn (map at_tick (without_found o m.recalls))
      by_found None found = none_expired m.recalls found
      by_found (Some r) found = let less = shorter m.recalls r found in absurd (omega (arith, less, few))
  all_end (suc n) m few = by_found (find (has_expired now) m.recalls) refl (all_end n)
    where
      by_found : (o : Option Recall) → find (has_expired now) m.recalls ≡ o → ((x : MdsValue) → length x.recalls ≤ n → AllGoOn (recalls_expire now n x).mds.recalls)
          → AllGoOn (recall_expires (record m { recalls = map at_tick (without_found o m.recalls) }) (told_found o) (recalls_expire now n)).mds.recalls
      by_found None found more = none_expired m.recalls found
      by_found (Some r) found more =
          let x : MdsValue = record m { recalls = map at_tick (without r.file r.cred m.recalls) } in
          let less = shorter m.recalls r found in
          let y : MdsValue = (takes_input x r.file (Revokes Recalled)).mds in
          more y (input_recalls (λ (l : List Recall). length l ≤ n) (λ file l. fewer file l n) x r.file (Revokes Recalled) (served x r.file) (omega (arith, less, few)))

  -- ---- a tick of each file, and the calls that go out

  files_on : (ns : List ℕ) (m : MdsValue) → AllGoOn m.recalls → AllGoOn (each (λ n k. takes_input k (numbered n) Ticks) ns m).mds.recalls
  files_on [] m all = all
  files_on (n ∷ ns) m all = files_on ns (takes_input m (numbered n) Ticks).mds (input_recalls AllGoOn ended_on m (numbered n) Ticks (served m (numbered n)) all)

  abbrev Go : MdsValue → Type 0
  Go m = AllGoOn m.recalls

  out_cases : OutCases Go
  out_cases = record {
    called = λ x node caller sent some i. i;
    skips = λ x some i. i;
    sessions = λ x table i. i;
    recalls = λ x sent goes i. sent_on x.recalls sent (sent_of x.recalls x.next_xid sent goes) i;
    reads = λ x file s n r sent is at goes i. i;
    own = λ x file s c is its i. i;
  }
    where
      set_on : (recalls : List Recall) (place xid : ℕ) (r : Recall) → slice_get recalls place ≡ Some r → AllGoOn recalls → AllGoOn (slice_set recalls place (at_stage (Out xid 0) r))
      set_on recalls place xid r at all x inside = by_case (in_set x recalls place (at_stage (Out xid 0) r) inside)
        where
          by_case : IsOneOf x recalls ⊎ (x ≡ at_stage (Out xid 0) r) → GoesOn x
          by_case (inl was) = all x was
          by_case (inr new) = subst GoesOn (sym new) ((all r (got_in recalls place r at)).0, out_is_not xid 0)

      sent_on : (recalls : List Recall) (sent : RecallSends) → IsSent recalls sent → AllGoOn recalls → AllGoOn sent.recalls
      sent_on recalls sent s all = subst AllGoOn (sym s.behind) (set_on recalls s.place s.xid s.r s.at all)

  out_on : (kept : List (Option (ℕ × ℕ))) (m : MdsValue) → Go m → Go (calls_out kept m).mds
  out_on kept m all = each_so Go out_cases (file_calls kept) (λ n x. file_so Go out_cases kept n x) (range_with_len 1 (length m.files)) m all

  pub recalls_end : (m : MdsValue) → TickEndsRecalls now m
  recalls_end m =
      let behind_leases : MdsValue = (leases_end now (length m.sessions.clients) m).mds in
      let ended : MdsValue = (recalls_expire now (length behind_leases.recalls) behind_leases).mds in
      let ticked : MdsValue = (each (λ n k. takes_input k (numbered n) Ticks) (range_with_len 1 (length ended.files)) ended).mds in
      out_on (kept_calls ended) ticked (files_on (range_with_len 1 (length ended.files)) ended (all_end (length behind_leases.recalls) behind_leases (omega arith)))
