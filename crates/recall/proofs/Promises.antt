-- What holds of recalls in every run, from what the notes tell.
use Rattle.std.proofs.Common.{◌≡◌, ℕ, ◌+◌, Bool, true, false, cond, eqb, ltb, Option, Some, None, refl, sym, ap, subst, ◌∙◌, arith}
use Rattle.std.specs.Prelude.{slice_get, slice_set, option_map}
use Rattle.std.specs.List.{find, position}
use Rattle.std.proofs.lemmas.Option.{same_Some, none-some}
use Rattle.std.proofs.lemmas.Bool.{eq-eqb, ltb-false, ltb-true, and_from, both_ways}
use Rattle.cluster_model.specs.declared.ids.FileId.{FileId}
use Rattle.cluster_model.specs.declared.ids.Cred.{Cred}
use Rattle.nfs4_types.specs.declared.status.Stat4.{Stat4}
use Rattle.nfs4_types.specs.declared.status.Stat4.TheVariants as stat
use Rattle.recall.specs.declared.recall.TheConstants.{RECALL_TIME}
use Rattle.recall.specs.declared.recall.Recall.{Recall}
use Rattle.recall.specs.declared.recall.RecallStage.{RecallStage}
use Rattle.recall.specs.declared.recall.RecallStage.TheVariants.{Waits, Out, Later, Agreed}
use Rattle.recall.specs.declared.recall.Outcome.{Outcome}
use Rattle.recall.specs.declared.recall.Outcome.TheVariants as outcome
use Rattle.recall.specs.Recalls.{is_of, at_stage, is_out, is_out_as, may_go, has_expired, RecallSends, sent_at, sent_from, next_sent, RecallsAfter, answered, late, out_at, step_from, after_reply, after_timeout, after_tick, without, told_found}
use Rattle.recall.specs.RecallLaws.{RecallRun, recall_run, OutRecall, call_out, AskedRecall, asked_of, asked_in, reply_outcome, timeout_outcome, IsExpiry, IsDueCall, RecallLaw}
use Rattle.recall.specs.Entries.{is_out_to}
use Rattle.recall.proofs.Firsts.{passes, none_passes, one_found, no_first}
use Rattle.recall.proofs.Statuses.{StatusKind, Agrees, HasNone, Else, kind_of}
use Rattle.recall.proofs.Answered.{IsOutAt, is_out_by, steps}
use Rattle.recall.proofs.Told.{out_as, timeouts_of, as_out, Told, is_own, same_xid}
use Rattle.recall.proofs.Moves.{found_out, nothing_out, is_call, may_at, always_told}

no_reply : (status : Stat4) → outcome.Stranger ≡ reply_outcome status None
no_reply status = by_kind (kind_of status)
  where
    by_kind : StatusKind status → outcome.Stranger ≡ reply_outcome status None
    by_kind (Agrees is) = ap (λ (s : Stat4). reply_outcome s None) (sym is)
    by_kind (HasNone is) = ap (λ (s : Stat4). reply_outcome s None) (sym is)
    by_kind (Else other) = refl

module _ (run : RecallRun) (told : Told run) where
  -- ---- answers and timeouts

  reply_is : (xid place : ℕ) (r : Recall) → IsOutAt run.recalls xid place r → (status : Stat4) → (answered run.recalls place r status).outcome ≡ reply_outcome status (call_out run.notes xid)
  reply_is xid place r there status = by_kind (kind_of status)
    where
      call : call_out run.notes xid ≡ Some (as_out xid r)
      call = is_call run told xid place r there

      by_kind : StatusKind status → (answered run.recalls place r status).outcome ≡ reply_outcome status (call_out run.notes xid)
      by_kind (Agrees is) = ap (λ (s : Stat4). (answered run.recalls place r s).outcome) is ∙ sym (ap (λ (s : Stat4). reply_outcome s (call_out run.notes xid)) is ∙ ap (reply_outcome stat.Ok) call)
      by_kind (HasNone is) = ap (λ (s : Stat4). (answered run.recalls place r s).outcome) is ∙ sym (ap (λ (s : Stat4). reply_outcome s (call_out run.notes xid)) is ∙ ap (reply_outcome stat.NoMatchingLayout) call)
      by_kind (Else other) = ap (λ (a : RecallsAfter). a.outcome) (other.answers run.recalls place r) ∙ sym (ap (reply_outcome status) call ∙ other.outcome_is (as_out xid r))

  pub replies : (xid : ℕ) (status : Stat4) → (after_reply run.recalls xid status).outcome ≡ reply_outcome status (call_out run.notes xid)
  replies xid status = by_place (out_at run.recalls xid) refl
    where
      by_place : (o : Option ℕ) → out_at run.recalls xid ≡ o → (after_reply run.recalls xid status).outcome ≡ reply_outcome status (call_out run.notes xid)
      by_place None is =
          ap (λ (a : RecallsAfter). a.outcome) (ap (step_from run.recalls (λ k x. answered run.recalls k x status)) is)
          ∙ no_reply status ∙ sym (ap (reply_outcome status) (nothing_out run told xid (no_first (out_as xid) run.recalls is)))
      by_place (Some place) is =
          let found = found_out run.recalls xid place is in
          ap (λ (a : RecallsAfter). a.outcome) (steps run.recalls xid place found.0 (λ k x. answered run.recalls k x status) found.1) ∙ reply_is xid place found.0 found.1 status

  timeout_is : (xid place : ℕ) (r : Recall) → IsOutAt run.recalls xid place r → (late run.recalls place r r.stage).outcome ≡ timeout_outcome (call_out run.notes xid)
  timeout_is xid place r there = by_stage r.stage refl there.out ∙ sym (ap timeout_outcome (is_call run told xid place r there))
    where
      by_test : (own timeouts : ℕ) (b : Bool)
          → (cond {A = RecallsAfter} b (record { recalls = slice_set run.recalls place (at_stage (Out own (timeouts + 1)) r); outcome = outcome.Waiting }) (record { recalls = without r.file r.cred run.recalls; outcome = outcome.Expired r.file r.cred })).outcome
          ≡ cond {A = Outcome} b outcome.Waiting (outcome.Expired r.file r.cred)
      by_test own timeouts true = refl
      by_test own timeouts false = refl

      by_stage : (s : RecallStage) → r.stage ≡ s → is_out_as xid s ≡ true → (late run.recalls place r s).outcome ≡ timeout_outcome (Some (as_out xid r))
      by_stage (Out own timeouts) is out =
          by_test own timeouts (ltb (timeouts + 1) 3) ∙ sym (ap (λ (s : RecallStage). cond {A = Outcome} (ltb (timeouts_of s + 1) 3) outcome.Waiting (outcome.Expired r.file r.cred)) is)
      by_stage Waits is out = absurd (both_ways false refl out)
      by_stage Later is out = absurd (both_ways false refl out)
      by_stage Agreed is out = absurd (both_ways false refl out)

  pub timeouts : (xid : ℕ) → (after_timeout run.recalls xid).outcome ≡ timeout_outcome (call_out run.notes xid)
  timeouts xid = by_place (out_at run.recalls xid) refl
    where
      by_place : (o : Option ℕ) → out_at run.recalls xid ≡ o → (after_timeout run.recalls xid).outcome ≡ timeout_outcome (call_out run.notes xid)
      by_place None is =
          ap (λ (a : RecallsAfter). a.outcome) (ap (step_from run.recalls (λ k x. late run.recalls k x x.stage)) is)
          ∙ sym (ap timeout_outcome (nothing_out run told xid (no_first (out_as xid) run.recalls is)))
      by_place (Some place) is =
          let found = found_out run.recalls xid place is in
          ap (λ (a : RecallsAfter). a.outcome) (steps run.recalls xid place found.0 (λ k x. late run.recalls k x x.stage) found.1) ∙ timeout_is xid place found.0 found.1

  -- ---- what has expired

  -- who was asked is a recall
  asked_as : (file : FileId) (cred : Cred) (asked : AskedRecall) → asked_of run.notes file cred ≡ Some asked → (r : Recall) × (find (is_of file cred) run.recalls ≡ Some r) × (asked_in r ≡ asked)
  asked_as file cred asked is = by_found (find (is_of file cred) run.recalls) refl (told.asked file cred ∙ is)
    where
      by_found : (o : Option Recall) → find (is_of file cred) run.recalls ≡ o → option_map asked_in o ≡ Some asked → (r : Recall) × (find (is_of file cred) run.recalls ≡ Some r) × (asked_in r ≡ asked)
      by_found None found says = absurd (none-some asked says)
      by_found (Some r) found says = (r, found, same_Some (asked_in r) asked says)

  -- what is found by any test was asked
  asked_by : (test : Recall → Bool) (r : Recall) → find test run.recalls ≡ Some r → asked_of run.notes r.file r.cred ≡ Some (asked_in r)
  asked_by test r found = sym (told.asked r.file r.cred) ∙ ap (option_map asked_in) (one_found (is_of r.file r.cred) test run.recalls r (told.grants r.file r.cred) found (is_own r))

  pub expiries : (now : ℕ) → IsExpiry run.notes now (after_tick run.recalls now).expired
  expiries now = by_found (find (has_expired now) run.recalls) refl
    where
      by_found : (o : Option Recall) → find (has_expired now) run.recalls ≡ o → IsExpiry run.notes now (told_found o)
      by_found None none = λ file cred asked is.
          let a = asked_as file cred asked is in
          let r : Recall = a.0 in
          let at : r.asked ≡ asked.at = ap (λ (x : AskedRecall). x.at) a.2 in
          let in_time = ltb-false (r.asked + RECALL_TIME) now (none_passes (has_expired now) (is_of file cred) run.recalls r none a.1) in
          omega (arith, at, in_time)
      by_found (Some r) found = (asked_in r, asked_by (has_expired now) r found, ltb-true (r.asked + RECALL_TIME) now (passes (has_expired now) run.recalls r found))

  -- ---- one callback a client

  out_by : (xid : ℕ) (o : OutRecall) → call_out run.notes xid ≡ Some o → (r : Recall) × (find (out_as xid) run.recalls ≡ Some r) × (as_out xid r ≡ o)
  out_by xid o is = by_found (find (out_as xid) run.recalls) refl (told.out xid ∙ is)
    where
      by_found : (f : Option Recall) → find (out_as xid) run.recalls ≡ f → option_map (as_out xid) f ≡ Some o → (r : Recall) × (find (out_as xid) run.recalls ≡ Some r) × (as_out xid r ≡ o)
      by_found None found says = absurd (none-some o says)
      by_found (Some r) found says = (r, found, same_Some (as_out xid r) o says)

  -- a callback that is out is out to its client
  out_to_it : (xid client : ℕ) (r : Recall) → find (out_as xid) run.recalls ≡ Some r → r.client ≡ client → is_out_to client r ≡ true
  out_to_it xid client r found same = and_from (eqb r.client client) (is_out r.stage) (eq-eqb r.client client same) (is_out_by xid r.stage (passes (out_as xid) run.recalls r found))

  pub sends : (xid : ℕ) (s : RecallSends) → next_sent run.recalls xid ≡ Some s → IsDueCall run.notes s.call
  sends xid s is = by_place (position (may_go run.recalls) run.recalls) refl is
    where
      by_recall : (place : ℕ) → position (may_go run.recalls) run.recalls ≡ Some place → (o : Option Recall) → slice_get run.recalls place ≡ o → sent_at run.recalls xid place o ≡ Some s → IsDueCall run.notes s.call
      by_recall place found None at says = absurd (none-some s says)
      by_recall place found (Some r) at says =
          let may = may_at run told place r found at in
          subst (λ (x : RecallSends). IsDueCall run.notes x.call) (same_Some _ s says) (record {
            asked = asked_in r;
            under_way = asked_by (may_go run.recalls) r may.0;
            client = refl;
            alone = λ y o out same.
                let b = out_by y o out in
                let to_it : b.0.client ≡ r.client = ap (λ (x : OutRecall). x.call.client) b.2 ∙ same in
                both_ways (is_out_to r.client b.0) (none_passes (is_out_to r.client) (out_as y) run.recalls b.0 may.2 b.1) (out_to_it y r.client b.0 b.1 to_it);
          })

      by_place : (o : Option ℕ) → position (may_go run.recalls) run.recalls ≡ o → sent_from run.recalls xid o ≡ Some s → IsDueCall run.notes s.call
      by_place None found says = absurd (none-some s says)
      by_place (Some place) found says = by_recall place found (slice_get run.recalls place) refl says

  pub alone : (x y : ℕ) (a b : OutRecall) → call_out run.notes x ≡ Some a → call_out run.notes y ≡ Some b → a.call.client ≡ b.call.client → x ≡ y
  alone x y a b a_is b_is same =
      let p = out_by x a a_is in
      let q = out_by y b b_is in
      let client = p.0.client in
      let to_it : q.0.client ≡ client = ap (λ (o : OutRecall). o.call.client) q.2 ∙ sym same ∙ sym (ap (λ (o : OutRecall). o.call.client) p.2) in
      let first_p = one_found (is_out_to client) (out_as x) run.recalls p.0 (told.clients client) p.1 (out_to_it x client p.0 p.1 refl) in
      let first_q = one_found (is_out_to client) (out_as y) run.recalls q.0 (told.clients client) q.1 (out_to_it y client q.0 q.1 to_it) in
      let one : q.0 ≡ p.0 = same_Some q.0 p.0 (sym first_q ∙ first_p) in
      same_xid x y p.0.stage (passes (out_as x) run.recalls p.0 p.1) (subst (λ (r : Recall). is_out_as y r.stage ≡ true) one (passes (out_as y) run.recalls q.0 q.1))

pub law : RecallLaw
law = record {
  under_way = λ moves file cred. (always_told moves).asked file cred;
  replies = λ moves xid status. replies (recall_run moves) (always_told moves) xid status;
  timeouts = λ moves xid. timeouts (recall_run moves) (always_told moves) xid;
  expiries = λ moves now. expiries (recall_run moves) (always_told moves) now;
  sends = λ moves xid s is. sends (recall_run moves) (always_told moves) xid s is;
  alone = λ moves x y a b a_is b_is same. alone (recall_run moves) (always_told moves) x y a b a_is b_is same;
}
