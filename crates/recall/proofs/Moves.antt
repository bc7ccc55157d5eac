-- What the notes tell holds behind each move.
use Rattle.std.proofs.Common.{◌≡◌, inl, ℕ, ◌+◌, ◌<◌, ◌≤◌, Bool, true, false, not, ◌&&◌, cond, eqb, ltb, List, [], ◌∷◌, map, set, Option, Some, None, refl, sym, ap, subst, ◌∙◌, arith}
use Rattle.std.specs.Prelude.{slice_get, option_map, fold}
use Rattle.std.specs.List.{find, position}
use Rattle.std.proofs.lemmas.Option.{same_Some}
use Rattle.std.proofs.lemmas.Bool.{eq-eqb, eqb-true, ltb-false, ltb-true, ne_eqb, and_parts, not-true, both_ways, lt-ltb, le-ltb}
use Rattle.cluster_model.specs.declared.ids.FileId.{FileId}
use Rattle.cluster_model.specs.declared.ids.Cred.{Cred}
use Rattle.nfs4_types.specs.declared.status.Stat4.{Stat4}
use Rattle.nfs4_types.specs.declared.status.Stat4.TheVariants as stat
use Rattle.recall.specs.declared.recall.Recall.{Recall}
use Rattle.recall.specs.declared.recall.RecallStage.{RecallStage}
use Rattle.recall.specs.declared.recall.RecallStage.TheVariants.{Waits, Out, Later, Agreed}
use Rattle.recall.specs.declared.recall.Outcome.TheVariants as outcome
use Rattle.recall.specs.Recalls.{is_of, is_under_way, new_recall, with_recall, at_stage, waits, is_out, is_out_as, has_one_out, may_go, has_expired, sent_at, sent_from, RecallsAfter, answered, late, out_at, step_from, after_reply, after_timeout, without, without_found, told_found, at_tick}
use Rattle.recall.specs.RecallLaws.{RecallMove, Asks, SendsOne, TakesReply, TakesTimeout, Ticks, Ends, WasAsked, WasAnswered, WasLate, HasExpired, RecallRun, sent_noted, sends_new, expired_notes, recall_moved, recall_run, OutRecall, late_once, call_out, answers_none, is_third, AskedRecall, asked_of, asked_in}
use Rattle.recall.specs.Entries.{is_out_to, IsAtMostOne}
use Rattle.recall.proofs.Firsts.{passes, none_found, one_found, one_at, find_kept, set_other, set_gone, set_again, set_image, one_set, left_by, first_there, no_first}
use Rattle.recall.proofs.Outs.{alone_rests, alone_stays}
use Rattle.recall.proofs.Statuses.{StatusKind, Agrees, HasNone, Else, kind_of}
use Rattle.recall.proofs.Answered.{IsOutAt, steps}
use Rattle.recall.proofs.Notes.{few_out}
use Rattle.recall.proofs.Told.{out_as, timeouts_of, as_out, out_with, Told, is_own, same_xid, other_xid, not_out_as, asked_told, sent_told, left_asked, left_grants, left_clients, left_xids, expired_told, ended_told, ticked_told}

-- the recall whose callback is out under a number
pub found_out : (recalls : List Recall) (xid place : ℕ) → out_at recalls xid ≡ Some place → (r : Recall) × IsOutAt recalls xid place r
found_out recalls xid place is =
    let first = first_there (out_as xid) recalls place is in
    (first.item, record { found = is; at = first.at; out = passes (out_as xid) recalls first.item first.finds })

pub finds_out : (recalls : List Recall) (xid place : ℕ) (r : Recall) → IsAtMostOne (out_as xid) recalls → IsOutAt recalls xid place r → find (out_as xid) recalls ≡ Some r
finds_out recalls xid place r one there = one_at (out_as xid) recalls place r one there.at there.out

pub none_here : (file : FileId) (cred : Cred) (status : Stat4) → answers_none file cred status None ≡ false
none_here file cred status = by_kind (kind_of status)
  where
    by_kind : StatusKind status → answers_none file cred status None ≡ false
    by_kind (Agrees is) = ap (λ (s : Stat4). answers_none file cred s None) is
    by_kind (HasNone is) = ap (λ (s : Stat4). answers_none file cred s None) is
    by_kind (Else other) = other.not_none file cred None

module _ (run : RecallRun) (told : Told run) where
  -- ---- no callback of the number is out

  module _ (xid : ℕ) (none : find (out_as xid) run.recalls ≡ None) where
    pub nothing_out : call_out run.notes xid ≡ None
    nothing_out = sym (told.out xid) ∙ ap (option_map (as_out xid)) none

    stranger_told : (status : Stat4) → Told (record { recalls = run.recalls; notes = WasAnswered xid status ∷ run.notes })
    stranger_told status = record {
      grants = told.grants;
      clients = told.clients;
      xids = told.xids;
      asked = λ f c. told.asked f c ∙ sym (ap (λ b. cond {A = Option AskedRecall} b None (asked_of run.notes f c)) (ap (answers_none f c status) nothing_out ∙ none_here f c status));
      out = λ y. by_number y (eqb xid y) refl;
    }
      where
        by_number : (y : ℕ) (t : Bool) → eqb xid y ≡ t → option_map (as_out y) (find (out_as y) run.recalls) ≡ cond {A = Option OutRecall} t None (call_out run.notes y)
        by_number y true same = subst (λ (n : ℕ). option_map (as_out n) (find (out_as n) run.recalls) ≡ None) (eqb-true xid y same) (ap (option_map (as_out xid)) none)
        by_number y false other = told.out y

    too_late_told : Told (record { recalls = run.recalls; notes = WasLate xid ∷ run.notes })
    too_late_told = record {
      grants = told.grants;
      clients = told.clients;
      xids = told.xids;
      asked = λ f c. told.asked f c ∙ sym (ap (λ (o : Option OutRecall). cond {A = Option AskedRecall} (is_third f c o) None (asked_of run.notes f c)) nothing_out);
      out = λ y. by_number y (eqb xid y) refl;
    }
      where
        by_number : (y : ℕ) (t : Bool) → eqb xid y ≡ t → option_map (as_out y) (find (out_as y) run.recalls) ≡ cond {A = Option OutRecall} t (late_once (call_out run.notes y)) (call_out run.notes y)
        by_number y true same =
            told.out y ∙ subst (λ (n : ℕ). call_out run.notes n ≡ late_once (call_out run.notes n)) (eqb-true xid y same) (nothing_out ∙ sym (ap late_once nothing_out))
        by_number y false other = told.out y

  -- ---- the callback of the number is that of a recall

  module _ (xid place : ℕ) (r : Recall) (there : IsOutAt run.recalls xid place r) where
    pub finds : find (out_as xid) run.recalls ≡ Some r
    finds = finds_out run.recalls xid place r (told.xids xid) there

    pub is_call : call_out run.notes xid ≡ Some (as_out xid r)
    is_call = sym (told.out xid) ∙ ap (option_map (as_out xid)) finds

    -- it is out no more
    rests_told : (s : RecallStage) (status : Stat4) → is_out s ≡ false → ((f : FileId) (c : Cred) (o : Option OutRecall) → answers_none f c status o ≡ false)
        → Told (record { recalls = set run.recalls place (at_stage s r); notes = WasAnswered xid status ∷ run.notes })
    rests_told s status rests not_none = record {
      grants = λ f c. one_set (is_of f c) run.recalls place r (at_stage s r) (told.grants f c) there.at (λ here. inl here);
      clients = alone_rests run.recalls place r there.at s rests told.clients;
      xids = λ y. one_set (out_as y) run.recalls place r (at_stage s r) (told.xids y) there.at (λ here. absurd (both_ways (is_out_as y s) (not_out_as y s rests) here));
      asked = λ f c.
          set_image (is_of f c) asked_in run.recalls place r (at_stage s r) there.at refl refl ∙ told.asked f c
          ∙ sym (ap (λ b. cond {A = Option AskedRecall} b None (asked_of run.notes f c)) (not_none f c (call_out run.notes xid)));
      out = λ y. by_number y (eqb xid y) refl;
    }
      where
        by_number : (y : ℕ) (t : Bool) → eqb xid y ≡ t → option_map (as_out y) (find (out_as y) (set run.recalls place (at_stage s r))) ≡ cond {A = Option OutRecall} t None (call_out run.notes y)
        by_number y true same =
            ap (option_map (as_out y)) (set_gone (out_as y) run.recalls place r (at_stage s r) (told.xids y) there.at (subst (λ (n : ℕ). is_out_as n r.stage ≡ true) (eqb-true xid y same) there.out) (not_out_as y s rests))
        by_number y false other =
            ap (option_map (as_out y)) (set_other (out_as y) run.recalls place r (at_stage s r) there.at (other_xid xid y r.stage there.out other) (not_out_as y s rests)) ∙ told.out y

    abbrev again_at : ℕ → ℕ → Recall
    again_at own timeouts = at_stage (Out own (timeouts + 1)) r

    -- it is out again
    stays_told : (own timeouts : ℕ) → r.stage ≡ Out own timeouts → timeouts + 1 < 3 → Told (record { recalls = set run.recalls place (at_stage (Out own (timeouts + 1)) r); notes = WasLate xid ∷ run.notes })
    stays_told own timeouts is few = record {
      grants = λ f c. one_set (is_of f c) run.recalls place r (again_at own timeouts) (told.grants f c) there.at (λ here. inl here);
      clients = alone_stays run.recalls place r there.at (Out own (timeouts + 1)) (sym (ap is_out is)) told.clients;
      xids = λ y. one_set (out_as y) run.recalls place r (again_at own timeouts) (told.xids y) there.at (λ here. inl (ap (is_out_as y) is ∙ here));
      asked = λ f c.
          set_image (is_of f c) asked_in run.recalls place r (again_at own timeouts) there.at refl refl ∙ told.asked f c
          ∙ sym (ap (λ b. cond {A = Option AskedRecall} b None (asked_of run.notes f c)) (ap (is_third f c) is_call ∙ not_third f c (is_of f c r)));
      out = λ y. by_number y (eqb xid y) refl;
    }
      where
        not_third : (f : FileId) (c : Cred) (b : Bool) → b && eqb (timeouts_of r.stage + 1) 3 ≡ false
        not_third f c true = ap (λ (s : RecallStage). eqb (timeouts_of s + 1) 3) is ∙ ne_eqb (timeouts + 1) 3 (λ e. omega arith)
        not_third f c false = refl

        again : (y : ℕ) → late_once (Some (as_out y r)) ≡ out_with y r (timeouts + 1)
        again y =
            ap (λ (s : RecallStage). cond {A = Option OutRecall} (ltb (timeouts_of s + 1) 3) (out_with y r (timeouts_of s + 1)) None) is
            ∙ ap (λ b. cond {A = Option OutRecall} b (out_with y r (timeouts + 1)) None) (lt-ltb (timeouts + 1) 3 few)

        by_number : (y : ℕ) (t : Bool) → eqb xid y ≡ t → option_map (as_out y) (find (out_as y) (set run.recalls place (again_at own timeouts))) ≡ cond {A = Option OutRecall} t (late_once (call_out run.notes y)) (call_out run.notes y)
        by_number y true same =
            let here : is_out_as y r.stage ≡ true = subst (λ (n : ℕ). is_out_as n r.stage ≡ true) (eqb-true xid y same) there.out in
            let call : call_out run.notes y ≡ Some (as_out y r) = sym (told.out y) ∙ ap (option_map (as_out y)) (one_at (out_as y) run.recalls place r (told.xids y) there.at here) in
            ap (option_map (as_out y)) (set_again (out_as y) run.recalls place r (again_at own timeouts) (told.xids y) there.at here (sym (ap (is_out_as y) is) ∙ here))
            ∙ sym (again y) ∙ sym (ap late_once call)
        by_number y false other =
            let past : is_out_as y r.stage ≡ false = other_xid xid y r.stage there.out other in
            ap (option_map (as_out y)) (set_other (out_as y) run.recalls place r (again_at own timeouts) there.at past (sym (ap (is_out_as y) is) ∙ past)) ∙ told.out y

    -- it is over: no other callback was of its grant
    over_out : (y : ℕ) (t : Bool) → eqb xid y ≡ t → option_map (as_out y) (find (out_as y) (without r.file r.cred run.recalls)) ≡ cond {A = Option OutRecall} t None (call_out run.notes y)
    over_out y t is =
        ap (option_map (as_out y)) (find_kept (out_as y) (λ x. not (is_of r.file r.cred x)) run.recalls (told.xids y))
        ∙ left_by (as_out y) (λ x. not (is_of r.file r.cred x)) t (find (out_as y) run.recalls) (λ x found. ap not (by_number t x is found))
        ∙ ap (λ (o : Option OutRecall). cond t None o) (told.out y)
      where
        by_number : (b : Bool) (x : Recall) → eqb xid y ≡ b → find (out_as y) run.recalls ≡ Some x → is_of r.file r.cred x ≡ b
        by_number true x same found =
            let here : find (out_as xid) run.recalls ≡ Some x = subst (λ (n : ℕ). find (out_as n) run.recalls ≡ Some x) (sym (eqb-true xid y same)) found in
            subst (λ (z : Recall). is_of r.file r.cred z ≡ true) (same_Some r x (sym finds ∙ here)) (is_own r)
        by_number false x other found = by_grant (is_of r.file r.cred x) refl
          where
            by_grant : (g : Bool) → is_of r.file r.cred x ≡ g → g ≡ false
            by_grant false own = refl
            by_grant true own =
                let own_r = one_at (is_of r.file r.cred) run.recalls place r (told.grants r.file r.cred) there.at (is_own r) in
                let own_x = one_found (is_of r.file r.cred) (out_as y) run.recalls x (told.grants r.file r.cred) found own in
                let same : x ≡ r = same_Some x r (sym own_x ∙ own_r) in
                let out_y : is_out_as y r.stage ≡ true = subst (λ (z : Recall). is_out_as y z.stage ≡ true) same (passes (out_as y) run.recalls x found) in
                absurd (both_ways (eqb xid y) other (eq-eqb xid y (same_xid xid y r.stage there.out out_y)))

    none_told : Told (record { recalls = without r.file r.cred run.recalls; notes = WasAnswered xid stat.NoMatchingLayout ∷ run.notes })
    none_told = record {
      grants = left_grants run told r.file r.cred;
      clients = left_clients run told r.file r.cred;
      xids = left_xids run told r.file r.cred;
      asked = λ f c. left_asked run told r.file r.cred f c ∙ sym (ap (λ (o : Option OutRecall). cond {A = Option AskedRecall} (answers_none f c stat.NoMatchingLayout o) None (asked_of run.notes f c)) is_call);
      out = λ y. over_out y (eqb xid y) refl;
    }

    third_told : (own timeouts : ℕ) → r.stage ≡ Out own timeouts → 3 ≤ timeouts + 1 → Told (record { recalls = without r.file r.cred run.recalls; notes = WasLate xid ∷ run.notes })
    third_told own timeouts is many = record {
      grants = left_grants run told r.file r.cred;
      clients = left_clients run told r.file r.cred;
      xids = left_xids run told r.file r.cred;
      asked = λ f c. left_asked run told r.file r.cred f c ∙ sym (ap (λ b. cond {A = Option AskedRecall} b None (asked_of run.notes f c)) (ap (is_third f c) is_call ∙ is_its_third (is_of f c r)));
      out = λ y. over_out y (eqb xid y) refl ∙ by_number y (eqb xid y) refl;
    }
      where
        third : timeouts_of r.stage + 1 ≡ 3
        third =
            let few = few_out run.notes xid (as_out xid r) is_call in
            let so : timeouts_of r.stage ≡ timeouts = ap timeouts_of is in
            omega (arith, few, so, many)

        is_its_third : (b : Bool) → b && eqb (timeouts_of r.stage + 1) 3 ≡ b
        is_its_third true = eq-eqb (timeouts_of r.stage + 1) 3 third
        is_its_third false = refl

        no_more : (y : ℕ) → late_once (Some (as_out y r)) ≡ None
        no_more y = ap (λ b. cond {A = Option OutRecall} b (out_with y r (timeouts_of r.stage + 1)) None) (le-ltb (timeouts_of r.stage + 1) 3 (omega (arith, third)))

        by_number : (y : ℕ) (t : Bool) → eqb xid y ≡ t → cond {A = Option OutRecall} t None (call_out run.notes y) ≡ cond {A = Option OutRecall} t (late_once (call_out run.notes y)) (call_out run.notes y)
        by_number y true same =
            let call : call_out run.notes y ≡ Some (as_out y r) = subst (λ (n : ℕ). call_out run.notes n ≡ Some (as_out n r)) (eqb-true xid y same) is_call in
            sym (ap late_once call ∙ no_more y)
        by_number y false other = refl

    -- ---- an answer and a timeout

    answer_told : (status : Stat4) → Told (record { recalls = (answered run.recalls place r status).recalls; notes = WasAnswered xid status ∷ run.notes })
    answer_told status = by_kind (kind_of status)
      where
        by_kind : StatusKind status → Told (record { recalls = (answered run.recalls place r status).recalls; notes = WasAnswered xid status ∷ run.notes })
        by_kind (Agrees is) = subst (λ (s : Stat4). Told (record { recalls = (answered run.recalls place r s).recalls; notes = WasAnswered xid s ∷ run.notes })) (sym is) (rests_told Agreed stat.Ok refl (λ f c o. refl))
        by_kind (HasNone is) = subst (λ (s : Stat4). Told (record { recalls = (answered run.recalls place r s).recalls; notes = WasAnswered xid s ∷ run.notes })) (sym is) none_told
        by_kind (Else other) =
            subst (λ (a : RecallsAfter). Told (record { recalls = a.recalls; notes = WasAnswered xid status ∷ run.notes })) (sym (other.answers run.recalls place r)) (rests_told Later status refl other.not_none)

    late_told : Told (record { recalls = (late run.recalls place r r.stage).recalls; notes = WasLate xid ∷ run.notes })
    late_told = by_stage r.stage refl there.out
      where
        by_test : (own timeouts : ℕ) (b : Bool) → r.stage ≡ Out own timeouts → ltb (timeouts + 1) 3 ≡ b
            → Told (record { recalls = (cond {A = RecallsAfter} b (record { recalls = set run.recalls place (at_stage (Out own (timeouts + 1)) r); outcome = outcome.Waiting }) (record { recalls = without r.file r.cred run.recalls; outcome = outcome.Expired r.file r.cred })).recalls; notes = WasLate xid ∷ run.notes })
        by_test own timeouts true is few = stays_told own timeouts is (ltb-true (timeouts + 1) 3 few)
        by_test own timeouts false is many = third_told own timeouts is (ltb-false (timeouts + 1) 3 many)

        by_stage : (s : RecallStage) → r.stage ≡ s → is_out_as xid s ≡ true → Told (record { recalls = (late run.recalls place r s).recalls; notes = WasLate xid ∷ run.notes })
        by_stage (Out own timeouts) is out = by_test own timeouts (ltb (timeouts + 1) 3) is refl
        by_stage Waits is out = absurd (both_ways false refl out)
        by_stage Later is out = absurd (both_ways false refl out)
        by_stage Agreed is out = absurd (both_ways false refl out)

  -- ---- the moves

  reply_told : (xid : ℕ) (status : Stat4) → Told (recall_moved run (TakesReply xid status))
  reply_told xid status = by_place (out_at run.recalls xid) refl
    where
      by_place : (o : Option ℕ) → out_at run.recalls xid ≡ o → Told (record { recalls = (after_reply run.recalls xid status).recalls; notes = WasAnswered xid status ∷ run.notes })
      by_place None is =
          subst (λ (a : RecallsAfter). Told (record { recalls = a.recalls; notes = WasAnswered xid status ∷ run.notes })) (sym (ap (step_from run.recalls (λ k x. answered run.recalls k x status)) is))
          (stranger_told xid (no_first (out_as xid) run.recalls is) status)
      by_place (Some place) is =
          let found = found_out run.recalls xid place is in
          subst (λ (a : RecallsAfter). Told (record { recalls = a.recalls; notes = WasAnswered xid status ∷ run.notes })) (sym (steps run.recalls xid place found.0 (λ k x. answered run.recalls k x status) found.1))
          (answer_told xid place found.0 found.1 status)

  timeout_told : (xid : ℕ) → Told (recall_moved run (TakesTimeout xid))
  timeout_told xid = by_place (out_at run.recalls xid) refl
    where
      by_place : (o : Option ℕ) → out_at run.recalls xid ≡ o → Told (record { recalls = (after_timeout run.recalls xid).recalls; notes = WasLate xid ∷ run.notes })
      by_place None is =
          subst (λ (a : RecallsAfter). Told (record { recalls = a.recalls; notes = WasLate xid ∷ run.notes })) (sym (ap (step_from run.recalls (λ k x. late run.recalls k x x.stage)) is))
          (too_late_told xid (no_first (out_as xid) run.recalls is))
      by_place (Some place) is =
          let found = found_out run.recalls xid place is in
          subst (λ (a : RecallsAfter). Told (record { recalls = a.recalls; notes = WasLate xid ∷ run.notes })) (sym (steps run.recalls xid place found.0 (λ k x. late run.recalls k x x.stage) found.1))
          (late_told xid place found.0 found.1)

  -- the recall that goes out next
  pub may_at : (place : ℕ) (r : Recall) → position (may_go run.recalls) run.recalls ≡ Some place → slice_get run.recalls place ≡ Some r
      → (find (may_go run.recalls) run.recalls ≡ Some r) × (waits r.stage ≡ true) × (find (is_out_to r.client) run.recalls ≡ None)
  may_at place r is at =
      let first = first_there (may_go run.recalls) run.recalls place is in
      let same : first.item ≡ r = same_Some first.item r (sym first.at ∙ at) in
      let found : find (may_go run.recalls) run.recalls ≡ Some r = first.finds ∙ ap Some same in
      let parts = and_parts (waits r.stage) (not (has_one_out run.recalls r.client)) (passes (may_go run.recalls) run.recalls r found) in
      (found, parts.0, none_found (is_out_to r.client) run.recalls (not-true (has_one_out run.recalls r.client) parts.1))

  send_told : (xid : ℕ) → Told (recall_moved run (SendsOne xid))
  send_told xid = by_new (out_at run.recalls xid) refl
    where
      by_recall : (place : ℕ) → position (may_go run.recalls) run.recalls ≡ Some place → out_at run.recalls xid ≡ None → (o : Option Recall) → slice_get run.recalls place ≡ o → Told (sent_noted run (sent_at run.recalls xid place o))
      by_recall place is fresh None at = told
      by_recall place is fresh (Some r) at =
          let may = may_at place r is at in
          sent_told run told xid place r at may.1 may.2 (no_first (out_as xid) run.recalls fresh)

      by_place : out_at run.recalls xid ≡ None → (o : Option ℕ) → position (may_go run.recalls) run.recalls ≡ o → Told (sent_noted run (sent_from run.recalls xid o))
      by_place fresh None is = told
      by_place fresh (Some place) is = by_recall place is fresh (slice_get run.recalls place) refl

      by_new : (o : Option ℕ) → out_at run.recalls xid ≡ o → Told (sends_new run xid o)
      by_new None fresh = by_place fresh (position (may_go run.recalls) run.recalls) refl
      by_new (Some place) is = told

  abbrev asked_run : FileId → Cred → ℕ → ℕ → Bool → RecallRun
  asked_run file cred client now b =
      cond b run (record { recalls = with_recall (new_recall file cred client now) run.recalls; notes = WasAsked file cred client now ∷ run.notes })

  ask_told : (file : FileId) (cred : Cred) (client now : ℕ) → Told (recall_moved run (Asks file cred client now))
  ask_told file cred client now = by_test (is_under_way file cred run.recalls) refl
    where
      by_test : (b : Bool) → is_under_way file cred run.recalls ≡ b → Told (asked_run file cred client now b)
      by_test true is = told
      by_test false is = asked_told run told (new_recall file cred client now) refl (none_found (is_of file cred) run.recalls is)

  tick_told : (now : ℕ) → Told (recall_moved run (Ticks now))
  tick_told now = by_found (find (has_expired now) run.recalls)
    where
      by_found : (o : Option Recall) → Told (record { recalls = map at_tick (without_found o run.recalls); notes = expired_notes (told_found o) run.notes })
      by_found None = ticked_told run told
      by_found (Some r) = ticked_told (record { recalls = without r.file r.cred run.recalls; notes = HasExpired r.file r.cred ∷ run.notes }) (expired_told run told r.file r.cred)

  move_told : (move : RecallMove) → Told (recall_moved run move)
  move_told (Asks file cred client now) = ask_told file cred client now
  move_told (SendsOne xid) = send_told xid
  move_told (TakesReply xid status) = reply_told xid status
  move_told (TakesTimeout xid) = timeout_told xid
  move_told (Ticks now) = tick_told now
  move_told (Ends file) = ended_told run told file

-- ---- runs

run_told : (moves : List RecallMove) (run : RecallRun) → Told run → Told (fold recall_moved run moves)
run_told [] run told = told
run_told (move ∷ moves) run told = run_told moves (recall_moved run move) (move_told run told move)

pub always_told : (moves : List RecallMove) → Told (recall_run moves)
always_told moves = run_told moves (record { recalls = []; notes = [] }) (record { grants = λ f c. tt; clients = λ client. tt; xids = λ xid. tt; asked = λ f c. refl; out = λ xid. refl })
