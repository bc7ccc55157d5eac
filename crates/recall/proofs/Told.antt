-- What the notes tell of a run's recalls, through each change.
use Rattle.std.proofs.Common.{◌≡◌, inl, inr, ℕ, Bool, true, false, not, ◌&&◌, cond, eqb, ◌∷◌, map, set, Option, Some, None, refl, sym, ap, subst, ◌∙◌}
use Rattle.std.specs.Prelude.{slice_get, option_map}
use Rattle.std.specs.List.{find}
use Rattle.std.proofs.lemmas.Bool.{eq-eqb, eqb-true, ne_eqb, and_parts, and_from, both_ways}
use Rattle.cluster_model.specs.declared.ids.FileId.{FileId}
use Rattle.cluster_model.specs.declared.ids.Cred.{Cred}
use Rattle.recall.specs.declared.recall.Recall.{Recall}
use Rattle.recall.specs.declared.recall.RecallStage.{RecallStage}
use Rattle.recall.specs.declared.recall.RecallStage.TheVariants.{Waits, Out, Later, Agreed}
use Rattle.recall.specs.declared.recall.RecallCall.{RecallCall}
use Rattle.recall.specs.Recalls.{is_of_file, is_of, at_stage, waits, is_out, is_out_as, with_recall, stage_at_tick, at_tick, without, without_file}
use Rattle.recall.specs.RecallLaws.{WasAsked, WasSent, HasExpired, WasEnded, RecallRun, OutRecall, is_call_of, unless_call, call_out, AskedRecall, asked_of, asked_in}
use Rattle.recall.specs.Entries.{is_out_to, IsAtMostOne}
use Rattle.recall.proofs.Firsts.{kept_if, passes, find_kept, one_kept, find_map, one_map, set_other, set_found, set_image, one_set, left_by}
use Rattle.recall.proofs.Inserted.{found_past, found_new, one_more}
use Rattle.recall.proofs.Outs.{waits_not_out, alone_sent, alone_asked, alone_at_tick}

abbrev pub out_as : ℕ → Recall → Bool
out_as xid r = is_out_as xid r.stage

abbrev pub timeouts_of : RecallStage → ℕ
timeouts_of Waits = 0
timeouts_of (Out xid timeouts) = timeouts
timeouts_of Later = 0
timeouts_of Agreed = 0

abbrev pub as_out : ℕ → Recall → OutRecall
as_out xid r = record { call = record { file = r.file; cred = r.cred; client = r.client; xid = xid }; timeouts = timeouts_of r.stage }

abbrev pub out_with : ℕ → Recall → ℕ → Option OutRecall
out_with xid r timeouts = Some (record { call = record { file = r.file; cred = r.cred; client = r.client; xid = xid }; timeouts = timeouts })

-- each grant, each client's callback and each number is there once, and the notes tell what is asked and what is out
pub record Told (run : RecallRun) : Type 0 where
  pub grants : (file : FileId) (cred : Cred) → IsAtMostOne (is_of file cred) run.recalls
  pub clients : (client : ℕ) → IsAtMostOne (is_out_to client) run.recalls
  pub xids : (xid : ℕ) → IsAtMostOne (out_as xid) run.recalls
  pub asked : (file : FileId) (cred : Cred) → option_map asked_in (find (is_of file cred) run.recalls) ≡ asked_of run.notes file cred
  pub out : (xid : ℕ) → option_map (as_out xid) (find (out_as xid) run.recalls) ≡ call_out run.notes xid

-- ---- grants and numbers

pub is_own : (r : Recall) → is_of r.file r.cred r ≡ true
is_own r = and_from (eqb r.file.0 r.file.0) (eqb r.cred.0 r.cred.0) (eq-eqb r.file.0 r.file.0 refl) (eq-eqb r.cred.0 r.cred.0 refl)

turned : (a b c : ℕ) → a ≡ b → eqb a c ≡ eqb c b
turned a b c same = ap (λ n. eqb n c) same ∙ by_test (eqb b c) refl
  where
    by_test : (t : Bool) → eqb b c ≡ t → t ≡ eqb c b
    by_test true is = sym (eq-eqb c b (sym (eqb-true b c is)))
    by_test false is = sym (ne_eqb c b (λ e. both_ways (eqb b c) is (eq-eqb b c (sym e))))

-- a recall of a grant is of another just where the two are one
pub of_other : (file : FileId) (cred : Cred) (f : FileId) (c : Cred) (x : Recall) → is_of file cred x ≡ true → is_of f c x ≡ ((eqb f.0 file.0) && (eqb c.0 cred.0))
of_other file cred f c x is =
    let parts = and_parts (eqb x.file.0 file.0) (eqb x.cred.0 cred.0) is in
    ap (λ b. b && (eqb x.cred.0 c.0)) (turned x.file.0 file.0 f.0 (eqb-true x.file.0 file.0 parts.0))
    ∙ ap (λ b. (eqb f.0 file.0) && b) (turned x.cred.0 cred.0 c.0 (eqb-true x.cred.0 cred.0 parts.1))

of_other_file : (file : FileId) (cred : Cred) (f : FileId) (x : Recall) → is_of file cred x ≡ true → is_of_file f x ≡ eqb f.0 file.0
of_other_file file cred f x is = turned x.file.0 file.0 f.0 (eqb-true x.file.0 file.0 (and_parts (eqb x.file.0 file.0) (eqb x.cred.0 cred.0) is).0)

pub same_xid : (xid y : ℕ) (s : RecallStage) → is_out_as xid s ≡ true → is_out_as y s ≡ true → xid ≡ y
same_xid xid y (Out own timeouts) x_is y_is = sym (eqb-true own xid x_is) ∙ eqb-true own y y_is
same_xid xid y Waits x_is y_is = absurd (both_ways false refl x_is)
same_xid xid y Later x_is y_is = absurd (both_ways false refl x_is)
same_xid xid y Agreed x_is y_is = absurd (both_ways false refl x_is)

pub other_xid : (xid y : ℕ) (s : RecallStage) → is_out_as xid s ≡ true → eqb xid y ≡ false → is_out_as y s ≡ false
other_xid xid y s is other = by_test (is_out_as y s) refl
  where
    by_test : (t : Bool) → is_out_as y s ≡ t → t ≡ false
    by_test true here = absurd (both_ways (eqb xid y) other (eq-eqb xid y (same_xid xid y s is here)))
    by_test false here = refl

pub not_out_as : (xid : ℕ) (s : RecallStage) → is_out s ≡ false → is_out_as xid s ≡ false
not_out_as xid Waits is = refl
not_out_as xid (Out own timeouts) is = absurd (both_ways true is refl)
not_out_as xid Later is = refl
not_out_as xid Agreed is = refl

out_as_at_tick : (xid : ℕ) (s : RecallStage) → is_out_as xid (stage_at_tick s) ≡ is_out_as xid s
out_as_at_tick xid Waits = refl
out_as_at_tick xid (Out own timeouts) = refl
out_as_at_tick xid Later = refl
out_as_at_tick xid Agreed = refl

timeouts_at_tick : (s : RecallStage) → timeouts_of (stage_at_tick s) ≡ timeouts_of s
timeouts_at_tick Waits = refl
timeouts_at_tick (Out own timeouts) = refl
timeouts_at_tick Later = refl
timeouts_at_tick Agreed = refl

module _ (run : RecallRun) (told : Told run) where
  -- ---- one more is asked

  pub asked_told : (new : Recall) → new.stage ≡ Waits → find (is_of new.file new.cred) run.recalls ≡ None
      → Told (record { recalls = with_recall new run.recalls; notes = WasAsked new.file new.cred new.client new.asked ∷ run.notes })
  asked_told new waiting none = record {
    grants = λ f c. one_more (is_of f c) new run.recalls (told.grants f c) (λ here. none_of f c here);
    clients = alone_asked new run.recalls (ap is_out waiting) told.clients;
    xids = λ xid. one_more (out_as xid) new run.recalls (told.xids xid) (λ here. absurd (both_ways (is_out_as xid new.stage) (ap (is_out_as xid) waiting) here));
    asked = λ f c. by_grant f c (is_of f c new) refl;
    out = λ xid. ap (option_map (as_out xid)) (found_past (out_as xid) new run.recalls (ap (is_out_as xid) waiting)) ∙ told.out xid;
  }
    where
      none_of : (f : FileId) (c : Cred) → is_of f c new ≡ true → find (is_of f c) run.recalls ≡ None
      none_of f c here =
          let parts = and_parts (eqb new.file.0 f.0) (eqb new.cred.0 c.0) here in
          subst (λ (n : ℕ). find (λ (r : Recall). (eqb r.file.0 n) && (eqb r.cred.0 c.0)) run.recalls ≡ None) (eqb-true new.file.0 f.0 parts.0)
          (subst (λ (n : ℕ). find (λ (r : Recall). (eqb r.file.0 new.file.0) && (eqb r.cred.0 n)) run.recalls ≡ None) (eqb-true new.cred.0 c.0 parts.1) none)

      by_grant : (f : FileId) (c : Cred) (t : Bool) → is_of f c new ≡ t
          → option_map asked_in (find (is_of f c) (with_recall new run.recalls)) ≡ cond {A = Option AskedRecall} t (Some (record { client = new.client; at = new.asked })) (asked_of run.notes f c)
      by_grant f c true here = ap (option_map asked_in) (found_new (is_of f c) new run.recalls (none_of f c here) here)
      by_grant f c false other = ap (option_map asked_in) (found_past (is_of f c) new run.recalls other) ∙ told.asked f c

  -- ---- a callback goes out

  pub sent_told : (xid place : ℕ) (r : Recall) → slice_get run.recalls place ≡ Some r → waits r.stage ≡ true → find (is_out_to r.client) run.recalls ≡ None → find (out_as xid) run.recalls ≡ None
      → Told (record { recalls = set run.recalls place (at_stage (Out xid 0) r); notes = WasSent (record { file = r.file; cred = r.cred; client = r.client; xid = xid }) ∷ run.notes })
  sent_told xid place r at waiting alone fresh = record {
    grants = λ f c. one_set (is_of f c) run.recalls place r (at_stage (Out xid 0) r) (told.grants f c) at (λ here. inl here);
    clients = alone_sent run.recalls place r at (Out xid 0) alone told.clients;
    xids = λ y. one_set (out_as y) run.recalls place r (at_stage (Out xid 0) r) (told.xids y) at (λ here. inr (none_as y here));
    asked = λ f c. set_image (is_of f c) asked_in run.recalls place r (at_stage (Out xid 0) r) at refl refl ∙ told.asked f c;
    out = λ y. by_number y (eqb xid y) refl;
  }
    where
      none_as : (y : ℕ) → eqb xid y ≡ true → find (out_as y) run.recalls ≡ None
      none_as y same = subst (λ (n : ℕ). find (out_as n) run.recalls ≡ None) (eqb-true xid y same) fresh

      by_number : (y : ℕ) (t : Bool) → eqb xid y ≡ t → option_map (as_out y) (find (out_as y) (set run.recalls place (at_stage (Out xid 0) r)))
          ≡ cond {A = Option OutRecall} t (Some (record { call = record { file = r.file; cred = r.cred; client = r.client; xid = xid }; timeouts = 0 })) (call_out run.notes y)
      by_number y true same =
          ap (option_map (as_out y)) (set_found (out_as y) run.recalls place r (at_stage (Out xid 0) r) (none_as y same) at same)
          ∙ ap (λ (n : ℕ). Some (as_out n (at_stage (Out xid 0) r))) (sym (eqb-true xid y same))
      by_number y false other =
          ap (option_map (as_out y)) (set_other (out_as y) run.recalls place r (at_stage (Out xid 0) r) at (not_out_as y r.stage (waits_not_out r.stage waiting)) other) ∙ told.out y

  -- ---- some recalls are over

  module _ (file : FileId) (cred : Cred) where
    -- those of one grant: what the notes say of others is as it was
    pub left_asked : (f : FileId) (c : Cred) → option_map asked_in (find (is_of f c) (without file cred run.recalls)) ≡ cond ((eqb file.0 f.0) && (eqb cred.0 c.0)) None (asked_of run.notes f c)
    left_asked f c =
        ap (option_map asked_in) (find_kept (is_of f c) (λ x. not (is_of file cred x)) run.recalls (told.grants f c))
        ∙ left_by asked_in (λ x. not (is_of file cred x)) ((eqb file.0 f.0) && (eqb cred.0 c.0)) (find (is_of f c) run.recalls) (λ x is. ap not (of_other f c file cred x (passes (is_of f c) run.recalls x is)))
        ∙ ap (λ (o : Option AskedRecall). cond ((eqb file.0 f.0) && (eqb cred.0 c.0)) None o) (told.asked f c)

    pub left_grants : (f : FileId) (c : Cred) → IsAtMostOne (is_of f c) (without file cred run.recalls)
    left_grants f c = one_kept (is_of f c) (λ x. not (is_of file cred x)) run.recalls (told.grants f c)

    pub left_clients : (client : ℕ) → IsAtMostOne (is_out_to client) (without file cred run.recalls)
    left_clients client = one_kept (is_out_to client) (λ x. not (is_of file cred x)) run.recalls (told.clients client)

    pub left_xids : (xid : ℕ) → IsAtMostOne (out_as xid) (without file cred run.recalls)
    left_xids xid = one_kept (out_as xid) (λ x. not (is_of file cred x)) run.recalls (told.xids xid)

    pub expired_told : Told (record { recalls = without file cred run.recalls; notes = HasExpired file cred ∷ run.notes })
    expired_told = record {
      grants = left_grants;
      clients = left_clients;
      xids = left_xids;
      asked = left_asked;
      out = λ xid. ap (option_map (as_out xid)) (find_kept (out_as xid) (λ x. not (is_of file cred x)) run.recalls (told.xids xid)) ∙ by_found xid (find (out_as xid) run.recalls) ∙ ap (unless_call (is_call_of file cred)) (told.out xid);
    }
      where
        by_test : (xid : ℕ) (x : Recall) (t : Bool) → option_map (as_out xid) (cond (not t) (Some x) None) ≡ cond {A = Option OutRecall} t None (Some (as_out xid x))
        by_test xid x true = refl
        by_test xid x false = refl

        by_found : (xid : ℕ) (o : Option Recall) → option_map (as_out xid) (kept_if (λ x. not (is_of file cred x)) o) ≡ unless_call (is_call_of file cred) (option_map (as_out xid) o)
        by_found xid None = refl
        by_found xid (Some x) = by_test xid x (is_of file cred x)

  pub ended_told : (file : FileId) → Told (record { recalls = without_file file run.recalls; notes = WasEnded file ∷ run.notes })
  ended_told file = record {
    grants = λ f c. one_kept (is_of f c) (λ x. not (is_of_file file x)) run.recalls (told.grants f c);
    clients = λ client. one_kept (is_out_to client) (λ x. not (is_of_file file x)) run.recalls (told.clients client);
    xids = λ xid. one_kept (out_as xid) (λ x. not (is_of_file file x)) run.recalls (told.xids xid);
    asked = λ f c.
        ap (option_map asked_in) (find_kept (is_of f c) (λ x. not (is_of_file file x)) run.recalls (told.grants f c))
        ∙ left_by asked_in (λ x. not (is_of_file file x)) (eqb file.0 f.0) (find (is_of f c) run.recalls) (λ x is. ap not (of_other_file f c file x (passes (is_of f c) run.recalls x is)))
        ∙ ap (λ (o : Option AskedRecall). cond (eqb file.0 f.0) None o) (told.asked f c);
    out = λ xid.
        ap (option_map (as_out xid)) (find_kept (out_as xid) (λ x. not (is_of_file file x)) run.recalls (told.xids xid)) ∙ by_found xid (find (out_as xid) run.recalls)
        ∙ ap (unless_call (λ (call : RecallCall). eqb call.file.0 file.0)) (told.out xid);
  }
    where
      by_test : (xid : ℕ) (x : Recall) (t : Bool) → option_map (as_out xid) (cond (not t) (Some x) None) ≡ cond {A = Option OutRecall} t None (Some (as_out xid x))
      by_test xid x true = refl
      by_test xid x false = refl

      by_found : (xid : ℕ) (o : Option Recall) → option_map (as_out xid) (kept_if (λ x. not (is_of_file file x)) o) ≡ unless_call (λ (call : RecallCall). eqb call.file.0 file.0) (option_map (as_out xid) o)
      by_found xid None = refl
      by_found xid (Some x) = by_test xid x (is_of_file file x)

  -- ---- a tick

  pub ticked_told : Told (record { recalls = map at_tick run.recalls; notes = run.notes })
  ticked_told = record {
    grants = λ f c. one_map (is_of f c) at_tick (λ x. refl) run.recalls (told.grants f c);
    clients = alone_at_tick run.recalls told.clients;
    xids = λ xid. one_map (out_as xid) at_tick (λ x. out_as_at_tick xid x.stage) run.recalls (told.xids xid);
    asked = λ f c. ap (option_map asked_in) (find_map (is_of f c) at_tick (λ x. refl) run.recalls) ∙ same_asked (find (is_of f c) run.recalls) ∙ told.asked f c;
    out = λ xid. ap (option_map (as_out xid)) (find_map (out_as xid) at_tick (λ x. out_as_at_tick xid x.stage) run.recalls) ∙ same_out xid (find (out_as xid) run.recalls) ∙ told.out xid;
  }
    where
      same_asked : (o : Option Recall) → option_map asked_in (option_map at_tick o) ≡ option_map asked_in o
      same_asked None = refl
      same_asked (Some r) = refl

      same_out : (xid : ℕ) (o : Option Recall) → option_map (as_out xid) (option_map at_tick o) ≡ option_map (as_out xid) o
      same_out xid None = refl
      same_out xid (Some r) = ap (out_with xid r) (timeouts_at_tick r.stage)
