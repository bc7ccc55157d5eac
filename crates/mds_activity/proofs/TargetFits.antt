-- That the targets of a copy can still come in behind a step of one of them.
use Rattle.std.proofs.Common.{◌≡◌, ℕ, zero, suc, ◌+◌, Bool, true, false, not, eqb, cond, List, [], ◌∷◌, length, map, set, Option, Some, None, refl, sym, ap, subst, ◌∙◌, arith}
use Rattle.std.specs.Prelude.{slice_get, ◌==◌, ◌||◌, ◌&&◌, is_some, nat_lt}
use Rattle.std.specs.List.{list_any, list_all}
use Rattle.std.proofs.lemmas.Bool.{and_parts, eq-eqb, eqb-true, le-ltb, cond_both}
use Rattle.std.proofs.lemmas.Option.{same_Some}
use Rattle.cluster_model.specs.declared.ids.Mirror.{Mirror}
use Rattle.cluster_model.specs.declared.ids.MirrorId.{MirrorId}
use Rattle.cluster_model.specs.declared.phase.LeftCause.{LeftCause}
use Rattle.cluster_model.specs.declared.phase.LeftCause.TheVariants.{Error, Timeouts}
use Rattle.cluster_model.specs.declared.ds_call.Shown.{Shown}
use Rattle.cluster_model.specs.declared.limits.TheConstants.{MAX_TIMEOUTS}
use Rattle.cluster_model.specs.declared.call_stage.CallStage.{CallStage}
use Rattle.cluster_model.specs.declared.call_stage.CallStage.TheVariants.{Waits, Out, KeptOut, KeptBack, Done, GivenUp}
use Rattle.cluster_model.specs.DsCalls.{DsReplyValue, Created, Set, Written, Committed, Bytes, NotSync, Failed}
use Rattle.cluster_model.specs.Fences.{waits, is_out, odd_status}
use Rattle.cluster_model.specs.Journal.{is_mirror}
use Rattle.cluster_model.specs.Phases.{is_source, is_one_of, is_last_live, but_for}
use Rattle.copy_rule.specs.declared.copy_target.CopyTarget.{CopyTarget}
use Rattle.copy_rule.specs.Copies.{is_given_up, at_stage, having_made, having_written, seen_then, thrown_away, TargetStep, goes_on_with, target_fails, create_answered, write_answered, target_answered, target_late, stage_for, to_write}
use Rattle.mds_creations.specs.Makings.{are_different}
use Rattle.mds_activity.specs.Targets.{can_stand, is_made_on, can_come_in, one_if_added, count_added, target_servers, CanAllComeIn, may_leave, LosesTarget}
use Rattle.mds_activity.proofs.Swaps.{both, other_way, not_true, but_server, passes_off, still_fit, left_alike, left_shorter, off_behind}

-- a target goes on as another one of its server, which can come in where it could
pub record Goes (t t' : CopyTarget) : Type 0 where
  pub server : t'.server ≡ t.server
  pub replaced : t'.replaced ≡ t.replaced
  pub fits : (live : List Mirror) → can_come_in live t ≡ true → can_come_in live t' ≡ true

-- ---- a list of which one target changes, or each

servers_set : (targets : List CopyTarget) (place : ℕ) (t t' : CopyTarget) → slice_get targets place ≡ Some t → t'.server ≡ t.server → target_servers (set targets place t') ≡ target_servers targets
servers_set [] place t t' e on = absurd cc
servers_set (x ∷ targets) zero t t' e on = ap (λ (k : ℕ). k ∷ target_servers targets) (on ∙ ap (λ (y : CopyTarget). y.server) (sym (same_Some x t e)))
servers_set (x ∷ targets) (suc place) t t' e on = ap (λ (rest : List ℕ). x.server ∷ rest) (servers_set targets place t t' e on)

count_set : (targets : List CopyTarget) (place : ℕ) (t t' : CopyTarget) → slice_get targets place ≡ Some t → t'.replaced ≡ t.replaced → count_added (set targets place t') ≡ count_added targets
count_set [] place t t' e on = absurd cc
count_set (x ∷ targets) zero t t' e on = ap (λ (r : Option MirrorId). one_if_added r + count_added targets) (on ∙ ap (λ (y : CopyTarget). y.replaced) (sym (same_Some x t e)))
count_set (x ∷ targets) (suc place) t t' e on = ap (λ (n : ℕ). one_if_added x.replaced + n) (count_set targets place t t' e on)

fit_set : (live : List Mirror) (targets : List CopyTarget) (place : ℕ) (t t' : CopyTarget) → slice_get targets place ≡ Some t → (can_come_in live t ≡ true → can_come_in live t' ≡ true) → list_all (can_come_in live) targets ≡ true → list_all (can_come_in live) (set targets place t') ≡ true
fit_set live [] place t t' e goes fit = absurd cc
fit_set live (x ∷ targets) zero t t' e goes fit =
    let fits = and_parts _ _ fit in
    both _ _ (goes (ap (can_come_in live) (sym (same_Some x t e)) ∙ fits.0)) fits.1
fit_set live (x ∷ targets) (suc place) t t' e goes fit =
    let fits = and_parts _ _ fit in
    both _ _ fits.0 (fit_set live targets place t t' e goes fits.1)

pub set_fit : (live : List Mirror) (targets : List CopyTarget) (place : ℕ) (t t' : CopyTarget) → slice_get targets place ≡ Some t → Goes t t' → CanAllComeIn live targets → CanAllComeIn live (set targets place t')
set_fit live targets place t t' e goes h =
    let count : count_added (set targets place t') ≡ count_added targets = count_set targets place t t' e goes.replaced in
    let room = h.room in
    record {
      apart = ap are_different (servers_set targets place t t' e goes.server) ∙ h.apart;
      fit = fit_set live targets place t t' e (goes.fits live) h.fit;
      room = omega (arith, room, count);
    }

pub map_fit : (live : List Mirror) (f : CopyTarget → CopyTarget) (targets : List CopyTarget) → ((t : CopyTarget) → Goes t (f t)) → CanAllComeIn live targets → CanAllComeIn live (map f targets)
map_fit live f targets goes h =
    let same = count targets in
    let room = h.room in
    record {
      apart = ap are_different (servers targets) ∙ h.apart;
      fit = fit targets h.fit;
      room = omega (arith, room, same);
    }
  where
    servers : (targets : List CopyTarget) → target_servers (map f targets) ≡ target_servers targets
    servers [] = refl
    servers (t ∷ targets) = ap (λ (k : ℕ). k ∷ target_servers (map f targets)) (goes t).server ∙ ap (λ (rest : List ℕ). t.server ∷ rest) (servers targets)

    count : (targets : List CopyTarget) → count_added (map f targets) ≡ count_added targets
    count [] = refl
    count (t ∷ targets) = ap (λ (r : Option MirrorId). one_if_added r + count_added (map f targets)) (goes t).replaced ∙ ap (λ (n : ℕ). one_if_added t.replaced + n) (count targets)

    fit : (targets : List CopyTarget) → list_all (can_come_in live) targets ≡ true → list_all (can_come_in live) (map f targets) ≡ true
    fit [] k = refl
    fit (t ∷ targets) k = let fits = and_parts _ _ k in both _ _ ((goes t).fits live fits.0) (fit targets fits.1)

-- ---- the steps of one target

pub out_is_left : (xid : ℕ) (stage : CallStage) → is_out xid stage ≡ true → is_given_up stage ≡ false
out_is_left xid Waits e = refl
out_is_left xid (Out own timeouts) e = refl
out_is_left xid (KeptOut own) e = refl
out_is_left xid KeptBack e = refl
out_is_left xid Done e = refl
out_is_left xid GivenUp e = absurd cc

waits_is_left : (stage : CallStage) → waits stage ≡ true → is_given_up stage ≡ false
waits_is_left Waits e = refl
waits_is_left (Out own timeouts) e = refl
waits_is_left (KeptOut own) e = refl
waits_is_left KeptBack e = refl
waits_is_left Done e = refl
waits_is_left GivenUp e = absurd cc

-- what holds of a target that is left
pub of_left : (live : List Mirror) (t : CopyTarget) → is_given_up t.stage ≡ false → can_come_in live t ≡ true → (is_made_on t.server t.made ≡ true) × (can_stand live t.server t.replaced ≡ true)
of_left live t left fit = and_parts _ _ (ap (λ b. cond b (not (is_some t.made)) (is_made_on t.server t.made && can_stand live t.server t.replaced)) (sym left) ∙ fit)

to_stage : (t : CopyTarget) (stage : CallStage) → is_given_up t.stage ≡ false → is_given_up stage ≡ false → Goes t (at_stage t stage)
to_stage t stage left new = record {
  server = refl;
  replaced = refl;
  fits = λ live fit. ap (λ b. cond b (not (is_some t.made)) (is_made_on t.server t.made && can_stand live t.server t.replaced)) (new ∙ sym left) ∙ fit;
}

pub sent_goes : (t : CopyTarget) (xid : ℕ) → waits t.stage ≡ true → Goes t (at_stage t (Out xid 0))
sent_goes t xid is = to_stage t (Out xid 0) (waits_is_left t.stage is) refl

stays : (t : CopyTarget) → Goes t t
stays t = record { server = refl; replaced = refl; fits = λ live fit. fit }

pub thrown_goes : (t : CopyTarget) → Goes t (thrown_away t)
thrown_goes t = record { server = refl; replaced = refl; fits = λ live fit. refl }

made_goes : (t : CopyTarget) (fileid : ℕ) (shown : Shown) → is_given_up t.stage ≡ false → Goes t (having_made t fileid shown.seen)
made_goes t fileid shown left = record { server = refl; replaced = refl; fits = λ live fit. both _ _ (eq-eqb t.server t.server refl) (of_left live t left fit).1 }

on_seen : (server : ℕ) (made : Option Mirror) (shown : Option Shown) → is_made_on server made ≡ true → is_made_on server (seen_then made shown) ≡ true
on_seen server None shown h = refl
on_seen server (Some m) None h = h
on_seen server (Some m) (Some shown) h = h

written_goes : (t : CopyTarget) (shown : Option Shown) → is_given_up t.stage ≡ false → Goes t (having_written t shown)
written_goes t shown left = record { server = refl; replaced = refl; fits = λ live fit. both _ _ (on_seen t.server t.made shown (of_left live t left fit).0) (of_left live t left fit).1 }

-- a piece is to be written to it
to_write_goes : (bytes : List ℕ) (t : CopyTarget) → Goes t (to_write bytes t)
to_write_goes bytes t = by_test (is_given_up t.stage) refl
  where
    new : (bytes : List ℕ) → is_given_up (stage_for bytes) ≡ false
    new [] = refl
    new (b ∷ bytes) = refl

    by_test : (b : Bool) → is_given_up t.stage ≡ b → Goes t (cond b t (at_stage t (stage_for bytes)))
    by_test true is = stays t
    by_test false is = to_stage t (stage_for bytes) is (new bytes)

pub all_write : (live : List Mirror) (bytes : List ℕ) (targets : List CopyTarget) → CanAllComeIn live targets → CanAllComeIn live (map (to_write bytes) targets)
all_write live bytes targets h = map_fit live (to_write bytes) targets (to_write_goes bytes) h

-- ---- the mirror that a target was to replace, where it failed

has_one : (live : List Mirror) (id : MirrorId) → is_source id live ≡ false → is_one_of id live ≡ true → is_last_live live ≡ false
has_one [] id first one = absurd cc
has_one (m ∷ []) id first one = let no : (is_mirror m.id id || false) ≡ false = ap (λ b. b || false) first in let bad : true ≡ false = sym one ∙ no in absurd cc
has_one (m ∷ other ∷ live) id first one = le-ltb (length (m ∷ other ∷ live)) 2 (omega arith)

or_parts : (a b : Bool) → (a || b) ≡ false → (a ≡ false) × (b ≡ false)
or_parts true b e = absurd cc
or_parts false b e = (refl, e)

in_rest : (targets : List CopyTarget) (place : ℕ) (t : CopyTarget) (n : ℕ) → slice_get targets place ≡ Some t → list_any (λ k. k == n) (target_servers targets) ≡ false → eqb t.server n ≡ false
in_rest [] place t n e none = absurd cc
in_rest (x ∷ targets) zero t n e none = ap (λ (y : CopyTarget). eqb y.server n) (sym (same_Some x t e)) ∙ (or_parts _ _ none).0
in_rest (x ∷ targets) (suc place) t n e none = in_rest targets place t n e (or_parts _ _ none).1

passes_true : (b e : Bool) → e ≡ false → (b || not e) ≡ true
passes_true true e h = refl
passes_true false e h = ap not h

-- the others are on other servers
others_off : (targets : List CopyTarget) (place : ℕ) (t t' : CopyTarget) → slice_get targets place ≡ Some t → is_given_up t'.stage ≡ true → are_different (target_servers targets) ≡ true → list_all (passes_off (but_server t.server)) (set targets place t') ≡ true
others_off [] place t t' e gone apart = absurd cc
others_off (x ∷ targets) zero t t' e gone apart =
    let same : x.server ≡ t.server = ap (λ (y : CopyTarget). y.server) (same_Some x t e) in
    both _ _ (ap (λ b. b || not (eqb t'.server t.server)) gone) (off_behind t.server targets (ap (λ (n : ℕ). list_any (λ k. k == n) (target_servers targets)) (sym same) ∙ not_true _ (and_parts _ _ apart).0))
others_off (x ∷ targets) (suc place) t t' e gone apart =
    both _ _ (passes_true (is_given_up x.stage) (eqb x.server t.server) (other_way t.server x.server (in_rest targets place t x.server e (not_true _ (and_parts _ _ apart).0)))) (others_off targets place t t' e gone (and_parts _ _ apart).1)

pub fit_at : (live : List Mirror) (targets : List CopyTarget) (place : ℕ) (t : CopyTarget) → slice_get targets place ≡ Some t → list_all (can_come_in live) targets ≡ true → can_come_in live t ≡ true
fit_at live [] place t e fit = absurd cc
fit_at live (x ∷ targets) zero t e fit = ap (can_come_in live) (sym (same_Some x t e)) ∙ (and_parts _ _ fit).0
fit_at live (x ∷ targets) (suc place) t e fit = fit_at live targets place t e (and_parts _ _ fit).1

pub thrown_leaves : (live : List Mirror) (targets : List CopyTarget) (place : ℕ) (t : CopyTarget) → slice_get targets place ≡ Some t → is_given_up t.stage ≡ false → CanAllComeIn live targets → may_leave live (set targets place (thrown_away t)) t.replaced
thrown_leaves live targets place t e left h = by_replaced t.replaced (of_left live t left (fit_at live targets place t e h.fit)).1
  where
    by_replaced : (replaced : Option MirrorId) → can_stand live t.server replaced ≡ true → may_leave live (set targets place (thrown_away t)) replaced
    by_replaced None at = tt
    by_replaced (Some id) at =
        let parts = and_parts _ _ at in
        let more = and_parts _ _ parts.1 in
        let not_first = not_true _ more.0 in
        let on : t.server ≡ id.server = eqb-true t.server id.server parts.0 in
        let set_ok : CanAllComeIn live (set targets place (thrown_away t)) = set_fit live targets place t (thrown_away t) e (thrown_goes t) h in
        let off : list_all (passes_off (but_server id.server)) (set targets place (thrown_away t)) ≡ true = subst (λ (n : ℕ). list_all (passes_off (but_server n)) (set targets place (thrown_away t)) ≡ true) on (others_off targets place t (thrown_away t) e refl h.apart) in
        let less = left_shorter id live in
        let room = set_ok.room in
        record {
          others = has_one live id not_first more.1;
          not_source = not_first;
          all_fit = still_fit (but_server id.server) live (but_for id live) (set targets place (thrown_away t)) (left_alike id live not_first) off (omega (arith, less, room)) set_ok;
        }

-- ---- an answer and a timeout, with what they come to

-- what holds of a target's step in its list
pub record StepsWell (live : List Mirror) (targets : List CopyTarget) (place : ℕ) (x : TargetStep) : Type 0 where
  pub fit : CanAllComeIn live (set targets place x.target)
  pub loses : LosesTarget live (set targets place x.target) x.step

module _ (live : List Mirror) (targets : List CopyTarget) (place : ℕ) (t : CopyTarget) (e : slice_get targets place ≡ Some t) (h : CanAllComeIn live targets) where
  goes_well : (t' : CopyTarget) → Goes t t' → StepsWell live targets place (goes_on_with t')
  goes_well t' goes = record { fit = set_fit live targets place t t' e goes h; loses = tt }

  fails_well : (cause : LeftCause) → is_given_up t.stage ≡ false → StepsWell live targets place (target_fails t cause)
  fails_well cause left = record { fit = set_fit live targets place t (thrown_away t) e (thrown_goes t) h; loses = thrown_leaves live targets place t e left h }

  created_well : (reply : DsReplyValue) → is_given_up t.stage ≡ false → StepsWell live targets place (create_answered t reply)
  created_well (Created fileid shown) left = goes_well (having_made t fileid shown.seen) (made_goes t fileid shown left)
  created_well (Set shown) left = fails_well (Error odd_status) left
  created_well (Written shown verifier) left = fails_well (Error odd_status) left
  created_well (Committed shown verifier) left = fails_well (Error odd_status) left
  created_well (Bytes shown eof bytes) left = fails_well (Error odd_status) left
  created_well (NotSync shown) left = fails_well (Error odd_status) left
  created_well (Failed status shown) left = fails_well (Error status) left

  written_well : (reply : DsReplyValue) → is_given_up t.stage ≡ false → StepsWell live targets place (write_answered t reply)
  written_well (Created fileid shown) left = fails_well (Error odd_status) left
  written_well (Set shown) left = fails_well (Error odd_status) left
  written_well (Written shown verifier) left = goes_well (having_written t shown) (written_goes t shown left)
  written_well (Committed shown verifier) left = fails_well (Error odd_status) left
  written_well (Bytes shown eof bytes) left = fails_well (Error odd_status) left
  written_well (NotSync shown) left = fails_well (Error odd_status) left
  written_well (Failed status shown) left = fails_well (Error status) left

  answered_by : (reply : DsReplyValue) (made : Option Mirror) → is_given_up t.stage ≡ false → StepsWell live targets place (target_answered t reply made)
  answered_by reply None left = created_well reply left
  answered_by reply (Some m) left = written_well reply left

  pub answered_well : (xid : ℕ) (reply : DsReplyValue) → is_out xid t.stage ≡ true → StepsWell live targets place (target_answered t reply t.made)
  answered_well xid reply out = answered_by reply t.made (out_is_left xid t.stage out)

  late_by : (stage : CallStage) → t.stage ≡ stage → StepsWell live targets place (target_late t stage)
  late_by Waits is = goes_well t (stays t)
  late_by (Out xid timeouts) is =
      let left : is_given_up t.stage ≡ false = ap is_given_up is in
      cond_both (nat_lt (timeouts + 1) MAX_TIMEOUTS) (goes_on_with (at_stage t (Out xid (timeouts + 1)))) (target_fails t Timeouts) (StepsWell live targets place)
      (λ yes. goes_well (at_stage t (Out xid (timeouts + 1))) (to_stage t (Out xid (timeouts + 1)) left refl)) (λ other. fails_well Timeouts left)
  late_by (KeptOut xid) is = goes_well t (stays t)
  late_by KeptBack is = goes_well t (stays t)
  late_by Done is = goes_well t (stays t)
  late_by GivenUp is = goes_well t (stays t)

  pub late_well : StepsWell live targets place (target_late t t.stage)
  late_well = late_by t.stage refl
