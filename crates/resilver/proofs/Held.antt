-- In every run of a copy to different servers the notes say of each target what it is.
use Rattle.std.proofs.Common.{◌≡◌, ◌≢◌, ◌⊎◌, inl, inr, ℕ, ◌+◌, ◌<◌, ◌≤◌, Bool, true, false, cond, List, [], ◌∷◌, length, get_or, Option, Some, None, refl, sym, ap, subst, ◌∙◌, arith}
use Rattle.std.specs.Prelude.{◌==◌, ◌||◌, nat_lt, slice_get, slice_set, option_map}
use Rattle.std.proofs.lemmas.Bool.{cases_eq, cases_lt}
use Rattle.std.proofs.lemmas.Option.{same_Some, none-some, slice_get-map, slice_get_within, get_or_from_slice_get}
use Rattle.cluster_model.specs.declared.limits.TheConstants.{MAX_TIMEOUTS, PIECE_SIZE}
use Rattle.cluster_model.specs.declared.ids.MirrorId.{MirrorId}
use Rattle.cluster_model.specs.declared.ds_call.Shown.{Shown}
use Rattle.cluster_model.specs.declared.phase.LeftCause.TheVariants.{Timeouts}
use Rattle.cluster_model.specs.declared.call_stage.CallStage.{CallStage}
use Rattle.cluster_model.specs.declared.call_stage.CallStage.TheVariants.{Waits, Out, KeptOut, KeptBack, Done, GivenUp}
use Rattle.cluster_model.specs.DsCalls.{DsCallValue, Read, DsReplyValue, Bytes}
use Rattle.cluster_model.specs.Fences.{waits, is_out, is_over, stage_at_tick}
use Rattle.cluster_model.proofs.Elements.{slice_get-set_other, slice_get-set_same}
use Rattle.copy_rule.specs.declared.copy_target.Target.{Target}
use Rattle.copy_rule.specs.declared.copy_target.CopyTarget.{CopyTarget}
use Rattle.copy_rule.specs.Copies.{CopyState, TargetStep, new_copy, to_make, with_target, with_read, with_piece, with_next, have_answered, at_stage, to_write, target_call, target_answered, target_late, target_fails, goes_on_with, is_long}
use Rattle.copy_rule.proofs.ReadOn.{answered_of}
use Rattle.resilver.specs.CopyLaws.{CopyMove, CopyNote, WasSent, WasAnswered, WasLate, HasTicked, CopyCallOut, was_sent, call_out, late_once, piece_in, was_lost, AreTargetsApart, copy_run}
use Rattle.resilver.proofs.Lists.{not_equal, equal, apart, all_at, mapped_at, out_same, over_not_out, waits_not_out, waits_not_over, AfterSet, Here, There, after_set}
use Rattle.resilver.proofs.Moves.{read_out, NotAtTarget, is_done, Cases, run_keeps}
use Rattle.resilver.proofs.CallsOut.{fresh_other, sent_other, answered_other, answered_same, late_other, late_same, no_read, piece_none}
use Rattle.resilver.proofs.Turns.{Turn, turn_cases, turn_goes, turn_start, one_read}
use Rattle.resilver.proofs.Away.{IsAway, NoCall, OfOther, OfRead, LeavesBe, answer_away, be_sent, be_ticked, be_answered, be_late_away}
use Rattle.resilver.proofs.Standing.{TargetAt, Unmade, timeouts_of, target_out, target_on, sent_at, answered_at, late_at, piece_at, next_at}

pub record Held (plan : List Target) (copier : ℕ) (c : CopyState) (notes : List CopyNote) : Type 0 where
  pub copier_is : c.copier ≡ copier
  pub at : (place : ℕ) (t : CopyTarget) → slice_get c.targets place ≡ Some t → TargetAt plan c.copier c.at c.piece notes place t
  pub whole : (place : ℕ) → slice_get c.targets place ≡ None → slice_get plan place ≡ None
  -- no other call is out
  pub only : (y : ℕ) → is_out y c.read ≡ false → NotAtTarget c y → call_out notes y ≡ None

pub different_at : (plan : List Target) (p q : ℕ) (a b : Target) → AreTargetsApart plan → p ≢ q → slice_get plan p ≡ Some a → slice_get plan q ≡ Some b → a.server ≢ b.server
different_at plan p q a b different other at_p at_q same = by_order (cases_lt p q)
  where
    first : get_or plan p a ≡ a
    first = get_or_from_slice_get plan p a a at_p

    second : get_or plan q a ≡ b
    second = get_or_from_slice_get plan q b a at_q

    by_order : (p < q) ⊎ (q ≤ p) → ⊥
    by_order (inl less) = different p q a less (slice_get_within plan q b at_q) (ap (λ (k : Target). k.server) first ∙ same ∙ ap (λ (k : Target). k.server) (sym second))
    by_order (inr more) = different q p a (omega (arith, more, other)) (slice_get_within plan p a at_p) (ap (λ (k : Target). k.server) second ∙ sym same ∙ ap (λ (k : Target). k.server) (sym first))

-- where a timeout gave a target up, its call is out no longer
late_gone : (x : ℕ) (copier at : ℕ) (piece : List ℕ) (t : CopyTarget) (s : CallStage) → t.stage ≡ s → is_out x t.stage ≡ true → is_out x (target_late t s).target.stage ≡ false → late_once (Some (target_out copier at piece t)) ≡ None
late_gone x copier at piece t (Out own n) is out gone = by_count (nat_lt (n + 1) MAX_TIMEOUTS) refl gone
  where
    by_count : (b : Bool) → nat_lt (n + 1) MAX_TIMEOUTS ≡ b → is_out x (cond {A = TargetStep} b (goes_on_with (at_stage t (Out own (n + 1)))) (target_fails t Timeouts)).target.stage ≡ false
        → late_once (Some (target_out copier at piece t)) ≡ None
    by_count true less gone = absurd (apart (is_out x t.stage) out (ap (is_out x) is ∙ gone))
    by_count false more gone =
        ap (λ (b : Bool). cond {A = Option CopyCallOut} b (Some (target_out copier at piece t)) (cond {A = Option CopyCallOut} (nat_lt (timeouts_of t.stage + 1) MAX_TIMEOUTS) (Some (again (timeouts_of t.stage + 1))) None)) (no_read copier at piece t.name t.made)
        ∙ ap (λ (k : CallStage). cond {A = Option CopyCallOut} (nat_lt (timeouts_of k + 1) MAX_TIMEOUTS) (Some (again (timeouts_of k + 1))) None) is
        ∙ ap (λ (b : Bool). cond {A = Option CopyCallOut} b (Some (again (n + 1))) None) more
      where
        again : ℕ → CopyCallOut
        again k = record { server = t.server; call = target_call copier at piece t.name t.made; timeouts = k }
late_gone x copier at piece t (KeptOut own) is out gone = absurd (apart (is_out x t.stage) out gone)
late_gone x copier at piece t Waits is out gone = absurd (apart (is_out x t.stage) out gone)
late_gone x copier at piece t KeptBack is out gone = absurd (apart (is_out x t.stage) out gone)
late_gone x copier at piece t Done is out gone = absurd (apart (is_out x t.stage) out gone)
late_gone x copier at piece t GivenUp is out gone = absurd (apart (is_out x t.stage) out gone)

module _ (plan : List Target) (copier : ℕ) (different : AreTargetsApart plan) (c : CopyState) (notes : List CopyNote) (turn : Turn c notes) (held : Held plan copier c notes) where
  -- two targets are on different servers
  servers : (p q : ℕ) (t u : CopyTarget) → p ≢ q → slice_get c.targets p ≡ Some t → slice_get c.targets q ≡ Some u → t.server ≢ u.server
  servers p q t u other at_p at_q same =
      let a = held.at p t at_p in
      let b = held.at q u at_q in
      different_at plan p q a.from b.from different other a.planned b.planned (a.server ∙ same ∙ sym b.server)

  -- two calls that are out have different numbers
  numbers : (p q x y : ℕ) (t u : CopyTarget) → p ≢ q → slice_get c.targets p ≡ Some t → slice_get c.targets q ≡ Some u → is_out x t.stage ≡ true → is_out y u.stage ≡ true → x ≢ y
  numbers p q x y t u other at_p at_q out_x out_y same =
      servers p q t u other at_p at_q
      (ap (λ (o : CopyCallOut). o.server) (same_Some (target_out c.copier c.at c.piece t) (target_out c.copier c.at c.piece u)
      (sym ((held.at p t at_p).out x out_x) ∙ ap (call_out notes) same ∙ (held.at q u at_q).out y out_y)))

  put : (place : ℕ) (t new : CopyTarget) (noted : List CopyNote) → slice_get c.targets place ≡ Some t → TargetAt plan c.copier c.at c.piece noted place new
      → ((q : ℕ) (u : CopyTarget) → q ≢ place → slice_get c.targets q ≡ Some u → TargetAt plan c.copier c.at c.piece noted q u)
      → ((y : ℕ) → is_out y c.read ≡ false → NotAtTarget (with_target c place new) y → call_out noted y ≡ None) → Held plan copier (with_target c place new) noted
  put place t new noted there its others only = record {
    copier_is = held.copier_is;
    at = λ q u at. by_place q u (after_set c.targets place t new q u there at);
    whole = λ q none. held.whole q (by_none q none (cases_eq q place));
    only = only;
  }
    where
      by_place : (q : ℕ) (u : CopyTarget) → AfterSet c.targets place new q u → TargetAt plan c.copier c.at c.piece noted q u
      by_place q u (Here is same) = subst (λ (k : ℕ). TargetAt plan c.copier c.at c.piece noted k u) (sym is) (subst (λ (k : CopyTarget). TargetAt plan c.copier c.at c.piece noted place k) (sym same) its)
      by_place q u (There other at) = others q u other at

      by_none : (q : ℕ) → slice_get (slice_set c.targets place new) q ≡ None → (q ≡ place) ⊎ (q ≢ place) → slice_get c.targets q ≡ None
      by_none q none (inl is) = absurd (none-some new (sym none ∙ ap (slice_get (slice_set c.targets place new)) is ∙ slice_get-set_same c.targets place t new there))
      by_none q none (inr other) = sym (slice_get-set_other c.targets place q new other) ∙ none

  -- a number that no target has then, nor the changed one before, none had before
  not_before : (place y : ℕ) (t new : CopyTarget) → slice_get c.targets place ≡ Some t → is_out y t.stage ≡ false → NotAtTarget (with_target c place new) y → NotAtTarget c y
  not_before place y t new there away none q u at = by_place (cases_eq q place)
    where
      by_place : (q ≡ place) ⊎ (q ≢ place) → is_out y u.stage ≡ false
      by_place (inl is) = subst (λ (k : CopyTarget). is_out y k.stage ≡ false) (same_Some t u (sym there ∙ ap (slice_get c.targets) (sym is) ∙ at)) away
      by_place (inr other) = none q u (slice_get-set_other c.targets place q new other ∙ at)

  -- another number than one that is out at a call is not out there
  not_out : (x y : ℕ) (s : CallStage) → is_out x s ≡ true → x ≢ y → is_out y s ≡ false
  not_out x y s out other = by_out (is_out y s) refl
    where
      by_out : (b : Bool) → is_out y s ≡ b → b ≡ false
      by_out false is = refl
      by_out true is = absurd (other (out_same x y s out is))

  held_sent : (place x : ℕ) (t : CopyTarget) → was_sent notes x ≡ false → slice_get c.targets place ≡ Some t → waits t.stage ≡ true
      → Held plan copier (with_target c place (at_stage t (Out x 0))) (WasSent t.server x (target_call c.copier c.at c.piece t.name t.made) ∷ notes)
  held_sent place x t fresh there waiting =
      put place t (at_stage t (Out x 0)) (WasSent t.server x call ∷ notes) there
      (sent_at plan c.copier c.at c.piece notes place t (held.at place t there) x waiting (waits_not_over t.stage waiting))
      (λ q u other at.
      target_on plan c.copier c.at c.piece notes (WasSent t.server x call ∷ notes) q u (be_sent c.copier u.server notes t.server x call)
      (λ y out. sent_other notes t.server x y call (fresh_other notes x y (target_out c.copier c.at c.piece u) fresh ((held.at q u at).out y out)))
      (held.at q u at))
      (λ y away none.
      let gone : (x == y) ≡ false = none place (at_stage t (Out x 0)) (slice_get-set_same c.targets place t (at_stage t (Out x 0)) there) in
      sent_other notes t.server x y call (λ same. apart (x == y) (equal x y same) gone)
      ∙ held.only y away (not_before place y t (at_stage t (Out x 0)) there (waits_not_out y t.stage waiting) none))
    where
      call : DsCallValue
      call = target_call c.copier c.at c.piece t.name t.made

  -- of the answer to a target's call the others know nothing
  away_from : (place x q : ℕ) (t u : CopyTarget) → slice_get c.targets place ≡ Some t → is_out x t.stage ≡ true → q ≢ place → slice_get c.targets q ≡ Some u → IsAway u.server (call_out notes x)
  away_from place x q t u there out other at =
      OfOther (target_out c.copier c.at c.piece t) ((held.at place t there).out x out) (not_equal t.server u.server (servers place q t u (λ e. other (sym e)) there at))

  held_answered : (place x : ℕ) (t : CopyTarget) (reply : DsReplyValue) → slice_get c.targets place ≡ Some t → is_out x t.stage ≡ true
      → Held plan copier (with_target c place (target_answered t reply t.made).target) (WasAnswered x reply ∷ notes)
  held_answered place x t reply there out =
      put place t (target_answered t reply t.made).target (WasAnswered x reply ∷ notes) there
      (answered_at plan c.copier c.at c.piece notes place t (held.at place t there) x out reply)
      (λ q u other at.
      target_on plan c.copier c.at c.piece notes (WasAnswered x reply ∷ notes) q u
      (be_answered c.copier u.server notes x reply (away_from place x q t u there out other at) (piece_none reply (call_out notes x) (turn.alone x place t there out).1))
      (λ y so. answered_other notes x y reply (numbers place q x y t u (λ e. other (sym e)) there at out so))
      (held.at q u at))
      (λ y away none. by_number y away none (cases_eq x y))
    where
      by_number : (y : ℕ) → is_out y c.read ≡ false → NotAtTarget (with_target c place (target_answered t reply t.made).target) y → (x ≡ y) ⊎ (x ≢ y) → call_out (WasAnswered x reply ∷ notes) y ≡ None
      by_number y away none (inl same) = answered_same notes x y reply same
      by_number y away none (inr other) =
          answered_other notes x y reply other ∙ held.only y away (not_before place y t (target_answered t reply t.made).target there (not_out x y t.stage out other) none)

  held_late : (place x : ℕ) (t : CopyTarget) → slice_get c.targets place ≡ Some t → is_out x t.stage ≡ true → Held plan copier (with_target c place (target_late t t.stage).target) (WasLate x ∷ notes)
  held_late place x t there out =
      put place t (target_late t t.stage).target (WasLate x ∷ notes) there
      (late_at plan c.copier c.at c.piece notes place t (held.at place t there) x out t.stage refl)
      (λ q u other at.
      target_on plan c.copier c.at c.piece notes (WasLate x ∷ notes) q u (be_late_away c.copier u.server notes x (away_from place x q t u there out other at))
      (λ y so. late_other notes x y (numbers place q x y t u (λ e. other (sym e)) there at out so))
      (held.at q u at))
      (λ y away none. by_number y away none (cases_eq x y))
    where
      by_number : (y : ℕ) → is_out y c.read ≡ false → NotAtTarget (with_target c place (target_late t t.stage).target) y → (x ≡ y) ⊎ (x ≢ y) → call_out (WasLate x ∷ notes) y ≡ None
      by_number y away none (inl same) =
          let gone = none place (target_late t t.stage).target (slice_get-set_same c.targets place t (target_late t t.stage).target there) in
          late_same notes x y same ∙ ap (λ k. late_once (call_out notes k)) (sym same) ∙ ap late_once ((held.at place t there).out x out)
          ∙ late_gone x c.copier c.at c.piece t t.stage refl out (ap (λ k. is_out k (target_late t t.stage).target.stage) same ∙ gone)
      by_number y away none (inr other) =
          late_other notes x y other ∙ held.only y away (not_before place y t (target_late t t.stage).target there (not_out x y t.stage out other) none)

  -- the READ is at another stage
  at_read : (stage : CallStage) (noted : List CopyNote) → ((server : ℕ) → LeavesBe c.copier server notes noted)
      → ((q y : ℕ) (u : CopyTarget) → slice_get c.targets q ≡ Some u → is_out y u.stage ≡ true → call_out noted y ≡ call_out notes y)
      → ((y : ℕ) → is_out y stage ≡ false → NotAtTarget c y → call_out noted y ≡ None) → Held plan copier (with_read c stage) noted
  at_read stage noted be same only = record {
    copier_is = held.copier_is;
    at = λ q u at. target_on plan c.copier c.at c.piece notes noted q u (be u.server) (λ y out. same q y u at out) (held.at q u at);
    whole = held.whole;
    only = only;
  }

  held_reads : (x : ℕ) → was_sent notes x ≡ false → waits c.read ≡ true → have_answered c ≡ true → Held plan copier (with_read c (Out x 0)) (WasSent c.source.server x (Read c.source.fileid c.at PIECE_SIZE) ∷ notes)
  held_reads x fresh waiting all =
      at_read (Out x 0) (WasSent c.source.server x call ∷ notes) (λ server. be_sent c.copier server notes c.source.server x call)
      (λ q y u at out. sent_other notes c.source.server x y call (fresh_other notes x y (target_out c.copier c.at c.piece u) fresh ((held.at q u at).out y out)))
      (λ y away none. sent_other notes c.source.server x y call (λ same. apart (x == y) (equal x y same) away) ∙ held.only y (waits_not_out y c.read waiting) none)
    where
      call : DsCallValue
      call = Read c.source.fileid c.at PIECE_SIZE

  -- the number of the READ is no target's
  read_number : (x q y : ℕ) (u : CopyTarget) → NotAtTarget c x → slice_get c.targets q ≡ Some u → is_out y u.stage ≡ true → x ≢ y
  read_number x q y u away at out same = apart (is_out y u.stage) out (ap (λ k. is_out k u.stage) (sym same) ∙ away q u at)

  -- a number that is out nowhere then
  gone_by_answer : (x : ℕ) (reply : DsReplyValue) → is_out x c.read ≡ true → (y : ℕ) → NotAtTarget c y → call_out (WasAnswered x reply ∷ notes) y ≡ None
  gone_by_answer x reply out y none = by_number (cases_eq x y)
    where
      by_number : (x ≡ y) ⊎ (x ≢ y) → call_out (WasAnswered x reply ∷ notes) y ≡ None
      by_number (inl same) = answered_same notes x y reply same
      by_number (inr other) = answered_other notes x y reply other ∙ held.only y (not_out x y c.read out other) none

  held_failed : (x : ℕ) (reply : DsReplyValue) → NotAtTarget c x → is_out x c.read ≡ true → piece_in reply (Some (read_out c)) ≡ [] → Held plan copier (with_read c KeptBack) (WasAnswered x reply ∷ notes)
  held_failed x reply away out none =
      at_read KeptBack (WasAnswered x reply ∷ notes)
      (λ server. be_answered c.copier server notes x reply (OfRead (read_out c) (turn.read x out) refl) (ap (piece_in reply) (turn.read x out) ∙ none))
      (λ q y u at so. answered_other notes x y reply (read_number x q y u away at so))
      (λ y so nowhere. gone_by_answer x reply out y nowhere)

  held_late_read : (x : ℕ) (stage : CallStage) → NotAtTarget c x → is_out x c.read ≡ true → ((y : ℕ) → is_out y stage ≡ is_out y c.read) → is_done stage ≡ false → Held plan copier (with_read c stage) (WasLate x ∷ notes)
  held_late_read x stage away out alike not_done =
      at_read stage (WasLate x ∷ notes)
      (λ server. be_late_away c.copier server notes x (OfRead (read_out c) (turn.read x out) refl))
      (λ q y u at so. late_other notes x y (read_number x q y u away at so))
      (λ y so nowhere.
      let was : is_out y c.read ≡ false = sym (alike y) ∙ so in
      late_other notes x y (λ same. apart (is_out y c.read) (ap (λ k. is_out k c.read) (sym same) ∙ out) was) ∙ held.only y was nowhere)

  held_stray : (x : ℕ) (reply : DsReplyValue) → NotAtTarget c x → is_out x c.read ≡ false → Held plan copier c (WasAnswered x reply ∷ notes)
  held_stray x reply away other =
      at_read c.read (WasAnswered x reply ∷ notes)
      (λ server. be_answered c.copier server notes x reply (NoCall (held.only x other away)) (piece_none reply (call_out notes x) (turn.only x other)))
      (λ q y u at so. answered_other notes x y reply (read_number x q y u away at so))
      (λ y so nowhere. by_number y so nowhere (cases_eq x y))
    where
      by_number : (y : ℕ) → is_out y c.read ≡ false → NotAtTarget c y → (x ≡ y) ⊎ (x ≢ y) → call_out (WasAnswered x reply ∷ notes) y ≡ None
      by_number y so nowhere (inl same) = answered_same notes x y reply same
      by_number y so nowhere (inr ne) = answered_other notes x y reply ne ∙ held.only y so nowhere

  held_stray_late : (x : ℕ) → NotAtTarget c x → is_out x c.read ≡ false → Held plan copier c (WasLate x ∷ notes)
  held_stray_late x away other =
      at_read c.read (WasLate x ∷ notes)
      (λ server. be_late_away c.copier server notes x (NoCall (held.only x other away)))
      (λ q y u at so. late_other notes x y (read_number x q y u away at so))
      (λ y so nowhere. by_number y so nowhere (cases_eq x y))
    where
      by_number : (y : ℕ) → is_out y c.read ≡ false → NotAtTarget c y → (x ≡ y) ⊎ (x ≢ y) → call_out (WasLate x ∷ notes) y ≡ None
      by_number y so nowhere (inl same) = late_same notes x y same ∙ ap late_once (held.only y so nowhere)
      by_number y so nowhere (inr ne) = late_other notes x y ne ∙ held.only y so nowhere

  held_ticked : Held plan copier (with_read c (stage_at_tick c.read)) (HasTicked ∷ notes)
  held_ticked =
      at_read (stage_at_tick c.read) (HasTicked ∷ notes) (λ server. be_ticked c.copier server notes) (λ q y u at so. refl)
      (λ y so nowhere. held.only y (sym (same_out y c.read) ∙ so) nowhere)
    where
      same_out : (y : ℕ) (s : CallStage) → is_out y (stage_at_tick s) ≡ is_out y s
      same_out y Waits = refl
      same_out y (Out xid n) = refl
      same_out y (KeptOut xid) = refl
      same_out y KeptBack = refl
      same_out y Done = refl
      same_out y GivenUp = refl

  all_over : have_answered c ≡ true → (q : ℕ) (u : CopyTarget) → slice_get c.targets q ≡ Some u → is_over u.stage ≡ true
  all_over all q u at = all_at (λ k. is_over k.stage) c.targets q u all at

  held_piece : (x : ℕ) (shown : Option Shown) (eof : Bool) (bytes : List ℕ) → NotAtTarget c x → is_out x c.read ≡ true → is_long c bytes ≡ false
      → Held plan copier (with_piece c eof bytes) (WasAnswered x (Bytes shown eof bytes) ∷ notes)
  held_piece x shown eof bytes away out fits = record {
    copier_is = held.copier_is;
    at = λ q u at. by_target q u (mapped_at (to_write bytes) c.targets q u at);
    whole = λ q none. held.whole q (by_none q (slice_get c.targets q) refl (sym (slice_get-map (to_write bytes) c.targets q) ∙ none));
    only = λ y so nowhere. gone_by_answer x (Bytes shown eof bytes) out y (λ q u at. over_not_out y u.stage (all_over (turn.asked x out) q u at));
  }
    where
      by_target : (q : ℕ) (u : CopyTarget) → (t : CopyTarget) × (slice_get c.targets q ≡ Some t) × (to_write bytes t ≡ u) → TargetAt plan c.copier c.at bytes (WasAnswered x (Bytes shown eof bytes) ∷ notes) q u
      by_target q u m =
          subst (λ (k : CopyTarget). TargetAt plan c.copier c.at bytes (WasAnswered x (Bytes shown eof bytes) ∷ notes) q k) m.2
          (piece_at plan c.copier c.at c.piece notes q m.0 (held.at q m.0 m.1) x shown eof bytes (all_over (turn.asked x out) q m.0 m.1) (one_read c notes turn x shown eof bytes out fits)
          (ap (λ b. b || was_lost m.0.server notes) (answer_away m.0.server (Bytes shown eof bytes) (call_out notes x) (OfRead (read_out c) (turn.read x out) refl))))

      by_none : (q : ℕ) (o : Option CopyTarget) → slice_get c.targets q ≡ o → option_map (to_write bytes) o ≡ None → slice_get c.targets q ≡ None
      by_none q None is none = is
      by_none q (Some t) is none = absurd cc

  held_next : is_over c.read ≡ true → have_answered c ≡ true → Held plan copier (with_next c) notes
  held_next over all = record {
    copier_is = held.copier_is;
    at = λ q u at. next_at plan c.copier c.at c.piece notes q u (held.at q u at) (c.at + length c.piece) [] (all_over all q u at);
    whole = held.whole;
    only = λ y so nowhere. held.only y (over_not_out y c.read over) nowhere;
  }

-- ---- runs

pub record Stands (plan : List Target) (copier : ℕ) (c : CopyState) (notes : List CopyNote) : Type 0 where
  pub turn : Turn c notes
  pub held : Held plan copier c notes

stands_cases : (plan : List Target) (copier : ℕ) → AreTargetsApart plan → (c : CopyState) (notes : List CopyNote) → Stands plan copier c notes → Cases (Stands plan copier) c notes
stands_cases plan copier different c notes s =
    let turns = turn_cases c notes s.turn in
    record {
      sent = λ place x t fresh there waiting. record { turn = turns.sent place x t fresh there waiting; held = held_sent plan copier different c notes s.turn s.held place x t fresh there waiting };
      reads = λ x fresh waiting may. record { turn = turns.reads x fresh waiting may; held = held_reads plan copier different c notes s.turn s.held x fresh waiting (answered_of c may) };
      answered = λ place x t reply there out. record { turn = turns.answered place x t reply there out; held = held_answered plan copier different c notes s.turn s.held place x t reply there out };
      late = λ place x t there out. record { turn = turns.late place x t there out; held = held_late plan copier different c notes s.turn s.held place x t there out };
      piece = λ x shown eof bytes away out fits. record { turn = turns.piece x shown eof bytes away out fits; held = held_piece plan copier different c notes s.turn s.held x shown eof bytes away out fits };
      failed = λ x reply away out none. record { turn = turns.failed x reply away out none; held = held_failed plan copier different c notes s.turn s.held x reply away out none };
      late_read = λ x stage away out alike not_done. record { turn = turns.late_read x stage away out alike not_done; held = held_late_read plan copier different c notes s.turn s.held x stage away out alike not_done };
      stray = λ x reply away other. record { turn = turns.stray x reply away other; held = held_stray plan copier different c notes s.turn s.held x reply away other };
      stray_late = λ x away other. record { turn = turns.stray_late x away other; held = held_stray_late plan copier different c notes s.turn s.held x away other };
      ticked = record { turn = turns.ticked; held = held_ticked plan copier different c notes s.turn s.held };
    }

stands_start : (source : MirrorId) (plan : List Target) (copier : ℕ) → Stands plan copier (new_copy source plan copier) []
stands_start source plan copier = record {
  turn = turn_start source plan copier;
  held = record {
    copier_is = refl;
    at = λ q u at. by_target q u (mapped_at to_make plan q u at);
    whole = λ q none. by_none q (slice_get plan q) refl (sym (slice_get-map to_make plan q) ∙ none);
    only = λ y away nowhere. refl;
  };
}
  where
    made_of : (q : ℕ) (t : Target) → slice_get plan q ≡ Some t → TargetAt plan copier 0 [] [] q (to_make t)
    made_of q t at = record {
      from = t;
      planned = at;
      server = refl;
      name = refl;
      replaced = refl;
      few = omega arith;
      lost = refl;
      out = λ y so. absurd cc;
      stands = Unmade refl refl refl (λ id same. (refl, refl));
    }

    by_target : (q : ℕ) (u : CopyTarget) → (t : Target) × (slice_get plan q ≡ Some t) × (to_make t ≡ u) → TargetAt plan copier 0 [] [] q u
    by_target q u m = subst (λ (k : CopyTarget). TargetAt plan copier 0 [] [] q k) m.2 (made_of q m.0 m.1)

    by_none : (q : ℕ) (o : Option Target) → slice_get plan q ≡ o → option_map to_make o ≡ None → slice_get plan q ≡ None
    by_none q None is none = is
    by_none q (Some t) is none = absurd cc

pub stands_run : (source : MirrorId) (plan : List Target) (copier : ℕ) (moves : List CopyMove) → AreTargetsApart plan
    → Stands plan copier (copy_run source plan copier moves).copy (copy_run source plan copier moves).notes
stands_run source plan copier moves different =
    run_keeps (Stands plan copier) (stands_cases plan copier different)
    (λ c notes over open' all s. record { turn = turn_goes c notes over open' all s.turn; held = held_next plan copier different c notes s.turn s.held over all })
    moves (record { copy = new_copy source plan copier; notes = [] }) (stands_start source plan copier)
