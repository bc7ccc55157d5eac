-- Nothing goes out behind a source that failed, and who calls.
use Rattle.std.proofs.Common.{◌≡◌, ℕ, ◌+◌, Bool, true, false, cond, List, Option, Some, None, refl, ap, subst, ◌∙◌}
use Rattle.std.specs.Prelude.{◌&&◌, nat_lt, slice_get}
use Rattle.std.specs.List.{list_all, position}
use Rattle.std.proofs.lemmas.Bool.{cond_both}
use Rattle.std.proofs.lemmas.Option.{same_Some, none-some}
use Rattle.cluster_model.specs.declared.limits.TheConstants.{MAX_TIMEOUTS, PIECE_SIZE}
use Rattle.cluster_model.specs.declared.ids.MirrorId.{MirrorId}
use Rattle.cluster_model.specs.declared.ids.Mirror.{Mirror}
use Rattle.cluster_model.specs.declared.phase.LeftCause.{LeftCause}
use Rattle.cluster_model.specs.declared.phase.LeftCause.TheVariants.{Error, Timeouts}
use Rattle.cluster_model.specs.declared.call_stage.CallStage.{CallStage}
use Rattle.cluster_model.specs.declared.call_stage.CallStage.TheVariants.{Waits, Out, KeptOut, KeptBack, Done, GivenUp}
use Rattle.cluster_model.specs.DsCalls.{Read, DsReplyValue, Created, Set, Written, Committed, Bytes, NotSync, Failed}
use Rattle.cluster_model.specs.Fences.{waits, is_out, is_over, odd_status}
use Rattle.copy_rule.specs.declared.copy_target.Target.{Target}
use Rattle.copy_rule.specs.declared.copy_target.CopyTarget.{CopyTarget}
use Rattle.copy_rule.specs.declared.copy_target.CopyStep.{CopyStep}
use Rattle.copy_rule.specs.declared.copy_target.CopyStep.TheVariants.{Stranger, Waiting, SourceFailed, TargetFailed, Done as AllHold}
use Rattle.copy_rule.specs.Copies.{CopyState, CopyCall, CopyAfter, TargetStep, with_target, with_read, with_piece, may_read_on, has_outcome, step_told, copy_then, at_stage, target_call, target_caller, target_call_at, call_from, waiting_at, next_call, target_of, target_answered, target_late, target_fails, goes_on_with, read_answered, read_late, is_long, source_fails, stranger, stepped, step_at, step_from, by_read, on_reply, on_timeout}
use Rattle.resilver.specs.Calls.{caller_of}
use Rattle.resilver.specs.CopyLaws.{CopyMove, CopyNote, IsQuiet, copy_run}
use Rattle.resilver.proofs.Lists.{apart, all_at, found_at, waits_not_over}
use Rattle.resilver.proofs.Turns.{Turn, turn_run}

-- it tells of no source
NotSource : CopyStep → Type 0
NotSource step = (cause : LeftCause) → step ≡ SourceFailed cause → ⊥

told_so : (c : CopyState) (step : CopyStep) → NotSource step → NotSource (step_told c step)
unfolding NotSource
told_so c Waiting other = by_end (has_outcome c)
  where
    by_end : (b : Bool) → NotSource (cond b AllHold Waiting)
    by_end true cause is = absurd (cc (is))
    by_end false cause is = absurd (cc (is))
told_so c Stranger other = other
told_so c (SourceFailed cause) other = other
told_so c (TargetFailed server replaced cause) other = other
told_so c AllHold other = other

not_waiting : NotSource Waiting
unfolding NotSource
not_waiting cause is = absurd (cc (is))

not_stranger : NotSource Stranger
unfolding NotSource
not_stranger cause is = absurd (cc (is))

not_target : (t : CopyTarget) (cause : LeftCause) → NotSource (target_fails t cause).step
unfolding NotSource
not_target t cause other is = absurd (cc (is))

answer_tells : (t : CopyTarget) (reply : DsReplyValue) (made : Option Mirror) → NotSource (target_answered t reply made).step
answer_tells t (Created fileid shown) None = not_waiting
answer_tells t (Set shown) None = not_target t (Error odd_status)
answer_tells t (Written shown verifier) None = not_target t (Error odd_status)
answer_tells t (Committed shown verifier) None = not_target t (Error odd_status)
answer_tells t (Bytes shown eof bytes) None = not_target t (Error odd_status)
answer_tells t (NotSync shown) None = not_target t (Error odd_status)
answer_tells t (Failed status shown) None = not_target t (Error status)
answer_tells t (Created fileid shown) (Some m) = not_target t (Error odd_status)
answer_tells t (Set shown) (Some m) = not_target t (Error odd_status)
answer_tells t (Written shown verifier) (Some m) = not_waiting
answer_tells t (Committed shown verifier) (Some m) = not_target t (Error odd_status)
answer_tells t (Bytes shown eof bytes) (Some m) = not_target t (Error odd_status)
answer_tells t (NotSync shown) (Some m) = not_target t (Error odd_status)
answer_tells t (Failed status shown) (Some m) = not_target t (Error status)

timeout_tells : (t : CopyTarget) (s : CallStage) → NotSource (target_late t s).step
timeout_tells t (Out xid n) = by_count (nat_lt (n + 1) MAX_TIMEOUTS)
  where
    by_count : (b : Bool) → NotSource (cond {A = TargetStep} b (goes_on_with (at_stage t (Out xid (n + 1)))) (target_fails t Timeouts)).step
    by_count true = not_waiting
    by_count false = not_target t Timeouts
timeout_tells t Waits = not_waiting
timeout_tells t (KeptOut xid) = not_waiting
timeout_tells t KeptBack = not_waiting
timeout_tells t Done = not_waiting
timeout_tells t GivenUp = not_waiting

silent : (a : CopyAfter) → NotSource a.step → IsQuiet a
unfolding NotSource
silent a other = λ cause is xid. absurd (other cause is)

quiet_from : (c : CopyState) (step : CopyTarget → TargetStep) (reads : CopyAfter) → ((t : CopyTarget) → NotSource (step t).step) → IsQuiet reads → (o : Option ℕ) → IsQuiet (step_from c step reads o)
quiet_from c step reads other quiet None = quiet
quiet_from c step reads other quiet (Some place) = by_target (slice_get c.targets place)
  where
    by_target : (o : Option CopyTarget) → IsQuiet (step_at c step place o)
    by_target None = silent (stranger c) not_stranger
    by_target (Some t) = silent (stepped c place (step t)) (told_so (with_target c place (step t).target) (step t).step (other t))

-- where every target has answered none waits
pub none_waits : (targets : List CopyTarget) → list_all (λ t. is_over t.stage) targets ≡ true → position (λ t. waits t.stage) targets ≡ None
none_waits targets all = by_found (position (λ t. waits t.stage) targets) refl
  where
    by_found : (o : Option ℕ) → position (λ t. waits t.stage) targets ≡ o → o ≡ None
    by_found None is = refl
    by_found (Some place) is =
        let found = found_at (λ t. waits t.stage) targets place is in
        absurd (apart (is_over found.0.stage) (all_at (λ t. is_over t.stage) targets place found.0 all found.1) (waits_not_over found.0.stage found.2))

module _ (c : CopyState) (notes : List CopyNote) (turn : Turn c notes) (xid : ℕ) where
  kept_quiet : (stage : CallStage) (cause : LeftCause) → is_out xid c.read ≡ true → waits stage ≡ false → IsQuiet (source_fails c stage cause)
  kept_quiet stage cause out kept = λ other is x.
      ap (call_from (with_read c stage) x) (none_waits c.targets (turn.asked xid out))
      ∙ ap (λ (b : Bool). cond {A = Option CopyCall} (b && may_read_on c) (Some (record { copy = with_read (with_read c stage) (Out x 0); server = c.source.server; uid = 0; call = Read c.source.fileid c.at PIECE_SIZE })) None) kept

  quiet_read : (reply : DsReplyValue) → is_out xid c.read ≡ true → IsQuiet (read_answered c reply)
  quiet_read (Bytes shown eof bytes) out =
      cond_both (is_long c bytes) (source_fails c KeptBack (Error odd_status)) (copy_then (with_piece c eof bytes) Waiting) (λ (a : CopyAfter). IsQuiet a)
      (λ is. kept_quiet KeptBack (Error odd_status) out refl) (λ is. silent (copy_then (with_piece c eof bytes) Waiting) (told_so (with_piece c eof bytes) Waiting not_waiting))
  quiet_read (Created fileid shown) out = kept_quiet KeptBack (Error odd_status) out refl
  quiet_read (Set shown) out = kept_quiet KeptBack (Error odd_status) out refl
  quiet_read (Written shown verifier) out = kept_quiet KeptBack (Error odd_status) out refl
  quiet_read (Committed shown verifier) out = kept_quiet KeptBack (Error odd_status) out refl
  quiet_read (NotSync shown) out = kept_quiet KeptBack (Error odd_status) out refl
  quiet_read (Failed status shown) out = kept_quiet KeptBack (Error status) out refl

  quiet_late : (s : CallStage) → is_out xid c.read ≡ true → IsQuiet (read_late c s)
  quiet_late (Out own n) out =
      cond_both (nat_lt (n + 1) MAX_TIMEOUTS) (record { copy = with_read c (Out own (n + 1)); step = Waiting }) (source_fails c (KeptOut own) Timeouts) (λ (a : CopyAfter). IsQuiet a)
      (λ is. silent (record { copy = with_read c (Out own (n + 1)); step = Waiting }) not_waiting) (λ is. kept_quiet (KeptOut own) Timeouts out refl)
  quiet_late (KeptOut own) out = silent (record { copy = c; step = Waiting }) not_waiting
  quiet_late Waits out = silent (stranger c) not_stranger
  quiet_late KeptBack out = silent (stranger c) not_stranger
  quiet_late Done out = silent (stranger c) not_stranger
  quiet_late GivenUp out = silent (stranger c) not_stranger

  reply_quiet : (reply : DsReplyValue) → IsQuiet (on_reply c xid reply)
  reply_quiet reply =
      quiet_from c (λ t. target_answered t reply t.made) (by_read c xid (read_answered c reply)) (λ t. answer_tells t reply t.made)
      (cond_both (is_out xid c.read) (read_answered c reply) (stranger c) (λ (a : CopyAfter). IsQuiet a) (λ out. quiet_read reply out) (λ away. silent (stranger c) not_stranger)) (target_of c xid)

  timeout_quiet : IsQuiet (on_timeout c xid)
  timeout_quiet =
      quiet_from c (λ t. target_late t t.stage) (by_read c xid (read_late c c.read)) (λ t. timeout_tells t t.stage)
      (cond_both (is_out xid c.read) (read_late c c.read) (stranger c) (λ (a : CopyAfter). IsQuiet a) (λ out. quiet_late c.read out) (λ away. silent (stranger c) not_stranger)) (target_of c xid)

pub quiet_reply : (source : MirrorId) (plan : List Target) (copier : ℕ) (moves : List CopyMove) (xid : ℕ) (reply : DsReplyValue) → IsQuiet (on_reply (copy_run source plan copier moves).copy xid reply)
quiet_reply source plan copier moves xid reply = reply_quiet _ _ (turn_run source plan copier moves) xid reply

pub quiet_timeout : (source : MirrorId) (plan : List Target) (copier : ℕ) (moves : List CopyMove) (xid : ℕ) → IsQuiet (on_timeout (copy_run source plan copier moves).copy xid)
quiet_timeout source plan copier moves xid = timeout_quiet _ _ (turn_run source plan copier moves) xid

-- ---- who calls

called_by : (copier at : ℕ) (piece : List ℕ) (name : ℕ) (made : Option Mirror) → target_caller copier made ≡ caller_of copier (target_call copier at piece name made)
called_by copier at piece name None = refl
called_by copier at piece name (Some m) = refl

pub callers : (c : CopyState) (xid : ℕ) (call : CopyCall) → next_call c xid ≡ Some call → call.uid ≡ caller_of c.copier call.call
callers c xid call is = by_place (waiting_at c) is
  where
    by_target : (place : ℕ) (o : Option CopyTarget) → target_call_at c xid place o ≡ Some call → call.uid ≡ caller_of c.copier call.call
    by_target place None is = absurd (none-some call is)
    by_target place (Some t) is = subst (λ (k : CopyCall). k.uid ≡ caller_of c.copier k.call) (same_Some _ call is) (called_by c.copier c.at c.piece t.name t.made)

    by_test : (b : Bool) → cond {A = Option CopyCall} b (Some (record { copy = with_read c (Out xid 0); server = c.source.server; uid = 0; call = Read c.source.fileid c.at PIECE_SIZE })) None ≡ Some call → call.uid ≡ caller_of c.copier call.call
    by_test true is = subst (λ (k : CopyCall). k.uid ≡ caller_of c.copier k.call) (same_Some _ call is) refl
    by_test false is = absurd (none-some call is)

    by_place : (o : Option ℕ) → call_from c xid o ≡ Some call → call.uid ≡ caller_of c.copier call.call
    by_place None is = by_test (waits c.read && may_read_on c) is
    by_place (Some place) is = by_target place (slice_get c.targets place) is
