-- While the READ of a copy is out, no call to a target of it is.
use Rattle.std.proofs.Common.{◌≡◌, ◌⊎◌, inl, inr, ℕ, zero, suc, ◌+◌, Bool, true, false, cond, List, [], ◌∷◌, Option, Some, None, refl, sym, ap, subst, ◌∙◌}
use Rattle.std.specs.Prelude.{◌==◌, ◌&&◌, not, nat_lt, length, slice_get, position, if◌then◌else◌}
use Rattle.std.specs.List.{list_all}
use Rattle.std.proofs.lemmas.Bool.{cond_both, and_parts}
use Rattle.std.proofs.lemmas.Option.{none-some, same_Some}
use Rattle.cluster_model.specs.declared.limits.TheConstants.{MAX_TIMEOUTS}
use Rattle.cluster_model.specs.declared.ids.NodeId.{NodeId}
use Rattle.cluster_model.specs.declared.ids.NodeId.TheVariants.{Mds, Server, Client}
use Rattle.cluster_model.specs.declared.ids.FileId.{FileId}
use Rattle.cluster_model.specs.declared.ids.Cred.{Cred}
use Rattle.cluster_model.specs.declared.ids.Mirror.{Mirror}
use Rattle.cluster_model.specs.declared.ids.MirrorId.{MirrorId}
use Rattle.cluster_model.specs.declared.phase.EndCause.{EndCause}
use Rattle.cluster_model.specs.declared.phase.LeftCause.{LeftCause}
use Rattle.cluster_model.specs.declared.phase.LeftCause.TheVariants.{Error, Timeouts}
use Rattle.cluster_model.specs.declared.call_stage.CallStage.{CallStage}
use Rattle.cluster_model.specs.declared.call_stage.CallStage.TheVariants.{Waits, Out, KeptOut, KeptBack, Done, GivenUp}
use Rattle.cluster_model.specs.declared.entry.Entry.{Entry}
use Rattle.cluster_model.specs.declared.entry.Entry.TheVariants as entry
use Rattle.cluster_model.specs.declared.fence_mirror.FenceStep.{FenceStep}
use Rattle.cluster_model.specs.declared.fence_mirror.FenceStep.TheVariants.{Stranger, Acked, Again, Failed as HasFailed}
use Rattle.cluster_model.specs.declared.layout_state.LayoutState.{LayoutState}
use Rattle.cluster_model.specs.declared.layout_state.LayoutPhase.{LayoutPhase}
use Rattle.cluster_model.specs.declared.layout_state.LayoutPhase.TheVariants.{Making, Free, Held, Fencing, Settling, Copying}
use Rattle.cluster_model.specs.declared.layout_state.CopyKind.{CopyKind}
use Rattle.cluster_model.specs.declared.targets.SwappedIn.{SwappedIn}
use Rattle.cluster_model.specs.DsCalls.{DsReplyValue, Created, Set, Written, Committed, Bytes, NotSync, Failed}
use Rattle.cluster_model.specs.Fences.{waits, is_out, is_over, odd_status, stage_at_tick, FenceState, FenceCall, next_call, outstanding_at, on_reply, on_timeout, without, is_done}
use Rattle.cluster_model.specs.Phases.{is_last_live, with_phase, is_clean, PhaseStep, freed, made, granted, recalled, returned, revoked, mirror_left, after_fence, fence_done, has_targets, resilvered}
use Rattle.copy_rule.specs.declared.copy_target.CopyTarget.{CopyTarget}
use Rattle.copy_rule.specs.declared.copy_target.CopyStep.{CopyStep}
use Rattle.copy_rule.specs.declared.copy_target.CopyStep.TheVariants as copy_step
use Rattle.copy_rule.specs.Copies.{CopyState, CopyAfter, CopyCall, TargetStep, have_answered, may_read_on, has_outcome, swaps_of, target_call_at, with_target, with_read, with_piece, with_next, copy_then, stranger, source_fails, is_long, read_answered, read_late, target_of, target_answered, target_late, by_read}
use Rattle.copy_rule.specs.Copies as copy
use Rattle.copy_rule.proofs.ReadOn.{answered_of}
use Rattle.file_rule.specs.declared.creation.Creation.{Creation}
use Rattle.file_rule.specs.declared.fresh.Fresh.{Fresh}
use Rattle.file_rule.specs.MdsFiles.{Creations, Activity, Idle, Makes, Fences, Settles, Copies, MdsFile, FileStep, nothing, stays, a_uid, goes_idle, goes_fencing, begun_by, goes_on, with_entries, fenced_on, fence_stepped, shown_by_set, seen_by, mirror_at, with_creation, creation_of, creation_answered, creation_timed_out, all_made, making_on, making_at, making_by, plan_of, copying, settled, source_left, shown_by_commit, seen_at_source, settling_answered, settling_timed_out, copied_by, copied_on, target_left, copy_stepped}
use Rattle.file_rule.specs.FilePhases.{FileInput, AsksLayout, OwnWrite, Recall, Returns, Revokes, OwnEnds, Resilver, Answers, TimesOut, Ticks, Sees, are_spent, asked_in, held_in, by_client, by_mds, recalled_row, returned_row, revoked_row, own_row, resilvered_in, kind_of, settles_by, answered_in, timed_out_in, ticked, phase, CallOut, creation_waiting, create_out_at, create_out, fence_out, settle_out, copy_out, call_out_of, call_out}
use Rattle.standing_calls.proofs.Spots.{not_both}
use Rattle.standing_calls.proofs.OwnSpots.{number_of}
use Rattle.mds_quiet.proofs.OwnCalls.{FoundOff, found_off}

-- no READ of the copy is out, or each target that is left has answered
abbrev pub TurnsOf : CopyState → Type 0
TurnsOf c = (number_of c.read ≡ None) ⊎ (have_answered c ≡ true)

abbrev pub TakesTurns : Activity → Type 0
TakesTurns Idle = Unit {0}
TakesTurns (Makes all) = Unit {0}
TakesTurns (Fences x) = Unit {0}
TakesTurns (Settles stage) = Unit {0}
TakesTurns (Copies c) = TurnsOf c

abbrev StepTurns : FileStep → Type 0
StepTurns x = TakesTurns x.file.activity

-- ---- stages

out_not_over : (xid : ℕ) (stage : CallStage) → is_out xid stage ≡ true → is_over stage ≡ false
out_not_over xid Waits is = refl
out_not_over xid (Out own timeouts) is = refl
out_not_over xid (KeptOut own) is = refl
out_not_over xid KeptBack is = refl
out_not_over xid Done is = absurd cc
out_not_over xid GivenUp is = absurd cc

waits_not_over : (stage : CallStage) → waits stage ≡ true → is_over stage ≡ false
waits_not_over Waits is = refl
waits_not_over (Out own timeouts) is = refl
waits_not_over (KeptOut own) is = refl
waits_not_over KeptBack is = refl
waits_not_over Done is = absurd cc
waits_not_over GivenUp is = absurd cc

tick_none : (stage : CallStage) → number_of stage ≡ None → number_of (stage_at_tick stage) ≡ None
tick_none Waits none = refl
tick_none (Out own timeouts) none = absurd (none-some own (sym none))
tick_none (KeptOut own) none = absurd (none-some own (sym none))
tick_none KeptBack none = refl
tick_none Done none = refl
tick_none GivenUp none = refl

-- ---- lists

all_there : {A : Type 0} (p : A → Bool) (xs : List A) (i : ℕ) (x : A) → list_all p xs ≡ true → slice_get xs i ≡ Some x → p x ≡ true
all_there p [] i x all at = absurd (none-some x at)
all_there p (y ∷ xs) zero x all at = ap p (sym (same_Some y x at)) ∙ (and_parts (p y) (list_all p xs) all).0
all_there p (y ∷ xs) (suc i) x all at = all_there p xs i x (and_parts (p y) (list_all p xs) all).1 at

-- where one has a call to make, or out, not all have answered
not_answered : (c : CopyState) (test : CopyTarget → Bool) → ((t : CopyTarget) → test t ≡ true → is_over t.stage ≡ false) → (place : ℕ) → position test c.targets ≡ Some place → have_answered c ≡ true → ⊥
not_answered c test off place is answered =
    let k : FoundOff test c.targets place = found_off test c.targets place is in
    not_both (sym (all_there (λ (t : CopyTarget). is_over t.stage) c.targets place k.x answered k.at) ∙ off k.x k.passes)

none_read : (c : CopyState) (test : CopyTarget → Bool) → ((t : CopyTarget) → test t ≡ true → is_over t.stage ≡ false) → (place : ℕ) → position test c.targets ≡ Some place → TurnsOf c → number_of c.read ≡ None
none_read c test off place is (inl none) = none
none_read c test off place is (inr answered) = absurd (not_answered c test off place is answered)

-- ---- what an answer or a timeout leaves of a copy

then_turns : (c : CopyState) (s : CopyStep) → TurnsOf c → TurnsOf (copy_then c s).copy
then_turns c s its = cond_both (is_over c.read && not c.ended && have_answered c) (with_next c) c (λ (x : CopyState). TurnsOf x) (λ on. inl refl) (λ off. its)

module _ (c : CopyState) (its : TurnsOf c) where
  abbrev AfterTurns : CopyAfter → Type 0
  AfterTurns a = TurnsOf a.copy

  read_turns : (reply : DsReplyValue) → AfterTurns (read_answered c reply)
  read_turns (Created fileid shown) = inl refl
  read_turns (Set shown) = inl refl
  read_turns (Written shown verifier) = inl refl
  read_turns (Committed shown verifier) = inl refl
  read_turns (Bytes shown eof bytes) =
      cond_both (is_long c bytes) (source_fails c KeptBack (Error odd_status)) (copy_then (with_piece c eof bytes) copy_step.Waiting) AfterTurns (λ is. inl refl) (λ off. then_turns (with_piece c eof bytes) copy_step.Waiting (inl refl))
  read_turns (NotSync shown) = inl refl
  read_turns (Failed status shown) = inl refl

  -- where the READ is out
  out_answered : (xid : ℕ) → number_of c.read ≡ Some xid → have_answered c ≡ true
  out_answered xid out = by_case its
    where
      by_case : TurnsOf c → have_answered c ≡ true
      by_case (inl none) = absurd (none-some xid (sym none ∙ out))
      by_case (inr answered) = answered

  read_late_turns : (stage : CallStage) → c.read ≡ stage → AfterTurns (read_late c stage)
  read_late_turns Waits is = its
  read_late_turns (Out xid timeouts) is =
      cond_both (nat_lt (timeouts + 1) MAX_TIMEOUTS) (record { copy = with_read c (Out xid (timeouts + 1)); step = copy_step.Waiting }) (source_fails c (KeptOut xid) Timeouts) AfterTurns
      (λ again. inr (out_answered xid (ap number_of is))) (λ over. inr (out_answered xid (ap number_of is)))
  read_late_turns (KeptOut xid) is = its
  read_late_turns KeptBack is = its
  read_late_turns Done is = its
  read_late_turns GivenUp is = its

  by_turns : (xid : ℕ) (reads : CopyAfter) → AfterTurns reads → AfterTurns (by_read c xid reads)
  by_turns xid reads is = cond_both (is_out xid c.read) reads (stranger c) AfterTurns (λ out. is) (λ off. its)

  found_turns : (xid : ℕ) (step : CopyTarget → TargetStep) (place : ℕ) → target_of c xid ≡ Some place → (o : Option CopyTarget) → AfterTurns (copy.step_at c step place o)
  found_turns xid step place is None = its
  found_turns xid step place is (Some t) =
      then_turns (with_target c place (step t).target) (step t).step (inl (none_read c (λ (x : CopyTarget). is_out xid x.stage) (λ x out. out_not_over xid x.stage out) place is its))

  from_turns : (xid : ℕ) (step : CopyTarget → TargetStep) (reads : CopyAfter) → AfterTurns reads → (o : Option ℕ) → target_of c xid ≡ o → AfterTurns (copy.step_from c step reads o)
  from_turns xid step reads so None is = so
  from_turns xid step reads so (Some place) is = found_turns xid step place is (slice_get c.targets place)

  reply_turns : (xid : ℕ) (reply : DsReplyValue) → TurnsOf (copy.on_reply c xid reply).copy
  reply_turns xid reply = from_turns xid (λ t. target_answered t reply t.made) (by_read c xid (read_answered c reply)) (by_turns xid (read_answered c reply) (read_turns reply)) (target_of c xid) refl

  timeout_turns : (xid : ℕ) → TurnsOf (copy.on_timeout c xid).copy
  timeout_turns xid = from_turns xid (λ t. target_late t t.stage) (by_read c xid (read_late c c.read)) (by_turns xid (read_late c c.read) (read_late_turns c.read refl)) (target_of c xid) refl

  tick_turns : TurnsOf (copy.after_tick c)
  tick_turns = by_case its
    where
      by_case : TurnsOf c → TurnsOf (copy.after_tick c)
      by_case (inl none) = inl (tick_none c.read none)
      by_case (inr answered) = inr answered

-- ---- the table

begun_turns : (p : LayoutPhase) → TakesTurns (begun_by p)
begun_turns Making = tt
begun_turns Free = tt
begun_turns (Held holder recalled) = tt
begun_turns (Fencing next end) = tt
begun_turns (Settling copies) = tt
begun_turns (Copying copier copies) = tt

ticked_turns : (a : Activity) → TakesTurns a → TakesTurns (ticked a)
ticked_turns Idle its = tt
ticked_turns (Makes all) its = tt
ticked_turns (Fences x) its = tt
ticked_turns (Settles stage) its = tt
ticked_turns (Copies c) its = tick_turns c its

module _ (file : FileId) (fresh : Fresh) where
  asked_turns : (f : MdsFile) (holder : NodeId) (entries : List Entry) (p : LayoutPhase) → TakesTurns f.activity → StepTurns (asked_in file f holder entries fresh p)
  asked_turns f holder entries Making i = i
  asked_turns f holder entries Free i =
      cond_both (are_spent fresh) (nothing f)
      (with_entries (granted file f.layout holder).entries (record { file = record { layout = (granted file f.layout holder).file; activity = f.activity }; entries = entries; uids = 0; names = 0 })) StepTurns (λ is. i) (λ off. i)
  asked_turns f holder entries (Held other recalled) i = i
  asked_turns f holder entries (Fencing next end) i = i
  asked_turns f holder entries (Settling copies) i = i
  asked_turns f holder entries (Copying copier copies) i = i

  held_turns : (f : MdsFile) (row : NodeId → FileStep) (p : LayoutPhase) → ((holder : NodeId) → StepTurns (row holder)) → TakesTurns f.activity → StepTurns (held_in f row p)
  held_turns f row Making all i = i
  held_turns f row Free all i = i
  held_turns f row (Held holder recalled) all i = all holder
  held_turns f row (Fencing next end) all i = i
  held_turns f row (Settling copies) all i = i
  held_turns f row (Copying copier copies) all i = i

  client_turns : (f : MdsFile) (row : ℕ → FileStep) → ((n : ℕ) → StepTurns (row n)) → TakesTurns f.activity → (holder : NodeId) → StepTurns (by_client f row holder)
  client_turns f row all i Mds = i
  client_turns f row all i (Server n) = i
  client_turns f row all i (Client n) = all n

  mds_turns : (f : MdsFile) (row : FileStep) → StepTurns row → TakesTurns f.activity → (holder : NodeId) → StepTurns (by_mds f row holder)
  mds_turns f row its i Mds = its
  mds_turns f row its i (Server n) = i
  mds_turns f row its i (Client n) = i

  returned_turns : (f : MdsFile) (client : ℕ) (claimed : Cred) (places : List Bool) (holder : ℕ) → TakesTurns f.activity → StepTurns (returned_row file f client claimed places fresh holder)
  returned_turns f client claimed places holder i =
      cond_both (holder == client && (f.layout.cred.0 == claimed.0)) (goes_fencing (returned file f.layout places (a_uid fresh.uid)) fresh.uid) (nothing f) StepTurns (λ is. tt) (λ off. i)

  revoked_turns : (f : MdsFile) (cause : EndCause) → TakesTurns f.activity → StepTurns (revoked_row file f cause fresh)
  revoked_turns f cause i = cond_both (is_clean cause) (nothing f) (goes_fencing (revoked file f.layout cause (a_uid fresh.uid)) fresh.uid) StepTurns (λ is. i) (λ off. tt)

  resilver_turns : (f : MdsFile) (p : LayoutPhase) → TakesTurns f.activity → StepTurns (resilvered_in f fresh p)
  resilver_turns f Making i = i
  resilver_turns f Free i = cond_both (nat_lt (length f.layout.live) f.layout.wanted && (if are_spent fresh then false else true)) (stays (resilvered f.layout) (Settles Waits)) (nothing f) StepTurns (λ is. tt) (λ off. i)
  resilver_turns f (Held holder recalled) i = i
  resilver_turns f (Fencing next end) i = i
  resilver_turns f (Settling copies) i = i
  resilver_turns f (Copying copier copies) i = i

  -- ---- CREATEs

  on_turns : (layout : LayoutState) (all : Creations) → StepTurns (making_on file layout all)
  on_turns layout all = cond_both (list_all (λ (c : Creation). is_over c.stage) all.items) (goes_idle (made file layout (all_made all)) 0) (stays layout (Makes all)) StepTurns (λ is. tt) (λ off. tt)

  making_at_turns : (layout : LayoutState) (all : Creations) (step : Creation → Creation) (place : ℕ) (o : Option Creation) → StepTurns (making_at file layout all step place o)
  making_at_turns layout all step place None = tt
  making_at_turns layout all step place (Some c) = on_turns layout (with_creation all place (step c))

  making_turns : (layout : LayoutState) (all : Creations) (step : Creation → Creation) (o : Option ℕ) → StepTurns (making_by file layout all step o)
  making_turns layout all step None = tt
  making_turns layout all step (Some place) = making_at_turns layout all step place (slice_get all.items place)

  -- ---- a fence

  fenced_on_turns : (layout : LayoutState) (f : FenceState) → StepTurns (fenced_on file layout f)
  fenced_on_turns layout f = cond_both (is_done f) (goes_on (fence_done file layout)) (stays layout (Fences f)) StepTurns (λ is. begun_turns (after_fence layout).phase) (λ off. tt)

  fence_turns : (layout : LayoutState) (f : FenceState) (s : FenceStep) → StepTurns (fence_stepped file layout f s)
  fence_turns layout f Stranger = tt
  fence_turns layout f Acked = fenced_on_turns layout f
  fence_turns layout f Again = tt
  fence_turns layout f (HasFailed id cause) =
      cond_both (is_last_live layout.live) (stays layout (Fences f)) (with_entries (mirror_left file layout id cause).entries (fenced_on file (mirror_left file layout id cause).file (without f id))) StepTurns
      (λ is. tt) (λ off. fenced_on_turns (mirror_left file layout id cause).file (without f id))

  -- ---- the COMMIT of a source

  leaves_turns : (layout : LayoutState) (live : List Mirror) (cause : LeftCause) (under_way : Activity) → TakesTurns under_way → StepTurns (source_left file layout live cause under_way)
  leaves_turns layout [] cause under_way its = its
  leaves_turns layout (m ∷ live) cause under_way its =
      cond_both (is_last_live layout.live) (stays layout under_way)
      (record { file = record { layout = (mirror_left file layout m.id cause).file; activity = Settles Waits }; entries = (mirror_left file layout m.id cause).entries; uids = 0; names = 0 }) StepTurns (λ is. its) (λ off. tt)

  commit_turns : (layout : LayoutState) (copies : CopyKind) → StepTurns (settled file layout copies fresh)
  commit_turns layout copies = by_targets (has_targets copies (length layout.live) layout.wanted)
    where
      by_targets : (b : Bool) → StepTurns (cond {A = FileStep} b
          (copying (cond {A = PhaseStep} b (record { file = with_phase layout (Copying (a_uid fresh.uid) copies); entries = [] }) (freed file layout)).file fresh (plan_of copies layout fresh))
          (goes_idle (cond {A = PhaseStep} b (record { file = with_phase layout (Copying (a_uid fresh.uid) copies); entries = [] }) (freed file layout)) 0))
      by_targets true = inl refl
      by_targets false = tt

  settling_turns : (layout : LayoutState) (copies : CopyKind) (reply : DsReplyValue) → StepTurns (settling_answered file layout copies fresh reply)
  settling_turns layout copies (Created fileid shown) = leaves_turns layout layout.live (Error odd_status) (Settles KeptBack) tt
  settling_turns layout copies (Set shown) = leaves_turns layout layout.live (Error odd_status) (Settles KeptBack) tt
  settling_turns layout copies (Written shown verifier) = leaves_turns layout layout.live (Error odd_status) (Settles KeptBack) tt
  settling_turns layout copies (Committed shown verifier) = commit_turns layout copies
  settling_turns layout copies (Bytes shown eof bytes) = leaves_turns layout layout.live (Error odd_status) (Settles KeptBack) tt
  settling_turns layout copies (NotSync shown) = leaves_turns layout layout.live (Error odd_status) (Settles KeptBack) tt
  settling_turns layout copies (Failed status shown) = leaves_turns layout layout.live (Error status) (Settles KeptBack) tt

  settling_late_turns : (layout : LayoutState) (s : CallStage) → StepTurns (settling_timed_out file layout s)
  settling_late_turns layout Waits = tt
  settling_late_turns layout (Out xid timeouts) =
      cond_both (nat_lt (timeouts + 1) MAX_TIMEOUTS) (stays layout (Settles (Out xid (timeouts + 1)))) (source_left file layout layout.live Timeouts (Settles (KeptOut xid))) StepTurns (λ is. tt)
      (λ off. leaves_turns layout layout.live Timeouts (Settles (KeptOut xid)) tt)
  settling_late_turns layout (KeptOut xid) = tt
  settling_late_turns layout KeptBack = tt
  settling_late_turns layout Done = tt
  settling_late_turns layout GivenUp = tt

  settles_turns : (f : MdsFile) (row : CopyKind → FileStep) (o : Option CopyKind) → ((copies : CopyKind) → StepTurns (row copies)) → TakesTurns f.activity → StepTurns (settles_by f row o)
  settles_turns f row None all i = i
  settles_turns f row (Some copies) all i = all copies

  -- ---- a copy

  copied_by_turns : (layout : LayoutState) (copier : Cred) (targets : List SwappedIn) → StepTurns (copied_by file layout copier targets fresh)
  copied_by_turns layout copier [] = tt
  copied_by_turns layout copier (t ∷ targets) = tt

  copied_turns : (layout : LayoutState) (c : CopyState) → TurnsOf c → StepTurns (copied_on file layout c fresh)
  copied_turns layout c its = cond_both (has_outcome c) (copied_by file layout (a_uid c.copier) (swaps_of c) fresh) (stays layout (Copies c)) StepTurns (λ is. copied_by_turns layout (a_uid c.copier) (swaps_of c)) (λ off. its)

  target_turns : (layout : LayoutState) (c : CopyState) (cause : LeftCause) (o : Option MirrorId) → TurnsOf c → StepTurns (target_left file layout c fresh cause o)
  target_turns layout c cause None its = copied_turns layout c its
  target_turns layout c cause (Some id) its = copied_turns (mirror_left file layout id cause).file c its

  copy_turns : (layout : LayoutState) (c : CopyState) (s : CopyStep) → TurnsOf c → StepTurns (copy_stepped file layout c fresh s)
  copy_turns layout c copy_step.Stranger its = its
  copy_turns layout c copy_step.Waiting its = its
  copy_turns layout c (copy_step.SourceFailed cause) its = leaves_turns layout layout.live cause (Copies c) its
  copy_turns layout c (copy_step.TargetFailed server replaced cause) its = target_turns layout c cause replaced its
  copy_turns layout c copy_step.Done its = copied_turns layout c its

  -- ---- answers and timeouts

  answered_turns : (f : MdsFile) (xid : ℕ) (reply : DsReplyValue) (a : Activity) → TakesTurns a → TakesTurns f.activity → StepTurns (answered_in file f xid reply fresh a)
  answered_turns f xid reply Idle its i = i
  answered_turns f xid reply (Makes all) its i = making_turns f.layout all (λ c. creation_answered all c reply) (creation_of all xid)
  answered_turns f xid reply (Fences x) its i = fence_turns (seen_by f.layout (mirror_at x (outstanding_at x xid)) (shown_by_set reply)) (on_reply x xid reply).fence (on_reply x xid reply).step
  answered_turns f xid reply (Settles stage) its i =
      let layout : LayoutState = seen_at_source f.layout f.layout.live (shown_by_commit reply) in
      cond_both (is_out xid stage) (settles_by f (λ copies. settling_answered file layout copies fresh reply) (kind_of f.layout.phase)) (nothing f) StepTurns
      (λ is. settles_turns f (λ copies. settling_answered file layout copies fresh reply) (kind_of f.layout.phase) (λ copies. settling_turns layout copies reply) i) (λ off. i)
  answered_turns f xid reply (Copies c) its i = copy_turns f.layout (copy.on_reply c xid reply).copy (copy.on_reply c xid reply).step (reply_turns c its xid reply)

  late_turns : (f : MdsFile) (xid : ℕ) (a : Activity) → TakesTurns a → TakesTurns f.activity → StepTurns (timed_out_in file f xid fresh a)
  late_turns f xid Idle its i = i
  late_turns f xid (Makes all) its i = making_turns f.layout all (creation_timed_out all) (creation_of all xid)
  late_turns f xid (Fences x) its i = fence_turns f.layout (on_timeout x xid).fence (on_timeout x xid).step
  late_turns f xid (Settles stage) its i = cond_both (is_out xid stage) (settling_timed_out file f.layout stage) (nothing f) StepTurns (λ is. settling_late_turns f.layout stage) (λ off. i)
  late_turns f xid (Copies c) its i = copy_turns f.layout (copy.on_timeout c xid).copy (copy.on_timeout c xid).step (timeout_turns c its xid)

  pub phase_turns : (f : MdsFile) (input : FileInput) → TakesTurns f.activity → TakesTurns (phase file f input fresh).file.activity
  phase_turns f (AsksLayout client) i = asked_turns f (Client client) [] f.layout.phase i
  phase_turns f (OwnWrite at bytes) i = asked_turns f Mds (entry.Sent file f.layout.cred at bytes ∷ []) f.layout.phase i
  phase_turns f Recall i = held_turns f (by_client f (recalled_row f)) f.layout.phase (client_turns f (recalled_row f) (λ n. i) i) i
  phase_turns f (Returns client claimed places) i =
      held_turns f (by_client f (returned_row file f client claimed places fresh)) f.layout.phase (client_turns f (returned_row file f client claimed places fresh) (λ n. returned_turns f client claimed places n i) i) i
  phase_turns f (Revokes cause) i = held_turns f (by_client f (λ client. revoked_row file f cause fresh)) f.layout.phase (client_turns f (λ client. revoked_row file f cause fresh) (λ n. revoked_turns f cause i) i) i
  phase_turns f (OwnEnds causes at bytes) i =
      let told : Entry = entry.Told file f.layout.cred at bytes in
      held_turns f (by_mds f (own_row file f causes told fresh)) f.layout.phase (mds_turns f (own_row file f causes told fresh) tt i) i
  phase_turns f Resilver i = resilver_turns f f.layout.phase i
  phase_turns f (Answers xid reply) i = answered_turns f xid reply f.activity i i
  phase_turns f (TimesOut xid) i = late_turns f xid f.activity i i
  phase_turns f Ticks i = ticked_turns f.activity i
  phase_turns f (Sees id seen) i = i

-- ---- a call that goes out

module _ (f : MdsFile) where
  abbrev OutTurns : Option CallOut → Type 0
  OutTurns None = Unit {0}
  OutTurns (Some c) = TakesTurns c.file.activity

  create_at_turns : (all : Creations) (xid place : ℕ) (o : Option Creation) → OutTurns (create_out_at f all xid place o)
  create_at_turns all xid place None = tt
  create_at_turns all xid place (Some c) = tt

  create_turns : (all : Creations) (xid : ℕ) (o : Option ℕ) → OutTurns (create_out f all xid o)
  create_turns all xid None = tt
  create_turns all xid (Some place) = create_at_turns all xid place (slice_get all.items place)

  fence_out_turns : (o : Option FenceCall) → OutTurns (fence_out f o)
  fence_out_turns None = tt
  fence_out_turns (Some c) = tt

  settle_turns : (xid : ℕ) (live : List Mirror) → OutTurns (settle_out f xid live)
  settle_turns xid [] = tt
  settle_turns xid (m ∷ live) = tt

  target_out_turns : (c : CopyState) (xid place : ℕ) → number_of c.read ≡ None → (o : Option CopyTarget) → OutTurns (copy_out f (target_call_at c xid place o))
  target_out_turns c xid place none None = tt
  target_out_turns c xid place none (Some t) = inl none

  copy_out_turns : (c : CopyState) (xid : ℕ) → TurnsOf c → (o : Option ℕ) → copy.waiting_at c ≡ o → OutTurns (copy_out f (copy.call_from c xid o))
  copy_out_turns c xid its None is = cond_both (waits c.read && may_read_on c) (Some _) None (λ (x : Option CopyCall). OutTurns (copy_out f x)) (λ due. inr (answered_of c (and_parts (waits c.read) (may_read_on c) due).1)) (λ off. tt)
  copy_out_turns c xid its (Some place) is =
      target_out_turns c xid place (none_read c (λ (t : CopyTarget). waits t.stage) (λ t waiting. waits_not_over t.stage waiting) place is its) (slice_get c.targets place)

  out_of_turns : (xid : ℕ) (a : Activity) → TakesTurns a → OutTurns (call_out_of f xid a)
  out_of_turns xid Idle its = tt
  out_of_turns xid (Makes all) its = create_turns all xid (creation_waiting all)
  out_of_turns xid (Fences x) its = fence_out_turns (next_call x xid)
  out_of_turns xid (Settles stage) its = cond_both (waits stage) (settle_out f xid f.layout.live) None OutTurns (λ is. settle_turns xid f.layout.live) (λ off. tt)
  out_of_turns xid (Copies c) its = copy_out_turns c xid its (copy.waiting_at c) refl

  pub out_turns : (xid : ℕ) (c : CallOut) → TakesTurns f.activity → call_out f xid ≡ Some c → TakesTurns c.file.activity
  out_turns xid c its is = subst OutTurns is (out_of_turns xid f.activity its)
