-- A file that is free or held has nothing under way, and one that the metadata server holds keeps its mirrors until its write is over.
use Rattle.std.proofs.Common.{◌≡◌, ℕ, ◌+◌, Bool, true, false, cond, List, [], ◌∷◌, map, Option, Some, None, refl, sym, ap, subst, ◌∙◌}
use Rattle.std.specs.Prelude.{◌==◌, ◌&&◌, nat_lt, length, slice_get, is_some, if◌then◌else◌}
use Rattle.std.specs.List.{list_all}
use Rattle.std.proofs.lemmas.Bool.{cond_both}
use Rattle.cluster_model.specs.declared.limits.TheConstants.{MAX_TIMEOUTS}
use Rattle.cluster_model.specs.declared.ids.NodeId.{NodeId}
use Rattle.cluster_model.specs.declared.ids.NodeId.TheVariants.{Mds, Server, Client}
use Rattle.cluster_model.specs.declared.ids.FileId.{FileId}
use Rattle.cluster_model.specs.declared.ids.Cred.{Cred}
use Rattle.cluster_model.specs.declared.ids.Mirror.{Mirror}
use Rattle.cluster_model.specs.declared.ids.MirrorId.{MirrorId}
use Rattle.cluster_model.specs.declared.phase.EndCause.{EndCause}
use Rattle.cluster_model.specs.declared.phase.LeftCause.{LeftCause}
use Rattle.cluster_model.specs.declared.phase.LeftCause.TheVariants.{Error, Timeouts}
use Rattle.cluster_model.specs.declared.ds_call.Shown.{Shown}
use Rattle.cluster_model.specs.declared.call_stage.CallStage.{CallStage}
use Rattle.cluster_model.specs.declared.call_stage.CallStage.TheVariants.{Waits, Out, KeptOut, KeptBack, Done, GivenUp}
use Rattle.cluster_model.specs.declared.entry.Entry.{Entry}
use Rattle.cluster_model.specs.declared.entry.Entry.TheVariants as entry
use Rattle.cluster_model.specs.declared.fence_mirror.FenceMirror.{FenceMirror}
use Rattle.cluster_model.specs.declared.fence_mirror.FenceStep.{FenceStep}
use Rattle.cluster_model.specs.declared.fence_mirror.FenceStep.TheVariants.{Stranger, Acked, Again, Failed as HasFailed}
use Rattle.cluster_model.specs.declared.layout_state.LayoutState.{LayoutState}
use Rattle.cluster_model.specs.declared.layout_state.LayoutPhase.{LayoutPhase}
use Rattle.cluster_model.specs.declared.layout_state.LayoutPhase.TheVariants.{Making, Free, Held, Fencing, Settling, Copying}
use Rattle.cluster_model.specs.declared.layout_state.CopyKind.{CopyKind}
use Rattle.cluster_model.specs.declared.targets.SwappedIn.{SwappedIn}
use Rattle.cluster_model.specs.DsCalls.{DsReplyValue, Created, Set, Written, Committed, Bytes, NotSync, Failed}
use Rattle.cluster_model.specs.Fences.{waits, is_out, is_over, odd_status, FenceState, FenceCall, next_call, outstanding_at, on_reply, on_timeout, without, is_done}
use Rattle.cluster_model.specs.Phases.{is_last_live, with_phase, is_clean, unreported, PhaseStep, freed, made, granted, recalled, left_with, returned, revoked, is_source, phase_without, mirror_left, after_fence, fence_done, has_targets, resilvered}
use Rattle.copy_rule.specs.declared.copy_target.CopyStep.{CopyStep}
use Rattle.copy_rule.specs.declared.copy_target.CopyStep.TheVariants as copy_step
use Rattle.copy_rule.specs.Copies.{CopyState, CopyCall, to_make, have_answered, has_outcome, swaps_of, target_call_at}
use Rattle.copy_rule.specs.Copies as copy
use Rattle.file_rule.specs.declared.creation.Creation.{Creation}
use Rattle.file_rule.specs.declared.fresh.Fresh.{Fresh}
use Rattle.file_rule.specs.MdsFiles.{Creations, Activity, Idle, Makes, Fences, Settles, Copies, MdsFile, FileStep, nothing, stays, a_uid, goes_idle, goes_fencing, begun_by, goes_on, with_entries, fenced_on, fence_stepped, shown_by_set, seen_by, mirror_at, with_creation, creation_of, creation_answered, creation_timed_out, all_made, making_on, making_at, making_by, plan_of, copying, settled, source_left, shown_by_commit, seen_at_source, settling_answered, settling_timed_out, copied_by, copied_on, target_left, copy_stepped}
use Rattle.file_rule.specs.FilePhases.{FileInput, AsksLayout, OwnWrite, Recall, Returns, Revokes, OwnEnds, Resilver, Answers, TimesOut, Ticks, Sees, are_spent, asked_in, held_in, by_client, by_mds, recalled_row, returned_row, revoked_row, own_row, resilvered_in, kind_of, settles_by, answered_in, timed_out_in, ticked, phase, CallOut, creation_waiting, create_out_at, create_out, fence_out, settle_out, copy_out, call_out_of, call_out}
use Rattle.cluster_laws.proofs.Invariant.{is_idle}
use Rattle.mds_laws.proofs.EachCases.{is_own_input}
use Rattle.mds_quiet.proofs.Parts.{servers_of}
use Rattle.mds_quiet.proofs.Ordered.{servers_seen}

-- whatever is under way, the file is neither free nor held
abbrev pub Agrees : Activity → LayoutPhase → Type 0
Agrees Idle p = Unit {0}
Agrees (Makes all) p = is_idle p ≡ false
Agrees (Fences x) p = is_idle p ≡ false
Agrees (Settles stage) p = is_idle p ≡ false
Agrees (Copies c) p = is_idle p ≡ false

abbrev FileAgrees : MdsFile → Type 0
FileAgrees f = Agrees f.activity f.layout.phase

abbrev StepAgrees : FileStep → Type 0
StepAgrees x = FileAgrees x.file

on_off : true ≡ false → ⊥
on_off e = absurd cc

-- where it is free or held nothing is under way
pub nothing_under_way : (a : Activity) (p : LayoutPhase) → is_idle p ≡ true → Agrees a p → a ≡ Idle
nothing_under_way Idle p is its = refl
nothing_under_way (Makes all) p is its = absurd (on_off (sym is ∙ its))
nothing_under_way (Fences x) p is its = absurd (on_off (sym is ∙ its))
nothing_under_way (Settles stage) p is its = absurd (on_off (sym is ∙ its))
nothing_under_way (Copies c) p is its = absurd (on_off (sym is ∙ its))

idle_agrees : (a : Activity) (p q : LayoutPhase) → is_idle p ≡ true → Agrees a p → Agrees a q
idle_agrees a p q is its = subst (λ (x : Activity). Agrees x q) (sym (nothing_under_way a p is its)) tt

begun_agrees : (p : LayoutPhase) → Agrees (begun_by p) p
begun_agrees Making = tt
begun_agrees Free = tt
begun_agrees (Held holder recalled) = tt
begun_agrees (Fencing next end) = tt
begun_agrees (Settling copies) = refl
begun_agrees (Copying copier copies) = tt

ticked_agrees : (a : Activity) (p : LayoutPhase) → Agrees a p → Agrees (ticked a) p
ticked_agrees Idle p its = tt
ticked_agrees (Makes all) p its = its
ticked_agrees (Fences x) p its = its
ticked_agrees (Settles stage) p its = its
ticked_agrees (Copies c) p its = its

loss_busy : (p : LayoutPhase) (source : Bool) → is_idle p ≡ false → is_idle (phase_without p source) ≡ false
loss_busy Making source is = is
loss_busy Free source is = is
loss_busy (Held holder recalled) source is = is
loss_busy (Fencing next end) source is = is
loss_busy (Settling copies) source is = is
loss_busy (Copying copier copies) source is = cond_both source (Settling copies) (Copying copier copies) (λ (p : LayoutPhase). is_idle p ≡ false) (λ on. refl) (λ off. refl)

left_phase : (s : LayoutState) (next : Cred) (live : List Mirror) → is_idle (left_with s next live).phase ≡ false
left_phase s next [] = refl
left_phase s next (m ∷ live) = refl

seen_phase : (s : LayoutState) (o : Option FenceMirror) (shown : Option Shown) → is_idle s.phase ≡ false → is_idle (seen_by s o shown).phase ≡ false
seen_phase s None shown is = is
seen_phase s (Some m) None is = is
seen_phase s (Some m) (Some shown) is = is

source_phase : (s : LayoutState) (live : List Mirror) (shown : Option Shown) → is_idle s.phase ≡ false → is_idle (seen_at_source s live shown).phase ≡ false
source_phase s [] shown is = is
source_phase s (m ∷ live) None is = is
source_phase s (m ∷ live) (Some shown) is = is

-- ---- the table

module _ (file : FileId) (fresh : Fresh) where
  asked_agrees : (f : MdsFile) (holder : NodeId) (entries : List Entry) (p : LayoutPhase) → f.layout.phase ≡ p → FileAgrees f → StepAgrees (asked_in file f holder entries fresh p)
  asked_agrees f holder entries Making at i = i
  asked_agrees f holder entries Free at i =
      cond_both (are_spent fresh) (nothing f)
      (with_entries (granted file f.layout holder).entries (record { file = record { layout = (granted file f.layout holder).file; activity = f.activity }; entries = entries; uids = 0; names = 0 })) StepAgrees (λ is. i)
      (λ off. idle_agrees f.activity f.layout.phase (Held holder false) (ap is_idle at) i)
  asked_agrees f holder entries (Held other recalled) at i = i
  asked_agrees f holder entries (Fencing next end) at i = i
  asked_agrees f holder entries (Settling copies) at i = i
  asked_agrees f holder entries (Copying copier copies) at i = i

  held_agrees : (f : MdsFile) (row : NodeId → FileStep) (p : LayoutPhase) → f.layout.phase ≡ p → (is_idle f.layout.phase ≡ true → (holder : NodeId) → StepAgrees (row holder)) → FileAgrees f → StepAgrees (held_in f row p)
  held_agrees f row Making at all i = i
  held_agrees f row Free at all i = i
  held_agrees f row (Held holder recalled) at all i = all (ap is_idle at) holder
  held_agrees f row (Fencing next end) at all i = i
  held_agrees f row (Settling copies) at all i = i
  held_agrees f row (Copying copier copies) at all i = i

  client_agrees : (f : MdsFile) (row : ℕ → FileStep) → ((n : ℕ) → StepAgrees (row n)) → FileAgrees f → (holder : NodeId) → StepAgrees (by_client f row holder)
  client_agrees f row all i Mds = i
  client_agrees f row all i (Server n) = i
  client_agrees f row all i (Client n) = all n

  mds_agrees : (f : MdsFile) (row : FileStep) → StepAgrees row → FileAgrees f → (holder : NodeId) → StepAgrees (by_mds f row holder)
  mds_agrees f row its i Mds = its
  mds_agrees f row its i (Server n) = i
  mds_agrees f row its i (Client n) = i

  returned_agrees : (f : MdsFile) (client : ℕ) (claimed : Cred) (places : List Bool) (holder : ℕ) → FileAgrees f → StepAgrees (returned_row file f client claimed places fresh holder)
  returned_agrees f client claimed places holder i =
      cond_both (holder == client && (f.layout.cred.0 == claimed.0)) (goes_fencing (returned file f.layout places (a_uid fresh.uid)) fresh.uid) (nothing f) StepAgrees (λ is. left_phase f.layout (a_uid fresh.uid) (unreported places f.layout.live)) (λ off. i)

  revoked_agrees : (f : MdsFile) (cause : EndCause) → FileAgrees f → StepAgrees (revoked_row file f cause fresh)
  revoked_agrees f cause i = cond_both (is_clean cause) (nothing f) (goes_fencing (revoked file f.layout cause (a_uid fresh.uid)) fresh.uid) StepAgrees (λ is. i) (λ off. refl)

  resilver_agrees : (f : MdsFile) (p : LayoutPhase) → FileAgrees f → StepAgrees (resilvered_in f fresh p)
  resilver_agrees f Making i = i
  resilver_agrees f Free i = cond_both (nat_lt (length f.layout.live) f.layout.wanted && (if are_spent fresh then false else true)) (stays (resilvered f.layout) (Settles Waits)) (nothing f) StepAgrees (λ is. refl) (λ off. i)
  resilver_agrees f (Held holder recalled) i = i
  resilver_agrees f (Fencing next end) i = i
  resilver_agrees f (Settling copies) i = i
  resilver_agrees f (Copying copier copies) i = i

  -- ---- CREATEs

  on_agrees : (layout : LayoutState) (all : Creations) → is_idle layout.phase ≡ false → StepAgrees (making_on file layout all)
  on_agrees layout all busy = cond_both (list_all (λ (c : Creation). is_over c.stage) all.items) (goes_idle (made file layout (all_made all)) 0) (stays layout (Makes all)) StepAgrees (λ is. tt) (λ off. busy)

  making_at_agrees : (layout : LayoutState) (all : Creations) (step : Creation → Creation) (place : ℕ) (o : Option Creation) → is_idle layout.phase ≡ false → StepAgrees (making_at file layout all step place o)
  making_at_agrees layout all step place None busy = busy
  making_at_agrees layout all step place (Some c) busy = on_agrees layout (with_creation all place (step c)) busy

  making_agrees : (layout : LayoutState) (all : Creations) (step : Creation → Creation) (o : Option ℕ) → is_idle layout.phase ≡ false → StepAgrees (making_by file layout all step o)
  making_agrees layout all step None busy = busy
  making_agrees layout all step (Some place) busy = making_at_agrees layout all step place (slice_get all.items place) busy

  -- ---- a fence

  fenced_on_agrees : (layout : LayoutState) (f : FenceState) → is_idle layout.phase ≡ false → StepAgrees (fenced_on file layout f)
  fenced_on_agrees layout f busy = cond_both (is_done f) (goes_on (fence_done file layout)) (stays layout (Fences f)) StepAgrees (λ is. begun_agrees (after_fence layout).phase) (λ off. busy)

  fence_agrees : (layout : LayoutState) (f : FenceState) (s : FenceStep) → is_idle layout.phase ≡ false → StepAgrees (fence_stepped file layout f s)
  fence_agrees layout f Stranger busy = busy
  fence_agrees layout f Acked busy = fenced_on_agrees layout f busy
  fence_agrees layout f Again busy = busy
  fence_agrees layout f (HasFailed id cause) busy =
      cond_both (is_last_live layout.live) (stays layout (Fences f)) (with_entries (mirror_left file layout id cause).entries (fenced_on file (mirror_left file layout id cause).file (without f id))) StepAgrees
      (λ is. busy) (λ off. fenced_on_agrees (mirror_left file layout id cause).file (without f id) (loss_busy layout.phase (is_source id layout.live) busy))

  -- ---- the COMMIT of a source

  leaves_agrees : (layout : LayoutState) (live : List Mirror) (cause : LeftCause) (under_way : Activity) → is_idle layout.phase ≡ false → Agrees under_way layout.phase → StepAgrees (source_left file layout live cause under_way)
  leaves_agrees layout [] cause under_way busy its = its
  leaves_agrees layout (m ∷ live) cause under_way busy its =
      cond_both (is_last_live layout.live) (stays layout under_way)
      (record { file = record { layout = (mirror_left file layout m.id cause).file; activity = Settles Waits }; entries = (mirror_left file layout m.id cause).entries; uids = 0; names = 0 }) StepAgrees
      (λ is. its) (λ off. loss_busy layout.phase (is_source m.id layout.live) busy)

  commit_agrees : (layout : LayoutState) (copies : CopyKind) → StepAgrees (settled file layout copies fresh)
  commit_agrees layout copies = by_targets (has_targets copies (length layout.live) layout.wanted)
    where
      by_targets : (b : Bool) → StepAgrees (cond {A = FileStep} b
          (copying (cond {A = PhaseStep} b (record { file = with_phase layout (Copying (a_uid fresh.uid) copies); entries = [] }) (freed file layout)).file fresh (plan_of copies layout fresh))
          (goes_idle (cond {A = PhaseStep} b (record { file = with_phase layout (Copying (a_uid fresh.uid) copies); entries = [] }) (freed file layout)) 0))
      by_targets true = refl
      by_targets false = tt

  settling_agrees : (layout : LayoutState) (copies : CopyKind) (reply : DsReplyValue) → is_idle layout.phase ≡ false → StepAgrees (settling_answered file layout copies fresh reply)
  settling_agrees layout copies (Created fileid shown) busy = leaves_agrees layout layout.live (Error odd_status) (Settles KeptBack) busy busy
  settling_agrees layout copies (Set shown) busy = leaves_agrees layout layout.live (Error odd_status) (Settles KeptBack) busy busy
  settling_agrees layout copies (Written shown verifier) busy = leaves_agrees layout layout.live (Error odd_status) (Settles KeptBack) busy busy
  settling_agrees layout copies (Committed shown verifier) busy = commit_agrees layout copies
  settling_agrees layout copies (Bytes shown eof bytes) busy = leaves_agrees layout layout.live (Error odd_status) (Settles KeptBack) busy busy
  settling_agrees layout copies (NotSync shown) busy = leaves_agrees layout layout.live (Error odd_status) (Settles KeptBack) busy busy
  settling_agrees layout copies (Failed status shown) busy = leaves_agrees layout layout.live (Error status) (Settles KeptBack) busy busy

  settling_late_agrees : (layout : LayoutState) (s : CallStage) → is_idle layout.phase ≡ false → StepAgrees (settling_timed_out file layout s)
  settling_late_agrees layout Waits busy = busy
  settling_late_agrees layout (Out xid timeouts) busy =
      cond_both (nat_lt (timeouts + 1) MAX_TIMEOUTS) (stays layout (Settles (Out xid (timeouts + 1)))) (source_left file layout layout.live Timeouts (Settles (KeptOut xid))) StepAgrees (λ is. busy)
      (λ off. leaves_agrees layout layout.live Timeouts (Settles (KeptOut xid)) busy busy)
  settling_late_agrees layout (KeptOut xid) busy = busy
  settling_late_agrees layout KeptBack busy = busy
  settling_late_agrees layout Done busy = busy
  settling_late_agrees layout GivenUp busy = busy

  settles_agrees : (f : MdsFile) (row : CopyKind → FileStep) (o : Option CopyKind) → ((copies : CopyKind) → StepAgrees (row copies)) → FileAgrees f → StepAgrees (settles_by f row o)
  settles_agrees f row None all i = i
  settles_agrees f row (Some copies) all i = all copies

  -- ---- a copy

  copied_by_agrees : (layout : LayoutState) (copier : Cred) (targets : List SwappedIn) → StepAgrees (copied_by file layout copier targets fresh)
  copied_by_agrees layout copier [] = tt
  copied_by_agrees layout copier (t ∷ targets) = refl

  copied_agrees : (layout : LayoutState) (c : CopyState) → is_idle layout.phase ≡ false → StepAgrees (copied_on file layout c fresh)
  copied_agrees layout c busy = cond_both (has_outcome c) (copied_by file layout (a_uid c.copier) (swaps_of c) fresh) (stays layout (Copies c)) StepAgrees (λ is. copied_by_agrees layout (a_uid c.copier) (swaps_of c)) (λ off. busy)

  target_agrees : (layout : LayoutState) (c : CopyState) (cause : LeftCause) (o : Option MirrorId) → is_idle layout.phase ≡ false → StepAgrees (target_left file layout c fresh cause o)
  target_agrees layout c cause None busy = copied_agrees layout c busy
  target_agrees layout c cause (Some id) busy = copied_agrees (mirror_left file layout id cause).file c (loss_busy layout.phase (is_source id layout.live) busy)

  copy_agrees : (layout : LayoutState) (c : CopyState) (s : CopyStep) → is_idle layout.phase ≡ false → StepAgrees (copy_stepped file layout c fresh s)
  copy_agrees layout c copy_step.Stranger busy = busy
  copy_agrees layout c copy_step.Waiting busy = busy
  copy_agrees layout c (copy_step.SourceFailed cause) busy = leaves_agrees layout layout.live cause (Copies c) busy busy
  copy_agrees layout c (copy_step.TargetFailed server replaced cause) busy = target_agrees layout c cause replaced busy
  copy_agrees layout c copy_step.Done busy = copied_agrees layout c busy

  -- ---- answers and timeouts

  answered_agrees : (f : MdsFile) (xid : ℕ) (reply : DsReplyValue) (a : Activity) → Agrees a f.layout.phase → FileAgrees f → StepAgrees (answered_in file f xid reply fresh a)
  answered_agrees f xid reply Idle its i = i
  answered_agrees f xid reply (Makes all) its i = making_agrees f.layout all (λ c. creation_answered all c reply) (creation_of all xid) its
  answered_agrees f xid reply (Fences x) its i =
      fence_agrees (seen_by f.layout (mirror_at x (outstanding_at x xid)) (shown_by_set reply)) (on_reply x xid reply).fence (on_reply x xid reply).step (seen_phase f.layout (mirror_at x (outstanding_at x xid)) (shown_by_set reply) its)
  answered_agrees f xid reply (Settles stage) its i =
      let layout : LayoutState = seen_at_source f.layout f.layout.live (shown_by_commit reply) in
      cond_both (is_out xid stage) (settles_by f (λ copies. settling_answered file layout copies fresh reply) (kind_of f.layout.phase)) (nothing f) StepAgrees
      (λ is. settles_agrees f (λ copies. settling_answered file layout copies fresh reply) (kind_of f.layout.phase) (λ copies. settling_agrees layout copies reply (source_phase f.layout f.layout.live (shown_by_commit reply) its)) i) (λ off. i)
  answered_agrees f xid reply (Copies c) its i = copy_agrees f.layout (copy.on_reply c xid reply).copy (copy.on_reply c xid reply).step its

  late_agrees : (f : MdsFile) (xid : ℕ) (a : Activity) → Agrees a f.layout.phase → FileAgrees f → StepAgrees (timed_out_in file f xid fresh a)
  late_agrees f xid Idle its i = i
  late_agrees f xid (Makes all) its i = making_agrees f.layout all (creation_timed_out all) (creation_of all xid) its
  late_agrees f xid (Fences x) its i = fence_agrees f.layout (on_timeout x xid).fence (on_timeout x xid).step its
  late_agrees f xid (Settles stage) its i = cond_both (is_out xid stage) (settling_timed_out file f.layout stage) (nothing f) StepAgrees (λ is. settling_late_agrees f.layout stage its) (λ off. i)
  late_agrees f xid (Copies c) its i = copy_agrees f.layout (copy.on_timeout c xid).copy (copy.on_timeout c xid).step its

  pub phase_agrees : (f : MdsFile) (input : FileInput) → FileAgrees f → FileAgrees (phase file f input fresh).file
  phase_agrees f (AsksLayout client) i = asked_agrees f (Client client) [] f.layout.phase refl i
  phase_agrees f (OwnWrite at bytes) i = asked_agrees f Mds (entry.Sent file f.layout.cred at bytes ∷ []) f.layout.phase refl i
  phase_agrees f Recall i = held_agrees f (by_client f (recalled_row f)) f.layout.phase refl (λ idle. client_agrees f (recalled_row f) (λ n. idle_agrees f.activity f.layout.phase (Held (Client n) true) idle i) i) i
  phase_agrees f (Returns client claimed places) i =
      held_agrees f (by_client f (returned_row file f client claimed places fresh)) f.layout.phase refl (λ idle. client_agrees f (returned_row file f client claimed places fresh) (λ n. returned_agrees f client claimed places n i) i) i
  phase_agrees f (Revokes cause) i = held_agrees f (by_client f (λ client. revoked_row file f cause fresh)) f.layout.phase refl (λ idle. client_agrees f (λ client. revoked_row file f cause fresh) (λ n. revoked_agrees f cause i) i) i
  phase_agrees f (OwnEnds causes at bytes) i =
      let told : Entry = entry.Told file f.layout.cred at bytes in
      held_agrees f (by_mds f (own_row file f causes told fresh)) f.layout.phase refl (λ idle. mds_agrees f (own_row file f causes told fresh) (left_phase f.layout (a_uid fresh.uid) (unreported (map is_some causes) f.layout.live)) i) i
  phase_agrees f Resilver i = resilver_agrees f f.layout.phase i
  phase_agrees f (Answers xid reply) i = answered_agrees f xid reply f.activity i i
  phase_agrees f (TimesOut xid) i = late_agrees f xid f.activity i i
  phase_agrees f Ticks i = ticked_agrees f.activity f.layout.phase i
  phase_agrees f (Sees id seen) i = i

-- ---- a call that goes out

module _ (f : MdsFile) where
  abbrev OutAgrees : Option CallOut → Type 0
  OutAgrees None = Unit {0}
  OutAgrees (Some c) = Agrees c.file.activity c.file.layout.phase

  create_at_agrees : (all : Creations) (xid place : ℕ) (o : Option Creation) → is_idle f.layout.phase ≡ false → OutAgrees (create_out_at f all xid place o)
  create_at_agrees all xid place None its = tt
  create_at_agrees all xid place (Some c) its = its

  create_agrees : (all : Creations) (xid : ℕ) (o : Option ℕ) → is_idle f.layout.phase ≡ false → OutAgrees (create_out f all xid o)
  create_agrees all xid None its = tt
  create_agrees all xid (Some place) its = create_at_agrees all xid place (slice_get all.items place) its

  fence_out_agrees : (o : Option FenceCall) → is_idle f.layout.phase ≡ false → OutAgrees (fence_out f o)
  fence_out_agrees None its = tt
  fence_out_agrees (Some c) its = its

  settle_agrees : (xid : ℕ) (live : List Mirror) → is_idle f.layout.phase ≡ false → OutAgrees (settle_out f xid live)
  settle_agrees xid [] its = tt
  settle_agrees xid (m ∷ live) its = its

  copy_out_agrees : (o : Option CopyCall) → is_idle f.layout.phase ≡ false → OutAgrees (copy_out f o)
  copy_out_agrees None its = tt
  copy_out_agrees (Some c) its = its

  out_of_agrees : (xid : ℕ) (a : Activity) → Agrees a f.layout.phase → OutAgrees (call_out_of f xid a)
  out_of_agrees xid Idle its = tt
  out_of_agrees xid (Makes all) its = create_agrees all xid (creation_waiting all) its
  out_of_agrees xid (Fences x) its = fence_out_agrees (next_call x xid) its
  out_of_agrees xid (Settles stage) its = cond_both (waits stage) (settle_out f xid f.layout.live) None OutAgrees (λ is. settle_agrees xid f.layout.live its) (λ off. tt)
  out_of_agrees xid (Copies c) its = copy_out_agrees (copy.next_call c xid) its

  pub out_agrees : (xid : ℕ) (c : CallOut) → FileAgrees f → call_out f xid ≡ Some c → FileAgrees c.file
  out_agrees xid c its is = subst OutAgrees is (out_of_agrees xid f.activity its)

-- ---- the metadata server's own period

pub record HoldsStill (f g : MdsFile) : Type 0 where
  pub servers : servers_of g.layout.live ≡ servers_of f.layout.live
  pub phase_same : g.layout.phase ≡ f.layout.phase
  pub activity_same : g.activity ≡ f.activity

still_itself : (f : MdsFile) → HoldsStill f f
still_itself f = record { servers = refl; phase_same = refl; activity_same = refl }

-- no input but its end changes which mirrors it has
pub own_still : (file : FileId) (fresh : Fresh) (f : MdsFile) (input : FileInput) (r : Bool) → f.layout.phase ≡ Held Mds r → f.activity ≡ Idle → is_own_input input ≡ false → HoldsStill f (phase file f input fresh).file
own_still file fresh f (AsksLayout client) r at idle other = subst (λ (p : LayoutPhase). HoldsStill f (asked_in file f (Client client) [] fresh p).file) (sym at) (still_itself f)
own_still file fresh f (OwnWrite at bytes) r held idle other = absurd (on_off other)
own_still file fresh f Recall r at idle other = subst (λ (p : LayoutPhase). HoldsStill f (held_in f (by_client f (recalled_row f)) p).file) (sym at) (still_itself f)
own_still file fresh f (Returns client claimed places) r at idle other = subst (λ (p : LayoutPhase). HoldsStill f (held_in f (by_client f (returned_row file f client claimed places fresh)) p).file) (sym at) (still_itself f)
own_still file fresh f (Revokes cause) r at idle other = subst (λ (p : LayoutPhase). HoldsStill f (held_in f (by_client f (λ client. revoked_row file f cause fresh)) p).file) (sym at) (still_itself f)
own_still file fresh f (OwnEnds causes at bytes) r held idle other = absurd (on_off other)
own_still file fresh f Resilver r at idle other = subst (λ (p : LayoutPhase). HoldsStill f (resilvered_in f fresh p).file) (sym at) (still_itself f)
own_still file fresh f (Answers xid reply) r at idle other = subst (λ (a : Activity). HoldsStill f (answered_in file f xid reply fresh a).file) (sym idle) (still_itself f)
own_still file fresh f (TimesOut xid) r at idle other = subst (λ (a : Activity). HoldsStill f (timed_out_in file f xid fresh a).file) (sym idle) (still_itself f)
own_still file fresh f Ticks r at idle other = record { servers = refl; phase_same = refl; activity_same = ap ticked idle ∙ sym idle }
own_still file fresh f (Sees id seen) r at idle other = record { servers = servers_seen id seen f.layout.live; phase_same = refl; activity_same = refl }
