-- What one input of the table of phases makes of the uid that the next grant of the file has, and of the one that its next period's end has:
-- a grant, or an end, uses it up, and the file has another only where one was drawn.
use Rattle.std.proofs.Common.{◌≡◌, ℕ, ◌+◌, Bool, true, false, cond, List, [], ◌∷◌, ◌++◌, length, Option, Some, None, refl, sym, ap, subst, ◌∙◌, arith}
use Rattle.std.specs.Prelude.{◌==◌, ◌&&◌, nat_lt, slice_get, map, is_some, if◌then◌else◌}
use Rattle.std.specs.List.{list_all}
use Rattle.std.proofs.lemmas.Bool.{cond_both}
use Rattle.cluster_model.specs.declared.limits.TheConstants.{MAX_TIMEOUTS}
use Rattle.cluster_model.specs.declared.ids.NodeId.{NodeId}
use Rattle.cluster_model.specs.declared.ids.NodeId.TheVariants.{Mds, Server, Client}
use Rattle.cluster_model.specs.declared.ids.FileId.{FileId}
use Rattle.cluster_model.specs.declared.ids.Cred.{Cred}
use Rattle.cluster_model.specs.declared.ids.Mirror.{Mirror}
use Rattle.cluster_model.specs.declared.ids.MirrorId.{MirrorId}
use Rattle.cluster_model.specs.declared.phase.EndCause.{EndCause}
use Rattle.cluster_model.specs.declared.phase.EndCause.TheVariants.{Returned, Own}
use Rattle.cluster_model.specs.declared.phase.LeftCause.{LeftCause}
use Rattle.cluster_model.specs.declared.phase.LeftCause.TheVariants.{Error, Timeouts}
use Rattle.cluster_model.specs.declared.ds_call.Shown.{Shown}
use Rattle.cluster_model.specs.declared.call_stage.CallStage.{CallStage}
use Rattle.cluster_model.specs.declared.call_stage.CallStage.TheVariants.{Waits, Out, KeptOut, KeptBack, Done, GivenUp}
use Rattle.cluster_model.specs.declared.entry.Entry.{Entry}
use Rattle.cluster_model.specs.declared.entry.Entry.TheVariants as entry
use Rattle.cluster_model.specs.declared.fence_mirror.FenceMirror.{FenceMirror}
use Rattle.cluster_model.specs.declared.fence_mirror.FenceStep.{FenceStep}
use Rattle.cluster_model.specs.declared.fence_mirror.FenceStep.TheVariants.{Stranger, Acked, Again, Failed as HasFailed}
use Rattle.cluster_model.specs.declared.layout_state.LayoutState.{LayoutState}
use Rattle.cluster_model.specs.declared.layout_state.LayoutPhase.{LayoutPhase}
use Rattle.cluster_model.specs.declared.layout_state.LayoutPhase.TheVariants.{Making, Free, Held, Fencing, Settling, Copying}
use Rattle.cluster_model.specs.declared.layout_state.FenceEnd.TheVariants.{Clean, Dirty, Copied}
use Rattle.cluster_model.specs.declared.layout_state.CopyKind.{CopyKind}
use Rattle.cluster_model.specs.declared.targets.SwappedIn.{SwappedIn}
use Rattle.cluster_model.specs.DsCalls.{DsReplyValue, Created, Set, Written, Committed, Bytes, NotSync, Failed}
use Rattle.cluster_model.specs.Fences.{waits, is_out, is_over, odd_status, FenceState, FenceCall, next_call, outstanding_at, on_reply, on_timeout, without, is_done}
use Rattle.cluster_model.specs.Phases.{is_last_live, with_phase, is_clean, unreported, is_source, left_entries, reported_cause, end_entries, PhaseStep, freed, made, granted, left_with, returned, revoked, mirror_left, fenced_to, fence_entries, fence_done, after_fence, has_targets, swapped_entries, resilvered}
use Rattle.copy_rule.specs.declared.copy_target.CopyStep.{CopyStep}
use Rattle.copy_rule.specs.declared.copy_target.CopyStep.TheVariants as copy_step
use Rattle.copy_rule.specs.Copies.{CopyState, CopyCall, has_outcome, swaps_of}
use Rattle.copy_rule.specs.Copies as copy
use Rattle.file_rule.specs.declared.creation.Creation.{Creation}
use Rattle.file_rule.specs.declared.fresh.Fresh.{Fresh}
use Rattle.file_rule.specs.MdsFiles.{Creations, Activity, Idle, Makes, Fences, Settles, Copies, MdsFile, FileStep, nothing, stays, a_uid, goes_idle, goes_fencing, goes_on, with_entries, fenced_on, fence_stepped, shown_by_set, seen_by, mirror_at, with_creation, creation_of, creation_answered, creation_timed_out, all_made, making_on, making_at, making_by, plan_of, copying, settled, source_left, shown_by_commit, seen_at_source, settling_answered, settling_timed_out, copied_by, copied_on, target_left, copy_stepped}
use Rattle.file_rule.specs.FilePhases.{FileInput, AsksLayout, OwnWrite, Recall, Returns, Revokes, OwnEnds, Resilver, Answers, TimesOut, Ticks, Sees, are_spent, asked_in, held_in, by_client, by_mds, recalled_row, returned_row, revoked_row, own_row, resilvered_in, kind_of, settles_by, answered_in, timed_out_in, phase, CallOut, creation_waiting, create_out_at, create_out, fence_out, settle_out, copy_out, call_out_of, call_out}
use Rattle.mds_laws.proofs.PeriodUids.{Side, Grants, Ends, held_uid, uid_by, uid_of, is_making, Agrees, making_uid, kind_uid, idle_agrees, begun_agrees, ticked_agrees, loss_uid, loss_kind, Keeps, Draws, Uses, end_use, is_use, AreSilent, silent_only, silent_then, silent_join, left_silent, swapped_silent}

-- ---- the rows

module _ (side : Side) (file : FileId) (fresh : Fresh) (old : Option ℕ) where
  abbrev StepUses : FileStep → Type 0
  StepUses x = Uses side fresh.uid (fresh.uid + x.uids) old x.entries (uid_of side x.file.layout) × Agrees x.file.activity x.file.layout.phase

  abbrev Has : LayoutState → Type 0
  Has s = uid_of side s ≡ old

  -- an input of which nothing comes
  abbrev None_of : MdsFile → Type 0
  None_of f = StepUses (nothing f)

  asked_uses : (f : MdsFile) (holder : NodeId) (entries : List Entry) (p : LayoutPhase) → f.layout.phase ≡ p → AreSilent entries → Has f.layout → Agrees f.activity f.layout.phase
      → StepUses (asked_in file f holder entries fresh p)
  asked_uses f holder entries Making at silent i its = (Keeps i, its)
  asked_uses f holder entries Free at silent i its =
      cond_both (are_spent fresh) (nothing f)
      (with_entries (granted file f.layout holder).entries (record { file = record { layout = (granted file f.layout holder).file; activity = f.activity }; entries = entries; uids = 0; names = 0 })) StepUses
      (λ is. (Keeps i, its))
      (λ off. (
        by_side side (sym i ∙ ap (uid_by side f.layout.cred) at),
        idle_agrees f.activity Free (Held holder false) refl refl (subst (Agrees f.activity) at its),
      ))
    where
      by_side : (k : Side) → old ≡ Some f.layout.cred.0 → Uses k fresh.uid (fresh.uid + 0) old (entry.Granted file f.layout.cred holder ∷ entries) (held_uid k f.layout.cred)
      by_side Grants its = (its, silent_only Grants fresh.uid (fresh.uid + 0) None None entries silent (Keeps refl))
      by_side Ends its = (tt, silent_only Ends fresh.uid (fresh.uid + 0) old (Some f.layout.cred.0) entries silent (Keeps (sym its)))
  asked_uses f holder entries (Held other recalled) at silent i its = (Keeps i, its)
  asked_uses f holder entries (Fencing next end) at silent i its = (Keeps i, its)
  asked_uses f holder entries (Settling copies) at silent i its = (Keeps i, its)
  asked_uses f holder entries (Copying copier copies) at silent i its = (Keeps i, its)

  held_uses : (f : MdsFile) (row : NodeId → FileStep) (p : LayoutPhase) → f.layout.phase ≡ p → ((holder : NodeId) (recalled : Bool) → f.layout.phase ≡ Held holder recalled → StepUses (row holder)) → None_of f
      → StepUses (held_in f row p)
  held_uses f row Making at all i = i
  held_uses f row Free at all i = i
  held_uses f row (Held holder recalled) at all i = all holder recalled at
  held_uses f row (Fencing next end) at all i = i
  held_uses f row (Settling copies) at all i = i
  held_uses f row (Copying copier copies) at all i = i

  client_uses : (f : MdsFile) (row : ℕ → FileStep) → ((n : ℕ) → StepUses (row n)) → None_of f → (holder : NodeId) → StepUses (by_client f row holder)
  client_uses f row all i Mds = i
  client_uses f row all i (Server n) = i
  client_uses f row all i (Client n) = all n

  mds_uses : (f : MdsFile) (row : FileStep) → StepUses row → None_of f → (holder : NodeId) → StepUses (by_mds f row holder)
  mds_uses f row its i Mds = its
  mds_uses f row its i (Server n) = i
  mds_uses f row its i (Client n) = i

  recalled_uses : (f : MdsFile) (holder : NodeId) (was : Bool) → f.layout.phase ≡ Held holder was → Has f.layout → Agrees f.activity f.layout.phase → (n : ℕ) → StepUses (recalled_row f n)
  recalled_uses f holder was at i its n =
      (Keeps (sym (ap (uid_by side f.layout.cred) at) ∙ i), idle_agrees f.activity (Held holder was) (Held (Client n) true) refl refl (subst (Agrees f.activity) at its))

  end_uses : (s : LayoutState) (left : List Entry) (cause : EndCause) (live : List Mirror) → old ≡ held_uid side s.cred → AreSilent left
      → Uses side fresh.uid (fresh.uid + 1) old (end_entries file s.cred left cause live) (uid_of side (left_with s (a_uid fresh.uid) live))
  end_uses s left cause [] its silent = (end_use side s.cred old its, Draws refl (omega arith))
  end_uses s left cause (m ∷ live) its silent =
      silent_then side fresh.uid (fresh.uid + 1) old (Some fresh.uid) left (entry.Ended file s.cred cause ∷ []) silent (end_use side s.cred old its, Draws refl (omega arith))

  returned_uses : (f : MdsFile) (client : ℕ) (claimed : Cred) (places : List Bool) (holder : ℕ) → old ≡ held_uid side f.layout.cred → None_of f → StepUses (returned_row file f client claimed places fresh holder)
  returned_uses f client claimed places holder its i =
      cond_both (holder == client && (f.layout.cred.0 == claimed.0)) (goes_fencing (returned file f.layout places (a_uid fresh.uid)) fresh.uid) (nothing f) StepUses
      (λ is. (end_uses f.layout (left_entries file (map reported_cause places) f.layout.live) Returned (unreported places f.layout.live) its (left_silent file (map reported_cause places) f.layout.live), tt)) (λ off. i)

  revoked_uses : (f : MdsFile) (cause : EndCause) → old ≡ held_uid side f.layout.cred → None_of f → StepUses (revoked_row file f cause fresh)
  revoked_uses f cause its i =
      cond_both (is_clean cause) (nothing f) (goes_fencing (revoked file f.layout cause (a_uid fresh.uid)) fresh.uid) StepUses (λ is. i) (λ off. ((end_use side f.layout.cred old its, Draws refl (omega arith)), tt))

  own_uses : (f : MdsFile) (causes : List (Option LeftCause)) (told : Entry) → old ≡ held_uid side f.layout.cred → is_use told ≡ false → StepUses (own_row file f causes told fresh)
  own_uses f causes told its silent = (
    end_uses f.layout (left_entries file causes f.layout.live ++ told ∷ []) Own (unreported (map is_some causes) f.layout.live) its
        (silent_join (left_entries file causes f.layout.live) (told ∷ []) (left_silent file causes f.layout.live) (silent, tt)),
    tt,
  )

  resilver_uses : (f : MdsFile) (p : LayoutPhase) → f.layout.phase ≡ p → Has f.layout → Agrees f.activity f.layout.phase → StepUses (resilvered_in f fresh p)
  resilver_uses f Making at i its = (Keeps i, its)
  resilver_uses f Free at i its =
      cond_both (nat_lt (length f.layout.live) f.layout.wanted && (if are_spent fresh then false else true)) (stays (resilvered f.layout) (Settles Waits)) (nothing f) StepUses
      (λ is. (Keeps (sym (ap (uid_by side f.layout.cred) at) ∙ i), tt)) (λ off. (Keeps i, its))
  resilver_uses f (Held holder recalled) at i its = (Keeps i, its)
  resilver_uses f (Fencing next end) at i its = (Keeps i, its)
  resilver_uses f (Settling copies) at i its = (Keeps i, its)
  resilver_uses f (Copying copier copies) at i its = (Keeps i, its)

  -- ---- CREATEs

  on_uses : (layout : LayoutState) (all : Creations) → Has layout → is_making layout.phase ≡ true → StepUses (making_on file layout all)
  on_uses layout all i its =
      cond_both (list_all (λ (c : Creation). is_over c.stage) all.items) (goes_idle (made file layout (all_made all)) 0) (stays layout (Makes all)) StepUses
      (λ is. ((tt, Keeps (sym (making_uid side layout.cred layout.phase its) ∙ i)), tt)) (λ off. (Keeps i, its))

  making_at_uses : (layout : LayoutState) (all : Creations) (step : Creation → Creation) (place : ℕ) (o : Option Creation) → Has layout → is_making layout.phase ≡ true → StepUses (making_at file layout all step place o)
  making_at_uses layout all step place None i its = (Keeps i, its)
  making_at_uses layout all step place (Some c) i its = on_uses layout (with_creation all place (step c)) i its

  making_uses : (layout : LayoutState) (all : Creations) (step : Creation → Creation) (o : Option ℕ) → Has layout → is_making layout.phase ≡ true → StepUses (making_by file layout all step o)
  making_uses layout all step None i its = (Keeps i, its)
  making_uses layout all step (Some place) i its = making_at_uses layout all step place (slice_get all.items place) i its

  -- ---- a mirror that leaves, and a fence

  left_has : (s : LayoutState) (id : MirrorId) (cause : LeftCause) → Has s → Has (mirror_left file s id cause).file
  left_has s id cause i = loss_uid side s.cred s.phase (is_source id s.live) ∙ i

  left_kind : (s : LayoutState) (id : MirrorId) (cause : LeftCause) → is_some (kind_of s.phase) ≡ true → is_some (kind_of (mirror_left file s id cause).file.phase) ≡ true
  left_kind s id cause is = loss_kind s.phase (is_source id s.live) ∙ is

  fence_done_uses : (s : LayoutState) (p : LayoutPhase) → uid_by side s.cred p ≡ old → Has s → Uses side fresh.uid (fresh.uid + 0) old (fence_entries file s p) (uid_of side (fenced_to s p))
  fence_done_uses s Making at i = Keeps i
  fence_done_uses s Free at i = Keeps i
  fence_done_uses s (Held holder recalled) at i = Keeps i
  fence_done_uses s (Fencing next Clean) at i = (tt, (tt, Keeps at))
  fence_done_uses s (Fencing next Dirty) at i = (tt, Keeps at)
  fence_done_uses s (Fencing next Copied) at i = (tt, (tt, Keeps at))
  fence_done_uses s (Settling copies) at i = Keeps i
  fence_done_uses s (Copying copier copies) at i = Keeps i

  fenced_on_uses : (layout : LayoutState) (x : FenceState) → Has layout → StepUses (fenced_on file layout x)
  fenced_on_uses layout x i =
      cond_both (is_done x) (goes_on (fence_done file layout)) (stays layout (Fences x)) StepUses
      (λ is. (fence_done_uses layout layout.phase i i, begun_agrees (after_fence layout).phase (after_fence layout).phase)) (λ off. (Keeps i, tt))

  fence_uses : (layout : LayoutState) (x : FenceState) (s : FenceStep) → Has layout → StepUses (fence_stepped file layout x s)
  fence_uses layout x Stranger i = (Keeps i, tt)
  fence_uses layout x Acked i = fenced_on_uses layout x i
  fence_uses layout x Again i = (Keeps i, tt)
  fence_uses layout x (HasFailed id cause) i =
      let behind : StepUses (fenced_on file (mirror_left file layout id cause).file (without x id)) = fenced_on_uses (mirror_left file layout id cause).file (without x id) (left_has layout id cause i) in
      cond_both (is_last_live layout.live) (stays layout (Fences x)) (with_entries (mirror_left file layout id cause).entries (fenced_on file (mirror_left file layout id cause).file (without x id))) StepUses
      (λ is. (Keeps i, tt)) (λ off. ((tt, behind.0), behind.1))

  seen_has : (s : LayoutState) (o : Option FenceMirror) (shown : Option Shown) → Has s → Has (seen_by s o shown)
  seen_has s None shown i = i
  seen_has s (Some m) None i = i
  seen_has s (Some m) (Some shown) i = i

  source_has : (s : LayoutState) (live : List Mirror) (shown : Option Shown) → Has s → Has (seen_at_source s live shown)
  source_has s [] shown i = i
  source_has s (m ∷ live) None i = i
  source_has s (m ∷ live) (Some shown) i = i

  source_cred : (s : LayoutState) (live : List Mirror) (shown : Option Shown) → (seen_at_source s live shown).cred ≡ s.cred
  source_cred s [] shown = refl
  source_cred s (m ∷ live) None = refl
  source_cred s (m ∷ live) (Some shown) = refl

  -- ---- the COMMIT of a source

  leaves_uses : (layout : LayoutState) (live : List Mirror) (cause : LeftCause) (kept : Activity) → Has layout → Agrees kept layout.phase → StepUses (source_left file layout live cause kept)
  leaves_uses layout [] cause kept i its = (Keeps i, its)
  leaves_uses layout (m ∷ live) cause kept i its =
      cond_both (is_last_live layout.live) (stays layout kept)
      (record { file = record { layout = (mirror_left file layout m.id cause).file; activity = Settles Waits }; entries = (mirror_left file layout m.id cause).entries; uids = 0; names = 0 }) StepUses
      (λ is. (Keeps i, its)) (λ off. ((tt, Keeps (left_has layout m.id cause i)), tt))

  commit_uses : (layout : LayoutState) (copies : CopyKind) → Some layout.cred.0 ≡ old → StepUses (settled file layout copies fresh)
  commit_uses layout copies i = by_targets (has_targets copies (length layout.live) layout.wanted)
    where
      by_targets : (b : Bool) → StepUses (cond {A = FileStep} b
          (copying (cond {A = PhaseStep} b (record { file = with_phase layout (Copying (a_uid fresh.uid) copies); entries = [] }) (freed file layout)).file fresh (plan_of copies layout fresh))
          (goes_idle (cond {A = PhaseStep} b (record { file = with_phase layout (Copying (a_uid fresh.uid) copies); entries = [] }) (freed file layout)) 0))
      by_targets true = (Keeps i, refl)
      by_targets false = ((tt, Keeps i), tt)

  settling_uses : (layout : LayoutState) (copies : CopyKind) (reply : DsReplyValue) → Has layout → Some layout.cred.0 ≡ old → StepUses (settling_answered file layout copies fresh reply)
  settling_uses layout copies (Created fileid shown) i its = leaves_uses layout layout.live (Error odd_status) (Settles KeptBack) i tt
  settling_uses layout copies (Set shown) i its = leaves_uses layout layout.live (Error odd_status) (Settles KeptBack) i tt
  settling_uses layout copies (Written shown verifier) i its = leaves_uses layout layout.live (Error odd_status) (Settles KeptBack) i tt
  settling_uses layout copies (Committed shown verifier) i its = commit_uses layout copies its
  settling_uses layout copies (Bytes shown eof bytes) i its = leaves_uses layout layout.live (Error odd_status) (Settles KeptBack) i tt
  settling_uses layout copies (NotSync shown) i its = leaves_uses layout layout.live (Error odd_status) (Settles KeptBack) i tt
  settling_uses layout copies (Failed status shown) i its = leaves_uses layout layout.live (Error status) (Settles KeptBack) i tt

  settling_late_uses : (layout : LayoutState) (s : CallStage) → Has layout → StepUses (settling_timed_out file layout s)
  settling_late_uses layout Waits i = (Keeps i, tt)
  settling_late_uses layout (Out xid timeouts) i =
      cond_both (nat_lt (timeouts + 1) MAX_TIMEOUTS) (stays layout (Settles (Out xid (timeouts + 1)))) (source_left file layout layout.live Timeouts (Settles (KeptOut xid))) StepUses (λ is. (Keeps i, tt))
      (λ off. leaves_uses layout layout.live Timeouts (Settles (KeptOut xid)) i tt)
  settling_late_uses layout (KeptOut xid) i = (Keeps i, tt)
  settling_late_uses layout KeptBack i = (Keeps i, tt)
  settling_late_uses layout Done i = (Keeps i, tt)
  settling_late_uses layout GivenUp i = (Keeps i, tt)

  settles_uses : (f : MdsFile) (row : CopyKind → FileStep) (o : Option CopyKind) → kind_of f.layout.phase ≡ o → ((copies : CopyKind) → is_some (kind_of f.layout.phase) ≡ true → StepUses (row copies)) → None_of f
      → StepUses (settles_by f row o)
  settles_uses f row None at all i = i
  settles_uses f row (Some copies) at all i = all copies (ap is_some at)

  -- ---- a copy

  copied_by_uses : (layout : LayoutState) (copier : Cred) (targets : List SwappedIn) → Some layout.cred.0 ≡ old → StepUses (copied_by file layout copier targets fresh)
  copied_by_uses layout copier [] i = ((tt, Keeps i), tt)
  copied_by_uses layout copier (t ∷ targets) i =
      (silent_only side fresh.uid (fresh.uid + 1) old (Some fresh.uid) (swapped_entries file (t ∷ targets)) (swapped_silent file (t ∷ targets)) (Draws refl (omega arith)), tt)

  copied_uses : (layout : LayoutState) (c : CopyState) → Has layout → is_some (kind_of layout.phase) ≡ true → StepUses (copied_on file layout c fresh)
  copied_uses layout c i its =
      cond_both (has_outcome c) (copied_by file layout (a_uid c.copier) (swaps_of c) fresh) (stays layout (Copies c)) StepUses
      (λ is. copied_by_uses layout (a_uid c.copier) (swaps_of c) (sym (kind_uid side layout.cred layout.phase its) ∙ i)) (λ off. (Keeps i, its))

  target_uses : (layout : LayoutState) (c : CopyState) (cause : LeftCause) (o : Option MirrorId) → Has layout → is_some (kind_of layout.phase) ≡ true → StepUses (target_left file layout c fresh cause o)
  target_uses layout c cause None i its = copied_uses layout c i its
  target_uses layout c cause (Some id) i its =
      let behind : StepUses (copied_on file (mirror_left file layout id cause).file c fresh) = copied_uses (mirror_left file layout id cause).file c (left_has layout id cause i) (left_kind layout id cause its) in
      ((tt, behind.0), behind.1)

  copy_uses : (layout : LayoutState) (c : CopyState) (s : CopyStep) → Has layout → is_some (kind_of layout.phase) ≡ true → StepUses (copy_stepped file layout c fresh s)
  copy_uses layout c copy_step.Stranger i its = (Keeps i, its)
  copy_uses layout c copy_step.Waiting i its = (Keeps i, its)
  copy_uses layout c (copy_step.SourceFailed cause) i its = leaves_uses layout layout.live cause (Copies c) i its
  copy_uses layout c (copy_step.TargetFailed server replaced cause) i its = target_uses layout c cause replaced i its
  copy_uses layout c copy_step.Done i its = copied_uses layout c i its

  -- ---- answers and timeouts

  answered_uses : (f : MdsFile) (xid : ℕ) (reply : DsReplyValue) (a : Activity) → Agrees a f.layout.phase → Has f.layout → None_of f → StepUses (answered_in file f xid reply fresh a)
  answered_uses f xid reply Idle its i none = none
  answered_uses f xid reply (Makes all) its i none = making_uses f.layout all (λ c. creation_answered all c reply) (creation_of all xid) i its
  answered_uses f xid reply (Fences x) its i none =
      fence_uses (seen_by f.layout (mirror_at x (outstanding_at x xid)) (shown_by_set reply)) (on_reply x xid reply).fence (on_reply x xid reply).step
      (seen_has f.layout (mirror_at x (outstanding_at x xid)) (shown_by_set reply) i)
  answered_uses f xid reply (Settles stage) its i none =
      let layout : LayoutState = seen_at_source f.layout f.layout.live (shown_by_commit reply) in
      let same : layout.cred ≡ f.layout.cred = source_cred f.layout f.layout.live (shown_by_commit reply) in
      cond_both (is_out xid stage) (settles_by f (λ copies. settling_answered file layout copies fresh reply) (kind_of f.layout.phase)) (nothing f) StepUses
      (λ is. settles_uses f (λ copies. settling_answered file layout copies fresh reply) (kind_of f.layout.phase) refl
      (λ copies is. settling_uses layout copies reply (source_has f.layout f.layout.live (shown_by_commit reply) i)
      (ap (λ (c : Cred). Some c.0) same ∙ sym (kind_uid side f.layout.cred f.layout.phase is) ∙ i)) none)
      (λ off. none)
  answered_uses f xid reply (Copies c) its i none = copy_uses f.layout (copy.on_reply c xid reply).copy (copy.on_reply c xid reply).step i its

  late_uses : (f : MdsFile) (xid : ℕ) (a : Activity) → Agrees a f.layout.phase → Has f.layout → None_of f → StepUses (timed_out_in file f xid fresh a)
  late_uses f xid Idle its i none = none
  late_uses f xid (Makes all) its i none = making_uses f.layout all (creation_timed_out all) (creation_of all xid) i its
  late_uses f xid (Fences x) its i none = fence_uses f.layout (on_timeout x xid).fence (on_timeout x xid).step i
  late_uses f xid (Settles stage) its i none = cond_both (is_out xid stage) (settling_timed_out file f.layout stage) (nothing f) StepUses (λ is. settling_late_uses f.layout stage i) (λ off. none)
  late_uses f xid (Copies c) its i none = copy_uses f.layout (copy.on_timeout c xid).copy (copy.on_timeout c xid).step i its

-- each input of the table
pub phase_uses : (side : Side) (file : FileId) (fresh : Fresh) (f : MdsFile) (input : FileInput) → Agrees f.activity f.layout.phase
    → Uses side fresh.uid (fresh.uid + (phase file f input fresh).uids) (uid_of side f.layout) (phase file f input fresh).entries (uid_of side (phase file f input fresh).file.layout)
    × Agrees (phase file f input fresh).file.activity (phase file f input fresh).file.layout.phase
phase_uses side file fresh f (AsksLayout client) its = asked_uses side file fresh (uid_of side f.layout) f (Client client) [] f.layout.phase refl tt refl its
phase_uses side file fresh f (OwnWrite at bytes) its = asked_uses side file fresh (uid_of side f.layout) f Mds (entry.Sent file f.layout.cred at bytes ∷ []) f.layout.phase refl (refl, tt) refl its
phase_uses side file fresh f Recall its =
    held_uses side file fresh (uid_of side f.layout) f (by_client f (recalled_row f)) f.layout.phase refl
    (λ holder was at. client_uses side file fresh (uid_of side f.layout) f (recalled_row f) (λ n. recalled_uses side file fresh (uid_of side f.layout) f holder was at refl its n) (Keeps refl, its) holder) (Keeps refl, its)
phase_uses side file fresh f (Returns client claimed places) its =
    held_uses side file fresh (uid_of side f.layout) f (by_client f (returned_row file f client claimed places fresh)) f.layout.phase refl
    (λ holder was at. client_uses side file fresh (uid_of side f.layout) f (returned_row file f client claimed places fresh) (λ n. returned_uses side file fresh (uid_of side f.layout) f client claimed places n (ap (uid_by side f.layout.cred) at) (Keeps refl, its)) (Keeps refl, its) holder)
    (Keeps refl, its)
phase_uses side file fresh f (Revokes cause) its =
    held_uses side file fresh (uid_of side f.layout) f (by_client f (λ client. revoked_row file f cause fresh)) f.layout.phase refl
    (λ holder was at. client_uses side file fresh (uid_of side f.layout) f (λ client. revoked_row file f cause fresh) (λ n. revoked_uses side file fresh (uid_of side f.layout) f cause (ap (uid_by side f.layout.cred) at) (Keeps refl, its)) (Keeps refl, its) holder) (Keeps refl, its)
phase_uses side file fresh f (OwnEnds causes at bytes) its =
    let told : Entry = entry.Told file f.layout.cred at bytes in
    held_uses side file fresh (uid_of side f.layout) f (by_mds f (own_row file f causes told fresh)) f.layout.phase refl
    (λ holder was at. mds_uses side file fresh (uid_of side f.layout) f (own_row file f causes told fresh) (own_uses side file fresh (uid_of side f.layout) f causes told (ap (uid_by side f.layout.cred) at) refl) (Keeps refl, its) holder) (Keeps refl, its)
phase_uses side file fresh f Resilver its = resilver_uses side file fresh (uid_of side f.layout) f f.layout.phase refl refl its
phase_uses side file fresh f (Answers xid reply) its = answered_uses side file fresh (uid_of side f.layout) f xid reply f.activity its refl (Keeps refl, its)
phase_uses side file fresh f (TimesOut xid) its = late_uses side file fresh (uid_of side f.layout) f xid f.activity its refl (Keeps refl, its)
phase_uses side file fresh f Ticks its = (Keeps refl, ticked_agrees f.activity f.layout.phase its)
phase_uses side file fresh f (Sees id seen) its = (Keeps refl, its)

-- ---- a call that goes out

module _ (f : MdsFile) where
  abbrev OutAgrees : Option CallOut → Type 0
  OutAgrees None = Unit {0}
  OutAgrees (Some c) = Agrees c.file.activity c.file.layout.phase

  create_at_agrees : (all : Creations) (xid place : ℕ) (o : Option Creation) → is_making f.layout.phase ≡ true → OutAgrees (create_out_at f all xid place o)
  create_at_agrees all xid place None its = tt
  create_at_agrees all xid place (Some c) its = its

  create_agrees : (all : Creations) (xid : ℕ) (o : Option ℕ) → is_making f.layout.phase ≡ true → OutAgrees (create_out f all xid o)
  create_agrees all xid None its = tt
  create_agrees all xid (Some place) its = create_at_agrees all xid place (slice_get all.items place) its

  fence_agrees : (o : Option FenceCall) → OutAgrees (fence_out f o)
  fence_agrees None = tt
  fence_agrees (Some c) = tt

  settle_agrees : (xid : ℕ) (live : List Mirror) → OutAgrees (settle_out f xid live)
  settle_agrees xid [] = tt
  settle_agrees xid (m ∷ live) = tt

  copy_agrees : (o : Option CopyCall) → is_some (kind_of f.layout.phase) ≡ true → OutAgrees (copy_out f o)
  copy_agrees None its = tt
  copy_agrees (Some c) its = its

  out_of_agrees : (xid : ℕ) (a : Activity) → Agrees a f.layout.phase → OutAgrees (call_out_of f xid a)
  out_of_agrees xid Idle its = tt
  out_of_agrees xid (Makes all) its = create_agrees all xid (creation_waiting all) its
  out_of_agrees xid (Fences x) its = fence_agrees (next_call x xid)
  out_of_agrees xid (Settles stage) its = cond_both (waits stage) (settle_out f xid f.layout.live) None OutAgrees (λ is. settle_agrees xid f.layout.live) (λ off. tt)
  out_of_agrees xid (Copies c) its = copy_agrees (copy.next_call c xid) its

  pub out_agrees : (xid : ℕ) (c : CallOut) → Agrees f.activity f.layout.phase → call_out f xid ≡ Some c → Agrees c.file.activity c.file.layout.phase
  out_agrees xid c its is = subst OutAgrees is (out_of_agrees xid f.activity its)
