-- An input of a file that draws names draws a uid.
use Rattle.std.proofs.Common.{◌≡◌, ◌⊎◌, refl, inl, inr, ℕ, ◌+◌, Bool, true, false, cond, List, [], ◌∷◌, length, Option, Some, None}
use Rattle.std.specs.Prelude.{◌==◌, ◌&&◌, nat_lt, slice_get, if◌then◌else◌}
use Rattle.std.specs.List.{list_all}
use Rattle.std.proofs.lemmas.Bool.{cond_both}
use Rattle.cluster_model.specs.declared.limits.TheConstants.{MAX_TIMEOUTS}
use Rattle.cluster_model.specs.declared.ids.NodeId.{NodeId}
use Rattle.cluster_model.specs.declared.ids.NodeId.TheVariants.{Mds, Server, Client}
use Rattle.cluster_model.specs.declared.ids.FileId.{FileId}
use Rattle.cluster_model.specs.declared.ids.Cred.{Cred}
use Rattle.cluster_model.specs.declared.ids.Mirror.{Mirror}
use Rattle.cluster_model.specs.declared.ids.MirrorId.{MirrorId}
use Rattle.cluster_model.specs.declared.phase.EndCause.{EndCause}
use Rattle.cluster_model.specs.declared.phase.LeftCause.{LeftCause}
use Rattle.cluster_model.specs.declared.phase.LeftCause.TheVariants.{Error, Timeouts}
use Rattle.cluster_model.specs.declared.call_stage.CallStage.{CallStage}
use Rattle.cluster_model.specs.declared.call_stage.CallStage.TheVariants.{Waits, Out, KeptOut, KeptBack, Done, GivenUp}
use Rattle.cluster_model.specs.declared.entry.Entry.{Entry}
use Rattle.cluster_model.specs.declared.entry.Entry.TheVariants as entry
use Rattle.cluster_model.specs.declared.fence_mirror.FenceStep.{FenceStep}
use Rattle.cluster_model.specs.declared.fence_mirror.FenceStep.TheVariants.{Stranger, Acked, Again, Failed as HasFailed}
use Rattle.cluster_model.specs.declared.layout_state.LayoutState.{LayoutState}
use Rattle.cluster_model.specs.declared.layout_state.LayoutPhase.{LayoutPhase}
use Rattle.cluster_model.specs.declared.layout_state.LayoutPhase.TheVariants.{Making, Free, Held, Fencing, Settling, Copying}
use Rattle.cluster_model.specs.declared.layout_state.CopyKind.{CopyKind}
use Rattle.cluster_model.specs.declared.targets.SwappedIn.{SwappedIn}
use Rattle.cluster_model.specs.DsCalls.{DsReplyValue, Created, Set, Written, Committed, Bytes, NotSync, Failed}
use Rattle.cluster_model.specs.Fences.{is_out, is_over, odd_status, FenceState, outstanding_at, on_reply, on_timeout, without, is_done}
use Rattle.cluster_model.specs.Phases.{is_last_live, with_phase, is_clean, PhaseStep, freed, made, granted, returned, revoked, mirror_left, fence_done, has_targets, resilvered}
use Rattle.copy_rule.specs.declared.copy_target.CopyStep.{CopyStep}
use Rattle.copy_rule.specs.declared.copy_target.CopyStep.TheVariants as copy_step
use Rattle.copy_rule.specs.Copies.{CopyState, CopyCall, has_outcome, swaps_of}
use Rattle.copy_rule.specs.Copies as copy
use Rattle.file_rule.specs.declared.creation.Creation.{Creation}
use Rattle.file_rule.specs.declared.fresh.Fresh.{Fresh}
use Rattle.file_rule.specs.MdsFiles.{Creations, Activity, Idle, Makes, Fences, Settles, Copies, MdsFile, FileStep, nothing, stays, a_uid, goes_idle, goes_fencing, goes_on, with_entries, fenced_on, fence_stepped, shown_by_set, seen_by, mirror_at, with_creation, creation_of, creation_answered, creation_timed_out, all_made, making_on, making_at, making_by, plan_of, copying, settled, source_left, shown_by_commit, seen_at_source, settling_answered, settling_timed_out, copied_by, copied_on, target_left, copy_stepped}
use Rattle.file_rule.specs.FilePhases.{FileInput, AsksLayout, OwnWrite, Recall, Returns, Revokes, OwnEnds, Resilver, Answers, TimesOut, Ticks, Sees, are_spent, asked_in, held_in, by_client, by_mds, recalled_row, returned_row, revoked_row, own_row, resilvered_in, kind_of, settles_by, answered_in, timed_out_in, phase}

module _ (file : FileId) (fresh : Fresh) where
  abbrev DrawsBoth : FileStep → Type 0
  DrawsBoth x = (x.names ≡ 0) ⊎ (x.uids ≡ 1)

  asked_draws : (f : MdsFile) (holder : NodeId) (entries : List Entry) (p : LayoutPhase) → DrawsBoth (asked_in file f holder entries fresh p)
  asked_draws f holder entries Making = inl refl
  asked_draws f holder entries Free =
      cond_both (are_spent fresh) (nothing f)
      (with_entries (granted file f.layout holder).entries (record { file = record { layout = (granted file f.layout holder).file; activity = f.activity }; entries = entries; uids = 0; names = 0 })) DrawsBoth (λ is. inl refl) (λ off. inl refl)
  asked_draws f holder entries (Held other recalled) = inl refl
  asked_draws f holder entries (Fencing next end) = inl refl
  asked_draws f holder entries (Settling copies) = inl refl
  asked_draws f holder entries (Copying copier copies) = inl refl

  held_draws : (f : MdsFile) (row : NodeId → FileStep) (p : LayoutPhase) → ((holder : NodeId) → DrawsBoth (row holder)) → DrawsBoth (held_in f row p)
  held_draws f row Making all = inl refl
  held_draws f row Free all = inl refl
  held_draws f row (Held holder recalled) all = all holder
  held_draws f row (Fencing next end) all = inl refl
  held_draws f row (Settling copies) all = inl refl
  held_draws f row (Copying copier copies) all = inl refl

  client_draws : (f : MdsFile) (row : ℕ → FileStep) → ((n : ℕ) → DrawsBoth (row n)) → (holder : NodeId) → DrawsBoth (by_client f row holder)
  client_draws f row all Mds = inl refl
  client_draws f row all (Server n) = inl refl
  client_draws f row all (Client n) = all n

  mds_draws : (f : MdsFile) (row : FileStep) → DrawsBoth row → (holder : NodeId) → DrawsBoth (by_mds f row holder)
  mds_draws f row its Mds = its
  mds_draws f row its (Server n) = inl refl
  mds_draws f row its (Client n) = inl refl

  returned_draws : (f : MdsFile) (client : ℕ) (claimed : Cred) (places : List Bool) (holder : ℕ) → DrawsBoth (returned_row file f client claimed places fresh holder)
  returned_draws f client claimed places holder =
      cond_both (holder == client && (f.layout.cred.0 == claimed.0)) (goes_fencing (returned file f.layout places (a_uid fresh.uid)) fresh.uid) (nothing f) DrawsBoth
      (λ is. inl refl) (λ off. inl refl)

  revoked_draws : (f : MdsFile) (cause : EndCause) → DrawsBoth (revoked_row file f cause fresh)
  revoked_draws f cause = cond_both (is_clean cause) (nothing f) (goes_fencing (revoked file f.layout cause (a_uid fresh.uid)) fresh.uid) DrawsBoth (λ is. inl refl) (λ off. inl refl)

  own_draws : (f : MdsFile) (causes : List (Option LeftCause)) (told : Entry) → DrawsBoth (own_row file f causes told fresh)
  own_draws f causes told = inl refl

  resilver_draws : (f : MdsFile) (p : LayoutPhase) → DrawsBoth (resilvered_in f fresh p)
  resilver_draws f Making = inl refl
  resilver_draws f Free = cond_both (nat_lt (length f.layout.live) f.layout.wanted && (if are_spent fresh then false else true)) (stays (resilvered f.layout) (Settles Waits)) (nothing f) DrawsBoth (λ is. inl refl) (λ off. inl refl)
  resilver_draws f (Held holder recalled) = inl refl
  resilver_draws f (Fencing next end) = inl refl
  resilver_draws f (Settling copies) = inl refl
  resilver_draws f (Copying copier copies) = inl refl

  -- ---- CREATEs

  on_draws : (layout : LayoutState) (all : Creations) → DrawsBoth (making_on file layout all)
  on_draws layout all =
      cond_both (list_all (λ (c : Creation). is_over c.stage) all.items) (goes_idle (made file layout (all_made all)) 0) (stays layout (Makes all)) DrawsBoth (λ is. inl refl) (λ off. inl refl)

  making_at_draws : (layout : LayoutState) (all : Creations) (step : Creation → Creation) (place : ℕ) (o : Option Creation) → DrawsBoth (making_at file layout all step place o)
  making_at_draws layout all step place None = inl refl
  making_at_draws layout all step place (Some c) = on_draws layout (with_creation all place (step c))

  making_draws : (layout : LayoutState) (all : Creations) (step : Creation → Creation) (o : Option ℕ) → DrawsBoth (making_by file layout all step o)
  making_draws layout all step None = inl refl
  making_draws layout all step (Some place) = making_at_draws layout all step place (slice_get all.items place)

  -- ---- a fence

  fenced_on_draws : (layout : LayoutState) (x : FenceState) → DrawsBoth (fenced_on file layout x)
  fenced_on_draws layout x = cond_both (is_done x) (goes_on (fence_done file layout)) (stays layout (Fences x)) DrawsBoth (λ is. inl refl) (λ off. inl refl)

  fence_draws : (layout : LayoutState) (x : FenceState) (s : FenceStep) → DrawsBoth (fence_stepped file layout x s)
  fence_draws layout x Stranger = inl refl
  fence_draws layout x Acked = fenced_on_draws layout x
  fence_draws layout x Again = inl refl
  fence_draws layout x (HasFailed id cause) =
      cond_both (is_last_live layout.live) (stays layout (Fences x)) (with_entries (mirror_left file layout id cause).entries (fenced_on file (mirror_left file layout id cause).file (without x id))) DrawsBoth (λ is. inl refl)
      (λ off. fenced_on_draws (mirror_left file layout id cause).file (without x id))

  -- ---- the COMMIT of a source

  leaves_draws : (layout : LayoutState) (live : List Mirror) (cause : LeftCause) (kept : Activity) → DrawsBoth (source_left file layout live cause kept)
  leaves_draws layout [] cause kept = inl refl
  leaves_draws layout (m ∷ live) cause kept =
      cond_both (is_last_live layout.live) (stays layout kept)
      (record { file = record { layout = (mirror_left file layout m.id cause).file; activity = Settles Waits }; entries = (mirror_left file layout m.id cause).entries; uids = 0; names = 0 }) DrawsBoth
      (λ is. inl refl) (λ off. inl refl)

  commit_draws : (layout : LayoutState) (copies : CopyKind) → DrawsBoth (settled file layout copies fresh)
  commit_draws layout copies = by_targets (has_targets copies (length layout.live) layout.wanted)
    where
      by_targets : (b : Bool) → DrawsBoth (cond {A = FileStep} b
          (copying (cond {A = PhaseStep} b (record { file = with_phase layout (Copying (a_uid fresh.uid) copies); entries = [] }) (freed file layout)).file fresh (plan_of copies layout fresh))
          (goes_idle (cond {A = PhaseStep} b (record { file = with_phase layout (Copying (a_uid fresh.uid) copies); entries = [] }) (freed file layout)) 0))
      by_targets true = inr refl
      by_targets false = inl refl

  settling_draws : (layout : LayoutState) (copies : CopyKind) (reply : DsReplyValue) → DrawsBoth (settling_answered file layout copies fresh reply)
  settling_draws layout copies (Created fileid shown) = leaves_draws layout layout.live (Error odd_status) (Settles KeptBack)
  settling_draws layout copies (Set shown) = leaves_draws layout layout.live (Error odd_status) (Settles KeptBack)
  settling_draws layout copies (Written shown verifier) = leaves_draws layout layout.live (Error odd_status) (Settles KeptBack)
  settling_draws layout copies (Committed shown verifier) = commit_draws layout copies
  settling_draws layout copies (Bytes shown eof bytes) = leaves_draws layout layout.live (Error odd_status) (Settles KeptBack)
  settling_draws layout copies (NotSync shown) = leaves_draws layout layout.live (Error odd_status) (Settles KeptBack)
  settling_draws layout copies (Failed status shown) = leaves_draws layout layout.live (Error status) (Settles KeptBack)

  settling_late_draws : (layout : LayoutState) (s : CallStage) → DrawsBoth (settling_timed_out file layout s)
  settling_late_draws layout Waits = inl refl
  settling_late_draws layout (Out xid timeouts) =
      cond_both (nat_lt (timeouts + 1) MAX_TIMEOUTS) (stays layout (Settles (Out xid (timeouts + 1)))) (source_left file layout layout.live Timeouts (Settles (KeptOut xid))) DrawsBoth (λ is. inl refl)
      (λ off. leaves_draws layout layout.live Timeouts (Settles (KeptOut xid)))
  settling_late_draws layout (KeptOut xid) = inl refl
  settling_late_draws layout KeptBack = inl refl
  settling_late_draws layout Done = inl refl
  settling_late_draws layout GivenUp = inl refl

  settles_draws : (f : MdsFile) (row : CopyKind → FileStep) (o : Option CopyKind) → ((copies : CopyKind) → DrawsBoth (row copies)) → DrawsBoth (settles_by f row o)
  settles_draws f row None all = inl refl
  settles_draws f row (Some copies) all = all copies

  -- ---- a copy

  copied_by_draws : (layout : LayoutState) (copier : Cred) (targets : List SwappedIn) → DrawsBoth (copied_by file layout copier targets fresh)
  copied_by_draws layout copier [] = inl refl
  copied_by_draws layout copier (t ∷ targets) = inl refl

  copied_draws : (layout : LayoutState) (c : CopyState) → DrawsBoth (copied_on file layout c fresh)
  copied_draws layout c = cond_both (has_outcome c) (copied_by file layout (a_uid c.copier) (swaps_of c) fresh) (stays layout (Copies c)) DrawsBoth (λ is. copied_by_draws layout (a_uid c.copier) (swaps_of c)) (λ off. inl refl)

  target_draws : (layout : LayoutState) (c : CopyState) (cause : LeftCause) (o : Option MirrorId) → DrawsBoth (target_left file layout c fresh cause o)
  target_draws layout c cause None = copied_draws layout c
  target_draws layout c cause (Some id) = copied_draws (mirror_left file layout id cause).file c

  copy_draws : (layout : LayoutState) (c : CopyState) (s : CopyStep) → DrawsBoth (copy_stepped file layout c fresh s)
  copy_draws layout c copy_step.Stranger = inl refl
  copy_draws layout c copy_step.Waiting = inl refl
  copy_draws layout c (copy_step.SourceFailed cause) = leaves_draws layout layout.live cause (Copies c)
  copy_draws layout c (copy_step.TargetFailed server replaced cause) = target_draws layout c cause replaced
  copy_draws layout c copy_step.Done = copied_draws layout c

  -- ---- answers and timeouts

  answered_draws : (f : MdsFile) (xid : ℕ) (reply : DsReplyValue) (a : Activity) → DrawsBoth (answered_in file f xid reply fresh a)
  answered_draws f xid reply Idle = inl refl
  answered_draws f xid reply (Makes all) = making_draws f.layout all (λ c. creation_answered all c reply) (creation_of all xid)
  answered_draws f xid reply (Fences x) = fence_draws (seen_by f.layout (mirror_at x (outstanding_at x xid)) (shown_by_set reply)) (on_reply x xid reply).fence (on_reply x xid reply).step
  answered_draws f xid reply (Settles stage) =
      let layout : LayoutState = seen_at_source f.layout f.layout.live (shown_by_commit reply) in
      cond_both (is_out xid stage) (settles_by f (λ copies. settling_answered file layout copies fresh reply) (kind_of f.layout.phase)) (nothing f) DrawsBoth
      (λ is. settles_draws f (λ copies. settling_answered file layout copies fresh reply) (kind_of f.layout.phase) (λ copies. settling_draws layout copies reply)) (λ off. inl refl)
  answered_draws f xid reply (Copies c) = copy_draws f.layout (copy.on_reply c xid reply).copy (copy.on_reply c xid reply).step

  late_draws : (f : MdsFile) (xid : ℕ) (a : Activity) → DrawsBoth (timed_out_in file f xid fresh a)
  late_draws f xid Idle = inl refl
  late_draws f xid (Makes all) = making_draws f.layout all (creation_timed_out all) (creation_of all xid)
  late_draws f xid (Fences x) = fence_draws f.layout (on_timeout x xid).fence (on_timeout x xid).step
  late_draws f xid (Settles stage) = cond_both (is_out xid stage) (settling_timed_out file f.layout stage) (nothing f) DrawsBoth (λ is. settling_late_draws f.layout stage) (λ off. inl refl)
  late_draws f xid (Copies c) = copy_draws f.layout (copy.on_timeout c xid).copy (copy.on_timeout c xid).step

  pub names_by_uid : (f : MdsFile) (input : FileInput) → DrawsBoth (phase file f input fresh)
  names_by_uid f (AsksLayout client) = asked_draws f (Client client) [] f.layout.phase
  names_by_uid f (OwnWrite at bytes) = asked_draws f Mds (entry.Sent file f.layout.cred at bytes ∷ []) f.layout.phase
  names_by_uid f Recall = held_draws f (by_client f (recalled_row f)) f.layout.phase (client_draws f (recalled_row f) (λ n. inl refl))
  names_by_uid f (Returns client claimed places) = held_draws f (by_client f (returned_row file f client claimed places fresh)) f.layout.phase (client_draws f (returned_row file f client claimed places fresh) (λ n. returned_draws f client claimed places n))
  names_by_uid f (Revokes cause) = held_draws f (by_client f (λ client. revoked_row file f cause fresh)) f.layout.phase (client_draws f (λ client. revoked_row file f cause fresh) (λ n. revoked_draws f cause))
  names_by_uid f (OwnEnds causes at bytes) =
      held_draws f (by_mds f (own_row file f causes (entry.Told file f.layout.cred at bytes) fresh)) f.layout.phase
      (mds_draws f (own_row file f causes (entry.Told file f.layout.cred at bytes) fresh) (own_draws f causes (entry.Told file f.layout.cred at bytes)))
  names_by_uid f Resilver = resilver_draws f f.layout.phase
  names_by_uid f (Answers xid reply) = answered_draws f xid reply f.activity
  names_by_uid f (TimesOut xid) = late_draws f xid f.activity
  names_by_uid f Ticks = inl refl
  names_by_uid f (Sees id seen) = inl refl
