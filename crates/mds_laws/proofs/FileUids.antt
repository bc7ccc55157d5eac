-- The uids of a file's layout, of the fence and the copy that it has under way, are drawn ones; and under which its calls go out.
use Rattle.std.proofs.Common.{◌≡◌, ◌≤◌, ℕ, ◌+◌, Bool, true, false, List, [], ◌∷◌, length, Option, Some, None, refl, sym, subst}
use Rattle.std.specs.Prelude.{◌==◌, ◌&&◌, not, nat_lt, slice_get, map, is_some, if◌then◌else◌}
use Rattle.std.specs.List.{list_all}
use Rattle.std.proofs.lemmas.Bool.{cond_both}
use Rattle.cluster_model.specs.declared.limits.TheConstants.{MAX_TIMEOUTS}
use Rattle.cluster_model.specs.declared.ids.NodeId.{NodeId}
use Rattle.cluster_model.specs.declared.ids.NodeId.TheVariants.{Mds, Server, Client}
use Rattle.cluster_model.specs.declared.ids.FileId.{FileId}
use Rattle.cluster_model.specs.declared.ids.Cred.{Cred}
use Rattle.cluster_model.specs.declared.ids.Mirror.{Mirror}
use Rattle.cluster_model.specs.declared.ids.MirrorId.{MirrorId}
use Rattle.cluster_model.specs.declared.phase.EndCause.{EndCause}
use Rattle.cluster_model.specs.declared.phase.LeftCause.{LeftCause}
use Rattle.cluster_model.specs.declared.phase.LeftCause.TheVariants.{Error, Timeouts}
use Rattle.cluster_model.specs.declared.ds_call.Shown.{Shown}
use Rattle.cluster_model.specs.declared.call_stage.CallStage.{CallStage}
use Rattle.cluster_model.specs.declared.call_stage.CallStage.TheVariants.{Waits, Out, KeptOut, KeptBack, Done, GivenUp}
use Rattle.cluster_model.specs.declared.entry.Entry.{Entry}
use Rattle.cluster_model.specs.declared.entry.Entry.TheVariants as entry
use Rattle.cluster_model.specs.declared.fence_mirror.FenceMirror.{FenceMirror}
use Rattle.cluster_model.specs.declared.fence_mirror.FenceStep.{FenceStep}
use Rattle.cluster_model.specs.declared.fence_mirror.FenceStep.TheVariants.{Stranger, Acked, Again, Failed as HasFailed}
use Rattle.cluster_model.specs.declared.layout_state.LayoutState.{LayoutState}
use Rattle.cluster_model.specs.declared.layout_state.LayoutPhase.{LayoutPhase}
use Rattle.cluster_model.specs.declared.layout_state.LayoutPhase.TheVariants.{Making, Free, Held, Fencing, Settling, Copying}
use Rattle.cluster_model.specs.declared.layout_state.FenceEnd.{FenceEnd}
use Rattle.cluster_model.specs.declared.layout_state.FenceEnd.TheVariants.{Clean, Dirty, Copied}
use Rattle.cluster_model.specs.declared.layout_state.CopyKind.{CopyKind}
use Rattle.cluster_model.specs.declared.targets.SwappedIn.{SwappedIn}
use Rattle.cluster_model.specs.DsCalls.{DsReplyValue, Created, Set, Written, Committed, Bytes, NotSync, Failed}
use Rattle.cluster_model.specs.Fences.{waits, is_out, is_over, odd_status, FenceState, outstanding_at, on_reply, on_timeout, without, is_done}
use Rattle.cluster_model.specs.Fences as fence
use Rattle.cluster_model.specs.Phases.{is_last_live, with_phase, is_clean, unreported, is_source, PhaseStep, freed, made, granted, recalled, left_with, returned, revoked, phase_without, mirror_left, phase_fenced, fenced_to, after_fence, fence_done, has_targets, settled_row, resilvered}
use Rattle.copy_rule.specs.declared.copy_target.CopyTarget.{CopyTarget}
use Rattle.copy_rule.specs.declared.copy_target.CopyStep.{CopyStep}
use Rattle.copy_rule.specs.declared.copy_target.CopyStep.TheVariants as copy_step
use Rattle.copy_rule.specs.Copies.{CopyState, CopyCall, CopyAfter, TargetStep, with_target, with_read, with_piece, with_next, has_outcome, have_answered, may_read_on, swaps_of, copy_then, stranger, source_fails, read_answered, read_late, is_long, by_read, step_at, step_from, target_of, target_answered, target_late, waiting_at, target_call_at, call_from, target_call, target_caller}
use Rattle.copy_rule.specs.Copies as copy
use Rattle.file_rule.specs.declared.creation.Creation.{Creation}
use Rattle.file_rule.specs.declared.fresh.Fresh.{Fresh}
use Rattle.file_rule.specs.MdsFiles.{Creations, Activity, Idle, Makes, Fences, Settles, Copies, MdsFile, FileStep, nothing, stays, a_uid, goes_idle, goes_fencing, begun_by, goes_on, with_entries, fenced_on, fence_stepped, shown_by_set, seen_by, mirror_at, with_creation, creation_of, creation_answered, creation_timed_out, all_made, making_on, making_at, making_by, plan_of, copying, settled, source_left, shown_by_commit, seen_at_source, settling_answered, settling_timed_out, copied_by, copied_on, target_left, copy_stepped}
use Rattle.file_rule.specs.FilePhases.{FileInput, AsksLayout, OwnWrite, Recall, Returns, Revokes, OwnEnds, Resilver, Answers, TimesOut, Ticks, Sees, are_spent, asked_in, held_in, by_client, by_mds, recalled_row, returned_row, revoked_row, own_row, resilvered_in, kind_of, settles_by, answered_in, timed_out_in, ticked, phase, CallOut, creation_waiting, create_out_at, create_out, fence_out, settle_out, copy_out, call_out_of, call_out}
use Rattle.mds_laws.specs.MdsRunLaws.{IsUidOf}

-- ---- what fits

abbrev pub PhaseFits : LayoutPhase → Type 0
PhaseFits Making = Unit {0}
PhaseFits Free = Unit {0}
PhaseFits (Held holder recalled) = Unit {0}
PhaseFits (Fencing next end) = 65536 ≤ next.0
PhaseFits (Settling copies) = Unit {0}
PhaseFits (Copying copier copies) = Unit {0}

abbrev pub ActivityFits : Activity → Type 0
ActivityFits Idle = Unit {0}
ActivityFits (Makes all) = Unit {0}
ActivityFits (Fences f) = Unit {0}
ActivityFits (Settles stage) = Unit {0}
ActivityFits (Copies c) = 65536 ≤ c.copier

pub record LayoutFits (l : LayoutState) : Type 0 where
  pub cred : 65536 ≤ l.cred.0
  pub phase : PhaseFits l.phase

pub record FileFits (f : MdsFile) : Type 0 where
  pub layout_fits : LayoutFits f.layout
  pub calls : ActivityFits f.activity

begun_fits : (p : LayoutPhase) → ActivityFits (begun_by p)
begun_fits Making = tt
begun_fits Free = tt
begun_fits (Held holder recalled) = tt
begun_fits (Fencing next end) = tt
begun_fits (Settling copies) = tt
begun_fits (Copying copier copies) = tt

-- ---- rows

loss_fits : (p : LayoutPhase) (source : Bool) → PhaseFits p → PhaseFits (phase_without p source)
loss_fits Making source i = tt
loss_fits Free source i = tt
loss_fits (Held holder recalled) source i = tt
loss_fits (Fencing next end) source i = i
loss_fits (Settling copies) source i = tt
loss_fits (Copying copier copies) source i = cond_both source (Settling copies) (Copying copier copies) PhaseFits (λ is. tt) (λ off. tt)

left_fits : (file : FileId) (s : LayoutState) (id : MirrorId) (cause : LeftCause) → LayoutFits s → LayoutFits (mirror_left file s id cause).file
left_fits file s id cause i = record { cred = i.cred; phase = loss_fits s.phase (is_source id s.live) i.phase }

end_fits : (end : FenceEnd) → PhaseFits (phase_fenced end)
end_fits Clean = tt
end_fits Dirty = tt
end_fits Copied = tt

fenced_fits : (s : LayoutState) (p : LayoutPhase) → PhaseFits p → LayoutFits s → LayoutFits (fenced_to s p)
fenced_fits s Making its i = i
fenced_fits s Free its i = i
fenced_fits s (Held holder recalled) its i = i
fenced_fits s (Fencing next end) its i = record { cred = its; phase = end_fits end }
fenced_fits s (Settling copies) its i = i
fenced_fits s (Copying copier copies) its i = i

return_fits : (s : LayoutState) (next : Cred) (live : List Mirror) → 65536 ≤ next.0 → LayoutFits s → LayoutFits (left_with s next live)
return_fits s next [] drawn i = record { cred = i.cred; phase = drawn }
return_fits s next (m ∷ live) drawn i = record { cred = i.cred; phase = drawn }

settled_fits : (file : FileId) (s : LayoutState) (copies : CopyKind) (copier : Cred) → LayoutFits s → LayoutFits (settled_row file s copies copier).file
settled_fits file s copies copier i =
    cond_both (has_targets copies (length s.live) s.wanted) (record { file = with_phase s (Copying copier copies); entries = [] }) (freed file s) (λ (x : PhaseStep). LayoutFits x.file)
    (λ is. record { cred = i.cred; phase = tt }) (λ off. record { cred = i.cred; phase = tt })

seen_fits : (s : LayoutState) (o : Option FenceMirror) (shown : Option Shown) → LayoutFits s → LayoutFits (seen_by s o shown)
seen_fits s None shown i = i
seen_fits s (Some m) None i = i
seen_fits s (Some m) (Some shown) i = record { cred = i.cred; phase = i.phase }

source_fits : (s : LayoutState) (live : List Mirror) (shown : Option Shown) → LayoutFits s → LayoutFits (seen_at_source s live shown)
source_fits s [] shown i = i
source_fits s (m ∷ live) None i = i
source_fits s (m ∷ live) (Some shown) i = record { cred = i.cred; phase = i.phase }

-- ---- a copy keeps its uid

module _ (c : CopyState) where
  abbrev Same : CopyAfter → Type 0
  Same a = a.copy.copier ≡ c.copier

  then_same : (x : CopyState) (s : CopyStep) → x.copier ≡ c.copier → Same (copy_then x s)
  then_same x s is = cond_both (is_over x.read && not x.ended && have_answered x) (with_next x) x (λ (y : CopyState). y.copier ≡ c.copier) (λ on. is) (λ off. is)

  read_same : (reply : DsReplyValue) → Same (read_answered c reply)
  read_same (Created fileid shown) = refl
  read_same (Set shown) = refl
  read_same (Written shown verifier) = refl
  read_same (Committed shown verifier) = refl
  read_same (Bytes shown eof bytes) =
      cond_both (is_long c bytes) (source_fails c KeptBack (Error odd_status)) (copy_then (with_piece c eof bytes) copy_step.Waiting) Same (λ is. refl) (λ off. then_same (with_piece c eof bytes) copy_step.Waiting refl)
  read_same (NotSync shown) = refl
  read_same (Failed status shown) = refl

  late_same : (s : CallStage) → Same (read_late c s)
  late_same Waits = refl
  late_same (Out xid timeouts) =
      cond_both (nat_lt (timeouts + 1) MAX_TIMEOUTS) (record { copy = with_read c (Out xid (timeouts + 1)); step = copy_step.Waiting }) (source_fails c (KeptOut xid) Timeouts) Same (λ is. refl) (λ off. refl)
  late_same (KeptOut xid) = refl
  late_same KeptBack = refl
  late_same Done = refl
  late_same GivenUp = refl

  at_same : (step : CopyTarget → TargetStep) (place : ℕ) (o : Option CopyTarget) → Same (step_at c step place o)
  at_same step place None = refl
  at_same step place (Some t) = then_same (with_target c place (step t).target) (step t).step refl

  from_same : (step : CopyTarget → TargetStep) (reads : CopyAfter) (o : Option ℕ) → Same reads → Same (step_from c step reads o)
  from_same step reads None is = is
  from_same step reads (Some place) is = at_same step place (slice_get c.targets place)

  by_same : (xid : ℕ) (reads : CopyAfter) → Same reads → Same (by_read c xid reads)
  by_same xid reads is = cond_both (is_out xid c.read) reads (stranger c) Same (λ out. is) (λ off. refl)

  reply_same : (xid : ℕ) (reply : DsReplyValue) → Same (copy.on_reply c xid reply)
  reply_same xid reply = from_same (λ t. target_answered t reply t.made) (by_read c xid (read_answered c reply)) (target_of c xid) (by_same xid (read_answered c reply) (read_same reply))

  timeout_same : (xid : ℕ) → Same (copy.on_timeout c xid)
  timeout_same xid = from_same (λ t. target_late t t.stage) (by_read c xid (read_late c c.read)) (target_of c xid) (by_same xid (read_late c c.read) (late_same c.read))

  -- its calls
  abbrev CallFits : Option CopyCall → Type 0
  CallFits None = Unit {0}
  CallFits (Some call) = (call.copy.copier ≡ c.copier) × (65536 ≤ c.copier → IsUidOf call.call call.uid)

  target_call_fits : (xid place : ℕ) (t : CopyTarget) (o : Option Mirror) → 65536 ≤ c.copier → IsUidOf (target_call c.copier c.at c.piece t.name o) (target_caller c.copier o)
  target_call_fits xid place t None drawn = refl
  target_call_fits xid place t (Some m) drawn = drawn

  at_call_fits : (xid place : ℕ) (o : Option CopyTarget) → CallFits (target_call_at c xid place o)
  at_call_fits xid place None = tt
  at_call_fits xid place (Some t) = (refl, λ drawn. target_call_fits xid place t t.made drawn)

  from_call_fits : (xid : ℕ) (o : Option ℕ) → CallFits (call_from c xid o)
  from_call_fits xid None = cond_both (waits c.read && may_read_on c) (Some _) None CallFits (λ is. (refl, λ drawn. refl)) (λ off. tt)
  from_call_fits xid (Some place) = at_call_fits xid place (slice_get c.targets place)

  next_fits : (xid : ℕ) → CallFits (copy.next_call c xid)
  next_fits xid = from_call_fits xid (waiting_at c)

-- ---- the table

module _ (file : FileId) (fresh : Fresh) (drawn : 65536 ≤ fresh.uid) where
  abbrev StepFits : FileStep → Type 0
  StepFits x = FileFits x.file

  asked_fits : (f : MdsFile) (holder : NodeId) (entries : List Entry) (p : LayoutPhase) → FileFits f → StepFits (asked_in file f holder entries fresh p)
  asked_fits f holder entries Making i = i
  asked_fits f holder entries Free i =
      cond_both (are_spent fresh) (nothing f)
      (with_entries (granted file f.layout holder).entries (record { file = record { layout = (granted file f.layout holder).file; activity = f.activity }; entries = entries; uids = 0; names = 0 })) StepFits (λ is. i)
      (λ off. record { layout_fits = record { cred = i.layout_fits.cred; phase = tt }; calls = i.calls })
  asked_fits f holder entries (Held other recalled) i = i
  asked_fits f holder entries (Fencing next end) i = i
  asked_fits f holder entries (Settling copies) i = i
  asked_fits f holder entries (Copying copier copies) i = i

  held_fits : (f : MdsFile) (row : NodeId → FileStep) (p : LayoutPhase) → ((holder : NodeId) → StepFits (row holder)) → FileFits f → StepFits (held_in f row p)
  held_fits f row Making all i = i
  held_fits f row Free all i = i
  held_fits f row (Held holder recalled) all i = all holder
  held_fits f row (Fencing next end) all i = i
  held_fits f row (Settling copies) all i = i
  held_fits f row (Copying copier copies) all i = i

  client_fits : (f : MdsFile) (row : ℕ → FileStep) → ((n : ℕ) → StepFits (row n)) → FileFits f → (holder : NodeId) → StepFits (by_client f row holder)
  client_fits f row all i Mds = i
  client_fits f row all i (Server n) = i
  client_fits f row all i (Client n) = all n

  mds_fits : (f : MdsFile) (row : FileStep) → StepFits row → FileFits f → (holder : NodeId) → StepFits (by_mds f row holder)
  mds_fits f row its i Mds = its
  mds_fits f row its i (Server n) = i
  mds_fits f row its i (Client n) = i

  returned_fits : (f : MdsFile) (client : ℕ) (claimed : Cred) (places : List Bool) (holder : ℕ) → FileFits f → StepFits (returned_row file f client claimed places fresh holder)
  returned_fits f client claimed places holder i =
      cond_both (holder == client && (f.layout.cred.0 == claimed.0)) (goes_fencing (returned file f.layout places (a_uid fresh.uid)) fresh.uid) (nothing f) StepFits
      (λ is. record { layout_fits = return_fits f.layout (a_uid fresh.uid) (unreported places f.layout.live) drawn i.layout_fits; calls = tt }) (λ off. i)

  revoked_fits : (f : MdsFile) (cause : EndCause) → FileFits f → StepFits (revoked_row file f cause fresh)
  revoked_fits f cause i =
      cond_both (is_clean cause) (nothing f) (goes_fencing (revoked file f.layout cause (a_uid fresh.uid)) fresh.uid) StepFits (λ is. i)
      (λ off. record { layout_fits = record { cred = i.layout_fits.cred; phase = drawn }; calls = tt })

  own_fits : (f : MdsFile) (causes : List (Option LeftCause)) (told : Entry) → FileFits f → StepFits (own_row file f causes told fresh)
  own_fits f causes told i = record { layout_fits = return_fits f.layout (a_uid fresh.uid) (unreported (map is_some causes) f.layout.live) drawn i.layout_fits; calls = tt }

  resilver_fits : (f : MdsFile) (p : LayoutPhase) → FileFits f → StepFits (resilvered_in f fresh p)
  resilver_fits f Making i = i
  resilver_fits f Free i =
      cond_both (nat_lt (length f.layout.live) f.layout.wanted && (if are_spent fresh then false else true)) (stays (resilvered f.layout) (Settles Waits)) (nothing f) StepFits
      (λ is. record { layout_fits = record { cred = i.layout_fits.cred; phase = tt }; calls = tt }) (λ off. i)
  resilver_fits f (Held holder recalled) i = i
  resilver_fits f (Fencing next end) i = i
  resilver_fits f (Settling copies) i = i
  resilver_fits f (Copying copier copies) i = i

  -- ---- CREATEs

  on_fits : (layout : LayoutState) (all : Creations) → LayoutFits layout → StepFits (making_on file layout all)
  on_fits layout all i =
      cond_both (list_all (λ (c : Creation). is_over c.stage) all.items) (goes_idle (made file layout (all_made all)) 0) (stays layout (Makes all)) StepFits
      (λ is. record { layout_fits = record { cred = i.cred; phase = tt }; calls = tt }) (λ off. record { layout_fits = i; calls = tt })

  making_at_fits : (layout : LayoutState) (all : Creations) (step : Creation → Creation) (place : ℕ) (o : Option Creation) → LayoutFits layout → StepFits (making_at file layout all step place o)
  making_at_fits layout all step place None i = record { layout_fits = i; calls = tt }
  making_at_fits layout all step place (Some c) i = on_fits layout (with_creation all place (step c)) i

  making_fits : (layout : LayoutState) (all : Creations) (step : Creation → Creation) (o : Option ℕ) → LayoutFits layout → StepFits (making_by file layout all step o)
  making_fits layout all step None i = record { layout_fits = i; calls = tt }
  making_fits layout all step (Some place) i = making_at_fits layout all step place (slice_get all.items place) i

  -- ---- a fence

  fenced_on_fits : (layout : LayoutState) (f : FenceState) → LayoutFits layout → StepFits (fenced_on file layout f)
  fenced_on_fits layout f i =
      cond_both (is_done f) (goes_on (fence_done file layout)) (stays layout (Fences f)) StepFits
      (λ is. record { layout_fits = fenced_fits layout layout.phase i.phase i; calls = begun_fits (after_fence layout).phase }) (λ off. record { layout_fits = i; calls = tt })

  fence_fits : (layout : LayoutState) (f : FenceState) (s : FenceStep) → LayoutFits layout → StepFits (fence_stepped file layout f s)
  fence_fits layout f Stranger i = record { layout_fits = i; calls = tt }
  fence_fits layout f Acked i = fenced_on_fits layout f i
  fence_fits layout f Again i = record { layout_fits = i; calls = tt }
  fence_fits layout f (HasFailed id cause) i =
      cond_both (is_last_live layout.live) (stays layout (Fences f)) (with_entries (mirror_left file layout id cause).entries (fenced_on file (mirror_left file layout id cause).file (without f id))) StepFits
      (λ is. record { layout_fits = i; calls = tt }) (λ off. fenced_on_fits (mirror_left file layout id cause).file (without f id) (left_fits file layout id cause i))

  -- ---- the COMMIT of a source

  leaves_fits : (layout : LayoutState) (live : List Mirror) (cause : LeftCause) (kept : Activity) → ActivityFits kept → LayoutFits layout → StepFits (source_left file layout live cause kept)
  leaves_fits layout [] cause kept its i = record { layout_fits = i; calls = its }
  leaves_fits layout (m ∷ live) cause kept its i =
      cond_both (is_last_live layout.live) (stays layout kept)
      (record { file = record { layout = (mirror_left file layout m.id cause).file; activity = Settles Waits }; entries = (mirror_left file layout m.id cause).entries; uids = 0; names = 0 }) StepFits
      (λ is. record { layout_fits = i; calls = its }) (λ off. record { layout_fits = left_fits file layout m.id cause i; calls = tt })

  commit_fits : (layout : LayoutState) (copies : CopyKind) → LayoutFits layout → StepFits (settled file layout copies fresh)
  commit_fits layout copies i =
      cond_both (has_targets copies (length layout.live) layout.wanted) (copying (settled_row file layout copies (a_uid fresh.uid)).file fresh (plan_of copies layout fresh)) (goes_idle (settled_row file layout copies (a_uid fresh.uid)) 0) StepFits
      (λ is. record { layout_fits = settled_fits file layout copies (a_uid fresh.uid) i; calls = drawn }) (λ off. record { layout_fits = settled_fits file layout copies (a_uid fresh.uid) i; calls = tt })

  settling_fits : (layout : LayoutState) (copies : CopyKind) (reply : DsReplyValue) → LayoutFits layout → StepFits (settling_answered file layout copies fresh reply)
  settling_fits layout copies (Created fileid shown) i = leaves_fits layout layout.live (Error odd_status) (Settles KeptBack) tt i
  settling_fits layout copies (Set shown) i = leaves_fits layout layout.live (Error odd_status) (Settles KeptBack) tt i
  settling_fits layout copies (Written shown verifier) i = leaves_fits layout layout.live (Error odd_status) (Settles KeptBack) tt i
  settling_fits layout copies (Committed shown verifier) i = commit_fits layout copies i
  settling_fits layout copies (Bytes shown eof bytes) i = leaves_fits layout layout.live (Error odd_status) (Settles KeptBack) tt i
  settling_fits layout copies (NotSync shown) i = leaves_fits layout layout.live (Error odd_status) (Settles KeptBack) tt i
  settling_fits layout copies (Failed status shown) i = leaves_fits layout layout.live (Error status) (Settles KeptBack) tt i

  settling_late_fits : (layout : LayoutState) (s : CallStage) → LayoutFits layout → StepFits (settling_timed_out file layout s)
  settling_late_fits layout Waits i = record { layout_fits = i; calls = tt }
  settling_late_fits layout (Out xid timeouts) i =
      cond_both (nat_lt (timeouts + 1) MAX_TIMEOUTS) (stays layout (Settles (Out xid (timeouts + 1)))) (source_left file layout layout.live Timeouts (Settles (KeptOut xid))) StepFits
      (λ is. record { layout_fits = i; calls = tt }) (λ off. leaves_fits layout layout.live Timeouts (Settles (KeptOut xid)) tt i)
  settling_late_fits layout (KeptOut xid) i = record { layout_fits = i; calls = tt }
  settling_late_fits layout KeptBack i = record { layout_fits = i; calls = tt }
  settling_late_fits layout Done i = record { layout_fits = i; calls = tt }
  settling_late_fits layout GivenUp i = record { layout_fits = i; calls = tt }

  settles_fits : (f : MdsFile) (row : CopyKind → FileStep) (o : Option CopyKind) → ((copies : CopyKind) → StepFits (row copies)) → FileFits f → StepFits (settles_by f row o)
  settles_fits f row None all i = i
  settles_fits f row (Some copies) all i = all copies

  -- ---- a copy

  copied_by_fits : (layout : LayoutState) (copier : ℕ) (targets : List SwappedIn) → 65536 ≤ copier → LayoutFits layout → StepFits (copied_by file layout (a_uid copier) targets fresh)
  copied_by_fits layout copier [] its i = record { layout_fits = record { cred = i.cred; phase = tt }; calls = tt }
  copied_by_fits layout copier (t ∷ targets) its i = record { layout_fits = record { cred = its; phase = drawn }; calls = tt }

  copied_fits : (layout : LayoutState) (c : CopyState) → 65536 ≤ c.copier → LayoutFits layout → StepFits (copied_on file layout c fresh)
  copied_fits layout c its i =
      cond_both (has_outcome c) (copied_by file layout (a_uid c.copier) (swaps_of c) fresh) (stays layout (Copies c)) StepFits
      (λ is. copied_by_fits layout c.copier (swaps_of c) its i) (λ off. record { layout_fits = i; calls = its })

  target_fits : (layout : LayoutState) (c : CopyState) (cause : LeftCause) (o : Option MirrorId) → 65536 ≤ c.copier → LayoutFits layout → StepFits (target_left file layout c fresh cause o)
  target_fits layout c cause None its i = copied_fits layout c its i
  target_fits layout c cause (Some id) its i = copied_fits (mirror_left file layout id cause).file c its (left_fits file layout id cause i)

  copy_fits : (layout : LayoutState) (c : CopyState) (s : CopyStep) → 65536 ≤ c.copier → LayoutFits layout → StepFits (copy_stepped file layout c fresh s)
  copy_fits layout c copy_step.Stranger its i = record { layout_fits = i; calls = its }
  copy_fits layout c copy_step.Waiting its i = record { layout_fits = i; calls = its }
  copy_fits layout c (copy_step.SourceFailed cause) its i = leaves_fits layout layout.live cause (Copies c) its i
  copy_fits layout c (copy_step.TargetFailed server replaced cause) its i = target_fits layout c cause replaced its i
  copy_fits layout c copy_step.Done its i = copied_fits layout c its i

  -- ---- answers, timeouts and ticks

  answered_fits : (f : MdsFile) (xid : ℕ) (reply : DsReplyValue) (a : Activity) → ActivityFits a → FileFits f → StepFits (answered_in file f xid reply fresh a)
  answered_fits f xid reply Idle its i = i
  answered_fits f xid reply (Makes all) its i = making_fits f.layout all (λ c. creation_answered all c reply) (creation_of all xid) i.layout_fits
  answered_fits f xid reply (Fences x) its i =
      fence_fits (seen_by f.layout (mirror_at x (outstanding_at x xid)) (shown_by_set reply)) (on_reply x xid reply).fence (on_reply x xid reply).step
      (seen_fits f.layout (mirror_at x (outstanding_at x xid)) (shown_by_set reply) i.layout_fits)
  answered_fits f xid reply (Settles stage) its i =
      let layout : LayoutState = seen_at_source f.layout f.layout.live (shown_by_commit reply) in
      cond_both (is_out xid stage) (settles_by f (λ copies. settling_answered file layout copies fresh reply) (kind_of f.layout.phase)) (nothing f) StepFits
      (λ is. settles_fits f (λ copies. settling_answered file layout copies fresh reply) (kind_of f.layout.phase) (λ copies. settling_fits layout copies reply (source_fits f.layout f.layout.live (shown_by_commit reply) i.layout_fits)) i)
      (λ off. i)
  answered_fits f xid reply (Copies c) its i =
      copy_fits f.layout (copy.on_reply c xid reply).copy (copy.on_reply c xid reply).step (subst (λ (n : ℕ). 65536 ≤ n) (sym (reply_same c xid reply)) its) i.layout_fits

  late_fits : (f : MdsFile) (xid : ℕ) (a : Activity) → ActivityFits a → FileFits f → StepFits (timed_out_in file f xid fresh a)
  late_fits f xid Idle its i = i
  late_fits f xid (Makes all) its i = making_fits f.layout all (creation_timed_out all) (creation_of all xid) i.layout_fits
  late_fits f xid (Fences x) its i = fence_fits f.layout (on_timeout x xid).fence (on_timeout x xid).step i.layout_fits
  late_fits f xid (Settles stage) its i = cond_both (is_out xid stage) (settling_timed_out file f.layout stage) (nothing f) StepFits (λ is. settling_late_fits f.layout stage i.layout_fits) (λ off. i)
  late_fits f xid (Copies c) its i = copy_fits f.layout (copy.on_timeout c xid).copy (copy.on_timeout c xid).step (subst (λ (n : ℕ). 65536 ≤ n) (sym (timeout_same c xid)) its) i.layout_fits

  ticked_fits : (a : Activity) → ActivityFits a → ActivityFits (ticked a)
  ticked_fits Idle its = tt
  ticked_fits (Makes all) its = tt
  ticked_fits (Fences x) its = tt
  ticked_fits (Settles stage) its = tt
  ticked_fits (Copies c) its = its

  pub phase_fits : (f : MdsFile) (input : FileInput) → FileFits f → FileFits (phase file f input fresh).file
  phase_fits f (AsksLayout client) i = asked_fits f (Client client) [] f.layout.phase i
  phase_fits f (OwnWrite at bytes) i = asked_fits f Mds (entry.Sent file f.layout.cred at bytes ∷ []) f.layout.phase i
  phase_fits f Recall i =
      held_fits f (by_client f (recalled_row f)) f.layout.phase (client_fits f (recalled_row f) (λ n. record { layout_fits = record { cred = i.layout_fits.cred; phase = tt }; calls = i.calls }) i) i
  phase_fits f (Returns client claimed places) i =
      held_fits f (by_client f (returned_row file f client claimed places fresh)) f.layout.phase (client_fits f (returned_row file f client claimed places fresh) (λ n. returned_fits f client claimed places n i) i) i
  phase_fits f (Revokes cause) i = held_fits f (by_client f (λ client. revoked_row file f cause fresh)) f.layout.phase (client_fits f (λ client. revoked_row file f cause fresh) (λ n. revoked_fits f cause i) i) i
  phase_fits f (OwnEnds causes at bytes) i =
      let told : Entry = entry.Told file f.layout.cred at bytes in
      held_fits f (by_mds f (own_row file f causes told fresh)) f.layout.phase (mds_fits f (own_row file f causes told fresh) (own_fits f causes told i) i) i
  phase_fits f Resilver i = resilver_fits f f.layout.phase i
  phase_fits f (Answers xid reply) i = answered_fits f xid reply f.activity i.calls i
  phase_fits f (TimesOut xid) i = late_fits f xid f.activity i.calls i
  phase_fits f Ticks i = record { layout_fits = i.layout_fits; calls = ticked_fits f.activity i.calls }
  phase_fits f (Sees id seen) i = record { layout_fits = record { cred = i.layout_fits.cred; phase = i.layout_fits.phase }; calls = i.calls }

-- ---- the calls that go out

module _ (f : MdsFile) (i : FileFits f) where
  abbrev OutFits : Option CallOut → Type 0
  OutFits None = Unit {0}
  OutFits (Some c) = FileFits c.file × IsUidOf c.call c.uid

  create_at_fits : (all : Creations) (xid place : ℕ) (o : Option Creation) → OutFits (create_out_at f all xid place o)
  create_at_fits all xid place None = tt
  create_at_fits all xid place (Some c) = (record { layout_fits = i.layout_fits; calls = tt }, refl)

  create_fits : (all : Creations) (xid : ℕ) (o : Option ℕ) → OutFits (create_out f all xid o)
  create_fits all xid None = tt
  create_fits all xid (Some place) = create_at_fits all xid place (slice_get all.items place)

  fence_at_fits : (x : FenceState) (xid place : ℕ) (o : Option FenceMirror) → OutFits (fence_out f (fence.fence_call_at x xid place o))
  fence_at_fits x xid place None = tt
  fence_at_fits x xid place (Some m) = (record { layout_fits = i.layout_fits; calls = tt }, refl)

  fence_from_fits : (x : FenceState) (xid : ℕ) (o : Option ℕ) → OutFits (fence_out f (fence.call_from x xid o))
  fence_from_fits x xid None = tt
  fence_from_fits x xid (Some place) = fence_at_fits x xid place (slice_get x.mirrors place)

  settle_fits : (xid : ℕ) (live : List Mirror) → OutFits (settle_out f xid live)
  settle_fits xid [] = tt
  settle_fits xid (m ∷ live) = (record { layout_fits = i.layout_fits; calls = tt }, tt)

  copy_out_fits : (c : CopyState) → 65536 ≤ c.copier → (o : Option CopyCall) → CallFits c o → OutFits (copy_out f o)
  copy_out_fits c its None call = tt
  copy_out_fits c its (Some x) call = (record { layout_fits = i.layout_fits; calls = subst (λ (n : ℕ). 65536 ≤ n) (sym call.0) its }, call.1 its)

  out_of_fits : (xid : ℕ) (a : Activity) → ActivityFits a → OutFits (call_out_of f xid a)
  out_of_fits xid Idle its = tt
  out_of_fits xid (Makes all) its = create_fits all xid (creation_waiting all)
  out_of_fits xid (Fences x) its = fence_from_fits x xid (fence.waiting_at x)
  out_of_fits xid (Settles stage) its = cond_both (waits stage) (settle_out f xid f.layout.live) None OutFits (λ is. settle_fits xid f.layout.live) (λ off. tt)
  out_of_fits xid (Copies c) its = copy_out_fits c its (copy.next_call c xid) (next_fits c xid)

  pub out_fits : (xid : ℕ) (c : CallOut) → call_out f xid ≡ Some c → FileFits c.file × IsUidOf c.call c.uid
  out_fits xid c is = subst OutFits is (out_of_fits xid f.activity i.calls)
