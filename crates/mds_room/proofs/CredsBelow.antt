-- The uids of a file's layout, and of the fence and the copy that it has under way, are below those that are still to be drawn; and while it is
-- made it has no live mirror.
use Rattle.std.proofs.Common.{◌≡◌, ◌≤◌, ◌<◌, ℕ, ◌+◌, Bool, true, false, cond, List, [], ◌∷◌, length, Option, Some, None, refl, sym, subst, ◌∙◌, arith}
use Rattle.std.specs.Prelude.{◌==◌, ◌&&◌, not, nat_lt, slice_get, map, is_some, if◌then◌else◌}
use Rattle.std.specs.List.{list_all}
use Rattle.std.proofs.lemmas.Bool.{cond_both}
use Rattle.std.proofs.lemmas.List.{length-map}
use Rattle.cluster_model.specs.declared.limits.TheConstants.{MAX_TIMEOUTS}
use Rattle.cluster_model.specs.declared.ids.NodeId.{NodeId}
use Rattle.cluster_model.specs.declared.ids.NodeId.TheVariants.{Mds, Server, Client}
use Rattle.cluster_model.specs.declared.ids.FileId.{FileId}
use Rattle.cluster_model.specs.declared.ids.Cred.{Cred}
use Rattle.cluster_model.specs.declared.ids.Mirror.{Mirror}
use Rattle.cluster_model.specs.declared.ids.MirrorId.{MirrorId}
use Rattle.cluster_model.specs.declared.phase.EndCause.{EndCause}
use Rattle.cluster_model.specs.declared.phase.LeftCause.{LeftCause}
use Rattle.cluster_model.specs.declared.phase.LeftCause.TheVariants.{Error, Timeouts}
use Rattle.cluster_model.specs.declared.ds_call.Shown.{Shown}
use Rattle.cluster_model.specs.declared.call_stage.CallStage.{CallStage}
use Rattle.cluster_model.specs.declared.call_stage.CallStage.TheVariants.{Waits, Out, KeptOut, KeptBack, Done, GivenUp}
use Rattle.cluster_model.specs.declared.entry.Entry.{Entry}
use Rattle.cluster_model.specs.declared.entry.Entry.TheVariants as entry
use Rattle.cluster_model.specs.declared.fence_mirror.FenceMirror.{FenceMirror}
use Rattle.cluster_model.specs.declared.fence_mirror.FenceStep.{FenceStep}
use Rattle.cluster_model.specs.declared.fence_mirror.FenceStep.TheVariants.{Stranger, Acked, Again, Failed as HasFailed}
use Rattle.cluster_model.specs.declared.layout_state.LayoutState.{LayoutState}
use Rattle.cluster_model.specs.declared.layout_state.LayoutPhase.{LayoutPhase}
use Rattle.cluster_model.specs.declared.layout_state.LayoutPhase.TheVariants.{Making, Free, Held, Fencing, Settling, Copying}
use Rattle.cluster_model.specs.declared.layout_state.FenceEnd.{FenceEnd}
use Rattle.cluster_model.specs.declared.layout_state.FenceEnd.TheVariants.{Clean, Dirty, Copied}
use Rattle.cluster_model.specs.declared.layout_state.CopyKind.{CopyKind}
use Rattle.cluster_model.specs.declared.targets.SwappedIn.{SwappedIn}
use Rattle.cluster_model.specs.DsCalls.{DsReplyValue, Created, Set, Written, Committed, Bytes, NotSync, Failed}
use Rattle.cluster_model.specs.Fences.{waits, is_out, is_over, odd_status, FenceState, outstanding_at, on_reply, on_timeout, without, is_done}
use Rattle.cluster_model.specs.Fences as fence
use Rattle.cluster_model.specs.Phases.{seen_if, but_for, is_last_live, with_phase, is_clean, unreported, is_source, PhaseStep, freed, made, granted, recalled, left_with, returned, revoked, phase_without, mirror_left, phase_fenced, fenced_to, after_fence, fence_done, has_targets, settled_row, resilvered}
use Rattle.cluster_model.specs.Journal.{is_mirror}
use Rattle.copy_rule.specs.declared.copy_target.CopyTarget.{CopyTarget}
use Rattle.copy_rule.specs.declared.copy_target.CopyStep.{CopyStep}
use Rattle.copy_rule.specs.declared.copy_target.CopyStep.TheVariants as copy_step
use Rattle.copy_rule.specs.Copies.{CopyState, CopyCall, CopyAfter, TargetStep, with_target, with_read, with_piece, with_next, has_outcome, have_answered, may_read_on, swaps_of, copy_then, stranger, source_fails, read_answered, read_late, is_long, by_read, step_at, step_from, target_of, target_answered, target_late, waiting_at, target_call_at, call_from}
use Rattle.copy_rule.specs.Copies as copy
use Rattle.file_rule.specs.declared.creation.Creation.{Creation}
use Rattle.file_rule.specs.declared.fresh.Fresh.{Fresh}
use Rattle.file_rule.specs.MdsFiles.{Creations, Activity, Idle, Makes, Fences, Settles, Copies, MdsFile, FileStep, nothing, stays, a_uid, goes_idle, goes_fencing, begun_by, goes_on, with_entries, fenced_on, fence_stepped, shown_by_set, seen_by, mirror_at, with_creation, creation_of, creation_answered, creation_timed_out, all_made, making_on, making_at, making_by, plan_of, copying, settled, source_left, shown_by_commit, seen_at_source, settling_answered, settling_timed_out, copied_by, copied_on, target_left, copy_stepped}
use Rattle.file_rule.specs.FilePhases.{FileInput, AsksLayout, OwnWrite, Recall, Returns, Revokes, OwnEnds, Resilver, Answers, TimesOut, Ticks, Sees, are_spent, asked_in, held_in, by_client, by_mds, recalled_row, returned_row, revoked_row, own_row, resilvered_in, kind_of, settles_by, answered_in, timed_out_in, ticked, phase, CallOut, creation_waiting, create_out_at, create_out, fence_out, settle_out, copy_out, call_out_of, call_out}
use Rattle.cluster_laws.proofs.FewMirrors.{filter_less}
use Rattle.mds_laws.proofs.PeriodUids.{is_making}

none : {A : Type 0} → false ≡ true → A
none is = absurd cc

no_mirrors : (n k : ℕ) → n ≤ k → k ≡ 0 → n ≡ 0
no_mirrors n k less is = omega (arith, less, is)

loss_making : (p : LayoutPhase) (source : Bool) → is_making (phase_without p source) ≡ true → is_making p ≡ true
loss_making Making source is = is
loss_making Free source is = is
loss_making (Held holder recalled) source is = is
loss_making (Fencing next end) source is = is
loss_making (Settling copies) source is = is
loss_making (Copying copier copies) source is = not_so source is
  where
    not_so : (b : Bool) → is_making (cond {A = LayoutPhase} b (Settling copies) (Copying copier copies)) ≡ true → false ≡ true
    not_so true its = its
    not_so false its = its

end_making : (end : FenceEnd) → is_making (phase_fenced end) ≡ true → false ≡ true
end_making Clean is = is
end_making Dirty is = is
end_making Copied is = is

-- ---- a copy keeps its uid

module _ (c : CopyState) where
  abbrev Same : CopyAfter → Type 0
  Same a = a.copy.copier ≡ c.copier

  then_same : (x : CopyState) (s : CopyStep) → x.copier ≡ c.copier → Same (copy_then x s)
  then_same x s is = cond_both (is_over x.read && not x.ended && have_answered x) (with_next x) x (λ (y : CopyState). y.copier ≡ c.copier) (λ on. is) (λ off. is)

  read_same : (reply : DsReplyValue) → Same (read_answered c reply)
  read_same (Created fileid shown) = refl
  read_same (Set shown) = refl
  read_same (Written shown verifier) = refl
  read_same (Committed shown verifier) = refl
  read_same (Bytes shown eof bytes) =
      cond_both (is_long c bytes) (source_fails c KeptBack (Error odd_status)) (copy_then (with_piece c eof bytes) copy_step.Waiting) Same (λ is. refl) (λ off. then_same (with_piece c eof bytes) copy_step.Waiting refl)
  read_same (NotSync shown) = refl
  read_same (Failed status shown) = refl

  late_same : (s : CallStage) → Same (read_late c s)
  late_same Waits = refl
  late_same (Out xid timeouts) =
      cond_both (nat_lt (timeouts + 1) MAX_TIMEOUTS) (record { copy = with_read c (Out xid (timeouts + 1)); step = copy_step.Waiting }) (source_fails c (KeptOut xid) Timeouts) Same (λ is. refl) (λ off. refl)
  late_same (KeptOut xid) = refl
  late_same KeptBack = refl
  late_same Done = refl
  late_same GivenUp = refl

  at_same : (step : CopyTarget → TargetStep) (place : ℕ) (o : Option CopyTarget) → Same (step_at c step place o)
  at_same step place None = refl
  at_same step place (Some t) = then_same (with_target c place (step t).target) (step t).step refl

  from_same : (step : CopyTarget → TargetStep) (reads : CopyAfter) (o : Option ℕ) → Same reads → Same (step_from c step reads o)
  from_same step reads None is = is
  from_same step reads (Some place) is = at_same step place (slice_get c.targets place)

  by_same : (xid : ℕ) (reads : CopyAfter) → Same reads → Same (by_read c xid reads)
  by_same xid reads is = cond_both (is_out xid c.read) reads (stranger c) Same (λ out. is) (λ off. refl)

  reply_same : (xid : ℕ) (reply : DsReplyValue) → Same (copy.on_reply c xid reply)
  reply_same xid reply = from_same (λ t. target_answered t reply t.made) (by_read c xid (read_answered c reply)) (target_of c xid) (by_same xid (read_answered c reply) (read_same reply))

  timeout_same : (xid : ℕ) → Same (copy.on_timeout c xid)
  timeout_same xid = from_same (λ t. target_late t t.stage) (by_read c xid (read_late c c.read)) (target_of c xid) (by_same xid (read_late c c.read) (late_same c.read))

  -- its calls
  abbrev CallSame : Option CopyCall → Type 0
  CallSame None = Unit {0}
  CallSame (Some call) = call.copy.copier ≡ c.copier

  at_call_same : (xid place : ℕ) (o : Option CopyTarget) → CallSame (target_call_at c xid place o)
  at_call_same xid place None = tt
  at_call_same xid place (Some t) = refl

  from_call_same : (xid : ℕ) (o : Option ℕ) → CallSame (call_from c xid o)
  from_call_same xid None = cond_both (waits c.read && may_read_on c) (Some _) None CallSame (λ is. refl) (λ off. tt)
  from_call_same xid (Some place) = at_call_same xid place (slice_get c.targets place)

  next_same : (xid : ℕ) → CallSame (copy.next_call c xid)
  next_same xid = from_call_same xid (waiting_at c)

module _ (b : ℕ) where
  -- ---- what is below

  abbrev pub PhaseBelow : LayoutPhase → Type 0
  PhaseBelow Making = Unit {0}
  PhaseBelow Free = Unit {0}
  PhaseBelow (Held holder recalled) = Unit {0}
  PhaseBelow (Fencing next end) = next.0 < b
  PhaseBelow (Settling copies) = Unit {0}
  PhaseBelow (Copying copier copies) = Unit {0}

  abbrev pub ActivityBelow : Activity → Type 0
  ActivityBelow Idle = Unit {0}
  ActivityBelow (Makes all) = Unit {0}
  ActivityBelow (Fences f) = Unit {0}
  ActivityBelow (Settles stage) = Unit {0}
  ActivityBelow (Copies c) = c.copier < b

  pub record LayoutBelow (l : LayoutState) : Type 0 where
    pub cred : l.cred.0 < b
    pub phase : PhaseBelow l.phase
    pub making : is_making l.phase ≡ true → length l.live ≡ 0

  pub record FileBelow (f : MdsFile) : Type 0 where
    pub layout_below : LayoutBelow f.layout
    pub calls : ActivityBelow f.activity

  begun_below : (p : LayoutPhase) → ActivityBelow (begun_by p)
  begun_below Making = tt
  begun_below Free = tt
  begun_below (Held holder recalled) = tt
  begun_below (Fencing next end) = tt
  begun_below (Settling copies) = tt
  begun_below (Copying copier copies) = tt

  -- ---- rows

  loss_below : (p : LayoutPhase) (source : Bool) → PhaseBelow p → PhaseBelow (phase_without p source)
  loss_below Making source i = tt
  loss_below Free source i = tt
  loss_below (Held holder recalled) source i = tt
  loss_below (Fencing next end) source i = i
  loss_below (Settling copies) source i = tt
  loss_below (Copying copier copies) source i = cond_both source (Settling copies) (Copying copier copies) PhaseBelow (λ is. tt) (λ off. tt)

  left_below : (file : FileId) (s : LayoutState) (id : MirrorId) (cause : LeftCause) → LayoutBelow s → LayoutBelow (mirror_left file s id cause).file
  left_below file s id cause i = record {
    cred = i.cred;
    phase = loss_below s.phase (is_source id s.live) i.phase;
    making = λ is. no_mirrors (length (but_for id s.live)) (length s.live) (filter_less (λ (m : Mirror). not (is_mirror m.id id)) s.live) (i.making (loss_making s.phase (is_source id s.live) is));
  }

  end_below : (end : FenceEnd) → PhaseBelow (phase_fenced end)
  end_below Clean = tt
  end_below Dirty = tt
  end_below Copied = tt

  fenced_below : (s : LayoutState) (p : LayoutPhase) → PhaseBelow p → LayoutBelow s → LayoutBelow (fenced_to s p)
  fenced_below s Making its i = i
  fenced_below s Free its i = i
  fenced_below s (Held holder recalled) its i = i
  fenced_below s (Fencing next end) its i = record { cred = its; phase = end_below end; making = λ is. none (end_making end is) }
  fenced_below s (Settling copies) its i = i
  fenced_below s (Copying copier copies) its i = i

  return_below : (s : LayoutState) (next : Cred) (live : List Mirror) → next.0 < b → LayoutBelow s → LayoutBelow (left_with s next live)
  return_below s next [] drew i = record { cred = i.cred; phase = drew; making = λ is. none is }
  return_below s next (m ∷ live) drew i = record { cred = i.cred; phase = drew; making = λ is. none is }

  settled_below : (file : FileId) (s : LayoutState) (copies : CopyKind) (copier : Cred) → LayoutBelow s → LayoutBelow (settled_row file s copies copier).file
  settled_below file s copies copier i =
      cond_both (has_targets copies (length s.live) s.wanted) (record { file = with_phase s (Copying copier copies); entries = [] }) (freed file s) (λ (x : PhaseStep). LayoutBelow x.file)
      (λ is. record { cred = i.cred; phase = tt; making = λ its. none its }) (λ off. record { cred = i.cred; phase = tt; making = λ its. none its })

  seen_below : (s : LayoutState) (o : Option FenceMirror) (shown : Option Shown) → LayoutBelow s → LayoutBelow (seen_by s o shown)
  seen_below s None shown i = i
  seen_below s (Some m) None i = i
  seen_below s (Some m) (Some shown) i = record { cred = i.cred; phase = i.phase; making = λ is. length-map s.live (seen_if m.id shown.seen) ∙ i.making is }

  source_below : (s : LayoutState) (live : List Mirror) (shown : Option Shown) → LayoutBelow s → LayoutBelow (seen_at_source s live shown)
  source_below s [] shown i = i
  source_below s (m ∷ live) None i = i
  source_below s (m ∷ live) (Some shown) i = record { cred = i.cred; phase = i.phase; making = λ is. length-map s.live (seen_if m.id shown.seen) ∙ i.making is }

  -- ---- the table: behind each input it is below, with what the input draws

  module _ (file : FileId) (fresh : Fresh) where
    abbrev StepBelow : FileStep → Type 0
    StepBelow x = fresh.uid + x.uids ≤ b → FileBelow x.file

    drew : fresh.uid + 1 ≤ b → fresh.uid < b
    drew le = omega (arith, le)

    asked_below : (f : MdsFile) (holder : NodeId) (entries : List Entry) (p : LayoutPhase) → FileBelow f → StepBelow (asked_in file f holder entries fresh p)
    asked_below f holder entries Making i = λ le. i
    asked_below f holder entries Free i =
        cond_both (are_spent fresh) (nothing f)
        (with_entries (granted file f.layout holder).entries (record { file = record { layout = (granted file f.layout holder).file; activity = f.activity }; entries = entries; uids = 0; names = 0 })) StepBelow (λ is. λ le. i)
        (λ off. λ le. record { layout_below = record { cred = i.layout_below.cred; phase = tt; making = λ is. none is }; calls = i.calls })
    asked_below f holder entries (Held other recalled) i = λ le. i
    asked_below f holder entries (Fencing next end) i = λ le. i
    asked_below f holder entries (Settling copies) i = λ le. i
    asked_below f holder entries (Copying copier copies) i = λ le. i

    held_below : (f : MdsFile) (row : NodeId → FileStep) (p : LayoutPhase) → ((holder : NodeId) → StepBelow (row holder)) → FileBelow f → StepBelow (held_in f row p)
    held_below f row Making all i = λ le. i
    held_below f row Free all i = λ le. i
    held_below f row (Held holder recalled) all i = all holder
    held_below f row (Fencing next end) all i = λ le. i
    held_below f row (Settling copies) all i = λ le. i
    held_below f row (Copying copier copies) all i = λ le. i

    client_below : (f : MdsFile) (row : ℕ → FileStep) → ((n : ℕ) → StepBelow (row n)) → FileBelow f → (holder : NodeId) → StepBelow (by_client f row holder)
    client_below f row all i Mds = λ le. i
    client_below f row all i (Server n) = λ le. i
    client_below f row all i (Client n) = all n

    mds_below : (f : MdsFile) (row : FileStep) → StepBelow row → FileBelow f → (holder : NodeId) → StepBelow (by_mds f row holder)
    mds_below f row its i Mds = its
    mds_below f row its i (Server n) = λ le. i
    mds_below f row its i (Client n) = λ le. i

    returned_below : (f : MdsFile) (client : ℕ) (claimed : Cred) (places : List Bool) (holder : ℕ) → FileBelow f → StepBelow (returned_row file f client claimed places fresh holder)
    returned_below f client claimed places holder i =
        cond_both (holder == client && (f.layout.cred.0 == claimed.0)) (goes_fencing (returned file f.layout places (a_uid fresh.uid)) fresh.uid) (nothing f) StepBelow
        (λ is. λ le. record { layout_below = return_below f.layout (a_uid fresh.uid) (unreported places f.layout.live) (drew le) i.layout_below; calls = tt }) (λ off. λ le. i)

    revoked_below : (f : MdsFile) (cause : EndCause) → FileBelow f → StepBelow (revoked_row file f cause fresh)
    revoked_below f cause i =
        cond_both (is_clean cause) (nothing f) (goes_fencing (revoked file f.layout cause (a_uid fresh.uid)) fresh.uid) StepBelow (λ is. λ le. i)
        (λ off. λ le. record { layout_below = record { cred = i.layout_below.cred; phase = drew le; making = λ is. none is }; calls = tt })

    own_below : (f : MdsFile) (causes : List (Option LeftCause)) (told : Entry) → FileBelow f → StepBelow (own_row file f causes told fresh)
    own_below f causes told i = λ le. record { layout_below = return_below f.layout (a_uid fresh.uid) (unreported (map is_some causes) f.layout.live) (drew le) i.layout_below; calls = tt }

    resilver_below : (f : MdsFile) (p : LayoutPhase) → FileBelow f → StepBelow (resilvered_in f fresh p)
    resilver_below f Making i = λ le. i
    resilver_below f Free i =
        cond_both (nat_lt (length f.layout.live) f.layout.wanted && (if are_spent fresh then false else true)) (stays (resilvered f.layout) (Settles Waits)) (nothing f) StepBelow
        (λ is. λ le. record { layout_below = record { cred = i.layout_below.cred; phase = tt; making = λ its. none its }; calls = tt }) (λ off. λ le. i)
    resilver_below f (Held holder recalled) i = λ le. i
    resilver_below f (Fencing next end) i = λ le. i
    resilver_below f (Settling copies) i = λ le. i
    resilver_below f (Copying copier copies) i = λ le. i

    -- ---- CREATEs

    on_below : (layout : LayoutState) (all : Creations) → LayoutBelow layout → StepBelow (making_on file layout all)
    on_below layout all i =
        cond_both (list_all (λ (c : Creation). is_over c.stage) all.items) (goes_idle (made file layout (all_made all)) 0) (stays layout (Makes all)) StepBelow
        (λ is. λ le. record { layout_below = record { cred = i.cred; phase = tt; making = λ its. none its }; calls = tt }) (λ off. λ le. record { layout_below = i; calls = tt })

    making_at_below : (layout : LayoutState) (all : Creations) (step : Creation → Creation) (place : ℕ) (o : Option Creation) → LayoutBelow layout → StepBelow (making_at file layout all step place o)
    making_at_below layout all step place None i = λ le. record { layout_below = i; calls = tt }
    making_at_below layout all step place (Some c) i = on_below layout (with_creation all place (step c)) i

    making_below : (layout : LayoutState) (all : Creations) (step : Creation → Creation) (o : Option ℕ) → LayoutBelow layout → StepBelow (making_by file layout all step o)
    making_below layout all step None i = λ le. record { layout_below = i; calls = tt }
    making_below layout all step (Some place) i = making_at_below layout all step place (slice_get all.items place) i

    -- ---- a fence

    fenced_on_below : (layout : LayoutState) (f : FenceState) → LayoutBelow layout → StepBelow (fenced_on file layout f)
    fenced_on_below layout f i =
        cond_both (is_done f) (goes_on (fence_done file layout)) (stays layout (Fences f)) StepBelow
        (λ is. λ le. record { layout_below = fenced_below layout layout.phase i.phase i; calls = begun_below (after_fence layout).phase }) (λ off. λ le. record { layout_below = i; calls = tt })

    fence_below : (layout : LayoutState) (f : FenceState) (s : FenceStep) → LayoutBelow layout → StepBelow (fence_stepped file layout f s)
    fence_below layout f Stranger i = λ le. record { layout_below = i; calls = tt }
    fence_below layout f Acked i = fenced_on_below layout f i
    fence_below layout f Again i = λ le. record { layout_below = i; calls = tt }
    fence_below layout f (HasFailed id cause) i =
        cond_both (is_last_live layout.live) (stays layout (Fences f)) (with_entries (mirror_left file layout id cause).entries (fenced_on file (mirror_left file layout id cause).file (without f id))) StepBelow
        (λ is. λ le. record { layout_below = i; calls = tt }) (λ off. fenced_on_below (mirror_left file layout id cause).file (without f id) (left_below file layout id cause i))

    -- ---- the COMMIT of a source

    leaves_below : (layout : LayoutState) (live : List Mirror) (cause : LeftCause) (kept : Activity) → ActivityBelow kept → LayoutBelow layout → StepBelow (source_left file layout live cause kept)
    leaves_below layout [] cause kept its i = λ le. record { layout_below = i; calls = its }
    leaves_below layout (m ∷ live) cause kept its i =
        cond_both (is_last_live layout.live) (stays layout kept)
        (record { file = record { layout = (mirror_left file layout m.id cause).file; activity = Settles Waits }; entries = (mirror_left file layout m.id cause).entries; uids = 0; names = 0 }) StepBelow
        (λ is. λ le. record { layout_below = i; calls = its }) (λ off. λ le. record { layout_below = left_below file layout m.id cause i; calls = tt })

    commit_below : (layout : LayoutState) (copies : CopyKind) → LayoutBelow layout → StepBelow (settled file layout copies fresh)
    commit_below layout copies i =
        cond_both (has_targets copies (length layout.live) layout.wanted) (copying (settled_row file layout copies (a_uid fresh.uid)).file fresh (plan_of copies layout fresh)) (goes_idle (settled_row file layout copies (a_uid fresh.uid)) 0) StepBelow
        (λ is. λ le. record { layout_below = settled_below file layout copies (a_uid fresh.uid) i; calls = drew le }) (λ off. λ le. record { layout_below = settled_below file layout copies (a_uid fresh.uid) i; calls = tt })

    settling_below : (layout : LayoutState) (copies : CopyKind) (reply : DsReplyValue) → LayoutBelow layout → StepBelow (settling_answered file layout copies fresh reply)
    settling_below layout copies (Created fileid shown) i = leaves_below layout layout.live (Error odd_status) (Settles KeptBack) tt i
    settling_below layout copies (Set shown) i = leaves_below layout layout.live (Error odd_status) (Settles KeptBack) tt i
    settling_below layout copies (Written shown verifier) i = leaves_below layout layout.live (Error odd_status) (Settles KeptBack) tt i
    settling_below layout copies (Committed shown verifier) i = commit_below layout copies i
    settling_below layout copies (Bytes shown eof bytes) i = leaves_below layout layout.live (Error odd_status) (Settles KeptBack) tt i
    settling_below layout copies (NotSync shown) i = leaves_below layout layout.live (Error odd_status) (Settles KeptBack) tt i
    settling_below layout copies (Failed status shown) i = leaves_below layout layout.live (Error status) (Settles KeptBack) tt i

    settling_late_below : (layout : LayoutState) (s : CallStage) → LayoutBelow layout → StepBelow (settling_timed_out file layout s)
    settling_late_below layout Waits i = λ le. record { layout_below = i; calls = tt }
    settling_late_below layout (Out xid timeouts) i =
        cond_both (nat_lt (timeouts + 1) MAX_TIMEOUTS) (stays layout (Settles (Out xid (timeouts + 1)))) (source_left file layout layout.live Timeouts (Settles (KeptOut xid))) StepBelow
        (λ is. λ le. record { layout_below = i; calls = tt }) (λ off. leaves_below layout layout.live Timeouts (Settles (KeptOut xid)) tt i)
    settling_late_below layout (KeptOut xid) i = λ le. record { layout_below = i; calls = tt }
    settling_late_below layout KeptBack i = λ le. record { layout_below = i; calls = tt }
    settling_late_below layout Done i = λ le. record { layout_below = i; calls = tt }
    settling_late_below layout GivenUp i = λ le. record { layout_below = i; calls = tt }

    settles_below : (f : MdsFile) (row : CopyKind → FileStep) (o : Option CopyKind) → ((copies : CopyKind) → StepBelow (row copies)) → FileBelow f → StepBelow (settles_by f row o)
    settles_below f row None all i = λ le. i
    settles_below f row (Some copies) all i = all copies

    -- ---- a copy

    copied_by_below : (layout : LayoutState) (copier : ℕ) (targets : List SwappedIn) → copier < b → LayoutBelow layout → StepBelow (copied_by file layout (a_uid copier) targets fresh)
    copied_by_below layout copier [] its i = λ le. record { layout_below = record { cred = i.cred; phase = tt; making = λ is. none is }; calls = tt }
    copied_by_below layout copier (t ∷ targets) its i = λ le. record { layout_below = record { cred = its; phase = drew le; making = λ is. none is }; calls = tt }

    copied_below : (layout : LayoutState) (c : CopyState) → c.copier < b → LayoutBelow layout → StepBelow (copied_on file layout c fresh)
    copied_below layout c its i =
        cond_both (has_outcome c) (copied_by file layout (a_uid c.copier) (swaps_of c) fresh) (stays layout (Copies c)) StepBelow
        (λ is. copied_by_below layout c.copier (swaps_of c) its i) (λ off. λ le. record { layout_below = i; calls = its })

    target_below : (layout : LayoutState) (c : CopyState) (cause : LeftCause) (o : Option MirrorId) → c.copier < b → LayoutBelow layout → StepBelow (target_left file layout c fresh cause o)
    target_below layout c cause None its i = copied_below layout c its i
    target_below layout c cause (Some id) its i = copied_below (mirror_left file layout id cause).file c its (left_below file layout id cause i)

    copy_below : (layout : LayoutState) (c : CopyState) (s : CopyStep) → c.copier < b → LayoutBelow layout → StepBelow (copy_stepped file layout c fresh s)
    copy_below layout c copy_step.Stranger its i = λ le. record { layout_below = i; calls = its }
    copy_below layout c copy_step.Waiting its i = λ le. record { layout_below = i; calls = its }
    copy_below layout c (copy_step.SourceFailed cause) its i = leaves_below layout layout.live cause (Copies c) its i
    copy_below layout c (copy_step.TargetFailed server replaced cause) its i = target_below layout c cause replaced its i
    copy_below layout c copy_step.Done its i = copied_below layout c its i

    -- ---- answers, timeouts and ticks

    answered_below : (f : MdsFile) (xid : ℕ) (reply : DsReplyValue) (a : Activity) → ActivityBelow a → FileBelow f → StepBelow (answered_in file f xid reply fresh a)
    answered_below f xid reply Idle its i = λ le. i
    answered_below f xid reply (Makes all) its i = making_below f.layout all (λ c. creation_answered all c reply) (creation_of all xid) i.layout_below
    answered_below f xid reply (Fences x) its i =
        fence_below (seen_by f.layout (mirror_at x (outstanding_at x xid)) (shown_by_set reply)) (on_reply x xid reply).fence (on_reply x xid reply).step
        (seen_below f.layout (mirror_at x (outstanding_at x xid)) (shown_by_set reply) i.layout_below)
    answered_below f xid reply (Settles stage) its i =
        let layout : LayoutState = seen_at_source f.layout f.layout.live (shown_by_commit reply) in
        cond_both (is_out xid stage) (settles_by f (λ copies. settling_answered file layout copies fresh reply) (kind_of f.layout.phase)) (nothing f) StepBelow
        (λ is. settles_below f (λ copies. settling_answered file layout copies fresh reply) (kind_of f.layout.phase) (λ copies. settling_below layout copies reply (source_below f.layout f.layout.live (shown_by_commit reply) i.layout_below)) i)
        (λ off. λ le. i)
    answered_below f xid reply (Copies c) its i =
        copy_below f.layout (copy.on_reply c xid reply).copy (copy.on_reply c xid reply).step (subst (λ (n : ℕ). n < b) (sym (reply_same c xid reply)) its) i.layout_below

    late_below : (f : MdsFile) (xid : ℕ) (a : Activity) → ActivityBelow a → FileBelow f → StepBelow (timed_out_in file f xid fresh a)
    late_below f xid Idle its i = λ le. i
    late_below f xid (Makes all) its i = making_below f.layout all (creation_timed_out all) (creation_of all xid) i.layout_below
    late_below f xid (Fences x) its i = fence_below f.layout (on_timeout x xid).fence (on_timeout x xid).step i.layout_below
    late_below f xid (Settles stage) its i = cond_both (is_out xid stage) (settling_timed_out file f.layout stage) (nothing f) StepBelow (λ is. settling_late_below f.layout stage i.layout_below) (λ off. λ le. i)
    late_below f xid (Copies c) its i = copy_below f.layout (copy.on_timeout c xid).copy (copy.on_timeout c xid).step (subst (λ (n : ℕ). n < b) (sym (timeout_same c xid)) its) i.layout_below

    ticked_below : (a : Activity) → ActivityBelow a → ActivityBelow (ticked a)
    ticked_below Idle its = tt
    ticked_below (Makes all) its = tt
    ticked_below (Fences x) its = tt
    ticked_below (Settles stage) its = tt
    ticked_below (Copies c) its = its

    pub phase_below : (f : MdsFile) (input : FileInput) → FileBelow f → fresh.uid + (phase file f input fresh).uids ≤ b → FileBelow (phase file f input fresh).file
    phase_below f (AsksLayout client) i = asked_below f (Client client) [] f.layout.phase i
    phase_below f (OwnWrite at bytes) i = asked_below f Mds (entry.Sent file f.layout.cred at bytes ∷ []) f.layout.phase i
    phase_below f Recall i =
        held_below f (by_client f (recalled_row f)) f.layout.phase
        (client_below f (recalled_row f) (λ n. λ le. record { layout_below = record { cred = i.layout_below.cred; phase = tt; making = λ is. none is }; calls = i.calls }) i) i
    phase_below f (Returns client claimed places) i =
        held_below f (by_client f (returned_row file f client claimed places fresh)) f.layout.phase (client_below f (returned_row file f client claimed places fresh) (λ n. returned_below f client claimed places n i) i) i
    phase_below f (Revokes cause) i = held_below f (by_client f (λ client. revoked_row file f cause fresh)) f.layout.phase (client_below f (λ client. revoked_row file f cause fresh) (λ n. revoked_below f cause i) i) i
    phase_below f (OwnEnds causes at bytes) i =
        let told : Entry = entry.Told file f.layout.cred at bytes in
        held_below f (by_mds f (own_row file f causes told fresh)) f.layout.phase (mds_below f (own_row file f causes told fresh) (own_below f causes told i) i) i
    phase_below f Resilver i = resilver_below f f.layout.phase i
    phase_below f (Answers xid reply) i = answered_below f xid reply f.activity i.calls i
    phase_below f (TimesOut xid) i = late_below f xid f.activity i.calls i
    phase_below f Ticks i = λ le. record { layout_below = i.layout_below; calls = ticked_below f.activity i.calls }
    phase_below f (Sees id seen) i =
        λ le. record { layout_below = record { cred = i.layout_below.cred; phase = i.layout_below.phase; making = λ is. length-map f.layout.live (seen_if id seen) ∙ i.layout_below.making is }; calls = i.calls }

  -- ---- the calls that go out

  module _ (f : MdsFile) (i : FileBelow f) where
    abbrev OutBelow : Option CallOut → Type 0
    OutBelow None = Unit {0}
    OutBelow (Some c) = FileBelow c.file

    create_at_below : (all : Creations) (xid place : ℕ) (o : Option Creation) → OutBelow (create_out_at f all xid place o)
    create_at_below all xid place None = tt
    create_at_below all xid place (Some c) = record { layout_below = i.layout_below; calls = tt }

    create_below : (all : Creations) (xid : ℕ) (o : Option ℕ) → OutBelow (create_out f all xid o)
    create_below all xid None = tt
    create_below all xid (Some place) = create_at_below all xid place (slice_get all.items place)

    fence_at_below : (x : FenceState) (xid place : ℕ) (o : Option FenceMirror) → OutBelow (fence_out f (fence.fence_call_at x xid place o))
    fence_at_below x xid place None = tt
    fence_at_below x xid place (Some m) = record { layout_below = i.layout_below; calls = tt }

    fence_from_below : (x : FenceState) (xid : ℕ) (o : Option ℕ) → OutBelow (fence_out f (fence.call_from x xid o))
    fence_from_below x xid None = tt
    fence_from_below x xid (Some place) = fence_at_below x xid place (slice_get x.mirrors place)

    settle_below : (xid : ℕ) (live : List Mirror) → OutBelow (settle_out f xid live)
    settle_below xid [] = tt
    settle_below xid (m ∷ live) = record { layout_below = i.layout_below; calls = tt }

    copy_out_below : (c : CopyState) → c.copier < b → (o : Option CopyCall) → CallSame c o → OutBelow (copy_out f o)
    copy_out_below c its None same = tt
    copy_out_below c its (Some x) same = record { layout_below = i.layout_below; calls = subst (λ (n : ℕ). n < b) (sym same) its }

    out_of_below : (xid : ℕ) (a : Activity) → ActivityBelow a → OutBelow (call_out_of f xid a)
    out_of_below xid Idle its = tt
    out_of_below xid (Makes all) its = create_below all xid (creation_waiting all)
    out_of_below xid (Fences x) its = fence_from_below x xid (fence.waiting_at x)
    out_of_below xid (Settles stage) its = cond_both (waits stage) (settle_out f xid f.layout.live) None OutBelow (λ is. settle_below xid f.layout.live) (λ off. tt)
    out_of_below xid (Copies c) its = copy_out_below c its (copy.next_call c xid) (next_same c xid)

    pub out_below : (xid : ℕ) (c : CallOut) → call_out f xid ≡ Some c → FileBelow c.file
    out_below xid c is = subst OutBelow is (out_of_below xid f.activity i.calls)

-- ---- below a higher one

phase_up : (b c : ℕ) (p : LayoutPhase) → b ≤ c → PhaseBelow b p → PhaseBelow c p
phase_up b c Making le i = tt
phase_up b c Free le i = tt
phase_up b c (Held holder recalled) le i = tt
phase_up b c (Fencing next end) le i = omega (arith, le, i)
phase_up b c (Settling copies) le i = tt
phase_up b c (Copying copier copies) le i = tt

calls_up : (b c : ℕ) (a : Activity) → b ≤ c → ActivityBelow b a → ActivityBelow c a
calls_up b c Idle le i = tt
calls_up b c (Makes all) le i = tt
calls_up b c (Fences x) le i = tt
calls_up b c (Settles stage) le i = tt
calls_up b c (Copies x) le i = omega (arith, le, i)

pub below_up : (b c : ℕ) (f : MdsFile) → b ≤ c → FileBelow b f → FileBelow c f
below_up b c f le i =
    let cred : f.layout.cred.0 < b = i.layout_below.cred in
    record { layout_below = record { cred = omega (arith, le, cred); phase = phase_up b c f.layout.phase le i.layout_below.phase; making = i.layout_below.making }; calls = calls_up b c f.activity le i.calls }
