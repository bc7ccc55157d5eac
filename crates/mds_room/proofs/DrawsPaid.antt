-- What a file draws is paid for by its entries: a step draws a uid only where it makes an entry, or a copy begins; and a copy begins only where
-- the file was free, or an entry was made, since the one before. Names are drawn with a uid alone.
use Rattle.std.proofs.Common.{◌≡◌, ◌≤◌, ℕ, zero, suc, ◌+◌, Bool, true, false, cond, List, [], ◌∷◌, ◌++◌, length, Option, Some, None, refl, ap, subst, arith, length-append}
use Rattle.std.specs.Prelude.{◌==◌, ◌&&◌, nat_lt, slice_get, map, is_some, if◌then◌else◌}
use Rattle.std.specs.List.{list_all}
use Rattle.std.proofs.lemmas.Bool.{cond_both}
use Rattle.cluster_model.specs.declared.limits.TheConstants.{MAX_TIMEOUTS}
use Rattle.cluster_model.specs.declared.ids.NodeId.{NodeId}
use Rattle.cluster_model.specs.declared.ids.NodeId.TheVariants.{Mds, Server, Client}
use Rattle.cluster_model.specs.declared.ids.FileId.{FileId}
use Rattle.cluster_model.specs.declared.ids.Cred.{Cred}
use Rattle.cluster_model.specs.declared.ids.Mirror.{Mirror}
use Rattle.cluster_model.specs.declared.ids.MirrorId.{MirrorId}
use Rattle.cluster_model.specs.declared.phase.EndCause.{EndCause}
use Rattle.cluster_model.specs.declared.phase.EndCause.TheVariants.{Returned, Own}
use Rattle.cluster_model.specs.declared.phase.LeftCause.{LeftCause}
use Rattle.cluster_model.specs.declared.phase.LeftCause.TheVariants.{Error, Timeouts}
use Rattle.cluster_model.specs.declared.ds_call.Shown.{Shown}
use Rattle.cluster_model.specs.declared.call_stage.CallStage.{CallStage}
use Rattle.cluster_model.specs.declared.call_stage.CallStage.TheVariants.{Waits, Out, KeptOut, KeptBack, Done, GivenUp}
use Rattle.cluster_model.specs.declared.entry.Entry.{Entry}
use Rattle.cluster_model.specs.declared.entry.Entry.TheVariants as entry
use Rattle.cluster_model.specs.declared.fence_mirror.FenceMirror.{FenceMirror}
use Rattle.cluster_model.specs.declared.fence_mirror.FenceStep.{FenceStep}
use Rattle.cluster_model.specs.declared.fence_mirror.FenceStep.TheVariants.{Stranger, Acked, Again, Failed as HasFailed}
use Rattle.cluster_model.specs.declared.layout_state.LayoutState.{LayoutState}
use Rattle.cluster_model.specs.declared.layout_state.LayoutPhase.{LayoutPhase}
use Rattle.cluster_model.specs.declared.layout_state.LayoutPhase.TheVariants.{Making, Free, Held, Fencing, Settling, Copying}
use Rattle.cluster_model.specs.declared.layout_state.CopyKind.{CopyKind}
use Rattle.cluster_model.specs.declared.targets.SwappedIn.{SwappedIn}
use Rattle.cluster_model.specs.DsCalls.{DsReplyValue, Created, Set, Written, Committed, Bytes, NotSync, Failed}
use Rattle.cluster_model.specs.Fences.{waits, is_out, is_over, odd_status, FenceState, outstanding_at, on_reply, on_timeout, without, is_done}
use Rattle.cluster_model.specs.Fences as fence
use Rattle.cluster_model.specs.Phases.{is_last_live, with_phase, is_clean, unreported, PhaseStep, freed, made, granted, left_with, returned, revoked, end_entries, own_done, mirror_left, fence_entries, fence_done, fenced_to, has_targets, settled_row, resilvered, left_entries, reported_cause}
use Rattle.copy_rule.specs.declared.copy_target.CopyStep.{CopyStep}
use Rattle.copy_rule.specs.declared.copy_target.CopyStep.TheVariants as copy_step
use Rattle.copy_rule.specs.Copies.{CopyState, CopyCall, has_outcome, swaps_of}
use Rattle.copy_rule.specs.Copies as copy
use Rattle.file_rule.specs.declared.creation.Creation.{Creation}
use Rattle.file_rule.specs.declared.fresh.Fresh.{Fresh}
use Rattle.file_rule.specs.MdsFiles.{Creations, Activity, Idle, Makes, Fences, Settles, Copies, MdsFile, FileStep, nothing, stays, a_uid, goes_idle, goes_fencing, begun_by, goes_on, with_entries, fenced_on, fence_stepped, shown_by_set, seen_by, mirror_at, with_creation, creation_of, creation_answered, creation_timed_out, all_made, making_on, making_at, making_by, plan_of, copying, settled, source_left, shown_by_commit, seen_at_source, settling_answered, settling_timed_out, copied_by, copied_on, target_left, copy_stepped}
use Rattle.file_rule.specs.FilePhases.{FileInput, AsksLayout, OwnWrite, Recall, Returns, Revokes, OwnEnds, Resilver, Answers, TimesOut, Ticks, Sees, are_spent, asked_in, held_in, by_client, by_mds, recalled_row, returned_row, revoked_row, own_row, resilvered_in, kind_of, settles_by, answered_in, timed_out_in, ticked, phase, CallOut, creation_waiting, create_out_at, create_out, fence_out, settle_out, copy_out, call_out_of, call_out}

-- ---- what a file may draw yet without an entry

abbrev pub weigh : LayoutPhase → Bool → ℕ
weigh Making settles = 0
weigh Free settles = 1
weigh (Held holder recalled) settles = 0
weigh (Fencing next end) settles = 0
weigh (Settling copies) settles = 1
weigh (Copying copier copies) settles = cond settles 1 0

abbrev pub is_settling : Activity → Bool
is_settling Idle = false
is_settling (Makes all) = false
is_settling (Fences fence) = false
is_settling (Settles stage) = true
is_settling (Copies c) = false

abbrev pub weight : MdsFile → ℕ
weight f = weigh f.layout.phase (is_settling f.activity)

weigh_one : (p : LayoutPhase) (b : Bool) → weigh p b ≤ 1
weigh_one Making b = omega arith
weigh_one Free b = omega arith
weigh_one (Held holder recalled) b = omega arith
weigh_one (Fencing next end) b = omega arith
weigh_one (Settling copies) b = omega arith
weigh_one (Copying copier copies) true = omega arith
weigh_one (Copying copier copies) false = omega arith

-- from this weight on
pub record Paid (w : ℕ) (x : FileStep) : Type 0 where
  pub pays : x.uids + weight x.file ≤ w + length x.entries
  pub names : x.uids ≡ 0 → x.names ≡ 0

-- nothing is drawn, and there is an entry
told_paid : (w : ℕ) (layout : LayoutState) (activity : Activity) (entries : List Entry) → 1 ≤ length entries → Paid w (record { file = record { layout = layout; activity = activity }; entries = entries; uids = 0; names = 0 })
told_paid w layout activity entries some = let one = weigh_one layout.phase (is_settling activity) in record { pays = omega (arith, some, one); names = λ is. refl }

-- nothing is drawn, and the file weighs no more
still_paid : (w : ℕ) (layout : LayoutState) (activity : Activity) → weigh layout.phase (is_settling activity) ≤ w → Paid w (stays layout activity)
still_paid w layout activity less = record { pays = omega (arith, less); names = λ is. refl }

-- a fence begins
fencing_paid : (w : ℕ) (row : PhaseStep) (next : ℕ) → weigh row.file.phase false ≡ 0 → 1 ≤ length row.entries → Paid w (goes_fencing row next)
fencing_paid w row next light some = record { pays = omega (arith, light, some); names = λ is. refl }

end_some : (file : FileId) (cred : Cred) (left : List Entry) (cause : EndCause) (live : List Mirror) → 1 ≤ length (end_entries file cred left cause live)
end_some file cred left cause [] = omega arith
end_some file cred left cause (m ∷ live) = let both = length-append left (entry.Ended file cred cause ∷ []) in omega (arith, both)

left_light : (s : LayoutState) (next : Cred) (live : List Mirror) → weigh (left_with s next live).phase false ≡ 0
left_light s next [] = refl
left_light s next (m ∷ live) = refl

nothing_paid : (f : MdsFile) → Paid (weight f) (nothing f)
nothing_paid f = record { pays = omega arith; names = λ is. refl }

module _ (file : FileId) (fresh : Fresh) where
  -- ---- periods

  asked_paid : (f : MdsFile) (holder : NodeId) (entries : List Entry) (p : LayoutPhase) → Paid (weight f) (asked_in file f holder entries fresh p)
  asked_paid f holder entries Making = nothing_paid f
  asked_paid f holder entries Free =
      cond_both (are_spent fresh) (nothing f)
      (with_entries (granted file f.layout holder).entries (record { file = record { layout = (granted file f.layout holder).file; activity = f.activity }; entries = entries; uids = 0; names = 0 })) (Paid (weight f)) (λ is. nothing_paid f)
      (λ off. record { pays = omega arith; names = λ is. refl })
  asked_paid f holder entries (Held other recalled) = nothing_paid f
  asked_paid f holder entries (Fencing next end) = nothing_paid f
  asked_paid f holder entries (Settling copies) = nothing_paid f
  asked_paid f holder entries (Copying copier copies) = nothing_paid f

  held_paid : (f : MdsFile) (row : NodeId → FileStep) (p : LayoutPhase) → ((holder : NodeId) → Paid (weight f) (row holder)) → Paid (weight f) (held_in f row p)
  held_paid f row Making all = nothing_paid f
  held_paid f row Free all = nothing_paid f
  held_paid f row (Held holder recalled) all = all holder
  held_paid f row (Fencing next end) all = nothing_paid f
  held_paid f row (Settling copies) all = nothing_paid f
  held_paid f row (Copying copier copies) all = nothing_paid f

  client_paid : (f : MdsFile) (row : ℕ → FileStep) → ((n : ℕ) → Paid (weight f) (row n)) → (holder : NodeId) → Paid (weight f) (by_client f row holder)
  client_paid f row all Mds = nothing_paid f
  client_paid f row all (Server n) = nothing_paid f
  client_paid f row all (Client n) = all n

  mds_paid : (f : MdsFile) (row : FileStep) → Paid (weight f) row → (holder : NodeId) → Paid (weight f) (by_mds f row holder)
  mds_paid f row its Mds = its
  mds_paid f row its (Server n) = nothing_paid f
  mds_paid f row its (Client n) = nothing_paid f

  returned_paid : (f : MdsFile) (client : ℕ) (claimed : Cred) (places : List Bool) (holder : ℕ) → Paid (weight f) (returned_row file f client claimed places fresh holder)
  returned_paid f client claimed places holder =
      let live : List Mirror = unreported places f.layout.live in
      cond_both (holder == client && (f.layout.cred.0 == claimed.0)) (goes_fencing (returned file f.layout places (a_uid fresh.uid)) fresh.uid) (nothing f) (Paid (weight f))
      (λ is. fencing_paid (weight f) (returned file f.layout places (a_uid fresh.uid)) fresh.uid (left_light f.layout (a_uid fresh.uid) live)
      (end_some file f.layout.cred (left_entries file (map reported_cause places) f.layout.live) Returned live)) (λ off. nothing_paid f)

  revoked_paid : (f : MdsFile) (cause : EndCause) → Paid (weight f) (revoked_row file f cause fresh)
  revoked_paid f cause =
      cond_both (is_clean cause) (nothing f) (goes_fencing (revoked file f.layout cause (a_uid fresh.uid)) fresh.uid) (Paid (weight f)) (λ is. nothing_paid f)
      (λ off. fencing_paid (weight f) (revoked file f.layout cause (a_uid fresh.uid)) fresh.uid refl (omega arith))

  own_paid : (f : MdsFile) (causes : List (Option LeftCause)) (told : Entry) → Paid (weight f) (own_row file f causes told fresh)
  own_paid f causes told =
      let live : List Mirror = unreported (map is_some causes) f.layout.live in
      fencing_paid (weight f) (own_done file f.layout causes told (a_uid fresh.uid)) fresh.uid (left_light f.layout (a_uid fresh.uid) live) (end_some file f.layout.cred (left_entries file causes f.layout.live ++ told ∷ []) Own live)

  resilver_paid : (f : MdsFile) (p : LayoutPhase) → weigh p (is_settling f.activity) ≡ weight f → Paid (weight f) (resilvered_in f fresh p)
  resilver_paid f Making is = nothing_paid f
  resilver_paid f Free is =
      cond_both (nat_lt (length f.layout.live) f.layout.wanted && (if are_spent fresh then false else true)) (stays (resilvered f.layout) (Settles Waits)) (nothing f) (Paid (weight f))
      (λ on. still_paid (weight f) (resilvered f.layout) (Settles Waits) (omega (arith, is))) (λ off. nothing_paid f)
  resilver_paid f (Held holder recalled) is = nothing_paid f
  resilver_paid f (Fencing next end) is = nothing_paid f
  resilver_paid f (Settling copies) is = nothing_paid f
  resilver_paid f (Copying copier copies) is = nothing_paid f

  -- ---- CREATEs

  module _ (w : ℕ) (layout : LayoutState) where
    on_paid : (all : Creations) → weigh layout.phase false ≤ w → Paid w (making_on file layout all)
    on_paid all less =
        cond_both (list_all (λ (c : Creation). is_over c.stage) all.items) (goes_idle (made file layout (all_made all)) 0) (stays layout (Makes all)) (Paid w)
        (λ is. told_paid w (made file layout (all_made all)).file Idle (made file layout (all_made all)).entries (omega arith)) (λ off. still_paid w layout (Makes all) less)

    making_at_paid : (all : Creations) (step : Creation → Creation) (place : ℕ) (o : Option Creation) → weigh layout.phase false ≤ w → Paid w (making_at file layout all step place o)
    making_at_paid all step place None less = still_paid w layout (Makes all) less
    making_at_paid all step place (Some c) less = on_paid (with_creation all place (step c)) less

    making_paid : (all : Creations) (step : Creation → Creation) (o : Option ℕ) → weigh layout.phase false ≤ w → Paid w (making_by file layout all step o)
    making_paid all step None less = still_paid w layout (Makes all) less
    making_paid all step (Some place) less = making_at_paid all step place (slice_get all.items place) less

    -- ---- the COMMIT of a source

    leaves_paid : (live : List Mirror) (cause : LeftCause) (kept : Activity) → weigh layout.phase (is_settling kept) ≤ w → Paid w (source_left file layout live cause kept)
    leaves_paid [] cause kept less = still_paid w layout kept less
    leaves_paid (m ∷ live) cause kept less =
        cond_both (is_last_live layout.live) (stays layout kept)
        (record { file = record { layout = (mirror_left file layout m.id cause).file; activity = Settles Waits }; entries = (mirror_left file layout m.id cause).entries; uids = 0; names = 0 }) (Paid w) (λ is. still_paid w layout kept less)
        (λ off. told_paid w (mirror_left file layout m.id cause).file (Settles Waits) (mirror_left file layout m.id cause).entries (omega arith))

    copies_light : (copies : CopyKind) (copier : Cred) → has_targets copies (length layout.live) layout.wanted ≡ true → weigh (settled_row file layout copies copier).file.phase false ≡ 0
    copies_light copies copier is = by_test (has_targets copies (length layout.live) layout.wanted) is
      where
        by_test : (b : Bool) → b ≡ true → weigh (cond b (record { file = with_phase layout (Copying copier copies); entries = [] }) (freed file layout)).file.phase false ≡ 0
        by_test true on = refl
        by_test false on = absurd cc

    free_told : (copies : CopyKind) (copier : Cred) → has_targets copies (length layout.live) layout.wanted ≡ false → 1 ≤ length (settled_row file layout copies copier).entries
    free_told copies copier off = by_test (has_targets copies (length layout.live) layout.wanted) off
      where
        by_test : (b : Bool) → b ≡ false → 1 ≤ length (cond b (record { file = with_phase layout (Copying copier copies); entries = [] }) (freed file layout)).entries
        by_test false is = omega arith
        by_test true is = absurd cc

    commit_paid : (copies : CopyKind) → 1 ≤ w → Paid w (settled file layout copies fresh)
    commit_paid copies one =
        cond_both (has_targets copies (length layout.live) layout.wanted) (copying (settled_row file layout copies (a_uid fresh.uid)).file fresh (plan_of copies layout fresh)) (goes_idle (settled_row file layout copies (a_uid fresh.uid)) 0) (Paid w)
        (λ is. let light = copies_light copies (a_uid fresh.uid) is in record { pays = omega (arith, one, light); names = λ zero. absurd (none_drawn zero) })
        (λ off. told_paid w (settled_row file layout copies (a_uid fresh.uid)).file Idle (settled_row file layout copies (a_uid fresh.uid)).entries (free_told copies (a_uid fresh.uid) off))
      where
        none_drawn : (suc zero ≡ zero) → ⊥
        none_drawn is = absurd cc

    settling_paid : (copies : CopyKind) (reply : DsReplyValue) → weigh layout.phase true ≤ w → 1 ≤ w → Paid w (settling_answered file layout copies fresh reply)
    settling_paid copies (Created fileid shown) less one = leaves_paid layout.live (Error odd_status) (Settles KeptBack) less
    settling_paid copies (Set shown) less one = leaves_paid layout.live (Error odd_status) (Settles KeptBack) less
    settling_paid copies (Written shown verifier) less one = leaves_paid layout.live (Error odd_status) (Settles KeptBack) less
    settling_paid copies (Committed shown verifier) less one = commit_paid copies one
    settling_paid copies (Bytes shown eof bytes) less one = leaves_paid layout.live (Error odd_status) (Settles KeptBack) less
    settling_paid copies (NotSync shown) less one = leaves_paid layout.live (Error odd_status) (Settles KeptBack) less
    settling_paid copies (Failed status shown) less one = leaves_paid layout.live (Error status) (Settles KeptBack) less

    settling_late_paid : (s : CallStage) → weigh layout.phase true ≤ w → Paid w (settling_timed_out file layout s)
    settling_late_paid Waits less = still_paid w layout (Settles Waits) less
    settling_late_paid (Out xid timeouts) less =
        cond_both (nat_lt (timeouts + 1) MAX_TIMEOUTS) (stays layout (Settles (Out xid (timeouts + 1)))) (source_left file layout layout.live Timeouts (Settles (KeptOut xid))) (Paid w)
        (λ is. still_paid w layout (Settles (Out xid (timeouts + 1))) less) (λ off. leaves_paid layout.live Timeouts (Settles (KeptOut xid)) less)
    settling_late_paid (KeptOut xid) less = still_paid w layout (Settles (KeptOut xid)) less
    settling_late_paid KeptBack less = still_paid w layout (Settles KeptBack) less
    settling_late_paid Done less = still_paid w layout (Settles Done) less
    settling_late_paid GivenUp less = still_paid w layout (Settles GivenUp) less

    -- ---- a copy

    copied_by_paid : (copier : ℕ) (targets : List SwappedIn) → Paid w (copied_by file layout (a_uid copier) targets fresh)
    copied_by_paid copier [] = told_paid w (freed file layout).file Idle (freed file layout).entries (omega arith)
    copied_by_paid copier (t ∷ targets) = record { pays = omega arith; names = λ is. refl }

    copied_paid : (c : CopyState) → weigh layout.phase false ≤ w → Paid w (copied_on file layout c fresh)
    copied_paid c less =
        cond_both (has_outcome c) (copied_by file layout (a_uid c.copier) (swaps_of c) fresh) (stays layout (Copies c)) (Paid w) (λ is. copied_by_paid c.copier (swaps_of c)) (λ off. still_paid w layout (Copies c) less)

  -- with an entry before
  behind_paid : (w : ℕ) (e : Entry) (x : FileStep) → Paid (w + 1) x → Paid w (with_entries (e ∷ []) x)
  behind_paid w e x p = let its = p.pays in record { pays = omega (arith, its); names = p.names }

  target_paid : (w : ℕ) (layout : LayoutState) (c : CopyState) (cause : LeftCause) (o : Option MirrorId) → weigh layout.phase false ≤ w → Paid w (target_left file layout c fresh cause o)
  target_paid w layout c cause None less = copied_paid w layout c less
  target_paid w layout c cause (Some id) less =
      let one = weigh_one (mirror_left file layout id cause).file.phase false in
      behind_paid w (entry.Left file id cause) (copied_on file (mirror_left file layout id cause).file c fresh) (copied_paid (w + 1) (mirror_left file layout id cause).file c (omega (arith, one)))

  copy_paid : (w : ℕ) (layout : LayoutState) (c : CopyState) (s : CopyStep) → weigh layout.phase false ≤ w → Paid w (copy_stepped file layout c fresh s)
  copy_paid w layout c copy_step.Stranger less = still_paid w layout (Copies c) less
  copy_paid w layout c copy_step.Waiting less = still_paid w layout (Copies c) less
  copy_paid w layout c (copy_step.SourceFailed cause) less = leaves_paid w layout layout.live cause (Copies c) less
  copy_paid w layout c (copy_step.TargetFailed server replaced cause) less = target_paid w layout c cause replaced less
  copy_paid w layout c copy_step.Done less = copied_paid w layout c less

  -- ---- a fence

  begun_light : (p : LayoutPhase) → weigh p (is_settling (begun_by p)) ≡ weigh p false
  begun_light Making = refl
  begun_light Free = refl
  begun_light (Held holder recalled) = refl
  begun_light (Fencing next end) = refl
  begun_light (Settling copies) = refl
  begun_light (Copying copier copies) = refl

  done_paid : (w : ℕ) (layout : LayoutState) (p : LayoutPhase) → weigh layout.phase false ≤ w
      → Paid w (record { file = record { layout = fenced_to layout p; activity = begun_by (fenced_to layout p).phase }; entries = fence_entries file layout p; uids = 0; names = 0 })
  done_paid w layout Making less = let same = begun_light layout.phase in still_paid w layout (begun_by layout.phase) (omega (arith, less, same))
  done_paid w layout Free less = let same = begun_light layout.phase in still_paid w layout (begun_by layout.phase) (omega (arith, less, same))
  done_paid w layout (Held holder recalled) less = let same = begun_light layout.phase in still_paid w layout (begun_by layout.phase) (omega (arith, less, same))
  done_paid w layout (Fencing next end) less =
      told_paid w (fenced_to layout (Fencing next end)) (begun_by (fenced_to layout (Fencing next end)).phase) (fence_entries file layout (Fencing next end)) (omega arith)
  done_paid w layout (Settling copies) less = let same = begun_light layout.phase in still_paid w layout (begun_by layout.phase) (omega (arith, less, same))
  done_paid w layout (Copying copier copies) less = let same = begun_light layout.phase in still_paid w layout (begun_by layout.phase) (omega (arith, less, same))

  fenced_on_paid : (w : ℕ) (layout : LayoutState) (x : FenceState) → weigh layout.phase false ≤ w → Paid w (fenced_on file layout x)
  fenced_on_paid w layout x less = cond_both (is_done x) (goes_on (fence_done file layout)) (stays layout (Fences x)) (Paid w) (λ is. done_paid w layout layout.phase less) (λ off. still_paid w layout (Fences x) less)

  fence_paid : (w : ℕ) (layout : LayoutState) (x : FenceState) (s : FenceStep) → weigh layout.phase false ≤ w → Paid w (fence_stepped file layout x s)
  fence_paid w layout x Stranger less = still_paid w layout (Fences x) less
  fence_paid w layout x Acked less = fenced_on_paid w layout x less
  fence_paid w layout x Again less = still_paid w layout (Fences x) less
  fence_paid w layout x (HasFailed id cause) less =
      let one = weigh_one (mirror_left file layout id cause).file.phase false in
      cond_both (is_last_live layout.live) (stays layout (Fences x)) (with_entries (mirror_left file layout id cause).entries (fenced_on file (mirror_left file layout id cause).file (without x id))) (Paid w)
      (λ is. still_paid w layout (Fences x) less)
      (λ off. behind_paid w (entry.Left file id cause) (fenced_on file (mirror_left file layout id cause).file (without x id)) (fenced_on_paid (w + 1) (mirror_left file layout id cause).file (without x id) (omega (arith, one))))

  -- ---- answers, timeouts and ticks

  seen_same : (s : LayoutState) (o : Option FenceMirror) (shown : Option Shown) (b : Bool) → weigh (seen_by s o shown).phase b ≡ weigh s.phase b
  seen_same s None shown b = refl
  seen_same s (Some m) None b = refl
  seen_same s (Some m) (Some shown) b = refl

  source_same : (s : LayoutState) (live : List Mirror) (shown : Option Shown) (b : Bool) → weigh (seen_at_source s live shown).phase b ≡ weigh s.phase b
  source_same s [] shown b = refl
  source_same s (m ∷ live) None b = refl
  source_same s (m ∷ live) (Some shown) b = refl

  -- it settles only where a copy may begin
  settles_paid : (f : MdsFile) (row : CopyKind → FileStep) (p : LayoutPhase) → ((copies : CopyKind) → 1 ≤ weigh p true → Paid (weight f) (row copies)) → Paid (weight f) (settles_by f row (kind_of p))
  settles_paid f row Making all = nothing_paid f
  settles_paid f row Free all = nothing_paid f
  settles_paid f row (Held holder recalled) all = nothing_paid f
  settles_paid f row (Fencing next end) all = nothing_paid f
  settles_paid f row (Settling copies) all = all copies (omega arith)
  settles_paid f row (Copying copier copies) all = all copies (omega arith)

  answered_paid : (f : MdsFile) (xid : ℕ) (reply : DsReplyValue) (a : Activity) → weigh f.layout.phase (is_settling a) ≡ weight f → Paid (weight f) (answered_in file f xid reply fresh a)
  answered_paid f xid reply Idle is = nothing_paid f
  answered_paid f xid reply (Makes all) is = making_paid (weight f) f.layout all (λ c. creation_answered all c reply) (creation_of all xid) (omega (arith, is))
  answered_paid f xid reply (Fences x) is =
      let same = seen_same f.layout (mirror_at x (outstanding_at x xid)) (shown_by_set reply) false in
      fence_paid (weight f) (seen_by f.layout (mirror_at x (outstanding_at x xid)) (shown_by_set reply)) (on_reply x xid reply).fence (on_reply x xid reply).step (omega (arith, is, same))
  answered_paid f xid reply (Settles stage) is =
      let layout : LayoutState = seen_at_source f.layout f.layout.live (shown_by_commit reply) in
      let same : weigh layout.phase true ≡ weigh f.layout.phase true = source_same f.layout f.layout.live (shown_by_commit reply) true in
      cond_both (is_out xid stage) (settles_by f (λ copies. settling_answered file layout copies fresh reply) (kind_of f.layout.phase)) (nothing f) (Paid (weight f))
      (λ out. settles_paid f (λ copies. settling_answered file layout copies fresh reply) f.layout.phase (λ copies one. settling_paid (weight f) layout copies reply (omega (arith, same, is)) (omega (arith, one, is)))) (λ off. nothing_paid f)
  answered_paid f xid reply (Copies c) is = copy_paid (weight f) f.layout (copy.on_reply c xid reply).copy (copy.on_reply c xid reply).step (omega (arith, is))

  late_paid : (f : MdsFile) (xid : ℕ) (a : Activity) → weigh f.layout.phase (is_settling a) ≡ weight f → Paid (weight f) (timed_out_in file f xid fresh a)
  late_paid f xid Idle is = nothing_paid f
  late_paid f xid (Makes all) is = making_paid (weight f) f.layout all (creation_timed_out all) (creation_of all xid) (omega (arith, is))
  late_paid f xid (Fences x) is = fence_paid (weight f) f.layout (on_timeout x xid).fence (on_timeout x xid).step (omega (arith, is))
  late_paid f xid (Settles stage) is =
      cond_both (is_out xid stage) (settling_timed_out file f.layout stage) (nothing f) (Paid (weight f)) (λ out. settling_late_paid (weight f) f.layout stage (omega (arith, is))) (λ off. nothing_paid f)
  late_paid f xid (Copies c) is = copy_paid (weight f) f.layout (copy.on_timeout c xid).copy (copy.on_timeout c xid).step (omega (arith, is))

  ticked_same : (a : Activity) → is_settling (ticked a) ≡ is_settling a
  ticked_same Idle = refl
  ticked_same (Makes all) = refl
  ticked_same (Fences x) = refl
  ticked_same (Settles stage) = refl
  ticked_same (Copies c) = refl

  -- ---- the table

  pub phase_paid : (f : MdsFile) (input : FileInput) → Paid (weight f) (phase file f input fresh)
  phase_paid f (AsksLayout client) = asked_paid f (Client client) [] f.layout.phase
  phase_paid f (OwnWrite at bytes) = asked_paid f Mds (entry.Sent file f.layout.cred at bytes ∷ []) f.layout.phase
  phase_paid f Recall = held_paid f (by_client f (recalled_row f)) f.layout.phase (client_paid f (recalled_row f) (λ n. record { pays = omega arith; names = λ is. refl }))
  phase_paid f (Returns client claimed places) =
      held_paid f (by_client f (returned_row file f client claimed places fresh)) f.layout.phase (client_paid f (returned_row file f client claimed places fresh) (λ n. returned_paid f client claimed places n))
  phase_paid f (Revokes cause) = held_paid f (by_client f (λ client. revoked_row file f cause fresh)) f.layout.phase (client_paid f (λ client. revoked_row file f cause fresh) (λ n. revoked_paid f cause))
  phase_paid f (OwnEnds causes at bytes) =
      let told : Entry = entry.Told file f.layout.cred at bytes in
      held_paid f (by_mds f (own_row file f causes told fresh)) f.layout.phase (mds_paid f (own_row file f causes told fresh) (own_paid f causes told))
  phase_paid f Resilver = resilver_paid f f.layout.phase refl
  phase_paid f (Answers xid reply) = answered_paid f xid reply f.activity refl
  phase_paid f (TimesOut xid) = late_paid f xid f.activity refl
  phase_paid f Ticks = let same = ap (weigh f.layout.phase) (ticked_same f.activity) in record { pays = omega (arith, same); names = λ is. refl }
  phase_paid f (Sees id seen) = record { pays = omega arith; names = λ is. refl }

-- ---- the calls that go out

module _ (f : MdsFile) where
  abbrev OutWeighs : Option CallOut → Type 0
  OutWeighs None = Unit {0}
  OutWeighs (Some c) = weight c.file ≡ weight f

  create_at_weighs : (all : Creations) (xid place : ℕ) (o : Option Creation) → weigh f.layout.phase false ≡ weight f → OutWeighs (create_out_at f all xid place o)
  create_at_weighs all xid place None is = tt
  create_at_weighs all xid place (Some c) is = is

  create_weighs : (all : Creations) (xid : ℕ) (o : Option ℕ) → weigh f.layout.phase false ≡ weight f → OutWeighs (create_out f all xid o)
  create_weighs all xid None is = tt
  create_weighs all xid (Some place) is = create_at_weighs all xid place (slice_get all.items place) is

  fence_at_weighs : (x : FenceState) (xid place : ℕ) (o : Option FenceMirror) → weigh f.layout.phase false ≡ weight f → OutWeighs (fence_out f (fence.fence_call_at x xid place o))
  fence_at_weighs x xid place None is = tt
  fence_at_weighs x xid place (Some m) is = is

  fence_from_weighs : (x : FenceState) (xid : ℕ) (o : Option ℕ) → weigh f.layout.phase false ≡ weight f → OutWeighs (fence_out f (fence.call_from x xid o))
  fence_from_weighs x xid None is = tt
  fence_from_weighs x xid (Some place) is = fence_at_weighs x xid place (slice_get x.mirrors place) is

  settle_weighs : (xid : ℕ) (live : List Mirror) → weigh f.layout.phase true ≡ weight f → OutWeighs (settle_out f xid live)
  settle_weighs xid [] is = tt
  settle_weighs xid (m ∷ live) is = is

  copy_weighs : (o : Option CopyCall) → weigh f.layout.phase false ≡ weight f → OutWeighs (copy_out f o)
  copy_weighs None is = tt
  copy_weighs (Some x) is = is

  out_of_weighs : (xid : ℕ) (a : Activity) → weigh f.layout.phase (is_settling a) ≡ weight f → OutWeighs (call_out_of f xid a)
  out_of_weighs xid Idle is = tt
  out_of_weighs xid (Makes all) is = create_weighs all xid (creation_waiting all) is
  out_of_weighs xid (Fences x) is = fence_from_weighs x xid (fence.waiting_at x) is
  out_of_weighs xid (Settles stage) is = cond_both (waits stage) (settle_out f xid f.layout.live) None OutWeighs (λ on. settle_weighs xid f.layout.live is) (λ off. tt)
  out_of_weighs xid (Copies c) is = copy_weighs (copy.next_call c xid) is

  pub out_weighs : (xid : ℕ) (c : CallOut) → call_out f xid ≡ Some c → weight c.file ≡ weight f
  out_weighs xid c is = subst OutWeighs is (out_of_weighs xid f.activity refl)
