-- Each input of the table of phases, and each call that goes out, keeps in order what a file has under way.
use Rattle.std.proofs.Common.{◌≡◌, ℕ, ◌+◌, Bool, true, false, cond, List, [], ◌∷◌, map, Option, Some, None, refl, sym, ap, subst, ◌∙◌}
use Rattle.std.specs.Prelude.{◌==◌, ◌&&◌, not, nat_lt, slice_get, is_some, if◌then◌else◌}
use Rattle.std.specs.List.{AllByRecursion, list_all}
use Rattle.std.proofs.lemmas.Bool.{cond_both}
use Rattle.std.proofs.lemmas.Option.{same_Some}
use Rattle.cluster_model.specs.declared.limits.TheConstants.{MAX_TIMEOUTS}
use Rattle.cluster_model.specs.declared.ids.NodeId.{NodeId}
use Rattle.cluster_model.specs.declared.ids.NodeId.TheVariants.{Mds, Server, Client}
use Rattle.cluster_model.specs.declared.ids.FileId.{FileId}
use Rattle.cluster_model.specs.declared.ids.Cred.{Cred}
use Rattle.cluster_model.specs.declared.ids.Mirror.{Mirror}
use Rattle.cluster_model.specs.declared.ids.MirrorId.{MirrorId}
use Rattle.cluster_model.specs.declared.phase.EndCause.{EndCause}
use Rattle.cluster_model.specs.declared.phase.LeftCause.{LeftCause}
use Rattle.cluster_model.specs.declared.phase.LeftCause.TheVariants.{Error, Timeouts}
use Rattle.cluster_model.specs.declared.ds_call.Shown.{Shown}
use Rattle.cluster_model.specs.declared.call_stage.CallStage.{CallStage}
use Rattle.cluster_model.specs.declared.call_stage.CallStage.TheVariants.{Waits, Out, KeptOut, KeptBack, Done, GivenUp}
use Rattle.cluster_model.specs.declared.entry.Entry.{Entry}
use Rattle.cluster_model.specs.declared.entry.Entry.TheVariants as entry
use Rattle.cluster_model.specs.declared.fence_mirror.FenceMirror.{FenceMirror}
use Rattle.cluster_model.specs.declared.fence_mirror.FenceStep.{FenceStep}
use Rattle.cluster_model.specs.declared.fence_mirror.FenceStep.TheVariants.{Stranger, Acked, Again, Failed as HasFailed}
use Rattle.cluster_model.specs.declared.layout_state.LayoutState.{LayoutState}
use Rattle.cluster_model.specs.declared.layout_state.LayoutPhase.{LayoutPhase}
use Rattle.cluster_model.specs.declared.layout_state.LayoutPhase.TheVariants.{Making, Free, Held, Fencing, Settling, Copying}
use Rattle.cluster_model.specs.declared.layout_state.CopyKind.{CopyKind}
use Rattle.cluster_model.specs.declared.targets.SwappedIn.{SwappedIn}
use Rattle.cluster_model.specs.DsCalls.{DsReplyValue, Created, Set, Written, Committed, Bytes, NotSync, Failed}
use Rattle.cluster_model.specs.Mirrors.{are_on_different_servers}
use Rattle.cluster_model.specs.Journal.{is_mirror}
use Rattle.cluster_model.specs.Fences.{waits, is_out, is_over, odd_status, FenceState, with_stage, waiting_at, outstanding_at, fence_call_at, call_from, on_reply, on_timeout, without, is_done}
use Rattle.cluster_model.specs.Phases.{ids_of, but_for, is_last_live, with_phase, is_clean, unreported, PhaseStep, freed, made, granted, recalled, left_with, returned, revoked, own_done, mirror_left, fenced_to, after_fence, fence_done, has_targets, with_targets, copied, resilvered}
use Rattle.copy_rule.specs.declared.copy_target.CopyTarget.{CopyTarget}
use Rattle.copy_rule.specs.declared.copy_target.CopyStep.{CopyStep}
use Rattle.copy_rule.specs.declared.copy_target.CopyStep.TheVariants as copy_step
use Rattle.copy_rule.specs.Copies.{CopyState, CopyCall, to_make, may_read_on, has_outcome, swaps_of, target_call_at}
use Rattle.copy_rule.specs.Copies as copy
use Rattle.file_rule.specs.declared.creation.Creation.{Creation}
use Rattle.file_rule.specs.declared.fresh.Fresh.{Fresh}
use Rattle.file_rule.specs.MdsFiles.{Creations, Activity, Idle, Makes, Fences, Settles, Copies, MdsFile, FileStep, nothing, stays, a_uid, goes_idle, goes_fencing, begun_by, goes_on, with_entries, fenced_on, fence_stepped, shown_by_set, seen_by, mirror_at, in_stage, with_creation, creation_of, creation_answered, creation_timed_out, all_made, making_on, making_at, making_by, plan_of, copying, settled, source_left, shown_by_commit, seen_at_source, settling_answered, settling_timed_out, copied_by, copied_on, target_left, copy_stepped}
use Rattle.file_rule.specs.FilePhases.{FileInput, AsksLayout, OwnWrite, Recall, Returns, Revokes, OwnEnds, Resilver, Answers, TimesOut, Ticks, Sees, are_spent, asked_in, held_in, by_client, by_mds, recalled_row, returned_row, revoked_row, own_row, resilvered_in, kind_of, settles_by, answered_in, timed_out_in, ticked, phase, CallOut, creation_waiting, create_out_at, create_out, fence_out, settle_out, copy_out, call_out_of, call_out}
use Rattle.cluster_laws.proofs.Lives.{apart_filter, apart_unreported, apart_seen}
use Rattle.cluster_laws.proofs.Makings.{answered_server}
use Rattle.cluster_laws.proofs.Plans.{swap_apart}
use Rattle.mds_quiet.proofs.OwnCalls.{FoundOff, found_off}
use Rattle.mds_quiet.proofs.Ordered.{AreTargets, IsMadeThere, AreCreations, IsBusy, IsOrdered, seen_busy, creations_set, answered_there, ticked_creations, made_apart, waits_left, fence_set, reply_part, timeout_part, fence_new, without_part, ticked_part, targets_set, targets_less, IsRoomFor, IsCopyAfter, copy_reply, copy_timeout, targets_new}

abbrev Ord : FileStep → Type 0
Ord s = IsOrdered s.file

kept : (s : LayoutState) (a : Activity) → are_on_different_servers s.live ≡ true → IsBusy s.live a → Ord (stays s a)
kept s a apart busy = record { apart = apart; busy = busy }

fences : (row : PhaseStep) (next : ℕ) → are_on_different_servers row.file.live ≡ true → Ord (goes_fencing row next)
fences row next apart = record { apart = apart; busy = fence_new row.file.live next }

begun_busy : (live : List Mirror) (p : LayoutPhase) → IsBusy live (begun_by p)
begun_busy live Making = tt
begun_busy live Free = tt
begun_busy live (Held holder recalled) = tt
begun_busy live (Fencing next end) = tt
begun_busy live (Settling copies) = tt
begun_busy live (Copying copier copies) = tt

-- ---- the live list

module _ (file : FileId) (s : LayoutState) (apart : are_on_different_servers s.live ≡ true) where
  loss_apart : (id : MirrorId) → are_on_different_servers (but_for id s.live) ≡ true
  loss_apart id = apart_filter (λ (m : Mirror). not (is_mirror m.id id)) s.live apart

  fenced_apart : (p : LayoutPhase) → are_on_different_servers (fenced_to s p).live ≡ true
  fenced_apart Making = apart
  fenced_apart Free = apart
  fenced_apart (Held holder recalled) = apart
  fenced_apart (Fencing next end) = apart
  fenced_apart (Settling copies) = apart
  fenced_apart (Copying copier copies) = apart

  return_apart : (next : Cred) (live : List Mirror) → are_on_different_servers live ≡ true → are_on_different_servers (left_with s next live).live ≡ true
  return_apart next [] its = apart
  return_apart next (m ∷ live) its = its

  seen_apart : (o : Option FenceMirror) (shown : Option Shown) → are_on_different_servers (seen_by s o shown).live ≡ true
  seen_apart None shown = apart
  seen_apart (Some m) None = apart
  seen_apart (Some m) (Some shown) = apart_seen m.id shown.seen s.live apart

  source_apart : (live : List Mirror) (shown : Option Shown) → are_on_different_servers (seen_at_source s live shown).live ≡ true
  source_apart [] shown = apart
  source_apart (m ∷ live) None = apart
  source_apart (m ∷ live) (Some shown) = apart_seen m.id shown.seen s.live apart

seen_by_busy : (s : LayoutState) (a : Activity) → IsBusy s.live a → (o : Option FenceMirror) (shown : Option Shown) → IsBusy (seen_by s o shown).live a
seen_by_busy s a i None shown = i
seen_by_busy s a i (Some m) None = i
seen_by_busy s a i (Some m) (Some shown) = seen_busy m.id shown.seen s.live a i

-- ---- the table

module _ (file : FileId) (fresh : Fresh) where
  asked_ord : (f : MdsFile) (holder : NodeId) (entries : List Entry) (p : LayoutPhase) → IsOrdered f → Ord (asked_in file f holder entries fresh p)
  asked_ord f holder entries Making i = i
  asked_ord f holder entries Free i =
      cond_both (are_spent fresh) (nothing f)
      (with_entries (granted file f.layout holder).entries (record { file = record { layout = (granted file f.layout holder).file; activity = f.activity }; entries = entries; uids = 0; names = 0 })) Ord (λ is. i)
      (λ off. record { apart = i.apart; busy = i.busy })
  asked_ord f holder entries (Held other recalled) i = i
  asked_ord f holder entries (Fencing next end) i = i
  asked_ord f holder entries (Settling copies) i = i
  asked_ord f holder entries (Copying copier copies) i = i

  held_ord : (f : MdsFile) (row : NodeId → FileStep) (p : LayoutPhase) → ((holder : NodeId) → Ord (row holder)) → IsOrdered f → Ord (held_in f row p)
  held_ord f row Making all i = i
  held_ord f row Free all i = i
  held_ord f row (Held holder recalled) all i = all holder
  held_ord f row (Fencing next end) all i = i
  held_ord f row (Settling copies) all i = i
  held_ord f row (Copying copier copies) all i = i

  client_ord : (f : MdsFile) (row : ℕ → FileStep) → ((n : ℕ) → Ord (row n)) → IsOrdered f → (holder : NodeId) → Ord (by_client f row holder)
  client_ord f row all i Mds = i
  client_ord f row all i (Server n) = i
  client_ord f row all i (Client n) = all n

  mds_ord : (f : MdsFile) (row : FileStep) → Ord row → IsOrdered f → (holder : NodeId) → Ord (by_mds f row holder)
  mds_ord f row its i Mds = its
  mds_ord f row its i (Server n) = i
  mds_ord f row its i (Client n) = i

  returned_ord : (f : MdsFile) (client : ℕ) (claimed : Cred) (places : List Bool) (holder : ℕ) → IsOrdered f → Ord (returned_row file f client claimed places fresh holder)
  returned_ord f client claimed places holder i =
      cond_both (holder == client && (f.layout.cred.0 == claimed.0)) (goes_fencing (returned file f.layout places (a_uid fresh.uid)) fresh.uid) (nothing f) Ord
      (λ is. fences (returned file f.layout places (a_uid fresh.uid)) fresh.uid (return_apart file f.layout i.apart (a_uid fresh.uid) (unreported places f.layout.live) (apart_unreported places f.layout.live i.apart)))
      (λ off. i)

  revoked_ord : (f : MdsFile) (cause : EndCause) → IsOrdered f → Ord (revoked_row file f cause fresh)
  revoked_ord f cause i =
      cond_both (is_clean cause) (nothing f) (goes_fencing (revoked file f.layout cause (a_uid fresh.uid)) fresh.uid) Ord (λ is. i) (λ off. fences (revoked file f.layout cause (a_uid fresh.uid)) fresh.uid i.apart)

  own_ord : (f : MdsFile) (causes : List (Option LeftCause)) (told : Entry) → IsOrdered f → Ord (own_row file f causes told fresh)
  own_ord f causes told i =
      fences (own_done file f.layout causes told (a_uid fresh.uid)) fresh.uid (return_apart file f.layout i.apart (a_uid fresh.uid) (unreported (map is_some causes) f.layout.live) (apart_unreported (map is_some causes) f.layout.live i.apart))

  resilver_ord : (f : MdsFile) (p : LayoutPhase) → IsOrdered f → Ord (resilvered_in f fresh p)
  resilver_ord f Making i = i
  resilver_ord f Free i =
      cond_both (nat_lt (length_of f) f.layout.wanted && (if are_spent fresh then false else true)) (stays (resilvered f.layout) (Settles Waits)) (nothing f) Ord (λ is. kept (resilvered f.layout) (Settles Waits) i.apart tt) (λ off. i)
    where
      length_of : MdsFile → ℕ
      length_of g = Rattle.std.specs.Prelude.length g.layout.live
  resilver_ord f (Held holder recalled) i = i
  resilver_ord f (Fencing next end) i = i
  resilver_ord f (Settling copies) i = i
  resilver_ord f (Copying copier copies) i = i

  -- ---- CREATEs

  on_ord : (layout : LayoutState) (all : Creations) → are_on_different_servers layout.live ≡ true → AreCreations layout.live all.items → Ord (making_on file layout all)
  on_ord layout all apart busy =
      cond_both (list_all (λ (c : Creation). is_over c.stage) all.items) (goes_idle (made file layout (all_made all)) 0) (stays layout (Makes all)) Ord
      (λ is. record { apart = made_apart all.items busy.on busy.apart; busy = tt }) (λ off. kept layout (Makes all) apart busy)

  making_at_ord : (layout : LayoutState) (all : Creations) (step : Creation → Creation) → ((c : Creation) → (step c).server ≡ c.server) → ((c : Creation) → IsMadeThere c → IsMadeThere (step c)) → (place : ℕ) (o : Option Creation) → slice_get all.items place ≡ o
      → are_on_different_servers layout.live ≡ true → AreCreations layout.live all.items → Ord (making_at file layout all step place o)
  making_at_ord layout all step same there place None at apart busy = kept layout (Makes all) apart busy
  making_at_ord layout all step same there place (Some c) at apart busy = on_ord layout (with_creation all place (step c)) apart (creations_set layout.live all.items place c (step c) at (same c) (there c) busy)

  making_ord : (layout : LayoutState) (all : Creations) (step : Creation → Creation) → ((c : Creation) → (step c).server ≡ c.server) → ((c : Creation) → IsMadeThere c → IsMadeThere (step c)) → (o : Option ℕ)
      → are_on_different_servers layout.live ≡ true → AreCreations layout.live all.items → Ord (making_by file layout all step o)
  making_ord layout all step same there None apart busy = kept layout (Makes all) apart busy
  making_ord layout all step same there (Some place) apart busy = making_at_ord layout all step same there place (slice_get all.items place) refl apart busy

  -- ---- a fence

  fenced_on_ord : (layout : LayoutState) (f : FenceState) → are_on_different_servers layout.live ≡ true → IsBusy layout.live (Fences f) → Ord (fenced_on file layout f)
  fenced_on_ord layout f apart busy =
      cond_both (is_done f) (goes_on (fence_done file layout)) (stays layout (Fences f)) Ord
      (λ is. record { apart = fenced_apart file layout apart layout.phase; busy = begun_busy (after_fence layout).live (after_fence layout).phase }) (λ off. kept layout (Fences f) apart busy)

  fence_ord : (layout : LayoutState) (f : FenceState) (s : FenceStep) → are_on_different_servers layout.live ≡ true → IsBusy layout.live (Fences f) → Ord (fence_stepped file layout f s)
  fence_ord layout f Stranger apart busy = kept layout (Fences f) apart busy
  fence_ord layout f Acked apart busy = fenced_on_ord layout f apart busy
  fence_ord layout f Again apart busy = kept layout (Fences f) apart busy
  fence_ord layout f (HasFailed id cause) apart busy =
      cond_both (is_last_live layout.live) (stays layout (Fences f)) (with_entries (mirror_left file layout id cause).entries (fenced_on file (mirror_left file layout id cause).file (without f id))) Ord
      (λ is. kept layout (Fences f) apart busy) (λ off. fenced_on_ord (mirror_left file layout id cause).file (without f id) (loss_apart file layout apart id) (without_part f id layout.live busy))

  -- ---- the COMMIT of a source

  leaves_ord : (layout : LayoutState) (live : List Mirror) (cause : LeftCause) (under_way : Activity) → are_on_different_servers layout.live ≡ true → IsBusy layout.live under_way → Ord (source_left file layout live cause under_way)
  leaves_ord layout [] cause under_way apart busy = kept layout under_way apart busy
  leaves_ord layout (m ∷ live) cause under_way apart busy =
      cond_both (is_last_live layout.live) (stays layout under_way)
      (record { file = record { layout = (mirror_left file layout m.id cause).file; activity = Settles Waits }; entries = (mirror_left file layout m.id cause).entries; uids = 0; names = 0 }) Ord
      (λ is. kept layout under_way apart busy) (λ off. kept (mirror_left file layout m.id cause).file (Settles Waits) (loss_apart file layout apart m.id) tt)

  commit_ord : (layout : LayoutState) (copies : CopyKind) → are_on_different_servers layout.live ≡ true → Ord (settled file layout copies fresh)
  commit_ord layout copies apart = by_targets (has_targets copies (Rattle.std.specs.Prelude.length layout.live) layout.wanted)
    where
      by_targets : (b : Bool) → Ord (cond {A = FileStep} b
          (copying (cond {A = PhaseStep} b (record { file = with_phase layout (Copying (a_uid fresh.uid) copies); entries = [] }) (freed file layout)).file fresh (plan_of copies layout fresh))
          (goes_idle (cond {A = PhaseStep} b (record { file = with_phase layout (Copying (a_uid fresh.uid) copies); entries = [] }) (freed file layout)) 0))
      by_targets true = record { apart = apart; busy = targets_new copies layout fresh apart }
      by_targets false = record { apart = apart; busy = tt }

  settling_ord : (layout : LayoutState) (copies : CopyKind) (reply : DsReplyValue) → are_on_different_servers layout.live ≡ true → Ord (settling_answered file layout copies fresh reply)
  settling_ord layout copies (Created fileid shown) apart = leaves_ord layout layout.live (Error odd_status) (Settles KeptBack) apart tt
  settling_ord layout copies (Set shown) apart = leaves_ord layout layout.live (Error odd_status) (Settles KeptBack) apart tt
  settling_ord layout copies (Written shown verifier) apart = leaves_ord layout layout.live (Error odd_status) (Settles KeptBack) apart tt
  settling_ord layout copies (Committed shown verifier) apart = commit_ord layout copies apart
  settling_ord layout copies (Bytes shown eof bytes) apart = leaves_ord layout layout.live (Error odd_status) (Settles KeptBack) apart tt
  settling_ord layout copies (NotSync shown) apart = leaves_ord layout layout.live (Error odd_status) (Settles KeptBack) apart tt
  settling_ord layout copies (Failed status shown) apart = leaves_ord layout layout.live (Error status) (Settles KeptBack) apart tt

  settling_late_ord : (layout : LayoutState) (s : CallStage) → are_on_different_servers layout.live ≡ true → Ord (settling_timed_out file layout s)
  settling_late_ord layout Waits apart = kept layout (Settles Waits) apart tt
  settling_late_ord layout (Out xid timeouts) apart =
      cond_both (nat_lt (timeouts + 1) MAX_TIMEOUTS) (stays layout (Settles (Out xid (timeouts + 1)))) (source_left file layout layout.live Timeouts (Settles (KeptOut xid))) Ord
      (λ is. kept layout (Settles (Out xid (timeouts + 1))) apart tt) (λ off. leaves_ord layout layout.live Timeouts (Settles (KeptOut xid)) apart tt)
  settling_late_ord layout (KeptOut xid) apart = kept layout (Settles (KeptOut xid)) apart tt
  settling_late_ord layout KeptBack apart = kept layout (Settles KeptBack) apart tt
  settling_late_ord layout Done apart = kept layout (Settles Done) apart tt
  settling_late_ord layout GivenUp apart = kept layout (Settles GivenUp) apart tt

  settles_ord : (f : MdsFile) (row : CopyKind → FileStep) (o : Option CopyKind) → ((copies : CopyKind) → Ord (row copies)) → IsOrdered f → Ord (settles_by f row o)
  settles_ord f row None all i = i
  settles_ord f row (Some copies) all i = all copies

  -- ---- a copy

  copied_by_ord : (layout : LayoutState) (copier : Cred) (targets : List SwappedIn) → are_on_different_servers (with_targets targets layout.live) ≡ true → are_on_different_servers layout.live ≡ true → Ord (copied_by file layout copier targets fresh)
  copied_by_ord layout copier [] behind apart = record { apart = apart; busy = tt }
  copied_by_ord layout copier (t ∷ targets) behind apart = fences (copied file layout copier (t ∷ targets) (a_uid fresh.uid)) fresh.uid behind

  copied_ord : (layout : LayoutState) (c : CopyState) → are_on_different_servers layout.live ≡ true → AreTargets layout.live c.targets → Ord (copied_on file layout c fresh)
  copied_ord layout c apart busy =
      cond_both (has_outcome c) (copied_by file layout (a_uid c.copier) (swaps_of c) fresh) (stays layout (Copies c)) Ord
      (λ is. copied_by_ord layout (a_uid c.copier) (swaps_of c) (swap_apart c.targets layout.live busy.on apart busy.plan) apart) (λ off. kept layout (Copies c) apart busy)

  target_ord : (layout : LayoutState) (c : CopyState) (server : ℕ) (cause : LeftCause) (o : Option MirrorId) → are_on_different_servers layout.live ≡ true → AreTargets layout.live c.targets → IsRoomFor (copy_step.TargetFailed server o cause) c.targets
      → Ord (target_left file layout c fresh cause o)
  target_ord layout c server cause None apart busy room = copied_ord layout c apart busy
  target_ord layout c server cause (Some id) apart busy room =
      let rest : Ord (copied_on file (mirror_left file layout id cause).file c fresh) = copied_ord (mirror_left file layout id cause).file c (loss_apart file layout apart id) (targets_less layout.live id c.targets room busy) in
      record { apart = rest.apart; busy = rest.busy }

  copy_ord : (layout : LayoutState) (c : CopyState) (s : CopyStep) → are_on_different_servers layout.live ≡ true → AreTargets layout.live c.targets → IsRoomFor s c.targets → Ord (copy_stepped file layout c fresh s)
  copy_ord layout c copy_step.Stranger apart busy room = kept layout (Copies c) apart busy
  copy_ord layout c copy_step.Waiting apart busy room = kept layout (Copies c) apart busy
  copy_ord layout c (copy_step.SourceFailed cause) apart busy room = leaves_ord layout layout.live cause (Copies c) apart busy
  copy_ord layout c (copy_step.TargetFailed server replaced cause) apart busy room = target_ord layout c server cause replaced apart busy room
  copy_ord layout c copy_step.Done apart busy room = copied_ord layout c apart busy

  -- ---- answers, timeouts and ticks

  answered_ord : (f : MdsFile) (xid : ℕ) (reply : DsReplyValue) (a : Activity) → IsBusy f.layout.live a → IsOrdered f → Ord (answered_in file f xid reply fresh a)
  answered_ord f xid reply Idle busy i = i
  answered_ord f xid reply (Makes all) busy i = making_ord f.layout all (λ c. creation_answered all c reply) (λ c. answered_server all c reply) (λ c its. answered_there all c reply its) (creation_of all xid) i.apart busy
  answered_ord f xid reply (Fences x) busy i =
      let layout : LayoutState = seen_by f.layout (mirror_at x (outstanding_at x xid)) (shown_by_set reply) in
      fence_ord layout (on_reply x xid reply).fence (on_reply x xid reply).step (seen_apart file f.layout i.apart (mirror_at x (outstanding_at x xid)) (shown_by_set reply))
      (reply_part x (ids_of layout.live) (seen_by_busy f.layout (Fences x) busy (mirror_at x (outstanding_at x xid)) (shown_by_set reply)) xid reply)
  answered_ord f xid reply (Settles stage) busy i =
      let layout : LayoutState = seen_at_source f.layout f.layout.live (shown_by_commit reply) in
      cond_both (is_out xid stage) (settles_by f (λ copies. settling_answered file layout copies fresh reply) (kind_of f.layout.phase)) (nothing f) Ord
      (λ is. settles_ord f (λ copies. settling_answered file layout copies fresh reply) (kind_of f.layout.phase) (λ copies. settling_ord layout copies reply (source_apart file f.layout i.apart f.layout.live (shown_by_commit reply))) i)
      (λ off. i)
  answered_ord f xid reply (Copies c) busy i =
      let after : IsCopyAfter f.layout.live (copy.on_reply c xid reply) = copy_reply f.layout.live c busy xid reply in
      copy_ord f.layout (copy.on_reply c xid reply).copy (copy.on_reply c xid reply).step i.apart after.targets after.room

  late_there : (all : Creations) (c : Creation) → IsMadeThere c → IsMadeThere (creation_timed_out all c)
  late_there all c its = its

  late_ord : (f : MdsFile) (xid : ℕ) (a : Activity) → IsBusy f.layout.live a → IsOrdered f → Ord (timed_out_in file f xid fresh a)
  late_ord f xid Idle busy i = i
  late_ord f xid (Makes all) busy i = making_ord f.layout all (creation_timed_out all) (λ c. refl) (λ c its. late_there all c its) (creation_of all xid) i.apart busy
  late_ord f xid (Fences x) busy i = fence_ord f.layout (on_timeout x xid).fence (on_timeout x xid).step i.apart (timeout_part x (ids_of f.layout.live) busy xid)
  late_ord f xid (Settles stage) busy i = cond_both (is_out xid stage) (settling_timed_out file f.layout stage) (nothing f) Ord (λ is. settling_late_ord f.layout stage i.apart) (λ off. i)
  late_ord f xid (Copies c) busy i =
      let after : IsCopyAfter f.layout.live (copy.on_timeout c xid) = copy_timeout f.layout.live c busy xid in
      copy_ord f.layout (copy.on_timeout c xid).copy (copy.on_timeout c xid).step i.apart after.targets after.room

  ticked_busy : (live : List Mirror) (a : Activity) → IsBusy live a → IsBusy live (ticked a)
  ticked_busy live Idle busy = tt
  ticked_busy live (Makes all) busy = ticked_creations live all.items busy
  ticked_busy live (Fences x) busy = ticked_part x (ids_of live) busy
  ticked_busy live (Settles stage) busy = tt
  ticked_busy live (Copies c) busy = busy

  pub phase_ordered : (f : MdsFile) (input : FileInput) → IsOrdered f → IsOrdered (phase file f input fresh).file
  phase_ordered f (AsksLayout client) i = asked_ord f (Client client) [] f.layout.phase i
  phase_ordered f (OwnWrite at bytes) i = asked_ord f Mds (entry.Sent file f.layout.cred at bytes ∷ []) f.layout.phase i
  phase_ordered f Recall i = held_ord f (by_client f (recalled_row f)) f.layout.phase (client_ord f (recalled_row f) (λ n. kept (recalled f.layout (Client n)) f.activity i.apart i.busy) i) i
  phase_ordered f (Returns client claimed places) i =
      held_ord f (by_client f (returned_row file f client claimed places fresh)) f.layout.phase (client_ord f (returned_row file f client claimed places fresh) (λ n. returned_ord f client claimed places n i) i) i
  phase_ordered f (Revokes cause) i = held_ord f (by_client f (λ client. revoked_row file f cause fresh)) f.layout.phase (client_ord f (λ client. revoked_row file f cause fresh) (λ n. revoked_ord f cause i) i) i
  phase_ordered f (OwnEnds causes at bytes) i =
      let told : Entry = entry.Told file f.layout.cred at bytes in
      held_ord f (by_mds f (own_row file f causes told fresh)) f.layout.phase (mds_ord f (own_row file f causes told fresh) (own_ord f causes told i) i) i
  phase_ordered f Resilver i = resilver_ord f f.layout.phase i
  phase_ordered f (Answers xid reply) i = answered_ord f xid reply f.activity i.busy i
  phase_ordered f (TimesOut xid) i = late_ord f xid f.activity i.busy i
  phase_ordered f Ticks i = kept f.layout (ticked f.activity) i.apart (ticked_busy f.layout.live f.activity i.busy)
  phase_ordered f (Sees id seen) i = record { apart = apart_seen id seen f.layout.live i.apart; busy = seen_busy id seen f.layout.live f.activity i.busy }

-- ---- the calls that go out

module _ (f : MdsFile) (i : IsOrdered f) where
  abbrev OutOrd : Option CallOut → Type 0
  OutOrd None = Unit {0}
  OutOrd (Some c) = IsOrdered c.file

  create_at_ord : (all : Creations) (xid place : ℕ) (o : Option Creation) → slice_get all.items place ≡ o → AreCreations f.layout.live all.items → OutOrd (create_out_at f all xid place o)
  create_at_ord all xid place None at busy = tt
  create_at_ord all xid place (Some c) at busy = record { apart = i.apart; busy = creations_set f.layout.live all.items place c (in_stage c (Out xid 0)) at refl (λ its. its) busy }

  create_ord : (all : Creations) (xid : ℕ) (o : Option ℕ) → AreCreations f.layout.live all.items → OutOrd (create_out f all xid o)
  create_ord all xid None busy = tt
  create_ord all xid (Some place) busy = create_at_ord all xid place (slice_get all.items place) refl busy

  fence_at_out : (x : FenceState) (xid place : ℕ) → FoundOff (λ (m : FenceMirror). waits m.stage) x.mirrors place → (o : Option FenceMirror) → slice_get x.mirrors place ≡ o → IsBusy f.layout.live (Fences x) → OutOrd (fence_out f (fence_call_at x xid place o))
  fence_at_out x xid place found None at busy = tt
  fence_at_out x xid place found (Some m) at busy =
      let waiting : waits m.stage ≡ true = ap (λ (y : FenceMirror). waits y.stage) (sym (same_Some found.x m (sym found.at ∙ at))) ∙ found.passes in
      record { apart = i.apart; busy = fence_set x.mirrors place m (with_stage m (Out xid 0)) (ids_of f.layout.live) at refl (waits_left m.stage waiting) busy }

  fence_out_ord : (x : FenceState) (xid : ℕ) (o : Option ℕ) → waiting_at x ≡ o → IsBusy f.layout.live (Fences x) → OutOrd (fence_out f (call_from x xid o))
  fence_out_ord x xid None is busy = tt
  fence_out_ord x xid (Some place) is busy = fence_at_out x xid place (found_off (λ (m : FenceMirror). waits m.stage) x.mirrors place is) (slice_get x.mirrors place) refl busy

  settle_ord : (xid : ℕ) (live : List Mirror) → OutOrd (settle_out f xid live)
  settle_ord xid [] = tt
  settle_ord xid (m ∷ live) = record { apart = i.apart; busy = tt }

  target_out : (c : CopyState) (xid place : ℕ) → FoundOff (λ (t : CopyTarget). waits t.stage) c.targets place → (o : Option CopyTarget) → slice_get c.targets place ≡ o → AreTargets f.layout.live c.targets → OutOrd (copy_out f (target_call_at c xid place o))
  target_out c xid place found None at busy = tt
  target_out c xid place found (Some t) at busy =
      let waiting : waits t.stage ≡ true = ap (λ (y : CopyTarget). waits y.stage) (sym (same_Some found.x t (sym found.at ∙ at))) ∙ found.passes in
      record { apart = i.apart; busy = targets_set f.layout.live c.targets place t (copy.at_stage t (Out xid 0)) at refl refl (λ its. its) (waits_left t.stage waiting) busy }

  copy_out_ord : (c : CopyState) (xid : ℕ) (o : Option ℕ) → copy.waiting_at c ≡ o → AreTargets f.layout.live c.targets → OutOrd (copy_out f (copy.call_from c xid o))
  copy_out_ord c xid None is busy = cond_both (waits c.read && may_read_on c) (Some _) None (λ (x : Option CopyCall). OutOrd (copy_out f x)) (λ due. record { apart = i.apart; busy = busy }) (λ off. tt)
  copy_out_ord c xid (Some place) is busy = target_out c xid place (found_off (λ (t : CopyTarget). waits t.stage) c.targets place is) (slice_get c.targets place) refl busy

  out_of_ord : (xid : ℕ) (a : Activity) → IsBusy f.layout.live a → OutOrd (call_out_of f xid a)
  out_of_ord xid Idle busy = tt
  out_of_ord xid (Makes all) busy = create_ord all xid (creation_waiting all) busy
  out_of_ord xid (Fences x) busy = fence_out_ord x xid (waiting_at x) refl busy
  out_of_ord xid (Settles stage) busy = cond_both (waits stage) (settle_out f xid f.layout.live) None OutOrd (λ is. settle_ord xid f.layout.live) (λ off. tt)
  out_of_ord xid (Copies c) busy = copy_out_ord c xid (copy.waiting_at c) refl busy

  pub out_ordered : (xid : ℕ) (c : CallOut) → call_out f xid ≡ Some c → IsOrdered c.file
  out_ordered xid c is = subst OutOrd is (out_of_ord xid f.activity i.busy)
