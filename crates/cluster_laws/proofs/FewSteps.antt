-- Each step of a file keeps its mirrors few, and draws few.
use Rattle.std.proofs.Common.{◌≡◌, ◌≤◌, ℕ, ◌+◌, Bool, true, false, List, [], ◌∷◌, length, Option, Some, None, refl, arith, length-set}
use Rattle.std.specs.Prelude.{◌==◌, ◌&&◌, not, nat_lt, slice_get, map, is_some, if◌then◌else◌}
use Rattle.std.specs.List.{list_all}
use Rattle.std.proofs.lemmas.Bool.{cond_both}
use Rattle.std.proofs.lemmas.List.{length-map}
use Rattle.cluster_model.specs.declared.limits.TheConstants.{MAX_TIMEOUTS}
use Rattle.cluster_model.specs.declared.tick.Tick.{Tick}
use Rattle.cluster_model.specs.declared.ids.NodeId.{NodeId}
use Rattle.cluster_model.specs.declared.ids.NodeId.TheVariants.{Mds, Server, Client}
use Rattle.cluster_model.specs.declared.ids.FileId.{FileId}
use Rattle.cluster_model.specs.declared.ids.Cred.{Cred}
use Rattle.cluster_model.specs.declared.ids.Mirror.{Mirror}
use Rattle.cluster_model.specs.declared.ids.MirrorId.{MirrorId}
use Rattle.cluster_model.specs.declared.phase.EndCause.{EndCause}
use Rattle.cluster_model.specs.declared.phase.LeftCause.{LeftCause}
use Rattle.cluster_model.specs.declared.phase.LeftCause.TheVariants.{Error, Timeouts}
use Rattle.cluster_model.specs.declared.ds_call.Shown.{Shown}
use Rattle.cluster_model.specs.declared.call_stage.CallStage.{CallStage}
use Rattle.cluster_model.specs.declared.call_stage.CallStage.TheVariants.{Waits, Out, KeptOut, KeptBack, Done, GivenUp}
use Rattle.cluster_model.specs.declared.entry.Entry.{Entry}
use Rattle.cluster_model.specs.declared.entry.Entry.TheVariants as entry
use Rattle.cluster_model.specs.declared.fence_mirror.FenceMirror.{FenceMirror}
use Rattle.cluster_model.specs.declared.fence_mirror.FenceStep.{FenceStep}
use Rattle.cluster_model.specs.declared.fence_mirror.FenceStep.TheVariants.{Stranger, Acked, Again, Failed as HasFailed}
use Rattle.cluster_model.specs.declared.layout_state.LayoutState.{LayoutState}
use Rattle.cluster_model.specs.declared.layout_state.LayoutPhase.{LayoutPhase}
use Rattle.cluster_model.specs.declared.layout_state.LayoutPhase.TheVariants.{Making, Free, Held, Fencing, Settling, Copying}
use Rattle.cluster_model.specs.declared.layout_state.CopyKind.{CopyKind}
use Rattle.cluster_model.specs.declared.targets.SwappedIn.{SwappedIn}
use Rattle.cluster_model.specs.Journal.{is_mirror}
use Rattle.cluster_model.specs.DsCalls.{DsReplyValue, Created, Set, Written, Committed, Bytes, NotSync, Failed}
use Rattle.cluster_model.specs.Fences.{waits, is_out, is_over, odd_status, FenceState, fence_of, outstanding_at, on_reply, on_timeout, without, is_done}
use Rattle.cluster_model.specs.Fences as fence
use Rattle.cluster_model.specs.Phases.{is_last_live, is_clean, unreported, seen_if, seen_at, PhaseStep, freed, made, granted, recalled, left_with, returned, revoked, own_done, copied, mirror_left, fenced_to, after_fence, fence_done, has_targets, settled_row, resilvered, with_phase, with_targets}
use Rattle.copy_rule.specs.declared.copy_target.CopyTarget.{CopyTarget}
use Rattle.copy_rule.specs.declared.copy_target.CopyStep.{CopyStep}
use Rattle.copy_rule.specs.declared.copy_target.CopyStep.TheVariants as copy_step
use Rattle.copy_rule.specs.Copies.{CopyState, CopyCall, CopyAfter, TargetStep, at_stage, create_answered, write_answered, with_target, with_read, with_piece, with_next, has_outcome, have_answered, may_read_on, swaps_of, copy_then, stranger, source_fails, read_answered, read_late, is_long, by_read, step_at, step_from, target_of, target_answered, target_late, target_fails, goes_on_with, waiting_at, target_call_at, call_from}
use Rattle.copy_rule.specs.Copies as copy
use Rattle.file_rule.specs.declared.creation.Creation.{Creation}
use Rattle.file_rule.specs.declared.fresh.Fresh.{Fresh}
use Rattle.file_rule.specs.MdsFiles.{Creations, Activity, Idle, Makes, Fences, Settles, Copies, MdsFile, FileStep, nothing, stays, a_uid, goes_idle, goes_fencing, begun_by, goes_on, with_entries, fenced_on, fence_stepped, shown_by_set, seen_by, mirror_at, in_stage, with_creation, creation_of, creation_answered, creation_timed_out, all_made, making_on, making_at, making_by, plan_of, copying, settled, source_left, shown_by_commit, seen_at_source, settling_answered, settling_timed_out, copied_by, copied_on, target_left, copy_stepped}
use Rattle.file_rule.specs.FilePhases.{FileInput, AsksLayout, OwnWrite, Recall, Returns, Revokes, OwnEnds, Resilver, Answers, TimesOut, Ticks, Sees, are_spent, asked_in, held_in, by_client, by_mds, recalled_row, returned_row, revoked_row, own_row, resilvered_in, kind_of, settles_by, answered_in, timed_out_in, ticked, phase, CallOut, creation_waiting, create_out_at, create_out, fence_out, settle_out, copy_out, call_out_of}
use Rattle.cluster_laws.proofs.FewMirrors.{adds, HasRoom, HasFew, FileHasFew, room_less, filter_less, unreported_less, made_less, swap_few, adds_set, adds_written, plan_few}

-- ---- a copy keeps what it adds

-- the mirror that a target replaces stays
create_keeps : (t : CopyTarget) (reply : DsReplyValue) → (create_answered t reply).target.replaced ≡ t.replaced
create_keeps t (Created fileid shown) = refl
create_keeps t (Set shown) = refl
create_keeps t (Written shown verifier) = refl
create_keeps t (Committed shown verifier) = refl
create_keeps t (Bytes shown eof bytes) = refl
create_keeps t (NotSync shown) = refl
create_keeps t (Failed status shown) = refl

write_keeps : (t : CopyTarget) (reply : DsReplyValue) → (write_answered t reply).target.replaced ≡ t.replaced
write_keeps t (Created fileid shown) = refl
write_keeps t (Set shown) = refl
write_keeps t (Written shown verifier) = refl
write_keeps t (Committed shown verifier) = refl
write_keeps t (Bytes shown eof bytes) = refl
write_keeps t (NotSync shown) = refl
write_keeps t (Failed status shown) = refl

answer_keeps : (t : CopyTarget) (reply : DsReplyValue) (o : Option Mirror) → (target_answered t reply o).target.replaced ≡ t.replaced
answer_keeps t reply None = create_keeps t reply
answer_keeps t reply (Some m) = write_keeps t reply

late_keeps : (t : CopyTarget) (s : CallStage) → (target_late t s).target.replaced ≡ t.replaced
late_keeps t Waits = refl
late_keeps t (Out xid timeouts) =
    cond_both (nat_lt (timeouts + 1) MAX_TIMEOUTS) (goes_on_with (at_stage t (Out xid (timeouts + 1)))) (target_fails t Timeouts) (λ (x : TargetStep). x.target.replaced ≡ t.replaced) (λ is. refl) (λ off. refl)
late_keeps t (KeptOut xid) = refl
late_keeps t KeptBack = refl
late_keeps t Done = refl
late_keeps t GivenUp = refl

module _ (c : CopyState) where
  abbrev Same : CopyAfter → Type 0
  Same a = adds a.copy.targets ≡ adds c.targets

  then_same : (x : CopyState) (s : CopyStep) → adds x.targets ≡ adds c.targets → Same (copy_then x s)
  then_same x s is = cond_both (is_over x.read && not x.ended && have_answered x) (with_next x) x (λ (y : CopyState). adds y.targets ≡ adds c.targets) (λ on. is) (λ off. is)

  read_same : (reply : DsReplyValue) → Same (read_answered c reply)
  read_same (Created fileid shown) = refl
  read_same (Set shown) = refl
  read_same (Written shown verifier) = refl
  read_same (Committed shown verifier) = refl
  read_same (Bytes shown eof bytes) =
      cond_both (is_long c bytes) (source_fails c KeptBack (Error odd_status)) (copy_then (with_piece c eof bytes) copy_step.Waiting) Same (λ is. refl)
      (λ off. then_same (with_piece c eof bytes) copy_step.Waiting (adds_written bytes c.targets))
  read_same (NotSync shown) = refl
  read_same (Failed status shown) = refl

  late_same : (s : CallStage) → Same (read_late c s)
  late_same Waits = refl
  late_same (Out xid timeouts) =
      cond_both (nat_lt (timeouts + 1) MAX_TIMEOUTS) (record { copy = with_read c (Out xid (timeouts + 1)); step = copy_step.Waiting }) (source_fails c (KeptOut xid) Timeouts) Same (λ is. refl) (λ off. refl)
  late_same (KeptOut xid) = refl
  late_same KeptBack = refl
  late_same Done = refl
  late_same GivenUp = refl

  at_same : (step : CopyTarget → TargetStep) → ((t : CopyTarget) → (step t).target.replaced ≡ t.replaced) → (place : ℕ) (o : Option CopyTarget) → slice_get c.targets place ≡ o → Same (step_at c step place o)
  at_same step keeps place None there = refl
  at_same step keeps place (Some t) there = then_same (with_target c place (step t).target) (step t).step (adds_set c.targets place t (step t).target there (keeps t))

  from_same : (step : CopyTarget → TargetStep) → ((t : CopyTarget) → (step t).target.replaced ≡ t.replaced) → (reads : CopyAfter) (o : Option ℕ) → Same reads → Same (step_from c step reads o)
  from_same step keeps reads None is = is
  from_same step keeps reads (Some place) is = at_same step keeps place (slice_get c.targets place) refl

  by_same : (xid : ℕ) (reads : CopyAfter) → Same reads → Same (by_read c xid reads)
  by_same xid reads is = cond_both (is_out xid c.read) reads (stranger c) Same (λ out. is) (λ off. refl)

  reply_same : (xid : ℕ) (reply : DsReplyValue) → Same (copy.on_reply c xid reply)
  reply_same xid reply =
      from_same (λ t. target_answered t reply t.made) (λ t. answer_keeps t reply t.made) (by_read c xid (read_answered c reply)) (target_of c xid) (by_same xid (read_answered c reply) (read_same reply))

  timeout_same : (xid : ℕ) → Same (copy.on_timeout c xid)
  timeout_same xid = from_same (λ t. target_late t t.stage) (λ t. late_keeps t t.stage) (by_read c xid (read_late c c.read)) (target_of c xid) (by_same xid (read_late c c.read) (late_same c.read))

  -- its calls
  abbrev CallSame : Option CopyCall → Type 0
  CallSame None = Unit {0}
  CallSame (Some call) = adds call.copy.targets ≡ adds c.targets

  at_call_same : (xid place : ℕ) (o : Option CopyTarget) → slice_get c.targets place ≡ o → CallSame (target_call_at c xid place o)
  at_call_same xid place None there = tt
  at_call_same xid place (Some t) there = adds_set c.targets place t (at_stage t (Out xid 0)) there refl

  from_call_same : (xid : ℕ) (o : Option ℕ) → CallSame (call_from c xid o)
  from_call_same xid None = cond_both (waits c.read && may_read_on c) (Some _) None CallSame (λ is. refl) (λ off. tt)
  from_call_same xid (Some place) = at_call_same xid place (slice_get c.targets place) refl

-- ---- rows

-- a file has few mirrors, and so much was drawn
pub record StepIsFew (f : MdsFile) (uids names : ℕ) : Type 0 where
  pub file : FileHasFew f
  pub few_uids : uids ≤ 1
  pub few_names : names ≤ 4

abbrev pub Few : FileStep → Type 0
Few s = StepIsFew s.file s.uids s.names

still : (f : MdsFile) → FileHasFew f → Few (nothing f)
still f i = record { file = i; few_uids = omega arith; few_names = omega arith }

kept : (s : LayoutState) (a : Activity) → HasFew s → HasRoom (length s.live) a → Few (stays s a)
kept s a i room = still (record { layout = s; activity = a }) (record { mirrors = i; room = room })

idles : (row : PhaseStep) → HasFew row.file → Few (goes_idle row 0)
idles row i = record { file = record { mirrors = i; room = tt }; few_uids = omega arith; few_names = omega arith }

fences : (row : PhaseStep) (next : ℕ) → HasFew row.file → Few (goes_fencing row next)
fences row next i = record { file = record { mirrors = i; room = tt }; few_uids = omega arith; few_names = omega arith }

fewer : (s : LayoutState) (live : List Mirror) → length live ≤ length s.live → HasFew s → HasFew (record { wanted = s.wanted; cred = s.cred; live = live; phase = s.phase })
fewer s live less i = let few = i.few_live in record { few_wanted = i.few_wanted; few_live = omega (arith, less, few) }

seen_size : (id : MirrorId) (tick : Tick) (live : List Mirror) → length (seen_at id tick live) ≤ length live
seen_size id tick live = let same = length-map live (seen_if id tick) in omega (arith, same)

begun_room : (live : ℕ) (p : LayoutPhase) → HasRoom live (begun_by p)
begun_room live Making = tt
begun_room live Free = tt
begun_room live (Held holder recalled) = tt
begun_room live (Fencing next end) = tt
begun_room live (Settling copies) = tt
begun_room live (Copying copier copies) = tt

module _ (file : FileId) (s : LayoutState) (i : HasFew s) where
  loss_few : (id : MirrorId) (cause : LeftCause) → HasFew (mirror_left file s id cause).file
  loss_few id cause = fewer s _ (filter_less (λ (m : Mirror). not (is_mirror m.id id)) s.live) i

  fenced_few : (p : LayoutPhase) → HasFew (fenced_to s p)
  fenced_few Making = i
  fenced_few Free = i
  fenced_few (Held holder recalled) = i
  fenced_few (Fencing next end) = i
  fenced_few (Settling copies) = i
  fenced_few (Copying copier copies) = i

  return_few : (next : Cred) (live : List Mirror) → length live ≤ length s.live → HasFew (left_with s next live)
  return_few next [] less = i
  return_few next (m ∷ live) less = fewer s (m ∷ live) less i

  settled_few : (copies : CopyKind) (copier : Cred) → HasFew (settled_row file s copies copier).file
  settled_few copies copier =
      cond_both (has_targets copies (length s.live) s.wanted) (record { file = with_phase s (Copying copier copies); entries = [] }) (freed file s) (λ (x : PhaseStep). HasFew x.file) (λ is. i) (λ off. i)

  settled_live : (copies : CopyKind) (copier : Cred) → length (settled_row file s copies copier).file.live ≡ length s.live
  settled_live copies copier =
      cond_both (has_targets copies (length s.live) s.wanted) (record { file = with_phase s (Copying copier copies); entries = [] }) (freed file s) (λ (x : PhaseStep). length x.file.live ≡ length s.live) (λ is. refl) (λ off. refl)

  seen_few : (o : Option FenceMirror) (shown : Option Shown) → HasFew (seen_by s o shown)
  seen_few None shown = i
  seen_few (Some m) None = i
  seen_few (Some m) (Some shown) = fewer s _ (seen_size m.id shown.seen s.live) i

  source_few : (live : List Mirror) (shown : Option Shown) → HasFew (seen_at_source s live shown)
  source_few [] shown = i
  source_few (m ∷ live) None = i
  source_few (m ∷ live) (Some shown) = fewer s _ (seen_size m.id shown.seen s.live) i

-- ---- the table

module _ (file : FileId) (fresh : Fresh) where
  asked_few : (f : MdsFile) (holder : NodeId) (entries : List Entry) (p : LayoutPhase) → FileHasFew f → Few (asked_in file f holder entries fresh p)
  asked_few f holder entries Making i = still f i
  asked_few f holder entries Free i =
      cond_both (are_spent fresh) (nothing f)
      (with_entries (granted file f.layout holder).entries (record { file = record { layout = (granted file f.layout holder).file; activity = f.activity }; entries = entries; uids = 0; names = 0 })) Few (λ is. still f i)
      (λ off. kept (granted file f.layout holder).file f.activity i.mirrors i.room)
  asked_few f holder entries (Held other recalled) i = still f i
  asked_few f holder entries (Fencing next end) i = still f i
  asked_few f holder entries (Settling copies) i = still f i
  asked_few f holder entries (Copying copier copies) i = still f i

  held_few : (f : MdsFile) (row : NodeId → FileStep) (p : LayoutPhase) → ((holder : NodeId) → Few (row holder)) → FileHasFew f → Few (held_in f row p)
  held_few f row Making all i = still f i
  held_few f row Free all i = still f i
  held_few f row (Held holder recalled) all i = all holder
  held_few f row (Fencing next end) all i = still f i
  held_few f row (Settling copies) all i = still f i
  held_few f row (Copying copier copies) all i = still f i

  client_few : (f : MdsFile) (row : ℕ → FileStep) → ((n : ℕ) → Few (row n)) → FileHasFew f → (holder : NodeId) → Few (by_client f row holder)
  client_few f row all i Mds = still f i
  client_few f row all i (Server n) = still f i
  client_few f row all i (Client n) = all n

  mds_few : (f : MdsFile) (row : FileStep) → Few row → FileHasFew f → (holder : NodeId) → Few (by_mds f row holder)
  mds_few f row its i Mds = its
  mds_few f row its i (Server n) = still f i
  mds_few f row its i (Client n) = still f i

  returned_few : (f : MdsFile) (client : ℕ) (claimed : Cred) (places : List Bool) (holder : ℕ) → FileHasFew f → Few (returned_row file f client claimed places fresh holder)
  returned_few f client claimed places holder i =
      cond_both (holder == client && (f.layout.cred.0 == claimed.0)) (goes_fencing (returned file f.layout places (a_uid fresh.uid)) fresh.uid) (nothing f) Few
      (λ is. fences (returned file f.layout places (a_uid fresh.uid)) fresh.uid (return_few file f.layout i.mirrors (a_uid fresh.uid) (unreported places f.layout.live) (unreported_less places f.layout.live)))
      (λ off. still f i)

  revoked_few : (f : MdsFile) (cause : EndCause) → FileHasFew f → Few (revoked_row file f cause fresh)
  revoked_few f cause i =
      cond_both (is_clean cause) (nothing f) (goes_fencing (revoked file f.layout cause (a_uid fresh.uid)) fresh.uid) Few (λ is. still f i)
      (λ off. fences (revoked file f.layout cause (a_uid fresh.uid)) fresh.uid i.mirrors)

  own_few : (f : MdsFile) (causes : List (Option LeftCause)) (told : Entry) → FileHasFew f → Few (own_row file f causes told fresh)
  own_few f causes told i =
      fences (own_done file f.layout causes told (a_uid fresh.uid)) fresh.uid (return_few file f.layout i.mirrors (a_uid fresh.uid) (unreported (map is_some causes) f.layout.live) (unreported_less (map is_some causes) f.layout.live))

  resilver_few : (f : MdsFile) (p : LayoutPhase) → FileHasFew f → Few (resilvered_in f fresh p)
  resilver_few f Making i = still f i
  resilver_few f Free i =
      cond_both (nat_lt (length f.layout.live) f.layout.wanted && (if are_spent fresh then false else true)) (stays (resilvered f.layout) (Settles Waits)) (nothing f) Few
      (λ is. kept (resilvered f.layout) (Settles Waits) i.mirrors tt) (λ off. still f i)
  resilver_few f (Held holder recalled) i = still f i
  resilver_few f (Fencing next end) i = still f i
  resilver_few f (Settling copies) i = still f i
  resilver_few f (Copying copier copies) i = still f i

  -- ---- CREATEs

  on_few : (layout : LayoutState) (all : Creations) → length all.items ≤ 4 → HasFew layout → Few (making_on file layout all)
  on_few layout all room i =
      cond_both (list_all (λ (c : Creation). is_over c.stage) all.items) (goes_idle (made file layout (all_made all)) 0) (stays layout (Makes all)) Few
      (λ is. idles (made file layout (all_made all)) (let less = made_less all.items in record { few_wanted = i.few_wanted; few_live = omega (arith, room, less) })) (λ off. kept layout (Makes all) i room)

  making_at_few : (layout : LayoutState) (all : Creations) (step : Creation → Creation) (place : ℕ) (o : Option Creation) → length all.items ≤ 4 → HasFew layout → Few (making_at file layout all step place o)
  making_at_few layout all step place None room i = kept layout (Makes all) i room
  making_at_few layout all step place (Some c) room i = on_few layout (with_creation all place (step c)) (let same = length-set all.items place (step c) in omega (arith, room, same)) i

  making_few : (layout : LayoutState) (all : Creations) (step : Creation → Creation) (o : Option ℕ) → length all.items ≤ 4 → HasFew layout → Few (making_by file layout all step o)
  making_few layout all step None room i = kept layout (Makes all) i room
  making_few layout all step (Some place) room i = making_at_few layout all step place (slice_get all.items place) room i

  -- ---- a fence

  fenced_on_few : (layout : LayoutState) (f : FenceState) → HasFew layout → Few (fenced_on file layout f)
  fenced_on_few layout f i =
      cond_both (is_done f) (goes_on (fence_done file layout)) (stays layout (Fences f)) Few
      (λ is. kept (after_fence layout) (begun_by (after_fence layout).phase) (fenced_few file layout i layout.phase) (begun_room (length (after_fence layout).live) (after_fence layout).phase)) (λ off. kept layout (Fences f) i tt)

  fence_few : (layout : LayoutState) (f : FenceState) (s : FenceStep) → HasFew layout → Few (fence_stepped file layout f s)
  fence_few layout f Stranger i = kept layout (Fences f) i tt
  fence_few layout f Acked i = fenced_on_few layout f i
  fence_few layout f Again i = kept layout (Fences f) i tt
  fence_few layout f (HasFailed id cause) i =
      cond_both (is_last_live layout.live) (stays layout (Fences f)) (with_entries (mirror_left file layout id cause).entries (fenced_on file (mirror_left file layout id cause).file (without f id))) Few
      (λ is. kept layout (Fences f) i tt) (λ off. fenced_on_few (mirror_left file layout id cause).file (without f id) (loss_few file layout i id cause))

  -- ---- the COMMIT of a source

  leaves_few : (layout : LayoutState) (live : List Mirror) (cause : LeftCause) (under_way : Activity) → HasRoom (length layout.live) under_way → HasFew layout → Few (source_left file layout live cause under_way)
  leaves_few layout [] cause under_way room i = kept layout under_way i room
  leaves_few layout (m ∷ live) cause under_way room i =
      cond_both (is_last_live layout.live) (stays layout under_way)
      (record { file = record { layout = (mirror_left file layout m.id cause).file; activity = Settles Waits }; entries = (mirror_left file layout m.id cause).entries; uids = 0; names = 0 }) Few
      (λ is. kept layout under_way i room) (λ off. kept (mirror_left file layout m.id cause).file (Settles Waits) (loss_few file layout i m.id cause) tt)

  commit_few : (layout : LayoutState) (copies : CopyKind) → HasFew layout → Few (settled file layout copies fresh)
  commit_few layout copies i =
      let row : PhaseStep = settled_row file layout copies (a_uid fresh.uid) in
      cond_both (has_targets copies (length layout.live) layout.wanted) (copying row.file fresh (plan_of copies layout fresh)) (goes_idle row 0) Few
      (λ is.
      let plan = plan_few copies layout fresh is i in
      let room = plan.room in
      let same = settled_live file layout i copies (a_uid fresh.uid) in
      record { file = record { mirrors = settled_few file layout i copies (a_uid fresh.uid); room = omega (arith, room, same) }; few_uids = omega arith; few_names = plan.size })
      (λ off. idles row (settled_few file layout i copies (a_uid fresh.uid)))

  settling_few : (layout : LayoutState) (copies : CopyKind) (reply : DsReplyValue) → HasFew layout → Few (settling_answered file layout copies fresh reply)
  settling_few layout copies (Created fileid shown) i = leaves_few layout layout.live (Error odd_status) (Settles KeptBack) tt i
  settling_few layout copies (Set shown) i = leaves_few layout layout.live (Error odd_status) (Settles KeptBack) tt i
  settling_few layout copies (Written shown verifier) i = leaves_few layout layout.live (Error odd_status) (Settles KeptBack) tt i
  settling_few layout copies (Committed shown verifier) i = commit_few layout copies i
  settling_few layout copies (Bytes shown eof bytes) i = leaves_few layout layout.live (Error odd_status) (Settles KeptBack) tt i
  settling_few layout copies (NotSync shown) i = leaves_few layout layout.live (Error odd_status) (Settles KeptBack) tt i
  settling_few layout copies (Failed status shown) i = leaves_few layout layout.live (Error status) (Settles KeptBack) tt i

  settling_late_few : (layout : LayoutState) (s : CallStage) → HasFew layout → Few (settling_timed_out file layout s)
  settling_late_few layout Waits i = kept layout (Settles Waits) i tt
  settling_late_few layout (Out xid timeouts) i =
      cond_both (nat_lt (timeouts + 1) MAX_TIMEOUTS) (stays layout (Settles (Out xid (timeouts + 1)))) (source_left file layout layout.live Timeouts (Settles (KeptOut xid))) Few
      (λ is. kept layout (Settles (Out xid (timeouts + 1))) i tt) (λ off. leaves_few layout layout.live Timeouts (Settles (KeptOut xid)) tt i)
  settling_late_few layout (KeptOut xid) i = kept layout (Settles (KeptOut xid)) i tt
  settling_late_few layout KeptBack i = kept layout (Settles KeptBack) i tt
  settling_late_few layout Done i = kept layout (Settles Done) i tt
  settling_late_few layout GivenUp i = kept layout (Settles GivenUp) i tt

  settles_few : (f : MdsFile) (row : CopyKind → FileStep) (o : Option CopyKind) → ((copies : CopyKind) → Few (row copies)) → FileHasFew f → Few (settles_by f row o)
  settles_few f row None all i = still f i
  settles_few f row (Some copies) all i = all copies

  -- ---- a copy

  copied_by_few : (layout : LayoutState) (copier : Cred) (targets : List SwappedIn) → length (with_targets targets layout.live) ≤ 4 → HasFew layout → Few (copied_by file layout copier targets fresh)
  copied_by_few layout copier [] room i = idles (freed file layout) i
  copied_by_few layout copier (t ∷ targets) room i = fences (copied file layout copier (t ∷ targets) (a_uid fresh.uid)) fresh.uid (record { few_wanted = i.few_wanted; few_live = room })

  copied_few : (layout : LayoutState) (c : CopyState) → length layout.live + adds c.targets ≤ 4 → HasFew layout → Few (copied_on file layout c fresh)
  copied_few layout c room i =
      cond_both (has_outcome c) (copied_by file layout (a_uid c.copier) (swaps_of c) fresh) (stays layout (Copies c)) Few
      (λ is. copied_by_few layout (a_uid c.copier) (swaps_of c) (let most = swap_few c.targets layout.live in omega (arith, room, most)) i) (λ off. kept layout (Copies c) i room)

  target_few : (layout : LayoutState) (c : CopyState) (cause : LeftCause) (o : Option MirrorId) → length layout.live + adds c.targets ≤ 4 → HasFew layout → Few (target_left file layout c fresh cause o)
  target_few layout c cause None room i = copied_few layout c room i
  target_few layout c cause (Some id) room i =
      let less = filter_less (λ (m : Mirror). not (is_mirror m.id id)) layout.live in
      copied_few (mirror_left file layout id cause).file c (omega (arith, room, less)) (loss_few file layout i id cause)

  copy_few : (layout : LayoutState) (c : CopyState) (s : CopyStep) → length layout.live + adds c.targets ≤ 4 → HasFew layout → Few (copy_stepped file layout c fresh s)
  copy_few layout c copy_step.Stranger room i = kept layout (Copies c) i room
  copy_few layout c copy_step.Waiting room i = kept layout (Copies c) i room
  copy_few layout c (copy_step.SourceFailed cause) room i = leaves_few layout layout.live cause (Copies c) room i
  copy_few layout c (copy_step.TargetFailed server replaced cause) room i = target_few layout c cause replaced room i
  copy_few layout c copy_step.Done room i = copied_few layout c room i

  -- ---- answers, timeouts and ticks

  answered_few : (f : MdsFile) (xid : ℕ) (reply : DsReplyValue) (a : Activity) → HasRoom (length f.layout.live) a → FileHasFew f → Few (answered_in file f xid reply fresh a)
  answered_few f xid reply Idle room i = still f i
  answered_few f xid reply (Makes all) room i = making_few f.layout all (λ c. creation_answered all c reply) (creation_of all xid) room i.mirrors
  answered_few f xid reply (Fences x) room i =
      fence_few (seen_by f.layout (mirror_at x (outstanding_at x xid)) (shown_by_set reply)) (on_reply x xid reply).fence (on_reply x xid reply).step
      (seen_few file f.layout i.mirrors (mirror_at x (outstanding_at x xid)) (shown_by_set reply))
  answered_few f xid reply (Settles stage) room i =
      let layout : LayoutState = seen_at_source f.layout f.layout.live (shown_by_commit reply) in
      cond_both (is_out xid stage) (settles_by f (λ copies. settling_answered file layout copies fresh reply) (kind_of f.layout.phase)) (nothing f) Few
      (λ is.
      settles_few f (λ copies. settling_answered file layout copies fresh reply) (kind_of f.layout.phase)
      (λ copies. settling_few layout copies reply (source_few file f.layout i.mirrors f.layout.live (shown_by_commit reply))) i)
      (λ off. still f i)
  answered_few f xid reply (Copies c) room i =
      let same = reply_same c xid reply in
      copy_few f.layout (copy.on_reply c xid reply).copy (copy.on_reply c xid reply).step (omega (arith, room, same)) i.mirrors

  late_few : (f : MdsFile) (xid : ℕ) (a : Activity) → HasRoom (length f.layout.live) a → FileHasFew f → Few (timed_out_in file f xid fresh a)
  late_few f xid Idle room i = still f i
  late_few f xid (Makes all) room i = making_few f.layout all (creation_timed_out all) (creation_of all xid) room i.mirrors
  late_few f xid (Fences x) room i = fence_few f.layout (on_timeout x xid).fence (on_timeout x xid).step i.mirrors
  late_few f xid (Settles stage) room i = cond_both (is_out xid stage) (settling_timed_out file f.layout stage) (nothing f) Few (λ is. settling_late_few f.layout stage i.mirrors) (λ off. still f i)
  late_few f xid (Copies c) room i =
      let same = timeout_same c xid in
      copy_few f.layout (copy.on_timeout c xid).copy (copy.on_timeout c xid).step (omega (arith, room, same)) i.mirrors

  ticked_room : (live : ℕ) (a : Activity) → HasRoom live a → HasRoom live (ticked a)
  ticked_room live Idle room = tt
  ticked_room live (Makes all) room = let same = length-map all.items (λ (c : Creation). in_stage c (fence.stage_at_tick c.stage)) in omega (arith, room, same)
  ticked_room live (Fences x) room = tt
  ticked_room live (Settles stage) room = tt
  ticked_room live (Copies c) room = room

  pub phase_few : (f : MdsFile) (input : FileInput) → FileHasFew f → Few (phase file f input fresh)
  phase_few f (AsksLayout client) i = asked_few f (Client client) [] f.layout.phase i
  phase_few f (OwnWrite at bytes) i = asked_few f Mds (entry.Sent file f.layout.cred at bytes ∷ []) f.layout.phase i
  phase_few f Recall i = held_few f (by_client f (recalled_row f)) f.layout.phase (client_few f (recalled_row f) (λ n. kept (recalled f.layout (Client n)) f.activity i.mirrors i.room) i) i
  phase_few f (Returns client claimed places) i =
      held_few f (by_client f (returned_row file f client claimed places fresh)) f.layout.phase (client_few f (returned_row file f client claimed places fresh) (λ n. returned_few f client claimed places n i) i) i
  phase_few f (Revokes cause) i = held_few f (by_client f (λ client. revoked_row file f cause fresh)) f.layout.phase (client_few f (λ client. revoked_row file f cause fresh) (λ n. revoked_few f cause i) i) i
  phase_few f (OwnEnds causes at bytes) i =
      let told : Entry = entry.Told file f.layout.cred at bytes in
      held_few f (by_mds f (own_row file f causes told fresh)) f.layout.phase (mds_few f (own_row file f causes told fresh) (own_few f causes told i) i) i
  phase_few f Resilver i = resilver_few f f.layout.phase i
  phase_few f (Answers xid reply) i = answered_few f xid reply f.activity i.room i
  phase_few f (TimesOut xid) i = late_few f xid f.activity i.room i
  phase_few f Ticks i = kept f.layout (ticked f.activity) i.mirrors (ticked_room (length f.layout.live) f.activity i.room)
  phase_few f (Sees id seen) i =
      let less = seen_size id seen f.layout.live in
      kept _ f.activity (fewer f.layout (seen_at id seen f.layout.live) less i.mirrors) (room_less f.activity (length (seen_at id seen f.layout.live)) (length f.layout.live) less i.room)

-- ---- the calls that go out

module _ (f : MdsFile) (i : FileHasFew f) where
  abbrev pub OutFew : Option CallOut → Type 0
  OutFew None = Unit {0}
  OutFew (Some c) = FileHasFew c.file

  create_at_few : (all : Creations) (xid place : ℕ) (o : Option Creation) → length all.items ≤ 4 → OutFew (create_out_at f all xid place o)
  create_at_few all xid place None room = tt
  create_at_few all xid place (Some c) room = record { mirrors = i.mirrors; room = let same = length-set all.items place (in_stage c (Out xid 0)) in omega (arith, room, same) }

  create_few : (all : Creations) (xid : ℕ) (o : Option ℕ) → length all.items ≤ 4 → OutFew (create_out f all xid o)
  create_few all xid None room = tt
  create_few all xid (Some place) room = create_at_few all xid place (slice_get all.items place) room

  fence_out_few : (o : Option fence.FenceCall) → OutFew (fence_out f o)
  fence_out_few None = tt
  fence_out_few (Some c) = record { mirrors = i.mirrors; room = tt }

  settle_few : (xid : ℕ) (live : List Mirror) → OutFew (settle_out f xid live)
  settle_few xid [] = tt
  settle_few xid (m ∷ live) = record { mirrors = i.mirrors; room = tt }

  copy_out_few : (c : CopyState) → length f.layout.live + adds c.targets ≤ 4 → (o : Option CopyCall) → CallSame c o → OutFew (copy_out f o)
  copy_out_few c room None same = tt
  copy_out_few c room (Some x) same = record { mirrors = i.mirrors; room = omega (arith, room, same) }

  pub out_few : (xid : ℕ) (a : Activity) → HasRoom (length f.layout.live) a → OutFew (call_out_of f xid a)
  out_few xid Idle room = tt
  out_few xid (Makes all) room = create_few all xid (creation_waiting all) room
  out_few xid (Fences x) room = fence_out_few (fence.next_call x xid)
  out_few xid (Settles stage) room = cond_both (waits stage) (settle_out f xid f.layout.live) None OutFew (λ is. settle_few xid f.layout.live) (λ off. tt)
  out_few xid (Copies c) room = copy_out_few c room (copy.next_call c xid) (from_call_same c xid (waiting_at c))
