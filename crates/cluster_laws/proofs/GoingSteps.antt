-- Behind each step of a file the copy that it has under way has no outcome.
use Rattle.std.proofs.Common.{◌≡◌, ◌≤◌, ℕ, zero, suc, ◌+◌, Bool, true, false, cond, List, [], ◌∷◌, length, Option, Some, None, refl, ap, ◌∙◌}
use Rattle.std.specs.Prelude.{◌==◌, ◌&&◌, ◌||◌, not, nat_lt, slice_get, slice_set, map, is_some, if◌then◌else◌}
use Rattle.std.specs.List.{list_all}
use Rattle.std.proofs.lemmas.Bool.{cond_both}
use Rattle.cluster_model.specs.declared.limits.TheConstants.{MAX_TIMEOUTS}
use Rattle.cluster_model.specs.declared.ids.NodeId.{NodeId}
use Rattle.cluster_model.specs.declared.ids.NodeId.TheVariants.{Mds, Server, Client}
use Rattle.cluster_model.specs.declared.ids.FileId.{FileId}
use Rattle.cluster_model.specs.declared.ids.Cred.{Cred}
use Rattle.cluster_model.specs.declared.ids.Mirror.{Mirror}
use Rattle.cluster_model.specs.declared.ids.MirrorId.{MirrorId}
use Rattle.cluster_model.specs.declared.phase.EndCause.{EndCause}
use Rattle.cluster_model.specs.declared.phase.LeftCause.{LeftCause}
use Rattle.cluster_model.specs.declared.phase.LeftCause.TheVariants.{Error, Timeouts}
use Rattle.cluster_model.specs.declared.ds_call.Shown.{Shown}
use Rattle.cluster_model.specs.declared.call_stage.CallStage.{CallStage}
use Rattle.cluster_model.specs.declared.call_stage.CallStage.TheVariants.{Waits, Out, KeptOut, KeptBack, Done, GivenUp}
use Rattle.cluster_model.specs.declared.entry.Entry.{Entry}
use Rattle.cluster_model.specs.declared.entry.Entry.TheVariants as entry
use Rattle.cluster_model.specs.declared.fence_mirror.FenceMirror.{FenceMirror}
use Rattle.cluster_model.specs.declared.fence_mirror.FenceStep.{FenceStep}
use Rattle.cluster_model.specs.declared.fence_mirror.FenceStep.TheVariants.{Stranger, Acked, Again, Failed as HasFailed}
use Rattle.cluster_model.specs.declared.layout_state.LayoutState.{LayoutState}
use Rattle.cluster_model.specs.declared.layout_state.LayoutPhase.{LayoutPhase}
use Rattle.cluster_model.specs.declared.layout_state.LayoutPhase.TheVariants.{Making, Free, Held, Fencing, Settling, Copying}
use Rattle.cluster_model.specs.declared.layout_state.CopyKind.{CopyKind}
use Rattle.cluster_model.specs.declared.targets.SwappedIn.{SwappedIn}
use Rattle.cluster_model.specs.DsCalls.{DsReplyValue, Created, Set, Written, Committed, Bytes, NotSync, Failed}
use Rattle.cluster_model.specs.Fences.{waits, is_out, is_over, odd_status, FenceState, outstanding_at, on_reply, on_timeout, without, is_done}
use Rattle.cluster_model.specs.Fences as fence
use Rattle.cluster_model.specs.Phases.{is_last_live, is_clean, unreported, PhaseStep, freed, made, granted, recalled, left_with, returned, revoked, own_done, copied, mirror_left, fenced_to, after_fence, fence_done, has_targets, settled_row, resilvered, with_phase}
use Rattle.copy_rule.specs.declared.copy_target.CopyTarget.{CopyTarget}
use Rattle.copy_rule.specs.declared.copy_target.CopyStep.{CopyStep}
use Rattle.copy_rule.specs.declared.copy_target.CopyStep.TheVariants as copy_step
use Rattle.copy_rule.specs.Copies.{CopyState, CopyCall, CopyAfter, TargetStep, is_given_up, at_stage, create_answered, write_answered, with_target, with_read, with_piece, with_next, is_none_left, has_outcome, have_answered, may_read_on, goes_on as copy_goes_on, step_told, swaps_of, copy_then, stranger, source_fails, read_answered, read_late, is_long, by_read, step_at, step_from, target_of, target_answered, target_late, target_fails, goes_on_with, waiting_at, target_call_at, call_from}
use Rattle.copy_rule.specs.Copies as copy
use Rattle.file_rule.specs.declared.creation.Creation.{Creation}
use Rattle.file_rule.specs.declared.fresh.Fresh.{Fresh}
use Rattle.file_rule.specs.MdsFiles.{Creations, Activity, Idle, Makes, Fences, Settles, Copies, MdsFile, FileStep, nothing, stays, a_uid, goes_idle, goes_fencing, begun_by, goes_on, with_entries, fenced_on, fence_stepped, shown_by_set, seen_by, mirror_at, with_creation, creation_of, creation_answered, creation_timed_out, all_made, making_on, making_at, making_by, source_of, plan_of, copying, settled, source_left, shown_by_commit, seen_at_source, settling_answered, settling_timed_out, copied_by, copied_on, target_left, copy_stepped}
use Rattle.file_rule.specs.FilePhases.{FileInput, AsksLayout, OwnWrite, Recall, Returns, Revokes, OwnEnds, Resilver, Answers, TimesOut, Ticks, Sees, are_spent, asked_in, held_in, by_client, by_mds, recalled_row, returned_row, revoked_row, own_row, resilvered_in, kind_of, settles_by, answered_in, timed_out_in, ticked, phase, CallOut, creation_waiting, create_out_at, create_out, fence_out, settle_out, copy_out, call_out_of}
use Rattle.cluster_laws.proofs.GoingPlans.{begins_open}

-- ---- a copy without an outcome keeps none, but for a step that is told as one that may bring it

abbrev IsOpen : CopyState → Type 0
IsOpen c = has_outcome c ≡ false

abbrev OpenBy : CopyState → CopyStep → Type 0
OpenBy c copy_step.Stranger = IsOpen c
OpenBy c copy_step.Waiting = IsOpen c
OpenBy c (copy_step.SourceFailed cause) = IsOpen c
OpenBy c (copy_step.TargetFailed server replaced cause) = Unit {0}
OpenBy c copy_step.Done = Unit {0}

abbrev OpenAfter : CopyAfter → Type 0
OpenAfter a = OpenBy a.copy a.step

-- what a step of a target tells
abbrev OfTarget : CopyStep → Type 0
OfTarget copy_step.Stranger = ⊥
OfTarget copy_step.Waiting = Unit {0}
OfTarget (copy_step.SourceFailed cause) = ⊥
OfTarget (copy_step.TargetFailed server replaced cause) = Unit {0}
OfTarget copy_step.Done = ⊥

create_tells : (t : CopyTarget) (reply : DsReplyValue) → OfTarget (create_answered t reply).step
create_tells t (Created fileid shown) = tt
create_tells t (Set shown) = tt
create_tells t (Written shown verifier) = tt
create_tells t (Committed shown verifier) = tt
create_tells t (Bytes shown eof bytes) = tt
create_tells t (NotSync shown) = tt
create_tells t (Failed status shown) = tt

write_tells : (t : CopyTarget) (reply : DsReplyValue) → OfTarget (write_answered t reply).step
write_tells t (Created fileid shown) = tt
write_tells t (Set shown) = tt
write_tells t (Written shown verifier) = tt
write_tells t (Committed shown verifier) = tt
write_tells t (Bytes shown eof bytes) = tt
write_tells t (NotSync shown) = tt
write_tells t (Failed status shown) = tt

answer_tells : (t : CopyTarget) (reply : DsReplyValue) (o : Option Mirror) → OfTarget (target_answered t reply o).step
answer_tells t reply None = create_tells t reply
answer_tells t reply (Some m) = write_tells t reply

late_tells : (t : CopyTarget) (s : CallStage) → OfTarget (target_late t s).step
late_tells t Waits = tt
late_tells t (Out xid timeouts) =
    cond_both (nat_lt (timeouts + 1) MAX_TIMEOUTS) (goes_on_with (at_stage t (Out xid (timeouts + 1)))) (target_fails t Timeouts) (λ (x : TargetStep). OfTarget x.step) (λ is. tt) (λ off. tt)
late_tells t (KeptOut xid) = tt
late_tells t KeptBack = tt
late_tells t Done = tt
late_tells t GivenUp = tt

goes_open : (c : CopyState) → IsOpen c → IsOpen (copy_goes_on c)
goes_open c is = cond_both (is_over c.read && not c.ended && have_answered c) (with_next c) c (λ (d : CopyState). IsOpen d) (λ on. is) (λ off. is)

then_open : (c : CopyState) (s : CopyStep) → OfTarget s → OpenAfter (copy_then c s)
then_open c copy_step.Stranger told = absurd told
then_open c copy_step.Waiting told = by_end (has_outcome c) refl
  where
    by_end : (b : Bool) → has_outcome c ≡ b → OpenBy (copy_goes_on c) (cond b copy_step.Done copy_step.Waiting)
    by_end true is = tt
    by_end false is = goes_open c is
then_open c (copy_step.SourceFailed cause) told = absurd told
then_open c (copy_step.TargetFailed server replaced cause) told = tt
then_open c copy_step.Done told = absurd told

-- one target that is not over is left
none_set : (test : CopyTarget → Bool) (targets : List CopyTarget) (place : ℕ) (t new : CopyTarget) → slice_get targets place ≡ Some t → test new ≡ false → list_all test (slice_set targets place new) ≡ false
none_set test [] place t new there off = absurd cc
none_set test (x ∷ targets) zero t new there off = ap (λ (b : Bool). b && list_all test targets) off
none_set test (x ∷ targets) (suc place) t new there off = ap (λ (b : Bool). test x && b) (none_set test targets place t new there off) ∙ and_off (test x)
  where
    and_off : (b : Bool) → (b && false) ≡ false
    and_off true = refl
    and_off false = refl

module _ (c : CopyState) (is : IsOpen c) where
  read_open : (reply : DsReplyValue) → OpenAfter (read_answered c reply)
  read_open (Created fileid shown) = is
  read_open (Set shown) = is
  read_open (Written shown verifier) = is
  read_open (Committed shown verifier) = is
  read_open (Bytes shown eof bytes) =
      cond_both (is_long c bytes) (source_fails c KeptBack (Error odd_status)) (copy_then (with_piece c eof bytes) copy_step.Waiting) OpenAfter (λ long. is)
      (λ off. then_open (with_piece c eof bytes) copy_step.Waiting tt)
  read_open (NotSync shown) = is
  read_open (Failed status shown) = is

  late_open : (s : CallStage) → OpenAfter (read_late c s)
  late_open Waits = is
  late_open (Out xid timeouts) =
      cond_both (nat_lt (timeouts + 1) MAX_TIMEOUTS) (record { copy = with_read c (Out xid (timeouts + 1)); step = copy_step.Waiting }) (source_fails c (KeptOut xid) Timeouts) OpenAfter (λ again. is) (λ off. is)
  late_open (KeptOut xid) = is
  late_open KeptBack = is
  late_open Done = is
  late_open GivenUp = is

  at_open : (step : CopyTarget → TargetStep) → ((t : CopyTarget) → OfTarget (step t).step) → (place : ℕ) (o : Option CopyTarget) → OpenAfter (step_at c step place o)
  at_open step told place None = is
  at_open step told place (Some t) = then_open (with_target c place (step t).target) (step t).step (told t)

  from_open : (step : CopyTarget → TargetStep) → ((t : CopyTarget) → OfTarget (step t).step) → (reads : CopyAfter) (o : Option ℕ) → OpenAfter reads → OpenAfter (step_from c step reads o)
  from_open step told reads None its = its
  from_open step told reads (Some place) its = at_open step told place (slice_get c.targets place)

  by_open : (xid : ℕ) (reads : CopyAfter) → OpenAfter reads → OpenAfter (by_read c xid reads)
  by_open xid reads its = cond_both (is_out xid c.read) reads (stranger c) OpenAfter (λ out. its) (λ off. is)

  reply_open : (xid : ℕ) (reply : DsReplyValue) → OpenAfter (copy.on_reply c xid reply)
  reply_open xid reply =
      from_open (λ t. target_answered t reply t.made) (λ t. answer_tells t reply t.made) (by_read c xid (read_answered c reply)) (target_of c xid) (by_open xid (read_answered c reply) (read_open reply))

  timeout_open : (xid : ℕ) → OpenAfter (copy.on_timeout c xid)
  timeout_open xid = from_open (λ t. target_late t t.stage) (λ t. late_tells t t.stage) (by_read c xid (read_late c c.read)) (target_of c xid) (by_open xid (read_late c c.read) (late_open c.read))

  -- its calls
  abbrev CallOpen : Option CopyCall → Type 0
  CallOpen None = Unit {0}
  CallOpen (Some call) = IsOpen call.copy

  at_call_open : (xid place : ℕ) (o : Option CopyTarget) → slice_get c.targets place ≡ o → CallOpen (target_call_at c xid place o)
  at_call_open xid place None there = tt
  at_call_open xid place (Some t) there =
      ap (λ (b : Bool). b || (c.ended && list_all (λ (x : CopyTarget). is_over x.stage) (slice_set c.targets place (at_stage t (Out xid 0))))) (none_set (λ (x : CopyTarget). is_given_up x.stage) c.targets place t (at_stage t (Out xid 0)) there refl)
      ∙ ap (λ (b : Bool). c.ended && b) (none_set (λ (x : CopyTarget). is_over x.stage) c.targets place t (at_stage t (Out xid 0)) there refl) ∙ and_off c.ended
    where
      and_off : (b : Bool) → (b && false) ≡ false
      and_off true = refl
      and_off false = refl

  from_call_open : (xid : ℕ) (o : Option ℕ) → CallOpen (call_from c xid o)
  from_call_open xid None = cond_both (waits c.read && may_read_on c) (Some _) None CallOpen (λ due. is) (λ off. tt)
  from_call_open xid (Some place) = at_call_open xid place (slice_get c.targets place) refl

-- ---- rows

abbrev pub OpenIn : Activity → Type 0
OpenIn Idle = Unit {0}
OpenIn (Makes all) = Unit {0}
OpenIn (Fences x) = Unit {0}
OpenIn (Settles stage) = Unit {0}
OpenIn (Copies c) = IsOpen c

-- a file wants no more mirrors than there are servers, and its copy has no outcome
pub record FileGoes (servers : ℕ) (f : MdsFile) : Type 0 where
  pub fits : f.layout.wanted ≤ servers
  pub goes : OpenIn f.activity

begun_open : (p : LayoutPhase) → OpenIn (begun_by p)
begun_open Making = tt
begun_open Free = tt
begun_open (Held holder recalled) = tt
begun_open (Fencing next end) = tt
begun_open (Settling copies) = tt
begun_open (Copying copier copies) = tt

ticked_open : (a : Activity) → OpenIn a → OpenIn (ticked a)
ticked_open Idle o = tt
ticked_open (Makes all) o = tt
ticked_open (Fences x) o = tt
ticked_open (Settles stage) o = tt
ticked_open (Copies c) o = o

module _ (file : FileId) (fresh : Fresh) where
  abbrev Fits : LayoutState → Type 0
  Fits s = s.wanted ≤ fresh.servers

  abbrev Goes : FileStep → Type 0
  Goes x = FileGoes fresh.servers x.file

  kept : (s : LayoutState) (a : Activity) → Fits s → OpenIn a → Goes (stays s a)
  kept s a w o = record { fits = w; goes = o }

  idles : (row : PhaseStep) → Fits row.file → Goes (goes_idle row 0)
  idles row w = record { fits = w; goes = tt }

  fences : (row : PhaseStep) (next : ℕ) → Fits row.file → Goes (goes_fencing row next)
  fences row next w = record { fits = w; goes = tt }

  return_fits : (s : LayoutState) (next : Cred) (live : List Mirror) → Fits s → Fits (left_with s next live)
  return_fits s next [] w = w
  return_fits s next (m ∷ live) w = w

  fenced_fits : (s : LayoutState) (p : LayoutPhase) → Fits s → Fits (fenced_to s p)
  fenced_fits s Making w = w
  fenced_fits s Free w = w
  fenced_fits s (Held holder recalled) w = w
  fenced_fits s (Fencing next end) w = w
  fenced_fits s (Settling copies) w = w
  fenced_fits s (Copying copier copies) w = w

  settled_fits : (s : LayoutState) (copies : CopyKind) (copier : Cred) → Fits s → Fits (settled_row file s copies copier).file
  settled_fits s copies copier w =
      cond_both (has_targets copies (length s.live) s.wanted) (record { file = with_phase s (Copying copier copies); entries = [] }) (freed file s) (λ (x : PhaseStep). Fits x.file) (λ is. w) (λ off. w)

  seen_fits : (s : LayoutState) (o : Option FenceMirror) (shown : Option Shown) → Fits s → Fits (seen_by s o shown)
  seen_fits s None shown w = w
  seen_fits s (Some m) None w = w
  seen_fits s (Some m) (Some shown) w = w

  source_fits : (s : LayoutState) (live : List Mirror) (shown : Option Shown) → Fits s → Fits (seen_at_source s live shown)
  source_fits s [] shown w = w
  source_fits s (m ∷ live) None w = w
  source_fits s (m ∷ live) (Some shown) w = w

  -- ---- the table

  asked_goes : (f : MdsFile) (holder : NodeId) (entries : List Entry) (p : LayoutPhase) → Goes (nothing f) → Goes (asked_in file f holder entries fresh p)
  asked_goes f holder entries Making i = i
  asked_goes f holder entries Free i =
      cond_both (are_spent fresh) (nothing f)
      (with_entries (granted file f.layout holder).entries (record { file = record { layout = (granted file f.layout holder).file; activity = f.activity }; entries = entries; uids = 0; names = 0 })) Goes (λ is. i)
      (λ off. record { fits = i.fits; goes = i.goes })
  asked_goes f holder entries (Held other recalled) i = i
  asked_goes f holder entries (Fencing next end) i = i
  asked_goes f holder entries (Settling copies) i = i
  asked_goes f holder entries (Copying copier copies) i = i

  held_goes : (f : MdsFile) (row : NodeId → FileStep) (p : LayoutPhase) → ((holder : NodeId) → Goes (row holder)) → Goes (nothing f) → Goes (held_in f row p)
  held_goes f row Making all i = i
  held_goes f row Free all i = i
  held_goes f row (Held holder recalled) all i = all holder
  held_goes f row (Fencing next end) all i = i
  held_goes f row (Settling copies) all i = i
  held_goes f row (Copying copier copies) all i = i

  client_goes : (f : MdsFile) (row : ℕ → FileStep) → ((n : ℕ) → Goes (row n)) → Goes (nothing f) → (holder : NodeId) → Goes (by_client f row holder)
  client_goes f row all i Mds = i
  client_goes f row all i (Server n) = i
  client_goes f row all i (Client n) = all n

  mds_goes : (f : MdsFile) (row : FileStep) → Goes row → Goes (nothing f) → (holder : NodeId) → Goes (by_mds f row holder)
  mds_goes f row its i Mds = its
  mds_goes f row its i (Server n) = i
  mds_goes f row its i (Client n) = i

  returned_goes : (f : MdsFile) (client : ℕ) (claimed : Cred) (places : List Bool) (holder : ℕ) → Goes (nothing f) → Goes (returned_row file f client claimed places fresh holder)
  returned_goes f client claimed places holder i =
      cond_both (holder == client && (f.layout.cred.0 == claimed.0)) (goes_fencing (returned file f.layout places (a_uid fresh.uid)) fresh.uid) (nothing f) Goes
      (λ is. fences (returned file f.layout places (a_uid fresh.uid)) fresh.uid (return_fits f.layout (a_uid fresh.uid) (unreported places f.layout.live) i.fits)) (λ off. i)

  revoked_goes : (f : MdsFile) (cause : EndCause) → Goes (nothing f) → Goes (revoked_row file f cause fresh)
  revoked_goes f cause i =
      cond_both (is_clean cause) (nothing f) (goes_fencing (revoked file f.layout cause (a_uid fresh.uid)) fresh.uid) Goes (λ is. i)
      (λ off. fences (revoked file f.layout cause (a_uid fresh.uid)) fresh.uid i.fits)

  own_goes : (f : MdsFile) (causes : List (Option LeftCause)) (told : Entry) → Goes (nothing f) → Goes (own_row file f causes told fresh)
  own_goes f causes told i = fences (own_done file f.layout causes told (a_uid fresh.uid)) fresh.uid (return_fits f.layout (a_uid fresh.uid) (unreported (map is_some causes) f.layout.live) i.fits)

  resilver_goes : (f : MdsFile) (p : LayoutPhase) → Goes (nothing f) → Goes (resilvered_in f fresh p)
  resilver_goes f Making i = i
  resilver_goes f Free i =
      cond_both (nat_lt (length f.layout.live) f.layout.wanted && (if are_spent fresh then false else true)) (stays (resilvered f.layout) (Settles Waits)) (nothing f) Goes
      (λ is. kept (resilvered f.layout) (Settles Waits) i.fits tt) (λ off. i)
  resilver_goes f (Held holder recalled) i = i
  resilver_goes f (Fencing next end) i = i
  resilver_goes f (Settling copies) i = i
  resilver_goes f (Copying copier copies) i = i

  -- ---- CREATEs

  on_goes : (layout : LayoutState) (all : Creations) → Fits layout → Goes (making_on file layout all)
  on_goes layout all w =
      cond_both (list_all (λ (c : Creation). is_over c.stage) all.items) (goes_idle (made file layout (all_made all)) 0) (stays layout (Makes all)) Goes
      (λ is. idles (made file layout (all_made all)) w) (λ off. kept layout (Makes all) w tt)

  making_at_goes : (layout : LayoutState) (all : Creations) (step : Creation → Creation) (place : ℕ) (o : Option Creation) → Fits layout → Goes (making_at file layout all step place o)
  making_at_goes layout all step place None w = kept layout (Makes all) w tt
  making_at_goes layout all step place (Some c) w = on_goes layout (with_creation all place (step c)) w

  making_goes : (layout : LayoutState) (all : Creations) (step : Creation → Creation) (o : Option ℕ) → Fits layout → Goes (making_by file layout all step o)
  making_goes layout all step None w = kept layout (Makes all) w tt
  making_goes layout all step (Some place) w = making_at_goes layout all step place (slice_get all.items place) w

  -- ---- a fence

  fenced_on_goes : (layout : LayoutState) (x : FenceState) → Fits layout → Goes (fenced_on file layout x)
  fenced_on_goes layout x w =
      cond_both (is_done x) (goes_on (fence_done file layout)) (stays layout (Fences x)) Goes
      (λ is. record { fits = fenced_fits layout layout.phase w; goes = begun_open (after_fence layout).phase }) (λ off. kept layout (Fences x) w tt)

  fence_goes : (layout : LayoutState) (x : FenceState) (s : FenceStep) → Fits layout → Goes (fence_stepped file layout x s)
  fence_goes layout x Stranger w = kept layout (Fences x) w tt
  fence_goes layout x Acked w = fenced_on_goes layout x w
  fence_goes layout x Again w = kept layout (Fences x) w tt
  fence_goes layout x (HasFailed id cause) w =
      cond_both (is_last_live layout.live) (stays layout (Fences x)) (with_entries (mirror_left file layout id cause).entries (fenced_on file (mirror_left file layout id cause).file (without x id))) Goes
      (λ is. kept layout (Fences x) w tt)
      (λ off. let its = fenced_on_goes (mirror_left file layout id cause).file (without x id) w in record { fits = its.fits; goes = its.goes })

  -- ---- the COMMIT of a source

  leaves_goes : (layout : LayoutState) (live : List Mirror) (cause : LeftCause) (under_way : Activity) → OpenIn under_way → Fits layout → Goes (source_left file layout live cause under_way)
  leaves_goes layout [] cause under_way o w = kept layout under_way w o
  leaves_goes layout (m ∷ live) cause under_way o w =
      cond_both (is_last_live layout.live) (stays layout under_way)
      (record { file = record { layout = (mirror_left file layout m.id cause).file; activity = Settles Waits }; entries = (mirror_left file layout m.id cause).entries; uids = 0; names = 0 }) Goes
      (λ is. kept layout under_way w o) (λ off. record { fits = w; goes = tt })

  commit_goes : (layout : LayoutState) (copies : CopyKind) → Fits layout → Goes (settled file layout copies fresh)
  commit_goes layout copies w =
      let row : PhaseStep = settled_row file layout copies (a_uid fresh.uid) in
      cond_both (has_targets copies (length layout.live) layout.wanted) (copying row.file fresh (plan_of copies layout fresh)) (goes_idle row 0) Goes
      (λ is. record { fits = settled_fits layout copies (a_uid fresh.uid) w; goes = begins_open copies layout fresh (source_of row.file.live) is w })
      (λ off. idles row (settled_fits layout copies (a_uid fresh.uid) w))

  settling_goes : (layout : LayoutState) (copies : CopyKind) (reply : DsReplyValue) → Fits layout → Goes (settling_answered file layout copies fresh reply)
  settling_goes layout copies (Created fileid shown) w = leaves_goes layout layout.live (Error odd_status) (Settles KeptBack) tt w
  settling_goes layout copies (Set shown) w = leaves_goes layout layout.live (Error odd_status) (Settles KeptBack) tt w
  settling_goes layout copies (Written shown verifier) w = leaves_goes layout layout.live (Error odd_status) (Settles KeptBack) tt w
  settling_goes layout copies (Committed shown verifier) w = commit_goes layout copies w
  settling_goes layout copies (Bytes shown eof bytes) w = leaves_goes layout layout.live (Error odd_status) (Settles KeptBack) tt w
  settling_goes layout copies (NotSync shown) w = leaves_goes layout layout.live (Error odd_status) (Settles KeptBack) tt w
  settling_goes layout copies (Failed status shown) w = leaves_goes layout layout.live (Error status) (Settles KeptBack) tt w

  settling_late_goes : (layout : LayoutState) (s : CallStage) → Fits layout → Goes (settling_timed_out file layout s)
  settling_late_goes layout Waits w = kept layout (Settles Waits) w tt
  settling_late_goes layout (Out xid timeouts) w =
      cond_both (nat_lt (timeouts + 1) MAX_TIMEOUTS) (stays layout (Settles (Out xid (timeouts + 1)))) (source_left file layout layout.live Timeouts (Settles (KeptOut xid))) Goes
      (λ is. kept layout (Settles (Out xid (timeouts + 1))) w tt) (λ off. leaves_goes layout layout.live Timeouts (Settles (KeptOut xid)) tt w)
  settling_late_goes layout (KeptOut xid) w = kept layout (Settles (KeptOut xid)) w tt
  settling_late_goes layout KeptBack w = kept layout (Settles KeptBack) w tt
  settling_late_goes layout Done w = kept layout (Settles Done) w tt
  settling_late_goes layout GivenUp w = kept layout (Settles GivenUp) w tt

  settles_goes : (f : MdsFile) (row : CopyKind → FileStep) (o : Option CopyKind) → ((copies : CopyKind) → Goes (row copies)) → Goes (nothing f) → Goes (settles_by f row o)
  settles_goes f row None all i = i
  settles_goes f row (Some copies) all i = all copies

  -- ---- a copy

  copied_by_goes : (layout : LayoutState) (copier : Cred) (targets : List SwappedIn) → Fits layout → Goes (copied_by file layout copier targets fresh)
  copied_by_goes layout copier [] w = idles (freed file layout) w
  copied_by_goes layout copier (t ∷ targets) w = fences (copied file layout copier (t ∷ targets) (a_uid fresh.uid)) fresh.uid w

  -- the copy goes on just where it has no outcome
  copied_goes : (layout : LayoutState) (c : CopyState) → Fits layout → Goes (copied_on file layout c fresh)
  copied_goes layout c w =
      cond_both (has_outcome c) (copied_by file layout (a_uid c.copier) (swaps_of c) fresh) (stays layout (Copies c)) Goes
      (λ is. copied_by_goes layout (a_uid c.copier) (swaps_of c) w) (λ off. kept layout (Copies c) w off)

  target_goes : (layout : LayoutState) (c : CopyState) (cause : LeftCause) (o : Option MirrorId) → Fits layout → Goes (target_left file layout c fresh cause o)
  target_goes layout c cause None w = copied_goes layout c w
  target_goes layout c cause (Some id) w = let its = copied_goes (mirror_left file layout id cause).file c w in record { fits = its.fits; goes = its.goes }

  copy_goes : (layout : LayoutState) (c : CopyState) (s : CopyStep) → OpenBy c s → Fits layout → Goes (copy_stepped file layout c fresh s)
  copy_goes layout c copy_step.Stranger o w = kept layout (Copies c) w o
  copy_goes layout c copy_step.Waiting o w = kept layout (Copies c) w o
  copy_goes layout c (copy_step.SourceFailed cause) o w = leaves_goes layout layout.live cause (Copies c) o w
  copy_goes layout c (copy_step.TargetFailed server replaced cause) o w = target_goes layout c cause replaced w
  copy_goes layout c copy_step.Done o w = copied_goes layout c w

  -- ---- answers, timeouts and ticks

  answered_goes : (f : MdsFile) (xid : ℕ) (reply : DsReplyValue) (a : Activity) → OpenIn a → Goes (nothing f) → Goes (answered_in file f xid reply fresh a)
  answered_goes f xid reply Idle o i = i
  answered_goes f xid reply (Makes all) o i = making_goes f.layout all (λ c. creation_answered all c reply) (creation_of all xid) i.fits
  answered_goes f xid reply (Fences x) o i =
      fence_goes (seen_by f.layout (mirror_at x (outstanding_at x xid)) (shown_by_set reply)) (on_reply x xid reply).fence (on_reply x xid reply).step
      (seen_fits f.layout (mirror_at x (outstanding_at x xid)) (shown_by_set reply) i.fits)
  answered_goes f xid reply (Settles stage) o i =
      let layout : LayoutState = seen_at_source f.layout f.layout.live (shown_by_commit reply) in
      cond_both (is_out xid stage) (settles_by f (λ copies. settling_answered file layout copies fresh reply) (kind_of f.layout.phase)) (nothing f) Goes
      (λ is.
      settles_goes f (λ copies. settling_answered file layout copies fresh reply) (kind_of f.layout.phase)
      (λ copies. settling_goes layout copies reply (source_fits f.layout f.layout.live (shown_by_commit reply) i.fits)) i)
      (λ off. i)
  answered_goes f xid reply (Copies c) o i = copy_goes f.layout (copy.on_reply c xid reply).copy (copy.on_reply c xid reply).step (reply_open c o xid reply) i.fits

  late_goes : (f : MdsFile) (xid : ℕ) (a : Activity) → OpenIn a → Goes (nothing f) → Goes (timed_out_in file f xid fresh a)
  late_goes f xid Idle o i = i
  late_goes f xid (Makes all) o i = making_goes f.layout all (creation_timed_out all) (creation_of all xid) i.fits
  late_goes f xid (Fences x) o i = fence_goes f.layout (on_timeout x xid).fence (on_timeout x xid).step i.fits
  late_goes f xid (Settles stage) o i = cond_both (is_out xid stage) (settling_timed_out file f.layout stage) (nothing f) Goes (λ is. settling_late_goes f.layout stage i.fits) (λ off. i)
  late_goes f xid (Copies c) o i = copy_goes f.layout (copy.on_timeout c xid).copy (copy.on_timeout c xid).step (timeout_open c o xid) i.fits

  pub phase_goes : (f : MdsFile) (input : FileInput) → FileGoes fresh.servers f → FileGoes fresh.servers (phase file f input fresh).file
  phase_goes f (AsksLayout client) i = asked_goes f (Client client) [] f.layout.phase i
  phase_goes f (OwnWrite at bytes) i = asked_goes f Mds (entry.Sent file f.layout.cred at bytes ∷ []) f.layout.phase i
  phase_goes f Recall i = held_goes f (by_client f (recalled_row f)) f.layout.phase (client_goes f (recalled_row f) (λ n. kept (recalled f.layout (Client n)) f.activity i.fits i.goes) i) i
  phase_goes f (Returns client claimed places) i =
      held_goes f (by_client f (returned_row file f client claimed places fresh)) f.layout.phase (client_goes f (returned_row file f client claimed places fresh) (λ n. returned_goes f client claimed places n i) i) i
  phase_goes f (Revokes cause) i = held_goes f (by_client f (λ client. revoked_row file f cause fresh)) f.layout.phase (client_goes f (λ client. revoked_row file f cause fresh) (λ n. revoked_goes f cause i) i) i
  phase_goes f (OwnEnds causes at bytes) i =
      let told : Entry = entry.Told file f.layout.cred at bytes in
      held_goes f (by_mds f (own_row file f causes told fresh)) f.layout.phase (mds_goes f (own_row file f causes told fresh) (own_goes f causes told i) i) i
  phase_goes f Resilver i = resilver_goes f f.layout.phase i
  phase_goes f (Answers xid reply) i = answered_goes f xid reply f.activity i.goes i
  phase_goes f (TimesOut xid) i = late_goes f xid f.activity i.goes i
  phase_goes f Ticks i = kept f.layout (ticked f.activity) i.fits (ticked_open f.activity i.goes)
  phase_goes f (Sees id seen) i = record { fits = i.fits; goes = i.goes }

-- ---- the calls that go out

module _ (servers : ℕ) (f : MdsFile) (i : FileGoes servers f) where
  abbrev pub OutGoes : Option CallOut → Type 0
  OutGoes None = Unit {0}
  OutGoes (Some c) = FileGoes servers c.file

  create_at_goes : (all : Creations) (xid place : ℕ) (o : Option Creation) → OutGoes (create_out_at f all xid place o)
  create_at_goes all xid place None = tt
  create_at_goes all xid place (Some c) = record { fits = i.fits; goes = tt }

  create_goes : (all : Creations) (xid : ℕ) (o : Option ℕ) → OutGoes (create_out f all xid o)
  create_goes all xid None = tt
  create_goes all xid (Some place) = create_at_goes all xid place (slice_get all.items place)

  fence_out_goes : (o : Option fence.FenceCall) → OutGoes (fence_out f o)
  fence_out_goes None = tt
  fence_out_goes (Some c) = record { fits = i.fits; goes = tt }

  settle_goes : (xid : ℕ) (live : List Mirror) → OutGoes (settle_out f xid live)
  settle_goes xid [] = tt
  settle_goes xid (m ∷ live) = record { fits = i.fits; goes = tt }

  copy_out_goes : (c : CopyState) (is : IsOpen c) (o : Option CopyCall) → CallOpen c is o → OutGoes (copy_out f o)
  copy_out_goes c is None its = tt
  copy_out_goes c is (Some x) its = record { fits = i.fits; goes = its }

  pub out_goes : (xid : ℕ) (a : Activity) → OpenIn a → OutGoes (call_out_of f xid a)
  out_goes xid Idle o = tt
  out_goes xid (Makes all) o = create_goes all xid (creation_waiting all)
  out_goes xid (Fences x) o = fence_out_goes (fence.next_call x xid)
  out_goes xid (Settles stage) o = cond_both (waits stage) (settle_out f xid f.layout.live) None OutGoes (λ is. settle_goes xid f.layout.live) (λ off. tt)
  out_goes xid (Copies c) o = copy_out_goes c o (copy.next_call c xid) (from_call_open c o xid (waiting_at c))
