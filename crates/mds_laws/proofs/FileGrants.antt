-- What the entries of one input of the table of phases tell of the file: it is granted where it stands free.
use Rattle.std.proofs.Common.{◌≡◌, ℕ, ◌+◌, Bool, true, false, cond, List, [], ◌∷◌, ◌++◌, length, Option, Some, None, refl, sym, ap, subst}
use Rattle.std.specs.Prelude.{◌==◌, ◌&&◌, nat_lt, slice_get, map, is_some, if◌then◌else◌}
use Rattle.std.specs.List.{list_all}
use Rattle.std.proofs.lemmas.Bool.{cond_both}
use Rattle.cluster_model.specs.declared.limits.TheConstants.{MAX_TIMEOUTS}
use Rattle.cluster_model.specs.declared.ids.NodeId.{NodeId}
use Rattle.cluster_model.specs.declared.ids.NodeId.TheVariants.{Mds, Server, Client}
use Rattle.cluster_model.specs.declared.ids.FileId.{FileId}
use Rattle.cluster_model.specs.declared.ids.Cred.{Cred}
use Rattle.cluster_model.specs.declared.ids.Mirror.{Mirror}
use Rattle.cluster_model.specs.declared.ids.MirrorId.{MirrorId}
use Rattle.cluster_model.specs.declared.phase.EndCause.{EndCause}
use Rattle.cluster_model.specs.declared.phase.EndCause.TheVariants.{Returned, Own}
use Rattle.cluster_model.specs.declared.phase.LeftCause.{LeftCause}
use Rattle.cluster_model.specs.declared.phase.LeftCause.TheVariants.{Error, Timeouts}
use Rattle.cluster_model.specs.declared.ds_call.Shown.{Shown}
use Rattle.cluster_model.specs.declared.call_stage.CallStage.{CallStage}
use Rattle.cluster_model.specs.declared.call_stage.CallStage.TheVariants.{Waits, Out, KeptOut, KeptBack, Done, GivenUp}
use Rattle.cluster_model.specs.declared.entry.Entry.{Entry}
use Rattle.cluster_model.specs.declared.entry.Entry.TheVariants as entry
use Rattle.cluster_model.specs.declared.fence_mirror.FenceMirror.{FenceMirror}
use Rattle.cluster_model.specs.declared.fence_mirror.FenceStep.{FenceStep}
use Rattle.cluster_model.specs.declared.fence_mirror.FenceStep.TheVariants.{Stranger, Acked, Again, Failed as HasFailed}
use Rattle.cluster_model.specs.declared.layout_state.LayoutState.{LayoutState}
use Rattle.cluster_model.specs.declared.layout_state.LayoutPhase.{LayoutPhase}
use Rattle.cluster_model.specs.declared.layout_state.LayoutPhase.TheVariants.{Making, Free, Held, Fencing, Settling, Copying}
use Rattle.cluster_model.specs.declared.layout_state.FenceEnd.TheVariants.{Clean, Dirty, Copied}
use Rattle.cluster_model.specs.declared.layout_state.CopyKind.{CopyKind}
use Rattle.cluster_model.specs.declared.targets.SwappedIn.{SwappedIn}
use Rattle.cluster_model.specs.DsCalls.{DsReplyValue, Created, Set, Written, Committed, Bytes, NotSync, Failed}
use Rattle.cluster_model.specs.Fences.{waits, is_out, is_over, odd_status, FenceState, FenceCall, next_call, outstanding_at, on_reply, on_timeout, without, is_done}
use Rattle.cluster_model.specs.Phases.{is_last_live, with_phase, is_clean, unreported, is_source, left_entries, reported_cause, end_entries, PhaseStep, freed, made, granted, left_with, returned, revoked, phase_without, mirror_left, fenced_to, fence_entries, fence_done, has_targets, swapped_entries, resilvered}
use Rattle.copy_rule.specs.declared.copy_target.CopyStep.{CopyStep}
use Rattle.copy_rule.specs.declared.copy_target.CopyStep.TheVariants as copy_step
use Rattle.copy_rule.specs.Copies.{CopyState, CopyCall, has_outcome, swaps_of}
use Rattle.copy_rule.specs.Copies as copy
use Rattle.file_rule.specs.declared.creation.Creation.{Creation}
use Rattle.file_rule.specs.declared.fresh.Fresh.{Fresh}
use Rattle.file_rule.specs.MdsFiles.{Creations, Activity, Idle, Makes, Fences, Settles, Copies, MdsFile, FileStep, nothing, stays, a_uid, goes_idle, goes_fencing, goes_on, with_entries, fenced_on, fence_stepped, shown_by_set, seen_by, mirror_at, with_creation, creation_of, creation_answered, creation_timed_out, all_made, making_on, making_at, making_by, plan_of, copying, settled, source_left, shown_by_commit, seen_at_source, settling_answered, settling_timed_out, copied_by, copied_on, target_left, copy_stepped}
use Rattle.file_rule.specs.FilePhases.{FileInput, AsksLayout, OwnWrite, Recall, Returns, Revokes, OwnEnds, Resilver, Answers, TimesOut, Ticks, Sees, are_spent, asked_in, held_in, by_client, by_mds, recalled_row, returned_row, revoked_row, own_row, resilvered_in, kind_of, settles_by, answered_in, timed_out_in, phase, CallOut, creation_waiting, create_out_at, create_out, fence_out, settle_out, copy_out, call_out_of, call_out}
use Rattle.mds_walk.proofs.Lists.{AllOf}
use Rattle.mds_laws.proofs.Keeping.{is_quiet}

abbrev pub is_free : LayoutPhase → Bool
is_free Making = false
is_free Free = true
is_free (Held holder recalled) = false
is_free (Fencing next end) = false
is_free (Settling copies) = false
is_free (Copying copier copies) = false

-- ---- what the entries of a file tell

-- it is of this file, and a grant stands where the file was free
abbrev pub IsEntryOf : FileId → Bool → Entry → Type 0
IsEntryOf file was (entry.Free other live) = other.0 ≡ file.0
IsEntryOf file was (entry.Granted other cred holder) = (other.0 ≡ file.0) × (was ≡ true)
IsEntryOf file was (entry.Ended other cred cause) = other.0 ≡ file.0
IsEntryOf file was e = Unit {0}

abbrev pub next_free : Bool → Entry → Bool
next_free was (entry.Free other live) = true
next_free was (entry.Granted other cred holder) = false
next_free was (entry.Ended other cred cause) = false
next_free was e = was

-- in the end it stands free where it is
abbrev pub Tells : FileId → Bool → List Entry → Bool → Type 0
Tells file was [] now = now ≡ true → was ≡ true
Tells file was (e ∷ entries) now = IsEntryOf file was e × Tells file (next_free was e) entries now

pub quiet_entry : (file : FileId) (was : Bool) (e : Entry) → is_quiet e ≡ true → IsEntryOf file was e × (next_free was e ≡ was)
quiet_entry file was (entry.Free other live) is = absurd cc
quiet_entry file was (entry.Granted other cred holder) is = absurd cc
quiet_entry file was (entry.Ended other cred cause) is = absurd cc
quiet_entry file was e is = (tt, refl)

abbrev AreQuiet : List Entry → Type 0
AreQuiet entries = AllOf (λ e. is_quiet e ≡ true) entries

quiet_tells : (file : FileId) (was : Bool) (quiet more : List Entry) (now : Bool) → AreQuiet quiet → Tells file was more now → Tells file was (quiet ++ more) now
quiet_tells file was [] more now all t = t
quiet_tells file was (e ∷ quiet) more now all t =
    let one = quiet_entry file was e all.0 in
    (one.0, subst (λ (b : Bool). Tells file b (quiet ++ more) now) (sym one.1) (quiet_tells file was quiet more now all.1 t))

quiet_only : (file : FileId) (was : Bool) (quiet : List Entry) (now : Bool) → AreQuiet quiet → (now ≡ true → was ≡ true) → Tells file was quiet now
quiet_only file was [] now all t = t
quiet_only file was (e ∷ quiet) now all t =
    let one = quiet_entry file was e all.0 in
    (one.0, subst (λ (b : Bool). Tells file b quiet now) (sym one.1) (quiet_only file was quiet now all.1 t))

quiet_join : (a b : List Entry) → AreQuiet a → AreQuiet b → AreQuiet (a ++ b)
quiet_join [] b all more = more
quiet_join (e ∷ a) b all more = (all.0, quiet_join a b all.1 more)

left_quiet : (file : FileId) (causes : List (Option LeftCause)) (live : List Mirror) → AreQuiet (left_entries file causes live)
left_quiet file causes [] = tt
left_quiet file [] (m ∷ live) = tt
left_quiet file (None ∷ causes) (m ∷ live) = left_quiet file causes live
left_quiet file (Some cause ∷ causes) (m ∷ live) = (refl, left_quiet file causes live)

swapped_quiet : (file : FileId) (targets : List SwappedIn) → AreQuiet (swapped_entries file targets)
swapped_quiet file [] = tt
swapped_quiet file (t ∷ targets) = (refl, swapped_quiet file targets)

never : (b : Bool) → false ≡ true → b ≡ true
never b is = absurd cc

-- ---- the rows

module _ (file : FileId) (fresh : Fresh) (was : Bool) where
  abbrev StepTells : FileStep → Type 0
  StepTells x = Tells file was x.entries (is_free x.file.layout.phase)

  abbrev Stands : LayoutState → Type 0
  Stands s = is_free s.phase ≡ true → was ≡ true

  asked_tells : (f : MdsFile) (holder : NodeId) (entries : List Entry) (p : LayoutPhase) → f.layout.phase ≡ p → AreQuiet entries → Stands f.layout → StepTells (asked_in file f holder entries fresh p)
  asked_tells f holder entries Making at quiet i = i
  asked_tells f holder entries Free at quiet i =
      cond_both (are_spent fresh) (nothing f)
      (with_entries (granted file f.layout holder).entries (record { file = record { layout = (granted file f.layout holder).file; activity = f.activity }; entries = entries; uids = 0; names = 0 })) StepTells (λ is. i)
      (λ off. ((refl, i (ap is_free at)), quiet_only file false entries false quiet (λ is. is)))
  asked_tells f holder entries (Held other recalled) at quiet i = i
  asked_tells f holder entries (Fencing next end) at quiet i = i
  asked_tells f holder entries (Settling copies) at quiet i = i
  asked_tells f holder entries (Copying copier copies) at quiet i = i

  held_tells : (f : MdsFile) (row : NodeId → FileStep) (p : LayoutPhase) → ((holder : NodeId) → StepTells (row holder)) → Stands f.layout → StepTells (held_in f row p)
  held_tells f row Making all i = i
  held_tells f row Free all i = i
  held_tells f row (Held holder recalled) all i = all holder
  held_tells f row (Fencing next end) all i = i
  held_tells f row (Settling copies) all i = i
  held_tells f row (Copying copier copies) all i = i

  client_tells : (f : MdsFile) (row : ℕ → FileStep) → ((n : ℕ) → StepTells (row n)) → Stands f.layout → (holder : NodeId) → StepTells (by_client f row holder)
  client_tells f row all i Mds = i
  client_tells f row all i (Server n) = i
  client_tells f row all i (Client n) = all n

  mds_tells : (f : MdsFile) (row : FileStep) → StepTells row → Stands f.layout → (holder : NodeId) → StepTells (by_mds f row holder)
  mds_tells f row its i Mds = its
  mds_tells f row its i (Server n) = i
  mds_tells f row its i (Client n) = i

  end_tells : (s : LayoutState) (next : Cred) (left : List Entry) (cause : EndCause) (live : List Mirror) → AreQuiet left → Tells file was (end_entries file s.cred left cause live) (is_free (left_with s next live).phase)
  end_tells s next left cause [] quiet = (refl, λ is. is)
  end_tells s next left cause (m ∷ live) quiet = quiet_tells file was left (entry.Ended file s.cred cause ∷ []) false quiet (refl, λ is. is)

  returned_tells : (f : MdsFile) (client : ℕ) (claimed : Cred) (places : List Bool) (holder : ℕ) → Stands f.layout → StepTells (returned_row file f client claimed places fresh holder)
  returned_tells f client claimed places holder i =
      cond_both (holder == client && (f.layout.cred.0 == claimed.0)) (goes_fencing (returned file f.layout places (a_uid fresh.uid)) fresh.uid) (nothing f) StepTells
      (λ is. end_tells f.layout (a_uid fresh.uid) (left_entries file (map reported_cause places) f.layout.live) Returned (unreported places f.layout.live) (left_quiet file (map reported_cause places) f.layout.live)) (λ off. i)

  revoked_tells : (f : MdsFile) (cause : EndCause) → Stands f.layout → StepTells (revoked_row file f cause fresh)
  revoked_tells f cause i =
      cond_both (is_clean cause) (nothing f) (goes_fencing (revoked file f.layout cause (a_uid fresh.uid)) fresh.uid) StepTells (λ is. i) (λ off. (refl, λ is. is))

  own_tells : (f : MdsFile) (causes : List (Option LeftCause)) (told : Entry) → is_quiet told ≡ true → StepTells (own_row file f causes told fresh)
  own_tells f causes told quiet =
      end_tells f.layout (a_uid fresh.uid) (left_entries file causes f.layout.live ++ told ∷ []) Own (unreported (map is_some causes) f.layout.live)
      (quiet_join (left_entries file causes f.layout.live) (told ∷ []) (left_quiet file causes f.layout.live) (quiet, tt))

  resilver_tells : (f : MdsFile) (p : LayoutPhase) → Stands f.layout → StepTells (resilvered_in f fresh p)
  resilver_tells f Making i = i
  resilver_tells f Free i =
      cond_both (nat_lt (length f.layout.live) f.layout.wanted && (if are_spent fresh then false else true)) (stays (resilvered f.layout) (Settles Waits)) (nothing f) StepTells (λ is. never was) (λ off. i)
  resilver_tells f (Held holder recalled) i = i
  resilver_tells f (Fencing next end) i = i
  resilver_tells f (Settling copies) i = i
  resilver_tells f (Copying copier copies) i = i

  -- ---- CREATEs

  on_tells : (layout : LayoutState) (all : Creations) → Stands layout → StepTells (making_on file layout all)
  on_tells layout all i =
      cond_both (list_all (λ (c : Creation). is_over c.stage) all.items) (goes_idle (made file layout (all_made all)) 0) (stays layout (Makes all)) StepTells (λ is. (refl, λ its. refl)) (λ off. i)

  making_at_tells : (layout : LayoutState) (all : Creations) (step : Creation → Creation) (place : ℕ) (o : Option Creation) → Stands layout → StepTells (making_at file layout all step place o)
  making_at_tells layout all step place None i = i
  making_at_tells layout all step place (Some c) i = on_tells layout (with_creation all place (step c)) i

  making_tells : (layout : LayoutState) (all : Creations) (step : Creation → Creation) (o : Option ℕ) → Stands layout → StepTells (making_by file layout all step o)
  making_tells layout all step None i = i
  making_tells layout all step (Some place) i = making_at_tells layout all step place (slice_get all.items place) i

  -- ---- a mirror that leaves

  loss_free : (p : LayoutPhase) (source : Bool) → is_free (phase_without p source) ≡ true → is_free p ≡ true
  loss_free Making source is = is
  loss_free Free source is = is
  loss_free (Held holder recalled) source is = is
  loss_free (Fencing next end) source is = is
  loss_free (Settling copies) source is = is
  loss_free (Copying copier copies) source is = cond_both source (Settling copies) (Copying copier copies) (λ (p : LayoutPhase). is_free p ≡ true → false ≡ true) (λ on. λ its. its) (λ off. λ its. its) is

  left_stands : (s : LayoutState) (id : MirrorId) (cause : LeftCause) → Stands s → Stands (mirror_left file s id cause).file
  left_stands s id cause i is = i (loss_free s.phase (is_source id s.live) is)

  -- ---- a fence

  fence_done_tells : (s : LayoutState) (p : LayoutPhase) → Stands s → Tells file was (fence_entries file s p) (is_free (fenced_to s p).phase)
  fence_done_tells s Making i = i
  fence_done_tells s Free i = i
  fence_done_tells s (Held holder recalled) i = i
  fence_done_tells s (Fencing next Clean) i = (tt, (refl, λ is. refl))
  fence_done_tells s (Fencing next Dirty) i = (tt, never was)
  fence_done_tells s (Fencing next Copied) i = (tt, (refl, λ is. refl))
  fence_done_tells s (Settling copies) i = i
  fence_done_tells s (Copying copier copies) i = i

  fenced_on_tells : (layout : LayoutState) (x : FenceState) → Stands layout → StepTells (fenced_on file layout x)
  fenced_on_tells layout x i = cond_both (is_done x) (goes_on (fence_done file layout)) (stays layout (Fences x)) StepTells (λ is. fence_done_tells layout layout.phase i) (λ off. i)

  fence_tells : (layout : LayoutState) (x : FenceState) (s : FenceStep) → Stands layout → StepTells (fence_stepped file layout x s)
  fence_tells layout x Stranger i = i
  fence_tells layout x Acked i = fenced_on_tells layout x i
  fence_tells layout x Again i = i
  fence_tells layout x (HasFailed id cause) i =
      cond_both (is_last_live layout.live) (stays layout (Fences x)) (with_entries (mirror_left file layout id cause).entries (fenced_on file (mirror_left file layout id cause).file (without x id))) StepTells (λ is. i)
      (λ off. (tt, fenced_on_tells (mirror_left file layout id cause).file (without x id) (left_stands layout id cause i)))

  seen_stands : (s : LayoutState) (o : Option FenceMirror) (shown : Option Shown) → Stands s → Stands (seen_by s o shown)
  seen_stands s None shown i = i
  seen_stands s (Some m) None i = i
  seen_stands s (Some m) (Some shown) i = i

  source_stands : (s : LayoutState) (live : List Mirror) (shown : Option Shown) → Stands s → Stands (seen_at_source s live shown)
  source_stands s [] shown i = i
  source_stands s (m ∷ live) None i = i
  source_stands s (m ∷ live) (Some shown) i = i

  -- ---- the COMMIT of a source

  leaves_tells : (layout : LayoutState) (live : List Mirror) (cause : LeftCause) (kept : Activity) → Stands layout → StepTells (source_left file layout live cause kept)
  leaves_tells layout [] cause kept i = i
  leaves_tells layout (m ∷ live) cause kept i =
      cond_both (is_last_live layout.live) (stays layout kept)
      (record { file = record { layout = (mirror_left file layout m.id cause).file; activity = Settles Waits }; entries = (mirror_left file layout m.id cause).entries; uids = 0; names = 0 }) StepTells
      (λ is. i) (λ off. (tt, left_stands layout m.id cause i))

  commit_tells : (layout : LayoutState) (copies : CopyKind) → StepTells (settled file layout copies fresh)
  commit_tells layout copies = by_targets (has_targets copies (length layout.live) layout.wanted)
    where
      by_targets : (b : Bool) → StepTells (cond {A = FileStep} b
          (copying (cond {A = PhaseStep} b (record { file = with_phase layout (Copying (a_uid fresh.uid) copies); entries = [] }) (freed file layout)).file fresh (plan_of copies layout fresh))
          (goes_idle (cond {A = PhaseStep} b (record { file = with_phase layout (Copying (a_uid fresh.uid) copies); entries = [] }) (freed file layout)) 0))
      by_targets true = never was
      by_targets false = (refl, λ is. refl)

  settling_tells : (layout : LayoutState) (copies : CopyKind) (reply : DsReplyValue) → Stands layout → StepTells (settling_answered file layout copies fresh reply)
  settling_tells layout copies (Created fileid shown) i = leaves_tells layout layout.live (Error odd_status) (Settles KeptBack) i
  settling_tells layout copies (Set shown) i = leaves_tells layout layout.live (Error odd_status) (Settles KeptBack) i
  settling_tells layout copies (Written shown verifier) i = leaves_tells layout layout.live (Error odd_status) (Settles KeptBack) i
  settling_tells layout copies (Committed shown verifier) i = commit_tells layout copies
  settling_tells layout copies (Bytes shown eof bytes) i = leaves_tells layout layout.live (Error odd_status) (Settles KeptBack) i
  settling_tells layout copies (NotSync shown) i = leaves_tells layout layout.live (Error odd_status) (Settles KeptBack) i
  settling_tells layout copies (Failed status shown) i = leaves_tells layout layout.live (Error status) (Settles KeptBack) i

  settling_late_tells : (layout : LayoutState) (s : CallStage) → Stands layout → StepTells (settling_timed_out file layout s)
  settling_late_tells layout Waits i = i
  settling_late_tells layout (Out xid timeouts) i =
      cond_both (nat_lt (timeouts + 1) MAX_TIMEOUTS) (stays layout (Settles (Out xid (timeouts + 1)))) (source_left file layout layout.live Timeouts (Settles (KeptOut xid))) StepTells (λ is. i)
      (λ off. leaves_tells layout layout.live Timeouts (Settles (KeptOut xid)) i)
  settling_late_tells layout (KeptOut xid) i = i
  settling_late_tells layout KeptBack i = i
  settling_late_tells layout Done i = i
  settling_late_tells layout GivenUp i = i

  settles_tells : (f : MdsFile) (row : CopyKind → FileStep) (o : Option CopyKind) → ((copies : CopyKind) → StepTells (row copies)) → Stands f.layout → StepTells (settles_by f row o)
  settles_tells f row None all i = i
  settles_tells f row (Some copies) all i = all copies

  -- ---- a copy

  copied_by_tells : (layout : LayoutState) (copier : Cred) (targets : List SwappedIn) → StepTells (copied_by file layout copier targets fresh)
  copied_by_tells layout copier [] = (refl, λ is. refl)
  copied_by_tells layout copier (t ∷ targets) = quiet_only file was (swapped_entries file (t ∷ targets)) false (swapped_quiet file (t ∷ targets)) (never was)

  copied_tells : (layout : LayoutState) (c : CopyState) → Stands layout → StepTells (copied_on file layout c fresh)
  copied_tells layout c i =
      cond_both (has_outcome c) (copied_by file layout (a_uid c.copier) (swaps_of c) fresh) (stays layout (Copies c)) StepTells (λ is. copied_by_tells layout (a_uid c.copier) (swaps_of c)) (λ off. i)

  target_tells : (layout : LayoutState) (c : CopyState) (cause : LeftCause) (o : Option MirrorId) → Stands layout → StepTells (target_left file layout c fresh cause o)
  target_tells layout c cause None i = copied_tells layout c i
  target_tells layout c cause (Some id) i = (tt, copied_tells (mirror_left file layout id cause).file c (left_stands layout id cause i))

  copy_tells : (layout : LayoutState) (c : CopyState) (s : CopyStep) → Stands layout → StepTells (copy_stepped file layout c fresh s)
  copy_tells layout c copy_step.Stranger i = i
  copy_tells layout c copy_step.Waiting i = i
  copy_tells layout c (copy_step.SourceFailed cause) i = leaves_tells layout layout.live cause (Copies c) i
  copy_tells layout c (copy_step.TargetFailed server replaced cause) i = target_tells layout c cause replaced i
  copy_tells layout c copy_step.Done i = copied_tells layout c i

  -- ---- answers and timeouts

  answered_tells : (f : MdsFile) (xid : ℕ) (reply : DsReplyValue) (a : Activity) → Stands f.layout → StepTells (answered_in file f xid reply fresh a)
  answered_tells f xid reply Idle i = i
  answered_tells f xid reply (Makes all) i = making_tells f.layout all (λ c. creation_answered all c reply) (creation_of all xid) i
  answered_tells f xid reply (Fences x) i =
      fence_tells (seen_by f.layout (mirror_at x (outstanding_at x xid)) (shown_by_set reply)) (on_reply x xid reply).fence (on_reply x xid reply).step
      (seen_stands f.layout (mirror_at x (outstanding_at x xid)) (shown_by_set reply) i)
  answered_tells f xid reply (Settles stage) i =
      let layout : LayoutState = seen_at_source f.layout f.layout.live (shown_by_commit reply) in
      cond_both (is_out xid stage) (settles_by f (λ copies. settling_answered file layout copies fresh reply) (kind_of f.layout.phase)) (nothing f) StepTells
      (λ is. settles_tells f (λ copies. settling_answered file layout copies fresh reply) (kind_of f.layout.phase) (λ copies. settling_tells layout copies reply (source_stands f.layout f.layout.live (shown_by_commit reply) i)) i)
      (λ off. i)
  answered_tells f xid reply (Copies c) i = copy_tells f.layout (copy.on_reply c xid reply).copy (copy.on_reply c xid reply).step i

  late_tells : (f : MdsFile) (xid : ℕ) (a : Activity) → Stands f.layout → StepTells (timed_out_in file f xid fresh a)
  late_tells f xid Idle i = i
  late_tells f xid (Makes all) i = making_tells f.layout all (creation_timed_out all) (creation_of all xid) i
  late_tells f xid (Fences x) i = fence_tells f.layout (on_timeout x xid).fence (on_timeout x xid).step i
  late_tells f xid (Settles stage) i = cond_both (is_out xid stage) (settling_timed_out file f.layout stage) (nothing f) StepTells (λ is. settling_late_tells f.layout stage i) (λ off. i)
  late_tells f xid (Copies c) i = copy_tells f.layout (copy.on_timeout c xid).copy (copy.on_timeout c xid).step i

  pub phase_tells : (f : MdsFile) (input : FileInput) → Stands f.layout → Tells file was (phase file f input fresh).entries (is_free (phase file f input fresh).file.layout.phase)
  phase_tells f (AsksLayout client) i = asked_tells f (Client client) [] f.layout.phase refl tt i
  phase_tells f (OwnWrite at bytes) i = asked_tells f Mds (entry.Sent file f.layout.cred at bytes ∷ []) f.layout.phase refl (refl, tt) i
  phase_tells f Recall i = held_tells f (by_client f (recalled_row f)) f.layout.phase (client_tells f (recalled_row f) (λ n. never was) i) i
  phase_tells f (Returns client claimed places) i =
      held_tells f (by_client f (returned_row file f client claimed places fresh)) f.layout.phase (client_tells f (returned_row file f client claimed places fresh) (λ n. returned_tells f client claimed places n i) i) i
  phase_tells f (Revokes cause) i = held_tells f (by_client f (λ client. revoked_row file f cause fresh)) f.layout.phase (client_tells f (λ client. revoked_row file f cause fresh) (λ n. revoked_tells f cause i) i) i
  phase_tells f (OwnEnds causes at bytes) i =
      held_tells f (by_mds f (own_row file f causes (entry.Told file f.layout.cred at bytes) fresh)) f.layout.phase
      (mds_tells f (own_row file f causes (entry.Told file f.layout.cred at bytes) fresh) (own_tells f causes (entry.Told file f.layout.cred at bytes) refl) i) i
  phase_tells f Resilver i = resilver_tells f f.layout.phase i
  phase_tells f (Answers xid reply) i = answered_tells f xid reply f.activity i
  phase_tells f (TimesOut xid) i = late_tells f xid f.activity i
  phase_tells f Ticks i = i
  phase_tells f (Sees id seen) i = i

-- ---- a call that goes out changes no layout

module _ (f : MdsFile) where
  abbrev SameLayout : Option CallOut → Type 0
  SameLayout None = Unit {0}
  SameLayout (Some c) = c.file.layout ≡ f.layout

  create_at_same : (all : Creations) (xid place : ℕ) (o : Option Creation) → SameLayout (create_out_at f all xid place o)
  create_at_same all xid place None = tt
  create_at_same all xid place (Some c) = refl

  create_same : (all : Creations) (xid : ℕ) (o : Option ℕ) → SameLayout (create_out f all xid o)
  create_same all xid None = tt
  create_same all xid (Some place) = create_at_same all xid place (slice_get all.items place)

  fence_same : (o : Option FenceCall) → SameLayout (fence_out f o)
  fence_same None = tt
  fence_same (Some c) = refl

  settle_same : (xid : ℕ) (live : List Mirror) → SameLayout (settle_out f xid live)
  settle_same xid [] = tt
  settle_same xid (m ∷ live) = refl

  copy_same : (o : Option CopyCall) → SameLayout (copy_out f o)
  copy_same None = tt
  copy_same (Some c) = refl

  out_of_same : (xid : ℕ) (a : Activity) → SameLayout (call_out_of f xid a)
  out_of_same xid Idle = tt
  out_of_same xid (Makes all) = create_same all xid (creation_waiting all)
  out_of_same xid (Fences x) = fence_same (next_call x xid)
  out_of_same xid (Settles stage) = cond_both (waits stage) (settle_out f xid f.layout.live) None SameLayout (λ is. settle_same xid f.layout.live) (λ off. tt)
  out_of_same xid (Copies c) = copy_same (copy.next_call c xid)

  pub out_layout : (xid : ℕ) (c : CallOut) → call_out f xid ≡ Some c → c.file.layout ≡ f.layout
  out_layout xid c is = subst SameLayout is (out_of_same xid f.activity)
