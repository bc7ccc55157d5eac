-- What an input of the table of phases may enter: one walk through the table for all laws that speak of entries alone.
use Rattle.std.proofs.Common.{◌≡◌, ℕ, ◌+◌, Bool, true, false, cond, List, [], ◌∷◌, ◌++◌, length, Option, Some, None}
use Rattle.std.specs.Prelude.{◌==◌, ◌&&◌, nat_lt, slice_get, map, is_some, if◌then◌else◌}
use Rattle.std.specs.List.{list_all, AllByRecursion}
use Rattle.std.proofs.lemmas.Bool.{cond_both}
use Rattle.cluster_model.specs.declared.limits.TheConstants.{MAX_TIMEOUTS}
use Rattle.cluster_model.specs.declared.ids.NodeId.{NodeId}
use Rattle.cluster_model.specs.declared.ids.NodeId.TheVariants.{Mds, Server, Client}
use Rattle.cluster_model.specs.declared.ids.FileId.{FileId}
use Rattle.cluster_model.specs.declared.ids.Cred.{Cred}
use Rattle.cluster_model.specs.declared.ids.Mirror.{Mirror}
use Rattle.cluster_model.specs.declared.ids.MirrorId.{MirrorId}
use Rattle.cluster_model.specs.declared.phase.EndCause.{EndCause}
use Rattle.cluster_model.specs.declared.phase.EndCause.TheVariants.{Returned, Own, AllReported, Recalled, Lease, NoLayout, ClientGone, ReturnedAll}
use Rattle.cluster_model.specs.declared.phase.LeftCause.{LeftCause}
use Rattle.cluster_model.specs.declared.phase.LeftCause.TheVariants.{Error, Timeouts}
use Rattle.cluster_model.specs.declared.call_stage.CallStage.{CallStage}
use Rattle.cluster_model.specs.declared.call_stage.CallStage.TheVariants.{Waits, Out, KeptOut, KeptBack, Done, GivenUp}
use Rattle.cluster_model.specs.declared.entry.Entry.{Entry}
use Rattle.cluster_model.specs.declared.entry.Entry.TheVariants as entry
use Rattle.cluster_model.specs.declared.fence_mirror.FenceStep.{FenceStep}
use Rattle.cluster_model.specs.declared.fence_mirror.FenceStep.TheVariants.{Stranger, Acked, Again, Failed as HasFailed}
use Rattle.cluster_model.specs.declared.layout_state.LayoutState.{LayoutState}
use Rattle.cluster_model.specs.declared.layout_state.LayoutPhase.{LayoutPhase}
use Rattle.cluster_model.specs.declared.layout_state.LayoutPhase.TheVariants.{Making, Free, Held, Fencing, Settling, Copying}
use Rattle.cluster_model.specs.declared.layout_state.FenceEnd.TheVariants.{Clean, Dirty, Copied}
use Rattle.cluster_model.specs.declared.layout_state.CopyKind.{CopyKind}
use Rattle.cluster_model.specs.declared.targets.SwappedIn.{SwappedIn}
use Rattle.cluster_model.specs.DsCalls.{DsReplyValue, Created, Set, Written, Committed, Bytes, NotSync, Failed}
use Rattle.cluster_model.specs.Fences.{is_out, is_over, odd_status, FenceState, outstanding_at, on_reply, on_timeout, without, is_done}
use Rattle.cluster_model.specs.Phases.{is_last_live, with_phase, is_clean, unreported, left_entries, reported_cause, end_entries, PhaseStep, freed, made, granted, returned, revoked, mirror_left, fence_entries, fence_done, has_targets, swapped_entries, resilvered}
use Rattle.copy_rule.specs.declared.copy_target.CopyStep.{CopyStep}
use Rattle.copy_rule.specs.declared.copy_target.CopyStep.TheVariants as copy_step
use Rattle.copy_rule.specs.Copies.{CopyState, has_outcome, swaps_of}
use Rattle.copy_rule.specs.Copies as copy
use Rattle.file_rule.specs.declared.creation.Creation.{Creation}
use Rattle.file_rule.specs.declared.fresh.Fresh.{Fresh}
use Rattle.file_rule.specs.MdsFiles.{Creations, Activity, Idle, Makes, Fences, Settles, Copies, MdsFile, FileStep, nothing, stays, a_uid, goes_idle, goes_fencing, goes_on, with_entries, fenced_on, fence_stepped, shown_by_set, seen_by, mirror_at, with_creation, creation_of, creation_answered, creation_timed_out, all_made, making_on, making_at, making_by, plan_of, copying, settled, source_left, shown_by_commit, seen_at_source, settling_answered, settling_timed_out, copied_by, copied_on, target_left, copy_stepped}
use Rattle.file_rule.specs.FilePhases.{FileInput, AsksLayout, OwnWrite, Recall, Returns, Revokes, OwnEnds, Resilver, Answers, TimesOut, Ticks, Sees, are_spent, asked_in, held_in, by_client, by_mds, recalled_row, returned_row, revoked_row, own_row, resilvered_in, kind_of, settles_by, answered_in, timed_out_in, phase}
use Rattle.cluster_laws.proofs.Lists.{all_more}

-- ---- what an input may enter

-- a return alone ends a period as returned
abbrev pub IsReturn : FileInput → Type 0
IsReturn (Returns client claimed places) = Unit {0}
IsReturn input = ⊥

abbrev pub IsCauseOf : FileInput → EndCause → Type 0
IsCauseOf input Returned = IsReturn input
IsCauseOf input cause = Unit {0}

abbrev pub IsPhaseEntry : FileInput → Entry → Type 0
IsPhaseEntry input (entry.Granted file cred holder) = Unit {0}
IsPhaseEntry input (entry.Sent file cred at bytes) = Unit {0}
IsPhaseEntry input (entry.Told file cred at bytes) = Unit {0}
IsPhaseEntry input (entry.Ended file cred cause) = IsCauseOf input cause
IsPhaseEntry input (entry.Left file mirror cause) = Unit {0}
IsPhaseEntry input (entry.Swapped file old new) = Unit {0}
IsPhaseEntry input (entry.Fenced file old new live) = Unit {0}
IsPhaseEntry input (entry.Free file live) = Unit {0}
IsPhaseEntry input e = ⊥

abbrev pub AreOfPhase : FileInput → List Entry → Type 0
AreOfPhase input entries = AllByRecursion (IsPhaseEntry input) entries

other_cause : (input : FileInput) (cause : EndCause) → is_clean cause ≡ false → IsCauseOf input cause
other_cause input Returned off = absurd cc
other_cause input Own off = tt
other_cause input AllReported off = tt
other_cause input Recalled off = tt
other_cause input Lease off = tt
other_cause input NoLayout off = tt
other_cause input ClientGone off = tt
other_cause input ReturnedAll off = tt

of_join : (input : FileInput) (a b : List Entry) → AreOfPhase input a → AreOfPhase input b → AreOfPhase input (a ++ b)
of_join input [] b all more = more
of_join input (e ∷ a) b all more = (all.0, of_join input a b all.1 more)

left_of : (input : FileInput) (file : FileId) (causes : List (Option LeftCause)) (live : List Mirror) → AreOfPhase input (left_entries file causes live)
left_of input file causes [] = tt
left_of input file [] (m ∷ live) = tt
left_of input file (None ∷ causes) (m ∷ live) = left_of input file causes live
left_of input file (Some cause ∷ causes) (m ∷ live) = (tt, left_of input file causes live)

swapped_of : (input : FileInput) (file : FileId) (targets : List SwappedIn) → AreOfPhase input (swapped_entries file targets)
swapped_of input file [] = tt
swapped_of input file (t ∷ targets) = (tt, swapped_of input file targets)

-- ---- the rows

module _ (file : FileId) (fresh : Fresh) (input : FileInput) where
  abbrev IsStepOf : FileStep → Type 0
  IsStepOf x = AreOfPhase input x.entries

  asked_of : (f : MdsFile) (holder : NodeId) (entries : List Entry) (p : LayoutPhase) → AreOfPhase input entries → IsStepOf (asked_in file f holder entries fresh p)
  asked_of f holder entries Making none = tt
  asked_of f holder entries Free none =
      cond_both (are_spent fresh) (nothing f)
      (with_entries (granted file f.layout holder).entries (record { file = record { layout = (granted file f.layout holder).file; activity = f.activity }; entries = entries; uids = 0; names = 0 })) IsStepOf (λ is. tt) (λ off. (tt, none))
  asked_of f holder entries (Held other recalled) none = tt
  asked_of f holder entries (Fencing next end) none = tt
  asked_of f holder entries (Settling copies) none = tt
  asked_of f holder entries (Copying copier copies) none = tt

  held_of : (f : MdsFile) (row : NodeId → FileStep) (p : LayoutPhase) → ((holder : NodeId) → IsStepOf (row holder)) → IsStepOf (held_in f row p)
  held_of f row Making all = tt
  held_of f row Free all = tt
  held_of f row (Held holder recalled) all = all holder
  held_of f row (Fencing next end) all = tt
  held_of f row (Settling copies) all = tt
  held_of f row (Copying copier copies) all = tt

  client_of : (f : MdsFile) (row : ℕ → FileStep) → ((n : ℕ) → IsStepOf (row n)) → (holder : NodeId) → IsStepOf (by_client f row holder)
  client_of f row all Mds = tt
  client_of f row all (Server n) = tt
  client_of f row all (Client n) = all n

  mds_of : (f : MdsFile) (row : FileStep) → IsStepOf row → (holder : NodeId) → IsStepOf (by_mds f row holder)
  mds_of f row its Mds = its
  mds_of f row its (Server n) = tt
  mds_of f row its (Client n) = tt

  end_of : (s : LayoutState) (left : List Entry) (cause : EndCause) → IsCauseOf input cause → (live : List Mirror) → AreOfPhase input left → AreOfPhase input (end_entries file s.cred left cause live)
  end_of s left cause its [] none = (tt, tt)
  end_of s left cause its (m ∷ live) none = of_join input left (entry.Ended file s.cred cause ∷ []) none (its, tt)

  returned_of : IsReturn input → (f : MdsFile) (client : ℕ) (claimed : Cred) (places : List Bool) (holder : ℕ) → IsStepOf (returned_row file f client claimed places fresh holder)
  returned_of its f client claimed places holder =
      cond_both (holder == client && (f.layout.cred.0 == claimed.0)) (goes_fencing (returned file f.layout places (a_uid fresh.uid)) fresh.uid) (nothing f) IsStepOf
      (λ is. end_of f.layout (left_entries file (map reported_cause places) f.layout.live) Returned its (unreported places f.layout.live) (left_of input file (map reported_cause places) f.layout.live)) (λ off. tt)

  revoked_of : (f : MdsFile) (cause : EndCause) → IsStepOf (revoked_row file f cause fresh)
  revoked_of f cause = cond_both (is_clean cause) (nothing f) (goes_fencing (revoked file f.layout cause (a_uid fresh.uid)) fresh.uid) IsStepOf (λ is. tt) (λ off. (other_cause input cause off, tt))

  own_of : (f : MdsFile) (causes : List (Option LeftCause)) (told : Entry) → IsPhaseEntry input told → IsStepOf (own_row file f causes told fresh)
  own_of f causes told none =
      end_of f.layout (left_entries file causes f.layout.live ++ told ∷ []) Own tt (unreported (map is_some causes) f.layout.live)
      (of_join input (left_entries file causes f.layout.live) (told ∷ []) (left_of input file causes f.layout.live) (none, tt))

  resilver_of : (f : MdsFile) (p : LayoutPhase) → IsStepOf (resilvered_in f fresh p)
  resilver_of f Making = tt
  resilver_of f Free = cond_both (nat_lt (length f.layout.live) f.layout.wanted && (if are_spent fresh then false else true)) (stays (resilvered f.layout) (Settles Waits)) (nothing f) IsStepOf (λ is. tt) (λ off. tt)
  resilver_of f (Held holder recalled) = tt
  resilver_of f (Fencing next end) = tt
  resilver_of f (Settling copies) = tt
  resilver_of f (Copying copier copies) = tt

  -- ---- CREATEs

  on_of : (layout : LayoutState) (all : Creations) → IsStepOf (making_on file layout all)
  on_of layout all =
      cond_both (list_all (λ (c : Creation). is_over c.stage) all.items) (goes_idle (made file layout (all_made all)) 0) (stays layout (Makes all)) IsStepOf (λ is. (tt, tt)) (λ off. tt)

  making_at_of : (layout : LayoutState) (all : Creations) (step : Creation → Creation) (place : ℕ) (o : Option Creation) → IsStepOf (making_at file layout all step place o)
  making_at_of layout all step place None = tt
  making_at_of layout all step place (Some c) = on_of layout (with_creation all place (step c))

  making_of : (layout : LayoutState) (all : Creations) (step : Creation → Creation) (o : Option ℕ) → IsStepOf (making_by file layout all step o)
  making_of layout all step None = tt
  making_of layout all step (Some place) = making_at_of layout all step place (slice_get all.items place)

  -- ---- a fence

  fence_done_of : (s : LayoutState) (p : LayoutPhase) → AreOfPhase input (fence_entries file s p)
  fence_done_of s Making = tt
  fence_done_of s Free = tt
  fence_done_of s (Held holder recalled) = tt
  fence_done_of s (Fencing next Clean) = (tt, (tt, tt))
  fence_done_of s (Fencing next Dirty) = (tt, tt)
  fence_done_of s (Fencing next Copied) = (tt, (tt, tt))
  fence_done_of s (Settling copies) = tt
  fence_done_of s (Copying copier copies) = tt

  fenced_on_of : (layout : LayoutState) (x : FenceState) → IsStepOf (fenced_on file layout x)
  fenced_on_of layout x = cond_both (is_done x) (goes_on (fence_done file layout)) (stays layout (Fences x)) IsStepOf (λ is. fence_done_of layout layout.phase) (λ off. tt)

  fence_of : (layout : LayoutState) (x : FenceState) (s : FenceStep) → IsStepOf (fence_stepped file layout x s)
  fence_of layout x Stranger = tt
  fence_of layout x Acked = fenced_on_of layout x
  fence_of layout x Again = tt
  fence_of layout x (HasFailed id cause) =
      cond_both (is_last_live layout.live) (stays layout (Fences x)) (with_entries (mirror_left file layout id cause).entries (fenced_on file (mirror_left file layout id cause).file (without x id))) IsStepOf (λ is. tt)
      (λ off. (tt, fenced_on_of (mirror_left file layout id cause).file (without x id)))

  -- ---- the COMMIT of a source

  leaves_of : (layout : LayoutState) (live : List Mirror) (cause : LeftCause) (kept : Activity) → IsStepOf (source_left file layout live cause kept)
  leaves_of layout [] cause kept = tt
  leaves_of layout (m ∷ live) cause kept =
      cond_both (is_last_live layout.live) (stays layout kept)
      (record { file = record { layout = (mirror_left file layout m.id cause).file; activity = Settles Waits }; entries = (mirror_left file layout m.id cause).entries; uids = 0; names = 0 }) IsStepOf
      (λ is. tt) (λ off. (tt, tt))

  commit_of : (layout : LayoutState) (copies : CopyKind) → IsStepOf (settled file layout copies fresh)
  commit_of layout copies = by_targets (has_targets copies (length layout.live) layout.wanted)
    where
      by_targets : (b : Bool) → IsStepOf (cond {A = FileStep} b
          (copying (cond {A = PhaseStep} b (record { file = with_phase layout (Copying (a_uid fresh.uid) copies); entries = [] }) (freed file layout)).file fresh (plan_of copies layout fresh))
          (goes_idle (cond {A = PhaseStep} b (record { file = with_phase layout (Copying (a_uid fresh.uid) copies); entries = [] }) (freed file layout)) 0))
      by_targets true = tt
      by_targets false = (tt, tt)

  settling_of : (layout : LayoutState) (copies : CopyKind) (reply : DsReplyValue) → IsStepOf (settling_answered file layout copies fresh reply)
  settling_of layout copies (Created fileid shown) = leaves_of layout layout.live (Error odd_status) (Settles KeptBack)
  settling_of layout copies (Set shown) = leaves_of layout layout.live (Error odd_status) (Settles KeptBack)
  settling_of layout copies (Written shown verifier) = leaves_of layout layout.live (Error odd_status) (Settles KeptBack)
  settling_of layout copies (Committed shown verifier) = commit_of layout copies
  settling_of layout copies (Bytes shown eof bytes) = leaves_of layout layout.live (Error odd_status) (Settles KeptBack)
  settling_of layout copies (NotSync shown) = leaves_of layout layout.live (Error odd_status) (Settles KeptBack)
  settling_of layout copies (Failed status shown) = leaves_of layout layout.live (Error status) (Settles KeptBack)

  settling_late_of : (layout : LayoutState) (s : CallStage) → IsStepOf (settling_timed_out file layout s)
  settling_late_of layout Waits = tt
  settling_late_of layout (Out xid timeouts) =
      cond_both (nat_lt (timeouts + 1) MAX_TIMEOUTS) (stays layout (Settles (Out xid (timeouts + 1)))) (source_left file layout layout.live Timeouts (Settles (KeptOut xid))) IsStepOf (λ is. tt)
      (λ off. leaves_of layout layout.live Timeouts (Settles (KeptOut xid)))
  settling_late_of layout (KeptOut xid) = tt
  settling_late_of layout KeptBack = tt
  settling_late_of layout Done = tt
  settling_late_of layout GivenUp = tt

  settles_of : (f : MdsFile) (row : CopyKind → FileStep) (o : Option CopyKind) → ((copies : CopyKind) → IsStepOf (row copies)) → IsStepOf (settles_by f row o)
  settles_of f row None all = tt
  settles_of f row (Some copies) all = all copies

  -- ---- a copy

  copied_by_of : (layout : LayoutState) (copier : Cred) (targets : List SwappedIn) → IsStepOf (copied_by file layout copier targets fresh)
  copied_by_of layout copier [] = (tt, tt)
  copied_by_of layout copier (t ∷ targets) = swapped_of input file (t ∷ targets)

  copied_of : (layout : LayoutState) (c : CopyState) → IsStepOf (copied_on file layout c fresh)
  copied_of layout c = cond_both (has_outcome c) (copied_by file layout (a_uid c.copier) (swaps_of c) fresh) (stays layout (Copies c)) IsStepOf (λ is. copied_by_of layout (a_uid c.copier) (swaps_of c)) (λ off. tt)

  target_of : (layout : LayoutState) (c : CopyState) (cause : LeftCause) (o : Option MirrorId) → IsStepOf (target_left file layout c fresh cause o)
  target_of layout c cause None = copied_of layout c
  target_of layout c cause (Some id) = (tt, copied_of (mirror_left file layout id cause).file c)

  copy_of : (layout : LayoutState) (c : CopyState) (s : CopyStep) → IsStepOf (copy_stepped file layout c fresh s)
  copy_of layout c copy_step.Stranger = tt
  copy_of layout c copy_step.Waiting = tt
  copy_of layout c (copy_step.SourceFailed cause) = leaves_of layout layout.live cause (Copies c)
  copy_of layout c (copy_step.TargetFailed server replaced cause) = target_of layout c cause replaced
  copy_of layout c copy_step.Done = copied_of layout c

  -- ---- answers and timeouts

  answered_of : (f : MdsFile) (xid : ℕ) (reply : DsReplyValue) (a : Activity) → IsStepOf (answered_in file f xid reply fresh a)
  answered_of f xid reply Idle = tt
  answered_of f xid reply (Makes all) = making_of f.layout all (λ c. creation_answered all c reply) (creation_of all xid)
  answered_of f xid reply (Fences x) = fence_of (seen_by f.layout (mirror_at x (outstanding_at x xid)) (shown_by_set reply)) (on_reply x xid reply).fence (on_reply x xid reply).step
  answered_of f xid reply (Settles stage) =
      let layout : LayoutState = seen_at_source f.layout f.layout.live (shown_by_commit reply) in
      cond_both (is_out xid stage) (settles_by f (λ copies. settling_answered file layout copies fresh reply) (kind_of f.layout.phase)) (nothing f) IsStepOf
      (λ is. settles_of f (λ copies. settling_answered file layout copies fresh reply) (kind_of f.layout.phase) (λ copies. settling_of layout copies reply)) (λ off. tt)
  answered_of f xid reply (Copies c) = copy_of f.layout (copy.on_reply c xid reply).copy (copy.on_reply c xid reply).step

  late_of : (f : MdsFile) (xid : ℕ) (a : Activity) → IsStepOf (timed_out_in file f xid fresh a)
  late_of f xid Idle = tt
  late_of f xid (Makes all) = making_of f.layout all (creation_timed_out all) (creation_of all xid)
  late_of f xid (Fences x) = fence_of f.layout (on_timeout x xid).fence (on_timeout x xid).step
  late_of f xid (Settles stage) = cond_both (is_out xid stage) (settling_timed_out file f.layout stage) (nothing f) IsStepOf (λ is. settling_late_of f.layout stage) (λ off. tt)
  late_of f xid (Copies c) = copy_of f.layout (copy.on_timeout c xid).copy (copy.on_timeout c xid).step

pub phase_entries : (file : FileId) (fresh : Fresh) (f : MdsFile) (input : FileInput) → AreOfPhase input (phase file f input fresh).entries
phase_entries file fresh f (AsksLayout client) = asked_of file fresh (AsksLayout client) f (Client client) [] f.layout.phase tt
phase_entries file fresh f (OwnWrite at bytes) = asked_of file fresh (OwnWrite at bytes) f Mds (entry.Sent file f.layout.cred at bytes ∷ []) f.layout.phase (tt, tt)
phase_entries file fresh f Recall = held_of file fresh Recall f (by_client f (recalled_row f)) f.layout.phase (client_of file fresh Recall f (recalled_row f) (λ n. tt))
phase_entries file fresh f (Returns client claimed places) =
    let its : FileInput = Returns client claimed places in
    held_of file fresh its f (by_client f (returned_row file f client claimed places fresh)) f.layout.phase
    (client_of file fresh its f (returned_row file f client claimed places fresh) (λ n. returned_of file fresh its tt f client claimed places n))
phase_entries file fresh f (Revokes cause) =
    let its : FileInput = Revokes cause in
    held_of file fresh its f (by_client f (λ client. revoked_row file f cause fresh)) f.layout.phase (client_of file fresh its f (λ client. revoked_row file f cause fresh) (λ n. revoked_of file fresh its f cause))
phase_entries file fresh f (OwnEnds causes at bytes) =
    let its : FileInput = OwnEnds causes at bytes in
    let told : Entry = entry.Told file f.layout.cred at bytes in
    held_of file fresh its f (by_mds f (own_row file f causes told fresh)) f.layout.phase (mds_of file fresh its f (own_row file f causes told fresh) (own_of file fresh its f causes told tt))
phase_entries file fresh f Resilver = resilver_of file fresh Resilver f f.layout.phase
phase_entries file fresh f (Answers xid reply) = answered_of file fresh (Answers xid reply) f xid reply f.activity
phase_entries file fresh f (TimesOut xid) = late_of file fresh (TimesOut xid) f xid f.activity
phase_entries file fresh f Ticks = tt
phase_entries file fresh f (Sees id seen) = tt

-- what holds of each such entry holds of all that an input enters
pub phase_all : (P : Entry → Type 0) (file : FileId) (fresh : Fresh) (f : MdsFile) (input : FileInput) → ((e : Entry) → IsPhaseEntry input e → P e) → AllByRecursion P (phase file f input fresh).entries
phase_all P file fresh f input each = all_more (IsPhaseEntry input) P (phase file f input fresh).entries each (phase_entries file fresh f input)
