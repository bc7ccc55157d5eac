-- An input that is of no own write enters nothing of the metadata server's own periods; and a file that the metadata server holds behind it
-- was held before, by the same uid.
use Rattle.std.proofs.Common.{◌≡◌, refl, ◌∙◌, ℕ, ◌+◌, Bool, true, false, cond, List, [], ◌∷◌, ◌++◌, length, Option, Some, None}
use Rattle.std.specs.Prelude.{◌==◌, ◌&&◌, nat_lt, slice_get, map, if◌then◌else◌}
use Rattle.std.specs.List.{list_all, AllByRecursion}
use Rattle.std.proofs.lemmas.Bool.{cond_both}
use Rattle.cluster_model.specs.declared.limits.TheConstants.{MAX_TIMEOUTS}
use Rattle.cluster_model.specs.declared.ids.NodeId.{NodeId}
use Rattle.cluster_model.specs.declared.ids.NodeId.TheVariants.{Mds, Server, Client}
use Rattle.cluster_model.specs.declared.ids.FileId.{FileId}
use Rattle.cluster_model.specs.declared.ids.Cred.{Cred}
use Rattle.cluster_model.specs.declared.ids.Mirror.{Mirror}
use Rattle.cluster_model.specs.declared.ids.MirrorId.{MirrorId}
use Rattle.cluster_model.specs.declared.phase.EndCause.{EndCause}
use Rattle.cluster_model.specs.declared.phase.EndCause.TheVariants.{Returned, Own, AllReported, Recalled, Lease, NoLayout, ClientGone, ReturnedAll}
use Rattle.cluster_model.specs.declared.phase.LeftCause.{LeftCause}
use Rattle.cluster_model.specs.declared.phase.LeftCause.TheVariants.{Error, Timeouts}
use Rattle.cluster_model.specs.declared.call_stage.CallStage.{CallStage}
use Rattle.cluster_model.specs.declared.call_stage.CallStage.TheVariants.{Waits, Out, KeptOut, KeptBack, Done, GivenUp}
use Rattle.cluster_model.specs.declared.entry.Entry.{Entry}
use Rattle.cluster_model.specs.declared.entry.Entry.TheVariants as entry
use Rattle.cluster_model.specs.declared.fence_mirror.FenceStep.{FenceStep}
use Rattle.cluster_model.specs.declared.fence_mirror.FenceStep.TheVariants.{Stranger, Acked, Again, Failed as HasFailed}
use Rattle.cluster_model.specs.declared.layout_state.LayoutState.{LayoutState}
use Rattle.cluster_model.specs.declared.layout_state.LayoutPhase.{LayoutPhase}
use Rattle.cluster_model.specs.declared.layout_state.LayoutPhase.TheVariants.{Making, Free, Held, Fencing, Settling, Copying}
use Rattle.cluster_model.specs.declared.layout_state.FenceEnd.TheVariants.{Clean, Dirty, Copied}
use Rattle.cluster_model.specs.declared.layout_state.CopyKind.{CopyKind}
use Rattle.cluster_model.specs.declared.targets.SwappedIn.{SwappedIn}
use Rattle.cluster_model.specs.DsCalls.{DsReplyValue, Created, Set, Written, Committed, Bytes, NotSync, Failed}
use Rattle.cluster_model.specs.Fences.{is_out, is_over, odd_status, FenceState, outstanding_at, on_reply, on_timeout, without, is_done}
use Rattle.cluster_model.specs.Phases.{is_source, but_for, phase_without, after_loss, fenced_to, with_live, left_with, is_last_live, with_phase, is_clean, unreported, left_entries, reported_cause, end_entries, PhaseStep, freed, made, granted, returned, revoked, mirror_left, fence_entries, fence_done, has_targets, swapped_entries, resilvered}
use Rattle.copy_rule.specs.declared.copy_target.CopyStep.{CopyStep}
use Rattle.copy_rule.specs.declared.copy_target.CopyStep.TheVariants as copy_step
use Rattle.copy_rule.specs.Copies.{CopyState, CopyCall, has_outcome, swaps_of}
use Rattle.copy_rule.specs.Copies as copy
use Rattle.file_rule.specs.declared.creation.Creation.{Creation}
use Rattle.file_rule.specs.declared.fresh.Fresh.{Fresh}
use Rattle.file_rule.specs.MdsFiles.{Creations, Activity, Idle, Makes, Fences, Settles, Copies, MdsFile, FileStep, nothing, stays, a_uid, goes_idle, goes_fencing, goes_on, with_entries, fenced_on, fence_stepped, shown_by_set, seen_by, mirror_at, with_creation, creation_of, creation_answered, creation_timed_out, all_made, making_on, making_at, making_by, plan_of, copying, settled, source_left, shown_by_commit, seen_at_source, settling_answered, settling_timed_out, copied_by, copied_on, target_left, copy_stepped}
use Rattle.file_rule.specs.FilePhases.{FileInput, AsksLayout, OwnWrite, Recall, Returns, Revokes, OwnEnds, Resilver, Answers, TimesOut, Ticks, Sees, are_spent, asked_in, held_in, by_client, recalled_row, returned_row, revoked_row, resilvered_in, kind_of, settles_by, answered_in, timed_out_in, phase}
use Rattle.mds_laws.proofs.EachCases.{is_own_input}
use Rattle.cluster_model.specs.declared.ds_call.Shown.{Shown}
use Rattle.cluster_model.specs.declared.fence_mirror.FenceMirror.{FenceMirror}
use Rattle.cluster_model.specs.declared.layout_state.FenceEnd.{FenceEnd}
use Rattle.cluster_model.specs.declared.layout_state.CopyKind.TheVariants.{Replacing, Adding}

-- an entry of a period of the metadata server's own
abbrev pub is_own_entry : Entry → Bool
is_own_entry (entry.Granted file cred Mds) = true
is_own_entry (entry.Granted file cred (Server n)) = false
is_own_entry (entry.Granted file cred (Client n)) = false
is_own_entry (entry.Sent file cred at bytes) = true
is_own_entry (entry.Told file cred at bytes) = true
is_own_entry (entry.Ended file cred Own) = true
is_own_entry (entry.Ended file cred Returned) = false
is_own_entry (entry.Ended file cred AllReported) = false
is_own_entry (entry.Ended file cred Recalled) = false
is_own_entry (entry.Ended file cred Lease) = false
is_own_entry (entry.Ended file cred NoLayout) = false
is_own_entry (entry.Ended file cred ClientGone) = false
is_own_entry (entry.Ended file cred ReturnedAll) = false
is_own_entry e = false

abbrev pub NoneOwn : List Entry → Type 0
NoneOwn entries = AllByRecursion (λ (e : Entry). is_own_entry e ≡ false) entries

none_join : (a b : List Entry) → NoneOwn a → NoneOwn b → NoneOwn (a ++ b)
none_join [] b all more = more
none_join (e ∷ a) b all more = (all.0, none_join a b all.1 more)

pub left_none : (file : FileId) (causes : List (Option LeftCause)) (live : List Mirror) → NoneOwn (left_entries file causes live)
left_none file causes [] = tt
left_none file [] (m ∷ live) = tt
left_none file (None ∷ causes) (m ∷ live) = left_none file causes live
left_none file (Some cause ∷ causes) (m ∷ live) = (refl, left_none file causes live)

swapped_none : (file : FileId) (targets : List SwappedIn) → NoneOwn (swapped_entries file targets)
swapped_none file [] = tt
swapped_none file (t ∷ targets) = (refl, swapped_none file targets)

-- ---- a layout that the metadata server holds was held before

pub record WasHeld (s g : LayoutState) : Type 0 where
  pub held : s.phase ≡ g.phase
  pub cred : g.cred ≡ s.cred

abbrev pub HeldBack : LayoutState → LayoutState → Type 0
HeldBack s g = (is_recalled : Bool) → g.phase ≡ Held Mds is_recalled → WasHeld s g

held_same : (s : LayoutState) → HeldBack s s
held_same s is_recalled is = record { held = refl; cred = refl }

held_then : (s g h : LayoutState) → HeldBack s g → HeldBack g h → HeldBack s h
held_then s g h first second is_recalled is =
    let k : WasHeld g h = second is_recalled is in
    let j : WasHeld s g = first is_recalled (k.held ∙ is) in
    record { held = j.held ∙ k.held; cred = k.cred ∙ j.cred }

free_never : (is_recalled : Bool) → Free ≡ Held Mds is_recalled → ⊥
free_never is_recalled is = absurd cc

fencing_never : (next : Cred) (end : FenceEnd) (is_recalled : Bool) → Fencing next end ≡ Held Mds is_recalled → ⊥
fencing_never next end is_recalled is = absurd cc

settling_never : (copies : CopyKind) (is_recalled : Bool) → Settling copies ≡ Held Mds is_recalled → ⊥
settling_never copies is_recalled is = absurd cc

copying_never : (copier : Cred) (copies : CopyKind) (is_recalled : Bool) → Copying copier copies ≡ Held Mds is_recalled → ⊥
copying_never copier copies is_recalled is = absurd cc

client_never : (n : ℕ) (was is_recalled : Bool) → Held (Client n) was ≡ Held Mds is_recalled → ⊥
client_never n was is_recalled is = absurd cc

-- a mirror leaves
lost_by : (s : LayoutState) (live : List Mirror) (source : Bool) (p : LayoutPhase) → s.phase ≡ p → HeldBack s (with_phase (with_live s live) (phase_without p source))
lost_by s live source Making is r its = record { held = is; cred = refl }
lost_by s live source Free is r its = record { held = is; cred = refl }
lost_by s live source (Held holder recalled) is r its = record { held = is; cred = refl }
lost_by s live source (Fencing next end) is r its = record { held = is; cred = refl }
lost_by s live source (Settling copies) is r its = record { held = is; cred = refl }
lost_by s live source (Copying copier copies) is r its =
    absurd (cond_both source (Settling copies) (Copying copier copies) (λ (p : LayoutPhase). p ≡ Held Mds r → ⊥) (λ yes. settling_never copies r) (λ off. copying_never copier copies r) its)

pub loss_held : (s : LayoutState) (id : MirrorId) → HeldBack s (after_loss s id)
loss_held s id = lost_by s (but_for id s.live) (is_source id s.live) s.phase refl

fenced_by : (s : LayoutState) (p : LayoutPhase) → s.phase ≡ p → HeldBack s (fenced_to s p)
fenced_by s Making is = held_same s
fenced_by s Free is = held_same s
fenced_by s (Held holder recalled) is = held_same s
fenced_by s (Fencing next Clean) is = λ r its. absurd (free_never r its)
fenced_by s (Fencing next Dirty) is = λ r its. absurd (settling_never Replacing r its)
fenced_by s (Fencing next Copied) is = λ r its. absurd (free_never r its)
fenced_by s (Settling copies) is = held_same s
fenced_by s (Copying copier copies) is = held_same s

seen_held : (s : LayoutState) (m : Option FenceMirror) (shown : Option Shown) → HeldBack s (seen_by s m shown)
seen_held s None shown = held_same s
seen_held s (Some m) None = held_same s
seen_held s (Some m) (Some shown) = λ r its. record { held = refl; cred = refl }

source_held : (s : LayoutState) (live : List Mirror) (shown : Option Shown) → HeldBack s (seen_at_source s live shown)
source_held s [] shown = held_same s
source_held s (m ∷ live) None = held_same s
source_held s (m ∷ live) (Some shown) = λ r its. record { held = refl; cred = refl }

-- ---- the rows

module _ (file : FileId) (fresh : Fresh) where
  pub record IsOfOthers (s : LayoutState) (x : FileStep) : Type 0 where
    pub none : NoneOwn x.entries
    pub back : HeldBack s x.file.layout

  stays_apart : (s layout : LayoutState) (a : Activity) → HeldBack s layout → IsOfOthers s (stays layout a)
  stays_apart s layout a back = record { none = tt; back = back }

  asked_apart : (f : MdsFile) (n : ℕ) (p : LayoutPhase) → IsOfOthers f.layout (asked_in file f (Client n) [] fresh p)
  asked_apart f n Making = record { none = tt; back = held_same f.layout }
  asked_apart f n Free =
      cond_both (are_spent fresh) (nothing f)
      (with_entries (granted file f.layout (Client n)).entries (record { file = record { layout = (granted file f.layout (Client n)).file; activity = f.activity }; entries = []; uids = 0; names = 0 })) (IsOfOthers f.layout)
      (λ is. record { none = tt; back = held_same f.layout }) (λ off. record { none = (refl, tt); back = λ r its. absurd (client_never n false r its) })
  asked_apart f n (Held other recalled) = record { none = tt; back = held_same f.layout }
  asked_apart f n (Fencing next end) = record { none = tt; back = held_same f.layout }
  asked_apart f n (Settling copies) = record { none = tt; back = held_same f.layout }
  asked_apart f n (Copying copier copies) = record { none = tt; back = held_same f.layout }

  held_apart : (f : MdsFile) (row : NodeId → FileStep) (p : LayoutPhase) → ((holder : NodeId) → IsOfOthers f.layout (row holder)) → IsOfOthers f.layout (held_in f row p)
  held_apart f row Making all = record { none = tt; back = held_same f.layout }
  held_apart f row Free all = record { none = tt; back = held_same f.layout }
  held_apart f row (Held holder recalled) all = all holder
  held_apart f row (Fencing next end) all = record { none = tt; back = held_same f.layout }
  held_apart f row (Settling copies) all = record { none = tt; back = held_same f.layout }
  held_apart f row (Copying copier copies) all = record { none = tt; back = held_same f.layout }

  client_apart : (f : MdsFile) (row : ℕ → FileStep) → ((n : ℕ) → IsOfOthers f.layout (row n)) → (holder : NodeId) → IsOfOthers f.layout (by_client f row holder)
  client_apart f row all Mds = record { none = tt; back = held_same f.layout }
  client_apart f row all (Server n) = record { none = tt; back = held_same f.layout }
  client_apart f row all (Client n) = all n

  end_none : (cred : Cred) (left : List Entry) (live : List Mirror) → NoneOwn left → NoneOwn (end_entries file cred left Returned live)
  end_none cred left [] none = (refl, tt)
  end_none cred left (m ∷ live) none = none_join left (entry.Ended file cred Returned ∷ []) none (refl, tt)

  left_back : (s : LayoutState) (next : Cred) (live : List Mirror) → HeldBack s (left_with s next live)
  left_back s next [] = λ r its. absurd (fencing_never next Dirty r its)
  left_back s next (m ∷ live) = λ r its. absurd (fencing_never next Clean r its)

  returned_apart : (f : MdsFile) (client : ℕ) (claimed : Cred) (places : List Bool) (holder : ℕ) → IsOfOthers f.layout (returned_row file f client claimed places fresh holder)
  returned_apart f client claimed places holder =
      cond_both (holder == client && (f.layout.cred.0 == claimed.0)) (goes_fencing (returned file f.layout places (a_uid fresh.uid)) fresh.uid) (nothing f) (IsOfOthers f.layout)
      (λ is.
      record {
        none = end_none f.layout.cred (left_entries file (map reported_cause places) f.layout.live) (unreported places f.layout.live) (left_none file (map reported_cause places) f.layout.live);
        back = left_back f.layout (a_uid fresh.uid) (unreported places f.layout.live);
      })
      (λ off. record { none = tt; back = held_same f.layout })

  dirty_none : (cred : Cred) (cause : EndCause) → is_clean cause ≡ false → is_own_entry (entry.Ended file cred cause) ≡ false
  dirty_none cred Returned off = refl
  dirty_none cred Own off = absurd cc
  dirty_none cred AllReported off = refl
  dirty_none cred Recalled off = refl
  dirty_none cred Lease off = refl
  dirty_none cred NoLayout off = refl
  dirty_none cred ClientGone off = refl
  dirty_none cred ReturnedAll off = refl

  revoked_apart : (f : MdsFile) (cause : EndCause) → IsOfOthers f.layout (revoked_row file f cause fresh)
  revoked_apart f cause =
      cond_both (is_clean cause) (nothing f) (goes_fencing (revoked file f.layout cause (a_uid fresh.uid)) fresh.uid) (IsOfOthers f.layout) (λ is. record { none = tt; back = held_same f.layout })
      (λ off. record { none = (dirty_none f.layout.cred cause off, tt); back = λ r its. absurd (fencing_never (a_uid fresh.uid) Dirty r its) })

  resilver_apart : (f : MdsFile) (p : LayoutPhase) → IsOfOthers f.layout (resilvered_in f fresh p)
  resilver_apart f Making = record { none = tt; back = held_same f.layout }
  resilver_apart f Free =
      cond_both (nat_lt (length f.layout.live) f.layout.wanted && (if are_spent fresh then false else true)) (stays (resilvered f.layout) (Settles Waits)) (nothing f) (IsOfOthers f.layout)
      (λ is. record { none = tt; back = λ r its. absurd (settling_never Adding r its) }) (λ off. record { none = tt; back = held_same f.layout })
  resilver_apart f (Held holder recalled) = record { none = tt; back = held_same f.layout }
  resilver_apart f (Fencing next end) = record { none = tt; back = held_same f.layout }
  resilver_apart f (Settling copies) = record { none = tt; back = held_same f.layout }
  resilver_apart f (Copying copier copies) = record { none = tt; back = held_same f.layout }

  -- ---- CREATEs

  module _ (s : LayoutState) where
    on_apart : (layout : LayoutState) (all : Creations) → HeldBack s layout → IsOfOthers s (making_on file layout all)
    on_apart layout all back =
        cond_both (list_all (λ (c : Creation). is_over c.stage) all.items) (goes_idle (made file layout (all_made all)) 0) (stays layout (Makes all)) (IsOfOthers s)
        (λ is. record { none = (refl, tt); back = λ r its. absurd (free_never r its) }) (λ off. stays_apart s layout (Makes all) back)

    making_at_apart : (layout : LayoutState) (all : Creations) (step : Creation → Creation) (place : ℕ) (o : Option Creation) → HeldBack s layout → IsOfOthers s (making_at file layout all step place o)
    making_at_apart layout all step place None back = stays_apart s layout (Makes all) back
    making_at_apart layout all step place (Some c) back = on_apart layout (with_creation all place (step c)) back

    making_apart : (layout : LayoutState) (all : Creations) (step : Creation → Creation) (o : Option ℕ) → HeldBack s layout → IsOfOthers s (making_by file layout all step o)
    making_apart layout all step None back = stays_apart s layout (Makes all) back
    making_apart layout all step (Some place) back = making_at_apart layout all step place (slice_get all.items place) back

    -- ---- a fence

    fence_none : (layout : LayoutState) (p : LayoutPhase) → NoneOwn (fence_entries file layout p)
    fence_none layout Making = tt
    fence_none layout Free = tt
    fence_none layout (Held holder recalled) = tt
    fence_none layout (Fencing next Clean) = (refl, (refl, tt))
    fence_none layout (Fencing next Dirty) = (refl, tt)
    fence_none layout (Fencing next Copied) = (refl, (refl, tt))
    fence_none layout (Settling copies) = tt
    fence_none layout (Copying copier copies) = tt

    fenced_on_apart : (layout : LayoutState) (x : FenceState) → HeldBack s layout → IsOfOthers s (fenced_on file layout x)
    fenced_on_apart layout x back =
        cond_both (is_done x) (goes_on (fence_done file layout)) (stays layout (Fences x)) (IsOfOthers s)
        (λ is. record { none = fence_none layout layout.phase; back = held_then s layout (fenced_to layout layout.phase) back (fenced_by layout layout.phase refl) }) (λ off. stays_apart s layout (Fences x) back)

    fence_apart : (layout : LayoutState) (x : FenceState) (step : FenceStep) → HeldBack s layout → IsOfOthers s (fence_stepped file layout x step)
    fence_apart layout x Stranger back = stays_apart s layout (Fences x) back
    fence_apart layout x Acked back = fenced_on_apart layout x back
    fence_apart layout x Again back = stays_apart s layout (Fences x) back
    fence_apart layout x (HasFailed id cause) back =
        cond_both (is_last_live layout.live) (stays layout (Fences x)) (with_entries (mirror_left file layout id cause).entries (fenced_on file (mirror_left file layout id cause).file (without x id))) (IsOfOthers s)
        (λ is. stays_apart s layout (Fences x) back)
        (λ off. (let rest : IsOfOthers s (fenced_on file (after_loss layout id) (without x id)) = fenced_on_apart (after_loss layout id) (without x id) (held_then s layout (after_loss layout id) back (loss_held layout id)) in record { none = (refl, rest.none); back = rest.back }))

    -- ---- the COMMIT of a source

    leaves_apart : (layout : LayoutState) (live : List Mirror) (cause : LeftCause) (kept : Activity) → HeldBack s layout → IsOfOthers s (source_left file layout live cause kept)
    leaves_apart layout [] cause kept back = stays_apart s layout kept back
    leaves_apart layout (m ∷ live) cause kept back =
        cond_both (is_last_live layout.live) (stays layout kept)
        (record { file = record { layout = (mirror_left file layout m.id cause).file; activity = Settles Waits }; entries = (mirror_left file layout m.id cause).entries; uids = 0; names = 0 }) (IsOfOthers s)
        (λ is. stays_apart s layout kept back) (λ off. record { none = (refl, tt); back = held_then s layout (after_loss layout m.id) back (loss_held layout m.id) })

    commit_apart : (layout : LayoutState) (copies : CopyKind) → IsOfOthers s (settled file layout copies fresh)
    commit_apart layout copies = by_targets (has_targets copies (length layout.live) layout.wanted)
      where
        by_targets : (b : Bool) → IsOfOthers s (cond {A = FileStep} b
            (copying (cond {A = PhaseStep} b (record { file = with_phase layout (Copying (a_uid fresh.uid) copies); entries = [] }) (freed file layout)).file fresh (plan_of copies layout fresh))
            (goes_idle (cond {A = PhaseStep} b (record { file = with_phase layout (Copying (a_uid fresh.uid) copies); entries = [] }) (freed file layout)) 0))
        by_targets true = record { none = tt; back = λ r its. absurd (copying_never (a_uid fresh.uid) copies r its) }
        by_targets false = record { none = (refl, tt); back = λ r its. absurd (free_never r its) }

    settling_apart : (layout : LayoutState) (copies : CopyKind) (reply : DsReplyValue) → HeldBack s layout → IsOfOthers s (settling_answered file layout copies fresh reply)
    settling_apart layout copies (Created fileid shown) back = leaves_apart layout layout.live (Error odd_status) (Settles KeptBack) back
    settling_apart layout copies (Set shown) back = leaves_apart layout layout.live (Error odd_status) (Settles KeptBack) back
    settling_apart layout copies (Written shown verifier) back = leaves_apart layout layout.live (Error odd_status) (Settles KeptBack) back
    settling_apart layout copies (Committed shown verifier) back = commit_apart layout copies
    settling_apart layout copies (Bytes shown eof bytes) back = leaves_apart layout layout.live (Error odd_status) (Settles KeptBack) back
    settling_apart layout copies (NotSync shown) back = leaves_apart layout layout.live (Error odd_status) (Settles KeptBack) back
    settling_apart layout copies (Failed status shown) back = leaves_apart layout layout.live (Error status) (Settles KeptBack) back

    settling_late_apart : (layout : LayoutState) (stage : CallStage) → HeldBack s layout → IsOfOthers s (settling_timed_out file layout stage)
    settling_late_apart layout Waits back = stays_apart s layout (Settles Waits) back
    settling_late_apart layout (Out xid timeouts) back =
        cond_both (nat_lt (timeouts + 1) MAX_TIMEOUTS) (stays layout (Settles (Out xid (timeouts + 1)))) (source_left file layout layout.live Timeouts (Settles (KeptOut xid))) (IsOfOthers s)
        (λ is. stays_apart s layout (Settles (Out xid (timeouts + 1))) back) (λ off. leaves_apart layout layout.live Timeouts (Settles (KeptOut xid)) back)
    settling_late_apart layout (KeptOut xid) back = stays_apart s layout (Settles (KeptOut xid)) back
    settling_late_apart layout KeptBack back = stays_apart s layout (Settles KeptBack) back
    settling_late_apart layout Done back = stays_apart s layout (Settles Done) back
    settling_late_apart layout GivenUp back = stays_apart s layout (Settles GivenUp) back

    -- ---- a copy

    copied_by_apart : (layout : LayoutState) (copier : Cred) (targets : List SwappedIn) → IsOfOthers s (copied_by file layout copier targets fresh)
    copied_by_apart layout copier [] = record { none = (refl, tt); back = λ r its. absurd (free_never r its) }
    copied_by_apart layout copier (t ∷ targets) = record { none = swapped_none file (t ∷ targets); back = λ r its. absurd (fencing_never (a_uid fresh.uid) Copied r its) }

    copied_apart : (layout : LayoutState) (c : CopyState) → HeldBack s layout → IsOfOthers s (copied_on file layout c fresh)
    copied_apart layout c back =
        cond_both (has_outcome c) (copied_by file layout (a_uid c.copier) (swaps_of c) fresh) (stays layout (Copies c)) (IsOfOthers s) (λ is. copied_by_apart layout (a_uid c.copier) (swaps_of c)) (λ off. stays_apart s layout (Copies c) back)

    target_apart : (layout : LayoutState) (c : CopyState) (cause : LeftCause) (o : Option MirrorId) → HeldBack s layout → IsOfOthers s (target_left file layout c fresh cause o)
    target_apart layout c cause None back = copied_apart layout c back
    target_apart layout c cause (Some id) back =
        let rest : IsOfOthers s (copied_on file (after_loss layout id) c fresh) = copied_apart (after_loss layout id) c (held_then s layout (after_loss layout id) back (loss_held layout id)) in
        record { none = (refl, rest.none); back = rest.back }

    copy_apart : (layout : LayoutState) (c : CopyState) (step : CopyStep) → HeldBack s layout → IsOfOthers s (copy_stepped file layout c fresh step)
    copy_apart layout c copy_step.Stranger back = stays_apart s layout (Copies c) back
    copy_apart layout c copy_step.Waiting back = stays_apart s layout (Copies c) back
    copy_apart layout c (copy_step.SourceFailed cause) back = leaves_apart layout layout.live cause (Copies c) back
    copy_apart layout c (copy_step.TargetFailed server replaced cause) back = target_apart layout c cause replaced back
    copy_apart layout c copy_step.Done back = copied_apart layout c back

    settles_apart : (f : MdsFile) (row : CopyKind → FileStep) (o : Option CopyKind) → HeldBack s f.layout → ((copies : CopyKind) → IsOfOthers s (row copies)) → IsOfOthers s (settles_by f row o)
    settles_apart f row None back all = record { none = tt; back = back }
    settles_apart f row (Some copies) back all = all copies

  -- ---- answers and timeouts

  answered_apart : (f : MdsFile) (xid : ℕ) (reply : DsReplyValue) (a : Activity) → IsOfOthers f.layout (answered_in file f xid reply fresh a)
  answered_apart f xid reply Idle = record { none = tt; back = held_same f.layout }
  answered_apart f xid reply (Makes all) = making_apart f.layout f.layout all (λ c. creation_answered all c reply) (creation_of all xid) (held_same f.layout)
  answered_apart f xid reply (Fences x) =
      fence_apart f.layout (seen_by f.layout (mirror_at x (outstanding_at x xid)) (shown_by_set reply)) (on_reply x xid reply).fence (on_reply x xid reply).step (seen_held f.layout (mirror_at x (outstanding_at x xid)) (shown_by_set reply))
  answered_apart f xid reply (Settles stage) =
      let layout : LayoutState = seen_at_source f.layout f.layout.live (shown_by_commit reply) in
      cond_both (is_out xid stage) (settles_by f (λ copies. settling_answered file layout copies fresh reply) (kind_of f.layout.phase)) (nothing f) (IsOfOthers f.layout)
      (λ is.
      settles_apart f.layout f (λ copies. settling_answered file layout copies fresh reply) (kind_of f.layout.phase) (held_same f.layout)
      (λ copies. settling_apart f.layout layout copies reply (source_held f.layout f.layout.live (shown_by_commit reply)))) (λ off. record { none = tt; back = held_same f.layout })
  answered_apart f xid reply (Copies c) = copy_apart f.layout f.layout (copy.on_reply c xid reply).copy (copy.on_reply c xid reply).step (held_same f.layout)

  late_apart : (f : MdsFile) (xid : ℕ) (a : Activity) → IsOfOthers f.layout (timed_out_in file f xid fresh a)
  late_apart f xid Idle = record { none = tt; back = held_same f.layout }
  late_apart f xid (Makes all) = making_apart f.layout f.layout all (creation_timed_out all) (creation_of all xid) (held_same f.layout)
  late_apart f xid (Fences x) = fence_apart f.layout f.layout (on_timeout x xid).fence (on_timeout x xid).step (held_same f.layout)
  late_apart f xid (Settles stage) =
      cond_both (is_out xid stage) (settling_timed_out file f.layout stage) (nothing f) (IsOfOthers f.layout) (λ is. settling_late_apart f.layout f.layout stage (held_same f.layout)) (λ off. record { none = tt; back = held_same f.layout })
  late_apart f xid (Copies c) = copy_apart f.layout f.layout (copy.on_timeout c xid).copy (copy.on_timeout c xid).step (held_same f.layout)

  pub other_apart : (f : MdsFile) (input : FileInput) → is_own_input input ≡ false → IsOfOthers f.layout (phase file f input fresh)
  other_apart f (AsksLayout client) other = asked_apart f client f.layout.phase
  other_apart f (OwnWrite at bytes) other = absurd cc
  other_apart f Recall other =
      held_apart f (by_client f (recalled_row f)) f.layout.phase (client_apart f (recalled_row f) (λ n. record { none = tt; back = λ r its. absurd (client_never n true r its) }))
  other_apart f (Returns client claimed places) other =
      held_apart f (by_client f (returned_row file f client claimed places fresh)) f.layout.phase (client_apart f (returned_row file f client claimed places fresh) (λ n. returned_apart f client claimed places n))
  other_apart f (Revokes cause) other = held_apart f (by_client f (λ client. revoked_row file f cause fresh)) f.layout.phase (client_apart f (λ client. revoked_row file f cause fresh) (λ n. revoked_apart f cause))
  other_apart f (OwnEnds causes at bytes) other = absurd cc
  other_apart f Resilver other = resilver_apart f f.layout.phase
  other_apart f (Answers xid reply) other = answered_apart f xid reply f.activity
  other_apart f (TimesOut xid) other = late_apart f xid f.activity
  other_apart f Ticks other = record { none = tt; back = held_same f.layout }
  other_apart f (Sees id seen) other = record { none = tt; back = λ r its. record { held = refl; cred = refl } }
