-- Each step of the table of phases has its kind.
use Rattle.std.proofs.Common.{◌≡◌, ℕ, ◌+◌, ◌⊎◌, Bool, true, false, eqb, ltb, cond, ◌&&◌, List, [], ◌∷◌, ◌++◌, length, map, Option, Some, None, is_some, refl, sym, ap, subst, ◌∙◌, inl, inr}
use Rattle.std.specs.Prelude.{slice_get}
use Rattle.std.specs.List.{AllByRecursion, list_all}
use Rattle.std.proofs.lemmas.Bool.{cond_both}
use Rattle.std.proofs.lemmas.Option.{same_Some}
use Rattle.cluster_model.specs.declared.ids.NodeId.{NodeId}
use Rattle.cluster_model.specs.declared.ids.NodeId.TheVariants.{Mds, Server, Client}
use Rattle.cluster_model.specs.declared.ids.Cred.{Cred}
use Rattle.cluster_model.specs.declared.ids.MirrorId.{MirrorId}
use Rattle.cluster_model.specs.declared.ids.Mirror.{Mirror}
use Rattle.cluster_model.specs.declared.phase.EndCause.{EndCause}
use Rattle.cluster_model.specs.declared.phase.EndCause.TheVariants.{Returned, Own, AllReported}
use Rattle.cluster_model.specs.declared.phase.LeftCause.{LeftCause}
use Rattle.cluster_model.specs.declared.phase.LeftCause.TheVariants.{Error, Timeouts}
use Rattle.cluster_model.specs.declared.entry.Entry.{Entry}
use Rattle.cluster_model.specs.declared.entry.Entry.TheVariants as entry
use Rattle.cluster_model.specs.declared.tick.Tick.{Tick}
use Rattle.cluster_model.specs.declared.ds_call.Shown.{Shown}
use Rattle.cluster_model.specs.declared.call_stage.CallStage.{CallStage}
use Rattle.cluster_model.specs.declared.call_stage.CallStage.TheVariants.{Waits, Out, KeptOut, KeptBack, Done, GivenUp}
use Rattle.cluster_model.specs.declared.fence_mirror.FenceMirror.{FenceMirror}
use Rattle.cluster_model.specs.declared.fence_mirror.FenceStep.{FenceStep}
use Rattle.cluster_model.specs.declared.fence_mirror.FenceStep.TheVariants.{Stranger, Acked, Again, Failed as HasFailed}
use Rattle.cluster_model.specs.declared.layout_state.LayoutState.{LayoutState}
use Rattle.cluster_model.specs.declared.layout_state.LayoutPhase.{LayoutPhase}
use Rattle.cluster_model.specs.declared.layout_state.LayoutPhase.TheVariants.{Making, Free, Held, Fencing, Settling, Copying}
use Rattle.cluster_model.specs.declared.layout_state.FenceEnd.{FenceEnd}
use Rattle.cluster_model.specs.declared.layout_state.FenceEnd.TheVariants.{Clean, Dirty}
use Rattle.cluster_model.specs.declared.layout_state.CopyKind.{CopyKind}
use Rattle.cluster_model.specs.declared.targets.SwappedIn.{SwappedIn}
use Rattle.cluster_model.specs.DsCalls.{DsReplyValue, Created, Set, Written, Committed, Bytes, NotSync, Failed}
use Rattle.cluster_model.specs.Fences.{is_out, is_over, stage_at_tick, odd_status, FenceState, fence_of, MirrorStep, FenceAfter, step_at, step_from, outstanding_at, is_done, without}
use Rattle.cluster_model.specs.Fences as fences
use Rattle.cluster_model.specs.Phases.{unreported, left_entries, seen_at, is_last_live, is_source, is_clean, with_phase, with_live, after_loss, phase_without, granted, reported_cause, returned, revoked, left_with, end_entries, fenced_to, fence_entries, fence_done, freed, made, has_targets, resilvered}
use Rattle.copy_rule.specs.Copies.{CopyState, swaps_of, has_outcome, on_reply, on_timeout}
use Rattle.copy_rule.specs.declared.copy_target.CopyStep.{CopyStep}
use Rattle.copy_rule.specs.declared.copy_target.CopyStep.TheVariants as copy_step
use Rattle.file_rule.specs.MdsFiles.{Creations, Activity, Idle, Makes, Fences, Settles, Copies, MdsFile, FileStep, nothing, stays, a_uid, goes_idle, goes_fencing, goes_on, with_entries, fenced_on, fence_stepped, shown_by_set, seen_by, mirror_at, with_creation, creation_of, creation_answered, creation_timed_out, making_at, making_by, all_made, plan_of, copying, settled, source_left, shown_by_commit, seen_at_source, settling_answered, settling_timed_out, copied_by, copied_on, target_left, copy_stepped}
use Rattle.file_rule.specs.declared.creation.Creation.{Creation}
use Rattle.file_rule.specs.declared.fresh.Fresh.{Fresh}
use Rattle.file_rule.specs.FilePhases.{FileInput, AsksLayout, OwnWrite, Recall, Returns, Revokes, OwnEnds, Resilver, Answers, TimesOut, Ticks, Sees, are_spent, asked_in, held_in, by_client, by_mds, recalled_row, returned_row, revoked_row, own_row, resilvered_in, kind_of, settles_by, answered_in, timed_out_in, ticked, all_at_tick, phase}
use Rattle.cluster_laws.specs.Machine.{file_id}
use Rattle.cluster_laws.proofs.Lists.{all_append}
use Rattle.cluster_laws.proofs.Lives.{ids_seen}
use Rattle.cluster_laws.proofs.Invariant.{Net, IsNotSource, is_idle, IsBusyWith, IsFile}
use Rattle.cluster_laws.proofs.PeriodCopies.{Tells, reply_step, timeout_step}
use Rattle.machine_walk.proofs.StepKinds.{lost_by, BeginsWithLoss, IsAlike, IsLeaving, OneLeft, OneTold, IsTakenWith, NoWrite, OneWrite, copy_turned, IsSettledBy, StepKind, Rests, Learnt, Recalled, Grants, Ends, Resilvers, MakingTurns, MakingDone, FenceTurns, FenceLoses, FenceDone, SettleTurns, SettleLoses, SettleFrees, CopyBegins, CopyTurns, CopyLoses, TargetLost, CopyFrees, CopySwaps}

alike_seen : (s : LayoutState) (id : MirrorId) (seen : Tick) → IsAlike s (with_live s (seen_at id seen s.live))
alike_seen s id seen = record { wanted = refl; cred = refl; phase = refl; ids = ids_seen id seen s.live }

alike_same : (s : LayoutState) → IsAlike s s
alike_same s = record { wanted = refl; cred = refl; phase = refl; ids = refl }

left_leaving : (n : ℕ) (causes : List (Option LeftCause)) (live : List Mirror) → AllByRecursion (IsLeaving n) (left_entries (file_id n) causes live)
left_leaving n causes [] = tt
left_leaving n [] (m ∷ live) = tt
left_leaving n (None ∷ causes) (m ∷ live) = left_leaving n causes live
left_leaving n (Some cause ∷ causes) (m ∷ live) = (OneLeft m.id cause, left_leaving n causes live)

-- a fence keeps its uid
fence_cred : (fence : FenceState) (step : FenceMirror → MirrorStep) (found : Option ℕ) → (step_from fence step found).fence.cred ≡ fence.cred
fence_cred fence step None = refl
fence_cred fence step (Some place) = at_place (slice_get fence.mirrors place)
  where
    at_place : (got : Option FenceMirror) → (step_at fence step place got).fence.cred ≡ fence.cred
    at_place None = refl
    at_place (Some m) = refl

-- with calls under way nobody asks for a file, and nobody gives it back
none_asked : (file : _) (f : MdsFile) (holder : NodeId) (entries : List Entry) (fresh : Fresh) (p : LayoutPhase) → is_idle p ≡ false → asked_in file f holder entries fresh p ≡ nothing f
none_asked file f holder entries fresh Making off = refl
none_asked file f holder entries fresh Free off = absurd cc
none_asked file f holder entries fresh (Held other is_recalled) off = refl
none_asked file f holder entries fresh (Fencing next end) off = refl
none_asked file f holder entries fresh (Settling copies) off = refl
none_asked file f holder entries fresh (Copying copier copies) off = refl

none_held : (f : MdsFile) (row : NodeId → FileStep) (p : LayoutPhase) → is_idle p ≡ false → held_in f row p ≡ nothing f
none_held f row Making off = refl
none_held f row Free off = refl
none_held f row (Held other is_recalled) off = absurd cc
none_held f row (Fencing next end) off = refl
none_held f row (Settling copies) off = refl
none_held f row (Copying copier copies) off = refl

none_resilvered : (f : MdsFile) (fresh : Fresh) (p : LayoutPhase) → is_idle p ≡ false → resilvered_in f fresh p ≡ nothing f
none_resilvered f fresh Making off = refl
none_resilvered f fresh Free off = absurd cc
none_resilvered f fresh (Held other is_recalled) off = refl
none_resilvered f fresh (Fencing next end) off = refl
none_resilvered f fresh (Settling copies) off = refl
none_resilvered f fresh (Copying copier copies) off = refl

module _ (n : ℕ) (fresh : Fresh) (input : FileInput) where
  abbrev Kind : LayoutState → Activity → FileStep → Type 0
  Kind s a x = StepKind n fresh input s a x

  -- ---- Free and Held

  module _ (s : LayoutState) where
    abbrev f : MdsFile
    f = record { layout = s; activity = Idle }

    rests : Kind s Idle (nothing f)
    rests = Rests s Idle

    asked_kind : (holder : NodeId) (entries : List Entry) → IsTakenWith n s.cred entries → (p : LayoutPhase) → s.phase ≡ p → Kind s Idle (asked_in (file_id n) f holder entries fresh p)
    asked_kind holder entries taken Making is = rests
    asked_kind holder entries taken Free is =
        cond_both (are_spent fresh) (nothing f) (with_entries (granted (file_id n) s holder).entries (record { file = record { layout = (granted (file_id n) s holder).file; activity = Idle }; entries = entries; uids = 0; names = 0 })) (Kind s Idle)
        (λ e. rests) (λ e. Grants s holder entries is taken)
    asked_kind holder entries taken (Held other is_recalled) is = rests
    asked_kind holder entries taken (Fencing next end) is = rests
    asked_kind holder entries taken (Settling copies) is = rests
    asked_kind holder entries taken (Copying copier copies) is = rests

    resilver_kind : (p : LayoutPhase) → s.phase ≡ p → Kind s Idle (resilvered_in f fresh p)
    resilver_kind Making is = rests
    resilver_kind Free is = cond_both (ltb (length s.live) s.wanted && (cond (are_spent fresh) false true)) (stays (resilvered s) (Settles Waits)) (nothing f) (Kind s Idle) (λ e. Resilvers s is) (λ e. rests)
    resilver_kind (Held holder is_recalled) is = rests
    resilver_kind (Fencing next end) is = rests
    resilver_kind (Settling copies) is = rests
    resilver_kind (Copying copier copies) is = rests

    held_kind : (row : NodeId → FileStep) → ((holder : NodeId) (is_recalled : Bool) → s.phase ≡ Held holder is_recalled → Kind s Idle (row holder)) → (p : LayoutPhase) → s.phase ≡ p → Kind s Idle (held_in f row p)
    held_kind row ok Making is = rests
    held_kind row ok Free is = rests
    held_kind row ok (Held holder is_recalled) is = ok holder is_recalled is
    held_kind row ok (Fencing next end) is = rests
    held_kind row ok (Settling copies) is = rests
    held_kind row ok (Copying copier copies) is = rests

    client_kind : (row : ℕ → FileStep) → ((client : ℕ) → Kind s Idle (row client)) → (holder : NodeId) → Kind s Idle (by_client f row holder)
    client_kind row ok Mds = rests
    client_kind row ok (Server k) = rests
    client_kind row ok (Client k) = ok k

    mds_kind : (row : FileStep) → Kind s Idle row → (holder : NodeId) → Kind s Idle (by_mds f row holder)
    mds_kind row ok Mds = ok
    mds_kind row ok (Server k) = rests
    mds_kind row ok (Client k) = rests

    recall_kind : Kind s Idle (held_in f (by_client f (recalled_row f)) s.phase)
    recall_kind = held_kind (by_client f (recalled_row f)) by_holder s.phase refl
      where
        by_holder : (holder : NodeId) (is_recalled : Bool) → s.phase ≡ Held holder is_recalled → Kind s Idle (by_client f (recalled_row f) holder)
        by_holder Mds is_recalled is = rests
        by_holder (Server k) is_recalled is = rests
        by_holder (Client k) is_recalled is = Recalled s (Client k) is_recalled is

    ends_kind : (holder : NodeId) (is_recalled : Bool) → s.phase ≡ Held holder is_recalled → (left : List Entry) → AllByRecursion (IsLeaving n) left → (cause : EndCause) → is_clean cause ≡ true → (places : List Bool) (kept : List Mirror) → kept ≡ unreported places s.live
        → Kind s Idle (goes_fencing (record { file = left_with s (a_uid fresh.uid) kept; entries = end_entries (file_id n) s.cred left cause kept }) fresh.uid)
    ends_kind holder is_recalled is left leaving cause clean places [] kept_is = Ends s holder is_recalled [] AllReported s.live Dirty is tt tt (inl refl)
    ends_kind holder is_recalled is left leaving cause clean places (m ∷ kept) kept_is = Ends s holder is_recalled left cause (m ∷ kept) Clean is leaving clean (inr (places, kept_is))

    return_kind : (client : ℕ) (claimed : Cred) (places : List Bool) → Kind s Idle (held_in f (by_client f (returned_row (file_id n) f client claimed places fresh)) s.phase)
    return_kind client claimed places =
        held_kind (by_client f (returned_row (file_id n) f client claimed places fresh)) (λ holder is_recalled is. client_kind (returned_row (file_id n) f client claimed places fresh) (λ k. returns holder is_recalled is k) holder) s.phase refl
      where
        returns : (holder : NodeId) (is_recalled : Bool) → s.phase ≡ Held holder is_recalled → (k : ℕ) → Kind s Idle (returned_row (file_id n) f client claimed places fresh k)
        returns holder is_recalled is k =
            cond_both (eqb k client && (eqb s.cred.0 claimed.0)) (goes_fencing (returned (file_id n) s places (a_uid fresh.uid)) fresh.uid) (nothing f) (Kind s Idle)
            (λ e. ends_kind holder is_recalled is (left_entries (file_id n) (map reported_cause places) s.live) (left_leaving n (map reported_cause places) s.live) Returned refl places (unreported places s.live) refl) (λ e. rests)

    revoke_kind : (cause : EndCause) → Kind s Idle (held_in f (by_client f (λ client. revoked_row (file_id n) f cause fresh)) s.phase)
    revoke_kind cause =
        held_kind (by_client f (λ client. revoked_row (file_id n) f cause fresh)) (λ holder is_recalled is. client_kind (λ client. revoked_row (file_id n) f cause fresh) (λ k. revokes holder is_recalled is) holder) s.phase refl
      where
        revokes : (holder : NodeId) (is_recalled : Bool) → s.phase ≡ Held holder is_recalled → Kind s Idle (revoked_row (file_id n) f cause fresh)
        revokes holder is_recalled is =
            cond_both (is_clean cause) (nothing f) (goes_fencing (revoked (file_id n) s cause (a_uid fresh.uid)) fresh.uid) (Kind s Idle) (λ e. rests)
            (λ e. Ends s holder is_recalled [] cause s.live Dirty is tt tt (inl refl))

    own_kind : (causes : List (Option LeftCause)) (at : ℕ) (bytes : List ℕ) → Kind s Idle (held_in f (by_mds f (own_row (file_id n) f causes (entry.Told (file_id n) s.cred at bytes) fresh)) s.phase)
    own_kind causes at bytes =
        let told : Entry = entry.Told (file_id n) s.cred at bytes in
        held_kind (by_mds f (own_row (file_id n) f causes told fresh))
        (λ holder is_recalled is. mds_kind (own_row (file_id n) f causes told fresh)
        (ends_kind holder is_recalled is (left_entries (file_id n) causes s.live ++ told ∷ []) (all_append (IsLeaving n) (left_entries (file_id n) causes s.live) (told ∷ []) (left_leaving n causes s.live) (OneTold s.cred at bytes, tt)) Own refl (map is_some causes) (unreported (map is_some causes) s.live) refl) holder) s.phase refl

  -- ---- Making

  making_kind : (s : LayoutState) (all : Creations) → s.phase ≡ Making → (step : Creation → Creation) (found : Option ℕ) → Kind s (Makes all) (making_by (file_id n) s all step found)
  making_kind s all phase step None = Rests s (Makes all)
  making_kind s all phase step (Some place) = at_place (slice_get all.items place)
    where
      at_place : (got : Option Creation) → Kind s (Makes all) (making_at (file_id n) s all step place got)
      at_place None = Rests s (Makes all)
      at_place (Some c) =
          let then : Creations = with_creation all place (step c) in
          MakingTurns s all then _ refl
          (cond_both (list_all (λ x. is_over x.stage) then.items) (goes_idle (made (file_id n) s (all_made then)) 0) (stays s (Makes then)) (Kind s (Makes then)) (λ e. MakingDone s then phase) (λ e. Rests s (Makes then)))

  -- ---- Fencing

  fenced_kind : (s : LayoutState) (fence : FenceState) (next : Cred) (end : FenceEnd) → s.phase ≡ Fencing next end → next.0 ≡ fence.cred → Kind s (Fences fence) (fenced_on (file_id n) s fence)
  fenced_kind s fence next end phase fresh_is =
      cond_both (is_done fence) (goes_on (fence_done (file_id n) s)) (stays s (Fences fence)) (Kind s (Fences fence))
      (λ e. subst (λ (p : LayoutPhase). Kind s (Fences fence) (goes_on (record { file = fenced_to s p; entries = fence_entries (file_id n) s p }))) (sym phase) (FenceDone s fence next end phase fresh_is e))
      (λ e. Rests s (Fences fence))

  fence_kind : (s : LayoutState) (fence : FenceState) (next : Cred) (end : FenceEnd) → s.phase ≡ Fencing next end → next.0 ≡ fence.cred → (step : FenceStep) → Kind s (Fences fence) (fence_stepped (file_id n) s fence step)
  fence_kind s fence next end phase fresh_is Stranger = Rests s (Fences fence)
  fence_kind s fence next end phase fresh_is Acked = fenced_kind s fence next end phase fresh_is
  fence_kind s fence next end phase fresh_is Again = Rests s (Fences fence)
  fence_kind s fence next end phase fresh_is (HasFailed id cause) =
      cond_both (is_last_live s.live) (stays s (Fences fence)) (with_entries (entry.Left (file_id n) id cause ∷ []) (fenced_on (file_id n) (after_loss s id) (without fence id))) (Kind s (Fences fence))
      (λ e. Rests s (Fences fence))
      (λ e. FenceLoses s fence id cause _ e (FenceTurns (after_loss s id) fence (without fence id) _ refl (fenced_kind (after_loss s id) (without fence id) next end (ap (λ (p : LayoutPhase). phase_without p (is_source id s.live)) phase) fresh_is)))

  seen_kind : (s : LayoutState) (a : Activity) (got : Option FenceMirror) (shown : Option Shown) → IsAlike s (seen_by s got shown)
  seen_kind s a None shown = alike_same s
  seen_kind s a (Some m) None = alike_same s
  seen_kind s a (Some m) (Some shown) = alike_seen s m.id shown.seen

  -- ---- Settling

  loses_kind : (s : LayoutState) (stage : CallStage) (cause : LeftCause) (kept : CallStage) → ((xid : ℕ) → is_out xid kept ≡ true → is_out xid stage ≡ true) → (live : List Mirror) → s.live ≡ live → Kind s (Settles stage) (source_left (file_id n) s live cause (Settles kept))
  loses_kind s stage cause kept outs [] is = SettleTurns s stage kept _ outs (Rests s (Settles kept))
  loses_kind s stage cause kept outs (m ∷ live) is =
      cond_both (is_last_live s.live) (stays s (Settles kept)) (record { file = record { layout = after_loss s m.id; activity = Settles Waits }; entries = entry.Left (file_id n) m.id cause ∷ []; uids = 0; names = 0 }) (Kind s (Settles stage))
      (λ e. SettleTurns s stage kept _ outs (Rests s (Settles kept))) (λ e. SettleLoses s stage m live cause is e)

  settled_kind : (s : LayoutState) (stage : CallStage) (copies : CopyKind) → s.phase ≡ Settling copies → IsSettledBy input stage → Kind s (Settles stage) (settled (file_id n) s copies fresh)
  settled_kind s stage copies phase by = by_targets (has_targets copies (length s.live) s.wanted) refl
    where
      by_targets : (b : Bool) → has_targets copies (length s.live) s.wanted ≡ b
          → Kind s (Settles stage) (cond b (copying (cond b (record { file = with_phase s (Copying (a_uid fresh.uid) copies); entries = [] }) (freed (file_id n) s)).file fresh (plan_of copies s fresh)) (goes_idle (cond b (record { file = with_phase s (Copying (a_uid fresh.uid) copies); entries = [] }) (freed (file_id n) s)) 0))
      by_targets true e = CopyBegins s stage copies phase e by
      by_targets false e = SettleFrees s stage copies phase e by

  kept_back : (stage : CallStage) (xid : ℕ) → is_out xid KeptBack ≡ true → is_out xid stage ≡ true
  kept_back stage xid e = absurd cc

  answer_kind : (s : LayoutState) (stage : CallStage) (copies : CopyKind) → s.phase ≡ Settling copies → (xid : ℕ) (reply : DsReplyValue) → input ≡ Answers xid reply → is_out xid stage ≡ true → Kind s (Settles stage) (settling_answered (file_id n) s copies fresh reply)
  answer_kind s stage copies phase xid (Created fileid shown) is out = loses_kind s stage (Error odd_status) KeptBack (kept_back stage) s.live refl
  answer_kind s stage copies phase xid (Set shown) is out = loses_kind s stage (Error odd_status) KeptBack (kept_back stage) s.live refl
  answer_kind s stage copies phase xid (Written shown verifier) is out = loses_kind s stage (Error odd_status) KeptBack (kept_back stage) s.live refl
  answer_kind s stage copies phase xid (Committed shown verifier) is out = settled_kind s stage copies phase (record { xid = xid; shown = shown; verifier = verifier; answers = is; out = out })
  answer_kind s stage copies phase xid (Bytes shown eof bytes) is out = loses_kind s stage (Error odd_status) KeptBack (kept_back stage) s.live refl
  answer_kind s stage copies phase xid (NotSync shown) is out = loses_kind s stage (Error odd_status) KeptBack (kept_back stage) s.live refl
  answer_kind s stage copies phase xid (Failed status shown) is out = loses_kind s stage (Error status) KeptBack (kept_back stage) s.live refl

  late_kind : (s : LayoutState) (stage : CallStage) → Kind s (Settles stage) (settling_timed_out (file_id n) s stage)
  late_kind s Waits = Rests s (Settles Waits)
  late_kind s (Out xid timeouts) =
      cond_both (ltb (timeouts + 1) 3) (stays s (Settles (Out xid (timeouts + 1)))) (source_left (file_id n) s s.live Timeouts (Settles (KeptOut xid))) (Kind s (Settles (Out xid timeouts)))
      (λ e. SettleTurns s (Out xid timeouts) (Out xid (timeouts + 1)) _ (λ k o. o) (Rests s (Settles (Out xid (timeouts + 1))))) (λ e. loses_kind s (Out xid timeouts) Timeouts (KeptOut xid) (λ k o. o) s.live refl)
  late_kind s (KeptOut xid) = Rests s (Settles (KeptOut xid))
  late_kind s KeptBack = Rests s (Settles KeptBack)
  late_kind s Done = Rests s (Settles Done)
  late_kind s GivenUp = Rests s (Settles GivenUp)

  source_alike : (s : LayoutState) (live : List Mirror) (shown : Option Shown) → IsAlike s (seen_at_source s live shown)
  source_alike s [] shown = alike_same s
  source_alike s (m ∷ live) None = alike_same s
  source_alike s (m ∷ live) (Some shown) = alike_seen s m.id shown.seen

  -- ---- Copying

  module _ (s : LayoutState) where
    copied_kind : (c : CopyState) (by : Cred) (copies : CopyKind) → s.phase ≡ Copying by copies → Kind s (Copies c) (copied_on (file_id n) s c fresh)
    copied_kind c by copies phase = cond_both (has_outcome c) (copied_by (file_id n) s (a_uid c.copier) (swaps_of c) fresh) (stays s (Copies c)) (Kind s (Copies c)) (λ e. by_targets e (swaps_of c) refl) (λ e. Rests s (Copies c))
      where
        by_targets : has_outcome c ≡ true → (targets : List SwappedIn) → swaps_of c ≡ targets → Kind s (Copies c) (copied_by (file_id n) s (a_uid c.copier) targets fresh)
        by_targets e [] is = CopyFrees s c by copies phase e is
        by_targets e (t ∷ targets) is = CopySwaps s c by copies phase t targets e is

    lost_source : (c : CopyState) (cause : LeftCause) (live : List Mirror) → s.live ≡ live → Kind s (Copies c) (source_left (file_id n) s live cause (Copies c))
    lost_source c cause [] is = Rests s (Copies c)
    lost_source c cause (m ∷ live) is =
        cond_both (is_last_live s.live) (stays s (Copies c)) (record { file = record { layout = after_loss s m.id; activity = Settles Waits }; entries = entry.Left (file_id n) m.id cause ∷ []; uids = 0; names = 0 }) (Kind s (Copies c))
        (λ e. Rests s (Copies c)) (λ e. CopyLoses s c m live cause is e)

  lost_target : (s : LayoutState) (c : CopyState) (by : Cred) (copies : CopyKind) → s.phase ≡ Copying by copies → (cause : LeftCause) (replaced : Option MirrorId) → IsNotSource s.live replaced → Kind s (Copies c) (target_left (file_id n) s c fresh cause replaced)
  lost_target s c by copies phase cause None other = copied_kind s c by copies phase
  lost_target s c by copies phase cause (Some id) other =
      TargetLost s c id cause _ other (copied_kind (after_loss s id) c by copies (ap (λ (p : LayoutPhase). phase_without p (is_source id s.live)) phase ∙ ap (λ (b : Bool). phase_without (Copying by copies) b) other))

  copy_kind : (s : LayoutState) (c : CopyState) (by : Cred) (copies : CopyKind) → s.phase ≡ Copying by copies → (step : CopyStep) → Tells s.live step → Kind s (Copies c) (copy_stepped (file_id n) s c fresh step)
  copy_kind s c by copies phase copy_step.Stranger k = Rests s (Copies c)
  copy_kind s c by copies phase copy_step.Waiting k = Rests s (Copies c)
  copy_kind s c by copies phase (copy_step.SourceFailed cause) k = lost_source s c cause s.live refl
  copy_kind s c by copies phase (copy_step.TargetFailed server replaced cause) k = lost_target s c by copies phase cause replaced k
  copy_kind s c by copies phase copy_step.Done k = copied_kind s c by copies phase

  -- a mirror whose target was given up leaves
  loss_shown : (s : LayoutState) (c : CopyState) (step : CopyStep) (id : MirrorId) → lost_by step ≡ Some id → BeginsWithLoss id (copy_stepped (file_id n) s c fresh step).entries
  loss_shown s c copy_step.Stranger id e = absurd cc
  loss_shown s c copy_step.Waiting id e = absurd cc
  loss_shown s c (copy_step.SourceFailed cause) id e = absurd cc
  loss_shown s c (copy_step.TargetFailed server None cause) id e = absurd cc
  loss_shown s c (copy_step.TargetFailed server (Some gone) cause) id e = same_Some gone id e
  loss_shown s c copy_step.Done id e = absurd cc

-- ---- every step

module _ (n : ℕ) (fresh : Fresh) (net : Net) (journal : List Entry) (s : LayoutState) where
  answered_kind : (xid : ℕ) (reply : DsReplyValue) (a : Activity) → IsFile net journal n (record { layout = s; activity = a }) → StepKind n fresh (Answers xid reply) s a (answered_in (file_id n) (record { layout = s; activity = a }) xid reply fresh a)
  answered_kind xid reply Idle h = Rests s Idle
  answered_kind xid reply (Makes all) h = making_kind n fresh (Answers xid reply) s all h.busy.phase (λ c. creation_answered all c reply) (creation_of all xid)
  answered_kind xid reply (Fences fence) h =
      let seen : LayoutState = seen_by s (mirror_at fence (outstanding_at fence xid)) (shown_by_set reply) in
      let alike = seen_kind n fresh (Answers xid reply) s Idle (mirror_at fence (outstanding_at fence xid)) (shown_by_set reply) in
      let same = fence_cred fence (λ m. fences.answered fence.cred m reply) (outstanding_at fence xid) in
      Learnt s seen (Fences fence) _ alike
      (FenceTurns seen fence (fences.on_reply fence xid reply).fence _ same
      (fence_kind n fresh (Answers xid reply) seen (fences.on_reply fence xid reply).fence h.busy.next h.busy.end (alike.phase ∙ h.busy.phase) (h.busy.fresh ∙ sym same) (fences.on_reply fence xid reply).step))
  answered_kind xid reply (Settles stage) h =
      let seen : LayoutState = seen_at_source s s.live (shown_by_commit reply) in
      let alike = source_alike n fresh (Answers xid reply) s s.live (shown_by_commit reply) in
      cond_both (is_out xid stage) (settles_by (record { layout = s; activity = Settles stage }) (λ copies. settling_answered (file_id n) seen copies fresh reply) (kind_of s.phase)) (nothing (record { layout = s; activity = Settles stage })) (StepKind n fresh (Answers xid reply) s (Settles stage))
      (λ e. subst (λ (kind : Option CopyKind). StepKind n fresh (Answers xid reply) s (Settles stage) (settles_by (record { layout = s; activity = Settles stage }) (λ copies. settling_answered (file_id n) seen copies fresh reply) kind)) (sym (ap kind_of h.busy.phase))
      (Learnt s seen (Settles stage) _ alike (answer_kind n fresh (Answers xid reply) seen stage h.busy.copies (alike.phase ∙ h.busy.phase) xid reply refl e)))
      (λ e. Rests s (Settles stage))
  answered_kind xid reply (Copies c) h =
      CopyTurns s c _ (copy_kind n fresh (Answers xid reply) s (on_reply c xid reply).copy h.busy.copier h.busy.copies h.busy.phase (on_reply c xid reply).step (reply_step s.live c h.busy.sources xid reply).tells) (loss_shown n fresh (Answers xid reply) s (on_reply c xid reply).copy (on_reply c xid reply).step)

  timed_kind : (xid : ℕ) (a : Activity) → IsFile net journal n (record { layout = s; activity = a }) → StepKind n fresh (TimesOut xid) s a (timed_out_in (file_id n) (record { layout = s; activity = a }) xid fresh a)
  timed_kind xid Idle h = Rests s Idle
  timed_kind xid (Makes all) h = making_kind n fresh (TimesOut xid) s all h.busy.phase (creation_timed_out all) (creation_of all xid)
  timed_kind xid (Fences fence) h =
      let same = fence_cred fence fences.timed_out (outstanding_at fence xid) in
      FenceTurns s fence (fences.on_timeout fence xid).fence _ same
      (fence_kind n fresh (TimesOut xid) s (fences.on_timeout fence xid).fence h.busy.next h.busy.end h.busy.phase (h.busy.fresh ∙ sym same) (fences.on_timeout fence xid).step)
  timed_kind xid (Settles stage) h =
      cond_both (is_out xid stage) (settling_timed_out (file_id n) s stage) (nothing (record { layout = s; activity = Settles stage })) (StepKind n fresh (TimesOut xid) s (Settles stage)) (λ e. late_kind n fresh (TimesOut xid) s stage) (λ e. Rests s (Settles stage))
  timed_kind xid (Copies c) h =
      CopyTurns s c _ (copy_kind n fresh (TimesOut xid) s (on_timeout c xid).copy h.busy.copier h.busy.copies h.busy.phase (on_timeout c xid).step (timeout_step s.live c h.busy.sources xid).tells) (loss_shown n fresh (TimesOut xid) s (on_timeout c xid).copy (on_timeout c xid).step)

  at_tick : (stage : CallStage) (xid : ℕ) → is_out xid (stage_at_tick stage) ≡ true → is_out xid stage ≡ true
  at_tick Waits xid e = e
  at_tick (Out own timeouts) xid e = e
  at_tick (KeptOut own) xid e = e
  at_tick KeptBack xid e = absurd cc
  at_tick Done xid e = e
  at_tick GivenUp xid e = e

  tick_kind : (a : Activity) → StepKind n fresh Ticks s a (stays s (ticked a))
  tick_kind Idle = Rests s Idle
  tick_kind (Makes all) = MakingTurns s all (all_at_tick all) _ refl (Rests s (Makes (all_at_tick all)))
  tick_kind (Fences fence) = FenceTurns s fence (fences.after_tick fence) _ refl (Rests s (Fences (fences.after_tick fence)))
  tick_kind (Settles stage) = SettleTurns s stage (stage_at_tick stage) _ (at_tick stage) (Rests s (Settles (stage_at_tick stage)))
  tick_kind (Copies c) = CopyTurns s c _ (Rests s (Copies (copy_turned Ticks c).copy)) (λ id e. absurd cc)

  -- a file without calls under way, or one whose phase says so
  idle_or : (a : Activity) → IsBusyWith net journal n s a → (a ≡ Idle) ⊎ (is_idle s.phase ≡ false)
  idle_or Idle h = inl refl
  idle_or (Makes all) h = inr (ap is_idle h.phase)
  idle_or (Fences fence) h = inr (ap is_idle h.phase)
  idle_or (Settles stage) h = inr (ap is_idle h.phase)
  idle_or (Copies c) h = inr (ap is_idle h.phase)

  module _ (a : Activity) (busy : IsBusyWith net journal n s a) where
    abbrev it : MdsFile
    it = record { layout = s; activity = a }

    -- an input that only a file without calls minds
    minded : (input : FileInput) (row : MdsFile → FileStep) → StepKind n fresh input s Idle (row (record { layout = s; activity = Idle })) → (is_idle s.phase ≡ false → row it ≡ nothing it) → StepKind n fresh input s a (row it)
    minded input row idle none =
        elim (idle_or a busy) [
          | inl e ↦ subst (λ (x : Activity). StepKind n fresh input s x (row (record { layout = s; activity = x }))) (sym e) idle
          | inr off ↦ subst (StepKind n fresh input s a) (sym (none off)) (Rests s a)
        ]

pub phase_kind : (n : ℕ) (fresh : Fresh) (net : Net) (journal : List Entry) (f : MdsFile) → IsFile net journal n f → (input : FileInput) → StepKind n fresh input f.layout f.activity (phase (file_id n) f input fresh)
phase_kind n fresh net journal f h (AsksLayout client) =
    minded n fresh net journal f.layout f.activity h.busy (AsksLayout client) (λ g. asked_in (file_id n) g (Client client) [] fresh f.layout.phase) (asked_kind n fresh (AsksLayout client) f.layout (Client client) [] NoWrite f.layout.phase refl)
    (none_asked (file_id n) f (Client client) [] fresh f.layout.phase)
phase_kind n fresh net journal f h (OwnWrite at bytes) =
    let sent : List Entry = entry.Sent (file_id n) f.layout.cred at bytes ∷ [] in
    minded n fresh net journal f.layout f.activity h.busy (OwnWrite at bytes) (λ g. asked_in (file_id n) g Mds sent fresh f.layout.phase) (asked_kind n fresh (OwnWrite at bytes) f.layout Mds sent (OneWrite at bytes) f.layout.phase refl)
    (none_asked (file_id n) f Mds sent fresh f.layout.phase)
phase_kind n fresh net journal f h Recall =
    minded n fresh net journal f.layout f.activity h.busy Recall (λ g. held_in g (by_client g (recalled_row g)) f.layout.phase) (recall_kind n fresh Recall f.layout) (none_held f (by_client f (recalled_row f)) f.layout.phase)
phase_kind n fresh net journal f h (Returns client claimed places) =
    minded n fresh net journal f.layout f.activity h.busy (Returns client claimed places) (λ g. held_in g (by_client g (returned_row (file_id n) g client claimed places fresh)) f.layout.phase) (return_kind n fresh (Returns client claimed places) f.layout client claimed places)
    (none_held f (by_client f (returned_row (file_id n) f client claimed places fresh)) f.layout.phase)
phase_kind n fresh net journal f h (Revokes cause) =
    minded n fresh net journal f.layout f.activity h.busy (Revokes cause) (λ g. held_in g (by_client g (λ client. revoked_row (file_id n) g cause fresh)) f.layout.phase) (revoke_kind n fresh (Revokes cause) f.layout cause)
    (none_held f (by_client f (λ client. revoked_row (file_id n) f cause fresh)) f.layout.phase)
phase_kind n fresh net journal f h (OwnEnds causes at bytes) =
    let told : Entry = entry.Told (file_id n) f.layout.cred at bytes in
    minded n fresh net journal f.layout f.activity h.busy (OwnEnds causes at bytes) (λ g. held_in g (by_mds g (own_row (file_id n) g causes told fresh)) f.layout.phase) (own_kind n fresh (OwnEnds causes at bytes) f.layout causes at bytes)
    (none_held f (by_mds f (own_row (file_id n) f causes told fresh)) f.layout.phase)
phase_kind n fresh net journal f h Resilver =
    minded n fresh net journal f.layout f.activity h.busy Resilver (λ g. resilvered_in g fresh f.layout.phase) (resilver_kind n fresh Resilver f.layout f.layout.phase refl) (none_resilvered f fresh f.layout.phase)
phase_kind n fresh net journal f h (Answers xid reply) = answered_kind n fresh net journal f.layout xid reply f.activity h
phase_kind n fresh net journal f h (TimesOut xid) = timed_kind n fresh net journal f.layout xid f.activity h
phase_kind n fresh net journal f h Ticks = tick_kind n fresh net journal f.layout f.activity
phase_kind n fresh net journal f h (Sees id seen) = Learnt f.layout (with_live f.layout (seen_at id seen f.layout.live)) f.activity _ (alike_seen f.layout id seen) (Rests (with_live f.layout (seen_at id seen f.layout.live)) f.activity)
