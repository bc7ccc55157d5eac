-- Every step of the table of phases is a turn of its file.
use Rattle.std.proofs.Common.{arith, ◌≡◌, ℕ, ◌+◌, Bool, true, false, eqb, ltb, cond, ◌&&◌, List, [], ◌∷◌, ◌++◌, length, map, Option, Some, None, is_some, refl, sym, ap, subst, ◌∙◌, append_assoc, append-nil}
use Rattle.std.specs.Prelude.{slice_get}
use Rattle.std.specs.List.{AllByRecursion, list_all, flat_map}
use Rattle.std.proofs.lemmas.Bool.{cond_both, and_parts}
use Rattle.cluster_model.specs.declared.ids.NodeId.{NodeId}
use Rattle.cluster_model.specs.declared.ids.NodeId.TheVariants.{Mds, Server, Client}
use Rattle.cluster_model.specs.declared.ids.Cred.{Cred}
use Rattle.cluster_model.specs.declared.ids.MirrorId.{MirrorId}
use Rattle.cluster_model.specs.declared.ids.Mirror.{Mirror}
use Rattle.cluster_model.specs.declared.phase.EndCause.{EndCause}
use Rattle.cluster_model.specs.declared.phase.EndCause.TheVariants.{Returned, Own, AllReported}
use Rattle.cluster_model.specs.declared.phase.LeftCause.{LeftCause}
use Rattle.cluster_model.specs.declared.phase.LeftCause.TheVariants.{Error, Timeouts}
use Rattle.cluster_model.specs.declared.entry.Entry.{Entry}
use Rattle.cluster_model.specs.declared.entry.Entry.TheVariants as entry
use Rattle.cluster_model.specs.declared.tick.Tick.{Tick}
use Rattle.cluster_model.specs.declared.ds_call.Shown.{Shown}
use Rattle.cluster_model.specs.declared.call_stage.CallStage.{CallStage}
use Rattle.cluster_model.specs.declared.call_stage.CallStage.TheVariants.{Waits, Out, KeptOut, KeptBack, Done, GivenUp}
use Rattle.cluster_model.specs.declared.fence_mirror.FenceMirror.{FenceMirror}
use Rattle.cluster_model.specs.declared.fence_mirror.FenceStep.{FenceStep}
use Rattle.cluster_model.specs.declared.fence_mirror.FenceStep.TheVariants.{Stranger, Acked, Again, Failed as HasFailed}
use Rattle.cluster_model.specs.declared.layout_state.LayoutState.{LayoutState}
use Rattle.cluster_model.specs.declared.layout_state.LayoutPhase.{LayoutPhase}
use Rattle.cluster_model.specs.declared.layout_state.LayoutPhase.TheVariants.{Making, Free, Held, Fencing, Settling, Copying}
use Rattle.cluster_model.specs.declared.layout_state.FenceEnd.{FenceEnd}
use Rattle.cluster_model.specs.declared.layout_state.FenceEnd.TheVariants.{Clean}
use Rattle.cluster_model.specs.declared.layout_state.CopyKind.{CopyKind}
use Rattle.cluster_model.specs.declared.targets.SwappedIn.{SwappedIn}
use Rattle.cluster_model.specs.DsCalls.{DsReplyValue, Created, Set, Written, Committed, Bytes, NotSync, Failed}
use Rattle.cluster_model.specs.Fences.{is_out, is_over, stage_at_tick, odd_status, FenceState, fence_of, MirrorStep, FenceAfter, step_at, step_from, outstanding_at, is_done, without}
use Rattle.cluster_model.specs.Fences as fences
use Rattle.cluster_model.specs.Phases.{ids_of, unreported, left_entries, seen_at, is_last_live, is_source, is_clean, with_phase, with_live, after_loss, phase_without, granted, reported_cause, returned, revoked, left_with, end_entries, fencing, phase_fenced, fenced_to, fence_entries, fence_done, free_entries, freed, made, has_targets, resilvered}
use Rattle.copy_rule.specs.Copies.{CopyState, swaps_of, has_outcome}
use Rattle.file_rule.specs.MdsFiles.{Creations, Activity, Idle, Makes, Fences, Settles, Copies, MdsFile, FileStep, nothing, stays, a_uid, goes_idle, goes_fencing, goes_on, with_entries, fenced_on, fence_stepped, shown_by_set, seen_by, mirror_at, with_creation, creation_of, creation_answered, creation_timed_out, making_at, making_by, all_made, plan_of, copying, settled, source_left, shown_by_commit, seen_at_source, settling_answered, settling_timed_out, copied_by, copied_on, target_left}
use Rattle.file_rule.specs.declared.creation.Creation.{Creation}
use Rattle.file_rule.specs.declared.fresh.Fresh.{Fresh}
use Rattle.file_rule.specs.FilePhases.{FileInput, AsksLayout, OwnWrite, Recall, Returns, Revokes, OwnEnds, Resilver, Answers, TimesOut, Ticks, Sees, are_spent, asked_in, held_in, by_client, by_mds, recalled_row, returned_row, revoked_row, own_row, resilvered_in, kind_of, settles_by, answered_in, timed_out_in, ticked, phase}
use Rattle.cluster_laws.specs.Machine.{file_id}
use Rattle.cluster_laws.proofs.Lists.{all_append}
use Rattle.cluster_laws.proofs.Lives.{ids_seen}
use Rattle.cluster_laws.proofs.Invariant.{Net, IsNotSource, IsAnswer, IsTargetOf, FitsIn, site_of, AreRight, IsFencedTo, is_idle, live_of, IsFile}
use Rattle.std.proofs.lemmas.Bool.{eqb-true}
use Rattle.std.specs.Prelude.{◌<◌, ◌≤◌}
use Rattle.cluster_model.specs.Mirrors.{are_on_different_servers}
use Rattle.cluster_model.specs.Journal.{Copy, content_of}
use Rattle.cluster_model.specs.Phases.{but_for}
use Rattle.copy_rule.specs.Copies.{swap_of}
use Rattle.copy_rule.specs.declared.copy_target.CopyTarget.{CopyTarget}
use Rattle.cluster_laws.specs.Machine.{PacketValue}
use Rattle.cluster_laws.specs.Periods.{was_granted}
use Rattle.cluster_laws.specs.Holders.{MayEnd, MayEndClean, IsBoundInput}
use Rattle.sound_journals.specs.Views.{FileView, view_after, view_of}
use Rattle.cluster_laws.proofs.Facts.{OwnedFrom}
use Rattle.cluster_laws.proofs.Lists.{all_more}
use Rattle.cluster_laws.proofs.Known.{Known}
use Rattle.cluster_laws.proofs.Journals.{content_same}
use Rattle.cluster_laws.proofs.PeriodFacts.{AreInPlace}
use Rattle.cluster_laws.proofs.PhaseOk.{IsInput}
use Rattle.cluster_laws.proofs.CopySteps.{loses}
use Rattle.sound_runs.proofs.CopyTurns.{still_not, known_left, copy_answered, copy_timed_out}
use Rattle.cluster_laws.proofs.Plans.{plan_more, none_left}
use Rattle.sound_runs.proofs.ViewFolds.{view_push, copy_is}
use Rattle.sound_runs.proofs.FileTurns.{IsAlike, IsBlank, IsGrantWith, NoWrite, OneWrite, IsToldWith, NoneTold, OneTold, IsCoveredAt, IsOnServerOf, IsGoodTarget, IsCopyPhase, is_making, MayLeave, NotLast, NotFirst, FileTurn, Rests, Learnt, Recalled, Grants, EndsDirty, EndsClean, Resilvers, Makes, Loses, FenceDone, Frees, CopyBegins, CopySwaps}
use Rattle.sound_runs.proofs.FileTurns as turn

alike_seen : (s : LayoutState) (id : MirrorId) (seen : Tick) → IsAlike s (with_live s (seen_at id seen s.live))
alike_seen s id seen = record { wanted = refl; cred = refl; phase = refl; ids = ids_seen id seen s.live }

alike_same : (s : LayoutState) → IsAlike s s
alike_same s = record { wanted = refl; cred = refl; phase = refl; ids = refl }

content_left : (n : ℕ) (journal : List Entry) (id : MirrorId) (cause : LeftCause) (m : MirrorId) → content_of (journal ++ entry.Left (file_id n) id cause ∷ []) m ≡ content_of journal m
content_left n journal id cause m = content_same m journal (entry.Left (file_id n) id cause ∷ []) (λ c. refl, tt)

reported_some : (places : List Bool) → map is_some (map reported_cause places) ≡ places
reported_some [] = refl
reported_some (true ∷ places) = ap (λ l. true ∷ l) (reported_some places)
reported_some (false ∷ places) = ap (λ l. false ∷ l) (reported_some places)

-- what is known of the users behind a journal
pub record KnownUsers (n : ℕ) (packets : List PacketValue) (journal : List Entry) : Type 0 where
  pub blank : (uid : ℕ) → was_granted journal uid ≡ false → IsBlank (view_of journal (file_id n)) uid
  pub covers : (uid : ℕ) (ids : List MirrorId) → MayEndClean packets journal uid ids → IsCoveredAt (view_of journal (file_id n)) uid ids

module _ (n : ℕ) (fresh : Fresh) where
  -- a step from a journal on
  abbrev pub Turn : List Entry → LayoutState → FileStep → Type 0
  Turn journal s x = AreRight journal x.entries → AreInPlace journal x.entries → are_on_different_servers x.file.layout.live ≡ true → FileTurn n fresh.uid (view_of journal (file_id n)) s x.file.layout x.entries

  abbrev Owned : Net → List Entry → Type 0
  Owned net journal = (id : MirrorId) (uid : ℕ) → OwnedFrom net.servers id uid → uid ≤ (content_of journal id).owner

  module _ (journal : List Entry) where
    abbrev v : FileView
    v = view_of journal (file_id n)

    rests : (s : LayoutState) (a : Activity) → Turn journal s (stays s a)
    rests s a right place apart = Rests v s

    -- behind a mirror that leaves
    loses_one : (s : LayoutState) (id : MirrorId) (cause : LeftCause) (x : FileStep) → MayLeave s.live id → is_idle s.phase ≡ false → is_making s.phase ≡ false → Turn (journal ++ entry.Left (file_id n) id cause ∷ []) (after_loss s id) x
        → Turn journal s (with_entries (entry.Left (file_id n) id cause ∷ []) x)
    loses_one s id cause x may idle making t right place apart =
        Loses v s id cause x.file.layout x.entries may idle making (subst (λ (w : FileView). FileTurn n fresh.uid w (after_loss s id) x.file.layout x.entries) (view_push (file_id n) journal (entry.Left (file_id n) id cause)) (t right.1 place.1 apart))

    -- ---- Free and Held

    module _ (packets : List PacketValue) (known : KnownUsers n packets journal) (s : LayoutState) (a : Activity) (less : s.cred.0 < fresh.uid) (apart_now : are_on_different_servers s.live ≡ true) where
      abbrev f : MdsFile
      f = record { layout = s; activity = a }

      asked : (holder : NodeId) (entries : List Entry) → IsGrantWith n s.cred entries → (p : LayoutPhase) → s.phase ≡ p → Turn journal s (asked_in (file_id n) f holder entries fresh p)
      asked holder entries taken Making is = rests s a
      asked holder entries taken Free is =
          cond_both (are_spent fresh) (nothing f) (with_entries (granted (file_id n) s holder).entries (record { file = record { layout = (granted (file_id n) s holder).file; activity = a }; entries = entries; uids = 0; names = 0 })) (Turn journal s)
          (λ e. rests s a) (λ e right place apart. Grants v s holder entries is (known.blank s.cred.0 place.0.new) taken)
      asked holder entries taken (Held other is_recalled) is = rests s a
      asked holder entries taken (Fencing next end) is = rests s a
      asked holder entries taken (Settling copies) is = rests s a
      asked holder entries taken (Copying copier copies) is = rests s a

      resilvers : (p : LayoutPhase) → s.phase ≡ p → Turn journal s (resilvered_in f fresh p)
      resilvers Making is = rests s a
      resilvers Free is = cond_both (ltb (length s.live) s.wanted && (cond (are_spent fresh) false true)) (stays (resilvered s) (Settles Waits)) (nothing f) (Turn journal s) (λ e right place apart. Resilvers v s is) (λ e. rests s a)
      resilvers (Held holder is_recalled) is = rests s a
      resilvers (Fencing next end) is = rests s a
      resilvers (Settling copies) is = rests s a
      resilvers (Copying copier copies) is = rests s a

      holds : (row : NodeId → FileStep) → ((holder : NodeId) (is_recalled : Bool) → s.phase ≡ Held holder is_recalled → Turn journal s (row holder)) → (p : LayoutPhase) → s.phase ≡ p → Turn journal s (held_in f row p)
      holds row ok Making is = rests s a
      holds row ok Free is = rests s a
      holds row ok (Held holder is_recalled) is = ok holder is_recalled is
      holds row ok (Fencing next end) is = rests s a
      holds row ok (Settling copies) is = rests s a
      holds row ok (Copying copier copies) is = rests s a

      recalls : Turn journal s (held_in f (by_client f (recalled_row f)) s.phase)
      recalls = holds (by_client f (recalled_row f)) by_holder s.phase refl
        where
          by_holder : (holder : NodeId) (is_recalled : Bool) → s.phase ≡ Held holder is_recalled → Turn journal s (by_client f (recalled_row f) holder)
          by_holder Mds is_recalled is = rests s a
          by_holder (Server k) is_recalled is = rests s a
          by_holder (Client k) is_recalled is = λ right place apart. Recalled v s (Client k) is_recalled is

      ends : (holder : NodeId) (is_recalled : Bool) → s.phase ≡ Held holder is_recalled → (causes : List (Option LeftCause)) (told : List Entry) → IsToldWith n s.cred told → (cause : EndCause) → is_clean cause ≡ true
          → (kept : List Mirror) → unreported (map is_some causes) s.live ≡ kept → MayEnd packets journal s.cred.0 kept
          → FileTurn n fresh.uid v s (left_with s (a_uid fresh.uid) kept) (end_entries (file_id n) s.cred (left_entries (file_id n) causes s.live ++ told) cause kept)
      ends holder is_recalled is causes told with_told cause clean [] kept_is may = EndsDirty v s holder is_recalled AllReported is refl less
      ends holder is_recalled is causes told with_told cause clean (m ∷ kept) kept_is may =
          subst (FileTurn n fresh.uid v s (fencing s (m ∷ kept) Clean (a_uid fresh.uid))) (sym (append_assoc (left_entries (file_id n) causes s.live) told (entry.Ended (file_id n) s.cred cause ∷ [])))
          (EndsClean v s holder is_recalled causes m kept told cause is kept_is with_told clean (known.covers s.cred.0 (ids_of (m ∷ kept)) may) apart_now less)

      returns : (client : ℕ) (claimed : Cred) (places : List Bool) → IsBoundInput packets journal (Returns client claimed places) (Some f) → Turn journal s (held_in f (by_client f (returned_row (file_id n) f client claimed places fresh)) s.phase)
      returns client claimed places bound = holds (by_client f (returned_row (file_id n) f client claimed places fresh)) by_holder s.phase refl
        where
          by_claim : (is_recalled : Bool) (k : ℕ) → s.phase ≡ Held (Client k) is_recalled → k ≡ client → s.cred.0 ≡ claimed.0 → Turn journal s (goes_fencing (returned (file_id n) s places (a_uid fresh.uid)) fresh.uid)
          by_claim is_recalled k is same claim right place apart =
              let may = bound is_recalled (is ∙ ap (λ (x : ℕ). Held (Client x) is_recalled) same) claim in
              subst (λ (l : List Entry). FileTurn n fresh.uid v s (left_with s (a_uid fresh.uid) (unreported places s.live)) (end_entries (file_id n) s.cred l Returned (unreported places s.live))) (append-nil (left_entries (file_id n) (map reported_cause places) s.live))
              (ends (Client k) is_recalled is (map reported_cause places) [] NoneTold Returned refl (unreported places s.live) (ap (λ (p : List Bool). unreported p s.live) (reported_some places)) may)

          by_holder : (holder : NodeId) (is_recalled : Bool) → s.phase ≡ Held holder is_recalled → Turn journal s (by_client f (returned_row (file_id n) f client claimed places fresh) holder)
          by_holder Mds is_recalled is = rests s a
          by_holder (Server k) is_recalled is = rests s a
          by_holder (Client k) is_recalled is =
              cond_both (eqb k client && (eqb s.cred.0 claimed.0)) (goes_fencing (returned (file_id n) s places (a_uid fresh.uid)) fresh.uid) (nothing f) (Turn journal s)
              (λ e. let parts = and_parts _ _ e in by_claim is_recalled k is (eqb-true _ _ parts.0) (eqb-true _ _ parts.1)) (λ e. rests s a)

      revokes : (cause : EndCause) → Turn journal s (held_in f (by_client f (λ client. revoked_row (file_id n) f cause fresh)) s.phase)
      revokes cause = holds (by_client f (λ client. revoked_row (file_id n) f cause fresh)) by_holder s.phase refl
        where
          by_holder : (holder : NodeId) (is_recalled : Bool) → s.phase ≡ Held holder is_recalled → Turn journal s (by_client f (λ client. revoked_row (file_id n) f cause fresh) holder)
          by_holder Mds is_recalled is = rests s a
          by_holder (Server k) is_recalled is = rests s a
          by_holder (Client k) is_recalled is =
              cond_both (is_clean cause) (nothing f) (goes_fencing (revoked (file_id n) s cause (a_uid fresh.uid)) fresh.uid) (Turn journal s) (λ e. rests s a) (λ e right place apart. EndsDirty v s (Client k) is_recalled cause is e less)

      own_ends : (causes : List (Option LeftCause)) (at : ℕ) (bytes : List ℕ) → IsBoundInput packets journal (OwnEnds causes at bytes) (Some f) → Turn journal s (held_in f (by_mds f (own_row (file_id n) f causes (entry.Told (file_id n) s.cred at bytes) fresh)) s.phase)
      own_ends causes at bytes bound = holds (by_mds f (own_row (file_id n) f causes (entry.Told (file_id n) s.cred at bytes) fresh)) by_holder s.phase refl
        where
          by_holder : (holder : NodeId) (is_recalled : Bool) → s.phase ≡ Held holder is_recalled → Turn journal s (by_mds f (own_row (file_id n) f causes (entry.Told (file_id n) s.cred at bytes) fresh) holder)
          by_holder Mds is_recalled is = λ right place apart. ends Mds is_recalled is causes (entry.Told (file_id n) s.cred at bytes ∷ []) (OneTold at bytes) Own refl (unreported (map is_some causes) s.live) refl (bound is_recalled is)
          by_holder (Server k) is_recalled is = rests s a
          by_holder (Client k) is_recalled is = rests s a

    -- ---- Making

    makes : (s : LayoutState) (all : Creations) → s.phase ≡ Making → (step : Creation → Creation) (found : Option ℕ) → Turn journal s (making_by (file_id n) s all step found)
    makes s all phase step None = rests s (Makes all)
    makes s all phase step (Some place) = at_place (slice_get all.items place)
      where
        at_place : (got : Option Creation) → Turn journal s (making_at (file_id n) s all step place got)
        at_place None = rests s (Makes all)
        at_place (Some c) =
            let then : Creations = with_creation all place (step c) in
            cond_both (list_all (λ x. is_over x.stage) then.items) (goes_idle (made (file_id n) s (all_made then)) 0) (stays s (Makes then)) (Turn journal s) (λ e right place apart. turn.Makes v s (all_made then) phase apart place.0.some) (λ e. rests s (Makes then))

    -- ---- Fencing

    fenced : (s : LayoutState) (fence : FenceState) (next : Cred) (end : FenceEnd) → s.phase ≡ Fencing next end → Turn journal s (fenced_on (file_id n) s fence)
    fenced s fence next end phase =
        cond_both (is_done fence) (goes_on (fence_done (file_id n) s)) (stays s (Fences fence)) (Turn journal s)
        (λ e. subst (λ (p : LayoutPhase). Turn journal s (goes_on (record { file = fenced_to s p; entries = fence_entries (file_id n) s p }))) (sym phase) done)
        (λ e. rests s (Fences fence))
      where
        done : Turn journal s (goes_on (record { file = record { wanted = s.wanted; cred = next; live = s.live; phase = phase_fenced end }; entries = entry.Fenced (file_id n) s.cred next (ids_of s.live) ∷ free_entries (file_id n) end s.live }))
        done right place apart =
            FenceDone v s next end phase (all_more (λ m. (content_of journal m).owner ≡ next.0) (λ m. (v.copy m).owner ≡ next.0) (ids_of s.live) (λ m e. ap (λ (c : Copy). c.owner) (copy_is (file_id n) m journal) ∙ e) right.0.1)

    -- ---- Settling

    loses_source : (s : LayoutState) (a : Activity) (m : Mirror) (cause : LeftCause) → is_idle s.phase ≡ false → is_making s.phase ≡ false → is_last_live s.live ≡ false
        → Turn journal s (record { file = record { layout = after_loss s m.id; activity = a }; entries = entry.Left (file_id n) m.id cause ∷ []; uids = 0; names = 0 })
    loses_source s a m cause idle making last right place apart = Loses v s m.id cause (after_loss s m.id) [] (NotLast last) idle making (Rests (view_after (file_id n) v (entry.Left (file_id n) m.id cause)) (after_loss s m.id))

    source_gone : (s : LayoutState) (cause : LeftCause) (kept : CallStage) → is_idle s.phase ≡ false → is_making s.phase ≡ false → (live : List Mirror) → Turn journal s (source_left (file_id n) s live cause (Settles kept))
    source_gone s cause kept idle making [] = rests s (Settles kept)
    source_gone s cause kept idle making (m ∷ live) =
        cond_both (is_last_live s.live) (stays s (Settles kept)) (record { file = record { layout = after_loss s m.id; activity = Settles Waits }; entries = entry.Left (file_id n) m.id cause ∷ []; uids = 0; names = 0 }) (Turn journal s)
        (λ e. rests s (Settles kept)) (λ e. loses_source s (Settles Waits) m cause idle making e)

    copy_phase : (copies : CopyKind) (p : LayoutPhase) → p ≡ Settling copies → IsCopyPhase copies p
    copy_phase copies p is = subst (IsCopyPhase copies) (sym is) turn.Settles

    settles : (s : LayoutState) (copies : CopyKind) → s.phase ≡ Settling copies → Turn journal s (settled (file_id n) s copies fresh)
    settles s copies phase = by_targets (has_targets copies (length s.live) s.wanted)
      where
        by_targets : (b : Bool)
            → Turn journal s (cond b (copying (cond b (record { file = with_phase s (Copying (a_uid fresh.uid) copies); entries = [] }) (freed (file_id n) s)).file fresh (plan_of copies s fresh)) (goes_idle (cond b (record { file = with_phase s (Copying (a_uid fresh.uid) copies); entries = [] }) (freed (file_id n) s)) 0))
        by_targets true right place apart = CopyBegins v s copies (a_uid fresh.uid) phase
        by_targets false right place apart = Frees v s copies (copy_phase copies s.phase phase)

    settle_answered : (s : LayoutState) (copies : CopyKind) → s.phase ≡ Settling copies → (reply : DsReplyValue) → Turn journal s (settling_answered (file_id n) s copies fresh reply)
    settle_answered s copies phase (Created fileid shown) = source_gone s (Error odd_status) KeptBack (ap is_idle phase) (ap is_making phase) s.live
    settle_answered s copies phase (Set shown) = source_gone s (Error odd_status) KeptBack (ap is_idle phase) (ap is_making phase) s.live
    settle_answered s copies phase (Written shown verifier) = source_gone s (Error odd_status) KeptBack (ap is_idle phase) (ap is_making phase) s.live
    settle_answered s copies phase (Committed shown verifier) = settles s copies phase
    settle_answered s copies phase (Bytes shown eof bytes) = source_gone s (Error odd_status) KeptBack (ap is_idle phase) (ap is_making phase) s.live
    settle_answered s copies phase (NotSync shown) = source_gone s (Error odd_status) KeptBack (ap is_idle phase) (ap is_making phase) s.live
    settle_answered s copies phase (Failed status shown) = source_gone s (Error status) KeptBack (ap is_idle phase) (ap is_making phase) s.live

    settle_late : (s : LayoutState) (copies : CopyKind) → s.phase ≡ Settling copies → (stage : CallStage) → Turn journal s (settling_timed_out (file_id n) s stage)
    settle_late s copies phase Waits = rests s (Settles Waits)
    settle_late s copies phase (Out xid timeouts) =
        cond_both (ltb (timeouts + 1) 3) (stays s (Settles (Out xid (timeouts + 1)))) (source_left (file_id n) s s.live Timeouts (Settles (KeptOut xid))) (Turn journal s)
        (λ e. rests s (Settles (Out xid (timeouts + 1)))) (λ e. source_gone s Timeouts (KeptOut xid) (ap is_idle phase) (ap is_making phase) s.live)
    settle_late s copies phase (KeptOut xid) = rests s (Settles (KeptOut xid))
    settle_late s copies phase KeptBack = rests s (Settles KeptBack)
    settle_late s copies phase Done = rests s (Settles Done)
    settle_late s copies phase GivenUp = rests s (Settles GivenUp)

  -- ---- what an input comes to

  module _ (net : Net) (files : ℕ) where
    learnt : (journal : List Entry) (s t : LayoutState) (x : FileStep) → IsAlike s t → Turn journal t x → Turn journal s x
    learnt journal s t x e k right place apart = Learnt (view_of journal (file_id n)) s t x.file.layout x.entries e (k right place apart)

    fence_steps : (journal : List Entry) (s : LayoutState) (fence : FenceState) (next : Cred) (end : FenceEnd) → s.phase ≡ Fencing next end → (step : FenceStep) → Turn journal s (fence_stepped (file_id n) s fence step)
    fence_steps journal s fence next end phase Stranger = rests journal s (Fences fence)
    fence_steps journal s fence next end phase Acked = fenced journal s fence next end phase
    fence_steps journal s fence next end phase Again = rests journal s (Fences fence)
    fence_steps journal s fence next end phase (HasFailed id cause) =
        cond_both (is_last_live s.live) (stays s (Fences fence)) (with_entries (entry.Left (file_id n) id cause ∷ []) (fenced_on (file_id n) (after_loss s id) (without fence id))) (Turn journal s)
        (λ e. rests journal s (Fences fence))
        (λ e. loses_one journal s id cause (fenced_on (file_id n) (after_loss s id) (without fence id)) (NotLast e) (ap is_idle phase) (ap is_making phase)
        (fenced (journal ++ entry.Left (file_id n) id cause ∷ []) (after_loss s id) (without fence id) next end (ap (λ (p : LayoutPhase). phase_without p (is_source id s.live)) phase)))

    seen_alike : (s : LayoutState) (got : Option FenceMirror) (shown : Option Shown) → IsAlike s (seen_by s got shown)
    seen_alike s None shown = alike_same s
    seen_alike s (Some m) None = alike_same s
    seen_alike s (Some m) (Some shown) = alike_seen s m.id shown.seen

    source_alike : (s : LayoutState) (live : List Mirror) (shown : Option Shown) → IsAlike s (seen_at_source s live shown)
    source_alike s [] shown = alike_same s
    source_alike s (m ∷ live) None = alike_same s
    source_alike s (m ∷ live) (Some shown) = alike_seen s m.id shown.seen

    -- ---- Copying

    module _ (journal : List Entry) (known : Known net fresh.uid files journal) (owned : Owned net journal) (s : LayoutState) (d : CopyState) (h : IsFile net journal n (record { layout = s; activity = Copies d })) where
      on_server : (t : CopyTarget) (new : MirrorId) (replaced : Option MirrorId) → new.server ≡ t.server → FitsIn s.live t.server replaced → IsOnServerOf replaced new
      on_server t new None on fits = tt
      on_server t new (Some old) on fits = fits ∙ sym on

      good_swaps : (targets : List CopyTarget) → AllByRecursion (IsTargetOf net n d.copier d.at d.piece) targets → AllByRecursion (λ x. FitsIn s.live x.server x.replaced) (map site_of targets) → AllByRecursion (IsGoodTarget (view_of journal (file_id n)) d.copier) (flat_map (λ t. swap_of t t.made) targets)
      good_swaps [] all fits = tt
      good_swaps (t ∷ targets) all fits = by_made t.made refl (good_swaps targets all.1 fits.1)
        where
          good : (m : Mirror) → t.made ≡ Some m → IsGoodTarget (view_of journal (file_id n)) d.copier (record { new = m; old = t.replaced })
          good m is =
              let made = all.0.made m is in
              let up : d.copier ≤ (content_of journal m.id).owner = owned m.id d.copier (subst (λ (uid : ℕ). OwnedFrom net.servers m.id uid) all.0.low (known.lowest m.id t.name made.1 all.0.drawn)) in
              record { on = on_server t m.id t.replaced made.0 fits.0; owner = subst (λ (c : Copy). d.copier ≤ c.owner) (sym (copy_is (file_id n) m.id journal)) up }

          by_made : (o : Option Mirror) → t.made ≡ o → AllByRecursion (IsGoodTarget (view_of journal (file_id n)) d.copier) (flat_map (λ y. swap_of y y.made) targets) → AllByRecursion (IsGoodTarget (view_of journal (file_id n)) d.copier) (swap_of t o ++ flat_map (λ y. swap_of y y.made) targets)
          by_made None is rest = rest
          by_made (Some m) is rest = (good m is, rest)

      below : d.copier < fresh.uid
      below = let top = h.busy.top in let less = known.tops n in omega (arith, top, less)

      copied_turn : Turn journal s (copied_on (file_id n) s d fresh)
      copied_turn = cond_both (has_outcome d) (copied_by (file_id n) s (a_uid d.copier) (swaps_of d) fresh) (stays s (Copies d)) (Turn journal s) (λ e. by_targets (swaps_of d) (good_swaps d.targets h.busy.targets h.busy.plan.fits)) (λ e. rests journal s (Copies d))
        where
          by_targets : (targets : List SwappedIn) → AllByRecursion (IsGoodTarget (view_of journal (file_id n)) d.copier) targets → Turn journal s (copied_by (file_id n) s (a_uid d.copier) targets fresh)
          by_targets [] good right place apart = Frees (view_of journal (file_id n)) s h.busy.copies (subst (IsCopyPhase h.busy.copies) (sym h.busy.phase) (turn.Copies h.busy.copier))
          by_targets (t ∷ targets) good right place apart = CopySwaps (view_of journal (file_id n)) s h.busy.copier h.busy.copies d.copier t targets h.busy.phase h.busy.later below good apart

    owned_left : (journal : List Entry) (id : MirrorId) (cause : LeftCause) → Owned net journal → Owned net (journal ++ entry.Left (file_id n) id cause ∷ [])
    owned_left journal id cause owned m uid o = subst (λ (c : Copy). uid ≤ c.owner) (sym (content_left n journal id cause m)) (owned m uid o)

    module _ (journal : List Entry) (known : Known net fresh.uid files journal) (owned : Owned net journal) (s : LayoutState) where
      lost_target : (d : CopyState) (id : MirrorId) (cause : LeftCause) → IsFile net journal n (record { layout = s; activity = Copies d }) → is_source id s.live ≡ false → Turn journal s (target_left (file_id n) s d fresh cause (Some id))
      lost_target d id cause h not_source =
          let e : Entry = entry.Left (file_id n) id cause in
          let phase : phase_without s.phase (is_source id s.live) ≡ Copying h.busy.copier h.busy.copies = ap (λ p. phase_without p (is_source id s.live)) h.busy.phase ∙ ap (λ b. phase_without (Copying h.busy.copier h.busy.copies) b) not_source in
          let row = loses net n fresh.uid journal s (Copies d) (Copies d) id cause h (ap (λ p. live_of p (ids_of s.live)) h.busy.phase) (ap (λ p. live_of p (ids_of (but_for id s.live))) phase)
          (record {
            copier = h.busy.copier;
            copies = h.busy.copies;
            phase = phase;
            targets = h.busy.targets;
            later = h.busy.later;
            top = h.busy.top;
            fences = all_append (IsFencedTo n d.copier) journal (e ∷ []) h.busy.fences (tt, tt);
            sources = all_more (λ t. IsNotSource s.live t.replaced) (λ t. IsNotSource (but_for id s.live) t.replaced) d.targets (λ t k. still_not id s.live t.replaced not_source k) h.busy.sources;
            plan = plan_more s.live (but_for id s.live) (none_left id s.live) (map site_of d.targets) h.busy.plan;
            source = h.busy.source;
            short = h.busy.short;
          }) in
          loses_one journal s id cause (copied_on (file_id n) (after_loss s id) d fresh) (NotFirst not_source) (ap is_idle h.busy.phase) (ap is_making h.busy.phase)
          (copied_turn (journal ++ e ∷ []) (known_left net n fresh.uid files journal id cause known) (owned_left journal id cause owned) (after_loss s id) d row.file)

      lost_source : (d : CopyState) (m : Mirror) (live : List Mirror) (cause : LeftCause) → IsFile net journal n (record { layout = s; activity = Copies d }) → s.live ≡ m ∷ live → is_last_live s.live ≡ false
          → Turn journal s (record { file = record { layout = after_loss s m.id; activity = Settles Waits }; entries = entry.Left (file_id n) m.id cause ∷ []; uids = 0; names = 0 })
      lost_source d m live cause h is last = loses_source journal s (Settles Waits) m cause (ap is_idle h.busy.phase) (ap is_making h.busy.phase) last

      answered : (xid server : ℕ) (reply : DsReplyValue) → IsAnswer net.packets net.servers server Mds xid reply → (a : Activity) → IsFile net journal n (record { layout = s; activity = a }) → Turn journal s (answered_in (file_id n) (record { layout = s; activity = a }) xid reply fresh a)
      answered xid server reply ans Idle h = rests journal s Idle
      answered xid server reply ans (Makes all) h = makes journal s all h.busy.phase (λ c. creation_answered all c reply) (creation_of all xid)
      answered xid server reply ans (Fences fence) h =
          let seen : LayoutState = seen_by s (mirror_at fence (outstanding_at fence xid)) (shown_by_set reply) in
          let alike = seen_alike s (mirror_at fence (outstanding_at fence xid)) (shown_by_set reply) in
          learnt journal s seen (fence_stepped (file_id n) seen (fences.on_reply fence xid reply).fence (fences.on_reply fence xid reply).step) alike (fence_steps journal seen (fences.on_reply fence xid reply).fence h.busy.next h.busy.end (alike.phase ∙ h.busy.phase) (fences.on_reply fence xid reply).step)
      answered xid server reply ans (Settles stage) h =
          let seen : LayoutState = seen_at_source s s.live (shown_by_commit reply) in
          let alike = source_alike s s.live (shown_by_commit reply) in
          cond_both (is_out xid stage) (settles_by (record { layout = s; activity = Settles stage }) (λ copies. settling_answered (file_id n) seen copies fresh reply) (kind_of s.phase)) (nothing (record { layout = s; activity = Settles stage })) (Turn journal s)
          (λ e. subst (λ (kind : Option CopyKind). Turn journal s (settles_by (record { layout = s; activity = Settles stage }) (λ copies. settling_answered (file_id n) seen copies fresh reply) kind)) (sym (ap kind_of h.busy.phase))
          (learnt journal s seen (settling_answered (file_id n) seen h.busy.copies fresh reply) alike (settle_answered journal seen h.busy.copies (alike.phase ∙ h.busy.phase) reply)))
          (λ e. rests journal s (Settles stage))
      answered xid server reply ans (Copies c) h =
          copy_answered net n journal s fresh (Turn journal s) (λ d k. rests journal s (Copies d)) (λ d k. copied_turn journal known owned s d k) lost_target lost_source c h xid server reply ans

      timed_out : (xid : ℕ) (a : Activity) → IsFile net journal n (record { layout = s; activity = a }) → Turn journal s (timed_out_in (file_id n) (record { layout = s; activity = a }) xid fresh a)
      timed_out xid Idle h = rests journal s Idle
      timed_out xid (Makes all) h = makes journal s all h.busy.phase (creation_timed_out all) (creation_of all xid)
      timed_out xid (Fences fence) h = fence_steps journal s (fences.on_timeout fence xid).fence h.busy.next h.busy.end h.busy.phase (fences.on_timeout fence xid).step
      timed_out xid (Settles stage) h =
          cond_both (is_out xid stage) (settling_timed_out (file_id n) s stage) (nothing (record { layout = s; activity = Settles stage })) (Turn journal s) (λ e. settle_late journal s h.busy.copies h.busy.phase stage) (λ e. rests journal s (Settles stage))
      timed_out xid (Copies c) h = copy_timed_out net n journal s fresh (Turn journal s) (λ d k. rests journal s (Copies d)) (λ d k. copied_turn journal known owned s d k) lost_target lost_source c h xid

    pub phase_turn : (journal : List Entry) → Known net fresh.uid files journal → Owned net journal → KnownUsers n net.packets journal → (f : MdsFile) → IsFile net journal n f → (input : FileInput) → IsInput net f input → IsBoundInput net.packets journal input (Some f)
        → Turn journal f.layout (phase (file_id n) f input fresh)
    phase_turn journal known owned users f h input brought bound = by_input input brought bound
      where
        less : f.layout.cred.0 < fresh.uid
        less = let top = h.top in let drawn = known.tops n in omega (arith, top, drawn)

        by_input : (i : FileInput) → IsInput net f i → IsBoundInput net.packets journal i (Some f) → Turn journal f.layout (phase (file_id n) f i fresh)
        by_input (AsksLayout client) brought bound = asked journal net.packets users f.layout f.activity less h.apart (Client client) [] NoWrite f.layout.phase refl
        by_input (OwnWrite at bytes) brought bound = asked journal net.packets users f.layout f.activity less h.apart Mds (entry.Sent (file_id n) f.layout.cred at bytes ∷ []) (OneWrite at bytes bound) f.layout.phase refl
        by_input Recall brought bound = recalls journal net.packets users f.layout f.activity less h.apart
        by_input (Returns client claimed places) brought bound = returns journal net.packets users f.layout f.activity less h.apart client claimed places bound
        by_input (Revokes cause) brought bound = revokes journal net.packets users f.layout f.activity less h.apart cause
        by_input (OwnEnds causes at bytes) brought bound = own_ends journal net.packets users f.layout f.activity less h.apart causes at bytes bound
        by_input Resilver brought bound = resilvers journal net.packets users f.layout f.activity less h.apart f.layout.phase refl
        by_input (Answers xid reply) brought bound = answered journal known owned f.layout xid brought.server reply brought.answer f.activity h
        by_input (TimesOut xid) brought bound = timed_out journal known owned f.layout xid f.activity h
        by_input Ticks brought bound = rests journal f.layout (ticked f.activity)
        by_input (Sees id seen) brought bound = learnt journal f.layout (with_live f.layout (seen_at id seen f.layout.live)) (nothing (record { layout = with_live f.layout (seen_at id seen f.layout.live); activity = f.activity })) (alike_seen f.layout id seen) (rests journal (with_live f.layout (seen_at id seen f.layout.live)) f.activity)
