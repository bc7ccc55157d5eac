-- A step of a copy, by what its targets and its source do.
use Rattle.std.proofs.Common.{◌≡◌, ℕ, ◌+◌, Bool, true, false, ltb, cond, not, List, [], ◌∷◌, ◌++◌, map, Option, Some, None, refl, sym, ap, subst, ◌∙◌}
use Rattle.std.specs.Prelude.{slice_get}
use Rattle.std.proofs.lemmas.Bool.{cond_both}
use Rattle.cluster_model.specs.declared.ids.NodeId.TheVariants.{Mds}
use Rattle.cluster_model.specs.declared.ids.MirrorId.{MirrorId}
use Rattle.cluster_model.specs.declared.ids.Mirror.{Mirror}
use Rattle.cluster_model.specs.declared.phase.LeftCause.{LeftCause}
use Rattle.cluster_model.specs.declared.phase.LeftCause.TheVariants.{Error, Timeouts}
use Rattle.cluster_model.specs.declared.entry.Entry.{Entry}
use Rattle.cluster_model.specs.declared.entry.Entry.TheVariants as entry
use Rattle.cluster_model.specs.declared.call_stage.CallStage.{CallStage}
use Rattle.cluster_model.specs.declared.call_stage.CallStage.TheVariants.{Waits, Out, KeptOut, KeptBack, Done, GivenUp}
use Rattle.cluster_model.specs.declared.layout_state.LayoutState.{LayoutState}
use Rattle.cluster_model.specs.DsCalls.{DsReplyValue, Created, Set, Written, Committed, Bytes, NotSync, Failed}
use Rattle.cluster_model.specs.Fences.{is_out, odd_status}
use Rattle.cluster_model.specs.Phases.{but_for, is_last_live, is_source, after_loss}
use Rattle.copy_rule.specs.Copies.{CopyState, TargetStep, target_answered, target_late, to_write, with_target, with_read, with_piece, has_outcome, goes_on, CopyAfter, step_told, stranger, source_fails, is_long, copy_then, read_answered, read_late, target_of, stepped, step_at, step_from, by_read, on_reply, on_timeout}
use Rattle.copy_rule.specs.declared.copy_target.CopyTarget.{CopyTarget}
use Rattle.copy_rule.specs.declared.copy_target.CopyStep.{CopyStep}
use Rattle.copy_rule.specs.declared.copy_target.CopyStep.TheVariants.{Stranger, Waiting, SourceFailed, TargetFailed, Done as AllHold}
use Rattle.file_rule.specs.MdsFiles.{Settles, Copies, FileStep, stays, source_left, copied_on, target_left, copy_stepped}
use Rattle.file_rule.specs.declared.fresh.Fresh.{Fresh}
use Rattle.cluster_laws.specs.Machine.{file_id}
use Rattle.cluster_laws.proofs.Lists.{all_append, all_at, found_at}
use Rattle.cluster_laws.proofs.Invariant.{Net, IsAnswer, IsTargetOf, IsNotSource, IsFile}
use Rattle.cluster_laws.proofs.FenceDone.{exact_on}
use Rattle.cluster_laws.proofs.Known.{Known}
use Rattle.cluster_laws.proofs.Plans.{sites_written}
use Rattle.cluster_laws.proofs.Lives.{all_map}
use Rattle.cluster_laws.proofs.Recopied.{recopied, put_target, goes_on_ok, to_write_ok, same_replaced, short_by}
use Rattle.cluster_laws.proofs.Targets.{Fits, IsStepOf, answered_ok, late_ok}

-- ---- a mirror leaves that is not the source

stays_source : (a b : MirrorId) (live : List Mirror) → is_source a live ≡ false → is_source b live ≡ false → is_source b (but_for a live) ≡ false
stays_source a b [] ha hb = refl
stays_source a b (m ∷ live) ha hb = ap (λ (t : Bool). is_source b (cond (not t) (m ∷ but_for a live) (but_for a live))) ha ∙ hb

pub still_not : (id : MirrorId) (live : List Mirror) (replaced : Option MirrorId) → is_source id live ≡ false → IsNotSource live replaced → IsNotSource (but_for id live) replaced
still_not id live None h k = tt
still_not id live (Some x) h k = stays_source id x live h k

pub known_left : (net : Net) (n next_uid files : ℕ) (journal : List Entry) (id : MirrorId) (cause : LeftCause) → Known net next_uid files journal → Known net next_uid files (journal ++ entry.Left (file_id n) id cause ∷ [])
known_left net n next_uid files journal id cause k = record {
  same = k.same;
  tops = k.tops;
  entries = all_append _ journal (entry.Left (file_id n) id cause ∷ []) k.entries (record { fence = tt; freed = tt }, tt);
  exact = exact_on net journal (entry.Left (file_id n) id cause ∷ []) (λ m c. refl, tt) k.exact;
  lowest = k.lowest;
}

-- ---- a step

-- Right is what a step of the file is to be: where it stays, where a copy may be over, where a mirror leaves that a target was to replace,
-- and where the source leaves.
module _ (net : Net) (n : ℕ) (journal : List Entry) (s : LayoutState) (fresh : Fresh) (Right : FileStep → Type 0)
    (same_copy : (d : CopyState) → IsFile net journal n (record { layout = s; activity = Copies d }) → Right (stays s (Copies d)))
    (copied_right : (d : CopyState) → IsFile net journal n (record { layout = s; activity = Copies d }) → Right (copied_on (file_id n) s d fresh))
    (lost_right : (d : CopyState) (id : MirrorId) (cause : LeftCause) → IsFile net journal n (record { layout = s; activity = Copies d }) → is_source id s.live ≡ false → Right (target_left (file_id n) s d fresh cause (Some id)))
    (gone_right : (d : CopyState) (m : Mirror) (live : List Mirror) (cause : LeftCause) → IsFile net journal n (record { layout = s; activity = Copies d }) → s.live ≡ m ∷ live → is_last_live s.live ≡ false
    → Right (record { file = record { layout = after_loss s m.id; activity = Settles Waits }; entries = entry.Left (file_id n) m.id cause ∷ []; uids = 0; names = 0 })) where
  module _ (d : CopyState) (h : IsFile net journal n (record { layout = s; activity = Copies d })) where
    thrown : (replaced : Option MirrorId) (cause : LeftCause) → IsNotSource s.live replaced → Right (target_left (file_id n) s d fresh cause replaced)
    thrown None cause not_source = copied_right d h
    thrown (Some id) cause not_source = lost_right d id cause h not_source

    source_gone : (live : List Mirror) → s.live ≡ live → (cause : LeftCause) → Right (source_left (file_id n) s live cause (Copies d))
    source_gone [] is cause = same_copy d h
    source_gone (m ∷ live) is cause =
        cond_both (is_last_live s.live) (stays s (Copies d)) (record { file = record { layout = after_loss s m.id; activity = Settles Waits }; entries = entry.Left (file_id n) m.id cause ∷ []; uids = 0; names = 0 }) Right
        (λ w. same_copy d h) (λ w. gone_right d m live cause h is w)

    waited : Right (copy_stepped (file_id n) s (goes_on d) fresh (cond (has_outcome d) AllHold Waiting))
    waited =
        cond_both (has_outcome d) AllHold Waiting (λ (step : CopyStep). Right (copy_stepped (file_id n) s (goes_on d) fresh step))
        (λ e. copied_right (goes_on d) (goes_on_ok net n journal s d h)) (λ e. same_copy (goes_on d) (goes_on_ok net n journal s d h))

  module _ (c : CopyState) (h : IsFile net journal n (record { layout = s; activity = Copies c })) where
    abbrev RightAfter : CopyAfter → Type 0
    RightAfter x = Right (copy_stepped (file_id n) s x.copy fresh x.step)

    no_call : RightAfter (stranger c)
    no_call = same_copy c h

    -- ---- a target

    stepped_ok : (place : ℕ) (t : CopyTarget) → slice_get c.targets place ≡ Some t → (x : TargetStep) → IsStepOf net n c.copier c.at c.piece t x → RightAfter (stepped c place x)
    stepped_ok place t there x ok = by_step x.step ok.fits
      where
        by_step : (step : CopyStep) → Fits t step → Right (copy_stepped (file_id n) s (goes_on (with_target c place x.target)) fresh (step_told (with_target c place x.target) step))
        by_step Stranger fits = absurd fits
        by_step Waiting fits = waited (with_target c place x.target) (put_target net n journal s c h place t x.target there ok.on ok.same ok.target)
        by_step (SourceFailed cause) fits = absurd fits
        by_step (TargetFailed server replaced cause) fits =
            let file = put_target net n journal s c h place t x.target there ok.on ok.same ok.target in
            thrown (goes_on (with_target c place x.target)) (goes_on_ok net n journal s (with_target c place x.target) file) replaced cause (subst (IsNotSource s.live) (sym fits) (all_at (λ y. IsNotSource s.live y.replaced) c.targets place t h.busy.sources there))
        by_step AllHold fits = absurd fits

    -- the target whose call has this number, or the READ
    by_xid : (xid : ℕ) (step : CopyTarget → TargetStep) → ((t : CopyTarget) → IsTargetOf net n c.copier c.at c.piece t → is_out xid t.stage ≡ true → IsStepOf net n c.copier c.at c.piece t (step t))
        → (reads : CopyAfter) → RightAfter reads → RightAfter (step_from c step (by_read c xid reads) (target_of c xid))
    by_xid xid step ok reads read_ok = by_found (target_of c xid) refl
      where
        by_found : (found : Option ℕ) → target_of c xid ≡ found → RightAfter (step_from c step (by_read c xid reads) found)
        by_found None is = cond_both (is_out xid c.read) reads (stranger c) RightAfter (λ e. read_ok) (λ e. no_call)
        by_found (Some place) is =
            let t = found_at (λ (x : CopyTarget). is_out xid x.stage) c.targets place is in
            subst (λ (got : Option CopyTarget). RightAfter (step_at c step place got)) (sym t.1)
            (stepped_ok place t.0 t.1 (step t.0) (ok t.0 (all_at (IsTargetOf net n c.copier c.at c.piece) c.targets place t.0 h.busy.targets t.1) t.2))

    -- ---- the source

    kept_read : (read : CallStage) → IsFile net journal n (record { layout = s; activity = Copies (with_read c read) })
    kept_read read = recopied net n journal s c h c.at c.piece c.ended read c.targets h.busy.targets h.busy.sources refl h.busy.short

    failed_read : (kept : CallStage) (cause : LeftCause) → RightAfter (source_fails c kept cause)
    failed_read kept cause = source_gone (with_read c kept) (kept_read kept) s.live refl cause

    read_ok : (reply : DsReplyValue) → RightAfter (read_answered c reply)
    read_ok (Created fileid shown) = failed_read KeptBack (Error odd_status)
    read_ok (Set shown) = failed_read KeptBack (Error odd_status)
    read_ok (Written shown verifier) = failed_read KeptBack (Error odd_status)
    read_ok (Committed shown verifier) = failed_read KeptBack (Error odd_status)
    read_ok (Bytes shown eof bytes) =
        cond_both (is_long c bytes) (source_fails c KeptBack (Error odd_status)) (copy_then (with_piece c eof bytes) Waiting) RightAfter (λ e. failed_read KeptBack (Error odd_status)) (λ e.
        waited (with_piece c eof bytes)
        (recopied net n journal s c h c.at bytes eof Done (map (to_write bytes) c.targets)
        (all_map (IsTargetOf net n c.copier c.at c.piece) (IsTargetOf net n c.copier c.at bytes) (to_write bytes) c.targets (to_write_ok net n c.copier c.at c.piece c.at bytes) h.busy.targets)
        (all_map (λ t. IsNotSource s.live t.replaced) (λ t. IsNotSource s.live t.replaced) (to_write bytes) c.targets (λ t k. same_replaced bytes (IsNotSource s.live) t k) h.busy.sources) (sites_written bytes c.targets) (short_by c bytes e)))
    read_ok (NotSync shown) = failed_read KeptBack (Error odd_status)
    read_ok (Failed status shown) = failed_read KeptBack (Error status)

    read_late_ok : (stage : CallStage) → RightAfter (read_late c stage)
    read_late_ok Waits = no_call
    read_late_ok (Out xid timeouts) =
        cond_both (ltb (timeouts + 1) 3) (record { copy = with_read c (Out xid (timeouts + 1)); step = Waiting }) (source_fails c (KeptOut xid) Timeouts) RightAfter
        (λ e. same_copy (with_read c (Out xid (timeouts + 1))) (kept_read (Out xid (timeouts + 1)))) (λ e. failed_read (KeptOut xid) Timeouts)
    read_late_ok (KeptOut xid) = no_call
    read_late_ok KeptBack = no_call
    read_late_ok Done = no_call
    read_late_ok GivenUp = no_call

    -- ---- answers and timeouts

    pub copy_answered : (xid server : ℕ) (reply : DsReplyValue) → IsAnswer net.packets net.servers server Mds xid reply → RightAfter (on_reply c xid reply)
    copy_answered xid server reply a =
        by_xid xid (λ t. target_answered t reply t.made) (λ t ok out. answered_ok net n c.copier c.at c.piece t ok xid server reply out a) (read_answered c reply) (read_ok reply)

    pub copy_timed_out : (xid : ℕ) → RightAfter (on_timeout c xid)
    copy_timed_out xid = by_xid xid (λ t. target_late t t.stage) (λ t ok out. late_ok net n c.copier c.at c.piece t ok) (read_late c c.read) (read_late_ok c.read)
