-- Every step of the table of phases keeps what holds of a file's periods; so does a call that goes out.
use Rattle.std.proofs.Common.{◌≡◌, ℕ, ◌<◌, true, List, [], ◌∷◌, length, Option, Some, None, refl, sym, ap, subst, ◌∙◌, arith}
use Rattle.std.specs.Prelude.{◌&&◌}
use Rattle.std.specs.List.{AllByRecursion}
use Rattle.std.proofs.lemmas.Bool.{cond_both}
use Rattle.std.proofs.lemmas.Option.{same_Some}
use Rattle.cluster_model.specs.declared.ids.NodeId.TheVariants.{Mds, Client}
use Rattle.cluster_model.specs.declared.ids.Mirror.{Mirror}
use Rattle.cluster_model.specs.declared.entry.Entry.{Entry}
use Rattle.cluster_model.specs.declared.entry.Entry.TheVariants as entry
use Rattle.cluster_model.specs.declared.ds_call.Shown.{Shown}
use Rattle.cluster_model.specs.declared.call_stage.CallStage.{CallStage}
use Rattle.cluster_model.specs.declared.call_stage.CallStage.TheVariants.{Out}
use Rattle.cluster_model.specs.declared.fence_mirror.FenceMirror.{FenceMirror}
use Rattle.cluster_model.specs.declared.layout_state.LayoutState.{LayoutState}
use Rattle.cluster_model.specs.declared.layout_state.CopyKind.{CopyKind}
use Rattle.cluster_model.specs.Mirrors.{are_on_different_servers}
use Rattle.cluster_model.specs.DsCalls.{DsReplyValue, Read}
use Rattle.cluster_model.specs.Fences.{is_out, waits, FenceState, fence_call_at, call_from, waiting_at, outstanding_at, on_reply, on_timeout}
use Rattle.cluster_model.specs.Phases.{with_live, seen_at}
use Rattle.copy_rule.specs.Copies.{CopyState, CopyCall, with_read, may_read_on, target_call_at, waiting_at as copy_waiting, call_from as copy_call_from, on_reply as copy_reply, on_timeout as copy_timeout}
use Rattle.copy_rule.specs.declared.copy_target.CopyTarget.{CopyTarget}
use Rattle.cluster_model.specs.declared.limits.TheConstants.{PIECE_SIZE}
use Rattle.file_rule.specs.MdsFiles.{Creations, Activity, Idle, Makes, Fences, Settles, Copies, MdsFile, FileStep, nothing, in_stage, shown_by_set, seen_by, mirror_at, creation_of, creation_answered, creation_timed_out, shown_by_commit, seen_at_source, settling_answered, settling_timed_out}
use Rattle.file_rule.specs.declared.creation.Creation.{Creation}
use Rattle.file_rule.specs.FilePhases.{FileInput, AsksLayout, OwnWrite, Recall, Returns, Revokes, OwnEnds, Resilver, Answers, TimesOut, Ticks, Sees, kind_of, settles_by, answered_in, timed_out_in, ticked, phase, CallOut, call_out, create_out, create_out_at, creation_waiting, fence_out, settle_out, copy_out}
use Rattle.cluster_laws.specs.Machine.{file_id}
use Rattle.cluster_laws.proofs.Invariant.{Net, If, IsAnswer, IsFile}
use Rattle.cluster_laws.proofs.Lists.{all_set, found_at}
use Rattle.cluster_laws.proofs.PhaseOk.{IsInput}
use Rattle.cluster_laws.proofs.Lives.{apart_seen}
use Rattle.cluster_laws.proofs.Makings.{answer_ok, late_ok, its_call}
use Rattle.cluster_laws.proofs.Known.{Known, fresh_from}
use Rattle.cluster_laws.proofs.PlainSteps.{plain_making, plain_fence}
use Rattle.cluster_laws.proofs.PeriodFacts.{granted_in, sent_still}
use Rattle.cluster_laws.proofs.PeriodStates.{IsFenced, IsMadeSo, IsActive, IsPeriod, PeriodOk, Plain}
use Rattle.cluster_laws.proofs.PeriodRows.{as_before, same, asked, resilver, recall, returns, revokes, own_ends}
use Rattle.cluster_laws.proofs.PeriodFences.{length_seen, timeout_row, reply_row}
use Rattle.cluster_laws.proofs.PeriodMakings.{making_row, answer_good, late_good, kept_good, ticked_making}
use Rattle.cluster_laws.proofs.PeriodCopies.{settling_row, settling_late_row, copy_row, reply_step, timeout_step}

-- as many live mirrors
relive : (whose : ℕ → ℕ) (next_uid : ℕ) (journal : List Entry) (n : ℕ) (s : LayoutState) (live : List Mirror) → length live ≡ length s.live → (activity : Activity) → IsActive whose next_uid journal n s activity → IsActive whose next_uid journal n (with_live s live) activity
relive whose next_uid journal n s live same activity a = by_activity activity a
  where
    fenced : IsFenced journal n s → IsFenced journal n (with_live s live)
    fenced h = record { some = let some = h.some in omega (arith, some, same); owed = h.owed; user = h.user }

    by_activity : (x : Activity) → IsActive whose next_uid journal n s x → IsActive whose next_uid journal n (with_live s live) x
    by_activity Idle h = record { fenced = fenced h.fenced; unused = h.unused }
    by_activity (Makes all) h = record { owed = h.owed; user = h.user; unused = h.unused; stands = h.stands; made = h.made }
    by_activity (Fences fence) h = record { some = let some = h.some in omega (arith, some, same); next = h.next; end = h.end; phase = h.phase; owed = h.owed; fresh = h.fresh; mine = h.mine; unused = h.unused }
    by_activity (Settles stage) h = record { fenced = fenced h.fenced; unused = h.unused }
    by_activity (Copies c) h = record { fenced = fenced h.fenced; unused = h.unused; mine = h.mine; new = h.new }

module _ (net : Net) (whose : ℕ → ℕ) (n next_uid files servers : ℕ) (journal : List Entry) (known : Known net next_uid files journal) (below : AllByRecursion (λ e. If (granted_in e) (λ u. u < next_uid)) journal) where
  abbrev Ok : FileStep → Type 0
  Ok x = PeriodOk whose next_uid journal n x

  module _ (s : LayoutState) where
    abbrev with_it : Activity → MdsFile
    with_it activity = record { layout = s; activity = activity }

    keeps : (activity : Activity) → IsPeriod whose next_uid journal n (with_it activity) → Ok (nothing (with_it activity))
    keeps activity p = Plain refl (as_before whose next_uid journal n _ p)

    -- the source of a copy shows a ctime
    source_seen : (stage : CallStage) (live : List Mirror) (shown : Option Shown) → IsPeriod whose next_uid journal n (with_it (Settles stage)) → are_on_different_servers s.live ≡ true
        → (t : LayoutState) × (t ≡ seen_at_source s live shown) × IsPeriod whose next_uid journal n (record { layout = t; activity = Settles stage }) × (are_on_different_servers t.live ≡ true)
    source_seen stage [] shown p apart = (s, refl, p, apart)
    source_seen stage (m ∷ live) None p apart = (s, refl, p, apart)
    source_seen stage (m ∷ live) (Some shown) p apart = (
      with_live s (seen_at m.id shown.seen s.live),
      refl,
      record { mine = p.mine; active = relive whose next_uid journal n s (seen_at m.id shown.seen s.live) (length_seen m.id shown.seen s.live) (Settles stage) p.active },
      apart_seen m.id shown.seen s.live apart,
    )

    answered_ok : (xid server : ℕ) (reply : DsReplyValue) → IsAnswer net.packets net.servers server Mds xid reply → (activity : Activity) → IsFile net journal n (with_it activity) → IsPeriod whose next_uid journal n (with_it activity) → Ok (answered_in (file_id n) (with_it activity) xid reply (fresh_from net next_uid servers) activity)
    answered_ok xid server reply a Idle h p = keeps Idle p
    answered_ok xid server reply a (Makes all) h p =
        Plain (plain_making n s all (λ c. creation_answered all c reply) (creation_of all xid)).0
        (making_row net whose n next_uid files journal known s p.mine all h p.active (λ c. creation_answered all c reply) xid (λ c ok out. let call = its_call net n all.owner c ok xid server reply out a in answer_ok net n all.owner c ok all a.call reply call.0 call.1) (λ place c there out. answer_good all place c there p.active.stands reply))
    answered_ok xid server reply a (Fences fence) h p =
        Plain (plain_fence n (seen_by s (mirror_at fence (outstanding_at fence xid)) (shown_by_set reply)) (on_reply fence xid reply).fence (on_reply fence xid reply).step).0
        (reply_row whose next_uid n journal s h.apart p.mine fence xid reply p.active)
    answered_ok xid server reply a (Settles stage) h p =
        let seen = source_seen stage s.live (shown_by_commit reply) p h.apart in
        cond_both (is_out xid stage) (settles_by (with_it (Settles stage)) (λ copies. settling_answered (file_id n) (seen_at_source s s.live (shown_by_commit reply)) copies (fresh_from net next_uid servers) reply) (kind_of s.phase)) (nothing (with_it (Settles stage))) Ok
        (λ e. subst (λ (kind : Option CopyKind). Ok (settles_by (with_it (Settles stage)) (λ copies. settling_answered (file_id n) (seen_at_source s s.live (shown_by_commit reply)) copies (fresh_from net next_uid servers) reply) kind)) (sym (ap kind_of h.busy.phase))
        (subst (λ (t : LayoutState). Ok (settling_answered (file_id n) t h.busy.copies (fresh_from net next_uid servers) reply)) seen.1 (settling_row whose n next_uid net.next_name servers journal seen.0 seen.2.mine seen.3 below seen.2.active h.busy.copies reply)))
        (λ e. keeps (Settles stage) p)
    answered_ok xid server reply a (Copies c) h p = copy_row whose n next_uid net.next_name servers journal s p.mine h.apart below c.copier p.active (copy_reply c xid reply) (reply_step s.live c h.busy.sources xid reply)

    timed_ok : (xid : ℕ) (activity : Activity) → IsFile net journal n (with_it activity) → IsPeriod whose next_uid journal n (with_it activity) → Ok (timed_out_in (file_id n) (with_it activity) xid (fresh_from net next_uid servers) activity)
    timed_ok xid Idle h p = keeps Idle p
    timed_ok xid (Makes all) h p =
        Plain (plain_making n s all (creation_timed_out all) (creation_of all xid)).0
        (making_row net whose n next_uid files journal known s p.mine all h p.active (creation_timed_out all) xid (λ c ok out. late_ok net n all.owner c ok all) (λ place c there out. late_good all place c there p.active.stands xid out))
    timed_ok xid (Fences fence) h p = Plain (plain_fence n s (on_timeout fence xid).fence (on_timeout fence xid).step).0 (timeout_row whose next_uid n journal s h.apart p.mine fence xid p.active)
    timed_ok xid (Settles stage) h p =
        cond_both (is_out xid stage) (settling_timed_out (file_id n) s stage) (nothing (with_it (Settles stage))) Ok
        (λ e. settling_late_row whose n next_uid net.next_name servers journal s p.mine h.apart stage p.active) (λ e. keeps (Settles stage) p)
    timed_ok xid (Copies c) h p = copy_row whose n next_uid net.next_name servers journal s p.mine h.apart below c.copier p.active (copy_timeout c xid) (timeout_step s.live c h.busy.sources xid)

    tick_active : (activity : Activity) → IsActive whose next_uid journal n s activity → IsActive whose next_uid journal n s (ticked activity)
    tick_active Idle a = a
    tick_active (Makes all) a = ticked_making journal n s all a
    tick_active (Fences fence) a = a
    tick_active (Settles stage) a = a
    tick_active (Copies c) a = a

  pub phase_row : (f : MdsFile) → IsFile net journal n f → IsPeriod whose next_uid journal n f → (input : FileInput) → IsInput net f input → Ok (phase (file_id n) f input (fresh_from net next_uid servers))
  phase_row f h p (AsksLayout client) brought = asked net whose n next_uid journal below f h p servers (Client client) [] tt f.layout.phase refl
  phase_row f h p (OwnWrite at bytes) brought = asked net whose n next_uid journal below f h p servers Mds (entry.Sent (file_id n) f.layout.cred at bytes ∷ []) (sent_still (file_id n) f.layout.cred at bytes, tt) f.layout.phase refl
  phase_row f h p Recall brought = recall net whose n next_uid journal below f h p servers
  phase_row f h p (Returns client claimed places) brought = returns net whose n next_uid journal below f h p servers client claimed places
  phase_row f h p (Revokes cause) brought = revokes net whose n next_uid journal below f h p servers cause
  phase_row f h p (OwnEnds causes at bytes) brought = own_ends net whose n next_uid journal below f h p servers causes at bytes
  phase_row f h p Resilver brought = resilver net whose n next_uid journal below f h p servers f.layout.phase refl
  phase_row f h p (Answers xid reply) brought = answered_ok f.layout xid brought.server reply brought.answer f.activity h p
  phase_row f h p (TimesOut xid) brought = timed_ok f.layout xid f.activity h p
  phase_row f h p Ticks brought = Plain refl (as_before whose next_uid journal n _ (record { mine = p.mine; active = tick_active f.layout f.activity p.active }))
  phase_row f h p (Sees id seen) brought = Plain refl (as_before whose next_uid journal n _ (record { mine = p.mine; active = relive whose next_uid journal n f.layout (seen_at id seen f.layout.live) (length_seen id seen f.layout.live) f.activity p.active }))

-- ---- a call goes out

module _ (whose : ℕ → ℕ) (n next_uid xid : ℕ) (journal : List Entry) (s : LayoutState) where
  abbrev Still : CallOut → Type 0
  Still c = IsPeriod whose next_uid journal n c.file

  making_out : (all : Creations) → IsPeriod whose next_uid journal n (record { layout = s; activity = Makes all }) → (got : Option ℕ) → creation_waiting all ≡ got → (c : CallOut) → create_out (record { layout = s; activity = Makes all }) all xid got ≡ Some c → Still c
  making_out all p None at c is = absurd cc
  making_out all p (Some place) at c is =
      let x = found_at (λ (y : Creation). waits y.stage) all.items place at in
      let good = kept_good all place x.0 x.1 p.active.stands (Out xid 0) refl (λ wrong. absurd cc) in
      subst Still (same_Some _ c (sym (ap (create_out_at (record { layout = s; activity = Makes all }) all xid place) x.1) ∙ is))
      (record { mine = p.mine; active = record { owed = p.active.owed; user = p.active.user; unused = p.active.unused; stands = good.0; made = all_set IsMadeSo all.items place (in_stage x.0 (Out xid 0)) p.active.made good.1 } })

  fence_out_period : (fence : FenceState) → IsPeriod whose next_uid journal n (record { layout = s; activity = Fences fence }) → (got : Option ℕ) → waiting_at fence ≡ got → (c : CallOut) → fence_out (record { layout = s; activity = Fences fence }) (call_from fence xid got) ≡ Some c → Still c
  fence_out_period fence p None at c is = absurd cc
  fence_out_period fence p (Some place) at c is =
      let m = found_at (λ (y : FenceMirror). waits y.stage) fence.mirrors place at in
      subst Still (same_Some _ c (sym (ap (λ o. fence_out (record { layout = s; activity = Fences fence }) (fence_call_at fence xid place o)) m.1) ∙ is)) (record { mine = p.mine; active = p.active })

  settle_period : (stage : CallStage) → IsPeriod whose next_uid journal n (record { layout = s; activity = Settles stage }) → (live : List Mirror) (c : CallOut) → settle_out (record { layout = s; activity = Settles stage }) xid live ≡ Some c → Still c
  settle_period stage p [] c is = absurd cc
  settle_period stage p (m ∷ live) c is = subst Still (same_Some _ c is) (record { mine = p.mine; active = p.active })

  copy_period : (d : CopyState) → IsPeriod whose next_uid journal n (record { layout = s; activity = Copies d }) → (got : Option ℕ) → copy_waiting d ≡ got → (c : CallOut) → copy_out (record { layout = s; activity = Copies d }) (copy_call_from d xid got) ≡ Some c → Still c
  copy_period d p None at c is =
      cond_both (waits d.read && may_read_on d) (Some (record { copy = with_read d (Out xid 0); server = d.source.server; uid = 0; call = Read d.source.fileid d.at PIECE_SIZE })) None
      (λ (o : Option CopyCall). copy_out (record { layout = s; activity = Copies d }) o ≡ Some c → Still c) (λ e same_call. subst Still (same_Some _ c same_call) (record { mine = p.mine; active = p.active })) (λ e none. absurd cc) is
  copy_period d p (Some place) at c is =
      let t = found_at (λ (y : CopyTarget). waits y.stage) d.targets place at in
      subst Still (same_Some _ c (sym (ap (λ o. copy_out (record { layout = s; activity = Copies d }) (target_call_at d xid place o)) t.1) ∙ is)) (record { mine = p.mine; active = p.active })

  pub out_period : (activity : Activity) → IsPeriod whose next_uid journal n (record { layout = s; activity = activity }) → (c : CallOut) → call_out (record { layout = s; activity = activity }) xid ≡ Some c → Still c
  out_period Idle p c is = absurd cc
  out_period (Makes all) p c is = making_out all p (creation_waiting all) refl c is
  out_period (Fences fence) p c is = fence_out_period fence p (waiting_at fence) refl c is
  out_period (Settles stage) p c is =
      cond_both (waits stage) (settle_out (record { layout = s; activity = Settles stage }) xid s.live) None (λ (o : Option CallOut). o ≡ Some c → Still c) (λ w. settle_period stage p s.live c) (λ w e. absurd cc) is
  out_period (Copies d) p c is = copy_period d p (copy_waiting d) refl c is
