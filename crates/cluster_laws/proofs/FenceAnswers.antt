-- A file whose fence is answered, or waits.
use Rattle.std.proofs.Common.{◌≡◌, ℕ, ◌+◌, ◌<◌, true, false, eqb, ltb, cond, not, List, [], ◌∷◌, map, filter, Option, Some, None, refl, sym, ap, subst, ◌∙◌}
use Rattle.std.specs.Prelude.{slice_get}
use Rattle.std.proofs.lemmas.Bool.{cond_both}
use Rattle.cluster_model.specs.declared.ids.NodeId.TheVariants.{Mds}
use Rattle.cluster_model.specs.declared.phase.LeftCause.TheVariants.{Unsynced}
use Rattle.cluster_model.specs.declared.entry.Entry.{Entry}
use Rattle.cluster_model.specs.declared.ds_call.Shown.{Shown}
use Rattle.cluster_model.specs.declared.call_stage.CallStage.{CallStage}
use Rattle.cluster_model.specs.declared.call_stage.CallStage.TheVariants.{Waits, Out, KeptOut, KeptBack, Done, GivenUp}
use Rattle.cluster_model.specs.declared.fence_mirror.FenceMirror.{FenceMirror}
use Rattle.cluster_model.specs.declared.layout_state.LayoutState.{LayoutState}
use Rattle.cluster_model.specs.DsCalls.{DsCallValue, SetAttr, DsReplyValue, Created, Set, Written, Committed, Bytes, NotSync, Failed}
use Rattle.cluster_model.specs.Fences.{is_out, stage_at_tick, max_unsynced, MirrorStep, having_seen, acknowledged, failed_by, out_of_sync, answered, stage_timed_out, timed_out, at_tick, FenceState, outstanding_at, with_mirror, step_at, step_from, after_tick}
use Rattle.copy_rule.specs.Copies.{is_given_up}
use Rattle.file_rule.specs.MdsFiles.{Activity, Fences, fence_stepped, shown_by_set, seen_by, mirror_at, fence_answered, fence_timed_out}
use Rattle.cluster_laws.specs.Machine.{file_id}
use Rattle.cluster_laws.proofs.Lists.{all_at, all_set, found_at}
use Rattle.cluster_laws.proofs.Invariant.{Net, IsThisCall, IsGiven, IsReplyTo, IsAnswer, IsInFence, kept_ids, IsFile}
use Rattle.cluster_laws.proofs.Rows.{RowOk}
use Rattle.cluster_laws.proofs.Lives.{all_map}
use Rattle.cluster_laws.proofs.Seen.{seen_ok}
use Rattle.cluster_laws.proofs.FenceDone.{IsExact}
use Rattle.cluster_laws.proofs.FenceSteps.{nothing_new, answered_ok, timed_ok, ticked_ok, head_ids, kept_set, stepped_ok}

-- ---- who it is

not_given_up : (stage : CallStage) (xid : ℕ) → is_out xid stage ≡ true → is_given_up stage ≡ false
not_given_up Waits xid o = absurd cc
not_given_up (Out x timeouts) xid o = refl
not_given_up (KeptOut x) xid o = refl
not_given_up KeptBack xid o = absurd cc
not_given_up Done xid o = absurd cc
not_given_up GivenUp xid o = absurd cc

-- a mirror behind a step is the same one, and is not given up
abbrev pub IsSame : FenceMirror → FenceMirror → Type 0
IsSame m new = (new.id ≡ m.id) × (is_given_up new.stage ≡ false)

seen_same : (m : FenceMirror) (shown : Option Shown) → ((having_seen m shown).id ≡ m.id)
seen_same m None = refl
seen_same m (Some shown) = refl

answered_same : (fresh : ℕ) (m : FenceMirror) (reply : DsReplyValue) → IsSame m (answered fresh m reply).mirror
answered_same fresh m (Created fileid shown) = (refl, refl)
answered_same fresh m (Set shown) = (seen_same m shown, refl)
answered_same fresh m (Written shown verifier) = (refl, refl)
answered_same fresh m (Committed shown verifier) = (refl, refl)
answered_same fresh m (Bytes shown eof bytes) = (refl, refl)
answered_same fresh m (NotSync shown) =
    cond_both (eqb shown.owner.0 fresh) (acknowledged (having_seen m (Some shown))) (out_of_sync (having_seen m (Some shown))) (λ (s : MirrorStep). IsSame m s.mirror) (λ e. (refl, refl))
    (λ e. cond_both (ltb (m.unsynced + 1) max_unsynced) _ (failed_by (having_seen m (Some shown)) Unsynced) (λ (s : MirrorStep). IsSame m s.mirror) (λ g. (refl, refl)) (λ g. (refl, refl)))
answered_same fresh m (Failed status shown) = (seen_same m shown, refl)

timed_same : (m : FenceMirror) (xid : ℕ) → is_out xid m.stage ≡ true → IsSame m (timed_out m).mirror
timed_same m xid o = by_stage m.stage refl
  where
    by_stage : (stage : CallStage) → m.stage ≡ stage → IsSame m (stage_timed_out m stage).mirror
    by_stage Waits is = (refl, not_given_up m.stage xid o)
    by_stage (Out x timeouts) is = cond_both (ltb (timeouts + 1) 3) _ _ (λ (s : MirrorStep). IsSame m s.mirror) (λ e. (refl, refl)) (λ e. (refl, refl))
    by_stage (KeptOut x) is = (refl, not_given_up m.stage xid o)
    by_stage KeptBack is = (refl, not_given_up m.stage xid o)
    by_stage Done is = (refl, not_given_up m.stage xid o)
    by_stage GivenUp is = (refl, not_given_up m.stage xid o)

-- ---- a file whose fence takes a step

module _ (net : Net) (n : ℕ) (journal : List Entry) (s : LayoutState) (fence : FenceState) (h : IsFile net journal n (record { layout = s; activity = Fences fence })) where
  -- another state of one of its mirrors
  pub put_mirror : (place : ℕ) (m new : FenceMirror) → slice_get fence.mirrors place ≡ Some m → IsSame m new → is_given_up m.stage ≡ false → IsInFence net n fence.cred new
      → IsFile net journal n (record { layout = s; activity = Fences (with_mirror fence place new) })
  put_mirror place m new there same up ok = record {
    live = h.live;
    apart = h.apart;
    mirrors = h.mirrors;
    cred = h.cred;
    top = h.top;
    busy = record {
      next = h.busy.next;
      end = h.busy.end;
      phase = h.busy.phase;
      fresh = h.busy.fresh;
      top = h.busy.top;
      later = h.busy.later;
      mirrors = all_set (IsInFence net n fence.cred) fence.mirrors place new h.busy.mirrors ok;
      ids = h.busy.ids ∙ sym (kept_set fence.mirrors place m new there same.0 (same.1 ∙ sym up));
    };
  }

module _ (net : Net) (n next_uid : ℕ) (tops : net.drawn.top n < next_uid) (journal : List Entry) (s : LayoutState) (fence : FenceState) (h : IsFile net journal n (record { layout = s; activity = Fences fence })) (exact : IsExact net journal) where
  -- ---- an answer

  module _ (xid server : ℕ) (reply : DsReplyValue) (answer : IsAnswer net.packets net.servers server Mds xid reply) where
    seen_then : (m : FenceMirror) (shown : Option Shown) (activity : Activity) → IsGiven net.servers m.id.server shown → IsFile net journal n (record { layout = s; activity = activity }) → IsFile net journal n (record { layout = seen_by s (Some m) shown; activity = activity })
    seen_then m None activity g k = k
    seen_then m (Some shown) activity g k = seen_ok net journal n s m.id shown.seen g activity k

    given_by : (call : DsCallValue) (r : DsReplyValue) (k : ℕ) → IsReplyTo net.servers k call r → IsGiven net.servers k (shown_by_set r)
    given_by call (Created fileid shown) k x = tt
    given_by call (Set shown) k x = x.1
    given_by call (Written shown verifier) k x = tt
    given_by call (Committed shown verifier) k x = tt
    given_by call (Bytes shown eof bytes) k x = tt
    given_by call (NotSync shown) k x = x.1
    given_by call (Failed status shown) k x = x

    abbrev rule : FenceMirror → MirrorStep
    rule m = answered fence.cred m reply

    abbrev Right : Option ℕ → Type 0
    Right found = RowOk net journal n next_uid (fence_stepped (file_id n) (seen_by s (mirror_at fence found) (shown_by_set reply)) (step_from fence rule found).fence (step_from fence rule found).step).file
        (fence_stepped (file_id n) (seen_by s (mirror_at fence found) (shown_by_set reply)) (step_from fence rule found).fence (step_from fence rule found).step).entries

    abbrev RightAt : ℕ → Option FenceMirror → Type 0
    RightAt place got = RowOk net journal n next_uid (fence_stepped (file_id n) (seen_by s got (shown_by_set reply)) (step_at fence rule place got).fence (step_at fence rule place got).step).file
        (fence_stepped (file_id n) (seen_by s got (shown_by_set reply)) (step_at fence rule place got).fence (step_at fence rule place got).step).entries

    -- the mirror whose call this answers
    of_mirror : (place : ℕ) (m : FenceMirror) → slice_get fence.mirrors place ≡ Some m → is_out xid m.stage ≡ true → RightAt place (Some m)
    of_mirror place m there out =
        let in_fence = all_at (IsInFence net n fence.cred) fence.mirrors place m h.busy.mirrors there in
        let call = in_fence.out xid out in
        let this = all_at (IsThisCall xid m.id.server (SetAttr m.id.fileid fence.cred call.guard)) net.packets answer.sent.place _ call.calls answer.sent.there refl in
        let shows : IsReplyTo net.servers m.id.server answer.call reply = subst (λ (k : ℕ). IsReplyTo net.servers k answer.call reply) this.0 answer.shows in
        let new = answered_ok net n fence.cred m call.guard answer.call reply this.1 shows in_fence in
        let file = put_mirror net n journal s fence h place m (rule m).mirror there (answered_same fence.cred m reply) (not_given_up m.stage xid out) new in
        stepped_ok net n next_uid tops journal (seen_by s (Some m) (shown_by_set reply)) (with_mirror fence place (rule m).mirror) (seen_then m (shown_by_set reply) _ (given_by answer.call reply m.id.server shows) file) exact (rule m).step

    pub reply_ok : RowOk net journal n next_uid (fence_answered (file_id n) s fence xid reply).file (fence_answered (file_id n) s fence xid reply).entries
    reply_ok = by_found (outstanding_at fence xid) refl
      where
        by_found : (found : Option ℕ) → outstanding_at fence xid ≡ found → Right found
        by_found None is = nothing_new net journal n next_uid _ h
        by_found (Some place) is =
            let m = found_at (λ (x : FenceMirror). is_out xid x.stage) fence.mirrors place is in
            subst (RightAt place) (sym m.1) (of_mirror place m.0 m.1 m.2)

  -- ---- a timeout

  module _ (xid : ℕ) where
    abbrev RightThen : Option ℕ → Type 0
    RightThen found = RowOk net journal n next_uid (fence_stepped (file_id n) s (step_from fence timed_out found).fence (step_from fence timed_out found).step).file (fence_stepped (file_id n) s (step_from fence timed_out found).fence (step_from fence timed_out found).step).entries

    abbrev RightThenAt : ℕ → Option FenceMirror → Type 0
    RightThenAt place got = RowOk net journal n next_uid (fence_stepped (file_id n) s (step_at fence timed_out place got).fence (step_at fence timed_out place got).step).file (fence_stepped (file_id n) s (step_at fence timed_out place got).fence (step_at fence timed_out place got).step).entries

    late : (place : ℕ) (m : FenceMirror) → slice_get fence.mirrors place ≡ Some m → is_out xid m.stage ≡ true → RightThenAt place (Some m)
    late place m there out =
        let in_fence = all_at (IsInFence net n fence.cred) fence.mirrors place m h.busy.mirrors there in
        let file = put_mirror net n journal s fence h place m (timed_out m).mirror there (timed_same m xid out) (not_given_up m.stage xid out) (timed_ok net n fence.cred m in_fence) in
        stepped_ok net n next_uid tops journal s (with_mirror fence place (timed_out m).mirror) file exact (timed_out m).step

    pub timeout_ok : RowOk net journal n next_uid (fence_timed_out (file_id n) s fence xid).file (fence_timed_out (file_id n) s fence xid).entries
    timeout_ok = by_found (outstanding_at fence xid) refl
      where
        by_found : (found : Option ℕ) → outstanding_at fence xid ≡ found → RightThen found
        by_found None is = nothing_new net journal n next_uid _ h
        by_found (Some place) is =
            let m = found_at (λ (x : FenceMirror). is_out xid x.stage) fence.mirrors place is in
            subst (RightThenAt place) (sym m.1) (late place m.0 m.1 m.2)

  -- ---- a tick

  given_tick : (stage : CallStage) → is_given_up (stage_at_tick stage) ≡ is_given_up stage
  given_tick Waits = refl
  given_tick (Out xid timeouts) = refl
  given_tick (KeptOut xid) = refl
  given_tick KeptBack = refl
  given_tick Done = refl
  given_tick GivenUp = refl

  kept_ticked : (mirrors : List FenceMirror) → kept_ids (map at_tick mirrors) ≡ kept_ids mirrors
  kept_ticked [] = refl
  kept_ticked (m ∷ mirrors) =
      head_ids (is_given_up (stage_at_tick m.stage)) (at_tick m) (filter (λ y. not (is_given_up y.stage)) (map at_tick mirrors))
      ∙ ap (λ b. cond (not b) (m.id ∷ kept_ids (map at_tick mirrors)) (kept_ids (map at_tick mirrors))) (given_tick m.stage)
      ∙ ap (λ ks. cond (not (is_given_up m.stage)) (m.id ∷ ks) ks) (kept_ticked mirrors)
      ∙ sym (head_ids (is_given_up m.stage) m (filter (λ y. not (is_given_up y.stage)) mirrors))

  pub tick_ok : IsFile net journal n (record { layout = s; activity = Fences (after_tick fence) })
  tick_ok = record {
    live = h.live;
    apart = h.apart;
    mirrors = h.mirrors;
    cred = h.cred;
    top = h.top;
    busy = record {
      next = h.busy.next;
      end = h.busy.end;
      phase = h.busy.phase;
      fresh = h.busy.fresh;
      top = h.busy.top;
      later = h.busy.later;
      mirrors = all_map (IsInFence net n fence.cred) (IsInFence net n fence.cred) at_tick fence.mirrors (ticked_ok net n fence.cred) h.busy.mirrors;
      ids = h.busy.ids ∙ sym (kept_ticked fence.mirrors);
    };
  }
