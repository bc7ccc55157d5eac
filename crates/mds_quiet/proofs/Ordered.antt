-- That whatever a file has under way stands in the order of its live mirrors: the parts of an input of the table of phases.
use Rattle.std.proofs.Common.{◌≡◌, ◌≢◌, ◌⊎◌, inl, inr, ℕ, zero, suc, ◌+◌, Bool, true, false, cond, List, [], ◌∷◌, ◌++◌, map, filter, drop, set, Option, Some, None, refl, sym, ap, subst, ◌∙◌}
use Rattle.std.specs.Prelude.{◌==◌, ◌&&◌, ◌||◌, not, nat_lt, slice_get}
use Rattle.std.specs.Option.{option_to_list}
use Rattle.std.specs.List.{AllByRecursion, list_any, flat_map}
use Rattle.std.proofs.lemmas.Bool.{cond_both, and_parts, eq-eqb}
use Rattle.std.proofs.lemmas.Option.{none-some, same_Some}
use Rattle.cluster_model.specs.declared.limits.TheConstants.{MAX_TIMEOUTS}
use Rattle.cluster_model.specs.declared.tick.Tick.{Tick}
use Rattle.cluster_model.specs.declared.ids.Mirror.{Mirror}
use Rattle.cluster_model.specs.declared.ids.MirrorId.{MirrorId}
use Rattle.cluster_model.specs.declared.phase.LeftCause.{LeftCause}
use Rattle.cluster_model.specs.declared.phase.LeftCause.TheVariants.{Error, Timeouts}
use Rattle.cluster_model.specs.declared.ds_call.Shown.{Shown}
use Rattle.cluster_model.specs.declared.call_stage.CallStage.{CallStage}
use Rattle.cluster_model.specs.declared.call_stage.CallStage.TheVariants.{Waits, Out, KeptOut, KeptBack, Done, GivenUp}
use Rattle.cluster_model.specs.declared.fence_mirror.FenceMirror.{FenceMirror}
use Rattle.cluster_model.specs.declared.layout_state.LayoutState.{LayoutState}
use Rattle.cluster_model.specs.declared.layout_state.CopyKind.{CopyKind}
use Rattle.cluster_model.specs.declared.layout_state.CopyKind.TheVariants.{Replacing, Adding}
use Rattle.cluster_model.specs.DsCalls.{DsReplyValue, Created, Set, Written, Committed, Bytes, NotSync, Failed}
use Rattle.cluster_model.specs.Journal.{is_mirror}
use Rattle.cluster_model.specs.Mirrors.{has_server, are_on_different_servers}
use Rattle.cluster_model.specs.Fences.{waits, is_out, is_over, odd_status, stage_at_tick, max_unsynced, MirrorStep, with_stage, having_seen, acknowledged, out_of_sync, answered, stage_timed_out, timed_out, at_tick, dropped_if, FenceState, FenceAfter, fence_of, outstanding_at, step_from, step_at, on_reply, on_timeout, after_tick, without}
use Rattle.cluster_model.specs.Phases.{ids_of, but_for, seen_at}
use Rattle.copy_rule.specs.declared.copy_target.Target.{Target}
use Rattle.copy_rule.specs.declared.copy_target.CopyTarget.{CopyTarget}
use Rattle.copy_rule.specs.declared.copy_target.CopyStep.{CopyStep}
use Rattle.copy_rule.specs.declared.copy_target.CopyStep.TheVariants as copy_step
use Rattle.copy_rule.specs.Copies.{CopyState, CopyAfter, TargetStep, is_given_up, to_make, having_made, seen_then, having_written, create_answered, write_answered, target_answered, target_late, target_fails, goes_on_with, stage_for, to_write, with_target, with_read, with_piece, with_next, has_outcome, have_answered, step_told, copy_then, stranger, source_fails, is_long, read_answered, read_late, target_of, by_read}
use Rattle.copy_rule.specs.Copies as copy
use Rattle.file_rule.specs.declared.creation.Creation.{Creation}
use Rattle.file_rule.specs.declared.fresh.Fresh.{Fresh}
use Rattle.file_rule.specs.MdsFiles.{Creations, Activity, Idle, Makes, Fences, Settles, Copies, MdsFile, in_stage, creation_answered, replacing, adding, plan_of}
use Rattle.cluster_laws.proofs.Lists.{all_at, all_set, all_more}
use Rattle.cluster_laws.proofs.Lives.{all_map, seen_id, ids_seen, ids_but_for}
use Rattle.cluster_laws.proofs.Invariant.{are_apart, Site, site_of, site_servers, FitsIn, IsPlan, kept_ids}
use Rattle.cluster_laws.proofs.Invariant as inv
use Rattle.cluster_laws.proofs.Makings.{servers_set}
use Rattle.cluster_laws.proofs.Plans.{plan_more, none_left, none_seen, sites_set, sites_written, plan_ok, IsOnServer}
use Rattle.mds_quiet.proofs.FileOuts.{off_on}
use Rattle.mds_quiet.proofs.OwnCalls.{FoundOff, found_off}
use Rattle.mds_quiet.proofs.Parts.{IsPart, part_map, part_filter, part_of_part, part_drop, part_set, part_without, servers_of}

-- ---- what is in order

-- the servers of the targets that are left
abbrev pub is_left : CopyTarget → Bool
is_left t = not (is_given_up t.stage)

abbrev pub kept_servers : List CopyTarget → List ℕ
kept_servers targets = map (λ (t : CopyTarget). t.server) (filter is_left targets)

-- a target adds a mirror, on a server without a live one
abbrev pub IsAdded : List Mirror → CopyTarget → Type 0
IsAdded live t = (t.replaced ≡ None) × (has_server live t.server ≡ false)

pub record AreTargets (live : List Mirror) (targets : List CopyTarget) : Type 0 where
  pub on : AllByRecursion IsOnServer targets
  pub plan : IsPlan live (map site_of targets)
  pub order : IsPart (kept_servers targets) (servers_of live) ⊎ AllByRecursion (IsAdded live) targets

abbrev pub IsMadeThere : Creation → Type 0
IsMadeThere c = (m : Mirror) → c.made ≡ Some m → m.id.server ≡ c.server

pub record AreCreations (live : List Mirror) (items : List Creation) : Type 0 where
  pub none : live ≡ []
  pub on : AllByRecursion IsMadeThere items
  pub apart : are_apart (inv.servers_of items) ≡ true

abbrev pub IsBusy : List Mirror → Activity → Type 0
IsBusy live Idle = Unit {0}
IsBusy live (Makes all) = AreCreations live all.items
IsBusy live (Fences fence) = IsPart (kept_ids fence.mirrors) (ids_of live)
IsBusy live (Settles stage) = Unit {0}
IsBusy live (Copies c) = AreTargets live c.targets

pub record IsOrdered (f : MdsFile) : Type 0 where
  pub apart : are_on_different_servers f.layout.live ≡ true
  pub busy : IsBusy f.layout.live f.activity

-- ---- ctimes that are seen

pub servers_seen : (id : MirrorId) (tick : Tick) (live : List Mirror) → servers_of (seen_at id tick live) ≡ servers_of live
servers_seen id tick [] = refl
servers_seen id tick (m ∷ live) = ap (λ (k : MirrorId). k.server ∷ servers_of (seen_at id tick live)) (seen_id id tick m) ∙ ap (λ (l : List ℕ). m.id.server ∷ l) (servers_seen id tick live)

pub seen_busy : (id : MirrorId) (tick : Tick) (live : List Mirror) (a : Activity) → IsBusy live a → IsBusy (seen_at id tick live) a
seen_busy id tick live Idle i = tt
seen_busy id tick live (Makes all) i = record { none = ap (seen_at id tick) i.none; on = i.on; apart = i.apart }
seen_busy id tick live (Fences fence) i = subst (IsPart (kept_ids fence.mirrors)) (sym (ids_seen id tick live)) i
seen_busy id tick live (Settles stage) i = tt
seen_busy id tick live (Copies c) i = record { on = i.on; plan = plan_more live (seen_at id tick live) (none_seen id tick live) (map site_of c.targets) i.plan; order = by_order i.order }
  where
    by_order : IsPart (kept_servers c.targets) (servers_of live) ⊎ AllByRecursion (IsAdded live) c.targets → IsPart (kept_servers c.targets) (servers_of (seen_at id tick live)) ⊎ AllByRecursion (IsAdded (seen_at id tick live)) c.targets
    by_order (inl part) = inl (subst (IsPart (kept_servers c.targets)) (sym (servers_seen id tick live)) part)
    by_order (inr none) = inr (all_more (IsAdded live) (IsAdded (seen_at id tick live)) c.targets (λ t its. (its.0, none_seen id tick live t.server its.1)) none)

-- ---- CREATEs

pub creations_set : (live : List Mirror) (items : List Creation) (place : ℕ) (c new : Creation) → slice_get items place ≡ Some c → new.server ≡ c.server → (IsMadeThere c → IsMadeThere new) → AreCreations live items → AreCreations live (set items place new)
creations_set live items place c new at same made i = record {
  none = i.none;
  on = all_set IsMadeThere items place new i.on (made (all_at IsMadeThere items place c i.on at));
  apart = ap are_apart (servers_set items place c new at same) ∙ i.apart;
}

pub answered_there : (all : Creations) (c : Creation) (reply : DsReplyValue) → IsMadeThere c → IsMadeThere (creation_answered all c reply)
answered_there all c (Created fileid shown) i = λ m is. ap (λ (x : Mirror). x.id.server) (sym (same_Some _ m is))
answered_there all c (Set shown) i = i
answered_there all c (Written shown verifier) i = i
answered_there all c (Committed shown verifier) i = i
answered_there all c (Bytes shown eof bytes) i = i
answered_there all c (NotSync shown) i = i
answered_there all c (Failed status shown) i = i

pub ticked_creations : (live : List Mirror) (items : List Creation) → AreCreations live items → AreCreations live (map (λ (c : Creation). in_stage c (stage_at_tick c.stage)) items)
ticked_creations live items i = record { none = i.none; on = all_map IsMadeThere IsMadeThere (λ (c : Creation). in_stage c (stage_at_tick c.stage)) items (λ c its. its) i.on; apart = ap are_apart (same items) ∙ i.apart }
  where
    same : (list : List Creation) → inv.servers_of (map (λ (c : Creation). in_stage c (stage_at_tick c.stage)) list) ≡ inv.servers_of list
    same [] = refl
    same (c ∷ list) = ap (λ (l : List ℕ). c.server ∷ l) (same list)

-- the mirrors that were made are on different servers
made_on : (k : ℕ) (items : List Creation) → AllByRecursion IsMadeThere items → list_any (λ (s : ℕ). s == k) (inv.servers_of items) ≡ false → has_server (flat_map (λ (c : Creation). option_to_list c.made) items) k ≡ false
made_on k [] on none = refl
made_on k (c ∷ items) on none = by_made c.made refl (made_on k items on.1 (rest (c.server == k) none))
  where
    rest : (b : Bool) → (b || list_any (λ (s : ℕ). s == k) (inv.servers_of items)) ≡ false → list_any (λ (s : ℕ). s == k) (inv.servers_of items) ≡ false
    rest true e = absurd cc
    rest false e = e

    first : (b : Bool) → (b || list_any (λ (s : ℕ). s == k) (inv.servers_of items)) ≡ false → b ≡ false
    first true e = absurd cc
    first false e = refl

    by_made : (o : Option Mirror) → c.made ≡ o → has_server (flat_map (λ (x : Creation). option_to_list x.made) items) k ≡ false → has_server (option_to_list o ++ flat_map (λ (x : Creation). option_to_list x.made) items) k ≡ false
    by_made None is ih = ih
    by_made (Some m) is ih =
        ap (λ (b : Bool). b || has_server (flat_map (λ (x : Creation). option_to_list x.made) items) k) (ap (λ (s : ℕ). s == k) (on.0 m is) ∙ first (c.server == k) none) ∙ ih

pub made_apart : (items : List Creation) → AllByRecursion IsMadeThere items → are_apart (inv.servers_of items) ≡ true → are_on_different_servers (flat_map (λ (c : Creation). option_to_list c.made) items) ≡ true
made_apart [] on apart = refl
made_apart (c ∷ items) on apart =
    let parts = and_parts (not (list_any (λ (s : ℕ). s == c.server) (inv.servers_of items))) (are_apart (inv.servers_of items)) apart in
    by_made c.made refl (not_any (list_any (λ (s : ℕ). s == c.server) (inv.servers_of items)) parts.0) (made_apart items on.1 parts.1)
  where
    not_any : (b : Bool) → not b ≡ true → b ≡ false
    not_any true is = absurd (off_on is)
    not_any false is = refl

    by_made : (o : Option Mirror) → c.made ≡ o → list_any (λ (s : ℕ). s == c.server) (inv.servers_of items) ≡ false → are_on_different_servers (flat_map (λ (x : Creation). option_to_list x.made) items) ≡ true
        → are_on_different_servers (option_to_list o ++ flat_map (λ (x : Creation). option_to_list x.made) items) ≡ true
    by_made None is none ih = ih
    by_made (Some m) is none ih =
        let other : has_server (flat_map (λ (x : Creation). option_to_list x.made) items) m.id.server ≡ false =
        made_on m.id.server items on.1 (ap (λ (k : ℕ). list_any (λ (s : ℕ). s == k) (inv.servers_of items)) (on.0 m is) ∙ none) in
        ap (λ (b : Bool). not b && are_on_different_servers (flat_map (λ (x : Creation). option_to_list x.made) items)) other ∙ ih

-- ---- a fence

out_left : (xid : ℕ) (stage : CallStage) → is_out xid stage ≡ true → is_given_up stage ≡ false
out_left xid Waits is = refl
out_left xid (Out own timeouts) is = refl
out_left xid (KeptOut own) is = refl
out_left xid KeptBack is = refl
out_left xid Done is = refl
out_left xid GivenUp is = absurd (off_on is)

pub waits_left : (stage : CallStage) → waits stage ≡ true → is_given_up stage ≡ false
waits_left Waits is = refl
waits_left (Out own timeouts) is = refl
waits_left (KeptOut own) is = refl
waits_left KeptBack is = refl
waits_left Done is = refl
waits_left GivenUp is = absurd (off_on is)

pub fence_set : (mirrors : List FenceMirror) (place : ℕ) (m new : FenceMirror) (ids : List MirrorId) → slice_get mirrors place ≡ Some m → new.id ≡ m.id → is_given_up m.stage ≡ false → IsPart (kept_ids mirrors) ids → IsPart (kept_ids (set mirrors place new)) ids
fence_set mirrors place m new ids at same kept i =
    part_of_part (kept_ids (set mirrors place new)) (kept_ids mirrors) ids (part_set (λ (x : FenceMirror). x.id) (λ (x : FenceMirror). not (is_given_up x.stage)) mirrors place m new at same (ap not kept)) i

seen_same : (m : FenceMirror) (shown : Option Shown) → (having_seen m shown).id ≡ m.id
seen_same m None = refl
seen_same m (Some shown) = refl

answered_same : (fresh : ℕ) (m : FenceMirror) (reply : DsReplyValue) → (answered fresh m reply).mirror.id ≡ m.id
answered_same fresh m (Created fileid shown) = refl
answered_same fresh m (Set shown) = seen_same m shown
answered_same fresh m (Written shown verifier) = refl
answered_same fresh m (Committed shown verifier) = refl
answered_same fresh m (Bytes shown eof bytes) = refl
answered_same fresh m (NotSync shown) =
    cond_both (shown.owner.0 == fresh) (acknowledged (having_seen m (Some shown))) (out_of_sync (having_seen m (Some shown))) (λ (s : MirrorStep). s.mirror.id ≡ m.id) (λ on. refl)
    (λ off. cond_both (nat_lt (m.unsynced + 1) max_unsynced) _ _ (λ (s : MirrorStep). s.mirror.id ≡ m.id) (λ again. refl) (λ over. refl))
answered_same fresh m (Failed status shown) = seen_same m shown

late_same : (m : FenceMirror) (stage : CallStage) → (stage_timed_out m stage).mirror.id ≡ m.id
late_same m Waits = refl
late_same m (Out xid timeouts) = cond_both (nat_lt (timeouts + 1) MAX_TIMEOUTS) _ _ (λ (s : MirrorStep). s.mirror.id ≡ m.id) (λ again. refl) (λ over. refl)
late_same m (KeptOut xid) = refl
late_same m KeptBack = refl
late_same m Done = refl
late_same m GivenUp = refl

module _ (f : FenceState) (ids : List MirrorId) (i : IsPart (kept_ids f.mirrors) ids) where
  abbrev StillPart : FenceAfter → Type 0
  StillPart a = IsPart (kept_ids a.fence.mirrors) ids

  step_part : (xid : ℕ) (step : FenceMirror → MirrorStep) → ((m : FenceMirror) → (step m).mirror.id ≡ m.id) → (o : Option ℕ) → outstanding_at f xid ≡ o → StillPart (step_from f step o)
  step_part xid step same None is = i
  step_part xid step same (Some place) is = by_mirror (slice_get f.mirrors place) refl
    where
      found : FoundOff (λ (m : FenceMirror). is_out xid m.stage) f.mirrors place
      found = found_off (λ (m : FenceMirror). is_out xid m.stage) f.mirrors place is

      by_mirror : (o : Option FenceMirror) → slice_get f.mirrors place ≡ o → StillPart (step_at f step place o)
      by_mirror None at = i
      by_mirror (Some m) at =
          let k : FoundOff (λ (x : FenceMirror). is_out xid x.stage) f.mirrors place = found in
          let out : is_out xid m.stage ≡ true = ap (λ (x : FenceMirror). is_out xid x.stage) (sym (same_Some k.x m (sym k.at ∙ at))) ∙ k.passes in
          fence_set f.mirrors place m (step m).mirror ids at (same m) (out_left xid m.stage out) i

  pub reply_part : (xid : ℕ) (reply : DsReplyValue) → StillPart (on_reply f xid reply)
  reply_part xid reply = step_part xid (λ m. answered f.cred m reply) (λ m. answered_same f.cred m reply) (outstanding_at f xid) refl

  pub timeout_part : (xid : ℕ) → StillPart (on_timeout f xid)
  timeout_part xid = step_part xid timed_out (λ m. late_same m m.stage) (outstanding_at f xid) refl

-- a new one has all of them
pub fence_new : (live : List Mirror) (next : ℕ) → IsPart (kept_ids (fence_of live next).mirrors) (ids_of live)
fence_new [] next = tt
fence_new (m ∷ live) next = inl (refl, fence_new live next)

tick_kept : (stage : CallStage) → is_given_up (stage_at_tick stage) ≡ is_given_up stage
tick_kept Waits = refl
tick_kept (Out xid timeouts) = refl
tick_kept (KeptOut xid) = refl
tick_kept KeptBack = refl
tick_kept Done = refl
tick_kept GivenUp = refl

fence_ticked : (mirrors : List FenceMirror) → kept_ids (map at_tick mirrors) ≡ kept_ids mirrors
fence_ticked [] = refl
fence_ticked (m ∷ mirrors) = first (is_given_up (stage_at_tick m.stage)) ∙ ap (λ (b : Bool). cond (not b) (m.id ∷ kept_ids (map at_tick mirrors)) (kept_ids (map at_tick mirrors))) (tick_kept m.stage) ∙ ap (λ (l : List MirrorId). cond (not (is_given_up m.stage)) (m.id ∷ l) l) (fence_ticked mirrors) ∙ sym (last (is_given_up m.stage))
  where
    first : (b : Bool) → map (λ (x : FenceMirror). x.id) (cond (not b) (at_tick m ∷ filter (λ (x : FenceMirror). not (is_given_up x.stage)) (map at_tick mirrors)) (filter (λ (x : FenceMirror). not (is_given_up x.stage)) (map at_tick mirrors)))
        ≡ cond (not b) (m.id ∷ kept_ids (map at_tick mirrors)) (kept_ids (map at_tick mirrors))
    first true = refl
    first false = refl

    last : (b : Bool) → map (λ (x : FenceMirror). x.id) (cond (not b) (m ∷ filter (λ (x : FenceMirror). not (is_given_up x.stage)) mirrors) (filter (λ (x : FenceMirror). not (is_given_up x.stage)) mirrors)) ≡ cond (not b) (m.id ∷ kept_ids mirrors) (kept_ids mirrors)
    last true = refl
    last false = refl

-- those that are given up leave
dropped_part : (id : MirrorId) (mirrors : List FenceMirror) → IsPart (kept_ids (map (dropped_if id) mirrors)) (filter (λ (k : MirrorId). not (is_mirror k id)) (kept_ids mirrors))
dropped_part id [] = tt
dropped_part id (m ∷ mirrors) = by_test (is_mirror m.id id) refl (is_given_up m.stage) refl (dropped_part id mirrors)
  where
    by_test : (here : Bool) → is_mirror m.id id ≡ here → (given : Bool) → is_given_up m.stage ≡ given → IsPart (kept_ids (map (dropped_if id) mirrors)) (filter (λ (k : MirrorId). not (is_mirror k id)) (kept_ids mirrors))
        → IsPart (kept_ids (cond here (with_stage m GivenUp) m ∷ map (dropped_if id) mirrors)) (filter (λ (k : MirrorId). not (is_mirror k id)) (map (λ (x : FenceMirror). x.id) (cond (not given) (m ∷ filter (λ (x : FenceMirror). not (is_given_up x.stage)) mirrors) (filter (λ (x : FenceMirror). not (is_given_up x.stage)) mirrors))))
    by_test true is true its part = part
    by_test true is false its part = subst (λ (b : Bool). IsPart (kept_ids (map (dropped_if id) mirrors)) (cond (not b) (m.id ∷ filter (λ (k : MirrorId). not (is_mirror k id)) (kept_ids mirrors)) (filter (λ (k : MirrorId). not (is_mirror k id)) (kept_ids mirrors)))) (sym is) part
    by_test false is true its part =
        subst (λ (b : Bool). IsPart (map (λ (x : FenceMirror). x.id) (cond (not b) (m ∷ filter (λ (x : FenceMirror). not (is_given_up x.stage)) (map (dropped_if id) mirrors)) (filter (λ (x : FenceMirror). not (is_given_up x.stage)) (map (dropped_if id) mirrors)))) (filter (λ (k : MirrorId). not (is_mirror k id)) (kept_ids mirrors))) (sym its) part
    by_test false is false its part =
        subst (λ (b : Bool). IsPart (map (λ (x : FenceMirror). x.id) (cond (not b) (m ∷ filter (λ (x : FenceMirror). not (is_given_up x.stage)) (map (dropped_if id) mirrors)) (filter (λ (x : FenceMirror). not (is_given_up x.stage)) (map (dropped_if id) mirrors)))) (cond (not (is_mirror m.id id)) (m.id ∷ filter (λ (k : MirrorId). not (is_mirror k id)) (kept_ids mirrors)) (filter (λ (k : MirrorId). not (is_mirror k id)) (kept_ids mirrors)))) (sym its)
        (subst (λ (b : Bool). IsPart (m.id ∷ kept_ids (map (dropped_if id) mirrors)) (cond (not b) (m.id ∷ filter (λ (k : MirrorId). not (is_mirror k id)) (kept_ids mirrors)) (filter (λ (k : MirrorId). not (is_mirror k id)) (kept_ids mirrors)))) (sym is) (inl (refl, part)))

pub without_part : (f : FenceState) (id : MirrorId) (live : List Mirror) → IsPart (kept_ids f.mirrors) (ids_of live) → IsPart (kept_ids (without f id).mirrors) (ids_of (but_for id live))
without_part f id live i =
    let p : MirrorId → Bool = λ k. not (is_mirror k id) in
    subst (IsPart (kept_ids (map (dropped_if id) f.mirrors))) (sym (ids_but_for id live))
    (part_of_part (kept_ids (map (dropped_if id) f.mirrors)) (filter (λ (k : MirrorId). not (is_mirror k id)) (kept_ids f.mirrors)) (filter (λ (k : MirrorId). not (is_mirror k id)) (ids_of live)) (dropped_part id f.mirrors)
    (part_filter (λ (k : MirrorId). not (is_mirror k id)) (kept_ids f.mirrors) (ids_of live) i))

pub ticked_part : (f : FenceState) (ids : List MirrorId) → IsPart (kept_ids f.mirrors) ids → IsPart (kept_ids (after_tick f).mirrors) ids
ticked_part f ids i = subst (λ (l : List MirrorId). IsPart l ids) (sym (fence_ticked f.mirrors)) i

-- ---- the targets of a copy

pub targets_set : (live : List Mirror) (targets : List CopyTarget) (place : ℕ) (t new : CopyTarget) → slice_get targets place ≡ Some t → new.server ≡ t.server → new.replaced ≡ t.replaced → (IsOnServer t → IsOnServer new) → is_given_up t.stage ≡ false → AreTargets live targets
    → AreTargets live (set targets place new)
targets_set live targets place t new at server replaced made kept i = record {
  on = all_set IsOnServer targets place new i.on (made (all_at IsOnServer targets place t i.on at));
  plan = subst (IsPlan live) (sym (sites_set targets place t new at server replaced)) i.plan;
  order = by_order i.order;
}
  where
    by_order : IsPart (kept_servers targets) (servers_of live) ⊎ AllByRecursion (IsAdded live) targets → IsPart (kept_servers (set targets place new)) (servers_of live) ⊎ AllByRecursion (IsAdded live) (set targets place new)
    by_order (inl part) = inl (part_of_part (kept_servers (set targets place new)) (kept_servers targets) (servers_of live) (part_set (λ (x : CopyTarget). x.server) is_left targets place t new at server (ap not kept)) part)
    by_order (inr none) =
        let old : IsAdded live t = all_at (IsAdded live) targets place t none at in
        inr (all_set (IsAdded live) targets place new none (replaced ∙ old.0, ap (has_server live) server ∙ old.1))

written_left : (bytes : List ℕ) (t : CopyTarget) → is_given_up (to_write bytes t).stage ≡ is_given_up t.stage
written_left bytes t = by_test (is_given_up t.stage) refl
  where
    by_bytes : (list : List ℕ) → is_given_up (stage_for list) ≡ false
    by_bytes [] = refl
    by_bytes (b ∷ list) = refl

    by_test : (b : Bool) → is_given_up t.stage ≡ b → is_given_up (cond b t (copy.at_stage t (stage_for bytes))).stage ≡ b
    by_test true is = is
    by_test false is = by_bytes bytes

written_server : (bytes : List ℕ) (t : CopyTarget) → (to_write bytes t).server ≡ t.server
written_server bytes t = cond_both (is_given_up t.stage) t (copy.at_stage t (stage_for bytes)) (λ (x : CopyTarget). x.server ≡ t.server) (λ on. refl) (λ off. refl)

written_kept : (bytes : List ℕ) (targets : List CopyTarget) → kept_servers (map (to_write bytes) targets) ≡ kept_servers targets
written_kept bytes [] = refl
written_kept bytes (t ∷ targets) =
    first (to_write bytes t) (is_given_up (to_write bytes t).stage)
    ∙ ap (λ (n : ℕ). cond (not (is_given_up (to_write bytes t).stage)) (n ∷ kept_servers (map (to_write bytes) targets)) (kept_servers (map (to_write bytes) targets))) (written_server bytes t)
    ∙ ap (λ (b : Bool). cond (not b) (t.server ∷ kept_servers (map (to_write bytes) targets)) (kept_servers (map (to_write bytes) targets))) (written_left bytes t)
    ∙ ap (λ (l : List ℕ). cond (not (is_given_up t.stage)) (t.server ∷ l) l) (written_kept bytes targets)
    ∙ sym (last (is_given_up t.stage))
  where
    first : (x : CopyTarget) (b : Bool) → map (λ (y : CopyTarget). y.server) (cond (not b) (x ∷ filter is_left (map (to_write bytes) targets)) (filter is_left (map (to_write bytes) targets))) ≡ cond (not b) (x.server ∷ kept_servers (map (to_write bytes) targets)) (kept_servers (map (to_write bytes) targets))
    first x true = refl
    first x false = refl

    last : (b : Bool) → map (λ (y : CopyTarget). y.server) (cond (not b) (t ∷ filter is_left targets) (filter is_left targets)) ≡ cond (not b) (t.server ∷ kept_servers targets) (kept_servers targets)
    last true = refl
    last false = refl

pub targets_written : (live : List Mirror) (bytes : List ℕ) (targets : List CopyTarget) → AreTargets live targets → AreTargets live (map (to_write bytes) targets)
targets_written live bytes targets i = record {
  on = all_map IsOnServer IsOnServer (to_write bytes) targets (λ t its. cond_both (is_given_up t.stage) t (copy.at_stage t (stage_for bytes)) IsOnServer (λ on. its) (λ off. its)) i.on;
  plan = subst (IsPlan live) (sym (sites_written bytes targets)) i.plan;
  order = by_order i.order;
}
  where
    by_order : IsPart (kept_servers targets) (servers_of live) ⊎ AllByRecursion (IsAdded live) targets → IsPart (kept_servers (map (to_write bytes) targets)) (servers_of live) ⊎ AllByRecursion (IsAdded live) (map (to_write bytes) targets)
    by_order (inl part) = inl (subst (λ (l : List ℕ). IsPart l (servers_of live)) (sym (written_kept bytes targets)) part)
    by_order (inr none) = inr (all_map (IsAdded live) (IsAdded live) (to_write bytes) targets (λ t its. cond_both (is_given_up t.stage) t (copy.at_stage t (stage_for bytes)) (IsAdded live) (λ on. its) (λ off. its)) none)

-- the mirror that one replaced leaves
pub targets_less : (live : List Mirror) (id : MirrorId) (targets : List CopyTarget) → AllByRecursion (λ (n : ℕ). n ≢ id.server) (kept_servers targets) → AreTargets live targets → AreTargets (but_for id live) targets
targets_less live id targets other i = record { on = i.on; plan = plan_more live (but_for id live) (none_left id live) (map site_of targets) i.plan; order = by_order i.order }
  where
    by_order : IsPart (kept_servers targets) (servers_of live) ⊎ AllByRecursion (IsAdded live) targets → IsPart (kept_servers targets) (servers_of (but_for id live)) ⊎ AllByRecursion (IsAdded (but_for id live)) targets
    by_order (inl part) = inl (part_without id (kept_servers targets) live other part)
    by_order (inr none) = inr (all_more (IsAdded live) (IsAdded (but_for id live)) targets (λ t its. (its.0, none_left id live t.server its.1)) none)

-- no other is on the server of one that was thrown away
others_on : (n : ℕ) (targets : List CopyTarget) → list_any (λ (k : ℕ). k == n) (site_servers (map site_of targets)) ≡ false → AllByRecursion (λ (k : ℕ). k ≢ n) (kept_servers targets)
others_on n [] none = tt
others_on n (t ∷ targets) none = by_server (t.server == n) refl none (others_on n targets)
  where
    by_left : (b : Bool) → (t.server ≢ n) → AllByRecursion (λ (k : ℕ). k ≢ n) (kept_servers targets) → AllByRecursion (λ (k : ℕ). k ≢ n) (map (λ (x : CopyTarget). x.server) (cond b (t ∷ filter is_left targets) (filter is_left targets)))
    by_left true other rest = (other, rest)
    by_left false other rest = rest

    by_server : (b : Bool) → (t.server == n) ≡ b → (b || list_any (λ (k : ℕ). k == n) (site_servers (map site_of targets))) ≡ false
        → (list_any (λ (k : ℕ). k == n) (site_servers (map site_of targets)) ≡ false → AllByRecursion (λ (k : ℕ). k ≢ n) (kept_servers targets))
        → AllByRecursion (λ (k : ℕ). k ≢ n) (map (λ (x : CopyTarget). x.server) (cond (is_left t) (t ∷ filter is_left targets) (filter is_left targets)))
    by_server true is its more = absurd (off_on (sym its))
    by_server false is its more = by_left (is_left t) (λ same. off_on (sym is ∙ eq-eqb t.server n same)) (more its)

-- one of these servers is among the sites
site_there : (targets : List CopyTarget) (place : ℕ) (t : CopyTarget) → slice_get targets place ≡ Some t → list_any (λ (k : ℕ). k == t.server) (site_servers (map site_of targets)) ≡ true
site_there [] place t at = absurd (none-some t at)
site_there (x ∷ targets) zero t at = ap (λ (b : Bool). b || list_any (λ (k : ℕ). k == t.server) (site_servers (map site_of targets))) (eq-eqb x.server t.server (ap (λ (y : CopyTarget). y.server) (same_Some x t at)))
site_there (x ∷ targets) (suc place) t at = or_on (x.server == t.server) (list_any (λ (k : ℕ). k == t.server) (site_servers (map site_of targets))) (site_there targets place t at)
  where
    or_on : (a b : Bool) → b ≡ true → (a || b) ≡ true
    or_on true b is = refl
    or_on false b is = is

thrown_others : (targets : List CopyTarget) (place : ℕ) (t new : CopyTarget) → slice_get targets place ≡ Some t → is_given_up new.stage ≡ true → are_apart (site_servers (map site_of targets)) ≡ true → AllByRecursion (λ (k : ℕ). k ≢ t.server) (kept_servers (set targets place new))
thrown_others [] place t new at given apart = absurd (none-some t at)
thrown_others (x ∷ targets) zero t new at given apart =
    let parts = and_parts (not (list_any (λ (k : ℕ). k == x.server) (site_servers (map site_of targets)))) (are_apart (site_servers (map site_of targets))) apart in
    let same : x ≡ t = same_Some x t at in
    subst (λ (b : Bool). AllByRecursion (λ (k : ℕ). k ≢ t.server) (map (λ (y : CopyTarget). y.server) (cond (not b) (new ∷ filter is_left targets) (filter is_left targets)))) (sym given)
    (others_on t.server targets (subst (λ (y : CopyTarget). list_any (λ (k : ℕ). k == y.server) (site_servers (map site_of targets)) ≡ false) same (not_any (list_any (λ (k : ℕ). k == x.server) (site_servers (map site_of targets))) parts.0)))
  where
    not_any : (b : Bool) → not b ≡ true → b ≡ false
    not_any true is = absurd (off_on is)
    not_any false is = refl
thrown_others (x ∷ targets) (suc place) t new at given apart =
    let parts = and_parts (not (list_any (λ (k : ℕ). k == x.server) (site_servers (map site_of targets)))) (are_apart (site_servers (map site_of targets))) apart in
    by_left (is_left x) (other (not_any (list_any (λ (k : ℕ). k == x.server) (site_servers (map site_of targets))) parts.0)) (thrown_others targets place t new at given parts.1)
  where
    not_any : (b : Bool) → not b ≡ true → b ≡ false
    not_any true is = absurd (off_on is)
    not_any false is = refl

    other : list_any (λ (k : ℕ). k == x.server) (site_servers (map site_of targets)) ≡ false → x.server ≢ t.server
    other none same = off_on (sym none ∙ ap (λ (n : ℕ). list_any (λ (k : ℕ). k == n) (site_servers (map site_of targets))) same ∙ site_there targets place t at)

    by_left : (b : Bool) → x.server ≢ t.server → AllByRecursion (λ (k : ℕ). k ≢ t.server) (kept_servers (set targets place new)) → AllByRecursion (λ (k : ℕ). k ≢ t.server) (map (λ (y : CopyTarget). y.server) (cond b (x ∷ filter is_left (set targets place new)) (filter is_left (set targets place new))))
    by_left true ne rest = (ne, rest)
    by_left false ne rest = rest

-- ---- what an answer or a timeout leaves of a copy

-- where a target was thrown away: the mirror that it was to replace, and that it is left no more
abbrev pub IsLoss : CopyTarget → CopyTarget → CopyStep → Type 0
IsLoss t new (copy_step.TargetFailed server replaced cause) = (replaced ≡ t.replaced) × (is_given_up new.stage ≡ true)
IsLoss t new copy_step.Stranger = Unit {0}
IsLoss t new copy_step.Waiting = Unit {0}
IsLoss t new (copy_step.SourceFailed cause) = Unit {0}
IsLoss t new copy_step.Done = Unit {0}

record StaysTarget (t : CopyTarget) (x : TargetStep) : Type 0 where
  pub server : x.target.server ≡ t.server
  pub replaced : x.target.replaced ≡ t.replaced
  pub made : IsOnServer t → IsOnServer x.target
  pub loss : IsLoss t x.target x.step

fails_target : (t : CopyTarget) (cause : LeftCause) → StaysTarget t (target_fails t cause)
fails_target t cause = record { server = refl; replaced = refl; made = λ i m is. absurd (none-some m is); loss = (refl, refl) }

create_target : (t : CopyTarget) (reply : DsReplyValue) → StaysTarget t (create_answered t reply)
create_target t (Created fileid shown) = record { server = refl; replaced = refl; made = λ i m is. ap (λ (x : Mirror). x.id.server) (sym (same_Some _ m is)); loss = tt }
create_target t (Set shown) = fails_target t (Error odd_status)
create_target t (Written shown verifier) = fails_target t (Error odd_status)
create_target t (Committed shown verifier) = fails_target t (Error odd_status)
create_target t (Bytes shown eof bytes) = fails_target t (Error odd_status)
create_target t (NotSync shown) = fails_target t (Error odd_status)
create_target t (Failed status shown) = fails_target t (Error status)

seen_made : (server : ℕ) (o : Option Mirror) (shown : Option Shown) → ((m : Mirror) → o ≡ Some m → m.id.server ≡ server) → (m : Mirror) → seen_then o shown ≡ Some m → m.id.server ≡ server
seen_made server None shown i m is = absurd (none-some m is)
seen_made server (Some x) None i m is = i m is
seen_made server (Some x) (Some shown) i m is = ap (λ (y : Mirror). y.id.server) (sym (same_Some _ m is)) ∙ i x refl

write_target : (t : CopyTarget) (reply : DsReplyValue) → StaysTarget t (write_answered t reply)
write_target t (Created fileid shown) = fails_target t (Error odd_status)
write_target t (Set shown) = fails_target t (Error odd_status)
write_target t (Written shown verifier) = record { server = refl; replaced = refl; made = λ i. seen_made t.server t.made shown i; loss = tt }
write_target t (Committed shown verifier) = fails_target t (Error odd_status)
write_target t (Bytes shown eof bytes) = fails_target t (Error odd_status)
write_target t (NotSync shown) = fails_target t (Error odd_status)
write_target t (Failed status shown) = fails_target t (Error status)

answer_target : (t : CopyTarget) (reply : DsReplyValue) (o : Option Mirror) → StaysTarget t (target_answered t reply o)
answer_target t reply None = create_target t reply
answer_target t reply (Some m) = write_target t reply

same_target : (t : CopyTarget) → StaysTarget t (goes_on_with t)
same_target t = record { server = refl; replaced = refl; made = λ i. i; loss = tt }

late_target : (t : CopyTarget) (stage : CallStage) → StaysTarget t (target_late t stage)
late_target t Waits = same_target t
late_target t (Out xid timeouts) =
    cond_both (nat_lt (timeouts + 1) MAX_TIMEOUTS) (goes_on_with (copy.at_stage t (Out xid (timeouts + 1)))) (target_fails t Timeouts) (StaysTarget t) (λ again. record { server = refl; replaced = refl; made = λ i. i; loss = tt }) (λ over. fails_target t Timeouts)
late_target t (KeptOut xid) = same_target t
late_target t KeptBack = same_target t
late_target t Done = same_target t
late_target t GivenUp = same_target t

-- none that is left is on the server of the mirror that leaves
abbrev pub IsRoomFor : CopyStep → List CopyTarget → Type 0
IsRoomFor (copy_step.TargetFailed server None cause) targets = Unit {0}
IsRoomFor (copy_step.TargetFailed server (Some id) cause) targets = AllByRecursion (λ (n : ℕ). n ≢ id.server) (kept_servers targets)
IsRoomFor copy_step.Stranger targets = Unit {0}
IsRoomFor copy_step.Waiting targets = Unit {0}
IsRoomFor (copy_step.SourceFailed cause) targets = Unit {0}
IsRoomFor copy_step.Done targets = Unit {0}

pub record IsCopyAfter (live : List Mirror) (a : CopyAfter) : Type 0 where
  pub targets : AreTargets live a.copy.targets
  pub room : IsRoomFor a.step a.copy.targets

told_room : (c : CopyState) (s : CopyStep) (targets : List CopyTarget) → IsRoomFor s targets → IsRoomFor (step_told c s) targets
told_room c copy_step.Stranger targets i = tt
told_room c copy_step.Waiting targets i = cond_both (has_outcome c) copy_step.Done copy_step.Waiting (λ (s : CopyStep). IsRoomFor s targets) (λ on. tt) (λ off. tt)
told_room c (copy_step.SourceFailed cause) targets i = tt
told_room c (copy_step.TargetFailed server replaced cause) targets i = i
told_room c copy_step.Done targets i = tt

then_after : (live : List Mirror) (c : CopyState) (s : CopyStep) → AreTargets live c.targets → IsRoomFor s c.targets → IsCopyAfter live (copy_then c s)
then_after live c s i room =
    cond_both (is_over c.read && not c.ended && have_answered c) (with_next c) c (λ (x : CopyState). IsCopyAfter live (record { copy = x; step = step_told c s }))
    (λ on. record { targets = i; room = told_room c s c.targets room }) (λ off. record { targets = i; room = told_room c s c.targets room })

module _ (live : List Mirror) (c : CopyState) (i : AreTargets live c.targets) where
  abbrev After : CopyAfter → Type 0
  After a = IsCopyAfter live a

  failed_after : (kept : CallStage) (cause : LeftCause) → After (source_fails c kept cause)
  failed_after kept cause = record { targets = i; room = tt }

  read_after : (reply : DsReplyValue) → After (read_answered c reply)
  read_after (Created fileid shown) = failed_after KeptBack (Error odd_status)
  read_after (Set shown) = failed_after KeptBack (Error odd_status)
  read_after (Written shown verifier) = failed_after KeptBack (Error odd_status)
  read_after (Committed shown verifier) = failed_after KeptBack (Error odd_status)
  read_after (Bytes shown eof bytes) =
      cond_both (is_long c bytes) (source_fails c KeptBack (Error odd_status)) (copy_then (with_piece c eof bytes) copy_step.Waiting) After (λ is. failed_after KeptBack (Error odd_status))
      (λ off. then_after live (with_piece c eof bytes) copy_step.Waiting (targets_written live bytes c.targets i) tt)
  read_after (NotSync shown) = failed_after KeptBack (Error odd_status)
  read_after (Failed status shown) = failed_after KeptBack (Error status)

  read_late_after : (stage : CallStage) → After (read_late c stage)
  read_late_after Waits = record { targets = i; room = tt }
  read_late_after (Out xid timeouts) =
      cond_both (nat_lt (timeouts + 1) MAX_TIMEOUTS) (record { copy = with_read c (Out xid (timeouts + 1)); step = copy_step.Waiting }) (source_fails c (KeptOut xid) Timeouts) After (λ is. record { targets = i; room = tt })
      (λ off. failed_after (KeptOut xid) Timeouts)
  read_late_after (KeptOut xid) = record { targets = i; room = tt }
  read_late_after KeptBack = record { targets = i; room = tt }
  read_late_after Done = record { targets = i; room = tt }
  read_late_after GivenUp = record { targets = i; room = tt }

  by_after : (xid : ℕ) (reads : CopyAfter) → After reads → After (by_read c xid reads)
  by_after xid reads is = cond_both (is_out xid c.read) reads (stranger c) After (λ out. is) (λ off. record { targets = i; room = tt })

  loss_room : (place : ℕ) (t : CopyTarget) (x : TargetStep) → slice_get c.targets place ≡ Some t → (s : CopyStep) → IsLoss t x.target s → IsRoomFor s (set c.targets place x.target)
  loss_room place t x at copy_step.Stranger loss = tt
  loss_room place t x at copy_step.Waiting loss = tt
  loss_room place t x at (copy_step.SourceFailed cause) loss = tt
  loss_room place t x at (copy_step.TargetFailed server None cause) loss = tt
  loss_room place t x at (copy_step.TargetFailed server (Some id) cause) loss =
      let fits : FitsIn live t.server t.replaced = all_at (λ (y : CopyTarget). FitsIn live y.server y.replaced) c.targets place t (fits_of c.targets i.plan.fits) at in
      let on : id.server ≡ t.server = subst (FitsIn live t.server) (sym loss.0) fits in
      subst (λ (n : ℕ). AllByRecursion (λ (k : ℕ). k ≢ n) (kept_servers (set c.targets place x.target))) (sym on) (thrown_others c.targets place t x.target at loss.1 i.plan.apart)
    where
      fits_of : (targets : List CopyTarget) → AllByRecursion (λ (y : Site). FitsIn live y.server y.replaced) (map site_of targets) → AllByRecursion (λ (y : CopyTarget). FitsIn live y.server y.replaced) targets
      fits_of [] all = tt
      fits_of (y ∷ targets) all = (all.0, fits_of targets all.1)
  loss_room place t x at copy_step.Done loss = tt

  found_after : (xid : ℕ) (step : CopyTarget → TargetStep) → ((t : CopyTarget) → StaysTarget t (step t)) → (place : ℕ) → target_of c xid ≡ Some place → (o : Option CopyTarget) → slice_get c.targets place ≡ o → After (copy.step_at c step place o)
  found_after xid step stays place is None at = record { targets = i; room = tt }
  found_after xid step stays place is (Some t) at =
      let k : FoundOff (λ (x : CopyTarget). is_out xid x.stage) c.targets place = found_off (λ (x : CopyTarget). is_out xid x.stage) c.targets place is in
      let out : is_out xid t.stage ≡ true = ap (λ (x : CopyTarget). is_out xid x.stage) (sym (same_Some k.x t (sym k.at ∙ at))) ∙ k.passes in
      let s : StaysTarget t (step t) = stays t in
      then_after live (with_target c place (step t).target) (step t).step (targets_set live c.targets place t (step t).target at s.server s.replaced s.made (out_left xid t.stage out) i) (loss_room place t (step t) at (step t).step s.loss)

  from_after : (xid : ℕ) (step : CopyTarget → TargetStep) → ((t : CopyTarget) → StaysTarget t (step t)) → (reads : CopyAfter) → After reads → (o : Option ℕ) → target_of c xid ≡ o → After (copy.step_from c step reads o)
  from_after xid step stays reads read_so None is = read_so
  from_after xid step stays reads read_so (Some place) is = found_after xid step stays place is (slice_get c.targets place) refl

  pub copy_reply : (xid : ℕ) (reply : DsReplyValue) → After (copy.on_reply c xid reply)
  copy_reply xid reply = from_after xid (λ t. target_answered t reply t.made) (λ t. answer_target t reply t.made) (by_read c xid (read_answered c reply)) (by_after xid (read_answered c reply) (read_after reply)) (target_of c xid) refl

  pub copy_timeout : (xid : ℕ) → After (copy.on_timeout c xid)
  copy_timeout xid = from_after xid (λ t. target_late t t.stage) (λ t. late_target t t.stage) (by_read c xid (read_late c c.read)) (by_after xid (read_late c c.read) (read_late_after c.read)) (target_of c xid) refl

-- ---- a new copy

kept_new : (k : ℕ) (live : List Mirror) → kept_servers (map to_make (replacing k live)) ≡ servers_of live
kept_new k [] = refl
kept_new k (m ∷ live) = ap (λ (l : List ℕ). m.id.server ∷ l) (kept_new (k + 1) live)

added_new : (live : List Mirror) (k : ℕ) (servers : List ℕ) → AllByRecursion (λ (x : Site). FitsIn live x.server x.replaced) (map site_of (map to_make (adding k servers))) → AllByRecursion (IsAdded live) (map to_make (adding k servers))
added_new live k [] all = tt
added_new live k (n ∷ servers) all = ((refl, all.0), added_new live (k + 1) servers all.1)

unmade : (plan : List Target) → AllByRecursion IsOnServer (map to_make plan)
unmade [] = tt
unmade (t ∷ plan) = (λ m is. absurd (none-some m is), unmade plan)

pub targets_new : (copies : CopyKind) (layout : LayoutState) (fresh : Fresh) → are_on_different_servers layout.live ≡ true → AreTargets layout.live (map to_make (plan_of copies layout fresh))
targets_new Replacing layout fresh apart = record {
  on = unmade (plan_of Replacing layout fresh);
  plan = plan_ok Replacing layout fresh apart;
  order = inl (subst (λ (l : List ℕ). IsPart l (servers_of layout.live)) (sym (kept_new fresh.name (drop 1 layout.live))) (part_map (λ (m : Mirror). m.id.server) (drop 1 layout.live) layout.live (part_drop layout.live)));
}
targets_new Adding layout fresh apart =
    let plan : IsPlan layout.live (map site_of (map to_make (plan_of Adding layout fresh))) = plan_ok Adding layout fresh apart in
    record { on = unmade (plan_of Adding layout fresh); plan = plan; order = inr (added_new layout.live fresh.name _ plan.fits) }
