-- The data servers on which a file has mirrors, or is to have some, are numbered below a limit that is above the number of data servers.
use Rattle.std.proofs.Common.{◌≡◌, ◌≤◌, ◌<◌, ℕ, zero, suc, ◌+◌, ◌-◌, ◌%◌, Bool, true, false, List, [], ◌∷◌, ◌++◌, length, Option, Some, None, refl, subst, arith}
use Rattle.std.specs.Prelude.{◌==◌, ◌&&◌, not, nat_lt, slice_get, map, filter, take, drop, is_some, if◌then◌else◌}
use Rattle.std.specs.List.{list_all, flat_map, range_with_len}
use Rattle.std.specs.Option.{option_to_list}
use Rattle.std.proofs.lemmas.Nat.{div-add-mod'}
use Rattle.std.proofs.lemmas.Bool.{cond_both}
use Rattle.cluster_model.specs.declared.limits.TheConstants.{MAX_TIMEOUTS}
use Rattle.cluster_model.specs.declared.ids.NodeId.{NodeId}
use Rattle.cluster_model.specs.declared.ids.NodeId.TheVariants.{Mds, Server, Client}
use Rattle.cluster_model.specs.declared.ids.FileId.{FileId}
use Rattle.cluster_model.specs.declared.ids.Cred.{Cred}
use Rattle.cluster_model.specs.declared.ids.Mirror.{Mirror}
use Rattle.cluster_model.specs.declared.ids.MirrorId.{MirrorId}
use Rattle.cluster_model.specs.declared.phase.EndCause.{EndCause}
use Rattle.cluster_model.specs.declared.phase.LeftCause.{LeftCause}
use Rattle.cluster_model.specs.declared.phase.LeftCause.TheVariants.{Error, Timeouts}
use Rattle.cluster_model.specs.declared.ds_call.Shown.{Shown}
use Rattle.cluster_model.specs.declared.call_stage.CallStage.{CallStage}
use Rattle.cluster_model.specs.declared.call_stage.CallStage.TheVariants.{Waits, Out, KeptOut, KeptBack, Done, GivenUp}
use Rattle.cluster_model.specs.declared.entry.Entry.{Entry}
use Rattle.cluster_model.specs.declared.entry.Entry.TheVariants as entry
use Rattle.cluster_model.specs.declared.fence_mirror.FenceMirror.{FenceMirror}
use Rattle.cluster_model.specs.declared.fence_mirror.FenceStep.{FenceStep}
use Rattle.cluster_model.specs.declared.fence_mirror.FenceStep.TheVariants.{Stranger, Acked, Again, Failed as HasFailed}
use Rattle.cluster_model.specs.declared.layout_state.LayoutState.{LayoutState}
use Rattle.cluster_model.specs.declared.layout_state.LayoutPhase.{LayoutPhase}
use Rattle.cluster_model.specs.declared.layout_state.LayoutPhase.TheVariants.{Making, Free, Held, Fencing, Settling, Copying}
use Rattle.cluster_model.specs.declared.layout_state.CopyKind.{CopyKind}
use Rattle.cluster_model.specs.declared.layout_state.CopyKind.TheVariants.{Replacing, Adding}
use Rattle.cluster_model.specs.declared.targets.SwappedIn.{SwappedIn}
use Rattle.cluster_model.specs.DsCalls.{DsReplyValue, Created, Set, Written, Committed, Bytes, NotSync, Failed}
use Rattle.cluster_model.specs.Fences.{waits, is_out, stage_at_tick, is_over, odd_status, FenceState, outstanding_at, on_reply, on_timeout, without, is_done}
use Rattle.cluster_model.specs.Fences as fence
use Rattle.cluster_model.specs.Phases.{seen_at, is_last_live, with_phase, is_clean, unreported, PhaseStep, freed, made, granted, left_with, returned, revoked, mirror_left, fenced_to, after_fence, fence_done, has_targets, settled_row, put_if, in_place, with_targets, resilvered}
use Rattle.cluster_model.specs.Journal.{is_mirror}
use Rattle.cluster_model.specs.Mirrors.{has_server}
use Rattle.cluster_model.specs.declared.tick.Tick.{Tick}
use Rattle.copy_rule.specs.declared.copy_target.CopyTarget.{CopyTarget}
use Rattle.copy_rule.specs.declared.copy_target.CopyStep.{CopyStep}
use Rattle.copy_rule.specs.declared.copy_target.CopyStep.TheVariants as copy_step
use Rattle.copy_rule.specs.declared.copy_target.Target.{Target}
use Rattle.copy_rule.specs.Copies.{CopyState, CopyCall, CopyAfter, TargetStep, is_given_up, to_make, at_stage, goes_on_with, target_fails, seen_then, create_answered, write_answered, stage_for, to_write, with_target, with_read, with_piece, with_next, has_outcome, have_answered, may_read_on, swap_of, swaps_of, copy_then, stranger, source_fails, read_answered, read_late, is_long, by_read, step_at, step_from, target_of, target_answered, target_late, waiting_at, target_call_at, call_from}
use Rattle.copy_rule.specs.Copies as copy
use Rattle.file_rule.specs.declared.creation.Creation.{Creation}
use Rattle.file_rule.specs.declared.fresh.Fresh.{Fresh}
use Rattle.file_rule.specs.MdsFiles.{Creations, Activity, Idle, Makes, Fences, Settles, Copies, MdsFile, FileStep, nothing, stays, a_uid, goes_idle, goes_fencing, begun_by, goes_on, with_entries, fenced_on, fence_stepped, shown_by_set, seen_by, mirror_at, in_stage, with_creation, creation_of, creation_answered, creation_timed_out, all_made, making_on, making_at, making_by, servers_without, replacing, adding, plan_of, copying, settled, source_left, shown_by_commit, seen_at_source, settling_answered, settling_timed_out, copied_by, copied_on, target_left, copy_stepped}
use Rattle.file_rule.specs.FilePhases.{FileInput, AsksLayout, OwnWrite, Recall, Returns, Revokes, OwnEnds, Resilver, Answers, TimesOut, Ticks, Sees, are_spent, asked_in, held_in, by_client, by_mds, recalled_row, returned_row, revoked_row, own_row, resilvered_in, kind_of, settles_by, answered_in, timed_out_in, ticked, phase, CallOut, creations_at, creation_waiting, create_out_at, create_out, fence_out, settle_out, copy_out, call_out_of, call_out}
use Rattle.mds_rule.specs.FileOps.{nth_server}
use Rattle.mds_walk.proofs.Lists.{AllOf, all_set, all_got}

-- ---- lists

all_join : {A : Type 0} (P : A → Type 0) (xs ys : List A) → AllOf P xs → AllOf P ys → AllOf P (xs ++ ys)
all_join P [] ys all more = more
all_join P (x ∷ xs) ys all more = (all.0, all_join P xs ys all.1 more)

all_filter : {A : Type 0} (P : A → Type 0) (p : A → Bool) (xs : List A) → AllOf P xs → AllOf P (filter p xs)
all_filter P p [] all = tt
all_filter {A = A} P p (x ∷ xs) all =
    let rest : AllOf P (filter p xs) = all_filter P p xs all.1 in
    cond_both (p x) (x ∷ filter p xs) (filter p xs) (λ (l : List A). AllOf P l) (λ is. (all.0, rest)) (λ off. rest)

all_drop : {A : Type 0} (P : A → Type 0) (k : ℕ) (xs : List A) → AllOf P xs → AllOf P (drop k xs)
all_drop P zero [] all = tt
all_drop P zero (x ∷ xs) all = all
all_drop P (suc k) [] all = tt
all_drop P (suc k) (x ∷ xs) all = all_drop P k xs all.1

all_take : {A : Type 0} (P : A → Type 0) (k : ℕ) (xs : List A) → AllOf P xs → AllOf P (take k xs)
all_take P zero [] all = tt
all_take P zero (x ∷ xs) all = tt
all_take P (suc k) [] all = tt
all_take P (suc k) (x ∷ xs) all = (all.0, all_take P k xs all.1)

mod_less : (a n : ℕ) → a % n ≤ a
mod_less a n = let whole = div-add-mod' a n in omega (arith, whole)

module _ (n : ℕ) where
  -- ---- what is below the limit

  abbrev pub IsIn : Mirror → Type 0
  IsIn m = m.id.server < n

  abbrev pub MadeIn : Option Mirror → Type 0
  MadeIn None = Unit {0}
  MadeIn (Some m) = IsIn m

  abbrev pub CreationIn : Creation → Type 0
  CreationIn c = (c.server < n) × MadeIn c.made

  abbrev pub TargetIn : CopyTarget → Type 0
  TargetIn t = (t.server < n) × MadeIn t.made

  abbrev pub ActivityIn : Activity → Type 0
  ActivityIn Idle = Unit {0}
  ActivityIn (Makes all) = AllOf CreationIn all.items
  ActivityIn (Fences f) = Unit {0}
  ActivityIn (Settles stage) = Unit {0}
  ActivityIn (Copies c) = AllOf TargetIn c.targets

  abbrev pub LayoutIn : LayoutState → Type 0
  LayoutIn s = AllOf IsIn s.live

  pub record FileIn (f : MdsFile) : Type 0 where
    pub live : LayoutIn f.layout
    pub calls : ActivityIn f.activity

  begun_in : (p : LayoutPhase) → ActivityIn (begun_by p)
  begun_in Making = tt
  begun_in Free = tt
  begun_in (Held holder recalled) = tt
  begun_in (Fencing next end) = tt
  begun_in (Settling copies) = tt
  begun_in (Copying copier copies) = tt

  -- ---- rows

  left_in : (file : FileId) (s : LayoutState) (id : MirrorId) (cause : LeftCause) → LayoutIn s → LayoutIn (mirror_left file s id cause).file
  left_in file s id cause i = all_filter IsIn (λ (m : Mirror). not (is_mirror m.id id)) s.live i

  unreported_in : (places : List Bool) (live : List Mirror) → AllOf IsIn live → AllOf IsIn (unreported places live)
  unreported_in places [] i = tt
  unreported_in [] (m ∷ live) i = i
  unreported_in (gone ∷ places) (m ∷ live) i =
      let rest : AllOf IsIn (unreported places live) = unreported_in places live i.1 in
      cond_both gone (unreported places live) (m ∷ unreported places live) (λ (l : List Mirror). AllOf IsIn l) (λ is. rest) (λ off. (i.0, rest))

  seen_at_in : (id : MirrorId) (tick : Tick) (live : List Mirror) → AllOf IsIn live → AllOf IsIn (seen_at id tick live)
  seen_at_in id tick [] i = tt
  seen_at_in id tick (m ∷ live) i = (cond_both (is_mirror m.id id) (record { id = m.id; seen = tick }) m IsIn (λ is. i.0) (λ off. i.0), seen_at_in id tick live i.1)

  fenced_in : (s : LayoutState) (p : LayoutPhase) → LayoutIn s → LayoutIn (fenced_to s p)
  fenced_in s Making i = i
  fenced_in s Free i = i
  fenced_in s (Held holder recalled) i = i
  fenced_in s (Fencing next end) i = i
  fenced_in s (Settling copies) i = i
  fenced_in s (Copying copier copies) i = i

  return_in : (s : LayoutState) (next : Cred) (live : List Mirror) → LayoutIn s → AllOf IsIn live → LayoutIn (left_with s next live)
  return_in s next [] i its = i
  return_in s next (m ∷ live) i its = its

  settled_in : (file : FileId) (s : LayoutState) (copies : CopyKind) (copier : Cred) → LayoutIn s → LayoutIn (settled_row file s copies copier).file
  settled_in file s copies copier i =
      cond_both (has_targets copies (length s.live) s.wanted) (record { file = with_phase s (Copying copier copies); entries = [] }) (freed file s) (λ (x : PhaseStep). LayoutIn x.file) (λ is. i) (λ off. i)

  seen_in : (s : LayoutState) (o : Option FenceMirror) (shown : Option Shown) → LayoutIn s → LayoutIn (seen_by s o shown)
  seen_in s None shown i = i
  seen_in s (Some m) None i = i
  seen_in s (Some m) (Some shown) i = seen_at_in m.id shown.seen s.live i

  source_in : (s : LayoutState) (live : List Mirror) (shown : Option Shown) → LayoutIn s → LayoutIn (seen_at_source s live shown)
  source_in s [] shown i = i
  source_in s (m ∷ live) None i = i
  source_in s (m ∷ live) (Some shown) i = seen_at_in m.id shown.seen s.live i

  -- ---- CREATEs

  option_in : (o : Option Mirror) → MadeIn o → AllOf IsIn (option_to_list o)
  option_in None i = tt
  option_in (Some m) i = (i, tt)

  made_in : (items : List Creation) → AllOf CreationIn items → AllOf IsIn (flat_map (λ (c : Creation). option_to_list c.made) items)
  made_in [] i = tt
  made_in (c ∷ items) i = all_join IsIn (option_to_list c.made) (flat_map (λ (x : Creation). option_to_list x.made) items) (option_in c.made i.0.1) (made_in items i.1)

  creation_in : (all : Creations) (c : Creation) (reply : DsReplyValue) → CreationIn c → CreationIn (creation_answered all c reply)
  creation_in all c (Created fileid shown) i = (i.0, i.0)
  creation_in all c (Set shown) i = (i.0, i.1)
  creation_in all c (Written shown verifier) i = (i.0, i.1)
  creation_in all c (Committed shown verifier) i = (i.0, i.1)
  creation_in all c (Bytes shown eof bytes) i = (i.0, i.1)
  creation_in all c (NotSync shown) i = (i.0, i.1)
  creation_in all c (Failed status shown) i = (i.0, i.1)

  ticked_items : (items : List Creation) → AllOf CreationIn items → AllOf CreationIn (map (λ (c : Creation). in_stage c (stage_at_tick c.stage)) items)
  ticked_items [] i = tt
  ticked_items (c ∷ items) i = ((i.0.0, i.0.1), ticked_items items i.1)

  -- a new file's
  pub nth_in : (count file start k : ℕ) → file - 1 + start + k + 1 ≤ n → AllOf (λ (s : ℕ). s < n) (map (nth_server count file) (range_with_len start k))
  nth_in count file start zero le = tt
  nth_in count file start (suc k) le =
      let less = mod_less (file - 1 + start) count in
      (omega (arith, less, le), nth_in count file (start + 1) k (omega (arith, le)))

  pub creations_in : (name : ℕ) (servers : List ℕ) → AllOf (λ (s : ℕ). s < n) servers → AllOf CreationIn (creations_at name servers)
  creations_in name [] i = tt
  creations_in name (s ∷ servers) i = ((i.0, tt), creations_in name servers i.1)

  -- ---- the targets of a copy

  abbrev PlacedIn : Target → Type 0
  PlacedIn t = t.server < n

  replacing_in : (name : ℕ) (live : List Mirror) → AllOf IsIn live → AllOf PlacedIn (replacing name live)
  replacing_in name [] i = tt
  replacing_in name (m ∷ live) i = (i.0, replacing_in (name + 1) live i.1)

  adding_in : (name : ℕ) (servers : List ℕ) → AllOf (λ (s : ℕ). s < n) servers → AllOf PlacedIn (adding name servers)
  adding_in name [] i = tt
  adding_in name (s ∷ servers) i = (i.0, adding_in (name + 1) servers i.1)

  range_in : (start k : ℕ) → start + k ≤ n → AllOf (λ (s : ℕ). s < n) (range_with_len start k)
  range_in start zero le = tt
  range_in start (suc k) le = (omega (arith, le), range_in (start + 1) k (omega (arith, le)))

  plan_in : (copies : CopyKind) (layout : LayoutState) (fresh : Fresh) → fresh.servers + 1 ≤ n → LayoutIn layout → AllOf PlacedIn (plan_of copies layout fresh)
  plan_in Replacing layout fresh le i = replacing_in fresh.name (drop 1 layout.live) (all_drop IsIn 1 layout.live i)
  plan_in Adding layout fresh le i =
      adding_in fresh.name (take (layout.wanted - length layout.live) (servers_without fresh.servers layout.live))
      (all_take (λ (s : ℕ). s < n) (layout.wanted - length layout.live) (servers_without fresh.servers layout.live)
      (all_filter (λ (s : ℕ). s < n) (λ (s : ℕ). not (has_server layout.live s)) (range_with_len 1 fresh.servers) (range_in 1 fresh.servers (omega (arith, le)))))

  make_in : (plan : List Target) → AllOf PlacedIn plan → AllOf TargetIn (map to_make plan)
  make_in [] i = tt
  make_in (t ∷ plan) i = ((i.0, tt), make_in plan i.1)

  then_seen : (o : Option Mirror) (shown : Option Shown) → MadeIn o → MadeIn (seen_then o shown)
  then_seen None shown i = tt
  then_seen (Some m) None i = i
  then_seen (Some m) (Some shown) i = i

  create_in : (t : CopyTarget) (reply : DsReplyValue) → TargetIn t → TargetIn (create_answered t reply).target
  create_in t (Created fileid shown) i = (i.0, i.0)
  create_in t (Set shown) i = (i.0, tt)
  create_in t (Written shown verifier) i = (i.0, tt)
  create_in t (Committed shown verifier) i = (i.0, tt)
  create_in t (Bytes shown eof bytes) i = (i.0, tt)
  create_in t (NotSync shown) i = (i.0, tt)
  create_in t (Failed status shown) i = (i.0, tt)

  write_in : (t : CopyTarget) (reply : DsReplyValue) → TargetIn t → TargetIn (write_answered t reply).target
  write_in t (Created fileid shown) i = (i.0, tt)
  write_in t (Set shown) i = (i.0, tt)
  write_in t (Written shown verifier) i = (i.0, then_seen t.made shown i.1)
  write_in t (Committed shown verifier) i = (i.0, tt)
  write_in t (Bytes shown eof bytes) i = (i.0, tt)
  write_in t (NotSync shown) i = (i.0, tt)
  write_in t (Failed status shown) i = (i.0, tt)

  answered_in_place : (t : CopyTarget) (reply : DsReplyValue) (o : Option Mirror) → TargetIn t → TargetIn (target_answered t reply o).target
  answered_in_place t reply None i = create_in t reply i
  answered_in_place t reply (Some m) i = write_in t reply i

  late_in_place : (t : CopyTarget) (stage : CallStage) → TargetIn t → TargetIn (target_late t stage).target
  late_in_place t Waits i = i
  late_in_place t (Out xid timeouts) i =
      cond_both (nat_lt (timeouts + 1) MAX_TIMEOUTS) (goes_on_with (at_stage t (Out xid (timeouts + 1)))) (target_fails t Timeouts) (λ (x : TargetStep). TargetIn x.target) (λ is. (i.0, i.1)) (λ off. (i.0, tt))
  late_in_place t (KeptOut xid) i = i
  late_in_place t KeptBack i = i
  late_in_place t Done i = i
  late_in_place t GivenUp i = i

  written_in : (bytes : List ℕ) (targets : List CopyTarget) → AllOf TargetIn targets → AllOf TargetIn (map (to_write bytes) targets)
  written_in bytes [] i = tt
  written_in bytes (t ∷ targets) i = (cond_both (is_given_up t.stage) t (at_stage t (stage_for bytes)) TargetIn (λ is. i.0) (λ off. (i.0.0, i.0.1)), written_in bytes targets i.1)

  abbrev AfterIn : CopyAfter → Type 0
  AfterIn a = AllOf TargetIn a.copy.targets

  then_in : (x : CopyState) (s : CopyStep) → AllOf TargetIn x.targets → AfterIn (copy_then x s)
  then_in x s i = cond_both (is_over x.read && not x.ended && have_answered x) (with_next x) x (λ (y : CopyState). AllOf TargetIn y.targets) (λ on. i) (λ off. i)

  module _ (c : CopyState) (i : AllOf TargetIn c.targets) where
    read_in : (reply : DsReplyValue) → AfterIn (read_answered c reply)
    read_in (Created fileid shown) = i
    read_in (Set shown) = i
    read_in (Written shown verifier) = i
    read_in (Committed shown verifier) = i
    read_in (Bytes shown eof bytes) =
        cond_both (is_long c bytes) (source_fails c KeptBack (Error odd_status)) (copy_then (with_piece c eof bytes) copy_step.Waiting) AfterIn (λ is. i)
        (λ off. then_in (with_piece c eof bytes) copy_step.Waiting (written_in bytes c.targets i))
    read_in (NotSync shown) = i
    read_in (Failed status shown) = i

    late_in : (s : CallStage) → AfterIn (read_late c s)
    late_in Waits = i
    late_in (Out xid timeouts) =
        cond_both (nat_lt (timeouts + 1) MAX_TIMEOUTS) (record { copy = with_read c (Out xid (timeouts + 1)); step = copy_step.Waiting }) (source_fails c (KeptOut xid) Timeouts) AfterIn (λ is. i) (λ off. i)
    late_in (KeptOut xid) = i
    late_in KeptBack = i
    late_in Done = i
    late_in GivenUp = i

    at_in : (step : CopyTarget → TargetStep) → ((t : CopyTarget) → TargetIn t → TargetIn (step t).target) → (place : ℕ) (o : Option CopyTarget) → slice_get c.targets place ≡ o → AfterIn (step_at c step place o)
    at_in step keeps place None at = i
    at_in step keeps place (Some t) at =
        then_in (with_target c place (step t).target) (step t).step (all_set TargetIn c.targets place (step t).target i (keeps t (all_got TargetIn c.targets place t i at)))

    from_in : (step : CopyTarget → TargetStep) → ((t : CopyTarget) → TargetIn t → TargetIn (step t).target) → (reads : CopyAfter) (o : Option ℕ) → AfterIn reads → AfterIn (step_from c step reads o)
    from_in step keeps reads None is = is
    from_in step keeps reads (Some place) is = at_in step keeps place (slice_get c.targets place) refl

    by_in : (xid : ℕ) (reads : CopyAfter) → AfterIn reads → AfterIn (by_read c xid reads)
    by_in xid reads is = cond_both (is_out xid c.read) reads (stranger c) AfterIn (λ out. is) (λ off. i)

    reply_in : (xid : ℕ) (reply : DsReplyValue) → AfterIn (copy.on_reply c xid reply)
    reply_in xid reply = from_in (λ t. target_answered t reply t.made) (λ t its. answered_in_place t reply t.made its) (by_read c xid (read_answered c reply)) (target_of c xid) (by_in xid (read_answered c reply) (read_in reply))

    timeout_in : (xid : ℕ) → AfterIn (copy.on_timeout c xid)
    timeout_in xid = from_in (λ t. target_late t t.stage) (λ t its. late_in_place t t.stage its) (by_read c xid (read_late c c.read)) (target_of c xid) (by_in xid (read_late c c.read) (late_in c.read))

    -- its calls
    abbrev CallIn : Option CopyCall → Type 0
    CallIn None = Unit {0}
    CallIn (Some call) = AllOf TargetIn call.copy.targets

    call_at_in : (xid place : ℕ) (o : Option CopyTarget) → slice_get c.targets place ≡ o → CallIn (target_call_at c xid place o)
    call_at_in xid place None at = tt
    call_at_in xid place (Some t) at =
        let its : TargetIn t = all_got TargetIn c.targets place t i at in
        all_set TargetIn c.targets place (at_stage t (Out xid 0)) i (its.0, its.1)

    call_from_in : (xid : ℕ) (o : Option ℕ) → CallIn (call_from c xid o)
    call_from_in xid None = cond_both (waits c.read && may_read_on c) (Some _) None CallIn (λ is. i) (λ off. tt)
    call_from_in xid (Some place) = call_at_in xid place (slice_get c.targets place) refl

    next_in : (xid : ℕ) → CallIn (copy.next_call c xid)
    next_in xid = call_from_in xid (waiting_at c)

  -- ---- targets come in

  abbrev NewIn : SwappedIn → Type 0
  NewIn t = IsIn t.new

  swap_in : (t : CopyTarget) (o : Option Mirror) → MadeIn o → AllOf NewIn (swap_of t o)
  swap_in t None i = tt
  swap_in t (Some m) i = (i, tt)

  swaps_in : (targets : List CopyTarget) → AllOf TargetIn targets → AllOf NewIn (flat_map (λ (t : CopyTarget). swap_of t t.made) targets)
  swaps_in [] i = tt
  swaps_in (t ∷ targets) i = all_join NewIn (swap_of t t.made) (flat_map (λ (x : CopyTarget). swap_of x x.made) targets) (swap_in t t.made i.0.1) (swaps_in targets i.1)

  put_in : (old : MirrorId) (new : Mirror) (live : List Mirror) → IsIn new → AllOf IsIn live → AllOf IsIn (map (put_if old new) live)
  put_in old new [] its i = tt
  put_in old new (m ∷ live) its i = (cond_both (is_mirror m.id old) new m IsIn (λ is. its) (λ off. i.0), put_in old new live its i.1)

  place_in : (t : SwappedIn) (o : Option MirrorId) (live : List Mirror) → NewIn t → AllOf IsIn live → AllOf IsIn (in_place t o live)
  place_in t None live its i = all_join IsIn live (t.new ∷ []) i (its, tt)
  place_in t (Some old) live its i = put_in old t.new live its i

  targets_in : (targets : List SwappedIn) (live : List Mirror) → AllOf NewIn targets → AllOf IsIn live → AllOf IsIn (with_targets targets live)
  targets_in [] live its i = i
  targets_in (t ∷ targets) live its i = targets_in targets (in_place t t.old live) its.1 (place_in t t.old live its.0 i)

  -- ---- the table

  module _ (file : FileId) (fresh : Fresh) (many : fresh.servers + 1 ≤ n) where
    abbrev StepIn : FileStep → Type 0
    StepIn x = FileIn x.file

    asked_in_limit : (f : MdsFile) (holder : NodeId) (entries : List Entry) (p : LayoutPhase) → FileIn f → StepIn (asked_in file f holder entries fresh p)
    asked_in_limit f holder entries Making i = i
    asked_in_limit f holder entries Free i =
        cond_both (are_spent fresh) (nothing f)
        (with_entries (granted file f.layout holder).entries (record { file = record { layout = (granted file f.layout holder).file; activity = f.activity }; entries = entries; uids = 0; names = 0 })) StepIn (λ is. i)
        (λ off. record { live = i.live; calls = i.calls })
    asked_in_limit f holder entries (Held other recalled) i = i
    asked_in_limit f holder entries (Fencing next end) i = i
    asked_in_limit f holder entries (Settling copies) i = i
    asked_in_limit f holder entries (Copying copier copies) i = i

    held_in_limit : (f : MdsFile) (row : NodeId → FileStep) (p : LayoutPhase) → ((holder : NodeId) → StepIn (row holder)) → FileIn f → StepIn (held_in f row p)
    held_in_limit f row Making all i = i
    held_in_limit f row Free all i = i
    held_in_limit f row (Held holder recalled) all i = all holder
    held_in_limit f row (Fencing next end) all i = i
    held_in_limit f row (Settling copies) all i = i
    held_in_limit f row (Copying copier copies) all i = i

    client_in_limit : (f : MdsFile) (row : ℕ → FileStep) → ((k : ℕ) → StepIn (row k)) → FileIn f → (holder : NodeId) → StepIn (by_client f row holder)
    client_in_limit f row all i Mds = i
    client_in_limit f row all i (Server k) = i
    client_in_limit f row all i (Client k) = all k

    mds_in_limit : (f : MdsFile) (row : FileStep) → StepIn row → FileIn f → (holder : NodeId) → StepIn (by_mds f row holder)
    mds_in_limit f row its i Mds = its
    mds_in_limit f row its i (Server k) = i
    mds_in_limit f row its i (Client k) = i

    returned_in : (f : MdsFile) (client : ℕ) (claimed : Cred) (places : List Bool) (holder : ℕ) → FileIn f → StepIn (returned_row file f client claimed places fresh holder)
    returned_in f client claimed places holder i =
        cond_both (holder == client && (f.layout.cred.0 == claimed.0)) (goes_fencing (returned file f.layout places (a_uid fresh.uid)) fresh.uid) (nothing f) StepIn
        (λ is. record { live = return_in f.layout (a_uid fresh.uid) (unreported places f.layout.live) i.live (unreported_in places f.layout.live i.live); calls = tt }) (λ off. i)

    revoked_in : (f : MdsFile) (cause : EndCause) → FileIn f → StepIn (revoked_row file f cause fresh)
    revoked_in f cause i =
        cond_both (is_clean cause) (nothing f) (goes_fencing (revoked file f.layout cause (a_uid fresh.uid)) fresh.uid) StepIn (λ is. i) (λ off. record { live = i.live; calls = tt })

    own_in : (f : MdsFile) (causes : List (Option LeftCause)) (told : Entry) → FileIn f → StepIn (own_row file f causes told fresh)
    own_in f causes told i = record { live = return_in f.layout (a_uid fresh.uid) (unreported (map is_some causes) f.layout.live) i.live (unreported_in (map is_some causes) f.layout.live i.live); calls = tt }

    resilver_in : (f : MdsFile) (p : LayoutPhase) → FileIn f → StepIn (resilvered_in f fresh p)
    resilver_in f Making i = i
    resilver_in f Free i =
        cond_both (nat_lt (length f.layout.live) f.layout.wanted && (if are_spent fresh then false else true)) (stays (resilvered f.layout) (Settles Waits)) (nothing f) StepIn
        (λ is. record { live = i.live; calls = tt }) (λ off. i)
    resilver_in f (Held holder recalled) i = i
    resilver_in f (Fencing next end) i = i
    resilver_in f (Settling copies) i = i
    resilver_in f (Copying copier copies) i = i

    -- ---- CREATEs

    on_in : (layout : LayoutState) (all : Creations) → AllOf CreationIn all.items → LayoutIn layout → StepIn (making_on file layout all)
    on_in layout all its i =
        cond_both (list_all (λ (c : Creation). is_over c.stage) all.items) (goes_idle (made file layout (all_made all)) 0) (stays layout (Makes all)) StepIn
        (λ is. record { live = made_in all.items its; calls = tt }) (λ off. record { live = i; calls = its })

    making_at_in : (layout : LayoutState) (all : Creations) (step : Creation → Creation) → ((c : Creation) → CreationIn c → CreationIn (step c)) → (place : ℕ) (o : Option Creation) → slice_get all.items place ≡ o
        → AllOf CreationIn all.items → LayoutIn layout → StepIn (making_at file layout all step place o)
    making_at_in layout all step keeps place None at its i = record { live = i; calls = its }
    making_at_in layout all step keeps place (Some c) at its i =
        on_in layout (with_creation all place (step c)) (all_set CreationIn all.items place (step c) its (keeps c (all_got CreationIn all.items place c its at))) i

    making_in : (layout : LayoutState) (all : Creations) (step : Creation → Creation) → ((c : Creation) → CreationIn c → CreationIn (step c)) → (o : Option ℕ) → AllOf CreationIn all.items → LayoutIn layout
        → StepIn (making_by file layout all step o)
    making_in layout all step keeps None its i = record { live = i; calls = its }
    making_in layout all step keeps (Some place) its i = making_at_in layout all step keeps place (slice_get all.items place) refl its i

    -- ---- a fence

    fenced_on_in : (layout : LayoutState) (f : FenceState) → LayoutIn layout → StepIn (fenced_on file layout f)
    fenced_on_in layout f i =
        cond_both (is_done f) (goes_on (fence_done file layout)) (stays layout (Fences f)) StepIn
        (λ is. record { live = fenced_in layout layout.phase i; calls = begun_in (after_fence layout).phase }) (λ off. record { live = i; calls = tt })

    fence_in : (layout : LayoutState) (f : FenceState) (s : FenceStep) → LayoutIn layout → StepIn (fence_stepped file layout f s)
    fence_in layout f Stranger i = record { live = i; calls = tt }
    fence_in layout f Acked i = fenced_on_in layout f i
    fence_in layout f Again i = record { live = i; calls = tt }
    fence_in layout f (HasFailed id cause) i =
        let behind : FileIn (fenced_on file (mirror_left file layout id cause).file (without f id)).file = fenced_on_in (mirror_left file layout id cause).file (without f id) (left_in file layout id cause i) in
        cond_both (is_last_live layout.live) (stays layout (Fences f)) (with_entries (mirror_left file layout id cause).entries (fenced_on file (mirror_left file layout id cause).file (without f id))) StepIn
        (λ is. record { live = i; calls = tt }) (λ off. behind)

    -- ---- the COMMIT of a source

    leaves_in : (layout : LayoutState) (live : List Mirror) (cause : LeftCause) (kept : Activity) → ActivityIn kept → LayoutIn layout → StepIn (source_left file layout live cause kept)
    leaves_in layout [] cause kept its i = record { live = i; calls = its }
    leaves_in layout (m ∷ live) cause kept its i =
        cond_both (is_last_live layout.live) (stays layout kept)
        (record { file = record { layout = (mirror_left file layout m.id cause).file; activity = Settles Waits }; entries = (mirror_left file layout m.id cause).entries; uids = 0; names = 0 }) StepIn
        (λ is. record { live = i; calls = its }) (λ off. record { live = left_in file layout m.id cause i; calls = tt })

    commit_in : (layout : LayoutState) (copies : CopyKind) → LayoutIn layout → StepIn (settled file layout copies fresh)
    commit_in layout copies i =
        cond_both (has_targets copies (length layout.live) layout.wanted) (copying (settled_row file layout copies (a_uid fresh.uid)).file fresh (plan_of copies layout fresh)) (goes_idle (settled_row file layout copies (a_uid fresh.uid)) 0) StepIn
        (λ is. record { live = settled_in file layout copies (a_uid fresh.uid) i; calls = make_in (plan_of copies layout fresh) (plan_in copies layout fresh many i) })
        (λ off. record { live = settled_in file layout copies (a_uid fresh.uid) i; calls = tt })

    settling_in : (layout : LayoutState) (copies : CopyKind) (reply : DsReplyValue) → LayoutIn layout → StepIn (settling_answered file layout copies fresh reply)
    settling_in layout copies (Created fileid shown) i = leaves_in layout layout.live (Error odd_status) (Settles KeptBack) tt i
    settling_in layout copies (Set shown) i = leaves_in layout layout.live (Error odd_status) (Settles KeptBack) tt i
    settling_in layout copies (Written shown verifier) i = leaves_in layout layout.live (Error odd_status) (Settles KeptBack) tt i
    settling_in layout copies (Committed shown verifier) i = commit_in layout copies i
    settling_in layout copies (Bytes shown eof bytes) i = leaves_in layout layout.live (Error odd_status) (Settles KeptBack) tt i
    settling_in layout copies (NotSync shown) i = leaves_in layout layout.live (Error odd_status) (Settles KeptBack) tt i
    settling_in layout copies (Failed status shown) i = leaves_in layout layout.live (Error status) (Settles KeptBack) tt i

    settling_late_in : (layout : LayoutState) (s : CallStage) → LayoutIn layout → StepIn (settling_timed_out file layout s)
    settling_late_in layout Waits i = record { live = i; calls = tt }
    settling_late_in layout (Out xid timeouts) i =
        cond_both (nat_lt (timeouts + 1) MAX_TIMEOUTS) (stays layout (Settles (Out xid (timeouts + 1)))) (source_left file layout layout.live Timeouts (Settles (KeptOut xid))) StepIn
        (λ is. record { live = i; calls = tt }) (λ off. leaves_in layout layout.live Timeouts (Settles (KeptOut xid)) tt i)
    settling_late_in layout (KeptOut xid) i = record { live = i; calls = tt }
    settling_late_in layout KeptBack i = record { live = i; calls = tt }
    settling_late_in layout Done i = record { live = i; calls = tt }
    settling_late_in layout GivenUp i = record { live = i; calls = tt }

    settles_in : (f : MdsFile) (row : CopyKind → FileStep) (o : Option CopyKind) → ((copies : CopyKind) → StepIn (row copies)) → FileIn f → StepIn (settles_by f row o)
    settles_in f row None all i = i
    settles_in f row (Some copies) all i = all copies

    -- ---- a copy

    copied_by_in : (layout : LayoutState) (copier : ℕ) (targets : List SwappedIn) → AllOf NewIn targets → LayoutIn layout → StepIn (copied_by file layout (a_uid copier) targets fresh)
    copied_by_in layout copier [] its i = record { live = i; calls = tt }
    copied_by_in layout copier (t ∷ targets) its i = record { live = targets_in (t ∷ targets) layout.live its i; calls = tt }

    copied_in : (layout : LayoutState) (c : CopyState) → AllOf TargetIn c.targets → LayoutIn layout → StepIn (copied_on file layout c fresh)
    copied_in layout c its i =
        cond_both (has_outcome c) (copied_by file layout (a_uid c.copier) (swaps_of c) fresh) (stays layout (Copies c)) StepIn
        (λ is. copied_by_in layout c.copier (swaps_of c) (swaps_in c.targets its) i) (λ off. record { live = i; calls = its })

    target_in : (layout : LayoutState) (c : CopyState) (cause : LeftCause) (o : Option MirrorId) → AllOf TargetIn c.targets → LayoutIn layout → StepIn (target_left file layout c fresh cause o)
    target_in layout c cause None its i = copied_in layout c its i
    target_in layout c cause (Some id) its i = copied_in (mirror_left file layout id cause).file c its (left_in file layout id cause i)

    copy_in : (layout : LayoutState) (c : CopyState) (s : CopyStep) → AllOf TargetIn c.targets → LayoutIn layout → StepIn (copy_stepped file layout c fresh s)
    copy_in layout c copy_step.Stranger its i = record { live = i; calls = its }
    copy_in layout c copy_step.Waiting its i = record { live = i; calls = its }
    copy_in layout c (copy_step.SourceFailed cause) its i = leaves_in layout layout.live cause (Copies c) its i
    copy_in layout c (copy_step.TargetFailed server replaced cause) its i = target_in layout c cause replaced its i
    copy_in layout c copy_step.Done its i = copied_in layout c its i

    -- ---- answers, timeouts and ticks

    answered_in_limit : (f : MdsFile) (xid : ℕ) (reply : DsReplyValue) (a : Activity) → ActivityIn a → FileIn f → StepIn (answered_in file f xid reply fresh a)
    answered_in_limit f xid reply Idle its i = i
    answered_in_limit f xid reply (Makes all) its i = making_in f.layout all (λ c. creation_answered all c reply) (λ c was. creation_in all c reply was) (creation_of all xid) its i.live
    answered_in_limit f xid reply (Fences x) its i =
        fence_in (seen_by f.layout (mirror_at x (outstanding_at x xid)) (shown_by_set reply)) (on_reply x xid reply).fence (on_reply x xid reply).step (seen_in f.layout (mirror_at x (outstanding_at x xid)) (shown_by_set reply) i.live)
    answered_in_limit f xid reply (Settles stage) its i =
        let layout : LayoutState = seen_at_source f.layout f.layout.live (shown_by_commit reply) in
        cond_both (is_out xid stage) (settles_by f (λ copies. settling_answered file layout copies fresh reply) (kind_of f.layout.phase)) (nothing f) StepIn
        (λ is. settles_in f (λ copies. settling_answered file layout copies fresh reply) (kind_of f.layout.phase) (λ copies. settling_in layout copies reply (source_in f.layout f.layout.live (shown_by_commit reply) i.live)) i)
        (λ off. i)
    answered_in_limit f xid reply (Copies c) its i = copy_in f.layout (copy.on_reply c xid reply).copy (copy.on_reply c xid reply).step (reply_in c its xid reply) i.live

    late_in_limit : (f : MdsFile) (xid : ℕ) (a : Activity) → ActivityIn a → FileIn f → StepIn (timed_out_in file f xid fresh a)
    late_in_limit f xid Idle its i = i
    late_in_limit f xid (Makes all) its i = making_in f.layout all (creation_timed_out all) (λ c was. (was.0, was.1)) (creation_of all xid) its i.live
    late_in_limit f xid (Fences x) its i = fence_in f.layout (on_timeout x xid).fence (on_timeout x xid).step i.live
    late_in_limit f xid (Settles stage) its i = cond_both (is_out xid stage) (settling_timed_out file f.layout stage) (nothing f) StepIn (λ is. settling_late_in f.layout stage i.live) (λ off. i)
    late_in_limit f xid (Copies c) its i = copy_in f.layout (copy.on_timeout c xid).copy (copy.on_timeout c xid).step (timeout_in c its xid) i.live

    ticked_in : (a : Activity) → ActivityIn a → ActivityIn (ticked a)
    ticked_in Idle its = tt
    ticked_in (Makes all) its = ticked_items all.items its
    ticked_in (Fences x) its = tt
    ticked_in (Settles stage) its = tt
    ticked_in (Copies c) its = its

    pub phase_in : (f : MdsFile) (input : FileInput) → FileIn f → FileIn (phase file f input fresh).file
    phase_in f (AsksLayout client) i = asked_in_limit f (Client client) [] f.layout.phase i
    phase_in f (OwnWrite at bytes) i = asked_in_limit f Mds (entry.Sent file f.layout.cred at bytes ∷ []) f.layout.phase i
    phase_in f Recall i = held_in_limit f (by_client f (recalled_row f)) f.layout.phase (client_in_limit f (recalled_row f) (λ k. record { live = i.live; calls = i.calls }) i) i
    phase_in f (Returns client claimed places) i =
        held_in_limit f (by_client f (returned_row file f client claimed places fresh)) f.layout.phase (client_in_limit f (returned_row file f client claimed places fresh) (λ k. returned_in f client claimed places k i) i) i
    phase_in f (Revokes cause) i =
        held_in_limit f (by_client f (λ client. revoked_row file f cause fresh)) f.layout.phase (client_in_limit f (λ client. revoked_row file f cause fresh) (λ k. revoked_in f cause i) i) i
    phase_in f (OwnEnds causes at bytes) i =
        let told : Entry = entry.Told file f.layout.cred at bytes in
        held_in_limit f (by_mds f (own_row file f causes told fresh)) f.layout.phase (mds_in_limit f (own_row file f causes told fresh) (own_in f causes told i) i) i
    phase_in f Resilver i = resilver_in f f.layout.phase i
    phase_in f (Answers xid reply) i = answered_in_limit f xid reply f.activity i.calls i
    phase_in f (TimesOut xid) i = late_in_limit f xid f.activity i.calls i
    phase_in f Ticks i = record { live = i.live; calls = ticked_in f.activity i.calls }
    phase_in f (Sees id seen) i = record { live = seen_at_in id seen f.layout.live i.live; calls = i.calls }

  -- ---- the calls that go out

  module _ (f : MdsFile) (i : FileIn f) where
    abbrev OutIn : Option CallOut → Type 0
    OutIn None = Unit {0}
    OutIn (Some c) = FileIn c.file

    create_at_in : (all : Creations) → AllOf CreationIn all.items → (xid place : ℕ) (o : Option Creation) → slice_get all.items place ≡ o → OutIn (create_out_at f all xid place o)
    create_at_in all its xid place None at = tt
    create_at_in all its xid place (Some c) at =
        let was : CreationIn c = all_got CreationIn all.items place c its at in
        record { live = i.live; calls = all_set CreationIn all.items place (in_stage c (Out xid 0)) its (was.0, was.1) }

    create_out_in : (all : Creations) → AllOf CreationIn all.items → (xid : ℕ) (o : Option ℕ) → OutIn (create_out f all xid o)
    create_out_in all its xid None = tt
    create_out_in all its xid (Some place) = create_at_in all its xid place (slice_get all.items place) refl

    fence_at_in : (x : FenceState) (xid place : ℕ) (o : Option FenceMirror) → OutIn (fence_out f (fence.fence_call_at x xid place o))
    fence_at_in x xid place None = tt
    fence_at_in x xid place (Some m) = record { live = i.live; calls = tt }

    fence_from_in : (x : FenceState) (xid : ℕ) (o : Option ℕ) → OutIn (fence_out f (fence.call_from x xid o))
    fence_from_in x xid None = tt
    fence_from_in x xid (Some place) = fence_at_in x xid place (slice_get x.mirrors place)

    settle_in : (xid : ℕ) (live : List Mirror) → OutIn (settle_out f xid live)
    settle_in xid [] = tt
    settle_in xid (m ∷ live) = record { live = i.live; calls = tt }

    copy_out_in : (c : CopyState) (all : AllOf TargetIn c.targets) (o : Option CopyCall) → CallIn c all o → OutIn (copy_out f o)
    copy_out_in c all None its = tt
    copy_out_in c all (Some x) its = record { live = i.live; calls = its }

    out_of_in : (xid : ℕ) (a : Activity) → ActivityIn a → OutIn (call_out_of f xid a)
    out_of_in xid Idle its = tt
    out_of_in xid (Makes all) its = create_out_in all its xid (creation_waiting all)
    out_of_in xid (Fences x) its = fence_from_in x xid (fence.waiting_at x)
    out_of_in xid (Settles stage) its = cond_both (waits stage) (settle_out f xid f.layout.live) None OutIn (λ is. settle_in xid f.layout.live) (λ off. tt)
    out_of_in xid (Copies c) its = copy_out_in c its (copy.next_call c xid) (next_in c its xid)

    pub out_in : (xid : ℕ) (c : CallOut) → call_out f xid ≡ Some c → FileIn c.file
    out_in xid c is = subst OutIn is (out_of_in xid f.activity i.calls)
