-- Each input of the table of phases leaves a part of the calls of a file that are out, and an answer takes its own out.
use Rattle.std.proofs.Common.{◌≡◌, ℕ, suc, ◌+◌, Bool, true, false, List, [], ◌∷◌, length, Option, Some, None, refl, sym, ap, subst, ◌∙◌, inl, inr}
use Rattle.std.specs.Prelude.{◌==◌, ◌&&◌, nat_lt, is_some, map, position, slice_get, slice_set, if◌then◌else◌, not}
use Rattle.std.proofs.lemmas.Bool.{cond_both}
use Rattle.cluster_model.specs.declared.limits.TheConstants.{MAX_TIMEOUTS}
use Rattle.cluster_model.specs.declared.tick.Tick.{Tick}
use Rattle.cluster_model.specs.declared.ids.NodeId.{NodeId}
use Rattle.cluster_model.specs.declared.ids.NodeId.TheVariants.{Mds, Server, Client}
use Rattle.cluster_model.specs.declared.ids.FileId.{FileId}
use Rattle.cluster_model.specs.declared.ids.Cred.{Cred}
use Rattle.cluster_model.specs.declared.ids.Mirror.{Mirror}
use Rattle.cluster_model.specs.declared.ids.MirrorId.{MirrorId}
use Rattle.cluster_model.specs.declared.ds_call.Shown.{Shown}
use Rattle.cluster_model.specs.declared.entry.Entry.{Entry}
use Rattle.cluster_model.specs.declared.entry.Entry.TheVariants as entry
use Rattle.cluster_model.specs.declared.phase.EndCause.{EndCause}
use Rattle.cluster_model.specs.declared.phase.LeftCause.{LeftCause}
use Rattle.cluster_model.specs.declared.phase.LeftCause.TheVariants.{Error, Timeouts, Unsynced}
use Rattle.cluster_model.specs.declared.call_stage.CallStage.{CallStage}
use Rattle.cluster_model.specs.declared.call_stage.CallStage.TheVariants.{Waits, Out, KeptOut, KeptBack, Done, GivenUp}
use Rattle.cluster_model.specs.declared.fence_mirror.FenceMirror.{FenceMirror}
use Rattle.cluster_model.specs.declared.fence_mirror.FenceStep.TheVariants.{Again, Failed as HasFailed}
use Rattle.cluster_model.specs.declared.layout_state.LayoutState.{LayoutState}
use Rattle.cluster_model.specs.declared.layout_state.LayoutPhase.{LayoutPhase}
use Rattle.cluster_model.specs.declared.layout_state.LayoutPhase.TheVariants.{Making, Free, Held, Fencing, Settling, Copying}
use Rattle.cluster_model.specs.declared.layout_state.CopyKind.{CopyKind}
use Rattle.cluster_model.specs.DsCalls.{DsReplyValue, Created, Set, Written, Committed, Bytes, NotSync, Failed}
use Rattle.cluster_model.specs.Fences as fence
use Rattle.cluster_model.specs.Fences.{is_out, is_over, waits, stage_at_tick, FenceState, FenceAfter, MirrorStep, with_stage, having_seen}
use Rattle.cluster_model.specs.Journal.{is_mirror}
use Rattle.cluster_model.specs.Phases.{PhaseStep, seen_if, seen_at, is_clean, returned, revoked, own_done, resilvered, granted}
use Rattle.copy_rule.specs.declared.copy_target.CopyTarget.{CopyTarget}
use Rattle.copy_rule.specs.declared.copy_target.CopyStep.TheVariants as copy_step
use Rattle.copy_rule.specs.Copies as copy
use Rattle.copy_rule.specs.Copies.{CopyState, CopyAfter, TargetStep, is_given_up, have_answered}
use Rattle.file_rule.specs.declared.creation.Creation.{Creation}
use Rattle.file_rule.specs.declared.fresh.Fresh.{Fresh}
use Rattle.file_rule.specs.MdsFiles.{Creations, Activity, Idle, Makes, Fences, Settles, Copies, MdsFile, FileStep, nothing, stays, a_uid, goes_fencing, with_entries, fence_stepped, seen_by, mirror_at, shown_by_set, in_stage, with_creation, creation_failed, creation_answered, stage_behind, creation_timed_out, creation_of, making_on, making_at, making_by, source_left, shown_by_commit, seen_at_source, settling_answered, settling_timed_out, copy_stepped, standing}
use Rattle.file_rule.specs.FilePhases.{FileInput, AsksLayout, OwnWrite, Recall, Returns, Revokes, OwnEnds, Resilver, Answers, TimesOut, Ticks, Sees, asked_in, are_spent, held_in, by_client, by_mds, recalled_row, returned_row, revoked_row, own_row, resilvered_in, kind_of, settles_by, answered_in, timed_out_in, ticked, phase}
use Rattle.mds_walk.proofs.Lists.{first_there}
use Rattle.standing_calls.proofs.Spots.{Spot, is_number, has_number, Once, not_both, or_false, IsLeft, left_same, left_then, Less, Thin, thin_left, thin_same, none_left, none_number, map_thin, map_set, map_get, set_taken, first_passes}
use Rattle.standing_calls.proofs.OwnSpots.{number_of, creation_spot, mirror_spot, target_spot, settle_spots, copy_spots, spots_in, own_spots, out_number, Kind, kind_none, IsEnd, end_then, end_same, HasNone, none_end, item_left, none_of, item_taken, tick_less, settle_thin, settle_none, fencing_none, fence_end, making_end, source_end, copy_end, answered_none}
use Rattle.mds_walk.proofs.Parts.{comes_unasked}

-- ---- what comes by itself

-- an input that neither an answer nor a timeout brings
abbrev pub comes_by_itself : FileInput → Bool
comes_by_itself (AsksLayout client) = true
comes_by_itself (OwnWrite at bytes) = true
comes_by_itself Recall = true
comes_by_itself (Returns client claimed places) = true
comes_by_itself (Revokes cause) = true
comes_by_itself (OwnEnds causes at bytes) = true
comes_by_itself Resilver = true
comes_by_itself (Answers xid reply) = false
comes_by_itself (TimesOut xid) = false
comes_by_itself Ticks = true
comes_by_itself (Sees id seen) = false

-- the file goes on, with a part of its calls
abbrev pub IsNext : MdsFile → MdsFile → Type 0
IsNext f g = IsEnd (own_spots f) g

abbrev pub KindOf : MdsFile → Type 0
KindOf f = Kind f.activity f.layout.phase

module _ (file : FileId) (f : MdsFile) (kind : KindOf f) where
  same : IsNext f f
  same = end_same f kind

  asked_next : (holder : NodeId) (entries : List Entry) (fresh : Fresh) (p : LayoutPhase) → f.layout.phase ≡ p → IsNext f (asked_in file f holder entries fresh p).file
  asked_next holder entries fresh Making is = same
  asked_next holder entries fresh Free is =
      cond_both (are_spent fresh) (nothing f)
      (with_entries (granted file f.layout holder).entries (record { file = record { layout = (granted file f.layout holder).file; activity = f.activity }; entries = entries; uids = 0; names = 0 }))
      (λ (s : FileStep). IsNext f s.file) (λ spent. same) (λ off. record { left = left_same (own_spots f); kind = kind_none f.activity f.layout.phase (Held holder false) (ap kind_of is) kind })
  asked_next holder entries fresh (Held other recalled) is = same
  asked_next holder entries fresh (Fencing next end) is = same
  asked_next holder entries fresh (Settling copies) is = same
  asked_next holder entries fresh (Copying copier copies) is = same

  held_next : (row : NodeId → FileStep) (p : LayoutPhase) → f.layout.phase ≡ p → ((holder : NodeId) → kind_of f.layout.phase ≡ None → IsNext f (row holder).file) → IsNext f (held_in f row p).file
  held_next row Making is each = same
  held_next row Free is each = same
  held_next row (Held holder recalled) is each = each holder (ap kind_of is)
  held_next row (Fencing next end) is each = same
  held_next row (Settling copies) is each = same
  held_next row (Copying copier copies) is each = same

  client_next : (row : ℕ → FileStep) (holder : NodeId) → ((client : ℕ) → IsNext f (row client).file) → IsNext f (by_client f row holder).file
  client_next row Mds each = same
  client_next row (Server n) each = same
  client_next row (Client n) each = each n

  mds_next : (row : FileStep) (holder : NodeId) → IsNext f row.file → IsNext f (by_mds f row holder).file
  mds_next row Mds each = each
  mds_next row (Server n) each = same
  mds_next row (Client n) each = same

  fencing_next : (row : PhaseStep) (uid : ℕ) → IsNext f (goes_fencing row uid).file
  fencing_next row uid = none_end (own_spots f) (goes_fencing row uid).file (fencing_none row uid)

  returned_next : (client : ℕ) (claimed : Cred) (places : List Bool) (fresh : Fresh) (holder : ℕ) → IsNext f (returned_row file f client claimed places fresh holder).file
  returned_next client claimed places fresh holder =
      cond_both (holder == client && (f.layout.cred.0 == claimed.0)) (goes_fencing (returned file f.layout places (a_uid fresh.uid)) fresh.uid) (nothing f) (λ (s : FileStep). IsNext f s.file)
      (λ is. fencing_next (returned file f.layout places (a_uid fresh.uid)) fresh.uid) (λ off. same)

  revoked_next : (cause : EndCause) (fresh : Fresh) → IsNext f (revoked_row file f cause fresh).file
  revoked_next cause fresh =
      cond_both (is_clean cause) (nothing f) (goes_fencing (revoked file f.layout cause (a_uid fresh.uid)) fresh.uid) (λ (s : FileStep). IsNext f s.file) (λ clean. same) (λ off. fencing_next (revoked file f.layout cause (a_uid fresh.uid)) fresh.uid)

  resilvered_next : (fresh : Fresh) (p : LayoutPhase) → IsNext f (resilvered_in f fresh p).file
  resilvered_next fresh Making = same
  resilvered_next fresh Free =
      cond_both (nat_lt (length f.layout.live) f.layout.wanted && (if are_spent fresh then false else true)) (stays (resilvered f.layout) (Settles Waits)) (nothing f) (λ (s : FileStep). IsNext f s.file)
      (λ is. none_end (own_spots f) (record { layout = resilvered f.layout; activity = Settles Waits }) (record { none = settle_none f.layout.live Waits refl; kind = refl })) (λ off. same)
  resilvered_next fresh (Held holder recalled) = same
  resilvered_next fresh (Fencing next end) = same
  resilvered_next fresh (Settling copies) = same
  resilvered_next fresh (Copying copier copies) = same

-- a tick
ticked_thin : (live : List Mirror) (a : Activity) → Thin (spots_in live (ticked a)) (spots_in live a)
ticked_thin live Idle = tt
ticked_thin live (Makes all) = map_thin creation_spot (λ (c : Creation). in_stage c (stage_at_tick c.stage)) (λ c. tick_less c.server c.stage) all.items
ticked_thin live (Fences g) = map_thin mirror_spot fence.at_tick (λ m. tick_less m.id.server m.stage) g.mirrors
ticked_thin live (Settles stage) = settle_thin live stage (stage_at_tick stage) (λ server. tick_less server stage)
ticked_thin live (Copies c) = (tick_less c.source.server c.read, thin_same (map target_spot c.targets))

ticked_kind : (a : Activity) (p : LayoutPhase) → Kind a p → Kind (ticked a) p
ticked_kind Idle p kind = tt
ticked_kind (Makes all) p kind = tt
ticked_kind (Fences g) p kind = tt
ticked_kind (Settles stage) p kind = kind
ticked_kind (Copies c) p kind = kind

-- the servers of the live mirrors are as they were
seen_server : (id : MirrorId) (tick : Tick) (m : Mirror) → (seen_if id tick m).id.server ≡ m.id.server
seen_server id tick m = cond_both (is_mirror m.id id) (record { id = m.id; seen = tick }) m (λ (x : Mirror). x.id.server ≡ m.id.server) (λ is. refl) (λ off. refl)

seen_settle : (id : MirrorId) (tick : Tick) (stage : CallStage) (live : List Mirror) → Thin (settle_spots (seen_at id tick live) stage) (settle_spots live stage)
seen_settle id tick stage [] = tt
seen_settle id tick stage (m ∷ live) = (inr (ap (λ (k : ℕ). (k, number_of stage)) (seen_server id tick m)), tt)

seen_thin : (id : MirrorId) (tick : Tick) (live : List Mirror) (a : Activity) → Thin (spots_in (seen_at id tick live) a) (spots_in live a)
seen_thin id tick live Idle = tt
seen_thin id tick live (Makes all) = thin_same (map creation_spot all.items)
seen_thin id tick live (Fences g) = thin_same (map mirror_spot g.mirrors)
seen_thin id tick live (Settles stage) = seen_settle id tick stage live
seen_thin id tick live (Copies c) = thin_same (copy_spots c)

pub sees_next : (file : FileId) (f : MdsFile) (fresh : Fresh) (id : MirrorId) (seen : Tick) → KindOf f → IsNext f (phase file f (Sees id seen) fresh).file
sees_next file f fresh id seen kind = record { left = thin_left (spots_in (seen_at id seen f.layout.live) f.activity) (own_spots f) (seen_thin id seen f.layout.live f.activity); kind = kind }

pub itself_next : (file : FileId) (f : MdsFile) (fresh : Fresh) (input : FileInput) → comes_by_itself input ≡ true → KindOf f → IsNext f (phase file f input fresh).file
itself_next file f fresh (AsksLayout client) is kind = asked_next file f kind (Client client) [] fresh f.layout.phase refl
itself_next file f fresh (OwnWrite at bytes) is kind = asked_next file f kind Mds (entry.Sent file f.layout.cred at bytes ∷ []) fresh f.layout.phase refl
itself_next file f fresh Recall is kind =
    held_next file f kind (by_client f (recalled_row f)) f.layout.phase refl
    (λ holder none. client_next file f kind (recalled_row f) holder (λ client. record { left = left_same (own_spots f); kind = kind_none f.activity f.layout.phase (Held (Client client) true) none kind }))
itself_next file f fresh (Returns client claimed places) is kind =
    held_next file f kind (by_client f (returned_row file f client claimed places fresh)) f.layout.phase refl
    (λ holder none. client_next file f kind (returned_row file f client claimed places fresh) holder (returned_next file f kind client claimed places fresh))
itself_next file f fresh (Revokes cause) is kind =
    held_next file f kind (by_client f (λ client. revoked_row file f cause fresh)) f.layout.phase refl (λ holder none. client_next file f kind (λ client. revoked_row file f cause fresh) holder (λ client. revoked_next file f kind cause fresh))
itself_next file f fresh (OwnEnds causes at bytes) is kind =
    held_next file f kind (by_mds f (own_row file f causes (entry.Told file f.layout.cred at bytes) fresh)) f.layout.phase refl
    (λ holder none. mds_next file f kind (own_row file f causes (entry.Told file f.layout.cred at bytes) fresh) holder (fencing_next file f kind (own_done file f.layout causes (entry.Told file f.layout.cred at bytes) (a_uid fresh.uid)) fresh.uid))
itself_next file f fresh Resilver is kind = resilvered_next file f kind fresh f.layout.phase
itself_next file f fresh (Answers xid reply) is kind = absurd cc
itself_next file f fresh (TimesOut xid) is kind = absurd cc
itself_next file f fresh Ticks is kind = record { left = thin_left (spots_in f.layout.live (ticked f.activity)) (own_spots f) (ticked_thin f.layout.live f.activity); kind = ticked_kind f.activity f.layout.phase kind }
itself_next file f fresh (Sees id seen) is kind = absurd cc

-- ---- a timeout

late_less : (server : ℕ) (stage : CallStage) (behind : ℕ → CallStage) → ((xid : ℕ) → Less (server, Some xid) (server, number_of (behind xid))) → Less (server, number_of stage) (server, number_of (stage_behind stage behind))
late_less server Waits behind each = inr refl
late_less server (Out xid timeouts) behind each =
    cond_both (nat_lt (timeouts + 1) MAX_TIMEOUTS) (Out xid (timeouts + 1)) (behind xid) (λ (s : CallStage). Less (server, Some xid) (server, number_of s)) (λ few. inr refl) (λ last. each xid)
late_less server (KeptOut xid) behind each = inr refl
late_less server KeptBack behind each = inr refl
late_less server Done behind each = inr refl
late_less server GivenUp behind each = inr refl

creation_late : (all : Creations) (c : Creation) → Less (creation_spot c) (creation_spot (creation_timed_out all c))
creation_late all c =
    late_less c.server c.stage (λ xid. creation_failed all (KeptOut xid))
    (λ xid. cond_both (nat_lt 1 (standing all)) GivenUp (KeptOut xid) (λ (s : CallStage). Less (c.server, Some xid) (c.server, number_of s)) (λ is. inl refl) (λ off. inr refl))

-- a mirror behind a step, told with where its call stood
mirror_late : (m : FenceMirror) (stage : CallStage) → m.stage ≡ stage → Less (mirror_spot m) (mirror_spot (fence.stage_timed_out m stage).mirror)
mirror_late m (Out xid timeouts) is =
    let out : mirror_spot m ≡ (m.id.server, Some xid) = ap (λ (s : CallStage). (m.id.server, number_of s)) is in
    cond_both (nat_lt (timeouts + 1) MAX_TIMEOUTS) (record { mirror = with_stage m (Out xid (timeouts + 1)); step = Again })
    (record { mirror = with_stage m (KeptOut xid); step = HasFailed m.id Timeouts }) (λ (s : MirrorStep). Less (mirror_spot m) (mirror_spot s.mirror)) (λ few. inr (sym out)) (λ last. inr (sym out))
mirror_late m (KeptOut xid) is = inr refl
mirror_late m Waits is = inr refl
mirror_late m KeptBack is = inr refl
mirror_late m Done is = inr refl
mirror_late m GivenUp is = inr refl

fence_late_at : (g : FenceState) (place : ℕ) (o : Option FenceMirror) → slice_get g.mirrors place ≡ o → Thin (map mirror_spot (fence.step_at g fence.timed_out place o).fence.mirrors) (map mirror_spot g.mirrors)
fence_late_at g place None at = thin_same (map mirror_spot g.mirrors)
fence_late_at g place (Some m) at = item_left mirror_spot g.mirrors place m (fence.timed_out m).mirror at (mirror_late m m.stage refl)

fence_late : (g : FenceState) (o : Option ℕ) → Thin (map mirror_spot (fence.step_from g fence.timed_out o).fence.mirrors) (map mirror_spot g.mirrors)
fence_late g None = thin_same (map mirror_spot g.mirrors)
fence_late g (Some place) = fence_late_at g place (slice_get g.mirrors place) refl

-- a copy goes on
on_thin : (c : CopyState) → Thin (copy_spots (copy.goes_on c)) (copy_spots c)
on_thin c =
    cond_both (is_over c.read && not c.ended && have_answered c) (copy.with_next c) c (λ (d : CopyState). Thin (copy_spots d) (copy_spots c)) (λ is. (inl refl, thin_same (map target_spot c.targets))) (λ off. thin_same (copy_spots c))

target_late : (t : CopyTarget) (stage : CallStage) → t.stage ≡ stage → Less (target_spot t) (target_spot (copy.target_late t stage).target)
target_late t Waits is = inr refl
target_late t (Out xid timeouts) is =
    cond_both (nat_lt (timeouts + 1) MAX_TIMEOUTS) (copy.goes_on_with (copy.at_stage t (Out xid (timeouts + 1)))) (copy.target_fails t Timeouts) (λ (s : TargetStep). Less (target_spot t) (target_spot s.target))
    (λ few. inr (sym (ap (λ (s : CallStage). (t.server, number_of s)) is))) (λ last. inl refl)
target_late t (KeptOut xid) is = inr refl
target_late t KeptBack is = inr refl
target_late t Done is = inr refl
target_late t GivenUp is = inr refl

read_late : (c : CopyState) (stage : CallStage) → c.read ≡ stage → Thin (copy_spots (copy.read_late c stage).copy) (copy_spots c)
read_late c Waits is = thin_same (copy_spots c)
read_late c (Out xid timeouts) is =
    let out : (c.source.server, number_of c.read) ≡ (c.source.server, Some xid) = ap (λ (s : CallStage). (c.source.server, number_of s)) is in
    cond_both (nat_lt (timeouts + 1) MAX_TIMEOUTS) (record { copy = copy.with_read c (Out xid (timeouts + 1)); step = copy_step.Waiting }) (copy.source_fails c (KeptOut xid) Timeouts) (λ (a : CopyAfter). Thin (copy_spots a.copy) (copy_spots c))
    (λ few. (inr (sym out), thin_same (map target_spot c.targets))) (λ last. (inr (sym out), thin_same (map target_spot c.targets)))
read_late c (KeptOut xid) is = thin_same (copy_spots c)
read_late c KeptBack is = thin_same (copy_spots c)
read_late c Done is = thin_same (copy_spots c)
read_late c GivenUp is = thin_same (copy_spots c)

-- behind a step of a target
stepped_left : (c : CopyState) (place : ℕ) (x : TargetStep) (t : CopyTarget) → slice_get c.targets place ≡ Some t → Less (target_spot t) (target_spot x.target) → IsLeft (copy_spots (copy.stepped c place x).copy) (copy_spots c)
stepped_left c place x t at less =
    let d : CopyState = copy.with_target c place x.target in
    left_then (copy_spots (copy.goes_on d)) (copy_spots d) (copy_spots c) (thin_left (copy_spots (copy.goes_on d)) (copy_spots d) (on_thin d))
    (thin_left (copy_spots d) (copy_spots c) (inr refl, item_left target_spot c.targets place t x.target at less))

copy_late_at : (c : CopyState) (place : ℕ) (o : Option CopyTarget) → slice_get c.targets place ≡ o → IsLeft (copy_spots (copy.step_at c (λ t. copy.target_late t t.stage) place o).copy) (copy_spots c)
copy_late_at c place None at = left_same (copy_spots c)
copy_late_at c place (Some t) at = stepped_left c place (copy.target_late t t.stage) t at (target_late t t.stage refl)

by_read_late : (c : CopyState) (xid : ℕ) → IsLeft (copy_spots (copy.by_read c xid (copy.read_late c c.read)).copy) (copy_spots c)
by_read_late c xid =
    cond_both (is_out xid c.read) (copy.read_late c c.read) (copy.stranger c) (λ (a : CopyAfter). IsLeft (copy_spots a.copy) (copy_spots c)) (λ is. thin_left (copy_spots (copy.read_late c c.read).copy) (copy_spots c) (read_late c c.read refl))
    (λ off. left_same (copy_spots c))

copy_late : (c : CopyState) (xid : ℕ) (o : Option ℕ) → IsLeft (copy_spots (copy.step_from c (λ t. copy.target_late t t.stage) (copy.by_read c xid (copy.read_late c c.read)) o).copy) (copy_spots c)
copy_late c xid None = by_read_late c xid
copy_late c xid (Some place) = copy_late_at c place (slice_get c.targets place) refl

module _ (file : FileId) (layout : LayoutState) where
  making_late_at : (all : Creations) (place : ℕ) (o : Option Creation) → slice_get all.items place ≡ o → IsEnd (map creation_spot all.items) (making_at file layout all (creation_timed_out all) place o).file
  making_late_at all place None at = end_same (record { layout = layout; activity = Makes all }) tt
  making_late_at all place (Some c) at =
      let after : Creations = with_creation all place (creation_timed_out all c) in
      end_then (map creation_spot after.items) (map creation_spot all.items) (making_on file layout after).file
      (thin_left (map creation_spot after.items) (map creation_spot all.items) (item_left creation_spot all.items place c (creation_timed_out all c) at (creation_late all c))) (making_end file layout after)

  making_late : (all : Creations) (o : Option ℕ) → IsEnd (map creation_spot all.items) (making_by file layout all (creation_timed_out all) o).file
  making_late all None = end_same (record { layout = layout; activity = Makes all }) tt
  making_late all (Some place) = making_late_at all place (slice_get all.items place) refl

  settling_late : (stage : CallStage) → is_some (kind_of layout.phase) ≡ true → IsEnd (settle_spots layout.live stage) (settling_timed_out file layout stage).file
  settling_late Waits is = end_same (record { layout = layout; activity = Settles Waits }) is
  settling_late (Out xid timeouts) is =
      cond_both (nat_lt (timeouts + 1) MAX_TIMEOUTS) (stays layout (Settles (Out xid (timeouts + 1)))) (source_left file layout layout.live Timeouts (Settles (KeptOut xid)))
      (λ (s : FileStep). IsEnd (settle_spots layout.live (Out xid timeouts)) s.file)
      (λ few. record { left = thin_left (settle_spots layout.live (Out xid (timeouts + 1))) (settle_spots layout.live (Out xid timeouts)) (settle_thin layout.live (Out xid timeouts) (Out xid (timeouts + 1)) (λ server. inr refl)); kind = is })
      (λ last.
      end_then (settle_spots layout.live (KeptOut xid)) (settle_spots layout.live (Out xid timeouts)) (source_left file layout layout.live Timeouts (Settles (KeptOut xid))).file
      (thin_left (settle_spots layout.live (KeptOut xid)) (settle_spots layout.live (Out xid timeouts)) (settle_thin layout.live (Out xid timeouts) (KeptOut xid) (λ server. inr refl))) (source_end file layout layout.live Timeouts (Settles (KeptOut xid)) is is))
  settling_late (KeptOut xid) is = end_same (record { layout = layout; activity = Settles (KeptOut xid) }) is
  settling_late KeptBack is = end_same (record { layout = layout; activity = Settles KeptBack }) is
  settling_late Done is = end_same (record { layout = layout; activity = Settles Done }) is
  settling_late GivenUp is = end_same (record { layout = layout; activity = Settles GivenUp }) is

late_in : (file : FileId) (f : MdsFile) (fresh : Fresh) (xid : ℕ) (a : Activity) → f.activity ≡ a → Kind a f.layout.phase → IsEnd (spots_in f.layout.live a) (timed_out_in file f xid fresh a).file
late_in file f fresh xid Idle is kind = record { left = subst (λ (b : Activity). IsLeft (spots_in f.layout.live b) []) (sym is) (left_same []); kind = subst (λ (b : Activity). Kind b f.layout.phase) (sym is) tt }
late_in file f fresh xid (Makes all) is kind = making_late file f.layout all (creation_of all xid)
late_in file f fresh xid (Fences g) is kind =
    let after : FenceAfter = fence.on_timeout g xid in
    end_then (map mirror_spot after.fence.mirrors) (map mirror_spot g.mirrors) (fence_stepped file f.layout after.fence after.step).file
    (thin_left (map mirror_spot after.fence.mirrors) (map mirror_spot g.mirrors) (fence_late g (fence.outstanding_at g xid))) (fence_end file f.layout after.fence after.step)
late_in file f fresh xid (Settles stage) is kind =
    cond_both (is_out xid stage) (settling_timed_out file f.layout stage) (nothing f) (λ (s : FileStep). IsEnd (settle_spots f.layout.live stage) s.file) (λ out. settling_late file f.layout stage kind)
    (λ off. record { left = subst (λ (b : Activity). IsLeft (spots_in f.layout.live b) (settle_spots f.layout.live stage)) (sym is) (left_same (settle_spots f.layout.live stage)); kind = subst (λ (b : Activity). Kind b f.layout.phase) (sym is) kind })
late_in file f fresh xid (Copies c) is kind =
    let after : CopyAfter = copy.on_timeout c xid in
    end_then (copy_spots after.copy) (copy_spots c) (copy_stepped file f.layout after.copy fresh after.step).file (copy_late c xid (copy.target_of c xid)) (copy_end file fresh f.layout after.copy after.step kind)

pub late_next : (file : FileId) (f : MdsFile) (fresh : Fresh) (xid : ℕ) → KindOf f → IsNext f (phase file f (TimesOut xid) fresh).file
late_next file f fresh xid kind = late_in file f fresh xid f.activity refl kind

-- ---- an answer

-- a part of the calls is left, without the one of this number
pub record Taken (n : ℕ) (xs ys : List Spot) : Type 0 where
  pub left : IsLeft ys xs
  pub gone : Once xs → has_number n ys ≡ false

pub taken_then : (n : ℕ) (xs ys zs : List Spot) → Taken n xs ys → IsLeft zs ys → Taken n xs zs
taken_then n xs ys zs t l = record { left = left_then zs ys xs l t.left; gone = λ once. l.number n (t.gone once) }

-- what is left is the file's
pub record IsTaken (n : ℕ) (xs : List Spot) (f : MdsFile) : Type 0 where
  pub taken : Taken n xs (own_spots f)
  pub kind : KindOf f

ends_taken : (n : ℕ) (xs ys : List Spot) (f : MdsFile) → Taken n xs ys → IsEnd ys f → IsTaken n xs f
ends_taken n xs ys f t e = record { taken = taken_then n xs ys (own_spots f) t e.left; kind = e.kind }

none_taken : (n : ℕ) (xs : List Spot) (f : MdsFile) → HasNone f → IsTaken n xs f
none_taken n xs f h = record { taken = record { left = none_left (own_spots f) xs h.none; gone = λ once. none_number n (own_spots f) h.none }; kind = h.kind }

pub never_out : (n : ℕ) (xs : List Spot) → has_number n xs ≡ false → Taken n xs xs
never_out n xs off = record { left = left_same xs; gone = λ once. off }

pub item_gone : {A : Type 0} (f : A → Spot) (n : ℕ) (xs : List A) (i : ℕ) (x y : A) → slice_get xs i ≡ Some x → is_number n (f x).1 ≡ true → (f y).1 ≡ None → Taken n (map f xs) (map f (slice_set xs i y))
item_gone f n xs i x y at is none = record { left = thin_left (map f (slice_set xs i y)) (map f xs) (item_left f xs i x y at (inl none)); gone = item_taken f n xs i x y at is none }

-- CREATEs
given_up_none : (all : Creations) → number_of (creation_failed all KeptBack) ≡ None
given_up_none all = cond_both (nat_lt 1 (standing all)) GivenUp KeptBack (λ (s : CallStage). number_of s ≡ None) (λ is. refl) (λ off. refl)

creation_none : (all : Creations) (c : Creation) (reply : DsReplyValue) → number_of (creation_answered all c reply).stage ≡ None
creation_none all c (Created fileid shown) = refl
creation_none all c (Set shown) = given_up_none all
creation_none all c (Written shown verifier) = given_up_none all
creation_none all c (Committed shown verifier) = given_up_none all
creation_none all c (Bytes shown eof bytes) = given_up_none all
creation_none all c (NotSync shown) = given_up_none all
creation_none all c (Failed status shown) = given_up_none all

-- a fence
sync_none : (m : FenceMirror) → number_of (fence.out_of_sync m).mirror.stage ≡ None
sync_none m =
    cond_both (nat_lt (m.unsynced + 1) fence.max_unsynced) (record { mirror = record { id = m.id; seen = m.seen; unsynced = m.unsynced + 1; stage = Waits }; step = Again }) (fence.failed_by m Unsynced)
    (λ (s : MirrorStep). number_of s.mirror.stage ≡ None) (λ few. refl) (λ many. refl)

mirror_none : (cred : ℕ) (m : FenceMirror) (reply : DsReplyValue) → number_of (fence.answered cred m reply).mirror.stage ≡ None
mirror_none cred m (Set shown) = refl
mirror_none cred m (NotSync shown) =
    cond_both (shown.owner.0 == cred) (fence.acknowledged (having_seen m (Some shown))) (fence.out_of_sync (having_seen m (Some shown))) (λ (s : MirrorStep). number_of s.mirror.stage ≡ None) (λ is. refl) (λ off. sync_none (having_seen m (Some shown)))
mirror_none cred m (Failed status shown) = refl
mirror_none cred m (Created fileid shown) = refl
mirror_none cred m (Written shown verifier) = refl
mirror_none cred m (Committed shown verifier) = refl
mirror_none cred m (Bytes shown eof bytes) = refl

-- what passes the rule's test has the number
pub out_is : (n : ℕ) (stage : CallStage) → is_out n stage ≡ true → is_number n (number_of stage) ≡ true
out_is n stage is = sym (out_number n stage) ∙ is

fence_answered_at : (g : FenceState) (xid : ℕ) (reply : DsReplyValue) (place : ℕ) → position (λ (m : FenceMirror). is_out xid m.stage) g.mirrors ≡ Some place → (o : Option FenceMirror) → slice_get g.mirrors place ≡ o
    → Taken xid (map mirror_spot g.mirrors) (map mirror_spot (fence.step_at g (λ m. fence.answered g.cred m reply) place o).fence.mirrors)
fence_answered_at g xid reply place first None at = absurd (first_there (λ (m : FenceMirror). is_out xid m.stage) g.mirrors place first at)
fence_answered_at g xid reply place first (Some m) at =
    item_gone mirror_spot xid g.mirrors place m (fence.answered g.cred m reply).mirror at (out_is xid m.stage (first_passes (λ (m : FenceMirror). is_out xid m.stage) g.mirrors place m first at)) (mirror_none g.cred m reply)

fence_gone : (g : FenceState) (xid : ℕ) (reply : DsReplyValue) (o : Option ℕ) → position (λ (m : FenceMirror). is_out xid m.stage) g.mirrors ≡ o
    → Taken xid (map mirror_spot g.mirrors) (map mirror_spot (fence.step_from g (λ m. fence.answered g.cred m reply) o).fence.mirrors)
fence_gone g xid reply None first = never_out xid (map mirror_spot g.mirrors) (none_of (λ (m : FenceMirror). m.id.server) (λ (m : FenceMirror). m.stage) xid g.mirrors first)
fence_gone g xid reply (Some place) first = fence_answered_at g xid reply place first (slice_get g.mirrors place) refl

-- a copy
target_none : (t : CopyTarget) (reply : DsReplyValue) (o : Option Mirror) → number_of (copy.target_answered t reply o).target.stage ≡ None
target_none t (Created fileid shown) None = refl
target_none t (Set shown) None = refl
target_none t (Written shown verifier) None = refl
target_none t (Committed shown verifier) None = refl
target_none t (Bytes shown eof bytes) None = refl
target_none t (NotSync shown) None = refl
target_none t (Failed status shown) None = refl
target_none t (Created fileid shown) (Some m) = refl
target_none t (Set shown) (Some m) = refl
target_none t (Written shown verifier) (Some m) = refl
target_none t (Committed shown verifier) (Some m) = refl
target_none t (Bytes shown eof bytes) (Some m) = refl
target_none t (NotSync shown) (Some m) = refl
target_none t (Failed status shown) (Some m) = refl

for_none : (bytes : List ℕ) → number_of (copy.stage_for bytes) ≡ None
for_none [] = refl
for_none (b ∷ bytes) = refl

write_less : (bytes : List ℕ) (t : CopyTarget) → Less (target_spot t) (target_spot (copy.to_write bytes t))
write_less bytes t = cond_both (is_given_up t.stage) t (copy.at_stage t (copy.stage_for bytes)) (λ (u : CopyTarget). Less (target_spot t) (target_spot u)) (λ is. inr refl) (λ off. inl (for_none bytes))

-- the READ was answered, and no target's call has its number
read_gone : (c d : CopyState) (n : ℕ) → has_number n (map target_spot c.targets) ≡ false → number_of d.read ≡ None → Thin (map target_spot d.targets) (map target_spot c.targets) → Taken n (copy_spots c) (copy_spots d)
read_gone c d n off none thin = record {
  left = thin_left (copy_spots d) (copy_spots c) (inl none, thin);
  gone = λ once. or_false (is_number n (number_of d.read)) (has_number n (map target_spot d.targets)) (ap (is_number n) none) ((thin_left (map target_spot d.targets) (map target_spot c.targets) thin).number n off);
}

kept_gone : (c : CopyState) (n : ℕ) (cause : LeftCause) → has_number n (map target_spot c.targets) ≡ false → Taken n (copy_spots c) (copy_spots (copy.source_fails c KeptBack cause).copy)
kept_gone c n cause off = read_gone c (copy.with_read c KeptBack) n off refl (thin_same (map target_spot c.targets))

read_answered_gone : (c : CopyState) (n : ℕ) (reply : DsReplyValue) → has_number n (map target_spot c.targets) ≡ false → Taken n (copy_spots c) (copy_spots (copy.read_answered c reply).copy)
read_answered_gone c n (Created fileid shown) off = kept_gone c n (Error fence.odd_status) off
read_answered_gone c n (Set shown) off = kept_gone c n (Error fence.odd_status) off
read_answered_gone c n (Written shown verifier) off = kept_gone c n (Error fence.odd_status) off
read_answered_gone c n (Committed shown verifier) off = kept_gone c n (Error fence.odd_status) off
read_answered_gone c n (Bytes shown eof bytes) off =
    let d : CopyState = copy.with_piece c eof bytes in
    cond_both (copy.is_long c bytes) (copy.source_fails c KeptBack (Error fence.odd_status)) (copy.copy_then d copy_step.Waiting) (λ (a : CopyAfter). Taken n (copy_spots c) (copy_spots a.copy)) (λ long. kept_gone c n (Error fence.odd_status) off)
    (λ fits. taken_then n (copy_spots c) (copy_spots d) (copy_spots (copy.goes_on d)) (read_gone c d n off refl (map_thin target_spot (copy.to_write bytes) (write_less bytes) c.targets)) (thin_left (copy_spots (copy.goes_on d)) (copy_spots d) (on_thin d)))
read_answered_gone c n (NotSync shown) off = kept_gone c n (Error fence.odd_status) off
read_answered_gone c n (Failed status shown) off = kept_gone c n (Error status) off

copy_answered_at : (c : CopyState) (xid : ℕ) (reply : DsReplyValue) (place : ℕ) → position (λ (t : CopyTarget). is_out xid t.stage) c.targets ≡ Some place → (o : Option CopyTarget) → slice_get c.targets place ≡ o
    → Taken xid (copy_spots c) (copy_spots (copy.step_at c (λ t. copy.target_answered t reply t.made) place o).copy)
copy_answered_at c xid reply place first None at = absurd (first_there (λ (t : CopyTarget). is_out xid t.stage) c.targets place first at)
copy_answered_at c xid reply place first (Some t) at =
    let u : CopyTarget = (copy.target_answered t reply t.made).target in
    let d : CopyState = copy.with_target c place u in
    let is : is_number xid (number_of t.stage) ≡ true = out_is xid t.stage (first_passes (λ (t : CopyTarget). is_out xid t.stage) c.targets place t first at) in
    let none : number_of u.stage ≡ None = target_none t reply t.made in
    taken_then xid (copy_spots c) (copy_spots d) (copy_spots (copy.goes_on d))
    (record {
      left = thin_left (copy_spots d) (copy_spots c) (inr refl, item_left target_spot c.targets place t u at (inl none));
      gone = λ once.
          ap (λ (l : List Spot). has_number xid ((c.source.server, number_of c.read) ∷ l)) (map_set target_spot c.targets place u)
          ∙ set_taken xid (copy_spots c) (suc place) (target_spot t) (target_spot u) (map_get target_spot c.targets place t at) is none once;
    }) (thin_left (copy_spots (copy.goes_on d)) (copy_spots d) (on_thin d))

copy_gone : (c : CopyState) (xid : ℕ) (reply : DsReplyValue) (o : Option ℕ) → position (λ (t : CopyTarget). is_out xid t.stage) c.targets ≡ o
    → Taken xid (copy_spots c) (copy_spots (copy.step_from c (λ t. copy.target_answered t reply t.made) (copy.by_read c xid (copy.read_answered c reply)) o).copy)
copy_gone c xid reply None first =
    let off : has_number xid (map target_spot c.targets) ≡ false = none_of (λ (t : CopyTarget). t.server) (λ (t : CopyTarget). t.stage) xid c.targets first in
    cond_both (is_out xid c.read) (copy.read_answered c reply) (copy.stranger c) (λ (a : CopyAfter). Taken xid (copy_spots c) (copy_spots a.copy)) (λ is. read_answered_gone c xid reply off)
    (λ no. never_out xid (copy_spots c) (or_false (is_number xid (number_of c.read)) (has_number xid (map target_spot c.targets)) (sym (out_number xid c.read) ∙ no) off))
copy_gone c xid reply (Some place) first = copy_answered_at c xid reply place first (slice_get c.targets place) refl

-- the COMMIT
settle_off : (n : ℕ) (stage : CallStage) (live : List Mirror) → is_out n stage ≡ false → has_number n (settle_spots live stage) ≡ false
settle_off n stage [] off = refl
settle_off n stage (m ∷ live) off = or_false (is_number n (number_of stage)) false (sym (out_number n stage) ∙ off) refl

seen_phase : (layout : LayoutState) (live : List Mirror) (shown : Option Shown) → (seen_at_source layout live shown).phase ≡ layout.phase
seen_phase layout [] shown = refl
seen_phase layout (m ∷ live) None = refl
seen_phase layout (m ∷ live) (Some shown) = refl

module _ (file : FileId) (f : MdsFile) (fresh : Fresh) (xid : ℕ) (reply : DsReplyValue) where
  making_gone_at : (all : Creations) (place : ℕ) → creation_of all xid ≡ Some place → (o : Option Creation) → slice_get all.items place ≡ o → IsTaken xid (map creation_spot all.items) (making_at file f.layout all (λ c. creation_answered all c reply) place o).file
  making_gone_at all place first None at = absurd (first_there (λ (c : Creation). is_out xid c.stage) all.items place first at)
  making_gone_at all place first (Some c) at =
      let d : Creation = creation_answered all c reply in
      let after : Creations = with_creation all place d in
      ends_taken xid (map creation_spot all.items) (map creation_spot after.items) (making_on file f.layout after).file
      (item_gone creation_spot xid all.items place c d at (out_is xid c.stage (first_passes (λ (c : Creation). is_out xid c.stage) all.items place c first at)) (creation_none all c reply)) (making_end file f.layout after)

  making_gone : (all : Creations) (o : Option ℕ) → creation_of all xid ≡ o → IsTaken xid (map creation_spot all.items) (making_by file f.layout all (λ c. creation_answered all c reply) o).file
  making_gone all None first = record { taken = never_out xid (map creation_spot all.items) (none_of (λ (c : Creation). c.server) (λ (c : Creation). c.stage) xid all.items first); kind = tt }
  making_gone all (Some place) first = making_gone_at all place first (slice_get all.items place) refl

  settles_gone : (layout : LayoutState) (stage : CallStage) (o : Option CopyKind) → is_some o ≡ true → is_some (kind_of layout.phase) ≡ true → IsTaken xid (settle_spots f.layout.live stage) (settles_by f (λ copies. settling_answered file layout copies fresh reply) o).file
  settles_gone layout stage None some kind = absurd (not_both (sym some))
  settles_gone layout stage (Some copies) some kind = none_taken xid (settle_spots f.layout.live stage) (settling_answered file layout copies fresh reply).file (answered_none file fresh layout copies reply kind)

  answer_in : (a : Activity) → f.activity ≡ a → Kind a f.layout.phase → IsTaken xid (spots_in f.layout.live a) (answered_in file f xid reply fresh a).file
  answer_in Idle is kind = record {
    taken = subst (λ (b : Activity). Taken xid [] (spots_in f.layout.live b)) (sym is) (never_out xid [] refl);
    kind = subst (λ (b : Activity). Kind b f.layout.phase) (sym is) tt;
  }
  answer_in (Makes all) is kind = making_gone all (creation_of all xid) refl
  answer_in (Fences g) is kind =
      let after : FenceAfter = fence.on_reply g xid reply in
      let layout : LayoutState = seen_by f.layout (mirror_at g (fence.outstanding_at g xid)) (shown_by_set reply) in
      ends_taken xid (map mirror_spot g.mirrors) (map mirror_spot after.fence.mirrors) (fence_stepped file layout after.fence after.step).file (fence_gone g xid reply (fence.outstanding_at g xid) refl) (fence_end file layout after.fence after.step)
  answer_in (Settles stage) is kind =
      let layout : LayoutState = seen_at_source f.layout f.layout.live (shown_by_commit reply) in
      cond_both (is_out xid stage) (settles_by f (λ copies. settling_answered file layout copies fresh reply) (kind_of f.layout.phase)) (nothing f) (λ (s : FileStep). IsTaken xid (settle_spots f.layout.live stage) s.file)
      (λ out. settles_gone layout stage (kind_of f.layout.phase) kind (ap (λ (p : LayoutPhase). is_some (kind_of p)) (seen_phase f.layout f.layout.live (shown_by_commit reply)) ∙ kind))
      (λ off. record {
        taken = subst (λ (b : Activity). Taken xid (settle_spots f.layout.live stage) (spots_in f.layout.live b)) (sym is) (never_out xid (settle_spots f.layout.live stage) (settle_off xid stage f.layout.live off));
        kind = subst (λ (b : Activity). Kind b f.layout.phase) (sym is) kind;
      })
  answer_in (Copies c) is kind =
      let after : CopyAfter = copy.on_reply c xid reply in
      ends_taken xid (copy_spots c) (copy_spots after.copy) (copy_stepped file f.layout after.copy fresh after.step).file (copy_gone c xid reply (copy.target_of c xid) refl) (copy_end file fresh f.layout after.copy after.step kind)

pub answer_next : (file : FileId) (f : MdsFile) (fresh : Fresh) (xid : ℕ) (reply : DsReplyValue) → KindOf f → IsTaken xid (own_spots f) (phase file f (Answers xid reply) fresh).file
answer_next file f fresh xid reply kind = answer_in file f fresh xid reply f.activity refl kind

pub unasked_itself : (input : FileInput) → comes_unasked input ≡ true → comes_by_itself input ≡ true
unasked_itself (AsksLayout client) is = refl
unasked_itself (OwnWrite at bytes) is = refl
unasked_itself Recall is = refl
unasked_itself (Returns client claimed places) is = refl
unasked_itself (Revokes cause) is = refl
unasked_itself (OwnEnds causes at bytes) is = refl
unasked_itself Resilver is = refl
unasked_itself (Answers xid reply) is = is
unasked_itself (TimesOut xid) is = is
unasked_itself Ticks is = refl
unasked_itself (Sees id seen) is = is
