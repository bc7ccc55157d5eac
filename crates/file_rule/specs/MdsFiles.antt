-- A file at the metadata server, with the calls that it has under way (RFC 8435, section 2.2): what each input of the table of phases
-- does to it, and each answer and timeout of its calls.
use Rattle.std.specs.Prelude.{ℕ, ◌+◌, ◌-◌, not, List, [], ◌∷◌, ◌++◌, length, filter, take, drop, position, Option, Some, None, nat_lt, if◌then◌else◌, slice_get, slice_set}
use Rattle.std.specs.List.{list_all, flat_map, range_with_len}
use Rattle.std.specs.Option.{option_to_list}
use Rattle.cluster_model.specs.declared.limits.TheConstants.{MAX_TIMEOUTS}
use Rattle.cluster_model.specs.declared.tick.Tick.{Tick}
use Rattle.cluster_model.specs.declared.ids.FileId.{FileId}
use Rattle.cluster_model.specs.declared.ids.Cred.{Cred}
use Rattle.cluster_model.specs.declared.ids.MirrorId.{MirrorId}
use Rattle.cluster_model.specs.declared.ids.Mirror.{Mirror}
use Rattle.cluster_model.specs.declared.phase.LeftCause.{LeftCause}
use Rattle.cluster_model.specs.declared.phase.LeftCause.TheVariants.{Error, Timeouts}
use Rattle.cluster_model.specs.declared.entry.Entry.{Entry}
use Rattle.cluster_model.specs.declared.ds_call.Shown.{Shown}
use Rattle.cluster_model.specs.declared.call_stage.CallStage.{CallStage}
use Rattle.cluster_model.specs.declared.call_stage.CallStage.TheVariants.{Waits, Out, KeptOut, KeptBack, Done, GivenUp}
use Rattle.cluster_model.specs.declared.fence_mirror.FenceMirror.{FenceMirror}
use Rattle.cluster_model.specs.declared.fence_mirror.FenceStep.{FenceStep}
use Rattle.cluster_model.specs.declared.fence_mirror.FenceStep.TheVariants.{Stranger, Acked, Again, Failed as HasFailed}
use Rattle.cluster_model.specs.declared.layout_state.LayoutState.{LayoutState}
use Rattle.cluster_model.specs.declared.layout_state.LayoutPhase.{LayoutPhase}
use Rattle.cluster_model.specs.declared.layout_state.LayoutPhase.TheVariants.{Making, Free, Held, Fencing, Settling, Copying}
use Rattle.cluster_model.specs.declared.layout_state.CopyKind.{CopyKind}
use Rattle.cluster_model.specs.declared.layout_state.CopyKind.TheVariants.{Replacing, Adding}
use Rattle.cluster_model.specs.Mirrors.{has_server}
use Rattle.cluster_model.specs.DsCalls.{DsReplyValue, Created, Set, Written, Committed, Bytes, NotSync, Failed}
use Rattle.cluster_model.specs.Fences.{is_out, is_over, odd_status, FenceState, fence_of, outstanding_at, on_reply, on_timeout, without, is_done}
use Rattle.cluster_model.specs.Phases.{seen_at, is_last_live, with_live, PhaseStep, made, mirror_left, fence_done, settled_row, copied, has_targets}
use Rattle.cluster_model.specs.declared.targets.SwappedIn.{SwappedIn}
use Rattle.copy_rule.specs.Copies.{CopyState, is_given_up, new_copy, swaps_of, has_outcome}
use Rattle.copy_rule.specs.declared.copy_target.Target.{Target}
use Rattle.copy_rule.specs.declared.copy_target.CopyStep.{CopyStep}
use Rattle.copy_rule.specs.Copies as copy
use Rattle.file_rule.specs.declared.creation.Creation.{Creation}
use Rattle.file_rule.specs.declared.fresh.Fresh.{Fresh}
use Rattle.copy_rule.specs.declared.copy_target.CopyStep.TheVariants as copy_step

-- ---- the files that are made at data servers for a new file

pub record Creations : Type 0 where
  -- the uid that they are to belong to
  pub owner : ℕ
  pub items : List Creation

-- What a file has under way: CREATEs, a fence, the COMMIT of the mirror from which the others are to be copied, the copy.
pub data Activity : Type 0 where
  Idle : Activity
  Makes : Creations → Activity
  Fences : FenceState → Activity
  Settles : CallStage → Activity
  Copies : CopyState → Activity

pub record MdsFile : Type 0 where
  pub layout : LayoutState
  pub activity : Activity

-- the file after an input, the entries of it, and how many uids and name numbers were drawn
pub record FileStep : Type 0 where
  pub file : MdsFile
  pub entries : List Entry
  pub uids : ℕ
  pub names : ℕ

abbrev pub nothing : MdsFile → FileStep
nothing f = record { file = f; entries = []; uids = 0; names = 0 }

abbrev pub stays : LayoutState → Activity → FileStep
stays layout activity = nothing (record { layout = layout; activity = activity })

abbrev pub a_uid : ℕ → Cred
a_uid n = record { 0 = n }

-- ---- where a file goes on

-- a row without calls behind it
abbrev pub goes_idle : PhaseStep → ℕ → FileStep
goes_idle row uids = record { file = record { layout = row.file; activity = Idle }; entries = row.entries; uids = uids; names = 0 }

-- a row behind which the mirrors are fenced to this uid
abbrev pub goes_fencing : PhaseStep → ℕ → FileStep
goes_fencing row next = record { file = record { layout = row.file; activity = Fences (fence_of row.file.live next) }; entries = row.entries; uids = 1; names = 0 }

-- the activity that a phase begins with, once a fence is done
abbrev pub begun_by : LayoutPhase → Activity
begun_by Making = Idle
begun_by Free = Idle
begun_by (Held holder is_recalled) = Idle
begun_by (Fencing next end) = Idle
begun_by (Settling copies) = Settles Waits
begun_by (Copying copier copies) = Idle

abbrev pub goes_on : PhaseStep → FileStep
goes_on row = record { file = record { layout = row.file; activity = begun_by row.file.phase }; entries = row.entries; uids = 0; names = 0 }

abbrev pub with_entries : List Entry → FileStep → FileStep
with_entries entries s = record { file = s.file; entries = entries ++ s.entries; uids = s.uids; names = s.names }

-- ---- a fence

abbrev pub fenced_on : FileId → LayoutState → FenceState → FileStep
fenced_on file layout fence = if is_done fence then goes_on (fence_done file layout) else stays layout (Fences fence)

-- a mirror that fails leaves, unless it is the last one
abbrev pub fence_failed : FileId → LayoutState → FenceState → MirrorId → LeftCause → FileStep
fence_failed file layout fence id cause =
    if is_last_live layout.live then stays layout (Fences fence)
    else with_entries (mirror_left file layout id cause).entries (fenced_on file (mirror_left file layout id cause).file (without fence id))

abbrev pub fence_stepped : FileId → LayoutState → FenceState → FenceStep → FileStep
fence_stepped file layout fence Stranger = stays layout (Fences fence)
fence_stepped file layout fence Acked = fenced_on file layout fence
fence_stepped file layout fence Again = stays layout (Fences fence)
fence_stepped file layout fence (HasFailed id cause) = fence_failed file layout fence id cause

-- the ctime that an answer to a SETATTR shows
abbrev pub shown_by_set : DsReplyValue → Option Shown
shown_by_set (Created fileid shown) = None
shown_by_set (Set shown) = shown
shown_by_set (Written shown verifier) = None
shown_by_set (Committed shown verifier) = None
shown_by_set (Bytes shown eof bytes) = None
shown_by_set (NotSync shown) = Some shown
shown_by_set (Failed status shown) = shown

abbrev pub seen_by : LayoutState → Option FenceMirror → Option Shown → LayoutState
seen_by layout None shown = layout
seen_by layout (Some m) None = layout
seen_by layout (Some m) (Some shown) = with_live layout (seen_at m.id shown.seen layout.live)

abbrev pub mirror_at : FenceState → Option ℕ → Option FenceMirror
mirror_at fence None = None
mirror_at fence (Some place) = slice_get fence.mirrors place

abbrev pub fence_answered : FileId → LayoutState → FenceState → ℕ → DsReplyValue → FileStep
fence_answered file layout fence xid reply =
    fence_stepped file (seen_by layout (mirror_at fence (outstanding_at fence xid)) (shown_by_set reply)) (on_reply fence xid reply).fence (on_reply fence xid reply).step

abbrev pub fence_timed_out : FileId → LayoutState → FenceState → ℕ → FileStep
fence_timed_out file layout fence xid = fence_stepped file layout (on_timeout fence xid).fence (on_timeout fence xid).step

-- ---- CREATEs

abbrev pub in_stage : Creation → CallStage → Creation
in_stage c stage = record { server = c.server; name = c.name; stage = stage; made = c.made }

abbrev pub made_as : Creation → ℕ → Tick → Creation
made_as c fileid seen = record { server = c.server; name = c.name; stage = Done; made = Some (record { id = record { server = c.server; fileid = fileid }; seen = seen }) }

abbrev pub with_creation : Creations → ℕ → Creation → Creations
with_creation all place c = record { owner = all.owner; items = slice_set all.items place c }

-- the files that were made, in order
abbrev pub all_made : Creations → List Mirror
all_made all = flat_map (λ c. option_to_list c.made) all.items

-- how many are made or under way
abbrev pub standing : Creations → ℕ
standing all = length (filter (λ c. not (is_given_up c.stage)) all.items)

-- What an error or a third timeout comes to: the file is given up, but for the last one, which is kept.
abbrev pub creation_failed : Creations → CallStage → CallStage
creation_failed all kept = if nat_lt 1 (standing all) then GivenUp else kept

abbrev pub creation_answered : Creations → Creation → DsReplyValue → Creation
creation_answered all c (Created fileid shown) = made_as c fileid shown.seen
creation_answered all c (Set shown) = in_stage c (creation_failed all KeptBack)
creation_answered all c (Written shown verifier) = in_stage c (creation_failed all KeptBack)
creation_answered all c (Committed shown verifier) = in_stage c (creation_failed all KeptBack)
creation_answered all c (Bytes shown eof bytes) = in_stage c (creation_failed all KeptBack)
creation_answered all c (NotSync shown) = in_stage c (creation_failed all KeptBack)
creation_answered all c (Failed status shown) = in_stage c (creation_failed all KeptBack)

-- the stage of a call behind a timeout, where a third one leaves it at `behind`
abbrev pub stage_behind : CallStage → (ℕ → CallStage) → CallStage
stage_behind Waits behind = Waits
stage_behind (Out xid timeouts) behind = if nat_lt (timeouts + 1) MAX_TIMEOUTS then Out xid (timeouts + 1) else behind xid
stage_behind (KeptOut xid) behind = KeptOut xid
stage_behind KeptBack behind = KeptBack
stage_behind Done behind = Done
stage_behind GivenUp behind = GivenUp

abbrev pub creation_timed_out : Creations → Creation → Creation
creation_timed_out all c = in_stage c (stage_behind c.stage (λ xid. creation_failed all (KeptOut xid)))

abbrev pub creation_of : Creations → ℕ → Option ℕ
creation_of all xid = position (λ c. is_out xid c.stage) all.items

-- a new file is free once each CREATE was answered or given up
abbrev pub making_on : FileId → LayoutState → Creations → FileStep
making_on file layout all = if list_all (λ c. is_over c.stage) all.items then goes_idle (made file layout (all_made all)) 0 else stays layout (Makes all)

abbrev pub making_at : FileId → LayoutState → Creations → (Creation → Creation) → ℕ → Option Creation → FileStep
making_at file layout all step place None = stays layout (Makes all)
making_at file layout all step place (Some c) = making_on file layout (with_creation all place (step c))

abbrev pub making_by : FileId → LayoutState → Creations → (Creation → Creation) → Option ℕ → FileStep
making_by file layout all step None = stays layout (Makes all)
making_by file layout all step (Some place) = making_at file layout all step place (slice_get all.items place)

-- ---- a copy

-- the lowest servers without a live mirror, as many as are missing
abbrev pub servers_without : ℕ → List Mirror → List ℕ
servers_without count live = filter (λ n. not (has_server live n)) (range_with_len 1 count)

abbrev pub replacing : ℕ → List Mirror → List Target
replacing name [] = []
replacing name (m ∷ live) = record { server = m.id.server; name = name; replaced = Some m.id } ∷ replacing (name + 1) live

abbrev pub adding : ℕ → List ℕ → List Target
adding name [] = []
adding name (n ∷ servers) = record { server = n; name = name; replaced = None } ∷ adding (name + 1) servers

-- the plan of a copy: after a dirty end each live mirror but the first is replaced, on its server; else mirrors are added
abbrev pub plan_of : CopyKind → LayoutState → Fresh → List Target
plan_of Replacing layout fresh = replacing fresh.name (drop 1 layout.live)
plan_of Adding layout fresh = adding fresh.name (take (layout.wanted - length layout.live) (servers_without fresh.servers layout.live))

-- the first live mirror, of which each file has one
abbrev pub source_of : List Mirror → MirrorId
source_of [] = record { server = 0; fileid = 0 }
source_of (m ∷ live) = m.id

-- a copy begins
abbrev pub copying : LayoutState → Fresh → List Target → FileStep
copying layout fresh plan = record { file = record { layout = layout; activity = Copies (new_copy (source_of layout.live) plan fresh.uid) }; entries = []; uids = 1; names = length plan }

-- the source is committed
abbrev pub settled : FileId → LayoutState → CopyKind → Fresh → FileStep
settled file layout copies fresh =
    if has_targets copies (length layout.live) layout.wanted
    then copying (settled_row file layout copies (a_uid fresh.uid)).file fresh (plan_of copies layout fresh)
    else goes_idle (settled_row file layout copies (a_uid fresh.uid)) 0

-- the source fails: it leaves, and the next one is to be committed; the last one is kept
abbrev pub source_left : FileId → LayoutState → List Mirror → LeftCause → Activity → FileStep
source_left file layout [] cause kept = stays layout kept
source_left file layout (m ∷ live) cause kept =
    if is_last_live layout.live then stays layout kept
    else record { file = record { layout = (mirror_left file layout m.id cause).file; activity = Settles Waits }; entries = (mirror_left file layout m.id cause).entries; uids = 0; names = 0 }

-- the ctime that an answer to a COMMIT shows at the source
abbrev pub shown_by_commit : DsReplyValue → Option Shown
shown_by_commit (Created fileid shown) = None
shown_by_commit (Set shown) = None
shown_by_commit (Written shown verifier) = None
shown_by_commit (Committed shown verifier) = shown
shown_by_commit (Bytes shown eof bytes) = None
shown_by_commit (NotSync shown) = None
shown_by_commit (Failed status shown) = shown

abbrev pub seen_at_source : LayoutState → List Mirror → Option Shown → LayoutState
seen_at_source layout [] shown = layout
seen_at_source layout (m ∷ live) None = layout
seen_at_source layout (m ∷ live) (Some shown) = with_live layout (seen_at m.id shown.seen layout.live)

-- an answer to the COMMIT, and a timeout of it
abbrev pub settling_answered : FileId → LayoutState → CopyKind → Fresh → DsReplyValue → FileStep
settling_answered file layout copies fresh (Created fileid shown) = source_left file layout layout.live (Error odd_status) (Settles KeptBack)
settling_answered file layout copies fresh (Set shown) = source_left file layout layout.live (Error odd_status) (Settles KeptBack)
settling_answered file layout copies fresh (Written shown verifier) = source_left file layout layout.live (Error odd_status) (Settles KeptBack)
settling_answered file layout copies fresh (Committed shown verifier) = settled file layout copies fresh
settling_answered file layout copies fresh (Bytes shown eof bytes) = source_left file layout layout.live (Error odd_status) (Settles KeptBack)
settling_answered file layout copies fresh (NotSync shown) = source_left file layout layout.live (Error odd_status) (Settles KeptBack)
settling_answered file layout copies fresh (Failed status shown) = source_left file layout layout.live (Error status) (Settles KeptBack)

abbrev pub settling_timed_out : FileId → LayoutState → CallStage → FileStep
settling_timed_out file layout Waits = stays layout (Settles Waits)
settling_timed_out file layout (Out xid timeouts) =
    if nat_lt (timeouts + 1) MAX_TIMEOUTS then stays layout (Settles (Out xid (timeouts + 1)))
    else source_left file layout layout.live Timeouts (Settles (KeptOut xid))
settling_timed_out file layout (KeptOut xid) = stays layout (Settles (KeptOut xid))
settling_timed_out file layout KeptBack = stays layout (Settles KeptBack)
settling_timed_out file layout Done = stays layout (Settles Done)
settling_timed_out file layout GivenUp = stays layout (Settles GivenUp)

-- the targets that are left come into the live list, and a fence begins; with none left the file is free
abbrev pub copied_by : FileId → LayoutState → Cred → List SwappedIn → Fresh → FileStep
copied_by file layout copier [] fresh = goes_idle (copied file layout copier [] (a_uid fresh.uid)) 0
copied_by file layout copier (t ∷ targets) fresh = goes_fencing (copied file layout copier (t ∷ targets) (a_uid fresh.uid)) fresh.uid

-- where the copy has its outcome
abbrev pub copied_on : FileId → LayoutState → CopyState → Fresh → FileStep
copied_on file layout c fresh = if has_outcome c then copied_by file layout (a_uid c.copier) (swaps_of c) fresh else stays layout (Copies c)

-- a target was thrown away: the mirror that it was to replace leaves
abbrev pub target_left : FileId → LayoutState → CopyState → Fresh → LeftCause → Option MirrorId → FileStep
target_left file layout c fresh cause None = copied_on file layout c fresh
target_left file layout c fresh cause (Some id) = with_entries (mirror_left file layout id cause).entries (copied_on file (mirror_left file layout id cause).file c fresh)

abbrev pub copy_stepped : FileId → LayoutState → CopyState → Fresh → CopyStep → FileStep
copy_stepped file layout c fresh copy_step.Stranger = stays layout (Copies c)
copy_stepped file layout c fresh copy_step.Waiting = stays layout (Copies c)
copy_stepped file layout c fresh (copy_step.SourceFailed cause) = source_left file layout layout.live cause (Copies c)
copy_stepped file layout c fresh (copy_step.TargetFailed server replaced cause) = target_left file layout c fresh cause replaced
copy_stepped file layout c fresh copy_step.Done = copied_on file layout c fresh
