-- The table of phases as one function: a file at the metadata server, an input and what may be drawn give the file after it and its
-- entries (RFC 8435, section 2.2; RFC 8881, sections 12.5.5, 18.43 and 18.44).
use Rattle.std.specs.Prelude.{ℕ, ◌+◌, Bool, true, false, ◌==◌, ◌&&◌, List, [], ◌∷◌, length, map, position, Option, Some, None, nat_lt, if◌then◌else◌, slice_get}
use Rattle.std.specs.List.{list_any}
use Rattle.cluster_model.specs.declared.tick.Tick.{Tick}
use Rattle.cluster_model.specs.declared.ids.NodeId.{NodeId}
use Rattle.cluster_model.specs.declared.ids.NodeId.TheVariants.{Mds, Server, Client}
use Rattle.cluster_model.specs.declared.ids.FileId.{FileId}
use Rattle.cluster_model.specs.declared.ids.Cred.{Cred}
use Rattle.cluster_model.specs.declared.ids.MirrorId.{MirrorId}
use Rattle.cluster_model.specs.declared.ids.Mirror.{Mirror}
use Rattle.cluster_model.specs.declared.phase.EndCause.{EndCause}
use Rattle.cluster_model.specs.declared.phase.LeftCause.{LeftCause}
use Rattle.cluster_model.specs.declared.entry.Entry.{Entry}
use Rattle.cluster_model.specs.declared.entry.Entry.TheVariants as entry
use Rattle.cluster_model.specs.declared.call_stage.CallStage.TheVariants.{Waits, Out}
use Rattle.cluster_model.specs.declared.layout_state.LayoutPhase.{LayoutPhase}
use Rattle.cluster_model.specs.declared.layout_state.LayoutPhase.TheVariants.{Making, Free, Held, Fencing, Settling, Copying}
use Rattle.cluster_model.specs.declared.layout_state.CopyKind.{CopyKind}
use Rattle.cluster_model.specs.DsCalls.{DsCallValue, Create, Commit, DsReplyValue}
use Rattle.cluster_model.specs.Fences.{waits, is_out, stage_at_tick, FenceCall, next_call, after_tick}
use Rattle.cluster_model.specs.Phases.{seen_at, with_live, is_clean, begun, granted, recalled, returned, revoked, own_done, resilvered}
use Rattle.file_rule.specs.MdsFiles.{Creations, Activity, Idle, Makes, Fences, Settles, Copies, MdsFile, FileStep, nothing, stays, a_uid, goes_fencing, with_entries, fence_answered, fence_timed_out, in_stage, with_creation, creation_of, creation_answered, creation_timed_out, making_by, shown_by_commit, seen_at_source, settling_answered, settling_timed_out, copy_stepped}
use Rattle.file_rule.specs.declared.creation.Creation.{Creation}
use Rattle.file_rule.specs.declared.fresh.Fresh.{Fresh}
use Rattle.copy_rule.specs.Copies.{CopyCall, on_reply, on_timeout}
use Rattle.copy_rule.specs.Copies as copy
use Rattle.cluster_model.specs.declared.limits.TheConstants.{SPARE_UIDS}

pub data FileInput : Type 0 where
  -- a client asks for a layout for writing
  AsksLayout : (client : ℕ) → FileInput
  -- a WRITE through the metadata server
  OwnWrite : (at : ℕ) (bytes : List ℕ) → FileInput
  -- the layout is to be recalled
  Recall : FileInput
  -- a client returns the layout under this uid, and reports the mirrors at these places
  Returns : (client : ℕ) (claimed : Cred) (places : List Bool) → FileInput
  -- the period ends in another way than by a return or an own write
  Revokes : (cause : EndCause) → FileInput
  -- the own write of these bytes is over, and failed at the mirrors that have a cause
  OwnEnds : (causes : List (Option LeftCause)) (at : ℕ) (bytes : List ℕ) → FileInput
  -- mirrors are to be added
  Resilver : FileInput
  -- an answer to the outstanding call of this number, and a timeout of it
  Answers : (xid : ℕ) (reply : DsReplyValue) → FileInput
  TimesOut : (xid : ℕ) → FileInput
  -- time passes
  Ticks : FileInput
  -- an own write's answer showed this ctime at a mirror
  Sees : (id : MirrorId) (seen : Tick) → FileInput

-- ---- the rows, by phase

-- OPEN creates a file: a uid and a number are drawn, and a mirror is to be made at each of these servers
abbrev pub creations_at : ℕ → List ℕ → List Creation
creations_at name servers = map (λ n. record { server = n; name = name; stage = Waits; made = None }) servers

abbrev pub new_mds_file : Fresh → List ℕ → MdsFile
new_mds_file fresh servers = record {
  layout = begun (a_uid fresh.uid) (length servers);
  activity = Makes (record { owner = fresh.uid; items = creations_at fresh.name servers });
}

-- uids end at 4,294,967,293, and count as spent where fewer than 65,536 are left
abbrev pub end_of_uids : ℕ
end_of_uids = 4294967294

abbrev pub are_spent : Fresh → Bool
are_spent fresh = nat_lt end_of_uids (fresh.uid + SPARE_UIDS)

abbrev pub asked_in : FileId → MdsFile → NodeId → List Entry → Fresh → LayoutPhase → FileStep
asked_in file f holder entries fresh Making = nothing f
asked_in file f holder entries fresh Free = if are_spent fresh then nothing f else with_entries (granted file f.layout holder).entries (record { file = record { layout = (granted file f.layout holder).file; activity = f.activity }; entries = entries; uids = 0; names = 0 })
asked_in file f holder entries fresh (Held other is_recalled) = nothing f
asked_in file f holder entries fresh (Fencing next end) = nothing f
asked_in file f holder entries fresh (Settling copies) = nothing f
asked_in file f holder entries fresh (Copying copier copies) = nothing f

-- a row of the phase Held, for its holder
abbrev pub held_in : MdsFile → (NodeId → FileStep) → LayoutPhase → FileStep
held_in f row Making = nothing f
held_in f row Free = nothing f
held_in f row (Held holder is_recalled) = row holder
held_in f row (Fencing next end) = nothing f
held_in f row (Settling copies) = nothing f
held_in f row (Copying copier copies) = nothing f

-- for a client that holds it, by its number
abbrev pub by_client : MdsFile → (ℕ → FileStep) → NodeId → FileStep
by_client f row Mds = nothing f
by_client f row (Server n) = nothing f
by_client f row (Client n) = row n

abbrev pub by_mds : MdsFile → FileStep → NodeId → FileStep
by_mds f row Mds = row
by_mds f row (Server n) = nothing f
by_mds f row (Client n) = nothing f

abbrev pub recalled_row : MdsFile → ℕ → FileStep
recalled_row f client = nothing (record { layout = recalled f.layout (Client client); activity = f.activity })

abbrev pub returned_row : FileId → MdsFile → ℕ → Cred → List Bool → Fresh → ℕ → FileStep
returned_row file f client claimed places fresh holder =
    if holder == client && (f.layout.cred.0 == claimed.0) then goes_fencing (returned file f.layout places (a_uid fresh.uid)) fresh.uid else nothing f

abbrev pub revoked_row : FileId → MdsFile → EndCause → Fresh → FileStep
revoked_row file f cause fresh = if is_clean cause then nothing f else goes_fencing (revoked file f.layout cause (a_uid fresh.uid)) fresh.uid

abbrev pub own_row : FileId → MdsFile → List (Option LeftCause) → Entry → Fresh → FileStep
own_row file f causes told fresh = goes_fencing (own_done file f.layout causes told (a_uid fresh.uid)) fresh.uid

abbrev pub resilvered_in : MdsFile → Fresh → LayoutPhase → FileStep
resilvered_in f fresh Making = nothing f
resilvered_in f fresh Free = if nat_lt (length f.layout.live) f.layout.wanted && (if are_spent fresh then false else true) then stays (resilvered f.layout) (Settles Waits) else nothing f
resilvered_in f fresh (Held holder is_recalled) = nothing f
resilvered_in f fresh (Fencing next end) = nothing f
resilvered_in f fresh (Settling copies) = nothing f
resilvered_in f fresh (Copying copier copies) = nothing f

-- ---- the calls that are outstanding

abbrev pub kind_of : LayoutPhase → Option CopyKind
kind_of Making = None
kind_of Free = None
kind_of (Held holder is_recalled) = None
kind_of (Fencing next end) = None
kind_of (Settling copies) = Some copies
kind_of (Copying copier copies) = Some copies

abbrev pub settles_by : MdsFile → (CopyKind → FileStep) → Option CopyKind → FileStep
settles_by f row None = nothing f
settles_by f row (Some copies) = row copies

abbrev pub answered_in : FileId → MdsFile → ℕ → DsReplyValue → Fresh → Activity → FileStep
answered_in file f xid reply fresh Idle = nothing f
answered_in file f xid reply fresh (Makes all) = making_by file f.layout all (λ c. creation_answered all c reply) (creation_of all xid)
answered_in file f xid reply fresh (Fences fence) = fence_answered file f.layout fence xid reply
answered_in file f xid reply fresh (Settles stage) =
    if is_out xid stage
    then settles_by f (λ copies. settling_answered file (seen_at_source f.layout f.layout.live (shown_by_commit reply)) copies fresh reply) (kind_of f.layout.phase)
    else nothing f
answered_in file f xid reply fresh (Copies c) = copy_stepped file f.layout (on_reply c xid reply).copy fresh (on_reply c xid reply).step

abbrev pub timed_out_in : FileId → MdsFile → ℕ → Fresh → Activity → FileStep
timed_out_in file f xid fresh Idle = nothing f
timed_out_in file f xid fresh (Makes all) = making_by file f.layout all (creation_timed_out all) (creation_of all xid)
timed_out_in file f xid fresh (Fences fence) = fence_timed_out file f.layout fence xid
timed_out_in file f xid fresh (Settles stage) = if is_out xid stage then settling_timed_out file f.layout stage else nothing f
timed_out_in file f xid fresh (Copies c) = copy_stepped file f.layout (on_timeout c xid).copy fresh (on_timeout c xid).step

abbrev pub all_at_tick : Creations → Creations
all_at_tick all = record { owner = all.owner; items = map (λ c. in_stage c (stage_at_tick c.stage)) all.items }

abbrev pub ticked : Activity → Activity
ticked Idle = Idle
ticked (Makes all) = Makes (all_at_tick all)
ticked (Fences fence) = Fences (after_tick fence)
ticked (Settles stage) = Settles (stage_at_tick stage)
ticked (Copies c) = Copies (copy.after_tick c)

-- ---- the table

abbrev pub phase : FileId → MdsFile → FileInput → Fresh → FileStep
phase file f (AsksLayout client) fresh = asked_in file f (Client client) [] fresh f.layout.phase
phase file f (OwnWrite at bytes) fresh = asked_in file f Mds (entry.Sent file f.layout.cred at bytes ∷ []) fresh f.layout.phase
phase file f Recall fresh = held_in f (by_client f (recalled_row f)) f.layout.phase
phase file f (Returns client claimed places) fresh = held_in f (by_client f (returned_row file f client claimed places fresh)) f.layout.phase
phase file f (Revokes cause) fresh = held_in f (by_client f (λ client. revoked_row file f cause fresh)) f.layout.phase
phase file f (OwnEnds causes at bytes) fresh = held_in f (by_mds f (own_row file f causes (entry.Told file f.layout.cred at bytes) fresh)) f.layout.phase
phase file f Resilver fresh = resilvered_in f fresh f.layout.phase
phase file f (Answers xid reply) fresh = answered_in file f xid reply fresh f.activity
phase file f (TimesOut xid) fresh = timed_out_in file f xid fresh f.activity
phase file f Ticks fresh = stays f.layout (ticked f.activity)
phase file f (Sees id seen) fresh = nothing (record { layout = with_live f.layout (seen_at id seen f.layout.live); activity = f.activity })

-- ---- the calls that go out: to the first server in order to which one waits

pub record CallOut : Type 0 where
  pub file : MdsFile
  pub server : ℕ
  pub uid : ℕ
  pub call : DsCallValue

abbrev pub creation_waiting : Creations → Option ℕ
creation_waiting all = position (λ c. waits c.stage) all.items

abbrev pub create_out_at : MdsFile → Creations → ℕ → ℕ → Option Creation → Option CallOut
create_out_at f all xid place None = None
create_out_at f all xid place (Some c) = Some (record { file = record { layout = f.layout; activity = Makes (with_creation all place (in_stage c (Out xid 0))) }; server = c.server; uid = 0; call = Create c.name all.owner })

abbrev pub create_out : MdsFile → Creations → ℕ → Option ℕ → Option CallOut
create_out f all xid None = None
create_out f all xid (Some place) = create_out_at f all xid place (slice_get all.items place)

abbrev pub fence_out : MdsFile → Option FenceCall → Option CallOut
fence_out f None = None
fence_out f (Some c) = Some (record { file = record { layout = f.layout; activity = Fences c.fence }; server = c.id.server; uid = 0; call = c.call })

abbrev pub settle_out : MdsFile → ℕ → List Mirror → Option CallOut
settle_out f xid [] = None
settle_out f xid (m ∷ live) = Some (record { file = record { layout = f.layout; activity = Settles (Out xid 0) }; server = m.id.server; uid = 0; call = Commit m.id.fileid })

abbrev pub copy_out : MdsFile → Option CopyCall → Option CallOut
copy_out f None = None
copy_out f (Some c) = Some (record { file = record { layout = f.layout; activity = Copies c.copy }; server = c.server; uid = c.uid; call = c.call })

abbrev pub call_out_of : MdsFile → ℕ → Activity → Option CallOut
call_out_of f xid Idle = None
call_out_of f xid (Makes all) = create_out f all xid (creation_waiting all)
call_out_of f xid (Fences fence) = fence_out f (next_call fence xid)
call_out_of f xid (Settles stage) = if waits stage then settle_out f xid f.layout.live else None
call_out_of f xid (Copies c) = copy_out f (copy.next_call c xid)

-- the next call of a file goes out under this number
abbrev pub call_out : MdsFile → ℕ → Option CallOut
call_out f xid = call_out_of f xid f.activity

-- a call of this number is outstanding to this server
abbrev pub creation_is_out : Creations → ℕ → ℕ → Bool
creation_is_out all server xid = list_any (λ c. c.server == server && is_out xid c.stage) all.items

abbrev pub first_is_on : List Mirror → ℕ → Bool
first_is_on [] server = false
first_is_on (m ∷ live) server = m.id.server == server

abbrev pub is_outstanding_in : MdsFile → ℕ → ℕ → Activity → Bool
is_outstanding_in f server xid Idle = false
is_outstanding_in f server xid (Makes all) = creation_is_out all server xid
is_outstanding_in f server xid (Fences fence) = list_any (λ m. m.id.server == server && is_out xid m.stage) fence.mirrors
is_outstanding_in f server xid (Settles stage) = is_out xid stage && first_is_on f.layout.live server
is_outstanding_in f server xid (Copies c) = copy.is_outstanding c server xid

abbrev pub is_outstanding : MdsFile → ℕ → ℕ → Bool
is_outstanding f server xid = is_outstanding_in f server xid f.activity
