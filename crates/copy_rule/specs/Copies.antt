-- A copy of a file: a fresh file is made at each target, and the bytes of one live mirror, the source, are read piece by piece and written
-- to all of them (RFC 8435, section 8.3; RFC 1813, sections 3.3.6 to 3.3.8).
use Rattle.std.specs.Prelude.{ℕ, ◌+◌, Bool, true, false, not, ◌==◌, ◌&&◌, ◌||◌, List, [], ◌∷◌, length, map, Option, Some, None, position, nat_lt, if◌then◌else◌, slice_get, slice_set}
use Rattle.std.specs.List.{list_all, list_any, flat_map}
use Rattle.cluster_model.specs.declared.tick.Tick.{Tick}
use Rattle.cluster_model.specs.declared.ids.MirrorId.{MirrorId}
use Rattle.cluster_model.specs.declared.ids.Mirror.{Mirror}
use Rattle.cluster_model.specs.declared.phase.LeftCause.{LeftCause}
use Rattle.cluster_model.specs.declared.phase.LeftCause.TheVariants.{Error, Timeouts}
use Rattle.cluster_model.specs.declared.ds_call.Shown.{Shown}
use Rattle.cluster_model.specs.declared.call_stage.CallStage.{CallStage}
use Rattle.cluster_model.specs.declared.call_stage.CallStage.TheVariants.{Waits, Out, KeptOut, KeptBack, Done, GivenUp}
use Rattle.cluster_model.specs.DsCalls.{DsCallValue, Create, Write, Read, DsReplyValue, Created, Set, Written, Committed, Bytes, NotSync, Failed}
use Rattle.cluster_model.specs.Fences.{waits, is_out, is_over, stage_at_tick, odd_status}
use Rattle.cluster_model.specs.declared.limits.TheConstants.{MAX_FILE, MAX_TIMEOUTS, PIECE_SIZE}
use Rattle.cluster_model.specs.declared.targets.SwappedIn.{SwappedIn}
use Rattle.copy_rule.specs.declared.copy_target.Target.{Target}
use Rattle.copy_rule.specs.declared.copy_target.CopyTarget.{CopyTarget}
use Rattle.copy_rule.specs.declared.copy_target.CopyStep.{CopyStep}
use Rattle.copy_rule.specs.declared.copy_target.CopyStep.TheVariants.{Stranger, Waiting, SourceFailed, TargetFailed, Done as AllHold}

-- ---- what a copy is of

pub record CopyState : Type 0 where
  -- the uid that the targets belong to
  pub copier : ℕ
  pub source : MirrorId
  -- the piece in hand and its place, and whether the source said that it ends there
  pub at : ℕ
  pub piece : List ℕ
  pub ended : Bool
  -- where its READ stands
  pub read : CallStage
  pub targets : List CopyTarget

abbrev pub is_given_up : CallStage → Bool
is_given_up Waits = false
is_given_up (Out xid timeouts) = false
is_given_up (KeptOut xid) = false
is_given_up KeptBack = false
is_given_up Done = false
is_given_up GivenUp = true

-- ---- one target

abbrev pub to_make : Target → CopyTarget
to_make t = record { server = t.server; name = t.name; replaced = t.replaced; made = None; stage = Waits }

abbrev pub at_stage : CopyTarget → CallStage → CopyTarget
at_stage t stage = record { server = t.server; name = t.name; replaced = t.replaced; made = t.made; stage = stage }

abbrev pub having_made : CopyTarget → ℕ → Tick → CopyTarget
having_made t fileid seen = record { server = t.server; name = t.name; replaced = t.replaced; made = Some (record { id = record { server = t.server; fileid = fileid }; seen = seen }); stage = Done }

-- the ctime last seen is that of the last answer that shows one
abbrev pub seen_then : Option Mirror → Option Shown → Option Mirror
seen_then None shown = None
seen_then (Some m) None = Some m
seen_then (Some m) (Some shown) = Some (record { id = m.id; seen = shown.seen })

abbrev pub having_written : CopyTarget → Option Shown → CopyTarget
having_written t shown = record { server = t.server; name = t.name; replaced = t.replaced; made = seen_then t.made shown; stage = Done }

abbrev pub thrown_away : CopyTarget → CopyTarget
thrown_away t = record { server = t.server; name = t.name; replaced = t.replaced; made = None; stage = GivenUp }

-- a target, and what came to pass
pub record TargetStep : Type 0 where
  pub target : CopyTarget
  pub step : CopyStep

abbrev pub goes_on_with : CopyTarget → TargetStep
goes_on_with t = record { target = t; step = Waiting }

abbrev pub target_fails : CopyTarget → LeftCause → TargetStep
target_fails t cause = record { target = thrown_away t; step = TargetFailed t.server t.replaced cause }

-- An answer to its CREATE, and to a WRITE.
abbrev pub create_answered : CopyTarget → DsReplyValue → TargetStep
create_answered t (Created fileid shown) = goes_on_with (having_made t fileid shown.seen)
create_answered t (Set shown) = target_fails t (Error odd_status)
create_answered t (Written shown verifier) = target_fails t (Error odd_status)
create_answered t (Committed shown verifier) = target_fails t (Error odd_status)
create_answered t (Bytes shown eof bytes) = target_fails t (Error odd_status)
create_answered t (NotSync shown) = target_fails t (Error odd_status)
create_answered t (Failed status shown) = target_fails t (Error status)

abbrev pub write_answered : CopyTarget → DsReplyValue → TargetStep
write_answered t (Created fileid shown) = target_fails t (Error odd_status)
write_answered t (Set shown) = target_fails t (Error odd_status)
write_answered t (Written shown verifier) = goes_on_with (having_written t shown)
write_answered t (Committed shown verifier) = target_fails t (Error odd_status)
write_answered t (Bytes shown eof bytes) = target_fails t (Error odd_status)
write_answered t (NotSync shown) = target_fails t (Error odd_status)
write_answered t (Failed status shown) = target_fails t (Error status)

abbrev pub target_answered : CopyTarget → DsReplyValue → Option Mirror → TargetStep
target_answered t reply None = create_answered t reply
target_answered t reply (Some m) = write_answered t reply

-- A timeout: the same record is sent again twice. With the third one the target fails.
abbrev pub target_late : CopyTarget → CallStage → TargetStep
target_late t Waits = goes_on_with t
target_late t (Out xid timeouts) = if nat_lt (timeouts + 1) MAX_TIMEOUTS then goes_on_with (at_stage t (Out xid (timeouts + 1))) else target_fails t Timeouts
target_late t (KeptOut xid) = goes_on_with t
target_late t KeptBack = goes_on_with t
target_late t Done = goes_on_with t
target_late t GivenUp = goes_on_with t

-- a piece is to be written to it: one of no bytes needs no WRITE
abbrev pub stage_for : List ℕ → CallStage
stage_for [] = Done
stage_for (b ∷ bytes) = Waits

abbrev pub to_write : List ℕ → CopyTarget → CopyTarget
to_write bytes t = if is_given_up t.stage then t else at_stage t (stage_for bytes)

-- ---- a copy

abbrev pub new_copy : MirrorId → List Target → ℕ → CopyState
new_copy source plan copier = record { copier = copier; source = source; at = 0; piece = []; ended = false; read = Waits; targets = map to_make plan }

abbrev pub with_target : CopyState → ℕ → CopyTarget → CopyState
with_target c place t = record { copier = c.copier; source = c.source; at = c.at; piece = c.piece; ended = c.ended; read = c.read; targets = slice_set c.targets place t }

abbrev pub with_read : CopyState → CallStage → CopyState
with_read c read = record { copier = c.copier; source = c.source; at = c.at; piece = c.piece; ended = c.ended; read = read; targets = c.targets }

-- the source answered with a piece
abbrev pub with_piece : CopyState → Bool → List ℕ → CopyState
with_piece c eof bytes = record { copier = c.copier; source = c.source; at = c.at; piece = bytes; ended = eof; read = Done; targets = map (to_write bytes) c.targets }

-- the piece behind the one in hand is to be read
abbrev pub with_next : CopyState → CopyState
with_next c = record { copier = c.copier; source = c.source; at = c.at + length c.piece; piece = []; ended = c.ended; read = Waits; targets = c.targets }

-- every target that is left has answered
abbrev pub have_answered : CopyState → Bool
have_answered c = list_all (λ t. is_over t.stage) c.targets

abbrev pub is_none_left : CopyState → Bool
is_none_left c = list_all (λ t. is_given_up t.stage) c.targets

-- No target is left, or each that is left holds all bytes up to the READ that said end.
abbrev pub has_outcome : CopyState → Bool
has_outcome c = is_none_left c || (c.ended && have_answered c)

-- every target that is left has answered, and the copy has no outcome
abbrev pub may_read_on : CopyState → Bool
may_read_on c = have_answered c && not (has_outcome c)

-- The next piece is read when every target that is left has answered the one before.
abbrev pub goes_on : CopyState → CopyState
goes_on c = if is_over c.read && not c.ended && have_answered c then with_next c else c

-- the targets that are left, with the mirrors that they replace
abbrev pub swap_of : CopyTarget → Option Mirror → List SwappedIn
swap_of t None = []
swap_of t (Some m) = record { new = m; old = t.replaced } ∷ []

abbrev pub swaps_of : CopyState → List SwappedIn
swaps_of c = flat_map (λ t. swap_of t t.made) c.targets

abbrev pub outcome : CopyState → Option (List SwappedIn)
outcome c = if has_outcome c then Some (swaps_of c) else None

-- ---- answers and timeouts

-- a copy and what came to pass
pub record CopyAfter : Type 0 where
  pub copy : CopyState
  pub step : CopyStep

-- a step that lost no target ends the copy, or does not
abbrev pub step_told : CopyState → CopyStep → CopyStep
step_told c Stranger = Stranger
step_told c Waiting = if has_outcome c then AllHold else Waiting
step_told c (SourceFailed cause) = SourceFailed cause
step_told c (TargetFailed server replaced cause) = TargetFailed server replaced cause
step_told c AllHold = AllHold

abbrev pub copy_then : CopyState → CopyStep → CopyAfter
copy_then c step = record { copy = goes_on c; step = step_told c step }

abbrev pub stranger : CopyState → CopyAfter
stranger c = record { copy = c; step = Stranger }

-- the READ failed: it is kept, and goes out again at the next tick where the source is the last live mirror
abbrev pub source_fails : CopyState → CallStage → LeftCause → CopyAfter
source_fails c kept cause = record { copy = with_read c kept; step = SourceFailed cause }

-- more bytes than were asked for, or some past the end of the longest file
abbrev pub is_long : CopyState → List ℕ → Bool
is_long c bytes = nat_lt PIECE_SIZE (length bytes) || nat_lt MAX_FILE (c.at + length bytes)

-- an answer to the READ, and a timeout of it
abbrev pub read_answered : CopyState → DsReplyValue → CopyAfter
read_answered c (Created fileid shown) = source_fails c KeptBack (Error odd_status)
read_answered c (Set shown) = source_fails c KeptBack (Error odd_status)
read_answered c (Written shown verifier) = source_fails c KeptBack (Error odd_status)
read_answered c (Committed shown verifier) = source_fails c KeptBack (Error odd_status)
read_answered c (Bytes shown eof bytes) = if is_long c bytes then source_fails c KeptBack (Error odd_status) else copy_then (with_piece c eof bytes) Waiting
read_answered c (NotSync shown) = source_fails c KeptBack (Error odd_status)
read_answered c (Failed status shown) = source_fails c KeptBack (Error status)

abbrev pub read_late : CopyState → CallStage → CopyAfter
read_late c Waits = stranger c
read_late c (Out xid timeouts) =
    if nat_lt (timeouts + 1) MAX_TIMEOUTS then record { copy = with_read c (Out xid (timeouts + 1)); step = Waiting }
    else source_fails c (KeptOut xid) Timeouts
read_late c (KeptOut xid) = record { copy = c; step = Waiting }
read_late c KeptBack = stranger c
read_late c Done = stranger c
read_late c GivenUp = stranger c

-- the place of the target whose call has this number
abbrev pub target_of : CopyState → ℕ → Option ℕ
target_of c xid = position (λ t. is_out xid t.stage) c.targets

abbrev pub stepped : CopyState → ℕ → TargetStep → CopyAfter
stepped c place x = copy_then (with_target c place x.target) x.step

abbrev pub step_at : CopyState → (CopyTarget → TargetStep) → ℕ → Option CopyTarget → CopyAfter
step_at c step place None = stranger c
step_at c step place (Some t) = stepped c place (step t)

-- a step of the target at a place, or of the READ
abbrev pub step_from : CopyState → (CopyTarget → TargetStep) → CopyAfter → Option ℕ → CopyAfter
step_from c step reads None = reads
step_from c step reads (Some place) = step_at c step place (slice_get c.targets place)

abbrev pub by_read : CopyState → ℕ → CopyAfter → CopyAfter
by_read c xid reads = if is_out xid c.read then reads else stranger c

-- an answer to the call of this number, and a timeout of it
abbrev pub on_reply : CopyState → ℕ → DsReplyValue → CopyAfter
on_reply c xid reply = step_from c (λ t. target_answered t reply t.made) (by_read c xid (read_answered c reply)) (target_of c xid)

abbrev pub on_timeout : CopyState → ℕ → CopyAfter
on_timeout c xid = step_from c (λ t. target_late t t.stage) (by_read c xid (read_late c c.read)) (target_of c xid)

-- a tick: a READ that was kept is sent again
abbrev pub after_tick : CopyState → CopyState
after_tick c = with_read c (stage_at_tick c.read)

-- ---- the calls that go out

-- the call to a target by its name and, once it is made, its mirror
abbrev pub target_call : ℕ → ℕ → List ℕ → ℕ → Option Mirror → DsCallValue
target_call copier at piece name None = Create name copier
target_call copier at piece name (Some m) = Write m.id.fileid at true piece

-- uid 0 makes it, the copy's own uid writes to it
abbrev pub target_caller : ℕ → Option Mirror → ℕ
target_caller copier None = 0
target_caller copier (Some m) = copier

-- a call that goes out, to which server and by whom, and the copy then
pub record CopyCall : Type 0 where
  pub copy : CopyState
  pub server : ℕ
  pub uid : ℕ
  pub call : DsCallValue

abbrev pub target_call_at : CopyState → ℕ → ℕ → Option CopyTarget → Option CopyCall
target_call_at c xid place None = None
target_call_at c xid place (Some t) = Some (record {
  copy = with_target c place (at_stage t (Out xid 0));
  server = t.server;
  uid = target_caller c.copier t.made;
  call = target_call c.copier c.at c.piece t.name t.made;
})

-- The source is read once all targets are made, and again once all have answered, unless the copy has an outcome.
abbrev pub is_read_due : CopyState → Bool
is_read_due c = waits c.read && may_read_on c

abbrev pub read_call : CopyState → ℕ → Option CopyCall
read_call c xid =
    if is_read_due c
    then Some (record { copy = with_read c (Out xid 0); server = c.source.server; uid = 0; call = Read c.source.fileid c.at PIECE_SIZE })
    else None

abbrev pub call_from : CopyState → ℕ → Option ℕ → Option CopyCall
call_from c xid None = read_call c xid
call_from c xid (Some place) = target_call_at c xid place (slice_get c.targets place)

-- the place of the first target to which a call waits
abbrev pub waiting_at : CopyState → Option ℕ
waiting_at c = position (λ t. waits t.stage) c.targets

abbrev pub next_call : CopyState → ℕ → Option CopyCall
next_call c xid = call_from c xid (waiting_at c)

-- a call of this number is outstanding to this server
abbrev pub is_outstanding : CopyState → ℕ → ℕ → Bool
is_outstanding c server xid = list_any (λ t. t.server == server && is_out xid t.stage) c.targets || (c.source.server == server && is_out xid c.read)
