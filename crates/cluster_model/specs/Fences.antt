-- A fence: a SETATTR at each live mirror of a file, to a fresh uid, guarded by the ctime last seen there (RFC 8435, section 2.2;
-- RFC 1813, section 3.3.2).
use Rattle.std.specs.Prelude.{ℕ, ◌+◌, Bool, true, false, List, map, Option, Some, None, position, nat_lt, ◌==◌, if◌then◌else◌, slice_get, slice_set}
use Rattle.std.specs.List.{list_all}
use Rattle.cluster_model.specs.declared.limits.TheConstants.{MAX_TIMEOUTS, MAX_UNSYNCED, SERVERFAULT}
use Rattle.cluster_model.specs.declared.ids.Mirror.{Mirror}
use Rattle.cluster_model.specs.declared.ids.MirrorId.{MirrorId}
use Rattle.cluster_model.specs.declared.phase.LeftCause.{LeftCause}
use Rattle.cluster_model.specs.declared.phase.LeftCause.TheVariants.{Error, Timeouts, Unsynced}
use Rattle.cluster_model.specs.declared.ds_call.Shown.{Shown}
use Rattle.cluster_model.specs.declared.call_stage.CallStage.{CallStage}
use Rattle.cluster_model.specs.declared.call_stage.CallStage.TheVariants.{Waits, Out, KeptOut, KeptBack, Done, GivenUp}
use Rattle.cluster_model.specs.declared.fence_mirror.FenceMirror.{FenceMirror}
use Rattle.cluster_model.specs.declared.fence_mirror.FenceStep.{FenceStep}
use Rattle.cluster_model.specs.declared.fence_mirror.FenceStep.TheVariants.{Stranger, Acked, Again, Failed as HasFailed}
use Rattle.cluster_model.specs.DsCalls.{DsCallValue, SetAttr, DsReplyValue, Created, Set, Written, Committed, Bytes, NotSync, Failed}
use Rattle.cluster_model.specs.Journal.{is_mirror}

-- ---- one call, sent until it is answered or given up

abbrev pub waits : CallStage → Bool
waits Waits = true
waits (Out xid timeouts) = false
waits (KeptOut xid) = false
waits KeptBack = false
waits Done = false
waits GivenUp = false

-- it is outstanding under this number
abbrev pub is_out : ℕ → CallStage → Bool
is_out xid Waits = false
is_out xid (Out own timeouts) = own == xid
is_out xid (KeptOut own) = own == xid
is_out xid KeptBack = false
is_out xid Done = false
is_out xid GivenUp = false

abbrev pub is_over : CallStage → Bool
is_over Waits = false
is_over (Out xid timeouts) = false
is_over (KeptOut xid) = false
is_over KeptBack = false
is_over Done = true
is_over GivenUp = true

-- a tick: what was kept is sent again
abbrev pub stage_at_tick : CallStage → CallStage
stage_at_tick Waits = Waits
stage_at_tick (Out xid timeouts) = Out xid timeouts
stage_at_tick (KeptOut xid) = Out xid 0
stage_at_tick KeptBack = Waits
stage_at_tick Done = Done
stage_at_tick GivenUp = GivenUp

abbrev pub is_kept : CallStage → Bool
is_kept Waits = false
is_kept (Out xid timeouts) = false
is_kept (KeptOut xid) = true
is_kept KeptBack = true
is_kept Done = false
is_kept GivenUp = false

-- ---- one mirror

-- how many answers that do not acknowledge make a mirror fail
abbrev pub max_unsynced : ℕ
max_unsynced = MAX_UNSYNCED

-- the error that an answer counts as which no server gives to this call
abbrev pub odd_status : ℕ
odd_status = SERVERFAULT

-- a mirror and what came to pass there
pub record MirrorStep : Type 0 where
  pub mirror : FenceMirror
  pub step : FenceStep

abbrev pub with_stage : FenceMirror → CallStage → FenceMirror
with_stage m stage = record { id = m.id; seen = m.seen; unsynced = m.unsynced; stage = stage }

-- the ctime last seen, where an answer shows one
abbrev pub having_seen : FenceMirror → Option Shown → FenceMirror
having_seen m None = m
having_seen m (Some shown) = record { id = m.id; seen = shown.seen; unsynced = m.unsynced; stage = m.stage }

abbrev pub acknowledged : FenceMirror → MirrorStep
acknowledged m = record { mirror = with_stage m Done; step = Acked }

-- it failed behind an answer: kept, unless it is given up
abbrev pub failed_by : FenceMirror → LeftCause → MirrorStep
failed_by m cause = record { mirror = with_stage m KeptBack; step = HasFailed m.id cause }

-- a new call waits, but for the eighth answer of this kind
abbrev pub out_of_sync : FenceMirror → MirrorStep
out_of_sync m =
    if nat_lt (m.unsynced + 1) max_unsynced
    then record { mirror = record { id = m.id; seen = m.seen; unsynced = m.unsynced + 1; stage = Waits }; step = Again }
    else failed_by m Unsynced

-- An answer to the SETATTR: OK acknowledges, and so does a NOT_SYNC that shows the fresh uid as owner.
abbrev pub answered : ℕ → FenceMirror → DsReplyValue → MirrorStep
answered fresh m (Set shown) = acknowledged (having_seen m shown)
answered fresh m (NotSync shown) = if shown.owner.0 == fresh then acknowledged (having_seen m (Some shown)) else out_of_sync (having_seen m (Some shown))
answered fresh m (Failed status shown) = failed_by (having_seen m shown) (Error status)
answered fresh m (Created fileid shown) = failed_by m (Error odd_status)
answered fresh m (Written shown verifier) = failed_by m (Error odd_status)
answered fresh m (Committed shown verifier) = failed_by m (Error odd_status)
answered fresh m (Bytes shown eof bytes) = failed_by m (Error odd_status)

-- A timeout: the same record is sent again twice; behind the third timeout it is kept.
abbrev pub stage_timed_out : FenceMirror → CallStage → MirrorStep
stage_timed_out m (Out xid timeouts) =
    if nat_lt (timeouts + 1) MAX_TIMEOUTS
    then record { mirror = with_stage m (Out xid (timeouts + 1)); step = Again }
    else record { mirror = with_stage m (KeptOut xid); step = HasFailed m.id Timeouts }
stage_timed_out m (KeptOut xid) = record { mirror = m; step = Again }
stage_timed_out m Waits = record { mirror = m; step = Stranger }
stage_timed_out m KeptBack = record { mirror = m; step = Stranger }
stage_timed_out m Done = record { mirror = m; step = Stranger }
stage_timed_out m GivenUp = record { mirror = m; step = Stranger }

abbrev pub timed_out : FenceMirror → MirrorStep
timed_out m = stage_timed_out m m.stage

-- a tick: a kept mirror begins again, with its counts at zero
abbrev pub at_tick : FenceMirror → FenceMirror
at_tick m = record { id = m.id; seen = m.seen; unsynced = if is_kept m.stage then 0 else m.unsynced; stage = stage_at_tick m.stage }

abbrev pub dropped_if : MirrorId → FenceMirror → FenceMirror
dropped_if id m = if is_mirror m.id id then with_stage m GivenUp else m

-- ---- a fence

pub record FenceState : Type 0 where
  -- the fresh uid
  pub cred : ℕ
  pub mirrors : List FenceMirror

abbrev pub to_fence : Mirror → FenceMirror
to_fence m = record { id = m.id; seen = m.seen; unsynced = 0; stage = Waits }

-- at its start a call to each mirror waits
abbrev pub fence_of : List Mirror → ℕ → FenceState
fence_of mirrors fresh = record { cred = fresh; mirrors = map to_fence mirrors }

-- the place of the first mirror to which a call waits
abbrev pub waiting_at : FenceState → Option ℕ
waiting_at f = position (λ m. waits m.stage) f.mirrors

-- the place of the mirror whose call has this number
abbrev pub outstanding_at : FenceState → ℕ → Option ℕ
outstanding_at f xid = position (λ m. is_out xid m.stage) f.mirrors

abbrev pub with_mirror : FenceState → ℕ → FenceMirror → FenceState
with_mirror f place m = record { cred = f.cred; mirrors = slice_set f.mirrors place m }

-- the call to a mirror: owner and group are set to the fresh uid where the ctime is the one last seen
abbrev pub call_to : FenceState → FenceMirror → DsCallValue
call_to f m = SetAttr m.id.fileid f.cred m.seen

-- a call that goes out, and the fence then
pub record FenceCall : Type 0 where
  pub fence : FenceState
  pub id : MirrorId
  pub call : DsCallValue

abbrev pub fence_call_at : FenceState → ℕ → ℕ → Option FenceMirror → Option FenceCall
fence_call_at f xid place None = None
fence_call_at f xid place (Some m) = Some (record { fence = with_mirror f place (with_stage m (Out xid 0)); id = m.id; call = call_to f m })

abbrev pub call_from : FenceState → ℕ → Option ℕ → Option FenceCall
call_from f xid None = None
call_from f xid (Some place) = fence_call_at f xid place (slice_get f.mirrors place)

abbrev pub next_call : FenceState → ℕ → Option FenceCall
next_call f xid = call_from f xid (waiting_at f)

-- a fence and what came to pass
pub record FenceAfter : Type 0 where
  pub fence : FenceState
  pub step : FenceStep

abbrev pub stranger : FenceState → FenceAfter
stranger f = record { fence = f; step = Stranger }

abbrev pub stepped : FenceState → ℕ → MirrorStep → FenceAfter
stepped f place s = record { fence = with_mirror f place s.mirror; step = s.step }

abbrev pub step_at : FenceState → (FenceMirror → MirrorStep) → ℕ → Option FenceMirror → FenceAfter
step_at f step place None = stranger f
step_at f step place (Some m) = stepped f place (step m)

abbrev pub step_from : FenceState → (FenceMirror → MirrorStep) → Option ℕ → FenceAfter
step_from f step None = stranger f
step_from f step (Some place) = step_at f step place (slice_get f.mirrors place)

-- an answer to the call of this number, and a timeout of it
abbrev pub on_reply : FenceState → ℕ → DsReplyValue → FenceAfter
on_reply f xid reply = step_from f (λ m. answered f.cred m reply) (outstanding_at f xid)

abbrev pub on_timeout : FenceState → ℕ → FenceAfter
on_timeout f xid = step_from f timed_out (outstanding_at f xid)

abbrev pub after_tick : FenceState → FenceState
after_tick f = record { cred = f.cred; mirrors = map at_tick f.mirrors }

abbrev pub without : FenceState → MirrorId → FenceState
without f id = record { cred = f.cred; mirrors = map (dropped_if id) f.mirrors }

-- each of its mirrors acknowledged or was given up
abbrev pub is_done : FenceState → Bool
is_done f = list_all (λ m. is_over m.stage) f.mirrors
