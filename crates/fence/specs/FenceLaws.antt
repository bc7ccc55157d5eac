-- What holds of a fence in every run of it, told by what came and what was dropped (RFC 8435, section 2.2; RFC 1813, section 3.3.2).
use Rattle.std.specs.Prelude.{◌≡◌, ℕ, Bool, true, false, ◌==◌, ◌&&◌, List, [], ◌∷◌, ◌++◌, Option, Some, None, fold, slice_get, if◌then◌else◌}
use Rattle.std.specs.List.{list_any, list_all}
use Rattle.cluster_model.specs.declared.ids.Mirror.{Mirror}
use Rattle.cluster_model.specs.declared.ids.MirrorId.{MirrorId}
use Rattle.cluster_model.specs.declared.fence_mirror.FenceMirror.{FenceMirror}
use Rattle.cluster_model.specs.DsCalls.{DsReplyValue, Created, Set, Written, Committed, Bytes, NotSync, Failed}
use Rattle.cluster_model.specs.Fences.{FenceState, FenceCall, fence_of, outstanding_at, next_call, on_reply, on_timeout, after_tick, without, is_over, is_done}
use Rattle.cluster_model.specs.Journal.{is_mirror}

-- ---- runs

pub data FenceMove : Type 0 where
  -- the next call, under a number of which none is outstanding
  SendsOne : (xid : ℕ) → FenceMove
  TakesReply : (xid : ℕ) (reply : DsReplyValue) → FenceMove
  TakesTimeout : (xid : ℕ) → FenceMove
  Ticks : FenceMove
  Drops : (id : MirrorId) → FenceMove

-- what came to pass: an answer to the call that was out to the mirror at this place, or a mirror was dropped
pub data FenceNote : Type 0 where
  Answered : (place : ℕ) (reply : DsReplyValue) → FenceNote
  Dropped : (id : MirrorId) → FenceNote

pub record FenceRun : Type 0 where
  pub fence : FenceState
  pub notes : List FenceNote

abbrev pub call_sent : FenceState → Option FenceCall → FenceState
call_sent f None = f
call_sent f (Some call) = call.fence

-- no call of this number is outstanding
abbrev pub sends_new : FenceRun → ℕ → Option ℕ → FenceRun
sends_new run xid None = record { fence = call_sent run.fence (next_call run.fence xid); notes = run.notes }
sends_new run xid (Some place) = run

abbrev pub answer_noted : Option ℕ → DsReplyValue → List FenceNote
answer_noted None reply = []
answer_noted (Some place) reply = Answered place reply ∷ []

abbrev pub fence_moved : FenceRun → FenceMove → FenceRun
fence_moved run (SendsOne xid) = sends_new run xid (outstanding_at run.fence xid)
fence_moved run (TakesReply xid reply) = record { fence = (on_reply run.fence xid reply).fence; notes = run.notes ++ answer_noted (outstanding_at run.fence xid) reply }
fence_moved run (TakesTimeout xid) = record { fence = (on_timeout run.fence xid).fence; notes = run.notes }
fence_moved run Ticks = record { fence = after_tick run.fence; notes = run.notes }
fence_moved run (Drops id) = record { fence = without run.fence id; notes = run.notes ++ Dropped id ∷ [] }

abbrev pub fence_run : List Mirror → ℕ → List FenceMove → FenceRun
fence_run mirrors fresh moves = fold fence_moved (record { fence = fence_of mirrors fresh; notes = [] }) moves

-- ---- the promise

-- OK, or a NOT_SYNC that shows the fresh uid as the owner
abbrev pub acknowledges : ℕ → DsReplyValue → Bool
acknowledges fresh (Set shown) = true
acknowledges fresh (NotSync shown) = shown.owner.0 == fresh
acknowledges fresh (Created fileid shown) = false
acknowledges fresh (Written shown verifier) = false
acknowledges fresh (Committed shown verifier) = false
acknowledges fresh (Bytes shown eof bytes) = false
acknowledges fresh (Failed status shown) = false

-- the mirror at this place acknowledged, or was dropped
abbrev pub ends_mirror : ℕ → ℕ → MirrorId → FenceNote → Bool
ends_mirror fresh place id (Answered p reply) = (p == place) && acknowledges fresh reply
ends_mirror fresh place id (Dropped d) = is_mirror id d

-- A mirror is over just where, while its call was out, an answer came that acknowledges, or it was dropped.
abbrev pub IsOverJustWhere : List Mirror → ℕ → List FenceMove → Type 0
IsOverJustWhere mirrors fresh moves =
    (place : ℕ) (m : FenceMirror) → slice_get (fence_run mirrors fresh moves).fence.mirrors place ≡ Some m
    → is_over m.stage ≡ list_any (ends_mirror fresh place m.id) (fence_run mirrors fresh moves).notes
