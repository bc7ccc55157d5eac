-- What the calls of a fence do.
use Rattle.std.specs.Prelude.{◌≡◌, ℕ, Bool, ◌==◌, ◌&&◌, List, map, filter, Option, Some, None, slice_get}
use Rattle.std.specs.List.{list_any, find}
use Rattle.cluster_model.specs.declared.ids.MirrorId.{MirrorId}
use Rattle.cluster_model.specs.declared.ds_call.DsCall.{DsCall}
use Rattle.cluster_model.specs.declared.fence_mirror.FenceMirror.{FenceMirror}
use Rattle.cluster_model.specs.DsCalls.{SetAttr, plain_ds_call}
use Rattle.cluster_model.specs.Fences.{FenceState, next_call, waits, is_out, outstanding_at}
use Rattle.fence.specs.declared.fence.FenceSet.{FenceSet}
use Rattle.call_stage.specs.KeptCalls.{is_kept_out, kept_out_to}

-- the call that goes out under a number, and the fence then
abbrev pub SendsNext : FenceState → ℕ → Option (MirrorId × DsCall) → FenceState → Type 0
SendsNext old xid None new = (next_call old xid ≡ None) × (new ≡ old)
SendsNext old xid (Some (id, call)) new = next_call old xid ≡ Some (record { fence = new; id = id; call = plain_ds_call call })

-- the same, before it is made a call
abbrev pub SendsSet : FenceState → ℕ → Option FenceSet → FenceState → Type 0
SendsSet old xid None new = (next_call old xid ≡ None) × (new ≡ old)
SendsSet old xid (Some s) new = next_call old xid ≡ Some (record { fence = new; id = s.id; call = SetAttr s.id.fileid s.owner.0 s.guard })

-- ---- what is under way

-- the mirror whose SETATTR is outstanding under a number
abbrev pub fenced_id : Option FenceMirror → Option MirrorId
fenced_id None = None
fenced_id (Some m) = Some m.id

abbrev pub mirror_id_at : FenceState → Option ℕ → Option MirrorId
mirror_id_at f None = None
mirror_id_at f (Some place) = fenced_id (slice_get f.mirrors place)

abbrev pub mirror_out : FenceState → ℕ → Option MirrorId
mirror_out f xid = mirror_id_at f (outstanding_at f xid)

-- a SETATTR of this number is outstanding to this server
abbrev pub is_outstanding : FenceState → ℕ → ℕ → Bool
is_outstanding f server xid = list_any (λ m. m.id.server == server && is_out xid m.stage) f.mirrors

-- the servers to which one waits, in order
abbrev pub servers_waiting : FenceState → List ℕ
servers_waiting f = map (λ m. m.id.server) (filter (λ m. waits m.stage) f.mirrors)

-- the first that is kept outstanding until the next tick, by its server and number
abbrev pub kept_set : Option FenceMirror → Option (ℕ × ℕ)
kept_set None = None
kept_set (Some m) = kept_out_to m.id.server m.stage

abbrev pub kept_out : FenceState → Option (ℕ × ℕ)
kept_out f = kept_set (find (λ m. is_kept_out m.stage) f.mirrors)
