-- What the calls of a copy do.
use Rattle.std.specs.Prelude.{◌≡◌, ◌≤◌, ℕ, List, [], ◌∷◌, length, map, filter, Option, Some, None, Result, Ok, Err, if◌then◌else◌}
use Rattle.cluster_model.specs.declared.limits.TheConstants.{PIECE_SIZE}
use Rattle.cluster_model.specs.declared.ds_call.DsCall.{DsCall}
use Rattle.cluster_model.specs.DsCalls.{DsCallValue, Create, SetAttr, Write, Commit, Read, DsReplyValue, plain_ds_call, data_in}
use Rattle.cluster_model.specs.Fences.{waits}
use Rattle.call_stage.specs.KeptCalls.{kept_out_to}
use Rattle.ff_xdr.specs.declared.error.NoMemory.{NoMemory}
use Rattle.copy_rule.specs.declared.copy_target.CopyStep.{CopyStep}
use Rattle.copy_rule.specs.Copies.{CopyState, next_call, on_reply, is_read_due, waiting_at}

-- uid 0 makes files and reads; the copy's own uid writes
abbrev pub caller_of : ℕ → DsCallValue → ℕ
caller_of copier (Write fileid at synced bytes) = copier
caller_of copier (Create name owner) = 0
caller_of copier (SetAttr fileid owner guard) = 0
caller_of copier (Commit fileid) = 0
caller_of copier (Read fileid at count) = 0

-- the call that goes out under a number, to which server, and the copy then
abbrev pub SendsCopyCall : CopyState → ℕ → Option (ℕ × DsCall) → CopyState → Type 0
SendsCopyCall old xid None new = (next_call old xid ≡ None) × (new ≡ old)
SendsCopyCall old xid (Some (server, call)) new =
    next_call old xid ≡ Some (record { copy = new; server = server; uid = caller_of old.copier (plain_ds_call call); call = plain_ds_call call })

-- the bytes of a WRITE that is lent are at most a piece's
abbrev pub LendsOnePiece : Option (ℕ × DsCall) → Type 0
LendsOnePiece None = Unit {0}
LendsOnePiece (Some (server, call)) = length (data_in (plain_ds_call call)) ≤ PIECE_SIZE

-- an answer, unless memory is wanted for a piece; nothing has changed then
abbrev pub TakesAnswer : CopyState → ℕ → DsReplyValue → Result CopyStep NoMemory → CopyState → Type 0
TakesAnswer old xid reply (Ok step) new = record { copy = new; step = step } ≡ on_reply old xid reply
TakesAnswer old xid reply (Err e) new = new ≡ old

-- ---- what is under way

-- The servers to which a call waits, in order: those of the targets or, where it waits to none of them, that of the source.
abbrev pub servers_from : CopyState → Option ℕ → List ℕ
servers_from c None = if is_read_due c then c.source.server ∷ [] else []
servers_from c (Some place) = map (λ t. t.server) (filter (λ t. waits t.stage) c.targets)

abbrev pub servers_waiting : CopyState → List ℕ
servers_waiting c = servers_from c (waiting_at c)

-- the READ that is kept outstanding until the next tick, by its server and number
abbrev pub kept_out : CopyState → Option (ℕ × ℕ)
kept_out c = kept_out_to c.source.server c.read
