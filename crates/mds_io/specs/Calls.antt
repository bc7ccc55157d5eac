-- What the calls of a read do.
use Rattle.std.specs.Prelude.{◌≡◌, ℕ, Option, Some, None, Result, Ok, Err}
use Rattle.ff_xdr.specs.declared.error.NoMemory.{NoMemory}
use Rattle.cluster_model.specs.declared.ids.MirrorId.{MirrorId}
use Rattle.cluster_model.specs.declared.ds_call.DsCall.{DsCall}
use Rattle.cluster_model.specs.DsCalls.{DsReplyValue, plain_ds_call}
use Rattle.mds_io.specs.declared.read_end.ReadEnd.{ReadEnd}
use Rattle.mds_io.specs.Reads.{ReadState, ReadSends, next_sent, after_reply}

-- the READ that goes out under a number, and the read then
abbrev pub SendsRead : ReadState → ℕ → Option (MirrorId × DsCall) → ReadState → Type 0
SendsRead old xid None new = (next_sent old xid ≡ None) × (new ≡ old)
SendsRead old xid (Some (id, call)) new = next_sent old xid ≡ Some (record { read = new; id = id; call = plain_ds_call call })

-- what the answer to the READ of a number comes to; want of memory changes nothing
abbrev pub AnswersRead : ReadState → ℕ → DsReplyValue → Result (Option ReadEnd) NoMemory → ReadState → Type 0
AnswersRead old xid reply (Ok end) new = record { read = new; end = end } ≡ after_reply old xid reply
AnswersRead old xid reply (Err error) new = new ≡ old

-- the mirror to which the next READ would go
abbrev pub WaitsAt : ReadState → ℕ → Option MirrorId → Type 0
WaitsAt r xid None = next_sent r xid ≡ None
WaitsAt r xid (Some id) = (sent : ReadSends) × (next_sent r xid ≡ Some sent) × (sent.id ≡ id)
