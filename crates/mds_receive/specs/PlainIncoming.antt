-- What the code makes of a record.
use Rattle.std.specs.Prelude.{◌≡◌, Result, Ok, Err}
use Rattle.ff_xdr.specs.declared.error.NoMemory.{NoMemory}
use Rattle.rpc_record.specs.Replies.{rpc_reply}
use Rattle.mds_receive.specs.declared.incoming.Incoming.{Incoming}
use Rattle.mds_receive.specs.declared.incoming.Incoming.TheVariants as declared
use Rattle.mds_receive.specs.MdsReceive.{IncomingValue, PassedOver, IsReply, IsAnswered, IsCompound}

abbrev pub plain_incoming : Incoming → IncomingValue
plain_incoming declared.Nothing = PassedOver
plain_incoming (declared.Reply reply) = IsReply (rpc_reply reply)
plain_incoming (declared.Answered bytes) = IsAnswered bytes
plain_incoming (declared.Compound xid compound) = IsCompound xid compound

-- memory is taken for what is answered at once
abbrev pub TakesMemory : IncomingValue → Type 0
TakesMemory (IsAnswered bytes) = Unit {0}
TakesMemory incoming = ⊥

-- What came is this. Where memory was wanted, a call was to be answered at once: no compound and no reply is lost for want of memory.
abbrev pub ComesTo : Result Incoming NoMemory → IncomingValue → Type 0
ComesTo (Ok incoming) value = plain_incoming incoming ≡ value
ComesTo (Err e) value = TakesMemory value
