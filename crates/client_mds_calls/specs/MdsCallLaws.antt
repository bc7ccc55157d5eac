-- The law of calls to a metadata server.
use Rattle.std.specs.Prelude.{◌≡◌, ℕ, ◌^◌, ◌<◌, List, [], Ok}
use Rattle.ff_xdr.specs.Form.{Fits}
use Rattle.ff_xdr.specs.Reading.{reading, whole}
use Rattle.rpc_record.specs.Calls.{RpcCall, call_at}
use Rattle.nfs4_compound.specs.Compounds.{compound4_args}
use Rattle.client_mds_calls.specs.MdsCalls.{MdsCallValue}
use Rattle.client_mds_calls.specs.MdsCompounds.{mds_call_bytes, mds_ops, mds_rpc_call}

-- a call of a client, under a number
pub record MdsMessage : Type 0 where
  pub xid : ℕ
  pub owner : List ℕ
  pub call : MdsCallValue

abbrev pub compound_record_of : MdsMessage → List ℕ
compound_record_of m = mds_call_bytes m.xid m.owner m.call

abbrev pub compound_message_call : MdsMessage → RpcCall
compound_message_call m = mds_rpc_call m.xid m.owner m.call

-- each number is in its range, and each length within its maximum
pub record HasCompoundRecord (m : MdsMessage) : Type 0 where
  pub xid_fits : m.xid < 2 ^ 32
  pub ops_fit : Fits compound4_args ([], (1, mds_ops m.owner m.call))

-- The record is read as this COMPOUND of NFS version 4, and its arguments as exactly these operations, with nothing behind them.
pub record IsReadAsCompound (m : MdsMessage) : Type 0 where
  pub header : call_at (compound_record_of m) ≡ Ok (compound_message_call m)
  pub operations : whole (compound_message_call m).args (reading compound4_args (compound_message_call m).args 0) ≡ Ok ([], (1, mds_ops m.owner m.call))

abbrev pub IsCompoundUnderstood : MdsMessage → Type 0
IsCompoundUnderstood m = HasCompoundRecord m → IsReadAsCompound m

-- records that are equal have one number and the same operations
pub record SayTheSame (m n : MdsMessage) : Type 0 where
  pub xid : m.xid ≡ n.xid
  pub operations : mds_ops m.owner m.call ≡ mds_ops n.owner n.call

abbrev pub AreCompoundsApart : MdsMessage → MdsMessage → Type 0
AreCompoundsApart m n = HasCompoundRecord m → HasCompoundRecord n → compound_record_of m ≡ compound_record_of n → SayTheSame m n
