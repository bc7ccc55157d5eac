-- The compounds that a client makes (RFC 8881, section 18), in records of RPC (RFC 5531, section 9).
use Rattle.std.specs.Prelude.{ℕ, ◌^◌, ◌<◌, ◌≤◌, List, [], ◌∷◌, length}
use Rattle.rpc_record.specs.declared.call.TheConstants.{NFS_PROGRAM}
use Rattle.client_compounds.specs.declared.header.TheConstants.{NFS_VERSION}
use Rattle.client_mds_calls.specs.declared.record.TheConstants.{MOST}
use Rattle.ff_xdr.specs.Form.{Value}
use Rattle.rpc_record.specs.Calls.{RpcCall, call_bytes}
use Rattle.rpc_record.specs.Replies.{auth_none}
use Rattle.nfs4_compound.specs.Args.{argop4}
use Rattle.client_compounds.specs.MdsArguments.{compound_args, sequence_op}
use Rattle.client_session_calls.specs.SessionOps.{exchange_id_op, create_session_op, reclaim_complete_ops}
use Rattle.client_file_calls.specs.declared.layout_return.FailedMirror.{FailedMirror}
use Rattle.client_file_calls.specs.FileOps.{open_ops, layout_get_ops, device_info_ops, write_ops, read_ops, layout_return_ops}
use Rattle.client_mds_calls.specs.MdsCalls.{SlotCallValue, ReclaimComplete, Open, LayoutGet, DeviceInfo, Write, Read, LayoutReturn, Renew, MdsCallValue, ExchangeId, CreateSession, OnSlot, is_kept_reply}

-- the operations behind the SEQUENCE
abbrev pub slot_ops : List ℕ → SlotCallValue → List (Value argop4)
slot_ops owner ReclaimComplete = reclaim_complete_ops
slot_ops owner (Open name) = open_ops owner name
slot_ops owner (LayoutGet file) = layout_get_ops file
slot_ops owner (DeviceInfo servers) = device_info_ops servers
slot_ops owner (Write file at bytes) = write_ops file at bytes
slot_ops owner (Read file at count) = read_ops file at count
slot_ops owner (LayoutReturn file stateid failed) = layout_return_ops file stateid failed
slot_ops owner Renew = []

abbrev pub mds_ops : List ℕ → MdsCallValue → List (Value argop4)
mds_ops owner (ExchangeId verifier) = exchange_id_op owner verifier ∷ []
mds_ops owner (CreateSession clientid sequence) = create_session_op clientid sequence ∷ []
mds_ops owner (OnSlot session sequence call) = sequence_op session sequence (is_kept_reply call) ∷ slot_ops owner call

-- ---- records

-- a COMPOUND 1 of NFS version 4 by AUTH_NONE
abbrev pub mds_rpc_call : ℕ → List ℕ → MdsCallValue → RpcCall
mds_rpc_call xid owner call = record {
  xid = xid;
  program = NFS_PROGRAM;
  version = NFS_VERSION;
  procedure = 1;
  cred = auth_none;
  verf = auth_none;
  args = compound_args (mds_ops owner call);
}

abbrev pub mds_call_bytes : ℕ → List ℕ → MdsCallValue → List ℕ
mds_call_bytes xid owner call = call_bytes (mds_rpc_call xid owner call)

-- the data of a WRITE; of another call none
abbrev pub data_of_call : MdsCallValue → List ℕ
data_of_call (OnSlot session sequence (Write file at bytes)) = bytes
data_of_call call = []

-- the name of an OPEN; of another call none
abbrev pub name_of_call : MdsCallValue → List ℕ
name_of_call (OnSlot session sequence (Open name)) = name
name_of_call call = []

-- the data servers of a GETDEVICEINFO, and the mirrors of a report; of another call none
abbrev pub servers_of_call : MdsCallValue → List ℕ
servers_of_call (OnSlot session sequence (DeviceInfo servers)) = servers
servers_of_call call = []

abbrev pub failed_of_call : MdsCallValue → List FailedMirror
failed_of_call (OnSlot session sequence (LayoutReturn file stateid failed)) = failed
failed_of_call call = []

-- the name and the data have fewer than 2^32 bytes, and there are at most four data servers and mirrors
pub record FitsCompound (call : MdsCallValue) : Type 0 where
  pub name : length (name_of_call call) < 2 ^ 32
  pub data_few : length (data_of_call call) < 2 ^ 32
  pub servers : length (servers_of_call call) ≤ MOST
  pub failed : length (failed_of_call call) ≤ MOST
