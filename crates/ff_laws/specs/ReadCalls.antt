-- The two calls that read a file: a client's to the metadata server (RFC 8881, section 18.22), and a call to a data server (RFC 1813,
-- section 3.3.6), each by the bytes of its record. The numbers stand here as numbers again, so that an edit of the code's constants is
-- refused.
use Rattle.std.specs.Prelude.{ℕ, Bool, true, false, nat_eq, ◌==◌, ◌&&◌, List, [], ◌∷◌, length, Option, Some, None, Result, Ok, Err, if◌then◌else◌, ◌⊎◌}
use Rattle.std.specs.Int.{w64, from_be_bytes}
use Rattle.std.proofs.Common.{inl, inr}
use Rattle.ff_xdr.specs.declared.error.XdrError.{XdrError}
use Rattle.ff_xdr.specs.Form.{Form, Arm, Value}
use Rattle.ff_xdr.specs.Arms.{OneOf, Body}
use Rattle.ff_xdr.specs.Reading.{reading, whole}
use Rattle.rpc_record.specs.declared.call.CallFault.{CallFault}
use Rattle.rpc_record.specs.Calls.{RpcCall, call_at}
use Rattle.nfs3_wire.specs.Read.{read_args}
use Rattle.nfs4_types.specs.Handles.{nfs_fh4}
use Rattle.nfs4_types.specs.Sequences.{sequence4_args}
use Rattle.nfs4_file_ops.specs.Read.{read4_args}
use Rattle.nfs4_compound.specs.declared.stop.Stop.{Stop}
use Rattle.nfs4_compound.specs.declared.stop.Stop.TheVariants as stop
use Rattle.nfs4_compound.specs.Args.{argop4}
use Rattle.nfs4_compound.specs.Compounds.{CompoundValue, compound_at}
use Rattle.ff_laws.specs.declared.read_call.ReadCall.{ReadCall}

-- ---- handles

-- the number of a handle of eight bytes
abbrev pub handle_number : List ℕ → Option ℕ
handle_number handle = if length handle == 8 then Some (from_be_bytes w64 handle) else None

abbrev pub read_by : ℕ → Option ℕ → ℕ → ℕ → Option ReadCall
read_by xid None offset count = None
read_by xid (Some handle) offset count = Some (record { xid = xid; handle = handle; offset = offset; count = count })

-- the program NFS, a version of it, and a procedure
abbrev pub is_of_nfs : ℕ → ℕ → RpcCall → Bool
is_of_nfs version procedure c = c.program == 100003 && (c.version == version && c.procedure == procedure)

-- ---- a call to a data server: version 3, procedure 6, the file's handle, the offset and the count, and nothing behind them

abbrev pub nfs3_read : ℕ → Result (Value read_args) XdrError → Option ReadCall
nfs3_read xid (Ok (handle, (offset, count))) = read_by xid (handle_number handle) offset count
nfs3_read xid (Err e) = None

abbrev pub nfs3_read_of : RpcCall → Option ReadCall
nfs3_read_of c = if is_of_nfs 3 6 c then nfs3_read c.xid (whole c.args (reading read_args c.args 0)) else None

abbrev pub with_nfs3_call : Result RpcCall CallFault → Option ReadCall
with_nfs3_call (Ok c) = nfs3_read_of c
with_nfs3_call (Err e) = None

abbrev pub server_read_of : List ℕ → Option ReadCall
server_read_of bytes = with_nfs3_call (call_at bytes)

-- ---- a client's call: version 4, procedure 1, a compound of three operations, and nothing behind them

-- the body of a union's arm with this number, where the value is of that arm
abbrev pub body_if : {A B C : Type 0} (here : Bool) → (B → Option C) → A ⊎ B → Option (OneOf here A C)
body_if true others (inl v) = Some v
body_if true others (inr v) = None
body_if false others (inl v) = None
body_if false others (inr v) = others v

abbrev pub body_of : (n : ℕ) (form : Form) → Value form → Option (Body n form)
body_of n (Arm number body others) v = body_if (nat_eq n number) (λ w. body_of n others w) v
body_of n form v = None

-- SEQUENCE, PUTFH of the file's handle, and READ of the offset and the count, of whatever stateid
abbrev pub in_order : ℕ → Option (Value sequence4_args) → Option (Value nfs_fh4) → Option (Value read4_args) → Option ReadCall
in_order xid (Some sequence) (Some handle) (Some (stateid, (offset, count))) = read_by xid (handle_number handle) offset count
in_order xid sequence handle read = None

-- the three by their numbers (sections 18.46, 18.19 and 18.22)
abbrev pub in_three : ℕ → Value argop4 → Value argop4 → Value argop4 → Option ReadCall
in_three xid first second third = in_order xid (body_of 53 argop4 first) (body_of 22 argop4 second) (body_of 25 argop4 third)

-- three operations, and all was read
abbrev pub in_ops : ℕ → List (Value argop4) → Stop → Option ReadCall
in_ops xid (first ∷ second ∷ third ∷ []) (stop.End None) = in_three xid first second third
in_ops xid values end = None

abbrev pub nfs4_read : ℕ → Result CompoundValue XdrError → Option ReadCall
nfs4_read xid (Ok compound) = in_ops xid compound.ops.values compound.ops.stop
nfs4_read xid (Err e) = None

abbrev pub nfs4_read_of : RpcCall → Option ReadCall
nfs4_read_of c = if is_of_nfs 4 1 c then nfs4_read c.xid (compound_at c.args) else None

abbrev pub with_nfs4_call : Result RpcCall CallFault → Option ReadCall
with_nfs4_call (Ok c) = nfs4_read_of c
with_nfs4_call (Err e) = None

abbrev pub client_read_of : List ℕ → Option ReadCall
client_read_of bytes = with_nfs4_call (call_at bytes)
