-- The laws of records that come to the metadata server.
use Rattle.std.specs.Prelude.{◌≡◌, ℕ, ◌^◌, ◌<◌, ◌≤◌, List, length, None, Ok}
use Rattle.ff_xdr.specs.Form.{Value, Fits}
use Rattle.ff_xdr.specs.Reading.{reading, whole}
use Rattle.rpc_record.specs.Rpc.{OpaqueAuth}
use Rattle.rpc_record.specs.Calls.{RpcCall, call_body, body_value, call_bytes, word_of}
use Rattle.rpc_record.specs.Replies.{RpcReply, auth_none, reply_bytes}
use Rattle.nfs4_compound.specs.declared.stop.Stop.TheVariants as stop
use Rattle.nfs4_compound.specs.Args.{argop4}
use Rattle.nfs4_compound.specs.Compounds.{CompoundValue, compound4_args}
use Rattle.mds_receive.specs.MdsReceive.{IsAnswered, IsCompound, incoming_of}

-- What goes back is a reply without a verifier under the number of the record, and the record is a call: its second word is 0.
pub record IsUnderNumber (bytes reply : List ℕ) : Type 0 where
  pub said : RpcReply
  pub spelled : reply ≡ reply_bytes said
  pub number : said.xid ≡ word_of bytes 0
  pub verf : said.verf ≡ auth_none
  pub of_call : word_of bytes 4 ≡ 0

abbrev pub IsAnsweredByNumber : List ℕ → List ℕ → Type 0
IsAnsweredByNumber bytes reply = incoming_of bytes ≡ IsAnswered reply → IsUnderNumber bytes reply

-- the same call by another caller
abbrev pub called_by : RpcCall → OpaqueAuth → RpcCall
called_by c cred = record c { cred = cred }

-- a call that has a record
abbrev pub HasCallRecord : RpcCall → Type 0
HasCallRecord c = (c.xid < 2 ^ 32) × Fits call_body (body_value c)

-- Calls that differ in their credential alone come to the same.
abbrev pub IsBlindToCaller : RpcCall → OpaqueAuth → Type 0
IsBlindToCaller c cred = HasCallRecord c → HasCallRecord (called_by c cred) → incoming_of (call_bytes (called_by c cred)) ≡ incoming_of (call_bytes c)

-- a compound of minor version 1 of exactly these operations
abbrev pub compound_with : List ℕ → List (Value argop4) → CompoundValue
compound_with tag ops = record { tag = tag; minorversion = 1; count = length ops; ops = record { values = ops; stop = stop.End None }; stop = stop.End None }

-- a COMPOUND of NFS version 4 whose arguments are these, with nothing behind them, of at most 16 operations
pub record AsksCompound (c : RpcCall) (tag : List ℕ) (ops : List (Value argop4)) : Type 0 where
  pub program : c.program ≡ 100003
  pub version : c.version ≡ 4
  pub procedure : c.procedure ≡ 1
  pub args : whole c.args (reading compound4_args c.args 0) ≡ Ok (tag, (1, ops))
  pub few : length ops ≤ 16

-- Such a call is taken as this compound.
abbrev pub IsTakenWhole : RpcCall → List ℕ → List (Value argop4) → Type 0
IsTakenWhole c tag ops = HasCallRecord c → AsksCompound c tag ops → incoming_of (call_bytes c) ≡ IsCompound c.xid (compound_with tag ops)
