-- RPC calls (RFC 5531, section 9).
use Rattle.std.specs.Prelude.{◌≡◌, ℕ, List, ◌++◌, length, take, drop, Result, Ok, Err, nat_lt, ◌==◌, if◌then◌else◌}
use Rattle.std.specs.Int.{w32, from_be_bytes}
use Rattle.rpc_record.specs.declared.call.TheConstants.{RPC_VERSION}
use Rattle.ff_xdr.specs.declared.error.XdrError.{XdrError}
use Rattle.ff_xdr.specs.Form.{Form, Number32, Pair, Value, spelling, word}
use Rattle.ff_xdr.specs.Reading.{Read, number_at, reading}
use Rattle.rpc_record.specs.declared.call.Call.{Call}
use Rattle.rpc_record.specs.declared.call.CallFault.{CallFault}
use Rattle.rpc_record.specs.declared.call.CallFault.TheVariants.{NotACall, RpcVersion, Bad}
use Rattle.rpc_record.specs.Rpc.{opaque_auth, OpaqueAuth, opaque_auth_value, opaque_auth_of, plain_auth}

-- call_body behind the RPC version: program, version, procedure, credential, verifier
abbrev pub call_body : Form
call_body = Pair Number32 (Pair Number32 (Pair Number32 (Pair opaque_auth opaque_auth)))

-- a call, without where its bytes lie
pub record RpcCall : Type 0 where
  pub xid : ℕ
  pub program : ℕ
  pub version : ℕ
  pub procedure : ℕ
  pub cred : OpaqueAuth
  pub verf : OpaqueAuth
  pub args : List ℕ

abbrev pub rpc_call : Call → RpcCall
rpc_call c = record { xid = c.xid; program = c.program; version = c.version; procedure = c.procedure; cred = plain_auth c.cred; verf = plain_auth c.verf; args = c.args.now }

abbrev pub body_value : RpcCall → Value call_body
body_value c = (c.program, (c.version, (c.procedure, (opaque_auth_value c.cred, opaque_auth_value c.verf))))

-- the bytes of a call: the transaction's number, 0 for a call, 2 for the RPC version, the rest, the arguments
abbrev pub call_bytes : RpcCall → List ℕ
call_bytes c = (word c.xid ++ (word 0 ++ word RPC_VERSION)) ++ (spelling call_body (body_value c) ++ c.args)

-- the number that four bytes spell
unfoldable pub word_of : List ℕ → ℕ → ℕ
word_of bytes at = from_be_bytes w32 (take 4 (drop at bytes))

abbrev pub with_body : ℕ → List ℕ → Read (Value call_body) → Result RpcCall CallFault
with_body xid bytes (Ok ((program, (version, (procedure, (cred, verf)))), at)) =
    Ok (record { xid = xid; program = program; version = version; procedure = procedure; cred = opaque_auth_of cred; verf = opaque_auth_of verf; args = drop at bytes })
with_body xid bytes (Err e) = Err (Bad xid e)

unfoldable pub body_at : ℕ → List ℕ → ℕ → Result RpcCall CallFault
body_at xid bytes at = with_body xid bytes (reading call_body bytes at)

abbrev pub with_version : ℕ → List ℕ → Read ℕ → Result RpcCall CallFault
with_version xid bytes (Ok version) = if version.0 == RPC_VERSION then body_at xid bytes version.1 else Err (RpcVersion xid)
with_version xid bytes (Err e) = Err (Bad xid e)

-- What a record is as a call: none where fewer than eight bytes stand or the second word is not 0;
-- one of another RPC version where the third word is not 2; else the header in its form, or a refusal.
unfoldable pub call_at : List ℕ → Result RpcCall CallFault
call_at bytes =
    if nat_lt (length bytes) 8 then Err NotACall
    else (if word_of bytes 4 == 0 then with_version (word_of bytes 0) bytes (number_at w32 bytes 8) else Err NotACall)

-- the header behind the RPC version was read, and the arguments are what is left
abbrev pub HasBody : ℕ → List ℕ → Result Call XdrError → Read (Value call_body) → Type 0
HasBody xid bytes (Ok call) read = Ok (rpc_call call) ≡ with_body xid bytes read
HasBody xid bytes (Err e) read = read ≡ Err e
