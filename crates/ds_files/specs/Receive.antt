-- What a data server makes of a record (RFC 5531, section 9, and RFC 1813): the order of its refusals.
use Rattle.std.specs.Prelude.{ℕ, List, [], Option, Some, None, Result, Ok, Err, not, ◌==◌, if◌then◌else◌}
use Rattle.rpc_record.specs.declared.call.TheConstants.{NFS_PROGRAM, RPC_VERSION}
use Rattle.rpc_record.specs.declared.auth.TheConstants.{AUTH_SYS}
use Rattle.ds_files.specs.declared.receive.TheConstants.{AUTH_BADCRED, AUTH_TOOWEAK, NFS_VERSION, NOBODY}
use Rattle.ff_xdr.specs.declared.error.XdrError.{XdrError}
use Rattle.ff_xdr.specs.Form.{Value, has_arm, arm_spelling}
use Rattle.ff_xdr.specs.Reading.{reading, arm_reading, whole}
use Rattle.rpc_record.specs.declared.call.CallFault.{CallFault}
use Rattle.rpc_record.specs.declared.call.CallFault.TheVariants.{NotACall, RpcVersion, Bad}
use Rattle.rpc_record.specs.Rpc.{Credential, credential_of, authsys_parms}
use Rattle.rpc_record.specs.Calls as rpc
use Rattle.rpc_record.specs.Replies as rpc_reply
use Rattle.nfs3_wire.specs.Calls.{Nfs3Call, calls, call_of}
use Rattle.nfs3_wire.specs.Replies.{nfs3_results, reply_value}
use Rattle.cluster_model.specs.declared.entry.Entry.{Entry}
use Rattle.cluster_model.specs.Server.{ServerState}
use Rattle.ds_procedures.specs.Plans.{Step}
use Rattle.ds_procedures.specs.Steps.{step_of}

-- nothing, a refusal, or a call with its credential
pub data Received : Type 0 where
  Silent : Received
  Refused : (reply : rpc_reply.RpcReply) → Received
  Asked : (xid : ℕ) (call : Nfs3Call) (cred : Credential) → Received

-- a reply with no verifier, which is how a data server replies
abbrev pub replies_with : ℕ → rpc_reply.ReplyStat → List ℕ → rpc_reply.RpcReply
replies_with xid stat results = record { xid = xid; verf = rpc_reply.auth_none; stat = stat; results = results }

abbrev pub refuses : ℕ → rpc_reply.ReplyStat → Received
refuses xid stat = Refused (replies_with xid stat [])

-- the credential of a call that names no caller
abbrev pub nobody : Credential
nobody = record { stamp = 0; machine = []; uid = NOBODY; gid = NOBODY; gids = [] }

-- the arguments in their form, with no bytes behind them; else GARBAGE_ARGS
abbrev pub with_args : ℕ → Credential → Result (Value calls) XdrError → Received
with_args xid cred (Ok v) = Asked xid (call_of v) cred
with_args xid cred (Err e) = refuses xid rpc_reply.garbage_args

abbrev pub asked : rpc.RpcCall → Credential → Received
asked c cred = with_args c.xid cred (whole c.args (arm_reading calls c.procedure c.args 0))

-- the AUTH_SYS body in its form, with no bytes behind it; else AUTH_ERROR AUTH_BADCRED
abbrev pub with_cred : rpc.RpcCall → Result (Value authsys_parms) XdrError → Received
with_cred c (Ok v) = asked c (credential_of v)
with_cred c (Err e) = refuses c.xid (rpc_reply.auth_error AUTH_BADCRED)

-- NULL asks for no credential; any other procedure for AUTH_SYS, else AUTH_ERROR AUTH_TOOWEAK
abbrev pub authenticated : rpc.RpcCall → Received
authenticated c =
    if c.procedure == 0 then asked c nobody
    else (if not (c.cred.flavor == AUTH_SYS) then refuses c.xid (rpc_reply.auth_error AUTH_TOOWEAK)
    else with_cred c (whole c.cred.body (reading authsys_parms c.cred.body 0)))

-- the program, its version, a procedure that is built, and then the credential
abbrev pub dispatched : rpc.RpcCall → Received
dispatched c =
    if not (c.program == NFS_PROGRAM) then refuses c.xid rpc_reply.prog_unavail
    else (if not (c.version == NFS_VERSION) then refuses c.xid (rpc_reply.prog_mismatch NFS_VERSION NFS_VERSION)
    else (if not (has_arm c.procedure calls) then refuses c.xid rpc_reply.proc_unavail
    else authenticated c))

-- no call: nothing; another RPC version than 2: RPC_MISMATCH; a header out of its form: GARBAGE_ARGS
abbrev pub with_call : Result rpc.RpcCall CallFault → Received
with_call (Ok c) = dispatched c
with_call (Err NotACall) = Silent
with_call (Err (RpcVersion xid)) = refuses xid (rpc_reply.rpc_mismatch RPC_VERSION RPC_VERSION)
with_call (Err (Bad xid e)) = refuses xid rpc_reply.garbage_args

abbrev pub received : List ℕ → Received
received bytes = with_call (rpc.call_at bytes)

-- what a record does: the server after it, the entries, and the bytes of the reply where there is one
pub record Outcome : Type 0 where
  pub server : ServerState
  pub entries : List Entry
  pub reply : Option (List ℕ)

abbrev pub success_bytes : ℕ → Step → List ℕ
success_bytes xid t = rpc_reply.reply_bytes (replies_with xid rpc_reply.success (arm_spelling nfs3_results (reply_value t.reply)))

abbrev pub outcome_of_step : ℕ → Step → Outcome
outcome_of_step xid t = record { server = t.server; entries = t.entries; reply = Some (success_bytes xid t) }

abbrev pub outcome_by : ServerState → Received → Outcome
outcome_by s Silent = record { server = s; entries = []; reply = None }
outcome_by s (Refused r) = record { server = s; entries = []; reply = Some (rpc_reply.reply_bytes r) }
outcome_by s (Asked xid call cred) = outcome_of_step xid (step_of s call cred)

-- the rule of a data server on records
abbrev pub outcome_of : ServerState → List ℕ → Outcome
outcome_of s bytes = outcome_by s (received bytes)
