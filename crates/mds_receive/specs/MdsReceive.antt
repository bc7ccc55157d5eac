-- What a record is to the metadata server (RFC 5531, section 9; RFC 8881, sections 16.1 and 16.2): the order of its refusals.
use Rattle.std.specs.Prelude.{ℕ, nat_lt, List, [], ◌∷◌, Option, Some, None, Result, Ok, Err, not, ◌==◌, if◌then◌else◌}
use Rattle.ff_xdr.specs.declared.error.XdrError.{XdrError}
use Rattle.ff_xdr.specs.Form.{spelling}
use Rattle.rpc_record.specs.declared.call.CallFault.{CallFault}
use Rattle.rpc_record.specs.declared.call.CallFault.TheVariants.{NotACall, RpcVersion, Bad}
use Rattle.rpc_record.specs.Calls.{RpcCall, call_at}
use Rattle.rpc_record.specs.Replies.{RpcReply, ReplyStat, auth_none, success, prog_unavail, prog_mismatch, proc_unavail, garbage_args, rpc_mismatch, reply_bytes, reply_at}
use Rattle.nfs4_types.specs.declared.status.Stat4.{Stat4}
use Rattle.nfs4_types.specs.declared.status.Stat4.TheVariants as stat
use Rattle.nfs4_types.specs.Status.{stat4_number}
use Rattle.nfs4_compound.specs.Compounds.{CompoundValue, compound_at, compound4_res}
use Rattle.nfs4_compound.specs.Operations.{rest_of_stop}

-- nothing; a reply; a call that is answered at once, by this record; or a compound to be run
pub data IncomingValue : Type 0 where
  PassedOver : IncomingValue
  IsReply : (reply : RpcReply) → IncomingValue
  IsAnswered : (bytes : List ℕ) → IncomingValue
  IsCompound : (xid : ℕ) (compound : CompoundValue) → IncomingValue

-- ---- the numbers of this program. They stand here as numbers again, so that an edit of the code's constants is refused.

-- NFS, and its version (RFC 8881, section 1.3)
abbrev pub nfs_program : ℕ
nfs_program = 100003

abbrev pub nfs_version : ℕ
nfs_version = 4

-- NULL 0 and COMPOUND 1 (RFC 8881, sections 16.1 and 16.2)
abbrev pub null_procedure : ℕ
null_procedure = 0

abbrev pub compound_procedure : ℕ
compound_procedure = 1

-- NFSv4.1
abbrev pub minor_version : ℕ
minor_version = 1

-- the most operations of a compound; the limit is the project's own
abbrev pub max_ops : ℕ
max_ops = 16

-- ---- what goes back

-- a reply without a verifier
abbrev pub bare_reply : ℕ → ReplyStat → List ℕ → RpcReply
bare_reply xid stat results = record { xid = xid; verf = auth_none; stat = stat; results = results }

abbrev pub answers : ℕ → ReplyStat → List ℕ → IncomingValue
answers xid stat results = IsAnswered (reply_bytes (bare_reply xid stat results))

abbrev pub refuses : ℕ → ReplyStat → IncomingValue
refuses xid stat = answers xid stat []

-- the result of a compound of which no operation was done: its status, its tag, no results
abbrev pub refuses_compound : ℕ → Stat4 → List ℕ → IncomingValue
refuses_compound xid status tag = answers xid success (spelling compound4_res (stat4_number status, (tag, [])))

-- ---- the steps, from the last to the first

-- Bytes behind the last operation are no arguments. An operation that is not built, or out of form, ends the walk, and is none of its
-- refusals; one that is read and not carried out does not end it.
abbrev pub walked : ℕ → CompoundValue → Option ℕ → IncomingValue
walked xid c (Some rest) = refuses xid garbage_args
walked xid c None = IsCompound xid c

-- the minor version, then how many operations there are to be
abbrev pub counted : ℕ → CompoundValue → IncomingValue
counted xid c =
    if not (c.minorversion == minor_version) then refuses_compound xid stat.MinorVersMismatch c.tag
    else (if nat_lt max_ops c.count then refuses_compound xid stat.TooManyOps c.tag
    else walked xid c (rest_of_stop c.stop))

-- the tag, the minor version and the count in their form
abbrev pub with_head : ℕ → Result CompoundValue XdrError → IncomingValue
with_head xid (Ok c) = counted xid c
with_head xid (Err e) = refuses xid garbage_args

-- NULL has neither arguments nor results
abbrev pub asks_null : ℕ → List ℕ → IncomingValue
asks_null xid [] = answers xid success []
asks_null xid (b ∷ bytes) = refuses xid garbage_args

abbrev pub asked : RpcCall → IncomingValue
asked c =
    if c.procedure == null_procedure then asks_null c.xid c.args
    else (if c.procedure == compound_procedure then with_head c.xid (compound_at c.args)
    else refuses c.xid proc_unavail)

-- the program, then its version; who calls is not looked at
abbrev pub dispatched : RpcCall → IncomingValue
dispatched c =
    if not (c.program == nfs_program) then refuses c.xid prog_unavail
    else (if not (c.version == nfs_version) then refuses c.xid (prog_mismatch nfs_version nfs_version)
    else asked c)

-- no call: a reply in its form, or nothing
abbrev pub of_reply : Result RpcReply XdrError → IncomingValue
of_reply (Ok r) = IsReply r
of_reply (Err e) = PassedOver

-- another RPC version than 2, then a header out of its form
abbrev pub with_call : Result RpcCall CallFault → List ℕ → IncomingValue
with_call (Ok c) bytes = dispatched c
with_call (Err NotACall) bytes = of_reply (reply_at bytes)
with_call (Err (RpcVersion xid)) bytes = refuses xid (rpc_mismatch 2 2)
with_call (Err (Bad xid e)) bytes = refuses xid garbage_args

abbrev pub incoming_of : List ℕ → IncomingValue
incoming_of bytes = with_call (call_at bytes) bytes
