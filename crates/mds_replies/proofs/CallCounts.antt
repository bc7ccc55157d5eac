-- A compound that comes has at most sixteen operations.
use Rattle.std.proofs.Common.{◌≤◌, ℕ, List, [], ◌∷◌, length, Option, Some, None, Result, Ok, Err, subst}
use Rattle.std.specs.Prelude.{not, ◌==◌, nat_lt, if◌then◌else◌}
use Rattle.std.proofs.lemmas.Bool.{cond_both, ltb-false}
use Rattle.ff_xdr.specs.declared.error.XdrError.{XdrError}
use Rattle.rpc_record.specs.declared.call.CallFault.{CallFault}
use Rattle.rpc_record.specs.declared.call.CallFault.TheVariants.{NotACall, RpcVersion, Bad}
use Rattle.rpc_record.specs.Calls.{RpcCall, call_at}
use Rattle.rpc_record.specs.Replies.{RpcReply, prog_unavail, prog_mismatch, proc_unavail, reply_at}
use Rattle.cluster_model.specs.declared.ids.NodeId.{NodeId}
use Rattle.nfs4_types.specs.declared.status.Stat4.TheVariants as stat
use Rattle.nfs4_compound.specs.Compounds.{CompoundValue, compound_at}
use Rattle.nfs4_compound.specs.Operations.{rest_of_stop}
use Rattle.client_mds_calls.specs.MdsCalls.{MdsCallValue}
use Rattle.client_mds_calls.specs.MdsCompounds.{mds_ops}
use Rattle.mds_receive.specs.MdsReceive.{IncomingValue, IsCompound, nfs_program, nfs_version, null_procedure, compound_procedure, minor_version, max_ops, refuses, refuses_compound, walked, counted, with_head, asks_null, asked, dispatched, of_reply, with_call}
use Rattle.mds_walk.specs.MdsRuns.{MdsEvent}
use Rattle.mds_replies.specs.ClientCalls.{IsCallFrom}

abbrev IsSmall : IncomingValue → Type 0
IsSmall (IsCompound xid c) = c.count ≤ 16
IsSmall other = Unit {0}

walked_small : (xid : ℕ) (c : CompoundValue) → c.count ≤ 16 → (o : Option ℕ) → IsSmall (walked xid c o)
walked_small xid c few None = few
walked_small xid c few (Some rest) = tt

counted_small : (xid : ℕ) (c : CompoundValue) → IsSmall (counted xid c)
counted_small xid c =
    cond_both (not (c.minorversion == minor_version)) (refuses_compound xid stat.MinorVersMismatch c.tag) (if nat_lt max_ops c.count then refuses_compound xid stat.TooManyOps c.tag else walked xid c (rest_of_stop c.stop)) IsSmall (λ other. tt)
    (λ its.
    cond_both (nat_lt max_ops c.count) (refuses_compound xid stat.TooManyOps c.tag) (walked xid c (rest_of_stop c.stop)) IsSmall (λ many. tt) (λ few. walked_small xid c (ltb-false max_ops c.count few) (rest_of_stop c.stop)))

head_small : (xid : ℕ) (r : Result CompoundValue XdrError) → IsSmall (with_head xid r)
head_small xid (Ok c) = counted_small xid c
head_small xid (Err e) = tt

null_small : (xid : ℕ) (args : List ℕ) → IsSmall (asks_null xid args)
null_small xid [] = tt
null_small xid (b ∷ args) = tt

asked_small : (c : RpcCall) → IsSmall (asked c)
asked_small c =
    cond_both (c.procedure == null_procedure) (asks_null c.xid c.args) (if c.procedure == compound_procedure then with_head c.xid (compound_at c.args) else refuses c.xid proc_unavail) IsSmall (λ null. null_small c.xid c.args)
    (λ other. cond_both (c.procedure == compound_procedure) (with_head c.xid (compound_at c.args)) (refuses c.xid proc_unavail) IsSmall (λ its. head_small c.xid (compound_at c.args)) (λ none. tt))

dispatched_small : (c : RpcCall) → IsSmall (dispatched c)
dispatched_small c =
    cond_both (not (c.program == nfs_program)) (refuses c.xid prog_unavail) (if not (c.version == nfs_version) then refuses c.xid (prog_mismatch nfs_version nfs_version) else asked c) IsSmall (λ other. tt)
    (λ its. cond_both (not (c.version == nfs_version)) (refuses c.xid (prog_mismatch nfs_version nfs_version)) (asked c) IsSmall (λ other. tt) (λ same. asked_small c))

reply_small : (r : Result RpcReply XdrError) → IsSmall (of_reply r)
reply_small (Ok r) = tt
reply_small (Err e) = tt

call_small : (r : Result RpcCall CallFault) (bytes : List ℕ) → IsSmall (with_call r bytes)
call_small (Ok c) bytes = dispatched_small c
call_small (Err NotACall) bytes = reply_small (reply_at bytes)
call_small (Err (RpcVersion xid)) bytes = tt
call_small (Err (Bad xid e)) bytes = tt

pub few_operations : (e : MdsEvent) (node : NodeId) (xid : ℕ) (name : List ℕ) (call : MdsCallValue) → IsCallFrom e node xid name call → length (mds_ops name call) ≤ 16
few_operations e node xid name call came =
    let small : came.v.count ≤ 16 = subst IsSmall came.compound (call_small (call_at came.bytes) came.bytes) in
    subst (λ (n : ℕ). n ≤ 16) came.is.count small
