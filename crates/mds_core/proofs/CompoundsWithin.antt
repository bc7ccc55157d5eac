-- A compound that is to be run has at most 16 operations, and a tag of at most 1,024 bytes.
use Rattle.std.proofs.Common.{◌≡◌, ℕ, zero, suc, ◌≤◌, not, cond, eqb, ltb, List, [], ◌∷◌, length, Option, Some, None, Result, Ok, Err, refl, sym, ap, subst, ◌∙◌, arith, inl, inr}
use Rattle.std.specs.Prelude.{◌⊎◌}
use Rattle.std.proofs.lemmas.Bool.{cond_both, ltb-false}
use Rattle.ff_xdr.specs.declared.error.XdrError.{XdrError}
use Rattle.ff_xdr.specs.Form.{Form, Value}
use Rattle.ff_xdr.specs.Reading.{Read, reading}
use Rattle.ff_xdr.proofs.Places.{bind_ok, ok_is}
use Rattle.rpc_record.specs.declared.call.CallFault.{CallFault}
use Rattle.rpc_record.specs.declared.call.CallFault.TheVariants.{NotACall, RpcVersion, Bad}
use Rattle.rpc_record.specs.Calls.{RpcCall, call_at}
use Rattle.rpc_record.specs.Replies.{RpcReply, reply_at, prog_unavail, prog_mismatch, proc_unavail}
use Rattle.nfs4_types.specs.declared.status.Stat4.TheVariants as stat
use Rattle.nfs4_unserved_ops.specs.Args.{unserved_argop4}
use Rattle.nfs4_compound.specs.declared.stop.Stop.{Stop}
use Rattle.nfs4_compound.specs.Args.{argop4}
use Rattle.nfs4_compound.specs.Joined.{side_of}
use Rattle.nfs4_compound.specs.AllOps.{nfs_argop4, served_first, served_of}
use Rattle.nfs4_compound.specs.Compounds.{CompoundValue, compound_head, compound_of, compound_at}
use Rattle.nfs4_compound.specs.Operations.{with_first, stop_at, operations, rest_of_stop}
use Rattle.mds_receive.specs.MdsReceive.{IncomingValue, PassedOver, IsReply, IsAnswered, IsCompound, refuses, refuses_compound, walked, counted, with_head, asks_null, asked, dispatched, of_reply, with_call, incoming_of}
use Rattle.mds_receive.specs.declared.incoming.Incoming.{Incoming}
use Rattle.mds_receive.specs.declared.incoming.Incoming.TheVariants as declared
use Rattle.mds_receive.specs.PlainIncoming.{plain_incoming}
use Rattle.mds_receive.proofs.TagWithin.{tag_within}

-- ---- no more operations than are counted

few_values : (form : Form) (n : ℕ) (bytes : List ℕ) (at : ℕ) → length (operations form n bytes at).values ≤ n
few_values form zero bytes at = omega arith
few_values form (suc n) bytes at = by_first (reading form bytes at) (few_values form n bytes)
  where
    by_first : (r : Read (Value form)) → ((to : ℕ) → length (operations form n bytes to).values ≤ n) → length (with_first r (λ e. stop_at form bytes at e) (λ to. operations form n bytes to)).values ≤ suc n
    by_first (Ok v) rest = let few = rest v.1 in omega (arith, few)
    by_first (Err e) rest = omega arith

-- those that are carried out are no more than all
few_served : (ops : List (Value nfs_argop4)) (s : Stop) → length (served_of ops s).values ≤ length ops
few_served [] s = omega arith
few_served (op ∷ ops) s = by_side (side_of argop4 unserved_argop4 op) (few_served ops s)
  where
    by_side : (side : Value argop4 ⊎ Value unserved_argop4) → length (served_of ops s).values ≤ length ops → length (served_first side (served_of ops s)).values ≤ suc (length ops)
    by_side (inl v) rest = omega (arith, rest)
    by_side (inr w) rest = omega arith

of_head : (args : List ℕ) (head : Value compound_head × ℕ) → length (compound_of args head).ops.values ≤ (compound_of args head).count
of_head args ((tag, (minorversion, count)), at) =
    let all = few_values nfs_argop4 count args at in
    let served = few_served (operations nfs_argop4 count args at).values (operations nfs_argop4 count args at).stop in
    omega (arith, all, served)

ops_within : (args : List ℕ) (c : CompoundValue) → compound_at args ≡ Ok c → length c.ops.values ≤ c.count
ops_within args c e =
    let h = bind_ok (reading compound_head args 0) (λ head. Ok (compound_of args head)) c e in
    subst (λ (d : CompoundValue). length d.ops.values ≤ d.count) (ok_is (compound_of args h.0) c h.2) (of_head args h.0)

-- ---- the steps

abbrev IsWithin : IncomingValue → Type 0
IsWithin PassedOver = Unit {0}
IsWithin (IsReply reply) = Unit {0}
IsWithin (IsAnswered bytes) = Unit {0}
IsWithin (IsCompound xid c) = (length c.ops.values ≤ 16) × (length c.tag ≤ 1024)

walked_within : (xid : ℕ) (c : CompoundValue) (rest : Option ℕ) → length c.ops.values ≤ 16 → length c.tag ≤ 1024 → IsWithin (walked xid c rest)
walked_within xid c (Some place) few short = tt
walked_within xid c None few short = (few, short)

counted_within : (xid : ℕ) (c : CompoundValue) → length c.ops.values ≤ c.count → length c.tag ≤ 1024 → IsWithin (counted xid c)
counted_within xid c all short =
    cond_both (not (eqb c.minorversion 1)) (refuses_compound xid stat.MinorVersMismatch c.tag) (cond (ltb 16 c.count) (refuses_compound xid stat.TooManyOps c.tag) (walked xid c (rest_of_stop c.stop)))
    (λ (v : IncomingValue). IsWithin v) (λ other. tt)
    (λ same. cond_both (ltb 16 c.count) (refuses_compound xid stat.TooManyOps c.tag) (walked xid c (rest_of_stop c.stop))
    (λ (v : IncomingValue). IsWithin v) (λ many. tt) (λ few. walked_within xid c (rest_of_stop c.stop) (omega (arith, all, ltb-false 16 c.count few)) short))

head_within : (xid : ℕ) (args : List ℕ) (r : Result CompoundValue XdrError) → compound_at args ≡ r → IsWithin (with_head xid r)
head_within xid args (Ok c) is = counted_within xid c (ops_within args c is) (tag_within args c is)
head_within xid args (Err e) is = tt

null_within : (xid : ℕ) (args : List ℕ) → IsWithin (asks_null xid args)
null_within xid [] = tt
null_within xid (b ∷ bytes) = tt

asked_within : (c : RpcCall) → IsWithin (asked c)
asked_within c =
    cond_both (eqb c.procedure 0) (asks_null c.xid c.args) (cond (eqb c.procedure 1) (with_head c.xid (compound_at c.args)) (refuses c.xid proc_unavail))
    (λ (v : IncomingValue). IsWithin v) (λ null. null_within c.xid c.args)
    (λ other. cond_both (eqb c.procedure 1) (with_head c.xid (compound_at c.args)) (refuses c.xid proc_unavail)
    (λ (v : IncomingValue). IsWithin v) (λ compound. head_within c.xid c.args (compound_at c.args) refl) (λ none. tt))

dispatched_within : (c : RpcCall) → IsWithin (dispatched c)
dispatched_within c =
    cond_both (not (eqb c.program 100003)) (refuses c.xid prog_unavail) (cond (not (eqb c.version 4)) (refuses c.xid (prog_mismatch 4 4)) (asked c))
    (λ (v : IncomingValue). IsWithin v) (λ other. tt)
    (λ same. cond_both (not (eqb c.version 4)) (refuses c.xid (prog_mismatch 4 4)) (asked c) (λ (v : IncomingValue). IsWithin v) (λ old. tt) (λ new. asked_within c))

reply_within : (r : Result RpcReply XdrError) → IsWithin (of_reply r)
reply_within (Ok r) = tt
reply_within (Err e) = tt

call_within : (r : Result RpcCall CallFault) (bytes : List ℕ) → IsWithin (with_call r bytes)
call_within (Ok c) bytes = dispatched_within c
call_within (Err NotACall) bytes = reply_within (reply_at bytes)
call_within (Err (RpcVersion xid)) bytes = tt
call_within (Err (Bad xid e)) bytes = tt

incoming_within : (bytes : List ℕ) → IsWithin (incoming_of bytes)
incoming_within bytes = call_within (call_at bytes) bytes

pub compound_within : (incoming : Incoming) (xid : ℕ) (c : CompoundValue) (bytes : List ℕ) → plain_incoming incoming ≡ incoming_of bytes → incoming ≡ declared.Compound xid c
    → (length c.ops.values ≤ 16) × (length c.tag ≤ 1024)
compound_within incoming xid c bytes comes is = subst IsWithin (sym (ap plain_incoming (sym is) ∙ comes)) (incoming_within bytes)
