-- A compound that the metadata server takes as a READ is read so by its bytes.
use Rattle.std.proofs.Common.{◌≡◌, ℕ, Bool, true, false, cond, ◌&&◌, List, [], ◌∷◌, Option, Some, None, Result, Ok, Err, refl, sym, ap, subst, ◌∙◌}
use Rattle.std.specs.Prelude.{not, ◌==◌, nat_lt, length}
use Rattle.std.specs.Int.{w64, from_be_bytes}
use Rattle.ff_xdr.specs.declared.error.XdrError.{XdrError}
use Rattle.ff_xdr.specs.Form.{Value, long}
use Rattle.ff_xdr.specs.Arms.{arm}
use Rattle.rpc_record.specs.declared.call.CallFault.{CallFault}
use Rattle.rpc_record.specs.declared.call.CallFault.TheVariants.{NotACall, RpcVersion, Bad}
use Rattle.rpc_record.specs.Calls.{RpcCall, call_at}
use Rattle.rpc_record.specs.Replies.{RpcReply, reply_at}
use Rattle.cluster_model.specs.declared.ids.FileId.{FileId}
use Rattle.nfs4_types.specs.Handles.{file_handle_of}
use Rattle.nfs4_types.specs.Sequences.{sequence4_args}
use Rattle.nfs4_types.specs.Stateids.{stateid4}
use Rattle.nfs4_compound.specs.declared.stop.Stop.{Stop}
use Rattle.nfs4_compound.specs.declared.stop.Stop.TheVariants as stop
use Rattle.nfs4_compound.specs.Args.{argop4}
use Rattle.nfs4_compound.specs.Operations.{rest_of_stop}
use Rattle.nfs4_compound.specs.Compounds.{CompoundValue, compound_at}
use Rattle.mds_receive.specs.MdsReceive.{IncomingValue, IsCompound, walked, counted, with_head, asked, dispatched, of_reply, with_call, incoming_of}
use Rattle.read_runs.specs.ReadRuns.{ReadsFile}
use Rattle.ff_laws.specs.declared.read_call.ReadCall.{ReadCall}
use Rattle.ff_laws.specs.ReadCalls.{is_of_nfs, handle_number, read_by, in_ops, nfs4_read, nfs4_read_of, with_nfs4_call, client_read_of}

-- ---- tests that are passed

refused : {A : Type 0} (b : Bool) (x y z : A) → (x ≡ z → ⊥) → cond (not b) x y ≡ z → (b ≡ true) × (y ≡ z)
refused true x y z never is = (refl, is)
refused false x y z never is = absurd (never is)

otherwise : {A : Type 0} (b : Bool) (x y z : A) → (x ≡ z → ⊥) → cond b x y ≡ z → (b ≡ false) × (y ≡ z)
otherwise true x y z never is = absurd (never is)
otherwise false x y z never is = (refl, is)

taken : {A : Type 0} (b : Bool) (x y z : A) → (y ≡ z → ⊥) → cond b x y ≡ z → (b ≡ true) × (x ≡ z)
taken true x y z never is = (refl, is)
taken false x y z never is = absurd (never is)

-- ---- the compound of a call

-- a call that is run as a compound is a COMPOUND of NFSv4, under its number
pub record IsCompoundCall (c : RpcCall) (xid : ℕ) (v : CompoundValue) : Type 0 where
  pub nfs : is_of_nfs 4 1 c ≡ true
  pub number : c.xid ≡ xid
  pub args : compound_at c.args ≡ Ok v

walked_is : (own xid : ℕ) (c v : CompoundValue) (rest : Option ℕ) → walked own c rest ≡ IsCompound xid v → (own ≡ xid) × (c ≡ v)
walked_is own xid c v (Some at) is = absurd cc
walked_is own xid c v None is = (cc, cc)

counted_is : (own xid : ℕ) (c v : CompoundValue) → counted own c ≡ IsCompound xid v → (own ≡ xid) × (c ≡ v)
counted_is own xid c v is =
    let version = refused (c.minorversion == 1) _ _ (IsCompound xid v) (λ is. absurd cc) is in
    let count = otherwise (nat_lt 16 c.count) _ _ (IsCompound xid v) (λ is. absurd cc) version.1 in
    walked_is own xid c v (rest_of_stop c.stop) count.1

head_is : (own xid : ℕ) (r : Result CompoundValue XdrError) (v : CompoundValue) → with_head own r ≡ IsCompound xid v → (own ≡ xid) × (r ≡ Ok v)
head_is own xid (Ok c) v is =
    let same = counted_is own xid c v is in
    (same.0, ap (λ (x : CompoundValue). Ok x) same.1)
head_is own xid (Err e) v is = absurd cc

null_is_none : (xid own : ℕ) (args : List ℕ) (v : CompoundValue) → Rattle.mds_receive.specs.MdsReceive.asks_null own args ≡ IsCompound xid v → ⊥
null_is_none xid own [] v is = absurd cc
null_is_none xid own (b ∷ args) v is = absurd cc

dispatched_is : (c : RpcCall) (xid : ℕ) (v : CompoundValue) → dispatched c ≡ IsCompound xid v → IsCompoundCall c xid v
dispatched_is c xid v is =
    let program = refused (c.program == 100003) _ _ (IsCompound xid v) (λ is. absurd cc) is in
    let version = refused (c.version == 4) _ _ (IsCompound xid v) (λ is. absurd cc) program.1 in
    let some = otherwise (c.procedure == 0) _ _ (IsCompound xid v) (null_is_none xid c.xid c.args v) version.1 in
    let procedure = taken (c.procedure == 1) _ _ (IsCompound xid v) (λ is. absurd cc) some.1 in
    let same = head_is c.xid xid (compound_at c.args) v procedure.1 in record {
      nfs = all (c.program == 100003) (c.version == 4) (c.procedure == 1) program.0 version.0 procedure.0;
      number = same.0;
      args = same.1;
    }
  where
    all : (a b d : Bool) → a ≡ true → b ≡ true → d ≡ true → (a && (b && d)) ≡ true
    all true true true is so it = refl
    all true true false is so it = absurd cc
    all true false d is so it = absurd cc
    all false b d is so it = absurd cc

-- the call whose compound is run
pub record HasCompoundCall (bytes : List ℕ) (xid : ℕ) (v : CompoundValue) : Type 0 where
  pub call : RpcCall
  pub reads : call_at bytes ≡ Ok call
  pub is : IsCompoundCall call xid v

reply_is_none : (r : Result RpcReply XdrError) (xid : ℕ) (v : CompoundValue) → of_reply r ≡ IsCompound xid v → ⊥
reply_is_none (Ok r) xid v is = absurd cc
reply_is_none (Err e) xid v is = absurd cc

pub compound_call : (bytes : List ℕ) (xid : ℕ) (v : CompoundValue) → incoming_of bytes ≡ IsCompound xid v → HasCompoundCall bytes xid v
compound_call bytes xid v is = by_call (call_at bytes) refl is
  where
    by_call : (r : Result RpcCall CallFault) → call_at bytes ≡ r → with_call r bytes ≡ IsCompound xid v → HasCompoundCall bytes xid v
    by_call (Ok c) at so = record { call = c; reads = at; is = dispatched_is c xid v so }
    by_call (Err NotACall) at so = absurd (reply_is_none (reply_at bytes) xid v so)
    by_call (Err (RpcVersion other)) at so = absurd cc
    by_call (Err (Bad other e)) at so = absurd cc

-- ---- a READ

-- what a compound of these operations asks for
three : (xid : ℕ) (sequence : Value sequence4_args) (handle : List ℕ) (stateid : Value stateid4) (at count : ℕ)
    → in_ops xid (arm 53 argop4 sequence ∷ arm 22 argop4 handle ∷ arm 25 argop4 (stateid, (at, count)) ∷ []) (stop.End None) ≡ read_by xid (handle_number handle) at count
three xid sequence handle stateid at count = refl

pub compound_reads : (bytes : List ℕ) (xid : ℕ) (v : CompoundValue) (file : FileId) (at count : ℕ) → incoming_of bytes ≡ IsCompound xid v → ReadsFile v file at count
    → client_read_of bytes ≡ read_by xid (handle_number (file_handle_of file.0)) at count
compound_reads bytes xid v file at count is reads =
    let c = compound_call bytes xid v is in
    let head : with_nfs4_call (call_at bytes) ≡ nfs4_read_of c.call = ap with_nfs4_call c.reads in
    let nfs : nfs4_read_of c.call ≡ nfs4_read c.call.xid (compound_at c.call.args) = ap (λ (b : Bool). cond b (nfs4_read c.call.xid (compound_at c.call.args)) None) c.is.nfs in
    let args : nfs4_read c.call.xid (compound_at c.call.args) ≡ in_ops c.call.xid v.ops.values v.ops.stop = ap (nfs4_read c.call.xid) c.is.args in
    let number : in_ops c.call.xid v.ops.values v.ops.stop ≡ in_ops xid v.ops.values v.ops.stop = ap (λ (x : ℕ). in_ops x v.ops.values v.ops.stop) c.is.number in
    let ops : in_ops xid v.ops.values v.ops.stop ≡ in_ops xid (arm 53 argop4 reads.sequence ∷ arm 22 argop4 (file_handle_of file.0) ∷ arm 25 argop4 (reads.stateid, (at, count)) ∷ []) v.ops.stop =
    ap (λ (l : List (Value argop4)). in_ops xid l v.ops.stop) reads.ops in
    let end : in_ops xid (arm 53 argop4 reads.sequence ∷ arm 22 argop4 (file_handle_of file.0) ∷ arm 25 argop4 (reads.stateid, (at, count)) ∷ []) v.ops.stop ≡ read_by xid (handle_number (file_handle_of file.0)) at count =
    ap (λ (s : Stop). in_ops xid (arm 53 argop4 reads.sequence ∷ arm 22 argop4 (file_handle_of file.0) ∷ arm 25 argop4 (reads.stateid, (at, count)) ∷ []) s) reads.stop ∙ three xid reads.sequence (file_handle_of file.0) reads.stateid at count in
    head ∙ (nfs ∙ (args ∙ (number ∙ (ops ∙ end))))
