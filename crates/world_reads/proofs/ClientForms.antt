-- The record of a client's compound is taken as exactly its operations, which read in form; and a READ in it has numbers that fit.
use Rattle.std.proofs.Common.{◌≡◌, ◌<◌, ℕ, ◌^◌, List, [], ◌∷◌, Result, Ok, refl, sym, ap, subst, ◌∙◌}
use Rattle.std.specs.List.{AllByRecursion}
use Rattle.std.specs.Int.{w64, from_be_bytes}
use Rattle.ff_xdr.specs.declared.error.XdrError.{XdrError}
use Rattle.ff_xdr.specs.Form.{Value, Fits}
use Rattle.rpc_record.specs.declared.call.CallFault.{CallFault}
use Rattle.rpc_record.specs.Calls.{RpcCall, call_at}
use Rattle.cluster_model.specs.declared.ids.FileId.{FileId}
use Rattle.nfs4_compound.specs.Args.{argop4}
use Rattle.nfs4_compound.specs.Compounds.{CompoundValue, compound_at}
use Rattle.nfs4_compound.specs.Laws.{AreServedWhole}
use Rattle.mds_receive.specs.MdsReceive.{IsCompound, incoming_of}
use Rattle.mds_receive.specs.MdsReceiveLaws.{compound_with}
use Rattle.client_mds_calls.specs.MdsCompounds.{mds_ops}
use Rattle.client_mds_calls.specs.MdsCallLaws.{MdsMessage, HasCompoundRecord, IsReadAsCompound, compound_record_of, compound_message_call}
use Rattle.read_runs.specs.ReadRuns.{ReadsFile, ReadsInForm}
use Rattle.world_reads.proofs.ReadRecords.{HasCompoundCall, compound_call}
use Rattle.mds_receive.proofs.WholeCompounds.{compound_whole}
use Rattle.world_reads.proofs.ClientCompounds.{ops_in_form}

abbrev fine : RpcCall → Result RpcCall CallFault
fine c = Ok c

abbrev found : CompoundValue → Result CompoundValue XdrError
found v = Ok v

same_call : (x y : RpcCall) → fine x ≡ fine y → x ≡ y
same_call x y is = cc

same_compound : (x y : CompoundValue) → found x ≡ found y → x ≡ y
same_compound x y is = cc

-- what the record is taken as
pub record IsTakenAs (m : MdsMessage) (xid : ℕ) (v : CompoundValue) : Type 0 where
  pub number : m.xid ≡ xid
  pub compound : compound_with [] (mds_ops m.owner m.call) ≡ v

module _ (given : AreServedWhole) where
  pub taken_as : (m : MdsMessage) → IsReadAsCompound m → (xid : ℕ) (v : CompoundValue) → incoming_of (compound_record_of m) ≡ IsCompound xid v → IsTakenAs m xid v
  taken_as m read xid v is =
      let c : HasCompoundCall (compound_record_of m) xid v = compound_call (compound_record_of m) xid v is in
      let both : fine (compound_message_call m) ≡ fine c.call = sym read.header ∙ c.reads in
      let same : compound_message_call m ≡ c.call = same_call (compound_message_call m) c.call both in
      let here : compound_at (compound_message_call m).args ≡ Ok (compound_with [] (mds_ops m.owner m.call)) = compound_whole given (compound_message_call m).args [] (mds_ops m.owner m.call) read.operations in
      let there : compound_at (compound_message_call m).args ≡ Ok v = ap (λ (r : RpcCall). compound_at r.args) same ∙ c.is.args in
      record { number = ap (λ (r : RpcCall). r.xid) same ∙ c.is.number; compound = same_compound (compound_with [] (mds_ops m.owner m.call)) v (sym here ∙ there) }

  pub reads_in_form : (m : MdsMessage) → IsReadAsCompound m → (xid : ℕ) (v : CompoundValue) → incoming_of (compound_record_of m) ≡ IsCompound xid v → ReadsInForm v
  reads_in_form m read xid v is = subst ReadsInForm (taken_as m read xid v is).compound (ops_in_form m.owner m.call)

-- ---- the numbers of a READ

pub record IsReadInRange (at count : ℕ) : Type 0 where
  pub offset : at < 2 ^ 64
  pub few : count < 2 ^ 32

ops_fit : (m : MdsMessage) → HasCompoundRecord m → AllByRecursion (λ (op : Value argop4). Fits argop4 op) (mds_ops m.owner m.call)
ops_fit m has = has.ops_fit.1.1.1

pub read_in_range : (m : MdsMessage) → HasCompoundRecord m → (v : CompoundValue) → compound_with [] (mds_ops m.owner m.call) ≡ v → (file : FileId) (at count : ℕ) → ReadsFile v file at count → IsReadInRange at count
read_in_range m has v same file at count reads =
    let fit : AllByRecursion (λ (op : Value argop4). Fits argop4 op) v.ops.values = subst (λ (x : CompoundValue). AllByRecursion (λ (op : Value argop4). Fits argop4 op) x.ops.values) same (ops_fit m has) in
    let all = subst (λ (l : List (Value argop4)). AllByRecursion (λ (op : Value argop4). Fits argop4 op) l) reads.ops fit in
    record { offset = all.1.1.0.1.0; few = all.1.1.0.1.1 }
