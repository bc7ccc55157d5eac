-- The records of calls are read again, and told apart.
use Rattle.std.proofs.Common.{◌≡◌, ℕ, ◌+◌, false, ltb, List, [], length, Result, Ok, refl, sym, ap, subst, ◌∙◌, arith, append-nil}
use Rattle.std.specs.Prelude.{IsTrue}
use Rattle.std.proofs.lemmas.Bool.{le-ltb}
use Rattle.ff_xdr.specs.declared.error.XdrError.{XdrError}
use Rattle.ff_xdr.specs.Form.{Form, Value, Fits, is_sound, spelling}
use Rattle.ff_xdr.specs.Reading.{Read, reading, whole}
use Rattle.ff_xdr.proofs.Again.{again}
use Rattle.rpc_record.specs.declared.call.CallFault.{CallFault}
use Rattle.rpc_record.specs.Calls.{RpcCall, call_at}
use Rattle.rpc_record.specs.Laws.{IsCallReadAgain}
use Rattle.nfs4_compound.specs.Args.{argop4}
use Rattle.nfs4_compound.specs.Compounds.{compound4_args}
use Rattle.client_compounds.specs.MdsArguments.{compound_args}
use Rattle.client_mds_calls.specs.MdsCompounds.{mds_ops}
use Rattle.client_mds_calls.specs.MdsCallLaws.{MdsMessage, compound_message_call, IsCompoundUnderstood, AreCompoundsApart}

-- ---- a value that is all the bytes

whole_all : {M : Type 0} (bytes : List ℕ) (x : M × ℕ) (r : Read M) → r ≡ Ok x → x.1 ≡ length bytes → whole bytes r ≡ Ok x.0
whole_all bytes x r is end =
    let left : ltb x.1 (length bytes) ≡ false = le-ltb _ _ (omega (arith, end)) in
    rw is (rw left refl)

whole_spelled : (form : Form) → IsTrue (is_sound form) → (v : Value form) → Fits form v → whole (spelling form v) (reading form (spelling form v) 0) ≡ Ok v
whole_spelled form sound v fits =
    let text = spelling form v in
    let size : 0 + length text ≡ length text = omega arith in
    let read : reading form text 0 ≡ Ok (v, 0 + length text) = subst (λ (t : List ℕ). reading form t 0 ≡ Ok (v, 0 + length text)) (append-nil text) (again form sound v [] [] fits) in
    whole_all text (v, 0 + length text) (reading form text 0) read size

ops_again : (ops : List (Value argop4)) → Fits compound4_args ([], (1, ops)) → whole (compound_args ops) (reading compound4_args (compound_args ops) 0) ≡ Ok ([], (1, ops))
unfolding compound_args
ops_again ops fits = whole_spelled compound4_args refl ([], (1, ops)) fits

abbrev found : {A : Type 0} (E : Type 0) → A → Result A E
found E a = Ok a

ok_same : {A : Type 0} (E : Type 0) (a b : A) → found E a ≡ found E b → a ≡ b
ok_same E a b e = cc

module _ (header : (c : RpcCall) → IsCallReadAgain c) where
  pub understood : (m : MdsMessage) → IsCompoundUnderstood m
  understood m = λ h. record {
    header = header (compound_message_call m) h.xid_fits (omega arith, (omega arith, (omega arith, ((omega arith, omega arith), (omega arith, omega arith)))));
    operations = ops_again (mds_ops m.owner m.call) h.ops_fit;
  }

  pub told_apart : (m n : MdsMessage) → AreCompoundsApart m n
  told_apart m n = λ h k e.
      let a = understood m h in
      let b = understood n k in
      let same : compound_message_call m ≡ compound_message_call n = ok_same CallFault (compound_message_call m) (compound_message_call n) (sym a.header ∙ ap call_at e ∙ b.header) in
      let values : ([], (1, mds_ops m.owner m.call)) ≡ ([], (1, mds_ops n.owner n.call)) =
      ok_same {A = Value compound4_args} XdrError _ _ (sym a.operations ∙ ap (λ (r : RpcCall). whole r.args (reading compound4_args r.args 0)) same ∙ b.operations) in
      record {
        xid = ap (λ (r : RpcCall). r.xid) same;
        operations = ap (λ (v : Value compound4_args). v.1.1) values;
      }
