-- The records of recalls are read again, and told apart; the reply that says a status comes to it.
use Rattle.std.proofs.Common.{◌≡◌, ℕ, ◌+◌, false, ltb, List, [], length, Result, Ok, refl, sym, ap, subst, ◌∙◌, arith, append-nil}
use Rattle.std.specs.Prelude.{IsTrue}
use Rattle.std.proofs.lemmas.Bool.{le-ltb}
use Rattle.ff_xdr.specs.declared.error.XdrError.{XdrError}
use Rattle.ff_xdr.specs.Form.{Form, Value, Fits, is_sound, spelling}
use Rattle.ff_xdr.specs.Reading.{Read, reading, whole}
use Rattle.ff_xdr.proofs.Again.{again}
use Rattle.rpc_record.specs.declared.call.CallFault.{CallFault}
use Rattle.rpc_record.specs.Calls.{RpcCall, call_at}
use Rattle.rpc_record.specs.Replies.{RpcReply}
use Rattle.rpc_record.specs.Laws.{IsCallReadAgain, IsReplyReadAgain}
use Rattle.nfs4_compound.specs.CbArgs.{cb_argop4}
use Rattle.nfs4_compound.specs.CbResults.{cb_resop4}
use Rattle.nfs4_compound.specs.Compounds.{cb_compound4_args, cb_compound4_res}
use Rattle.recall_calls.specs.RecallCalls.{recall_args, recall_ops}
use Rattle.recall_calls.specs.RecallAnswers.{compound_status, read_status, settles}
use Rattle.recall_calls.specs.RecallCallLaws.{RecallMessage, message_rpc_call, IsRecallUnderstood, AreRecallsApart, SaysStatus, SaysOk, SaysNoLayout, SaysOther, recall_reply, IsStatusTold}

-- ---- a value that is all the bytes

whole_all : {M : Type 0} (bytes : List ℕ) (x : M × ℕ) (r : Read M) → r ≡ Ok x → x.1 ≡ length bytes → whole bytes r ≡ Ok x.0
whole_all bytes x r is end =
    let left : ltb x.1 (length bytes) ≡ false = le-ltb _ _ (omega (arith, end)) in
    rw is (rw left refl)

whole_spelled : (form : Form) → IsTrue (is_sound form) → (v : Value form) → Fits form v → whole (spelling form v) (reading form (spelling form v) 0) ≡ Ok v
whole_spelled form sound v fits =
    let text = spelling form v in
    let size : 0 + length text ≡ length text = omega arith in
    let read : reading form text 0 ≡ Ok (v, 0 + length text) = subst (λ (t : List ℕ). reading form t 0 ≡ Ok (v, 0 + length text)) (append-nil text) (again form sound v [] [] fits) in
    whole_all text (v, 0 + length text) (reading form text 0) read size

ops_again : (ops : List (Value cb_argop4)) → Fits cb_compound4_args ([], (1, (0, ops))) → whole (recall_args ops) (reading cb_compound4_args (recall_args ops) 0) ≡ Ok ([], (1, (0, ops)))
unfolding recall_args
ops_again ops fits = whole_spelled cb_compound4_args refl ([], (1, (0, ops))) fits

abbrev found : {A : Type 0} (E : Type 0) → A → Result A E
found E a = Ok a

ok_same : {A : Type 0} (E : Type 0) (a b : A) → found E a ≡ found E b → a ≡ b
ok_same E a b e = cc

module _ (header : (c : RpcCall) → IsCallReadAgain c) where
  pub understood : (m : RecallMessage) → IsRecallUnderstood m
  understood m = λ h. record {
    header = header (message_rpc_call m) h.xid_fits (h.program_fits, (omega arith, (omega arith, ((omega arith, omega arith), (omega arith, omega arith)))));
    operations = ops_again (recall_ops m.call m.file m.stateid) h.ops_fit;
  }

  pub told_apart : (m n : RecallMessage) → AreRecallsApart m n
  told_apart m n = λ h k e.
      let a = understood m h in
      let b = understood n k in
      let same : message_rpc_call m ≡ message_rpc_call n = ok_same CallFault (message_rpc_call m) (message_rpc_call n) (sym a.header ∙ ap call_at e ∙ b.header) in
      let values : ([], (1, (0, recall_ops m.call m.file m.stateid))) ≡ ([], (1, (0, recall_ops n.call n.file n.stateid))) =
      ok_same {A = Value cb_compound4_args} XdrError _ _ (sym a.operations ∙ ap (λ (r : RpcCall). whole r.args (reading cb_compound4_args r.args 0)) same ∙ b.operations) in
      record {
        xid = ap (λ (r : RpcCall). r.xid) same;
        program = ap (λ (r : RpcCall). r.program) same;
        operations = ap (λ (v : Value cb_compound4_args). v.1.1.1) values;
      }

-- ---- answers

stays : (status : ℕ) (results : List (Value cb_resop4)) → settles status ≡ false → compound_status status results ≡ status
stays status results e = rw e refl

says : (v : Value cb_compound4_res) → SaysStatus v → read_status (Ok v) ≡ v.0
says _ (SaysOk tag done) = refl
says _ (SaysNoLayout tag done) = refl
says _ (SaysOther status tag results other) = stays status results other

pub told : (header : (r : RpcReply) → IsReplyReadAgain r) (xid : ℕ) (v : Value cb_compound4_res) → IsStatusTold xid v
told header xid v = λ small s fits. record {
  record_again = header (recall_reply xid v) ((small, (refl, ((omega arith, omega arith), tt))), tt, tt);
  status = ap read_status (whole_spelled cb_compound4_res refl v fits) ∙ says v s;
}
