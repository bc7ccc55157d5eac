-- The laws of recalls as records, and of their answers.
use Rattle.std.specs.Prelude.{◌≡◌, ℕ, ◌^◌, ◌<◌, false, List, [], ◌∷◌, Ok}
use Rattle.std.proofs.Common.{inl, inr}
use Rattle.ff_xdr.specs.Form.{Value, Fits, spelling}
use Rattle.ff_xdr.specs.Arms.{arm}
use Rattle.ff_xdr.specs.Reading.{reading, whole}
use Rattle.rpc_record.specs.Calls.{RpcCall, call_at}
use Rattle.rpc_record.specs.Replies.{RpcReply, auth_none, success, reply_bytes, reply_at}
use Rattle.cluster_model.specs.declared.ids.FileId.{FileId}
use Rattle.nfs4_types.specs.declared.stateid.Stateid.{Stateid}
use Rattle.nfs4_session.specs.declared.back.BackCall.{BackCall}
use Rattle.nfs4_session_ops.specs.CbSequence.{cb_sequence4_ok}
use Rattle.nfs4_compound.specs.CbResults.{cb_resop4}
use Rattle.nfs4_compound.specs.Compounds.{cb_compound4_args, cb_compound4_res}
use Rattle.recall_calls.specs.RecallCalls.{recall_ops, recall_rpc_call, recall_bytes}
use Rattle.recall_calls.specs.RecallAnswers.{recall_status, settles}

-- ---- recalls

pub record RecallMessage : Type 0 where
  pub xid : ℕ
  pub call : BackCall
  pub file : FileId
  pub stateid : Stateid

abbrev pub message_bytes : RecallMessage → List ℕ
message_bytes m = recall_bytes m.xid m.call m.file m.stateid

abbrev pub message_rpc_call : RecallMessage → RpcCall
message_rpc_call m = recall_rpc_call m.xid m.call m.file m.stateid

-- each number is in its range, and each length within its maximum
pub record HasRecallRecord (m : RecallMessage) : Type 0 where
  pub xid_fits : m.xid < 2 ^ 32
  pub program_fits : m.call.program < 2 ^ 32
  pub ops_fit : Fits cb_compound4_args ([], (1, (0, recall_ops m.call m.file m.stateid)))

-- The record is read as this call, and its arguments as exactly these operations, with nothing behind them.
pub record IsReadAsRecall (m : RecallMessage) : Type 0 where
  pub header : call_at (message_bytes m) ≡ Ok (message_rpc_call m)
  pub operations : whole (message_rpc_call m).args (reading cb_compound4_args (message_rpc_call m).args 0) ≡ Ok ([], (1, (0, recall_ops m.call m.file m.stateid)))

abbrev pub IsRecallUnderstood : RecallMessage → Type 0
IsRecallUnderstood m = HasRecallRecord m → IsReadAsRecall m

-- records that are equal have one number, one program and the same operations
pub record AskTheSame (m n : RecallMessage) : Type 0 where
  pub xid : m.xid ≡ n.xid
  pub program : m.call.program ≡ n.call.program
  pub operations : recall_ops m.call m.file m.stateid ≡ recall_ops n.call n.file n.stateid

abbrev pub AreRecallsApart : RecallMessage → RecallMessage → Type 0
AreRecallsApart m n = HasRecallRecord m → HasRecallRecord n → message_bytes m ≡ message_bytes n → AskTheSame m n

-- ---- answers

-- what a client answers to a recall: it agrees, it has no such layout, or another status with any results
pub data SaysStatus : Value cb_compound4_res → Type 0 where
  SaysOk : (tag : List ℕ) (done : Value cb_sequence4_ok) → SaysStatus (0, (tag, arm 11 cb_resop4 (inl done) ∷ arm 5 cb_resop4 (inl tt) ∷ []))
  SaysNoLayout : (tag : List ℕ) (done : Value cb_sequence4_ok) → SaysStatus (10060, (tag, arm 11 cb_resop4 (inl done) ∷ arm 5 cb_resop4 (inr 10060) ∷ []))
  SaysOther : (status : ℕ) (tag : List ℕ) (results : List (Value cb_resop4)) → settles status ≡ false → SaysStatus (status, (tag, results))

abbrev pub recall_reply : ℕ → Value cb_compound4_res → RpcReply
recall_reply xid v = record { xid = xid; verf = auth_none; stat = success; results = spelling cb_compound4_res v }

-- the reply's record is read again, and comes to the compound's status
pub record IsReadAsStatus (xid : ℕ) (v : Value cb_compound4_res) : Type 0 where
  pub record_again : reply_at (reply_bytes (recall_reply xid v)) ≡ Ok (recall_reply xid v)
  pub status : recall_status success (spelling cb_compound4_res v) ≡ v.0

abbrev pub IsStatusTold : ℕ → Value cb_compound4_res → Type 0
IsStatusTold xid v = xid < 2 ^ 32 → SaysStatus v → Fits cb_compound4_res v → IsReadAsStatus xid v
