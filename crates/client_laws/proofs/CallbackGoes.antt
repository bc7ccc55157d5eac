-- What a callback leaves of a client.
use Rattle.std.proofs.Common.{◌≡◌, ℕ, Bool, true, false, List, [], ◌∷◌, Option, Some, None, Result, Ok, Err, refl, subst, inl, inr}
use Rattle.std.specs.Prelude.{◌==◌, nat_lt, bytes_eq, if◌then◌else◌}
use Rattle.std.proofs.lemmas.Option.{none-some, same_Some}
use Rattle.ff_xdr.specs.declared.error.XdrError.{XdrError}
use Rattle.ff_xdr.specs.Form.{Value}
use Rattle.rpc_record.specs.declared.call.CallFault.{CallFault}
use Rattle.rpc_record.specs.declared.call.CallFault.TheVariants.{NotACall, RpcVersion, Bad}
use Rattle.rpc_record.specs.Calls.{RpcCall}
use Rattle.rpc_record.specs.Replies.{proc_unavail, prog_unavail, prog_mismatch}
use Rattle.nfs4_types.specs.declared.status.Stat4.TheVariants as stat
use Rattle.nfs4_session_ops.specs.CbSequence.{cb_sequence4_args}
use Rattle.nfs4_session.specs.declared.cb_slot.CbBegin.{CbBegin}
use Rattle.nfs4_session.specs.declared.cb_slot.CbBegin.TheVariants.{New, Again, Misordered}
use Rattle.nfs4_session.specs.CallbackSlot.{cb_begin}
use Rattle.nfs4_compound.specs.declared.stop.Stop.{Stop}
use Rattle.nfs4_compound.specs.CbArgs.{cb_argop4}
use Rattle.nfs4_compound.specs.Compounds.{CbCompoundValue, cb_compound_at}
use Rattle.nfs4_compound.specs.Operations.{rest_of_stop}
use Rattle.client_state.specs.declared.tie.OwnSession.{OwnSession}
use Rattle.client_state.specs.declared.tie.Tie.{Tie}
use Rattle.client_state.specs.declared.tie.Tie.TheVariants.{NoClient, HasClient, HasSession}
use Rattle.client_state.specs.declared.layout.Layout.{Layout}
use Rattle.client_state.specs.ClientStates.{ClientValue}
use Rattle.client_state.specs.ClientQueue.{with_layout, ending}
use Rattle.client_callbacks.specs.Callbacks.{CbJudged, Recall, CbAnswer, CbReply, is_state_of, recall_of, recalled_state, recall_step, is_ok, cb_behind, cb_begun, cb_in_session, cb_first, cb_walked, cb_compound_answer, cb_null_answer, cb_procedure_answer, cb_call_answer, cb_results, cb_refused, callback_of, leaves, behind_result, given, cb_recall_result, refused_result}
use Rattle.client_laws.specs.ClientHistory.{HistoryItem}
use Rattle.client_laws.proofs.QueueGoes.{ending_client}
use Rattle.client_laws.proofs.Stands.{Stands}

if_stands : (past : List HistoryItem) (b : Bool) (x y : CbJudged) → Stands past x.client → Stands past y.client → Stands past (if b then x else y).client
if_stands past true x y first second = first
if_stands past false x y first second = second

-- a recall
recall_stands : (past : List HistoryItem) (c : ClientValue) (layout : Option Layout) (state : Option (List ℕ)) → c.layout ≡ layout → Stands past c → Stands past (recall_of layout state c).client
recall_stands past c None state at s = s
recall_stands past c (Some l) state at s = by_test (is_state_of state l.stateid)
  where
    by_test : (b : Bool)
        → (let r : Recall = if b then record { status = stat.Ok; client = with_layout c (ending l) } else record { status = stat.NoMatchingLayout; client = c } in Stands past r.client)
    by_test true = ending_client past c l at s
    by_test false = s

step_stands : (past : List HistoryItem) (r : Recall) (next : ClientValue → CbJudged) → Stands past r.client → ((d : ClientValue) → Stands past d → Stands past (next d).client) → Stands past (recall_step r next).client
step_stands past r next s further = by_test (is_ok r.status)
  where
    by_test : (b : Bool) → Stands past (if b then behind_result (cb_recall_result r.status) (next r.client) else leaves (refused_result r.status (cb_recall_result r.status)) r.client).client
    by_test true = further r.client s
    by_test false = s

behind_stands : (past : List HistoryItem) (ops : List (Value cb_argop4)) (st : Stop) (c : ClientValue) → Stands past c → Stands past (cb_behind ops st c).client
behind_stands past [] st c s = s
behind_stands past (inl (kind, (iomode, (changed, recall))) ∷ ops) st c s =
    step_stands past (recall_of c.layout (recalled_state recall) c) (λ d. cb_behind ops st d) (recall_stands past c c.layout (recalled_state recall) refl s) (λ d. behind_stands past ops st d)
behind_stands past (inr (inl sequence) ∷ ops) st c s = s
behind_stands past (inr (inr v) ∷ ops) st c s = absurd v

begun_stands : (past : List HistoryItem) (session : OwnSession) (number : ℕ) (begin : CbBegin) (ops : List (Value cb_argop4)) (st : Stop) (c : ClientValue) → Stands past c → Stands past (cb_begun session number begin ops st c).client
begun_stands past session number New ops st c s = behind_stands past ops st c s
begun_stands past session number (Again status) ops st c s = s
begun_stands past session number Misordered ops st c s = s

session_stands : (past : List HistoryItem) (tie : Tie) (args : Value cb_sequence4_args) (ops : List (Value cb_argop4)) (st : Stop) (c : ClientValue) → Stands past c → Stands past (cb_in_session tie args ops st c).client
session_stands past (HasSession t) (session, (number, (slot, rest))) ops st c s =
    if_stands past (bytes_eq session t.id.0) _ _ (if_stands past (slot == 0) (cb_begun t number (cb_begin t.callbacks number) ops st c) _ (begun_stands past t number (cb_begin t.callbacks number) ops st c s) s) s
session_stands past NoClient args ops st c s = s
session_stands past (HasClient clientid sequence) args ops st c s = s

first_stands : (past : List HistoryItem) (ops : List (Value cb_argop4)) (st : Stop) (c : ClientValue) → Stands past c → Stands past (cb_first ops st c).client
first_stands past [] st c s = s
first_stands past (inl recall ∷ ops) st c s = s
first_stands past (inr (inl sequence) ∷ ops) st c s = session_stands past c.tie sequence ops st c s
first_stands past (inr (inr v) ∷ ops) st c s = absurd v

walked_stands : (past : List HistoryItem) (cb : CbCompoundValue) (rest : Option ℕ) (c : ClientValue) → Stands past c → Stands past (cb_walked cb rest c).client
walked_stands past cb (Some rest) c s = s
walked_stands past cb None c s = first_stands past cb.ops.values cb.ops.stop c s

answer_if : (past : List HistoryItem) (b : Bool) (x y : CbAnswer) → Stands past x.client → Stands past y.client → Stands past (if b then x else y).client
answer_if past true x y first second = first
answer_if past false x y first second = second

compound_stands : (past : List HistoryItem) (r : Result CbCompoundValue XdrError) (c : ClientValue) → Stands past c → Stands past (cb_compound_answer r c).client
compound_stands past (Err e) c s = s
compound_stands past (Ok cb) c s =
    answer_if past (cb.minorversion == 1) _ _ (answer_if past (nat_lt 16 cb.count) (cb_results cb.tag (leaves (given stat.TooManyOps []) c)) (cb_walked cb (rest_of_stop cb.ops.stop) c) s (walked_stands past cb (rest_of_stop cb.ops.stop) c s)) s

null_stands : (past : List HistoryItem) (args : List ℕ) (c : ClientValue) → Stands past c → Stands past (cb_null_answer args c).client
null_stands past [] c s = s
null_stands past (b ∷ bs) c s = s

procedure_stands : (past : List HistoryItem) (call : RpcCall) (c : ClientValue) → Stands past c → Stands past (cb_procedure_answer call c).client
procedure_stands past call c s =
    answer_if past (call.procedure == 0) (cb_null_answer call.args c) _ (null_stands past call.args c s) (answer_if past (call.procedure == 1) (cb_compound_answer (cb_compound_at call.args) c) (cb_refused proc_unavail c) (compound_stands past (cb_compound_at call.args) c s) s)

call_stands : (past : List HistoryItem) (call : RpcCall) (c : ClientValue) → Stands past c → Stands past (cb_call_answer call c).client
call_stands past call c s =
    answer_if past (call.program == 1073741824) _ (cb_refused prog_unavail c) (answer_if past (call.version == 1) (cb_procedure_answer call c) (cb_refused (prog_mismatch 1 1) c) (procedure_stands past call c s) s) s

pub callback_stands : (past : List HistoryItem) (r : Result RpcCall CallFault) (c : ClientValue) (k : CbReply) → callback_of r c ≡ Some k → Stands past c → Stands past k.client
callback_stands past (Ok call) c k is s = subst (λ (x : CbReply). Stands past x.client) (same_Some _ k is) (call_stands past call c s)
callback_stands past (Err (RpcVersion xid)) c k is s = subst (λ (x : CbReply). Stands past x.client) (same_Some _ k is) s
callback_stands past (Err (Bad xid e)) c k is s = subst (λ (x : CbReply). Stands past x.client) (same_Some _ k is) s
callback_stands past (Err NotACall) c k is s = absurd (none-some k is)
