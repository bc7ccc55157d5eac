-- What a callback keeps.
use Rattle.std.proofs.Common.{◌≡◌, ℕ, Bool, true, false, List, [], ◌∷◌, Option, Some, None, Result, Ok, Err, refl, subst, inl, inr}
use Rattle.std.specs.Prelude.{◌==◌, nat_lt, bytes_eq, if◌then◌else◌}
use Rattle.std.proofs.lemmas.Option.{none-some, same_Some}
use Rattle.ff_xdr.specs.declared.error.XdrError.{XdrError}
use Rattle.ff_xdr.specs.Form.{Value}
use Rattle.rpc_record.specs.declared.call.CallFault.{CallFault}
use Rattle.rpc_record.specs.declared.call.CallFault.TheVariants.{NotACall, RpcVersion, Bad}
use Rattle.rpc_record.specs.Calls.{RpcCall}
use Rattle.rpc_record.specs.Replies.{proc_unavail, prog_unavail, prog_mismatch}
use Rattle.nfs4_types.specs.declared.status.Stat4.TheVariants as stat
use Rattle.nfs4_session_ops.specs.CbSequence.{cb_sequence4_args}
use Rattle.nfs4_session.specs.declared.cb_slot.CbBegin.{CbBegin}
use Rattle.nfs4_session.specs.declared.cb_slot.CbBegin.TheVariants.{New, Again, Misordered}
use Rattle.nfs4_session.specs.CallbackSlot.{cb_begin, after_cb_begin}
use Rattle.nfs4_compound.specs.declared.stop.Stop.{Stop}
use Rattle.nfs4_compound.specs.CbArgs.{cb_argop4}
use Rattle.nfs4_compound.specs.Compounds.{CbCompoundValue, cb_compound_at}
use Rattle.nfs4_compound.specs.Operations.{rest_of_stop}
use Rattle.client_state.specs.declared.tie.OwnSession.{OwnSession}
use Rattle.client_state.specs.declared.tie.Tie.{Tie}
use Rattle.client_state.specs.declared.tie.Tie.TheVariants.{NoClient, HasClient, HasSession}
use Rattle.client_state.specs.declared.layout.Layout.{Layout}
use Rattle.client_state.specs.ClientStates.{ClientValue}
use Rattle.client_state.specs.ClientQueue.{with_layout, ending}
use Rattle.client_callbacks.specs.Callbacks.{CbJudged, Recall, CbAnswer, CbReply, is_state_of, recall_of, recalled_state, recall_step, is_ok, cb_behind, cb_begun, cb_in_session, cb_first, cb_walked, cb_compound_answer, cb_null_answer, cb_procedure_answer, cb_call_answer, cb_results, cb_refused, callback_of, leaves, behind_result, given, cb_recall_result, refused_result, kept_of_recall, recall_status}
use Rattle.client_laws.specs.ClientHistory.{ClientInput, HistoryItem}
use Rattle.client_records.proofs.Cases.{IsCallOf, Cases}
use Rattle.client_records.proofs.QueueKeeps.{Stays}

module _ (B : List HistoryItem → ClientValue → Type 0) (Q : ClientInput → Type 0) (I : List HistoryItem → ClientValue → Type 0) (P : List HistoryItem → HistoryItem → Type 0) (k : Cases B Q I P) (past : List HistoryItem) where
  if_keeps : (J : ClientValue → Type 0) (b : Bool) (x y : CbJudged) → J x.client → J y.client → J (if b then x else y).client
  if_keeps J true x y first second = first
  if_keeps J false x y first second = second

  -- a recall: the tie stays
  recall_keeps : (tie : Tie) (c : ClientValue) (layout : Option Layout) (state : Option (List ℕ)) → c.layout ≡ layout → Stays I past c → c.tie ≡ tie → Stays I past (recall_of layout state c).client × ((recall_of layout state c).client.tie ≡ tie)
  recall_keeps tie c None state at i same = (i, same)
  recall_keeps tie c (Some l) state at i same = by_test (is_state_of state l.stateid)
    where
      by_test : (b : Bool)
          → (let r : Recall = if b then record { status = stat.Ok; client = with_layout c (ending l) } else record { status = stat.NoMatchingLayout; client = c } in Stays I past r.client × (r.client.tie ≡ tie))
      by_test true = ((k.ends past c l at i.0, i.1), same)
      by_test false = (i, same)

  step_keeps : (tie : Tie) (r : Recall) (next : ClientValue → CbJudged) → Stays I past r.client × (r.client.tie ≡ tie) → ((d : ClientValue) → Stays I past d → d.tie ≡ tie → Stays I past (next d).client × ((next d).client.tie ≡ tie))
      → Stays I past (recall_step r next).client × ((recall_step r next).client.tie ≡ tie)
  step_keeps tie r next i further =
      if_keeps (λ d. (I past d × (d.has_left ≡ false)) × (d.tie ≡ tie)) (is_ok r.status) (behind_result (cb_recall_result r.status) (next r.client)) (leaves (refused_result r.status (cb_recall_result r.status)) r.client) (further r.client i.0 i.1) i

  behind_keeps : (tie : Tie) (ops : List (Value cb_argop4)) (st : Stop) (c : ClientValue) → Stays I past c → c.tie ≡ tie → Stays I past (cb_behind ops st c).client × ((cb_behind ops st c).client.tie ≡ tie)
  behind_keeps tie [] st c i same = (i, same)
  behind_keeps tie (inl (kind, (iomode, (changed, recall))) ∷ ops) st c i same =
      step_keeps tie (recall_of c.layout (recalled_state recall) c) (λ d. cb_behind ops st d) (recall_keeps tie c c.layout (recalled_state recall) refl i same) (λ d. behind_keeps tie ops st d)
  behind_keeps tie (inr (inl sequence) ∷ ops) st c i same = (i, same)
  behind_keeps tie (inr (inr v) ∷ ops) st c i same = absurd v

  begun_keeps : (session : OwnSession) (number : ℕ) (begin : CbBegin) (ops : List (Value cb_argop4)) (st : Stop) (c : ClientValue) → c.tie ≡ HasSession session → Stays I past c → Stays I past (cb_begun session number begin ops st c).client
  begun_keeps session number New ops st c tie i =
      let behind : Stays I past (cb_behind ops st c).client × ((cb_behind ops st c).client.tie ≡ HasSession session) = behind_keeps (HasSession session) ops st c i tie in
      (k.callbacks past (cb_behind ops st c).client session (kept_of_recall (recall_status ops c) (after_cb_begin session.callbacks number New)) behind.1 behind.0.0, behind.0.1)
  begun_keeps session number (Again status) ops st c tie i = i
  begun_keeps session number Misordered ops st c tie i = i

  session_keeps : (tie : Tie) (args : Value cb_sequence4_args) (ops : List (Value cb_argop4)) (st : Stop) (c : ClientValue) → c.tie ≡ tie → Stays I past c → Stays I past (cb_in_session tie args ops st c).client
  session_keeps (HasSession t) (session, (number, (slot, rest))) ops st c tie i =
      if_keeps (λ d. I past d × (d.has_left ≡ false)) (bytes_eq session t.id.0) _ _
      (if_keeps (λ d. I past d × (d.has_left ≡ false)) (slot == 0) (cb_begun t number (cb_begin t.callbacks number) ops st c) _ (begun_keeps t number (cb_begin t.callbacks number) ops st c tie i) i) i
  session_keeps NoClient args ops st c tie i = i
  session_keeps (HasClient clientid sequence) args ops st c tie i = i

  first_keeps : (ops : List (Value cb_argop4)) (st : Stop) (c : ClientValue) → Stays I past c → Stays I past (cb_first ops st c).client
  first_keeps [] st c i = i
  first_keeps (inl recall ∷ ops) st c i = i
  first_keeps (inr (inl sequence) ∷ ops) st c i = session_keeps c.tie sequence ops st c refl i
  first_keeps (inr (inr v) ∷ ops) st c i = absurd v

  walked_keeps : (cb : CbCompoundValue) (rest : Option ℕ) (c : ClientValue) → Stays I past c → Stays I past (cb_walked cb rest c).client
  walked_keeps cb (Some rest) c i = i
  walked_keeps cb None c i = first_keeps cb.ops.values cb.ops.stop c i

  answer_if : (b : Bool) (x y : CbAnswer) → Stays I past x.client → Stays I past y.client → Stays I past (if b then x else y).client
  answer_if true x y first second = first
  answer_if false x y first second = second

  compound_keeps : (r : Result CbCompoundValue XdrError) (c : ClientValue) → Stays I past c → Stays I past (cb_compound_answer r c).client
  compound_keeps (Err e) c i = i
  compound_keeps (Ok cb) c i =
      answer_if (cb.minorversion == 1) _ _ (answer_if (nat_lt 16 cb.count) (cb_results cb.tag (leaves (given stat.TooManyOps []) c)) (cb_walked cb (rest_of_stop cb.ops.stop) c) i (walked_keeps cb (rest_of_stop cb.ops.stop) c i)) i

  null_keeps : (args : List ℕ) (c : ClientValue) → Stays I past c → Stays I past (cb_null_answer args c).client
  null_keeps [] c i = i
  null_keeps (b ∷ bs) c i = i

  procedure_keeps : (call : RpcCall) (c : ClientValue) → Stays I past c → Stays I past (cb_procedure_answer call c).client
  procedure_keeps call c i =
      answer_if (call.procedure == 0) (cb_null_answer call.args c) _ (null_keeps call.args c i) (answer_if (call.procedure == 1) (cb_compound_answer (cb_compound_at call.args) c) (cb_refused proc_unavail c) (compound_keeps (cb_compound_at call.args) c i) i)

  call_keeps : (call : RpcCall) (c : ClientValue) → Stays I past c → Stays I past (cb_call_answer call c).client
  call_keeps call c i =
      answer_if (call.program == 1073741824) _ (cb_refused prog_unavail c) (answer_if (call.version == 1) (cb_procedure_answer call c) (cb_refused (prog_mismatch 1 1) c) (procedure_keeps call c i) i) i

  -- what it leaves, and the number of the reply
  pub callback_keeps : (r : Result RpcCall CallFault) (c : ClientValue) (b : CbReply) → callback_of r c ≡ Some b → Stays I past c → Stays I past b.client × IsCallOf r b.reply.xid
  callback_keeps (Ok call) c b is i = subst (λ (x : CbReply). Stays I past x.client × IsCallOf (Ok call) x.reply.xid) (same_Some _ b is) (call_keeps call c i, refl)
  callback_keeps (Err (RpcVersion xid)) c b is i = subst (λ (x : CbReply). Stays I past x.client × IsCallOf (Err (RpcVersion xid)) x.reply.xid) (same_Some _ b is) (i, refl)
  callback_keeps (Err (Bad xid e)) c b is i = subst (λ (x : CbReply). Stays I past x.client × IsCallOf (Err (Bad xid e)) x.reply.xid) (same_Some _ b is) (i, refl)
  callback_keeps (Err NotACall) c b is i = absurd (none-some b is)
