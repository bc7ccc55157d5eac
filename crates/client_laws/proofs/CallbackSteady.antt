-- A callback leaves a layout that is there, and a session.
use Rattle.std.proofs.Common.{◌≡◌, ℕ, Bool, true, false, List, [], ◌∷◌, Option, Some, None, Result, Ok, Err, refl, sym, ap, subst, ◌∙◌, inl, inr}
use Rattle.std.specs.Prelude.{◌==◌, nat_lt, bytes_eq, if◌then◌else◌}
use Rattle.std.proofs.lemmas.Option.{none-some, same_Some}
use Rattle.ff_xdr.specs.declared.error.XdrError.{XdrError}
use Rattle.ff_xdr.specs.Form.{Value}
use Rattle.rpc_record.specs.declared.call.CallFault.{CallFault}
use Rattle.rpc_record.specs.declared.call.CallFault.TheVariants.{NotACall, RpcVersion, Bad}
use Rattle.rpc_record.specs.Calls.{RpcCall}
use Rattle.rpc_record.specs.Replies.{proc_unavail, prog_unavail, prog_mismatch}
use Rattle.nfs4_types.specs.declared.status.Stat4.TheVariants as stat
use Rattle.nfs4_session_ops.specs.CbSequence.{cb_sequence4_args}
use Rattle.nfs4_session.specs.declared.cb_slot.CbBegin.{CbBegin}
use Rattle.nfs4_session.specs.declared.cb_slot.CbBegin.TheVariants.{New, Again, Misordered}
use Rattle.nfs4_session.specs.CallbackSlot.{cb_begin}
use Rattle.nfs4_compound.specs.declared.stop.Stop.{Stop}
use Rattle.nfs4_compound.specs.CbArgs.{cb_argop4}
use Rattle.nfs4_compound.specs.Compounds.{CbCompoundValue, cb_compound_at}
use Rattle.nfs4_compound.specs.Operations.{rest_of_stop}
use Rattle.client_state.specs.declared.tie.OwnSession.{OwnSession}
use Rattle.client_state.specs.declared.tie.Tie.{Tie}
use Rattle.client_state.specs.declared.tie.Tie.TheVariants.{NoClient, HasClient, HasSession}
use Rattle.client_state.specs.declared.layout.Layout.{Layout}
use Rattle.client_state.specs.ClientStates.{ClientValue}
use Rattle.client_state.specs.ClientQueue.{with_layout, ending}
use Rattle.client_callbacks.specs.Callbacks.{CbJudged, Recall, CbAnswer, CbReply, is_state_of, recall_of, recalled_state, recall_step, is_ok, cb_behind, cb_begun, cb_in_session, cb_first, cb_walked, cb_compound_answer, cb_null_answer, cb_procedure_answer, cb_call_answer, cb_results, cb_refused, callback_of, leaves, behind_result, given, cb_recall_result, refused_result}
use Rattle.client_answers.specs.ClientAnswers.{has_session}
use Rattle.client_laws.proofs.Steady.{Steady, steady_same, steady_then, steady_layout, ends_same}

module _ (first : ClientValue) where
  -- it is as it was in this
  abbrev Kept : ClientValue → Type 0
  Kept d = Steady first d

  if_steady : (b : Bool) (x y : CbJudged) → Kept x.client → Kept y.client → Kept (if b then x else y).client
  if_steady true x y once other = once
  if_steady false x y once other = other

  -- a recall
  recall_steady : (c : ClientValue) (layout : Option Layout) (state : Option (List ℕ)) → c.layout ≡ layout → Kept c → Kept (recall_of layout state c).client
  recall_steady c None state at s = s
  recall_steady c (Some l) state at s = by_test (is_state_of state l.stateid)
    where
      by_test : (b : Bool)
          → (let r : Recall = if b then record { status = stat.Ok; client = with_layout c (ending l) } else record { status = stat.NoMatchingLayout; client = c } in Kept r.client)
      by_test true = steady_then first c (with_layout c (ending l)) s (steady_layout c l (ending l) at (ends_same l))
      by_test false = s

  step_steady : (r : Recall) (next : ClientValue → CbJudged) → Kept r.client → ((d : ClientValue) → Kept d → Kept (next d).client) → Kept (recall_step r next).client
  step_steady r next s further = by_test (is_ok r.status)
    where
      by_test : (b : Bool) → Kept (if b then behind_result (cb_recall_result r.status) (next r.client) else leaves (refused_result r.status (cb_recall_result r.status)) r.client).client
      by_test true = further r.client s
      by_test false = s

  behind_steady : (ops : List (Value cb_argop4)) (st : Stop) (c : ClientValue) → Kept c → Kept (cb_behind ops st c).client
  behind_steady [] st c s = s
  behind_steady (inl (kind, (iomode, (changed, recall))) ∷ ops) st c s =
      step_steady (recall_of c.layout (recalled_state recall) c) (λ d. cb_behind ops st d) (recall_steady c c.layout (recalled_state recall) refl s) (λ d. behind_steady ops st d)
  behind_steady (inr (inl sequence) ∷ ops) st c s = s
  behind_steady (inr (inr v) ∷ ops) st c s = absurd v

  begun_steady : (session : OwnSession) (number : ℕ) (begin : CbBegin) (ops : List (Value cb_argop4)) (st : Stop) (c : ClientValue) → has_session first.tie ≡ true → Kept c → Kept (cb_begun session number begin ops st c).client
  begun_steady session number New ops st c has s = (let k : Kept (cb_behind ops st c).client = behind_steady ops st c s in record { session = sym has; follows = k.follows; out = k.out; anew = k.anew })
  begun_steady session number (Again status) ops st c has s = s
  begun_steady session number Misordered ops st c has s = s

  session_steady : (tie : Tie) (args : Value cb_sequence4_args) (ops : List (Value cb_argop4)) (st : Stop) (c : ClientValue) → c.tie ≡ tie → Kept c → Kept (cb_in_session tie args ops st c).client
  session_steady (HasSession t) (session, (number, (slot, rest))) ops st c at s =
      if_steady (bytes_eq session t.id.0) _ _ (if_steady (slot == 0) (cb_begun t number (cb_begin t.callbacks number) ops st c) _ (begun_steady t number (cb_begin t.callbacks number) ops st c (sym s.session ∙ ap has_session at) s) s) s
  session_steady NoClient args ops st c at s = s
  session_steady (HasClient clientid sequence) args ops st c at s = s

  first_steady : (ops : List (Value cb_argop4)) (st : Stop) (c : ClientValue) → Kept c → Kept (cb_first ops st c).client
  first_steady [] st c s = s
  first_steady (inl recall ∷ ops) st c s = s
  first_steady (inr (inl sequence) ∷ ops) st c s = session_steady c.tie sequence ops st c refl s
  first_steady (inr (inr v) ∷ ops) st c s = absurd v

  walked_steady : (cb : CbCompoundValue) (rest : Option ℕ) (c : ClientValue) → Kept c → Kept (cb_walked cb rest c).client
  walked_steady cb (Some rest) c s = s
  walked_steady cb None c s = first_steady cb.ops.values cb.ops.stop c s

  answer_if : (b : Bool) (x y : CbAnswer) → Kept x.client → Kept y.client → Kept (if b then x else y).client
  answer_if true x y once other = once
  answer_if false x y once other = other

  compound_steady : (r : Result CbCompoundValue XdrError) (c : ClientValue) → Kept c → Kept (cb_compound_answer r c).client
  compound_steady (Err e) c s = s
  compound_steady (Ok cb) c s =
      answer_if (cb.minorversion == 1) _ _ (answer_if (nat_lt 16 cb.count) (cb_results cb.tag (leaves (given stat.TooManyOps []) c)) (cb_walked cb (rest_of_stop cb.ops.stop) c) s (walked_steady cb (rest_of_stop cb.ops.stop) c s)) s

  null_steady : (args : List ℕ) (c : ClientValue) → Kept c → Kept (cb_null_answer args c).client
  null_steady [] c s = s
  null_steady (b ∷ bs) c s = s

  procedure_steady : (call : RpcCall) (c : ClientValue) → Kept c → Kept (cb_procedure_answer call c).client
  procedure_steady call c s =
      answer_if (call.procedure == 0) (cb_null_answer call.args c) _ (null_steady call.args c s) (answer_if (call.procedure == 1) (cb_compound_answer (cb_compound_at call.args) c) (cb_refused proc_unavail c) (compound_steady (cb_compound_at call.args) c s) s)

  call_steady : (call : RpcCall) (c : ClientValue) → Kept c → Kept (cb_call_answer call c).client
  call_steady call c s =
      answer_if (call.program == 1073741824) _ (cb_refused prog_unavail c) (answer_if (call.version == 1) (cb_procedure_answer call c) (cb_refused (prog_mismatch 1 1) c) (procedure_steady call c s) s) s

pub callback_steady : (r : Result RpcCall CallFault) (c : ClientValue) (k : CbReply) → callback_of r c ≡ Some k → Steady c k.client
callback_steady (Ok call) c k is = subst (λ (x : CbReply). Steady c x.client) (same_Some _ k is) (call_steady c call c (steady_same c))
callback_steady (Err (RpcVersion xid)) c k is = subst (λ (x : CbReply). Steady c x.client) (same_Some _ k is) (steady_same c)
callback_steady (Err (Bad xid e)) c k is = subst (λ (x : CbReply). Steady c x.client) (same_Some _ k is) (steady_same c)
callback_steady (Err NotACall) c k is = absurd (none-some k is)
