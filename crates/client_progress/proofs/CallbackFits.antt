-- What a callback leaves.
use Rattle.client_progress.proofs.AnswersFit.{ask_tie}
use Rattle.client_progress.proofs.Fits.{has_number, AskFits, FitOf, Fit, fit_layout, ending_fits, ending_same}
use Rattle.std.proofs.Common.{◌≡◌, ℕ, Bool, true, false, List, [], ◌∷◌, Option, Some, None, Result, Ok, Err, refl, subst, inl, inr}
use Rattle.std.specs.Prelude.{◌==◌, nat_lt, bytes_eq, if◌then◌else◌}
use Rattle.std.proofs.lemmas.Option.{none-some, same_Some}
use Rattle.ff_xdr.specs.declared.error.XdrError.{XdrError}
use Rattle.ff_xdr.specs.Form.{Value}
use Rattle.rpc_record.specs.declared.call.CallFault.{CallFault}
use Rattle.rpc_record.specs.declared.call.CallFault.TheVariants.{NotACall, RpcVersion, Bad}
use Rattle.rpc_record.specs.Calls.{RpcCall}
use Rattle.rpc_record.specs.Replies.{proc_unavail, prog_unavail, prog_mismatch}
use Rattle.nfs4_types.specs.declared.status.Stat4.TheVariants as stat
use Rattle.nfs4_session_ops.specs.CbSequence.{cb_sequence4_args}
use Rattle.nfs4_session.specs.declared.cb_slot.CbBegin.{CbBegin}
use Rattle.nfs4_session.specs.declared.cb_slot.CbBegin.TheVariants.{New, Again, Misordered}
use Rattle.nfs4_session.specs.CallbackSlot.{CbSlotState, cb_begin}
use Rattle.nfs4_compound.specs.declared.stop.Stop.{Stop}
use Rattle.nfs4_compound.specs.CbArgs.{cb_argop4}
use Rattle.nfs4_compound.specs.Compounds.{CbCompoundValue, cb_compound_at}
use Rattle.nfs4_compound.specs.Operations.{rest_of_stop}
use Rattle.client_mds_calls.specs.declared.ask.MdsAsk.{MdsAsk}
use Rattle.client_state.specs.declared.tie.OwnSession.{OwnSession}
use Rattle.client_state.specs.declared.tie.Tie.{Tie}
use Rattle.client_state.specs.declared.tie.Tie.TheVariants.{NoClient, HasClient, HasSession}
use Rattle.client_state.specs.declared.layout.Layout.{Layout}
use Rattle.client_state.specs.ClientStates.{ClientValue}
use Rattle.client_state.specs.ClientQueue.{with_layout, ending}
use Rattle.client_callbacks.specs.Callbacks.{CbJudged, Recall, CbAnswer, CbReply, is_state_of, recall_of, recalled_state, recall_step, is_ok, cb_behind, cb_begun, cb_in_session, cb_first, cb_walked, cb_compound_answer, cb_null_answer, cb_procedure_answer, cb_call_answer, cb_results, cb_refused, callback_of, leaves, behind_result, given, cb_recall_result, refused_result, with_callbacks}
use Rattle.client_answers.specs.ClientAnswers.{has_session}
use Rattle.client_laws.proofs.Stands.{IfThere}
use Rattle.client_laws.proofs.Steady.{kind_of}

judged_if : (J : ClientValue → Type 0) (b : Bool) (x y : CbJudged) → J x.client → J y.client → J (if b then x else y).client
judged_if J true x y first second = first
judged_if J false x y first second = second

-- and it has this tie
abbrev Kept : Tie → ClientValue → Type 0
Kept tie d = Fit d × (d.tie ≡ tie)

recall_fit : (tie : Tie) (c : ClientValue) (layout : Option Layout) (state : Option (List ℕ)) → c.layout ≡ layout → Kept tie c → Kept tie (recall_of layout state c).client
recall_fit tie c None state at kept = kept
recall_fit tie c (Some l) state at kept = by_test (is_state_of state l.stateid)
  where
    by_test : (b : Bool)
        → (let r : Recall = if b then record { status = stat.Ok; client = with_layout c (ending l) } else record { status = stat.NoMatchingLayout; client = c } in Kept tie r.client)
    by_test true = (fit_layout c.tie c.file c.queue c.layout l (ending l) c.devices (kind_of c.asked) c.again at (ending_same l) (λ fits. ending_fits c.devices l fits.writer) kept.0, kept.1)
    by_test false = kept

step_fit : (tie : Tie) (r : Recall) (next : ClientValue → CbJudged) → Kept tie r.client → ((d : ClientValue) → Kept tie d → Kept tie (next d).client) → Kept tie (recall_step r next).client
step_fit tie r next kept further = judged_if (Kept tie) (is_ok r.status) (behind_result (cb_recall_result r.status) (next r.client)) (leaves (refused_result r.status (cb_recall_result r.status)) r.client) (further r.client kept) kept

behind_fit : (tie : Tie) (ops : List (Value cb_argop4)) (st : Stop) (c : ClientValue) → Kept tie c → Kept tie (cb_behind ops st c).client
behind_fit tie [] st c kept = kept
behind_fit tie (inl (kind, (iomode, (changed, recall))) ∷ ops) st c kept =
    step_fit tie (recall_of c.layout (recalled_state recall) c) (λ d. cb_behind ops st d) (recall_fit tie c c.layout (recalled_state recall) refl kept) (λ d. behind_fit tie ops st d)
behind_fit tie (inr (inl sequence) ∷ ops) st c kept = kept
behind_fit tie (inr (inr v) ∷ ops) st c kept = absurd v

asks_tie : (tie tie' : Tie) (d : ClientValue) (kind : Option MdsAsk) → has_session tie' ≡ has_session tie → has_number tie' ≡ has_number tie → IfThere kind (AskFits tie d.file d.queue d.layout d.devices) → IfThere kind (AskFits tie' d.file d.queue d.layout d.devices)
asks_tie tie tie' d None same number fits = tt
asks_tie tie tie' d (Some kind) same number fits = ask_tie tie tie' d.file d.queue d.layout d.devices kind same number fits

-- the slot of callbacks
slot_fit : (s : OwnSession) (slot : CbSlotState) (d : ClientValue) → Kept (HasSession s) d → Fit (with_callbacks s slot d)
slot_fit s slot d kept =
    let fit : FitOf (HasSession s) d.file d.queue d.layout d.devices (kind_of d.asked) d.again = subst (λ (t : Tie). FitOf t d.file d.queue d.layout d.devices (kind_of d.asked) d.again) kept.1 kept.0 in
    let new : Tie = HasSession (record s { callbacks = slot }) in
    record {
      tied = λ some. refl;
      held = fit.held;
      layout_fits = fit.layout_fits;
      out = asks_tie (HasSession s) new d (kind_of d.asked) refl refl fit.out;
      anew = asks_tie (HasSession s) new d d.again refl refl fit.anew;
      returning = fit.returning;
    }

begun_fit : (session : OwnSession) (number : ℕ) (begin : CbBegin) (ops : List (Value cb_argop4)) (st : Stop) (c : ClientValue) → c.tie ≡ HasSession session → Fit c → Fit (cb_begun session number begin ops st c).client
begun_fit session number New ops st c tie fit = slot_fit session _ (cb_behind ops st c).client (behind_fit (HasSession session) ops st c (fit, tie))
begun_fit session number (Again status) ops st c tie fit = fit
begun_fit session number Misordered ops st c tie fit = fit

session_fit : (tie : Tie) (args : Value cb_sequence4_args) (ops : List (Value cb_argop4)) (st : Stop) (c : ClientValue) → c.tie ≡ tie → Fit c → Fit (cb_in_session tie args ops st c).client
session_fit (HasSession t) (session, (number, (slot, rest))) ops st c tie fit =
    judged_if Fit (bytes_eq session t.id.0) _ _ (judged_if Fit (slot == 0) (cb_begun t number (cb_begin t.callbacks number) ops st c) _ (begun_fit t number (cb_begin t.callbacks number) ops st c tie fit) fit) fit
session_fit NoClient args ops st c tie fit = fit
session_fit (HasClient clientid sequence) args ops st c tie fit = fit

first_fit : (ops : List (Value cb_argop4)) (st : Stop) (c : ClientValue) → Fit c → Fit (cb_first ops st c).client
first_fit [] st c fit = fit
first_fit (inl recall ∷ ops) st c fit = fit
first_fit (inr (inl sequence) ∷ ops) st c fit = session_fit c.tie sequence ops st c refl fit
first_fit (inr (inr v) ∷ ops) st c fit = absurd v

walked_fit : (cb : CbCompoundValue) (rest : Option ℕ) (c : ClientValue) → Fit c → Fit (cb_walked cb rest c).client
walked_fit cb (Some rest) c fit = fit
walked_fit cb None c fit = first_fit cb.ops.values cb.ops.stop c fit

answer_if : (b : Bool) (x y : CbAnswer) → Fit x.client → Fit y.client → Fit (if b then x else y).client
answer_if true x y first second = first
answer_if false x y first second = second

compound_fit : (r : Result CbCompoundValue XdrError) (c : ClientValue) → Fit c → Fit (cb_compound_answer r c).client
compound_fit (Err e) c fit = fit
compound_fit (Ok cb) c fit =
    answer_if (cb.minorversion == 1) _ _ (answer_if (nat_lt 16 cb.count) (cb_results cb.tag (leaves (given stat.TooManyOps []) c)) (cb_walked cb (rest_of_stop cb.ops.stop) c) fit (walked_fit cb (rest_of_stop cb.ops.stop) c fit)) fit

null_fit : (args : List ℕ) (c : ClientValue) → Fit c → Fit (cb_null_answer args c).client
null_fit [] c fit = fit
null_fit (b ∷ bs) c fit = fit

procedure_fit : (call : RpcCall) (c : ClientValue) → Fit c → Fit (cb_procedure_answer call c).client
procedure_fit call c fit =
    answer_if (call.procedure == 0) (cb_null_answer call.args c) _ (null_fit call.args c fit) (answer_if (call.procedure == 1) (cb_compound_answer (cb_compound_at call.args) c) (cb_refused proc_unavail c) (compound_fit (cb_compound_at call.args) c fit) fit)

call_fit : (call : RpcCall) (c : ClientValue) → Fit c → Fit (cb_call_answer call c).client
call_fit call c fit =
    answer_if (call.program == 1073741824) _ (cb_refused prog_unavail c) (answer_if (call.version == 1) (cb_procedure_answer call c) (cb_refused (prog_mismatch 1 1) c) (procedure_fit call c fit) fit) fit

pub callback_fit : (r : Result RpcCall CallFault) (c : ClientValue) (k : CbReply) → callback_of r c ≡ Some k → Fit c → Fit k.client
callback_fit (Ok call) c k is fit = subst (λ (x : CbReply). Fit x.client) (same_Some _ k is) (call_fit call c fit)
callback_fit (Err (RpcVersion xid)) c k is fit = subst (λ (x : CbReply). Fit x.client) (same_Some _ k is) fit
callback_fit (Err (Bad xid e)) c k is fit = subst (λ (x : CbReply). Fit x.client) (same_Some _ k is) fit
callback_fit (Err NotACall) c k is fit = absurd (none-some k is)
