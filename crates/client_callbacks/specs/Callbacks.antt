-- What a client answers to its callbacks (RFC 8881, sections 2.10.6, 20.3 and 20.9; RFC 5531, section 9).
use Rattle.std.specs.Prelude.{ℕ, Bool, true, false, ◌&&◌, ◌==◌, nat_le, nat_lt, List, [], ◌∷◌, bytes_eq, Option, Some, None, Result, Ok, Err, if◌then◌else◌}
use Rattle.std.proofs.Common.{inl, inr}
use Rattle.rpc_record.specs.declared.call.TheConstants.{RPC_VERSION}
use Rattle.client_callbacks.specs.declared.cb_ops.TheConstants.{ILLEGAL, LAYOUTRECALL, SEQUENCE}
use Rattle.client_callbacks.specs.declared.callback.TheConstants.{COMPOUND, MAX_OPS, MINOR_VERSION, NULL, PROGRAM, VERSION}
use Rattle.ff_xdr.specs.declared.error.XdrError.{XdrError}
use Rattle.ff_xdr.specs.Form.{Value, spelling}
use Rattle.ff_xdr.specs.Arms.{arm, by_arm}
use Rattle.rpc_record.specs.declared.call.CallFault.{CallFault}
use Rattle.rpc_record.specs.declared.call.CallFault.TheVariants.{NotACall, RpcVersion, Bad}
use Rattle.rpc_record.specs.Calls.{RpcCall}
use Rattle.rpc_record.specs.Replies.{RpcReply, ReplyStat, auth_none, success, prog_unavail, prog_mismatch, proc_unavail, garbage_args, rpc_mismatch}
use Rattle.nfs4_types.specs.declared.ids.SessionId.{SessionId}
use Rattle.nfs4_types.specs.declared.stateid.Stateid.{Stateid}
use Rattle.nfs4_types.specs.declared.status.Stat4.{Stat4}
use Rattle.nfs4_types.specs.declared.status.Stat4.TheVariants as stat
use Rattle.nfs4_types.specs.Status.{stat4_number}
use Rattle.nfs4_file_ops.specs.CbLayoutRecall.{cb_layoutrecall4_args, layoutrecall4}
use Rattle.nfs4_session_ops.specs.CbSequence.{cb_sequence4_args}
use Rattle.nfs4_session.specs.declared.cb_slot.CbBegin.{CbBegin}
use Rattle.nfs4_session.specs.declared.cb_slot.CbBegin.TheVariants.{New, Again, Misordered}
use Rattle.nfs4_session.specs.CallbackSlot.{CbSlotState, cb_begin, after_cb_begin, with_cb_status}
use Rattle.nfs4_compound.specs.declared.stop.Stop.{Stop}
use Rattle.nfs4_compound.specs.declared.stop.Stop.TheVariants as stop
use Rattle.nfs4_compound.specs.Behind.{behind_arms}
use Rattle.nfs4_compound.specs.CbArgs.{cb_argop4}
use Rattle.nfs4_compound.specs.CbResults.{cb_resop4}
use Rattle.nfs4_compound.specs.Compounds.{CbCompoundValue, cb_compound_at, cb_compound4_res}
use Rattle.nfs4_compound.specs.Operations.{rest_of_stop}
use Rattle.client_state.specs.declared.tie.OwnSession.{OwnSession}
use Rattle.client_state.specs.declared.tie.Tie.{Tie}
use Rattle.client_state.specs.declared.layout.Layout.{Layout}
use Rattle.client_state.specs.declared.tie.Tie.TheVariants.{HasSession}
use Rattle.client_state.specs.ClientStates.{ClientValue}
use Rattle.client_state.specs.ClientQueue.{with_layout, ending}

-- ---- results

-- a status other than OK under a number
abbrev pub cb_refusal : ℕ → Stat4 → Value cb_resop4
cb_refusal number status =
    if number == LAYOUTRECALL then arm 5 cb_resop4 (inr (stat4_number status))
    else if number == SEQUENCE then arm 11 cb_resop4 (inr (stat4_number status))
    else behind_arms cb_resop4 (number, stat4_number status)

abbrev pub cb_recall_result : Stat4 → Value cb_resop4
cb_recall_result stat.Ok = arm 5 cb_resop4 (inl tt)
cb_recall_result status = arm 5 cb_resop4 (inr (stat4_number status))

abbrev pub cb_sequence_result : SessionId → ℕ → Value cb_resop4
cb_sequence_result session sequence = arm 11 cb_resop4 (inl (session.0, (sequence, (0, (0, 0)))))

-- the results of a compound, and its status
pub record CbGiven : Type 0 where
  pub status : Stat4
  pub results : List (Value cb_resop4)

abbrev pub given : Stat4 → List (Value cb_resop4) → CbGiven
given status results = record { status = status; results = results }

-- by one result, that of the operation which is not OK
abbrev pub refused_result : Stat4 → Value cb_resop4 → CbGiven
refused_result status result = given status (result ∷ [])

abbrev pub behind_given : Value cb_resop4 → CbGiven → CbGiven
behind_given result g = record { status = g.status; results = result ∷ g.results }

-- the same, and the client then
pub record CbJudged : Type 0 where
  pub status : Stat4
  pub results : List (Value cb_resop4)
  pub client : ClientValue

-- the client stays as it is
abbrev pub leaves : CbGiven → ClientValue → CbJudged
leaves g c = record { status = g.status; results = g.results; client = c }

abbrev pub behind_result : Value cb_resop4 → CbJudged → CbJudged
behind_result result j = record { status = j.status; results = result ∷ j.results; client = j.client }

-- Behind the last operation that is read: nothing more; NOTSUPP for the numbers 3 to 14 and OP_ILLEGAL for others, of what is not built;
-- BADXDR for what is out of form.
abbrev pub unread_status : ℕ → Bool → Stat4
unread_status number true = stat.NotSupp
unread_status number false = stat.OpIllegal

abbrev pub unread_number : ℕ → Bool → ℕ
unread_number number true = number
unread_number number false = ILLEGAL

abbrev pub is_callback_number : ℕ → Bool
is_callback_number number = nat_le 3 number && nat_le number 14

abbrev pub stopped : Stop → CbGiven
stopped (stop.End rest) = given stat.Ok []
stopped (stop.Unread number) =
    let known = is_callback_number number in
    refused_result (unread_status number known) (cb_refusal (unread_number number known) (unread_status number known))
stopped (stop.Bad e) = refused_result stat.BadXdr (cb_refusal ILLEGAL stat.BadXdr)

-- ---- CB_LAYOUTRECALL

-- the state of a layout that is asked back, of a file
abbrev pub recalled_state : Value layoutrecall4 → Option (List ℕ)
recalled_state (inl (handle, (offset, (length, (seqid, other))))) = Some other
recalled_state (inr rest) = None

abbrev pub is_state_of : Option (List ℕ) → Stateid → Bool
is_state_of None stateid = false
is_state_of (Some other) stateid = bytes_eq other stateid.other

-- Its layout is given back, and OK is answered; a recall of another is NOMATCHING_LAYOUT.
pub record Recall : Type 0 where
  pub status : Stat4
  pub client : ClientValue

abbrev pub recall_of : Option Layout → Option (List ℕ) → ClientValue → Recall
recall_of None state c = record { status = stat.NoMatchingLayout; client = c }
recall_of (Some l) state c =
    if is_state_of state l.stateid then record { status = stat.Ok; client = with_layout c (ending l) }
    else record { status = stat.NoMatchingLayout; client = c }

abbrev pub recalls : Value cb_layoutrecall4_args → ClientValue → Recall
recalls (kind, (iomode, (changed, recall))) c = recall_of c.layout (recalled_state recall) c

-- ---- the operations behind CB_SEQUENCE

abbrev pub is_ok : Stat4 → Bool
is_ok stat.Ok = true
is_ok status = false

-- a second CB_SEQUENCE stands in a wrong place
abbrev pub misplaced : CbGiven
misplaced = refused_result stat.SequencePos (arm 11 cb_resop4 (inr (stat4_number stat.SequencePos)))

-- a recall that is OK is followed by the next operation
abbrev pub recall_step : Recall → (ClientValue → CbJudged) → CbJudged
recall_step r next =
    if is_ok r.status then behind_result (cb_recall_result r.status) (next r.client)
    else leaves (refused_result r.status (cb_recall_result r.status)) r.client

abbrev pub cb_behind : List (Value cb_argop4) → Stop → ClientValue → CbJudged
cb_behind [] s c = leaves (stopped s) c
cb_behind (op ∷ ops) s c = by_arm cb_argop4 ((λ recall. recall_step (recalls recall c) (λ d. cb_behind ops s d)), ((λ sequence. leaves misplaced c), tt)) op

-- The same of a callback that came before: the kept status of its recall is answered again, and nothing else is done. What stands behind
-- the recall is not looked at.
abbrev pub cb_repeated : Stat4 → List (Value cb_argop4) → Stop → CbGiven
cb_repeated status [] s = stopped s
cb_repeated status (op ∷ ops) s = by_arm cb_argop4 ((λ recall. given status (cb_recall_result status ∷ [])), ((λ sequence. misplaced), tt)) op

-- ---- CB_SEQUENCE

abbrev pub with_callbacks : OwnSession → CbSlotState → ClientValue → ClientValue
with_callbacks s slot c = record c { tie = HasSession (record s { callbacks = slot }) }

abbrev pub sequence_refused : Stat4 → CbGiven
sequence_refused status = refused_result status (arm 11 cb_resop4 (inr (stat4_number status)))

-- the status of the recall, of the first where there are more: any other operation ends the callback
abbrev pub recall_status : List (Value cb_argop4) → ClientValue → Option Stat4
recall_status [] c = None
recall_status (op ∷ ops) c = by_arm cb_argop4 ((λ recall. Some (recalls recall c).status), ((λ sequence. None), tt)) op

-- It is kept with the callback's number. A callback without a recall keeps none, so its number again is SEQ_MISORDERED.
abbrev pub kept_of_recall : Option Stat4 → CbSlotState → CbSlotState
kept_of_recall None slot = slot
kept_of_recall (Some status) slot = with_cb_status slot status

abbrev pub with_cb_slot : OwnSession → CbSlotState → CbJudged → CbJudged
with_cb_slot s slot j = record { status = j.status; results = j.results; client = with_callbacks s slot j.client }

abbrev pub cb_begun : OwnSession → ℕ → CbBegin → List (Value cb_argop4) → Stop → ClientValue → CbJudged
cb_begun s number New ops st c =
    behind_result (cb_sequence_result s.id number) (with_cb_slot s (kept_of_recall (recall_status ops c) (after_cb_begin s.callbacks number New)) (cb_behind ops st c))
cb_begun s number (Again status) ops st c = leaves (behind_given (cb_sequence_result s.id number) (cb_repeated status ops st)) c
cb_begun s number Misordered ops st c = leaves (sequence_refused stat.SeqMisordered) c

-- the client's session alone, and slot 0 alone
abbrev pub cb_in_session : Tie → Value cb_sequence4_args → List (Value cb_argop4) → Stop → ClientValue → CbJudged
cb_in_session (HasSession s) (session, (number, (slot, rest))) ops st c =
    if bytes_eq session s.id.0 then (if slot == 0 then cb_begun s number (cb_begin s.callbacks number) ops st c else leaves (sequence_refused stat.BadSlot) c)
    else leaves (sequence_refused stat.BadSession) c
cb_in_session tie sequence ops st c = leaves (sequence_refused stat.BadSession) c

-- the first operation: no other than CB_SEQUENCE stands there
abbrev pub cb_first : List (Value cb_argop4) → Stop → ClientValue → CbJudged
cb_first [] s c = leaves (stopped s) c
cb_first (op ∷ ops) s c = by_arm cb_argop4 ((λ recall. leaves (refused_result stat.OpNotInSession (cb_refusal LAYOUTRECALL stat.OpNotInSession)) c), ((λ sequence. cb_in_session c.tie sequence ops s c), tt)) op

-- ---- the callback

-- a reply, and the client then
pub record CbAnswer : Type 0 where
  pub stat : ReplyStat
  pub results : List ℕ
  pub client : ClientValue

abbrev pub cb_refused : ReplyStat → ClientValue → CbAnswer
cb_refused stat c = record { stat = stat; results = []; client = c }

abbrev pub cb_results : List ℕ → CbJudged → CbAnswer
cb_results tag j = record { stat = success; results = spelling cb_compound4_res (stat4_number j.status, (tag, j.results)); client = j.client }

-- bytes behind the last operation are no arguments
abbrev pub cb_walked : CbCompoundValue → Option ℕ → ClientValue → CbAnswer
cb_walked cb (Some rest) c = cb_refused garbage_args c
cb_walked cb None c = cb_results cb.tag (cb_first cb.ops.values cb.ops.stop c)

-- the minor version is judged first, then how many operations there are: at most 16
abbrev pub cb_compound_answer : Result CbCompoundValue XdrError → ClientValue → CbAnswer
cb_compound_answer (Err e) c = cb_refused garbage_args c
cb_compound_answer (Ok cb) c =
    if cb.minorversion == MINOR_VERSION
    then (if nat_lt MAX_OPS cb.count then cb_results cb.tag (leaves (given stat.TooManyOps []) c) else cb_walked cb (rest_of_stop cb.ops.stop) c)
    else cb_results cb.tag (leaves (given stat.MinorVersMismatch []) c)

abbrev pub cb_null_answer : List ℕ → ClientValue → CbAnswer
cb_null_answer [] c = record { stat = success; results = []; client = c }
cb_null_answer (b ∷ bs) c = cb_refused garbage_args c

-- NULL and CB_COMPOUND of the callback program (RFC 8881, section 20)
abbrev pub cb_procedure_answer : RpcCall → ClientValue → CbAnswer
cb_procedure_answer call c =
    if call.procedure == NULL then cb_null_answer call.args c
    else if call.procedure == COMPOUND then cb_compound_answer (cb_compound_at call.args) c
    else cb_refused proc_unavail c

abbrev pub cb_call_answer : RpcCall → ClientValue → CbAnswer
cb_call_answer call c =
    if call.program == PROGRAM then (if call.version == VERSION then cb_procedure_answer call c else cb_refused (prog_mismatch VERSION VERSION) c)
    else cb_refused prog_unavail c

-- the reply to a record that is a call, and the client then
pub record CbReply : Type 0 where
  pub reply : RpcReply
  pub client : ClientValue

abbrev pub cb_reply : ℕ → CbAnswer → CbReply
cb_reply xid a = record { reply = record { xid = xid; verf = auth_none; stat = a.stat; results = a.results }; client = a.client }

-- A call that is none has no reply; one of another RPC version, or with a header out of form, is refused.
abbrev pub callback_of : Result RpcCall CallFault → ClientValue → Option CbReply
callback_of (Ok call) c = Some (cb_reply call.xid (cb_call_answer call c))
callback_of (Err (RpcVersion xid)) c = Some (cb_reply xid (cb_refused (rpc_mismatch RPC_VERSION RPC_VERSION) c))
callback_of (Err (Bad xid e)) c = Some (cb_reply xid (cb_refused garbage_args c))
callback_of (Err NotACall) c = None
