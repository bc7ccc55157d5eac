-- What is sent in the event of a client's call, and how a reply that was spelled is read.
use Rattle.std.proofs.Common.{◌≡◌, ℕ, false, List, [], ◌∷◌, ◌++◌, length, Option, Some, None, Ok, refl, sym, ap, subst, ◌∙◌, inl, inr, ◌⊎◌}
use Rattle.std.proofs.lemmas.List.{append_assoc}
use Rattle.std.proofs.lemmas.Option.{same_Some}
use Rattle.ff_xdr.specs.Form.{Value, Fits, spelling}
use Rattle.rpc_record.specs.Replies.{RpcReply}
use Rattle.cluster_model.specs.declared.ids.NodeId.{NodeId}
use Rattle.cluster_model.specs.Members.{IsOneOf}
use Rattle.nfs4_compound.specs.declared.stop.Stop.{Stop}
use Rattle.nfs4_compound.specs.declared.stop.Stop.TheVariants as stop
use Rattle.nfs4_compound.specs.Args.{argop4}
use Rattle.nfs4_compound.specs.Compounds.{CompoundValue, compound4_res}
use Rattle.compound_reply.specs.Replied.{success_reply}
use Rattle.ds_calls.proofs.DsCallsAgain.{whole_spelled}
use Rattle.client_mds_calls.specs.declared.ask.MdsAsk.{MdsAsk}
use Rattle.client_mds_calls.specs.MdsCalls.{MdsCallValue}
use Rattle.client_mds_calls.specs.MdsCompounds.{mds_ops}
use Rattle.client_mds_calls.specs.MdsReplies.{reply_of_ask, compound_reply}
use Rattle.mds_receive.specs.MdsReceive.{IncomingValue}
use Rattle.mds_rule.specs.MdsStates.{MdsSend, CallsServer, CallsBack, Replies, Answers, AwaitedCall, MdsValue, MdsStep, and_then}
use Rattle.mds_rule.specs.Compounds.{first_operation, runs_compound}
use Rattle.mds_rule.specs.Events.{takes_incoming}
use Rattle.mds_rule.specs.Goes.{calls_out}
use Rattle.mds_walk.specs.MdsRuns.{MdsInput, MdsEvent, by_input, after_event}
use Rattle.mds_walk.proofs.Lists.{in_more}
use Rattle.mds_replies.specs.ClientCalls.{IsCallFrom}
use Rattle.mds_replies.proofs.HeldFiles.{in_behind}
use Rattle.mds_replies.proofs.PeriodKept.{sent_with_calls, in_sent}
use Rattle.mds_replies.proofs.OutCalls.{IsCall, AreCalled, GoesOut, IsOut, outs}
use Rattle.mds_replies.proofs.GoesWalk.{out_walk}

-- ---- the event of a call

-- the run of a compound of these parts
abbrev pub run_of : ℕ → MdsValue → NodeId → ℕ → List ℕ → List (Value argop4) → Stop → ℕ → MdsStep
run_of now m node xid tag ops end count =
    first_operation now m (record { node = node; xid = xid; tag = tag; ops = ops; stop = end; results = []; slot = None; is_kept = false; current = None }) count ops

-- a call, run
abbrev pub run_of_call : ℕ → MdsValue → NodeId → ℕ → List ℕ → MdsCallValue → MdsStep
run_of_call now m node xid name call = run_of now m node xid [] (mds_ops name call) (stop.End None) (length (mds_ops name call))

pub event_is : (e : MdsEvent) (m : MdsValue) (node : NodeId) (xid : ℕ) (name : List ℕ) (call : MdsCallValue) → IsCallFrom e node xid name call
    → after_event e m ≡ and_then (run_of_call e.now m node xid name call) (calls_out [])
event_is e m node xid name call came =
    let v : CompoundValue = came.v in
    let parts : runs_compound e.now m node xid v ≡ run_of_call e.now m node xid name call =
    ap (λ (tag : List ℕ). run_of e.now m node xid tag v.ops.values v.ops.stop v.count) came.is.tag
    ∙ ap (λ (ops : List (Value argop4)). run_of e.now m node xid [] ops v.ops.stop v.count) came.is.ops
    ∙ ap (λ (end : Stop). run_of e.now m node xid [] (mds_ops name call) end v.count) came.is.stop
    ∙ ap (λ (count : ℕ). run_of e.now m node xid [] (mds_ops name call) (stop.End None) count) came.is.count in
    ap (λ (i : MdsInput). by_input e.now i m) came.input
    ∙ ap (λ (x : IncomingValue). takes_incoming e.now m node x) came.compound
    ∙ ap (λ (s : MdsStep). and_then s (calls_out [])) parts

-- ---- which replies are sent

-- those that were awaited went out as calls
pub of_calls : (calls : List AwaitedCall) (s : MdsSend) → AreCalled calls → IsOneOf s (sent_with_calls calls) → IsCall s
of_calls [] s all inside = absurd inside
of_calls (c ∷ calls) s all (inl is) = subst IsCall (sym is) (all c (inl refl))
of_calls (c ∷ calls) s all (inr inside) = of_calls calls s (λ call its. all call (inr its)) inside

first_or_calls : (front old : List MdsSend) (s : MdsSend) → ((x : MdsSend) → IsOneOf x front → IsCall x) → IsOneOf s (front ++ old) → IsOneOf s old ⊎ IsCall s
first_or_calls [] old s all inside = inl inside
first_or_calls (x ∷ front) old s all (inl is) = inr (all s (inl is))
first_or_calls (x ∷ front) old s all (inr inside) = first_or_calls front old s (λ y its. all y (inr its)) inside

-- behind a step, what goes out is what the step sent, and calls
pub only_step : (s : MdsStep) (x : MdsSend) → AreCalled s.mds.calls → IsOneOf x (s.sends ++ (calls_out [] s.mds).sends) → IsOneOf x s.sends ⊎ IsCall x
only_step s x called inside =
    let front : List MdsSend = sent_with_calls s.mds.calls in
    let start : GoesOut s.sends s.mds.calls (front ++ s.sends) = record {
      called = called;
      were = λ y its. first_or_calls front s.sends y (λ z there. of_calls s.mds.calls z called there) its;
      kept = λ call its. in_more call.sent front s.sends (in_sent call s.mds.calls its);
    } in
    let end : GoesOut s.sends (calls_out [] s.mds).mds.calls ((front ++ s.sends) ++ (calls_out [] s.mds).sends) = out_walk (IsOut s.sends) (outs s.sends) [] s.mds [] (front ++ s.sends) start in
    end.were x (subst (λ (l : List MdsSend). IsOneOf x l) (sym (append_assoc front s.sends (calls_out [] s.mds).sends)) (in_behind x front (s.sends ++ (calls_out [] s.mds).sends) inside))

abbrev reply_in : MdsSend → Option RpcReply
reply_in (CallsServer server xid uid call) = None
reply_in (CallsBack xid back file stateid) = None
reply_in (Replies node reply) = Some reply
reply_in (Answers node bytes) = None

one_reply : (node other : NodeId) (reply own : RpcReply) → IsOneOf (Replies node reply) (Replies other own ∷ []) ⊎ ⊥ → reply ≡ own
one_reply node other reply own (inl (inl is)) = same_Some reply own (ap reply_in is)
one_reply node other reply own (inl (inr none)) = absurd none
one_reply node other reply own (inr none) = absurd none

-- a step that sends one reply, in the event of a call
pub reply_is : (e : MdsEvent) (m : MdsValue) (s : MdsStep) (node other : NodeId) (reply own : RpcReply) → after_event e m ≡ and_then s (calls_out []) → s.sends ≡ Replies other own ∷ [] → AreCalled s.mds.calls
    → IsOneOf (Replies node reply) (after_event e m).sends → reply ≡ own
reply_is e m s node other reply own is sends called inside =
    one_reply node other reply own (subst (λ (l : List MdsSend). IsOneOf (Replies node reply) l ⊎ ⊥) sends (only_step s (Replies node reply) called (subst (λ (x : MdsStep). IsOneOf (Replies node reply) x.sends) is inside)))

-- ---- how it is read

pub read_as : (kind : MdsAsk) (xid : ℕ) (v : Value compound4_res) → Fits compound4_res v → reply_of_ask kind (success_reply xid (spelling compound4_res v)) ≡ compound_reply kind (Ok v)
read_as kind xid v fits = ap (compound_reply kind) (whole_spelled compound4_res refl v fits)
