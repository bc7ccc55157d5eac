-- The recall that goes out, or does not.
use Rattle.std.proofs.Common.{◌≡◌, Bool, cond, not, List, Option, Some, sym, ap, subst, ◌∙◌, find, Result, Ok, Err, OnOk}
use Rattle.std.proofs.lemmas.Bool.{eq-eqb, ne_eqb}
use Rattle.std.proofs.lemmas.Option.{same_Some}
use Rattle.ff_xdr.specs.declared.error.NoMemory.{NoMemory}
use Rattle.cluster_model.specs.declared.ids.FileId.{FileId}
use Rattle.cluster_model.specs.declared.outbox.Outbox.{Outbox}
use Rattle.nfs4_session.specs.Clients.{has_id}
use Rattle.nfs4_session.specs.Bindings.{last_session}
use Rattle.recall.specs.declared.recall.Recall.{Recall}
use Rattle.recall.specs.declared.recall.RecallCall.{RecallCall}
use Rattle.recall.specs.Recalls.{RecallSends, next_sent}
use Rattle.recall.specs.Calls.{WaitsFor, SendsRecall}
use Rattle.mds_rule.specs.MdsStates.{MdsValue, MdsStep, sends_none}
use Rattle.mds_rule.specs.Goes.{has_xids, calls_back, recall_goes, recall_call}
use Rattle.compound_run.specs.CompoundRuns.{HasMadeStep}
use Rattle.mds_sends.proofs.GoesOwn.{either_none, steps_none}

-- the callback of these recalls
abbrev goes_back : MdsValue → RecallSends → MdsStep
goes_back m sent = calls_back (record m { recalls = sent.recalls }) sent.call (last_session (find (has_id sent.call.client) m.sessions.clients))

recall_is : (m : MdsValue) (file : FileId) (o : Option RecallSends) → next_sent m.recalls m.next_xid ≡ o → recall_call file m ≡ cond (has_xids m) (recall_goes m file o) (sends_none m)
recall_is m file o is = ap (λ (x : Option RecallSends). cond (has_xids m) (recall_goes m file x) (sends_none m)) is

-- it is of another file
pub other_recall : (m : MdsValue) (file of : FileId) → WaitsFor m.recalls m.next_xid (Some of) → (of.0 ≡ file.0 → ⊥) → recall_call file m ≡ sends_none m
other_recall m file of (sent, is, same) other =
    let test = ne_eqb sent.call.file.0 file.0 (λ alike. other (ap (λ (f : FileId). f.0) (sym same) ∙ alike)) in
    let none : recall_goes m file (Some sent) ≡ sends_none m = ap (λ (b : Bool). cond b (goes_back m sent) (sends_none m)) test in
    recall_is m file (Some sent) is ∙ ap (λ (x : MdsStep). cond (has_xids m) x (sends_none m)) none ∙ either_none (has_xids m) (sends_none m)

pub recall_not : (m : MdsValue) (file of : FileId) (out : Outbox) → WaitsFor m.recalls m.next_xid (Some of) → (of.0 ≡ file.0 → ⊥) → HasMadeStep (recall_call file m) out m out
recall_not m file of out waits other = steps_none _ m out (other_recall m file of waits other)

-- it is of this file
recall_out : (m n : MdsValue) (file of : FileId) (call : RecallCall) (new : List Recall) (out out' : Outbox) → (m.next_xid ≡ 0 → ⊥) → WaitsFor m.recalls m.next_xid (Some of) → of.0 ≡ file.0
    → SendsRecall m.recalls m.next_xid (Some call) new
    → HasMadeStep (calls_back (record m { recalls = new }) call (last_session (find (has_id call.client) m.sessions.clients))) out n out'
    → HasMadeStep (recall_call file m) out n out'
recall_out m n file of call new out out' more (d, waits, to) same_file said step =
    let sent : RecallSends = record { recalls = new; call = call } in
    let same : d ≡ sent = same_Some d sent (sym waits ∙ said) in
    let here : call.file.0 ≡ file.0 = ap (λ (x : RecallSends). x.call.file.0) (sym same) ∙ ap (λ (f : FileId). f.0) to ∙ same_file in
    let goes : recall_call file m ≡ goes_back m sent =
    recall_is m file (Some sent) said
    ∙ ap (λ (b : Bool). cond (not b) (recall_goes m file (Some sent)) (sends_none m)) (ne_eqb m.next_xid 0 more)
    ∙ ap (λ (b : Bool). cond b (goes_back m sent) (sends_none m)) (eq-eqb call.file.0 file.0 here)
    in
    subst (λ (x : MdsStep). HasMadeStep x out n out') (sym goes) step

pub recall_went : (m n : MdsValue) (file of : FileId) (call : RecallCall) (new : List Recall) (out out' : Outbox) (result : Result (Unit {0}) NoMemory) → (m.next_xid ≡ 0 → ⊥) → WaitsFor m.recalls m.next_xid (Some of)
    → of.0 ≡ file.0 → SendsRecall m.recalls m.next_xid (Some call) new
    → OnOk result (HasMadeStep (calls_back (record m { recalls = new }) call (last_session (find (has_id call.client) m.sessions.clients))) out n out')
    → OnOk result (HasMadeStep (recall_call file m) out n out')
recall_went m n file of call new out out' (Err e) more waits same_file said step = tt
recall_went m n file of call new out out' (Ok done) more waits same_file said step = recall_out m n file of call new out out' more waits same_file said step
