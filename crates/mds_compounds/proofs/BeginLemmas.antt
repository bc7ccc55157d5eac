-- The first operation of a compound.
use Rattle.std.proofs.Common.{◌≡◌, ℕ, Bool, true, false, cond, List, [], ◌∷◌, Option, Some, None, Result, Ok, Err, refl, sym, ap, subst, ◌∙◌, IfOk, OnOk}
use Rattle.std.specs.Prelude.{◌==◌}
use Rattle.std.specs.List.{find}
use Rattle.std.specs.Option.{option_map}
use Rattle.ff_xdr.specs.Form.{Value, arm_of}
use Rattle.cluster_model.specs.declared.ids.NodeId.{NodeId}
use Rattle.nfs4_types.specs.declared.ids.SessionId.{SessionId}
use Rattle.nfs4_types.specs.declared.sequence.Sequence.{Sequence}
use Rattle.nfs4_types.specs.declared.status.Stat4.{Stat4}
use Rattle.nfs4_types.specs.Sequences.{sequence4_args}
use Rattle.nfs4_compound.specs.Args.{argop4}
use Rattle.nfs4_compound.specs.Results.{resop4}
use Rattle.nfs4_compound.specs.Compounds.{CompoundValue}
use Rattle.nfs4_compound.specs.declared.stop.Stop.{Stop}
use Rattle.nfs4_session.specs.Slots.{SlotAnswer, TakesEffect, Repeats, Refuses}
use Rattle.nfs4_session.specs.Clients.{ClientState, SessionsState, has_id, client_in, number_in, session_of_client, session_of, change_first, with_clients, with_sessions, SessionState}
use Rattle.nfs4_session.specs.Requests.{request_answer}
use Rattle.nfs4_session.specs.Bindings.{bound_last, client_bound, after_binding, OnSession}
use Rattle.mds_rule.specs.MdsStates.{CompoundRun, MdsValue, MdsStep}
use Rattle.mds_rule.specs.OpSteps.{OpStep, with_result, refused_as, refuses}
use Rattle.mds_rule.specs.Compounds.{with_ops, op_then, runs, in_slot, sequenced, begins_sequence, sequence_in, sequence_of, first_by, may_stand_alone, first_operation, new_run, runs_compound}
use Rattle.ff_xdr.specs.declared.error.NoMemory.{NoMemory}
use Rattle.cluster_model.specs.declared.outbox.Outbox.{Outbox}
use Rattle.nfs4_types.specs.declared.status.Stat4.TheVariants as stat
use Rattle.compound_run.specs.declared.op_end.OpEnd.{OpEnd}
use Rattle.compound_run.specs.declared.op_end.OpEnd.TheVariants as end
use Rattle.compound_run.specs.CompoundRuns.{HasOperated, HasMadeStep}
use Rattle.mds_state.proofs.OpLemmas.{refusal_unless}
use Rattle.mds_compounds.specs.Walks.{alone_step}

-- ---- which operations a compound is said to have makes no difference where those that are run are told

runs_any : (now : ℕ) (ops x : List (Value argop4)) (m : MdsValue) (c : CompoundRun) → runs now ops m (with_ops c x) ≡ runs now ops m c
runs_any now [] x m c = refl
runs_any now (op ∷ ops) x m c = refl

sequenced_any : (now : ℕ) (ops x : List (Value argop4)) (m : MdsValue) (c : CompoundRun) (s : Sequence) (a : SlotAnswer) → sequenced now m (with_ops c x) ops s a ≡ sequenced now m c ops s a
sequenced_any now ops x m c s TakesEffect = runs_any now ops x _ (in_slot c s)
sequenced_any now ops x m c s (Repeats reply) = refl
sequenced_any now ops x m c s (Refuses status) = refl

pub first_any : (now count : ℕ) (ops x : List (Value argop4)) (op : Value argop4) (m : MdsValue) (c : CompoundRun) (o : Option (Value sequence4_args))
    → first_by now m (with_ops c x) count op ops o ≡ first_by now m c count op ops o
first_any now count ops x op m c (Some args) =
    let s : Sequence = sequence_in args in
    let n : MdsValue = record m { sessions = after_binding m.sessions s.session c.node } in
    sequenced_any now ops x n c s (request_answer n.sessions s)
first_any now count ops x op m c None = by_tests (may_stand_alone (arm_of argop4 op)) (count == 1) refl refl
  where
    by_tests : (may one : Bool) → may_stand_alone (arm_of argop4 op) ≡ may → (count == 1) ≡ one → first_by now m (with_ops c x) count op ops None ≡ first_by now m c count op ops None
    by_tests true true is alone = rw (is, alone) refl
    by_tests true false is alone = rw (is, alone) refl
    by_tests false one is alone = rw is refl

-- ---- an operation without a SEQUENCE

pub alone_is : (now count : ℕ) (op : Value argop4) (m : MdsValue) (c : CompoundRun) → first_by now m c count op c.ops None ≡ op_then (alone_step now m c count op) (λ k d. runs now c.ops k d)
alone_is now count op m c = by_tests (may_stand_alone (arm_of argop4 op)) (count == 1) refl refl
  where
    by_tests : (may one : Bool) → may_stand_alone (arm_of argop4 op) ≡ may → (count == 1) ≡ one → first_by now m c count op c.ops None ≡ op_then (alone_step now m c count op) (λ k d. runs now c.ops k d)
    by_tests true true is alone = rw (is, alone) refl
    by_tests true false is alone = rw (is, alone) refl
    by_tests false one is alone = rw is refl

-- it may stand without a SEQUENCE, and is not alone
pub not_only : (m : MdsValue) (c d : CompoundRun) (number : ℕ) (may one : Bool) (step : OpStep) (result : Result OpEnd NoMemory) (out : Outbox) → may ≡ true → one ≡ false
    → IfOk result (λ e. e ≡ end.Ends stat.NotOnlyOp) → OnOk result (d ≡ with_result c (refused_as number stat.NotOnlyOp))
    → HasOperated (cond may (cond one step (refuses m c number stat.NotOnlyOp)) (refuses m c number stat.OpNotInSession)) out result m d out
not_only m c d number may one step result out is not ends run =
    subst (λ b. HasOperated (cond b (cond one step (refuses m c number stat.NotOnlyOp)) (refuses m c number stat.OpNotInSession)) out result m d out) (sym is)
    (refusal_unless m m c d number stat.NotOnlyOp one step result out not refl ends run)

-- ---- a session that is not there is not bound

bound_none : (number : ℕ) (node : NodeId) (test : ClientState → Bool) (clients : List ClientState) → session_of_client number (find test clients) ≡ None → change_first test (client_bound number node) clients ≡ clients
bound_none number node test [] none = refl
bound_none number node test (x ∷ clients) none = by_test (test x) none (bound_none number node test clients)
  where
    by_test : (b : Bool) → session_of_client number (cond b (Some x) (find test clients)) ≡ None
        → (session_of_client number (find test clients) ≡ None → change_first test (client_bound number node) clients ≡ clients)
        → cond b (client_bound number node x ∷ clients) (x ∷ change_first test (client_bound number node) clients) ≡ x ∷ clients
    by_test true is rest = ap (λ o. with_sessions x (bound_last number node x.sessions o) ∷ clients) is
    by_test false is rest = ap (λ xs. x ∷ xs) (rest is)

pub bound_so : (s new : SessionsState) (id : SessionId) (node : NodeId) (result : Result (Unit {0}) Stat4) → OnSession (session_of s.clients id) result s (after_binding s id node) new → new ≡ after_binding s id node
bound_so s new id node result on = by_session (session_of s.clients id) refl on
  where
    by_session : (found : Option SessionState) → session_of s.clients id ≡ found → OnSession found result s (after_binding s id node) new → new ≡ after_binding s id node
    by_session (Some session) is it = it.1
    by_session None is it = it.1 ∙ sym (ap (with_clients s) (bound_none (number_in id) node (has_id (client_in id)) s.clients is))

-- ---- an operation that is no SEQUENCE

pub no_sequence : (op : Value argop4) (none : option_map sequence_in (sequence_of op) ≡ None) → sequence_of op ≡ None
no_sequence op none = by_option (sequence_of op) none
  where
    by_option : (o : Option (Value sequence4_args)) → option_map sequence_in o ≡ None → o ≡ None
    by_option None it = refl
    by_option (Some args) it = absurd cc

-- ---- a compound as it begins

abbrev run_with : NodeId → ℕ → List ℕ → List (Value argop4) → Stop → List (Value resop4) → CompoundRun
run_with node xid tag ops stop results = record { node = node; xid = xid; tag = tag; ops = ops; stop = stop; results = results; slot = None; is_kept = false; current = None }

module _ (now : ℕ) (m n : MdsValue) (node : NodeId) (xid count : ℕ) (v : CompoundValue) (op : Value argop4) (rest : List (Value argop4)) (tag : List ℕ) (stop : Stop) (results : List (Value resop4)) (old new : Outbox) where
  pub begins_so : v.ops.values ≡ op ∷ rest → tag ≡ v.tag → stop ≡ v.ops.stop → results ≡ [] → count ≡ v.count
      → HasMadeStep (first_by now m (run_with node xid tag rest stop results) count op rest (sequence_of op)) old n new → HasMadeStep (runs_compound now m node xid v) old n new
  begins_so values tagged stopped none counted made =
      let c : CompoundRun = new_run node xid v in
      subst (λ (xs : List (Value argop4)). HasMadeStep (first_operation now m c v.count xs) old n new) (sym values)
      (subst (λ (s : MdsStep). HasMadeStep s old n new) (first_any now v.count rest rest op m c (sequence_of op))
      (subst (λ (k : ℕ). HasMadeStep (first_by now m (with_ops c rest) k op rest (sequence_of op)) old n new) counted
      (subst (λ (t : List ℕ). HasMadeStep (first_by now m (run_with node xid t rest v.ops.stop []) count op rest (sequence_of op)) old n new) tagged
      (subst (λ (s : Stop). HasMadeStep (first_by now m (run_with node xid tag rest s []) count op rest (sequence_of op)) old n new) stopped
      (subst (λ (r : List (Value resop4)). HasMadeStep (first_by now m (run_with node xid tag rest stop r) count op rest (sequence_of op)) old n new) none made)))))
