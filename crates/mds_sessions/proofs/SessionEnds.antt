-- What the table of sessions says where it refuses, and where it makes a session.
use Rattle.std.proofs.Common.{◌≡◌, ℕ, true, false, Option, Some, None, Result, Ok, Err, refl, sym, ap, subst, ◌∙◌, IfOk, OnOk}
use Rattle.std.specs.Prelude.{is_some}
use Rattle.std.specs.Result.{is_err}
use Rattle.ff_xdr.specs.declared.error.NoMemory.{NoMemory}
use Rattle.ff_xdr.specs.Form.{Value}
use Rattle.cluster_model.specs.declared.outbox.Outbox.{Outbox}
use Rattle.cluster_model.specs.declared.ids.NodeId.{NodeId}
use Rattle.nfs4_types.specs.declared.status.Stat4.{Stat4}
use Rattle.nfs4_types.specs.Channels.{channel_attrs4}
use Rattle.nfs4_session.specs.declared.faults.Created.{Created}
use Rattle.nfs4_session.specs.declared.faults.SessionFault.{SessionFault}
use Rattle.nfs4_session.specs.Clients.{SessionsState, SessionState}
use Rattle.nfs4_session.specs.Bindings.{OnSession}
use Rattle.nfs4_session.specs.CreateSessions.{CreateSessionCase, IsDue, IsReplay, IsMisordered, HasNoRoom, IsStale, create_session_fault, created_answer, after_creating}
use Rattle.nfs4_session.specs.Ends.{DestroysClientBy}
use Rattle.mds_rule.specs.MdsStates.{CompoundRun, MdsValue}
use Rattle.mds_rule.specs.OpSteps.{with_result}
use Rattle.mds_rule.specs.SessionOps.{create_result, confirms, gone_with, with_session, with_create}
use Rattle.compound_run.specs.declared.op_end.OpEnd.{OpEnd}
use Rattle.compound_run.specs.declared.op_end.OpEnd.TheVariants as end
use Rattle.compound_run.specs.CompoundRuns.{HasMadeStep, HasOperated}
use Rattle.mds_state.proofs.OpLemmas.{done_so}

pub record RefusedBy (old new : SessionsState) (o : Option Stat4) (status : Stat4) : Type 0 where
  pub fault : o ≡ Some status
  pub same : new ≡ old

pub refused_by : (old new : SessionsState) (client : ℕ) (o : Option Stat4) (status : Stat4) → DestroysClientBy old client o (Err status) new → RefusedBy old new o status
refused_by old new client None status is = absurd (cc (is.0))
refused_by old new client (Some s) status is = record { fault = cc (is.0); same = is.1 }

pub record NoSession (old new : SessionsState) (o : Option SessionState) : Type 0 where
  pub none : is_some o ≡ false
  pub same : new ≡ old

pub no_session : (old after new : SessionsState) (o : Option SessionState) (result : Result (Unit {0}) Stat4) → is_err result ≡ true → OnSession o result old after new → NoSession old new o
no_session old after new None result bad is = record { none = refl; same = is.1 }
no_session old after new (Some s) result bad is = absurd (cc (bad, is.0))

no_fault : (s : SessionsState) (client : ℕ) (case : CreateSessionCase) (created : Created) → created_answer s client case ≡ Some created → create_session_fault case ≡ None
no_fault s client (IsDue c) created is = refl
no_fault s client (IsReplay session) created is = refl
no_fault s client IsMisordered created is = absurd (cc)
no_fault s client HasNoRoom created is = absurd (cc)
no_fault s client IsStale created is = absurd (cc)

pub created_so : (m n k : MdsValue) (node : NodeId) (c d : CompoundRun) (client sequence : ℕ) (fore back : Value channel_attrs4) (program now : ℕ) (case : CreateSessionCase) (created : Created) (sessions : SessionsState)
    (result : Result OpEnd NoMemory) (old new : Outbox) → created_answer m.sessions client case ≡ Some created → sessions ≡ after_creating m.sessions program c.node now case
    → node ≡ c.node → k ≡ confirms client node (record m { sessions = sessions }) → HasMadeStep (gone_with created.gone k) old n new → new.sends.items ≡ old.sends.items → IfOk result (λ e. e ≡ end.Goes)
    → OnOk result (d ≡ with_result c (create_result created.session sequence fore back))
    → HasOperated (with_create m c client sequence fore back program now case (create_session_fault case)) old result n d new
created_so m n k node c d client sequence fore back program now case created sessions result old new answer made from confirmed stepped silent goes run =
    let after = after_creating m.sessions program c.node now case in
    let known : MdsValue = confirms client c.node (record m { sessions = after }) in
    let is : k ≡ known = confirmed ∙ ap (λ x. confirms client x (record m { sessions = sessions })) from ∙ ap (λ x. confirms client c.node (record m { sessions = x })) made in
    let there : HasMadeStep (gone_with created.gone known) old n new = subst (λ (x : MdsValue). HasMadeStep (gone_with created.gone x) old n new) is stepped in
    subst (λ (f : Option SessionFault). HasOperated (with_create m c client sequence fore back program now case f) old result n d new) (sym (no_fault m.sessions client case created answer))
    (subst (λ (a : Option Created). HasOperated (with_session m c client sequence fore back after a) old result n d new) (sym answer)
    (done_so (gone_with created.gone known).mds n (gone_with created.gone known).entries (with_result c (create_result created.session sequence fore back)) d result old new goes run
    (record { mds = there.mds; entries = there.entries; sends = silent })))
