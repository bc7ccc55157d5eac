-- The parts of an event that are about inputs of the table of phases, clients and sessions keep what holds by the history.
use Rattle.std.proofs.Common.{◌≡◌, ◌≤◌, ℕ, Bool, true, false, List, [], ◌∷◌, ◌++◌, length, Option, Some, None, refl, inl}
use Rattle.std.specs.Prelude.{is_some, nat_eq, map}
use Rattle.std.specs.List.{find, list_any}
use Rattle.std.proofs.lemmas.Bool.{cond_both}
use Rattle.ff_xdr.specs.Form.{Value, long}
use Rattle.ff_xdr.specs.Arms.{arm}
use Rattle.cluster_model.specs.declared.ids.FileId.{FileId}
use Rattle.cluster_model.specs.declared.ids.Cred.{Cred}
use Rattle.cluster_model.specs.declared.phase.EndCause.{EndCause}
use Rattle.cluster_model.specs.declared.phase.EndCause.TheVariants.{ClientGone}
use Rattle.file_rule.specs.MdsFiles.{FileStep}
use Rattle.file_rule.specs.FilePhases.{FileInput, Recall as ToRecall, Revokes, phase}
use Rattle.layout_state.specs.Grants.{holder_to_recall}
use Rattle.nfs4_types.specs.declared.ids.SessionId.{SessionId}
use Rattle.nfs4_types.specs.declared.status.Stat4.{Stat4}
use Rattle.nfs4_types.specs.declared.status.Stat4.TheVariants as stat
use Rattle.nfs4_types.specs.Channels.{channel_attrs4}
use Rattle.nfs4_session_ops.specs.BindConn.{bind_conn4_args}
use Rattle.nfs4_session_ops.specs.ExchangeId.{exchange_id4_args}
use Rattle.nfs4_session_ops.specs.CreateSession.{create_session4_args}
use Rattle.nfs4_compound.specs.Results.{resop4}
use Rattle.nfs4_session.specs.declared.begin.SlotPass.{SlotPass}
use Rattle.nfs4_session.specs.declared.faults.Created.{Created}
use Rattle.nfs4_session.specs.declared.faults.IdFault.{IdFault}
use Rattle.nfs4_session.specs.declared.faults.SessionFault.{SessionFault}
use Rattle.nfs4_session.specs.Clients.{SessionsState, client_in, has_id, session_of}
use Rattle.nfs4_session.specs.ExchangeIds.{ExchangeCase, exchange_case, exchange_fault, after_exchange}
use Rattle.nfs4_session.specs.CreateSessions.{CreateSessionCase, create_session_case, create_session_fault, created_answer, after_creating}
use Rattle.nfs4_session.specs.Bindings.{after_binding}
use Rattle.nfs4_session.specs.Ends.{without_session, without_client, destroy_client_fault}
use Rattle.recall.specs.Recalls.{is_under_way, new_recall, with_recall, without_file}
use Rattle.mds_rows.specs.Draws.{drawn}
use Rattle.mds_rule.specs.MdsStates.{CompoundRun, ServedFile, MdsValue, MdsStep, sends_none, served, with_served}
use Rattle.mds_rule.specs.OpSteps.{OpStep, Goes, with_result, refuses, refused_or}
use Rattle.mds_rule.specs.ServedFiles.{has_fresh, is_period_end, file_behind, file_stepped, input_at, takes_input, with_new_recall, recall_by, recall_at, asks_back, held_from, one_by_one, ends_periods, forgotten, ends_client}
use Rattle.mds_rule.specs.SessionOps.{with_exchange, runs_exchange, confirms, gone_with, goes_with, with_session, with_create, runs_create, on_session, runs_bind, runs_destroy_session, runs_destroy_client, reclaims}
use Rattle.mds_histories.specs.MdsHistory.{Enters}
use Rattle.read_runs.proofs.LiveTold.{LeaveSo}
use Rattle.read_runs.proofs.Holding.{Holds}
use Rattle.read_runs.proofs.FileMoves.{holds_input}
use Rattle.read_runs.proofs.Steps.{Becomes, KeepsOp, Silent, no_entries, stays, silent_then, silent_none, silent_same, becomes_silent}

-- ---- one input

input_step : (m : MdsValue) (file : FileId) (input : FileInput) → ((s : ServedFile) → served m file ≡ Some s → length s.file.layout.live ≤ 4 → LeaveSo file s.file input) → (o : Option ServedFile) → served m file ≡ o → Silent m (input_at m file input o)
input_step m file input leave None at = silent_same m
input_step m file input leave (Some s) at =
    let step : FileStep = phase file s.file input m.fresh in
    let n : MdsValue = with_served (record m { fresh = drawn m.fresh step }) file (file_behind s step) in
    cond_both (has_fresh m.fresh) (file_stepped m file s step) (sends_none m) (λ (x : MdsStep). Silent m x)
    (λ fresh.
    record {
      enters = λ h i.
          cond_both (list_any is_period_end step.entries) (record n { recalls = without_file file n.recalls }) n (λ (x : MdsValue). Holds x (h ++ map Enters step.entries))
          (λ end. holds_input m.mirrors m.files m.calls m.next_xid h i file s at input m.fresh (leave s at (i.files_so file s at).few.mirrors.few_live))
          (λ other. holds_input m.mirrors m.files m.calls m.next_xid h i file s at input m.fresh (leave s at (i.files_so file s at).few.mirrors.few_live));
      none = refl;
    })
    (λ off. silent_same m)

pub takes_by : (m : MdsValue) (file : FileId) (input : FileInput) → ((s : ServedFile) → served m file ≡ Some s → length s.file.layout.live ≤ 4 → LeaveSo file s.file input) → Silent m (takes_input m file input)
takes_by m file input leave = input_step m file input leave (served m file) refl

-- one by which no mirror leaves for what is said of it
pub takes : (m : MdsValue) (file : FileId) (input : FileInput) → ((s : ServedFile) → LeaveSo file s.file input) → Silent m (takes_input m file input)
takes m file input leave = takes_by m file input (λ s at few. leave s)

-- ---- recalls

recall_noted : (m : MdsValue) (file : FileId) (cred : Cred) (client : Option ℕ) (now : ℕ) → Becomes m (with_new_recall m file cred client now)
recall_noted m file cred None now = λ h i. i
recall_noted m file cred (Some client) now =
    cond_both (is_under_way file cred m.recalls) m (record m { recalls = with_recall (new_recall file cred client now) m.recalls }) (λ (n : MdsValue). Becomes m n) (λ is. λ h i. i) (λ off. λ h i. i)

back_by : (m : MdsValue) (file : FileId) (s : ServedFile) (now : ℕ) (held : Bool) → Silent m (recall_by m file s now held)
back_by m file s now false = silent_same m
back_by m file s now true =
    silent_then m (takes_input m file ToRecall) (λ n. sends_none (with_new_recall n file s.file.layout.cred s.holder now)) (takes m file ToRecall (λ t. tt))
    (λ n. silent_none n (with_new_recall n file s.file.layout.cred s.holder now) (recall_noted n file s.file.layout.cred s.holder now))

back_at : (m : MdsValue) (file : FileId) (now : ℕ) (o : Option ServedFile) → Silent m (recall_at m file now o)
back_at m file now None = silent_same m
back_at m file now (Some s) = back_by m file s now (is_some (holder_to_recall s.file.layout.phase))

pub asks : (m : MdsValue) (file : FileId) (now : ℕ) → Silent m (asks_back m file now)
asks m file now = back_at m file now (served m file)

-- ---- the periods of a client

turns : (step : MdsValue → FileId → MdsStep) → ((m : MdsValue) (file : FileId) → Silent m (step m file)) → (files : List FileId) (m : MdsValue) → Silent m (one_by_one step files m)
turns step one [] m = silent_same m
turns step one (file ∷ files) m = silent_then m (step m file) (λ n. one_by_one step files n) (one m file) (λ n. turns step one files n)

pub periods : (m : MdsValue) (client : ℕ) (end : EndCause) → Silent m (ends_periods m client end)
periods m client end = turns (λ n file. takes_input n file (Revokes end)) (λ n file. takes n file (Revokes end) (λ s. tt)) (held_from client 1 m.files) m

pub client_ends : (m : MdsValue) (client : ℕ) (end : EndCause) → Silent m (ends_client m client end)
client_ends m client end = silent_then m (ends_periods m client end) (λ n. sends_none (forgotten client n)) (periods m client end) (λ n. silent_none n (forgotten client n) (λ h i. i))

-- ---- operations

-- where it is not refused
pub unless_refused : (m : MdsValue) (c : CompoundRun) (number : ℕ) (status : Option Stat4) (step : OpStep) → (status ≡ None → KeepsOp m step) → KeepsOp m (refused_or m c number status step)
unless_refused m c number None step q = q refl
unless_refused m c number (Some status) step q = stays m

pub refused : (m : MdsValue) (c : CompoundRun) (number : ℕ) (status : Option Stat4) (step : OpStep) → KeepsOp m step → KeepsOp m (refused_or m c number status step)
refused m c number status step q = unless_refused m c number status step (λ none. q)

exchange_step : (m : MdsValue) (c : CompoundRun) (verifier owner : List ℕ) (now : ℕ) (case : ExchangeCase) (fault : Option IdFault) → KeepsOp m (with_exchange m c verifier owner now case fault)
exchange_step m c verifier owner now case None = no_entries m (record m { sessions = after_exchange m.sessions verifier owner now case }) (λ h i. i)
exchange_step m c verifier owner now case (Some fault) = stays m

pub exchanges : (m : MdsValue) (c : CompoundRun) (now : ℕ) (args : Value exchange_id4_args) → KeepsOp m (runs_exchange m c now args)
exchanges m c now (verifier, (owner, (flags, rest))) =
    exchange_step m c (long verifier) owner now (exchange_case m.sessions.clients (long verifier) owner) (exchange_fault m.sessions (exchange_case m.sessions.clients (long verifier) owner))

gone : (client : Option ℕ) (m : MdsValue) → Silent m (gone_with client m)
gone None m = silent_same m
gone (Some client) m = client_ends m client ClientGone

session_step : (m : MdsValue) (c : CompoundRun) (client sequence : ℕ) (fore back : Value channel_attrs4) (sessions : SessionsState) (o : Option Created) → KeepsOp m (with_session m c client sequence fore back sessions o)
session_step m c client sequence fore back sessions None = stays m
session_step m c client sequence fore back sessions (Some created) =
    let n : MdsValue = confirms client c.node (record m { sessions = sessions }) in
    (becomes_silent m n (gone_with created.gone n) (λ h i. i) (gone created.gone n)).enters

create_step : (m : MdsValue) (c : CompoundRun) (client sequence : ℕ) (fore back : Value channel_attrs4) (program now : ℕ) (case : CreateSessionCase) (fault : Option SessionFault)
    → KeepsOp m (with_create m c client sequence fore back program now case fault)
create_step m c client sequence fore back program now case (Some fault) = stays m
create_step m c client sequence fore back program now case None = session_step m c client sequence fore back (after_creating m.sessions program c.node now case) (created_answer m.sessions client case)

pub creates : (m : MdsValue) (c : CompoundRun) (now : ℕ) (args : Value create_session4_args) → KeepsOp m (runs_create m c now args)
creates m c now (client, (sequence, (flags, (fore, (back, (program, security)))))) =
    create_step m c client sequence fore back program now (create_session_case m.sessions client sequence) (create_session_fault (create_session_case m.sessions client sequence))

at_session : (m : MdsValue) (c : CompoundRun) (number : ℕ) (session : SessionId) (step : OpStep) → KeepsOp m step → KeepsOp m (on_session m c number session step)
at_session m c number session step q =
    cond_both (is_some (session_of m.sessions.clients session)) step (refuses m c number stat.BadSession) (λ (x : OpStep). KeepsOp m x) (λ is. q) (λ off. stays m)

pub binds : (m : MdsValue) (c : CompoundRun) (args : Value bind_conn4_args) → KeepsOp m (runs_bind m c args)
binds m c (session, (direction, rdma)) =
    at_session m c 41 (record { 0 = session }) _ (no_entries m (record m { sessions = after_binding m.sessions (record { 0 = session }) c.node }) (λ h i. i))

pub destroys_session : (m : MdsValue) (c : CompoundRun) (session : List ℕ) → KeepsOp m (runs_destroy_session m c session)
destroys_session m c session =
    at_session m c 44 (record { 0 = session }) _ (no_entries m (record m { sessions = without_session m.sessions (record { 0 = session }) }) (λ h i. i))

pub destroys_client : (m : MdsValue) (c : CompoundRun) (client : ℕ) → KeepsOp m (runs_destroy_client m c client)
destroys_client m c client =
    let n : MdsValue = record m { sessions = without_client m.sessions client } in
    refused m c 57 (destroy_client_fault (find (has_id client) m.sessions.clients)) (goes_with (ends_client n client ClientGone) (with_result c (arm 57 resop4 (inl tt))))
    (becomes_silent m n (ends_client n client ClientGone) (λ h i. i) (client_ends n client ClientGone)).enters

pub reclaims_all : (m : MdsValue) (c : CompoundRun) (slot : Option SlotPass) → KeepsOp m (reclaims m c slot)
reclaims_all m c None = stays m
reclaims_all m c (Some slot) =
    cond_both (list_any (nat_eq (client_in slot.session)) m.reclaimed) (refuses m c 58 stat.CompleteAlready)
    (Goes (record m { reclaimed = m.reclaimed ++ client_in slot.session ∷ [] }) [] (with_result c (arm 58 resop4 (inl tt)))) (λ (x : OpStep). KeepsOp m x)
    (λ is. stays m) (λ off. no_entries m (record m { reclaimed = m.reclaimed ++ client_in slot.session ∷ [] }) (λ h i. i))
