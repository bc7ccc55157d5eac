-- Each part of an event that is about inputs of the table of phases, clients and sessions keeps what is kept in each case.
use Rattle.std.proofs.Common.{◌≡◌, ℕ, Bool, true, false, List, [], ◌∷◌, ◌++◌, Option, Some, None, refl, sym, subst, ◌∙◌, inl}
use Rattle.std.specs.Prelude.{is_some, nat_eq}
use Rattle.std.specs.List.{find, list_any}
use Rattle.std.proofs.lemmas.Bool.{cond_both}
use Rattle.std.proofs.lemmas.List.{append-nil}
use Rattle.ff_xdr.specs.Form.{Value, long}
use Rattle.ff_xdr.specs.Arms.{arm}
use Rattle.cluster_model.specs.declared.ids.NodeId.TheVariants.{Mds, Server, Client}
use Rattle.cluster_model.specs.declared.ids.FileId.{FileId}
use Rattle.cluster_model.specs.declared.ids.Cred.{Cred}
use Rattle.cluster_model.specs.declared.layout_state.LayoutPhase.{LayoutPhase}
use Rattle.cluster_model.specs.declared.layout_state.LayoutPhase.TheVariants.{Making, Free, Held, Fencing, Settling, Copying}
use Rattle.cluster_model.specs.declared.phase.EndCause.{EndCause}
use Rattle.cluster_model.specs.declared.phase.EndCause.TheVariants.{ClientGone}
use Rattle.cluster_model.specs.declared.entry.Entry.{Entry}
use Rattle.file_rule.specs.declared.fresh.Fresh.{Fresh}
use Rattle.file_rule.specs.MdsFiles.{MdsFile, FileStep}
use Rattle.file_rule.specs.FilePhases.{FileInput, Recall as ToRecall, Revokes, held_in, by_client, recalled_row, phase}
use Rattle.layout_state.specs.Grants.{holder_to_recall}
use Rattle.nfs4_types.specs.declared.ids.SessionId.{SessionId}
use Rattle.nfs4_types.specs.declared.status.Stat4.{Stat4}
use Rattle.nfs4_types.specs.Channels.{channel_attrs4}
use Rattle.nfs4_session_ops.specs.BindConn.{bind_conn4_args}
use Rattle.nfs4_session_ops.specs.ExchangeId.{exchange_id4_args}
use Rattle.nfs4_session_ops.specs.CreateSession.{create_session4_args}
use Rattle.nfs4_session.specs.declared.begin.SlotPass.{SlotPass}
use Rattle.nfs4_session.specs.declared.faults.Created.{Created}
use Rattle.nfs4_session.specs.declared.faults.IdFault.{IdFault}
use Rattle.nfs4_session.specs.declared.faults.SessionFault.{SessionFault}
use Rattle.nfs4_session.specs.Clients.{SessionsState, has_id, client_in, session_of}
use Rattle.nfs4_session.specs.ExchangeIds.{ExchangeCase, exchange_case, exchange_fault, after_exchange}
use Rattle.nfs4_session.specs.CreateSessions.{CreateSessionCase, create_session_case, create_session_fault, created_answer, after_creating}
use Rattle.nfs4_session.specs.Bindings.{after_binding}
use Rattle.nfs4_session.specs.Ends.{without_session, without_client, destroy_client_fault}
use Rattle.nfs4_session.specs.TableLaw.{ExchangeId, CreateSession, Bind, DestroySession, DestroyClient, exchanged_unless, destroyed_unless}
use Rattle.recall.specs.Recalls.{is_under_way, new_recall, with_recall}
use Rattle.mds_rule.specs.MdsStates.{CompoundRun, ServedFile, MdsSend, MdsValue, MdsStep, sends_none, served}
use Rattle.mds_rule.specs.OpSteps.{OpStep, Goes, with_result, refuses, refused_or}
use Rattle.mds_rule.specs.ServedFiles.{has_fresh, file_behind, file_stepped, input_at, takes_input, with_new_recall, recall_by, recall_at, asks_back, held_from, one_by_one, ends_periods, forgotten, ends_client}
use Rattle.mds_rule.specs.SessionOps.{with_exchange, runs_exchange, confirms, gone_with, goes_with, with_session, with_create, runs_create, on_session, runs_bind, runs_destroy_session, runs_destroy_client, reclaims}
use Rattle.mds_walk.proofs.Parts.{Parts, Becomes, HeardOf, TakesInput, comes_unasked, moved}
use Rattle.mds_walk.proofs.Served.{stepped_there}
use Rattle.mds_walk.proofs.Keeping.{KeepsOp, Silent, no_entries, stays, enters_then, silent_then, silent_none, silent_same, becomes_silent}

-- ---- a file that a client holds

abbrev IsClients : LayoutPhase → Type 0
IsClients p = (n : ℕ) × (recalled : Bool) × (p ≡ Held (Client n) recalled)

client_holds : (p : LayoutPhase) → is_some (holder_to_recall p) ≡ true → IsClients p
client_holds Making is = absurd cc
client_holds Free is = absurd cc
client_holds (Held Mds recalled) is = absurd cc
client_holds (Held (Server n) recalled) is = absurd cc
client_holds (Held (Client n) recalled) is = (n, recalled, refl)
client_holds (Fencing next end) is = absurd cc
client_holds (Settling copies) is = absurd cc
client_holds (Copying copier copies) is = absurd cc

-- it holds it still when it is to be asked for it, in the same period
record IsHeldStill (x : MdsValue) (file : FileId) (s : ServedFile) : Type 0 where
  pub t : ServedFile
  pub there : served x file ≡ Some t
  pub same : t.file.layout.cred ≡ s.file.layout.cred
  pub node : ℕ
  pub recalled : Bool
  pub held : t.file.layout.phase ≡ Held (Client node) recalled

abbrev KeepsPeriod : MdsFile → MdsFile → Type 0
KeepsPeriod f g = (g.layout.cred ≡ f.layout.cred) × IsClients g.layout.phase

period_kept : (file : FileId) (fresh : Fresh) (f : MdsFile) → IsClients f.layout.phase → KeepsPeriod f (phase file f ToRecall fresh).file
period_kept file fresh f (n, recalled, at) = subst (λ (p : LayoutPhase). KeepsPeriod f (held_in f (by_client f (recalled_row f)) p).file) (sym at) (refl, (n, true, refl))

held_still : (m : MdsValue) (file : FileId) (s : ServedFile) → served m file ≡ Some s → IsClients s.file.layout.phase → IsHeldStill (takes_input m file ToRecall).mds file s
held_still m file s there client =
    subst (λ (o : Option ServedFile). IsHeldStill (input_at m file ToRecall o).mds file s) (sym there)
    (cond_both (has_fresh m.fresh) (file_stepped m file s (phase file s.file ToRecall m.fresh)) (sends_none m) (λ (x : MdsStep). IsHeldStill x.mds file s)
    (λ fresh.
    let step : FileStep = phase file s.file ToRecall m.fresh in
    let k : KeepsPeriod s.file step.file = period_kept file m.fresh s.file client in
    record { t = file_behind s step; there = stepped_there m file s step there; same = k.0; node = k.1.0; recalled = k.1.1; held = k.1.2 })
    (λ off. record { t = s; there = there; same = refl; node = client.0; recalled = client.1; held = client.2 }))

module _ (I : MdsValue → List Entry → List MdsSend → Type 0) (Heard : HeardOf) (W : CompoundRun → Type 0) (k : Parts I Heard W) where
  -- ---- one input

  input_walk : (m : MdsValue) (file : FileId) (input : FileInput) → ((s : ServedFile) → TakesInput I m file s input) → (o : Option ServedFile) → served m file ≡ o → Silent I m (input_at m file input o)
  input_walk m file input each None at = silent_same I m
  input_walk m file input each (Some s) at =
      cond_both (has_fresh m.fresh) (file_stepped m file s (phase file s.file input m.fresh)) (sends_none m) (λ (x : MdsStep). Silent I m x)
      (λ fresh. record { enters = each s at fresh; none = refl }) (λ off. silent_same I m)

  -- from wherever it comes
  pub takes_by : (m : MdsValue) (file : FileId) (input : FileInput) → ((s : ServedFile) → TakesInput I m file s input) → Silent I m (takes_input m file input)
  takes_by m file input each = input_walk m file input each (served m file) refl

  pub takes : (m : MdsValue) (file : FileId) (input : FileInput) → comes_unasked input ≡ true → Silent I m (takes_input m file input)
  takes m file input unasked = takes_by m file input (λ s. k.inputs m file s input unasked)

  -- ---- recalls

  recall_noted : (m : MdsValue) (file : FileId) (s : ServedFile) (n : ℕ) (recalled : Bool) (client : Option ℕ) (now : ℕ) → served m file ≡ Some s → s.file.layout.phase ≡ Held (Client n) recalled → Becomes I m (with_new_recall m file s.file.layout.cred client now)
  recall_noted m file s n recalled None now there held = λ es ss i. i
  recall_noted m file s n recalled (Some client) now there held =
      cond_both (is_under_way file s.file.layout.cred m.recalls) m (record m { recalls = with_recall (new_recall file s.file.layout.cred client now) m.recalls }) (λ (x : MdsValue). Becomes I m x)
      (λ is. λ es ss i. i) (λ off. k.asks_recall m file s n recalled client now there held off)

  -- behind the first input of it
  asked_noted : (m : MdsValue) (file : FileId) (s : ServedFile) (now : ℕ) → is_some (holder_to_recall s.file.layout.phase) ≡ true → served m file ≡ Some s
      → Becomes I (takes_input m file ToRecall).mds (with_new_recall (takes_input m file ToRecall).mds file s.file.layout.cred s.holder now)
  asked_noted m file s now held there =
      let x : MdsValue = (takes_input m file ToRecall).mds in
      let a : IsHeldStill x file s = held_still m file s there (client_holds s.file.layout.phase held) in
      subst (λ (c : Cred). Becomes I x (with_new_recall x file c s.holder now)) a.same (recall_noted x file a.t a.node a.recalled s.holder now a.there a.held)

  back_by : (m : MdsValue) (file : FileId) (s : ServedFile) (now : ℕ) → served m file ≡ Some s → (b : Bool) → is_some (holder_to_recall s.file.layout.phase) ≡ b → Silent I m (recall_by m file s now b)
  back_by m file s now there false off = silent_same I m
  back_by m file s now there true held =
      let x : MdsStep = takes_input m file ToRecall in
      let first : Silent I m x = takes m file ToRecall refl in
      let second : Silent I x.mds (sends_none (with_new_recall x.mds file s.file.layout.cred s.holder now)) = silent_none I x.mds (with_new_recall x.mds file s.file.layout.cred s.holder now) (asked_noted m file s now held there) in
      record {
        enters = enters_then I m x.mds (with_new_recall x.mds file s.file.layout.cred s.holder now) x.entries [] first.enters second.enters;
        none = append-nil x.sends ∙ first.none;
      }

  back_at : (m : MdsValue) (file : FileId) (now : ℕ) (o : Option ServedFile) → served m file ≡ o → Silent I m (recall_at m file now o)
  back_at m file now None there = silent_same I m
  back_at m file now (Some s) there = back_by m file s now there (is_some (holder_to_recall s.file.layout.phase)) refl

  pub asks : (m : MdsValue) (file : FileId) (now : ℕ) → Silent I m (asks_back m file now)
  asks m file now = back_at m file now (served m file) refl

  -- ---- the periods of a client

  turns : (step : MdsValue → FileId → MdsStep) → ((m : MdsValue) (file : FileId) → Silent I m (step m file)) → (files : List FileId) (m : MdsValue) → Silent I m (one_by_one step files m)
  turns step one [] m = silent_same I m
  turns step one (file ∷ files) m = silent_then I m (step m file) (λ n. one_by_one step files n) (one m file) (λ n. turns step one files n)

  pub periods : (m : MdsValue) (client : ℕ) (end : EndCause) → Silent I m (ends_periods m client end)
  periods m client end = turns (λ n file. takes_input n file (Revokes end)) (λ n file. takes n file (Revokes end) refl) (held_from client 1 m.files) m

  forgets_client : (client : ℕ) (m : MdsValue) → Becomes I m (forgotten client m)
  forgets_client client m = k.gone m client

  pub client_ends : (m : MdsValue) (client : ℕ) (end : EndCause) → Silent I m (ends_client m client end)
  client_ends m client end = silent_then I m (ends_periods m client end) (λ n. sends_none (forgotten client n)) (periods m client end) (λ n. silent_none I n (forgotten client n) (forgets_client client n))

  -- ---- operations

  -- where it is not refused
  pub unless_refused : (m : MdsValue) (c : CompoundRun) (number : ℕ) (status : Option Stat4) (step : OpStep) → (status ≡ None → KeepsOp I m step) → KeepsOp I m (refused_or m c number status step)
  unless_refused m c number None step q = q refl
  unless_refused m c number (Some status) step q = stays I m

  pub refused : (m : MdsValue) (c : CompoundRun) (number : ℕ) (status : Option Stat4) (step : OpStep) → KeepsOp I m step → KeepsOp I m (refused_or m c number status step)
  refused m c number None step q = q
  refused m c number (Some status) step q = stays I m

  exchange_walk : (m : MdsValue) (c : CompoundRun) (verifier owner : List ℕ) (now : ℕ) (case : ExchangeCase) (fault : Option IdFault)
      → Becomes I m (record m { sessions = exchanged_unless m.sessions (after_exchange m.sessions verifier owner now case) fault }) → KeepsOp I m (with_exchange m c verifier owner now case fault)
  exchange_walk m c verifier owner now case None b = no_entries I m (record m { sessions = after_exchange m.sessions verifier owner now case }) b
  exchange_walk m c verifier owner now case (Some fault) b = stays I m

  pub exchanges : (m : MdsValue) (c : CompoundRun) (now : ℕ) (args : Value exchange_id4_args) → KeepsOp I m (runs_exchange m c now args)
  exchanges m c now (verifier, (owner, (flags, rest))) =
      exchange_walk m c (long verifier) owner now (exchange_case m.sessions.clients (long verifier) owner) (exchange_fault m.sessions (exchange_case m.sessions.clients (long verifier) owner))
      (k.tables m (ExchangeId (long verifier) owner now) tt)

  gone : (client : Option ℕ) (m : MdsValue) → Silent I m (gone_with client m)
  gone None m = silent_same I m
  gone (Some client) m = client_ends m client ClientGone

  session_walk : (m : MdsValue) (c : CompoundRun) (client sequence : ℕ) → ((x : MdsValue) → Becomes I x (confirms client c.node x)) → (fore back : Value channel_attrs4) (sessions : SessionsState) (o : Option Created)
      → Becomes I m (record m { sessions = sessions }) → KeepsOp I m (with_session m c client sequence fore back sessions o)
  session_walk m c client sequence may fore back sessions None b = stays I m
  session_walk m c client sequence may fore back sessions (Some created) b =
      let x : MdsValue = record m { sessions = sessions } in
      let n : MdsValue = confirms client c.node x in
      becomes_silent I m n (gone_with created.gone n) (λ es ss i. may x es ss (b es ss i)) (gone created.gone n)

  create_walk : (m : MdsValue) (c : CompoundRun) (client sequence : ℕ) → ((x : MdsValue) → Becomes I x (confirms client c.node x)) → (fore back : Value channel_attrs4) (program now : ℕ) (case : CreateSessionCase) (fault : Option SessionFault)
      → Becomes I m (record m { sessions = after_creating m.sessions program c.node now case }) → KeepsOp I m (with_create m c client sequence fore back program now case fault)
  create_walk m c client sequence may fore back program now case (Some fault) b = stays I m
  create_walk m c client sequence may fore back program now case None b = session_walk m c client sequence may fore back (after_creating m.sessions program c.node now case) (created_answer m.sessions client case) b

  pub creates : (m : MdsValue) (c : CompoundRun) (now : ℕ) (args : Value create_session4_args) → ((x : MdsValue) → Becomes I x (confirms args.0 c.node x)) → KeepsOp I m (runs_create m c now args)
  creates m c now (client, (sequence, (flags, (fore, (back, (program, security)))))) may =
      create_walk m c client sequence may fore back program now (create_session_case m.sessions client sequence) (create_session_fault (create_session_case m.sessions client sequence))
      (k.tables m (CreateSession client sequence program c.node now) tt)

  at_session : (m : MdsValue) (c : CompoundRun) (number : ℕ) (session : SessionId) (step : OpStep) → KeepsOp I m step → KeepsOp I m (on_session m c number session step)
  at_session m c number session step q =
      cond_both (is_some (session_of m.sessions.clients session)) step (refuses m c number Rattle.nfs4_types.specs.declared.status.Stat4.TheVariants.BadSession) (λ (x : OpStep). KeepsOp I m x) (λ is. q) (λ off. stays I m)

  pub binds : (m : MdsValue) (c : CompoundRun) (args : Value bind_conn4_args) → KeepsOp I m (runs_bind m c args)
  binds m c (session, (direction, rdma)) =
      at_session m c 41 (record { 0 = session }) _ (no_entries I m (record m { sessions = after_binding m.sessions (record { 0 = session }) c.node }) (k.tables m (Bind (record { 0 = session }) c.node) tt))

  pub destroys_session : (m : MdsValue) (c : CompoundRun) (session : List ℕ) → ((x : MdsValue) (id : SessionId) → Becomes I x (moved x (DestroySession id))) → KeepsOp I m (runs_destroy_session m c session)
  destroys_session m c session may =
      at_session m c 44 (record { 0 = session }) _ (no_entries I m (record m { sessions = without_session m.sessions (record { 0 = session }) }) (may m (record { 0 = session })))

  destroy_walk : (m : MdsValue) (c : CompoundRun) (client : ℕ) (fault : Option Stat4) → Becomes I m (record m { sessions = destroyed_unless m.sessions (without_client m.sessions client) fault })
      → KeepsOp I m (refused_or m c 57 fault (goes_with (ends_client (record m { sessions = without_client m.sessions client }) client ClientGone) (with_result c (arm 57 Rattle.nfs4_compound.specs.Results.resop4 (inl tt)))))
  destroy_walk m c client None b =
      becomes_silent I m (record m { sessions = without_client m.sessions client }) (ends_client (record m { sessions = without_client m.sessions client }) client ClientGone) b
      (client_ends (record m { sessions = without_client m.sessions client }) client ClientGone)
  destroy_walk m c client (Some status) b = stays I m

  pub destroys_client : (m : MdsValue) (c : CompoundRun) (client : ℕ) → KeepsOp I m (runs_destroy_client m c client)
  destroys_client m c client = destroy_walk m c client (destroy_client_fault (find (has_id client) m.sessions.clients)) (k.tables m (DestroyClient client) tt)

  pub reclaims_all : (m : MdsValue) (c : CompoundRun) (slot : Option SlotPass) → KeepsOp I m (reclaims m c slot)
  reclaims_all m c None = stays I m
  reclaims_all m c (Some slot) =
      cond_both (list_any (nat_eq (client_in slot.session)) m.reclaimed) (refuses m c 58 Rattle.nfs4_types.specs.declared.status.Stat4.TheVariants.CompleteAlready)
      (Goes (record m { reclaimed = m.reclaimed ++ client_in slot.session ∷ [] }) [] (with_result c (arm 58 Rattle.nfs4_compound.specs.Results.resop4 (inl tt)))) (λ (x : OpStep). KeepsOp I m x)
      (λ is. stays I m) (λ off. no_entries I m (record m { reclaimed = m.reclaimed ++ client_in slot.session ∷ [] }) (k.reclaims m (client_in slot.session)))
