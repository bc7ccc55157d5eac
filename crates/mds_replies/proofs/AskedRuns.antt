-- Each reply answers a call that came: where that takes no slot in this event, and where it does in this event or before.
use Rattle.std.proofs.Common.{◌≡◌, ℕ, Bool, true, false, List, [], ◌∷◌, ◌++◌, Option, None, refl, sym, ap, subst, ◌∙◌}
use Rattle.std.proofs.lemmas.List.{append_assoc, append-nil}
use Rattle.ff_xdr.specs.Form.{Value}
use Rattle.rpc_record.specs.Replies.{RpcReply}
use Rattle.compound_reply.specs.Replied.{success_reply}
use Rattle.cluster_model.specs.declared.ids.NodeId.{NodeId}
use Rattle.cluster_model.specs.declared.entry.Entry.{Entry}
use Rattle.cluster_model.specs.Members.{IsOneOf}
use Rattle.device_addr.specs.Universal.{AddressValue}
use Rattle.nfs4_types.specs.declared.ids.SessionId.{SessionId}
use Rattle.nfs4_types.specs.declared.status.Stat4.{Stat4}
use Rattle.nfs4_compound.specs.Args.{argop4}
use Rattle.nfs4_compound.specs.Results.{resop4}
use Rattle.nfs4_compound.specs.Compounds.{CompoundValue}
use Rattle.nfs4_compound.specs.declared.stop.Stop.TheVariants as stop
use Rattle.nfs4_session.specs.Slots.{SlotAnswer, TakesEffect, Repeats, Refuses}
use Rattle.nfs4_session.specs.Clients.{SessionsState}
use Rattle.nfs4_session.specs.Requests.{request_answer}
use Rattle.nfs4_session.specs.Bindings.{after_binding}
use Rattle.nfs4_session.specs.TableLaw.{TableMove, table_after}
use Rattle.client_session_calls.specs.SessionOps.{exchange_id_op, create_session_op}
use Rattle.client_mds_calls.specs.MdsCalls.{SlotCallValue, MdsCallValue, ExchangeId, CreateSession, OnSlot, ask_on_slot, takes_slot}
use Rattle.client_mds_calls.specs.MdsCalls as slot
use Rattle.client_mds_calls.specs.MdsCompounds.{slot_ops, mds_ops}
use Rattle.mds_receive.specs.MdsReceive.{IsCompound, incoming_of}
use Rattle.mds_rule.specs.MdsStates.{CompoundRun, WaitingRead, WaitingWrite, ServedFile, MdsSend, Replies, MdsValue, MdsStep}
use Rattle.mds_rule.specs.OpSteps.{with_result, refused_as}
use Rattle.mds_rule.specs.Compounds.{compound_bytes, kept_in_slot, sequenced}
use Rattle.mds_walk.specs.MdsRuns.{MdsInput, MdsEvent, Hears, IsTimedOut, Ticks, RecallsFile, Resilvers, after_event}
use Rattle.mds_walk.proofs.Lists.{AllOf}
use Rattle.mds_walk.proofs.Parts.{Keeps, AllWait, IsNoTurn}
use Rattle.mds_laws.proofs.Keeping.{IsNoRequest}
use Rattle.mds_replies.specs.ClientCalls.{IsCallFrom, server_after, IsEventOf}
use Rattle.mds_replies.specs.SlotReplies.{request_of}
use Rattle.mds_replies.specs.AnsweredRequests.{AreFitCalls}
use Rattle.mds_replies.specs.GivenAnswers.{AnswersAsked, EachReplyIsAsked}
use Rattle.mds_replies.proofs.HeldFiles.{in_behind}
use Rattle.mds_replies.proofs.PeriodKept.{sent_with_calls, in_sent}
use Rattle.mds_replies.proofs.OutCalls.{are_called}
use Rattle.mds_replies.proofs.ReplySent.{run_of_call, event_is, of_calls}
use Rattle.mds_replies.proofs.LegibleResults.{IsLegible}
use Rattle.mds_replies.proofs.SameRuns.{Like}
use Rattle.mds_replies.proofs.TakenRequests.{taken_mds, taken_compound}
use Rattle.mds_replies.proofs.TakenMeans.{one_more}
use Rattle.mds_replies.proofs.CallEvents.{Brings, ACall, Nothing, brings, is_return_call, FitsOps, ops_fit}
use Rattle.mds_replies.proofs.Turns.{AnyLeft, says_any, sends, own_reply, IsSo, finish_keeps, AreFine, run_keeps, alone_keeps, out_keeps, BringsNone, other_keeps}
use Rattle.mds_replies.proofs.SlotTables.{all_more}
use Rattle.mds_replies.proofs.RequestRuns.{fit_at}

-- ---- the compounds that wait

-- such a compound came as a request on a slot, and none of its operations is left
record Waits (past : List MdsEvent) (c : CompoundRun) : Type 0 where
  early : List MdsEvent
  f : MdsEvent
  late : List MdsEvent
  split : IsEventOf past early f late
  name : List ℕ
  session : SessionId
  number : ℕ
  call : SlotCallValue
  came : IsCallFrom f c.node c.xid name (OnSlot session number call)
  ops : c.ops ≡ []
  end : c.stop ≡ stop.End None

waits_more : (past : List MdsEvent) (e : MdsEvent) (c : CompoundRun) → Waits past c → Waits (past ++ e ∷ []) c
waits_more past e c w = record {
  early = w.early;
  f = w.f;
  late = w.late ++ e ∷ [];
  split = ap (λ (l : List MdsEvent). l ++ e ∷ []) w.split ∙ append_assoc w.early (w.f ∷ w.late) (e ∷ []);
  name = w.name;
  session = w.session;
  number = w.number;
  call = w.call;
  came = w.came;
  ops = w.ops;
  end = w.end;
}

wait_more : (past : List MdsEvent) (e : MdsEvent) (reads : List WaitingRead) (write : Option WaitingWrite) → AllWait (Waits past) reads write → AllWait (Waits (past ++ e ∷ [])) reads write
wait_more past e reads write a = record { reads_so = λ r inside. waits_more past e r.compound (a.reads_so r inside); write_so = λ w is. waits_more past e w.compound (a.write_so w is) }

abbrev FilesWait : List MdsEvent → MdsValue → Type 0
FilesWait past m = AllOf (λ (s : ServedFile). AllWait (Waits past) s.reads s.write) m.files

-- its request takes a slot
on_slot : (call : SlotCallValue) → takes_slot (ask_on_slot call) ≡ true
on_slot slot.ReclaimComplete = refl
on_slot (slot.Open name) = refl
on_slot (slot.LayoutGet file) = refl
on_slot (slot.DeviceInfo servers) = refl
on_slot (slot.Write file at bytes) = refl
on_slot (slot.Read file at count) = refl
on_slot (slot.LayoutReturn file stateid failed) = refl
on_slot slot.Renew = refl

not_both : true ≡ false → ⊥
not_both is = absurd cc

abbrev AnyEntry : Entry → Type 0
AnyEntry e = Unit {0}

abbrev AnyTable : SessionsState → Type 0
AnyTable s = Unit {0}

any_moves : (s : SessionsState) (move : TableMove) → IsNoTurn move → AnyTable s → AnyTable (table_after s move)
any_moves s move none q = tt

-- ---- an event

module _ (servers : List AddressValue) (mirrors : ℕ) (past : List MdsEvent) (e : MdsEvent) (waiting : FilesWait past (server_after servers mirrors past)) where
  abbrev W : CompoundRun → Type 0
  W c = Waits (past ++ e ∷ []) c

  ends : (c : CompoundRun) → W c → (c.ops ≡ []) × (c.stop ≡ stop.End None)
  ends c w = (w.ops, w.end)

  abbrev Asked : NodeId → RpcReply → Type 0
  Asked node reply = AnswersAsked servers mirrors past e node reply

  -- a compound that waited
  waited : (c : CompoundRun) (results : List ℕ) → W c → Asked c.node (success_reply c.xid results)
  waited c results w = record {
    early = w.early;
    f = w.f;
    late = w.late;
    split = w.split;
    name = w.name;
    call = OnSlot w.session w.number w.call;
    came = w.came;
    now = λ off. absurd (not_both (sym (on_slot w.call) ∙ off));
  }

  -- whatever the table of clients is
  abbrev AskedIn : SessionsState → NodeId → RpcReply → Type 0
  AskedIn s node reply = AnswersAsked servers mirrors past e node reply

  stays_asked : (s : SessionsState) (move : TableMove) → IsNoRequest move → (node : NodeId) (reply : RpcReply) → AskedIn s node reply → AskedIn (table_after s move) node reply
  stays_asked s move none node reply a = a

  replied : (s : SessionsState) → AnyTable s → (c : CompoundRun) (result : Value resop4) (status : Stat4) → IsLegible result → W c
      → AnyTable (kept_in_slot s c.slot (compound_bytes (with_result c result) status)) × Asked c.node (success_reply c.xid (compound_bytes (with_result c result) status))
  replied s q c result status read w = (tt, waited c (compound_bytes (with_result c result) status) w)

  abbrev So : MdsValue → List Entry → List MdsSend → Type 0
  So = IsSo W ends AnyTable any_moves AskedIn stays_asked replied AnyEntry (λ x none. tt)

  start : So (server_after servers mirrors past) [] (sent_with_calls (server_after servers mirrors past).calls)
  start = record {
    waits = all_more (λ (s : ServedFile). AllWait (Waits past) s.reads s.write) (λ (s : ServedFile). AllWait W s.reads s.write) (λ s a. wait_more past e s.reads s.write a) (server_after servers mirrors past).files waiting;
    table = tt;
    entries = tt;
    replies = λ node reply inside. absurd (of_calls (server_after servers mirrors past).calls (Replies node reply) (are_called servers mirrors past) inside);
    were = λ call inside. in_sent call (server_after servers mirrors past).calls inside;
  }

  record EventSo : Type 0 where
    next : FilesWait (past ++ e ∷ []) (server_after servers mirrors (past ++ e ∷ []))
    replies : (node : NodeId) (reply : RpcReply) → IsOneOf (Replies node reply) (after_event e (server_after servers mirrors past)).sends → Asked node reply

  ended_so : Keeps So (server_after servers mirrors past) (after_event e (server_after servers mirrors past)) → EventSo
  ended_so q =
      let old : List MdsSend = sent_with_calls (server_after servers mirrors past).calls in
      let s : So (after_event e (server_after servers mirrors past)).mds ([] ++ (after_event e (server_after servers mirrors past)).entries) (old ++ (after_event e (server_after servers mirrors past)).sends) = q [] old start in
      record {
        next = subst (λ (x : MdsValue). FilesWait (past ++ e ∷ []) x) (sym (one_more servers mirrors past e)) s.waits;
        replies = λ node reply inside. s.replies node reply (in_behind (Replies node reply) old (after_event e (server_after servers mirrors past)).sends inside);
      }

  nothing_so : ((node : NodeId) (bytes : List ℕ) → e.input ≡ Hears node bytes → (xid : ℕ) (c : CompoundValue) → incoming_of bytes ≡ IsCompound xid c → ⊥) → EventSo
  nothing_so none = ended_so (other_keeps W ends AnyTable any_moves AskedIn stays_asked replied AnyEntry (λ x n. tt) e (server_after servers mirrors past) (by_input e.input refl))
    where
      by_input : (input : MdsInput) → e.input ≡ input → BringsNone W ends AnyTable any_moves AskedIn stays_asked replied AnyEntry (λ x n. tt) input
      by_input (Hears node bytes) at = none node bytes at
      by_input (IsTimedOut to which) at = tt
      by_input Ticks at = tt
      by_input (RecallsFile file) at = tt
      by_input (Resilvers file) at = tt

  -- ---- a compound of a client

  module _ (node : NodeId) (xid : ℕ) (name : List ℕ) (call : MdsCallValue) (came : IsCallFrom e node xid name call) where
    abbrev new_compound : CompoundRun
    new_compound = record { node = node; xid = xid; tag = []; ops = mds_ops name call; stop = stop.End None; results = []; slot = None; is_kept = false; current = None }

    -- its reply
    own : (results : List ℕ) → Asked node (success_reply xid results)
    own results = record { early = past; f = e; late = []; split = refl; name = name; call = call; came = came; now = λ off. came }

    mine : (c d : CompoundRun) (status : Stat4) → c.node ≡ node → c.xid ≡ xid → Like c d → Asked d.node (success_reply d.xid (compound_bytes d status))
    mine c d status at numbered l =
        let bytes : List ℕ = compound_bytes d status in
        subst (λ (x : NodeId). Asked x (success_reply d.xid bytes)) (sym (l.node ∙ at)) (subst (λ (x : ℕ). Asked node (success_reply x bytes)) (sym (l.xid ∙ numbered)) (own bytes))

    ran_so : Keeps So (server_after servers mirrors past) (run_of_call e.now (server_after servers mirrors past) node xid name call) → EventSo
    ran_so q =
        ended_so
        (subst (λ (s : MdsStep). Keeps So (server_after servers mirrors past) s) (sym (event_is e (server_after servers mirrors past) node xid name call came))
        (out_keeps W ends AnyTable any_moves AskedIn stays_asked replied AnyEntry (λ x n. tt) (server_after servers mirrors past) (run_of_call e.now (server_after servers mirrors past) node xid name call) q))

  exchange_so : (node : NodeId) (xid : ℕ) (name : List ℕ) (verifier : ℕ) → IsCallFrom e node xid name (ExchangeId verifier) → EventSo
  exchange_so node xid name verifier came =
      ran_so node xid name (ExchangeId verifier) came
      (alone_keeps W ends AnyTable any_moves AskedIn stays_asked replied AnyEntry (λ x n. tt) e.now (server_after servers mirrors past) (new_compound node xid name (ExchangeId verifier) came) (exchange_id_op name verifier) refl refl refl
      (λ d status l its t q. (tt, mine node xid name (ExchangeId verifier) came (new_compound node xid name (ExchangeId verifier) came) d status refl refl l)))

  create_so : (node : NodeId) (xid : ℕ) (name : List ℕ) (client sequence : ℕ) → IsCallFrom e node xid name (CreateSession client sequence) → EventSo
  create_so node xid name client sequence came =
      ran_so node xid name (CreateSession client sequence) came
      (alone_keeps W ends AnyTable any_moves AskedIn stays_asked replied AnyEntry (λ x n. tt) e.now (server_after servers mirrors past) (new_compound node xid name (CreateSession client sequence) came) (create_session_op client sequence) refl refl refl
      (λ d status l its t q. (tt, mine node xid name (CreateSession client sequence) came (new_compound node xid name (CreateSession client sequence) came) d status refl refl l)))

  fine_ops : (returns : Bool) (ops : List (Value argop4)) → FitsOps returns ops → AreFine W ends AnyTable any_moves AskedIn stays_asked replied AnyEntry (λ x none. tt) ops
  fine_ops returns [] f = tt
  fine_ops returns (op ∷ ops) f = (record { last = f.0.0; any = λ is x. tt }, fine_ops returns ops f.1)

  module _ (node : NodeId) (xid : ℕ) (name : List ℕ) (session : SessionId) (number : ℕ) (call : SlotCallValue) (came : IsCallFrom e node xid name (OnSlot session number call)) where
    abbrev bound : MdsValue
    bound = record (server_after servers mirrors past) { sessions = after_binding (server_after servers mirrors past).sessions session node }

    abbrev new_run : CompoundRun
    new_run = new_compound node xid name (OnSlot session number call) came

    slot_keeps : (a : SlotAnswer) → Keeps So (server_after servers mirrors past) (sequenced e.now bound new_run (slot_ops name call) (request_of session number call) a)
    slot_keeps TakesEffect =
        λ es ss j.
        run_keeps W ends AnyTable any_moves AskedIn stays_asked replied AnyEntry (λ x n. tt) AnyLeft (λ left ops c its. tt) e.now (slot_ops name call) (fine_ops (is_return_call call) (slot_ops name call) (ops_fit name call)) (says_any (slot_ops name call)) (taken_mds e.now (server_after servers mirrors past) node session number call)
        (taken_compound node xid name session number call) tt refl (λ left d status l its t q. (tt, mine node xid name (OnSlot session number call) came (taken_compound node xid name session number call) d status refl refl l))
        (λ d op l its none some. record {
          early = past;
          f = e;
          late = [];
          split = refl;
          name = name;
          session = session;
          number = number;
          call = call;
          came = subst (λ (x : NodeId). IsCallFrom e x d.xid name (OnSlot session number call)) (sym l.node) (subst (λ (x : ℕ). IsCallFrom e node x name (OnSlot session number call)) (sym l.xid) came);
          ops = none;
          end = l.stop;
        })
        es ss (record { waits = j.waits; table = tt; entries = j.entries; replies = j.replies; were = j.were })
    slot_keeps (Repeats bytes) =
        λ es ss j.
        subst (λ (l : List Entry). So bound l (ss ++ Replies node (success_reply xid bytes) ∷ [])) (sym (append-nil es))
        (sends W ends AnyTable any_moves AskedIn stays_asked replied AnyEntry (λ x k. tt) bound es ss (Replies node (success_reply xid bytes))
        (own_reply W ends AnyTable any_moves AskedIn stays_asked replied AnyEntry (λ x k. tt) bound.sessions node (success_reply xid bytes) (own node xid name (OnSlot session number call) came bytes))
        (record { waits = j.waits; table = tt; entries = j.entries; replies = j.replies; were = j.were }))
    slot_keeps (Refuses status) =
        λ es ss j.
        let refused : CompoundRun = with_result new_run (refused_as 53 status) in
        finish_keeps W ends AnyTable any_moves AskedIn stays_asked replied AnyEntry (λ x k. tt) bound refused status (λ q. (tt, own node xid name (OnSlot session number call) came (compound_bytes refused status))) es ss
        (record { waits = j.waits; table = tt; entries = j.entries; replies = j.replies; were = j.were })

    slot_so : EventSo
    slot_so = ran_so node xid name (OnSlot session number call) came (slot_keeps (request_answer (after_binding (server_after servers mirrors past).sessions session node) (request_of session number call)))

  event_so : Brings e → EventSo
  event_so (ACall node xid name (ExchangeId verifier) came fits) = exchange_so node xid name verifier came
  event_so (ACall node xid name (CreateSession client sequence) came fits) = create_so node xid name client sequence came
  event_so (ACall node xid name (OnSlot session number call) came fits) = slot_so node xid name session number call came
  event_so (Nothing none) = nothing_so none

-- ---- a run

module _ (servers : List AddressValue) (mirrors : ℕ) (events : List MdsEvent) (fit : AreFitCalls events) where
  event_of : (past after : List MdsEvent) (e : MdsEvent) (split : IsEventOf events past e after) (i : FilesWait past (server_after servers mirrors past)) → EventSo servers mirrors past e i
  event_of past after e split i = event_so servers mirrors past e i (brings e (fit_at past after e (subst AreFitCalls split fit)))

  run_so : (past before rest : List MdsEvent) → events ≡ past ++ (before ++ rest) → FilesWait past (server_after servers mirrors past) → FilesWait (past ++ before) (server_after servers mirrors (past ++ before))
  run_so past [] rest is i = subst (λ (l : List MdsEvent). FilesWait l (server_after servers mirrors l)) (sym (append-nil past)) i
  run_so past (e ∷ before) rest is i =
      subst (λ (l : List MdsEvent). FilesWait l (server_after servers mirrors l)) (append_assoc past (e ∷ []) before)
      (run_so (past ++ e ∷ []) before rest (is ∙ sym (append_assoc past (e ∷ []) (before ++ rest))) (event_of past (before ++ rest) e is i).next)

pub each_reply_is_asked : EachReplyIsAsked
each_reply_is_asked servers mirrors events before after e fit split node reply inside =
    (event_of servers mirrors events fit before after e split (run_so servers mirrors events fit [] before (e ∷ after) split tt)).replies node reply inside
