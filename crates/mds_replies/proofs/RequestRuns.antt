-- Each reply that a metadata server sends answers a call that came, and stands on what the slot says of it, in every run.
use Rattle.std.proofs.Common.{◌≡◌, ◌≤◌, ℕ, Bool, true, false, List, [], ◌∷◌, ◌++◌, length, Option, Some, None, refl, sym, ap, subst, ◌∙◌, inl, inr, ◌⊎◌, arith}
use Rattle.std.proofs.lemmas.List.{append_assoc, append-nil}
use Rattle.std.proofs.lemmas.Option.{same_Some, none-some}
use Rattle.ff_xdr.specs.Arms.{arm}
use Rattle.ff_xdr.specs.Form.{Value, spelling}
use Rattle.rpc_record.specs.Replies.{RpcReply}
use Rattle.compound_reply.specs.Replied.{success_reply}
use Rattle.cluster_model.specs.declared.ids.NodeId.{NodeId}
use Rattle.cluster_model.specs.declared.entry.Entry.{Entry}
use Rattle.cluster_model.specs.Members.{IsOneOf}
use Rattle.device_addr.specs.Universal.{AddressValue}
use Rattle.nfs4_types.specs.declared.ids.SessionId.{SessionId}
use Rattle.nfs4_types.specs.declared.sequence.Sequence.{Sequence}
use Rattle.nfs4_types.specs.declared.status.Stat4.{Stat4}
use Rattle.nfs4_types.specs.declared.status.Stat4.TheVariants as stat
use Rattle.nfs4_types.specs.Status.{stat4_number}
use Rattle.nfs4_compound.specs.Args.{argop4}
use Rattle.nfs4_compound.specs.Results.{resop4}
use Rattle.nfs4_compound.specs.Compounds.{CompoundValue, compound4_res}
use Rattle.nfs4_compound.specs.declared.stop.Stop.TheVariants as stop
use Rattle.nfs4_session.specs.declared.begin.SlotPass.{SlotPass}
use Rattle.nfs4_session.specs.Slots.{SlotAnswer, TakesEffect, Repeats, Refuses}
use Rattle.nfs4_session.specs.Clients.{SessionsState, client_in, number_in}
use Rattle.nfs4_session.specs.Requests.{request_answer, after_request, pass_of, after_finish}
use Rattle.nfs4_session.specs.Bindings.{after_binding}
use Rattle.nfs4_session.specs.TableLaw.{TableMove, Bind, BeginRequest, FinishRequest, table_after, KeepsTable}
use Rattle.nfs4_session.specs.Beginning.{table_begun}
use Rattle.client_session_calls.specs.SessionOps.{exchange_id_op, create_session_op}
use Rattle.client_mds_calls.specs.declared.reply.SlotReport.TheVariants.{Taken}
use Rattle.client_mds_calls.specs.FittingCalls.{FitsRequest}
use Rattle.client_mds_calls.specs.MdsCalls.{SlotCallValue, MdsCallValue, ExchangeId, CreateSession, OnSlot, ask_on_slot, is_kept_reply}
use Rattle.client_mds_calls.specs.MdsCalls as slot
use Rattle.client_mds_calls.specs.MdsCompounds.{slot_ops, mds_ops}
use Rattle.client_mds_calls.specs.MdsReplies.{reply_of_ask}
use Rattle.mds_receive.specs.MdsReceive.{IsCompound, incoming_of}
use Rattle.mds_rule.specs.MdsStates.{CompoundRun, WaitingRead, WaitingWrite, ServedFile, MdsSend, Replies, MdsValue, MdsStep, and_then}
use Rattle.mds_rule.specs.OpSteps.{with_result, refused_as}
use Rattle.mds_rule.specs.LayoutOps.{layout_of_file, no_stateid}
use Rattle.mds_rule.specs.Compounds.{compound_bytes, kept_in_slot, runs, sequenced, sequence_result}
use Rattle.mds_rule.specs.Goes.{calls_out}
use Rattle.mds_walk.specs.MdsRuns.{MdsInput, MdsEvent, Hears, IsTimedOut, Ticks, RecallsFile, Resilvers, after_event}
use Rattle.mds_walk.specs.FirstRequests.{first_request}
use Rattle.mds_walk.proofs.Lists.{AllOf}
use Rattle.mds_walk.proofs.Parts.{Keeps, AllWait, IsNoTurn}
use Rattle.mds_laws.proofs.Keeping.{IsNoRequest}
use Rattle.mds_walk.proofs.Keeping.{joined}
use Rattle.mds_replies.specs.ClientCalls.{IsCallFrom, server_after, IsEventOf}
use Rattle.mds_replies.specs.SlotReplies.{request_of, TookEffect, EffectsAreNumbered}
use Rattle.mds_replies.specs.AnsweredRequests.{HearsFitCall, AreFitCalls, StaysRoomy, IsFreeAt, StandsFor, AnswersRequest, EachReplyStands}
use Rattle.mds_replies.proofs.HeldFiles.{in_behind}
use Rattle.mds_replies.proofs.PeriodKept.{sent_with_calls, in_sent}
use Rattle.mds_replies.proofs.OutCalls.{are_called}
use Rattle.mds_replies.proofs.ReplySent.{run_of_call, event_is, of_calls}
use Rattle.mds_replies.proofs.SameRuns.{Like}
use Rattle.mds_replies.proofs.TakenRequests.{taken_mds, taken_compound, HasEnded}
use Rattle.mds_replies.proofs.LayoutGetRuns.{GetEnds, IsRefused, Grants}
use Rattle.mds_replies.proofs.GetSizes.{refused_short, granted_short}
use Rattle.mds_replies.proofs.ReportedMirrors.{errors_for}
use Rattle.mds_replies.proofs.LayoutReturnRuns.{given_step, ReturnEnds, Accepts}
use Rattle.mds_replies.proofs.LayoutReturnRuns as giving
use Rattle.mds_replies.proofs.TakenMeans.{one_more, after_is, first_in, first_fits, get_of, return_of, effect_means}
use Rattle.mds_replies.proofs.TakenTells.{layout_tells}
use Rattle.mds_replies.proofs.CallCounts.{few_operations}
use Rattle.mds_replies.proofs.LegibleResults.{IsLegible}
use Rattle.mds_replies.proofs.LegibleReplies.{TellsTaken, tells_fitting, legible_more, tells_so}
use Rattle.mds_replies.proofs.LegibleOps.{IsLegibleRun, run_on, calls_say}
use Rattle.mds_replies.proofs.CallEvents.{Brings, ACall, Nothing, brings, is_return_call, FitsOps, ops_fit}
use Rattle.mds_replies.proofs.Turns.{has_waiting, AnyLeft, says_any, sends, own_reply, IsSo, finish_keeps, AreFine, run_keeps, alone_keeps, go_out, out_keeps, BringsNone, other_keeps}
use Rattle.mds_replies.proofs.SlotTables.{TableSo, ClientSo, SessionSo, all_more, turn_so, end_so, request_so, done_so, SlotJudged, NoSession, BySlot, judged}
use Rattle.mds_replies.proofs.SlotHistories.{get_event, event_of_return, is_layout_call, event_of_call, same_ops, IsTaken, KeptSo, SlotSo, slot_more, kept_now, slot_done, WaitsSo, waits_more, effect_too, StandsWith, AnswersWith, stands_taken, waited_answers, answers_on, stands_behind, answers_request}
use Rattle.mds_replies.proofs.FreeSlots.{IsRunTable, run_table_on, run_table, is_table, FreeIn, free_stays, finish_frees, first_so, answered_free}
use Rattle.mds_replies.proofs.JudgedRequests.{repeats_kept, RefusedAs, refused_by, stands_kept, stands_no_session, stands_refused}

-- what holds behind events
record RunSo (servers : List AddressValue) (mirrors : ℕ) (past : List MdsEvent) (m : MdsValue) : Type 0 where
  pub waits : AllOf (λ (s : ServedFile). AllWait (WaitsSo servers mirrors past) s.reads s.write) m.files
  pub table : TableSo (SlotSo servers mirrors past) m.sessions

abbrev AnyEntry : Entry → Type 0
AnyEntry e = Unit {0}

-- a compound of this node and number replies
abbrev IsFrom : NodeId → ℕ → NodeId → RpcReply → Type 0
IsFrom node xid other reply = (other ≡ node) × (reply.xid ≡ xid)

not_delayed : {status : Stat4} → status ≡ stat.RetryUncachedRep → stat.Delay ≡ status → ⊥
not_delayed retry delayed = absurd (not_same (delayed ∙ retry))
  where
    not_same : stat.Delay ≡ stat.RetryUncachedRep → ⊥
    not_same is = absurd cc

not_both : false ≡ true → ⊥
not_both is = absurd cc

abbrev status_of : SlotAnswer → Stat4
status_of TakesEffect = stat.Ok
status_of (Repeats reply) = stat.Ok
status_of (Refuses status) = status

module _ (tables : KeepsTable) (numbered : EffectsAreNumbered) (servers : List AddressValue) (mirrors : ℕ) (events past after : List MdsEvent) (e : MdsEvent) (fit : AreFitCalls events) (roomy : StaysRoomy servers mirrors events)
    (split : IsEventOf events past e after) (i : RunSo servers mirrors past (server_after servers mirrors past)) where
  abbrev m : MdsValue
  m = server_after servers mirrors past

  abbrev now_past : List MdsEvent
  now_past = past ++ e ∷ []

  abbrev W : CompoundRun → Type 0
  W c = WaitsSo servers mirrors (past ++ e ∷ []) c

  ends : (c : CompoundRun) → WaitsSo servers mirrors (past ++ e ∷ []) c → (c.ops ≡ []) × (c.stop ≡ stop.End None)
  ends c w = (w.ops, w.stop)

  abbrev Slots : SessionsState → Type 0
  Slots s = TableSo (SlotSo servers mirrors (past ++ e ∷ [])) s

  slots_move : (s : SessionsState) (move : TableMove) → IsNoTurn move → TableSo (SlotSo servers mirrors (past ++ e ∷ [])) s → TableSo (SlotSo servers mirrors (past ++ e ∷ [])) (table_after s move)
  slots_move s move none q = turn_so (SlotSo servers mirrors (past ++ e ∷ [])) (λ client number. tt) s move none q

  -- a reply is kept that tells that the request was taken
  slots_end : (s : SessionsState) (slot : Option SlotPass) (bytes : List ℕ) → TellsTaken bytes → Slots s → Slots (kept_in_slot s slot bytes)
  slots_end s None bytes told q = q
  slots_end s (Some pass) bytes told q =
      end_so (SlotSo servers mirrors (past ++ e ∷ [])) (λ client number. tt) s pass bytes (λ client number sequence slot p. slot_done servers mirrors (past ++ e ∷ []) client number sequence bytes told slot p) q

  run_end : (s : SessionsState) (slot : Option SlotPass) (bytes : List ℕ) → IsRunTable s → IsRunTable (kept_in_slot s slot bytes)
  run_end s None bytes run = run
  run_end s (Some pass) bytes run = run_table_on s (FinishRequest pass bytes) run

  abbrev Q : SessionsState → Type 0
  Q s = TableSo (SlotSo servers mirrors (past ++ e ∷ [])) s × IsRunTable s

  moves : (s : SessionsState) (move : TableMove) → IsNoTurn move → Q s → Q (table_after s move)
  moves s move none q = (slots_move s move none q.0, run_table_on s move q.1)

  bare_moves : (s : SessionsState) (move : TableMove) → IsNoTurn move → IsRunTable s → IsRunTable (table_after s move)
  bare_moves s move none q = run_table_on s move q

  ends_with : (s : SessionsState) (slot : Option SlotPass) (bytes : List ℕ) → TellsTaken bytes → Q s → Q (kept_in_slot s slot bytes)
  ends_with s slot bytes told q = (slots_end s slot bytes told q.0, run_end s slot bytes q.1)

  -- without a slot nothing is kept
  ends_without : (s : SessionsState) (slot : Option SlotPass) (bytes : List ℕ) → slot ≡ None → Q s → Q (kept_in_slot s slot bytes)
  ends_without s slot bytes none q = subst (λ (o : Option SlotPass). Q (kept_in_slot s o bytes)) (sym none) q

  -- a reply, where the table of clients is this one
  abbrev Answered : SessionsState → NodeId → RpcReply → Type 0
  Answered s node reply = AnswersWith servers mirrors (FreeIn s) (past ++ e ∷ []) node reply

  answered_stays : (s : SessionsState) (move : TableMove) → IsNoRequest move → (node : NodeId) (reply : RpcReply) → Answered s node reply → Answered (table_after s move) node reply
  answered_stays s move none node reply a = answers_on servers mirrors (FreeIn s) (FreeIn (table_after s move)) (λ session n free. free_stays s move none session n free) (past ++ e ∷ []) node reply a

  -- where the run begins
  wait_more : (reads : List WaitingRead) (write : Option WaitingWrite) → AllWait (WaitsSo servers mirrors past) reads write → AllWait (WaitsSo servers mirrors (past ++ e ∷ [])) reads write
  wait_more reads write a = record { reads_so = λ r inside. waits_more servers mirrors past (e ∷ []) r.compound (a.reads_so r inside); write_so = λ w is. waits_more servers mirrors past (e ∷ []) w.compound (a.write_so w is) }

  begun_waits : AllOf (λ (s : ServedFile). AllWait (WaitsSo servers mirrors (past ++ e ∷ [])) s.reads s.write) (server_after servers mirrors past).files
  begun_waits = all_more (λ (s : ServedFile). AllWait (WaitsSo servers mirrors past) s.reads s.write) (λ (s : ServedFile). AllWait (WaitsSo servers mirrors (past ++ e ∷ [])) s.reads s.write) (λ s a. wait_more s.reads s.write a) (server_after servers mirrors past).files i.waits

  begun_table : TableSo (SlotSo servers mirrors (past ++ e ∷ [])) (server_after servers mirrors past).sessions
  begun_table =
      all_more (ClientSo (SlotSo servers mirrors past)) (ClientSo (SlotSo servers mirrors (past ++ e ∷ [])))
      (λ c so. all_more (SessionSo (SlotSo servers mirrors past) c.id) (SessionSo (SlotSo servers mirrors (past ++ e ∷ [])) c.id) (λ x p. (p.0, λ slot is. slot_more servers mirrors past (e ∷ []) c.id x.number slot (p.1 slot is))) c.sessions so)
      (server_after servers mirrors past).sessions.clients i.table

  began : Q (server_after servers mirrors past).sessions
  began = (begun_table, run_table servers mirrors past)

  -- a slot that is free in the table behind the event
  free_behind : (session : SessionId) (n : ℕ) → FreeIn (after_event e (server_after servers mirrors past)).mds.sessions session n → IsFreeAt (server_after servers mirrors (past ++ e ∷ [])) session n
  free_behind session n free = subst (λ (x : MdsValue). IsFreeAt x session n) (sym (one_more servers mirrors past e)) first_free
    where
      first_free : IsFreeAt (after_event e (server_after servers mirrors past)).mds session n
      first_free slot at = first_so _ (after_event e (server_after servers mirrors past)).mds.sessions session free slot at refl refl

  record EventSo : Type 0 where
    pub next : RunSo servers mirrors (past ++ e ∷ []) (server_after servers mirrors (past ++ e ∷ []))
    pub replies : (node : NodeId) (reply : RpcReply) → IsOneOf (Replies node reply) (after_event e (server_after servers mirrors past)).sends → AnswersRequest servers mirrors (past ++ e ∷ []) node reply

  -- ---- the replies of an event, in one way or another

  module _ (A : SessionsState → NodeId → RpcReply → Type 0) (on : (s : SessionsState) (move : TableMove) → IsNoRequest move → (node : NodeId) (reply : RpcReply) → A s node reply → A (table_after s move) node reply)
      (lift : (s : SessionsState) (node : NodeId) (reply : RpcReply) → Answered s node reply → A s node reply) where
    replied_by : (s : SessionsState) → IsRunTable s → (c : CompoundRun) (bytes : List ℕ) → WaitsSo servers mirrors (past ++ e ∷ []) c → TellsTaken bytes → A (kept_in_slot s c.slot bytes) c.node (success_reply c.xid bytes)
    replied_by s run c bytes w told =
        lift (kept_in_slot s c.slot bytes) c.node (success_reply c.xid bytes)
        (waited_answers servers mirrors (FreeIn (kept_in_slot s c.slot bytes)) (past ++ e ∷ []) c bytes w told
        (subst (λ (o : Option SlotPass). FreeIn (kept_in_slot s o bytes) w.session w.number) (sym w.slot) (finish_frees s (is_table tables s run) w.session w.number bytes)))

    waited_tells : (c : CompoundRun) (result : Value resop4) (status : Stat4) → IsLegible result → WaitsSo servers mirrors (past ++ e ∷ []) c → TellsTaken (compound_bytes (with_result c result) status)
    waited_tells c result status read w = tells_so 0 (with_result c result) status (legible_more 0 c (with_result c result) result w.legible read refl refl)

    replied : (s : SessionsState) → Q s → (c : CompoundRun) (result : Value resop4) (status : Stat4) → IsLegible result → WaitsSo servers mirrors (past ++ e ∷ []) c
        → Q (kept_in_slot s c.slot (compound_bytes (with_result c result) status)) × A (kept_in_slot s c.slot (compound_bytes (with_result c result) status)) c.node (success_reply c.xid (compound_bytes (with_result c result) status))
    replied s q c result status read w =
        let bytes : List ℕ = compound_bytes (with_result c result) status in
        (ends_with s c.slot bytes (waited_tells c result status read w) q, replied_by s q.1 c bytes w (waited_tells c result status read w))

    bare_replied : (s : SessionsState) → IsRunTable s → (c : CompoundRun) (result : Value resop4) (status : Stat4) → IsLegible result → WaitsSo servers mirrors (past ++ e ∷ []) c
        → IsRunTable (kept_in_slot s c.slot (compound_bytes (with_result c result) status)) × A (kept_in_slot s c.slot (compound_bytes (with_result c result) status)) c.node (success_reply c.xid (compound_bytes (with_result c result) status))
    bare_replied s q c result status read w =
        let bytes : List ℕ = compound_bytes (with_result c result) status in (run_end s c.slot bytes q, replied_by s q c bytes w (waited_tells c result status read w))

    abbrev So : MdsValue → List Entry → List MdsSend → Type 0
    So = IsSo (λ (c : CompoundRun). WaitsSo servers mirrors (past ++ e ∷ []) c) ends (λ (s : SessionsState). Q s) moves A on replied AnyEntry (λ x none. tt)

    -- without the slots of the table of clients
    abbrev Bare : MdsValue → List Entry → List MdsSend → Type 0
    Bare = IsSo (λ (c : CompoundRun). WaitsSo servers mirrors (past ++ e ∷ []) c) ends (λ (s : SessionsState). IsRunTable s) bare_moves A on bare_replied AnyEntry (λ x none. tt)

    start : So (server_after servers mirrors past) [] (sent_with_calls (server_after servers mirrors past).calls)
    start = record {
      waits = begun_waits;
      table = began;
      entries = tt;
      replies = λ node reply inside. absurd (of_calls (server_after servers mirrors past).calls (Replies node reply) (are_called servers mirrors past) inside);
      were = λ call inside. in_sent call (server_after servers mirrors past).calls inside;
    }

    ended_at : So (after_event e (server_after servers mirrors past)).mds ([] ++ (after_event e (server_after servers mirrors past)).entries) (sent_with_calls (server_after servers mirrors past).calls ++ (after_event e (server_after servers mirrors past)).sends)
        → ((node : NodeId) (reply : RpcReply) → IsOneOf (Replies node reply) (after_event e (server_after servers mirrors past)).sends → A (after_event e (server_after servers mirrors past)).mds.sessions node reply → AnswersRequest servers mirrors (past ++ e ∷ []) node reply)
        → EventSo
    ended_at s answers = record {
      next = subst (λ (x : MdsValue). RunSo servers mirrors (past ++ e ∷ []) x) (sym (one_more servers mirrors past e)) (record { waits = s.waits; table = s.table.0 });
      replies = λ node reply inside. answers node reply inside (s.replies node reply (in_behind (Replies node reply) (sent_with_calls (server_after servers mirrors past).calls) (after_event e (server_after servers mirrors past)).sends inside));
    }

    ended_so : Keeps So (server_after servers mirrors past) (after_event e (server_after servers mirrors past))
        → ((node : NodeId) (reply : RpcReply) → IsOneOf (Replies node reply) (after_event e (server_after servers mirrors past)).sends → A (after_event e (server_after servers mirrors past)).mds.sessions node reply → AnswersRequest servers mirrors (past ++ e ∷ []) node reply)
        → EventSo
    ended_so q answers = ended_at (q [] (sent_with_calls (server_after servers mirrors past).calls) start) answers

    -- where the table is another one, before anything is sent
    start_with : (sessions : SessionsState) → Q sessions → So (record (server_after servers mirrors past) { sessions = sessions }) [] (sent_with_calls (server_after servers mirrors past).calls)
    start_with sessions table = record {
      waits = begun_waits;
      table = table;
      entries = tt;
      replies = λ node reply inside. absurd (of_calls (server_after servers mirrors past).calls (Replies node reply) (are_called servers mirrors past) inside);
      were = λ call inside. in_sent call (server_after servers mirrors past).calls inside;
    }

    bare_with : (sessions : SessionsState) → IsRunTable sessions → Bare (record (server_after servers mirrors past) { sessions = sessions }) [] (sent_with_calls (server_after servers mirrors past).calls)
    bare_with sessions table = record {
      waits = begun_waits;
      table = table;
      entries = tt;
      replies = λ node reply inside. absurd (of_calls (server_after servers mirrors past).calls (Replies node reply) (are_called servers mirrors past) inside);
      were = λ call inside. in_sent call (server_after servers mirrors past).calls inside;
    }

    fine_ops : (returns : Bool) (ops : List (Value argop4)) → FitsOps returns ops
        → AreFine (λ (c : CompoundRun). WaitsSo servers mirrors (past ++ e ∷ []) c) ends (λ (s : SessionsState). Q s) moves A on replied AnyEntry (λ x none. tt) ops
    fine_ops returns [] f = tt
    fine_ops returns (op ∷ ops) f = (record { last = f.0.0; any = λ is x. tt }, fine_ops returns ops f.1)

    bare_ops : (returns : Bool) (ops : List (Value argop4)) → FitsOps returns ops
        → AreFine (λ (c : CompoundRun). WaitsSo servers mirrors (past ++ e ∷ []) c) ends (λ (s : SessionsState). IsRunTable s) bare_moves A on bare_replied AnyEntry (λ x none. tt) ops
    bare_ops returns [] f = tt
    bare_ops returns (op ∷ ops) f = (record { last = f.0.0; any = λ is x. tt }, bare_ops returns ops f.1)

  -- as it is said behind the event
  said_behind : (node : NodeId) (reply : RpcReply) → Answered (after_event e (server_after servers mirrors past)).mds.sessions node reply → AnswersRequest servers mirrors (past ++ e ∷ []) node reply
  said_behind node reply a = answers_request servers mirrors (FreeIn (after_event e (server_after servers mirrors past)).mds.sessions) (past ++ e ∷ []) free_behind node reply a

  -- ---- no compound comes

  nothing_so : ((node : NodeId) (bytes : List ℕ) → e.input ≡ Hears node bytes → (xid : ℕ) (c : CompoundValue) → incoming_of bytes ≡ IsCompound xid c → ⊥) → EventSo
  nothing_so none =
      ended_so Answered answered_stays (λ s node reply a. a)
      (other_keeps (λ (c : CompoundRun). WaitsSo servers mirrors (past ++ e ∷ []) c) ends (λ (s : SessionsState). Q s) moves Answered answered_stays (replied Answered answered_stays (λ s node reply a. a)) AnyEntry (λ x n. tt) e
      (server_after servers mirrors past) (by_input e.input refl))
      (λ node reply inside a. said_behind node reply a)
    where
      by_input : (input : MdsInput) → e.input ≡ input
          → BringsNone (λ (c : CompoundRun). WaitsSo servers mirrors (past ++ e ∷ []) c) ends (λ (s : SessionsState). Q s) moves Answered answered_stays (replied Answered answered_stays (λ s node reply a. a)) AnyEntry (λ x n. tt) input
      by_input (Hears node bytes) at = none node bytes at
      by_input (IsTimedOut to which) at = tt
      by_input Ticks at = tt
      by_input (RecallsFile file) at = tt
      by_input (Resilvers file) at = tt

  -- ---- a compound of a client

  module _ (node : NodeId) (xid : ℕ) (name : List ℕ) where
    -- it answers a call, or it is the compound's of this event, and then this holds of the table of clients and of it
    abbrev Own : (SessionsState → RpcReply → Type 0) → SessionsState → NodeId → RpcReply → Type 0
    Own T s other reply = Answered s other reply ⊎ (IsFrom node xid other reply × T s reply)

    lifted : (T : SessionsState → RpcReply → Type 0) (s : SessionsState) (other : NodeId) (reply : RpcReply) → Answered s other reply → Own T s other reply
    lifted T s other reply a = inl a

    own_stays : (T : SessionsState → RpcReply → Type 0) → ((s : SessionsState) (move : TableMove) → IsNoRequest move → (reply : RpcReply) → T s reply → T (table_after s move) reply) → (s : SessionsState) (move : TableMove) → IsNoRequest move → (other : NodeId) (reply : RpcReply) → Own T s other reply
        → Own T (table_after s move) other reply
    own_stays T on s move none other reply (inl a) = inl (answered_stays s move none other reply a)
    own_stays T on s move none other reply (inr from) = inr (from.0, on s move none reply from.1)

    abbrev AnyTable : SessionsState → RpcReply → Type 0
    AnyTable s reply = Unit {0}

    any_stays : (s : SessionsState) (move : TableMove) → IsNoRequest move → (other : NodeId) (reply : RpcReply) → Own AnyTable s other reply → Own AnyTable (table_after s move) other reply
    any_stays = own_stays AnyTable (λ s move none reply t. tt)

    abbrev new_of : MdsCallValue → CompoundRun
    new_of call = record { node = node; xid = xid; tag = []; ops = mds_ops name call; stop = stop.End None; results = []; slot = None; is_kept = false; current = None }

    moved_from : (call : MdsCallValue) → IsCallFrom e node xid name call → (other : NodeId) (reply : RpcReply) → IsFrom node xid other reply → IsCallFrom e other reply.xid name call
    moved_from call came other reply from = subst (λ (x : NodeId). IsCallFrom e x reply.xid name call) (sym from.0) (subst (λ (x : ℕ). IsCallFrom e node x name call) (sym from.1) came)

    -- the reply of this event's compound
    own_answers : (T : SessionsState → RpcReply → Type 0) (call : MdsCallValue) → IsCallFrom e node xid name call
        → ((other : NodeId) (reply : RpcReply) → IsOneOf (Replies other reply) (after_event e (server_after servers mirrors past)).sends → IsFrom node xid other reply → T (after_event e (server_after servers mirrors past)).mds.sessions reply → (also : List ℕ) (session : SessionId) (number : ℕ)
        (c : SlotCallValue) → IsCallFrom e other reply.xid also (OnSlot session number c) → FitsRequest (OnSlot session number c) → StandsFor servers mirrors (past ++ e ∷ []) past session number c (reply_of_ask (ask_on_slot c) reply))
        → (other : NodeId) (reply : RpcReply) → IsOneOf (Replies other reply) (after_event e (server_after servers mirrors past)).sends → Own T (after_event e (server_after servers mirrors past)).mds.sessions other reply → AnswersRequest servers mirrors (past ++ e ∷ []) other reply
    own_answers T call came stands other reply inside (inl a) = said_behind other reply a
    own_answers T call came stands other reply inside (inr from) =
        record { early = past; f = e; late = []; split = refl; name = name; call = call; came = moved_from call came other reply from.0; stands = stands other reply inside from.0 from.1 }

    -- without a session
    alone_so : (call : MdsCallValue) → IsCallFrom e node xid name call → first_request (mds_ops name call) ≡ None → Keeps (So (Own AnyTable) any_stays (lifted AnyTable)) (server_after servers mirrors past) (run_of_call e.now (server_after servers mirrors past) node xid name call) → EventSo
    alone_so call came none q =
        ended_so (Own AnyTable) any_stays (lifted AnyTable)
        (subst (λ (s : MdsStep). Keeps (So (Own AnyTable) any_stays (lifted AnyTable)) (server_after servers mirrors past) s) (sym (event_is e (server_after servers mirrors past) node xid name call came))
        (out_keeps (λ (c : CompoundRun). WaitsSo servers mirrors (past ++ e ∷ []) c) ends (λ (s : SessionsState). Q s) moves (Own AnyTable) any_stays (replied (Own AnyTable) any_stays (lifted AnyTable)) AnyEntry (λ x n. tt) (server_after servers mirrors past)
        (run_of_call e.now (server_after servers mirrors past) node xid name call) q))
        (own_answers AnyTable call came (λ other reply inside from any also session number c comes fits.
        absurd (none-some (request_of session number c) (sym none ∙ ap first_request (same_ops e node other xid reply.xid name also call (OnSlot session number c) came comes)))))

    exchange_so : (verifier : ℕ) → IsCallFrom e node xid name (ExchangeId verifier) → EventSo
    exchange_so verifier came =
        alone_so (ExchangeId verifier) came refl
        (alone_keeps (λ (c : CompoundRun). WaitsSo servers mirrors (past ++ e ∷ []) c) ends (λ (s : SessionsState). Q s) moves (Own AnyTable) any_stays (replied (Own AnyTable) any_stays (lifted AnyTable)) AnyEntry (λ x n. tt) e.now
        (server_after servers mirrors past) (new_of (ExchangeId verifier)) (exchange_id_op name verifier) refl refl refl (λ d status l its t q. (ends_without t d.slot (compound_bytes d status) l.slot q, inr ((l.node, l.xid), tt))))

    create_so : (client sequence : ℕ) → IsCallFrom e node xid name (CreateSession client sequence) → EventSo
    create_so client sequence came =
        alone_so (CreateSession client sequence) came refl
        (alone_keeps (λ (c : CompoundRun). WaitsSo servers mirrors (past ++ e ∷ []) c) ends (λ (s : SessionsState). Q s) moves (Own AnyTable) any_stays (replied (Own AnyTable) any_stays (lifted AnyTable)) AnyEntry (λ x n. tt) e.now
        (server_after servers mirrors past) (new_of (CreateSession client sequence)) (create_session_op client sequence) refl refl refl (λ d status l its t q. (ends_without t d.slot (compound_bytes d status) l.slot q, inr ((l.node, l.xid), tt))))

    -- ---- on a slot

    module _ (session : SessionId) (number : ℕ) where
      abbrev bound : SessionsState
      bound = after_binding (server_after servers mirrors past).sessions session node

      -- it is free for the next number, and the reply to a call that is no layout's tells that it was taken
      abbrev Freed : SlotCallValue → SessionsState → RpcReply → Type 0
      Freed call s reply = FreeIn s session number × (is_layout_call call ≡ false → (c : SlotCallValue) → (reply_of_ask (ask_on_slot c) reply).slot ≡ Taken)

      freed_stays : (call : SlotCallValue) (s : SessionsState) (move : TableMove) → IsNoRequest move → (other : NodeId) (reply : RpcReply) → Own (Freed call) s other reply → Own (Freed call) (table_after s move) other reply
      freed_stays call = own_stays (Freed call) (λ s move none reply free. (free_stays s move none session number free.0, free.1))

      taken : (call : SlotCallValue) → IsCallFrom e node xid name (OnSlot session number call) → request_answer (after_binding (server_after servers mirrors past).sessions session node) (request_of session number call) ≡ TakesEffect
          → TookEffect servers mirrors past e session number
      taken call came effect = record { node = node; xid = xid; name = name; call = call; came = came; effect = effect }

      same_request : (call : SlotCallValue) → IsCallFrom e node xid name (OnSlot session number call) → (there : NodeId) (also_xid : ℕ) (also : List ℕ) (asked : SessionId) (n : ℕ) (c : SlotCallValue) → IsCallFrom e there also_xid also (OnSlot asked n c)
          → request_of session number call ≡ request_of asked n c
      same_request call came there also_xid also asked n c comes =
          same_Some (request_of session number call) (request_of asked n c) (ap first_request (same_ops e node there xid also_xid name also (OnSlot session number call) (OnSlot asked n c) came comes))

      -- the table behind a layout's call, which is done at once
      module _ (call : SlotCallValue) (came : IsCallFrom e node xid name (OnSlot session number call))
          (effect : request_answer (after_binding (server_after servers mirrors past).sessions session node) (request_of session number call) ≡ TakesEffect) (fits : FitsRequest (OnSlot session number call)) where
        abbrev step : MdsStep
        step = runs e.now (slot_ops name call) (taken_mds e.now (server_after servers mirrors past) node session number call) (taken_compound node xid name session number call)

        abbrev its : IsTaken servers mirrors (past ++ e ∷ []) (client_in session) (number_in session) number
        its = record { early = past; f = e; late = []; split = refl; asked = session; its_client = refl; its_number = refl; took = record { node = node; xid = xid; name = name; call = call; came = came; effect = effect } }

        after_so : after_event e (server_after servers mirrors past) ≡ and_then step (calls_out [])
        after_so = after_is numbered servers mirrors events past after e fit roomy split node xid name session number call came effect fits.0

        table_ended : (n : MdsValue) (results : List (Value resop4)) (status : Stat4) → HasEnded (taken_mds e.now (server_after servers mirrors past) node session number call) n node xid (pass_of (request_of session number call)) results status step
            → (get_event e ≡ true → length (spelling compound4_res (stat4_number status, ([], results))) ≤ 32768)
            → TableSo (SlotSo servers mirrors (past ++ e ∷ [])) (after_binding (server_after servers mirrors past).sessions session node) → TableSo (SlotSo servers mirrors (past ++ e ∷ [])) step.mds.sessions
        table_ended n results status ended few table =
            let bytes : List ℕ = spelling compound4_res (stat4_number status, ([], results)) in
            let is : step.mds.sessions ≡ after_finish (after_request bound (request_of session number call) e.now) (pass_of (request_of session number call)) bytes =
            ap (λ (x : MdsValue). x.sessions) ended.mds ∙ ap (λ (s : SessionsState). after_finish s (pass_of (request_of session number call)) bytes) ended.same.sessions in
            let sent : IsOneOf (Replies node (success_reply xid bytes)) (after_event e (server_after servers mirrors past)).sends =
            subst (λ (s : MdsStep). IsOneOf (Replies node (success_reply xid bytes)) s.sends) (sym after_so) (first_in (Replies node (success_reply xid bytes)) [] step.sends (calls_out [] step.mds).sends ended.sends) in
            subst (λ (s : SessionsState). TableSo (SlotSo servers mirrors (past ++ e ∷ [])) s) (sym is)
            (done_so (SlotSo servers mirrors (past ++ e ∷ [])) bound session number 0 (is_kept_reply call) e.now bytes
            (kept_now servers mirrors (past ++ e ∷ []) (client_in session) (number_in session) number its bytes (
              λ also asked n2 c comes fits2.
                  effect_means numbered servers mirrors events past after e fit roomy split node xid also asked n2 c comes (effect_too servers mirrors past e session number (taken call came effect) node xid also asked n2 c comes) fits2 (success_reply xid bytes) sent,
              tells_fitting (stat4_number status) results ended.fits ended.taken,
            ) few)
            table)

        -- its own reply
        effect_told : (other : NodeId) (reply : RpcReply) → IsOneOf (Replies other reply) (after_event e (server_after servers mirrors past)).sends → Freed call (after_event e (server_after servers mirrors past)).mds.sessions reply → (also : List ℕ) (asked : SessionId) (n : ℕ)
            (c : SlotCallValue) → IsCallFrom e other reply.xid also (OnSlot asked n c) → FitsRequest (OnSlot asked n c) → (reply_of_ask (ask_on_slot c) reply).slot ≡ Taken
        effect_told other reply inside free also asked n c comes fits2 = by_kind (is_layout_call call) refl
          where
            by_kind : (b : Bool) → is_layout_call call ≡ b → (reply_of_ask (ask_on_slot c) reply).slot ≡ Taken
            by_kind true on =
                layout_tells numbered servers mirrors events past after e fit roomy split other reply.xid also asked n c (sym (event_of_call e other reply.xid also asked n c comes) ∙ event_of_call e node xid name session number call came ∙ on) comes
                (effect_too servers mirrors past e session number (taken call came effect) other reply.xid also asked n c comes) fits2 reply inside c
            by_kind false off = free.1 off c

        effect_stands : (other : NodeId) (reply : RpcReply) → IsOneOf (Replies other reply) (after_event e (server_after servers mirrors past)).sends → Freed call (after_event e (server_after servers mirrors past)).mds.sessions reply → (also : List ℕ) (asked : SessionId) (n : ℕ)
            (c : SlotCallValue) → IsCallFrom e other reply.xid also (OnSlot asked n c) → FitsRequest (OnSlot asked n c) → StandsFor servers mirrors (past ++ e ∷ []) past asked n c (reply_of_ask (ask_on_slot c) reply)
        effect_stands other reply inside free also asked n c comes fits2 =
            stands_behind servers mirrors (FreeIn (after_event e (server_after servers mirrors past)).mds.sessions) (past ++ e ∷ []) free_behind past asked n c (reply_of_ask (ask_on_slot c) reply)
            (stands_taken servers mirrors (FreeIn (after_event e (server_after servers mirrors past)).mds.sessions) (past ++ e ∷ []) past [] e refl session number (taken call came effect) other reply.xid also asked n c comes (reply_of_ask (ask_on_slot c) reply)
            (effect_told other reply inside free also asked n c comes fits2)
            (effect_means numbered servers mirrors events past after e fit roomy split other reply.xid also asked n c comes (effect_too servers mirrors past e session number (taken call came effect) other reply.xid also asked n c comes) fits2 reply inside)
            (subst (λ (q : Sequence). FreeIn (after_event e (server_after servers mirrors past)).mds.sessions q.session q.sequence) (same_request call came other reply.xid also asked n c comes) free.0))

        freed : (d : CompoundRun) (status : Stat4) → Like (taken_compound node xid name session number call) d → (s : SessionsState) → IsRunTable s → FreeIn (kept_in_slot s d.slot (compound_bytes d status)) session number
        freed d status l s run =
            subst (λ (o : Option SlotPass). FreeIn (kept_in_slot s o (compound_bytes d status)) session number) (sym l.slot) (finish_frees s (is_table tables s run) session number (compound_bytes d status))

        -- the run behind the SEQUENCE
        begins_legible : IsLegibleRun (slot_ops name call) (taken_compound node xid name session number call)
        begins_legible = record {
          tag = refl;
          request = request_of session number call;
          its = first_fits numbered servers mirrors events past after e fit roomy split node xid name session number call came effect fits.0;
          rest = [];
          results = refl;
          legible = tt;
          few = let all = few_operations e node xid name (OnSlot session number call) came in omega (arith, all);
        }

        -- the table behind the request
        begun_run : IsRunTable (after_binding (server_after servers mirrors past).sessions session node) → IsRunTable (after_request (after_binding (server_after servers mirrors past).sessions session node) (request_of session number call) e.now)
        begun_run run =
            subst (λ (a : SlotAnswer). IsRunTable (table_begun bound (after_request bound (request_of session number call) e.now) a)) effect (run_table_on bound (BeginRequest (request_of session number call) e.now) run)

        effect_ends : So (Own (Freed call)) (freed_stays call) (lifted (Freed call)) step.mds ([] ++ step.entries) (sent_with_calls (server_after servers mirrors past).calls ++ step.sends) → EventSo
        effect_ends so =
            ended_at (Own (Freed call)) (freed_stays call) (lifted (Freed call))
            (subst (λ (s : MdsStep). So (Own (Freed call)) (freed_stays call) (lifted (Freed call)) s.mds ([] ++ s.entries) (sent_with_calls (server_after servers mirrors past).calls ++ s.sends)) (sym after_so)
            (joined (So (Own (Freed call)) (freed_stays call) (lifted (Freed call))) (calls_out [] step.mds).mds [] step.entries (calls_out [] step.mds).entries (sent_with_calls (server_after servers mirrors past).calls) step.sends (calls_out [] step.mds).sends
            (go_out (λ (c : CompoundRun). WaitsSo servers mirrors (past ++ e ∷ []) c) ends (λ (s : SessionsState). Q s) moves (Own (Freed call)) (freed_stays call) (replied (Own (Freed call)) (freed_stays call) (lifted (Freed call))) AnyEntry (λ x n. tt) step.mds ([] ++ step.entries)
            (sent_with_calls (server_after servers mirrors past).calls ++ step.sends) so)))
            (own_answers (Freed call) (OnSlot session number call) came (λ other reply inside from free also asked n c comes fits2. effect_stands other reply inside free also asked n c comes fits2))

        bound_slots : Slots (after_binding (server_after servers mirrors past).sessions session node)
        bound_slots = slots_move (server_after servers mirrors past).sessions (Bind session node) tt begun_table

        taken_run : IsRunTable (after_request (after_binding (server_after servers mirrors past).sessions session node) (request_of session number call) e.now)
        taken_run = begun_run (run_table_on (server_after servers mirrors past).sessions (Bind session node) (run_table servers mirrors past))

        plain_effect : is_layout_call call ≡ false → EventSo
        plain_effect off =
            effect_ends
            (run_keeps (λ (c : CompoundRun). WaitsSo servers mirrors (past ++ e ∷ []) c) ends (λ (s : SessionsState). Q s) moves (Own (Freed call)) (freed_stays call) (replied (Own (Freed call)) (freed_stays call) (lifted (Freed call))) AnyEntry (λ x n. tt) IsLegibleRun run_on e.now (slot_ops name call)
            (fine_ops (Own (Freed call)) (freed_stays call) (lifted (Freed call)) (is_return_call call) (slot_ops name call) (ops_fit name call))
            (calls_say name call off) (taken_mds e.now (server_after servers mirrors past) node session number call) (taken_compound node xid name session number call) begins_legible refl
            (λ left d status l its s q. (
              ends_with s d.slot (compound_bytes d status) (tells_so (length left) d status its) q,
              inr ((l.node, l.xid), (freed d status l s q.1, λ plain c. tells_so (length left) d status its c d.xid)),
            ))
            (λ d op l its none some. record {
              early = past;
              f = e;
              late = [];
              split = refl;
              session = session;
              number = number;
              took = record { node = node; xid = xid; name = name; call = call; came = came; effect = effect };
              node = l.node;
              xid = l.xid;
              plain = event_of_call e node xid name session number call came ∙ off;
              ops = none;
              stop = l.stop;
              slot = l.slot;
              legible = its;
            })
            [] (sent_with_calls (server_after servers mirrors past).calls)
            (start_with (Own (Freed call)) (freed_stays call) (lifted (Freed call)) (after_request (after_binding (server_after servers mirrors past).sessions session node) (request_of session number call) e.now) (
              request_so (SlotSo servers mirrors (past ++ e ∷ [])) bound (request_of session number call) e.now refl
                  (its, event_of_call e node xid name session number call came ∙ off) bound_slots,
              taken_run,
            )))

        layout_effect : is_layout_call call ≡ true → (TableSo (SlotSo servers mirrors (past ++ e ∷ [])) (after_binding (server_after servers mirrors past).sessions session node) → TableSo (SlotSo servers mirrors (past ++ e ∷ [])) step.mds.sessions)
            → has_waiting (slot_ops name call) ≡ false → EventSo
        layout_effect on table none =
            let b : Bare (Own (Freed call)) (freed_stays call) (lifted (Freed call)) step.mds ([] ++ step.entries) (sent_with_calls (server_after servers mirrors past).calls ++ step.sends) =
            run_keeps (λ (c : CompoundRun). WaitsSo servers mirrors (past ++ e ∷ []) c) ends (λ (s : SessionsState). IsRunTable s) bare_moves (Own (Freed call)) (freed_stays call) (bare_replied (Own (Freed call)) (freed_stays call) (lifted (Freed call))) AnyEntry (λ x n. tt) AnyLeft (λ left ops c its. tt) e.now (slot_ops name call)
            (bare_ops (Own (Freed call)) (freed_stays call) (lifted (Freed call)) (is_return_call call) (slot_ops name call) (ops_fit name call))
            (says_any (slot_ops name call)) (taken_mds e.now (server_after servers mirrors past) node session number call) (taken_compound node xid name session number call) tt refl
            (λ left d status l its s run. (run_end s d.slot (compound_bytes d status) run, inr ((l.node, l.xid), (freed d status l s run, λ off. absurd (not_both (sym off ∙ on))))))
            (λ d op l its left some. absurd (not_both (sym none ∙ some))) [] (sent_with_calls (server_after servers mirrors past).calls)
            (bare_with (Own (Freed call)) (freed_stays call) (lifted (Freed call)) (after_request (after_binding (server_after servers mirrors past).sessions session node) (request_of session number call) e.now) taken_run) in
            effect_ends (record { waits = b.waits; table = (table bound_slots, b.table); entries = b.entries; replies = b.replies; were = b.were })

      -- a request that takes effect
      effect_so : (call : SlotCallValue) → IsCallFrom e node xid name (OnSlot session number call) → request_answer (after_binding (server_after servers mirrors past).sessions session node) (request_of session number call) ≡ TakesEffect
          → FitsRequest (OnSlot session number call) → EventSo
      effect_so (slot.LayoutGet file) came effect fits =
          layout_effect (slot.LayoutGet file) came effect fits refl
          (λ table. by_end table (get_of numbered servers mirrors events past after e fit roomy split node xid name session number file came effect fits.0 fits.1)) refl
        where
          by_end : TableSo (SlotSo servers mirrors (past ++ e ∷ [])) (after_binding (server_after servers mirrors past).sessions session node)
              → GetEnds (taken_mds e.now (server_after servers mirrors past) node session number (slot.LayoutGet file)) node xid (pass_of (request_of session number (slot.LayoutGet file)))
              (sequence_result (request_of session number (slot.LayoutGet file))) file.file (runs e.now (slot_ops name (slot.LayoutGet file)) (taken_mds e.now (server_after servers mirrors past) node session number (slot.LayoutGet file)) (taken_compound node xid name session number (slot.LayoutGet file)))
              → TableSo (SlotSo servers mirrors (past ++ e ∷ [])) (runs e.now (slot_ops name (slot.LayoutGet file)) (taken_mds e.now (server_after servers mirrors past) node session number (slot.LayoutGet file)) (taken_compound node xid name session number (slot.LayoutGet file))).mds.sessions
          by_end table (IsRefused n results status ended some few) =
              table_ended (slot.LayoutGet file) came effect fits n results status ended (λ gets. refused_short (request_of session number (slot.LayoutGet file)) (stat4_number status) results fits.0 few) table
          by_end table (Grants n got ended) =
              table_ended (slot.LayoutGet file) came effect fits n (sequence_result (request_of session number (slot.LayoutGet file)) ∷ arm 22 resop4 (inl tt) ∷ layout_of_file file.file got.its ∷ []) stat.Ok ended
              (λ gets. granted_short (request_of session number (slot.LayoutGet file)) file.file got.its fits.0 got.short) table
      effect_so (slot.LayoutReturn file stateid failed) came effect fits =
          layout_effect (slot.LayoutReturn file stateid failed) came effect fits refl
          (λ table. by_end table (return_of numbered servers mirrors events past after e fit roomy split node xid name session number file stateid failed came effect fits.0 fits.1)) refl
        where
          by_end : TableSo (SlotSo servers mirrors (past ++ e ∷ [])) (after_binding (server_after servers mirrors past).sessions session node)
              → ReturnEnds (taken_mds e.now (server_after servers mirrors past) node session number (slot.LayoutReturn file stateid failed)) node xid (pass_of (request_of session number (slot.LayoutReturn file stateid failed)))
              (sequence_result (request_of session number (slot.LayoutReturn file stateid failed))) file stateid failed
              (runs e.now (slot_ops name (slot.LayoutReturn file stateid failed)) (taken_mds e.now (server_after servers mirrors past) node session number (slot.LayoutReturn file stateid failed)) (taken_compound node xid name session number (slot.LayoutReturn file stateid failed)))
              → TableSo (SlotSo servers mirrors (past ++ e ∷ []))
              (runs e.now (slot_ops name (slot.LayoutReturn file stateid failed)) (taken_mds e.now (server_after servers mirrors past) node session number (slot.LayoutReturn file stateid failed)) (taken_compound node xid name session number (slot.LayoutReturn file stateid failed))).mds.sessions
          by_end table (giving.IsRefused n results status ended some none entries) =
              table_ended (slot.LayoutReturn file stateid failed) came effect fits n results status ended (λ gets. absurd (not_both (sym (event_of_return e node xid name session number file stateid failed came) ∙ gets))) table
          by_end table (Accepts given ended entries) =
              table_ended (slot.LayoutReturn file stateid failed) came effect fits
              (given_step (taken_mds e.now (server_after servers mirrors past) node session number (slot.LayoutReturn file stateid failed)) file given.its (errors_for stateid failed)).mds
              (sequence_result (request_of session number (slot.LayoutReturn file stateid failed)) ∷ arm 22 resop4 (inl tt) ∷ no_stateid ∷ []) stat.Ok ended
              (λ gets. absurd (not_both (sym (event_of_return e node xid name session number file stateid failed came) ∙ gets))) table
      effect_so slot.ReclaimComplete came effect fits = plain_effect slot.ReclaimComplete came effect fits refl
      effect_so (slot.Open text) came effect fits = plain_effect (slot.Open text) came effect fits refl
      effect_so (slot.DeviceInfo numbers) came effect fits = plain_effect (slot.DeviceInfo numbers) came effect fits refl
      effect_so (slot.Write file at bytes) came effect fits = plain_effect (slot.Write file at bytes) came effect fits refl
      effect_so (slot.Read file at count) came effect fits = plain_effect (slot.Read file at count) came effect fits refl
      effect_so slot.Renew came effect fits = plain_effect slot.Renew came effect fits refl

      -- one that does not
      module _ (call : SlotCallValue) (came : IsCallFrom e node xid name (OnSlot session number call)) where
        abbrev judgement : Type 0
        judgement = SlotJudged (SlotSo servers mirrors (past ++ e ∷ [])) session number (request_answer (after_binding (server_after servers mirrors past).sessions session node) (request_of session number call))

        its_slot : SlotJudged (SlotSo servers mirrors (past ++ e ∷ [])) session number (request_answer (after_binding (server_after servers mirrors past).sessions session node) (request_of session number call))
        its_slot = judged (SlotSo servers mirrors (past ++ e ∷ [])) (request_of session number call) refl bound (slots_move (server_after servers mirrors past).sessions (Bind session node) tt begun_table)

        bound_run : IsRunTable (after_binding (server_after servers mirrors past).sessions session node)
        bound_run = run_table_on (server_after servers mirrors past).sessions (Bind session node) (run_table servers mirrors past)

        answer_so : (reply : RpcReply) → reply.xid ≡ xid
            → ((also : List ℕ) (asked : SessionId) (n : ℕ) (c : SlotCallValue) → request_of session number call ≡ request_of asked n c → FitsRequest (OnSlot asked n c) → StandsWith servers mirrors (FreeIn bound) (past ++ e ∷ []) past asked n c (reply_of_ask (ask_on_slot c) reply))
            → Answered bound node reply
        answer_so reply is stands = record {
          early = past;
          f = e;
          late = [];
          split = refl;
          name = name;
          call = OnSlot session number call;
          came = subst (λ (x : ℕ). IsCallFrom e node x name (OnSlot session number call)) (sym is) came;
          stands = λ also asked n c comes fits. stands also asked n c (same_request call came node reply.xid also asked n c comes) fits;
        }

        other_ends : (a : SlotAnswer) → request_answer (after_binding (server_after servers mirrors past).sessions session node) (request_of session number call) ≡ a
            → Keeps (So Answered answered_stays (λ s other reply x. x)) (record (server_after servers mirrors past) { sessions = after_binding (server_after servers mirrors past).sessions session node })
            (sequenced e.now (record (server_after servers mirrors past) { sessions = after_binding (server_after servers mirrors past).sessions session node }) (new_of (OnSlot session number call)) (slot_ops name call) (request_of session number call) a) → EventSo
        other_ends a is q =
            ended_so Answered answered_stays (λ s other reply x. x)
            (subst (λ (s : MdsStep). Keeps (So Answered answered_stays (λ s other reply x. x)) (server_after servers mirrors past) s) (sym (event_is e (server_after servers mirrors past) node xid name (OnSlot session number call) came))
            (out_keeps (λ (c : CompoundRun). WaitsSo servers mirrors (past ++ e ∷ []) c) ends (λ (s : SessionsState). Q s) moves Answered answered_stays (replied Answered answered_stays (λ s other reply x. x)) AnyEntry (λ x n. tt) (server_after servers mirrors past) (run_of_call e.now (server_after servers mirrors past) node xid name (OnSlot session number call))
            (subst (λ (b : SlotAnswer). Keeps (So Answered answered_stays (λ s other reply x. x)) (server_after servers mirrors past)
            (sequenced e.now (record (server_after servers mirrors past) { sessions = after_binding (server_after servers mirrors past).sessions session node }) (new_of (OnSlot session number call)) (slot_ops name call) (request_of session number call) b)) (sym is)
            (λ es ss j. q es ss (record { waits = j.waits; table = moves (server_after servers mirrors past).sessions (Bind session node) tt j.table; entries = j.entries; replies = λ other reply inside. answered_stays (server_after servers mirrors past).sessions (Bind session node) tt other reply (j.replies other reply inside); were = j.were })))))
            (λ other reply inside x. said_behind other reply x)

        repeats_so : (bytes : List ℕ) → request_answer (after_binding (server_after servers mirrors past).sessions session node) (request_of session number call) ≡ Repeats bytes → EventSo
        repeats_so bytes is =
            other_ends (Repeats bytes) is
            (λ es ss j.
            let n : MdsValue = record (server_after servers mirrors past) { sessions = after_binding (server_after servers mirrors past).sessions session node } in
            subst (λ (l : List Entry). So Answered answered_stays (λ s other reply x. x) n l (ss ++ Replies node (success_reply xid bytes) ∷ [])) (sym (append-nil es))
            (sends (λ (c : CompoundRun). WaitsSo servers mirrors (past ++ e ∷ []) c) ends (λ (s : SessionsState). Q s) moves Answered answered_stays (replied Answered answered_stays (λ s other reply x. x)) AnyEntry (λ x k. tt) n es ss (Replies node (success_reply xid bytes))
            (own_reply (λ (c : CompoundRun). WaitsSo servers mirrors (past ++ e ∷ []) c) ends (λ (s : SessionsState). Q s) moves Answered answered_stays (replied Answered answered_stays (λ s other reply x. x)) AnyEntry (λ x k. tt) bound node (success_reply xid bytes) (answer_so (success_reply xid bytes) refl (λ also asked n2 c same fits. by_slot its_slot asked n2 c same fits))) j))
          where
            by_slot : SlotJudged (SlotSo servers mirrors (past ++ e ∷ [])) session number (request_answer (after_binding (server_after servers mirrors past).sessions session node) (request_of session number call))
                → (asked : SessionId) (n : ℕ) (c : SlotCallValue) → request_of session number call ≡ request_of asked n c → FitsRequest (OnSlot asked n c)
                → StandsWith servers mirrors (FreeIn bound) (past ++ e ∷ []) past asked n c (reply_of_ask (ask_on_slot c) (success_reply xid bytes))
            by_slot (NoSession off) asked n c same fits = absurd (not_repeats (sym is ∙ off))
              where
                not_repeats : Repeats bytes ≡ Refuses stat.BadSession → ⊥
                not_repeats x = absurd cc
            by_slot (BySlot s p at) asked n c same fits =
                stands_kept servers mirrors (past ++ e ∷ []) (FreeIn bound) past asked n xid bytes c fits
                (subst (λ (q : Sequence). (t : IsTaken servers mirrors (past ++ e ∷ []) (client_in q.session) (number_in q.session) q.sequence) × KeptSo servers mirrors (past ++ e ∷ []) (client_in q.session) (number_in q.session) q.sequence t bytes) same
                (repeats_kept servers mirrors (past ++ e ∷ []) (FreeIn bound) (client_in session) (number_in session) s number bytes p (sym is ∙ at)))
                (subst (λ (q : Sequence). FreeIn bound q.session q.sequence) same (answered_free bound session number call (Repeats bytes) is (λ x. absurd cc) (is_table tables bound bound_run)))

        refused_so : (status : Stat4) → request_answer (after_binding (server_after servers mirrors past).sessions session node) (request_of session number call) ≡ Refuses status → EventSo
        refused_so status is =
            other_ends (Refuses status) is
            (finish_keeps (λ (c : CompoundRun). WaitsSo servers mirrors (past ++ e ∷ []) c) ends (λ (s : SessionsState). Q s) moves Answered answered_stays (replied Answered answered_stays (λ s other reply x. x)) AnyEntry (λ x k. tt)
            (record (server_after servers mirrors past) { sessions = after_binding (server_after servers mirrors past).sessions session node }) (with_result (new_of (OnSlot session number call)) (refused_as 53 status)) status
            (λ q. (q, answer_so (success_reply xid (spelling compound4_res (stat4_number status, ([], refused_as 53 status ∷ [])))) refl (λ also asked n c same fits. by_slot its_slot asked n c same))))
          where
            by_slot : SlotJudged (SlotSo servers mirrors (past ++ e ∷ [])) session number (request_answer (after_binding (server_after servers mirrors past).sessions session node) (request_of session number call))
                → (asked : SessionId) (n : ℕ) (c : SlotCallValue) → request_of session number call ≡ request_of asked n c
                → StandsWith servers mirrors (FreeIn bound) (past ++ e ∷ []) past asked n c (reply_of_ask (ask_on_slot c) (success_reply xid (spelling compound4_res (stat4_number status, ([], refused_as 53 status ∷ [])))))
            by_slot (NoSession off) asked n c same = stands_no_session servers mirrors (past ++ e ∷ []) (FreeIn bound) past asked n xid c status (ap status_of (sym is ∙ off)) (node, c, subst (λ (q : Sequence). request_answer (after_binding (server_after servers mirrors past).sessions q.session node) q ≡ Refuses status) same is)
            by_slot (BySlot s p at) asked n c same =
                stands_refused servers mirrors (past ++ e ∷ []) (FreeIn bound) past asked n xid c status
                (subst (λ (q : Sequence). RefusedAs servers mirrors (past ++ e ∷ []) (FreeIn bound) (client_in q.session) (number_in q.session) q.sequence status) same
                (refused_by servers mirrors (past ++ e ∷ []) (FreeIn bound) (client_in session) (number_in session) s number status p (sym is ∙ at))) (node, c, subst (λ (q : Sequence). request_answer (after_binding (server_after servers mirrors past).sessions q.session node) q ≡ Refuses status) same is)
                (λ retry. subst (λ (q : Sequence). FreeIn bound q.session q.sequence) same (answered_free bound session number call (Refuses status) is (λ x. not_delayed retry (ap status_of x)) (is_table tables bound bound_run)))

        slot_so : FitsRequest (OnSlot session number call) → (a : SlotAnswer) → request_answer (after_binding (server_after servers mirrors past).sessions session node) (request_of session number call) ≡ a → EventSo
        slot_so fits TakesEffect is = effect_so call came is fits
        slot_so fits (Repeats bytes) is = repeats_so bytes is
        slot_so fits (Refuses status) is = refused_so status is

  -- ---- any event

  event_so : Brings e → EventSo
  event_so (ACall node xid name (ExchangeId verifier) came fits) = exchange_so node xid name verifier came
  event_so (ACall node xid name (CreateSession client sequence) came fits) = create_so node xid name client sequence came
  event_so (ACall node xid name (OnSlot session number call) came fits) =
      slot_so node xid name session number call came fits (request_answer (after_binding (server_after servers mirrors past).sessions session node) (request_of session number call)) refl
  event_so (Nothing none) = nothing_so none

-- ---- a run

pub fit_at : (past more : List MdsEvent) (e : MdsEvent) → AreFitCalls (past ++ e ∷ more) → HearsFitCall e.input
fit_at [] more e fit = fit.0
fit_at (x ∷ past) more e fit = fit_at past more e fit.1

module _ (tables : KeepsTable) (numbered : EffectsAreNumbered) (servers : List AddressValue) (mirrors : ℕ) (events : List MdsEvent) (fit : AreFitCalls events) (roomy : StaysRoomy servers mirrors events) where
  event_of : (past after : List MdsEvent) (e : MdsEvent) (split : IsEventOf events past e after) (i : RunSo servers mirrors past (server_after servers mirrors past)) → EventSo tables numbered servers mirrors events past after e fit roomy split i
  event_of past after e split i = event_so tables numbered servers mirrors events past after e fit roomy split i (brings e (fit_at past after e (subst AreFitCalls split fit)))

  run_so : (past before rest : List MdsEvent) → events ≡ past ++ (before ++ rest) → RunSo servers mirrors past (server_after servers mirrors past) → RunSo servers mirrors (past ++ before) (server_after servers mirrors (past ++ before))
  run_so past [] rest is i = subst (λ (l : List MdsEvent). RunSo servers mirrors l (server_after servers mirrors l)) (sym (append-nil past)) i
  run_so past (e ∷ before) rest is i =
      subst (λ (l : List MdsEvent). RunSo servers mirrors l (server_after servers mirrors l)) (append_assoc past (e ∷ []) before)
      (run_so (past ++ e ∷ []) before rest (is ∙ sym (append_assoc past (e ∷ []) (before ++ rest))) (event_of past (before ++ rest) e is i).next)

pub each_reply_stands : KeepsTable → EffectsAreNumbered → EachReplyStands
each_reply_stands tables numbered servers mirrors events before after e fit roomy split node reply inside =
    (event_of tables numbered servers mirrors events fit roomy before after e split (run_so tables numbered servers mirrors events fit roomy [] before (e ∷ after) split (record { waits = tt; table = tt }))).replies node reply inside
