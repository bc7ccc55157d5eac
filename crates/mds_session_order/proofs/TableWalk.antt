-- What every call of the table of clients but DESTROY_SESSION keeps, every event of a client's call keeps: clients of this cluster send none.
use Rattle.std.proofs.Common.{◌≡◌, ℕ, ◌+◌, ◌-◌, Bool, true, false, List, [], ◌∷◌, ◌++◌, length, Option, Some, None, refl, sym, subst, ◌∙◌}
use Rattle.std.specs.Prelude.{◌==◌, not, map, slice_set}
use Rattle.std.specs.List.{list_any}
use Rattle.std.specs.Option.{option_map}
use Rattle.std.proofs.lemmas.Bool.{cond_both}
use Rattle.std.proofs.lemmas.List.{append-nil}
use Rattle.std.proofs.lemmas.Option.{same_Some, none-some}
use Rattle.ff_xdr.specs.Form.{Value, arm_of}
use Rattle.compound_reply.specs.Replied.{success_reply}
use Rattle.cluster_model.specs.declared.ids.NodeId.{NodeId}
use Rattle.cluster_model.specs.declared.ids.NodeId.TheVariants.{Server}
use Rattle.cluster_model.specs.declared.ids.FileId.{FileId}
use Rattle.cluster_model.specs.declared.ids.Cred.{Cred}
use Rattle.cluster_model.specs.declared.entry.Entry.{Entry}
use Rattle.cluster_model.specs.Members.{IsOneOf}
use Rattle.device_addr.specs.Universal.{AddressValue}
use Rattle.file_rule.specs.MdsFiles.{FileStep}
use Rattle.file_rule.specs.FilePhases.{FileInput, AsksLayout, Returns, Answers as IsAnswer, OwnEnds, TimesOut, Sees, new_mds_file, phase}
use Rattle.mds_rows.specs.Draws.{drawn}
use Rattle.recall.specs.Recalls.{without_file}
use Rattle.nfs4_types.specs.declared.sequence.Sequence.{Sequence}
use Rattle.nfs4_types.specs.declared.status.Stat4.{Stat4}
use Rattle.nfs4_types.specs.declared.status.Stat4.TheVariants as stat
use Rattle.nfs4_types.specs.Sequences.{sequence4_args}
use Rattle.nfs4_compound.specs.declared.stop.Stop.{Stop}
use Rattle.nfs4_compound.specs.declared.stop.Stop.TheVariants as stop
use Rattle.nfs4_compound.specs.Args.{argop4}
use Rattle.nfs4_compound.specs.Compounds.{CompoundValue}
use Rattle.nfs4_session.specs.declared.begin.SlotPass.{SlotPass}
use Rattle.nfs4_session.specs.Clients.{SessionsState}
use Rattle.nfs4_session.specs.Slots.{SlotAnswer, TakesEffect, Repeats, Refuses}
use Rattle.nfs4_session.specs.Requests.{request_answer, after_request}
use Rattle.nfs4_session.specs.Beginning.{table_begun}
use Rattle.nfs4_session.specs.Bindings.{after_binding}
use Rattle.nfs4_session.specs.TableLaw.{TableMove, ExchangeId as Exchanges, CreateSession as Creates, BeginRequest, FinishRequest, Bind, CallBack, DestroySession, DestroyClient, Expire, table_after}
use Rattle.client_file_calls.specs.FileOps.{device_info_op}
use Rattle.client_mds_calls.specs.MdsCalls.{SlotCallValue, MdsCallValue, ExchangeId, CreateSession, OnSlot}
use Rattle.client_mds_calls.specs.MdsCalls as slot
use Rattle.client_mds_calls.specs.MdsCompounds.{slot_ops, mds_ops}
use Rattle.mds_receive.specs.MdsReceive.{IsCompound, incoming_of}
use Rattle.ff_layout.specs.IoError.{ff_ioerr4}
use Rattle.layout_report.specs.Reports.{report_of}
use Rattle.mds_rule.specs.Answers.{failures_by_place, own_answer}
use Rattle.mds_rule.specs.declared.waiter.Waiter.TheVariants.{ForFile, ForRead, ForWrite, ForRecall}
use Rattle.mds_rule.specs.MdsStates.{CompoundRun, WaitingWrite, ServedFile, MdsSend, CallsServer, CallsBack, Replies, Answers, AwaitedCall, MdsValue, MdsStep, sends_none, with_call, served, with_served, new_mds}
use Rattle.mds_rule.specs.OpSteps.{OpStep, Goes, Ends, Waits, with_result, refuses, refused_as, unread, stopped, is_operation_number}
use Rattle.mds_rule.specs.ServedFiles.{has_fresh, is_period_end, file_behind, file_stepped, input_at, takes_input}
use Rattle.mds_rule.specs.FileOps.{servers_of, new_served, with_new_file}
use Rattle.mds_rule.specs.LayoutOps.{with_holder, client_number}
use Rattle.mds_rule.specs.Compounds.{operate, has_session, operates, compound_bytes, kept_in_slot, finishes, op_then, with_ops, runs, sequence_in, in_slot, sequenced, sequence_of, may_stand_alone, first_alone, first_by, first_operation, new_run}
use Rattle.mds_rule.specs.Goes.{calls_out}
use Rattle.mds_walk.specs.MdsRuns.{MdsInput, MdsEvent, Hears, IsTimedOut, Ticks as IsTick, RecallsFile, Resilvers, by_input, after_event, run_from}
use Rattle.mds_walk.specs.FirstRequests.{first_request}
use Rattle.mds_walk.proofs.Lists.{AllOf, all_push, all_set, all_got}
use Rattle.mds_walk.proofs.Parts.{HeardAny, Becomes, Keeps, TakesInput, AllWait, IsPlainMove}
use Rattle.mds_walk.proofs.Keeping.{KeepsOp, hears_any, then_keeps, same, becomes_keeps, enters_keeps, stays}
use Rattle.mds_laws.proofs.Numbers.{WereSent, sent_more, sent_with, sent_kept}
use Rattle.mds_walk.proofs.Served.{place_served}
use Rattle.mds_walk.proofs.Requested.{behind_request, behind_begin}
use Rattle.mds_replies.specs.ClientCalls.{IsCallIn, HearsCall, AreCalls, server_after}
use Rattle.mds_replies.proofs.HolderCases.{Cases, WaitCases, OutCases}
use Rattle.mds_replies.proofs.WaitingCompounds.{same_wait}
use Rattle.mds_replies.proofs.PeriodKept.{sent_with_calls, in_sent}
use Rattle.mds_replies.proofs.GoesWalk.{out_walk, input_walk, begin_kept}
use Rattle.mds_walk.proofs.EventWalk.{RunsSo}
use Rattle.mds_replies.proofs.Turns.{behind_wait}
use Rattle.mds_session_order.proofs.TableSteps.{DestroysNone}
use Rattle.mds_walk.proofs.CompoundWalk.{operate_walk}
use Rattle.mds_replies.proofs.HolderParts.{case_parts}
use Rattle.cluster_model.specs.Phases.{holder_of}

not_both : true ≡ false → ⊥
not_both is = absurd cc

-- the calls of the table in an event's course destroy none
plain_destroys_none : (move : TableMove) → IsPlainMove move → DestroysNone move
plain_destroys_none (BeginRequest request now) is = absurd is
plain_destroys_none (DestroySession session) is = is
plain_destroys_none (Exchanges verifier owner now) is = tt
plain_destroys_none (Creates client sequence program node now) is = tt
plain_destroys_none (FinishRequest pass reply) is = tt
plain_destroys_none (Bind session node) is = tt
plain_destroys_none (CallBack client) is = tt
plain_destroys_none (DestroyClient client) is = tt
plain_destroys_none (Expire now) is = tt

-- the operation is no DESTROY_SESSION (RFC 8881, section 18.37), and none of a compound's is that are left
abbrev pub DestroysNoSession : Value argop4 → Type 0
DestroysNoSession op = (arm_of argop4 op == 44) ≡ false

abbrev pub W : CompoundRun → Type 0
W c = AllOf DestroysNoSession c.ops

abbrev WaitSo : ServedFile → Type 0
WaitSo s = AllWait W s.reads s.write

-- no compound that waits for a file has one left
abbrev pub FilesWait : MdsValue → Type 0
FilesWait m = AllOf (λ (s : ServedFile). AllWait W s.reads s.write) m.files

-- what holds of the table, and of the compounds that wait
pub record Stands (P : SessionsState → Type 0) (files : List ServedFile) (sessions : SessionsState) (calls : List AwaitedCall) (ss : List MdsSend) : Type 0 where
  pub waits : AllOf (λ (s : ServedFile). AllWait W s.reads s.write) files
  pub table : P sessions
  pub were : WereSent calls ss

module _ (P : SessionsState → Type 0) (keeps : (s : SessionsState) (move : TableMove) → DestroysNone move → P s → P (table_after s move)) where
  abbrev IsSo : MdsValue → List Entry → List MdsSend → Type 0
  IsSo m es ss = Stands P m.files m.sessions m.calls ss

  wait_at : (m : MdsValue) (file : FileId) (s : ServedFile) → served m file ≡ Some s → AllOf (λ (x : ServedFile). AllWait W x.reads x.write) m.files → AllWait W s.reads s.write
  wait_at m file s at all = all_got (λ (x : ServedFile). AllWait W x.reads x.write) m.files (file.0 - 1) s all (place_served m file s at).1

  set : (m : MdsValue) (file : FileId) (t : ServedFile) (calls : List AwaitedCall) (ss ts : List MdsSend) → AllWait W t.reads t.write → WereSent calls ts → Stands P m.files m.sessions m.calls ss
      → Stands P (slice_set m.files (file.0 - 1) t) m.sessions calls ts
  set m file t calls ss ts its were i = record { waits = all_set (λ (x : ServedFile). AllWait W x.reads x.write) m.files (file.0 - 1) t i.waits its; table = i.table; were = were }

  behind : (m : MdsValue) (file : FileId) (s : ServedFile) (step : FileStep) → served m file ≡ Some s → (ss : List MdsSend) → Stands P m.files m.sessions m.calls ss
      → Stands P (file_stepped m file s step).mds.files (file_stepped m file s step).mds.sessions (file_stepped m file s step).mds.calls ss
  behind m file s step at ss i =
      let n : MdsValue = with_served (record m { fresh = drawn m.fresh step }) file (file_behind s step) in
      let new : Stands P n.files n.sessions n.calls ss = set m file (file_behind s step) m.calls ss ss (behind_wait W step.entries step.file.layout.live s.reads s.write (wait_at m file s at i.waits)) i.were i in
      cond_both (list_any is_period_end step.entries) (record n { recalls = without_file file n.recalls }) n (λ (x : MdsValue). Stands P x.files x.sessions x.calls ss) (λ end. new) (λ off. new)

  inputs : (m : MdsValue) (file : FileId) (s : ServedFile) (input : FileInput) → TakesInput IsSo m file s input
  inputs m file s input at fresh es ss i = behind m file s (phase file s.file input m.fresh) at ss i

  asked : (m : MdsValue) (file : FileId) (input : FileInput) (o : Option ServedFile) → served m file ≡ o → (ss : List MdsSend) → Stands P m.files m.sessions m.calls ss
      → Stands P (input_at m file input o).mds.files (input_at m file input o).mds.sessions (input_at m file input o).mds.calls ss
  asked m file input None at ss i = i
  asked m file input (Some s) at ss i =
      cond_both (has_fresh m.fresh) (file_stepped m file s (phase file s.file input m.fresh)) (sends_none m) (λ (x : MdsStep). Stands P x.mds.files x.mds.sessions x.mds.calls ss)
      (λ fresh. behind m file s (phase file s.file input m.fresh) at ss i) (λ off. i)

  held : (m : MdsValue) (file : FileId) (s : ServedFile) (client : ℕ) (again : Bool) → served m file ≡ Some s → (ss : List MdsSend) → Stands P m.files m.sessions m.calls ss
      → Stands P (with_served m file (with_holder client again s)).files m.sessions m.calls ss
  held m file s client again at ss i = set m file (with_holder client again s) m.calls ss ss (wait_at m file s at i.waits) i.were i

  makes : (m : MdsValue) (name : List ℕ) (ss : List MdsSend) → Stands P m.files m.sessions m.calls ss → Stands P (with_new_file m name).files m.sessions m.calls ss
  makes m name ss i = record {
    waits = all_push (λ (x : ServedFile). AllWait W x.reads x.write) m.files (new_served name (new_mds_file m.fresh (servers_of (length m.servers) m.mirrors (length m.files + 1)))) i.waits
        (record { reads_so = λ r inside. absurd inside; write_so = λ w is. absurd (none-some w is) });
    table = i.table;
    were = i.were;
  }

  sends : (m : MdsValue) (ss : List MdsSend) (s : MdsSend) → Stands P m.files m.sessions m.calls ss → Stands P m.files m.sessions m.calls (ss ++ s ∷ [])
  sends m ss s i = record { waits = i.waits; table = i.table; were = sent_more m.calls ss s i.were }

  called : (m : MdsValue) (file : FileId) (t : ServedFile) (call : AwaitedCall) (ss : List MdsSend) → AllWait W t.reads t.write → Stands P m.files m.sessions m.calls ss
      → Stands P (slice_set m.files (file.0 - 1) t) m.sessions (with_call call m.calls) (ss ++ call.sent ∷ [])
  called m file t call ss its i = set m file t (with_call call m.calls) ss (ss ++ call.sent ∷ []) its (sent_with m.calls ss call i.were) i

  -- ---- the cases

  cases : Cases IsSo HeardAny W
  cases = record {
    wait = λ m es ss i file s at. wait_at m file s at i.waits;
    quiet = λ m confirmed opens reclaimed recalls old es ss i. i;
    tables = λ m move is es ss i. record { waits = i.waits; table = keeps m.sessions move (plain_destroys_none move is) i.table; were = i.were };
    notes = λ m e note es ss i. i;
    puts = λ m file s t at same holder seqid write waits es ss i. set m file t m.calls ss ss (waits (wait_at m file s at i.waits)) i.were i;
    again_to = λ m file s client at its es ss i. held m file s client true at ss i;
    grants = λ m file n client t from free was at es ss i. held (takes_input m file (AsksLayout n)).mds file t client false at ss (asked m file (AsksLayout n) (served m file) refl ss i);
    inputs = λ m file s input itself. inputs m file s input;
    own_ends = λ m file s failures place bytes. inputs m file s (OwnEnds (failures_by_place failures s.file.layout.live) place bytes);
    timeouts = λ m file s xid. inputs m file s (TimesOut xid);
    hears = λ m file s call server own uid c replies heard caller sent out. inputs m file s (IsAnswer call.xid (own_answer c (replies c)));
    learns = λ m file s call server own uid c replies fileid shown heard caller sent named shows. inputs m file s (Sees (record { server = server; fileid = fileid }) shown.seen);
    makes = λ m name may es ss i. makes m name ss i;
    calls_file = λ m file s c at has its es ss i.
        called m file (record s { file = c.file }) (record { node = Server c.server; xid = m.next_xid; caller = ForFile file; sent = CallsServer c.server m.next_xid c.uid c.call }) ss (wait_at m file s at i.waits) i;
    calls_write = λ m file s w c at has waits its is_write es ss i.
        let a : AllWait W s.reads s.write = wait_at m file s at i.waits in
        called m file (record s { write = Some (record w { writer = c.writer }) })
        (record { node = Server c.id.server; xid = m.next_xid; caller = ForWrite file; sent = CallsServer c.id.server m.next_xid w.writer.cred c.call }) ss
        (record { reads_so = a.reads_so; write_so = λ x one. subst (λ (y : WaitingWrite). W y.compound) (same_Some (record w { writer = c.writer }) x one) (a.write_so w waits) }) i;
    calls_read = λ m file s t server call at has same holder seqid write waits kept uid is_read es ss i.
        let a : AllWait W s.reads s.write = wait_at m file s at i.waits in
        called m file t (record { node = Server server; xid = m.next_xid; caller = ForRead file; sent = CallsServer server m.next_xid 0 call }) ss
        (record { reads_so = same_wait W s.reads t.reads waits a.reads_so; write_so = λ x one. a.write_so x (sym kept ∙ one) }) i;
    calls_back = λ m node back file stateid has es ss i.
        record { waits = i.waits; table = i.table; were = sent_with m.calls ss (record { node = node; xid = m.next_xid; caller = ForRecall; sent = CallsBack m.next_xid back file stateid }) i.were };
    skips = λ m has es ss i. i;
    forgets = λ m test es ss i. record { waits = i.waits; table = i.table; were = sent_kept test m.calls ss i.were };
    was = λ m es ss i. i.were;
    again = λ m s es ss i inside. sends m ss s i;
  }

  -- ---- the operations of a compound

  slot_keeps : (m : MdsValue) (slot : Option SlotPass) (bytes : List ℕ) (ss : List MdsSend) → Stands P m.files m.sessions m.calls ss → Stands P m.files (kept_in_slot m.sessions slot bytes) m.calls ss
  slot_keeps m None bytes ss i = i
  slot_keeps m (Some slot) bytes ss i = record { waits = i.waits; table = keeps m.sessions (FinishRequest slot bytes) tt i.table; were = i.were }

  finish_keeps : (m : MdsValue) (c : CompoundRun) (status : Stat4) → Keeps IsSo m (finishes m c status)
  finish_keeps m c status es ss i = sends (record m { sessions = kept_in_slot m.sessions c.slot (compound_bytes c status) }) ss (Replies c.node (success_reply c.xid (compound_bytes c status))) (slot_keeps m c.slot (compound_bytes c status) ss i)

  stop_keeps : (m : MdsValue) (c : CompoundRun) (s : Stop) → KeepsOp IsSo m (stopped m c s)
  stop_keeps m c (stop.End rest) = stays IsSo m
  stop_keeps m c (stop.Unread number) = by_number (is_operation_number number)
    where
      by_number : (b : Bool) → KeepsOp IsSo m (unread m c number b)
      by_number true = stays IsSo m
      by_number false = stays IsSo m
  stop_keeps m c (stop.Bad e) = stays IsSo m

  last_keeps : (m : MdsValue) (s : OpStep) → KeepsOp IsSo m s → Keeps IsSo m (op_then s (λ n d. sends_none n))
  last_keeps m (Goes n entries d) q = enters_keeps IsSo m n entries (sends_none n) q (same IsSo n)
  last_keeps m (Ends n entries d status) q = enters_keeps IsSo m n entries (finishes n d status) q (finish_keeps n d status)
  last_keeps m (Waits n entries) q = enters_keeps IsSo m n entries (sends_none n) q (same IsSo n)

  op_keeps : (m : MdsValue) (s : OpStep) (next : MdsValue → CompoundRun → MdsStep) → KeepsOp IsSo m s → ((n : MdsValue) (d : CompoundRun) → Keeps IsSo n (next n d)) → Keeps IsSo m (op_then s next)
  op_keeps m (Goes n entries d) next q all = enters_keeps IsSo m n entries (next n d) q (all n d)
  op_keeps m (Ends n entries d status) next q all = enters_keeps IsSo m n entries (finishes n d status) q (finish_keeps n d status)
  op_keeps m (Waits n entries) next q all = enters_keeps IsSo m n entries (sends_none n) q (same IsSo n)

  returned : (m : MdsValue) (file : FileId) (s : ServedFile) (n : ℕ) (cred : Cred) (errors : List (Value ff_ioerr4)) → TakesInput IsSo m file s (Returns n cred (report_of errors s.file.layout.live))
  returned m file s n cred errors = inputs m file s (Returns n cred (report_of errors s.file.layout.live))

  operate_keeps : (now : ℕ) (m : MdsValue) (c : CompoundRun) → W c → (op : Value argop4) → DestroysNoSession op → KeepsOp IsSo m (operate now m c op)
  operate_keeps now m c its op may =
      operate_walk IsSo HeardAny W (case_parts IsSo HeardAny W cases) now m c op
      (record {
        waits = λ is. its;
        returns = λ is x file s errors. returned x file s (client_number (holder_of s.file.layout.phase)) s.file.layout.cred errors;
        confirms = λ client is x es ss i. i;
        destroys = λ is x session. absurd (not_both (sym is ∙ may));
      })

  operates_keeps : (now : ℕ) (m : MdsValue) (c : CompoundRun) → W c → (op : Value argop4) → DestroysNoSession op → KeepsOp IsSo m (operates now m c op)
  operates_keeps now m c its op may =
      cond_both (has_session m c.slot) (operate now m c op) (refuses m c (arm_of argop4 op) stat.BadSession) (λ (s : OpStep). KeepsOp IsSo m s) (λ is. operate_keeps now m c its op may) (λ off. stays IsSo m)

  run_keeps : (now : ℕ) (ops : List (Value argop4)) (m : MdsValue) (c : CompoundRun) → AllOf DestroysNoSession ops → Keeps IsSo m (runs now ops m c)
  run_keeps now [] m c may = last_keeps m (stopped m (with_ops c []) c.stop) (stop_keeps m (with_ops c []) c.stop)
  run_keeps now (op ∷ ops) m c may =
      op_keeps m (operates now m (with_ops c ops) op) (λ n d. runs now ops n d) (operates_keeps now m (with_ops c ops) may.1 op may.0) (λ n d. run_keeps now ops n d may.1)

  waiting : WaitCases IsSo W
  waiting = record {
    done = λ now m c result read its. enters_keeps IsSo m m [] (runs now c.ops m (with_result c result)) (stays IsSo m) (run_keeps now c.ops m (with_result c result) its);
    failed = λ now m c number read its. enters_keeps IsSo m m [] (finishes m (with_result c (refused_as number stat.Io)) stat.Io) (stays IsSo m) (finish_keeps m (with_result c (refused_as number stat.Io)) stat.Io);
  }

  -- ---- the first one, behind what its request leaves of the table of clients

  sequence_keeps : (now : ℕ) (m : MdsValue) (c : CompoundRun) (ops : List (Value argop4)) (s : Sequence) → AllOf DestroysNoSession ops → (a : SlotAnswer)
      → Keeps IsSo (record m { sessions = table_begun m.sessions (after_request m.sessions s now) a }) (sequenced now m c ops s a)
  sequence_keeps now m c ops s may TakesEffect = run_keeps now ops (record m { sessions = after_request m.sessions s now }) (in_slot c s) may
  sequence_keeps now m c ops s may (Repeats reply) = λ es ss i. sends m ss (Replies c.node (success_reply c.xid reply)) i
  sequence_keeps now m c ops s may (Refuses status) = finish_keeps m (with_result c (refused_as 53 status)) status

  first_keeps : (now : ℕ) (m : MdsValue) (c : CompoundRun) (count : ℕ) (op : Value argop4) (ops : List (Value argop4)) → DestroysNoSession op → AllOf DestroysNoSession ops → (o : Option (Value sequence4_args))
      → Keeps IsSo (behind_request now m c.node (option_map sequence_in o)) (first_by now m c count op ops o)
  first_keeps now m c count op ops first may (Some args) =
      let s : Sequence = sequence_in args in
      let n : MdsValue = record m { sessions = after_binding m.sessions s.session c.node } in
      sequence_keeps now n c ops s may (request_answer n.sessions s)
  first_keeps now m c count op ops first may None =
      cond_both (may_stand_alone (arm_of argop4 op)) (first_alone now m c count op ops) (op_then (refuses m c (arm_of argop4 op) stat.OpNotInSession) (λ n d. sends_none n)) (λ (s : MdsStep). Keeps IsSo m s)
      (λ is.
      cond_both (not (count == 1)) (op_then (refuses m c (arm_of argop4 op) stat.NotOnlyOp) (λ n d. sends_none n)) (op_then (operate now m (with_ops c ops) op) (λ n d. runs now ops n d)) (λ (s : MdsStep). Keeps IsSo m s)
      (λ more. last_keeps m (refuses m c (arm_of argop4 op) stat.NotOnlyOp) (stays IsSo m))
      (λ one. op_keeps m (operate now m (with_ops c ops) op) (λ n d. runs now ops n d) (operate_keeps now m (with_ops c ops) may op first) (λ n d. run_keeps now ops n d may)))
      (λ off. last_keeps m (refuses m c (arm_of argop4 op) stat.OpNotInSession) (stays IsSo m))

  ops_keep : (now : ℕ) (m : MdsValue) (c : CompoundRun) (count : ℕ) (ops : List (Value argop4)) → AllOf DestroysNoSession ops → Keeps IsSo (behind_request now m c.node (first_request ops)) (first_operation now m c count ops)
  ops_keep now m c count [] may = run_keeps now [] m c tt
  ops_keep now m c count (op ∷ ops) may = first_keeps now m c count op ops may.0 may.1 (sequence_of op)

  -- ---- the calls of clients

  devices_may : (servers : List ℕ) → AllOf DestroysNoSession (map device_info_op servers)
  devices_may [] = tt
  devices_may (n ∷ servers) = (refl, devices_may servers)

  slot_may : (name : List ℕ) (call : SlotCallValue) → AllOf DestroysNoSession (slot_ops name call)
  slot_may name slot.ReclaimComplete = (refl, tt)
  slot_may name (slot.Open file) = (refl, (refl, (refl, tt)))
  slot_may name (slot.LayoutGet file) = (refl, (refl, tt))
  slot_may name (slot.DeviceInfo servers) = devices_may servers
  slot_may name (slot.Write file at bytes) = (refl, (refl, tt))
  slot_may name (slot.Read file at count) = (refl, (refl, tt))
  slot_may name (slot.LayoutReturn file stateid failed) = (refl, (refl, tt))
  slot_may name slot.Renew = tt

  call_may : (name : List ℕ) (call : MdsCallValue) → AllOf DestroysNoSession (mds_ops name call)
  call_may name (ExchangeId verifier) = (refl, tt)
  call_may name (CreateSession client sequence) = (refl, tt)
  call_may name (OnSlot session number call) = (refl, slot_may name call)

  -- ---- events

  runs_so : (now : ℕ) (input : MdsInput) (m : MdsValue) → HearsCall input → RunsSo IsSo now input m
  runs_so now (Hears from bytes) m hears = (
    λ xid v is.
        let c = hears xid v is in
        ops_keep now m (new_run from xid v) v.count v.ops.values (subst (λ (ops : List (Value argop4)). AllOf DestroysNoSession ops) (sym c.2.ops) (call_may c.0 c.1)),
    λ given is es ss i. sends m ss (Answers from given) i,
  )
  runs_so now (IsTimedOut to which) m hears = tt
  runs_so now IsTick m hears = tt
  runs_so now (RecallsFile file) m hears = tt
  runs_so now (Resilvers file) m hears = tt

  event_keeps : (e : MdsEvent) (m : MdsValue) → HearsCall e.input → Keeps IsSo m (after_event e m)
  event_keeps e m hears =
      becomes_keeps IsSo m (behind_begin e.now e.input m) (after_event e m)
      (begin_kept IsSo HeardAny W cases (λ n request now es ss i. record { waits = i.waits; table = keeps n.sessions (BeginRequest request now) tt i.table; were = i.were }) e.now e.input m)
      (input_walk IsSo HeardAny W cases waiting e.now e.input m (hears_any IsSo e.input) (runs_so e.now e.input m hears))

  events_keep : (m : MdsValue) (events : List MdsEvent) → AreCalls events → Keeps IsSo m (run_from m events)
  events_keep m [] calls = same IsSo m
  events_keep m (e ∷ events) calls = then_keeps IsSo m (after_event e m) (λ n. run_from n events) (event_keeps e m calls.0) (λ n. events_keep n events calls.1)

  -- ---- runs

  -- what holds of the table, and of the compounds that wait, behind events
  pub calls_keep : (m : MdsValue) (events : List MdsEvent) → AreCalls events → FilesWait m → P m.sessions → FilesWait (run_from m events).mds × P (run_from m events).mds.sessions
  calls_keep m events calls waits table =
      let end : Stands P (run_from m events).mds.files (run_from m events).mds.sessions (run_from m events).mds.calls (sent_with_calls m.calls ++ (run_from m events).sends) =
      events_keep m events calls [] (sent_with_calls m.calls) (record { waits = waits; table = table; were = λ call inside. in_sent call m.calls inside }) in
      (end.waits, end.table)

  -- ---- the calls that go out

  abbrev IsOut : MdsValue → List Entry → List MdsSend → Type 0
  IsOut m es ss = P m.sessions × WereSent m.calls ss

  outs : OutCases IsOut
  outs = record {
    recalled = λ m recalls es ss i. i;
    back = λ m client es ss i. (keeps m.sessions (CallBack client) tt i.0, i.1);
    calls_file = λ m file s c at has its es ss i. (i.0, sent_with m.calls ss (record { node = Server c.server; xid = m.next_xid; caller = ForFile file; sent = CallsServer c.server m.next_xid c.uid c.call }) i.1);
    calls_write = λ m file s w c at has waits its is_write es ss i.
        (i.0, sent_with m.calls ss (record { node = Server c.id.server; xid = m.next_xid; caller = ForWrite file; sent = CallsServer c.id.server m.next_xid w.writer.cred c.call }) i.1);
    calls_read = λ m file s t server call at has same holder seqid write waits kept uid is_read es ss i.
        (i.0, sent_with m.calls ss (record { node = Server server; xid = m.next_xid; caller = ForRead file; sent = CallsServer server m.next_xid 0 call }) i.1);
    calls_back = λ m node back file stateid has es ss i. (i.0, sent_with m.calls ss (record { node = node; xid = m.next_xid; caller = ForRecall; sent = CallsBack m.next_xid back file stateid }) i.1);
    skips = λ m has es ss i. i;
    was = λ m es ss i. i.1;
    again = λ m s es ss i inside. (i.0, sent_more m.calls ss s i.1);
  }

  pub calls_out_keep : (m : MdsValue) → P m.sessions → P (calls_out [] m).mds.sessions
  calls_out_keep m table = (out_walk IsOut outs [] m [] (sent_with_calls m.calls) (table, λ call inside. in_sent call m.calls inside)).0

-- what holds of the table of a new server holds behind every run
pub new_calls_keep : (P : SessionsState → Type 0) → ((s : SessionsState) (move : TableMove) → DestroysNone move → P s → P (table_after s move)) → (servers : List AddressValue) (mirrors : ℕ) (events : List MdsEvent) → AreCalls events
    → P (new_mds servers mirrors).sessions → FilesWait (server_after servers mirrors events) × P (server_after servers mirrors events).sessions
new_calls_keep P keeps servers mirrors events calls table = calls_keep P keeps (new_mds servers mirrors) events calls tt table
