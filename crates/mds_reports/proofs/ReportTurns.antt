-- What each part of an event keeps: of the compounds that wait, of what slots keep, and of the replies that are sent.
use Rattle.std.proofs.Common.{◌≡◌, ℕ, ◌+◌, ◌-◌, Bool, true, false, List, [], ◌∷◌, ◌++◌, length, Option, Some, None, refl, sym, ap, subst, ◌∙◌, inl, inr, ◌⊎◌}
use Rattle.std.specs.Prelude.{slice_set}
use Rattle.std.specs.List.{list_any}
use Rattle.std.proofs.lemmas.Bool.{cond_both}
use Rattle.std.proofs.lemmas.Option.{same_Some, none-some}
use Rattle.ff_xdr.specs.Form.{Value, Fits, spelling}
use Rattle.rpc_record.specs.Replies.{RpcReply}
use Rattle.compound_reply.specs.Replied.{success_reply}
use Rattle.cluster_model.specs.declared.ids.NodeId.{NodeId}
use Rattle.cluster_model.specs.declared.ids.NodeId.TheVariants.{Server}
use Rattle.cluster_model.specs.declared.ids.FileId.{FileId}
use Rattle.cluster_model.specs.declared.ids.Cred.{Cred}
use Rattle.cluster_model.specs.declared.entry.Entry.{Entry}
use Rattle.cluster_model.specs.Members.{IsOneOf}
use Rattle.file_rule.specs.MdsFiles.{FileStep}
use Rattle.file_rule.specs.FilePhases.{FileInput, AsksLayout, Returns, OwnEnds, Answers as IsAnswer, TimesOut, Sees, phase, new_mds_file}
use Rattle.mds_rows.specs.Draws.{drawn}
use Rattle.recall.specs.Recalls.{without_file}
use Rattle.ff_layout.specs.IoError.{ff_ioerr4}
use Rattle.layout_report.specs.Reports.{report_of}
use Rattle.nfs4_types.specs.declared.sequence.Sequence.{Sequence}
use Rattle.nfs4_types.specs.declared.status.Stat4.{Stat4}
use Rattle.nfs4_types.specs.declared.status.Stat4.TheVariants as stat
use Rattle.nfs4_types.specs.Status.{stat4_number}
use Rattle.nfs4_compound.specs.declared.stop.Stop.{Stop}
use Rattle.nfs4_compound.specs.declared.stop.Stop.TheVariants as stop
use Rattle.nfs4_compound.specs.Args.{argop4}
use Rattle.nfs4_compound.specs.Results.{resop4}
use Rattle.nfs4_compound.specs.Compounds.{CompoundValue, compound4_res}
use Rattle.nfs4_session.specs.Clients.{SessionsState}
use Rattle.mds_receive.specs.MdsReceive.{IncomingValue, PassedOver, IsReply, IsAnswered, IsCompound, incoming_of}
use Rattle.mds_rule.specs.Answers.{own_answer, resumes, is_done_as, failures_by_place}
use Rattle.mds_rule.specs.MdsStates.{CompoundRun, WaitingWrite, ServedFile, MdsSend, CallsServer, CallsBack, Replies, Answers, AwaitedCall, MdsValue, MdsStep, sends_none, and_then, with_call, served, with_served}
use Rattle.mds_rule.specs.declared.waiter.Waiter.TheVariants.{ForFile, ForRead, ForWrite, ForRecall}
use Rattle.mds_rule.specs.OpSteps.{Goes, Ends, with_result, refused_as, stopped}
use Rattle.mds_rule.specs.ServedFiles.{has_fresh, is_period_end, file_behind, file_stepped, input_at, takes_input}
use Rattle.mds_rule.specs.FileOps.{servers_of, new_served, with_new_file}
use Rattle.mds_rule.specs.LayoutOps.{with_holder}
use Rattle.mds_rule.specs.Compounds.{compound_bytes, kept_in_slot, sequence_result, finishes, op_then, with_ops, runs}
use Rattle.mds_rule.specs.Goes.{calls_out}
use Rattle.mds_walk.specs.MdsRuns.{MdsInput, MdsEvent, Hears, IsTimedOut, Ticks as IsTick, RecallsFile, Resilvers, by_input, after_event}
use Rattle.mds_walk.specs.FirstRequests.{request_in}
use Rattle.mds_walk.proofs.Lists.{AllOf, all_push, all_set, all_got}
use Rattle.mds_walk.proofs.Parts.{HeardAny, Becomes, Keeps, TakesInput, AllWait}
use Rattle.mds_walk.proofs.Keeping.{hears_any, then_keeps, becomes_keeps, enters_keeps, stays}
use Rattle.mds_laws.proofs.Numbers.{WereSent, sent_more, sent_with, sent_kept}
use Rattle.mds_walk.proofs.Served.{place_served}
use Rattle.mds_walk.proofs.Requested.{behind_begin, behind_request}
use Rattle.mds_replies.proofs.HolderCases.{Cases, WaitCases, out_of}
use Rattle.mds_replies.proofs.WaitingCompounds.{same_wait}
use Rattle.mds_replies.proofs.GoesWalk.{out_walk, input_walk}
use Rattle.mds_walk.proofs.EventWalk.{RunsSo}
use Rattle.mds_replies.proofs.SlotTables.{TableSo}
use Rattle.mds_replies.proofs.Turns.{in_pushed, behind_wait}
use Rattle.mds_reports.specs.SlotReports.{AgreesRead}
use Rattle.mds_reports.proofs.FrontRead.{agrees_taken}
use Rattle.mds_reports.proofs.SlotSteps.{IsOtherStatus}
use Rattle.mds_reports.proofs.KeptReplies.{AgreesBytes, SlotAgrees, plain_agrees, ended_agrees}

-- a compound that waits: its last operation, behind a SEQUENCE that was OK
pub record WaitsAgreed (c : CompoundRun) : Type 0 where
  pub ops : c.ops ≡ []
  pub end : c.stop ≡ stop.End None
  pub tag : c.tag ≡ []
  pub s : Sequence
  pub fits : Fits resop4 (sequence_result s)
  pub more : List (Value resop4)
  pub results : c.results ≡ sequence_result s ∷ more

-- the reply that it ends with
pub bytes_agree : (tag : List ℕ) (results : List (Value resop4)) (s : Sequence) (more : List (Value resop4)) → tag ≡ [] → Fits resop4 (sequence_result s) → results ≡ sequence_result s ∷ more → (status : Stat4) → IsOtherStatus status
    → AgreesBytes (spelling compound4_res (stat4_number status, (tag, results)))
bytes_agree tag results s more no_tag fits is status other =
    subst (λ (t : List ℕ). AgreesBytes (spelling compound4_res (stat4_number status, (t, results)))) (sym no_tag)
    (subst (λ (r : List (Value resop4)). AgreesBytes (spelling compound4_res (stat4_number status, ([], r)))) (sym is) (λ xid. agrees_taken xid status s more other fits))

pub waited_agrees : (c : CompoundRun) (result : Value resop4) (status : Stat4) → IsOtherStatus status → WaitsAgreed c → AgreesBytes (spelling compound4_res (stat4_number status, (c.tag, c.results ++ result ∷ [])))
waited_agrees c result status other w = bytes_agree c.tag (c.results ++ result ∷ []) w.s (w.more ++ result ∷ []) w.tag w.fits (ap (λ (r : List (Value resop4)). r ++ result ∷ []) w.results) status other

abbrev pub W : CompoundRun → Type 0
W c = WaitsAgreed c

-- a reply agrees, or is one of its own kind
abbrev pub IsAgreed : (NodeId → ℕ → Type 0) → NodeId → RpcReply → Type 0
IsAgreed Own node reply = AgreesRead reply ⊎ Own node reply.xid

pub record Stands (Own : NodeId → ℕ → Type 0) (files : List ServedFile) (sessions : SessionsState) (calls : List AwaitedCall) (ss : List MdsSend) : Type 0 where
  pub waits : AllOf (λ (s : ServedFile). AllWait W s.reads s.write) files
  pub table : TableSo SlotAgrees sessions
  pub replies : (node : NodeId) (reply : RpcReply) → IsOneOf (Replies node reply) ss → IsAgreed Own node reply
  pub were : WereSent calls ss

module _ (Own : NodeId → ℕ → Type 0) where
  abbrev pub IsSo : MdsValue → List Entry → List MdsSend → Type 0
  IsSo m es ss = Stands Own m.files m.sessions m.calls ss

  wait_at : (m : MdsValue) (file : FileId) (s : ServedFile) → served m file ≡ Some s → AllOf (λ (x : ServedFile). AllWait W x.reads x.write) m.files → AllWait W s.reads s.write
  wait_at m file s at all = all_got (λ (x : ServedFile). AllWait W x.reads x.write) m.files (file.0 - 1) s all (place_served m file s at).1

  set : (m : MdsValue) (file : FileId) (t : ServedFile) (calls : List AwaitedCall) (es : List Entry) (ss ts : List MdsSend) → AllWait W t.reads t.write → ((node : NodeId) (reply : RpcReply) → IsOneOf (Replies node reply) ts → IsAgreed Own node reply)
      → WereSent calls ts → IsSo m es ss → Stands Own (slice_set m.files (file.0 - 1) t) m.sessions calls ts
  set m file t calls es ss ts its replies were i = record { waits = all_set (λ (x : ServedFile). AllWait W x.reads x.write) m.files (file.0 - 1) t i.waits its; table = i.table; replies = replies; were = were }

  stepped : (m : MdsValue) (file : FileId) (s : ServedFile) (step : FileStep) → served m file ≡ Some s → (es : List Entry) (ss : List MdsSend) → IsSo m es ss → IsSo (file_stepped m file s step).mds (es ++ step.entries) ss
  stepped m file s step at es ss i =
      let n : MdsValue = with_served (record m { fresh = drawn m.fresh step }) file (file_behind s step) in
      let new : Stands Own n.files n.sessions n.calls ss = record {
        waits = all_set (λ (x : ServedFile). AllWait W x.reads x.write) m.files (file.0 - 1) (file_behind s step) i.waits (behind_wait W step.entries step.file.layout.live s.reads s.write (wait_at m file s at i.waits));
        table = i.table;
        replies = i.replies;
        were = i.were;
      } in
      cond_both (list_any is_period_end step.entries) (record n { recalls = without_file file n.recalls }) n (λ (x : MdsValue). Stands Own x.files x.sessions x.calls ss) (λ end. new) (λ off. new)

  asked : (m : MdsValue) (file : FileId) (input : FileInput) (o : Option ServedFile) → served m file ≡ o → (es : List Entry) (ss : List MdsSend) → IsSo m es ss → IsSo (input_at m file input o).mds es ss
  asked m file input None at es ss i = i
  asked m file input (Some s) at es ss i =
      cond_both (has_fresh m.fresh) (file_stepped m file s (phase file s.file input m.fresh)) (sends_none m) (λ (x : MdsStep). IsSo x.mds es ss) (λ fresh. stepped m file s (phase file s.file input m.fresh) at es ss i) (λ off. i)

  held : (m : MdsValue) (file : FileId) (s : ServedFile) (client : ℕ) (again : Bool) → served m file ≡ Some s → (es : List Entry) (ss : List MdsSend) → IsSo m es ss → IsSo (with_served m file (with_holder client again s)) es ss
  held m file s client again at es ss i = set m file (with_holder client again s) m.calls es ss ss (wait_at m file s at i.waits) i.replies i.were i

  makes : (m : MdsValue) (name : List ℕ) (es : List Entry) (ss : List MdsSend) → IsSo m es ss → IsSo (with_new_file m name) es ss
  makes m name es ss i = record {
    waits = all_push (λ (x : ServedFile). AllWait W x.reads x.write) m.files (new_served name (new_mds_file m.fresh (servers_of (length m.servers) m.mirrors (length m.files + 1)))) i.waits
        (record { reads_so = λ r inside. absurd inside; write_so = λ w is. absurd (none-some w is) });
    table = i.table;
    replies = i.replies;
    were = i.were;
  }

  pushed : (ss : List MdsSend) (s : MdsSend) → ((node : NodeId) (reply : RpcReply) → Replies node reply ≡ s → IsAgreed Own node reply) → ((node : NodeId) (reply : RpcReply) → IsOneOf (Replies node reply) ss → IsAgreed Own node reply)
      → (node : NodeId) (reply : RpcReply) → IsOneOf (Replies node reply) (ss ++ s ∷ []) → IsAgreed Own node reply
  pushed ss s new old node reply inside = by_place (in_pushed (Replies node reply) s ss inside)
    where
      by_place : IsOneOf (Replies node reply) ss ⊎ (Replies node reply ≡ s) → IsAgreed Own node reply
      by_place (inl was) = old node reply was
      by_place (inr is) = new node reply is

  abbrev reply_there : MdsSend → Bool
  reply_there (CallsServer server xid uid call) = false
  reply_there (CallsBack xid back file stateid) = false
  reply_there (Replies node reply) = true
  reply_there (Answers node bytes) = false

  no_reply : (s : MdsSend) → reply_there s ≡ false → (node : NodeId) (reply : RpcReply) → Replies node reply ≡ s → IsAgreed Own node reply
  no_reply s off node reply is = absurd (not_so (ap reply_there is ∙ off))
    where
      not_so : true ≡ false → ⊥
      not_so e = absurd cc

  pub sends : (m : MdsValue) (es : List Entry) (ss : List MdsSend) (s : MdsSend) → ((node : NodeId) (reply : RpcReply) → Replies node reply ≡ s → IsAgreed Own node reply) → IsSo m es ss → IsSo m es (ss ++ s ∷ [])
  sends m es ss s new i = record { waits = i.waits; table = i.table; replies = pushed ss s new i.replies; were = sent_more m.calls ss s i.were }

  called : (m : MdsValue) (file : FileId) (t : ServedFile) (call : AwaitedCall) (es : List Entry) (ss : List MdsSend) → reply_there call.sent ≡ false → AllWait W t.reads t.write → IsSo m es ss
      → Stands Own (slice_set m.files (file.0 - 1) t) m.sessions (with_call call m.calls) (ss ++ call.sent ∷ [])
  called m file t call es ss off its i = set m file t (with_call call m.calls) es ss (ss ++ call.sent ∷ []) its (pushed ss call.sent (no_reply call.sent off) i.replies) (sent_with m.calls ss call i.were) i

  called_back : (m : MdsValue) (call : AwaitedCall) (es : List Entry) (ss : List MdsSend) → reply_there call.sent ≡ false → IsSo m es ss → Stands Own m.files m.sessions (with_call call m.calls) (ss ++ call.sent ∷ [])
  called_back m call es ss off i = record { waits = i.waits; table = i.table; replies = pushed ss call.sent (no_reply call.sent off) i.replies; were = sent_with m.calls ss call i.were }

  pub cases : Cases IsSo HeardAny W
  cases = record {
    wait = λ m es ss i file s at. wait_at m file s at i.waits;
    quiet = λ m confirmed opens reclaimed recalls old es ss i. i;
    tables = λ m move is es ss i. record { waits = i.waits; table = plain_agrees m.sessions move is i.table; replies = i.replies; were = i.were };
    notes = λ m e note es ss i. i;
    puts = λ m file s t at same holder seqid write waits es ss i. set m file t m.calls es ss ss (waits (wait_at m file s at i.waits)) i.replies i.were i;
    again_to = λ m file s client at its es ss i. held m file s client true at es ss i;
    grants = λ m file n client t from free was at es ss i. held (takes_input m file (AsksLayout n)).mds file t client false at es ss (asked m file (AsksLayout n) (served m file) refl es ss i);
    inputs = λ m file s input itself at fresh es ss i. stepped m file s (phase file s.file input m.fresh) at es ss i;
    own_ends = λ m file s failures place bytes at fresh es ss i. stepped m file s (phase file s.file (OwnEnds (failures_by_place failures s.file.layout.live) place bytes) m.fresh) at es ss i;
    timeouts = λ m file s xid at fresh es ss i. stepped m file s (phase file s.file (TimesOut xid) m.fresh) at es ss i;
    hears = λ m file s call server own uid c replies heard caller sent out at fresh es ss i. stepped m file s (phase file s.file (IsAnswer call.xid (own_answer c (replies c))) m.fresh) at es ss i;
    learns = λ m file s call server own uid c replies fileid shown heard caller sent named shows at fresh es ss i. stepped m file s (phase file s.file (Sees (record { server = server; fileid = fileid }) shown.seen) m.fresh) at es ss i;
    makes = λ m name may. makes m name;
    calls_file = λ m file s c at has its es ss i.
        called m file (record s { file = c.file }) (record { node = Server c.server; xid = m.next_xid; caller = ForFile file; sent = CallsServer c.server m.next_xid c.uid c.call }) es ss refl (wait_at m file s at i.waits) i;
    calls_write = λ m file s w c at has waits its is_write es ss i.
        let a : AllWait W s.reads s.write = wait_at m file s at i.waits in
        called m file (record s { write = Some (record w { writer = c.writer }) })
        (record { node = Server c.id.server; xid = m.next_xid; caller = ForWrite file; sent = CallsServer c.id.server m.next_xid w.writer.cred c.call }) es ss refl
        (record { reads_so = a.reads_so; write_so = λ x one. subst (λ (y : WaitingWrite). W y.compound) (same_Some (record w { writer = c.writer }) x one) (a.write_so w waits) }) i;
    calls_read = λ m file s t server call at has same holder seqid write waits kept uid is_read es ss i.
        let a : AllWait W s.reads s.write = wait_at m file s at i.waits in
        called m file t (record { node = Server server; xid = m.next_xid; caller = ForRead file; sent = CallsServer server m.next_xid 0 call }) es ss refl
        (record { reads_so = same_wait W s.reads t.reads waits a.reads_so; write_so = λ x one. a.write_so x (sym kept ∙ one) }) i;
    calls_back = λ m node back file stateid has es ss i. called_back m (record { node = node; xid = m.next_xid; caller = ForRecall; sent = CallsBack m.next_xid back file stateid }) es ss refl i;
    skips = λ m has es ss i. i;
    forgets = λ m test es ss i. record { waits = i.waits; table = i.table; replies = i.replies; were = sent_kept test m.calls ss i.were };
    was = λ m es ss i. i.were;
    again = λ m s es ss i inside. sends m es ss s (λ node reply is. i.replies node reply (subst (λ (x : MdsSend). IsOneOf x ss) (sym is) inside)) i;
  }

  pub returned : (m : MdsValue) (file : FileId) (s : ServedFile) (n : ℕ) (cred : Cred) (errors : List (Value ff_ioerr4)) → TakesInput IsSo m file s (Returns n cred (report_of errors s.file.layout.live))
  returned m file s n cred errors at fresh es ss i = stepped m file s (phase file s.file (Returns n cred (report_of errors s.file.layout.live)) m.fresh) at es ss i

  -- ---- a compound that ends

  abbrev parts_in : MdsSend → NodeId × RpcReply → NodeId × RpcReply
  parts_in (CallsServer server xid uid call) other = other
  parts_in (CallsBack xid back file stateid) other = other
  parts_in (Replies node reply) other = (node, reply)
  parts_in (Answers node bytes) other = other

  pub own_reply : (node : NodeId) (reply : RpcReply) → IsAgreed Own node reply → (other : NodeId) (said : RpcReply) → Replies other said ≡ Replies node reply → IsAgreed Own other said
  own_reply node reply its other said is =
      let same : (other, said) ≡ (node, reply) = ap (λ (s : MdsSend). parts_in s (node, reply)) is in
      subst (λ (p : NodeId × RpcReply). IsAgreed Own p.0 p.1) (sym same) its

  -- what the slot keeps of it agrees still
  pub finish_keeps : (m : MdsValue) (c : CompoundRun) (status : Stat4) → (TableSo SlotAgrees m.sessions → TableSo SlotAgrees (kept_in_slot m.sessions c.slot (compound_bytes c status))) → IsAgreed Own c.node (success_reply c.xid (compound_bytes c status))
      → Keeps IsSo m (finishes m c status)
  finish_keeps m c status kept its es ss i =
      let n : MdsValue = record m { sessions = kept_in_slot m.sessions c.slot (compound_bytes c status) } in
      let reply = success_reply c.xid (compound_bytes c status) in
      sends n es ss (Replies c.node reply) (own_reply c.node reply its) (record { waits = i.waits; table = kept i.table; replies = i.replies; were = i.were })

  pub agreed_keeps : (m : MdsValue) (c : CompoundRun) (status : Stat4) → AgreesBytes (compound_bytes c status) → Keeps IsSo m (finishes m c status)
  agreed_keeps m c status agrees = finish_keeps m c status (λ t. ended_agrees m.sessions c.slot (compound_bytes c status) agrees t) (inl (agrees c.xid))

  waiting_done : (now : ℕ) (m : MdsValue) (c : CompoundRun) (result : Value resop4) → W c → Keeps IsSo m (resumes now (is_done_as m c result) c.ops)
  waiting_done now m c result its =
      let d : CompoundRun = with_result c result in
      subst (λ (ops : List (Value argop4)). Keeps IsSo m (op_then (Goes m [] d) (λ n x. runs now ops n x))) (sym its.ops)
      (subst (λ (s : Stop). Keeps IsSo m (op_then (Goes m [] d) (λ n x. op_then (stopped n (with_ops x []) s) (λ k y. sends_none k)))) (sym its.end)
      (enters_keeps IsSo m m [] (op_then (Ends m [] (with_ops d []) stat.Ok) (λ k y. sends_none k)) (stays IsSo m)
      (enters_keeps IsSo m m [] (finishes m (with_ops d []) stat.Ok) (stays IsSo m) (agreed_keeps m (with_ops d []) stat.Ok (waited_agrees c result stat.Ok refl its)))))

  pub waiting : WaitCases IsSo W
  waiting = record {
    done = λ now m c result legible its. waiting_done now m c result its;
    failed = λ now m c number legible its.
        enters_keeps IsSo m m [] (finishes m (with_result c (refused_as number stat.Io)) stat.Io) (stays IsSo m) (agreed_keeps m (with_result c (refused_as number stat.Io)) stat.Io (waited_agrees c (refused_as number stat.Io) stat.Io refl its));
  }

  -- the calls that go out behind it
  pub out_keeps : (m : MdsValue) (s : MdsStep) → Keeps IsSo m s → Keeps IsSo m (and_then s (calls_out []))
  out_keeps m s q = then_keeps IsSo m s (calls_out []) q (λ n. out_walk IsSo (out_of IsSo HeardAny W cases) [] n)

  -- ---- an event that brings no compound

  begun_same : (now : ℕ) (m : MdsValue) (from : NodeId) (v : IncomingValue) → ((xid : ℕ) (c : CompoundValue) → v ≡ IsCompound xid c → ⊥) → Becomes IsSo m (behind_request now m from (request_in v))
  begun_same now m from PassedOver none = λ es ss i. i
  begun_same now m from (IsReply reply) none = λ es ss i. i
  begun_same now m from (IsAnswered bytes) none = λ es ss i. i
  begun_same now m from (IsCompound xid c) none = absurd (none xid c refl)

  abbrev pub BringsNone : MdsInput → Type 0
  BringsNone (Hears from bytes) = (xid : ℕ) (c : CompoundValue) → incoming_of bytes ≡ IsCompound xid c → ⊥
  BringsNone input = Unit {0}

  begin_same : (now : ℕ) (input : MdsInput) (m : MdsValue) → BringsNone input → Becomes IsSo m (behind_begin now input m)
  begin_same now (Hears from bytes) m none = begun_same now m from (incoming_of bytes) none
  begin_same now (IsTimedOut to which) m none = λ es ss i. i
  begin_same now IsTick m none = λ es ss i. i
  begin_same now (RecallsFile file) m none = λ es ss i. i
  begin_same now (Resilvers file) m none = λ es ss i. i

  runs_none : (now : ℕ) (input : MdsInput) (m : MdsValue) → BringsNone input → RunsSo IsSo now input m
  runs_none now (Hears from bytes) m none = (λ xid c is. absurd (none xid c is), λ given is es ss i. sends m es ss (Answers from given) (no_reply (Answers from given) refl) i)
  runs_none now (IsTimedOut to which) m none = tt
  runs_none now IsTick m none = tt
  runs_none now (RecallsFile file) m none = tt
  runs_none now (Resilvers file) m none = tt

  pub other_keeps : (e : MdsEvent) (m : MdsValue) → BringsNone e.input → Keeps IsSo m (after_event e m)
  other_keeps e m none =
      becomes_keeps IsSo m (behind_begin e.now e.input m) (by_input e.now e.input m) (begin_same e.now e.input m none)
      (input_walk IsSo HeardAny W cases waiting e.now e.input m (hears_any IsSo e.input) (runs_none e.now e.input m none))
