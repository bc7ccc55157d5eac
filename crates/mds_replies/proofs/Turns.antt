-- What each event of a run keeps: of the compounds that wait, of the table of clients, of what is entered, and of the replies that are sent.
use Rattle.std.proofs.Common.{◌≡◌, ℕ, ◌+◌, ◌-◌, Bool, true, false, List, [], ◌∷◌, ◌++◌, length, Option, Some, None, refl, sym, ap, subst, ◌∙◌, inl, inr, ◌⊎◌}
use Rattle.std.specs.Prelude.{◌==◌, ◌||◌, map, slice_set}
use Rattle.std.specs.List.{list_any}
use Rattle.std.proofs.lemmas.Bool.{cond_both}
use Rattle.std.proofs.lemmas.List.{append-nil}
use Rattle.std.proofs.lemmas.Option.{same_Some, none-some}
use Rattle.ff_xdr.specs.Form.{Value, arm_of}
use Rattle.rpc_record.specs.Replies.{RpcReply}
use Rattle.compound_reply.specs.Replied.{success_reply}
use Rattle.cluster_model.specs.declared.ids.NodeId.{NodeId}
use Rattle.cluster_model.specs.declared.ids.NodeId.TheVariants.{Server}
use Rattle.cluster_model.specs.declared.ids.FileId.{FileId}
use Rattle.cluster_model.specs.declared.ids.Cred.{Cred}
use Rattle.cluster_model.specs.declared.ids.Mirror.{Mirror}
use Rattle.cluster_model.specs.declared.entry.Entry.{Entry}
use Rattle.cluster_model.specs.declared.entry.Entry.TheVariants as entry
use Rattle.cluster_model.specs.Members.{IsOneOf}
use Rattle.file_rule.specs.MdsFiles.{FileStep}
use Rattle.file_rule.specs.FilePhases.{FileInput, AsksLayout, OwnWrite, Recall as ToRecall, Returns, Revokes, OwnEnds, Resilver, Answers as IsAnswer, TimesOut, Ticks, Sees, phase, new_mds_file}
use Rattle.mds_rows.specs.Draws.{drawn}
use Rattle.recall.specs.Recalls.{without_file}
use Rattle.nfs4_types.specs.declared.ids.SessionId.{SessionId}
use Rattle.nfs4_types.specs.declared.status.Stat4.{Stat4}
use Rattle.nfs4_types.specs.declared.status.Stat4.TheVariants as stat
use Rattle.nfs4_compound.specs.declared.stop.Stop.{Stop}
use Rattle.nfs4_compound.specs.declared.stop.Stop.TheVariants as stop
use Rattle.nfs4_compound.specs.Args.{argop4}
use Rattle.nfs4_compound.specs.Results.{resop4}
use Rattle.nfs4_compound.specs.Compounds.{CompoundValue}
use Rattle.nfs4_session.specs.declared.begin.SlotPass.{SlotPass}
use Rattle.nfs4_session.specs.Clients.{SessionsState}
use Rattle.nfs4_session.specs.TableLaw.{TableMove, FinishRequest, DestroySession, table_after}
use Rattle.mds_receive.specs.MdsReceive.{IncomingValue, PassedOver, IsReply, IsAnswered, IsCompound, incoming_of}
use Rattle.ff_layout.specs.IoError.{ff_ioerr4}
use Rattle.layout_report.specs.Reports.{report_of}
use Rattle.mds_rule.specs.Answers.{own_answer, resumes, is_done_as, failures_by_place}
use Rattle.mds_rule.specs.MdsStates.{CompoundRun, WaitingRead, WaitingWrite, ServedFile, MdsSend, CallsServer, CallsBack, Replies, Answers, AwaitedCall, MdsValue, MdsStep, sends_none, and_then, with_call, served, with_served}
use Rattle.mds_rule.specs.declared.waiter.Waiter.TheVariants.{ForFile, ForRead, ForWrite, ForRecall}
use Rattle.mds_rule.specs.OpSteps.{OpStep, Goes, Ends, Waits, with_result, refuses, refused_as, stopped}
use Rattle.mds_rule.specs.ServedFiles.{has_fresh, is_period_end, is_swap, begins_again, reads_behind, file_behind, file_stepped, input_at, takes_input}
use Rattle.mds_rule.specs.FileOps.{servers_of, new_served, with_new_file}
use Rattle.mds_rule.specs.LayoutOps.{with_holder, client_number}
use Rattle.mds_rule.specs.Compounds.{operate, has_session, operates, compound_bytes, kept_in_slot, finishes, op_then, with_ops, runs}
use Rattle.mds_rule.specs.Goes.{calls_out}
use Rattle.mds_walk.specs.MdsRuns.{MdsInput, MdsEvent, Hears, IsTimedOut, Ticks as IsTick, RecallsFile, Resilvers, by_input, after_event}
use Rattle.mds_walk.specs.FirstRequests.{request_in}
use Rattle.mds_walk.proofs.Lists.{AllOf, all_push, all_set, all_got}
use Rattle.mds_walk.proofs.Parts.{moved, HeardAny, Becomes, Keeps, TakesInput, IsNoTurn, AllWait, plain_no_turn, is_waiting_op}
use Rattle.mds_walk.proofs.Keeping.{KeepsOp, hears_any, then_keeps, same, becomes_keeps, enters_keeps, stays}
use Rattle.mds_laws.proofs.Keeping.{IsNoRequest, is_note, plain_no_request}
use Rattle.mds_laws.proofs.Numbers.{WereSent, sent_more, sent_with, sent_kept}
use Rattle.mds_walk.proofs.Served.{place_served}
use Rattle.mds_walk.proofs.Requested.{behind_begin}
use Rattle.mds_replies.proofs.HolderCases.{Cases, WaitCases, out_of, is_plain_input}
use Rattle.mds_replies.proofs.LegibleResults.{IsLegible}
use Rattle.mds_replies.proofs.WaitingCompounds.{same_wait}
use Rattle.mds_replies.proofs.GoesWalk.{out_walk, input_walk}
use Rattle.mds_walk.proofs.EventWalk.{RunsSo}
use Rattle.mds_replies.proofs.EndCauses.{IsNoReturn, NoneReturned, IsNoReturnInput, phase_none}
use Rattle.mds_replies.proofs.SameRuns.{Like, like_then, StepsLike, operate_like, operates_like}
use Rattle.mds_walk.proofs.CompoundWalk.{operate_walk}
use Rattle.mds_replies.proofs.HolderParts.{case_parts}
use Rattle.cluster_model.specs.Phases.{holder_of}

-- ---- lists

pub in_pushed : {A : Type 0} (y x : A) (xs : List A) → IsOneOf y (xs ++ x ∷ []) → IsOneOf y xs ⊎ (y ≡ x)
in_pushed y x [] (inl is) = inr is
in_pushed y x [] (inr inside) = absurd inside
in_pushed y x (z ∷ xs) (inl is) = inl (inl is)
in_pushed y x (z ∷ xs) (inr inside) = further (in_pushed y x xs inside)
  where
    further : IsOneOf y xs ⊎ (y ≡ x) → IsOneOf y (z ∷ xs) ⊎ (y ≡ x)
    further (inl old) = inl (inr old)
    further (inr new) = inr new

all_joined : {A : Type 0} (P : A → Type 0) (xs ys : List A) → AllOf P xs → AllOf P ys → AllOf P (xs ++ ys)
all_joined P [] ys all more = more
all_joined P (x ∷ xs) ys all more = (all.0, all_joined P xs ys all.1 more)

-- ---- reads that begin again

begins_wait : (W : CompoundRun → Type 0) (live : List Mirror) (reads : List WaitingRead) → ((r : WaitingRead) → IsOneOf r reads → W r.compound) → (r : WaitingRead) → IsOneOf r (map (begins_again live) reads) → W r.compound
begins_wait W live [] all r inside = absurd inside
begins_wait W live (x ∷ reads) all r (inl same) = subst (λ (y : WaitingRead). W y.compound) (sym same) (all x (inl refl))
begins_wait W live (x ∷ reads) all r (inr inside) = begins_wait W live reads (λ y its. all y (inr its)) r inside

pub behind_wait : (W : CompoundRun → Type 0) (entries : List Entry) (live : List Mirror) (reads : List WaitingRead) (write : Option WaitingWrite) → AllWait W reads write → AllWait W (reads_behind entries live reads) write
behind_wait W entries live reads write a =
    cond_both (list_any is_swap entries) (map (begins_again live) reads) reads (λ (rs : List WaitingRead). AllWait W rs write) (λ is. record { reads_so = begins_wait W live reads a.reads_so; write_so = a.write_so }) (λ off. a)

unasked_no_return : (input : FileInput) → is_plain_input input ≡ true → IsNoReturnInput input
unasked_no_return (AsksLayout client) is = tt
unasked_no_return (OwnWrite at bytes) is = tt
unasked_no_return ToRecall is = tt
unasked_no_return (Returns client claimed places) is = absurd cc
unasked_no_return (Revokes cause) is = tt
unasked_no_return (OwnEnds causes at bytes) is = absurd cc
unasked_no_return Resilver is = tt
unasked_no_return (IsAnswer xid reply) is = tt
unasked_no_return (TimesOut xid) is = tt
unasked_no_return Ticks is = tt
unasked_no_return (Sees id seen) is = tt

note_no_return : (e : Entry) → is_note e ≡ true → IsNoReturn e
note_no_return (entry.Ended file cred cause) is = absurd cc
note_no_return e is = tt

abbrev pub has_waiting : List (Value argop4) → Bool
has_waiting [] = false
has_waiting (op ∷ ops) = is_waiting_op (arm_of argop4 op) || has_waiting ops

or_true : (a b : Bool) → b ≡ true → (a || b) ≡ true
or_true true b is = refl
or_true false b is = is

-- ---- what is so of a compound's run

abbrev pub StepsTo : (CompoundRun → Type 0) → OpStep → Type 0
StepsTo P (Goes m entries d) = P d
StepsTo P (Ends m entries d status) = P d
StepsTo P (Waits m entries) = Unit {0}

-- where it is so with these operations to come, it is so behind each
abbrev pub Says : (List (Value argop4) → CompoundRun → Type 0) → List (Value argop4) → Type 0
Says L [] = Unit {0}
Says L (op ∷ ops) = ((now : ℕ) (m : MdsValue) (c : CompoundRun) → L (op ∷ ops) c → StepsTo (L ops) (operates now m c op)) × Says L ops

-- nothing
abbrev pub AnyRun : CompoundRun → Type 0
AnyRun c = Unit {0}

abbrev pub AnyLeft : List (Value argop4) → CompoundRun → Type 0
AnyLeft ops c = Unit {0}

pub steps_any : (s : OpStep) → StepsTo AnyRun s
steps_any (Goes m entries d) = tt
steps_any (Ends m entries d status) = tt
steps_any (Waits m entries) = tt

pub says_any : (ops : List (Value argop4)) → Says AnyLeft ops
says_any [] = tt
says_any (op ∷ ops) = (λ now m c its. steps_any (operates now m c op), says_any ops)

pub record Stands (W : CompoundRun → Type 0) (Q : SessionsState → Type 0) (A : SessionsState → NodeId → RpcReply → Type 0) (E : Entry → Type 0) (files : List ServedFile) (sessions : SessionsState) (calls : List AwaitedCall) (es : List Entry)
    (ss : List MdsSend) : Type 0 where
  pub waits : AllOf (λ (s : ServedFile). AllWait W s.reads s.write) files
  pub table : Q sessions
  pub entries : AllOf E es
  pub replies : (node : NodeId) (reply : RpcReply) → IsOneOf (Replies node reply) ss → A sessions node reply
  pub were : WereSent calls ss

module _ (W : CompoundRun → Type 0) (left : (c : CompoundRun) → W c → (c.ops ≡ []) × (c.stop ≡ stop.End None)) (Q : SessionsState → Type 0) (keeps : (s : SessionsState) (move : TableMove) → IsNoTurn move → Q s → Q (table_after s move))
    (A : SessionsState → NodeId → RpcReply → Type 0) (stays_said : (s : SessionsState) (move : TableMove) → IsNoRequest move → (node : NodeId) (reply : RpcReply) → A s node reply → A (table_after s move) node reply)
    (replied : (s : SessionsState) → Q s → (c : CompoundRun) (result : Value resop4) (status : Stat4) → IsLegible result → W c
    → Q (kept_in_slot s c.slot (compound_bytes (with_result c result) status)) × A (kept_in_slot s c.slot (compound_bytes (with_result c result) status)) c.node (success_reply c.xid (compound_bytes (with_result c result) status)))
    (E : Entry → Type 0) (plain : (e : Entry) → IsNoReturn e → E e) where
  abbrev pub IsSo : MdsValue → List Entry → List MdsSend → Type 0
  IsSo m es ss = Stands W Q A E m.files m.sessions m.calls es ss

  abbrev WaitSo : ServedFile → Type 0
  WaitSo s = AllWait W s.reads s.write

  wait_at : (m : MdsValue) (file : FileId) (s : ServedFile) → served m file ≡ Some s → AllOf (λ (x : ServedFile). AllWait W x.reads x.write) m.files → AllWait W s.reads s.write
  wait_at m file s at all = all_got (λ (x : ServedFile). AllWait W x.reads x.write) m.files (file.0 - 1) s all (place_served m file s at).1

  all_plain : (es : List Entry) → NoneReturned es → AllOf E es
  all_plain [] none = tt
  all_plain (e ∷ es) none = (plain e none.0, all_plain es none.1)

  all_any : ((e : Entry) → E e) → (es : List Entry) → AllOf E es
  all_any any [] = tt
  all_any any (e ∷ es) = (any e, all_any any es)

  -- ---- files

  set : (m : MdsValue) (file : FileId) (t : ServedFile) (calls : List AwaitedCall) (es : List Entry) (ss ts : List MdsSend) → AllWait W t.reads t.write → ((node : NodeId) (reply : RpcReply) → IsOneOf (Replies node reply) ts → A m.sessions node reply)
      → WereSent calls ts → IsSo m es ss → Stands W Q A E (slice_set m.files (file.0 - 1) t) m.sessions calls es ts
  set m file t calls es ss ts its replies were i = record {
    waits = all_set (λ (x : ServedFile). AllWait W x.reads x.write) m.files (file.0 - 1) t i.waits its;
    table = i.table;
    entries = i.entries;
    replies = replies;
    were = were;
  }

  stepped : (m : MdsValue) (file : FileId) (s : ServedFile) (step : FileStep) → served m file ≡ Some s → AllOf E step.entries → (es : List Entry) (ss : List MdsSend) → IsSo m es ss → IsSo (file_stepped m file s step).mds (es ++ step.entries) ss
  stepped m file s step at none es ss i =
      let n : MdsValue = with_served (record m { fresh = drawn m.fresh step }) file (file_behind s step) in
      let new : Stands W Q A E n.files n.sessions n.calls (es ++ step.entries) ss = record {
        waits = all_set (λ (x : ServedFile). AllWait W x.reads x.write) m.files (file.0 - 1) (file_behind s step) i.waits (behind_wait W step.entries step.file.layout.live s.reads s.write (wait_at m file s at i.waits));
        table = i.table;
        entries = all_joined E es step.entries i.entries none;
        replies = i.replies;
        were = i.were;
      } in
      cond_both (list_any is_period_end step.entries) (record n { recalls = without_file file n.recalls }) n (λ (x : MdsValue). Stands W Q A E x.files x.sessions x.calls (es ++ step.entries) ss) (λ end. new) (λ off. new)

  inputs : (m : MdsValue) (file : FileId) (s : ServedFile) (input : FileInput) → served m file ≡ Some s → IsNoReturnInput input → (es : List Entry) (ss : List MdsSend) → IsSo m es ss
      → IsSo (file_stepped m file s (phase file s.file input m.fresh)).mds (es ++ (phase file s.file input m.fresh).entries) ss
  inputs m file s input at its es ss i = stepped m file s (phase file s.file input m.fresh) at (all_plain (phase file s.file input m.fresh).entries (phase_none file m.fresh s.file input its)) es ss i

  asked : (m : MdsValue) (file : FileId) (input : FileInput) → IsNoReturnInput input → (o : Option ServedFile) → served m file ≡ o → (es : List Entry) (ss : List MdsSend) → IsSo m es ss → IsSo (input_at m file input o).mds (es ++ (input_at m file input o).entries) ss
  asked m file input its None at es ss i = subst (λ (l : List Entry). IsSo m l ss) (sym (append-nil es)) i
  asked m file input its (Some s) at es ss i =
      cond_both (has_fresh m.fresh) (file_stepped m file s (phase file s.file input m.fresh)) (sends_none m) (λ (x : MdsStep). IsSo x.mds (es ++ x.entries) ss) (λ fresh. inputs m file s input at its es ss i)
      (λ off. subst (λ (l : List Entry). IsSo m l ss) (sym (append-nil es)) i)

  held : (m : MdsValue) (file : FileId) (s : ServedFile) (client : ℕ) (again : Bool) → served m file ≡ Some s → (es : List Entry) (ss : List MdsSend) → IsSo m es ss → IsSo (with_served m file (with_holder client again s)) es ss
  held m file s client again at es ss i = set m file (with_holder client again s) m.calls es ss ss (wait_at m file s at i.waits) i.replies i.were i

  makes : (m : MdsValue) (name : List ℕ) (es : List Entry) (ss : List MdsSend) → IsSo m es ss → IsSo (with_new_file m name) es ss
  makes m name es ss i = record {
    waits = all_push (λ (x : ServedFile). AllWait W x.reads x.write) m.files (new_served name (new_mds_file m.fresh (servers_of (length m.servers) m.mirrors (length m.files + 1)))) i.waits
        (record { reads_so = λ r inside. absurd inside; write_so = λ w is. absurd (none-some w is) });
    table = i.table;
    entries = i.entries;
    replies = i.replies;
    were = i.were;
  }

  -- ---- what is sent

  is_no_reply : MdsSend → Type 0
  is_no_reply s = (node : NodeId) (reply : RpcReply) → Replies node reply ≡ s → ⊥

  pushed : (t : SessionsState) (ss : List MdsSend) (s : MdsSend) → ((node : NodeId) (reply : RpcReply) → Replies node reply ≡ s → A t node reply) → ((node : NodeId) (reply : RpcReply) → IsOneOf (Replies node reply) ss → A t node reply)
      → (node : NodeId) (reply : RpcReply) → IsOneOf (Replies node reply) (ss ++ s ∷ []) → A t node reply
  pushed t ss s new old node reply inside = by_place (in_pushed (Replies node reply) s ss inside)
    where
      by_place : IsOneOf (Replies node reply) ss ⊎ (Replies node reply ≡ s) → A t node reply
      by_place (inl was) = old node reply was
      by_place (inr is) = new node reply is

  abbrev reply_there : MdsSend → Bool
  reply_there (CallsServer server xid uid call) = false
  reply_there (CallsBack xid back file stateid) = false
  reply_there (Replies node reply) = true
  reply_there (Answers node bytes) = false

  no_reply : (t : SessionsState) (s : MdsSend) → reply_there s ≡ false → (node : NodeId) (reply : RpcReply) → Replies node reply ≡ s → A t node reply
  no_reply t s off node reply is = absurd (not_so (ap reply_there is ∙ off))
    where
      not_so : true ≡ false → ⊥
      not_so e = absurd cc

  pub sends : (m : MdsValue) (es : List Entry) (ss : List MdsSend) (s : MdsSend) → ((node : NodeId) (reply : RpcReply) → Replies node reply ≡ s → A m.sessions node reply) → IsSo m es ss → IsSo m es (ss ++ s ∷ [])
  sends m es ss s new i = record { waits = i.waits; table = i.table; entries = i.entries; replies = pushed m.sessions ss s new i.replies; were = sent_more m.calls ss s i.were }

  called : (m : MdsValue) (file : FileId) (t : ServedFile) (call : AwaitedCall) (es : List Entry) (ss : List MdsSend) → reply_there call.sent ≡ false → AllWait W t.reads t.write → IsSo m es ss
      → Stands W Q A E (slice_set m.files (file.0 - 1) t) m.sessions (with_call call m.calls) (es ++ []) (ss ++ call.sent ∷ [])
  called m file t call es ss off its i =
      subst (λ (l : List Entry). Stands W Q A E (slice_set m.files (file.0 - 1) t) m.sessions (with_call call m.calls) l (ss ++ call.sent ∷ [])) (sym (append-nil es))
      (set m file t (with_call call m.calls) es ss (ss ++ call.sent ∷ []) its (pushed m.sessions ss call.sent (no_reply m.sessions call.sent off) i.replies) (sent_with m.calls ss call i.were) i)

  called_back : (m : MdsValue) (call : AwaitedCall) (es : List Entry) (ss : List MdsSend) → reply_there call.sent ≡ false → IsSo m es ss → Stands W Q A E m.files m.sessions (with_call call m.calls) (es ++ []) (ss ++ call.sent ∷ [])
  called_back m call es ss off i =
      subst (λ (l : List Entry). Stands W Q A E m.files m.sessions (with_call call m.calls) l (ss ++ call.sent ∷ [])) (sym (append-nil es))
      (record { waits = i.waits; table = i.table; entries = i.entries; replies = pushed m.sessions ss call.sent (no_reply m.sessions call.sent off) i.replies; were = sent_with m.calls ss call i.were })

  -- ---- the cases

  pub cases : Cases IsSo HeardAny W
  cases = record {
    wait = λ m es ss i file s at. wait_at m file s at i.waits;
    quiet = λ m confirmed opens reclaimed recalls old es ss i. i;
    tables = λ m move is es ss i. record { waits = i.waits; table = keeps m.sessions move (plain_no_turn move is) i.table; entries = i.entries; replies = λ node reply inside. stays_said m.sessions move (plain_no_request move is) node reply (i.replies node reply inside); were = i.were };
    notes = λ m e note es ss i. record { waits = i.waits; table = i.table; entries = all_push E es e i.entries (plain e (note_no_return e note)); replies = i.replies; were = i.were };
    puts = λ m file s t at same holder seqid write waits es ss i. set m file t m.calls es ss ss (waits (wait_at m file s at i.waits)) i.replies i.were i;
    again_to = λ m file s client at its es ss i. held m file s client true at es ss i;
    grants = λ m file n client t from free was at es ss i.
        held (takes_input m file (AsksLayout n)).mds file t client false at (es ++ (takes_input m file (AsksLayout n)).entries) ss (asked m file (AsksLayout n) tt (served m file) refl es ss i);
    inputs = λ m file s input itself at fresh es ss i. inputs m file s input at (unasked_no_return input itself) es ss i;
    own_ends = λ m file s failures place bytes at fresh es ss i. inputs m file s (OwnEnds (failures_by_place failures s.file.layout.live) place bytes) at tt es ss i;
    timeouts = λ m file s xid at fresh es ss i. inputs m file s (TimesOut xid) at tt es ss i;
    hears = λ m file s call server own uid c replies heard caller sent out at fresh es ss i. inputs m file s (IsAnswer call.xid (own_answer c (replies c))) at tt es ss i;
    learns = λ m file s call server own uid c replies fileid shown heard caller sent named shows at fresh es ss i. inputs m file s (Sees (record { server = server; fileid = fileid }) shown.seen) at tt es ss i;
    makes = λ m name may. makes m name;
    calls_file = λ m file s c at has its es ss i.
        called m file (record s { file = c.file }) (record { node = Server c.server; xid = m.next_xid; caller = ForFile file; sent = CallsServer c.server m.next_xid c.uid c.call }) es ss refl (wait_at m file s at i.waits) i;
    calls_write = λ m file s w c at has waits its is_write es ss i.
        let a : AllWait W s.reads s.write = wait_at m file s at i.waits in
        called m file (record s { write = Some (record w { writer = c.writer }) })
        (record { node = Server c.id.server; xid = m.next_xid; caller = ForWrite file; sent = CallsServer c.id.server m.next_xid w.writer.cred c.call }) es ss refl
        (record { reads_so = a.reads_so; write_so = λ x one. subst (λ (y : WaitingWrite). W y.compound) (same_Some (record w { writer = c.writer }) x one) (a.write_so w waits) }) i;
    calls_read = λ m file s t server call at has same holder seqid write waits kept uid is_read es ss i.
        let a : AllWait W s.reads s.write = wait_at m file s at i.waits in
        called m file t (record { node = Server server; xid = m.next_xid; caller = ForRead file; sent = CallsServer server m.next_xid 0 call }) es ss refl
        (record { reads_so = same_wait W s.reads t.reads waits a.reads_so; write_so = λ x one. a.write_so x (sym kept ∙ one) }) i;
    calls_back = λ m node back file stateid has es ss i. called_back m (record { node = node; xid = m.next_xid; caller = ForRecall; sent = CallsBack m.next_xid back file stateid }) es ss refl i;
    skips = λ m has es ss i. i;
    forgets = λ m test es ss i. record { waits = i.waits; table = i.table; entries = i.entries; replies = i.replies; were = sent_kept test m.calls ss i.were };
    was = λ m es ss i. i.were;
    again = λ m s es ss i inside. sends m es ss s (λ node reply is. i.replies node reply (subst (λ (x : MdsSend). IsOneOf x ss) (sym is) inside)) i;
  }

  destroys : (m : MdsValue) (session : SessionId) → Becomes IsSo m (moved m (DestroySession session))
  destroys m session = λ es ss i. record { waits = i.waits; table = keeps m.sessions (DestroySession session) tt i.table; entries = i.entries; replies = λ node reply inside. stays_said m.sessions (DestroySession session) tt node reply (i.replies node reply inside); were = i.were }

  -- ---- a compound that ends

  slot_keeps : (m : MdsValue) (slot : Option SlotPass) (bytes : List ℕ) (es : List Entry) (ss : List MdsSend) → Q (kept_in_slot m.sessions slot bytes) → IsSo m es ss → IsSo (record m { sessions = kept_in_slot m.sessions slot bytes }) es ss
  slot_keeps m None bytes es ss its i = i
  slot_keeps m (Some slot) bytes es ss its i = record {
    waits = i.waits;
    table = its;
    entries = i.entries;
    replies = λ node reply inside. stays_said m.sessions (FinishRequest slot bytes) tt node reply (i.replies node reply inside);
    were = i.were;
  }

  abbrev parts_in : MdsSend → NodeId × RpcReply → NodeId × RpcReply
  parts_in (CallsServer server xid uid call) other = other
  parts_in (CallsBack xid back file stateid) other = other
  parts_in (Replies node reply) other = (node, reply)
  parts_in (Answers node bytes) other = other

  pub own_reply : (t : SessionsState) (node : NodeId) (reply : RpcReply) → A t node reply → (other : NodeId) (said : RpcReply) → Replies other said ≡ Replies node reply → A t other said
  own_reply t node reply its other said is =
      let same : (other, said) ≡ (node, reply) = ap (λ (s : MdsSend). parts_in s (node, reply)) is in
      subst (λ (p : NodeId × RpcReply). A t p.0 p.1) (sym same) its

  pub finish_keeps : (m : MdsValue) (c : CompoundRun) (status : Stat4)
      → (Q m.sessions → Q (kept_in_slot m.sessions c.slot (compound_bytes c status)) × A (kept_in_slot m.sessions c.slot (compound_bytes c status)) c.node (success_reply c.xid (compound_bytes c status))) → Keeps IsSo m (finishes m c status)
  finish_keeps m c status its es ss i =
      let n : MdsValue = record m { sessions = kept_in_slot m.sessions c.slot (compound_bytes c status) } in
      let reply = success_reply c.xid (compound_bytes c status) in
      let both = its i.table in
      subst (λ (l : List Entry). IsSo n l (ss ++ Replies c.node reply ∷ [])) (sym (append-nil es))
      (sends n es ss (Replies c.node reply) (own_reply n.sessions c.node reply both.1) (slot_keeps m c.slot (compound_bytes c status) es ss both.0 i))

  waiting_done : (now : ℕ) (m : MdsValue) (c : CompoundRun) (result : Value resop4) → IsLegible result → W c → Keeps IsSo m (resumes now (is_done_as m c result) c.ops)
  waiting_done now m c result read its =
      let d : CompoundRun = with_result c result in
      subst (λ (ops : List (Value argop4)). Keeps IsSo m (op_then (Goes m [] d) (λ n x. runs now ops n x))) (sym (left c its).0)
      (subst (λ (s : Stop). Keeps IsSo m (op_then (Goes m [] d) (λ n x. op_then (stopped n (with_ops x []) s) (λ k y. sends_none k)))) (sym (left c its).1)
      (enters_keeps IsSo m m [] (op_then (Ends m [] (with_ops d []) stat.Ok) (λ k y. sends_none k)) (stays IsSo m)
      (enters_keeps IsSo m m [] (finishes m (with_ops d []) stat.Ok) (stays IsSo m) (finish_keeps m (with_ops d []) stat.Ok (λ q. replied m.sessions q c result stat.Ok read its)))))

  pub waiting : WaitCases IsSo W
  waiting = record {
    done = waiting_done;
    failed = λ now m c number read its.
        enters_keeps IsSo m m [] (finishes m (with_result c (refused_as number stat.Io)) stat.Io) (stays IsSo m) (finish_keeps m (with_result c (refused_as number stat.Io)) stat.Io (λ q. replied m.sessions q c (refused_as number stat.Io) stat.Io read its));
  }

  -- ---- the operations of a compound

  -- what a compound's reply leaves, where P is so of its run
  abbrev Ended : CompoundRun → (CompoundRun → Type 0) → Type 0
  Ended c P =
      (d : CompoundRun) (status : Stat4) → Like c d → P d → (t : SessionsState) → Q t
      → Q (kept_in_slot t d.slot (compound_bytes d status)) × A (kept_in_slot t d.slot (compound_bytes d status)) d.node (success_reply d.xid (compound_bytes d status))

  op_keeps : (m : MdsValue) (c : CompoundRun) (P : CompoundRun → Type 0) (s : OpStep) (next : MdsValue → CompoundRun → MdsStep) → KeepsOp IsSo m s → StepsLike c s → StepsTo P s → Ended c P
      → ((n : MdsValue) (d : CompoundRun) → Like c d → P d → Keeps IsSo n (next n d)) → Keeps IsSo m (op_then s next)
  op_keeps m c P (Goes n entries d) next q like to mine all = enters_keeps IsSo m n entries (next n d) q (all n d like to)
  op_keeps m c P (Ends n entries d status) next q like to mine all = enters_keeps IsSo m n entries (finishes n d status) q (finish_keeps n d status (λ q. mine d status like to n.sessions q))
  op_keeps m c P (Waits n entries) next q like to mine all = enters_keeps IsSo m n entries (sends_none n) q (same IsSo n)

  returned_any : ((e : Entry) → E e) → (m : MdsValue) (file : FileId) (s : ServedFile) (n : ℕ) (cred : Cred) (errors : List (Value ff_ioerr4)) → TakesInput IsSo m file s (Returns n cred (report_of errors s.file.layout.live))
  returned_any any m file s n cred errors at fresh es ss i =
      let x : FileStep = phase file s.file (Returns n cred (report_of errors s.file.layout.live)) m.fresh in
      stepped m file s x at (all_any any x.entries) es ss i

  operate_keeps : (now : ℕ) (m : MdsValue) (c : CompoundRun) (op : Value argop4) → (is_waiting_op (arm_of argop4 op) ≡ true → W c) → ((arm_of argop4 op == 51) ≡ true → (e : Entry) → E e) → KeepsOp IsSo m (operate now m c op)
  operate_keeps now m c op waits any =
      operate_walk IsSo HeardAny W (case_parts IsSo HeardAny W cases) now m c op
      (record {
        waits = waits;
        returns = λ is x file s errors. returned_any (any is) x file s (client_number (holder_of s.file.layout.phase)) s.file.layout.cred errors;
        confirms = λ client is x es ss i. i;
        destroys = λ is. destroys;
      })

  operates_keeps : (now : ℕ) (m : MdsValue) (c : CompoundRun) (op : Value argop4) → (is_waiting_op (arm_of argop4 op) ≡ true → W c) → ((arm_of argop4 op == 51) ≡ true → (e : Entry) → E e) → KeepsOp IsSo m (operates now m c op)
  operates_keeps now m c op waits any =
      cond_both (has_session m c.slot) (operate now m c op) (refuses m c (arm_of argop4 op) stat.BadSession) (λ (s : OpStep). KeepsOp IsSo m s) (λ is. operate_keeps now m c op waits any) (λ off. stays IsSo m)

  -- only the last one waits, and only where anything may be entered a LAYOUTRETURN is among them
  pub record FineOp (op : Value argop4) (ops : List (Value argop4)) : Type 0 where
    pub last : is_waiting_op (arm_of argop4 op) ≡ true → ops ≡ []
    pub any : (arm_of argop4 op == 51) ≡ true → (e : Entry) → E e

  abbrev pub AreFine : List (Value argop4) → Type 0
  AreFine [] = Unit {0}
  AreFine (op ∷ ops) = FineOp op ops × AreFine ops

  with_ops_like : (c : CompoundRun) (ops : List (Value argop4)) → Like c (with_ops c ops)
  with_ops_like c ops = record { node = refl; xid = refl; tag = refl; stop = refl; slot = refl; more = []; results = sym (append-nil c.results) }

  -- none is left
  end_keeps : (now : ℕ) (m : MdsValue) (c : CompoundRun) (P : CompoundRun → Type 0) → c.stop ≡ stop.End None → P (with_ops c []) → Ended c P → Keeps IsSo m (runs now [] m c)
  end_keeps now m c P end its mine =
      subst (λ (s : Stop). Keeps IsSo m (op_then (stopped m (with_ops c []) s) (λ n d. sends_none n))) (sym end)
      (enters_keeps IsSo m m [] (finishes m (with_ops c []) stat.Ok) (stays IsSo m) (finish_keeps m (with_ops c []) stat.Ok (λ q. mine (with_ops c []) stat.Ok (with_ops_like c []) its m.sessions q)))

  -- L is so of the run of a compound with these operations to come
  module _ (L : List (Value argop4) → CompoundRun → Type 0) (on : (left ops : List (Value argop4)) (c : CompoundRun) → L left c → L left (with_ops c ops)) where
    abbrev EachEnd : CompoundRun → Type 0
    EachEnd c = (left : List (Value argop4)) → Ended c (L left)

    each_then : (c d : CompoundRun) → Like c d → EachEnd c → EachEnd d
    each_then c d like mine left x status l its t q = mine left x status (like_then c d x like l) its t q

    pub run_keeps : (now : ℕ) (ops : List (Value argop4)) → AreFine ops → Says L ops → (m : MdsValue) (c : CompoundRun) → L ops c → c.stop ≡ stop.End None → EachEnd c
        → ((d : CompoundRun) (op : Value argop4) → Like c d → L (op ∷ []) d → d.ops ≡ [] → has_waiting ops ≡ true → W d) → Keeps IsSo m (runs now ops m c)
    run_keeps now [] fine says m c its end mine waits = end_keeps now m c (L []) end (on [] [] c its) (mine [])
    run_keeps now (op ∷ ops) fine says m c its end mine waits =
        let x : CompoundRun = with_ops c ops in
        let like : Like c x = with_ops_like c ops in
        let so : L (op ∷ ops) x = on (op ∷ ops) ops c its in
        op_keeps m x (L ops) (operates now m x op) (λ n d. runs now ops n d)
        (operates_keeps now m x op (λ is. waits x op like (subst (λ (rest : List (Value argop4)). L (op ∷ rest) x) (fine.0.last is) so) (fine.0.last is) (ap (λ (b : Bool). b || has_waiting ops) is)) fine.0.any) (operates_like now m x op) (says.0 now m x so)
        (each_then c x like mine ops)
        (λ n d l to.
        run_keeps now ops fine.1 says.1 n d to (l.stop ∙ end) (each_then c d (like_then c x d like l) mine)
        (λ y o r done none some. waits y o (like_then c d y (like_then c x d like l) r) done none (or_true (is_waiting_op (arm_of argop4 op)) (has_waiting ops) some)))

  -- an operation without a SEQUENCE, alone
  pub alone_keeps : (now : ℕ) (m : MdsValue) (c : CompoundRun) (op : Value argop4) → is_waiting_op (arm_of argop4 op) ≡ false → (arm_of argop4 op == 51) ≡ false → c.stop ≡ stop.End None → Ended c AnyRun
      → Keeps IsSo m (op_then (operate now m (with_ops c []) op) (λ n d. runs now [] n d))
  alone_keeps now m c op quick other end mine =
      let x : CompoundRun = with_ops c [] in
      let like : Like c x = with_ops_like c [] in
      op_keeps m x AnyRun (operate now m x op) (λ n d. runs now [] n d) (operate_keeps now m x op (λ is. absurd (not_so (sym quick ∙ is))) (λ is. absurd (not_so (sym other ∙ is)))) (operate_like now m x op) (steps_any (operate now m x op))
      (λ d status l its. mine d status (like_then c x d like l) its)
      (λ n d l to. end_keeps now n d AnyRun (l.stop ∙ end) tt (λ y status r its. mine y status (like_then c d y (like_then c x d like l) r) its))
    where
      not_so : false ≡ true → ⊥
      not_so e = absurd cc

  pub go_out : (m : MdsValue) → Keeps IsSo m (calls_out [] m)
  go_out m = out_walk IsSo (out_of IsSo HeardAny W cases) [] m

  -- the calls that go out behind it
  pub out_keeps : (m : MdsValue) (s : MdsStep) → Keeps IsSo m s → Keeps IsSo m (and_then s (calls_out []))
  out_keeps m s q = then_keeps IsSo m s (calls_out []) q (λ n. out_walk IsSo (out_of IsSo HeardAny W cases) [] n)

  -- ---- an event that brings no compound

  begun_same : (now : ℕ) (m : MdsValue) (from : NodeId) (v : IncomingValue) → ((xid : ℕ) (c : CompoundValue) → v ≡ IsCompound xid c → ⊥) → Becomes IsSo m (Rattle.mds_walk.proofs.Requested.behind_request now m from (request_in v))
  begun_same now m from PassedOver none = λ es ss i. i
  begun_same now m from (IsReply reply) none = λ es ss i. i
  begun_same now m from (IsAnswered bytes) none = λ es ss i. i
  begun_same now m from (IsCompound xid c) none = absurd (none xid c refl)

  abbrev pub BringsNone : MdsInput → Type 0
  BringsNone (Hears from bytes) = (xid : ℕ) (c : CompoundValue) → incoming_of bytes ≡ IsCompound xid c → ⊥
  BringsNone input = Unit {0}

  begin_same : (now : ℕ) (input : MdsInput) (m : MdsValue) → BringsNone input → Becomes IsSo m (behind_begin now input m)
  begin_same now (Hears from bytes) m none = begun_same now m from (incoming_of bytes) none
  begin_same now (IsTimedOut to which) m none = λ es ss i. i
  begin_same now IsTick m none = λ es ss i. i
  begin_same now (RecallsFile file) m none = λ es ss i. i
  begin_same now (Resilvers file) m none = λ es ss i. i

  runs_none : (now : ℕ) (input : MdsInput) (m : MdsValue) → BringsNone input → RunsSo IsSo now input m
  runs_none now (Hears from bytes) m none = (λ xid c is. absurd (none xid c is), λ given is es ss i. sends m es ss (Answers from given) (no_reply m.sessions (Answers from given) refl) i)
  runs_none now (IsTimedOut to which) m none = tt
  runs_none now IsTick m none = tt
  runs_none now (RecallsFile file) m none = tt
  runs_none now (Resilvers file) m none = tt

  pub other_keeps : (e : MdsEvent) (m : MdsValue) → BringsNone e.input → Keeps IsSo m (after_event e m)
  other_keeps e m none =
      becomes_keeps IsSo m (behind_begin e.now e.input m) (by_input e.now e.input m) (begin_same e.now e.input m none)
      (input_walk IsSo HeardAny W cases waiting e.now e.input m (hears_any IsSo e.input) (runs_none e.now e.input m none))
