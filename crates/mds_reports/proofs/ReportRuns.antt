-- What each reply of a run tells a slot agrees with its answer.
use Rattle.std.proofs.Common.{◌≡◌, ◌<◌, ℕ, ◌+◌, ◌^◌, true, false, List, [], ◌∷◌, ◌++◌, length, Option, None, refl, sym, ap, subst, ◌∙◌, inl, inr, arith, append_assoc, append-nil}
use Rattle.std.specs.Prelude.{map}
use Rattle.std.proofs.lemmas.Bool.{cond_both}
use Rattle.ff_xdr.specs.Form.{Value, Fits, spelling, arm_of}
use Rattle.ff_xdr.specs.Arms.{arm}
use Rattle.rpc_record.specs.Replies.{RpcReply}
use Rattle.compound_reply.specs.Replied.{success_reply}
use Rattle.cluster_model.specs.declared.ids.NodeId.{NodeId}
use Rattle.cluster_model.specs.declared.ids.FileId.{FileId}
use Rattle.cluster_model.specs.declared.entry.Entry.{Entry}
use Rattle.cluster_model.specs.Members.{IsOneOf}
use Rattle.device_addr.specs.Universal.{AddressValue}
use Rattle.nfs4_types.specs.declared.ids.SessionId.{SessionId}
use Rattle.nfs4_types.specs.declared.status.Stat4.{Stat4}
use Rattle.nfs4_types.specs.declared.status.Stat4.TheVariants as stat
use Rattle.nfs4_types.specs.Status.{stat4_number}
use Rattle.nfs4_types.specs.Handles.{file_handle_of}
use Rattle.nfs4_types.specs.Ids.{device_id_of}
use Rattle.nfs4_types.specs.Stateids.{stateid4_value}
use Rattle.nfs4_file_ops.specs.OpenHow.{createhow4, openflag4}
use Rattle.nfs4_file_ops.specs.LayoutReturn.{layoutreturn4}
use Rattle.nfs4_compound.specs.declared.stop.Stop.{Stop}
use Rattle.nfs4_compound.specs.declared.stop.Stop.TheVariants as stop
use Rattle.nfs4_compound.specs.Args.{argop4}
use Rattle.nfs4_compound.specs.Results.{resop4}
use Rattle.nfs4_compound.specs.Compounds.{CompoundValue, compound4_res}
use Rattle.nfs4_session.specs.declared.begin.SlotPass.{SlotPass}
use Rattle.nfs4_session.specs.Slots.{SlotAnswer, TakesEffect, Repeats, Refuses}
use Rattle.nfs4_session.specs.Clients.{SessionsState}
use Rattle.nfs4_session.specs.Requests.{request_answer}
use Rattle.nfs4_session.specs.Bindings.{after_binding}
use Rattle.nfs4_session.specs.TableLaw.{Bind}
use Rattle.client_file_calls.specs.declared.open.TheConstants.{SHARE_BOTH}
use Rattle.client_file_calls.specs.declared.layouts.TheConstants.{MAX_COUNT}
use Rattle.client_file_calls.specs.FileOps.{whole_length, flex_files, reads_and_writes, put_fh_op, device_info_op, return_body}
use Rattle.client_session_calls.specs.declared.create_session.TheConstants.{WITH_BACK_CHANNEL}
use Rattle.nfs4_session_ops.specs.CallbackSec.{callback_sec4}
use Rattle.client_session_calls.specs.SessionOps.{fore_channel, back_channel, callback_program, exchange_id_op, create_session_op}
use Rattle.client_mds_calls.specs.MdsCalls.{MdsCallValue, ExchangeId, CreateSession, OnSlot, SlotCallValue, ask_of, takes_slot}
use Rattle.client_mds_calls.specs.MdsCalls as slot
use Rattle.client_mds_calls.specs.MdsReplies.{MdsReplyValue}
use Rattle.client_mds_calls.specs.MdsCompounds.{slot_ops, mds_ops}
use Rattle.mds_receive.specs.MdsReceive.{IsCompound, incoming_of}
use Rattle.mds_rule.specs.MdsStates.{CompoundRun, ServedFile, MdsSend, Replies, MdsValue, MdsStep, sends_none}
use Rattle.mds_rule.specs.OpSteps.{OpStep, Goes, Ends, Waits, with_result, refuses, refused_as, stopped}
use Rattle.mds_rule.specs.Compounds.{operate, has_session, operates, compound_bytes, kept_in_slot, sequence_result, finishes, op_then, with_ops, runs, sequenced}
use Rattle.mds_walk.specs.MdsRuns.{MdsInput, MdsEvent, Hears, IsTimedOut, Ticks, RecallsFile, Resilvers, after_event}
use Rattle.mds_walk.proofs.Lists.{AllOf}
use Rattle.mds_walk.proofs.Parts.{HeardAny, Keeps, AllWait, is_waiting_op, Parts, TakesReturns}
use Rattle.mds_walk.proofs.Keeping.{KeepsOp, same, enters_keeps, stays}
use Rattle.mds_replies.specs.ClientCalls.{IsCallFrom, server_after, IsEventOf}
use Rattle.mds_replies.specs.SlotReplies.{request_of, EffectsAreNumbered}
use Rattle.mds_replies.specs.AnsweredRequests.{AreFitCalls, StaysRoomy, HearsFitCall}
use Rattle.mds_replies.proofs.CallEvents.{Brings, ACall, Nothing, brings}
use Rattle.mds_replies.proofs.HeldFiles.{in_behind}
use Rattle.mds_replies.proofs.JudgedRequests.{refusal_read}
use Rattle.mds_walk.proofs.OpsWalk.{puts_fh, gets_fh, opens, reads, writes, layout_gets, layout_returns, device_infos}
use Rattle.mds_replies.proofs.OutCalls.{are_called}
use Rattle.mds_replies.proofs.PeriodKept.{sent_with_calls, in_sent}
use Rattle.mds_replies.proofs.ReplyForms.{sequence_fits}
use Rattle.mds_replies.proofs.ReplySent.{run_of_call, event_is, of_calls}
use Rattle.mds_replies.proofs.SameRuns.{Like, like_then, StepsLike, operates_like, operate_like}
use Rattle.mds_walk.proofs.ServedWalk.{exchanges, creates, reclaims_all}
use Rattle.mds_replies.proofs.SlotTables.{TableSo, SlotJudged, NoSession, BySlot, judged, request_so}
use Rattle.mds_replies.proofs.TakenMeans.{one_more, are_calls}
use Rattle.mds_replies.proofs.TakenRequests.{taken_mds, taken_compound}
use Rattle.mds_reports.specs.SlotReports.{AgreesWith, CameAlone, ReportsAgree}
use Rattle.mds_reports.proofs.SlotSteps.{IsOtherStatus, StepStays, OpStays, ops_stay}
use Rattle.mds_reports.proofs.StandingSessions.{stands_behind}
use Rattle.mds_reports.proofs.KeptReplies.{AgreesBytes, SlotAgrees, AnswerAgrees, IsSequenceRefusal, IsGone, IsMisordered, IsDelayed, IsUncached, plain_agrees, slot_agrees}
use Rattle.mds_reports.proofs.ReportTurns.{bytes_agree, W, IsAgreed, IsSo, cases, sends, own_reply, finish_keeps, agreed_keeps, returned, out_keeps, BringsNone, other_keeps}
use Rattle.mds_replies.proofs.HolderParts.{case_parts}
use Rattle.mds_rule.specs.LayoutOps.{client_number}
use Rattle.cluster_model.specs.Phases.{holder_of}

-- ---- a SEQUENCE that is refused

abbrev RefusedSo : Stat4 → Type 0
RefusedSo status = AgreesBytes (spelling compound4_res (stat4_number status, ([], refused_as 53 status ∷ [])))

refused_agrees : (status : Stat4) → IsSequenceRefusal status → RefusedSo status
refused_agrees status (IsGone is) = subst RefusedSo (sym is) (λ xid c. subst (λ (v : MdsReplyValue). AgreesWith v.answer v.slot) (sym (refusal_read c xid stat.BadSession (record { some = refl; its_number = refl; fits = refl }))) tt)
refused_agrees status (IsMisordered is) = subst RefusedSo (sym is) (λ xid c. subst (λ (v : MdsReplyValue). AgreesWith v.answer v.slot) (sym (refusal_read c xid stat.SeqMisordered (record { some = refl; its_number = refl; fits = refl }))) tt)
refused_agrees status (IsDelayed is) = subst RefusedSo (sym is) (λ xid c. subst (λ (v : MdsReplyValue). AgreesWith v.answer v.slot) (sym (refusal_read c xid stat.Delay (record { some = refl; its_number = refl; fits = refl }))) refl)
refused_agrees status (IsUncached is) = subst RefusedSo (sym is) (λ xid c. subst (λ (v : MdsReplyValue). AgreesWith v.answer v.slot) (sym (refusal_read c xid stat.RetryUncachedRep (record { some = refl; its_number = refl; fits = refl }))) refl)

answer_agrees : (session : SessionId) (number : ℕ) (a : SlotAnswer) → SlotJudged SlotAgrees session number a → AnswerAgrees a
answer_agrees session number a (NoSession is) = subst AnswerAgrees (sym is) (IsGone refl)
answer_agrees session number a (BySlot slot p is) = subst AnswerAgrees (sym is) (slot_agrees slot number p)

-- ---- a compound of a request

-- the last of its operations alone may wait
abbrev EndsWaiting : List (Value argop4) → Type 0
EndsWaiting [] = Unit {0}
EndsWaiting (op ∷ ops) = (is_waiting_op (arm_of argop4 op) ≡ true → ops ≡ []) × EndsWaiting ops

not_true : false ≡ true → ⊥
not_true is = absurd cc

devices_end : (servers : List ℕ) → EndsWaiting (map device_info_op servers)
devices_end [] = tt
devices_end (n ∷ servers) = (λ is. absurd (not_true is), devices_end servers)

ops_end : (name : List ℕ) (call : SlotCallValue) → EndsWaiting (slot_ops name call)
ops_end name slot.ReclaimComplete = (λ is. absurd (not_true is), tt)
ops_end name (slot.Open file) = (λ is. absurd (not_true is), (λ is. absurd (not_true is), (λ is. absurd (not_true is), tt)))
ops_end name (slot.LayoutGet file) = (λ is. absurd (not_true is), (λ is. absurd (not_true is), tt))
ops_end name (slot.DeviceInfo servers) = devices_end servers
ops_end name (slot.Write file at bytes) = (λ is. absurd (not_true is), (λ is. refl, tt))
ops_end name (slot.Read file at count) = (λ is. absurd (not_true is), (λ is. refl, tt))
ops_end name (slot.LayoutReturn file stateid failed) = (λ is. absurd (not_true is), (λ is. absurd (not_true is), tt))
ops_end name slot.Renew = tt

module _ (Own : NodeId → ℕ → Type 0) where
  abbrev So : MdsValue → List Entry → List MdsSend → Type 0
  So = IsSo Own

  abbrev OpKeeps : Value argop4 → Type 0
  OpKeeps op = (now : ℕ) (m : MdsValue) (c : CompoundRun) → (is_waiting_op (arm_of argop4 op) ≡ true → W c) → KeepsOp So m (operate now m c op)

  own_parts : Parts So HeardAny W
  own_parts = case_parts So HeardAny W (cases Own)

  own_returns : TakesReturns So
  own_returns m file s errors = returned Own m file s (client_number (holder_of s.file.layout.phase)) s.file.layout.cred errors

  put_keeps : (file : FileId) → OpKeeps (put_fh_op file)
  put_keeps file now m c waits = puts_fh So HeardAny W own_parts m c (file_handle_of file.0)

  devices_keep : (servers : List ℕ) → AllOf OpKeeps (map device_info_op servers)
  devices_keep [] = tt
  devices_keep (n ∷ servers) = (λ now m c waits. device_infos So HeardAny W own_parts m c ((device_id_of n).0, (flex_files, (MAX_COUNT, []))), devices_keep servers)

  ops_keep : (name : List ℕ) (call : SlotCallValue) → AllOf OpKeeps (slot_ops name call)
  ops_keep name slot.ReclaimComplete = (λ now m c waits. reclaims_all So HeardAny W own_parts m c c.slot, tt)
  ops_keep name (slot.Open file) = (
    λ now m c waits. stays So m,
    (
      λ now m c waits. opens So HeardAny W own_parts m c (0, (SHARE_BOTH, (0, (0, (name, (arm 1 openflag4 (arm 0 createhow4 ([], [])), inl file)))))),
      (λ now m c waits. gets_fh So HeardAny W own_parts m c, tt),
    ),
  )
  ops_keep name (slot.LayoutGet file) = (
    put_keeps file.file,
    (λ now m c waits. layout_gets So HeardAny W own_parts m c now (false, (flex_files, (reads_and_writes, (0, (whole_length, (0, (stateid4_value file.stateid, MAX_COUNT))))))), tt),
  )
  ops_keep name (slot.DeviceInfo servers) = devices_keep servers
  ops_keep name (slot.Write file at bytes) = (put_keeps file.file, (λ now m c waits. writes So HeardAny W own_parts m c now (stateid4_value file.stateid, (at, (2, bytes))) (waits refl), tt))
  ops_keep name (slot.Read file at count) = (put_keeps file.file, (λ now m c waits. reads So HeardAny W own_parts m c (stateid4_value file.stateid, (at, count)) (waits refl), tt))
  ops_keep name (slot.LayoutReturn file stateid failed) = (
    put_keeps file,
    (λ now m c waits. layout_returns So HeardAny W own_parts m c (false, (flex_files, (reads_and_writes, arm 1 layoutreturn4 (0, (whole_length, (stateid4_value stateid, return_body stateid failed)))))) own_returns, tt),
  )
  ops_keep name slot.Renew = tt

  with_ops_like : (c : CompoundRun) (ops : List (Value argop4)) → Like c (with_ops c ops)
  with_ops_like c ops = record { node = refl; xid = refl; tag = refl; stop = refl; slot = refl; more = []; results = sym (append-nil c.results) }

  step_keeps : (m : MdsValue) (c : CompoundRun) (s : OpStep) (next : MdsValue → CompoundRun → MdsStep) → KeepsOp So m s → StepsLike c s → StepStays m s → ((d : CompoundRun) (status : Stat4) → Like c d → IsOtherStatus status → AgreesBytes (compound_bytes d status))
      → ((n : MdsValue) (d : CompoundRun) → Like c d → n.sessions ≡ m.sessions → Keeps So n (next n d)) → Keeps So m (op_then s next)
  step_keeps m c (Goes n entries d) next q like its mine all = enters_keeps So m n entries (next n d) q (all n d like its)
  step_keeps m c (Ends n entries d status) next q like its mine all = enters_keeps So m n entries (finishes n d status) q (agreed_keeps Own n d status (mine d status like its))
  step_keeps m c (Waits n entries) next q like its mine all = enters_keeps So m n entries (sends_none n) q (same So n)

  operates_keep : (now : ℕ) (m : MdsValue) (c : CompoundRun) (op : Value argop4) → KeepsOp So m (operate now m c op) → KeepsOp So m (operates now m c op)
  operates_keep now m c op q = cond_both (has_session m c.slot) (operate now m c op) (refuses m c (arm_of argop4 op) stat.BadSession) (λ (s : OpStep). KeepsOp So m s) (λ is. q) (λ off. stays So m)

  -- its session stands
  operates_stay : (now : ℕ) (m : MdsValue) (c : CompoundRun) (op : Value argop4) → has_session m c.slot ≡ true → StepStays m (operate now m c op) → StepStays m (operates now m c op)
  operates_stay now m c op there its = cond_both (has_session m c.slot) (operate now m c op) (refuses m c (arm_of argop4 op) stat.BadSession) (λ (s : OpStep). StepStays m s) (λ is. its) (λ off. absurd (not_true (sym off ∙ there)))

  ran : (now : ℕ) (ops : List (Value argop4)) → EndsWaiting ops → AllOf OpStays ops → AllOf OpKeeps ops → (m : MdsValue) (c : CompoundRun) → c.stop ≡ stop.End None → has_session m c.slot ≡ true
      → ((d : CompoundRun) (status : Stat4) → Like c d → IsOtherStatus status → AgreesBytes (compound_bytes d status)) → ((d : CompoundRun) → Like c d → d.ops ≡ [] → W d) → Keeps So m (runs now ops m c)
  ran now [] ends stay keep m c end there mine waits =
      subst (λ (s : Stop). Keeps So m (op_then (stopped m (with_ops c []) s) (λ n d. sends_none n))) (sym end)
      (enters_keeps So m m [] (finishes m (with_ops c []) stat.Ok) (stays So m) (agreed_keeps Own m (with_ops c []) stat.Ok (mine (with_ops c []) stat.Ok (with_ops_like c []) refl)))
  ran now (op ∷ ops) ends stay keep m c end there mine waits =
      let x : CompoundRun = with_ops c ops in
      let like : Like c x = with_ops_like c ops in
      step_keeps m x (operates now m x op) (λ n d. runs now ops n d) (operates_keep now m x op (keep.0 now m x (λ is. waits x like (ends.0 is)))) (operates_like now m x op) (operates_stay now m x op there (stay.0 now m x))
      (λ d status l other. mine d status (like_then c x d like l) other)
      (λ n d l its.
      ran now ops ends.1 stay.1 keep.1 n d (l.stop ∙ end) (ap (λ (o : Option _). has_session n o) l.slot ∙ (ap (λ (s : SessionsState). has_session (record m { sessions = s }) c.slot) its ∙ there))
      (λ y status r other. mine y status (like_then c d y (like_then c x d like l) r) other) (λ y r none. waits y (like_then c d y (like_then c x d like l) r) none))

  -- an operation without a SEQUENCE, alone
  alone_step : (now : ℕ) (m : MdsValue) (c : CompoundRun) (s : OpStep) → c.stop ≡ stop.End None → c.slot ≡ None → KeepsOp So m s → StepsLike c s → ((d : CompoundRun) → Like c d → Own d.node d.xid) → Keeps So m (op_then s (λ n d. runs now [] n d))
  alone_step now m c s end none q like mine = by_step s q like
    where
      kept : (n : MdsValue) (d : CompoundRun) (status : Stat4) → Like c d → TableSo SlotAgrees n.sessions → TableSo SlotAgrees (kept_in_slot n.sessions d.slot (compound_bytes d status))
      kept n d status l t = subst (λ (o : Option SlotPass). TableSo SlotAgrees (kept_in_slot n.sessions o (compound_bytes d status))) (sym (l.slot ∙ none)) t

      ends : (n : MdsValue) (d : CompoundRun) (status : Stat4) → Like c d → Keeps So n (finishes n d status)
      ends n d status l = finish_keeps Own n d status (kept n d status l) (inr (mine d l))

      by_step : (x : OpStep) → KeepsOp So m x → StepsLike c x → Keeps So m (op_then x (λ n d. runs now [] n d))
      by_step (Goes n entries d) p l =
          enters_keeps So m n entries (runs now [] n d) p
          (subst (λ (t : Stop). Keeps So n (op_then (stopped n (with_ops d []) t) (λ k y. sends_none k))) (sym (l.stop ∙ end))
          (enters_keeps So n n [] (finishes n (with_ops d []) stat.Ok) (stays So n) (ends n (with_ops d []) stat.Ok (like_then c d (with_ops d []) l (with_ops_like d [])))))
      by_step (Ends n entries d status) p l = enters_keeps So m n entries (finishes n d status) p (ends n d status l)
      by_step (Waits n entries) p l = enters_keeps So m n entries (sends_none n) p (same So n)

-- ---- an event

record RunSo (m : MdsValue) : Type 0 where
  waits : AllOf (λ (s : ServedFile). AllWait W s.reads s.write) m.files
  table : TableSo SlotAgrees m.sessions

module _ (numbered : EffectsAreNumbered) (servers : List AddressValue) (mirrors : ℕ) (events past after : List MdsEvent) (e : MdsEvent) (fit : AreFitCalls events) (roomy : StaysRoomy servers mirrors events) (split : IsEventOf events past e after)
    (i : RunSo (server_after servers mirrors past)) where
  abbrev m : MdsValue
  m = server_after servers mirrors past

  abbrev Alone : NodeId → ℕ → Type 0
  Alone node xid = CameAlone e node xid

  record EventSo : Type 0 where
    next : RunSo (server_after servers mirrors (past ++ e ∷ []))
    replies : (node : NodeId) (reply : RpcReply) → IsOneOf (Replies node reply) (after_event e (server_after servers mirrors past)).sends → IsAgreed Alone node reply

  ended : Keeps (IsSo Alone) (server_after servers mirrors past) (after_event e (server_after servers mirrors past)) → EventSo
  ended q =
      let old : List MdsSend = sent_with_calls (server_after servers mirrors past).calls in
      let s : IsSo Alone (after_event e (server_after servers mirrors past)).mds ([] ++ (after_event e (server_after servers mirrors past)).entries) (old ++ (after_event e (server_after servers mirrors past)).sends) =
      q [] old (record {
        waits = i.waits;
        table = i.table;
        replies = λ node reply inside. absurd (of_calls (server_after servers mirrors past).calls (Replies node reply) (are_called servers mirrors past) inside);
        were = λ call inside. in_sent call (server_after servers mirrors past).calls inside;
      }) in
      record {
        next = subst RunSo (sym (one_more servers mirrors past e)) (record { waits = s.waits; table = s.table });
        replies = λ node reply inside. s.replies node reply (in_behind (Replies node reply) old (after_event e (server_after servers mirrors past)).sends inside);
      }

  nothing_so : ((node : NodeId) (bytes : List ℕ) → e.input ≡ Hears node bytes → (xid : ℕ) (c : CompoundValue) → incoming_of bytes ≡ IsCompound xid c → ⊥) → EventSo
  nothing_so none = ended (other_keeps Alone e (server_after servers mirrors past) (by_input e.input refl))
    where
      by_input : (input : MdsInput) → e.input ≡ input → BringsNone Alone input
      by_input (Hears node bytes) at = none node bytes at
      by_input (IsTimedOut to which) at = tt
      by_input Ticks at = tt
      by_input (RecallsFile file) at = tt
      by_input (Resilvers file) at = tt

  module _ (node : NodeId) (xid : ℕ) (name : List ℕ) (call : MdsCallValue) (came : IsCallFrom e node xid name call) where
    abbrev new_compound : CompoundRun
    new_compound = record { node = node; xid = xid; tag = []; ops = mds_ops name call; stop = stop.End None; results = []; slot = None; is_kept = false; current = None }

    ran_so : Keeps (IsSo Alone) (server_after servers mirrors past) (run_of_call e.now (server_after servers mirrors past) node xid name call) → EventSo
    ran_so q =
        ended
        (subst (λ (s : MdsStep). Keeps (IsSo Alone) (server_after servers mirrors past) s) (sym (event_is e (server_after servers mirrors past) node xid name call came))
        (out_keeps Alone (server_after servers mirrors past) (run_of_call e.now (server_after servers mirrors past) node xid name call) q))

    mine : takes_slot (ask_of call) ≡ false → (c d : CompoundRun) → c.node ≡ node → c.xid ≡ xid → Like c d → CameAlone e d.node d.xid
    mine off c d at number l =
        record { name = name; call = call; came = subst (λ (x : NodeId). IsCallFrom e x d.xid name call) (sym (l.node ∙ at)) (subst (λ (x : ℕ). IsCallFrom e node x name call) (sym (l.xid ∙ number)) came); alone = off }

  exchange_so : (node : NodeId) (xid : ℕ) (name : List ℕ) (verifier : ℕ) → IsCallFrom e node xid name (ExchangeId verifier) → EventSo
  exchange_so node xid name verifier came =
      let c : CompoundRun = with_ops (new_compound node xid name (ExchangeId verifier) came) [] in
      ran_so node xid name (ExchangeId verifier) came
      (alone_step Alone e.now (server_after servers mirrors past) c (operate e.now (server_after servers mirrors past) c (exchange_id_op name verifier)) refl refl
      (exchanges (IsSo Alone) HeardAny W (case_parts (IsSo Alone) HeardAny W (cases Alone)) (server_after servers mirrors past) c e.now (verifier, (name, (0, (inl tt, []))))) (operate_like e.now (server_after servers mirrors past) c (exchange_id_op name verifier))
      (λ d l. mine node xid name (ExchangeId verifier) came refl c d refl refl l))

  create_so : (node : NodeId) (xid : ℕ) (name : List ℕ) (client sequence : ℕ) → IsCallFrom e node xid name (CreateSession client sequence) → EventSo
  create_so node xid name client sequence came =
      let c : CompoundRun = with_ops (new_compound node xid name (CreateSession client sequence) came) [] in
      ran_so node xid name (CreateSession client sequence) came
      (alone_step Alone e.now (server_after servers mirrors past) c (operate e.now (server_after servers mirrors past) c (create_session_op client sequence)) refl refl
      (creates (IsSo Alone) HeardAny W (case_parts (IsSo Alone) HeardAny W (cases Alone)) (server_after servers mirrors past) c e.now (client, (sequence, (WITH_BACK_CHANNEL, (fore_channel, (back_channel, (callback_program, arm 0 callback_sec4 tt ∷ [])))))) (λ x es ss j. j))
      (operate_like e.now (server_after servers mirrors past) c (create_session_op client sequence)) (λ d l. mine node xid name (CreateSession client sequence) came refl c d refl refl l))

  module _ (node : NodeId) (xid : ℕ) (name : List ℕ) (session : SessionId) (number : ℕ) (call : SlotCallValue) (came : IsCallFrom e node xid name (OnSlot session number call)) (its_id : length session.0 ≡ 16) where
    abbrev bound : SessionsState
    bound = after_binding (server_after servers mirrors past).sessions session node

    abbrev bound_mds : MdsValue
    bound_mds = record (server_after servers mirrors past) { sessions = after_binding (server_after servers mirrors past).sessions session node }

    abbrev new_run : CompoundRun
    new_run = new_compound node xid name (OnSlot session number call) came

    bound_so : TableSo SlotAgrees (server_after servers mirrors past).sessions → TableSo SlotAgrees (after_binding (server_after servers mirrors past).sessions session node)
    bound_so t = plain_agrees (server_after servers mirrors past).sessions (Bind session node) tt t

    slot_keeps : (a : SlotAnswer) → request_answer (after_binding (server_after servers mirrors past).sessions session node) (request_of session number call) ≡ a
        → Keeps (IsSo Alone) (server_after servers mirrors past) (sequenced e.now bound_mds new_run (slot_ops name call) (request_of session number call) a)
    slot_keeps TakesEffect effect =
        let small : number < 2 ^ 32 =
        (let few = roomy.counts past (e ∷ after) split session in
        let is = (numbered servers mirrors events past after e session number (are_calls events fit) split few (record { node = node; xid = xid; name = name; call = call; came = came; effect = effect })).0 in
        omega (arith, few, is)) in
        let fits : Fits resop4 (sequence_result (request_of session number call)) = sequence_fits (request_of session number call) its_id small refl in
        λ es ss j.
        ran Alone e.now (slot_ops name call) (ops_end name call) (ops_stay name call) (ops_keep Alone name call) (taken_mds e.now (server_after servers mirrors past) node session number call)
        (taken_compound node xid name session number call) refl (stands_behind bound session number call e.now effect)
        (λ d status l other. bytes_agree d.tag d.results (request_of session number call) l.more l.tag fits l.results status other)
        (λ d l none. record { ops = none; end = l.stop; tag = l.tag; s = request_of session number call; fits = fits; more = l.more; results = l.results }) es ss
        (record { waits = j.waits; table = request_so SlotAgrees bound (request_of session number call) e.now refl tt (bound_so j.table); replies = j.replies; were = j.were })
    slot_keeps (Repeats bytes) is =
        λ es ss j.
        let agrees : AgreesBytes bytes = answer_agrees session number (Repeats bytes) (subst (SlotJudged SlotAgrees session number) is (judged SlotAgrees (request_of session number call) refl bound (bound_so j.table))) in
        sends Alone bound_mds es ss (Replies node (success_reply xid bytes)) (own_reply Alone node (success_reply xid bytes) (inl (agrees xid))) (record { waits = j.waits; table = bound_so j.table; replies = j.replies; were = j.were })
    slot_keeps (Refuses status) is =
        λ es ss j.
        let refusal : IsSequenceRefusal status = answer_agrees session number (Refuses status) (subst (SlotJudged SlotAgrees session number) is (judged SlotAgrees (request_of session number call) refl bound (bound_so j.table))) in
        agreed_keeps Alone bound_mds (with_result new_run (refused_as 53 status)) status (refused_agrees status refusal) es ss (record { waits = j.waits; table = bound_so j.table; replies = j.replies; were = j.were })

    slot_so : EventSo
    slot_so = ran_so node xid name (OnSlot session number call) came (slot_keeps (request_answer (after_binding (server_after servers mirrors past).sessions session node) (request_of session number call)) refl)

  event_so : Brings e → EventSo
  event_so (ACall node xid name (ExchangeId verifier) came fits) = exchange_so node xid name verifier came
  event_so (ACall node xid name (CreateSession client sequence) came fits) = create_so node xid name client sequence came
  event_so (ACall node xid name (OnSlot session number call) came fits) = slot_so node xid name session number call came fits.0
  event_so (Nothing none) = nothing_so none

-- ---- a run

fit_at : (past more : List MdsEvent) (e : MdsEvent) → AreFitCalls (past ++ e ∷ more) → HearsFitCall e.input
fit_at [] more e fit = fit.0
fit_at (x ∷ past) more e fit = fit_at past more e fit.1

module _ (numbered : EffectsAreNumbered) (servers : List AddressValue) (mirrors : ℕ) (events : List MdsEvent) (fit : AreFitCalls events) (roomy : StaysRoomy servers mirrors events) where
  event_of : (past after : List MdsEvent) (e : MdsEvent) (split : IsEventOf events past e after) (i : RunSo (server_after servers mirrors past)) → EventSo numbered servers mirrors events past after e fit roomy split i
  event_of past after e split i = event_so numbered servers mirrors events past after e fit roomy split i (brings e (fit_at past after e (subst AreFitCalls split fit)))

  run_so : (past before rest : List MdsEvent) → events ≡ past ++ (before ++ rest) → RunSo (server_after servers mirrors past) → RunSo (server_after servers mirrors (past ++ before))
  run_so past [] rest is i = subst (λ (l : List MdsEvent). RunSo (server_after servers mirrors l)) (sym (append-nil past)) i
  run_so past (e ∷ before) rest is i =
      subst (λ (l : List MdsEvent). RunSo (server_after servers mirrors l)) (append_assoc past (e ∷ []) before)
      (run_so (past ++ e ∷ []) before rest (is ∙ sym (append_assoc past (e ∷ []) (before ++ rest))) (event_of past (before ++ rest) e is i).next)

pub reports_agree : EffectsAreNumbered → ReportsAgree
reports_agree numbered servers mirrors events before after e fit roomy split node reply inside =
    (event_of numbered servers mirrors events fit roomy before after e split (run_so numbered servers mirrors events fit roomy [] before (e ∷ after) split (record { waits = tt; table = tt }))).replies node reply inside
