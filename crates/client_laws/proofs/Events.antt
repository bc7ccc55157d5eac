-- What comes to a client, and what it does then.
use Rattle.client_mds_calls.specs.FittingCalls.{reports_server}
use Rattle.client_laws.proofs.Replied.{ending_queue, replied_so, stands_replied}
use Rattle.client_laws.proofs.RecallGoes.{IsEnding, recalled_ending}
use Rattle.client_laws.proofs.SlotKept.{SlotStands}
use Rattle.client_laws.proofs.Orders.{in_end}
use Rattle.client_laws.proofs.Held.{HeldLayout, held_of, queue_holds}
use Rattle.client_laws.proofs.Silent.{silent_now, unsent_out, writes_now}
use Rattle.std.proofs.Common.{◌≡◌, ◌≢◌, ℕ, Bool, true, false, List, [], ◌∷◌, ◌++◌, Option, Some, None, Result, Ok, Err, refl, ap, subst, ◌∙◌}
use Rattle.std.specs.Prelude.{◌==◌, ◌&&◌, ◌||◌, if◌then◌else◌}
use Rattle.std.proofs.lemmas.List.{append_assoc, append-nil}
use Rattle.std.proofs.lemmas.Option.{same_Some, none-some}
use Rattle.ff_xdr.specs.declared.error.XdrError.{XdrError}
use Rattle.rpc_record.specs.Calls.{call_at}
use Rattle.rpc_record.specs.Replies.{RpcReply, reply_at}
use Rattle.ds_calls.specs.GivenReplies.{reply_of_call}
use Rattle.cluster_model.specs.declared.ids.NodeId.{NodeId}
use Rattle.cluster_model.specs.declared.ids.NodeId.TheVariants.{Mds, Server, Client}
use Rattle.cluster_model.specs.declared.ids.Mirror.{Mirror}
use Rattle.cluster_model.specs.declared.entry.Entry.{Entry}
use Rattle.cluster_model.specs.declared.entry.Entry.TheVariants.{TimedOut, Rogue}
use Rattle.cluster_model.specs.DsCalls as ds
use Rattle.mirror_writer.specs.declared.step.WriterStep.{WriterStep}
use Rattle.mirror_writer.specs.declared.step.WriterStep.TheVariants as step
use Rattle.mirror_writer.specs.Writers.{after_timeout}
use Rattle.mirror_writer.specs.Outstanding.{OutCall, out_at}
use Rattle.client_file_calls.specs.declared.open.OpenFile.{OpenFile}
use Rattle.client_mds_calls.specs.declared.ask.MdsAsk.TheVariants as ask
use Rattle.client_mds_calls.specs.MdsReplies.{reply_of_ask}
use Rattle.client_state.specs.declared.layout.Layout.{Layout}
use Rattle.client_state.specs.declared.asked.Asked.{Asked}
use Rattle.client_state.specs.ClientStates.{ClientValue, ClientRun, followed_by, is_layout_return}
use Rattle.client_state.specs.ClientQueue.{run_queue}
use Rattle.client_state.specs.ClientSends.{ClientSend, RepeatsToServer, RepeatsToMds, RepliesToMds, ClientStep, sends_none, and_then, run_then}
use Rattle.client_calls.specs.ClientCalls.{asks, may_ask, calls_all, ends_event}
use Rattle.client_answers.specs.ClientMirrors.{is_commit, after_step, has_writer, goes_again, late_out, ds_timed_out_by, ds_answered}
use Rattle.client_answers.specs.ClientAnswers.{mds_answered}
use Rattle.client_callbacks.specs.Callbacks.{CbReply, callback_of}
use Rattle.mirror_client.specs.ClientRule.{unless_left, with_request, mds_replied, mds_timed_out, timed_out_to, stage_after_tick, layout_at_tick, client_at_tick, resends_late, is_stale_tie, renews, ticks_on, turned, rogue_write, mirror_of_place, strays, found_reply, found_call, record_from}
use Rattle.client_laws.specs.ClientHistory.{ClientInput, Requested, Recorded, TimeoutOf, Ticked, LeftProtocol, Strayed, input_step, HistoryItem, Hears, Enters, Sends, entered, sent, Each}
use Rattle.client_laws.specs.ClientRunLaws.{IsSilent, WritesEntered, WasStray}
use Rattle.client_laws.proofs.Later.{AreIdle, stands_later, entered_later}
use Rattle.client_laws.proofs.Places.{same_number}
use Rattle.client_laws.proofs.WriterMoves.{AfterMoves, timeout_moves, out_taken}
use Rattle.client_laws.proofs.LayoutMoves.{ticked_stands}
use Rattle.client_laws.proofs.Goes.{IsRight, RunGoes, StepGoes, CallsGo, run_unmoved, run_follows, run_then_goes, run_calls, step_calls, step_none, calls_none, calls_then, KeepsLayout, with_layout_stands}
use Rattle.client_laws.proofs.CallsOut.{nonzero, server_called}
use Rattle.client_laws.proofs.CompoundOut.{all_go, asks_go}
use Rattle.client_laws.proofs.QueueGoes.{QueueGoes, queue_goes, event_ends}
use Rattle.client_laws.proofs.DsGoes.{after_goes, ds_answer_goes}
use Rattle.client_laws.proofs.MdsGoes.{mds_answer_goes}
use Rattle.client_laws.proofs.CallbackGoes.{callback_stands}
use Rattle.client_laws.proofs.Stands.{StandsOf, Stands, LayoutStands, IfThere, reported_of}

-- ---- an event that sends something before its calls

-- What goes out first is right wherever a client stands behind the queue that has the same layout as this one, and leaves it standing.
pub record GoFirst (past : List HistoryItem) (c : ClientValue) (firsts : List ClientSend) : Type 0 where
  pub right : (entries : List Entry) (d : ClientValue) → Stands (past ++ entered entries) d → held_of d.layout ≡ held_of c.layout → Each IsRight (past ++ entered entries) (sent firsts)
  pub stands : (entries : List Entry) (d : ClientValue) → Stands (past ++ entered entries) d → (IsEnding c.layout → IsEnding d.layout) → Stands ((past ++ entered entries) ++ sent firsts) d

-- the same record again
idle_first : (past : List HistoryItem) (c : ClientValue) (firsts : List ClientSend) → AreIdle (sent firsts)
    → ((entries : List Entry) (d : ClientValue) → Stands (past ++ entered entries) d → held_of d.layout ≡ held_of c.layout → Each IsRight (past ++ entered entries) (sent firsts)) → GoFirst past c firsts
idle_first past c firsts idle right = record { right = right; stands = λ entries d s ends. stands_later (past ++ entered entries) (sent firsts) d idle s }

pub first_sends : (past : List HistoryItem) (r : ClientRun) (firsts : List ClientSend) → GoFirst past r.client firsts → RunGoes past r
    → StepGoes past (and_then (record { client = r.client; entries = r.entries; sends = firsts }) ends_event)
first_sends past r firsts first goes =
    let q : QueueGoes (past ++ entered r.entries) (run_queue r.client) = queue_goes (past ++ entered r.entries) r.client goes.stands in
    let run : RunGoes past (followed_by r (λ d. (run_queue d).run)) = run_follows past r (λ d. (run_queue d).run) goes q.run in
    let done : ClientRun = followed_by r (λ d. (run_queue d).run) in
    let later : List HistoryItem = past ++ entered done.entries in
    let start : CallsGo later (record { client = done.client; entries = []; sends = firsts }) = record { none = refl; sends = first.right done.entries done.client run.stands (queue_holds r.client); stands = first.stands done.entries done.client run.stands (ending_queue r.client) } in
    let calls : CallsGo later (and_then (record { client = done.client; entries = []; sends = firsts }) (calls_all (run_queue r.client).wants)) = calls_then later (record { client = done.client; entries = []; sends = firsts }) (calls_all (run_queue r.client).wants) start (all_go (later ++ sent firsts) done.client (run_queue r.client).wants start.stands q.wants) in
    let whole : StepGoes past (run_then done (λ d. and_then (record { client = d; entries = []; sends = firsts }) (calls_all (run_queue r.client).wants))) = run_calls past done (λ d. and_then (record { client = d; entries = []; sends = firsts }) (calls_all (run_queue r.client).wants)) run calls in
    subst (λ (l : List Entry). StepGoes past (record { client = (calls_all (run_queue r.client).wants (run_queue r.client).run.client).client; entries = l; sends = firsts ++ (calls_all (run_queue r.client).wants (run_queue r.client).run.client).sends }))
    (append_assoc r.entries (run_queue r.client).run.entries (calls_all (run_queue r.client).wants (run_queue r.client).run.client).entries) whole

-- ---- records

module _ (h : List HistoryItem) (c : ClientValue) (s : Stands h c) (from : NodeId) (bytes : List ℕ) (now : ℕ) where
  abbrev item : HistoryItem
  item = Hears (Recorded from bytes now)

  later : Stands (h ++ Hears (Recorded from bytes now) ∷ []) c
  later = stands_later h (item ∷ []) c (tt, tt) s

  none_goes : StepGoes (h ++ Hears (Recorded from bytes now) ∷ []) (sends_none c)
  none_goes = step_none (h ++ item ∷ []) c later

mds_reply_goes : (h : List HistoryItem) (c : ClientValue) (s : Stands h c) (bytes : List ℕ) (now : ℕ) (reply : RpcReply) → reply_at bytes ≡ Ok reply → (asked : Option Asked) → c.asked ≡ asked
    → StepGoes (h ++ Hears (Recorded Mds bytes now) ∷ []) (mds_replied asked reply.xid (λ kind. reply_of_ask kind reply) now c)
mds_reply_goes h c s bytes now reply is None at = none_goes h c s Mds bytes now
mds_reply_goes h c s bytes now reply is (Some a) at = by_test (a.xid == reply.xid) refl
  where
    by_test : (b : Bool) → (a.xid == reply.xid) ≡ b → StepGoes (h ++ Hears (Recorded Mds bytes now) ∷ []) (if b then run_then (mds_answered a.ask (reply_of_ask a.ask reply) now c) ends_event else sends_none c)
    by_test true same =
        let past : List HistoryItem = h ++ Hears (Recorded Mds bytes now) ∷ [] in
        let r : RunGoes past (mds_answered a.ask (reply_of_ask a.ask reply) now c) = mds_answer_goes h c s a at bytes now reply is (same_number a.xid reply.xid same) in
        run_then_goes past (mds_answered a.ask (reply_of_ask a.ask reply) now c) ends_event r (event_ends (past ++ entered (mds_answered a.ask (reply_of_ask a.ask reply) now c).entries) (mds_answered a.ask (reply_of_ask a.ask reply) now c).client r.stands)
    by_test false same = none_goes h c s Mds bytes now

mds_found_goes : (h : List HistoryItem) (c : ClientValue) (s : Stands h c) (bytes : List ℕ) (now : ℕ) (r : Result RpcReply XdrError) → reply_at bytes ≡ r → StepGoes (h ++ Hears (Recorded Mds bytes now) ∷ []) (found_reply Mds r now c)
mds_found_goes h c s bytes now (Ok reply) is = mds_reply_goes h c s bytes now reply is c.asked refl
mds_found_goes h c s bytes now (Err e) is = none_goes h c s Mds bytes now

server_found_goes : (h : List HistoryItem) (c : ClientValue) (s : Stands h c) (server : ℕ) (bytes : List ℕ) (now : ℕ) (r : Result RpcReply XdrError) → reply_at bytes ≡ r
    → StepGoes (h ++ Hears (Recorded (Server server) bytes now) ∷ []) (found_reply (Server server) r now c)
server_found_goes h c s server bytes now (Ok reply) is =
    let past : List HistoryItem = h ++ Hears (Recorded (Server server) bytes now) ∷ [] in
    let r : RunGoes past (ds_answered server reply.xid (λ call. reply_of_call call reply) c) = ds_answer_goes h c s server bytes now reply is in
    run_then_goes past (ds_answered server reply.xid (λ call. reply_of_call call reply) c) ends_event r (event_ends (past ++ entered (ds_answered server reply.xid (λ call. reply_of_call call reply) c).entries) (ds_answered server reply.xid (λ call. reply_of_call call reply) c).client r.stands)
server_found_goes h c s server bytes now (Err e) is = none_goes h c s (Server server) bytes now

call_found_goes : (h : List HistoryItem) (c : ClientValue) (s : Stands h c) (slot : SlotStands h c.tie) (bytes : List ℕ) (now : ℕ) (o : Option CbReply) → callback_of (call_at bytes) c ≡ o → StepGoes (h ++ Hears (Recorded Mds bytes now) ∷ []) (found_call o bytes now c)
call_found_goes h c s slot bytes now None is = mds_found_goes h c s bytes now (reply_at bytes) refl
call_found_goes h c s slot bytes now (Some k) is =
    let past : List HistoryItem = h ++ Hears (Recorded Mds bytes now) ∷ [] in
    first_sends past (record { client = k.client; entries = [] }) (RepliesToMds k.reply ∷ [])
    (record {
      right = λ entries d stands held. ((tt, tt, tt, tt, tt, tt), tt);
      stands = λ entries d stands ends. stands_replied (past ++ entered entries) k.reply d stands (λ state r. ends (recalled_ending k.client.layout state (replied_so h c bytes now k entries state slot is r)));
    }) (run_unmoved past k.client (callback_stands past (call_at bytes) c k is (stands_later h (Hears (Recorded Mds bytes now) ∷ []) c (tt, tt) s)))

record_goes : (h : List HistoryItem) (c : ClientValue) (s : Stands h c) (slot : SlotStands h c.tie) (from : NodeId) (bytes : List ℕ) (now : ℕ) → StepGoes (h ++ Hears (Recorded from bytes now) ∷ []) (record_from from bytes now c)
record_goes h c s slot Mds bytes now = call_found_goes h c s slot bytes now (callback_of (call_at bytes) c) refl
record_goes h c s slot (Server server) bytes now = server_found_goes h c s server bytes now (reply_at bytes) refl
record_goes h c s slot (Client number) bytes now = none_goes h c s (Client number) bytes now

-- ---- timeouts

mds_late_goes : (past : List HistoryItem) (c : ClientValue) (asked : Option Asked) → Stands past c → StepGoes past (mds_timed_out asked c)
mds_late_goes past c None s = step_none past c s
mds_late_goes past c (Some a) s = record {
  entries = ((tt, tt, tt, tt, tt, tt), tt);
  sends = ((tt, tt, tt, tt, tt, tt), tt);
  stands = stands_later (past ++ Enters (TimedOut (Client c.number) a.xid) ∷ []) (Sends (RepeatsToMds a.xid a.message) ∷ []) c (tt, tt) (stands_later past (Enters (TimedOut (Client c.number) a.xid) ∷ []) c (tt, tt) s);
}

-- the same call again
repeats_right : (later : List HistoryItem) (d : ClientValue) (server xid uid : ℕ) (name : List ℕ) (call : ds.DsCallValue) → Stands later d → held_of d.layout ≡ Some (record { uid = uid; was_sent = false }) → WritesEntered later uid call
    → Each IsRight later (sent (RepeatsToServer server xid name uid call ∷ []))
repeats_right later d server xid uid name call s held entered = by_layout d.layout refl held
  where
    by_layout : (layout : Option Layout) → d.layout ≡ layout → held_of layout ≡ Some (record { uid = uid; was_sent = false }) → Each IsRight later (sent (RepeatsToServer server xid name uid call ∷ []))
    by_layout None at is = absurd (none-some _ is)
    by_layout (Some l) at is =
        let same : ◌≡◌ {A = HeldLayout} (record { uid = l.writer.cred; was_sent = l.was_sent }) (record { uid = uid; was_sent = false }) = same_Some _ _ is in
        let stands : LayoutStands later d.name (reports_server (reported_of l)) l = subst (λ (o : Option Layout). IfThere o (λ l. LayoutStands later d.name (reports_server (reported_of l)) l)) at s.layout_stands in
        ((tt, tt, tt, subst (IsSilent later) (ap (λ (k : HeldLayout). k.uid) same) (silent_now later d.name (reports_server (reported_of l)) l stands (ap (λ (k : HeldLayout). k.was_sent) same)), entered, tt), tt)

writes_later : (h more : List HistoryItem) (uid : ℕ) (call : ds.DsCallValue) → WritesEntered h uid call → WritesEntered (h ++ more) uid call
writes_later h more uid (ds.Write fileid at synced bytes) w = entered_later h more uid at bytes w
writes_later h more uid (ds.Commit fileid) w = tt
writes_later h more uid (ds.Create name owner) w = tt
writes_later h more uid (ds.SetAttr fileid owner guard) w = tt
writes_later h more uid (ds.Read fileid at count) w = tt

module _ (past : List HistoryItem) (c : ClientValue) (file : OpenFile) (l : Layout) (server : ℕ) (at : c.layout ≡ Some l) (s : Stands past c) (out : OutCall) (out_is : out_at l.writer server ≡ Some out) where
  abbrev timed : HistoryItem
  timed = Enters (TimedOut (Client c.number) out.xid)

  timed_stands : Stands (past ++ Enters (TimedOut (Client c.number) out.xid) ∷ []) c
  timed_stands = stands_later past (timed ∷ []) c (tt, tt) s

  old : LayoutStands past c.name (reports_server (reported_of l)) l
  old = subst (λ (o : Option Layout). IfThere o (λ l. LayoutStands past c.name (reports_server (reported_of l)) l)) at s.layout_stands

  old_timed : LayoutStands (past ++ Enters (TimedOut (Client c.number) out.xid) ∷ []) c.name (reports_server (reported_of l)) l
  old_timed = subst (λ (o : Option Layout). IfThere o (λ l. LayoutStands (past ++ timed ∷ []) c.name (reports_server (reported_of l)) l)) at timed_stands.layout_stands

  late_moves : AfterMoves (past ++ Enters (TimedOut (Client c.number) out.xid) ∷ []) c.name (reports_server (reported_of l)) l.writer (after_timeout l.writer out.xid)
  late_moves = subst (λ h. AfterMoves h c.name (reports_server (reported_of l)) l.writer (after_timeout l.writer out.xid)) (append-nil (past ++ timed ∷ [])) (timeout_moves (past ++ timed ∷ []) c.name (reports_server (reported_of l)) l.writer old_timed.writer [] out.xid)

  late_goes_on : RunGoes (past ++ Enters (TimedOut (Client c.number) out.xid) ∷ []) (after_step (is_commit out.call) file (after_timeout l.writer out.xid).step (has_writer c l (after_timeout l.writer out.xid)))
  late_goes_on = after_goes (past ++ timed ∷ []) c l at timed_stands (after_timeout l.writer out.xid) late_moves (is_commit out.call) file

  -- the layout is held as before, where the call goes out again
  held_waiting : (commit : Bool) → held_of (after_step commit file step.Waiting (has_writer c l (after_timeout l.writer out.xid))).client.layout ≡ Some (record { uid = l.writer.cred; was_sent = false })
  held_waiting commit = by_commit commit ∙ ap Some (cc (late_moves.moves.cred, unsent_out past c.name (reports_server (reported_of l)) l old server out out_is))
    where
      by_commit : (b : Bool) → held_of (after_step b file step.Waiting (has_writer c l (after_timeout l.writer out.xid))).client.layout ≡ Some (record { uid = (after_timeout l.writer out.xid).writer.cred; was_sent = l.was_sent })
      by_commit true = refl
      by_commit false = refl

  again_first : (came : WriterStep) → (after_timeout l.writer out.xid).step ≡ came
      → GoFirst past (after_step (is_commit out.call) file came (has_writer c l (after_timeout l.writer out.xid))).client (goes_again (RepeatsToServer server out.xid c.name l.writer.cred out.call) came)
  again_first step.Waiting is =
      idle_first past _ (RepeatsToServer server out.xid c.name l.writer.cred out.call ∷ []) (tt, tt)
      (λ entries d stands held. repeats_right (past ++ entered entries) d server out.xid l.writer.cred c.name out.call stands (held ∙ held_waiting (is_commit out.call)) (writes_later past (entered entries) l.writer.cred out.call (writes_now past c.name (reports_server (reported_of l)) l old out.call (out_taken l.writer server out out_is))))
  again_first step.Stranger is = idle_first past _ [] tt (λ entries d stands held. tt)
  again_first step.Committed is = idle_first past _ [] tt (λ entries d stands held. tt)
  again_first (step.Failed id cause) is = idle_first past _ [] tt (λ entries d stands held. tt)
  again_first (step.Fenced id status) is = idle_first past _ [] tt (λ entries d stands held. tt)

  late_step_goes : StepGoes past (and_then (late_out file l server (Some out) c) ends_event)
  late_step_goes =
      first_sends past (record { client = (after_step (is_commit out.call) file (after_timeout l.writer out.xid).step (has_writer c l (after_timeout l.writer out.xid))).client; entries = TimedOut (Client c.number) out.xid ∷ (after_step (is_commit out.call) file (after_timeout l.writer out.xid).step (has_writer c l (after_timeout l.writer out.xid))).entries })
      (goes_again (RepeatsToServer server out.xid c.name l.writer.cred out.call) (after_timeout l.writer out.xid).step) (again_first (after_timeout l.writer out.xid).step refl)
      (run_follows past (record { client = c; entries = TimedOut (Client c.number) out.xid ∷ [] }) (λ d. after_step (is_commit out.call) file (after_timeout l.writer out.xid).step (has_writer c l (after_timeout l.writer out.xid)))
      (record { entries = ((tt, tt, tt, tt, tt, tt), tt); stands = timed_stands }) late_goes_on)

late_goes : (past : List HistoryItem) (c : ClientValue) (file : OpenFile) (l : Layout) (server : ℕ) → c.layout ≡ Some l → Stands past c → (o : Option OutCall) → out_at l.writer server ≡ o → StepGoes past (and_then (late_out file l server o c) ends_event)
late_goes past c file l server at s None is = event_ends past c s
late_goes past c file l server at s (Some out) is = late_step_goes past c file l server at s out is

ds_late_goes : (past : List HistoryItem) (c : ClientValue) (server : ℕ) → Stands past c → (file : Option OpenFile) (layout : Option Layout) → c.layout ≡ layout → StepGoes past (and_then (ds_timed_out_by file layout server c) ends_event)
ds_late_goes past c server s (Some file) (Some l) at = late_goes past c file l server at s (out_at l.writer server) refl
ds_late_goes past c server s (Some file) None at = event_ends past c s
ds_late_goes past c server s None layout at = event_ends past c s

timeout_goes : (past : List HistoryItem) (c : ClientValue) (to : NodeId) → Stands past c → StepGoes past (timed_out_to to c)
timeout_goes past c Mds s = mds_late_goes past c c.asked s
timeout_goes past c (Server server) s = ds_late_goes past c server s c.file c.layout refl
timeout_goes past c (Client number) s = step_none past c s

-- ---- ticks

tick_layout : (past : List HistoryItem) (name : List ℕ) (layout : Option Layout) → IfThere layout (λ l. LayoutStands past name (reports_server (reported_of l)) l) → IfThere (layout_at_tick layout) (λ l. LayoutStands past name (reports_server (reported_of l)) l)
tick_layout past name None s = tt
tick_layout past name (Some l) s = ticked_stands past name (reports_server (reported_of l)) l s

tick_keeps : (layout : Option Layout) → KeepsLayout layout (layout_at_tick layout)
tick_keeps None = tt
tick_keeps (Some l) = λ at. record { stateid = refl; mirrors = refl; cred = refl; taken = refl; stage = ap stage_after_tick at }

resend_goes : (past : List HistoryItem) (c : ClientValue) (asked : Option Asked) → c.asked ≡ asked → Stands past c → CallsGo past (resends_late c asked)
resend_goes past c None at s = calls_none past c s
resend_goes past c (Some a) at s = by_test a.is_late
  where
    awake : StandsOf past c.name c.next_xid c.layout (Some (record a { is_late = false })) c.again
    awake =
        let k : StandsOf past c.name c.next_xid c.layout (Some a) c.again = subst (λ (o : Option Asked). StandsOf past c.name c.next_xid c.layout o c.again) at s in
        record {
          numbers = k.numbers;
          replied = k.replied;
          asked_out = record { call = k.asked_out.call; sent = k.asked_out.sent; fits = k.asked_out.fits };
          alone = k.alone;
          layout_stands = k.layout_stands;
          taken_under = k.taken_under;
          gets_again = k.gets_again;
          returns_again = k.returns_again;
        }

    by_test : (b : Bool)
        → CallsGo past (if b then record { client = record c { asked = Some (record a { is_late = false }) }; entries = []; sends = RepeatsToMds a.xid a.message ∷ [] } else sends_none c)
    by_test true = record { none = refl; sends = ((tt, tt, tt, tt, tt, tt), tt); stands = stands_later past (Sends (RepeatsToMds a.xid a.message) ∷ []) (record c { asked = Some (record a { is_late = false }) }) (tt, tt) awake }
    by_test false = calls_none past c s

renew_goes : (past : List HistoryItem) (c : ClientValue) (now : ℕ) → Stands past c → CallsGo past (renews now c)
renew_goes past c now s = by_tests (may_ask c c.asked) (is_stale_tie now c.tie) refl
  where
    not_return : false ≡ true → ⊥
    not_return e = absurd cc

    not_get : ask.Renew ≡ ask.LayoutGet → ⊥
    not_get e = absurd cc

    by_tests : (a b : Bool) → may_ask c c.asked ≡ a → CallsGo past (if a && b then asks c (Some ask.Renew) else sends_none c)
    by_tests true true may = asks_go past c (Some ask.Renew) s may (λ k is so. absurd (not_return (ap is_layout_return (same_Some ask.Renew k is) ∙ so))) (λ k is so. absurd (not_get (same_Some ask.Renew k is ∙ so)))
    by_tests true false may = calls_none past c s
    by_tests false b may = calls_none past c s

tick_goes : (past : List HistoryItem) (c : ClientValue) (now : ℕ) → Stands past c → StepGoes past (ticks_on now c)
tick_goes past c now s =
    let ended : StepGoes past (ends_event c) = event_ends past c s in
    let again : StepGoes past (and_then (ends_event c) (λ d. resends_late d d.asked)) =
    step_calls past (ends_event c) (λ d. resends_late d d.asked) ended (resend_goes ((past ++ entered (ends_event c).entries) ++ sent (ends_event c).sends) (ends_event c).client (ends_event c).client.asked refl ended.stands) in
    let two : ClientStep = and_then (ends_event c) (λ d. resends_late d d.asked) in
    step_calls past two (renews now) again (renew_goes ((past ++ entered two.entries) ++ sent two.sends) two.client now again.stands)

-- ---- a client that left the protocol

rogue_goes : (past : List HistoryItem) (c : ClientValue) (file : OpenFile) (l : Layout) (at : ℕ) (bytes : List ℕ) (o : Option Mirror) → Stands past c → c.layout ≡ Some l → l.was_sent ≡ false → c.next_xid ≢ 0 → StepGoes past (rogue_write c file l at bytes o)
rogue_goes past c file l at bytes None s there unsent some = step_none past c s
rogue_goes past c file l at bytes (Some m) s there unsent some = record {
  entries = ((tt, tt, tt, tt, tt, tt), tt);
  sends = ((tt, tt, tt, silent_now (past ++ item ∷ []) c.name (reports_server (reported_of l)) l stands unsent, WasStray file.file (in_end past item), tt), tt);
  stands = server_called (past ++ item ∷ []) c m.id.server l.writer.cred (ds.Write m.id.fileid at false bytes) later some;
}
  where
    item : HistoryItem
    item = Enters (Rogue file.file (record { 0 = l.writer.cred }) at bytes)

    later : Stands (past ++ Enters (Rogue file.file (record { 0 = l.writer.cred }) at bytes) ∷ []) c
    later = stands_later past (Enters (Rogue file.file (record { 0 = l.writer.cred }) at bytes) ∷ []) c (tt, tt) s

    stands : LayoutStands (past ++ Enters (Rogue file.file (record { 0 = l.writer.cred }) at bytes) ∷ []) c.name (reports_server (reported_of l)) l
    stands = subst (λ (o : Option Layout). IfThere o (λ k. LayoutStands (past ++ item ∷ []) c.name (reports_server (reported_of k)) k)) there later.layout_stands

stray_goes : (past : List HistoryItem) (c : ClientValue) (file : Option OpenFile) (layout : Option Layout) (place at : ℕ) (bytes : List ℕ) → c.layout ≡ layout → Stands past c → StepGoes past (strays file layout place at bytes c)
stray_goes past c (Some file) (Some l) place at bytes there s = by_tests l.was_sent (c.next_xid == 0) refl refl
  where
    by_tests : (a b : Bool) → l.was_sent ≡ a → (c.next_xid == 0) ≡ b → StepGoes past (if a || b then sends_none c else rogue_write c file l at bytes (mirror_of_place l.mirrors place))
    by_tests true b sent is = step_none past c s
    by_tests false true sent is = step_none past c s
    by_tests false false sent is = rogue_goes past c file l at bytes (mirror_of_place l.mirrors place) s there sent (nonzero c.next_xid is)
stray_goes past c (Some file) None place at bytes there s = step_none past c s
stray_goes past c None layout place at bytes there s = step_none past c s

-- ---- whatever comes

unless_goes : (past : List HistoryItem) (c : ClientValue) (next : ClientStep) → Stands past c → StepGoes past next → StepGoes past (unless_left c next)
unless_goes past c next s goes = by_test c.has_left
  where
    by_test : (b : Bool) → StepGoes past (if b then sends_none c else next)
    by_test true = step_none past c s
    by_test false = goes

pub input_goes : (h : List HistoryItem) (c : ClientValue) (input : ClientInput) → Stands h c → SlotStands h c.tie → StepGoes (h ++ Hears input ∷ []) (input_step input c)
input_goes h c (Requested request) s slot =
    let later : Stands (h ++ Hears (Requested request) ∷ []) c = stands_later h (Hears (Requested request) ∷ []) c (tt, tt) s in
    unless_goes (h ++ Hears (Requested request) ∷ []) c (ends_event (with_request request c)) later (event_ends (h ++ Hears (Requested request) ∷ []) (with_request request c) later)
input_goes h c (Recorded from bytes now) s slot =
    unless_goes (h ++ Hears (Recorded from bytes now) ∷ []) c (record_from from bytes now c) (stands_later h (Hears (Recorded from bytes now) ∷ []) c (tt, tt) s) (record_goes h c s slot from bytes now)
input_goes h c (TimeoutOf to) s slot =
    let later : Stands (h ++ Hears (TimeoutOf to) ∷ []) c = stands_later h (Hears (TimeoutOf to) ∷ []) c (tt, tt) s in
    unless_goes (h ++ Hears (TimeoutOf to) ∷ []) c (timed_out_to to c) later (timeout_goes (h ++ Hears (TimeoutOf to) ∷ []) c to later)
input_goes h c (Ticked now) s slot =
    let later : Stands (h ++ Hears (Ticked now) ∷ []) c = stands_later h (Hears (Ticked now) ∷ []) c (tt, tt) s in
    let ticked : Stands (h ++ Hears (Ticked now) ∷ []) (client_at_tick c) = with_layout_stands (h ++ Hears (Ticked now) ∷ []) c (layout_at_tick c.layout) later (tick_keeps c.layout) (tick_layout (h ++ Hears (Ticked now) ∷ []) c.name c.layout later.layout_stands) in
    unless_goes (h ++ Hears (Ticked now) ∷ []) c (ticks_on now (client_at_tick c)) later (tick_goes (h ++ Hears (Ticked now) ∷ []) (client_at_tick c) now ticked)
input_goes h c LeftProtocol s slot = step_none (h ++ Hears LeftProtocol ∷ []) (turned c) (stands_later h (Hears LeftProtocol ∷ []) c (tt, tt) s)
input_goes h c (Strayed place at bytes) s slot = stray_goes (h ++ Hears (Strayed place at bytes) ∷ []) c c.file c.layout place at bytes refl (stands_later h (Hears (Strayed place at bytes) ∷ []) c (tt, tt) s)
