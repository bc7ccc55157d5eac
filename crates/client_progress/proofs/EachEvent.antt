-- No client is stuck behind any event of any run.
use Rattle.client_progress.proofs.AnswersFit.{reply_fit}
use Rattle.client_progress.proofs.CallbackFits.{callback_fit}
use Rattle.client_progress.proofs.CallsFit.{can_ask, asked_fit}
use Rattle.client_progress.proofs.DsFits.{all_known, not_returning, after_fit}
use Rattle.client_progress.proofs.EndsFit.{EndsOf, event_end}
use Rattle.client_progress.proofs.Fits.{not_both, LayoutFits, FitOf, Fit, SameHead, fit_queue, fit_layout}
use Rattle.client_progress.proofs.OneServer.{its_number}
use Rattle.client_progress.proofs.Ticks.{step_if, awaits_none}
use Rattle.client_progress.proofs.WriterSteps.{AfterGoes, timeout_goes, reply_goes}
use Rattle.std.proofs.Common.{◌≡◌, ◌≢◌, ℕ, Bool, true, false, List, [], ◌∷◌, ◌++◌, Option, Some, None, Result, Ok, Err, refl, sym, ap, subst, ◌∙◌, inl, inr, ◌⊎◌}
use Rattle.std.specs.Prelude.{not, ◌==◌, ◌&&◌, ◌||◌, if◌then◌else◌, is_some}
use Rattle.std.proofs.lemmas.List.{append_assoc, append-nil}
use Rattle.std.proofs.lemmas.Option.{none-some, same_Some}
use Rattle.ff_xdr.specs.declared.error.XdrError.{XdrError}
use Rattle.rpc_record.specs.Calls.{call_at}
use Rattle.rpc_record.specs.Replies.{RpcReply, reply_at}
use Rattle.ds_calls.specs.GivenReplies.{reply_of_call}
use Rattle.cluster_model.specs.declared.ids.NodeId.{NodeId}
use Rattle.cluster_model.specs.declared.ids.NodeId.TheVariants.{Mds, Server, Client}
use Rattle.cluster_model.specs.declared.ids.Mirror.{Mirror}
use Rattle.mirror_writer.specs.Writers.{after_reply, after_timeout}
use Rattle.mirror_writer.specs.Outstanding.{OutCall, out_at}
use Rattle.client_file_calls.specs.declared.open.OpenFile.{OpenFile}
use Rattle.client_mds_calls.specs.declared.ask.MdsAsk.{MdsAsk}
use Rattle.client_mds_calls.specs.declared.ask.MdsAsk.TheVariants as ask
use Rattle.client_mds_calls.specs.FittingCalls.{reports_server}
use Rattle.client_mds_calls.specs.MdsCalls.{MdsCallValue}
use Rattle.client_mds_calls.specs.MdsReplies.{reply_of_ask}
use Rattle.client_state.specs.declared.stage.LayoutStage.{LayoutStage}
use Rattle.client_state.specs.declared.stage.LayoutStage.TheVariants.{Writing, Ending, Deferred, Returning}
use Rattle.client_state.specs.declared.request.UserRequest.{UserRequest}
use Rattle.client_state.specs.declared.request.UserRequest.TheVariants.{Open, Write, Through, Commit, Read, Return}
use Rattle.client_state.specs.declared.layout.Layout.{Layout}
use Rattle.client_state.specs.declared.asked.Asked.{Asked}
use Rattle.client_state.specs.declared.tie.Tie.{Tie}
use Rattle.client_state.specs.declared.tie.Tie.TheVariants.{NoClient, HasClient, HasSession}
use Rattle.client_state.specs.ClientStates.{ClientValue, fresh_client}
use Rattle.client_state.specs.ClientSends.{RepeatsToMds, ClientStep, sends_none, and_then, run_then}
use Rattle.client_state.specs.ClientQueue.{is_writing}
use Rattle.client_calls.specs.ClientCalls.{call_by_ask, asks_as, asks, may_ask, ends_event}
use Rattle.client_answers.specs.ClientMirrors.{is_commit, after_step, has_writer, answered_out, ds_answered_by, ds_answered, late_out, ds_timed_out_by}
use Rattle.client_answers.specs.ClientAnswers.{has_session, mds_answered}
use Rattle.client_callbacks.specs.Callbacks.{CbReply, callback_of}
use Rattle.mirror_client.specs.ClientRule.{unless_left, with_request, mds_replied, mds_timed_out, timed_out_to, stage_after_tick, layout_at_tick, client_at_tick, resends_late, is_stale_tie, renews, ticks_on, turned, rogue_write, mirror_of_place, strays, found_reply, found_call, record_from, compound_number, ds_call_number, ds_outstanding, outstanding_to}
use Rattle.client_laws.specs.ClientHistory.{ClientInput, Requested, Recorded, TimeoutOf, Ticked, LeftProtocol, Strayed, input_step, HistoryItem, Hears, entered, sent, client_after}
use Rattle.client_laws.proofs.CallbackGoes.{callback_stands}
use Rattle.client_laws.proofs.CallsOut.{nonzero}
use Rattle.client_laws.proofs.DsGoes.{after_goes, ds_answer_goes}
use Rattle.client_laws.proofs.Events.{input_goes}
use Rattle.client_laws.proofs.Goes.{StepGoes, KeepsLayout, with_layout_stands}
use Rattle.client_laws.proofs.LayoutMoves.{ticked_stands}
use Rattle.client_laws.proofs.MdsGoes.{mds_answer_goes}
use Rattle.client_laws.proofs.Places.{same_number}
use Rattle.client_laws.proofs.Runs.{fresh_stands, fresh_slot}
use Rattle.client_laws.proofs.SlotKept.{SlotStands, slot_later}
use Rattle.client_laws.proofs.SlotSteps.{input_slot}
use Rattle.client_laws.proofs.Stands.{Stands, LayoutStands, IfThere, reported_of}
use Rattle.client_laws.proofs.Steady.{kind_of}
use Rattle.client_laws.proofs.WriterMoves.{AfterMoves, reply_moves, timeout_moves}
use Rattle.client_progress.specs.Going.{is_deferred, is_returning_stage, is_returning, AwaitsAnswer, AwaitsTick, IsNeverStuck, HasCalledMirrors, number_of_call, AwaitsOwnMirrors, HasSentAnew, AsksAtTick, AwaitsNoTick, IsOutFor, ReturnsByCompound, BehindEachEvent}

-- ---- a request

more_head : (file : Option OpenFile) (layout : Option Layout) (queue : List UserRequest) (request : UserRequest) → SameHead file layout queue (queue ++ request ∷ [])
more_head file layout [] request = record { opens = λ is was. absurd (not_both (sym was)); through = λ is gone was. absurd (not_both (sym was)) }
more_head file layout (Open name ∷ rest) request = record { opens = λ is was. was; through = λ is gone was. was }
more_head file layout (Write at bytes ∷ rest) request = record { opens = λ is was. was; through = λ is gone was. was }
more_head file layout (Through at bytes ∷ rest) request = record { opens = λ is was. was; through = λ is gone was. was }
more_head file layout (Commit ∷ rest) request = record { opens = λ is was. was; through = λ is gone was. was }
more_head file layout (Read at count ∷ rest) request = record { opens = λ is was. was; through = λ is gone was. was }
more_head file layout (Return ∷ rest) request = record { opens = λ is was. was; through = λ is gone was. was }

requested_fit : (c : ClientValue) (request : UserRequest) → Fit c → Fit (with_request request c)
requested_fit c request fit = fit_queue c.tie c.file c.queue (c.queue ++ request ∷ []) c.layout c.devices (kind_of c.asked) c.again (more_head c.file c.layout c.queue request) fit

-- ---- a tick

ticked_fit : (c : ClientValue) → Fit c → Fit (client_at_tick c)
ticked_fit c fit = by_layout c.layout refl
  where
    writes : (stage : LayoutStage) → is_writing (stage_after_tick stage) ≡ is_writing stage
    writes Writing = refl
    writes Ending = refl
    writes Deferred = refl
    writes Returning = refl

    returns : (stage : LayoutStage) → is_returning_stage (stage_after_tick stage) ≡ is_returning_stage stage
    returns Writing = refl
    returns Ending = refl
    returns Deferred = refl
    returns Returning = refl

    later : (l : Layout) → LayoutFits c.devices l → LayoutFits c.devices (record l { stage = stage_after_tick l.stage })
    later l fits = record {
      writer = record {
        apart = fits.writer.apart;
        some = fits.writer.some;
        unfenced = fits.writer.unfenced;
        sizes = fits.writer.sizes;
        wanted = λ ends. fits.writer.wanted (sym (writes l.stage) ∙ ends);
        untold_fit = fits.writer.untold_fit;
        known = fits.writer.known;
      };
      sound = λ writing. fits.sound (sym (writes l.stage) ∙ writing);
    }

    by_layout : (o : Option Layout) → c.layout ≡ o → FitOf c.tie c.file c.queue (layout_at_tick o) c.devices (kind_of c.asked) c.again
    by_layout None at = subst (λ (o : Option Layout). FitOf c.tie c.file c.queue o c.devices (kind_of c.asked) c.again) at fit
    by_layout (Some l) at = fit_layout c.tie c.file c.queue c.layout l (record l { stage = stage_after_tick l.stage }) c.devices (kind_of c.asked) c.again at (record { mirrors = refl; stage = returns l.stage }) (later l) fit

tick_layout : (past : List HistoryItem) (name : List ℕ) (layout : Option Layout) → IfThere layout (λ l. LayoutStands past name (reports_server (reported_of l)) l) → IfThere (layout_at_tick layout) (λ l. LayoutStands past name (reports_server (reported_of l)) l)
tick_layout past name None s = tt
tick_layout past name (Some l) s = ticked_stands past name (reports_server (reported_of l)) l s

tick_keeps : (layout : Option Layout) → KeepsLayout layout (layout_at_tick layout)
tick_keeps None = tt
tick_keeps (Some l) = λ at. record { stateid = refl; mirrors = refl; cred = refl; taken = refl; stage = ap stage_after_tick at }

-- ---- an event that asks nothing anew

-- the same is outstanding
awaits_same : (c d : ClientValue) → compound_number d.asked ≡ compound_number c.asked → d.file ≡ c.file → d.layout ≡ c.layout → AwaitsAnswer c → AwaitsAnswer d
awaits_same c d asked file layout (Mds, xid, is) = (Mds, xid, asked ∙ is)
awaits_same c d asked file layout (Server server, xid, is) = (Server server, xid, ap (λ o. ds_outstanding o d.layout server) file ∙ ap (λ o. ds_outstanding c.file o server) layout ∙ is)
awaits_same c d asked file layout (Client number, xid, is) = absurd (none-some xid is)

either_same : (c d : ClientValue) → compound_number d.asked ≡ compound_number c.asked → d.file ≡ c.file → d.layout ≡ c.layout → d.waits ≡ c.waits → AwaitsAnswer c ⊎ AwaitsTick c → AwaitsAnswer d ⊎ AwaitsTick d
either_same c d asked file layout waits (inl answer) = inl (awaits_same c d asked file layout answer)
either_same c d asked file layout waits (inr (inl tick)) = inr (inl (waits ∙ tick))
either_same c d asked file layout waits (inr (inr tick)) = inr (inr (subst (λ (o : Option Layout). is_deferred o ≡ true) (sym layout) tick))

resent_end : (c : ClientValue) (asked : Option Asked) → c.asked ≡ asked → EndsOf c → EndsOf (resends_late c asked).client
resent_end c None at e = e
resent_end c (Some a) at e =
    step_if EndsOf a.is_late (record { client = record c { asked = Some (record a { is_late = false }) }; entries = []; sends = RepeatsToMds a.xid a.message ∷ [] }) (sends_none c)
    (λ late. record {
      fit = subst (λ (o : Option MdsAsk). FitOf c.tie c.file c.queue c.layout c.devices o c.again) (ap kind_of at) e.fit;
      goes = λ some todo. either_same c (record c { asked = Some (record a { is_late = false }) }) (sym (ap compound_number at)) refl refl refl (e.goes some todo);
      anew = e.anew;
      called = e.called;
    }) (λ late. e)

renewed_end : (now : ℕ) (c : ClientValue) → EndsOf c → EndsOf (renews now c).client
renewed_end now c e = by_asked c.asked refl
  where
    both : (a b : Bool) → (a && b) ≡ true → (a ≡ true) × (b ≡ true)
    both true b is = (refl, is)
    both false b is = absurd cc

    has : (tie : Tie) → is_stale_tie now tie ≡ true → has_session tie ≡ true
    has NoClient is = absurd cc
    has (HasClient clientid sequence) is = absurd cc
    has (HasSession s) is = refl

    still : c.asked ≡ None → c.next_xid ≢ 0 → is_returning c.layout ≡ false
    still none some = by_return (is_returning c.layout) refl
      where
        by_either : (kind_of c.asked ≡ Some ask.LayoutReturn) ⊎ (c.again ≡ Some ask.LayoutReturn) → ⊥
        by_either (inl out) = none-some ask.LayoutReturn (sym (ap kind_of none) ∙ out)
        by_either (inr again) = none-some ask.LayoutReturn (sym (e.anew some) ∙ again)

        by_return : (b : Bool) → is_returning c.layout ≡ b → is_returning c.layout ≡ false
        by_return true is = absurd (by_either (e.fit.returning is))
        by_return false is = is

    left : (b : Bool) → not b ≡ true → b ≡ false
    left true is = absurd cc
    left false is = refl

    by_call : c.asked ≡ None → c.next_xid ≢ 0 → has_session c.tie ≡ true → (call : MdsCallValue) × (call_by_ask c ask.Renew ≡ Some call) → EndsOf (asks c (Some ask.Renew)).client
    by_call none some session (call, is) = subst (λ (o : Option MdsCallValue). EndsOf (asks_as c ask.Renew o).client) (sym is) (record {
      fit = asked_fit c.tie c.file c.queue c.devices c.layout ask.Renew (kind_of c.asked) c.again (inr (session, still none some)) e.fit;
      goes = λ left todo. inl (Mds, c.next_xid, refl);
      anew = λ left. refl;
      called = λ left. e.called some;
    })

    by_asked : (asked : Option Asked) → c.asked ≡ asked → EndsOf (if may_ask c asked && is_stale_tie now c.tie then asks c (Some ask.Renew) else sends_none c).client
    by_asked (Some a) at = e
    by_asked None at = step_if EndsOf (not (c.next_xid == 0) && is_stale_tie now c.tie) (asks c (Some ask.Renew)) (sends_none c)
        (λ is.
        let session : has_session c.tie ≡ true = has c.tie (both (not (c.next_xid == 0)) (is_stale_tie now c.tie) is).1 in
        by_call at (nonzero c.next_xid (left (c.next_xid == 0) (both (not (c.next_xid == 0)) (is_stale_tie now c.tie) is).0)) session (can_ask c e.fit ask.Renew session)) (λ is. e)

-- ---- of a client in a run

module _ (h : List HistoryItem) (c : ClientValue) (s : Stands h c) (e : EndsOf c) where
  -- ---- records

  mds_reply_end : (bytes : List ℕ) (now : ℕ) (reply : RpcReply) → reply_at bytes ≡ Ok reply → (asked : Option Asked) → c.asked ≡ asked → EndsOf (mds_replied asked reply.xid (λ kind. reply_of_ask kind reply) now c).client
  mds_reply_end bytes now reply is None at = e
  mds_reply_end bytes now reply is (Some a) at =
      step_if EndsOf (a.xid == reply.xid) (run_then (mds_answered a.ask (reply_of_ask a.ask reply) now c) ends_event) (sends_none c)
      (λ same.
      event_end _ (mds_answered a.ask (reply_of_ask a.ask reply) now c).client (mds_answer_goes h c s a at bytes now reply is (same_number a.xid reply.xid same)).stands
      (reply_fit c e.fit a at (subst (λ (o : Option Asked). IfThere o (λ a. c.again ≡ None)) at s.alone) reply now)) (λ other. e)

  mds_found_end : (bytes : List ℕ) (now : ℕ) (r : Result RpcReply XdrError) → reply_at bytes ≡ r → EndsOf (found_reply Mds r now c).client
  mds_found_end bytes now (Ok reply) is = mds_reply_end bytes now reply is c.asked refl
  mds_found_end bytes now (Err err) is = e

  call_found_end : (bytes : List ℕ) (now : ℕ) (o : Option CbReply) → callback_of (call_at bytes) c ≡ o → EndsOf (found_call o bytes now c).client
  call_found_end bytes now None is = mds_found_end bytes now (reply_at bytes) refl
  call_found_end bytes now (Some k) is = (let done : EndsOf (ends_event k.client).client = event_end h k.client (callback_stands h (call_at bytes) c k is s) (callback_fit (call_at bytes) c k is e.fit) in record { fit = done.fit; goes = done.goes; anew = done.anew; called = done.called })

  its_layout : (l : Layout) → c.layout ≡ Some l → LayoutStands h c.name (reports_server (reported_of l)) l
  its_layout l at = subst (λ (o : Option Layout). IfThere o (λ l. LayoutStands h c.name (reports_server (reported_of l)) l)) at s.layout_stands

  its_fits : (l : Layout) → c.layout ≡ Some l → LayoutFits c.devices l
  its_fits l at = subst (λ (o : Option Layout). IfThere o (LayoutFits c.devices)) at e.fit.layout_fits

  out_fit : (server : ℕ) (bytes : List ℕ) (now : ℕ) (reply : RpcReply) → reply_at bytes ≡ Ok reply → (file : OpenFile) (l : Layout) → c.layout ≡ Some l → (o : Option OutCall) → out_at l.writer server ≡ o
      → Fit (answered_out file l reply.xid (λ call. reply_of_call call reply) o c).client
  out_fit server bytes now reply reply_is file l at None is = e.fit
  out_fit server bytes now reply reply_is file l at (Some out) is = by_test (out.xid == reply.xid) refl
    where
      stands : LayoutStands h c.name (reports_server (reported_of l)) l
      stands = its_layout l at

      by_test : (b : Bool) → (out.xid == reply.xid) ≡ b
          → Fit (if b then after_step (is_commit out.call) file (after_reply l.writer reply.xid (reply_of_call out.call reply)).step (has_writer c l (after_reply l.writer reply.xid (reply_of_call out.call reply))) else record { client = c; entries = [] }).client
      by_test false other = e.fit
      by_test true same =
          let number : out.xid ≡ reply.xid = same_number out.xid reply.xid same in
          after_fit _ c.name _ c e.fit l at (all_known h c.name l stands server out is c.devices (its_fits l at)) (not_returning h c.name l stands server out is)
          (is_commit out.call) (after_reply l.writer reply.xid (reply_of_call out.call reply))
          (reply_moves h c.name (reports_server (reported_of l)) l.writer stands.writer c.next_xid s.numbers server bytes now reply reply_is out is number).moves
          (subst (λ (k : ℕ). AfterGoes (is_commit out.call) l.writer (after_reply l.writer k (reply_of_call out.call reply))) number (reply_goes h c.name (reports_server (reported_of l)) l.writer stands.writer c.next_xid s.numbers server out is (reply_of_call out.call reply))) file

  answered_fit : (server : ℕ) (bytes : List ℕ) (now : ℕ) (reply : RpcReply) → reply_at bytes ≡ Ok reply → (file : Option OpenFile) (layout : Option Layout) → c.layout ≡ layout → Fit (ds_answered_by file layout server reply.xid (λ call. reply_of_call call reply) c).client
  answered_fit server bytes now reply is (Some file) (Some l) at = out_fit server bytes now reply is file l at (out_at l.writer server) refl
  answered_fit server bytes now reply is (Some file) None at = e.fit
  answered_fit server bytes now reply is None layout at = e.fit

  server_found_end : (server : ℕ) (bytes : List ℕ) (now : ℕ) (r : Result RpcReply XdrError) → reply_at bytes ≡ r → EndsOf (found_reply (Server server) r now c).client
  server_found_end server bytes now (Ok reply) is = event_end _ (ds_answered server reply.xid (λ call. reply_of_call call reply) c).client (ds_answer_goes h c s server bytes now reply is).stands (answered_fit server bytes now reply is c.file c.layout refl)
  server_found_end server bytes now (Err err) is = e

  record_end : (from : NodeId) (bytes : List ℕ) (now : ℕ) → EndsOf (record_from from bytes now c).client
  record_end Mds bytes now = call_found_end bytes now (callback_of (call_at bytes) c) refl
  record_end (Server server) bytes now = server_found_end server bytes now (reply_at bytes) refl
  record_end (Client number) bytes now = e

  -- ---- timeouts

  mds_late_end : (asked : Option Asked) → EndsOf (mds_timed_out asked c).client
  mds_late_end None = e
  mds_late_end (Some a) = e

  late_end : (file : OpenFile) (l : Layout) (server : ℕ) → c.layout ≡ Some l → (o : Option OutCall) → out_at l.writer server ≡ o → EndsOf (and_then (late_out file l server o c) ends_event).client
  late_end file l server at None is = event_end h c s e.fit
  late_end file l server at (Some out) is =
      let stands : LayoutStands h c.name (reports_server (reported_of l)) l = its_layout l at in
      let moves : AfterMoves h c.name (reports_server (reported_of l)) l.writer (after_timeout l.writer out.xid) =
      subst (λ k. AfterMoves k c.name (reports_server (reported_of l)) l.writer (after_timeout l.writer out.xid)) (append-nil h) (timeout_moves h c.name (reports_server (reported_of l)) l.writer stands.writer [] out.xid) in
      event_end _ (after_step (is_commit out.call) file (after_timeout l.writer out.xid).step (has_writer c l (after_timeout l.writer out.xid))).client
      (after_goes h c l at s (after_timeout l.writer out.xid) moves (is_commit out.call) file).stands
      (after_fit h c.name _ c e.fit l at (all_known h c.name l stands server out is c.devices (its_fits l at)) (not_returning h c.name l stands server out is)
      (is_commit out.call) (after_timeout l.writer out.xid) moves.moves (timeout_goes (is_commit out.call) l.writer out.xid) file)

  server_late_end : (server : ℕ) (file : Option OpenFile) (layout : Option Layout) → c.layout ≡ layout → EndsOf (and_then (ds_timed_out_by file layout server c) ends_event).client
  server_late_end server (Some file) (Some l) at = late_end file l server at (out_at l.writer server) refl
  server_late_end server (Some file) None at = event_end h c s e.fit
  server_late_end server None layout at = event_end h c s e.fit

  timeout_end : (to : NodeId) → EndsOf (timed_out_to to c).client
  timeout_end Mds = mds_late_end c.asked
  timeout_end (Server server) = server_late_end server c.file c.layout refl
  timeout_end (Client number) = e

  -- ---- ticks

  tick_end : (now : ℕ) → EndsOf (ticks_on now (client_at_tick c)).client
  tick_end now =
      let d : ClientValue = client_at_tick c in
      let f : ClientValue = (ends_event d).client in
      let ended : EndsOf (ends_event (client_at_tick c)).client = event_end h d (with_layout_stands h c (layout_at_tick c.layout) s (tick_keeps c.layout) (tick_layout h c.name c.layout s.layout_stands)) (ticked_fit c e.fit) in
      renewed_end now (resends_late f f.asked).client (resent_end f f.asked refl ended)

  -- ---- a client that left the protocol

  turned_end : EndsOf (turned c)
  turned_end = record { fit = e.fit; goes = λ some todo. either_same c (turned c) refl refl refl refl (e.goes some todo); anew = e.anew; called = e.called }

  rogue_end : (file : OpenFile) (l : Layout) (at : ℕ) (bytes : List ℕ) (m : Option Mirror) → c.next_xid ≢ 0 → EndsOf (rogue_write c file l at bytes m).client
  rogue_end file l at bytes None some = e
  rogue_end file l at bytes (Some m) some = record { fit = e.fit; goes = λ left todo. either_same c (rogue_write c file l at bytes (Some m)).client refl refl refl refl (e.goes some todo); anew = λ left. e.anew some; called = λ left. e.called some }

  stray_end : (file : Option OpenFile) (layout : Option Layout) (place at : ℕ) (bytes : List ℕ) → EndsOf (strays file layout place at bytes c).client
  stray_end (Some file) (Some l) place at bytes =
      step_if EndsOf (l.was_sent || (c.next_xid == 0)) (sends_none c) (rogue_write c file l at bytes (mirror_of_place l.mirrors place)) (λ is. e)
      (λ is. rogue_end file l at bytes (mirror_of_place l.mirrors place) (nonzero c.next_xid (second l.was_sent (c.next_xid == 0) is)))
    where
      second : (a b : Bool) → (a || b) ≡ false → b ≡ false
      second false b is = is
      second true b is = absurd cc
  stray_end (Some file) None place at bytes = e
  stray_end None layout place at bytes = e

  -- ---- whatever comes

  unless_end : (next : ClientStep) → EndsOf next.client → EndsOf (unless_left c next).client
  unless_end next done = step_if EndsOf c.has_left (sends_none c) next (λ left. e) (λ stays. done)

  input_end : (input : ClientInput) → EndsOf (input_step input c).client
  input_end (Requested request) = unless_end (ends_event (with_request request c)) (event_end h (with_request request c) s (requested_fit c request e.fit))
  input_end (Recorded from bytes now) = unless_end (record_from from bytes now c) (record_end from bytes now)
  input_end (TimeoutOf to) = unless_end (timed_out_to to c) (timeout_end to)
  input_end (Ticked now) = unless_end (ticks_on now (client_at_tick c)) (tick_end now)
  input_end LeftProtocol = turned_end
  input_end (Strayed place at bytes) = stray_end c.file c.layout place at bytes

-- ---- every run

-- it stands in its history, and ends so
pub record RunEnds (c : ClientValue) : Type 0 where
  pub history : List HistoryItem
  pub stands : Stands history c
  pub ends : EndsOf c

run_ends : (inputs : List ClientInput) (h : List HistoryItem) (c : ClientValue) → Stands h c → SlotStands h c.tie → EndsOf c → RunEnds (client_after c inputs)
run_ends [] h c s slot e = record { history = h; stands = s; ends = e }
run_ends (input ∷ inputs) h c s slot e =
    let step : ClientStep = input_step input c in
    let heard : List HistoryItem = h ++ Hears input ∷ [] in
    let goes : StepGoes (h ++ Hears input ∷ []) (input_step input c) = input_goes h c input s slot in
    run_ends inputs ((heard ++ entered step.entries) ++ sent step.sends) step.client goes.stands
    (subst (λ (l : List HistoryItem). SlotStands l step.client.tie) (sym (append_assoc heard (entered step.entries) (sent step.sends))) (slot_later heard (entered step.entries ++ sent step.sends) step.client.tie (input_slot h c input slot))) (input_end h c s e input)

fresh_end : (number verifier first_xid : ℕ) → EndsOf (fresh_client number verifier first_xid)
fresh_end number verifier first_xid = record {
  fit = record { tied = λ is. absurd (not_both (sym is)); held = tt; layout_fits = tt; out = tt; anew = tt; returning = λ is. absurd (not_both (sym is)) };
  goes = λ some todo. by_todo todo;
  anew = λ some. refl;
  called = λ some. refl;
}
  where
    by_todo : (false ≡ true) ⊎ (false ≡ true) → AwaitsAnswer (fresh_client number verifier first_xid) ⊎ AwaitsTick (fresh_client number verifier first_xid)
    by_todo (inl is) = absurd (not_both (sym is))
    by_todo (inr is) = absurd (not_both (sym is))

each_run : BehindEachEvent RunEnds
each_run number verifier first_xid inputs = run_ends inputs [] (fresh_client number verifier first_xid) (fresh_stands number verifier first_xid) (fresh_slot number verifier first_xid) (fresh_end number verifier first_xid)

each_end : BehindEachEvent EndsOf
each_end number verifier first_xid inputs = (each_run number verifier first_xid inputs).ends

pub never_stuck : BehindEachEvent IsNeverStuck
never_stuck number verifier first_xid inputs = (each_end number verifier first_xid inputs).goes

pub has_sent_anew : BehindEachEvent HasSentAnew
has_sent_anew number verifier first_xid inputs = (each_end number verifier first_xid inputs).anew

returns_so : (c : ClientValue) → Fit c → ReturnsByCompound c
returns_so c fit is = by_either (fit.returning is)
  where
    by_asked : (asked : Option Asked) → kind_of asked ≡ Some ask.LayoutReturn → IsOutFor ask.LayoutReturn asked
    by_asked None out = absurd (none-some ask.LayoutReturn out)
    by_asked (Some a) out = (a, refl, same_Some a.ask ask.LayoutReturn out)

    by_either : (kind_of c.asked ≡ Some ask.LayoutReturn) ⊎ (c.again ≡ Some ask.LayoutReturn) → IsOutFor ask.LayoutReturn c.asked ⊎ (c.again ≡ Some ask.LayoutReturn)
    by_either (inl out) = inl (by_asked c.asked out)
    by_either (inr again) = inr again

pub returns_by_compound : BehindEachEvent ReturnsByCompound
returns_by_compound number verifier first_xid inputs = returns_so (client_after (fresh_client number verifier first_xid) inputs) (each_end number verifier first_xid inputs).fit

pub has_called_mirrors : BehindEachEvent HasCalledMirrors
has_called_mirrors number verifier first_xid inputs = (each_end number verifier first_xid inputs).called

own_so : (c : ClientValue) → RunEnds c → AwaitsOwnMirrors c
own_so c r l place m at there = by_file c.file refl
  where
    stands : LayoutStands r.history c.name (reports_server (reported_of l)) l
    stands = its_layout r.history c r.stands r.ends l at

    number : ds_call_number (out_at l.writer m.id.server) ≡ number_of_call m.call
    number = its_number r.history c.name (reports_server (reported_of l)) l.writer stands.writer l.mirrors stands.ids (its_fits r.history c r.stands r.ends l at).writer.apart place m there

    held : is_some c.file ≡ true
    held = subst (λ (o : Option Layout). IfThere o (λ l. is_some c.file ≡ true)) at r.ends.fit.held

    by_file : (file : Option OpenFile) → c.file ≡ file → outstanding_to (Server m.id.server) c ≡ number_of_call m.call
    by_file None none = absurd (not_both (sym held ∙ ap is_some none))
    by_file (Some file) some = ap (λ o. ds_outstanding o c.layout m.id.server) some ∙ ap (λ o. ds_outstanding (Some file) o m.id.server) at ∙ number

pub awaits_own : BehindEachEvent AwaitsOwnMirrors
awaits_own number verifier first_xid inputs = own_so (client_after (fresh_client number verifier first_xid) inputs) (each_run number verifier first_xid inputs)

-- ---- behind a tick

after_more : (c : ClientValue) (inputs : List ClientInput) (input : ClientInput) → client_after c (inputs ++ input ∷ []) ≡ (input_step input (client_after c inputs)).client
after_more c [] input = refl
after_more c (first ∷ inputs) input = after_more (input_step first c).client inputs input

quiet_awaits : (d : ClientValue) → AwaitsNoTick d → AwaitsAnswer d ⊎ AwaitsTick d → AwaitsAnswer d
quiet_awaits d none (inl answer) = answer
quiet_awaits d none (inr (inl waits)) = absurd (not_both (sym waits ∙ none.head))
quiet_awaits d none (inr (inr deferred)) = absurd (not_both (sym deferred ∙ none.layout))

pub asks_at_tick : BehindEachEvent AsksAtTick
asks_at_tick number verifier first_xid inputs now stays some todo =
    let c : ClientValue = client_after (fresh_client number verifier first_xid) inputs in
    let e : EndsOf (input_step (Ticked now) c).client = subst EndsOf (after_more (fresh_client number verifier first_xid) inputs (Ticked now)) (each_end number verifier first_xid (inputs ++ Ticked now ∷ [])) in
    quiet_awaits (input_step (Ticked now) c).client (awaits_none now c stays) (e.goes some todo)
