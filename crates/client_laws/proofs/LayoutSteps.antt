-- What becomes of a client's layout in each event.
use Rattle.std.proofs.Common.{◌≡◌, ℕ, Bool, true, false, List, [], ◌∷◌, ◌++◌, Option, Some, None, Result, Ok, Err, refl, sym, ap, subst, ◌∙◌, inl, inr}
use Rattle.std.specs.Prelude.{◌==◌, ◌&&◌, ◌||◌, if◌then◌else◌}
use Rattle.std.proofs.lemmas.List.{map-append}
use Rattle.ff_xdr.specs.declared.error.XdrError.{XdrError}
use Rattle.rpc_record.specs.Calls.{call_at}
use Rattle.rpc_record.specs.Replies.{RpcReply, reply_at}
use Rattle.ds_calls.specs.GivenReplies.{reply_of_call}
use Rattle.device_addr.specs.declared.net_addr.NetAddr.{NetAddr}
use Rattle.cluster_model.specs.declared.ids.NodeId.{NodeId}
use Rattle.cluster_model.specs.declared.ids.NodeId.TheVariants.{Mds, Server}
use Rattle.cluster_model.specs.declared.ids.NodeId.TheVariants as node
use Rattle.cluster_model.specs.declared.ids.Mirror.{Mirror}
use Rattle.cluster_model.specs.declared.ids.MirrorId.{MirrorId}
use Rattle.cluster_model.specs.declared.phase.LeftCause.{LeftCause}
use Rattle.cluster_model.specs.declared.answer.UserAnswer.TheVariants as answer
use Rattle.cluster_model.specs.declared.answer.FailCause.TheVariants as failing
use Rattle.cluster_model.specs.declared.entry.Entry.{Entry}
use Rattle.cluster_model.specs.declared.entry.Entry.TheVariants.{TimedOut, Answer}
use Rattle.cluster_model.specs.DsCalls.{DsCallValue, DsReplyValue}
use Rattle.mirror_writer.specs.declared.step.WriterStep.{WriterStep}
use Rattle.mirror_writer.specs.declared.step.WriterStep.TheVariants as step
use Rattle.mirror_writer.specs.Writers.{WriterAfter, after_reply, after_timeout}
use Rattle.mirror_writer.specs.Outstanding.{OutCall, out_at, has_no_mirror}
use Rattle.client_file_calls.specs.declared.open.OpenFile.{OpenFile}
use Rattle.client_file_calls.specs.declared.grant.LayoutGrant.{LayoutGrant}
use Rattle.client_mds_calls.specs.declared.ask.MdsAsk.{MdsAsk}
use Rattle.client_mds_calls.specs.declared.ask.MdsAsk.TheVariants as ask
use Rattle.client_mds_calls.specs.declared.reply.SlotReport.{SlotReport}
use Rattle.client_mds_calls.specs.declared.reply.SlotReport.TheVariants.{Taken, Uncached, Delayed, Unknown}
use Rattle.client_mds_calls.specs.MdsCalls.{MdsCallValue}
use Rattle.client_mds_calls.specs.MdsReplies.{MdsAnswerValue, Client, Session, Complete, Opened, Granted, Devices, Written, Bytes, Returned, Renewed, Refused, MdsReplyValue, reply_of_ask}
use Rattle.client_state.specs.declared.stage.LayoutStage.{LayoutStage}
use Rattle.client_state.specs.declared.stage.LayoutStage.TheVariants.{Writing, Ending, Deferred, Returning}
use Rattle.client_state.specs.declared.request.UserRequest.{UserRequest}
use Rattle.client_state.specs.declared.layout.Layout.{Layout}
use Rattle.client_state.specs.declared.asked.Asked.{Asked}
use Rattle.client_state.specs.declared.tie.Tie.{Tie}
use Rattle.client_state.specs.declared.tie.Tie.TheVariants.{NoClient, HasClient, HasSession}
use Rattle.client_state.specs.ClientStates.{ClientValue, ClientRun, unmoved, as_new, is_layout_return}
use Rattle.client_state.specs.ClientQueue.{with_layout, with_writer, ending, is_writing, revoked_layout, lost_mirrors}
use Rattle.client_state.specs.ClientSends.{CallsMds, RepeatsToMds, ClientStep, sends_none, and_then, run_then}
use Rattle.client_calls.specs.ClientCalls.{asks, may_ask, ends_event}
use Rattle.client_answers.specs.ClientMirrors.{is_commit, tells_covered, with_failed, mirror_failed, after_step, has_writer, answered_out, ds_answered_by, ds_answered, late_out, ds_timed_out_by, ds_timed_out}
use Rattle.client_answers.specs.ClientAnswers.{moved_tie, next_on_slot, completed_tie, new_layout, learns_devices, layout_returned, head_refused, has_session, deferred, defers, after_refusal, refused_otherwise, is_for_later, asks_later, session_lost, refused_by_mds, by_answer, delayed, mds_answered}
use Rattle.client_callbacks.specs.Callbacks.{CbReply, callback_of}
use Rattle.mirror_client.specs.ClientRule.{unless_left, with_request, mds_replied, mds_timed_out, timed_out_to, stage_after_tick, layout_at_tick, client_at_tick, resends_late, is_stale_tie, renews, ticks_on, rogue_write, mirror_of_place, strays, found_reply, found_call, record_from}
use Rattle.client_laws.specs.ClientHistory.{ClientInput, Requested, Recorded, TimeoutOf, Ticked, LeftProtocol, Strayed, input_step, HistoryItem, Enters, Sends, entered, HasItem}
use Rattle.client_laws.specs.RecallLaws.{WasGivenBack}
use Rattle.client_laws.proofs.Orders.{in_more}
use Rattle.client_laws.proofs.GrantFacts.{granted_kind, returned_kind, client_kind}
use Rattle.client_laws.proofs.Steady.{SameLayout, Follows, follows_same, follows_then, ends_same, KindTied, kind_of, TiedOf, Tied, Steady, steady_same, tied_steady, steady_layout, CallsTied, asks_tied, ends_tied}
use Rattle.client_laws.proofs.CallbackSteady.{callback_steady}
use Rattle.client_laws.proofs.Stands.{Stands, AskFits, AskOut, GetsLayout, GivesLayout, ReturnOut, IfThere}

-- ---- what becomes of a layout

-- The layout that was there stays; or the user is answered that it was taken away; or it was given back before, or there was none.
pub data Becomes (h : List HistoryItem) (old new : Option Layout) (entries : List Entry) : Type 0 where
  Stays : Follows old new → Becomes h old new entries
  IsLost : (client : ℕ) → HasItem (entered entries) (Enters (Answer client (answer.Failed failing.Revoked))) → Becomes h old new entries
  IsGone : IfThere old (λ l. WasGivenBack h l.stateid.other) → Becomes h old new entries

pub record RunMoves (h : List HistoryItem) (c : ClientValue) (r : ClientRun) : Type 0 where
  pub becomes : Becomes h c.layout r.client.layout r.entries
  pub tied : Tied r.client

pub record StepMoves (h : List HistoryItem) (c : ClientValue) (s : ClientStep) : Type 0 where
  pub becomes : Becomes h c.layout s.client.layout s.entries
  pub tied : Tied s.client

in_first : (a b : List Entry) (item : HistoryItem) → HasItem (entered a) item → HasItem (entered (a ++ b)) item
in_first a b item i = subst (λ l. HasItem l item) (sym (map-append Enters a b)) (in_more (item ∷ []) (entered a) (entered b) i)

becomes_then : (h : List HistoryItem) (old mid new : Option Layout) (entries more : List Entry) → Becomes h old mid entries → Follows mid new → Becomes h old new (entries ++ more)
becomes_then h old mid new entries more (Stays first) second = Stays (follows_then old mid new first second)
becomes_then h old mid new entries more (IsLost client i) second = IsLost client (in_first entries more (Enters (Answer client (answer.Failed failing.Revoked))) i)
becomes_then h old mid new entries more (IsGone gone) second = IsGone gone

-- behind another entry
becomes_behind : (h : List HistoryItem) (old new : Option Layout) (e : Entry) (entries : List Entry) → Becomes h old new entries → Becomes h old new (e ∷ entries)
becomes_behind h old new e entries (Stays follows) = Stays follows
becomes_behind h old new e entries (IsLost client i) = IsLost client (inr i)
becomes_behind h old new e entries (IsGone gone) = IsGone gone

run_steady : (h : List HistoryItem) (c : ClientValue) (r : ClientRun) → Steady c r.client → Tied c → RunMoves h c r
run_steady h c r s t = record { becomes = Stays s.follows; tied = tied_steady c r.client s t }

step_steady : (h : List HistoryItem) (c : ClientValue) (s : ClientStep) → Steady c s.client → Tied c → StepMoves h c s
step_steady h c s steady t = record { becomes = Stays steady.follows; tied = tied_steady c s.client steady t }

step_none : (h : List HistoryItem) (c : ClientValue) → Tied c → StepMoves h c (sends_none c)
step_none h c t = step_steady h c (sends_none c) (steady_same c) t

run_ends : (h : List HistoryItem) (c : ClientValue) (r : ClientRun) → RunMoves h c r → StepMoves h c (run_then r ends_event)
run_ends h c r m =
    let e : CallsTied r.client (ends_event r.client) = ends_tied r.client m.tied in
    record { becomes = becomes_then h c.layout r.client.layout (ends_event r.client).client.layout r.entries (ends_event r.client).entries m.becomes e.follows; tied = e.tied }

step_ends : (h : List HistoryItem) (c : ClientValue) (s : ClientStep) → StepMoves h c s → StepMoves h c (and_then s ends_event)
step_ends h c s m =
    let e : CallsTied s.client (ends_event s.client) = ends_tied s.client m.tied in
    record { becomes = becomes_then h c.layout s.client.layout (ends_event s.client).client.layout s.entries (ends_event s.client).entries m.becomes e.follows; tied = e.tied }

-- ---- answers of data servers

module _ (h : List HistoryItem) (c : ClientValue) (l : Layout) (at : c.layout ≡ Some l) (t : Tied c) (after : WriterAfter) where
  -- with this layout in its place
  replaced : (new : Layout) → SameLayout (with_writer l after.writer) new → Steady c (with_layout c new)
  replaced new same = steady_layout c l new at (record { stateid = same.stateid; stage = same.stage })

  kept : Steady c (has_writer c l after)
  kept = replaced (with_writer l after.writer) (record { stateid = refl; stage = λ is. is })

  told_moves : (commit : Bool) (file : OpenFile) → RunMoves h c (if commit then tells_covered file (has_writer c l after).layout (has_writer c l after) else unmoved (has_writer c l after))
  told_moves true file = (let k : Steady c (with_layout c _) = replaced _ (record { stateid = refl; stage = λ is. is }) in run_steady h c (tells_covered file (has_writer c l after).layout (has_writer c l after)) k t)
  told_moves false file = run_steady h c (unmoved (has_writer c l after)) kept t

  failed_moves : (id : MirrorId) (cause : LeftCause) → RunMoves h c (mirror_failed id cause (Some (with_writer l after.writer)) (has_writer c l after))
  failed_moves id cause = by_test (has_no_mirror after.writer)
    where
      new : Layout
      new = with_failed (with_writer l after.writer) id cause

      ended : SameLayout new (ending new)
      ended = ends_same new

      by_test : (b : Bool) → RunMoves h c (if b then lost_mirrors new (has_writer c l after) else unmoved (with_layout (has_writer c l after) (ending new)))
      by_test true = (let k : Steady c (with_layout c (record (ending new) { untold = [] })) = replaced (record (ending new) { untold = [] }) (record { stateid = ended.stateid; stage = ended.stage }) in run_steady h c (lost_mirrors new (has_writer c l after)) k t)
      by_test false = (let k : Steady c (with_layout c (ending new)) = replaced (ending new) (record { stateid = ended.stateid; stage = ended.stage }) in run_steady h c (unmoved (with_layout (has_writer c l after) (ending new))) k t)

  after_moves : (commit : Bool) (file : OpenFile) (came : WriterStep) → RunMoves h c (after_step commit file came (has_writer c l after))
  after_moves commit file step.Stranger = run_steady h c (unmoved (has_writer c l after)) kept t
  after_moves commit file step.Waiting = told_moves commit file
  after_moves commit file step.Committed = told_moves commit file
  after_moves commit file (step.Failed id cause) = failed_moves id cause
  after_moves commit file (step.Fenced id status) = record { becomes = IsLost c.number (inl (refl, tt)); tied = record { held = tt; out = t.out; anew = t.anew } }

out_moves : (h : List HistoryItem) (c : ClientValue) (file : OpenFile) (l : Layout) (xid : ℕ) (reply : DsCallValue → DsReplyValue) (o : Option OutCall) → c.layout ≡ Some l → Tied c → RunMoves h c (answered_out file l xid reply o c)
out_moves h c file l xid reply None at t = run_steady h c (unmoved c) (steady_same c) t
out_moves h c file l xid reply (Some out) at t = by_test (out.xid == xid)
  where
    by_test : (b : Bool) → RunMoves h c (if b then after_step (is_commit out.call) file (after_reply l.writer xid (reply out.call)).step (has_writer c l (after_reply l.writer xid (reply out.call))) else unmoved c)
    by_test true = after_moves h c l at t (after_reply l.writer xid (reply out.call)) (is_commit out.call) file (after_reply l.writer xid (reply out.call)).step
    by_test false = run_steady h c (unmoved c) (steady_same c) t

ds_moves : (h : List HistoryItem) (c : ClientValue) (file : Option OpenFile) (layout : Option Layout) (server xid : ℕ) (reply : DsCallValue → DsReplyValue) → c.layout ≡ layout → Tied c → RunMoves h c (ds_answered_by file layout server xid reply c)
ds_moves h c (Some file) (Some l) server xid reply at t = out_moves h c file l xid reply (out_at l.writer server) at t
ds_moves h c (Some file) None server xid reply at t = run_steady h c (unmoved c) (steady_same c) t
ds_moves h c None layout server xid reply at t = run_steady h c (unmoved c) (steady_same c) t

late_moves : (h : List HistoryItem) (c : ClientValue) (file : OpenFile) (l : Layout) (server : ℕ) (o : Option OutCall) → c.layout ≡ Some l → Tied c → StepMoves h c (late_out file l server o c)
late_moves h c file l server None at t = step_none h c t
late_moves h c file l server (Some out) at t =
    let m : RunMoves h c (after_step (is_commit out.call) file (after_timeout l.writer out.xid).step (has_writer c l (after_timeout l.writer out.xid))) =
    after_moves h c l at t (after_timeout l.writer out.xid) (is_commit out.call) file (after_timeout l.writer out.xid).step in
    record { becomes = becomes_behind h c.layout _ (TimedOut (node.Client c.number) out.xid) _ m.becomes; tied = m.tied }

ds_late_moves : (h : List HistoryItem) (c : ClientValue) (file : Option OpenFile) (layout : Option Layout) (server : ℕ) → c.layout ≡ layout → Tied c → StepMoves h c (ds_timed_out_by file layout server c)
ds_late_moves h c (Some file) (Some l) server at t = late_moves h c file l server (out_at l.writer server) at t
ds_late_moves h c (Some file) None server at t = step_none h c t
ds_late_moves h c None layout server at t = step_none h c t

-- ---- answers of the metadata server

-- without a session there is no layout
no_layout : (has : Bool) (layout : Option Layout) → IfThere layout (λ l. has ≡ true) → has ≡ false → layout ≡ None
no_layout has None held is = refl
no_layout has (Some l) held is = absurd (not_both (sym held ∙ is))
  where
    not_both : true ≡ false → ⊥
    not_both e = absurd cc

with_session : (layout : Option Layout) (has : Bool) → has ≡ true → IfThere layout (λ l. has ≡ true)
with_session None has is = tt
with_session (Some l) has is = is

moved_session : (now : ℕ) (tie : Tie) → has_session (moved_tie now tie) ≡ has_session tie
moved_session now NoClient = refl
moved_session now (HasClient clientid sequence) = refl
moved_session now (HasSession s) = refl

completed_session : (tie : Tie) → has_session (completed_tie tie) ≡ has_session tie
completed_session NoClient = refl
completed_session (HasClient clientid sequence) = refl
completed_session (HasSession s) = refl

follows_deferred : (layout : Option Layout) → Follows layout (deferred layout)
follows_deferred None = tt
follows_deferred (Some l) = record { stateid = refl; stage = λ is. refl }

later_steady : (kind : MdsAsk) (d : ClientValue) → Steady d (asks_later kind d)
later_steady ask.LayoutReturn d = record { session = refl; follows = follows_deferred d.layout; out = refl; anew = refl }
later_steady ask.Renew d = steady_same d
later_steady ask.LayoutGet d = steady_same d
later_steady ask.ExchangeId d = steady_same d
later_steady ask.CreateSession d = steady_same d
later_steady ask.ReclaimComplete d = steady_same d
later_steady ask.Open d = steady_same d
later_steady (ask.DeviceInfo count) d = steady_same d
later_steady ask.Write d = steady_same d
later_steady (ask.Read at count) d = steady_same d

defers_steady : (kind : MdsAsk) (d : ClientValue) → Steady d (defers kind d)
defers_steady ask.LayoutReturn d = record { session = refl; follows = follows_deferred d.layout; out = refl; anew = refl }
defers_steady ask.Renew d = steady_same d
defers_steady ask.LayoutGet d = steady_same d
defers_steady ask.ExchangeId d = steady_same d
defers_steady ask.CreateSession d = steady_same d
defers_steady ask.ReclaimComplete d = steady_same d
defers_steady ask.Open d = steady_same d
defers_steady (ask.DeviceInfo count) d = steady_same d
defers_steady ask.Write d = steady_same d
defers_steady (ask.Read at count) d = steady_same d

new_tied : (d : ClientValue) → Tied (as_new d)
new_tied d = record { held = tt; out = tt; anew = tt }

-- as new, where there was no layout
new_moves : (h : List HistoryItem) (d : ClientValue) (layout : Option Layout) (entries : List Entry) → layout ≡ None → Becomes h layout (as_new d).layout entries
new_moves h d layout entries none = Stays (subst (λ (o : Option Layout). Follows o None) (sym none) tt)

lost_moves : (h : List HistoryItem) (d : ClientValue) (layout : Option Layout) → d.layout ≡ layout → RunMoves h d (session_lost layout d)
lost_moves h d None at = record { becomes = new_moves h (head_refused 10052 d.queue d).client d.layout (head_refused 10052 d.queue d).entries at; tied = new_tied (head_refused 10052 d.queue d).client }
lost_moves h d (Some l) at = record { becomes = IsLost d.number (inl (refl, tt)); tied = new_tied (revoked_layout d).client }

head_steady : (status : ℕ) (queue : List UserRequest) (d : ClientValue) → Steady d (head_refused status queue d).client
head_steady status [] d = steady_same d
head_steady status (request ∷ rest) d = steady_same d

refusal_moves : (h : List HistoryItem) (kind : MdsAsk) (d : ClientValue) (entries : List Entry) → Tied d → RunMoves h d (record { client = after_refusal kind d; entries = entries })
refusal_moves h kind d entries t = by_test (has_session d.tie) refl
  where
    by_test : (b : Bool) → has_session d.tie ≡ b → RunMoves h d (record { client = if b then defers kind d else as_new d; entries = entries })
    by_test true is = run_steady h d (record { client = defers kind d; entries = entries }) (defers_steady kind d) t
    by_test false is = record { becomes = new_moves h d d.layout entries (no_layout (has_session d.tie) d.layout t.held is); tied = new_tied d }

otherwise_moves : (h : List HistoryItem) (kind : MdsAsk) (status : ℕ) (d : ClientValue) → Tied d → RunMoves h d (refused_otherwise kind status d)
otherwise_moves h kind status d t = by_queue d.queue
  where
    by_queue : (queue : List UserRequest) → RunMoves h d (record { client = after_refusal kind (head_refused status queue d).client; entries = (head_refused status queue d).entries })
    by_queue [] = refusal_moves h kind d [] t
    by_queue (request ∷ rest) =
        let e : ClientValue = (head_refused status (request ∷ rest) d).client in
        let m : RunMoves h e (record { client = after_refusal kind e; entries = (head_refused status (request ∷ rest) d).entries }) = refusal_moves h kind e (head_refused status (request ∷ rest) d).entries t in
        record { becomes = m.becomes; tied = m.tied }

refused_moves : (h : List HistoryItem) (kind : MdsAsk) (status : ℕ) (d : ClientValue) → Tied d → RunMoves h d (refused_by_mds kind status d)
refused_moves h kind status d t = by_tests (status == 10052) (is_for_later status) ((status == 10025) && is_layout_return kind)
  where
    by_tests : (a b e : Bool) → RunMoves h d (if a then session_lost d.layout d else if b then unmoved (asks_later kind d) else if e then revoked_layout d else refused_otherwise kind status d)
    by_tests true b e = lost_moves h d d.layout refl
    by_tests false true e = run_steady h d (unmoved (asks_later kind d)) (later_steady kind d) t
    by_tests false false true = record { becomes = IsLost d.number (inl (refl, tt)); tied = record { held = tt; out = t.out; anew = t.anew } }
    by_tests false false false = otherwise_moves h kind status d t

module _ (h : List HistoryItem) (c : ClientValue) (s : Stands h c) (t : Tied c) (a : Asked) (at : c.asked ≡ Some a) (reply : RpcReply) where
  its_ask : AskOut h c.name c.layout a
  its_ask = subst (λ (o : Option Asked). IfThere o (AskOut h c.name c.layout)) at s.asked_out

  its_tie : KindTied (has_session c.tie) a.ask
  its_tie = subst (λ (o : Option Asked). IfThere (kind_of o) (KindTied (has_session c.tie))) at t.out

  no_again : c.again ≡ None
  no_again = subst (λ (o : Option Asked). IfThere o (λ k. c.again ≡ None)) at s.alone

  fits_of : (kind : MdsAsk) → a.ask ≡ kind → AskFits h (Sends (CallsMds a.xid c.name its_ask.call)) c.layout its_ask.call kind
  fits_of kind is = subst (AskFits h (Sends (CallsMds a.xid c.name its_ask.call)) c.layout its_ask.call) is its_ask.fits

  -- a LAYOUTRETURN that is out was sent
  given_back : GivesLayout h (Sends (CallsMds a.xid c.name its_ask.call)) c.layout its_ask.call → (layout : Option Layout) → c.layout ≡ layout → IfThere layout (λ l. WasGivenBack h l.stateid.other)
  given_back g None there = tt
  given_back g (Some l) there =
      let out : ReturnOut h (Sends (CallsMds a.xid c.name its_ask.call)) g.stateid g.failed l = subst (λ (o : Option Layout). IfThere o (ReturnOut h (Sends (CallsMds a.xid c.name its_ask.call)) g.stateid g.failed)) there g.out in
      record {
        xid = a.xid;
        name = c.name;
        session = g.session;
        sequence = g.sequence;
        file = g.file;
        stateid = g.stateid;
        failed = g.failed;
        its_state = ap (λ k. k.other) out.its_stateid;
        sent = subst (λ (k : MdsCallValue). HasItem h (Sends (CallsMds a.xid c.name k))) g.is its_ask.sent;
      }

  gets_none : GetsLayout h (Sends (CallsMds a.xid c.name its_ask.call)) c.layout its_ask.call → c.layout ≡ None
  gets_none g = g.no_layout

  -- nothing is out now
  idle : (has : Bool) (layout : Option Layout) → IfThere layout (λ l. has ≡ true) → TiedOf has layout None c.again
  idle has layout held = subst (λ (o : Option MdsAsk). TiedOf has layout None o) (sym no_again) (record { held = held; out = tt; anew = tt })

  module _ (tie : Tie) (session : has_session tie ≡ has_session c.tie) where
    abbrev free : ClientValue
    free = record c { tie = tie; asked = None }

    held_now : IfThere c.layout (λ l. has_session tie ≡ true)
    held_now = subst (λ (b : Bool). IfThere c.layout (λ l. b ≡ true)) (sym session) t.held

    free_tied : TiedOf (has_session tie) c.layout None c.again
    free_tied = idle (has_session tie) c.layout held_now

    same_moves : (r : ClientRun) → Steady (record c { tie = tie; asked = None }) r.client → RunMoves h c r
    same_moves r k = record { becomes = Stays k.follows; tied = tied_steady (record c { tie = tie; asked = None }) r.client k free_tied }

    client_moves : (clientid sequence : ℕ) → (reply_of_ask a.ask reply).answer ≡ Client clientid sequence → RunMoves h c (unmoved (record c { tie = HasClient clientid sequence; asked = None }))
    client_moves clientid sequence is =
        let none : c.layout ≡ None = no_layout (has_session c.tie) c.layout t.held (subst (KindTied (has_session c.tie)) (client_kind a.ask reply clientid sequence is) its_tie) in
        record { becomes = Stays (follows_same c.layout); tied = idle false c.layout (subst (λ (o : Option Layout). IfThere o (λ l. false ≡ true)) (sym none) tt) }

    granted_moves : (g : LayoutGrant) → (reply_of_ask a.ask reply).answer ≡ Granted g → RunMoves h c (unmoved (record c { tie = tie; asked = None; layout = Some (new_layout g) }))
    granted_moves g is =
        let kind : a.ask ≡ ask.LayoutGet = granted_kind a.ask reply g is in
        record {
          becomes = IsGone (subst (λ (o : Option Layout). IfThere o (λ l. WasGivenBack h l.stateid.other)) (sym (gets_none (fits_of ask.LayoutGet kind))) tt);
          tied = idle (has_session tie) (Some (new_layout g)) (session ∙ subst (KindTied (has_session c.tie)) kind its_tie);
        }

    devices_moves : (layout : Option Layout) (addresses : List NetAddr) → RunMoves h c (unmoved (learns_devices layout addresses (record c { tie = tie; asked = None })))
    devices_moves None addresses = same_moves (unmoved _) (steady_same (record c { tie = tie; asked = None }))
    devices_moves (Some l) addresses = same_moves (unmoved _) (steady_same (record c { tie = tie; asked = None }))

    returned_moves : (file : Option OpenFile) (layout : Option Layout) → IfThere c.layout (λ l. WasGivenBack h l.stateid.other) → RunMoves h c (layout_returned file layout (record c { tie = tie; asked = None }))
    returned_moves (Some file) (Some l) given = record { becomes = IsGone given; tied = idle (has_session tie) None tt }
    returned_moves (Some file) None given = same_moves (unmoved _) (steady_same (record c { tie = tie; asked = None }))
    returned_moves None layout given = same_moves (unmoved _) (steady_same (record c { tie = tie; asked = None }))

    answer_moves : (says : MdsAnswerValue) → (reply_of_ask a.ask reply).answer ≡ says → RunMoves h c (by_answer a.ask says (record c { tie = tie; asked = None }))
    answer_moves (Refused status) is =
        let m : RunMoves h (record c { tie = tie; asked = None }) (refused_by_mds a.ask status (record c { tie = tie; asked = None })) = refused_moves h a.ask status (record c { tie = tie; asked = None }) free_tied in
        record { becomes = m.becomes; tied = m.tied }
    answer_moves (Client clientid sequence) is = client_moves clientid sequence is
    answer_moves (Session session) is = record { becomes = Stays (follows_same c.layout); tied = idle true c.layout (with_session c.layout true refl) }
    answer_moves Complete is =
        let k : Steady (record c { tie = tie; asked = None }) (record c { tie = completed_tie tie; asked = None }) = record { session = completed_session tie; follows = follows_same c.layout; out = refl; anew = refl } in
        same_moves (unmoved (record c { tie = completed_tie tie; asked = None })) k
    answer_moves (Opened file) is = same_moves _ (steady_same (record c { tie = tie; asked = None }))
    answer_moves (Granted g) is = granted_moves g is
    answer_moves (Devices addresses) is = devices_moves c.layout addresses
    answer_moves Written is = same_moves _ (steady_same (record c { tie = tie; asked = None }))
    answer_moves (Bytes eof data_of) is = same_moves _ (steady_same (record c { tie = tie; asked = None }))
    answer_moves Returned is = returned_moves c.file c.layout (given_back (fits_of ask.LayoutReturn (returned_kind a.ask reply is)) c.layout refl)
    answer_moves Renewed is = same_moves _ (steady_same (record c { tie = tie; asked = None }))

  -- the same goes out anew
  anew_moves : (now : ℕ) → RunMoves h c (unmoved (record c { tie = moved_tie now c.tie; asked = None; again = Some a.ask }))
  anew_moves now =
      let same : has_session (moved_tie now c.tie) ≡ has_session c.tie = moved_session now c.tie in
      record {
        becomes = Stays (follows_same c.layout);
        tied = record { held = held_now (moved_tie now c.tie) same; out = tt; anew = subst (λ (b : Bool). KindTied b a.ask) (sym same) its_tie };
      }

  -- the same record goes out again
  delayed_kind : (asked : Option Asked) → kind_of (delayed asked) ≡ kind_of asked
  delayed_kind None = refl
  delayed_kind (Some b) = refl

  delayed_moves : RunMoves h c (unmoved (record c { asked = delayed c.asked }))
  delayed_moves = (let k : Steady c (record c { asked = delayed c.asked }) = record { session = refl; follows = follows_same c.layout; out = delayed_kind c.asked; anew = refl } in run_steady h c (unmoved (record c { asked = delayed c.asked })) k t)

  mds_moves : (now : ℕ) → RunMoves h c (mds_answered a.ask (reply_of_ask a.ask reply) now c)
  mds_moves now = by_reply (reply_of_ask a.ask reply) refl
    where
      by_report : (says : MdsAnswerValue) → (reply_of_ask a.ask reply).answer ≡ says → (report : SlotReport) → RunMoves h c (mds_answered a.ask (record { slot = report; answer = says }) now c)
      by_report says is Taken = answer_moves (next_on_slot now c).tie (moved_session now c.tie) says is
      by_report says is Unknown = answer_moves c.tie refl says is
      by_report says is Uncached = anew_moves now
      by_report says is Delayed = delayed_moves

      by_reply : (r : MdsReplyValue) → reply_of_ask a.ask reply ≡ r → RunMoves h c (mds_answered a.ask r now c)
      by_reply r is = by_report r.answer (ap (λ k. k.answer) is) r.slot

mds_reply_moves : (h : List HistoryItem) (c : ClientValue) → Stands h c → Tied c → (reply : RpcReply) (now : ℕ) (asked : Option Asked) → c.asked ≡ asked → StepMoves h c (mds_replied asked reply.xid (λ kind. reply_of_ask kind reply) now c)
mds_reply_moves h c s t reply now None at = step_none h c t
mds_reply_moves h c s t reply now (Some a) at = by_test (a.xid == reply.xid)
  where
    by_test : (b : Bool) → StepMoves h c (if b then run_then (mds_answered a.ask (reply_of_ask a.ask reply) now c) ends_event else sends_none c)
    by_test true = run_ends h c (mds_answered a.ask (reply_of_ask a.ask reply) now c) (mds_moves h c s t a at reply now)
    by_test false = step_none h c t

-- ---- records

mds_found_moves : (h : List HistoryItem) (c : ClientValue) → Stands h c → Tied c → (r : Result RpcReply XdrError) (now : ℕ) → StepMoves h c (found_reply Mds r now c)
mds_found_moves h c s t (Ok reply) now = mds_reply_moves h c s t reply now c.asked refl
mds_found_moves h c s t (Err e) now = step_none h c t

server_found_moves : (h : List HistoryItem) (c : ClientValue) → Tied c → (server : ℕ) (r : Result RpcReply XdrError) (now : ℕ) → StepMoves h c (found_reply (Server server) r now c)
server_found_moves h c t server (Ok reply) now = run_ends h c (ds_answered server reply.xid (λ call. reply_of_call call reply) c) (ds_moves h c c.file c.layout server reply.xid (λ call. reply_of_call call reply) refl t)
server_found_moves h c t server (Err e) now = step_none h c t

call_found_moves : (h : List HistoryItem) (c : ClientValue) → Stands h c → Tied c → (bytes : List ℕ) (now : ℕ) (o : Option CbReply) → callback_of (call_at bytes) c ≡ o → StepMoves h c (found_call o bytes now c)
call_found_moves h c s t bytes now None is = mds_found_moves h c s t (reply_at bytes) now
call_found_moves h c s t bytes now (Some k) is =
    let m : RunMoves h c (unmoved k.client) = run_steady h c (unmoved k.client) (callback_steady (call_at bytes) c k is) t in
    let e : StepMoves h c (run_then (unmoved k.client) ends_event) = run_ends h c (unmoved k.client) m in
    record { becomes = e.becomes; tied = e.tied }

record_moves : (h : List HistoryItem) (c : ClientValue) → Stands h c → Tied c → (from : NodeId) (bytes : List ℕ) (now : ℕ) → StepMoves h c (record_from from bytes now c)
record_moves h c s t Mds bytes now = call_found_moves h c s t bytes now (callback_of (call_at bytes) c) refl
record_moves h c s t (Server server) bytes now = server_found_moves h c t server (reply_at bytes) now
record_moves h c s t (node.Client number) bytes now = step_none h c t

-- ---- timeouts and ticks

mds_late_moves : (h : List HistoryItem) (c : ClientValue) (asked : Option Asked) → Tied c → StepMoves h c (mds_timed_out asked c)
mds_late_moves h c None t = step_none h c t
mds_late_moves h c (Some a) t = step_steady h c (mds_timed_out (Some a) c) (steady_same c) t

timeout_moves : (h : List HistoryItem) (c : ClientValue) (to : NodeId) → Tied c → StepMoves h c (timed_out_to to c)
timeout_moves h c Mds t = mds_late_moves h c c.asked t
timeout_moves h c (Server server) t = step_ends h c (ds_timed_out server c) (ds_late_moves h c c.file c.layout server refl t)
timeout_moves h c (node.Client number) t = step_none h c t

tick_steady : (c : ClientValue) → Steady c (client_at_tick c)
tick_steady c = record { session = refl; follows = by_layout c.layout; out = refl; anew = refl }
  where
    by_stage : (stage : LayoutStage) → is_writing stage ≡ false → is_writing (stage_after_tick stage) ≡ false
    by_stage Writing is = is
    by_stage Ending is = is
    by_stage Deferred is = refl
    by_stage Returning is = is

    by_layout : (layout : Option Layout) → Follows layout (layout_at_tick layout)
    by_layout None = tt
    by_layout (Some l) = record { stateid = refl; stage = by_stage l.stage }

resend_steady : (c : ClientValue) (asked : Option Asked) → c.asked ≡ asked → Steady c (resends_late c asked).client
resend_steady c None at = steady_same c
resend_steady c (Some a) at = by_test a.is_late
  where
    by_test : (b : Bool)
        → (let s : ClientStep = if b then record { client = record c { asked = Some (record a { is_late = false }) }; entries = []; sends = RepeatsToMds a.xid a.message ∷ [] } else sends_none c in Steady c s.client)
    by_test true = record { session = refl; follows = follows_same c.layout; out = sym (ap kind_of at); anew = refl }
    by_test false = steady_same c

renew_tied : (c : ClientValue) (now : ℕ) → Tied c → CallsTied c (renews now c)
renew_tied c now t = by_test (may_ask c c.asked && is_stale_tie now c.tie)
  where
    by_test : (b : Bool) → CallsTied c (if b then asks c (Some ask.Renew) else sends_none c)
    by_test true = asks_tied c (Some ask.Renew) tt t
    by_test false = record { follows = follows_same c.layout; tied = t; mute = tt }

tick_moves : (h : List HistoryItem) (c d : ClientValue) (now : ℕ) → Steady c d → Tied c → StepMoves h c (ticks_on now d)
tick_moves h c d now first t =
    let ended : CallsTied d (ends_event d) = ends_tied d (tied_steady c d first t) in
    let e : ClientValue = (ends_event d).client in
    let f : ClientValue = (resends_late e e.asked).client in
    let again : Steady e f = resend_steady e e.asked refl in
    let last : CallsTied f (renews now f) = renew_tied f now (tied_steady e f again ended.tied) in
    record {
      becomes = Stays (follows_then c.layout d.layout (renews now f).client.layout first.follows (follows_then d.layout e.layout (renews now f).client.layout ended.follows (follows_then e.layout f.layout (renews now f).client.layout again.follows last.follows)));
      tied = last.tied;
    }

-- ---- a client that left the protocol

rogue_steady : (c : ClientValue) (file : OpenFile) (l : Layout) (at : ℕ) (bytes : List ℕ) (o : Option Mirror) → Steady c (rogue_write c file l at bytes o).client
rogue_steady c file l at bytes None = steady_same c
rogue_steady c file l at bytes (Some m) = steady_same c

stray_steady : (c : ClientValue) (file : Option OpenFile) (layout : Option Layout) (place at : ℕ) (bytes : List ℕ) → Steady c (strays file layout place at bytes c).client
stray_steady c (Some file) (Some l) place at bytes = by_test (l.was_sent || (c.next_xid == 0))
  where
    by_test : (b : Bool)
        → (let s : ClientStep = if b then sends_none c else rogue_write c file l at bytes (mirror_of_place l.mirrors place) in Steady c s.client)
    by_test true = steady_same c
    by_test false = rogue_steady c file l at bytes (mirror_of_place l.mirrors place)
stray_steady c (Some file) None place at bytes = steady_same c
stray_steady c None layout place at bytes = steady_same c

-- ---- whatever comes

unless_moves : (h : List HistoryItem) (c : ClientValue) (next : ClientStep) → Tied c → StepMoves h c next → StepMoves h c (unless_left c next)
unless_moves h c next t moves = by_test c.has_left
  where
    by_test : (b : Bool) → StepMoves h c (if b then sends_none c else next)
    by_test true = step_none h c t
    by_test false = moves

request_moves : (h : List HistoryItem) (c : ClientValue) (request : UserRequest) → Tied c → StepMoves h c (ends_event (with_request request c))
request_moves h c request t = (let k : CallsTied (with_request request c) (ends_event (with_request request c)) = ends_tied (with_request request c) t in record { becomes = Stays k.follows; tied = k.tied })

pub input_moves : (h : List HistoryItem) (c : ClientValue) (input : ClientInput) → Stands h c → Tied c → StepMoves h c (input_step input c)
input_moves h c (Requested request) s t = unless_moves h c (ends_event (with_request request c)) t (request_moves h c request t)
input_moves h c (Recorded from bytes now) s t = unless_moves h c (record_from from bytes now c) t (record_moves h c s t from bytes now)
input_moves h c (TimeoutOf to) s t = unless_moves h c (timed_out_to to c) t (timeout_moves h c to t)
input_moves h c (Ticked now) s t = unless_moves h c (ticks_on now (client_at_tick c)) t (tick_moves h c (client_at_tick c) now (tick_steady c) t)
input_moves h c LeftProtocol s t = step_steady h c (input_step LeftProtocol c) (steady_same c) t
input_moves h c (Strayed place at bytes) s t = step_steady h c (strays c.file c.layout place at bytes c) (stray_steady c c.file c.layout place at bytes) t
