-- A callback is answered.
use Rattle.std.proofs.Common.{◌≡◌, ℕ, Bool, true, false, List, [], ◌∷◌, ◌++◌, length, Option, Some, None, refl, sym, ap, subst, ◌∙◌, inl, inr, ◌⊎◌}
use Rattle.std.specs.Prelude.{if◌then◌else◌}
use Rattle.std.proofs.lemmas.List.{append_assoc}
use Rattle.std.proofs.lemmas.Option.{none-some, same_Some}
use Rattle.rpc_record.specs.Calls.{call_at}
use Rattle.rpc_record.specs.Replies.{RpcReply}
use Rattle.cluster_model.specs.declared.ids.NodeId.TheVariants.{Mds}
use Rattle.cluster_model.specs.declared.answer.UserAnswer.TheVariants as answer
use Rattle.cluster_model.specs.declared.entry.Entry.{Entry}
use Rattle.client_file_calls.specs.declared.open.OpenFile.{OpenFile}
use Rattle.client_mds_calls.specs.declared.ask.MdsAsk.{MdsAsk}
use Rattle.client_mds_calls.specs.declared.ask.MdsAsk.TheVariants as ask
use Rattle.client_mds_calls.specs.FittingCalls.{reports_server}
use Rattle.client_mds_calls.specs.MdsCalls.{MdsCallValue}
use Rattle.client_state.specs.declared.request.UserRequest.{UserRequest}
use Rattle.client_state.specs.declared.request.UserRequest.TheVariants.{Open, Write, Through, Commit, Read, Return}
use Rattle.client_state.specs.declared.layout.Layout.{Layout}
use Rattle.client_state.specs.declared.asked.Asked.{Asked}
use Rattle.client_state.specs.ClientStates.{ClientValue}
use Rattle.client_state.specs.ClientSends.{CallsMds, RepliesToMds}
use Rattle.client_state.specs.ClientQueue.{HeadStep, IsDone, IsWaiting, Asks, answers_user, refuses_request, answers_committed, is_writing, unknown_servers, is_past, write_to, write_by, behind_return, is_all_told, layout_committing, on_open_file, head_step, QueueRun, after_head, awake, with_rest, run_requests, run_queue}
use Rattle.client_callbacks.specs.Callbacks.{CbReply, callback_of}
use Rattle.client_laws.specs.ClientHistory.{ClientInput, Recorded, HistoryItem, Hears, Enters, Sends, entered, HasItem}
use Rattle.client_laws.specs.RecallLaws.{LastHeard, heard_behind, last_heard, WasRecalled, RecalledSince, up_to}
use Rattle.client_laws.proofs.Orders.{in_more}
use Rattle.client_laws.proofs.Later.{numbers_later, all_replied_later, under_later, granted_later, there_later, mirror_later, under_uid_later, every_append, taken_later, not_taken_later, given_later, return_later}
use Rattle.client_laws.proofs.Splits.{StandsBefore, IsLast, split_last}
use Rattle.client_laws.proofs.SlotKept.{SlotStands}
use Rattle.client_laws.proofs.RecallGoes.{IsEnding, IsRecalled, ending_is, callback_so}
use Rattle.client_laws.proofs.Stands.{Stands, LayoutStands, AskFits, AskOut, IfThere, QuietItem, reported_of}

-- ---- the queue leaves a layout that is being given back as it is

abbrev Holds : HeadStep → Type 0
Holds (IsDone r) = IsEnding r.client.layout
Holds (IsWaiting c) = IsEnding c.layout
Holds (Asks kind) = Unit {0}

by_if : (b : Bool) (x y : HeadStep) → (b ≡ true → Holds x) → (b ≡ false → Holds y) → Holds (if b then x else y)
by_if true x y first second = first refl
by_if false x y first second = second refl

not_both : true ≡ false → ⊥
not_both e = absurd cc

is_its : (c : ClientValue) (l : Layout) → c.layout ≡ Some l → IsEnding c.layout → is_writing l.stage ≡ false
is_its c l at e = subst (λ (k : Layout). is_writing k.stage ≡ false) (same_Some e.held l (sym e.there ∙ at)) e.stage

write_holds : (c : ClientValue) (file : OpenFile) (layout : Option Layout) (at : ℕ) (bytes : List ℕ) → c.layout ≡ layout → IsEnding c.layout → Holds (write_by c file layout at bytes)
write_holds c file None at bytes there e = tt
write_holds c file (Some l) at bytes there e =
    by_if (is_writing l.stage) (write_to c file l at bytes (length (unknown_servers c l))) (IsWaiting c) (λ writing. absurd (not_both (sym writing ∙ is_its c l there e))) (λ ended. e)

return_holds : (c : ClientValue) (layout : Option Layout) (step : HeadStep) → Holds step → Holds (behind_return step c layout)
return_holds c None step holds = holds
return_holds c (Some l) step holds = ending_is l

commits_hold : (c : ClientValue) (layout : Option Layout) → c.layout ≡ layout → IsEnding c.layout → IsEnding (layout_committing c layout).layout
commits_hold c None there e = e
commits_hold c (Some l) there e = record { held = _; there = refl; stage = is_its c l there e }

file_holds : (c : ClientValue) (file : OpenFile) (request : UserRequest) → IsEnding c.layout → Holds (on_open_file c file request)
file_holds c file (Open name) e = e
file_holds c file (Write at bytes) e = by_if (is_past at bytes) (IsDone (refuses_request 27 c)) (write_by c file c.layout at bytes) (λ over. e) (λ within. write_holds c file c.layout at bytes refl e)
file_holds c file (Through at bytes) e = by_if (is_past at bytes) (IsDone (refuses_request 27 c)) (behind_return (Asks ask.Write) c c.layout) (λ over. e) (λ within. return_holds c c.layout (Asks ask.Write) tt)
file_holds c file Commit e = by_if (is_all_told c.layout) (IsDone (answers_committed c)) (IsWaiting (layout_committing c c.layout)) (λ told. e) (λ untold. commits_hold c c.layout refl e)
file_holds c file (Read at count) e = tt
file_holds c file Return e = return_holds c c.layout (IsDone (answers_user answer.Returned c)) e

head_holds : (c : ClientValue) (file : Option OpenFile) (request : UserRequest) → IsEnding c.layout → Holds (head_step c file request)
head_holds c None (Open name) e = tt
head_holds c None (Write at bytes) e = e
head_holds c None (Through at bytes) e = e
head_holds c None Commit e = e
head_holds c None (Read at count) e = e
head_holds c None Return e = e
head_holds c (Some file) request e = file_holds c file request e

after_holds : (request : UserRequest) (c : ClientValue) (step : HeadStep) (next : ClientValue → QueueRun) → IsEnding c.layout → Holds step → ((d : ClientValue) → IsEnding d.layout → IsEnding (next d).run.client.layout)
    → IsEnding (after_head request c step next).run.client.layout
after_holds request c (IsDone r) next e holds further = further (awake r).client holds
after_holds request c (IsWaiting d) next e holds further = holds
after_holds request c (Asks kind) next e holds further = e

requests_hold : (requests : List UserRequest) (c : ClientValue) → IsEnding c.layout → IsEnding (run_requests requests c).run.client.layout
requests_hold [] c e = e
requests_hold (request ∷ rest) c e = after_holds request (with_rest c rest) (head_step (with_rest c rest) c.file request) (run_requests rest) e (head_holds (with_rest c rest) c.file request e) (requests_hold rest)

pub ending_queue : (c : ClientValue) → IsEnding c.layout → IsEnding (run_queue c).run.client.layout
ending_queue c e = requests_hold c.queue c e

-- ---- what was heard last

none_heard : (entries : List Entry) → last_heard (entered entries) ≡ None
none_heard [] = refl
none_heard (e ∷ entries) = ap (heard_behind (Enters e)) (none_heard entries)

pub heard_last : (h : List HistoryItem) (input : ClientInput) (items : List HistoryItem) → last_heard items ≡ None → last_heard (h ++ Hears input ∷ items) ≡ Some (record { earlier = h; input = input })
heard_last [] input items none = ap (heard_behind (Hears input)) none
heard_last (x ∷ h) input items none = ap (heard_behind x) (heard_last h input items none)

abbrev bytes_of : ClientInput → List ℕ
bytes_of (Recorded from bytes now) = bytes
bytes_of input = []

-- a recall that this reply answers OK was of this record
pub replied_so : (h : List HistoryItem) (c : ClientValue) (bytes : List ℕ) (now : ℕ) (k : CbReply) (entries : List Entry) (state : List ℕ) → SlotStands h c.tie → callback_of (call_at bytes) c ≡ Some k
    → WasRecalled ((h ++ Hears (Recorded Mds bytes now) ∷ []) ++ entered entries) k.reply state → IsRecalled k.client.layout state
replied_so h c bytes now k entries state slot is r =
    let same : ◌≡◌ {A = LastHeard} (record { earlier = h; input = Recorded Mds bytes now }) (record { earlier = r.earlier; input = Recorded Mds r.bytes r.now }) =
    same_Some _ _ (sym (ap last_heard (append_assoc h (Hears (Recorded Mds bytes now) ∷ []) (entered entries)) ∙ heard_last h (Recorded Mds bytes now) (entered entries) (none_heard entries)) ∙ r.last) in
    let its_bytes : bytes ≡ r.bytes = ap (λ (x : LastHeard). bytes_of x.input) same in
    callback_so h c r.bytes k state r.session r.number slot (subst (λ b. callback_of (call_at b) c ≡ Some k) its_bytes is) r.callback r.asks
    (λ heard. r.new heard.bytes heard.now (subst (λ e. HasItem e (Hears (Recorded Mds heard.bytes heard.now))) (ap (λ (x : LastHeard). x.earlier) same) heard.there) heard.callback) r.ok

-- ---- the reply goes out

abbrev reply_of : HistoryItem → RpcReply → RpcReply
reply_of (Sends (RepliesToMds reply)) other = reply
reply_of item other = other

pub same_reply : (a b : RpcReply) → Sends (RepliesToMds a) ≡ Sends (RepliesToMds b) → a ≡ b
same_reply a b is = ap (λ i. reply_of i a) is

module _ (h : List HistoryItem) (reply : RpcReply) where
  abbrev item : HistoryItem
  item = Sends (RepliesToMds reply)

  replied_layout : (name : List ℕ) (reports : ℕ → Bool) (l : Layout) → LayoutStands h name reports l → ((state : List ℕ) → WasRecalled h reply state → is_writing l.stage ≡ false) → LayoutStands (h ++ Sends (RepliesToMds reply) ∷ []) name reports l
  replied_layout name reports l s so = record {
    grant = s.grant;
    granted = granted_later h (item ∷ []) s.grant s.granted;
    stateid = s.stateid;
    mirrors = s.mirrors;
    uid = s.uid;
    taken = taken_later h (item ∷ []) name reports l s (tt, tt);
    ids = s.ids;
    few = s.few;
    statuses = s.statuses;
    writer = λ place m there. mirror_later h (item ∷ []) name l.writer.cred l.writer.taken reports m (s.writer place m there);
    entered = λ n t there. under_uid_later h (item ∷ []) l.writer.cred t.at t.bytes (s.entered n t there);
    was_taken = not_taken_later h (item ∷ []) name reports l s (tt, tt);
    was_given = given_later h (item ∷ []) name reports l s (tt, tt);
    settled = s.settled;
    not_writing = s.not_writing;
    returning = s.returning;
    recalled = λ r. by_place r (split_last s.granted.since r.items r.behind (Sends (RepliesToMds r.reply)) item r.split);
  }
    where
      by_place : (r : RecalledSince (granted_later h (Sends (RepliesToMds reply) ∷ []) s.grant s.granted)) → StandsBefore s.granted.since r.items (Sends (RepliesToMds r.reply)) ⊎ IsLast s.granted.since r.items (Sends (RepliesToMds r.reply)) (Sends (RepliesToMds reply))
          → is_writing l.stage ≡ false
      by_place r (inl b) = s.recalled (record { items = r.items; behind = b.behind; reply = r.reply; split = b.split; recalled = r.recalled })
      by_place r (inr e) =
          so s.grant.stateid.other
          (subst (λ x. WasRecalled x reply s.grant.stateid.other) (ap (up_to s.granted) e.items_are ∙ sym s.granted.split)
          (subst (λ (x : RpcReply). WasRecalled (up_to s.granted r.items) x s.grant.stateid.other) (same_reply r.reply reply e.last_is) r.recalled))

  replied_fits : (place : HistoryItem) (layout : Option Layout) (call : MdsCallValue) (kind : MdsAsk) → ((state : List ℕ) → WasRecalled h reply state → IsEnding layout) → AskFits h place layout call kind → AskFits (h ++ Sends (RepliesToMds reply) ∷ []) place layout call kind
  replied_fits place layout call ask.LayoutGet so g = record {
    session = g.session;
    sequence = g.sequence;
    file = g.file;
    is = g.is;
    no_layout = g.no_layout;
    before = g.before;
    since = g.since ++ item ∷ [];
    split = ap (λ l. l ++ item ∷ []) g.split ∙ append_assoc g.before (place ∷ g.since) (item ∷ []);
    quiet = every_append QuietItem g.since (item ∷ []) g.quiet (tt, tt);
    unrecalled = λ items behind r state split recalled. by_place items r state recalled (split_last g.since items behind (Sends (RepliesToMds r)) item split);
  }
    where
      by_place : (items : List HistoryItem) (r : RpcReply) (state : List ℕ) → WasRecalled (g.before ++ place ∷ items) r state → StandsBefore g.since items (Sends (RepliesToMds r)) ⊎ IsLast g.since items (Sends (RepliesToMds r)) (Sends (RepliesToMds reply)) → ⊥
      by_place items r state recalled (inl b) = g.unrecalled items b.behind r state b.split recalled
      by_place items r state recalled (inr e) =
          let now : WasRecalled h reply state =
          subst (λ x. WasRecalled x reply state) (ap (λ x. g.before ++ place ∷ x) e.items_are ∙ sym g.split) (subst (λ (x : RpcReply). WasRecalled (g.before ++ place ∷ items) x state) (same_reply r reply e.last_is) recalled) in
          none-some (so state now).held (sym g.no_layout ∙ (so state now).there)
  replied_fits place layout call ask.LayoutReturn so g = record { session = g.session; sequence = g.sequence; file = g.file; stateid = g.stateid; failed = g.failed; is = g.is; out = return_later h (item ∷ []) place layout g.stateid g.failed g.out }
  replied_fits place layout call ask.ExchangeId so g = tt
  replied_fits place layout call ask.CreateSession so g = tt
  replied_fits place layout call ask.ReclaimComplete so g = tt
  replied_fits place layout call ask.Open so g = tt
  replied_fits place layout call (ask.DeviceInfo count) so g = tt
  replied_fits place layout call ask.Write so g = tt
  replied_fits place layout call (ask.Read at count) so g = tt
  replied_fits place layout call ask.Renew so g = tt

  replied_ask : (name : List ℕ) (layout : Option Layout) (a : Asked) → ((state : List ℕ) → WasRecalled h reply state → IsEnding layout) → AskOut h name layout a → AskOut (h ++ Sends (RepliesToMds reply) ∷ []) name layout a
  replied_ask name layout a so s = record {
    call = s.call;
    sent = in_more (Sends (CallsMds a.xid name s.call) ∷ []) h (item ∷ []) s.sent;
    fits = replied_fits (Sends (CallsMds a.xid name s.call)) layout s.call a.ask so s.fits;
  }

  replied_there : (name : List ℕ) (layout : Option Layout) → ((state : List ℕ) → WasRecalled h reply state → IsEnding layout) → IfThere layout (λ l. LayoutStands h name (reports_server (reported_of l)) l)
      → IfThere layout (λ l. LayoutStands (h ++ Sends (RepliesToMds reply) ∷ []) name (reports_server (reported_of l)) l)
  replied_there name None so s = tt
  replied_there name (Some l) so s =
      replied_layout name (reports_server (reported_of l)) l s (λ state r. (let e : IsEnding (Some l) = so state r in subst (λ (k : Layout). is_writing k.stage ≡ false) (same_Some e.held l (sym e.there)) e.stage))

  pub stands_replied : (c : ClientValue) → Stands h c → ((state : List ℕ) → WasRecalled h reply state → IsEnding c.layout) → Stands (h ++ Sends (RepliesToMds reply) ∷ []) c
  stands_replied c s so = record {
    numbers = numbers_later h (item ∷ []) c.next_xid (refl, tt) s.numbers;
    replied = all_replied_later h (item ∷ []) c.asked (refl, tt) s.replied;
    asked_out = there_later c.asked (AskOut h c.name c.layout) (AskOut (h ++ item ∷ []) c.name c.layout) (λ a. replied_ask c.name c.layout a so) s.asked_out;
    alone = s.alone;
    layout_stands = replied_there c.name c.layout so s.layout_stands;
    taken_under = under_later h (item ∷ []) (tt, tt) s.taken_under;
    gets_again = s.gets_again;
    returns_again = s.returns_again;
  }
