-- Each event keeps no status but that of a callback that was heard.
use Rattle.std.proofs.Common.{◌≡◌, ℕ, Bool, true, false, List, [], ◌∷◌, ◌++◌, Option, Some, None, Result, Ok, Err, refl, sym, ap, subst, ◌∙◌, inl, inr}
use Rattle.std.specs.Prelude.{◌==◌, ◌&&◌, ◌||◌, nat_lt, bytes_eq, if◌then◌else◌}
use Rattle.std.proofs.lemmas.Option.{none-some, same_Some}
use Rattle.std.proofs.lemmas.Slice.Eq.{bytes_eq-Decides}
use Rattle.ff_xdr.specs.declared.error.XdrError.{XdrError}
use Rattle.ff_xdr.specs.Form.{Value}
use Rattle.rpc_record.specs.declared.call.CallFault.{CallFault}
use Rattle.rpc_record.specs.declared.call.CallFault.TheVariants.{NotACall, RpcVersion, Bad}
use Rattle.rpc_record.specs.Calls.{RpcCall, call_at}
use Rattle.rpc_record.specs.Replies.{RpcReply, reply_at, proc_unavail, prog_unavail, prog_mismatch}
use Rattle.ds_calls.specs.GivenReplies.{reply_of_call}
use Rattle.nfs4_types.specs.declared.status.Stat4.{Stat4}
use Rattle.nfs4_types.specs.declared.status.Stat4.TheVariants as stat
use Rattle.nfs4_session_ops.specs.CbSequence.{cb_sequence4_args}
use Rattle.nfs4_session.specs.declared.cb_slot.CbBegin.{CbBegin}
use Rattle.nfs4_session.specs.declared.cb_slot.CbBegin.TheVariants.{New, Again, Misordered}
use Rattle.nfs4_session.specs.CallbackSlot.{cb_begin, after_cb_begin}
use Rattle.nfs4_compound.specs.declared.stop.Stop.{Stop}
use Rattle.nfs4_compound.specs.CbArgs.{cb_argop4}
use Rattle.nfs4_compound.specs.Compounds.{CbCompoundValue, cb_compound_at}
use Rattle.nfs4_compound.specs.Operations.{rest_of_stop}
use Rattle.device_addr.specs.declared.net_addr.NetAddr.{NetAddr}
use Rattle.cluster_model.specs.declared.ids.Mirror.{Mirror}
use Rattle.cluster_model.specs.declared.ids.NodeId.{NodeId}
use Rattle.cluster_model.specs.declared.ids.NodeId.TheVariants.{Mds, Server, Client}
use Rattle.mirror_writer.specs.Writers.{after_timeout}
use Rattle.mirror_writer.specs.Outstanding.{OutCall, out_at}
use Rattle.client_file_calls.specs.declared.open.OpenFile.{OpenFile}
use Rattle.client_mds_calls.specs.declared.ask.MdsAsk.{MdsAsk}
use Rattle.client_mds_calls.specs.declared.ask.MdsAsk.TheVariants as ask
use Rattle.client_mds_calls.specs.declared.reply.SlotReport.{SlotReport}
use Rattle.client_mds_calls.specs.declared.reply.SlotReport.TheVariants.{Taken, Uncached, Delayed, Unknown}
use Rattle.client_mds_calls.specs.MdsReplies.{MdsAnswerValue, Session, Complete, Opened, Granted, Devices, Written, Bytes, Returned, Renewed, Refused, MdsReplyValue, reply_of_ask}
use Rattle.client_mds_calls.specs.MdsReplies as says
use Rattle.client_state.specs.declared.request.UserRequest.{UserRequest}
use Rattle.client_state.specs.declared.layout.Layout.{Layout}
use Rattle.client_state.specs.declared.asked.Asked.{Asked}
use Rattle.client_state.specs.declared.tie.OwnSession.{OwnSession}
use Rattle.client_state.specs.declared.tie.Tie.{Tie}
use Rattle.client_state.specs.declared.tie.Tie.TheVariants.{NoClient, HasClient, HasSession}
use Rattle.client_state.specs.ClientStates.{ClientValue, ClientRun, unmoved, as_new, is_layout_return}
use Rattle.client_state.specs.ClientQueue.{revoked_layout}
use Rattle.client_state.specs.ClientSends.{ClientStep, sends_none}
use Rattle.client_calls.specs.ClientCalls.{asks, may_ask, ends_event}
use Rattle.client_answers.specs.ClientMirrors.{is_commit, has_writer, late_out, ds_timed_out_by, ds_answered}
use Rattle.client_answers.specs.ClientAnswers.{moved_tie, completed_tie, next_on_slot, learns_devices, layout_returned, head_refused, has_session, defers, after_refusal, refused_otherwise, is_for_later, asks_later, session_lost, refused_by_mds, by_answer, without_asked, mds_answered}
use Rattle.client_callbacks.specs.Callbacks.{CbJudged, CbAnswer, CbReply, cb_begun, cb_in_session, cb_first, cb_walked, cb_compound_answer, cb_null_answer, cb_procedure_answer, cb_call_answer, cb_results, cb_refused, callback_of, leaves, sequence_refused, given, recall_status, kept_of_recall}
use Rattle.mirror_client.specs.ClientRule.{unless_left, mds_replied, found_reply, found_call, record_from, mds_timed_out, timed_out_to, client_at_tick, resends_late, is_stale_tie, renews, ticks_on, with_request, rogue_write, mirror_of_place, strays}
use Rattle.client_laws.specs.ClientHistory.{ClientInput, Requested, Recorded, TimeoutOf, Ticked, LeftProtocol, Strayed, input_step, HistoryItem, Hears}
use Rattle.client_laws.specs.RecallLaws.{sequence_of}
use Rattle.client_laws.proofs.Orders.{in_end}
use Rattle.client_laws.proofs.TieKept.{step_if, asks_tie, ends_tie, step_tie, answered_tie}
use Rattle.client_laws.proofs.SlotKept.{SlotHeld, slot_of, HeardCallback, SlotStands, KeepsSlot, slot_later, slot_keeps, same_slot}

-- ---- answers of the metadata server

no_slot : (old new : Tie) → slot_of new ≡ None → KeepsSlot old new
no_slot old new none k status is kept = absurd (none-some k (sym none ∙ is))

keeps_then : (a b d : Tie) → KeepsSlot a b → KeepsSlot b d → KeepsSlot a d
keeps_then a b d first second k status is kept = first k status (second k status is kept) kept

moved_keeps : (now : ℕ) (tie : Tie) → KeepsSlot tie (moved_tie now tie)
moved_keeps now NoClient k status is kept = is
moved_keeps now (HasClient clientid sequence) k status is kept = is
moved_keeps now (HasSession s) k status is kept = is

completed_keeps : (tie : Tie) → KeepsSlot tie (completed_tie tie)
completed_keeps NoClient k status is kept = is
completed_keeps (HasClient clientid sequence) k status is kept = is
completed_keeps (HasSession s) k status is kept = is

run_if_keeps : (tie : Tie) (b : Bool) (x y : ClientRun) → KeepsSlot tie x.client.tie → KeepsSlot tie y.client.tie
    → (let r : ClientRun = if b then x else y in KeepsSlot tie r.client.tie)
run_if_keeps tie true x y first second = first
run_if_keeps tie false x y first second = second

client_if : (tie : Tie) (b : Bool) (x y : ClientValue) → KeepsSlot tie x.tie → KeepsSlot tie y.tie
    → (let d : ClientValue = if b then x else y in KeepsSlot tie d.tie)
client_if tie true x y first second = first
client_if tie false x y first second = second

later_tie : (kind : MdsAsk) (c : ClientValue) → (asks_later kind c).tie ≡ c.tie
later_tie ask.LayoutReturn c = refl
later_tie ask.Renew c = refl
later_tie ask.LayoutGet c = refl
later_tie ask.ExchangeId c = refl
later_tie ask.CreateSession c = refl
later_tie ask.ReclaimComplete c = refl
later_tie ask.Open c = refl
later_tie (ask.DeviceInfo count) c = refl
later_tie ask.Write c = refl
later_tie (ask.Read at count) c = refl

defers_tie : (kind : MdsAsk) (c : ClientValue) → (defers kind c).tie ≡ c.tie
defers_tie ask.LayoutReturn c = refl
defers_tie ask.Renew c = refl
defers_tie ask.LayoutGet c = refl
defers_tie ask.ExchangeId c = refl
defers_tie ask.CreateSession c = refl
defers_tie ask.ReclaimComplete c = refl
defers_tie ask.Open c = refl
defers_tie (ask.DeviceInfo count) c = refl
defers_tie ask.Write c = refl
defers_tie (ask.Read at count) c = refl

head_tie : (status : ℕ) (queue : List UserRequest) (c : ClientValue) → (head_refused status queue c).client.tie ≡ c.tie
head_tie status [] c = refl
head_tie status (request ∷ rest) c = refl

refusal_keeps : (kind : MdsAsk) (d : ClientValue) → KeepsSlot d.tie (after_refusal kind d).tie
refusal_keeps kind d = client_if d.tie (has_session d.tie) (defers kind d) (as_new d) (same_slot d.tie (defers kind d).tie (defers_tie kind d)) (no_slot d.tie NoClient refl)

otherwise_keeps : (kind : MdsAsk) (status : ℕ) (c : ClientValue) → KeepsSlot c.tie (refused_otherwise kind status c).client.tie
otherwise_keeps kind status c =
    keeps_then c.tie (head_refused status c.queue c).client.tie (after_refusal kind (head_refused status c.queue c).client).tie (same_slot c.tie (head_refused status c.queue c).client.tie (head_tie status c.queue c)) (refusal_keeps kind (head_refused status c.queue c).client)

lost_keeps : (layout : Option Layout) (c : ClientValue) → KeepsSlot c.tie (session_lost layout c).client.tie
lost_keeps None c = no_slot c.tie NoClient refl
lost_keeps (Some l) c = no_slot c.tie NoClient refl

refused_keeps : (kind : MdsAsk) (status : ℕ) (c : ClientValue) → KeepsSlot c.tie (refused_by_mds kind status c).client.tie
refused_keeps kind status c =
    run_if_keeps c.tie (status == 10052) (session_lost c.layout c) _ (lost_keeps c.layout c)
    (run_if_keeps c.tie (is_for_later status) (unmoved (asks_later kind c)) _ (same_slot c.tie (asks_later kind c).tie (later_tie kind c))
    (run_if_keeps c.tie ((status == 10025) && is_layout_return kind) (revoked_layout c) (refused_otherwise kind status c) (λ k status is kept. is) (otherwise_keeps kind status c)))

returned_tie : (file : Option OpenFile) (layout : Option Layout) (c : ClientValue) → (layout_returned file layout c).client.tie ≡ c.tie
returned_tie (Some file) (Some l) c = refl
returned_tie (Some file) None c = refl
returned_tie None layout c = refl

devices_tie : (layout : Option Layout) (addresses : List NetAddr) (c : ClientValue) → (learns_devices layout addresses c).tie ≡ c.tie
devices_tie None addresses c = refl
devices_tie (Some l) addresses c = refl

answer_keeps : (kind : MdsAsk) (answer : MdsAnswerValue) (c : ClientValue) → KeepsSlot c.tie (by_answer kind answer c).client.tie
answer_keeps kind (Refused status) c = refused_keeps kind status c
answer_keeps kind (says.Client clientid sequence) c = no_slot c.tie (HasClient clientid sequence) refl
answer_keeps kind (Session session) c = λ k status is kept. absurd (none-some status (ap (λ (x : SlotHeld). x.kept) (same_Some _ k is) ∙ kept))
answer_keeps kind Complete c = completed_keeps c.tie
answer_keeps kind (Opened file) c = λ k status is kept. is
answer_keeps kind (Granted g) c = λ k status is kept. is
answer_keeps kind (Devices addresses) c = same_slot c.tie (learns_devices c.layout addresses c).tie (devices_tie c.layout addresses c)
answer_keeps kind Written c = λ k status is kept. is
answer_keeps kind (Bytes eof data_of) c = λ k status is kept. is
answer_keeps kind Returned c = same_slot c.tie (layout_returned c.file c.layout c).client.tie (returned_tie c.file c.layout c)
answer_keeps kind Renewed c = λ k status is kept. is

report_keeps : (kind : MdsAsk) (answer : MdsAnswerValue) (report : SlotReport) (now : ℕ) (c : ClientValue) → KeepsSlot c.tie (mds_answered kind (record { slot = report; answer = answer }) now c).client.tie
report_keeps kind answer Taken now c = keeps_then c.tie (moved_tie now c.tie) (by_answer kind answer (without_asked (next_on_slot now c))).client.tie (moved_keeps now c.tie) (answer_keeps kind answer (without_asked (next_on_slot now c)))
report_keeps kind answer Unknown now c = answer_keeps kind answer (without_asked c)
report_keeps kind answer Uncached now c = moved_keeps now c.tie
report_keeps kind answer Delayed now c = λ k status is kept. is

reply_keeps : (kind : MdsAsk) (reply : MdsReplyValue) (now : ℕ) (c : ClientValue) → KeepsSlot c.tie (mds_answered kind reply now c).client.tie
reply_keeps kind reply now c = report_keeps kind reply.answer reply.slot now c

-- ---- callbacks

judged_if : (past : List HistoryItem) (b : Bool) (x y : CbJudged) → (b ≡ true → SlotStands past x.client.tie) → SlotStands past y.client.tie
    → (let j : CbJudged = if b then x else y in SlotStands past j.client.tie)
judged_if past true x y first second = first refl
judged_if past false x y first second = second

answer_if : (past : List HistoryItem) (b : Bool) (x y : CbAnswer) → SlotStands past x.client.tie → SlotStands past y.client.tie
    → (let a : CbAnswer = if b then x else y in SlotStands past a.client.tie)
answer_if past true x y first second = first
answer_if past false x y first second = second

begun_slot : (past : List HistoryItem) (s : OwnSession) (number : ℕ) (begin : CbBegin) (ops : List (Value cb_argop4)) (st : Stop) (c : ClientValue) → SlotStands past c.tie → HeardCallback past s.id.0 number
    → SlotStands past (cb_begun s number begin ops st c).client.tie
begun_slot past s number New ops st c stands heard = by_recall (recall_status ops c)
  where
    by_recall : (r : Option Stat4) → SlotStands past (HasSession (record s { callbacks = kept_of_recall r (after_cb_begin s.callbacks number New) }))
    by_recall None k status is kept = absurd (none-some status (ap (λ (x : SlotHeld). x.kept) (same_Some _ k is) ∙ kept))
    by_recall (Some answered) k status is kept =
        let same : ◌≡◌ {A = SlotHeld} (record { session = s.id.0; last = number; kept = Some answered }) k = same_Some _ k is in
        subst (λ (x : SlotHeld). HeardCallback past x.session x.last) same heard
begun_slot past s number (Again status) ops st c stands heard = stands
begun_slot past s number Misordered ops st c stands heard = stands

-- these operations were heard under their session and number
abbrev HeardAs : List HistoryItem → List (Value cb_argop4) → Type 0
HeardAs past ops = (session : List ℕ) (number : ℕ) → sequence_of ops ≡ Some (session, number) → HeardCallback past session number

session_slot : (past : List HistoryItem) (tie : Tie) (args : Value cb_sequence4_args) (ops : List (Value cb_argop4)) (st : Stop) (c : ClientValue) → SlotStands past c.tie → HeardAs past (inr (inl args) ∷ ops)
    → SlotStands past (cb_in_session tie args ops st c).client.tie
session_slot past (HasSession s) (session, (number, (slot, rest))) ops st c stands heard =
    judged_if past (bytes_eq session s.id.0) _ (leaves (sequence_refused stat.BadSession) c)
    (λ same. judged_if past (slot == 0) (cb_begun s number (cb_begin s.callbacks number) ops st c) (leaves (sequence_refused stat.BadSlot) c)
    (λ zero. begun_slot past s number (cb_begin s.callbacks number) ops st c stands (subst (λ k. HeardCallback past k number) ((bytes_eq-Decides session s.id.0).0 same) (heard session number refl))) stands) stands
session_slot past NoClient args ops st c stands heard = stands
session_slot past (HasClient clientid sequence) args ops st c stands heard = stands

first_slot : (past : List HistoryItem) (ops : List (Value cb_argop4)) (st : Stop) (c : ClientValue) → SlotStands past c.tie → HeardAs past ops → SlotStands past (cb_first ops st c).client.tie
first_slot past [] st c stands heard = stands
first_slot past (inl recall ∷ ops) st c stands heard = stands
first_slot past (inr (inl sequence) ∷ ops) st c stands heard = session_slot past c.tie sequence ops st c stands heard
first_slot past (inr (inr v) ∷ ops) st c stands heard = absurd v

walked_slot : (past : List HistoryItem) (cb : CbCompoundValue) (rest : Option ℕ) (c : ClientValue) → SlotStands past c.tie → HeardAs past cb.ops.values → SlotStands past (cb_walked cb rest c).client.tie
walked_slot past cb (Some rest) c stands heard = stands
walked_slot past cb None c stands heard = first_slot past cb.ops.values cb.ops.stop c stands heard

compound_slot : (past : List HistoryItem) (r : Result CbCompoundValue XdrError) (c : ClientValue) → SlotStands past c.tie → ((cb : CbCompoundValue) → r ≡ Ok cb → HeardAs past cb.ops.values) → SlotStands past (cb_compound_answer r c).client.tie
compound_slot past (Err e) c stands heard = stands
compound_slot past (Ok cb) c stands heard =
    answer_if past (cb.minorversion == 1) _ (cb_results cb.tag (leaves (given stat.MinorVersMismatch []) c))
    (answer_if past (nat_lt 16 cb.count) (cb_results cb.tag (leaves (given stat.TooManyOps []) c)) (cb_walked cb (rest_of_stop cb.ops.stop) c) stands (walked_slot past cb (rest_of_stop cb.ops.stop) c stands (heard cb refl))) stands

null_slot : (past : List HistoryItem) (args : List ℕ) (c : ClientValue) → SlotStands past c.tie → SlotStands past (cb_null_answer args c).client.tie
null_slot past [] c stands = stands
null_slot past (b ∷ bs) c stands = stands

call_slot : (past : List HistoryItem) (call : RpcCall) (c : ClientValue) → SlotStands past c.tie → ((cb : CbCompoundValue) → cb_compound_at call.args ≡ Ok cb → HeardAs past cb.ops.values) → SlotStands past (cb_call_answer call c).client.tie
call_slot past call c stands heard =
    answer_if past (call.program == 1073741824) _ (cb_refused prog_unavail c)
    (answer_if past (call.version == 1) (cb_procedure_answer call c) (cb_refused (prog_mismatch 1 1) c)
    (answer_if past (call.procedure == 0) (cb_null_answer call.args c) _ (null_slot past call.args c stands)
    (answer_if past (call.procedure == 1) (cb_compound_answer (cb_compound_at call.args) c) (cb_refused proc_unavail c) (compound_slot past (cb_compound_at call.args) c stands heard) stands)) stands) stands

callback_slot : (h : List HistoryItem) (bytes : List ℕ) (now : ℕ) (r : Result RpcCall CallFault) (c : ClientValue) (k : CbReply) → call_at bytes ≡ r → callback_of r c ≡ Some k → SlotStands (h ++ Hears (Recorded Mds bytes now) ∷ []) c.tie
    → SlotStands (h ++ Hears (Recorded Mds bytes now) ∷ []) k.client.tie
callback_slot h bytes now (Ok call) c k at is stands =
    subst (λ (x : CbReply). SlotStands (h ++ Hears (Recorded Mds bytes now) ∷ []) x.client.tie) (same_Some _ k is)
    (call_slot (h ++ Hears (Recorded Mds bytes now) ∷ []) call c stands (λ cb compound session number sequence. record { bytes = bytes; now = now; there = in_end h (Hears (Recorded Mds bytes now)); callback = record { call = call; call_is = at; cb = cb; compound = compound; sequence = sequence } }))
callback_slot h bytes now (Err (RpcVersion xid)) c k at is stands = subst (λ (x : CbReply). SlotStands (h ++ Hears (Recorded Mds bytes now) ∷ []) x.client.tie) (same_Some _ k is) stands
callback_slot h bytes now (Err (Bad xid e)) c k at is stands = subst (λ (x : CbReply). SlotStands (h ++ Hears (Recorded Mds bytes now) ∷ []) x.client.tie) (same_Some _ k is) stands
callback_slot h bytes now (Err NotACall) c k at is stands = absurd (none-some k is)

-- ---- whatever comes

step_slot_if : (past : List HistoryItem) (b : Bool) (x y : ClientStep) → SlotStands past x.client.tie → SlotStands past y.client.tie
    → (let s : ClientStep = if b then x else y in SlotStands past s.client.tie)
step_slot_if past true x y first second = first
step_slot_if past false x y first second = second

-- the same tie
same_tie : (past : List HistoryItem) (old new : Tie) → new ≡ old → SlotStands past old → SlotStands past new
same_tie past old new same stands = subst (λ t. SlotStands past t) (sym same) stands

mds_reply_slot : (past : List HistoryItem) (asked : Option Asked) (xid : ℕ) (reply : MdsAsk → MdsReplyValue) (now : ℕ) (c : ClientValue) → SlotStands past c.tie → SlotStands past (mds_replied asked xid reply now c).client.tie
mds_reply_slot past None xid reply now c stands = stands
mds_reply_slot past (Some a) xid reply now c stands =
    step_slot_if past (a.xid == xid) _ (sends_none c)
    (same_tie past (mds_answered a.ask (reply a.ask) now c).client.tie _ (ends_tie (mds_answered a.ask (reply a.ask) now c).client) (slot_keeps past c.tie (mds_answered a.ask (reply a.ask) now c).client.tie (reply_keeps a.ask (reply a.ask) now c) stands)) stands

mds_found_slot : (past : List HistoryItem) (r : Result RpcReply XdrError) (now : ℕ) (c : ClientValue) → SlotStands past c.tie → SlotStands past (found_reply Mds r now c).client.tie
mds_found_slot past (Ok reply) now c stands = mds_reply_slot past c.asked reply.xid (λ kind. reply_of_ask kind reply) now c stands
mds_found_slot past (Err e) now c stands = stands

server_found_slot : (past : List HistoryItem) (server : ℕ) (r : Result RpcReply XdrError) (now : ℕ) (c : ClientValue) → SlotStands past c.tie → SlotStands past (found_reply (Server server) r now c).client.tie
server_found_slot past server (Ok reply) now c stands =
    same_tie past c.tie _ (ends_tie (ds_answered server reply.xid (λ call. reply_of_call call reply) c).client ∙ answered_tie server reply.xid (λ call. reply_of_call call reply) c) stands
server_found_slot past server (Err e) now c stands = stands

call_found_slot : (h : List HistoryItem) (bytes : List ℕ) (now : ℕ) (c : ClientValue) (o : Option CbReply) → callback_of (call_at bytes) c ≡ o → SlotStands (h ++ Hears (Recorded Mds bytes now) ∷ []) c.tie
    → SlotStands (h ++ Hears (Recorded Mds bytes now) ∷ []) (found_call o bytes now c).client.tie
call_found_slot h bytes now c None is stands = mds_found_slot (h ++ Hears (Recorded Mds bytes now) ∷ []) (reply_at bytes) now c stands
call_found_slot h bytes now c (Some k) is stands = same_tie (h ++ Hears (Recorded Mds bytes now) ∷ []) k.client.tie _ (ends_tie k.client) (callback_slot h bytes now (call_at bytes) c k refl is stands)

record_slot : (h : List HistoryItem) (from : NodeId) (bytes : List ℕ) (now : ℕ) (c : ClientValue) → SlotStands (h ++ Hears (Recorded from bytes now) ∷ []) c.tie → SlotStands (h ++ Hears (Recorded from bytes now) ∷ []) (record_from from bytes now c).client.tie
record_slot h Mds bytes now c stands = call_found_slot h bytes now c (callback_of (call_at bytes) c) refl stands
record_slot h (Server server) bytes now c stands = server_found_slot (h ++ Hears (Recorded (Server server) bytes now) ∷ []) server (reply_at bytes) now c stands
record_slot h (Client number) bytes now c stands = stands

late_tie : (file : OpenFile) (l : Layout) (server : ℕ) (o : Option OutCall) (c : ClientValue) → (late_out file l server o c).client.tie ≡ c.tie
late_tie file l server None c = refl
late_tie file l server (Some out) c = step_tie (is_commit out.call) file (after_timeout l.writer out.xid).step (has_writer c l (after_timeout l.writer out.xid))

ds_late_tie : (file : Option OpenFile) (layout : Option Layout) (server : ℕ) (c : ClientValue) → (ds_timed_out_by file layout server c).client.tie ≡ c.tie
ds_late_tie (Some file) (Some l) server c = late_tie file l server (out_at l.writer server) c
ds_late_tie (Some file) None server c = refl
ds_late_tie None layout server c = refl

mds_late_tie : (asked : Option Asked) (c : ClientValue) → (mds_timed_out asked c).client.tie ≡ c.tie
mds_late_tie None c = refl
mds_late_tie (Some a) c = refl

timeout_tie : (to : NodeId) (c : ClientValue) → (timed_out_to to c).client.tie ≡ c.tie
timeout_tie Mds c = mds_late_tie c.asked c
timeout_tie (Server server) c = ends_tie (ds_timed_out_by c.file c.layout server c).client ∙ ds_late_tie c.file c.layout server c
timeout_tie (Client number) c = refl

resend_tie : (asked : Option Asked) (c : ClientValue) → (resends_late c asked).client.tie ≡ c.tie
resend_tie None c = refl
resend_tie (Some a) c = step_if c.tie a.is_late _ (sends_none c) refl refl

renew_tie : (now : ℕ) (c : ClientValue) → (renews now c).client.tie ≡ c.tie
renew_tie now c = step_if c.tie (may_ask c c.asked && is_stale_tie now c.tie) (asks c (Some ask.Renew)) (sends_none c) (asks_tie c (Some ask.Renew)) refl

tick_tie : (now : ℕ) (c : ClientValue) → (ticks_on now c).client.tie ≡ c.tie
tick_tie now c =
    renew_tie now (resends_late (ends_event c).client (ends_event c).client.asked).client ∙ resend_tie (ends_event c).client.asked (ends_event c).client ∙ ends_tie c

rogue_tie : (c : ClientValue) (file : OpenFile) (l : Layout) (at : ℕ) (bytes : List ℕ) (o : Option Mirror) → (rogue_write c file l at bytes o).client.tie ≡ c.tie
rogue_tie c file l at bytes None = refl
rogue_tie c file l at bytes (Some m) = refl

stray_tie : (file : Option OpenFile) (layout : Option Layout) (place at : ℕ) (bytes : List ℕ) (c : ClientValue) → (strays file layout place at bytes c).client.tie ≡ c.tie
stray_tie (Some file) (Some l) place at bytes c = step_if c.tie (l.was_sent || (c.next_xid == 0)) (sends_none c) (rogue_write c file l at bytes (mirror_of_place l.mirrors place)) refl (rogue_tie c file l at bytes (mirror_of_place l.mirrors place))
stray_tie (Some file) None place at bytes c = refl
stray_tie None layout place at bytes c = refl

unless_slot : (past : List HistoryItem) (c : ClientValue) (next : ClientStep) → SlotStands past c.tie → SlotStands past next.client.tie → SlotStands past (unless_left c next).client.tie
unless_slot past c next stands goes = step_slot_if past c.has_left (sends_none c) next stands goes

pub input_slot : (h : List HistoryItem) (c : ClientValue) (input : ClientInput) → SlotStands h c.tie → SlotStands (h ++ Hears input ∷ []) (input_step input c).client.tie
input_slot h c (Requested request) s =
    let later : SlotStands (h ++ Hears (Requested request) ∷ []) c.tie = slot_later h (Hears (Requested request) ∷ []) c.tie s in
    unless_slot (h ++ Hears (Requested request) ∷ []) c (ends_event (with_request request c)) later (same_tie (h ++ Hears (Requested request) ∷ []) c.tie _ (ends_tie (with_request request c)) later)
input_slot h c (Recorded from bytes now) s =
    let later : SlotStands (h ++ Hears (Recorded from bytes now) ∷ []) c.tie = slot_later h (Hears (Recorded from bytes now) ∷ []) c.tie s in
    unless_slot (h ++ Hears (Recorded from bytes now) ∷ []) c (record_from from bytes now c) later (record_slot h from bytes now c later)
input_slot h c (TimeoutOf to) s =
    let later : SlotStands (h ++ Hears (TimeoutOf to) ∷ []) c.tie = slot_later h (Hears (TimeoutOf to) ∷ []) c.tie s in
    unless_slot (h ++ Hears (TimeoutOf to) ∷ []) c (timed_out_to to c) later (same_tie (h ++ Hears (TimeoutOf to) ∷ []) c.tie _ (timeout_tie to c) later)
input_slot h c (Ticked now) s =
    let later : SlotStands (h ++ Hears (Ticked now) ∷ []) c.tie = slot_later h (Hears (Ticked now) ∷ []) c.tie s in
    unless_slot (h ++ Hears (Ticked now) ∷ []) c (ticks_on now (client_at_tick c)) later (same_tie (h ++ Hears (Ticked now) ∷ []) c.tie _ (tick_tie now (client_at_tick c)) later)
input_slot h c LeftProtocol s = slot_later h (Hears LeftProtocol ∷ []) c.tie s
input_slot h c (Strayed place at bytes) s = same_tie (h ++ Hears (Strayed place at bytes) ∷ []) c.tie _ (stray_tie c.file c.layout place at bytes c) (slot_later h (Hears (Strayed place at bytes) ∷ []) c.tie s)
