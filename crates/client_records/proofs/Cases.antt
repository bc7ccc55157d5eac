-- What any part of an event can do to a client: a predicate of a history and of a client is kept by every part of every event, and each item of
-- the history is so, where that holds in each of these cases.
use Rattle.std.proofs.Common.{◌≡◌, ◌≢◌, ℕ, Bool, true, false, List, [], ◌∷◌, ◌++◌, length, Option, Some, None, Result, Ok, Err, ◌⊎◌}
use Rattle.std.specs.Prelude.{◌==◌, drop}
use Rattle.rpc_record.specs.declared.call.CallFault.{CallFault}
use Rattle.rpc_record.specs.declared.call.CallFault.TheVariants.{NotACall, RpcVersion, Bad}
use Rattle.rpc_record.specs.Calls.{RpcCall, call_at}
use Rattle.rpc_record.specs.Replies.{RpcReply, reply_at}
use Rattle.nfs4_types.specs.declared.ids.DeviceId.{DeviceId}
use Rattle.nfs4_types.specs.declared.ids.SessionId.{SessionId}
use Rattle.nfs4_session.specs.CallbackSlot.{CbSlotState}
use Rattle.device_addr.specs.declared.net_addr.NetAddr.{NetAddr}
use Rattle.cluster_model.specs.declared.ids.NodeId.TheVariants.{Mds, Server, Client as AClient}
use Rattle.cluster_model.specs.declared.ids.Mirror.{Mirror}
use Rattle.cluster_model.specs.declared.ids.MirrorId.{MirrorId}
use Rattle.cluster_model.specs.declared.phase.LeftCause.{LeftCause}
use Rattle.cluster_model.specs.declared.answer.UserAnswer.{UserAnswer}
use Rattle.cluster_model.specs.declared.entry.Entry.{Entry}
use Rattle.cluster_model.specs.declared.entry.Entry.TheVariants.{Sent, Rogue, Answer, TimedOut}
use Rattle.cluster_model.specs.DsCalls as ds
use Rattle.ds_calls.specs.GivenReplies.{reply_of_call}
use Rattle.mirror_writer.specs.declared.step.WriterStep.{WriterStep}
use Rattle.mirror_writer.specs.declared.step.WriterStep.TheVariants as step
use Rattle.mirror_writer.specs.Writers.{WriterSends, WriterAfter, with_write, commit_wanted, overlaps_taken, next_sent, after_reply, after_timeout}
use Rattle.mirror_writer.specs.Outstanding.{OutCall, out_at, has_no_mirror}
use Rattle.client_file_calls.specs.declared.open.OpenFile.{OpenFile}
use Rattle.client_file_calls.specs.declared.grant.LayoutGrant.{LayoutGrant}
use Rattle.client_mds_calls.specs.declared.ask.MdsAsk.{MdsAsk}
use Rattle.client_mds_calls.specs.declared.ask.MdsAsk.TheVariants as ask
use Rattle.client_mds_calls.specs.declared.reply.SlotReport.{SlotReport}
use Rattle.client_mds_calls.specs.declared.reply.SlotReport.TheVariants.{Taken, Uncached, Delayed, Unknown}
use Rattle.client_mds_calls.specs.MdsCalls.{MdsCallValue}
use Rattle.client_mds_calls.specs.MdsCompounds.{mds_call_bytes}
use Rattle.client_mds_calls.specs.MdsReplies.{MdsAnswerValue, Client, Session, Complete, Opened, Granted, Devices, Written, Bytes, Returned, Renewed, Refused, MdsReplyValue, reply_of_ask}
use Rattle.client_state.specs.declared.stage.LayoutStage.TheVariants.{Writing}
use Rattle.client_state.specs.declared.request.UserRequest.{UserRequest}
use Rattle.client_state.specs.declared.request.UserRequest.TheVariants.{Write, Through, Read}
use Rattle.client_state.specs.declared.layout.Layout.{Layout}
use Rattle.client_state.specs.declared.asked.Asked.{Asked}
use Rattle.client_state.specs.declared.tie.OwnSession.{OwnSession}
use Rattle.client_state.specs.declared.tie.Tie.{Tie}
use Rattle.client_state.specs.declared.tie.Tie.TheVariants.{HasClient, HasSession}
use Rattle.client_state.specs.ClientStates.{ClientValue, as_new}
use Rattle.client_state.specs.ClientQueue.{with_layout, with_writer, ending, is_past, opens_by, unknown_in, without_commit}
use Rattle.client_state.specs.ClientSends.{CallsServer, CallsMds, RepeatsToServer, RepeatsToMds, RepliesToMds}
use Rattle.client_calls.specs.ClientCalls.{xid_after, is_ending, is_settled, call_by_ask, asked_by}
use Rattle.client_answers.specs.ClientMirrors.{tells, tells_covered, with_failed, has_writer}
use Rattle.client_answers.specs.ClientAnswers.{moved_tie, without_head, fresh_session, completed_tie, new_layout, learns_devices, has_session, deferred, is_for_later}
use Rattle.mirror_client.specs.ClientRule.{with_request, client_at_tick, turned, mirror_of_place}
use Rattle.client_laws.specs.ClientHistory.{ClientInput, Requested, Recorded, TimeoutOf, LeftProtocol, Strayed, HistoryItem, Hears, Enters, Sends, entered}
use Rattle.client_records.proofs.Joins.{RunKeeps}

-- ---- what the head wants

-- a write through the metadata server that is within a file is at the head
abbrev pub HeadThrough : Option OpenFile → List UserRequest → Type 0
HeadThrough (Some file) (Through at bytes ∷ rest) = is_past at bytes ≡ false
HeadThrough file queue = ⊥

-- so many addresses are not known
abbrev pub IsCounted : List (DeviceId × NetAddr) → ℕ → Option Layout → Type 0
IsCounted devices count None = Unit {0}
IsCounted devices count (Some l) = count ≡ length (unknown_in devices l.mirrors)

-- the head wants this asked
abbrev pub Wants : Option OpenFile → List UserRequest → Option Layout → Tie → List (DeviceId × NetAddr) → MdsAsk → Type 0
Wants file queue layout tie devices ask.ExchangeId = (file ≡ None) × (opens_by tie ≡ ask.ExchangeId)
Wants file queue layout tie devices ask.CreateSession = (file ≡ None) × (opens_by tie ≡ ask.CreateSession)
Wants file queue layout tie devices ask.ReclaimComplete = (file ≡ None) × (opens_by tie ≡ ask.ReclaimComplete)
Wants file queue layout tie devices ask.Open = (file ≡ None) × (opens_by tie ≡ ask.Open)
Wants file queue layout tie devices ask.LayoutGet = layout ≡ None
Wants file queue layout tie devices (ask.DeviceInfo count) = IsCounted devices count layout
Wants file queue layout tie devices ask.Write = HeadThrough file queue
Wants file queue layout tie devices (ask.Read at count) = (rest : List UserRequest) × (queue ≡ Read at count ∷ rest)
Wants file queue layout tie devices ask.LayoutReturn = ⊥
Wants file queue layout tie devices ask.Renew = ⊥

-- why a compound goes out
pub data IsDue (c : ClientValue) (kind : MdsAsk) : Type 0 where
  Anew : c.again ≡ Some kind → IsDue c kind
  Returns : (l : Layout) → c.layout ≡ Some l → is_ending l.stage ≡ true → is_settled l.writer ≡ true → kind ≡ ask.LayoutReturn → IsDue c kind
  ByHead : Wants c.file c.queue c.layout c.tie c.devices kind → IsDue c kind
  Renews : kind ≡ ask.Renew → IsDue c kind

-- the head may be done: a write through the metadata server only where it is refused
abbrev pub MayBeDone : Option OpenFile → UserRequest → Type 0
MayBeDone (Some file) (Through at bytes) = is_past at bytes ≡ true
MayBeDone file request = Unit {0}

-- a write is taken
pub record IsTaking (c : ClientValue) (file : OpenFile) (l : Layout) (at : ℕ) (bytes : List ℕ) (rest : List UserRequest) : Type 0 where
  pub stays : c.has_left ≡ false
  pub queue : c.queue ≡ Write at bytes ∷ rest
  pub file_is : c.file ≡ Some file
  pub layout : c.layout ≡ Some l
  pub stage : l.stage ≡ Writing
  pub within : is_past at bytes ≡ false
  pub free : overlaps_taken l.writer at (length bytes) ≡ false

-- ---- a reply of the metadata server

abbrev pub heard_mds : List HistoryItem → List ℕ → ℕ → List HistoryItem
heard_mds h bytes now = h ++ Hears (Recorded Mds bytes now) ∷ []

-- it is heard, under the number of the compound that is out
pub record IsAnswered (B : List HistoryItem → ClientValue → Type 0) (Q : ClientInput → Type 0) (h : List HistoryItem) (c : ClientValue) (a : Asked) (bytes : List ℕ) (now : ℕ) (reply : RpcReply) : Type 0 where
  pub base : B h c
  pub input : Q (Recorded Mds bytes now)
  pub stays : c.has_left ≡ false
  pub out : c.asked ≡ Some a
  pub reply_is : reply_at bytes ≡ Ok reply
  pub number : a.xid ≡ reply.xid

abbrev pub said : Asked → RpcReply → MdsReplyValue
said a reply = reply_of_ask a.ask reply

-- how the client stands on its slot behind it, where what was asked is done or refused
abbrev pub IsTieBehind : ℕ → SlotReport → Tie → Tie → Type 0
IsTieBehind now Taken old new = new ≡ moved_tie now old
IsTieBehind now Unknown old new = new ≡ old
IsTieBehind now Uncached old new = ⊥
IsTieBehind now Delayed old new = ⊥

-- nothing is out any more
abbrev pub free : Tie → ClientValue → ClientValue
free tie c = record c { tie = tie; asked = None }

abbrev pub OnAnswer : (List HistoryItem → ClientValue → Type 0) → (ClientInput → Type 0) → (List HistoryItem → ClientValue → Type 0)
    → (List HistoryItem → ClientValue → Asked → List ℕ → ℕ → RpcReply → Tie → Type 0) → Type 0
OnAnswer B Q I X =
    (h : List HistoryItem) (c : ClientValue) (a : Asked) (bytes : List ℕ) (now : ℕ) (reply : RpcReply) (tie : Tie)
    → IsAnswered B Q h c a bytes now reply → IsTieBehind now (said a reply).slot c.tie tie → I h c → X h c a bytes now reply tie

-- the request at the head is dropped, or none is
abbrev pub Shortens : List UserRequest → List UserRequest → Type 0
Shortens new old = (new ≡ old) ⊎ (new ≡ drop 1 old)

-- an answer that leaves the client as it is
abbrev pub IsIdle : MdsAnswerValue → Type 0
IsIdle Returned = Unit {0}
IsIdle Renewed = Unit {0}
IsIdle answer = ⊥

-- one that takes the head off the queue, and does nothing else
abbrev pub IsServed : MdsAnswerValue → Type 0
IsServed Written = Unit {0}
IsServed (Bytes eof bytes) = Unit {0}
IsServed answer = ⊥

-- the client is as new: its session is gone, or it had none so far
abbrev pub StartsOver : MdsReplyValue → Tie → Type 0
StartsOver says tie = (says.answer ≡ Refused 10052) ⊎ ((status : ℕ) × (says.answer ≡ Refused status) × (has_session tie ≡ false))

-- a refusal that leaves it its session, or comes for later
abbrev pub IsRefused : MdsReplyValue → Tie → ℕ → Type 0
IsRefused says tie status = (says.answer ≡ Refused status) × ((status == 10052) ≡ false) × ((is_for_later status ≡ true) ⊎ (has_session tie ≡ true))

-- the layout behind it
abbrev pub IsLayoutBehind : MdsAsk → Option Layout → Option Layout → Type 0
IsLayoutBehind kind old new = (new ≡ old) ⊎ ((kind ≡ ask.LayoutReturn) × (new ≡ deferred old))

-- ---- a data server's reply, and a timeout of the call to it

pub record IsDsAnswered (B : List HistoryItem → ClientValue → Type 0) (Q : ClientInput → Type 0) (I : List HistoryItem → ClientValue → Type 0) (h : List HistoryItem) (c : ClientValue) (file : OpenFile) (l : Layout) (server : ℕ) (bytes : List ℕ) (now : ℕ) (reply : RpcReply) (out : OutCall) : Type 0 where
  pub base : B h c
  pub was : I h c
  pub input : Q (Recorded (Server server) bytes now)
  pub stays : c.has_left ≡ false
  pub file_is : c.file ≡ Some file
  pub layout : c.layout ≡ Some l
  pub out_is : out_at l.writer server ≡ Some out
  pub reply_is : reply_at bytes ≡ Ok reply
  pub number : out.xid ≡ reply.xid

pub record IsLate (B : List HistoryItem → ClientValue → Type 0) (I : List HistoryItem → ClientValue → Type 0) (h : List HistoryItem) (c : ClientValue) (file : OpenFile) (l : Layout) (server : ℕ) (out : OutCall) : Type 0 where
  pub base : B h c
  pub was : I h c
  pub stays : c.has_left ≡ false
  pub file_is : c.file ≡ Some file
  pub layout : c.layout ≡ Some l
  pub out_is : out_at l.writer server ≡ Some out

abbrev pub heard_server : List HistoryItem → ℕ → List ℕ → ℕ → List HistoryItem
heard_server h server bytes now = h ++ Hears (Recorded (Server server) bytes now) ∷ []

abbrev pub heard_late : List HistoryItem → ℕ → List HistoryItem
heard_late h server = h ++ Hears (TimeoutOf (Server server)) ∷ []

-- the layout's writer becomes this by one of both
pub data ComesTo (B : List HistoryItem → ClientValue → Type 0) (Q : ClientInput → Type 0) (I : List HistoryItem → ClientValue → Type 0) (past : List HistoryItem) (c : ClientValue) (file : OpenFile) (l : Layout) (after : WriterAfter) : Type 0 where
  ByReply : (h : List HistoryItem) (server : ℕ) (bytes : List ℕ) (now : ℕ) (reply : RpcReply) (out : OutCall) → IsDsAnswered B Q I h c file l server bytes now reply out
      → past ≡ heard_server h server bytes now → after ≡ after_reply l.writer reply.xid (reply_of_call out.call reply) → ComesTo B Q I past c file l after
  ByTimeout : (h : List HistoryItem) (server : ℕ) (out : OutCall) → IsLate B I h c file l server out
      → past ≡ heard_late h server ++ Enters (TimedOut (AClient c.number) out.xid) ∷ [] → after ≡ after_timeout l.writer out.xid → ComesTo B Q I past c file l after

-- by what follows from what was kept
pub comes_by : (B : List HistoryItem → ClientValue → Type 0) (Q : ClientInput → Type 0) (I J : List HistoryItem → ClientValue → Type 0) → ((h : List HistoryItem) (c : ClientValue) → I h c → J h c) → (past : List HistoryItem) (c : ClientValue) (file : OpenFile) (l : Layout) (after : WriterAfter)
    → ComesTo B Q I past c file l after → ComesTo B Q J past c file l after
comes_by B Q I J its past c file l after (ByReply h server bytes now reply out s past_is is) =
    ByReply h server bytes now reply out
    (record { base = s.base; was = its h c s.was; input = s.input; stays = s.stays; file_is = s.file_is; layout = s.layout; out_is = s.out_is; reply_is = s.reply_is; number = s.number }) past_is is
comes_by B Q I J its past c file l after (ByTimeout h server out s past_is is) = ByTimeout h server out (record { base = s.base; was = its h c s.was; stays = s.stays; file_is = s.file_is; layout = s.layout; out_is = s.out_is }) past_is is

pub comes_layout : (B : List HistoryItem → ClientValue → Type 0) (Q : ClientInput → Type 0) (I : List HistoryItem → ClientValue → Type 0) (past : List HistoryItem) (c : ClientValue) (file : OpenFile) (l : Layout) (after : WriterAfter) → ComesTo B Q I past c file l after → c.layout ≡ Some l
comes_layout B Q I past c file l after (ByReply h server bytes now reply out s past_is is) = s.layout
comes_layout B Q I past c file l after (ByTimeout h server out s past_is is) = s.layout

-- no mirror is found to have failed, and the layout is not lost
abbrev pub IsQuietStep : WriterStep → Type 0
IsQuietStep step.Stranger = Unit {0}
IsQuietStep step.Waiting = Unit {0}
IsQuietStep step.Committed = Unit {0}
IsQuietStep (step.Failed id cause) = ⊥
IsQuietStep (step.Fenced id status) = ⊥

-- ---- a callback

-- the record is a call of this number
abbrev pub IsCallOf : Result RpcCall CallFault → ℕ → Type 0
IsCallOf (Ok call) xid = call.xid ≡ xid
IsCallOf (Err (RpcVersion number)) xid = number ≡ xid
IsCallOf (Err (Bad number e)) xid = number ≡ xid
IsCallOf (Err NotACall) xid = ⊥

-- ---- a write that strays

pub record IsStraying (c : ClientValue) (file : OpenFile) (l : Layout) (place : ℕ) (m : Mirror) : Type 0 where
  pub file_is : c.file ≡ Some file
  pub layout : c.layout ≡ Some l
  pub unsent : l.was_sent ≡ false
  pub left : c.next_xid ≢ 0
  pub there : mirror_of_place l.mirrors place ≡ Some m

-- ---- the cases

-- an item is so, and it is kept behind it
abbrev pub Adds : (List HistoryItem → ClientValue → Type 0) → (List HistoryItem → HistoryItem → Type 0) → List HistoryItem → HistoryItem → ClientValue → Type 0
Adds I P past item d = P past item × I (past ++ item ∷ []) d

-- the client does not leave the protocol by it
abbrev pub IsStaying : ClientInput → Type 0
IsStaying LeftProtocol = ⊥
IsStaying input = Unit {0}

-- B holds before each input, and Q of each input
pub record Cases (B : List HistoryItem → ClientValue → Type 0) (Q : ClientInput → Type 0) (I : List HistoryItem → ClientValue → Type 0) (P : List HistoryItem → HistoryItem → Type 0) : Type 0 where
  -- what is heard by itself
  pub heard : (past : List HistoryItem) (input : ClientInput) → P past (Hears input)
  pub hears : (h : List HistoryItem) (c : ClientValue) (input : ClientInput) → IsStaying input → Q input → I h c → I (h ++ Hears input ∷ []) c
  pub requests : (h : List HistoryItem) (c : ClientValue) (request : UserRequest) → Q (Requested request) → I h c → I (h ++ Hears (Requested request) ∷ []) (with_request request c)
  pub leaves : (h : List HistoryItem) (c : ClientValue) → I h c → I (h ++ Hears LeftProtocol ∷ []) (turned c)
  pub ticks : (past : List HistoryItem) (c : ClientValue) → I past c → I past (client_at_tick c)
  -- the user is answered
  pub answers : (past : List HistoryItem) (c : ClientValue) (a : UserAnswer) (answers : List UserAnswer) (told : ℕ) → I past c → Adds I P past (Enters (Answer c.number a)) (record c { answers = answers; told = told })
  -- the queue
  pub done : (past : List HistoryItem) (c : ClientValue) (request : UserRequest) (rest : List UserRequest) → c.queue ≡ request ∷ rest → MayBeDone c.file request → I past c → I past (record c { queue = rest; waits = false })
  pub takes : (past : List HistoryItem) (c : ClientValue) (file : OpenFile) (l : Layout) (at : ℕ) (bytes : List ℕ) (rest : List UserRequest) → IsTaking c file l at bytes rest → I past c
      → Adds I P past (Enters (Sent file.file (record { 0 = l.writer.cred }) at bytes))
      (record c { queue = rest; waits = false; layout = Some (record l { writer = with_write l.writer at bytes; untold = l.untold ++ length l.writer.taken ∷ [] }) })
  pub ends : (past : List HistoryItem) (c : ClientValue) (l : Layout) → c.layout ≡ Some l → I past c → I past (with_layout c (ending l))
  pub commits : (past : List HistoryItem) (c : ClientValue) (l : Layout) → c.layout ≡ Some l → I past c → I past (with_layout c (with_writer l (commit_wanted l.writer)))
  -- calls go out
  pub calls : (past : List HistoryItem) (c : ClientValue) (l : Layout) (s : WriterSends) → c.layout ≡ Some l → c.next_xid ≢ 0 → next_sent l.writer c.next_xid ≡ Some s → I past c
      → Adds I P past (Sends (CallsServer s.id.server c.next_xid c.name l.writer.cred s.call)) (record c { layout = Some (record l { writer = s.writer }); next_xid = xid_after c.next_xid })
  pub asks : (past : List HistoryItem) (c : ClientValue) (kind : MdsAsk) (call : MdsCallValue) → c.asked ≡ None → c.next_xid ≢ 0 → IsDue c kind → call_by_ask c kind ≡ Some call → I past c
      → Adds I P past (Sends (CallsMds c.next_xid c.name call)) (asked_by c kind (mds_call_bytes c.next_xid c.name call))
  -- the metadata server answers
  pub client : OnAnswer B Q I (λ h c a bytes now reply tie. (clientid sequence : ℕ) → (said a reply).answer ≡ Client clientid sequence → I (heard_mds h bytes now) (record (free tie c) { tie = HasClient clientid sequence }))
  pub session : OnAnswer B Q I (λ h c a bytes now reply tie. (session : SessionId) → (said a reply).answer ≡ Session session → I (heard_mds h bytes now) (record (free tie c) { tie = HasSession (fresh_session session) }))
  pub complete : OnAnswer B Q I (λ h c a bytes now reply tie. (said a reply).answer ≡ Complete → I (heard_mds h bytes now) (record (free tie c) { tie = completed_tie tie }))
  pub opened : OnAnswer B Q I (λ h c a bytes now reply tie. (file : OpenFile) → (said a reply).answer ≡ Opened file → I (heard_mds h bytes now) (record (without_head (free tie c)) { file = Some file }))
  pub granted : OnAnswer B Q I (λ h c a bytes now reply tie. (grant : LayoutGrant) → (said a reply).answer ≡ Granted grant → I (heard_mds h bytes now) (record (free tie c) { layout = Some (new_layout grant) }))
  pub learns : OnAnswer B Q I (λ h c a bytes now reply tie. (addresses : List NetAddr) → (said a reply).answer ≡ Devices addresses → I (heard_mds h bytes now) (learns_devices c.layout addresses (free tie c)))
  pub served : OnAnswer B Q I (λ h c a bytes now reply tie. IsServed (said a reply).answer → I (heard_mds h bytes now) (without_head (free tie c)))
  pub idle : OnAnswer B Q I (λ h c a bytes now reply tie. IsIdle (said a reply).answer → I (heard_mds h bytes now) (free tie c))
  pub returned : OnAnswer B Q I (λ h c a bytes now reply tie. (file : OpenFile) (l : Layout) → (said a reply).answer ≡ Returned → c.file ≡ Some file → c.layout ≡ Some l
      → RunKeeps I P (heard_mds h bytes now) (tells file l.writer l.untold (record (free tie c) { layout = None })))
  pub refused : OnAnswer B Q I (λ h c a bytes now reply tie. (status : ℕ) (queue : List UserRequest) (waits : Bool) (layout : Option Layout) → IsRefused (said a reply) tie status → Shortens queue c.queue
      → IsLayoutBehind a.ask c.layout layout → I (heard_mds h bytes now) (record (free tie c) { queue = queue; waits = waits; layout = layout }))
  -- the layout was taken away
  pub gone : OnAnswer B Q I (λ h c a bytes now reply tie. (status : ℕ) → (said a reply).answer ≡ Refused status → (status == 10025) ≡ true → a.ask ≡ ask.LayoutReturn
      → I (heard_mds h bytes now) (record (free tie c) { layout = None; queue = without_commit c.queue }))
  pub starts_over : OnAnswer B Q I (λ h c a bytes now reply tie. (queue : List UserRequest) → StartsOver (said a reply) tie → Shortens queue c.queue → I (heard_mds h bytes now) (as_new (record (free tie c) { queue = queue })))
  pub again : (h : List HistoryItem) (c : ClientValue) (a : Asked) (bytes : List ℕ) (now : ℕ) (reply : RpcReply) → IsAnswered B Q h c a bytes now reply → (said a reply).slot ≡ Uncached → I h c
      → I (heard_mds h bytes now) (record c { tie = moved_tie now c.tie; asked = None; again = Some a.ask })
  pub delays : (h : List HistoryItem) (c : ClientValue) (a : Asked) (bytes : List ℕ) (now : ℕ) (reply : RpcReply) → IsAnswered B Q h c a bytes now reply → (said a reply).slot ≡ Delayed → I h c
      → I (heard_mds h bytes now) (record c { asked = Some (record a { is_late = true }) })
  -- the record waits for the tick no longer, and goes out again
  pub wakes : (past : List HistoryItem) (c : ClientValue) (a : Asked) → c.asked ≡ Some a → I past c → I past (record c { asked = Some (record a { is_late = false }) })
  pub repeats_mds : (past : List HistoryItem) (c : ClientValue) (a : Asked) → c.asked ≡ Some a → I past c → Adds I P past (Sends (RepeatsToMds a.xid a.message)) c
  -- a data server answers, or does not
  pub timed : (past : List HistoryItem) (c : ClientValue) (xid : ℕ) → I past c → Adds I P past (Enters (TimedOut (AClient c.number) xid)) c
  pub moves : (past : List HistoryItem) (c : ClientValue) (file : OpenFile) (l : Layout) (after : WriterAfter) → ComesTo B Q I past c file l after → IsQuietStep after.step → I past c → I past (has_writer c l after)
  pub covers : (past : List HistoryItem) (c : ClientValue) (file : OpenFile) (l : Layout) (after : WriterAfter) → ComesTo B Q I past c file l after → IsQuietStep after.step → I past (has_writer c l after)
      → RunKeeps I P past (tells_covered file (Some (with_writer l after.writer)) (has_writer c l after))
  pub fails : (past : List HistoryItem) (c : ClientValue) (file : OpenFile) (l : Layout) (after : WriterAfter) (id : MirrorId) (cause : LeftCause) → ComesTo B Q I past c file l after → after.step ≡ step.Failed id cause
      → has_no_mirror after.writer ≡ false → I past c → I past (with_layout c (ending (with_failed (with_writer l after.writer) id cause)))
  pub loses : (past : List HistoryItem) (c : ClientValue) (file : OpenFile) (l : Layout) (after : WriterAfter) (id : MirrorId) (cause : LeftCause) → ComesTo B Q I past c file l after → after.step ≡ step.Failed id cause
      → I past c → I past (record c { layout = Some (record (ending (with_failed (with_writer l after.writer) id cause)) { untold = [] }); queue = without_commit c.queue })
  pub fenced : (past : List HistoryItem) (c : ClientValue) (file : OpenFile) (l : Layout) (after : WriterAfter) (id : MirrorId) (status : ℕ) → ComesTo B Q I past c file l after → after.step ≡ step.Fenced id status
      → I past c → I past (record c { layout = None; queue = without_commit c.queue })
  pub repeats_server : (h : List HistoryItem) (c : ClientValue) (file : OpenFile) (l : Layout) (server : ℕ) (out : OutCall) → IsLate B I h c file l server out
      → (entries : List Entry) (d : ClientValue) → I (heard_late h server ++ entered entries) d → Adds I P (heard_late h server ++ entered entries) (Sends (RepeatsToServer server out.xid c.name l.writer.cred out.call)) d
  -- a callback
  pub callbacks : (past : List HistoryItem) (c : ClientValue) (s : OwnSession) (slot : CbSlotState) → c.tie ≡ HasSession s → I past c → I past (record c { tie = HasSession (record s { callbacks = slot }) })
  pub replies : (past : List HistoryItem) (d : ClientValue) (bytes : List ℕ) (now : ℕ) (reply : RpcReply) → Q (Recorded Mds bytes now) → IsCallOf (call_at bytes) reply.xid → I past d → Adds I P past (Sends (RepliesToMds reply)) d
  -- a client that left the protocol
  pub strays : (past : List HistoryItem) (c : ClientValue) (file : OpenFile) (l : Layout) (place at : ℕ) (bytes : List ℕ) (m : Mirror) → Q (Strayed place at bytes) → IsStraying c file l place m → I past c
      → P past (Enters (Rogue file.file (record { 0 = l.writer.cred }) at bytes))
      × Adds I P (past ++ Enters (Rogue file.file (record { 0 = l.writer.cred }) at bytes) ∷ []) (Sends (CallsServer m.id.server c.next_xid c.name l.writer.cred (ds.Write m.id.fileid at false bytes))) (record c { next_xid = xid_after c.next_xid })
