-- What a client sends at the end of an event: first the calls to data servers, by the place of the mirror in the layout, then a
-- compound to the metadata server.
use Rattle.std.specs.Prelude.{ℕ, ◌+◌, Bool, true, false, ◌&&◌, ◌||◌, not, ◌==◌, List, [], ◌∷◌, ◌++◌, Option, Some, None, if◌then◌else◌}
use Rattle.std.specs.Option.{option_or}
use Rattle.cluster_model.specs.declared.ids.Mirror.{Mirror}
use Rattle.mirror_writer.specs.Writers.{WriterValue, WriterSends, next_sent, rest_committed}
use Rattle.client_file_calls.specs.declared.open.OpenFile.{OpenFile}
use Rattle.client_file_calls.specs.declared.layout_return.FailedMirror.{FailedMirror}
use Rattle.client_mds_calls.specs.declared.ask.MdsAsk.{MdsAsk}
use Rattle.client_mds_calls.specs.declared.ask.MdsAsk.TheVariants as ask
use Rattle.client_mds_calls.specs.MdsCalls.{SlotCallValue, ReclaimComplete, LayoutGet, DeviceInfo, LayoutReturn, Renew, MdsCallValue, ExchangeId, CreateSession, OnSlot}
use Rattle.client_mds_calls.specs.MdsCalls as slot
use Rattle.client_mds_calls.specs.MdsCompounds.{mds_call_bytes}
use Rattle.client_state.specs.declared.stage.LayoutStage.{LayoutStage}
use Rattle.client_state.specs.declared.stage.LayoutStage.TheVariants.{Writing, Ending, Deferred, Returning}
use Rattle.client_state.specs.declared.request.UserRequest.{UserRequest}
use Rattle.client_state.specs.declared.tie.Tie.{Tie}
use Rattle.client_state.specs.declared.layout.Layout.{Layout}
use Rattle.client_state.specs.declared.asked.Asked.{Asked}
use Rattle.client_state.specs.declared.request.UserRequest.TheVariants.{Open, Through}
use Rattle.client_state.specs.declared.tie.Tie.TheVariants.{HasClient, HasSession}
use Rattle.client_state.specs.ClientStates.{ClientValue}
use Rattle.client_state.specs.ClientQueue.{unknown_servers, run_queue}
use Rattle.client_state.specs.ClientSends.{CallsServer, CallsMds, ClientStep, sends_none, and_then, run_then}
use Rattle.mirror_writer.specs.Outstanding.{has_no_mirror}

-- the number behind a call's; 0 behind the last, so that none is left
abbrev pub xid_after : ℕ → ℕ
xid_after xid = if xid == 4294967295 then 0 else xid + 1

-- ---- calls to data servers

abbrev pub calls_next : ClientValue → Layout → Option WriterSends → ClientStep
calls_next c l None = sends_none c
calls_next c l (Some s) = record {
  client = record c { layout = Some (record l { writer = s.writer }); next_xid = xid_after c.next_xid };
  entries = [];
  sends = CallsServer s.id.server c.next_xid c.name l.writer.cred s.call ∷ [];
}

abbrev pub calls_under : ClientValue → Option Layout → ClientStep
calls_under c None = sends_none c
calls_under c (Some l) = calls_next c l (next_sent l.writer c.next_xid)

-- a call to the first mirror to which one waits; none without a number
abbrev pub calls_mirror : ClientValue → ClientStep
calls_mirror c = if c.next_xid == 0 then sends_none c else calls_under c c.layout

-- a layout has at most four mirrors
abbrev pub calls_two : ClientValue → ClientStep
calls_two c = and_then (calls_mirror c) calls_mirror

abbrev pub calls_mirrors : ClientValue → ClientStep
calls_mirrors c = and_then (calls_two c) calls_two

-- ---- which compound goes out

-- LAYOUTRETURN is due once each mirror that has not failed is committed, or every mirror failed
abbrev pub is_ending : LayoutStage → Bool
is_ending Writing = false
is_ending Ending = true
is_ending Deferred = false
is_ending Returning = false

abbrev pub is_settled : WriterValue → Bool
is_settled w = rest_committed w || has_no_mirror w

abbrev pub return_ask : Option Layout → Option MdsAsk
return_ask None = None
return_ask (Some l) = if is_ending l.stage && is_settled l.writer then Some ask.LayoutReturn else None

-- what goes out anew comes first, then the layout's return, then what the head wants, which is nothing while the client waits for a tick
abbrev pub due_ask : Option MdsAsk → ClientValue → Option MdsAsk
due_ask wants c = option_or c.again (option_or (return_ask c.layout) (if c.waits then None else wants))

-- ---- the compound

-- the mirrors that failed, in the layout's order
abbrev pub failed_at : ℕ → Option ℕ → List FailedMirror
failed_at server None = []
failed_at server (Some status) = record { server = server; status = status } ∷ []

abbrev pub failed_mirrors : List Mirror → List (Option ℕ) → List FailedMirror
failed_mirrors (m ∷ mirrors) (status ∷ statuses) = failed_at m.id.server status ++ failed_mirrors mirrors statuses
failed_mirrors mirrors statuses = []

abbrev pub open_call : List UserRequest → Option SlotCallValue
open_call (Open name ∷ rest) = Some (slot.Open name)
open_call queue = None

abbrev pub through_call : OpenFile → List UserRequest → Option SlotCallValue
through_call file (Through at bytes ∷ rest) = Some (slot.Write file at bytes)
through_call file queue = None

abbrev pub devices_call : ClientValue → Option Layout → Option SlotCallValue
devices_call c None = None
devices_call c (Some l) = Some (DeviceInfo (unknown_servers c l))

abbrev pub return_call : OpenFile → Option Layout → Option SlotCallValue
return_call file None = None
return_call file (Some l) = Some (LayoutReturn file.file l.stateid (failed_mirrors l.mirrors l.statuses))

-- a request for an open file
abbrev pub file_call : ClientValue → Option OpenFile → MdsAsk → Option SlotCallValue
file_call c None kind = None
file_call c (Some file) ask.LayoutGet = Some (LayoutGet file)
file_call c (Some file) (ask.DeviceInfo count) = devices_call c c.layout
file_call c (Some file) ask.Write = through_call file c.queue
file_call c (Some file) (ask.Read at count) = Some (slot.Read file at count)
file_call c (Some file) ask.LayoutReturn = return_call file c.layout
file_call c (Some file) kind = None

abbrev pub slot_call : ClientValue → MdsAsk → Option SlotCallValue
slot_call c ask.ReclaimComplete = Some ReclaimComplete
slot_call c ask.Open = open_call c.queue
slot_call c ask.Renew = Some Renew
slot_call c kind = file_call c c.file kind

abbrev pub on_slot : Tie → Option SlotCallValue → Option MdsCallValue
on_slot (HasSession s) (Some call) = Some (OnSlot s.id s.next call)
on_slot tie call = None

abbrev pub session_call : Tie → Option MdsCallValue
session_call (HasClient clientid sequence) = Some (CreateSession clientid sequence)
session_call tie = None

abbrev pub call_by_ask : ClientValue → MdsAsk → Option MdsCallValue
call_by_ask c ask.ExchangeId = Some (ExchangeId c.verifier)
call_by_ask c ask.CreateSession = session_call c.tie
call_by_ask c kind = on_slot c.tie (slot_call c kind)

-- a LAYOUTRETURN is outstanding from now on
abbrev pub returning : Option Layout → Option Layout
returning None = None
returning (Some l) = Some (record l { stage = Returning; was_sent = true })

abbrev pub layout_asked : MdsAsk → Option Layout → Option Layout
layout_asked ask.LayoutReturn layout = returning layout
layout_asked kind layout = layout

-- it is outstanding from now on, under the next number, with its record
abbrev pub asked_by : ClientValue → MdsAsk → List ℕ → ClientValue
asked_by c kind message = record c {
  next_xid = xid_after c.next_xid;
  asked = Some (record { xid = c.next_xid; ask = kind; message = message; is_late = false });
  again = None;
  layout = layout_asked kind c.layout;
}

abbrev pub asks_as : ClientValue → MdsAsk → Option MdsCallValue → ClientStep
asks_as c kind None = sends_none c
asks_as c kind (Some call) = record {
  client = asked_by c kind (mds_call_bytes c.next_xid c.name call);
  entries = [];
  sends = CallsMds c.next_xid c.name call ∷ [];
}

abbrev pub asks : ClientValue → Option MdsAsk → ClientStep
asks c None = sends_none c
asks c (Some kind) = asks_as c kind (call_by_ask c kind)

-- one compound is outstanding at a time, and none goes out without a number
abbrev pub may_ask : ClientValue → Option Asked → Bool
may_ask c None = not (c.next_xid == 0)
may_ask c (Some asked) = false

abbrev pub calls_mds : Option MdsAsk → ClientValue → ClientStep
calls_mds wants c = if may_ask c c.asked then asks c (due_ask wants c) else sends_none c

-- ---- the end of an event

abbrev pub calls_all : Option MdsAsk → ClientValue → ClientStep
calls_all wants c = and_then (calls_mirrors c) (calls_mds wants)

-- The queue is run, and then the calls go out.
abbrev pub ends_event : ClientValue → ClientStep
ends_event c = let q = run_queue c in run_then q.run (calls_all q.wants)
