-- The rule of a client of the cluster: what each event leaves of it, what it enters into the journal, and what it sends.
use Rattle.std.specs.Prelude.{ℕ, ◌+◌, ◌-◌, Bool, true, false, ◌&&◌, ◌||◌, ◌==◌, nat_le, List, [], ◌∷◌, ◌++◌, Option, Some, None, Result, Ok, Err, if◌then◌else◌, slice_get}
use Rattle.mirror_client.specs.declared.events.TheConstants.{RENEWAL}
use Rattle.ff_xdr.specs.declared.error.XdrError.{XdrError}
use Rattle.rpc_record.specs.Calls.{call_at}
use Rattle.rpc_record.specs.Replies.{RpcReply, reply_at}
use Rattle.cluster_model.specs.declared.ids.NodeId.{NodeId}
use Rattle.cluster_model.specs.declared.ids.NodeId.TheVariants.{Mds, Server, Client}
use Rattle.cluster_model.specs.declared.entry.Entry.TheVariants.{TimedOut, Rogue}
use Rattle.cluster_model.specs.declared.ids.Mirror.{Mirror}
use Rattle.cluster_model.specs.DsCalls.{DsCallValue, DsReplyValue}
use Rattle.cluster_model.specs.DsCalls as ds
use Rattle.ds_calls.specs.GivenReplies.{reply_of_call}
use Rattle.client_file_calls.specs.declared.open.OpenFile.{OpenFile}
use Rattle.client_mds_calls.specs.declared.ask.MdsAsk.{MdsAsk}
use Rattle.client_mds_calls.specs.declared.ask.MdsAsk.TheVariants as ask
use Rattle.client_mds_calls.specs.MdsReplies.{MdsReplyValue, reply_of_ask}
use Rattle.client_state.specs.declared.stage.LayoutStage.{LayoutStage}
use Rattle.client_state.specs.declared.stage.LayoutStage.TheVariants.{Ending, Deferred}
use Rattle.client_state.specs.declared.request.UserRequest.{UserRequest}
use Rattle.client_state.specs.declared.tie.Tie.{Tie}
use Rattle.client_state.specs.declared.layout.Layout.{Layout}
use Rattle.client_state.specs.declared.asked.Asked.{Asked}
use Rattle.client_state.specs.declared.tie.Tie.TheVariants.{HasSession}
use Rattle.client_state.specs.ClientStates.{ClientValue}
use Rattle.mirror_writer.specs.Outstanding.{OutCall, out_at}
use Rattle.client_answers.specs.ClientMirrors.{ds_answered, ds_timed_out}
use Rattle.client_state.specs.ClientSends.{CallsServer, RepeatsToMds, RepliesToMds, ClientStep, sends_none, and_then, run_then}
use Rattle.client_calls.specs.ClientCalls.{asks, may_ask, ends_event, xid_after}
use Rattle.client_answers.specs.ClientAnswers.{mds_answered}
use Rattle.client_callbacks.specs.Callbacks.{CbReply, callback_of}

-- an event of a client that has not left the protocol
abbrev pub unless_left : ClientValue → ClientStep → ClientStep
unless_left c step = if c.has_left then sends_none c else step

-- ---- a request of the user

abbrev pub with_request : UserRequest → ClientValue → ClientValue
with_request request c = record c { queue = c.queue ++ request ∷ [] }

abbrev pub client_requested : UserRequest → ClientValue → ClientStep
client_requested request c = unless_left c (ends_event (with_request request c))

-- ---- a reply

-- to the compound that is outstanding; what it says goes by what was asked
abbrev pub mds_replied : Option Asked → ℕ → (MdsAsk → MdsReplyValue) → ℕ → ClientValue → ClientStep
mds_replied None xid reply now c = sends_none c
mds_replied (Some asked) xid reply now c =
    if asked.xid == xid then run_then (mds_answered asked.ask (reply asked.ask) now c) ends_event else sends_none c

-- to a call that is outstanding at this data server
abbrev pub ds_replied : ℕ → ℕ → (DsCallValue → DsReplyValue) → ClientValue → ClientStep
ds_replied server xid reply c = run_then (ds_answered server xid reply c) ends_event

-- a reply counts from the node that was called alone
abbrev pub replied : NodeId → RpcReply → ℕ → ClientValue → ClientStep
replied Mds reply now c = mds_replied c.asked reply.xid (λ kind. reply_of_ask kind reply) now c
replied (Server server) reply now c = ds_replied server reply.xid (λ call. reply_of_call call reply) c
replied (Client number) reply now c = sends_none c

-- ---- a timeout

-- the same record goes to the metadata server again
abbrev pub mds_timed_out : Option Asked → ClientValue → ClientStep
mds_timed_out None c = sends_none c
mds_timed_out (Some asked) c = record { client = c; entries = TimedOut (Client c.number) asked.xid ∷ []; sends = RepeatsToMds asked.xid asked.message ∷ [] }

abbrev pub timed_out_to : NodeId → ClientValue → ClientStep
timed_out_to Mds c = mds_timed_out c.asked c
timed_out_to (Server server) c = and_then (ds_timed_out server c) ends_event
timed_out_to (Client number) c = sends_none c

abbrev pub client_timed_out : NodeId → ClientValue → ClientStep
client_timed_out to c = unless_left c (timed_out_to to c)

-- the number of a compound, or of a call to a data server, that is outstanding
abbrev pub compound_number : Option Asked → Option ℕ
compound_number None = None
compound_number (Some asked) = Some asked.xid

abbrev pub ds_call_number : Option OutCall → Option ℕ
ds_call_number None = None
ds_call_number (Some out) = Some out.xid

-- a call to a data server is outstanding only where a file is open, under its layout
abbrev pub ds_outstanding : Option OpenFile → Option Layout → ℕ → Option ℕ
ds_outstanding (Some file) (Some l) server = ds_call_number (out_at l.writer server)
ds_outstanding file layout server = None

-- The number of the call that is outstanding at a node: a client has one at most at each, and none at another client.
abbrev pub outstanding_to : NodeId → ClientValue → Option ℕ
outstanding_to Mds c = compound_number c.asked
outstanding_to (Server server) c = ds_outstanding c.file c.layout server
outstanding_to (Client number) c = None

abbrev pub bears_number : ℕ → Option ℕ → Bool
bears_number xid None = false
bears_number xid (Some out) = out == xid

-- A call to this node timed out: without a number whichever is outstanding there, with one (RFC 5531, section 9) that call alone. One that
-- was answered since, or that was never made, is passed over.
abbrev pub client_late : NodeId → Option ℕ → ClientValue → ClientStep
client_late to None c = client_timed_out to c
client_late to (Some xid) c = if bears_number xid (outstanding_to to c) then client_timed_out to c else sends_none c

-- ---- a tick

-- what waited for the tick waits no longer
abbrev pub stage_after_tick : LayoutStage → LayoutStage
stage_after_tick Deferred = Ending
stage_after_tick stage = stage

abbrev pub layout_at_tick : Option Layout → Option Layout
layout_at_tick None = None
layout_at_tick (Some l) = Some (record l { stage = stage_after_tick l.stage })

abbrev pub client_at_tick : ClientValue → ClientValue
client_at_tick c = record c { waits = false; layout = layout_at_tick c.layout }

-- the record whose SEQUENCE was answered DELAY
abbrev pub resends_late : ClientValue → Option Asked → ClientStep
resends_late c None = sends_none c
resends_late c (Some asked) =
    if asked.is_late then record { client = record c { asked = Some (record asked { is_late = false }) }; entries = []; sends = RepeatsToMds asked.xid asked.message ∷ [] }
    else sends_none c

-- a SEQUENCE alone, 30 s after the last that was answered, where nothing else is outstanding
abbrev pub is_stale : ℕ → Option ℕ → Bool
is_stale now None = false
is_stale now (Some renewed) = nat_le (renewed + RENEWAL) now

abbrev pub is_stale_tie : ℕ → Tie → Bool
is_stale_tie now (HasSession s) = is_stale now s.renewed
is_stale_tie now tie = false

abbrev pub renews : ℕ → ClientValue → ClientStep
renews now c = if may_ask c c.asked && is_stale_tie now c.tie then asks c (Some ask.Renew) else sends_none c

abbrev pub ticks_on : ℕ → ClientValue → ClientStep
ticks_on now c = and_then (and_then (ends_event c) (λ d. resends_late d d.asked)) (renews now)

abbrev pub client_ticked : ℕ → ClientValue → ClientStep
client_ticked now c = unless_left c (ticks_on now (client_at_tick c))

-- ---- a client that leaves the protocol

abbrev pub turned : ClientValue → ClientValue
turned c = record c { has_left = true }

abbrev pub rogue_write : ClientValue → OpenFile → Layout → ℕ → List ℕ → Option Mirror → ClientStep
rogue_write c file l at bytes None = sends_none c
rogue_write c file l at bytes (Some m) = record {
  client = record c { next_xid = xid_after c.next_xid };
  entries = Rogue file.file (record { 0 = l.writer.cred }) at bytes ∷ [];
  sends = CallsServer m.id.server c.next_xid c.name l.writer.cred (ds.Write m.id.fileid at false bytes) ∷ [];
}

abbrev pub mirror_of_place : List Mirror → ℕ → Option Mirror
mirror_of_place mirrors place = if place == 0 then None else slice_get mirrors (place - 1)

-- It sends a WRITE to the mirror at this place of its layout, from 1, while no LAYOUTRETURN of it was sent.
abbrev pub strays : Option OpenFile → Option Layout → ℕ → ℕ → List ℕ → ClientValue → ClientStep
strays (Some file) (Some l) place at bytes c =
    if l.was_sent || (c.next_xid == 0) then sends_none c else rogue_write c file l at bytes (mirror_of_place l.mirrors place)
strays file layout place at bytes c = sends_none c

-- ---- a record

-- a callback is answered before the calls that it brings
abbrev pub answers_callback : CbReply → ClientStep
answers_callback k = let rest = ends_event k.client in
    record { client = rest.client; entries = rest.entries; sends = RepliesToMds k.reply ∷ rest.sends }

-- what is no reply in its form is passed over
abbrev pub found_reply : NodeId → Result RpcReply XdrError → ℕ → ClientValue → ClientStep
found_reply from (Ok reply) now c = replied from reply now c
found_reply from (Err e) now c = sends_none c

-- callbacks come from the metadata server alone
abbrev pub found_call : Option CbReply → List ℕ → ℕ → ClientValue → ClientStep
found_call (Some k) bytes now c = answers_callback k
found_call None bytes now c = found_reply Mds (reply_at bytes) now c

abbrev pub record_from : NodeId → List ℕ → ℕ → ClientValue → ClientStep
record_from Mds bytes now c = found_call (callback_of (call_at bytes) c) bytes now c
record_from (Server server) bytes now c = found_reply (Server server) (reply_at bytes) now c
record_from (Client number) bytes now c = sends_none c

abbrev pub client_recorded : NodeId → List ℕ → ℕ → ClientValue → ClientStep
client_recorded from bytes now c = unless_left c (record_from from bytes now c)
