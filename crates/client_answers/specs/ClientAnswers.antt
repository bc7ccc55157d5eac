-- What the answer to a compound comes to for a client (RFC 8881, sections 2.10.6, 18; RFC 8435, section 7).
use Rattle.std.specs.Prelude.{ℕ, Bool, true, false, ◌&&◌, ◌||◌, ◌==◌, List, [], ◌∷◌, ◌++◌, length, nat_lt, drop, replicate, Option, Some, None, if◌then◌else◌}
use Rattle.client_answers.specs.declared.answers.TheConstants.{BADSESSION, BAD_STATEID, DELAY, LAYOUTTRYLATER, RECALLCONFLICT}
use Rattle.nfs4_types.specs.declared.ids.SessionId.{SessionId}
use Rattle.nfs4_types.specs.declared.ids.DeviceId.{DeviceId}
use Rattle.nfs4_types.specs.Ids.{device_id_of}
use Rattle.nfs4_session.specs.CallbackSlot.{new_cb_slot}
use Rattle.nfs4_session.specs.Slots.{sequence_after}
use Rattle.device_addr.specs.declared.net_addr.NetAddr.{NetAddr}
use Rattle.cluster_model.specs.declared.answer.UserAnswer.TheVariants as answer
use Rattle.mirror_writer.specs.Writers.{new_writer}
use Rattle.client_file_calls.specs.declared.open.OpenFile.{OpenFile}
use Rattle.client_mds_calls.specs.declared.ask.MdsAsk.{MdsAsk}
use Rattle.client_mds_calls.specs.declared.ask.MdsAsk.TheVariants as ask
use Rattle.client_file_calls.specs.declared.grant.LayoutGrant.{LayoutGrant}
use Rattle.client_mds_calls.specs.declared.reply.SlotReport.{SlotReport}
use Rattle.client_mds_calls.specs.declared.reply.SlotReport.TheVariants.{Taken, Uncached, Delayed, Unknown}
use Rattle.client_mds_calls.specs.MdsReplies.{MdsAnswerValue, Client, Session, Complete, Opened, Granted, Devices, Written, Bytes, Returned, Renewed, Refused, MdsReplyValue}
use Rattle.client_state.specs.declared.stage.LayoutStage.TheVariants.{Writing, Deferred}
use Rattle.client_state.specs.declared.request.UserRequest.{UserRequest}
use Rattle.client_state.specs.declared.tie.OwnSession.{OwnSession}
use Rattle.client_state.specs.declared.tie.Tie.{Tie}
use Rattle.client_state.specs.declared.layout.Layout.{Layout}
use Rattle.client_state.specs.declared.asked.Asked.{Asked}
use Rattle.client_state.specs.declared.tie.Tie.TheVariants.{NoClient, HasClient, HasSession}
use Rattle.client_state.specs.ClientStates.{ClientValue, ClientRun, unmoved, ends_as, as_new, is_layout_return}
use Rattle.client_state.specs.ClientQueue.{answers_user, refuses_request, knows, unknown_servers, revoked_layout}
use Rattle.client_answers.specs.ClientMirrors.{tells}

-- ---- the slot

-- the request took effect: the next has the number behind it, and the lease is renewed
abbrev pub moved_session : ℕ → OwnSession → OwnSession
moved_session now s = record s { next = sequence_after s.next; renewed = Some now }

abbrev pub moved_tie : ℕ → Tie → Tie
moved_tie now (HasSession s) = HasSession (moved_session now s)
moved_tie now tie = tie

abbrev pub next_on_slot : ℕ → ClientValue → ClientValue
next_on_slot now c = record c { tie = moved_tie now c.tie }

-- ---- what was asked is done

-- the request at the head is answered
abbrev pub without_head : ClientValue → ClientValue
without_head c = record c { queue = drop 1 c.queue; waits = false }

abbrev pub opens_file : OpenFile → ClientValue → ClientRun
opens_file file c = answers_user (answer.Opened file.file) (record (without_head c) { file = Some file })

-- a new session: the first request on its slot has the number 1 (RFC 8881, section 2.10.6.1)
abbrev pub fresh_session : SessionId → OwnSession
fresh_session id = record { id = id; next = 1; is_complete = false; callbacks = new_cb_slot id; renewed = None }

abbrev pub completed_tie : Tie → Tie
completed_tie (HasSession s) = HasSession (record s { is_complete = true })
completed_tie tie = tie

abbrev pub new_layout : LayoutGrant → Layout
new_layout g = record { stateid = g.stateid; mirrors = g.mirrors; writer = new_writer g.mirrors g.uid.0; untold = []; statuses = replicate 4 None; stage = Writing; was_sent = false }

-- the device of a data server has this address from now on, unless it is known; at most 16 are
abbrev pub with_device : List (DeviceId × NetAddr) → ℕ → NetAddr → List (DeviceId × NetAddr)
with_device devices server address =
    if knows devices server then devices else if nat_lt (length devices) 16 then devices ++ (device_id_of server, address) ∷ [] else devices

abbrev pub with_addresses : List (DeviceId × NetAddr) → List ℕ → List NetAddr → List (DeviceId × NetAddr)
with_addresses devices (server ∷ servers) (address ∷ addresses) = with_addresses (with_device devices server address) servers addresses
with_addresses devices servers addresses = devices

abbrev pub learns_devices : Option Layout → List NetAddr → ClientValue → ClientValue
learns_devices None addresses c = c
learns_devices (Some l) addresses c = record c { devices = with_addresses c.devices (unknown_servers c l) addresses }

-- the return was accepted: the writes that are not told count as committed now
abbrev pub layout_returned : Option OpenFile → Option Layout → ClientValue → ClientRun
layout_returned (Some file) (Some l) c = tells file l.writer l.untold (record c { layout = None })
layout_returned file layout c = unmoved c

-- ---- it was refused

-- the request at the head gets the status, if there is one
abbrev pub head_refused : ℕ → List UserRequest → ClientValue → ClientRun
head_refused status [] c = unmoved c
head_refused status (request ∷ rest) c = refuses_request status (without_head c)

abbrev pub has_session : Tie → Bool
has_session NoClient = false
has_session (HasClient clientid sequence) = false
has_session (HasSession s) = true

abbrev pub deferred : Option Layout → Option Layout
deferred None = None
deferred (Some l) = Some (record l { stage = Deferred })

-- a LAYOUTRETURN is still due, and goes out at the next tick
abbrev pub defers : MdsAsk → ClientValue → ClientValue
defers ask.LayoutReturn c = record c { layout = deferred c.layout }
defers kind c = c

-- a client that has no session yet is as new
abbrev pub after_refusal : MdsAsk → ClientValue → ClientValue
after_refusal kind c = if has_session c.tie then defers kind c else as_new c

abbrev pub refused_otherwise : MdsAsk → ℕ → ClientValue → ClientRun
refused_otherwise kind status c = ends_as (head_refused status c.queue c) (after_refusal kind)

-- the same is asked again at the next tick
abbrev pub is_for_later : ℕ → Bool
is_for_later status = (status == LAYOUTTRYLATER) || (status == RECALLCONFLICT) || (status == DELAY)

abbrev pub asks_later : MdsAsk → ClientValue → ClientValue
asks_later ask.LayoutReturn c = record c { layout = deferred c.layout }
asks_later ask.Renew c = c
asks_later kind c = record c { waits = true }

-- BADSESSION: with a layout that is lost with it; without one the request at the head gets the status; then the client is as new
abbrev pub session_lost : Option Layout → ClientValue → ClientRun
session_lost None c = ends_as (head_refused BADSESSION c.queue c) as_new
session_lost (Some l) c = ends_as (revoked_layout c) as_new

-- BAD_STATEID at LAYOUTRETURN: the layout was taken away
abbrev pub refused_by_mds : MdsAsk → ℕ → ClientValue → ClientRun
refused_by_mds kind status c =
    if status == BADSESSION then session_lost c.layout c
    else if is_for_later status then unmoved (asks_later kind c)
    else if (status == BAD_STATEID) && is_layout_return kind then revoked_layout c
    else refused_otherwise kind status c

-- ---- the answer

abbrev pub by_answer : MdsAsk → MdsAnswerValue → ClientValue → ClientRun
by_answer kind (Refused status) c = refused_by_mds kind status c
by_answer kind (Client clientid sequence) c = unmoved (record c { tie = HasClient clientid sequence })
by_answer kind (Session session) c = unmoved (record c { tie = HasSession (fresh_session session) })
by_answer kind Complete c = unmoved (record c { tie = completed_tie c.tie })
by_answer kind (Opened file) c = opens_file file c
by_answer kind (Granted grant) c = unmoved (record c { layout = Some (new_layout grant) })
by_answer kind (Devices addresses) c = unmoved (learns_devices c.layout addresses c)
by_answer kind Written c = answers_user answer.Written (without_head c)
by_answer kind (Bytes eof bytes) c = answers_user (answer.Bytes eof bytes) (without_head c)
by_answer kind Returned c = layout_returned c.file c.layout c
by_answer kind Renewed c = unmoved c

abbrev pub without_asked : ClientValue → ClientValue
without_asked c = record c { asked = None }

-- the same record goes out again at the next tick
abbrev pub delayed : Option Asked → Option Asked
delayed None = None
delayed (Some asked) = Some (record asked { is_late = true })

-- What the reply to the outstanding compound, which asked this, comes to by what became of the slot: what was asked is done or refused;
-- the same goes out anew, under another number; or the same record at the next tick.
abbrev pub mds_answered : MdsAsk → MdsReplyValue → ℕ → ClientValue → ClientRun
mds_answered kind reply now c = by_slot reply.slot
  where
    by_slot : SlotReport → ClientRun
    by_slot Taken = by_answer kind reply.answer (without_asked (next_on_slot now c))
    by_slot Unknown = by_answer kind reply.answer (without_asked c)
    by_slot Uncached = unmoved (record (without_asked (next_on_slot now c)) { again = Some kind })
    by_slot Delayed = unmoved (record c { asked = delayed c.asked })
