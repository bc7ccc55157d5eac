-- Whatever comes to a client.
use Rattle.std.proofs.Common.{ℕ, List, Option, Some, None, Result, Ok, Err, refl}
use Rattle.std.specs.Prelude.{◌&&◌, ◌||◌, ◌==◌}
use Rattle.ff_xdr.specs.declared.error.XdrError.{XdrError}
use Rattle.rpc_record.specs.Calls.{call_at}
use Rattle.rpc_record.specs.Replies.{RpcReply, reply_at}
use Rattle.cluster_model.specs.declared.ids.NodeId.{NodeId}
use Rattle.cluster_model.specs.declared.ids.NodeId.TheVariants.{Mds, Server, Client}
use Rattle.cluster_model.specs.declared.ids.Mirror.{Mirror}
use Rattle.ds_calls.specs.GivenReplies.{reply_of_call}
use Rattle.client_file_calls.specs.declared.open.OpenFile.{OpenFile}
use Rattle.client_mds_calls.specs.declared.ask.MdsAsk.{MdsAsk}
use Rattle.client_mds_calls.specs.declared.ask.MdsAsk.TheVariants as ask
use Rattle.client_mds_calls.specs.MdsReplies.{MdsReplyValue, reply_of_ask}
use Rattle.client_state.specs.declared.layout.Layout.{Layout}
use Rattle.client_state.specs.declared.asked.Asked.{Asked}
use Rattle.client_state.specs.ClientStates.{ClientValue}
use Rattle.client_state.specs.ClientSends.{ClientStep, sends_none, and_then}
use Rattle.client_calls.specs.ClientCalls.{asks, may_ask, ends_event}
use Rattle.client_answers.specs.ClientMirrors.{ds_answered, ds_timed_out}
use Rattle.client_answers.specs.ClientAnswers.{mds_answered}
use Rattle.client_callbacks.specs.Callbacks.{CbReply, callback_of}
use Rattle.mirror_client.specs.ClientRule.{unless_left, with_request, mds_replied, replied, mds_timed_out, timed_out_to, client_at_tick, resends_late, is_stale_tie, renews, ticks_on, turned, rogue_write, mirror_of_place, strays, found_reply, found_call, record_from}
use Rattle.client_laws.specs.ClientHistory.{ClientInput, Requested, Recorded, TimeoutOf, Ticked, LeftProtocol, Strayed, input_step}
use Rattle.client_sends.proofs.UserSteps.{UserStep, step_nothing, step_steps, run_steps, step_either}
use Rattle.client_sends.proofs.CallSteps.{ask_sends, event_ends}
use Rattle.client_sends.proofs.ServerSteps.{server_answer, server_late}
use Rattle.client_sends.proofs.AnswerSteps.{mds_answer}

unless_sends : (c : ClientValue) (s : ClientStep) → UserStep s → UserStep (unless_left c s)
unless_sends c s sends = step_either c.has_left (sends_none c) s (step_nothing c) sends

-- ---- records

mds_reply_sends : (asked : Option Asked) (xid : ℕ) (reply : MdsAsk → MdsReplyValue) (now : ℕ) (c : ClientValue) → UserStep (mds_replied asked xid reply now c)
mds_reply_sends None xid reply now c = step_nothing c
mds_reply_sends (Some a) xid reply now c =
    step_either (a.xid == xid) _ (sends_none c) (run_steps (mds_answered a.ask (reply a.ask) now c) ends_event (mds_answer a.ask (reply a.ask) now c) event_ends) (step_nothing c)

reply_sends : (from : NodeId) (reply : RpcReply) (now : ℕ) (c : ClientValue) → UserStep (replied from reply now c)
reply_sends Mds reply now c = mds_reply_sends c.asked reply.xid (λ kind. reply_of_ask kind reply) now c
reply_sends (Server server) reply now c = run_steps (ds_answered server reply.xid (λ call. reply_of_call call reply) c) ends_event (server_answer server reply.xid (λ call. reply_of_call call reply) c) event_ends
reply_sends (Client number) reply now c = step_nothing c

found_sends : (from : NodeId) (r : Result RpcReply XdrError) (now : ℕ) (c : ClientValue) → UserStep (found_reply from r now c)
found_sends from (Ok reply) now c = reply_sends from reply now c
found_sends from (Err e) now c = step_nothing c

callback_sends : (o : Option CbReply) (bytes : List ℕ) (now : ℕ) (c : ClientValue) → UserStep (found_call o bytes now c)
callback_sends (Some k) bytes now c = record { entries = (event_ends k.client).entries; sends = (tt, (event_ends k.client).sends) }
callback_sends None bytes now c = found_sends Mds (reply_at bytes) now c

record_sends : (from : NodeId) (bytes : List ℕ) (now : ℕ) (c : ClientValue) → UserStep (record_from from bytes now c)
record_sends Mds bytes now c = callback_sends (callback_of (call_at bytes) c) bytes now c
record_sends (Server server) bytes now c = found_sends (Server server) (reply_at bytes) now c
record_sends (Client number) bytes now c = step_nothing c

-- ---- timeouts and ticks

mds_late : (asked : Option Asked) (c : ClientValue) → UserStep (mds_timed_out asked c)
mds_late None c = step_nothing c
mds_late (Some a) c = record { entries = (refl, tt); sends = (tt, tt) }

late_sends : (to : NodeId) (c : ClientValue) → UserStep (timed_out_to to c)
late_sends Mds c = mds_late c.asked c
late_sends (Server server) c = step_steps (ds_timed_out server c) ends_event (server_late server c) event_ends
late_sends (Client number) c = step_nothing c

resend_sends : (c : ClientValue) (asked : Option Asked) → UserStep (resends_late c asked)
resend_sends c None = step_nothing c
resend_sends c (Some a) = step_either a.is_late _ (sends_none c) (record { entries = tt; sends = (tt, tt) }) (step_nothing c)

renew_sends : (now : ℕ) (c : ClientValue) → UserStep (renews now c)
renew_sends now c = step_either (may_ask c c.asked && is_stale_tie now c.tie) (asks c (Some ask.Renew)) (sends_none c) (ask_sends c (Some ask.Renew)) (step_nothing c)

tick_sends : (now : ℕ) (c : ClientValue) → UserStep (ticks_on now c)
tick_sends now c =
    step_steps (and_then (ends_event c) (λ d. resends_late d d.asked)) (renews now)
    (step_steps (ends_event c) (λ d. resends_late d d.asked) (event_ends c) (λ d. resend_sends d d.asked)) (renew_sends now)

-- ---- a client that leaves the protocol

rogue_sends : (c : ClientValue) (file : OpenFile) (l : Layout) (at : ℕ) (bytes : List ℕ) (o : Option Mirror) → UserStep (rogue_write c file l at bytes o)
rogue_sends c file l at bytes None = step_nothing c
rogue_sends c file l at bytes (Some m) = record { entries = (refl, tt); sends = (refl, tt) }

stray_sends : (file : Option OpenFile) (layout : Option Layout) (place at : ℕ) (bytes : List ℕ) (c : ClientValue) → UserStep (strays file layout place at bytes c)
stray_sends None layout place at bytes c = step_nothing c
stray_sends (Some file) None place at bytes c = step_nothing c
stray_sends (Some file) (Some l) place at bytes c =
    step_either (l.was_sent || (c.next_xid == 0)) (sends_none c) (rogue_write c file l at bytes (mirror_of_place l.mirrors place)) (step_nothing c) (rogue_sends c file l at bytes (mirror_of_place l.mirrors place))

-- ---- each input

pub input_sends : (input : ClientInput) (c : ClientValue) → UserStep (input_step input c)
input_sends (Requested request) c = unless_sends c (ends_event (with_request request c)) (event_ends (with_request request c))
input_sends (Recorded from bytes now) c = unless_sends c (record_from from bytes now c) (record_sends from bytes now c)
input_sends (TimeoutOf to) c = unless_sends c (timed_out_to to c) (late_sends to c)
input_sends (Ticked now) c = unless_sends c (ticks_on now (client_at_tick c)) (tick_sends now (client_at_tick c))
input_sends LeftProtocol c = step_nothing (turned c)
input_sends (Strayed place at bytes) c = stray_sends c.file c.layout place at bytes c
