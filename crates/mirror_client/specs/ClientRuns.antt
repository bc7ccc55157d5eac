-- Runs of a client: events, one after the other, and all that comes of them.
use Rattle.std.specs.Prelude.{ℕ, List, [], ◌∷◌, Option, None}
use Rattle.std.specs.Option.{option_map}
use Rattle.ff_xdr.specs.Form.{Value}
use Rattle.nfs4_compound.specs.declared.stop.Stop.TheVariants.{End}
use Rattle.nfs4_compound.specs.CbArgs.{cb_argop4}
use Rattle.cluster_model.specs.declared.ids.NodeId.{NodeId}
use Rattle.cluster_model.specs.declared.entry.Entry.{Entry}
use Rattle.cluster_model.specs.DsCalls.{DsReplyValue}
use Rattle.client_mds_calls.specs.declared.ask.MdsAsk.{MdsAsk}
use Rattle.client_mds_calls.specs.MdsReplies.{MdsReplyValue}
use Rattle.client_state.specs.declared.request.UserRequest.{UserRequest}
use Rattle.client_state.specs.declared.asked.Asked.{Asked}
use Rattle.client_state.specs.ClientStates.{ClientValue}
use Rattle.client_state.specs.ClientSends.{ClientSend, ClientStep, sends_none, and_then}
use Rattle.client_callbacks.specs.Callbacks.{cb_reply, cb_results, cb_first}
use Rattle.mirror_client.specs.ClientRule.{unless_left, client_requested, mds_replied, ds_replied, client_timed_out, client_ticked, answers_callback, turned, strays}

-- What may happen to a client, without the bytes of records: a request of its user; the answer to a compound, or to a call of a data
-- server, by its number; a callback under a number; a timeout of its call to a node; a tick at a moment; it leaves the protocol, and
-- then sends a write to a mirror by its place.
pub data ClientEvent : Type 0 where
  UserAsks : (request : UserRequest) → ClientEvent
  MdsSays : (xid : ℕ) (reply : MdsReplyValue) (now : ℕ) → ClientEvent
  DsSays : (server xid : ℕ) (reply : DsReplyValue) → ClientEvent
  CallsBack : (xid : ℕ) (ops : List (Value cb_argop4)) → ClientEvent
  TimesOut : (to : NodeId) → ClientEvent
  Ticks : (now : ℕ) → ClientEvent
  Leaves : ClientEvent
  Strays : (place at : ℕ) (bytes : List ℕ) → ClientEvent

abbrev pub client_step : ClientEvent → ClientValue → ClientStep
client_step (UserAsks request) c = client_requested request c
client_step (MdsSays xid reply now) c = unless_left c (mds_replied c.asked xid (λ kind. reply) now c)
client_step (DsSays server xid reply) c = unless_left c (ds_replied server xid (λ call. reply) c)
client_step (CallsBack xid ops) c = unless_left c (answers_callback (cb_reply xid (cb_results [] (cb_first ops (End None) c))))
client_step (TimesOut to) c = client_timed_out to c
client_step (Ticks now) c = client_ticked now c
client_step Leaves c = sends_none (turned c)
client_step (Strays place at bytes) c = strays c.file c.layout place at bytes c

-- what the events of a run leave, enter and send, in order
abbrev pub client_run : ClientValue → List ClientEvent → ClientStep
client_run c [] = sends_none c
client_run c (event ∷ events) = and_then (client_step event c) (λ d. client_run d events)

-- What is seen of a run: the journal, what went out, and what is outstanding at the metadata server.
pub record ClientSeen : Type 0 where
  pub entries : List Entry
  pub sends : List ClientSend
  pub asked : Option MdsAsk

abbrev pub seen_of : ClientStep → ClientSeen
seen_of s = record { entries = s.entries; sends = s.sends; asked = option_map (λ (a : Asked). a.ask) s.client.asked }

abbrev pub seen_in : ClientValue → List ClientEvent → ClientSeen
seen_in c events = seen_of (client_run c events)
