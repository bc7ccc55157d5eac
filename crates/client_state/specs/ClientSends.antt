-- What a client sends, as values, and how it is spelled; and what an event of it leaves, enters and sends.
use Rattle.std.specs.Prelude.{ℕ, List, [], ◌++◌}
use Rattle.rpc_record.specs.Replies.{RpcReply, reply_bytes}
use Rattle.cluster_model.specs.declared.ids.NodeId.{NodeId}
use Rattle.cluster_model.specs.declared.ids.NodeId.TheVariants.{Mds, Server}
use Rattle.cluster_model.specs.declared.entry.Entry.{Entry}
use Rattle.cluster_model.specs.DsCalls.{DsCallValue}
use Rattle.ds_calls.specs.MadeCalls.{ds_call_bytes}
use Rattle.client_mds_calls.specs.MdsCalls.{MdsCallValue}
use Rattle.client_mds_calls.specs.MdsCompounds.{mds_call_bytes}
use Rattle.client_state.specs.ClientStates.{ClientValue, ClientRun}

-- A call to a data server under a number, by a client of this name, under this uid; a compound; the same record of either again, of a
-- compound as it is kept while it is outstanding; the reply to a callback.
pub data ClientSend : Type 0 where
  CallsServer : (server xid : ℕ) (name : List ℕ) (uid : ℕ) (call : DsCallValue) → ClientSend
  CallsMds : (xid : ℕ) (name : List ℕ) (call : MdsCallValue) → ClientSend
  RepeatsToServer : (server xid : ℕ) (name : List ℕ) (uid : ℕ) (call : DsCallValue) → ClientSend
  RepeatsToMds : (xid : ℕ) (message : List ℕ) → ClientSend
  RepliesToMds : (reply : RpcReply) → ClientSend

-- a record for a node
abbrev pub SendValue : Type 0
SendValue = NodeId × List ℕ

-- the node that it goes to, and the bytes of its record (RFC 5531, section 9)
abbrev pub spelled_send : ClientSend → SendValue
spelled_send (CallsServer server xid name uid call) = (Server server, ds_call_bytes xid name uid call)
spelled_send (CallsMds xid name call) = (Mds, mds_call_bytes xid name call)
spelled_send (RepeatsToServer server xid name uid call) = (Server server, ds_call_bytes xid name uid call)
spelled_send (RepeatsToMds xid message) = (Mds, message)
spelled_send (RepliesToMds reply) = (Mds, reply_bytes reply)

-- a client after an event, the entries of the journal that it made, and what it sends
pub record ClientStep : Type 0 where
  pub client : ClientValue
  pub entries : List Entry
  pub sends : List ClientSend

abbrev pub sends_none : ClientValue → ClientStep
sends_none c = record { client = c; entries = []; sends = [] }

-- one step, and then another
abbrev pub and_then : ClientStep → (ClientValue → ClientStep) → ClientStep
and_then s next = record { client = (next s.client).client; entries = s.entries ++ (next s.client).entries; sends = s.sends ++ (next s.client).sends }

-- what was entered, and then what follows
abbrev pub run_then : ClientRun → (ClientValue → ClientStep) → ClientStep
run_then r next = record { client = (next r.client).client; entries = r.entries ++ (next r.client).entries; sends = (next r.client).sends }
