-- To whom ids of clients and sessions are given, in every run of a metadata server to which clients of this cluster call (RFC 8881, sections
-- 18.35 and 18.36).
use Rattle.std.specs.Prelude.{◌≡◌, ℕ, List}
use Rattle.ff_xdr.specs.Form.{long}
use Rattle.rpc_record.specs.Replies.{RpcReply}
use Rattle.cluster_model.specs.declared.ids.NodeId.{NodeId}
use Rattle.cluster_model.specs.Members.{IsOneOf}
use Rattle.nfs4_types.specs.declared.ids.SessionId.{SessionId}
use Rattle.nfs4_session.specs.Clients.{client_in}
use Rattle.client_mds_calls.specs.declared.ask.MdsAsk.TheVariants as ask
use Rattle.client_mds_calls.specs.MdsCalls.{ExchangeId, CreateSession}
use Rattle.client_mds_calls.specs.MdsReplies.{Client, Session, reply_of_ask}
use Rattle.device_addr.specs.Universal.{AddressValue}
use Rattle.mds_rule.specs.MdsStates.{Replies}
use Rattle.mds_walk.specs.MdsRuns.{MdsEvent, after_event}
use Rattle.mds_replies.specs.ClientCalls.{IsCallFrom, AreCalls, server_after, IsEventOf}

-- an EXCHANGE_ID of this owner and verifier was answered in this event with this id
pub record GivesId (servers : List AddressValue) (mirrors : ℕ) (before : List MdsEvent) (e : MdsEvent) (owner : List ℕ) (verifier client : ℕ) : Type 0 where
  pub node : NodeId
  pub xid : ℕ
  pub came : IsCallFrom e node xid owner (ExchangeId verifier)
  pub reply : RpcReply
  pub sent : IsOneOf (Replies node reply) (after_event e (server_after servers mirrors before)).sends
  pub sequence : ℕ
  pub says : (reply_of_ask ask.ExchangeId reply).answer ≡ Client client sequence

-- an id is given to one owner and one verifier, of eight bytes
abbrev pub IdsAreOwn : Type 0
IdsAreOwn =
    (servers : List AddressValue) (mirrors : ℕ) (events : List MdsEvent) → AreCalls events
    → (before after : List MdsEvent) (e : MdsEvent) (early late : List MdsEvent) (f : MdsEvent) → IsEventOf events before e after → IsEventOf events early f late
    → (owner other : List ℕ) (verifier another client : ℕ) → GivesId servers mirrors before e owner verifier client → GivesId servers mirrors early f other another client
    → (owner ≡ other) × (long verifier ≡ long another)

-- a CREATE_SESSION of this client was answered in this event with this session
pub record GivesSession (servers : List AddressValue) (mirrors : ℕ) (before : List MdsEvent) (e : MdsEvent) (client : ℕ) (session : SessionId) : Type 0 where
  pub node : NodeId
  pub xid : ℕ
  pub name : List ℕ
  pub sequence : ℕ
  pub came : IsCallFrom e node xid name (CreateSession client sequence)
  pub reply : RpcReply
  pub sent : IsOneOf (Replies node reply) (after_event e (server_after servers mirrors before)).sends
  pub says : (reply_of_ask ask.CreateSession reply).answer ≡ Session session

-- a session is of the client that asked for it
abbrev pub SessionsAreOwn : Type 0
SessionsAreOwn =
    (servers : List AddressValue) (mirrors : ℕ) (events before after : List MdsEvent) (e : MdsEvent) (client : ℕ) (session : SessionId) → AreCalls events → IsEventOf events before e after
    → GivesSession servers mirrors before e client session → client_in session ≡ client
