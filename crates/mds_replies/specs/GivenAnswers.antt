-- The replies of a metadata server, in every run: those to compounds are of success (RFC 5531, section 9), what is answered at once came in the
-- same event, and each reply answers a call that came (RFC 8881, section 2.10.6).
use Rattle.std.specs.Prelude.{◌≡◌, ℕ, false, List, [], ◌∷◌, ◌++◌}
use Rattle.rpc_record.specs.Replies.{RpcReply}
use Rattle.cluster_model.specs.declared.ids.NodeId.{NodeId}
use Rattle.cluster_model.specs.Members.{IsOneOf}
use Rattle.compound_reply.specs.Replied.{success_reply}
use Rattle.device_addr.specs.Universal.{AddressValue}
use Rattle.client_mds_calls.specs.MdsCalls.{MdsCallValue, ask_of, takes_slot}
use Rattle.mds_receive.specs.MdsReceive.{IsAnswered, incoming_of}
use Rattle.mds_rule.specs.MdsStates.{Replies, Answers}
use Rattle.mds_walk.specs.MdsRuns.{MdsEvent, Hears, after_event}
use Rattle.mds_replies.specs.ClientCalls.{IsCallFrom, server_after, IsEventOf}
use Rattle.mds_replies.specs.AnsweredRequests.{AreFitCalls}

-- ---- in any run

-- the reply to a compound is one of success, with the compound's results
abbrev pub EachReplyIsWhole : Type 0
EachReplyIsWhole =
    (servers : List AddressValue) (mirrors : ℕ) (before : List MdsEvent) (e : MdsEvent) (node : NodeId) (reply : RpcReply) → IsOneOf (Replies node reply) (after_event e (server_after servers mirrors before)).sends
    → reply ≡ success_reply reply.xid reply.results

-- what is answered at once came in this event, and is no compound
pub record IsAnsweredNow (e : MdsEvent) (node : NodeId) (bytes : List ℕ) : Type 0 where
  pub asked : List ℕ
  pub input : e.input ≡ Hears node asked
  pub reads : incoming_of asked ≡ IsAnswered bytes

abbrev pub EachAnswerIsNow : Type 0
EachAnswerIsNow =
    (servers : List AddressValue) (mirrors : ℕ) (before : List MdsEvent) (e : MdsEvent) (node : NodeId) (bytes : List ℕ) → IsOneOf (Answers node bytes) (after_event e (server_after servers mirrors before)).sends → IsAnsweredNow e node bytes

-- ---- where clients of this cluster call

-- The call that a reply answers came from its node under its number, in this event or before; where it is no request on a slot, in this event.
pub record AnswersAsked (servers : List AddressValue) (mirrors : ℕ) (before : List MdsEvent) (e : MdsEvent) (node : NodeId) (reply : RpcReply) : Type 0 where
  pub early : List MdsEvent
  pub f : MdsEvent
  pub late : List MdsEvent
  pub split : IsEventOf (before ++ e ∷ []) early f late
  pub name : List ℕ
  pub call : MdsCallValue
  pub came : IsCallFrom f node reply.xid name call
  pub now : takes_slot (ask_of call) ≡ false → IsCallFrom e node reply.xid name call

abbrev pub EachReplyIsAsked : Type 0
EachReplyIsAsked =
    (servers : List AddressValue) (mirrors : ℕ) (events before after : List MdsEvent) (e : MdsEvent) → AreFitCalls events → IsEventOf events before e after
    → (node : NodeId) (reply : RpcReply) → IsOneOf (Replies node reply) (after_event e (server_after servers mirrors before)).sends → AnswersAsked servers mirrors before e node reply
