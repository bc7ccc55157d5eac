-- What a reply tells a slot, and its answer, in every run of a metadata server to which clients of this cluster call (RFC 8881, sections 15.1.11
-- and 18.46).
use Rattle.std.specs.Prelude.{◌≡◌, ℕ, ◌⊎◌, false, List}
use Rattle.cluster_model.specs.declared.ids.NodeId.{NodeId}
use Rattle.rpc_record.specs.Replies.{RpcReply}
use Rattle.cluster_model.specs.Members.{IsOneOf}
use Rattle.device_addr.specs.Universal.{AddressValue}
use Rattle.client_mds_calls.specs.declared.reply.SlotReport.{SlotReport}
use Rattle.client_mds_calls.specs.declared.reply.SlotReport.TheVariants.{Taken, Uncached, Delayed, Unknown}
use Rattle.client_mds_calls.specs.MdsCalls.{MdsCallValue, SlotCallValue, ask_of, ask_on_slot, takes_slot}
use Rattle.client_mds_calls.specs.MdsReplies.{MdsAnswerValue, Refused, reply_of_ask}
use Rattle.mds_rule.specs.MdsStates.{Replies}
use Rattle.mds_walk.specs.MdsRuns.{MdsEvent, after_event}
use Rattle.mds_replies.specs.ClientCalls.{IsCallFrom, server_after, IsEventOf}
use Rattle.mds_replies.specs.AnsweredRequests.{AreFitCalls, StaysRoomy}

-- A request that took effect is not answered BADSESSION; one whose reply was not kept is answered RETRY_UNCACHED_REP, and one that is to wait DELAY.
abbrev pub AgreesWith : MdsAnswerValue → SlotReport → Type 0
AgreesWith answer Taken = answer ≡ Refused 10052 → ⊥
AgreesWith answer Uncached = answer ≡ Refused 10068
AgreesWith answer Delayed = answer ≡ Refused 10008
AgreesWith answer Unknown = Unit {0}

-- as each request on a slot reads it
abbrev pub AgreesRead : RpcReply → Type 0
AgreesRead reply = (c : SlotCallValue) → AgreesWith (reply_of_ask (ask_on_slot c) reply).answer (reply_of_ask (ask_on_slot c) reply).slot

-- a call that takes no slot came in this event from the node, under this number
pub record CameAlone (e : MdsEvent) (node : NodeId) (xid : ℕ) : Type 0 where
  pub name : List ℕ
  pub call : MdsCallValue
  pub came : IsCallFrom e node xid name call
  pub alone : takes_slot (ask_of call) ≡ false

-- each reply that is sent agrees, or answers such a call
abbrev pub ReportsAgree : Type 0
ReportsAgree =
    (servers : List AddressValue) (mirrors : ℕ) (events before after : List MdsEvent) (e : MdsEvent) → AreFitCalls events → StaysRoomy servers mirrors events → IsEventOf events before e after
    → (node : NodeId) (reply : RpcReply) → IsOneOf (Replies node reply) (after_event e (server_after servers mirrors before)).sends → AgreesRead reply ⊎ CameAlone e node reply.xid
