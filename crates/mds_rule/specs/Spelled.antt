-- What a metadata server sends, as records (RFC 5531, section 9): the only place where its rule spells bytes, but for the body of a reply.
use Rattle.std.specs.Prelude.{ℕ, List, map, codes}
use Rattle.rpc_record.specs.Replies.{reply_bytes}
use Rattle.cluster_model.specs.declared.ids.NodeId.{NodeId}
use Rattle.cluster_model.specs.declared.ids.NodeId.TheVariants.{Server}
use Rattle.ds_calls.specs.MadeCalls.{ds_call_bytes}
use Rattle.recall_calls.specs.RecallCalls.{recall_bytes}
use Rattle.mds_rule.specs.MdsStates.{MdsSend, CallsServer, CallsBack, Replies, Answers, MdsStep}

-- the name of its machine in the credential of its calls
abbrev pub mds_name : List ℕ
mds_name = codes "mds"

-- the node that it goes to, and the bytes of its record
abbrev pub spelled_send : MdsSend → NodeId × List ℕ
spelled_send (CallsServer server xid uid call) = (Server server, ds_call_bytes xid mds_name uid call)
spelled_send (CallsBack xid back file stateid) = (back.node, recall_bytes xid back file stateid)
spelled_send (Replies node reply) = (node, reply_bytes reply)
spelled_send (Answers node bytes) = (node, bytes)

abbrev pub records_sent : MdsStep → List (NodeId × List ℕ)
records_sent s = map spelled_send s.sends
