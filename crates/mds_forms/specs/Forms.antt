-- What a metadata server enters and sends is in form: it enters no packets, the number of a call has four bytes, and what is answered at once
-- is answered by a reply (RFC 5531, section 9).
use Rattle.std.specs.Prelude.{◌≡◌, ℕ, ◌<◌, ◌≤◌, ◌^◌, List, ◌++◌}
use Rattle.std.specs.List.{AllByRecursion}
use Rattle.rpc_record.specs.Replies.{RpcReply, reply_bytes}
use Rattle.cluster_model.specs.declared.entry.Entry.{Entry}
use Rattle.cluster_model.specs.declared.entry.Entry.TheVariants.{Packet}
use Rattle.cluster_model.specs.Members.{IsOneOf}
use Rattle.mds_rule.specs.MdsStates.{MdsSend, CallsServer, CallsBack, Replies, Answers, AwaitedCall, MdsValue}
use Rattle.mds_walk.specs.MdsRuns.{MdsEvent, after_event}
use Rattle.mds_walk.proofs.Lists.{AllOf}

-- packets are the world's: one for each record that is sent
abbrev pub IsNoPacket : Entry → Type 0
IsNoPacket (Packet number from to bytes) = ⊥
IsNoPacket e = Unit {0}

-- it is the record of a reply
pub record IsReplyRecord (bytes : List ℕ) : Type 0 where
  pub reply : RpcReply
  pub is : bytes ≡ reply_bytes reply

-- the number of a call has four bytes (RFC 5531, section 9), and what is answered at once is answered by a reply
abbrev pub IsInForm : MdsSend → Type 0
IsInForm (CallsServer server xid uid call) = xid < 2 ^ 32
IsInForm (CallsBack xid back file stateid) = xid < 2 ^ 32
IsInForm (Replies node reply) = Unit {0}
IsInForm (Answers node bytes) = IsReplyRecord bytes

-- what was entered, and what was sent so far
pub record StaysInForm (es : List Entry) (ss : List MdsSend) : Type 0 where
  pub entries : AllByRecursion IsNoPacket es
  pub sends : AllOf IsInForm ss

-- each event keeps it so, where what was sent so far is in form, and each call that is awaited was sent
abbrev pub MdsStaysInForm : Type 0
MdsStaysInForm =
    (m : MdsValue) (ss : List MdsSend) (e : MdsEvent) → m.next_xid ≤ 4294967295 → ((call : AwaitedCall) → IsOneOf call m.calls → IsOneOf call.sent ss) → AllOf IsInForm ss
    → StaysInForm (after_event e m).entries (ss ++ (after_event e m).sends)
