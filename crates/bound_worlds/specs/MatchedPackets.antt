-- The packets of a run of the machine, entry by entry of a world's journal: which of them each entry brought, and that a data server's reply to a
-- client is the machine's answer to the client's call (RFC 5531, section 9; RFC 1813, section 3.3).
use Rattle.std.specs.Prelude.{◌≡◌, ℕ, ◌+◌, Ok, List, [], ◌∷◌, ◌++◌, length}
use Rattle.rpc_record.specs.Replies.{RpcReply, reply_at}
use Rattle.cluster_model.specs.declared.ids.NodeId.{NodeId}
use Rattle.cluster_model.specs.declared.ids.NodeId.TheVariants.{Mds, Server, Client}
use Rattle.cluster_model.specs.declared.entry.Entry.{Entry}
use Rattle.cluster_model.specs.declared.entry.Entry.TheVariants.{Packet}
use Rattle.cluster_model.specs.DsCalls.{DsReplyValue}
use Rattle.cluster_laws.specs.Machine.{PacketValue, Call, Reply}
use Rattle.ds_calls.specs.GivenReplies.{reply_of_call}
use Rattle.ds_calls.specs.DsCallLaws.{DsMessage, HasRecord, record_of}
use Rattle.holder_parts.specs.CoveredRecords.{WasPosted}

-- an entry with the machine's packets that came with it, or packets that came with none
pub data Stage : Type 0 where
  Shows : (entry : Entry) (packets : List PacketValue) → Stage
  Hides : (packets : List PacketValue) → Stage

abbrev pub entries_of : List Stage → List Entry
entries_of [] = []
entries_of (Shows entry packets ∷ stages) = entry ∷ entries_of stages
entries_of (Hides packets ∷ stages) = entries_of stages

abbrev pub brought_by : Stage → List PacketValue
brought_by (Shows entry packets) = packets
brought_by (Hides packets) = packets

abbrev pub packets_of : List Stage → List PacketValue
packets_of [] = []
packets_of (s ∷ stages) = brought_by s ++ packets_of stages

-- The reply is what data server n of the machine answered to a call that a client had sent it; both came with this entry, the call at this place.
pub record IsServedCall (past : List Entry) (place n client : ℕ) (bytes : List ℕ) (packets : List PacketValue) : Type 0 where
  pub message : DsMessage
  pub posted : WasPosted past (Client client) (Server n) (record_of message)
  pub fits : HasRecord message
  pub given : DsReplyValue
  pub brought : packets ≡ Call (Client client) n message.xid message.user message.user message.call ∷ (Reply place n (Client client) message.xid given ∷ [])
  pub reply : RpcReply
  pub reads : reply_at bytes ≡ Ok reply
  pub number : reply.xid ≡ message.xid
  pub answer : reply_of_call message.call reply ≡ given

abbrev pub MatchesFrom : List Entry → ℕ → ℕ → NodeId → List ℕ → List PacketValue → Type 0
MatchesFrom past place n (Client c) bytes packets = IsServedCall past place n c bytes packets
MatchesFrom past place n to bytes packets = Unit {0}

abbrev pub MatchesPacket : List Entry → ℕ → NodeId → NodeId → List ℕ → List PacketValue → Type 0
MatchesPacket past place (Server n) to bytes packets = MatchesFrom past place n to bytes packets
MatchesPacket past place from to bytes packets = Unit {0}

abbrev pub Matches : List Entry → ℕ → Entry → List PacketValue → Type 0
Matches past place (Packet number from to bytes) packets = MatchesPacket past place from to bytes packets
Matches past place e packets = Unit {0}

-- each, behind these entries and so many packets
abbrev pub AreMatched : List Entry → ℕ → List Stage → Type 0
AreMatched past place [] = Unit {0}
AreMatched past place (Shows entry packets ∷ stages) = Matches past place entry packets × AreMatched (past ++ entry ∷ []) (place + length packets) stages
AreMatched past place (Hides packets ∷ stages) = AreMatched past (place + length packets) stages
