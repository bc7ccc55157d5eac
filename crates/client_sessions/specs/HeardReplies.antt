-- A reply that a client heard to one of its compounds (RFC 5531, section 9).
use Rattle.std.specs.Prelude.{◌≡◌, ℕ, List, [], ◌∷◌, ◌++◌, Ok}
use Rattle.rpc_record.specs.Replies.{RpcReply, reply_at}
use Rattle.cluster_model.specs.declared.ids.NodeId.TheVariants.{Mds}
use Rattle.client_mds_calls.specs.MdsCalls.{MdsCallValue, ask_of}
use Rattle.client_mds_calls.specs.MdsReplies.{MdsReplyValue, reply_of_ask}
use Rattle.client_state.specs.ClientSends.{CallsMds}
use Rattle.client_laws.specs.ClientHistory.{Recorded, HistoryItem, Hears, Enters, Sends}

-- Behind these items the compound went out, with these behind it; a reply under its number was heard there, which comes to this by what was
-- asked; and then came these.
pub record IsHeard (past : List HistoryItem) (xid : ℕ) (name : List ℕ) (call : MdsCallValue) (says : MdsReplyValue) (behind : List HistoryItem) : Type 0 where
  pub before : List HistoryItem
  pub until : List HistoryItem
  pub bytes : List ℕ
  pub now : ℕ
  pub split : past ≡ before ++ Sends (CallsMds xid name call) ∷ (until ++ Hears (Recorded Mds bytes now) ∷ behind)
  pub reply : RpcReply
  pub reply_is : reply_at bytes ≡ Ok reply
  pub number : reply.xid ≡ xid
  pub says_so : reply_of_ask (ask_of call) reply ≡ says

-- no compound went out
abbrev pub IsNoCompound : HistoryItem → Type 0
IsNoCompound (Sends (CallsMds xid name call)) = ⊥
IsNoCompound item = Unit {0}
