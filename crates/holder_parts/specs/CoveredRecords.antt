-- What a journal with its packets says of a client's calls to data servers: which answer one got, and that a write is covered at a mirror
-- (RFC 5531, section 9; RFC 1813, sections 3.3.7 and 3.3.21).
use Rattle.std.specs.Prelude.{◌≡◌, ℕ, false, List, ◌∷◌, ◌++◌, take, Option, Ok}
use Rattle.ff_xdr.specs.Form.{word}
use Rattle.rpc_record.specs.Replies.{RpcReply, reply_at}
use Rattle.cluster_model.specs.declared.ids.NodeId.{NodeId}
use Rattle.cluster_model.specs.declared.ids.NodeId.TheVariants.{Server, Client}
use Rattle.cluster_model.specs.declared.ids.MirrorId.{MirrorId}
use Rattle.cluster_model.specs.declared.ds_call.Shown.{Shown}
use Rattle.cluster_model.specs.declared.entry.Entry.{Entry}
use Rattle.cluster_model.specs.declared.entry.Entry.TheVariants.{Packet}
use Rattle.cluster_model.specs.Content.{Pending}
use Rattle.cluster_model.specs.DsCalls.{DsReplyValue, Write, Commit, Written, Committed}
use Rattle.ds_calls.specs.GivenReplies.{reply_of_call}
use Rattle.ds_calls.specs.DsCallLaws.{DsMessage, HasRecord, record_of}

-- a packet of these bytes was sent
pub record WasPosted (journal : List Entry) (from to : NodeId) (bytes : List ℕ) : Type 0 where
  pub number : ℕ
  pub before : List Entry
  pub behind : List Entry
  pub split : journal ≡ before ++ Packet number from to bytes ∷ behind

-- what a client sent a data server under the number of this call is this call's record
abbrev pub IsOnlyRecord : List Entry → ℕ → ℕ → DsMessage → Type 0
IsOnlyRecord journal client server message = (bytes : List ℕ) → WasPosted journal (Client client) (Server server) bytes → take 4 bytes ≡ word message.xid → bytes ≡ record_of message

-- the data server sent the client a reply under the number of its call, which says this to what was asked
pub record IsAnsweredSo (journal : List Entry) (client server : ℕ) (message : DsMessage) (says : DsReplyValue) : Type 0 where
  pub fits : HasRecord message
  pub only : IsOnlyRecord journal client server message
  pub bytes : List ℕ
  pub came : WasPosted journal (Server server) (Client client) bytes
  pub reply : RpcReply
  pub reply_is : reply_at bytes ≡ Ok reply
  pub number : reply.xid ≡ message.xid
  pub says_so : reply_of_call message.call reply ≡ says

-- A write is covered at a mirror: a WRITE of it was answered OK, a COMMIT of the mirror went out for the first time behind that, and it was
-- answered OK with the same verifier.
pub record IsCoveredIn (journal : List Entry) (uid : ℕ) (id : MirrorId) (w : Pending) : Type 0 where
  pub client : ℕ
  pub wrote : DsMessage
  pub its_user : wrote.user ≡ uid
  pub its_call : wrote.call ≡ Write id.fileid w.at false w.bytes
  pub verifier : ℕ
  pub first : List Entry
  pub later : List Entry
  pub split : journal ≡ first ++ later
  pub write_shown : Option Shown
  pub written : IsAnsweredSo first client id.server wrote (Written write_shown verifier)
  pub commit : DsMessage
  pub commit_is : commit.call ≡ Commit id.fileid
  pub new : (bytes : List ℕ) → WasPosted first (Client client) (Server id.server) bytes → take 4 bytes ≡ word commit.xid → ⊥
  pub commit_shown : Option Shown
  pub committed : IsAnsweredSo journal client id.server commit (Committed commit_shown verifier)
