-- What stands behind a reply, and behind a write that was applied, among the packets of a run (RFC 1813, sections 3.3.2, 3.3.6 to 3.3.8
-- and 3.3.21; RFC 5531, section 9).
use Rattle.std.specs.Prelude.{◌≡◌, ℕ, ◌<◌, Bool, true, false, List}
use Rattle.std.specs.List.{AllByRecursion}
use Rattle.cluster_model.specs.declared.ids.NodeId.{NodeId}
use Rattle.cluster_model.specs.declared.ids.Cred.{Cred}
use Rattle.cluster_model.specs.declared.ids.MirrorId.{MirrorId}
use Rattle.cluster_model.specs.declared.entry.Entry.{Entry}
use Rattle.cluster_model.specs.declared.entry.Entry.TheVariants.{Applied}
use Rattle.cluster_model.specs.DsCalls.{DsCallValue, Create, SetAttr, Write, Commit, Read, DsReplyValue, Created, Set, Written, Committed, Bytes, NotSync, Failed}
use Rattle.cluster_laws.specs.Machine.{PacketValue, Call, Reply}
use Rattle.cluster_laws.specs.Holders.{IsPacketAt}

-- a reply of the kind of a call: the results of its procedure, or a failure; NOT_SYNC is of a SETATTR alone
abbrev pub answers_call : DsCallValue → DsReplyValue → Bool
answers_call call (Failed status shown) = true
answers_call (Create name owner) (Created fileid shown) = true
answers_call (SetAttr fileid owner guard) (Set shown) = true
answers_call (SetAttr fileid owner guard) (NotSync shown) = true
answers_call (Write fileid at synced bytes) (Written shown verifier) = true
answers_call (Commit fileid) (Committed shown verifier) = true
answers_call (Read fileid at count) (Bytes shown eof bytes) = true
answers_call _ _ = false

-- the call that a reply at this place names is below it, has the reply's number, and the reply is of its kind
pub record HasItsCall (packets : List PacketValue) (at place server : ℕ) (to : NodeId) (xid : ℕ) (reply : DsReplyValue) : Type 0 where
  pub below : place < at
  pub uid : ℕ
  pub gid : ℕ
  pub call : DsCallValue
  pub there : IsPacketAt packets place (Call to server xid uid gid call)
  pub kind : answers_call call reply ≡ true

-- so each reply among the packets
abbrev pub AreAnswered : List PacketValue → Type 0
AreAnswered packets =
    (at place server : ℕ) (to : NodeId) (xid : ℕ) (reply : DsReplyValue) → IsPacketAt packets at (Reply place server to xid reply) → HasItsCall packets at place server to xid reply

-- a WRITE of these bytes to a mirror's file was sent under this user
pub record HasWriteCall (packets : List PacketValue) (mirror : MirrorId) (cred : Cred) (at : ℕ) (bytes : List ℕ) : Type 0 where
  pub place : ℕ
  pub from : NodeId
  pub xid : ℕ
  pub gid : ℕ
  pub synced : Bool
  pub there : IsPacketAt packets place (Call from mirror.server xid cred.0 gid (Write mirror.fileid at synced bytes))

-- what was applied was sent
abbrev pub IsWriteCalled : List PacketValue → Entry → Type 0
IsWriteCalled packets (Applied mirror cred at bytes) = HasWriteCall packets mirror cred at bytes
IsWriteCalled packets _ = Unit {0}

abbrev pub AreWritesCalled : List PacketValue → List Entry → Type 0
AreWritesCalled packets journal = AllByRecursion (IsWriteCalled packets) journal
