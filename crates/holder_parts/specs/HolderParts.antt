-- The part of those who hold a file, told by the journal of a cluster with its packets: who takes a write, lets one stray, tells one, or ends a
-- period as clean, does it as the agreement law asks (RFC 8435, sections 2.2 and 8).
use Rattle.std.specs.Prelude.{◌≡◌, ℕ, true, ◌<◌, ◌⊎◌, List, [], ◌∷◌, ◌++◌, length, Some}
use Rattle.std.specs.List.{AllByRecursion}
use Rattle.cluster_model.specs.declared.ids.NodeId.{NodeId}
use Rattle.cluster_model.specs.declared.ids.NodeId.TheVariants.{Mds, Server, Client}
use Rattle.cluster_model.specs.declared.ids.FileId.{FileId}
use Rattle.cluster_model.specs.declared.ids.MirrorId.{MirrorId}
use Rattle.cluster_model.specs.declared.phase.EndCause.{EndCause}
use Rattle.cluster_model.specs.declared.phase.EndCause.TheVariants.{Returned, Own}
use Rattle.cluster_model.specs.declared.entry.Entry.{Entry}
use Rattle.cluster_model.specs.declared.entry.Entry.TheVariants.{Packet, Granted, Sent, Rogue, Told, Ended}
use Rattle.cluster_model.specs.Content.{Pending}
use Rattle.cluster_laws.specs.Machine.{may_use}
use Rattle.cluster_laws.specs.FenceLaw.{live_in}
use Rattle.cluster_laws.specs.Agreement.{a_write, sent_of, rogue_of}
use Rattle.cluster_laws.specs.Holders.{IsIn, the_write, HasEndedClean, HasNotEndedClean, IsBoundCall, MayTake}
use Rattle.ds_calls.specs.DsCallLaws.{DsMessage, HasRecord, record_of}
use Rattle.holder_parts.specs.CoveredRecords.{IsCoveredIn}

-- a period of this file began under this uid, while these mirrors were live
pub record WasBegun (journal : List Entry) (file : FileId) (uid : ℕ) : Type 0 where
  pub before : List Entry
  pub behind : List Entry
  pub holder : NodeId
  pub split : journal ≡ before ++ Granted file (record { 0 = uid }) holder ∷ behind
  pub mirrors : List MirrorId
  pub live : live_in before file ≡ Some mirrors

-- each write that was taken under a uid is covered at each of these mirrors
abbrev pub AreAllCoveredIn : List Entry → ℕ → List MirrorId → Type 0
AreAllCoveredIn journal uid ids = AllByRecursion (λ id. AllByRecursion (IsCoveredIn journal uid id) (sent_of uid journal)) ids

-- ---- the part of each entry

pub record TakesInPlace (past : List Entry) (file : FileId) (uid at : ℕ) (bytes : List ℕ) : Type 0 where
  pub begun : WasBegun past file uid
  pub may : MayTake past uid at bytes

pub record StraysInPlace (past : List Entry) (file : FileId) (uid : ℕ) : Type 0 where
  pub begun : WasBegun past file uid
  pub not_clean : HasNotEndedClean past uid

-- what is told ended clean, or is covered at every mirror with which its period began
pub record IsCoveredWhereBegun (past : List Entry) (file : FileId) (uid at : ℕ) (bytes : List ℕ) : Type 0 where
  pub some : 0 < length bytes
  pub sent : IsIn (the_write at bytes) (sent_of uid past)
  pub begun : WasBegun past file uid
  pub covered : AllByRecursion (λ id. IsCoveredIn past uid id (the_write at bytes)) begun.mirrors

pub record TellsInPlace (past : List Entry) (file : FileId) (uid at : ℕ) (bytes : List ℕ) : Type 0 where
  pub begun : WasBegun past file uid
  pub may : HasEndedClean past uid ⊎ IsCoveredWhereBegun past file uid at bytes

-- the metadata server tells its own write, whose period ends next
abbrev pub EndsOwnNext : List Entry → FileId → ℕ → Type 0
EndsOwnNext [] file uid = ⊥
EndsOwnNext (e ∷ behind) file uid = e ≡ Ended file (record { 0 = uid }) Own

-- A period that ends as returned: nothing strayed under its uid, and each write that was taken is covered at each mirror that is live then. One
-- that ends as the metadata server's own: nothing strayed, and the write that is told right before is the only one.
pub record ReturnsInPlace (past : List Entry) (file : FileId) (uid : ℕ) : Type 0 where
  pub follows : rogue_of uid past ≡ []
  pub covered : (ids : List MirrorId) → live_in past file ≡ Some ids → AreAllCoveredIn past uid ids

pub record EndsOwnInPlace (past : List Entry) (file : FileId) (uid : ℕ) : Type 0 where
  pub follows : rogue_of uid past ≡ []
  pub one : (before : List Entry) (at : ℕ) (bytes : List ℕ) → past ≡ before ++ Told file (record { 0 = uid }) at bytes ∷ [] → sent_of uid past ≡ a_write at bytes

abbrev pub EndsInPlace : List Entry → FileId → ℕ → EndCause → Type 0
EndsInPlace past file uid Returned = ReturnsInPlace past file uid
EndsInPlace past file uid Own = EndsOwnInPlace past file uid
EndsInPlace past file uid cause = Unit {0}

-- what a client sends a data server is a call of a user, and a WRITE of what was taken or strayed under its uid
pub record IsPostedCall (past : List Entry) (bytes : List ℕ) : Type 0 where
  pub message : DsMessage
  pub fits : HasRecord message
  pub is : bytes ≡ record_of message
  pub may : may_use message.call ≡ true
  pub bound : IsBoundCall past message.user message.call

abbrev pub PostsInPlace : List Entry → NodeId → NodeId → List ℕ → Type 0
PostsInPlace past (Client c) (Server n) bytes = IsPostedCall past bytes
PostsInPlace past from to bytes = Unit {0}

-- the entry, by those before it and behind it
abbrev pub KeepsPart : List Entry → Entry → List Entry → Type 0
KeepsPart past (Sent file uid at bytes) behind = TakesInPlace past file uid.0 at bytes
KeepsPart past (Rogue file uid at bytes) behind = StraysInPlace past file uid.0
KeepsPart past (Told file uid at bytes) behind = TellsInPlace past file uid.0 at bytes ⊎ EndsOwnNext behind file uid.0
KeepsPart past (Ended file uid cause) behind = EndsInPlace past file uid.0 cause
KeepsPart past (Packet number from to bytes) behind = PostsInPlace past from to bytes
KeepsPart past e behind = Unit {0}

-- ---- a journal

abbrev pub HoldersKeepParts : List Entry → Type 0
HoldersKeepParts journal = (past behind : List Entry) (e : Entry) → journal ≡ past ++ e ∷ behind → KeepsPart past e behind
