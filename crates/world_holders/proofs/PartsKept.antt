-- Those who hold a file keep their part, by the origin of each entry.
use Rattle.std.proofs.Common.{◌≡◌, ℕ, List, ◌∷◌, ◌++◌, inl, inr, ◌⊎◌}
use Rattle.cluster_model.specs.declared.ids.NodeId.{NodeId}
use Rattle.cluster_model.specs.declared.ids.NodeId.TheVariants.{Mds, Server, Client}
use Rattle.cluster_model.specs.declared.ids.FileId.{FileId}
use Rattle.cluster_model.specs.declared.phase.EndCause.{EndCause}
use Rattle.cluster_model.specs.declared.phase.EndCause.TheVariants as ends_as
use Rattle.cluster_model.specs.declared.entry.Entry.{Entry}
use Rattle.cluster_model.specs.declared.entry.Entry.TheVariants as entry
use Rattle.world_rule.specs.ClusterWorlds.{ClusterState}
use Rattle.node_histories.specs.NodeHistories.{IsToldByNodes}
use Rattle.holder_parts.specs.HolderParts.{TakesInPlace, TellsInPlace, EndsOwnNext, EndsInPlace, PostsInPlace, KeepsPart, HoldersKeepParts}
use Rattle.world_holders.proofs.LowerLaws.{HasLaws}
use Rattle.world_holders.proofs.PostsInPlace.{posts_so}
use Rattle.world_holders.proofs.HeldEntries.{IsWhose, OfClient, OfMds, whose_sent, whose_rogue, whose_told}
use Rattle.world_holders.proofs.TakesInPlace.{client_takes, client_strays}
use Rattle.world_holders.proofs.TellsInPlace.{client_tells}
use Rattle.world_holders.proofs.OwnInPlace.{own_takes, own_tells, own_ends}
use Rattle.world_holders.proofs.ReturnsInPlace.{returns_so}

module _ (w : ClusterState) (t : IsToldByNodes w) (laws : HasLaws t) where
  takes_so : (past behind : List Entry) (f : FileId) (uid at : ℕ) (bytes : List ℕ) → w.journal ≡ past ++ entry.Sent f (record { 0 = uid }) at bytes ∷ behind → IsWhose t past (entry.Sent f (record { 0 = uid }) at bytes) → TakesInPlace past f uid at bytes
  takes_so past behind f uid at bytes is (OfClient c) = client_takes w t laws past behind f uid at bytes is c
  takes_so past behind f uid at bytes is (OfMds s) = own_takes w t laws past behind f uid at bytes is s

  tells_so : (past behind : List Entry) (f : FileId) (uid at : ℕ) (bytes : List ℕ) → w.journal ≡ past ++ entry.Told f (record { 0 = uid }) at bytes ∷ behind → IsWhose t past (entry.Told f (record { 0 = uid }) at bytes)
      → TellsInPlace past f uid at bytes ⊎ EndsOwnNext behind f uid
  tells_so past behind f uid at bytes is (OfClient c) = inl (client_tells w t laws past behind f uid at bytes is c)
  tells_so past behind f uid at bytes is (OfMds s) = inr (own_tells w t laws past behind f uid at bytes is s)

  ends_so : (past behind : List Entry) (f : FileId) (uid : ℕ) (cause : EndCause) → w.journal ≡ past ++ entry.Ended f (record { 0 = uid }) cause ∷ behind → EndsInPlace past f uid cause
  ends_so past behind f uid ends_as.Returned is = returns_so w t laws past behind f uid is
  ends_so past behind f uid ends_as.Own is = own_ends w t laws past behind f uid is
  ends_so past behind f uid ends_as.AllReported is = tt
  ends_so past behind f uid ends_as.Recalled is = tt
  ends_so past behind f uid ends_as.Lease is = tt
  ends_so past behind f uid ends_as.NoLayout is = tt
  ends_so past behind f uid ends_as.ClientGone is = tt
  ends_so past behind f uid ends_as.ReturnedAll is = tt

  posted_so : (past behind : List Entry) (number : ℕ) (from to : NodeId) (bytes : List ℕ) → w.journal ≡ past ++ entry.Packet number from to bytes ∷ behind → PostsInPlace past from to bytes
  posted_so past behind number (Client n) (Server server) bytes is = posts_so w t laws past behind number n server bytes is
  posted_so past behind number (Client n) Mds bytes is = tt
  posted_so past behind number (Client n) (Client m) bytes is = tt
  posted_so past behind number Mds to bytes is = tt
  posted_so past behind number (Server n) to bytes is = tt

  keeps_part : (past behind : List Entry) (e : Entry) → w.journal ≡ past ++ e ∷ behind → KeepsPart past e behind
  keeps_part past behind (entry.Sent f cred at bytes) is = takes_so past behind f cred.0 at bytes is (whose_sent w t past behind f cred at bytes is)
  keeps_part past behind (entry.Rogue f cred at bytes) is = client_strays w t laws past behind f cred.0 at bytes is (whose_rogue w t past behind f cred at bytes is)
  keeps_part past behind (entry.Told f cred at bytes) is = tells_so past behind f cred.0 at bytes is (whose_told w t past behind f cred at bytes is)
  keeps_part past behind (entry.Ended f cred cause) is = ends_so past behind f cred.0 cause is
  keeps_part past behind (entry.Packet number from to bytes) is = posted_so past behind number from to bytes is
  keeps_part past behind e is = tt

  pub holders_keep_parts : HoldersKeepParts w.journal
  holders_keep_parts past behind e is = keeps_part past behind e is
