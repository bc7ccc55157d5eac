-- What the metadata server tells, and what ends as its own, was its own write, under a uid that was granted to it (RFC 8881, section 18.32).
use Rattle.std.proofs.Common.{◌≡◌, ℕ, List, [], ◌∷◌, ◌++◌, refl, ap, ◌∙◌, append_assoc}
use Rattle.cluster_model.specs.declared.ids.NodeId.TheVariants.{Mds}
use Rattle.cluster_model.specs.declared.ids.FileId.{FileId}
use Rattle.cluster_model.specs.declared.phase.EndCause.TheVariants.{Own}
use Rattle.cluster_model.specs.declared.entry.Entry.{Entry}
use Rattle.cluster_model.specs.declared.entry.Entry.TheVariants.{Sent, Told, Ended}
use Rattle.world_rule.specs.ClusterWorlds.{ClusterState}
use Rattle.mds_histories.specs.MdsHistory.{Enters}
use Rattle.node_histories.specs.Weaves.{Seen, entries_in}
use Rattle.node_histories.specs.NodeHistories.{IsToldByNodes}
use Rattle.world_holders.proofs.LowerLaws.{HasLaws}
use Rattle.mds_laws.specs.OwnPeriods.{WasSentBefore, FollowsTold}
use Rattle.world_holders.proofs.JournalGrants.{grant_to}
use Rattle.world_holders.proofs.OwnPlaces.{run_to, IsOwnAt, run_at, own_periods, OwnBefore, own_before, OwnSent, own_sent}

module _ (w : ClusterState) (t : IsToldByNodes w) (laws : HasLaws t) where
  -- a write of the metadata server's own, before this
  pub record OwnWrite (past : List Entry) (f : FileId) (uid at : ℕ) (bytes : List ℕ) : Type 0 where
    pub before : List Entry
    pub behind : List Entry
    pub split : past ≡ before ++ Sent f (record { 0 = uid }) at bytes ∷ behind
    pub stands : IsOwnAt w t laws before (Sent f (record { 0 = uid }) at bytes)

  own_write : (past : List Entry) (e : Entry) (s : IsOwnAt w t laws past e) (before behind : List Entry) (f : FileId) (uid at : ℕ) (bytes : List ℕ) → run_to s.earlier ≡ before ++ Sent f (record { 0 = uid }) at bytes ∷ behind → OwnWrite past f uid at bytes
  own_write past e s before behind f uid at bytes is =
      let o : OwnBefore w t laws past e s before (Sent f (record { 0 = uid }) at bytes) behind = own_before w t laws past e s before (Sent f (record { 0 = uid }) at bytes) behind is in
      record {
        before = entries_in o.step.earlier;
        behind = entries_in o.step.later;
        split = o.journal;
        stands = record { earlier = o.step.earlier; later = o.step.later ++ Seen (Enters e) e ∷ s.later; split = o.whole; place = refl };
      }

  -- what it tells it sent
  pub told_write : (past : List Entry) (f : FileId) (uid at : ℕ) (bytes : List ℕ) → IsOwnAt w t laws past (Told f (record { 0 = uid }) at bytes) → OwnWrite past f uid at bytes
  told_write past f uid at bytes s =
      let was : WasSentBefore f (record { 0 = uid }) at bytes (run_to s.earlier) =
      ((own_periods w t laws).told (run_to s.earlier) (run_to s.later) f (record { 0 = uid }) at bytes (run_at w t laws past (Told f (record { 0 = uid }) at bytes) s)).0 in
      own_write past (Told f (record { 0 = uid }) at bytes) s was.before was.behind f uid at bytes was.is

  -- a period that ends as its own had a write of it
  pub record OwnEnd (past : List Entry) (f : FileId) (uid : ℕ) : Type 0 where
    pub at : ℕ
    pub bytes : List ℕ
    pub write : OwnWrite past f uid at bytes

  pub own_end : (past : List Entry) (f : FileId) (uid : ℕ) → IsOwnAt w t laws past (Ended f (record { 0 = uid }) Own) → OwnEnd past f uid
  own_end past f uid s =
      let told : FollowsTold f (record { 0 = uid }) (run_to s.earlier) = (own_periods w t laws).ended (run_to s.earlier) (run_to s.later) f (record { 0 = uid }) (run_at w t laws past (Ended f (record { 0 = uid }) Own) s) in
      let was : WasSentBefore f (record { 0 = uid }) told.at told.bytes told.before =
      ((own_periods w t laws).told told.before (Ended f (record { 0 = uid }) Own ∷ run_to s.later) f (record { 0 = uid }) told.at told.bytes
      (run_at w t laws past (Ended f (record { 0 = uid }) Own) s
      ∙ (ap (λ (l : List Entry). l ++ Ended f (record { 0 = uid }) Own ∷ run_to s.later) told.is ∙ append_assoc told.before (Told f (record { 0 = uid }) told.at told.bytes ∷ []) (Ended f (record { 0 = uid }) Own ∷ run_to s.later)))).0 in
      record {
        at = told.at;
        bytes = told.bytes;
        write =
            own_write past (Ended f (record { 0 = uid }) Own) s was.before (was.behind ++ Told f (record { 0 = uid }) told.at told.bytes ∷ []) f uid told.at told.bytes
            (told.is
            ∙ (ap (λ (l : List Entry). l ++ Told f (record { 0 = uid }) told.at told.bytes ∷ []) was.is
            ∙ append_assoc was.before (Sent f (record { 0 = uid }) told.at told.bytes ∷ was.behind) (Told f (record { 0 = uid }) told.at told.bytes ∷ [])));
      }

  -- the uid of a write of its own was granted to it
  pub record OwnGrant (f : FileId) (uid : ℕ) : Type 0 where
    pub before : List Entry
    pub behind : List Entry
    pub is : w.journal ≡ before ++ grant_to f uid Mds ∷ behind

  pub sent_grant : (past behind : List Entry) (f : FileId) (uid at : ℕ) (bytes : List ℕ) → IsOwnAt w t laws past (Sent f (record { 0 = uid }) at bytes) → w.journal ≡ past ++ behind → OwnGrant f uid
  sent_grant past behind f uid at bytes s is =
      let o : OwnSent w t laws past f uid at bytes s = own_sent w t laws past f uid at bytes s in
      record {
        before = entries_in o.grant.step.earlier;
        behind = entries_in o.grant.step.later ++ behind;
        is = is ∙ (ap (λ (l : List Entry). l ++ behind) o.grant.journal ∙ append_assoc (entries_in o.grant.step.earlier) (grant_to f uid Mds ∷ entries_in o.grant.step.later) behind);
      }

  pub write_grant : (past rest : List Entry) (f : FileId) (uid at : ℕ) (bytes : List ℕ) → OwnWrite past f uid at bytes → w.journal ≡ past ++ rest → OwnGrant f uid
  write_grant past rest f uid at bytes o is =
      sent_grant o.before (Sent f (record { 0 = uid }) at bytes ∷ (o.behind ++ rest)) f uid at bytes o.stands
      (is ∙ (ap (λ (l : List Entry). l ++ rest) o.split ∙ append_assoc o.before (Sent f (record { 0 = uid }) at bytes ∷ o.behind) rest))
