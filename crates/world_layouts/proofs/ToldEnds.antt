-- Ends of periods in a world's journal are those that its metadata server entered.
use Rattle.std.proofs.Common.{◌≡◌, ℕ, true, List, [], ◌∷◌, ◌++◌, refl, sym, ap, subst, ◌∙◌}
use Rattle.std.specs.List.{AllByRecursion}
use Rattle.cluster_model.specs.declared.ids.NodeId.{NodeId}
use Rattle.cluster_model.specs.declared.ids.NodeId.TheVariants.{Mds, Server, Client}
use Rattle.cluster_model.specs.declared.ids.FileId.{FileId}
use Rattle.cluster_model.specs.declared.ids.Cred.{Cred}
use Rattle.cluster_model.specs.declared.phase.EndCause.{EndCause}
use Rattle.cluster_model.specs.declared.entry.Entry.{Entry}
use Rattle.cluster_model.specs.declared.entry.Entry.TheVariants as entry
use Rattle.cluster_laws.specs.Agreement.{cause_in, causes_of}
use Rattle.world_rule.specs.ClusterWorlds.{ClusterState}
use Rattle.mds_rule.specs.Spelled.{spelled_send}
use Rattle.mds_walk.specs.MdsRuns.{MdsEvent}
use Rattle.mds_histories.specs.MdsHistory.{MdsItem, Comes, Enters, Sends}
use Rattle.mds_histories.specs.MdsHistory as of_mds
use Rattle.node_histories.specs.Weaves.{IsEntry, IsUnseen, WeaveStep, Passes, Unseen, Seen, entries_in, items_in, IsSendingOf, StandsInWeave}
use Rattle.node_histories.specs.NodeHistories.{is_client_entry, is_server_entry, is_world_entry, Origin, EnteredByClient, EnteredByMds, EnteredByServer, EnteredByWorld, SentByClient, SentByMds, SentByServer, IsToldByNodes}
use Rattle.world_reads.proofs.Steps.{all_by_places, SamePlace, same_place}
use Rattle.world_reads.proofs.OwnEntries.{no_true, IsSaid, IsToldStep, journal_at}
use Rattle.world_reads.proofs.MdsPlaces.{Steps}

-- an entry of others is no end
abbrev pub IsEndTold : WeaveStep MdsItem → Type 0
IsEndTold (Passes e) = (uid : ℕ) → cause_in uid e ≡ []
IsEndTold (Unseen item) = Unit {0}
IsEndTold (Seen item e) = Unit {0}

module _ (w : ClusterState) (t : IsToldByNodes w) where
  end_passed : (a b : Steps) (file : FileId) (cred : Cred) (cause : EndCause) → t.mds.steps ≡ a ++ Passes (entry.Ended file cred cause) ∷ b → ⊥
  end_passed a b file cred cause is = by_origin (entry.Ended file cred cause) refl (t.origins (entries_in a) (entries_in b) (entry.Ended file cred cause) (journal_at w t a (Passes (entry.Ended file cred cause) ∷ b) is))
    where
      passes_not : (item : MdsItem) → Passes (entry.Ended file cred cause) ≡ Seen item (entry.Ended file cred cause) → ⊥
      passes_not item same = absurd cc

      no_packet : (number : ℕ) (from to : NodeId) (bytes : List ℕ) → entry.Ended file cred cause ≡ entry.Packet number from to bytes → ⊥
      no_packet number from to bytes same = absurd cc

      by_origin : (e : Entry) → e ≡ entry.Ended file cred cause → Origin t.stories t.mds (entries_in a) e → ⊥
      by_origin e same (EnteredByClient n l life kind stands) = no_true (subst (λ (x : Entry). is_client_entry x ≡ true) same kind)
      by_origin e same (EnteredByMds kind stands) =
          let s : StandsInWeave [] t.mds.steps (entries_in a) (Enters (entry.Ended file cred cause)) (entry.Ended file cred cause) = subst (λ (x : Entry). StandsInWeave [] t.mds.steps (entries_in a) (Enters x) x) same stands in
          let p : SamePlace a b s.earlier s.later (Passes (entry.Ended file cred cause)) (Seen (Enters (entry.Ended file cred cause)) (entry.Ended file cred cause)) =
          same_place a b s.earlier s.later (Passes (entry.Ended file cred cause)) (Seen (Enters (entry.Ended file cred cause)) (entry.Ended file cred cause)) (sym is ∙ s.split) s.place tt tt in
          passes_not (Enters (entry.Ended file cred cause)) p.step
      by_origin e same (EnteredByServer kind) = no_true (subst (λ (x : Entry). is_server_entry x ≡ true) same kind)
      by_origin e same (EnteredByWorld kind) = no_true (subst (λ (x : Entry). is_world_entry x ≡ true) same kind)
      by_origin e same (SentByClient n number to bytes l send packet life stands) = no_packet number (Client n) to bytes (sym same ∙ packet)
      by_origin e same (SentByMds number to bytes send packet stands) = no_packet number Mds to bytes (sym same ∙ packet)
      by_origin e same (SentByServer n number to bytes packet answers) = no_packet number (Server n) to bytes (sym same ∙ packet)

  told_at : (a b : Steps) (s : WeaveStep MdsItem) → t.mds.steps ≡ a ++ s ∷ b → IsEndTold s
  told_at a b (Passes (entry.Ended file cred cause)) is = absurd (end_passed a b file cred cause is)
  told_at a b (Passes e) is = λ uid. refl
  told_at a b (Unseen item) is = tt
  told_at a b (Seen item e) is = tt

  pub ends_told : AllByRecursion IsEndTold t.mds.steps
  ends_told = all_by_places IsEndTold t.mds.steps (λ before s behind is. told_at before behind s is)

coming_cause : (uid : ℕ) (event : MdsEvent) (e : Entry) → IsSaid (Comes event) e → cause_in uid e ≡ []
coming_cause uid event (entry.Delivered number) is = refl
coming_cause uid event e is = absurd is

sending_cause : (uid : ℕ) (to : NodeId) (bytes : List ℕ) (e : Entry) → IsSendingOf Mds to bytes e → cause_in uid e ≡ []
sending_cause uid to bytes (entry.Packet number from at sent) is = refl
sending_cause uid to bytes e is = absurd is

-- the causes of a uid are those of its own entries
pub causes_told : (uid : ℕ) (steps : Steps) → AllByRecursion IsToldStep steps → AllByRecursion IsEndTold steps → causes_of uid (entries_in steps) ≡ causes_of uid (of_mds.entries_in (items_in steps))
causes_told uid [] told ends = refl
causes_told uid (Passes e ∷ steps) told ends = ap (λ (l : List EndCause). l ++ causes_of uid (entries_in steps)) (ends.0 uid) ∙ causes_told uid steps told.1 ends.1
causes_told uid (Unseen (Comes event) ∷ steps) told ends = causes_told uid steps told.1 ends.1
causes_told uid (Unseen (Enters e) ∷ steps) told ends = absurd (unseen_not e told.0)
  where
    unseen_not : (y : Entry) → IsEntry y ≡ IsUnseen → ⊥
    unseen_not y same = absurd cc
causes_told uid (Unseen (Sends send) ∷ steps) told ends = causes_told uid steps told.1 ends.1
causes_told uid (Seen (Comes event) e ∷ steps) told ends = ap (λ (l : List EndCause). l ++ causes_of uid (entries_in steps)) (coming_cause uid event e told.0) ∙ causes_told uid steps told.1 ends.1
causes_told uid (Seen (Enters y) e ∷ steps) told ends = ap (λ (z : Entry). cause_in uid z ++ causes_of uid (entries_in steps)) told.0 ∙ ap (λ (l : List EndCause). cause_in uid y ++ l) (causes_told uid steps told.1 ends.1)
causes_told uid (Seen (Sends send) e ∷ steps) told ends =
    ap (λ (l : List EndCause). l ++ causes_of uid (entries_in steps)) (sending_cause uid (spelled_send send).0 (spelled_send send).1 e told.0) ∙ causes_told uid steps told.1 ends.1
