-- No period under a uid has ended clean before a client enters something under it.
use Rattle.std.proofs.Common.{◌≡◌, ℕ, false, List, [], ◌∷◌, ◌++◌, refl, sym, ap, ◌∙◌, append_assoc}
use Rattle.cluster_model.specs.declared.ids.FileId.{FileId}
use Rattle.cluster_model.specs.declared.phase.EndCause.{EndCause}
use Rattle.cluster_model.specs.declared.phase.EndCause.TheVariants as ends_as
use Rattle.cluster_model.specs.declared.entry.Entry.{Entry}
use Rattle.cluster_model.specs.declared.entry.Entry.TheVariants.{Ended}
use Rattle.cluster_model.specs.Phases.{is_clean}
use Rattle.cluster_laws.specs.Holders.{HasNotEndedClean}
use Rattle.world_rule.specs.ClusterWorlds.{ClusterState}
use Rattle.client_laws.specs.ClientHistory.{HistoryItem, Enters, client_history}
use Rattle.client_laws.specs.ClientRunLaws.{IsSilent}
use Rattle.node_histories.specs.Weaves.{Seen, items_in}
use Rattle.node_histories.specs.ClientLives.{Life, start_of}
use Rattle.node_histories.specs.NodeHistories.{HasLife, IsToldByNodes}
use Rattle.world_layouts.specs.WorldLayouts.{journal_at, WasReturnedBy}
use Rattle.world_holders.proofs.LowerLaws.{HasLaws}
use Rattle.client_sessions.specs.EnteredFiles.{HasGrantFor}
use Rattle.world_holders.proofs.LifePlaces.{LifeSteps}
use Rattle.world_holders.proofs.UserEntries.{each_cause}
use Rattle.world_holders.proofs.HeldEntries.{ended_by_mds, client_period, not_own, one_life, silent_not}
use Rattle.world_holders.proofs.OwnEnds.{OwnEnd, own_end, OwnGrant, write_grant}

module _ (w : ClusterState) (t : IsToldByNodes w) (laws : HasLaws t) where
  -- an entry of a life, under a grant of it
  module _ (past behind : List Entry) (e : Entry) (whole : w.journal ≡ past ++ e ∷ behind) (n : ℕ) (l : Life) (its : HasLife t.stories n l) (earlier later : LifeSteps) (split : l.steps ≡ earlier ++ Seen (Enters e) e ∷ later)
      (place : past ≡ journal_at l earlier) (f : FileId) (uid : ℕ) (h : HasGrantFor (items_in earlier) f uid) where
    pub own_not : (g : FileId) → OwnGrant w t laws g uid → ⊥
    own_not g o =
        not_own w t laws (journal_at l earlier) (e ∷ behind) (whole ∙ ap (λ (j : List Entry). j ++ e ∷ behind) place) n f g uid h.grant (client_period w t laws n l its earlier (Seen (Enters e) e ∷ later) split f uid h) o.before o.behind o.is

    pub ended_at : (a b : List Entry) (g : FileId) (cause : EndCause) → past ≡ a ++ Ended g (record { 0 = uid }) cause ∷ b → w.journal ≡ a ++ Ended g (record { 0 = uid }) cause ∷ (b ++ e ∷ behind)
    ended_at a b g cause is = whole ∙ (ap (λ (j : List Entry). j ++ e ∷ behind) is ∙ append_assoc a (Ended g (record { 0 = uid }) cause ∷ b) (e ∷ behind))

    returned_life : (a : List Entry) (g : FileId) (r : WasReturnedBy t a g uid) → l ≡ r.life
    returned_life a g r =
        (one_life w t laws n r.n l r.life its r.its earlier (Seen (Enters e) e ∷ later) r.earlier _ split r.split h.grant r.grant h.granted r.granted (h.its_uid ∙ sym r.its_uid)).1

    module _ (extra rest : List HistoryItem) (history : client_history (start_of n l) l.inputs ≡ (items_in earlier ++ extra) ++ rest) (silent : IsSilent (items_in earlier ++ extra) uid) where
      not_returned : (a b : List Entry) (g : FileId) → past ≡ a ++ Ended g (record { 0 = uid }) ends_as.Returned ∷ b → ⊥
      not_returned a b g is =
          let r : WasReturnedBy t a g uid = laws.sent a (b ++ e ∷ behind) g uid (ended_at a b g ends_as.Returned is) in
          let journal : journal_at l earlier ≡ (journal_at r.life r.earlier ++ r.posted ∷ []) ++ (r.since ++ Ended g (record { 0 = uid }) ends_as.Returned ∷ b) =
          sym place ∙ (is ∙ (ap (λ (j : List Entry). j ++ Ended g (record { 0 = uid }) ends_as.Returned ∷ b) r.before
          ∙ (append_assoc (journal_at r.life r.earlier) (r.posted ∷ r.since) (Ended g (record { 0 = uid }) ends_as.Returned ∷ b)
          ∙ sym (append_assoc (journal_at r.life r.earlier) (r.posted ∷ []) (r.since ++ Ended g (record { 0 = uid }) ends_as.Returned ∷ b))))) in
          silent_not w t laws a g uid r n l its (returned_life a g r) earlier later (Enters e) e split (r.since ++ Ended g (record { 0 = uid }) ends_as.Returned ∷ b) journal extra rest history silent

      not_ended_own : (a b : List Entry) (g : FileId) → past ≡ a ++ Ended g (record { 0 = uid }) ends_as.Own ∷ b → ⊥
      not_ended_own a b g is =
          let at : w.journal ≡ a ++ Ended g (record { 0 = uid }) ends_as.Own ∷ (b ++ e ∷ behind) = ended_at a b g ends_as.Own is in
          let o : OwnEnd w t laws a g uid = own_end w t laws a g uid (ended_by_mds w t a (b ++ e ∷ behind) g (record { 0 = uid }) ends_as.Own at) in
          own_not g (write_grant w t laws a (Ended g (record { 0 = uid }) ends_as.Own ∷ (b ++ e ∷ behind)) g uid o.at o.bytes o.write at)

      dirty : (cause : EndCause) (a b : List Entry) (g : FileId) → past ≡ a ++ Ended g (record { 0 = uid }) cause ∷ b → is_clean cause ≡ false
      dirty ends_as.Returned a b g is = absurd (not_returned a b g is)
      dirty ends_as.Own a b g is = absurd (not_ended_own a b g is)
      dirty ends_as.AllReported a b g is = refl
      dirty ends_as.Recalled a b g is = refl
      dirty ends_as.Lease a b g is = refl
      dirty ends_as.NoLayout a b g is = refl
      dirty ends_as.ClientGone a b g is = refl
      dirty ends_as.ReturnedAll a b g is = refl

      pub not_ended_clean : HasNotEndedClean past uid
      not_ended_clean = each_cause (λ (cause : EndCause). is_clean cause ≡ false) uid past (λ a b g cause is. dirty cause a b g is)
