-- The metadata server keeps its part with its own writes (RFC 8881, section 18.32).
use Rattle.std.proofs.Common.{◌≡◌, ℕ, false, List, [], ◌∷◌, ◌++◌, Some, refl, sym, ap, subst, ◌∙◌, append_assoc, append-nil}
use Rattle.std.specs.Prelude.{map}
use Rattle.std.proofs.lemmas.List.{append_cancel_left}
use Rattle.cluster_model.specs.declared.ids.NodeId.TheVariants.{Mds}
use Rattle.cluster_model.specs.declared.ids.FileId.{FileId}
use Rattle.cluster_model.specs.declared.ids.MirrorId.{MirrorId}
use Rattle.cluster_model.specs.declared.phase.EndCause.{EndCause}
use Rattle.cluster_model.specs.declared.phase.EndCause.TheVariants as ends_as
use Rattle.cluster_model.specs.declared.entry.Entry.{Entry}
use Rattle.cluster_model.specs.declared.entry.Entry.TheVariants.{Sent, Rogue, Told, Ended}
use Rattle.cluster_model.specs.Content.{Pending}
use Rattle.cluster_model.specs.Laws.{AreDisjoint}
use Rattle.cluster_model.specs.Phases.{is_clean}
use Rattle.cluster_laws.specs.Agreement.{a_write, sent_of, rogue_of}
use Rattle.cluster_laws.specs.FenceLaw.{live_in}
use Rattle.world_rule.specs.ClusterWorlds.{ClusterState}
use Rattle.client_laws.specs.ClientHistory as client
use Rattle.mds_rule.specs.MdsStates.{new_mds}
use Rattle.mds_walk.specs.MdsRuns.{after_event, run_from, mds_run}
use Rattle.mds_histories.specs.MdsHistory.{MdsItem, Enters, Sends, mds_history}
use Rattle.mds_histories.proofs.Histories.{mds_after}
use Rattle.mds_histories.proofs.Places.{IsOfEvent, of_event, IsEntryOf, entry_of}
use Rattle.mds_replies.proofs.Periods.{entries_behind}
use Rattle.node_histories.specs.Weaves.{Seen, entries_in, items_in}
use Rattle.node_histories.specs.ClientLives.{Life}
use Rattle.node_histories.specs.NodeHistories.{HasLife, IsToldByNodes}
use Rattle.node_histories.proofs.WeaveLemmas.{entries_join, items_join}
use Rattle.holder_parts.specs.HolderParts.{WasBegun, TakesInPlace, EndsOwnNext, EndsOwnInPlace}
use Rattle.world_layouts.specs.WorldLayouts.{journal_at, WasReturnedBy}
use Rattle.world_holders.proofs.LowerLaws.{HasLaws}
use Rattle.mds_laws.specs.OwnPeriods.{BeginsWithEnd}
use Rattle.client_sessions.specs.EnteredFiles.{HasGrantFor, EntersForFile}
use Rattle.world_holders.proofs.LifePlaces.{LifeSteps, LifeIs, life_of, life_journal}
use Rattle.world_holders.proofs.UserEntries.{EachSent, each_sent, no_sent, no_rogue, each_cause, one_sent}
use Rattle.world_holders.proofs.PostsInPlace.{law_at}
use Rattle.world_holders.proofs.JournalGrants.{grant_to, live_at_grant}
use Rattle.world_holders.proofs.OwnPlaces.{MdsSteps, IsOwnAt, OwnSent, own_sent, one_own_sent}
use Rattle.world_holders.proofs.OwnEnds.{OwnWrite, told_write, OwnEnd, own_end, OwnGrant, sent_grant, write_grant}
use Rattle.world_holders.proofs.HeldEntries.{ClientEntry, IsWhose, OfClient, OfMds, whose_sent, whose_rogue, whose_told, ended_by_mds, client_period, not_own}

module _ (w : ClusterState) (t : IsToldByNodes w) (laws : HasLaws t) where
  -- ---- under a uid of the metadata server's own no client enters anything

  no_grant : (n : ℕ) (l : Life) → HasLife t.stories n l → (earlier later : LifeSteps) → l.steps ≡ earlier ++ later → (f g : FileId) (uid : ℕ) → HasGrantFor (items_in earlier) f uid → OwnGrant w t laws g uid → ⊥
  no_grant n l its earlier later split f g uid h o =
      let i : LifeIs w t laws.clients.numbered n l = life_of w t laws.clients.numbered n l its in
      not_own w t laws (journal_at l earlier) (entries_in later ++ i.facts.rest) (life_journal w t laws.clients.numbered n l i earlier later split) n f g uid h.grant (client_period w t laws n l its earlier later split f uid h) o.before o.behind o.is

  no_client : (a : List Entry) (x : Entry) (k : ClientEntry t a x) (f g : FileId) (uid : ℕ) → HasGrantFor (items_in k.earlier) f uid → OwnGrant w t laws g uid → ⊥
  no_client a x k f g uid h o = no_grant k.n k.life k.its k.earlier (Seen (client.Enters x) x ∷ k.later) k.split f g uid h o

  sent_not : (a : List Entry) (f g : FileId) (uid at : ℕ) (bytes : List ℕ) → ClientEntry t a (Sent f (record { 0 = uid }) at bytes) → OwnGrant w t laws g uid → ⊥
  sent_not a f g uid at bytes k o =
      no_client a (Sent f (record { 0 = uid }) at bytes) k f g uid
      (law_at w t laws EntersForFile laws.clients.files k.n k.life (life_of w t laws.clients.numbered k.n k.life k.its) k.earlier k.later (client.Enters (Sent f (record { 0 = uid }) at bytes)) (Sent f (record { 0 = uid }) at bytes) k.split) o

  rogue_not : (a : List Entry) (f g : FileId) (uid at : ℕ) (bytes : List ℕ) → ClientEntry t a (Rogue f (record { 0 = uid }) at bytes) → OwnGrant w t laws g uid → ⊥
  rogue_not a f g uid at bytes k o =
      no_client a (Rogue f (record { 0 = uid }) at bytes) k f g uid
      (law_at w t laws EntersForFile laws.clients.files k.n k.life (life_of w t laws.clients.numbered k.n k.life k.its) k.earlier k.later (client.Enters (Rogue f (record { 0 = uid }) at bytes)) (Rogue f (record { 0 = uid }) at bytes) k.split) o

  told_not : (a : List Entry) (f g : FileId) (uid at : ℕ) (bytes : List ℕ) → ClientEntry t a (Told f (record { 0 = uid }) at bytes) → OwnGrant w t laws g uid → ⊥
  told_not a f g uid at bytes k o =
      no_client a (Told f (record { 0 = uid }) at bytes) k f g uid
      (law_at w t laws EntersForFile laws.clients.files k.n k.life (life_of w t laws.clients.numbered k.n k.life k.its) k.earlier k.later (client.Enters (Told f (record { 0 = uid }) at bytes)) (Told f (record { 0 = uid }) at bytes) k.split) o

  returned_not : (a behind : List Entry) (f g : FileId) (uid : ℕ) → w.journal ≡ a ++ Ended f (record { 0 = uid }) ends_as.Returned ∷ behind → OwnGrant w t laws g uid → ⊥
  returned_not a behind f g uid is o =
      let r : WasReturnedBy t a f uid = laws.sent a behind f uid is in
      no_grant r.n r.life r.its r.earlier _ r.split r.granted.file.file g uid (record { grant = r.grant; granted = r.granted; its_uid = r.its_uid; its_file = refl }) o

  -- the journal at an entry before another
  at_front : (past behind a b : List Entry) (e x : Entry) → w.journal ≡ past ++ e ∷ behind → past ≡ a ++ x ∷ b → w.journal ≡ a ++ x ∷ (b ++ e ∷ behind)
  at_front past behind a b e x is split = is ∙ (ap (λ (j : List Entry). j ++ e ∷ behind) split ∙ append_assoc a (x ∷ b) (e ∷ behind))

  -- nothing of an own uid strays
  pub own_follows : (past behind : List Entry) (e : Entry) (g : FileId) (uid : ℕ) → w.journal ≡ past ++ e ∷ behind → OwnGrant w t laws g uid → rogue_of uid past ≡ []
  own_follows past behind e g uid is o =
      no_rogue uid past
      (λ a b f pos other split.
      rogue_not a f g uid pos other (whose_rogue w t a (b ++ e ∷ behind) f (record { 0 = uid }) pos other (at_front past behind a b e (Rogue f (record { 0 = uid }) pos other) is split)) o)

  -- ---- it takes a write

  module _ (past behind : List Entry) (f : FileId) (uid at : ℕ) (bytes : List ℕ) (is : w.journal ≡ past ++ Sent f (record { 0 = uid }) at bytes ∷ behind) (s : IsOwnAt w t laws past (Sent f (record { 0 = uid }) at bytes)) where
    o : OwnSent w t laws past f uid at bytes s
    o = own_sent w t laws past f uid at bytes s

    grant : OwnGrant w t laws f uid
    grant = sent_grant w t laws past (Sent f (record { 0 = uid }) at bytes ∷ behind) f uid at bytes s is

    begun : WasBegun past f uid
    begun =
        let live : (mirrors : List MirrorId) × (live_in (entries_in o.grant.step.earlier) f ≡ Some mirrors) =
        live_at_grant w.journal laws.periods laws.fences (entries_in o.grant.step.earlier) (entries_in o.grant.step.later ++ Sent f (record { 0 = uid }) at bytes ∷ behind) f uid Mds
        (is ∙ (ap (λ (j : List Entry). j ++ Sent f (record { 0 = uid }) at bytes ∷ behind) o.grant.journal ∙ append_assoc (entries_in o.grant.step.earlier) (grant_to f uid Mds ∷ entries_in o.grant.step.later) (Sent f (record { 0 = uid }) at bytes ∷ behind))) in
        record { before = entries_in o.grant.step.earlier; behind = entries_in o.grant.step.later; holder = Mds; split = o.grant.journal; mirrors = live.0; live = live.1 }

    first_so : (a b : List Entry) (g : FileId) (pos : ℕ) (other : List ℕ) → past ≡ a ++ Sent g (record { 0 = uid }) pos other ∷ b → IsWhose t a (Sent g (record { 0 = uid }) pos other) → ⊥
    first_so a b g pos other split (OfClient k) = sent_not a g f uid pos other k grant
    first_so a b g pos other split (OfMds k) =
        one_own_sent w t laws a past (b ++ Sent f (record { 0 = uid }) at bytes ∷ behind) behind b g f uid pos at other bytes k s (at_front past behind a b (Sent f (record { 0 = uid }) at bytes) (Sent g (record { 0 = uid }) pos other) is split) is split

    end_so : (a b : List Entry) (g : FileId) → past ≡ a ++ Ended g (record { 0 = uid }) ends_as.Own ∷ b → OwnEnd w t laws a g uid → ⊥
    end_so a b g split k =
        let front : past ≡ k.write.before ++ Sent g (record { 0 = uid }) k.at k.bytes ∷ (k.write.behind ++ Ended g (record { 0 = uid }) ends_as.Own ∷ b) =
        split ∙ (ap (λ (j : List Entry). j ++ Ended g (record { 0 = uid }) ends_as.Own ∷ b) k.write.split ∙ append_assoc k.write.before (Sent g (record { 0 = uid }) k.at k.bytes ∷ k.write.behind) (Ended g (record { 0 = uid }) ends_as.Own ∷ b)) in
        first_so k.write.before (k.write.behind ++ Ended g (record { 0 = uid }) ends_as.Own ∷ b) g k.at k.bytes front (OfMds k.write.stands)

    dirty : (cause : EndCause) (a b : List Entry) (g : FileId) → past ≡ a ++ Ended g (record { 0 = uid }) cause ∷ b → is_clean cause ≡ false
    dirty ends_as.Returned a b g split = absurd (returned_not a (b ++ Sent f (record { 0 = uid }) at bytes ∷ behind) g f uid (at_front past behind a b (Sent f (record { 0 = uid }) at bytes) (Ended g (record { 0 = uid }) ends_as.Returned) is split) grant)
    dirty ends_as.Own a b g split =
        absurd
        (end_so a b g split
        (own_end w t laws a g uid (ended_by_mds w t a (b ++ Sent f (record { 0 = uid }) at bytes ∷ behind) g (record { 0 = uid }) ends_as.Own (at_front past behind a b (Sent f (record { 0 = uid }) at bytes) (Ended g (record { 0 = uid }) ends_as.Own) is split))))
    dirty ends_as.AllReported a b g split = refl
    dirty ends_as.Recalled a b g split = refl
    dirty ends_as.Lease a b g split = refl
    dirty ends_as.NoLayout a b g split = refl
    dirty ends_as.ClientGone a b g split = refl
    dirty ends_as.ReturnedAll a b g split = refl

    pub own_takes : TakesInPlace past f uid at bytes
    own_takes = record {
      begun = begun;
      may = record {
        some = o.some;
        apart = each_sent (λ (v : Pending). AreDisjoint v.at v.bytes at bytes) uid past
            (λ a b g pos other split. absurd (first_so a b g pos other split (whose_sent w t a (b ++ Sent f (record { 0 = uid }) at bytes ∷ behind) g (record { 0 = uid }) pos other (at_front past behind a b (Sent f (record { 0 = uid }) at bytes) (Sent g (record { 0 = uid }) pos other) is split))));
        follows = own_follows past behind (Sent f (record { 0 = uid }) at bytes) f uid is grant;
        not_clean = each_cause (λ (cause : EndCause). is_clean cause ≡ false) uid past (λ a b g cause split. dirty cause a b g split);
      };
    }

  -- ---- it tells it, and the period ends

  pub own_tells : (past behind : List Entry) (f : FileId) (uid at : ℕ) (bytes : List ℕ) → w.journal ≡ past ++ Told f (record { 0 = uid }) at bytes ∷ behind → IsOwnAt w t laws past (Told f (record { 0 = uid }) at bytes) → EndsOwnNext behind f uid
  own_tells past behind f uid at bytes is s = subst (λ (j : List Entry). EndsOwnNext j f uid) (sym (rest_is ∙ next.1)) refl
    where
      tail : (x : Entry) (a b : List Entry) → x ∷ a ≡ x ∷ b → a ≡ b
      tail x a b both = cc

      rest_is : behind ≡ entries_in s.later
      rest_is =
          tail (Told f (record { 0 = uid }) at bytes) behind (entries_in s.later)
          (append_cancel_left past (Told f (record { 0 = uid }) at bytes ∷ behind) (Told f (record { 0 = uid }) at bytes ∷ entries_in s.later)
          (sym is ∙ (sym t.mds_is.told ∙ (ap (λ (l : MdsSteps). entries_in l) s.split ∙ (entries_join s.earlier (Seen (Enters (Told f (record { 0 = uid }) at bytes)) (Told f (record { 0 = uid }) at bytes) ∷ s.later)
          ∙ ap (λ (l : List Entry). l ++ Told f (record { 0 = uid }) at bytes ∷ entries_in s.later) (sym s.place))))))

      e : IsOfEvent (new_mds t.mds.servers t.mds.mirrors) t.mds.events (items_in s.earlier) (items_in s.later) (Enters (Told f (record { 0 = uid }) at bytes))
      e =
          of_event t.mds.events (new_mds t.mds.servers t.mds.mirrors) (items_in s.earlier) (items_in s.later) (Enters (Told f (record { 0 = uid }) at bytes))
          (t.mds_is.history ∙ (ap (λ (l : MdsSteps). items_in l) s.split ∙ items_join s.earlier (Seen (Enters (Told f (record { 0 = uid }) at bytes)) (Told f (record { 0 = uid }) at bytes) ∷ s.later)))

      x : IsEntryOf e.event (after_event e.event (mds_after (new_mds t.mds.servers t.mds.mirrors) e.past)) e.front e.back (Told f (record { 0 = uid }) at bytes)
      x = entry_of e.event (after_event e.event (mds_after (new_mds t.mds.servers t.mds.mirrors) e.past)) e.front e.back (Told f (record { 0 = uid }) at bytes) e.items

      run : (mds_run t.mds.servers t.mds.mirrors (e.past ++ e.event ∷ [])).entries ≡ ((run_from (new_mds t.mds.servers t.mds.mirrors) e.past).entries ++ x.first) ++ Told f (record { 0 = uid }) at bytes ∷ x.last
      run =
          entries_behind (new_mds t.mds.servers t.mds.mirrors) e.past (e.event ∷ [])
          ∙ (ap (λ (l : List Entry). (run_from (new_mds t.mds.servers t.mds.mirrors) e.past).entries ++ l) (append-nil (after_event e.event (mds_after (new_mds t.mds.servers t.mds.mirrors) e.past)).entries ∙ x.entries)
          ∙ sym (append_assoc (run_from (new_mds t.mds.servers t.mds.mirrors) e.past).entries x.first (Told f (record { 0 = uid }) at bytes ∷ x.last)))

      ends : BeginsWithEnd f (record { 0 = uid }) x.last
      ends = ((laws.own t.mds.servers t.mds.mirrors (e.past ++ e.event ∷ [])).told ((run_from (new_mds t.mds.servers t.mds.mirrors) e.past).entries ++ x.first) x.last f (record { 0 = uid }) at bytes run).1

      next : (rest : List Entry) × (entries_in s.later ≡ Ended f (record { 0 = uid }) ends_as.Own ∷ rest)
      next =
          laws.together s.earlier s.later (Told f (record { 0 = uid }) at bytes) (Ended f (record { 0 = uid }) ends_as.Own) (Told f (record { 0 = uid }) at bytes)
          ((map Enters ends.behind ++ map Sends (after_event e.event (mds_after (new_mds t.mds.servers t.mds.mirrors) e.past)).sends) ++ mds_history (after_event e.event (mds_after (new_mds t.mds.servers t.mds.mirrors) e.past)).mds e.later) s.split
          (e.behind_is ∙ (ap (λ (l : List MdsItem). l ++ mds_history (after_event e.event (mds_after (new_mds t.mds.servers t.mds.mirrors) e.past)).mds e.later) x.back_is
          ∙ ap (λ (l : List Entry). (map Enters l ++ map Sends (after_event e.event (mds_after (new_mds t.mds.servers t.mds.mirrors) e.past)).sends) ++ mds_history (after_event e.event (mds_after (new_mds t.mds.servers t.mds.mirrors) e.past)).mds e.later) ends.is))

  -- ---- its period ends

  pub own_ends : (past behind : List Entry) (f : FileId) (uid : ℕ) → w.journal ≡ past ++ Ended f (record { 0 = uid }) ends_as.Own ∷ behind → EndsOwnInPlace past f uid
  own_ends past behind f uid is = record { follows = own_follows past behind (Ended f (record { 0 = uid }) ends_as.Own) f uid is grant; one = one_so }
    where
      k : OwnEnd w t laws past f uid
      k = own_end w t laws past f uid (ended_by_mds w t past behind f (record { 0 = uid }) ends_as.Own is)

      grant : OwnGrant w t laws f uid
      grant = write_grant w t laws past (Ended f (record { 0 = uid }) ends_as.Own ∷ behind) f uid k.at k.bytes k.write is

      -- its write is the only one of the uid
      only : (o : (at : ℕ) × ((bytes : List ℕ) × OwnWrite w t laws past f uid at bytes)) → sent_of uid past ≡ a_write o.0 o.1.0
      only (at, (bytes, v)) = ap (λ (j : List Entry). sent_of uid j) v.split ∙ one_sent uid v.before v.behind f at bytes (no_sent uid v.before earlier) (no_sent uid v.behind later)
        where
          here : w.journal ≡ v.before ++ Sent f (record { 0 = uid }) at bytes ∷ (v.behind ++ Ended f (record { 0 = uid }) ends_as.Own ∷ behind)
          here = at_front past behind v.before v.behind (Ended f (record { 0 = uid }) ends_as.Own) (Sent f (record { 0 = uid }) at bytes) is v.split

          earlier : EachSent (λ (x : Pending). ⊥) uid v.before
          earlier a b g pos other its = by_whose (whose_sent w t a (b ++ Sent f (record { 0 = uid }) at bytes ∷ (v.behind ++ Ended f (record { 0 = uid }) ends_as.Own ∷ behind)) g (record { 0 = uid }) pos other there)
            where
              there : w.journal ≡ a ++ Sent g (record { 0 = uid }) pos other ∷ (b ++ Sent f (record { 0 = uid }) at bytes ∷ (v.behind ++ Ended f (record { 0 = uid }) ends_as.Own ∷ behind))
              there = at_front v.before (v.behind ++ Ended f (record { 0 = uid }) ends_as.Own ∷ behind) a b (Sent f (record { 0 = uid }) at bytes) (Sent g (record { 0 = uid }) pos other) here its

              by_whose : IsWhose t a (Sent g (record { 0 = uid }) pos other) → ⊥
              by_whose (OfClient c) = sent_not a g f uid pos other c grant
              by_whose (OfMds s) =
                  one_own_sent w t laws a v.before (b ++ Sent f (record { 0 = uid }) at bytes ∷ (v.behind ++ Ended f (record { 0 = uid }) ends_as.Own ∷ behind)) (v.behind ++ Ended f (record { 0 = uid }) ends_as.Own ∷ behind) b g f uid pos at other bytes s v.stands there here its

          later : EachSent (λ (x : Pending). ⊥) uid v.behind
          later a b g pos other its = by_whose (whose_sent w t (v.before ++ Sent f (record { 0 = uid }) at bytes ∷ a) (b ++ Ended f (record { 0 = uid }) ends_as.Own ∷ behind) g (record { 0 = uid }) pos other there)
            where
              split : past ≡ (v.before ++ Sent f (record { 0 = uid }) at bytes ∷ a) ++ Sent g (record { 0 = uid }) pos other ∷ b
              split = v.split ∙ (ap (λ (l : List Entry). v.before ++ Sent f (record { 0 = uid }) at bytes ∷ l) its ∙ sym (append_assoc v.before (Sent f (record { 0 = uid }) at bytes ∷ a) (Sent g (record { 0 = uid }) pos other ∷ b)))

              there : w.journal ≡ (v.before ++ Sent f (record { 0 = uid }) at bytes ∷ a) ++ Sent g (record { 0 = uid }) pos other ∷ (b ++ Ended f (record { 0 = uid }) ends_as.Own ∷ behind)
              there = at_front past behind (v.before ++ Sent f (record { 0 = uid }) at bytes ∷ a) b (Ended f (record { 0 = uid }) ends_as.Own) (Sent g (record { 0 = uid }) pos other) is split

              by_whose : IsWhose t (v.before ++ Sent f (record { 0 = uid }) at bytes ∷ a) (Sent g (record { 0 = uid }) pos other) → ⊥
              by_whose (OfClient c) = sent_not (v.before ++ Sent f (record { 0 = uid }) at bytes ∷ a) g f uid pos other c grant
              by_whose (OfMds s) =
                  one_own_sent w t laws v.before (v.before ++ Sent f (record { 0 = uid }) at bytes ∷ a) (v.behind ++ Ended f (record { 0 = uid }) ends_as.Own ∷ behind) (b ++ Ended f (record { 0 = uid }) ends_as.Own ∷ behind) a f g uid at pos bytes other v.stands s here there refl

      one_so : (before : List Entry) (at : ℕ) (bytes : List ℕ) → past ≡ before ++ Told f (record { 0 = uid }) at bytes ∷ [] → sent_of uid past ≡ a_write at bytes
      one_so before at bytes split = by_whose (whose_told w t before (Ended f (record { 0 = uid }) ends_as.Own ∷ behind) f (record { 0 = uid }) at bytes told_at)
        where
          told_at : w.journal ≡ before ++ Told f (record { 0 = uid }) at bytes ∷ ([] ++ Ended f (record { 0 = uid }) ends_as.Own ∷ behind)
          told_at = at_front past behind before [] (Ended f (record { 0 = uid }) ends_as.Own) (Told f (record { 0 = uid }) at bytes) is split

          by_whose : IsWhose t before (Told f (record { 0 = uid }) at bytes) → sent_of uid past ≡ a_write at bytes
          by_whose (OfClient c) = absurd (told_not before f f uid at bytes c grant)
          by_whose (OfMds s) =
              let v : OwnWrite w t laws before f uid at bytes = told_write w t laws before f uid at bytes s in
              only (
                at,
                (
                  bytes,
                  record {
                    before = v.before;
                    behind = v.behind ++ Told f (record { 0 = uid }) at bytes ∷ [];
                    split = split ∙ (ap (λ (j : List Entry). j ++ Told f (record { 0 = uid }) at bytes ∷ []) v.split ∙ append_assoc v.before (Sent f (record { 0 = uid }) at bytes ∷ v.behind) (Told f (record { 0 = uid }) at bytes ∷ []));
                    stands = v.stands;
                  },
                ),
              )
