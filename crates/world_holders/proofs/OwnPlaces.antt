-- Where the metadata server's own grants and writes stand in the journal (RFC 8881, section 18.32).
use Rattle.std.proofs.Common.{◌≡◌, ◌<◌, ℕ, ◌+◌, length, List, [], ◌∷◌, ◌++◌, refl, sym, ap, subst, ◌∙◌, arith, append_assoc}
use Rattle.std.proofs.lemmas.List.{length-append}
use Rattle.cluster_model.specs.declared.ids.NodeId.TheVariants.{Mds}
use Rattle.cluster_model.specs.declared.ids.FileId.{FileId}
use Rattle.cluster_model.specs.declared.entry.Entry.{Entry}
use Rattle.cluster_model.specs.declared.entry.Entry.TheVariants.{Sent}
use Rattle.world_rule.specs.ClusterWorlds.{ClusterState}
use Rattle.mds_rule.specs.MdsStates.{new_mds}
use Rattle.mds_walk.specs.MdsRuns.{mds_run}
use Rattle.mds_histories.specs.MdsHistory.{MdsItem, Comes, Enters, Sends}
use Rattle.mds_histories.specs.MdsHistory as of_mds
use Rattle.mds_histories.proofs.Histories.{entries_joined, entries_of_run}
use Rattle.node_histories.specs.Weaves.{IsUnseen, WeaveStep, Passes, Unseen, Seen, entries_in, items_in, AreWoven, StandsInWeave}
use Rattle.node_histories.specs.NodeHistories.{mds_shown, IsToldByNodes}
use Rattle.node_histories.proofs.WeaveLemmas.{entries_join, items_join}
use Rattle.world_holders.proofs.LowerLaws.{HasLaws}
use Rattle.mds_laws.specs.OwnPeriods.{FollowsGrant, OwnPeriods}
use Rattle.world_holders.proofs.LifePlaces.{StandsBefore, stands_before, same_steps}
use Rattle.world_holders.proofs.JournalGrants.{grant_to, IsOneGrant, one_grant}

abbrev pub MdsSteps : Type 0
MdsSteps = List (WeaveStep MdsItem)

-- what the metadata server entered in these steps
abbrev pub run_to : MdsSteps → List Entry
run_to steps = of_mds.entries_in (items_in steps)

pub run_join : (a b : MdsSteps) → run_to (a ++ b) ≡ run_to a ++ run_to b
run_join a b = ap of_mds.entries_in (items_join a b) ∙ entries_joined (items_in a) (items_in b)

-- ---- the step of an entry

pub record OwnStep (steps : MdsSteps) (before : List Entry) (x : Entry) (behind : List Entry) : Type 0 where
  pub earlier : MdsSteps
  pub later : MdsSteps
  pub split : steps ≡ earlier ++ Seen (Enters x) x ∷ later
  pub first : run_to earlier ≡ before
  pub last : run_to later ≡ behind

none_left : {A : Type 0} (before behind : List Entry) (x : Entry) → [] ≡ before ++ x ∷ behind → A
none_left [] behind x is = absurd cc
none_left (y ∷ before) behind x is = absurd cc

step_on : (s : WeaveStep MdsItem) (steps : MdsSteps) (before : List Entry) (x : Entry) (behind : List Entry) → ((l : MdsSteps) → run_to (s ∷ l) ≡ run_to l) → OwnStep steps before x behind → OwnStep (s ∷ steps) before x behind
step_on s steps before x behind none o = record { earlier = s ∷ o.earlier; later = o.later; split = ap (λ (l : MdsSteps). s ∷ l) o.split; first = none o.earlier ∙ o.first; last = o.last }

enters_unseen : {A : Type 0} (e : Entry) → mds_shown (Enters e) ≡ IsUnseen → A
enters_unseen e is = absurd cc

pub own_step : (begun : List Entry) (steps : MdsSteps) (before behind : List Entry) (x : Entry) → AreWoven mds_shown Mds begun steps → run_to steps ≡ before ++ x ∷ behind → OwnStep steps before x behind
own_step begun [] before behind x so is = none_left before behind x is
own_step begun (Passes e ∷ steps) before behind x so is = step_on (Passes e) steps before x behind (λ l. refl) (own_step (begun ++ e ∷ []) steps before behind x so is)
own_step begun (Unseen (Comes event) ∷ steps) before behind x so is = step_on (Unseen (Comes event)) steps before x behind (λ l. refl) (own_step begun steps before behind x so.1 is)
own_step begun (Unseen (Enters e) ∷ steps) before behind x so is = enters_unseen e so.0
own_step begun (Unseen (Sends send) ∷ steps) before behind x so is = step_on (Unseen (Sends send)) steps before x behind (λ l. refl) (own_step begun steps before behind x so.1 is)
own_step begun (Seen (Comes event) e ∷ steps) before behind x so is = step_on (Seen (Comes event) e) steps before x behind (λ l. refl) (own_step (begun ++ e ∷ []) steps before behind x so.1 is)
own_step begun (Seen (Sends send) e ∷ steps) before behind x so is = step_on (Seen (Sends send) e) steps before x behind (λ l. refl) (own_step (begun ++ e ∷ []) steps before behind x so.1 is)
own_step begun (Seen (Enters y) e ∷ steps) [] behind x so is =
    let same : y ≡ x = head y x (run_to steps) behind is in
    record { earlier = []; later = steps; split = ap (λ (z : Entry). Seen (Enters y) z ∷ steps) so.0 ∙ ap (λ (z : Entry). Seen (Enters z) z ∷ steps) same; first = refl; last = tail y x (run_to steps) behind is }
  where
    head : (p q : Entry) (a b : List Entry) → p ∷ a ≡ q ∷ b → p ≡ q
    head p q a b both = cc

    tail : (p q : Entry) (a b : List Entry) → p ∷ a ≡ q ∷ b → a ≡ b
    tail p q a b both = cc
own_step begun (Seen (Enters y) e ∷ steps) (z ∷ before) behind x so is =
    let o : OwnStep steps before x behind = own_step (begun ++ e ∷ []) steps before behind x so.1 (tail y z (run_to steps) (before ++ x ∷ behind) is) in
    record {
      earlier = Seen (Enters y) e ∷ o.earlier;
      later = o.later;
      split = ap (λ (l : MdsSteps). Seen (Enters y) e ∷ l) o.split;
      first = ap (λ (l : List Entry). y ∷ l) o.first ∙ ap (λ (p : Entry). p ∷ before) (head y z (run_to steps) (before ++ x ∷ behind) is);
      last = o.last;
    }
  where
    head : (p q : Entry) (a b : List Entry) → p ∷ a ≡ q ∷ b → p ≡ q
    head p q a b both = cc

    tail : (p q : Entry) (a b : List Entry) → p ∷ a ≡ q ∷ b → a ≡ b
    tail p q a b both = cc

pub own_front : (begun : List Entry) (a b : MdsSteps) → AreWoven mds_shown Mds begun (a ++ b) → AreWoven mds_shown Mds begun a
own_front begun [] b so = tt
own_front begun (Passes e ∷ a) b so = own_front (begun ++ e ∷ []) a b so
own_front begun (Unseen x ∷ a) b so = (so.0, own_front begun a b so.1)
own_front begun (Seen x e ∷ a) b so = (so.0, own_front (begun ++ e ∷ []) a b so.1)

-- ---- the metadata server's own writes

module _ (w : ClusterState) (t : IsToldByNodes w) (laws : HasLaws t) where
  -- an entry of the metadata server at its place
  abbrev pub IsOwnAt : List Entry → Entry → Type 0
  IsOwnAt past e = StandsInWeave [] t.mds.steps past (Enters e) e

  pub run_is : (mds_run t.mds.servers t.mds.mirrors t.mds.events).entries ≡ run_to t.mds.steps
  run_is = sym (entries_of_run (new_mds t.mds.servers t.mds.mirrors) t.mds.events) ∙ ap of_mds.entries_in t.mds_is.history

  pub run_at : (past : List Entry) (e : Entry) (s : IsOwnAt past e) → (mds_run t.mds.servers t.mds.mirrors t.mds.events).entries ≡ run_to s.earlier ++ e ∷ run_to s.later
  run_at past e s = run_is ∙ (ap run_to s.split ∙ run_join s.earlier (Seen (Enters e) e ∷ s.later))

  pub own_periods : OwnPeriods (mds_run t.mds.servers t.mds.mirrors t.mds.events).entries
  own_periods = laws.own t.mds.servers t.mds.mirrors t.mds.events

  -- what was entered before an entry of it, at its place
  pub record OwnBefore (past : List Entry) (e : Entry) (s : IsOwnAt past e) (before : List Entry) (x : Entry) (behind : List Entry) : Type 0 where
    pub step : OwnStep s.earlier before x behind
    pub journal : past ≡ entries_in step.earlier ++ x ∷ entries_in step.later
    pub whole : t.mds.steps ≡ step.earlier ++ Seen (Enters x) x ∷ (step.later ++ Seen (Enters e) e ∷ s.later)

  pub own_before : (past : List Entry) (e : Entry) (s : IsOwnAt past e) (before : List Entry) (x : Entry) (behind : List Entry) → run_to s.earlier ≡ before ++ x ∷ behind → OwnBefore past e s before x behind
  own_before past e s before x behind is =
      let o : OwnStep s.earlier before x behind = own_step [] s.earlier before behind x (own_front [] s.earlier (Seen (Enters e) e ∷ s.later) (subst (λ (l : MdsSteps). AreWoven mds_shown Mds [] l) s.split t.mds_is.woven)) is in
      record {
        step = o;
        journal = s.place ∙ (ap (λ (l : MdsSteps). entries_in l) o.split ∙ entries_join o.earlier (Seen (Enters x) x ∷ o.later));
        whole = s.split ∙ (ap (λ (l : MdsSteps). l ++ Seen (Enters e) e ∷ s.later) o.split ∙ append_assoc o.earlier (Seen (Enters x) x ∷ o.later) (Seen (Enters e) e ∷ s.later));
      }

  -- its write stands right behind its grant, in what it entered
  pub record OwnSent (past : List Entry) (f : FileId) (uid at : ℕ) (bytes : List ℕ) (s : IsOwnAt past (Sent f (record { 0 = uid }) at bytes)) : Type 0 where
    pub some : 0 < length bytes
    pub before : List Entry
    pub run : run_to s.earlier ≡ before ++ grant_to f uid Mds ∷ []
    pub grant : OwnBefore past (Sent f (record { 0 = uid }) at bytes) s before (grant_to f uid Mds) []

  pub own_sent : (past : List Entry) (f : FileId) (uid at : ℕ) (bytes : List ℕ) (s : IsOwnAt past (Sent f (record { 0 = uid }) at bytes)) → OwnSent past f uid at bytes s
  own_sent past f uid at bytes s =
      let sent : Entry = Sent f (record { 0 = uid }) at bytes in
      let g : FollowsGrant f (record { 0 = uid }) bytes (run_to s.earlier) = own_periods.sent (run_to s.earlier) (run_to s.later) f (record { 0 = uid }) at bytes (run_at past (Sent f (record { 0 = uid }) at bytes) s) in
      record { some = g.some; before = g.before; run = g.is; grant = own_before past (Sent f (record { 0 = uid }) at bytes) s g.before (grant_to f uid Mds) [] g.is }

  -- of one uid it sends once
  pub one_own_sent : (past later behind rest more : List Entry) (f g : FileId) (uid at pos : ℕ) (bytes other : List ℕ) → IsOwnAt past (Sent f (record { 0 = uid }) at bytes) → IsOwnAt later (Sent g (record { 0 = uid }) pos other)
      → w.journal ≡ past ++ Sent f (record { 0 = uid }) at bytes ∷ behind → w.journal ≡ later ++ Sent g (record { 0 = uid }) pos other ∷ rest → later ≡ past ++ Sent f (record { 0 = uid }) at bytes ∷ more → ⊥
  one_own_sent past later behind rest more f g uid at pos bytes other s k first second is = absurd (omega (arith, size1, size2, size3))
    where
      x : Entry
      x = Sent f (record { 0 = uid }) at bytes

      y : Entry
      y = Sent g (record { 0 = uid }) pos other

      a : OwnSent past f uid at bytes s
      a = own_sent past f uid at bytes s

      b : OwnSent later g uid pos other k
      b = own_sent later g uid pos other k

      one : IsOneGrant (entries_in a.grant.step.earlier) (entries_in b.grant.step.earlier) (grant_to f uid Mds) (grant_to g uid Mds)
      one =
          one_grant w.journal laws.periods (entries_in a.grant.step.earlier) (entries_in a.grant.step.later ++ x ∷ behind) (entries_in b.grant.step.earlier) (entries_in b.grant.step.later ++ y ∷ rest) f g uid Mds Mds
          (first ∙ (ap (λ (l : List Entry). l ++ x ∷ behind) a.grant.journal ∙ append_assoc (entries_in a.grant.step.earlier) (grant_to f uid Mds ∷ entries_in a.grant.step.later) (x ∷ behind)))
          (second ∙ (ap (λ (l : List Entry). l ++ y ∷ rest) b.grant.journal ∙ append_assoc (entries_in b.grant.step.earlier) (grant_to g uid Mds ∷ entries_in b.grant.step.later) (y ∷ rest)))

      same : a.grant.step.earlier ≡ b.grant.step.earlier
      same =
          same_steps a.grant.step.earlier (a.grant.step.later ++ Seen (Enters x) x ∷ s.later) b.grant.step.earlier (b.grant.step.later ++ Seen (Enters y) y ∷ k.later) (Enters (grant_to f uid Mds)) (Enters (grant_to g uid Mds)) (grant_to f uid Mds) (grant_to g uid Mds)
          (sym a.grant.whole ∙ b.grant.whole) one.before

      runs : a.before ≡ b.before
      runs = sym a.grant.step.first ∙ (ap run_to same ∙ b.grant.step.first)

      stands : StandsBefore s.earlier k.earlier (Enters x) x
      stands = stands_before [] s.earlier s.later k.earlier k.later (Enters x) (Enters y) x y more (sym s.split ∙ k.split) (sym k.place ∙ (is ∙ ap (λ (l : List Entry). l ++ x ∷ more) s.place))

      size1 : length (run_to k.earlier) ≡ length (run_to s.earlier) + length (x ∷ run_to stands.middle)
      size1 = ap (λ (l : MdsSteps). length (run_to l)) stands.is ∙ (ap length (run_join s.earlier (Seen (Enters x) x ∷ stands.middle)) ∙ length-append (run_to s.earlier) (x ∷ run_to stands.middle))

      size2 : length (run_to s.earlier) ≡ length a.before + 1
      size2 = ap length a.run ∙ length-append a.before (grant_to f uid Mds ∷ [])

      size3 : length (run_to k.earlier) ≡ length a.before + 1
      size3 = ap length b.run ∙ (length-append b.before (grant_to g uid Mds ∷ []) ∙ ap (λ (l : List Entry). length l + 1) (sym runs))
