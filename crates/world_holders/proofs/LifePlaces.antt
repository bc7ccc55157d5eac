-- Where what a life of a client heard, entered and sent stands in the journal.
use Rattle.std.proofs.Common.{◌≡◌, ◌≤◌, ℕ, ◌+◌, true, length, List, [], ◌∷◌, ◌++◌, refl, sym, ap, subst, ◌∙◌, inl, inr, ◌⊎◌, arith, append-nil, append_assoc}
use Rattle.std.proofs.lemmas.Option.{same_Some}
use Rattle.std.proofs.lemmas.List.{length-append, append_cancel_left}
use Rattle.cluster_model.specs.declared.ids.NodeId.{NodeId}
use Rattle.cluster_model.specs.declared.ids.NodeId.TheVariants.{Mds, Server, Client}
use Rattle.cluster_model.specs.declared.entry.Entry.{Entry}
use Rattle.cluster_model.specs.declared.entry.Entry.TheVariants as entry
use Rattle.cluster_model.specs.Members.{IsOneOf}
use Rattle.world_rule.specs.ClusterWorlds.{ClusterState}
use Rattle.client_state.specs.ClientSends.{ClientSend}
use Rattle.client_laws.specs.ClientHistory.{HistoryItem, Hears, Enters, Sends, Recorded, InOrder, HasItem, Each, client_history}
use Rattle.client_laws.specs.ClientHistory as client
use Rattle.client_records.specs.ClientRecords.{EachRunIsNumbered}
use Rattle.node_histories.specs.Weaves.{IsUnseen, WeaveStep, Passes, Unseen, Seen, entries_in, items_in, IsShownAs, AreWoven, StandsInWeave}
use Rattle.node_histories.specs.ClientLives.{client_shown, Life, journal_of}
use Rattle.node_histories.specs.NodeHistories.{ClientStory, HasLife, is_client_entry, is_mds_entry, is_server_entry, is_world_entry, Origin, EnteredByClient, EnteredByMds, EnteredByServer, EnteredByWorld, SentByClient, SentByMds, SentByServer, IsToldByNodes}
use Rattle.node_histories.proofs.WeaveLemmas.{entries_join, IsSeenAt, seen_at}
use Rattle.world_reads.proofs.Steps.{HasItemIn, Splits, Longer, Shorter, splits}
use Rattle.world_reads.proofs.OwnEntries.{no_true}
use Rattle.world_reads.proofs.Lives.{LifeFacts, life_facts, LivesOf, lives_of}
use Rattle.world_layouts.specs.WorldLayouts.{journal_at}

abbrev pub LifeSteps : Type 0
LifeSteps = List (WeaveStep HistoryItem)

-- ---- items of a history

pub has_middle : (a b : List HistoryItem) (item : HistoryItem) → HasItem (a ++ item ∷ b) item
has_middle [] b item = inl (refl, tt)
has_middle (x ∷ a) b item = inr (has_middle a b item)

pub has_front : (a b : List HistoryItem) (item : HistoryItem) → HasItem a item → HasItem (a ++ b) item
has_front [] b item has = absurd has
has_front (x ∷ a) b item (inl is) = inl (is.0, tt)
has_front (x ∷ a) b item (inr has) = inr (has_front a b item has)

pub each_at : (P : List HistoryItem → HistoryItem → Type 0) (past a b : List HistoryItem) (item : HistoryItem) → Each P past (a ++ item ∷ b) → P (past ++ a) item
each_at P past [] b item each = subst (λ (l : List HistoryItem). P l item) (sym (append-nil past)) each.0
each_at P past (x ∷ a) b item each = subst (λ (l : List HistoryItem). P l item) (append_assoc past (x ∷ []) a) (each_at P (past ++ x ∷ []) a b item each.1)

-- ---- the step of an item

-- the first of some items in order has a step, and the others stand behind it
pub record OrderStep (steps : LifeSteps) (item : HistoryItem) (items : List HistoryItem) : Type 0 where
  pub earlier : LifeSteps
  pub step : WeaveStep HistoryItem
  pub later : LifeSteps
  pub split : steps ≡ earlier ++ step ∷ later
  pub is : HasItemIn item step
  pub rest : InOrder items (items_in later)

order_behind : (s : WeaveStep HistoryItem) (steps : LifeSteps) (item : HistoryItem) (items : List HistoryItem) → OrderStep steps item items → OrderStep (s ∷ steps) item items
order_behind s steps item items o = record { earlier = s ∷ o.earlier; step = o.step; later = o.later; split = ap (λ (l : LifeSteps). s ∷ l) o.split; is = o.is; rest = o.rest }

pub order_step : (steps : LifeSteps) (item : HistoryItem) (items : List HistoryItem) → InOrder (item ∷ items) (items_in steps) → OrderStep steps item items
order_step [] item items order = absurd order
order_step (Passes e ∷ steps) item items order = order_behind (Passes e) steps item items (order_step steps item items order)
order_step (Unseen other ∷ steps) item items (inl here) = record { earlier = []; step = Unseen other; later = steps; split = refl; is = sym here.0; rest = here.1 }
order_step (Unseen other ∷ steps) item items (inr order) = order_behind (Unseen other) steps item items (order_step steps item items order)
order_step (Seen other e ∷ steps) item items (inl here) = record { earlier = []; step = Seen other e; later = steps; split = refl; is = sym here.0; rest = here.1 }
order_step (Seen other e ∷ steps) item items (inr order) = order_behind (Seen other e) steps item items (order_step steps item items order)

unseen_in : (node : NodeId) (begun : List Entry) (a b : LifeSteps) (item : HistoryItem) → AreWoven client_shown node begun (a ++ Unseen item ∷ b) → client_shown item ≡ IsUnseen
unseen_in node begun [] b item so = so.0
unseen_in node begun (Passes e ∷ a) b item so = unseen_in node (begun ++ e ∷ []) a b item so
unseen_in node begun (Unseen x ∷ a) b item so = unseen_in node begun a b item so.1
unseen_in node begun (Seen x e ∷ a) b item so = unseen_in node (begun ++ e ∷ []) a b item so.1

-- an item that is shown has an entry
pub record SeenStep (node : NodeId) (begun : List Entry) (earlier : LifeSteps) (item : HistoryItem) (later : LifeSteps) (step : WeaveStep HistoryItem) : Type 0 where
  pub entry : Entry
  pub step_is : step ≡ Seen item entry
  pub shown : IsShownAs node (begun ++ entries_in earlier) (client_shown item) entry

pub seen_step : (node : NodeId) (begun : List Entry) (earlier later : LifeSteps) (item : HistoryItem) (step : WeaveStep HistoryItem) → AreWoven client_shown node begun (earlier ++ step ∷ later) → HasItemIn item step → (client_shown item ≡ IsUnseen → ⊥)
    → SeenStep node begun earlier item later step
seen_step node begun earlier later item (Passes x) so is shown = absurd is
seen_step node begun earlier later item (Unseen other) so is shown = absurd (shown (ap client_shown (sym is) ∙ unseen_in node begun earlier later other so))
seen_step node begun earlier later item (Seen other x) so is shown =
    let seen : IsSeenAt client_shown node begun earlier other x later = seen_at client_shown node begun earlier other x later so in
    record { entry = x; step_is = ap (λ (i : HistoryItem). Seen i x) is; shown = subst (λ (i : HistoryItem). IsShownAs node (begun ++ entries_in earlier) (client_shown i) x) is seen.is }

-- what was entered stands in the journal
pub record EnteredIn (begun : List Entry) (steps : LifeSteps) (e : Entry) : Type 0 where
  pub earlier : LifeSteps
  pub later : LifeSteps
  pub split : steps ≡ earlier ++ Seen (Enters e) e ∷ later
  pub journal : begun ++ entries_in steps ≡ (begun ++ entries_in earlier) ++ e ∷ entries_in later

enters_not : (e : Entry) → client_shown (Enters e) ≡ IsUnseen → ⊥
enters_not e is = absurd cc

pub journal_split : (begun : List Entry) (earlier later : LifeSteps) (item : HistoryItem) (e : Entry) → begun ++ entries_in (earlier ++ Seen item e ∷ later) ≡ (begun ++ entries_in earlier) ++ e ∷ entries_in later
journal_split begun earlier later item e = ap (λ (l : List Entry). begun ++ l) (entries_join earlier (Seen item e ∷ later)) ∙ sym (append_assoc begun (entries_in earlier) (e ∷ entries_in later))

pub entered_in : (node : NodeId) (begun : List Entry) (steps : LifeSteps) (e : Entry) → AreWoven client_shown node begun steps → HasItem (items_in steps) (Enters e) → EnteredIn begun steps e
entered_in node begun steps e so has =
    let o : OrderStep steps (Enters e) [] = order_step steps (Enters e) [] has in
    let s : SeenStep node begun o.earlier (Enters e) o.later o.step =
    seen_step node begun o.earlier o.later (Enters e) o.step (subst (λ (l : LifeSteps). AreWoven client_shown node begun l) o.split so) o.is (enters_not e) in
    let same : o.step ≡ Seen (Enters e) e = s.step_is ∙ ap (λ (x : Entry). Seen (Enters e) x) s.shown in
    let split : steps ≡ o.earlier ++ Seen (Enters e) e ∷ o.later = o.split ∙ ap (λ (x : WeaveStep HistoryItem). o.earlier ++ x ∷ o.later) same in
    record { earlier = o.earlier; later = o.later; split = split; journal = ap (λ (l : LifeSteps). begun ++ entries_in l) split ∙ journal_split begun o.earlier o.later (Enters e) e }

pub journal_on : (begun : List Entry) (front back : LifeSteps) → begun ++ entries_in (front ++ back) ≡ (begun ++ entries_in front) ++ entries_in back
journal_on begun front back = ap (λ (l : List Entry). begun ++ l) (entries_join front back) ∙ sym (append_assoc begun (entries_in front) (entries_in back))

-- ---- two places of a weave

-- the first stands among the steps before the second
pub record StandsBefore {I : Type 0} (a c : List (WeaveStep I)) (item : I) (e : Entry) : Type 0 where
  pub middle : List (WeaveStep I)
  pub is : c ≡ a ++ Seen item e ∷ middle

longer : {A : Type 0} (p q : List Entry) (e : Entry) (more : List Entry) → q ≡ p ++ e ∷ more → length q ≤ length p → A
longer p q e more is small =
    let sizes : length q ≡ length p + length (e ∷ more) = ap length is ∙ length-append p (e ∷ more) in
    absurd (omega (arith, sizes, small))

head_step : {I : Type 0} (s t : WeaveStep I) (a b : List (WeaveStep I)) → s ∷ a ≡ t ∷ b → s ≡ t
head_step s t a b is = cc

le_same : (p q : List Entry) → p ≡ q → length p ≤ length q
le_same p q same = let sizes : length p ≡ length q = ap length same in omega (arith, sizes)

pub stands_before : {I : Type 0} (begun : List Entry) (a b c d : List (WeaveStep I)) (item other : I) (e f : Entry) (more : List Entry) → a ++ Seen item e ∷ b ≡ c ++ Seen other f ∷ d → begun ++ entries_in c ≡ (begun ++ entries_in a) ++ e ∷ more
    → StandsBefore a c item e
stands_before {I = I} begun a b c d item other e f more is journal = by_place (splits a (Seen item e ∷ b) c (Seen other f ∷ d) is)
  where
    entries : entries_in c ≡ entries_in a ++ e ∷ more
    entries = append_cancel_left begun (entries_in c) (entries_in a ++ e ∷ more) (journal ∙ append_assoc begun (entries_in a) (e ∷ more))

    by_middle : (middle : List (WeaveStep I)) → c ≡ a ++ middle → Seen item e ∷ b ≡ middle ++ Seen other f ∷ d → StandsBefore a c item e
    by_middle [] first second = longer (entries_in a) (entries_in c) e more entries (le_same (entries_in c) (entries_in a) (ap (λ (l : List (WeaveStep I)). entries_in l) (first ∙ append-nil a)))
    by_middle (s ∷ middle) first second = record { middle = middle; is = first ∙ ap (λ (x : WeaveStep I). a ++ x ∷ middle) (sym (head_step (Seen item e) s b (middle ++ Seen other f ∷ d) second)) }

    by_place : Splits a (Seen item e ∷ b) c (Seen other f ∷ d) → StandsBefore a c item e
    by_place (Longer middle first second) = by_middle middle first second
    by_place (Shorter x middle first second) =
        let sizes : length (entries_in a) ≡ length (entries_in c) + length (entries_in (x ∷ middle)) =
        ap (λ (l : List (WeaveStep I)). length (entries_in l)) first ∙ (ap length (entries_join c (x ∷ middle)) ∙ length-append (entries_in c) (entries_in (x ∷ middle))) in
        longer (entries_in a) (entries_in c) e more entries (omega (arith, sizes))

-- two steps with an entry behind as many entries stand at one place
pub same_steps : {I : Type 0} (a b c d : List (WeaveStep I)) (item other : I) (e f : Entry) → a ++ Seen item e ∷ b ≡ c ++ Seen other f ∷ d → entries_in a ≡ entries_in c → a ≡ c
same_steps {I = I} a b c d item other e f is entries = by_place (splits a (Seen item e ∷ b) c (Seen other f ∷ d) is)
  where
    by_middle : (middle : List (WeaveStep I)) → c ≡ a ++ middle → Seen item e ∷ b ≡ middle ++ Seen other f ∷ d → a ≡ c
    by_middle [] first second = sym (append-nil a) ∙ sym first
    by_middle (s ∷ middle) first second =
        let its : c ≡ a ++ Seen item e ∷ middle = first ∙ ap (λ (x : WeaveStep I). a ++ x ∷ middle) (sym (head_step (Seen item e) s b (middle ++ Seen other f ∷ d) second)) in
        longer (entries_in a) (entries_in c) e (entries_in middle) (ap (λ (l : List (WeaveStep I)). entries_in l) its ∙ entries_join a (Seen item e ∷ middle)) (le_same (entries_in c) (entries_in a) (sym entries))

    by_other : (x : WeaveStep I) (middle : List (WeaveStep I)) → a ≡ c ++ x ∷ middle → Seen other f ∷ d ≡ x ∷ (middle ++ Seen item e ∷ b) → a ≡ c
    by_other x middle first second =
        let its : a ≡ c ++ Seen other f ∷ middle = first ∙ ap (λ (y : WeaveStep I). c ++ y ∷ middle) (sym (head_step (Seen other f) x d (middle ++ Seen item e ∷ b) second)) in
        longer (entries_in c) (entries_in a) f (entries_in middle) (ap (λ (l : List (WeaveStep I)). entries_in l) its ∙ entries_join c (Seen other f ∷ middle)) (le_same (entries_in a) (entries_in c) entries)

    by_place : Splits a (Seen item e ∷ b) c (Seen other f ∷ d) → a ≡ c
    by_place (Longer middle first second) = by_middle middle first second
    by_place (Shorter x middle first second) = by_other x middle first second

-- ---- the lives of a world

-- what is known of a life
pub record LifeIs (w : ClusterState) (t : IsToldByNodes w) (numbered : EachRunIsNumbered) (n : ℕ) (l : Life) : Type 0 where
  pub facts : LifeFacts numbered n w.journal l
  pub story : ClientStory
  pub lives : LivesOf t.stories w.machines.clients w.journal n story
  pub inside : (l ≡ story.newest) ⊎ IsOneOf l story.older

pub life_of : (w : ClusterState) (t : IsToldByNodes w) (numbered : EachRunIsNumbered) (n : ℕ) (l : Life) → HasLife t.stories n l → LifeIs w t numbered n l
life_of w t numbered n l its =
    let s : LivesOf t.stories w.machines.clients w.journal n its.story = lives_of t.stories w.machines.clients w.verifiers w.journal n its.story t.clients t.asked its.there in
    record {
      facts = life_facts numbered n w.journal its.story.newest its.story.older s.lives s.asked [] (sym s.told ∙ sym (append-nil (journal_of its.story.newest))) l its.life;
      story = its.story;
      lives = s;
      inside = its.life;
    }

-- two lives of a client are of one story
pub record AreOfStory (w : ClusterState) (t : IsToldByNodes w) (n : ℕ) (k l : Life) : Type 0 where
  pub story : ClientStory
  pub lives : LivesOf t.stories w.machines.clients w.journal n story
  pub first : (k ≡ story.newest) ⊎ IsOneOf k story.older
  pub second : (l ≡ story.newest) ⊎ IsOneOf l story.older

pub of_story : (w : ClusterState) (t : IsToldByNodes w) (n : ℕ) (k l : Life) → HasLife t.stories n k → HasLife t.stories n l → AreOfStory w t n k l
of_story w t n k l a b =
    let same : a.story ≡ b.story = same_Some a.story b.story (sym a.there ∙ b.there) in
    record {
      story = b.story;
      lives = lives_of t.stories w.machines.clients w.verifiers w.journal n b.story t.clients t.asked b.there;
      first = subst (λ (x : ClientStory). (k ≡ x.newest) ⊎ IsOneOf k x.older) same a.life;
      second = b.life;
    }

-- the journal at a moment of a life, and what is behind it
pub life_journal : (w : ClusterState) (t : IsToldByNodes w) (numbered : EachRunIsNumbered) (n : ℕ) (l : Life) (i : LifeIs w t numbered n l) (earlier later : LifeSteps) → l.steps ≡ earlier ++ later
    → w.journal ≡ journal_at l earlier ++ (entries_in later ++ i.facts.rest)
life_journal w t numbered n l i earlier later split =
    i.facts.whole ∙ (ap (λ (s : LifeSteps). (l.begun ++ entries_in s) ++ i.facts.rest) split ∙ (ap (λ (x : List Entry). (l.begun ++ x) ++ i.facts.rest) (entries_join earlier later)
    ∙ (ap (λ (x : List Entry). x ++ i.facts.rest) (sym (append_assoc l.begun (entries_in earlier) (entries_in later))) ∙ append_assoc (l.begun ++ entries_in earlier) (entries_in later) i.facts.rest)))

-- the weave of the steps up to a moment
pub woven_front : (node : NodeId) (begun : List Entry) (a b : LifeSteps) → AreWoven client_shown node begun (a ++ b) → AreWoven client_shown node begun a
woven_front node begun [] b so = tt
woven_front node begun (Passes e ∷ a) b so = woven_front node (begun ++ e ∷ []) a b so
woven_front node begun (Unseen x ∷ a) b so = (so.0, woven_front node begun a b so.1)
woven_front node begun (Seen x e ∷ a) b so = (so.0, woven_front node (begun ++ e ∷ []) a b so.1)

-- ---- whose a packet and an entry is

-- a packet of a client is what one of its lives sent
pub record ClientSent (stories : List ClientStory) (past : List Entry) (number n : ℕ) (to : NodeId) (bytes : List ℕ) : Type 0 where
  pub life : Life
  pub its : HasLife stories n life
  pub send : ClientSend
  pub stands : StandsInWeave life.begun life.steps past (client.Sends send) (entry.Packet number (Client n) to bytes)

module _ (w : ClusterState) (t : IsToldByNodes w) where
  by_origin : (past : List Entry) (number n : ℕ) (to : NodeId) (bytes : List ℕ) (e : Entry) → e ≡ entry.Packet number (Client n) to bytes → Origin t.stories t.mds past e → ClientSent t.stories past number n to bytes
  by_origin past number n to bytes e is (EnteredByClient m l life kind stands) = no_true (subst (λ (x : Entry). is_client_entry x ≡ true) is kind)
  by_origin past number n to bytes e is (EnteredByMds kind stands) = no_true (subst (λ (x : Entry). is_mds_entry x ≡ true) is kind)
  by_origin past number n to bytes e is (EnteredByServer kind) = no_true (subst (λ (x : Entry). is_server_entry x ≡ true) is kind)
  by_origin past number n to bytes e is (EnteredByWorld kind) = no_true (subst (λ (x : Entry). is_world_entry x ≡ true) is kind)
  by_origin past number n to bytes e is (SentByClient m other at sent l send same life stands) =
      let node : m ≡ n = who other m at sent (sym is ∙ same) in
      record { life = l; its = subst (λ (x : ℕ). HasLife t.stories x l) node life; send = send; stands = subst (λ (x : Entry). StandsInWeave l.begun l.steps past (client.Sends send) x) is stands }
    where
      who : (other m : ℕ) (at : NodeId) (sent : List ℕ) → entry.Packet number (Client n) to bytes ≡ entry.Packet other (Client m) at sent → m ≡ n
      who other m at sent two = cc
  by_origin past number n to bytes e is (SentByMds other at sent send same stands) = not_mds other at sent (sym is ∙ same)
    where
      not_mds : (other : ℕ) (at : NodeId) (sent : List ℕ) → entry.Packet number (Client n) to bytes ≡ entry.Packet other Mds at sent → ClientSent t.stories past number n to bytes
      not_mds other at sent two = absurd cc
  by_origin past number n to bytes e is (SentByServer m other at sent same answers) = not_server other m at sent (sym is ∙ same)
    where
      not_server : (other m : ℕ) (at : NodeId) (sent : List ℕ) → entry.Packet number (Client n) to bytes ≡ entry.Packet other (Server m) at sent → ClientSent t.stories past number n to bytes
      not_server other m at sent two = absurd cc

  pub client_sent : (past behind : List Entry) (number n : ℕ) (to : NodeId) (bytes : List ℕ) → w.journal ≡ past ++ entry.Packet number (Client n) to bytes ∷ behind → ClientSent t.stories past number n to bytes
  client_sent past behind number n to bytes is = by_origin past number n to bytes (entry.Packet number (Client n) to bytes) refl (t.origins past behind (entry.Packet number (Client n) to bytes) is)
