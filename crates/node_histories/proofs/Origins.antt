-- The origin of an entry stays as stories grow; and the origins of what a client and the metadata server add.
use Rattle.std.proofs.Common.{◌≡◌, ℕ, true, List, [], ◌∷◌, ◌++◌, refl, sym, ap, subst, ◌∙◌}
use Rattle.std.proofs.lemmas.List.{append_assoc}
use Rattle.cluster_model.specs.declared.ids.NodeId.TheVariants.{Mds}
use Rattle.cluster_model.specs.declared.entry.Entry.{Entry}
use Rattle.mds_rule.specs.MdsStates.{MdsSend}
use Rattle.mds_rule.specs.Spelled.{spelled_send}
use Rattle.mds_histories.specs.MdsHistory.{MdsItem, Enters, Sends}
use Rattle.client_laws.specs.ClientHistory.{HistoryItem}
use Rattle.client_laws.specs.ClientHistory as client
use Rattle.node_histories.specs.Weaves.{WeaveStep, entries_in, StandsInWeave}
use Rattle.node_histories.specs.ClientLives.{Life}
use Rattle.node_histories.specs.NodeHistories.{mds_shown, MdsStory, ClientStory, is_mds_entry, HasLife, Origin, EnteredByClient, EnteredByMds, EnteredByServer, EnteredByWorld, SentByClient, SentByMds, SentByServer}
use Rattle.node_histories.proofs.WeaveLemmas.{stands_later}
use Rattle.node_histories.proofs.Parts.{Shower, Part, IsFound, OfWorld, ByEntering, BySending, is_found, stands_behind}
use Rattle.node_histories.proofs.Lives.{client_shower}
use Rattle.node_histories.proofs.Stories.{AreLater, HasGrown, life_later}

-- ---- as stories grow

pub record MdsLater (old new : MdsStory) : Type 0 where
  pub more : List (WeaveStep MdsItem)
  pub steps : new.steps ≡ old.steps ++ more

stands_grown : {I : Type 0} (begun : List Entry) (steps more : List (WeaveStep I)) (new_begun : List Entry) (new : List (WeaveStep I)) (past : List Entry) (item : I) (e : Entry) → new_begun ≡ begun → new ≡ steps ++ more
    → StandsInWeave begun steps past item e → StandsInWeave new_begun new past item e
stands_grown {I = I} begun steps more new_begun new past item e same is s =
    subst (λ (l : List (WeaveStep I)). StandsInWeave new_begun l past item e) (sym is) (subst (λ (j : List Entry). StandsInWeave j (steps ++ more) past item e) (sym same) (stands_later begun steps more past item e s))

pub origin_later : (stories new : List ClientStory) (mds later : MdsStory) (past : List Entry) (e : Entry) → AreLater stories new → MdsLater mds later → Origin stories mds past e → Origin new later past e
origin_later stories new mds later past e are goes (EnteredByClient n l has kind stands) =
    let g : HasGrown new n l = life_later stories new n l are has in
    EnteredByClient n g.grown g.has kind (stands_grown l.begun l.steps g.more g.grown.begun g.grown.steps past (client.Enters e) e g.begun g.steps stands)
origin_later stories new mds later past e are goes (EnteredByMds kind stands) = EnteredByMds kind (stands_grown [] mds.steps goes.more [] later.steps past (Enters e) e refl goes.steps stands)
origin_later stories new mds later past e are goes (EnteredByServer kind) = EnteredByServer kind
origin_later stories new mds later past e are goes (EnteredByWorld kind) = EnteredByWorld kind
origin_later stories new mds later past e are goes (SentByClient n number to bytes l send is has stands) =
    let g : HasGrown new n l = life_later stories new n l are has in
    SentByClient n number to bytes g.grown send is g.has (stands_grown l.begun l.steps g.more g.grown.begun g.grown.steps past (client.Sends send) e g.begun g.steps stands)
origin_later stories new mds later past e are goes (SentByMds number to bytes send is stands) =
    SentByMds number to bytes send is (stands_grown [] mds.steps goes.more [] later.steps past (Sends send) e refl goes.steps stands)
origin_later stories new mds later past e are goes (SentByServer n number to bytes is answers) = SentByServer n number to bytes is answers

-- ---- of what is added

-- each entry behind a journal has an origin
abbrev pub HaveOrigins : List ClientStory → MdsStory → List Entry → List Entry → Type 0
HaveOrigins stories mds journal more = (past behind : List Entry) (e : Entry) → more ≡ past ++ e ∷ behind → Origin stories mds (journal ++ past) e

data IsSplit (a b past behind : List Entry) (e : Entry) : Type 0 where
  InFirst : (rest : List Entry) → a ≡ past ++ e ∷ rest → IsSplit a b past behind e
  InSecond : (front : List Entry) → past ≡ a ++ front → b ≡ front ++ e ∷ behind → IsSplit a b past behind e

split_so : (a b past behind : List Entry) (e : Entry) → a ++ b ≡ past ++ e ∷ behind → IsSplit a b past behind e
split_so [] b past behind e is = InSecond past refl is
split_so (x ∷ a) b [] behind e is =
    let same : x ≡ e = cc is in
    InFirst a (ap (λ (y : Entry). y ∷ a) same)
split_so (x ∷ a) b (p ∷ past) behind e is =
    let same : x ≡ p = cc is in
    let rest : a ++ b ≡ past ++ e ∷ behind = cc is in
    further same (split_so a b past behind e rest)
  where
    further : x ≡ p → IsSplit a b past behind e → IsSplit (x ∷ a) b (p ∷ past) behind e
    further same (InFirst rest its) = InFirst rest (ap (λ (y : Entry). y ∷ a) same ∙ ap (λ (l : List Entry). p ∷ l) its)
    further same (InSecond front its more) = InSecond front (ap (λ (l : List Entry). p ∷ l) its ∙ ap (λ (y : Entry). y ∷ (a ++ front)) (sym same)) more

pub both_origins : (stories : List ClientStory) (mds : MdsStory) (journal a b : List Entry) → HaveOrigins stories mds journal a → HaveOrigins stories mds (journal ++ a) b → HaveOrigins stories mds journal (a ++ b)
both_origins stories mds journal a b first second past behind e is = by_split (split_so a b past behind e is)
  where
    by_split : IsSplit a b past behind e → Origin stories mds (journal ++ past) e
    by_split (InFirst rest its) = first past rest e its
    by_split (InSecond front its more) =
        subst (λ (l : List Entry). Origin stories mds l e) (append_assoc journal a front ∙ ap (λ (l : List Entry). journal ++ l) (sym its)) (second front behind e more)

-- a client's part
pub client_origins : (n : ℕ) (stories : List ClientStory) (mds : MdsStory) (journal : List Entry) (items : List HistoryItem) (more : List Entry) (p : Part (client_shower n) journal items more) (l : Life) (steps : List (WeaveStep HistoryItem))
    → HasLife stories n l → l.steps ≡ steps ++ p.steps → l.begun ++ entries_in steps ≡ journal → HaveOrigins stories mds journal more
client_origins n stories mds journal items more p l steps has grown told past behind e is = by_owner (is_found (client_shower n) journal items more p past behind e is)
  where
    stands : (item : HistoryItem) → StandsInWeave [] p.steps past item e → StandsInWeave l.begun l.steps (journal ++ past) item e
    stands item s = subst (λ (x : List (WeaveStep HistoryItem)). StandsInWeave l.begun x (journal ++ past) item e) (sym grown) (stands_behind l.begun journal steps p.steps past item e told s)

    by_owner : IsFound (client_shower n) p.steps past e → Origin stories mds (journal ++ past) e
    by_owner (OfWorld world) = EnteredByWorld world
    by_owner (ByEntering kind s) = EnteredByClient n l has kind (stands (client.Enters e) s)
    by_owner (BySending number to bytes send packet s) = SentByClient n number to bytes l send packet has (stands (client.Sends send) s)

abbrev pub mds_shower : Shower MdsItem MdsSend
mds_shower = record {
  shown = mds_shown;
  node = Mds;
  enter = Enters;
  send = Sends;
  spell = spelled_send;
  enters_so = λ e. refl;
  sends_so = λ s. refl;
  Kind = λ e. is_mds_entry e ≡ true;
}

-- the metadata server's part
pub mds_origins : (stories : List ClientStory) (mds : MdsStory) (journal : List Entry) (items : List MdsItem) (more : List Entry) (p : Part mds_shower journal items more) (steps : List (WeaveStep MdsItem))
    → mds.steps ≡ steps ++ p.steps → entries_in steps ≡ journal → HaveOrigins stories mds journal more
mds_origins stories mds journal items more p steps grown told past behind e is = by_owner (is_found mds_shower journal items more p past behind e is)
  where
    stands : (item : MdsItem) → StandsInWeave [] p.steps past item e → StandsInWeave [] mds.steps (journal ++ past) item e
    stands item s = subst (λ (x : List (WeaveStep MdsItem)). StandsInWeave [] x (journal ++ past) item e) (sym grown) (stands_behind [] journal steps p.steps past item e told s)

    by_owner : IsFound mds_shower p.steps past e → Origin stories mds (journal ++ past) e
    by_owner (OfWorld world) = EnteredByWorld world
    by_owner (ByEntering kind s) = EnteredByMds kind (stands (Enters e) s)
    by_owner (BySending number to bytes send packet s) = SentByMds number to bytes send packet (stands (Sends send) s)
