-- What a world tells by its nodes goes on: by a client's part, by the metadata server's, or by entries that have an origin by themselves.
use Rattle.std.proofs.Common.{◌≡◌, ℕ, ◌+◌, ◌-◌, true, false, List, [], ◌∷◌, ◌++◌, Some, refl, sym, ap, subst, ◌∙◌, inl}
use Rattle.std.specs.Prelude.{slice_set}
use Rattle.std.specs.List.{AllByRecursion}
use Rattle.cluster_model.specs.declared.entry.Entry.{Entry}
use Rattle.cluster_model.specs.declared.entry.Entry.TheVariants.{Rebooted}
use Rattle.client_state.specs.ClientStates.{ClientValue, fresh_client}
use Rattle.client_laws.specs.ClientHistory.{ClientInput, input_step, items_of}
use Rattle.mds_rule.specs.MdsStates.{MdsValue}
use Rattle.mds_walk.specs.MdsRuns.{MdsEvent, after_event}
use Rattle.mds_histories.specs.MdsHistory as mds
use Rattle.world_rule.specs.Machines.{nth}
use Rattle.world_rule.specs.ClusterWorlds.{ClusterState, verifier_after}
use Rattle.node_histories.specs.Weaves.{entries_in}
use Rattle.node_histories.specs.ClientLives.{StraysIfLeft}
use Rattle.node_histories.specs.NodeHistories.{AreTogether, MdsStory, IsMdsStory, ClientStory, AreClientStories, IsClientStory, IsInputOfScript, is_world_entry, HasLife, EnteredByWorld, PacketsAreNumbered, IsToldByNodes}
use Rattle.node_histories.proofs.Parts.{Part, all_there}
use Rattle.node_histories.proofs.Lives.{client_shower, StoryGoes, TakesPart, takes, starts_again}
use Rattle.node_histories.proofs.Stories.{AreOfScript, at_number, numbered_so, count_from_1, set_there, StoryAt, story_at, StoriesGo, StoriesGoAt, all_pass, one_goes}
use Rattle.node_histories.proofs.Origins.{origin_later, HaveOrigins, both_origins, client_origins, mds_shower, mds_origins}
use Rattle.node_histories.proofs.MdsStories as story
use Rattle.node_histories.proofs.Numbering.{numbered_join}
use Rattle.node_histories.proofs.Apart.{AreApart, apart_join, all_apart, none_itself}

-- by the parts of a world that it is about
pub record ToldBy (clients : List ClientValue) (verifiers : List ℕ) (m : MdsValue) (sent : ℕ) (journal : List Entry) : Type 0 where
  pub stories : List ClientStory
  pub are : AreClientStories 1 stories clients verifiers journal
  pub asked : AreOfScript stories
  pub mds : MdsStory
  pub mds_is : IsMdsStory mds m journal
  pub origins : HaveOrigins stories mds [] journal
  pub numbers : PacketsAreNumbered 0 journal sent
  pub apart : AreApart journal

abbrev pub IsTold : ClusterState → Type 0
IsTold w = ToldBy w.machines.clients w.verifiers w.machines.mds w.sent w.journal

pub told_so : (w : ClusterState) → IsToldByNodes w → IsTold w
told_so w i = record { stories = i.stories; are = i.clients; asked = i.asked; mds = i.mds; mds_is = i.mds_is; origins = i.origins; numbers = i.numbers; apart = all_apart w.journal i.apart }

-- entries of the world have their origin
pub world_origins : (stories : List ClientStory) (mds : MdsStory) (journal more : List Entry) → AllByRecursion (λ e. is_world_entry e ≡ true) more → HaveOrigins stories mds journal more
world_origins stories mds journal more all past behind e is = EnteredByWorld (all_there (λ x. is_world_entry x ≡ true) past behind e (subst (λ (l : List Entry). AllByRecursion (λ x. is_world_entry x ≡ true) l) is all))

module _ (clients : List ClientValue) (verifiers : List ℕ) (m : MdsValue) (sent : ℕ) (journal : List Entry) (i : ToldBy clients verifiers m sent journal) where
  -- stories that have grown, and what was added has its origins
  grown : (clients' : List ClientValue) (verifiers' : List ℕ) (m' : MdsValue) (sent' : ℕ) (more : List Entry) (go : StoriesGo 1 i.stories clients' verifiers' (journal ++ more))
      (g : story.MdsGoes i.mds m' (journal ++ more)) → HaveOrigins go.new g.new journal more → PacketsAreNumbered sent more sent' → AreApart more → ToldBy clients' verifiers' m' sent' (journal ++ more)
  grown clients' verifiers' m' sent' more go g new numbers apart = record {
    stories = go.new;
    are = go.are;
    asked = go.asked;
    mds = g.new;
    mds_is = g.is;
    origins = both_origins go.new g.new [] journal more (λ past behind e is. origin_later i.stories go.new i.mds g.new past e go.later g.later (i.origins past behind e is)) new;
    numbers = numbered_join 0 sent sent' journal more i.numbers numbers;
    apart = apart_join journal more i.apart apart;
  }

  -- entries that are no client's and not the metadata server's
  pub others : (sent' : ℕ) (more : List Entry) → ((stories : List ClientStory) (mds : MdsStory) → HaveOrigins stories mds journal more) → PacketsAreNumbered sent more sent' → AreApart more → ToldBy clients verifiers m sent' (journal ++ more)
  others sent' more new numbers apart =
      let go : StoriesGo 1 i.stories clients verifiers (journal ++ more) = all_pass 1 i.stories clients verifiers journal more i.are i.asked in
      let g : story.MdsGoes i.mds m (journal ++ more) = story.passes i.mds m journal i.mds_is more in
      grown clients verifiers m sent' more go g (new go.new g.new) numbers apart

  -- an event of the metadata server
  pub mds_takes : (e : MdsEvent) (sent' : ℕ) (more : List Entry) (p : Part mds_shower journal (mds.items_of e (after_event e m)) more) → AreTogether p.steps → PacketsAreNumbered sent more sent' → AreApart more
      → ToldBy clients verifiers (after_event e m).mds sent' (journal ++ more)
  mds_takes e sent' more p together numbers apart =
      let go : StoriesGo 1 i.stories clients verifiers (journal ++ more) = all_pass 1 i.stories clients verifiers journal more i.are i.asked in
      let t : story.MdsTakes i.mds (after_event e m).mds (journal ++ more) p.steps = story.takes i.mds m journal i.mds_is e more p together in
      grown clients verifiers (after_event e m).mds sent' more go t.go (mds_origins go.new t.go.new journal (mds.items_of e (after_event e m)) more p i.mds.steps t.steps i.mds_is.told) numbers apart

  module _ (n : ℕ) (c : ClientValue) (at : nth clients n ≡ Some c) where
    abbrev PlacedStory : Type 0
    PlacedStory = StoryAt 1 (n - 1) i.stories verifiers c journal

    placed : PlacedStory
    placed = story_at 1 (n - 1) i.stories clients verifiers journal c i.are i.asked (at_number clients n c at).there

    its_count : 1 + (n - 1) ≡ n
    its_count = count_from_1 n (at_number clients n c at).some

    story_is : (s : PlacedStory) → IsClientStory n s.verifier s.story c journal
    story_is s = subst (λ (k : ℕ). IsClientStory k s.verifier s.story c journal) its_count s.is

    -- where its story goes on
    goes_there : (s : PlacedStory) (v : ℕ) (d : ClientValue) (more : List Entry) (g : StoryGoes n v s.story d (journal ++ more))
        → StoriesGoAt 1 (n - 1) i.stories (slice_set clients (n - 1) d) (slice_set verifiers (n - 1) v) (journal ++ more) g.new
    goes_there s v d more g =
        let h : StoryGoes (1 + (n - 1)) v s.story d (journal ++ more) =
        record { new = g.new; is = subst (λ (k : ℕ). IsClientStory k v g.new d (journal ++ more)) (sym its_count) g.is; later = g.later; asked = g.asked } in
        one_goes 1 (n - 1) i.stories clients verifiers journal more s.story d v i.are i.asked s.there h

    -- an input of a client
    pub client_takes : (input : ClientInput) (sent' : ℕ) (more : List Entry) → IsInputOfScript input → StraysIfLeft c input → Part (client_shower n) journal (items_of input (input_step input c)) more → PacketsAreNumbered sent more sent' → AreApart more
        → ToldBy (slice_set clients (n - 1) (input_step input c).client) verifiers m sent' (journal ++ more)
    client_takes input sent' more of_script left p numbers apart =
        let s : PlacedStory = placed in
        let t : TakesPart n s.verifier s.story (input_step input c).client (journal ++ more) p.steps = takes n s.verifier s.story c journal (story_is s) s.asked input more of_script left p in
        let x : StoriesGoAt 1 (n - 1) i.stories (slice_set clients (n - 1) (input_step input c).client) (slice_set verifiers (n - 1) s.verifier) (journal ++ more) t.go.new =
        goes_there s s.verifier (input_step input c).client more t.go in
        let g : story.MdsGoes i.mds m (journal ++ more) = story.passes i.mds m journal i.mds_is more in
        let has : HasLife x.go.new n t.go.new.newest =
        record { story = t.go.new; there = numbered_so x.go.new n t.go.new (record { some = (at_number clients n c at).some; there = x.there }); life = inl refl } in
        let told : t.go.new.newest.begun ++ entries_in s.story.newest.steps ≡ journal = ap (λ (j : List Entry). j ++ entries_in s.story.newest.steps) t.begun ∙ (story_is s).told in
        subst (λ (vs : List ℕ). ToldBy (slice_set clients (n - 1) (input_step input c).client) vs m sent' (journal ++ more)) (set_there verifiers (n - 1) s.verifier s.verifier_there)
        (grown (slice_set clients (n - 1) (input_step input c).client) (slice_set verifiers (n - 1) s.verifier) m sent' more x.go g
        (client_origins n x.go.new g.new journal (items_of input (input_step input c)) more p t.go.new.newest s.story.newest.steps has t.steps told) numbers apart)

    -- a client starts again
    pub client_starts : c.has_left ≡ false
        → ToldBy (slice_set clients (n - 1) (fresh_client n (verifier_after (nth verifiers n)) c.next_xid)) (slice_set verifiers (n - 1) (verifier_after (nth verifiers n))) m sent (journal ++ Rebooted n ∷ [])
    client_starts stays =
        let s : PlacedStory = placed in
        let v : ℕ = verifier_after (Some s.verifier) in
        let g : StoryGoes n v s.story (fresh_client n v c.next_xid) (journal ++ Rebooted n ∷ []) = starts_again n s.verifier s.story c journal (story_is s) s.asked stays in
        let x : StoriesGoAt 1 (n - 1) i.stories (slice_set clients (n - 1) (fresh_client n v c.next_xid)) (slice_set verifiers (n - 1) v) (journal ++ Rebooted n ∷ []) g.new =
        goes_there s v (fresh_client n v c.next_xid) (Rebooted n ∷ []) g in
        let h : story.MdsGoes i.mds m (journal ++ Rebooted n ∷ []) = story.passes i.mds m journal i.mds_is (Rebooted n ∷ []) in
        let same : verifier_after (nth verifiers n) ≡ v = ap verifier_after (numbered_so verifiers n s.verifier (record { some = (at_number clients n c at).some; there = s.verifier_there })) in
        subst (λ (k : ℕ). ToldBy (slice_set clients (n - 1) (fresh_client n k c.next_xid)) (slice_set verifiers (n - 1) k) m sent (journal ++ Rebooted n ∷ [])) (sym same)
        (grown (slice_set clients (n - 1) (fresh_client n v c.next_xid)) (slice_set verifiers (n - 1) v) m sent (Rebooted n ∷ []) x.go h (world_origins x.go.new h.new journal (Rebooted n ∷ []) (refl, tt)) refl (tt, tt))

pub of_told : (w : ClusterState) → IsTold w → IsToldByNodes w
of_told w i = record { stories = i.stories; clients = i.are; asked = i.asked; mds = i.mds; mds_is = i.mds_is; origins = i.origins; numbers = i.numbers; apart = none_itself w.journal i.apart }
