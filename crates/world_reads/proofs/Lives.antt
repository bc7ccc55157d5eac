-- Of each life of a client of a world: its place in the journal, the ranges of what came to it, and the spelling of what it sends.
use Rattle.std.proofs.Common.{◌≡◌, ◌<◌, ◌≤◌, ℕ, ◌+◌, ◌-◌, ◌^◌, zero, suc, false, List, [], ◌∷◌, ◌++◌, length, Some, refl, sym, ap, subst, ◌∙◌, inl, inr, ◌⊎◌, arith, append_assoc}
use Rattle.std.specs.Prelude.{◌==◌, ◌%◌, slice_get}
use Rattle.std.specs.List.{AllByRecursion}
use Rattle.std.proofs.lemmas.Option.{same_Some}
use Rattle.cluster_model.specs.declared.ids.NodeId.{NodeId}
use Rattle.cluster_model.specs.declared.ids.NodeId.TheVariants.{Client}
use Rattle.cluster_model.specs.declared.entry.Entry.{Entry}
use Rattle.cluster_model.specs.declared.entry.Entry.TheVariants as entry
use Rattle.cluster_model.specs.Members.{IsOneOf}
use Rattle.cluster_laws.proofs.Lists.{all_split}
use Rattle.world_rule.specs.Machines.{nth}
use Rattle.client_state.specs.declared.request.UserRequest.{UserRequest}
use Rattle.client_state.specs.declared.request.UserRequest.TheVariants.{Open, Write, Through, Commit, Read, Return}
use Rattle.client_state.specs.ClientStates.{ClientValue}
use Rattle.client_state.specs.ClientSends.{ClientSend}
use Rattle.client_laws.specs.ClientHistory.{ClientInput, Requested, Recorded, TimeoutOf, Ticked, LeftProtocol, Strayed, input_step, HistoryItem, Hears, Enters, Sends, entered, sent, HasItem, Each, client_history}
use Rattle.client_records.specs.ClientRecords.{AreBytes, IsRequestInRange, IsInputInRange, HasSpelling, SendsSpelled, IsNumberedOn, EachRunIsSpelled, EachRunIsNumbered}
use Rattle.node_histories.specs.Weaves.{IsUnseen, IsArrival, WeaveStep, Passes, Unseen, Seen, entries_in, items_in, HasPacket, IsShownAs, AreWoven}
use Rattle.node_histories.specs.ClientLives.{client_shown, Life, start_of, client_of, journal_of, IsLife, Restarts, IsFirst, AreLives}
use Rattle.node_histories.specs.NodeHistories.{ClientStory, IsClientStory, AreClientStories, IsRequestOfScript, IsInputOfScript, LivesOfScript, HasLife}
use Rattle.node_histories.proofs.Stories.{AreOfScript, at_number, count_from_1}
use Rattle.world_journal.specs.Journal.{IsEntryInRange}
use Rattle.world_reads.proofs.Steps.{all_second}

-- ---- the numbers with which a life starts

mod_small : (n : ℕ) → n % (2 ^ 64) < 2 ^ 64
mod_small n = omega arith

module _ (numbered : EachRunIsNumbered) (n : ℕ) where
  next_fits : (l : Life) → l.first_xid < 2 ^ 32 → (client_of n l).next_xid < 2 ^ 32
  next_fits l fits = by_next (numbered n l.verifier l.first_xid l.inputs fits).1
    where
      by_next : IsNumberedOn l.first_xid (client_history (start_of n l) l.inputs) (client_of n l).next_xid → (client_of n l).next_xid < 2 ^ 32
      by_next (inl none) = subst (λ (k : ℕ). k < 2 ^ 32) (sym none) (omega arith)
      by_next (inr (from, small, above)) = small

  pub first_fits : (l : Life) (older : List Life) → AreLives n l older → l.first_xid < 2 ^ 32
  first_fits l [] lives = subst (λ (k : ℕ). k < 2 ^ 32) (sym lives.1.first_xid) (omega arith)
  first_fits l (old ∷ older) lives = subst (λ (k : ℕ). k < 2 ^ 32) (sym lives.1.numbered_on) (next_fits old (first_fits old older lives.2))

  verifier_fits : (l : Life) (older : List Life) → AreLives n l older → l.verifier < 2 ^ 64
  verifier_fits l [] lives = subst (λ (k : ℕ). k < 2 ^ 64) (sym lives.1.verifier) (omega arith)
  verifier_fits l (old ∷ older) lives = subst (λ (k : ℕ). k < 2 ^ 64) (sym lives.1.verifier) (mod_small (old.verifier + 1))

  life_is : (l : Life) (older : List Life) → AreLives n l older → IsLife n l
  life_is l [] lives = lives.0
  life_is l (old ∷ older) lives = lives.0

  asked_is : (l : Life) (older : List Life) → LivesOfScript l older → AllByRecursion IsInputOfScript l.inputs
  asked_is l [] asked = asked
  asked_is l (old ∷ older) asked = asked.0

  -- ---- a life of the chain

  pub record LifeFacts (journal : List Entry) (k : Life) : Type 0 where
    pub is : IsLife n k
    pub verifier : k.verifier < 2 ^ 64
    pub first : k.first_xid < 2 ^ 32
    pub asked : AllByRecursion IsInputOfScript k.inputs
    pub rest : List Entry
    pub whole : journal ≡ journal_of k ++ rest

  pub life_facts : (journal : List Entry) (l : Life) (older : List Life) → AreLives n l older → LivesOfScript l older → (rest : List Entry) → journal ≡ journal_of l ++ rest → (k : Life) → (k ≡ l) ⊎ IsOneOf k older → LifeFacts journal k
  life_facts journal l older lives asked rest whole k (inl same) =
      subst (λ (x : Life). LifeFacts journal x) (sym same)
      (record { is = life_is l older lives; verifier = verifier_fits l older lives; first = first_fits l older lives; asked = asked_is l older asked; rest = rest; whole = whole })
  life_facts journal l [] lives asked rest whole k (inr none) = absurd none
  life_facts journal l (old ∷ older) lives asked rest whole k (inr inside) =
      let begun : journal ≡ ((journal_of old ++ entry.Rebooted n ∷ []) ++ entries_in l.steps) ++ rest = whole ∙ ap (λ (b : List Entry). (b ++ entries_in l.steps) ++ rest) lives.1.begins in
      let joined : ((journal_of old ++ entry.Rebooted n ∷ []) ++ entries_in l.steps) ++ rest ≡ journal_of old ++ (entry.Rebooted n ∷ (entries_in l.steps ++ rest)) =
      append_assoc (journal_of old ++ entry.Rebooted n ∷ []) (entries_in l.steps) rest ∙ append_assoc (journal_of old) (entry.Rebooted n ∷ []) (entries_in l.steps ++ rest) in
      life_facts journal old older lives.2 asked.1 (entry.Rebooted n ∷ (entries_in l.steps ++ rest)) (begun ∙ joined) k inside

-- ---- the story of a number

pub record StoryOf (stories : List ClientStory) (first i : ℕ) (clients : List ClientValue) (journal : List Entry) (story : ClientStory) : Type 0 where
  pub verifier : ℕ
  pub value : ClientValue
  pub is : IsClientStory (first + i) verifier story value journal
  pub asked : LivesOfScript story.newest story.older
  pub within : i < length clients

story_of : (first i : ℕ) (stories : List ClientStory) (clients : List ClientValue) (verifiers : List ℕ) (journal : List Entry) (story : ClientStory) → AreClientStories first stories clients verifiers journal → AreOfScript stories
    → slice_get stories i ≡ Some story → StoryOf stories first i clients journal story
story_of first i [] clients verifiers journal story are asked is = absurd cc
story_of first i (s ∷ stories) [] verifiers journal story are asked is = absurd are
story_of first i (s ∷ stories) (d ∷ clients) [] journal story are asked is = absurd are
story_of first zero (s ∷ stories) (d ∷ clients) (v ∷ verifiers) journal story are asked is =
    let here : first ≡ first + 0 = omega arith in
    let same : s ≡ story = same_Some s story is in
    record {
      verifier = v;
      value = d;
      is = subst (λ (k : ℕ). IsClientStory k v story d journal) here (subst (λ (x : ClientStory). IsClientStory first v x d journal) same are.0);
      asked = subst (λ (x : ClientStory). LivesOfScript x.newest x.older) same asked.0;
      within = omega arith;
    }
story_of first (suc i) (s ∷ stories) (d ∷ clients) (v ∷ verifiers) journal story are asked is =
    let on : first + 1 + i ≡ first + suc i = omega arith in
    let r : StoryOf stories (first + 1) i clients journal story = story_of (first + 1) i stories clients verifiers journal story are.1 asked.1 is in
    let less = r.within in
    record { verifier = r.verifier; value = r.value; is = subst (λ (k : ℕ). IsClientStory k r.verifier story r.value journal) on r.is; asked = r.asked; within = omega (arith, less) }

-- the lives of a number
pub record LivesOf (stories : List ClientStory) (clients : List ClientValue) (journal : List Entry) (n : ℕ) (story : ClientStory) : Type 0 where
  pub lives : AreLives n story.newest story.older
  pub asked : LivesOfScript story.newest story.older
  pub told : journal_of story.newest ≡ journal
  pub within : n ≤ length clients

pub lives_of : (stories : List ClientStory) (clients : List ClientValue) (verifiers : List ℕ) (journal : List Entry) (n : ℕ) (story : ClientStory) → AreClientStories 1 stories clients verifiers journal → AreOfScript stories
    → nth stories n ≡ Some story → LivesOf stories clients journal n story
lives_of stories clients verifiers journal n story are asked is =
    let at = at_number stories n story is in
    let r : StoryOf stories 1 (n - 1) clients journal story = story_of 1 (n - 1) stories clients verifiers journal story are asked at.there in
    let number : 1 + (n - 1) ≡ n = count_from_1 n at.some in
    let s : IsClientStory n r.verifier story r.value journal = subst (λ (k : ℕ). IsClientStory k r.verifier story r.value journal) number r.is in
    let less = r.within in
    record { lives = s.lives; asked = r.asked; told = s.told; within = omega (arith, number, less) }
