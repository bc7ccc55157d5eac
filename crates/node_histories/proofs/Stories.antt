-- The stories of all clients go on: one by its own part, the others as entries pass them.
use Rattle.std.proofs.Common.{◌≡◌, ℕ, zero, suc, ◌+◌, ◌-◌, Bool, true, false, cond, List, [], ◌∷◌, ◌++◌, Some, None, refl, sym, ap, subst, arith}
use Rattle.std.specs.Prelude.{slice_get, slice_set, ◌==◌}
use Rattle.std.specs.List.{AllByRecursion}
use Rattle.std.proofs.lemmas.Bool.Decides.{nat_tests}
use Rattle.std.proofs.lemmas.Option.{none-some, same_Some}
use Rattle.cluster_model.specs.declared.entry.Entry.{Entry}
use Rattle.client_state.specs.ClientStates.{ClientValue}
use Rattle.client_laws.specs.ClientHistory.{HistoryItem}
use Rattle.world_rule.specs.Machines.{nth}
use Rattle.node_histories.specs.Weaves.{WeaveStep}
use Rattle.node_histories.specs.ClientLives.{Life}
use Rattle.node_histories.specs.NodeHistories.{ClientStory, IsClientStory, AreClientStories, LivesOfScript, HasLife}
use Rattle.node_histories.proofs.Lives.{StoryLater, StoryGoes, IsGrown, passes}

abbrev pub AreOfScript : List ClientStory → Type 0
AreOfScript stories = AllByRecursion (λ (s : ClientStory). LivesOfScript s.newest s.older) stories

-- ---- what stands at a number

pub record IsAt {X : Type 0} (xs : List X) (n : ℕ) (x : X) : Type 0 where
  pub some : (n == 0) ≡ false
  pub there : slice_get xs (n - 1) ≡ Some x

pub at_number : {X : Type 0} (xs : List X) (n : ℕ) (x : X) → nth xs n ≡ Some x → IsAt xs n x
at_number {X = X} xs n x is = by_test (n == 0) refl is
  where
    by_test : (b : Bool) → (n == 0) ≡ b → cond b None (slice_get xs (n - 1)) ≡ Some x → IsAt xs n x
    by_test true same its = absurd (none-some x its)
    by_test false same its = record { some = same; there = its }

pub numbered_so : {X : Type 0} (xs : List X) (n : ℕ) (x : X) → IsAt xs n x → nth xs n ≡ Some x
numbered_so xs n x at = subst (λ (b : Bool). cond b None (slice_get xs (n - 1)) ≡ Some x) (sym at.some) at.there

pub count_from_1 : (n : ℕ) → (n == 0) ≡ false → 1 + (n - 1) ≡ n
count_from_1 n some = grind (arith, nat_tests, some)

pub set_there : {X : Type 0} (xs : List X) (k : ℕ) (x : X) → slice_get xs k ≡ Some x → slice_set xs k x ≡ xs
set_there [] k x is = refl
set_there {X = X} (y ∷ xs) zero x is = ap (λ (z : X). z ∷ xs) (sym (same_Some y x is))
set_there {X = X} (y ∷ xs) (suc k) x is = ap (λ (l : List X). y ∷ l) (set_there xs k x is)

-- ---- the story at a place

pub record StoryAt (first i : ℕ) (stories : List ClientStory) (verifiers : List ℕ) (c : ClientValue) (journal : List Entry) : Type 0 where
  pub story : ClientStory
  pub verifier : ℕ
  pub there : slice_get stories i ≡ Some story
  pub verifier_there : slice_get verifiers i ≡ Some verifier
  pub is : IsClientStory (first + i) verifier story c journal
  pub asked : LivesOfScript story.newest story.older

pub story_at : (first i : ℕ) (stories : List ClientStory) (clients : List ClientValue) (verifiers : List ℕ) (journal : List Entry) (c : ClientValue) → AreClientStories first stories clients verifiers journal
    → AreOfScript stories → slice_get clients i ≡ Some c → StoryAt first i stories verifiers c journal
story_at first i [] [] [] journal c are asked is = absurd cc
story_at first i [] [] (v ∷ verifiers) journal c are asked is = absurd are
story_at first i [] (d ∷ clients) verifiers journal c are asked is = absurd are
story_at first i (s ∷ stories) [] verifiers journal c are asked is = absurd are
story_at first i (s ∷ stories) (d ∷ clients) [] journal c are asked is = absurd are
story_at first zero (s ∷ stories) (d ∷ clients) (v ∷ verifiers) journal c are asked is =
    let here : first ≡ first + 0 = omega arith in
    record {
      story = s;
      verifier = v;
      there = refl;
      verifier_there = refl;
      is = subst (λ (k : ℕ). IsClientStory k v s c journal) here (subst (λ (x : ClientValue). IsClientStory first v s x journal) (same_Some d c is) are.0);
      asked = asked.0;
    }
story_at first (suc i) (s ∷ stories) (d ∷ clients) (v ∷ verifiers) journal c are asked is =
    let on : first + 1 + i ≡ first + suc i = omega arith in
    let further : StoryAt (first + 1) i stories verifiers c journal = story_at (first + 1) i stories clients verifiers journal c are.1 asked.1 is in
    record {
      story = further.story;
      verifier = further.verifier;
      there = further.there;
      verifier_there = further.verifier_there;
      is = subst (λ (k : ℕ). IsClientStory k further.verifier further.story c journal) on further.is;
      asked = further.asked;
    }

-- ---- all of them go on

abbrev pub AreLater : List ClientStory → List ClientStory → Type 0
AreLater [] [] = Unit {0}
AreLater (s ∷ stories) (t ∷ new) = StoryLater s t × AreLater stories new
AreLater stories new = ⊥

pub record StoriesGo (first : ℕ) (stories : List ClientStory) (clients : List ClientValue) (verifiers : List ℕ) (journal : List Entry) : Type 0 where
  pub new : List ClientStory
  pub are : AreClientStories first new clients verifiers journal
  pub later : AreLater stories new
  pub asked : AreOfScript new

-- where one of them is this
pub record StoriesGoAt (first i : ℕ) (stories : List ClientStory) (clients : List ClientValue) (verifiers : List ℕ) (journal : List Entry) (story : ClientStory) : Type 0 where
  pub go : StoriesGo first stories clients verifiers journal
  pub there : slice_get go.new i ≡ Some story

pub all_pass : (first : ℕ) (stories : List ClientStory) (clients : List ClientValue) (verifiers : List ℕ) (journal more : List Entry) → AreClientStories first stories clients verifiers journal → AreOfScript stories
    → StoriesGo first stories clients verifiers (journal ++ more)
all_pass first [] [] [] journal more are asked = record { new = []; are = tt; later = tt; asked = tt }
all_pass first [] [] (v ∷ verifiers) journal more are asked = absurd are
all_pass first [] (d ∷ clients) verifiers journal more are asked = absurd are
all_pass first (s ∷ stories) [] verifiers journal more are asked = absurd are
all_pass first (s ∷ stories) (d ∷ clients) [] journal more are asked = absurd are
all_pass first (s ∷ stories) (d ∷ clients) (v ∷ verifiers) journal more are asked =
    let one : StoryGoes first v s d (journal ++ more) = passes first v s d journal are.0 asked.0 more in
    let rest : StoriesGo (first + 1) stories clients verifiers (journal ++ more) = all_pass (first + 1) stories clients verifiers journal more are.1 asked.1 in
    record { new = one.new ∷ rest.new; are = (one.is, rest.are); later = (one.later, rest.later); asked = (one.asked, rest.asked) }

pub one_goes : (first i : ℕ) (stories : List ClientStory) (clients : List ClientValue) (verifiers : List ℕ) (journal more : List Entry) (s : ClientStory) (c : ClientValue) (v : ℕ)
    → AreClientStories first stories clients verifiers journal → AreOfScript stories → slice_get stories i ≡ Some s → (g : StoryGoes (first + i) v s c (journal ++ more))
    → StoriesGoAt first i stories (slice_set clients i c) (slice_set verifiers i v) (journal ++ more) g.new
one_goes first i [] [] [] journal more s c v are asked is g = absurd cc
one_goes first i [] [] (w ∷ verifiers) journal more s c v are asked is g = absurd are
one_goes first i [] (d ∷ clients) verifiers journal more s c v are asked is g = absurd are
one_goes first i (t ∷ stories) [] verifiers journal more s c v are asked is g = absurd are
one_goes first i (t ∷ stories) (d ∷ clients) [] journal more s c v are asked is g = absurd are
one_goes first zero (t ∷ stories) (d ∷ clients) (w ∷ verifiers) journal more s c v are asked is g =
    let here : first + 0 ≡ first = omega arith in
    let rest : StoriesGo (first + 1) stories clients verifiers (journal ++ more) = all_pass (first + 1) stories clients verifiers journal more are.1 asked.1 in
    record {
      go = record {
        new = g.new ∷ rest.new;
        are = (subst (λ (k : ℕ). IsClientStory k v g.new c (journal ++ more)) here g.is, rest.are);
        later = (subst (λ (x : ClientStory). StoryLater x g.new) (sym (same_Some t s is)) g.later, rest.later);
        asked = (g.asked, rest.asked);
      };
      there = refl;
    }
one_goes first (suc i) (t ∷ stories) (d ∷ clients) (w ∷ verifiers) journal more s c v are asked is g =
    let on : first + suc i ≡ first + 1 + i = omega arith in
    let one : StoryGoes first w t d (journal ++ more) = passes first w t d journal are.0 asked.0 more in
    let h : StoryGoes (first + 1 + i) v s c (journal ++ more) = record { new = g.new; is = subst (λ (k : ℕ). IsClientStory k v g.new c (journal ++ more)) on g.is; later = g.later; asked = g.asked } in
    let rest : StoriesGoAt (first + 1) i stories (slice_set clients i c) (slice_set verifiers i v) (journal ++ more) g.new = one_goes (first + 1) i stories clients verifiers journal more s c v are.1 asked.1 is h in
    record {
      go = record { new = one.new ∷ rest.go.new; are = (one.is, rest.go.are); later = (one.later, rest.go.later); asked = (one.asked, rest.go.asked) };
      there = rest.there;
    }

-- ---- lives stand in later stories

pub record HasGrown (stories : List ClientStory) (n : ℕ) (l : Life) : Type 0 where
  pub grown : Life
  pub has : HasLife stories n grown
  pub begun : grown.begun ≡ l.begun
  pub more : List (WeaveStep HistoryItem)
  pub steps : grown.steps ≡ l.steps ++ more

record LaterAt (new : List ClientStory) (i : ℕ) (s : ClientStory) : Type 0 where
  story : ClientStory
  there : slice_get new i ≡ Some story
  later : StoryLater s story

later_at : (stories new : List ClientStory) (i : ℕ) (s : ClientStory) → AreLater stories new → slice_get stories i ≡ Some s → LaterAt new i s
later_at [] [] i s are is = absurd cc
later_at [] (t ∷ new) i s are is = absurd are
later_at (x ∷ stories) [] i s are is = absurd are
later_at (x ∷ stories) (t ∷ new) zero s are is = record { story = t; there = refl; later = subst (λ (y : ClientStory). StoryLater y t) (same_Some x s is) are.0 }
later_at (x ∷ stories) (t ∷ new) (suc i) s are is =
    let further : LaterAt new i s = later_at stories new i s are.1 is in
    record { story = further.story; there = further.there; later = further.later }

pub life_later : (stories new : List ClientStory) (n : ℕ) (l : Life) → AreLater stories new → HasLife stories n l → HasGrown new n l
life_later stories new n l are has =
    let at : IsAt stories n has.story = at_number stories n has.story has.there in
    let t : LaterAt new (n - 1) has.story = later_at stories new (n - 1) has.story are at.there in
    let g : IsGrown t.story l = t.later l has.life in
    record {
      grown = g.grown;
      has = record { story = t.story; there = numbered_so new n t.story (record { some = at.some; there = t.there }); life = g.its };
      begun = g.begun;
      more = g.more;
      steps = g.steps;
    }
