-- Parts of a weave by the items in it, and the entries that only a metadata server makes.
use Rattle.std.proofs.Common.{◌≡◌, ℕ, Bool, true, false, List, [], ◌∷◌, ◌++◌, refl, sym, ap, subst, ◌∙◌}
use Rattle.std.specs.List.{AllByRecursion}
use Rattle.cluster_model.specs.declared.entry.Entry.{Entry}
use Rattle.node_histories.specs.Weaves.{WeaveStep, Passes, Unseen, Seen, entries_in, items_in}

-- ---- lists

-- two ways to split one list: the second begins with the first, or the first is longer
pub data Splits {A : Type 0} (a b c d : List A) : Type 0 where
  Longer : (middle : List A) → c ≡ a ++ middle → b ≡ middle ++ d → Splits a b c d
  Shorter : (x : A) (middle : List A) → a ≡ c ++ x ∷ middle → d ≡ x ∷ (middle ++ b) → Splits a b c d

abbrev tail_of : {A : Type 0} → List A → List A
tail_of [] = []
tail_of (x ∷ xs) = xs

abbrev head_or : {A : Type 0} → A → List A → A
head_or other [] = other
head_or other (x ∷ xs) = x

further : {A : Type 0} (x y : A) (a b c d : List A) → x ≡ y → Splits a b c d → Splits (x ∷ a) b (y ∷ c) d
further {A = A} x y a b c d same (Longer middle first second) = Longer middle (ap (λ (z : A). z ∷ c) (sym same) ∙ ap (λ (l : List A). x ∷ l) first) second
further {A = A} x y a b c d same (Shorter z middle first second) = Shorter z middle (ap (λ (w : A). w ∷ a) same ∙ ap (λ (l : List A). y ∷ l) first) second

pub splits : {A : Type 0} (a b c d : List A) → a ++ b ≡ c ++ d → Splits a b c d
splits [] b c d is = Longer c refl is
splits (x ∷ a) b [] d is = Shorter x a refl (sym is)
splits {A = A} (x ∷ a) b (y ∷ c) d is = further x y a b c d (ap (λ (l : List A). head_or x l) is) (splits a b c d (ap (λ (l : List A). tail_of l) is))

pub same_front : {A : Type 0} (front a b : List A) → front ++ a ≡ front ++ b → a ≡ b
same_front [] a b is = is
same_front {A = A} (x ∷ front) a b is = same_front front a b (ap (λ (l : List A). tail_of l) is)

-- what holds at each place holds of all
pub all_by_places : {A : Type 0} (P : A → Type 0) (xs : List A) → ((before : List A) (x : A) (behind : List A) → xs ≡ before ++ x ∷ behind → P x) → AllByRecursion P xs
all_by_places P [] each = tt
all_by_places {A = A} P (x ∷ xs) each = (each [] x xs refl, all_by_places P xs (λ before y behind is. each (x ∷ before) y behind (ap (λ (l : List A). x ∷ l) is)))

pub all_first : {A : Type 0} (P : A → Type 0) (xs ys : List A) → AllByRecursion P (xs ++ ys) → AllByRecursion P xs
all_first P [] ys all = tt
all_first P (x ∷ xs) ys all = (all.0, all_first P xs ys all.1)

pub all_second : {A : Type 0} (P : A → Type 0) (xs ys : List A) → AllByRecursion P (xs ++ ys) → AllByRecursion P ys
all_second P [] ys all = all
all_second P (x ∷ xs) ys all = all_second P xs ys all.1

-- ---- parts of a weave

-- the steps of the first items, and those of the others
pub record ItemSplit {I : Type 0} (steps : List (WeaveStep I)) (xs ys : List I) : Type 0 where
  pub first : List (WeaveStep I)
  pub second : List (WeaveStep I)
  pub split : steps ≡ first ++ second
  pub first_items : items_in first ≡ xs
  pub second_items : items_in second ≡ ys

pub split_items : {I : Type 0} (steps : List (WeaveStep I)) (xs ys : List I) → items_in steps ≡ xs ++ ys → ItemSplit steps xs ys
split_items steps [] ys is = record { first = []; second = steps; split = refl; first_items = refl; second_items = is }
split_items [] (x ∷ xs) ys is = absurd cc
split_items {I = I} (Passes e ∷ steps) (x ∷ xs) ys is =
    let r : ItemSplit steps (x ∷ xs) ys = split_items steps (x ∷ xs) ys is in
    record { first = Passes e ∷ r.first; second = r.second; split = ap (λ (l : List (WeaveStep I)). Passes e ∷ l) r.split; first_items = r.first_items; second_items = r.second_items }
split_items {I = I} (Unseen item ∷ steps) (x ∷ xs) ys is =
    let same : item ≡ x = ap (λ (l : List I). head_or item l) is in
    let r : ItemSplit steps xs ys = split_items steps xs ys (ap (λ (l : List I). tail_of l) is) in
    record {
      first = Unseen item ∷ r.first;
      second = r.second;
      split = ap (λ (l : List (WeaveStep I)). Unseen item ∷ l) r.split;
      first_items = ap (λ (l : List I). item ∷ l) r.first_items ∙ ap (λ (k : I). k ∷ xs) same;
      second_items = r.second_items;
    }
split_items {I = I} (Seen item e ∷ steps) (x ∷ xs) ys is =
    let same : item ≡ x = ap (λ (l : List I). head_or item l) is in
    let r : ItemSplit steps xs ys = split_items steps xs ys (ap (λ (l : List I). tail_of l) is) in
    record {
      first = Seen item e ∷ r.first;
      second = r.second;
      split = ap (λ (l : List (WeaveStep I)). Seen item e ∷ l) r.split;
      first_items = ap (λ (l : List I). item ∷ l) r.first_items ∙ ap (λ (k : I). k ∷ xs) same;
      second_items = r.second_items;
    }

-- the step of an item
abbrev pub HasItemIn : {I : Type 0} → I → WeaveStep I → Type 0
HasItemIn item (Passes e) = ⊥
HasItemIn item (Unseen other) = other ≡ item
HasItemIn item (Seen other e) = other ≡ item

pub record ItemStep {I : Type 0} (steps : List (WeaveStep I)) (before : List I) (item : I) (behind : List I) : Type 0 where
  pub earlier : List (WeaveStep I)
  pub step : WeaveStep I
  pub later : List (WeaveStep I)
  pub split : steps ≡ earlier ++ step ∷ later
  pub is : HasItemIn item step
  pub earlier_items : items_in earlier ≡ before
  pub later_items : items_in later ≡ behind

step_behind : {I : Type 0} (s : WeaveStep I) (steps : List (WeaveStep I)) (before all : List I) (item : I) (behind : List I) → ((l : List (WeaveStep I)) → items_in l ≡ before → items_in (s ∷ l) ≡ all) → ItemStep steps before item behind → ItemStep (s ∷ steps) all item behind
step_behind {I = I} s steps before all item behind more r = record {
  earlier = s ∷ r.earlier;
  step = r.step;
  later = r.later;
  split = ap (λ (l : List (WeaveStep I)). s ∷ l) r.split;
  is = r.is;
  earlier_items = more r.earlier r.earlier_items;
  later_items = r.later_items;
}

pub item_step : {I : Type 0} (steps : List (WeaveStep I)) (before : List I) (item : I) (behind : List I) → items_in steps ≡ before ++ item ∷ behind → ItemStep steps before item behind
item_step [] [] item behind is = absurd cc
item_step [] (x ∷ before) item behind is = absurd cc
item_step (Passes e ∷ steps) before item behind is = step_behind (Passes e) steps before before item behind (λ l its. its) (item_step steps before item behind is)
item_step {I = I} (Unseen other ∷ steps) [] item behind is =
    record { earlier = []; step = Unseen other; later = steps; split = refl; is = ap (λ (l : List I). head_or other l) is; earlier_items = refl; later_items = ap (λ (l : List I). tail_of l) is }
item_step {I = I} (Seen other e ∷ steps) [] item behind is =
    record { earlier = []; step = Seen other e; later = steps; split = refl; is = ap (λ (l : List I). head_or other l) is; earlier_items = refl; later_items = ap (λ (l : List I). tail_of l) is }
item_step {I = I} (Unseen other ∷ steps) (x ∷ before) item behind is =
    step_behind (Unseen other) steps before (x ∷ before) item behind (λ l its. ap (λ (k : List I). other ∷ k) its ∙ ap (λ (y : I). y ∷ before) (ap (λ (l : List I). head_or other l) is))
    (item_step steps before item behind (ap (λ (l : List I). tail_of l) is))
item_step {I = I} (Seen other e ∷ steps) (x ∷ before) item behind is =
    step_behind (Seen other e) steps before (x ∷ before) item behind (λ l its. ap (λ (k : List I). other ∷ k) its ∙ ap (λ (y : I). y ∷ before) (ap (λ (l : List I). head_or other l) is))
    (item_step steps before item behind (ap (λ (l : List I). tail_of l) is))

-- ---- a place in the journal

-- a step that has an entry
abbrev pub HasEntry : {I : Type 0} → WeaveStep I → Type 0
HasEntry (Passes e) = Unit {0}
HasEntry (Unseen item) = ⊥
HasEntry (Seen item e) = Unit {0}

pub record SamePlace {I : Type 0} (a b c d : List (WeaveStep I)) (s t : WeaveStep I) : Type 0 where
  pub earlier : a ≡ c
  pub step : s ≡ t
  pub later : b ≡ d

place_behind : {I : Type 0} (x y : WeaveStep I) (a b c d : List (WeaveStep I)) (s t : WeaveStep I) → x ≡ y → SamePlace a b c d s t → SamePlace (x ∷ a) b (y ∷ c) d s t
place_behind {I = I} x y a b c d s t same r =
    record { earlier = ap (λ (k : WeaveStep I). k ∷ a) same ∙ ap (λ (l : List (WeaveStep I)). y ∷ l) r.earlier; step = r.step; later = r.later }

-- two steps with an entry, behind as many entries, are one
pub same_place : {I : Type 0} (a b c d : List (WeaveStep I)) (s t : WeaveStep I) → a ++ s ∷ b ≡ c ++ t ∷ d → entries_in a ≡ entries_in c → HasEntry s → HasEntry t → SamePlace a b c d s t
same_place {I = I} [] b [] d s t is as_many first second = record { earlier = refl; step = ap (λ (l : List (WeaveStep I)). head_or s l) is; later = ap (λ (l : List (WeaveStep I)). tail_of l) is }
same_place [] b (Passes e ∷ c) d s t is as_many first second = absurd cc
same_place {I = I} [] b (Unseen item ∷ c) d s t is as_many first second = absurd (subst (λ (k : WeaveStep I). HasEntry k) (ap (λ (l : List (WeaveStep I)). head_or s l) is) first)
same_place [] b (Seen item e ∷ c) d s t is as_many first second = absurd cc
same_place (Passes e ∷ a) b [] d s t is as_many first second = absurd cc
same_place {I = I} (Unseen item ∷ a) b [] d s t is as_many first second = absurd (subst (λ (k : WeaveStep I). HasEntry k) (sym (ap (λ (l : List (WeaveStep I)). head_or t l) is)) second)
same_place (Seen item e ∷ a) b [] d s t is as_many first second = absurd cc
same_place {I = I} (Passes e ∷ a) b (y ∷ c) d s t is as_many first second =
    let same : Passes e ≡ y = ap (λ (l : List (WeaveStep I)). head_or (Passes e) l) is in
    let more : e ∷ entries_in a ≡ entries_in (Passes e ∷ c) = as_many ∙ ap (λ (k : WeaveStep I). entries_in (k ∷ c)) (sym same) in
    place_behind (Passes e) y a b c d s t same (same_place a b c d s t (ap (λ (l : List (WeaveStep I)). tail_of l) is) (ap (λ (l : List Entry). tail_of l) more) first second)
same_place {I = I} (Unseen item ∷ a) b (y ∷ c) d s t is as_many first second =
    let same : Unseen item ≡ y = ap (λ (l : List (WeaveStep I)). head_or (Unseen item) l) is in
    let more : entries_in a ≡ entries_in (Unseen item ∷ c) = as_many ∙ ap (λ (k : WeaveStep I). entries_in (k ∷ c)) (sym same) in
    place_behind (Unseen item) y a b c d s t same (same_place a b c d s t (ap (λ (l : List (WeaveStep I)). tail_of l) is) more first second)
same_place {I = I} (Seen item e ∷ a) b (y ∷ c) d s t is as_many first second =
    let same : Seen item e ≡ y = ap (λ (l : List (WeaveStep I)). head_or (Seen item e) l) is in
    let more : e ∷ entries_in a ≡ entries_in (Seen item e ∷ c) = as_many ∙ ap (λ (k : WeaveStep I). entries_in (k ∷ c)) (sym same) in
    place_behind (Seen item e) y a b c d s t same (same_place a b c d s t (ap (λ (l : List (WeaveStep I)). tail_of l) is) (ap (λ (l : List Entry). tail_of l) more) first second)
