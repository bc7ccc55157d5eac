-- The first of a list that passes a test.
use Rattle.std.proofs.Common.{◌≡◌, ℕ, suc, ◌+◌, ◌<◌, Bool, true, false, cond, List, [], ◌∷◌, length, get_or, set, map, Option, Some, None, refl, sym, ap, ◌∙◌, arith, subst}
use Rattle.std.specs.Prelude.{◌-◌, slice_get, remove, is_some, if◌then◌else◌}
use Rattle.std.specs.List.{find, last_or, list_any, position, position_from}
use Rattle.std.proofs.lemmas.Iterator.Adapters.{position_from-zero}
use Rattle.std.proofs.lemmas.Option.{same_Some, slice_get_read}
use Rattle.std.proofs.lemmas.Bool.{eq-eqb, ne_eqb, eqb-true}
use Rattle.std.proofs.Math.Dec.{eqb}
use Rattle.nfs4_session.specs.Clients.{ClientState, has_id, change_first, remove_first}
use Rattle.nfs4_session.specs.Standing.{client_ids}

pub record FoundAt {X : Type 0} (test : X → Bool) (xs : List X) (place : ℕ) : Type 0 where
  pub item : X
  pub within : place < length xs
  pub at : slice_get xs place ≡ Some item
  pub passes : test item ≡ true
  pub finds : find test xs ≡ Some item
  pub some : list_any test xs ≡ true
  pub changes : (f : X → X) → change_first test f xs ≡ set xs place (f item)
  pub removes : remove_first test xs ≡ remove xs place

pub record IsMissing {X : Type 0} (test : X → Bool) (xs : List X) : Type 0 where
  pub finds : find test xs ≡ None
  pub none : list_any test xs ≡ false
  pub changes : (f : X → X) → change_first test f xs ≡ xs
  pub removes : remove_first test xs ≡ xs

-- what is not there under any place
pub not_found : (o p : Option ℕ) → o ≡ p → ((x : ℕ) → o ≡ Some x → ⊥) → p ≡ None
not_found o None same none = refl
not_found o (Some x) same none = absurd (none x same)

module _ {X : Type 0} (test : X → Bool) where
  here : (x : X) (xs : List X) → test x ≡ true → FoundAt test (x ∷ xs) 0
  here x xs passes = record {
    item = x;
    within = omega arith;
    at = refl;
    passes = passes;
    finds = rw passes refl;
    some = rw passes refl;
    changes = λ f. rw passes refl;
    removes = rw passes refl;
  }

  behind : (x : X) (xs : List X) (k : ℕ) → test x ≡ false → FoundAt test xs k → FoundAt test (x ∷ xs) (suc k)
  behind x xs k fails there = record {
    item = there.item;
    within = let within = there.within in omega arith;
    at = there.at;
    passes = there.passes;
    finds = rw fails there.finds;
    some = rw fails there.some;
    changes = λ f. rw fails (ap (λ ys. x ∷ ys) (there.changes f));
    removes = rw fails (ap (λ ys. x ∷ ys) there.removes);
  }

  found_from : (xs : List X) (i place : ℕ) → position_from test i xs ≡ Some place → (k : ℕ) × (place ≡ i + k) × FoundAt test xs k
  found_from [] i place is = absurd (cc (is))
  found_from (x ∷ xs) i place is = by_case (test x) refl is (found_from xs (i + 1) place)
    where
      by_case : (b : Bool) → test x ≡ b → cond b (Some i) (position_from test (i + 1) xs) ≡ Some place
          → (position_from test (i + 1) xs ≡ Some place → (k : ℕ) × (place ≡ (i + 1) + k) × FoundAt test xs k)
          → (k : ℕ) × (place ≡ i + k) × FoundAt test (x ∷ xs) k
      by_case true passes is rest = let same : i ≡ place = same_Some i place is in (0, omega arith, here x xs passes)
      by_case false fails is rest = let r = rest is in let at = r.1 in (suc r.0, omega arith, behind x xs r.0 fails r.2)

  missing_from : (xs : List X) (i : ℕ) → position_from test i xs ≡ None → IsMissing test xs
  missing_from [] i is = record { finds = refl; none = refl; changes = λ f. refl; removes = refl }
  missing_from (x ∷ xs) i is = by_case (test x) refl is (missing_from xs (i + 1))
    where
      by_case : (b : Bool) → test x ≡ b → cond b (Some i) (position_from test (i + 1) xs) ≡ None
          → (position_from test (i + 1) xs ≡ None → IsMissing test xs) → IsMissing test (x ∷ xs)
      by_case true passes is rest = absurd (cc (is))
      by_case false fails is rest = let r = rest is in record {
        finds = rw fails r.finds;
        none = rw fails r.none;
        changes = λ f. rw fails (ap (λ ys. x ∷ ys) (r.changes f));
        removes = rw fails (ap (λ ys. x ∷ ys) r.removes);
      }

  pub found : (xs : List X) (place : ℕ) → position test xs ≡ Some place → FoundAt test xs place
  found xs place is =
      let r = found_from xs 0 place (sym (position_from-zero test xs) ∙ is) in
      let at = r.1 in
      let same : r.0 ≡ place = omega arith in
      subst (λ k. FoundAt test xs k) same r.2

  pub missing : (xs : List X) → position test xs ≡ None → IsMissing test xs
  missing xs is = missing_from xs 0 (sym (position_from-zero test xs) ∙ is)

  -- what was read there is the first
  pub first_is : (xs : List X) (place : ℕ) (x : X) (there : FoundAt test xs place) → x ≡ get_or xs place x → get_or xs place x ≡ there.item
  first_is xs place x there is = sym is ∙ same_Some x there.item (sym (slice_get_read xs (length xs) place x refl there.within is) ∙ there.at)

  -- the first was changed, and no other
  pub changed_there : (f : X → X) (xs : List X) (place : ℕ) (x new : X) → position test xs ≡ Some place → x ≡ get_or xs place x → new ≡ f (get_or xs place x) → set xs place new ≡ change_first test f xs
  changed_there f xs place x new is read does =
      let there = found xs place is in
      ap (set xs place) (does ∙ ap f (first_is xs place x there read)) ∙ sym (there.changes f)

  -- what was read there is what is found
  pub reads : (xs : List X) (place : ℕ) (x : X) → position test xs ≡ Some place → x ≡ get_or xs place x → find test xs ≡ Some x
  reads xs place x is read = let there = found xs place is in there.finds ∙ ap Some (sym (read ∙ first_is xs place x there read))

  pub any_is : (xs : List X) → is_some (position test xs) ≡ list_any test xs
  any_is xs = by_case (position test xs) refl
    where
      by_case : (o : Option ℕ) → position test xs ≡ o → is_some o ≡ list_any test xs
      by_case (Some place) is = sym (found xs place is).some
      by_case None is = sym (missing xs is).none

  -- one is there where it has a place
  pub is_there : (xs : List X) → is_some (position test xs) ≡ is_some (find test xs)
  is_there xs = by_case (position test xs) refl
    where
      by_case : (o : Option ℕ) → position test xs ≡ o → is_some o ≡ is_some (find test xs)
      by_case (Some place) is = sym (ap is_some (found xs place is).finds)
      by_case None is = sym (ap is_some (missing xs is).finds)

-- what is changed twice
pub change_twice : {X : Type 0} (test : X → Bool) (f g : X → X) → ((x : X) → test (g x) ≡ test x) → (xs : List X) → change_first test f (change_first test g xs) ≡ change_first test (λ x. f (g x)) xs
change_twice test f g same [] = refl
change_twice test f g same (x ∷ xs) = by_case (test x) refl (change_twice test f g same xs)
  where
    by_case : (b : Bool) → test x ≡ b → change_first test f (change_first test g xs) ≡ change_first test (λ x. f (g x)) xs
        → change_first test f (if b then g x ∷ xs else x ∷ change_first test g xs) ≡ (if b then f (g x) ∷ xs else x ∷ change_first test (λ x. f (g x)) xs)
    by_case true is rest = ap (λ b. if b then f (g x) ∷ xs else g x ∷ change_first test f xs) (same x ∙ is)
    by_case false is rest = ap (λ b. if b then f x ∷ change_first test g xs else x ∷ change_first test f (change_first test g xs)) is ∙ ap (λ ys. x ∷ ys) rest

-- a test and another that says the same
same_from : {X : Type 0} (p q : X → Bool) → ((x : X) → p x ≡ q x) → (i : ℕ) (xs : List X) → position_from p i xs ≡ position_from q i xs
same_from p q same i [] = refl
same_from p q same i (x ∷ xs) = ap (λ b. cond b (Some i) (position_from p (i + 1) xs)) (same x) ∙ ap (λ o. cond (q x) (Some i) o) (same_from p q same (i + 1) xs)

map_from : {X Y : Type 0} (p : Y → Bool) (g : X → Y) (i : ℕ) (xs : List X) → position_from p i (map g xs) ≡ position_from (λ x. p (g x)) i xs
map_from p g i [] = refl
map_from p g i (x ∷ xs) = ap (λ o. cond (p (g x)) (Some i) o) (map_from p g (i + 1) xs)

eqb_turned : (a b : ℕ) → eqb a b ≡ eqb b a
eqb_turned a b = by_case (eqb a b) refl
  where
    by_case : (t : Bool) → eqb a b ≡ t → t ≡ eqb b a
    by_case true is = sym (eq-eqb b a (sym (eqb-true a b is)))
    by_case false is = sym (ne_eqb b a (λ same. let yes : eqb a b ≡ true = eq-eqb a b (sym same) in absurd (cc (yes, is))))

-- an id has the place of its record
pub place_in : (id : ℕ) (keys : List ℕ) (cs : List ClientState) → keys ≡ client_ids cs → position (eqb id) keys ≡ position (has_id id) cs
place_in id keys cs same =
    ap (position (eqb id)) same ∙ position_from-zero (eqb id) (client_ids cs) ∙ map_from (eqb id) (λ (c : ClientState). c.id) 0 cs
    ∙ same_from (λ (c : ClientState). eqb id c.id) (has_id id) (λ c. eqb_turned id c.id) 0 cs ∙ sym (position_from-zero (has_id id) cs)

-- the last of a list, by its place
last_from : {X : Type 0} (x : X) (xs : List X) → slice_get (x ∷ xs) (length xs) ≡ last_or (Some x) xs
last_from x [] = refl
last_from x (y ∷ xs) = last_from y xs

pub last_is : {X : Type 0} (xs : List X) → slice_get xs (length xs - 1) ≡ last_or None xs
last_is [] = refl
last_is (x ∷ xs) = ap (slice_get (x ∷ xs)) (less (length xs)) ∙ last_from x xs
  where
    less : (n : ℕ) → suc n - 1 ≡ n
    less n = omega arith
