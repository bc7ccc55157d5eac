-- The first of a list that passes a test, where at most one does.
use Rattle.std.proofs.Common.{◌≡◌, ◌⊎◌, inl, inr, ℕ, zero, suc, ◌+◌, ◌<◌, Bool, true, false, not, ◌||◌, cond, List, [], ◌∷◌, length, map, set, Option, Some, None, refl, sym, ap, subst, ◌∙◌, arith}
use Rattle.std.specs.Prelude.{slice_get, option_map, is_some}
use Rattle.std.specs.List.{find, filter, list_any, position, position_from}
use Rattle.std.proofs.lemmas.Iterator.Adapters.{position_from-zero}
use Rattle.std.proofs.lemmas.Option.{same_Some, none-some}
use Rattle.std.proofs.lemmas.Bool.{both_ways}
use Rattle.recall.specs.Entries.{IsAtMostOne}

-- what is found, unless it is left out
abbrev pub kept_if : {X : Type 0} → (X → Bool) → Option X → Option X
kept_if keep None = None
kept_if keep (Some x) = cond (keep x) (Some x) None

module _ {X : Type 0} (test : X → Bool) where
  pub find_here : (x : X) (xs : List X) → test x ≡ true → find test (x ∷ xs) ≡ Some x
  find_here x xs is = rw is refl

  pub find_behind : (x : X) (xs : List X) → test x ≡ false → find test (x ∷ xs) ≡ find test xs
  find_behind x xs is = rw is refl

  -- what is found passes
  pub passes : (xs : List X) (r : X) → find test xs ≡ Some r → test r ≡ true
  passes [] r is = absurd (none-some r is)
  passes (x ∷ xs) r is = by_case (test x) refl (passes xs r)
    where
      by_case : (b : Bool) → test x ≡ b → (find test xs ≡ Some r → test r ≡ true) → test r ≡ true
      by_case true here rest = let same : x ≡ r = same_Some x r (sym (find_here x xs here) ∙ is) in subst (λ (y : X). test y ≡ true) same here
      by_case false fails rest = rest (sym (find_behind x xs fails) ∙ is)

  -- where none passes, what another test finds does not
  pub none_passes : (other : X → Bool) (xs : List X) (r : X) → find test xs ≡ None → find other xs ≡ Some r → test r ≡ false
  none_passes other [] r none is = absurd (none-some r is)
  none_passes other (x ∷ xs) r none is = by_case (test x) (other x) refl refl (none_passes other xs r)
    where
      by_case : (a b : Bool) → test x ≡ a → other x ≡ b → (find test xs ≡ None → find other xs ≡ Some r → test r ≡ false) → test r ≡ false
      by_case true b here there rest = absurd (none-some x (sym none ∙ find_here x xs here))
      by_case false true fails there rest =
          let found : find other (x ∷ xs) ≡ Some x = rw there refl in
          let same : x ≡ r = same_Some x r (sym found ∙ is) in
          subst (λ (y : X). test y ≡ false) same fails
      by_case false false fails there rest =
          let behind : find other (x ∷ xs) ≡ find other xs = rw there refl in
          rest (sym (find_behind x xs fails) ∙ none) (sym behind ∙ is)

  -- nor what stands at a place
  pub none_at : (xs : List X) (place : ℕ) (r : X) → find test xs ≡ None → slice_get xs place ≡ Some r → test r ≡ false
  none_at [] place r none is = absurd (none-some r is)
  none_at (x ∷ xs) zero r none is = by_case (test x) refl
    where
      by_case : (b : Bool) → test x ≡ b → test r ≡ false
      by_case true here = absurd (none-some x (sym none ∙ find_here x xs here))
      by_case false fails = let same : x ≡ r = same_Some x r is in subst (λ (y : X). test y ≡ false) same fails
  none_at (x ∷ xs) (suc place) r none is = by_case (test x) refl (none_at xs place r)
    where
      by_case : (b : Bool) → test x ≡ b → (find test xs ≡ None → slice_get xs place ≡ Some r → test r ≡ false) → test r ≡ false
      by_case true here rest = absurd (none-some x (sym none ∙ find_here x xs here))
      by_case false fails rest = rest (sym (find_behind x xs fails) ∙ none) is

  pub any_found : (xs : List X) → list_any test xs ≡ is_some (find test xs)
  any_found [] = refl
  any_found (x ∷ xs) = by_case (test x) (any_found xs)
    where
      by_case : (b : Bool) → list_any test xs ≡ is_some (find test xs) → b || list_any test xs ≡ is_some (cond b (Some x) (find test xs))
      by_case true rest = refl
      by_case false rest = rest

  pub none_found : (xs : List X) → list_any test xs ≡ false → find test xs ≡ None
  none_found xs none = by_case (find test xs) refl
    where
      by_case : (o : Option X) → find test xs ≡ o → o ≡ None
      by_case None is = refl
      by_case (Some x) is = absurd (both_ways (list_any test xs) none (any_found xs ∙ ap is_some is))

  -- ---- at most one

  -- what passes is what is found
  pub one_found : (other : X → Bool) (xs : List X) (r : X) → IsAtMostOne test xs → find other xs ≡ Some r → test r ≡ true → find test xs ≡ Some r
  one_found other [] r one is here = absurd (none-some r is)
  one_found other (x ∷ xs) r one is here = by_case (other x) (test x) refl refl (one_found other xs r one.1)
    where
      by_case : (a b : Bool) → other x ≡ a → test x ≡ b → (find other xs ≡ Some r → test r ≡ true → find test xs ≡ Some r) → find test (x ∷ xs) ≡ Some r
      by_case true b there first rest =
          let found : find other (x ∷ xs) ≡ Some x = rw there refl in
          let same : x ≡ r = same_Some x r (sym found ∙ is) in
          find_here x xs (subst (λ (y : X). test y ≡ true) (sym same) here) ∙ ap Some same
      by_case false true there first rest =
          let behind : find other (x ∷ xs) ≡ find other xs = rw there refl in
          absurd (none-some r (sym (one.0 first) ∙ rest (sym behind ∙ is) here))
      by_case false false there first rest =
          let behind : find other (x ∷ xs) ≡ find other xs = rw there refl in
          find_behind x xs first ∙ rest (sym behind ∙ is) here

  pub one_at : (xs : List X) (place : ℕ) (r : X) → IsAtMostOne test xs → slice_get xs place ≡ Some r → test r ≡ true → find test xs ≡ Some r
  one_at [] place r one is here = absurd (none-some r is)
  one_at (x ∷ xs) zero r one is here =
      let same : x ≡ r = same_Some x r is in
      find_here x xs (subst (λ (y : X). test y ≡ true) (sym same) here) ∙ ap Some same
  one_at (x ∷ xs) (suc place) r one is here = by_case (test x) refl (one_at xs place r one.1 is here)
    where
      by_case : (b : Bool) → test x ≡ b → find test xs ≡ Some r → find test (x ∷ xs) ≡ Some r
      by_case true first rest = absurd (none-some r (sym (one.0 first) ∙ rest))
      by_case false first rest = find_behind x xs first ∙ rest

  -- ---- some are left out

  pub find_kept : (keep : X → Bool) (xs : List X) → IsAtMostOne test xs → find test (filter keep xs) ≡ kept_if keep (find test xs)
  find_kept keep [] one = refl
  find_kept keep (x ∷ xs) one = by_case (test x) (keep x) refl refl (find_kept keep xs one.1)
    where
      by_case : (a b : Bool) → test x ≡ a → keep x ≡ b → find test (filter keep xs) ≡ kept_if keep (find test xs)
          → find test (cond b (x ∷ filter keep xs) (filter keep xs)) ≡ kept_if keep (cond a (Some x) (find test xs))
      by_case true true first stays rest = find_here x (filter keep xs) first ∙ ap (λ b. cond b (Some x) None) (sym stays)
      by_case true false first stays rest = rest ∙ ap (kept_if keep) (one.0 first) ∙ ap (λ b. cond b (Some x) None) (sym stays)
      by_case false true first stays rest = find_behind x (filter keep xs) first ∙ rest
      by_case false false first stays rest = rest

  pub one_kept : (keep : X → Bool) (xs : List X) → IsAtMostOne test xs → IsAtMostOne test (filter keep xs)
  one_kept keep [] one = tt
  one_kept keep (x ∷ xs) one = by_case (keep x) (one_kept keep xs one.1)
    where
      by_case : (b : Bool) → IsAtMostOne test (filter keep xs) → IsAtMostOne test (cond b (x ∷ filter keep xs) (filter keep xs))
      by_case true rest = (λ first. find_kept keep xs one.1 ∙ ap (kept_if keep) (one.0 first), rest)
      by_case false rest = rest

  -- ---- each is changed, and no test's answer

  pub find_map : (f : X → X) → ((x : X) → test (f x) ≡ test x) → (xs : List X) → find test (map f xs) ≡ option_map f (find test xs)
  find_map f same [] = refl
  find_map f same (x ∷ xs) = ap (λ b. cond b (Some (f x)) (find test (map f xs))) (same x) ∙ by_case (test x) (find_map f same xs)
    where
      by_case : (b : Bool) → find test (map f xs) ≡ option_map f (find test xs) → cond b (Some (f x)) (find test (map f xs)) ≡ option_map f (cond b (Some x) (find test xs))
      by_case true rest = refl
      by_case false rest = rest

  pub one_map : (f : X → X) → ((x : X) → test (f x) ≡ test x) → (xs : List X) → IsAtMostOne test xs → IsAtMostOne test (map f xs)
  one_map f same [] one = tt
  one_map f same (x ∷ xs) one = (λ first. find_map f same xs ∙ ap (option_map f) (one.0 (sym (same x) ∙ first)), one_map f same xs one.1)

  -- ---- one is put anew

  pub set_other : (xs : List X) (place : ℕ) (r new : X) → slice_get xs place ≡ Some r → test r ≡ false → test new ≡ false → find test (set xs place new) ≡ find test xs
  set_other [] place r new is old fails = absurd (none-some r is)
  set_other (x ∷ xs) zero r new is old fails =
      let same : r ≡ x = sym (same_Some x r is) in
      find_behind new xs fails ∙ sym (find_behind x xs (subst (λ (y : X). test y ≡ false) same old))
  set_other (x ∷ xs) (suc place) r new is old fails = ap (λ (o : Option X). cond (test x) (Some x) o) (set_other xs place r new is old fails)

  pub set_none : (xs : List X) (place : ℕ) (new : X) → find test xs ≡ None → test new ≡ false → find test (set xs place new) ≡ None
  set_none [] place new none fails = refl
  set_none (x ∷ xs) place new none fails = by_case (test x) refl place (set_none xs)
    where
      by_case : (b : Bool) → test x ≡ b → (k : ℕ) → ((k : ℕ) (new : X) → find test xs ≡ None → test new ≡ false → find test (set xs k new) ≡ None) → find test (set (x ∷ xs) k new) ≡ None
      by_case true here k rest = absurd (none-some x (sym none ∙ find_here x xs here))
      by_case false behind zero rest = find_behind new xs fails ∙ sym (find_behind x xs behind) ∙ none
      by_case false behind (suc k) rest = find_behind x (set xs k new) behind ∙ rest k new (sym (find_behind x xs behind) ∙ none) fails

  pub set_gone : (xs : List X) (place : ℕ) (r new : X) → IsAtMostOne test xs → slice_get xs place ≡ Some r → test r ≡ true → test new ≡ false → find test (set xs place new) ≡ None
  set_gone [] place r new one is old fails = absurd (none-some r is)
  set_gone (x ∷ xs) zero r new one is old fails =
      let same : r ≡ x = sym (same_Some x r is) in
      find_behind new xs fails ∙ one.0 (subst (λ (y : X). test y ≡ true) same old)
  set_gone (x ∷ xs) (suc place) r new one is old fails = by_case (test x) refl (set_gone xs place r new one.1 is old fails)
    where
      by_case : (b : Bool) → test x ≡ b → find test (set xs place new) ≡ None → find test (x ∷ set xs place new) ≡ None
      by_case true here rest = absurd (both_ways (test r) (none_at xs place r (one.0 here) is) old)
      by_case false behind rest = find_behind x (set xs place new) behind ∙ rest

  pub set_found : (xs : List X) (place : ℕ) (r new : X) → find test xs ≡ None → slice_get xs place ≡ Some r → test new ≡ true → find test (set xs place new) ≡ Some new
  set_found [] place r new none is here = absurd (none-some r is)
  set_found (x ∷ xs) zero r new none is here = find_here new xs here
  set_found (x ∷ xs) (suc place) r new none is here = by_case (test x) refl (set_found xs place r new)
    where
      by_case : (b : Bool) → test x ≡ b → (find test xs ≡ None → slice_get xs place ≡ Some r → test new ≡ true → find test (set xs place new) ≡ Some new) → find test (x ∷ set xs place new) ≡ Some new
      by_case true first rest = absurd (none-some x (sym none ∙ find_here x xs first))
      by_case false behind rest = find_behind x (set xs place new) behind ∙ rest (sym (find_behind x xs behind) ∙ none) is here

  pub set_again : (xs : List X) (place : ℕ) (r new : X) → IsAtMostOne test xs → slice_get xs place ≡ Some r → test r ≡ true → test new ≡ true → find test (set xs place new) ≡ Some new
  set_again [] place r new one is old here = absurd (none-some r is)
  set_again (x ∷ xs) zero r new one is old here = find_here new xs here
  set_again (x ∷ xs) (suc place) r new one is old here = by_case (test x) refl (set_again xs place r new one.1 is old here)
    where
      by_case : (b : Bool) → test x ≡ b → find test (set xs place new) ≡ Some new → find test (x ∷ set xs place new) ≡ Some new
      by_case true first rest = absurd (both_ways (test r) (none_at xs place r (one.0 first) is) old)
      by_case false behind rest = find_behind x (set xs place new) behind ∙ rest

  -- what is found stands at the place where the test's answer stays
  pub set_image : {Y : Type 0} (f : X → Y) (xs : List X) (place : ℕ) (r new : X) → slice_get xs place ≡ Some r → test new ≡ test r → f new ≡ f r
      → option_map f (find test (set xs place new)) ≡ option_map f (find test xs)
  set_image f [] place r new is same image = absurd (none-some r is)
  set_image f (x ∷ xs) zero r new is same image =
      let here : r ≡ x = sym (same_Some x r is) in
      ap (λ (b : Bool). option_map f (cond b (Some new) (find test xs))) (same ∙ ap test here) ∙ by_case (test x) (image ∙ ap f here)
    where
      by_case : (b : Bool) → f new ≡ f x → option_map f (cond b (Some new) (find test xs)) ≡ option_map f (cond b (Some x) (find test xs))
      by_case true at = ap Some at
      by_case false at = refl
  set_image f (x ∷ xs) (suc place) r new is same image = by_case (test x) (set_image f xs place r new is same image)
    where
      by_case : (b : Bool) → option_map f (find test (set xs place new)) ≡ option_map f (find test xs)
          → option_map f (cond b (Some x) (find test (set xs place new))) ≡ option_map f (cond b (Some x) (find test xs))
      by_case true rest = refl
      by_case false rest = rest

  -- the one that passed passes still, or none did
  pub one_set : (xs : List X) (place : ℕ) (r new : X) → IsAtMostOne test xs → slice_get xs place ≡ Some r → (test new ≡ true → (test r ≡ true) ⊎ (find test xs ≡ None)) → IsAtMostOne test (set xs place new)
  one_set [] place r new one is may = tt
  one_set (x ∷ xs) zero r new one is may = (λ here. by_case (may here), one.1)
    where
      by_case : (test r ≡ true) ⊎ (find test (x ∷ xs) ≡ None) → find test xs ≡ None
      by_case (inl old) = let same : r ≡ x = sym (same_Some x r is) in one.0 (subst (λ (y : X). test y ≡ true) same old)
      by_case (inr none) = tail (test x) refl none
        where
          tail : (b : Bool) → test x ≡ b → find test (x ∷ xs) ≡ None → find test xs ≡ None
          tail true first none = absurd (none-some x (sym none ∙ find_here x xs first))
          tail false behind none = sym (find_behind x xs behind) ∙ none
  one_set (x ∷ xs) (suc place) r new one is may = (λ first. by_new first (test new) refl, one_set xs place r new one.1 is (λ here. behind (may here)))
    where
      behind : (test r ≡ true) ⊎ (find test (x ∷ xs) ≡ None) → (test r ≡ true) ⊎ (find test xs ≡ None)
      behind (inl old) = inl old
      behind (inr none) = inr (tail (test x) refl)
        where
          tail : (b : Bool) → test x ≡ b → find test xs ≡ None
          tail true first = absurd (none-some x (sym none ∙ find_here x xs first))
          tail false after = sym (find_behind x xs after) ∙ none

      by_new : test x ≡ true → (b : Bool) → test new ≡ b → find test (set xs place new) ≡ None
      by_new first false fails = set_none xs place new (one.0 first) fails
      by_new first true here = by_old (may here)
        where
          by_old : (test r ≡ true) ⊎ (find test (x ∷ xs) ≡ None) → find test (set xs place new) ≡ None
          by_old (inl old) = absurd (both_ways (test r) (none_at xs place r (one.0 first) is) old)
          by_old (inr none) = absurd (none-some x (sym none ∙ find_here x xs first))

  -- ---- the place of the first

  pub record IsFirst (xs : List X) (place : ℕ) : Type 0 where
    pub item : X
    pub at : slice_get xs place ≡ Some item
    pub finds : find test xs ≡ Some item
    pub within : place < length xs

  found_from : (xs : List X) (i place : ℕ) → position_from test i xs ≡ Some place → (k : ℕ) × (place ≡ i + k) × IsFirst xs k
  found_from [] i place is = absurd (none-some place is)
  found_from (x ∷ xs) i place is = by_case (test x) refl is (found_from xs (i + 1) place)
    where
      by_case : (b : Bool) → test x ≡ b → cond b (Some i) (position_from test (i + 1) xs) ≡ Some place
          → (position_from test (i + 1) xs ≡ Some place → (k : ℕ) × (place ≡ (i + 1) + k) × IsFirst xs k)
          → (k : ℕ) × (place ≡ i + k) × IsFirst (x ∷ xs) k
      by_case true here is rest = let same : i ≡ place = same_Some i place is in (0, omega arith, record { item = x; at = refl; finds = find_here x xs here; within = omega arith })
      by_case false behind is rest =
          let r = rest is in
          let at = r.1 in
          let there = r.2 in
          let low = there.within in
          (suc r.0, omega arith, record { item = there.item; at = there.at; finds = find_behind x xs behind ∙ there.finds; within = omega arith })

  missing_from : (xs : List X) (i : ℕ) → position_from test i xs ≡ None → find test xs ≡ None
  missing_from [] i is = refl
  missing_from (x ∷ xs) i is = by_case (test x) refl is (missing_from xs (i + 1))
    where
      by_case : (b : Bool) → test x ≡ b → cond b (Some i) (position_from test (i + 1) xs) ≡ None → (position_from test (i + 1) xs ≡ None → find test xs ≡ None) → find test (x ∷ xs) ≡ None
      by_case true here is rest = absurd (none-some i (sym is))
      by_case false behind is rest = find_behind x xs behind ∙ rest is

  pub first_there : (xs : List X) (place : ℕ) → position test xs ≡ Some place → IsFirst xs place
  first_there xs place is =
      let r = found_from xs 0 place (sym (position_from-zero test xs) ∙ is) in
      let at = r.1 in
      let same : r.0 ≡ place = omega arith in
      subst (λ (k : ℕ). IsFirst xs k) same r.2

  pub no_first : (xs : List X) → position test xs ≡ None → find test xs ≡ None
  no_first xs is = missing_from xs 0 (sym (position_from-zero test xs) ∙ is)

-- what is found is left out by a test that says the same of it
pub left_by : {X Y : Type 0} (g : X → Y) (keep : X → Bool) (gone : Bool) (o : Option X) → ((x : X) → o ≡ Some x → keep x ≡ not gone) → option_map g (kept_if keep o) ≡ cond gone None (option_map g o)
left_by {Y = Y} g keep gone None says = by_case gone
  where
    by_case : (b : Bool) → ◌≡◌ {A = Option Y} None (cond b None None)
    by_case true = refl
    by_case false = refl
left_by g keep gone (Some x) says = ap (λ b. option_map g (cond b (Some x) None)) (says x refl) ∙ by_case gone
  where
    by_case : (b : Bool) → option_map g (cond (not b) (Some x) None) ≡ cond b None (Some (g x))
    by_case true = refl
    by_case false = refl
