-- Lists whose elements have numbers: which of them stay where the first that passes a test is changed or taken out.
use Rattle.std.proofs.Common.{◌≡◌, ◌<◌, ℕ, zero, suc, Bool, true, false, cond, List, [], ◌∷◌, ◌++◌, length, Option, Some, None, refl, sym, ap, subst, ◌∙◌, inl, inr, ◌⊎◌, arith}
use Rattle.std.specs.Prelude.{slice_index_or}
use Rattle.std.specs.List.{AllPairs, find}
use Rattle.std.proofs.lemmas.Bool.{cond_both}
use Rattle.std.proofs.lemmas.Option.{none-some}
use Rattle.cluster_model.specs.Members.{IsOneOf}
use Rattle.nfs4_session.specs.Clients.{change_first, remove_first}
use Rattle.mds_walk.proofs.Lists.{in_more, in_last}

-- an element of the list has this number
pub record HasKey {X : Type 0} (key : X → ℕ) (n : ℕ) (xs : List X) : Type 0 where
  pub x : X
  pub inside : IsOneOf x xs
  pub is : key x ≡ n

module _ {X : Type 0} (key : X → ℕ) where
  key_behind : (n : ℕ) (y : X) (ys : List X) → HasKey key n ys → HasKey key n (y ∷ ys)
  key_behind n y ys h = record { x = h.x; inside = inr h.inside; is = h.is }

  pub key_change : (test : X → Bool) (g : X → X) → ((x : X) → key (g x) ≡ key x) → (x : X) (xs : List X) → IsOneOf x xs → HasKey key (key x) (change_first test g xs)
  key_change test g same x [] inside = absurd inside
  key_change test g same x (y ∷ ys) inside =
      cond_both (test y) (g y ∷ ys) (y ∷ change_first test g ys) (λ (l : List X). HasKey key (key x) l) (λ passes. hit inside) (λ off. miss inside (key_change test g same x ys))
    where
      hit : (x ≡ y) ⊎ IsOneOf x ys → HasKey key (key x) (g y ∷ ys)
      hit (inl one) = record { x = g y; inside = inl refl; is = same y ∙ ap key (sym one) }
      hit (inr more) = record { x = x; inside = inr more; is = refl }

      miss : (x ≡ y) ⊎ IsOneOf x ys → (IsOneOf x ys → HasKey key (key x) (change_first test g ys)) → HasKey key (key x) (y ∷ change_first test g ys)
      miss (inl one) rest = record { x = y; inside = inl refl; is = ap key (sym one) }
      miss (inr more) rest = key_behind (key x) y (change_first test g ys) (rest more)

  pub has_change : (test : X → Bool) (g : X → X) → ((x : X) → key (g x) ≡ key x) → (n : ℕ) (xs : List X) → HasKey key n xs → HasKey key n (change_first test g xs)
  has_change test g same n xs h = subst (λ (k : ℕ). HasKey key k (change_first test g xs)) h.is (key_change test g same h.x xs h.inside)

  pub has_more : (n : ℕ) (xs more : List X) → HasKey key n xs → HasKey key n (xs ++ more)
  has_more n xs more h = record { x = h.x; inside = in_more h.x xs more h.inside; is = h.is }

  pub has_last : (x : X) (xs : List X) → HasKey key (key x) (xs ++ x ∷ [])
  has_last x xs = record { x = x; inside = in_last x xs; is = refl }

-- what is taken out passes the test
pub stays_or_passes : {X : Type 0} (test : X → Bool) (x : X) (xs : List X) → IsOneOf x xs → IsOneOf x (remove_first test xs) ⊎ (test x ≡ true)
stays_or_passes test x [] inside = absurd inside
stays_or_passes {X = X} test x (y ∷ ys) inside =
    cond_both (test y) ys (y ∷ remove_first test ys) (λ (l : List X). IsOneOf x l ⊎ (test x ≡ true)) (λ passes. hit inside passes) (λ off. miss inside (stays_or_passes test x ys))
  where
    hit : (x ≡ y) ⊎ IsOneOf x ys → test y ≡ true → IsOneOf x ys ⊎ (test x ≡ true)
    hit (inl one) passes = inr (ap test one ∙ passes)
    hit (inr more) passes = inl more

    further : IsOneOf x (remove_first test ys) ⊎ (test x ≡ true) → IsOneOf x (y ∷ remove_first test ys) ⊎ (test x ≡ true)
    further (inl stays) = inl (inr stays)
    further (inr passes) = inr passes

    miss : (x ≡ y) ⊎ IsOneOf x ys → (IsOneOf x ys → IsOneOf x (remove_first test ys) ⊎ (test x ≡ true)) → IsOneOf x (y ∷ remove_first test ys) ⊎ (test x ≡ true)
    miss (inl one) rest = inl (inl one)
    miss (inr more) rest = further (rest more)

-- one that passes the test is changed
pub record Hits {X : Type 0} (test : X → Bool) (g : X → X) (xs : List X) : Type 0 where
  pub y : X
  pub inside : IsOneOf (g y) (change_first test g xs)
  pub passes : test y ≡ true

pub change_hits : {X : Type 0} (test : X → Bool) (g : X → X) (x : X) (xs : List X) → IsOneOf x xs → test x ≡ true → Hits test g xs
change_hits test g x [] inside is = absurd inside
change_hits {X = X} test g x (y ∷ ys) inside is = by_test (test y) refl (change_hits test g x ys) inside
  where
    miss : test y ≡ false → (IsOneOf x ys → test x ≡ true → Hits test g ys) → (x ≡ y) ⊎ IsOneOf x ys → Hits test g (y ∷ ys)
    miss off rest (inl one) = absurd (not_so (sym is ∙ ap test one ∙ off))
      where
        not_so : true ≡ false → ⊥
        not_so e = absurd cc
    miss off rest (inr more) =
        let h : Hits test g ys = rest more is in
        record { y = h.y; inside = subst (λ (b : Bool). IsOneOf (g h.y) (cond b (g y ∷ ys) (y ∷ change_first test g ys))) (sym off) (inr h.inside); passes = h.passes }

    by_test : (b : Bool) → test y ≡ b → (IsOneOf x ys → test x ≡ true → Hits test g ys) → (x ≡ y) ⊎ IsOneOf x ys → Hits test g (y ∷ ys)
    by_test true at rest its = record { y = y; inside = subst (λ (b : Bool). IsOneOf (g y) (cond b (g y ∷ ys) (y ∷ change_first test g ys))) (sym at) (inl refl); passes = at }
    by_test false at rest its = miss at rest its

-- what passes a test is found
pub is_found : {X : Type 0} (test : X → Bool) (x : X) (xs : List X) → IsOneOf x xs → test x ≡ true → find test xs ≡ None → ⊥
is_found test x [] inside is none = absurd inside
is_found {X = X} test x (y ∷ ys) inside is none = by_test (test y) refl none inside (is_found test x ys)
  where
    not_so : true ≡ false → ⊥
    not_so e = absurd cc

    by_test : (b : Bool) → test y ≡ b → cond b (Some y) (find test ys) ≡ None → (x ≡ y) ⊎ IsOneOf x ys → (IsOneOf x ys → test x ≡ true → find test ys ≡ None → ⊥) → ⊥
    by_test true at none its rest = none-some y (sym none)
    by_test false at none (inl one) rest = not_so (sym is ∙ ap test one ∙ at)
    by_test false at none (inr more) rest = rest more is none

-- ---- two places of a list are one where their numbers are

data Order (a b : ℕ) : Type 0 where
  Less : a < b → Order a b
  Same : a ≡ b → Order a b
  More : b < a → Order a b

order : (a b : ℕ) → Order a b
order zero zero = Same refl
order zero (suc b) = Less (omega arith)
order (suc a) zero = More (omega arith)
order (suc a) (suc b) = behind (order a b)
  where
    behind : Order a b → Order (suc a) (suc b)
    behind (Less less) = Less (omega (arith, less))
    behind (Same is) = Same (ap suc is)
    behind (More more) = More (omega (arith, more))

record IsAt {X : Type 0} (x : X) (xs : List X) : Type 0 where
  k : ℕ
  within : k < length xs
  is : (d : X) → slice_index_or xs k d ≡ x

place_of : {X : Type 0} (x : X) (xs : List X) → IsOneOf x xs → IsAt x xs
place_of x [] inside = absurd inside
place_of x (y ∷ ys) (inl one) = record { k = 0; within = omega arith; is = λ d. sym one }
place_of x (y ∷ ys) (inr more) = let p : IsAt x ys = place_of x ys more in record { k = suc p.k; within = let w = p.within in omega (arith, w); is = p.is }

pub only_one : {X : Type 0} (key : X → ℕ) (xs : List X) → AllPairs (λ a b. ¬ (key a ≡ key b)) xs → (x y : X) → IsOneOf x xs → IsOneOf y xs → key x ≡ key y → x ≡ y
only_one {X = X} key xs pairs x y inside there same =
    by_order (place_of x xs inside) (place_of y xs there)
  where
    by_places : (p : IsAt x xs) (q : IsAt y xs) → Order p.k q.k → x ≡ y
    by_places p q (Less less) = absurd (pairs p.k q.k x less q.within (ap key (p.is x) ∙ same ∙ sym (ap key (q.is x))))
    by_places p q (Same is) = sym (p.is x) ∙ ap (λ (k : ℕ). slice_index_or xs k x) is ∙ q.is x
    by_places p q (More more) = absurd (pairs q.k p.k x more p.within (ap key (q.is x) ∙ sym same ∙ sym (ap key (p.is x))))

    by_order : IsAt x xs → IsAt y xs → x ≡ y
    by_order p q = by_places p q (order p.k q.k)
