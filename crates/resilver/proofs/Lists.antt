-- Lists by places, numbers, and where a call stands.
use Rattle.std.proofs.Common.{◌≡◌, ◌≢◌, ◌⊎◌, inl, inr, ℕ, zero, suc, ◌+◌, Bool, true, false, cond, List, [], ◌∷◌, map, Option, Some, None, refl, sym, ap, ◌∙◌, arith, subst}
use Rattle.std.specs.Prelude.{◌==◌, slice_get, slice_set, option_map}
use Rattle.std.specs.List.{list_all, position, position_from}
use Rattle.std.proofs.lemmas.Bool.{and_parts, cases_eq}
use Rattle.std.proofs.lemmas.Bool.Decides.{nat_tests}
use Rattle.std.proofs.lemmas.Iterator.Adapters.{position_from-zero}
use Rattle.std.proofs.lemmas.Option.{same_Some, none-some, slice_get-map}
use Rattle.cluster_model.specs.declared.call_stage.CallStage.{CallStage}
use Rattle.cluster_model.specs.declared.call_stage.CallStage.TheVariants.{Waits, Out, KeptOut, KeptBack, Done, GivenUp}
use Rattle.cluster_model.proofs.Elements.{slice_get-set_other, slice_get-set_same}
use Rattle.cluster_model.specs.Fences.{waits, is_out, is_over}

-- ---- numbers

pub not_equal : (a b : ℕ) → a ≢ b → (a == b) ≡ false
not_equal a b other = grind (arith, nat_tests, other)

pub equal : (a b : ℕ) → a ≡ b → (a == b) ≡ true
equal a b same = grind (arith, nat_tests, same)

pub is_equal : (a b : ℕ) → (a == b) ≡ true → a ≡ b
is_equal a b same = grind (arith, nat_tests, same)

pub apart : (b : Bool) → b ≡ true → b ≡ false → ⊥
apart true is other = absurd cc
apart false is other = absurd cc

-- ---- elements

pub all_at : {A : Type 0} (test : A → Bool) (xs : List A) (i : ℕ) (x : A) → list_all test xs ≡ true → slice_get xs i ≡ Some x → test x ≡ true
all_at test [] i x all e = absurd cc
all_at test (y ∷ xs) zero x all e = subst (λ z. test z ≡ true) (same_Some y x e) (and_parts _ _ all).0
all_at test (y ∷ xs) (suc i) x all e = all_at test xs i x (and_parts _ _ all).1 e

-- ---- searches

none_from : {A : Type 0} (test : A → Bool) (k : ℕ) (xs : List A) (i : ℕ) (x : A) → position_from test k xs ≡ None → slice_get xs i ≡ Some x → test x ≡ false
none_from test k [] i x none e = absurd cc
none_from {A = A} test k (y ∷ xs) i x none e = by_test (test y) refl none i e (λ j. none_from test (k + 1) xs j x)
  where
    by_test : (b : Bool) → test y ≡ b → cond b (Some k) (position_from test (k + 1) xs) ≡ None → (i : ℕ) → slice_get (y ∷ xs) i ≡ Some x
        → ((j : ℕ) → position_from test (k + 1) xs ≡ None → slice_get xs j ≡ Some x → test x ≡ false) → test x ≡ false
    by_test true is f i e more = absurd cc
    by_test false is f zero e more = subst (λ z. test z ≡ false) (same_Some y x e) is
    by_test false is f (suc i) e more = more i f e

pub none_at : {A : Type 0} (test : A → Bool) (xs : List A) (i : ℕ) (x : A) → position test xs ≡ None → slice_get xs i ≡ Some x → test x ≡ false
none_at test xs i x none e = none_from test 0 xs i x (sym (position_from-zero test xs) ∙ none) e

search_found : {A : Type 0} (test : A → Bool) (k : ℕ) (xs : List A) (i : ℕ) → position_from test k xs ≡ Some i → (j : ℕ) × (i ≡ k + j) × ((x : A) × (slice_get xs j ≡ Some x) × (test x ≡ true))
search_found test k [] i e = absurd cc
search_found {A = A} test k (x ∷ xs) i e = by_test (test x) refl e (search_found test (k + 1) xs i)
  where
    by_test : (b : Bool) → test x ≡ b → cond b (Some k) (position_from test (k + 1) xs) ≡ Some i
        → (position_from test (k + 1) xs ≡ Some i → (j : ℕ) × (i ≡ k + 1 + j) × ((y : A) × (slice_get xs j ≡ Some y) × (test y ≡ true)))
        → (j : ℕ) × (i ≡ k + j) × ((y : A) × (slice_get (x ∷ xs) j ≡ Some y) × (test y ≡ true))
    by_test true is f more = let at : k ≡ i = same_Some k i f in (0, omega (arith, at), (x, refl, is))
    by_test false is f more =
        let rest = more f in
        let at = rest.1 in
        (suc rest.0, omega (arith, at), rest.2)

pub found_at : {A : Type 0} (test : A → Bool) (xs : List A) (i : ℕ) → position test xs ≡ Some i → (x : A) × (slice_get xs i ≡ Some x) × (test x ≡ true)
found_at test xs i e =
    let found = search_found test 0 xs i (sym (position_from-zero test xs) ∙ e) in
    let same : found.0 ≡ i = omega (arith, found.1) in
    let x = found.2 in
    (x.0, ap (slice_get xs) (sym same) ∙ x.1, x.2)

-- an element that a change made
pub mapped_at : {A B : Type 0} (f : A → B) (xs : List A) (i : ℕ) (y : B) → slice_get (map f xs) i ≡ Some y → (x : A) × (slice_get xs i ≡ Some x) × (f x ≡ y)
mapped_at {A = A} {B = B} f xs i y e = by_old (slice_get xs i) refl (sym (slice_get-map f xs i) ∙ e)
  where
    by_old : (o : Option A) → slice_get xs i ≡ o → option_map f o ≡ Some y → (x : A) × (slice_get xs i ≡ Some x) × (f x ≡ y)
    by_old None found is = absurd (none-some y is)
    by_old (Some x) found is = (x, found, same_Some (f x) y is)

-- ---- where a call stands

-- two numbers of one call are one
pub out_same : (x y : ℕ) (s : CallStage) → is_out x s ≡ true → is_out y s ≡ true → x ≡ y
out_same x y (Out own n) a b = sym (is_equal own x a) ∙ is_equal own y b
out_same x y (KeptOut own) a b = sym (is_equal own x a) ∙ is_equal own y b
out_same x y Waits a b = absurd cc
out_same x y KeptBack a b = absurd cc
out_same x y Done a b = absurd cc
out_same x y GivenUp a b = absurd cc

-- what is over neither waits nor is out
pub over_not_out : (x : ℕ) (s : CallStage) → is_over s ≡ true → is_out x s ≡ false
over_not_out x Done over = refl
over_not_out x GivenUp over = refl
over_not_out x Waits over = absurd cc
over_not_out x (Out own n) over = absurd cc
over_not_out x (KeptOut own) over = absurd cc
over_not_out x KeptBack over = absurd cc

pub waits_not_out : (x : ℕ) (s : CallStage) → waits s ≡ true → is_out x s ≡ false
waits_not_out x Waits is = refl
waits_not_out x (Out own n) is = absurd cc
waits_not_out x (KeptOut own) is = absurd cc
waits_not_out x KeptBack is = absurd cc
waits_not_out x Done is = absurd cc
waits_not_out x GivenUp is = absurd cc

pub waits_not_over : (s : CallStage) → waits s ≡ true → is_over s ≡ false
waits_not_over Waits is = refl
waits_not_over (Out own n) is = absurd cc
waits_not_over (KeptOut own) is = absurd cc
waits_not_over KeptBack is = absurd cc
waits_not_over Done is = absurd cc
waits_not_over GivenUp is = absurd cc

-- ---- one element changes

-- what stands at a place of a list of which one element was changed
pub data AfterSet {A : Type 0} (xs : List A) (place : ℕ) (new : A) (q : ℕ) (u : A) : Type 0 where
  Here : q ≡ place → u ≡ new → AfterSet xs place new q u
  There : q ≢ place → slice_get xs q ≡ Some u → AfterSet xs place new q u

pub after_set : {A : Type 0} (xs : List A) (place : ℕ) (t new : A) (q : ℕ) (u : A) → slice_get xs place ≡ Some t → slice_get (slice_set xs place new) q ≡ Some u → AfterSet xs place new q u
after_set xs place t new q u found there = by_place (cases_eq q place)
  where
    by_place : (q ≡ place) ⊎ (q ≢ place) → AfterSet xs place new q u
    by_place (inl is) = Here is (sym (same_Some new u (sym (slice_get-set_same xs place t new found) ∙ ap (slice_get (slice_set xs place new)) (sym is) ∙ there)))
    by_place (inr other) = There other (sym (slice_get-set_other xs place q new other) ∙ there)
