-- What holds of each element of a list of which at most one passes a test, where the first that passes is changed.
use Rattle.std.proofs.Common.{◌≡◌, ℕ, zero, suc, Bool, true, false, cond, List, [], ◌∷◌, Some, sym, ap, ◌∙◌, arith}
use Rattle.std.specs.Prelude.{◌==◌}
use Rattle.std.specs.List.{All, AllPairs, find}
use Rattle.std.proofs.lemmas.Bool.{cond_both, eqb-true, eq-eqb, ne_eqb}
use Rattle.nfs4_session.specs.Clients.{change_first}
use Rattle.mds_walk.proofs.Lists.{AllOf}

pub all_from : {X : Type 0} (P : X → Type 0) (xs : List X) → All P xs → AllOf P xs
all_from P [] all = tt
all_from P (x ∷ xs) all = (all zero x (omega arith), all_from P xs (λ k d within. all (suc k) d (omega (arith, within))))

pub all_both : {X : Type 0} (P Q S : X → Type 0) → ((x : X) → P x → Q x → S x) → (xs : List X) → AllOf P xs → AllOf Q xs → AllOf S xs
all_both P Q S f [] all more = tt
all_both P Q S f (x ∷ xs) all more = (f x all.0 more.0, all_both P Q S f xs all.1 more.1)

-- at most one passes
abbrev pub AtMostOne : {X : Type 0} → (X → Bool) → List X → Type 0
AtMostOne test [] = Unit {0}
AtMostOne test (x ∷ xs) = (test x ≡ true → AllOf (λ y. test y ≡ false) xs) × AtMostOne test xs

all_map : {X : Type 0} (P Q : X → Type 0) → ((x : X) → P x → Q x) → (xs : List X) → AllOf P xs → AllOf Q xs
all_map P Q f [] all = tt
all_map P Q f (x ∷ xs) all = (f x all.0, all_map P Q f xs all.1)

-- where no two have the same number
apart_first : {X : Type 0} (number : X → ℕ) (x : X) (xs : List X) → AllPairs (λ a b. ¬ (number a ≡ number b)) (x ∷ xs) → AllOf (λ y. ¬ (number x ≡ number y)) xs
apart_first number x xs apart = all_from (λ y. ¬ (number x ≡ number y)) xs (λ k d within. apart zero (suc k) d (omega arith) (omega (arith, within)))

apart_rest : {X : Type 0} (number : X → ℕ) (x : X) (xs : List X) → AllPairs (λ a b. ¬ (number a ≡ number b)) (x ∷ xs) → AllPairs (λ a b. ¬ (number a ≡ number b)) xs
apart_rest number x xs apart = λ i j d less within. apart (suc i) (suc j) d (omega (arith, less)) (omega (arith, within))

-- at most one has this one
pub one_has : {X : Type 0} (number : X → ℕ) (n : ℕ) (xs : List X) → AllPairs (λ a b. ¬ (number a ≡ number b)) xs → AtMostOne (λ x. number x == n) xs
one_has number n [] apart = tt
one_has number n (x ∷ xs) apart = (
  λ is. let same : number x ≡ n = eqb-true (number x) n is in
      all_map (λ y. ¬ (number x ≡ number y)) (λ y. (number y == n) ≡ false) (λ y other. ne_eqb (number y) n (λ e. other (same ∙ sym e))) xs (apart_first number x xs apart),
  one_has number n xs (apart_rest number x xs apart),
)

-- and it is the one that is found
pub unique_found : {X : Type 0} (number : X → ℕ) (n : ℕ) (xs : List X) → AllPairs (λ a b. ¬ (number a ≡ number b)) xs → AllOf (λ (x : X). number x ≡ n → find (λ y. number y == n) xs ≡ Some x) xs
unique_found number n [] apart = tt
unique_found {X = X} number n (x ∷ xs) apart = (
  λ is. ap (λ (b : Bool). cond b (Some x) (find (λ y. number y == n) xs)) (eq-eqb (number x) n is),
  all_both (λ (y : X). ¬ (number x ≡ number y)) (λ (y : X). number y ≡ n → find (λ z. number z == n) xs ≡ Some y) (λ (y : X). number y ≡ n → find (λ z. number z == n) (x ∷ xs) ≡ Some y)
      (λ y other rest is. ap (λ (b : Bool). cond b (Some x) (find (λ z. number z == n) xs)) (ne_eqb (number x) n (λ e. other (e ∙ sym is))) ∙ rest is) xs (apart_first number x xs apart)
      (unique_found number n xs (apart_rest number x xs apart)),
)

-- where at most one passes, the change of the first is one of all that pass
pub all_change_one : {X : Type 0} (test : X → Bool) (P Q : X → Type 0) (f : X → X) → ((x : X) → test x ≡ true → P x → Q (f x)) → ((x : X) → test x ≡ false → P x → Q x) → (xs : List X) → AtMostOne test xs → AllOf P xs
    → AllOf Q (change_first test f xs)
all_change_one test P Q f here other [] one all = tt
all_change_one {X = X} test P Q f here other (x ∷ xs) one all =
    cond_both (test x) (f x ∷ xs) (x ∷ change_first test f xs) (λ (l : List X). AllOf Q l) (λ is. (here x is all.0, all_both (λ y. test y ≡ false) P Q other xs (one.0 is) all.1))
    (λ off. (other x off all.0, all_change_one test P Q f here other xs one.1 all.1))
