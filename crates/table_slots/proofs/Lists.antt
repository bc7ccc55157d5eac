-- What holds of each element of a list of which the first that passes a test is changed or taken out.
use Rattle.std.proofs.Common.{◌≡◌, ℕ, zero, suc, Bool, true, false, List, [], ◌∷◌, ◌++◌, Some, refl, sym, ap, ◌∙◌, subst, arith}
use Rattle.std.specs.Prelude.{◌==◌, if◌then◌else◌}
use Rattle.std.specs.List.{All, AllPairs, AllByRecursion, find}
use Rattle.std.proofs.lemmas.Bool.{eqb-true, ne_eqb}
use Rattle.std.proofs.lemmas.Option.{same_Some}
use Rattle.nfs4_session.specs.Clients.{change_first, remove_first}

pub all_from : {X : Type 0} (P : X → Type 0) (xs : List X) → All P xs → AllByRecursion P xs
all_from P [] all = tt
all_from P (x ∷ xs) all = (all zero x (omega arith), all_from P xs (λ k d within. all (suc k) d (omega (arith, within))))

pub all_map : {X : Type 0} (P Q : X → Type 0) → ((x : X) → P x → Q x) → (xs : List X) → AllByRecursion P xs → AllByRecursion Q xs
all_map P Q f [] all = tt
all_map P Q f (x ∷ xs) all = (f x all.0, all_map P Q f xs all.1)

pub all_both : {X : Type 0} (P Q S : X → Type 0) → ((x : X) → P x → Q x → S x) → (xs : List X) → AllByRecursion P xs → AllByRecursion Q xs → AllByRecursion S xs
all_both P Q S f [] all more = tt
all_both P Q S f (x ∷ xs) all more = (f x all.0 more.0, all_both P Q S f xs all.1 more.1)

pub all_push : {X : Type 0} (P : X → Type 0) (xs : List X) (x : X) → AllByRecursion P xs → P x → AllByRecursion P (xs ++ x ∷ [])
all_push P [] x all is = (is, tt)
all_push P (y ∷ xs) x all is = (all.0, all_push P xs x all.1 is)

-- at most one passes
abbrev pub AtMostOne : {X : Type 0} → (X → Bool) → List X → Type 0
AtMostOne test [] = Unit {0}
AtMostOne test (x ∷ xs) = (test x ≡ true → AllByRecursion (λ y. test y ≡ false) xs) × AtMostOne test xs

-- where no two have the same number, at most one has this one
pub one_has : {X : Type 0} (number : X → ℕ) (n : ℕ) (xs : List X) → AllPairs (λ a b. ¬ (number a ≡ number b)) xs → AtMostOne (λ x. number x == n) xs
one_has number n [] apart = tt
one_has number n (x ∷ xs) apart = (
  λ is. let same : number x ≡ n = eqb-true (number x) n is in
      all_map (λ y. ¬ (number x ≡ number y)) (λ y. (number y == n) ≡ false) (λ y other. ne_eqb (number y) n (λ e. other (same ∙ sym e))) xs
      (all_from (λ y. ¬ (number x ≡ number y)) xs (λ k d within. apart zero (suc k) d (omega arith) (omega (arith, within)))),
  one_has number n xs (λ i j d less within. apart (suc i) (suc j) d (omega (arith, less)) (omega (arith, within))),
)

module _ {X : Type 0} (test : X → Bool) where
  pub all_remove : (P : X → Type 0) (xs : List X) → AllByRecursion P xs → AllByRecursion P (remove_first test xs)
  all_remove P [] all = tt
  all_remove P (x ∷ xs) all = by_case (test x) (all_remove P xs all.1)
    where
      by_case : (b : Bool) → AllByRecursion P (remove_first test xs) → AllByRecursion P (if b then xs else x ∷ remove_first test xs)
      by_case true rest = all.1
      by_case false rest = (all.0, rest)

  pub all_change : (P : X → Type 0) (f : X → X) → ((x : X) → test x ≡ true → P x → P (f x)) → (xs : List X) → AllByRecursion P xs → AllByRecursion P (change_first test f xs)
  all_change P f keeps [] all = tt
  all_change P f keeps (x ∷ xs) all = by_case (test x) refl (all_change P f keeps xs all.1)
    where
      by_case : (b : Bool) → test x ≡ b → AllByRecursion P (change_first test f xs) → AllByRecursion P (if b then f x ∷ xs else x ∷ change_first test f xs)
      by_case true is rest = (keeps x is all.0, all.1)
      by_case false is rest = (all.0, rest)

  -- where at most one passes, the change of the first is one of all that pass
  pub all_change_one : (P Q : X → Type 0) (f : X → X) → ((x : X) → test x ≡ true → P x → Q (f x)) → ((x : X) → test x ≡ false → P x → Q x)
      → (xs : List X) → AtMostOne test xs → AllByRecursion P xs → AllByRecursion Q (change_first test f xs)
  all_change_one P Q f here other [] one all = tt
  all_change_one P Q f here other (x ∷ xs) one all = by_case (test x) refl (all_change_one P Q f here other xs one.1 all.1)
    where
      by_case : (b : Bool) → test x ≡ b → AllByRecursion Q (change_first test f xs) → AllByRecursion Q (if b then f x ∷ xs else x ∷ change_first test f xs)
      by_case true is rest = (here x is all.0, all_both (λ y. test y ≡ false) P Q other xs (one.0 is) all.1)
      by_case false is rest = (other x is all.0, rest)

  -- of the one that is found
  pub all_find : (P : X → Type 0) (xs : List X) (x : X) → find test xs ≡ Some x → AllByRecursion P xs → P x
  all_find P [] x is all = absurd (cc (is))
  all_find P (y ∷ xs) x is all = by_case (test y) is (λ rest. all_find P xs x rest all.1)
    where
      by_case : (b : Bool) → (if b then Some y else find test xs) ≡ Some x → (find test xs ≡ Some x → P x) → P x
      by_case true is rest = subst P (same_Some y x is) all.0
      by_case false is rest = rest is

  pub found_passes : (xs : List X) (x : X) → find test xs ≡ Some x → test x ≡ true
  found_passes [] x is = absurd (cc (is))
  found_passes (y ∷ xs) x is = by_case (test y) refl is (found_passes xs x)
    where
      by_case : (b : Bool) → test y ≡ b → (if b then Some y else find test xs) ≡ Some x → (find test xs ≡ Some x → test x ≡ true) → test x ≡ true
      by_case true passes is rest = ap test (sym (same_Some y x is)) ∙ passes
      by_case false fails is rest = rest is
