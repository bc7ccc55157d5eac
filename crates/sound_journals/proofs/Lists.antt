-- Lists, and facts on each element.
use Rattle.std.proofs.Common.{List, [], ◌∷◌, ◌++◌, Bool, true, false, cond, filter, map}
use Rattle.std.specs.List.{AllByRecursion}

-- by two facts on each
pub all_both : {A : Type 0} (P R Q : A → Type 0) (xs : List A) → ((x : A) → P x → R x → Q x) → AllByRecursion P xs → AllByRecursion R xs → AllByRecursion Q xs
all_both P R Q [] f h k = tt
all_both P R Q (x ∷ xs) f h k = (f x h.0 k.0, all_both P R Q xs f h.1 k.1)

pub all_filter : {A : Type 0} (P : A → Type 0) (p : A → Bool) (xs : List A) → AllByRecursion P xs → AllByRecursion P (filter p xs)
all_filter P p [] h = tt
all_filter {A = A} P p (x ∷ xs) h = by_test (p x) (all_filter P p xs h.1)
  where
    by_test : (b : Bool) → AllByRecursion P (filter p xs) → AllByRecursion P (cond b (x ∷ filter p xs) (filter p xs))
    by_test true k = (h.0, k)
    by_test false k = k

pub all_map : {A : Type 0} (P : A → Type 0) (g : A → A) (xs : List A) → ((x : A) → P x → P (g x)) → AllByRecursion P xs → AllByRecursion P (map g xs)
all_map P g [] f h = tt
all_map P g (x ∷ xs) f h = (f x h.0, all_map P g xs f h.1)

-- a fact on an element, and those on the elements behind it
infixr 4 ◌◂◌
pub ◌◂◌ : {A B : Type 0} → A → B → A × B
a ◂ b = (a, b)
