-- What stands in a list with one more.
use Rattle.std.proofs.Common.{◌≡◌, ℕ, zero, suc, List, [], ◌∷◌, ◌++◌, length, Some, refl, ap, ◌⊎◌, inl, inr}
use Rattle.std.specs.Prelude.{slice_get}
use Rattle.std.proofs.lemmas.Option.{same_Some}

-- it stood there before, or it is the one
pub pushed_at : {A : Type 0} (xs : List A) (x : A) (i : ℕ) (y : A) → slice_get (xs ++ x ∷ []) i ≡ Some y → (slice_get xs i ≡ Some y) ⊎ ((i ≡ length xs) × (x ≡ y))
pushed_at [] x zero y e = inr (refl, same_Some x y e)
pushed_at [] x (suc i) y e = absurd cc
pushed_at (z ∷ xs) x zero y e = inl e
pushed_at (z ∷ xs) x (suc i) y e = elim (pushed_at xs x i y e) [ inl old ↦ inl old | inr new ↦ inr (ap suc new.0, new.1) ]
