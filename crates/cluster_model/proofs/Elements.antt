-- Elements of a list that was changed.
use Rattle.std.proofs.Common.{◌≡◌, ℕ, zero, suc, List, [], ◌∷◌, ◌++◌, length, set, Some, refl, sym, ap}
use Rattle.std.specs.Prelude.{◌≢◌, slice_get}
use Rattle.std.proofs.lemmas.Option.{same_Some}

-- another element stays
pub slice_get-set_other : {X : Type 0} (xs : List X) (i j : ℕ) (x : X) → j ≢ i → slice_get (set xs i x) j ≡ slice_get xs j
slice_get-set_other [] i j x ne = refl
slice_get-set_other (y ∷ ys) zero zero x ne = absurd (ne refl)
slice_get-set_other (y ∷ ys) zero (suc j) x ne = refl
slice_get-set_other (y ∷ ys) (suc i) zero x ne = refl
slice_get-set_other (y ∷ ys) (suc i) (suc j) x ne = slice_get-set_other ys i j x (λ e. ne (ap suc e))

pub slice_get-set_same : {X : Type 0} (xs : List X) (i : ℕ) (x y : X) → slice_get xs i ≡ Some x → slice_get (set xs i y) i ≡ Some y
slice_get-set_same [] i x y e = absurd (cc)
slice_get-set_same (z ∷ xs) zero x y e = refl
slice_get-set_same (z ∷ xs) (suc i) x y e = slice_get-set_same xs i x y e

pub slice_get-push : {X : Type 0} (xs : List X) (i : ℕ) (x y : X) → slice_get xs i ≡ Some x → slice_get (xs ++ y ∷ []) i ≡ Some x
slice_get-push [] i x y e = absurd (cc)
slice_get-push (z ∷ xs) zero x y e = e
slice_get-push (z ∷ xs) (suc i) x y e = slice_get-push xs i x y e

-- what is at a place of a list with one more element: an old one, or the new one at the end
pub data Pushed {X : Type 0} (xs : List X) (y : X) (i : ℕ) (x : X) : Type 0 where
  Old : slice_get xs i ≡ Some x → Pushed xs y i x
  New : i ≡ length xs → x ≡ y → Pushed xs y i x

pub pushed : {X : Type 0} (xs : List X) (y : X) (i : ℕ) (x : X) → slice_get (xs ++ y ∷ []) i ≡ Some x → Pushed xs y i x
pushed [] y zero x e = New refl (sym (same_Some y x e))
pushed [] y (suc i) x e = absurd (cc)
pushed (z ∷ xs) y zero x e = Old e
pushed (z ∷ xs) y (suc i) x e = further (pushed xs y i x e)
  where
    further : Pushed xs y i x → Pushed (z ∷ xs) y (suc i) x
    further (Old there) = Old there
    further (New at is) = New (ap suc at) is
