-- A list whose elements are a function of their places.
use Rattle.std.proofs.Common.{◌≡◌, ℕ, ◌<◌, ◌≤◌, List, [], ◌∷◌, ◌++◌, length, Some, zero, suc, refl, sym, ap, ◌∙◌, arith, ◌⊎◌, inl, inr}
use Rattle.std.specs.Prelude.{slice_get}
use Rattle.std.proofs.lemmas.Bool.{cases_lt}
use Rattle.std.proofs.lemmas.List.{length_push}

abbrev pub NumberedBy : (ℕ → ℕ) → List ℕ → Type 0
NumberedBy f xs = (k : ℕ) → k < length xs → slice_get xs k ≡ Some (f k)

front_of : (xs : List ℕ) (y k : ℕ) → k < length xs → slice_get (xs ++ y ∷ []) k ≡ slice_get xs k
front_of [] y k within = absurd (omega (arith, within))
front_of (x ∷ xs) y zero within = refl
front_of (x ∷ xs) y (suc k) within = front_of xs y k (omega (arith, within))

end_of : (xs : List ℕ) (y : ℕ) → slice_get (xs ++ y ∷ []) (length xs) ≡ Some y
end_of [] y = refl
end_of (x ∷ xs) y = end_of xs y

pub numbered_push : (f : ℕ → ℕ) (xs : List ℕ) (y : ℕ) → NumberedBy f xs → y ≡ f (length xs) → NumberedBy f (xs ++ y ∷ [])
numbered_push f xs y numbered is k within = by_case (cases_lt k (length xs))
  where
    by_case : (k < length xs) ⊎ (length xs ≤ k) → slice_get (xs ++ y ∷ []) k ≡ Some (f k)
    by_case (inl less) = front_of xs y k less ∙ numbered k less
    by_case (inr over) = let last : length xs ≡ k = omega (arith, within, length_push xs y, over) in ap (slice_get (xs ++ y ∷ [])) (sym last) ∙ end_of xs y ∙ ap Some (is ∙ ap f last)
