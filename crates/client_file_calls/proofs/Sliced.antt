-- A list by its elements.
use Rattle.std.proofs.Common.{◌≡◌, ℕ, List, [], ◌∷◌, length, refl, arith}
use Rattle.std.specs.Prelude.{slice_index}

pub three_of : (xs : List ℕ) → length xs ≡ 3 → slice_index xs 0 ∷ slice_index xs 1 ∷ slice_index xs 2 ∷ [] ≡ xs
three_of [] size = absurd (omega arith)
three_of (a ∷ []) size = absurd (omega arith)
three_of (a ∷ b ∷ []) size = absurd (omega arith)
three_of (a ∷ b ∷ c ∷ []) size = refl
three_of (a ∷ b ∷ c ∷ d ∷ rest) size = absurd (omega arith)

pub four_of : (xs : List ℕ) → length xs ≡ 4 → slice_index xs 0 ∷ slice_index xs 1 ∷ slice_index xs 2 ∷ slice_index xs 3 ∷ [] ≡ xs
four_of [] size = absurd (omega arith)
four_of (a ∷ []) size = absurd (omega arith)
four_of (a ∷ b ∷ []) size = absurd (omega arith)
four_of (a ∷ b ∷ c ∷ []) size = absurd (omega arith)
four_of (a ∷ b ∷ c ∷ d ∷ []) size = refl
four_of (a ∷ b ∷ c ∷ d ∷ e ∷ rest) size = absurd (omega arith)
