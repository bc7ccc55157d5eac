-- The first that passes a test, in lists that change.
use Rattle.std.proofs.Common.{◌≡◌, ℕ, zero, suc, ◌+◌, ◌<◌, ◌≤◌, Bool, true, false, not, cond, List, [], ◌∷◌, ◌++◌, length, set, get_or, refl, sym, ap, arith}
use Rattle.std.specs.List.{position_or_len}

module _ {X : Type 0} (p : X → Bool) where
  pub first_is : (x : X) (xs : List X) → p x ≡ true → position_or_len p (x ∷ xs) ≡ 0
  first_is x xs passes = ap (λ b. cond (not b) (1 + position_or_len p xs) 0) passes

  pub behind_is : (x : X) (xs : List X) → p x ≡ false → position_or_len p (x ∷ xs) ≡ 1 + position_or_len p xs
  behind_is x xs fails = ap (λ b. cond (not b) (1 + position_or_len p xs) 0) fails

  -- it is behind the first element, which then fails
  pub first_fails : (x : X) (xs : List X) (low : ℕ) → suc low ≤ position_or_len p (x ∷ xs) → p x ≡ false
  first_fails x xs low so_far = by_case (p x) refl
    where
      by_case : (b : Bool) → p x ≡ b → p x ≡ false
      by_case true passes = absurd (omega (arith, first_is x xs passes, so_far))
      by_case false fails = fails

  pub so_behind : (x : X) (xs : List X) (low : ℕ) → suc low ≤ position_or_len p (x ∷ xs) → low ≤ position_or_len p xs
  so_behind x xs low so_far = omega (arith, behind_is x xs (first_fails x xs low so_far), so_far)

  pub so_before : (x : X) (xs : List X) (low : ℕ) → p x ≡ false → low ≤ position_or_len p xs → suc low ≤ position_or_len p (x ∷ xs)
  so_before x xs low fails so_far = omega (arith, behind_is x xs fails, so_far)

  -- it is not before a place, where an element fails
  pub further : (xs : List X) (i : ℕ) (d : X) → i < length xs → i ≤ position_or_len p xs → p (get_or xs i d) ≡ false → i + 1 ≤ position_or_len p xs
  further [] i d within so_far fails = absurd (omega (arith, within))
  further (x ∷ xs) zero d within so_far fails = omega (arith, behind_is x xs fails)
  further (x ∷ xs) (suc i) d within so_far fails =
      let rest : i + 1 ≤ position_or_len p xs = further xs i d (omega (arith, within)) (so_behind x xs i so_far) fails in
      omega (arith, behind_is x xs (first_fails x xs i so_far), rest)

  -- and where one passes
  pub is_there : (xs : List X) (i : ℕ) (d : X) → i < length xs → i ≤ position_or_len p xs → p (get_or xs i d) ≡ true → i ≡ position_or_len p xs
  is_there [] i d within so_far passes = absurd (omega (arith, within))
  is_there (x ∷ xs) zero d within so_far passes = sym (first_is x xs passes)
  is_there (x ∷ xs) (suc i) d within so_far passes =
      let rest : i ≡ position_or_len p xs = is_there xs i d (omega (arith, within)) (so_behind x xs i so_far) passes in
      omega (arith, behind_is x xs (first_fails x xs i so_far), rest)

  -- one more element moves it to no place before
  pub quiet_pushed : (xs : List X) (y : X) (low : ℕ) → low ≤ position_or_len p xs → low ≤ position_or_len p (xs ++ y ∷ [])
  quiet_pushed xs y zero so_far = omega (arith)
  quiet_pushed [] y (suc low) so_far = absurd (omega (arith, so_far))
  quiet_pushed (x ∷ xs) y (suc low) so_far = so_before x (xs ++ y ∷ []) low (first_fails x xs low so_far) (quiet_pushed xs y low (so_behind x xs low so_far))

  -- nor does one that fails, in the place of another
  pub quiet_set : (xs : List X) (i : ℕ) (y : X) (low : ℕ) → p y ≡ false → low ≤ position_or_len p xs → low ≤ position_or_len p (set xs i y)
  quiet_set xs i y zero fails so_far = omega (arith)
  quiet_set [] i y (suc low) fails so_far = so_far
  quiet_set (x ∷ xs) zero y (suc low) fails so_far = so_before y xs low fails (so_behind x xs low so_far)
  quiet_set (x ∷ xs) (suc i) y (suc low) fails so_far = so_before x (set xs i y) low (first_fails x xs low so_far) (quiet_set xs i y low fails (so_behind x xs low so_far))

-- nor does another test, which fails where the first does
pub quiet_too : {X : Type 0} (p q : X → Bool) (xs : List X) (low : ℕ) → ((x : X) → p x ≡ false → q x ≡ false) → low ≤ position_or_len p xs → low ≤ position_or_len q xs
quiet_too p q xs zero too so_far = omega (arith)
quiet_too p q [] (suc low) too so_far = so_far
quiet_too p q (x ∷ xs) (suc low) too so_far = so_before q x xs low (too x (first_fails p x xs low so_far)) (quiet_too p q xs low too (so_behind p x xs low so_far))
