-- Loops over entries.
use Rattle.std.proofs.Common.{◌≡◌, ℕ, ◌<◌, ◌+◌, Bool, true, false, not, cond, List, ◌∷◌, ◌++◌, length, map, take, drop, set, get_or, sym, ap, ◌∙◌, arith, drop-cons, add-one}
use Rattle.std.specs.List.{position_or_len}
use Rattle.std.proofs.lemmas.List.{get_or_default, take_all, take-append-le}
use Rattle.std.proofs.lemmas.List.Edits.{map_over_more}

module _ {X : Type 0} where
  -- what was done to each up to a place is done to the next
  pub next_done : (f : X → X) (xs ys : List X) (i : ℕ) (d new : X) → i < length xs → length ys ≡ length xs
      → ys ≡ map f (take i xs) ++ drop i xs → new ≡ f (get_or ys i d) → set ys i new ≡ map f (take (i + 1) xs) ++ drop (i + 1) xs
  next_done f xs ys i d new within same so_far does =
      let x : X = get_or ys i d in
      ap (set ys i) does ∙ map_over_more f xs ys i x within so_far (get_or_default ys i d x (omega (arith, within, same)))

  here : (xs : List X) (i : ℕ) (d : X) → i < length xs → drop i xs ≡ get_or xs i d ∷ drop (i + 1) xs
  here xs i d within = drop-cons xs i d within ∙ ap (λ k. get_or xs i d ∷ drop k xs) (sym (add-one i))

  -- the place is that of the first that passes
  pub place_here : (test : X → Bool) (xs : List X) (i place : ℕ) (d : X) → place ≡ position_or_len test (drop i xs) + i → i < length xs → test (get_or xs i d) ≡ true → i ≡ place
  place_here test xs i place d so_far within passes =
      let none : position_or_len test (drop i xs) ≡ 0 = ap (position_or_len test) (here xs i d within) ∙ ap (λ b. cond (not b) (1 + position_or_len test (drop (i + 1) xs)) 0) passes in
      omega (arith, none, so_far)

  pub place_behind : (test : X → Bool) (xs : List X) (i place : ℕ) (d : X) → place ≡ position_or_len test (drop i xs) + i → i < length xs → test (get_or xs i d) ≡ false → place ≡ position_or_len test (drop (i + 1) xs) + (i + 1)
  place_behind test xs i place d so_far within fails =
      let more : position_or_len test (drop i xs) ≡ 1 + position_or_len test (drop (i + 1) xs) = ap (position_or_len test) (here xs i d within) ∙ ap (λ b. cond (not b) (1 + position_or_len test (drop (i + 1) xs)) 0) fails in
      omega (arith, more, so_far)

  -- a list of the same length written over another
  pub written : (size : ℕ) (items ws : List X) → length ws ≡ size → take size (ws ++ drop (length ws) items) ≡ ws
  written size items ws same = take-append-le size ws (drop (length ws) items) (omega arith) ∙ take_all size ws (omega arith)
