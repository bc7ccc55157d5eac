-- A search through a list from its first.
use Rattle.std.proofs.Common.{◌≡◌, ℕ, ◌+◌, ◌<◌, Bool, true, false, List, ◌∷◌, length, drop, get_or, drop-cons, add-one, cond, Option, Some, sym, ap, ◌∙◌}
use Rattle.std.specs.List.{position, position_from}

here : {X : Type 0} (xs : List X) (i : ℕ) (d : X) → i < length xs → drop i xs ≡ get_or xs i d ∷ drop (i + 1) xs
here xs i d within = drop-cons xs i d within ∙ ap (λ k. get_or xs i d ∷ drop k xs) (sym (add-one i))

pub found : {X : Type 0} (test : X → Bool) (xs : List X) (i : ℕ) (d : X) → position test xs ≡ position_from test i (drop i xs) → i < length xs → test (get_or xs i d) ≡ true → position test xs ≡ Some i
found test xs i d before within passes =
    before ∙ ap (position_from test i) (here xs i d within) ∙ ap (λ b. cond b (Some i) (position_from test (i + 1) (drop (i + 1) xs))) passes

pub passed : {X : Type 0} (test : X → Bool) (xs : List X) (i : ℕ) (d : X) → position test xs ≡ position_from test i (drop i xs) → i < length xs → test (get_or xs i d) ≡ false → position test xs ≡ position_from test (i + 1) (drop (i + 1) xs)
passed test xs i d before within fails =
    before ∙ ap (position_from test i) (here xs i d within) ∙ ap (λ b. cond b (Some i) (position_from test (i + 1) (drop (i + 1) xs))) fails
