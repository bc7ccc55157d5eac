-- Entries that are added mirror by mirror.
use Rattle.std.proofs.Common.{◌≡◌, ℕ, ◌+◌, List, [], ◌∷◌, ◌++◌, map, take, Some, sym, ap, ◌∙◌, append_assoc}
use Rattle.std.specs.Prelude.{slice_get}
use Rattle.std.proofs.lemmas.List.{map-append, take_more}
use Rattle.std.proofs.lemmas.Option.{slice_get_within, get_or_from_slice_get}

-- the front of a list, and the next element
next_taken : {X : Type 0} (xs : List X) (i : ℕ) (x : X) → slice_get xs i ≡ Some x → take (i + 1) xs ≡ take i xs ++ x ∷ []
next_taken xs i x there = take_more xs i x (slice_get_within xs i x there) ∙ ap (λ y. take i xs ++ y ∷ []) (get_or_from_slice_get xs i x x there)

-- what is entered for the next element stands behind what was for those before it
pub entered_next : {X Y : Type 0} (f : X → Y) (xs : List X) (i : ℕ) (x : X) (y : Y) (old before after : List Y) → slice_get xs i ≡ Some x → y ≡ f x → before ≡ old ++ map f (take i xs) → after ≡ before ++ y ∷ [] → after ≡ old ++ map f (take (i + 1) xs)
entered_next f xs i x y old before after there is so pushed =
    pushed ∙ (λ k. so k ++ is k ∷ []) ∙ append_assoc old (map f (take i xs)) (f x ∷ []) ∙ ap (λ zs. old ++ zs) (sym (ap (map f) (next_taken xs i x there) ∙ map-append f (take i xs) (x ∷ [])))
