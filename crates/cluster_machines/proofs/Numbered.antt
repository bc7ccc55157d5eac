-- Machines by their numbers from 1, and the indexes of a list.
use Rattle.std.proofs.Common.{◌≡◌, ℕ, ◌+◌, ◌-◌, Bool, true, false, cond, List, [], ◌∷◌, ◌++◌, length, map, set, Some, None, refl, sym, ap, ◌∙◌, arith, nat_le, ◌==◌}
use Rattle.std.specs.Prelude.{slice_get}
use Rattle.std.specs.List.{range_with_len}
use Rattle.std.proofs.lemmas.Bool.{ne_eqb, leb-true}
use Rattle.std.proofs.lemmas.List.{map-append, set-get_or}
use Rattle.std.proofs.lemmas.List.FromFn.{map-range_with_len_more}
use Rattle.std.proofs.lemmas.Option.{slice_get_past, get_or_from_slice_get}
use Rattle.world_rule.specs.Machines.{nth}
use Rattle.cluster_machines.specs.Indexes.{index_at}

-- one machine more, with the next number; as what is seen of it, and as it is
pub one_more : {X Y : Type 0} (v : X → Y) (f : ℕ → Y) (xs : List X) (x : X) (index : ℕ) → map v xs ≡ map f (range_with_len 1 index) → v x ≡ f (index + 1) → map v (xs ++ x ∷ []) ≡ map f (range_with_len 1 (index + 1))
one_more v f xs x index so is =
    map-append v xs (x ∷ []) ∙ (λ i. so i ++ is i ∷ []) ∙ sym (map-range_with_len_more f 1 index (index + 1) (omega arith))

pub one_more_as_it_is : {X : Type 0} (f : ℕ → X) (xs : List X) (x : X) (index : ℕ) → xs ≡ map f (range_with_len 1 index) → x ≡ f (index + 1) → xs ++ x ∷ [] ≡ map f (range_with_len 1 (index + 1))
one_more_as_it_is f xs x index so is = (λ i. so i ++ is i ∷ []) ∙ sym (map-range_with_len_more f 1 index (index + 1) (omega arith))

-- the index of a number is one less
pub before : (index n : ℕ) → index + 1 ≡ n → index ≡ n - 1
before index n numbered = omega (arith, numbered)

-- what stands at an index is what stands at its number
pub found : {X : Type 0} (xs : List X) (index n : ℕ) (x : X) → index + 1 ≡ n → slice_get xs index ≡ Some x → nth xs n ≡ Some x
found xs index n x numbered there =
    ap (λ b. cond b None (slice_get xs (n - 1))) (ne_eqb n 0 (λ none. let no : n ≡ 0 = none in absurd (omega (arith, numbered, no)))) ∙ ap (slice_get xs) (sym (before index n numbered)) ∙ there

-- at a number that has no index nothing stands
nowhere : {X : Type 0} (xs : List X) (n : ℕ) (zero over : Bool) → n == 0 ≡ zero → nat_le (length xs) (n - 1) ≡ over → cond zero None (cond over None (Some (n - 1))) ≡ None → cond zero None (slice_get xs (n - 1)) ≡ None
nowhere xs n true over is past none = refl
nowhere xs n false true is past none = slice_get_past xs (n - 1) (leb-true (length xs) (n - 1) past)
nowhere xs n false false is past none = absurd (cc)

pub not_found : {X : Type 0} (xs : List X) (n count : ℕ) → count ≡ length xs → index_at n count ≡ None → nth xs n ≡ None
not_found xs n count many none = nowhere xs n (n == 0) (nat_le (length xs) (n - 1)) refl refl (ap (index_at n) (sym many) ∙ none)

-- what stands there is put there again: nothing changes
pub put_again : {X : Type 0} (xs : List X) (index n : ℕ) (x : X) → index + 1 ≡ n → slice_get xs index ≡ Some x → set xs (n - 1) x ≡ xs
put_again xs index n x numbered there =
    ap (λ k. set xs k x) (sym (before index n numbered)) ∙ ap (set xs index) (sym (get_or_from_slice_get xs index x x there)) ∙ set-get_or xs index x
