-- How many bytes files show together.
use Rattle.std.proofs.Common.{◌≡◌, ℕ, ◌+◌, ◌≤◌, List, [], ◌∷◌, ◌++◌, length, get_or, map, set, Some, ap, arith}
use Rattle.std.specs.Prelude.{slice_get}
use Rattle.std.proofs.lemmas.List.Sums.{sum_by-cons, sum_by-append, sum_by-set}
use Rattle.std.proofs.lemmas.Option.{slice_get_within, get_or_from_slice_get}
use Rattle.cluster_model.specs.File.{StoredFile, shown, restarted}
use Rattle.cluster_model.specs.Server.{total_size}
use Rattle.ds_changes.proofs.Covering.{all_longer}

-- what lasts of a file is no more than it shows
left_le : (f : StoredFile) → length (shown (restarted f [])) ≤ length (shown f)
left_le f = all_longer f.content.pending f.content.stable

pub total_left : (files : List StoredFile) → total_size (map (λ (f : StoredFile). restarted f []) files) ≤ total_size files
total_left [] = omega arith
total_left (f ∷ files) =
    let size : StoredFile → ℕ = λ (g : StoredFile). length (shown g) in
    let all : total_size (f ∷ files) ≡ length (shown f) + total_size files = sum_by-cons (λ (g : StoredFile). length (shown g)) f files in
    let left : total_size (map (λ (g : StoredFile). restarted g []) (f ∷ files)) ≡ length (shown (restarted f [])) + total_size (map (λ (g : StoredFile). restarted g []) files) =
    sum_by-cons (λ (g : StoredFile). length (shown g)) (restarted f []) (map (λ (g : StoredFile). restarted g []) files) in
    omega (arith, all, left, left_le f, total_left files)

-- one file in the place of another
pub total_set : (files : List StoredFile) (index : ℕ) (f g : StoredFile) → slice_get files index ≡ Some f → total_size (set files index g) + length (shown f) ≡ total_size files + length (shown g)
total_set files index f g there =
    let one = sum_by-set (λ (h : StoredFile). length (shown h)) files index g f (slice_get_within files index f there) in
    let old : length (shown (get_or files index f)) ≡ length (shown f) = ap (λ (h : StoredFile). length (shown h)) (get_or_from_slice_get files index f f there) in
    omega (arith, one, old)

pub total_push : (files : List StoredFile) (g : StoredFile) → total_size (files ++ g ∷ []) ≡ total_size files + length (shown g)
total_push files g =
    let all : total_size (files ++ g ∷ []) ≡ total_size files + total_size (g ∷ []) = sum_by-append (λ (h : StoredFile). length (shown h)) files (g ∷ []) in
    let one : total_size (g ∷ []) ≡ length (shown g) + total_size [] = sum_by-cons (λ (h : StoredFile). length (shown h)) g [] in
    omega (arith, all, one)
