-- Bytes put at a place, and what a crash may make of that.
use Rattle.std.proofs.Common.{◌≡◌, ℕ, ◌+◌, ◌-◌, ◌<◌, ◌≤◌, List, [], ◌∷◌, ◌++◌, length, replicate, refl, arith, rules}
use Rattle.std.proofs.lemmas.List.{same_lists, places, take_min, length-take, length-append, length-replicate}
use Rattle.cluster_model.specs.Content.{overlay}
use Rattle.cluster_model.proofs.Placing.{length-overlay}
use Rattle.store_disk.specs.Disks.{Torn, TornLength, resized}

-- bytes that are put where zeros were added for them
pub overlay_grown : (xs : List ℕ) (at : ℕ) (bs : List ℕ) → 0 < length bs → overlay (xs ++ replicate (at + length bs - length xs) 0) at bs ≡ overlay xs at bs
overlay_grown xs at [] h = absurd (omega arith)
overlay_grown xs at (b ∷ bs) h = same_lists _ _ (search (rules, places)) (λ k d l. grind (arith, places))

-- ---- what a crash may make of a write

-- nothing
pub torn_none : (old : List ℕ) (at count : ℕ) → Torn at count old old
torn_none old at count = record { no_shorter = omega arith; no_longer = omega arith; before = take_min at old; behind = refl }

-- the front of it
pub torn_within : (old : List ℕ) (at : ℕ) (bs : List ℕ) (count : ℕ) → length bs ≤ count → Torn at count old (overlay old at bs)
torn_within old at [] count h = torn_none old at count
torn_within old at (b ∷ bs) count h =
    let long = length-overlay old at b bs in
    record {
      no_shorter = omega (arith, long);
      no_longer = omega (arith, long, h);
      before = same_lists _ _ (search (rules, places)) (λ k d l. grind (arith, places));
      behind = same_lists _ _ (search (rules, places)) (λ k d l. grind (arith, places));
    }

-- all of it
pub torn_whole : (old : List ℕ) (at : ℕ) (bs : List ℕ) → Torn at (length bs) old (overlay old at bs)
torn_whole old at bs = torn_within old at bs (length bs) (omega arith)

-- ---- what a crash may make of a cut

pub cut_whole : (old : List ℕ) (to : ℕ) → TornLength to old (resized old to)
cut_whole old to =
    let long : length (resized old to) ≡ to = simp (length-take, length-append, length-replicate) (omega arith) in
    record {
      no_shorter = omega (arith, long);
      no_longer = omega (arith, long);
      below = same_lists _ _ (search (rules, places)) (λ k d l. grind (arith, places));
    }

pub cut_none : (old : List ℕ) (to : ℕ) → TornLength to old old
cut_none old to = record { no_shorter = omega arith; no_longer = omega arith; below = same_lists _ _ (search (rules, places)) (λ k d l. grind (arith, places)) }
