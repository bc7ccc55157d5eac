-- Lemmas on bytes that are put at a place.
use Rattle.std.proofs.Common.{◌≡◌, ℕ, ◌+◌, ◌-◌, ◌<◌, ◌≤◌, List, [], ◌∷◌, ◌++◌, length, get_or, take, drop, replicate, max, refl, sym, ap, ◌∙◌, arith, ◌⊎◌, ⊎_elim, inl, inr}
use lib.Seq.{ext_get_or}
use Rattle.std.proofs.lemmas.List.{places, take_at, drop_at, append_assoc}
use Rattle.cluster_model.specs.Content.{overlay, overlay_all, Pending}
use Rattle.cluster_model.specs.Laws.{AreDisjoint, Commute, StandsAt, IsWritten}

-- the length after a write of at least one byte
pub length-overlay : (xs : List ℕ) (at b : ℕ) (bs : List ℕ) → length (overlay xs at (b ∷ bs)) ≡ max (length xs) (at + length (b ∷ bs))
length-overlay xs at b bs = grind (arith, places)

-- one more pending write
pub overlay_all_push : (xs : List ℕ) (ws : List Pending) (w : Pending) → overlay_all xs (ws ++ w ∷ []) ≡ overlay (overlay_all xs ws) w.at w.bytes
overlay_all_push xs [] w = refl
overlay_all_push xs (v ∷ ws) w = overlay_all_push (overlay xs v.at v.bytes) ws w

-- a write that ends within a length leaves no more bytes
pub length-overlay-le : (xs : List ℕ) (at : ℕ) (bs : List ℕ) (n : ℕ) → length xs ≤ n → at + length bs ≤ n → length (overlay xs at bs) ≤ n
length-overlay-le xs at [] n h g = h
length-overlay-le xs at (b ∷ bs) n h g = omega (arith, length-overlay xs at b bs)

-- no write leaves fewer bytes
pub length-overlay-ge : (xs : List ℕ) (at : ℕ) (bs : List ℕ) → length xs ≤ length (overlay xs at bs)
length-overlay-ge xs at [] = omega arith
length-overlay-ge xs at (b ∷ bs) = omega (arith, length-overlay xs at b bs)

-- what is written is within the length
pub length-overlay-end : (xs : List ℕ) (at : ℕ) (bs : List ℕ) → 0 < length bs → at + length bs ≤ length (overlay xs at bs)
length-overlay-end xs at [] h = absurd (omega arith)
length-overlay-end xs at (b ∷ bs) h = omega (arith, length-overlay xs at b bs)

-- a write of no bytes
pub overlay_none : (xs : List ℕ) (at : ℕ) (bs : List ℕ) → length bs ≡ 0 → overlay xs at bs ≡ xs
overlay_none xs at [] h = refl
overlay_none xs at (b ∷ bs) h = absurd (omega arith)

-- what was written is read back
pub take-drop-overlay : (xs : List ℕ) (at : ℕ) (bs : List ℕ) → take (length bs) (drop at (overlay xs at bs)) ≡ bs
take-drop-overlay xs at [] = refl
take-drop-overlay xs at (b ∷ bs) =
    let front : List ℕ = take at xs ++ replicate (at - length xs) 0 in
    let back : List ℕ = drop (at + length (b ∷ bs)) xs in
    let long : length front ≡ at = grind (arith, places) in
    ap (λ (ys : List ℕ). take (length (b ∷ bs)) (drop at ys)) (append_assoc front (b ∷ bs) back)
    ∙ ap (take (length (b ∷ bs))) (drop_at front ((b ∷ bs) ++ back) at long)
    ∙ take_at (b ∷ bs) back _ refl

-- each byte that is not written stays, and a gap has zeros
pub get_or-overlay_outside : (xs : List ℕ) (at : ℕ) (bs : List ℕ) (k : ℕ) → (k < at) ⊎ (at + length bs ≤ k) → get_or (overlay xs at bs) k 0 ≡ get_or xs k 0
get_or-overlay_outside xs at [] k h = refl
get_or-overlay_outside xs at (b ∷ bs) k (inl h) = grind (arith, places)
get_or-overlay_outside xs at (b ∷ bs) k (inr h) = grind (arith, places)

-- the byte at a place of what was written
pub get_or-overlay_inside : (xs : List ℕ) (at : ℕ) (bs : List ℕ) (k : ℕ) → k < length bs → get_or (overlay xs at bs) (at + k) 0 ≡ get_or bs k 0
get_or-overlay_inside xs at [] k h = absurd (omega arith)
get_or-overlay_inside xs at (b ∷ bs) k h = grind (arith, places)

pub is_written : (xs : List ℕ) (at : ℕ) (bs : List ℕ) → IsWritten xs at bs (overlay xs at bs)
is_written xs at bs = record {
  inside = get_or-overlay_inside xs at bs;
  outside = get_or-overlay_outside xs at bs;
  none = overlay_none xs at bs;
  size = size_by bs;
}
  where
    size_by : (cs : List ℕ) → 0 < length cs → length (overlay xs at cs) ≡ max (length xs) (at + length cs)
    size_by [] h = absurd (omega arith)
    size_by (c ∷ cs) h = length-overlay xs at c cs

-- the same by the place in what is left
inside_at : (xs : List ℕ) (at : ℕ) (bs : List ℕ) (k : ℕ) → at ≤ k → k < at + length bs → get_or (overlay xs at bs) k 0 ≡ get_or bs (k - at) 0
inside_at xs at bs k low high =
    let e : at + (k - at) ≡ k = omega arith in
    let less : k - at < length bs = omega arith in
    ap (λ n. get_or (overlay xs at bs) n 0) (sym e) ∙ get_or-overlay_inside xs at bs (k - at) less

-- a place is before a range, in it or behind it
data Side (k at len : ℕ) : Type 0 where
  Out : (k < at) ⊎ (at + len ≤ k) → Side k at len
  In : at ≤ k → k < at + len → Side k at len

side : (k at len : ℕ) → Side k at len
side k at len =
    ⊎_elim (λ below. Out (inl below)) (λ not_below. ⊎_elim (λ above. Out (inr above)) (λ within. In not_below within) (le_or (at + len) k)) (le_or' k at)
  where
    le_or : (m n : ℕ) → (m ≤ n) ⊎ (n < m)
    le_or m n = search (arith)

    le_or' : (m n : ℕ) → (m < n) ⊎ (n ≤ m)
    le_or' m n = search (arith)

-- the byte at a place after two writes with no byte in common
module _ (old : List ℕ) (a : ℕ) (xs : List ℕ) (b : ℕ) (ys : List ℕ) (apart : AreDisjoint a xs b ys) where
  not_both : (k : ℕ) → a ≤ k → k < a + length xs → (k < b) ⊎ (b + length ys ≤ k)
  not_both k low high = ⊎_elim (λ h. inl (omega (arith, h, high))) (λ h. inr (omega (arith, h, low))) apart

  not_both' : (k : ℕ) → b ≤ k → k < b + length ys → (k < a) ⊎ (a + length xs ≤ k)
  not_both' k low high = ⊎_elim (λ h. inr (omega (arith, h, low))) (λ h. inl (omega (arith, h, high))) apart

  same_byte : (k : ℕ) → Side k a (length xs) → Side k b (length ys) → get_or (overlay (overlay old a xs) b ys) k 0 ≡ get_or (overlay (overlay old b ys) a xs) k 0
  same_byte k (In low high) s =
      let away = not_both k low high in
      get_or-overlay_outside (overlay old a xs) b ys k away ∙ inside_at old a xs k low high ∙ sym (inside_at (overlay old b ys) a xs k low high)
  same_byte k (Out out) (In low high) = inside_at (overlay old a xs) b ys k low high ∙ sym (inside_at old b ys k low high) ∙ sym (get_or-overlay_outside (overlay old b ys) a xs k out)
  same_byte k (Out out) (Out away) =
      get_or-overlay_outside (overlay old a xs) b ys k away ∙ get_or-overlay_outside old a xs k out ∙ sym (get_or-overlay_outside old b ys k away) ∙ sym (get_or-overlay_outside (overlay old b ys) a xs k out)

-- writes with no byte in common come in either order
pub order : (old : List ℕ) (a : ℕ) (xs : List ℕ) (b : ℕ) (ys : List ℕ) → AreDisjoint a xs b ys → Commute old a xs b ys
order old a [] b ys h = refl
order old a (x ∷ xs) b [] h = refl
order old a (x ∷ xs) b (y ∷ ys) h =
    let first = length-overlay old a x xs in
    let second = length-overlay old b y ys in
    let here = length-overlay (overlay old a (x ∷ xs)) b y ys in
    let there = length-overlay (overlay old b (y ∷ ys)) a x xs in
    ext_get_or 0 _ _ (omega (arith, first, second, here, there)) (λ k less. same_byte old a (x ∷ xs) b (y ∷ ys) h k (side k a (length (x ∷ xs))) (side k b (length (y ∷ ys))))

-- a write whose bytes stand there changes nothing
pub again : (old : List ℕ) (at : ℕ) (bs : List ℕ) → StandsAt old at bs → overlay old at bs ≡ old
again old at [] s = refl
again old at (b ∷ bs) s =
    let long = length-overlay old at b bs in
    let within = s.within in
    ext_get_or 0 _ _ (omega (arith, long, within)) (λ k less. at_side k (side k at (length (b ∷ bs))))
  where
    at_side : (k : ℕ) → Side k at (length (b ∷ bs)) → get_or (overlay old at (b ∷ bs)) k 0 ≡ get_or old k 0
    at_side k (Out out) = get_or-overlay_outside old at (b ∷ bs) k out
    at_side k (In low high) =
        let e : at + (k - at) ≡ k = omega arith in
        let less : k - at < length (b ∷ bs) = omega arith in
        inside_at old at (b ∷ bs) k low high
        ∙ ap (λ ys. get_or ys (k - at) 0) (sym s.same)
        ∙ grind (arith, places)
