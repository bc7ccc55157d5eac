-- Joined ranges, put over the stable bytes, give what is shown.
use Rattle.std.proofs.Common.{◌≡◌, ℕ, ◌+◌, ◌-◌, ◌<◌, ◌≤◌, List, [], ◌∷◌, length, get_or, drop, refl, sym, ap, ◌∙◌, arith, ◌⊎◌, inl, inr}
use lib.Seq.{ext_get_or}
use Rattle.std.specs.List.{AllByRecursion}
use Rattle.std.proofs.lemmas.Bool.{cases_lt}
use Rattle.std.proofs.lemmas.List.{get_or-take, get_or-drop}
use Rattle.cluster_model.specs.Content.{Pending, overlay, overlay_all}
use Rattle.cluster_model.proofs.Placing.{length-overlay-le, length-overlay-ge, length-overlay-end, get_or-overlay_inside, get_or-overlay_outside}
use Rattle.ds_changes.specs.Joined.{IsOfRange, IsInRanges, IsShown, AreJoined}

-- ---- a place and writes

-- a place is in a write, before it or behind it
data Side (place : ℕ) (w : Pending) : Type 0 where
  Within : IsOfRange place w → Side place w
  Beside : (place < w.at) ⊎ (w.at + length w.bytes ≤ place) → Side place w

side : (place : ℕ) (w : Pending) → Side place w
side place w =
    elim (cases_lt place w.at) [
      | inl less ↦ Beside (inl less)
      | inr low ↦ elim (cases_lt place (w.at + length w.bytes)) [
        | inl high ↦ Within (low, high)
        | inr past ↦ Beside (inr past)
      ]
    ]

not_both : (place : ℕ) (w : Pending) → (place < w.at) ⊎ (w.at + length w.bytes ≤ place) → IsOfRange place w → ⊥
not_both place w (inl less) is = absurd (omega (arith, less, is.0))
not_both place w (inr past) is = absurd (omega (arith, past, is.1))

-- a place is in one of the writes or in none
pub in_or_not : (place : ℕ) (ws : List Pending) → IsInRanges place ws ⊎ (IsInRanges place ws → ⊥)
in_or_not place [] = inr (λ is. is)
in_or_not place (w ∷ ws) = by_side (side place w) (in_or_not place ws)
  where
    by_side : Side place w → IsInRanges place ws ⊎ (IsInRanges place ws → ⊥) → IsInRanges place (w ∷ ws) ⊎ (IsInRanges place (w ∷ ws) → ⊥)
    by_side (Within is) rest = inl (inl is)
    by_side (Beside out) (inl is) = inl (inr is)
    by_side (Beside out) (inr none) =
        inr (λ either. elim either [
          | inl is ↦ not_both place w out is
          | inr is ↦ none is
        ])

-- ---- lengths

-- no write leaves fewer bytes
pub all_longer : (ws : List Pending) (old : List ℕ) → length old ≤ length (overlay_all old ws)
all_longer [] old = omega arith
all_longer (w ∷ ws) old =
    let one = length-overlay-ge old w.at w.bytes in
    let rest = all_longer ws (overlay old w.at w.bytes) in
    omega (arith, one, rest)

-- each byte's place is within the bytes afterwards
pub reach : (ws : List Pending) (old : List ℕ) (place : ℕ) → IsInRanges place ws → place < length (overlay_all old ws)
reach [] old place is = absurd is
reach (w ∷ ws) old place (inl is) =
    let end = length-overlay-end old w.at w.bytes (omega (arith, is.0, is.1)) in
    let rest = all_longer ws (overlay old w.at w.bytes) in
    omega (arith, is.1, end, rest)
reach (w ∷ ws) old place (inr is) = reach ws (overlay old w.at w.bytes) place is

one_within : (old : List ℕ) (at : ℕ) (bytes : List ℕ) (n : ℕ) → length old ≤ n → ((place : ℕ) → at ≤ place → place < at + length bytes → place < n) → length (overlay old at bytes) ≤ n
one_within old at [] n short inside = short
one_within old at (b ∷ bytes) n short inside =
    let last : at + length bytes < n = inside (at + length bytes) (omega arith) (omega arith) in
    length-overlay-le old at (b ∷ bytes) n short (omega (arith, last))

-- bytes at places below a length leave no more bytes
pub all_within : (ws : List Pending) (old : List ℕ) (n : ℕ) → length old ≤ n → ((place : ℕ) → IsInRanges place ws → place < n) → length (overlay_all old ws) ≤ n
all_within [] old n short inside = short
all_within (w ∷ ws) old n short inside = all_within ws (overlay old w.at w.bytes) n (one_within old w.at w.bytes n short (λ place low high. inside place (inl (low, high)))) (λ place is. inside place (inr is))

-- ---- bytes

-- a byte that no write has stays
pub untouched : (ws : List Pending) (old : List ℕ) (place : ℕ) → (IsInRanges place ws → ⊥) → get_or (overlay_all old ws) place 0 ≡ get_or old place 0
untouched [] old place none = refl
untouched (w ∷ ws) old place none = untouched ws (overlay old w.at w.bytes) place (λ is. none (inr is)) ∙ by_side (side place w)
  where
    by_side : Side place w → get_or (overlay old w.at w.bytes) place 0 ≡ get_or old place 0
    by_side (Within is) = absurd (none (inl is))
    by_side (Beside out) = get_or-overlay_outside old w.at w.bytes place out

-- the byte of a range is the one that is shown
range_byte : (shown : List ℕ) (r : Pending) (place : ℕ) → IsShown shown r → IsOfRange place r → get_or r.bytes (place - r.at) 0 ≡ get_or shown place 0
range_byte shown r place is of =
    let k = place - r.at in
    let low = of.0 in
    let high = of.1 in
    let less : k < length r.bytes = omega (arith, low, high) in
    let back : r.at + k ≡ place = omega (arith, low) in
    ap (λ (bytes : List ℕ). get_or bytes k 0) (sym is.same) ∙ get_or-take (length r.bytes) (drop r.at shown) k 0 less ∙ get_or-drop r.at shown k 0 ∙ ap (λ (n : ℕ). get_or shown n 0) back

put_byte : (shown old : List ℕ) (r : Pending) (place : ℕ) → IsShown shown r → IsOfRange place r → get_or (overlay old r.at r.bytes) place 0 ≡ get_or shown place 0
put_byte shown old r place is of =
    let low = of.0 in
    let high = of.1 in
    let back : r.at + (place - r.at) ≡ place = omega (arith, low) in
    ap (λ (n : ℕ). get_or (overlay old r.at r.bytes) n 0) (sym back) ∙ get_or-overlay_inside old r.at r.bytes (place - r.at) (omega (arith, low, high)) ∙ range_byte shown r place is of

-- the bytes of ranges are what is shown
standing : (shown : List ℕ) (rs : List Pending) (old : List ℕ) (place : ℕ) → AllByRecursion (IsShown shown) rs → IsInRanges place rs ⊎ (get_or old place 0 ≡ get_or shown place 0) → get_or (overlay_all old rs) place 0 ≡ get_or shown place 0
standing shown [] old place all (inl is) = absurd is
standing shown [] old place all (inr same) = same
standing shown (r ∷ rs) old place all either = standing shown rs (overlay old r.at r.bytes) place all.1 (by_side (side place r) either)
  where
    by_side : Side place r → IsInRanges place (r ∷ rs) ⊎ (get_or old place 0 ≡ get_or shown place 0) → IsInRanges place rs ⊎ (get_or (overlay old r.at r.bytes) place 0 ≡ get_or shown place 0)
    by_side (Within of) e = inr (put_byte shown old r place all.0 of)
    by_side (Beside out) (inl (inl of)) = absurd (not_both place r out of)
    by_side (Beside out) (inl (inr is)) = inl is
    by_side (Beside out) (inr same) = inr (get_or-overlay_outside old r.at r.bytes place out ∙ same)

-- ---- the law

pub shown_again : (stable : List ℕ) (pending ranges : List Pending) → AreJoined pending (overlay_all stable pending) ranges → overlay_all stable ranges ≡ overlay_all stable pending
shown_again stable pending ranges j =
    let shown : List ℕ = overlay_all stable pending in
    let most = all_within ranges stable (length shown) (all_longer pending stable) (λ place is. reach pending stable place ((j.covers place).0 is)) in
    let least = all_within pending stable (length (overlay_all stable ranges)) (all_longer ranges stable) (λ place is. reach ranges stable place ((j.covers place).1 is)) in
    ext_get_or 0 _ _ (omega (arith, most, least)) (λ place less. standing shown ranges stable place j.shows (by_place place (in_or_not place ranges)))
  where
    by_place : (place : ℕ) → IsInRanges place ranges ⊎ (IsInRanges place ranges → ⊥) → IsInRanges place ranges ⊎ (get_or stable place 0 ≡ get_or (overlay_all stable pending) place 0)
    by_place place (inl is) = inl is
    by_place place (inr none) = inr (sym (untouched pending stable place (λ is. none ((j.covers place).1 is))))
