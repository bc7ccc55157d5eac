-- Writes put over bytes, byte by byte.
use Rattle.std.proofs.Common.{◌≡◌, ℕ, zero, suc, ◌+◌, ◌-◌, ◌<◌, ◌≤◌, List, [], ◌∷◌, ◌++◌, length, take, drop, Option, Some, None, refl, sym, ap, subst, ◌∙◌, arith, ◌⊎◌, inl, inr}
use Rattle.std.specs.Prelude.{slice_get, nat_le}
use Rattle.std.specs.List.{AllByRecursion}
use Rattle.std.proofs.lemmas.Bool.{cond_both, cases_lt, leb-true}
use Rattle.std.proofs.lemmas.List.{places}
use Rattle.cluster_model.specs.declared.piece.Piece.{Piece}
use Rattle.cluster_model.specs.Content.{overlay, overlay_all, Pending, piece_of, kept_of}
use Rattle.cluster_model.specs.Laws.{AreDisjoint, byte_at}
use Rattle.cluster_model.proofs.Placing.{length-overlay-le, length-overlay-ge, get_or-overlay_outside, get_or-overlay_inside}
use Rattle.cluster_laws.specs.Agreement.{covers, IsByteOfOne, furthest_end, ArePairwiseDisjoint}
use Rattle.cluster_laws.specs.Holders.{IsIn}
use Rattle.cluster_laws.proofs.Lists.{all_append}

-- of each byte of a list, and of each byte that a write has
abbrev pub AllBytes : (ℕ → ℕ → Type 0) → List ℕ → Type 0
AllBytes Q bytes = (place : ℕ) → place < length bytes → Q place (byte_at bytes place)

abbrev pub Gives : (ℕ → ℕ → Type 0) → Pending → Type 0
Gives Q w = (place : ℕ) → covers w place → Q place (byte_at w.bytes (place - w.at))

pub past_end : (xs : List ℕ) (k : ℕ) → length xs ≤ k → byte_at xs k ≡ 0
past_end xs k past = grind (arith, places)

-- ---- one write

pub inside : (old : List ℕ) (w : Pending) (place : ℕ) → covers w place → byte_at (overlay old w.at w.bytes) place ≡ byte_at w.bytes (place - w.at)
inside old w place c =
    let low = c.0 in
    let high = c.1 in
    let e : w.at + (place - w.at) ≡ place = omega (arith, low) in
    ap (λ (k : ℕ). byte_at (overlay old w.at w.bytes) k) (sym e) ∙ get_or-overlay_inside old w.at w.bytes (place - w.at) (omega (arith, low, high))

-- a place is in the write, or out of it
pub in_or_out : (w : Pending) (place : ℕ) → covers w place ⊎ ((place < w.at) ⊎ (w.at + length w.bytes ≤ place))
in_or_out w place =
    elim (cases_lt place w.at) [
      | inl less ↦ inr (inl less)
      | inr low ↦ elim (cases_lt place (w.at + length w.bytes)) [
        | inl high ↦ inl (low, high)
        | inr past ↦ inr (inr past)
      ]
    ]

module _ (Q : ℕ → ℕ → Type 0) where
  old_byte : (old : List ℕ) (place : ℕ) → AllBytes Q old → ((k : ℕ) → length old ≤ k → Q k 0) → Q place (byte_at old place)
  old_byte old place h zeros =
      elim (cases_lt place (length old)) [
        | inl less ↦ h place less
        | inr past ↦ subst (Q place) (sym (past_end old place past)) (zeros place past)
      ]

  pub put_one : (old : List ℕ) (w : Pending) → AllBytes Q old → Gives Q w → ((k : ℕ) → length old ≤ k → Q k 0) → AllBytes Q (overlay old w.at w.bytes)
  put_one old w h gives zeros place less =
      elim (in_or_out w place) [
        | inl c ↦ subst (Q place) (sym (inside old w place c)) (gives place c)
        | inr out ↦ subst (Q place) (sym (get_or-overlay_outside old w.at w.bytes place out)) (old_byte old place h zeros)
      ]

  pub put_all : (ws : List Pending) (old : List ℕ) → AllBytes Q old → AllByRecursion (Gives Q) ws → ((k : ℕ) → length old ≤ k → Q k 0) → AllBytes Q (overlay_all old ws)
  put_all [] old h gives zeros = h
  put_all (w ∷ ws) old h gives zeros =
      let up = length-overlay-ge old w.at w.bytes in
      put_all ws (overlay old w.at w.bytes) (put_one old w h gives.0 zeros) gives.1 (λ k past. zeros k (omega (arith, up, past)))

-- ---- lengths

pub all_longer : (ws : List Pending) (old : List ℕ) → length old ≤ length (overlay_all old ws)
all_longer [] old = omega arith
all_longer (w ∷ ws) old =
    let one = length-overlay-ge old w.at w.bytes in
    let rest = all_longer ws (overlay old w.at w.bytes) in
    omega (arith, one, rest)

abbrev pub EndsBy : ℕ → Pending → Type 0
EndsBy n w = w.at + length w.bytes ≤ n

pub all_shorter : (ws : List Pending) (old : List ℕ) (n : ℕ) → length old ≤ n → AllByRecursion (EndsBy n) ws → length (overlay_all old ws) ≤ n
all_shorter [] old n h ends = h
all_shorter (w ∷ ws) old n h ends = all_shorter ws (overlay old w.at w.bytes) n (length-overlay-le old w.at w.bytes n h ends.0) ends.1

pub ends_furthest : (ws : List Pending) (w : Pending) → IsIn w ws → w.at + length w.bytes ≤ furthest_end ws
ends_furthest [] w is = absurd is
ends_furthest (v ∷ ws) w (inl same) = let e : v.at + length v.bytes ≡ w.at + length w.bytes = ap (λ (x : Pending). x.at + length x.bytes) same in omega (arith, e)
ends_furthest (v ∷ ws) w (inr rest) = let up = ends_furthest ws w rest in omega (arith, up)

pub furthest_by : (ws : List Pending) (n : ℕ) → ((w : Pending) → IsIn w ws → w.at + length w.bytes ≤ n) → furthest_end ws ≤ n
furthest_by [] n h = omega arith
furthest_by (v ∷ ws) n h =
    let first = h v (inl refl) in
    let rest = furthest_by ws n (λ w is. h w (inr is)) in
    omega (arith, first, rest)

-- ---- writes of a list

pub in_left : (w : Pending) (a b : List Pending) → IsIn w a → IsIn w (a ++ b)
in_left w [] b is = absurd is
in_left w (v ∷ a) b (inl same) = inl same
in_left w (v ∷ a) b (inr rest) = inr (in_left w a b rest)

pub in_right : (w : Pending) (a b : List Pending) → IsIn w b → IsIn w (a ++ b)
in_right w [] b is = is
in_right w (v ∷ a) b is = inr (in_right w a b is)

pub in_either : (w : Pending) (a b : List Pending) → IsIn w (a ++ b) → IsIn w a ⊎ IsIn w b
in_either w [] b is = inr is
in_either w (v ∷ a) b (inl same) = inl (inl same)
in_either w (v ∷ a) b (inr rest) =
    elim (in_either w a b rest) [
      | inl x ↦ inl (inr x)
      | inr y ↦ inr y
    ]

at_place : (w : Pending) (ws : List Pending) → IsIn w ws → (k : ℕ) × (slice_get ws k ≡ Some w)
at_place w [] is = absurd is
at_place w (v ∷ ws) (inl same) = (0, ap Some same)
at_place w (v ∷ ws) (inr rest) = let k = at_place w ws rest in (suc k.0, k.1)

pub is_at : (ws : List Pending) (k : ℕ) (w : Pending) → slice_get ws k ≡ Some w → IsIn w ws
is_at [] k w e = absurd cc
is_at (v ∷ ws) zero w e = inl cc
is_at (v ∷ ws) (suc k) w e = inr (is_at ws k w e)

-- a byte that a write of the list has
pub byte_of : (w : Pending) (ws : List Pending) (place : ℕ) → IsIn w ws → covers w place → IsByteOfOne ws place (byte_at w.bytes (place - w.at))
byte_of w ws place is c = let k = at_place w ws is in (k.0, w, k.1, c, refl)

pub all_in : (P : Pending → Type 0) (ws : List Pending) (w : Pending) → AllByRecursion P ws → IsIn w ws → P w
all_in P [] w h is = absurd is
all_in P (v ∷ ws) w h (inl same) = subst P same h.0
all_in P (v ∷ ws) w h (inr rest) = all_in P ws w h.1 rest

pub all_of_in : (P : Pending → Type 0) (ws : List Pending) → ((w : Pending) → IsIn w ws → P w) → AllByRecursion P ws
all_of_in P [] h = tt
all_of_in P (v ∷ ws) h = (h v (inl refl), all_of_in P ws (λ w is. h w (inr is)))

-- two of those that are apart are the same, or have no byte in common
pub same_or_apart : (ws : List Pending) → ArePairwiseDisjoint ws → (v w : Pending) → IsIn v ws → IsIn w ws → (v ≡ w) ⊎ AreDisjoint v.at v.bytes w.at w.bytes
same_or_apart [] apart v w is also = absurd is
same_or_apart (x ∷ ws) apart v w (inl a) (inl b) = inl (sym a ∙ b)
same_or_apart (x ∷ ws) apart v w (inl a) (inr b) = inr (subst (λ (y : Pending). AreDisjoint y.at y.bytes w.at w.bytes) a (all_in (λ z. AreDisjoint x.at x.bytes z.at z.bytes) ws w apart.0 b))
same_or_apart (x ∷ ws) apart v w (inr a) (inl b) = inr (turned (subst (λ (y : Pending). AreDisjoint y.at y.bytes v.at v.bytes) b (all_in (λ z. AreDisjoint x.at x.bytes z.at z.bytes) ws v apart.0 a)))
  where
    turned : AreDisjoint w.at w.bytes v.at v.bytes → AreDisjoint v.at v.bytes w.at w.bytes
    turned (inl h) = inr h
    turned (inr h) = inl h
same_or_apart (x ∷ ws) apart v w (inr a) (inr b) = same_or_apart ws apart.1 v w a b

-- a place is in one of them, or in none
pub covered_or_not : (ws : List Pending) (place : ℕ) → ((w : Pending) × IsIn w ws × covers w place) ⊎ ((w : Pending) → IsIn w ws → covers w place → ⊥)
covered_or_not [] place = inr (λ w is c. absurd is)
covered_or_not (v ∷ ws) place =
    elim (in_or_out v place) [
      | inl c ↦ inl (v, inl refl, c)
      | inr out ↦ elim (covered_or_not ws place) [
        | inl found ↦ inl (found.0, inr found.1, found.2)
        | inr none ↦ inr (λ w is c. not_one w out none is c)
      ]
    ]
  where
    not_one : (w : Pending) → (place < v.at) ⊎ (v.at + length v.bytes ≤ place) → ((x : Pending) → IsIn x ws → covers x place → ⊥) → IsIn w (v ∷ ws) → covers w place → ⊥
    not_one w out none (inl same) c = not_here out (subst (λ (x : Pending). covers x place) (sym same) c)
      where
        not_here : (place < v.at) ⊎ (v.at + length v.bytes ≤ place) → covers v place → ⊥
        not_here (inl less) k = let low = k.0 in absurd (omega (arith, less, low))
        not_here (inr past) k = let high = k.1 in absurd (omega (arith, past, high))
    not_one w out none (inr rest) c = none w rest c

-- ---- what a restart keeps

cut_gives : (Q : ℕ → ℕ → Type 0) (p : Piece) (w : Pending) → Gives Q w → p.from + p.count ≤ length w.bytes → Gives Q (record { at = w.at + p.from; bytes = take p.count (drop p.from w.bytes) })
cut_gives Q p w gives fits place c =
    let low = c.0 in
    let high = c.1 in
    let size : length (take p.count (drop p.from w.bytes)) ≡ p.count = grind (arith, places) in
    let same : byte_at (take p.count (drop p.from w.bytes)) (place - (w.at + p.from)) ≡ byte_at w.bytes (place - w.at) = cut_byte w.bytes p.from p.count (place - (w.at + p.from)) (place - w.at) (omega (arith, high, size, low)) (omega (arith, low)) in
    subst (Q place) (sym same) (gives place (omega (arith, low), omega (arith, low, high, size, fits)))
  where
    cut_byte : (bytes : List ℕ) (from count i j : ℕ) → i < count → j ≡ from + i → byte_at (take count (drop from bytes)) i ≡ byte_at bytes j
    cut_byte bytes from count i j less e = grind (arith, places)

cut_ends : (n : ℕ) (p : Piece) (w : Pending) → EndsBy n w → p.from + p.count ≤ length w.bytes → EndsBy n (record { at = w.at + p.from; bytes = take p.count (drop p.from w.bytes) })
cut_ends n p w ends fits = let size : length (take p.count (drop p.from w.bytes)) ≡ p.count = grind (arith, places) in omega (arith, ends, fits, size)

-- what holds of each pending write and of its parts holds of each that a restart keeps
module _ (P : Pending → Type 0) (cut : (p : Piece) (w : Pending) → P w → p.from + p.count ≤ length w.bytes → P (record { at = w.at + p.from; bytes = take p.count (drop p.from w.bytes) })) where
  kept_one : (p : Piece) (w : Option Pending) → ((v : Pending) → w ≡ Some v → P v) → AllByRecursion P (piece_of p w)
  kept_one p None h = tt
  kept_one p (Some w) h =
      cond_both (nat_le (p.from + p.count) (length w.bytes)) (record { at = w.at + p.from; bytes = take p.count (drop p.from w.bytes) } ∷ []) [] (AllByRecursion P)
      (λ e. (cut p w (h w refl) (leb-true (p.from + p.count) (length w.bytes) e), tt)) (λ e. tt)

  kept_each : (pending : List Pending) → AllByRecursion P pending → (pieces : List Piece) → AllByRecursion P (kept_of pending pieces)
  kept_each pending h [] = tt
  kept_each pending h (p ∷ pieces) =
      all_append P (piece_of p (slice_get pending p.index)) (kept_of pending pieces) (kept_one p (slice_get pending p.index) (λ v is. all_in P pending v h (is_at pending p.index v is))) (kept_each pending h pieces)

pub kept_gives : (Q : ℕ → ℕ → Type 0) (pending : List Pending) → AllByRecursion (Gives Q) pending → (pieces : List Piece) → AllByRecursion (Gives Q) (kept_of pending pieces)
kept_gives Q pending h pieces = kept_each (Gives Q) (cut_gives Q) pending h pieces

pub kept_ends : (n : ℕ) (pending : List Pending) → AllByRecursion (EndsBy n) pending → (pieces : List Piece) → AllByRecursion (EndsBy n) (kept_of pending pieces)
kept_ends n pending h pieces = kept_each (EndsBy n) (cut_ends n) pending h pieces
