-- A data file that has a file's bytes, where writes that change nothing are applied, committed and lost.
use Rattle.std.proofs.Common.{◌≡◌, ℕ, ◌+◌, ◌-◌, List, [], ◌∷◌, length, refl, sym, ap, subst, ◌∙◌, arith, inl, inr}
use Rattle.std.specs.List.{AllByRecursion}
use Rattle.std.proofs.lemmas.Grind.{same_number_lists}
use Rattle.cluster_model.specs.declared.piece.Piece.{Piece}
use Rattle.cluster_model.specs.Content.{Pending, Content, overlay, overlay_all, shown_of, joined, settled, survived, kept_of}
use Rattle.cluster_model.specs.Laws.{byte_at}
use Rattle.cluster_model.proofs.Placing.{overlay_all_push, get_or-overlay_outside, length-overlay-ge, length-overlay-le}
use Rattle.cluster_laws.specs.Agreement.{IsNoChange, Has}
use Rattle.cluster_laws.specs.Holders.{the_write}
use Rattle.cluster_laws.proofs.Lists.{all_append, all_more}
use Rattle.sound_journals.proofs.Lists.{all_both}
use Rattle.cluster_laws.proofs.Putting.{Gives, EndsBy, in_or_out, inside, kept_gives, kept_ends}

put_same : (old : List ℕ) (v : Pending) → IsNoChange old v → overlay old v.at v.bytes ≡ old
put_same old v same =
    let within = same.0 in
    let up = length-overlay-ge old v.at v.bytes in
    let down = length-overlay-le old v.at v.bytes (length old) (omega arith) within in
    same_number_lists (overlay old v.at v.bytes) old (omega (arith, up, down)) (λ place less. at_place place)
  where
    at_place : (place : ℕ) → byte_at (overlay old v.at v.bytes) place ≡ byte_at old place
    at_place place =
        elim (in_or_out v place) [
          | inl c ↦ let low = c.0 in let high = c.1 in let e : v.at + (place - v.at) ≡ place = omega (arith, low) in inside old v place c ∙ same.1 (place - v.at) (omega (arith, low, high)) ∙ ap (byte_at old) e
          | inr out ↦ get_or-overlay_outside old v.at v.bytes place out
        ]

puts_same : (base : List ℕ) (vs : List Pending) → AllByRecursion (IsNoChange base) vs → overlay_all base vs ≡ base
puts_same base [] h = refl
puts_same base (v ∷ vs) h = ap (λ (x : List ℕ). overlay_all x vs) (put_same base v h.0) ∙ puts_same base vs h.1

-- of the parts that a restart keeps
abbrev IsThere : List ℕ → ℕ → ℕ → Type 0
IsThere base place byte = byte ≡ byte_at base place

there : (base : List ℕ) (v : Pending) → IsNoChange base v → Gives (IsThere base) v
there base v same place c =
    let low = c.0 in
    let high = c.1 in
    let e : v.at + (place - v.at) ≡ place = omega (arith, low) in
    same.1 (place - v.at) (omega (arith, low, high)) ∙ ap (byte_at base) e

from_there : (base : List ℕ) (v : Pending) → Gives (IsThere base) v → EndsBy (length base) v → IsNoChange base v
from_there base v gives ends = (ends, λ place less. let back : v.at + place - v.at ≡ place = omega arith in ap (byte_at v.bytes) (sym back) ∙ gives (v.at + place) (omega arith, omega (arith, less)))

kept_same : (base : List ℕ) (pending : List Pending) (pieces : List Piece) → AllByRecursion (IsNoChange base) pending → AllByRecursion (IsNoChange base) (kept_of pending pieces)
kept_same base pending pieces h =
    all_both (Gives (IsThere base)) (EndsBy (length base)) (IsNoChange base) (kept_of pending pieces) (from_there base)
    (kept_gives (IsThere base) pending (all_more (IsNoChange base) (Gives (IsThere base)) pending (there base) h) pieces)
    (kept_ends (length base) pending (all_more (IsNoChange base) (EndsBy (length base)) pending (λ v same. same.0) h) pieces)

-- ---- what happens to it

module _ (base : List ℕ) (c : Content) (h : Has base c) where
  pub has_joins : (at : ℕ) (bytes : List ℕ) → IsNoChange (shown_of c) (the_write at bytes) → Has base (joined c at bytes)
  has_joins at [] same = h
  has_joins at (b ∷ bytes) same = record {
    shown = overlay_all_push c.stable c.pending (the_write at (b ∷ bytes)) ∙ put_same (shown_of c) (the_write at (b ∷ bytes)) same ∙ h.shown;
    stable = h.stable;
    pending = all_append (IsNoChange base) c.pending (the_write at (b ∷ bytes) ∷ []) h.pending (subst (λ (x : List ℕ). IsNoChange x (the_write at (b ∷ bytes))) h.shown same, tt);
  }

  pub has_commits : Has base (settled c)
  has_commits = record { shown = h.shown; stable = h.shown; pending = tt }

  pub has_loses : (pieces : List Piece) → Has base (survived c pieces)
  has_loses pieces =
      let same : overlay_all c.stable (kept_of c.pending pieces) ≡ base = ap (λ (x : List ℕ). overlay_all x (kept_of c.pending pieces)) h.stable ∙ puts_same base (kept_of c.pending pieces) (kept_same base c.pending pieces h.pending) in
      record { shown = same; stable = same; pending = tt }
