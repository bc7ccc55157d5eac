-- What was kept of a file for a restart is of the file.
use Rattle.std.proofs.Common.{◌≡◌, ℕ, zero, suc, ◌+◌, ◌≤◌, ◌⊎◌, inl, inr, ⊎_elim, Bool, true, false, List, [], ◌∷◌, length, take, drop, Option, Some, None, refl, ap, ◌∙◌, arith}
use Rattle.std.specs.Prelude.{slice_get, nat_le, if◌then◌else◌}
use Rattle.std.proofs.lemmas.Bool.Decides.{nat_tests}
use Rattle.std.proofs.lemmas.List.{length-take, length-drop, nil_from_length}
use Rattle.std.proofs.lemmas.Option.{same_Some}
use Rattle.cluster_model.specs.declared.piece.Piece.{Piece}
use Rattle.cluster_model.specs.Content.{overlay, overlay_all, piece_of, Pending, Content}
use Rattle.cluster_model.specs.File.{StoredFile, shown}
use Rattle.cluster_model.proofs.Placing.{length-overlay-le, length-overlay-ge, length-overlay-end}
use Rattle.data_file.specs.Kept.{kept_content, IsKeptOf}

-- no write leaves fewer bytes
stable_le : (stable : List ℕ) (ws : List Pending) → length stable ≤ length (overlay_all stable ws)
stable_le stable [] = omega arith
stable_le stable (w ∷ ws) = omega (arith, length-overlay-ge stable w.at w.bytes, stable_le (overlay stable w.at w.bytes) ws)

-- each write of bytes ends within what all of them make
ends_within : (stable : List ℕ) (ws : List Pending) (i : ℕ) (w : Pending) → slice_get ws i ≡ Some w → w.bytes ≡ [] ⊎ (w.at + length w.bytes ≤ length (overlay_all stable ws))
ends_within stable [] i w e = absurd cc
ends_within stable (v ∷ ws) zero w e = placed w.bytes refl
  where
    placed : (bytes : List ℕ) → w.bytes ≡ bytes → w.bytes ≡ [] ⊎ (w.at + length w.bytes ≤ length (overlay_all (overlay stable v.at v.bytes) ws))
    placed [] none = inl none
    placed (b ∷ bytes) is =
        let same : v ≡ w = same_Some v w e in
        let ends = length-overlay-end stable w.at w.bytes (rw is (omega arith)) in
        let later = stable_le (overlay stable w.at w.bytes) ws in
        inr (rw same (omega (arith, ends, later)))
ends_within stable (v ∷ ws) (suc i) w e = ends_within (overlay stable v.at v.bytes) ws i w e

none_left : (count from : ℕ) (disk : List ℕ) (at n : ℕ) → length disk ≤ n → length (overlay disk at (take count (drop {A = ℕ} from []))) ≤ n
none_left count from disk at n short = rw (nothing count from) short
  where
    nothing : (count from : ℕ) → take count (drop {A = ℕ} from []) ≡ []
    nothing count from = nil_from_length (take count (drop from [])) (let none : List ℕ = [] in let one = length-take count (drop from none) in let other = length-drop from none in omega (arith, one, other))

piece_within : (p : Piece) (some : Option Pending) (n : ℕ) (disk : List ℕ) → ((w : Pending) → some ≡ Some w → w.bytes ≡ [] ⊎ (w.at + length w.bytes ≤ n)) → length disk ≤ n → length (overlay_all disk (piece_of p some)) ≤ n
piece_within p None n disk ends short = short
piece_within p (Some w) n disk ends short = by_case (nat_le (p.from + p.count) (length w.bytes)) refl
  where
    by_case : (b : Bool) → nat_le (p.from + p.count) (length w.bytes) ≡ b → length (overlay_all disk (if b then record { at = w.at + p.from; bytes = take p.count (drop p.from w.bytes) } ∷ [] else [])) ≤ n
    by_case true e =
        let within : p.from + p.count ≤ length w.bytes = grind (arith, nat_tests) in
        let size = length-take p.count (drop p.from w.bytes) in
        ⊎_elim
        (λ (none : w.bytes ≡ []). rw (ap (λ (bytes : List ℕ). length (overlay disk (w.at + p.from) (take p.count (drop p.from bytes)))) none) (none_left p.count p.from disk (w.at + p.from) n short))
        (λ ends. length-overlay-le disk (w.at + p.from) (take p.count (drop p.from w.bytes)) n short (omega (arith, ends, within, size)))
        (ends w refl)
    by_case false e = short

-- what was kept of a file has no more bytes than it shows, and its writes are the pending ones
pub kept_le : (f : StoredFile) (kept : Option Content) → IsKeptOf f kept → length (kept_content f.content kept).stable ≤ length (shown f)
kept_le f None k = stable_le f.content.stable f.content.pending
kept_le f (Some kept) k = k.0

kept_pending : (f : StoredFile) (kept : Option Content) → IsKeptOf f kept → (kept_content f.content kept).pending ≡ f.content.pending
kept_pending f None k = refl
kept_pending f (Some kept) k = k.1

-- what was kept of a file, with a piece more, is of the file
pub kept_more : (f : StoredFile) (p : Piece) (kept : Option Content) (start new : Content) → IsKeptOf f kept → start ≡ kept_content f.content kept
    → new ≡ record start { stable = overlay_all start.stable (piece_of p (slice_get start.pending p.index)) } → IsKeptOf f (Some new)
kept_more f p kept start new k start_is new_is =
    let pending : start.pending ≡ f.content.pending = ap (λ (c : Content). c.pending) start_is ∙ kept_pending f kept k in
    let short : length start.stable ≤ length (shown f) = rw (ap (λ (c : Content). length c.stable) start_is) (kept_le f kept k) in (
      rw (ap (λ (c : Content). length c.stable) new_is, pending) (piece_within p (slice_get f.content.pending p.index) (length (shown f)) start.stable (ends_within f.content.stable f.content.pending p.index) short),
      ap (λ (c : Content). c.pending) new_is ∙ pending,
    )
