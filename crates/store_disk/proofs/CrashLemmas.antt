-- What a crash leaves of a disk in memory, call by call.
use Rattle.std.proofs.Common.{◌≡◌, ℕ, ◌/◌, ◌≤◌, List, [], ◌∷◌, ◌++◌, length, take, drop, refl, sym, ap, subst, ◌∙◌, arith, inr}
use Rattle.std.proofs.lemmas.Grind.{fold-append}
use Rattle.std.proofs.lemmas.List.{length-take, length-replicate}
use Rattle.cluster_model.specs.Content.{overlay}
use Rattle.cluster_model.proofs.Placing.{take-drop-overlay}
use Rattle.store_disk.specs.Disks.{DiskLife, Torn, TornLength, IsImage, new_life}
use Rattle.store_disk.specs.MemoryDisks.{after_call, life_after}
use Rattle.store_disk.specs.Crashes.{left_by, torn_piece, torn_cut, seen_behind, left_behind, Tracks}
use Rattle.store_disk.specs.declared.crash.Tear.{Tear}
use Rattle.store_disk.specs.declared.crash.Tear.TheVariants.{AsBefore, AsWritten, FirstHalf, AllOnes}
use Rattle.store_disk.specs.declared.recorded.Recorded.{Recorded}
use Rattle.store_disk.specs.declared.recorded.Recorded.TheVariants as call
use Rattle.store_disk.proofs.Placed.{torn_within, cut_whole, cut_none}

short_piece : (tear : Tear) (count : ℕ) (piece : List ℕ) → length piece ≤ count → length (torn_piece tear count piece) ≤ count
short_piece AsBefore count piece h = omega arith
short_piece AsWritten count piece h = h
short_piece FirstHalf count piece h = omega (arith, h, length-take (count / 2) piece)
short_piece AllOnes count piece h = omega (arith, length-replicate {A = ℕ} count 255)

-- a crash may make that of a write, and of a cut
tears_write : (tear : Tear) (at count : ℕ) (left piece : List ℕ) → length piece ≤ count → Torn at count left (overlay left at (torn_piece tear count piece))
tears_write tear at count left piece h = torn_within left at (torn_piece tear count piece) count (short_piece tear count piece h)

tears_cut : (tear : Tear) (to : ℕ) (left : List ℕ) → TornLength to left (torn_cut tear left to)
tears_cut AsBefore to left = cut_none left to
tears_cut AsWritten to left = cut_whole left to
tears_cut FirstHalf to left = cut_whole left to
tears_cut AllOnes to left = cut_whole left to

pub tracks_first : (tear : Tear) (start : List ℕ) → Tracks tear (new_life start) start start
tracks_first tear start = record { seen_is = refl; left_is = refl; is_left = refl }

tracks_on : (tear : Tear) (life : DiskLife) (seen left : List ℕ) (c : Recorded) → Tracks tear life seen left → Tracks tear (after_call life c) (seen_behind c seen) (left_behind tear c seen left)
tracks_on tear life seen left (call.Wrote at piece) t = record {
  seen_is = ap (λ (xs : List ℕ). overlay xs at piece) t.seen_is;
  left_is =
      ap (λ (xs : List ℕ). overlay xs at (torn_piece tear (length piece) piece)) t.left_is
      ∙ ap (λ (xs : List ℕ). overlay (left_by tear (life.now ∷ life.past)) at (torn_piece tear (length piece) xs)) (sym (take-drop-overlay life.now.seen at piece));
  is_left = (left, t.is_left, tears_write tear at (length piece) left piece (omega arith));
}
tracks_on tear life seen left (call.LostWrite at count) t = record {
  seen_is = t.seen_is;
  left_is =
      ap (λ (xs : List ℕ). overlay xs at (torn_piece tear count (take count (drop at seen)))) t.left_is
      ∙ ap (λ (xs : List ℕ). overlay (left_by tear (life.now ∷ life.past)) at (torn_piece tear count (take count (drop at xs)))) t.seen_is;
  is_left = (left, t.is_left, tears_write tear at count left (take count (drop at seen)) (omega (arith, length-take count (drop at seen))));
}
tracks_on tear life seen left (call.Cut to) t = record {
  seen_is = ap (λ (xs : List ℕ). torn_cut AsWritten xs to) t.seen_is;
  left_is = ap (λ (xs : List ℕ). torn_cut tear xs to) t.left_is;
  is_left = (left, t.is_left, tears_cut tear to left);
}
tracks_on tear life seen left (call.LostCut to) t = record {
  seen_is = t.seen_is;
  left_is = ap (λ (xs : List ℕ). torn_cut tear xs to) t.left_is;
  is_left = (left, t.is_left, tears_cut tear to left);
}
tracks_on tear life seen left call.Synced t = record { seen_is = t.seen_is; left_is = t.seen_is; is_left = t.seen_is }

life_push : (start : List ℕ) (calls : List Recorded) (c : Recorded) → life_after start (calls ++ c ∷ []) ≡ after_call (life_after start calls) c
life_push start calls c = fold-append after_call (new_life start) calls (c ∷ [])

-- one call more
pub tracks_more : (tear : Tear) (start : List ℕ) (calls more : List Recorded) (c : Recorded) (seen left seen' left' : List ℕ) → more ≡ calls ++ c ∷ [] → seen' ≡ seen_behind c seen → left' ≡ left_behind tear c seen left
    → Tracks tear (life_after start calls) seen left → Tracks tear (life_after start more) seen' left'
tracks_more tear start calls more c seen left seen' left' is seen-is left-is t =
    rw (is, seen-is, left-is) (subst (λ (life : DiskLife). Tracks tear life (seen_behind c seen) (left_behind tear c seen left)) (sym (life_push start calls c)) (tracks_on tear (life_after start calls) seen left c t))

pub tracks_image : (tear : Tear) (life : DiskLife) (seen left : List ℕ) → Tracks tear life seen left → IsImage life.now left
tracks_image tear life seen left t = inr t.is_left
