-- Bytes that are read into the front of a piece.
use Rattle.std.proofs.Common.{◌≡◌, ℕ, ◌+◌, ◌-◌, ◌≤◌, List, ◌++◌, length, take, drop, Option, Some, None, Ok, sym, ap, subst, ◌∙◌, arith}
use Rattle.std.proofs.lemmas.List.{places, length-take, length-drop, take-take, take-append-drop, take-append-le, drop-take, drop-drop, drop_at}
use Rattle.std.proofs.lemmas.Slice.{take-put_mid_below}
use borrow.Rule.Slice.PartMut.{put_mid, post_of}
use Rattle.store_disk.specs.Disks.{DiskLife, ReadsBytesAt}
use Rattle.gate_log.specs.Heads.{HasFilled}

pub take_plus : (n m : ℕ) (xs : List ℕ) → take (n + m) xs ≡ take n xs ++ take m (drop n xs)
take_plus n m xs =
    sym (take-append-drop n (take (n + m) xs))
    ∙ ap (λ (ys : List ℕ). ys ++ drop n (take (n + m) xs)) (take-take n (n + m) xs (omega arith))
    ∙ ap (λ (ys : List ℕ). take n xs ++ ys) (drop-take n m xs)

-- a piece whose bytes from a place on are others
module _ (piece new : List ℕ) (done : ℕ) (within : done ≤ length piece) (long : length new ≡ length piece - done) where
  abbrev put : List ℕ
  put = put_mid done (length piece - done) piece new

  put_parts : drop done put ≡ new ++ post_of done (length piece - done) piece
  put_parts = drop_at (take done piece) (new ++ post_of done (length piece - done) piece) done (omega (arith, length-take done piece))

  pub put_length : length put ≡ length piece
  put_length = grind (arith, places)

  front_on : (count at : ℕ) (bytes : List ℕ) → take done piece ≡ take done (drop at bytes) → count ≤ length new → take count new ≡ take count (drop (at + done) bytes)
      → take (done + count) put ≡ take (done + count) (drop at bytes)
  front_on count at bytes filled few found =
      take_plus done count put
      ∙ ap (λ (xs : List ℕ). xs ++ take count (drop done put)) (take-put_mid_below done (length piece - done) piece new done (omega arith) within ∙ filled)
      ∙ ap (λ (xs : List ℕ). take done (drop at bytes) ++ xs)
      (ap (take count) put_parts ∙ take-append-le count new (post_of done (length piece - done) piece) few ∙ found ∙ ap (take count) (sym (drop-drop done at bytes)))
      ∙ sym (take_plus done count (drop at bytes))

  pub filled_on : (told later : Option DiskLife) (count at : ℕ) → later ≡ told → HasFilled told at piece done → count ≤ length new → ReadsBytesAt told (at + done) new (Ok count)
      → HasFilled later at put (done + count)
  filled_on told later count at same filled few reads = subst (λ (o : Option DiskLife). HasFilled o at put (done + count)) (sym same) (here told filled reads)
    where
      here : (o : Option DiskLife) → HasFilled o at piece done → ReadsBytesAt o (at + done) new (Ok count) → HasFilled o at put (done + count)
      here None f r = tt
      here (Some life) f r =
          (front_on count at life.now.seen f.0 few r.same, omega (arith, f.1, r.within, length-drop at life.now.seen, length-drop (at + done) life.now.seen))
