-- Elements of a list from which one was taken out.
use Rattle.std.proofs.Common.{◌≡◌, ℕ, ◌+◌, ◌<◌, ◌≤◌, List, length, Some, refl, sym, ◌∙◌, arith}
use Rattle.std.specs.Prelude.{slice_get, remove}
use Rattle.std.proofs.lemmas.List.Edits.{length-remove, get_or-remove_below, get_or-remove_above}
use Rattle.std.proofs.lemmas.Option.{slice_get_read, slice_get_within, get_or_from_slice_get}

module _ {X : Type 0} (xs : List X) (i k : ℕ) (x : X) (within : i < length xs) where
  -- what stood before it stands where it stood
  pub stays_before : k < i → slice_get xs k ≡ Some x → slice_get (remove xs i) k ≡ Some x
  stays_before before there =
      let long = length-remove xs i within in
      slice_get_read (remove xs i) (length (remove xs i)) k x refl (omega (arith, long, before, within)) (sym (get_or-remove_below xs i x k before within ∙ get_or_from_slice_get xs k x x there))

  -- what stood behind it has moved down by one
  pub moves_down : i ≤ k → slice_get xs (k + 1) ≡ Some x → slice_get (remove xs i) k ≡ Some x
  moves_down behind there =
      let long = length-remove xs i within in
      let low = slice_get_within xs (k + 1) x there in
      slice_get_read (remove xs i) (length (remove xs i)) k x refl (omega (arith, long, low)) (sym (get_or-remove_above xs i x k behind within ∙ get_or_from_slice_get xs (k + 1) x x there))

  -- and back
  pub stood_before : k < i → slice_get (remove xs i) k ≡ Some x → slice_get xs k ≡ Some x
  stood_before before there =
      slice_get_read xs (length xs) k x refl (omega (arith, before, within)) (sym (sym (get_or-remove_below xs i x k before within) ∙ get_or_from_slice_get (remove xs i) k x x there))

  pub stood_behind : i ≤ k → slice_get (remove xs i) k ≡ Some x → slice_get xs (k + 1) ≡ Some x
  stood_behind behind there =
      let long = length-remove xs i within in
      let low = slice_get_within (remove xs i) k x there in
      slice_get_read xs (length xs) (k + 1) x refl (omega (arith, long, low)) (sym (sym (get_or-remove_above xs i x k behind within) ∙ get_or_from_slice_get (remove xs i) k x x there))
