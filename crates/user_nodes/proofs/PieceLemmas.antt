-- How a piece fills, read by read.
use Rattle.std.proofs.Common.{◌≡◌, ℕ, ◌+◌, ◌<◌, ◌≤◌, List, ◌++◌, length, take, drop, Option, Some, None, Ok, refl, sym, ap, subst, ◌∙◌, arith}
use Rattle.std.proofs.Math.Seq.{take-append-add}
use Rattle.std.proofs.lemmas.List.{take-append-drop, take-take, take_all, drop-take, drop-drop, drop_all, length-take-le, length-drop, take-append-le}
use borrow.Rule.Slice.PartMut.{put_mid}
use Rattle.rpc_record.specs.Stream.{Reads}
use Rattle.user_nodes.specs.Puts.{ReadsPiece}

-- so many bytes of the piece are the first that were to be read, and those behind them are left
abbrev pub HasFilled : Option (List ℕ) → List ℕ → ℕ → Option (List ℕ) → Type 0
HasFilled None piece n left = left ≡ None
HasFilled (Some bytes) piece n left = (n ≤ length bytes) × (take n piece ≡ take n bytes) × (left ≡ Some (drop n bytes))

take_parts : (n m : ℕ) (xs : List ℕ) → take (n + m) xs ≡ take n xs ++ take m (drop n xs)
take_parts n m xs =
    sym (take-append-drop n (take (n + m) xs)) ∙ ap (λ l. l ++ drop n (take (n + m) xs)) (take-take n (n + m) xs (omega arith)) ∙ ap (λ l. take n xs ++ l) (drop-take n m xs)

-- what a read put behind the front of a piece
put_front : (n k count : ℕ) (piece sub : List ℕ) → n ≤ length piece → count ≤ length sub → take (n + count) (put_mid n k piece sub) ≡ take n piece ++ take count sub
put_front n k count piece sub within few =
    ap (λ m. take (m + count) (put_mid n k piece sub)) (sym (length-take-le n piece within)) ∙ take-append-add (take n piece) (sub ++ drop k (drop n piece)) count
    ∙ ap (λ l. take n piece ++ l) (take-append-le count sub (drop k (drop n piece)) few)

pub fills_more : (unread : Option (List ℕ)) (piece sub : List ℕ) (n k count : ℕ) (left left' : Option (List ℕ)) → n ≤ length piece → count ≤ length sub → HasFilled unread piece n left → Reads left sub (Ok count) left'
    → HasFilled unread (put_mid n k piece sub) (n + count) left'
fills_more None piece sub n k count left left' within few filled reads = subst (λ (l : Option (List ℕ)). Reads l sub (Ok count) left') filled reads
fills_more (Some bytes) piece sub n k count left left' within few filled reads =
    let read = subst (λ (l : Option (List ℕ)). Reads l sub (Ok count) left') filled.2 reads in (
      omega (arith, filled.0, read.within, length-drop n bytes),
      put_front n k count piece sub within few ∙ ap (λ l. l ++ take count sub) filled.1 ∙ ap (λ l. take n bytes ++ l) read.same ∙ sym (take_parts n count bytes),
      read.rest ∙ ap Some (drop-drop count n bytes),
    )

-- the bytes end before the piece is full
pub filled_to_end : (unread : Option (List ℕ)) (piece sub piece' : List ℕ) (n : ℕ) (left left' : Option (List ℕ)) → 0 < length sub → length piece' ≡ length piece → n ≤ length piece → take n piece' ≡ take n piece → HasFilled unread piece n left
    → Reads left sub (Ok 0) left' → ReadsPiece unread piece' (Ok n) left'
filled_to_end None piece sub piece' n left left' some long within same filled reads = subst (λ (l : Option (List ℕ)). Reads l sub (Ok 0) left') filled reads
filled_to_end (Some bytes) piece sub piece' n left left' some long within same filled reads =
    let read = subst (λ (l : Option (List ℕ)). Reads l sub (Ok 0) left') filled.2 reads in
    let short : length bytes ≤ n = omega (arith, ap length (read.at_end refl some), length-drop n bytes) in (
      same ∙ filled.1 ∙ take_all n bytes short ∙ sym (take_all (length piece') bytes (omega arith)),
      read.rest ∙ ap Some (drop_all n bytes short ∙ sym (drop_all (length piece') bytes (omega arith))),
    )
