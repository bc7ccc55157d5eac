-- What a put writes and a get reads, told by bytes and answers.
use Rattle.std.proofs.Common.{◌≡◌, ℕ, zero, suc, ◌+◌, ◌-◌, ◌*◌, ◌/◌, ◌<◌, ◌≤◌, List, [], ◌∷◌, ◌++◌, length, map, take, drop, refl, sym, ap, subst, ◌∙◌, arith, append_assoc, append-nil, lit<, lit≤}
use Rattle.std.proofs.Math.Nat.{lt-div-mul-add, div-mul-le_self}
use Rattle.std.specs.List.{range_with_len}
use Rattle.std.proofs.lemmas.List.{length-drop, length-take-le, take-append-drop, take_all, drop-drop, drop_all}
use Rattle.cluster_model.specs.declared.limits.TheConstants.{PIECE_SIZE}
use Rattle.client_state.specs.declared.request.UserRequest.{UserRequest}
use Rattle.client_state.specs.declared.request.UserRequest.TheVariants.{Write, Commit, Return}
use Rattle.user_nodes.specs.Puts.{writes_of, put_requests}
use Rattle.user_nodes.specs.Copies.{request_bytes, bytes_written, WritesOn}

-- ---- bytes of requests

bytes_join : (requests more : List UserRequest) → bytes_written (requests ++ more) ≡ bytes_written requests ++ bytes_written more
bytes_join [] more = refl
bytes_join (r ∷ requests) more = ap (λ (l : List ℕ). request_bytes r ++ l) (bytes_join requests more) ∙ sym (append_assoc (request_bytes r) (bytes_written requests) (bytes_written more))

-- ---- pieces of any size

module _ (k : ℕ) (some : 0 < k) (few : k ≤ PIECE_SIZE) (bytes : List ℕ) where
  abbrev piece_from : ℕ → List ℕ
  piece_from i = take k (drop (i * k) bytes)

  abbrev write_from : ℕ → UserRequest
  write_from i = Write (i * k) (piece_from i)

  abbrev writes_from : ℕ → ℕ → List UserRequest
  writes_from i n = map write_from (range_with_len i n)

  -- what is behind a piece
  behind_piece : (i : ℕ) → drop k (drop (i * k) bytes) ≡ drop ((i + 1) * k) bytes
  behind_piece i = let next : i * k + k ≡ (i + 1) * k = omega arith in drop-drop k (i * k) bytes ∙ ap (λ m. drop m bytes) next

  -- from this piece on, all that is left is written
  all_written : (i n : ℕ) → length bytes ≤ (i + n) * k → bytes_written (writes_from i n) ≡ drop (i * k) bytes
  all_written i zero most = let end : length bytes ≤ i * k = omega (arith, most) in sym (drop_all (i * k) bytes end)
  all_written i (suc n) most =
      let more : length bytes ≤ (i + 1 + n) * k = omega (arith, most) in
      ap (λ (l : List ℕ). piece_from i ++ l) (all_written (i + 1) n more ∙ sym (behind_piece i)) ∙ take-append-drop k (drop (i * k) bytes)

  -- each piece goes where the one before it ended
  in_order : (i n : ℕ) (behind : List UserRequest) → (i + n) * k < length bytes + k → ((at : ℕ) → WritesOn at behind) → (length bytes ≤ (i + n) * k) → WritesOn (i * k) (writes_from i n ++ behind)
  in_order i zero behind least rest most = rest (i * k)
  in_order i (suc zero) behind least rest most =
      let left : length (drop (i * k) bytes) ≡ length bytes - i * k = length-drop (i * k) bytes in
      let size : length (piece_from i) ≡ length bytes - i * k = ap length (take_all k (drop (i * k) bytes) (omega (arith, left, most))) ∙ left in
      (refl, omega (arith, size, least), omega (arith, size, most, few), rest (i * k + length (piece_from i)))
  in_order i (suc (suc n)) behind least rest most =
      let left : length (drop (i * k) bytes) ≡ length bytes - i * k = length-drop (i * k) bytes in
      let size : length (piece_from i) ≡ k = length-take-le k (drop (i * k) bytes) (omega (arith, left, least)) in
      let next : i * k + length (piece_from i) ≡ (i + 1) * k = omega (arith, size) in
      (refl, omega (arith, size, some), omega (arith, size, few), subst (λ (at : ℕ). WritesOn at (writes_from (i + 1) (suc n) ++ behind)) (sym next) (in_order (i + 1) (suc n) behind (omega (arith, least)) rest (omega (arith, most))))

-- ---- the requests of a put

module _ (bytes : List ℕ) where
  abbrev pieces : ℕ
  pieces = (length bytes + (PIECE_SIZE - 1)) / PIECE_SIZE

  enough : length bytes ≤ (0 + pieces) * PIECE_SIZE
  enough = omega (arith, lt-div-mul-add {a = length bytes + (PIECE_SIZE - 1)} {b = PIECE_SIZE} (lit< tt))

  none_too_many : (0 + pieces) * PIECE_SIZE < length bytes + PIECE_SIZE
  none_too_many = omega (arith, div-mul-le_self (length bytes + (PIECE_SIZE - 1)) PIECE_SIZE)

  pub put_writes : (name : List ℕ) → bytes_written (put_requests name bytes) ≡ bytes
  put_writes name = bytes_join (writes_of bytes) (Commit ∷ Return ∷ []) ∙ append-nil (bytes_written (writes_of bytes)) ∙ all_written PIECE_SIZE (lit< tt) (lit≤ tt) bytes 0 pieces enough

  pub put_places : (name : List ℕ) → WritesOn 0 (put_requests name bytes)
  put_places name = in_order PIECE_SIZE (lit< tt) (lit≤ tt) bytes 0 pieces (Commit ∷ Return ∷ []) none_too_many (λ at. tt) enough
