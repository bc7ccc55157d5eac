-- What stands at a gate byte's place.
use Rattle.std.proofs.Common.{◌≡◌, ℕ, ◌+◌, ◌<◌, ◌≤◌, List, [], ◌∷◌, ◌++◌, length, take, drop, refl, sym, ap, subst, ◌∙◌, arith, eqb, inl, inr}
use Rattle.std.specs.Int.{w32, from_be_bytes}
use Rattle.std.proofs.lemmas.Bool.{cases_lt, cases_Bool, lt-ltb, le-ltb, eqb-true, eqb-false, ne_eqb}
use Rattle.std.proofs.lemmas.List.{append_assoc, length-append, length-take-le, take-append-drop, take-take, take_at, drop_at}
use Rattle.rpc_record.specs.Calls.{word_of}
use Rattle.gate_log.specs.Logs.{Closed, Broken, Opens, record_behind, gate_of}

-- ---- behind a gate byte 1

pub behind_few : (bytes : List ℕ) → length bytes < 4 → record_behind bytes ≡ Broken
behind_few bytes h = let few = lt-ltb (length bytes) 4 h in rw few refl

pub behind_short : (bytes : List ℕ) → 4 ≤ length bytes → length (drop 4 bytes) < word_of bytes 0 → record_behind bytes ≡ Broken
behind_short bytes four h =
    let many = le-ltb (length bytes) 4 four in let short = lt-ltb (length (drop 4 bytes)) (word_of bytes 0) h in
    rw (many, short) refl

pub behind_whole : (bytes : List ℕ) → 4 ≤ length bytes → word_of bytes 0 ≤ length (drop 4 bytes)
    → record_behind bytes ≡ Opens (take (word_of bytes 0) (drop 4 bytes)) (drop (word_of bytes 0) (drop 4 bytes))
behind_whole bytes four h =
    let many = le-ltb (length bytes) 4 four in let whole = le-ltb (length (drop 4 bytes)) (word_of bytes 0) h in
    rw (many, whole) refl

behind_never_closed : (bytes : List ℕ) → record_behind bytes ≡ Closed → ⊥
behind_never_closed bytes e = elim (cases_lt (length bytes) 4) [
  | inl few ↦ let b = behind_few bytes few in cc (b, e)
  | inr four ↦ elim (cases_lt (length (drop 4 bytes)) (word_of bytes 0)) [
    | inl short ↦ let b = behind_short bytes four short in cc (b, e)
    | inr whole ↦ let b = behind_whole bytes four whole in cc (b, e)
  ]
]

-- ---- records

-- bytes are a gate byte 1, the four bytes of a length, so many bytes of a body, and the rest
pub record IsRecord (bytes body rest : List ℕ) : Type 0 where
  pub head : List ℕ
  pub is : bytes ≡ 1 ∷ head ++ (body ++ rest)
  pub four : length head ≡ 4
  pub counts : word_of head 0 ≡ length body

pub word_front : (bytes : List ℕ) → word_of (take 4 bytes) 0 ≡ word_of bytes 0
unfolding word_of
word_front bytes = ap (from_be_bytes w32) (take-take 4 4 bytes (omega arith))

pub word_before : (head rest : List ℕ) → length head ≡ 4 → word_of (head ++ rest) 0 ≡ word_of head 0
word_before head rest four = sym (word_front (head ++ rest)) ∙ ap (λ (xs : List ℕ). word_of xs 0) (take_at head rest 4 four)

whole_record : (bytes body rest : List ℕ) → 4 ≤ length bytes → word_of bytes 0 ≤ length (drop 4 bytes) → take (word_of bytes 0) (drop 4 bytes) ≡ body → drop (word_of bytes 0) (drop 4 bytes) ≡ rest
    → IsRecord (1 ∷ bytes) body rest
whole_record bytes body rest four whole body-is rest-is =
    let parts : body ++ rest ≡ drop 4 bytes = rw (← body-is, ← rest-is) (take-append-drop (word_of bytes 0) (drop 4 bytes)) in
    record {
      head = take 4 bytes;
      is = ap (λ (xs : List ℕ). 1 ∷ xs) (sym (take-append-drop 4 bytes) ∙ ap (λ (xs : List ℕ). take 4 bytes ++ xs) (sym parts));
      four = length-take-le 4 bytes four;
      counts = word_front bytes ∙ sym (length-take-le (word_of bytes 0) (drop 4 bytes) whole) ∙ ap length body-is;
    }

behind_record : (bytes body rest : List ℕ) → record_behind bytes ≡ Opens body rest → IsRecord (1 ∷ bytes) body rest
behind_record bytes body rest e = elim (cases_lt (length bytes) 4) [
  | inl few ↦ let b = behind_few bytes few in absurd (cc (b, e))
  | inr four ↦ elim (cases_lt (length (drop 4 bytes)) (word_of bytes 0)) [
    | inl short ↦ let b = behind_short bytes four short in absurd (cc (b, e))
    | inr whole ↦ let b = behind_whole bytes four whole in whole_record bytes body rest four whole (cc (b, e)) (cc (b, e))
  ]
]

pub gate_one : (byte : ℕ) (bytes : List ℕ) → byte ≡ 1 → gate_of (byte ∷ bytes) ≡ record_behind bytes
gate_one byte bytes e = ap (λ (b : ℕ). gate_of (b ∷ bytes)) e

pub gate_other : (byte : ℕ) (bytes : List ℕ) → (byte ≡ 1 → ⊥) → gate_of (byte ∷ bytes) ≡ Closed
gate_other byte bytes e = let other = ne_eqb byte 1 e in rw other refl

-- what stands where a record was found
pub gate_record : (bytes body rest : List ℕ) → gate_of bytes ≡ Opens body rest → IsRecord bytes body rest
gate_record [] body rest e = absurd (cc)
gate_record (byte ∷ bytes) body rest e = elim (cases_Bool (eqb byte 1)) [
  | inl one ↦
      let is : byte ≡ 1 = eqb-true byte 1 one in
      subst (λ (b : ℕ). IsRecord (b ∷ bytes) body rest) (sym is) (behind_record bytes body rest (sym (gate_one byte bytes is) ∙ e))
  | inr other ↦ let closed = gate_other byte bytes (eqb-false byte 1 other) in absurd (cc (closed, e))
]

-- a record is found where it stands
pub record_gate : (bytes body rest : List ℕ) → IsRecord bytes body rest → gate_of bytes ≡ Opens body rest
record_gate bytes body rest r =
    let xs : List ℕ = r.head ++ (body ++ rest) in
    let behind : drop 4 xs ≡ body ++ rest = drop_at r.head (body ++ rest) 4 r.four in
    let count : word_of xs 0 ≡ length body = word_before r.head (body ++ rest) r.four ∙ r.counts in
    let many : 4 ≤ length xs = omega (arith, r.four, length-append r.head (body ++ rest)) in
    let room : word_of xs 0 ≤ length (drop 4 xs) = rw (behind, count) (omega (arith, length-append body rest)) in
    let front : take (word_of xs 0) (drop 4 xs) ≡ body = rw (behind, count) (take_at body rest (length body) refl) in
    let end : drop (word_of xs 0) (drop 4 xs) ≡ rest = rw (behind, count) (drop_at body rest (length body) refl) in
    ap gate_of r.is ∙ behind_whole xs many room ∙ ap (λ (ys : List ℕ). Opens ys (drop (word_of xs 0) (drop 4 xs))) front ∙ ap (Opens body) end

pub record_length : (bytes body rest : List ℕ) → IsRecord bytes body rest → length bytes ≡ 5 + length body + length rest
record_length bytes body rest r =
    ap length r.is ∙ omega (arith, r.four, length-append r.head (body ++ rest), length-append body rest)

-- the same with the front and the rest apart
record_parts : (bytes body rest : List ℕ) (r : IsRecord bytes body rest) → bytes ≡ (1 ∷ r.head ++ body) ++ rest
record_parts bytes body rest r = r.is ∙ ap (λ (xs : List ℕ). 1 ∷ xs) (sym (append_assoc r.head body rest))

front_length : (bytes body rest : List ℕ) (r : IsRecord bytes body rest) → length (1 ∷ r.head ++ body) ≡ 5 + length body
front_length bytes body rest r = omega (arith, r.four, length-append r.head body)

pub record_rest : (bytes body rest : List ℕ) → IsRecord bytes body rest → drop (5 + length body) bytes ≡ rest
record_rest bytes body rest r =
    ap (drop (5 + length body)) (record_parts bytes body rest r) ∙ drop_at (1 ∷ r.head ++ body) rest (5 + length body) (front_length bytes body rest r)

-- other bytes with the same front have the same record
pub record_again : (bytes body rest others : List ℕ) → IsRecord bytes body rest → take (5 + length body) others ≡ take (5 + length body) bytes → IsRecord others body (drop (5 + length body) others)
record_again bytes body rest others r same =
    let n : ℕ = 5 + length body in
    let front : take n others ≡ 1 ∷ r.head ++ body =
    same ∙ ap (take n) (record_parts bytes body rest r) ∙ take_at (1 ∷ r.head ++ body) rest n (front_length bytes body rest r) in
    let whole : others ≡ 1 ∷ r.head ++ (body ++ drop n others) =
    sym (take-append-drop n others) ∙ ap (λ (xs : List ℕ). xs ++ drop n others) front ∙ ap (λ (xs : List ℕ). 1 ∷ xs) (append_assoc r.head body (drop n others)) in
    record { head = r.head; is = whole; four = r.four; counts = r.counts }

-- ---- a closed gate

-- it is by its byte alone
pub closed_again : (bytes others : List ℕ) → gate_of bytes ≡ Closed → take 1 others ≡ take 1 bytes → gate_of others ≡ Closed
closed_again [] others closed same = absurd (cc (closed))
closed_again (byte ∷ bytes) [] closed same = absurd (cc (same))
closed_again (byte ∷ bytes) (other ∷ others) closed same =
    let is : other ≡ byte = cc (same) in
    gate_other other others (λ one. behind_never_closed bytes (sym (gate_one byte bytes (sym is ∙ one)) ∙ closed))

pub closed_some : (bytes : List ℕ) → gate_of bytes ≡ Closed → 0 < length bytes
closed_some [] closed = absurd (cc (closed))
closed_some (byte ∷ bytes) closed = omega arith
