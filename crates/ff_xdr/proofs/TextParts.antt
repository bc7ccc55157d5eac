-- Bytes behind a text: where they stop being one, and whether they may begin the rest of a longer text.
use Rattle.std.proofs.Common.{◌≡◌, ℕ, ◌+◌, ◌-◌, ◌≤◌, Bool, true, false, List, ◌++◌, length, get_or, take, drop, refl, sym, ap, subst, ◌∙◌, arith, inl, inr}
use Rattle.std.specs.Prelude.{nat_lt, nat_le}
use Rattle.std.specs.Str.{is_utf8, IsUtf8, continuation_len}
use Rattle.std.specs.Str.Lossy.{utf8_valid_len}
use Rattle.std.proofs.lemmas.Str.{is_utf8-from_IsUtf8, IsUtf8-from_is_utf8, IsUtf8-append, utf8_valid_len_le}
use Rattle.std.proofs.lemmas.Bool.{ltb-true, lt-ltb, leb-true, le-leb, cases_lt, false≢true}
use Rattle.std.proofs.lemmas.List.{length-take-le, length-append, take_at, drop_at, take-append-drop, get_or-append-add}
use Rattle.std.proofs.Math.Seq.{take-add, drop-append-add}
use Rattle.ff_xdr.specs.Reading.{may_begin_text}
use Rattle.ff_xdr.proofs.Sequences.{valid_front, valid_most, rest_encodes}

same_truth : (a b : Bool) → (a ≡ true → b ≡ true) → (b ≡ true → a ≡ true) → a ≡ b
same_truth true b f g = sym (f refl)
same_truth false true f g = absurd (false≢true (g refl))
same_truth false false f g = refl

pub rest_utf8 : (u rest : List ℕ) → IsUtf8 u → IsUtf8 (u ++ rest) → IsUtf8 rest
rest_utf8 u rest front whole = rest_encodes front.0 whole.0 rest whole.1.0 (ap (λ (t : List ℕ). t ++ rest) front.1.1 ∙ sym whole.1.1)

pub take_behind : (u rest : List ℕ) (k : ℕ) → take (length u + k) (u ++ rest) ≡ u ++ take k rest
take_behind u rest k = rw (take-add (length u) k (u ++ rest), take_at u rest (length u) refl, drop_at u rest (length u) refl) refl

-- behind a text the longest beginning is longer by it
pub valid_len_behind : (u rest : List ℕ) → IsUtf8 u → utf8_valid_len (u ++ rest) ≡ length u + utf8_valid_len rest
valid_len_behind u rest text =
    let a = utf8_valid_len (u ++ rest) in
    let b = utf8_valid_len rest in
    let size = length-append u rest in
    let low : length u + b ≤ a = elim (cases_lt a (length u + b)) [
      | inl less ↦
          let front : IsUtf8 (take (length u + b) (u ++ rest)) = subst IsUtf8 (sym (take_behind u rest b)) (IsUtf8-append u (take b rest) text (valid_front rest)) in
          absurd (valid_most (u ++ rest) (length u + b) less (omega (arith, size, utf8_valid_len_le rest)) front)
      | inr le ↦ le
    ] in
    let high : a ≤ length u + b = elim (cases_lt (length u + b) a) [
      | inl less ↦
          let k = a - length u in
          let sum : a ≡ length u + k = omega (arith, less) in
          let front : IsUtf8 (take (length u + k) (u ++ rest)) = subst (λ (j : ℕ). IsUtf8 (take j (u ++ rest))) sum (valid_front (u ++ rest)) in
          let part : IsUtf8 (take k rest) = rest_utf8 u (take k rest) text (subst IsUtf8 (take_behind u rest k) front) in
          absurd (valid_most rest k (omega (arith, less)) (omega (arith, size, utf8_valid_len_le (u ++ rest))) part)
      | inr le ↦ le
    ] in
    omega (arith, low, high)

lt_behind : (u m n : ℕ) → nat_lt (u + m) (u + n) ≡ nat_lt m n
lt_behind u m n = same_truth _ _ (λ e. lt-ltb m n (omega (arith, ltb-true _ _ e))) (λ e. lt-ltb (u + m) (u + n) (omega (arith, ltb-true _ _ e)))

le_behind : (u m n : ℕ) → nat_le (u + m) (u + n) ≡ nat_le m n
le_behind u m n = same_truth _ _ (λ e. le-leb m n (omega (arith, leb-true _ _ e))) (λ e. le-leb (u + m) (u + n) (omega (arith, leb-true _ _ e)))

-- bytes behind a text may begin the rest of it just where all of them may begin the whole
pub may_begin_behind : (u rest : List ℕ) (n : ℕ) → IsUtf8 u → may_begin_text (length u + n) (u ++ rest) ≡ may_begin_text n rest
unfolding may_begin_text
may_begin_behind u rest n text =
    let b = utf8_valid_len rest in
    let c = continuation_len (get_or rest b 0) in
    let whole : is_utf8 (u ++ rest) ≡ is_utf8 rest = same_truth _ _
    (λ e. is_utf8-from_IsUtf8 rest (rest_utf8 u rest text (IsUtf8-from_is_utf8 _ e)))
    (λ e. is_utf8-from_IsUtf8 (u ++ rest) (IsUtf8-append u rest text (IsUtf8-from_is_utf8 rest e))) in
    let left : drop (length u + b) (u ++ rest) ≡ drop b rest = drop-append-add u rest b in
    let byte : get_or (u ++ rest) (length u + b) 0 ≡ get_or rest b 0 = get_or-append-add u rest b 0 in
    let few : nat_lt (length u + length rest) (length u + n) ≡ nat_lt (length rest) n = lt_behind (length u) (length rest) n in
    let sum : length u + b + 1 + c ≡ length u + (b + 1 + c) = omega arith in
    let room : nat_le (length u + (b + 1 + c)) (length u + n) ≡ nat_le (b + 1 + c) n = le_behind (length u) (b + 1 + c) n in
    rw (whole, valid_len_behind u rest text, left, byte, length-append u rest, few, sum, room) refl

valid_split : (t : List ℕ) → take (utf8_valid_len t) t ++ drop (utf8_valid_len t) t ≡ t
valid_split t = take-append-drop (utf8_valid_len t) t

-- the bytes behind the longest beginning that is a text may begin the rest just where all of them may begin the whole
pub may_begin_rest : (n : ℕ) (t : List ℕ) → utf8_valid_len t ≤ n → may_begin_text (n - utf8_valid_len t) (drop (utf8_valid_len t) t) ≡ may_begin_text n t
may_begin_rest n t le =
    let v = utf8_valid_len t in
    let len : length (take v t) ≡ v = length-take-le v t (utf8_valid_len_le t) in
    let sum : length (take v t) + (n - v) ≡ n = omega (arith, len, le) in
    sym (may_begin_behind (take v t) (drop v t) (n - v) (valid_front t)) ∙ ap (λ (k : ℕ). may_begin_text k (take v t ++ drop v t)) sum ∙ ap (λ (u : List ℕ). may_begin_text n u) (valid_split t)

-- none of them are a text
pub valid_len_rest : (t : List ℕ) → utf8_valid_len (drop (utf8_valid_len t) t) ≡ 0
valid_len_rest t =
    let v = utf8_valid_len t in
    let len : length (take v t) ≡ v = length-take-le v t (utf8_valid_len_le t) in
    let sum : v ≡ length (take v t) + utf8_valid_len (drop v t) = ap utf8_valid_len (sym (valid_split t)) ∙ valid_len_behind (take v t) (drop v t) (valid_front t) in
    omega (arith, sum, len)
