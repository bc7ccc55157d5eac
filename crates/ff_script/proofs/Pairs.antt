-- What digits in pairs spell, place by place.
use Rattle.std.proofs.Common.{◌≡◌, ◌≢◌, ℕ, zero, suc, ◌+◌, ◌*◌, ◌%◌, ◌<◌, true, List, [], ◌∷◌, length, get_or, Option, Some, None, is_some, unwrap_or, Ok, refl, sym, ap, ◌∙◌, arith}
use Rattle.std.specs.List.{list_all}
use Rattle.std.specs.Result.{result_unwrap_or}
use Rattle.std.proofs.lemmas.Bool.{and_parts}
use Rattle.hex.specs.Hex.{hex_digit_value, decode_pairs}
use Rattle.hex.proofs.HexLemmas.{decode_of-even}
use Rattle.ff_script.specs.Digits.{is_digit, bytes_of_pairs, one_byte}
use Rattle.ff_script.proofs.Spelling.{hex_from_digit}

abbrev pub value : ℕ → ℕ
value c = unwrap_or (hex_digit_value c) 0

abbrev pub pairs : List ℕ → List ℕ
pairs [] = []
pairs (a ∷ []) = []
pairs (a ∷ b ∷ rest) = (value a * 16 + value b) ∷ pairs rest

some_value : (o : Option ℕ) → is_some o ≡ true → o ≡ Some (unwrap_or o 0)
some_value None h = cc
some_value (Some n) h = refl

digit_is : (c : ℕ) → is_digit c ≡ true → hex_digit_value c ≡ Some (value c)
digit_is c h = some_value (hex_digit_value c) (hex_from_digit c h)

decoded_pairs : (i : ℕ) (s : List ℕ) → length s % 2 ≡ 0 → list_all is_digit s ≡ true → decode_pairs i s ≡ Ok (pairs s)
unfolding decode_pairs
decoded_pairs i [] even h = refl
decoded_pairs i (a ∷ []) even h = absurd (omega arith)
decoded_pairs i (a ∷ b ∷ rest) even h =
    let one = and_parts (is_digit a) (list_all is_digit (b ∷ rest)) h in
    let two = and_parts (is_digit b) (list_all is_digit rest) one.1 in
    let ih = decoded_pairs (i + 2) rest (omega arith) two.1 in
    rw (digit_is a one.0, digit_is b two.0, ih) refl

pub pairs_are : (s : List ℕ) → length s % 2 ≡ 0 → list_all is_digit s ≡ true → bytes_of_pairs s ≡ pairs s
pairs_are s even h = ap (λ r. result_unwrap_or r []) (decode_of-even s even ∙ decoded_pairs 0 s even h)

pub pair_at : (s : List ℕ) (j : ℕ) → 2 * j + 1 < length s → get_or (pairs s) j 0 ≡ value (get_or s (2 * j) 0) * 16 + value (get_or s (2 * j + 1) 0)
pair_at [] j h = absurd (omega arith)
pair_at (a ∷ []) j h = absurd (omega arith)
pair_at (a ∷ b ∷ rest) zero h = refl
pair_at (a ∷ b ∷ rest) (suc j) h =
    let first : 2 * suc j ≡ suc (suc (2 * j)) = omega arith in
    let second : 2 * suc j + 1 ≡ suc (suc (2 * j + 1)) = omega arith in
    let all = a ∷ b ∷ rest in
    let high : value (get_or all (2 * suc j) 0) ≡ value (get_or rest (2 * j) 0) = ap (λ k. value (get_or all k 0)) first in
    let low : value (get_or all (2 * suc j + 1) 0) ≡ value (get_or rest (2 * j + 1) 0) = ap (λ k. value (get_or all k 0)) second in
    pair_at rest j (omega arith) ∙ sym (ap (λ v. v * 16 + value (get_or all (2 * suc j + 1) 0)) high ∙ ap (λ v. value (get_or rest (2 * j) 0) * 16 + v) low)

-- ---- one byte

pub not_one : (bytes : List ℕ) → length bytes ≢ 1 → one_byte bytes ≡ None
not_one [] h = refl
not_one (b ∷ []) h = absurd (h refl)
not_one (b ∷ c ∷ bytes) h = refl

pub one_pair : (s : List ℕ) → length s ≡ 2 → one_byte (pairs s) ≡ Some (value (get_or s 0 0) * 16 + value (get_or s 1 0))
one_pair [] h = absurd (omega arith)
one_pair (a ∷ []) h = absurd (omega arith)
one_pair (a ∷ b ∷ []) h = refl
one_pair (a ∷ b ∷ c ∷ s) h = absurd (omega arith)

pub value_is : (c n : ℕ) → hex_digit_value c ≡ Some n → value c ≡ n
value_is c n h = ap (λ o. unwrap_or o 0) h
