-- Numbers, bytes and machines are read again from their words.
use Rattle.std.proofs.Common.{◌≡◌, ℕ, zero, suc, ◌+◌, ◌-◌, ◌*◌, ◌/◌, ◌%◌, ◌^◌, ◌<◌, ◌≤◌, ◌&&◌, ◌==◌, slice_index, cond, true, false, List, [], ◌∷◌, ◌++◌, get_or, length, codes, Some, None, refl, ap, ◌∙◌, arith}
use Rattle.std.specs.Prelude.{decimal}
use Rattle.std.specs.List.{list_all}
use Rattle.std.specs.Option.{option_map}
use Rattle.std.specs.Str.{bytes_eq}
use Rattle.std.specs.Result.{result_unwrap_or}
use Rattle.std.proofs.lemmas.Bool.{and_parts, le-leb, cond-true}
use Rattle.std.proofs.lemmas.Slice.Eq.{bytes_eq-Decides}
use Rattle.std.proofs.lemmas.Fmt.{decimal_by_steps, length-decimal-le}
use Rattle.hex.specs.Hex.{IsBytes, encode_with, encode_lower, lower_digits}
use Rattle.hex.proofs.HexLemmas.{decode_of-encode_lower}
use Rattle.cluster_model.specs.declared.ids.NodeId.TheVariants.{Server, Client}
use Rattle.cluster_model.specs.Print.{node_text}
use Rattle.ff_script.specs.Pieces.{◌>>=◌, decimal_value, decimal_at}
use Rattle.ff_script.proofs.PieceLemmas.{number_fits}
use Rattle.ff_script.specs.Digits.{is_digit, bytes_of_pairs, one_byte}
use Rattle.ff_script.proofs.Spelling.{bytes_of_digits-pairs}
use Rattle.cluster_script.specs.ScriptWords.{first_of, within, number_within, byte_at, server_at, client_at, node_at}
use Rattle.script_gen.specs.ScriptLaw.{generated_sizes}

-- ---- numbers

value_append : (n : ℕ) (ds : List ℕ) (d : ℕ) → decimal_value n (ds ++ d ∷ []) ≡ decimal_value n ds * 10 + (d - 48)
value_append n [] d = refl
value_append n (c ∷ cs) d = value_append (n * 10 + (c - 48)) cs d

value_one : (n : ℕ) → n < 10 → decimal_value 0 ((48 + n) ∷ []) ≡ n
value_one n small = omega arith

value_more : (n : ℕ) (ds : List ℕ) → 10 ≤ n → decimal_value 0 ds ≡ n / 10 → decimal_value 0 (ds ++ (48 + n % 10) ∷ []) ≡ n
value_more n ds big before =
    let last : (48 + n % 10) - 48 ≡ n % 10 = omega arith in
    value_append 0 ds (48 + n % 10) ∙ (λ i. before i * 10 + last i) ∙ omega arith

value_again : (n : ℕ) → n < 2 ^ 64 → decimal_value 0 (decimal n) ≡ n
value_again = decimal_by_steps (λ n ds. decimal_value 0 ds ≡ n) value_one value_more

pub number_again : (n : ℕ) → n < 2 ^ 32 → decimal_at (decimal n) ≡ Some n
number_again n small =
    let value : decimal_value 0 (decimal n) ≡ n = value_again n (omega (arith, small)) in
    let same : bytes_eq (decimal n) (decimal n) ≡ true = (bytes_eq-Decides (decimal n) (decimal n)).1 refl in
    number_fits (decimal n) (length-decimal-le 10 n (omega arith) (omega (arith, small)) (omega (arith, small))) (omega (arith, value, small))
    ∙ (λ i. cond (bytes_eq (decimal (value i)) (decimal n)) (Some (value i)) None)
    ∙ cond-true (bytes_eq (decimal n) (decimal n)) (Some n) None same

pub within_again : (low high n : ℕ) → low ≤ n → n ≤ high → within low high n ≡ Some n
within_again low high n least most = rw (le-leb low n least, le-leb n high most) refl

pub within_number : (low high n : ℕ) → n < 2 ^ 32 → low ≤ n → n ≤ high → number_within low high (decimal n) ≡ Some n
within_number low high n small least most = ap (λ o. o >>= within low high) (number_again n small) ∙ within_again low high n least most

-- ---- machines

pub client_again : (n : ℕ) → 1 ≤ n → n ≤ 4 → client_at generated_sizes (node_text (Client n)) ≡ Some n
client_again n least most = within_number 1 4 n (omega (arith, most)) least most

pub server_again : (n : ℕ) → 1 ≤ n → n ≤ 4 → server_at generated_sizes (node_text (Server n)) ≡ Some n
server_again n least most = within_number 1 4 n (omega (arith, most)) least most

pub server_node : (n : ℕ) → 1 ≤ n → n ≤ 4 → node_at generated_sizes (node_text (Server n)) ≡ Some (Server n)
server_node n least most = λ i. first_of (option_map Server (server_again n least most i)) (option_map Client (client_at generated_sizes (node_text (Server n))))

pub client_node : (n : ℕ) → 1 ≤ n → n ≤ 4 → node_at generated_sizes (node_text (Client n)) ≡ Some (Client n)
client_node n least most = ap (option_map Client) (client_again n least most)

-- ---- bytes

-- the hexadecimal digits
digit_at : (ds : List ℕ) (i : ℕ) → list_all is_digit ds ≡ true → i < length ds → is_digit (get_or ds i 0) ≡ true
digit_at [] i all within = absurd (omega (arith, within))
digit_at (d ∷ ds) zero all within = (and_parts (is_digit d) (list_all is_digit ds) all).0
digit_at (d ∷ ds) (suc i) all within = digit_at ds i (and_parts (is_digit d) (list_all is_digit ds) all).1 (omega (arith, within))

pub one_is_bytes : (b : ℕ) → b < 256 → IsBytes (b ∷ [])
one_is_bytes b small zero = small
one_is_bytes b small (suc i) = omega arith

two_not_one : (a b c : ℕ) → bytes_eq (a ∷ b ∷ []) (c ∷ []) ≡ false
two_not_one a b c = elim (a == c) as (λ t. (t && false) ≡ false) [ true ↦ refl | false ↦ refl ]

are_digits : (a b : ℕ) → is_digit a ≡ true → is_digit b ≡ true → list_all is_digit (a ∷ b ∷ []) ≡ true
are_digits a b high low = rw (high, low) refl

-- the two digits of a byte
byte_digits : (b : ℕ) → b < 256 → (bytes_eq (encode_lower (b ∷ [])) (codes "-") ≡ false) × (list_all is_digit (encode_lower (b ∷ [])) ≡ true) × (length (encode_lower (b ∷ [])) ≡ 2)
unfolding encode_with
byte_digits b small =
    let high : b / 16 < 16 = omega arith in
    let low : b % 16 < 16 = omega arith in (
      two_not_one (slice_index lower_digits (b / 16)) (slice_index lower_digits (b % 16)) 45,
      are_digits (slice_index lower_digits (b / 16)) (slice_index lower_digits (b % 16)) (digit_at lower_digits (b / 16) refl high) (digit_at lower_digits (b % 16) refl low),
      refl,
    )

pub byte_again : (b : ℕ) → b < 256 → byte_at (encode_lower (b ∷ [])) ≡ Some b
byte_again b small =
    let digits = byte_digits b small in
    let value : bytes_of_pairs (encode_lower (b ∷ [])) ≡ b ∷ [] = ap (λ r. result_unwrap_or r []) (decode_of-encode_lower (b ∷ []) (one_is_bytes b small)) in
    let read = bytes_of_digits-pairs (encode_lower (b ∷ [])) (omega (arith, digits.2)) digits.0 (ap (λ n. n % 2) digits.2) digits.1 in
    ap (λ o. o >>= one_byte) (read ∙ ap Some value)
