-- What a text of digits spells.
use Rattle.std.proofs.Common.{◌≡◌, ℕ, ◌*◌, ◌%◌, ◌<◌, cond, Bool, true, false, List, [], ◌∷◌, length, codes, ◌==◌, Some, None, is_ok, Result, Ok, Err, refl, sym, ap, ◌∙◌, arith}
use Rattle.std.specs.Prelude.{IsTrue, ◌↔◌}
use Rattle.std.specs.List.{list_all}
use Rattle.std.specs.Result.{result_ok, result_unwrap_or}
use Rattle.std.specs.Str.{bytes_eq}
use Rattle.std.proofs.lemmas.Bool.{false≢true, eqb-true}
use Rattle.std.proofs.lemmas.List.Elements.{All-weaker}
use Rattle.std.proofs.lemmas.List.Sums.{AllPass-from_list_all}
use Rattle.hex.specs.declared.error.FromHexError.{FromHexError}
use Rattle.hex.specs.Hex.{decode_of, decode_pairs, is_hex_digit}
use Rattle.hex.proofs.HexLemmas.{decode_of-digits, decode_of-ok}
use Rattle.ff_script.specs.Digits.{is_digit, bytes_of_pairs, bytes_of_digits}

-- a digit here is one in either case
pub hex_from_digit : (c : ℕ) → is_digit c ≡ true → is_hex_digit c ≡ true
hex_from_digit c h = grind arith

-- the bytes of a text that decodes, as a result
ok_parts : (r : Result (List ℕ) FromHexError) → is_ok r ≡ true → r ≡ Ok (result_unwrap_or r [])
ok_parts (Ok bytes) h = refl
ok_parts (Err e) h = cc

pub decoded : (s : List ℕ) → is_ok (decode_of s) ≡ true → decode_of s ≡ Ok (bytes_of_pairs s)
decoded s h = ok_parts (decode_of s) h

-- digits in pairs decode
pub is_ok-from_digits : (s : List ℕ) → length s % 2 ≡ 0 → list_all is_digit s ≡ true → is_ok (decode_of s) ≡ true
is_ok-from_digits s even h =
    let all = AllPass-from_list_all is_digit s h in
    let hex = All-weaker (λ c. is_digit c ≡ true) (λ c. is_hex_digit c ≡ true) hex_from_digit s all in
    ap is_ok (decode_of-digits s even hex).1

-- two digits for each byte
pub length_of_pairs : (s : List ℕ) → is_ok (decode_of s) ≡ true → length s ≡ 2 * length (bytes_of_pairs s)
length_of_pairs s h = (decode_of-ok s (bytes_of_pairs s) (decoded s h)).2

-- a text that is not empty
pub some_text : (s : List ℕ) → false ≡ (length s == 0) → 0 < length s
some_text [] h = absurd (false≢true h)
some_text (c ∷ s) h = omega arith

-- no digits are no bytes
pub no_pairs : (s bytes : List ℕ) (r : Bool) → length s ≡ 2 * length bytes → r ≡ (length s == 0) → IsTrue r ↔ (bytes ≡ [])
no_pairs [] [] r twice e = (λ _. refl, λ _. e)
no_pairs [] (b ∷ bytes) r twice e = absurd (omega arith)
no_pairs (c ∷ s) [] r twice e = absurd (omega arith)
no_pairs (c ∷ s) (b ∷ bytes) r twice e = (λ h. let z : length (c ∷ s) ≡ 0 = eqb-true (length (c ∷ s)) 0 (sym e ∙ h) in absurd (omega arith), λ h. cc)

-- no digits spell no bytes
pub decode_of-nil : decode_of [] ≡ Ok []
unfolding decode_pairs
decode_of-nil = refl

-- what `-` spells
pub bytes_of_digits-dash : (s : List ℕ) → true ≡ bytes_eq s (codes "-") → bytes_of_digits s ≡ Some []
bytes_of_digits-dash [] dash = absurd (false≢true (sym dash))
bytes_of_digits-dash (c ∷ rest) dash = rw (← dash) refl

-- what a text but `-` spells
bytes_of_digits-step : (s : List ℕ) → 0 < length s → bytes_eq s (codes "-") ≡ false
    → bytes_of_digits s ≡ cond (list_all is_digit s) (result_ok (decode_of s)) None
bytes_of_digits-step [] some dash = absurd (omega arith)
bytes_of_digits-step (c ∷ rest) some dash = rw dash refl

-- what digits in pairs spell
pub bytes_of_digits-pairs : (s : List ℕ) → 0 < length s → bytes_eq s (codes "-") ≡ false → length s % 2 ≡ 0 → list_all is_digit s ≡ true
    → bytes_of_digits s ≡ Some (bytes_of_pairs s)
bytes_of_digits-pairs s some dash even all =
    bytes_of_digits-step s some dash
    ∙ ap (λ b. cond b (result_ok (decode_of s)) None) all
    ∙ ap result_ok (decoded s (is_ok-from_digits s even all))
