-- A beginning of a text may begin a text of its length.
use Rattle.std.proofs.Common.{◌≡◌, ℕ, zero, suc, ◌+◌, ◌-◌, ◌/◌, ◌%◌, ◌<◌, ◌≤◌, true, List, [], ◌∷◌, ◌++◌, length, get_or, take, drop, refl, sym, ap, subst, ◌∙◌, arith, inl, inr}
use Rattle.std.specs.Prelude.{is_none}
use Rattle.std.specs.Char.{encode_utf8, IsScalar}
use Rattle.std.specs.Int.{is_in_range}
use Rattle.std.specs.Str.{is_utf8, IsUtf8, encode_utf8_all, all_scalars, continuation_len}
use Rattle.std.specs.Str.Lossy.{utf8_valid_len, utf8_error_len, second_byte_min, second_byte_max}
use Rattle.std.proofs.lemmas.Bool.{le-leb, lt-ltb, le-ltb, cases_lt, and_parts, or_right}
use Rattle.std.proofs.lemmas.Grind.{common_steps}
use Rattle.std.proofs.lemmas.Bool.Decides.{nat_tests}
use Rattle.std.proofs.lemmas.Str.{IsUtf8-encode, encode_ascii, length-encode, len_utf8_bounds, utf8_valid_len_le}
use Rattle.std.proofs.lemmas.List.{length-take-le, length-drop, length-append, take_all, take-take, drop-take, take-append-drop, take-append-le, take_at}
use Rattle.std.proofs.Math.Utf8.{scalar_cases}
use Rattle.ff_xdr.specs.Reading.{may_begin_text}
use Rattle.ff_xdr.proofs.Utf8.{may_begin_utf8}
use Rattle.ff_xdr.proofs.Sequences.{valid_front, valid_most}
use Rattle.ff_xdr.proofs.TextParts.{rest_utf8, may_begin_rest, valid_len_rest}

-- ---- the bytes of a character

pub two : (c : ℕ) → 128 ≤ c → c < 2048 → encode_utf8 c ≡ (192 + c / 64) ∷ (128 + c % 64) ∷ []
unfolding encode_utf8
two c low high = rw (le-ltb c 128 low, lt-ltb c 2048 high) refl

pub three : (c : ℕ) → 2048 ≤ c → c < 65536 → encode_utf8 c ≡ (224 + c / 4096) ∷ (128 + c / 64 % 64) ∷ (128 + c % 64) ∷ []
unfolding encode_utf8
three c low high = rw (le-ltb c 128 (omega arith), le-ltb c 2048 low, lt-ltb c 65536 high) refl

pub four : (c : ℕ) → 65536 ≤ c → encode_utf8 c ≡ (240 + c / 262144) ∷ (128 + c / 4096 % 64) ∷ (128 + c / 64 % 64) ∷ (128 + c % 64) ∷ []
unfolding encode_utf8
four c low = rw (le-ltb c 128 (omega arith), le-ltb c 2048 (omega arith), le-ltb c 65536 low) refl

in_range : (lo hi c : ℕ) → lo ≤ c → c ≤ hi → is_in_range lo hi c ≡ true
in_range lo hi c low high = rw (le-leb lo c low, le-leb c hi high) refl

one_byte : (a : ℕ) → is_in_range 0xC2 0xF4 a ≡ true → is_none (utf8_error_len (a ∷ [])) ≡ true
unfolding utf8_error_len
one_byte a first = rw first refl

two_bytes : (a b : ℕ) → is_in_range 0xC2 0xF4 a ≡ true → is_in_range (second_byte_min a) (second_byte_max a) b ≡ true → is_none (utf8_error_len (a ∷ b ∷ [])) ≡ true
unfolding utf8_error_len
two_bytes a b first second = rw (first, second) refl

three_bytes : (a b c : ℕ) → is_in_range 0xC2 0xF4 a ≡ true → is_in_range (second_byte_min a) (second_byte_max a) b ≡ true → is_in_range 0x80 0xBF c ≡ true → is_none (utf8_error_len (a ∷ b ∷ c ∷ [])) ≡ true
unfolding utf8_error_len
three_bytes a b c first second third = rw (first, second, third) refl

second_fits : (a b : ℕ) → (a ≡ 0xE0 → 0xA0 ≤ b) → (a ≡ 0xF0 → 0x90 ≤ b) → (a ≡ 0xED → b ≤ 0x9F) → (a ≡ 0xF4 → b ≤ 0x8F) → 0x80 ≤ b → b ≤ 0xBF → is_in_range (second_byte_min a) (second_byte_max a) b ≡ true
second_fits a b e0 f0 ed f4 low high = grind (arith, common_steps, nat_tests)

-- the bytes of a character, of which not all stand
record CharCut (front : List ℕ) (size : ℕ) : Type 0 where
  none : is_none (utf8_error_len front) ≡ true
  whole : 1 + continuation_len (get_or front 0 0) ≡ size

pub lead_two : (a : ℕ) → 192 ≤ a → a < 224 → continuation_len a ≡ 1
lead_two a low high = rw (le-ltb a 128 (omega arith), lt-ltb a 224 high) refl

pub lead_three : (a : ℕ) → 224 ≤ a → a < 240 → continuation_len a ≡ 2
lead_three a low high = rw (le-ltb a 128 (omega arith), le-ltb a 224 low, lt-ltb a 240 high) refl

pub lead_four : (a : ℕ) → 240 ≤ a → continuation_len a ≡ 3
lead_four a low = rw (le-ltb a 128 (omega arith), le-ltb a 224 (omega arith), le-ltb a 240 low) refl

cut_two : (c k : ℕ) → 128 ≤ c → c < 2048 → 0 < k → k < 2 → CharCut (take k ((192 + c / 64) ∷ (128 + c % 64) ∷ [])) 2
cut_two c (suc zero) low high some less =
    let a = 192 + c / 64 in
    let first : is_in_range 0xC2 0xF4 a ≡ true = in_range 0xC2 0xF4 a (omega (arith, low)) (omega (arith, high)) in
    record { none = one_byte a first; whole = ap (λ (n : ℕ). 1 + n) (lead_two a (omega arith) (omega (arith, high))) }
cut_two c zero low high some less = absurd (omega (arith, some))
cut_two c (suc (suc k)) low high some less = absurd (omega (arith, less))

cut_three : (c k : ℕ) → 2048 ≤ c → c < 65536 → IsScalar c → 0 < k → k < 3 → CharCut (take k ((224 + c / 4096) ∷ (128 + c / 64 % 64) ∷ (128 + c % 64) ∷ [])) 3
cut_three c (suc zero) low high is some less =
    let a = 224 + c / 4096 in
    let first : is_in_range 0xC2 0xF4 a ≡ true = in_range 0xC2 0xF4 a (omega arith) (omega (arith, high)) in
    record { none = one_byte a first; whole = ap (λ (n : ℕ). 1 + n) (lead_three a (omega arith) (omega (arith, high))) }
cut_three c (suc (suc zero)) low high is some less =
    let a = 224 + c / 4096 in
    let b = 128 + c / 64 % 64 in
    let first : is_in_range 0xC2 0xF4 a ≡ true = in_range 0xC2 0xF4 a (omega arith) (omega (arith, high)) in
    let second : is_in_range (second_byte_min a) (second_byte_max a) b ≡ true =
    second_fits a b (λ e. omega (arith, e, low)) (λ e. absurd (omega (arith, e, high)))
    (λ e. elim (scalar_cases c is) [
      | inl h ↦ omega (arith, e, h)
      | inr h ↦ absurd (omega (arith, e, h.0))
    ])
    (λ e. absurd (omega (arith, e, high))) (omega arith) (omega arith) in
    record { none = two_bytes a b first second; whole = ap (λ (n : ℕ). 1 + n) (lead_three a (omega arith) (omega (arith, high))) }
cut_three c zero low high is some less = absurd (omega (arith, some))
cut_three c (suc (suc (suc k))) low high is some less = absurd (omega (arith, less))

cut_four : (c k : ℕ) → 65536 ≤ c → c < 0x11_0000 → 0 < k → k < 4 → CharCut (take k ((240 + c / 262144) ∷ (128 + c / 4096 % 64) ∷ (128 + c / 64 % 64) ∷ (128 + c % 64) ∷ [])) 4
cut_four c (suc k) low high some less =
    let a = 240 + c / 262144 in
    let b = 128 + c / 4096 % 64 in
    let d = 128 + c / 64 % 64 in
    let first : is_in_range 0xC2 0xF4 a ≡ true = in_range 0xC2 0xF4 a (omega arith) (omega (arith, high)) in
    let second : is_in_range (second_byte_min a) (second_byte_max a) b ≡ true =
    second_fits a b (λ e. absurd (omega (arith, e))) (λ e. omega (arith, e, low)) (λ e. absurd (omega (arith, e))) (λ e. omega (arith, e, high)) (omega arith) (omega arith) in
    let third : is_in_range 0x80 0xBF d ≡ true = in_range 0x80 0xBF d (omega arith) (omega arith) in
    by_count k less first second third
  where
    by_count : (k : ℕ) → suc k < 4 → is_in_range 0xC2 0xF4 (240 + c / 262144) ≡ true
        → is_in_range (second_byte_min (240 + c / 262144)) (second_byte_max (240 + c / 262144)) (128 + c / 4096 % 64) ≡ true → is_in_range 0x80 0xBF (128 + c / 64 % 64) ≡ true
        → CharCut (take (suc k) ((240 + c / 262144) ∷ (128 + c / 4096 % 64) ∷ (128 + c / 64 % 64) ∷ (128 + c % 64) ∷ [])) 4
    by_count zero less first second third = record { none = one_byte (240 + c / 262144) first; whole = ap (λ (n : ℕ). 1 + n) (lead_four (240 + c / 262144) (omega arith)) }
    by_count (suc zero) less first second third = record { none = two_bytes (240 + c / 262144) (128 + c / 4096 % 64) first second; whole = ap (λ (n : ℕ). 1 + n) (lead_four (240 + c / 262144) (omega arith)) }
    by_count (suc (suc zero)) less first second third =
        record { none = three_bytes (240 + c / 262144) (128 + c / 4096 % 64) (128 + c / 64 % 64) first second third; whole = ap (λ (n : ℕ). 1 + n) (lead_four (240 + c / 262144) (omega arith)) }
    by_count (suc (suc (suc k))) less first second third = absurd (omega (arith, less))
cut_four c zero low high some less = absurd (omega (arith, some))

char_cut : (c k : ℕ) → IsScalar c → 0 < k → k < length (encode_utf8 c) → CharCut (take k (encode_utf8 c)) (length (encode_utf8 c))
char_cut c k is some less =
    let below : c < 0x11_0000 = elim (scalar_cases c is) [
      | inl h ↦ omega (arith, h)
      | inr h ↦ h.1
    ] in
    elim (cases_lt c 128) [
      | inl ascii ↦
          let size : length (encode_utf8 c) ≡ 1 = ap (λ (t : List ℕ). length t) (encode_ascii c ascii) in
          absurd (omega (arith, size, some, less))
      | inr past ↦
          elim (cases_lt c 2048) [
            | inl low ↦
                let e = two c past low in
                subst (λ (t : List ℕ). CharCut (take k t) (length t)) (sym e) (cut_two c k past low some (subst (λ (t : List ℕ). k < length t) e less))
            | inr more ↦
                elim (cases_lt c 65536) [
                  | inl low ↦
                      let e = three c more low in
                      subst (λ (t : List ℕ). CharCut (take k t) (length t)) (sym e) (cut_three c k more low is some (subst (λ (t : List ℕ). k < length t) e less))
                  | inr high ↦
                      let e = four c high in
                      subst (λ (t : List ℕ). CharCut (take k t) (length t)) (sym e) (cut_four c k high below some (subst (λ (t : List ℕ). k < length t) e less))
                ]
          ]
    ]

-- ---- the beginning of a text

-- bytes of which none are a text, and that could go on as a sequence for which there is room
may_go_on : (n : ℕ) (t : List ℕ) → utf8_valid_len t ≡ 0 → length t < n → is_none (utf8_error_len t) ≡ true → 1 + continuation_len (get_or t 0 0) ≤ n → may_begin_text n t ≡ true
unfolding may_begin_text
may_go_on n t valid less none room =
    or_right (is_utf8 t) _ (rw (valid, lt-ltb (length t) n less, none, le-leb (1 + continuation_len (get_or t 0 0)) n room) refl)

-- a text that goes on behind its first bytes begins there with a character
first_char : (k n : ℕ) (rest : List ℕ) → IsUtf8 rest → 0 < k → k ≤ length rest → length rest ≤ n → utf8_valid_len (take k rest) ≡ 0 → may_begin_text n (take k rest) ≡ true
first_char k n rest ([], (ok, e)) some le room valid =
    let none : 0 ≡ length rest = ap (λ (t : List ℕ). length t) e in
    absurd (omega (arith, none, some, le))
first_char k n rest (c ∷ cs, (ok, e)) some le room valid =
    let scalar : IsScalar c = (and_parts _ (all_scalars cs) ok).0 in
    let char = encode_utf8 c in
    let size : length char + length (encode_utf8_all cs) ≡ length rest = sym (length-append char (encode_utf8_all cs)) ∙ ap (λ (t : List ℕ). length t) e in
    elim (cases_lt k (length char)) [
      | inl less ↦
          let front : take k rest ≡ take k char = ap (λ (t : List ℕ). take k t) (sym e) ∙ take-append-le k char (encode_utf8_all cs) (omega (arith, less)) in
          let cut = char_cut c k scalar some less in
          let len = length-take-le k char (omega (arith, less)) in
          subst (λ (t : List ℕ). may_begin_text n t ≡ true) (sym front)
          (may_go_on n (take k char) (ap utf8_valid_len (sym front) ∙ valid) (omega (arith, len, less, size, room)) cut.none (omega (arith, cut.whole, size, room)))
      | inr all ↦
          let len : length (take k rest) ≡ k = length-take-le k rest le in
          let begin : take (length char) (take k rest) ≡ char = take-take (length char) k rest all ∙ ap (λ (t : List ℕ). take (length char) t) (sym e) ∙ take_at char (encode_utf8_all cs) (length char) refl in
          let bounds = len_utf8_bounds c in
          absurd (valid_most (take k rest) (length char) (omega (arith, valid, length-encode c, bounds.0)) (omega (arith, len, all)) (subst IsUtf8 (sym begin) (IsUtf8-encode c scalar)))
    ]

pub text_begins : (t : List ℕ) (j : ℕ) → IsUtf8 t → j ≤ length t → may_begin_text (length t) (take j t) ≡ true
text_begins t j text le =
    let p = take j t in
    let v = utf8_valid_len p in
    let len : length p ≡ j = length-take-le j t le in
    let within : v ≤ length p = utf8_valid_len_le p in
    elim (cases_lt v j) [
      | inr all ↦ may_begin_utf8 (length t) p (subst IsUtf8 (take_all v p (omega (arith, all, len))) (valid_front p))
      | inl less ↦
          let front : take v p ≡ take v t = take-take v j t (omega (arith, less)) in
          let rest = drop v t in
          let part : drop v p ≡ take (j - v) rest = ap (λ (k : ℕ). drop v (take k t)) (omega (arith, less)) ∙ drop-take v (j - v) t in
          let whole : IsUtf8 (take v t ++ rest) = subst IsUtf8 (sym (take-append-drop v t)) text in
          let behind : IsUtf8 rest = rest_utf8 (take v t) rest (subst IsUtf8 front (valid_front p)) whole in
          let size = length-drop v t in
          let valid : utf8_valid_len (take (j - v) rest) ≡ 0 = ap utf8_valid_len (sym part) ∙ valid_len_rest p in
          let begins = first_char (j - v) (length t - v) rest behind (omega (arith, less)) (omega (arith, size, le)) (omega (arith, size)) valid in
          sym (may_begin_rest (length t) p (omega (arith, within, len, le))) ∙ ap (λ (u : List ℕ). may_begin_text (length t - v) u) part ∙ begins
    ]
