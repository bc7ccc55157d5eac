-- What may begin a text of n bytes goes on as one.
use Rattle.std.proofs.Common.{◌≡◌, ℕ, ◌+◌, ◌-◌, ◌/◌, ◌%◌, ◌*◌, ◌<◌, ◌≤◌, Bool, true, false, cond, List, [], ◌∷◌, ◌++◌, length, get_or, take, drop, replicate, Some, None, refl, sym, ap, subst, ◌∙◌, append_assoc, append-nil, arith, inl, inr}
use Rattle.std.specs.Prelude.{Option, is_none, nat_le}
use Rattle.std.specs.Char.{encode_utf8, IsScalar}
use Rattle.std.specs.Int.{is_in_range}
use Rattle.std.specs.Str.{is_utf8, IsUtf8, continuation_len}
use Rattle.std.specs.Str.Lossy.{utf8_valid_len, utf8_error_len, second_byte_min, second_byte_max}
use Rattle.std.proofs.Math.Utf8.{low_scalar}
use Rattle.std.proofs.lemmas.Bool.{le-leb, lt-ltb, le-ltb, leb-true, cases_lt, and_parts, or_cases, both_ways, false≢true}
use Rattle.std.proofs.lemmas.Str.{IsUtf8-encode, IsUtf8-append, IsUtf8-from_ascii, IsUtf8-from_is_utf8, is_utf8-from_IsUtf8, utf8_valid_len_le}
use Rattle.std.proofs.lemmas.Grind.{common_steps}
use Rattle.std.proofs.lemmas.Bool.Decides.{nat_tests}
use Rattle.std.proofs.lemmas.List.{length-append, length-drop, length-replicate, take_at, take_all, take-append-drop, get_or-drop}
use Rattle.ff_xdr.specs.Reading.{may_begin_text}
use Rattle.ff_xdr.specs.Faults.{BeginsString, IsBeginningRight}
use Rattle.ff_xdr.proofs.Begun.{zeros_ascii}
use Rattle.ff_xdr.proofs.Sequences.{valid_front, valid_most, error_len_of_four}
use Rattle.ff_xdr.proofs.TextParts.{valid_len_rest}
use Rattle.ff_xdr.proofs.TextBegins.{two, three, four, lead_two, lead_three, lead_four, text_begins}

high_scalar : (c : ℕ) → 57344 ≤ c → c < 1114112 → IsScalar c
high_scalar c low high = rw (le-ltb c 55296 (omega (arith, low)), le-leb 57344 c low, lt-ltb c 1114112 high) refl

two_are : (x y : ℕ) → 194 ≤ x → x < 224 → 128 ≤ y → y < 192 → IsUtf8 (x ∷ y ∷ [])
two_are x y x1 x2 y1 y2 =
    let c = (x - 192) * 64 + (y - 128) in
    let low : 128 ≤ c = omega (arith, x1, y1) in
    let high : c < 2048 = omega (arith, x2, y2) in
    let first : 192 + c / 64 ≡ x = omega (arith, x1, x2, y1, y2) in
    let second : 128 + c % 64 ≡ y = omega (arith, x1, x2, y1, y2) in
    let e : encode_utf8 c ≡ x ∷ y ∷ [] = rw (two c low high, first, second) refl in
    subst IsUtf8 e (IsUtf8-encode c (low_scalar c (omega (arith, high))))

three_are : (x y z : ℕ) → 224 ≤ x → x < 240 → 128 ≤ y → y < 192 → (x ≡ 224 → 160 ≤ y) → (x ≡ 237 → y < 160) → 128 ≤ z → z < 192 → IsUtf8 (x ∷ y ∷ z ∷ [])
three_are x y z x1 x2 y1 y2 e0 ed z1 z2 =
    let c = (x - 224) * 4096 + (y - 128) * 64 + (z - 128) in
    let low : 2048 ≤ c = elim (cases_lt 224 x) [
      | inl more ↦ omega (arith, more)
      | inr le ↦ omega (arith, e0 (omega (arith, le, x1)), y2)
    ] in
    let high : c < 65536 = omega (arith, x1, x2, y1, y2, z1, z2) in
    let first : 224 + c / 4096 ≡ x = omega (arith, x1, x2, y1, y2, z1, z2) in
    let second : 128 + c / 64 % 64 ≡ y = omega (arith, x1, x2, y1, y2, z1, z2) in
    let third : 128 + c % 64 ≡ z = omega (arith, x1, x2, y1, y2, z1, z2) in
    let scalar : IsScalar c = elim (cases_lt x 237) [
      | inl less ↦ low_scalar c (omega (arith, less, x1, y1, y2, z1, z2))
      | inr past ↦
          elim (cases_lt 237 x) [
            | inl more ↦ high_scalar c (omega (arith, more)) (omega (arith, high))
            | inr le ↦ low_scalar c (omega (arith, past, le, ed (omega (arith, past, le)), z2))
          ]
    ] in
    let e : encode_utf8 c ≡ x ∷ y ∷ z ∷ [] = rw (three c low high, first, second, third) refl in
    subst IsUtf8 e (IsUtf8-encode c scalar)

four_are : (x y z w : ℕ) → 240 ≤ x → x < 245 → 128 ≤ y → y < 192 → (x ≡ 240 → 144 ≤ y) → (x ≡ 244 → y < 144) → 128 ≤ z → z < 192 → 128 ≤ w → w < 192 → IsUtf8 (x ∷ y ∷ z ∷ w ∷ [])
four_are x y z w x1 x2 y1 y2 f0 f4 z1 z2 w1 w2 =
    let c = (x - 240) * 262144 + (y - 128) * 4096 + (z - 128) * 64 + (w - 128) in
    let low : 65536 ≤ c = elim (cases_lt 240 x) [
      | inl more ↦ omega (arith, more)
      | inr le ↦ omega (arith, f0 (omega (arith, le, x1)))
    ] in
    let high : c < 1114112 = elim (cases_lt x 244) [
      | inl less ↦ omega (arith, less, y2, z2, w2)
      | inr past ↦ omega (arith, f4 (omega (arith, past, x2)), past, x2, z2, w2)
    ] in
    let first : 240 + c / 262144 ≡ x = omega (arith, x1, x2, y1, y2, z1, z2, w1, w2) in
    let second : 128 + c / 4096 % 64 ≡ y = omega (arith, x1, x2, y1, y2, z1, z2, w1, w2) in
    let third : 128 + c / 64 % 64 ≡ z = omega (arith, x1, x2, y1, y2, z1, z2, w1, w2) in
    let last : 128 + c % 64 ≡ w = omega (arith, x1, x2, y1, y2, z1, z2, w1, w2) in
    let e : encode_utf8 c ≡ x ∷ y ∷ z ∷ w ∷ [] = rw (four c low, first, second, third, last) refl in
    subst IsUtf8 e (IsUtf8-encode c (high_scalar c (omega (arith, low)) high))

-- ---- what the first bytes of a character may be

record Second (x y : ℕ) : Type 0 where
  low : 128 ≤ y
  high : y < 192
  of_e0 : x ≡ 224 → 160 ≤ y
  of_ed : x ≡ 237 → y < 160
  of_f0 : x ≡ 240 → 144 ≤ y
  of_f4 : x ≡ 244 → y < 144

second_is : (x y : ℕ) → is_in_range (second_byte_min x) (second_byte_max x) y ≡ true → Second x y
second_is x y e =
    let both = and_parts _ _ e in
    let least : second_byte_min x ≤ y = leb-true _ _ both.0 in
    let most : y ≤ second_byte_max x = leb-true _ _ both.1 in
    record {
      low = grind (arith, common_steps, nat_tests);
      high = grind (arith, common_steps, nat_tests);
      of_e0 = λ is. grind (arith, common_steps, nat_tests);
      of_ed = λ is. grind (arith, common_steps, nat_tests);
      of_f0 = λ is. grind (arith, common_steps, nat_tests);
      of_f4 = λ is. grind (arith, common_steps, nat_tests);
    }

range_is : (lo hi c : ℕ) → is_in_range lo hi c ≡ true → (lo ≤ c) × (c ≤ hi)
range_is lo hi c e =
    let both = and_parts _ _ e in
    (leb-true _ _ both.0, leb-true _ _ both.1)

abbrev unless_wrong : Bool → Option ℕ → ℕ → Option ℕ
unless_wrong t o k = cond t o (Some k)

right_is : (t : Bool) (o : Option ℕ) (k : ℕ) → is_none (unless_wrong t o k) ≡ true → (t ≡ true) × (is_none o ≡ true)
right_is true o k e = (refl, e)
right_is false o k e = absurd (false≢true e)

one_is : (x : ℕ) → is_none (utf8_error_len (x ∷ [])) ≡ true → is_in_range 0xC2 0xF4 x ≡ true
unfolding utf8_error_len
one_is x e = (right_is (is_in_range 0xC2 0xF4 x) None 1 e).0

two_is : (x y : ℕ) → is_none (utf8_error_len (x ∷ y ∷ [])) ≡ true → (is_in_range 0xC2 0xF4 x ≡ true) × (is_in_range (second_byte_min x) (second_byte_max x) y ≡ true)
unfolding utf8_error_len
two_is x y e =
    let a = right_is (is_in_range 0xC2 0xF4 x) (unless_wrong (is_in_range (second_byte_min x) (second_byte_max x) y) None 1) 1 e in
    (a.0, (right_is (is_in_range (second_byte_min x) (second_byte_max x) y) None 1 a.1).0)

three_is : (x y z : ℕ) → is_none (utf8_error_len (x ∷ y ∷ z ∷ [])) ≡ true → (is_in_range 0xC2 0xF4 x ≡ true) × (is_in_range (second_byte_min x) (second_byte_max x) y ≡ true) × (is_in_range 0x80 0xBF z ≡ true)
unfolding utf8_error_len
three_is x y z e =
    let third = is_in_range 0x80 0xBF z in
    let second = is_in_range (second_byte_min x) (second_byte_max x) y in
    let a = right_is (is_in_range 0xC2 0xF4 x) (unless_wrong second (unless_wrong third None 2) 1) 1 e in
    let b = right_is second (unless_wrong third None 2) 1 a.1 in
    (a.0, b.0, (right_is third None 2 b.1).0)

-- ---- a sequence that is cut goes on

-- a sequence and bytes with which it is a character
record Whole (rest : List ℕ) : Type 0 where
  more : List ℕ
  text : IsUtf8 (rest ++ more)
  size : length (rest ++ more) ≡ 1 + continuation_len (get_or rest 0 0)

sequence_goes_on : (rest : List ℕ) → 0 < length rest → utf8_valid_len rest ≡ 0 → is_none (utf8_error_len rest) ≡ true → Whole rest
sequence_goes_on [] some valid none = absurd (omega (arith, some))
sequence_goes_on (x ∷ []) some valid none =
    let first = range_is 0xC2 0xF4 x (one_is x none) in
    elim (cases_lt x 224) [
      | inl two ↦ record {
        more = 128 ∷ [];
        text = two_are x 128 first.0 two (omega arith) (omega arith);
        size = ap (λ (n : ℕ). 1 + n) (sym (lead_two x (omega (arith, first.0)) two));
      }
      | inr past ↦
          elim (cases_lt x 240) [
            | inl three ↦
                let size : 3 ≡ 1 + continuation_len x = ap (λ (n : ℕ). 1 + n) (sym (lead_three x past three)) in
                elim (cases_lt 224 x) [
                  | inl above ↦ record { more = 128 ∷ 128 ∷ []; text = three_are x 128 128 past three (omega arith) (omega arith) (λ is. absurd (omega (arith, is, above))) (λ is. omega arith) (omega arith) (omega arith); size = size }
                  | inr least ↦ record { more = 160 ∷ 128 ∷ []; text = three_are x 160 128 past three (omega arith) (omega arith) (λ is. omega arith) (λ is. absurd (omega (arith, is, least))) (omega arith) (omega arith); size = size }
                ]
            | inr four ↦
                let size : 4 ≡ 1 + continuation_len x = ap (λ (n : ℕ). 1 + n) (sym (lead_four x four)) in
                let below : x < 245 = omega (arith, first.1) in
                elim (cases_lt 240 x) [
                  | inl above ↦ record { more = 128 ∷ 128 ∷ 128 ∷ []; text = four_are x 128 128 128 four below (omega arith) (omega arith) (λ is. absurd (omega (arith, is, above))) (λ is. omega arith) (omega arith) (omega arith) (omega arith) (omega arith); size = size }
                  | inr least ↦ record { more = 144 ∷ 128 ∷ 128 ∷ []; text = four_are x 144 128 128 four below (omega arith) (omega arith) (λ is. omega arith) (λ is. absurd (omega (arith, is, least))) (omega arith) (omega arith) (omega arith) (omega arith); size = size }
                ]
          ]
    ]
sequence_goes_on (x ∷ y ∷ []) some valid none =
    let are = two_is x y none in
    let first = range_is 0xC2 0xF4 x are.0 in
    let second = second_is x y are.1 in
    elim (cases_lt x 224) [
      | inl two ↦ absurd (valid_most (x ∷ y ∷ []) 2 (omega (arith, valid)) (omega arith) (two_are x y first.0 two second.low second.high))
      | inr past ↦
          elim (cases_lt x 240) [
            | inl three ↦ record {
              more = 128 ∷ [];
              text = three_are x y 128 past three second.low second.high second.of_e0 second.of_ed (omega arith) (omega arith);
              size = ap (λ (n : ℕ). 1 + n) (sym (lead_three x past three));
            }
            | inr four ↦ record {
              more = 128 ∷ 128 ∷ [];
              text = four_are x y 128 128 four (omega (arith, first.1)) second.low second.high second.of_f0 second.of_f4 (omega arith) (omega arith) (omega arith) (omega arith);
              size = ap (λ (n : ℕ). 1 + n) (sym (lead_four x four));
            }
          ]
    ]
sequence_goes_on (x ∷ y ∷ z ∷ []) some valid none =
    let are = three_is x y z none in
    let first = range_is 0xC2 0xF4 x are.0 in
    let second = second_is x y are.1 in
    let third = range_is 0x80 0xBF z are.2 in
    elim (cases_lt x 224) [
      | inl two ↦ absurd (valid_most (x ∷ y ∷ z ∷ []) 2 (omega (arith, valid)) (omega arith) (two_are x y first.0 two second.low second.high))
      | inr past ↦
          elim (cases_lt x 240) [
            | inl three ↦ absurd (valid_most (x ∷ y ∷ z ∷ []) 3 (omega (arith, valid)) (omega arith) (three_are x y z past three second.low second.high second.of_e0 second.of_ed third.0 (omega (arith, third.1))))
            | inr four ↦ record {
              more = 128 ∷ [];
              text = four_are x y z 128 four (omega (arith, first.1)) second.low second.high second.of_f0 second.of_f4 third.0 (omega (arith, third.1)) (omega arith) (omega arith);
              size = ap (λ (n : ℕ). 1 + n) (sym (lead_four x four));
            }
          ]
    ]
sequence_goes_on (x ∷ y ∷ z ∷ w ∷ rest) some valid none = absurd (both_ways _ (error_len_of_four (x ∷ y ∷ z ∷ w ∷ rest) (omega arith)) none)

-- ---- bytes that may begin a text

-- a text goes on with zeros
whole_goes_on : (n : ℕ) (front more : List ℕ) → IsUtf8 (front ++ more) → length (front ++ more) ≤ n → BeginsString n front
whole_goes_on n front more text room =
    let zeros : List ℕ = replicate (n - length (front ++ more)) 0 in
    let all : IsUtf8 ((front ++ more) ++ zeros) = IsUtf8-append (front ++ more) zeros text (IsUtf8-from_ascii zeros (zeros_ascii (n - length (front ++ more)))) in
    let size : length ((front ++ more) ++ zeros) ≡ n = omega (arith, length-append (front ++ more) zeros, length-replicate {A = ℕ} (n - length (front ++ more)) 0, room) in
    let begins : take (length front) ((front ++ more) ++ zeros) ≡ front = ap (λ (t : List ℕ). take (length front) t) (append_assoc front more zeros) ∙ take_at front (more ++ zeros) (length front) refl in
    ((front ++ more) ++ zeros, size, is_utf8-from_IsUtf8 _ all, begins)

text_goes_on : (n : ℕ) (front : List ℕ) → length front ≤ n → may_begin_text n front ≡ true → BeginsString n front
unfolding may_begin_text
text_goes_on n front le may =
    let v = utf8_valid_len front in
    let rest = drop v front in
    let within = utf8_valid_len_le front in
    let whole : IsUtf8 front → BeginsString n front =
    λ text. whole_goes_on n front [] (subst IsUtf8 (sym (append-nil front)) text) (subst (λ (t : List ℕ). length t ≤ n) (sym (append-nil front)) le) in
    elim (or_cases (is_utf8 front) _ may) [
      | inl text ↦ whole (IsUtf8-from_is_utf8 front text)
      | inr cut ↦
          elim (cases_lt v (length front)) [
            | inr all ↦ whole (subst IsUtf8 (take_all v front all) (valid_front front))
            | inl some ↦
                let parts = and_parts _ (nat_le (v + 1 + continuation_len (get_or front v 0)) n) cut in
                let none = (and_parts _ (is_none (utf8_error_len rest)) parts.0).1 in
                let room : v + 1 + continuation_len (get_or front v 0) ≤ n = leb-true _ _ parts.1 in
                let w = sequence_goes_on rest (omega (arith, length-drop v front, some)) (valid_len_rest front) none in
                let split : take v front ++ (rest ++ w.more) ≡ front ++ w.more = sym (append_assoc (take v front) rest w.more) ∙ ap (λ (t : List ℕ). t ++ w.more) (take-append-drop v front) in
                let text : IsUtf8 (front ++ w.more) = subst IsUtf8 split (IsUtf8-append (take v front) (rest ++ w.more) (valid_front front) w.text) in
                let lead : get_or rest 0 0 ≡ get_or front v 0 = get_or-drop v front 0 0 ∙ ap (λ (i : ℕ). get_or front i 0) (omega arith) in
                let size : length (rest ++ w.more) ≡ 1 + continuation_len (get_or front v 0) = w.size ∙ ap (λ (b : ℕ). 1 + continuation_len b) lead in
                let len : length (front ++ w.more) ≡ v + length (rest ++ w.more) = omega (arith, length-append front w.more, length-append rest w.more, length-drop v front, within) in
                whole_goes_on n front w.more text (omega (arith, len, size, room))
          ]
    ]

pub beginning_right : IsBeginningRight
beginning_right n front le = (
  λ may. text_goes_on n front le may,
  λ h.
      let begins = text_begins h.0 (length front) (IsUtf8-from_is_utf8 h.0 h.2) (omega (arith, h.1, le)) in
      subst (λ (k : ℕ). may_begin_text k front ≡ true) h.1 (subst (λ (t : List ℕ). may_begin_text (length h.0) t ≡ true) h.3 begins),
)
