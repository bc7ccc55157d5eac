-- Where bytes stop being UTF-8: how many bytes tell it.
use Rattle.std.proofs.Common.{◌≡◌, ℕ, zero, suc, ◌+◌, ◌<◌, ◌≤◌, Bool, true, false, cond, eqb, ltb, List, [], ◌∷◌, ◌++◌, Some, length, get_or, take, drop, refl, sym, ap, subst, ◌∙◌, arith, append_assoc, inl, inr}
use Rattle.std.specs.Prelude.{is_none}
use Rattle.std.specs.Char.{encode_utf8, IsScalar}
use Rattle.std.specs.Str.{is_utf8, IsUtf8, all_scalars, encode_utf8_all}
use Rattle.std.specs.Str.Lossy.{utf8_valid_len, utf8_error_len, valid_len_up_to, second_byte_min, second_byte_max}
use Rattle.std.specs.Int.{is_in_range}
use Rattle.std.proofs.lemmas.Str.{is_utf8-from_IsUtf8, IsUtf8-from_is_utf8, IsUtf8-nil, IsUtf8-encode, IsUtf8-append, encode_same, length-encode, len_utf8_bounds, utf8_valid_len-IsUtf8, utf8_valid_len-IsValidUpTo}
use Rattle.std.proofs.lemmas.Bool.{le-ltb, ne_eqb, and_parts, or_from, and_left, both_ways, cases_lt, cases_Bool, cond_both, and_right, false_from_ne_true}
use Rattle.std.proofs.lemmas.List.{take_all, take-take, drop-take, length-take, length-drop, length-append, take-append-drop, take_at}
use Rattle.std.proofs.Math.Seq.{take-add}
use Rattle.ff_xdr.specs.Reading.{may_begin_text}

-- bytes that agree on more agree on fewer
pub take_less : (m n : ℕ) (a b : List ℕ) → m ≤ n → take n a ≡ take n b → take m a ≡ take m b
take_less m n a b le e = sym (take-take m n a le) ∙ ap (λ (t : List ℕ). take m t) e ∙ take-take m n b le

-- where one of them is no longer than that, both are the same
pub same_short : (n : ℕ) (a b : List ℕ) → length a < n → take n a ≡ take n b → a ≡ b
same_short n a b lt e =
    let len : length (take n a) ≡ length (take n b) = ap (λ (t : List ℕ). length t) e in
    let short : length b ≤ n = omega (arith, len, length-take n a, length-take n b) in
    sym (take_all n a (omega arith)) ∙ e ∙ take_all n b short

-- what stands behind the beginning of a text that is a text is one
pub rest_encodes : (ds cs rest : List ℕ) → all_scalars cs ≡ true → encode_utf8_all ds ++ rest ≡ encode_utf8_all cs → (es : List ℕ) × ((all_scalars es ≡ true) × (encode_utf8_all es ≡ rest))
rest_encodes [] cs rest ok e = (cs, (ok, sym e))
rest_encodes (d ∷ ds) [] rest ok e =
    let none : length (encode_utf8 d ++ (encode_utf8_all ds ++ rest)) ≡ 0 = ap (λ (t : List ℕ). length t) (sym (append_assoc (encode_utf8 d) (encode_utf8_all ds) rest) ∙ e) in
    absurd (omega (arith, none, length-append (encode_utf8 d) (encode_utf8_all ds ++ rest), length-encode d, (len_utf8_bounds d).0))
rest_encodes (d ∷ ds) (c ∷ cs) rest ok e =
    let same = encode_same d c (encode_utf8_all ds ++ rest) (encode_utf8_all cs) (sym (append_assoc (encode_utf8 d) (encode_utf8_all ds) rest) ∙ e) in
    rest_encodes ds cs rest (and_parts _ _ ok).1 same.1

-- a beginning that is a text, and is longer by a character, which has at most four bytes
record Longer (v k : ℕ) (t : List ℕ) : Type 0 where
  size : ℕ
  more : v < size
  few : size ≤ v + 4
  within : size ≤ k
  text : IsUtf8 (take size t)

one_more : (v k : ℕ) (t es : List ℕ) → v < k → k ≤ length t → IsUtf8 (take v t) → all_scalars es ≡ true → encode_utf8_all es ≡ drop v (take k t) → Longer v k t
one_more v k t [] lt le front ok e =
    let none : 0 ≡ length (drop v (take k t)) = ap (λ (a : List ℕ). length a) e in
    absurd (omega (arith, none, length-drop v (take k t), length-take k t))
one_more v k t (c ∷ es) lt le front ok e =
    let len = length-encode c in
    let size = length (encode_utf8 c) in
    let whole : length (encode_utf8 c ++ encode_utf8_all es) ≡ length (drop v (take k t)) = ap (λ (a : List ℕ). length a) e in
    let room : v + size ≤ k = omega (arith, whole, length-append (encode_utf8 c) (encode_utf8_all es), length-drop v (take k t), length-take k t) in
    let char : take size (drop v t) ≡ encode_utf8 c =
    sym (drop-take v size t) ∙ ap (λ (a : List ℕ). drop v a) (sym (take-take (v + size) k t room)) ∙ drop-take v size (take k t)
    ∙ ap (λ (a : List ℕ). take size a) (sym e) ∙ take_at (encode_utf8 c) (encode_utf8_all es) size refl in
    let scalar : IsScalar c = (and_parts _ (all_scalars es) ok).0 in
    record {
      size = v + size;
      more = omega (arith, len, (len_utf8_bounds c).0);
      few = omega (arith, len, (len_utf8_bounds c).1);
      within = room;
      text = rw (take-add v size t, char) (IsUtf8-append (take v t) (encode_utf8 c) front (IsUtf8-encode c scalar));
    }

longer : (v k : ℕ) (t : List ℕ) → v < k → k ≤ length t → IsUtf8 (take v t) → IsUtf8 (take k t) → Longer v k t
longer v k t lt le front more =
    let split : take v t ++ drop v (take k t) ≡ take k t = ap (λ (a : List ℕ). a ++ drop v (take k t)) (sym (take-take v k t (omega arith))) ∙ take-append-drop v (take k t) in
    let whole : encode_utf8_all front.0 ++ drop v (take k t) ≡ encode_utf8_all more.0 = ap (λ (a : List ℕ). a ++ drop v (take k t)) front.1.1 ∙ split ∙ sym more.1.1 in
    let rest = rest_encodes front.0 more.0 (drop v (take k t)) more.1.0 whole in
    one_more v k t rest.0 lt le front rest.1.0 rest.1.1

-- ---- the longest beginning that is a text

up_to_front : (t : List ℕ) (m : ℕ) → IsUtf8 (take (valid_len_up_to t m) t)
up_to_front t zero = IsUtf8-nil
up_to_front t (suc m) = cond_both (is_utf8 (take (suc m) t)) (suc m) (valid_len_up_to t m) (λ (k : ℕ). IsUtf8 (take k t)) (λ e. IsUtf8-from_is_utf8 _ e) (λ e. up_to_front t m)

up_to_most : (t : List ℕ) (m k : ℕ) → valid_len_up_to t m < k → k ≤ m → ¬ (IsUtf8 (take k t))
up_to_most t zero k lt le text = absurd (omega (arith, lt, le))
up_to_most t (suc m) k lt le text =
    elim (cases_Bool (is_utf8 (take (suc m) t))) [
      | inl e ↦
          let here : suc m < k = rw e at lt in
          absurd (omega (arith, here, le))
      | inr e ↦
          let below : valid_len_up_to t m < k = rw e at lt in
          elim (cases_lt m k) [
            | inl last ↦
                let same : k ≡ suc m = omega (arith, last, le) in
                both_ways _ e (is_utf8-from_IsUtf8 _ (subst (λ (j : ℕ). IsUtf8 (take j t)) same text))
            | inr less ↦ up_to_most t m k below less text
          ]
    ]

pub valid_front : (t : List ℕ) → IsUtf8 (take (utf8_valid_len t) t)
unfolding utf8_valid_len
valid_front t = up_to_front t (length t)

pub valid_most : (t : List ℕ) (k : ℕ) → utf8_valid_len t < k → k ≤ length t → ¬ (IsUtf8 (take k t))
unfolding utf8_valid_len
valid_most t k lt le = up_to_most t (length t) k lt le

-- no longer beginning of b is a text, where a has the same four bytes behind its longest
no_longer : (a b : List ℕ) → take (utf8_valid_len a + 4) a ≡ take (utf8_valid_len a + 4) b → utf8_valid_len a + 4 ≤ length a → (k : ℕ) → utf8_valid_len a < k → k ≤ length b → ¬ (IsUtf8 (take k b))
no_longer a b e room k lt le text =
    let v = utf8_valid_len a in
    let front : IsUtf8 (take v b) = subst IsUtf8 (take_less v (v + 4) a b (omega arith) e) (valid_front a) in
    let l = longer v k b lt le front text in
    valid_most a l.size l.more (omega (arith, l.few, room)) (subst IsUtf8 (sym (take_less l.size (v + 4) a b l.few e)) l.text)

-- four bytes behind the longest beginning that is a text tell that it is the longest
pub same_valid_len : (a b : List ℕ) → take (utf8_valid_len a + 4) a ≡ take (utf8_valid_len a + 4) b → utf8_valid_len a + 4 ≤ length a → utf8_valid_len b ≡ utf8_valid_len a
same_valid_len a b e room =
    let v = utf8_valid_len a in
    let len : length (take (v + 4) a) ≡ length (take (v + 4) b) = ap (λ (t : List ℕ). length t) e in
    let size : v + 4 ≤ length b = omega (arith, room, len, length-take (v + 4) a, length-take (v + 4) b) in
    utf8_valid_len-IsValidUpTo b v (record {
      short = omega (arith, size);
      front = subst IsUtf8 (take_less v (v + 4) a b (omega arith) e) (valid_front a);
      longest = λ m lt text. elim (cases_lt (length b) m) [
        | inl past ↦
            let all : take m b ≡ take (length b) b = take_all m b (omega (arith, past)) ∙ sym (take_all (length b) b (omega arith)) in
            no_longer a b e room (length b) (omega (arith, size)) (omega arith) (subst IsUtf8 all text)
        | inr within ↦ no_longer a b e room m lt within text
      ];
    })

some_is_some : (x y z : Bool) → is_none {T = ℕ} (cond x (cond y (cond z (Some 3) (Some 2)) (Some 1)) (Some 1)) ≡ false
some_is_some true true true = refl
some_is_some true true false = refl
some_is_some true false z = refl
some_is_some false y z = refl

-- four bytes tell how the sequence that they begin with is wrong
pub error_len_of_four : (t : List ℕ) → 4 ≤ length t → is_none (utf8_error_len t) ≡ false
unfolding utf8_error_len
error_len_of_four t four =
    let x = get_or t 0 0 in
    let some : eqb (length t) 0 ≡ false = ne_eqb _ _ (λ e. absurd (omega (arith, e, four))) in
    let two : ltb (length t) 2 ≡ false = le-ltb _ _ (omega (arith, four)) in
    let three : ltb (length t) 3 ≡ false = le-ltb _ _ (omega (arith, four)) in
    let all : ltb (length t) 4 ≡ false = le-ltb _ _ four in
    rw (some, two, three, all) (some_is_some (is_in_range 0xC2 0xF4 x) (is_in_range (second_byte_min x) (second_byte_max x) (get_or t 1 0)) (is_in_range 0x80 0xBF (get_or t 2 0)))

may_begin_false : (n : ℕ) (t : List ℕ) → utf8_valid_len t + 4 ≤ length t → may_begin_text n t ≡ false
unfolding may_begin_text
may_begin_false n t room =
    let v = utf8_valid_len t in
    let none : is_utf8 t ≡ false = false_from_ne_true _ (λ e. absurd (omega (arith, utf8_valid_len-IsUtf8 t (IsUtf8-from_is_utf8 t e), room))) in
    let wrong : is_none (utf8_error_len (drop v t)) ≡ false = error_len_of_four (drop v t) (omega (arith, length-drop v t, room)) in
    or_from _ _ none (and_left _ _ (and_right _ _ wrong))

-- Where bytes stop being a text of n bytes, four bytes from there on tell it.
pub same_fault : (n : ℕ) (a b : List ℕ) → may_begin_text n a ≡ false → take (utf8_valid_len a + 4) a ≡ take (utf8_valid_len a + 4) b → (may_begin_text n b ≡ false) × (utf8_valid_len b ≡ utf8_valid_len a)
same_fault n a b fault e =
    let v = utf8_valid_len a in
    elim (cases_lt (length a) (v + 4)) [
      | inl few ↦
          let same : a ≡ b = same_short (v + 4) a b few e in
          (subst (λ (t : List ℕ). may_begin_text n t ≡ false) same fault, ap utf8_valid_len (sym same))
      | inr room ↦
          let len : length (take (v + 4) a) ≡ length (take (v + 4) b) = ap (λ (t : List ℕ). length t) e in
          let valid = same_valid_len a b e room in
          let size : utf8_valid_len b + 4 ≤ length b = omega (arith, room, valid, len, length-take (v + 4) a, length-take (v + 4) b) in
          (may_begin_false n b size, valid)
    ]
