-- Numbers, paddings, opaque bytes and flags: what stands is read, and what is read stands.
use Rattle.std.proofs.Common.{◌≡◌, ℕ, ℤ, zero, suc, ◌+◌, ◌^◌, ◌<◌, ◌≤◌, Bool, true, false, cond, eqb, ltb, List, [], ◌∷◌, ◌++◌, length, get_or, take, drop, replicate, Ok, Err, refl, sym, ap, subst, ◌∙◌, arith, rules, inl, inr}
use Rattle.std.specs.Prelude.{◌⊎◌}
use Rattle.std.specs.Int.{Width, w32, w64, byte_len, from_be_bytes, to_be_bytes, cast_signed, cast_unsigned}
use Rattle.std.specs.Int.RustNames.{FitsSigned}
use Rattle.std.specs.Str.{is_utf8}
use Rattle.std.specs.Str.Lossy.{utf8_valid_len}
use Rattle.std.proofs.lemmas.Bool.{ltb-false, le-ltb, lt-ltb, ltb-true, eqb-true, eq-eqb, or_cases, and_parts, both_ways}
use Rattle.std.proofs.lemmas.List.{length-take, length-drop, drop_more}
use Rattle.std.proofs.lemmas.Int.{ints, to_z-of_z, of_z-to_z}
use Rattle.std.proofs.lemmas.Nat.{be_bytes_4, be_bytes_8, from_be_bytes-to_be_bytes_4, from_be_bytes-to_be_bytes_8}
use Rattle.ff_xdr.specs.declared.error.XdrError.{XdrError}
use Rattle.ff_xdr.specs.declared.error.XdrWhy.TheVariants.{Short, Pad, NotBool, TooLong, NotUtf8}
use Rattle.ff_xdr.specs.Form.{word, long, pad_len, padded}
use Rattle.ff_xdr.specs.Laws.{IsBytes, Stands}
use Rattle.ff_xdr.specs.Reading.{Read, ◌>>=◌, number_at, hyper_at, padding_at, fixed_at, length_at, opaque_at, flag_at, text_at, may_begin_text}
use Rattle.ff_xdr.proofs.Places.{IsBytes-drop, IsBytes-take, bind_ok, guard_ok, passed, ok_is, stands_nothing, stands_join, stands_first, stands_second}

-- ---- numbers

pub record IsWide (w : Width) (limit : ℕ) : Type 0 where
  pub len : (n : ℕ) → length (to_be_bytes w n) ≡ byte_len w
  pub back : (bytes : List ℕ) → length bytes ≡ byte_len w → IsBytes bytes → to_be_bytes w (from_be_bytes w bytes) ≡ bytes
  pub again : (n : ℕ) → n < limit → from_be_bytes w (to_be_bytes w n) ≡ n
  pub below : (bytes : List ℕ) → IsBytes bytes → from_be_bytes w bytes < limit

pub wide32 : IsWide w32 (2 ^ 32)
wide32 = record {
  len = λ n. refl;
  back = λ bytes len fits. be_bytes_4 bytes _ len fits refl;
  again = λ n lt. from_be_bytes-to_be_bytes_4 n lt;
  below = λ bytes fits. omega (arith, fits 0, fits 1, fits 2, fits 3);
}

pub wide64 : IsWide w64 (2 ^ 64)
wide64 = record {
  len = λ n. refl;
  back = λ bytes len fits. be_bytes_8 bytes _ len fits refl;
  again = λ n lt. from_be_bytes-to_be_bytes_8 n lt;
  below = λ bytes fits. omega (arith, fits 0, fits 1, fits 2, fits 3, fits 4, fits 5, fits 6, fits 7);
}

number_again : (w : Width) (limit : ℕ) (wide : IsWide w limit) (bytes : List ℕ) (at n to : ℕ) → n < limit → Stands bytes at (to_be_bytes w n) to → number_at w bytes at ≡ Ok (n, to)
unfolding number_at
number_again w limit wide bytes at n to lt s =
    let len = wide.len n in
    let ends : to ≡ at + byte_len w = omega (arith, s.ends, len) in
    let room : ltb (length bytes) (at + byte_len w) ≡ false = le-ltb _ _ (omega (arith, s.within, ends)) in
    let text : take (byte_len w) (drop at bytes) ≡ to_be_bytes w n = ap (λ (k : ℕ). take k (drop at bytes)) (sym len) ∙ s.stands in
    rw (room, text, wide.again n lt, ends) refl

number_takes : (w : Width) (limit : ℕ) (wide : IsWide w limit) (bytes : List ℕ) (at n to : ℕ) → IsBytes bytes → at ≤ length bytes → number_at w bytes at ≡ Ok (n, to) → Stands bytes at (to_be_bytes w n) to × (n < limit)
unfolding number_at
number_takes w limit wide bytes at n to fits le e =
    let g = guard_ok (ltb (length bytes) (at + byte_len w)) (record { place = length bytes; why = Short }) (Ok (from_be_bytes w (take (byte_len w) (drop at bytes)), at + byte_len w)) (n, to) e in
    let room : at + byte_len w ≤ length bytes = ltb-false _ _ g.0 in
    let both = ok_is (from_be_bytes w (take (byte_len w) (drop at bytes)), at + byte_len w) (n, to) g.1 in
    let n-is : from_be_bytes w (take (byte_len w) (drop at bytes)) ≡ n = ap (λ (p : ℕ × ℕ). p.0) both in
    let to-is : at + byte_len w ≡ to = ap (λ (p : ℕ × ℕ). p.1) both in
    let bytes_fit = IsBytes-take (byte_len w) (drop at bytes) (IsBytes-drop at bytes fits) in
    let len : length (take (byte_len w) (drop at bytes)) ≡ byte_len w = omega (arith, length-take (byte_len w) (drop at bytes), length-drop at bytes) in
    let text : to_be_bytes w n ≡ take (byte_len w) (drop at bytes) = rw (← n-is) (wide.back (take (byte_len w) (drop at bytes)) len bytes_fit) in
    let lt : n < limit = rw (← n-is) (wide.below (take (byte_len w) (drop at bytes)) bytes_fit) in
    let wide-len = wide.len n in (
      record {
        stands = ap (λ (k : ℕ). take k (drop at bytes)) wide-len ∙ sym text;
        ends = omega (arith, to-is, wide-len);
        within = omega (arith, to-is, room);
      },
      lt,
    )

pub length-word : (n : ℕ) → length (word n) ≡ 4
unfolding word
length-word n = refl

pub word_again : (bytes : List ℕ) (at n to : ℕ) → n < 2 ^ 32 → Stands bytes at (word n) to → number_at w32 bytes at ≡ Ok (n, to)
unfolding word
word_again bytes at n to lt s = number_again w32 (2 ^ 32) wide32 bytes at n to lt s

pub word_takes : (bytes : List ℕ) (at n to : ℕ) → IsBytes bytes → at ≤ length bytes → number_at w32 bytes at ≡ Ok (n, to) → Stands bytes at (word n) to × (n < 2 ^ 32)
unfolding word
word_takes bytes at n to fits le e = number_takes w32 (2 ^ 32) wide32 bytes at n to fits le e

pub long_again : (bytes : List ℕ) (at n to : ℕ) → n < 2 ^ 64 → Stands bytes at (long n) to → number_at w64 bytes at ≡ Ok (n, to)
unfolding long
long_again bytes at n to lt s = number_again w64 (2 ^ 64) wide64 bytes at n to lt s

pub long_takes : (bytes : List ℕ) (at n to : ℕ) → IsBytes bytes → at ≤ length bytes → number_at w64 bytes at ≡ Ok (n, to) → Stands bytes at (long n) to × (n < 2 ^ 64)
unfolding long
long_takes bytes at n to fits le e = number_takes w64 (2 ^ 64) wide64 bytes at n to fits le e

hyper_below : (z : ℤ) → FitsSigned w64 z → cast_unsigned w64 z < 2 ^ 64
hyper_below z fits = omega (arith, ints, fits)

pub hyper_again : (bytes : List ℕ) (at : ℕ) (z : ℤ) (to : ℕ) → FitsSigned w64 z → Stands bytes at (long (cast_unsigned w64 z)) to → hyper_at bytes at ≡ Ok (z, to)
unfolding hyper_at
hyper_again bytes at z to fits s =
    let read = long_again bytes at (cast_unsigned w64 z) to (hyper_below z fits) s in
    let back = to_z-of_z w64 z fits in
    rw (read, back) refl

pub hyper_fits : (n : ℕ) → n < 2 ^ 64 → FitsSigned w64 (cast_signed w64 n)
hyper_fits n lt = search (rules, lt)

pub hyper_takes : (bytes : List ℕ) (at : ℕ) (z : ℤ) (to : ℕ) → IsBytes bytes → at ≤ length bytes → hyper_at bytes at ≡ Ok (z, to) → FitsSigned w64 z × Stands bytes at (long (cast_unsigned w64 z)) to
unfolding hyper_at
hyper_takes bytes at z to fits le e =
    let a = bind_ok (number_at w64 bytes at) (λ n. Ok (cast_signed w64 n.0, n.1)) (z, to) e in
    let t = long_takes bytes at a.0.0 a.0.1 fits le a.1 in
    let back = of_z-to_z w64 a.0.0 t.1 in
    subst (λ (x : ℤ × ℕ). FitsSigned w64 x.0 × Stands bytes at (long (cast_unsigned w64 x.0)) x.1) (ok_is (cast_signed w64 a.0.0, a.0.1) (z, to) a.2) (hyper_fits a.0.0 t.1, rw back t.0)

-- ---- paddings

pub zero_stands : (bytes : List ℕ) (at : ℕ) → at < length bytes → get_or bytes at 0 ≡ 0 → Stands bytes at (0 ∷ []) (at + 1)
zero_stands bytes at lt e =
    record {
      stands = ap (λ (t : List ℕ). take 1 t) (drop_more bytes at 0 lt) ∙ ap (λ (b : ℕ). b ∷ []) e;
      ends = refl;
      within = omega arith;
    }

pub zero_is : (bytes : List ℕ) (at to : ℕ) → Stands bytes at (0 ∷ []) to → get_or bytes at 0 ≡ 0
zero_is bytes at to s =
    let lt : at < length bytes = omega (arith, s.ends, s.within) in
    let one : get_or bytes at 0 ∷ [] ≡ 0 ∷ [] = sym (ap (λ (t : List ℕ). take 1 t) (drop_more bytes at 0 lt)) ∙ s.stands in
    ap (λ (t : List ℕ). get_or t 0 0) one

pub padding_again : (n : ℕ) (bytes : List ℕ) (at to : ℕ) → Stands bytes at (replicate n 0) to → padding_at n bytes at ≡ Ok to
padding_again zero bytes at to s =
    let same : at ≡ to = omega (arith, s.ends) in
    ap (λ (k : ℕ). Ok k) same
padding_again (suc n) bytes at to s =
    let first = stands_first bytes at (0 ∷ []) (replicate n 0) to s in
    let second = stands_second bytes at (0 ∷ []) (replicate n 0) to s in
    let room : ltb at (length bytes) ≡ true = lt-ltb _ _ (omega (arith, first.ends, first.within)) in
    let is_zero : eqb (get_or bytes at 0) 0 ≡ true = eq-eqb _ _ (zero_is bytes at _ first) in
    rw (room, is_zero) (padding_again n bytes (at + 1) to second)

pub padding_takes : (n : ℕ) (bytes : List ℕ) (at to : ℕ) → at ≤ length bytes → padding_at n bytes at ≡ Ok to → Stands bytes at (replicate n 0) to
padding_takes zero bytes at to le e = subst (λ (k : ℕ). Stands bytes at [] k) (ok_is at to e) (stands_nothing bytes at le)
padding_takes (suc n) bytes at to le e =
    let inner = cond (eqb (get_or bytes at 0) 0) (padding_at n bytes (at + 1)) (Err (record { place = at; why = Pad })) in
    let a = passed (ltb at (length bytes)) (record { place = length bytes; why = Short }) inner to e in
    let b = passed (eqb (get_or bytes at 0) 0) (record { place = at; why = Pad }) (padding_at n bytes (at + 1)) to a.1 in
    let lt : at < length bytes = ltb-true _ _ a.0 in
    let first = zero_stands bytes at lt (eqb-true _ _ b.0) in
    let second = padding_takes n bytes (at + 1) to (omega arith) b.1 in
    stands_join bytes at (0 ∷ []) (at + 1) (replicate n 0) to first second

-- ---- bytes

pub fixed_again : (bytes : List ℕ) (at : ℕ) (text : List ℕ) (to : ℕ) → Stands bytes at (padded text) to → fixed_at (length text) bytes at ≡ Ok (text, to)
unfolding fixed_at padded
fixed_again bytes at text to s =
    let pad = replicate (pad_len (length text)) 0 in
    let first = stands_first bytes at text pad to s in
    let second = stands_second bytes at text pad to s in
    let room : ltb (length bytes) (at + length text) ≡ false = le-ltb _ _ first.within in
    let zeros : padding_at (pad_len (length text)) bytes (at + length text) ≡ Ok to = padding_again (pad_len (length text)) bytes (at + length text) to second in
    rw (room, zeros, first.stands) refl

pub fixed_takes : (n : ℕ) (bytes : List ℕ) (at : ℕ) (text : List ℕ) (to : ℕ) → at ≤ length bytes → fixed_at n bytes at ≡ Ok (text, to) → (length text ≡ n) × (text ≡ take n (drop at bytes)) × Stands bytes at (padded text) to
unfolding fixed_at padded
fixed_takes n bytes at text to le e =
    let g = guard_ok (ltb (length bytes) (at + n)) (record { place = length bytes; why = Short }) (padding_at (pad_len n) bytes (at + n) >>= λ end. Ok (take n (drop at bytes), end)) (text, to) e in
    let room : at + n ≤ length bytes = ltb-false _ _ g.0 in
    let b = bind_ok (padding_at (pad_len n) bytes (at + n)) (λ end. Ok (take n (drop at bytes), end)) (text, to) g.1 in
    let both = ok_is (take n (drop at bytes), b.0) (text, to) b.2 in
    let text-is : take n (drop at bytes) ≡ text = ap (λ (p : List ℕ × ℕ). p.0) both in
    let to-is : b.0 ≡ to = ap (λ (p : List ℕ × ℕ). p.1) both in
    let len : length text ≡ n = rw (← text-is) (omega (arith, length-take n (drop at bytes), length-drop at bytes, room)) in
    let first : Stands bytes at text (at + n) = record { stands = ap (λ (k : ℕ). take k (drop at bytes)) len ∙ text-is; ends = ap (λ (k : ℕ). at + k) (sym len); within = room } in
    let zeros = padding_takes (pad_len n) bytes (at + n) b.0 room b.1 in
    let second : Stands bytes (at + n) (replicate (pad_len (length text)) 0) to = rw (len, ← to-is) zeros in
    (len, sym text-is, stands_join bytes at text (at + n) (replicate (pad_len (length text)) 0) to first second)

-- ---- lengths

pub length_again : (max : ℕ) (bytes : List ℕ) (at n to : ℕ) → max < 2 ^ 32 → n ≤ max → Stands bytes at (word n) to → length_at max bytes at ≡ Ok (n, to)
unfolding length_at
length_again max bytes at n to wide le s =
    let read = word_again bytes at n to (omega arith) s in
    let fits : ltb max n ≡ false = le-ltb _ _ le in
    rw (read, fits) refl

pub length_takes : (max : ℕ) (bytes : List ℕ) (at n to : ℕ) → IsBytes bytes → at ≤ length bytes → length_at max bytes at ≡ Ok (n, to) → Stands bytes at (word n) to × (n ≤ max)
unfolding length_at
length_takes max bytes at n to fits le e =
    let a = bind_ok (number_at w32 bytes at) (λ k. cond (ltb max k.0) (Err (record { place = at; why = TooLong })) (Ok k)) (n, to) e in
    let g = guard_ok (ltb max a.0.0) (record { place = at; why = TooLong }) (Ok a.0) (n, to) a.2 in
    let same = ok_is a.0 (n, to) g.1 in
    let t = word_takes bytes at a.0.0 a.0.1 fits le a.1 in
    let low : a.0.0 ≤ max = ltb-false _ _ g.0 in
    subst (λ (p : ℕ × ℕ). Stands bytes at (word p.0) p.1 × (p.0 ≤ max)) same (t.0, low)

pub opaque_again : (max : ℕ) (bytes : List ℕ) (at : ℕ) (text : List ℕ) (to : ℕ) → max < 2 ^ 32 → length text ≤ max → Stands bytes at (word (length text) ++ padded text) to → opaque_at max bytes at ≡ Ok (text, to)
unfolding opaque_at
opaque_again max bytes at text to wide le s =
    let first = stands_first bytes at (word (length text)) (padded text) to s in
    let second = stands_second bytes at (word (length text)) (padded text) to s in
    rw (length_again max bytes at (length text) _ wide le first) (fixed_again bytes _ text to second)

pub opaque_takes : (max : ℕ) (bytes : List ℕ) (at : ℕ) (text : List ℕ) (to : ℕ) → IsBytes bytes → at ≤ length bytes → opaque_at max bytes at ≡ Ok (text, to) → (length text ≤ max) × Stands bytes at (word (length text) ++ padded text) to
unfolding opaque_at
opaque_takes max bytes at text to fits le e =
    let a = bind_ok (length_at max bytes at) (λ n. fixed_at n.0 bytes n.1) (text, to) e in
    let first = length_takes max bytes at a.0.0 a.0.1 fits le a.1 in
    let second = fixed_takes a.0.0 bytes a.0.1 text to first.0.within a.2 in
    let front : Stands bytes at (word (length text)) a.0.1 = rw second.0 first.0 in
    (omega (arith, second.0, first.1), stands_join bytes at (word (length text)) a.0.1 (padded text) to front second.2)

-- ---- texts

may_begin-utf8 : (n : ℕ) (text : List ℕ) → is_utf8 text ≡ true → may_begin_text n text ≡ true
unfolding may_begin_text
may_begin-utf8 n text e = rw e refl

pub utf8-may_begin : (n : ℕ) (text : List ℕ) → length text ≡ n → may_begin_text n text ≡ true → is_utf8 text ≡ true
unfolding may_begin_text
utf8-may_begin n text len e =
    let short : ltb (length text) n ≡ false = le-ltb _ _ (omega (arith, len)) in
    elim (or_cases (is_utf8 text) _ e) [
      | inl utf8 ↦ utf8
      | inr front ↦ absurd (both_ways _ short (and_parts (ltb (length text) n) _ (and_parts _ _ front).0).0)
    ]

front_of : (bytes : List ℕ) (at : ℕ) (text : List ℕ) (to : ℕ) → Stands bytes at (padded text) to → take (length text) (drop at bytes) ≡ text
unfolding padded
front_of bytes at text to s = (stands_first bytes at text (replicate (pad_len (length text)) 0) to s).stands

pub text_again : (max : ℕ) (bytes : List ℕ) (at : ℕ) (text : List ℕ) (to : ℕ) → max < 2 ^ 32 → length text ≤ max → is_utf8 text ≡ true → Stands bytes at (word (length text) ++ padded text) to → text_at max bytes at ≡ Ok (text, to)
unfolding text_at
text_again max bytes at text to wide le utf8 s =
    let first = stands_first bytes at (word (length text)) (padded text) to s in
    let second = stands_second bytes at (word (length text)) (padded text) to s in
    let place = at + length (word (length text)) in
    let bytes_stand : take (length text) (drop place bytes) ≡ text = front_of bytes place text to second in
    let may : may_begin_text (length text) text ≡ true = may_begin-utf8 (length text) text utf8 in
    rw (length_again max bytes at (length text) _ wide le first, bytes_stand, may) (fixed_again bytes place text to second)

pub text_takes : (max : ℕ) (bytes : List ℕ) (at : ℕ) (text : List ℕ) (to : ℕ) → IsBytes bytes → at ≤ length bytes → text_at max bytes at ≡ Ok (text, to) → (length text ≤ max) × (is_utf8 text ≡ true) × Stands bytes at (word (length text) ++ padded text) to
unfolding text_at
text_takes max bytes at text to fits le e =
    let a = bind_ok (length_at max bytes at) (λ n. cond (may_begin_text n.0 (take n.0 (drop n.1 bytes))) (fixed_at n.0 bytes n.1) (Err (record { place = n.1 + utf8_valid_len (take n.0 (drop n.1 bytes)); why = NotUtf8 }))) (text, to) e in
    let g = passed (may_begin_text a.0.0 (take a.0.0 (drop a.0.1 bytes))) (record { place = a.0.1 + utf8_valid_len (take a.0.0 (drop a.0.1 bytes)); why = NotUtf8 }) (fixed_at a.0.0 bytes a.0.1) (text, to) a.2 in
    let first = length_takes max bytes at a.0.0 a.0.1 fits le a.1 in
    let second = fixed_takes a.0.0 bytes a.0.1 text to first.0.within g.1 in
    let front : Stands bytes at (word (length text)) a.0.1 = rw second.0 first.0 in
    let may : may_begin_text a.0.0 text ≡ true = ap (λ (t : List ℕ). may_begin_text a.0.0 t) second.1 ∙ g.0 in
    (omega (arith, second.0, first.1), utf8-may_begin a.0.0 text second.0 may, stands_join bytes at (word (length text)) a.0.1 (padded text) to front second.2)

-- ---- flags

abbrev pub flag_word : Bool → ℕ
flag_word false = 0
flag_word true = 1

pub flag_again : (bytes : List ℕ) (at : ℕ) (b : Bool) (to : ℕ) → Stands bytes at (word (flag_word b)) to → flag_at bytes at ≡ Ok (b, to)
unfolding flag_at
flag_again bytes at false to s = rw (word_again bytes at 0 to (omega arith) s) refl
flag_again bytes at true to s = rw (word_again bytes at 1 to (omega arith) s) refl

abbrev flag_of : ℕ → ℕ → ℕ → Read Bool
flag_of at n m = cond (eqb n 0) (Ok (false, m)) (cond (eqb n 1) (Ok (true, m)) (Err (record { place = at; why = NotBool })))

flag_cases : (p q : Bool) (d : XdrError) (m : ℕ) (x : Bool × ℕ) → cond p (Ok (false, m)) (cond q (Ok (true, m)) (Err d)) ≡ Ok x → ((p ≡ true) × ((false, m) ≡ x)) ⊎ ((q ≡ true) × ((true, m) ≡ x))
flag_cases true q d m x e = inl (refl, ok_is (false, m) x e)
flag_cases false true d m x e = inr (refl, ok_is (true, m) x e)
flag_cases false false d m x e = absurd cc

flag_of-takes : (bytes : List ℕ) (at n m : ℕ) (b : Bool) (to : ℕ) → Stands bytes at (word n) m → flag_of at n m ≡ Ok (b, to) → Stands bytes at (word (flag_word b)) to
flag_of-takes bytes at n m b to s e =
    elim (flag_cases (eqb n 0) (eqb n 1) (record { place = at; why = NotBool }) m (b, to) e) [
      | inl h ↦ subst (λ (p : Bool × ℕ). Stands bytes at (word (flag_word p.0)) p.1) h.1 (subst (λ (k : ℕ). Stands bytes at (word k) m) (eqb-true n 0 h.0) s)
      | inr h ↦ subst (λ (p : Bool × ℕ). Stands bytes at (word (flag_word p.0)) p.1) h.1 (subst (λ (k : ℕ). Stands bytes at (word k) m) (eqb-true n 1 h.0) s)
    ]

pub flag_takes : (bytes : List ℕ) (at : ℕ) (b : Bool) (to : ℕ) → IsBytes bytes → at ≤ length bytes → flag_at bytes at ≡ Ok (b, to) → Stands bytes at (word (flag_word b)) to
unfolding flag_at
flag_takes bytes at b to fits le e =
    let a = bind_ok (number_at w32 bytes at) (λ n. flag_of at n.0 n.1) (b, to) e in
    let t = word_takes bytes at a.0.0 a.0.1 fits le a.1 in
    flag_of-takes bytes at a.0.0 a.0.1 b to t.0 a.2
