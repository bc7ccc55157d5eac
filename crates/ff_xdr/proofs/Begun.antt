-- Up to a refused place some value has the bytes: numbers, bytes and texts.
use Rattle.std.proofs.Common.{◌≡◌, ℕ, zero, suc, ◌+◌, ◌-◌, ◌<◌, ◌≤◌, Bool, true, false, cond, eqb, ltb, List, [], ◌∷◌, ◌++◌, length, get_or, take, drop, replicate, Result, Ok, Err, refl, sym, ap, subst, ◌∙◌, append_assoc, arith, inl, inr}
use Rattle.std.specs.Prelude.{◌⊎◌}
use Rattle.std.specs.Int.{Width, w32, w64, byte_len, from_be_bytes, cast_signed}
use Rattle.std.specs.Str.{is_utf8, IsAscii}
use Rattle.std.specs.Str.Lossy.{utf8_valid_len}
use Rattle.std.proofs.lemmas.Str.{is_utf8-from_IsUtf8, IsUtf8-append, IsUtf8-nil, IsUtf8-from_ascii, utf8_valid_len_le}
use Rattle.std.proofs.lemmas.Bool.{ltb-true, ltb-false, eqb-true, cases_Bool, cases_lt}
use Rattle.std.proofs.lemmas.List.{length-take, length-take-le, length-drop, length-append, length-replicate, take-take, get_or-replicate, get_or_past, replicate-append-replicate}
use Rattle.ff_xdr.specs.declared.error.XdrError.{XdrError}
use Rattle.ff_xdr.specs.declared.error.XdrWhy.TheVariants.{Short, Pad, NotBool, TooLong, NotUtf8}
use Rattle.ff_xdr.specs.Form.{word, pad_len, padded}
use Rattle.ff_xdr.specs.Laws.{IsBytes, Stands}
use Rattle.ff_xdr.specs.Reading.{◌>>=◌, number_at, hyper_at, padding_at, fixed_at, length_at, opaque_at, flag_at, text_at, may_begin_text}
use Rattle.ff_xdr.proofs.Places.{err_is, stands_nothing, stands_join}
use Rattle.ff_xdr.proofs.Fields.{length_takes, zero_stands, utf8-may_begin}
use Rattle.ff_xdr.proofs.Sequences.{valid_front}

-- a value whose spelling begins with the bytes from one place up to the other
pub record Begun {V : Type 0} (spell : V → List ℕ) (P : V → Type 0) (bytes : List ℕ) (at place : ℕ) : Type 0 where
  pub value : V
  pub fits : P value
  pub part : List ℕ
  pub rest : List ℕ
  pub spelt : spell value ≡ part ++ rest
  pub there : Stands bytes at part place

-- none of its bytes, up to where it stands itself
pub begun_nothing : {V : Type 0} (spell : V → List ℕ) (P : V → Type 0) (bytes : List ℕ) (at place : ℕ) (v : V) → P v → at ≤ length bytes → place ≡ at → Begun spell P bytes at place
begun_nothing spell P bytes at place v fits le same =
    record {
      value = v;
      fits = fits;
      part = [];
      rest = spell v;
      spelt = refl;
      there = subst (λ (k : ℕ). Stands bytes at [] k) (sym same) (stands_nothing bytes at le);
    }

module _ {V W : Type 0} (spell : V → List ℕ) (P : V → Type 0) (outer : W → List ℕ) (Q : W → Type 0) (make : V → W) (bytes : List ℕ) (at place : ℕ) where
  -- a value with something behind it
  pub begun_first : (tail : V → List ℕ) → ((v : V) → P v → Q (make v)) → ((v : V) → P v → outer (make v) ≡ spell v ++ tail v) → Begun spell P bytes at place → Begun outer Q bytes at place
  begun_first tail fit same b =
      record {
        value = make b.value;
        fits = fit b.value b.fits;
        part = b.part;
        rest = b.rest ++ tail b.value;
        spelt = same b.value b.fits ∙ ap (λ (t : List ℕ). t ++ tail b.value) b.spelt ∙ append_assoc b.part b.rest (tail b.value);
        there = b.there;
      }

  -- a value behind something that stands
  pub begun_second : (front : List ℕ) (m : ℕ) → Stands bytes at front m → ((v : V) → P v → Q (make v)) → ((v : V) → P v → outer (make v) ≡ front ++ spell v) → Begun spell P bytes m place → Begun outer Q bytes at place
  begun_second front m s fit same b =
      record {
        value = make b.value;
        fits = fit b.value b.fits;
        part = front ++ b.part;
        rest = b.rest;
        spelt = same b.value b.fits ∙ ap (λ (t : List ℕ). front ++ t) b.spelt ∙ sym (append_assoc front b.part b.rest);
        there = stands_join bytes at front m b.part place s b.there;
      }

-- ---- steps that failed

-- the first of two steps failed, or the second
pub bind_err : {A B : Type 0} (r : Result A XdrError) (f : A → Result B XdrError) (e : XdrError) → (r >>= f) ≡ Err e → (r ≡ Err e) ⊎ ((x : A) × (r ≡ Ok x) × (f x ≡ Err e))
bind_err (Ok x) f e is = inr (x, refl, is)
bind_err (Err d) f e is = inl (ap Err (sym (err_is d e is)))

pub not_err : {A B : Type 0} (r : Result A XdrError) (f : A → B) (e : XdrError) → (r >>= λ x. Ok (f x)) ≡ Err e → r ≡ Err e
not_err (Ok x) f e is = absurd cc
not_err (Err d) f e is = ap Err (sym (err_is d e is))

-- the one test that refuses
pub fails : {A : Type 0} (t : Bool) (d : XdrError) (x : A) (e : XdrError) → cond t (Err d) (Ok x) ≡ Err e → e ≡ d
fails true d x e is = err_is d e is
fails false d x e is = absurd cc

pub fails_else : {A : Type 0} (t : Bool) (x : A) (d e : XdrError) → cond t (Ok x) (Err d) ≡ Err e → e ≡ d
fails_else true x d e is = absurd cc
fails_else false x d e is = err_is d e is

-- ---- numbers

number_short : (w : Width) (bytes : List ℕ) (at : ℕ) (e : XdrError) → number_at w bytes at ≡ Err e → e.why ≡ Short
unfolding number_at
number_short w bytes at e is = ap (λ (d : XdrError). d.why) (fails (ltb (length bytes) (at + byte_len w)) (record { place = length bytes; why = Short }) (from_be_bytes w (take (byte_len w) (drop at bytes)), at + byte_len w) e is)

-- a number is not refused but as short
pub number_read : {B : Type 0} (w : Width) (bytes : List ℕ) (at : ℕ) (f : ℕ × ℕ → Result B XdrError) (e : XdrError) → (number_at w bytes at >>= f) ≡ Err e → ¬ (e.why ≡ Short) → (x : ℕ × ℕ) × (number_at w bytes at ≡ Ok x) × (f x ≡ Err e)
number_read w bytes at f e is other =
    elim (bind_err (number_at w bytes at) f e is) [
      | inl short ↦ absurd (other (number_short w bytes at e short))
      | inr h ↦ h
    ]

pub number_refused : (w : Width) (bytes : List ℕ) (at : ℕ) (e : XdrError) → number_at w bytes at ≡ Err e → ¬ (e.why ≡ Short) → ⊥
number_refused w bytes at e is other = other (number_short w bytes at e is)

pub hyper_refused : (bytes : List ℕ) (at : ℕ) (e : XdrError) → hyper_at bytes at ≡ Err e → ¬ (e.why ≡ Short) → ⊥
unfolding hyper_at
hyper_refused bytes at e is other = number_refused w64 bytes at e (not_err (number_at w64 bytes at) (λ n. (cast_signed w64 n.0, n.1)) e is) other

-- what is wrong with a length is its word
pub length_refused : (max : ℕ) (bytes : List ℕ) (at : ℕ) (e : XdrError) → length_at max bytes at ≡ Err e → ¬ (e.why ≡ Short) → e.place ≡ at
unfolding length_at
length_refused max bytes at e is other =
    let h = number_read w32 bytes at (λ n. cond (ltb max n.0) (Err (record { place = at; why = TooLong })) (Ok n)) e is other in
    ap (λ (d : XdrError). d.place) (fails (ltb max h.0.0) (record { place = at; why = TooLong }) h.0 e h.2)

fails_twice : {A : Type 0} (t u : Bool) (x y : A) (d e : XdrError) → cond t (Ok x) (cond u (Ok y) (Err d)) ≡ Err e → e ≡ d
fails_twice true u x y d e is = absurd cc
fails_twice false u x y d e is = fails_else u y d e is

pub flag_refused : (bytes : List ℕ) (at : ℕ) (e : XdrError) → flag_at bytes at ≡ Err e → ¬ (e.why ≡ Short) → e.place ≡ at
unfolding flag_at
flag_refused bytes at e is other =
    let h = number_read w32 bytes at (λ n. cond (eqb n.0 0) (Ok (false, n.1)) (cond (eqb n.0 1) (Ok (true, n.1)) (Err (record { place = at; why = NotBool })))) e is other in
    ap (λ (d : XdrError). d.place) (fails_twice (eqb h.0.0 0) (eqb h.0.0 1) (false, h.0.1) (true, h.0.1) (record { place = at; why = NotBool }) e h.2)

-- ---- bytes

-- zeros stand up to the refused place
pub record Zeros (n : ℕ) (bytes : List ℕ) (at place : ℕ) : Type 0 where
  pub count : ℕ
  pub few : count ≤ n
  pub there : Stands bytes at (replicate count 0) place

padding_refused : (n : ℕ) (bytes : List ℕ) (at : ℕ) (e : XdrError) → at ≤ length bytes → padding_at n bytes at ≡ Err e → ¬ (e.why ≡ Short) → Zeros n bytes at e.place
padding_refused zero bytes at e le is other = absurd cc
padding_refused (suc n) bytes at e le is other =
    elim (cases_Bool (ltb at (length bytes))) [
      | inl within ↦
          let here : cond (eqb (get_or bytes at 0) 0) (padding_at n bytes (at + 1)) (Err (record { place = at; why = Pad })) ≡ Err e = rw within at is in
          elim (cases_Bool (eqb (get_or bytes at 0) 0)) [
            | inl none ↦
                let lt : at < length bytes = ltb-true _ _ within in
                let z = padding_refused n bytes (at + 1) e (omega arith) (rw none at here) other in
                record { count = suc z.count; few = omega (arith, z.few); there = stands_join bytes at (0 ∷ []) (at + 1) (replicate z.count 0) e.place (zero_stands bytes at lt (eqb-true _ _ none)) z.there }
            | inr some ↦
                let place : e.place ≡ at = ap (λ (d : XdrError). d.place) (err_is {A = ℕ} (record { place = at; why = Pad }) e (rw some at here)) in
                record { count = 0; few = omega arith; there = subst (λ (k : ℕ). Stands bytes at [] k) (sym place) (stands_nothing bytes at le) }
          ]
      | inr past ↦ absurd (other (ap (λ (d : XdrError). d.why) (err_is {A = ℕ} (record { place = length bytes; why = Short }) e (rw past at is))))
    ]

-- the bytes stand, and what is wrong is their padding
pub fixed_refused : (n : ℕ) (bytes : List ℕ) (at : ℕ) (e : XdrError) → fixed_at n bytes at ≡ Err e → ¬ (e.why ≡ Short) → (at + n ≤ length bytes) × Zeros (pad_len n) bytes (at + n) e.place
unfolding fixed_at
fixed_refused n bytes at e is other =
    elim (cases_Bool (ltb (length bytes) (at + n))) [
      | inl short ↦ absurd (other (ap (λ (d : XdrError). d.why) (err_is {A = List ℕ × ℕ} (record { place = length bytes; why = Short }) e (rw short at is))))
      | inr room ↦
          let le : at + n ≤ length bytes = ltb-false _ _ room in
          (le, padding_refused (pad_len n) bytes (at + n) e le (not_err (padding_at (pad_len n) bytes (at + n)) (λ to. (take n (drop at bytes), to)) e (rw room at is)) other)
    ]

pub zeros_split : (k n : ℕ) → k ≤ n → replicate {A = ℕ} n 0 ≡ replicate k 0 ++ replicate (n - k) 0
zeros_split k n le =
    let sum : n ≡ k + (n - k) = omega (arith, le) in
    ap (λ (j : ℕ). replicate j 0) sum ∙ sym (replicate-append-replicate k (n - k) 0)

pub length-part : (n : ℕ) (bytes : List ℕ) (at : ℕ) → at + n ≤ length bytes → length (take n (drop at bytes)) ≡ n
length-part n bytes at room = omega (arith, length-take n (drop at bytes), length-drop at bytes, room)

pub begun_fixed : (P : List ℕ → Type 0) (n : ℕ) (bytes : List ℕ) (at : ℕ) (e : XdrError) → fixed_at n bytes at ≡ Err e → ¬ (e.why ≡ Short) → (length (take n (drop at bytes)) ≡ n → P (take n (drop at bytes))) → Begun padded P bytes at e.place
unfolding padded
begun_fixed P n bytes at e is other fit =
    let text = take n (drop at bytes) in
    let h = fixed_refused n bytes at e is other in
    let room : at + n ≤ length bytes = h.0 in
    let len : length text ≡ n = length-part n bytes at room in
    let first : Stands bytes at text (at + n) = record { stands = ap (λ (k : ℕ). take k (drop at bytes)) len; ends = ap (λ (k : ℕ). at + k) (sym len); within = room } in
    let few : h.1.count ≤ pad_len (length text) = subst (λ (k : ℕ). h.1.count ≤ pad_len k) (sym len) h.1.few in
    let zeros : replicate (pad_len (length text)) 0 ≡ replicate h.1.count 0 ++ replicate (pad_len (length text) - h.1.count) 0 = zeros_split h.1.count (pad_len (length text)) few in
    record {
      value = text;
      fits = fit len;
      part = text ++ replicate h.1.count 0;
      rest = replicate (pad_len (length text) - h.1.count) 0;
      spelt = ap (λ (t : List ℕ). text ++ t) zeros ∙ sym (append_assoc text (replicate h.1.count 0) (replicate (pad_len (length text) - h.1.count) 0));
      there = stands_join bytes at text (at + n) (replicate h.1.count 0) e.place first h.1.there;
    }

-- bytes behind their length
abbrev pub counted : List ℕ → List ℕ
counted bytes = word (length bytes) ++ padded bytes

behind_length : (P : List ℕ → Type 0) (n : ℕ) (bytes : List ℕ) (at m place : ℕ) → Stands bytes at (word n) m → Begun padded (λ text. (length text ≡ n) × P text) bytes m place → Begun counted P bytes at place
behind_length P n bytes at m place s b =
    begun_second padded (λ text. (length text ≡ n) × P text) counted P (λ text. text) bytes at place (word n) m s (λ text fits. fits.1) (λ text fits. ap (λ (k : ℕ). word k ++ padded text) fits.0) b

pub begun_opaque : (max : ℕ) (bytes : List ℕ) (at : ℕ) (e : XdrError) → IsBytes bytes → at ≤ length bytes → opaque_at max bytes at ≡ Err e → ¬ (e.why ≡ Short) → Begun counted (λ text. length text ≤ max) bytes at e.place
unfolding opaque_at
begun_opaque max bytes at e fits le is other =
    elim (bind_err (length_at max bytes at) (λ n. fixed_at n.0 bytes n.1) e is) [
      | inl h ↦ begun_nothing counted (λ text. length text ≤ max) bytes at e.place [] (omega arith) le (length_refused max bytes at e h other)
      | inr h ↦
          let t = length_takes max bytes at h.0.0 h.0.1 fits le h.1 in
          behind_length (λ text. length text ≤ max) h.0.0 bytes at h.0.1 e.place t.0
          (begun_fixed (λ text. (length text ≡ h.0.0) × (length text ≤ max)) h.0.0 bytes h.0.1 e h.2 other (λ len. (len, omega (arith, len, t.1))))
    ]

-- ---- texts

pub zeros_ascii : (n : ℕ) → IsAscii (replicate n 0)
zeros_ascii n = λ i. elim (cases_lt i n) [
  | inl lt ↦ rw (get_or-replicate {A = ℕ} n i 0 0 lt) (omega arith)
  | inr past ↦ rw (get_or_past {X = ℕ} (replicate n 0) i 0 (omega (arith, past, length-replicate {A = ℕ} n 0))) (omega arith)
]

-- A text that is right up to a place goes on there with zeros.
begun_fault : (P : List ℕ → Type 0) (n : ℕ) (bytes : List ℕ) (at : ℕ) → at ≤ length bytes → ((text : List ℕ) → length text ≡ n → is_utf8 text ≡ true → P text) → Begun padded P bytes at (at + utf8_valid_len (take n (drop at bytes)))
unfolding padded
begun_fault P n bytes at le fit =
    let front = take n (drop at bytes) in
    let v = utf8_valid_len front in
    let within : v ≤ length front = utf8_valid_len_le front in
    let size = length-take n (drop at bytes) in
    let room : v ≤ n = omega (arith, within, size) in
    let len : length (take v front) ≡ v = length-take-le v front within in
    let more : List ℕ = replicate (n - v) 0 in
    let text = take v front ++ more in
    let pad : List ℕ = replicate (pad_len (length text)) 0 in
    record {
      value = text;
      fits = fit text
          (omega (arith, length-append (take v front) more, len, length-replicate {A = ℕ} (n - v) 0, room))
          (is_utf8-from_IsUtf8 text (IsUtf8-append (take v front) more (valid_front front) (IsUtf8-from_ascii more (zeros_ascii (n - v)))));
      part = take v front;
      rest = more ++ pad;
      spelt = append_assoc (take v front) more pad;
      there = record {
        stands = ap (λ (k : ℕ). take k (drop at bytes)) len ∙ sym (take-take v n (drop at bytes) room);
        ends = ap (λ (k : ℕ). at + k) (sym len);
        within = omega (arith, within, size, length-drop at bytes, le);
      };
    }

pub begun_text : (max : ℕ) (bytes : List ℕ) (at : ℕ) (e : XdrError) → IsBytes bytes → at ≤ length bytes → text_at max bytes at ≡ Err e → ¬ (e.why ≡ Short) → Begun counted (λ text. (length text ≤ max) × (is_utf8 text ≡ true)) bytes at e.place
unfolding text_at
begun_text max bytes at e fits le is other =
    elim (bind_err (length_at max bytes at) (λ n. cond (may_begin_text n.0 (take n.0 (drop n.1 bytes))) (fixed_at n.0 bytes n.1) (Err (record { place = n.1 + utf8_valid_len (take n.0 (drop n.1 bytes)); why = NotUtf8 }))) e is) [
      | inl h ↦ begun_nothing counted (λ text. (length text ≤ max) × (is_utf8 text ≡ true)) bytes at e.place [] (omega arith, is_utf8-from_IsUtf8 [] IsUtf8-nil) le (length_refused max bytes at e h other)
      | inr h ↦
          let n = h.0.0 in
          let m = h.0.1 in
          let text = take n (drop m bytes) in
          let t = length_takes max bytes at n m fits le h.1 in
          behind_length (λ text. (length text ≤ max) × (is_utf8 text ≡ true)) n bytes at m e.place t.0
          (elim (cases_Bool (may_begin_text n text)) [
            | inl may ↦
                begun_fixed (λ text. (length text ≡ n) × ((length text ≤ max) × (is_utf8 text ≡ true))) n bytes m e (rw may at h.2) other (λ len. (len, (omega (arith, len, t.1), utf8-may_begin n text len may)))
            | inr fault ↦
                let place : e.place ≡ m + utf8_valid_len text = ap (λ (d : XdrError). d.place) (err_is {A = List ℕ × ℕ} (record { place = m + utf8_valid_len text; why = NotUtf8 }) e (rw fault at h.2)) in
                let fault_begun = begun_fault (λ a. (length a ≡ n) × ((length a ≤ max) × (is_utf8 a ≡ true))) n bytes m t.0.within (λ a len utf8. (len, (omega (arith, len, t.1), utf8))) in
                subst (λ (k : ℕ). Begun padded (λ a. (length a ≡ n) × ((length a ≤ max) × (is_utf8 a ≡ true))) bytes m k) (sym place) fault_begun
          ])
    ]
