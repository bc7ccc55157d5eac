-- Where a reading stops in bytes and in texts.
use Rattle.std.proofs.Common.{◌≡◌, ℕ, ◌+◌, ◌-◌, ◌<◌, ◌≤◌, true, false, cond, ltb, List, [], ◌++◌, length, take, drop, replicate, Err, refl, sym, ap, subst, ◌∙◌, append_assoc, arith, inl, inr}
use Rattle.std.specs.Prelude.{◌⊎◌}
use Rattle.std.specs.Str.{is_utf8, IsUtf8}
use Rattle.std.specs.Str.Lossy.{utf8_valid_len}
use Rattle.std.proofs.lemmas.Str.{is_utf8-from_IsUtf8, IsUtf8-append, IsUtf8-nil, IsUtf8-from_ascii, utf8_valid_len_le}
use Rattle.std.proofs.lemmas.Bool.{ltb-true, ltb-false, cases_Bool, cases_lt, both_ways}
use Rattle.std.proofs.lemmas.List.{length-take, length-take-le, length-drop, length-append, length-replicate, take_at, take_all, take-take, drop-take, drop-drop, take-append-drop}
use Rattle.ff_xdr.specs.declared.error.XdrError.{XdrError}
use Rattle.ff_xdr.specs.declared.error.XdrWhy.TheVariants.{Short, NotUtf8}
use Rattle.ff_xdr.specs.Form.{word, pad_len, padded}
use Rattle.ff_xdr.specs.Laws.{IsBytes, Stands}
use Rattle.ff_xdr.specs.Reading.{padding_at, fixed_at, length_at, opaque_at, text_at, may_begin_text}
use Rattle.ff_xdr.specs.Faults.{BeginsString, Item, Length, Padding, Sequence, IsFront, IsBehind, IsPaddingOf, IsSequenceOf}
use Rattle.ff_xdr.proofs.Places.{err_is, stands_join}
use Rattle.ff_xdr.proofs.Fields.{length-word, length_takes, utf8-may_begin}
use Rattle.ff_xdr.proofs.Sequences.{valid_front}
use Rattle.ff_xdr.proofs.Utf8.{may_begin_utf8}
use Rattle.ff_xdr.proofs.TextParts.{may_begin_rest, valid_len_rest}
use Rattle.ff_xdr.proofs.TextGoesOn.{beginning_right}
use Rattle.ff_xdr.proofs.Begun.{bind_err, not_err, counted, zeros_split, length-part, zeros_ascii}
use Rattle.ff_xdr.proofs.Stopped.{IsTrouble, Stopped, stopped_here, stopped_second, length_trouble, rest_stands, padding_stop}

pub length-padded : (bytes : List ℕ) → length (padded bytes) ≡ length bytes + pad_len (length bytes)
unfolding padded
length-padded bytes = omega (arith, length-append bytes (replicate (pad_len (length bytes)) 0), length-replicate {A = ℕ} (pad_len (length bytes)) 0)

-- ---- bytes

module _ (P : List ℕ → Type 0) (items : List ℕ → ℕ → Item → Type 0) (n : ℕ) (bytes : List ℕ) (at : ℕ) (e : XdrError) where
  -- the bytes end in the bytes themselves, which go on with zeros
  pub stopped_within : at ≤ length bytes → length bytes < at + n → e.why ≡ Short → ((text : List ℕ) → length text ≡ n → P text) → Stopped padded P items bytes at e
  unfolding padded
  stopped_within le cut short fit =
      let here = drop at bytes in
      let size = length-drop at bytes in
      let zeros : List ℕ = replicate (n - length here) 0 in
      let text = here ++ zeros in
      let pad : List ℕ = replicate (pad_len (length text)) 0 in
      let len : length text ≡ n = omega (arith, length-append here zeros, length-replicate {A = ℕ} (n - length here) 0, size, cut, le) in
      record {
        value = text;
        fits = fit text len;
        part = here;
        rest = zeros ++ pad;
        spelt = append_assoc here zeros pad;
        to = length bytes;
        there = rest_stands bytes at le;
        stop = inl (short, refl, omega (arith, length-append text pad, len, size, cut, le));
      }

  -- the bytes stand, and the reading stops in their padding
  pub stopped_padding : at + n ≤ length bytes → padding_at (pad_len n) bytes (at + n) ≡ Err e → (length (take n (drop at bytes)) ≡ n → P (take n (drop at bytes)))
      → ((text : List ℕ) (k : ℕ) (item : Item) → IsPaddingOf text k item → items text k item) → Stopped padded P items bytes at e
  unfolding padded
  stopped_padding room is fit lift =
      let text = take n (drop at bytes) in
      let len : length text ≡ n = length-part n bytes at room in
      let first : Stands bytes at text (at + n) = record { stands = ap (λ (k : ℕ). take k (drop at bytes)) len; ends = ap (λ (k : ℕ). at + k) (sym len); within = room } in
      let h = padding_stop (pad_len n) bytes (at + n) e room is in
      let few : h.count < pad_len (length text) = subst (λ (k : ℕ). h.count < pad_len k) (sym len) h.few in
      let zeros = zeros_split h.count (pad_len (length text)) (omega (arith, few)) in
      let part = text ++ replicate h.count 0 in
      let part-len : length part ≡ length text + h.count = omega (arith, length-append text (replicate h.count 0), length-replicate {A = ℕ} h.count 0) in
      let size : length (padded text) ≡ length text + pad_len (length text) = length-padded text in
      let within : length part < length (padded text) = omega (arith, part-len, size, few) in
      record {
        value = text;
        fits = fit len;
        part = part;
        rest = replicate (pad_len (length text) - h.count) 0;
        spelt = ap (λ (t : List ℕ). text ++ t) zeros ∙ sym (append_assoc text (replicate h.count 0) (replicate (pad_len (length text) - h.count) 0));
        to = h.to;
        there = stands_join bytes at text (at + n) (replicate h.count 0) h.to first h.there;
        stop = elim h.why [
          | inl short ↦ inl (short.0, short.1, within)
          | inr wrong ↦ inr (Padding, lift text (length part) Padding (omega (arith, part-len), within, refl), inl wrong)
        ];
      }

-- the room that the bytes want, or their padding
pub fixed_err : (n : ℕ) (bytes : List ℕ) (at : ℕ) (e : XdrError) → fixed_at n bytes at ≡ Err e → ((length bytes < at + n) × (e.why ≡ Short)) ⊎ ((at + n ≤ length bytes) × (padding_at (pad_len n) bytes (at + n) ≡ Err e))
unfolding fixed_at
fixed_err n bytes at e is =
    elim (cases_Bool (ltb (length bytes) (at + n))) [
      | inl cut ↦ inl (ltb-true _ _ cut, ap (λ (d : XdrError). d.why) (err_is {A = List ℕ × ℕ} (record { place = length bytes; why = Short }) e (rw cut at is)))
      | inr room ↦ inr (ltb-false _ _ room, not_err (padding_at (pad_len n) bytes (at + n)) (λ to. (take n (drop at bytes), to)) e (rw room at is))
    ]

pub fixed_stopped : (P : List ℕ → Type 0) (n : ℕ) (bytes : List ℕ) (at : ℕ) (e : XdrError) → at ≤ length bytes → ((text : List ℕ) → length text ≡ n → P text) → fixed_at n bytes at ≡ Err e → Stopped padded P (λ text k item. IsPaddingOf text k item) bytes at e
fixed_stopped P n bytes at e le fit is =
    elim (fixed_err n bytes at e is) [
      | inl cut ↦ stopped_within P (λ text k item. IsPaddingOf text k item) n bytes at e le cut.0 cut.1 fit
      | inr h ↦ stopped_padding P (λ text k item. IsPaddingOf text k item) n bytes at e h.0 h.1 (λ len. fit (take n (drop at bytes)) len) (λ text k item has. has)
    ]

-- ---- bytes behind their length

abbrev pub counted_items : ℕ → (List ℕ → ℕ → Item → Type 0) → List ℕ → ℕ → Item → Type 0
counted_items max items text k item = IsFront k item (Length max) ⊎ IsBehind 4 k (λ j. items text j item)

stopped_counted : (P : List ℕ → Type 0) (items : List ℕ → ℕ → Item → Type 0) (max n : ℕ) (bytes : List ℕ) (at m : ℕ) (e : XdrError) → Stands bytes at (word n) m
    → Stopped padded (λ text. (length text ≡ n) × P text) items bytes m e → Stopped counted P (counted_items max items) bytes at e
stopped_counted P items max n bytes at m e s h =
    stopped_second padded (λ text. (length text ≡ n) × P text) items counted P (counted_items max items) (λ text. text) bytes at e (word n) m s
    (λ text fits. fits.1) (λ text fits. ap (λ (k : ℕ). word k ++ padded text) fits.0)
    (λ text k item has. inr (k, ap (λ (l : ℕ). l + k) (length-word n), has)) h

pub opaque_stopped : (max : ℕ) (bytes : List ℕ) (at : ℕ) (e : XdrError) → IsBytes bytes → at ≤ length bytes → opaque_at max bytes at ≡ Err e
    → Stopped counted (λ text. length text ≤ max) (counted_items max (λ text k item. IsPaddingOf text k item)) bytes at e
unfolding opaque_at
opaque_stopped max bytes at e fits le is =
    elim (bind_err (length_at max bytes at) (λ n. fixed_at n.0 bytes n.1) e is) [
      | inl h ↦ stopped_here counted (λ text. length text ≤ max) (counted_items max (λ text k item. IsPaddingOf text k item)) bytes at e [] (omega arith) le (Length max) (inl (refl, refl)) (length_trouble max bytes at e h)
      | inr h ↦
          let t = length_takes max bytes at h.0.0 h.0.1 fits le h.1 in
          stopped_counted (λ text. length text ≤ max) (λ text k item. IsPaddingOf text k item) max h.0.0 bytes at h.0.1 e t.0
          (fixed_stopped (λ text. (length text ≡ h.0.0) × (length text ≤ max)) h.0.0 bytes h.0.1 e t.0.within (λ text len. (len, omega (arith, len, t.1))) h.2)
    ]

-- ---- texts

abbrev pub text_items : List ℕ → ℕ → Item → Type 0
text_items text k item = IsSequenceOf text k item ⊎ IsPaddingOf text k item

-- a text that is right up to a place, and stops there at a sequence, goes on with zeros
sequence_stopped : (P : List ℕ → Type 0) (n : ℕ) (bytes : List ℕ) (at : ℕ) (e : XdrError) → at ≤ length bytes → utf8_valid_len (take n (drop at bytes)) < n
    → IsTrouble e bytes (Sequence (n - utf8_valid_len (take n (drop at bytes)))) (at + utf8_valid_len (take n (drop at bytes)))
    → ((text : List ℕ) → length text ≡ n → is_utf8 text ≡ true → P text) → Stopped padded P text_items bytes at e
unfolding padded
sequence_stopped P n bytes at e le room trouble fit =
    let front = take n (drop at bytes) in
    let v = utf8_valid_len front in
    let within : v ≤ length front = utf8_valid_len_le front in
    let size = length-take n (drop at bytes) in
    let part = take v front in
    let len : length part ≡ v = length-take-le v front within in
    let more : List ℕ = replicate (n - v) 0 in
    let text = part ++ more in
    let pad : List ℕ = replicate (pad_len (length text)) 0 in
    let text-len : length text ≡ n = omega (arith, length-append part more, len, length-replicate {A = ℕ} (n - v) 0, room) in
    let begins : IsUtf8 (take (length part) text) = subst IsUtf8 (sym (take_at part more (length part) refl)) (valid_front front) in
    let left : Sequence (n - v) ≡ Sequence (length text - length part) = ap Sequence (omega (arith, text-len, len)) in
    record {
      value = text;
      fits = fit text text-len (is_utf8-from_IsUtf8 text (IsUtf8-append part more (valid_front front) (IsUtf8-from_ascii more (zeros_ascii (n - v)))));
      part = part;
      rest = more ++ pad;
      spelt = append_assoc part more pad;
      to = at + v;
      there = record {
        stands = ap (λ (k : ℕ). take k (drop at bytes)) len ∙ sym (take-take v n (drop at bytes) (omega (arith, room)));
        ends = ap (λ (k : ℕ). at + k) (sym len);
        within = omega (arith, within, size, length-drop at bytes, le);
      };
      stop = inr (Sequence (n - v), inl (omega (arith, text-len, len, room), is_utf8-from_IsUtf8 _ begins, left), trouble);
    }

-- what stands of the rest of a text
rest_of_text : (n v : ℕ) (bytes : List ℕ) (at : ℕ) → v ≤ n → take (n - v) (drop (at + v) bytes) ≡ drop v (take n (drop at bytes))
rest_of_text n v bytes at le =
    let sum : v + (n - v) ≡ n = omega (arith, le) in
    ap (λ (t : List ℕ). take (n - v) t) (sym (drop-drop v at bytes)) ∙ sym (drop-take v (n - v) (drop at bytes)) ∙ ap (λ (k : ℕ). drop v (take k (drop at bytes))) sum

-- where bytes that are no text stop being one
fault_stopped : (P : List ℕ → Type 0) (n : ℕ) (bytes : List ℕ) (at : ℕ) (e : XdrError) → at ≤ length bytes → may_begin_text n (take n (drop at bytes)) ≡ false
    → e ≡ record { place = at + utf8_valid_len (take n (drop at bytes)); why = NotUtf8 }
    → ((text : List ℕ) → length text ≡ n → is_utf8 text ≡ true → P text) → Stopped padded P text_items bytes at e
fault_stopped P n bytes at e le fault same fit =
    let front = take n (drop at bytes) in
    let v = utf8_valid_len front in
    let within : v ≤ length front = utf8_valid_len_le front in
    let size = length-take n (drop at bytes) in
    let room : v < n = elim (cases_lt v n) [
      | inl lt ↦ lt
      | inr all ↦ absurd (both_ways _ fault (may_begin_utf8 n front (subst IsUtf8 (take_all v front (omega (arith, all, size))) (valid_front front))))
    ] in
    let rest = rest_of_text n v bytes at (omega (arith, room)) in
    let stands = take (n - v) (drop (at + v) bytes) in
    let wrong : may_begin_text (n - v) stands ≡ false = ap (λ (t : List ℕ). may_begin_text (n - v) t) rest ∙ may_begin_rest n front (omega (arith, room)) ∙ fault in
    let begins : ¬ (BeginsString (n - v) stands) = λ h. both_ways _ wrong ((beginning_right (n - v) stands (omega (arith, length-take (n - v) (drop (at + v) bytes)))).1 h) in
    let none : utf8_valid_len (take (n - v) (drop (at + v) bytes)) ≡ 0 = ap utf8_valid_len rest ∙ valid_len_rest front in
    sequence_stopped P n bytes at e le room (subst (λ (d : XdrError). IsTrouble d bytes (Sequence (n - v)) (at + v)) (sym same) (inl (refl, (begins, none)))) fit

-- the bytes end in what some text begins with
begun_stopped : (P : List ℕ → Type 0) (n : ℕ) (bytes : List ℕ) (at : ℕ) (e : XdrError) → at ≤ length bytes → length bytes < at + n → e.why ≡ Short
    → (text : List ℕ) → length text ≡ n → P text → take (length (drop at bytes)) text ≡ drop at bytes → Stopped padded P text_items bytes at e
unfolding padded
begun_stopped P n bytes at e le cut short text len fit begins =
    let here = drop at bytes in
    let rest = drop (length here) text in
    let pad : List ℕ = replicate (pad_len (length text)) 0 in
    let split : text ≡ here ++ rest = sym (take-append-drop (length here) text) ∙ ap (λ (t : List ℕ). t ++ rest) begins in
    record {
      value = text;
      fits = fit;
      part = here;
      rest = rest ++ pad;
      spelt = ap (λ (t : List ℕ). t ++ pad) split ∙ append_assoc here rest pad;
      to = length bytes;
      there = rest_stands bytes at le;
      stop = inl (short, refl, omega (arith, length-append text pad, len, length-drop at bytes, cut, le));
    }

cut_stopped : (P : List ℕ → Type 0) (n : ℕ) (bytes : List ℕ) (at : ℕ) (e : XdrError) → at ≤ length bytes → may_begin_text n (take n (drop at bytes)) ≡ true → length bytes < at + n → e.why ≡ Short
    → ((text : List ℕ) → length text ≡ n → is_utf8 text ≡ true → P text) → Stopped padded P text_items bytes at e
cut_stopped P n bytes at e le may cut short fit =
    let here = drop at bytes in
    let few : length here ≤ n = omega (arith, length-drop at bytes, cut, le) in
    let begins : may_begin_text n here ≡ true = subst (λ (t : List ℕ). may_begin_text n t ≡ true) (take_all n here few) may in
    let h = (beginning_right n here few).0 begins in
    begun_stopped P n bytes at e le cut short h.0 h.1 (fit h.0 h.1 h.2) h.3

pub text_stopped : (max : ℕ) (bytes : List ℕ) (at : ℕ) (e : XdrError) → IsBytes bytes → at ≤ length bytes → text_at max bytes at ≡ Err e
    → Stopped counted (λ text. (length text ≤ max) × (is_utf8 text ≡ true)) (counted_items max text_items) bytes at e
unfolding text_at
text_stopped max bytes at e fits le is =
    let P : List ℕ → Type 0 = λ text. (length text ≤ max) × (is_utf8 text ≡ true) in
    elim (bind_err (length_at max bytes at) (λ n. cond (may_begin_text n.0 (take n.0 (drop n.1 bytes))) (fixed_at n.0 bytes n.1) (Err (record { place = n.1 + utf8_valid_len (take n.0 (drop n.1 bytes)); why = NotUtf8 }))) e is) [
      | inl h ↦ stopped_here counted P (counted_items max text_items) bytes at e [] (omega arith, is_utf8-from_IsUtf8 [] IsUtf8-nil) le (Length max) (inl (refl, refl)) (length_trouble max bytes at e h)
      | inr h ↦
          let n = h.0.0 in
          let m = h.0.1 in
          let text = take n (drop m bytes) in
          let t = length_takes max bytes at n m fits le h.1 in
          let fit : (a : List ℕ) → length a ≡ n → is_utf8 a ≡ true → (length a ≡ n) × P a = λ a len utf8. (len, (omega (arith, len, t.1), utf8)) in
          stopped_counted P text_items max n bytes at m e t.0
          (elim (cases_Bool (may_begin_text n text)) [
            | inl may ↦
                elim (fixed_err n bytes m e (rw may at h.2)) [
                  | inl cut ↦ cut_stopped (λ a. (length a ≡ n) × P a) n bytes m e t.0.within may cut.0 cut.1 fit
                  | inr pad ↦ stopped_padding (λ a. (length a ≡ n) × P a) text_items n bytes m e pad.0 pad.1 (λ len. fit text len (utf8-may_begin n text len may)) (λ a k item has. inr has)
                ]
            | inr fault ↦ fault_stopped (λ a. (length a ≡ n) × P a) n bytes m e t.0.within fault (err_is {A = List ℕ × ℕ} (record { place = m + utf8_valid_len text; why = NotUtf8 }) e (rw fault at h.2)) fit
          ])
    ]
