-- Bytes that end in a value are short: words, bytes and texts.
use Rattle.std.proofs.Common.{◌≡◌, ℕ, zero, suc, ◌+◌, ◌-◌, ◌^◌, ◌<◌, ◌≤◌, true, false, cond, eqb, ltb, List, [], ◌∷◌, ◌++◌, length, get_or, take, drop, replicate, Result, Ok, Err, refl, sym, ap, subst, ◌∙◌, arith, inl, inr}
use Rattle.std.specs.Prelude.{◌⊎◌}
use Rattle.std.specs.Int.{Width, w32, w64, byte_len, cast_signed}
use Rattle.std.specs.Str.{is_utf8, IsUtf8}
use Rattle.std.specs.Str.Lossy.{utf8_valid_len}
use Rattle.std.proofs.lemmas.Str.{IsUtf8-from_is_utf8}
use Rattle.std.proofs.lemmas.Bool.{lt-ltb, le-ltb, eq-eqb, cases_lt}
use Rattle.std.proofs.lemmas.List.{length-drop, length-append, take_all, take-append-le}
use Rattle.ff_xdr.specs.declared.error.XdrError.{XdrError}
use Rattle.ff_xdr.specs.declared.error.XdrWhy.TheVariants.{Short, NotUtf8}
use Rattle.ff_xdr.specs.Form.{word, long, pad_len, padded}
use Rattle.ff_xdr.specs.Laws.{Stands}
use Rattle.ff_xdr.specs.Reading.{◌>>=◌, number_at, hyper_at, padding_at, fixed_at, length_at, opaque_at, flag_at, text_at, may_begin_text}
use Rattle.ff_xdr.specs.Faults.{Item, IsBehind, IsPaddingOf, IsCut}
use Rattle.ff_xdr.proofs.Places.{stands_first, stands_second}
use Rattle.ff_xdr.proofs.Fields.{length-word, length_again, zero_is}
use Rattle.ff_xdr.proofs.StoppedText.{length-padded, counted_items, text_items}
use Rattle.ff_xdr.proofs.TextParts.{take_behind}
use Rattle.ff_xdr.proofs.TextBegins.{text_begins}

-- refused as short, at the end of the bytes
abbrev pub IsShort : {A : Type 0} → List ℕ → Result A XdrError → Type 0
IsShort bytes r = r ≡ Err (record { place = length bytes; why = Short })

pub short_bind : {A B : Type 0} (bytes : List ℕ) (r : Result A XdrError) (f : A → Result B XdrError) → IsShort bytes r → IsShort bytes (r >>= f)
short_bind bytes r f e = ap (λ (s : Result _ XdrError). s >>= f) e

-- the bytes end at the place, before the spelling's own end; or they end in an item that is there
abbrev pub IsCutAt : ℕ → (ℕ → Item → Type 0) → List ℕ → ℕ → ℕ → Type 0
IsCutAt size items bytes k to = ((to ≡ length bytes) × (k < size)) ⊎ ((item : Item) × items k item × IsCut item bytes to)

-- the first k bytes of a text stand, and the bytes are cut behind them
pub record Ends (bytes : List ℕ) (at : ℕ) (text : List ℕ) (items : ℕ → Item → Type 0) (k : ℕ) : Type 0 where
  pub there : Stands bytes at (take k text) (at + k)
  pub cut : IsCutAt (length text) items bytes k (at + k)

-- ---- parts

module _ (a b : List ℕ) (outer inner : ℕ → Item → Type 0) (bytes : List ℕ) (at k : ℕ) where
  -- in the first part
  pub ends_first : k < length a → ((item : Item) → outer k item → inner k item) → Ends bytes at (a ++ b) outer k → Ends bytes at a inner k
  ends_first less lift h =
      record {
        there = rw (take-append-le k a b (omega (arith, less))) at h.there;
        cut = elim h.cut [
          | inl end ↦ inl (end.0, less)
          | inr item ↦ inr (item.0, lift item.0 item.1, item.2)
        ];
      }

  -- behind the first part, which stands whole
  pub ends_second : length a ≤ k → ((item : Item) → outer k item → inner (k - length a) item) → Ends bytes at (a ++ b) outer k → Stands bytes at a (at + length a) × Ends bytes (at + length a) b inner (k - length a)
  ends_second le lift h =
      let j = k - length a in
      let sum : k ≡ length a + j = omega (arith, le) in
      let place : at + k ≡ at + length a + j = omega (arith, sum) in
      let text : take k (a ++ b) ≡ a ++ take j b = ap (λ (i : ℕ). take i (a ++ b)) sum ∙ take_behind a b j in
      let all : Stands bytes at (a ++ take j b) (at + k) = rw text at h.there in
      let size = length-append a b in (
        stands_first bytes at a (take j b) (at + k) all,
        record {
          there = subst (λ (i : ℕ). Stands bytes (at + length a) (take j b) i) place (stands_second bytes at a (take j b) (at + k) all);
          cut = subst (λ (i : ℕ). IsCutAt (length b) inner bytes j i) place (elim h.cut [
            | inl end ↦ inl (end.0, omega (arith, end.1, size, le))
            | inr item ↦ inr (item.0, lift item.0 item.1, item.2)
          ]);
        },
      )

-- what stands behind an item is at its place
pub behind_is : (size k : ℕ) (P : ℕ → Type 0) → IsBehind size k P → P (k - size)
behind_is size k P h =
    let same : h.0 ≡ k - size = omega (arith, h.1) in
    subst P same h.2

-- ---- numbers

pub number_is_short : (w : Width) (bytes : List ℕ) (at : ℕ) → length bytes < at + byte_len w → IsShort bytes (number_at w bytes at)
unfolding number_at
number_is_short w bytes at cut =
    let short : ltb (length bytes) (at + byte_len w) ≡ true = lt-ltb _ _ cut in
    rw short refl

pub word_short : (bytes : List ℕ) (at : ℕ) → length bytes < at + 4 → IsShort bytes (number_at w32 bytes at)
word_short bytes at cut = number_is_short w32 bytes at cut

pub length-long : (n : ℕ) → length (long n) ≡ 8
unfolding long
length-long n = refl

-- a number alone
pub long_cut : (n : ℕ) (bytes : List ℕ) (at k : ℕ) → Ends bytes at (long n) (λ j item. ⊥) k → length bytes < at + 8
long_cut n bytes at k h =
    elim h.cut [
      | inl end ↦ omega (arith, end.0, end.1, length-long n)
      | inr item ↦ absurd item.1
    ]

pub hyper_short : (bytes : List ℕ) (at : ℕ) → length bytes < at + 8 → IsShort bytes (hyper_at bytes at)
unfolding hyper_at
hyper_short bytes at cut = short_bind bytes (number_at w64 bytes at) (λ n. Ok (cast_signed w64 n.0, n.1)) (number_is_short w64 bytes at cut)

pub flag_short : (bytes : List ℕ) (at : ℕ) → length bytes < at + 4 → IsShort bytes (flag_at bytes at)
unfolding flag_at
flag_short bytes at cut =
    let short = word_short bytes at cut in
    rw short refl

pub length_short : (max : ℕ) (bytes : List ℕ) (at : ℕ) → length bytes < at + 4 → IsShort bytes (length_at max bytes at)
unfolding length_at
length_short max bytes at cut =
    let short = word_short bytes at cut in
    rw short refl

-- an item that is a word
abbrev pub IsWordItem : Item → Type 0
IsWordItem item = (bytes : List ℕ) (place : ℕ) → IsCut item bytes place → length bytes < place + 4

-- the bytes end in the word at the front
pub front_cut : (bytes : List ℕ) (at : ℕ) (text : List ℕ) (items : ℕ → Item → Type 0) (k : ℕ) → k < 4 → ((item : Item) → items k item → (k ≡ 0) × IsWordItem item) → Ends bytes at text items k → length bytes < at + 4
front_cut bytes at text items k few front h =
    elim h.cut [
      | inl end ↦ omega (arith, end.0, few)
      | inr item ↦
          let f = front item.0 item.1 in
          omega (arith, f.1 bytes (at + k) item.2, f.0)
    ]

-- a word alone
pub word_alone : (n : ℕ) (bytes : List ℕ) (at : ℕ) (items : ℕ → Item → Type 0) (k : ℕ) → ((item : Item) → items k item → (k ≡ 0) × IsWordItem item) → Ends bytes at (word n) items k → length bytes < at + 4
word_alone n bytes at items k front h =
    let size : length (take k (word n)) ≡ k = omega (arith, h.there.ends) in
    elim (cases_lt k 4) [
      | inl few ↦ front_cut bytes at (word n) items k few front h
      | inr all ↦
          elim h.cut [
            | inl end ↦ absurd (omega (arith, end.1, all, length-word n))
            | inr item ↦ absurd (omega (arith, (front item.0 item.1).0, all))
          ]
    ]

-- ---- bytes

padding_short : (n j : ℕ) (bytes : List ℕ) (at : ℕ) → j < n → Stands bytes at (replicate j 0) (length bytes) → IsShort bytes (padding_at n bytes at)
padding_short zero j bytes at less s = absurd (omega (arith, less))
padding_short (suc n) zero bytes at less s =
    let past : ltb at (length bytes) ≡ false = le-ltb _ _ (omega (arith, s.ends)) in
    rw past refl
padding_short (suc n) (suc j) bytes at less s =
    let first = stands_first bytes at (0 ∷ []) (replicate j 0) (length bytes) s in
    let second = stands_second bytes at (0 ∷ []) (replicate j 0) (length bytes) s in
    let room : ltb at (length bytes) ≡ true = lt-ltb _ _ (omega (arith, first.ends, first.within)) in
    let is_zero : eqb (get_or bytes at 0) 0 ≡ true = eq-eqb _ _ (zero_is bytes at _ first) in
    rw (room, is_zero) (padding_short n j bytes (at + 1) (omega (arith, less)) second)

pub fixed_short : (n : ℕ) (bytes : List ℕ) (at : ℕ) → length bytes < at + n → IsShort bytes (fixed_at n bytes at)
unfolding fixed_at
fixed_short n bytes at cut =
    let short : ltb (length bytes) (at + n) ≡ true = lt-ltb _ _ cut in
    rw short refl

fixed_by_padding : (n : ℕ) (bytes : List ℕ) (at : ℕ) → at + n ≤ length bytes → IsShort bytes (padding_at (pad_len n) bytes (at + n)) → IsShort bytes (fixed_at n bytes at)
unfolding fixed_at
fixed_by_padding n bytes at room short =
    let whole : ltb (length bytes) (at + n) ≡ false = le-ltb _ _ room in
    rw (whole, short) refl

-- the first bytes of zeros are zeros
take_zeros : (k n : ℕ) → k ≤ n → take k (replicate {A = ℕ} n 0) ≡ replicate k 0
take_zeros zero n le = refl
take_zeros (suc k) zero le = absurd (omega (arith, le))
take_zeros (suc k) (suc n) le = ap (λ (t : List ℕ). 0 ∷ t) (take_zeros k n (omega (arith, le)))

-- the bytes end in a padded text
pub padded_short : (text : List ℕ) (bytes : List ℕ) (at k : ℕ) → at + k ≡ length bytes → k < length (padded text) → Stands bytes at (take k (padded text)) (at + k) → IsShort bytes (fixed_at (length text) bytes at)
unfolding padded
padded_short text bytes at k end less s =
    let n = length text in
    let pad : List ℕ = replicate (pad_len n) 0 in
    elim (cases_lt k n) [
      | inl few ↦ fixed_short n bytes at (omega (arith, end, few))
      | inr past ↦
          let j = k - n in
          let size : length (text ++ pad) ≡ n + pad_len n = length-padded text in
          let few : j < pad_len n = omega (arith, less, size, past) in
          let sum : k ≡ n + j = omega (arith, past) in
          let split : take k (text ++ pad) ≡ text ++ replicate j 0 = ap (λ (i : ℕ). take i (text ++ pad)) sum ∙ take_behind text pad j ∙ ap (λ (t : List ℕ). text ++ t) (take_zeros j (pad_len n) (omega (arith, few))) in
          let all : Stands bytes at (text ++ replicate j 0) (length bytes) = subst (λ (i : ℕ). Stands bytes at (text ++ replicate j 0) i) end (rw split at s) in
          fixed_by_padding n bytes at (omega (arith, sum, end)) (padding_short (pad_len n) j bytes (at + n) few (stands_second bytes at text (replicate j 0) (length bytes) all))
    ]

pub fixed_cut : (text : List ℕ) (bytes : List ℕ) (at k : ℕ) → Ends bytes at (padded text) (λ j item. IsPaddingOf text j item) k → IsShort bytes (fixed_at (length text) bytes at)
fixed_cut text bytes at k h =
    elim h.cut [
      | inl end ↦ padded_short text bytes at k end.0 end.1 h.there
      | inr item ↦ absurd (subst (λ (i : Item). IsCut i bytes (at + k)) item.1.2 item.2)
    ]

-- ---- bytes behind their length

-- the bytes end in the length, or behind it
counted_cut : (max : ℕ) (text : List ℕ) (items : List ℕ → ℕ → Item → Type 0) (bytes : List ℕ) (at k : ℕ) → Ends bytes at (word (length text) ++ padded text) (λ j item. counted_items max items text j item) k
    → (length bytes < at + 4) ⊎ (Stands bytes at (word (length text)) (at + 4) × Ends bytes (at + 4) (padded text) (λ j item. items text j item) (k - 4))
counted_cut max text items bytes at k h =
    let n = length text in
    elim (cases_lt k 4) [
      | inl few ↦
          inl (front_cut bytes at (word n ++ padded text) (λ j item. counted_items max items text j item) k few (λ item has. elim has [
            | inl front ↦ (front.0, λ b p c. subst (λ (i : Item). IsCut i b p) front.1 c)
            | inr behind ↦ absurd (omega (arith, few, behind.1))
          ]) h)
      | inr all ↦
          let size = length-word n in
          let both = ends_second (word n) (padded text) (λ j item. counted_items max items text j item) (λ j item. items text j item) bytes at k (omega (arith, size, all))
          (λ item has. elim has [
            | inl front ↦ absurd (omega (arith, front.0, all))
            | inr behind ↦ subst (λ (i : ℕ). items text (k - i) item) (sym size) (behind_is 4 k (λ j. items text j item) behind)
          ]) h in
          inr (subst (λ (i : ℕ). Stands bytes at (word n) (at + i) × Ends bytes (at + i) (padded text) (λ j item. items text j item) (k - i)) size both)
    ]

pub opaque_cut : (max : ℕ) (text : List ℕ) (bytes : List ℕ) (at k : ℕ) → max < 2 ^ 32 → length text ≤ max
    → Ends bytes at (word (length text) ++ padded text) (λ j item. counted_items max (λ t i it. IsPaddingOf t i it) text j item) k → IsShort bytes (opaque_at max bytes at)
unfolding opaque_at
opaque_cut max text bytes at k wide le h =
    elim (counted_cut max text (λ t i it. IsPaddingOf t i it) bytes at k h) [
      | inl cut ↦ short_bind bytes (length_at max bytes at) (λ n. fixed_at n.0 bytes n.1) (length_short max bytes at cut)
      | inr both ↦
          let read = length_again max bytes at (length text) (at + 4) wide le both.0 in
          rw read (fixed_cut text bytes (at + 4) (k - 4) both.1)
    ]

-- ---- texts

module _ (text bytes : List ℕ) (at k : ℕ) (s : Stands bytes at (take k (padded text)) (at + k)) where
  -- so much of the text stands
  front_is : k ≤ length text → take k (drop at bytes) ≡ take k text
  unfolding padded
  front_is le =
      let pad : List ℕ = replicate (pad_len (length text)) 0 in
      let front : take k (text ++ pad) ≡ take k text = take-append-le k text pad le in
      let len : length (take k (text ++ pad)) ≡ k = omega (arith, s.ends) in
      sym (ap (λ (i : ℕ). take i (drop at bytes)) len) ∙ s.stands ∙ front

  -- all of it stands
  whole_is : length text ≤ k → take (length text) (drop at bytes) ≡ text
  unfolding padded
  whole_is le =
      let pad : List ℕ = replicate (pad_len (length text)) 0 in
      let split : take k (text ++ pad) ≡ text ++ take (k - length text) pad = ap (λ (i : ℕ). take i (text ++ pad)) (omega (arith, le)) ∙ take_behind text pad (k - length text) in
      (stands_first bytes at text (take (k - length text) pad) (at + k) (rw split at s)).stands

-- no item behind the length is a word
text_uncut : (text : List ℕ) (k : ℕ) (item : Item) → text_items text k item → (bytes : List ℕ) (place : ℕ) → IsCut item bytes place → ⊥
text_uncut text k item (inl sequence) bytes place cut = subst (λ (i : Item). IsCut i bytes place) sequence.2 cut
text_uncut text k item (inr padding) bytes place cut = subst (λ (i : Item). IsCut i bytes place) padding.2 cut

-- the bytes end in a text
cut_may_begin : (text : List ℕ) (bytes : List ℕ) (at k : ℕ) → IsUtf8 text → Ends bytes at (padded text) (λ j item. text_items text j item) k → may_begin_text (length text) (take (length text) (drop at bytes)) ≡ true
cut_may_begin text bytes at k utf8 h =
    let n = length text in
    let size = length-drop at bytes in
    let rest = drop at bytes in
    elim (cases_lt k n) [
      | inr all ↦ subst (λ (t : List ℕ). may_begin_text n t ≡ true) (take_all n text (omega arith) ∙ sym (whole_is text bytes at k h.there all)) (text_begins text n utf8 (omega arith))
      | inl less ↦
          let front = front_is text bytes at k h.there (omega (arith, less)) in
          elim h.cut [
            | inl end ↦
                let len : length rest ≡ k = omega (arith, size, end.0) in
                let is : take n rest ≡ take k text = take_all n rest (omega (arith, len, less)) ∙ sym (take_all k rest (omega (arith, len))) ∙ front in
                subst (λ (t : List ℕ). may_begin_text n t ≡ true) (sym is) (text_begins text k utf8 (omega (arith, less)))
            | inr item ↦ absurd (text_uncut text k item.0 item.1 bytes (at + k) item.2)
          ]
    ]

sequence_short : (text : List ℕ) (bytes : List ℕ) (at k : ℕ) → Ends bytes at (padded text) (λ j item. text_items text j item) k → IsShort bytes (fixed_at (length text) bytes at)
sequence_short text bytes at k h =
    elim h.cut [
      | inl end ↦ padded_short text bytes at k end.0 end.1 h.there
      | inr item ↦ absurd (text_uncut text k item.0 item.1 bytes (at + k) item.2)
    ]

pub text_cut : (max : ℕ) (text : List ℕ) (bytes : List ℕ) (at k : ℕ) → max < 2 ^ 32 → length text ≤ max → is_utf8 text ≡ true
    → Ends bytes at (word (length text) ++ padded text) (λ j item. counted_items max text_items text j item) k → IsShort bytes (text_at max bytes at)
unfolding text_at
text_cut max text bytes at k wide le utf8 h =
    elim (counted_cut max text text_items bytes at k h) [
      | inl cut ↦
          short_bind bytes (length_at max bytes at) (λ n. cond (may_begin_text n.0 (take n.0 (drop n.1 bytes))) (fixed_at n.0 bytes n.1) (Err (record { place = n.1 + utf8_valid_len (take n.0 (drop n.1 bytes)); why = NotUtf8 })))
          (length_short max bytes at cut)
      | inr both ↦
          let read = length_again max bytes at (length text) (at + 4) wide le both.0 in
          let may = cut_may_begin text bytes (at + 4) (k - 4) (IsUtf8-from_is_utf8 text utf8) both.1 in
          rw (read, may) (sequence_short text bytes (at + 4) (k - 4) both.1)
    ]
