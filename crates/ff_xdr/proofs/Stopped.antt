-- Where a reading stops in a spelling, and at which item: words, numbers and padding.
use Rattle.std.proofs.Common.{◌≡◌, ℕ, zero, suc, ◌+◌, ◌-◌, ◌<◌, ◌≤◌, ◌^◌, Bool, true, false, cond, eqb, ltb, List, [], ◌∷◌, ◌++◌, length, get_or, take, drop, replicate, Ok, Err, refl, sym, ap, subst, ◌∙◌, append_assoc, append-nil, arith, inl, inr}
use Rattle.std.specs.Prelude.{◌⊎◌}
use Rattle.std.specs.Int.{Width, w32, w64, byte_len, from_be_bytes, to_be_bytes, cast_signed, cast_unsigned}
use Rattle.std.specs.Int.RustNames.{FitsSigned}
use Rattle.std.specs.List.{list_any}
use Rattle.std.proofs.lemmas.Bool.{ltb-true, ltb-false, eqb-true, eqb-false, cases_Bool, cases_lt}
use Rattle.std.proofs.lemmas.Int.{of_z-to_z}
use Rattle.std.proofs.lemmas.List.{length-drop, length-append, length-replicate, get_or-append_right, get_or_append_left, get_or-replicate, get_or_past, take_all}
use Rattle.ff_xdr.specs.declared.error.XdrError.{XdrError}
use Rattle.ff_xdr.specs.declared.error.XdrWhy.TheVariants.{Short, Pad, NotBool, NotEnum, TooLong}
use Rattle.ff_xdr.specs.Form.{Enum, Default, word, long}
use Rattle.ff_xdr.specs.Laws.{IsBytes, Stands}
use Rattle.ff_xdr.specs.Reading.{◌>>=◌, number_at, hyper_at, padding_at, length_at, flag_at}
use Rattle.ff_xdr.specs.Faults.{Item, Truth, Choice, Length, Padding, IsWordAt, IsWrong, IsCut}
use Rattle.ff_xdr.proofs.Places.{IsBytes-drop, err_is, stands_nothing, stands_join}
use Rattle.ff_xdr.proofs.Fields.{IsWide, wide32, wide64, hyper_fits, zero_stands}
use Rattle.ff_xdr.proofs.Seen.{word_ends}
use Rattle.ff_xdr.proofs.Begun.{bind_err, not_err}

-- what stands at the place is wrong as the refusal says, or it is cut there
abbrev pub IsTrouble : XdrError → List ℕ → Item → ℕ → Type 0
IsTrouble e bytes item to = ((to ≡ e.place) × IsWrong e.why item bytes to) ⊎ ((e.why ≡ Short) × IsCut item bytes to)

-- why a reading stops behind k bytes of a spelling of this size
abbrev pub StopsAt : XdrError → List ℕ → ℕ → (ℕ → Item → Type 0) → ℕ → ℕ → Type 0
StopsAt e bytes size items k to = ((e.why ≡ Short) × (to ≡ length bytes) × (k < size)) ⊎ ((item : Item) × items k item × IsTrouble e bytes item to)

-- a value whose spelling begins with the bytes from one place up to where the reading stops
pub record Stopped {V : Type 0} (spell : V → List ℕ) (P : V → Type 0) (items : V → ℕ → Item → Type 0) (bytes : List ℕ) (at : ℕ) (e : XdrError) : Type 0 where
  pub value : V
  pub fits : P value
  pub part : List ℕ
  pub rest : List ℕ
  pub spelt : spell value ≡ part ++ rest
  pub to : ℕ
  pub there : Stands bytes at part to
  pub stop : StopsAt e bytes (length (spell value)) (items value) (length part) to

-- at the front
pub stopped_here : {V : Type 0} (spell : V → List ℕ) (P : V → Type 0) (items : V → ℕ → Item → Type 0) (bytes : List ℕ) (at : ℕ) (e : XdrError) (v : V) → P v → at ≤ length bytes
    → (item : Item) → items v 0 item → IsTrouble e bytes item at → Stopped spell P items bytes at e
stopped_here spell P items bytes at e v fits le item has trouble =
    record { value = v; fits = fits; part = []; rest = spell v; spelt = refl; to = at; there = stands_nothing bytes at le; stop = inr (item, has, trouble) }

module _ {V W : Type 0} (spell : V → List ℕ) (P : V → Type 0) (items : V → ℕ → Item → Type 0) (outer : W → List ℕ) (Q : W → Type 0) (outer_items : W → ℕ → Item → Type 0) (make : V → W) (bytes : List ℕ) (at : ℕ) (e : XdrError) where
  -- in a value with something behind it
  pub stopped_first : (tail : V → List ℕ) → ((v : V) → P v → Q (make v)) → ((v : V) → P v → outer (make v) ≡ spell v ++ tail v) → ((v : V) (k : ℕ) (item : Item) → items v k item → outer_items (make v) k item)
      → Stopped spell P items bytes at e → Stopped outer Q outer_items bytes at e
  stopped_first tail fit same lift s =
      let size : length (outer (make s.value)) ≡ length (spell s.value) + length (tail s.value) = ap (λ (t : List ℕ). length t) (same s.value s.fits) ∙ length-append (spell s.value) (tail s.value) in
      record {
        value = make s.value;
        fits = fit s.value s.fits;
        part = s.part;
        rest = s.rest ++ tail s.value;
        spelt = same s.value s.fits ∙ ap (λ (t : List ℕ). t ++ tail s.value) s.spelt ∙ append_assoc s.part s.rest (tail s.value);
        to = s.to;
        there = s.there;
        stop = elim s.stop [
          | inl h ↦ inl (h.0, h.1, omega (arith, h.2, size))
          | inr h ↦ inr (h.0, lift s.value (length s.part) h.0 h.1, h.2)
        ];
      }

  -- in a value behind something that stands
  pub stopped_second : (front : List ℕ) (m : ℕ) → Stands bytes at front m → ((v : V) → P v → Q (make v)) → ((v : V) → P v → outer (make v) ≡ front ++ spell v)
      → ((v : V) (k : ℕ) (item : Item) → items v k item → outer_items (make v) (length front + k) item)
      → Stopped spell P items bytes m e → Stopped outer Q outer_items bytes at e
  stopped_second front m f fit same lift s =
      let size : length (outer (make s.value)) ≡ length front + length (spell s.value) = ap (λ (t : List ℕ). length t) (same s.value s.fits) ∙ length-append front (spell s.value) in
      let len = length-append front s.part in
      record {
        value = make s.value;
        fits = fit s.value s.fits;
        part = front ++ s.part;
        rest = s.rest;
        spelt = same s.value s.fits ∙ ap (λ (t : List ℕ). front ++ t) s.spelt ∙ sym (append_assoc front s.part s.rest);
        to = s.to;
        there = stands_join bytes at front m s.part s.to f s.there;
        stop = elim s.stop [
          | inl h ↦ inl (h.0, h.1, omega (arith, h.2, size, len))
          | inr h ↦ inr (h.0, subst (λ (k : ℕ). outer_items (make s.value) k h.0) (sym len) (lift s.value (length s.part) h.0 h.1), h.2)
        ];
      }

-- ---- words

-- what a test refused
refuses : {A : Type 0} (t : Bool) (d : XdrError) (x : A) (e : XdrError) → cond t (Err d) (Ok x) ≡ Err e → (t ≡ true) × (e ≡ d)
refuses true d x e is = (refl, err_is d e is)
refuses false d x e is = absurd cc

-- a number is refused only where the bytes end in it
pub number_cut : (w : Width) (bytes : List ℕ) (at : ℕ) (e : XdrError) → number_at w bytes at ≡ Err e → (e.why ≡ Short) × (length bytes < at + byte_len w)
unfolding number_at
number_cut w bytes at e is =
    let r = refuses (ltb (length bytes) (at + byte_len w)) (record { place = length bytes; why = Short }) (from_be_bytes w (take (byte_len w) (drop at bytes)), at + byte_len w) e is in
    (ap (λ (d : XdrError). d.why) r.1, ltb-true _ _ r.0)

pub word_cut : (bytes : List ℕ) (at : ℕ) (e : XdrError) → number_at w32 bytes at ≡ Err e → (e.why ≡ Short) × (length bytes < at + 4)
word_cut bytes at e is = number_cut w32 bytes at e is

pub is_word : (bytes : List ℕ) (at : ℕ) (x : ℕ × ℕ) → number_at w32 bytes at ≡ Ok x → IsWordAt bytes at x.0
is_word bytes at x is =
    let ends : x.1 ≡ at + 4 = word_ends bytes at x is in
    is ∙ ap (λ (k : ℕ). Ok (x.0, k)) ends

pub refuses_else : {A : Type 0} (t : Bool) (x : A) (d e : XdrError) → cond t (Ok x) (Err d) ≡ Err e → (t ≡ false) × (e ≡ d)
refuses_else true x d e is = absurd cc
refuses_else false x d e is = (refl, err_is d e is)

refuses_twice : {A : Type 0} (t u : Bool) (x y : A) (d e : XdrError) → cond t (Ok x) (cond u (Ok y) (Err d)) ≡ Err e → (t ≡ false) × (u ≡ false) × (e ≡ d)
refuses_twice true u x y d e is = absurd cc
refuses_twice false u x y d e is = let h = refuses_else u y d e is in (refl, h.0, h.1)

pub flag_trouble : (bytes : List ℕ) (at : ℕ) (e : XdrError) → flag_at bytes at ≡ Err e → IsTrouble e bytes Truth at
unfolding flag_at
flag_trouble bytes at e is =
    elim (bind_err (number_at w32 bytes at) (λ n. cond (eqb n.0 0) (Ok (false, n.1)) (cond (eqb n.0 1) (Ok (true, n.1)) (Err (record { place = at; why = NotBool })))) e is) [
      | inl short ↦ inr (word_cut bytes at e short)
      | inr h ↦
          let r = refuses_twice (eqb h.0.0 0) (eqb h.0.0 1) (false, h.0.1) (true, h.0.1) (record { place = at; why = NotBool }) e h.2 in
          let more : 1 < h.0.0 = omega (arith, eqb-false h.0.0 0 r.0, eqb-false h.0.0 1 r.1) in
          subst (λ (d : XdrError). IsTrouble d bytes Truth at) (sym r.2) (inl (refl, (h.0.0, is_word bytes at h.0 h.1, more)))
    ]

pub length_trouble : (max : ℕ) (bytes : List ℕ) (at : ℕ) (e : XdrError) → length_at max bytes at ≡ Err e → IsTrouble e bytes (Length max) at
unfolding length_at
length_trouble max bytes at e is =
    elim (bind_err (number_at w32 bytes at) (λ n. cond (ltb max n.0) (Err (record { place = at; why = TooLong })) (Ok n)) e is) [
      | inl short ↦ inr (word_cut bytes at e short)
      | inr h ↦
          let r = refuses (ltb max h.0.0) (record { place = at; why = TooLong }) h.0 e h.2 in
          subst (λ (d : XdrError). IsTrouble d bytes (Length max) at) (sym r.1) (inl (refl, (h.0.0, is_word bytes at h.0 h.1, ltb-true _ _ r.0)))
    ]

pub enum_trouble : (numbers : List ℕ) (bytes : List ℕ) (at : ℕ) (e : XdrError) → (number_at w32 bytes at >>= λ n. cond (list_any (eqb n.0) numbers) (Ok n) (Err (record { place = at; why = NotEnum }))) ≡ Err e
    → IsTrouble e bytes (Choice (Enum numbers)) at
enum_trouble numbers bytes at e is =
    elim (bind_err (number_at w32 bytes at) (λ n. cond (list_any (eqb n.0) numbers) (Ok n) (Err (record { place = at; why = NotEnum }))) e is) [
      | inl short ↦ inr (word_cut bytes at e short)
      | inr h ↦
          let r = refuses_else (list_any (eqb h.0.0) numbers) h.0 (record { place = at; why = NotEnum }) e h.2 in
          subst (λ (d : XdrError). IsTrouble d bytes (Choice (Enum numbers)) at) (sym r.1) (inl (refl, (h.0.0, is_word bytes at h.0 h.1, rw r.0 refl)))
    ]

pub default_trouble : (numbers : List ℕ) (bytes : List ℕ) (at : ℕ) (e : XdrError) → (number_at w32 bytes at >>= λ n. cond (list_any (eqb n.0) numbers) (Err (record { place = at; why = NotEnum })) (Ok n)) ≡ Err e
    → IsTrouble e bytes (Choice (Default numbers)) at
default_trouble numbers bytes at e is =
    elim (bind_err (number_at w32 bytes at) (λ n. cond (list_any (eqb n.0) numbers) (Err (record { place = at; why = NotEnum })) (Ok n)) e is) [
      | inl short ↦ inr (word_cut bytes at e short)
      | inr h ↦
          let r = refuses (list_any (eqb h.0.0) numbers) (record { place = at; why = NotEnum }) h.0 e h.2 in
          subst (λ (d : XdrError). IsTrouble d bytes (Choice (Default numbers)) at) (sym r.1) (inl (refl, (h.0.0, is_word bytes at h.0 h.1, r.0)))
    ]

-- ---- numbers

IsBytes-zeros : (a : List ℕ) (n : ℕ) → IsBytes a → IsBytes (a ++ replicate n 0)
IsBytes-zeros a n fits i =
    elim (cases_lt i (length a)) [
      | inl lt ↦ rw (get_or_append_left a (replicate n 0) 0 i lt) (fits i)
      | inr le ↦
          elim (cases_lt (i - length a) n) [
            | inl lt ↦ rw (get_or-append_right a (replicate n 0) (length a) i 0 refl le, get_or-replicate {A = ℕ} n (i - length a) 0 0 lt) (omega arith)
            | inr past ↦ rw (get_or-append_right a (replicate n 0) (length a) i 0 refl le, get_or_past {X = ℕ} (replicate n 0) (i - length a) 0 (omega (arith, past, length-replicate {A = ℕ} n 0))) (omega arith)
          ]
    ]

-- what stands behind the place stands up to the end
pub rest_stands : (bytes : List ℕ) (at : ℕ) → at ≤ length bytes → Stands bytes at (drop at bytes) (length bytes)
rest_stands bytes at le = record {
  stands = take_all (length (drop at bytes)) (drop at bytes) (omega arith);
  ends = omega (arith, length-drop at bytes, le);
  within = omega arith;
}

abbrev pub no_items : {V : Type 0} → V → ℕ → Item → Type 0
no_items v k item = ⊥

-- a number that the bytes end in goes on with zeros
number_stopped : (w : Width) (limit : ℕ) → IsWide w limit → (bytes : List ℕ) (at : ℕ) (e : XdrError) → IsBytes bytes → at ≤ length bytes → number_at w bytes at ≡ Err e → Stopped (to_be_bytes w) (λ n. n < limit) no_items bytes at e
number_stopped w limit wide bytes at e fits le is =
    let cut = number_cut w bytes at e is in
    let here = drop at bytes in
    let zeros : List ℕ = replicate (byte_len w - length here) 0 in
    let size = length-drop at bytes in
    let few : length here < byte_len w = omega (arith, size, cut.1, le) in
    let len : length (here ++ zeros) ≡ byte_len w = omega (arith, length-append here zeros, length-replicate {A = ℕ} (byte_len w - length here) 0, few) in
    let all = IsBytes-zeros here (byte_len w - length here) (IsBytes-drop at bytes fits) in
    let back = wide.back (here ++ zeros) len all in
    record {
      value = from_be_bytes w (here ++ zeros);
      fits = wide.below (here ++ zeros) all;
      part = here;
      rest = zeros;
      spelt = back;
      to = length bytes;
      there = rest_stands bytes at le;
      stop = inl (cut.0, refl, omega (arith, wide.len (from_be_bytes w (here ++ zeros)), few));
    }

pub word_stopped : (bytes : List ℕ) (at : ℕ) (e : XdrError) → IsBytes bytes → at ≤ length bytes → number_at w32 bytes at ≡ Err e → Stopped word (λ n. n < 2 ^ 32) no_items bytes at e
unfolding word
word_stopped bytes at e fits le is = number_stopped w32 (2 ^ 32) wide32 bytes at e fits le is

pub long_stopped : (bytes : List ℕ) (at : ℕ) (e : XdrError) → IsBytes bytes → at ≤ length bytes → number_at w64 bytes at ≡ Err e → Stopped long (λ n. n < 2 ^ 64) no_items bytes at e
unfolding long
long_stopped bytes at e fits le is = number_stopped w64 (2 ^ 64) wide64 bytes at e fits le is

pub hyper_stopped : (bytes : List ℕ) (at : ℕ) (e : XdrError) → IsBytes bytes → at ≤ length bytes → hyper_at bytes at ≡ Err e → Stopped (λ z. long (cast_unsigned w64 z)) (λ z. FitsSigned w64 z) no_items bytes at e
unfolding hyper_at
hyper_stopped bytes at e fits le is =
    stopped_first long (λ n. n < 2 ^ 64) no_items (λ z. long (cast_unsigned w64 z)) (λ z. FitsSigned w64 z) no_items (λ n. cast_signed w64 n) bytes at e (λ n. [])
    (λ n lt. hyper_fits n lt) (λ n lt. ap (λ (k : ℕ). long k) (of_z-to_z w64 n lt) ∙ sym (append-nil (long n))) (λ n k item has. has)
    (long_stopped bytes at e fits le (not_err (number_at w64 bytes at) (λ n. (cast_signed w64 n.0, n.1)) e is))

-- ---- padding

-- zeros stand up to where the padding stops
pub record PaddingStop (n : ℕ) (bytes : List ℕ) (at : ℕ) (e : XdrError) : Type 0 where
  pub count : ℕ
  pub few : count < n
  pub to : ℕ
  pub there : Stands bytes at (replicate count 0) to
  pub why : ((e.why ≡ Short) × (to ≡ length bytes)) ⊎ ((to ≡ e.place) × IsWrong e.why Padding bytes to)

pub padding_stop : (n : ℕ) (bytes : List ℕ) (at : ℕ) (e : XdrError) → at ≤ length bytes → padding_at n bytes at ≡ Err e → PaddingStop n bytes at e
padding_stop zero bytes at e le is = absurd cc
padding_stop (suc n) bytes at e le is =
    elim (cases_Bool (ltb at (length bytes))) [
      | inl within ↦
          let lt : at < length bytes = ltb-true _ _ within in
          let here : cond (eqb (get_or bytes at 0) 0) (padding_at n bytes (at + 1)) (Err (record { place = at; why = Pad })) ≡ Err e = rw within at is in
          elim (cases_Bool (eqb (get_or bytes at 0) 0)) [
            | inl none ↦
                let z = padding_stop n bytes (at + 1) e (omega arith) (rw none at here) in
                record { count = suc z.count; few = omega (arith, z.few); to = z.to; there = stands_join bytes at (0 ∷ []) (at + 1) (replicate z.count 0) z.to (zero_stands bytes at lt (eqb-true _ _ none)) z.there; why = z.why }
            | inr some ↦
                let same : e ≡ record { place = at; why = Pad } = err_is {A = ℕ} (record { place = at; why = Pad }) e (rw some at here) in
                let more : 0 < get_or bytes at 0 = omega (arith, eqb-false (get_or bytes at 0) 0 some) in
                record {
                  count = 0;
                  few = omega arith;
                  to = at;
                  there = stands_nothing bytes at le;
                  why = subst (λ (d : XdrError). ((d.why ≡ Short) × (at ≡ length bytes)) ⊎ ((at ≡ d.place) × IsWrong d.why Padding bytes at)) (sym same) (inr (refl, (lt, more)));
                }
          ]
      | inr past ↦
          let end : at ≡ length bytes = omega (arith, ltb-false _ _ past, le) in
          record {
            count = 0;
            few = omega arith;
            to = at;
            there = stands_nothing bytes at le;
            why = inl (ap (λ (d : XdrError). d.why) (err_is {A = ℕ} (record { place = length bytes; why = Short }) e (rw past at is)), end);
          }
    ]
