-- Bytes that end in a value are short, of every form.
use Rattle.std.proofs.Common.{◌≡◌, ℕ, ◌+◌, ◌-◌, ◌^◌, ◌<◌, ◌≤◌, true, false, not, cond, eqb, ltb, List, [], ◌∷◌, ◌++◌, length, take, Some, None, Ok, Err, refl, sym, ap, subst, ◌∙◌, append_assoc, append-nil, arith, inl, inr}
use Rattle.std.specs.Prelude.{IsTrue, ◌⊎◌}
use Rattle.std.specs.Int.{w32, w64, cast_unsigned}
use Rattle.std.specs.List.{AllByRecursion, list_any, flat_map}
use Rattle.std.proofs.lemmas.Bool.{and_parts, not-true, both_ways, eq-eqb, ne_eqb, ltb-true, cases_lt, false≢true}
use Rattle.std.proofs.lemmas.List.{length-append}
use Rattle.ff_xdr.specs.declared.error.XdrWhy.TheVariants.{Short, NotEnum}
use Rattle.ff_xdr.specs.Form.{Form, Void, Number32, Number64, Hyper, Boolean, Enum, Optional, Fixed, Opaque, Text, Pair, Array, Arm, NoArm, Default, Value, Fits, spelling, avoids, is_sound, word, padded}
use Rattle.ff_xdr.specs.Laws.{Stands, is_filled}
use Rattle.ff_xdr.specs.Reading.{Read, ◌>>=◌, number_at, fixed_at, length_at, flag_at, reading, many_at, optional_at, arm_at}
use Rattle.ff_xdr.specs.Faults.{Item, Truth, Choice, Length, IsFront, IsBehind, IsItemIn, IsItemAt, IsCut, EndsInValue, IsShortJustWhere}
use Rattle.ff_xdr.proofs.Again.{sound_case, enum_below, again_where}
use Rattle.ff_xdr.proofs.Fields.{length-word, word_again, length_again, flag_again}
use Rattle.ff_xdr.proofs.StoppedText.{length-padded}
use Rattle.ff_xdr.proofs.StoppedForms.{front_item, front_size}
use Rattle.ff_xdr.proofs.Named.{short_ends}
use Rattle.ff_xdr.proofs.CutShort.{IsShort, short_bind, IsCutAt, Ends, ends_first, ends_second, behind_is, IsWordItem, front_cut, number_is_short, word_short, hyper_short, long_cut, flag_short, length_short, word_alone, fixed_cut, opaque_cut, text_cut}

-- ---- items stand in the spelling

padded_within : (bytes : List ℕ) → length bytes ≤ length (padded bytes)
padded_within bytes = omega (arith, length-padded bytes)

many_within : {M : Type 0} (spell : M → List ℕ) (items : M → ℕ → Item → Type 0) → ((v : M) (k : ℕ) (item : Item) → items v k item → k < length (spell v))
    → (vs : List M) (k : ℕ) (item : Item) → IsItemIn spell (λ v i. items v i item) vs k → k < length (flat_map spell vs)
many_within spell items one [] k item has = absurd has
many_within spell items one (v ∷ vs) k item (inl h) = omega (arith, one v k item h, length-append (spell v) (flat_map spell vs))
many_within spell items one (v ∷ vs) k item (inr h) = omega (arith, h.1, many_within spell items one vs h.0 item h.2, length-append (spell v) (flat_map spell vs))

pub item_within : (form : Form) → IsTrue (is_sound form) → (v : Value form) (k : ℕ) (item : Item) → IsItemAt form v k item → k < length (spelling form v)
item_within Boolean sound false k item has = omega (arith, has.0, length-word 0)
item_within Boolean sound true k item has = omega (arith, has.0, length-word 1)
item_within (Enum numbers) sound n k item has = omega (arith, has.0, length-word n)
item_within (Default numbers) sound n k item has = omega (arith, has.0, length-word n)
item_within (Optional each) sound None k item has = omega (arith, has.0, length-word 0)
item_within (Optional each) sound (Some v) k item (inl h) = omega (arith, h.0, length-word 1, length-append (word 1) (spelling each v))
item_within (Optional each) sound (Some v) k item (inr h) = omega (arith, h.1, item_within each sound v h.0 item h.2, length-word 1, length-append (word 1) (spelling each v))
item_within (Fixed count) sound bytes k item has = has.1
item_within (Opaque max) sound bytes k item (inl h) = omega (arith, h.0, length-word (length bytes), length-append (word (length bytes)) (padded bytes))
item_within (Opaque max) sound bytes k item (inr h) = omega (arith, h.1, h.2.1, length-word (length bytes), length-append (word (length bytes)) (padded bytes))
item_within (Text max) sound text k item (inl h) = omega (arith, h.0, length-word (length text), length-append (word (length text)) (padded text))
item_within (Text max) sound text k item (inr (j, same, inl h)) = omega (arith, same, h.0, padded_within text, length-word (length text), length-append (word (length text)) (padded text))
item_within (Text max) sound text k item (inr (j, same, inr h)) = omega (arith, same, h.1, length-word (length text), length-append (word (length text)) (padded text))
item_within (Pair first second) sound (a, b) k item (inl h) = omega (arith, item_within first (and_parts (is_sound first) (is_sound second) sound).0 a k item h, length-append (spelling first a) (spelling second b))
item_within (Pair first second) sound (a, b) k item (inr h) = omega (arith, h.1, item_within second (and_parts (is_sound first) (is_sound second) sound).1 b h.0 item h.2, length-append (spelling first a) (spelling second b))
item_within (Array max each) sound vs k item (inl h) = omega (arith, h.0, length-word (length vs), length-append (word (length vs)) (flat_map (λ v. spelling each v) vs))
item_within (Array max each) sound vs k item (inr h) =
    let inner = many_within (λ v. spelling each v) (λ v i it. IsItemAt each v i it) (λ v i it has. item_within each (and_parts (ltb max (2 ^ 32)) (is_sound each) sound).1 v i it has) vs h.0 item h.2 in
    omega (arith, h.1, inner, length-word (length vs), length-append (word (length vs)) (flat_map (λ v. spelling each v) vs))
item_within (Arm number body others) sound (inl v) k item (inl h) = omega (arith, h.0, length-word number, length-append (word number) (spelling body v))
item_within (Arm number body others) sound (inl v) k item (inr h) = omega (arith, h.1, item_within body (sound_case number body others sound).2 v h.0 item h.2, length-word number, length-append (word number) (spelling body v))
item_within (Arm number body others) sound (inr v) k item (inl h) = omega (arith, h.0, front_size others number (sound_case number body others sound).1 v)
item_within (Arm number body others) sound (inr v) k item (inr h) = item_within others (sound_case number body others sound).3 v k item h.1
item_within _ sound v k item has = absurd has

-- ---- several values

module _ {M : Type 0} (each : ℕ → Read M) (spell : M → List ℕ) (P : M → Type 0) (items : M → ℕ → Item → Type 0) (bytes : List ℕ) where
  many_cut : ((v : M) (at to : ℕ) → P v → Stands bytes at (spell v) to → each at ≡ Ok (v, to))
      → ((v : M) (at k : ℕ) → P v → Ends bytes at (spell v) (items v) k → IsShort bytes (each at))
      → ((v : M) (k : ℕ) (item : Item) → items v k item → k < length (spell v))
      → (vs : List M) (at k : ℕ) → AllByRecursion P vs → Ends bytes at (flat_map spell vs) (λ j item. IsItemIn spell (λ v i. items v i item) vs j) k → IsShort bytes (many_at each (length vs) at)
  many_cut again cut within [] at k fit h =
      elim h.cut [
        | inl end ↦ absurd (omega (arith, end.1))
        | inr item ↦ absurd item.1
      ]
  many_cut again cut within (v ∷ vs) at k fit h =
      elim (cases_lt k (length (spell v))) [
        | inl less ↦
            let first = ends_first (spell v) (flat_map spell vs) (λ j item. IsItemIn spell (λ w i. items w i item) (v ∷ vs) j) (items v) bytes at k less
            (λ item has. elim has [
              | inl here ↦ here
              | inr behind ↦ absurd (omega (arith, behind.1, less))
            ]) h in
            short_bind bytes (each at) (λ first. many_at each (length vs) first.1 >>= λ others. Ok (first.0 ∷ others.0, others.1)) (cut v at k fit.0 first)
        | inr past ↦
            let both = ends_second (spell v) (flat_map spell vs) (λ j item. IsItemIn spell (λ w i. items w i item) (v ∷ vs) j) (λ j item. IsItemIn spell (λ w i. items w i item) vs j) bytes at k past
            (λ item has. elim has [
              | inl here ↦ absurd (omega (arith, within v k item here, past))
              | inr behind ↦ behind_is (length (spell v)) k (λ j. IsItemIn spell (λ w i. items w i item) vs j) behind
            ]) h in
            let read = again v at (at + length (spell v)) fit.0 both.0 in
            let others = many_cut again cut within vs (at + length (spell v)) (k - length (spell v)) fit.1 both.1 in
            rw (read, others) refl
      ]

-- ---- the arms of a union

-- a value of a form that avoids a number begins with another
record BeginsApart (n : ℕ) (text : List ℕ) : Type 0 where
  number : ℕ
  tail : List ℕ
  spelt : text ≡ word number ++ tail
  below : number < 2 ^ 32
  apart : eqb number n ≡ false

begins_apart : (form : Form) (n : ℕ) (v : Value form) → IsTrue (is_sound form) → IsTrue (avoids n form) → Fits form v → BeginsApart n (spelling form v)
begins_apart (Enum numbers) n v sound away fits =
    let other = not-true (list_any (eqb n) numbers) away in
    record {
      number = v;
      tail = [];
      spelt = sym (append-nil (word v));
      below = enum_below v numbers sound fits;
      apart = ne_eqb v n (λ same. both_ways _ other (subst (λ (k : ℕ). list_any (eqb k) numbers ≡ true) same fits));
    }
begins_apart (Pair first second) n (a, b) sound away fits =
    let h = begins_apart first n a (and_parts (is_sound first) (is_sound second) sound).0 away fits.0 in
    record {
      number = h.number;
      tail = h.tail ++ spelling second b;
      spelt = ap (λ (t : List ℕ). t ++ spelling second b) h.spelt ∙ append_assoc (word h.number) h.tail (spelling second b);
      below = h.below;
      apart = h.apart;
    }
begins_apart (Arm number body others) n (inl v) sound away fits =
    let other = not-true (eqb n number) (and_parts (not (eqb n number)) (avoids n others) away).0 in
    record {
      number = number;
      tail = spelling body v;
      spelt = refl;
      below = (sound_case number body others sound).0;
      apart = ne_eqb number n (λ same. both_ways _ other (eq-eqb n number (sym same)));
    }
begins_apart (Arm number body others) n (inr v) sound away fits =
    begins_apart others n v (sound_case number body others sound).3 (and_parts (not (eqb n number)) (avoids n others) away).1 fits
begins_apart NoArm n v sound away fits = absurd v
begins_apart (Default numbers) n v sound away fits =
    let other = not-true (list_any (eqb v) numbers) fits.1 in
    record {
      number = v;
      tail = [];
      spelt = sym (append-nil (word v));
      below = fits.0;
      apart = ne_eqb v n (λ same. both_ways _ other (subst (λ (k : ℕ). list_any (eqb k) numbers ≡ true) (sym same) away));
    }
begins_apart _ n v sound away fits = absurd (false≢true away)

-- ---- every form

abbrev pub IsEnding : (form : Form) → Value form → List ℕ → ℕ → ℕ → Type 0
IsEnding form v bytes at k = Ends bytes at (spelling form v) (λ j item. IsItemAt form v j item) k

-- the bytes end in a word, or behind it
module _ (n : ℕ) (inner : List ℕ) (outer within : ℕ → Item → Type 0) (bytes : List ℕ) (at k : ℕ) where
  word_led : ((item : Item) → outer k item → ((k ≡ 0) × IsWordItem item) ⊎ IsBehind 4 k (λ j. within j item)) → Ends bytes at (word n ++ inner) outer k
      → (length bytes < at + 4) ⊎ (Stands bytes at (word n) (at + 4) × Ends bytes (at + 4) inner within (k - 4))
  word_led lift h =
      elim (cases_lt k 4) [
        | inl few ↦
            inl (front_cut bytes at (word n ++ inner) outer k few (λ item has. elim (lift item has) [
              | inl front ↦ front
              | inr behind ↦ absurd (omega (arith, few, behind.1))
            ]) h)
        | inr all ↦
            let size = length-word n in
            let both = ends_second (word n) inner outer within bytes at k (omega (arith, size, all))
            (λ item has. elim (lift item has) [
              | inl front ↦ absurd (omega (arith, front.0, all))
              | inr behind ↦ subst (λ (i : ℕ). within (k - i) item) (sym size) (behind_is 4 k (λ j. within j item) behind)
            ]) h in
            inr (subst (λ (i : ℕ). Stands bytes at (word n) (at + i) × Ends bytes (at + i) inner within (k - i)) size both)
      ]

-- an item at the front that is a word
as_word : (k : ℕ) (item own : Item) → IsWordItem own → IsFront k item own → (k ≡ 0) × IsWordItem item
as_word k item own is front = (front.0, λ b p c. is b p (subst (λ (i : Item). IsCut i b p) front.1 c))

pub cut_in : (form : Form) → IsTrue (is_sound form) → (v : Value form) → Fits form v → (bytes : List ℕ) (at k : ℕ) → IsEnding form v bytes at k → IsShort bytes (reading form bytes at)
cut_in Void sound v fits bytes at k h =
    elim h.cut [
      | inl end ↦ absurd (omega (arith, end.1))
      | inr item ↦ absurd item.1
    ]
cut_in Number32 sound v fits bytes at k h = word_short bytes at (word_alone v bytes at (λ j item. ⊥) k (λ item has. absurd has) h)
cut_in Number64 sound v fits bytes at k h = number_is_short w64 bytes at (long_cut v bytes at k h)
cut_in Hyper sound v fits bytes at k h = hyper_short bytes at (long_cut (cast_unsigned w64 v) bytes at k h)
cut_in Boolean sound false fits bytes at k h = flag_short bytes at (word_alone 0 bytes at (λ j item. IsItemAt Boolean false j item) k (λ item has. as_word k item Truth (λ b p c. c) has) h)
cut_in Boolean sound true fits bytes at k h = flag_short bytes at (word_alone 1 bytes at (λ j item. IsItemAt Boolean true j item) k (λ item has. as_word k item Truth (λ b p c. c) has) h)
cut_in (Enum numbers) sound v fits bytes at k h =
    short_bind bytes (number_at w32 bytes at) (λ n. cond (list_any (eqb n.0) numbers) (Ok n) (Err (record { place = at; why = NotEnum })))
    (word_short bytes at (word_alone v bytes at (λ j item. IsItemAt (Enum numbers) v j item) k (λ item has. as_word k item (Choice (Enum numbers)) (λ b p c. c) has) h))
cut_in (Optional each) sound None fits bytes at k h =
    short_bind bytes (flag_at bytes at) (λ there. optional_at (λ place. reading each bytes place) there.0 there.1)
    (flag_short bytes at (word_alone 0 bytes at (λ j item. IsItemAt (Optional each) None j item) k (λ item has. as_word k item Truth (λ b p c. c) has) h))
cut_in (Optional each) sound (Some v) fits bytes at k h =
    elim (word_led 1 (spelling each v) (λ j item. IsItemAt (Optional each) (Some v) j item) (λ j item. IsItemAt each v j item) bytes at k
    (λ item has. elim has [
      | inl front ↦ inl (as_word k item Truth (λ b p c. c) front)
      | inr behind ↦ inr behind
    ]) h) [
      | inl cut ↦ short_bind bytes (flag_at bytes at) (λ there. optional_at (λ place. reading each bytes place) there.0 there.1) (flag_short bytes at cut)
      | inr both ↦
          let there = flag_again bytes at true (at + 4) both.0 in
          let read = cut_in each sound v fits bytes (at + 4) (k - 4) both.1 in
          rw (there, read) refl
    ]
cut_in (Fixed count) sound v fits bytes at k h = subst (λ (n : ℕ). IsShort bytes (fixed_at n bytes at)) fits (fixed_cut v bytes at k h)
cut_in (Opaque max) sound v fits bytes at k h = opaque_cut max v bytes at k (ltb-true max (2 ^ 32) sound) fits h
cut_in (Text max) sound v fits bytes at k h = text_cut max v bytes at k (ltb-true max (2 ^ 32) sound) fits.0 fits.1 h
cut_in (Pair first second) sound (a, b) fits bytes at k h =
    let sounds = and_parts (is_sound first) (is_sound second) sound in
    elim (cases_lt k (length (spelling first a))) [
      | inl less ↦
          let left = ends_first (spelling first a) (spelling second b) (λ j item. IsItemAt (Pair first second) (a, b) j item) (λ j item. IsItemAt first a j item) bytes at k less
          (λ item has. elim has [
            | inl here ↦ here
            | inr behind ↦ absurd (omega (arith, behind.1, less))
          ]) h in
          short_bind bytes (reading first bytes at) (λ a. reading second bytes a.1 >>= λ b. Ok ((a.0, b.0), b.1)) (cut_in first sounds.0 a fits.0 bytes at k left)
      | inr past ↦
          let both = ends_second (spelling first a) (spelling second b) (λ j item. IsItemAt (Pair first second) (a, b) j item) (λ j item. IsItemAt second b j item) bytes at k past
          (λ item has. elim has [
            | inl here ↦ absurd (omega (arith, item_within first sounds.0 a k item here, past))
            | inr behind ↦ behind_is (length (spelling first a)) k (λ j. IsItemAt second b j item) behind
          ]) h in
          let read = again_where first sounds.0 a bytes at (at + length (spelling first a)) fits.0 both.0 in
          let rest = cut_in second sounds.1 b fits.1 bytes (at + length (spelling first a)) (k - length (spelling first a)) both.1 in
          rw (read, rest) refl
    ]
cut_in (Array max each) sound vs fits bytes at k h =
    let sounds = and_parts (ltb max (2 ^ 32)) (is_sound each) sound in
    let spell : Value each → List ℕ = λ v. spelling each v in
    elim (word_led (length vs) (flat_map spell vs) (λ j item. IsItemAt (Array max each) vs j item) (λ j item. IsItemIn spell (λ v i. IsItemAt each v i item) vs j) bytes at k
    (λ item has. elim has [
      | inl front ↦ inl (as_word k item (Length max) (λ b p c. c) front)
      | inr behind ↦ inr behind
    ]) h) [
      | inl cut ↦ short_bind bytes (length_at max bytes at) (λ n. many_at (λ place. reading each bytes place) n.0 n.1) (length_short max bytes at cut)
      | inr both ↦
          let count = length_again max bytes at (length vs) (at + 4) (ltb-true max (2 ^ 32) sounds.0) fits.0 both.0 in
          let read = many_cut (λ place. reading each bytes place) spell (λ v. Fits each v) (λ v i item. IsItemAt each v i item) bytes
          (λ v place to fit s. again_where each sounds.1 v bytes place to fit s) (λ v place j fit e. cut_in each sounds.1 v fit bytes place j e) (λ v i item has. item_within each sounds.1 v i item has)
          vs (at + 4) (k - 4) fits.1 both.1 in
          rw (count, read) refl
    ]
cut_in (Arm number body others) sound (inl v) fits bytes at k h =
    let sounds = sound_case number body others sound in
    elim (word_led number (spelling body v) (λ j item. IsItemAt (Arm number body others) (inl v) j item) (λ j item. IsItemAt body v j item) bytes at k
    (λ item has. elim has [
      | inl front ↦ inl (as_word k item (Choice (Arm number body others)) (λ b p c. c) front)
      | inr behind ↦ inr behind
    ]) h) [
      | inl cut ↦ short_bind bytes (number_at w32 bytes at) (λ n. arm_at (eqb n.0 number) (reading body bytes n.1) (reading others bytes at)) (word_short bytes at cut)
      | inr both ↦
          let there = word_again bytes at number (at + 4) sounds.0 both.0 in
          let here : eqb number number ≡ true = eq-eqb number number refl in
          let read = cut_in body sounds.2 v fits bytes (at + 4) (k - 4) both.1 in
          rw (there, here, read) refl
    ]
cut_in (Arm number body others) sound (inr v) fits bytes at k h =
    let sounds = sound_case number body others sound in
    let start = begins_apart others number v sounds.3 sounds.1 fits in
    let items : ℕ → Item → Type 0 = λ j item. IsItemAt (Arm number body others) (inr v) j item in
    let led : Ends bytes at (word start.number ++ start.tail) items k = subst (λ (t : List ℕ). Ends bytes at t items k) start.spelt h in
    elim (word_led start.number start.tail items (λ j item. IsItemAt others v (4 + j) item) bytes at k
    (λ item has. elim has [
      | inl front ↦ inl (as_word k item (Choice (Arm number body others)) (λ b p c. c) front)
      | inr more ↦
          elim (front_item others number sounds.1 v k item more.1) [
            | inl front ↦ absurd (omega (arith, front.0, more.0))
            | inr behind ↦
                let sum : k ≡ 4 + (k - 4) = omega (arith, behind) in
                inr (k - 4, sum, subst (λ (i : ℕ). IsItemAt others v i item) sum more.1)
          ]
    ]) led) [
      | inl cut ↦ short_bind bytes (number_at w32 bytes at) (λ n. arm_at (eqb n.0 number) (reading body bytes n.1) (reading others bytes at)) (word_short bytes at cut)
      | inr both ↦
          let there : number_at w32 bytes at ≡ Ok (start.number, at + 4) = word_again bytes at start.number (at + 4) start.below both.0 in
          let other : eqb start.number number ≡ false = start.apart in
          let inner : IsEnding others v bytes at k = record {
            there = h.there;
            cut = elim h.cut [
              | inl end ↦ inl end
              | inr item ↦
                  elim item.1 [
                    | inl front ↦
                        let cut : length bytes < at + k + 4 = subst (λ (i : Item). IsCut i bytes (at + k)) front.1 item.2 in
                        absurd (omega (arith, cut, front.0, both.0.within))
                    | inr more ↦ inr (item.0, more.1, item.2)
                  ]
            ];
          } in
          let read = cut_in others sounds.3 v fits bytes at k inner in
          rw (there, other, read) refl
    ]
cut_in NoArm sound v fits bytes at k h = absurd v
cut_in (Default numbers) sound v fits bytes at k h =
    short_bind bytes (number_at w32 bytes at) (λ n. cond (list_any (eqb n.0) numbers) (Err (record { place = at; why = NotEnum })) (Ok n))
    (word_short bytes at (word_alone v bytes at (λ j item. IsItemAt (Default numbers) v j item) k (λ item has. as_word k item (Choice (Default numbers)) (λ b p c. c) has) h))

-- where the first bytes of a value stand, and they are all; or where they stand up to an item in which the bytes end
pub ending_of : {V : Type 0} (spell : V → List ℕ) (items : V → ℕ → Item → Type 0) (v : V) (bytes : List ℕ) (at to : ℕ) → Stands bytes at (take (to - at) (spell v)) to
    → ((to ≡ length bytes) × (length bytes < at + length (spell v))) ⊎ ((item : Item) × items v (to - at) item × IsCut item bytes to) → Ends bytes at (spell v) (items v) (to - at)
ending_of spell items v bytes at to s ends =
    let sum : to ≡ at + (to - at) = omega (arith, s.ends) in
    record {
      there = subst (λ (i : ℕ). Stands bytes at (take (to - at) (spell v)) i) sum s;
      cut = subst (λ (i : ℕ). IsCutAt (length (spell v)) (items v) bytes (to - at) i) sum (elim ends [
        | inl end ↦ inl (end.0, omega (arith, end.0, end.1, sum))
        | inr item ↦ inr item
      ]);
    }

pub value_ends_short : (form : Form) → IsTrue (is_sound form) → (bytes : List ℕ) (at : ℕ) → EndsInValue form bytes at → reading form bytes at ≡ Err (record { place = length bytes; why = Short })
value_ends_short form sound bytes at h =
    cut_in form sound h.value h.fits bytes at (h.to - at) (ending_of (λ v. spelling form v) (λ v k item. IsItemAt form v k item) h.value bytes at h.to h.begins h.ends)

pub short_just_where : (form : Form) → IsTrue (is_sound form) → IsTrue (is_filled form) → IsShortJustWhere form
short_just_where form sound filled = λ bytes at fits le. (λ is. short_ends form sound filled bytes at fits le is, λ h. value_ends_short form sound bytes at h)
