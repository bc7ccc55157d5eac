-- Up to a refused place some value has the bytes, of every form.
use Rattle.std.proofs.Common.{◌≡◌, ℕ, zero, suc, ◌-◌, ◌<◌, ◌≤◌, ◌^◌, pos, Bool, true, false, not, ◌||◌, cond, eqb, ltb, List, [], ◌∷◌, ◌++◌, length, take, replicate, Some, None, Ok, Err, refl, sym, ap, subst, ◌∙◌, append-nil, arith, rules, inl, inr}
use Rattle.std.specs.Prelude.{IsTrue, ◌⊎◌}
use Rattle.std.specs.Int.{w32, w64}
use Rattle.std.specs.Int.RustNames.{FitsSigned}
use Rattle.std.specs.List.{AllByRecursion, list_any, list_all, flat_map}
use Rattle.std.proofs.lemmas.Str.{is_utf8-from_IsUtf8, IsUtf8-nil}
use Rattle.std.proofs.lemmas.Bool.{and_parts, or_cases, or_left, eq-eqb, eqb-true, ne_eqb, ltb-true, both_ways, false≢true}
use Rattle.std.proofs.lemmas.List.{length-replicate, take_at}
use Rattle.ff_xdr.specs.declared.error.XdrError.{XdrError}
use Rattle.ff_xdr.specs.declared.error.XdrWhy.TheVariants.{Short, NotEnum}
use Rattle.ff_xdr.specs.Form.{Form, Void, Number32, Number64, Hyper, Boolean, Enum, Optional, Fixed, Opaque, Text, Pair, Array, Arm, NoArm, Default, Value, Fits, spelling, is_sound, word, arm_spelling, arm_of, has_arm}
use Rattle.ff_xdr.specs.Laws.{IsBytes, Stands, is_end, is_filled, is_union, Begins, IsFirstFault, IsFirstWholeFault, IsFirstArmFault}
use Rattle.ff_xdr.specs.Reading.{Read, ◌>>=◌, length_at, flag_at, reading, arm_reading, many_at, optional_at, arm_at}
use Rattle.ff_xdr.proofs.Again.{sound_case}
use Rattle.ff_xdr.proofs.Places.{err_is, stands_nothing}
use Rattle.ff_xdr.proofs.Fields.{word_takes, length_takes, flag_takes, flag_word}
use Rattle.ff_xdr.proofs.SpelledSo.{spelled_in}
use Rattle.ff_xdr.proofs.Refusals.{whole_cases}
use Rattle.ff_xdr.proofs.Begun.{Begun, begun_nothing, begun_first, begun_second, bind_err, not_err, fails, fails_else, number_read, number_refused, hyper_refused, length_refused, flag_refused, begun_fixed, begun_opaque, begun_text}

-- ---- a value of a form

fits_zero : FitsSigned w64 (pos 0)
fits_zero = search rules

-- the greatest word is none of numbers below it
none_above : (numbers : List ℕ) → list_all (λ n. ltb n (2 ^ 32 - 1)) numbers ≡ true → not (list_any (eqb (2 ^ 32 - 1)) numbers) ≡ true
none_above [] all = refl
none_above (n ∷ numbers) all =
    let a = and_parts (ltb n (2 ^ 32 - 1)) (list_all (λ k. ltb k (2 ^ 32 - 1)) numbers) all in
    let less : n < 2 ^ 32 - 1 = ltb-true _ _ a.0 in
    let apart : eqb (2 ^ 32 - 1) n ≡ false = ne_eqb (2 ^ 32 - 1) n (λ same. absurd (omega (arith, same, less))) in
    rw apart (none_above numbers a.1)

pub some_value : (form : Form) → IsTrue (is_filled form) → (v : Value form) × Fits form v
some_value Void filled = (tt, tt)
some_value Number32 filled = (0, omega arith)
some_value Number64 filled = (0, omega arith)
some_value Hyper filled = (pos 0, fits_zero)
some_value Boolean filled = (false, tt)
some_value (Enum []) filled = absurd (false≢true filled)
some_value (Enum (n ∷ numbers)) filled = (n, or_left (eqb n n) (list_any (eqb n) numbers) (eq-eqb n n refl))
some_value (Optional each) filled = (None, tt)
some_value (Fixed count) filled = (replicate count 0, length-replicate count 0)
some_value (Opaque max) filled = ([], omega arith)
some_value (Text max) filled = ([], (omega arith, is_utf8-from_IsUtf8 [] IsUtf8-nil))
some_value (Pair first second) filled =
    let both = and_parts (is_filled first) (is_filled second) filled in
    let a = some_value first both.0 in
    let b = some_value second both.1 in
    ((a.0, b.0), (a.1, b.1))
some_value (Array max each) filled = ([], (omega arith, tt))
some_value (Arm number body others) filled =
    let v = some_value body (and_parts (is_filled body) (is_end others || is_filled others) filled).0 in
    (inl v.0, v.1)
some_value NoArm filled = absurd (false≢true filled)
some_value (Default numbers) filled = (2 ^ 32 - 1, (omega arith, none_above numbers filled))

-- ---- several values

pub all_same : {M : Type 0} (P : M → Type 0) (n : ℕ) (v : M) → P v → AllByRecursion P (replicate n v)
all_same P zero v fits = tt
all_same P (suc n) v fits = (fits, all_same P n v fits)

-- so many values of which each has a spelling
abbrev pub Many : {M : Type 0} → (M → Type 0) → ℕ → List M → Type 0
Many P n vs = (length vs ≡ n) × AllByRecursion P vs

begun_many : {M : Type 0} (each : ℕ → Read M) (spell : M → List ℕ) (P : M → Type 0) (some : M) (bytes : List ℕ) (e : XdrError) → P some → ¬ (e.why ≡ Short)
    → ((at : ℕ) (v : M) (to : ℕ) → at ≤ length bytes → each at ≡ Ok (v, to) → P v × Stands bytes at (spell v) to)
    → ((at : ℕ) → at ≤ length bytes → each at ≡ Err e → Begun spell P bytes at e.place)
    → (n at : ℕ) → at ≤ length bytes → many_at each n at ≡ Err e → Begun (flat_map spell) (Many P n) bytes at e.place
begun_many each spell P some bytes e fits other took refused zero at le is = absurd cc
begun_many each spell P some bytes e fits other took refused (suc n) at le is =
    elim (bind_err (each at) (λ first. many_at each n first.1 >>= λ others. Ok (first.0 ∷ others.0, others.1)) e is) [
      | inl h ↦
          begun_first spell P (flat_map spell) (Many P (suc n)) (λ v. v ∷ replicate n some) bytes at e.place (λ v. flat_map spell (replicate n some))
          (λ v fit. (ap suc (length-replicate n some), (fit, all_same P n some fits))) (λ v fit. refl) (refused at le h)
      | inr h ↦
          let first = took at h.0.0 h.0.1 le h.1 in
          begun_second (flat_map spell) (Many P n) (flat_map spell) (Many P (suc n)) (λ vs. h.0.0 ∷ vs) bytes at e.place (spell h.0.0) h.0.1 first.1
          (λ vs fit. (ap suc fit.0, (first.0, fit.1))) (λ vs fit. refl)
          (begun_many each spell P some bytes e fits other took refused n h.0.1 first.1.within (not_err (many_at each n h.0.1) (λ others. (h.0.0 ∷ others.0, others.1)) e h.2))
    ]

-- ---- every form

-- a value of the form has the bytes up to the place
abbrev IsBegun : Form → List ℕ → ℕ → ℕ → Type 0
IsBegun form bytes at place = Begun (λ v. spelling form v) (λ v. Fits form v) bytes at place

-- where the arms end, the union's number is refused
end_refused : (form : Form) (bytes : List ℕ) (at : ℕ) (e : XdrError) → is_end form ≡ true → reading form bytes at ≡ Err e → ¬ (e.why ≡ Short) → e.place ≡ at
end_refused NoArm bytes at e end is other =
    let h = number_read w32 bytes at (λ n. Err (record { place = at; why = NotEnum })) e is other in
    ap (λ (d : XdrError). d.place) (err_is {A = ⊥ × ℕ} (record { place = at; why = NotEnum }) e h.2)
end_refused _ bytes at e end is other = absurd (false≢true end)

-- the arm that was refused, or one of the others
pub case_err : {A B : Type 0} (b : Bool) (body : Read A) (others : Read B) (e : XdrError) → arm_at b body others ≡ Err e → ((b ≡ true) × (body ≡ Err e)) ⊎ ((b ≡ false) × (others ≡ Err e))
case_err true body others e is = inl (refl, not_err body (λ v. (inl v.0, v.1)) e is)
case_err false body others e is = inr (refl, not_err others (λ v. (inr v.0, v.1)) e is)

begun_optional : (each : Form) (bytes : List ℕ) (at : ℕ) (e : XdrError) → ((m : ℕ) → m ≤ length bytes → reading each bytes m ≡ Err e → IsBegun each bytes m e.place)
    → (there : Bool) (m : ℕ) → Stands bytes at (word (flag_word there)) m → optional_at (λ place. reading each bytes place) there m ≡ Err e → IsBegun (Optional each) bytes at e.place
begun_optional each bytes at e one false m s is = absurd cc
begun_optional each bytes at e one true m s is =
    let read : reading each bytes m ≡ Err e = not_err (reading each bytes m) (λ v. (Some v.0, v.1)) e is in
    begun_second (λ v. spelling each v) (λ v. Fits each v) (λ v. spelling (Optional each) v) (λ v. Fits (Optional each) v) (λ v. Some v) bytes at e.place (word 1) m s (λ v fit. fit) (λ v fit. refl) (one m s.within read)

begun_in : (form : Form) → IsTrue (is_sound form) → IsTrue (is_filled form) → (bytes : List ℕ) → IsBytes bytes → (at : ℕ) (e : XdrError) → at ≤ length bytes → reading form bytes at ≡ Err e → ¬ (e.why ≡ Short)
    → IsBegun form bytes at e.place
begun_in Void sound filled bytes fits at e le is other = absurd cc
begun_in Number32 sound filled bytes fits at e le is other = absurd (number_refused w32 bytes at e is other)
begun_in Number64 sound filled bytes fits at e le is other = absurd (number_refused w64 bytes at e is other)
begun_in Hyper sound filled bytes fits at e le is other = absurd (hyper_refused bytes at e is other)
begun_in Boolean sound filled bytes fits at e le is other = begun_nothing (λ v. spelling Boolean v) (λ v. Fits Boolean v) bytes at e.place false tt le (flag_refused bytes at e is other)
begun_in (Enum numbers) sound filled bytes fits at e le is other =
    let v = some_value (Enum numbers) filled in
    let h = number_read w32 bytes at (λ n. cond (list_any (eqb n.0) numbers) (Ok n) (Err (record { place = at; why = NotEnum }))) e is other in
    let place : e.place ≡ at = ap (λ (d : XdrError). d.place) (fails_else (list_any (eqb h.0.0) numbers) h.0 (record { place = at; why = NotEnum }) e h.2) in
    begun_nothing (λ v. spelling (Enum numbers) v) (λ v. Fits (Enum numbers) v) bytes at e.place v.0 v.1 le place
begun_in (Optional each) sound filled bytes fits at e le is other =
    elim (bind_err (flag_at bytes at) (λ there. optional_at (λ place. reading each bytes place) there.0 there.1) e is) [
      | inl h ↦ begun_nothing (λ v. spelling (Optional each) v) (λ v. Fits (Optional each) v) bytes at e.place None tt le (flag_refused bytes at e h other)
      | inr h ↦ begun_optional each bytes at e (λ m within read. begun_in each sound filled bytes fits m e within read other) h.0.0 h.0.1 (flag_takes bytes at h.0.0 h.0.1 fits le h.1) h.2
    ]
begun_in (Fixed count) sound filled bytes fits at e le is other = begun_fixed (λ text. length text ≡ count) count bytes at e is other (λ len. len)
begun_in (Opaque max) sound filled bytes fits at e le is other = begun_opaque max bytes at e fits le is other
begun_in (Text max) sound filled bytes fits at e le is other = begun_text max bytes at e fits le is other
begun_in (Pair first second) sound filled bytes fits at e le is other =
    let sounds = and_parts (is_sound first) (is_sound second) sound in
    let both = and_parts (is_filled first) (is_filled second) filled in
    elim (bind_err (reading first bytes at) (λ a. reading second bytes a.1 >>= λ b. Ok ((a.0, b.0), b.1)) e is) [
      | inl h ↦
          let b = some_value second both.1 in
          begun_first (λ v. spelling first v) (λ v. Fits first v) (λ v. spelling (Pair first second) v) (λ v. Fits (Pair first second) v) (λ a. (a, b.0)) bytes at e.place (λ a. spelling second b.0)
          (λ a fit. (fit, b.1)) (λ a fit. refl) (begun_in first sounds.0 both.0 bytes fits at e le h other)
      | inr h ↦
          let a = spelled_in first sounds.0 bytes fits at h.0.0 h.0.1 le h.1 in
          begun_second (λ v. spelling second v) (λ v. Fits second v) (λ v. spelling (Pair first second) v) (λ v. Fits (Pair first second) v) (λ b. (h.0.0, b)) bytes at e.place (spelling first h.0.0) h.0.1 a.1
          (λ b fit. (a.0, fit)) (λ b fit. refl)
          (begun_in second sounds.1 both.1 bytes fits h.0.1 e a.1.within (not_err (reading second bytes h.0.1) (λ b. ((h.0.0, b.0), b.1)) e h.2) other)
    ]
begun_in (Array max each) sound filled bytes fits at e le is other =
    let sounds = and_parts (ltb max (2 ^ 32)) (is_sound each) sound in
    elim (bind_err (length_at max bytes at) (λ n. many_at (λ place. reading each bytes place) n.0 n.1) e is) [
      | inl h ↦ begun_nothing (λ v. spelling (Array max each) v) (λ v. Fits (Array max each) v) bytes at e.place [] (omega arith, tt) le (length_refused max bytes at e h other)
      | inr h ↦
          let t = length_takes max bytes at h.0.0 h.0.1 fits le h.1 in
          let some = some_value each filled in
          let took : (place : ℕ) (v : Value each) (to : ℕ) → place ≤ length bytes → reading each bytes place ≡ Ok (v, to) → Fits each v × Stands bytes place (spelling each v) to =
          λ place v to within read. spelled_in each sounds.1 bytes fits place v to within read in
          let refused : (place : ℕ) → place ≤ length bytes → reading each bytes place ≡ Err e → IsBegun each bytes place e.place =
          λ place within read. begun_in each sounds.1 filled bytes fits place e within read other in
          begun_second (flat_map (λ v. spelling each v)) (Many (λ v. Fits each v) h.0.0) (λ v. spelling (Array max each) v) (λ v. Fits (Array max each) v) (λ vs. vs) bytes at e.place (word h.0.0) h.0.1 t.0
          (λ vs fit. (omega (arith, fit.0, t.1), fit.1)) (λ vs fit. ap (λ (k : ℕ). word k ++ flat_map (λ v. spelling each v) vs) fit.0)
          (begun_many (λ place. reading each bytes place) (λ v. spelling each v) (λ v. Fits each v) some.0 bytes e some.1 other took refused h.0.0 h.0.1 t.0.within h.2)
    ]
begun_in (Arm number body others) sound filled bytes fits at e le is other =
    let sounds = sound_case number body others sound in
    let both = and_parts (is_filled body) (is_end others || is_filled others) filled in
    let n = number_read w32 bytes at (λ n. arm_at (eqb n.0 number) (reading body bytes n.1) (reading others bytes at)) e is other in
    let t = word_takes bytes at n.0.0 n.0.1 fits le n.1 in
    elim (case_err (eqb n.0.0 number) (reading body bytes n.0.1) (reading others bytes at) e n.2) [
      | inl h ↦
          let front : Stands bytes at (word number) n.0.1 = subst (λ (k : ℕ). Stands bytes at (word k) n.0.1) (eqb-true n.0.0 number h.0) t.0 in
          begun_second (λ v. spelling body v) (λ v. Fits body v) (λ v. spelling (Arm number body others) v) (λ v. Fits (Arm number body others) v) (λ v. inl v) bytes at e.place (word number) n.0.1 front
          (λ v fit. fit) (λ v fit. refl) (begun_in body sounds.2 both.0 bytes fits n.0.1 e t.0.within h.1 other)
      | inr h ↦
          elim (or_cases (is_end others) (is_filled others) both.1) [
            | inl end ↦
                let v = some_value body both.0 in
                begun_nothing (λ v. spelling (Arm number body others) v) (λ v. Fits (Arm number body others) v) bytes at e.place (inl v.0) v.1 le (end_refused others bytes at e end h.1 other)
            | inr more ↦
                begun_second (λ v. spelling others v) (λ v. Fits others v) (λ v. spelling (Arm number body others) v) (λ v. Fits (Arm number body others) v) (λ v. inr v) bytes at e.place [] at (stands_nothing bytes at le)
                (λ v fit. fit) (λ v fit. refl) (begun_in others sounds.3 more bytes fits at e le h.1 other)
          ]
    ]
begun_in NoArm sound filled bytes fits at e le is other = absurd (false≢true filled)
begun_in (Default numbers) sound filled bytes fits at e le is other =
    let v = some_value (Default numbers) filled in
    let h = number_read w32 bytes at (λ n. cond (list_any (eqb n.0) numbers) (Err (record { place = at; why = NotEnum })) (Ok n)) e is other in
    let place : e.place ≡ at = ap (λ (d : XdrError). d.place) (fails (list_any (eqb h.0.0) numbers) (record { place = at; why = NotEnum }) h.0 e h.2) in
    begun_nothing (λ v. spelling (Default numbers) v) (λ v. Fits (Default numbers) v) bytes at e.place v.0 v.1 le place

pub begins_from : (form : Form) (bytes : List ℕ) (at place : ℕ) → IsBegun form bytes at place → Begins form bytes at place
begins_from form bytes at place b =
    let size : length b.part ≡ place - at = omega (arith, b.there.ends) in
    let part : take (place - at) (spelling form b.value) ≡ b.part = ap (λ (t : List ℕ). take (place - at) t) b.spelt ∙ take_at b.part b.rest (place - at) size in
    record { value = b.value; fits = b.fits; begins = rw part b.there }

pub first_fault : (form : Form) → IsTrue (is_sound form) → IsTrue (is_filled form) → IsFirstFault form
first_fault form sound filled = λ bytes at e fits le is other. begins_from form bytes at e.place (begun_in form sound filled bytes fits at e le is other)

-- ---- a value and nothing behind it

pub first_whole_fault : (form : Form) → IsTrue (is_sound form) → IsTrue (is_filled form) → IsFirstWholeFault form
first_whole_fault form sound filled = λ bytes at e fits le is other. elim (whole_cases bytes (reading form bytes at) e is) [
  | inl refusal ↦ first_fault form sound filled bytes at e fits le refusal other
  | inr rest ↦
      let got = spelled_in form sound bytes fits at rest.value.0 rest.value.1 le rest.read in
      let place : e.place ≡ rest.value.1 = ap (λ (d : XdrError). d.place) rest.refusal in
      let all : IsBegun form bytes at rest.value.1 = record {
        value = rest.value.0;
        fits = got.0;
        part = spelling form rest.value.0;
        rest = [];
        spelt = sym (append-nil (spelling form rest.value.0));
        there = got.1;
      } in
      begins_from form bytes at e.place (subst (λ (k : ℕ). IsBegun form bytes at k) (sym place) all)
]

-- ---- a union whose number is known from outside

abbrev IsArmBegun : Form → ℕ → List ℕ → ℕ → ℕ → Type 0
IsArmBegun form n bytes at place = Begun (λ v. arm_spelling form v) (λ v. Fits form v × (arm_of form v ≡ n)) bytes at place

no_arm_at_end : (form : Form) (n : ℕ) → is_end form ≡ true → has_arm n form ≡ true → ⊥
no_arm_at_end NoArm n end has = false≢true has
no_arm_at_end _ n end has = false≢true end

-- a number that is not the first arm's has its arm among the others, and they have values
pub arm_of_others : (number n : ℕ) (others : Form) → eqb n number ≡ false → IsTrue (eqb n number || has_arm n others) → IsTrue (is_end others || is_filled others) → IsTrue (has_arm n others) × IsTrue (is_filled others)
arm_of_others number n others other has filled =
    let more : IsTrue (has_arm n others) = elim (or_cases (eqb n number) (has_arm n others) has) [
      | inl here ↦ absurd (both_ways (eqb n number) other here)
      | inr there ↦ there
    ] in
    let rest : IsTrue (is_filled others) = elim (or_cases (is_end others) (is_filled others) filled) [
      | inl end ↦ absurd (no_arm_at_end others n end more)
      | inr there ↦ there
    ] in
    (more, rest)

arm_begun : (form : Form) → IsTrue (is_sound form) → IsTrue (is_filled form) → IsTrue (is_union form) → (n : ℕ) → IsTrue (has_arm n form) → (bytes : List ℕ) → IsBytes bytes → (at : ℕ) (e : XdrError) → at ≤ length bytes
    → arm_reading form n bytes at ≡ Err e → ¬ (e.why ≡ Short) → IsArmBegun form n bytes at e.place
arm_begun (Arm number body others) sound filled union n has bytes fits at e le is other =
    let sounds = sound_case number body others sound in
    let both = and_parts (is_filled body) (is_end others || is_filled others) filled in
    elim (case_err (eqb n number) (reading body bytes at) (arm_reading others n bytes at) e is) [
      | inl h ↦
          begun_second (λ v. spelling body v) (λ v. Fits body v) (λ v. arm_spelling (Arm number body others) v) (λ v. Fits (Arm number body others) v × (arm_of (Arm number body others) v ≡ n)) (λ v. inl v) bytes at e.place [] at (stands_nothing bytes at le)
          (λ v fit. (fit, sym (eqb-true n number h.0))) (λ v fit. refl) (begun_in body sounds.2 both.0 bytes fits at e le h.1 other)
      | inr h ↦
          let rest = arm_of_others number n others h.0 has both.1 in
          begun_second (λ v. arm_spelling others v) (λ v. Fits others v × (arm_of others v ≡ n)) (λ v. arm_spelling (Arm number body others) v) (λ v. Fits (Arm number body others) v × (arm_of (Arm number body others) v ≡ n)) (λ v. inr v) bytes at e.place [] at (stands_nothing bytes at le)
          (λ v fit. fit) (λ v fit. refl) (arm_begun others sounds.3 rest.1 union n rest.0 bytes fits at e le h.1 other)
    ]
arm_begun NoArm sound filled union n has bytes fits at e le is other = absurd (false≢true has)
arm_begun _ sound filled union n has bytes fits at e le is other = absurd (false≢true union)

pub first_arm_fault : (form : Form) → IsTrue (is_sound form) → IsTrue (is_filled form) → IsTrue (is_union form) → IsFirstArmFault form
first_arm_fault form sound filled union = λ n bytes at e has fits le is other.
    let b = arm_begun form sound filled union n has bytes fits at e le is other in
    let size : length b.part ≡ e.place - at = omega (arith, b.there.ends) in
    let part : take (e.place - at) (arm_spelling form b.value) ≡ b.part = ap (λ (t : List ℕ). take (e.place - at) t) b.spelt ∙ take_at b.part b.rest (e.place - at) size in
    record { value = b.value; fits = b.fits.0; arm = b.fits.1; begins = rw part b.there }
