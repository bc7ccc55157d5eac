-- What is read is spelled so, of every form.
use Rattle.std.proofs.Common.{◌≡◌, ℕ, zero, suc, ◌^◌, ◌≤◌, Bool, true, false, not, cond, eqb, ltb, List, [], ◌∷◌, length, Option, Some, None, Ok, Err, refl, sym, ap, subst, arith, inl, inr}
use Rattle.std.specs.Prelude.{IsTrue, ◌⊎◌}
use Rattle.std.specs.Int.{w32}
use Rattle.std.specs.List.{AllByRecursion, list_any, flat_map}
use Rattle.std.proofs.lemmas.Bool.{eqb-true, and_parts}
use Rattle.ff_xdr.specs.declared.error.XdrWhy.TheVariants.{NotEnum}
use Rattle.ff_xdr.specs.Form.{Form, Void, Number32, Number64, Hyper, Boolean, Enum, Optional, Fixed, Opaque, Text, Pair, Array, Arm, NoArm, Default, Value, Fits, spelling, is_sound, word}
use Rattle.ff_xdr.specs.Laws.{IsBytes, IsSpelledSo, Stands}
use Rattle.ff_xdr.specs.Reading.{Read, ◌>>=◌, number_at, flag_at, length_at, reading, optional_at, many_at, arm_at}
use Rattle.ff_xdr.proofs.Places.{bind_ok, guard_ok, passed, ok_is, stands_nothing, stands_join}
use Rattle.ff_xdr.proofs.Fields.{word_takes, long_takes, hyper_takes, fixed_takes, length_takes, opaque_takes, text_takes, flag_takes, flag_word}
use Rattle.ff_xdr.proofs.Again.{sound_case}

-- a value and the place behind it: it has a spelling, which stands
abbrev Spelled : (form : Form) → List ℕ → ℕ → Value form × ℕ → Type 0
Spelled form bytes at x = Fits form x.0 × Stands bytes at (spelling form x.0) x.1

-- what is read of a form from any place of these bytes on is spelled so
abbrev IsSpelledIn : Form → List ℕ → Type 0
IsSpelledIn form bytes = (at : ℕ) (v : Value form) (to : ℕ) → at ≤ length bytes → reading form bytes at ≡ Ok (v, to) → Fits form v × Stands bytes at (spelling form v) to

optional_takes : (each : Form) (bytes : List ℕ) → IsSpelledIn each bytes → (at : ℕ) (b : Bool) (m : ℕ) (x : Option (Value each) × ℕ)
    → Stands bytes at (word (flag_word b)) m → optional_at (λ place. reading each bytes place) b m ≡ Ok x → Spelled (Optional each) bytes at x
optional_takes each bytes one at false m x s e = subst (Spelled (Optional each) bytes at) (ok_is (None, m) x e) (tt, s)
optional_takes each bytes one at true m x s e =
    let a = bind_ok (reading each bytes m) (λ v. Ok (Some v.0, v.1)) x e in
    let got = one m a.0.0 a.0.1 s.within a.1 in
    subst (Spelled (Optional each) bytes at) (ok_is (Some a.0.0, a.0.1) x a.2) (got.0, stands_join bytes at (word 1) m (spelling each a.0.0) a.0.1 s got.1)

many_takes : {M : Type 0} (each : ℕ → Read M) (spell : M → List ℕ) (P : M → Type 0) (bytes : List ℕ)
    → ((at : ℕ) (v : M) (to : ℕ) → at ≤ length bytes → each at ≡ Ok (v, to) → P v × Stands bytes at (spell v) to)
    → (n at : ℕ) (x : List M × ℕ) → at ≤ length bytes → many_at each n at ≡ Ok x → (length x.0 ≡ n) × AllByRecursion P x.0 × Stands bytes at (flat_map spell x.0) x.1
many_takes each spell P bytes one zero at x le e =
    subst (λ (y : List _ × ℕ). (length y.0 ≡ 0) × AllByRecursion P y.0 × Stands bytes at (flat_map spell y.0) y.1) (ok_is ([], at) x e) (refl, tt, stands_nothing bytes at le)
many_takes each spell P bytes one (suc n) at x le e =
    let a = bind_ok (each at) (λ first. many_at each n first.1 >>= λ others. Ok (first.0 ∷ others.0, others.1)) x e in
    let b = bind_ok (many_at each n a.0.1) (λ others. Ok (a.0.0 ∷ others.0, others.1)) x a.2 in
    let first = one at a.0.0 a.0.1 le a.1 in
    let others = many_takes each spell P bytes one n a.0.1 b.0 first.1.within b.1 in
    let both = stands_join bytes at (spell a.0.0) a.0.1 (flat_map spell b.0.0) b.0.1 first.1 others.2 in
    subst (λ (y : List _ × ℕ). (length y.0 ≡ suc n) × AllByRecursion P y.0 × Stands bytes at (flat_map spell y.0) y.1) (ok_is (a.0.0 ∷ b.0.0, b.0.1) x b.2) (ap suc others.0, (first.0, others.1), both)

-- the arm that was read, or one of the others
pub case_cases : {A B : Type 0} (b : Bool) (body : Read A) (others : Read B) (x : (A ⊎ B) × ℕ) → arm_at b body others ≡ Ok x
    → ((b ≡ true) × ((y : A × ℕ) × (body ≡ Ok y) × ((inl y.0, y.1) ≡ x))) ⊎ ((b ≡ false) × ((y : B × ℕ) × (others ≡ Ok y) × ((inr y.0, y.1) ≡ x)))
case_cases true body others x e =
    let a = bind_ok body (λ v. Ok (inl v.0, v.1)) x e in
    inl (refl, (a.0, a.1, ok_is (inl a.0.0, a.0.1) x a.2))
case_cases false body others x e =
    let a = bind_ok others (λ v. Ok (inr v.0, v.1)) x e in
    inr (refl, (a.0, a.1, ok_is (inr a.0.0, a.0.1) x a.2))

case_takes : (number : ℕ) (body others : Form) (bytes : List ℕ) → IsSpelledIn body bytes → IsSpelledIn others bytes → (at n m : ℕ) (x : Value (Arm number body others) × ℕ) → at ≤ length bytes
    → Stands bytes at (word n) m → arm_at (eqb n number) (reading body bytes m) (reading others bytes at) ≡ Ok x → Spelled (Arm number body others) bytes at x
case_takes number body others bytes one other at n m x le s e =
    elim (case_cases (eqb n number) (reading body bytes m) (reading others bytes at) x e) [
      | inl h ↦
          let got = one m h.1.0.0 h.1.0.1 s.within h.1.1 in
          let front : Stands bytes at (word number) m = subst (λ (k : ℕ). Stands bytes at (word k) m) (eqb-true n number h.0) s in
          subst (Spelled (Arm number body others) bytes at) h.1.2 (got.0, stands_join bytes at (word number) m (spelling body h.1.0.0) h.1.0.1 front got.1)
      | inr h ↦ subst (Spelled (Arm number body others) bytes at) h.1.2 (other at h.1.0.0 h.1.0.1 le h.1.1)
    ]

pub spelled_in : (form : Form) → IsTrue (is_sound form) → (bytes : List ℕ) → IsBytes bytes → (at : ℕ) (v : Value form) (to : ℕ) → at ≤ length bytes → reading form bytes at ≡ Ok (v, to) → Fits form v × Stands bytes at (spelling form v) to
spelled_in Void sound bytes fits at v to le e = subst (Spelled Void bytes at) (ok_is (tt, at) (v, to) e) (tt, stands_nothing bytes at le)
spelled_in Number32 sound bytes fits at v to le e =
    let t = word_takes bytes at v to fits le e in
    (t.1, t.0)
spelled_in Number64 sound bytes fits at v to le e =
    let t = long_takes bytes at v to fits le e in
    (t.1, t.0)
spelled_in Hyper sound bytes fits at v to le e = hyper_takes bytes at v to fits le e
spelled_in Boolean sound bytes fits at false to le e = (tt, flag_takes bytes at false to fits le e)
spelled_in Boolean sound bytes fits at true to le e = (tt, flag_takes bytes at true to fits le e)
spelled_in (Enum numbers) sound bytes fits at v to le e =
    let a = bind_ok (number_at w32 bytes at) (λ n. cond (list_any (eqb n.0) numbers) (Ok n) (Err (record { place = at; why = NotEnum }))) (v, to) e in
    let g = passed (list_any (eqb a.0.0) numbers) (record { place = at; why = NotEnum }) (Ok a.0) (v, to) a.2 in
    let t = word_takes bytes at a.0.0 a.0.1 fits le a.1 in
    subst (Spelled (Enum numbers) bytes at) (ok_is a.0 (v, to) g.1) (g.0, t.0)
spelled_in (Optional each) sound bytes fits at v to le e =
    let a = bind_ok (flag_at bytes at) (λ there. optional_at (λ place. reading each bytes place) there.0 there.1) (v, to) e in
    let there = flag_takes bytes at a.0.0 a.0.1 fits le a.1 in
    optional_takes each bytes (spelled_in each sound bytes fits) at a.0.0 a.0.1 (v, to) there a.2
spelled_in (Fixed count) sound bytes fits at v to le e =
    let t = fixed_takes count bytes at v to le e in
    (t.0, t.2)
spelled_in (Opaque max) sound bytes fits at v to le e = opaque_takes max bytes at v to fits le e
spelled_in (Text max) sound bytes fits at v to le e =
    let t = text_takes max bytes at v to fits le e in
    ((t.0, t.1), t.2)
spelled_in (Pair first second) sound bytes fits at v to le e =
    let sounds = and_parts (is_sound first) (is_sound second) sound in
    let a = bind_ok (reading first bytes at) (λ a. reading second bytes a.1 >>= λ b. Ok ((a.0, b.0), b.1)) (v, to) e in
    let b = bind_ok (reading second bytes a.0.1) (λ b. Ok ((a.0.0, b.0), b.1)) (v, to) a.2 in
    let left = spelled_in first sounds.0 bytes fits at a.0.0 a.0.1 le a.1 in
    let right = spelled_in second sounds.1 bytes fits a.0.1 b.0.0 b.0.1 left.1.within b.1 in
    let both = stands_join bytes at (spelling first a.0.0) a.0.1 (spelling second b.0.0) b.0.1 left.1 right.1 in
    subst (Spelled (Pair first second) bytes at) (ok_is ((a.0.0, b.0.0), b.0.1) (v, to) b.2) ((left.0, right.0), both)
spelled_in (Array max each) sound bytes fits at v to le e =
    let sounds = and_parts (ltb max (2 ^ 32)) (is_sound each) sound in
    let a = bind_ok (length_at max bytes at) (λ n. many_at (λ place. reading each bytes place) n.0 n.1) (v, to) e in
    let count = length_takes max bytes at a.0.0 a.0.1 fits le a.1 in
    let one : IsSpelledIn each bytes = spelled_in each sounds.1 bytes fits in
    let many = many_takes (λ place. reading each bytes place) (λ v. spelling each v) (λ v. Fits each v) bytes one a.0.0 a.0.1 (v, to) count.0.within a.2 in
    let front : Stands bytes at (word (length v)) a.0.1 = subst (λ (k : ℕ). Stands bytes at (word k) a.0.1) (sym many.0) count.0 in
    ((omega (arith, many.0, count.1), many.1), stands_join bytes at (word (length v)) a.0.1 (flat_map (λ v. spelling each v) v) to front many.2)
spelled_in (Arm number body others) sound bytes fits at v to le e =
    let sounds = sound_case number body others sound in
    let a = bind_ok (number_at w32 bytes at) (λ n. arm_at (eqb n.0 number) (reading body bytes n.1) (reading others bytes at)) (v, to) e in
    let t = word_takes bytes at a.0.0 a.0.1 fits le a.1 in
    case_takes number body others bytes (spelled_in body sounds.2 bytes fits) (spelled_in others sounds.3 bytes fits) at a.0.0 a.0.1 (v, to) le t.0 a.2
spelled_in NoArm sound bytes fits at v to le e = absurd v
spelled_in (Default numbers) sound bytes fits at v to le e =
    let a = bind_ok (number_at w32 bytes at) (λ n. cond (list_any (eqb n.0) numbers) (Err (record { place = at; why = NotEnum })) (Ok n)) (v, to) e in
    let g = guard_ok (list_any (eqb a.0.0) numbers) (record { place = at; why = NotEnum }) (Ok a.0) (v, to) a.2 in
    let t = word_takes bytes at a.0.0 a.0.1 fits le a.1 in
    let other : not (list_any (eqb a.0.0) numbers) ≡ true = rw g.0 refl in
    subst (Spelled (Default numbers) bytes at) (ok_is a.0 (v, to) g.1) ((t.1, other), t.0)

pub spelled : (form : Form) → IsTrue (is_sound form) → IsSpelledSo form
spelled form sound = λ bytes at v to fits le e. spelled_in form sound bytes fits at v to le e
