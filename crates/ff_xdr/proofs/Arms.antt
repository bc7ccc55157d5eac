-- The laws of a union whose number is known from outside.
use Rattle.std.proofs.Common.{◌≡◌, ℕ, ◌+◌, ◌≤◌, true, false, not, eqb, List, ◌++◌, length, Ok, refl, sym, subst, inl, inr}
use Rattle.std.specs.Prelude.{IsTrue}
use Rattle.std.proofs.lemmas.Bool.{eqb-true, eq-eqb, ne_eqb, and_parts, not-true, both_ways, false≢true}
use Rattle.ff_xdr.specs.Form.{Form, Arm, NoArm, Value, Fits, is_sound, avoids, arm_spelling, arm_of}
use Rattle.ff_xdr.specs.Laws.{IsBytes, Stands, is_union, IsArmReadAgain, IsArmSpelledSo}
use Rattle.ff_xdr.specs.Reading.{reading, arm_reading}
use Rattle.ff_xdr.proofs.Places.{stands_between}
use Rattle.ff_xdr.proofs.Again.{sound_case, again_where}
use Rattle.ff_xdr.proofs.SpelledSo.{case_cases, spelled_in}

-- a value of a union that avoids n is of another arm
pub arm_apart : (form : Form) (n : ℕ) (v : Value form) → IsTrue (is_union form) → IsTrue (avoids n form) → eqb (arm_of form v) n ≡ false
arm_apart (Arm number body others) n (inl v) union away =
    let other = not-true (eqb n number) (and_parts (not (eqb n number)) (avoids n others) away).0 in
    ne_eqb number n (λ same. both_ways _ other (eq-eqb n number (sym same)))
arm_apart (Arm number body others) n (inr v) union away = arm_apart others n v union (and_parts (not (eqb n number)) (avoids n others) away).1
arm_apart NoArm n v union away = absurd v
arm_apart _ n v union away = absurd (false≢true union)

pub arm_again_where : (form : Form) → IsTrue (is_sound form) → IsTrue (is_union form) → (v : Value form) (bytes : List ℕ) (at to : ℕ) → Fits form v → Stands bytes at (arm_spelling form v) to
    → arm_reading form (arm_of form v) bytes at ≡ Ok (v, to)
arm_again_where (Arm number body others) sound union (inl v) bytes at to fits s =
    let here : eqb number number ≡ true = eq-eqb number number refl in
    let read = again_where body (sound_case number body others sound).2 v bytes at to fits s in
    rw (here, read) refl
arm_again_where (Arm number body others) sound union (inr v) bytes at to fits s =
    let sounds = sound_case number body others sound in
    let other = arm_apart others number v union sounds.1 in
    let read = arm_again_where others sounds.3 union v bytes at to fits s in
    rw (other, read) refl
arm_again_where NoArm sound union v bytes at to fits s = absurd v
arm_again_where _ sound union v bytes at to fits s = absurd (false≢true union)

pub arm_again : (form : Form) → IsTrue (is_sound form) → IsTrue (is_union form) → IsArmReadAgain form
arm_again form sound union = λ v front rest fits.
    arm_again_where form sound union v (front ++ arm_spelling form v ++ rest) (length front) (length front + length (arm_spelling form v)) fits (stands_between front (arm_spelling form v) rest)

-- a value that is read is of the arm with the number
abbrev IsOfArm : (form : Form) → ℕ → List ℕ → ℕ → Value form × ℕ → Type 0
IsOfArm form n bytes at x = (arm_of form x.0 ≡ n) × Fits form x.0 × Stands bytes at (arm_spelling form x.0) x.1

arm_spelled_in : (form : Form) → IsTrue (is_sound form) → IsTrue (is_union form) → (n : ℕ) (bytes : List ℕ) (at : ℕ) (v : Value form) (to : ℕ) → IsBytes bytes → at ≤ length bytes
    → arm_reading form n bytes at ≡ Ok (v, to) → IsOfArm form n bytes at (v, to)
arm_spelled_in (Arm number body others) sound union n bytes at v to fits le e =
    let sounds = sound_case number body others sound in
    elim (case_cases (eqb n number) (reading body bytes at) (arm_reading others n bytes at) (v, to) e) [
      | inl h ↦
          let got = spelled_in body sounds.2 bytes fits at h.1.0.0 h.1.0.1 le h.1.1 in
          subst (IsOfArm (Arm number body others) n bytes at) h.1.2 (sym (eqb-true n number h.0), got.0, got.1)
      | inr h ↦
          let got = arm_spelled_in others sounds.3 union n bytes at h.1.0.0 h.1.0.1 fits le h.1.1 in
          subst (IsOfArm (Arm number body others) n bytes at) h.1.2 (got.0, got.1, got.2)
    ]
arm_spelled_in NoArm sound union n bytes at v to fits le e = absurd v
arm_spelled_in _ sound union n bytes at v to fits le e = absurd (false≢true union)

pub arm_spelled : (form : Form) → IsTrue (is_sound form) → IsTrue (is_union form) → IsArmSpelledSo form
arm_spelled form sound union = λ n bytes at v to fits le e. arm_spelled_in form sound union n bytes at v to fits le e
