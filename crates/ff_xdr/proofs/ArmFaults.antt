-- Refusals of a union whose number is known from outside.
use Rattle.std.proofs.Common.{◌≡◌, ℕ, ◌-◌, ◌≤◌, true, ◌||◌, eqb, List, [], length, Err, refl, sym, append-nil, inl, inr}
use Rattle.std.specs.Prelude.{IsTrue}
use Rattle.std.proofs.lemmas.Bool.{and_parts, eqb-true, eq-eqb, false≢true}
use Rattle.ff_xdr.specs.declared.error.XdrError.{XdrError}
use Rattle.ff_xdr.specs.declared.error.XdrWhy.TheVariants.{Short}
use Rattle.ff_xdr.specs.Form.{Form, Arm, NoArm, Value, Fits, spelling, is_sound, arm_spelling, arm_of, has_arm}
use Rattle.ff_xdr.specs.Laws.{IsBytes, is_end, is_filled, is_union}
use Rattle.ff_xdr.specs.Reading.{reading, arm_reading}
use Rattle.ff_xdr.specs.Faults.{IsItemAt, IsItemOfArm, EndsInArm, IsArmNamedRight, IsArmShortJustWhere}
use Rattle.ff_xdr.proofs.Again.{sound_case}
use Rattle.ff_xdr.proofs.FirstFault.{case_err, arm_of_others}
use Rattle.ff_xdr.proofs.Arms.{arm_apart}
use Rattle.ff_xdr.proofs.Stopped.{Stopped, stopped_first}
use Rattle.ff_xdr.proofs.StoppedForms.{stopped_in}
use Rattle.ff_xdr.proofs.Named.{fault_from, end_from}
use Rattle.ff_xdr.proofs.CutShort.{IsShort, Ends}
use Rattle.ff_xdr.proofs.CutForms.{cut_in, ending_of}

-- a value of the arm begins with the bytes up to where the reading stops
abbrev IsArmStopped : Form → ℕ → List ℕ → ℕ → XdrError → Type 0
IsArmStopped form n bytes at e = Stopped (λ v. arm_spelling form v) (λ v. Fits form v × (arm_of form v ≡ n)) (λ v k item. IsItemOfArm form v k item) bytes at e

arm_stopped : (form : Form) → IsTrue (is_sound form) → IsTrue (is_filled form) → IsTrue (is_union form) → (n : ℕ) → IsTrue (has_arm n form) → (bytes : List ℕ) → IsBytes bytes → (at : ℕ) (e : XdrError) → at ≤ length bytes
    → arm_reading form n bytes at ≡ Err e → IsArmStopped form n bytes at e
arm_stopped (Arm number body others) sound filled union n has bytes fits at e le is =
    let sounds = sound_case number body others sound in
    let both = and_parts (is_filled body) (is_end others || is_filled others) filled in
    elim (case_err (eqb n number) (reading body bytes at) (arm_reading others n bytes at) e is) [
      | inl h ↦
          stopped_first (λ v. spelling body v) (λ v. Fits body v) (λ v k item. IsItemAt body v k item)
          (λ v. arm_spelling (Arm number body others) v) (λ v. Fits (Arm number body others) v × (arm_of (Arm number body others) v ≡ n)) (λ v k item. IsItemOfArm (Arm number body others) v k item) (λ v. inl v) bytes at e (λ v. [])
          (λ v fit. (fit, sym (eqb-true n number h.0))) (λ v fit. sym (append-nil (spelling body v))) (λ v k item there. there) (stopped_in body sounds.2 both.0 bytes fits at e le h.1)
      | inr h ↦
          let rest = arm_of_others number n others h.0 has both.1 in
          stopped_first (λ v. arm_spelling others v) (λ v. Fits others v × (arm_of others v ≡ n)) (λ v k item. IsItemOfArm others v k item)
          (λ v. arm_spelling (Arm number body others) v) (λ v. Fits (Arm number body others) v × (arm_of (Arm number body others) v ≡ n)) (λ v k item. IsItemOfArm (Arm number body others) v k item) (λ v. inr v) bytes at e (λ v. [])
          (λ v fit. fit) (λ v fit. sym (append-nil (arm_spelling others v))) (λ v k item there. there) (arm_stopped others sounds.3 rest.1 union n rest.0 bytes fits at e le h.1)
    ]
arm_stopped NoArm sound filled union n has bytes fits at e le is = absurd (false≢true has)
arm_stopped _ sound filled union n has bytes fits at e le is = absurd (false≢true union)

pub arm_named_right : (form : Form) → IsTrue (is_sound form) → IsTrue (is_filled form) → IsTrue (is_union form) → IsArmNamedRight form
arm_named_right form sound filled union = λ n bytes at e has fits le is other.
    fault_from (λ v. arm_spelling form v) (λ v. Fits form v × (arm_of form v ≡ n)) (λ v k item. IsItemOfArm form v k item) bytes at e (arm_stopped form sound filled union n has bytes fits at e le is) other

-- bytes that end in the body of a value's arm are short
arm_cut : (form : Form) → IsTrue (is_sound form) → IsTrue (is_union form) → (v : Value form) → Fits form v → (bytes : List ℕ) (at k : ℕ) → Ends bytes at (arm_spelling form v) (λ j item. IsItemOfArm form v j item) k
    → IsShort bytes (arm_reading form (arm_of form v) bytes at)
arm_cut (Arm number body others) sound union (inl v) fits bytes at k h =
    let here : eqb number number ≡ true = eq-eqb number number refl in
    let short = cut_in body (sound_case number body others sound).2 v fits bytes at k h in
    rw (here, short) refl
arm_cut (Arm number body others) sound union (inr v) fits bytes at k h =
    let sounds = sound_case number body others sound in
    let other = arm_apart others number v union sounds.1 in
    let short = arm_cut others sounds.3 union v fits bytes at k h in
    rw (other, short) refl
arm_cut NoArm sound union v fits bytes at k h = absurd v
arm_cut _ sound union v fits bytes at k h = absurd (false≢true union)

arm_ends_short : (form : Form) → IsTrue (is_sound form) → IsTrue (is_union form) → (n : ℕ) (bytes : List ℕ) (at : ℕ) → EndsInArm form n bytes at → IsShort bytes (arm_reading form n bytes at)
arm_ends_short form sound union n bytes at h =
    let short = arm_cut form sound union h.value h.fits.0 bytes at (h.to - at) (ending_of (λ v. arm_spelling form v) (λ v k item. IsItemOfArm form v k item) h.value bytes at h.to h.begins h.ends) in
    rw h.fits.1 at short

pub arm_short_just_where : (form : Form) → IsTrue (is_sound form) → IsTrue (is_filled form) → IsTrue (is_union form) → IsArmShortJustWhere form
arm_short_just_where form sound filled union = λ n bytes at has fits le. (
  λ is. end_from (λ v. arm_spelling form v) (λ v. Fits form v × (arm_of form v ≡ n)) (λ v k item. IsItemOfArm form v k item) bytes at (record { place = length bytes; why = Short })
      (arm_stopped form sound filled union n has bytes fits at (record { place = length bytes; why = Short }) le is) refl,
  λ h. arm_ends_short form sound union n bytes at h,
)
