-- The laws of a union whose number is known from outside, with nothing behind it.
use Rattle.std.proofs.Common.{◌≡◌, ℕ, ◌+◌, ◌-◌, ◌≤◌, ◌<◌, Bool, true, false, cond, ltb, List, [], length, take, Result, Ok, Err, refl, sym, ap, subst, ◌∙◌, append-nil, arith, inl, inr}
use Rattle.std.specs.Prelude.{IsTrue}
use Rattle.std.proofs.lemmas.Bool.{ltb-false, le-ltb, lt-ltb}
use Rattle.std.proofs.lemmas.List.{take_all}
use Rattle.ff_xdr.specs.declared.error.XdrError.{XdrError}
use Rattle.ff_xdr.specs.declared.error.XdrWhy.TheVariants.{Rest}
use Rattle.ff_xdr.specs.Form.{Form, Value, is_sound, arm_spelling, arm_of}
use Rattle.ff_xdr.specs.Laws.{is_union, behind, EndsShort, StopsThere, IsArmReadAgain, IsArmSpelledSo, IsArmShortAtEnd, IsArmRefusedThere, IsFirstArmFault}
use Rattle.ff_xdr.specs.Reading.{Read, ◌>>=◌, arm_reading, whole}
use Rattle.ff_xdr.proofs.Places.{done, ok_is}
use Rattle.ff_xdr.proofs.Refusals.{whole_cases, whole_all, whole_rest, not_both}
use Rattle.ff_xdr.proofs.ArmRefusals.{arm_seen}
use Rattle.ff_xdr.proofs.Seen.{Seen, Took, end_of, same_byte}
use Rattle.ff_xdr.proofs.Sequences.{take_less}
use Rattle.ff_xdr.proofs.NotRest.{never_rest}
use Rattle.ff_xdr.specs.WholeArms.{whole_arm, IsWholeArmReadAgain, IsWholeArmSpelledSo, HasArmRestJustWhere, HasNoWholeArmThere, HasNoWholeArm, IsFirstWholeArmFault}

-- ---- a value and nothing behind it

abbrev rest_by : Bool → ℕ → Result (Unit {0}) XdrError
rest_by t at = cond t (Err (record { place = at; why = Rest })) (Ok tt)

whole_ok : {M : Type 0} (bytes : List ℕ) (r : Read M) (v : M) → whole bytes r ≡ Ok v → (to : ℕ) × (r ≡ Ok (v, to)) × (length bytes ≤ to)
whole_ok bytes (Err d) v is = absurd cc
whole_ok {M} bytes (Ok x) v is = by_case (ltb x.1 (length bytes)) refl is
  where
    by_case : (t : Bool) → ltb x.1 (length bytes) ≡ t → (rest_by t x.1 >>= λ nothing. Ok x.0) ≡ Ok v → (to : ℕ) × (done x ≡ done (v, to)) × (length bytes ≤ to)
    by_case true left is = absurd cc
    by_case false left is = (x.1, ap (λ (w : M). done (w, x.1)) (ok_is x.0 v is), ltb-false _ _ left)

-- ---- the laws of every form

pub whole_arm_again : (form : Form) → IsArmReadAgain form → (v : Value form) → IsWholeArmReadAgain form v
whole_arm_again form again v fits =
    let text = arm_spelling form v in
    let size : 0 + length text ≡ length text = omega arith in
    let read : arm_reading form (arm_of form v) text 0 ≡ Ok (v, 0 + length text) = subst (λ (t : List ℕ). arm_reading form (arm_of form v) t 0 ≡ Ok (v, 0 + length text)) (append-nil text) (again v [] [] fits) in
    whole_all text (v, 0 + length text) (arm_reading form (arm_of form v) text 0) read size

pub whole_arm_spelled : (form : Form) → IsArmSpelledSo form → (v : Value form) → IsWholeArmSpelledSo form v
whole_arm_spelled form spelled v = λ n bytes is_bytes e.
    let w = whole_ok bytes (arm_reading form n bytes 0) v e in
    let got = spelled n bytes 0 v w.0 is_bytes (omega arith) w.1 in
    let text = arm_spelling form v in
    let size : length text ≡ length bytes = omega (arith, w.2, got.2.ends, got.2.within) in
    (got.0, got.1, sym (take_all (length text) bytes (omega (arith, size))) ∙ got.2.stands)

pub whole_arm_short : (form : Form) → IsArmShortAtEnd form → (n : ℕ) → EndsShort (whole_arm form n)
whole_arm_short form short n = λ bytes e is why. elim (whole_cases bytes (arm_reading form n bytes 0) e is) [
  | inl refusal ↦ short n 0 bytes e refusal why
  | inr rest ↦
      let rest-why : e.why ≡ Rest = ap (λ (d : XdrError). d.why) rest.refusal in
      absurd cc
]

pub whole_arm_stops : (form : Form) → IsTrue (is_sound form) → IsTrue (is_union form) → IsArmRefusedThere form → (n : ℕ) → StopsThere (whole_arm form n)
whole_arm_stops form sound union stops n = λ bytes more e is other same. elim (whole_cases bytes (arm_reading form n bytes 0) e is) [
  | inl refusal ↦ ap (λ (r : Read (Value form)). whole more r) (stops n 0 bytes more e refusal other same)
  | inr rest ↦
      let ends : behind e ≡ rest.value.1 + 1 = ap (λ (d : XdrError). behind d) rest.refusal in
      let there : take (rest.value.1 + 1) bytes ≡ take (rest.value.1 + 1) more = subst (λ (k : ℕ). take k bytes ≡ take k more) ends same in
      let took : Took end_of 0 (λ b. arm_reading form n b 0) bytes rest.value = subst (λ (q : Read (Value form)). Seen end_of 0 (λ b. arm_reading form n b 0) bytes q) rest.read (arm_seen form sound union n bytes 0) in
      let read : arm_reading form n more 0 ≡ Ok rest.value = took.same more (take_less rest.value.1 (rest.value.1 + 1) bytes more (omega arith) there) in
      let left = same_byte bytes more rest.value.1 rest.left there in
      whole_rest more rest.value (arm_reading form n more 0) read left.0 ∙ ap Err (sym rest.refusal)
]

abbrev HasRest : Form → ℕ → List ℕ → ℕ → Type 0
HasRest form n bytes place = (v : Value form) × (arm_reading form n bytes 0 ≡ Ok (v, place)) × (place < length bytes)

pub whole_arm_rest : (form : Form) → HasArmRestJustWhere form
whole_arm_rest form = λ n bytes place. (
  λ is. elim (whole_cases bytes (arm_reading form n bytes 0) (record { place = place; why = Rest }) is) [
    | inl refusal ↦ absurd (never_rest form n bytes 0 (record { place = place; why = Rest }) refusal refl)
    | inr rest ↦
        let same : rest.value.1 ≡ place = sym (ap (λ (d : XdrError). d.place) rest.refusal) in
        subst (λ (k : ℕ). HasRest form n bytes k) same (rest.value.0, rest.read, rest.left)
  ],
  λ h. whole_rest bytes (h.0, place) (arm_reading form n bytes 0) h.1 h.2,
)

pub whole_arm_none : (form : Form) → IsArmReadAgain form → ((n : ℕ) → StopsThere (whole_arm form n)) → HasNoWholeArmThere form
whole_arm_none form again stops = λ n bytes e is other v fits arm same.
    let text = arm_spelling form v in
    let value : whole_arm form n text ≡ Ok v = subst (λ (k : ℕ). whole_arm form k text ≡ Ok v) arm (whole_arm_again form again v fits) in
    not_both (whole_arm form n text) e v (stops n bytes text e is other (sym same)) value

pub whole_arm_cut : (form : Form) → IsArmReadAgain form → HasNoWholeArm form
whole_arm_cut form again = λ n bytes e is v fits arm same.
    let text = arm_spelling form v in
    let value : whole_arm form n text ≡ Ok v = subst (λ (k : ℕ). whole_arm form k text ≡ Ok v) arm (whole_arm_again form again v fits) in
    not_both (whole_arm form n text) e v (subst (λ (b : List ℕ). whole_arm form n b ≡ Err e) same is) value

pub whole_arm_least : (form : Form) → IsArmSpelledSo form → IsFirstArmFault form → IsFirstWholeArmFault form
whole_arm_least form spelled least = λ n bytes e has is_bytes is other. elim (whole_cases bytes (arm_reading form n bytes 0) e is) [
  | inl refusal ↦ least n bytes 0 e has is_bytes (omega arith) refusal other
  | inr rest ↦
      let got = spelled n bytes 0 rest.value.0 rest.value.1 is_bytes (omega arith) rest.read in
      let place : e.place ≡ rest.value.1 = ap (λ (d : XdrError). d.place) rest.refusal in
      let text = arm_spelling form rest.value.0 in
      let part : take (e.place - 0) text ≡ text = take_all (e.place - 0) text (omega (arith, place, got.2.ends)) in
      record { value = rest.value.0; fits = got.1; arm = got.0; begins = rw (part, place) got.2 }
]
