-- The laws of refusals, of a union whose number is known from outside.
use Rattle.std.proofs.Common.{◌≡◌, ℕ, ◌+◌, eqb, List, ◌++◌, length, take, Ok, Err, sym, subst}
use Rattle.std.specs.Prelude.{IsTrue}
use Rattle.std.proofs.lemmas.Bool.{false≢true}
use Rattle.std.proofs.lemmas.List.{length-take-le}
use Rattle.ff_xdr.specs.Form.{Form, Arm, NoArm, is_sound, arm_spelling, arm_of}
use Rattle.ff_xdr.specs.Laws.{is_union, IsArmShortAtEnd, IsArmRefusedThere, HasNoArmThere, HasNoArmWhole}
use Rattle.ff_xdr.specs.Reading.{reading, arm_reading}
use Rattle.ff_xdr.proofs.Again.{sound_case}
use Rattle.ff_xdr.proofs.Arms.{arm_again, arm_again_where}
use Rattle.ff_xdr.proofs.Seen.{Seen, end_of}
use Rattle.ff_xdr.proofs.Refusals.{below, seen, seen_case, ends_short, stops_there, not_both}

abbrev pub IsArmSeen : Form → ℕ → List ℕ → ℕ → Type 0
IsArmSeen form n bytes at = Seen end_of at (λ b. arm_reading form n b at) bytes (arm_reading form n bytes at)

pub arm_seen : (form : Form) → IsTrue (is_sound form) → IsTrue (is_union form) → (n : ℕ) (bytes : List ℕ) (at : ℕ) → IsArmSeen form n bytes at
arm_seen (Arm number body others) sound union n bytes at =
    let sounds = sound_case number body others sound in
    seen_case at (eqb n number) (λ b. reading body b at) (λ b. arm_reading others n b at) bytes (below body bytes at (seen body sounds.2 bytes at)) (arm_seen others sounds.3 union n bytes at)
arm_seen NoArm sound union n bytes at = below NoArm bytes at (seen NoArm sound bytes at)
arm_seen _ sound union n bytes at = absurd (false≢true union)

pub arm_short_at_end : (form : Form) → IsTrue (is_sound form) → IsTrue (is_union form) → IsArmShortAtEnd form
arm_short_at_end form sound union = λ n at. ends_short end_of at (λ b. arm_reading form n b at) (λ bytes. arm_seen form sound union n bytes at)

pub arm_refused_there : (form : Form) → IsTrue (is_sound form) → IsTrue (is_union form) → IsArmRefusedThere form
arm_refused_there form sound union = λ n at. stops_there end_of at (λ b. arm_reading form n b at) (λ bytes. arm_seen form sound union n bytes at)

pub no_arm_there : (form : Form) → IsTrue (is_sound form) → IsTrue (is_union form) → HasNoArmThere form
no_arm_there form sound union = λ n bytes at e le is other v rest fits arm same.
    let place : length (take at bytes) ≡ at = length-take-le at bytes le in
    let text = take at bytes ++ arm_spelling form v ++ rest in
    let to = length (take at bytes) + length (arm_spelling form v) in
    let refusal : arm_reading form n text at ≡ Err e = arm_refused_there form sound union n at bytes text e is other (sym same) in
    let value : arm_reading form (arm_of form v) text (length (take at bytes)) ≡ Ok (v, to) = arm_again form sound union v (take at bytes) rest fits in
    let there : arm_reading form n text (length (take at bytes)) ≡ Ok (v, to) = subst (λ (k : ℕ). arm_reading form k text (length (take at bytes)) ≡ Ok (v, to)) arm value in
    not_both (arm_reading form n text at) e (v, to) refusal (subst (λ (k : ℕ). arm_reading form n text k ≡ Ok (v, to)) place there)

pub no_arm_whole : (form : Form) → IsTrue (is_sound form) → IsTrue (is_union form) → HasNoArmWhole form
no_arm_whole form sound union = λ n bytes at e is v to fits arm stands.
    let value : arm_reading form n bytes at ≡ Ok (v, to) = subst (λ (k : ℕ). arm_reading form k bytes at ≡ Ok (v, to)) arm (arm_again_where form sound union v bytes at to fits stands) in
    not_both (arm_reading form n bytes at) e (v, to) is value
