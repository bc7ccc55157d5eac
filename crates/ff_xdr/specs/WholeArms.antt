-- The laws of a union whose number is known from outside, as the procedure of a call, with nothing behind
-- its arm.
use Rattle.std.specs.Prelude.{◌≡◌, ◌↔◌, ℕ, ◌<◌, List, length, take, Result, Ok, Err, IsTrue}
use Rattle.ff_xdr.specs.declared.error.XdrError.{XdrError}
use Rattle.ff_xdr.specs.declared.error.XdrWhy.TheVariants.{Short, Rest}
use Rattle.ff_xdr.specs.Form.{Form, Value, Fits, arm_spelling, arm_of, has_arm}
use Rattle.ff_xdr.specs.Reading.{arm_reading, whole}
use Rattle.ff_xdr.specs.Laws.{IsBytes, behind, BeginsArm}

-- what all the bytes are as a value of the arm with a number that is known from outside
abbrev pub whole_arm : (form : Form) → ℕ → List ℕ → Result (Value form) XdrError
whole_arm form n bytes = whole bytes (arm_reading form n bytes 0)

-- A spelling is read as its value.
abbrev pub IsWholeArmReadAgain : (form : Form) → Value form → Type 0
IsWholeArmReadAgain form v = Fits form v → whole_arm form (arm_of form v) (arm_spelling form v) ≡ Ok v

-- What is read is of the arm with the number and has a spelling, which is all the bytes.
abbrev pub IsWholeArmSpelledSo : (form : Form) → Value form → Type 0
IsWholeArmSpelledSo form v = (n : ℕ) (bytes : List ℕ) → IsBytes bytes → whole_arm form n bytes ≡ Ok v
    → (arm_of form v ≡ n) × Fits form v × (bytes ≡ arm_spelling form v)

-- Bytes are refused for what is left over just where a value stands and more bytes follow. The place
-- is that of the first of them.
abbrev pub HasArmRestJustWhere : Form → Type 0
HasArmRestJustWhere form = (n : ℕ) (bytes : List ℕ) (place : ℕ)
    → whole_arm form n bytes ≡ Err (record { place = place; why = Rest })
    ↔ ((v : Value form) × (arm_reading form n bytes 0 ≡ Ok (v, place)) × (place < length bytes))

-- Where bytes are refused, and not as short, no value of the arm has the refused item there.
abbrev pub HasNoWholeArmThere : Form → Type 0
HasNoWholeArmThere form = (n : ℕ) (bytes : List ℕ) (e : XdrError) → whole_arm form n bytes ≡ Err e → ¬ (e.why ≡ Short)
    → (v : Value form) → Fits form v → arm_of form v ≡ n → ¬ (take (behind e) (arm_spelling form v) ≡ take (behind e) bytes)

-- Where bytes are refused, as short too, they are the spelling of no value of the arm.
abbrev pub HasNoWholeArm : Form → Type 0
HasNoWholeArm form = (n : ℕ) (bytes : List ℕ) (e : XdrError) → whole_arm form n bytes ≡ Err e
    → (v : Value form) → Fits form v → arm_of form v ≡ n → ¬ (bytes ≡ arm_spelling form v)

-- Up to the refused place some value of the arm has these bytes: no earlier byte is at fault.
abbrev pub IsFirstWholeArmFault : Form → Type 0
IsFirstWholeArmFault form = (n : ℕ) (bytes : List ℕ) (e : XdrError) → IsTrue (has_arm n form) → IsBytes bytes
    → whole_arm form n bytes ≡ Err e → ¬ (e.why ≡ Short) → BeginsArm form n bytes 0 e.place
