-- The laws of every form: what was spelled is read again, what is read is spelled so, and what is refused
-- has no value.
use Rattle.std.specs.Prelude.{◌≡◌, ◌↔◌, ℕ, ◌+◌, ◌-◌, ◌^◌, ◌<◌, ◌≤◌, nat_lt, Bool, true, false, ◌&&◌, ◌||◌, List, [], ◌++◌, length, take, drop, slice_index, Result, Ok, Err, IsTrue}
use Rattle.std.specs.List.{list_all}
use Rattle.ff_xdr.specs.declared.error.XdrError.{XdrError}
use Rattle.ff_xdr.specs.declared.error.XdrWhy.{XdrWhy}
use Rattle.ff_xdr.specs.declared.error.XdrWhy.TheVariants.{Short, Pad, NotBool, NotEnum, TooLong, NotUtf8, Rest}
use Rattle.ff_xdr.specs.Form.{Form, Enum, Optional, Pair, Array, Arm, NoArm, Default, Value, Fits, spelling, arm_spelling, arm_of, has_arm}
use Rattle.ff_xdr.specs.Reading.{reading, arm_reading, whole}

abbrev pub IsBytes : List ℕ → Type 0
IsBytes bytes = (i : ℕ) → slice_index bytes i < 256

-- the text stands in the bytes from one place to the other
pub record Stands (bytes : List ℕ) (at : ℕ) (text : List ℕ) (to : ℕ) : Type 0 where
  pub stands : take (length text) (drop at bytes) ≡ text
  pub ends : to ≡ at + length text
  pub within : to ≤ length bytes

-- Whatever stands before a spelling and behind it, reading gives the value and takes exactly its bytes.
abbrev pub IsReadAgain : Form → Type 0
IsReadAgain form = (v : Value form) (front rest : List ℕ) → Fits form v
    → reading form (front ++ spelling form v ++ rest) (length front) ≡ Ok (v, length front + length (spelling form v))

-- What is read has a spelling, and it is what was taken.
abbrev pub IsSpelledSo : Form → Type 0
IsSpelledSo form = (bytes : List ℕ) (at : ℕ) (v : Value form) (to : ℕ) → IsBytes bytes → at ≤ length bytes
    → reading form bytes at ≡ Ok (v, to) → Fits form v × Stands bytes at (spelling form v) to

-- a union with no other arms than those that its numbers name
abbrev pub is_union : Form → Bool
is_union NoArm = true
is_union (Arm number body others) = is_union others
is_union _ = false

-- The same of a union whose number is known from outside.
abbrev pub IsArmReadAgain : Form → Type 0
IsArmReadAgain form = (v : Value form) (front rest : List ℕ) → Fits form v
    → arm_reading form (arm_of form v) (front ++ arm_spelling form v ++ rest) (length front) ≡ Ok (v, length front + length (arm_spelling form v))

abbrev pub IsArmSpelledSo : Form → Type 0
IsArmSpelledSo form = (n : ℕ) (bytes : List ℕ) (at : ℕ) (v : Value form) (to : ℕ) → IsBytes bytes → at ≤ length bytes
    → arm_reading form n bytes at ≡ Ok (v, to) → (arm_of form v ≡ n) × Fits form v × Stands bytes at (arm_spelling form v) to

-- How many bytes the refused item has from the refused place on: none where the bytes end, a byte of
-- padding or of what is left over, a word (RFC 4506, section 3), and of a text the longest sequence
-- that UTF-8 has (RFC 3629, section 3).
abbrev pub width_of : XdrWhy → ℕ
width_of Short = 0
width_of Pad = 1
width_of NotBool = 4
width_of NotEnum = 4
width_of TooLong = 4
width_of NotUtf8 = 4
width_of Rest = 1

-- the place behind the refused item
abbrev pub behind : XdrError → ℕ
behind e = e.place + width_of e.why

-- what is refused as short is refused at the end of the bytes
abbrev pub EndsShort : {A : Type 0} → (List ℕ → Result A XdrError) → Type 0
EndsShort read = (bytes : List ℕ) (e : XdrError) → read bytes ≡ Err e → e.why ≡ Short → e.place ≡ length bytes

-- Any other refusal stands whatever follows the refused item: other bytes that are the same up to there
-- are refused at the same place for the same reason.
abbrev pub StopsThere : {A : Type 0} → (List ℕ → Result A XdrError) → Type 0
StopsThere read = (bytes other : List ℕ) (e : XdrError) → read bytes ≡ Err e → ¬ (e.why ≡ Short)
    → take (behind e) bytes ≡ take (behind e) other → read other ≡ Err e

abbrev pub IsShortAtEnd : Form → Type 0
IsShortAtEnd form = (at : ℕ) → EndsShort (λ bytes. reading form bytes at)

abbrev pub IsRefusedThere : Form → Type 0
IsRefusedThere form = (at : ℕ) → StopsThere (λ bytes. reading form bytes at)

-- Where a reading is refused, and not as short, no value has the refused item there, whatever
-- follows the value.
abbrev pub HasNoneThere : Form → Type 0
HasNoneThere form = (bytes : List ℕ) (at : ℕ) (e : XdrError) → at ≤ length bytes → reading form bytes at ≡ Err e → ¬ (e.why ≡ Short)
    → (v : Value form) (rest : List ℕ) → Fits form v → ¬ (take (behind e) (take at bytes ++ spelling form v ++ rest) ≡ take (behind e) bytes)

-- Where a reading is refused, as short too, no value stands whole.
abbrev pub HasNoneWhole : Form → Type 0
HasNoneWhole form = (bytes : List ℕ) (at : ℕ) (e : XdrError) → reading form bytes at ≡ Err e
    → (v : Value form) (to : ℕ) → Fits form v → ¬ (Stands bytes at (spelling form v) to)

-- the arms of a union end here
abbrev pub is_end : Form → Bool
is_end NoArm = true
is_end _ = false

-- each part of the form has a value: an enum has a number, a union an arm, and a default arm a word
abbrev pub is_filled : Form → Bool
is_filled (Enum []) = false
is_filled (Optional each) = is_filled each
is_filled (Pair first second) = is_filled first && is_filled second
is_filled (Array max each) = is_filled each
is_filled (Arm number body others) = is_filled body && (is_end others || is_filled others)
is_filled NoArm = false
is_filled (Default numbers) = list_all (λ n. nat_lt n (2 ^ 32 - 1)) numbers
is_filled _ = true

-- a value of the form begins with the bytes from one place up to the other
pub record Begins (form : Form) (bytes : List ℕ) (at to : ℕ) : Type 0 where
  pub value : Value form
  pub fits : Fits form value
  pub begins : Stands bytes at (take (to - at) (spelling form value)) to

-- Up to the refused place some value of the form has these bytes: no earlier byte is at fault. What
-- stands of an item that is short is not looked into.
abbrev pub IsFirstFault : Form → Type 0
IsFirstFault form = (bytes : List ℕ) (at : ℕ) (e : XdrError) → IsBytes bytes → at ≤ length bytes → reading form bytes at ≡ Err e → ¬ (e.why ≡ Short)
    → Begins form bytes at e.place

-- The same of a value and nothing behind it, up to the end of the bytes.
abbrev pub IsWholeShortAtEnd : Form → Type 0
IsWholeShortAtEnd form = (at : ℕ) → EndsShort (λ bytes. whole bytes (reading form bytes at))

abbrev pub IsWholeRefusedThere : Form → Type 0
IsWholeRefusedThere form = (at : ℕ) → StopsThere (λ bytes. whole bytes (reading form bytes at))

abbrev pub HasNoWholeThere : Form → Type 0
HasNoWholeThere form = (bytes : List ℕ) (at : ℕ) (e : XdrError) → at ≤ length bytes → whole bytes (reading form bytes at) ≡ Err e → ¬ (e.why ≡ Short)
    → (v : Value form) → Fits form v → ¬ (take (behind e) (take at bytes ++ spelling form v) ≡ take (behind e) bytes)

-- Bytes are refused for what is left over just where a value stands and more bytes follow. The place is that of the first of them.
abbrev pub HasRestJustWhere : Form → Type 0
HasRestJustWhere form = (bytes : List ℕ) (at place : ℕ)
    → whole bytes (reading form bytes at) ≡ Err (record { place = place; why = Rest })
    ↔ ((v : Value form) × (reading form bytes at ≡ Ok (v, place)) × (place < length bytes))

-- Where bytes are refused, as short too, no value stands there up to the end of the bytes.
abbrev pub HasNoWhole : Form → Type 0
HasNoWhole form = (bytes : List ℕ) (at : ℕ) (e : XdrError) → whole bytes (reading form bytes at) ≡ Err e
    → (v : Value form) → Fits form v → ¬ (Stands bytes at (spelling form v) (length bytes))

abbrev pub IsFirstWholeFault : Form → Type 0
IsFirstWholeFault form = (bytes : List ℕ) (at : ℕ) (e : XdrError) → IsBytes bytes → at ≤ length bytes → whole bytes (reading form bytes at) ≡ Err e → ¬ (e.why ≡ Short)
    → Begins form bytes at e.place

-- The same of a union whose number is known from outside.
abbrev pub IsArmShortAtEnd : Form → Type 0
IsArmShortAtEnd form = (n at : ℕ) → EndsShort (λ bytes. arm_reading form n bytes at)

abbrev pub IsArmRefusedThere : Form → Type 0
IsArmRefusedThere form = (n at : ℕ) → StopsThere (λ bytes. arm_reading form n bytes at)

abbrev pub HasNoArmThere : Form → Type 0
HasNoArmThere form = (n : ℕ) (bytes : List ℕ) (at : ℕ) (e : XdrError) → at ≤ length bytes → arm_reading form n bytes at ≡ Err e → ¬ (e.why ≡ Short)
    → (v : Value form) (rest : List ℕ) → Fits form v → arm_of form v ≡ n → ¬ (take (behind e) (take at bytes ++ arm_spelling form v ++ rest) ≡ take (behind e) bytes)

abbrev pub HasNoArmWhole : Form → Type 0
HasNoArmWhole form = (n : ℕ) (bytes : List ℕ) (at : ℕ) (e : XdrError) → arm_reading form n bytes at ≡ Err e
    → (v : Value form) (to : ℕ) → Fits form v → arm_of form v ≡ n → ¬ (Stands bytes at (arm_spelling form v) to)

-- a value of the arm with this number begins with the bytes from one place up to the other
pub record BeginsArm (form : Form) (n : ℕ) (bytes : List ℕ) (at to : ℕ) : Type 0 where
  pub value : Value form
  pub fits : Fits form value
  pub arm : arm_of form value ≡ n
  pub begins : Stands bytes at (take (to - at) (arm_spelling form value)) to

abbrev pub IsFirstArmFault : Form → Type 0
IsFirstArmFault form = (n : ℕ) (bytes : List ℕ) (at : ℕ) (e : XdrError) → IsTrue (has_arm n form) → IsBytes bytes → at ≤ length bytes → arm_reading form n bytes at ≡ Err e → ¬ (e.why ≡ Short)
    → BeginsArm form n bytes at e.place
