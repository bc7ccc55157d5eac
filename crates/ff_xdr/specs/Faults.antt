-- What stands at a refused place, by the name of the refusal; and which bytes are short.
use Rattle.std.specs.Prelude.{◌≡◌, ◌↔◌, ℕ, ◌+◌, ◌-◌, ◌<◌, ◌≤◌, true, List, [], ◌∷◌, length, take, drop, slice_index, Some, None, Ok, Err, IsTrue, ◌⊎◌}
use Rattle.std.proofs.Common.{inl, inr}
use Rattle.std.specs.Int.{w32}
use Rattle.std.specs.Str.{is_utf8}
use Rattle.std.specs.Str.Lossy.{utf8_valid_len}
use Rattle.ff_xdr.specs.declared.error.XdrError.{XdrError}
use Rattle.ff_xdr.specs.declared.error.XdrWhy.{XdrWhy}
use Rattle.ff_xdr.specs.declared.error.XdrWhy.TheVariants.{Short, Pad, NotBool, NotEnum, TooLong, NotUtf8}
use Rattle.ff_xdr.specs.Form.{Form, Boolean, Enum, Optional, Fixed, Opaque, Text, Pair, Array, Arm, Default, Value, Fits, spelling, avoids, padded, arm_spelling, arm_of, has_arm}
use Rattle.ff_xdr.specs.Reading.{number_at, may_begin_text, reading, arm_reading}
use Rattle.ff_xdr.specs.Laws.{IsBytes, Stands}

-- An item of a spelling at which a reading may be refused.
pub data Item : Type 0 where
  -- the word of a bool (RFC 4506, section 4.4)
  Truth : Item
  -- the word by which the form's values are told apart: an enum's, or a union's discriminant (sections 4.3 and 4.15)
  Choice : (form : Form) → Item
  -- the length of opaque data, of a string or of an array, up to a maximum (sections 4.10, 4.11 and 4.13)
  Length : (max : ℕ) → Item
  -- a byte of padding (section 3)
  Padding : Item
  -- a sequence of a string that has so many bytes from here on (section 4.11; that it is UTF-8 is the project's own)
  Sequence : (left : ℕ) → Item

-- the item stands at the front
abbrev pub IsFront : ℕ → Item → Item → Type 0
IsFront k item front = (k ≡ 0) × (item ≡ front)

-- it stands behind so many bytes
abbrev pub IsBehind : ℕ → ℕ → (ℕ → Type 0) → Type 0
IsBehind size k P = (j : ℕ) × (k ≡ size + j) × P j

-- it is a zero behind these bytes
abbrev pub IsPaddingOf : List ℕ → ℕ → Item → Type 0
IsPaddingOf bytes k item = (length bytes ≤ k) × (k < length (padded bytes)) × (item ≡ Padding)

-- it is a sequence of the string
abbrev pub IsSequenceOf : List ℕ → ℕ → Item → Type 0
IsSequenceOf text k item = (k < length text) × IsTrue (is_utf8 (take k text)) × (item ≡ Sequence (length text - k))

-- it is an item of one of several values, one after the other
abbrev pub IsItemIn : {M : Type 0} → (M → List ℕ) → (M → ℕ → Type 0) → List M → ℕ → Type 0
IsItemIn spell P [] k = ⊥
IsItemIn spell P (v ∷ vs) k = P v k ⊎ IsBehind (length (spell v)) k (λ j. IsItemIn spell P vs j)

-- The item stands in the value's spelling, behind its first k bytes.
abbrev pub IsItemAt : (form : Form) → Value form → ℕ → Item → Type 0
IsItemAt Boolean b k item = IsFront k item Truth
IsItemAt (Enum numbers) n k item = IsFront k item (Choice (Enum numbers))
IsItemAt (Default numbers) n k item = IsFront k item (Choice (Default numbers))
IsItemAt (Optional each) None k item = IsFront k item Truth
IsItemAt (Optional each) (Some v) k item = IsFront k item Truth ⊎ IsBehind 4 k (λ j. IsItemAt each v j item)
IsItemAt (Fixed count) bytes k item = IsPaddingOf bytes k item
IsItemAt (Opaque max) bytes k item = IsFront k item (Length max) ⊎ IsBehind 4 k (λ j. IsPaddingOf bytes j item)
IsItemAt (Text max) text k item = IsFront k item (Length max) ⊎ IsBehind 4 k (λ j. IsSequenceOf text j item ⊎ IsPaddingOf text j item)
IsItemAt (Pair first second) (a, b) k item = IsItemAt first a k item ⊎ IsBehind (length (spelling first a)) k (λ j. IsItemAt second b j item)
IsItemAt (Array max each) vs k item = IsFront k item (Length max) ⊎ IsBehind 4 k (λ j. IsItemIn (λ v. spelling each v) (λ v i. IsItemAt each v i item) vs j)
IsItemAt (Arm number body others) (inl v) k item = IsFront k item (Choice (Arm number body others)) ⊎ IsBehind 4 k (λ j. IsItemAt body v j item)
IsItemAt (Arm number body others) (inr v) k item = IsFront k item (Choice (Arm number body others)) ⊎ ((0 < k) × IsItemAt others v k item)
IsItemAt _ v k item = ⊥

-- a whole word stands there, of this number
abbrev pub IsWordAt : List ℕ → ℕ → ℕ → Type 0
IsWordAt bytes place n = number_at w32 bytes place ≡ Ok (n, place + 4)

-- some string of n bytes begins with these (RFC 3629)
abbrev pub BeginsString : ℕ → List ℕ → Type 0
BeginsString n front = (text : List ℕ) × (length text ≡ n) × IsTrue (is_utf8 text) × (take (length front) text ≡ front)

-- What stands at the place is no such item: a word that is neither 0 nor 1; a number that no value begins with; a length above its
-- maximum; a byte of padding that is not zero; bytes with which no string of that length begins, and of which none are a string.
abbrev pub IsWrong : XdrWhy → Item → List ℕ → ℕ → Type 0
IsWrong NotBool Truth bytes place = (n : ℕ) × IsWordAt bytes place n × (1 < n)
IsWrong NotEnum (Choice form) bytes place = (n : ℕ) × IsWordAt bytes place n × IsTrue (avoids n form)
IsWrong TooLong (Length max) bytes place = (n : ℕ) × IsWordAt bytes place n × (max < n)
IsWrong Pad Padding bytes place = (place < length bytes) × (0 < slice_index bytes place)
IsWrong NotUtf8 (Sequence left) bytes place =
    (¬ (BeginsString left (take left (drop place bytes)))) × (utf8_valid_len (take left (drop place bytes)) ≡ 0)
IsWrong why item bytes place = ⊥

-- The bytes end in the item: it is a word, of which at most three bytes stand, since a word is looked at whole.
abbrev pub IsCut : Item → List ℕ → ℕ → Type 0
IsCut Truth bytes place = length bytes < place + 4
IsCut (Choice form) bytes place = length bytes < place + 4
IsCut (Length max) bytes place = length bytes < place + 4
IsCut item bytes place = ⊥

-- Values that have spellings: how they are spelled, which of them have one, and the items of it.
module _ {V : Type 0} (spell : V → List ℕ) (P : V → Type 0) (items : V → ℕ → Item → Type 0) where
  -- Some value has the bytes up to the refused place, and there an item of which what stands in the bytes is none.
  pub record HasFaultOf (bytes : List ℕ) (at : ℕ) (e : XdrError) : Type 0 where
    pub value : V
    pub fits : P value
    pub begins : Stands bytes at (take (e.place - at) (spell value)) e.place
    pub item : Item
    pub there : items value (e.place - at) item
    pub wrong : IsWrong e.why item bytes e.place

  -- The bytes end in a value: they are the beginning of its spelling up to their end, which is not its own; or up to a word that
  -- they end in.
  pub record EndsInOneOf (bytes : List ℕ) (at : ℕ) : Type 0 where
    pub value : V
    pub fits : P value
    pub to : ℕ
    pub begins : Stands bytes at (take (to - at) (spell value)) to
    pub ends : ((to ≡ length bytes) × (length bytes < at + length (spell value))) ⊎ ((item : Item) × items value (to - at) item × IsCut item bytes to)

abbrev pub HasFault : Form → List ℕ → ℕ → XdrError → Type 0
HasFault form bytes at e = HasFaultOf (λ v. spelling form v) (λ v. Fits form v) (λ v k item. IsItemAt form v k item) bytes at e

abbrev pub EndsInValue : Form → List ℕ → ℕ → Type 0
EndsInValue form bytes at = EndsInOneOf (λ v. spelling form v) (λ v. Fits form v) (λ v k item. IsItemAt form v k item) bytes at

-- What is refused, and not as short, has the fault that the refusal names.
abbrev pub IsNamedRight : Form → Type 0
IsNamedRight form = (bytes : List ℕ) (at : ℕ) (e : XdrError) → IsBytes bytes → at ≤ length bytes → reading form bytes at ≡ Err e → ¬ (e.why ≡ Short)
    → HasFault form bytes at e

-- Bytes are short just where they end in a value.
abbrev pub IsShortJustWhere : Form → Type 0
IsShortJustWhere form = (bytes : List ℕ) (at : ℕ) → IsBytes bytes → at ≤ length bytes
    → (reading form bytes at ≡ Err (record { place = length bytes; why = Short })) ↔ EndsInValue form bytes at

-- Bytes are taken as the beginning of a string of n bytes just where some string begins so.
abbrev pub IsBeginningRight : Type 0
IsBeginningRight = (n : ℕ) (front : List ℕ) → length front ≤ n → (may_begin_text n front ≡ true) ↔ BeginsString n front

-- ---- a union whose number is known from outside

-- the item stands in the spelling of the arm's body
abbrev pub IsItemOfArm : (form : Form) → Value form → ℕ → Item → Type 0
IsItemOfArm (Arm number body others) (inl v) k item = IsItemAt body v k item
IsItemOfArm (Arm number body others) (inr v) k item = IsItemOfArm others v k item
IsItemOfArm form v k item = IsItemAt form v k item

abbrev pub HasArmFault : Form → ℕ → List ℕ → ℕ → XdrError → Type 0
HasArmFault form n bytes at e = HasFaultOf (λ v. arm_spelling form v) (λ v. Fits form v × (arm_of form v ≡ n)) (λ v k item. IsItemOfArm form v k item) bytes at e

abbrev pub EndsInArm : Form → ℕ → List ℕ → ℕ → Type 0
EndsInArm form n bytes at = EndsInOneOf (λ v. arm_spelling form v) (λ v. Fits form v × (arm_of form v ≡ n)) (λ v k item. IsItemOfArm form v k item) bytes at

abbrev pub IsArmNamedRight : Form → Type 0
IsArmNamedRight form = (n : ℕ) (bytes : List ℕ) (at : ℕ) (e : XdrError) → IsTrue (has_arm n form) → IsBytes bytes → at ≤ length bytes
    → arm_reading form n bytes at ≡ Err e → ¬ (e.why ≡ Short) → HasArmFault form n bytes at e

abbrev pub IsArmShortJustWhere : Form → Type 0
IsArmShortJustWhere form = (n : ℕ) (bytes : List ℕ) (at : ℕ) → IsTrue (has_arm n form) → IsBytes bytes → at ≤ length bytes
    → (arm_reading form n bytes at ≡ Err (record { place = length bytes; why = Short })) ↔ EndsInArm form n bytes at
