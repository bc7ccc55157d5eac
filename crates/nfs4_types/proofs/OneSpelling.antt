-- Different values have different spellings.
use Rattle.std.proofs.Common.{◌≡◌, ℕ, List, [], ◌++◌, length, Ok, Err, sym, ap, ◌∙◌}
use Rattle.ff_xdr.specs.Form.{Form, Number32, Number64, Pair, Value, Fits, spelling}
use Rattle.ff_xdr.specs.Reading.{Read, reading}
use Rattle.ff_xdr.specs.Laws.{IsReadAgain}

abbrev value_in : {M : Type 0} → M → Read M → M
value_in other (Ok x) = x.0
value_in other (Err e) = other

pub one_spelling : (form : Form) → IsReadAgain form → (v w : Value form) → Fits form v → Fits form w → spelling form v ≡ spelling form w → v ≡ w
one_spelling form again v w fv fw same =
    let a = again v [] [] fv in
    let b = again w [] [] fw in
    let read = ap (λ (text : List ℕ). reading form ([] ++ text ++ []) (length {A = ℕ} [])) same in
    ap (value_in v) (sym a ∙ read ∙ b)

-- three words, two long ones
abbrev pub words3 : Form
words3 = Pair Number32 (Pair Number32 Number32)

abbrev pub longs2 : Form
longs2 = Pair Number64 Number64
