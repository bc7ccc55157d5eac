-- Records: the laws of their forms, and a header with what stands behind it.
use Rattle.std.proofs.Common.{◌≡◌, ℕ, List, ◌++◌, length, take, drop, sym, ap, ◌∙◌, arith}
use Rattle.std.specs.Prelude.{IsTrue}
use Rattle.std.proofs.lemmas.List.{take-append-drop}
use Rattle.ff_xdr.specs.Form.{Form, is_sound}
use Rattle.ff_xdr.specs.Laws.{Stands, is_filled, IsReadAgain, IsSpelledSo, IsShortAtEnd, IsRefusedThere, IsFirstFault}

abbrev pub all_again : Type 0
all_again = (form : Form) → IsTrue (is_sound form) → IsReadAgain form

abbrev pub all_spelled : Type 0
all_spelled = (form : Form) → IsTrue (is_sound form) → IsSpelledSo form

abbrev pub all_short : Type 0
all_short = (form : Form) → IsTrue (is_sound form) → IsShortAtEnd form

abbrev pub all_stop : Type 0
all_stop = (form : Form) → IsTrue (is_sound form) → IsRefusedThere form

abbrev pub all_least : Type 0
all_least = (form : Form) → IsTrue (is_sound form) → IsTrue (is_filled form) → IsFirstFault form

pub whole_is : (bytes text : List ℕ) (to : ℕ) → Stands bytes 0 text to → bytes ≡ text ++ drop to bytes
whole_is bytes text to s =
    let same : to ≡ length text = omega (arith, s.ends) in
    let front : take to bytes ≡ text = ap (λ (n : ℕ). take n bytes) same ∙ s.stands in
    sym (take-append-drop to bytes) ∙ ap (λ (t : List ℕ). t ++ drop to bytes) front
