-- What an exact form has: all its laws.
use Rattle.std.specs.Prelude.{ℕ, IsTrue}
use Rattle.ff_xdr.specs.Form.{Form, Value}
use Rattle.ff_xdr.specs.Laws.{IsReadAgain, IsSpelledSo, IsShortAtEnd, IsRefusedThere, HasNoneThere, HasNoneWhole, IsFirstFault, is_filled}
use Rattle.ff_xdr.specs.Laws.{IsWholeShortAtEnd, IsWholeRefusedThere, HasRestJustWhere, HasNoWholeThere, HasNoWhole, IsFirstWholeFault}
use Rattle.ff_xdr.specs.Laws.{EndsShort, StopsThere, IsArmReadAgain, IsArmSpelledSo, IsArmShortAtEnd, IsArmRefusedThere, HasNoArmThere, HasNoArmWhole, IsFirstArmFault}
use Rattle.ff_xdr.specs.WholeArms.{whole_arm, IsWholeArmReadAgain, IsWholeArmSpelledSo, HasArmRestJustWhere, HasNoWholeArmThere, HasNoWholeArm, IsFirstWholeArmFault}

-- What is spelled is read again, and what is read is spelled so. A short refusal is at the end of the bytes; any other stands
-- whatever follows the refused item, and no value has that item there. What is refused stands whole of no value, and some value has
-- all bytes in front of the refused place. The same where nothing may stand behind the value: what is left over is then
-- refused just behind it.
pub record IsExact (form : Form) : Type 0 where
  pub again : IsReadAgain form
  pub spelled : IsSpelledSo form
  pub short : IsShortAtEnd form
  pub stops : IsRefusedThere form
  pub none : HasNoneThere form
  pub cut : HasNoneWhole form
  pub least : IsTrue (is_filled form) → IsFirstFault form
  pub whole_short : IsWholeShortAtEnd form
  pub whole_stops : IsWholeRefusedThere form
  pub whole_rest : HasRestJustWhere form
  pub whole_none : HasNoWholeThere form
  pub whole_cut : HasNoWhole form
  pub whole_least : IsTrue (is_filled form) → IsFirstWholeFault form

-- The same of a union whose number is known from outside.
pub record IsExactByNumber (form : Form) : Type 0 where
  pub again : IsArmReadAgain form
  pub spelled : IsArmSpelledSo form
  pub short : IsArmShortAtEnd form
  pub stops : IsArmRefusedThere form
  pub none : HasNoArmThere form
  pub cut : HasNoArmWhole form
  pub least : IsTrue (is_filled form) → IsFirstArmFault form
  pub whole_again : (v : Value form) → IsWholeArmReadAgain form v
  pub whole_spelled : (v : Value form) → IsWholeArmSpelledSo form v
  pub whole_short : (n : ℕ) → EndsShort (whole_arm form n)
  pub whole_stops : (n : ℕ) → StopsThere (whole_arm form n)
  pub whole_rest : HasArmRestJustWhere form
  pub whole_none : HasNoWholeArmThere form
  pub whole_cut : HasNoWholeArm form
  pub whole_least : IsTrue (is_filled form) → IsFirstWholeArmFault form
