-- What stands behind the arms of a union (RFC 4506, section 4.15).
use Rattle.std.specs.Prelude.{ℕ}
use Rattle.std.proofs.Common.{inl, inr}
use Rattle.ff_xdr.specs.Form.{Form, Pair, Arm, Default, Value}

-- the form behind the last arm, and a value of it as one of the union
abbrev pub behind_form : Form → Form
behind_form (Arm number body others) = behind_form others
behind_form form = form

abbrev pub behind_arms : (form : Form) → Value (behind_form form) → Value form
behind_arms (Arm number body others) v = inr (behind_arms others v)
behind_arms form v = v

-- the number with which a value begins: its arm's, or that of a default arm
abbrev pub union_number : (form : Form) → Value form → ℕ
union_number (Arm number body others) (inl v) = number
union_number (Arm number body others) (inr v) = union_number others v
union_number (Pair first second) v = union_number first v.0
union_number (Default numbers) n = n
union_number form v = 0
