-- Two unions with different numbers as one (RFC 4506, section 4.15).
use Rattle.std.specs.Prelude.{◌⊎◌}
use Rattle.std.proofs.Common.{inl, inr}
use Rattle.ff_xdr.specs.Form.{Form, Arm, NoArm, Value}

-- the arms of the first one, and behind them those of the second
abbrev pub joined : Form → Form → Form
joined (Arm number body others) tail = Arm number body (joined others tail)
joined NoArm tail = tail
joined form tail = form

-- a value of either as one of both
abbrev pub ahead : (front tail : Form) → Value front → Value (joined front tail)
ahead (Arm number body others) tail (inl v) = inl v
ahead (Arm number body others) tail (inr v) = inr (ahead others tail v)
ahead NoArm tail v = absurd v
ahead form tail v = v

abbrev pub ends_in_arms : Form → Type 0
ends_in_arms (Arm number body others) = ends_in_arms others
ends_in_arms NoArm = Unit {0}
ends_in_arms form = ⊥

abbrev pub behind : (front tail : Form) → ends_in_arms front → Value tail → Value (joined front tail)
behind (Arm number body others) tail ends v = inr (behind others tail ends v)
behind NoArm tail ends v = v
behind form tail ends v = absurd ends

-- of which of them a value is
abbrev pub in_tail : {A B C : Type 0} → B ⊎ C → (A ⊎ B) ⊎ C
in_tail (inl v) = inl (inr v)
in_tail (inr w) = inr w

abbrev pub side_of : (front tail : Form) → Value (joined front tail) → Value front ⊎ Value tail
side_of (Arm number body others) tail (inl v) = inl (inl v)
side_of (Arm number body others) tail (inr v) = in_tail (side_of others tail v)
side_of NoArm tail v = inr v
side_of form tail v = inl v
