-- The operations that stand in a compound, one after the other, and why there is no further one (RFC 8881, sections 16.2.3 and 20.2.3).
use Rattle.std.specs.Prelude.{◌≡◌, ℕ, zero, suc, Bool, true, false, ◌&&◌, ◌||◌, not, List, [], ◌∷◌, length, Option, Some, None, Result, Ok, Err, nat_lt, ◌==◌, if◌then◌else◌}
use Rattle.std.specs.Int.{w32}
use Rattle.ff_xdr.specs.declared.error.XdrError.{XdrError}
use Rattle.ff_xdr.specs.declared.error.XdrWhy.TheVariants.{NotEnum, Rest}
use Rattle.ff_xdr.specs.Form.{Form, Optional, Pair, Array, Arm, NoArm, Value}
use Rattle.ff_xdr.specs.Reading.{Read, number_at, reading}
use Rattle.ff_xdr.specs.Unbuilt.{is_unbuilt, has_enum}
use Rattle.nfs4_compound.specs.declared.stop.Stop.{Stop}
use Rattle.nfs4_compound.specs.declared.stop.Stop.TheVariants as stop
use Rattle.nfs4_compound.specs.declared.stop.NextOp.{NextOp}
use Rattle.nfs4_compound.specs.declared.stop.NextOp.TheVariants as next

-- operations, and why there is no further one
pub record OpList (form : Form) : Type 0 where
  pub values : List (Value form)
  pub stop : Stop

-- the place of what is left of the bytes, where something is
abbrev pub left_at : List ℕ → ℕ → Option ℕ
left_at bytes at = if nat_lt at (length bytes) then Some at else None

-- the number that stands at a place
abbrev pub number_of_read : Read ℕ → ℕ
number_of_read (Ok n) = n.0
number_of_read (Err e) = 0

-- Why the operation at a place is not read: it is not built, or an arm of a union in it; or it is not in its form.
abbrev pub stop_at : Form → List ℕ → ℕ → XdrError → Stop
stop_at form bytes at e = if is_unbuilt form bytes at then stop.Unread (number_of_read (number_at w32 bytes at)) else stop.Bad e

-- the same by the number of what is not built, where that is so
abbrev pub stop_by : XdrError → Option ℕ → Stop
stop_by e (Some number) = stop.Unread number
stop_by e None = stop.Bad e

-- the number at the place of an operation, where a number was refused there
abbrev pub IsRefusedNumber : List ℕ → ℕ → XdrError → Option ℕ → Type 0
IsRefusedNumber bytes at e (Some number) = (e.why ≡ NotEnum) × ((to : ℕ) × (number_at w32 bytes at ≡ Ok (number, to)))
IsRefusedNumber bytes at e None = (e.why ≡ NotEnum) → ((n : ℕ × ℕ) → ¬ (number_at w32 bytes at ≡ Ok n))

abbrev pub with_first : {form : Form} → Read (Value form) → (XdrError → Stop) → (ℕ → OpList form) → OpList form
with_first (Ok v) refused others = record { values = v.0 ∷ (others v.1).values; stop = (others v.1).stop }
with_first (Err e) refused others = record { values = []; stop = refused e }

-- so many operations from a place on, up to the first that is not read
abbrev pub operations : (form : Form) → ℕ → List ℕ → ℕ → OpList form
operations form zero bytes at = record { values = []; stop = stop.End (left_at bytes at) }
operations form (suc n) bytes at = with_first (reading form bytes at) (λ e. stop_at form bytes at e) (λ to. operations form n bytes to)

-- What a call gave: the first operation, and the others are left; or why there is none, and nothing changes.
abbrev pub GivesNext : {O : Type 0} (form : Form) → (O → Value form) → OpList form → NextOp O → OpList form → Type 0
GivesNext form view old (next.Op op) new = (old.values ≡ view op ∷ new.values) × (new.stop ≡ old.stop)
GivesNext form view old next.End new = (old.values ≡ []) × ((rest : Option ℕ) × (old.stop ≡ stop.End rest)) × (new ≡ old)
GivesNext form view old (next.Unread number) new = (old.values ≡ []) × (old.stop ≡ stop.Unread number) × (new ≡ old)
GivesNext form view old (next.Bad e) new = (old.values ≡ []) × (old.stop ≡ stop.Bad e) × (new ≡ old)

-- the place of the bytes that are left behind the last operation, where all were read and some are left
abbrev pub rest_of_stop : Stop → Option ℕ
rest_of_stop (stop.End rest) = rest
rest_of_stop (stop.Unread number) = None
rest_of_stop (stop.Bad e) = None

-- the same where no operation is left; none where some are
abbrev pub rest_now : {V : Type 0} → List V → Stop → Option ℕ
rest_now [] s = rest_of_stop s
rest_now (v ∷ vs) s = None

-- What a compound's arguments are judged to be: bytes that are left are refused as Rest; what is not built ends the judgement, and counts
-- as good.
abbrev pub verdict_of : Stop → Result (Unit {0}) XdrError
verdict_of (stop.End None) = Ok tt
verdict_of (stop.End (Some place)) = Err (record { place = place; why = Rest })
verdict_of (stop.Unread number) = Ok tt
verdict_of (stop.Bad e) = Err e

-- ---- which refusals of a number are of one that is not built

-- an enum stands in the arm with this number
abbrev pub arm_has_enum : ℕ → Form → Bool
arm_has_enum n (Arm number body others) = if n == number then has_enum body else arm_has_enum n others
arm_has_enum n form = false

-- the numbers of the arms in which an enum stands
abbrev pub with_arm : Bool → ℕ → List ℕ → List ℕ
with_arm true number rest = number ∷ rest
with_arm false number rest = rest

abbrev pub enum_arms : Form → List ℕ
enum_arms (Arm number body others) = with_arm (has_enum body) number (enum_arms others)
enum_arms form = []

-- a union stands in it
abbrev pub has_union : Form → Bool
has_union (Optional each) = has_union each
has_union (Pair first second) = has_union first || has_union second
has_union (Array max each) = has_union each
has_union (Arm number body others) = true
has_union NoArm = true
has_union form = false

-- in no arm stand both enums and unions, so that a refused number tells which of the two it is of
abbrev pub is_split : Form → Bool
is_split (Arm number body others) = (not (has_enum body) || not (has_union body)) && is_split others
is_split NoArm = true
is_split form = false
