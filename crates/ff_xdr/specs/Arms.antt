-- The arms of a union by their numbers (RFC 4506, section 4.15).
use Rattle.std.specs.Prelude.{ℕ, Bool, true, false, nat_eq, ◌⊎◌}
use Rattle.std.proofs.Common.{inl, inr}
use Rattle.ff_xdr.specs.Form.{Form, Arm, NoArm, Value}

-- one of two types, and one of two values
abbrev pub OneOf : Bool → Type 0 → Type 0 → Type 0
OneOf true A B = A
OneOf false A B = B

abbrev pub one_of : {A B C : Type 0} (here : Bool) → (C → B) → OneOf here A C → A ⊎ B
one_of true next v = inl v
one_of false next v = inr (next v)

-- the values of the body of the arm with this number; there are none where no arm has it
abbrev pub Body : ℕ → Form → Type 0
Body n (Arm number body others) = OneOf (nat_eq n number) (Value body) (Body n others)
Body n _ = ⊥

-- a body in the arm with this number
abbrev pub arm : (n : ℕ) (form : Form) → Body n form → Value form
arm n (Arm number body others) v = one_of (nat_eq n number) (arm n others) v
arm n _ v = absurd v

-- What is made of a union's value: of the body of each arm, in their order, and of what stands behind them.
abbrev pub ByArm : Form → Type 0 → Type 0
ByArm (Arm number body others) R = (Value body → R) × ByArm others R
ByArm NoArm R = Unit {0}
ByArm form R = Value form → R

abbrev pub by_arm : {R : Type 0} (form : Form) → ByArm form R → Value form → R
by_arm (Arm number body others) each (inl v) = each.0 v
by_arm (Arm number body others) each (inr v) = by_arm others each.1 v
by_arm NoArm each v = absurd v
by_arm form each v = each v

-- what holds of the values of each arm, in their order, and of what stands behind them
abbrev pub OfEachArm : (form : Form) → (Value form → Type 0) → Type 0
OfEachArm (Arm number body others) P = ((v : Value body) → P (inl v)) × OfEachArm others (λ v. P (inr v))
OfEachArm NoArm P = Unit {0}
OfEachArm form P = (v : Value form) → P v

-- it holds of all
pub of_each_arm : (form : Form) (P : Value form → Type 0) → OfEachArm form P → (v : Value form) → P v
of_each_arm (Arm number body others) P each (inl v) = each.0 v
of_each_arm (Arm number body others) P each (inr v) = of_each_arm others (λ w. P (inr w)) each.1 v
of_each_arm NoArm P each v = absurd v
of_each_arm form P each v = each v
