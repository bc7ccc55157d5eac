-- What is made of a result of a compound, where it is of one operation (RFC 8881, section 18).
use Rattle.std.specs.Prelude.{ℕ, Bool, true, false, nat_eq, Option, None, ◌⊎◌}
use Rattle.std.proofs.Common.{inl, inr}
use Rattle.ff_xdr.specs.Form.{Form, Arm, Value}
use Rattle.ff_xdr.specs.Arms.{OneOf, Body}
use Rattle.nfs4_compound.specs.Results.{resop4}

-- ---- a union's value, where it is of one arm

-- what is made of one of two types' values, by whether it is this one
abbrev pub one_in : {A B C R : Type 0} (here : Bool) → (OneOf here A C → R) → R → ((C → R) → B → R) → A ⊎ B → R
one_in true some none behind (inl v) = some v
one_in true some none behind (inr v) = none
one_in false some none behind (inl v) = none
one_in false some none behind (inr v) = behind some v

-- what is made of the body of the arm with this number, and of another arm
abbrev pub in_arm : {R : Type 0} (n : ℕ) (form : Form) → (Body n form → R) → R → Value form → R
in_arm n (Arm number body others) some none v = one_in (nat_eq n number) some none (λ next w. in_arm n others next none w) v
in_arm n form some none v = none

-- ---- results that are OK

abbrev pub is_done_result : {A B : Type 0} → A ⊎ B → Bool
is_done_result (inl done) = true
is_done_result (inr status) = false

-- what is made of a result that is OK
abbrev pub done_as : {A B R : Type 0} → (A → Option R) → A ⊎ B → Option R
done_as some (inl done) = some done
done_as some (inr status) = None

-- (section 18.46)
abbrev pub sequence_ok : Value resop4 → Bool
sequence_ok = in_arm 53 resop4 is_done_result false
