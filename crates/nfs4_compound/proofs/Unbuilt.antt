-- Which refused numbers are of an arm that is not built.
use Rattle.std.proofs.Common.{◌≡◌, ℕ, zero, suc, Bool, true, false, ◌&&◌, ◌||◌, not, cond, eqb, List, [], ◌∷◌, Some, None, Result, Ok, Err, refl, sym, ap, subst, ◌∙◌, inl, inr}
use Rattle.std.proofs.lemmas.Bool.{and_parts, or_cases, eqb-true}
use Rattle.std.specs.Int.{w32}
use Rattle.std.specs.List.{AllByRecursion, list_any}
use Rattle.ff_xdr.specs.declared.error.XdrError.{XdrError}
use Rattle.ff_xdr.specs.declared.error.XdrWhy.TheVariants.{NotEnum}
use Rattle.ff_xdr.specs.Form.{Form, Optional, Pair, Array, Arm, NoArm, Value}
use Rattle.ff_xdr.specs.Reading.{Read, ◌>>=◌, number_at, flag_at, length_at, arm_at, reading}
use Rattle.ff_xdr.specs.Unbuilt.{at_value, one_unbuilt, is_unbuilt, has_enum, IsNotEnumAt}
use Rattle.ff_xdr.proofs.Places.{err_is}
use Rattle.ff_xdr.proofs.NotBuilt.{unbuilt_right}
use Rattle.nfs4_compound.specs.declared.stop.Stop.TheVariants as stop
use Rattle.nfs4_compound.specs.Laws.{TellsUnbuilt}
use Rattle.nfs4_compound.specs.Operations.{number_of_read, stop_at, stop_by, IsRefusedNumber, arm_has_enum, with_arm, enum_arms, has_union, is_split}

-- ---- tests

or_false : (a b : Bool) → a || b ≡ false → (a ≡ false) × (b ≡ false)
or_false true b h = absurd cc
or_false false b h = (refl, h)

and_false : (a : Bool) → a && false ≡ false
and_false true = refl
and_false false = refl

at_none : {A : Type 0} (r : Result A XdrError) (f : A → Bool) → ((x : A) → f x ≡ false) → at_value r f ≡ false
at_none (Ok x) f none = none x
at_none (Err e) f none = refl

one_none : {M : Type 0} (each : ℕ → Read M) (unbuilt : ℕ → Bool) → ((at : ℕ) → unbuilt at ≡ false) → (n at : ℕ) → one_unbuilt each unbuilt n at ≡ false
one_none each unbuilt none zero at = refl
one_none each unbuilt none (suc n) at =
    let here = none at in
    rw here (at_none (each at) (λ v. one_unbuilt each unbuilt n v.1) (λ v. one_none each unbuilt none n v.1))

-- where no union stands, none of its arms is reached
pub no_union : (form : Form) → has_union form ≡ false → (bytes : List ℕ) (at : ℕ) → is_unbuilt form bytes at ≡ false
no_union (Optional each) none bytes at =
    at_none (flag_at bytes at) (λ there. there.0 && is_unbuilt each bytes there.1)
    (λ there. ap (λ b. there.0 && b) (no_union each none bytes there.1) ∙ and_false there.0)
no_union (Pair first second) none bytes at =
    let parts = or_false (has_union first) (has_union second) none in
    let here = no_union first parts.0 bytes at in
    rw here (at_none (reading first bytes at) (λ a. is_unbuilt second bytes a.1) (λ a. no_union second parts.1 bytes a.1))
no_union (Array max each) none bytes at =
    at_none (length_at max bytes at) (λ n. one_unbuilt (λ place. reading each bytes place) (λ place. is_unbuilt each bytes place) n.0 n.1)
    (λ n. one_none (λ place. reading each bytes place) (λ place. is_unbuilt each bytes place) (λ place. no_union each none bytes place) n.0 n.1)
no_union (Arm number body others) none bytes at = absurd cc
no_union NoArm none bytes at = absurd cc
no_union _ none bytes at = refl

-- ---- a body

body_refused : {A B : Type 0} (body : Read A) (others : Read B) (e : XdrError) → arm_at true body others ≡ Err e → body ≡ Err e
body_refused (Ok v) others e h = absurd cc
body_refused (Err e2) others e h = cc

others_refused : {A B : Type 0} (body : Read A) (others : Read B) (e : XdrError) → arm_at false body others ≡ Err e → others ≡ Err e
others_refused body (Ok v) e h = absurd cc
others_refused body (Err e2) e h = cc

-- what is known of an operation of which a number was refused, by whether an enum stands in its arm
abbrev pub is_known : Form → List ℕ → ℕ → ℕ → ℕ → Type 0
is_known form bytes at n to =
    is_split form ≡ true → number_at w32 bytes at ≡ Ok (n, to) → IsNotEnumAt form bytes at → is_unbuilt form bytes at ≡ not (arm_has_enum n form)

in_body : (body : Form) (bytes : List ℕ) (to : ℕ) (enum union : Bool) → has_enum body ≡ enum → has_union body ≡ union → not enum || not union ≡ true
    → IsNotEnumAt body bytes to → is_unbuilt body bytes to ≡ not enum
in_body body bytes to false union e u split h = (unbuilt_right body bytes to).1 e h
in_body body bytes to true false e u split h = no_union body u bytes to
in_body body bytes to true true e u split h = absurd cc

at_arm : (here : Bool) (body others : Form) (bytes : List ℕ) (at n to : ℕ) → (not (has_enum body) || not (has_union body)) ≡ true
    → (IsNotEnumAt others bytes at → is_unbuilt others bytes at ≡ not (arm_has_enum n others))
    → (place : ℕ) → arm_at here (reading body bytes to) (reading others bytes at) ≡ Err (record { place = place; why = NotEnum })
    → cond here (is_unbuilt body bytes to) (is_unbuilt others bytes at) ≡ not (cond here (has_enum body) (arm_has_enum n others))
at_arm true body others bytes at n to split known place h =
    in_body body bytes to (has_enum body) (has_union body) refl refl split (place, body_refused (reading body bytes to) (reading others bytes at) (record { place = place; why = NotEnum }) h)
at_arm false body others bytes at n to split known place h = known (place, others_refused (reading body bytes to) (reading others bytes at) (record { place = place; why = NotEnum }) h)

pub known : (form : Form) (bytes : List ℕ) (at n to : ℕ) → is_known form bytes at n to
known (Arm number body others) bytes at n to split read (place, h) =
    let parts = and_parts (not (has_enum body) || not (has_union body)) (is_split others) split in
    let there = subst (λ (r : Read ℕ). (r >>= λ m. arm_at (eqb m.0 number) (reading body bytes m.1) (reading others bytes at)) ≡ Err (record { place = place; why = NotEnum })) read h in
    rw read (at_arm (eqb n number) body others bytes at n to parts.0 (λ rest. known others bytes at n to parts.1 read rest) place there)
known NoArm bytes at n to split read h = rw read refl
known _ bytes at n to split read h = absurd cc

-- ---- an operation

known_at : (form : Form) (bytes : List ℕ) (at n to : ℕ) → is_split form ≡ true → number_at w32 bytes at ≡ Ok (n, to) → IsNotEnumAt form bytes at
    → is_unbuilt form bytes at ≡ not (arm_has_enum n form)
known_at form bytes at n to = known form bytes at n to

-- of an arm that is not built a number stands there
no_value : (read : Read ℕ) (f : ℕ × ℕ → Bool) → at_value read f ≡ true → ((n : ℕ × ℕ) → ¬ (read ≡ Ok n)) → ⊥
no_value (Ok n) f is none = none n refl
no_value (Err e) f is none = absurd cc

no_number : (form : Form) (bytes : List ℕ) (at : ℕ) → is_split form ≡ true → is_unbuilt form bytes at ≡ true → ((n : ℕ × ℕ) → ¬ (number_at w32 bytes at ≡ Ok n)) → ⊥
no_number (Arm number body others) bytes at split is none =
    no_value (number_at w32 bytes at) (λ n. cond (eqb n.0 number) (is_unbuilt body bytes n.1) (is_unbuilt others bytes at)) is none
no_number NoArm bytes at split is none = no_value (number_at w32 bytes at) (λ n. true) is none
no_number _ bytes at split is none = absurd cc

-- a number was refused, and no enum stands in its arm
pub stop_unread : (form : Form) (bytes : List ℕ) (at n : ℕ) (e : XdrError) → is_split form ≡ true → reading form bytes at ≡ Err e
    → IsRefusedNumber bytes at e (Some n) → arm_has_enum n form ≡ false → stop_at form bytes at e ≡ stop_by e (Some n)
stop_unread form bytes at n e split refused (why, (to, read)) none =
    let h : IsNotEnumAt form bytes at = (e.place, refused ∙ ap (λ w. Err (record { place = e.place; why = w })) why) in
    let k = known_at form bytes at n to split read h in
    let is : is_unbuilt form bytes at ≡ true = k ∙ ap not none in
    rw is (ap (λ r. stop.Unread (number_of_read r)) read)

-- a number was refused, and an enum stands in its arm
pub stop_bad : (form : Form) (bytes : List ℕ) (at n : ℕ) (e : XdrError) → is_split form ≡ true → reading form bytes at ≡ Err e
    → IsRefusedNumber bytes at e (Some n) → arm_has_enum n form ≡ true → stop_at form bytes at e ≡ stop_by e None
stop_bad form bytes at n e split refused (why, (to, read)) some =
    let h : IsNotEnumAt form bytes at = (e.place, refused ∙ ap (λ w. Err (record { place = e.place; why = w })) why) in
    let k = known_at form bytes at n to split read h in
    let is : is_unbuilt form bytes at ≡ false = k ∙ ap not some in
    rw is refl

-- no number was refused
none_unbuilt : (form : Form) (bytes : List ℕ) (at : ℕ) (e : XdrError) (unbuilt : Bool) → is_unbuilt form bytes at ≡ unbuilt → is_split form ≡ true
    → reading form bytes at ≡ Err e → IsRefusedNumber bytes at e None → unbuilt ≡ false
none_unbuilt form bytes at e false is split refused none = refl
none_unbuilt form bytes at e true is split refused none =
    let there = (unbuilt_right form bytes at).0 is in
    let why : e.why ≡ NotEnum = sym (ap (λ x. x.why) (err_is {A = Value form × ℕ} e (record { place = there.0; why = NotEnum }) (sym refused ∙ there.1))) in
    absurd (no_number form bytes at split is (none why))

pub stop_none : (form : Form) (bytes : List ℕ) (at : ℕ) (e : XdrError) → is_split form ≡ true → reading form bytes at ≡ Err e
    → IsRefusedNumber bytes at e None → stop_at form bytes at e ≡ stop_by e None
stop_none form bytes at e split refused none =
    let is = none_unbuilt form bytes at e (is_unbuilt form bytes at) refl split refused none in
    rw is refl

-- ---- the arms in which an enum stands

in_arms : (here enum : Bool) (n number : ℕ) (rest : List ℕ) (others : Bool) → eqb n number ≡ here → (others ≡ true → list_any (eqb n) rest ≡ true)
    → cond here enum others ≡ true → list_any (eqb n) (with_arm enum number rest) ≡ true
in_arms true true n number rest others is more h = rw is refl
in_arms true false n number rest others is more h = absurd cc
in_arms false true n number rest others is more h =
    let rest = more h in
    rw (is, rest) refl
in_arms false false n number rest others is more h = more h

has_enum_in : (form : Form) (n : ℕ) → arm_has_enum n form ≡ true → list_any (eqb n) (enum_arms form) ≡ true
has_enum_in (Arm number body others) n h =
    in_arms (eqb n number) (has_enum body) n number (enum_arms others) (arm_has_enum n others) refl (λ rest. has_enum_in others n rest) h
has_enum_in _ n h = absurd cc

not_in : (enum : Bool) (some : Bool) → (enum ≡ true → some ≡ true) → some ≡ false → enum ≡ false
not_in true some in_it none = absurd (cc (in_it refl, none))
not_in false some in_it none = refl

-- no enum stands in the arm of a number that is none of theirs
pub no_enum : (form : Form) (n : ℕ) → list_any (eqb n) (enum_arms form) ≡ false → arm_has_enum n form ≡ false
no_enum form n none = not_in (arm_has_enum n form) (list_any (eqb n) (enum_arms form)) (has_enum_in form n) none

-- what holds of each number of a list holds of one of them
pub one_of_numbers : (P : ℕ → Type 0) (n : ℕ) (numbers : List ℕ) → AllByRecursion P numbers → list_any (eqb n) numbers ≡ true → P n
one_of_numbers P n [] all some = absurd cc
one_of_numbers P n (k ∷ numbers) all some =
    elim (or_cases (eqb n k) (list_any (eqb n) numbers) some) [
      | inl same ↦ subst P (sym (eqb-true n k same)) all.0
      | inr rest ↦ one_of_numbers P n numbers all.1 rest
    ]

-- ---- all refusals

pub tells_unbuilt : (form : Form) (with_enums : List ℕ) → is_split form ≡ true → enum_arms form ≡ with_enums
    → AllByRecursion (λ n. arm_has_enum n form ≡ true) with_enums → TellsUnbuilt form with_enums
tells_unbuilt form with_enums split same enums = record {
  unread = λ bytes at n to e refused why read none.
      stop_unread form bytes at n e split refused (why, (to, read)) (no_enum form n (ap (λ (l : List ℕ). list_any (eqb n) l) same ∙ none));
  bad = λ bytes at n to e refused why read some.
      stop_bad form bytes at n e split refused (why, (to, read)) (one_of_numbers (λ k. arm_has_enum k form ≡ true) n with_enums enums some);
  other = λ bytes at e refused other. stop_none form bytes at e split refused (λ why n is. other why);
}
