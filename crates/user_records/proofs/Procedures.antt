-- The number that a call names its procedure by, and the arm of its arguments.
use Rattle.std.proofs.Common.{◌≡◌, ◌≢◌, ℕ, ◌+◌, ◌≤◌, ◌<◌, ltb, eqb, List, [], ◌∷◌, length, take, drop, Result, Ok, Err, refl, sym, ap, subst, ◌∙◌, arith, inl, inr}
use Rattle.std.specs.Prelude.{IsTrue}
use Rattle.std.specs.Int.{w32, from_be_bytes}
use Rattle.std.proofs.lemmas.Bool.{ltb-false, eqb-true, false≢true}
use Rattle.std.proofs.lemmas.List.{length-take, length-drop}
use Rattle.ff_xdr.specs.declared.error.XdrWhy.TheVariants.{Short}
use Rattle.ff_xdr.specs.Form.{Form, Arm, NoArm, Value, Number32, Pair, arm_of, word}
use Rattle.ff_xdr.specs.Laws.{is_union}
use Rattle.ff_xdr.specs.Reading.{Read, ◌>>=◌, number_at, reading, arm_reading, whole, rest_of}
use Rattle.ff_xdr.proofs.Places.{bind_ok, guard_ok, ok_is}
use Rattle.ff_xdr.proofs.SpelledSo.{case_cases}
use Rattle.rpc_record.specs.declared.call.CallFault.{CallFault}
use Rattle.rpc_record.specs.Rpc.{opaque_auth}
use Rattle.rpc_record.specs.Calls.{RpcCall, call_body, with_body, call_at, word_of}
use Rattle.rpc_record.proofs.CallLaws.{Kind, Cut, Other, Headless, Stranger, Ours, kind_of}
use Rattle.user_records.specs.UserRecords.{procedure_word}

-- ---- a number that was read

-- the bytes of a number stand, it is what they come to, and what follows begins behind them
record NumberThere (bytes : List ℕ) (at n to : ℕ) : Type 0 where
  within : at + 4 ≤ length bytes
  is : from_be_bytes w32 (take 4 (drop at bytes)) ≡ n
  ends : to ≡ at + 4

number_there : (bytes : List ℕ) (at n to : ℕ) → number_at w32 bytes at ≡ Ok (n, to) → NumberThere bytes at n to
unfolding number_at
number_there bytes at n to e =
    let g = guard_ok (ltb (length bytes) (at + 4)) (record { place = length bytes; why = Short }) (Ok (from_be_bytes w32 (take 4 (drop at bytes)), at + 4)) (n, to) e in
    let both = ok_is (from_be_bytes w32 (take 4 (drop at bytes)), at + 4) (n, to) g.1 in
    record { within = ltb-false _ _ g.0; is = ap (λ (p : ℕ × ℕ). p.0) both; ends = sym (ap (λ (p : ℕ × ℕ). p.1) both) }

-- four numbers that come to one below 256 are three zeros and this number
small_four : (four : List ℕ) (n : ℕ) → length four ≡ 4 → from_be_bytes w32 four ≡ n → n < 256 → four ≡ 0 ∷ 0 ∷ 0 ∷ n ∷ []
small_four [] n len is lt = absurd (omega arith)
small_four (a ∷ []) n len is lt = absurd (omega arith)
small_four (a ∷ b ∷ []) n len is lt = absurd (omega arith)
small_four (a ∷ b ∷ c ∷ []) n len is lt = absurd (omega arith)
small_four (a ∷ b ∷ c ∷ d ∷ []) n len is lt =
    let at_a : a ≡ 0 = omega arith in
    let at_b : b ≡ 0 = omega arith in
    let at_c : c ≡ 0 = omega arith in
    let at_d : d ≡ n = omega arith in
    cc
small_four (a ∷ b ∷ c ∷ d ∷ e ∷ others) n len is lt = absurd (omega arith)

word_2 : word 2 ≡ 0 ∷ 0 ∷ 0 ∷ 2 ∷ []
unfolding word
word_2 = refl

word_8 : word 8 ≡ 0 ∷ 0 ∷ 0 ∷ 8 ∷ []
unfolding word
word_8 = refl

word_7 : word 7 ≡ 0 ∷ 0 ∷ 0 ∷ 7 ∷ []
unfolding word
word_7 = refl

word_21 : word 21 ≡ 0 ∷ 0 ∷ 0 ∷ 21 ∷ []
unfolding word
word_21 = refl

-- ---- the procedure of a call

-- the procedure's number stands at place 20
abbrev NamesProcedure : List ℕ → ℕ → Type 0
NamesProcedure bytes n = (length (procedure_word bytes) ≡ 4) × (from_be_bytes w32 (procedure_word bytes) ≡ n)

named_at : (bytes : List ℕ) (n to : ℕ) → number_at w32 bytes 20 ≡ Ok (n, to) → NamesProcedure bytes n
named_at bytes n to e =
    let there = number_there bytes 20 n to e in
    (omega (arith, there.within, length-take 4 (drop 20 bytes), length-drop 20 bytes), there.is)

-- both parts of a structure
record PairRead (first second : Form) (bytes : List ℕ) (at : ℕ) (v : Value (Pair first second)) (to : ℕ) : Type 0 where
  middle : ℕ
  one : reading first bytes at ≡ Ok (v.0, middle)
  other : reading second bytes middle ≡ Ok (v.1, to)

pair_read : (first second : Form) (bytes : List ℕ) (at : ℕ) (v : Value (Pair first second)) (to : ℕ) → reading (Pair first second) bytes at ≡ Ok (v, to) → PairRead first second bytes at v to
pair_read first second bytes at v to e =
    let a = bind_ok (reading first bytes at) (λ a. reading second bytes a.1 >>= λ b. Ok ((a.0, b.0), b.1)) (v, to) e in
    let b = bind_ok (reading second bytes a.0.1) (λ b. Ok ((a.0.0, b.0), b.1)) (v, to) a.2 in
    subst (λ (x : Value (Pair first second) × ℕ). PairRead first second bytes at x.0 x.1) (ok_is ((a.0.0, b.0.0), b.0.1) (v, to) b.2) (record { middle = a.0.1; one = a.1; other = b.1 })

abbrev behind_version : Form
behind_version = Pair Number32 (Pair opaque_auth opaque_auth)

abbrev behind_program : Form
behind_program = Pair Number32 behind_version

-- behind the program and its version
procedure_read : (bytes : List ℕ) (v : Value call_body) (to : ℕ) → reading call_body bytes 12 ≡ Ok (v, to) → NamesProcedure bytes v.1.1.0
procedure_read bytes v to e =
    let program = pair_read Number32 behind_program bytes 12 v to e in
    let version = pair_read Number32 behind_version bytes program.middle v.1 to program.other in
    let procedure = pair_read Number32 (Pair opaque_auth opaque_auth) bytes version.middle v.1.1 to version.other in
    let first = number_there bytes 12 v.0 program.middle program.one in
    let second = number_there bytes program.middle v.1.0 version.middle version.one in
    let place : version.middle ≡ 20 = omega (arith, first.ends, second.ends) in
    named_at bytes v.1.1.0 procedure.middle (subst (λ (at : ℕ). number_at w32 bytes at ≡ Ok (v.1.1.0, procedure.middle)) place procedure.one)

abbrev pub is_call : RpcCall → Result RpcCall CallFault
is_call c = Ok c

body_names : (xid : ℕ) (bytes : List ℕ) (r : Read (Value call_body)) (c : RpcCall) → reading call_body bytes 12 ≡ r → with_body xid bytes r ≡ is_call c → NamesProcedure bytes c.procedure
body_names xid bytes (Ok x) c read e =
    let same : x.0.1.1.0 ≡ c.procedure = cc in
    subst (λ (n : ℕ). NamesProcedure bytes n) same (procedure_read bytes x.0 x.1 read)
body_names xid bytes (Err d) c read e = absurd cc

kind_names : (bytes : List ℕ) (c : RpcCall) → Kind bytes → call_at bytes ≡ is_call c → NamesProcedure bytes c.procedure
kind_names bytes c (Cut lt is) e = absurd cc
kind_names bytes c (Other le ne is) e = absurd cc
kind_names bytes c (Headless lt d le call is) e = absurd cc
kind_names bytes c (Stranger le call ne is) e = absurd cc
kind_names bytes c (Ours le call two is) e = body_names (word_of bytes 0) bytes (reading call_body bytes 12) c refl (sym is ∙ e)

-- a number below 256 that a call names its procedure by has its word at place 20
procedure_stands : (bytes : List ℕ) (c : RpcCall) (n : ℕ) → call_at bytes ≡ is_call c → n < 256 → c.procedure ≡ n → procedure_word bytes ≡ 0 ∷ 0 ∷ 0 ∷ n ∷ []
procedure_stands bytes c n e lt same =
    let named = kind_names bytes c (kind_of bytes) e in
    small_four (procedure_word bytes) n named.0 (named.1 ∙ same) lt

-- the procedure of a user's record
pub not_setattr : (bytes : List ℕ) (c : RpcCall) → call_at bytes ≡ is_call c → procedure_word bytes ≢ word 2 → c.procedure ≢ 2
not_setattr bytes c e other same = other (procedure_stands bytes c 2 e (omega arith) same ∙ sym word_2)

pub not_create : (bytes : List ℕ) (c : RpcCall) → call_at bytes ≡ is_call c → procedure_word bytes ≢ word 8 → c.procedure ≢ 8
not_create bytes c e other same = other (procedure_stands bytes c 8 e (omega arith) same ∙ sym word_8)

pub not_write : (bytes : List ℕ) (c : RpcCall) → call_at bytes ≡ is_call c → procedure_word bytes ≢ word 7 → c.procedure ≢ 7
not_write bytes c e other same = other (procedure_stands bytes c 7 e (omega arith) same ∙ sym word_7)

pub not_commit : (bytes : List ℕ) (c : RpcCall) → call_at bytes ≡ is_call c → procedure_word bytes ≢ word 21 → c.procedure ≢ 21
not_commit bytes c e other same = other (procedure_stands bytes c 21 e (omega arith) same ∙ sym word_21)

-- ---- the arm of the arguments

-- what is read of the arm with a number is of that arm, whatever numbers it was read from
arm_read : (form : Form) → IsTrue (is_union form) → (n : ℕ) (bytes : List ℕ) (at : ℕ) (v : Value form) (to : ℕ) → arm_reading form n bytes at ≡ Ok (v, to) → arm_of form v ≡ n
arm_read (Arm number body others) union n bytes at v to e =
    elim (case_cases (eqb n number) (reading body bytes at) (arm_reading others n bytes at) (v, to) e) [
      | inl h ↦ subst (λ (x : Value (Arm number body others) × ℕ). arm_of (Arm number body others) x.0 ≡ n) h.1.2 (sym (eqb-true n number h.0))
      | inr h ↦ subst (λ (x : Value (Arm number body others) × ℕ). arm_of (Arm number body others) x.0 ≡ n) h.1.2 (arm_read others union n bytes at h.1.0.0 h.1.0.1 h.1.1)
    ]
arm_read NoArm union n bytes at v to e = absurd v
arm_read _ union n bytes at v to e = absurd (false≢true union)

-- and so it is of what is all the bytes
pub whole_arm_read : (form : Form) → IsTrue (is_union form) → (n : ℕ) (bytes : List ℕ) (v : Value form) → whole bytes (arm_reading form n bytes 0) ≡ Ok v → arm_of form v ≡ n
whole_arm_read form union n bytes v e =
    let a = bind_ok (arm_reading form n bytes 0) (λ x. rest_of bytes x.1 >>= λ nothing. Ok x.0) v e in
    let b = bind_ok (rest_of bytes a.0.1) (λ nothing. Ok a.0.0) v a.2 in
    subst (λ (w : Value form). arm_of form w ≡ n) (ok_is a.0.0 v b.2) (arm_read form union n bytes 0 a.0.0 a.0.1 a.1)
