-- What is read of bytes: a value fits its form, and what is opaque in it are bytes again.
use Rattle.std.proofs.Common.{◌≡◌, ℕ, zero, suc, ◌<◌, ◌^◌, Bool, true, false, List, [], ◌∷◌, ◌++◌, length, take, drop, Option, Some, Result, Ok, Err, refl, subst, arith, inl, inr, ◌⊎◌}
use Rattle.std.specs.Prelude.{IsTrue, nat_eq, nat_lt, ◌==◌, if◌then◌else◌}
use Rattle.std.specs.Int.{w32, w64, from_be_bytes}
use Rattle.std.specs.List.{AllByRecursion, flat_map}
use Rattle.ff_xdr.specs.Form.{Form, Opaque, Pair, Array, Arm, Value, Fits, spelling, is_sound, word, padded}
use Rattle.ff_xdr.specs.Arms.{OneOf, Body}
use Rattle.ff_xdr.specs.Laws.{IsBytes}
use Rattle.ff_xdr.specs.Reading.{Read, ◌>>=◌, number_at, reading, whole, rest_of}
use Rattle.ff_xdr.proofs.Fields.{wide32, wide64}
use Rattle.ff_xdr.proofs.Places.{IsBytes-take, IsBytes-drop, bind_ok, ok_is}
use Rattle.ff_xdr.proofs.SpelledSo.{spelled_in}
use Rattle.rpc_record.specs.declared.call.CallFault.{CallFault}
use Rattle.rpc_record.specs.declared.call.CallFault.TheVariants.{NotACall, RpcVersion}
use Rattle.rpc_record.specs.declared.call.TheConstants.{RPC_VERSION}
use Rattle.rpc_record.specs.Calls.{RpcCall, call_body, word_of, with_body, body_at, with_version, call_at}
use Rattle.rpc_record.specs.Replies.{RpcReply, is_success, header_at, results_at, reply_at}
use Rattle.client_compounds.specs.MdsResults.{one_in, in_arm, done_as}
use Rattle.client_records.specs.ClientRecords.{AreBytes}
use Rattle.client_records.proofs.Cases.{IsCallOf}

-- ---- bytes

pub bytes_append : (a b : List ℕ) → AreBytes (a ++ b) → AreBytes a × AreBytes b
bytes_append [] b are = (tt, are)
bytes_append (x ∷ a) b are = ((are.0, (bytes_append a b are.1).0), (bytes_append a b are.1).1)

pub bytes_take : (n : ℕ) (bytes : List ℕ) → AreBytes bytes → AreBytes (take n bytes)
bytes_take zero bytes are = tt
bytes_take (suc n) [] are = tt
bytes_take (suc n) (b ∷ bytes) are = (are.0, bytes_take n bytes are.1)

pub bytes_drop : (n : ℕ) (bytes : List ℕ) → AreBytes bytes → AreBytes (drop n bytes)
bytes_drop zero bytes are = are
bytes_drop (suc n) [] are = tt
bytes_drop (suc n) (b ∷ bytes) are = bytes_drop n bytes are.1

-- place by place
pub by_place : (bytes : List ℕ) → AreBytes bytes → IsBytes bytes
by_place [] are i = omega arith
by_place (b ∷ bytes) are zero = are.0
by_place (b ∷ bytes) are (suc i) = by_place bytes are.1 i

-- ---- values

-- it has a spelling, which are bytes
abbrev pub Holds : (form : Form) → Value form → Type 0
Holds form v = Fits form v × AreBytes (spelling form v)

pub holds_pair : (first second : Form) (a : Value first) (b : Value second) → Holds (Pair first second) (a, b) → Holds first a × Holds second b
holds_pair first second a b h = (let parts = bytes_append (spelling first a) (spelling second b) h.1 in ((h.0.0, parts.0), (h.0.1, parts.1)))

pub holds_body : (number : ℕ) (body others : Form) (v : Value body) → Holds (Arm number body others) (inl v) → Holds body v
holds_body number body others v h = (h.0, (bytes_append (word number) (spelling body v) h.1).1)

pub holds_other : (number : ℕ) (body others : Form) (v : Value others) → Holds (Arm number body others) (inr v) → Holds others v
holds_other number body others v h = h

each_holds : (form : Form) (vs : List (Value form)) → AllByRecursion (λ v. Fits form v) vs → AreBytes (flat_map (λ v. spelling form v) vs) → AllByRecursion (λ v. Holds form v) vs
each_holds form [] fits are = tt
each_holds form (v ∷ vs) fits are = (let parts = bytes_append (spelling form v) (flat_map (λ v. spelling form v) vs) are in ((fits.0, parts.0), each_holds form vs fits.1 parts.1))

pub holds_array : (max : ℕ) (form : Form) (vs : List (Value form)) → Holds (Array max form) vs → AllByRecursion (λ v. Holds form v) vs
holds_array max form vs h = each_holds form vs h.0.1 (bytes_append (word (length vs)) (flat_map (λ v. spelling form v) vs) h.1).1

padded_bytes : (bytes : List ℕ) → AreBytes (padded bytes) → AreBytes bytes
unfolding padded
padded_bytes bytes are = (bytes_append bytes _ are).0

pub opaque_bytes : (max : ℕ) (bytes : List ℕ) → Holds (Opaque max) bytes → AreBytes bytes
opaque_bytes max bytes h = padded_bytes bytes (bytes_append (word (length bytes)) (padded bytes) h.1).1

-- what is read of bytes, and is all of them
pub whole_holds : (form : Form) → IsTrue (is_sound form) → (bytes : List ℕ) → AreBytes bytes → (v : Value form) → whole bytes (reading form bytes 0) ≡ Ok v → Holds form v
whole_holds form sound bytes are v is =
    let read = bind_ok (reading form bytes 0) (λ x. rest_of bytes x.1 >>= λ nothing. Ok x.0) v is in
    let rest = bind_ok (rest_of bytes read.0.1) (λ nothing. Ok read.0.0) v read.2 in
    let spelled = spelled_in form sound bytes (by_place bytes are) 0 read.0.0 read.0.1 (omega arith) read.1 in
    subst (Holds form) (ok_is read.0.0 v rest.2) (spelled.0, subst AreBytes spelled.1.stands (bytes_take (length (spelling form read.0.0)) (drop 0 bytes) are))

-- ---- a result of one operation

abbrev pub HoldsOne : {A B : Type 0} (here : Bool) → (A → Type 0) → (B → Type 0) → OneOf here A B → Type 0
HoldsOne true P Q v = P v
HoldsOne false P Q v = Q v

-- the body of the arm with this number
abbrev pub HoldsBody : (n : ℕ) (form : Form) → Body n form → Type 0
HoldsBody n (Arm number body others) v = HoldsOne (nat_eq n number) (Holds body) (HoldsBody n others) v
HoldsBody n form v = ⊥

one_holds : {A B C R : Type 0} (P : R → Type 0) (F : A → Type 0) (G : B → Type 0) (H : C → Type 0) (here : Bool) (some : OneOf here A C → R) (none : R) (behind : (C → R) → B → R)
    → ((b : OneOf here A C) → HoldsOne here F H b → P (some b)) → P none → ((f : C → R) → ((c : C) → H c → P (f c)) → (w : B) → G w → P (behind f w))
    → (v : A ⊎ B) → ((a : A) → v ≡ inl a → F a) → ((b : B) → v ≡ inr b → G b) → P (one_in {A = A} {B = B} {C = C} here some none behind v)
one_holds P F G H true some none behind each other further (inl v) first second = each v (first v refl)
one_holds P F G H true some none behind each other further (inr v) first second = other
one_holds P F G H false some none behind each other further (inl v) first second = other
one_holds P F G H false some none behind each other further (inr v) first second = further some each v (second v refl)

pub arm_holds : {R : Type 0} (P : R → Type 0) (n : ℕ) (form : Form) (some : Body n form → R) (none : R) → ((b : Body n form) → HoldsBody n form b → P (some b)) → P none → (v : Value form) → Holds form v → P (in_arm n form some none v)
arm_holds P n (Arm number body others) some none each other v h =
    one_holds P (Holds body) (Holds others) (HoldsBody n others) (nat_eq n number) some none (λ next w. in_arm n others next none w) each other (λ f all w. arm_holds P n others f none all other w) v
    (λ a is. holds_body number body others a (subst (Holds (Arm number body others)) is h)) (λ b is. holds_other number body others b (subst (Holds (Arm number body others)) is h))
arm_holds P n form some none each other v h = other

pub done_holds : {A B R : Type 0} (P : R → Type 0) (some : A → Option R) → ((a : A) (r : R) → some a ≡ Some r → P r) → (v : A ⊎ B) (r : R) → done_as some v ≡ Some r → P r
done_holds P some each (inl done) r is = each done r is
done_holds P some each (inr status) r is = absurd cc

-- ---- numbers

pub number_of_bytes : (bytes : List ℕ) → AreBytes bytes → from_be_bytes w64 bytes < 2 ^ 64
number_of_bytes bytes are = wide64.below bytes (by_place bytes are)

-- ---- records

pub results_bytes : (bytes : List ℕ) (reply : RpcReply) → AreBytes bytes → reply_at bytes ≡ Ok reply → AreBytes reply.results
unfolding reply_at
results_bytes bytes reply are is =
    let header = bind_ok (header_at bytes 0) (λ r. results_at (is_success r.0.stat) bytes r.1 >>= λ results. Ok (record r.0 { results = results })) reply is in
    let rest = bind_ok (results_at (is_success header.0.0.stat) bytes header.0.1) (λ results. Ok (record header.0.0 { results = results })) reply header.2 in
    subst (λ (r : RpcReply). AreBytes r.results) (ok_is (record header.0.0 { results = rest.0 }) reply rest.2) (by_flag (is_success header.0.0.stat) header.0.1 rest.0 rest.1)
  where
    by_flag : (b : Bool) (at : ℕ) (results : List ℕ) → results_at b bytes at ≡ Ok results → AreBytes results
    by_flag true at results is = subst AreBytes (ok_is (drop at bytes) results is) (bytes_drop at bytes are)
    by_flag false at results is =
        let end = bind_ok (rest_of bytes at) (λ nothing. Ok []) results is in
        subst AreBytes (ok_is [] results end.2) tt

-- the number of a call
word_fits : (bytes : List ℕ) (at : ℕ) → AreBytes bytes → word_of bytes at < 2 ^ 32
unfolding word_of
word_fits bytes at are = wide32.below (take 4 (drop at bytes)) (IsBytes-take 4 (drop at bytes) (IsBytes-drop at bytes (by_place bytes are)))

abbrev CallFits : Result RpcCall CallFault → Type 0
CallFits r = (xid : ℕ) → IsCallOf r xid → xid < 2 ^ 32

body_fits : (number : ℕ) (bytes : List ℕ) → number < 2 ^ 32 → (r : Read (Value call_body)) → CallFits (with_body number bytes r)
body_fits number bytes fits (Ok ((program, (version, (procedure, (cred, verf)))), at)) xid is = subst (λ (n : ℕ). n < 2 ^ 32) is fits
body_fits number bytes fits (Err e) xid is = subst (λ (n : ℕ). n < 2 ^ 32) is fits

version_fits : (number : ℕ) (bytes : List ℕ) → number < 2 ^ 32 → (r : Read ℕ) → CallFits (with_version number bytes r)
unfolding body_at
version_fits number bytes fits (Ok version) = by_test (version.0 == RPC_VERSION)
  where
    by_test : (b : Bool) → CallFits (if b then with_body number bytes (reading call_body bytes version.1) else Err (RpcVersion number))
    by_test true = λ xid is. body_fits number bytes fits (reading call_body bytes version.1) xid is
    by_test false = λ xid is. subst (λ (n : ℕ). n < 2 ^ 32) is fits
version_fits number bytes fits (Err e) = λ xid is. subst (λ (n : ℕ). n < 2 ^ 32) is fits

pub call_number : (bytes : List ℕ) (xid : ℕ) → AreBytes bytes → IsCallOf (call_at bytes) xid → xid < 2 ^ 32
unfolding call_at
call_number bytes xid are = by_length (nat_lt (length bytes) 8) (word_of bytes 4 == 0) xid
  where
    by_length : (a b : Bool) → CallFits (if a then Err NotACall else (if b then with_version (word_of bytes 0) bytes (number_at w32 bytes 8) else Err NotACall))
    by_length true b = λ xid is. absurd is
    by_length false true = version_fits (word_of bytes 0) bytes (word_fits bytes 0 are) (number_at w32 bytes 8)
    by_length false false = λ xid is. absurd is
