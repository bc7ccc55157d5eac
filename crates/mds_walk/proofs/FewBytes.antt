-- A READ that a data server answers gives at most as many bytes as its form allows.
use Rattle.std.proofs.Common.{◌≤◌, ℕ, ◌+◌, Bool, true, false, List, length, take, drop, Option, Some, None, Result, Ok, Err, arith, inl, inr}
use Rattle.std.specs.Prelude.{◌==◌, ◌&&◌, ◌||◌, not, nat_le, nat_lt}
use Rattle.std.specs.Int.{w32}
use Rattle.std.proofs.lemmas.Bool.{cond_both, ltb-false}
use Rattle.std.proofs.lemmas.List.{length-take}
use Rattle.ff_xdr.specs.declared.error.XdrError.{XdrError}
use Rattle.ff_xdr.specs.Form.{Form, Boolean, Number32, Pair, Value, pad_len}
use Rattle.ff_xdr.specs.Reading.{◌>>=◌, number_at, padding_at, fixed_at, length_at, opaque_at, arm_at, reading, rest_of, whole}
use Rattle.nfs3_wire.specs.declared.objects.TheConstants.{MAX_DATA}
use Rattle.nfs3_wire.specs.Objects.{io_data}
use Rattle.nfs3_wire.specs.Status.{refusal}
use Rattle.nfs3_wire.specs.Create.{create_result}
use Rattle.nfs3_wire.specs.Setattr.{setattr_result}
use Rattle.nfs3_wire.specs.Write.{write_result}
use Rattle.nfs3_wire.specs.Commit.{commit_result}
use Rattle.nfs3_wire.specs.Wcc.{post_op_attr}
use Rattle.nfs3_wire.specs.Read.{read_ok, read_result}
use Rattle.rpc_record.specs.Replies.{RpcReply, is_success}
use Rattle.cluster_model.specs.DsCalls.{DsCallValue, DsReplyValue, Written, Bytes, Failed}
use Rattle.cluster_model.specs.DsCalls as ds
use Rattle.cluster_model.specs.declared.ds_call.Shown.{Shown}
use Rattle.ds_calls.specs.GivenReplies.{odd_answer, shown_in, shown_where, handle_fileid, created_as, create_answer, unsynced_answer, setattr_answer, write_answer, commit_answer, read_answer, answer_by, results_of_call, reply_of_call}

-- the bytes fit an opaque of any length
abbrev pub GivesFew : DsReplyValue → Type 0
GivesFew (Bytes shown eof bytes) = length bytes ≤ 4294967295
GivesFew reply = Unit {0}

-- ---- what is read

abbrev IfOk : {A : Type 0} → (A → Type 0) → Result A XdrError → Type 0
IfOk P (Ok v) = P v
IfOk P (Err e) = Unit {0}

if_then : {A B : Type 0} (P : A → Type 0) (R : B → Type 0) (r : Result A XdrError) (f : A → Result B XdrError) → IfOk P r → ((a : A) → P a → IfOk R (f a)) → IfOk R (r >>= f)
if_then P R (Ok a) f its next = next a its
if_then P R (Err e) f its next = tt

abbrev Any : {A : Type 0} → A → Type 0
Any a = Unit {0}

any_ok : {A : Type 0} (r : Result A XdrError) → IfOk Any r
any_ok (Ok a) = tt
any_ok (Err e) = tt

fixed_short : (n : ℕ) (bytes : List ℕ) (at : ℕ) → IfOk (λ (p : List ℕ × ℕ). length p.0 ≤ n) (fixed_at n bytes at)
unfolding fixed_at
fixed_short n bytes at =
    cond_both (nat_lt (length bytes) (at + n)) _ _ (λ (r : Result (List ℕ × ℕ) XdrError). IfOk (λ (p : List ℕ × ℕ). length p.0 ≤ n) r) (λ short. tt)
    (λ long. if_then Any (λ (p : List ℕ × ℕ). length p.0 ≤ n) (padding_at (pad_len n) bytes (at + n)) (λ to. Ok (take n (drop at bytes), to)) (any_ok (padding_at (pad_len n) bytes (at + n))) (λ to its. grind (arith, length-take)))

length_short : (max : ℕ) (bytes : List ℕ) (at : ℕ) → IfOk (λ (p : ℕ × ℕ). p.0 ≤ max) (length_at max bytes at)
unfolding length_at
length_short max bytes at =
    if_then Any (λ (p : ℕ × ℕ). p.0 ≤ max) (number_at w32 bytes at) _ (any_ok (number_at w32 bytes at))
    (λ n its. cond_both (nat_lt max n.0) _ _ (λ (r : Result (ℕ × ℕ) XdrError). IfOk (λ (p : ℕ × ℕ). p.0 ≤ max) r) (λ more. tt) (λ few. ltb-false max n.0 few))

opaque_short : (max : ℕ) (bytes : List ℕ) (at : ℕ) → IfOk (λ (p : List ℕ × ℕ). length p.0 ≤ max) (opaque_at max bytes at)
unfolding opaque_at
opaque_short max bytes at =
    if_then (λ (p : ℕ × ℕ). p.0 ≤ max) (λ (p : List ℕ × ℕ). length p.0 ≤ max) (length_at max bytes at) _ (length_short max bytes at) (λ n few. less n.0 (fixed_at n.0 bytes n.1) few (fixed_short n.0 bytes n.1))
  where
    less : (n : ℕ) (r : Result (List ℕ × ℕ) XdrError) → n ≤ max → IfOk (λ (p : List ℕ × ℕ). length p.0 ≤ n) r → IfOk (λ (p : List ℕ × ℕ). length p.0 ≤ max) r
    less n (Ok p) few its = omega (arith, few, its)
    less n (Err e) few its = tt

-- ---- the results of a READ

abbrev IsShortOk : Value read_ok → Type 0
IsShortOk (attributes, (count, (eof, bytes))) = length bytes ≤ 1048576

abbrev IsShortResult : Value read_result → Type 0
IsShortResult (inl v) = IsShortOk v
IsShortResult (inr v) = Unit {0}

-- where the second part is so, whatever the first one is
pair_short : (first second : Form) (P : Value second → Type 0) (bytes : List ℕ) (at : ℕ) → ((place : ℕ) → IfOk (λ (p : Value second × ℕ). P p.0) (reading second bytes place))
    → IfOk (λ (p : Value (Pair first second) × ℕ). P p.0.1) (reading (Pair first second) bytes at)
pair_short first second P bytes at its =
    if_then Any (λ (p : Value (Pair first second) × ℕ). P p.0.1) (reading first bytes at) _ (any_ok (reading first bytes at))
    (λ a any. if_then (λ (p : Value second × ℕ). P p.0) (λ (p : Value (Pair first second) × ℕ). P p.0.1) (reading second bytes a.1) _ (its a.1) (λ b short. short))

ok_short : (bytes : List ℕ) (at : ℕ) → IfOk (λ (p : Value read_ok × ℕ). IsShortOk p.0) (reading read_ok bytes at)
ok_short bytes at =
    pair_short post_op_attr (Pair Number32 (Pair Boolean io_data)) (λ v. length v.1.1 ≤ 1048576) bytes at
    (λ place. pair_short Number32 (Pair Boolean io_data) (λ v. length v.1 ≤ 1048576) bytes place (λ there. pair_short Boolean io_data (λ v. length v ≤ 1048576) bytes there (λ end. opaque_short MAX_DATA bytes end)))

abbrev refused3 : Form
refused3 = Pair refusal post_op_attr

by_arm : (b : Bool) (bytes : List ℕ) (at place : ℕ) → IfOk (λ (p : Value read_result × ℕ). IsShortResult p.0) (arm_at b (reading read_ok bytes place) (reading refused3 bytes at))
by_arm true bytes at place = if_then (λ (p : Value read_ok × ℕ). IsShortOk p.0) (λ (p : Value read_result × ℕ). IsShortResult p.0) (reading read_ok bytes place) _ (ok_short bytes place) (λ v short. short)
by_arm false bytes at place = if_then (λ (p : Value refused3 × ℕ). Unit {0}) (λ (p : Value read_result × ℕ). IsShortResult p.0) (reading refused3 bytes at) _ (any_ok (reading refused3 bytes at)) (λ v any. tt)

result_short : (bytes : List ℕ) → IfOk IsShortResult (whole bytes (reading read_result bytes 0))
result_short bytes =
    if_then (λ (p : Value read_result × ℕ). IsShortResult p.0) IsShortResult (reading read_result bytes 0) _
    (if_then Any (λ (p : Value read_result × ℕ). IsShortResult p.0) (number_at w32 bytes 0) _ (any_ok (number_at w32 bytes 0)) (λ n any. by_arm (n.0 == 0) bytes 0 n.1))
    (λ v short. if_then Any IsShortResult (rest_of bytes v.1) _ (any_ok (rest_of bytes v.1)) (λ nothing any. short))

read_few : (asked : ℕ) (r : Result (Value read_result) XdrError) → IfOk IsShortResult r → GivesFew (answer_by (read_answer asked) r)
read_few asked (Ok (inl (attributes, (count, (eof, bytes))))) short =
    cond_both (count == length bytes && nat_le count asked) (Bytes (shown_where attributes) eof bytes) odd_answer GivesFew (λ is. omega (arith, short)) (λ off. tt)
read_few asked (Ok (inr (status, attributes))) short = tt
read_few asked (Err e) short = tt

-- ---- other results give none

created_few : (o : Option ℕ) (shown : Shown) → GivesFew (created_as o shown)
created_few None shown = tt
created_few (Some fileid) shown = tt

create_few : (v : Value create_result) → GivesFew (create_answer v)
create_few (inl (Some file, (Some attributes, directory))) = created_few (handle_fileid file) (shown_in attributes)
create_few (inl (Some file, (None, directory))) = tt
create_few (inl (None, (attributes, directory))) = tt
create_few (inr (status, directory)) = tt

unsynced_few : (o : Option Shown) → GivesFew (unsynced_answer o)
unsynced_few None = tt
unsynced_few (Some shown) = tt

setattr_few : (v : Value setattr_result) → GivesFew (setattr_answer v)
setattr_few (inl (before, after)) = tt
setattr_few (inr (status, (before, after))) = cond_both (status == 10002) (unsynced_answer (shown_where after)) (Failed status (shown_where after)) GivesFew (λ is. unsynced_few (shown_where after)) (λ off. tt)

write_few : (synced : Bool) (size : ℕ) (v : Value write_result) → GivesFew (write_answer synced size v)
write_few synced size (inl ((before, after), (count, (committed, verifier)))) =
    cond_both (count == size && (not synced || committed == 2)) (Written (shown_where after) verifier) odd_answer GivesFew (λ is. tt) (λ off. tt)
write_few synced size (inr (status, (before, after))) = tt

commit_few : (v : Value commit_result) → GivesFew (commit_answer v)
commit_few (inl ((before, after), verifier)) = tt
commit_few (inr (status, (before, after))) = tt

answer_few : {A : Type 0} (answer : A → DsReplyValue) → ((v : A) → GivesFew (answer v)) → (r : Result A XdrError) → GivesFew (answer_by answer r)
answer_few answer all (Ok v) = all v
answer_few answer all (Err e) = tt

results_few : (call : DsCallValue) (bytes : List ℕ) → GivesFew (results_of_call call bytes)
results_few (ds.Create name owner) bytes = answer_few create_answer create_few (whole bytes (reading create_result bytes 0))
results_few (ds.SetAttr fileid owner guard) bytes = answer_few setattr_answer setattr_few (whole bytes (reading setattr_result bytes 0))
results_few (ds.Write fileid at synced given) bytes = answer_few (write_answer synced (length given)) (write_few synced (length given)) (whole bytes (reading write_result bytes 0))
results_few (ds.Commit fileid) bytes = answer_few commit_answer commit_few (whole bytes (reading commit_result bytes 0))
results_few (ds.Read fileid at count) bytes = read_few count (whole bytes (reading read_result bytes 0)) (result_short bytes)

-- what any reply says
pub reply_few : (call : DsCallValue) (reply : RpcReply) → GivesFew (reply_of_call call reply)
reply_few call reply = cond_both (is_success reply.stat) (results_of_call call reply.results) odd_answer GivesFew (λ is. results_few call reply.results) (λ off. tt)
