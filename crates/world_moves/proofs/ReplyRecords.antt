-- The record of a reply is no call and has its number, and what a data server replies has the number of the call.
use Rattle.std.proofs.Common.{◌≡◌, ◌<◌, ◌≤◌, ℕ, ◌^◌, cond, List, [], ◌∷◌, ◌++◌, length, drop, Some, None, Result, Ok, Err, refl, sym, ap, subst, ◌∙◌, inr, arith, length-append}
use Rattle.std.specs.Prelude.{not, ◌==◌}
use Rattle.std.proofs.lemmas.Bool.{cond_both}
use Rattle.std.proofs.lemmas.Nat.{from_be_bytes-to_be_bytes_4}
use Rattle.ff_xdr.specs.declared.error.XdrError.{XdrError}
use Rattle.ff_xdr.specs.Form.{Form, Value, Number32, Enum, Pair, spelling, arm_spelling, has_arm, word}
use Rattle.ff_xdr.specs.Reading.{Read, ◌>>=◌, reading, arm_reading, whole}
use Rattle.ff_xdr.proofs.Places.{bind_ok, ok_is}
use Rattle.ff_xdr.proofs.Fields.{length-word}
use Rattle.rpc_record.specs.declared.call.CallFault.{CallFault}
use Rattle.rpc_record.specs.declared.call.CallFault.TheVariants.{NotACall}
use Rattle.rpc_record.specs.declared.call.TheConstants.{NFS_PROGRAM}
use Rattle.rpc_record.specs.declared.auth.TheConstants.{AUTH_SYS}
use Rattle.rpc_record.specs.Rpc.{Credential, authsys_parms, credential_of, opaque_auth_of}
use Rattle.rpc_record.specs.Calls.{RpcCall, call_body, call_bytes, call_at, word_of, with_body}
use Rattle.rpc_record.specs.Replies.{RpcReply, ReplyStat, reply_body, reply_header, reply_body_value, reply_of_header, reply_bytes, header_at, results_at, is_success, reply_at}
use Rattle.rpc_record.specs.Replies as rpc_reply
use Rattle.rpc_record.proofs.CallLaws.{number_is, no_call, Kind, Cut, Other, Headless, Stranger, Ours, kind_of}
use Rattle.rpc_record.proofs.ReplyLaws.{header_read}
use Rattle.nfs3_wire.specs.Calls.{calls}
use Rattle.nfs3_wire.specs.Replies.{nfs3_results, reply_value}
use Rattle.ds_procedures.specs.Steps.{step_of}
use Rattle.cluster_model.specs.Server.{ServerState}
use Rattle.ds_files.specs.declared.receive.TheConstants.{AUTH_TOOWEAK, NFS_VERSION}
use Rattle.ds_files.specs.Receive.{Received, Silent, Refused, Asked, replies_with, refuses, nobody, with_args, asked, with_cred, authenticated, dispatched, with_call, received, Outcome, outcome_by, outcome_of}
use Rattle.mds_receive.specs.MdsReceive.{PassedOver, IsReply, of_reply, incoming_of}
use Rattle.mds_receive.specs.MdsReceive as incoming

-- ---- the first two words

reply_number : (r : RpcReply) → r.xid < 2 ^ 32 → word_of (reply_bytes r) 0 ≡ r.xid
unfolding word word_of
reply_number r small = from_be_bytes-to_be_bytes_4 r.xid small

reply_kind : (r : RpcReply) → word_of (reply_bytes r) 4 ≡ 1
unfolding word word_of
reply_kind r = from_be_bytes-to_be_bytes_4 1 (omega arith)

call_number : (c : RpcCall) → c.xid < 2 ^ 32 → word_of (call_bytes c) 0 ≡ c.xid
unfolding word word_of
call_number c small = from_be_bytes-to_be_bytes_4 c.xid small

reply_long : (r : RpcReply) → 8 ≤ length (reply_bytes r)
reply_long r =
    let body : List ℕ = spelling reply_body (reply_body_value r.verf r.stat) in
    omega (arith, length-append (word r.xid ++ (word 1 ++ body)) r.results, length-append (word r.xid) (word 1 ++ body), length-append (word 1) body, length-word r.xid, length-word 1)

-- ---- it is no call

pub reply_no_call : (r : RpcReply) → call_at (reply_bytes r) ≡ Err NotACall
reply_no_call r = (no_call (reply_bytes r)).1 (inr (λ zero. let one = reply_kind r in absurd (omega (arith, one, zero))))

pub incoming_reply : (r : RpcReply) → incoming_of (reply_bytes r) ≡ of_reply (reply_at (reply_bytes r))
incoming_reply r = ap (λ (c : Result RpcCall CallFault). incoming.with_call c (reply_bytes r)) (reply_no_call r)

abbrev pub silence : ServerState → Outcome
silence s = record { server = s; entries = []; reply = None }

-- a data server is silent on it
pub reply_silent : (s : ServerState) (r : RpcReply) → outcome_of s (reply_bytes r) ≡ silence s
reply_silent s r = ap (λ (c : Result RpcCall CallFault). outcome_by s (with_call c)) (reply_no_call r)

-- ---- what the metadata server reads of it

pub data ReadsUnder (bytes : List ℕ) (xid : ℕ) : Type 0 where
  Passes : incoming_of bytes ≡ PassedOver → ReadsUnder bytes xid
  Reads : (reply : RpcReply) → incoming_of bytes ≡ IsReply reply → reply.xid ≡ xid → ReadsUnder bytes xid

abbrev rest_form : Form
rest_form = Pair (Enum (1 ∷ [])) reply_body

first_word : (bytes : List ℕ) (v : Value reply_header) (to : ℕ) → 8 ≤ length bytes → reading reply_header bytes 0 ≡ Ok (v, to) → v.0 ≡ word_of bytes 0
first_word bytes v to le e =
    let a = bind_ok (reading Number32 bytes 0) (λ a. reading rest_form bytes a.1 >>= λ b. Ok ((a.0, b.0), b.1)) (v, to) e in
    let b = bind_ok (reading rest_form bytes a.0.1) (λ b. Ok ((a.0.0, b.0), b.1)) (v, to) a.2 in
    let made = ok_is ((a.0.0, b.0.0), b.0.1) (v, to) b.2 in
    let there = ok_is a.0 (word_of bytes 0, 4) (sym a.1 ∙ number_is bytes 0 (omega arith)) in
    sym (ap (λ (p : Value reply_header × ℕ). p.0.0) made) ∙ ap (λ (p : ℕ × ℕ). p.0) there

read_number : (bytes : List ℕ) (r : RpcReply) → 8 ≤ length bytes → reply_at bytes ≡ Ok r → r.xid ≡ word_of bytes 0
unfolding reply_at
read_number bytes r le e =
    let h = bind_ok (header_at bytes 0) (λ r. results_at (is_success r.0.stat) bytes r.1 >>= λ results. Ok (record r.0 { results = results })) r e in
    let k = bind_ok (results_at (is_success h.0.0.stat) bytes h.0.1) (λ results. Ok (record h.0.0 { results = results })) r h.2 in
    let made = ok_is (record h.0.0 { results = k.0 }) r k.2 in
    let head = header_read bytes h.0 h.1 in
    sym (ap (λ (x : RpcReply). x.xid) made) ∙ (sym (ap (λ (x : RpcReply). x.xid) head.2) ∙ first_word bytes head.0 h.0.1 le head.1)

pub reads_under : (r : RpcReply) → r.xid < 2 ^ 32 → ReadsUnder (reply_bytes r) r.xid
reads_under r small = by_reading (reply_at (reply_bytes r)) refl
  where
    by_reading : (q : Result RpcReply XdrError) → reply_at (reply_bytes r) ≡ q → ReadsUnder (reply_bytes r) r.xid
    by_reading (Ok reply) is = Reads reply (incoming_reply r ∙ ap of_reply is) (read_number (reply_bytes r) reply (reply_long r) is ∙ reply_number r small)
    by_reading (Err e) is = Passes (incoming_reply r ∙ ap of_reply is)

-- ---- what a data server replies

abbrev IsUnder : ℕ → Received → Type 0
IsUnder xid Silent = Unit {0}
IsUnder xid (Refused reply) = reply.xid ≡ xid
IsUnder xid (Asked number call cred) = number ≡ xid

args_under : (xid : ℕ) (cred : Credential) (r : Result (Value calls) XdrError) → IsUnder xid (with_args xid cred r)
args_under xid cred (Ok v) = refl
args_under xid cred (Err e) = refl

asked_under : (c : RpcCall) (cred : Credential) → IsUnder c.xid (asked c cred)
asked_under c cred = args_under c.xid cred (whole c.args (arm_reading calls c.procedure c.args 0))

cred_under : (c : RpcCall) (r : Result (Value authsys_parms) XdrError) → IsUnder c.xid (with_cred c r)
cred_under c (Ok v) = asked_under c (credential_of v)
cred_under c (Err e) = refl

abbrev Under : RpcCall → Received → Type 0
Under c r = IsUnder c.xid r

who_under : (c : RpcCall) → Under c (authenticated c)
who_under c =
    cond_both (c.procedure == 0) (asked c nobody) (cond (not (c.cred.flavor == AUTH_SYS)) (refuses c.xid (rpc_reply.auth_error AUTH_TOOWEAK)) (with_cred c (whole c.cred.body (reading authsys_parms c.cred.body 0)))) (Under c) (λ e. asked_under c nobody)
    (λ e. cond_both (not (c.cred.flavor == AUTH_SYS)) (refuses c.xid (rpc_reply.auth_error AUTH_TOOWEAK)) (with_cred c (whole c.cred.body (reading authsys_parms c.cred.body 0))) (Under c) (λ e. refl) (λ e. cred_under c (whole c.cred.body (reading authsys_parms c.cred.body 0))))

built_under : (c : RpcCall) → Under c (cond (not (has_arm c.procedure calls)) (refuses c.xid rpc_reply.proc_unavail) (authenticated c))
built_under c = cond_both (not (has_arm c.procedure calls)) (refuses c.xid rpc_reply.proc_unavail) (authenticated c) (Under c) (λ e. refl) (λ e. who_under c)

version_under : (c : RpcCall) → Under c (cond (not (c.version == NFS_VERSION)) (refuses c.xid (rpc_reply.prog_mismatch NFS_VERSION NFS_VERSION)) (cond (not (has_arm c.procedure calls)) (refuses c.xid rpc_reply.proc_unavail) (authenticated c)))
version_under c = cond_both (not (c.version == NFS_VERSION)) (refuses c.xid (rpc_reply.prog_mismatch NFS_VERSION NFS_VERSION)) _ (Under c) (λ e. refl) (λ e. built_under c)

call_under : (c : RpcCall) → Under c (dispatched c)
call_under c = cond_both (not (c.program == NFS_PROGRAM)) (refuses c.xid rpc_reply.prog_unavail) _ (Under c) (λ e. refl) (λ e. version_under c)

body_under : (xid : ℕ) (bytes : List ℕ) (r : Read (Value call_body)) → IsUnder xid (with_call (with_body xid bytes r))
body_under xid bytes (Ok ((program, (version, (procedure, (cred, verf)))), at)) =
    call_under (record { xid = xid; program = program; version = version; procedure = procedure; cred = opaque_auth_of cred; verf = opaque_auth_of verf; args = drop at bytes })
body_under xid bytes (Err e) = refl

abbrev UnderFirst : List ℕ → Result RpcCall CallFault → Type 0
UnderFirst bytes r = IsUnder (word_of bytes 0) (with_call r)

kind_under : (bytes : List ℕ) → Kind bytes → UnderFirst bytes (call_at bytes)
kind_under bytes (Cut lt is) = subst (UnderFirst bytes) (sym is) tt
kind_under bytes (Other le ne is) = subst (UnderFirst bytes) (sym is) tt
kind_under bytes (Headless lt e le zero is) = subst (UnderFirst bytes) (sym is) refl
kind_under bytes (Stranger le zero ne is) = subst (UnderFirst bytes) (sym is) refl
kind_under bytes (Ours le zero two is) = subst (UnderFirst bytes) (sym is) (body_under (word_of bytes 0) bytes (reading call_body bytes 12))

-- none, or a reply under this number
pub data RepliesUnder (o : Outcome) (xid : ℕ) : Type 0 where
  NoReply : o.reply ≡ None → RepliesUnder o xid
  HasReply : (r : RpcReply) → o.reply ≡ Some (reply_bytes r) → r.xid ≡ xid → RepliesUnder o xid

by_received : (s : ServerState) (xid : ℕ) (r : Received) → IsUnder xid r → RepliesUnder (outcome_by s r) xid
by_received s xid Silent is = NoReply refl
by_received s xid (Refused reply) is = HasReply reply refl is
by_received s xid (Asked number call cred) is = HasReply (replies_with number rpc_reply.success (arm_spelling nfs3_results (reply_value (step_of s call cred).reply))) refl is

-- to a call with a number of four bytes, whatever else is in it
pub replies_under : (s : ServerState) (c : RpcCall) → c.xid < 2 ^ 32 → RepliesUnder (outcome_of s (call_bytes c)) c.xid
replies_under s c small = by_received s c.xid (received (call_bytes c)) (subst (λ (xid : ℕ). IsUnder xid (received (call_bytes c))) (call_number c small) (kind_under (call_bytes c) (kind_of (call_bytes c))))
