-- RPC replies (RFC 5531, section 9).
use Rattle.std.specs.Prelude.{◌≡◌, ℕ, Bool, true, false, nat_eq, List, [], ◌∷◌, ◌++◌, drop, Result, Ok}
use Rattle.std.proofs.Common.{inl, inr}
use Rattle.ff_xdr.specs.declared.error.XdrError.{XdrError}
use Rattle.ff_xdr.specs.Arms.{arm}
use Rattle.ff_xdr.specs.Form.{Form, Void, Number32, Enum, Pair, Arm, NoArm, Value, Fits, spelling, arm_of}
use Rattle.ff_xdr.specs.Reading.{Read, ◌>>=◌, reading, rest_of}
use Rattle.rpc_record.specs.declared.reply.ReplyBody.{ReplyBody}
use Rattle.rpc_record.specs.declared.reply.ReplyBody.TheVariants as declared
use Rattle.rpc_record.specs.declared.reply.Reply.{Reply}
use Rattle.rpc_record.specs.Rpc.{opaque_auth, OpaqueAuth, opaque_auth_value, opaque_auth_of, plain_auth}

-- two numbers of versions, the lowest and the highest
abbrev pub versions : Form
versions = Pair Number32 Number32

-- accept_stat, with what stands behind each number. The results of a success follow the header.
abbrev pub accept_stat : Form
accept_stat = Arm 0 Void (Arm 1 Void (Arm 2 versions (Arm 3 Void (Arm 4 Void (Arm 5 Void NoArm)))))

abbrev pub accepted_reply : Form
accepted_reply = Pair opaque_auth accept_stat

-- rejected_reply, by reject_stat
abbrev pub rejected_reply : Form
rejected_reply = Arm 0 versions (Arm 1 Number32 NoArm)

-- reply_body, by reply_stat MSG_ACCEPTED 0 or MSG_DENIED 1
abbrev pub reply_body : Form
reply_body = Arm 0 accepted_reply (Arm 1 rejected_reply NoArm)

-- the transaction's number, 1 for a reply, and the body
abbrev pub reply_header : Form
reply_header = Pair Number32 (Pair (Enum (1 ∷ [])) reply_body)

-- how a call was answered
pub data ReplyStat : Type 0 where
  Accepted : (stat : Value accept_stat) → ReplyStat
  Denied : (stat : Value rejected_reply) → ReplyStat

-- accept_stat
abbrev pub success : ReplyStat
success = Accepted (arm 0 accept_stat tt)

abbrev pub prog_unavail : ReplyStat
prog_unavail = Accepted (arm 1 accept_stat tt)

abbrev pub prog_mismatch : ℕ → ℕ → ReplyStat
prog_mismatch low high = Accepted (arm 2 accept_stat (low, high))

abbrev pub proc_unavail : ReplyStat
proc_unavail = Accepted (arm 3 accept_stat tt)

abbrev pub garbage_args : ReplyStat
garbage_args = Accepted (arm 4 accept_stat tt)

abbrev pub system_err : ReplyStat
system_err = Accepted (arm 5 accept_stat tt)

-- reject_stat
abbrev pub rpc_mismatch : ℕ → ℕ → ReplyStat
rpc_mismatch low high = Denied (arm 0 rejected_reply (low, high))

abbrev pub auth_error : ℕ → ReplyStat
auth_error stat = Denied (arm 1 rejected_reply stat)

-- the status of a reply of the code
abbrev pub reply_stat : ReplyBody → ReplyStat
reply_stat (declared.Success results) = success
reply_stat declared.ProgUnavail = prog_unavail
reply_stat (declared.ProgMismatch low high) = prog_mismatch low high
reply_stat declared.ProcUnavail = proc_unavail
reply_stat declared.GarbageArgs = garbage_args
reply_stat declared.SystemErr = system_err
reply_stat (declared.RpcMismatch low high) = rpc_mismatch low high
reply_stat (declared.AuthError stat) = auth_error stat

-- the results of a success; of another reply none
abbrev pub reply_results : ReplyBody → List ℕ
reply_results (declared.Success results) = results.now
reply_results body = []

-- a reply, without where its bytes lie
pub record RpcReply : Type 0 where
  pub xid : ℕ
  pub verf : OpaqueAuth
  pub stat : ReplyStat
  pub results : List ℕ

abbrev pub rpc_reply : Reply → RpcReply
rpc_reply r = record { xid = r.xid; verf = plain_auth r.verf; stat = reply_stat r.body; results = reply_results r.body }

-- the same without the results, which stand behind the header
abbrev pub reply_header_of : Reply → RpcReply
reply_header_of r = record (rpc_reply r) { results = [] }

-- the call was refused, MSG_DENIED
abbrev pub is_denied : ReplyStat → Bool
is_denied (Accepted stat) = false
is_denied (Denied stat) = true

-- its accept_stat or reject_stat
abbrev pub reply_stat_number : ReplyStat → ℕ
reply_stat_number (Accepted stat) = arm_of accept_stat stat
reply_stat_number (Denied stat) = arm_of rejected_reply stat

-- SUCCESS, behind which results stand
abbrev pub is_success : ReplyStat → Bool
is_success (Accepted stat) = nat_eq (arm_of accept_stat stat) 0
is_success (Denied stat) = false

-- a verifier of no flavor and no bytes, which is read where none stands
abbrev pub auth_none : OpaqueAuth
auth_none = record { flavor = 0; body = [] }

abbrev pub reply_body_value : OpaqueAuth → ReplyStat → Value reply_body
reply_body_value verf (Accepted stat) = inl (opaque_auth_value verf, stat)
reply_body_value verf (Denied stat) = inr (inl stat)

abbrev pub header_value : RpcReply → Value reply_header
header_value r = (r.xid, (1, reply_body_value r.verf r.stat))

-- the bytes of a reply: its header, and the results
abbrev pub reply_bytes : RpcReply → List ℕ
reply_bytes r = spelling reply_header (header_value r) ++ r.results

-- the verifier is none where it has no place in the bytes
abbrev pub HasVerifier : OpaqueAuth → ReplyStat → Type 0
HasVerifier verf (Accepted stat) = Unit {0}
HasVerifier verf (Denied stat) = verf ≡ auth_none

-- there are results of a success alone
abbrev pub HasResults : Bool → List ℕ → Type 0
HasResults true results = Unit {0}
HasResults false results = results ≡ []

-- the reply has a spelling that says all of it
abbrev pub ReplyFits : RpcReply → Type 0
ReplyFits r = Fits reply_header (header_value r) × HasVerifier r.verf r.stat × HasResults (is_success r.stat) r.results

-- the verifier and the status of a body
abbrev pub reply_body_of : Value reply_body → OpaqueAuth × ReplyStat
reply_body_of (inl (verf, stat)) = (opaque_auth_of verf, Accepted stat)
reply_body_of (inr (inl stat)) = (auth_none, Denied stat)
reply_body_of (inr (inr none)) = absurd none

-- the reply of a header, without results
abbrev pub reply_of_header : Value reply_header → RpcReply
reply_of_header (xid, (one, body)) = record { xid = xid; verf = (reply_body_of body).0; stat = (reply_body_of body).1; results = [] }

abbrev pub header_at : List ℕ → ℕ → Read RpcReply
header_at bytes at = reading reply_header bytes at >>= λ v. Ok (reply_of_header v.0, v.1)

-- the body of a header
abbrev pub reply_body_at : List ℕ → ℕ → Read (OpaqueAuth × ReplyStat)
reply_body_at bytes at = reading reply_body bytes at >>= λ v. Ok (reply_body_of v.0, v.1)

-- the status alone, of an accepted reply and of a denied one
abbrev pub accepted_at : List ℕ → ℕ → Read ReplyStat
accepted_at bytes at = reading accept_stat bytes at >>= λ v. Ok (Accepted v.0, v.1)

abbrev pub denied_at : List ℕ → ℕ → Read ReplyStat
denied_at bytes at = reading rejected_reply bytes at >>= λ v. Ok (Denied v.0, v.1)

-- what stands behind a header: of a success the results, to the end; else nothing may stand there
abbrev pub results_at : Bool → List ℕ → ℕ → Result (List ℕ) XdrError
results_at true bytes at = Ok (drop at bytes)
results_at false bytes at = rest_of bytes at >>= λ nothing. Ok []

-- what a record is as a reply: its header in its form, and the results behind it
unfoldable pub reply_at : List ℕ → Result RpcReply XdrError
reply_at bytes = header_at bytes 0 >>= λ r. results_at (is_success r.0.stat) bytes r.1 >>= λ results. Ok (record r.0 { results = results })
