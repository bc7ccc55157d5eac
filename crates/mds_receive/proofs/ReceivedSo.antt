-- What goes back stands under the number of its call; who calls makes no difference.
use Rattle.std.proofs.Common.{◌≡◌, ℕ, eqb, ltb, not, cond, List, [], ◌∷◌, length, Option, Some, None, Result, Ok, Err, refl, sym, ap, ◌∙◌}
use Rattle.std.proofs.lemmas.Bool.{cond_both, eqb-true}
use Rattle.ff_xdr.specs.declared.error.XdrError.{XdrError}
use Rattle.ff_xdr.specs.Form.{Value}
use Rattle.std.specs.Int.{w32}
use Rattle.ff_xdr.specs.Reading.{Read, number_at, reading}
use Rattle.rpc_record.specs.declared.call.CallFault.{CallFault}
use Rattle.rpc_record.specs.declared.call.CallFault.TheVariants.{NotACall, RpcVersion, Bad}
use Rattle.rpc_record.specs.declared.call.TheConstants.{RPC_VERSION}
use Rattle.rpc_record.specs.Rpc.{OpaqueAuth}
use Rattle.rpc_record.specs.Calls.{RpcCall, call_body, call_bytes, call_at, body_at, with_body, with_version, word_of}
use Rattle.rpc_record.specs.Replies.{RpcReply, ReplyStat, auth_none, garbage_args, proc_unavail, prog_mismatch, prog_unavail, reply_at, reply_bytes, rpc_mismatch, success}
use Rattle.rpc_record.specs.Laws.{IsCallReadAgain}
use Rattle.nfs4_types.specs.declared.status.Stat4.TheVariants as stat
use Rattle.nfs4_types.specs.declared.status.Stat4.{Stat4}
use Rattle.nfs4_types.specs.Status.{stat4_number}
use Rattle.ff_xdr.specs.Form.{spelling}
use Rattle.nfs4_compound.specs.Compounds.{CompoundValue, compound_at, compound4_res}
use Rattle.nfs4_compound.specs.Operations.{rest_of_stop}
use Rattle.mds_receive.specs.MdsReceive.{IncomingValue, IsAnswered, IsCompound, bare_reply, answers, refuses, refuses_compound, walked, counted, with_head, asks_null, asked, dispatched, of_reply, with_call}
use Rattle.mds_receive.specs.MdsReceiveLaws.{IsUnderNumber, IsAnsweredByNumber, called_by, IsBlindToCaller}

-- ---- a reply under a number

record Says (xid : ℕ) (reply : List ℕ) : Type 0 where
  pub said : RpcReply
  pub spelled : reply ≡ reply_bytes said
  pub number : said.xid ≡ xid
  pub verf : said.verf ≡ auth_none

abbrev IsUnder : ℕ → IncomingValue → Type 0
IsUnder xid value = (reply : List ℕ) → value ≡ IsAnswered reply → Says xid reply

bytes_same : (a b : List ℕ) → IsAnswered a ≡ IsAnswered b → a ≡ b
bytes_same a b e = cc

under : (xid : ℕ) (stat : ReplyStat) (results : List ℕ) → IsUnder xid (answers xid stat results)
under xid stat results = λ reply e. record {
  said = bare_reply xid stat results;
  spelled = sym (bytes_same _ _ e);
  number = refl;
  verf = refl;
}

no_compound : (n xid : ℕ) (c : CompoundValue) → IsUnder n (IsCompound xid c)
no_compound n xid c = λ reply e. absurd cc

no_reply : (r : Result RpcReply XdrError) (reply : List ℕ) → of_reply r ≡ IsAnswered reply → ⊥
no_reply (Ok r) reply e = cc
no_reply (Err x) reply e = cc

-- ---- the steps

walked_under : (xid : ℕ) (c : CompoundValue) (rest : Option ℕ) → IsUnder xid (walked xid c rest)
walked_under xid c (Some place) = under xid garbage_args []
walked_under xid c None = no_compound xid xid c

refused_under : (xid : ℕ) (status : Stat4) (tag : List ℕ) → IsUnder xid (refuses_compound xid status tag)
refused_under xid status tag = under xid success (spelling compound4_res (stat4_number status, (tag, [])))

counted_under : (xid : ℕ) (c : CompoundValue) → IsUnder xid (counted xid c)
counted_under xid c =
    cond_both (not (eqb c.minorversion 1)) (refuses_compound xid stat.MinorVersMismatch c.tag) (cond (ltb 16 c.count) (refuses_compound xid stat.TooManyOps c.tag) (walked xid c (rest_of_stop c.stop)))
    (λ (v : IncomingValue). IsUnder xid v) (λ other. refused_under xid stat.MinorVersMismatch c.tag)
    (λ same. cond_both (ltb 16 c.count) (refuses_compound xid stat.TooManyOps c.tag) (walked xid c (rest_of_stop c.stop))
    (λ (v : IncomingValue). IsUnder xid v) (λ many. refused_under xid stat.TooManyOps c.tag) (λ few. walked_under xid c (rest_of_stop c.stop)))

head_under : (xid : ℕ) (r : Result CompoundValue XdrError) → IsUnder xid (with_head xid r)
head_under xid (Ok c) = counted_under xid c
head_under xid (Err e) = under xid garbage_args []

null_under : (xid : ℕ) (args : List ℕ) → IsUnder xid (asks_null xid args)
null_under xid [] = under xid success []
null_under xid (b ∷ bytes) = under xid garbage_args []

asked_under : (c : RpcCall) → IsUnder c.xid (asked c)
asked_under c =
    cond_both (eqb c.procedure 0) (asks_null c.xid c.args) (cond (eqb c.procedure 1) (with_head c.xid (compound_at c.args)) (refuses c.xid proc_unavail))
    (λ (v : IncomingValue). IsUnder c.xid v) (λ null. null_under c.xid c.args)
    (λ other. cond_both (eqb c.procedure 1) (with_head c.xid (compound_at c.args)) (refuses c.xid proc_unavail)
    (λ (v : IncomingValue). IsUnder c.xid v) (λ compound. head_under c.xid (compound_at c.args)) (λ none. under c.xid proc_unavail []))

dispatched_under : (c : RpcCall) → IsUnder c.xid (dispatched c)
dispatched_under c =
    cond_both (not (eqb c.program 100003)) (refuses c.xid prog_unavail) (cond (not (eqb c.version 4)) (refuses c.xid (prog_mismatch 4 4)) (asked c))
    (λ (v : IncomingValue). IsUnder c.xid v) (λ other. under c.xid prog_unavail [])
    (λ same. cond_both (not (eqb c.version 4)) (refuses c.xid (prog_mismatch 4 4)) (asked c)
    (λ (v : IncomingValue). IsUnder c.xid v) (λ old. under c.xid (prog_mismatch 4 4) []) (λ new. asked_under c))

-- ---- the number of a call is its first word, and its second word is 0

abbrev HasNumber : ℕ → Result RpcCall CallFault → Type 0
HasNumber xid (Ok c) = c.xid ≡ xid
HasNumber xid (Err NotACall) = Unit {0}
HasNumber xid (Err (RpcVersion n)) = n ≡ xid
HasNumber xid (Err (Bad n e)) = n ≡ xid

body_number : (xid : ℕ) (bytes : List ℕ) (r : Read (Value call_body)) → HasNumber xid (with_body xid bytes r)
body_number xid bytes (Ok ((program, (version, (procedure, (cred, verf)))), at)) = refl
body_number xid bytes (Err e) = refl

body_at_number : (xid : ℕ) (bytes : List ℕ) (at : ℕ) → HasNumber xid (body_at xid bytes at)
unfolding body_at
body_at_number xid bytes at = body_number xid bytes (reading call_body bytes at)

version_number : (xid : ℕ) (bytes : List ℕ) (r : Read ℕ) → HasNumber xid (with_version xid bytes r)
version_number xid bytes (Ok version) =
    cond_both (eqb version.0 RPC_VERSION) (body_at xid bytes version.1) (Err (RpcVersion xid)) (λ (r : Result RpcCall CallFault). HasNumber xid r)
    (λ same. body_at_number xid bytes version.1) (λ other. refl)
version_number xid bytes (Err e) = refl

abbrev IsNumbered : List ℕ → Result RpcCall CallFault → Type 0
IsNumbered bytes (Ok c) = (c.xid ≡ word_of bytes 0) × (word_of bytes 4 ≡ 0)
IsNumbered bytes (Err NotACall) = Unit {0}
IsNumbered bytes (Err (RpcVersion n)) = (n ≡ word_of bytes 0) × (word_of bytes 4 ≡ 0)
IsNumbered bytes (Err (Bad n e)) = (n ≡ word_of bytes 0) × (word_of bytes 4 ≡ 0)

both_words : (bytes : List ℕ) (r : Result RpcCall CallFault) → word_of bytes 4 ≡ 0 → HasNumber (word_of bytes 0) r → IsNumbered bytes r
both_words bytes (Ok c) zero number = (number, zero)
both_words bytes (Err NotACall) zero number = tt
both_words bytes (Err (RpcVersion n)) zero number = (number, zero)
both_words bytes (Err (Bad n e)) zero number = (number, zero)

call_numbered : (bytes : List ℕ) → IsNumbered bytes (call_at bytes)
unfolding call_at
call_numbered bytes =
    cond_both (ltb (length bytes) 8) (Err NotACall) (cond (eqb (word_of bytes 4) 0) (with_version (word_of bytes 0) bytes (number_at w32 bytes 8)) (Err NotACall))
    (λ (r : Result RpcCall CallFault). IsNumbered bytes r) (λ short. tt)
    (λ long. cond_both (eqb (word_of bytes 4) 0) (with_version (word_of bytes 0) bytes (number_at w32 bytes 8)) (Err NotACall)
    (λ (r : Result RpcCall CallFault). IsNumbered bytes r)
    (λ zero. both_words bytes (with_version (word_of bytes 0) bytes (number_at w32 bytes 8)) (eqb-true _ _ zero) (version_number (word_of bytes 0) bytes (number_at w32 bytes 8)))
    (λ other. tt))

-- ---- the laws

of_call : (bytes reply : List ℕ) (xid : ℕ) → (xid ≡ word_of bytes 0) × (word_of bytes 4 ≡ 0) → Says xid reply → IsUnderNumber bytes reply
of_call bytes reply xid n s = record { said = s.said; spelled = s.spelled; number = s.number ∙ n.0; verf = s.verf; of_call = n.1 }

with_call_under : (bytes reply : List ℕ) (r : Result RpcCall CallFault) → IsNumbered bytes r → with_call r bytes ≡ IsAnswered reply → IsUnderNumber bytes reply
with_call_under bytes reply (Ok c) n e = of_call bytes reply c.xid n (dispatched_under c reply e)
with_call_under bytes reply (Err NotACall) n e = absurd (no_reply (reply_at bytes) reply e)
with_call_under bytes reply (Err (RpcVersion xid)) n e = of_call bytes reply xid n (under xid (rpc_mismatch 2 2) [] reply e)
with_call_under bytes reply (Err (Bad xid x)) n e = of_call bytes reply xid n (under xid garbage_args [] reply e)

pub numbered : (bytes reply : List ℕ) → IsAnsweredByNumber bytes reply
numbered bytes reply = with_call_under bytes reply (call_at bytes) (call_numbered bytes)

pub blind : (header : (c : RpcCall) → IsCallReadAgain c) (call : RpcCall) (cred : OpaqueAuth) → IsBlindToCaller call cred
blind header call cred = λ h k.
    let by = called_by call cred in
    ap (λ (r : Result RpcCall CallFault). with_call r (call_bytes by)) (header by k.0 k.1)
    ∙ sym (ap (λ (r : Result RpcCall CallFault). with_call r (call_bytes call)) (header call h.0 h.1))
