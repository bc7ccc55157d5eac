-- Replies: what was written is read back, and what is read is spelled so.
use Rattle.std.proofs.Common.{◌≡◌, ℕ, ◌+◌, ◌≤◌, true, false, cond, ltb, eqb, ◌||◌, Bool, List, [], ◌++◌, length, drop, Result, Ok, Err, refl, sym, ap, subst, ◌∙◌, arith, inl, inr}
use Rattle.std.proofs.lemmas.Bool.{le-ltb, ltb-false, eqb-true, or_cases}
use Rattle.std.proofs.lemmas.List.{drop_at, drop_all, length-drop}
use Rattle.ff_xdr.specs.declared.error.XdrError.{XdrError}
use Rattle.ff_xdr.specs.declared.error.XdrWhy.TheVariants.{Rest}
use Rattle.ff_xdr.specs.Form.{Value, Fits, spelling}
use Rattle.ff_xdr.specs.Laws.{IsBytes}
use Rattle.ff_xdr.specs.Reading.{Read, ◌>>=◌, reading}
use Rattle.ff_xdr.proofs.Places.{bind_ok, done, ok_is}
use Rattle.rpc_record.specs.Rpc.{OpaqueAuth}
use Rattle.rpc_record.specs.Replies.{RpcReply, ReplyStat, Accepted, Denied, reply_body, reply_header, reply_body_value, reply_body_of, is_success, header_value, reply_bytes, HasVerifier, HasResults, ReplyFits, reply_of_header, header_at, results_at, reply_at}
use Rattle.rpc_record.specs.Laws.{IsReplyReadAgain, IsReplySpelledSo}
use Rattle.rpc_record.proofs.Records.{all_again, all_spelled, whole_is}

-- a reply with other results
abbrev pub with_results : RpcReply → List ℕ → RpcReply
with_results r results = record r { results = results }

-- what stands behind a header that was read
abbrev pub reply_behind : List ℕ → RpcReply × ℕ → Result RpcReply XdrError
reply_behind bytes r = results_at (is_success r.0.stat) bytes r.1 >>= λ results. Ok (record r.0 { results = results })

-- ---- what was written

body_again : (verf : OpaqueAuth) (stat : ReplyStat) → HasVerifier verf stat → reply_body_of (reply_body_value verf stat) ≡ (verf, stat)
body_again verf (Accepted stat) fits = refl
body_again verf (Denied stat) fits = rw fits refl

header_again : (r : RpcReply) → HasVerifier r.verf r.stat → reply_of_header (header_value r) ≡ with_results r []
header_again r fits = ap (λ (b : OpaqueAuth × ReplyStat). record { xid = r.xid; verf = b.0; stat = b.1; results = [] }) (body_again r.verf r.stat fits)

results_again : (has : Bool) (results bytes : List ℕ) (at : ℕ) → HasResults has results → results ≡ drop at bytes → results_at has bytes at ≡ Ok results
results_again true results bytes at fits left = ap Ok (sym left)
results_again false results bytes at fits left =
    let none : ltb at (length bytes) ≡ false = le-ltb _ _ (omega (arith, length-drop at bytes, ap length left, ap length fits)) in
    rw (none, fits) refl

pub reply_again : all_again → (r : RpcReply) → IsReplyReadAgain r
unfolding reply_at
reply_again again r fits =
    let text = spelling reply_header (header_value r) in
    let counted : 0 + length text ≡ length text = omega arith in
    let read : reading reply_header (reply_bytes r) 0 ≡ Ok (header_value r, length text) = subst (λ (n : ℕ). reading reply_header (reply_bytes r) 0 ≡ Ok (header_value r, n)) counted (again reply_header refl (header_value r) [] r.results fits.0) in
    let header : header_at (reply_bytes r) 0 ≡ Ok (with_results r [], length text) =
    ap (λ (x : Read (Value reply_header)). x >>= λ v. Ok (reply_of_header v.0, v.1)) read ∙ ap (λ (q : RpcReply). Ok (q, length text)) (header_again r fits.1) in
    let left : r.results ≡ drop (length text) (reply_bytes r) = sym (drop_at text r.results (length text) refl) in
    ap (λ (x : Read RpcReply). x >>= reply_behind (reply_bytes r)) header ∙ ap (λ (x : Result (List ℕ) XdrError). x >>= λ results. Ok (with_results r results)) (results_again (is_success r.stat) r.results (reply_bytes r) (length text) fits.2 left)

-- ---- what is read

body_is : (v : Value reply_body) → reply_body_value (reply_body_of v).0 (reply_body_of v).1 ≡ v
body_is (inl (verf, stat)) = refl
body_is (inr (inl stat)) = refl
body_is (inr (inr none)) = absurd none

-- the reply of a header whose second word is 1 says the header
pub header_is : (v : Value reply_header) (results : List ℕ) → v.1.0 ≡ 1 → header_value (with_results (reply_of_header v) results) ≡ v
header_is (xid, (one, body)) results is = ap (λ (b : Value reply_body). (xid, (1, b))) (body_is body) ∙ ap (λ (n : ℕ). (xid, (n, body))) (sym is)

body_verifier : (v : Value reply_body) → HasVerifier (reply_body_of v).0 (reply_body_of v).1
body_verifier (inl (verf, stat)) = tt
body_verifier (inr (inl stat)) = refl
body_verifier (inr (inr none)) = absurd none

pub verifier_is : (v : Value reply_header) → HasVerifier (reply_of_header v).verf (reply_of_header v).stat
verifier_is (xid, (one, body)) = body_verifier body

pub fits_none : (has : Bool) → HasResults has []
fits_none true = tt
fits_none false = refl

abbrev guarded : Bool → XdrError → Result (Unit {0}) XdrError
guarded b d = cond b (Err d) (Ok tt)

rest_ok : (b : Bool) (d : XdrError) (results : List ℕ) → (guarded b d >>= λ nothing. done []) ≡ Ok results → (b ≡ false) × ([] ≡ results)
rest_ok true d results e = absurd cc
rest_ok false d results e = (refl, ok_is [] results e)

results_are : (has : Bool) (bytes : List ℕ) (at : ℕ) (results : List ℕ) → results_at has bytes at ≡ Ok results → (results ≡ drop at bytes) × HasResults has results
results_are true bytes at results e = (sym (ok_is (drop at bytes) results e), tt)
results_are false bytes at results e =
    let both = rest_ok (ltb at (length bytes)) (record { place = at; why = Rest }) results e in
    let behind : length bytes ≤ at = ltb-false _ _ both.0 in
    (sym both.1 ∙ sym (drop_all at bytes behind), sym both.1)

-- the second word is 1
pub one_is : (n : ℕ) → (eqb n 1 || false) ≡ true → n ≡ 1
one_is n e =
    elim (or_cases (eqb n 1) false e) [
      | inl same ↦ eqb-true n 1 same
      | inr wrong ↦ absurd cc
    ]

-- a header that was read
pub header_read : (bytes : List ℕ) (r : RpcReply × ℕ) → header_at bytes 0 ≡ Ok r → (v : Value reply_header) × (reading reply_header bytes 0 ≡ Ok (v, r.1)) × (reply_of_header v ≡ r.0)
header_read bytes r e =
    let a = bind_ok (reading reply_header bytes 0) (λ v. Ok (reply_of_header v.0, v.1)) r e in
    let same = ok_is (reply_of_header a.0.0, a.0.1) r a.2 in
    (a.0.0, a.1 ∙ ap (λ (x : RpcReply × ℕ). Ok (a.0.0, x.1)) same, ap (λ (x : RpcReply × ℕ). x.0) same)

abbrev IsSpelled : List ℕ → RpcReply → Type 0
IsSpelled bytes r = (bytes ≡ reply_bytes r) × ReplyFits r

spelled_of : all_spelled → (bytes : List ℕ) (v : Value reply_header) (at : ℕ) (results : List ℕ) → IsBytes bytes → reading reply_header bytes 0 ≡ Ok (v, at)
    → results_at (is_success (reply_of_header v).stat) bytes at ≡ Ok results → IsSpelled bytes (with_results (reply_of_header v) results)
spelled_of spelled bytes v at results is_bytes read e =
    let law = spelled reply_header refl bytes 0 v at is_bytes (omega arith) read in
    let same = header_is v results (one_is v.1.0 law.0.1.0) in
    let are = results_are (is_success (reply_of_header v).stat) bytes at results e in
    let whole : bytes ≡ spelling reply_header v ++ results = rw are.0 (whole_is bytes (spelling reply_header v) at law.1) in (
      subst (λ (w : Value reply_header). bytes ≡ spelling reply_header w ++ results) (sym same) whole,
      (subst (λ (w : Value reply_header). Fits reply_header w) (sym same) law.0, verifier_is v, are.1),
    )

pub reply_spelled : all_spelled → (bytes : List ℕ) (r : RpcReply) → IsReplySpelledSo bytes r
unfolding reply_at
reply_spelled spelled bytes r is_bytes e =
    let a = bind_ok (header_at bytes 0) (reply_behind bytes) r e in
    let b = bind_ok (results_at (is_success a.0.0.stat) bytes a.0.1) (λ results. Ok (with_results a.0.0 results)) r a.2 in
    let h = header_read bytes a.0 a.1 in
    let same : with_results (reply_of_header h.0) b.0 ≡ r = ap (λ (q : RpcReply). with_results q b.0) h.2 ∙ ok_is (with_results a.0.0 b.0) r b.2 in
    let results = subst (λ (q : RpcReply). results_at (is_success q.stat) bytes a.0.1 ≡ Ok b.0) (sym h.2) b.1 in
    subst (IsSpelled bytes) same (spelled_of spelled bytes h.0 a.0.1 b.0 is_bytes h.1 results)
