-- The header of a reply by its parts.
use Rattle.std.proofs.Common.{◌≡◌, ℕ, [], List, Ok, refl, ap, ◌∙◌}
use Rattle.std.specs.Int.{w32}
use Rattle.ff_xdr.specs.Reading.{reading, number_at}
use Rattle.ff_xdr.specs.Form.{Value}
use Rattle.ff_xdr.proofs.Places.{bind_ok, ok_is}
use Rattle.rpc_record.specs.Rpc.{OpaqueAuth}
use Rattle.rpc_record.specs.Replies.{ReplyStat, reply_body, reply_body_of, reply_body_at, header_at}

header_read : (bytes : List ℕ) (at : ℕ) (xid one : ℕ × ℕ) (v : Value reply_body × ℕ) → number_at w32 bytes at ≡ Ok xid → number_at w32 bytes xid.1 ≡ Ok one → one.0 ≡ 1
    → reading reply_body bytes one.1 ≡ Ok v → header_at bytes at ≡ Ok (record { xid = xid.0; verf = (reply_body_of v.0).0; stat = (reply_body_of v.0).1; results = [] }, v.1)
header_read bytes at xid one v first second is read = rw (first, second, is, read) refl

-- a number of its own, 1, and a body
pub header_of_parts : (bytes : List ℕ) (at : ℕ) (xid one : ℕ × ℕ) (b : (OpaqueAuth × ReplyStat) × ℕ) → number_at w32 bytes at ≡ Ok xid → number_at w32 bytes xid.1 ≡ Ok one → one.0 ≡ 1
    → reply_body_at bytes one.1 ≡ Ok b → header_at bytes at ≡ Ok (record { xid = xid.0; verf = b.0.0; stat = b.0.1; results = [] }, b.1)
header_of_parts bytes at xid one b first second is e =
    let a = bind_ok (reading reply_body bytes one.1) (λ v. Ok (reply_body_of v.0, v.1)) b e in
    let same : (reply_body_of a.0.0, a.0.1) ≡ b = ok_is (reply_body_of a.0.0, a.0.1) b a.2 in
    header_read bytes at xid one a.0 first second is a.1 ∙ ap (λ (c : (OpaqueAuth × ReplyStat) × ℕ). Ok (record { xid = xid.0; verf = c.0.0; stat = c.0.1; results = [] }, c.1)) same
