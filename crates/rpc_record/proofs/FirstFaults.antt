-- Up to the refused place some call, or some reply, has the bytes.
use Rattle.std.proofs.Common.{◌≡◌, ℕ, ◌+◌, ◌-◌, ◌^◌, ◌<◌, ◌≤◌, List, [], ◌++◌, length, take, refl, sym, ap, subst, ◌∙◌, append-nil, arith, inl, inr}
use Rattle.std.proofs.lemmas.List.{take_all}
use Rattle.std.proofs.Math.Seq.{take-append-add}
use Rattle.ff_xdr.specs.declared.error.XdrError.{XdrError}
use Rattle.ff_xdr.specs.Form.{Number32, Value, Fits, spelling, word}
use Rattle.ff_xdr.specs.Laws.{IsBytes, Stands, Begins}
use Rattle.ff_xdr.specs.Reading.{reading}
use Rattle.ff_xdr.proofs.Places.{stands_join}
use Rattle.rpc_record.specs.Rpc.{opaque_auth_of}
use Rattle.rpc_record.specs.Calls.{RpcCall, call_body, call_bytes, word_of}
use Rattle.rpc_record.specs.Replies.{reply_header, is_success, header_value, reply_bytes, reply_of_header, reply_at}
use Rattle.rpc_record.specs.Laws.{HasBadHeader, BeginsCall, IsCallFirstFault, BeginsReply, IsReplyFirstFault}
use Rattle.rpc_record.proofs.Records.{all_spelled, all_least}
use Rattle.rpc_record.proofs.CallLaws.{number_is, length_front, kind_of}
use Rattle.rpc_record.proofs.CallRefusals.{IsBad, bad_is}
use Rattle.rpc_record.proofs.ReplyLaws.{header_is, fits_none, verifier_is, one_is}
use Rattle.rpc_record.proofs.ReplyRefusals.{reply_cases}

-- ---- calls

word_stands : all_spelled → (bytes : List ℕ) (at n : ℕ) → IsBytes bytes → at + 4 ≤ length bytes → word_of bytes at ≡ n → (n < 2 ^ 32) × Stands bytes at (word n) (at + 4)
word_stands spelled bytes at n is_bytes le same =
    let law = spelled Number32 refl bytes at (word_of bytes at) (at + 4) is_bytes (omega (arith, le)) (number_is bytes at le) in
    subst (λ (k : ℕ). (k < 2 ^ 32) × Stands bytes at (word k) (at + 4)) same law

abbrev front : ℕ → List ℕ
front xid = word xid ++ (word 0 ++ word 2)

front_stands : all_spelled → (bytes : List ℕ) (xid : ℕ) → IsBytes bytes → 12 ≤ length bytes → word_of bytes 0 ≡ xid → word_of bytes 4 ≡ 0 → word_of bytes 8 ≡ 2 → Stands bytes 0 (front xid) 12
front_stands spelled bytes xid is_bytes le own zero two =
    let first : Stands bytes 0 (word xid) 4 = (word_stands spelled bytes 0 xid is_bytes (omega (arith, le)) own).1 in
    let second : Stands bytes 4 (word 0) 8 = (word_stands spelled bytes 4 0 is_bytes (omega (arith, le)) zero).1 in
    let third : Stands bytes 8 (word 2) 12 = (word_stands spelled bytes 8 2 is_bytes le two).1 in
    stands_join bytes 0 (word xid) 4 (word 0 ++ word 2) 12 first (stands_join bytes 4 (word 0) 8 (word 2) 12 second third)

begun_call : (bytes : List ℕ) (xid place : ℕ) → xid < 2 ^ 32 → Stands bytes 0 (front xid) 12 → Begins call_body bytes 12 place → BeginsCall bytes xid place
begun_call bytes xid place small head b =
    let v = b.value in
    let c : RpcCall = record { xid = xid; program = v.0; version = v.1.0; procedure = v.1.1.0; cred = opaque_auth_of v.1.1.1.0; verf = opaque_auth_of v.1.1.1.1; args = [] } in
    let text = spelling call_body v in
    let part = take (place - 12) text in
    let size : place ≡ length (front xid) + (place - 12) = omega (arith, b.begins.ends, length_front xid) in
    let cut : take place (front xid ++ text) ≡ front xid ++ part = ap (λ (n : ℕ). take n (front xid ++ text)) size ∙ take-append-add (front xid) text (place - 12) in
    let same : take place (call_bytes c) ≡ front xid ++ part = ap (λ (t : List ℕ). take place (front xid ++ t)) (append-nil text) ∙ cut in
    record {
      call = c;
      fits = b.fits;
      own = refl;
      small = small;
      begins = subst (λ (t : List ℕ). Stands bytes 0 t place) (sym same) (stands_join bytes 0 (front xid) 12 part place head b.begins);
    }

pub call_least : all_spelled → all_least → (bytes : List ℕ) (xid : ℕ) (e : XdrError) → IsCallFirstFault bytes xid e
call_least spelled least bytes xid e is_bytes is other = by_header parts.3
  where
    parts : IsBad bytes xid e
    parts = bad_is bytes xid e (kind_of bytes) is

    by_header : HasBadHeader bytes e → BeginsCall bytes xid e.place
    by_header (inl cut) = absurd (other (ap (λ (d : XdrError). d.why) cut.1))
    by_header (inr body) =
        let head = front_stands spelled bytes xid is_bytes body.0 parts.1 parts.2 body.1 in
        let own = word_stands spelled bytes 0 xid is_bytes (omega (arith, body.0)) parts.1 in
        begun_call bytes xid e.place own.0 head (least call_body refl refl bytes 12 e is_bytes body.0 body.2 other)

-- ---- replies

begun_reply : (bytes : List ℕ) (place : ℕ) → Begins reply_header bytes 0 place → BeginsReply bytes place
begun_reply bytes place b =
    let v = b.value in
    let reply = reply_of_header v in
    let same : header_value reply ≡ v = header_is v [] (one_is v.1.0 b.fits.1.0) in
    let text : reply_bytes reply ≡ spelling reply_header v = append-nil (spelling reply_header (header_value reply)) ∙ ap (λ (w : Value reply_header). spelling reply_header w) same in
    let size : place - 0 ≡ place = omega arith in
    let part : take place (reply_bytes reply) ≡ take (place - 0) (spelling reply_header v) = ap (λ (t : List ℕ). take place t) text ∙ ap (λ (n : ℕ). take n (spelling reply_header v)) (sym size) in
    record {
      reply = reply;
      fits = (subst (λ (w : Value reply_header). Fits reply_header w) (sym same) b.fits, verifier_is v, fits_none (is_success reply.stat));
      begins = subst (λ (t : List ℕ). Stands bytes 0 t place) (sym part) b.begins;
    }

pub reply_least : all_spelled → all_least → (bytes : List ℕ) (e : XdrError) → IsReplyFirstFault bytes e
unfolding reply_at
reply_least spelled least bytes e is_bytes is other = elim (reply_cases bytes (reading reply_header bytes 0) e is) [
  | inl refusal ↦ begun_reply bytes e.place (least reply_header refl refl bytes 0 e is_bytes (omega arith) refusal other)
  | inr over ↦
      let v = over.0 in
      let law = spelled reply_header refl bytes 0 v.0 v.1 is_bytes (omega arith) over.1 in
      let place : v.1 ≡ e.place = ap (λ (d : XdrError). d.place) over.2.refusal in
      let text = spelling reply_header v.0 in
      let part : take (v.1 - 0) text ≡ text = take_all (v.1 - 0) text (omega (arith, law.1.ends)) in
      subst (λ (n : ℕ). BeginsReply bytes n) place (begun_reply bytes v.1 (record { value = v.0; fits = law.0; begins = rw part law.1 }))
]
