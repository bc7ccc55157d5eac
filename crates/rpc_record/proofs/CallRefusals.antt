-- Calls whose header is refused.
use Rattle.std.proofs.Common.{◌≡◌, ℕ, ◌+◌, ◌≤◌, List, length, take, drop, Result, Ok, Err, refl, sym, ap, subst, ◌∙◌, arith, inl, inr}
use Rattle.std.specs.Int.{w32, from_be_bytes}
use Rattle.std.proofs.lemmas.List.{length-take, drop-take}
use Rattle.ff_xdr.specs.declared.error.XdrError.{XdrError}
use Rattle.ff_xdr.specs.declared.error.XdrWhy.TheVariants.{Short}
use Rattle.ff_xdr.specs.Form.{Value}
use Rattle.ff_xdr.specs.Laws.{behind}
use Rattle.ff_xdr.specs.Reading.{Read, reading}
use Rattle.ff_xdr.proofs.Refusals.{below, seen}
use Rattle.ff_xdr.proofs.Seen.{Seen, end_of}
use Rattle.ff_xdr.proofs.Sequences.{take_less}
use Rattle.rpc_record.specs.declared.call.CallFault.{CallFault}
use Rattle.rpc_record.specs.declared.call.CallFault.TheVariants.{Bad}
use Rattle.rpc_record.specs.Calls.{RpcCall, call_body, word_of, with_body, call_at}
use Rattle.rpc_record.specs.Laws.{HasBadHeader, IsBadJustWhere, IsCallShortAtEnd, IsCallRefusedThere}
use Rattle.rpc_record.proofs.Records.{all_short, all_stop}
use Rattle.rpc_record.proofs.CallLaws.{Kind, Cut, Other, Headless, Stranger, Ours, is_headless, is_ours, kind_of}

abbrev pub bad : ℕ → XdrError → Result RpcCall CallFault
bad xid e = Err (Bad xid e)

bad_same : (x y : ℕ) (d e : XdrError) → bad x d ≡ bad y e → (x ≡ y) × (d ≡ e)
bad_same x y d e is = (cc, cc)

abbrev failed : XdrError → Read (Value call_body)
failed e = Err e

body_bad : (x y : ℕ) (bytes : List ℕ) (r : Read (Value call_body)) (e : XdrError) → with_body x bytes r ≡ bad y e → (x ≡ y) × (r ≡ failed e)
body_bad x y bytes (Ok v) e is = absurd cc
body_bad x y bytes (Err d) e is =
    let same = bad_same x y d e is in
    (same.0, ap failed same.1)

abbrev pub IsBad : List ℕ → ℕ → XdrError → Type 0
IsBad bytes xid e = (8 ≤ length bytes) × (word_of bytes 0 ≡ xid) × (word_of bytes 4 ≡ 0) × HasBadHeader bytes e

pub bad_is : (bytes : List ℕ) (xid : ℕ) (e : XdrError) → Kind bytes → call_at bytes ≡ bad xid e → IsBad bytes xid e
bad_is bytes xid e (Cut lt is) h = absurd cc
bad_is bytes xid e (Other le ne is) h = absurd cc
bad_is bytes xid e (Headless lt d le call is) h =
    let same = bad_same (word_of bytes 0) xid (record { place = length bytes; why = Short }) e (sym (is_headless bytes le call lt) ∙ h) in
    (le, same.0, call, inl (lt, sym same.1))
bad_is bytes xid e (Stranger le call ne is) h = absurd cc
bad_is bytes xid e (Ours le call two is) h =
    let body = body_bad (word_of bytes 0) xid bytes (reading call_body bytes 12) e (sym is ∙ h) in
    (omega (arith, le), body.0, call, inr (le, two, body.1))

is_bad : (bytes : List ℕ) (xid : ℕ) (e : XdrError) → IsBad bytes xid e → call_at bytes ≡ bad xid e
is_bad bytes xid e (le, same, call, inl (lt, short)) = is_headless bytes le call lt ∙ ap (λ (d : XdrError). bad (word_of bytes 0) d) (sym short) ∙ ap (λ (n : ℕ). bad n e) same
is_bad bytes xid e (le, same, call, inr (room, two, refusal)) =
    is_ours bytes room call two ∙ ap (λ (r : Read (Value call_body)). with_body (word_of bytes 0) bytes r) refusal ∙ ap (λ (n : ℕ). bad n e) same

pub bad_call : (bytes : List ℕ) (xid : ℕ) (e : XdrError) → IsBadJustWhere bytes xid e
bad_call bytes xid e = (bad_is bytes xid e (kind_of bytes), is_bad bytes xid e)

pub call_short : all_short → (bytes : List ℕ) (xid : ℕ) (e : XdrError) → IsCallShortAtEnd bytes xid e
call_short short bytes xid e is why = by_header (bad_is bytes xid e (kind_of bytes) is).3
  where
    by_header : HasBadHeader bytes e → e.place ≡ length bytes
    by_header (inl cut) = ap (λ (d : XdrError). d.place) cut.1
    by_header (inr body) = short call_body refl 12 bytes e body.2 why

-- ---- a refusal that stands

-- a refusal that is not short is behind the first twelve bytes
behind_head : (bytes : List ℕ) (e : XdrError) (r : Read (Value call_body)) → Seen end_of 12 (λ b. reading call_body b 12) bytes r → r ≡ failed e → ¬ (e.why ≡ Short) → 12 ≤ behind e
behind_head bytes e (Ok x) s is other = absurd cc
behind_head bytes e (Err d) (inl s) is other =
    let why : e.why ≡ Short = cc in
    absurd (other why)
behind_head bytes e (Err d) (inr s) is other =
    let same : d ≡ e = cc in
    subst (λ (f : XdrError). 12 ≤ behind f) same s.from

word_same : (bytes other : List ℕ) (at : ℕ) → take (at + 4) bytes ≡ take (at + 4) other → word_of bytes at ≡ word_of other at
unfolding word_of
word_same bytes other at e = ap (λ (t : List ℕ). from_be_bytes w32 t) (sym (drop-take at 4 bytes) ∙ ap (λ (t : List ℕ). drop at t) e ∙ drop-take at 4 other)

pub call_stops : all_stop → (bytes : List ℕ) (xid : ℕ) (e : XdrError) → IsCallRefusedThere bytes xid e
call_stops stops bytes xid e other is why same = by_header parts.3
  where
    parts : IsBad bytes xid e
    parts = bad_is bytes xid e (kind_of bytes) is

    by_header : HasBadHeader bytes e → call_at other ≡ bad xid e
    by_header (inl cut) = absurd (why (ap (λ (d : XdrError). d.why) cut.1))
    by_header (inr body) =
        let far = behind_head bytes e (reading call_body bytes 12) (below call_body bytes 12 (seen call_body refl bytes 12)) body.2 why in
        let front : take 12 bytes ≡ take 12 other = take_less 12 (behind e) bytes other far same in
        let size : length (take 12 bytes) ≡ length (take 12 other) = ap (λ (t : List ℕ). length t) front in
        let room : 12 ≤ length other = omega (arith, size, body.0, length-take 12 bytes, length-take 12 other) in
        let first = word_same bytes other 0 (take_less 4 12 bytes other (omega arith) front) in
        let second = word_same bytes other 4 (take_less 8 12 bytes other (omega arith) front) in
        let third = word_same bytes other 8 front in
        is_bad other xid e (omega (arith, room), sym first ∙ parts.1, sym second ∙ parts.2, inr (room, sym third ∙ body.1, stops call_body refl 12 bytes other e body.2 why same))
