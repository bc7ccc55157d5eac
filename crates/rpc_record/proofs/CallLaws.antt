-- Calls: what was written is read back, what is read is spelled so, and which records are no calls.
use Rattle.std.proofs.Common.{◌≡◌, ◌≢◌, ℕ, ◌+◌, ◌^◌, ◌<◌, ◌≤◌, Bool, true, false, cond, eqb, ltb, List, ◌++◌, length, drop, Ok, Err, refl, sym, ap, subst, ◌∙◌, append_assoc, arith, inl, inr}
use Rattle.std.specs.Prelude.{◌⊎◌}
use Rattle.std.specs.Int.{w32}
use Rattle.std.proofs.lemmas.Bool.{le-ltb, lt-ltb, eq-eqb, ne_eqb, cases_lt, cases_eq}
use Rattle.std.proofs.lemmas.List.{length-append, drop_at}
use Rattle.std.proofs.lemmas.Nat.{from_be_bytes-to_be_bytes_4}
use Rattle.ff_xdr.specs.declared.error.XdrError.{XdrError}
use Rattle.ff_xdr.specs.declared.error.XdrWhy.TheVariants.{Short}
use Rattle.ff_xdr.specs.Form.{Form, Number32, Pair, Value, Fits, spelling, word}
use Rattle.ff_xdr.specs.Laws.{IsBytes}
use Rattle.ff_xdr.specs.Reading.{Read, number_at, reading}
use Rattle.rpc_record.specs.declared.call.CallFault.{CallFault}
use Rattle.rpc_record.specs.declared.call.CallFault.TheVariants.{NotACall, RpcVersion, Bad}
use Rattle.rpc_record.proofs.Records.{all_again, all_spelled, whole_is}
use Rattle.rpc_record.specs.Rpc.{opaque_auth_of}
use Rattle.rpc_record.specs.Calls.{RpcCall, call_body, body_value, call_bytes, word_of, with_body, body_at, with_version, call_at}
use Rattle.rpc_record.specs.Laws.{IsCallReadAgain, IsCallSpelledSo, IsNoCallJustWhere, IsOfAnotherVersionJustWhere}

-- a call with its RPC version and whatever stands before it
abbrev call_header : Form
call_header = Pair Number32 (Pair Number32 (Pair Number32 call_body))

-- ---- words

pub number_is : (bytes : List ℕ) (at : ℕ) → at + 4 ≤ length bytes → number_at w32 bytes at ≡ Ok (word_of bytes at, at + 4)
unfolding number_at word_of
number_is bytes at le =
    let room : ltb (length bytes) (at + 4) ≡ false = le-ltb _ _ le in
    rw room refl

number_short : (bytes : List ℕ) (at : ℕ) → length bytes < at + 4 → number_at w32 bytes at ≡ Err (record { place = length bytes; why = Short })
unfolding number_at
number_short bytes at lt =
    let short : ltb (length bytes) (at + 4) ≡ true = lt-ltb _ _ lt in
    rw short refl

-- ---- the tests of a call

-- what a record is, and what reading it as a call gives
pub data Kind (bytes : List ℕ) : Type 0 where
  Cut : length bytes < 8 → call_at bytes ≡ Err NotACall → Kind bytes
  Other : 8 ≤ length bytes → word_of bytes 4 ≢ 0 → call_at bytes ≡ Err NotACall → Kind bytes
  Headless : length bytes < 12 → (e : XdrError) → 8 ≤ length bytes → word_of bytes 4 ≡ 0 → call_at bytes ≡ Err (Bad (word_of bytes 0) e) → Kind bytes
  Stranger : 12 ≤ length bytes → word_of bytes 4 ≡ 0 → word_of bytes 8 ≢ 2 → call_at bytes ≡ Err (RpcVersion (word_of bytes 0)) → Kind bytes
  Ours : 12 ≤ length bytes → word_of bytes 4 ≡ 0 → word_of bytes 8 ≡ 2 → call_at bytes ≡ with_body (word_of bytes 0) bytes (reading call_body bytes 12) → Kind bytes

is_cut : (bytes : List ℕ) → length bytes < 8 → call_at bytes ≡ Err NotACall
unfolding call_at
is_cut bytes lt =
    let cut : ltb (length bytes) 8 ≡ true = lt-ltb _ _ lt in
    rw cut refl

is_other : (bytes : List ℕ) → 8 ≤ length bytes → word_of bytes 4 ≢ 0 → call_at bytes ≡ Err NotACall
unfolding call_at
is_other bytes le ne =
    let room : ltb (length bytes) 8 ≡ false = le-ltb _ _ le in
    let other : eqb (word_of bytes 4) 0 ≡ false = ne_eqb _ _ ne in
    rw (room, other) refl

is_call : (bytes : List ℕ) → 8 ≤ length bytes → word_of bytes 4 ≡ 0 → call_at bytes ≡ with_version (word_of bytes 0) bytes (number_at w32 bytes 8)
unfolding call_at
is_call bytes le e =
    let room : ltb (length bytes) 8 ≡ false = le-ltb _ _ le in
    let call : eqb (word_of bytes 4) 0 ≡ true = eq-eqb _ _ e in
    rw (room, call) refl

pub is_headless : (bytes : List ℕ) → 8 ≤ length bytes → word_of bytes 4 ≡ 0 → length bytes < 12 → call_at bytes ≡ Err (Bad (word_of bytes 0) (record { place = length bytes; why = Short }))
is_headless bytes le e lt =
    let short = number_short bytes 8 lt in
    is_call bytes le e ∙ ap (λ (r : Read ℕ). with_version (word_of bytes 0) bytes r) short

is_versioned : (bytes : List ℕ) → 12 ≤ length bytes → word_of bytes 4 ≡ 0 → call_at bytes ≡ with_version (word_of bytes 0) bytes (Ok (word_of bytes 8, 12))
is_versioned bytes le e = is_call bytes (omega arith) e ∙ ap (λ (r : Read ℕ). with_version (word_of bytes 0) bytes r) (number_is bytes 8 le)

is_stranger : (bytes : List ℕ) → 12 ≤ length bytes → word_of bytes 4 ≡ 0 → word_of bytes 8 ≢ 2 → call_at bytes ≡ Err (RpcVersion (word_of bytes 0))
is_stranger bytes le e ne =
    let other : eqb (word_of bytes 8) 2 ≡ false = ne_eqb _ _ ne in
    is_versioned bytes le e ∙ ap (λ (b : Bool). cond b (body_at (word_of bytes 0) bytes 12) (Err (RpcVersion (word_of bytes 0)))) other

pub is_ours : (bytes : List ℕ) → 12 ≤ length bytes → word_of bytes 4 ≡ 0 → word_of bytes 8 ≡ 2 → call_at bytes ≡ with_body (word_of bytes 0) bytes (reading call_body bytes 12)
unfolding body_at
is_ours bytes le e two =
    let same : eqb (word_of bytes 8) 2 ≡ true = eq-eqb _ _ two in
    is_versioned bytes le e ∙ ap (λ (b : Bool). cond b (body_at (word_of bytes 0) bytes 12) (Err (RpcVersion (word_of bytes 0)))) same

pub kind_of : (bytes : List ℕ) → Kind bytes
kind_of bytes =
    elim (cases_lt (length bytes) 8) [
      | inl cut ↦ Cut cut (is_cut bytes cut)
      | inr le ↦
          elim (cases_eq (word_of bytes 4) 0) [
            | inr other ↦ Other le other (is_other bytes le other)
            | inl call ↦
                elim (cases_lt (length bytes) 12) [
                  | inl short ↦ Headless short (record { place = length bytes; why = Short }) le call (is_headless bytes le call short)
                  | inr room ↦
                      elim (cases_eq (word_of bytes 8) 2) [
                        | inl two ↦ Ours room call two (is_ours bytes room call two)
                        | inr ne ↦ Stranger room call ne (is_stranger bytes room call ne)
                      ]
                ]
          ]
    ]

-- a body that is refused is a call with a fault in it
body_err : (xid : ℕ) (bytes : List ℕ) (r : Read (Value call_body)) (fault : CallFault) → with_body xid bytes r ≡ Err fault → (e : XdrError) × (fault ≡ Bad xid e)
body_err xid bytes (Ok x) fault e = absurd cc
body_err xid bytes (Err d) fault e = (d, cc)

abbrev done : Value call_body × ℕ → Read (Value call_body)
done x = Ok x

body_ok : (xid : ℕ) (bytes : List ℕ) (r : Read (Value call_body)) (c : RpcCall) → with_body xid bytes r ≡ Ok c → (to : ℕ) × (r ≡ Ok (body_value c, to)) × (c.xid ≡ xid) × (c.args ≡ drop to bytes)
body_ok xid bytes (Ok x) c e =
    let same : record { xid = xid; program = x.0.0; version = x.0.1.0; procedure = x.0.1.1.0; cred = opaque_auth_of x.0.1.1.1.0; verf = opaque_auth_of x.0.1.1.1.1; args = drop x.1 bytes } ≡ c = cc in
    subst (λ (d : RpcCall). (to : ℕ) × (done x ≡ done (body_value d, to)) × (d.xid ≡ xid) × (d.args ≡ drop to bytes)) same (x.1, refl, refl, refl)
body_ok xid bytes (Err d) c e = absurd cc

-- ---- records that are refused

no_call_is : (bytes : List ℕ) → Kind bytes → call_at bytes ≡ Err NotACall → (length bytes < 8) ⊎ (word_of bytes 4 ≢ 0)
no_call_is bytes (Cut lt is) e = inl lt
no_call_is bytes (Other le ne is) e = inr ne
no_call_is bytes (Headless lt d le call is) e = absurd cc
no_call_is bytes (Stranger le call ne is) e = absurd cc
no_call_is bytes (Ours le call two is) e =
    let bad = body_err (word_of bytes 0) bytes (reading call_body bytes 12) NotACall (sym is ∙ e) in
    absurd (cc bad.1)

pub no_call : (bytes : List ℕ) → IsNoCallJustWhere bytes
no_call bytes = (
  no_call_is bytes (kind_of bytes),
  λ h. elim h [
    | inl lt ↦ is_cut bytes lt
    | inr ne ↦
        elim (cases_lt (length bytes) 8) [
          | inl lt ↦ is_cut bytes lt
          | inr le ↦ is_other bytes le ne
        ]
  ],
)

another_version_is : (bytes : List ℕ) (xid : ℕ) → Kind bytes → call_at bytes ≡ Err (RpcVersion xid) → (12 ≤ length bytes) × (word_of bytes 0 ≡ xid) × (word_of bytes 4 ≡ 0) × (word_of bytes 8 ≢ 2)
another_version_is bytes xid (Cut lt is) e = absurd cc
another_version_is bytes xid (Other le ne is) e = absurd cc
another_version_is bytes xid (Headless lt d le call is) e = absurd cc
another_version_is bytes xid (Stranger le call ne is) e = (le, cc, call, ne)
another_version_is bytes xid (Ours le call two is) e =
    let bad = body_err (word_of bytes 0) bytes (reading call_body bytes 12) (RpcVersion xid) (sym is ∙ e) in
    absurd (cc bad.1)

pub another_version : (bytes : List ℕ) (xid : ℕ) → IsOfAnotherVersionJustWhere bytes xid
another_version bytes xid = (
  another_version_is bytes xid (kind_of bytes),
  λ h. is_stranger bytes h.0 h.2 h.3 ∙ ap (λ (n : ℕ). Err (RpcVersion n)) h.1,
)

-- ---- what was written

written_kind : (xid : ℕ) (rest : List ℕ) → xid < 2 ^ 32 → let bytes = (word xid ++ (word 0 ++ word 2)) ++ rest in (12 ≤ length bytes) × (word_of bytes 0 ≡ xid) × (word_of bytes 4 ≡ 0) × (word_of bytes 8 ≡ 2)
unfolding word word_of
written_kind xid rest lt = (omega arith, from_be_bytes-to_be_bytes_4 xid lt, refl, refl)

pub length_front : (xid : ℕ) → length (word xid ++ (word 0 ++ word 2)) ≡ 12
unfolding word
length_front xid = refl

pub call_again : all_again → (c : RpcCall) → IsCallReadAgain c
call_again again c lt fits =
    let front = word c.xid ++ (word 0 ++ word 2) in
    let text = spelling call_body (body_value c) in
    let kind = written_kind c.xid (text ++ c.args) lt in
    let assoc : front ++ text ++ c.args ≡ call_bytes c = append_assoc front text c.args in
    let len = length_front c.xid in
    let read : reading call_body (front ++ text ++ c.args) 12 ≡ Ok (body_value c, 12 + length text) = subst (λ (n : ℕ). reading call_body (front ++ text ++ c.args) n ≡ Ok (body_value c, n + length text)) len (again call_body refl (body_value c) front c.args fits) in
    let there : reading call_body (call_bytes c) 12 ≡ Ok (body_value c, 12 + length text) = subst (λ (b : List ℕ). reading call_body b 12 ≡ Ok (body_value c, 12 + length text)) assoc read in
    let left : drop (12 + length text) (call_bytes c) ≡ c.args = subst (λ (b : List ℕ). drop (12 + length text) b ≡ c.args) assoc (drop_at (front ++ text) c.args (12 + length text) (omega (arith, length-append front text, len))) in
    is_ours (call_bytes c) kind.0 kind.2 kind.3 ∙ ap (λ (r : Read (Value call_body)). with_body (word_of (call_bytes c) 0) (call_bytes c) r) there ∙ ap (λ (n : ℕ). with_body n (call_bytes c) (Ok (body_value c, 12 + length text))) kind.1 ∙ ap (λ (l : List ℕ). Ok (record c { args = l })) left

-- ---- what is read

header_is : (bytes : List ℕ) (v : Value call_body) (to : ℕ) → 12 ≤ length bytes → word_of bytes 4 ≡ 0 → word_of bytes 8 ≡ 2 → reading call_body bytes 12 ≡ Ok (v, to) → reading call_header bytes 0 ≡ Ok ((word_of bytes 0, (0, (2, v))), to)
header_is bytes v to le zero two read =
    let first = number_is bytes 0 (omega arith) in
    let second = number_is bytes 4 (omega arith) in
    let third = number_is bytes 8 (omega arith) in
    rw (first, second, third, read, zero, two) refl

regroup : (a b c d e : List ℕ) → (a ++ (b ++ (c ++ d))) ++ e ≡ (a ++ (b ++ c)) ++ (d ++ e)
regroup a b c d e = simp append_assoc

ours_spelled : all_spelled → (bytes : List ℕ) (c : RpcCall) → IsBytes bytes → 12 ≤ length bytes → word_of bytes 4 ≡ 0 → word_of bytes 8 ≡ 2 → with_body (word_of bytes 0) bytes (reading call_body bytes 12) ≡ Ok c → (bytes ≡ call_bytes c) × (c.xid < 2 ^ 32) × Fits call_body (body_value c)
ours_spelled spelled bytes c is_bytes le zero two e =
    let b = body_ok (word_of bytes 0) bytes (reading call_body bytes 12) c e in
    let read = header_is bytes (body_value c) b.0 le zero two b.1 in
    let law = spelled call_header refl bytes 0 (word_of bytes 0, (0, (2, body_value c))) b.0 is_bytes (omega arith) read in
    let text = spelling call_body (body_value c) in
    let whole = whole_is bytes (word (word_of bytes 0) ++ (word 0 ++ (word 2 ++ text))) b.0 law.1 in
    let named : bytes ≡ (word c.xid ++ (word 0 ++ (word 2 ++ text))) ++ c.args = rw (b.2, b.3) whole in
    (named ∙ regroup (word c.xid) (word 0) (word 2) text c.args, rw b.2 law.0.0, law.0.1.1.1)

call_spelled_of : all_spelled → (bytes : List ℕ) (c : RpcCall) → Kind bytes → IsCallSpelledSo bytes c
call_spelled_of spelled bytes c (Cut lt is) is_bytes e = absurd cc
call_spelled_of spelled bytes c (Other le ne is) is_bytes e = absurd cc
call_spelled_of spelled bytes c (Headless lt d le call is) is_bytes e = absurd cc
call_spelled_of spelled bytes c (Stranger le call ne is) is_bytes e = absurd cc
call_spelled_of spelled bytes c (Ours le call two is) is_bytes e = ours_spelled spelled bytes c is_bytes le call two (sym is ∙ e)

pub call_spelled : all_spelled → (bytes : List ℕ) (c : RpcCall) → IsCallSpelledSo bytes c
call_spelled spelled bytes c = call_spelled_of spelled bytes c (kind_of bytes)
