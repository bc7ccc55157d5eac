-- A body that is ready to be written to a log.
use Rattle.std.proofs.Common.{◌≡◌, ℕ, ◌+◌, ◌-◌, ◌^◌, ◌<◌, ◌≤◌, List, [], ◌∷◌, ◌++◌, length, take, drop, refl, sym, ap, subst, ◌∙◌, arith}
use Rattle.std.proofs.lemmas.List.{append_assoc, length-append, length-drop, drop-append-le, take_at, drop_at}
use Rattle.ff_xdr.specs.Form.{word}
use Rattle.ff_xdr.proofs.Fields.{length-word}
use Rattle.gate_log.specs.Logs.{gated}
use Rattle.gate_log.specs.Bodies.{with_gates, body_in, HasGatedBody}

pub length-gated : (body : List ℕ) → length (gated body) ≡ 5 + length body
length-gated body = omega (arith, length-word (length body), length-append (word (length body)) body)

pub length-with_gates : (body : List ℕ) → length (with_gates body) ≡ 6 + length body
length-with_gates body = omega (arith, length-gated body, length-append (gated body) (0 ∷ []))

pub body_again : (bytes body : List ℕ) → bytes ≡ with_gates body → body_in bytes ≡ body
body_again bytes body is =
    let count : length bytes - 6 ≡ length body = omega (arith, ap length is, length-with_gates body) in
    let head : List ℕ = 1 ∷ word (length body) in
    let behind : drop 5 bytes ≡ body ++ 0 ∷ [] =
    ap (drop 5) (is ∙ append_assoc head body (0 ∷ [])) ∙ drop_at head (body ++ 0 ∷ []) 5 (omega (arith, length-word (length body))) in
    ap (λ (n : ℕ). take n (drop 5 bytes)) count ∙ ap (take (length body)) behind ∙ take_at body (0 ∷ []) (length body) refl

pub has_body : (bytes body : List ℕ) → bytes ≡ with_gates body → length body < 2 ^ 32 → HasGatedBody bytes
has_body bytes body is short =
    let same = body_again bytes body is in
    record { bytes_are = is ∙ ap with_gates (sym same); short = subst (λ (xs : List ℕ). length xs < 2 ^ 32) (sym same) short }

pub body_length : (bytes : List ℕ) → HasGatedBody bytes → length bytes ≡ 6 + length (body_in bytes)
body_length bytes has = ap length has.bytes_are ∙ length-with_gates (body_in bytes)

-- a head that is put over five bytes of room
pub framed_bytes : (room bytes slice : List ℕ) (n : ℕ) → 5 ≤ length room → n ≡ length room → slice ≡ room ++ 0 ∷ [] → bytes ≡ (1 ∷ word (n - 5)) ++ drop 5 slice → bytes ≡ with_gates (drop 5 room)
framed_bytes room bytes slice n long count now is =
    let body : List ℕ = drop 5 room in
    let size : n - 5 ≡ length body = omega (arith, count, length-drop 5 room) in
    let behind : drop 5 slice ≡ body ++ 0 ∷ [] = ap (drop 5) now ∙ drop-append-le 5 room (0 ∷ []) long in
    is ∙ ap (λ (k : ℕ). (1 ∷ word k) ++ drop 5 slice) size ∙ ap (λ (xs : List ℕ). (1 ∷ word (length body)) ++ xs) behind
    ∙ sym (append_assoc (1 ∷ word (length body)) body (0 ∷ []))

-- a slice that was written and given back
pub slice_back : (slice items : List ℕ) (n : ℕ) → length slice ≡ n → take n (slice ++ drop (length slice) items) ≡ slice
slice_back slice items n long = take_at slice (drop (length slice) items) n long
