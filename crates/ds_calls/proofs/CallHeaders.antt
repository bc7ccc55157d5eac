-- The credential's body, which is written in place.
use Rattle.std.proofs.Common.{◌≡◌, ℕ, ◌+◌, ◌%◌, List, ◌++◌, length, refl, sym, ap, ◌∙◌, arith, append-nil, append_assoc, length-append}
use Rattle.std.specs.Int.{next_multiple_of}
use Rattle.ff_xdr.specs.Form.{word, padded, pad_len}
use Rattle.ff_xdr.proofs.Fields.{length-word}
use Rattle.ff_xdr.proofs.StoppedText.{length-padded}
use Rattle.ds_calls.specs.MadeCalls.{credential_body}

pad_of : (n : ℕ) → n + pad_len n ≡ next_multiple_of n 4
unfolding pad_len
pad_of n = refl

pub body_length : (machine : List ℕ) (user : ℕ) → length (credential_body machine user) ≡ 20 + next_multiple_of (length machine) 4
body_length machine user =
    simp (length-append, length-word, length-padded) (omega (arith, pad_of (length machine)))

-- a multiple of four needs no padding
padded_whole : (bytes : List ℕ) → length bytes % 4 ≡ 0 → padded bytes ≡ bytes
unfolding padded pad_len
padded_whole bytes h = rw h (append-nil bytes)

pub body_padded : (machine : List ℕ) (user : ℕ) → padded (credential_body machine user) ≡ credential_body machine user
body_padded machine user = padded_whole (credential_body machine user) (rw (body_length machine user) (omega arith))

-- a flavor, the length of a body, and the body, one after the other
pub in_place : (old first second new body : List ℕ) (size : ℕ) → padded body ≡ body → size ≡ length body → first ≡ old ++ word 1 → second ≡ first ++ word size
    → new ≡ second ++ body → new ≡ old ++ (word 1 ++ (word (length body) ++ padded body))
in_place old first second new body size whole long one two three =
    three ∙ ap (λ (xs : List ℕ). xs ++ body) (two ∙ ap (λ (xs : List ℕ). xs ++ word size) one) ∙ append_assoc (old ++ word 1) (word size) body
    ∙ append_assoc old (word 1) (word size ++ body) ∙ ap (λ (n : ℕ). old ++ (word 1 ++ (word n ++ body))) long
    ∙ ap (λ (xs : List ℕ). old ++ (word 1 ++ (word (length body) ++ xs))) (sym whole)
