-- A tag that was read is no longer than its form lets it be.
use Rattle.std.proofs.Common.{◌≡◌, ℕ, ◌+◌, ◌≤◌, cond, List, length, take, drop, ltb, Ok, Err, subst, arith}
use Rattle.std.proofs.lemmas.Bool.{ltb-false}
use Rattle.std.proofs.lemmas.List.{length-take}
use Rattle.std.specs.Int.{w32}
use Rattle.std.specs.Str.Lossy.{utf8_valid_len}
use Rattle.ff_xdr.specs.declared.error.XdrWhy.TheVariants.{Short, TooLong, NotUtf8}
use Rattle.ff_xdr.specs.Form.{Form, Number32, Pair, Value, pad_len}
use Rattle.ff_xdr.specs.Reading.{◌>>=◌, number_at, padding_at, fixed_at, length_at, text_at, may_begin_text, reading}
use Rattle.ff_xdr.proofs.Places.{bind_ok, guard_ok, passed, ok_is}
use Rattle.nfs4_compound.specs.Compounds.{CompoundValue, compound_head, compound_of, compound_at}

length_within : (max : ℕ) (bytes : List ℕ) (at : ℕ) (n : ℕ × ℕ) → length_at max bytes at ≡ Ok n → n.0 ≤ max
unfolding length_at
length_within max bytes at n e =
    let a = bind_ok (number_at w32 bytes at) (λ k. cond (ltb max k.0) (Err (record { place = at; why = TooLong })) (Ok k)) n e in
    let g = guard_ok (ltb max a.0.0) (record { place = at; why = TooLong }) (Ok a.0) n a.2 in
    subst (λ (p : ℕ × ℕ). p.0 ≤ max) (ok_is a.0 n g.1) (ltb-false _ _ g.0)

fixed_within : (n : ℕ) (bytes : List ℕ) (at : ℕ) (text : List ℕ × ℕ) → fixed_at n bytes at ≡ Ok text → length text.0 ≤ n
unfolding fixed_at
fixed_within n bytes at text e =
    let g = guard_ok (ltb (length bytes) (at + n)) (record { place = length bytes; why = Short }) (padding_at (pad_len n) bytes (at + n) >>= λ to. Ok (take n (drop at bytes), to)) text e in
    let b = bind_ok (padding_at (pad_len n) bytes (at + n)) (λ to. Ok (take n (drop at bytes), to)) text g.1 in
    subst (λ (p : List ℕ × ℕ). length p.0 ≤ n) (ok_is (take n (drop at bytes), b.0) text b.2) (omega (arith, length-take n (drop at bytes)))

text_within : (max : ℕ) (bytes : List ℕ) (at : ℕ) (text : List ℕ × ℕ) → text_at max bytes at ≡ Ok text → length text.0 ≤ max
unfolding text_at
text_within max bytes at text e =
    let a = bind_ok (length_at max bytes at) (λ n. cond (may_begin_text n.0 (take n.0 (drop n.1 bytes))) (fixed_at n.0 bytes n.1) (Err (record { place = n.1 + utf8_valid_len (take n.0 (drop n.1 bytes)); why = NotUtf8 }))) text e in
    let p = passed (may_begin_text a.0.0 (take a.0.0 (drop a.0.1 bytes))) (record { place = a.0.1 + utf8_valid_len (take a.0.0 (drop a.0.1 bytes)); why = NotUtf8 }) (fixed_at a.0.0 bytes a.0.1) text a.2 in
    omega (arith, length_within max bytes at a.0 a.1, fixed_within a.0.0 bytes a.0.1 text p.1)

abbrev behind_tag : Form
behind_tag = Pair Number32 Number32

head_within : (args : List ℕ) (head : Value compound_head × ℕ) → reading compound_head args 0 ≡ Ok head → length head.0.0 ≤ 1024
head_within args head e =
    let a = bind_ok (text_at 1024 args 0) (λ tag. reading behind_tag args tag.1 >>= λ b. Ok ((tag.0, b.0), b.1)) head e in
    let b = bind_ok (reading behind_tag args a.0.1) (λ b. Ok ((a.0.0, b.0), b.1)) head a.2 in
    subst (λ (p : Value compound_head × ℕ). length p.0.0 ≤ 1024) (ok_is ((a.0.0, b.0.0), b.0.1) head b.2) (text_within 1024 args 0 a.0 a.1)

pub tag_within : (args : List ℕ) (c : CompoundValue) → compound_at args ≡ Ok c → length c.tag ≤ 1024
tag_within args c e =
    let h = bind_ok (reading compound_head args 0) (λ head. Ok (compound_of args head)) c e in
    subst (λ (d : CompoundValue). length d.tag ≤ 1024) (ok_is (compound_of args h.0) c h.2) (head_within args h.0 h.1)
