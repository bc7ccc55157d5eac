-- How many bytes a reading depends on.
use Rattle.std.proofs.Common.{◌≡◌, ℕ, zero, suc, ◌+◌, ◌≤◌, ◌<◌, Bool, true, false, cond, eqb, ltb, List, length, get_or, take, drop, Result, Ok, Err, refl, sym, ap, subst, ◌∙◌, arith, inl, inr}
use Rattle.std.specs.Prelude.{◌⊎◌}
use Rattle.std.specs.Int.{Width, w32, w64, byte_len, from_be_bytes, cast_signed}
use Rattle.std.specs.Str.Lossy.{utf8_valid_len}
use Rattle.std.proofs.lemmas.Bool.{ltb-false, ltb-true, le-ltb, lt-ltb, cases_lt}
use Rattle.std.proofs.lemmas.List.{length-take, take-take, drop-take, get_or-take}
use Rattle.ff_xdr.specs.declared.error.XdrError.{XdrError}
use Rattle.ff_xdr.specs.declared.error.XdrWhy.TheVariants.{Short, Pad, NotBool, TooLong, NotUtf8}
use Rattle.ff_xdr.specs.Form.{pad_len}
use Rattle.ff_xdr.specs.Laws.{behind}
use Rattle.ff_xdr.specs.Reading.{Read, ◌>>=◌, number_at, hyper_at, padding_at, fixed_at, length_at, opaque_at, flag_at, text_at, may_begin_text, refused}
use Rattle.ff_xdr.proofs.Places.{bind_is, guard_ok, ok_is}
use Rattle.ff_xdr.proofs.Sequences.{take_less, same_fault}

-- a value was read, and no byte behind its end was seen
pub record Took {A : Type 0} (end : A → ℕ) (low : ℕ) (read : List ℕ → Result A XdrError) (bytes : List ℕ) (x : A) : Type 0 where
  pub from : low ≤ end x
  pub same : (more : List ℕ) → take (end x) bytes ≡ take (end x) more → read more ≡ Ok x

-- it was refused, and no byte behind the refused item was seen
pub record Refused {A : Type 0} (low : ℕ) (read : List ℕ → Result A XdrError) (bytes : List ℕ) (e : XdrError) : Type 0 where
  pub other : ¬ (e.why ≡ Short)
  pub from : low ≤ behind e
  pub same : (more : List ℕ) → take (behind e) bytes ≡ take (behind e) more → read more ≡ Err e

-- What was read ends no earlier than at `low`, and was seen up to its end; or the bytes end.
abbrev pub Seen : {A : Type 0} → (A → ℕ) → ℕ → (List ℕ → Result A XdrError) → List ℕ → Result A XdrError → Type 0
Seen end low read bytes (Ok x) = Took end low read bytes x
Seen end low read bytes (Err e) = ((e.why ≡ Short) × (e.place ≡ length bytes)) ⊎ Refused low read bytes e

abbrev pub end_of : {M : Type 0} → M × ℕ → ℕ
end_of x = x.1

abbrev pub itself : ℕ → ℕ
itself n = n

-- ---- steps

pub seen_from : {A : Type 0} (end : A → ℕ) (low high : ℕ) (read : List ℕ → Result A XdrError) (bytes : List ℕ) (r : Result A XdrError) → low ≤ high → Seen end high read bytes r → Seen end low read bytes r
seen_from end low high read bytes (Ok x) le s = record { from = omega (arith, s.from); same = s.same }
seen_from end low high read bytes (Err e) le (inl s) = inl s
seen_from end low high read bytes (Err e) le (inr s) = inr (record { other = s.other; from = omega (arith, s.from); same = s.same })

as_read : {A : Type 0} (end : A → ℕ) (low : ℕ) (read again : List ℕ → Result A XdrError) (bytes : List ℕ) (r : Result A XdrError) → ((b : List ℕ) → again b ≡ read b) → Seen end low read bytes r → Seen end low again bytes r
as_read end low read again bytes (Ok x) e s = record { from = s.from; same = λ more k. e more ∙ s.same more k }
as_read end low read again bytes (Err d) e (inl s) = inl s
as_read end low read again bytes (Err d) e (inr s) = inr (record { other = s.other; from = s.from; same = λ more k. e more ∙ s.same more k })

-- the same of a reading that is written otherwise
pub seen_same : {A : Type 0} (end : A → ℕ) (low : ℕ) (read again : List ℕ → Result A XdrError) (bytes : List ℕ) → ((b : List ℕ) → again b ≡ read b) → Seen end low read bytes (read bytes) → Seen end low again bytes (again bytes)
seen_same end low read again bytes e s = subst (λ (r : Result _ XdrError). Seen end low again bytes r) (sym (e bytes)) (as_read end low read again bytes (read bytes) e s)

pub seen_value : {A : Type 0} (end : A → ℕ) (low : ℕ) (bytes : List ℕ) (x : A) → low ≤ end x → Seen end low (λ b. Ok x) bytes (Ok x)
seen_value end low bytes x le = record { from = le; same = λ more k. refl }

pub seen_refusal : {A : Type 0} (end : A → ℕ) (low : ℕ) (bytes : List ℕ) (e : XdrError) → ¬ (e.why ≡ Short) → low ≤ behind e → Seen end low (λ b. Err e) bytes (Err e)
seen_refusal end low bytes e other le = inr (record { other = other; from = le; same = λ more k. refl })

pub seen_test : {A : Type 0} (end : A → ℕ) (low : ℕ) (t : Bool) (holds fails : List ℕ → Result A XdrError) (bytes : List ℕ) → Seen end low holds bytes (holds bytes) → Seen end low fails bytes (fails bytes)
    → Seen end low (λ b. cond t (holds b) (fails b)) bytes (cond t (holds bytes) (fails bytes))
seen_test end low true holds fails bytes p q = p
seen_test end low false holds fails bytes p q = q

module _ {A B : Type 0} (first_end : A → ℕ) (end : B → ℕ) (low : ℕ) (first : List ℕ → Result A XdrError) (next : A → List ℕ → Result B XdrError) (bytes : List ℕ) where
  abbrev both : List ℕ → Result B XdrError
  both b = first b >>= λ x. next x b

  after : (x : A) → Took first_end low first bytes x → (r : Result B XdrError) → Seen end (first_end x) (next x) bytes r → Seen end low both bytes r
  after x took (Ok y) s =
      record {
        from = omega (arith, took.from, s.from);
        same = λ more k. bind_is (first more) (λ z. next z more) x (took.same more (take_less _ _ bytes more s.from k)) ∙ s.same more k;
      }
  after x took (Err e) (inl s) = inl s
  after x took (Err e) (inr s) =
      inr (record {
        other = s.other;
        from = omega (arith, took.from, s.from);
        same = λ more k. bind_is (first more) (λ z. next z more) x (took.same more (take_less _ _ bytes more s.from k)) ∙ s.same more k;
      })

  by_first : (r : Result A XdrError) → Seen first_end low first bytes r → ((x : A) → r ≡ Ok x → Seen end (first_end x) (next x) bytes (next x bytes)) → Seen end low both bytes (r >>= λ x. next x bytes)
  by_first (Ok x) s h = after x s (next x bytes) (h x refl)
  by_first (Err e) (inl s) h = inl s
  by_first (Err e) (inr s) h = inr (record { other = s.other; from = s.from; same = λ more k. ap (λ (r : Result A XdrError). r >>= λ z. next z more) (s.same more k) })

  -- one step and another
  pub seen_bind : Seen first_end low first bytes (first bytes) → ((x : A) → first bytes ≡ Ok x → Seen end (first_end x) (next x) bytes (next x bytes)) → Seen end low both bytes (both bytes)
  seen_bind s h = by_first (first bytes) s h

-- ---- numbers and bytes

-- n bytes, or the end of the bytes
abbrev part_at : ℕ → List ℕ → ℕ → Read (List ℕ)
part_at n bytes at = cond (ltb (length bytes) (at + n)) (refused (length bytes) Short) (Ok (take n (drop at bytes), at + n))

same_part : (n : ℕ) (bytes more : List ℕ) (at : ℕ) → at + n ≤ length bytes → take (at + n) bytes ≡ take (at + n) more → (at + n ≤ length more) × (take n (drop at more) ≡ take n (drop at bytes))
same_part n bytes more at room e =
    let len : length (take (at + n) bytes) ≡ length (take (at + n) more) = ap (λ (t : List ℕ). length t) e in
    (omega (arith, len, room, length-take (at + n) bytes, length-take (at + n) more), sym (drop-take at n more) ∙ ap (λ (t : List ℕ). drop at t) (sym e) ∙ drop-take at n bytes)

part_by : (n : ℕ) (bytes : List ℕ) (at : ℕ) (t : Bool) → ltb (length bytes) (at + n) ≡ t
    → Seen end_of (at + n) (λ b. part_at n b at) bytes (cond t (refused (length bytes) Short) (Ok (take n (drop at bytes), at + n)))
part_by n bytes at true e = inl (refl, refl)
part_by n bytes at false e =
    record {
      from = omega arith;
      same = λ more k.
          let same = same_part n bytes more at (ltb-false _ _ e) k in
          let room : ltb (length more) (at + n) ≡ false = le-ltb _ _ same.0 in
          rw (room, same.1) refl;
    }

seen_part : (n : ℕ) (bytes : List ℕ) (at : ℕ) → Seen end_of (at + n) (λ b. part_at n b at) bytes (part_at n bytes at)
seen_part n bytes at = part_by n bytes at (ltb (length bytes) (at + n)) refl

number_of_part : (w : Width) (b : List ℕ) (at : ℕ) → number_at w b at ≡ (part_at (byte_len w) b at >>= λ x. Ok (from_be_bytes w x.0, x.1))
unfolding number_at
number_of_part w b at = by_case (ltb (length b) (at + byte_len w))
  where
    by_case : (t : Bool) → cond t (refused (length b) Short) (Ok (from_be_bytes w (take (byte_len w) (drop at b)), at + byte_len w))
        ≡ (cond t (refused (length b) Short) (Ok (take (byte_len w) (drop at b), at + byte_len w)) >>= λ x. Ok (from_be_bytes w x.0, x.1))
    by_case true = refl
    by_case false = refl

pub seen_number : (w : Width) (bytes : List ℕ) (at : ℕ) → Seen end_of (at + byte_len w) (λ b. number_at w b at) bytes (number_at w bytes at)
seen_number w bytes at =
    seen_same end_of (at + byte_len w) (λ b. part_at (byte_len w) b at >>= λ x. Ok (from_be_bytes w x.0, x.1)) (λ b. number_at w b at) bytes (λ b. number_of_part w b at)
    (seen_bind end_of end_of (at + byte_len w) (λ b. part_at (byte_len w) b at) (λ x b. Ok (from_be_bytes w x.0, x.1)) bytes (seen_part (byte_len w) bytes at)
    (λ x e. seen_value end_of x.1 bytes (from_be_bytes w x.0, x.1) (omega arith)))

-- ---- padding

abbrev zero_at : List ℕ → ℕ → Result ℕ XdrError
zero_at bytes at = cond (ltb at (length bytes)) (cond (eqb (get_or bytes at 0) 0) (Ok (at + 1)) (Err (record { place = at; why = Pad }))) (Err (record { place = length bytes; why = Short }))

padding_by_zeros : (n : ℕ) (b : List ℕ) (at : ℕ) → padding_at (suc n) b at ≡ (zero_at b at >>= λ p. padding_at n b p)
padding_by_zeros n b at = by_case (ltb at (length b)) (eqb (get_or b at 0) 0)
  where
    by_case : (t u : Bool) → cond t (cond u (padding_at n b (at + 1)) (Err (record { place = at; why = Pad }))) (Err (record { place = length b; why = Short }))
        ≡ (cond t (cond u (Ok (at + 1)) (Err (record { place = at; why = Pad }))) (Err (record { place = length b; why = Short })) >>= λ p. padding_at n b p)
    by_case true true = refl
    by_case true false = refl
    by_case false u = refl

pub same_byte : (bytes more : List ℕ) (at : ℕ) → at < length bytes → take (at + 1) bytes ≡ take (at + 1) more → (at < length more) × (get_or more at 0 ≡ get_or bytes at 0)
same_byte bytes more at lt e =
    let len : length (take (at + 1) bytes) ≡ length (take (at + 1) more) = ap (λ (t : List ℕ). length t) e in (
      omega (arith, len, lt, length-take (at + 1) bytes, length-take (at + 1) more),
      sym (get_or-take (at + 1) more at 0 (omega arith)) ∙ ap (λ (t : List ℕ). get_or t at 0) (sym e) ∙ get_or-take (at + 1) bytes at 0 (omega arith),
    )

zero_by : (bytes : List ℕ) (at : ℕ) (t u : Bool) → ltb at (length bytes) ≡ t → eqb (get_or bytes at 0) 0 ≡ u
    → Seen itself at (λ b. zero_at b at) bytes (cond t (cond u (Ok (at + 1)) (Err (record { place = at; why = Pad }))) (Err (record { place = length bytes; why = Short })))
zero_by bytes at true true within e =
    record {
      from = omega arith;
      same = λ more k.
          let same = same_byte bytes more at (ltb-true _ _ within) k in
          let room : ltb at (length more) ≡ true = lt-ltb _ _ same.0 in
          rw (room, same.1, e) refl;
    }
zero_by bytes at true false within e =
    inr (record {
      other = λ is. cc;
      from = omega arith;
      same = λ more k.
          let same = same_byte bytes more at (ltb-true _ _ within) k in
          let room : ltb at (length more) ≡ true = lt-ltb _ _ same.0 in
          rw (room, same.1, e) refl;
    })
zero_by bytes at false u within e = inl (refl, refl)

pub seen_padding : (n : ℕ) (bytes : List ℕ) (at : ℕ) → Seen itself at (λ b. padding_at n b at) bytes (padding_at n bytes at)
seen_padding zero bytes at = seen_value itself at bytes at (omega arith)
seen_padding (suc n) bytes at =
    seen_same itself at (λ b. zero_at b at >>= λ p. padding_at n b p) (λ b. padding_at (suc n) b at) bytes (λ b. padding_by_zeros n b at)
    (seen_bind itself itself at (λ b. zero_at b at) (λ p b. padding_at n b p) bytes (zero_by bytes at (ltb at (length bytes)) (eqb (get_or bytes at 0) 0) refl refl) (λ p e. seen_padding n bytes p))

fixed_by_parts : (n : ℕ) (b : List ℕ) (at : ℕ) → fixed_at n b at ≡ (part_at n b at >>= λ x. padding_at (pad_len n) b x.1 >>= λ to. Ok (x.0, to))
unfolding fixed_at
fixed_by_parts n b at = by_case (ltb (length b) (at + n))
  where
    by_case : (t : Bool) → cond t (refused (length b) Short) (padding_at (pad_len n) b (at + n) >>= λ to. Ok (take n (drop at b), to))
        ≡ (cond t (refused (length b) Short) (Ok (take n (drop at b), at + n)) >>= λ x. padding_at (pad_len n) b x.1 >>= λ to. Ok (x.0, to))
    by_case true = refl
    by_case false = refl

pub seen_fixed : (n : ℕ) (bytes : List ℕ) (at : ℕ) → Seen end_of (at + n) (λ b. fixed_at n b at) bytes (fixed_at n bytes at)
seen_fixed n bytes at =
    seen_same end_of (at + n) (λ b. part_at n b at >>= λ x. padding_at (pad_len n) b x.1 >>= λ to. Ok (x.0, to)) (λ b. fixed_at n b at) bytes (λ b. fixed_by_parts n b at)
    (seen_bind end_of end_of (at + n) (λ b. part_at n b at) (λ x b. padding_at (pad_len n) b x.1 >>= λ to. Ok (x.0, to)) bytes (seen_part n bytes at)
    (λ x e. seen_bind itself end_of x.1 (λ b. padding_at (pad_len n) b x.1) (λ to b. Ok (x.0, to)) bytes (seen_padding (pad_len n) bytes x.1)
    (λ to e. seen_value end_of to bytes (x.0, to) (omega arith))))

pub seen_hyper : (bytes : List ℕ) (at : ℕ) → Seen end_of (at + 4) (λ b. hyper_at b at) bytes (hyper_at bytes at)
unfolding hyper_at
seen_hyper bytes at =
    seen_from end_of (at + 4) (at + 8) (λ b. hyper_at b at) bytes (hyper_at bytes at) (omega arith)
    (seen_bind end_of end_of (at + 8) (λ b. number_at w64 b at) (λ n b. Ok (cast_signed w64 n.0, n.1)) bytes (seen_number w64 bytes at)
    (λ n e. seen_value end_of n.1 bytes (cast_signed w64 n.0, n.1) (omega arith)))

-- ---- lengths, opaque bytes, flags and texts

-- a number ends behind its bytes
number_ends : (w : Width) (bytes : List ℕ) (at : ℕ) (x : ℕ × ℕ) → number_at w bytes at ≡ Ok x → x.1 ≡ at + byte_len w
unfolding number_at
number_ends w bytes at x e =
    let g = guard_ok (ltb (length bytes) (at + byte_len w)) (record { place = length bytes; why = Short }) (Ok (from_be_bytes w (take (byte_len w) (drop at bytes)), at + byte_len w)) x e in
    sym (ap (λ (p : ℕ × ℕ). p.1) (ok_is (from_be_bytes w (take (byte_len w) (drop at bytes)), at + byte_len w) x g.1))

pub word_ends : (bytes : List ℕ) (at : ℕ) (x : ℕ × ℕ) → number_at w32 bytes at ≡ Ok x → x.1 ≡ at + 4
word_ends bytes at x e = number_ends w32 bytes at x e

pub seen_length : (max : ℕ) (bytes : List ℕ) (at : ℕ) → Seen end_of (at + 4) (λ b. length_at max b at) bytes (length_at max bytes at)
unfolding length_at
seen_length max bytes at =
    seen_bind end_of end_of (at + 4) (λ b. number_at w32 b at) (λ n b. cond (ltb max n.0) (refused at TooLong) (Ok n)) bytes (seen_number w32 bytes at)
    (λ n e. seen_test end_of n.1 (ltb max n.0) (λ b. refused at TooLong) (λ b. Ok n) bytes
    (seen_refusal end_of n.1 bytes (record { place = at; why = TooLong }) (λ is. cc) (omega (arith, word_ends bytes at n e)))
    (seen_value end_of n.1 bytes n (omega arith)))

pub seen_opaque : (max : ℕ) (bytes : List ℕ) (at : ℕ) → Seen end_of (at + 4) (λ b. opaque_at max b at) bytes (opaque_at max bytes at)
unfolding opaque_at
seen_opaque max bytes at =
    seen_bind end_of end_of (at + 4) (λ b. length_at max b at) (λ n b. fixed_at n.0 b n.1) bytes (seen_length max bytes at)
    (λ n e. seen_from end_of n.1 (n.1 + n.0) (λ b. fixed_at n.0 b n.1) bytes (fixed_at n.0 bytes n.1) (omega arith) (seen_fixed n.0 bytes n.1))

pub seen_flag : (bytes : List ℕ) (at : ℕ) → Seen end_of (at + 4) (λ b. flag_at b at) bytes (flag_at bytes at)
unfolding flag_at
seen_flag bytes at =
    seen_bind end_of end_of (at + 4) (λ b. number_at w32 b at) (λ n b. cond (eqb n.0 0) (Ok (false, n.1)) (cond (eqb n.0 1) (Ok (true, n.1)) (refused at NotBool))) bytes (seen_number w32 bytes at)
    (λ n e. seen_test end_of n.1 (eqb n.0 0) (λ b. Ok (false, n.1)) (λ b. cond (eqb n.0 1) (Ok (true, n.1)) (refused at NotBool)) bytes
    (seen_value end_of n.1 bytes (false, n.1) (omega arith))
    (seen_test end_of n.1 (eqb n.0 1) (λ b. Ok (true, n.1)) (λ b. refused at NotBool) bytes
    (seen_value end_of n.1 bytes (true, n.1) (omega arith))
    (seen_refusal end_of n.1 bytes (record { place = at; why = NotBool }) (λ is. cc) (omega (arith, word_ends bytes at n e)))))

-- the bytes of a text, whose length is known
abbrev body_at : ℕ → List ℕ → ℕ → Read (List ℕ)
body_at n bytes at = cond (may_begin_text n (take n (drop at bytes))) (fixed_at n bytes at) (refused (at + utf8_valid_len (take n (drop at bytes))) NotUtf8)

-- bytes that agree from a place on, cut at the same length
same_behind : (at k : ℕ) (bytes more : List ℕ) → take (at + k) bytes ≡ take (at + k) more → take k (drop at bytes) ≡ take k (drop at more)
same_behind at k bytes more e = sym (drop-take at k bytes) ∙ ap (λ (t : List ℕ). drop at t) e ∙ drop-take at k more

same_cut : (n k : ℕ) (a b : List ℕ) → take k a ≡ take k b → take k (take n a) ≡ take k (take n b)
same_cut n k a b e =
    elim (cases_lt n k) [
      | inl less ↦ ap (λ (t : List ℕ). take k t) (take_less n k a b (omega (arith, less)) e)
      | inr more ↦ take-take k n a more ∙ e ∙ sym (take-take k n b more)
    ]

body_begins : (n : ℕ) (bytes : List ℕ) (at : ℕ) (r : Read (List ℕ)) → may_begin_text n (take n (drop at bytes)) ≡ true → Seen end_of (at + n) (λ b. fixed_at n b at) bytes r → Seen end_of at (λ b. body_at n b at) bytes r
body_begins n bytes at (Ok x) begins s =
    record {
      from = omega (arith, s.from);
      same = λ more k.
          let front = same_behind at n bytes more (take_less (at + n) x.1 bytes more s.from k) in
          let may : may_begin_text n (take n (drop at more)) ≡ true = subst (λ (t : List ℕ). may_begin_text n t ≡ true) front begins in
          rw may (s.same more k);
    }
body_begins n bytes at (Err e) begins (inl s) = inl s
body_begins n bytes at (Err e) begins (inr s) =
    inr (record {
      other = s.other;
      from = omega (arith, s.from);
      same = λ more k.
          let front = same_behind at n bytes more (take_less (at + n) (behind e) bytes more s.from k) in
          let may : may_begin_text n (take n (drop at more)) ≡ true = subst (λ (t : List ℕ). may_begin_text n t ≡ true) front begins in
          rw may (s.same more k);
    })

body_by : (n : ℕ) (bytes : List ℕ) (at : ℕ) (t : Bool) → may_begin_text n (take n (drop at bytes)) ≡ t
    → Seen end_of at (λ b. body_at n b at) bytes (cond t (fixed_at n bytes at) (refused (at + utf8_valid_len (take n (drop at bytes))) NotUtf8))
body_by n bytes at true begins = body_begins n bytes at (fixed_at n bytes at) begins (seen_fixed n bytes at)
body_by n bytes at false fault =
    let v = utf8_valid_len (take n (drop at bytes)) in
    inr (record {
      other = λ is. cc;
      from = omega arith;
      same = λ more k.
          let there : take (at + (v + 4)) bytes ≡ take (at + (v + 4)) more = subst (λ (j : ℕ). take j bytes ≡ take j more) (omega arith) k in
          let front = same_cut n (v + 4) (drop at bytes) (drop at more) (same_behind at (v + 4) bytes more there) in
          let same = same_fault n (take n (drop at bytes)) (take n (drop at more)) fault front in
          rw (same.0, same.1) refl;
    })

pub seen_text : (max : ℕ) (bytes : List ℕ) (at : ℕ) → Seen end_of (at + 4) (λ b. text_at max b at) bytes (text_at max bytes at)
unfolding text_at
seen_text max bytes at =
    seen_bind end_of end_of (at + 4) (λ b. length_at max b at) (λ n b. body_at n.0 b n.1) bytes (seen_length max bytes at)
    (λ n e. body_by n.0 bytes n.1 (may_begin_text n.0 (take n.0 (drop n.1 bytes))) refl)
