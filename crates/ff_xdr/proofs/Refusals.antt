-- A refusal depends on no byte behind the refused item, and no value is there, of every form.
use Rattle.std.proofs.Common.{◌≡◌, ℕ, zero, suc, ◌+◌, ◌<◌, ◌^◌, Bool, true, false, cond, eqb, ltb, List, [], ◌∷◌, ◌++◌, length, take, Some, None, Result, Ok, Err, refl, sym, ap, subst, ◌∙◌, append-nil, arith, inl, inr}
use Rattle.std.specs.Prelude.{IsTrue, ◌⊎◌}
use Rattle.std.specs.Int.{w32, w64}
use Rattle.std.specs.List.{list_any}
use Rattle.std.proofs.lemmas.Bool.{and_parts, false≢true, ltb-true, lt-ltb, le-ltb}
use Rattle.std.proofs.lemmas.List.{length-take-le, length-append}
use Rattle.ff_xdr.specs.declared.error.XdrError.{XdrError}
use Rattle.ff_xdr.specs.declared.error.XdrWhy.TheVariants.{NotEnum, Rest}
use Rattle.ff_xdr.specs.Form.{Form, Void, Number32, Number64, Hyper, Boolean, Enum, Optional, Fixed, Opaque, Text, Pair, Array, Arm, NoArm, Default, Value, spelling, is_sound, avoids}
use Rattle.ff_xdr.specs.Laws.{Stands, behind, EndsShort, StopsThere, IsShortAtEnd, IsRefusedThere, HasNoneThere, HasNoneWhole, IsWholeShortAtEnd, IsWholeRefusedThere, HasNoWholeThere}
use Rattle.ff_xdr.specs.Reading.{Read, ◌>>=◌, number_at, fixed_at, length_at, flag_at, reading, many_at, optional_at, arm_at, refused, whole}
use Rattle.ff_xdr.proofs.Again.{again, again_where, sound_case}
use Rattle.ff_xdr.proofs.Seen.{Seen, Took, end_of, seen_from, seen_value, seen_refusal, seen_test, seen_bind, seen_number, seen_hyper, seen_fixed, seen_length, seen_opaque, seen_flag, seen_text, word_ends, same_byte}
use Rattle.ff_xdr.proofs.Places.{done, err_is, stands_between}
use Rattle.ff_xdr.proofs.Sequences.{take_less}

-- a value of the form begins with a whole word, which is read before all else
abbrev pub head : Form → ℕ
head Void = 0
head (Fixed count) = 0
head (Pair first second) = head first
head _ = 4

head_of_avoiding : (form : Form) (n : ℕ) → IsTrue (avoids n form) → head form ≡ 4
head_of_avoiding (Enum numbers) n away = refl
head_of_avoiding (Pair first second) n away = head_of_avoiding first n away
head_of_avoiding (Arm number body others) n away = refl
head_of_avoiding NoArm n away = refl
head_of_avoiding (Default numbers) n away = refl
head_of_avoiding _ n away = absurd (false≢true away)

-- ---- several values

seen_optional : {M : Type 0} (each : List ℕ → ℕ → Read M) (bytes : List ℕ) → ((at : ℕ) → Seen end_of at (λ b. each b at) bytes (each bytes at))
    → (there : Bool) (at : ℕ) → Seen end_of at (λ b. optional_at (λ place. each b place) there at) bytes (optional_at (λ place. each bytes place) there at)
seen_optional each bytes one false at = seen_value end_of at bytes (None, at) (omega arith)
seen_optional each bytes one true at =
    seen_bind end_of end_of at (λ b. each b at) (λ v b. Ok (Some v.0, v.1)) bytes (one at) (λ v e. seen_value end_of v.1 bytes (Some v.0, v.1) (omega arith))

seen_many : {M : Type 0} (each : List ℕ → ℕ → Read M) (bytes : List ℕ) → ((at : ℕ) → Seen end_of at (λ b. each b at) bytes (each bytes at))
    → (n at : ℕ) → Seen end_of at (λ b. many_at (λ place. each b place) n at) bytes (many_at (λ place. each bytes place) n at)
seen_many each bytes one zero at = seen_value end_of at bytes ([], at) (omega arith)
seen_many each bytes one (suc n) at =
    seen_bind end_of end_of at (λ b. each b at) (λ first b. many_at (λ place. each b place) n first.1 >>= λ others. Ok (first.0 ∷ others.0, others.1)) bytes (one at)
    (λ first e. seen_bind end_of end_of first.1 (λ b. many_at (λ place. each b place) n first.1) (λ others b. Ok (first.0 ∷ others.0, others.1)) bytes (seen_many each bytes one n first.1)
    (λ others d. seen_value end_of others.1 bytes (first.0 ∷ others.0, others.1) (omega arith)))

pub seen_case : {A B : Type 0} (low : ℕ) (here : Bool) (body : List ℕ → Read A) (others : List ℕ → Read B) (bytes : List ℕ) → Seen end_of low body bytes (body bytes) → Seen end_of low others bytes (others bytes)
    → Seen end_of low (λ b. arm_at here (body b) (others b)) bytes (arm_at here (body bytes) (others bytes))
seen_case low true body others bytes p q = seen_bind end_of end_of low body (λ v b. Ok (inl v.0, v.1)) bytes p (λ v e. seen_value end_of v.1 bytes (inl v.0, v.1) (omega arith))
seen_case low false body others bytes p q = seen_bind end_of end_of low others (λ v b. Ok (inr v.0, v.1)) bytes q (λ v e. seen_value end_of v.1 bytes (inr v.0, v.1) (omega arith))

-- ---- every form

abbrev pub IsSeen : Form → ℕ → List ℕ → ℕ → Type 0
IsSeen form low bytes at = Seen end_of low (λ b. reading form b at) bytes (reading form bytes at)

pub below : (form : Form) (bytes : List ℕ) (at : ℕ) → IsSeen form (at + head form) bytes at → IsSeen form at bytes at
below form bytes at s = seen_from end_of at (at + head form) (λ b. reading form b at) bytes (reading form bytes at) (omega arith) s

pub seen : (form : Form) → IsTrue (is_sound form) → (bytes : List ℕ) (at : ℕ) → IsSeen form (at + head form) bytes at
seen Void sound bytes at = seen_value end_of (at + 0) bytes (tt, at) (omega arith)
seen Number32 sound bytes at = seen_number w32 bytes at
seen Number64 sound bytes at = seen_from end_of (at + 4) (at + 8) (λ b. number_at w64 b at) bytes (number_at w64 bytes at) (omega arith) (seen_number w64 bytes at)
seen Hyper sound bytes at = seen_hyper bytes at
seen Boolean sound bytes at = seen_flag bytes at
seen (Enum numbers) sound bytes at =
    seen_bind end_of end_of (at + 4) (λ b. number_at w32 b at) (λ n b. cond (list_any (eqb n.0) numbers) (Ok n) (refused at NotEnum)) bytes (seen_number w32 bytes at)
    (λ n e. seen_test end_of n.1 (list_any (eqb n.0) numbers) (λ b. Ok n) (λ b. refused at NotEnum) bytes
    (seen_value end_of n.1 bytes n (omega arith))
    (seen_refusal end_of n.1 bytes (record { place = at; why = NotEnum }) (λ is. cc) (omega (arith, word_ends bytes at n e))))
seen (Optional each) sound bytes at =
    let one : (place : ℕ) → IsSeen each place bytes place = λ place. below each bytes place (seen each sound bytes place) in
    seen_bind end_of end_of (at + 4) (λ b. flag_at b at) (λ there b. optional_at (λ place. reading each b place) there.0 there.1) bytes (seen_flag bytes at)
    (λ there e. seen_optional (λ b place. reading each b place) bytes one there.0 there.1)
seen (Fixed count) sound bytes at = seen_from end_of (at + 0) (at + count) (λ b. fixed_at count b at) bytes (fixed_at count bytes at) (omega arith) (seen_fixed count bytes at)
seen (Opaque max) sound bytes at = seen_opaque max bytes at
seen (Text max) sound bytes at = seen_text max bytes at
seen (Pair first second) sound bytes at =
    let sounds = and_parts (is_sound first) (is_sound second) sound in
    seen_bind end_of end_of (at + head first) (λ b. reading first b at) (λ a b. reading second b a.1 >>= λ c. Ok ((a.0, c.0), c.1)) bytes (seen first sounds.0 bytes at)
    (λ a e. seen_bind end_of end_of a.1 (λ b. reading second b a.1) (λ c b. Ok ((a.0, c.0), c.1)) bytes (below second bytes a.1 (seen second sounds.1 bytes a.1))
    (λ c d. seen_value end_of c.1 bytes ((a.0, c.0), c.1) (omega arith)))
seen (Array max each) sound bytes at =
    let sounds = and_parts (ltb max (2 ^ 32)) (is_sound each) sound in
    let one : (place : ℕ) → IsSeen each place bytes place = λ place. below each bytes place (seen each sounds.1 bytes place) in
    seen_bind end_of end_of (at + 4) (λ b. length_at max b at) (λ n b. many_at (λ place. reading each b place) n.0 n.1) bytes (seen_length max bytes at)
    (λ n e. seen_many (λ b place. reading each b place) bytes one n.0 n.1)
seen (Arm number body others) sound bytes at =
    let sounds = sound_case number body others sound in
    let word = head_of_avoiding others number sounds.1 in
    seen_bind end_of end_of (at + 4) (λ b. number_at w32 b at) (λ n b. arm_at (eqb n.0 number) (reading body b n.1) (reading others b at)) bytes (seen_number w32 bytes at)
    (λ n e. seen_case n.1 (eqb n.0 number) (λ b. reading body b n.1) (λ b. reading others b at) bytes (below body bytes n.1 (seen body sounds.2 bytes n.1))
    (seen_from end_of n.1 (at + head others) (λ b. reading others b at) bytes (reading others bytes at) (omega (arith, word_ends bytes at n e, word)) (seen others sounds.3 bytes at)))
seen (Default numbers) sound bytes at =
    seen_bind end_of end_of (at + 4) (λ b. number_at w32 b at) (λ n b. cond (list_any (eqb n.0) numbers) (refused at NotEnum) (Ok n)) bytes (seen_number w32 bytes at)
    (λ n e. seen_test end_of n.1 (list_any (eqb n.0) numbers) (λ b. refused at NotEnum) (λ b. Ok n) bytes
    (seen_refusal end_of n.1 bytes (record { place = at; why = NotEnum }) (λ is. cc) (omega (arith, word_ends bytes at n e)))
    (seen_value end_of n.1 bytes n (omega arith)))
seen NoArm sound bytes at =
    seen_bind end_of end_of (at + 4) (λ b. number_at w32 b at) (λ n b. refused at NotEnum) bytes (seen_number w32 bytes at)
    (λ n e. seen_refusal end_of n.1 bytes (record { place = at; why = NotEnum }) (λ is. cc) (omega (arith, word_ends bytes at n e)))

-- ---- what is seen, as the laws say it

err_parts : {A : Type 0} (end : A → ℕ) (low : ℕ) (read : List ℕ → Result A XdrError) (bytes : List ℕ) (r : Result A XdrError) (e : XdrError) → r ≡ Err e → Seen end low read bytes r → Seen end low read bytes (Err e)
err_parts end low read bytes r e is s = subst (λ (q : Result _ XdrError). Seen end low read bytes q) is s

pub ends_short : {A : Type 0} (end : A → ℕ) (low : ℕ) (read : List ℕ → Result A XdrError) → ((bytes : List ℕ) → Seen end low read bytes (read bytes)) → EndsShort read
ends_short end low read all = λ bytes e is short. elim (err_parts end low read bytes (read bytes) e is (all bytes)) [
  | inl s ↦ s.1
  | inr s ↦ absurd (s.other short)
]

pub stops_there : {A : Type 0} (end : A → ℕ) (low : ℕ) (read : List ℕ → Result A XdrError) → ((bytes : List ℕ) → Seen end low read bytes (read bytes)) → StopsThere read
stops_there end low read all = λ bytes more e is other same. elim (err_parts end low read bytes (read bytes) e is (all bytes)) [
  | inl s ↦ absurd (other s.0)
  | inr s ↦ s.same more same
]

pub short_at_end : (form : Form) → IsTrue (is_sound form) → IsShortAtEnd form
short_at_end form sound = λ at. ends_short end_of (at + head form) (λ b. reading form b at) (λ bytes. seen form sound bytes at)

pub refused_there : (form : Form) → IsTrue (is_sound form) → IsRefusedThere form
refused_there form sound = λ at. stops_there end_of (at + head form) (λ b. reading form b at) (λ bytes. seen form sound bytes at)

pub not_both : {A : Type 0} (r : Result A XdrError) (e : XdrError) (x : A) → r ≡ Err e → r ≡ Ok x → ⊥
not_both r e x p q = cc

pub none_there : (form : Form) → IsTrue (is_sound form) → HasNoneThere form
none_there form sound = λ bytes at e le is other v rest fits same.
    let place : length (take at bytes) ≡ at = length-take-le at bytes le in
    let text = take at bytes ++ spelling form v ++ rest in
    let refusal : reading form text at ≡ Err e = refused_there form sound at bytes text e is other (sym same) in
    let value = again form sound v (take at bytes) rest fits in
    not_both (reading form text at) e (v, length (take at bytes) + length (spelling form v)) refusal (subst (λ (k : ℕ). reading form text k ≡ Ok (v, length (take at bytes) + length (spelling form v))) place value)

pub none_whole : (form : Form) → IsTrue (is_sound form) → HasNoneWhole form
none_whole form sound = λ bytes at e is v to fits stands. not_both (reading form bytes at) e (v, to) is (again_where form sound v bytes at to fits stands)

-- ---- a value and nothing behind it

-- what stands behind a value is refused, or there is nothing
abbrev rest_by : Bool → ℕ → Result (Unit {0}) XdrError
rest_by t at = cond t (Err (record { place = at; why = Rest })) (Ok tt)

-- a value was refused, or read with bytes left over
pub record LeavesRest {M : Type 0} (bytes : List ℕ) (r : Read M) (e : XdrError) : Type 0 where
  pub value : M × ℕ
  pub read : r ≡ Ok value
  pub left : value.1 < length bytes
  pub refusal : e ≡ record { place = value.1; why = Rest }

pub whole_cases : {M : Type 0} (bytes : List ℕ) (r : Read M) (e : XdrError) → whole bytes r ≡ Err e → (r ≡ Err e) ⊎ LeavesRest bytes r e
whole_cases bytes (Err d) e is = inl (ap Err (sym (err_is d e is)))
whole_cases {M} bytes (Ok x) e is = by_case (ltb x.1 (length bytes)) refl is
  where
    by_case : (t : Bool) → ltb x.1 (length bytes) ≡ t → (rest_by t x.1 >>= λ nothing. Ok x.0) ≡ Err e → (done x ≡ Err e) ⊎ LeavesRest bytes (Ok x) e
    by_case true left is = inr (record { value = x; read = refl; left = ltb-true _ _ left; refusal = err_is (record { place = x.1; why = Rest }) e is })
    by_case false left is = absurd cc

pub whole_short_at_end : (form : Form) → IsTrue (is_sound form) → IsWholeShortAtEnd form
whole_short_at_end form sound = λ at bytes e is short. elim (whole_cases bytes (reading form bytes at) e is) [
  | inl refusal ↦ short_at_end form sound at bytes e refusal short
  | inr rest ↦
      let rest-why : e.why ≡ Rest = ap (λ (d : XdrError). d.why) rest.refusal in
      absurd cc
]

pub whole_rest : {M : Type 0} (bytes : List ℕ) (x : M × ℕ) (r : Read M) → r ≡ Ok x → x.1 < length bytes → whole bytes r ≡ Err (record { place = x.1; why = Rest })
whole_rest bytes x r is lt =
    let left : ltb x.1 (length bytes) ≡ true = lt-ltb _ _ lt in
    rw is (rw left refl)

pub whole_all : {M : Type 0} (bytes : List ℕ) (x : M × ℕ) (r : Read M) → r ≡ Ok x → x.1 ≡ length bytes → whole bytes r ≡ Ok x.0
whole_all bytes x r is end =
    let left : ltb x.1 (length bytes) ≡ false = le-ltb _ _ (omega (arith, end)) in
    rw is (rw left refl)

pub whole_refused_there : (form : Form) → IsTrue (is_sound form) → IsWholeRefusedThere form
whole_refused_there form sound = λ at bytes more e is other same. elim (whole_cases bytes (reading form bytes at) e is) [
  | inl refusal ↦ ap (λ (r : Read (Value form)). whole more r) (refused_there form sound at bytes more e refusal other same)
  | inr rest ↦
      let ends : behind e ≡ rest.value.1 + 1 = ap (λ (d : XdrError). behind d) rest.refusal in
      let there : take (rest.value.1 + 1) bytes ≡ take (rest.value.1 + 1) more = subst (λ (k : ℕ). take k bytes ≡ take k more) ends same in
      let took : Took end_of (at + head form) (λ b. reading form b at) bytes rest.value = subst (λ (q : Read (Value form)). Seen end_of (at + head form) (λ b. reading form b at) bytes q) rest.read (seen form sound bytes at) in
      let read : reading form more at ≡ Ok rest.value = took.same more (take_less rest.value.1 (rest.value.1 + 1) bytes more (omega arith) there) in
      let left = same_byte bytes more rest.value.1 rest.left there in
      whole_rest more rest.value (reading form more at) read left.0 ∙ ap Err (sym rest.refusal)
]

pub no_whole_there : (form : Form) → IsTrue (is_sound form) → HasNoWholeThere form
no_whole_there form sound = λ bytes at e le is other v fits same.
    let front = take at bytes in
    let text = front ++ spelling form v in
    let place : length front ≡ at = length-take-le at bytes le in
    let stands : Stands text (length front) (spelling form v) (length front + length (spelling form v)) = subst (λ (t : List ℕ). Stands t (length front) (spelling form v) (length front + length (spelling form v))) (append-nil text) (stands_between front (spelling form v) []) in
    let value : reading form text at ≡ Ok (v, length front + length (spelling form v)) = subst (λ (k : ℕ). reading form text k ≡ Ok (v, length front + length (spelling form v))) place (again_where form sound v text (length front) (length front + length (spelling form v)) fits stands) in
    let end : length front + length (spelling form v) ≡ length text = sym (length-append front (spelling form v)) in
    not_both (whole text (reading form text at)) e v (whole_refused_there form sound at bytes text e is other (sym same)) (whole_all text (v, length front + length (spelling form v)) (reading form text at) value end)
