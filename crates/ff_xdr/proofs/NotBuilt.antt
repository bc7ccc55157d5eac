-- A number is refused just where a union's arm is not built, in a form without enums.
use Rattle.std.proofs.Common.{◌≡◌, ℕ, zero, suc, ◌+◌, Bool, true, false, ◌&&◌, cond, eqb, List, [], ◌∷◌, take, drop, Some, Result, Ok, Err, refl, sym, ap, subst, ◌∙◌, inl, inr}
use Rattle.std.specs.Prelude.{◌⊎◌}
use Rattle.std.specs.Int.{w32, w64, cast_signed}
use Rattle.std.specs.Str.Lossy.{utf8_valid_len}
use Rattle.std.proofs.lemmas.Bool.{or_cases, or_left, or_right, or_parts, cases_Bool, false≢true}
use Rattle.ff_xdr.specs.declared.error.XdrError.{XdrError}
use Rattle.ff_xdr.specs.declared.error.XdrWhy.TheVariants.{Short, NotEnum, NotUtf8}
use Rattle.ff_xdr.specs.Form.{Form, Void, Number32, Number64, Hyper, Boolean, Enum, Optional, Fixed, Opaque, Text, Pair, Array, Arm, NoArm, Default, pad_len}
use Rattle.ff_xdr.specs.Reading.{Read, ◌>>=◌, number_at, hyper_at, fixed_at, length_at, opaque_at, flag_at, text_at, may_begin_text, reading, many_at, optional_at, arm_at}
use Rattle.ff_xdr.specs.Faults.{Item, Truth, Length, Padding, IsWrong}
use Rattle.ff_xdr.specs.Unbuilt.{at_value, one_unbuilt, is_unbuilt, has_enum, IsUnbuiltRight}
use Rattle.ff_xdr.proofs.Places.{bind_is, err_is}
use Rattle.ff_xdr.proofs.Begun.{bind_err, not_err}
use Rattle.ff_xdr.proofs.Stopped.{IsTrouble, number_cut, flag_trouble, length_trouble, padding_stop}
use Rattle.ff_xdr.proofs.StoppedText.{fixed_err}

-- a number is refused
abbrev IsNumberRefused : {A : Type 0} → Result A XdrError → Type 0
IsNumberRefused r = (place : ℕ) × (r ≡ Err (record { place = place; why = NotEnum }))

-- it is never so
abbrev HasNoNumber : {A : Type 0} → Result A XdrError → Type 0
HasNoNumber r = (e : XdrError) → r ≡ Err e → ¬ (e.why ≡ NotEnum)

refused_never : {A : Type 0} (r : Result A XdrError) → HasNoNumber r → IsNumberRefused r → ⊥
refused_never r never h = never (record { place = h.0; why = NotEnum }) h.1 refl

-- ---- steps

module _ {A B : Type 0} (r : Result A XdrError) (f : A → Result B XdrError) where
  first_refused : IsNumberRefused r → IsNumberRefused (r >>= f)
  first_refused h = (h.0, ap (λ (s : Result A XdrError). s >>= f) h.1)

  second_refused : (x : A) → r ≡ Ok x → IsNumberRefused (f x) → IsNumberRefused (r >>= f)
  second_refused x is h = (h.0, bind_is r f x is ∙ h.1)

  either_refused : IsNumberRefused (r >>= f) → IsNumberRefused r ⊎ ((x : A) × (r ≡ Ok x) × IsNumberRefused (f x))
  either_refused h =
      elim (bind_err r f (record { place = h.0; why = NotEnum }) h.1) [
        | inl e ↦ inl (h.0, e)
        | inr e ↦ inr (e.0, e.1, (h.0, e.2))
      ]

only_refused : {A B : Type 0} (r : Result A XdrError) (f : A → B) → IsNumberRefused (r >>= λ x. Ok (f x)) → IsNumberRefused r
only_refused r f h = (h.0, not_err r f (record { place = h.0; why = NotEnum }) h.1)

value_holds : {A : Type 0} (r : Result A XdrError) (holds : A → Bool) → at_value r holds ≡ true → (x : A) × (r ≡ Ok x) × (holds x ≡ true)
value_holds (Ok x) holds e = (x, refl, e)
value_holds (Err d) holds e = absurd (false≢true e)

holds_value : {A : Type 0} (r : Result A XdrError) (holds : A → Bool) (x : A) → r ≡ Ok x → holds x ≡ true → at_value r holds ≡ true
holds_value r holds x is e = ap (λ (s : Result _ XdrError). at_value s holds) is ∙ e

-- ---- what refuses no number

short_other : (e : XdrError) → e.why ≡ Short → ¬ (e.why ≡ NotEnum)
short_other e short number = cc

trouble_other : (item : Item) → ((bytes : List ℕ) (place : ℕ) → ¬ (IsWrong NotEnum item bytes place)) → (e : XdrError) (bytes : List ℕ) (place : ℕ) → IsTrouble e bytes item place → ¬ (e.why ≡ NotEnum)
trouble_other item none e bytes place (inl wrong) number = none bytes place (subst (λ w. IsWrong w item bytes place) number wrong.1)
trouble_other item none e bytes place (inr cut) number = short_other e cut.0 number

word_never : (bytes : List ℕ) (at : ℕ) → HasNoNumber (number_at w32 bytes at)
word_never bytes at e is = short_other e (number_cut w32 bytes at e is).0

long_never : (bytes : List ℕ) (at : ℕ) → HasNoNumber (number_at w64 bytes at)
long_never bytes at e is = short_other e (number_cut w64 bytes at e is).0

hyper_never : (bytes : List ℕ) (at : ℕ) → HasNoNumber (hyper_at bytes at)
unfolding hyper_at
hyper_never bytes at e is = long_never bytes at e (not_err (number_at w64 bytes at) (λ n. (cast_signed w64 n.0, n.1)) e is)

flag_never : (bytes : List ℕ) (at : ℕ) → HasNoNumber (flag_at bytes at)
flag_never bytes at e is = trouble_other Truth (λ b p wrong. wrong) e bytes at (flag_trouble bytes at e is)

length_never : (max : ℕ) (bytes : List ℕ) (at : ℕ) → HasNoNumber (length_at max bytes at)
length_never max bytes at e is = trouble_other (Length max) (λ b p wrong. wrong) e bytes at (length_trouble max bytes at e is)

fixed_never : (n : ℕ) (bytes : List ℕ) (at : ℕ) → HasNoNumber (fixed_at n bytes at)
fixed_never n bytes at e is =
    elim (fixed_err n bytes at e is) [
      | inl cut ↦ short_other e cut.1
      | inr h ↦
          elim (padding_stop (pad_len n) bytes (at + n) e h.0 h.1).why [
            | inl short ↦ short_other e short.0
            | inr wrong ↦ λ number. absurd (subst (λ w. IsWrong w Padding bytes (padding_stop (pad_len n) bytes (at + n) e h.0 h.1).to) number wrong.1)
          ]
    ]

opaque_never : (max : ℕ) (bytes : List ℕ) (at : ℕ) → HasNoNumber (opaque_at max bytes at)
unfolding opaque_at
opaque_never max bytes at e is =
    elim (bind_err (length_at max bytes at) (λ n. fixed_at n.0 bytes n.1) e is) [
      | inl h ↦ length_never max bytes at e h
      | inr h ↦ fixed_never h.0.0 bytes h.0.1 e h.2
    ]

text_never : (max : ℕ) (bytes : List ℕ) (at : ℕ) → HasNoNumber (text_at max bytes at)
unfolding text_at
text_never max bytes at e is =
    elim (bind_err (length_at max bytes at) (λ n. cond (may_begin_text n.0 (take n.0 (drop n.1 bytes))) (fixed_at n.0 bytes n.1) (Err (record { place = n.1 + utf8_valid_len (take n.0 (drop n.1 bytes)); why = NotUtf8 }))) e is) [
      | inl h ↦ length_never max bytes at e h
      | inr h ↦
          let text = take h.0.0 (drop h.0.1 bytes) in
          elim (cases_Bool (may_begin_text h.0.0 text)) [
            | inl may ↦ fixed_never h.0.0 bytes h.0.1 e (rw may at h.2)
            | inr fault ↦
                let same : e ≡ record { place = h.0.1 + utf8_valid_len text; why = NotUtf8 } = err_is {A = List ℕ × ℕ} (record { place = h.0.1 + utf8_valid_len text; why = NotUtf8 }) e (rw fault at h.2) in
                let why : e.why ≡ NotUtf8 = ap (λ (d : XdrError). d.why) same in
                λ number. cc
          ]
    ]

-- ---- both ways, of every form

many_refused : {M : Type 0} (each : ℕ → Read M) (unbuilt : ℕ → Bool) → ((at : ℕ) → unbuilt at ≡ true → IsNumberRefused (each at))
    → (n at : ℕ) → one_unbuilt each unbuilt n at ≡ true → IsNumberRefused (many_at each n at)
many_refused each unbuilt one zero at e = absurd (false≢true e)
many_refused each unbuilt one (suc n) at e =
    elim (or_cases (unbuilt at) (at_value (each at) (λ v. one_unbuilt each unbuilt n v.1)) e) [
      | inl here ↦ first_refused (each at) (λ first. many_at each n first.1 >>= λ others. Ok (first.0 ∷ others.0, others.1)) (one at here)
      | inr later ↦
          let v = value_holds (each at) (λ v. one_unbuilt each unbuilt n v.1) later in
          second_refused (each at) (λ first. many_at each n first.1 >>= λ others. Ok (first.0 ∷ others.0, others.1)) v.0 v.1
          (first_refused (many_at each n v.0.1) (λ others. Ok (v.0.0 ∷ others.0, others.1)) (many_refused each unbuilt one n v.0.1 v.2))
    ]

refused_many : {M : Type 0} (each : ℕ → Read M) (unbuilt : ℕ → Bool) → ((at : ℕ) → IsNumberRefused (each at) → unbuilt at ≡ true)
    → (n at : ℕ) → IsNumberRefused (many_at each n at) → one_unbuilt each unbuilt n at ≡ true
refused_many each unbuilt one zero at h =
    let is = h.1 in
    absurd cc
refused_many each unbuilt one (suc n) at h =
    elim (either_refused (each at) (λ first. many_at each n first.1 >>= λ others. Ok (first.0 ∷ others.0, others.1)) h) [
      | inl here ↦ or_left (unbuilt at) (at_value (each at) (λ v. one_unbuilt each unbuilt n v.1)) (one at here)
      | inr later ↦
          or_right (unbuilt at) (at_value (each at) (λ v. one_unbuilt each unbuilt n v.1))
          (holds_value (each at) (λ v. one_unbuilt each unbuilt n v.1) later.0 later.1
          (refused_many each unbuilt one n later.0.1 (only_refused (many_at each n later.0.1) (λ others. (later.0.0 ∷ others.0, others.1)) later.2)))
    ]

optional_refused : {M : Type 0} (each : ℕ → Read M) (unbuilt : ℕ → Bool) → ((at : ℕ) → unbuilt at ≡ true → IsNumberRefused (each at))
    → (there : Bool) (at : ℕ) → (there && unbuilt at) ≡ true → IsNumberRefused (optional_at each there at)
optional_refused each unbuilt one false at e = absurd (false≢true e)
optional_refused each unbuilt one true at e = first_refused (each at) (λ v. Ok (Some v.0, v.1)) (one at e)

refused_optional : {M : Type 0} (each : ℕ → Read M) (unbuilt : ℕ → Bool) → ((at : ℕ) → IsNumberRefused (each at) → unbuilt at ≡ true)
    → (there : Bool) (at : ℕ) → IsNumberRefused (optional_at each there at) → (there && unbuilt at) ≡ true
refused_optional each unbuilt one false at h =
    let is = h.1 in
    absurd cc
refused_optional each unbuilt one true at h = one at (only_refused (each at) (λ v. (Some v.0, v.1)) h)

arm_refused : {A B : Type 0} (here : Bool) (body : Read A) (others : Read B) (p q : Bool) → (p ≡ true → IsNumberRefused body) → (q ≡ true → IsNumberRefused others) → cond here p q ≡ true → IsNumberRefused (arm_at here body others)
arm_refused true body others p q f g e = first_refused body (λ v. Ok (inl v.0, v.1)) (f e)
arm_refused false body others p q f g e = first_refused others (λ v. Ok (inr v.0, v.1)) (g e)

refused_arm : {A B : Type 0} (here : Bool) (body : Read A) (others : Read B) (p q : Bool) → (IsNumberRefused body → p ≡ true) → (IsNumberRefused others → q ≡ true) → IsNumberRefused (arm_at here body others) → cond here p q ≡ true
refused_arm true body others p q f g h = f (only_refused body (λ v. (inl v.0, v.1)) h)
refused_arm false body others p q f g h = g (only_refused others (λ v. (inr v.0, v.1)) h)

unbuilt_refused : (form : Form) (bytes : List ℕ) (at : ℕ) → is_unbuilt form bytes at ≡ true → IsNumberRefused (reading form bytes at)
unbuilt_refused (Optional each) bytes at e =
    let there = value_holds (flag_at bytes at) (λ there. there.0 && is_unbuilt each bytes there.1) e in
    second_refused (flag_at bytes at) (λ there. optional_at (λ place. reading each bytes place) there.0 there.1) there.0 there.1
    (optional_refused (λ place. reading each bytes place) (λ place. is_unbuilt each bytes place) (λ place h. unbuilt_refused each bytes place h) there.0.0 there.0.1 there.2)
unbuilt_refused (Pair first second) bytes at e =
    elim (or_cases (is_unbuilt first bytes at) (at_value (reading first bytes at) (λ a. is_unbuilt second bytes a.1)) e) [
      | inl here ↦ first_refused (reading first bytes at) (λ a. reading second bytes a.1 >>= λ b. Ok ((a.0, b.0), b.1)) (unbuilt_refused first bytes at here)
      | inr later ↦
          let a = value_holds (reading first bytes at) (λ a. is_unbuilt second bytes a.1) later in
          second_refused (reading first bytes at) (λ a. reading second bytes a.1 >>= λ b. Ok ((a.0, b.0), b.1)) a.0 a.1
          (first_refused (reading second bytes a.0.1) (λ b. Ok ((a.0.0, b.0), b.1)) (unbuilt_refused second bytes a.0.1 a.2))
    ]
unbuilt_refused (Array max each) bytes at e =
    let n = value_holds (length_at max bytes at) (λ n. one_unbuilt (λ place. reading each bytes place) (λ place. is_unbuilt each bytes place) n.0 n.1) e in
    second_refused (length_at max bytes at) (λ n. many_at (λ place. reading each bytes place) n.0 n.1) n.0 n.1
    (many_refused (λ place. reading each bytes place) (λ place. is_unbuilt each bytes place) (λ place h. unbuilt_refused each bytes place h) n.0.0 n.0.1 n.2)
unbuilt_refused (Arm number body others) bytes at e =
    let n = value_holds (number_at w32 bytes at) (λ n. cond (eqb n.0 number) (is_unbuilt body bytes n.1) (is_unbuilt others bytes at)) e in
    second_refused (number_at w32 bytes at) (λ n. arm_at (eqb n.0 number) (reading body bytes n.1) (reading others bytes at)) n.0 n.1
    (arm_refused (eqb n.0.0 number) (reading body bytes n.0.1) (reading others bytes at) (is_unbuilt body bytes n.0.1) (is_unbuilt others bytes at) (λ h. unbuilt_refused body bytes n.0.1 h) (λ h. unbuilt_refused others bytes at h) n.2)
unbuilt_refused NoArm bytes at e =
    let n = value_holds (number_at w32 bytes at) (λ n. true) e in
    second_refused (number_at w32 bytes at) (λ n. Err (record { place = at; why = NotEnum })) n.0 n.1 (at, refl)
unbuilt_refused _ bytes at e = absurd (false≢true e)

refused_unbuilt : (form : Form) → has_enum form ≡ false → (bytes : List ℕ) (at : ℕ) → IsNumberRefused (reading form bytes at) → is_unbuilt form bytes at ≡ true
refused_unbuilt Void none bytes at h =
    let is = h.1 in
    absurd cc
refused_unbuilt Number32 none bytes at h = absurd (refused_never (number_at w32 bytes at) (word_never bytes at) h)
refused_unbuilt Number64 none bytes at h = absurd (refused_never (number_at w64 bytes at) (long_never bytes at) h)
refused_unbuilt Hyper none bytes at h = absurd (refused_never (hyper_at bytes at) (hyper_never bytes at) h)
refused_unbuilt Boolean none bytes at h = absurd (refused_never (flag_at bytes at) (flag_never bytes at) h)
refused_unbuilt (Enum numbers) none bytes at h = absurd (false≢true (sym none))
refused_unbuilt (Optional each) none bytes at h =
    elim (either_refused (flag_at bytes at) (λ there. optional_at (λ place. reading each bytes place) there.0 there.1) h) [
      | inl e ↦ absurd (refused_never (flag_at bytes at) (flag_never bytes at) e)
      | inr there ↦
          holds_value (flag_at bytes at) (λ there. there.0 && is_unbuilt each bytes there.1) there.0 there.1
          (refused_optional (λ place. reading each bytes place) (λ place. is_unbuilt each bytes place) (λ place e. refused_unbuilt each none bytes place e) there.0.0 there.0.1 there.2)
    ]
refused_unbuilt (Fixed count) none bytes at h = absurd (refused_never (fixed_at count bytes at) (fixed_never count bytes at) h)
refused_unbuilt (Opaque max) none bytes at h = absurd (refused_never (opaque_at max bytes at) (opaque_never max bytes at) h)
refused_unbuilt (Text max) none bytes at h = absurd (refused_never (text_at max bytes at) (text_never max bytes at) h)
refused_unbuilt (Pair first second) none bytes at h =
    let both = or_parts (has_enum first) (has_enum second) none in
    elim (either_refused (reading first bytes at) (λ a. reading second bytes a.1 >>= λ b. Ok ((a.0, b.0), b.1)) h) [
      | inl e ↦ or_left (is_unbuilt first bytes at) (at_value (reading first bytes at) (λ a. is_unbuilt second bytes a.1)) (refused_unbuilt first both.0 bytes at e)
      | inr a ↦
          or_right (is_unbuilt first bytes at) (at_value (reading first bytes at) (λ a. is_unbuilt second bytes a.1))
          (holds_value (reading first bytes at) (λ a. is_unbuilt second bytes a.1) a.0 a.1
          (refused_unbuilt second both.1 bytes a.0.1 (only_refused (reading second bytes a.0.1) (λ b. ((a.0.0, b.0), b.1)) a.2)))
    ]
refused_unbuilt (Array max each) none bytes at h =
    elim (either_refused (length_at max bytes at) (λ n. many_at (λ place. reading each bytes place) n.0 n.1) h) [
      | inl e ↦ absurd (refused_never (length_at max bytes at) (length_never max bytes at) e)
      | inr n ↦
          holds_value (length_at max bytes at) (λ n. one_unbuilt (λ place. reading each bytes place) (λ place. is_unbuilt each bytes place) n.0 n.1) n.0 n.1
          (refused_many (λ place. reading each bytes place) (λ place. is_unbuilt each bytes place) (λ place e. refused_unbuilt each none bytes place e) n.0.0 n.0.1 n.2)
    ]
refused_unbuilt (Arm number body others) none bytes at h =
    let both = or_parts (has_enum body) (has_enum others) none in
    elim (either_refused (number_at w32 bytes at) (λ n. arm_at (eqb n.0 number) (reading body bytes n.1) (reading others bytes at)) h) [
      | inl e ↦ absurd (refused_never (number_at w32 bytes at) (word_never bytes at) e)
      | inr n ↦
          holds_value (number_at w32 bytes at) (λ n. cond (eqb n.0 number) (is_unbuilt body bytes n.1) (is_unbuilt others bytes at)) n.0 n.1
          (refused_arm (eqb n.0.0 number) (reading body bytes n.0.1) (reading others bytes at) (is_unbuilt body bytes n.0.1) (is_unbuilt others bytes at)
          (λ e. refused_unbuilt body both.0 bytes n.0.1 e) (λ e. refused_unbuilt others both.1 bytes at e) n.2)
    ]
refused_unbuilt NoArm none bytes at h =
    elim (either_refused (number_at w32 bytes at) (λ n. Err (record { place = at; why = NotEnum })) h) [
      | inl e ↦ absurd (refused_never (number_at w32 bytes at) (word_never bytes at) e)
      | inr n ↦ holds_value (number_at w32 bytes at) (λ n. true) n.0 n.1 refl
    ]
refused_unbuilt (Default []) none bytes at h =
    elim (either_refused (number_at w32 bytes at) (λ n. Ok n) h) [
      | inl e ↦ absurd (refused_never (number_at w32 bytes at) (word_never bytes at) e)
      | inr n ↦
          let is = n.2.1 in
          absurd cc
    ]
refused_unbuilt (Default (n ∷ numbers)) none bytes at h = absurd (false≢true (sym none))

pub unbuilt_right : (form : Form) → IsUnbuiltRight form
unbuilt_right form = λ bytes at. (λ e. unbuilt_refused form bytes at e, λ none h. refused_unbuilt form none bytes at h)
