-- A form's reading never says that bytes are left over.
use Rattle.std.proofs.Common.{◌≡◌, ℕ, zero, suc, ◌+◌, Bool, true, false, cond, ltb, eqb, List, ◌∷◌, length, get_or, take, drop, Some, Result, Ok, Err, subst, inl, inr}
use Rattle.std.specs.Int.{Width, w32, w64, byte_len, from_be_bytes, cast_signed}
use Rattle.std.specs.List.{list_any}
use Rattle.std.specs.Str.Lossy.{utf8_valid_len}
use Rattle.ff_xdr.specs.declared.error.XdrError.{XdrError}
use Rattle.ff_xdr.specs.declared.error.XdrWhy.TheVariants.{Short, Pad, NotBool, NotEnum, TooLong, NotUtf8, Rest}
use Rattle.ff_xdr.specs.Form.{Form, Void, Number32, Number64, Hyper, Boolean, Enum, Optional, Fixed, Opaque, Text, Pair, Array, Arm, NoArm, Default, pad_len}
use Rattle.ff_xdr.specs.Reading.{Read, ◌>>=◌, number_at, hyper_at, padding_at, fixed_at, length_at, opaque_at, flag_at, text_at, may_begin_text, many_at, optional_at, arm_at, reading, arm_reading, refused}

abbrev NotRest : {A : Type 0} → Result A XdrError → Type 0
NotRest (Ok x) = Unit {0}
NotRest (Err e) = ¬ (e.why ≡ Rest)

step : {A B : Type 0} (r : Result A XdrError) (f : A → Result B XdrError) → NotRest r → ((x : A) → NotRest (f x)) → NotRest (r >>= f)
step (Ok x) f p q = q x
step (Err e) f p q = p

test : {A : Type 0} (t : Bool) (r s : Result A XdrError) → NotRest r → NotRest s → NotRest (cond t r s)
test true r s p q = p
test false r s p q = q

number : (w : Width) (bytes : List ℕ) (at : ℕ) → NotRest (number_at w bytes at)
unfolding number_at
number w bytes at = test (ltb (length bytes) (at + byte_len w)) (refused (length bytes) Short) (Ok (from_be_bytes w (take (byte_len w) (drop at bytes)), at + byte_len w)) (λ is. cc) tt

hyper : (bytes : List ℕ) (at : ℕ) → NotRest (hyper_at bytes at)
unfolding hyper_at
hyper bytes at = step (number_at w64 bytes at) (λ n. Ok (cast_signed w64 n.0, n.1)) (number w64 bytes at) (λ n. tt)

padding : (n : ℕ) (bytes : List ℕ) (at : ℕ) → NotRest (padding_at n bytes at)
padding zero bytes at = tt
padding (suc n) bytes at =
    test (ltb at (length bytes)) (cond (eqb (get_or bytes at 0) 0) (padding_at n bytes (at + 1)) (Err (record { place = at; why = Pad }))) (Err (record { place = length bytes; why = Short }))
    (test (eqb (get_or bytes at 0) 0) (padding_at n bytes (at + 1)) (Err (record { place = at; why = Pad })) (padding n bytes (at + 1)) (λ is. cc)) (λ is. cc)

fixed : (n : ℕ) (bytes : List ℕ) (at : ℕ) → NotRest (fixed_at n bytes at)
unfolding fixed_at
fixed n bytes at =
    test (ltb (length bytes) (at + n)) (refused (length bytes) Short) (padding_at (pad_len n) bytes (at + n) >>= λ to. Ok (take n (drop at bytes), to)) (λ is. cc)
    (step (padding_at (pad_len n) bytes (at + n)) (λ to. Ok (take n (drop at bytes), to)) (padding (pad_len n) bytes (at + n)) (λ to. tt))

counted : (max : ℕ) (bytes : List ℕ) (at : ℕ) → NotRest (length_at max bytes at)
unfolding length_at
counted max bytes at =
    step (number_at w32 bytes at) (λ n. cond (ltb max n.0) (refused at TooLong) (Ok n)) (number w32 bytes at)
    (λ n. test (ltb max n.0) (refused at TooLong) (Ok n) (λ is. cc) tt)

several : (max : ℕ) (bytes : List ℕ) (at : ℕ) → NotRest (opaque_at max bytes at)
unfolding opaque_at
several max bytes at = step (length_at max bytes at) (λ n. fixed_at n.0 bytes n.1) (counted max bytes at) (λ n. fixed n.0 bytes n.1)

flag : (bytes : List ℕ) (at : ℕ) → NotRest (flag_at bytes at)
unfolding flag_at
flag bytes at =
    step (number_at w32 bytes at) (λ n. cond (eqb n.0 0) (Ok (false, n.1)) (cond (eqb n.0 1) (Ok (true, n.1)) (refused at NotBool))) (number w32 bytes at)
    (λ n. test (eqb n.0 0) (Ok (false, n.1)) (cond (eqb n.0 1) (Ok (true, n.1)) (refused at NotBool)) tt (test (eqb n.0 1) (Ok (true, n.1)) (refused at NotBool) tt (λ is. cc)))

text : (max : ℕ) (bytes : List ℕ) (at : ℕ) → NotRest (text_at max bytes at)
unfolding text_at
text max bytes at =
    step (length_at max bytes at) (λ n. cond (may_begin_text n.0 (take n.0 (drop n.1 bytes))) (fixed_at n.0 bytes n.1) (refused (n.1 + utf8_valid_len (take n.0 (drop n.1 bytes))) NotUtf8)) (counted max bytes at)
    (λ n. test (may_begin_text n.0 (take n.0 (drop n.1 bytes))) (fixed_at n.0 bytes n.1) (refused (n.1 + utf8_valid_len (take n.0 (drop n.1 bytes))) NotUtf8) (fixed n.0 bytes n.1) (λ is. cc))

optional : {M : Type 0} (each : ℕ → Read M) → ((at : ℕ) → NotRest (each at)) → (there : Bool) (at : ℕ) → NotRest (optional_at each there at)
optional each one false at = tt
optional each one true at = step (each at) (λ v. Ok (Some v.0, v.1)) (one at) (λ v. tt)

many : {M : Type 0} (each : ℕ → Read M) → ((at : ℕ) → NotRest (each at)) → (n at : ℕ) → NotRest (many_at each n at)
many each one zero at = tt
many each one (suc n) at =
    step (each at) (λ first. many_at each n first.1 >>= λ others. Ok (first.0 ∷ others.0, others.1)) (one at)
    (λ first. step (many_at each n first.1) (λ others. Ok (first.0 ∷ others.0, others.1)) (many each one n first.1) (λ others. tt))

arm : {A B : Type 0} (here : Bool) (body : Read A) (others : Read B) → NotRest body → NotRest others → NotRest (arm_at here body others)
arm true body others p q = step body (λ v. Ok (inl v.0, v.1)) p (λ v. tt)
arm false body others p q = step others (λ v. Ok (inr v.0, v.1)) q (λ v. tt)

any : (form : Form) (bytes : List ℕ) (at : ℕ) → NotRest (reading form bytes at)
any Void bytes at = tt
any Number32 bytes at = number w32 bytes at
any Number64 bytes at = number w64 bytes at
any Hyper bytes at = hyper bytes at
any Boolean bytes at = flag bytes at
any (Enum numbers) bytes at =
    step (number_at w32 bytes at) (λ n. cond (list_any (eqb n.0) numbers) (Ok n) (refused at NotEnum)) (number w32 bytes at)
    (λ n. test (list_any (eqb n.0) numbers) (Ok n) (refused at NotEnum) tt (λ is. cc))
any (Optional each) bytes at =
    step (flag_at bytes at) (λ there. optional_at (λ place. reading each bytes place) there.0 there.1) (flag bytes at)
    (λ there. optional (λ place. reading each bytes place) (λ place. any each bytes place) there.0 there.1)
any (Fixed count) bytes at = fixed count bytes at
any (Opaque max) bytes at = several max bytes at
any (Text max) bytes at = text max bytes at
any (Pair first second) bytes at =
    step (reading first bytes at) (λ a. reading second bytes a.1 >>= λ b. Ok ((a.0, b.0), b.1)) (any first bytes at)
    (λ a. step (reading second bytes a.1) (λ b. Ok ((a.0, b.0), b.1)) (any second bytes a.1) (λ b. tt))
any (Array max each) bytes at =
    step (length_at max bytes at) (λ n. many_at (λ place. reading each bytes place) n.0 n.1) (counted max bytes at)
    (λ n. many (λ place. reading each bytes place) (λ place. any each bytes place) n.0 n.1)
any (Arm number_is body others) bytes at =
    step (number_at w32 bytes at) (λ n. arm_at (eqb n.0 number_is) (reading body bytes n.1) (reading others bytes at)) (number w32 bytes at)
    (λ n. arm (eqb n.0 number_is) (reading body bytes n.1) (reading others bytes at) (any body bytes n.1) (any others bytes at))
any (Default numbers) bytes at =
    step (number_at w32 bytes at) (λ n. cond (list_any (eqb n.0) numbers) (refused at NotEnum) (Ok n)) (number w32 bytes at)
    (λ n. test (list_any (eqb n.0) numbers) (refused at NotEnum) (Ok n) (λ is. cc) tt)
any NoArm bytes at = step (number_at w32 bytes at) (λ n. refused at NotEnum) (number w32 bytes at) (λ n. λ is. cc)

any_arm : (form : Form) (n : ℕ) (bytes : List ℕ) (at : ℕ) → NotRest (arm_reading form n bytes at)
any_arm (Arm number_is body others) n bytes at =
    arm (eqb n number_is) (reading body bytes at) (arm_reading others n bytes at) (any body bytes at) (any_arm others n bytes at)
any_arm form n bytes at = any form bytes at

pub never_rest_at : (form : Form) (bytes : List ℕ) (at : ℕ) (e : XdrError) → reading form bytes at ≡ Err e → ¬ (e.why ≡ Rest)
never_rest_at form bytes at e is = subst (λ (r : Read _). NotRest r) is (any form bytes at)

pub never_rest : (form : Form) (n : ℕ) (bytes : List ℕ) (at : ℕ) (e : XdrError) → arm_reading form n bytes at ≡ Err e → ¬ (e.why ≡ Rest)
never_rest form n bytes at e is = subst (λ (r : Read _). NotRest r) is (any_arm form n bytes at)
