-- Reading a union of many arms, where its number is known.
use Rattle.std.proofs.Common.{◌≡◌, ℕ, Bool, true, false, ◌||◌, eqb, List, Result, Ok, Err, refl, sym, ap, subst, ◌∙◌, inr}
use Rattle.std.specs.Prelude.{◌⊎◌}
use Rattle.std.specs.List.{list_any}
use Rattle.std.specs.Int.{w32}
use Rattle.ff_xdr.specs.declared.error.XdrError.{XdrError}
use Rattle.ff_xdr.specs.Form.{Form, Pair, Arm, Default, Value, has_arm}
use Rattle.ff_xdr.specs.Reading.{Read, ◌>>=◌, number_at, arm_at, reading, arm_reading}
use Rattle.std.specs.Result.{IsErrAnd}
use Rattle.std.proofs.lemmas.Result.{err_from_is_err_and}
use Rattle.ff_xdr.specs.Calls.{Place, Decodes}
use Rattle.nfs4_compound.specs.Behind.{behind_form, behind_arms}

-- where an arm has the number, the union is read as that arm's body
one_arm : {A B : Type 0} (here more : Bool) (body : Read A) (others given : Read B) → here || more ≡ true → (more ≡ true → others ≡ given) → arm_at here body others ≡ arm_at here body given
one_arm true more body others given built same = refl
one_arm false more body others given built same = ap (arm_at false body) (same built)

pub by_number : (form : Form) (n : ℕ) (bytes : List ℕ) (at to : ℕ) → number_at w32 bytes at ≡ Ok (n, to) → has_arm n form ≡ true → reading form bytes at ≡ arm_reading form n bytes to
by_number (Arm number body others) n bytes at to read built =
    rw read (one_arm (eqb n number) (has_arm n others) (reading body bytes to) (reading others bytes at) (arm_reading others n bytes to) built
    (λ more. by_number others n bytes at to read more))
by_number _ n bytes at to read built = absurd cc

-- ---- behind the arms

or_none : (a b : Bool) → a || b ≡ false → (a ≡ false) × (b ≡ false)
or_none true b h = absurd cc
or_none false b h = (refl, h)

same : {A : Type 0} (r : Read A) → (r >>= λ v. Ok (v.0, v.1)) ≡ r
same (Ok v) = refl
same (Err e) = refl

abbrev pub right : (A B : Type 0) → B × ℕ → Read (A ⊎ B)
right A B v = Ok (inr v.0, v.1)

abbrev pub onto : (others : Form) → Read (Value (behind_form others)) → Read (Value others)
onto others r = r >>= λ v. Ok (behind_arms others v.0, v.1)

joined : (others : Form) (B : Type 0) (r : Read (Value (behind_form others)))
    → (onto others r >>= λ v. right B (Value others) v) ≡ (r >>= λ v. right B (Value others) (behind_arms others v.0, v.1))
joined others B (Ok v) = refl
joined others B (Err e) = refl

-- a number that is none of the arms' leads behind them
pub past_arms : (form : Form) (n : ℕ) (bytes : List ℕ) (at to : ℕ) → number_at w32 bytes at ≡ Ok (n, to) → has_arm n form ≡ false
    → (r : Read (Value (behind_form form))) → reading (behind_form form) bytes at ≡ r → reading form bytes at ≡ onto form r
past_arms (Arm number body others) n bytes at to read none r is =
    let parts = or_none (eqb n number) (has_arm n others) none in
    let rest = past_arms others n bytes at to read parts.1 r is in
    rw (read, parts.0, rest) (joined others (Value body) r)
past_arms _ n bytes at to read none r is = is ∙ sym (same r)

-- ---- what a reader of a union owes, by what it found: the number, and what its arm is read as

pub refused_answer : {X : Type 0} {Q : XdrError → Type 0} (form : Form) (view : X → Value form) (old fork after : Place) (n : ℕ) (e : XdrError) (r : Result X XdrError)
    → fork ≡ old → (number_at w32 fork.bytes fork.at ≡ Ok (n, after.at)) × (after.bytes ≡ fork.bytes) → has_arm n form ≡ true → IsErrAnd r Q → ((y : XdrError) → Q y → e ≡ y)
    → arm_reading form n after.bytes after.at ≡ Err e → Decodes view old r old (reading form old.bytes old.at)
refused_answer form view old fork after n e r same number built is is_e refused =
    let p = err_from_is_err_and r is in
    let read = subst (λ q. number_at w32 q.bytes q.at ≡ Ok (n, after.at)) same number.0 in
    let bytes : after.bytes ≡ old.bytes = number.1 ∙ ap (λ q. q.bytes) same in
    let inner = subst (λ b. arm_reading form n b after.at ≡ Err e) bytes refused in
    let all = by_number form n old.bytes old.at after.at read built ∙ inner ∙ ap (λ f. Err f) (is_e p.0 p.2) in
    subst (λ s. Decodes view old s old (reading form old.bytes old.at)) (sym p.1) (all, refl)

pub read_answer : {X : Type 0} (form : Form) (view : X → Value form) (old fork after final : Place) (n : ℕ) (x : X)
    → fork ≡ old → (number_at w32 fork.bytes fork.at ≡ Ok (n, after.at)) × (after.bytes ≡ fork.bytes) → has_arm n form ≡ true
    → Decodes view after (Ok x) final (arm_reading form n after.bytes after.at) → Decodes view old (Ok x) final (reading form old.bytes old.at)
read_answer form view old fork after final n x same number built body =
    let read = subst (λ q. number_at w32 q.bytes q.at ≡ Ok (n, after.at)) same number.0 in
    let bytes : after.bytes ≡ old.bytes = number.1 ∙ ap (λ q. q.bytes) same in
    let inner = subst (λ t. arm_reading form n t after.at ≡ Ok (view x, final.at)) bytes body.0 in
    (by_number form n old.bytes old.at after.at read built ∙ inner, body.1 ∙ bytes)

-- the same of a number that is none of the arms', and of what stands behind it
pub other_refused : (numbers : List ℕ) (rest : Form) (bytes : List ℕ) (at n to : ℕ) (e : XdrError) → number_at w32 bytes at ≡ Ok (n, to) → list_any (eqb n) numbers ≡ false
    → reading rest bytes to ≡ Err e → reading (Pair (Default numbers) rest) bytes at ≡ Err e
other_refused numbers rest bytes at n to e read none h = rw (read, none, h) refl

pub other_read : (numbers : List ℕ) (rest : Form) (bytes : List ℕ) (at n to end : ℕ) (v : Value rest) → number_at w32 bytes at ≡ Ok (n, to) → list_any (eqb n) numbers ≡ false
    → reading rest bytes to ≡ Ok (v, end) → reading (Pair (Default numbers) rest) bytes at ≡ Ok ((n, v), end)
other_read numbers rest bytes at n to end v read none h = rw (read, none, h) refl

pub others_refused_answer : {X : Type 0} {Q : XdrError → Type 0} (form rest : Form) (view : X → Value form) (old fork after : Place) (n : ℕ) (e : XdrError) (r : Result X XdrError)
    → fork ≡ old → (number_at w32 fork.bytes fork.at ≡ Ok (n, after.at)) × (after.bytes ≡ fork.bytes) → has_arm n form ≡ false → IsErrAnd r Q → ((y : XdrError) → Q y → e ≡ y)
    → ((bytes : List ℕ) (at : ℕ) → number_at w32 bytes at ≡ Ok (n, after.at) → reading rest bytes after.at ≡ Err e → reading (behind_form form) bytes at ≡ Err e)
    → reading rest after.bytes after.at ≡ Err e → Decodes view old r old (reading form old.bytes old.at)
others_refused_answer form rest view old fork after n e r same number none is is_e behind refused =
    let p = err_from_is_err_and r is in
    let read = subst (λ q. number_at w32 q.bytes q.at ≡ Ok (n, after.at)) same number.0 in
    let bytes : after.bytes ≡ old.bytes = number.1 ∙ ap (λ q. q.bytes) same in
    let inner = subst (λ b. reading rest b after.at ≡ Err e) bytes refused in
    let all = past_arms form n old.bytes old.at after.at read none (Err e) (behind old.bytes old.at read inner) ∙ ap (λ f. Err f) (is_e p.0 p.2) in
    subst (λ s. Decodes view old s old (reading form old.bytes old.at)) (sym p.1) (all, refl)

pub others_read_answer : {X : Type 0} (form rest : Form) (view : X → Value form) (old fork after final : Place) (n : ℕ) (x : X) (v : Value rest) (w : Value (behind_form form))
    → fork ≡ old → (number_at w32 fork.bytes fork.at ≡ Ok (n, after.at)) × (after.bytes ≡ fork.bytes) → has_arm n form ≡ false → final.bytes ≡ after.bytes
    → ((bytes : List ℕ) (at : ℕ) → number_at w32 bytes at ≡ Ok (n, after.at) → reading rest bytes after.at ≡ Ok (v, final.at) → reading (behind_form form) bytes at ≡ Ok (w, final.at))
    → reading rest after.bytes after.at ≡ Ok (v, final.at) → view x ≡ behind_arms form w → Decodes view old (Ok x) final (reading form old.bytes old.at)
others_read_answer form rest view old fork after final n x v w same number none end_bytes behind body is =
    let read = subst (λ q. number_at w32 q.bytes q.at ≡ Ok (n, after.at)) same number.0 in
    let bytes : after.bytes ≡ old.bytes = number.1 ∙ ap (λ q. q.bytes) same in
    let inner = subst (λ b. reading rest b after.at ≡ Ok (v, final.at)) bytes body in
    (past_arms form n old.bytes old.at after.at read none (Ok (w, final.at)) (behind old.bytes old.at read inner) ∙ ap (λ u. Ok (u, final.at)) (sym is), end_bytes ∙ bytes)
