-- The operations of a compound, step by step.
use Rattle.std.proofs.Common.{◌≡◌, ℕ, zero, suc, ◌-◌, ◌<◌, Bool, true, false, cond, List, [], Some, None, Ok, Err, refl, sym, ap, ◌∙◌, arith}
use Rattle.ff_xdr.specs.declared.error.XdrError.{XdrError}
use Rattle.ff_xdr.specs.Form.{Form, Value}
use Rattle.std.specs.Int.{w32}
use Rattle.ff_xdr.specs.Reading.{Read, number_at, reading}
use Rattle.ff_xdr.specs.Unbuilt.{is_unbuilt}
use Rattle.nfs4_compound.specs.declared.stop.Stop.{Stop}
use Rattle.nfs4_compound.specs.declared.stop.Stop.TheVariants as stop
use Rattle.nfs4_compound.specs.declared.stop.NextOp.TheVariants as next
use Rattle.nfs4_compound.specs.Operations.{OpList, left_at, number_of_read, stop_at, stop_by, with_first, operations, GivesNext, rest_now}

-- one operation, and the others
one_more : (form : Form) (n : ℕ) (bytes : List ℕ) (at : ℕ) → 0 < n
    → operations form n bytes at ≡ with_first (reading form bytes at) (λ e. stop_at form bytes at e) (λ to. operations form (n - 1) bytes to)
one_more form zero bytes at some = absurd (omega (arith, some))
one_more form (suc m) bytes at some =
    let less : suc m - 1 ≡ m = omega arith in
    rw less refl

-- an operation was read
pub gives_op : {O : Type 0} (form : Form) (view : O → Value form) (n : ℕ) (bytes : List ℕ) (at : ℕ) (op : O) (to : ℕ) → 0 < n
    → reading form bytes at ≡ Ok (view op, to) → GivesNext form view (operations form n bytes at) (next.Op op) (operations form (n - 1) bytes to)
gives_op form view n bytes at op to some read =
    let step = one_more form n bytes at some in
    let all = step ∙ ap (λ r. with_first r (λ e. stop_at form bytes at e) (λ place. operations form (n - 1) bytes place)) read in
    (ap (λ l. l.values) all, sym (ap (λ l. l.stop) all))

-- none was
stopped : (form : Form) (n : ℕ) (bytes : List ℕ) (at : ℕ) (e : XdrError) (s : Stop) → 0 < n → reading form bytes at ≡ Err e → stop_at form bytes at e ≡ s
    → operations form n bytes at ≡ record { values = []; stop = s }
stopped form n bytes at e s some read is =
    one_more form n bytes at some ∙ ap (λ r. with_first r (λ f. stop_at form bytes at f) (λ place. operations form (n - 1) bytes place)) read
    ∙ ap (λ t. record { values = []; stop = t }) is

pub gives_unread : {O : Type 0} (form : Form) (view : O → Value form) (n : ℕ) (bytes : List ℕ) (at : ℕ) (e : XdrError) (number : ℕ) → 0 < n
    → reading form bytes at ≡ Err e → stop_at form bytes at e ≡ stop_by e (Some number)
    → GivesNext form view (operations form n bytes at) (next.Unread number) (operations form n bytes at)
gives_unread form view n bytes at e number some read is =
    let all = stopped form n bytes at e (stop.Unread number) some read is in
    (ap (λ l. l.values) all, ap (λ l. l.stop) all, refl)

pub gives_bad : {O : Type 0} (form : Form) (view : O → Value form) (n : ℕ) (bytes : List ℕ) (at : ℕ) (e : XdrError) → 0 < n
    → reading form bytes at ≡ Err e → stop_at form bytes at e ≡ stop_by e None
    → GivesNext form view (operations form n bytes at) (next.Bad e) (operations form n bytes at)
gives_bad form view n bytes at e some read is =
    let all = stopped form n bytes at e (stop.Bad e) some read is in
    (ap (λ l. l.values) all, ap (λ l. l.stop) all, refl)

-- all were read
pub gives_end : {O : Type 0} (form : Form) (view : O → Value form) (n : ℕ) (bytes : List ℕ) (at : ℕ) → n ≡ 0
    → GivesNext form view (operations form n bytes at) next.End (operations form n bytes at)
gives_end form view n bytes at none =
    let all = ap (λ k. operations form k bytes at) none in
    (ap (λ l. l.values) all, (left_at bytes at, ap (λ l. l.stop) all), refl)

-- what is left behind the operations: where none is to come what is left of the bytes, else none is known
pub rest_at_end : (form : Form) (n : ℕ) (bytes : List ℕ) (at : ℕ) → n ≡ 0 → rest_now (operations form n bytes at).values (operations form n bytes at).stop ≡ left_at bytes at
rest_at_end form n bytes at none = ap (λ k. rest_now (operations form k bytes at).values (operations form k bytes at).stop) none

no_rest : {form : Form} (read : Read (Value form)) (unbuilt : Bool) (number : ℕ) (others : ℕ → OpList form)
    → rest_now (with_first read (λ e. cond unbuilt (stop.Unread number) (stop.Bad e)) others).values (with_first read (λ e. cond unbuilt (stop.Unread number) (stop.Bad e)) others).stop ≡ None
no_rest (Ok v) unbuilt number others = refl
no_rest (Err e) true number others = refl
no_rest (Err e) false number others = refl

pub rest_before : (form : Form) (n : ℕ) (bytes : List ℕ) (at : ℕ) → 0 < n → rest_now (operations form n bytes at).values (operations form n bytes at).stop ≡ None
rest_before form n bytes at some =
    ap (λ (l : OpList form). rest_now l.values l.stop) (one_more form n bytes at some)
    ∙ no_rest (reading form bytes at) (is_unbuilt form bytes at) (number_of_read (number_at w32 bytes at)) (λ to. operations form (n - 1) bytes to)
