-- A body is read again from its spelling.
use Rattle.std.proofs.Common.{◌≡◌, ℕ, ◌+◌, Bool, false, ltb, List, [], ◌∷◌, length, Option, Some, Result, Ok, refl, sym, ap, subst, ◌∙◌, arith, append-nil, map}
use Rattle.std.specs.Prelude.{IsTrue, IfOk}
use Rattle.std.proofs.lemmas.Bool.{le-ltb}
use Rattle.ff_xdr.specs.declared.error.NoMemory.{NoMemory}
use Rattle.ff_xdr.specs.Form.{Form, Value, Fits, is_sound, spelling}
use Rattle.ff_xdr.specs.Reading.{Read, reading, whole}
use Rattle.ff_xdr.proofs.Again.{again}
use Rattle.cluster_model.specs.Content.{Pending}
use Rattle.cluster_model.specs.Server.{ServerState}
use Rattle.ds_log.specs.declared.body.LogBody.{LogBody}
use Rattle.ds_log.specs.PlainBodies.{plain_body}
use Rattle.ds_log.specs.Durable.{applied, applied_as}
use Rattle.ds_log.specs.Applies.{CameTo, Applies}
use Rattle.ds_log.specs.Bodies.{Logged, Boots, Creates, SetsAttributes, HoldsBytes, HoldsFile, HoldsRoot, range_value, range_from, body_form, body_value, body_from, body_read, body_in}

-- ---- a value that is all the bytes

whole_all : {M : Type 0} (bytes : List ℕ) (x : M × ℕ) (r : Read M) → r ≡ Ok x → x.1 ≡ length bytes → whole bytes r ≡ Ok x.0
whole_all bytes x r is end =
    let left : ltb x.1 (length bytes) ≡ false = le-ltb _ _ (omega (arith, end)) in
    rw is (rw left refl)

whole_spelled : (form : Form) → IsTrue (is_sound form) → (v : Value form) → Fits form v → whole (spelling form v) (reading form (spelling form v) 0) ≡ Ok v
whole_spelled form sound v fits =
    let text = spelling form v in
    let size : 0 + length text ≡ length text = omega arith in
    let read : reading form text 0 ≡ Ok (v, 0 + length text) = subst (λ (t : List ℕ). reading form t 0 ≡ Ok (v, 0 + length text)) (append-nil text) (again form sound v [] [] fits) in
    whole_all text (v, 0 + length text) (reading form text 0) read size

-- ---- a value is of its body

plain_again : (ws : List Pending) → map range_from (map range_value ws) ≡ ws
plain_again [] = refl
plain_again (w ∷ ws) = ap (λ (more : List Pending). w ∷ more) (plain_again ws)

pub body_of_value : (b : Logged) → body_from (body_value b) ≡ b
body_of_value (Boots boot) = refl
body_of_value (Creates name fileid owner group mode tick) = refl
body_of_value (SetsAttributes fileid owner group mode times) = refl
body_of_value (HoldsBytes fileid mtime ctime ranges) = ap (λ (ws : List Pending). HoldsBytes fileid mtime ctime ws) (plain_again ranges)
body_of_value (HoldsFile name fileid owner group mode times) = refl
body_of_value (HoldsRoot times) = refl

-- ---- the law

-- A body that has a spelling is read from it.
pub body_again : (b : Logged) → Fits body_form (body_value b) → body_in (spelling body_form (body_value b)) ≡ Some b
body_again b fits = ap body_read (whole_spelled body_form refl (body_value b) fits) ∙ ap (λ (x : Logged). Some x) (body_of_value b)

-- ---- what is read is applied

pub read_is : (bytes : List ℕ) (b : LogBody) → whole bytes (reading body_form bytes 0) ≡ Ok (body_value (plain_body b)) → body_in bytes ≡ Some (plain_body b)
read_is bytes b read = ap body_read read ∙ ap (λ (x : Logged). Some x) (body_of_value (plain_body b))

pub read_applies : (old new : ServerState) (bytes : List ℕ) (b : LogBody) (result : Result Bool NoMemory) → whole bytes (reading body_form bytes 0) ≡ Ok (body_value (plain_body b))
    → IfOk result (λ fits. CameTo (applied old (plain_body b)) old fits new) → IfOk result (λ fits. Applies old bytes fits new)
read_applies old new bytes b result read came = subst (λ (o : Option Logged). IfOk result (λ fits. CameTo (applied_as old o) old fits new)) (sym (read_is bytes b read)) came
