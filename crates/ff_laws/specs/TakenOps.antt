-- What the steps through a compound's operations say.
use Rattle.std.specs.Prelude.{◌≡◌, Bool, true, false, List, [], ◌∷◌, Option, Some, None}
use Rattle.ff_xdr.specs.Form.{Value}
use Rattle.nfs4_compound.specs.declared.stop.Stop.{Stop}
use Rattle.nfs4_compound.specs.declared.stop.Stop.TheVariants as stop
use Rattle.nfs4_compound.specs.declared.op.Op.{Op}
use Rattle.nfs4_compound.specs.Args.{argop4, op_value}
use Rattle.nfs4_compound.specs.Operations.{OpList}

-- The first operation, and the others are left; or none is read.
abbrev pub TakesOp : OpList argop4 → Option Op → OpList argop4 → Type 0
TakesOp old (Some op) new = (old.values ≡ op_value op ∷ new.values) × (new.stop ≡ old.stop)
TakesOp old None new = old.values ≡ []

-- no operation is left, and no byte
abbrev pub is_all_read : List (Value argop4) → Stop → Bool
is_all_read [] (stop.End None) = true
is_all_read values end = false
