-- All operations that are read, those that are carried out and the others, and what is carried out of a list of them (RFC 8881, section
-- 16.2.3).
use Rattle.std.specs.Prelude.{ℕ, List, [], ◌∷◌, ◌⊎◌}
use Rattle.std.proofs.Common.{inl, inr}
use Rattle.ff_xdr.specs.Form.{Form, Value, arm_of}
use Rattle.nfs4_unserved_ops.specs.Args.{unserved_argop4, unserved_op_value}
use Rattle.nfs4_compound.specs.declared.any_op.AnyOp.{AnyOp}
use Rattle.nfs4_compound.specs.declared.any_op.AnyOp.TheVariants.{Served, Unserved}
use Rattle.nfs4_compound.specs.declared.stop.Stop.{Stop}
use Rattle.nfs4_compound.specs.declared.stop.Stop.TheVariants as stop
use Rattle.nfs4_compound.specs.Args.{argop4, op_value}
use Rattle.nfs4_compound.specs.Joined.{joined, ahead, behind, side_of}
use Rattle.nfs4_compound.specs.Operations.{OpList, operations}

-- nfs_argop4
abbrev pub nfs_argop4 : Form
nfs_argop4 = joined argop4 unserved_argop4

abbrev pub any_op_value : AnyOp → Value nfs_argop4
any_op_value (Served op) = ahead argop4 unserved_argop4 (op_value op)
any_op_value (Unserved op) = behind argop4 unserved_argop4 tt (unserved_op_value op)

-- Operations are carried out up to the first that is not: where that stands none is read, as where one stands that is not built.
abbrev pub served_first : Value argop4 ⊎ Value unserved_argop4 → OpList argop4 → OpList argop4
served_first (inl op) others = record { values = op ∷ others.values; stop = others.stop }
served_first (inr op) others = record { values = []; stop = stop.Unread (arm_of unserved_argop4 op) }

abbrev pub served_of : List (Value nfs_argop4) → Stop → OpList argop4
served_of [] s = record { values = []; stop = s }
served_of (op ∷ ops) s = served_first (side_of argop4 unserved_argop4 op) (served_of ops s)

abbrev pub served_list : OpList nfs_argop4 → OpList argop4
served_list all = served_of all.values all.stop

-- so many operations from a place on, as far as they are carried out
abbrev pub served_ops : ℕ → List ℕ → ℕ → OpList argop4
served_ops count bytes at = served_list (operations nfs_argop4 count bytes at)
