use Rattle.std.proofs.Common.{refl, sym}
use Rattle.nfs4_unserved_ops.specs.Args.{unserved_argop4, unserved_op_value}
use Rattle.nfs4_compound.specs.declared.any_op.AnyOp.TheVariants.{Served, Unserved}
use Rattle.nfs4_compound.specs.Args.{argop4, op_value}
use Rattle.nfs4_compound.specs.AllOps.{any_op_value}
use Rattle.nfs4_compound.proofs.JoinedUnions.{front_read, front_refused, tail_read, tail_refused}
use Rattle.nfs4_compound.proofs.any_op.AnyOpWire.read.Goals as goal

pub returns-in_err-read : goal.returns-in_err-read
returns-in_err-read c =
    front_refused argop4 unserved_argop4 any_op_value c.args.cursor.now c.fork.result c.number32.new.self c.read.new.cursor c.in_ok-number.number c.in_err-read.field-0.0
    c.from_residual-in_err-read.result c.fork.ensures c.in_ok-number.ensures (sym c.if-is_built_op.ensures) c.in_err-read.ensures c.from_residual-in_err-read.ensures.1 (λ y q. sym q)

pub returns-then-is_built_op : goal.returns-then-is_built_op
returns-then-is_built_op c =
    front_read argop4 unserved_argop4 any_op_value c.args.cursor.now c.fork.result c.number32.new.self c.read.new.cursor c.in_ok-number.number (Served c.in_ok-read.field-0)
    (op_value c.in_ok-read.field-0) c.fork.ensures c.in_ok-number.ensures (sym c.if-is_built_op.ensures) c.in_ok-read.ensures refl
