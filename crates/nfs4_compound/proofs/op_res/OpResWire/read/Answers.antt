use Rattle.std.proofs.Common.{refl, sym}
use Rattle.nfs4_unserved_ops.specs.Results.{unserved_resop4, unserved_res_value}
use Rattle.nfs4_compound.specs.declared.op_res.OpRes.TheVariants as res
use Rattle.nfs4_compound.specs.Results.{served_resop4, resop4, op_res_value}
use Rattle.nfs4_compound.proofs.Unions.{refused_answer, read_answer}
use Rattle.nfs4_compound.proofs.JoinedUnions.{arm_ahead, tail_read, tail_refused}
use Rattle.nfs4_compound.proofs.op_res.OpResWire.read.Goals as goal

pub returns-in_err-read : goal.returns-in_err-read
returns-in_err-read c =
    tail_refused served_resop4 unserved_resop4 tt op_res_value c.args.cursor.now c.fork-fork.result c.number32.new.self c.read.new.cursor c.in_ok-number.number c.in_err-read.field-0.0
    c.from_residual-in_err-read.result c.fork-fork.ensures c.in_ok-number.ensures (sym c.if-not-is_built_op.ensures) c.in_err-read.ensures c.from_residual-in_err-read.ensures.1 (λ y q. sym q)

pub returns-then-not-is_built_op : goal.returns-then-not-is_built_op
returns-then-not-is_built_op c =
    tail_read served_resop4 unserved_resop4 tt op_res_value c.args.cursor.now c.fork-fork.result c.number32.new.self c.read.new.cursor c.in_ok-number.number
    (res.Unserved c.in_ok-read.field-0) (unserved_res_value c.in_ok-read.field-0) c.fork-fork.ensures c.in_ok-number.ensures (sym c.if-not-is_built_op.ensures) c.in_ok-read.ensures refl

pub returns-in_err-result : goal.returns-in_err-result
returns-in_err-result c =
    let built = arm_ahead served_resop4 unserved_resop4 c.in_ok-number.number (sym c.if-not-is_built_op.ensures) in
    refused_answer resop4 op_res_value c.args.cursor.now c.fork-fork.result c.number32.new.self c.in_ok-number.number c.in_err-result.field-0.0
    c.from_residual-in_err-result.result c.fork-fork.ensures c.in_ok-number.ensures built c.from_residual-in_err-result.ensures.1 (λ y q. sym q)
    c.in_err-result.ensures.0

pub returns : goal.returns
returns c =
    let built = arm_ahead served_resop4 unserved_resop4 c.in_ok-number.number (sym c.if-not-is_built_op.ensures) in
    read_answer resop4 op_res_value c.args.cursor.now c.fork-fork.result c.number32.new.self c.read_op_result.new.cursor c.in_ok-number.number c.in_ok-result.result
    c.fork-fork.ensures c.in_ok-number.ensures built c.in_ok-result.ensures
