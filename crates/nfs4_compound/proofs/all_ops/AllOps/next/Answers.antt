use Rattle.std.proofs.Common.{◌≡◌, ◌<◌, Ok, sym, subst, arith}
use Rattle.ff_xdr.specs.Reading.{reading}
use Rattle.nfs4_compound.specs.declared.stop.NextOp.TheVariants as next
use Rattle.nfs4_compound.specs.AllOps.{nfs_argop4, any_op_value}
use Rattle.nfs4_compound.specs.Operations.{GivesNext}
use Rattle.nfs4_compound.proofs.Steps.{gives_op, gives_unread, gives_bad, gives_end}
use Rattle.nfs4_compound.proofs.all_ops.AllOps.next.Goals as goal
use Rattle.nfs4_compound.proofs.all_ops.AllOps.next.Goals.{in-Some, in-None}

pub returns-then-self-eq0 : goal.returns-then-self-eq0
returns-then-self-eq0 c =
    let o = c.self.inside in
    subst (λ v. GivesNext nfs_argop4 any_op_value v next.End v) c.self.view_is (gives_end nfs_argop4 any_op_value o.left o.bytes.now o.at c.if-self-eq0.true)

pub returns-in-Ok : goal.returns-in-Ok
returns-in-Ok c =
    let o = c.self.inside in
    let some : 0 < o.left = omega (arith, c.if-self-eq0.false) in
    let read = rw c.at-cursor.ensures at c.in-Ok.ensures.0 in
    let there = subst (λ to. reading nfs_argop4 o.bytes.now o.at ≡ Ok (any_op_value c.in-Ok.op, to)) (sym c.place-self-inside.ensures.place) read in
    rw (← c.self.view_is) (gives_op nfs_argop4 any_op_value o.left o.bytes.now o.at c.in-Ok.op c.place-self-inside.result some there)

pub returns-after-unbuilt_op : goal.returns-after-unbuilt_op
returns-after-unbuilt_op c =
    let o = c.self.inside in
    let some : 0 < o.left = omega (arith, c.if-self-eq0.false) in
    let read = rw c.at-cursor.ensures at c.in-Err.ensures.0 in
    elim c.match-unbuilt_op.branch [
      | in-Some w ↦
          rw w.result-is (subst (λ v. GivesNext nfs_argop4 any_op_value v (next.Unread w.in-Some.number) v) c.self.view_is
          (gives_unread nfs_argop4 any_op_value o.left o.bytes.now o.at c.in-Err.error w.in-Some.number some read w.in-Some.ensures))
      | in-None w ↦
          rw w.result-is (subst (λ v. GivesNext nfs_argop4 any_op_value v (next.Bad c.in-Err.error) v) c.self.view_is
          (gives_bad nfs_argop4 any_op_value o.left o.bytes.now o.at c.in-Err.error some read w.in-None.ensures))
    ]
