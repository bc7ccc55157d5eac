use Rattle.std.proofs.Common.{sym, ap, ◌∙◌}
use Rattle.nfs4_compound.specs.Args.{argop4, op_value}
use Rattle.nfs4_compound.specs.Operations.{OpList}
use Rattle.mds_compounds.proofs.WalkLemmas.{on_ok}
use Rattle.mds_compounds.proofs.BeginLemmas.{begins_so}
use Rattle.mds_compounds.proofs.begin.run_compound.Goals as goal

pub returns-in-Op : goal.returns-in-Op
returns-in-Op c =
    let rest = c.next.new.self in
    let v = c.args.compound.now in
    on_ok c.begin_with.result c.begin_with.ensures
    (begins_so c.args.now c.args.state.now c.begin_with.new.state c.args.node c.args.xid c.count.result v (op_value c.in-Op.op) rest.values c.tag.result.now rest.stop c.new.result c.args.out.now c.begin_with.new.out
    (sym (ap (λ (o : OpList argop4). o.values) c.ops.ensures) ∙ c.in-Op.ensures.0) c.tag.ensures (c.in-Op.ensures.1 ∙ ap (λ (o : OpList argop4). o.stop) c.ops.ensures) c.new.ensures c.count.ensures)
