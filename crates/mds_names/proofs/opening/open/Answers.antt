use Rattle.std.proofs.Common.{subst}
use Rattle.mds_refusals.specs.declared.open.Creation.{Creation}
use Rattle.mds_rule.specs.MdsStates.{file_named}
use Rattle.mds_rule.specs.FileOps.{open_named}
use Rattle.compound_run.specs.CompoundRuns.{HasOperated}
use Rattle.mds_names.proofs.opening.open.Goals as goal

pub returns-clause-op : goal.returns-clause-op
returns-clause-op c out =
    let m = c.args.state.now in
    let a = c.args.args.now in
    let name = a.claim.body.bytes.now in
    subst (λ (k : Creation). HasOperated (open_named m c.args.run.now a.share_access k name (file_named m name)) out c.open_named.result c.open_named.new.state c.open_named.new.run out) c.creation_in-creation.ensures (c.open_named.ensures.op out)
