use Rattle.std.proofs.Common.{subst, ◌≡◌}
use Rattle.mds_rule.specs.MdsStates.{CompoundRun}
use Rattle.mds_rule.specs.OpSteps.{with_result}
use Rattle.mds_rule.specs.FileOps.{open_result}
use Rattle.compound_run.specs.CompoundRuns.{OnGoes}
use Rattle.mds_state.specs.contracts.state.State as state
use Rattle.mds_names.proofs.OpenLemmas.{opened_by, opened_so}
use Rattle.mds_names.proofs.opening.open_file.Goals as goal

pub returns-clause-op : goal.returns-clause-op
returns-clause-op c out =
    let m = state.the_view c.state.inside in
    rw (← c.state.view_is)
    (opened_so m c.args.run.now c.give_open.new.run c.args.client c.args.file c.in-Ok.open c.open.new.self c.give_open.result out c.requires.whose
    (opened_by m.opens c.args.client c.args.file c.open.result c.open.new.self c.in-Ok.open c.open.ensures c.in-Ok.is)
    (subst (λ (r : CompoundRun). OnGoes c.give_open.result (c.give_open.new.run ≡ with_result r (open_result c.in-Ok.open))) c.go_to.ensures c.give_open.ensures.run))
