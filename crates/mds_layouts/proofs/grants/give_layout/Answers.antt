use Rattle.std.proofs.Common.{ap, ◌∙◌, List}
use Rattle.cluster_model.specs.declared.ids.Cred.{Cred}
use Rattle.cluster_model.specs.declared.ids.Mirror.{Mirror}
use Rattle.granted_layouts.specs.GrantedBodies.{layout_body}
use Rattle.mds_layouts.proofs.GivenResults.{gives_as, layout_result_as}
use Rattle.mds_layouts.proofs.grants.give_layout.Goals as goal

pub returns-clause-run : goal.returns-clause-run
returns-clause-run c =
    let layout = c.args.layout in
    let spelled =
    c.bytes.ensures
    ∙ c.in_ok-body.ensures.exact
    ∙ ap (λ (k : Cred). layout_body k.0 c.live.result) c.cred.ensures
    ∙ ap (λ (l : List Mirror). layout_body layout.cred.0 l) c.live.ensures
    in
    gives_as c.give.result c.args.run.now c.give.new.self _ _
    (layout_result_as c.args.stateid _ _ c.bytes.result.now layout.cred.0 layout.live c.layout_result.ensures.value c.whole_layout.ensures.value spelled) c.give.ensures.goes c.give.ensures.run
