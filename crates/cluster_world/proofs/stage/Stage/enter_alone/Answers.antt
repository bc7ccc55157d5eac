use Rattle.std.proofs.Common.{Err, ap, ◌∙◌}
use Rattle.std.proofs.lemmas.Result.{err_from_is_err_and}
use Rattle.cluster_world.proofs.Comings.{entry_past}
use Rattle.cluster_world.proofs.stage.Stage.enter_alone.Goals as goal

pub returns-in_err-enter : goal.returns-in_err-enter
returns-in_err-enter c =
    let p = err_from_is_err_and c.from_residual.result c.from_residual.ensures.1 in
    entry_past c.args.self.now c.args.entry c.draft-draft.result c.in_err-enter.field-0.0 c.from_residual.result (p.1 ∙ ap Err p.2) c.draft-draft.ensures c.in_err-enter.ensures.limit
