use Rattle.std.proofs.Common.{Err, ap, ◌∙◌}
use Rattle.std.proofs.lemmas.Result.{err_from_is_err_and}
use Rattle.cluster_world.proofs.Comings.{part_past}
use Rattle.cluster_world.proofs.stage.Stage.act.Goals as goal

pub returns-in_err-act : goal.returns-in_err-act
returns-in_err-act c =
    let p = err_from_is_err_and c.from_residual.result c.from_residual.ensures.1 in
    part_past c.args.self.now c.args.node c.args.out.entries.items c.args.out.sends.items c.draft-draft.result c.in_err-act.field-0.0 c.from_residual.result (p.1 ∙ ap Err p.2) c.draft-draft.ensures c.in_err-act.ensures.limit
