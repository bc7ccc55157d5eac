use Rattle.store_trial.proofs.Trying.{opened_number}
use Rattle.store_trial.proofs.trial.Trial.open.Goals as goal

pub invariant_of-result : goal.invariant_of-result
invariant_of-result c =
    let starts = c.in-Ok.ensures.opened in
    (c.in-Ok.ensures.fresh, opened_number c.args.number c.args.disk.life.now.seen c.args.spare.life.now.seen starts.said c.in-Ok.server.server starts.log starts.started, c.in-Ok.ensures.stands c.in-Ok.ensures.fresh)
