use Rattle.std.proofs.lemmas.Result.{err_from_is_err_and}
use Rattle.ds_store.proofs.Waiting.{takes_not}
use Rattle.ds_store.proofs.kept.KeptServer.stage_call.Goals as goal

pub returns-in_err-decision-clause-waits : goal.returns-in_err-decision-clause-waits
returns-in_err-decision-clause-waits g c = λ settled began began_spare w.
    let p = err_from_is_err_and c.from_residual.result c.from_residual.ensures.1 in
    takes_not settled c.args.self.now began began_spare (g.D.Disk.told c.args.disk.now) (g.D.Disk.told c.args.spare.now) c.from_residual.result p.0 _ p.1 w
