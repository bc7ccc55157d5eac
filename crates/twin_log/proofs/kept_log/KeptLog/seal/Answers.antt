use Rattle.std.proofs.Common.{Ok, Err, refl}
use Rattle.std.proofs.lemmas.Result.{err_from_is_err_and}
use Rattle.twin_log.proofs.Sides.{seal_none, seal_fails, seal_ends}
use Rattle.twin_log.proofs.kept_log.KeptLog.seal.Goals as goal

pub returns-then-self-clause-seals : goal.returns-then-self-clause-seals
returns-then-self-clause-seals g c =
    rw (← c.self.view_is) (λ generation start bodies staged waits some.
    seal_none _ generation start bodies staged (g.D.Disk.told c.args.disk.now) (g.D.Disk.told c.args.spare.now) waits some c.if-self.true)

pub returns-in_err-seal_on-clause-seals : goal.returns-in_err-seal_on-clause-seals
returns-in_err-seal_on-clause-seals g c =
    let p = err_from_is_err_and c.from_residual.result c.from_residual.ensures.1 in
    rw (← c.self.view_is) (λ generation start bodies staged waits some.
    seal_fails _ generation start bodies staged (g.D.Disk.told c.args.disk.now) (g.D.Disk.told c.args.spare.now) waits (Err c.in_err-seal_on.field-0.0) (g.D.Disk.told c.seal_on.new.disk) (g.D.Disk.told c.seal_on.new.spare)
    c.in_err-seal_on.ensures.seals c.from_residual.result p.0 p.1 _)

pub returns-clause-seals : goal.returns-clause-seals
returns-clause-seals g c =
    rw (← c.self.view_is) (λ generation start bodies staged waits some.
    seal_ends _ generation start bodies staged (g.D.Disk.told c.args.disk.now) (g.D.Disk.told c.args.spare.now) waits (Ok c.in_ok-seal_on.field-0) (g.D.Disk.told c.seal_on.new.disk) (g.D.Disk.told c.seal_on.new.spare)
    c.in_ok-seal_on.ensures.seals c.in_ok-seal_on.field-0 refl)
