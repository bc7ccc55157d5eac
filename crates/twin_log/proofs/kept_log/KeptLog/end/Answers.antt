use Rattle.std.proofs.Common.{Ok, Err, refl}
use Rattle.std.proofs.lemmas.Result.{err_from_is_err_and}
use Rattle.twin_log.proofs.Sides.{end_fails, end_done, next_fits, is_some}
use Rattle.twin_log.proofs.kept_log.KeptLog.end.Goals as goal

pub returns-in_err-seal_on-clause-ends : goal.returns-in_err-seal_on-clause-ends
returns-in_err-seal_on-clause-ends g c =
    let p = err_from_is_err_and c.from_residual.result c.from_residual.ensures.1 in
    let seals = rw (c.other-target.ensures) at c.in_err-seal_on.ensures.seals in
    let fits = next_fits c.self.inside.generation (c.self.invariant.room (is_some c.self.inside.renewed c.in-Some.at c.in-Some.is)) in
    rw (← c.self.view_is) (λ says put renews.
    end_fails _ says put (g.D.Disk.told c.args.disk.now) (g.D.Disk.told c.args.spare.now) renews c.in-Some.at c.in-Some.is fits (Err c.in_err-seal_on.field-0.0) (g.D.Disk.told c.seal_on.new.disk) (g.D.Disk.told c.seal_on.new.spare) seals
    c.from_residual.result p.0 p.1 _)

pub returns-clause-ends : goal.returns-clause-ends
returns-clause-ends g c =
    let seals = rw (c.other-target.ensures) at c.in_ok-seal_on.ensures.seals in
    let fits = next_fits c.self.inside.generation (c.self.invariant.room (is_some c.self.inside.renewed c.in-Some.at c.in-Some.is)) in
    rw (← c.self.view_is, c.other-target.ensures, c.generation_behind.ensures) (λ says put renews.
    end_done _ says put (g.D.Disk.told c.args.disk.now) (g.D.Disk.told c.args.spare.now) renews c.in-Some.at c.in-Some.is fits (Ok c.in_ok-seal_on.field-0) (g.D.Disk.told c.seal_on.new.disk) (g.D.Disk.told c.seal_on.new.spare) seals
    c.in_ok-seal_on.field-0 refl tt)
