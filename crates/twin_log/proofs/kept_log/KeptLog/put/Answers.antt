use Rattle.std.proofs.Common.{◌≤◌, Ok, refl, arith}
use Rattle.twin_log.proofs.Sides.{put_done}
use Rattle.twin_log.proofs.kept_log.KeptLog.put.Goals as goal

pub returns-clause-puts : goal.returns-clause-puts
returns-clause-puts g c =
    let stages = rw (c.other.ensures) at c.in_ok-at.ensures.stages in
    let higher : c.in-Some.at ≤ c.in_ok-at.at = omega (arith, c.in_ok-at.ensures.end.0) in
    rw (← c.self.view_is) (λ says put renews.
    put_done _ says put (g.D.Disk.told c.args.disk.now) (g.D.Disk.told c.args.spare.now) renews c.in-Some.at c.in-Some.is c.args.body.now (Ok c.in_ok-at.at) (g.D.Disk.told c.stage_on.new.disk) (g.D.Disk.told c.stage_on.new.spare) stages
    c.in_ok-at.at refl higher tt)
