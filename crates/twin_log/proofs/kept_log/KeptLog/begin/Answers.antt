use Rattle.std.proofs.Common.{Ok, Err, refl, ap, ◌∙◌}
use Rattle.std.proofs.lemmas.Result.{err_from_is_err_and}
use Rattle.twin_log.specs.Twins.{generation_body}
use Rattle.twin_log.proofs.Sides.{begin_fails, begin_done}
use Rattle.twin_log.proofs.kept_log.KeptLog.begin.Goals as goal

pub returns-in_err-at-clause-begins : goal.returns-in_err-at-clause-begins
returns-in_err-at-clause-begins g c =
    let p = err_from_is_err_and c.from_residual-in_err-at.result c.from_residual-in_err-at.ensures.1 in
    let clears = rw (c.other.ensures) at c.in_ok-clear_on.ensures.clears in
    let stages = rw (c.other-2.ensures) at c.in_err-at.ensures.stages in
    rw (← c.self.view_is) (λ says stands.
    begin_fails _ says (g.D.Disk.told c.args.disk.now) (g.D.Disk.told c.args.spare.now) stands c.in_ok-clear_on.field-0 (g.D.Disk.told c.clear_on.new.disk) (g.D.Disk.told c.clear_on.new.spare) clears
    c.in-Ok.record (Err c.in_err-at.field-0.0) (g.D.Disk.told c.stage_on.new.disk) (g.D.Disk.told c.stage_on.new.spare) stages c.from_residual-in_err-at.result p.0 p.1 _)

pub returns-clause-begins : goal.returns-clause-begins
returns-clause-begins g c =
    let clears = rw (c.other.ensures) at c.in_ok-clear_on.ensures.clears in
    let stages = rw (c.other-2.ensures) at c.in_ok-at.ensures.stages in
    rw (← c.self.view_is) (λ says stands.
    begin_done _ says (g.D.Disk.told c.args.disk.now) (g.D.Disk.told c.args.spare.now) stands c.in_ok-clear_on.field-0 (g.D.Disk.told c.clear_on.new.disk) (g.D.Disk.told c.clear_on.new.spare) clears
    c.in-Ok.record (Ok c.in_ok-at.at) (g.D.Disk.told c.stage_on.new.disk) (g.D.Disk.told c.stage_on.new.spare) stages c.in_ok-at.at refl (c.in-Ok.ensures ∙ ap generation_body c.generation_behind.ensures) tt)
