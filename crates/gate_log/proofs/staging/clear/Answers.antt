use Rattle.std.proofs.lemmas.Result.{err_from_is_err_and}
use Rattle.gate_log.proofs.ClearLemmas.{clears, clears_in_part}
use Rattle.gate_log.proofs.staging.clear.Goals as goal

pub returns-in_err-cut-clause-clears : goal.returns-in_err-cut-clause-clears
returns-in_err-cut-clause-clears g c =
    let p = err_from_is_err_and c.from_residual-in_err-cut.result c.from_residual-in_err-cut.ensures.1 in
    clears_in_part (g.D.Disk.told c.args.disk.now) c.in_ok-close_first.field-0 (g.D.Disk.told c.close_first.new.disk) c.from_residual-in_err-cut.result p.0 c.in_err-cut.field-0.0 (g.D.Disk.told c.cut.new.self)
    c.in_ok-close_first.ensures.closes c.in_err-cut.ensures.told p.1

pub returns-clause-clears : goal.returns-clause-clears
returns-clause-clears g c =
    clears (g.D.Disk.told c.args.disk.now) c.in_ok-close_first.field-0 (g.D.Disk.told c.close_first.new.disk) c.in_ok-cut.field-0 (g.D.Disk.told c.cut.new.self) c.sync.result (g.D.Disk.told c.sync.new.self)
    c.in_ok-close_first.ensures.closes c.in_ok-cut.ensures.told c.sync.ensures.told
