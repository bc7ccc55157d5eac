use Rattle.std.proofs.lemmas.Result.{err_from_is_err_and}
use Rattle.gate_log.proofs.ClearLemmas.{closes_sync, closes_write, is_open}
use Rattle.gate_log.proofs.staging.close_first.Goals as goal

pub returns-in_err-write_at-clause-closes : goal.returns-in_err-write_at-clause-closes
returns-in_err-write_at-clause-closes g c =
    let p = err_from_is_err_and c.from_residual-in_err-write_at.result c.from_residual-in_err-write_at.ensures.1 in
    let writes = rw (c.in_ok-is_to_close.ensures.same) at c.in_err-write_at.ensures.told in
    closes_write (g.D.Disk.told c.args.disk.now) c.from_residual-in_err-write_at.result c.in_err-write_at.field-0.0 p.0 (g.D.Disk.told c.write_at.new.self)
    (is_open (g.D.Disk.told c.args.disk.now) c.in_ok-is_to_close.field-0 c.in_ok-is_to_close.ensures.looks (cc (c.if-not-branch.false))) p.1 writes

pub returns-clause-closes : goal.returns-clause-closes
returns-clause-closes g c =
    let writes = rw (c.in_ok-is_to_close.ensures.same) at c.in_ok-write_at.ensures.told in
    closes_sync (g.D.Disk.told c.args.disk.now) c.in_ok-write_at.field-0 (g.D.Disk.told c.write_at.new.self) c.sync.result (g.D.Disk.told c.sync.new.self)
    (is_open (g.D.Disk.told c.args.disk.now) c.in_ok-is_to_close.field-0 c.in_ok-is_to_close.ensures.looks (cc (c.if-not-branch.false))) writes c.sync.ensures.told
