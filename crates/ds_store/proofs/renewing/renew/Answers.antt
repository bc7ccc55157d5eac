use Rattle.std.proofs.lemmas.Result.{err_from_is_err_and}
use Rattle.ds_store.proofs.Snapshots.{renews, snapshot_fails}
use Rattle.ds_store.proofs.renewing.renew.Goals as goal

pub returns-in_err-put_snapshot-clause-renews : goal.returns-in_err-put_snapshot-clause-renews
returns-in_err-put_snapshot-clause-renews g c = λ says stands.
    let p = err_from_is_err_and c.from_residual-in_err-put_snapshot.result c.from_residual-in_err-put_snapshot.ensures.1 in
    snapshot_fails c.args.server.now c.requires.steady c.requires.booted c.args.log.now (g.D.Disk.told c.args.disk.now) (g.D.Disk.told c.args.spare.now) says stands
    c.begin.result c.begin.new.self (g.D.Disk.told c.begin.new.disk) (g.D.Disk.told c.begin.new.spare) c.begin.ensures.begins c.in_ok-begin.field-0 c.in_ok-begin.was c.begin.ensures.keeps
    c.put_snapshot.result c.put_snapshot.new.log (g.D.Disk.told c.put_snapshot.new.disk) (g.D.Disk.told c.put_snapshot.new.spare) c.put_snapshot.ensures.puts
    c.from_residual-in_err-put_snapshot.result p.0 p.1 c.put_snapshot.new.log

pub returns-clause-renews : goal.returns-clause-renews
returns-clause-renews g c = λ says stands.
    renews c.args.server.now c.requires.steady c.requires.booted c.args.log.now (g.D.Disk.told c.args.disk.now) (g.D.Disk.told c.args.spare.now) says stands
    c.begin.result c.begin.new.self (g.D.Disk.told c.begin.new.disk) (g.D.Disk.told c.begin.new.spare) c.begin.ensures.begins c.in_ok-begin.field-0 c.in_ok-begin.was c.begin.ensures.keeps
    c.put_snapshot.result c.put_snapshot.new.log (g.D.Disk.told c.put_snapshot.new.disk) (g.D.Disk.told c.put_snapshot.new.spare) c.put_snapshot.ensures.puts
    c.in_ok-put_snapshot.field-0 c.in_ok-put_snapshot.was c.put_snapshot.ensures.keeps
    c.end.result c.end.new.self (g.D.Disk.told c.end.new.disk) (g.D.Disk.told c.end.new.spare) c.end.ensures.ends c.end.ensures.renewed
