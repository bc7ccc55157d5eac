use Rattle.std.proofs.Common.{Ok, Err, arith}
use Rattle.gate_log.proofs.ReadyLemmas.{as_ready, ready_sync, ready_write, same_ready, then_sync}
use Rattle.gate_log.proofs.appending.make_ready.Goals as goal

pub returns-in_err-size-clause-crash : goal.returns-in_err-size-clause-crash
returns-in_err-size-clause-crash g c =
    let old = g.D.Disk.told c.args.disk.now in let synced = g.D.Disk.told c.sync.new.self in
    same_ready old synced _ c.in_err-size.ensures.same (ready_sync old (Ok c.in_ok-sync.field-0) synced c.in_ok-sync.ensures.told)

pub returns-then-size-gt1-clause-crash : goal.returns-then-size-gt1-clause-crash
returns-then-size-gt1-clause-crash g c =
    let old = g.D.Disk.told c.args.disk.now in let synced = g.D.Disk.told c.sync.new.self in
    same_ready old synced _ c.in_ok-size.ensures.same (ready_sync old (Ok c.in_ok-sync.field-0) synced c.in_ok-sync.ensures.told)

pub returns-in_err-write_at-clause-crash : goal.returns-in_err-write_at-clause-crash
returns-in_err-write_at-clause-crash g c =
    as_ready _ _ (ready_write (g.D.Disk.told c.args.disk.now) (g.D.Disk.told c.sync.new.self) (g.D.Disk.told c.length.new.self) c.in_ok-sync.field-0 c.in_ok-size.size (Err c.in_err-write_at.field-0.0) (g.D.Disk.told c.write_at.new.self)
    c.in_ok-sync.ensures.told c.in_ok-size.ensures.told c.in_ok-size.ensures.same (omega arith) c.in_err-write_at.ensures.told)

pub returns-in_err-sync-2-clause-crash : goal.returns-in_err-sync-2-clause-crash
returns-in_err-sync-2-clause-crash g c =
    then_sync (g.D.Disk.told c.args.disk.now) (g.D.Disk.told c.write_at.new.self) (Err c.in_err-sync-2.field-0.0) (g.D.Disk.told c.sync-2.new.self)
    (ready_write (g.D.Disk.told c.args.disk.now) (g.D.Disk.told c.sync.new.self) (g.D.Disk.told c.length.new.self) c.in_ok-sync.field-0 c.in_ok-size.size (Ok c.in_ok-write_at.field-0) (g.D.Disk.told c.write_at.new.self)
    c.in_ok-sync.ensures.told c.in_ok-size.ensures.told c.in_ok-size.ensures.same (omega arith) c.in_ok-write_at.ensures.told)
    c.in_err-sync-2.ensures.told

pub returns-clause-crash : goal.returns-clause-crash
returns-clause-crash g c =
    then_sync (g.D.Disk.told c.args.disk.now) (g.D.Disk.told c.write_at.new.self) (Ok c.in_ok-sync-2.field-0) (g.D.Disk.told c.sync-2.new.self)
    (ready_write (g.D.Disk.told c.args.disk.now) (g.D.Disk.told c.sync.new.self) (g.D.Disk.told c.length.new.self) c.in_ok-sync.field-0 c.in_ok-size.size (Ok c.in_ok-write_at.field-0) (g.D.Disk.told c.write_at.new.self)
    c.in_ok-sync.ensures.told c.in_ok-size.ensures.told c.in_ok-size.ensures.same (omega arith) c.in_ok-write_at.ensures.told)
    c.in_ok-sync-2.ensures.told
