use Rattle.twin_log.proofs.Sides.{sync_crash}
use Rattle.twin_log.proofs.kept_log.sync_both.Goals as goal

pub returns-clause-crash : goal.returns-clause-crash
returns-clause-crash g c = sync_crash (g.D.Disk.told c.args.disk.now) _ (g.D.Disk.told c.sync.new.self) c.in_ok-sync.ensures.told

pub returns-clause-crash_spare : goal.returns-clause-crash_spare
returns-clause-crash_spare g c = sync_crash (g.D.Disk.told c.args.spare.now) _ (g.D.Disk.told c.sync-2.new.self) c.sync-2.ensures.told
