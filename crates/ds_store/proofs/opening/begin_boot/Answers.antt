use Rattle.ds_store.proofs.Booting.{boots_not, boots_since}
use Rattle.ds_store.proofs.opening.begin_boot.Goals as goal

pub returns-then-boot-clause-crash : goal.returns-then-boot-clause-crash
returns-then-boot-clause-crash g c = λ has. boots_not c.args.said c.args.log (g.D.Disk.told c.args.disk.now) (g.D.Disk.told c.args.spare.now) has

pub returns-in_err-log_boot-clause-crash : goal.returns-in_err-log_boot-clause-crash
returns-in_err-log_boot-clause-crash g c = λ has.
    boots_since c.args.said c.args.log (g.D.Disk.told c.args.disk.now) (g.D.Disk.told c.args.spare.now) has c.start-server.result c.start-server.ensures.started c.log_boot.result c.log_boot.new.log
    (g.D.Disk.told c.log_boot.new.disk) (g.D.Disk.told c.log_boot.new.spare) (c.log_boot.ensures.logs c.args.said has c.start-server.ensures.started)

pub returns-clause-crash : goal.returns-clause-crash
returns-clause-crash g c = λ has.
    boots_since c.args.said c.args.log (g.D.Disk.told c.args.disk.now) (g.D.Disk.told c.args.spare.now) has c.start-server.result c.start-server.ensures.started c.log_boot.result c.log_boot.new.log
    (g.D.Disk.told c.log_boot.new.disk) (g.D.Disk.told c.log_boot.new.spare) (c.log_boot.ensures.logs c.args.said has c.start-server.ensures.started)
