use Rattle.std.proofs.Common.{◌∙◌, subst, sym}
use Rattle.rpc_record.specs.declared.stream.Failed.TheVariants as failed
use Rattle.cluster_model.specs.declared.tick.Tick.{Tick}
use Rattle.ds_store.specs.Reading.{SaysBoot}
use Rattle.ds_store.proofs.Booting.{logs_not, logs_renewed, logs_appended}
use Rattle.ds_store.proofs.opening.log_boot.Goals as goal

pub returns-then-is_of_none-clause-logs : goal.returns-then-is_of_none-clause-logs
returns-then-is_of_none-clause-logs g c = λ said has starts.
    logs_renewed said c.args.log.now (g.D.Disk.told c.args.disk.now) (g.D.Disk.told c.args.spare.now) has c.args.server.now starts c.renew.result c.renew.new.log (g.D.Disk.told c.renew.new.disk) (g.D.Disk.told c.renew.new.spare)
    (c.renew.ensures.renews has.says has.stands)

pub returns-in_default-clause-logs : goal.returns-in_default-clause-logs
returns-in_default-clause-logs g c = λ said has starts. logs_not said c.args.log.now (g.D.Disk.told c.args.disk.now) (g.D.Disk.told c.args.spare.now) has c.args.server.now starts failed.NoMemory

pub returns-clause-logs : goal.returns-clause-logs
returns-clause-logs g c = λ said has starts.
    logs_appended said c.args.log.now (g.D.Disk.told c.args.disk.now) (g.D.Disk.told c.args.spare.now) has c.args.server.now starts c.append.result c.append.new.self (g.D.Disk.told c.append.new.disk) (g.D.Disk.told c.append.new.spare)
    (sym c.is_of_none.ensures ∙ c.if-is_of_none.false) c.in-Ok.record (subst (λ (t : Tick). SaysBoot t.boot c.in-Ok.record) c.clock.ensures c.in-Ok.ensures) c.append.ensures.appends
