use Rattle.twin_log.specs.GateLogs.{GateLogState}
use Rattle.twin_log.proofs.Joining.{reads_by}
use Rattle.twin_log.proofs.on_disks.GateLog.body.Goals as goal

pub returns-clause-reads : goal.returns-clause-reads
returns-clause-reads g c =
    let told = g.D.Disk.told in
    let faults = g.D.Disk.faults in
    let before = c.self.inside.parts in
    let after = c.read_from-went.new.parts in
    let old : GateLogState = record { log = before.log; disk = told before.disk; spare = told before.spare; disk_faults = faults before.disk; spare_faults = faults before.spare; spent = c.self.inside.spent } in
    let new : GateLogState = record { log = after.log; disk = told after.disk; spare = told after.spare; disk_faults = faults after.disk; spare_faults = faults after.spare; spent = c.settle_reading.new.spent } in
    rw (← c.self.view_is) (λ generation start done rest stands at.
    reads_by start done rest old new c.read_from-went.new.into.items _ c.read_from-went.result c.settle_reading.result c.settle_reading.ensures.answer c.read_from-went.ensures.failed c.read_from-went.ensures.faults
    (c.read_from-went.ensures.reads generation start done rest stands at))
