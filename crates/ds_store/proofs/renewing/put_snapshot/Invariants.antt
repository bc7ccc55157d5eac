use Rattle.std.proofs.Common.{◌≡◌, ◌≢◌, [], None, length}
use Rattle.twin_log.specs.Twins.{TwinLog}
use Rattle.twin_log.specs.KeptLogs.{RenewsTwin}
use Rattle.twin_log.specs.LogCalls.{TellAsBefore}
use Rattle.ds_log.specs.Durable.{durable}
use Rattle.ds_snapshot.specs.NextBodies.{bodies_from}
use Rattle.ds_store.proofs.Snapshots.{PutsPart}
use Rattle.ds_store.proofs.renewing.put_snapshot.Given as goal

-- Some bodies were put, and nothing else has changed.
abbrev pub invariant-loop-next : goal.invariant-loop-next
invariant-loop-next g l = record {
  same : l.log ≡ record l.fn.log { renewed = l.log.renewed };
  renews : l.log.renewed ≢ None;
  tells : TellAsBefore (g.D.Disk.told l.fn.disk) (g.D.Disk.told l.fn.spare) (g.D.Disk.told l.disk) (g.D.Disk.told l.spare);
  faults : g.D.Disk.faults l.disk ≡ g.D.Disk.faults l.fn.disk;
  spare_faults : g.D.Disk.faults l.spare ≡ g.D.Disk.faults l.fn.spare;
  puts : (says : TwinLog) → RenewsTwin l.fn.log says [] (g.D.Disk.told l.fn.disk) (g.D.Disk.told l.fn.spare) → PutsPart l.server l.fn.log (g.D.Disk.told l.fn.disk) (g.D.Disk.told l.fn.spare) says l.snapshot l.log (g.D.Disk.told l.disk) (g.D.Disk.told l.spare);
}

abbrev pub decreases-loop-next : goal.decreases-loop-next
decreases-loop-next g l = length (bodies_from l.snapshot (durable l.server))
