use Rattle.std.proofs.Common.{◌≡◌, ◌-◌}
use Rattle.ds_store.proofs.Readings.{PlayedLog}
use Rattle.ds_store.proofs.opening.read_log.Given as goal

-- Bodies were read, and nothing else has changed.
abbrev pub invariant-loop-body : goal.invariant-loop-body
invariant-loop-body g l = record {
  told : g.D.Disk.told l.disk ≡ g.D.Disk.told l.fn.disk;
  told_spare : g.D.Disk.told l.spare ≡ g.D.Disk.told l.fn.spare;
  faults : g.D.Disk.faults l.disk ≡ g.D.Disk.faults l.fn.disk;
  faults_spare : g.D.Disk.faults l.spare ≡ g.D.Disk.faults l.fn.spare;
  played : PlayedLog l.number l.fn.log (g.D.Disk.told l.fn.disk) (g.D.Disk.told l.fn.spare) l.log l.said;
}

abbrev pub decreases-loop-body : goal.decreases-loop-body
decreases-loop-body g l = l.log.size - l.log.next
