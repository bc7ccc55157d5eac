use Rattle.std.proofs.Common.{◌≡◌, ◌-◌, ◌≤◌}
use Rattle.gate_log.proofs.EndLemmas.{ReadsTo}
use Rattle.gate_log.proofs.staging.find_end.Given as goal

-- Heads were read, and nothing has changed.
abbrev pub invariant-loop-length : goal.invariant-loop-length
invariant-loop-length g l = record {
  within : l.at ≤ l.size;
  told : g.D.Disk.told l.disk ≡ g.D.Disk.told l.fn.disk;
  faults : g.D.Disk.faults l.disk ≡ g.D.Disk.faults l.fn.disk;
  reads : ReadsTo (g.D.Disk.told l.disk) l.size l.at;
}

abbrev pub decreases-loop-length : goal.decreases-loop-length
decreases-loop-length g l = l.size - l.at
