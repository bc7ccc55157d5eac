use Rattle.std.proofs.Common.{length, ◌-◌, ◌≡◌, ◌≤◌}
use Rattle.gate_log.specs.Heads.{HasFilled}
use Rattle.gate_log.proofs.reading.read_front.Given as goal

-- The first bytes are read, and nothing else has changed.
abbrev pub invariant-loop-done : goal.invariant-loop-done
invariant-loop-done g l =
    record {
      filled : HasFilled (g.D.Disk.told l.disk) l.at l.piece l.done;
      within : l.done ≤ length l.piece;
      same : g.D.Disk.told l.disk ≡ g.D.Disk.told l.fn.disk;
      faults : g.D.Disk.faults l.disk ≡ g.D.Disk.faults l.fn.disk;
      long : length l.piece ≡ length l.fn.piece;
    }

abbrev pub decreases-loop-done : goal.decreases-loop-done
decreases-loop-done g l = length l.initial.piece - l.done
