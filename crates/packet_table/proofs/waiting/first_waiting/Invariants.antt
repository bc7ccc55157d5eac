use Rattle.std.proofs.Common.{length, ◌-◌, ◌≤◌}
use Rattle.std.specs.List.{position_or_len}
use Rattle.packet_table.specs.Packets.{waits}
use Rattle.packet_table.proofs.waiting.first_waiting.Given as goal

abbrev pub invariant-loop-place : goal.invariant-loop-place
invariant-loop-place l = l.place ≤ position_or_len (waits l.held) l.notes

abbrev pub decreases-loop-place : goal.decreases-loop-place
decreases-loop-place l = length l.notes - l.place
