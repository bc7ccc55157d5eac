use Rattle.std.proofs.Common.{◌-◌, ◌≤◌, length}
use Rattle.packet_table.specs.PacketLines.{IsKnown}
use Rattle.packet_table.proofs.line.PacketLine.front_among.Given as goal

abbrev pub invariant-loop-front : goal.invariant-loop-front
invariant-loop-front l = (l.self.front ≤ l.front) × IsKnown l.notes l.self.numbers l.front

abbrev pub decreases-loop-front : goal.decreases-loop-front
decreases-loop-front l = length l.self.numbers - l.front
