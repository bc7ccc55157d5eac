use Rattle.std.proofs.Common.{◌≡◌, ◌+◌, ◌++◌, length}
use Rattle.std.specs.Vec.Iter.{into_iter_items}
use Rattle.world_journal.specs.SentPackets.{packets_of}
use Rattle.world_journal.proofs.packets.push_packets.Given as goal

abbrev pub invariant-loop-to : goal.invariant-loop-to
invariant-loop-to l = record {
  number : l.number + length (into_iter_items l.to-iterator) ≡ l.fn.sent + length l.fn.sends.items;
  entries : l.entries.items ++ packets_of l.from l.number (into_iter_items l.to-iterator) ≡ l.fn.entries.items ++ packets_of l.from l.fn.sent l.fn.sends.items;
}
