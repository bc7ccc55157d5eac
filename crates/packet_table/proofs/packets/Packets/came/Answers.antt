use Rattle.std.proofs.Common.{List, subst, sym}
use Rattle.packet_table.specs.declared.note.PacketNote.{PacketNote}
use Rattle.packet_table.specs.PacketLines.{AreFound}
use Rattle.packet_table.proofs.FoundPackets.{came_found}
use Rattle.packet_table.proofs.packets.Packets.came.Goals as goal

pub invariant_of-self : goal.invariant_of-self
invariant_of-self c =
    let p = c.self.inside in
    subst (λ (notes : List PacketNote). AreFound notes p.held.items p.lines.entries p.low) (sym c.mark_came.ensures) (came_found p.notes.items p.held.items p.lines.entries p.low c.args.number c.self.invariant)
