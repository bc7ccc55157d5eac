use Rattle.std.proofs.Common.{List, subst, sym}
use Rattle.cluster_model.specs.declared.ids.NodeId.{NodeId}
use Rattle.packet_table.specs.PacketLines.{AreFound}
use Rattle.packet_table.proofs.FoundPackets.{held_found}
use Rattle.packet_table.proofs.packets.Packets.hold.Goals as goal

pub invariant_of-self-2 : goal.invariant_of-self-2
invariant_of-self-2 c =
    let p = c.self.inside in
    subst (λ (held : List (NodeId × NodeId)). AreFound p.notes.items held p.lines.entries p.low) (sym c.in_ok-push.ensures.items) (held_found p.notes.items p.held.items p.lines.entries p.low (c.args.from, c.args.to) c.self.invariant)
