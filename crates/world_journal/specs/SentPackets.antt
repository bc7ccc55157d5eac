-- The packets that a machine sends.
use Rattle.std.specs.Prelude.{ℕ, ◌+◌, List, [], ◌∷◌}
use Rattle.cluster_model.specs.declared.ids.NodeId.{NodeId}
use Rattle.cluster_model.specs.declared.entry.Entry.{Entry}
use Rattle.cluster_model.specs.declared.entry.Entry.TheVariants.{Packet}

-- Each record that a machine sends becomes a packet, in order, with the next number.
abbrev pub packets_of : NodeId → ℕ → List (NodeId × List ℕ) → List Entry
packets_of from sent [] = []
packets_of from sent ((to, bytes) ∷ rest) = Packet (sent + 1) from to bytes ∷ packets_of from (sent + 1) rest
