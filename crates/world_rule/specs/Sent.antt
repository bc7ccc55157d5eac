-- The packets of a journal: what was sent, in order, and which of it came.
use Rattle.std.specs.Prelude.{ℕ, ◌+◌, List, [], ◌∷◌, Option, Some, None, slice_get}
use Rattle.cluster_model.specs.declared.ids.NodeId.{NodeId}
use Rattle.cluster_model.specs.declared.entry.Entry.{Entry}
use Rattle.cluster_model.specs.declared.entry.Entry.TheVariants.{Packet, Delivered}
use Rattle.packet_table.specs.Packets.{PacketsValue, with_packet, after_coming}

-- what an entry says of packets: one was sent, which stands at this place of the journal, or one came
abbrev pub noting : PacketsValue → ℕ → Entry → PacketsValue
noting p place (Packet number from to bytes) = with_packet from to place p
noting p place (Delivered number) = after_coming number p
noting p place e = p

-- entries that stand from this place on
abbrev pub noting_all : PacketsValue → ℕ → List Entry → PacketsValue
noting_all p place [] = p
noting_all p place (e ∷ entries) = noting_all (noting p place e) (place + 1) entries

-- all packets of a journal, and the pairs between which they are held
abbrev pub packets_in : List Entry → List (NodeId × NodeId) → PacketsValue
packets_in journal held = noting_all (record { notes = []; held = held }) 0 journal

-- the bytes of the packet that stands at a place of the journal
abbrev pub bytes_of_packet : Option Entry → List ℕ
bytes_of_packet (Some (Packet number from to bytes)) = bytes
bytes_of_packet (Some e) = []
bytes_of_packet None = []

abbrev pub bytes_at_place : List Entry → ℕ → List ℕ
bytes_at_place journal place = bytes_of_packet (slice_get journal place)
