-- What a run of the machine that goes on comes to.
use Rattle.std.specs.Prelude.{◌≡◌, ℕ, Some, slice_get}
use Rattle.cluster_laws.specs.Machine.{PacketValue, Machine}

-- each packet that was sent stays where it is
abbrev pub KeepsPackets : Machine → Machine → Type 0
KeepsPackets m n = (place : ℕ) (packet : PacketValue) → slice_get m.packets place ≡ Some packet → slice_get n.packets place ≡ Some packet
