pub mod Packets
pub mod PacketLines
