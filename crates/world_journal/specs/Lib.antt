pub mod Journal
pub mod SentPackets
