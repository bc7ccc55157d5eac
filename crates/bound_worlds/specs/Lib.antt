pub mod MatchedPackets
pub mod BoundWorlds
