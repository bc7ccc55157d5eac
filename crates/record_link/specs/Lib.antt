pub mod Stream
pub mod Messages
pub mod Connection
pub mod Kept
pub mod Memory
pub mod Peers
