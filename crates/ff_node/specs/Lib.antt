pub mod Config
pub mod Nodes
pub mod Serve
