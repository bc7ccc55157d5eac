pub mod Node
pub mod Run
