pub mod DsNodes
pub mod Standing
