pub mod Snapshots
pub mod NextBodies
pub mod Sizes
