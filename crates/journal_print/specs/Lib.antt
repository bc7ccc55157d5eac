pub mod Brief
pub mod Counts
pub mod Shown
