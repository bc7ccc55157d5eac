pub mod Lines
pub mod Writing
pub mod Runs
pub mod Tasks
pub mod Playback
pub mod Leads
