mod Holders
mod Heads
pub mod Files
mod Openings
pub mod Sides
mod ReadOn
mod Joining
