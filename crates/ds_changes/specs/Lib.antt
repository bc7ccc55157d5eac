pub mod Joined
pub mod Spans
pub mod HeldRanges
pub mod Changes
pub mod Logging
