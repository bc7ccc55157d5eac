pub mod Kept
pub mod Visits
