pub mod Pace
pub mod Going
