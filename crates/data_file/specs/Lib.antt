pub mod Kept
pub mod Paged
