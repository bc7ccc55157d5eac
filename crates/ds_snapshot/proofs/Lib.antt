pub mod Chunks
pub mod Playing
pub mod Left
pub mod Sizing
pub mod Written
