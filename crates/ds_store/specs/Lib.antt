pub mod Kept
pub mod Renewals
pub mod Opens
pub mod Reading
pub mod Stores
