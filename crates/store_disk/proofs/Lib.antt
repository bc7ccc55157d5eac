pub mod Placed
pub mod Leaving
pub mod Images
pub mod CrashLemmas
