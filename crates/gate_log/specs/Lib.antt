pub mod Logs
pub mod Appends
pub mod Bodies
pub mod Heads
pub mod Staging
