pub mod Disks
pub mod MemoryDisks
pub mod Crashes
