pub mod Records
pub mod Entries
pub mod Lawful
pub mod Broken
pub mod FirstDeliveries
pub mod Comings
pub mod ServedReads
