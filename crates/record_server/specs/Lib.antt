pub mod Network
pub mod Server
pub mod History
pub mod Fairness
pub mod Memory
