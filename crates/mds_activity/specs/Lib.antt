pub mod Activities
pub mod FileCalls
pub mod Targets
