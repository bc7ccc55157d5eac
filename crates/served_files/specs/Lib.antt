pub mod Waiting
pub mod Sending
pub mod FileSteps
pub mod Quiet
pub mod Tickets
