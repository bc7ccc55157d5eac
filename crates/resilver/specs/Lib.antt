pub mod Calls
pub mod Sends
pub mod CopyLaws
