pub mod Recalls
pub mod Calls
pub mod Entries
pub mod RecallLaws
