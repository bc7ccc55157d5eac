pub mod Reads
pub mod Calls
pub mod ReadLaws
pub mod OwnWrites
pub mod OwnWriteLaws
