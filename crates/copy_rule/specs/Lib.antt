pub mod Copies
pub mod WorkedCopies
