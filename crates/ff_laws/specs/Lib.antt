pub mod ReadCalls
pub mod TakenOps
pub mod ReadLaw
pub mod WorkedRecords
pub mod WorkedReads
