pub mod CoveredRecords
pub mod HolderParts
pub mod HeldOwners
