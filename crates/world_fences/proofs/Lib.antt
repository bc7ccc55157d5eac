pub mod GrantsOfRuns
pub mod GrantsOfWorlds
pub mod RefusedCalls
pub mod AnsweredRecords
pub mod HeardRefusals
