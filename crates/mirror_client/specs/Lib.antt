pub mod ClientRule
pub mod ClientRuns
pub mod WorkedClient
pub mod WorkedWays
pub mod ClientSteps
