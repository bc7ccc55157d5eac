pub mod GrantSteps
pub mod Holdings
pub mod SettledSteps
pub mod Owning
pub mod OwningCases
pub mod HeldNow
