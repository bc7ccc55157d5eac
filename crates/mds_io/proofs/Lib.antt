pub mod ReadWaits
mod Ended
mod Named
mod ReadSteps
mod ReadRuns
mod OwnSteps
mod OwnRuns
