pub mod LiveWithin
pub mod WithinRuns
pub mod EndPlaces
pub mod EndsReturned
