pub mod CoveredWrites
