pub mod Joins
pub mod LineData
pub mod Reading
pub mod Distinct
pub mod CountLemmas
