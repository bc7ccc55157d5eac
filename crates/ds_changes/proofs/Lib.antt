pub mod Covering
pub mod Sizes
pub mod Keeping
pub mod Lasting
pub mod Spanning
pub mod Joins
pub mod BodySizes
pub mod StepBodies
