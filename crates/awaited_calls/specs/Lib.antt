pub mod KeptCalls
pub mod Awaited
