pub mod Bodies
pub mod PlainRanges
pub mod PlainBodies
pub mod Durable
pub mod Steady
pub mod Lasting
pub mod Applies
pub mod NewFiles
