pub mod GoesEach
pub mod GoesKept
pub mod GoesOwn
pub mod GoesQuiet
pub mod GoesReads
pub mod GoesRecalls
