pub mod Lists
pub mod Parts
pub mod Keeping
pub mod Requested
pub mod Served
pub mod LateFound
pub mod LayoutHolders
pub mod FewBytes
mod ReadEnds
pub mod ServedWalk
pub mod OpsWalk
pub mod CompoundWalk
mod AnswerWalk
pub mod GoesWalk
pub mod EventWalk
pub mod TableKept
