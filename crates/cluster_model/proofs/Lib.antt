pub mod Placing
pub mod Files
pub mod Moments
pub mod MirrorLists
pub mod Elements
pub mod Servers
pub mod ServerRestarts
pub mod Permitted
pub mod Runs
mod MirrorSteps
mod GuardLemmas
mod CallGuards
