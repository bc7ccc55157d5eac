mod Lists
pub mod Holding
mod Whole
pub mod Having
pub mod Turns
pub mod Sources
pub mod Standing
mod Steps
pub mod Folds
mod Telling
mod Flat
mod Laws
pub mod Joining
mod OnePeriod
mod RunsSound
