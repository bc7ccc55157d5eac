pub mod OpLemmas
pub mod StepLemmas
mod Devices
mod ClientNotes
mod Numbers
mod ServerLists
mod Turns
