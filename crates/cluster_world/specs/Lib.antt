pub mod Drafts
pub mod WorldSteps
