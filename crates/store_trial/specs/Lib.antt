pub mod Trials
pub mod Stages
