pub mod Script
pub mod Player
pub mod Ending
