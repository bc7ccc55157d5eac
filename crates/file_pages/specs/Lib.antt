pub mod Pages
pub mod Parts
pub mod Places
pub mod Steps
