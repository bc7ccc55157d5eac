pub mod Users
pub mod Puts
pub mod Gets
pub mod Copies
