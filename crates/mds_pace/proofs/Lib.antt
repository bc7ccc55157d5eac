pub mod Taken
pub mod Calling
pub mod Still
pub mod OpsFrom
pub mod Heard
pub mod Paces
pub mod RunNumbers
