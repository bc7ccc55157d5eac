pub mod Universal
pub mod NetText
pub mod Version
pub mod Device
pub mod Table
pub mod Laws
