pub mod Lengths
pub mod Noted
pub mod Comings
pub mod Deliveries
pub mod Ticks
