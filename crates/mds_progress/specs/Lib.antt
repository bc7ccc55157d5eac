pub mod FirstOut
pub mod TickLaw
