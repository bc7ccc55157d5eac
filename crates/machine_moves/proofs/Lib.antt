pub mod Going
pub mod Packets
pub mod Bound
pub mod Numbers
