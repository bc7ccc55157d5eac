pub mod ReceivedSo
pub mod TagWithin
pub mod WholeCompounds
