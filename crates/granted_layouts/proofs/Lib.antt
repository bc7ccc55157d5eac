pub mod LayoutSizes
pub mod DeviceSizes
pub mod Bodies
